-- Structures that are built stay so.
use Rattle.p10_base.specs.declared.at.At.{At}
use Rattle.p10_syn.specs.Trees.{External}
use Rattle.p10_core.specs.Completing.{AreBuilt}
use Rattle.p10_elabx.specs.First.{Keep}
use Rattle.p10_heads.specs.Heads.{Heads}
use Rattle.p10_elab.specs.Knowledge.{Known}
use Rattle.p10_elab.specs.RootEnds.{known_after}

-- over a declaration or function outside of functions
abbrev pub ExternalsStayBuilt : Type 0
ExternalsStayBuilt = (h : Keep) (heads : Heads) (k : Known) (e : External At) → AreBuilt k.standing.scope.structures → AreBuilt (known_after h heads k e).standing.scope.structures
