-- Roots change what stands by steps alone.
use Rattle.std.specs.Prelude.{List}
use Rattle.p10_base.specs.declared.at.At.{At}
use Rattle.p10_syn.specs.Trees.{External}
use Rattle.p10_elabx.specs.First.{Keep}
use Rattle.p10_heads.specs.Heads.{Heads}
use Rattle.p10_elab.specs.Knowledge.{Known}
use Rattle.p10_elab.specs.RootEnds.{known_after, roots_passed}
use Rattle.p10_root_steps.specs.Steps.{RootSteps}

-- they take such steps, whichever rows hold in them
pub record RootsTakeSteps : Type 0 where
  pub externals : (h : Keep) (heads : Heads) (k : Known) (e : External At) → RootSteps h k.standing (known_after h heads k e).standing
  pub roots : (h : Keep) (heads : Heads) (k : Known) (roots : List (List (External At))) → RootSteps h k.standing (roots_passed h heads k roots).standing
