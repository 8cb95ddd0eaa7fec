-- What is known of roots that are taken together.
use Rattle.std.specs.Prelude.{List}
use Rattle.p10_base.specs.declared.at.At.{At}
use Rattle.p10_syn.specs.Trees.{External}
use Rattle.p10_elabx.specs.First.{only_first}
use Rattle.p10_heads.specs.Heads.{Heads}
use Rattle.p10_linkage.specs.Between.{taken_together}
use Rattle.p10_elab.specs.Knowledge.{Known, with_standing}
use Rattle.p10_elab.specs.RootEnds.{nothing_known, roots_passed}

-- what is known of roots, with what stands where they are taken together
abbrev pub known_together : Heads → List (List (External At)) → Known
known_together heads roots =
    let k : Known = roots_passed only_first heads nothing_known roots in
    with_standing k (taken_together only_first heads k.linked k.standing)
