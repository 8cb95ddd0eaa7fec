use Rattle.std.proofs.Common.{◌∙◌, sym}
use Rattle.p10_elabd.specs.Views.{told}
use Rattle.p10_elabd.proofs.TreeRows.{cut_enumerators}
use Rattle.p10_elabd.proofs.Walks.{step_enumerators}
use Rattle.p10_elabd.proofs.enumerations.enumerators_passed.Goals as goal

pub loop-one-preserved : goal.loop-one-preserved
loop-one-preserved c =
    let cut = cut_enumerators c.args.all.now c.loop-one.one-index c.one-item.result c.loop-one-test.true c.one-item.is in
    sym (step_enumerators (told c.loop-one.next c.loop-one.standing) _ _ _ _ cut c.in_ok-next.ensures) ∙ c.loop-one.invariant
