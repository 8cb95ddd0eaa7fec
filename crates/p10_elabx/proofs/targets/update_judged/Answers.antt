use Rattle.std.proofs.Common.{ap, ◌∙◌}
use Rattle.p10_core.specs.Views.{plain_types}
use Rattle.p10_elabx.specs.First.{only_first}
use Rattle.p10_elabx.specs.Judging.{update_judged}
use Rattle.p10_elabx.specs.Built.{judged_value}
use Rattle.p10_elabx.specs.private.Updating.{read_updated}
use Rattle.p10_elabx.proofs.targets.update_judged.Goals as goal

pub returns : goal.returns
unfolding update_judged
returns c =
    c.in_ok-form.ensures ∙ ap (λ t. read_updated only_first (plain_types c.args.types.now) c.args.at c.args.op t (judged_value c.args.value)) c.with_read-target.ensures
