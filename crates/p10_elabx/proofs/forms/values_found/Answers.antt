use Rattle.std.proofs.Common.{ap, ◌∙◌}
use Rattle.p10_core.specs.Views.{plain_value}
use Rattle.p10_elabx.specs.Built.{ruled_value}
use Rattle.p10_elabx.specs.Judging.{valued}
use Rattle.p10_elabx.proofs.Seen.{both_found, both_refused, values}
use Rattle.p10_elabx.proofs.forms.values_found.Goals as goal

pub returns-in_ok-found-in-Ok : goal.returns-in_ok-found-in-Ok
returns-in_ok-found-in-Ok c =
    both_found plain_value plain_value ruled_value ruled_value values values c.args.a c.args.b c.in-Ok.parts _ _ c.in-Ok.ensures (c.valued.ensures ∙ ap valued c.in_ok-found-in-Ok.ensures)

pub returns-in-Err : goal.returns-in-Err
returns-in-Err c = both_refused plain_value plain_value ruled_value ruled_value values values c.args.a c.args.b c.in-Err.r _ c.in-Err.ensures
