use Rattle.std.proofs.Common.{sym, ◌∙◌, ap, option_map, option_copied}
use Rattle.p10_core.specs.Types.{plain_type}
use Rattle.p10_core.specs.Views.{plain_object}
use Rattle.p10_whole.proofs.Naming.{object_shown}
use Rattle.p10_whole.proofs.named.is_object.Goals as goal

pub returns-in-Some : goal.returns-in-Some
returns-in-Some c =
    object_shown c.args.around.now c.args.number (plain_type c.args.t.now) (plain_object c.in-Some.object.now) c.are_compatible.result
    (sym (ap (λ r. option_map plain_object (option_copied r)) c.in-Some.is) ∙ c.object_at.ensures) c.are_compatible.ensures
