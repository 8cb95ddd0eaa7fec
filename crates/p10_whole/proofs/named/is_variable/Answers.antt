use Rattle.std.proofs.Common.{sym, ◌∙◌, ap, option_map, option_copied}
use Rattle.p10_core.specs.Types.{plain_type}
use Rattle.p10_core.specs.Views.{plain_variable}
use Rattle.p10_whole.proofs.Naming.{variable_shown}
use Rattle.p10_whole.proofs.named.is_variable.Goals as goal

pub returns-in-Some : goal.returns-in-Some
returns-in-Some c =
    variable_shown c.args.around.now c.args.number (plain_type c.args.t.now) (plain_variable c.in-Some.variable.now) c.is_in_scope.result c.are_same.result
    (sym (ap (λ r. option_map plain_variable (option_copied r)) c.in-Some.is) ∙ c.variable_at.ensures) c.is_in_scope.ensures c.are_same.ensures
