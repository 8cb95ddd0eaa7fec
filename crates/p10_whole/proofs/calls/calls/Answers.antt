use Rattle.std.proofs.Common.{sym, ◌∙◌, ap, option_map, option_copied}
use Rattle.std.proofs.lemmas.Bool.{eqb-true}
use Rattle.p10_core.specs.Types.{plain_type}
use Rattle.p10_core.specs.Views.{plain_function, plain_values}
use Rattle.p10_whole.proofs.Calling.{calls_shown}
use Rattle.p10_whole.proofs.calls.calls.Goals as goal

pub returns-in-Some : goal.returns-in-Some
returns-in-Some c =
    calls_shown c.args.around.now (plain_type c.args.t.now) c.args.number (plain_values c.args.arguments.now) (plain_function c.in-Some.function.now) c.fits_parameters.result c.are_compatible.result c.is_unmarked.result
    (λ e. c.if-number-around.false (eqb-true c.args.number c.args.around.now.program.now.main e))
    (sym (ap (λ r. option_map plain_function (option_copied r)) c.in-Some.is) ∙ c.function_at.ensures) c.fits_parameters.ensures c.are_compatible.ensures c.is_unmarked.ensures
