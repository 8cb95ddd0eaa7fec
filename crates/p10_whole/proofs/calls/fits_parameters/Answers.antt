use Rattle.std.proofs.Common.{List, take, subst, ◌∙◌, ap}
use Rattle.p10_core.specs.Types.{PlainType}
use Rattle.p10_core.specs.Views.{plain_values}
use Rattle.p10_core.specs.Whole.{ArgumentsFit}
use Rattle.p10_whole.specs.private.Shows.{Shows}
use Rattle.p10_whole.specs.private.Surroundings.{surroundings_in, types_of_variables}
use Rattle.p10_whole.proofs.Calling.{parameters_are}
use Rattle.p10_whole.proofs.calls.fits_parameters.Goals as goal

pub returns-then-count-variables : goal.returns-then-count-variables
returns-then-count-variables c =
    let P : List PlainType → Type 0 = λ ts. Shows c.arguments_fit.result (ArgumentsFit (surroundings_in c.args.around.now) ts (plain_values c.args.arguments.now)) in
    subst P (ap (λ vs. types_of_variables (take c.args.function.now.params vs)) c.as_slice-variables.ensures ∙ parameters_are c.args.function.now.params c.args.function.now.vars) c.arguments_fit.ensures
