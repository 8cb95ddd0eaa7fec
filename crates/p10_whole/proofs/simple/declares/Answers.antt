use Rattle.std.proofs.Common.{◌∙◌, ap, map, List, slice_get}
use Rattle.p10_core.specs.declared.program.Variable.{Variable}
use Rattle.p10_core.specs.Views.{plain_variable, plain_initializer}
use Rattle.p10_whole.specs.private.Surroundings.{surroundings_in}
use Rattle.p10_whole.proofs.Numbers.{at_most_shown}
use Rattle.p10_whole.proofs.Passing.{declares_is}
use Rattle.p10_whole.proofs.simple.declares.Goals as goal

pub returns-in_ok-push-in-Some : goal.returns-in_ok-push-in-Some
returns-in_ok-push-in-Some c =
    declares_is c.args.context.now c.args.scope.now.items c.args.number (plain_initializer c.args.initial.now) (plain_variable c.in-Some.variable.now) c.push.new.self.items c.as_slice-in-Some.result.now (surroundings_in c.around-around.result) _ _
    (c.in-Some.ensures ∙ ap (λ (xs : List Variable). slice_get (map plain_variable xs) c.args.number) c.as_slice.ensures) c.in_ok-push-in-Some.ensures.items c.as_slice-in-Some.ensures.value c.around-around.ensures (at_most_shown _ _) c.is_whole_initializer.ensures
