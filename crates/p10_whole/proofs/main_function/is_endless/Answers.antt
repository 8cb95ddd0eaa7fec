use Rattle.std.proofs.Common.{Option, Some, option_map, ◌∙◌, ap, sym}
use Rattle.p10_core.specs.declared.typed.Value.{Value}
use Rattle.p10_core.specs.Typed.{statement, loop}
use Rattle.p10_core.specs.Views.{plain_statements, plain_value}
use Rattle.p10_core.specs.WholePrograms.{may_be_task}
use Rattle.p10_whole.proofs.Mains.{bare_is, tested_is}
use Rattle.p10_whole.proofs.main_function.is_endless.Goals as goal

pub returns-in-None : goal.returns-in-None
returns-in-None c = λ at body.
    bare_is at c.args.head body c.args.first.now c.args.third.now c.is_empty.result c.is_empty-2.result c.is_for.result c.is_empty.ensures c.is_empty-2.ensures c.is_for.ensures
    ∙ ap (λ (o : Option Value). may_be_task (Some (statement at (loop c.args.head (plain_statements c.args.first.now) (option_map plain_value o) (plain_statements c.args.third.now) body)))) (sym c.in-None.is)

pub returns-in-Some : goal.returns-in-Some
returns-in-Some c = λ at body.
    tested_is at c.args.head body (plain_value c.in-Some.v) c.args.first.now c.args.third.now c.is_empty.result c.is_empty-2.result c.is_while.result c.is_true_test.result c.is_empty.ensures c.is_empty-2.ensures c.is_while.ensures c.is_true_test.ensures
    ∙ ap (λ (o : Option Value). may_be_task (Some (statement at (loop c.args.head (plain_statements c.args.first.now) (option_map plain_value o) (plain_statements c.args.third.now) body)))) (sym c.in-Some.is)
