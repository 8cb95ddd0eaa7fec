use Rattle.std.proofs.Common.{◌∙◌, ◌+◌, ap, map, List, option_map, option_copied, arith}
use Rattle.p10_core.specs.declared.statements.Stmt.{Stmt}
use Rattle.p10_core.specs.Views.{plain_statement}
use Rattle.p10_whole.proofs.Each.{map_drop}
use Rattle.p10_whole.proofs.Mains.{task_is}
use Rattle.p10_whole.proofs.main_function.is_task.Goals as goal

pub returns : goal.returns
returns c = task_is (map plain_statement c.args.items.now) c.args.n (option_map plain_statement (option_copied c.item_at.result)) (option_map plain_statement (option_copied c.item_at-2.result)) (map plain_statement c.rest_after.result.now) _ _ _ (omega (arith, c.if-place-eq0.false)) c.item_at.ensures c.item_at-2.ensures (ap (λ (xs : List Stmt). map plain_statement xs) c.rest_after.ensures ∙ map_drop plain_statement (c.args.n + 1) c.args.items.now) c.is_marked-marked.ensures c.may_be_task.ensures c.is_maybe_return.ensures
