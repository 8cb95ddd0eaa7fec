-- The task loop of a whole program is a loop without clauses that begins with its test.
use Rattle.std.proofs.Common.{◌≡◌, ℕ, ◌&&◌, true, Bool, refl, sym, ◌∙◌, subst, Option, Some, None, slice_get}
use Rattle.std.specs.Prelude.{IfSome}
use Rattle.std.proofs.lemmas.Option.{same_Some}
use Rattle.p10_base.specs.declared.at.At.{At}
use Rattle.p10_core.specs.declared.statements.LoopHead.{LoopHead}
use Rattle.p10_core.specs.declared.statements.LoopKeyword.{LoopKeyword}
use Rattle.p10_core.specs.declared.statements.LoopKeyword.TheVariants.{While, Do, For}
use Rattle.p10_core.specs.Typed.{PlainStatement, statement, loop, no_statements, statements_list, PlainFunction, PlainProgram}
use Rattle.p10_core.specs.WholePrograms.{main_items, is_for, is_while, is_true_test, may_be_task, IsTask, IsMain, IsWholeProgram}
use Rattle.p10_meaning.specs.Runs.{Task, task_in}
use Rattle.p10_meaning.specs.SoundRuns.{HasTask}
use Rattle.p10_task.proofs.Passes.{BeginsWithTest}

-- an item that is a task loop
pub record IsTaskItem (item : Option PlainStatement) (task : Task) : Type 0 where
  pub at : At
  pub head : LoopHead
  pub is : item ≡ Some (statement at (loop head no_statements task.tested no_statements task.body))
  pub begins : BeginsWithTest head.keyword

for_begins : (keyword : LoopKeyword) → is_for keyword ≡ true → BeginsWithTest keyword
for_begins For e = tt
for_begins While e = tt
for_begins Do e = absurd cc

while_begins : (keyword : LoopKeyword) (b : Bool) → (is_while keyword && b) ≡ true → BeginsWithTest keyword
while_begins For b e = tt
while_begins While b e = tt
while_begins Do b e = absurd cc

task_shape : (item : Option PlainStatement) (task : Task) → may_be_task item ≡ true → task_in item ≡ Some task → IsTaskItem item task
task_shape (Some (statement at (loop head no_statements None no_statements body))) task m e =
    subst (λ t. IsTaskItem (Some (statement at (loop head no_statements None no_statements body))) t) (same_Some _ _ e)
    (record { at = at; head = head; is = refl; begins = for_begins head.keyword m })
task_shape (Some (statement at (loop head no_statements (Some v) no_statements body))) task m e =
    subst (λ t. IsTaskItem (Some (statement at (loop head no_statements (Some v) no_statements body))) t) (same_Some _ _ e)
    (record { at = at; head = head; is = refl; begins = while_begins head.keyword (is_true_test v) m })
task_shape item task m e = absurd cc

module _ (p : PlainProgram) (whole : IsWholeProgram p) (f : PlainFunction) (i : ℕ) (task : Task) (has : HasTask p f i task) where
  pub main_is : IsMain p f
  main_is = subst (λ f. IsMain p f) (same_Some _ _ (sym whole.main.there ∙ has.main)) whole.main.is

  is_task : IsTask (main_items f) i
  is_task = subst (λ o. IfSome o (IsTask (main_items f))) has.item main_is.task

  pub task_item : IsTaskItem (slice_get (statements_list f.body) i) task
  task_item = task_shape (slice_get (statements_list f.body) i) task is_task.loop has.loop
