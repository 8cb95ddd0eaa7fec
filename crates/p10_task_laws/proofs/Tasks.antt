-- The task loop of a whole program: its test is true, and where nothing leaves it, each of its turns comes to the next.
use Rattle.std.proofs.Common.{◌≡◌, ℕ, zero, suc, true, List, [], ◌∷◌, refl, sym, ◌∙◌, ap, subst, Option, Some, None, slice_get}
use Rattle.std.specs.Prelude.{IfSome, if◌then◌else◌}
use Rattle.std.specs.List.{Contains}
use Rattle.std.proofs.lemmas.Option.{same_Some, none-some}
use Rattle.std.proofs.lemmas.Bool.{and_parts}
use Rattle.p10_base.specs.declared.span.Span.{Span}
use Rattle.p10_base.specs.declared.at.At.{At}
use Rattle.p10_core.specs.Typed.{PlainValue, PlainStatement, statement, loop, PlainStatements, no_statements, more_statements, statements_list, PlainFunction, PlainProgram}
use Rattle.p10_core.specs.Whole.{IsWholeValue}
use Rattle.p10_core.specs.WholePrograms.{Region, around, after, IsWholeStatement, AreWholeStatements, region_of, is_while, is_true_test, may_be_task, main_items, IsTask, IsMain, IsWholeProgram}
use Rattle.p10_calls.proofs.Lists.{here}
use Rattle.p10_flowrules.specs.declared.exits.Breaks.TheVariants.{Leave}
use Rattle.p10_flowrules.specs.TaskExits.{exits_in, exits_of_loop, items_of_main, exits_at, task_exits}
use Rattle.p10_flowrules.specs.FlowRows.{ViolatesFlow, task_end, task_row}
use Rattle.p10_meaning.specs.States.{State, gives}
use Rattle.p10_meaning.specs.Scalars.{is_true}
use Rattle.p10_meaning.specs.Values.{Setting, evaluate}
use Rattle.p10_meaning.specs.Statements.{Frame, Flow, normal, broken, continued, returned, Done, flows, execute}
use Rattle.p10_meaning.specs.Runs.{Task, task_in, task_test, task_turn}
use Rattle.p10_meaning.specs.SoundRuns.{main_setting, HasTask}
use Rattle.p10_sums.specs.Keeping.{HoldsOf}
use Rattle.p10_evaluation.proofs.Rules.{holds_last, holds_map}
use Rattle.p10_clean_soundness.proofs.Constants.{true_test}
use Rattle.p10_task_laws.specs.Turns.{ComesToNextTurn, at_end, at_continue, TurnsGoOn, KeptRuleGoesOn}
use Rattle.p10_task_laws.proofs.Staying.{MayGo, stays}

-- ## The loop among the items

-- what is known of a task loop where it stands: its test is a constant other than 0, and nothing in its body leaves it
record IsEndless (task : Task) : Type 0 where
  at_test : Region
  at_body : Region
  test_whole : IfSome task.tested (λ v. IsWholeValue (around at_test) v)
  test_true : IfSome task.tested (λ v. is_true_test v ≡ true)
  body_whole : IsWholeStatement at_body task.body
  none_leaves : exits_in Leave task.body ≡ []

-- a statement that is whole in some region
abbrev IsWholeSomewhere : PlainStatement → Type 0
IsWholeSomewhere x = (r : Region) × IsWholeStatement r x

item_whole : (xs : PlainStatements) (r : Region) (i : ℕ) (x : PlainStatement) → AreWholeStatements r xs → slice_get (statements_list xs) i ≡ Some x → IsWholeSomewhere x
item_whole no_statements r i x h e = absurd (none-some x e)
item_whole (more_statements y rest) r zero x h e = (r, subst (λ x. IsWholeStatement r x) (same_Some y x e) h.0)
item_whole (more_statements y rest) r (suc i) x h e = item_whole rest (after r y) i x h.1 e

endless : (item : Option PlainStatement) (task : Task) → may_be_task item ≡ true → task_in item ≡ Some task → ((x : PlainStatement) → item ≡ Some x → IsWholeSomewhere x) → exits_of_loop item ≡ [] → IsEndless task
endless (Some (statement at (loop head no_statements None no_statements body))) task m e h n =
    let one : IsWholeSomewhere (statement at (loop head no_statements None no_statements body)) = h (statement at (loop head no_statements None no_statements body)) refl in
    subst (λ t. IsEndless t) (same_Some (record { tested = None; body = body }) task e)
    (record { at_test = one.0; at_body = record one.0 { in_loop = true }; test_whole = tt; test_true = tt; body_whole = one.1.3; none_leaves = n })
endless (Some (statement at (loop head no_statements (Some v) no_statements body))) task m e h n =
    let one : IsWholeSomewhere (statement at (loop head no_statements (Some v) no_statements body)) = h (statement at (loop head no_statements (Some v) no_statements body)) refl in
    subst (λ t. IsEndless t) (same_Some (record { tested = Some v; body = body }) task e) (record {
      at_test = one.0;
      at_body = record one.0 { in_loop = true };
      test_whole = one.1.1.whole;
      test_true = (and_parts (is_while head.keyword) (is_true_test v) m).1;
      body_whole = one.1.3;
      none_leaves = n;
    })
endless item task m e h n = absurd cc

-- ## A turn

goes : (flow : Flow) → MayGo Leave flow → ComesToNextTurn flow
goes normal m = at_end
goes continued m = at_continue
goes broken m = absurd m
goes (returned x) m = absurd m

module _ (s : Setting) (task : Task) (is : IsEndless task) where
  abbrev Goes : Done → State → Type 0
  Goes done w = ComesToNextTurn done.flow

  body_goes : (frame : Frame) (w : State) → HoldsOf Goes (execute s task.body frame w)
  body_goes frame w = holds_map (λ (done : Done) w. MayGo Leave done.flow) Goes (execute s task.body frame w) (λ done w m. goes done.flow m) (stays s task.body is.at_body is.body_whole Leave is.none_leaves frame w)

  tested_goes : (tested : Option PlainValue) → IfSome tested (λ v. IsWholeValue (around is.at_test) v) → IfSome tested (λ v. is_true_test v ≡ true) → (frame : Frame) (w : State) → HoldsOf (λ more w. more ≡ true) (task_test s tested frame w)
  tested_goes None i e frame w = refl
  tested_goes (Some v) i e frame w =
      holds_last (λ x w. is_true x ≡ true) (λ more w. more ≡ true) (evaluate s frame.held v w) (λ x w. gives (is_true x) w) (true_test (around is.at_test) s frame.held v i e w) (λ x w h. h)

  turn_goes : (frame : Frame) (w : State) → HoldsOf Goes (task_turn s task frame w)
  turn_goes frame w =
      holds_last (λ more w. more ≡ true) Goes (task_test s task.tested frame w) _ (tested_goes task.tested is.test_whole is.test_true frame w)
      (λ more w h. subst (λ more. HoldsOf Goes (if more then execute s task.body frame w else flows broken frame w)) (sym h) (body_goes frame w))

-- ## Programs

module _ (p : PlainProgram) (whole : IsWholeProgram p) (none : task_exits p ≡ []) (f : PlainFunction) (i : ℕ) (task : Task) (has : HasTask p f i task) where
  main_is : IsMain p f
  main_is = subst (λ f. IsMain p f) (same_Some _ _ (sym whole.main.there ∙ has.main)) whole.main.is

  is_task : IsTask (main_items f) i
  is_task = subst (λ o. IfSome o (IsTask (main_items f))) has.item main_is.task

  none_here : exits_of_loop (slice_get (statements_list f.body) i) ≡ []
  none_here = sym (ap (λ o. exits_at o (items_of_main (slice_get p.functions p.main))) has.item ∙ ap (λ o. exits_at (Some i) (items_of_main o)) has.main) ∙ none

  is_endless : IsEndless task
  is_endless = endless (slice_get (statements_list f.body) i) task is_task.loop has.loop (λ x e. item_whole f.body (region_of p p.main f) i x (whole.functions p.main f has.main).body e) none_here

  pub turn_comes : (budget : ℕ) (frame : Frame) (w : State) → HoldsOf (λ (done : Done) w. ComesToNextTurn done.flow) (task_turn (main_setting p budget f) task frame w)
  turn_comes budget frame w = turn_goes (main_setting p budget f) task is_endless frame w

pub turns_go_on : TurnsGoOn
turns_go_on p whole none f i task has budget frame w = turn_comes p whole none f i task has budget frame w

-- where the row is violated nowhere, nothing is listed
pub none_listed : (p : PlainProgram) → ((span : Span) → ViolatesFlow p task_row span → ⊥) → task_exits p ≡ []
none_listed p kept = at_list (task_exits p) refl
  where
    at_list : (exits : List At) → task_exits p ≡ exits → exits ≡ []
    at_list [] e = refl
    at_list (at ∷ rest) e = absurd (kept at.span (task_end at.span (record { at = at; leaves = subst (λ l. Contains l at) (sym e) (here at rest); span_is = refl })))

pub kept_rule_goes_on : KeptRuleGoesOn
kept_rule_goes_on p whole kept = turns_go_on p whole (none_listed p kept)
