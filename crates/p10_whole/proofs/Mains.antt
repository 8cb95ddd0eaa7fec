-- `main` with its pragmas.
use Rattle.std.proofs.Common.{◌≡◌, ℕ, ◌+◌, ◌-◌, ◌<◌, Bool, true, false, not, ◌&&◌, ◌++◌, List, [], ◌∷◌, map, length, drop, Option, Some, None, is_some, slice_get, refl, ap, sym, ◌∙◌, subst, nat_eq}
use Rattle.std.specs.Prelude.{IfSome}
use Rattle.std.proofs.Math.Dec.{eqb-suc-zero}
use Rattle.p10_base.specs.declared.at.At.{At}
use Rattle.p10_core.specs.declared.program.Func.{Func}
use Rattle.p10_core.specs.declared.statements.LoopHead.{LoopHead}
use Rattle.p10_core.specs.declared.statements.MarkKind.TheVariants.{InitDone, TaskLoop}
use Rattle.p10_core.specs.declared.statements.Stmt.{Stmt}
use Rattle.p10_core.specs.Typed.{PlainFunction, PlainProgram, PlainValue, PlainStatement, statement, loop}
use Rattle.p10_core.specs.Rows.{int_type}
use Rattle.p10_core.specs.Views.{plain_function, plain_statement, plain_statements}
use Rattle.p10_core.specs.WholePrograms.{HasMain, IsInitDone, IsMain, IsMaybeReturn, IsTask, is_for, is_marked, is_true_test, is_while, main_items, mark_list, may_be_task}
use Rattle.p10_whole.specs.private.Orders.{InOrder, marks_by}
use Rattle.p10_whole.specs.private.Shows.{Shows}
use Rattle.p10_whole.proofs.Openings.{statements_listed}
use Rattle.p10_whole.proofs.Showing.{both_true}

marks_are : (mark task : Option ℕ) → marks_by (is_some mark) (is_some task) ≡ mark_list InitDone mark ++ mark_list TaskLoop task
marks_are None None = refl
marks_are None (Some t) = refl
marks_are (Some n) None = refl
marks_are (Some n) (Some t) = refl

pub main_is : (p : PlainProgram) (f : Func) (items : List Stmt) (x y a b c d e g : Bool) → items ≡ f.body → x ≡ is_some p.mark → y ≡ is_some p.task → Shows a ((plain_function f).result ≡ int_type) → Shows b (f.params ≡ 0) → c ≡ f.is_static → Shows d (InOrder (plain_function f) x y) → Shows e (IfSome p.mark (IsInitDone (map plain_statement items) p.task)) → Shows g (IfSome p.task (IsTask (map plain_statement items))) →
    Shows ((a && (b && not c)) && (d && (e && g))) (IsMain p (plain_function f))
main_is p f items x y a b c d e g is xs ys result none static order init_done task = record {
  shows = λ k.
      let outer = both_true (a && (b && not c)) (d && (e && g)) k in
      let heading = both_true a (b && not c) outer.0 in
      let rest = both_true b (not c) heading.1 in
      let ordered = both_true d (e && g) outer.1 in
      let marked = both_true e g ordered.1 in
      let listed : map plain_statement items ≡ main_items (plain_function f) = ap (map plain_statement) is ∙ sym (statements_listed f.body) in
      record {
        no_parameters = none.shows rest.0;
        result_is = result.shows heading.0;
        not_static = sym static ∙ off c rest.1;
        marks = (order.shows ordered.0).marks ∙ (λ i. marks_by (xs i) (ys i)) ∙ marks_are p.mark p.task;
        init_done = subst (λ all. IfSome p.mark (IsInitDone all p.task)) listed (init_done.shows marked.0);
        task = subst (λ all. IfSome p.task (IsTask all)) listed (task.shows marked.1);
      };
}
  where
    off : (x : Bool) → not x ≡ true → x ≡ false
    off true h = cc
    off false h = refl

pub has_main_by : (p : PlainProgram) (f : PlainFunction) (r : Bool) → Some f ≡ slice_get p.functions p.main → Shows r (IsMain p f) → Shows r (HasMain p)
has_main_by p f r there h = record { shows = λ k. record { function = f; there = sym there; is = h.shows k } }

pub init_done_is : (items : List PlainStatement) (task : Option ℕ) (n : ℕ) (item : Option PlainStatement) (a b : Bool) → item ≡ slice_get items n → a ≡ is_marked InitDone item → Shows b (IfSome task (λ t. n < t)) → Shows (a && b) (IsInitDone items task n)
init_done_is items task n item a b there marked before = record {
  shows = λ k.
      let both = both_true a b k in
      record {
        is = ap (is_marked InitDone) (sym there) ∙ sym marked ∙ both.0;
        before_task = before.shows both.1;
      };
}

pub task_is : (items : List PlainStatement) (n : ℕ) (before item : Option PlainStatement) (rest : List PlainStatement) (a b c : Bool) → 0 < n → before ≡ slice_get items (n - 1) → item ≡ slice_get items n → rest ≡ drop (n + 1) items → a ≡ is_marked TaskLoop before → b ≡ may_be_task item → Shows c (IsMaybeReturn rest) → Shows (a && (b && c)) (IsTask items n)
task_is items n before item rest a b c first is_before is is_rest marked endless last = record {
  shows = λ k.
      let outer = both_true a (b && c) k in
      let inner = both_true b c outer.1 in
      record {
        after_first = first;
        marked = ap (is_marked TaskLoop) (sym is_before) ∙ sym marked ∙ outer.0;
        loop = ap may_be_task (sym is) ∙ sym endless ∙ inner.0;
        last = subst IsMaybeReturn is_rest (last.shows inner.1);
      };
}

-- ## Loops without an end

bare_loop : (at : At) (head : LoopHead) (body : PlainStatement) (first third : List Stmt) → ((nat_eq (length first) 0 && nat_eq (length third) 0) && is_for head.keyword) ≡ may_be_task (Some (statement at (loop head (plain_statements first) None (plain_statements third) body)))
bare_loop at head body [] [] = refl
bare_loop at head body [] (s ∷ third) = ap (λ b. (true && b) && is_for head.keyword) (eqb-suc-zero (length third))
bare_loop at head body (s ∷ first) third = ap (λ b. (b && nat_eq (length third) 0) && is_for head.keyword) (eqb-suc-zero (length first))

tested_loop : (at : At) (head : LoopHead) (body : PlainStatement) (v : PlainValue) (first third : List Stmt) → ((nat_eq (length first) 0 && nat_eq (length third) 0) && (is_while head.keyword && is_true_test v)) ≡ may_be_task (Some (statement at (loop head (plain_statements first) (Some v) (plain_statements third) body)))
tested_loop at head body v [] [] = refl
tested_loop at head body v [] (s ∷ third) = ap (λ b. (true && b) && (is_while head.keyword && is_true_test v)) (eqb-suc-zero (length third))
tested_loop at head body v (s ∷ first) third = ap (λ b. (b && nat_eq (length third) 0) && (is_while head.keyword && is_true_test v)) (eqb-suc-zero (length first))

pub bare_is : (at : At) (head : LoopHead) (body : PlainStatement) (first third : List Stmt) (a b c : Bool) → a ≡ nat_eq (length first) 0 → b ≡ nat_eq (length third) 0 → c ≡ is_for head.keyword → ((a && b) && c) ≡ may_be_task (Some (statement at (loop head (plain_statements first) None (plain_statements third) body)))
bare_is at head body first third a b c p q r = (λ i. (p i && q i) && r i) ∙ bare_loop at head body first third

pub tested_is : (at : At) (head : LoopHead) (body : PlainStatement) (v : PlainValue) (first third : List Stmt) (a b c d : Bool) → a ≡ nat_eq (length first) 0 → b ≡ nat_eq (length third) 0 → c ≡ is_while head.keyword → d ≡ is_true_test v → ((a && b) && (c && d)) ≡ may_be_task (Some (statement at (loop head (plain_statements first) (Some v) (plain_statements third) body)))
tested_is at head body v first third a b c d p q r s = (λ i. (p i && q i) && (r i && s i)) ∙ tested_loop at head body v first third
