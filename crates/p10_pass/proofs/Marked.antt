-- Marks that a walk leaves are those of the variables that statements assign.
use Rattle.std.proofs.Common.{◌≡◌, ℕ, zero, suc, ◌<◌, ◌||◌, nat_eq, replicate, Bool, true, false, List, [], ◌∷◌, Option, Some, None, refl, ap, ◌∙◌, arith}
use Rattle.std.specs.Prelude.{slice_get, slice_set}
use Rattle.std.specs.Option.{option_map}
use Rattle.std.proofs.lemmas.Bool.Decides.{nat_tests}
use Rattle.p10_core.specs.declared.statements.Label.{Label}
use Rattle.p10_core.specs.Typed.{PlainLabels, PlainPlace, place, variable, global, literal, index, member, dereference, PlainStatement, statement, PlainStatementForm, set, update, copy, evaluate, asserts, declare, declare_static, block, if_then, if_else, loop, switch, break, continue, return, empty, mark, PlainStatements, no_statements, more_statements}
use Rattle.p10_pass.specs.Scopes.{is_target, assigns, form_assigns, any_assigns}
use Rattle.p10_pass.specs.Passing.{is_case, is_labelled}
use Rattle.p10_pass.specs.Marks.{marked_in, AreMarks}
use Rattle.p10_pass.specs.private.Walking.{marks_cases, marks_otherwise}
use Rattle.p10_pass.specs.private.Marking.{marks_place, marks_statement, marks_form, marks_all}

-- a mark that more may have
abbrev also : Bool → Option Bool → Option Bool
also more o = option_map (λ b. b || more) o

no_more : (o : Option Bool) → o ≡ also false o
no_more None = refl
no_more (Some true) = refl
no_more (Some false) = refl

both : (x y : Bool) (o : Option Bool) → also y (also x o) ≡ also (x || y) o
both x y None = refl
both x y (Some true) = refl
both x y (Some false) = refl

set_mark : (marks : List Bool) (m n : ℕ) → slice_get (slice_set marks m true) n ≡ also (nat_eq m n) (slice_get marks n)
set_mark [] m n = refl
set_mark (true ∷ marks) zero zero = refl
set_mark (false ∷ marks) zero zero = refl
set_mark (b ∷ marks) zero (suc n) = no_more (slice_get marks n) ∙ ap (λ e. also e (slice_get marks n)) (let e : false ≡ nat_eq zero (suc n) = grind (arith, nat_tests) in e)
set_mark (b ∷ marks) (suc m) zero = no_more (Some b) ∙ ap (λ e. also e (Some b)) (let e : false ≡ nat_eq (suc m) zero = grind (arith, nat_tests) in e)
set_mark (b ∷ marks) (suc m) (suc n) = set_mark marks m n ∙ ap (λ e. also e (slice_get marks n)) (let e : nat_eq m n ≡ nat_eq (suc m) (suc n) = grind (arith, nat_tests) in e)

placed : (p : PlainPlace) (marks : List Bool) (n : ℕ) → slice_get (marks_place p marks) n ≡ also (is_target n p) (slice_get marks n)
placed (place at t (variable m)) marks n = set_mark marks m n
placed (place at t (global m)) marks n = no_more (slice_get marks n)
placed (place at t (literal m bytes)) marks n = no_more (slice_get marks n)
placed (place at t (index a i)) marks n = no_more (slice_get marks n)
placed (place at t (member p m)) marks n = no_more (slice_get marks n)
placed (place at t (dereference v)) marks n = no_more (slice_get marks n)

mutual
  pub stated : (s : PlainStatement) (marks : List Bool) (n : ℕ) → slice_get (marks_statement s marks) n ≡ also (assigns n s) (slice_get marks n)
  stated (statement at form) marks n = formed form marks n

  pub formed : (form : PlainStatementForm) (marks : List Bool) (n : ℕ) → slice_get (marks_form form marks) n ≡ also (form_assigns n form) (slice_get marks n)
  formed (set p v) marks n = placed p marks n
  formed (update kind op t p v) marks n = placed p marks n
  formed (block ss) marks n = listed ss marks n
  formed (if_then v s) marks n = stated s marks n
  formed (if_else v s t) marks n = stated t (marks_statement s marks) n ∙ (ap (also (assigns n t)) (stated s marks n) ∙ both (assigns n s) (assigns n t) (slice_get marks n))
  formed (loop head first test third body) marks n =
      stated body (marks_all third (marks_all first marks)) n ∙ (ap (also (assigns n body)) (listed third (marks_all first marks) n) ∙
      (both (any_assigns n third) (assigns n body) (slice_get (marks_all first marks) n) ∙ (ap (also (any_assigns n third || assigns n body)) (listed first marks n) ∙
      both (any_assigns n first) (any_assigns n third || assigns n body) (slice_get marks n))))
  formed (switch keyword v labels body) marks n = stated body marks n
  formed (copy p q) marks n = no_more (slice_get marks n)
  formed (evaluate v) marks n = no_more (slice_get marks n)
  formed (asserts at v) marks n = no_more (slice_get marks n)
  formed (declare m initializer) marks n = no_more (slice_get marks n)
  formed (declare_static m) marks n = no_more (slice_get marks n)
  formed break marks n = no_more (slice_get marks n)
  formed continue marks n = no_more (slice_get marks n)
  formed (return keyword v) marks n = no_more (slice_get marks n)
  formed empty marks n = no_more (slice_get marks n)
  formed (mark kind) marks n = no_more (slice_get marks n)

  pub listed : (ss : PlainStatements) (marks : List Bool) (n : ℕ) → slice_get (marks_all ss marks) n ≡ also (any_assigns n ss) (slice_get marks n)
  listed no_statements marks n = no_more (slice_get marks n)
  listed (more_statements s rest) marks n = listed rest (marks_statement s marks) n ∙ (ap (also (any_assigns n rest)) (stated s marks n) ∙ both (assigns n s) (any_assigns n rest) (slice_get marks n))

-- ## From no marks

unmarked_at : (count n : ℕ) → n < count → slice_get (replicate count false) n ≡ Some false
unmarked_at zero n h = absurd (omega (arith, h))
unmarked_at (suc count) zero h = refl
unmarked_at (suc count) (suc n) h = unmarked_at count n (omega (arith, h))

marks_told : (test : ℕ → Bool) (count : ℕ) (start marks : List Bool) → start ≡ replicate count false → ((n : ℕ) → slice_get marks n ≡ also (test n) (slice_get start n)) → AreMarks test count marks
marks_told test count start marks none h = record { each = λ n l. ap marked_in (h n ∙ ap (also (test n)) (ap (λ bs. slice_get bs n) none ∙ unmarked_at count n l)) }

pub assigned_told : (s : PlainStatement) (count : ℕ) (start marks : List Bool) → start ≡ replicate count false → marks ≡ marks_statement s start → AreMarks (λ n. assigns n s) count marks
assigned_told s count start marks none is = marks_told (λ n. assigns n s) count start marks none (λ n. ap (λ bs. slice_get bs n) is ∙ stated s start n)

cased : (cases : List Label) (marks : List Bool) (n : ℕ) → slice_get (marks_cases cases marks) n ≡ also (is_case n cases) (slice_get marks n)
cased [] marks n = no_more (slice_get marks n)
cased (l ∷ cases) marks n =
    cased cases (slice_set marks l.place true) n ∙ (ap (also (is_case n cases)) (set_mark marks l.place n) ∙ both (nat_eq l.place n) (is_case n cases) (slice_get marks n))

labelled : (cases : List Label) (o : Option ℕ) (marks : List Bool) (n : ℕ) → let labels : PlainLabels = record { cases = cases; otherwise = o } in slice_get (marks_otherwise o (marks_cases cases marks)) n ≡ also (is_labelled n labels) (slice_get marks n)
labelled cases None marks n = no_more (slice_get (marks_cases cases marks) n) ∙ (ap (also false) (cased cases marks n) ∙ both (is_case n cases) false (slice_get marks n))
labelled cases (Some m) marks n =
    set_mark (marks_cases cases marks) m n ∙ (ap (also (nat_eq m n)) (cased cases marks n) ∙ both (is_case n cases) (nat_eq m n) (slice_get marks n))

pub labels_told : (labels : PlainLabels) (count : ℕ) (start mid marks : List Bool) → start ≡ replicate count false → mid ≡ marks_cases labels.cases start → marks ≡ marks_otherwise labels.otherwise mid → AreMarks (λ n. is_labelled n labels) count marks
labels_told labels count start mid marks none is last =
    marks_told (λ n. is_labelled n labels) count start marks none (λ n. ap (λ bs. slice_get bs n) (last ∙ ap (marks_otherwise labels.otherwise) is) ∙ labelled labels.cases labels.otherwise start n)
