-- Marks that the code leaves are those of the variables that statements may change.
use Rattle.std.proofs.Common.{◌≡◌, ℕ, zero, suc, ◌<◌, eqb, replicate, Bool, true, false, List, [], ◌∷◌, Option, Some, None, refl, ap, ◌∙◌, arith}
use Rattle.std.specs.Prelude.{◌||◌, slice_get, slice_set}
use Rattle.std.specs.Option.{option_map}
use Rattle.std.proofs.lemmas.Bool.Decides.{nat_tests}
use Rattle.p10_core.specs.Typed.{PlainPlace, place, variable, global, literal, index, member, dereference, PlainStatement, statement, PlainStatementForm, set, update, copy, evaluate, asserts, declare, declare_static, block, if_then, if_else, loop, switch, break, continue, return, empty, mark, PlainStatements, no_statements, more_statements}
use Rattle.p10_meaning.specs.Variables.{is_variable_place, may_change, form_may_change, any_may_change}
use Rattle.p10_pass.specs.Marks.{marked_in, AreMarks}
use Rattle.p10_walk.specs.private.Marking.{marks_place, marks_statement, marks_form, marks_all}

-- a mark that more may have
abbrev also : Bool → Option Bool → Option Bool
also more o = option_map (λ b. b || more) o

no_more : (o : Option Bool) → o ≡ also false o
no_more None = refl
no_more (Some true) = refl
no_more (Some false) = refl

both : (x y : Bool) (o : Option Bool) → also y (also x o) ≡ also (x || y) o
both x y None = refl
both x y (Some true) = refl
both x y (Some false) = refl

three : (x y z : Bool) (o : Option Bool) → also z (also y (also x o)) ≡ also ((x || y) || z) o
three x y z o = ap (also z) (both x y o) ∙ both (x || y) z o

set_mark : (marks : List Bool) (m n : ℕ) → slice_get (slice_set marks m true) n ≡ also (eqb m n) (slice_get marks n)
set_mark [] m n = refl
set_mark (true ∷ marks) zero zero = refl
set_mark (false ∷ marks) zero zero = refl
set_mark (b ∷ marks) zero (suc n) = no_more (slice_get marks n) ∙ ap (λ e. also e (slice_get marks n)) (let e : false ≡ eqb zero (suc n) = grind (arith, nat_tests) in e)
set_mark (b ∷ marks) (suc m) zero = no_more (Some b) ∙ ap (λ e. also e (Some b)) (let e : false ≡ eqb (suc m) zero = grind (arith, nat_tests) in e)
set_mark (b ∷ marks) (suc m) (suc n) = set_mark marks m n ∙ ap (λ e. also e (slice_get marks n)) (let e : eqb m n ≡ eqb (suc m) (suc n) = grind (arith, nat_tests) in e)

placed : (p : PlainPlace) (marks : List Bool) (n : ℕ) → slice_get (marks_place p marks) n ≡ also (is_variable_place n p) (slice_get marks n)
placed (place at t (variable m)) marks n = set_mark marks m n
placed (place at t (global m)) marks n = no_more (slice_get marks n)
placed (place at t (literal m bytes)) marks n = no_more (slice_get marks n)
placed (place at t (index a i)) marks n = no_more (slice_get marks n)
placed (place at t (member p m)) marks n = no_more (slice_get marks n)
placed (place at t (dereference v)) marks n = no_more (slice_get marks n)

mutual
  pub stated : (s : PlainStatement) (marks : List Bool) (n : ℕ) → slice_get (marks_statement s marks) n ≡ also (may_change n s) (slice_get marks n)
  stated (statement at form) marks n = formed form marks n

  formed : (form : PlainStatementForm) (marks : List Bool) (n : ℕ) → slice_get (marks_form form marks) n ≡ also (form_may_change n form) (slice_get marks n)
  formed (set p v) marks n = placed p marks n
  formed (update kind op t p v) marks n = placed p marks n
  formed (declare m initializer) marks n = set_mark marks m n
  formed (block ss) marks n = listed ss marks n
  formed (if_then v s) marks n = stated s marks n
  formed (if_else v s t) marks n = stated t (marks_statement s marks) n ∙ (ap (also (may_change n t)) (stated s marks n) ∙ both (may_change n s) (may_change n t) (slice_get marks n))
  formed (loop head first test third body) marks n =
      stated body (marks_all third (marks_all first marks)) n ∙ (ap (also (may_change n body)) (listed third (marks_all first marks) n ∙ ap (also (any_may_change n third)) (listed first marks n)) ∙
      three (any_may_change n first) (any_may_change n third) (may_change n body) (slice_get marks n))
  formed (switch keyword v labels body) marks n = stated body marks n
  formed (copy p q) marks n = no_more (slice_get marks n)
  formed (evaluate v) marks n = no_more (slice_get marks n)
  formed (asserts at v) marks n = no_more (slice_get marks n)
  formed (declare_static m) marks n = no_more (slice_get marks n)
  formed break marks n = no_more (slice_get marks n)
  formed continue marks n = no_more (slice_get marks n)
  formed (return keyword v) marks n = no_more (slice_get marks n)
  formed empty marks n = no_more (slice_get marks n)
  formed (mark kind) marks n = no_more (slice_get marks n)

  listed : (ss : PlainStatements) (marks : List Bool) (n : ℕ) → slice_get (marks_all ss marks) n ≡ also (any_may_change n ss) (slice_get marks n)
  listed no_statements marks n = no_more (slice_get marks n)
  listed (more_statements s rest) marks n = listed rest (marks_statement s marks) n ∙ (ap (also (any_may_change n rest)) (stated s marks n) ∙ both (may_change n s) (any_may_change n rest) (slice_get marks n))

unmarked_at : (count n : ℕ) → n < count → slice_get (replicate count false) n ≡ Some false
unmarked_at zero n h = absurd (omega (arith, h))
unmarked_at (suc count) zero h = refl
unmarked_at (suc count) (suc n) h = unmarked_at count n (omega (arith, h))

pub changed_told : (s : PlainStatement) (count : ℕ) (start marks : List Bool) → start ≡ replicate count false → marks ≡ marks_statement s start → AreMarks (λ n. may_change n s) count marks
changed_told s count start marks none is = record {
  each = λ n l. ap marked_in (ap (λ bs. slice_get bs n) is ∙ (stated s start n ∙ ap (also (may_change n s)) (ap (λ bs. slice_get bs n) none ∙ unmarked_at count n l)));
}
