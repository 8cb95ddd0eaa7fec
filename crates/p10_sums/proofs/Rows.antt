-- Tallies of lists, as far as a loop has come.
use Rattle.std.proofs.Common.{◌≡◌, ℕ, zero, suc, ◌+◌, ◌<◌, ◌≤◌, List, [], ◌∷◌, map, length, drop, get_or, refl, sym, ◌∙◌, ap, subst, arith, drop-cons, add-one}
use Rattle.p10_core.specs.declared.typed.Value.{Value}
use Rattle.p10_core.specs.declared.statements.Item.{Item}
use Rattle.p10_core.specs.declared.statements.Stmt.{Stmt}
use Rattle.p10_core.specs.Views.{plain_value, plain_values, plain_item, plain_statement, plain_statements}
use Rattle.p10_sums.specs.declared.tally.Tally.{Tally}
use Rattle.p10_sums.specs.Counting.{Counting}
use Rattle.p10_sums.specs.private.Tallies.{no_tally, in_turn}
use Rattle.p10_sums.specs.private.Walks.{value_tally, values_tally, written_tally, items_tally, statement_tally, statements_tally}
use Rattle.p10_sums.proofs.Adding.{IsSmall, in_turn_assoc, none_is_small, in_turn_is_small, none_first, none_last}

pub drop_end : {X : Type 0} → (xs : List X) (i : ℕ) → length xs ≤ i → drop i xs ≡ []
drop_end [] zero b = refl
drop_end [] (suc i) b = refl
drop_end (x ∷ xs) zero b = absurd (omega (arith, b))
drop_end (x ∷ xs) (suc i) b = drop_end xs i (omega (arith, b))

-- the rest of a list begins with the element at its place
pub cut_at : {X : Type 0} → (xs : List X) (i : ℕ) (x : X) → i < length xs → x ≡ get_or xs i x → drop i xs ≡ x ∷ drop (i + 1) xs
cut_at xs i x below is = drop-cons xs i x below ∙ ap (λ y. y ∷ drop (suc i) xs) (sym is) ∙ ap (λ n. x ∷ drop n xs) (sym (add-one i))

-- a total, and what is left
pub record Totals (whole total rest : Tally) : Type 0 where
  pub is : whole ≡ in_turn total rest
  pub small : IsSmall total

-- a loop begins with nothing
pub started : (whole total rest : Tally) → total ≡ no_tally → Totals whole no_tally rest → Totals whole total rest
started whole total rest e t = let P : Tally → Type 0 = λ x. Totals whole x rest in subst P (sym e) t

-- a loop goes on with what is counted of an element
pub counted_on : (whole before total one rest : Tally) (counted : Tally) → total ≡ in_turn before counted → counted ≡ one → Totals whole (in_turn before one) rest → Totals whole total rest
counted_on whole before total one rest counted e f t = let P : Tally → Type 0 = λ x. Totals whole x rest in subst P (sym (e ∙ ap (in_turn before) f)) t

-- ## Any list whose tally goes from element to element

module _ {X : Type 0} (one : X → Tally) (all : List X → Tally) (none : all [] ≡ no_tally) (more : (x : X) (xs : List X) → all (x ∷ xs) ≡ in_turn (one x) (all xs)) where
  pub all_small : (xs : List X) → IsSmall (all xs)
  all_small [] = let P : Tally → Type 0 = λ t. IsSmall t in subst P (sym none) none_is_small
  all_small (x ∷ xs) = let P : Tally → Type 0 = λ t. IsSmall t in subst P (sym (more x xs)) (in_turn_is_small (one x) (all xs))

  pub totals_start : (xs : List X) → Totals (all xs) no_tally (all xs)
  totals_start xs = record { is = sym (none_first (all xs) (all_small xs)); small = none_is_small }

  pub totals_next : (whole total : Tally) (xs : List X) (i : ℕ) (x : X) → i < length xs → x ≡ get_or xs i x → Totals whole total (all (drop i xs)) → Totals whole (in_turn total (one x)) (all (drop (i + 1) xs))
  totals_next whole total xs i x below is t = record {
    is = t.is ∙ (ap (λ ys. in_turn total (all ys)) (cut_at xs i x below is) ∙ (ap (in_turn total) (more x (drop (i + 1) xs)) ∙ sym (in_turn_assoc total (one x) (all (drop (i + 1) xs)))));
    small = in_turn_is_small total (one x);
  }

  pub totals_end : (whole total : Tally) (xs : List X) (i : ℕ) → length xs ≤ i → Totals whole total (all (drop i xs)) → total ≡ whole
  totals_end whole total xs i b t = sym (t.is ∙ (ap (λ ys. in_turn total (all ys)) (drop_end xs i b) ∙ (ap (in_turn total) none ∙ none_last total t.small)))

-- ## Values, items and statements

abbrev pub values_all : Counting → List Value → Tally
values_all c vs = values_tally c (plain_values vs)

abbrev pub items_all : Counting → List Item → Tally
items_all c xs = items_tally c (map plain_item xs)

abbrev pub statements_all : Counting → List Stmt → Tally
statements_all c ss = statements_tally c (plain_statements ss)

pub values_start : (c : Counting) (xs : List Value) → Totals (values_all c xs) no_tally (values_all c xs)
values_start c xs = totals_start (λ v. value_tally c (plain_value v)) (values_all c) refl (λ v vs. refl) xs

pub values_next : (c : Counting) (whole total : Tally) (xs : List Value) (i : ℕ) (x : Value) → i < length xs → x ≡ get_or xs i x → Totals whole total (values_all c (drop i xs)) → Totals whole (in_turn total (value_tally c (plain_value x))) (values_all c (drop (i + 1) xs))
values_next c whole total xs i x below is t = totals_next (λ v. value_tally c (plain_value v)) (values_all c) refl (λ v vs. refl) whole total xs i x below is t

pub values_end : (c : Counting) (whole total : Tally) (xs : List Value) (i : ℕ) → length xs ≤ i → Totals whole total (values_all c (drop i xs)) → total ≡ whole
values_end c whole total xs i b t = totals_end (λ v. value_tally c (plain_value v)) (values_all c) refl (λ v vs. refl) whole total xs i b t

pub items_start : (c : Counting) (xs : List Item) → Totals (items_all c xs) no_tally (items_all c xs)
items_start c xs = totals_start (λ x. written_tally c (plain_item x).written) (items_all c) refl (λ v vs. refl) xs

pub items_next : (c : Counting) (whole total : Tally) (xs : List Item) (i : ℕ) (x : Item) → i < length xs → x ≡ get_or xs i x → Totals whole total (items_all c (drop i xs)) → Totals whole (in_turn total (written_tally c (plain_item x).written)) (items_all c (drop (i + 1) xs))
items_next c whole total xs i x below is t = totals_next (λ x. written_tally c (plain_item x).written) (items_all c) refl (λ v vs. refl) whole total xs i x below is t

pub items_end : (c : Counting) (whole total : Tally) (xs : List Item) (i : ℕ) → length xs ≤ i → Totals whole total (items_all c (drop i xs)) → total ≡ whole
items_end c whole total xs i b t = totals_end (λ x. written_tally c (plain_item x).written) (items_all c) refl (λ v vs. refl) whole total xs i b t

pub statements_start : (c : Counting) (xs : List Stmt) → Totals (statements_all c xs) no_tally (statements_all c xs)
statements_start c xs = totals_start (λ s. statement_tally c (plain_statement s)) (statements_all c) refl (λ v vs. refl) xs

pub statements_next : (c : Counting) (whole total : Tally) (xs : List Stmt) (i : ℕ) (x : Stmt) → i < length xs → x ≡ get_or xs i x → Totals whole total (statements_all c (drop i xs)) → Totals whole (in_turn total (statement_tally c (plain_statement x))) (statements_all c (drop (i + 1) xs))
statements_next c whole total xs i x below is t = totals_next (λ s. statement_tally c (plain_statement s)) (statements_all c) refl (λ v vs. refl) whole total xs i x below is t

pub statements_end : (c : Counting) (whole total : Tally) (xs : List Stmt) (i : ℕ) → length xs ≤ i → Totals whole total (statements_all c (drop i xs)) → total ≡ whole
statements_end c whole total xs i b t = totals_end (λ s. statement_tally c (plain_statement s)) (statements_all c) refl (λ v vs. refl) whole total xs i b t
