-- Variables in scope.
use Rattle.std.specs.Prelude.{◌≡◌, ℕ, zero, suc, ◌+◌, ◌<◌, ◌≤◌, nat_eq, nat_lt, Bool, true, false, ◌||◌, List, [], ◌∷◌, length, Result, Ok, Err, is_ok, IfOk, refl}
use Rattle.std.proofs.Common.{sym, get_or, arith}
use Rattle.std.proofs.lemmas.Bool.{eq-eqb, eqb-false, ltb-true}
use Rattle.std.specs.Ordering.{nat_cmp}
use Rattle.std.specs.declared.cmp.Ordering.TheVariants.{Equal}
use Rattle.std.specs.List.{HoldsAt}
use Rattle.std.specs.List.Sorted.{IsSearchInRange}
use Rattle.std.proofs.lemmas.Map.Lookups.{exact_unsigned}
use Rattle.p10_core.specs.WholePrograms.{is_among, numbers_from}
use Rattle.p10_whole.specs.private.Shows.{Shows}
use Rattle.p10_whole.specs.private.Surroundings.{scope_on, scope_of}

or_first : (a b : Bool) → a ≡ true → (a || b) ≡ true
or_first true b e = refl
or_first false b e = absurd cc

or_second : (a b : Bool) → b ≡ true → (a || b) ≡ true
or_second true b e = refl
or_second false b e = e

-- what is in a scope stays in it
among_base : (n : ℕ) (numbers base : List ℕ) → is_among n base ≡ true → is_among n (scope_on numbers base) ≡ true
among_base n [] base h = h
among_base n (m ∷ rest) base h = among_base n rest (m ∷ base) (or_second (nat_eq n m) (is_among n base) h)

among_at : (n : ℕ) (numbers base : List ℕ) (i : ℕ) → i < length numbers → get_or numbers i 0 ≡ n → is_among n (scope_on numbers base) ≡ true
among_at n [] base i h e = absurd (omega arith)
among_at n (m ∷ rest) base zero h e = among_base n rest (m ∷ base) (or_first (nat_eq n m) (is_among n base) (eq-eqb n m (sym e)))
among_at n (m ∷ rest) base (suc i) h e = among_at n rest (m ∷ base) i (omega arith) e

among_step : (n from : ℕ) (rest : List ℕ) (b : Bool) → nat_eq n from ≡ b → ((n ≡ from → ⊥) → is_among n rest ≡ true) → (nat_eq n from || is_among n rest) ≡ true
among_step n from rest true e h = or_first (nat_eq n from) (is_among n rest) e
among_step n from rest false e h = or_second (nat_eq n from) (is_among n rest) (h (eqb-false n from e))

among_from : (count from n : ℕ) → from ≤ n → n < from + count → is_among n (numbers_from from count) ≡ true
among_from zero from n low high = absurd (omega arith)
among_from (suc count) from n low high =
    among_step n from (numbers_from (from + 1) count) (nat_eq n from) refl (λ (other : n ≡ from → ⊥). among_from count (from + 1) n (omega arith) (omega arith))

scope_there : (p n : ℕ) (numbers : List ℕ) (r : Result ℕ ℕ) (ok : Bool) → ok ≡ is_ok r → IsSearchInRange r (length numbers) → IfOk r (HoldsAt (λ y. nat_cmp y n ≡ Equal) numbers) → (a : Bool) → nat_lt n p ≡ a → (a || ok) ≡ true → is_among n (scope_of p numbers) ≡ true
scope_there p n numbers r ok is bound found true e h = among_base n numbers (numbers_from 0 p) (among_from p 0 n (omega arith) (omega (arith, ltb-true n p e)))
scope_there p n numbers (Ok i) ok is bound found false e h = among_at n numbers (numbers_from 0 p) i bound (exact_unsigned (get_or numbers i 0) n (found 0))
scope_there p n numbers (Err i) ok is bound found false e h = absurd cc

pub scope_shown : (p n : ℕ) (numbers : List ℕ) (r : Result ℕ ℕ) (ok : Bool) → ok ≡ is_ok r → IsSearchInRange r (length numbers) → IfOk r (HoldsAt (λ y. nat_cmp y n ≡ Equal) numbers) → Shows (nat_lt n p || ok) (is_among n (scope_of p numbers) ≡ true)
scope_shown p n numbers r ok is bound found = record { shows = λ h. scope_there p n numbers r ok is bound found (nat_lt n p) refl h }
