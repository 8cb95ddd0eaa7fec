-- Marks by numbers, one after the other.
use Rattle.std.specs.Prelude.{◌≡◌, ℕ, zero, suc, ◌+◌, ◌<◌, Bool, true, false, ◌||◌, nat_eq, List, [], ◌∷◌, ◌++◌, length, refl}
use Rattle.std.proofs.Common.{◌∙◌, ap, sym, arith, set, drop, inl, inr}
use Rattle.std.proofs.lemmas.Bool.{cases_eq, eq-eqb, ne_eqb}
use Rattle.p10_core.specs.WholePrograms.{is_among}
use Rattle.p10_elabs.specs.private.Marked.{is_marked}

-- one mark more that isn't set
pub more_room : (marks : List Bool) (n : ℕ) → is_marked (marks ++ false ∷ []) n ≡ is_marked marks n
more_room [] zero = refl
more_room [] (suc n) = refl
more_room (m ∷ marks) zero = refl
more_room (m ∷ marks) (suc n) = more_room marks n

marked_same : (marks : List Bool) (k : ℕ) → k < length marks → is_marked (set marks k true) k ≡ true
marked_same [] k h = absurd (omega (arith, h))
marked_same (m ∷ marks) zero h = refl
marked_same (m ∷ marks) (suc k) h = marked_same marks k (omega (arith, h))

marked_other : (marks : List Bool) (k n : ℕ) → (n ≡ k → ⊥) → is_marked (set marks k true) n ≡ is_marked marks n
marked_other [] k n h = refl
marked_other (m ∷ marks) zero zero h = absurd (h refl)
marked_other (m ∷ marks) zero (suc n) h = refl
marked_other (m ∷ marks) (suc k) zero h = refl
marked_other (m ∷ marks) (suc k) (suc n) h = marked_other marks k n (λ e. h (ap suc e))

or_true : (b : Bool) → true ≡ (b || true)
or_true true = refl
or_true false = refl

or_false : (b : Bool) → b ≡ (b || false)
or_false true = refl
or_false false = refl

-- a mark is set
pub one_marked : (marks : List Bool) (k n : ℕ) → k < length marks → is_marked (set marks k true) n ≡ (is_marked marks n || nat_eq n k)
one_marked marks k n h = elim (cases_eq n k) [
  | inl same ↦
      ap (is_marked (set marks k true)) same ∙ marked_same marks k h ∙ or_true (is_marked marks n) ∙ ap (λ b. is_marked marks n || b) (sym (eq-eqb n k same))
  | inr other ↦
      marked_other marks k n other ∙ or_false (is_marked marks n) ∙ ap (λ b. is_marked marks n || b) (sym (ne_eqb n k other))
]

or_assoc : (a b c : Bool) → ((a || b) || c) ≡ (a || (b || c))
or_assoc true b c = refl
or_assoc false b c = refl

-- one turn of the loop over a list
pub step_marked : (i : ℕ) (list : List ℕ) (k : ℕ) (old new : List Bool) → drop i list ≡ k ∷ drop (i + 1) list →
    ((n : ℕ) → is_marked new n ≡ (is_marked old n || nat_eq n k)) → ((n : ℕ) → (is_marked old n || is_among n (drop i list)) ≡ is_among n list) →
    (n : ℕ) → (is_marked new n || is_among n (drop (i + 1) list)) ≡ is_among n list
step_marked i list k old new cut one holds n =
    ap (λ b. b || is_among n (drop (i + 1) list)) (one n) ∙ or_assoc (is_marked old n) (nat_eq n k) (is_among n (drop (i + 1) list))
    ∙ sym (ap (λ xs. is_marked old n || is_among n xs) cut) ∙ holds n
