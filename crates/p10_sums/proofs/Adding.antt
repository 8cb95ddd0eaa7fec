-- Sums that stop at the least number that is too great.
use Rattle.std.proofs.Common.{◌≡◌, ℕ, zero, suc, ◌+◌, ◌*◌, ◌≤◌, min, max, Bool, true, false, refl, sym, ◌∙◌, ap, subst, arith, ◌⊎◌, inl, inr}
use Rattle.std.specs.Prelude.{◌||◌}
use Rattle.std.proofs.Math.Bool.{or_assoc}
use Rattle.std.proofs.Math.Nat.{suc-mul, zero-mul}
use Rattle.p10_base.specs.declared.report.TheConstants.Limit.{MOST_SUM}
use Rattle.p10_sums.specs.declared.tally.Tally.{Tally}
use Rattle.p10_sums.specs.private.Tallies.{capped, no_tally, some_steps, in_turn}

-- the steps are no more than the least that are too many
pub record IsSmall (t : Tally) : Type 0 where
  pub most : t.steps ≤ MOST_SUM + 1

pub capped_twice : (n : ℕ) → capped (capped n) ≡ capped n
unfolding capped
capped_twice n = omega arith

pub capped_sum : (a b : ℕ) → capped (capped a + capped b) ≡ capped (a + b)
unfolding capped
capped_sum a b = omega arith

pub capped_max : (a b : ℕ) → max (capped a) (capped b) ≡ capped (max a b)
unfolding capped
capped_max a b = omega arith

pub capped_left : (a b : ℕ) → capped (capped a + b) ≡ capped (a + b)
unfolding capped
capped_left a b = omega arith

pub capped_right : (a b : ℕ) → capped (a + capped b) ≡ capped (a + b)
unfolding capped
capped_right a b = omega arith

plus_assoc : (a b c : ℕ) → capped (capped (a + b) + c) ≡ capped (a + capped (b + c))
plus_assoc a b c = capped_left (a + b) c ∙ (ap capped regroup ∙ sym (capped_right a (b + c)))
  where
    regroup : (a + b) + c ≡ a + (b + c)
    regroup = omega arith

either_way : (a b : ℕ) → (a ≤ b) ⊎ (b ≤ a)
either_way zero b = inl (omega arith)
either_way (suc a) zero = inr (omega arith)
either_way (suc a) (suc b) = elim (either_way a b) [ inl h ↦ inl (omega (arith, h)) | inr h ↦ inr (omega (arith, h)) ]

few : (a : ℕ) → a ≤ MOST_SUM + 1 → capped a ≡ a
unfolding capped
few a h = omega arith

many : (a : ℕ) → MOST_SUM + 1 ≤ a → capped a ≡ MOST_SUM + 1
unfolding capped
many a h = omega arith

no_fewer : (n a : ℕ) → a ≤ suc n * a
no_fewer n a = subst (λ m. a ≤ m) (sym (suc-mul n a)) (omega arith)

-- a product of a capped number, capped
pub capped_product : (n a : ℕ) → capped (n * capped a) ≡ capped (n * a)
capped_product zero a = ap capped (zero-mul (capped a) ∙ sym (zero-mul a))
capped_product (suc n) a = elim (either_way a (MOST_SUM + 1)) [
  | inl h ↦ ap (λ m. capped (suc n * m)) (few a h)
  | inr h ↦ ap (λ m. capped (suc n * m)) (many a h) ∙ (many (suc n * (MOST_SUM + 1)) (no_fewer n (MOST_SUM + 1)) ∙ sym (many (suc n * a) (le_trans (MOST_SUM + 1) a (suc n * a) h (no_fewer n a))))
]
  where
    le_trans : (x y z : ℕ) → x ≤ y → y ≤ z → x ≤ z
    le_trans x y z p q = omega (arith, p, q)

max_regroup : (a b c : ℕ) → max (max a b) c ≡ max a (max b c)
max_regroup a b c = omega arith

pub in_turn_assoc : (a b c : Tally) → in_turn (in_turn a b) c ≡ in_turn a (in_turn b c)
unfolding in_turn
in_turn_assoc a b c = λ i. record {
  steps = plus_assoc a.steps b.steps c.steps i;
  calls = max_regroup a.calls b.calls c.calls i;
  bytes = max_regroup a.bytes b.bytes c.bytes i;
  alloc = or_assoc a.alloc b.alloc c.alloc i;
}

pub none_is_small : IsSmall no_tally
unfolding no_tally
none_is_small = record { most = omega arith }

pub in_turn_is_small : (a b : Tally) → IsSmall (in_turn a b)
unfolding in_turn capped
in_turn_is_small a b = record { most = omega arith }

pub none_first : (a : Tally) → IsSmall a → in_turn no_tally a ≡ a
unfolding in_turn no_tally capped
none_first a s = λ i. record {
  steps = small a.steps s.most i;
  calls = none a.calls i;
  bytes = none a.bytes i;
  alloc = a.alloc;
}
  where
    small : (n : ℕ) → n ≤ MOST_SUM + 1 → min (0 + n) (MOST_SUM + 1) ≡ n
    small n h = omega arith

    none : (n : ℕ) → max 0 n ≡ n
    none n = omega arith

pub none_last : (a : Tally) → IsSmall a → in_turn a no_tally ≡ a
unfolding in_turn no_tally capped
none_last a s = λ i. record {
  steps = small a.steps s.most i;
  calls = none a.calls i;
  bytes = none a.bytes i;
  alloc = no_more a.alloc i;
}
  where
    small : (n : ℕ) → n ≤ MOST_SUM + 1 → min (n + 0) (MOST_SUM + 1) ≡ n
    small n h = omega arith

    none : (n : ℕ) → max n 0 ≡ n
    none n = omega arith

    no_more : (b : Bool) → (b || false) ≡ b
    no_more true = refl
    no_more false = refl

-- steps that were capped before
pub steps_once : (n m : ℕ) (t : Tally) → m ≡ capped n → t ≡ some_steps m → t ≡ some_steps n
unfolding some_steps
steps_once n m t e f = f ∙ (λ i. record { steps = (ap capped e ∙ capped_twice n) i; calls = 0; bytes = 0; alloc = false })
