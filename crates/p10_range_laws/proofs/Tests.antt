-- The ends of rows of comparisons and of `!` are results.
use Rattle.std.proofs.Common.{◌≡◌, true, false, Bool as Flag, ap, subst, arith, ℤ, pos, ◌≤ℤ◌, ◌<ℤ◌, refl, Ok}
use Rattle.std.proofs.lemmas.Int.{ints, clamps}
use Rattle.std.specs.Prelude.{◌&&◌, ◌||◌, not, int_le, int_lt}
use Rattle.std.specs.Int.{int_max}
use Rattle.std.specs.Ordering.{int_eq}
use Rattle.p10_int.specs.declared.operators.BinOp.TheVariants.{Lt, Gt, Le, Ge, Eq, Ne}
use Rattle.p10_int.specs.declared.operators.UnOp.TheVariants.{Not}
use Rattle.p10_int.specs.Operators.{truth_of}
use Rattle.p10_range.specs.Ranges.{Interval, IsInhabited, IsMember}
use Rattle.p10_range.specs.Rows.{tested, can_be_less, can_be_at_most, can_be_equal, can_differ, only_zero}
use Rattle.p10_range.proofs.Signs.{le_true, le_false, lt_true, lt_false, of_le, of_not_le, of_lt, of_not_lt}
use Rattle.p10_range.proofs.Pairs.{lowest, highest}
use Rattle.p10_range_laws.specs.Tight.{Attains, AttainsUnary, TestsAreTight, NegatedTestsAreTight}

-- the ends of the row of a test: 1 where it can hold or its contrary can't, 0 where its contrary can
ends_tested : (P : ℤ → Type 0) (itself contrary : Flag) → (itself ≡ true → P (pos 1)) → (contrary ≡ true → P (pos 0)) → (contrary ≡ false → P (pos 1)) →
    P (tested itself contrary).low × P (tested itself contrary).high
ends_tested P true true p q r = (q refl, p refl)
ends_tested P false true p q r = (q refl, q refl)
ends_tested P true false p q r = (r refl, r refl)
ends_tested P false false p q r = (r refl, r refl)

-- two numbers of intervals on which a test comes out as f
record Pair (test : ℤ → ℤ → Flag) (a b : Interval) (f : Flag) : Type 0 where
  x : ℤ
  y : ℤ
  left : IsMember a x
  right : IsMember b y
  is : test x y ≡ f

-- ---- order
orders : (test : ℤ → ℤ → Flag) (a b : Interval) → IsInhabited a → IsInhabited b → (f : Flag) → test a.low b.high ≡ f → Pair test a b f
orders test a b i j f e = record { x = a.low; y = b.high; left = lowest a i; right = highest b j; is = e }

reverses : (test : ℤ → ℤ → Flag) (a b : Interval) → IsInhabited a → IsInhabited b → (f : Flag) → test a.high b.low ≡ f → Pair test a b f
reverses test a b i j f e = record { x = a.high; y = b.low; left = highest a i; right = lowest b j; is = e }

-- ---- equality
same : (x y : ℤ) → x ≡ y → int_eq x y ≡ true
same x y e = grind (arith, ints)

below : (x y : ℤ) → x <ℤ y → int_eq x y ≡ false
below x y h = grind (arith, ints)

above : (x y : ℤ) → y <ℤ x → int_eq x y ≡ false
above x y h = grind (arith, ints)

equal : (a b : Interval) → IsInhabited a → IsInhabited b → can_be_equal a b ≡ true → Pair int_eq a b true
equal a b i j e = by_tests (int_le a.low b.high) (int_le b.low a.high) refl refl e
  where
    at : (x : ℤ) → x ≡ int_max a.low b.low → a.low ≤ℤ b.high → b.low ≤ℤ a.high → Pair int_eq a b true
    at x f p q = record {
      x = x;
      y = x;
      left = record { above = omega (arith, ints, clamps, f); below = omega (arith, ints, clamps, f, i, q) };
      right = record { above = omega (arith, ints, clamps, f); below = omega (arith, ints, clamps, f, j, p) };
      is = same x x refl;
    }

    by_tests : (c d : Flag) → int_le a.low b.high ≡ c → int_le b.low a.high ≡ d → c && d ≡ true → Pair int_eq a b true
    by_tests true true c d e = at (int_max a.low b.low) refl (of_le _ _ c) (of_le _ _ d)
    by_tests true false c d e = absurd cc
    by_tests false d c e f = absurd cc

unequal : (a b : Interval) → IsInhabited a → IsInhabited b → can_be_equal a b ≡ false → Pair int_eq a b false
unequal a b i j e = by_tests (int_le a.low b.high) (int_le b.low a.high) refl refl e
  where
    by_tests : (c d : Flag) → int_le a.low b.high ≡ c → int_le b.low a.high ≡ d → c && d ≡ false → Pair int_eq a b false
    by_tests true true c d e = absurd cc
    by_tests true false c d e = reverses int_eq a b i j false (below a.high b.low (of_not_le b.low a.high d))
    by_tests false d c e f = orders int_eq a b i j false (above a.low b.high (of_not_le a.low b.high c))

differ : (a b : Interval) → IsInhabited a → IsInhabited b → can_differ a b ≡ true → Pair int_eq a b false
differ a b i j e = by_tests (int_lt a.low b.high) (int_lt b.low a.high) refl refl e
  where
    by_tests : (c d : Flag) → int_lt a.low b.high ≡ c → int_lt b.low a.high ≡ d → c || d ≡ true → Pair int_eq a b false
    by_tests true d c e f = orders int_eq a b i j false (below a.low b.high (of_lt a.low b.high c))
    by_tests false true c d e = reverses int_eq a b i j false (above a.high b.low (of_lt b.low a.high d))
    by_tests false false c d e = absurd cc

alike : (a b : Interval) → IsInhabited a → IsInhabited b → can_differ a b ≡ false → Pair int_eq a b true
alike a b i j e = by_tests (int_lt a.low b.high) (int_lt b.low a.high) refl refl e
  where
    by_tests : (c d : Flag) → int_lt a.low b.high ≡ c → int_lt b.low a.high ≡ d → c || d ≡ false → Pair int_eq a b true
    by_tests true d c e f = absurd cc
    by_tests false true c d e = absurd cc
    by_tests false false c d e =
        let p = of_not_lt a.low b.high c in
        let q = of_not_lt b.low a.high d in
        orders int_eq a b i j true (same a.low b.high (omega (arith, ints, i, j, p, q)))

-- ---- the laws
pub tests_are_tight : TestsAreTight
tests_are_tight Lt t a b c i j =
    ends_tested (Attains Lt t a b) (can_be_less a b) (can_be_at_most b a)
    (λ e. given true (orders int_lt a b i j true e))
    (λ e. given false (reverses int_lt a b i j false (lt_false a.high b.low (of_le b.low a.high e))))
    (λ e. given true (reverses int_lt a b i j true (lt_true a.high b.low (of_not_le b.low a.high e))))
  where
    given : (f : Flag) → Pair int_lt a b f → Attains Lt t a b (truth_of f)
    given f p = record { x = p.x; y = p.y; left = p.left; right = p.right; result = ap (λ (g : Flag). Ok (truth_of g)) p.is }
tests_are_tight Gt t a b c i j =
    ends_tested (Attains Gt t a b) (can_be_less b a) (can_be_at_most a b)
    (λ e. given true (reverses more a b i j true e))
    (λ e. given false (orders more a b i j false (lt_false b.high a.low (of_le a.low b.high e))))
    (λ e. given true (orders more a b i j true (lt_true b.high a.low (of_not_le a.low b.high e))))
  where
    more : ℤ → ℤ → Flag
    more x y = int_lt y x

    given : (f : Flag) → Pair more a b f → Attains Gt t a b (truth_of f)
    given f p = record { x = p.x; y = p.y; left = p.left; right = p.right; result = ap (λ (g : Flag). Ok (truth_of g)) p.is }
tests_are_tight Le t a b c i j =
    ends_tested (Attains Le t a b) (can_be_at_most a b) (can_be_less b a)
    (λ e. given true (orders int_le a b i j true e))
    (λ e. given false (reverses int_le a b i j false (le_false a.high b.low (of_lt b.low a.high e))))
    (λ e. given true (reverses int_le a b i j true (le_true a.high b.low (of_not_lt b.low a.high e))))
  where
    given : (f : Flag) → Pair int_le a b f → Attains Le t a b (truth_of f)
    given f p = record { x = p.x; y = p.y; left = p.left; right = p.right; result = ap (λ (g : Flag). Ok (truth_of g)) p.is }
tests_are_tight Ge t a b c i j =
    ends_tested (Attains Ge t a b) (can_be_at_most b a) (can_be_less a b)
    (λ e. given true (reverses least a b i j true e))
    (λ e. given false (orders least a b i j false (le_false b.high a.low (of_lt a.low b.high e))))
    (λ e. given true (orders least a b i j true (le_true b.high a.low (of_not_lt a.low b.high e))))
  where
    least : ℤ → ℤ → Flag
    least x y = int_le y x

    given : (f : Flag) → Pair least a b f → Attains Ge t a b (truth_of f)
    given f p = record { x = p.x; y = p.y; left = p.left; right = p.right; result = ap (λ (g : Flag). Ok (truth_of g)) p.is }
tests_are_tight Eq t a b c i j =
    ends_tested (Attains Eq t a b) (can_be_equal a b) (can_differ a b) (λ e. given true (equal a b i j e)) (λ e. given false (differ a b i j e)) (λ e. given true (alike a b i j e))
  where
    given : (f : Flag) → Pair int_eq a b f → Attains Eq t a b (truth_of f)
    given f p = record { x = p.x; y = p.y; left = p.left; right = p.right; result = ap (λ (g : Flag). Ok (truth_of g)) p.is }
tests_are_tight Ne t a b c i j =
    ends_tested (Attains Ne t a b) (can_differ a b) (can_be_equal a b) (λ e. given false (differ a b i j e)) (λ e. given true (equal a b i j e)) (λ e. given false (unequal a b i j e))
  where
    given : (f : Flag) → Pair int_eq a b f → Attains Ne t a b (truth_of (not f))
    given f p = record { x = p.x; y = p.y; left = p.left; right = p.right; result = ap (λ (g : Flag). Ok (truth_of (not g))) p.is }
tests_are_tight op t a b c i j = absurd cc

zero_there : IsInhabited only_zero
zero_there = omega (arith, ints)

pub negated_tests_are_tight : NegatedTestsAreTight
negated_tests_are_tight t a i =
    ends_tested (AttainsUnary Not t a) (can_be_equal a only_zero) (can_differ a only_zero)
    (λ e. given true (equal a only_zero i zero_there e)) (λ e. given false (differ a only_zero i zero_there e)) (λ e. given true (alike a only_zero i zero_there e))
  where
    given : (f : Flag) → Pair int_eq a only_zero f → AttainsUnary Not t a (truth_of f)
    given f p =
        let zero : p.y ≡ pos 0 = omega (arith, ints, p.right.above, p.right.below) in
        record { x = p.x; operand = p.left; result = ap (λ (g : Flag). Ok (truth_of g)) (subst (λ (y : ℤ). int_eq p.x y ≡ f) zero p.is) }
