-- The ends of rows of quotients and of shifts to the right are results.
use Rattle.std.proofs.Common.{◌≡◌, zero, suc, ◌-◌, ◌<◌, true, false, Bool as Flag, ap, sym, ◌∙◌, arith, ℤ, pos, negsuc, ◌≤ℤ◌, ◌<ℤ◌, refl, subst, Option, Some, None, Ok, Err, lit<}
use Rattle.std.proofs.lemmas.Int.{ints, clamps}
use Rattle.std.specs.Prelude.{◌&&◌, if◌then◌else◌, int_div, int_le, IfSome}
use Rattle.std.specs.Option.{option_map}
use Rattle.std.specs.Ordering.{int_eq}
use Rattle.std.specs.Int.{int_min, int_max}
use Rattle.p10_int.specs.declared.types.IntType.{IntType}
use Rattle.p10_int.specs.declared.types.IntType.TheVariants.{Bool, Char, SChar, UChar, Short, UShort, Int, UInt, Long, ULong, LLong, ULLong}
use Rattle.p10_int.specs.declared.operators.Stop.TheVariants.{U1, U2, U3}
use Rattle.p10_int.specs.declared.operators.BinOp.TheVariants.{Div, Shr}
use Rattle.p10_int.specs.Types.{width_of, promoted}
use Rattle.p10_int.specs.Operators.{fitted, quotient, is_shift_count, shifted_right}
use Rattle.p10_range.specs.Ranges.{Interval, from_to, IsMember, IsWithin}
use Rattle.p10_range.specs.Rows.{values_of, clipped, up_to_magnitude, quotients, quotients_at_ends, halved, shift_counts, shifts_right, at_ends}
use Rattle.p10_range.proofs.Small.{member_in}
use Rattle.p10_range.proofs.Signs.{le_true, lt_true, lt_false, of_not_le}
use Rattle.p10_range.proofs.Holding.{met}
use Rattle.p10_range.proofs.Growing.{inhabited_gives, quotient_member}
use Rattle.p10_range.proofs.Pairs.{fitted_goes, lowest, highest}
use Rattle.p10_range_laws.specs.Tight.{Attains, QuotientsAreTight, RightShiftsAreTight}
use Rattle.p10_range_laws.proofs.Products.{corners}

-- ---- shifts
has_width : (t : IntType) → 0 < width_of (promoted t)
has_width Bool = lit< tt
has_width Char = lit< tt
has_width SChar = lit< tt
has_width UChar = lit< tt
has_width Short = lit< tt
has_width UShort = lit< tt
has_width Int = lit< tt
has_width UInt = lit< tt
has_width Long = lit< tt
has_width ULong = lit< tt
has_width LLong = lit< tt
has_width ULLong = lit< tt

-- a count of an interval by which a value may be shifted
record Count (t : IntType) (b : Interval) (n : ℤ) : Type 0 where
  member : IsMember b n
  counts : is_shift_count t n ≡ true

-- the ends of the counts are such
counts_are : (t : IntType) (b n : Interval) → shift_counts t b ≡ Some n → Count t b n.low × Count t b n.high
counts_are t b n e =
    let all = from_to (pos 0) (pos (width_of (promoted t) - 1)) in
    let g = inhabited_gives (met b all) n e in
    let l : n.low ≡ int_max b.low (pos 0) = ap (λ (k : Interval). k.low) g.0 in
    let h : n.high ≡ int_min b.high (pos (width_of (promoted t) - 1)) = ap (λ (k : Interval). k.high) g.0 in
    let w = has_width t in (
      counted n.low (record { above = omega (arith, ints, clamps, l); below = omega (arith, ints, clamps, l, h, g.1) }) (omega (arith, ints, clamps, l)) (omega (arith, ints, clamps, h, g.1, w)),
      counted n.high (record { above = omega (arith, ints, clamps, l, h, g.1); below = omega (arith, ints, clamps, h) }) (omega (arith, ints, clamps, l, g.1)) (omega (arith, ints, clamps, h, w)),
    )
  where
    both : (c d : Flag) → c ≡ true → d ≡ true → c && d ≡ true
    both true true c d = refl
    both true false c d = absurd cc
    both false d c e = absurd cc

    counted : (k : ℤ) → IsMember b k → pos 0 ≤ℤ k → k <ℤ pos (width_of (promoted t)) → Count t b k
    counted k m p q = record { member = m; counts = both _ _ (le_true (pos 0) k p) (lt_true k (pos (width_of (promoted t))) q) }

halves : (t : IntType) (a b : Interval) (x n : ℤ) → IsMember a x → Count t b n → Attains Shr t a b (halved x n)
unfolding shifted_right
halves t a b x n m c = record { x = x; y = n; left = m; right = c.member; result = ap (λ (k : Flag). if k then Ok (halved x n) else Err U3) c.counts }

pub shifts_are_tight : RightShiftsAreTight
unfolding shifts_right
shifts_are_tight t a b i = by_counts (shift_counts t b) (λ n e. counts_are t b n e)
  where
    by_counts : (o : Option Interval) → ((n : Interval) → o ≡ Some n → Count t b n.low × Count t b n.high) →
        IfSome (option_map (at_ends halved a) o) (λ r. Attains Shr t a b r.low × Attains Shr t a b r.high)
    by_counts None h = tt
    by_counts (Some n) h =
        let c = h n refl in
        corners (Attains Shr t a b) halved a n
        (halves t a b a.low n.low (lowest a i) c.0) (halves t a b a.low n.high (lowest a i) c.1)
        (halves t a b a.high n.low (highest a i) c.0) (halves t a b a.high n.high (highest a i) c.1)

-- ---- quotients by divisors that aren't negative
not_zero : (y : ℤ) → pos 0 <ℤ y → int_eq y (pos 0) ≡ false
not_zero (pos zero) h = absurd (omega (arith, ints, h))
not_zero (pos (suc n)) h = grind (arith, ints)
not_zero (negsuc n) h = absurd (omega (arith, ints, h))

divides : (t : IntType) (a b : Interval) (x y : ℤ) → IsWithin a (values_of t) → IsMember a x → IsMember b y → pos 0 <ℤ y → Attains Div t a b (int_div x y)
unfolding quotient
divides t a b x y w m n p =
    let v = quotient_member t x y (member_in t a x w m) (omega (arith, ints, p)) in
    record {
      x = x;
      y = y;
      left = m;
      right = n;
      result = ap (λ (z : Flag). if z then Err U2 else fitted t U1 (int_div x y)) (not_zero y p)
          ∙ fitted_goes t U1 (int_div x y) (record { low = v.above; high = v.below });
    }

pub quotients_are_tight : QuotientsAreTight
unfolding quotients
quotients_are_tight t a b i j w p =
    subst (λ (c : Flag). IfSome (if c then clipped t (up_to_magnitude a) else (if int_le b.high (pos 0) then None else Some (quotients_at_ends a b))) ends)
    (sym (lt_false b.low (pos 0) p)) (by_high (int_le b.high (pos 0)) refl)
  where
    ends : Interval → Type 0
    ends r = Attains Div t a b r.low × Attains Div t a b r.high

    by_high : (o : Flag) → int_le b.high (pos 0) ≡ o → IfSome (if o then None else Some (quotients_at_ends a b)) ends
    by_high true e = tt
    by_high false e =
        let h = of_not_le b.high (pos 0) e in
        let d : int_max b.low (pos 1) ≤ℤ b.high = omega (arith, ints, clamps, h, j) in
        let l : IsMember b (int_max b.low (pos 1)) = record { above = omega (arith, ints, clamps); below = d } in
        let o : pos 0 <ℤ int_max b.low (pos 1) = omega (arith, ints, clamps) in
        corners (Attains Div t a b) int_div a (from_to (int_max b.low (pos 1)) b.high)
        (divides t a b a.low _ w (lowest a i) l o) (divides t a b a.low b.high w (lowest a i) (highest b j) h)
        (divides t a b a.high _ w (highest a i) l o) (divides t a b a.high b.high w (highest a i) (highest b j) h)
