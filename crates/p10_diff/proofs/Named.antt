-- What names stand for lies in their ranges, and differences are at most their bounds.
use Rattle.std.proofs.Common.{◌≡◌, ℕ, Bool, true, false, List, refl, ◌∙◌, ap, sym, subst, Option, Some, None, slice_get, ℤ, pos, ◌+ℤ◌, ◌-ℤ◌, ◌≤ℤ◌, arith}
use Rattle.std.specs.Prelude.{IfSome, ◌&&◌, ◌||◌, if◌then◌else◌, nat_eq}
use Rattle.std.proofs.lemmas.Bool.{eqb-true, eqb-false}
use Rattle.std.proofs.lemmas.Int.{ints}
use Rattle.p10_int.specs.declared.types.IntType.{IntType}
use Rattle.p10_int.specs.Types.{InRange}
use Rattle.p10_int.proofs.Conversions.{zero_in}
use Rattle.p10_range.specs.Ranges.{Interval, IsMember}
use Rattle.p10_range.specs.Rows.{values_of}
use Rattle.p10_core.specs.Typed.{PlainVariable}
use Rattle.p10_core.specs.Constants.{integer_of}
use Rattle.p10_meaning.specs.Values.{Held}
use Rattle.p10_absx.specs.Abstract.{Abstract}
use Rattle.p10_absx.specs.Environments.{Environment, known}
use Rattle.p10_absx.specs.Describing.{set_to, DescribesOne, DescribesVariable, Describes}
use Rattle.p10_evaluation.proofs.Operating.{in_within}
use Rattle.p10_execution.proofs.Frames.{member_of_type}
use Rattle.p10_diff.specs.Bounds.{least, plus, kept, AtMost}
use Rattle.p10_diff.specs.Differences.{Name, now, was, same_name, number_or_zero, worth, Pair, has_name, Differences, range_of, range_named, top, bottom, bound, fallen}
use Rattle.p10_diff.specs.Domain.{distance_in, DescribesDifferences}
use Rattle.p10_diff.proofs.Bounds.{least_most, plus_most, kept_most, most_of, top_most, bottom_most}

-- ## Ranges

pub one_lies : (head : List Held) (kind : IntType) (n : ℕ) (a : Abstract) (o : Option ℤ) → DescribesOne head (values_of kind) n a o → IsMember a.range (number_or_zero o)
one_lies head kind n a (Some z) d = d.member
one_lies head kind n a None d = in_within (values_of kind) a.range (pos 0) d.range (member_of_type kind (pos 0) (zero_in kind))

-- a variable that is described lies in its range, as 0 where it is unset
pub variable_lies : {variables : List PlainVariable} (env : Environment) (head held : List Held) → Describes variables env head held → (n : ℕ) (a : Abstract) → known env n ≡ Some a → IsMember a.range (worth head held (now n))
variable_lies {variables} env head held d n a e = let v : DescribesVariable variables head held n a = d.each n a e in one_lies head (integer_of v.variable.type) n a (set_to held n) v.describes

pub if_lies : (b : Bool) (o : Option Abstract) (z : ℤ) → ((a : Abstract) → o ≡ Some a → IsMember a.range z) → IfSome (if b then range_of o else None) (λ r. IsMember r z)
if_lies true None z f = tt
if_lies true (Some a) z f = f a refl
if_lies false o z f = tt

-- ## Names

pub both_true : (a b : Bool) → (a && b) ≡ true → (a ≡ true) × (b ≡ true)
both_true true b e = (refl, e)
both_true false b e = absurd cc

same_worth : (head held : List Held) (u w : Name) → same_name u w ≡ true → worth head held u ≡ worth head held w
same_worth head held (now n) (now m) e = ap (λ k. worth head held (now k)) (eqb-true n m e)
same_worth head held (was n) (was m) e = ap (λ k. worth head held (was k)) (eqb-true n m e)
same_worth head held (now n) (was m) e = absurd cc
same_worth head held (was n) (now m) e = absurd cc

pub if_most : (z : ℤ) (b : Bool) (x y : Option ℤ) → (b ≡ true → AtMost z x) → (b ≡ false → AtMost z y) → AtMost z (if b then x else y)
if_most z true x y f g = f refl
if_most z false x y f g = g refl

none_apart : (x y : ℤ) → x ≡ y → (x -ℤ y) ≤ℤ pos 0
none_apart x y e = omega (arith, ints, e)

pub apart : (x y : ℤ) → (x -ℤ y) ≡ (x +ℤ (pos 0 -ℤ y))
apart x y = omega (arith, ints)

-- of a number of a range, and another one
pub range_most : (x y : ℤ) (r s : Option Interval) → IfSome r (λ r. IsMember r x) → IfSome s (λ s. IsMember s y) → AtMost (x -ℤ y) (plus (top r) (bottom s))
range_most x y r s h k = most_of (x -ℤ y) (x +ℤ (pos 0 -ℤ y)) (plus (top r) (bottom s)) (apart x y) (plus_most x (pos 0 -ℤ y) (top r) (bottom s) (top_most x r h) (bottom_most y s k))

-- what is known by ranges of names, where a frame is described
pub name_lies : (p : Pair) (ranges : Environment) (head held : List Held) → Describes p.variables ranges head held → ((n : ℕ) (a : Abstract) → known p.head n ≡ Some a → IsMember a.range (worth head held (was n))) →
    (w : Name) → IfSome (range_named p ranges w) (λ r. IsMember r (worth head held w))
name_lies p ranges head held d before (now n) = if_lies (has_name p n) (known ranges n) (worth head held (now n)) (λ a e. variable_lies ranges head held d n a e)
name_lies p ranges head held d before (was n) = if_lies (has_name p n) (known p.head n) (worth head held (was n)) (λ a e. before n a e)

pub same_apart : (head held : List Held) (u w : Name) → same_name u w ≡ true → (worth head held u -ℤ worth head held w) ≤ℤ pos 0
same_apart head held u w e = none_apart (worth head held u) (worth head held w) (same_worth head held u w e)

module _ (p : Pair) (e : Differences) (head held : List Held) (d : DescribesDifferences p e head held) where
  pub lies : (w : Name) → IfSome (range_named p e.ranges w) (λ r. IsMember r (worth head held w))
  lies w = name_lies p e.ranges head held d.ranges.describes d.before w

  pub bounded : (u w : Name) → AtMost (worth head held u -ℤ worth head held w) (bound p e u w)
  bounded u w = if_most (worth head held u -ℤ worth head held w) (same_name u w) (Some (pos 0)) (kept (least (e.bounds u w) (plus (top (range_named p e.ranges u)) (bottom (range_named p e.ranges w)))))
      (λ q. same_apart head held u w q)
      (λ q. kept_most (worth head held u -ℤ worth head held w) (least (e.bounds u w) (plus (top (range_named p e.ranges u)) (bottom (range_named p e.ranges w))))
      (least_most (worth head held u -ℤ worth head held w) (e.bounds u w) (plus (top (range_named p e.ranges u)) (bottom (range_named p e.ranges w))) (d.bounds u w)
      (range_most (worth head held u) (worth head held w) (range_named p e.ranges u) (range_named p e.ranges w) (lies u) (lies w))))

  both_ways : (y x y0 x0 : ℤ) → ((y -ℤ x) -ℤ (y0 -ℤ x0)) ≡ ((y -ℤ y0) +ℤ (x0 -ℤ x))
  both_ways y x y0 x0 = omega (arith, ints)

  pub falls_most : AtMost (distance_in p head held -ℤ distance_in p head head) (fallen p e)
  falls_most = least_most (distance_in p head held -ℤ distance_in p head head) e.fall (plus (bound p e (now p.above) (was p.above)) (bound p e (was p.below) (now p.below))) d.fall
      (most_of (distance_in p head held -ℤ distance_in p head head)
      ((worth head held (now p.above) -ℤ worth head held (was p.above)) +ℤ (worth head held (was p.below) -ℤ worth head held (now p.below)))
      (plus (bound p e (now p.above) (was p.above)) (bound p e (was p.below) (now p.below)))
      (both_ways (worth head held (now p.above)) (worth head held (now p.below)) (worth head held (was p.above)) (worth head held (was p.below)))
      (plus_most (worth head held (now p.above) -ℤ worth head held (was p.above)) (worth head held (was p.below) -ℤ worth head held (now p.below))
      (bound p e (now p.above) (was p.above)) (bound p e (was p.below) (now p.below)) (bounded (now p.above) (was p.above)) (bounded (was p.below) (now p.below))))

-- the same of names that are the same
pub moved : (head held : List Held) (u w a b : Name) (c : ℤ) → (same_name u a && same_name w b) ≡ true → (worth head held u -ℤ worth head held w) ≤ℤ c → (worth head held a -ℤ worth head held b) ≤ℤ c
moved head held u w a b c q h =
    let both = both_true (same_name u a) (same_name w b) q in
    subst (λ z. (z -ℤ worth head held b) ≤ℤ c) (same_worth head held u a both.0) (subst (λ z. (worth head held u -ℤ z) ≤ℤ c) (same_worth head held w b both.1) h)
