-- What is asked of a function's variables, of names and of bounds is the same of erased variables.
use Rattle.std.proofs.Common.{◌≡◌, ◌∙◌, ℕ, ◌&&◌, map, Option, Some, None, option_map, refl, ap}
use Rattle.std.specs.Prelude.{ℤ, pos, slice_get, if◌then◌else◌}
use Rattle.std.proofs.lemmas.Option.{slice_get-map}
use Rattle.p10_range.specs.Ranges.{Interval}
use Rattle.p10_core.specs.Typed.{PlainVariable, PlainProgram}
use Rattle.p10_absx.specs.Abstract.{whole_type}
use Rattle.p10_absx.specs.Environments.{Environment, known, learned, out_of_scope, hull_environment}
use Rattle.p10_diff.specs.Bounds.{least, greatest, plus, kept}
use Rattle.p10_diff.specs.Differences.{Name, now, was, same_name, Pair, is_wide, has_name_in, has_name, is_either, is_name, of_name, Differences, range_of, range_named, top, bottom, bound, fallen, hull_bound, named_by}
use Rattle.p10_diff.specs.Domain.{kind_in, declared, seen, hull, hull_maybe}
use Rattle.p10_diff.specs.Expressions.{range_up, range_low, named_up, named_low}
use Rattle.p10_views.specs.Erased.{erased_variable}
use Rattle.p10_views.proofs.Types.{integer_erased, kind_erased}

abbrev pub erased_pair : PlainProgram → Pair → Pair
erased_pair p q = record q { variables = map (erased_variable p) q.variables }

in_variable : (p : PlainProgram) (v : Option PlainVariable) → has_name_in (option_map (erased_variable p) v) ≡ has_name_in v
in_variable p None = refl
in_variable p (Some v) = λ i. v.frame && (integer_erased p v.type i && is_wide (kind_erased p v.type i))

pub has_same : (p : PlainProgram) (q : Pair) (n : ℕ) → has_name (erased_pair p q) n ≡ has_name q n
has_same p q n = ap has_name_in (slice_get-map (erased_variable p) q.variables n) ∙ in_variable p (slice_get q.variables n)

pub is_same : (p : PlainProgram) (q : Pair) (u : Name) → is_name (erased_pair p q) u ≡ is_name q u
is_same p q (now n) = has_same p q n
is_same p q (was n) = λ i. has_same p q n i && is_either q n

pub of_same : (p : PlainProgram) (q : Pair) (u : Name) (b : Option ℤ) → of_name (erased_pair p q) u b ≡ of_name q u b
of_same p q u b = λ i. if is_same p q u i then b else None

pub range_same : (p : PlainProgram) (q : Pair) (ranges : Environment) (u : Name) → range_named (erased_pair p q) ranges u ≡ range_named q ranges u
range_same p q ranges (now n) = λ i. if has_same p q n i then range_of (known ranges n) else None
range_same p q ranges (was n) = λ i. if has_same p q n i then range_of (known q.head n) else None

pub bound_same : (p : PlainProgram) (q : Pair) (e : Differences) (u w : Name) → bound (erased_pair p q) e u w ≡ bound q e u w
bound_same p q e u w = λ i. if same_name u w then Some (pos 0) else kept (least (e.bounds u w) (plus (top (range_same p q e.ranges u i)) (bottom (range_same p q e.ranges w i))))

pub fallen_same : (p : PlainProgram) (q : Pair) (e : Differences) → fallen (erased_pair p q) e ≡ fallen q e
fallen_same p q e = λ i. least e.fall (plus (bound_same p q e (now q.above) (was q.above) i) (bound_same p q e (was q.below) (now q.below) i))

pub hull_same : (p : PlainProgram) (q : Pair) (a b : Differences) → hull (erased_pair p q) a b ≡ hull q a b
hull_same p q a b = λ i. record {
  ranges = hull_environment a.ranges b.ranges;
  bounds = λ u w. hull_bound (a.bounds u w) (b.bounds u w) (bound_same p q a u w i) (bound_same p q b u w i);
  fall = kept (greatest (fallen_same p q a i) (fallen_same p q b i));
}

pub hull_maybe_same : (p : PlainProgram) (q : Pair) (a b : Option Differences) → hull_maybe (erased_pair p q) a b ≡ hull_maybe q a b
hull_maybe_same p q None b = refl
hull_maybe_same p q (Some a) None = refl
hull_maybe_same p q (Some a) (Some b) = λ i. Some (hull_same p q a b i)

pub named_by_same : (p : PlainProgram) (q : Pair) (o : Option ℕ) → named_by (erased_pair p q) o ≡ named_by q o
named_by_same p q None = refl
named_by_same p q (Some n) = λ i. if has_same p q n i then Some n else None

pub named_up_same : (p : PlainProgram) (q : Pair) (e : Differences) (o : Option ℕ) (w : Name) → named_up (erased_pair p q) e o w ≡ named_up q e o w
named_up_same p q e None w = refl
named_up_same p q e (Some n) w = bound_same p q e (now n) w

pub named_low_same : (p : PlainProgram) (q : Pair) (e : Differences) (o : Option ℕ) (w : Name) → named_low (erased_pair p q) e o w ≡ named_low q e o w
named_low_same p q e None w = refl
named_low_same p q e (Some n) w = bound_same p q e w (now n)

pub range_up_same : (p : PlainProgram) (q : Pair) (ranges : Environment) (r : Option Interval) (w : Name) → range_up (erased_pair p q) ranges r w ≡ range_up q ranges r w
range_up_same p q ranges r w = λ i. plus (top r) (bottom (range_same p q ranges w i))

pub range_low_same : (p : PlainProgram) (q : Pair) (ranges : Environment) (r : Option Interval) (w : Name) → range_low (erased_pair p q) ranges r w ≡ range_low q ranges r w
range_low_same p q ranges r w = λ i. plus (top (range_same p q ranges w i)) (bottom r)

kind_of : (p : PlainProgram) (v : Option PlainVariable) → kind_in (option_map (erased_variable p) v) ≡ kind_in v
kind_of p None = refl
kind_of p (Some v) = kind_erased p v.type

pub seen_same : (p : PlainProgram) (q : Pair) (n : ℕ) (e : Differences) → seen (erased_pair p q) n e ≡ seen q n e
seen_same p q n e = λ i. declared q n e (learned (out_of_scope e.ranges n) n (whole_type ((ap kind_in (slice_get-map (erased_variable p) q.variables n) ∙ kind_of p (slice_get q.variables n)) i)))
