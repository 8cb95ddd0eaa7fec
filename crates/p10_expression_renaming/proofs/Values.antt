-- Values that are the same: their types, and what constants give.
use Rattle.std.proofs.Common.{◌≡◌, not, Bool, true, false, Result, Ok, Err, ℤ, refl, ap}
use Rattle.std.specs.Prelude.{if◌then◌else◌, pos}
use Rattle.p10_base.specs.declared.at.At.{At}
use Rattle.p10_int.specs.declared.operators.Stop.{Stop}
use Rattle.p10_core.specs.declared.typed.LogicOp.TheVariants as both_sides
use Rattle.p10_core.specs.Typed.{PlainValue, PlainPlace, type_of, place_type}
use Rattle.p10_core.specs.Constants.{integer_of, or_place, folded_then, is_zero, truth_number, logic_result, is_small, unary_result, binary_result, fold}
use Rattle.p10_int.specs.Conversion.{converted}
use Rattle.p10_int.specs.Operators.{truth_of}
use Rattle.p10_core.specs.declared.typed.LogicOp.{LogicOp}
use Rattle.p10_renaming.specs.Renaming.{Pairing, SameType, SameValue, same_value, same_constant, same_read, same_sense, same_address, same_decay, same_convert, same_cast, same_unary, same_binary, same_logic, same_conditional, same_call, same_built_in, SamePlace, same_place}
use Rattle.p10_expression_renaming.proofs.Types.{integer_of_same}

pub type_same : (R : Pairing) {v w : PlainValue} → SameValue R v w → SameType R (type_of v) (type_of w)
type_same R (same_value h f) = h

pub place_type_same : (R : Pairing) {q r : PlainPlace} → SamePlace R q r → SameType R (place_type q) (place_type r)
place_type_same R (same_place h f) = h

-- ---- numbers

-- what constants give on both sides is the same; nothing is said where one of them stops
abbrev pub Folded : Result ℤ At → Result ℤ At → Type 0
Folded (Ok x) (Ok y) = x ≡ y
Folded (Ok x) (Err e) = Unit {0}
Folded (Err e) g = Unit {0}

stops_right : (f : Result ℤ At) (e : At) → Folded f (Err e)
stops_right (Ok x) e = tt
stops_right (Err r) e = tt

small_both : (b c : Bool) (f g : Result ℤ At) (e d : At) → Folded f g → Folded (if b then f else Err e) (if c then g else Err d)
small_both true true f g e d h = h
small_both true false f g e d h = stops_right f d
small_both false c f g e d h = tt

folded_both : (f g : Result ℤ At) (go went : ℤ → Result ℤ At) → Folded f g → ((x y : ℤ) → x ≡ y → Folded (go x) (went y)) → Folded (folded_then f go) (folded_then g went)
folded_both (Ok x) (Ok y) go went h each = each x y h
folded_both (Ok x) (Err e) go went h each = stops_right (go x) e
folded_both (Err e) g go went h each = tt

placed_both : (at to : At) (f g : Result ℤ Stop) → f ≡ g → Folded (or_place at f) (or_place to g)
placed_both at to (Ok x) (Ok y) h = cc
placed_both at to (Ok x) (Err e) h = tt
placed_both at to (Err e) g h = tt

-- one of two, by a number
either_both : (x y : ℤ) → x ≡ y → (a b c d : Result ℤ At) → Folded a c → Folded b d → Folded (if is_zero x then a else b) (if is_zero y then c else d)
either_both x y same a b c d h k = by_test (is_zero x) (is_zero y) (ap is_zero same)
  where
    by_test : (s t : Bool) → s ≡ t → Folded (if s then a else b) (if t then c else d)
    by_test true true e = h
    by_test true false e = absurd cc
    by_test false true e = absurd cc
    by_test false false e = k

truth_both : (x y : ℤ) → x ≡ y → Folded (truth_number x) (truth_number y)
truth_both x y same = λ i. truth_of (not (is_zero (same i)))

logic_both : (op : LogicOp) (a b c d : Result ℤ At) → Folded a c → Folded b d → Folded (logic_result op a b) (logic_result op c d)
logic_both both_sides.And a b c d h k = folded_both a c _ _ h (λ x y same. either_both x y same (Ok (pos 0)) (folded_then b truth_number) (Ok (pos 0)) (folded_then d truth_number) refl (folded_both b d truth_number truth_number k truth_both))
logic_both both_sides.Or a b c d h k = folded_both a c _ _ h (λ x y same. either_both x y same (folded_then b truth_number) (Ok (pos 1)) (folded_then d truth_number) (Ok (pos 1)) (folded_both b d truth_number truth_number k truth_both) refl)

pub fold_both : (R : Pairing) {v w : PlainValue} → SameValue R v w → Folded (fold v) (fold w)
fold_both R (same_value {at = at} {to = to} h (same_constant {z = z})) = small_both (is_small z) (is_small z) (Ok z) (Ok z) at to refl
fold_both R (same_value h (same_read k)) = tt
fold_both R (same_value h same_sense) = tt
fold_both R (same_value h (same_address k)) = tt
fold_both R (same_value h (same_decay k)) = tt
fold_both R (same_value h (same_convert {v = v} {w = w} k)) = folded_both (fold v) (fold w) _ _ (fold_both R k) (λ x y same. λ i. converted (integer_of_same R h i) (same i))
fold_both R (same_value h (same_cast {v = v} {w = w} k)) = folded_both (fold v) (fold w) _ _ (fold_both R k) (λ x y same. λ i. converted (integer_of_same R h i) (same i))
fold_both R (same_value {at = at} {to = to} h (same_unary {op = op} {v = v} {w = w} k)) =
    folded_both (fold v) (fold w) _ _ (fold_both R k) (λ x y same. placed_both at to (unary_result op (integer_of (type_of v)) x) (unary_result op (integer_of (type_of w)) y) (λ i. unary_result op (integer_of_same R (type_same R k) i) (same i)))
fold_both R (same_value {at = at} {to = to} h (same_binary {op = op} {a = a} {b = b} {c = c} {d = d} j k)) =
    folded_both (fold a) (fold c) _ _ (fold_both R j) (λ x y same. folded_both (fold b) (fold d) _ _ (fold_both R k)
    (λ u v also. placed_both at to (binary_result op (integer_of (type_of a)) x u) (binary_result op (integer_of (type_of c)) y v) (λ i. binary_result op (integer_of_same R (type_same R j) i) (same i) (also i))))
fold_both R (same_value h (same_logic {op = op} {a = a} {b = b} {c = c} {d = d} j k)) = logic_both op (fold a) (fold b) (fold c) (fold d) (fold_both R j) (fold_both R k)
fold_both R (same_value h (same_conditional {v = v} {w = w} {a = a} {b = b} {c = c} {d = d} g j k)) =
    folded_both (fold v) (fold w) _ _ (fold_both R g) (λ x y same. either_both x y same (fold b) (fold a) (fold d) (fold c) (fold_both R k) (fold_both R j))
fold_both R (same_value h (same_call k)) = tt
fold_both R (same_value h (same_built_in k)) = tt
