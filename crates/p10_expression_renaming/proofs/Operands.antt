-- Operands that are the same, as values.
use Rattle.std.proofs.Common.{List}
use Rattle.p10_core.specs.Types.{PlainType, PlainStructure}
use Rattle.p10_core.specs.Typed.{PlainValue, value, convert, PlainPlace, at_of, type_of}
use Rattle.p10_core.specs.Rows.{same}
use Rattle.p10_elabx.specs.declared.operand.PlaceKind.{PlaceKind}
use Rattle.p10_elabx.specs.declared.operand.PlaceKind.TheVariants.{Object, Frame, Sensor}
use Rattle.p10_elabx.specs.First.{Judged}
use Rattle.p10_elabx.specs.Scopes.{PlainScope}
use Rattle.p10_elabx.specs.Operands.{PlainOperand, sensed, read_form, read_value, place_value, operand_value, not_void, any_value, as_value, converted}
use Rattle.p10_elabx.specs.Judging.{value_in}
use Rattle.p10_renaming.specs.Renaming.{Pairing, SameType, same_array, same_pointer, SameValue, same_value, SameParameterType, SameArgument, same_as_value, same_as_parameter, passing, SameForm, same_read, same_sense, same_decay, same_convert, SamePlace, same_place, same_global}
use Rattle.p10_expression_renaming.specs.Knowing.{Ruling, SameOperand, same_a_value, same_a_place, same_a_function, IsOneToOne}
use Rattle.p10_expression_renaming.proofs.Finding.{by_same, when_ok, unless_ok, on_both, part_both, Alike}
use Rattle.p10_expression_renaming.proofs.Types.{one_same, unqualified_same, passing_one, type_passed, parameter_type}
use Rattle.p10_expression_renaming.proofs.Values.{type_same, place_type_same}

-- a value that is converted
pub converted_both : (R : Pairing) → IsOneToOne R → (v w : PlainValue) (t u : PlainType) → SameValue R v w → SameType R t u → SameValue R (converted v t) (converted w u)
converted_both R one v w t u h k =
    by_same (SameValue R) (same (type_of v) t) (same (type_of w) u) (one_same R one (type_same R h) k) v (value (at_of v) t (convert v)) w (value (at_of w) u (convert w)) h (same_value k (same_convert h))

-- so is an argument, to the type of its parameter
pub argument_converted : (R : Pairing) → IsOneToOne R → (v w : PlainValue) (t u : PlainType) → SameValue R v w → SameParameterType (passing R) t u → SameArgument R (converted v t) (converted w u)
argument_converted R one v w t u h k =
    by_same (SameArgument R) (same (type_of v) t) (same (type_of w) u) (one_same (passing R) (passing_one R one) (type_passed R one (type_same R h)) (parameter_type (passing R) k))
    v (value (at_of v) t (convert v)) w (value (at_of w) u (convert w)) (same_as_value h) (same_as_parameter k (same_convert h))

sensed_both : (R : Pairing) {q r : PlainPlace} → SamePlace R q r → SameForm R (sensed q) (sensed r)
sensed_both R (same_place h same_global) = same_sense
sensed_both R (same_place h f) = same_read (same_place h f)

form_both : (R : Pairing) (kind : PlaceKind) {q r : PlainPlace} → SamePlace R q r → SameForm R (read_form kind q) (read_form kind r)
form_both R Sensor h = sensed_both R h
form_both R Frame h = same_read h
form_both R Object h = same_read h

read_both : (R : Pairing) (these others : List PlainStructure) (kind : PlaceKind) {q r : PlainPlace} → SamePlace R q r → Ruling (SameValue R) (read_value these kind q) (read_value others kind r)
read_both R these others kind h = when_ok (SameValue R) _ _ _ _ _ _ _ (same_value (unqualified_same R (place_type_same R h)) (form_both R kind h))

pub place_value_both : (R : Pairing) (these others : List PlainStructure) (kind : PlaceKind) {q r : PlainPlace} → SamePlace R q r → Ruling (SameValue R) (place_value these kind q) (place_value others kind r)
place_value_both R these others kind (same_place {at = at} {to = to} (same_array h) f) = same_value (same_pointer h) (same_decay (same_place {at = at} {to = to} (same_array h) f))
place_value_both R these others kind (same_place {at = at} {to = to} h f) = read_both R these others kind (same_place {at = at} {to = to} h f)

pub operand_value_both : (R : Pairing) (these others : List PlainStructure) (o k : PlainOperand) → SameOperand R o k → Ruling (SameValue R) (operand_value these o) (operand_value others k)
operand_value_both R these others o k (same_a_value h) = h
operand_value_both R these others o k (same_a_place {kind = kind} h) = place_value_both R these others kind h
operand_value_both R these others o k same_a_function = tt

pub not_void_both : (R : Pairing) (v w : PlainValue) → SameValue R v w → Ruling (SameValue R) (not_void v) (not_void w)
not_void_both R v w h = unless_ok (SameValue R) _ _ _ _ _ _ _ h

pub any_value_both : (R : Pairing) (these others : List PlainStructure) (j k : Judged PlainOperand) → Alike (SameOperand R) j k → Alike (SameValue R) (any_value these j) (any_value others k)
unfolding any_value
any_value_both R these others j k a = on_both (SameOperand R) (SameValue R) j.found k.found (operand_value these) (operand_value others) a (operand_value_both R these others)

pub as_value_both : (R : Pairing) (these others : List PlainStructure) (j k : Judged PlainOperand) → Alike (SameOperand R) j k → Alike (SameValue R) (as_value these j) (as_value others k)
unfolding as_value
as_value_both R these others j k a = part_both (SameValue R) (SameValue R) (any_value these j) (any_value others k) not_void not_void (any_value_both R these others j k a) (not_void_both R)

pub value_in_both : (R : Pairing) (s t : PlainScope) (j k : Judged PlainOperand) → Alike (SameOperand R) j k → Alike (SameValue R) (value_in s j) (value_in t k)
value_in_both R s t j k a = as_value_both R s.structures t.structures j k a
