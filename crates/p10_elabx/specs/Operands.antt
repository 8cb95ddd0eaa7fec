-- Operands: values, places and functions' names, and what becomes of them as values (C99 6.3.2.1).
use Rattle.std.specs.Prelude.{Bool, true, false, not, ◌&&◌, ◌||◌, Ok, if◌then◌else◌, List}
use Rattle.p10_base.specs.declared.at.At.{At}
use Rattle.p10_base.specs.declared.codes.SubsetCode.TheVariants as subset
use Rattle.p10_core.specs.Types.{PlainType, pointer, array, unqualified, PlainStructure}
use Rattle.p10_core.specs.Typed.{PlainValue, value, PlainForm, read, sense, decay, convert, PlainPlace, place, global, at_of, type_of, place_at, place_type}
use Rattle.p10_core.specs.Rows.{same, is_void, is_array, is_complete}
use Rattle.p10_elabx.specs.declared.operand.PlaceKind.{PlaceKind}
use Rattle.p10_elabx.specs.declared.operand.PlaceKind.TheVariants.{Object, Frame, Sensor}
use Rattle.p10_elabx.specs.First.{Found, Ruled, refused, Judged, on, on_part}

-- an operand: a value; a place, with whether it is a frame variable, a sensor, or an object; the name of a function, where it
-- stands
pub data PlainOperand : Type 0 where
  a_value : PlainValue → PlainOperand
  a_place : PlaceKind → PlainPlace → PlainOperand
  a_function : At → PlainOperand

-- the value of a sensor, by the number of its object
abbrev pub sensed : PlainPlace → PlainForm
sensed (place at t (global n)) = sense n
sensed p = read p

-- how the value of a place is read
abbrev pub read_form : PlaceKind → PlainPlace → PlainForm
read_form Sensor p = sensed p
read_form Frame p = read p
read_form Object p = read p

-- the value of a place that has a size: an operator's operand of an incomplete type is refused (C99 6.3.2.1p2)
abbrev pub read_value : List PlainStructure → PlaceKind → PlainPlace → Ruled PlainValue
read_value structures kind p =
    if is_complete structures (place_type p) then Ok (value (place_at p) (unqualified (place_type p)) (read_form kind p))
    else refused subset.OperandTypes (place_at p)

-- the value of a place: of an array it is the address of its first element (C99 6.3.2.1p3)
abbrev pub place_value : List PlainStructure → PlaceKind → PlainPlace → Ruled PlainValue
place_value structures kind (place at (array c t n) f) = Ok (value at (pointer false t) (decay (place at (array c t n) f)))
place_value structures kind p = read_value structures kind p

-- an operand as a value, which may be void; a function's name has none
abbrev pub operand_value : List PlainStructure → PlainOperand → Ruled PlainValue
operand_value structures (a_value v) = Ok v
operand_value structures (a_place kind p) = place_value structures kind p
operand_value structures (a_function at) = refused subset.BadPointer at

-- a void expression has no value
abbrev pub not_void : PlainValue → Ruled PlainValue
not_void v = if is_void (type_of v) then refused subset.VoidValue (at_of v) else Ok v

-- whether a kind is that of frame variables
abbrev pub is_frame_kind : PlaceKind → Bool
is_frame_kind Frame = true
is_frame_kind kind = false

-- whether a kind is that of sensors
abbrev pub is_sensor_kind : PlaceKind → Bool
is_sensor_kind Sensor = true
is_sensor_kind kind = false

-- whether the value of an operand is read from an object or a sensor
abbrev pub reads_object : Found PlainOperand → Bool
reads_object (Ok (a_place kind p)) = not (is_frame_kind kind) && not (is_array (place_type p))
reads_object f = false

-- whether the value of an operand is read from a sensor
abbrev pub reads_sensor : Found PlainOperand → Bool
reads_sensor (Ok (a_place kind p)) = is_sensor_kind kind
reads_sensor f = false

-- an operand as a value, void or not
unfoldable pub any_value : List PlainStructure → Judged PlainOperand → Judged PlainValue
any_value structures j = record {
  found = on j.found (operand_value structures);
  acts = j.acts || reads_sensor j.found;
  reads = j.reads || reads_object j.found;
}

-- an operand where a value is needed
unfoldable pub as_value : List PlainStructure → Judged PlainOperand → Judged PlainValue
as_value structures j = on_part (any_value structures j) not_void

-- the value with the conversion that isn't written, where it changes the type
abbrev pub converted : PlainValue → PlainType → PlainValue
converted v t = if same (type_of v) t then v else value (at_of v) t (convert v)
