-- What nodes of typed trees use: functions, objects of static lifetime and string literals.
use Rattle.std.specs.Prelude.{Bool, true, false, Option, Some, None}
use Rattle.p10_base.specs.declared.at.At.{At}
use Rattle.p10_core.specs.declared.typed.Library.{Library}
use Rattle.p10_core.specs.declared.typed.Library.TheVariants.{Assert, CAssert, Getchar, Putchar, Malloc, Calloc, Free}
use Rattle.p10_core.specs.declared.uses.FunctionUse.{FunctionUse}
use Rattle.p10_core.specs.declared.uses.ObjectUse.{ObjectUse}
use Rattle.p10_core.specs.Typed.{value, PlainForm, call, sense, place, PlainPlaceForm, global, literal, PlainLiteral}
use Rattle.p10_core.specs.Nodes.{PlainNode, a_statement, a_value, a_place}

-- whether a library function allocates or frees (C99 7.20.3)
abbrev pub manages_memory : Library → Bool
manages_memory Assert = false
manages_memory CAssert = false
manages_memory Getchar = false
manages_memory Putchar = false
manages_memory Malloc = true
manages_memory Calloc = true
manages_memory Free = true

-- the function that a form of value calls
abbrev pub called_by : At → PlainForm → Option FunctionUse
called_by at (call span n arguments) = Some (record { at = at; name = span; function = n })
called_by at f = None

-- the sensor that a form of value reads
abbrev pub sensed_by : At → PlainForm → Option ObjectUse
sensed_by at (sense n) = Some (record { at = at; object = n })
sensed_by at f = None

-- the object that a form of place is
abbrev pub named_by : At → PlainPlaceForm → Option ObjectUse
named_by at (global n) = Some (record { at = at; object = n })
named_by at f = None

-- the string literal that a form of place is
abbrev pub literal_of : PlainPlaceForm → Option PlainLiteral
literal_of (literal n bytes) = Some (record { number = n; bytes = bytes })
literal_of f = None

-- the function that a node calls
abbrev pub function_used : PlainNode → Option FunctionUse
function_used (a_statement s) = None
function_used (a_value (value at t f)) = called_by at f
function_used (a_place p) = None

-- the object of static lifetime that a node reads as a sensor, or is
abbrev pub object_used : PlainNode → Option ObjectUse
object_used (a_statement s) = None
object_used (a_value (value at t f)) = sensed_by at f
object_used (a_place (place at t f)) = named_by at f

-- the string literal that a node is
abbrev pub literal_used : PlainNode → Option PlainLiteral
literal_used (a_statement s) = None
literal_used (a_value v) = None
literal_used (a_place (place at t f)) = literal_of f
