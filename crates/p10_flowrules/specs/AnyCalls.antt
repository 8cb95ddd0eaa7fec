-- Calls of any function, of the program or of the library (C99 6.5.2.2).
use Rattle.std.specs.Prelude.{List, Option, Some, None}
use Rattle.std.specs.List.{filter_map}
use Rattle.p10_base.specs.declared.at.At.{At}
use Rattle.p10_core.specs.Typed.{value, PlainForm, call, built_in}
use Rattle.p10_core.specs.Nodes.{PlainNode, a_statement, a_value, a_place}
use Rattle.p10_flowrules.specs.declared.calls.AnyCall.{AnyCall}
use Rattle.p10_flowrules.specs.declared.calls.Called.TheVariants.{Function, Library}

-- the call that a form of value is, if it is one
abbrev pub call_of_form : At → PlainForm → Option AnyCall
call_of_form at (call span n arguments) = Some (record { at = at; name = span; called = Function n })
call_of_form at (built_in span f arguments) = Some (record { at = at; name = span; called = Library f })
call_of_form at f = None

-- the call that a node is, if it is one
abbrev pub call_made : PlainNode → Option AnyCall
call_made (a_statement s) = None
call_made (a_value (value at t f)) = call_of_form at f
call_made (a_place p) = None

-- all calls among nodes, in text order
abbrev pub calls_made : List PlainNode → List AnyCall
calls_made nodes = filter_map call_made nodes
