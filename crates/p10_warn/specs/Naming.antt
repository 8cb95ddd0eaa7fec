-- Which variables, objects and functions the nodes of typed trees name (C99 6.5.1). A declaration names nothing, and what
-- stands in its initialiser names what it names anywhere.
use Rattle.std.specs.Prelude.{◌≡◌, ℕ, List, Contains, Option, Some, None, option_map}
use Rattle.p10_core.specs.Typed.{PlainPlaceForm, place, variable}
use Rattle.p10_core.specs.Nodes.{PlainNode, a_statement, a_value, a_place}
use Rattle.p10_core.specs.Uses.{function_used, object_used}

-- the number of the variable of its function that a form of place is
abbrev pub variable_of_form : PlainPlaceForm → Option ℕ
variable_of_form (variable n) = Some n
variable_of_form f = None

-- the number of the variable of its function that a node names, whether it is read, written or its address is taken
abbrev pub named_variable : PlainNode → Option ℕ
named_variable (a_statement s) = None
named_variable (a_value v) = None
named_variable (a_place (place at t f)) = variable_of_form f

-- the number of the object of static lifetime that a node names; a sensor is named where it is read
abbrev pub named_object : PlainNode → Option ℕ
named_object node = option_map (λ u. u.object) (object_used node)

-- the number of the function that a node calls
abbrev pub called_function : PlainNode → Option ℕ
called_function node = option_map (λ u. u.function) (function_used node)

-- one of the nodes names what has a number
pub record HasNaming (number : PlainNode → Option ℕ) (nodes : List PlainNode) (n : ℕ) : Type 0 where
  pub node : PlainNode
  pub among : Contains nodes node
  pub names : number node ≡ Some n
