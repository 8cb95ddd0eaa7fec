-- Each number in a whole program names something: no call is of no function, and no name of no variable, object or string literal.
use Rattle.std.specs.Prelude.{◌≡◌, ℕ, Contains, Some, slice_get}
use Rattle.p10_core.specs.Typed.{value, call, place, variable, global, literal, PlainVariable, PlainFunction, PlainObject, PlainProgram}
use Rattle.p10_core.specs.Nodes.{PlainNode, a_value, a_place, nodes_of_statements}
use Rattle.p10_core.specs.WholePrograms.{IsWholeProgram}

-- what a node of a function names by a number is there: the function that is called, the variable, the object or the literal
abbrev pub NamesThere : PlainProgram → PlainFunction → PlainNode → Type 0
NamesThere p f (a_value (value at t (call name k arguments))) = (g : PlainFunction) × (slice_get p.functions k ≡ Some g)
NamesThere p f (a_place (place at t (variable k))) = (v : PlainVariable) × (slice_get f.variables k ≡ Some v)
NamesThere p f (a_place (place at t (global k))) = (o : PlainObject) × (slice_get p.objects k ≡ Some o)
NamesThere p f (a_place (place at t (literal k bytes))) = Contains p.literals (record { number = k; bytes = bytes })
NamesThere p f node = Unit {0}

-- so does each node of each function
abbrev pub NumbersNameWhatIsThere : Type 0
NumbersNameWhatIsThere =
    (p : PlainProgram) → IsWholeProgram p → (number : ℕ) (f : PlainFunction) → slice_get p.functions number ≡ Some f → (node : PlainNode) → Contains (nodes_of_statements f.body) node → NamesThere p f node
