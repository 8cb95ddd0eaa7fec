-- The violations of functions and objects, one after the other.
use Rattle.std.specs.Prelude.{ℕ, Bool, true, false, not, ◌&&◌, if◌then◌else◌, List, [], ◌∷◌, ◌++◌, Option, Some, None, option_map, slice_get, slice_range, length, take}
use Rattle.std.specs.List.{flat_map}
use Rattle.p10_base.specs.declared.span.Span.{Span}
use Rattle.p10_base.specs.declared.report.Sub.{Sub}
use Rattle.p10_base.specs.declared.report.Violation.{Violation}
use Rattle.p10_core.specs.Typed.{PlainVariable, PlainFunction, PlainObject, statement_at}
use Rattle.p10_core.specs.Nodes.{PlainNode, a_statement, a_value, a_place, nodes_of_statements}
use Rattle.p10_userules.specs.declared.occurrences.Referent.{Referent}
use Rattle.p10_userules.specs.declared.occurrences.Referent.TheVariants.{Variable, Object}
use Rattle.p10_userules.specs.declared.parts.Stretch.{Stretch}
use Rattle.p10_userules.specs.declared.parts.BlockParts.{BlockParts}
use Rattle.p10_userules.specs.declared.spreads.Spread.{Spread}
use Rattle.p10_userules.specs.declared.occurrences.Occurrence.{Occurrence}
use Rattle.p10_userules.specs.declared.spreads.Kind.TheVariants.{Variables}
use Rattle.p10_userules.specs.Violations.{row, is_truth, drops_result}
use Rattle.p10_userules.specs.private.Spreads.{lies_in_one, spreads_from}

-- a violation of a row, where it holds
abbrev pub violation_where : Sub → Bool → Span → List Violation
violation_where sub holds at = if holds then record { sub = sub; span = at } ∷ [] else []

-- a violation of a row at a place that may be lacking, where it holds
abbrev pub violation_at : Sub → Bool → Option Span → List Violation
violation_at sub holds None = []
violation_at sub holds (Some at) = violation_where sub holds at

-- ## Objects

-- whether an object stands at file scope, by the function in which it is declared, if it is
abbrev pub is_at_file_scope : Option ℕ → Bool
is_at_file_scope None = true
is_at_file_scope (Some n) = false

-- the violations of 6.1 by objects, where the occurrences of each lie as is said, and the functions have these stretches
abbrev pub wide_objects : List Stretch → List PlainObject → List (Option Spread) → List Violation
wide_objects functions [] spreads = []
wide_objects functions (o ∷ os) [] = []
wide_objects functions (o ∷ os) (s ∷ spreads) =
    violation_where (row 6 1) (is_at_file_scope o.owner && lies_in_one s functions) o.span ++ wide_objects functions os spreads

-- ## Blocks

-- what is there, if it is
abbrev pub flattened : Option (Option Spread) → Option Spread
flattened None = None
flattened (Some s) = s

-- where the occurrences of something lie, by those of a function's variables and those of the objects
abbrev pub spread_for : List (Option Spread) → List (Option Spread) → Referent → Option Spread
spread_for variables objects (Variable n) = flattened (slice_get variables n)
spread_for variables objects (Object n) = flattened (slice_get objects n)

-- where the name of something stands
abbrev pub name_of : PlainFunction → List PlainObject → Referent → Option Span
name_of f objects (Variable n) = option_map (λ v. v.span) (slice_get f.variables n)
name_of f objects (Object n) = option_map (λ o. o.span) (slice_get objects n)

-- a function and where the occurrences of its variables lie, and the same for all objects
pub record FunctionUses : Type 0 where
  pub function : PlainFunction
  pub variables : List (Option Spread)
  pub objects : List PlainObject
  pub object_spreads : List (Option Spread)

-- the violations of 6.2 by something that a block declares, in which the nested blocks have these stretches
abbrev pub wide_in : FunctionUses → List Stretch → Referent → List Violation
wide_in k nested x = violation_at (row 6 2) (lies_in_one (spread_for k.variables k.object_spreads x) nested) (name_of k.function k.objects x)

-- the violations of 6.2 by what a block declares
abbrev pub wide_in_block : FunctionUses → BlockParts → List Violation
wide_in_block k b = flat_map (wide_in k b.nested) b.declared

-- ## Results

-- the violations of 7.1 by a node
abbrev pub dropped_by : PlainNode → List Violation
dropped_by (a_statement s) = violation_where (row 7 1) (drops_result s) (statement_at s).span
dropped_by (a_value v) = []
dropped_by (a_place p) = []

-- ## Parameters

-- whether there is an occurrence, and the first isn't checked
abbrev pub starts_unchecked : Option Spread → Bool
starts_unchecked None = false
starts_unchecked (Some s) = not s.checked

-- the violations of 7.2 by parameters, where the occurrences of each lie as is said
abbrev pub unchecked_among : List PlainVariable → List (Option Spread) → List Violation
unchecked_among [] spreads = []
unchecked_among (v ∷ vs) [] = []
unchecked_among (v ∷ vs) (s ∷ spreads) = violation_where (row 7 2) (not (is_truth v.type) && starts_unchecked s) v.span ++ unchecked_among vs spreads

-- ## Functions

-- where the occurrences of a function's variables lie, by its stretch of all
abbrev pub variable_spreads : List Occurrence → PlainFunction → Stretch → List (Option Spread)
variable_spreads all f t = spreads_from 0 Variables t.start (slice_range all t.start t.end) (length f.variables)

-- the violations in a function and by its parameters
abbrev pub listed_in_function : List PlainObject → List (Option Spread) → List Occurrence → PlainFunction → Stretch → List BlockParts → List Violation
listed_in_function objects object_spreads all f t blocks =
    flat_map (wide_in_block (record { function = f; variables = variable_spreads all f t; objects = objects; object_spreads = object_spreads })) blocks
    ++ (flat_map dropped_by (nodes_of_statements f.body) ++ unchecked_among (take f.parameters f.variables) (variable_spreads all f t))

-- the same for functions, each with its stretch and its blocks
abbrev pub listed_in_functions : List PlainObject → List (Option Spread) → List Occurrence → List PlainFunction → List Stretch → List (List BlockParts) → List Violation
listed_in_functions objects object_spreads all [] ts bs = []
listed_in_functions objects object_spreads all (f ∷ fs) [] bs = []
listed_in_functions objects object_spreads all (f ∷ fs) (t ∷ ts) [] = []
listed_in_functions objects object_spreads all (f ∷ fs) (t ∷ ts) (b ∷ bs) =
    listed_in_function objects object_spreads all f t b ++ listed_in_functions objects object_spreads all fs ts bs
