-- The violations of parts and functions, one after the other.
use Rattle.std.specs.Prelude.{◌*◌, nat_lt, List, [], ◌∷◌, ◌++◌, Bool, not, ◌&&◌, Option, Some, None, if◌then◌else◌, length, count_by}
use Rattle.std.specs.List.{flat_map}
use Rattle.p10_base.specs.Gathered.{Gathered, is_built_in}
use Rattle.p10_base.specs.declared.at.At.{At}
use Rattle.p10_base.specs.declared.span.Span.{Span}
use Rattle.p10_base.specs.declared.report.Sub.{Sub}
use Rattle.p10_base.specs.declared.report.Violation.{Violation}
use Rattle.p10_syn.specs.Declaring.{identifier_in}
use Rattle.p10_syn.specs.Trees.{Identifier, Expression, Declarator, Statement, Goto, Label, Definition, External}
use Rattle.p10_synrules.specs.Parts.{Part, ExpressionPart, DeclaratorPart, StatementPart, NamePart, unit_parts}
use Rattle.p10_synrules.specs.Assertions.{calls_c_assert, states_call, states_no_test, is_constant, is_sound_assertion}
use Rattle.p10_synrules.specs.Pointers.{dereferences_twice, has_star, points_to_function}
use Rattle.p10_synrules.specs.Functions.{definitions_in, function_names, has_many_lines, has_many_statements, chief_name}
use Rattle.p10_synrules.specs.Violations.{row, expression_place, jumps_far, declarator_span}

-- a violation of a row, where it holds
abbrev pub violation_if : Sub → Bool → Span → List Violation
violation_if sub holds at = if holds then record { sub = sub; span = at } ∷ [] else []

-- a violation of a row at a name, where there is one and the row holds
abbrev pub violation_at : Sub → Bool → Option (Identifier At) → List Violation
violation_at sub holds None = []
violation_at sub holds (Some x) = violation_if sub holds x.place.span

-- ## Parts

-- the violations of 5.2, 5.3, 5.4, 5.5 and 9.1 by an expression
abbrev pub expression_violations : Bool → Expression At → List Violation
expression_violations within t =
    violation_if (row 5 2) (states_call t) (expression_place t)
    ++ violation_if (row 5 3) (states_no_test t) (expression_place t)
    ++ violation_if (row 5 4) (is_constant t) (expression_place t)
    ++ violation_if (row 5 5) (calls_c_assert t && not within) (expression_place t)
    ++ violation_if (row 9 1) (dereferences_twice t) (expression_place t)

-- the violations of 9.3 and 9.4 by a declarator
abbrev pub declarator_violations : Gathered → Bool → Declarator At → List Violation
declarator_violations g typedef d =
    violation_at (row 9 3) (typedef && has_star d) (identifier_in d)
    ++ violation_if (row 9 4) (points_to_function d) (declarator_span g d)

-- the violation of 1.1 by a statement
abbrev pub statement_violations : Statement At → List Violation
statement_violations (Goto p x) = record { sub = row 1 1; span = p.span } ∷ []
statement_violations (Label p x s) = record { sub = row 1 1; span = p.span } ∷ []
statement_violations s = []

-- the violation of 1.2 by a name
abbrev pub name_violations : Identifier At → List Violation
name_violations x = violation_if (row 1 2) (jumps_far x.name) x.place.span

-- the violations by a part
abbrev pub part_violations : Gathered → Part → List Violation
part_violations g (ExpressionPart within t) = expression_violations within t
part_violations g (DeclaratorPart typedef d) = declarator_violations g typedef d
part_violations g (StatementPart s) = statement_violations s
part_violations g (NamePart x) = name_violations x

-- ## Functions

-- the violations of 4.1 and 4.2 by a function
abbrev pub function_violations : Gathered → Definition At → List Violation
function_violations g d =
    violation_at (row 4 1) (has_many_lines g d.landmarks) (identifier_in d.declarator)
    ++ violation_at (row 4 2) (has_many_statements d) (identifier_in d.declarator)

-- the violation of 5.1 by all roots
abbrev pub assertion_violations : List (External At) → List Violation
assertion_violations units =
    violation_at (row 5 1) (nat_lt (count_by is_sound_assertion (unit_parts units)) (2 * length (function_names units))) (chief_name (function_names units))

-- ## All together

-- the violations by all roots, also those in built-in headers
abbrev pub all_violations : Gathered → List (External At) → List Violation
all_violations g units =
    flat_map (part_violations g) (unit_parts units) ++ flat_map (function_violations g) (definitions_in units) ++ assertion_violations units

-- whether a violation is in no built-in header
abbrev pub is_own : Gathered → Violation → Bool
is_own g v = not (is_built_in g v.span.file)
