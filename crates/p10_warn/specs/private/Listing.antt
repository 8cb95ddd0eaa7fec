-- The violations of a program as the code lists them, before they are sorted.
use Rattle.std.specs.Prelude.{ℕ, ◌+◌, Bool, true, false, not, ◌&&◌, ◌||◌, if◌then◌else◌, List, [], ◌∷◌, ◌++◌, flat_map, bytes_eq, Option, Some, None}
use Rattle.std.specs.List.{list_any, filter_map}
use Rattle.p10_base.specs.declared.at.At.{At}
use Rattle.p10_base.specs.declared.span.Span.{Span}
use Rattle.p10_base.specs.declared.report.Violation.{Violation}
use Rattle.p10_int.specs.declared.operators.BinOp.{BinOp}
use Rattle.p10_core.specs.declared.statements.UpdateKind.{UpdateKind}
use Rattle.p10_core.specs.declared.statements.UpdateKind.TheVariants.{Compound, Step}
use Rattle.p10_core.specs.Types.{PlainType}
use Rattle.p10_core.specs.Constants.{is_constant, inconstant_part}
use Rattle.p10_core.specs.Typed.{PlainValue, value, PlainForm, convert, binary, at_of, type_of, PlainPlace, place_at, place_type, statement, PlainStatementForm, update, switch, PlainStatements, no_statements, more_statements, statement_at, PlainVariable, PlainFunction, PlainObject, PlainProgram}
use Rattle.p10_core.specs.Nodes.{PlainNode, a_statement, a_value, a_place, nodes_of_statements}
use Rattle.p10_core.specs.WholePrograms.{is_among}
use Rattle.p10_warn.specs.AllNodes.{all_nodes}
use Rattle.p10_warn.specs.Naming.{named_variable, named_object, called_function}
use Rattle.p10_warn.specs.Conversions.{narrows}
use Rattle.p10_warn.specs.Comparisons.{compares, as_written, differ_in_sign, is_natural_constant}
use Rattle.p10_warn.specs.Scopes.{ScopedDeclaration, declarations_of_function, FileNames, file_names}
use Rattle.p10_warn.specs.Jumps.{is_jump, LabelledBlock, blocks_of}
use Rattle.p10_warn.specs.Ends.{lacks_return}
use Rattle.p10_warn.specs.Violations.{rule_ten}
use Rattle.p10_warn.specs.private.NamedExtents.{is_name_in_scope}

-- a violation of a row, where it holds
abbrev pub listed_if : ℕ → Bool → Span → List Violation
listed_if n holds at = if holds then record { sub = rule_ten n; span = at } ∷ [] else []

-- ## Nodes

-- whether a value that is converted to a type may change
abbrev pub is_narrowed : PlainType → PlainValue → Bool
is_narrowed t v = narrows (type_of v) t && not (is_constant (inconstant_part v))

-- whether an operator compares a signed operand with an unsigned one
abbrev pub mixes_signs : BinOp → PlainValue → PlainValue → Bool
mixes_signs op a b =
    compares op && (differ_in_sign (type_of (as_written a)) (type_of (as_written b))
    && (not (is_natural_constant (as_written a)) && not (is_natural_constant (as_written b))))

-- the violations by a form of value of a type at a place
abbrev pub value_violations : At → PlainType → PlainForm → List Violation
value_violations at t (convert v) = listed_if 3 (is_narrowed t v) (at_of v).span
value_violations at t (binary op a b) = listed_if 4 (mixes_signs op a b) at.span
value_violations at t f = []

-- the violations by an update of a place
abbrev pub update_violations : UpdateKind → At → PlainType → PlainPlace → List Violation
update_violations Step at t p = []
update_violations Compound at t p = listed_if 3 (narrows (place_type p) t) (place_at p).span ++ listed_if 3 (narrows t (place_type p)) at.span

-- whether there is no number
abbrev pub is_missing : Option ℕ → Bool
is_missing None = true
is_missing (Some n) = false

-- the violations by a form of statement at a place
abbrev pub statement_violations : At → PlainStatementForm → List Violation
statement_violations at (update kind op t p v) = update_violations kind at t p
statement_violations at (switch span v labels body) = listed_if 6 (is_missing labels.otherwise) span
statement_violations at f = []

-- the violations by a node
abbrev pub node_violations : PlainNode → List Violation
node_violations (a_statement (statement at f)) = statement_violations at f
node_violations (a_value (value at t f)) = value_violations at t f
node_violations (a_place p) = []

-- ## What is never used

-- the objects without a number among those that are named, the first of which has the number n
abbrev pub unused_objects : List ℕ → ℕ → List PlainObject → List Violation
unused_objects named n [] = []
unused_objects named n (o ∷ rest) = listed_if 1 (not (is_among n named)) o.span ++ unused_objects named (n + 1) rest

-- the same for variables
abbrev pub unused_variables : List ℕ → ℕ → List PlainVariable → List Violation
unused_variables named n [] = []
unused_variables named n (v ∷ rest) = listed_if 1 (not (is_among n named)) v.span ++ unused_variables named (n + 1) rest

-- ## Hidden names

-- whether a declaration hides something
abbrev pub hides : FileNames → ℕ → ScopedDeclaration → Bool
hides file n d = list_any (λ x. bytes_eq x d.declares.name) d.around || is_name_in_scope file n d.declares.name

-- the violation by a declaration
abbrev pub declaration_violations : FileNames → ℕ → ScopedDeclaration → List Violation
declaration_violations file n d = listed_if 5 (hides file n d) d.declares.span

-- ## After jumps

-- the items after a jump, of which the first has the number n, and stands after one or not
abbrev pub items_after_jumps : List ℕ → Bool → ℕ → PlainStatements → List Violation
items_after_jumps labelled after n no_statements = []
items_after_jumps labelled after n (more_statements s rest) =
    listed_if 7 (after && not (is_among n labelled)) (statement_at s).span ++ items_after_jumps labelled (is_jump s) (n + 1) rest

-- the violations by a block
abbrev pub block_violations : LabelledBlock → List Violation
block_violations b = items_after_jumps b.labelled false 0 b.items

-- ## Functions

-- the violations by a function
abbrev pub function_violations : FileNames → ℕ → List ℕ → ℕ → PlainFunction → List Violation
function_violations file main called n f =
    unused_variables (filter_map named_variable (nodes_of_statements f.body)) 0 f.variables
    ++ (listed_if 2 (f.static && not (is_among n called)) f.span
    ++ (flat_map (declaration_violations file n) (declarations_of_function file.objects f)
    ++ (flat_map block_violations (blocks_of f)
    ++ listed_if 8 (lacks_return main n f) f.span)))

-- the violations by functions, of which the first has the number n
abbrev pub functions_violations : FileNames → ℕ → List ℕ → ℕ → List PlainFunction → List Violation
functions_violations file main called n [] = []
functions_violations file main called n (f ∷ rest) =
    function_violations file main called n f ++ functions_violations file main called (n + 1) rest

-- ## Programs

-- the violations by a program
abbrev pub program_violations : PlainProgram → List Violation
program_violations p =
    flat_map node_violations (all_nodes p)
    ++ (unused_objects (filter_map named_object (all_nodes p)) 0 p.objects
    ++ functions_violations (file_names p) p.main (filter_map called_function (all_nodes p)) 0 p.functions)
