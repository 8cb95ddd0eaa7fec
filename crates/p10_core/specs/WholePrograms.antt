-- Whole statements, functions and programs.
use Rattle.std.specs.Prelude.{◌≡◌, ℕ, zero, suc, ◌+◌, ◌-◌, ◌<◌, ◌≤◌, nat_eq, ℤ, pos, Bool, true, false, not, ◌&&◌, ◌||◌, if◌then◌else◌, List, [], ◌∷◌, ◌++◌, All, Contains, map, take, drop, length, Option, Some, None, IfSome, option_map, slice_get, sum, Result, Ok, Err, ◌⊎◌}
use Rattle.p10_base.specs.declared.at.At.{At}
use Rattle.p10_base.specs.declared.report.TheConstants.Limit.{MOST_OBJECT_BYTES, MOST_STATIC_BYTES}
use Rattle.p10_int.specs.declared.types.IntType.{IntType}
use Rattle.p10_int.specs.declared.types.IntType.TheVariants.{Char, SChar, UChar}
use Rattle.p10_int.specs.declared.operators.BinOp.{BinOp}
use Rattle.p10_int.specs.declared.operators.BinOp.TheVariants.{Add, Sub}
use Rattle.p10_int.specs.Types.{InRange, promoted}
use Rattle.p10_core.specs.declared.statements.LoopKeyword.{LoopKeyword}
use Rattle.p10_core.specs.declared.statements.LoopKeyword.TheVariants.{While, For}
use Rattle.p10_core.specs.declared.statements.LoopHead.{LoopHead}
use Rattle.p10_core.specs.declared.statements.UpdateKind.{UpdateKind}
use Rattle.p10_core.specs.declared.statements.UpdateKind.TheVariants.{Compound, Step}
use Rattle.p10_core.specs.declared.statements.MarkKind.{MarkKind}
use Rattle.p10_core.specs.declared.statements.MarkKind.TheVariants.{InitDone, TaskLoop}
use Rattle.p10_core.specs.declared.statements.Label.{Label}
use Rattle.p10_core.specs.declared.program.Extent.{Extent}
use Rattle.p10_core.specs.Types.{PlainType, void, integer, pointer, array, structure, unqualified, bare, PlainMember, PlainBody, PlainStructure, body_of, members_of, representative_of}
use Rattle.p10_core.specs.Sizes.{layout_of, size_of, scalars_of}
use Rattle.p10_core.specs.Typed.{PlainValue, value, constant, convert, PlainPlace, type_of, place_type, PlainWritten, one_scalar, scalars_of_text, PlainItem, PlainInitializer, not_initialized, single, copied, listed, PlainLabels, PlainStatement, statement, PlainStatementForm, set, update, copy, evaluate, asserts, declare, declare_static, block, if_then, if_else, loop, switch, break, continue, return, empty, mark, PlainStatements, no_statements, more_statements, statements_list}
use Rattle.p10_core.specs.Typed.{PlainVariable, PlainFunction, PlainObject, PlainLiteral, PlainProgram}
use Rattle.p10_core.specs.Rows.{Row, binary_row, fits, is_scalar, is_integer, is_void, is_complete, is_modifiable, int_type}
use Rattle.p10_core.specs.Constants.{is_constant, inconstant_part, fold, is_zero}
use Rattle.p10_core.specs.Addresses.{is_static_value}
use Rattle.p10_core.specs.Whole.{SeenVariable, SeenObject, SeenFunction, Surroundings, IsWholeValue, IsWholePlace}

-- ## Types

-- the greatest size of a type
unfoldable pub most_bytes : ℕ
most_bytes = 1099511627776

-- a type is one of C, over the structures that are there: an array has elements that have a size, of which there is at least
-- one; no pointer points to `void`; and nothing is larger than a type may be
abbrev pub IsWholeType : List PlainStructure → PlainType → Type 0
IsWholeType structures (void c) = Unit {0}
IsWholeType structures (integer c i) = Unit {0}
IsWholeType structures (pointer c t) = IsWholeType structures t × (is_void t ≡ false)
IsWholeType structures (array c t n) =
    IsWholeType structures t × (is_complete structures t ≡ true) × (1 ≤ n) × (size_of structures (array c t n) ≤ most_bytes)
IsWholeType structures (structure c n) = n < length structures

-- a type of objects: it has a size
pub record IsObjectType (structures : List PlainStructure) (t : PlainType) : Type 0 where
  pub whole : IsWholeType structures t
  pub complete : is_complete structures t ≡ true

-- the order of the body of a structure with a number
abbrev pub order_in : Option PlainBody → ℕ
order_in None = 0
order_in (Some b) = b.order

-- each structure that lies in a value of the type was completed before: so no structure contains itself
abbrev pub ContainsBefore : List PlainStructure → ℕ → PlainType → Type 0
ContainsBefore structures order (void c) = Unit {0}
ContainsBefore structures order (integer c i) = Unit {0}
ContainsBefore structures order (pointer c t) = Unit {0}
ContainsBefore structures order (array c t n) = ContainsBefore structures order t
ContainsBefore structures order (structure c n) = order_in (body_of structures n) < order

-- a member has a size, and contains only what was completed before
pub record IsWholeMember (structures : List PlainStructure) (order : ℕ) (m : PlainMember) : Type 0 where
  pub object : IsObjectType structures m.type
  pub before : ContainsBefore structures order m.type

-- a member without marks, as compatible structures share it
abbrev pub bare_member : List PlainStructure → PlainMember → PlainMember
bare_member structures m = record m { type = bare structures m.type }

-- the body of the structure with a number: it has a member (C99 6.7.2.1p7); its members have a size and contain only what was
-- completed before; what it says of itself is so; and the structure that stands for it has the same members (C99 6.2.7)
pub record IsWholeBody (structures : List PlainStructure) (n : ℕ) (b : PlainBody) : Type 0 where
  pub members : All (IsWholeMember structures b.order) b.members
  pub some : 1 ≤ length b.members
  pub few : b.order < length structures
  pub bytes_are : b.bytes ≡ (layout_of structures (structure false n)).bytes
  pub alignment_is : b.alignment ≡ (layout_of structures (structure false n)).alignment
  pub scalars_are : b.scalars ≡ length (layout_of structures (structure false n)).scalars
  pub constant_is : b.constant ≡ (layout_of structures (structure false n)).constant
  pub small : b.bytes ≤ most_bytes
  pub same_members : map (bare_member structures) (members_of structures (representative_of structures n)) ≡ map (bare_member structures) b.members
  pub complete : is_complete structures (structure false (representative_of structures n)) ≡ true

-- the structures of a program
pub record AreWholeStructures (structures : List PlainStructure) : Type 0 where
  pub bodies : (n : ℕ) (b : PlainBody) → body_of structures n ≡ Some b → IsWholeBody structures n b
  pub representatives : (n : ℕ) → n < length structures → representative_of structures n < length structures
  pub stand_for_themselves : (n : ℕ) → representative_of structures (representative_of structures n) ≡ representative_of structures n

-- ## What stands round a statement

-- the program, the function with its number, the variables in scope, and whether a loop and a `switch` stand round
pub record Region : Type 0 where
  pub program : PlainProgram
  pub number : ℕ
  pub function : PlainFunction
  pub scope : List ℕ
  pub in_loop : Bool
  pub in_switch : Bool

-- whether a number is in a list
abbrev pub is_among : ℕ → List ℕ → Bool
is_among n [] = false
is_among n (m ∷ rest) = nat_eq n m || is_among n rest

-- what is seen of a variable
abbrev pub seen_variable : PlainVariable → SeenVariable
seen_variable v = record { type = v.type; frame = v.frame }

-- what is seen of an object
abbrev pub seen_object : PlainObject → SeenObject
seen_object o = record { type = o.type; sensor = o.sensor }

-- the types of a function's parameters
abbrev pub parameter_types : PlainFunction → List PlainType
parameter_types f = map (λ v. v.type) (take f.parameters f.variables)

-- what is seen of a function
abbrev pub seen_function : PlainFunction → SeenFunction
seen_function f = record { parameters = parameter_types f; result = f.result }

-- what a program's numbers name outside its functions; `main` is never called
abbrev pub surroundings_of : PlainProgram → Surroundings
surroundings_of p = record {
  structures = p.structures;
  literals = Some p.literals;
  variable_at = λ n. None;
  object_at = λ n. option_map seen_object (slice_get p.objects n);
  function_at = λ n. if nat_eq n p.main then None else option_map seen_function (slice_get p.functions n);
}

-- what stands round the values of a statement: the variables in scope too
abbrev pub around : Region → Surroundings
around r = record (surroundings_of r.program) {
  variable_at = λ n. if is_among n r.scope then option_map seen_variable (slice_get r.function.variables n) else None;
}

-- what stands round the statements after one: the variable that it declares is in scope
abbrev pub after : Region → PlainStatement → Region
after r (statement at (declare n i)) = record r { scope = n ∷ r.scope }
after r s = r

-- what stands round what comes after all of the statements
abbrev pub after_all : Region → PlainStatements → Region
after_all r no_statements = r
after_all r (more_statements s rest) = after_all (after r s) rest

-- ## Initialisers

-- whether a type is one of the three character types (C99 6.2.5p15)
abbrev pub is_character : PlainType → Bool
is_character (integer c Char) = true
is_character (integer c SChar) = true
is_character (integer c UChar) = true
is_character t = false

-- a value for the first of the scalars
pub record IsScalarValue (c : Surroundings) (scalars : List PlainType) (v : PlainValue) : Type 0 where
  pub whole : IsWholeValue c v
  pub type_is : slice_get scalars 0 ≡ Some (bare c.structures (type_of v))
  pub unmarked : type_of v ≡ unqualified (type_of v)

-- bytes for the first of the scalars, which are characters (C99 6.7.8p14)
pub record IsScalarText (scalars : List PlainType) (bytes : List ℕ) : Type 0 where
  pub room : length bytes ≤ length scalars
  pub characters : All (λ t. is_character t ≡ true) (take (length bytes) scalars)
  pub are_bytes : All (λ b. b < 256) bytes

-- what is written fits the scalars for which it stands
abbrev pub IsWholeWritten : Surroundings → List PlainType → PlainWritten → Type 0
IsWholeWritten c scalars (one_scalar v) = IsScalarValue c scalars v
IsWholeWritten c scalars (scalars_of_text bytes) = IsScalarText scalars bytes

-- how many scalars it is written for
abbrev pub width_of_written : PlainWritten → ℕ
width_of_written (one_scalar v) = 1
width_of_written (scalars_of_text bytes) = length bytes

-- items for the scalars from a place on, one after the other
abbrev pub AreWholeItems : Surroundings → List PlainType → ℕ → List PlainItem → Type 0
AreWholeItems c scalars from [] = Unit {0}
AreWholeItems c scalars from (i ∷ rest) =
    (from ≤ i.scalar) × IsWholeWritten c (drop i.scalar scalars) i.written × AreWholeItems c scalars (i.scalar + width_of_written i.written) rest

-- a structure and its copy have one type, marks aside
pub record CopiesStructure (c : Surroundings) (t : PlainType) (p : PlainPlace) : Type 0 where
  pub whole : IsWholePlace c p
  pub number : ℕ
  pub target_is : unqualified t ≡ structure false number
  pub source_is : unqualified (place_type p) ≡ structure false number
  pub complete : is_complete c.structures (structure false number) ≡ true

-- a value that initialises a scalar
pub record IsSingle (c : Surroundings) (t : PlainType) (v : PlainValue) : Type 0 where
  pub whole : IsWholeValue c v
  pub scalar : is_scalar t ≡ true
  pub type_is : type_of v ≡ unqualified t

-- items that initialise an array or a structure
pub record ListsScalars (c : Surroundings) (t : PlainType) (items : List PlainItem) : Type 0 where
  pub aggregate : is_scalar t ≡ false
  pub whole : AreWholeItems c (scalars_of c.structures t) 0 items

-- an initialiser of an object of a type (C99 6.7.8)
abbrev pub IsWholeInitializer : Surroundings → PlainType → PlainInitializer → Type 0
IsWholeInitializer c t not_initialized = Unit {0}
IsWholeInitializer c t (single v) = IsSingle c t v
IsWholeInitializer c t (copied p) = CopiesStructure c t p
IsWholeInitializer c t (listed at items) = ListsScalars c t items

-- what is written for an object of static lifetime is constant
abbrev pub IsStaticWritten : PlainWritten → Type 0
IsStaticWritten (one_scalar v) = is_static_value v ≡ true
IsStaticWritten (scalars_of_text bytes) = Unit {0}

-- an initialiser of an object of static lifetime consists of constants (C99 6.7.8p4)
abbrev pub IsStaticInitializer : PlainInitializer → Type 0
IsStaticInitializer not_initialized = Unit {0}
IsStaticInitializer (single v) = is_static_value v ≡ true
IsStaticInitializer (copied p) = ⊥
IsStaticInitializer (listed at items) = All (λ i. IsStaticWritten i.written) items

-- ## Statements

-- `P = e;`: a place of a scalar that may be assigned, and a value of its type (C99 6.5.16.1)
pub record Sets (c : Surroundings) (p : PlainPlace) (v : PlainValue) : Type 0 where
  pub place : IsWholePlace c p
  pub value : IsWholeValue c v
  pub scalar : is_scalar (place_type p) ≡ true
  pub modifiable : is_modifiable c.structures (place_type p) ≡ true
  pub type_is : type_of v ≡ unqualified (place_type p)

-- the value of `++` and `--`: the constant 1, perhaps converted
abbrev pub is_one : PlainValue → Bool
is_one (value at t (constant (pos n))) = nat_eq n 1
is_one (value at t (convert v)) = is_one v
is_one v = false

-- the value of `++` or `--` is 1, and its operator is `+` or `-`
abbrev pub IsStep : UpdateKind → BinOp → PlainValue → Type 0
IsStep Compound op v = Unit {0}
IsStep Step Add v = is_one v ≡ true
IsStep Step Sub v = is_one v ≡ true
IsStep Step op v = ⊥

-- `P op= e;`: the operator has a row for the types of the place and of some value, by which both are converted, and its
-- result fits the place (C99 6.5.16.2)
pub record Updates (c : Surroundings) (kind : UpdateKind) (op : BinOp) (t : PlainType) (p : PlainPlace) (v : PlainValue) : Type 0 where
  pub place : IsWholePlace c p
  pub value : IsWholeValue c v
  pub scalar : is_scalar (place_type p) ≡ true
  pub modifiable : is_modifiable c.structures (place_type p) ≡ true
  pub step : IsStep kind op v
  pub right_type : PlainType
  pub entry : Row
  pub is : binary_row c.structures op false false (unqualified (place_type p)) right_type ≡ Some entry
  pub type_is : t ≡ entry.left
  pub value_is : type_of v ≡ entry.right
  pub result_fits : fits false entry.result (unqualified (place_type p)) ≡ true

-- the copy of a structure (C99 6.5.16.1)
pub record Copies (c : Surroundings) (p q : PlainPlace) : Type 0 where
  pub target : IsWholePlace c p
  pub modifiable : is_modifiable c.structures (place_type p) ≡ true
  pub source : CopiesStructure c (place_type p) q

-- a value that is tested
pub record IsTest (c : Surroundings) (v : PlainValue) : Type 0 where
  pub whole : IsWholeValue c v
  pub scalar : is_scalar (type_of v) ≡ true

-- the declaration of a variable of the function that is no parameter; its initialiser sees it already (C99 6.2.1p7)
pub record Declares (r : Region) (n : ℕ) (i : PlainInitializer) : Type 0 where
  pub variable : PlainVariable
  pub there : slice_get r.function.variables n ≡ Some variable
  pub no_parameter : r.function.parameters ≤ n
  pub initializer : IsWholeInitializer (around (record r { scope = n ∷ r.scope })) variable.type i

-- the declaration of an object of static lifetime that belongs to the function
pub record DeclaresStatic (r : Region) (n : ℕ) : Type 0 where
  pub object : PlainObject
  pub there : slice_get r.program.objects n ≡ Some object
  pub owner_is : object.owner ≡ Some r.number

-- whether a statement is a declaration, which stands in a block or in the first clause of a `for` alone
abbrev pub is_declaration : PlainStatement → Bool
is_declaration (statement at (declare n i)) = true
is_declaration (statement at (declare_static n)) = true
is_declaration s = false

-- whether a statement is an expression, as in the clauses of a `for`
abbrev pub is_expression : PlainStatement → Bool
is_expression (statement at (set p v)) = true
is_expression (statement at (update kind op t p v)) = true
is_expression (statement at (copy p q)) = true
is_expression (statement at (evaluate v)) = true
is_expression (statement at (asserts call v)) = true
is_expression s = false

-- whether a statement declares a variable
abbrev pub is_variable_declaration : PlainStatement → Bool
is_variable_declaration (statement at (declare n i)) = true
is_variable_declaration s = false

-- each of the statements passes a test
abbrev pub AllOf : (PlainStatement → Bool) → PlainStatements → Type 0
AllOf test no_statements = Unit {0}
AllOf test (more_statements s rest) = (test s ≡ true) × AllOf test rest

-- the clauses of a loop: `while` and `do` have a test alone; the first clause of a `for` has declarations or expressions
abbrev pub AreClauses : LoopKeyword → PlainStatements → Option PlainValue → PlainStatements → Type 0
AreClauses For first test third = AllOf (λ s. is_variable_declaration s || is_expression s) first × AllOf is_expression third
AreClauses keyword no_statements (Some v) no_statements = Unit {0}
AreClauses keyword first test third = ⊥

-- the items of a `switch` body: those of a block, or the one statement
abbrev pub switch_items : PlainStatement → List PlainStatement
switch_items (statement at (block ss)) = statements_list ss
switch_items s = s ∷ []

-- whether a statement is a block
abbrev pub is_block : PlainStatement → Bool
is_block (statement at (block ss)) = true
is_block s = false

-- labels have values of the type, each another one, and stand before items in text order (C99 6.8.4.2)
abbrev pub AreCases : IntType → ℕ → ℕ → List ℤ → List Label → Type 0
AreCases kind from count seen [] = Unit {0}
AreCases kind from count seen (l ∷ rest) =
    InRange kind l.value × (from ≤ l.place) × (l.place < count) × (Contains seen l.value → ⊥) × AreCases kind l.place count (l.value ∷ seen) rest

-- a `switch`: on an integer, promoted, whose labels stand in the block that is its body, at whose top level nothing is
-- declared
pub record Switches (c : Surroundings) (v : PlainValue) (labels : PlainLabels) (body : PlainStatement) : Type 0 where
  pub whole : IsWholeValue c v
  pub kind : IntType
  pub type_is : type_of v ≡ integer false kind
  pub promoted_is : promoted kind ≡ kind
  pub cases : AreCases kind 0 (length (switch_items body)) [] labels.cases
  pub otherwise : IfSome labels.otherwise (λ n. n < length (switch_items body))
  pub in_block : is_block body ≡ false → (labels.cases ≡ []) × (labels.otherwise ≡ None)
  pub declares_nothing : All (λ s. is_declaration s ≡ false) (switch_items body)

-- what a `return` gives: a value of the function's result type, and nothing in a function without a result (C99 6.8.6.4)
abbrev pub Returns : Surroundings → PlainType → Option PlainValue → Type 0
Returns c t None = is_void t ≡ true
Returns c t (Some v) = IsWholeValue c v × (is_void t ≡ false) × (type_of v ≡ unqualified t)

-- a test that may be lacking
abbrev pub IsMaybeTest : Surroundings → Option PlainValue → Type 0
IsMaybeTest c None = Unit {0}
IsMaybeTest c (Some v) = IsTest c v

abbrev mutual
  -- a statement is whole where it stands
  pub IsWholeStatement : Region → PlainStatement → Type 0
  IsWholeStatement r (statement at f) = IsWholeStatementForm r f

  -- what each form of statement asks
  pub IsWholeStatementForm : Region → PlainStatementForm → Type 0
  IsWholeStatementForm r (set p v) = Sets (around r) p v
  IsWholeStatementForm r (update kind op t p v) = Updates (around r) kind op t p v
  IsWholeStatementForm r (copy p q) = Copies (around r) p q
  IsWholeStatementForm r (evaluate v) = IsWholeValue (around r) v
  IsWholeStatementForm r (asserts call v) = IsTest (around r) v
  IsWholeStatementForm r (declare n i) = Declares r n i
  IsWholeStatementForm r (declare_static n) = DeclaresStatic r n
  IsWholeStatementForm r (block ss) = AreWholeStatements r ss
  IsWholeStatementForm r (if_then v s) = IsTest (around r) v × IsWholeStatement r s × (is_declaration s ≡ false)
  IsWholeStatementForm r (if_else v s t) =
      IsTest (around r) v × IsWholeStatement r s × IsWholeStatement r t × (is_declaration s ≡ false) × (is_declaration t ≡ false)
  IsWholeStatementForm r (loop head first test third body) =
      let inner : Region = after_all r first in
      AreWholeStatements r first × IsMaybeTest (around inner) test × AreWholeStatements inner third
      × IsWholeStatement (record inner { in_loop = true }) body × AreClauses head.keyword first test third × (is_declaration body ≡ false)
  IsWholeStatementForm r (switch span v labels body) =
      Switches (around r) v labels body × IsWholeStatement (record r { in_switch = true }) body
  IsWholeStatementForm r break = r.in_loop || r.in_switch ≡ true
  IsWholeStatementForm r continue = r.in_loop ≡ true
  IsWholeStatementForm r (return span v) = Returns (around r) r.function.result v
  IsWholeStatementForm r empty = Unit {0}
  IsWholeStatementForm r (mark kind) = r.number ≡ r.program.main

  -- statements are whole one after the other: each sees what those before it declare
  pub AreWholeStatements : Region → PlainStatements → Type 0
  AreWholeStatements r no_statements = Unit {0}
  AreWholeStatements r (more_statements s rest) = IsWholeStatement r s × AreWholeStatements (after r s) rest

-- ## Functions

abbrev mutual
  -- the loops in a statement, in text order of their keywords
  pub loops_in : PlainStatement → List LoopHead
  loops_in (statement at f) = loops_in_form f

  -- the same for a form of statement
  pub loops_in_form : PlainStatementForm → List LoopHead
  loops_in_form (block ss) = loops_of ss
  loops_in_form (if_then v s) = loops_in s
  loops_in_form (if_else v s t) = loops_in s ++ loops_in t
  loops_in_form (loop head first test third body) = head ∷ loops_in body
  loops_in_form (switch span v labels body) = loops_in body
  loops_in_form f = []

  -- the same for statements, one after the other
  pub loops_of : PlainStatements → List LoopHead
  loops_of no_statements = []
  loops_of (more_statements s rest) = loops_in s ++ loops_of rest

abbrev mutual
  -- the numbers of the variables that a statement declares, in text order
  pub declared_in : PlainStatement → List ℕ
  declared_in (statement at f) = declared_in_form f

  -- the same for a form of statement
  pub declared_in_form : PlainStatementForm → List ℕ
  declared_in_form (declare n i) = n ∷ []
  declared_in_form (block ss) = declared_of ss
  declared_in_form (if_then v s) = declared_in s
  declared_in_form (if_else v s t) = declared_in s ++ declared_in t
  declared_in_form (loop head first test third body) = declared_of first ++ declared_in body
  declared_in_form (switch span v labels body) = declared_in body
  declared_in_form f = []

  -- the same for statements, one after the other
  pub declared_of : PlainStatements → List ℕ
  declared_of no_statements = []
  declared_of (more_statements s rest) = declared_in s ++ declared_of rest

abbrev mutual
  -- the pragmas of p10 in a statement, in text order
  pub marks_in : PlainStatement → List MarkKind
  marks_in (statement at f) = marks_in_form f

  -- the same for a form of statement
  pub marks_in_form : PlainStatementForm → List MarkKind
  marks_in_form (mark kind) = kind ∷ []
  marks_in_form (block ss) = marks_of ss
  marks_in_form (if_then v s) = marks_in s
  marks_in_form (if_else v s t) = marks_in s ++ marks_in t
  marks_in_form (loop head first test third body) = marks_in body
  marks_in_form (switch span v labels body) = marks_in body
  marks_in_form f = []

  -- the same for statements, one after the other
  pub marks_of : PlainStatements → List MarkKind
  marks_of no_statements = []
  marks_of (more_statements s rest) = marks_in s ++ marks_of rest

-- the first `count` numbers from n on
abbrev pub numbers_from : ℕ → ℕ → List ℕ
numbers_from n zero = []
numbers_from n (suc count) = n ∷ numbers_from (n + 1) count

-- a variable: its type has a size, which is its bytes, and a frame variable is a scalar
pub record IsWholeVariable (structures : List PlainStructure) (v : PlainVariable) : Type 0 where
  pub object : IsObjectType structures v.type
  pub bytes_are : v.bytes ≡ size_of structures v.type
  pub frame_scalar : v.frame ≡ true → is_scalar v.type ≡ true

-- a function has a result that is a scalar, or none
pub record IsResult (structures : List PlainStructure) (t : PlainType) : Type 0 where
  pub whole : IsWholeType structures t
  pub scalar_or_none : (is_scalar t ≡ true) ⊎ (is_void t ≡ true)

-- the region of a function's body: the parameters are in scope
abbrev pub region_of : PlainProgram → ℕ → PlainFunction → Region
region_of p n f =
    record { program = p; number = n; function = f; scope = numbers_from 0 f.parameters; in_loop = false; in_switch = false }

-- the bytes of a function's frame
abbrev pub frame_bytes : PlainFunction → ℕ
frame_bytes f = sum (map (λ v. v.bytes) f.variables)

-- the function with a number
pub record IsWholeFunction (p : PlainProgram) (n : ℕ) (f : PlainFunction) : Type 0 where
  pub parameters_there : f.parameters ≤ length f.variables
  pub parameters_scalar : All (λ t. is_scalar t ≡ true) (parameter_types f)
  pub result : IsResult p.structures f.result
  pub variables : All (IsWholeVariable p.structures) f.variables
  pub declared_in_order : declared_of f.body ≡ numbers_from f.parameters (length f.variables - f.parameters)
  pub loops_in_order : map (λ h. h.number) (loops_of f.body) ≡ numbers_from 0 (length (loops_of f.body))
  pub small : frame_bytes f ≤ MOST_OBJECT_BYTES
  pub body : AreWholeStatements (region_of p n f) f.body

-- ## Objects

-- functions in a row are there
pub record IsExtent (p : PlainProgram) (e : Extent) : Type 0 where
  pub rises : e.from ≤ e.to
  pub there : e.to ≤ length p.functions

-- an object of static lifetime
pub record IsWholeObject (p : PlainProgram) (o : PlainObject) : Type 0 where
  pub object : IsObjectType p.structures o.type
  pub bytes_are : o.bytes ≡ size_of p.structures o.type
  pub small : o.bytes ≤ MOST_OBJECT_BYTES
  pub initializer : IsWholeInitializer (surroundings_of p) o.type o.initializer
  pub constants : IsStaticInitializer o.initializer
  pub owner_there : IfSome o.owner (λ f. f < length p.functions)
  pub sensor_integer : o.sensor ≡ true → is_integer o.type ≡ true
  pub visible_there : All (IsExtent p) o.visible

-- the string literals: each number is greater than those before
abbrev pub AreRising : ℕ → List PlainLiteral → Type 0
AreRising from [] = Unit {0}
AreRising from (l ∷ rest) = (from ≤ l.number) × AreRising (l.number + 1) rest

-- ## Programs

-- the items of `main`'s body
abbrev pub main_items : PlainFunction → List PlainStatement
main_items f = statements_list f.body

-- whether two pragmas are of one kind
abbrev pub is_mark : MarkKind → MarkKind → Bool
is_mark InitDone InitDone = true
is_mark TaskLoop TaskLoop = true
is_mark a b = false

-- whether an item is a pragma of a kind
abbrev pub is_marked : MarkKind → Option PlainStatement → Bool
is_marked kind (Some (statement at (mark found))) = is_mark kind found
is_marked kind s = false

-- whether a keyword is `for`
abbrev pub is_for : LoopKeyword → Bool
is_for For = true
is_for keyword = false

-- whether a keyword is `while`
abbrev pub is_while : LoopKeyword → Bool
is_while While = true
is_while keyword = false

-- whether a constant gives a number other than 0
abbrev pub gives_other_than_zero : Result ℤ At → Bool
gives_other_than_zero (Ok z) = not (is_zero z)
gives_other_than_zero (Err at) = false

-- whether a condition is an integer constant expression other than 0
abbrev pub is_true_test : PlainValue → Bool
is_true_test v = is_integer (type_of v) && (is_constant (inconstant_part v) && gives_other_than_zero (fold v))

-- the item at the place of the task loop, if there is one
abbrev pub task_item : Option ℕ → List PlainStatement → Option PlainStatement
task_item None items = None
task_item (Some n) items = slice_get items n

-- a loop that the task loop may be: `for (;;)`, or a `while` whose condition is a constant other than 0
abbrev pub may_be_task : Option PlainStatement → Bool
may_be_task (Some (statement at (loop head no_statements None no_statements body))) = is_for head.keyword
may_be_task (Some (statement at (loop head no_statements (Some v) no_statements body))) = is_while head.keyword && is_true_test v
may_be_task s = false

-- whether a statement is `return`
abbrev pub is_return : PlainStatement → Bool
is_return (statement at (return span v)) = true
is_return s = false

-- at most one `return`
abbrev pub IsMaybeReturn : List PlainStatement → Type 0
IsMaybeReturn [] = Unit {0}
IsMaybeReturn (s ∷ []) = is_return s ≡ true
IsMaybeReturn (s ∷ t ∷ rest) = ⊥

-- the mark `init_done` stands before the task loop. In the source it stands between two items; declarations of types are items too,
-- and leave no statement, so here it may be the first or the last one
pub record IsInitDone (items : List PlainStatement) (task : Option ℕ) (n : ℕ) : Type 0 where
  pub is : is_marked InitDone (slice_get items n) ≡ true
  pub before_task : IfSome task (λ t. n < t)

-- the task loop stands directly after its mark, and after it at most one `return`
pub record IsTask (items : List PlainStatement) (n : ℕ) : Type 0 where
  pub after_first : 0 < n
  pub marked : is_marked TaskLoop (slice_get items (n - 1)) ≡ true
  pub loop : may_be_task (slice_get items n) ≡ true
  pub last : IsMaybeReturn (drop (n + 1) items)

-- the pragma, where it has a place
abbrev pub mark_list : MarkKind → Option ℕ → List MarkKind
mark_list kind None = []
mark_list kind (Some n) = kind ∷ []

-- `int main(void)` with its marks
pub record IsMain (p : PlainProgram) (f : PlainFunction) : Type 0 where
  pub no_parameters : f.parameters ≡ 0
  pub result_is : f.result ≡ int_type
  pub not_static : f.static ≡ false
  pub marks : marks_of f.body ≡ mark_list InitDone p.mark ++ mark_list TaskLoop p.task
  pub init_done : IfSome p.mark (IsInitDone (main_items f) p.task)
  pub task : IfSome p.task (IsTask (main_items f))

-- `main` is there, and is as it has to be
pub record HasMain (p : PlainProgram) : Type 0 where
  pub function : PlainFunction
  pub there : slice_get p.functions p.main ≡ Some function
  pub is : IsMain p function

-- a whole program: its types, conversions, numbers, initialisers, labels, jumps and sizes are as C and this profile ask
pub record IsWholeProgram (p : PlainProgram) : Type 0 where
  pub structures : AreWholeStructures p.structures
  pub functions : (n : ℕ) (f : PlainFunction) → slice_get p.functions n ≡ Some f → IsWholeFunction p n f
  pub objects : All (IsWholeObject p) p.objects
  pub static_bytes : sum (map (λ o. o.bytes) p.objects) ≤ MOST_STATIC_BYTES
  pub literals_rise : AreRising 0 p.literals
  pub literals_small : All (λ l. length l.bytes ≤ MOST_OBJECT_BYTES) p.literals
  pub main : HasMain p
