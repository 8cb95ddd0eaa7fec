-- What is found in an expression: an operand with its types and conversions, or the rows that hold in it.
use Rattle.std.specs.Prelude.{ℕ, ◌+◌, pos, Bool, true, false, not, ◌||◌, Option, Some, None, option_map, Ok, Err, if◌then◌else◌, List, [], slice_get}
use Rattle.p10_base.specs.Words.{Text}
use Rattle.p10_base.specs.declared.at.At.{At}
use Rattle.p10_base.specs.declared.codes.SubsetCode.TheVariants as subset
use Rattle.p10_int.specs.declared.types.IntType.TheVariants.{Int}
use Rattle.p10_int.specs.declared.operators.BinOp.{BinOp}
use Rattle.p10_int.specs.declared.operators.BinOp.TheVariants as binary_operator
use Rattle.p10_int.specs.declared.operators.UnOp.TheVariants as unary_operator
use Rattle.p10_syn.specs.declared.sign.Sign.{Sign}
use Rattle.p10_syn.specs.declared.sign.Sign.TheVariants as sign
use Rattle.p10_syn.specs.Trees.{Identifier, Expression, expression, Name, Number, Character, Strings, Unary, Step, Binary, Assign, Conditional, Call, Index, Member, Arrow, Cast, SizeofExpression, SizeofType, Comma, Expressions, NoExpressions, MoreExpressions, Absent, Present, TypeName, type_name, Declarator, Named, Unnamed, Pointer, Parenthesised, Array, Function, Parameters, NoParameters, MoreParameters, parameter}
use Rattle.p10_core.specs.declared.typed.Library.{Library}
use Rattle.p10_core.specs.declared.typed.Library.TheVariants.{Malloc, Calloc}
use Rattle.p10_core.specs.declared.typed.LogicOp.{LogicOp}
use Rattle.p10_core.specs.declared.typed.LogicOp.TheVariants as logic_operator
use Rattle.p10_core.specs.declared.statements.UpdateKind.TheVariants as kind
use Rattle.p10_core.specs.Types.{PlainType, integer, PlainStructure}
use Rattle.p10_core.specs.Typed.{PlainValue, value, constant, PlainPlace, place, variable, global, PlainStatementForm}
use Rattle.p10_core.specs.Rows.{is_void}
use Rattle.p10_elabx.specs.declared.operand.PlaceKind.{PlaceKind}
use Rattle.p10_elabx.specs.declared.operand.PlaceKind.TheVariants as place_kind
use Rattle.p10_elabx.specs.declared.allocations.Site.{Site}
use Rattle.p10_elabx.specs.declared.signs.Operation.{Operation}
use Rattle.p10_elabx.specs.declared.signs.Operation.TheVariants.{Values, Truth, Nothing}
use Rattle.p10_elabx.specs.declared.shape.Made.{Made}
use Rattle.p10_elabx.specs.declared.shape.Made.TheVariants as around
use Rattle.p10_elabx.specs.First.{Keep, Found, Ruled, ruled, refused, nothing_said, Judged, plainly, pair, on, on_part, on_parts, also, if_evaluated, unordered}
use Rattle.p10_elabx.specs.Scopes.{PlainScope, unevaluated, evaluating, Meaning, local, object, callable, number, unknown_name, named, library_named}
use Rattle.p10_elabx.specs.Operands.{PlainOperand, a_value, a_place, a_function, any_value, as_value}
use Rattle.p10_elabx.specs.Operators.{unary_value, binary_value, logic_value, conditional_value, cast_value, has_size, size_value, operand_size, dereferenced, indexed, member_found, arrow_found, address_found, target_found, assigned, updated}
use Rattle.p10_elabx.specs.Calls.{Callee, of_library, callee_of, Wanted, library_wants, wants_of, wanted_of, Listed, no_arguments, argument_judged, with_argument, call_judged, operand_call, other_call, allocation, element_count, size_constant, points_to}
use Rattle.p10_elabx.specs.TypeNames.{Shape, a_type, an_open_array, a_function_type, specifiers_judged, declarator_place, name_place, pointer_judged, array_judged, open_array_judged, is_alone, lacks_prototype, no_parameters, parameter_judged, with_parameter, function_judged}
use Rattle.p10_elabx.specs.Literals.{number_found, character_found, strings_found}

-- ## Names

-- the kind of a variable
abbrev pub variable_kind : Bool → PlaceKind
variable_kind frame = if frame then place_kind.Frame else place_kind.Object

-- the kind of an object of static lifetime
abbrev pub object_kind : Bool → PlaceKind
object_kind sensor = if sensor then place_kind.Sensor else place_kind.Object

-- a name that nothing declares: a library function, or unknown
abbrev pub undeclared_name : At → Option Library → Ruled PlainOperand
undeclared_name name_at None = refused subset.UnknownName name_at
undeclared_name name_at (Some f) = Ok (a_function name_at)

-- a name where it is an operand (C99 6.5.1p2): a tree with its parentheses, and the name alone
abbrev pub name_found : At → At → Text → Option Meaning → Ruled PlainOperand
name_found at name_at name None = undeclared_name name_at (library_named name)
name_found at name_at name (Some (local n t frame)) = Ok (a_place (variable_kind frame) (place at t (variable n)))
name_found at name_at name (Some (object n t sensor)) = Ok (a_place (object_kind sensor) (place at t (global n)))
name_found at name_at name (Some (callable n parameters result)) = Ok (a_function name_at)
name_found at name_at name (Some (number z)) = Ok (a_value (value at (integer false Int) (constant z)))
name_found at name_at name (Some unknown_name) = nothing_said
name_found at name_at name (Some what) = refused subset.UnknownName name_at

-- ## Forms

-- a value as an operand
abbrev pub valued : Ruled PlainValue → Ruled PlainOperand
valued f = ruled f (λ v. Ok (a_value v))

-- which operator a sign is
abbrev pub operation_of : Sign → Operation
operation_of sign.Plus = Values binary_operator.Add
operation_of sign.Minus = Values binary_operator.Sub
operation_of sign.Star = Values binary_operator.Mul
operation_of sign.Slash = Values binary_operator.Div
operation_of sign.Percent = Values binary_operator.Rem
operation_of sign.ShiftLeft = Values binary_operator.Shl
operation_of sign.ShiftRight = Values binary_operator.Shr
operation_of sign.And = Values binary_operator.And
operation_of sign.Bar = Values binary_operator.Or
operation_of sign.Caret = Values binary_operator.Xor
operation_of sign.Less = Values binary_operator.Lt
operation_of sign.Greater = Values binary_operator.Gt
operation_of sign.LessEqual = Values binary_operator.Le
operation_of sign.GreaterEqual = Values binary_operator.Ge
operation_of sign.Equal = Values binary_operator.Eq
operation_of sign.NotEqual = Values binary_operator.Ne
operation_of sign.AndAnd = Truth logic_operator.And
operation_of sign.OrOr = Truth logic_operator.Or
operation_of s = Nothing

-- the operator of a compound assignment; none for `=`
abbrev pub assignment_of : Sign → Option BinOp
assignment_of sign.StarAssign = Some binary_operator.Mul
assignment_of sign.SlashAssign = Some binary_operator.Div
assignment_of sign.PercentAssign = Some binary_operator.Rem
assignment_of sign.PlusAssign = Some binary_operator.Add
assignment_of sign.MinusAssign = Some binary_operator.Sub
assignment_of sign.ShiftLeftAssign = Some binary_operator.Shl
assignment_of sign.ShiftRightAssign = Some binary_operator.Shr
assignment_of sign.AndAssign = Some binary_operator.And
assignment_of sign.CaretAssign = Some binary_operator.Xor
assignment_of sign.BarAssign = Some binary_operator.Or
assignment_of s = None

-- the operator of `++` and `--`
abbrev pub step_of : Sign → BinOp
step_of sign.Decrement = binary_operator.Sub
step_of s = binary_operator.Add

-- a unary operator on a value; `*` gives a place, and `&` is judged apart
abbrev pub unary_found : At → Sign → PlainValue → Ruled PlainOperand
unary_found at sign.Star v = dereferenced at v
unary_found at sign.Plus v = valued (unary_value at unary_operator.Plus v)
unary_found at sign.Minus v = valued (unary_value at unary_operator.Neg v)
unary_found at sign.Tilde v = valued (unary_value at unary_operator.Com v)
unary_found at sign.Not v = valued (unary_value at unary_operator.Not v)
unary_found at s v = nothing_said

-- a unary operator on a value
unfoldable pub unary_judged : At → Sign → Judged PlainValue → Judged PlainOperand
unary_judged at s j = on_part j (unary_found at s)

-- whether a sign is `&`
abbrev pub is_and : Sign → Bool
is_and sign.And = true
is_and s = false

-- whether a sign is `*`
abbrev pub is_star : Sign → Bool
is_star sign.Star = true
is_star s = false

-- whether a tree of this form can be a place, whatever its names stand for
abbrev pub may_be_place : Expression At → Bool
may_be_place (expression at n (Name name)) = true
may_be_place (expression at n (Strings texts)) = true
may_be_place (expression at n (Unary word e)) = is_star word
may_be_place (expression at n (Index a i)) = true
may_be_place (expression at n (Member e name)) = true
may_be_place (expression at n (Arrow e name)) = true
may_be_place e = false

-- the place of an expression
abbrev pub place_of : Expression At → At
place_of (expression at n f) = at

-- `&`: that the operand is no place by its form is a row on the form
unfoldable pub address_judged : Keep → At → Bool → Judged PlainOperand → Judged PlainOperand
address_judged h at may j = also h (not may) subset.NoAddress at (on_part j (address_found at))

-- a unary operator: `&` or one on a value
abbrev pub unary_by_sign : Keep → List PlainStructure → At → Bool → Sign → Bool → Judged PlainOperand → Judged PlainOperand
unary_by_sign h structures at true word may j = address_judged h at may j
unary_by_sign h structures at false word may j = unary_judged at word (as_value structures j)

-- an operator between two values
unfoldable pub values_judged : Keep → List PlainStructure → At → BinOp → Judged PlainValue → Judged PlainValue → Judged PlainOperand
values_judged h structures at op j k =
    also h (unordered j k) subset.UnspecifiedOrder at (on_parts h j k (λ x y. valued (binary_value structures at op x y)))

-- `&&` and `||` have a sequence point between their operands
unfoldable pub truth_judged : Keep → At → LogicOp → Judged PlainValue → Judged PlainValue → Judged PlainOperand
truth_judged h at op j k = on_parts h j k (λ x y. valued (logic_value at op x y))

-- an operator between two values, by its sign
abbrev pub binary_judged : Keep → List PlainStructure → At → Operation → Judged PlainValue → Judged PlainValue → Judged PlainOperand
binary_judged h structures at (Values op) j k = values_judged h structures at op j k
binary_judged h structures at (Truth op) j k = truth_judged h at op j k
binary_judged h structures at Nothing j k = plainly nothing_said

-- `?:` has a sequence point after its first operand, and evaluates one of the others
unfoldable pub conditional_judged : Keep → At → Judged PlainValue → Judged PlainValue → Judged PlainValue → Judged PlainOperand
conditional_judged h at test j k = record {
  found = on (pair h test.found (pair h j.found k.found)) (λ (v, (x, y)). valued (conditional_value at v x y));
  acts = test.acts || (j.acts || k.acts);
  reads = test.reads || (j.reads || k.reads);
}

-- `a[i]`
unfoldable pub index_judged : Keep → List PlainStructure → At → Judged PlainValue → Judged PlainValue → Judged PlainOperand
index_judged h structures at j k = also h (unordered j k) subset.UnspecifiedOrder at (on_parts h j k (indexed structures at))

-- `.`
unfoldable pub member_judged : List PlainStructure → At → Text → Judged PlainOperand → Judged PlainOperand
member_judged structures at name j = on_part j (member_found structures at name)

-- `->`
unfoldable pub arrow_judged : List PlainStructure → At → Text → Judged PlainValue → Judged PlainOperand
arrow_judged structures at name j = on_part j (arrow_found structures at name)

-- `sizeof` of an operand, which isn't evaluated: nothing in it counts for the order of evaluation
unfoldable pub size_judged : List PlainStructure → At → Judged PlainOperand → Judged PlainOperand
size_judged structures at j = record { found = on j.found (operand_size structures at); acts = false; reads = false }

-- `sizeof` of a type
abbrev pub shape_size : List PlainStructure → At → Shape → Ruled PlainOperand
shape_size structures at (a_type t) = size_value structures at t
shape_size structures at (an_open_array t) = refused subset.NoSize at
shape_size structures at (a_function_type parameters t) = refused subset.NoSize at

-- `sizeof` of a type: nothing in it counts for the order of evaluation
unfoldable pub type_size_judged : List PlainStructure → At → Judged Shape → Judged PlainOperand
type_size_judged structures at j = record { found = on j.found (shape_size structures at); acts = false; reads = false }

-- a cast to a type, or to what none is
abbrev pub cast_found : At → Shape → PlainValue → Ruled PlainOperand
cast_found at (a_type t) v = valued (cast_value at t v)
cast_found at (an_open_array t) v = refused subset.BadCast at
cast_found at (a_function_type parameters t) v = refused subset.BadCast at

-- whether a cast's type is `void`, under which a void expression may stand
abbrev pub is_void_shape : Found Shape → Bool
is_void_shape (Ok (a_type t)) = is_void t
is_void_shape f = false

-- a cast of an operand
unfoldable pub cast_judged : Keep → List PlainStructure → At → Judged Shape → Judged PlainOperand → Judged PlainOperand
cast_judged h structures at t j =
    on_parts h t (if is_void_shape t.found then any_value structures j else as_value structures j) (cast_found at)

-- ## Assignments

-- the target of an assignment: that it is no place by its form is a row on the form
unfoldable pub target_judged : Keep → List PlainStructure → At → Bool → Judged PlainOperand → Judged (PlaceKind × PlainPlace)
target_judged h structures at may j = also h (not may) subset.FixedTarget at (on_part j (target_found structures at))

-- `P = e`: the operands are the place and the value
unfoldable pub assignment_judged : Keep → At → Judged (PlaceKind × PlainPlace) → Judged PlainValue → Judged PlainStatementForm
assignment_judged h at j k =
    also h (unordered j k) subset.UnspecifiedOrder at (on_parts h j k (λ (kind, p) v. assigned at p v))

-- whether a kind is read from an object, and whether from a sensor
abbrev pub counts_as_read : Found (PlaceKind × PlainPlace) → Bool
counts_as_read (Ok (place_kind.Frame, p)) = false
counts_as_read (Ok (k, p)) = true
counts_as_read (Err rs) = false

-- whether the read of a place is that of a sensor
abbrev pub counts_as_act : Found (PlaceKind × PlainPlace) → Bool
counts_as_act (Ok (place_kind.Sensor, p)) = true
counts_as_act (Ok (k, p)) = false
counts_as_act (Err rs) = false

-- the place with its read
unfoldable pub with_read : Judged (PlaceKind × PlainPlace) → Judged (PlaceKind × PlainPlace)
with_read j = record j { acts = j.acts || counts_as_act j.found; reads = j.reads || counts_as_read j.found }

-- `P op= e`: the operands are the place with its read, and `e`
unfoldable pub update_judged : Keep → List PlainStructure → At → BinOp → Judged (PlaceKind × PlainPlace) → Judged PlainValue → Judged PlainStatementForm
update_judged h structures at op j k =
    let read : Judged (PlaceKind × PlainPlace) = with_read j in
    also h (unordered read k) subset.UnspecifiedOrder at (on_parts h read k (λ (place_kind, p) v. updated structures at kind.Compound op p v))

-- the constant 1 of `P++` and `P--`, which stands where the step does
abbrev pub one_at : At → PlainValue
one_at at = value at (integer false Int) (constant (pos 1))

-- `P++` and `P--`
unfoldable pub step_judged : List PlainStructure → At → BinOp → Judged (PlaceKind × PlainPlace) → Judged PlainStatementForm
step_judged structures at op j = on_part (with_read j) (λ (place_kind, p). updated structures at kind.Step op p (one_at at))

-- an assignment by its sign
abbrev pub by_sign : Keep → List PlainStructure → At → Option BinOp → Judged (PlaceKind × PlainPlace) → Judged PlainValue → Judged PlainStatementForm
by_sign h structures at None j k = assignment_judged h at j k
by_sign h structures at (Some op) j k = update_judged h structures at op j k

-- an assignment or a step as an operand
unfoldable pub nested : Keep → At → Judged PlainStatementForm → Judged PlainOperand
nested h at j = also h true subset.NestedAssignment at (on_part j (λ _. nothing_said))

-- the comma operator: each operand is judged as a value, and there is a sequence point between them
unfoldable pub comma_judged : Keep → At → Listed → Judged PlainOperand
comma_judged h at k = also h true subset.CommaOperator at (record { found = on k.found (λ _. nothing_said); acts = k.acts; reads = k.reads })

-- ## Allocations

-- the type in an allocation: one that has a size, at its `sizeof`
abbrev pub sized_shape : List PlainStructure → At → Shape → Ruled PlainType
sized_shape structures at (a_type t) = if has_size structures t then Ok t else refused subset.NoSize at
sized_shape structures at (an_open_array t) = refused subset.NoSize at
sized_shape structures at (a_function_type parameters t) = refused subset.NoSize at

-- an allocation under a cast to a type
abbrev pub shape_allocation : Site → Library → Shape → PlainType → Option PlainValue → Ruled PlainOperand
shape_allocation site f (a_type t) element count = allocation site.cast_at t site.call_at site.name_at f element count
shape_allocation site f (an_open_array t) element count = refused subset.BadAllocation site.call_at
shape_allocation site f (a_function_type parameters t) element count = refused subset.BadAllocation site.call_at

-- `sizeof(T)` alone: one element
unfoldable pub one_element : Keep → List PlainStructure → Site → Judged Shape → At → Judged Shape → Judged PlainOperand
one_element h structures site t at element = record {
  found = on (pair h t.found (on element.found (sized_shape structures at))) (λ (s, e). shape_allocation site Malloc s e None);
  acts = true;
  reads = false;
}

-- a number of elements with `sizeof(T)`: another type of number than an integer is refused by a row that is given
unfoldable pub counted_elements : Keep → List PlainStructure → Site → Library → Ruled PlainValue → Judged Shape → At → Judged Shape → Judged PlainValue → Judged PlainOperand
counted_elements h structures site f otherwise t at element count = record {
  found = on (pair h t.found (pair h (on element.found (sized_shape structures at)) (on count.found (element_count otherwise))))
      (λ (s, (e, n)). shape_allocation site f s e (Some n));
  acts = true;
  reads = count.reads;
}

-- the type in a `sizeof`, with its size as a number of elements
abbrev pub size_shape : List PlainStructure → At → Shape → Ruled (PlainType × PlainValue)
size_shape structures at (a_type t) = if has_size structures t then Ok (t, size_constant structures at t) else refused subset.NoSize at
size_shape structures at (an_open_array t) = refused subset.NoSize at
size_shape structures at (a_function_type parameters t) = refused subset.NoSize at

-- of two sizes the one of the cast's type counts as `sizeof(T)`, the right one if both are; the other one is the number
abbrev pub either_size : Site → PlainType → PlainType × PlainValue → PlainType × PlainValue → Ruled PlainOperand
either_size site t left right =
    if points_to t right.0 then allocation site.cast_at t site.call_at site.name_at Malloc right.0 (Some left.1)
    else allocation site.cast_at t site.call_at site.name_at Malloc left.0 (Some right.1)

-- the same under a cast to what may be no type
abbrev pub either_shape : Site → Shape → PlainType × PlainValue → PlainType × PlainValue → Ruled PlainOperand
either_shape site (a_type t) left right = either_size site t left right
either_shape site (an_open_array t) left right = refused subset.BadAllocation site.call_at
either_shape site (a_function_type parameters t) left right = refused subset.BadAllocation site.call_at

-- `sizeof(A) * sizeof(B)`
unfoldable pub two_sizes : Keep → List PlainStructure → Site → Judged Shape → At → Judged Shape → At → Judged Shape → Judged PlainOperand
two_sizes h structures site t left_at left right_at right = record {
  found = on (pair h t.found (pair h (on left.found (size_shape structures left_at)) (on right.found (size_shape structures right_at))))
      (λ (s, (a, b)). either_shape site s a b);
  acts = true;
  reads = false;
}

-- an allocation of another form, whatever its arguments
unfoldable pub other_allocation : Keep → Site → Judged Shape → Judged PlainOperand → Judged PlainOperand
other_allocation h site t j = on_parts h t (also h true subset.BadAllocation site.call_at j) (λ _ o. Ok o)

-- a factor of the number of bytes in an allocation: where it stands, the type of which it is the size, if it is one, and its value
pub record Factor : Type 0 where
  pub at : At
  pub size : Option (Judged Shape)
  pub value : Judged PlainValue

-- an allocation of a product: of a number and a size, in any order
abbrev pub product_judged : Keep → List PlainStructure → Site → Judged Shape → Judged PlainOperand → At → Bool → Factor → Factor → Judged PlainOperand
product_judged h structures site t j at true left right = by_size h structures site t j at left left.size right right.size
  where
    by_size : Keep → List PlainStructure → Site → Judged Shape → Judged PlainOperand → At → Factor → Option (Judged Shape) → Factor → Option (Judged Shape) → Judged PlainOperand
    by_size h structures site t j at left (Some a) right (Some b) = two_sizes h structures site t left.at a right.at b
    by_size h structures site t j at left None right (Some b) = counted_elements h structures site Malloc (refused subset.OperandTypes at) t right.at b left.value
    by_size h structures site t j at left (Some a) right None = counted_elements h structures site Malloc (refused subset.OperandTypes at) t left.at a right.value
    by_size h structures site t j at left None right None = other_allocation h site t j
product_judged h structures site t j at false left right = other_allocation h site t j

-- an allocation of a number of elements by `calloc`, whose second argument may be a size
abbrev pub cleared_judged : Keep → List PlainStructure → Site → Judged Shape → Judged PlainOperand → At → Judged PlainValue → At → Option (Judged Shape) → Judged PlainOperand
cleared_judged h structures site t j at count size_at (Some element) = counted_elements h structures site Calloc (refused subset.TypesDiffer at) t size_at element count
cleared_judged h structures site t j at count size_at None = other_allocation h site t j

-- ## The trees

-- how many expressions there are
abbrev pub count_of : Expressions At → ℕ
count_of NoExpressions = 0
count_of (MoreExpressions e rest) = count_of rest + 1

-- the name that a tree is, whatever parentheses stand round it
abbrev pub called_name : Expression At → Option (Identifier At)
called_name (expression at n (Name name)) = Some name
called_name e = None

-- what is done with a call of a name, or with another one
abbrev pub for_name : {A : Type 0} → Option (Identifier At) → (Identifier At → A) → A → A
for_name None go other = other
for_name (Some name) go other = go name

-- whether the called name is that of a library function for memory
abbrev pub is_memory : Callee → Option Library
is_memory (of_library Malloc) = Some Malloc
is_memory (of_library Calloc) = Some Calloc
is_memory callee = None

-- the library function for memory that is called by a name, if it is one
abbrev pub memory_called : PlainScope → Option (Identifier At) → Option (Library × At)
memory_called s None = None
memory_called s (Some f) = option_map (λ l. (l, f.place)) (is_memory (callee_of (named s f.name) f.name))

-- what is done with a call of a library function for memory, or with another one
abbrev pub for_memory : {A : Type 0} → Option (Library × At) → (Library → At → A) → A → A
for_memory None go other = other
for_memory (Some (f, name_at)) go other = go f name_at

-- an operand where a value is needed
abbrev pub value_in : PlainScope → Judged PlainOperand → Judged PlainValue
value_in s j = if_evaluated s.evaluated (as_value s.structures j)

-- the target of an assignment or a step
abbrev pub target_in : Keep → PlainScope → Expression At → Judged PlainOperand → Judged (PlaceKind × PlainPlace)
target_in h s e j = if_evaluated s.evaluated (target_judged h s.structures (place_of e) (may_be_place e) j)

abbrev mutual
  -- what is found in an expression. Nothing in an operand of `sizeof` is evaluated; the length in a type is a constant expression,
  -- and is judged alike everywhere
  pub judge : Keep → PlainScope → Expression At → Judged PlainOperand
  judge h s (expression at n (Name x)) = plainly (name_found at x.place x.name (named s x.name))
  judge h s (expression at n (Number text)) = plainly (number_found at text)
  judge h s (expression at n (Character text)) = plainly (character_found at text)
  judge h s (expression at n (Strings texts)) = plainly (strings_found at texts)
  judge h s (expression at n (Unary word e)) = unary_by_sign h s.structures at (is_and word) word (may_be_place e) (judge h s e)
  judge h s (expression at n (Step side word e)) =
      nested h at (step_judged s.structures at (step_of word) (target_in h s e (judge h s e)))
  judge h s (expression at n (Binary word a b)) =
      binary_judged h s.structures at (operation_of word) (value_in s (judge h s a)) (value_in s (judge h s b))
  judge h s (expression at n (Assign word a b)) =
      nested h at (by_sign h s.structures at (assignment_of word) (target_in h s a (judge h s a)) (value_in s (judge h s b)))
  judge h s (expression at n (Conditional c a b)) =
      conditional_judged h at (value_in s (judge h s c)) (value_in s (judge h s a)) (value_in s (judge h s b))
  -- a call: of a name, or of something else
  judge h s (expression at n (Call e all)) =
      for_name (called_name e)
      (λ f. let callee : Callee = callee_of (named s f.name) f.name in
      operand_call h at callee (call_judged h at f.place callee (count_of all) (judge_arguments h s (wanted_of (wants_of callee) (count_of all)) 0 no_arguments all)))
      (other_call h at (judge h s e) (judge_arguments h s [] 0 no_arguments all))
  judge h s (expression at n (Index a i)) = index_judged h s.structures at (value_in s (judge h s a)) (value_in s (judge h s i))
  judge h s (expression at n (Member e name)) = member_judged s.structures at name.name (judge h s e)
  judge h s (expression at n (Arrow e name)) = arrow_judged s.structures at name.name (value_in s (judge h s e))
  judge h s (expression at n (Cast t e)) = judge_cast h s at (judge_type h (evaluating s) t) (judge h s e) e
  judge h s (expression at n (SizeofExpression e)) = size_judged s.structures at (judge h (unevaluated s) e)
  judge h s (expression at n (SizeofType t)) = type_size_judged s.structures at (judge_type h (evaluating s) t)
  judge h s (expression at n (Comma all)) = comma_judged h at (judge_arguments h s [] 0 no_arguments all)

  -- arguments from the left, after those before
  pub judge_arguments : Keep → PlainScope → List Wanted → ℕ → Listed → Expressions At → Listed
  judge_arguments h s wanted i k NoExpressions = k
  judge_arguments h s wanted i k (MoreExpressions e rest) =
      judge_arguments h s wanted (i + 1) (with_argument h k (argument_judged (slice_get wanted i) (value_in s (judge h s e)))) rest

  -- a cast to a type of an operand, of which it is known what is found in it: that of a call of `malloc` or `calloc` is an allocation
  pub judge_cast : Keep → PlainScope → At → Judged Shape → Judged PlainOperand → Expression At → Judged PlainOperand
  judge_cast h s at t j (expression call_at m (Call e all)) =
      for_memory (memory_called s (called_name e))
      (λ f name_at. judge_allocation h s (record { cast_at = at; call_at = call_at; name_at = name_at }) t f
      (call_judged h call_at name_at (of_library f) (count_of all) (judge_arguments h s (wanted_of (Some (library_wants f)) (count_of all)) 0 no_arguments all)) all)
      (cast_judged h s.structures at t j)
  judge_cast h s at t j e = cast_judged h s.structures at t j

  -- an allocation under a cast, by its arguments; what is found in the call counts where it is of another form
  pub judge_allocation : Keep → PlainScope → Site → Judged Shape → Library → Judged PlainOperand → Expressions At → Judged PlainOperand
  judge_allocation h s site t Malloc j (MoreExpressions e NoExpressions) = judge_bytes h s site t j e
  judge_allocation h s site t Calloc j (MoreExpressions e (MoreExpressions size NoExpressions)) =
      cleared_judged h s.structures site t j (place_of e) (value_in s (judge h s e)) (place_of size) (judge_size h (evaluating s) size)
  judge_allocation h s site t f j all = other_allocation h site t j

  -- an allocation of a number of bytes
  pub judge_bytes : Keep → PlainScope → Site → Judged Shape → Judged PlainOperand → Expression At → Judged PlainOperand
  judge_bytes h s site t j (expression at n (SizeofType element)) = one_element h s.structures site t at (judge_type h (evaluating s) element)
  judge_bytes h s site t j (expression at n (Binary word a b)) =
      product_judged h s.structures site t j at (is_star word)
      (record { at = place_of a; size = judge_size h (evaluating s) a; value = value_in s (judge h s a) })
      (record { at = place_of b; size = judge_size h (evaluating s) b; value = value_in s (judge h s b) })
  judge_bytes h s site t j e = other_allocation h site t j

  -- what is found in the type of a `sizeof`, where the tree is one
  pub judge_size : Keep → PlainScope → Expression At → Option (Judged Shape)
  judge_size h s (expression at n (SizeofType t)) = Some (judge_type h s t)
  judge_size h s e = None

  -- the type that a type name names
  pub judge_type : Keep → PlainScope → TypeName At → Judged Shape
  judge_type h s (type_name at specifiers d) =
      judge_declarator h s (declarator_place d) around.Nothing (specifiers_judged h s at specifiers) d

  -- what a declarator makes of a type: where an incomplete type is refused, and what stands round the declarator, are given
  pub judge_declarator : Keep → PlainScope → At → Made → Judged Shape → Declarator At → Judged Shape
  judge_declarator h s name_at made j (Named name) = j
  judge_declarator h s name_at made j (Unnamed at) = j
  judge_declarator h s name_at made j (Pointer at qualifiers d) = judge_declarator h s name_at around.Pointer (pointer_judged h at name_at qualifiers made j) d
  judge_declarator h s name_at made j (Parenthesised at d) = judge_declarator h s name_at made j d
  judge_declarator h s name_at made j (Array at d brackets Absent) = judge_declarator h s name_at around.OpenArray (open_array_judged h s.structures name_at made j) d
  judge_declarator h s name_at made j (Array at d brackets (Present e)) =
      judge_declarator h s name_at around.Array (array_judged h s.structures name_at made (as_value s.structures (judge h s e)) j) d
  judge_declarator h s name_at made j (Function at d parentheses all dots) =
      judge_declarator h s name_at around.Function
      (function_judged h at name_at parentheses (lacks_prototype all dots) made (judge_parameters h s (is_alone all) no_parameters all) j) d

  -- the types of parameters from the left, after those before
  pub judge_parameters : Keep → PlainScope → Bool → Found (List PlainType) → Parameters At → Found (List PlainType)
  judge_parameters h s alone before NoParameters = before
  judge_parameters h s alone before (MoreParameters (parameter at specifiers d) rest) =
      judge_parameters h s alone
      (with_parameter h before (parameter_judged h alone at d (judge_declarator h s (name_place at d) around.Nothing (specifiers_judged h s at specifiers) d))) rest
