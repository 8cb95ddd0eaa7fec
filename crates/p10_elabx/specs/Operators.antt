-- What the operators make of their operands, or that they may not be applied to them: a row for each (C99 6.5).
use Rattle.std.specs.Prelude.{ℕ, pos, Bool, false, ◌&&◌, nat_le, Option, Some, None, Ok, if◌then◌else◌, List, slice_get}
use Rattle.p10_base.specs.Words.{Text}
use Rattle.p10_base.specs.declared.at.At.{At}
use Rattle.p10_base.specs.declared.codes.SubsetCode.TheVariants as subset
use Rattle.p10_int.specs.declared.types.IntType.{IntType}
use Rattle.p10_int.specs.declared.types.IntType.TheVariants.{ULong}
use Rattle.p10_int.specs.declared.operators.BinOp.{BinOp}
use Rattle.p10_int.specs.declared.operators.UnOp.{UnOp}
use Rattle.p10_int.specs.Types.{promoted}
use Rattle.p10_core.specs.declared.typed.LogicOp.{LogicOp}
use Rattle.p10_core.specs.declared.statements.UpdateKind.{UpdateKind}
use Rattle.p10_core.specs.WholePrograms.{most_bytes}
use Rattle.p10_core.specs.Types.{PlainType, integer, pointer, array, structure, qualified, unqualified, PlainMember, PlainStructure, members_of, member_named}
use Rattle.p10_core.specs.Sizes.{size_of}
use Rattle.p10_core.specs.Typed.{PlainValue, value, constant, read, address, cast, unary, binary, logic, conditional, PlainPlace, place, index, member, dereference, type_of, place_type, PlainStatementForm, set, update, copy}
use Rattle.p10_core.specs.Rows.{Row, UnaryRow, unary_row, binary_row, conditional_row, fits, may_cast, same, is_scalar, is_complete, is_modifiable, int_type}
use Rattle.p10_core.specs.Constants.{is_null}
use Rattle.p10_elabx.specs.declared.operand.PlaceKind.{PlaceKind}
use Rattle.p10_elabx.specs.declared.operand.PlaceKind.TheVariants.{Object}
use Rattle.p10_elabx.specs.First.{Ruled, refused, ruled}
use Rattle.p10_elabx.specs.Operands.{PlainOperand, a_value, a_place, a_function, converted, is_sensor_kind}

-- ## Values

-- a unary operator by its row (C99 6.5.3.3)
abbrev pub unary_by : At → UnOp → PlainValue → Option UnaryRow → Ruled PlainValue
unary_by at op v None = refused subset.OperandTypes at
unary_by at op v (Some r) = Ok (value at r.result (unary op (converted v r.operand)))

-- unary `+`, `-`, `~`, `!`
abbrev pub unary_value : At → UnOp → PlainValue → Ruled PlainValue
unary_value at op v = unary_by at op v (unary_row op (type_of v))

-- a binary operator by its row
abbrev pub binary_by : At → BinOp → PlainValue → PlainValue → Option Row → Ruled PlainValue
binary_by at op a b None = refused subset.OperandTypes at
binary_by at op a b (Some r) = Ok (value at r.result (binary op (converted a r.left) (converted b r.right)))

-- a binary operator on two values (C99 6.5.5 to 6.5.12)
abbrev pub binary_value : List PlainStructure → At → BinOp → PlainValue → PlainValue → Ruled PlainValue
binary_value structures at op a b = binary_by at op a b (binary_row structures op (is_null a) (is_null b) (type_of a) (type_of b))

-- `&&` and `||`: scalars (C99 6.5.13, 6.5.14)
abbrev pub logic_value : At → LogicOp → PlainValue → PlainValue → Ruled PlainValue
logic_value at op a b =
    if is_scalar (type_of a) && is_scalar (type_of b) then Ok (value at int_type (logic op a b)) else refused subset.OperandTypes at

-- `?:` by its row
abbrev pub conditional_by : At → PlainValue → PlainValue → PlainValue → Option Row → Ruled PlainValue
conditional_by at test a b None = refused subset.OperandTypes at
conditional_by at test a b (Some r) = Ok (value at r.result (conditional test (converted a r.left) (converted b r.right)))

-- `?:`: a scalar, and two values for which there is a row (C99 6.5.15)
abbrev pub conditional_value : At → PlainValue → PlainValue → PlainValue → Ruled PlainValue
conditional_value at test a b =
    if is_scalar (type_of test) then conditional_by at test a b (conditional_row (is_null a) (is_null b) (type_of a) (type_of b))
    else refused subset.OperandTypes at

-- a value where one of a type is needed, as in an assignment: the tree at which it is refused is given (C99 6.5.16.1)
abbrev pub fitted : At → PlainValue → PlainType → Ruled PlainValue
fitted at v t = if fits (is_null v) (type_of v) t then Ok (converted v (unqualified t)) else refused subset.TypesDiffer at

-- a written cast (C99 6.5.4)
abbrev pub cast_value : At → PlainType → PlainValue → Ruled PlainValue
cast_value at t v =
    if may_cast (is_null v) (type_of v) t then Ok (value at (unqualified t) (cast v)) else refused subset.BadCast at

-- whether a type has a size, which isn't larger than a type may be (C99 6.2.5p1)
abbrev pub has_size : List PlainStructure → PlainType → Bool
has_size structures (array c t n) = has_size structures t && nat_le (size_of structures (array c t n)) most_bytes
has_size structures t = is_complete structures t && nat_le (size_of structures t) most_bytes

-- the size of a type, which is a constant (C99 6.5.3.4)
abbrev pub size_value : List PlainStructure → At → PlainType → Ruled PlainOperand
size_value structures at t =
    if has_size structures t then Ok (a_value (value at (integer false ULong) (constant (pos (size_of structures t))))) else refused subset.NoSize at

-- `sizeof` of an operand: of a place that of its type, also of an array
abbrev pub operand_size : List PlainStructure → At → PlainOperand → Ruled PlainOperand
operand_size structures at (a_value v) = size_value structures at (type_of v)
operand_size structures at (a_place kind p) = size_value structures at (place_type p)
operand_size structures at (a_function b) = refused subset.NoSize at

-- ## Places

-- `*`: a pointer (C99 6.5.3.2)
abbrev pub dereferenced : At → PlainValue → Ruled PlainOperand
dereferenced at (value b (pointer c t) f) = Ok (a_place Object (place at t (dereference (value b (pointer c t) f))))
dereferenced at v = refused subset.OperandTypes at

-- the index, promoted
abbrev pub promoted_value : PlainValue → IntType → PlainValue
promoted_value v i = converted v (integer false (promoted i))

-- an element of what a pointer to a type with a size points to
abbrev pub element_of : List PlainStructure → At → PlainType → PlainValue → PlainValue → Ruled PlainOperand
element_of structures at t a i =
    if is_complete structures t then Ok (a_place Object (place at t (index a i))) else refused subset.OperandTypes at

-- `a[i]`: an array or a pointer, and an integer, in this order (C99 6.5.2.1)
abbrev pub indexed : List PlainStructure → At → PlainValue → PlainValue → Ruled PlainOperand
indexed structures at (value b (pointer c t) f) (value d (integer e i) g) =
    element_of structures at t (value b (pointer c t) f) (promoted_value (value d (integer e i) g) i)
indexed structures at a i = refused subset.OperandTypes at

-- a member that is there, with the marks of the structure: members have numbers of 32 bits, as words have
abbrev pub member_there : At → Bool → PlainPlace → ℕ → Option PlainMember → Ruled PlainOperand
member_there at c p m None = refused subset.UnknownMember at
member_there at c p m (Some found) =
    if nat_le m 4294967295 then Ok (a_place Object (place at (qualified c found.type) (member p m))) else refused subset.UnknownMember at

-- a member by its place among the members
abbrev pub member_by : At → Bool → PlainPlace → List PlainMember → Option ℕ → Ruled PlainOperand
member_by at c p members None = refused subset.UnknownMember at
member_by at c p members (Some m) = member_there at c p m (slice_get members m)

-- the member with a name of a place that is a structure
abbrev pub member_in : List PlainStructure → At → Text → PlainPlace → Ruled PlainOperand
member_in structures at name (place b (structure c n) f) =
    member_by at c (place b (structure c n) f) (members_of structures n) (member_named name (members_of structures n))
member_in structures at name p = refused subset.OperandTypes at

-- `.`: a structure (C99 6.5.2.3)
abbrev pub member_found : List PlainStructure → At → Text → PlainOperand → Ruled PlainOperand
member_found structures at name (a_place kind p) = member_in structures at name p
member_found structures at name (a_value v) = refused subset.OperandTypes at
member_found structures at name (a_function b) = refused subset.BadPointer b

-- `->`: a pointer to a structure; both nodes stand at the tree (C99 6.5.2.3)
abbrev pub arrow_found : List PlainStructure → At → Text → PlainValue → Ruled PlainOperand
arrow_found structures at name (value b (pointer c (structure d n)) f) =
    member_in structures at name (place at (structure d n) (dereference (value b (pointer c (structure d n)) f)))
arrow_found structures at name v = refused subset.OperandTypes at

-- `&`: a place that is no sensor (C99 6.5.3.2)
abbrev pub address_found : At → PlainOperand → Ruled PlainOperand
address_found at (a_value v) = refused subset.NoAddress at
address_found at (a_place kind p) =
    if is_sensor_kind kind then refused subset.NoAddress at else Ok (a_value (value at (pointer false (place_type p)) (address p)))
address_found at (a_function b) = refused subset.BadPointer at

-- ## Assignments

-- a place that may be assigned (C99 6.3.2.1p1)
abbrev pub target_found : List PlainStructure → At → PlainOperand → Ruled (PlaceKind × PlainPlace)
target_found structures at (a_value v) = refused subset.FixedTarget at
target_found structures at (a_place kind p) = if is_modifiable structures (place_type p) then Ok (kind, p) else refused subset.FixedTarget at
target_found structures at (a_function b) = refused subset.FixedTarget at

-- the copy of a structure, whose value is read from a place of that type
abbrev pub copied_from : At → PlainPlace → PlainValue → Ruled PlainStatementForm
copied_from at p (value b t (read q)) = if same (unqualified (place_type p)) t then Ok (copy p q) else refused subset.TypesDiffer at
copied_from at p v = refused subset.TypesDiffer at

-- `P = e` (C99 6.5.16.1)
abbrev pub assigned : At → PlainPlace → PlainValue → Ruled PlainStatementForm
assigned at p v =
    if is_scalar (place_type p) then ruled (fitted at v (place_type p)) (λ w. Ok (set p w)) else copied_from at p v

-- the result of the operator of `P op= e` fits P
abbrev pub updated_by : At → UpdateKind → BinOp → PlainPlace → PlainValue → Option Row → Ruled PlainStatementForm
updated_by at kind op p v None = refused subset.OperandTypes at
updated_by at kind op p v (Some r) =
    if fits false r.result (place_type p) then Ok (update kind op r.left p (converted v r.right)) else refused subset.TypesDiffer at

-- `P op= e`, `P++` and `P--` (C99 6.5.16.2, 6.5.2.4)
abbrev pub updated : List PlainStructure → At → UpdateKind → BinOp → PlainPlace → PlainValue → Ruled PlainStatementForm
updated structures at kind op p v =
    updated_by at kind op p v (binary_row structures op false (is_null v) (unqualified (place_type p)) (type_of v))
