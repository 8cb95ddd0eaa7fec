-- What operators make of operands that are the same.
use Rattle.p10_int.specs.Types.{promoted}
use Rattle.std.proofs.Common.{◌≡◌, ℕ, zero, suc, ◌+◌, Bool, List, Option, Some, None, ℤ, refl, subst, ap, false}
use Rattle.std.specs.Prelude.{if◌then◌else◌, slice_get, bytes_eq, pos}
use Rattle.std.specs.List.{position_from}
use Rattle.p10_base.specs.Words.{Text}
use Rattle.p10_base.specs.declared.at.At.{At}
use Rattle.p10_int.specs.declared.operators.BinOp.{BinOp}
use Rattle.p10_int.specs.declared.operators.UnOp.{UnOp}
use Rattle.p10_core.specs.declared.typed.LogicOp.{LogicOp}
use Rattle.p10_core.specs.Types.{PlainType, unqualified, PlainMember, PlainStructure, members_of, member_named, structure}
use Rattle.p10_core.specs.Sizes.{size_of}
use Rattle.p10_core.specs.Typed.{PlainValue, constant, PlainPlace, type_of, place}
use Rattle.p10_core.specs.Rows.{Row, UnaryRow, is_scalar, unary_row, binary_row, conditional_row}
use Rattle.p10_core.specs.Constants.{is_null}
use Rattle.p10_elabx.specs.Operands.{PlainOperand}
use Rattle.p10_elabx.specs.Operators.{unary_by, unary_value, binary_by, binary_value, logic_value, conditional_by, conditional_value, fitted, cast_value, size_value, operand_size, dereferenced, element_of, indexed, member_there, member_by, member_in, member_found, arrow_found, address_found}
use Rattle.p10_renaming.specs.Renaming.{Pairing, SameType, same_integer, same_pointer, same_structure, SameValue, same_value, SameForm, same_constant, same_address, same_cast, same_unary, same_binary, same_logic, same_conditional, SamePlace, same_place, same_index, same_member, same_dereference}
use Rattle.p10_expression_renaming.specs.Knowing.{Ruling, SameOperand, same_a_value, same_a_place, same_a_function, SameMembers, same_no_members, same_more_members, SameStructures, IsOneToOne}
use Rattle.p10_expression_renaming.proofs.Finding.{none_right, when_both, when_ok, unless_ok}
use Rattle.p10_expression_renaming.proofs.Types.{unqualified_same, qualified_same, size_same}
use Rattle.p10_expression_renaming.proofs.Values.{type_same, place_type_same}
use Rattle.p10_expression_renaming.proofs.Rows.{RowsSame, UnaryRowsSame, binary_both, conditional_both, unary_both}
use Rattle.p10_expression_renaming.proofs.Operands.{converted_both}

-- ## Values

unary_by_both : (R : Pairing) → IsOneToOne R → (at to : At) (op : UnOp) (v w : PlainValue) → SameValue R v w → (r s : Option UnaryRow) → UnaryRowsSame R r s → Ruling (SameValue R) (unary_by at op v r) (unary_by to op w s)
unary_by_both R one at to op v w h None s k = tt
unary_by_both R one at to op v w h (Some r) None k = tt
unary_by_both R one at to op v w h (Some r) (Some s) k = same_value k.result (same_unary (converted_both R one v w r.operand s.operand h k.operand))

pub unary_value_both : (R : Pairing) → IsOneToOne R → (at to : At) (op : UnOp) (v w : PlainValue) → SameValue R v w → Ruling (SameValue R) (unary_value at op v) (unary_value to op w)
unary_value_both R one at to op v w h = unary_by_both R one at to op v w h (unary_row op (type_of v)) (unary_row op (type_of w)) (unary_both R op (type_same R h))

binary_by_both : (R : Pairing) → IsOneToOne R → (at to : At) (op : BinOp) (a b c d : PlainValue) → SameValue R a c → SameValue R b d → (r s : Option Row) → RowsSame R r s → Ruling (SameValue R) (binary_by at op a b r) (binary_by to op c d s)
binary_by_both R one at to op a b c d h k None s same = tt
binary_by_both R one at to op a b c d h k (Some r) None same = tt
binary_by_both R one at to op a b c d h k (Some r) (Some s) same = same_value same.result (same_binary (converted_both R one a c r.left s.left h same.left) (converted_both R one b d r.right s.right k same.right))

pub binary_value_both : (R : Pairing) → IsOneToOne R → (these others : List PlainStructure) (at to : At) (op : BinOp) (a c : PlainValue) → SameValue R a c → (b d : PlainValue) → SameValue R b d → Ruling (SameValue R) (binary_value these at op a b) (binary_value others to op c d)
binary_value_both R one these others at to op a c h b d k =
    binary_by_both R one at to op a b c d h k (binary_row these op (is_null a) (is_null b) (type_of a) (type_of b)) (binary_row others op (is_null c) (is_null d) (type_of c) (type_of d))
    (binary_both R these others op (is_null a) (is_null b) (is_null c) (is_null d) (type_same R h) (type_same R k))

pub logic_value_both : (R : Pairing) (at to : At) (op : LogicOp) (a c : PlainValue) → SameValue R a c → (b d : PlainValue) → SameValue R b d → Ruling (SameValue R) (logic_value at op a b) (logic_value to op c d)
logic_value_both R at to op a c h b d k = when_ok (SameValue R) _ _ _ _ _ _ _ (same_value same_integer (same_logic h k))

conditional_by_both : (R : Pairing) → IsOneToOne R → (at to : At) (x y a b c d : PlainValue) → SameValue R x y → SameValue R a c → SameValue R b d → (r s : Option Row) → RowsSame R r s
    → Ruling (SameValue R) (conditional_by at x a b r) (conditional_by to y c d s)
conditional_by_both R one at to x y a b c d g h k None s same = tt
conditional_by_both R one at to x y a b c d g h k (Some r) None same = tt
conditional_by_both R one at to x y a b c d g h k (Some r) (Some s) same =
    same_value same.result (same_conditional g (converted_both R one a c r.left s.left h same.left) (converted_both R one b d r.right s.right k same.right))

pub conditional_value_both : (R : Pairing) → IsOneToOne R → (at to : At) (x y a b c d : PlainValue) → SameValue R x y → SameValue R a c → SameValue R b d → Ruling (SameValue R) (conditional_value at x a b) (conditional_value to y c d)
conditional_value_both R one at to x y a b c d g h k =
    when_both (SameValue R) (is_scalar (type_of x)) (is_scalar (type_of y)) (conditional_by at x a b (conditional_row (is_null a) (is_null b) (type_of a) (type_of b))) (conditional_by to y c d (conditional_row (is_null c) (is_null d) (type_of c) (type_of d)))
    _ _
    (conditional_by_both R one at to x y a b c d g h k (conditional_row (is_null a) (is_null b) (type_of a) (type_of b)) (conditional_row (is_null c) (is_null d) (type_of c) (type_of d))
    (conditional_both R (is_null a) (is_null b) (is_null c) (is_null d) (type_same R h) (type_same R k)))

pub fitted_both : (R : Pairing) → IsOneToOne R → (at to : At) (v w : PlainValue) (t u : PlainType) → SameValue R v w → SameType R t u → Ruling (SameValue R) (fitted at v t) (fitted to w u)
fitted_both R one at to v w t u h k = when_ok (SameValue R) _ _ _ _ _ _ _ (converted_both R one v w (unqualified t) (unqualified u) h (unqualified_same R k))

pub cast_value_both : (R : Pairing) (at to : At) (t u : PlainType) (v w : PlainValue) → SameType R t u → SameValue R v w → Ruling (SameValue R) (cast_value at t v) (cast_value to u w)
cast_value_both R at to t u v w k h = when_ok (SameValue R) _ _ _ _ _ _ _ (same_value (unqualified_same R k) (same_cast h))

pub constant_same : (R : Pairing) (x y : ℤ) → x ≡ y → SameForm R (constant x) (constant y)
constant_same R x y e = subst (λ z. SameForm R (constant x) (constant z)) e same_constant

pub size_value_both : (R : Pairing) (these others : List PlainStructure) → SameStructures R these others → (at to : At) (t u : PlainType) → SameType R t u → Ruling (SameOperand R) (size_value these at t) (size_value others to u)
size_value_both R these others know at to t u h =
    when_ok (SameOperand R) _ _ _ _ _ _ _ (same_a_value (same_value same_integer (constant_same R (pos (size_of these t)) (pos (size_of others u)) (ap pos (size_same R these others know h)))))

pub operand_size_both : (R : Pairing) (these others : List PlainStructure) → SameStructures R these others → (at to : At) (o k : PlainOperand) → SameOperand R o k → Ruling (SameOperand R) (operand_size these at o) (operand_size others to k)
operand_size_both R these others know at to o k (same_a_value {v = v} {w = w} h) = size_value_both R these others know at to _ _ (type_same R h)
operand_size_both R these others know at to o k (same_a_place h) = size_value_both R these others know at to _ _ (place_type_same R h)
operand_size_both R these others know at to o k same_a_function = tt

-- ## Places

pub dereferenced_both : (R : Pairing) (at to : At) (v w : PlainValue) → SameValue R v w → Ruling (SameOperand R) (dereferenced at v) (dereferenced to w)
dereferenced_both R at to v w (same_value (same_pointer h) f) = same_a_place (same_place h (same_dereference (same_value (same_pointer h) f)))
dereferenced_both R at to v w (same_value h f) = tt

element_both : (R : Pairing) (these others : List PlainStructure) (at to : At) (t u : PlainType) (a b i j : PlainValue) → SameType R t u → SameValue R a b → SameValue R i j → Ruling (SameOperand R) (element_of these at t a i) (element_of others to u b j)
element_both R these others at to t u a b i j h x y = when_ok (SameOperand R) _ _ _ _ _ _ _ (same_a_place (same_place h (same_index x y)))

pub indexed_both : (R : Pairing) → IsOneToOne R → (these others : List PlainStructure) (at to : At) (a b : PlainValue) → SameValue R a b → (i j : PlainValue) → SameValue R i j → Ruling (SameOperand R) (indexed these at a i) (indexed others to b j)
indexed_both R one these others at to a b (same_value {at = x} {to = y} (same_pointer h) f) i j (same_value {at = u} {to = w} (same_integer {c = c} {kind = kind}) g) =
    element_both R these others at to _ _ _ _ _ _ h (same_value {at = x} {to = y} (same_pointer h) f)
    (converted_both R one _ _ _ _ (same_value {at = u} {to = w} (same_integer {c = c} {kind = kind}) g) (same_integer {c = false} {kind = promoted kind}))
indexed_both R one these others at to a b (same_value h f) i j (same_value k g) = tt

-- members that are found on both sides have types that are the same
abbrev MembersSame : Pairing → Option PlainMember → Option PlainMember → Type 0
MembersSame R None o = Unit {0}
MembersSame R (Some a) None = Unit {0}
MembersSame R (Some a) (Some b) = SameType R a.type b.type

member_at : (R : Pairing) {xs ys : List PlainMember} → SameMembers R xs ys → (m : ℕ) → MembersSame R (slice_get xs m) (slice_get ys m)
member_at R same_no_members m = tt
member_at R (same_more_members h rest) zero = h
member_at R (same_more_members h rest) (suc m) = member_at R rest m

position_same : (R : Pairing) (name : Text) (from : ℕ) {xs ys : List PlainMember} → SameMembers R xs ys → position_from (λ m. bytes_eq m.name name) from xs ≡ position_from (λ m. bytes_eq m.name name) from ys
position_same R name from same_no_members = refl
position_same R name from (same_more_members {name = own} h rest) = ap (λ o. if bytes_eq own name then Some from else o) (position_same R name (from + 1) rest)

there_both : (R : Pairing) (at to : At) (c : Bool) {q r : PlainPlace} → SamePlace R q r → (m : ℕ) (o k : Option PlainMember) → MembersSame R o k → Ruling (SameOperand R) (member_there at c q m o) (member_there to c r m k)
there_both R at to c h m None k same = tt
there_both R at to c h m (Some a) None same = none_right (SameOperand R) _ _
there_both R at to c h m (Some a) (Some b) same = when_ok (SameOperand R) _ _ _ _ _ _ _ (same_a_place (same_place (qualified_same R c same) (same_member h)))

by_both : (R : Pairing) (at to : At) (c : Bool) (q r : PlainPlace) → SamePlace R q r → (xs ys : List PlainMember) → SameMembers R xs ys → (o : Option ℕ) → Ruling (SameOperand R) (member_by at c q xs o) (member_by to c r ys o)
by_both R at to c q r h xs ys all None = tt
by_both R at to c q r h xs ys all (Some m) = there_both R at to c h m (slice_get xs m) (slice_get ys m) (member_at R all m)

in_both : (R : Pairing) (these others : List PlainStructure) → SameStructures R these others → (at to : At) (name : Text) (q r : PlainPlace) → SamePlace R q r → Ruling (SameOperand R) (member_in these at name q) (member_in others to name r)
in_both R these others know at to name q r (same_place {at = x} {to = y} {f = a} {g = b} (same_structure {c = c} {n = n} {m = m} paired) f) =
    subst
    (λ o. Ruling (SameOperand R) (member_by at c (place x (structure c n) a) (members_of these n) (member_named name (members_of these n))) (member_by to c (place y (structure c m) b) (members_of others m) o))
    (position_same R name 0 (know.members n m paired))
    (by_both R at to c (place x (structure c n) a) (place y (structure c m) b) (same_place (same_structure paired) f) (members_of these n) (members_of others m) (know.members n m paired) (member_named name (members_of these n)))
in_both R these others know at to name q r (same_place h f) = tt

pub member_both : (R : Pairing) (these others : List PlainStructure) → SameStructures R these others → (at to : At) (name : Text) (o k : PlainOperand) → SameOperand R o k → Ruling (SameOperand R) (member_found these at name o) (member_found others to name k)
member_both R these others know at to name o k (same_a_value h) = tt
member_both R these others know at to name o k (same_a_place h) = in_both R these others know at to name _ _ h
member_both R these others know at to name o k same_a_function = tt

pub arrow_both : (R : Pairing) (these others : List PlainStructure) → SameStructures R these others → (at to : At) (name : Text) (v w : PlainValue) → SameValue R v w → Ruling (SameOperand R) (arrow_found these at name v) (arrow_found others to name w)
arrow_both R these others know at to name v w (same_value (same_pointer (same_structure paired)) f) =
    in_both R these others know at to name _ _ (same_place (same_structure paired) (same_dereference (same_value (same_pointer (same_structure paired)) f)))
arrow_both R these others know at to name v w (same_value (same_pointer h) f) = tt
arrow_both R these others know at to name v w (same_value h f) = tt

pub address_both : (R : Pairing) (at to : At) (o k : PlainOperand) → SameOperand R o k → Ruling (SameOperand R) (address_found at o) (address_found to k)
address_both R at to o k (same_a_value h) = tt
address_both R at to o k (same_a_place h) = unless_ok (SameOperand R) _ _ _ _ _ _ _ (same_a_value (same_value (same_pointer (place_type_same R h)) (same_address h)))
address_both R at to o k same_a_function = tt
