-- In the same words expressions are the same in both programs.
use Rattle.p10_core.specs.Rows.{is_void}
use Rattle.std.proofs.Common.{◌≡◌, ℕ, ◌+◌, Bool, true, false, not, List, [], ◌∷◌, Option, Some, None, Ok, Err, refl, ap, subst, map}
use Rattle.std.specs.Prelude.{if◌then◌else◌, slice_get, pos}
use Rattle.p10_base.specs.Words.{Text}
use Rattle.p10_base.specs.declared.at.At.{At}
use Rattle.p10_base.specs.declared.codes.SubsetCode.{SubsetCode}
use Rattle.p10_base.specs.declared.codes.SubsetCode.TheVariants as subset
use Rattle.p10_int.specs.declared.types.IntType.{IntType}
use Rattle.p10_int.specs.declared.operators.UnOp.TheVariants as unary_operator
use Rattle.p10_lex.specs.declared.integers.Integer.{Integer}
use Rattle.p10_lex.specs.Integers.{integer_constant}
use Rattle.p10_lex.specs.Literals.{character_value}
use Rattle.p10_syn.specs.declared.sign.Sign.{Sign}
use Rattle.p10_syn.specs.declared.sign.Sign.TheVariants as sign
use Rattle.p10_syn.specs.Trees.{Expression, expression, Name, Number, Character, Strings, Unary, Step, Binary, Assign, Conditional, Call, Index, Member, Arrow, Cast, SizeofExpression, SizeofType, Comma, Expressions, NoExpressions, MoreExpressions, Absent, Present, TypeName, type_name, Declarator, Named, Unnamed, Pointer, Parenthesised, Array, Function, Parameters, NoParameters, MoreParameters, parameter}
use Rattle.p10_core.specs.declared.typed.Library.{Library}
use Rattle.p10_core.specs.declared.typed.Library.TheVariants as library
use Rattle.p10_core.specs.Types.{PlainType, PlainStructure}
use Rattle.p10_core.specs.Sizes.{size_of}
use Rattle.p10_core.specs.Typed.{PlainValue, PlainStatementForm, at_of, type_of}
use Rattle.p10_elabx.specs.declared.allocations.Site.{Site}
use Rattle.p10_elabx.specs.declared.signs.Operation.{Operation}
use Rattle.p10_elabx.specs.declared.signs.Operation.TheVariants.{Values, Truth, Nothing}
use Rattle.p10_elabx.specs.declared.shape.Made.{Made}
use Rattle.p10_elabx.specs.declared.shape.Made.TheVariants as around
use Rattle.p10_elabx.specs.First.{Keep, joined, Found, Ruled, refused, Judged, pair, on, refused_where, unordered, lift}
use Rattle.p10_elabx.specs.Scopes.{PlainScope, Meaning, unevaluated, evaluating, named, library_named}
use Rattle.p10_elabx.specs.Operands.{PlainOperand, a_value, any_value, as_value, not_void}
use Rattle.p10_elabx.specs.Operators.{binary_value, logic_value, operand_size, indexed, member_found, arrow_found, address_found}
use Rattle.p10_elabx.specs.Calls.{of_library, callee_of, library_wants, Wanted, wants_of, wanted_of, Listed, no_arguments, argument_judged, with_argument, call_judged, operand_call, element_count, points_to, size_constant}
use Rattle.p10_elabx.specs.TypeNames.{Shape, declarator_place, name_place, specifiers_judged, pointer_judged, array_judged, open_array_judged, is_alone, lacks_prototype, no_parameters, parameter_judged, parameter_type, with_parameter, function_judged}
use Rattle.p10_elabx.specs.Literals.{constant_of_type, integer_value, character_by, string_by, strings_value, first_type, constant_types}
use Rattle.p10_elabx.specs.Judging.{undeclared_name, name_found, valued, operation_of, is_and, is_star, unary_found, unary_judged, unary_by_sign, may_be_place, place_of, address_judged, values_judged, truth_judged, binary_judged, conditional_judged, index_judged, member_judged, arrow_judged, size_judged, shape_size, type_size_judged, cast_found, is_void_shape, cast_judged, nested, comma_judged, sized_shape, shape_allocation, one_element, counted_elements, size_shape, either_size, either_shape, two_sizes, other_allocation, product_judged, cleared_judged, count_of, called_name, memory_called, value_in, judge, judge_arguments, judge_cast, judge_allocation, judge_bytes, judge_size, judge_type, judge_declarator, judge_parameters}
use Rattle.p10_renaming.specs.Renaming.{Pairing, SameType, same_void, same_integer, same_pointer, same_array, same_structure, SameValue, same_value, same_constant, same_place, same_variable, same_global, same_literal, same_no_arguments, SameMaybe, same_none, same_some}
use Rattle.p10_expression_renaming.specs.Mapped.{mapped_expression, mapped_expressions, mapped_type_name, mapped_specifiers, mapped_declarator, mapped_parameters, mapped_qualifier}
use Rattle.p10_expression_renaming.specs.Knowing.{Together, Ruling, SameOperand, same_a_value, same_a_place, same_a_function, SameTypes, same_no_types, same_local, same_object, same_callable, same_number, SameScope, SameStructures, IsOneToOne}
use Rattle.p10_expression_renaming.specs.Laws.{ExpressionsRenamed}
use Rattle.p10_expression_renaming.proofs.Finding.{told_left, told_right, refused_left, refused_right, joined_right, by_same, when_ok, on_both, ruled_both, pair_both, Pairs, refused_both, refused_always, parts_both, Alike}
use Rattle.p10_expression_renaming.proofs.Sameness.{SameNamed, same_nothing_named, same_one_named, SameName, same_no_name, same_name, SameWanteds, SameShape, same_a_type, same_an_open_array, same_a_function_type, SameSize, same_no_size, same_one_size, SameMaybeType}
use Rattle.p10_expression_renaming.proofs.Types.{one_same, size_same}
use Rattle.p10_expression_renaming.proofs.Operands.{any_value_both, as_value_both, value_in_both}
use Rattle.p10_expression_renaming.proofs.Operators.{unary_value_both, binary_value_both, logic_value_both, conditional_value_both, cast_value_both, constant_same, size_value_both, operand_size_both, dereferenced_both, indexed_both, member_both, arrow_both, address_both}
use Rattle.p10_expression_renaming.proofs.Calls.{named_both, callee_both, for_name_both, library_both, counted_both, wants_both, wanted_at, argument_both, Likewise, with_argument_both, call_judged_both, operand_call_both, other_call_both, memory_both, for_memory_both, allocation_both, element_count_both}
use Rattle.p10_expression_renaming.proofs.TypeNames.{left, right, specifiers_judged_both, pointer_both, array_both, open_array_both, parameter_both, with_parameter_both, function_both}

-- ## Names and constants

name_both : (R : Pairing) (at name_at to name_to : At) (name : Text) (a b : Option Meaning) → SameNamed R a b → Ruling (SameOperand R) (name_found at name_at name a) (name_found to name_to name b)
name_both R at name_at to name_to name a b same_nothing_named = by_library (library_named name)
  where
    by_library : (o : Option Library) → Ruling (SameOperand R) (undeclared_name name_at o) (undeclared_name name_to o)
    by_library None = tt
    by_library (Some f) = same_a_function
name_both R at name_at to name_to name a b (same_one_named (same_local h)) = same_a_place (same_place h same_variable)
name_both R at name_at to name_to name a b (same_one_named (same_object h)) = same_a_place (same_place h same_global)
name_both R at name_at to name_to name a b (same_one_named (same_callable hs h)) = same_a_function
name_both R at name_at to name_to name a b (same_one_named same_number) = same_a_value (same_value same_integer same_constant)
name_both R at name_at to name_to name a b (same_one_named h) = tt

of_type_both : (R : Pairing) (at to : At) (z : _) (o : Option IntType) → Ruling (SameOperand R) (constant_of_type at z o) (constant_of_type to z o)
of_type_both R at to z None = tt
of_type_both R at to z (Some i) = same_a_value (same_value same_integer same_constant)

integer_both : (R : Pairing) (at to : At) (o : Option Integer) → Ruling (SameOperand R) (integer_value at o) (integer_value to o)
integer_both R at to None = tt
integer_both R at to (Some c) = of_type_both R at to _ (first_type (constant_types c.base c.suffix) _)

character_both : (R : Pairing) (at to : At) (o : Option _) → Ruling (SameOperand R) (character_by at o) (character_by to o)
character_both R at to None = tt
character_both R at to (Some z) = same_a_value (same_value same_integer same_constant)

string_both : (R : Pairing) (at to : At) (o : Option Text) → Ruling (SameOperand R) (string_by at o) (string_by to o)
string_both R at to None = tt
string_both R at to (Some bytes) = when_ok (SameOperand R) _ _ _ _ _ _ _ (same_a_place (same_place (same_array same_integer) same_literal))

-- ## Forms

valued_both : (R : Pairing) (f g : Ruled PlainValue) → Ruling (SameValue R) f g → Ruling (SameOperand R) (valued f) (valued g)
valued_both R f g h = ruled_both (SameValue R) (SameOperand R) f g (λ v. Ok (a_value v)) (λ v. Ok (a_value v)) h (λ v w k. same_a_value k)

unary_found_both : (R : Pairing) → IsOneToOne R → (at to : At) (word : Sign) (v w : PlainValue) → SameValue R v w → Ruling (SameOperand R) (unary_found at word v) (unary_found to word w)
unary_found_both R one at to sign.Star v w h = dereferenced_both R at to v w h
unary_found_both R one at to sign.Plus v w h = valued_both R _ _ (unary_value_both R one at to unary_operator.Plus v w h)
unary_found_both R one at to sign.Minus v w h = valued_both R _ _ (unary_value_both R one at to unary_operator.Neg v w h)
unary_found_both R one at to sign.Tilde v w h = valued_both R _ _ (unary_value_both R one at to unary_operator.Com v w h)
unary_found_both R one at to sign.Not v w h = valued_both R _ _ (unary_value_both R one at to unary_operator.Not v w h)
unary_found_both R one at to word v w h = tt

unary_both : (R : Pairing) → IsOneToOne R → (h : Keep) (s t : PlainScope) (at to : At) (b : Bool) (word : Sign) (may might : Bool) (j k : Judged PlainOperand) → Alike (SameOperand R) j k
    → Alike (SameOperand R) (unary_by_sign h s.structures at b word may j) (unary_by_sign h t.structures to b word might k)
unfolding address_judged unary_judged
unary_both R one h s t at to true word may might j k a =
    refused_both (SameOperand R) h h (not may) (not might) subset.NoAddress subset.NoAddress at to _ _ (on_both (SameOperand R) (SameOperand R) j.found k.found (address_found at) (address_found to) a (address_both R at to))
unary_both R one h s t at to false word may might j k a =
    on_both (SameValue R) (SameOperand R) (as_value s.structures j).found (as_value t.structures k).found (unary_found at word) (unary_found to word) (as_value_both R s.structures t.structures j k a) (unary_found_both R one at to word)

binary_both : (R : Pairing) → IsOneToOne R → (h : Keep) (these others : List PlainStructure) (at to : At) (o : Operation) (j k x y : Judged PlainValue) → Alike (SameValue R) j k → Alike (SameValue R) x y
    → Alike (SameOperand R) (binary_judged h these at o j x) (binary_judged h others to o k y)
unfolding values_judged truth_judged
binary_both R one h these others at to (Values op) j k x y a b =
    refused_both (SameOperand R) h h (unordered j x) (unordered k y) subset.UnspecifiedOrder subset.UnspecifiedOrder at to _ _
    (parts_both (SameValue R) (SameValue R) (SameOperand R) h h j k x y (λ v w. valued (binary_value these at op v w)) (λ v w. valued (binary_value others to op v w)) a b
    (λ v w p u z q. valued_both R _ _ (binary_value_both R one these others at to op v w p u z q)))
binary_both R one h these others at to (Truth op) j k x y a b =
    parts_both (SameValue R) (SameValue R) (SameOperand R) h h j k x y (λ v w. valued (logic_value at op v w)) (λ v w. valued (logic_value to op v w)) a b
    (λ v w p u z q. valued_both R _ _ (logic_value_both R at to op v w p u z q))
binary_both R one h these others at to Nothing j k x y a b = tt

conditional_both : (R : Pairing) → IsOneToOne R → (h : Keep) (at to : At) (i l j k x y : Judged PlainValue) → Alike (SameValue R) i l → Alike (SameValue R) j k → Alike (SameValue R) x y
    → Alike (SameOperand R) (conditional_judged h at i j x) (conditional_judged h to l k y)
unfolding conditional_judged
conditional_both R one h at to i l j k x y c a b =
    on_both (Pairs (SameValue R) (Pairs (SameValue R) (SameValue R))) (SameOperand R) (pair h i.found (pair h j.found x.found)) (pair h l.found (pair h k.found y.found)) _ _
    (pair_both (SameValue R) (Pairs (SameValue R) (SameValue R)) h h i.found l.found (pair h j.found x.found) (pair h k.found y.found) c (pair_both (SameValue R) (SameValue R) h h j.found k.found x.found y.found a b))
    (λ p q both. valued_both R _ _ (conditional_value_both R one at to p.0 q.0 p.1.0 p.1.1 q.1.0 q.1.1 both.0 both.1.0 both.1.1))

index_both : (R : Pairing) → IsOneToOne R → (h : Keep) (these others : List PlainStructure) (at to : At) (j k x y : Judged PlainValue) → Alike (SameValue R) j k → Alike (SameValue R) x y
    → Alike (SameOperand R) (index_judged h these at j x) (index_judged h others to k y)
unfolding index_judged
index_both R one h these others at to j k x y a b =
    refused_both (SameOperand R) h h (unordered j x) (unordered k y) subset.UnspecifiedOrder subset.UnspecifiedOrder at to _ _
    (parts_both (SameValue R) (SameValue R) (SameOperand R) h h j k x y (indexed these at) (indexed others to) a b (λ v w p u z q. indexed_both R one these others at to v w p u z q))

member_form : (R : Pairing) (these others : List PlainStructure) → SameStructures R these others → (at to : At) (name : Text) (j k : Judged PlainOperand) → Alike (SameOperand R) j k
    → Alike (SameOperand R) (member_judged these at name j) (member_judged others to name k)
unfolding member_judged
member_form R these others know at to name j k a = on_both (SameOperand R) (SameOperand R) j.found k.found (member_found these at name) (member_found others to name) a (member_both R these others know at to name)

arrow_form : (R : Pairing) (these others : List PlainStructure) → SameStructures R these others → (at to : At) (name : Text) (j k : Judged PlainValue) → Alike (SameValue R) j k
    → Alike (SameOperand R) (arrow_judged these at name j) (arrow_judged others to name k)
unfolding arrow_judged
arrow_form R these others know at to name j k a = on_both (SameValue R) (SameOperand R) j.found k.found (arrow_found these at name) (arrow_found others to name) a (arrow_both R these others know at to name)

size_form : (R : Pairing) (these others : List PlainStructure) → SameStructures R these others → (at to : At) (j k : Judged PlainOperand) → Alike (SameOperand R) j k → Alike (SameOperand R) (size_judged these at j) (size_judged others to k)
unfolding size_judged
size_form R these others know at to j k a = on_both (SameOperand R) (SameOperand R) j.found k.found (operand_size these at) (operand_size others to) a (operand_size_both R these others know at to)

shape_size_both : (R : Pairing) (these others : List PlainStructure) → SameStructures R these others → (at to : At) (x y : Shape) → SameShape R x y → Ruling (SameOperand R) (shape_size these at x) (shape_size others to y)
shape_size_both R these others know at to x y (same_a_type h) = size_value_both R these others know at to _ _ h
shape_size_both R these others know at to x y (same_an_open_array h) = tt
shape_size_both R these others know at to x y (same_a_function_type hs h) = tt

type_size_form : (R : Pairing) (these others : List PlainStructure) → SameStructures R these others → (at to : At) (j k : Judged Shape) → Alike (SameShape R) j k → Alike (SameOperand R) (type_size_judged these at j) (type_size_judged others to k)
unfolding type_size_judged
type_size_form R these others know at to j k a = on_both (SameShape R) (SameOperand R) j.found k.found (shape_size these at) (shape_size others to) a (shape_size_both R these others know at to)

cast_found_both : (R : Pairing) (at to : At) (x y : Shape) → SameShape R x y → (v w : PlainValue) → SameValue R v w → Ruling (SameOperand R) (cast_found at x v) (cast_found to y w)
cast_found_both R at to x y (same_a_type h) v w k = valued_both R _ _ (cast_value_both R at to _ _ v w h k)
cast_found_both R at to x y (same_an_open_array h) v w k = tt
cast_found_both R at to x y (same_a_function_type hs h) v w k = tt

-- what is a value, void or not, as one that isn't: of a cast's operand, whichever of both is asked for
value_either : (R : Pairing) (these others : List PlainStructure) (b c : Bool) (j k : Judged PlainOperand) → Alike (SameOperand R) j k
    → Alike (SameValue R) (if b then any_value these j else as_value these j) (if c then any_value others k else as_value others k)
unfolding as_value
value_either R these others true true j k a = any_value_both R these others j k a
value_either R these others false false j k a = as_value_both R these others j k a
value_either R these others true false j k a = one_void (any_value these j).found (any_value others k).found (any_value_both R these others j k a)
  where
    one_void : (f g : Found PlainValue) → Together (SameValue R) f g → Together (SameValue R) f (on g not_void)
    one_void f (Err rs) h = h
    one_void (Err rs) (Ok w) h = told_left (SameValue R) rs (on (Ok w) not_void) (refused_left (SameValue R) rs w h)
    one_void (Ok v) (Ok w) h = not_void_right w (is_void (type_of w)) v h
      where
        not_void_right : (w : PlainValue) (b : Bool) (v : PlainValue) → SameValue R v w → Together (SameValue R) (lift (Ok v)) (lift (if b then refused subset.VoidValue (at_of w) else Ok w))
        not_void_right w true v h = tt
        not_void_right w false v h = h
value_either R these others false true j k a = one_void (any_value these j).found (any_value others k).found (any_value_both R these others j k a)
  where
    one_void : (f g : Found PlainValue) → Together (SameValue R) f g → Together (SameValue R) (on f not_void) g
    one_void (Err rs) g h = h
    one_void (Ok v) (Err rs) h = told_right (SameValue R) (on (Ok v) not_void) rs (refused_right (SameValue R) v rs h)
    one_void (Ok v) (Ok w) h = not_void_left v (is_void (type_of v)) w h
      where
        not_void_left : (v : PlainValue) (b : Bool) (w : PlainValue) → SameValue R v w → Together (SameValue R) (lift (if b then refused subset.VoidValue (at_of v) else Ok v)) (lift (Ok w))
        not_void_left v true w h = tt
        not_void_left v false w h = h

cast_form : (R : Pairing) (h : Keep) (these others : List PlainStructure) (at to : At) (i l : Judged Shape) → Alike (SameShape R) i l → (j k : Judged PlainOperand) → Alike (SameOperand R) j k
    → Alike (SameOperand R) (cast_judged h these at i j) (cast_judged h others to l k)
unfolding cast_judged
cast_form R h these others at to i l b j k a =
    parts_both (SameShape R) (SameValue R) (SameOperand R) h h i l (if is_void_shape i.found then any_value these j else as_value these j) (if is_void_shape l.found then any_value others k else as_value others k) (cast_found at) (cast_found to) b
    (value_either R these others (is_void_shape i.found) (is_void_shape l.found) j k a) (cast_found_both R at to)

-- assignments and steps are no operands
nested_both : (R : Pairing) (h : Keep) (at to : At) (j k : Judged PlainStatementForm) → Alike (SameOperand R) (nested h at j) (nested h to k)
unfolding nested
nested_both R h at to j k = refused_always (SameOperand R) h subset.NestedAssignment at _ _

comma_both : (R : Pairing) (h : Keep) (at to : At) (k l : Listed) → Alike (SameOperand R) (comma_judged h at k) (comma_judged h to l)
unfolding comma_judged
comma_both R h at to k l = refused_always (SameOperand R) h subset.CommaOperator at _ _

-- ## Allocations

sized_both : (R : Pairing) (these others : List PlainStructure) (at to : At) (x y : Shape) → SameShape R x y → Ruling (SameType R) (sized_shape these at x) (sized_shape others to y)
sized_both R these others at to x y (same_a_type h) = when_ok (SameType R) _ _ _ _ _ _ _ h
sized_both R these others at to x y (same_an_open_array h) = tt
sized_both R these others at to x y (same_a_function_type hs h) = tt

shape_allocation_both : (R : Pairing) (site other : Site) (f : Library) (x y : Shape) → SameShape R x y → (a b : PlainType) (v w : Option PlainValue) → SameMaybe R v w
    → Ruling (SameOperand R) (shape_allocation site f x a v) (shape_allocation other f y b w)
shape_allocation_both R site other f x y (same_a_type h) a b v w k = allocation_both R site.cast_at site.call_at site.name_at other.cast_at other.call_at other.name_at _ _ a b f v w h k
shape_allocation_both R site other f x y (same_an_open_array h) a b v w k = tt
shape_allocation_both R site other f x y (same_a_function_type hs h) a b v w k = tt

one_element_both : (R : Pairing) (h : Keep) (these others : List PlainStructure) (site other : Site) (at to : At) (i l x y : Judged Shape) → Alike (SameShape R) i l → Alike (SameShape R) x y
    → Alike (SameOperand R) (one_element h these site i at x) (one_element h others other l to y)
unfolding one_element
one_element_both R h these others site other at to i l x y a b =
    on_both (Pairs (SameShape R) (SameType R)) (SameOperand R) (pair h i.found (on x.found (sized_shape these at))) (pair h l.found (on y.found (sized_shape others to))) _ _
    (pair_both (SameShape R) (SameType R) h h i.found l.found (on x.found (sized_shape these at)) (on y.found (sized_shape others to)) a
    (on_both (SameShape R) (SameType R) x.found y.found (sized_shape these at) (sized_shape others to) b (sized_both R these others at to)))
    (λ p q both. shape_allocation_both R site other library.Malloc p.0 q.0 both.0 p.1 q.1 None None same_none)

counted_elements_both : (R : Pairing) → IsOneToOne R → (h : Keep) (these others : List PlainStructure) (site other : Site) (f : Library) (o q : Ruled PlainValue) → Ruling (SameValue R) o q → (at to : At) (i l x y : Judged Shape)
    → Alike (SameShape R) i l → Alike (SameShape R) x y → (v w : Judged PlainValue) → Alike (SameValue R) v w → Alike (SameOperand R) (counted_elements h these site f o i at x v) (counted_elements h others other f q l to y w)
unfolding counted_elements
counted_elements_both R one h these others site other f o q refused at to i l x y a b v w c =
    on_both (Pairs (SameShape R) (Pairs (SameType R) (SameValue R))) (SameOperand R) (pair h i.found (pair h (on x.found (sized_shape these at)) (on v.found (element_count o)))) (pair h l.found (pair h (on y.found (sized_shape others to)) (on w.found (element_count q)))) _ _
    (pair_both (SameShape R) (Pairs (SameType R) (SameValue R)) h h i.found l.found (pair h (on x.found (sized_shape these at)) (on v.found (element_count o))) (pair h (on y.found (sized_shape others to)) (on w.found (element_count q))) a
    (pair_both (SameType R) (SameValue R) h h (on x.found (sized_shape these at)) (on y.found (sized_shape others to)) (on v.found (element_count o)) (on w.found (element_count q))
    (on_both (SameShape R) (SameType R) x.found y.found (sized_shape these at) (sized_shape others to) b (sized_both R these others at to))
    (on_both (SameValue R) (SameValue R) v.found w.found (element_count o) (element_count q) c (element_count_both R one o q refused))))
    (λ p q both. shape_allocation_both R site other f p.0 q.0 both.0 p.1.0 q.1.0 (Some p.1.1) (Some q.1.1) (same_some both.1.1))

-- a type and its size
abbrev Sizes : Pairing → PlainType × PlainValue → PlainType × PlainValue → Type 0
Sizes R x y = SameType R x.0 y.0 × SameValue R x.1 y.1

size_shape_both : (R : Pairing) (these others : List PlainStructure) → SameStructures R these others → (at to : At) (x y : Shape) → SameShape R x y → Ruling (Sizes R) (size_shape these at x) (size_shape others to y)
size_shape_both R these others know at to x y (same_a_type {t = t} {u = u} h) =
    when_ok (Sizes R) _ _ (t, size_constant these at t) (u, size_constant others to u) _ _ _ (h, same_value same_integer (constant_same R (pos (size_of these t)) (pos (size_of others u)) (ap pos (size_same R these others know h))))
size_shape_both R these others know at to x y (same_an_open_array h) = tt
size_shape_both R these others know at to x y (same_a_function_type hs h) = tt

points_same : (R : Pairing) → IsOneToOne R → {t u a b : PlainType} → SameType R t u → SameType R a b → points_to t a ≡ points_to u b
points_same R one (same_pointer h) k = one_same R one h k
points_same R one same_void k = refl
points_same R one same_integer k = refl
points_same R one (same_array h) k = refl
points_same R one (same_structure paired) k = refl

either_size_both : (R : Pairing) → IsOneToOne R → (site other : Site) (t u : PlainType) → SameType R t u → (a b c d : PlainType × PlainValue) → Sizes R a b → Sizes R c d → Ruling (SameOperand R) (either_size site t a c) (either_size other u b d)
either_size_both R one site other t u h a b c d k l =
    by_same (Ruling (SameOperand R)) (points_to t c.0) (points_to u d.0) (points_same R one h l.0) _ _ _ _
    (allocation_both R site.cast_at site.call_at site.name_at other.cast_at other.call_at other.name_at t u c.0 d.0 library.Malloc (Some a.1) (Some b.1) h (same_some k.1))
    (allocation_both R site.cast_at site.call_at site.name_at other.cast_at other.call_at other.name_at t u a.0 b.0 library.Malloc (Some c.1) (Some d.1) h (same_some l.1))

either_shape_both : (R : Pairing) → IsOneToOne R → (site other : Site) (x y : Shape) → SameShape R x y → (a b c d : PlainType × PlainValue) → Sizes R a b → Sizes R c d → Ruling (SameOperand R) (either_shape site x a c) (either_shape other y b d)
either_shape_both R one site other x y (same_a_type h) a b c d k l = either_size_both R one site other _ _ h a b c d k l
either_shape_both R one site other x y (same_an_open_array h) a b c d k l = tt
either_shape_both R one site other x y (same_a_function_type hs h) a b c d k l = tt

two_sizes_both : (R : Pairing) → IsOneToOne R → (h : Keep) (these others : List PlainStructure) → SameStructures R these others → (site other : Site) (i l : Judged Shape) → Alike (SameShape R) i l → (left_at left_to : At) (a b : Judged Shape) → Alike (SameShape R) a b
    → (right_at right_to : At) (c d : Judged Shape) → Alike (SameShape R) c d → Alike (SameOperand R) (two_sizes h these site i left_at a right_at c) (two_sizes h others other l left_to b right_to d)
unfolding two_sizes
two_sizes_both R one h these others know site other i l k left_at left_to a b m right_at right_to c d n =
    on_both (Pairs (SameShape R) (Pairs (Sizes R) (Sizes R))) (SameOperand R) (pair h i.found (pair h (on a.found (size_shape these left_at)) (on c.found (size_shape these right_at)))) (pair h l.found (pair h (on b.found (size_shape others left_to)) (on d.found (size_shape others right_to)))) _ _
    (pair_both (SameShape R) (Pairs (Sizes R) (Sizes R)) h h i.found l.found (pair h (on a.found (size_shape these left_at)) (on c.found (size_shape these right_at))) (pair h (on b.found (size_shape others left_to)) (on d.found (size_shape others right_to))) k
    (pair_both (Sizes R) (Sizes R) h h (on a.found (size_shape these left_at)) (on b.found (size_shape others left_to)) (on c.found (size_shape these right_at)) (on d.found (size_shape others right_to))
    (on_both (SameShape R) (Sizes R) a.found b.found (size_shape these left_at) (size_shape others left_to) m (size_shape_both R these others know left_at left_to))
    (on_both (SameShape R) (Sizes R) c.found d.found (size_shape these right_at) (size_shape others right_to) n (size_shape_both R these others know right_at right_to))))
    (λ p q both. either_shape_both R one site other p.0 q.0 both.0 p.1.0 q.1.0 p.1.1 q.1.1 both.1.0 both.1.1)

-- an allocation of another form is none
never_both : {A B C : Type 0} (P : C → C → Type 0) (h : Keep) (f : Found A) (code : SubsetCode) (at : At) (g : Found B) (go : A × B → Ruled C) (x : Found C) → Together P (on (pair h f (refused_where h true code at g)) go) x
never_both P h (Ok a) code at (Ok b) go x = tt
never_both P h (Ok a) code at (Err rs) go x = told_left P (joined h rs (record { code = code; at = at } ∷ [])) x (joined_right h rs (record { code = code; at = at } ∷ []) tt)
never_both P h (Err qs) code at (Ok b) go x = told_left P (joined h qs (record { code = code; at = at } ∷ [])) x (joined_right h qs (record { code = code; at = at } ∷ []) tt)
never_both P h (Err qs) code at (Err rs) go x =
    told_left P (joined h qs (joined h rs (record { code = code; at = at } ∷ []))) x
    (joined_right h qs (joined h rs (record { code = code; at = at } ∷ [])) (joined_right h rs (record { code = code; at = at } ∷ []) tt))

other_allocation_both : (R : Pairing) (h : Keep) (site other : Site) (i l : Judged Shape) (j k : Judged PlainOperand) → Alike (SameOperand R) (other_allocation h site i j) (other_allocation h other l k)
unfolding other_allocation
other_allocation_both R h site other i l j k = never_both (SameOperand R) h i.found subset.BadAllocation site.call_at j.found (λ (x, y). Ok y) (other_allocation h other l k).found

product_both : (R : Pairing) → IsOneToOne R → (h : Keep) (these others : List PlainStructure) → SameStructures R these others → (site other : Site) (i l : Judged Shape) → Alike (SameShape R) i l → (j k : Judged PlainOperand) (at to : At) (star : Bool)
    → (left_at left_to : At) (a b : Option (Judged Shape)) → SameSize R a b → (v w : Judged PlainValue) → Alike (SameValue R) v w
    → (right_at right_to : At) (c d : Option (Judged Shape)) → SameSize R c d → (x y : Judged PlainValue) → Alike (SameValue R) x y
    → Alike (SameOperand R) (product_judged h these site i j at star (record { at = left_at; size = a; value = v }) (record { at = right_at; size = c; value = x }))
    (product_judged h others other l k to star (record { at = left_to; size = b; value = w }) (record { at = right_to; size = d; value = y }))
product_both R one h these others know site other i l m j k at to true left_at left_to a b (same_one_size p) v w e right_at right_to c d (same_one_size q) x y f =
    two_sizes_both R one h these others know site other i l m left_at left_to _ _ p right_at right_to _ _ q
product_both R one h these others know site other i l m j k at to true left_at left_to a b same_no_size v w e right_at right_to c d (same_one_size q) x y f =
    counted_elements_both R one h these others site other library.Malloc (refused subset.OperandTypes at) (refused subset.OperandTypes to) tt right_at right_to i l _ _ m q v w e
product_both R one h these others know site other i l m j k at to true left_at left_to a b (same_one_size p) v w e right_at right_to c d same_no_size x y f =
    counted_elements_both R one h these others site other library.Malloc (refused subset.OperandTypes at) (refused subset.OperandTypes to) tt left_at left_to i l _ _ m p x y f
product_both R one h these others know site other i l m j k at to true left_at left_to a b same_no_size v w e right_at right_to c d same_no_size x y f = other_allocation_both R h site other i l j k
product_both R one h these others know site other i l m j k at to false left_at left_to a b p v w e right_at right_to c d q x y f = other_allocation_both R h site other i l j k

cleared_both : (R : Pairing) → IsOneToOne R → (h : Keep) (these others : List PlainStructure) (site other : Site) (i l : Judged Shape) → Alike (SameShape R) i l → (j k : Judged PlainOperand) (at to : At) (v w : Judged PlainValue) → Alike (SameValue R) v w
    → (size_at size_to : At) (a b : Option (Judged Shape)) → SameSize R a b → Alike (SameOperand R) (cleared_judged h these site i j at v size_at a) (cleared_judged h others other l k to w size_to b)
cleared_both R one h these others site other i l m j k at to v w e size_at size_to a b (same_one_size p) =
    counted_elements_both R one h these others site other library.Calloc (refused subset.TypesDiffer at) (refused subset.TypesDiffer to) tt size_at size_to i l _ _ m p v w e
cleared_both R one h these others site other i l m j k at to v w e size_at size_to a b same_no_size = other_allocation_both R h site other i l j k

-- ## Trees at two places

pub called_both : (e : Expression (At × At)) → SameName (called_name (mapped_expression left e)) (called_name (mapped_expression right e))
called_both (expression at n (Name x)) = same_name
called_both (expression at n form) = same_no_name

pub as_many : (all : Expressions (At × At)) → count_of (mapped_expressions left all) ≡ count_of (mapped_expressions right all)
as_many NoExpressions = refl
as_many (MoreExpressions e rest) = ap (λ n. n + 1) (as_many rest)

evaluating_both : (R : Pairing) (s t : PlainScope) → SameScope R s t → SameScope R (evaluating s) (evaluating t)
evaluating_both R s t know = record { structures = know.structures; names = know.names; tags = know.tags }

unevaluated_both : (R : Pairing) (s t : PlainScope) → SameScope R s t → SameScope R (unevaluated s) (unevaluated t)
unevaluated_both R s t know = record { structures = know.structures; names = know.names; tags = know.tags }

abbrev pub on_left : Keep → PlainScope → Expression (At × At) → Judged PlainOperand
on_left h s e = judge h s (mapped_expression left e)

abbrev pub on_right : Keep → PlainScope → Expression (At × At) → Judged PlainOperand
on_right h s e = judge h s (mapped_expression right e)

-- a name that is called, with arguments
call_both : (R : Pairing) (h : Keep) (s t : PlainScope) → SameScope R s t → (at to : At) (name : Text) (name_at name_to : At) (count other : ℕ) (k l : Listed) → Likewise R k l
    → Alike (SameOperand R) (operand_call h at (callee_of (named s name) name) (call_judged h at name_at (callee_of (named s name) name) count k))
    (operand_call h to (callee_of (named t name) name) (call_judged h to name_to (callee_of (named t name) name) other l))
call_both R h s t know at to name name_at name_to count other k l a =
    operand_call_both R h at to (callee_of (named s name) name) (callee_of (named t name) name) (call_judged h at name_at (callee_of (named s name) name) count k) (call_judged h to name_to (callee_of (named t name) name) other l)
    (call_judged_both R h at name_at to name_to (callee_of (named s name) name) (callee_of (named t name) name) (callee_both R name (named_both R s t know name)) count other k l a)

wants_same : (R : Pairing) (s t : PlainScope) → SameScope R s t → (name : Text) (count other : ℕ) → count ≡ other
    → SameWanteds R (wanted_of (wants_of (callee_of (named s name) name)) count) (wanted_of (wants_of (callee_of (named t name) name)) other)
wants_same R s t know name count other e =
    subst (λ n. SameWanteds R (wanted_of (wants_of (callee_of (named s name) name)) count) (wanted_of (wants_of (callee_of (named t name) name)) n)) e
    (wants_both R count (callee_of (named s name) name) (callee_of (named t name) name) (callee_both R name (named_both R s t know name)))

pub library_wants_same : (R : Pairing) (f : Library) (count other : ℕ) → count ≡ other → SameWanteds R (wanted_of (Some (library_wants f)) count) (wanted_of (Some (library_wants f)) other)
library_wants_same R f count other e = subst (λ n. SameWanteds R (wanted_of (Some (library_wants f)) count) (wanted_of (Some (library_wants f)) n)) e (counted_both R count (library_wants f) (library_wants f) (library_both R f))

parameter_judged_both : (R : Pairing) (h : Keep) (alone other : Bool) (at to : At) (d e : Declarator At) (j k : Judged Shape) → Alike (SameShape R) j k
    → Together (SameMaybeType R) (parameter_judged h alone at d j) (parameter_judged h other to e k)
unfolding parameter_judged
parameter_judged_both R h alone other at to d e j k a =
    refused_both (SameMaybeType R) h h _ _ subset.BadPointer subset.BadPointer (declarator_place d) (declarator_place e) _ _
    (on_both (SameShape R) (SameMaybeType R) j.found k.found (parameter_type alone at (name_place at d) (declarator_place d)) (parameter_type other to (name_place to e) (declarator_place e)) a
    (parameter_both R alone other at (name_place at d) (declarator_place d) to (name_place to e) (declarator_place e)))

mutual
  pub judging : (R : Pairing) → IsOneToOne R → (h : Keep) (s t : PlainScope) → SameScope R s t → (e : Expression (At × At)) → Alike (SameOperand R) (on_left h s e) (on_right h t e)
  judging R one h s t know (expression at n (Name x)) =
      name_both R at.0 x.place.0 at.1 x.place.1 x.name (named s x.name) (named t x.name) (named_both R s t know x.name)
  judging R one h s t know (expression at n (Number text)) = integer_both R at.0 at.1 (integer_constant text)
  judging R one h s t know (expression at n (Character text)) = character_both R at.0 at.1 (character_value text)
  judging R one h s t know (expression at n (Strings texts)) = string_both R at.0 at.1 (strings_value (Some []) texts)
  judging R one h s t know (expression at n (Unary word e)) =
      unary_both R one h s t at.0 at.1 (is_and word) word (may_be_place (mapped_expression left e)) (may_be_place (mapped_expression right e)) (on_left h s e) (on_right h t e) (judging R one h s t know e)
  judging R one h s t know (expression at n (Step side word e)) = nested_both R h at.0 at.1 _ _
  judging R one h s t know (expression at n (Binary word a b)) =
      binary_both R one h s.structures t.structures at.0 at.1 (operation_of word) (value_in s (on_left h s a)) (value_in t (on_right h t a)) (value_in s (on_left h s b)) (value_in t (on_right h t b))
      (value_in_both R s t (on_left h s a) (on_right h t a) (judging R one h s t know a)) (value_in_both R s t (on_left h s b) (on_right h t b) (judging R one h s t know b))
  judging R one h s t know (expression at n (Assign word a b)) = nested_both R h at.0 at.1 _ _
  judging R one h s t know (expression at n (Conditional c a b)) =
      conditional_both R one h at.0 at.1 (value_in s (on_left h s c)) (value_in t (on_right h t c)) (value_in s (on_left h s a)) (value_in t (on_right h t a)) (value_in s (on_left h s b)) (value_in t (on_right h t b))
      (value_in_both R s t (on_left h s c) (on_right h t c) (judging R one h s t know c)) (value_in_both R s t (on_left h s a) (on_right h t a) (judging R one h s t know a)) (value_in_both R s t (on_left h s b) (on_right h t b) (judging R one h s t know b))
  judging R one h s t know (expression at n (Call e all)) =
      for_name_both (Alike (SameOperand R)) (called_name (mapped_expression left e)) (called_name (mapped_expression right e)) _ _ _ _ (called_both e)
      (λ name name_at name_to.
      call_both R h s t know at.0 at.1 name name_at name_to (count_of (mapped_expressions left all)) (count_of (mapped_expressions right all))
      (judge_arguments h s (wanted_of (wants_of (callee_of (named s name) name)) (count_of (mapped_expressions left all))) 0 no_arguments (mapped_expressions left all))
      (judge_arguments h t (wanted_of (wants_of (callee_of (named t name) name)) (count_of (mapped_expressions right all))) 0 no_arguments (mapped_expressions right all))
      (arguing R one h s t know (wanted_of (wants_of (callee_of (named s name) name)) (count_of (mapped_expressions left all))) (wanted_of (wants_of (callee_of (named t name) name)) (count_of (mapped_expressions right all)))
      (wants_same R s t know name (count_of (mapped_expressions left all)) (count_of (mapped_expressions right all)) (as_many all)) 0 no_arguments no_arguments same_no_arguments all))
      (other_call_both R h at.0 at.1 (on_left h s e) (on_right h t e) (judge_arguments h s [] 0 no_arguments (mapped_expressions left all)) (judge_arguments h t [] 0 no_arguments (mapped_expressions right all)))
  judging R one h s t know (expression at n (Index a i)) =
      index_both R one h s.structures t.structures at.0 at.1 (value_in s (on_left h s a)) (value_in t (on_right h t a)) (value_in s (on_left h s i)) (value_in t (on_right h t i))
      (value_in_both R s t (on_left h s a) (on_right h t a) (judging R one h s t know a)) (value_in_both R s t (on_left h s i) (on_right h t i) (judging R one h s t know i))
  judging R one h s t know (expression at n (Member e x)) = member_form R s.structures t.structures know.structures at.0 at.1 x.name (on_left h s e) (on_right h t e) (judging R one h s t know e)
  judging R one h s t know (expression at n (Arrow e x)) =
      arrow_form R s.structures t.structures know.structures at.0 at.1 x.name (value_in s (on_left h s e)) (value_in t (on_right h t e)) (value_in_both R s t (on_left h s e) (on_right h t e) (judging R one h s t know e))
  judging R one h s t know (expression at n (Cast name e)) =
      casting R one h s t know at.0 at.1 (judge_type h (evaluating s) (mapped_type_name left name)) (judge_type h (evaluating t) (mapped_type_name right name))
      (typing R one h (evaluating s) (evaluating t) (evaluating_both R s t know) name) (on_left h s e) (on_right h t e) (judging R one h s t know e) e
  judging R one h s t know (expression at n (SizeofExpression e)) =
      size_form R s.structures t.structures know.structures at.0 at.1 (on_left h (unevaluated s) e) (on_right h (unevaluated t) e) (judging R one h (unevaluated s) (unevaluated t) (unevaluated_both R s t know) e)
  judging R one h s t know (expression at n (SizeofType name)) =
      type_size_form R s.structures t.structures know.structures at.0 at.1 (judge_type h (evaluating s) (mapped_type_name left name)) (judge_type h (evaluating t) (mapped_type_name right name))
      (typing R one h (evaluating s) (evaluating t) (evaluating_both R s t know) name)
  judging R one h s t know (expression at n (Comma all)) = comma_both R h at.0 at.1 _ _

  pub arguing : (R : Pairing) → IsOneToOne R → (h : Keep) (s t : PlainScope) → SameScope R s t → (ws vs : List Wanted) → SameWanteds R ws vs → (i : ℕ) (k l : Listed) → Likewise R k l → (all : Expressions (At × At))
      → Likewise R (judge_arguments h s ws i k (mapped_expressions left all)) (judge_arguments h t vs i l (mapped_expressions right all))
  arguing R one h s t know ws vs w i k l a NoExpressions = a
  arguing R one h s t know ws vs w i k l a (MoreExpressions e rest) =
      arguing R one h s t know ws vs w (i + 1) (with_argument h k (argument_judged (slice_get ws i) (value_in s (on_left h s e)))) (with_argument h l (argument_judged (slice_get vs i) (value_in t (on_right h t e))))
      (with_argument_both R h k l (argument_judged (slice_get ws i) (value_in s (on_left h s e))) (argument_judged (slice_get vs i) (value_in t (on_right h t e))) a
      (argument_both R one (slice_get ws i) (slice_get vs i) (wanted_at R w i) (value_in s (on_left h s e)) (value_in t (on_right h t e)) (value_in_both R s t (on_left h s e) (on_right h t e) (judging R one h s t know e)))) rest

  casting : (R : Pairing) → IsOneToOne R → (h : Keep) (s t : PlainScope) → SameScope R s t → (at to : At) (i l : Judged Shape) → Alike (SameShape R) i l → (j k : Judged PlainOperand) → Alike (SameOperand R) j k → (e : Expression (At × At))
      → Alike (SameOperand R) (judge_cast h s at i j (mapped_expression left e)) (judge_cast h t to l k (mapped_expression right e))
  casting R one h s t know at to i l b j k a (expression call_at m (Call e all)) =
      for_memory_both (Alike (SameOperand R)) (memory_called s (called_name (mapped_expression left e))) (memory_called t (called_name (mapped_expression right e))) _ _ _ _
      (memory_both R s t know (called_name (mapped_expression left e)) (called_name (mapped_expression right e)) (called_both e))
      (λ f name_at name_to.
      allocating R one h s t know (record { cast_at = at; call_at = call_at.0; name_at = name_at }) (record { cast_at = to; call_at = call_at.1; name_at = name_to }) i l b f
      (call_judged h call_at.0 name_at (of_library f) (count_of (mapped_expressions left all)) (judge_arguments h s (wanted_of (Some (library_wants f)) (count_of (mapped_expressions left all))) 0 no_arguments (mapped_expressions left all)))
      (call_judged h call_at.1 name_to (of_library f) (count_of (mapped_expressions right all)) (judge_arguments h t (wanted_of (Some (library_wants f)) (count_of (mapped_expressions right all))) 0 no_arguments (mapped_expressions right all))) all)
      (cast_form R h s.structures t.structures at to i l b j k a)
  casting R one h s t know at to i l b j k a (expression call_at m form) = cast_form R h s.structures t.structures at to i l b j k a

  allocating : (R : Pairing) → IsOneToOne R → (h : Keep) (s t : PlainScope) → SameScope R s t → (site other : Site) (i l : Judged Shape) → Alike (SameShape R) i l → (f : Library) (j k : Judged PlainOperand) (all : Expressions (At × At))
      → Alike (SameOperand R) (judge_allocation h s site i f j (mapped_expressions left all)) (judge_allocation h t other l f k (mapped_expressions right all))
  allocating R one h s t know site other i l b library.Malloc j k (MoreExpressions e NoExpressions) = byting R one h s t know site other i l b j k e
  allocating R one h s t know site other i l b library.Calloc j k (MoreExpressions e (MoreExpressions size NoExpressions)) =
      cleared_both R one h s.structures t.structures site other i l b j k (place_of (mapped_expression left e)) (place_of (mapped_expression right e)) (value_in s (on_left h s e)) (value_in t (on_right h t e))
      (value_in_both R s t (on_left h s e) (on_right h t e) (judging R one h s t know e)) (place_of (mapped_expression left size)) (place_of (mapped_expression right size))
      (judge_size h (evaluating s) (mapped_expression left size)) (judge_size h (evaluating t) (mapped_expression right size)) (sizing R one h (evaluating s) (evaluating t) (evaluating_both R s t know) size)
  allocating R one h s t know site other i l b f j k all = other_allocation_both R h site other i l j k

  byting : (R : Pairing) → IsOneToOne R → (h : Keep) (s t : PlainScope) → SameScope R s t → (site other : Site) (i l : Judged Shape) → Alike (SameShape R) i l → (j k : Judged PlainOperand) (e : Expression (At × At))
      → Alike (SameOperand R) (judge_bytes h s site i j (mapped_expression left e)) (judge_bytes h t other l k (mapped_expression right e))
  byting R one h s t know site other i l b j k (expression at n (SizeofType element)) =
      one_element_both R h s.structures t.structures site other at.0 at.1 i l (judge_type h (evaluating s) (mapped_type_name left element)) (judge_type h (evaluating t) (mapped_type_name right element)) b
      (typing R one h (evaluating s) (evaluating t) (evaluating_both R s t know) element)
  byting R one h s t know site other i l b j k (expression at n (Binary word x y)) =
      product_both R one h s.structures t.structures know.structures site other i l b j k at.0 at.1 (is_star word)
      (place_of (mapped_expression left x)) (place_of (mapped_expression right x)) (judge_size h (evaluating s) (mapped_expression left x)) (judge_size h (evaluating t) (mapped_expression right x))
      (sizing R one h (evaluating s) (evaluating t) (evaluating_both R s t know) x) (value_in s (on_left h s x)) (value_in t (on_right h t x)) (value_in_both R s t (on_left h s x) (on_right h t x) (judging R one h s t know x))
      (place_of (mapped_expression left y)) (place_of (mapped_expression right y)) (judge_size h (evaluating s) (mapped_expression left y)) (judge_size h (evaluating t) (mapped_expression right y))
      (sizing R one h (evaluating s) (evaluating t) (evaluating_both R s t know) y) (value_in s (on_left h s y)) (value_in t (on_right h t y)) (value_in_both R s t (on_left h s y) (on_right h t y) (judging R one h s t know y))
  byting R one h s t know site other i l b j k (expression at n form) = other_allocation_both R h site other i l j k

  sizing : (R : Pairing) → IsOneToOne R → (h : Keep) (s t : PlainScope) → SameScope R s t → (e : Expression (At × At)) → SameSize R (judge_size h s (mapped_expression left e)) (judge_size h t (mapped_expression right e))
  sizing R one h s t know (expression at n (SizeofType name)) = same_one_size (typing R one h s t know name)
  sizing R one h s t know (expression at n form) = same_no_size

  typing : (R : Pairing) → IsOneToOne R → (h : Keep) (s t : PlainScope) → SameScope R s t → (name : TypeName (At × At)) → Alike (SameShape R) (judge_type h s (mapped_type_name left name)) (judge_type h t (mapped_type_name right name))
  typing R one h s t know (type_name at specifiers d) =
      declaring R one h s t know (declarator_place (mapped_declarator left d)) (declarator_place (mapped_declarator right d)) around.Nothing
      (specifiers_judged h s at.0 (mapped_specifiers left specifiers)) (specifiers_judged h t at.1 (mapped_specifiers right specifiers)) (specifiers_judged_both R h s t know at.0 at.1 specifiers) d

  declaring : (R : Pairing) → IsOneToOne R → (h : Keep) (s t : PlainScope) → SameScope R s t → (name_at name_to : At) (made : Made) (j k : Judged Shape) → Alike (SameShape R) j k → (d : Declarator (At × At))
      → Alike (SameShape R) (judge_declarator h s name_at made j (mapped_declarator left d)) (judge_declarator h t name_to made k (mapped_declarator right d))
  declaring R one h s t know name_at name_to made j k a (Named x) = a
  declaring R one h s t know name_at name_to made j k a (Unnamed at) = a
  declaring R one h s t know name_at name_to made j k a (Pointer at qualifiers d) =
      declaring R one h s t know name_at name_to around.Pointer (pointer_judged h at.0 name_at (map (mapped_qualifier left) qualifiers) made j) (pointer_judged h at.1 name_to (map (mapped_qualifier right) qualifiers) made k)
      (pointer_both R h at.0 name_at at.1 name_to qualifiers made j k a) d
  declaring R one h s t know name_at name_to made j k a (Parenthesised at d) = declaring R one h s t know name_at name_to made j k a d
  declaring R one h s t know name_at name_to made j k a (Array at d brackets Absent) =
      declaring R one h s t know name_at name_to around.OpenArray (open_array_judged h s.structures name_at made j) (open_array_judged h t.structures name_to made k) (open_array_both R h s.structures t.structures name_at name_to made j k a) d
  declaring R one h s t know name_at name_to made j k a (Array at d brackets (Present e)) =
      declaring R one h s t know name_at name_to around.Array (array_judged h s.structures name_at made (as_value s.structures (on_left h s e)) j) (array_judged h t.structures name_to made (as_value t.structures (on_right h t e)) k)
      (array_both R h s.structures t.structures name_at name_to made (as_value s.structures (on_left h s e)) (as_value t.structures (on_right h t e))
      (as_value_both R s.structures t.structures (on_left h s e) (on_right h t e) (judging R one h s t know e)) j k a) d
  declaring R one h s t know name_at name_to made j k a (Function at d parentheses all dots) =
      declaring R one h s t know name_at name_to around.Function
      (function_judged h at.0 name_at parentheses.0 (lacks_prototype (mapped_parameters left all) dots) made (judge_parameters h s (is_alone (mapped_parameters left all)) no_parameters (mapped_parameters left all)) j)
      (function_judged h at.1 name_to parentheses.1 (lacks_prototype (mapped_parameters right all) dots) made (judge_parameters h t (is_alone (mapped_parameters right all)) no_parameters (mapped_parameters right all)) k)
      (function_both R h at.0 name_at parentheses.0 at.1 name_to parentheses.1 (lacks_prototype (mapped_parameters left all) dots) (lacks_prototype (mapped_parameters right all) dots) made
      (judge_parameters h s (is_alone (mapped_parameters left all)) no_parameters (mapped_parameters left all)) (judge_parameters h t (is_alone (mapped_parameters right all)) no_parameters (mapped_parameters right all))
      (passing R one h s t know (is_alone (mapped_parameters left all)) (is_alone (mapped_parameters right all)) no_parameters no_parameters same_no_types all) j k a) d

  passing : (R : Pairing) → IsOneToOne R → (h : Keep) (s t : PlainScope) → SameScope R s t → (alone other : Bool) (f g : Found (List PlainType)) → Together (SameTypes R) f g → (all : Parameters (At × At))
      → Together (SameTypes R) (judge_parameters h s alone f (mapped_parameters left all)) (judge_parameters h t other g (mapped_parameters right all))
  passing R one h s t know alone other f g a NoParameters = a
  passing R one h s t know alone other f g a (MoreParameters (parameter at specifiers d) rest) =
      passing R one h s t know alone other
      (with_parameter h f (parameter_judged h alone at.0 (mapped_declarator left d) (judge_declarator h s (name_place at.0 (mapped_declarator left d)) around.Nothing (specifiers_judged h s at.0 (mapped_specifiers left specifiers)) (mapped_declarator left d))))
      (with_parameter h g (parameter_judged h other at.1 (mapped_declarator right d) (judge_declarator h t (name_place at.1 (mapped_declarator right d)) around.Nothing (specifiers_judged h t at.1 (mapped_specifiers right specifiers)) (mapped_declarator right d))))
      (with_parameter_both R h f g a
      (parameter_judged h alone at.0 (mapped_declarator left d) (judge_declarator h s (name_place at.0 (mapped_declarator left d)) around.Nothing (specifiers_judged h s at.0 (mapped_specifiers left specifiers)) (mapped_declarator left d)))
      (parameter_judged h other at.1 (mapped_declarator right d) (judge_declarator h t (name_place at.1 (mapped_declarator right d)) around.Nothing (specifiers_judged h t at.1 (mapped_specifiers right specifiers)) (mapped_declarator right d)))
      (parameter_judged_both R h alone other at.0 at.1 (mapped_declarator left d) (mapped_declarator right d)
      (judge_declarator h s (name_place at.0 (mapped_declarator left d)) around.Nothing (specifiers_judged h s at.0 (mapped_specifiers left specifiers)) (mapped_declarator left d))
      (judge_declarator h t (name_place at.1 (mapped_declarator right d)) around.Nothing (specifiers_judged h t at.1 (mapped_specifiers right specifiers)) (mapped_declarator right d))
      (declaring R one h s t know (name_place at.0 (mapped_declarator left d)) (name_place at.1 (mapped_declarator right d)) around.Nothing (specifiers_judged h s at.0 (mapped_specifiers left specifiers)) (specifiers_judged h t at.1 (mapped_specifiers right specifiers))
      (specifiers_judged_both R h s t know at.0 at.1 specifiers) d)))
      rest

pub expressions_renamed : ExpressionsRenamed
expressions_renamed R one h s t know e = judging R one h s t know e
