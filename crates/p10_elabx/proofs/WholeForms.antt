-- Names, places, sizes, calls and allocations that are found are whole.
use Rattle.std.specs.Prelude.{◌≡◌, ℕ, ◌≤◌, pos, Bool, true, false, ◌&&◌, nat_le, Option, Some, None, is_some, Ok, Err, List, [], ◌∷◌, ◌++◌, map, slice_get, if◌then◌else◌, refl}
use Rattle.std.proofs.Common.{ap, sym, ◌∙◌, subst, arith}
use Rattle.std.proofs.lemmas.Int.{ints}
use Rattle.std.proofs.lemmas.Bool.{leb-true}
use Rattle.p10_base.specs.Words.{Text}
use Rattle.p10_base.specs.declared.at.At.{At}
use Rattle.p10_base.specs.declared.codes.SubsetCode.TheVariants as subset
use Rattle.p10_int.specs.declared.types.IntType.{IntType}
use Rattle.p10_int.specs.declared.types.IntType.TheVariants.{Int, Char, ULong}
use Rattle.p10_int.specs.declared.operators.UnOp.TheVariants as unary_operator
use Rattle.p10_int.specs.Types.{InRange, promoted}
use Rattle.p10_syn.specs.declared.sign.Sign.{Sign}
use Rattle.p10_syn.specs.declared.sign.Sign.TheVariants as sign
use Rattle.p10_core.specs.declared.typed.Library.{Library}
use Rattle.p10_core.specs.declared.typed.Library.TheVariants.{Assert, CAssert, Getchar, Putchar, Malloc, Calloc, Free}
use Rattle.p10_core.specs.Types.{PlainType, void, integer, pointer, array, structure, unqualified, bare, PlainMember, PlainStructure, body_of, members_of, member_named}
use Rattle.p10_core.specs.Sizes.{size_of}
use Rattle.p10_core.specs.Typed.{PlainValue, value, cast, built_in, PlainPlace, place, dereference, PlainValues, no_values, more_values, type_of, place_type, at_of}
use Rattle.p10_core.specs.Rows.{same, is_integer, is_pointer, is_scalar, is_complete, fits}
use Rattle.p10_core.specs.Constants.{is_null, inconstant_part, fold, is_constant, gives_zero}
use Rattle.p10_core.specs.WholePrograms.{most_bytes}
use Rattle.p10_core.specs.Whole.{Surroundings, allocations, IsWholeValue, AreWholeValues, CountsElements, ArgumentsFit, IsWholePlace}
use Rattle.p10_elabx.specs.declared.operand.PlaceKind.TheVariants.{Object, Frame, Sensor}
use Rattle.p10_elabx.specs.declared.allocations.Site.{Site}
use Rattle.p10_elabx.specs.First.{Found, Ruled, on}
use Rattle.p10_elabx.specs.Scopes.{PlainScope, Meaning, local, object, callable, number, named_type, tagged_type, unknown_name, unknown_tag, named, library_named}
use Rattle.p10_elabx.specs.Operands.{PlainOperand, a_value, a_place, a_function, converted, is_sensor_kind}
use Rattle.p10_elabx.specs.Operators.{unary_value, has_size, size_value, operand_size, dereferenced, indexed, promoted_value, member_there, member_by, member_in, member_found, arrow_found, address_found}
use Rattle.p10_elabx.specs.Calls.{Callee, of_program, of_library, callee_of, undeclared, Wanted, anything, of_type, any_scalar, any_pointer, library_wants, wanted_value, pointer_value, with_value, call_value, count_arguments, points_to, allocation, element_count, size_constant}
use Rattle.p10_elabx.specs.TypeNames.{Shape, a_type, an_open_array, a_function_type}
use Rattle.p10_elabx.specs.Judging.{variable_kind, object_kind, undeclared_name, name_found, valued, unary_found, shape_size, cast_found, sized_shape, shape_allocation, size_shape, either_size, either_shape}
use Rattle.p10_elabx.specs.Wholeness.{Stands, is_frame_meaning}
use Rattle.p10_elabx.proofs.WholeParts.{IfFound, IfRuled, if_on, if_so, mark_off, bare_off, same_is, WholeValue, WholeOf, converted_whole, fitted_whole, WholeOperand, frame_of, sensor_of, unary_whole, cast_whole}

-- ## Names

variable_plain : (b : Bool) → false ≡ is_sensor_kind (variable_kind b)
variable_plain true = refl
variable_plain false = refl

object_sensed : (b : Bool) → b ≡ is_sensor_kind (object_kind b)
object_sensed true = refl
object_sensed false = refl

undeclared_whole : (c : Surroundings) (at : At) (o : Option Library) → IfRuled (WholeOperand c false) (undeclared_name at o)
undeclared_whole c at None = tt
undeclared_whole c at (Some f) = tt

pub name_whole : (c : Surroundings) (s : PlainScope) → Stands c s → (at name_at : At) (name : Text) (what : Option Meaning) → named s name ≡ what →
    IfRuled (WholeOperand c (is_frame_meaning what)) (name_found at name_at name what)
name_whole c s w at name_at name None e = undeclared_whole c name_at (library_named name)
name_whole c s w at name_at name (Some (local n t frame)) e =
    let there : c.variable_at n ≡ Some (record { type = t; frame = frame }) = w.variables name n t frame e in (
      record { seen = record { type = t; frame = frame }; there = there; type_is = refl },
      record { frame_is = frame_of c n (record { type = t; frame = frame }) there; sensor_is = variable_plain frame },
    )
name_whole c s w at name_at name (Some (object n t sensor)) e =
    let there : c.object_at n ≡ Some (record { type = t; sensor = sensor }) = w.objects name n t sensor e in (
      record { seen = record { type = t; sensor = sensor }; there = there; type_is = refl },
      record { frame_is = refl; sensor_is = sensor_of c n (record { type = t; sensor = sensor }) there ∙ object_sensed sensor },
    )
name_whole c s w at name_at name (Some (callable n parameters result)) e = tt
name_whole c s w at name_at name (Some (number z)) e = (record { kind = Int; type_is = refl; in_range = w.numbers name z e }, refl)
name_whole c s w at name_at name (Some (named_type t)) e = tt
name_whole c s w at name_at name (Some (tagged_type t)) e = tt
name_whole c s w at name_at name (Some unknown_name) e = tt
name_whole c s w at name_at name (Some unknown_tag) e = tt

-- ## Places

-- a value as an operand
pub valued_whole : (c : Surroundings) (r : Ruled PlainValue) → IfRuled (WholeValue c) r → IfRuled (WholeOperand c false) (valued r)
valued_whole c (Ok v) w = w
valued_whole c (Err r) w = tt

pub dereferenced_whole : (c : Surroundings) (at : At) (v : PlainValue) → WholeValue c v → IfRuled (WholeOperand c false) (dereferenced at v)
dereferenced_whole c at (value b (pointer d t) f) w = ((w.0, w.1), record { frame_is = refl; sensor_is = refl })
dereferenced_whole c at (value b (void d) f) w = tt
dereferenced_whole c at (value b (integer d i) f) w = tt
dereferenced_whole c at (value b (array d t n) f) w = tt
dereferenced_whole c at (value b (structure d n) f) w = tt

pub unary_found_whole : (c : Surroundings) (at : At) (word : Sign) (v : PlainValue) → WholeValue c v → IfRuled (WholeOperand c false) (unary_found at word v)
unary_found_whole c at sign.Star v w = dereferenced_whole c at v w
unary_found_whole c at sign.Plus v w = valued_whole c (unary_value at unary_operator.Plus v) (unary_whole c at unary_operator.Plus v w)
unary_found_whole c at sign.Minus v w = valued_whole c (unary_value at unary_operator.Neg v) (unary_whole c at unary_operator.Neg v w)
unary_found_whole c at sign.Tilde v w = valued_whole c (unary_value at unary_operator.Com v) (unary_whole c at unary_operator.Com v w)
unary_found_whole c at sign.Not v w = valued_whole c (unary_value at unary_operator.Not v) (unary_whole c at unary_operator.Not v w)
unary_found_whole c at word v w = tt

promoted_whole : (c : Surroundings) (at : At) (d : Bool) (i : IntType) (f : _) → WholeValue c (value at (integer d i) f) →
    WholeOf c (integer false (promoted i)) (promoted_value (value at (integer d i) f) i)
promoted_whole c at d i f w = converted_whole c (value at (integer d i) f) (integer false (promoted i)) w refl refl

pub indexed_whole : (c : Surroundings) (at : At) (a i : PlainValue) → WholeValue c a → WholeValue c i → IfRuled (WholeOperand c false) (indexed c.structures at a i)
indexed_whole c at (value b (pointer d t) f) (value k (integer e i) g) v w =
    let number : WholeOf c (integer false (promoted i)) (promoted_value (value k (integer e i) g) i) = promoted_whole c k e i g w in
    if_so (WholeOperand c false) (is_complete c.structures t) _ _
    (λ full. ((v.0, number.0, record { kind = promoted i; pointer_is = v.1; integer_is = number.1; complete = full }), record { frame_is = refl; sensor_is = refl }))
indexed_whole c at a i v w = tt

member_there_whole : (c : Surroundings) (at : At) (d : Bool) (p : PlainPlace) (n m : ℕ) (o : Option PlainMember) → IsWholePlace c p → place_type p ≡ structure d n →
    slice_get (members_of c.structures n) m ≡ o → IfRuled (WholeOperand c false) (member_there at d p m o)
member_there_whole c at d p n m None w e there = tt
member_there_whole c at d p n m (Some found) w e there =
    if_so (WholeOperand c false) (nat_le m 4294967295) _ _
    (λ _. ((w, record { mark = d; number = n; whole_is = e; entry = found; there = there; type_is = refl }), record { frame_is = refl; sensor_is = refl }))

member_by_whole : (c : Surroundings) (at : At) (d : Bool) (p : PlainPlace) (n : ℕ) (o : Option ℕ) → IsWholePlace c p → place_type p ≡ structure d n →
    IfRuled (WholeOperand c false) (member_by at d p (members_of c.structures n) o)
member_by_whole c at d p n None w e = tt
member_by_whole c at d p n (Some m) w e = member_there_whole c at d p n m _ w e refl

member_in_whole : (c : Surroundings) (at : At) (name : Text) (p : PlainPlace) → IsWholePlace c p → IfRuled (WholeOperand c false) (member_in c.structures at name p)
member_in_whole c at name (place b (structure d n) f) w =
    member_by_whole c at d (place b (structure d n) f) n (member_named name (members_of c.structures n)) w refl
member_in_whole c at name (place b (void d) f) w = tt
member_in_whole c at name (place b (integer d i) f) w = tt
member_in_whole c at name (place b (pointer d t) f) w = tt
member_in_whole c at name (place b (array d t n) f) w = tt

pub member_whole : (c : Surroundings) (frame : Bool) (at : At) (name : Text) (o : PlainOperand) → WholeOperand c frame o → IfRuled (WholeOperand c false) (member_found c.structures at name o)
member_whole c frame at name (a_value v) w = tt
member_whole c frame at name (a_place kind p) w = member_in_whole c at name p w.0
member_whole c frame at name (a_function b) w = tt

pub arrow_whole : (c : Surroundings) (at : At) (name : Text) (v : PlainValue) → WholeValue c v → IfRuled (WholeOperand c false) (arrow_found c.structures at name v)
arrow_whole c at name (value b (pointer d (structure e n)) f) w = member_in_whole c at name (place at (structure e n) (dereference (value b (pointer d (structure e n)) f))) (w.0, w.1)
arrow_whole c at name v w = tt

-- `&`, except of the name of a frame variable
pub address_whole : (c : Surroundings) (at : At) (o : PlainOperand) → WholeOperand c false o → IfRuled (WholeOperand c false) (address_found at o)
address_whole c at (a_value v) w = tt
address_whole c at (a_function b) w = tt
address_whole c at (a_place Sensor p) w = tt
address_whole c at (a_place Frame p) w = ((w.0, record { type_is = refl; no_frame = w.1.frame_is; no_sensor = w.1.sensor_is }), refl)
address_whole c at (a_place Object p) w = ((w.0, record { type_is = refl; no_frame = w.1.frame_is; no_sensor = w.1.sensor_is }), refl)

-- ## Sizes

first : (a b : Bool) → (a && b) ≡ true → a ≡ true
first true b e = refl
first false b e = absurd cc

second : (a b : Bool) → (a && b) ≡ true → b ≡ true
second true b e = e
second false b e = absurd cc

sized_complete : (ss : List PlainStructure) (t : PlainType) → has_size ss t ≡ true → is_complete ss t ≡ true
sized_complete ss (array c t n) e = sized_complete ss t (first (has_size ss t) (nat_le (size_of ss (array c t n)) most_bytes) e)
sized_complete ss (void c) e = absurd cc
sized_complete ss (integer c i) e = refl
sized_complete ss (pointer c t) e = refl
sized_complete ss (structure c n) e = first (is_some (body_of ss n)) (nat_le (size_of ss (structure c n)) most_bytes) e

sized_small : (ss : List PlainStructure) (t : PlainType) → has_size ss t ≡ true → nat_le (size_of ss t) most_bytes ≡ true
sized_small ss (array c t n) e = second (has_size ss t) (nat_le (size_of ss (array c t n)) most_bytes) e
sized_small ss (void c) e = absurd cc
sized_small ss (integer c i) e = e
sized_small ss (pointer c t) e = e
sized_small ss (structure c n) e = second (is_some (body_of ss n)) (nat_le (size_of ss (structure c n)) most_bytes) e

size_in : (n : ℕ) → nat_le n most_bytes ≡ true → InRange ULong (pos n)
unfolding most_bytes
size_in n e = let small : n ≤ 1099511627776 = leb-true _ _ e in record { low = omega (arith, ints); high = omega (arith, ints, small) }

size_whole : (c : Surroundings) (at : At) (t : PlainType) → IfRuled (WholeOperand c false) (size_value c.structures at t)
size_whole c at t =
    if_so (WholeOperand c false) (has_size c.structures t) _ _
    (λ e. (record { kind = ULong; type_is = refl; in_range = size_in (size_of c.structures t) (sized_small c.structures t e) }, refl))

pub operand_size_whole : (c : Surroundings) (at : At) (o : PlainOperand) → IfRuled (WholeOperand c false) (operand_size c.structures at o)
operand_size_whole c at (a_value v) = size_whole c at (type_of v)
operand_size_whole c at (a_place kind p) = size_whole c at (place_type p)
operand_size_whole c at (a_function b) = tt

pub shape_size_whole : (c : Surroundings) (at : At) (t : Shape) → IfRuled (WholeOperand c false) (shape_size c.structures at t)
shape_size_whole c at (a_type t) = size_whole c at t
shape_size_whole c at (an_open_array t) = tt
shape_size_whole c at (a_function_type parameters t) = tt

pub cast_found_whole : (c : Surroundings) (at : At) (t : Shape) (v : PlainValue) → WholeValue c v → IfRuled (WholeOperand c false) (cast_found at t v)
cast_found_whole c at (a_type t) v w = valued_whole c _ (cast_whole c at t v w)
cast_found_whole c at (an_open_array t) v w = tt
cast_found_whole c at (a_function_type parameters t) v w = tt

-- ## Calls

-- what a called name stands for is there
abbrev pub IsThere : Surroundings → Callee → Type 0
IsThere c (of_program n parameters result) = c.function_at n ≡ Some (record { parameters = parameters; result = result })
IsThere c callee = Unit {0}

undeclared_there : (c : Surroundings) (o : Option Library) → IsThere c (undeclared o)
undeclared_there c None = tt
undeclared_there c (Some f) = tt

pub callee_there : (c : Surroundings) (s : PlainScope) → Stands c s → (name : Text) (what : Option Meaning) → named s name ≡ what → IsThere c (callee_of what name)
callee_there c s w name None e = undeclared_there c (library_named name)
callee_there c s w name (Some (callable n parameters result)) e = w.functions name n parameters result e
callee_there c s w name (Some (local n t frame)) e = tt
callee_there c s w name (Some (object n t sensor)) e = tt
callee_there c s w name (Some (number z)) e = tt
callee_there c s w name (Some (named_type t)) e = tt
callee_there c s w name (Some (tagged_type t)) e = tt
callee_there c s w name (Some unknown_name) e = tt
callee_there c s w name (Some unknown_tag) e = tt

-- an argument is what is asked
abbrev pub Meets : Wanted → PlainValue → Type 0
Meets anything v = Unit {0}
Meets (of_type t) v = type_of v ≡ unqualified t
Meets any_scalar v = is_scalar (type_of v) ≡ true
Meets any_pointer v = (target : PlainType) × (type_of v ≡ pointer false target)

-- so are all arguments
abbrev pub AllMeet : List Wanted → PlainValues → Type 0
AllMeet [] no_values = Unit {0}
AllMeet (w ∷ ws) (more_values v vs) = Meets w v × AllMeet ws vs
AllMeet [] (more_values v vs) = ⊥
AllMeet (w ∷ ws) no_values = ⊥

pub meet_more : (ws : List Wanted) (w : Wanted) (vs : PlainValues) (v : PlainValue) → AllMeet ws vs → Meets w v → AllMeet (ws ++ w ∷ []) (with_value vs v)
meet_more [] w no_values v p q = (q, tt)
meet_more (x ∷ ws) w (more_values y vs) v p q = (p.0, meet_more ws w vs v p.1 q)
meet_more [] w (more_values y vs) v p q = absurd p
meet_more (x ∷ ws) w no_values v p q = absurd p

pub whole_more : (c : Surroundings) (vs : PlainValues) (v : PlainValue) → AreWholeValues c vs → IsWholeValue c v → AreWholeValues c (with_value vs v)
whole_more c no_values v p q = (q, tt)
whole_more c (more_values x vs) v p q = (p.0, whole_more c vs v p.1 q)

integer_fits : (v : PlainValue) (t : PlainType) (target : PlainType) → type_of v ≡ t → is_integer t ≡ true → is_null v ≡ true → fits (is_null v) t (pointer false target) ≡ true
integer_fits v (integer d i) target e k n = n
integer_fits v (void d) target e k n = absurd cc
integer_fits v (pointer d t) target e k n = absurd cc
integer_fits v (array d t m) target e k n = absurd cc
integer_fits v (structure d m) target e k n = absurd cc

pointer_is : (t : PlainType) → is_pointer t ≡ true → t ≡ unqualified t → (target : PlainType) × (t ≡ pointer false target)
pointer_is (pointer d t) k e = (t, e)
pointer_is (void d) k e = absurd cc
pointer_is (integer d i) k e = absurd cc
pointer_is (array d t n) k e = absurd cc
pointer_is (structure d n) k e = absurd cc

pointer_value_whole : (c : Surroundings) (v : PlainValue) → WholeValue c v → IfRuled (λ x. IsWholeValue c x × Meets any_pointer x) (pointer_value v)
pointer_value_whole c v w = by (is_pointer (type_of v)) refl
  where
    null : (n : Bool) → is_null v ≡ n →
        IfRuled (λ x. IsWholeValue c x × Meets any_pointer x) (if n then Ok (converted v (pointer false (integer false Char))) else Err (Some (record { code = subset.TypesDiffer; at = at_of v })))
    null true k =
        let number : is_integer (type_of v) ≡ true = first (is_integer (type_of v)) (is_constant (inconstant_part v) && gives_zero (fold v)) k in
        let x : WholeOf c (pointer false (integer false Char)) (converted v (pointer false (integer false Char))) =
        converted_whole c v (pointer false (integer false Char)) w (integer_fits v (type_of v) (integer false Char) refl number k) refl in
        (x.0, (integer false Char, x.1))
    null false k = tt

    by : (b : Bool) → is_pointer (type_of v) ≡ b →
        IfRuled (λ x. IsWholeValue c x × Meets any_pointer x) (if b then Ok v else if is_null v then Ok (converted v (pointer false (integer false Char))) else Err (Some (record { code = subset.TypesDiffer; at = at_of v })))
    by true k = (w.0, pointer_is (type_of v) k w.1)
    by false k = null (is_null v) refl

pub wanted_whole : (c : Surroundings) (x : Wanted) (v : PlainValue) → WholeValue c v → IfRuled (λ y. IsWholeValue c y × Meets x y) (wanted_value (Some x) v)
wanted_whole c anything v w = (w.0, tt)
wanted_whole c (of_type t) v w = fitted_whole c (at_of v) v t w
wanted_whole c any_scalar v w = if_so (λ y. IsWholeValue c y × Meets any_scalar y) (is_scalar (type_of v)) v _ (λ k. (w.0, k))
wanted_whole c any_pointer v w = pointer_value_whole c v w

arguments_fit : (c : Surroundings) (parameters : List PlainType) (vs : PlainValues) → AllMeet (map of_type parameters) vs → ArgumentsFit c parameters vs
arguments_fit c [] no_values p = tt
arguments_fit c (t ∷ ts) (more_values v vs) p = (ap (bare c.structures) p.0 ∙ bare_off c.structures t, arguments_fit c ts vs p.1)
arguments_fit c [] (more_values v vs) p = absurd p
arguments_fit c (t ∷ ts) no_values p = absurd p

pub program_whole : (c : Surroundings) (at name_at : At) (n : ℕ) (parameters : List PlainType) (result : PlainType) (vs : PlainValues) →
    c.function_at n ≡ Some (record { parameters = parameters; result = result }) → AreWholeValues c vs × AllMeet (map of_type parameters) vs →
    IfRuled (WholeOperand c false) (call_value at name_at (of_program n parameters result) vs)
program_whole c at name_at n parameters result vs there p = (
  (
    p.0,
    record {
      seen = record { parameters = parameters; result = result };
      there = there;
      fit = arguments_fit c parameters vs p.1;
      result_is = bare_off c.structures result;
      unmarked = mark_off result;
    },
  ),
  mark_off result,
)

-- what counts as a call of a value: neither `assert`, nor an allocation
abbrev pub IsValued : Library → Type 0
IsValued CAssert = Unit {0}
IsValued Getchar = Unit {0}
IsValued Putchar = Unit {0}
IsValued Free = Unit {0}
IsValued f = ⊥

pub library_whole : (c : Surroundings) (at name_at : At) (f : Library) (vs : PlainValues) → IsValued f → AreWholeValues c vs × AllMeet (library_wants f) vs →
    IfRuled (WholeOperand c false) (call_value at name_at (of_library f) vs)
library_whole c at name_at Getchar no_values i p = ((p.0, refl), refl)
library_whole c at name_at Putchar (more_values v no_values) i p = ((p.0, (refl, p.1.0)), refl)
library_whole c at name_at CAssert (more_values v no_values) i p = ((p.0, (refl, p.1.0)), refl)
library_whole c at name_at Free (more_values v no_values) i p = ((p.0, (refl, p.1.0)), refl)
library_whole c at name_at Getchar (more_values v vs) i p = absurd p.1
library_whole c at name_at Putchar no_values i p = absurd p.1
library_whole c at name_at CAssert no_values i p = absurd p.1
library_whole c at name_at Free no_values i p = absurd p.1
library_whole c at name_at Putchar (more_values v (more_values x vs)) i p = absurd p.1.1
library_whole c at name_at CAssert (more_values v (more_values x vs)) i p = absurd p.1.1
library_whole c at name_at Free (more_values v (more_values x vs)) i p = absurd p.1.1
library_whole c at name_at Assert vs i p = absurd i
library_whole c at name_at Malloc vs i p = absurd i
library_whole c at name_at Calloc vs i p = absurd i

-- ## Allocations

-- a library function for memory
abbrev pub IsMemory : Library → Type 0
IsMemory Malloc = Unit {0}
IsMemory Calloc = Unit {0}
IsMemory f = ⊥

-- a number of elements, or none
abbrev pub Counts : Surroundings → Option PlainValue → Type 0
Counts c None = Unit {0}
Counts c (Some v) = WholeOf c (integer false ULong) v

counts_whole : (c : Surroundings) (o : Option PlainValue) → Counts c o → AreWholeValues c (count_arguments o)
counts_whole c None p = tt
counts_whole c (Some v) p = (p.0, tt)

counts_elements : (c : Surroundings) (o : Option PlainValue) → Counts c o → CountsElements (count_arguments o)
counts_elements c None p = tt
counts_elements c (Some v) p = p.1

allocated_whole : (c : Surroundings) (cast_at at name_at : At) (f : Library) (t element : PlainType) (o : Option PlainValue) → IsMemory f → is_complete c.structures element ≡ true → Counts c o → t ≡ element →
    WholeValue c (value cast_at (pointer false t) (cast (value at (pointer false t) (built_in name_at.span f (count_arguments o)))))
allocated_whole c cast_at at name_at Malloc t element o i full p e = (
  (
    (counts_whole c o p, record { element = t; type_is = refl; complete = subst (λ x. is_complete c.structures x ≡ true) (sym e) full; counted = counts_elements c o p }),
    allocations t _ refl refl,
  ),
  refl,
)
allocated_whole c cast_at at name_at Calloc t element o i full p e = (
  (
    (counts_whole c o p, record { element = t; type_is = refl; complete = subst (λ x. is_complete c.structures x ≡ true) (sym e) full; counted = counts_elements c o p }),
    allocations t _ refl refl,
  ),
  refl,
)
allocated_whole c cast_at at name_at f t element o i full p e = absurd i

allocation_whole : (c : Surroundings) (cast_at : At) (t : PlainType) (at name_at : At) (f : Library) (element : PlainType) (o : Option PlainValue) → IsMemory f → is_complete c.structures element ≡ true → Counts c o →
    IfRuled (WholeOperand c false) (allocation cast_at t at name_at f element o)
allocation_whole c cast_at (pointer d t) at name_at f element o i full p =
    if_so (WholeOperand c false) (same t element) _ _ (λ e. allocated_whole c cast_at at name_at f t element o i full p (same_is t element e))
allocation_whole c cast_at (void d) at name_at f element o i full p = tt
allocation_whole c cast_at (integer d k) at name_at f element o i full p = tt
allocation_whole c cast_at (array d t n) at name_at f element o i full p = tt
allocation_whole c cast_at (structure d n) at name_at f element o i full p = tt

pub shape_allocation_whole : (c : Surroundings) (site : Site) (f : Library) (t : Shape) (element : PlainType) (o : Option PlainValue) → IsMemory f → is_complete c.structures element ≡ true → Counts c o →
    IfRuled (WholeOperand c false) (shape_allocation site f t element o)
shape_allocation_whole c site f (a_type t) element o i full p = allocation_whole c site.cast_at t site.call_at site.name_at f element o i full p
shape_allocation_whole c site f (an_open_array t) element o i full p = tt
shape_allocation_whole c site f (a_function_type parameters t) element o i full p = tt

pub sized_shape_whole : (c : Surroundings) (at : At) (t : Shape) → IfRuled (λ x. is_complete c.structures x ≡ true) (sized_shape c.structures at t)
sized_shape_whole c at (a_type t) = if_so (λ x. is_complete c.structures x ≡ true) (has_size c.structures t) t _ (sized_complete c.structures t)
sized_shape_whole c at (an_open_array t) = tt
sized_shape_whole c at (a_function_type parameters t) = tt

-- a type with its size
abbrev pub SizedWhole : Surroundings → PlainType × PlainValue → Type 0
SizedWhole c x = (is_complete c.structures x.0 ≡ true) × WholeOf c (integer false ULong) x.1

pub size_shape_whole : (c : Surroundings) (at : At) (t : Shape) → IfRuled (SizedWhole c) (size_shape c.structures at t)
size_shape_whole c at (a_type t) =
    if_so (SizedWhole c) (has_size c.structures t) (t, size_constant c.structures at t) _
    (λ e. (sized_complete c.structures t e, (record { kind = ULong; type_is = refl; in_range = size_in (size_of c.structures t) (sized_small c.structures t e) }, refl)))
size_shape_whole c at (an_open_array t) = tt
size_shape_whole c at (a_function_type parameters t) = tt

element_count_whole : (c : Surroundings) (otherwise : Ruled PlainValue) (v : PlainValue) → IfRuled (λ x. Counts c (Some x)) otherwise → WholeValue c v → IfRuled (λ x. Counts c (Some x)) (element_count otherwise v)
element_count_whole c otherwise v r w = by (is_integer (type_of v)) refl
  where
    integer_becomes : (null : Bool) (t : PlainType) → is_integer t ≡ true → fits null t (integer false ULong) ≡ true
    integer_becomes null (integer d i) k = refl
    integer_becomes null (void d) k = absurd cc
    integer_becomes null (pointer d t) k = absurd cc
    integer_becomes null (array d t n) k = absurd cc
    integer_becomes null (structure d n) k = absurd cc

    by : (b : Bool) → is_integer (type_of v) ≡ b → IfRuled (λ x. Counts c (Some x)) (if b then Ok (converted v (integer false ULong)) else otherwise)
    by true k = converted_whole c v (integer false ULong) w (integer_becomes (is_null v) (type_of v) k) refl
    by false k = r

pub counted_whole : (c : Surroundings) (otherwise : Ruled PlainValue) (f : Found PlainValue) → IfRuled (λ x. Counts c (Some x)) otherwise → IfFound (WholeValue c) f →
    IfFound (λ x. Counts c (Some x)) (on f (element_count otherwise))
counted_whole c otherwise f r w = if_on (WholeValue c) (λ x. Counts c (Some x)) f (element_count otherwise) (λ v p. element_count_whole c otherwise v r p) w

either_size_whole : (c : Surroundings) (site : Site) (t : PlainType) (a b : PlainType × PlainValue) → SizedWhole c a → SizedWhole c b → IfRuled (WholeOperand c false) (either_size site t a b)
either_size_whole c site t a b p q = by (points_to t b.0)
  where
    by : (x : Bool) → IfRuled (WholeOperand c false) (if x then allocation site.cast_at t site.call_at site.name_at Malloc b.0 (Some a.1) else allocation site.cast_at t site.call_at site.name_at Malloc a.0 (Some b.1))
    by true = allocation_whole c site.cast_at t site.call_at site.name_at Malloc b.0 (Some a.1) tt q.0 p.1
    by false = allocation_whole c site.cast_at t site.call_at site.name_at Malloc a.0 (Some b.1) tt p.0 q.1

pub either_shape_whole : (c : Surroundings) (site : Site) (t : Shape) (a b : PlainType × PlainValue) → SizedWhole c a → SizedWhole c b → IfRuled (WholeOperand c false) (either_shape site t a b)
either_shape_whole c site (a_type t) a b p q = either_size_whole c site t a b p q
either_shape_whole c site (an_open_array t) a b p q = tt
either_shape_whole c site (a_function_type parameters t) a b p q = tt
