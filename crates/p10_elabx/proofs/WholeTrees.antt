-- What is found in a tree is whole in the scope of the tree, by its form.
use Rattle.std.specs.Prelude.{◌≡◌, ℕ, zero, suc, ◌+◌, ◌<◌, Bool, true, false, not, ◌||◌, nat_eq, Option, Some, None, Ok, Err, List, [], ◌∷◌, ◌++◌, map, length, take, slice_get, if◌then◌else◌, refl}
use Rattle.std.proofs.Common.{ap, sym, ◌∙◌, subst, arith, add-one}
use Rattle.std.proofs.lemmas.Bool.{eqb-true, eq-eqb, false≢true}
use Rattle.p10_base.specs.declared.at.At.{At}
use Rattle.p10_base.specs.declared.codes.SubsetCode.{SubsetCode}
use Rattle.p10_base.specs.declared.codes.SubsetCode.TheVariants as subset
use Rattle.p10_int.specs.declared.operators.BinOp.{BinOp}
use Rattle.p10_syn.specs.declared.sign.Sign.{Sign}
use Rattle.p10_syn.specs.Trees.{Identifier, Expression, expression, Name, Number, Character, Strings, Unary, Step, Binary, Assign, Conditional, Call, Index, Member, Arrow, Cast, SizeofExpression, SizeofType, Comma, Expressions, NoExpressions, MoreExpressions}
use Rattle.p10_core.specs.declared.typed.Library.{Library}
use Rattle.p10_core.specs.declared.typed.Library.TheVariants.{Assert, CAssert, Getchar, Putchar, Malloc, Calloc, Free}
use Rattle.p10_core.specs.Types.{PlainType}
use Rattle.p10_core.specs.Typed.{PlainValue, PlainValues, no_values, PlainStatementForm}
use Rattle.p10_core.specs.Rows.{is_complete}
use Rattle.p10_core.specs.Whole.{Surroundings, SeenVariable, SeenObject, SeenFunction, IsWholeValue, AreWholeValues}
use Rattle.p10_elabx.specs.declared.problem.Problem.{Problem}
use Rattle.p10_elabx.specs.declared.signs.Operation.{Operation}
use Rattle.p10_elabx.specs.declared.signs.Operation.TheVariants.{Values, Truth, Nothing}
use Rattle.p10_elabx.specs.declared.allocations.Site.{Site}
use Rattle.p10_elabx.specs.First.{Keep, every, Found, refused, nothing_said, Judged, pair, on, also, refused_where, unordered}
use Rattle.p10_elabx.specs.Scopes.{PlainScope, named}
use Rattle.p10_elabx.specs.Operands.{PlainOperand, any_value, as_value}
use Rattle.p10_elabx.specs.Operators.{operand_size, member_found, arrow_found, address_found}
use Rattle.p10_elabx.specs.Calls.{Callee, of_program, of_library, not_declared, no_function, refused_before, callee_of, Wanted, of_type, library_wants, wants_of, wanted_of, wanted_value, Listed, no_arguments, argument_judged, with_argument, call_problem, is_assert, is_allocator, with_problem, call_value, call_judged, operand_call, other_call}
use Rattle.p10_elabx.specs.TypeNames.{Shape}
use Rattle.p10_elabx.specs.Literals.{number_found, character_found, strings_found}
use Rattle.p10_elabx.specs.Judging.{name_found, is_and, is_star, unary_found, unary_judged, unary_by_sign, may_be_place, place_of, address_judged, values_judged, truth_judged, binary_judged, conditional_judged, index_judged, member_judged, arrow_judged, size_judged, shape_size, type_size_judged, is_void_shape, cast_judged, nested, comma_judged, sized_shape, one_element, counted_elements, size_shape, two_sizes, other_allocation, product_judged, cleared_judged, count_of, called_name, for_name, memory_called, for_memory, value_in, judge, judge_arguments, judge_cast, judge_allocation, judge_bytes}
use Rattle.p10_elabx.specs.Wholeness.{Stands, is_frame_name, AreAllowed, EachAllowed, ValuesAreWhole}
use Rattle.p10_elabx.proofs.WholeParts.{IfFound, IfRuled, if_lift, if_on, if_pair, if_where, WholeValue, WholeOperand, AreSimple, any_whole, value_whole, binary_whole, logic_whole, conditional_whole}
use Rattle.p10_elabx.proofs.WholeTexts.{number_whole, character_whole, strings_whole}
use Rattle.p10_elabx.proofs.WholeForms.{name_whole, valued_whole, unary_found_whole, indexed_whole, member_whole, arrow_whole, address_whole, operand_size_whole, shape_size_whole, cast_found_whole, IsThere, callee_there, AllMeet, Meets, meet_more, whole_more, wanted_whole, program_whole, IsValued, library_whole, IsMemory, Counts, shape_allocation_whole, sized_shape_whole, SizedWhole, size_shape_whole, counted_whole, either_shape_whole}

-- anything
abbrev Anything : {A : Type 0} → A → Type 0
Anything a = Unit {0}

anything_found : {A : Type 0} (f : Found A) → IfFound Anything f
anything_found (Ok a) = tt
anything_found (Err rs) = tt

-- a row on the form that holds leaves nothing
never : {A : Type 0} (P : A → Type 0) (h : Keep) (b : Bool) (code : SubsetCode) (at : At) (j : Judged A) → b ≡ true → IfFound P (also h b code at j).found
never P h b code at j e = if_where P h b code at j.found (λ f. absurd (false≢true (sym f ∙ e)))

-- ## Forms

address_judged_whole : (c : Surroundings) (h : Keep) (at : At) (may : Bool) (j : Judged PlainOperand) → IfFound (WholeOperand c false) j.found → IfFound (WholeOperand c false) (address_judged h at may j).found
unfolding address_judged
address_judged_whole c h at may j w =
    if_where (WholeOperand c false) h (not may) subset.NoAddress at _ (λ _. if_on (WholeOperand c false) (WholeOperand c false) j.found (address_found at) (address_whole c at) w)

unary_judged_whole : (c : Surroundings) (at : At) (word : Sign) (j : Judged PlainValue) → IfFound (WholeValue c) j.found → IfFound (WholeOperand c false) (unary_judged at word j).found
unfolding unary_judged
unary_judged_whole c at word j w = if_on (WholeValue c) (WholeOperand c false) j.found (unary_found at word) (unary_found_whole c at word) w

by_sign_whole : (c : Surroundings) → AreSimple c → (h : Keep) (at : At) (b : Bool) (word : Sign) (may frame : Bool) (j : Judged PlainOperand) → (b ≡ true → frame ≡ false) →
    IfFound (WholeOperand c frame) j.found → IfFound (WholeOperand c false) (unary_by_sign h c.structures at b word may j).found
by_sign_whole c simple h at true word may frame j n w = address_judged_whole c h at may j (subst (λ f. IfFound (WholeOperand c f) j.found) (n refl) w)
by_sign_whole c simple h at false word may frame j n w = unary_judged_whole c at word _ (value_whole c simple frame j w)

values_whole : (c : Surroundings) (h : Keep) (at : At) (op : BinOp) (j k : Judged PlainValue) → IfFound (WholeValue c) j.found → IfFound (WholeValue c) k.found → IfFound (WholeOperand c false) (values_judged h c.structures at op j k).found
unfolding values_judged
values_whole c h at op j k v w =
    if_where (WholeOperand c false) h (unordered j k) subset.UnspecifiedOrder at _
    (λ _. if_on (λ x. WholeValue c x.0 × WholeValue c x.1) (WholeOperand c false) (pair h j.found k.found) _
    (λ (x, y) p. valued_whole c _ (binary_whole c at op x y p.0 p.1)) (if_pair (WholeValue c) (WholeValue c) h j.found k.found v w))

truth_whole : (c : Surroundings) (h : Keep) (at : At) (op : _) (j k : Judged PlainValue) → IfFound (WholeValue c) j.found → IfFound (WholeValue c) k.found → IfFound (WholeOperand c false) (truth_judged h at op j k).found
unfolding truth_judged
truth_whole c h at op j k v w =
    if_on (λ x. WholeValue c x.0 × WholeValue c x.1) (WholeOperand c false) (pair h j.found k.found) _
    (λ (x, y) p. valued_whole c _ (logic_whole c at op x y p.0 p.1)) (if_pair (WholeValue c) (WholeValue c) h j.found k.found v w)

binary_judged_whole : (c : Surroundings) (h : Keep) (at : At) (o : Operation) (j k : Judged PlainValue) → IfFound (WholeValue c) j.found → IfFound (WholeValue c) k.found → IfFound (WholeOperand c false) (binary_judged h c.structures at o j k).found
binary_judged_whole c h at (Values op) j k v w = values_whole c h at op j k v w
binary_judged_whole c h at (Truth op) j k v w = truth_whole c h at op j k v w
binary_judged_whole c h at Nothing j k v w = tt

conditional_judged_whole : (c : Surroundings) (h : Keep) (at : At) (i j k : Judged PlainValue) → IfFound (WholeValue c) i.found → IfFound (WholeValue c) j.found → IfFound (WholeValue c) k.found →
    IfFound (WholeOperand c false) (conditional_judged h at i j k).found
unfolding conditional_judged
conditional_judged_whole c h at i j k u v w =
    if_on (λ x. WholeValue c x.0 × (WholeValue c x.1.0 × WholeValue c x.1.1)) (WholeOperand c false) (pair h i.found (pair h j.found k.found)) _
    (λ (t, (x, y)) p. valued_whole c _ (conditional_whole c at t x y p.0 p.1.0 p.1.1))
    (if_pair (WholeValue c) (λ x. WholeValue c x.0 × WholeValue c x.1) h i.found _ u (if_pair (WholeValue c) (WholeValue c) h j.found k.found v w))

index_judged_whole : (c : Surroundings) (h : Keep) (at : At) (j k : Judged PlainValue) → IfFound (WholeValue c) j.found → IfFound (WholeValue c) k.found → IfFound (WholeOperand c false) (index_judged h c.structures at j k).found
unfolding index_judged
index_judged_whole c h at j k v w =
    if_where (WholeOperand c false) h (unordered j k) subset.UnspecifiedOrder at _
    (λ _. if_on (λ x. WholeValue c x.0 × WholeValue c x.1) (WholeOperand c false) (pair h j.found k.found) _
    (λ (x, y) p. indexed_whole c at x y p.0 p.1) (if_pair (WholeValue c) (WholeValue c) h j.found k.found v w))

member_judged_whole : (c : Surroundings) (frame : Bool) (at : At) (name : _) (j : Judged PlainOperand) → IfFound (WholeOperand c frame) j.found → IfFound (WholeOperand c false) (member_judged c.structures at name j).found
unfolding member_judged
member_judged_whole c frame at name j w = if_on (WholeOperand c frame) (WholeOperand c false) j.found (member_found c.structures at name) (member_whole c frame at name) w

arrow_judged_whole : (c : Surroundings) (at : At) (name : _) (j : Judged PlainValue) → IfFound (WholeValue c) j.found → IfFound (WholeOperand c false) (arrow_judged c.structures at name j).found
unfolding arrow_judged
arrow_judged_whole c at name j w = if_on (WholeValue c) (WholeOperand c false) j.found (arrow_found c.structures at name) (arrow_whole c at name) w

size_judged_whole : (c : Surroundings) (at : At) (j : Judged PlainOperand) → IfFound (WholeOperand c false) (size_judged c.structures at j).found
unfolding size_judged
size_judged_whole c at j = if_on Anything (WholeOperand c false) j.found (operand_size c.structures at) (λ o _. operand_size_whole c at o) (anything_found j.found)

type_size_whole : (c : Surroundings) (at : At) (j : Judged Shape) → IfFound (WholeOperand c false) (type_size_judged c.structures at j).found
unfolding type_size_judged
type_size_whole c at j = if_on Anything (WholeOperand c false) j.found (shape_size c.structures at) (λ o _. shape_size_whole c at o) (anything_found j.found)

chosen_whole : (c : Surroundings) → AreSimple c → (frame b : Bool) (j : Judged PlainOperand) → IfFound (WholeOperand c frame) j.found → IfFound (WholeValue c) (if b then any_value c.structures j else as_value c.structures j).found
chosen_whole c simple frame true j w = any_whole c simple frame j w
chosen_whole c simple frame false j w = value_whole c simple frame j w

cast_judged_whole : (c : Surroundings) → AreSimple c → (h : Keep) (frame : Bool) (at : At) (t : Judged Shape) (j : Judged PlainOperand) → IfFound (WholeOperand c frame) j.found → IfFound (WholeOperand c false) (cast_judged h c.structures at t j).found
unfolding cast_judged
cast_judged_whole c simple h frame at t j w =
    if_on (λ x. Anything x.0 × WholeValue c x.1) (WholeOperand c false) (pair h t.found (if is_void_shape t.found then any_value c.structures j else as_value c.structures j).found) _
    (λ (x, y) p. cast_found_whole c at x y p.1) (if_pair Anything (WholeValue c) h t.found _ (anything_found t.found) (chosen_whole c simple frame (is_void_shape t.found) j w))

nested_whole : (c : Surroundings) (h : Keep) (at : At) (j : Judged PlainStatementForm) → IfFound (WholeOperand c false) (nested h at j).found
unfolding nested
nested_whole c h at j = if_where (WholeOperand c false) h true subset.NestedAssignment at _ (λ f. absurd (false≢true (sym f)))

comma_whole : (c : Surroundings) (h : Keep) (at : At) (k : Listed) → IfFound (WholeOperand c false) (comma_judged h at k).found
unfolding comma_judged
comma_whole c h at k = never (WholeOperand c false) h true _ at (record { found = on k.found (λ _. nothing_said); acts = k.acts; reads = k.reads }) refl

-- ## Arguments

-- the values of arguments, which are what is asked
abbrev Met : Surroundings → List Wanted → PlainValues → Type 0
Met c wanted vs = AreWholeValues c vs × AllMeet wanted vs

argument_whole : (c : Surroundings) (w : Wanted) (j : Judged PlainValue) → IfFound (WholeValue c) j.found → IfFound (λ v. IsWholeValue c v × Meets w v) (argument_judged (Some w) j).found
unfolding argument_judged
argument_whole c w j p = if_on (WholeValue c) (λ v. IsWholeValue c v × Meets w v) j.found (wanted_value (Some w)) (wanted_whole c w) p

more_whole : (c : Surroundings) (h : Keep) (wanted : List Wanted) (w : Wanted) (k : Listed) (j : Judged PlainValue) → IfFound (Met c wanted) k.found → IfFound (λ v. IsWholeValue c v × Meets w v) j.found →
    IfFound (Met c (wanted ++ w ∷ [])) (with_argument h k j).found
unfolding with_argument
more_whole c h wanted w k j p q =
    if_on (λ x. Met c wanted x.0 × (IsWholeValue c x.1 × Meets w x.1)) (Met c (wanted ++ w ∷ [])) (pair h k.found j.found) _
    (λ (vs, v) r. (whole_more c vs v r.0.0 r.1.0, meet_more wanted w vs v r.0.1 r.1.1))
    (if_pair (Met c wanted) (λ v. IsWholeValue c v × Meets w v) h k.found j.found p q)

-- the first of a list and one more
record OneMore (wanted : List Wanted) (i : ℕ) : Type 0 where
  next : Wanted
  there : slice_get wanted i ≡ Some next
  taken : take (suc i) wanted ≡ take i wanted ++ next ∷ []

take_none : (wanted : List Wanted) → take 0 wanted ≡ []
take_none [] = refl
take_none (w ∷ ws) = refl

one_more : (wanted : List Wanted) (i : ℕ) → i < length wanted → OneMore wanted i
one_more [] i below = absurd (omega (arith, below))
one_more (w ∷ ws) zero below = record { next = w; there = refl; taken = ap (λ xs. w ∷ xs) (take_none ws) ∙ ap (λ xs. xs ++ w ∷ []) (sym (take_none (w ∷ ws))) }
one_more (w ∷ ws) (suc i) below =
    let r : OneMore ws i = one_more ws i (omega (arith, below)) in
    record { next = r.next; there = r.there; taken = ap (λ xs. w ∷ xs) r.taken }

take_whole : (wanted : List Wanted) (i : ℕ) → i ≡ length wanted → take i wanted ≡ wanted
take_whole [] zero e = refl
take_whole (w ∷ ws) (suc i) e = ap (λ xs. w ∷ xs) (take_whole ws i (omega (arith, e)))
take_whole [] (suc i) e = absurd (omega (arith, e))
take_whole (w ∷ ws) zero e = absurd (omega (arith, e))

-- ## Calls

-- what is found in arguments of which things are asked
abbrev Arguments : Surroundings → Keep → PlainScope → Expressions At → Type 0
Arguments c h s all = (wanted : List Wanted) → length wanted ≡ count_of all → IfFound (Met c wanted) (judge_arguments h s wanted 0 no_arguments all).found

problem_whole : (c : Surroundings) (h : Keep) (o : Option Problem) (j : Judged PlainOperand) → (o ≡ None → IfFound (WholeOperand c false) j.found) → IfFound (WholeOperand c false) (with_problem h o j).found
problem_whole c h None j p = p refl
problem_whole c h (Some r) j p = never (WholeOperand c false) h true r.code r.at j refl

types_asked : (ts : List PlainType) → length (map of_type ts) ≡ length ts
types_asked [] = refl
types_asked (t ∷ ts) = ap suc (types_asked ts)

-- where the number of arguments is right, something is asked of each
asked : (c : Surroundings) (h : Keep) (s : PlainScope) (all : Expressions At) → Arguments c h s all → (wants : List Wanted) → length wants ≡ count_of all →
    IfFound (Met c wants) (judge_arguments h s (wanted_of (Some wants) (count_of all)) 0 no_arguments all).found
asked c h s all arguments wants e = by (nat_eq (length wants) (count_of all)) (eq-eqb _ _ e)
  where
    by : (b : Bool) → b ≡ true → IfFound (Met c wants) (judge_arguments h s (if b then wants else []) 0 no_arguments all).found
    by true k = arguments wants e
    by false k = absurd cc

right_number : (m n : ℕ) (r : Problem) → (if nat_eq m n then None else Some r) ≡ None → m ≡ n
right_number m n r e = eqb-true m n (by (nat_eq m n) e)
  where
    by : (b : Bool) → (if b then None else Some r) ≡ None → b ≡ true
    by true k = refl
    by false k = absurd cc

call_found_whole : (c : Surroundings) (h : Keep) (at name_at : At) (callee : Callee) (count : ℕ) (k : Listed) → (call_problem at name_at callee count ≡ None → IfFound (WholeOperand c false) (on k.found (call_value at name_at callee))) →
    IfFound (WholeOperand c false) (call_judged h at name_at callee count k).found
unfolding call_judged
call_found_whole c h at name_at callee count k p =
    if_where (WholeOperand c false) h k.unordered subset.UnspecifiedOrder at _ (λ _. problem_whole c h (call_problem at name_at callee count) _ p)

-- a call as an operand, where it is no `assert` and no allocation
operand_call_whole : (c : Surroundings) (h : Keep) (at : At) (callee : Callee) (j : Judged PlainOperand) → IfFound (WholeOperand c false) j.found → IfFound (WholeOperand c false) (operand_call h at callee j).found
unfolding operand_call
operand_call_whole c h at callee j p =
    if_where (WholeOperand c false) h (is_assert callee) subset.VoidValue at (refused_where h (is_allocator callee) subset.BadAllocation at j.found)
    (λ _. if_where (WholeOperand c false) h (is_allocator callee) subset.BadAllocation at j.found (λ _. p))

assert_never : (c : Surroundings) (h : Keep) (at : At) (j : Judged PlainOperand) → IfFound (WholeOperand c false) (operand_call h at (of_library Assert) j).found
unfolding operand_call
assert_never c h at j = if_where (WholeOperand c false) h true subset.VoidValue at _ (λ f. absurd (false≢true (sym f)))

malloc_never : (c : Surroundings) (h : Keep) (at : At) (j : Judged PlainOperand) → IfFound (WholeOperand c false) (operand_call h at (of_library Malloc) j).found
unfolding operand_call
malloc_never c h at j = never (WholeOperand c false) h true subset.BadAllocation at j refl

calloc_never : (c : Surroundings) (h : Keep) (at : At) (j : Judged PlainOperand) → IfFound (WholeOperand c false) (operand_call h at (of_library Calloc) j).found
unfolding operand_call
calloc_never c h at j = never (WholeOperand c false) h true subset.BadAllocation at j refl

nothing_called : (c : Surroundings) (at name_at : At) (callee : Callee) (f : Found PlainValues) → ((vs : PlainValues) → IfRuled (WholeOperand c false) (call_value at name_at callee vs)) → IfFound (WholeOperand c false) (on f (call_value at name_at callee))
nothing_called c at name_at callee f p = if_on Anything (WholeOperand c false) f (call_value at name_at callee) (λ vs _. p vs) (anything_found f)

library_call_whole : (c : Surroundings) (h : Keep) (s : PlainScope) (at name_at : At) (f : Library) (all : Expressions At) → IsValued f → Arguments c h s all →
    IfFound (WholeOperand c false) (operand_call h at (of_library f) (call_judged h at name_at (of_library f) (count_of all) (judge_arguments h s (wanted_of (Some (library_wants f)) (count_of all)) 0 no_arguments all))).found
library_call_whole c h s at name_at f all i arguments =
    operand_call_whole c h at (of_library f) _ (call_found_whole c h at name_at (of_library f) (count_of all) _
    (λ e. if_on (Met c (library_wants f)) (WholeOperand c false) _ (call_value at name_at (of_library f)) (λ vs p. library_whole c at name_at f vs i p)
    (asked c h s all arguments (library_wants f) (right_number _ _ _ e))))

callee_whole : (c : Surroundings) (h : Keep) (s : PlainScope) (at name_at : At) (callee : Callee) (all : Expressions At) → IsThere c callee → Arguments c h s all →
    IfFound (WholeOperand c false) (operand_call h at callee (call_judged h at name_at callee (count_of all) (judge_arguments h s (wanted_of (wants_of callee) (count_of all)) 0 no_arguments all))).found
callee_whole c h s at name_at (of_program n parameters result) all there arguments =
    operand_call_whole c h at (of_program n parameters result) _ (call_found_whole c h at name_at (of_program n parameters result) (count_of all) _
    (λ e. if_on (Met c (map of_type parameters)) (WholeOperand c false) _ (call_value at name_at (of_program n parameters result)) (λ vs p. program_whole c at name_at n parameters result vs there p)
    (asked c h s all arguments (map of_type parameters) (types_asked parameters ∙ right_number _ _ _ e))))
callee_whole c h s at name_at (of_library Assert) all there arguments = assert_never c h at _
callee_whole c h s at name_at (of_library Malloc) all there arguments = malloc_never c h at _
callee_whole c h s at name_at (of_library Calloc) all there arguments = calloc_never c h at _
callee_whole c h s at name_at (of_library CAssert) all there arguments = library_call_whole c h s at name_at CAssert all tt arguments
callee_whole c h s at name_at (of_library Getchar) all there arguments = library_call_whole c h s at name_at Getchar all tt arguments
callee_whole c h s at name_at (of_library Putchar) all there arguments = library_call_whole c h s at name_at Putchar all tt arguments
callee_whole c h s at name_at (of_library Free) all there arguments = library_call_whole c h s at name_at Free all tt arguments
callee_whole c h s at name_at not_declared all there arguments =
    operand_call_whole c h at not_declared _ (call_found_whole c h at name_at not_declared (count_of all) _ (λ _. nothing_called c at name_at not_declared _ (λ vs. tt)))
callee_whole c h s at name_at no_function all there arguments =
    operand_call_whole c h at no_function _ (call_found_whole c h at name_at no_function (count_of all) _ (λ _. nothing_called c at name_at no_function _ (λ vs. tt)))
callee_whole c h s at name_at refused_before all there arguments =
    operand_call_whole c h at refused_before _ (call_found_whole c h at name_at refused_before (count_of all) _ (λ _. nothing_called c at name_at refused_before _ (λ vs. tt)))

other_call_whole : (c : Surroundings) (h : Keep) (at : At) (j : Judged PlainOperand) (k : Listed) → IfFound (WholeOperand c false) (other_call h at j k).found
unfolding other_call
other_call_whole c h at j k =
    if_where (WholeOperand c false) h k.unordered subset.UnspecifiedOrder at _
    (λ _. never (WholeOperand c false) h true subset.BadCallee at (record { found = on (pair h j.found k.found) (λ _. nothing_said); acts = true; reads = j.reads || k.reads }) refl)

-- ## Allocations

one_whole : (c : Surroundings) (h : Keep) (site : Site) (t : Judged Shape) (at : At) (element : Judged Shape) → IfFound (WholeOperand c false) (one_element h c.structures site t at element).found
unfolding one_element
one_whole c h site t at element =
    if_on (λ x. Anything x.0 × (is_complete c.structures x.1 ≡ true)) (WholeOperand c false) (pair h t.found (on element.found (sized_shape c.structures at))) _
    (λ (x, y) p. shape_allocation_whole c site Malloc x y None tt p.1 tt)
    (if_pair Anything (λ x. is_complete c.structures x ≡ true) h t.found _ (anything_found t.found)
    (if_on Anything (λ x. is_complete c.structures x ≡ true) element.found (sized_shape c.structures at) (λ x _. sized_shape_whole c at x) (anything_found element.found)))

counted_elements_whole : (c : Surroundings) (h : Keep) (site : Site) (f : Library) (code : SubsetCode) (place : At) (t : Judged Shape) (at : At) (element : Judged Shape) (count : Judged PlainValue) → IsMemory f → IfFound (WholeValue c) count.found →
    IfFound (WholeOperand c false) (counted_elements h c.structures site f (refused code place) t at element count).found
unfolding counted_elements
counted_elements_whole c h site f code place t at element count i w =
    if_on (λ x. Anything x.0 × ((is_complete c.structures x.1.0 ≡ true) × Counts c (Some x.1.1))) (WholeOperand c false)
    (pair h t.found (pair h (on element.found (sized_shape c.structures at)) (on count.found _))) _
    (λ (x, (y, n)) p. shape_allocation_whole c site f x y (Some n) i p.1.0 p.1.1)
    (if_pair Anything (λ x. (is_complete c.structures x.0 ≡ true) × Counts c (Some x.1)) h t.found _ (anything_found t.found)
    (if_pair (λ x. is_complete c.structures x ≡ true) (λ x. Counts c (Some x)) h _ _
    (if_on Anything (λ x. is_complete c.structures x ≡ true) element.found (sized_shape c.structures at) (λ x _. sized_shape_whole c at x) (anything_found element.found))
    (counted_whole c (refused code place) count.found tt w)))

two_whole : (c : Surroundings) (h : Keep) (site : Site) (t : Judged Shape) (a_at : At) (a : Judged Shape) (b_at : At) (b : Judged Shape) → IfFound (WholeOperand c false) (two_sizes h c.structures site t a_at a b_at b).found
unfolding two_sizes
two_whole c h site t a_at a b_at b =
    if_on (λ x. Anything x.0 × (SizedWhole c x.1.0 × SizedWhole c x.1.1)) (WholeOperand c false)
    (pair h t.found (pair h (on a.found (size_shape c.structures a_at)) (on b.found (size_shape c.structures b_at)))) _
    (λ (x, (y, z)) p. either_shape_whole c site x y z p.1.0 p.1.1)
    (if_pair Anything (λ x. SizedWhole c x.0 × SizedWhole c x.1) h t.found _ (anything_found t.found)
    (if_pair (SizedWhole c) (SizedWhole c) h _ _ (sized c a_at a) (sized c b_at b)))
  where
    sized : (c : Surroundings) (at : At) (x : Judged Shape) → IfFound (SizedWhole c) (on x.found (size_shape c.structures at))
    sized c at x = if_on Anything (SizedWhole c) x.found (size_shape c.structures at) (λ y _. size_shape_whole c at y) (anything_found x.found)

other_whole : (c : Surroundings) (h : Keep) (site : Site) (t : Judged Shape) (j : Judged PlainOperand) → IfFound (WholeOperand c false) (other_allocation h site t j).found
unfolding other_allocation
other_whole c h site t j =
    if_on (λ x. Anything x.0 × WholeOperand c false x.1) (WholeOperand c false) (pair h t.found (also h true subset.BadAllocation site.call_at j).found) _ (λ (x, y) p. p.1)
    (if_pair Anything (WholeOperand c false) h t.found _ (anything_found t.found) (never (WholeOperand c false) h true subset.BadAllocation site.call_at j refl))

product_whole : (c : Surroundings) (h : Keep) (site : Site) (t : Judged Shape) (j : Judged PlainOperand) (at : At) (star : Bool) (a_at b_at : At) (x y : Option (Judged Shape)) (v w : Judged PlainValue) →
    IfFound (WholeValue c) v.found → IfFound (WholeValue c) w.found →
    IfFound (WholeOperand c false) (product_judged h c.structures site t j at star (record { at = a_at; size = x; value = v }) (record { at = b_at; size = y; value = w })).found
product_whole c h site t j at false a_at b_at x y v w p q = other_whole c h site t j
product_whole c h site t j at true a_at b_at (Some x) (Some y) v w p q = two_whole c h site t a_at x b_at y
product_whole c h site t j at true a_at b_at None (Some y) v w p q = counted_elements_whole c h site Malloc subset.OperandTypes at t b_at y v tt p
product_whole c h site t j at true a_at b_at (Some x) None v w p q = counted_elements_whole c h site Malloc subset.OperandTypes at t a_at x w tt q
product_whole c h site t j at true a_at b_at None None v w p q = other_whole c h site t j

cleared_whole : (c : Surroundings) (h : Keep) (site : Site) (t : Judged Shape) (j : Judged PlainOperand) (at : At) (v : Judged PlainValue) (size_at : At) (x : Option (Judged Shape)) → IfFound (WholeValue c) v.found →
    IfFound (WholeOperand c false) (cleared_judged h c.structures site t j at v size_at x).found
cleared_whole c h site t j at v size_at (Some x) p = counted_elements_whole c h site Calloc subset.TypesDiffer at t size_at x v tt p
cleared_whole c h site t j at v size_at None p = other_whole c h site t j

-- ## The trees

-- what stands round a scope, where it is known what its numbers name
abbrev Around : PlainScope → (ℕ → Option SeenVariable) → (ℕ → Option SeenObject) → (ℕ → Option SeenFunction) → Surroundings
Around s variables objects functions = record { structures = s.structures; literals = None; variable_at = variables; object_at = objects; function_at = functions }

for_name_whole : (c : Surroundings) (o : Option (Identifier At)) (go : Identifier At → Judged PlainOperand) (other : Judged PlainOperand) → ((x : Identifier At) → IfFound (WholeOperand c false) (go x).found) → IfFound (WholeOperand c false) other.found →
    IfFound (WholeOperand c false) (for_name o go other).found
for_name_whole c None go other p q = q
for_name_whole c (Some x) go other p q = p x

for_memory_whole : (c : Surroundings) (o : Option (Library × At)) (go : Library → At → Judged PlainOperand) (other : Judged PlainOperand) → ((f : Library) (at : At) → IfFound (WholeOperand c false) (go f at).found) → IfFound (WholeOperand c false) other.found →
    IfFound (WholeOperand c false) (for_memory o go other).found
for_memory_whole c None go other p q = q
for_memory_whole c (Some (f, at)) go other p q = p f at

module _ (h : Keep) (s : PlainScope) (variables : ℕ → Option SeenVariable) (objects : ℕ → Option SeenObject) (functions : ℕ → Option SeenFunction)
    (stands : Stands (Around s variables objects functions) s) where
  abbrev Here : Surroundings
  Here = Around s variables objects functions

  simple : AreSimple Here
  simple = record { frames = stands.frames; sensors = stands.sensors }

  as_whole : (e : Expression At) → IfFound (WholeOperand Here (is_frame_name s e)) (judge h s e).found → IfFound (WholeValue Here) (value_in s (judge h s e)).found
  as_whole e w = value_whole Here simple (is_frame_name s e) (judge h s e) w

  -- what is found in arguments from one of them on
  abbrev Each : Expressions At → Type 0
  Each all = (wanted : List Wanted) (i : ℕ) (k : Listed) → length wanted ≡ i + count_of all → IfFound (Met Here (take i wanted)) k.found →
      IfFound (Met Here (take (length wanted) wanted)) (judge_arguments h s wanted i k all).found

  arguments_of : (all : Expressions At) → Each all → Arguments Here h s all
  arguments_of all each wanted e =
      subst (λ ws. IfFound (Met Here ws) (judge_arguments h s wanted 0 no_arguments all).found) (take_whole wanted (length wanted) refl)
      (each wanted 0 no_arguments (e ∙ omega arith) (tt, subst (λ ws. AllMeet ws no_values) (sym (take_none wanted)) tt))

  mutual
    whole : (e : Expression At) → AreAllowed s e → IfFound (WholeOperand Here (is_frame_name s e)) (judge h s e).found
    whole (expression at n (Name x)) a = if_lift (WholeOperand Here (is_frame_name s (expression at n (Name x)))) (name_found at x.place x.name (named s x.name)) (name_whole Here s stands at x.place x.name (named s x.name) refl)
    whole (expression at n (Number text)) a = if_lift (WholeOperand Here false) (number_found at text) (number_whole Here at text)
    whole (expression at n (Character text)) a = if_lift (WholeOperand Here false) (character_found at text) (character_whole Here at text a.0)
    whole (expression at n (Strings texts)) a = if_lift (WholeOperand Here false) (strings_found at texts) (strings_whole Here at texts refl a.0)
    whole (expression at n (Unary word e)) a = by_sign_whole Here simple h at (is_and word) word (may_be_place e) (is_frame_name s e) _ a.0 (whole e a.1)
    whole (expression at n (Step side word e)) a = nested_whole Here h at _
    whole (expression at n (Binary word x y)) a = binary_judged_whole Here h at _ _ _ (as_whole x (whole x a.1.0)) (as_whole y (whole y a.1.1))
    whole (expression at n (Assign word x y)) a = nested_whole Here h at _
    whole (expression at n (Conditional t x y)) a = conditional_judged_whole Here h at _ _ _ (as_whole t (whole t a.1.0)) (as_whole x (whole x a.1.1)) (as_whole y (whole y a.1.2))
    whole (expression at n (Call e all)) a =
        for_name_whole Here (called_name e) _ _
        (λ f. callee_whole Here h s at f.place (callee_of (named s f.name) f.name) all (callee_there Here s stands f.name (named s f.name) refl) (arguments_of all (each all a.1.1)))
        (other_call_whole Here h at _ _)
    whole (expression at n (Index x i)) a = index_judged_whole Here h at _ _ (as_whole x (whole x a.1.0)) (as_whole i (whole i a.1.1))
    whole (expression at n (Member e name)) a = member_judged_whole Here (is_frame_name s e) at name.name _ (whole e a.1)
    whole (expression at n (Arrow e name)) a = arrow_judged_whole Here at name.name _ (as_whole e (whole e a.1))
    whole (expression at n (Cast t e)) a = cast at _ e a.1 (whole e a.1)
    whole (expression at n (SizeofExpression e)) a = size_judged_whole Here at _
    whole (expression at n (SizeofType t)) a = type_size_whole Here at _
    whole (expression at n (Comma all)) a = comma_whole Here h at _

    each : (all : Expressions At) → EachAllowed s all → (wanted : List Wanted) (i : ℕ) (k : Listed) → length wanted ≡ i + count_of all → IfFound (Met Here (take i wanted)) k.found →
        IfFound (Met Here (take (length wanted) wanted)) (judge_arguments h s wanted i k all).found
    each NoExpressions a wanted i k e p = subst (λ n. IfFound (Met Here (take n wanted)) k.found) (omega (arith, e)) p
    each (MoreExpressions x rest) a wanted i k e p =
        let m : OneMore wanted i = one_more wanted i (omega (arith, e)) in
        each rest a.1 wanted (i + 1) _ (e ∙ omega arith)
        (subst (λ ws. IfFound (Met Here ws) (with_argument h k (argument_judged (slice_get wanted i) (value_in s (judge h s x)))).found) (sym (ap (λ n. take n wanted) (add-one i) ∙ m.taken))
        (subst (λ o. IfFound (Met Here (take i wanted ++ m.next ∷ [])) (with_argument h k (argument_judged o (value_in s (judge h s x)))).found) (sym m.there)
        (more_whole Here h (take i wanted) m.next k _ p (argument_whole Here m.next _ (as_whole x (whole x a.0))))))

    cast : (at : At) (t : Judged Shape) (e : Expression At) → AreAllowed s e → IfFound (WholeOperand Here (is_frame_name s e)) (judge h s e).found → IfFound (WholeOperand Here false) (judge_cast h s at t (judge h s e) e).found
    cast at t (expression call_at m (Call e all)) a w =
        for_memory_whole Here (memory_called s (called_name e)) _ _
        (λ f name_at. allocation (record { cast_at = at; call_at = call_at; name_at = name_at }) t f _ all a.1.1)
        (cast_judged_whole Here simple h false at t _ w)
    cast at t e a w = cast_judged_whole Here simple h (is_frame_name s e) at t _ w

    allocation : (site : Site) (t : Judged Shape) (f : Library) (j : Judged PlainOperand) (all : Expressions At) → EachAllowed s all → IfFound (WholeOperand Here false) (judge_allocation h s site t f j all).found
    allocation site t Malloc j (MoreExpressions e NoExpressions) a = bytes site t j e a.0
    allocation site t Calloc j (MoreExpressions e (MoreExpressions size NoExpressions)) a = cleared_whole Here h site t j (place_of e) _ (place_of size) _ (as_whole e (whole e a.0))
    allocation site t f j all a = other_whole Here h site t j

    bytes : (site : Site) (t : Judged Shape) (j : Judged PlainOperand) (e : Expression At) → AreAllowed s e → IfFound (WholeOperand Here false) (judge_bytes h s site t j e).found
    bytes site t j (expression at n (SizeofType element)) a = one_whole Here h site t at _
    bytes site t j (expression at n (Binary word x y)) a = product_whole Here h site t j at (is_star word) (place_of x) (place_of y) _ _ _ _ (as_whole x (whole x a.1.0)) (as_whole y (whole y a.1.1))
    bytes site t j e a = other_whole Here h site t j

  value : (e : Expression At) → AreAllowed s e → IfFound (WholeValue Here) (as_value s.structures (judge h s e)).found
  value e a = as_whole e (whole e a)

-- a value that is found is whole
found_whole : (c : Surroundings) (f : Found PlainValue) (v : PlainValue) → IfFound (WholeValue c) f → f ≡ Ok v → IsWholeValue c v
found_whole c (Ok x) v w e = let same : x ≡ v = cc in subst (IsWholeValue c) same w.0
found_whole c (Err rs) v w e = absurd cc

pub values_whole_in : ValuesAreWhole
values_whole_in c s e v stands allowed found =
    let same : Around s c.variable_at c.object_at c.function_at ≡ c =
    λ i. record { structures = sym stands.structures_are i; literals = sym stands.literals_unknown i; variable_at = c.variable_at; object_at = c.object_at; function_at = c.function_at } in
    let there : Stands (Around s c.variable_at c.object_at c.function_at) s = record {
      structures_are = refl;
      literals_unknown = refl;
      variables = stands.variables;
      objects = stands.objects;
      functions = stands.functions;
      numbers = stands.numbers;
      frames = stands.frames;
      sensors = stands.sensors;
    } in
    subst (λ d. IsWholeValue d v) same
    (found_whole (Around s c.variable_at c.object_at c.function_at) _ v (value every s c.variable_at c.object_at c.function_at there e allowed) found)
