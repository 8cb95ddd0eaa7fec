-- Of the same tree the two ways to keep rows find the same, or the first of all.
use Rattle.std.specs.Prelude.{◌≡◌, ℕ, ◌+◌, Bool, true, false, not, ◌||◌, ◌&&◌, Option, Some, None, Ok, Err, List, [], if◌then◌else◌, refl, slice_get}
use Rattle.std.proofs.Common.{ap, subst}
use Rattle.p10_base.specs.Words.{Text}
use Rattle.p10_base.specs.declared.at.At.{At}
use Rattle.p10_base.specs.declared.codes.SubsetCode.{SubsetCode}
use Rattle.p10_base.specs.declared.codes.SubsetCode.TheVariants as subset
use Rattle.p10_int.specs.declared.operators.BinOp.{BinOp}
use Rattle.p10_syn.specs.declared.sign.Sign.{Sign}
use Rattle.p10_syn.specs.Trees.{Identifier, Qualifier, Expression, expression, Name, Number, Character, Strings, Unary, Step, Binary, Assign, Conditional, Call, Index, Member, Arrow, Cast, SizeofExpression, SizeofType, Comma, Expressions, NoExpressions, MoreExpressions, Absent, Present, TypeName, type_name, Specifiers, NoSpecifiers, MoreSpecifiers, Declarator, Named, Unnamed, Pointer, Parenthesised, Array, Function, Parameters, NoParameters, MoreParameters, parameter}
use Rattle.p10_core.specs.declared.typed.Library.{Library}
use Rattle.p10_core.specs.declared.typed.Library.TheVariants.{Malloc, Calloc}
use Rattle.p10_core.specs.declared.typed.LogicOp.{LogicOp}
use Rattle.p10_core.specs.declared.statements.UpdateKind.TheVariants as kind
use Rattle.p10_core.specs.Types.{PlainType, PlainStructure}
use Rattle.p10_core.specs.Typed.{PlainValue, PlainPlace, PlainStatementForm}
use Rattle.p10_elabx.specs.declared.problem.Problem.{Problem}
use Rattle.p10_elabx.specs.declared.operand.PlaceKind.{PlaceKind}
use Rattle.p10_elabx.specs.declared.allocations.Site.{Site}
use Rattle.p10_elabx.specs.declared.signs.Operation.{Operation}
use Rattle.p10_elabx.specs.declared.signs.Operation.TheVariants.{Values, Truth, Nothing}
use Rattle.p10_elabx.specs.declared.shape.Made.{Made}
use Rattle.p10_elabx.specs.declared.shape.Made.TheVariants as around
use Rattle.p10_elabx.specs.First.{every, only_first, Found, Ruled, nothing_said, refused, Judged, on_part, on_parts, if_evaluated, unordered}
use Rattle.p10_elabx.specs.Laws.{IsKept, Tied}
use Rattle.p10_elabx.specs.Scopes.{PlainScope, unevaluated, evaluating, named}
use Rattle.p10_elabx.specs.Operands.{PlainOperand, operand_value, not_void, reads_object, reads_sensor, any_value, as_value}
use Rattle.p10_elabx.specs.Operators.{binary_value, logic_value, conditional_value, operand_size, indexed, member_found, arrow_found, address_found, target_found, assigned, updated}
use Rattle.p10_elabx.specs.Calls.{Callee, of_library, callee_of, library_wants, Wanted, wanted_value, wants_of, wanted_of, Listed, no_arguments, with_value, argument_judged, with_argument, call_problem, call_value, is_assert, is_allocator, is_counted, with_problem, call_judged, operand_call, other_call, element_count}
use Rattle.p10_elabx.specs.TypeNames.{Shape, a_type, an_open_array, a_function_type, declarator_place, name_place, other_word, also_word, is_of_function, is_of_open_array, lacks_size, is_of_aggregate, pointed, pointer_judged, element, length_found, array_of, array_judged, open_array_judged, given_type, no_parameters, is_alone, parameter_type, with_type, lacks_prototype, made_by, parameter_judged, function_judged, said_of, nothing_specified, is_bad_mixture, specifier_rule, later, specifiers_found, specified_type, specifiers_at, specifiers_judged}
use Rattle.p10_elabx.specs.Literals.{number_found, character_found, strings_found}
use Rattle.p10_elabx.specs.Judging.{name_found, valued, operation_of, assignment_of, step_of, is_and, is_star, unary_found, unary_judged, unary_by_sign, may_be_place, place_of, address_judged, values_judged, truth_judged, binary_judged, conditional_judged, index_judged, member_judged, arrow_judged, size_judged, shape_size, type_size_judged, cast_found, is_void_shape, cast_judged, target_judged, assignment_judged, counts_as_read, counts_as_act, with_read, update_judged, one_at, step_judged, by_sign, nested, comma_judged, sized_shape, shape_allocation, one_element, counted_elements, size_shape, either_shape, two_sizes, other_allocation, product_judged, cleared_judged, count_of, called_name, for_name, memory_called, for_memory, value_in, target_in, judge, judge_arguments, judge_cast, judge_allocation, judge_bytes, judge_size, judge_type, judge_declarator, judge_parameters}
use Rattle.p10_elabx.proofs.Firsts.{kept_lift, kept_on, kept_pair, kept_where, or_same, tied_plainly, tied_on_part, tied_on_parts, tied_also, unordered_same}

-- a test of what is found
same_test : {A B : Type 0} (test : Found A → B) (f g : Found A) → ((rs qs : List Problem) → test (Err rs) ≡ test (Err qs)) → IsKept f g → test f ≡ test g
same_test test (Ok a) (Ok b) h e = ap (λ z. test (Ok z)) e
same_test test (Ok a) (Err rs) h e = absurd e
same_test test (Err rs) (Ok b) h e = absurd e
same_test test (Err rs) (Err qs) h e = h rs qs

tied_any : (ss : List PlainStructure) (j k : Judged PlainOperand) → Tied PlainOperand j k → Tied PlainValue (any_value ss j) (any_value ss k)
unfolding any_value
tied_any ss j k t = record {
  found = kept_on j.found k.found (operand_value ss) t.found;
  acts = or_same j.acts (reads_sensor j.found) k.acts (reads_sensor k.found) t.acts (same_test reads_sensor j.found k.found (λ rs qs. refl) t.found);
  reads = or_same j.reads (reads_object j.found) k.reads (reads_object k.found) t.reads (same_test reads_object j.found k.found (λ rs qs. refl) t.found);
}

pub tied_value : (ss : List PlainStructure) (j k : Judged PlainOperand) → Tied PlainOperand j k → Tied PlainValue (as_value ss j) (as_value ss k)
unfolding as_value
tied_value ss j k t = tied_on_part (any_value ss j) (any_value ss k) not_void (tied_any ss j k t)

tied_unary : (at : At) (s : Sign) (j k : Judged PlainValue) → Tied PlainValue j k → Tied PlainOperand (unary_judged at s j) (unary_judged at s k)
unfolding unary_judged
tied_unary at s j k t = tied_on_part j k (unary_found at s) t

tied_address : (at : At) (may : Bool) (j k : Judged PlainOperand) → Tied PlainOperand j k → Tied PlainOperand (address_judged every at may j) (address_judged only_first at may k)
unfolding address_judged
tied_address at may j k t = tied_also (not may) (not may) subset.NoAddress at _ _ refl (tied_on_part j k (address_found at) t)

tied_values : (ss : List PlainStructure) (at : At) (op : BinOp) (j j' k k' : Judged PlainValue) → Tied PlainValue j j' → Tied PlainValue k k' →
    Tied PlainOperand (values_judged every ss at op j k) (values_judged only_first ss at op j' k')
unfolding values_judged
tied_values ss at op j j' k k' s t =
    tied_also (unordered j k) (unordered j' k') subset.UnspecifiedOrder at _ _ (unordered_same j j' k k' s t) (tied_on_parts j j' k k' (λ x y. valued (binary_value ss at op x y)) s t)

tied_truth : (at : At) (op : LogicOp) (j j' k k' : Judged PlainValue) → Tied PlainValue j j' → Tied PlainValue k k' →
    Tied PlainOperand (truth_judged every at op j k) (truth_judged only_first at op j' k')
unfolding truth_judged
tied_truth at op j j' k k' s t = tied_on_parts j j' k k' (λ x y. valued (logic_value at op x y)) s t

tied_binary : (ss : List PlainStructure) (at : At) (o : Operation) (j j' k k' : Judged PlainValue) → Tied PlainValue j j' → Tied PlainValue k k' →
    Tied PlainOperand (binary_judged every ss at o j k) (binary_judged only_first ss at o j' k')
tied_binary ss at (Values op) j j' k k' s t = tied_values ss at op j j' k k' s t
tied_binary ss at (Truth op) j j' k k' s t = tied_truth at op j j' k k' s t
tied_binary ss at Nothing j j' k k' s t = tied_plainly nothing_said

tied_conditional : (at : At) (i i' j j' k k' : Judged PlainValue) → Tied PlainValue i i' → Tied PlainValue j j' → Tied PlainValue k k' →
    Tied PlainOperand (conditional_judged every at i j k) (conditional_judged only_first at i' j' k')
unfolding conditional_judged
tied_conditional at i i' j j' k k' r s t = record {
  found = kept_on _ _ (λ (v, (x, y)). valued (conditional_value at v x y)) (kept_pair i.found i'.found _ _ r.found (kept_pair j.found j'.found k.found k'.found s.found t.found));
  acts = or_same i.acts (j.acts || k.acts) i'.acts (j'.acts || k'.acts) r.acts (or_same j.acts k.acts j'.acts k'.acts s.acts t.acts);
  reads = or_same i.reads (j.reads || k.reads) i'.reads (j'.reads || k'.reads) r.reads (or_same j.reads k.reads j'.reads k'.reads s.reads t.reads);
}

tied_index : (ss : List PlainStructure) (at : At) (j j' k k' : Judged PlainValue) → Tied PlainValue j j' → Tied PlainValue k k' →
    Tied PlainOperand (index_judged every ss at j k) (index_judged only_first ss at j' k')
unfolding index_judged
tied_index ss at j j' k k' s t =
    tied_also (unordered j k) (unordered j' k') subset.UnspecifiedOrder at _ _ (unordered_same j j' k k' s t) (tied_on_parts j j' k k' (indexed ss at) s t)

tied_member : (ss : List PlainStructure) (at : At) (name : Text) (j k : Judged PlainOperand) → Tied PlainOperand j k → Tied PlainOperand (member_judged ss at name j) (member_judged ss at name k)
unfolding member_judged
tied_member ss at name j k t = tied_on_part j k (member_found ss at name) t

tied_arrow : (ss : List PlainStructure) (at : At) (name : Text) (j k : Judged PlainValue) → Tied PlainValue j k → Tied PlainOperand (arrow_judged ss at name j) (arrow_judged ss at name k)
unfolding arrow_judged
tied_arrow ss at name j k t = tied_on_part j k (arrow_found ss at name) t

tied_size : (ss : List PlainStructure) (at : At) (j k : Judged PlainOperand) → Tied PlainOperand j k → Tied PlainOperand (size_judged ss at j) (size_judged ss at k)
unfolding size_judged
tied_size ss at j k t = record { found = kept_on j.found k.found (operand_size ss at) t.found; acts = refl; reads = refl }

tied_type_size : (ss : List PlainStructure) (at : At) (j k : Judged Shape) → Tied Shape j k → Tied PlainOperand (type_size_judged ss at j) (type_size_judged ss at k)
unfolding type_size_judged
tied_type_size ss at j k t = record { found = kept_on j.found k.found (shape_size ss at) t.found; acts = refl; reads = refl }

chosen_value : (b : Bool) (ss : List PlainStructure) (j k : Judged PlainOperand) → Tied PlainOperand j k → Tied PlainValue (if b then any_value ss j else as_value ss j) (if b then any_value ss k else as_value ss k)
chosen_value true ss j k t = tied_any ss j k t
chosen_value false ss j k t = tied_value ss j k t

tied_cast : (ss : List PlainStructure) (at : At) (i i' : Judged Shape) (j j' : Judged PlainOperand) → Tied Shape i i' → Tied PlainOperand j j' →
    Tied PlainOperand (cast_judged every ss at i j) (cast_judged only_first ss at i' j')
unfolding cast_judged
tied_cast ss at i i' j j' s t =
    let same : is_void_shape i.found ≡ is_void_shape i'.found = same_test is_void_shape i.found i'.found (λ rs qs. refl) s.found in
    subst (λ b. Tied PlainOperand (cast_judged every ss at i j) (on_parts only_first i' (if b then any_value ss j' else as_value ss j') (cast_found at))) same
    (tied_on_parts i i' _ _ (cast_found at) s (chosen_value (is_void_shape i.found) ss j j' t))

tied_target : (ss : List PlainStructure) (at : At) (may : Bool) (j k : Judged PlainOperand) → Tied PlainOperand j k → Tied (PlaceKind × PlainPlace) (target_judged every ss at may j) (target_judged only_first ss at may k)
unfolding target_judged
tied_target ss at may j k t = tied_also (not may) (not may) subset.FixedTarget at _ _ refl (tied_on_part j k (target_found ss at) t)

tied_assignment : (at : At) (j j' : Judged (PlaceKind × PlainPlace)) (k k' : Judged PlainValue) → Tied (PlaceKind × PlainPlace) j j' → Tied PlainValue k k' →
    Tied PlainStatementForm (assignment_judged every at j k) (assignment_judged only_first at j' k')
unfolding assignment_judged
tied_assignment at j j' k k' s t =
    tied_also (unordered j k) (unordered j' k') subset.UnspecifiedOrder at _ _ (unordered_same j j' k k' s t) (tied_on_parts j j' k k' (λ (kind, p) v. assigned at p v) s t)

tied_read : (j k : Judged (PlaceKind × PlainPlace)) → Tied (PlaceKind × PlainPlace) j k → Tied (PlaceKind × PlainPlace) (with_read j) (with_read k)
unfolding with_read
tied_read j k t = record {
  found = t.found;
  acts = or_same j.acts (counts_as_act j.found) k.acts (counts_as_act k.found) t.acts (same_test counts_as_act j.found k.found (λ rs qs. refl) t.found);
  reads = or_same j.reads (counts_as_read j.found) k.reads (counts_as_read k.found) t.reads (same_test counts_as_read j.found k.found (λ rs qs. refl) t.found);
}

tied_update : (ss : List PlainStructure) (at : At) (op : BinOp) (j j' : Judged (PlaceKind × PlainPlace)) (k k' : Judged PlainValue) → Tied (PlaceKind × PlainPlace) j j' → Tied PlainValue k k' →
    Tied PlainStatementForm (update_judged every ss at op j k) (update_judged only_first ss at op j' k')
unfolding update_judged
tied_update ss at op j j' k k' s t =
    let r : Tied (PlaceKind × PlainPlace) (with_read j) (with_read j') = tied_read j j' s in
    tied_also (unordered (with_read j) k) (unordered (with_read j') k') subset.UnspecifiedOrder at _ _ (unordered_same (with_read j) (with_read j') k k' r t)
    (tied_on_parts (with_read j) (with_read j') k k' (λ (place_kind, p) v. updated ss at kind.Compound op p v) r t)

tied_step : (ss : List PlainStructure) (at : At) (op : BinOp) (j k : Judged (PlaceKind × PlainPlace)) → Tied (PlaceKind × PlainPlace) j k → Tied PlainStatementForm (step_judged ss at op j) (step_judged ss at op k)
unfolding step_judged
tied_step ss at op j k t = tied_on_part (with_read j) (with_read k) (λ (place_kind, p). updated ss at kind.Step op p (one_at at)) (tied_read j k t)

tied_by_sign : (ss : List PlainStructure) (at : At) (o : Option BinOp) (j j' : Judged (PlaceKind × PlainPlace)) (k k' : Judged PlainValue) → Tied (PlaceKind × PlainPlace) j j' → Tied PlainValue k k' →
    Tied PlainStatementForm (by_sign every ss at o j k) (by_sign only_first ss at o j' k')
tied_by_sign ss at None j j' k k' s t = tied_assignment at j j' k k' s t
tied_by_sign ss at (Some op) j j' k k' s t = tied_update ss at op j j' k k' s t

tied_nested : (at : At) (j k : Judged PlainStatementForm) → Tied PlainStatementForm j k → Tied PlainOperand (nested every at j) (nested only_first at k)
unfolding nested
tied_nested at j k t = tied_also true true subset.NestedAssignment at _ _ refl (tied_on_part j k (λ _. nothing_said) t)

-- ## Calls

record TiedList (j k : Listed) : Type 0 where
  found : IsKept j.found k.found
  acts : j.acts ≡ k.acts
  reads : j.reads ≡ k.reads
  unordered_is : j.unordered ≡ k.unordered

tied_argument : (wanted : Option Wanted) (j k : Judged PlainValue) → Tied PlainValue j k → Tied PlainValue (argument_judged wanted j) (argument_judged wanted k)
unfolding argument_judged
tied_argument wanted j k t = tied_on_part j k (wanted_value wanted) t

tied_more : (j j' : Listed) (k k' : Judged PlainValue) → TiedList j j' → Tied PlainValue k k' → TiedList (with_argument every j k) (with_argument only_first j' k')
unfolding with_argument
tied_more j j' k k' s t = record {
  found = kept_on _ _ (λ (vs, v). Ok (with_value vs v)) (kept_pair j.found j'.found k.found k'.found s.found t.found);
  acts = or_same j.acts k.acts j'.acts k'.acts s.acts t.acts;
  reads = or_same j.reads k.reads j'.reads k'.reads s.reads t.reads;
  unordered_is = λ i. s.unordered_is i || ((s.acts i && (t.acts i || t.reads i)) || ((s.acts i || s.reads i) && t.acts i));
}

tied_problem : {A : Type 0} (o : Option Problem) (j k : Judged A) → Tied A j k → Tied A (with_problem every o j) (with_problem only_first o k)
tied_problem None j k t = t
tied_problem (Some r) j k t = tied_also true true r.code r.at j k refl t

tied_call : (at name_at : At) (callee : Callee) (n : ℕ) (j k : Listed) → TiedList j k → Tied PlainOperand (call_judged every at name_at callee n j) (call_judged only_first at name_at callee n k)
unfolding call_judged
tied_call at name_at callee n j k t =
    tied_also j.unordered k.unordered subset.UnspecifiedOrder at _ _ t.unordered_is
    (tied_problem (call_problem at name_at callee n) _ _
    (record { found = kept_on j.found k.found (call_value at name_at callee) t.found; acts = or_same (is_counted callee) j.acts (is_counted callee) k.acts refl t.acts; reads = t.reads }))

tied_operand_call : (at : At) (callee : Callee) (j k : Judged PlainOperand) → Tied PlainOperand j k → Tied PlainOperand (operand_call every at callee j) (operand_call only_first at callee k)
unfolding operand_call
tied_operand_call at callee j k t =
    tied_also (is_assert callee) (is_assert callee) subset.VoidValue at _ _ refl (tied_also (is_allocator callee) (is_allocator callee) subset.BadAllocation at j k refl t)

tied_other_call : (at : At) (j j' : Judged PlainOperand) (k k' : Listed) → Tied PlainOperand j j' → TiedList k k' → Tied PlainOperand (other_call every at j k) (other_call only_first at j' k')
unfolding other_call
tied_other_call at j j' k k' s t =
    tied_also k.unordered k'.unordered subset.UnspecifiedOrder at _ _ t.unordered_is (tied_also true true subset.BadCallee at _ _ refl
    (record { found = kept_on _ _ (λ _. nothing_said) (kept_pair j.found j'.found k.found k'.found s.found t.found); acts = refl; reads = or_same j.reads k.reads j'.reads k'.reads s.reads t.reads }))

tied_comma : (at : At) (j k : Listed) → TiedList j k → Tied PlainOperand (comma_judged every at j) (comma_judged only_first at k)
unfolding comma_judged
tied_comma at j k t = tied_also true true subset.CommaOperator at _ _ refl (record { found = kept_on j.found k.found (λ _. nothing_said) t.found; acts = t.acts; reads = t.reads })

-- ## Types

kept_specifiers : (s : PlainScope) (all : Specifiers At) (f g : Found (Option PlainType)) → IsKept f g → IsKept (specifiers_found every s f all) (specifiers_found only_first s g all)
kept_specifiers s NoSpecifiers f g e = e
kept_specifiers s (MoreSpecifiers one rest) f g e =
    kept_specifiers s rest _ _ (kept_on _ _ (λ (a, b). Ok (later a b)) (kept_pair f g _ _ e (kept_lift (specifier_rule s one))))

tied_specifiers : (s : PlainScope) (at : At) (all : Specifiers At) → Tied Shape (specifiers_judged every s at all) (specifiers_judged only_first s at all)
unfolding specifiers_judged
tied_specifiers s at all = record {
  found = kept_where (is_bad_mixture (said_of all nothing_specified)) subset.BadSpecifier (specifiers_at at all) _ _
      (kept_on _ _ (λ t. Ok (a_type t)) (kept_on _ _ (specified_type (said_of all nothing_specified)) (kept_specifiers s all (Ok None) (Ok None) refl)));
  acts = refl;
  reads = refl;
}

tied_word : {A : Type 0} (o : Option At) (code : SubsetCode) (j k : Judged A) → Tied A j k → Tied A (also_word every o code j) (also_word only_first o code k)
tied_word None code j k t = t
tied_word (Some at) code j k t = tied_also true true code at j k refl t

tied_pointer : (at name_at : At) (qualifiers : List (Qualifier At)) (made : Made) (j k : Judged Shape) → Tied Shape j k →
    Tied Shape (pointer_judged every at name_at qualifiers made j) (pointer_judged only_first at name_at qualifiers made k)
unfolding pointer_judged
tied_pointer at name_at qualifiers made j k t =
    tied_also (is_of_function made) (is_of_function made) subset.BadPointer at _ _ refl
    (tied_also (is_of_open_array made) (is_of_open_array made) subset.IncompleteType name_at _ _ refl
    (tied_word (other_word qualifiers) subset.BadSpecifier _ _ (tied_on_part j k (pointed at name_at qualifiers) t)))

tied_array : (ss : List PlainStructure) (name_at : At) (made : Made) (i i' : Judged PlainValue) (j j' : Judged Shape) → Tied PlainValue i i' → Tied Shape j j' →
    Tied Shape (array_judged every ss name_at made i j) (array_judged only_first ss name_at made i' j')
unfolding array_judged
tied_array ss name_at made i i' j j' s t =
    tied_also (lacks_size made) (lacks_size made) subset.IncompleteType name_at _ _ refl
    (record {
      found = kept_on _ _ (λ (t, n). array_of ss t n)
          (kept_pair _ _ _ _ (kept_on j.found j'.found (element ss name_at) t.found) (kept_on i.found i'.found length_found s.found));
      acts = refl;
      reads = refl;
    })

tied_open_array : (ss : List PlainStructure) (name_at : At) (made : Made) (j k : Judged Shape) → Tied Shape j k →
    Tied Shape (open_array_judged every ss name_at made j) (open_array_judged only_first ss name_at made k)
unfolding open_array_judged
tied_open_array ss name_at made j k t =
    tied_also (lacks_size made) (lacks_size made) subset.IncompleteType name_at _ _ refl
    (tied_on_part (on_part j (element ss name_at)) (on_part k (element ss name_at)) (λ t. Ok (an_open_array t)) (tied_on_part j k (element ss name_at) t))

tied_function : (at name_at parentheses : At) (lacking : Bool) (made : Made) (f g : Found (List PlainType)) (j k : Judged Shape) → IsKept f g → Tied Shape j k →
    Tied Shape (function_judged every at name_at parentheses lacking made f j) (function_judged only_first at name_at parentheses lacking made g k)
unfolding function_judged
tied_function at name_at parentheses lacking made f g j k e t =
    tied_also lacking lacking subset.NoPrototype parentheses _ _ refl
    (tied_also (is_of_aggregate made) (is_of_aggregate made) subset.IncompleteType name_at _ _ refl
    (record {
      found = kept_on _ _ (λ (ts, t). Ok (a_function_type ts t)) (kept_pair f g _ _ e (kept_on j.found k.found (given_type at name_at) t.found));
      acts = refl;
      reads = refl;
    }))

kept_parameter : (alone : Bool) (at : At) (d : Declarator At) (j k : Judged Shape) → Tied Shape j k → IsKept (parameter_judged every alone at d j) (parameter_judged only_first alone at d k)
unfolding parameter_judged
kept_parameter alone at d j k t =
    kept_where (is_of_function (made_by around.Nothing d)) subset.BadPointer (declarator_place d) _ _
    (kept_on j.found k.found (parameter_type alone at (name_place at d) (declarator_place d)) t.found)

-- ## Allocations

tied_one : (ss : List PlainStructure) (site : Site) (i i' : Judged Shape) (at : At) (j j' : Judged Shape) → Tied Shape i i' → Tied Shape j j' →
    Tied PlainOperand (one_element every ss site i at j) (one_element only_first ss site i' at j')
unfolding one_element
tied_one ss site i i' at j j' s t = record {
  found = kept_on _ _ (λ (s, e). shape_allocation site Malloc s e None) (kept_pair i.found i'.found _ _ s.found (kept_on j.found j'.found (sized_shape ss at) t.found));
  acts = refl;
  reads = refl;
}

tied_counted : (ss : List PlainStructure) (site : Site) (f : Library) (otherwise : Ruled PlainValue) (i i' : Judged Shape) (at : At) (j j' : Judged Shape) (k k' : Judged PlainValue) → Tied Shape i i' → Tied Shape j j' → Tied PlainValue k k' →
    Tied PlainOperand (counted_elements every ss site f otherwise i at j k) (counted_elements only_first ss site f otherwise i' at j' k')
unfolding counted_elements
tied_counted ss site f otherwise i i' at j j' k k' r s t = record {
  found = kept_on _ _ (λ (s, (e, n)). shape_allocation site f s e (Some n))
      (kept_pair i.found i'.found _ _ r.found (kept_pair _ _ _ _ (kept_on j.found j'.found (sized_shape ss at) s.found) (kept_on k.found k'.found (element_count otherwise) t.found)));
  acts = refl;
  reads = t.reads;
}

tied_two : (ss : List PlainStructure) (site : Site) (i i' : Judged Shape) (a : At) (j j' : Judged Shape) (b : At) (k k' : Judged Shape) → Tied Shape i i' → Tied Shape j j' → Tied Shape k k' →
    Tied PlainOperand (two_sizes every ss site i a j b k) (two_sizes only_first ss site i' a j' b k')
unfolding two_sizes
tied_two ss site i i' a j j' b k k' r s t = record {
  found = kept_on _ _ (λ (s, (x, y)). either_shape site s x y)
      (kept_pair i.found i'.found _ _ r.found (kept_pair _ _ _ _ (kept_on j.found j'.found (size_shape ss a) s.found) (kept_on k.found k'.found (size_shape ss b) t.found)));
  acts = refl;
  reads = refl;
}

tied_other : (site : Site) (i i' : Judged Shape) (j j' : Judged PlainOperand) → Tied Shape i i' → Tied PlainOperand j j' → Tied PlainOperand (other_allocation every site i j) (other_allocation only_first site i' j')
unfolding other_allocation
tied_other site i i' j j' s t = tied_on_parts i i' _ _ (λ _ o. Ok o) s (tied_also true true subset.BadAllocation site.call_at j j' refl t)

-- the same type of a `sizeof`, or none
abbrev TiedSize : Option (Judged Shape) → Option (Judged Shape) → Type 0
TiedSize None None = Unit {0}
TiedSize (Some j) (Some k) = Tied Shape j k
TiedSize None (Some k) = ⊥
TiedSize (Some j) None = ⊥

tied_product : (ss : List PlainStructure) (site : Site) (t t' : Judged Shape) (j j' : Judged PlainOperand) (at : At) (star : Bool)
    (a_at b_at : At) (x x' y y' : Option (Judged Shape)) (v v' w w' : Judged PlainValue) →
    Tied Shape t t' → Tied PlainOperand j j' → TiedSize x x' → TiedSize y y' → Tied PlainValue v v' → Tied PlainValue w w' →
    Tied PlainOperand (product_judged every ss site t j at star (record { at = a_at; size = x; value = v }) (record { at = b_at; size = y; value = w }))
    (product_judged only_first ss site t' j' at star (record { at = a_at; size = x'; value = v' }) (record { at = b_at; size = y'; value = w' }))
tied_product ss site t t' j j' at false a_at b_at x x' y y' v v' w w' p q d e f g = tied_other site t t' j j' p q
tied_product ss site t t' j j' at true a_at b_at (Some x) (Some x') (Some y) (Some y') v v' w w' p q d e f g = tied_two ss site t t' a_at x x' b_at y y' p d e
tied_product ss site t t' j j' at true a_at b_at None None (Some y) (Some y') v v' w w' p q d e f g =
    tied_counted ss site Malloc (refused subset.OperandTypes at) t t' b_at y y' v v' p e f
tied_product ss site t t' j j' at true a_at b_at (Some x) (Some x') None None v v' w w' p q d e f g =
    tied_counted ss site Malloc (refused subset.OperandTypes at) t t' a_at x x' w w' p d g
tied_product ss site t t' j j' at true a_at b_at None None None None v v' w w' p q d e f g = tied_other site t t' j j' p q
tied_product ss site t t' j j' at true a_at b_at None (Some x') y y' v v' w w' p q d e f g = absurd d
tied_product ss site t t' j j' at true a_at b_at (Some x) None y y' v v' w w' p q d e f g = absurd d
tied_product ss site t t' j j' at true a_at b_at x x' None (Some y') v v' w w' p q d e f g = absurd e
tied_product ss site t t' j j' at true a_at b_at x x' (Some y) None v v' w w' p q d e f g = absurd e

tied_cleared : (ss : List PlainStructure) (site : Site) (t t' : Judged Shape) (j j' : Judged PlainOperand) (at : At) (v v' : Judged PlainValue) (size_at : At) (x x' : Option (Judged Shape)) →
    Tied Shape t t' → Tied PlainOperand j j' → Tied PlainValue v v' → TiedSize x x' →
    Tied PlainOperand (cleared_judged every ss site t j at v size_at x) (cleared_judged only_first ss site t' j' at v' size_at x')
tied_cleared ss site t t' j j' at v v' size_at None None p q f d = tied_other site t t' j j' p q
tied_cleared ss site t t' j j' at v v' size_at (Some x) (Some x') p q f d = tied_counted ss site Calloc (refused subset.TypesDiffer at) t t' size_at x x' v v' p d f
tied_cleared ss site t t' j j' at v v' size_at None (Some x') p q f d = absurd d
tied_cleared ss site t t' j j' at v v' size_at (Some x) None p q f d = absurd d

tied_memory : {A : Type 0} (o : Option (Library × At)) (go go' : Library → At → Judged A) (x x' : Judged A) → ((f : Library) (at : At) → Tied A (go f at) (go' f at)) → Tied A x x' →
    Tied A (for_memory o go x) (for_memory o go' x')
tied_memory None go go' x x' h t = t
tied_memory (Some (f, at)) go go' x x' h t = h f at

tied_name : {A : Type 0} (o : Option (Identifier At)) (go go' : Identifier At → Judged A) (x x' : Judged A) → ((f : Identifier At) → Tied A (go f) (go' f)) → Tied A x x' →
    Tied A (for_name o go x) (for_name o go' x')
tied_name None go go' x x' h t = t
tied_name (Some f) go go' x x' h t = h f

tied_by_unary : (ss : List PlainStructure) (at : At) (b : Bool) (word : Sign) (may : Bool) (j k : Judged PlainOperand) → Tied PlainOperand j k →
    Tied PlainOperand (unary_by_sign every ss at b word may j) (unary_by_sign only_first ss at b word may k)
tied_by_unary ss at true word may j k t = tied_address at may j k t
tied_by_unary ss at false word may j k t = tied_unary at word _ _ (tied_value ss j k t)

pub tied_if : {A : Type 0} (evaluated : Bool) (j k : Judged A) → Tied A j k → Tied A (if_evaluated evaluated j) (if_evaluated evaluated k)
tied_if evaluated j k t = record { found = t.found; acts = ap (λ x. evaluated && x) t.acts; reads = ap (λ x. evaluated && x) t.reads }

tied_value_in : (s : PlainScope) (j k : Judged PlainOperand) → Tied PlainOperand j k → Tied PlainValue (value_in s j) (value_in s k)
tied_value_in s j k t = tied_if s.evaluated _ _ (tied_value s.structures j k t)

tied_target_in : (s : PlainScope) (e : Expression At) (j k : Judged PlainOperand) → Tied PlainOperand j k → Tied (PlaceKind × PlainPlace) (target_in every s e j) (target_in only_first s e k)
tied_target_in s e j k t = tied_if s.evaluated _ _ (tied_target s.structures (place_of e) (may_be_place e) j k t)

-- ## The trees

nothing_tied : TiedList no_arguments no_arguments
nothing_tied = record { found = refl; acts = refl; reads = refl; unordered_is = refl }

mutual
  pub tied : (s : PlainScope) (e : Expression At) → Tied PlainOperand (judge every s e) (judge only_first s e)
  tied s (expression at n (Name x)) = tied_plainly (name_found at x.place x.name (named s x.name))
  tied s (expression at n (Number text)) = tied_plainly (number_found at text)
  tied s (expression at n (Character text)) = tied_plainly (character_found at text)
  tied s (expression at n (Strings texts)) = tied_plainly (strings_found at texts)
  tied s (expression at n (Unary word e)) = tied_by_unary s.structures at (is_and word) word (may_be_place e) _ _ (tied s e)
  tied s (expression at n (Step side word e)) =
      tied_nested at _ _ (tied_step s.structures at (step_of word) _ _ (tied_target_in s e _ _ (tied s e)))
  tied s (expression at n (Binary word a b)) =
      tied_binary s.structures at (operation_of word) _ _ _ _ (tied_value_in s _ _ (tied s a)) (tied_value_in s _ _ (tied s b))
  tied s (expression at n (Assign word a b)) =
      tied_nested at _ _ (tied_by_sign s.structures at (assignment_of word) _ _ _ _ (tied_target_in s a _ _ (tied s a)) (tied_value_in s _ _ (tied s b)))
  tied s (expression at n (Conditional c a b)) =
      tied_conditional at _ _ _ _ _ _ (tied_value_in s _ _ (tied s c)) (tied_value_in s _ _ (tied s a)) (tied_value_in s _ _ (tied s b))
  tied s (expression at n (Call e all)) =
      tied_name (called_name e) _ _ _ _
      (λ f. let callee : Callee = callee_of (named s f.name) f.name in
      tied_operand_call at callee _ _ (tied_call at f.place callee (count_of all) _ _ (tied_arguments s (wanted_of (wants_of callee) (count_of all)) 0 no_arguments no_arguments all nothing_tied)))
      (tied_other_call at _ _ _ _ (tied s e) (tied_arguments s [] 0 no_arguments no_arguments all nothing_tied))
  tied s (expression at n (Index a i)) = tied_index s.structures at _ _ _ _ (tied_value_in s _ _ (tied s a)) (tied_value_in s _ _ (tied s i))
  tied s (expression at n (Member e name)) = tied_member s.structures at name.name _ _ (tied s e)
  tied s (expression at n (Arrow e name)) = tied_arrow s.structures at name.name _ _ (tied_value_in s _ _ (tied s e))
  tied s (expression at n (Cast t e)) = tied_cast_of s at _ _ _ _ e (tied_type (evaluating s) t) (tied s e)
  tied s (expression at n (SizeofExpression e)) = tied_size s.structures at _ _ (tied (unevaluated s) e)
  tied s (expression at n (SizeofType t)) = tied_type_size s.structures at _ _ (tied_type (evaluating s) t)
  tied s (expression at n (Comma all)) = tied_comma at _ _ (tied_arguments s [] 0 no_arguments no_arguments all nothing_tied)

  tied_arguments : (s : PlainScope) (wanted : List Wanted) (i : ℕ) (j k : Listed) (all : Expressions At) → TiedList j k → TiedList (judge_arguments every s wanted i j all) (judge_arguments only_first s wanted i k all)
  tied_arguments s wanted i j k NoExpressions t = t
  tied_arguments s wanted i j k (MoreExpressions e rest) t =
      tied_arguments s wanted (i + 1) _ _ rest (tied_more j k _ _ t (tied_argument (slice_get wanted i) _ _ (tied_value_in s _ _ (tied s e))))

  tied_cast_of : (s : PlainScope) (at : At) (t t' : Judged Shape) (j j' : Judged PlainOperand) (e : Expression At) → Tied Shape t t' → Tied PlainOperand j j' →
      Tied PlainOperand (judge_cast every s at t j e) (judge_cast only_first s at t' j' e)
  tied_cast_of s at t t' j j' (expression call_at m (Call e all)) p q =
      tied_memory (memory_called s (called_name e)) _ _ _ _
      (λ f name_at. tied_allocation s (record { cast_at = at; call_at = call_at; name_at = name_at }) _ _ f _ _ all p
      (tied_call call_at name_at (of_library f) (count_of all) _ _ (tied_arguments s (wanted_of (Some (library_wants f)) (count_of all)) 0 no_arguments no_arguments all nothing_tied)))
      (tied_cast s.structures at _ _ _ _ p q)
  tied_cast_of s at t t' j j' e p q = tied_cast s.structures at _ _ _ _ p q

  tied_allocation : (s : PlainScope) (site : Site) (t t' : Judged Shape) (f : Library) (j j' : Judged PlainOperand) (all : Expressions At) → Tied Shape t t' → Tied PlainOperand j j' →
      Tied PlainOperand (judge_allocation every s site t f j all) (judge_allocation only_first s site t' f j' all)
  tied_allocation s site t t' Malloc j j' (MoreExpressions e NoExpressions) p q = tied_bytes s site t t' j j' e p q
  tied_allocation s site t t' Calloc j j' (MoreExpressions e (MoreExpressions size NoExpressions)) p q =
      tied_cleared s.structures site t t' j j' (place_of e) _ _ (place_of size) _ _ p q (tied_value_in s _ _ (tied s e)) (tied_size_of (evaluating s) size)
  tied_allocation s site t t' f j j' all p q = tied_other site t t' j j' p q

  tied_bytes : (s : PlainScope) (site : Site) (t t' : Judged Shape) (j j' : Judged PlainOperand) (e : Expression At) → Tied Shape t t' → Tied PlainOperand j j' →
      Tied PlainOperand (judge_bytes every s site t j e) (judge_bytes only_first s site t' j' e)
  tied_bytes s site t t' j j' (expression at n (SizeofType element)) p q = tied_one s.structures site t t' at _ _ p (tied_type (evaluating s) element)
  tied_bytes s site t t' j j' (expression at n (Binary word a b)) p q =
      tied_product s.structures site t t' j j' at (is_star word) (place_of a) (place_of b) _ _ _ _ _ _ _ _ p q (tied_size_of (evaluating s) a) (tied_size_of (evaluating s) b)
      (tied_value_in s _ _ (tied s a)) (tied_value_in s _ _ (tied s b))
  tied_bytes s site t t' j j' e p q = tied_other site t t' j j' p q

  tied_size_of : (s : PlainScope) (e : Expression At) → TiedSize (judge_size every s e) (judge_size only_first s e)
  tied_size_of s (expression at n (SizeofType t)) = tied_type s t
  tied_size_of s e = tt

  tied_type : (s : PlainScope) (t : TypeName At) → Tied Shape (judge_type every s t) (judge_type only_first s t)
  tied_type s (type_name at specifiers d) = tied_declarator s (declarator_place d) around.Nothing _ _ d (tied_specifiers s at specifiers)

  tied_declarator : (s : PlainScope) (name_at : At) (made : Made) (j k : Judged Shape) (d : Declarator At) → Tied Shape j k →
      Tied Shape (judge_declarator every s name_at made j d) (judge_declarator only_first s name_at made k d)
  tied_declarator s name_at made j k (Named name) t = t
  tied_declarator s name_at made j k (Unnamed at) t = t
  tied_declarator s name_at made j k (Pointer at qualifiers d) t = tied_declarator s name_at around.Pointer _ _ d (tied_pointer at name_at qualifiers made j k t)
  tied_declarator s name_at made j k (Parenthesised at d) t = tied_declarator s name_at made j k d t
  tied_declarator s name_at made j k (Array at d brackets Absent) t = tied_declarator s name_at around.OpenArray _ _ d (tied_open_array s.structures name_at made j k t)
  tied_declarator s name_at made j k (Array at d brackets (Present e)) t =
      tied_declarator s name_at around.Array _ _ d (tied_array s.structures name_at made _ _ j k (tied_value s.structures _ _ (tied s e)) t)
  tied_declarator s name_at made j k (Function at d parentheses all dots) t =
      tied_declarator s name_at around.Function _ _ d
      (tied_function at name_at parentheses (lacks_prototype all dots) made _ _ j k (kept_parameters s (is_alone all) no_parameters no_parameters all refl) t)

  kept_parameters : (s : PlainScope) (alone : Bool) (f g : Found (List PlainType)) (all : Parameters At) → IsKept f g → IsKept (judge_parameters every s alone f all) (judge_parameters only_first s alone g all)
  kept_parameters s alone f g NoParameters e = e
  kept_parameters s alone f g (MoreParameters (parameter at specifiers d) rest) e =
      kept_parameters s alone _ _ rest
      (kept_on _ _ (λ (ts, o). Ok (with_type ts o))
      (kept_pair f g _ _ e (kept_parameter alone at d _ _ (tied_declarator s (name_place at d) around.Nothing _ _ d (tied_specifiers s at specifiers)))))
