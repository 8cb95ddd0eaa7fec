-- What is called, and arguments, that are the same.
use Rattle.std.proofs.Common.{◌≡◌, ℕ, zero, suc, Bool, true, false, List, [], length, map, Option, Some, None, Ok, nat_eq, refl, ap}
use Rattle.std.specs.Prelude.{if◌then◌else◌, bytes_eq, option_map, slice_get}
use Rattle.p10_base.specs.Words.{Text}
use Rattle.p10_base.specs.declared.at.At.{At}
use Rattle.p10_base.specs.declared.codes.SubsetCode.TheVariants as subset
use Rattle.p10_syn.specs.Trees.{Identifier}
use Rattle.p10_core.specs.declared.typed.Library.{Library}
use Rattle.p10_core.specs.declared.typed.Library.TheVariants as library
use Rattle.p10_core.specs.Types.{PlainType, unqualified}
use Rattle.p10_core.specs.Typed.{PlainValue, PlainValues, type_of}
use Rattle.p10_core.specs.Rows.{is_integer, is_pointer}
use Rattle.p10_elabx.specs.declared.problem.Problem.{Problem}
use Rattle.p10_elabx.specs.First.{Keep, Ruled, Judged, pair}
use Rattle.p10_elabx.specs.Scopes.{Meaning, Binding, PlainScope, last_named, named, library_named}
use Rattle.p10_elabx.specs.Operands.{PlainOperand}
use Rattle.p10_elabx.specs.Calls.{Callee, of_library, undeclared, callee_of, Wanted, of_type, library_wants, wants_of, wanted_of, pointer_value, wanted_value, Listed, with_value, argument_judged, with_argument, call_problem, library_result, call_value, is_assert, is_allocator, with_problem, call_judged, operand_call, other_call, count_arguments, allocation, element_count}
use Rattle.p10_elabx.specs.Judging.{for_name, is_memory, memory_called, for_memory}
use Rattle.p10_renaming.specs.Renaming.{Pairing, passing, SameType, same_void, same_integer, same_pointer, same_integer_passed, SameValue, same_value, same_cast, same_call, same_built_in, SameArgument, same_as_value, SameArguments, same_no_arguments, same_more_arguments, SameMaybe, same_none, same_some}
use Rattle.p10_expression_renaming.specs.Knowing.{Together, Ruling, SameOperand, same_a_value, SameParameterTypes, same_no_parameter_types, same_more_parameter_types, SameMeaning, same_callable, same_unknown_name, SameBindings, same_no_bindings, same_more_bindings, SameScope, IsOneToOne}
use Rattle.p10_expression_renaming.proofs.Finding.{by_same, when_ok, on_both, pair_both, Pairs, refused_both, refused_always, part_both, Alike}
use Rattle.p10_expression_renaming.proofs.Sameness.{SameNamed, same_nothing_named, same_one_named, SameName, same_no_name, same_name, SameMemory, same_no_memory, same_memory, SameCallee, same_of_program, same_of_library, same_not_declared, same_no_function, same_refused_before, same_anything, same_of_type, same_any_scalar, same_any_pointer, SameWanteds, same_nothing_more, same_more_wanted, SameMaybeWanted, same_nothing_wanted, same_one_wanted}
use Rattle.p10_expression_renaming.proofs.Types.{is_integer_same, is_pointer_same, unqualified_same, unqualified_parameter}
use Rattle.p10_expression_renaming.proofs.Values.{type_same}
use Rattle.p10_expression_renaming.proofs.Operands.{converted_both, argument_converted}

-- ## Names

either_named : (R : Pairing) (test : Bool) {a b x y : Option Meaning} → SameNamed R a b → SameNamed R x y → SameNamed R (if test then a else x) (if test then b else y)
either_named R true h k = h
either_named R false h k = k

pub last_both : (R : Pairing) (name : Text) {xs ys : List Binding} → SameBindings R xs ys → {a b : Option Meaning} → SameNamed R a b → SameNamed R (last_named a name xs) (last_named b name ys)
last_both R name same_no_bindings k = k
last_both R name (same_more_bindings {name = own} h rest) k = last_both R name rest (either_named R (bytes_eq own name) (same_one_named h) k)

pub named_both : (R : Pairing) (s t : PlainScope) → SameScope R s t → (name : Text) → SameNamed R (named s name) (named t name)
named_both R s t know name = last_both R name know.names same_nothing_named

undeclared_both : (R : Pairing) (o : Option Library) → SameCallee R (undeclared o) (undeclared o)
undeclared_both R None = same_not_declared
undeclared_both R (Some f) = same_of_library

meaning_both : (R : Pairing) (name : Text) {a b : Meaning} → SameMeaning R a b → SameCallee R (callee_of (Some a) name) (callee_of (Some b) name)
meaning_both R name (same_callable ts t) = same_of_program ts t
meaning_both R name same_unknown_name = same_refused_before
meaning_both R name h = same_no_function

pub callee_both : (R : Pairing) (name : Text) {a b : Option Meaning} → SameNamed R a b → SameCallee R (callee_of a name) (callee_of b name)
callee_both R name same_nothing_named = undeclared_both R (library_named name)
callee_both R name (same_one_named h) = meaning_both R name h

-- what is done with names that are the same
pub for_name_both : {A : Type 0} (P : A → A → Type 0) (x y : Option (Identifier At)) (go went : Identifier At → A) (other others : A) → SameName x y
    → ((name : Text) (at to : At) → P (go (record { place = at; name = name })) (went (record { place = to; name = name }))) → P other others → P (for_name x go other) (for_name y went others)
for_name_both P x y go went other others same_no_name each last = last
for_name_both P x y go went other others (same_name {at = at} {to = to} {name = name}) each last = each name at to

-- ## Arguments

integer_wanted : (R : Pairing) → SameWanteds R (library_wants library.Putchar) (library_wants library.Putchar)
integer_wanted R = same_more_wanted (same_of_type same_integer_passed) same_nothing_more

pub library_both : (R : Pairing) (f : Library) → SameWanteds R (library_wants f) (library_wants f)
library_both R library.Assert = same_more_wanted same_any_scalar same_nothing_more
library_both R library.CAssert = same_more_wanted same_any_scalar same_nothing_more
library_both R library.Getchar = same_nothing_more
library_both R library.Putchar = integer_wanted R
library_both R library.Malloc = same_more_wanted same_anything same_nothing_more
library_both R library.Calloc = same_more_wanted same_anything (same_more_wanted same_anything same_nothing_more)
library_both R library.Free = same_more_wanted same_any_pointer same_nothing_more

types_wanted : (R : Pairing) (ts us : List PlainType) → SameParameterTypes (passing R) ts us → SameWanteds R (map of_type ts) (map of_type us)
types_wanted R ts us same_no_parameter_types = same_nothing_more
types_wanted R ts us (same_more_parameter_types h rest) = same_more_wanted (same_of_type h) (types_wanted R _ _ rest)

as_many : (R : Pairing) {xs ys : List Wanted} → SameWanteds R xs ys → length xs ≡ length ys
as_many R same_nothing_more = refl
as_many R (same_more_wanted h rest) = ap suc (as_many R rest)

pub counted_both : (R : Pairing) (count : ℕ) (xs ys : List Wanted) → SameWanteds R xs ys → SameWanteds R (wanted_of (Some xs) count) (wanted_of (Some ys) count)
counted_both R count xs ys all =
    by_same (SameWanteds R) (nat_eq (length xs) count) (nat_eq (length ys) count) (ap (λ n. nat_eq n count) (as_many R all)) xs [] ys [] all same_nothing_more

pub wants_both : (R : Pairing) (count : ℕ) (c d : Callee) → SameCallee R c d → SameWanteds R (wanted_of (wants_of c) count) (wanted_of (wants_of d) count)
wants_both R count c d (same_of_program {ts = ts} {us = us} h k) = counted_both R count (map of_type ts) (map of_type us) (types_wanted R ts us h)
wants_both R count c d (same_of_library {f = f}) = counted_both R count (library_wants f) (library_wants f) (library_both R f)
wants_both R count c d same_not_declared = same_nothing_more
wants_both R count c d same_no_function = same_nothing_more
wants_both R count c d same_refused_before = same_nothing_more

pub wanted_at : (R : Pairing) {xs ys : List Wanted} → SameWanteds R xs ys → (i : ℕ) → SameMaybeWanted R (slice_get xs i) (slice_get ys i)
wanted_at R same_nothing_more i = same_nothing_wanted
wanted_at R (same_more_wanted h rest) zero = same_one_wanted h
wanted_at R (same_more_wanted h rest) (suc i) = wanted_at R rest i

pointer_both : (R : Pairing) → IsOneToOne R → (v w : PlainValue) → SameValue R v w → Ruling (SameArgument R) (pointer_value v) (pointer_value w)
pointer_both R one v w h =
    by_same (Ruling (SameArgument R)) (is_pointer (type_of v)) (is_pointer (type_of w)) (is_pointer_same R (type_same R h)) (Ok v) _ (Ok w) _ (same_as_value h)
    (when_ok (SameArgument R) _ _ _ _ _ _ _ (same_as_value (converted_both R one v w _ _ h (same_pointer same_integer))))

wanted_both : (R : Pairing) → IsOneToOne R → (a b : Option Wanted) → SameMaybeWanted R a b → (v w : PlainValue) → SameValue R v w → Ruling (SameArgument R) (wanted_value a v) (wanted_value b w)
wanted_both R one a b same_nothing_wanted v w h = same_as_value h
wanted_both R one a b (same_one_wanted same_anything) v w h = same_as_value h
wanted_both R one a b (same_one_wanted (same_of_type {t = t} {u = u} k)) v w h = when_ok (SameArgument R) _ _ _ _ _ _ _ (argument_converted R one v w (unqualified t) (unqualified u) h (unqualified_parameter (passing R) k))
wanted_both R one a b (same_one_wanted same_any_scalar) v w h = when_ok (SameArgument R) _ _ _ _ _ _ _ (same_as_value h)
wanted_both R one a b (same_one_wanted same_any_pointer) v w h = pointer_both R one v w h

pub argument_both : (R : Pairing) → IsOneToOne R → (a b : Option Wanted) → SameMaybeWanted R a b → (j k : Judged PlainValue) → Alike (SameValue R) j k → Alike (SameArgument R) (argument_judged a j) (argument_judged b k)
unfolding argument_judged
argument_both R one a b same j k h = part_both (SameValue R) (SameArgument R) j k (wanted_value a) (wanted_value b) h (wanted_both R one a b same)

with_value_both : (R : Pairing) {vs ws : PlainValues} → SameArguments R vs ws → {v w : PlainValue} → SameArgument R v w → SameArguments R (with_value vs v) (with_value ws w)
with_value_both R same_no_arguments h = same_more_arguments h same_no_arguments
with_value_both R (same_more_arguments k rest) h = same_more_arguments k (with_value_both R rest h)

-- arguments that are the same
abbrev pub Likewise : Pairing → Listed → Listed → Type 0
Likewise R k l = Together (SameArguments R) k.found l.found

pub with_argument_both : (R : Pairing) (h : Keep) (k l : Listed) (j i : Judged PlainValue) → Likewise R k l → Alike (SameArgument R) j i → Likewise R (with_argument h k j) (with_argument h l i)
unfolding with_argument
with_argument_both R h k l j i a b =
    on_both (Pairs (SameArguments R) (SameArgument R)) (SameArguments R) (pair h k.found j.found) (pair h l.found i.found) (λ (vs, v). Ok (with_value vs v)) (λ (vs, v). Ok (with_value vs v))
    (pair_both (SameArguments R) (SameArgument R) h h k.found l.found j.found i.found a b) (λ p q both. with_value_both R both.0 both.1)

-- ## Calls

result_both : (R : Pairing) (f : Library) → SameType R (library_result f) (library_result f)
result_both R library.Assert = same_void
result_both R library.CAssert = same_integer
result_both R library.Getchar = same_integer
result_both R library.Putchar = same_integer
result_both R library.Malloc = same_void
result_both R library.Calloc = same_void
result_both R library.Free = same_void

call_value_both : (R : Pairing) (at name_at to name_to : At) (c d : Callee) → SameCallee R c d → (vs ws : PlainValues) → SameArguments R vs ws → Ruling (SameOperand R) (call_value at name_at c vs) (call_value to name_to d ws)
call_value_both R at name_at to name_to c d (same_of_program ts k) vs ws h = same_a_value (same_value (unqualified_same R k) (same_call h))
call_value_both R at name_at to name_to c d (same_of_library {f = f}) vs ws h = same_a_value (same_value (result_both R f) (same_built_in h))
call_value_both R at name_at to name_to c d same_not_declared vs ws h = tt
call_value_both R at name_at to name_to c d same_no_function vs ws h = tt
call_value_both R at name_at to name_to c d same_refused_before vs ws h = tt

problem_both : {A : Type 0} (P : A → A → Type 0) (h : Keep) (o q : Option Problem) (j k : Judged A) → Alike P j k → Alike P (with_problem h o j) (with_problem h q k)
problem_both P h None None j k a = a
problem_both P h None (Some r) j k a = refused_both P h h false true r.code r.code r.at r.at j.found k.found a
problem_both P h (Some r) None j k a = refused_both P h h true false r.code r.code r.at r.at j.found k.found a
problem_both P h (Some r) (Some q) j k a = refused_both P h h true true r.code q.code r.at q.at j.found k.found a

pub call_judged_both : (R : Pairing) (h : Keep) (at name_at to name_to : At) (c d : Callee) → SameCallee R c d → (count other : ℕ) (k l : Listed) → Likewise R k l
    → Alike (SameOperand R) (call_judged h at name_at c count k) (call_judged h to name_to d other l)
unfolding call_judged
call_judged_both R h at name_at to name_to c d same count other k l a =
    refused_both (SameOperand R) h h k.unordered l.unordered subset.UnspecifiedOrder subset.UnspecifiedOrder at to _ _
    (problem_both (SameOperand R) h (call_problem at name_at c count) (call_problem to name_to d other) _ _
    (on_both (SameArguments R) (SameOperand R) k.found l.found (call_value at name_at c) (call_value to name_to d) a (call_value_both R at name_at to name_to c d same)))

pub operand_call_both : (R : Pairing) (h : Keep) (at to : At) (c d : Callee) (j k : Judged PlainOperand) → Alike (SameOperand R) j k → Alike (SameOperand R) (operand_call h at c j) (operand_call h to d k)
unfolding operand_call
operand_call_both R h at to c d j k a =
    refused_both (SameOperand R) h h (is_assert c) (is_assert d) subset.VoidValue subset.VoidValue at to _ _
    (refused_both (SameOperand R) h h (is_allocator c) (is_allocator d) subset.BadAllocation subset.BadAllocation at to j.found k.found a)

-- what is no name isn't called on any side
pub other_call_both : (R : Pairing) (h : Keep) (at to : At) (j i : Judged PlainOperand) (k l : Listed) → Alike (SameOperand R) (other_call h at j k) (other_call h to i l)
unfolding other_call
other_call_both R h at to j i k l =
    refused_both (SameOperand R) h h k.unordered l.unordered subset.UnspecifiedOrder subset.UnspecifiedOrder at to _ _ (refused_always (SameOperand R) h subset.BadCallee at _ _)

-- ## Allocations

memory_of : (o : Option Library) (at to : At) → SameMemory (option_map (λ l. (l, at)) o) (option_map (λ l. (l, to)) o)
memory_of None at to = same_no_memory
memory_of (Some f) at to = same_memory

called_memory : (R : Pairing) (at to : At) (c d : Callee) → SameCallee R c d → SameMemory (option_map (λ l. (l, at)) (is_memory c)) (option_map (λ l. (l, to)) (is_memory d))
called_memory R at to c d (same_of_library {f = f}) = memory_of (is_memory (of_library f)) at to
called_memory R at to c d h = same_no_memory

pub memory_both : (R : Pairing) (s t : PlainScope) → SameScope R s t → (x y : Option (Identifier At)) → SameName x y → SameMemory (memory_called s x) (memory_called t y)
memory_both R s t know x y same_no_name = same_no_memory
memory_both R s t know x y (same_name {at = at} {to = to} {name = name}) = called_memory R at to (callee_of (named s name) name) (callee_of (named t name) name) (callee_both R name (named_both R s t know name))

pub for_memory_both : {A : Type 0} (P : A → A → Type 0) (x y : Option (Library × At)) (go went : Library → At → A) (other others : A) → SameMemory x y
    → ((f : Library) (at to : At) → P (go f at) (went f to)) → P other others → P (for_memory x go other) (for_memory y went others)
for_memory_both P x y go went other others same_no_memory each last = last
for_memory_both P x y go went other others (same_memory {f = f} {at = at} {to = to}) each last = each f at to

counts_both : (R : Pairing) {v w : Option PlainValue} → SameMaybe R v w → SameArguments R (count_arguments v) (count_arguments w)
counts_both R same_none = same_no_arguments
counts_both R (same_some h) = same_more_arguments (same_as_value h) same_no_arguments

pub allocation_both : (R : Pairing) (cast_at at name_at cast_to to name_to : At) (t u a b : PlainType) (f : Library) (v w : Option PlainValue) → SameType R t u → SameMaybe R v w
    → Ruling (SameOperand R) (allocation cast_at t at name_at f a v) (allocation cast_to u to name_to f b w)
allocation_both R cast_at at name_at cast_to to name_to t u a b f v w k h =
    when_ok (SameOperand R) _ _ _ _ _ _ _ (same_a_value (same_value (unqualified_same R k) (same_cast (same_value (unqualified_same R k) (same_built_in (counts_both R h))))))

pub element_count_both : (R : Pairing) → IsOneToOne R → (o q : Ruled PlainValue) → Ruling (SameValue R) o q → (v w : PlainValue) → SameValue R v w → Ruling (SameValue R) (element_count o v) (element_count q w)
element_count_both R one o q refused v w h =
    by_same (Ruling (SameValue R)) (is_integer (type_of v)) (is_integer (type_of w)) (is_integer_same R (type_same R h)) _ o _ q (converted_both R one v w _ _ h same_integer) refused
