use Rattle.std.proofs.Common.{◌≡◌, ℕ, ◌&&◌, true, false, List, ◌∙◌, ap, subst, rules}
use Rattle.p10_core.specs.declared.typed.Value.{Value}
use Rattle.p10_core.specs.declared.typed.Place.{Place}
use Rattle.p10_core.specs.Types.{plain_type, pointer}
use Rattle.p10_core.specs.Typed.{constant, read, sense, address, decay, convert, cast, unary, binary, logic, conditional, call, built_in, variable, global, literal, index, member, dereference}
use Rattle.p10_core.specs.Views.{plain_value, plain_place, plain_values, plain_form, plain_place_form}
use Rattle.p10_core.specs.Rows.{is_scalar, int_type}
use Rattle.p10_core.specs.Whole.{IsWholeValue, IsWholePlace, AreWholeValues, Reads, IsAddress, Decays, Converts, Casts, UnaryAgrees, BinaryAgrees, ConditionalAgrees, Calls, CallsLibrary, IsElement, IsMember, IsLiteral}
use Rattle.p10_core.proofs.Lists.{plain_call, plain_built_in}
use Rattle.p10_whole.specs.private.Shows.{Shows}
use Rattle.p10_whole.specs.private.Surroundings.{surroundings_in}
use Rattle.p10_whole.proofs.Showing.{shows_both}
use Rattle.p10_whole.proofs.Agreeing.{unary_shown, binary_shown, conditional_shown as row_shown}
use Rattle.p10_whole.proofs.Serving.{library_shown}
use Rattle.p10_whole.proofs.Wholeness.{value_by, place_by, shows_two_one, logic_shown, conditional_shown, no_values_left, one_value}
use Rattle.p10_whole.proofs.values.+whole.Goals as goal

pub is_whole_value-returns-in-Const : goal.is_whole_value-returns-in-Const
is_whole_value-returns-in-Const t c =
    value_by (surroundings_in c.args.around.now) (plain_type c.args.v.now.ty) (plain_form c.args.v.now.form) (constant c.in-Const.number) (c.is_constant.result)
    (ap plain_form c.in-Const.is)
    (c.is_constant.ensures)

pub is_whole_value-returns-in-Sense : goal.is_whole_value-returns-in-Sense
is_whole_value-returns-in-Sense t c =
    value_by (surroundings_in c.args.around.now) (plain_type c.args.v.now.ty) (plain_form c.args.v.now.form) (sense c.in-Sense.object) (c.is_sensor.result)
    (ap plain_form c.in-Sense.is)
    (c.is_sensor.ensures)

pub is_whole_value-returns-in-Read : goal.is_whole_value-returns-in-Read
is_whole_value-returns-in-Read t c =
    let P : Place → Type 0 = λ p. Shows c.is_whole_place.result (IsWholePlace (surroundings_in c.args.around.now) (plain_place p)) in
    let Q : Place → Type 0 = λ p. Shows c.reads.result (Reads (surroundings_in c.args.around.now) (plain_type c.args.v.now.ty) (plain_place p)) in
    value_by (surroundings_in c.args.around.now) (plain_type c.args.v.now.ty) (plain_form c.args.v.now.form) (read (plain_place c.in-Read.place.value)) (c.is_whole_place.result && c.reads.result)
    (ap plain_form c.in-Read.is)
    (shows_both (subst P c.deref.ensures c.is_whole_place.ensures) (subst Q c.deref-in-Read.ensures c.reads.ensures))

pub is_whole_value-returns-in-Addr : goal.is_whole_value-returns-in-Addr
is_whole_value-returns-in-Addr t c =
    let P : Place → Type 0 = λ p. Shows c.is_whole_place-in-Addr.result (IsWholePlace (surroundings_in c.args.around.now) (plain_place p)) in
    let Q : Place → Type 0 = λ p. Shows c.is_address.result (IsAddress (surroundings_in c.args.around.now) (plain_type c.args.v.now.ty) (plain_place p)) in
    value_by (surroundings_in c.args.around.now) (plain_type c.args.v.now.ty) (plain_form c.args.v.now.form) (address (plain_place c.in-Addr.place.value)) (c.is_whole_place-in-Addr.result && c.is_address.result)
    (ap plain_form c.in-Addr.is)
    (shows_both (subst P c.deref-in-Addr.ensures c.is_whole_place-in-Addr.ensures) (subst Q c.deref-in-Addr-2.ensures c.is_address.ensures))

pub is_whole_value-returns-in-Decay : goal.is_whole_value-returns-in-Decay
is_whole_value-returns-in-Decay t c =
    let P : Place → Type 0 = λ p. Shows c.is_whole_place-in-Decay.result (IsWholePlace (surroundings_in c.args.around.now) (plain_place p)) in
    let Q : Place → Type 0 = λ p. Shows c.decays.result (Decays (surroundings_in c.args.around.now) (plain_type c.args.v.now.ty) (plain_place p)) in
    value_by (surroundings_in c.args.around.now) (plain_type c.args.v.now.ty) (plain_form c.args.v.now.form) (decay (plain_place c.in-Decay.place.value)) (c.is_whole_place-in-Decay.result && c.decays.result)
    (ap plain_form c.in-Decay.is)
    (shows_both (subst P c.deref-in-Decay.ensures c.is_whole_place-in-Decay.ensures) (subst Q c.deref-in-Decay-2.ensures c.decays.ensures))

pub is_whole_value-returns-in-Convert : goal.is_whole_value-returns-in-Convert
is_whole_value-returns-in-Convert t c =
    let P : Value → Type 0 = λ v. Shows c.is_whole_value.result (IsWholeValue (surroundings_in c.args.around.now) (plain_value v)) in
    let Q : Value → Type 0 = λ v. Shows c.converts.result (Converts (plain_type c.args.v.now.ty) (plain_value v)) in
    value_by (surroundings_in c.args.around.now) (plain_type c.args.v.now.ty) (plain_form c.args.v.now.form) (convert (plain_value c.in-Convert.part.value)) (c.is_whole_value.result && c.converts.result)
    (ap plain_form c.in-Convert.is)
    (shows_both (subst P c.deref-in-Convert.ensures c.is_whole_value.ensures) (subst Q c.deref-in-Convert-2.ensures c.converts.ensures))

pub is_whole_value-returns-in-Cast : goal.is_whole_value-returns-in-Cast
is_whole_value-returns-in-Cast t c =
    let P : Value → Type 0 = λ v. Shows c.is_whole_value-in-Cast.result (IsWholeValue (surroundings_in c.args.around.now) (plain_value v)) in
    let Q : Value → Type 0 = λ v. Shows c.casts.result (Casts (plain_type c.args.v.now.ty) (plain_value v)) in
    value_by (surroundings_in c.args.around.now) (plain_type c.args.v.now.ty) (plain_form c.args.v.now.form) (cast (plain_value c.in-Cast.part.value)) (c.is_whole_value-in-Cast.result && c.casts.result)
    (ap plain_form c.in-Cast.is)
    (shows_both (subst P c.deref-in-Cast.ensures c.is_whole_value-in-Cast.ensures) (subst Q c.deref-in-Cast-2.ensures c.casts.ensures))

pub is_whole_value-returns-in-Unary : goal.is_whole_value-returns-in-Unary
is_whole_value-returns-in-Unary t c =
    let P : Value → Type 0 = λ v. Shows c.is_whole_value-in-Unary.result (IsWholeValue (surroundings_in c.args.around.now) (plain_value v)) in
    let Q : Value → Type 0 = λ v. Shows c.unary_agrees.result (UnaryAgrees c.in-Unary.op (plain_type c.args.v.now.ty) (plain_type v.ty)) in
    value_by (surroundings_in c.args.around.now) (plain_type c.args.v.now.ty) (plain_form c.args.v.now.form) (unary c.in-Unary.op (plain_value c.in-Unary.part.value)) (c.is_whole_value-in-Unary.result && c.unary_agrees.result)
    (ap plain_form c.in-Unary.is)
    (shows_both (subst P c.deref-in-Unary.ensures c.is_whole_value-in-Unary.ensures) (subst Q c.deref-in-Unary-2.ensures (unary_shown c.in-Unary.op (plain_type c.args.v.now.ty) (plain_type c.deref-in-Unary-2.result.now.ty) c.unary_agrees.result c.unary_agrees.ensures)))

pub is_whole_value-returns-in-Binary : goal.is_whole_value-returns-in-Binary
is_whole_value-returns-in-Binary t c =
    let P : Value → Type 0 = λ v. Shows c.is_whole_value-in-Binary.result (IsWholeValue (surroundings_in c.args.around.now) (plain_value v)) in
    let Q : Value → Type 0 = λ v. Shows c.is_whole_value-in-Binary-2.result (IsWholeValue (surroundings_in c.args.around.now) (plain_value v)) in
    let R : Value → Type 0 = λ v. Shows c.binary_agrees.result (BinaryAgrees (surroundings_in c.args.around.now) c.in-Binary.op (plain_type c.args.v.now.ty) (plain_type v.ty) (plain_type c.deref-in-Binary-4.result.now.ty)) in
    let N : Value → Type 0 = λ v. Shows c.binary_agrees.result (BinaryAgrees (surroundings_in c.args.around.now) c.in-Binary.op (plain_type c.args.v.now.ty) (plain_type c.in-Binary.left.value.ty) (plain_type v.ty)) in
    value_by (surroundings_in c.args.around.now) (plain_type c.args.v.now.ty) (plain_form c.args.v.now.form) (binary c.in-Binary.op (plain_value c.in-Binary.left.value) (plain_value c.in-Binary.right.value)) ((c.is_whole_value-in-Binary.result && c.is_whole_value-in-Binary-2.result) && c.binary_agrees.result)
    (ap plain_form c.in-Binary.is)
    (shows_two_one (subst P c.deref-in-Binary.ensures c.is_whole_value-in-Binary.ensures) (subst Q c.deref-in-Binary-2.ensures c.is_whole_value-in-Binary-2.ensures)
    (subst N c.deref-in-Binary-4.ensures (subst R c.deref-in-Binary-3.ensures
    (binary_shown (surroundings_in c.args.around.now) c.in-Binary.op (plain_type c.args.v.now.ty) (plain_type c.deref-in-Binary-3.result.now.ty) (plain_type c.deref-in-Binary-4.result.now.ty) c.binary_agrees.result c.binary_agrees.ensures))))

pub is_whole_value-returns-in-Logic : goal.is_whole_value-returns-in-Logic
is_whole_value-returns-in-Logic t c =
    let P : Value → Type 0 = λ v. Shows c.is_whole_value-in-Logic.result (IsWholeValue (surroundings_in c.args.around.now) (plain_value v)) in
    let Q : Value → Type 0 = λ v. Shows c.is_whole_value-in-Logic-2.result (IsWholeValue (surroundings_in c.args.around.now) (plain_value v)) in
    let R : Value → Type 0 = λ v. Shows c.are_scalars.result (((plain_type c.args.v.now.ty) ≡ int_type) × (is_scalar (plain_type v.ty) ≡ true) × (is_scalar (plain_type c.deref-in-Logic-4.result.now.ty) ≡ true)) in
    let N : Value → Type 0 = λ v. Shows c.are_scalars.result (((plain_type c.args.v.now.ty) ≡ int_type) × (is_scalar (plain_type c.in-Logic.left.value.ty) ≡ true) × (is_scalar (plain_type v.ty) ≡ true)) in
    value_by (surroundings_in c.args.around.now) (plain_type c.args.v.now.ty) (plain_form c.args.v.now.form) (logic c.in-Logic.field-0 (plain_value c.in-Logic.left.value) (plain_value c.in-Logic.right.value)) ((c.is_whole_value-in-Logic.result && c.is_whole_value-in-Logic-2.result) && c.are_scalars.result)
    (ap plain_form c.in-Logic.is)
    (logic_shown (surroundings_in c.args.around.now) (plain_type c.args.v.now.ty) c.in-Logic.field-0 (plain_value c.in-Logic.left.value) (plain_value c.in-Logic.right.value) c.is_whole_value-in-Logic.result c.is_whole_value-in-Logic-2.result c.are_scalars.result
    (subst P c.deref-in-Logic.ensures c.is_whole_value-in-Logic.ensures) (subst Q c.deref-in-Logic-2.ensures c.is_whole_value-in-Logic-2.ensures)
    (subst N c.deref-in-Logic-4.ensures (subst R c.deref-in-Logic-3.ensures c.are_scalars.ensures)))

pub is_whole_value-returns-in-Cond : goal.is_whole_value-returns-in-Cond
is_whole_value-returns-in-Cond t c =
    let O : Value → Type 0 = λ v. Shows c.is_whole_value-in-Cond.result (IsWholeValue (surroundings_in c.args.around.now) (plain_value v)) in
    let P : Value → Type 0 = λ v. Shows c.is_whole_value-in-Cond-2.result (IsWholeValue (surroundings_in c.args.around.now) (plain_value v)) in
    let Q : Value → Type 0 = λ v. Shows c.is_whole_value-in-Cond-3.result (IsWholeValue (surroundings_in c.args.around.now) (plain_value v)) in
    let R : Value → Type 0 = λ v. Shows c.conditional_agrees.result (ConditionalAgrees (plain_type c.args.v.now.ty) (plain_type v.ty) (plain_type c.deref-in-Cond-6.result.now.ty)) in
    let N : Value → Type 0 = λ v. Shows c.conditional_agrees.result (ConditionalAgrees (plain_type c.args.v.now.ty) (plain_type c.in-Cond.left.value.ty) (plain_type v.ty)) in
    value_by (surroundings_in c.args.around.now) (plain_type c.args.v.now.ty) (plain_form c.args.v.now.form) (conditional (plain_value c.in-Cond.test.value) (plain_value c.in-Cond.left.value) (plain_value c.in-Cond.right.value)) (((c.is_whole_value-in-Cond.result && c.is_scalar.result) && (c.is_whole_value-in-Cond-2.result && c.is_whole_value-in-Cond-3.result)) && c.conditional_agrees.result)
    (ap plain_form c.in-Cond.is)
    (conditional_shown (surroundings_in c.args.around.now) (plain_type c.args.v.now.ty) (plain_value c.in-Cond.test.value) (plain_value c.in-Cond.left.value) (plain_value c.in-Cond.right.value)
    c.is_whole_value-in-Cond.result c.is_scalar.result c.is_whole_value-in-Cond-2.result c.is_whole_value-in-Cond-3.result c.conditional_agrees.result
    (subst O c.deref-in-Cond.ensures c.is_whole_value-in-Cond.ensures) (c.is_scalar.ensures ∙ ap (λ (v : Value). is_scalar (plain_type v.ty)) c.deref-in-Cond-2.ensures)
    (subst P c.deref-in-Cond-3.ensures c.is_whole_value-in-Cond-2.ensures) (subst Q c.deref-in-Cond-4.ensures c.is_whole_value-in-Cond-3.ensures)
    (subst N c.deref-in-Cond-6.ensures (subst R c.deref-in-Cond-5.ensures
    (row_shown (plain_type c.args.v.now.ty) (plain_type c.deref-in-Cond-5.result.now.ty) (plain_type c.deref-in-Cond-6.result.now.ty) c.conditional_agrees.result c.conditional_agrees.ensures))))

pub is_whole_value-returns-in-Call : goal.is_whole_value-returns-in-Call
is_whole_value-returns-in-Call t c =
    let P : List Value → Type 0 = λ vs. Shows c.are_whole_values.result (AreWholeValues (surroundings_in c.args.around.now) (plain_values vs)) in
    let Q : List Value → Type 0 = λ vs. Shows c.calls.result (Calls (surroundings_in c.args.around.now) (plain_type c.args.v.now.ty) c.in-Call.number (plain_values vs)) in
    value_by (surroundings_in c.args.around.now) (plain_type c.args.v.now.ty) (plain_form c.args.v.now.form) (call c.in-Call.field-0 c.in-Call.number (plain_values c.in-Call.arguments)) (c.are_whole_values.result && c.calls.result)
    (ap plain_form c.in-Call.is ∙ plain_call c.in-Call.field-0 c.in-Call.number c.in-Call.arguments)
    (shows_both (subst P c.as_slice.ensures c.are_whole_values.ensures) (subst Q c.as_slice-in-Call.ensures c.calls.ensures))

pub is_whole_value-returns-in-Builtin : goal.is_whole_value-returns-in-Builtin
is_whole_value-returns-in-Builtin t c =
    let P : List Value → Type 0 = λ vs. Shows c.are_whole_values-in-Builtin.result (AreWholeValues (surroundings_in c.args.around.now) (plain_values vs)) in
    let Q : List Value → Type 0 = λ vs. Shows c.is_library.result (CallsLibrary (surroundings_in c.args.around.now) (plain_type c.args.v.now.ty) c.in-Builtin.library (plain_values vs)) in
    value_by (surroundings_in c.args.around.now) (plain_type c.args.v.now.ty) (plain_form c.args.v.now.form) (built_in c.in-Builtin.field-0 c.in-Builtin.library (plain_values c.in-Builtin.arguments)) (c.are_whole_values-in-Builtin.result && c.is_library.result)
    (ap plain_form c.in-Builtin.is ∙ plain_built_in c.in-Builtin.field-0 c.in-Builtin.library c.in-Builtin.arguments)
    (shows_both (subst P c.as_slice-in-Builtin.ensures c.are_whole_values-in-Builtin.ensures)
    (subst Q c.as_slice-in-Builtin-2.ensures (library_shown (surroundings_in c.args.around.now) (plain_type c.args.v.now.ty) c.in-Builtin.library (plain_values c.as_slice-in-Builtin-2.result.now) c.is_library.result c.is_library.ensures)))

pub is_whole_place-returns-in-Var : goal.is_whole_place-returns-in-Var
is_whole_place-returns-in-Var t c =
    place_by (surroundings_in c.args.around.now) (plain_type c.args.p.now.ty) (plain_place_form c.args.p.now.form) (variable c.in-Var.number) (c.is_variable.result)
    (ap plain_place_form c.in-Var.is)
    (c.is_variable.ensures)

pub is_whole_place-returns-in-Global : goal.is_whole_place-returns-in-Global
is_whole_place-returns-in-Global t c =
    place_by (surroundings_in c.args.around.now) (plain_type c.args.p.now.ty) (plain_place_form c.args.p.now.form) (global c.in-Global.number) (c.is_object.result)
    (ap plain_place_form c.in-Global.is)
    (c.is_object.ensures)

pub is_whole_place-returns-in-Literal : goal.is_whole_place-returns-in-Literal
is_whole_place-returns-in-Literal t c =
    let P : List ℕ → Type 0 = λ bytes. Shows c.is_literal.result (IsLiteral (surroundings_in c.args.around.now) c.in-Literal.number bytes (plain_type c.args.p.now.ty)) in
    place_by (surroundings_in c.args.around.now) (plain_type c.args.p.now.ty) (plain_place_form c.args.p.now.form) (literal c.in-Literal.number c.in-Literal.bytes) (c.is_literal.result)
    (ap plain_place_form c.in-Literal.is)
    (subst P c.as_slice.ensures c.is_literal.ensures)

pub is_whole_place-returns-in-Index : goal.is_whole_place-returns-in-Index
is_whole_place-returns-in-Index t c =
    let P : Value → Type 0 = λ v. Shows c.is_whole_value.result (IsWholeValue (surroundings_in c.args.around.now) (plain_value v)) in
    let Q : Value → Type 0 = λ v. Shows c.is_whole_value-in-Index.result (IsWholeValue (surroundings_in c.args.around.now) (plain_value v)) in
    let R : Value → Type 0 = λ v. Shows c.is_element.result (IsElement (surroundings_in c.args.around.now) (plain_type v.ty) (plain_type c.deref-in-Index-3.result.now.ty) (plain_type c.args.p.now.ty)) in
    let N : Value → Type 0 = λ v. Shows c.is_element.result (IsElement (surroundings_in c.args.around.now) (plain_type c.in-Index.pointer.value.ty) (plain_type v.ty) (plain_type c.args.p.now.ty)) in
    place_by (surroundings_in c.args.around.now) (plain_type c.args.p.now.ty) (plain_place_form c.args.p.now.form) (index (plain_value c.in-Index.pointer.value) (plain_value c.in-Index.by.value)) ((c.is_whole_value.result && c.is_whole_value-in-Index.result) && c.is_element.result)
    (ap plain_place_form c.in-Index.is)
    (shows_two_one (subst P c.deref.ensures c.is_whole_value.ensures) (subst Q c.deref-in-Index.ensures c.is_whole_value-in-Index.ensures)
    (subst N c.deref-in-Index-3.ensures (subst R c.deref-in-Index-2.ensures c.is_element.ensures)))

pub is_whole_place-returns-in-Member : goal.is_whole_place-returns-in-Member
is_whole_place-returns-in-Member t c =
    let P : Place → Type 0 = λ p. Shows c.is_whole_place.result (IsWholePlace (surroundings_in c.args.around.now) (plain_place p)) in
    let Q : Place → Type 0 = λ p. Shows c.is_member.result (IsMember (surroundings_in c.args.around.now) (plain_type p.ty) (plain_type c.args.p.now.ty) c.in-Member.place) in
    place_by (surroundings_in c.args.around.now) (plain_type c.args.p.now.ty) (plain_place_form c.args.p.now.form) (member (plain_place c.in-Member.whole.value) c.in-Member.place) (c.is_whole_place.result && c.is_member.result)
    (ap plain_place_form c.in-Member.is)
    (shows_both (subst P c.deref-in-Member.ensures c.is_whole_place.ensures) (subst Q c.deref-in-Member-2.ensures c.is_member.ensures))

pub is_whole_place-returns-in-Deref : goal.is_whole_place-returns-in-Deref
is_whole_place-returns-in-Deref t c =
    let P : Value → Type 0 = λ v. Shows c.is_whole_value-in-Deref.result (IsWholeValue (surroundings_in c.args.around.now) (plain_value v)) in
    let Q : Value → Type 0 = λ v. Shows c.is_pointer_to.result (plain_type v.ty ≡ pointer false (plain_type c.args.p.now.ty)) in
    place_by (surroundings_in c.args.around.now) (plain_type c.args.p.now.ty) (plain_place_form c.args.p.now.form) (dereference (plain_value c.in-Deref.pointer.value)) (c.is_whole_value-in-Deref.result && c.is_pointer_to.result)
    (ap plain_place_form c.in-Deref.is)
    (shows_both (subst P c.deref-in-Deref.ensures c.is_whole_value-in-Deref.ensures) (subst Q c.deref-in-Deref-2.ensures c.is_pointer_to.ensures))

pub are_whole_values-returns : goal.are_whole_values-returns
are_whole_values-returns t c = record {
  shows = λ e. c.loop-v.invariant (no_values_left (surroundings_in c.args.around.now) c.args.all.now c.loop-v.v-index c.loop-v-test.false);
}

pub are_whole_values-loop-v-preserved : goal.are_whole_values-loop-v-preserved
are_whole_values-loop-v-preserved t c = λ rest.
    let yes : c.is_whole_value.result ≡ true = search rules in
    c.loop-v.invariant (one_value (surroundings_in c.args.around.now) c.args.all.now c.loop-v.v-index c.v-item.result c.loop-v-test.true c.v-item.is (c.is_whole_value.ensures.shows yes) rest)
