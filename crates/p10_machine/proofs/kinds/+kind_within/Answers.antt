-- Each form of type has its scalars.
use Rattle.std.proofs.Common.{◌%◌, ◌∙◌, sym, ap, subst, map, length, false, arith, option_map, option_copied}
use Rattle.p10_core.specs.declared.c_type.CType.{CType}
use Rattle.p10_core.specs.Types.{structure, bare, plain_type, plain_form_of_type, plain_body, plain_member}
use Rattle.p10_core.specs.Sizes.{scalars_of}
use Rattle.p10_core.specs.Views.{plain_types}
use Rattle.p10_machine.specs.Kinds.{HasKindAt}
use Rattle.p10_machine.proofs.TypesOfScalars.{integer_at, pointer_at, array_at, member_at, kind_on}
use Rattle.p10_machine.proofs.kinds.+kind_within.Goals as goal

pub returns-then-number-eq0 : goal.returns-then-number-eq0
returns-then-number-eq0 t c = integer_at (plain_types c.args.types.now) _ _ c.args.number (ap (λ f. bare (plain_types c.args.types.now) (plain_form_of_type c.args.t.now.is_const f)) c.in-Int.is) c.if-number-eq0.true

pub returns-then-number-eq0-2 : goal.returns-then-number-eq0-2
returns-then-number-eq0-2 t c = pointer_at (plain_types c.args.types.now) _ _ c.args.number (ap (λ f. bare (plain_types c.args.types.now) (plain_form_of_type c.args.t.now.is_const f)) c.in-Pointer.is) c.if-number-eq0-2.true

pub returns-else-number-scalars : goal.returns-else-number-scalars
returns-else-number-scalars t c =
    kind_on c.kind_within.result (λ k. HasKindAt (scalars_of (plain_types c.args.types.now) (bare (plain_types c.args.types.now) (plain_type c.deref-in-Array.result.now))) (c.args.number % c.in_ok-scalars-in-Array.scalars) k) (λ k. HasKindAt (scalars_of (plain_types c.args.types.now) (bare (plain_types c.args.types.now) (plain_type c.args.t.now))) c.args.number k)
    (λ k h. array_at (plain_types c.args.types.now) (bare (plain_types c.args.types.now) (plain_type c.args.t.now)) (bare (plain_types c.args.types.now) (plain_type c.in-Array.element.value)) c.in-Array.length c.in_ok-scalars-in-Array.scalars c.args.number k
    (ap (λ f. bare (plain_types c.args.types.now) (plain_form_of_type c.args.t.now.is_const f)) c.in-Array.is)
    (c.in_ok-scalars-in-Array.ensures ∙ ap (λ (e : CType). length (scalars_of (plain_types c.args.types.now) (bare (plain_types c.args.types.now) (plain_type e)))) c.deref.ensures)
    (omega (arith, c.if-scalars-eq0.false)) c.if-number-scalars.false
    (subst (λ (e : CType). HasKindAt (scalars_of (plain_types c.args.types.now) (bare (plain_types c.args.types.now) (plain_type e))) (c.args.number % c.in_ok-scalars-in-Array.scalars) k) c.deref-in-Array.ensures h))
    c.kind_within.ensures

pub returns-in_ok-member-in-Struct : goal.returns-in_ok-member-in-Struct
returns-in_ok-member-in-Struct t c =
    kind_on c.kind_within-in-Struct.result (λ k. HasKindAt (scalars_of (plain_types c.args.types.now) (bare (plain_types c.args.types.now) (plain_type c.in_ok-member-in-Struct.member.now.ty))) c.in_ok-place-in-Struct.rest k) (λ k. HasKindAt (scalars_of (plain_types c.args.types.now) (bare (plain_types c.args.types.now) (plain_type c.args.t.now))) c.args.number k)
    (λ k h. member_at (plain_types c.args.types.now) c.requires.structures (bare (plain_types c.args.types.now) (plain_type c.args.t.now)) c.representative.result (plain_body c.in_ok-body-in-Struct.body.now) (map plain_member c.as_slice-members.result.now) c.in_ok-place-in-Struct.place c.in_ok-place-in-Struct.rest c.args.number (plain_member c.in_ok-member-in-Struct.member.now) k
    (ap (λ f. bare (plain_types c.args.types.now) (plain_form_of_type c.args.t.now.is_const f)) c.in-Struct.is ∙ ap (λ n. structure false n) (sym c.representative.ensures))
    (sym c.body.ensures ∙ ap (λ r. option_map plain_body (option_copied r)) c.in_ok-body-in-Struct.was)
    (ap (λ ms. map plain_member ms) (sym c.as_slice-members.ensures))
    (sym c.member_there.ensures ∙ ap (λ o. option_map (λ m. plain_member m.now) o) c.in_ok-member-in-Struct.was)
    c.in_ok-place-in-Struct.ensures h)
    c.kind_within-in-Struct.ensures
