use Rattle.std.proofs.Common.{◌%◌, ◌∙◌, ap, length, sym}
use Rattle.p10_core.specs.declared.c_type.CType.{CType}
use Rattle.p10_core.specs.Types.{plain_type, plain_form_of_type, array}
use Rattle.p10_core.specs.Sizes.{scalars_of}
use Rattle.p10_core.specs.Views.{plain_types}
use Rattle.p10_whole.specs.declared.scalars.Part.{Part}
use Rattle.p10_whole.specs.private.Scalars.{SameScalar}
use Rattle.p10_whole.proofs.ScalarPlaces.{if_some_on, same_on, array_part}
use Rattle.p10_whole.proofs.scalars.+part_in_array.Goals as goal

pub returns-then-place-count : goal.returns-then-place-count
returns-then-place-count t c =
    let P : Part → Type 0 = λ e. SameScalar (plain_types c.args.types.now) (plain_type c.deref-then-place-count.result.now) (c.args.place % c.scalars-count.result) (plain_type e.ty.now) e.place in
    let Q : Part → Type 0 = λ e. SameScalar (plain_types c.args.types.now) (plain_type c.args.t.now) c.args.place (plain_type e.ty.now) e.place in
    let known = array_part (plain_types c.args.types.now) (plain_type c.args.t.now) (plain_type c.deref-then-place-count.result.now) c.args.t.now.is_const c.in-Array.length c.args.place c.scalars-count.result
    (ap (plain_form_of_type c.args.t.now.is_const) c.in-Array.is ∙ ap (λ (e : CType). array c.args.t.now.is_const (plain_type e) c.in-Array.length) (sym c.deref-then-place-count.ensures))
    (c.scalars-count.ensures ∙ ap (λ (e : CType). length (scalars_of (plain_types c.args.types.now) (plain_type e))) (c.deref.ensures ∙ sym c.deref-then-place-count.ensures))
    c.if-count-eq0.false c.if-place-count.true in
    if_some_on P Q
    (λ e h. same_on (plain_types c.args.types.now) (plain_type c.args.t.now) (plain_type c.deref-then-place-count.result.now) (plain_type e.ty.now) c.args.place (c.args.place % c.scalars-count.result) e.place known h)
    c.part_in_array.result c.part_in_array.ensures
