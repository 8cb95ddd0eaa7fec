-- The next object is opened.
use Rattle.std.proofs.Common.{◌+◌, sym, ◌∙◌, ap, map, length, slice_get, refl, arith}
use Rattle.std.proofs.lemmas.List.{length-map}
use Rattle.p10_core.specs.Views.{plain_program, plain_object, plain_literal}
use Rattle.p10_meaning.specs.Scalars.{zero_cells}
use Rattle.p10_meaning.specs.Values.{scalars}
use Rattle.p10_interp.specs.private.Machines.{state_of}
use Rattle.p10_interp.specs.private.Constants.{nothing_around}
use Rattle.p10_interp.proofs.Items.{item_there}
use Rattle.p10_interp.proofs.Statics.{static_next}
use Rattle.p10_interp.proofs.Starting.{has_statics, zero_at_first}
use Rattle.p10_interp.proofs.opening.constant_state.Goals as goal

pub loop-number-preserved : goal.loop-number-preserved
loop-number-preserved c = (
  static_next (λ o. zero_cells (scalars (plain_program c.args.p.now) o.type)) (plain_program c.args.p.now).objects c.loop-number.number (c.loop-number.number + 1) (plain_object c.index-objects-number.result) c.as_slice.result.now c.loop-number.store.objects c.open_static.new.store.objects c.loop-number.store.opened (ap (λ objects. slice_get (map plain_object objects) c.loop-number.number) (sym c.as_slice-objects.ensures) ∙ item_there plain_object c.as_slice-objects.result.now c.loop-number.number c.index-objects-number.result c.loop-number-test.true c.index-objects-number.is) refl c.loop-number.invariant.1 (c.as_slice.ensures.value ∙ c.in_ok-put_zeros_of.ensures) c.loop-number.invariant.0 c.in_ok-open_static.ensures.objects,
  omega (arith, c.loop-number.invariant.1, c.in_ok-open_static.ensures.opened),
  (let d = length-map c.args.p.now.globals plain_object in let e = ap (λ objects. length objects) c.as_slice-objects.ensures in omega (arith, d, e, c.loop-number-test.true)),
)

pub returns-in-Ok : goal.returns-in-Ok
returns-in-Ok c =
    zero_at_first (plain_program c.args.p.now) c.open_literals.new.store c.new.result.items (state_of c.in-Ok.outside nothing_around) 0
    (has_statics (plain_program c.args.p.now) (λ o. zero_cells (scalars (plain_program c.args.p.now) o.type)) c.loop-number.store c.open_literals.new.store (map plain_literal c.as_slice-2.result.now) c.loop-number.number (length c.as_slice-2.result.now) (let d = length-map c.args.p.now.globals plain_object in let e = ap (λ objects. length objects) c.as_slice-objects.ensures in omega (arith, d, e, c.loop-number-test.false)) c.loop-number.invariant.2 c.loop-number.invariant.0 c.loop-number.invariant.1
    c.in_ok-open_literals.ensures.objects c.in_ok-open_literals.ensures.opened (ap (λ ls. map plain_literal ls) c.as_slice-2.ensures) (ap (λ ls. length ls) c.as_slice-2.ensures ∙ sym (length-map c.args.p.now.literals plain_literal)))
    c.new.ensures.items (c.in-Ok.ensures.state nothing_around)
