-- The next object is opened.
use Rattle.std.proofs.Common.{◌+◌, sym, ◌∙◌, ap, map, length, slice_get, refl, arith}
use Rattle.std.proofs.lemmas.List.{length-map}
use Rattle.p10_core.specs.Views.{plain_program, plain_object, plain_literal}
use Rattle.p10_core.specs.WholePrograms.{IsWholeObject}
use Rattle.p10_meaning.specs.Opening.{initial_cells}
use Rattle.p10_interp.proofs.Items.{item_there}
use Rattle.p10_interp.proofs.Statics.{static_next, all_at}
use Rattle.p10_interp.proofs.Starting.{has_statics}
use Rattle.p10_interp.proofs.opening.opened_store.Goals as goal

pub put_initial-requires-clause-constant : goal.put_initial-requires-clause-constant
put_initial-requires-clause-constant c =
    (all_at (IsWholeObject (plain_program c.args.p.now)) (plain_program c.args.p.now).objects c.loop-number.number (plain_object c.index-objects-number.result) c.requires.program.objects (ap (λ objects. slice_get (map plain_object objects) c.loop-number.number) (sym c.as_slice-objects.ensures) ∙ item_there plain_object c.as_slice-objects.result.now c.loop-number.number c.index-objects-number.result c.loop-number-test.true c.index-objects-number.is)).constants

pub loop-number-preserved : goal.loop-number-preserved
loop-number-preserved c = (
  static_next (λ o. initial_cells (plain_program c.args.p.now) o.type o.initializer) (plain_program c.args.p.now).objects c.loop-number.number (c.loop-number.number + 1) (plain_object c.index-objects-number.result) c.as_slice.result.now c.loop-number.store.objects c.open_static.new.store.objects c.loop-number.store.opened (ap (λ objects. slice_get (map plain_object objects) c.loop-number.number) (sym c.as_slice-objects.ensures) ∙ item_there plain_object c.as_slice-objects.result.now c.loop-number.number c.index-objects-number.result c.loop-number-test.true c.index-objects-number.is) refl c.loop-number.invariant.1 (c.as_slice.ensures.value ∙ c.in_ok-put_initial.ensures.cells) c.loop-number.invariant.0 c.in_ok-open_static.ensures.objects,
  omega (arith, c.loop-number.invariant.1, c.in_ok-open_static.ensures.opened),
  (let d = length-map c.args.p.now.globals plain_object in let e = ap (λ objects. length objects) c.as_slice-objects.ensures in omega (arith, d, e, c.loop-number-test.true)),
  c.in_ok-put_initial.ensures.zero,
)

pub returns : goal.returns
returns c = has_statics (plain_program c.args.p.now) (λ o. initial_cells (plain_program c.args.p.now) o.type o.initializer) c.loop-number.store c.open_literals.new.store (map plain_literal c.as_slice-2.result.now) c.loop-number.number (length c.as_slice-2.result.now) (let d = length-map c.args.p.now.globals plain_object in let e = ap (λ objects. length objects) c.as_slice-objects.ensures in omega (arith, d, e, c.loop-number-test.false)) c.loop-number.invariant.2 c.loop-number.invariant.0 c.loop-number.invariant.1
    c.in_ok-open_literals.ensures.objects c.in_ok-open_literals.ensures.opened (ap (λ ls. map plain_literal ls) c.as_slice-2.ensures) (ap (λ ls. length ls) c.as_slice-2.ensures ∙ sym (length-map c.args.p.now.literals plain_literal))
