-- Each turn writes the first of the scalars that are left.
use Rattle.std.proofs.Common.{suc, ◌+◌, drop, map, refl, sym, ◌∙◌, ap, subst, arith, Err}
use Rattle.std.proofs.lemmas.Result.{err_from_is_err_and}
use Rattle.p10_core.specs.Types.{plain_type, bare}
use Rattle.p10_core.specs.Sizes.{scalars_of}
use Rattle.p10_core.specs.Views.{plain_types, plain_item}
use Rattle.p10_meaning.specs.Pointers.{holding}
use Rattle.p10_meaning.specs.States.{step, or_undefined}
use Rattle.p10_meaning.specs.Statements.{write_part, goes, fill}
use Rattle.p10_code.specs.Machine.{listed_in}
use Rattle.p10_machine.specs.declared.machine.Machine.{Machine}
use Rattle.p10_machine.specs.Listing.{ArePassed, IsListed}
use Rattle.p10_machine.specs.Views.{slot_of, state_of}
use Rattle.p10_machine.proofs.Copied.{cut_by}
use Rattle.p10_machine.proofs.Filled.{passed_later, fill_step, fill_next, fill_done}
use Rattle.p10_machine.proofs.filling.fill_scalars.Goals as goal

pub loop-i-init : goal.loop-i-init
loop-i-init c = record { filled = λ io frame. refl; passed = λ j le. refl; same = refl }

pub scalar_for-requires-clause-passed : goal.scalar_for-requires-clause-passed
scalar_for-requires-clause-passed c =
    subst (λ (m : Machine). ArePassed c.loop-i.i (map plain_item c.args.listed.items.now) (slot_of m) c.args.listed.slot c.in-Some.at.place c.in-Some.at.slot) (sym c.loop-i.invariant.same) (c.in-Some.ensures.passed (slot_of c.args.m.now) c.args.listed.slot c.loop-i.invariant.passed)

pub loop-i-preserved : goal.loop-i-preserved
loop-i-preserved c = record {
  filled = λ io frame.
      fill_next c.args.place.0 (listed_in c.args.listed.slot (map plain_item c.args.listed.items.now) (slot_of c.args.m.now)) (scalars_of (plain_types c.args.types.0.now) (bare (plain_types c.args.types.0.now) (plain_type c.args.types.1.now))) c.loop-i.i (c.loop-i.i + 1) c.args.place.1 frame _ (state_of c.loop-i.left c.loop-i.m.outside io) (state_of c.in_ok-left-in-Ok.left c.fill_scalar.new.outside io) c.in-Ok.x refl (c.loop-i.invariant.filled io frame)
      (subst (λ (m : Machine). IsListed (scalars_of (plain_types c.args.types.0.now) (bare (plain_types c.args.types.0.now) (plain_type c.args.types.1.now))) c.loop-i.i (listed_in c.args.listed.slot (map plain_item c.args.listed.items.now) (slot_of m)) c.in-Ok.x) c.loop-i.invariant.same c.in-Ok.ensures)
      (c.in_ok-left-in-Ok.ensures io (λ w. fill c.args.place.0 (listed_in c.args.listed.slot (map plain_item c.args.listed.items.now) (slot_of c.args.m.now)) (drop (suc c.loop-i.i) (scalars_of (plain_types c.args.types.0.now) (bare (plain_types c.args.types.0.now) (plain_type c.args.types.1.now)))) (suc c.loop-i.i) c.args.place.1 frame w));
  passed = passed_later c.loop-i.i (c.loop-i.i + 1) (map plain_item c.args.listed.items.now) (slot_of c.args.m.now) c.args.listed.slot c.in-Some.at.place c.in-Some.at.slot (omega arith) (c.in-Some.ensures.passed (slot_of c.args.m.now) c.args.listed.slot c.loop-i.invariant.passed);
  same = ap (λ (m : Machine). record m { outside = c.fill_scalar.new.outside }) c.loop-i.invariant.same;
}

pub returns-in_err-left-in-Ok-clause-filled : goal.returns-in_err-left-in-Ok-clause-filled
returns-in_err-left-in-Ok-clause-filled c = λ io frame.
    let p = err_from_is_err_and c.from_residual.result c.from_residual.ensures.1 in
    cut_by (fill c.args.place.0 (listed_in c.args.listed.slot (map plain_item c.args.listed.items.now) (slot_of c.args.m.now)) (scalars_of (plain_types c.args.types.0.now) (bare (plain_types c.args.types.0.now) (plain_type c.args.types.1.now))) 0 c.args.place.1 frame (state_of c.args.steps c.args.m.now.outside io))
    (step (state_of c.loop-i.left c.loop-i.m.outside io) (λ w. or_undefined (write_part w.objects c.args.place.1 c.loop-i.i (holding c.in-Ok.x)) c.args.place.0 w (λ objects. fill c.args.place.0 (listed_in c.args.listed.slot (map plain_item c.args.listed.items.now) (slot_of c.args.m.now)) (drop (suc c.loop-i.i) (scalars_of (plain_types c.args.types.0.now) (bare (plain_types c.args.types.0.now) (plain_type c.args.types.1.now)))) (suc c.loop-i.i) c.args.place.1 frame (record w { objects = objects }))))
    (λ left. fill c.args.place.0 (listed_in c.args.listed.slot (map plain_item c.args.listed.items.now) (slot_of c.args.m.now)) (drop (suc c.loop-i.i) (scalars_of (plain_types c.args.types.0.now) (bare (plain_types c.args.types.0.now) (plain_type c.args.types.1.now)))) (suc c.loop-i.i) c.args.place.1 frame (state_of left c.fill_scalar.new.outside io))
    (λ left. goes frame (state_of left c.fill_scalar.new.outside io)) c.from_residual.result _ c.fill_scalar.new.outside io (p.1 ∙ ap (λ y. Err y) p.2)
    (c.loop-i.invariant.filled io frame ∙ fill_step c.args.place.0 (listed_in c.args.listed.slot (map plain_item c.args.listed.items.now) (slot_of c.args.m.now)) (scalars_of (plain_types c.args.types.0.now) (bare (plain_types c.args.types.0.now) (plain_type c.args.types.1.now))) c.loop-i.i c.args.place.1 frame (state_of c.loop-i.left c.loop-i.m.outside io) c.in-Ok.x (subst (λ (m : Machine). IsListed (scalars_of (plain_types c.args.types.0.now) (bare (plain_types c.args.types.0.now) (plain_type c.args.types.1.now))) c.loop-i.i (listed_in c.args.listed.slot (map plain_item c.args.listed.items.now) (slot_of m)) c.in-Ok.x) c.loop-i.invariant.same c.in-Ok.ensures))
    (c.in_err-left-in-Ok.ensures io (λ w. fill c.args.place.0 (listed_in c.args.listed.slot (map plain_item c.args.listed.items.now) (slot_of c.args.m.now)) (drop (suc c.loop-i.i) (scalars_of (plain_types c.args.types.0.now) (bare (plain_types c.args.types.0.now) (plain_type c.args.types.1.now)))) (suc c.loop-i.i) c.args.place.1 frame w))

pub returns-in_err-left-in-Ok-clause-same : goal.returns-in_err-left-in-Ok-clause-same
returns-in_err-left-in-Ok-clause-same c = ap (λ (m : Machine). record m { outside = c.fill_scalar.new.outside }) c.loop-i.invariant.same

pub returns-clause-filled : goal.returns-clause-filled
returns-clause-filled c = λ io frame.
    fill_done c.args.place.0 (listed_in c.args.listed.slot (map plain_item c.args.listed.items.now) (slot_of c.args.m.now)) (scalars_of (plain_types c.args.types.0.now) (bare (plain_types c.args.types.0.now) (plain_type c.args.types.1.now))) c.loop-i.i c.args.place.1 frame _ (state_of c.loop-i.left c.loop-i.m.outside io) (omega (arith, c.loop-i-test.false, c.requires.width)) (c.loop-i.invariant.filled io frame)
