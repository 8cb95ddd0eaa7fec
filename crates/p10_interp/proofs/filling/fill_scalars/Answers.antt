-- Each turn writes the first of the scalars that are left.
use Rattle.std.proofs.Common.{suc, ◌+◌, ◌≡◌, drop, map, refl, ◌∙◌, ap, subst, arith, Err}
use Rattle.std.proofs.lemmas.Result.{err_from_is_err_and}
use Rattle.p10_core.specs.Types.{plain_type, bare}
use Rattle.p10_core.specs.Sizes.{scalars_of}
use Rattle.p10_core.specs.Views.{plain_types, plain_item}
use Rattle.p10_meaning.specs.Statements.{fill}
use Rattle.p10_interp.specs.private.Operations.{scalars_of_items}
use Rattle.p10_interp.specs.private.Machines.{state_of}
use Rattle.p10_interp.proofs.Filled.{fill_next, fill_stopped, fill_done}
use Rattle.p10_interp.proofs.Ordered.{same_scalars, list_later}
use Rattle.p10_interp.proofs.filling.fill_scalars.Goals as goal

pub loop-i-preserved : goal.loop-i-preserved
loop-i-preserved c = (
  λ io frame.
      fill_next c.args.place.0 (scalars_of_items (map plain_item c.args.listed.items.now) c.args.listed.values.now) (scalars_of (plain_types c.args.types.now) (bare (plain_types c.args.types.now) (plain_type c.args.t.now))) c.loop-i.i (c.loop-i.i + 1) c.args.place.1 frame _ (state_of c.loop-i.outside io) (state_of c.fill_scalar.new.outside io) refl (c.loop-i.invariant.0 io frame)
      (subst (λ xs. fill c.args.place.0 xs (drop c.loop-i.i (scalars_of (plain_types c.args.types.now) (bare (plain_types c.args.types.now) (plain_type c.args.t.now)))) c.loop-i.i c.args.place.1 frame (state_of c.loop-i.outside io) ≡ fill c.args.place.0 xs (drop (suc c.loop-i.i) (scalars_of (plain_types c.args.types.now) (bare (plain_types c.args.types.now) (plain_type c.args.t.now)))) (suc c.loop-i.i) c.args.place.1 frame (state_of c.fill_scalar.new.outside io)) (same_scalars c.passed-listed.result.items.now c.args.listed.items.now c.passed-listed.result.values.now c.args.listed.values.now (c.passed-listed.ensures.items ∙ c.loop-i.invariant.1) (c.passed-listed.ensures.values ∙ c.loop-i.invariant.2)) (c.in_ok-fill_scalar.ensures io frame)),
  c.passed-listed.ensures.items ∙ c.loop-i.invariant.1,
  c.passed-listed.ensures.values ∙ c.loop-i.invariant.2,
  list_later c.loop-i.i (c.loop-i.i + 1) (map plain_item c.passed-listed.result.items.now) c.passed-listed.result.values.now c.passed-listed.result.ordered c.passed-listed.result.place c.passed-listed.result.used (omega arith) c.passed-listed.ensures.list,
)

pub returns-in_err-fill_scalar : goal.returns-in_err-fill_scalar
returns-in_err-fill_scalar c = λ io frame.
    let p = err_from_is_err_and c.from_residual.result c.from_residual.ensures.1 in
    fill_stopped c.args.place.0 (scalars_of_items (map plain_item c.args.listed.items.now) c.args.listed.values.now) (scalars_of_items (map plain_item c.passed-listed.result.items.now) c.passed-listed.result.values.now) (scalars_of (plain_types c.args.types.now) (bare (plain_types c.args.types.now) (plain_type c.args.t.now))) c.loop-i.i c.args.place.1 frame (fill c.args.place.0 (scalars_of_items (map plain_item c.args.listed.items.now) c.args.listed.values.now) (scalars_of (plain_types c.args.types.now) (bare (plain_types c.args.types.now) (plain_type c.args.t.now))) 0 c.args.place.1 frame (state_of c.args.outside.now io)) (state_of c.loop-i.outside io) (state_of c.fill_scalar.new.outside io) c.from_residual.result _
    (same_scalars c.passed-listed.result.items.now c.args.listed.items.now c.passed-listed.result.values.now c.args.listed.values.now (c.passed-listed.ensures.items ∙ c.loop-i.invariant.1) (c.passed-listed.ensures.values ∙ c.loop-i.invariant.2)) (p.1 ∙ ap (λ y. Err y) p.2) (c.loop-i.invariant.0 io frame) (c.in_err-fill_scalar.ensures io frame)

pub returns : goal.returns
returns c = λ io frame.
    fill_done c.args.place.0 (scalars_of_items (map plain_item c.args.listed.items.now) c.args.listed.values.now) (scalars_of (plain_types c.args.types.now) (bare (plain_types c.args.types.now) (plain_type c.args.t.now))) c.loop-i.i c.args.place.1 frame _ (state_of c.loop-i.outside io) (omega (arith, c.loop-i-test.false, c.requires.width)) (c.loop-i.invariant.0 io frame)
