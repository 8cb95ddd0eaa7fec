-- The next cell is put.
use Rattle.std.proofs.Common.{◌+◌, [], map, refl, subst, ◌∙◌, arith}
use Rattle.p10_core.specs.Types.{plain_type, bare}
use Rattle.p10_core.specs.Sizes.{scalars_of}
use Rattle.p10_core.specs.Views.{plain_types, plain_item}
use Rattle.p10_meaning.specs.Opening.{listed_cells}
use Rattle.p10_interp.specs.private.Operations.{scalars_of_items}
use Rattle.p10_interp.specs.private.Releasing.{PutsAt}
use Rattle.p10_interp.proofs.Filled.{listed_all}
use Rattle.p10_interp.proofs.Requested.{puts_next}
use Rattle.p10_interp.proofs.Ordered.{same_scalars, list_later}
use Rattle.p10_interp.proofs.constants.put_listed_cells.Goals as goal

pub loop-i-preserved : goal.loop-i-preserved
loop-i-preserved c = (
  puts_next [] c.loop-i.cells.items c.put_listed_cell.new.cells.items (listed_cells 0 (scalars_of (plain_types c.args.types.now) (bare (plain_types c.args.types.now) (plain_type c.args.t.now))) (scalars_of_items (map plain_item c.args.listed.items.now) c.args.listed.values.now)) c.loop-i.i (c.loop-i.i + 1) refl c.loop-i.invariant.0
      (subst (λ xs. PutsAt c.loop-i.cells.items (listed_cells 0 (scalars_of (plain_types c.args.types.now) (bare (plain_types c.args.types.now) (plain_type c.args.t.now))) xs) c.loop-i.i c.put_listed_cell.new.cells.items) (same_scalars c.passed-listed.result.items.now c.args.listed.items.now c.passed-listed.result.values.now c.args.listed.values.now (c.passed-listed.ensures.items ∙ c.loop-i.invariant.1) (c.passed-listed.ensures.values ∙ c.loop-i.invariant.2)) c.in_ok-put_listed_cell.ensures),
  c.passed-listed.ensures.items ∙ c.loop-i.invariant.1,
  c.passed-listed.ensures.values ∙ c.loop-i.invariant.2,
  list_later c.loop-i.i (c.loop-i.i + 1) (map plain_item c.passed-listed.result.items.now) c.passed-listed.result.values.now c.passed-listed.result.ordered c.passed-listed.result.place c.passed-listed.result.used (omega arith) c.passed-listed.ensures.list,
)

pub returns : goal.returns
returns c = listed_all (scalars_of (plain_types c.args.types.now) (bare (plain_types c.args.types.now) (plain_type c.args.t.now))) (scalars_of_items (map plain_item c.args.listed.items.now) c.args.listed.values.now) c.loop-i.i c.loop-i.cells.items (omega (arith, c.loop-i-test.false, c.requires.width)) c.loop-i.invariant.0
