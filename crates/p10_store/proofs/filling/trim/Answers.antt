-- One dead slot less, until there is none.
use Rattle.std.proofs.Common.{◌∙◌, sym, subst}
use Rattle.p10_store.specs.Places.{AreTrimmed}
use Rattle.p10_store.proofs.TrimmedSlots.{trim_pops, trim_ends}
use Rattle.p10_store.proofs.filling.trim.Goals as goal

pub loop-slot-preserved : goal.loop-slot-preserved
loop-slot-preserved c = (
  subst (λ cells. AreTrimmed c.args.cells.now.items c.args.slots.now.items cells c.take_dead.new.slots.items) (sym c.truncate.ensures.items)
      (trim_pops _ _ _ _ _ _ c.loop-slot.invariant.0 c.in-Some.ensures.last.0 c.in-Some.ensures.last.1),
  c.in-Some.ensures.room ∙ c.loop-slot.invariant.1,
  c.truncate.ensures.capacity ∙ c.loop-slot.invariant.2,
)

pub returns-clause-cells : goal.returns-clause-cells
returns-clause-cells c = (trim_ends _ _ _ _ c.loop-slot.invariant.0 c.in_default.ensures.last.1).1
