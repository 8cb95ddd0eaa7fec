-- A slot is found exactly where an object is.
use Rattle.std.proofs.Common.{sym, ap, is_some, ◌∙◌}
use Rattle.p10_store.proofs.FoundObjects.{live_same, some_map}
use Rattle.p10_store.proofs.finding.is_live.Goals as goal

pub returns : goal.returns
returns c = c.is_some.ensures ∙ (sym (some_map (λ s. s.now) c.slot_of.result) ∙ (ap is_some c.slot_of.ensures ∙ sym (live_same c.args.number c.args.cells.now c.args.slots.now)))
