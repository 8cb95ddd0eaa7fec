-- A literal may not be written.
use Rattle.std.proofs.Common.{◌∙◌, sym}
use Rattle.p10_store.proofs.CellsOfPointers.{may_not, may}
use Rattle.p10_store.proofs.finding.target_place.Goals as goal

pub returns-then-is_writable : goal.returns-then-is_writable
returns-then-is_writable c = may _ _ _ _ _ c.in-Ok.ensures (sym c.is_writable.ensures ∙ c.if-is_writable.true)

pub returns-else-is_writable : goal.returns-else-is_writable
returns-else-is_writable c = may_not _ _ _ _ _ c.in-Ok.ensures (sym c.is_writable.ensures ∙ c.if-is_writable.false)
