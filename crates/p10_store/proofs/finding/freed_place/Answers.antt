-- What `free` does, by the slot of the number.
use Rattle.std.proofs.Common.{◌∙◌, sym}
use Rattle.p10_store.proofs.FreedObjects.{answers_freed, answers_kept, answers_none}
use Rattle.p10_store.proofs.finding.freed_place.Goals as goal

pub returns-then-is_freed : goal.returns-then-is_freed
returns-then-is_freed c = answers_freed _ _ _ _ _ _ _ _ c.in-To.is c.requires.growing c.in-Some.ensures (sym c.is_freed.ensures ∙ c.if-is_freed.true)

pub returns-else-is_freed : goal.returns-else-is_freed
returns-else-is_freed c = answers_kept _ _ _ _ _ _ _ _ c.in-To.is c.requires.growing c.in-Some.ensures (sym c.is_freed.ensures ∙ c.if-is_freed.false)

pub returns-in-None : goal.returns-in-None
returns-in-None c = answers_none _ _ _ _ _ _ c.in-To.is c.in-None.ensures
