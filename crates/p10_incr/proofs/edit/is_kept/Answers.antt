use Rattle.std.proofs.Common.{◌∙◌}
use Rattle.p10_incr.specs.Edits.{is_kept}
use Rattle.p10_incr.proofs.edit.is_kept.Goals as goal

pub returns : goal.returns
returns c = c.is_kept_by.ensures ∙ (λ i. is_kept (c.entry_at-old.ensures i) (c.entry_at-new.ensures i) (c.digest_at-found.ensures i))
