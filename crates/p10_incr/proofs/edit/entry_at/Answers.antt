use Rattle.std.proofs.Common.{◌∙◌}
use Rattle.p10_incr.specs.private.Entries.{entry_at}
use Rattle.p10_incr.proofs.Entries.{entry_there}
use Rattle.p10_incr.proofs.edit.entry_at.Goals as goal

pub returns : goal.returns
returns c =
    c.entry_of.ensures ∙ (λ i. entry_at (c.func_at-func.ensures i) (c.kept_at-digest.ensures i))
    ∙ entry_there c.args.certificate.now.base.funcs c.args.certificate.now.digests c.args.number
