-- No call is open where no base is there.
use Rattle.std.proofs.Common.{sym, ◌∙◌, ap, reverse}
use Rattle.p10_interp.specs.private.Nothing.{is_nil}
use Rattle.p10_interp.proofs.OpenedCalls.{nil_calls}
use Rattle.p10_interp.proofs.calls.Calls.is_idle.Goals as goal

pub returns : goal.returns
returns c =
    c.is_nothing.ensures ∙ (ap (λ bases. is_nil (reverse bases)) c.deref.ensures.value ∙
    sym (nil_calls (reverse c.args.self.now.bases.items) c.args.self.now.held.items c.args.self.now.marks.items))
