-- The mark of the block is the last of all.
use Rattle.std.proofs.Common.{sym, ◌∙◌}
use Rattle.p10_interp.proofs.LeftCalls.{leaves_marked}
use Rattle.p10_interp.proofs.calls.Calls.leave_block.Goals as goal

pub returns-then-has_mark : goal.returns-then-has_mark
returns-then-has_mark c = leaves_marked c.args.self.now c.drop_mark.new.self c.drop_mark.ensures.bases c.drop_mark.ensures.held c.drop_mark.ensures.marks (sym c.has_mark.ensures ∙ c.if-has_mark.true)
