-- A block is entered by its mark.
use Rattle.std.proofs.Common.{refl}
use Rattle.p10_interp.proofs.OpenedCalls.{marked_entered}
use Rattle.p10_interp.proofs.calls.Calls.enter_block.Goals as goal

pub returns-then-has_marks-clause-ok : goal.returns-then-has_marks-clause-ok
returns-then-has_marks-clause-ok c = marked_entered c.mark.result c.args.self.now c.mark.new.self c.mark.ensures.bases c.mark.ensures.held c.mark.ensures.ok (c.if-has_marks.ensures refl)
