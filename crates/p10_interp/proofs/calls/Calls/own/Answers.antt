-- The object's number stands after all other marks.
use Rattle.std.proofs.Common.{refl}
use Rattle.p10_interp.proofs.OpenedCalls.{marked_owned}
use Rattle.p10_interp.proofs.calls.Calls.own.Goals as goal

pub returns-then-has_marks-clause-ok : goal.returns-then-has_marks-clause-ok
returns-then-has_marks-clause-ok c = marked_owned c.mark.result c.args.self.now c.mark.new.self c.args.object c.mark.ensures.bases c.mark.ensures.held c.mark.ensures.ok (c.if-has_marks.ensures refl)
