use Rattle.p10_core.specs.Views.{plain_statement}
use Rattle.p10_walk.proofs.Marked.{changed_told}
use Rattle.p10_walk.proofs.marks.changed_marks.Goals as goal

pub returns : goal.returns
returns c = changed_told (plain_statement c.args.s.now) c.args.count c.in_ok-marks.marks.items c.mark_statement.new.marks.items c.in_ok-marks.ensures c.mark_statement.ensures
