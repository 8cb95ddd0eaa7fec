use Rattle.p10_core.specs.Views.{plain_statement}
use Rattle.p10_pass.proofs.Marked.{assigned_told}
use Rattle.p10_pass.proofs.marks.assigned_marks.Goals as goal

pub returns : goal.returns
returns c = assigned_told (plain_statement c.args.s.now) c.args.count c.in_ok-marks.marks.items c.mark_statement.new.marks.items c.in_ok-marks.ensures c.mark_statement.ensures
