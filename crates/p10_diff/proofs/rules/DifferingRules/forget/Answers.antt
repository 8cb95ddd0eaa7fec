use Rattle.std.proofs.Common.{length}
use Rattle.p10_core.specs.Views.{plain_statement}
use Rattle.p10_meaning.specs.Variables.{may_change}
use Rattle.p10_diff.proofs.Shown.{marks_shown}
use Rattle.p10_diff.proofs.rules.DifferingRules.forget.Goals as goal

pub forget_marks-requires : goal.forget_marks-requires
forget_marks-requires c =
    marks_shown (λ n. may_change n (plain_statement c.args.s.now)) (length c.args.self.now.pair.variables.now) c.in_ok-marks.marks.items c.as_slice.result.now c.as_slice.ensures.value c.in_ok-marks.ensures
