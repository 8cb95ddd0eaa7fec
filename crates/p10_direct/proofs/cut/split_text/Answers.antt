use Rattle.std.proofs.Common.{arith, length, ◌≤◌}
use Rattle.p10_direct.specs.Lines.{begins_directive}
use Rattle.p10_direct.proofs.Cuts.{behind_below, split_taken}
use Rattle.p10_direct.proofs.cut.split_text.Goals as goal

pub slice_bounds-result-count : goal.slice_bounds-result-count
slice_bounds-result-count c = omega (arith, behind_below begins_directive _ _ (let h : 1 ≤ length c.args.words.now = omega arith in h) c.behind_text-after.ensures)

pub returns-clause-value : goal.returns-clause-value
returns-clause-value c = split_taken begins_directive _ _ (let h : 1 ≤ length c.args.words.now = omega arith in h) c.behind_text-after.ensures

pub returns-clause-shorter : goal.returns-clause-shorter
returns-clause-shorter c = behind_below begins_directive _ _ (let h : 1 ≤ length c.args.words.now = omega arith in h) c.behind_text-after.ensures
