use Rattle.std.proofs.Common.{◌≡◌, None, drop}
use Rattle.p10_program.specs.FirstProblems.{first_with}
use Rattle.p10_program.proofs.earliest.first_problem.Given as goal

abbrev pub invariant-loop-problem : goal.invariant-loop-problem
invariant-loop-problem l = first_with l.found (drop l.problem-index l.problems) ≡ first_with None l.problems
