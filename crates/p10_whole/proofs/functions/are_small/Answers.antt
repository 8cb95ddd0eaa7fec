use Rattle.std.proofs.Common.{◌≤◌, subst, sym, arith}
use Rattle.p10_base.specs.declared.report.TheConstants.Limit.{MOST_OBJECT_BYTES}
use Rattle.p10_core.specs.Views.{plain_variable}
use Rattle.p10_whole.proofs.Each.{sum_next, sum_end}
use Rattle.p10_whole.proofs.functions.are_small.Goals as goal

pub loop-variable-preserved : goal.loop-variable-preserved
loop-variable-preserved c = record {
  within = grind arith;
  all = sum_next plain_variable (λ v. v.bytes) _ _ c.args.variables.now c.loop-variable.variable-index c.variable-item.result c.loop-variable-test.true c.variable-item.is c.loop-variable.invariant.all;
}

pub returns : goal.returns
returns c = record { shows = λ _. subst (λ n. n ≤ MOST_OBJECT_BYTES) (sym (sum_end plain_variable (λ v. v.bytes) _ _ c.args.variables.now c.loop-variable.variable-index c.loop-variable-test.false c.loop-variable.invariant.all)) c.loop-variable.invariant.within }
