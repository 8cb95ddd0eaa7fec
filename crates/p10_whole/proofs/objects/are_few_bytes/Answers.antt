use Rattle.std.proofs.Common.{◌≤◌, subst, sym, arith}
use Rattle.p10_base.specs.declared.report.TheConstants.Limit.{MOST_STATIC_BYTES}
use Rattle.p10_core.specs.Views.{plain_object}
use Rattle.p10_whole.proofs.Each.{sum_next, sum_end}
use Rattle.p10_whole.proofs.objects.are_few_bytes.Goals as goal

pub loop-object-preserved : goal.loop-object-preserved
loop-object-preserved c = record {
  within = grind arith;
  all = sum_next plain_object (λ o. o.bytes) _ _ c.args.all.now c.loop-object.object-index c.object-item.result c.loop-object-test.true c.object-item.is c.loop-object.invariant.all;
}

pub returns : goal.returns
returns c = record { shows = λ _. subst (λ n. n ≤ MOST_STATIC_BYTES) (sym (sum_end plain_object (λ o. o.bytes) _ _ c.args.all.now c.loop-object.object-index c.loop-object-test.false c.loop-object.invariant.all)) c.loop-object.invariant.within }
