use Rattle.std.proofs.Common.{map, ap}
use Rattle.p10_bindings.specs.Bound.{bound_in}
use Rattle.p10_syn.specs.Trees.{expression_row}
use Rattle.p10_syn.specs.Built.{expression_of}
use Rattle.p10_elabs.specs.Addresses.{taken_in_all}
use Rattle.p10_heads.proofs.ListRows.{cut_list, more_put}
use Rattle.p10_elabs.proofs.Takings.{call_taken, comma_taken}
use Rattle.p10_elabs.proofs.taken.+taking.Goals as goal

pub take_in-returns-in_ok-take_in_all-in-Call : goal.take_in-returns-in_ok-take_in_all-in-Call
take_in-returns-in_ok-take_in_all-in-Call t c =
    call_taken (bound_in c.args.names.now) c.args.e.now c.in-Call.f c.in-Call.all c.deref-in-Call.result.now c.deref-in-Call-2.result.now _ _ _
    c.in-Call.is c.deref-in-Call.ensures c.deref-in-Call-2.ensures.value c.in_ok-take_in-in-Call.ensures c.in_ok-take_in_all-in-Call.ensures

pub take_in-returns-in_ok-take_in_all-in-Comma : goal.take_in-returns-in_ok-take_in_all-in-Comma
take_in-returns-in_ok-take_in_all-in-Comma t c =
    comma_taken (bound_in c.args.names.now) c.args.e.now c.in-Comma.all c.deref-in-Comma.result.now _ _ c.in-Comma.is c.deref-in-Comma.ensures.value c.in_ok-take_in_all-in-Comma.ensures

pub take_in_all-loop-e-preserved : goal.take_in_all-loop-e-preserved
take_in_all-loop-e-preserved t c =
    more_put _ _ _ _ _ _ c.in_ok-take_in.ensures
    (ap (λ xs. taken_in_all (bound_in c.args.names.now) (expression_row (map expression_of xs))) (cut_list c.args.all.now c.loop-e.e-index c.e-item.result c.loop-e-test.true c.e-item.is))
    c.loop-e.invariant
