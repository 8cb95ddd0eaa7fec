use Rattle.std.proofs.lemmas.Result.{err_from_is_err_and}
use Rattle.p10_gen.specs.private.Making.{call_text}
use Rattle.p10_gen.proofs.Making.{below_fault, below_first, below_more}
use Rattle.p10_gen.proofs.functions.put_calls.Goals as goal

pub loop-k-init : goal.loop-k-init
loop-k-init c = below_first call_text c.args.text.now

pub loop-k-preserved : goal.loop-k-preserved
loop-k-preserved c = below_more call_text _ _ _ c.loop-k.k c.loop-k.invariant c.in_ok-put_call.ensures.ok

pub returns-in_err-put_call-clause-fault : goal.returns-in_err-put_call-clause-fault
returns-in_err-put_call-clause-fault c =
    let p = err_from_is_err_and c.from_residual.result c.from_residual.ensures.1 in
    rw (p.1, p.2) (below_fault call_text _ _ c.loop-k.k _ _ c.loop-k-test.true c.loop-k.invariant c.in_err-put_call.ensures.fault)
