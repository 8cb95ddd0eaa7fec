use Rattle.p10_core.specs.Views.{plain_program}
use Rattle.p10_cert.specs.Claims.{claims_of}
use Rattle.p10_clean.proofs.Functions.{functions_next}
use Rattle.p10_clean.proofs.cleaning.push_functions.Goals as goal

pub loop-n-preserved : goal.loop-n-preserved
loop-n-preserved c =
    functions_next (plain_program c.args.p.now) (claims_of c.args.c.now) _ c.loop-n.flaws.items c.push_function.new.flaws.items c.args.functions.now c.loop-n.n c.index-functions-n.result
    c.loop-n-test.true c.index-functions-n.is c.in_ok-push_function.ensures c.loop-n.invariant
