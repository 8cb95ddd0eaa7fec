use Rattle.p10_pprules.proofs.Using.{used_more}
use Rattle.p10_pprules.proofs.recursion.used_in.Goals as goal

pub loop-word-preserved : goal.loop-word-preserved
loop-word-preserved c =
    used_more c.args.names.now c.args.parameters.now c.args.words.now c.loop-word.word-index _ c.loop-word.places.items _ c.loop-word-test.true c.loop-word.invariant c.in_ok-push_used.ensures
