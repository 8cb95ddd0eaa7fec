use Rattle.p10_pprules.proofs.Gathered.{texts_more}
use Rattle.p10_pprules.proofs.recursion.names_of.Goals as goal

pub loop-word-preserved : goal.loop-word-preserved
loop-word-preserved c = texts_more c.args.words.now c.loop-word.word-index _ c.loop-word.names c.add.new.self c.loop-word-test.true c.loop-word.invariant c.in_ok-add.ensures.ok
