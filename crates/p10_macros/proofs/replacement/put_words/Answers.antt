use Rattle.std.proofs.Common.{length, arith}
use Rattle.std.proofs.lemmas.List.{drop_all}
use Rattle.p10_macros.proofs.Putting.{puts_none, puts_more, drop_from}
use Rattle.p10_macros.proofs.replacement.put_words.Goals as goal

pub loop-place-init : goal.loop-place-init
loop-place-init c = record { inside = omega arith; puts = puts_none _ _ _ (drop_all (length c.args.words.now) c.args.words.now (omega arith)) }

pub loop-place-preserved : goal.loop-place-preserved
loop-place-preserved c = record {
  inside = omega arith;
  puts = puts_more _ _ _ _ _ _ _ _ _ (drop_from c.args.words.now c.loop-place.place _ c.loop-place-test.true c.loop-place.invariant.inside) c.loop-place.invariant.puts c.in_ok-left.ensures.ok;
}
