use Rattle.std.proofs.Common.{arith}
use Rattle.p10_expand.proofs.ItemLines.{CutsLine, line_cut, one_put, one_named}
use Rattle.p10_expand.proofs.expansion.items.new_items.Goals as goal

pub loop-place-preserved : goal.loop-place-preserved
loop-place-preserved c =
    let cut : CutsLine c.args.words.now c.loop-place.place c.split_line.result.0.now c.split_line.result.1.now = line_cut _ _ _ _ c.loop-place-test.true c.split_line.ensures.value in
    record {
      within = omega arith;
      out = one_put _ _ _ _ _ _ _ _ cut c.in_ok-put_item.ensures _ c.loop-place.invariant.out;
      names = one_named _ _ _ _ _ _ _ _ cut c.in_ok-put_item.ensures _ c.loop-place.invariant.names;
    }
