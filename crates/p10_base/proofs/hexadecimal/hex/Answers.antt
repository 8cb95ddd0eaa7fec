use Rattle.std.proofs.Common.{arith, ◌∙◌}
use Rattle.std.proofs.lemmas.List.{length-set}
use Rattle.p10_base.proofs.HexText.{hex_more}
use Rattle.p10_base.proofs.hexadecimal.hex.Goals as goal

pub loop-i-preserved : goal.loop-i-preserved
loop-i-preserved c = record {
  size = length-set _ _ _ ∙ (length-set _ _ _ ∙ c.loop-i.invariant.size);
  done = hex_more c.loop-i.text c.args.bytes.now c.loop-i.i _ _ (omega arith) (omega (arith, c.loop-i.invariant.size)) c.loop-i.invariant.done c.hex_digit-high.ensures c.hex_digit-low.ensures;
}
