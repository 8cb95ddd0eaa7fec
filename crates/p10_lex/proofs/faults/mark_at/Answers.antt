use Rattle.std.proofs.Common.{arith, ◌∙◌, sym}
use Rattle.p10_lex.proofs.Marks.{mark_more, length_rest}
use Rattle.p10_lex.proofs.faults.mark_at.Goals as goal

pub loop-rest-preserved : goal.loop-rest-preserved
loop-rest-preserved c = (
  length_rest c.loop-rest.offset c.loop-rest.rest.now _ (omega arith) c.loop-rest.invariant.0,
  mark_more c.loop-rest.offset c.loop-rest.left c.loop-rest.rest.now (omega arith) (omega arith)
      (omega (arith, c.splice_length.ensures.value)) (sym c.if-begins_trigraph.ensures) ∙ c.loop-rest.invariant.1,
)
