use Rattle.std.proofs.Common.{sym, ◌∙◌}
use Rattle.p10_lex.proofs.Digits.{step_small, step_takes, value_found, value_none}
use Rattle.p10_lex.proofs.integers.value_of.Goals as goal

pub returns-in-None : goal.returns-in-None
returns-in-None c = value_none _ _ _ _ _ (sym c.is_empty.ensures ∙ c.if-is_empty.false) c.loop-byte-test.true c.in-None.ensures c.loop-byte.invariant.so_far

pub returns : goal.returns
returns c = value_found _ _ _ _ (sym c.is_empty.ensures ∙ c.if-is_empty.false) c.loop-byte-test.false c.loop-byte.invariant.small c.loop-byte.invariant.so_far

pub loop-byte-preserved : goal.loop-byte-preserved
loop-byte-preserved c = record {
  small = step_small _ _ _ _ (sym c.in-Some.ensures);
  so_far = c.loop-byte.invariant.so_far ∙ step_takes _ _ _ _ _ _ c.loop-byte-test.true c.in-Some.ensures;
}
