use Rattle.std.proofs.Common.{◌≡◌, ◌++◌}
use Rattle.p10_gen.specs.private.Making.{function_text, texts_below}
use Rattle.p10_gen.proofs.functions.put_functions.Given as goal

abbrev pub invariant-loop-k : goal.invariant-loop-k
invariant-loop-k l = l.text ≡ l.fn.text ++ texts_below function_text l.k
