use Rattle.std.proofs.Common.{◌∙◌, arith, rules}
use Rattle.p10_expand.proofs.LineWords.{seven_words, few_words, some_words, many_words}
use Rattle.p10_expand.proofs.expansion.guard.asked_name.Goals as goal
use Rattle.p10_expand.proofs.expansion.guard.asked_name.Goals.{in_default-via-then-line-lt3, in_default-via-else-line-lt3+else-line-lt4+then-line-lt7, in_default-via-else-line-lt3+else-line-lt4+else-line-lt7+else-line-lt8}

pub returns-in-len7 : goal.returns-in-len7
returns-in-len7 c = c.asked_by_if.ensures ∙ seven_words c.args.line.now _ (omega (arith, c.in-len7.len_at_least)) (omega (arith, c.in-len7.len_below))

pub returns-in_default : goal.returns-in_default
returns-in_default c = elim c.in_default.branch [
  | in_default-via-then-line-lt3 w ↦ few_words c.args.line.now (search rules)
  | in_default-via-else-line-lt3+else-line-lt4+then-line-lt7 w ↦ some_words c.args.line.now (search rules) (search rules)
  | in_default-via-else-line-lt3+else-line-lt4+else-line-lt7+else-line-lt8 w ↦ many_words c.args.line.now (search rules)
]
