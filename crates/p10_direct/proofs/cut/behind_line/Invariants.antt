use Rattle.std.proofs.Common.{◌≡◌, length, map}
use Rattle.p10_base.specs.Words.{plain_word}
use Rattle.p10_direct.specs.Cutting.{behind}
use Rattle.p10_direct.proofs.cut.behind_line.Given as goal

-- what is looked for lies in what is left
abbrev pub invariant-loop-rest : goal.invariant-loop-rest
invariant-loop-rest l = behind (λ word. word.first) (map plain_word l.rest) ≡ behind (λ word. word.first) (map plain_word l.words)

abbrev pub decreases-loop-rest : goal.decreases-loop-rest
decreases-loop-rest l = length l.rest
