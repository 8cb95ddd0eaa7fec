use Rattle.std.specs.Prelude.{reverse}
use Rattle.p10_macros.proofs.Parts.{IsCounting}
use Rattle.p10_macros.proofs.ahead.Ahead.arguments.Given as goal

-- `count` arguments were counted
abbrev pub invariant-loop-place : goal.invariant-loop-place
invariant-loop-place l = IsCounting (reverse l.self.words.items) l.exits.call l.place l.count

abbrev pub decreases-loop-place : goal.decreases-loop-place
decreases-loop-place l = l.place
