use Rattle.std.proofs.Common.{◌≡◌, [], ◌∷◌, map, length}
use Rattle.p10_pexpr.specs.ExpressionReading.{strings_from}
use Rattle.p10_pexpr.proofs.operand.strings.Given as goal

abbrev pub invariant-loop-text : goal.invariant-loop-text
invariant-loop-text l = strings_from (map (λ text. text.now) l.texts.items) l.cursor ≡ strings_from (l.fn.first ∷ []) l.fn.cursor

abbrev pub decreases-loop-text : goal.decreases-loop-text
decreases-loop-text l = length l.cursor
