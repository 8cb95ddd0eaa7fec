use Rattle.std.proofs.Common.{◌≡◌, ◌++◌, length, map}
use Rattle.p10_base.specs.Words.{plain_words}
use Rattle.p10_digests.specs.Lines.{roots_outside}
use Rattle.p10_digests.proofs.outside.put_roots.Given as goal

abbrev pub invariant-loop-rest : goal.invariant-loop-rest
invariant-loop-rest l =
    l.text.items ++ roots_outside l.bodies l.number (map (λ words. plain_words words.items) l.rest)
    ≡ l.fn.text.items ++ roots_outside l.bodies 0 (map (λ words. plain_words words.items) l.roots)

abbrev pub decreases-loop-rest : goal.decreases-loop-rest
decreases-loop-rest l = length l.rest
