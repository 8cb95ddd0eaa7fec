use Rattle.std.proofs.Common.{◌≡◌, ◌++◌, length, map, take, drop}
use Rattle.p10_base.specs.Words.{plain_words}
use Rattle.p10_digests.specs.Lines.{hashed_lines, all_words, tree_words}
use Rattle.p10_digests.proofs.functions.put_tree.Given as goal

abbrev pub invariant-loop-rest : goal.invariant-loop-rest
invariant-loop-rest l =
    l.text.items ++ hashed_lines (take l.left (drop l.skip (all_words (map (λ words. plain_words words.items) l.rest))))
    ≡ l.fn.text.items ++ hashed_lines (tree_words (map (λ words. plain_words words.items) l.roots) l.fn.at)

abbrev pub decreases-loop-rest : goal.decreases-loop-rest
decreases-loop-rest l = length l.rest
