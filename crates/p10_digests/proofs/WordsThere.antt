-- The words at a place.
use Rattle.std.proofs.Common.{◌≡◌, ◌+◌, ◌-◌, List, ◌++◌, length, take, drop, ap, ◌∙◌, arith}
use Rattle.std.proofs.Math.Seq.{drop-append_seam, take-append_seam}
use Rattle.p10_base.specs.declared.at.At.{At}
use Rattle.p10_base.specs.Words.{PlainWord}
use Rattle.p10_digests.specs.Lines.{all_words, tree_words}

pub words_stand_there : (roots : List (List PlainWord)) (before words after : List PlainWord) (at : At) → all_words roots ≡ before ++ (words ++ after) → at.first ≡ length before → at.past ≡ at.first + length words → tree_words roots at ≡ words
words_stand_there roots before words after at all first past =
    let count : at.past - at.first ≡ length words = omega (arith, past) in
    ap (λ n. take n (drop at.first (all_words roots))) count
    ∙ ap (λ n. take (length words) (drop n (all_words roots))) first
    ∙ ap (λ ws. take (length words) (drop (length before) ws)) all
    ∙ ap (take (length words)) (drop-append_seam before (words ++ after))
    ∙ take-append_seam words after
