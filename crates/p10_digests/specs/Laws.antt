-- What holds of the lines that are hashed: they are those of the words that they are to be of, and tell these words.
use Rattle.std.specs.Prelude.{◌≡◌, ◌↔◌, ◌+◌, List, ◌++◌, map, flat_map, length}
use Rattle.p10_base.specs.declared.at.At.{At}
use Rattle.p10_base.specs.Words.{PlainWord}
use Rattle.p10_digests.specs.Lines.{hashed_lines, all_words, tree_words, roots_outside}
use Rattle.p10_digests.specs.Bare.{bare_words, AreProgramWords}
use Rattle.p10_digests.specs.Parted.{PartedRoot, root_words, root_bodies, RootsStandFrom, root_lines, runs_of, OutsideAreProgramWords}

-- the words at a place are those that stand between as many words as its two numbers say
abbrev pub WordsStandThere : Type 0
WordsStandThere = (roots : List (List PlainWord)) (before words after : List PlainWord) (at : At) → all_words roots ≡ before ++ (words ++ after)
    → at.first ≡ length before → at.past ≡ at.first + length words → tree_words roots at ≡ words

-- words have the same lines exactly where they are the same but for their places
abbrev pub LinesTellWords : Type 0
LinesTellWords = (xs ys : List PlainWord) → AreProgramWords xs → AreProgramWords ys → (hashed_lines xs ≡ hashed_lines ys) ↔ (bare_words xs ≡ bare_words ys)

-- where bodies stand apart in roots, the lines outside them are those of each root parted at its bodies
abbrev pub BodiesAreLines : Type 0
BodiesAreLines = (roots : List PartedRoot) → RootsStandFrom 0 roots → roots_outside (root_bodies roots) 0 (map root_words roots) ≡ flat_map root_lines roots

-- roots have the same lines outside bodies exactly where they are parted at bodies alike, and the words between these are the same
-- but for their places
abbrev pub OutsideTellsWords : Type 0
OutsideTellsWords = (xs ys : List PartedRoot) → OutsideAreProgramWords xs → OutsideAreProgramWords ys
    → (flat_map root_lines xs ≡ flat_map root_lines ys) ↔ (map runs_of xs ≡ map runs_of ys)
