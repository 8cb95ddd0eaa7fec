-- The digests of a program: the SHA-256 (FIPS 180-4) of the lines of each function, and of those outside all bodies.
use Rattle.std.specs.Prelude.{ℕ, List, [], ◌∷◌, map}
use Rattle.sha2.specs.Sha256.{sha256}
use Rattle.p10_base.specs.declared.at.At.{At}
use Rattle.p10_base.specs.Words.{PlainWord}
use Rattle.p10_syn.specs.Trees.{External, Outer, Defines}
use Rattle.p10_digests.specs.Lines.{hashed_lines, tree_words, roots_outside}

-- where functions stand, from their first specifier to the end of their body
abbrev pub function_places : List (External At) → List At
function_places [] = []
function_places (Outer at d ∷ trees) = function_places trees
function_places (Defines f ∷ trees) = f.place ∷ function_places trees

-- where the bodies of functions stand, from `{` to `}`
abbrev pub body_places : List (External At) → List At
body_places [] = []
body_places (Outer at d ∷ trees) = body_places trees
body_places (Defines f ∷ trees) = f.body_place ∷ body_places trees

-- the digests of functions: of the words of each
abbrev pub function_digests : List (List PlainWord) → List (External At) → List (List ℕ)
function_digests roots trees = map (λ at. sha256 (hashed_lines (tree_words roots at))) (function_places trees)

-- the digest of the words outside bodies
abbrev pub outside_digest : List (List PlainWord) → List (External At) → List ℕ
outside_digest roots trees = sha256 (roots_outside (body_places trees) 0 roots)
