-- Cutting words at the first that passes a test.
use Rattle.std.specs.Prelude.{List, [], ◌∷◌, Bool, if◌then◌else◌}
use Rattle.p10_base.specs.Words.{PlainWord}

-- the words before the first that passes
abbrev pub before : (PlainWord → Bool) → List PlainWord → List PlainWord
before test [] = []
before test (word ∷ words) = if test word then [] else word ∷ before test words

-- the words from there on
abbrev pub behind : (PlainWord → Bool) → List PlainWord → List PlainWord
behind test [] = []
behind test (word ∷ words) = if test word then word ∷ words else behind test words

-- the first word with those before the first further one that passes, and the words from there on
abbrev pub split : (PlainWord → Bool) → List PlainWord → List PlainWord × List PlainWord
split test [] = ([], [])
split test (word ∷ words) = (word ∷ before test words, behind test words)
