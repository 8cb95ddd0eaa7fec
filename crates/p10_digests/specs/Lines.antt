-- The lines that digests are taken of: a program's words, each on a line of its own.
use Rattle.std.specs.Prelude.{ℕ, ◌+◌, ◌-◌, nat_le, nat_lt, ◌==◌, if◌then◌else◌, List, [], ◌∷◌, ◌++◌, flat_map, length, take, drop, codes}
use Rattle.p10_base.specs.declared.at.At.{At}
use Rattle.p10_base.specs.declared.word.Kind.{Kind}
use Rattle.p10_base.specs.declared.word.Kind.TheVariants.{Mark}
use Rattle.p10_base.specs.Words.{Text, PlainWord}

-- what stands before the text of a word: a mark's is the last word of its pragma, and is told apart by a number sign
abbrev pub prefix_of : Kind → Text
prefix_of Mark = codes "#"
prefix_of _ = []

-- a word on a line of its own
abbrev pub word_line : PlainWord → Text
word_line word = prefix_of word.kind ++ (word.text ++ codes "\n")

-- words, each on a line of its own
abbrev pub hashed_lines : List PlainWord → Text
hashed_lines words = flat_map word_line words

-- the words of all roots, one root after the other
abbrev pub all_words : List (List PlainWord) → List PlainWord
all_words [] = []
all_words (words ∷ roots) = words ++ all_words roots

-- the words of a tree, which are numbered through all roots
abbrev pub tree_words : List (List PlainWord) → At → List PlainWord
tree_words roots at = take (at.past - at.first) (drop at.first (all_words roots))

-- ## The words outside bodies

-- the bodies that aren't over before the word of this number
abbrev pub bodies_from : ℕ → List At → List At
bodies_from number [] = []
bodies_from number (body ∷ bodies) = if nat_le body.past number then bodies_from number bodies else body ∷ bodies

-- the line of the word of this number, where a body that isn't over begins at the number `first`: its own before the body, `@`
-- where that begins, and none inside it
abbrev pub line_about : ℕ → ℕ → PlainWord → Text
line_about first number word = if nat_lt number first then word_line word else (if number == first then codes "@\n" else [])

-- the line of the word of this number, where these bodies aren't over
abbrev pub line_before : ℕ → PlainWord → List At → Text
line_before number word [] = word_line word
line_before number word (body ∷ bodies) = line_about body.first number word

-- the lines of words that are numbered from this on, with each body as one line `@`
unfoldable pub lines_outside : List At → ℕ → List PlainWord → Text
lines_outside bodies number [] = []
lines_outside bodies number (word ∷ words) = line_before number word (bodies_from number bodies) ++ lines_outside bodies (number + 1) words

-- the lines of roots whose words are numbered from this on: before those of each root stands `@@`
unfoldable pub roots_outside : List At → ℕ → List (List PlainWord) → Text
roots_outside bodies number [] = []
roots_outside bodies number (words ∷ roots) = codes "@@\n" ++ (lines_outside bodies number words ++ roots_outside bodies (number + length words) roots)
