-- What lexing a file gives (C99 5.1.1.2, 6.4).
use Rattle.std.specs.Prelude.{ℕ, ◌≡◌, ◌<◌, ◌≤◌, ◌⊎◌, List, [], length, Result, Ok, Err}
use Rattle.p10_base.specs.declared.report.Refusal.{Refusal}
use Rattle.p10_lex.specs.declared.fault.LexFault.{LexFault}
use Rattle.p10_lex.specs.declared.fault.LexFault.TheVariants.{Refused, Over, Memory}
use Rattle.p10_lex.specs.Pieces.{Cut, Cuts, beginning, words_of}
use Rattle.p10_lex.specs.Refusals.{Holds, Precedes}
use Rattle.p10_base.specs.Words.{PlainWord}
use Rattle.p10_base.specs.declared.report.TheConstants.Limit.{FILE_BYTES, FILE_WORDS, MOST_FILE_BYTES, MOST_FILE_WORDS}

-- The words of a file: the bytes are cut into pieces, these are the words among them, and no row of X1 to X6 holds.
pub record Lexes (file : ℕ) (bytes : List ℕ) (words : List PlainWord) : Type 0 where
  pub pieces : List Cut
  pub cuts : Cuts beginning bytes pieces []
  pub are_words : words ≡ words_of file beginning pieces
  pub none_holds : (before : List PlainWord) (refusal : Refusal) → Holds file beginning bytes before refusal → ⊥

-- The refusal of a file: a row of X1 to X6 holds there, and no row that holds is answered before it. These
-- words end before its place.
pub record Refuses (file : ℕ) (bytes : List ℕ) (words : List PlainWord) (refusal : Refusal) : Type 0 where
  pub holds : Holds file beginning bytes words refusal
  pub first : (before : List PlainWord) (other : Refusal) → Holds file beginning bytes before other → Precedes refusal other

-- The file has these words, or it is refused after them.
abbrev pub Begins : ℕ → List ℕ → List PlainWord → Type 0
Begins file bytes words = Lexes file bytes words ⊎ ((refusal : Refusal) × Refuses file bytes words refusal)

-- The file has words, or exactly one refusal and no words.
abbrev pub HasWordsOrOneRefusal : ℕ → List ℕ → Type 0
HasWordsOrOneRefusal file bytes =
    ((words : List PlainWord) × Lexes file bytes words)
    ⊎ ((refusal : Refusal) × (before : List PlainWord) × Refuses file bytes before refusal
    × ((words : List PlainWord) (other : Refusal) → Refuses file bytes words other → other ≡ refusal)
    × ((words : List PlainWord) → Lexes file bytes words → ⊥))

-- What lexing answers: the words, the refusal, or a limit that is exceeded. M1 allows 1,048,576 bytes, and is tested
-- first. M2 allows 262,144 words, and is exceeded before a refusal only by words that end before its place.
-- Running out of memory is left open.
abbrev pub Answers : ℕ → List ℕ → Result (List PlainWord) LexFault → Type 0
Answers file bytes (Ok words) = (length bytes ≤ MOST_FILE_BYTES) × (length words ≤ MOST_FILE_WORDS) × Lexes file bytes words
Answers file bytes (Err (Refused refusal)) =
    (length bytes ≤ MOST_FILE_BYTES) × (words : List PlainWord) × (length words ≤ MOST_FILE_WORDS) × Refuses file bytes words refusal
Answers file bytes (Err (Over limit)) =
    ((limit ≡ FILE_BYTES) × (MOST_FILE_BYTES < length bytes))
    ⊎ ((limit ≡ FILE_WORDS) × (length bytes ≤ MOST_FILE_BYTES) × (words : List PlainWord) × (MOST_FILE_WORDS < length words) × Begins file bytes words)
Answers file bytes (Err Memory) = Unit {0}
