-- Values of the code as those of the definitions, and what the functions answer.
use Rattle.std.specs.Prelude.{ℕ, ◌≡◌, ◌<◌, ◌≤◌, Vec, List, map, length, slice_get, slice_index_or, [], Option, Some, None, IfSome, Result, Ok, Err}
use Rattle.std.specs.Borrow.{Bor}
use Rattle.std.specs.declared.alloc.Global.{Global}
use Rattle.p10_base.specs.declared.word.Word.{Word}
use Rattle.p10_base.specs.declared.word.WordPlace.{WordPlace}
use Rattle.p10_base.specs.declared.report.Refusal.{Refusal}
use Rattle.p10_base.specs.Gathered.{Gathered, count_of, text_of}
use Rattle.p10_lex.specs.Lexes.{Answers}
use Rattle.p10_direct.specs.declared.line.Lines.{Lines}
use Rattle.p10_direct.specs.Lines.{Piece, piece_of, AreCut}
use Rattle.p10_direct.specs.Balance.{first_unbalanced}
use Rattle.p10_base.specs.Words.{PlainWord, Text, plain_word}
use Rattle.p10_macros.specs.Answers.{table_of}
use Rattle.p10_expand.specs.declared.expansion.fault.ExpandFault.{ExpandFault}
use Rattle.p10_expand.specs.declared.expansion.fault.ExpandFault.TheVariants.{Over, Memory}
use Rattle.p10_expand.specs.declared.expansion.stand.Stand.{Stand}
use Rattle.p10_expand.specs.declared.expansion.stand.Stand.TheVariants.{Obeyed, Skipped}
use Rattle.p10_expand.specs.declared.expansion.state.State.{State as CodedState}
use Rattle.p10_expand.specs.declared.expansion.step.Step.{Step}
use Rattle.p10_expand.specs.declared.expansion.step.Step.TheVariants as step
use Rattle.p10_expand.specs.declared.expansion.texts.File.{File as CodedFile}
use Rattle.p10_expand.specs.declared.expansion.texts.Texts.{Texts}
use Rattle.p10_expand.specs.Obeying.{State, RefusedBy, PassedLimit, Ended, Finished, Stopped, Next, GoesOn, EntersFile, StopsWith, File}
use Rattle.p10_base.specs.declared.report.TheConstants.Limit.{EXPANDED_WORDS}
use Rattle.p10_expand.specs.Answers.{lists_of, plain_obeyed}

-- ## Values

-- what references to texts lead to
abbrev pub texts_in : List (Bor Text) → List Text
texts_in names = map (λ name. name.now) names

-- the state that the code keeps, as a plain value
abbrev pub state_of : CodedState → State
state_of s = record {
  macros = table_of s.macros;
  once = s.once;
  given = texts_in s.given.items;
  words = map plain_word s.words.items;
  obeyed = map plain_obeyed s.obeyed;
  left = s.left;
}

-- the lines and runs of text of a file that was cut
abbrev pub pieces_of : Lines → List Piece
pieces_of cut = map piece_of cut.lines

-- a file that the code expands, as a plain value
abbrev pub file_of : CodedFile → File
file_of file = record { number = file.number; built_in = file.built_in; pieces = pieces_of file.cut.now }

-- the words in a vector of vectors
abbrev pub lists_in : Vec (Vec Word Global) Global → List (List PlainWord)
lists_in all = map (map plain_word) (lists_of all.items)

-- the words of a file among those of all
abbrev pub words_among : List (Vec Word Global) → ℕ → List PlainWord
words_among all number = map plain_word (slice_index_or (lists_of all) number [])

-- ## What stands

-- a word's place is one in a text
pub record StandsIn (text : Text) (place : WordPlace) : Type 0 where
  pub ordered : place.start ≤ place.end
  pub within : place.end ≤ length text

-- these are the words of the first `count` files (C99 6.4)
pub record AreWords (g : Gathered) (count : ℕ) (all : List (Vec Word Global)) : Type 0 where
  pub many : length all ≡ count
  pub lexed : (number : ℕ) → number < count → Answers number (text_of g number) (Ok (words_among all number))

-- a file's lines are those of its words
pub record IsCut (words : List PlainWord) (cut : Lines) : Type 0 where
  pub cut_so : AreCut words (pieces_of cut)
  pub unbalanced : cut.unbalanced ≡ first_unbalanced (pieces_of cut)

-- the lines of the first `count` files, which have these words
pub record AreCuts (words : List (Vec Word Global)) (count : ℕ) (cuts : List Lines) : Type 0 where
  pub all : length cuts ≡ count
  pub cut : (number : ℕ) → number < count → IfSome (slice_get cuts number) (IsCut (words_among words number))

-- the files are cut into words and lines
pub record AreTexts (texts : Texts) : Type 0 where
  pub words : AreWords texts.sources.now (count_of texts.sources.now) texts.words.now
  pub cuts : AreCuts texts.words.now (count_of texts.sources.now) texts.cuts.items

-- the place of the first unbalanced line is known
abbrev pub KnowsBalance : CodedFile → Type 0
KnowsBalance file = file.cut.now.unbalanced ≡ first_unbalanced (pieces_of file.cut.now)

-- how many conditionals are open in a skipped group
abbrev pub inner_of : Stand → ℕ
inner_of Obeyed = 0
inner_of (Skipped chosen inner) = inner

-- a file that is entered is one of the first `count`
abbrev pub EntersBelow : ℕ → Step → Type 0
EntersBelow count (step.Enter number built_in) = number < count
EntersBelow count _ = Unit {0}

-- no file is entered
abbrev pub Stays : Step → Type 0
Stays (step.On holds) = Unit {0}
Stays (step.Refused refusal) = Unit {0}
Stays _ = ⊥

-- ## Answers

-- what comes of a line, as the code says it, with this state after it
abbrev pub next_of : Step → CodedState → Next
next_of (step.On holds) s = GoesOn holds (state_of s)
next_of (step.Enter number built_in) s = EntersFile number built_in (state_of s)
next_of (step.Refused refusal) s = StopsWith (RefusedBy (state_of s) refusal)

-- what comes of a line is the answer, with this state after it
abbrev pub Steps : (Next → Type 0) → Result Step ExpandFault → CodedState → Type 0
Steps gives (Ok found) s = gives (next_of found s)
Steps gives (Err (Over limit)) s = gives (StopsWith (PassedLimit limit))
Steps gives (Err Memory) s = Unit {0}

-- the words of a file were counted, or are too many
abbrev pub CountsTo : Option State → Result (Unit {0}) ExpandFault → CodedState → Type 0
CountsTo counted (Ok done) s = counted ≡ Some (state_of s)
CountsTo counted (Err (Over passed)) s = (counted ≡ None) × (passed ≡ EXPANDED_WORDS)
CountsTo counted (Err Memory) s = ⊥

-- what comes of a file is the answer, with this state after it
abbrev pub Reaches : (Ended → Type 0) → Result (Option Refusal) ExpandFault → CodedState → Type 0
Reaches gives (Ok None) s = gives (Finished (state_of s))
Reaches gives (Ok (Some refusal)) s = gives (Stopped (RefusedBy (state_of s) refusal))
Reaches gives (Err (Over limit)) s = gives (Stopped (PassedLimit limit))
Reaches gives (Err Memory) s = Unit {0}
