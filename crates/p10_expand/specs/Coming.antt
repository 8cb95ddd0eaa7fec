-- Where the words of an expansion come from.
use Rattle.std.specs.Prelude.{ℕ, ◌≡◌, ◌<◌, List, ◌∷◌, Bool, true, false, Ok, IfSome}
use Rattle.std.specs.List.{AllByRecursion, Contains}
use Rattle.p10_base.specs.declared.span.Span.{Span}
use Rattle.p10_base.specs.declared.word.Kind.TheVariants.{Mark}
use Rattle.p10_base.specs.Gathered.{Gathered, LiesIn, count_of, text_of}
use Rattle.p10_base.specs.Words.{PlainWord, Text, is_name_kind}
use Rattle.p10_lex.specs.Slices.{IsSlice}
use Rattle.p10_lex.specs.Lexes.{Answers}
use Rattle.p10_direct.specs.Lines.{Piece, DirectiveLine, TextRun, AreCut}
use Rattle.p10_direct.specs.Balance.{mark_of}
use Rattle.p10_direct.specs.Directives.{PlainMacro, Define, Spells}
use Rattle.p10_macros.specs.Table.{Table}
use Rattle.p10_macros.specs.Uses.{Sourced, sourced_words}
use Rattle.p10_macros.specs.Endings.{Gives, Refused}
use Rattle.p10_expand.specs.Groups.{PassedLine, is_obeyed_after}
use Rattle.p10_expand.specs.Conditionals.{RunEnds}
use Rattle.p10_expand.specs.Items.{lines_of, new_words}
use Rattle.p10_expand.specs.Obeying.{PlainObeyed, State, File, words_before}
use Rattle.p10_expand.specs.Expands.{Expansion}
use Rattle.p10_expand.specs.Meeting.{IsOutermostUse}
use Rattle.p10_expand.specs.Reaching.{ReachesLines}

-- ## Words of files

-- the file with this number, which may be a built-in header, has these words (C99 6.4)
pub record HasWords (g : Gathered) (file : ℕ) (words : List PlainWord) : Type 0 where
  pub held : file < count_of g
  pub lexed : Answers file (text_of g file) (Ok words)

-- the word is one of a file: the slice of the file's bytes at its place
pub record IsWritten (g : Gathered) (word : PlainWord) : Type 0 where
  pub file : ℕ
  pub words : List PlainWord
  pub has : HasWords g file words
  pub among : Contains words word
  pub slice : IsSlice file (text_of g file) word

-- it stands in the text of its file, and so in no directive (C99 6.10p2)
pub record IsInText (g : Gathered) (word : PlainWord) : Type 0 where
  pub written : IsWritten g word
  pub pieces : List Piece
  pub cut : AreCut written.words pieces
  pub run : List PlainWord
  pub piece : Contains pieces (TextRun run)
  pub within : Contains run word

-- the words are a directive of a file
pub record IsDirective (g : Gathered) (line : List PlainWord) : Type 0 where
  pub file : ℕ
  pub words : List PlainWord
  pub has : HasWords g file words
  pub pieces : List Piece
  pub cut : AreCut words pieces
  pub piece : Contains pieces (DirectiveLine line)

-- the name of a macro that a directive defines (C99 6.10.3p9, p10)
pub record IsMacroName (g : Gathered) (name : Text) : Type 0 where
  pub line : List PlainWord
  pub directive : IsDirective g line
  pub made : PlainMacro
  pub spells : Spells (Define made) line
  pub same : name ≡ made.name

-- ## Words of an expansion

-- it is a mark, which a pragma leaves: a word of a file, except for its kind
pub record IsMark (g : Gathered) (word : PlainWord) : Type 0 where
  pub last : PlainWord
  pub written : IsWritten g last
  pub mark : word ≡ record last { kind = Mark }

-- the words of a run of text that are replaced where these macros are defined: all of them, or those before a refused use
pub data AreReplaced (macros : Table) (left : ℕ) (words : List PlainWord) : List PlainWord → Type 0 where
  all_words : AreReplaced macros left words words
  words_before_refused : {number : ℕ} {at : Span} → RunEnds macros words left (Refused number at) → AreReplaced macros left words (words_before at words)

-- the words of a run of text that are expanded: of a built-in header those of the items that weren't given before
abbrev pub expanded_words : Bool → State → List PlainWord → List PlainWord
expanded_words true s words = new_words s.given (lines_of words)
expanded_words false s words = words

-- expansion comes to a run of text that is obeyed, where these macros are defined, and replaces these words of it by those (C99 6.10.3)
pub record IsExpanded (g : Gathered) (macros : Table) (run : List PlainWord) (made : List Sourced) : Type 0 where
  pub nested : ℕ
  pub file : File
  pub before : List PassedLine
  pub words : List PlainWord
  pub pieces : List Piece
  pub state : State
  pub reached : ReachesLines g nested file before (TextRun words ∷ pieces) state
  pub obeyed : is_obeyed_after before (mark_of (TextRun words)) ≡ true
  pub defined : macros ≡ state.macros
  pub replaced : AreReplaced macros state.left (expanded_words file.built_in state words) run
  pub remaining : ℕ
  pub gives : RunEnds macros run state.left (Gives made remaining)

-- a macro gave it (C99 6.10.3): it is a word of a file, as of a definition, of an argument or of a built-in header, except for its
-- place. It is made where a run of text is expanded, and its place is that of the outermost use: of a name in that run which began a use when
-- it was met, of one of the macros that were then defined
pub record IsGiven (g : Gathered) (word : PlainWord) : Type 0 where
  pub part : PlainWord
  pub written : IsWritten g part
  pub macros : Table
  pub run : List PlainWord
  pub made : List Sourced
  pub expanded : IsExpanded g macros run made
  pub among : Contains (sourced_words made) word
  pub name : PlainWord
  pub begins : IsOutermostUse macros run name
  pub is_name : is_name_kind name.kind ≡ true
  pub of_macro : IsMacroName g name.text
  pub in_text : IsInText g name
  pub given : word ≡ record part { at = name.at }

-- where a word of a root comes from: it stands in a text, a pragma left it, or a macro gave it
pub data Comes (g : Gathered) (word : PlainWord) : Type 0 where
  in_text : IsInText g word → Comes g word
  as_mark : IsMark g word → Comes g word
  by_macro : IsGiven g word → Comes g word

-- the words are a directive of a file, each is written there, and its place lies in a file
pub record IsListed (g : Gathered) (line : PlainObeyed) : Type 0 where
  pub directive : IsDirective g line.words
  pub words : AllByRecursion (IsWritten g) line.words
  pub place : LiesIn g line.span

-- all words of an expansion come from the files, and its refusal has its place in one
pub record ExpansionComes (g : Gathered) (expansion : Expansion) : Type 0 where
  pub roots : AllByRecursion (AllByRecursion (Comes g)) expansion.roots
  pub obeyed : AllByRecursion (IsListed g) expansion.obeyed
  pub refusal : IfSome expansion.refusal (λ refusal. LiesIn g refusal.span)
