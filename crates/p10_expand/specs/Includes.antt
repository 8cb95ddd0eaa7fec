-- The include lines of a file (C99 6.10.2).
use Rattle.std.specs.Prelude.{ℕ, ◌≡◌, List, [], ◌∷◌, Bool, false, ◌⊎◌, Option, Some, None, Ok}
use Rattle.p10_base.specs.declared.word.WordPlace.{WordPlace}
use Rattle.p10_base.specs.Words.{PlainWord, words_at}
use Rattle.p10_lex.specs.Lexes.{Answers}
use Rattle.p10_direct.specs.Directives.{Include, Spells}
use Rattle.p10_direct.specs.Form.{BeginsWithHash}
use Rattle.p10_direct.specs.Lines.{Piece, DirectiveLine, TextRun, AreCut}
use Rattle.p10_expand.specs.declared.place.Include.{Include as Wanted}

-- a directive line begins with `#`
abbrev pub Begins : Piece → Type 0
Begins (DirectiveLine words) = BeginsWithHash words
Begins (TextRun words) = Unit {0}

-- the include that stands where a number names none
abbrev pub no_include : Wanted
no_include = record { name = []; angle = false }

-- what a line includes, if it is an include line
abbrev pub IsNamedBy : List PlainWord → Option Wanted → Type 0
IsNamedBy line (Some include) = Spells (Include include.name include.angle) line
IsNamedBy line None = (name : List ℕ) (angle : Bool) → Spells (Include name angle) line → ⊥

-- the include lines among directive lines and runs of text, in their order
abbrev pub NamedIn : List Piece → List Wanted → Type 0
NamedIn [] includes = includes ≡ []
NamedIn (TextRun words ∷ pieces) includes = NamedIn pieces includes
NamedIn (DirectiveLine line ∷ pieces) includes =
    (IsNamedBy line None × NamedIn pieces includes)
    ⊎ ((include : Wanted) × (rest : List Wanted) × IsNamedBy line (Some include) × (includes ≡ include ∷ rest) × NamedIn pieces rest)

-- the include lines of a file with these words, in their order, also those of skipped groups
pub record AreIncludes (words : List PlainWord) (includes : List Wanted) : Type 0 where
  pub pieces : List Piece
  pub cut : AreCut words pieces
  pub named : NamedIn pieces includes

-- the words of the text of the file with this number stand at these places, and these are its include lines
pub record HasIncludes (number : ℕ) (text : List ℕ) (places : List WordPlace) (includes : List Wanted) : Type 0 where
  pub lexes : Answers number text (Ok (words_at number text places))
  pub named : AreIncludes (words_at number text places) includes
