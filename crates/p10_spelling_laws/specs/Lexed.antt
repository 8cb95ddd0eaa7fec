-- Which words come from files: lexemes (C99 6.4) that end no line, and marks; their symbols follow from their texts.
use Rattle.std.specs.Prelude.{◌≡◌, ◌==◌, if◌then◌else◌, Bool, true, false, ◌⊎◌, List, [], ◌∷◌}
use Rattle.std.specs.List.{AllByRecursion}
use Rattle.p10_base.specs.declared.word.Kind.{Kind}
use Rattle.p10_base.specs.declared.word.Kind.TheVariants.{Name, Number, Char, Str, Punct, Mark}
use Rattle.p10_base.specs.Words.{Text, PlainWord}
use Rattle.p10_lex.specs.Bytes.{is_nondigit}
use Rattle.p10_lex.specs.Lexemes.{begins_number, is_punctuator, IsLexeme}
use Rattle.p10_syn.specs.declared.sign.Sign.{Sign}
use Rattle.p10_syn.specs.declared.sign.Sign.TheVariants.{Hash, HashHash}
use Rattle.p10_syn.specs.Symbols.{Symbol, Fixed, Pragma, symbol_in}
use Rattle.p10_digests.specs.Bare.{BareWord}

-- no byte ends a line
abbrev pub EndsNoLine : Text → Type 0
EndsNoLine text = AllByRecursion (λ b. b ≡ 10 → ⊥) text

-- a text is a lexeme of a kind, and ends no line
pub record IsLexed (kind : Kind) (text : Text) : Type 0 where
  pub after_include : Bool
  pub lexeme : IsLexeme after_include kind text
  pub line : EndsNoLine text

-- a word is a mark or a lexeme
abbrev pub IsSound : PlainWord → Type 0
IsSound word = ((word.kind ≡ Mark) × EndsNoLine word.text) ⊎ IsLexed word.kind word.text

-- the words of roots are such
abbrev pub AreSound : List (List PlainWord) → Type 0
AreSound roots = AllByRecursion (AllByRecursion IsSound) roots

-- the kind of lexemes with this text
abbrev pub kind_of : Text → Kind
kind_of [] = Punct
kind_of (c ∷ rest) =
    if is_nondigit c then Name
    else if begins_number (c ∷ rest) then Number
    else if c == 39 then Char
    else if c == 34 then Str
    else if is_punctuator (c ∷ rest) then Punct
    else Str

-- the word of the grammar that a word without its place is
abbrev pub bare_symbol : BareWord → Symbol
bare_symbol word = if word.mark then Pragma word.text else symbol_in (kind_of word.text) word.text

-- whether a sign is `#` or `##`, which no tree spells
abbrev pub is_hash_sign : Sign → Bool
is_hash_sign Hash = true
is_hash_sign HashHash = true
is_hash_sign _ = false

-- the same of a word of the grammar
abbrev pub is_hash : Symbol → Bool
is_hash (Fixed s) = is_hash_sign s
is_hash _ = false

-- none of these words is
abbrev pub HaveNoHash : List Symbol → Type 0
HaveNoHash symbols = AllByRecursion (λ symbol. is_hash symbol ≡ false) symbols
