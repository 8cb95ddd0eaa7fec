-- Words without their places tell their symbols, and words that trees spell are as programs have them.
use Rattle.std.proofs.Common.{◌≡◌, ℕ, List, [], ◌∷◌, ◌++◌, map, Bool, true, false, ◌==◌, if◌then◌else◌, Some, refl, sym, ap, ◌∙◌, inl, inr, ◌⊎◌, arith}
use Rattle.std.specs.Prelude.{slice_get}
use Rattle.std.specs.List.{AllByRecursion}
use Rattle.std.proofs.lemmas.Bool.{false≢true}
use Rattle.std.proofs.lemmas.Option.{same_Some, none-some}
use Rattle.std.proofs.lemmas.List.Elements.{All-from_recursion}
use Rattle.p10_base.specs.declared.word.Kind.{Kind}
use Rattle.p10_base.specs.declared.word.Kind.TheVariants as kind
use Rattle.p10_base.specs.Words.{Text, PlainWord}
use Rattle.p10_lex.specs.Bytes.{is_nondigit, is_digit}
use Rattle.p10_lex.specs.Lexemes.{IsName, IsNumber, single_punctuators, double_punctuators, triple_punctuators, is_punctuator, IsLexeme}
use Rattle.p10_lex.proofs.Classes.{number_head, number_same}
use Rattle.p10_syn.specs.Signs.{spelling, punctuators}
use Rattle.p10_syn.specs.Symbols.{symbol_in, symbol_of, symbols_of}
use Rattle.p10_digests.specs.Bare.{is_mark_kind, bare_words, IsProgramWord, AreProgramWords}
use Rattle.p10_spelling_laws.specs.Lexed.{EndsNoLine, IsLexed, IsSound, kind_of, bare_symbol, is_hash, HaveNoHash}
use Rattle.p10_spelling_laws.proofs.Lexemes.{other_byte, each_punctuator, kind_is}

-- ## Symbols

mark_symbol : (text : Text) → bare_symbol (record { mark = true; text = text }) ≡ symbol_in kind.Mark text
unfolding symbol_in
mark_symbol text = refl

lexed_symbol : (k : Kind) (text : Text) → IsLexed k text → symbol_in (kind_of text) text ≡ symbol_in k text
lexed_symbol k text is = ap (λ k. symbol_in k text) (kind_is is.after_include k text is.lexeme)

sound_symbol : (k : Kind) (text : Text) → ((k ≡ kind.Mark) × EndsNoLine text) ⊎ IsLexed k text → bare_symbol (record { mark = is_mark_kind k; text = text }) ≡ symbol_in k text
sound_symbol kind.Mark text is = mark_symbol text
sound_symbol kind.Name text (inl (mark, line)) = absurd (cc)
sound_symbol kind.Number text (inl (mark, line)) = absurd (cc)
sound_symbol kind.Char text (inl (mark, line)) = absurd (cc)
sound_symbol kind.Str text (inl (mark, line)) = absurd (cc)
sound_symbol kind.Punct text (inl (mark, line)) = absurd (cc)
sound_symbol kind.Name text (inr is) = lexed_symbol kind.Name text is
sound_symbol kind.Number text (inr is) = lexed_symbol kind.Number text is
sound_symbol kind.Char text (inr is) = lexed_symbol kind.Char text is
sound_symbol kind.Str text (inr is) = lexed_symbol kind.Str text is
sound_symbol kind.Punct text (inr is) = lexed_symbol kind.Punct text is

-- the symbols of words follow from their marks and texts
pub bare_symbols : (words : List PlainWord) → AllByRecursion IsSound words → map bare_symbol (bare_words words) ≡ symbols_of words
bare_symbols [] sound = refl
bare_symbols (w ∷ words) sound = λ i. sound_symbol w.kind w.text sound.0 i ∷ bare_symbols words sound.1 i

-- ## Words of programs

-- whether a text begins with a byte
abbrev begins_as : ℕ → Text → Bool
begins_as b [] = false
begins_as b (c ∷ text) = c == b

begins : (b : ℕ) (text : Text) → slice_get text 0 ≡ Some b → begins_as b text ≡ true
begins b [] is = absurd (none-some b is)
begins b (c ∷ text) is = number_same c b (same_Some c b is)

no_letter : (b : ℕ) (text : Text) → is_nondigit b ≡ false → IsName text → slice_get text 0 ≡ Some b → ⊥
no_letter b [] off is first = is
no_letter b (c ∷ text) off is first = other_byte is_nondigit c b is.0 off (same_Some c b first)

no_number : (b : ℕ) (text : Text) → is_digit b ≡ false → (b ≡ 46 → ⊥) → IsNumber text → slice_get text 0 ≡ Some b → ⊥
no_number b [] off other is first = is
no_number b (c ∷ text) off other is first = elim (number_head c text is.0) [
  | inl digit ↦ other_byte is_digit c b digit off (same_Some c b first)
  | inr (dot, digit) ↦ other (sym (same_Some c b first) ∙ dot)
]

no_byte : (b q : ℕ) (text inside : Text) → text ≡ q ∷ inside → (q ≡ b → ⊥) → slice_get text 0 ≡ Some b → ⊥
no_byte b q text inside parts other first = other (same_Some q b (sym (ap (λ t. slice_get t 0) parts) ∙ first))

-- whether a punctuator begins with `#` only where it is `#` or `##`, and never with `@`
abbrev is_kept : Text → Bool
is_kept text = if begins_as 64 text then false else if begins_as 35 text then is_hash (symbol_in kind.Punct text) else true

kept : (text : Text) → is_punctuator text ≡ true → is_kept text ≡ true
unfolding single_punctuators double_punctuators triple_punctuators symbol_in punctuators spelling
kept text is = each_punctuator is_kept refl refl refl text is

kept_other : (at hash is : Bool) → (if at then false else if hash then is else true) ≡ true → at ≡ false
kept_other true hash is kept = absurd (false≢true kept)
kept_other false hash is kept = refl

kept_hash : (at hash is : Bool) → (if at then false else if hash then is else true) ≡ true → hash ≡ true → is ≡ true
kept_hash true hash is kept one = absurd (false≢true kept)
kept_hash false true is kept one = kept
kept_hash false false is kept one = absurd (false≢true one)

-- where it begins neither with a quote nor with `<`
no_string : (b : ℕ) (after_include : Bool) (text : Text) → (34 ≡ b → ⊥) → (60 ≡ b → ⊥) → IsLexeme after_include kind.Str text → slice_get text 0 ≡ Some b → ⊥
no_string b after text quote angle (inl is) first = no_byte b 34 text (is.inside ++ 34 ∷ []) is.parts quote first
no_string b after text quote angle (inr (included, is)) first = no_byte b 60 text (is.inside ++ 62 ∷ []) is.parts angle first

hash_letter : is_nondigit 35 ≡ false
unfolding is_nondigit
hash_letter = refl

hash_digit : is_digit 35 ≡ false
unfolding is_digit
hash_digit = refl

at_letter : is_nondigit 64 ≡ false
unfolding is_nondigit
at_letter = refl

at_digit : is_digit 64 ≡ false
unfolding is_digit
at_digit = refl

-- a lexeme that is neither `#` nor `##` doesn't begin with `#`
no_hash_first : (k : Kind) (text : Text) → IsLexed k text → is_hash (symbol_in k text) ≡ false → slice_get text 0 ≡ Some 35 → ⊥
no_hash_first kind.Name text is fair first = no_letter 35 text hash_letter is.lexeme first
no_hash_first kind.Number text is fair first = no_number 35 text hash_digit (λ e. omega (arith, e)) is.lexeme first
no_hash_first kind.Char text is fair first = no_byte 35 39 text (is.lexeme.inside ++ 39 ∷ []) is.lexeme.parts (λ e. omega (arith, e)) first
no_hash_first kind.Str text is fair first = no_string 35 is.after_include text (λ e. omega (arith, e)) (λ e. omega (arith, e)) is.lexeme first
no_hash_first kind.Punct text is fair first = false≢true (sym fair ∙ kept_hash (begins_as 64 text) (begins_as 35 text) (is_hash (symbol_in kind.Punct text)) (kept text is.lexeme) (begins 35 text first))
no_hash_first kind.Mark text is fair first = is.lexeme

-- none begins with `@`
no_at_first : (k : Kind) (text : Text) → IsLexed k text → slice_get text 0 ≡ Some 64 → ⊥
no_at_first kind.Name text is first = no_letter 64 text at_letter is.lexeme first
no_at_first kind.Number text is first = no_number 64 text at_digit (λ e. omega (arith, e)) is.lexeme first
no_at_first kind.Char text is first = no_byte 64 39 text (is.lexeme.inside ++ 39 ∷ []) is.lexeme.parts (λ e. omega (arith, e)) first
no_at_first kind.Str text is first = no_string 64 is.after_include text (λ e. omega (arith, e)) (λ e. omega (arith, e)) is.lexeme first
no_at_first kind.Punct text is first =
    false≢true (sym (kept_other (begins_as 64 text) (begins_as 35 text) (is_hash (symbol_in kind.Punct text)) (kept text is.lexeme)) ∙ begins 64 text first)
no_at_first kind.Mark text is first = is.lexeme

line_of : (k : Kind) (text : Text) → ((k ≡ kind.Mark) × EndsNoLine text) ⊎ IsLexed k text → EndsNoLine text
line_of k text (inl is) = is.1
line_of k text (inr is) = is.line

-- but for marks, a sound word is a lexeme
unmarked : (k : Kind) (text : Text) → is_mark_kind k ≡ false → ((k ≡ kind.Mark) × EndsNoLine text) ⊎ IsLexed k text → IsLexed k text
unmarked k text other (inl is) = absurd (false≢true (sym other ∙ ap is_mark_kind is.0))
unmarked k text other (inr is) = is

program_word : (word : PlainWord) → IsSound word → is_hash (symbol_of word) ≡ false → IsProgramWord word
program_word word sound fair = record {
  line = All-from_recursion (λ b. b ≡ 10 → ⊥) word.text (line_of word.kind word.text sound);
  sign = λ other first. no_hash_first word.kind word.text (unmarked word.kind word.text other sound) fair first;
  body = λ other first. no_at_first word.kind word.text (unmarked word.kind word.text other sound) first;
}

-- sound words whose symbols have no `#` are as programs have them
pub program_words : (words : List PlainWord) → AllByRecursion IsSound words → HaveNoHash (symbols_of words) → AreProgramWords words
program_words [] sound fair = tt
program_words (w ∷ words) sound fair = (program_word w sound.0 fair.0, program_words words sound.1 fair.1)
