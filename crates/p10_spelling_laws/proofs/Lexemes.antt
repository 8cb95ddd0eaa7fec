-- The kind of a lexeme follows from its text.
use Rattle.std.proofs.Common.{◌≡◌, ℕ, ◌==◌, List, [], ◌∷◌, ◌++◌, Bool, true, false, not, true≢false, refl, sym, ap, ◌∙◌, inl, inr, bytes_eq}
use Rattle.std.proofs.lemmas.Bool.{false≢true}
use Rattle.std.specs.List.{list_all, list_any}
use Rattle.p10_base.specs.declared.word.Kind.{Kind}
use Rattle.p10_base.specs.declared.word.Kind.TheVariants.{Name, Number, Char, Str, Punct, Mark}
use Rattle.p10_base.specs.Words.{Text, is_punctuator_kind}
use Rattle.p10_lex.specs.Bytes.{is_nondigit, is_digit}
use Rattle.p10_lex.specs.Lexemes.{IsName, begins_digit, begins_number, IsNumber, single_punctuators, double_punctuators, triple_punctuators, is_punctuator, IsLexeme}
use Rattle.p10_lex.proofs.Classes.{and_both, or_either, not_false, any_byte, number_not_blank}
use Rattle.p10_lex.proofs.Punctuation.{same_is}
use Rattle.p10_spelling_laws.specs.Lexed.{kind_of}

-- ## Classes of bytes

-- a byte that passes a test isn't one that doesn't
pub other_byte : (test : ℕ → Bool) (c d : ℕ) → test c ≡ true → test d ≡ false → c ≡ d → ⊥
other_byte test c d on off same = true≢false (sym on ∙ ap test same ∙ off)

any_text : (test : Text → Bool) (texts : List Text) (text : Text) → list_all test texts ≡ true → list_any (bytes_eq text) texts ≡ true → test text ≡ true
any_text test [] text all any = absurd (false≢true any)
any_text test (t ∷ texts) text all any =
    let (here, rest) = and_both (test t) (list_all test texts) all in
    elim (or_either (bytes_eq text t) (list_any (bytes_eq text) texts) any) [ inl e ↦ ap test (same_is text t e) ∙ here | inr e ↦ any_text test texts text rest e ]

-- what is true of each punctuator
pub each_punctuator : (test : Text → Bool) → list_all (λ c. test (c ∷ [])) single_punctuators ≡ true → list_all test double_punctuators ≡ true → list_all test triple_punctuators ≡ true
    → (text : Text) → is_punctuator text ≡ true → test text ≡ true
unfolding is_punctuator
each_punctuator test one two three [] is = absurd (false≢true is)
each_punctuator test one two three (a ∷ []) is = any_byte (λ c. test (c ∷ [])) single_punctuators a one is
each_punctuator test one two three (a ∷ b ∷ []) is = any_text test double_punctuators (a ∷ b ∷ []) two is
each_punctuator test one two three (a ∷ b ∷ c ∷ []) is = any_text test triple_punctuators (a ∷ b ∷ c ∷ []) three is
each_punctuator test one two three (a ∷ b ∷ c ∷ d ∷ text) is = absurd (false≢true is)

-- ## Kinds

name_kind : (text : Text) → IsName text → kind_of text ≡ Name
name_kind [] is = absurd is
name_kind (c ∷ text) is = rw is.0 refl

number_kind : (text : Text) → IsNumber text → kind_of text ≡ Number
number_kind [] is = absurd is
number_kind (c ∷ text) is = let letter : is_nondigit c ≡ false = (number_not_blank c text is.0).1 in rw (letter, is.0) refl

char_kind : (text : Text) → kind_of (39 ∷ text) ≡ Char
unfolding is_nondigit begins_number is_digit
char_kind text = refl

string_kind : (text : Text) → kind_of (34 ∷ text) ≡ Str
unfolding is_nondigit begins_number is_digit
string_kind text = refl

-- whether a text of three bytes ends otherwise than with `>`
abbrev ends_otherwise : Text → Bool
ends_otherwise (a ∷ b ∷ c ∷ []) = not (c == 62)
ends_otherwise _ = true

no_header : (inside : Text) → is_punctuator (60 ∷ (inside ++ 62 ∷ [])) ≡ false
unfolding is_punctuator double_punctuators triple_punctuators
no_header [] = refl
no_header (a ∷ []) = not_false _ (λ is. false≢true (any_text ends_otherwise triple_punctuators (60 ∷ a ∷ 62 ∷ []) refl is))
no_header (a ∷ b ∷ []) = refl
no_header (a ∷ b ∷ c ∷ inside) = refl

header_kind : (inside : Text) → kind_of (60 ∷ (inside ++ 62 ∷ [])) ≡ Str
unfolding is_nondigit begins_number is_digit
header_kind inside = rw (no_header inside) refl

punctuator_is : (kind : Kind) → is_punctuator_kind kind ≡ true → kind ≡ Punct
punctuator_is Punct is = refl
punctuator_is Name is = absurd (false≢true is)
punctuator_is Number is = absurd (false≢true is)
punctuator_is Char is = absurd (false≢true is)
punctuator_is Str is = absurd (false≢true is)
punctuator_is Mark is = absurd (false≢true is)

punctuator_kind : (text : Text) → is_punctuator text ≡ true → kind_of text ≡ Punct
unfolding single_punctuators double_punctuators triple_punctuators is_punctuator is_nondigit begins_number begins_digit is_digit
punctuator_kind text is = punctuator_is (kind_of text) (each_punctuator (λ t. is_punctuator_kind (kind_of t)) refl refl refl text is)

-- the kind of a lexeme follows from its text
pub kind_is : (after_include : Bool) (kind : Kind) (text : Text) → IsLexeme after_include kind text → kind_of text ≡ kind
kind_is b Name text is = name_kind text is
kind_is b Number text is = number_kind text is
kind_is b Char text is = ap kind_of is.parts ∙ char_kind (is.inside ++ 39 ∷ [])
kind_is b Str text (inl is) = ap kind_of is.parts ∙ string_kind (is.inside ++ 34 ∷ [])
kind_is b Str text (inr (after, is)) = ap kind_of is.parts ∙ header_kind is.inside
kind_is b Punct text is = punctuator_kind text is
kind_is b Mark text is = absurd is
