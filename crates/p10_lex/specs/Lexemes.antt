-- The lexemes: what a word may be, each a class of texts (C99 6.4).
use Rattle.std.specs.Prelude.{ℕ, ◌≡◌, ◌==◌, Bool, true, false, ◌&&◌, ◌||◌, not, ◌⊎◌, List, [], ◌∷◌, ◌++◌, bytes_eq, codes}
use Rattle.std.specs.List.{list_all, list_any}
use Rattle.p10_base.specs.declared.word.Kind.{Kind}
use Rattle.p10_base.specs.declared.word.Kind.TheVariants.{Name, Number, Char, Str, Punct, Mark}
use Rattle.p10_lex.specs.Bytes.{is_nondigit, is_name_byte, is_digit, is_sign, is_exponent}
use Rattle.p10_lex.specs.Splices.{joined}

-- a letter or `_`, then letters, digits and `_` (C99 6.4.2.1)
abbrev pub IsName : List ℕ → Type 0
IsName [] = ⊥
IsName (c ∷ rest) = (is_nondigit c ≡ true) × (list_all is_name_byte rest ≡ true)

-- whether a text begins with a digit
unfoldable pub begins_digit : List ℕ → Bool
begins_digit [] = false
begins_digit (c ∷ rest) = is_digit c

-- whether a text begins with a digit, or with a dot and a digit
unfoldable pub begins_number : List ℕ → Bool
begins_number [] = false
begins_number (c ∷ rest) = is_digit c || ((c == 46) && begins_digit rest)

-- whether a byte goes on with a number: a letter, a digit, `_`, a dot, or a sign after an exponent letter
unfoldable pub goes_on_number : ℕ → ℕ → Bool
goes_on_number old c = is_name_byte c || ((c == 46) || (is_sign c && is_exponent old))

-- whether each byte goes on with a number, the first after the byte `old`
unfoldable pub all_go_on_number : ℕ → List ℕ → Bool
all_go_on_number old [] = true
all_go_on_number old (c ∷ rest) = goes_on_number old c && all_go_on_number c rest

-- a preprocessing number (C99 6.4.8), in whose texts the letters are those of a name
abbrev pub IsNumber : List ℕ → Type 0
IsNumber [] = ⊥
IsNumber (c ∷ rest) = (begins_number (c ∷ rest) ≡ true) × (all_go_on_number c rest ≡ true)

-- Whether a text stands between quotes: it ends no line, it has no bare quote, and each backslash has a
-- byte after it that belongs to it. Its first byte belongs to a backslash before it where `escaped` is true.
unfoldable pub is_quotable : ℕ → Bool → List ℕ → Bool
is_quotable quote escaped [] = not escaped
is_quotable quote true (c ∷ rest) = not (c == 10) && is_quotable quote false rest
is_quotable quote false (c ∷ rest) = not (c == 10) && (not (c == quote) && is_quotable quote (c == 92) rest)

-- a text between two quotes, which is read with its splices passed over (C99 6.4.4.4, 6.4.5)
pub record IsQuoted (quote : ℕ) (text : List ℕ) : Type 0 where
  pub inside : List ℕ
  pub parts : text ≡ quote ∷ (inside ++ quote ∷ [])
  pub quotable : is_quotable quote false (joined inside) ≡ true

-- whether a byte may stand in an include name between angle brackets
unfoldable pub is_header_byte : ℕ → Bool
is_header_byte c = not (c == 10) && not (c == 62)

-- an include name between angle brackets (C99 6.4.7)
pub record IsHeaderName (text : List ℕ) : Type 0 where
  pub inside : List ℕ
  pub parts : text ≡ 60 ∷ (inside ++ 62 ∷ [])
  pub one_line : list_all is_header_byte inside ≡ true

-- the punctuators of one byte (C99 6.4.6)
unfoldable pub single_punctuators : List ℕ
single_punctuators = codes "[](){}.&*+-~!/%<>^|?:;=,#"

-- the punctuators of two bytes, without digraphs
unfoldable pub double_punctuators : List (List ℕ)
double_punctuators =
    codes "->" ∷ codes "++" ∷ codes "--" ∷ codes "<<" ∷ codes ">>" ∷ codes "<=" ∷ codes ">=" ∷
    codes "==" ∷ codes "!=" ∷ codes "&&" ∷ codes "||" ∷ codes "*=" ∷ codes "/=" ∷ codes "%=" ∷
    codes "+=" ∷ codes "-=" ∷ codes "&=" ∷ codes "^=" ∷ codes "|=" ∷ codes "##" ∷ []

-- the punctuators of three bytes
unfoldable pub triple_punctuators : List (List ℕ)
triple_punctuators = codes "<<=" ∷ codes ">>=" ∷ codes "..." ∷ []

-- whether a text is a punctuator
unfoldable pub is_punctuator : List ℕ → Bool
is_punctuator (a ∷ []) = list_any (λ c. a == c) single_punctuators
is_punctuator (a ∷ b ∷ []) = list_any (bytes_eq (a ∷ b ∷ [])) double_punctuators
is_punctuator (a ∷ b ∷ c ∷ []) = list_any (bytes_eq (a ∷ b ∷ c ∷ [])) triple_punctuators
is_punctuator _ = false

-- The lexemes of each kind. An include name is one only where its line begins with `#` and `include`
-- and has no other word yet, which `after_include` says.
abbrev pub IsLexeme : Bool → Kind → List ℕ → Type 0
IsLexeme after_include Name text = IsName text
IsLexeme after_include Number text = IsNumber text
IsLexeme after_include Char text = IsQuoted 39 text
IsLexeme after_include Str text = IsQuoted 34 text ⊎ ((after_include ≡ true) × IsHeaderName text)
IsLexeme after_include Punct text = is_punctuator text ≡ true
IsLexeme after_include Mark text = ⊥

-- The text is the longest lexeme that begins at its place, where `rest` stands after it.
pub record IsLongest (after_include : Bool) (kind : Kind) (text rest : List ℕ) : Type 0 where
  pub lexeme : IsLexeme after_include kind text
  pub longest : (other : Kind) (more after : List ℕ) → rest ≡ more ++ after → IsLexeme after_include other (text ++ more) → more ≡ []
