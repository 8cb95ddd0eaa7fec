-- What each word does to the rows of the open levels.
use Rattle.std.specs.Prelude.{ℕ, Bool, true, false, ◌==◌, List, [], ◌∷◌, codes, bytes_eq, if◌then◌else◌, ◌||◌}
use Rattle.std.specs.List.{list_any}
use Rattle.p10_base.specs.declared.word.Kind.{Kind}
use Rattle.p10_base.specs.declared.word.Kind.TheVariants.{Name, Str, Punct}
use Rattle.p10_base.specs.Words.{PlainWord, Text, is_name}
use Rattle.p10_nesting.specs.declared.role.Role.{Role}
use Rattle.p10_nesting.specs.declared.role.Role.TheVariants.{Opens, Closes, Finishes, Ends, Separates, Asks, Keeps, Quotes, Stands}

-- whether a byte is one of these
abbrev pub is_among : List ℕ → ℕ → Bool
is_among bytes byte = list_any (λ other. byte == other) bytes

-- what a punctuator of one byte does
abbrev pub byte_role : ℕ → Role
byte_role byte =
    if is_among (codes "([{") byte then Opens
    else (if is_among (codes ")]") byte then Closes
    else (if is_among (codes "}") byte then Finishes
    else (if is_among (codes ";") byte then Ends
    else (if is_among (codes ",") byte then Separates
    else (if is_among (codes "?") byte then Asks
    else (if is_among (codes ":") byte then Keeps
    else Stands))))))

-- what a punctuator does
abbrev pub punctuator_role : Text → Role
punctuator_role (byte ∷ []) = byte_role byte
punctuator_role _ = Stands

-- the words that begin a part of a statement
abbrev pub kept_names : List Text
kept_names = codes "if" ∷ (codes "else" ∷ (codes "do" ∷ (codes "while" ∷ (codes "for" ∷ (codes "switch" ∷ [])))))

-- what a name does
abbrev pub name_role : Text → Role
name_role text = if list_any (bytes_eq text) kept_names then Keeps else Stands

-- what a word of a kind does
abbrev pub role_in : Kind → Text → Role
role_in Punct text = punctuator_role text
role_in Name text = name_role text
role_in Str text = Quotes
role_in _ text = Stands

-- what a word does
abbrev pub role_of : PlainWord → Role
role_of word = role_in word.kind word.text

-- whether a word stays in its row when the row is reduced
abbrev pub is_kept_role : Role → Bool
is_kept_role Keeps = true
is_kept_role _ = false

-- whether a word is a `?`
abbrev pub is_question_role : Role → Bool
is_question_role Asks = true
is_question_role _ = false

-- whether a word is a string
abbrev pub is_string_role : Role → Bool
is_string_role Quotes = true
is_string_role _ = false

-- whether a word opens a level
abbrev pub is_opening_role : Role → Bool
is_opening_role Opens = true
is_opening_role _ = false

-- whether a word closes a level
abbrev pub is_closing_role : Role → Bool
is_closing_role Closes = true
is_closing_role Finishes = true
is_closing_role _ = false

-- whether the words go on with a part of the statement that ended before them: `else` or `while`
abbrev pub go_on : List PlainWord → Bool
go_on [] = false
go_on (word ∷ rest) = is_name (codes "else") word || is_name (codes "while") word
