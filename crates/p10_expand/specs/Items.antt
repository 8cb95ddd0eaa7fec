-- The items of built-in headers: each line of their text is one, and each is given once in a root, by its name.
use Rattle.std.specs.Prelude.{◌-◌, List, [], ◌∷◌, ◌++◌, length, slice_index_or, Bool, true, if◌then◌else◌, bytes_eq}
use Rattle.std.specs.List.{list_any}
use Rattle.p10_base.specs.Words.{PlainWord, Text, spellings_of}

-- whether no word of the same line follows
abbrev pub ends_line : List PlainWord → Bool
ends_line [] = true
ends_line (next ∷ words) = next.first

-- a word before the others of its line
abbrev pub onto_line : PlainWord → List (List PlainWord) → List (List PlainWord)
onto_line word [] = (word ∷ []) ∷ []
onto_line word (line ∷ lines) = (word ∷ line) ∷ lines

-- the lines of a run of text
abbrev pub lines_of : List PlainWord → List (List PlainWord)
lines_of [] = []
lines_of (word ∷ words) = if ends_line words then (word ∷ []) ∷ lines_of words else onto_line word (lines_of words)

-- the name of the item `typedef TYPE NAME;`
abbrev pub item_name : List PlainWord → Text
item_name line = slice_index_or (spellings_of line) (length line - 2) []

-- whether the name is one of these
abbrev pub is_among : List Text → Text → Bool
is_among names name = list_any (bytes_eq name) names

-- the names of the items that were given, after these lines too
abbrev pub given_after : List Text → List (List PlainWord) → List Text
given_after given [] = given
given_after given (line ∷ lines) =
    if is_among given (item_name line) then given_after given lines
    else given_after (given ++ item_name line ∷ []) lines

-- the words of those lines whose items weren't given
abbrev pub new_words : List Text → List (List PlainWord) → List PlainWord
new_words given [] = []
new_words given (line ∷ lines) =
    if is_among given (item_name line) then new_words given lines
    else line ++ new_words (given ++ item_name line ∷ []) lines
