-- Lists of words whose nesting was worked out by hand.
use Rattle.std.specs.Prelude.{◌≡◌, ℕ, suc, zero, false, List, [], ◌∷◌, codes}
use Rattle.p10_base.specs.declared.word.Kind.{Kind}
use Rattle.p10_base.specs.declared.word.Kind.TheVariants.{Name, Number, Str, Punct}
use Rattle.p10_base.specs.Words.{PlainWord, Text, span_of}
use Rattle.p10_nesting.specs.Nesting.{nesting_of}

-- a word somewhere
abbrev pub word_of : Kind → Text → PlainWord
word_of kind text = record { kind = kind; text = text; at = span_of 0 0 0; first = false }

abbrev pub name : Text → PlainWord
name text = word_of Name text

abbrev pub number : Text → PlainWord
number text = word_of Number text

abbrev pub mark : Text → PlainWord
mark text = word_of Punct text

abbrev pub string : PlainWord
string = word_of Str (codes "\"\"")

-- `0` in a number of pairs of parentheses, and then the rest
abbrev pub parenthesised : ℕ → List PlainWord → List PlainWord
parenthesised zero rest = number (codes "0") ∷ rest
parenthesised (suc n) rest = mark (codes "(") ∷ parenthesised n (mark (codes ")") ∷ rest)

-- `int main(void) { return E; }`, where E is `0` in n pairs of parentheses
abbrev pub returning : ℕ → List PlainWord
returning n =
    name (codes "int") ∷ (name (codes "main") ∷ (mark (codes "(") ∷ (name (codes "void") ∷ (mark (codes ")") ∷
    (mark (codes "{") ∷ (name (codes "return") ∷ parenthesised n (mark (codes ";") ∷ (mark (codes "}") ∷ []))))))))

-- a list of words and its nesting
pub record NestedWords : Type 0 where
  pub words : List PlainWord
  pub nesting : ℕ

abbrev pub IsNested : NestedWords → Type 0
IsNested row = nesting_of row.words ≡ row.nesting

-- words of the rows
abbrev pub x : PlainWord
x = name (codes "x")

abbrev pub open_paren : PlainWord
open_paren = mark (codes "(")

abbrev pub close_paren : PlainWord
close_paren = mark (codes ")")

abbrev pub open_brace : PlainWord
open_brace = mark (codes "{")

abbrev pub close_brace : PlainWord
close_brace = mark (codes "}")

abbrev pub semicolon : PlainWord
semicolon = mark (codes ";")

abbrev pub comma : PlainWord
comma = mark (codes ",")

abbrev pub nested : ℕ → List PlainWord → NestedWords
nested n words = record { words = words; nesting = n }

-- lists of words, each with its nesting
abbrev pub rows : List NestedWords
rows =
    -- a `;` counts, and empties the row
    nested 3 (x ∷ (x ∷ (semicolon ∷ (x ∷ (x ∷ (semicolon ∷ [])))))) ∷
    -- an opening bracket stays in the row around its level, a closing one doesn't
    (nested 3 (open_paren ∷ (x ∷ (close_paren ∷ (open_paren ∷ (x ∷ (close_paren ∷ [])))))) ∷
    -- the outermost level is never closed
    (nested 1 (close_paren ∷ (close_paren ∷ (x ∷ []))) ∷
    -- where a statement goes on, `if` stays, and so does `do`
    (nested 4 (name (codes "if") ∷ (open_paren ∷ (x ∷ (close_paren ∷ (semicolon ∷ (name (codes "else") ∷ (x ∷ (semicolon ∷ [])))))))) ∷
    (nested 4 (name (codes "do") ∷ (x ∷ (semicolon ∷ (name (codes "while") ∷ (open_paren ∷ (x ∷ (close_paren ∷ (semicolon ∷ [])))))))) ∷
    -- a `,` counts, and reduces the row, but not one with a `?`
    (nested 2 (x ∷ (comma ∷ (x ∷ (comma ∷ (x ∷ []))))) ∷
    (nested 9 (x ∷ (mark (codes "?") ∷ (x ∷ (comma ∷ (x ∷ (mark (codes ":") ∷ (x ∷ (comma ∷ (x ∷ []))))))))) ∷
    -- a string directly after a string doesn't count
    (nested 1 (string ∷ (string ∷ (string ∷ []))) ∷
    -- a `}` that has closed its level empties the row around it, also where its level is that of a `(`; one that closes
    -- nothing doesn't
    (nested 2 (open_brace ∷ (close_brace ∷ (x ∷ (x ∷ [])))) ∷
    (nested 3 (open_paren ∷ (x ∷ (close_brace ∷ (x ∷ (x ∷ (x ∷ [])))))) ∷
    (nested 2 (x ∷ (close_brace ∷ (x ∷ []))) ∷ []))))))))))
