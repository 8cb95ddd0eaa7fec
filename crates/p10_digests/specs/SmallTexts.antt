-- The lines of a small program of two roots, written out.
use Rattle.std.specs.Prelude.{◌≡◌, ℕ, List, [], ◌∷◌, false, codes}
use Rattle.p10_base.specs.declared.at.At.{At}
use Rattle.p10_base.specs.declared.word.Kind.{Kind}
use Rattle.p10_base.specs.declared.word.Kind.TheVariants.{Name, Number, Punct, Mark}
use Rattle.p10_base.specs.Words.{PlainWord, Text, span_of}
use Rattle.p10_digests.specs.Lines.{hashed_lines, tree_words, roots_outside}

-- a word of this kind and text
abbrev pub small_word : Kind → Text → PlainWord
small_word kind text = record { kind = kind; text = text; at = span_of 0 0 0; first = false }

-- from one number to another
abbrev pub small_run : ℕ → ℕ → At
small_run first past = record { first = first; past = past; span = span_of 0 0 0 }

-- `int x; static int f(void) { return 1; }` and `int main(void) { #pragma p10 init_done` `return f(); }`
abbrev pub small_roots : List (List PlainWord)
small_roots =
    (small_word Name (codes "int") ∷ small_word Name (codes "x") ∷ small_word Punct (codes ";") ∷ small_word Name (codes "static") ∷ small_word Name (codes "int") ∷ small_word Name (codes "f")
    ∷ small_word Punct (codes "(") ∷ small_word Name (codes "void") ∷ small_word Punct (codes ")") ∷ small_word Punct (codes "{") ∷ small_word Name (codes "return") ∷ small_word Number (codes "1")
    ∷ small_word Punct (codes ";") ∷ small_word Punct (codes "}") ∷ [])
    ∷ (small_word Name (codes "int") ∷ small_word Name (codes "main") ∷ small_word Punct (codes "(") ∷ small_word Name (codes "void") ∷ small_word Punct (codes ")") ∷ small_word Punct (codes "{")
    ∷ small_word Mark (codes "init_done") ∷ small_word Name (codes "return") ∷ small_word Name (codes "f") ∷ small_word Punct (codes "(") ∷ small_word Punct (codes ")") ∷ small_word Punct (codes ";")
    ∷ small_word Punct (codes "}") ∷ [])
    ∷ []

-- the lines of `main`
abbrev pub SmallFunction : Type 0
SmallFunction = hashed_lines (tree_words small_roots (small_run 14 27)) ≡ codes "int\nmain\n(\nvoid\n)\n{\n#init_done\nreturn\nf\n(\n)\n;\n}\n"

-- the lines outside both bodies
abbrev pub SmallOutside : Type 0
SmallOutside = roots_outside (small_run 9 14 ∷ small_run 19 27 ∷ []) 0 small_roots ≡ codes "@@\nint\nx\n;\nstatic\nint\nf\n(\nvoid\n)\n@\n@@\nint\nmain\n(\nvoid\n)\n@\n"
