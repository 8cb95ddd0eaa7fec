-- Include guards: a file whose text counts only once (Holzmann, rule 8, allows conditional compilation for these alone).
use Rattle.std.specs.Prelude.{ℕ, zero, suc, ◌-◌, length, slice_get, List, [], ◌∷◌, map, Bool, true, false, ◌&&◌, Option, Some, None, if◌then◌else◌, codes}
use Rattle.p10_direct.specs.declared.mark.Mark.{Mark}
use Rattle.p10_direct.specs.declared.mark.Mark.TheVariants.{Opens, Closes, Plain}
use Rattle.p10_base.specs.Words.{PlainWord, Text, is_name, is_name_kind, is_punctuator}
use Rattle.p10_direct.specs.Lines.{Piece, DirectiveLine}
use Rattle.p10_direct.specs.Balance.{mark_of}

-- the name in `ifndef X`, if these are its words
abbrev pub guarded_by_ifndef : PlainWord → PlainWord → Option Text
guarded_by_ifndef word name = if is_name (codes "ifndef") word && is_name_kind name.kind then Some name.text else None

-- the name in `if !defined(X)`, if these are its words
abbrev pub guarded_by_if : PlainWord → PlainWord → PlainWord → PlainWord → PlainWord → PlainWord → Option Text
guarded_by_if word bang asks opening name closing =
    if is_name (codes "if") word && is_punctuator (codes "!") bang && is_name (codes "defined") asks && is_punctuator (codes "(") opening && is_name_kind name.kind && is_punctuator (codes ")") closing
    then Some name.text
    else None

-- the name of which a line asks that it isn't defined: `#ifndef X`, or `#if !defined(X)`
abbrev pub guarded_name : List PlainWord → Option Text
guarded_name (hash ∷ word ∷ name ∷ []) = guarded_by_ifndef word name
guarded_name (hash ∷ word ∷ bang ∷ asks ∷ opening ∷ name ∷ closing ∷ []) = guarded_by_if word bang asks opening name closing
guarded_name _ = None

-- the line is `#define X` with an empty list
abbrev pub defines_as_nothing : Text → List PlainWord → Bool
defines_as_nothing name (hash ∷ word ∷ defined ∷ []) = is_name (codes "define") word && is_name name defined
defines_as_nothing name _ = false

-- the conditional that is open ends with the last of these lines, and has no `#elif` and no `#else`; `inner` conditionals in it are open
abbrev pub closes_last : ℕ → List Mark → Bool
closes_last inner [] = false
closes_last inner (Opens ∷ marks) = closes_last (suc inner) marks
closes_last zero (Closes ∷ []) = true
closes_last zero (Plain ∷ marks) = closes_last zero marks
closes_last zero _ = false
closes_last (suc inner) (Closes ∷ marks) = closes_last inner marks
closes_last (suc inner) (_ ∷ marks) = closes_last (suc inner) marks

-- the line is `#endif` alone
abbrev pub is_lone_endif : Piece → Bool
is_lone_endif (DirectiveLine (hash ∷ word ∷ [])) = is_name (codes "endif") word
is_lone_endif _ = false

-- whether there is a line, and it is `#endif` alone
abbrev pub is_endif_there : Option Piece → Bool
is_endif_there None = false
is_endif_there (Some piece) = is_lone_endif piece

-- the last line is `#endif` alone
abbrev pub ends_with_endif : List Piece → Bool
ends_with_endif pieces = is_endif_there (slice_get pieces (length pieces - 1))

-- whether a file guards this name: its second line defines it with an empty list, and its last line is `#endif` alone and ends
-- the conditional that its first line begins, which has no `#elif` and no `#else`; `pieces` are the lines after those two
abbrev pub guards : Option Text → List PlainWord → List Piece → Bool
guards None define pieces = false
guards (Some name) define pieces = defines_as_nothing name define && ends_with_endif pieces && closes_last 0 (map mark_of pieces)

-- a file begins with an include guard: `#ifndef X` or `#if !defined(X)`, then `#define X` with an empty list, and the `#endif` of
-- that conditional, which has no `#elif` and no `#else`, is the last line
abbrev pub is_guarded : List Piece → Bool
is_guarded (DirectiveLine opening ∷ DirectiveLine define ∷ pieces) = guards (guarded_name opening) define pieces
is_guarded _ = false
