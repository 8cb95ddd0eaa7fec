-- The uses of macros in a list of words, and what replaces them (C99 6.10.3, 6.10.3.1, 6.10.3.4).
use Rattle.std.specs.Prelude.{ℕ, zero, ◌+◌, ◌-◌, ◌==◌, List, [], ◌∷◌, length, map, Bool, false, ◌&&◌, ◌||◌, Option, Some, None, bytes_eq, codes, if◌then◌else◌}
use Rattle.std.specs.List.{flat_map}
use Rattle.p10_base.specs.Words.{Text, PlainWord, is_name, is_name_kind, is_punctuator}
use Rattle.p10_direct.specs.Directives.{PlainMacro}
use Rattle.p10_macros.specs.Table.{Table, macro_named}
use Rattle.p10_base.specs.Codes.{directive_number}
use Rattle.p10_base.specs.declared.codes.DirectiveCode.TheVariants.{RecursiveMacro, WrongArguments, CallWithoutEnd}

-- a word, and whether it comes from the replacement of the macro with a name
pub record Sourced : Type 0 where
  pub word : PlainWord
  pub from : Text → Bool

-- a word of the source comes from no macro
abbrev pub written : PlainWord → Sourced
written word = record { word = word; from = λ name. false }

-- the words, without what they come from
abbrev pub sourced_words : List Sourced → List PlainWord
sourced_words words = map (λ (sourced : Sourced). sourced.word) words

-- ## Arguments

-- what stands after the `(` of a use: the first argument, the others, and the words after the `)`
pub record Arguments : Type 0 where
  pub first : List Sourced
  pub others : List (List Sourced)
  pub rest : List Sourced

-- whether a word is the `(` of arguments
abbrev pub opens : PlainWord → Bool
opens word = is_punctuator (codes "(") word

-- whether a word is the `)` of arguments
abbrev pub closes : PlainWord → Bool
closes word = is_punctuator (codes ")") word

-- whether a word is the comma between arguments
abbrev pub separates : PlainWord → Bool
separates word = is_punctuator (codes ",") word

-- how many parentheses are open after a word
abbrev pub depth_after : ℕ → PlainWord → ℕ
depth_after depth word = if opens word then depth + 1 else if closes word then depth - 1 else depth

-- with one more word before the first argument
abbrev pub word_before : Sourced → Option Arguments → Option Arguments
word_before word None = None
word_before word (Some found) = Some (record { first = word ∷ found.first; others = found.others; rest = found.rest })

-- with an empty argument before the first
abbrev pub argument_before : Option Arguments → Option Arguments
argument_before None = None
argument_before (Some found) = Some (record { first = []; others = found.first ∷ found.others; rest = found.rest })

-- the arguments, where `depth` parentheses of the first one are open: commas outside parentheses separate arguments, and the
-- `)` that matches none of these parentheses ends the last; none where the words end before it (C99 6.10.3p10, p11)
abbrev pub arguments_in : ℕ → List Sourced → Option Arguments
arguments_in depth [] = None
arguments_in depth (word ∷ words) =
    if closes word.word && (depth == 0) then Some (record { first = []; others = []; rest = words })
    else if separates word.word && (depth == 0) then argument_before (arguments_in 0 words)
    else word_before word (arguments_in (depth_after depth word.word) words)

-- the arguments of a macro with a number of parameters: `( )` is one argument without words, but none of a macro without
-- parameters; none where their number is another one (C99 6.10.3p4)
abbrev pub fitting : ℕ → List (List Sourced) → Option (List (List Sourced))
fitting zero ([] ∷ []) = Some []
fitting parameters arguments = if parameters == length arguments then Some arguments else None

-- ## Uses

-- what a word begins
pub data Use : Type 0 where
  -- no use of a macro
  Stays : Use
  -- a use that is refused by D6, D7 or D8
  Wrong : ℕ → Use
  -- a use of a macro with these arguments, and the words after it
  Calls : PlainMacro → List (List Sourced) → List Sourced → Use

-- a use with these arguments, if there are as many as parameters, and the words after it
abbrev pub fitted : PlainMacro → List Sourced → Option (List (List Sourced)) → Use
fitted plain rest None = Wrong (directive_number WrongArguments)
fitted plain rest (Some arguments) = Calls plain arguments rest

-- a use with the arguments that were found, if they end
abbrev pub called : PlainMacro → ℕ → Option Arguments → Use
called plain parameters None = Wrong (directive_number CallWithoutEnd)
called plain parameters (Some found) = fitted plain found.rest (fitting parameters (found.first ∷ found.others))

-- a use whose name comes from the macro itself is refused (C99 6.10.3.4p2 would leave it)
abbrev pub unless_recursive : PlainMacro → Sourced → Use → Use
unless_recursive plain name use' = if name.from plain.name then Wrong (directive_number RecursiveMacro) else use'

-- the name of an object-like macro is a use; that of a function-like one is where `(` follows (C99 6.10.3p9, p10)
abbrev pub use_as : PlainMacro → Option (List Text) → Sourced → List Sourced → Use
use_as plain None name words = unless_recursive plain name (Calls plain [] words)
use_as plain (Some parameters) name [] = Stays
use_as plain (Some parameters) name (word ∷ words) =
    if opens word.word then unless_recursive plain name (called plain (length parameters) (arguments_in 0 words)) else Stays

-- what a name begins by the macro that it names, if there is one
abbrev pub use_by : Option PlainMacro → Sourced → List Sourced → Use
use_by None name words = Stays
use_by (Some plain) name words = use_as plain plain.parameters name words

-- what a word begins where these words follow
abbrev pub use_of : Table → Sourced → List Sourced → Use
use_of table name words = if is_name_kind name.word.kind then use_by (macro_named name.word.text table) name words else Stays

-- ## Replacements

-- a word of the replacement of a use: it stands at the name of the use, and comes from the macro, from those that the name
-- comes from, and from those that it came from before
abbrev pub given : PlainMacro → Sourced → Sourced → Sourced
given plain name part =
    record { word = record part.word { at = name.word.at }; from = λ macro'. bytes_eq macro' plain.name || name.from macro' || part.from macro' }

-- the value of the parameter with this name
abbrev pub value_of : List Text → List (List Sourced) → PlainWord → Option (List Sourced)
value_of (parameter ∷ parameters) (value ∷ values) word = if is_name parameter word then Some value else value_of parameters values word
value_of _ _ word = None

-- the value of the parameter that a word names, or the word itself where it names none
abbrev pub value_or : Option (List Sourced) → PlainWord → List Sourced
value_or None word = written word ∷ []
value_or (Some value) word = value

-- an object-like macro has none
abbrev pub texts_of : Option (List Text) → List Text
texts_of None = []
texts_of (Some parameters) = parameters

-- the replacement list with the values of its parameters (C99 6.10.3.1)
abbrev pub replacement : PlainMacro → Sourced → List (List Sourced) → List Sourced
replacement plain name values = map (given plain name) (flat_map (λ (word : PlainWord). value_or (value_of (texts_of plain.parameters) values word) word) plain.body)
