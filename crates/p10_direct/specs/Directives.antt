-- The directives, and the words that spell them (C99 6.10).
use Rattle.std.specs.Prelude.{◌≡◌, ◌↔◌, ◌==◌, List, [], ◌∷◌, ◌++◌, length, Bool, true, false, ◌&&◌, ◌||◌, Option, Some, None, option_map, bytes_eq, codes, slice_index_or, ◌-◌, ◌⊎◌}
use Rattle.std.specs.List.{list_any}
use Rattle.std.specs.Option.{option_map_or}
use Rattle.p10_base.specs.declared.span.Span.{Span}
use Rattle.p10_base.specs.declared.word.Kind.{Kind}
use Rattle.p10_base.specs.declared.word.Kind.TheVariants.{Str}
use Rattle.p10_base.specs.declared.report.Refusal.{Refusal}
use Rattle.p10_direct.specs.declared.keyword.Keyword.{Keyword}
use Rattle.p10_direct.specs.declared.keyword.Keyword.TheVariants as keyword
use Rattle.p10_base.specs.Words.{PlainWord, Text, is_name, is_name_kind, is_punctuator, spellings_of, span_of, span_to}
use Rattle.p10_direct.specs.Keywords.{keyword_of}
use Rattle.p10_base.specs.Codes.{directive_refusal}
use Rattle.p10_base.specs.declared.codes.DirectiveCode.TheVariants.{BadDirective}
use Rattle.p10_base.specs.declared.codes.DirectiveCode.TheVariants as code

-- ## Directives as plain values

-- a macro: its name, its parameters if it is function-like, and its replacement list (C99 6.10.3)
pub record PlainMacro : Type 0 where
  pub name : Text
  pub parameters : Option (List Text)
  pub body : List PlainWord

-- a directive (C99 6.10)
pub data PlainDirective : Type 0 where
  Null : PlainDirective
  -- the name, and whether it stood between angle brackets
  Include : Text → Bool → PlainDirective
  Define : PlainMacro → PlainDirective
  Undef : Text → PlainDirective
  If : List PlainWord → PlainDirective
  Elif : List PlainWord → PlainDirective
  Ifdef : Text → PlainDirective
  Ifndef : Text → PlainDirective
  Else : PlainDirective
  Endif : PlainDirective
  Once : PlainDirective
  InitDone : PlainDirective
  TaskLoop : PlainDirective
  OtherPragma : PlainDirective

-- ## Definitions

-- the words of a definition: the name, the words of the parameter list if it is function-like, and the replacement list
pub record Definition : Type 0 where
  pub name : PlainWord
  pub parameters : Option (List PlainWord)
  pub body : List PlainWord

-- whether a word is the `(` of a parameter list: it stands directly after the name (C99 6.10p1, `lparen`)
abbrev pub opens_list : PlainWord → PlainWord → Bool
opens_list name word = is_punctuator (codes "(") word && (name.at.end == word.at.start)

-- whether a word is `...`, which stands for variable arguments (C99 6.10.3p12)
abbrev pub is_ellipsis : PlainWord → Bool
is_ellipsis word = is_punctuator (codes "...") word

-- parameters are names, but the last may be `...`
abbrev pub AreParameters : List PlainWord → Type 0
AreParameters [] = Unit {0}
AreParameters (word ∷ []) = is_name_kind word.kind || is_ellipsis word ≡ true
AreParameters (word ∷ words) = (is_name_kind word.kind ≡ true) × AreParameters words

-- further parameters, each after a comma, then `)`, then the rest
abbrev pub Continues : List PlainWord → List PlainWord → List PlainWord → Type 0
Continues [] (close ∷ words) rest = (is_punctuator (codes ")") close ≡ true) × (words ≡ rest)
Continues (parameter ∷ parameters) (comma ∷ word ∷ words) rest = (is_punctuator (codes ",") comma ≡ true) × (word ≡ parameter) × Continues parameters words rest
Continues _ _ rest = ⊥

-- parameters between commas, then `)`, then the rest
abbrev pub IsList : List PlainWord → List PlainWord → List PlainWord → Type 0
IsList [] words rest = Continues [] words rest
IsList (parameter ∷ parameters) (word ∷ words) rest = (word ≡ parameter) × Continues parameters words rest
IsList (parameter ∷ parameters) [] rest = ⊥

-- no `(` stands directly after the name
abbrev pub HasNoList : PlainWord → List PlainWord → Type 0
HasNoList name [] = Unit {0}
HasNoList name (word ∷ words) = opens_list name word ≡ false

-- the words after the name of a macro give it these parameters, if it is function-like, and this
-- replacement list (C99 6.10.3p9, p10)
abbrev pub DefinesBehind : PlainWord → Option (List PlainWord) → List PlainWord → List PlainWord → Type 0
DefinesBehind name None body words = HasNoList name words × (words ≡ body)
DefinesBehind name (Some parameters) body (paren ∷ words) = (opens_list name paren ≡ true) × AreParameters parameters × IsList parameters words body
DefinesBehind name (Some parameters) body [] = ⊥

-- the words after `define` are this definition: `NAME list` or `NAME(parameters) list` (C99 6.10p1)
abbrev pub Defines : Definition → List PlainWord → Type 0
Defines definition [] = ⊥
Defines definition (name ∷ words) = (name ≡ definition.name) × (is_name_kind name.kind ≡ true) × DefinesBehind name definition.parameters definition.body words

-- the words after `define` begin the definition of a function-like macro: `NAME(` (C99 6.10.3p10)
abbrev pub IsFunctionLike : List PlainWord → Type 0
IsFunctionLike (name ∷ paren ∷ words) = (is_name_kind name.kind ≡ true) × (opens_list name paren ≡ true)
IsFunctionLike _ = ⊥

-- the one definition that the words after `define` are, or none
abbrev pub IsDefinition : List PlainWord → Option Definition → Type 0
IsDefinition words found = (definition : Definition) → Defines definition words ↔ (found ≡ Some definition)

-- a text stands in the list twice
abbrev pub has_repeated_text : List Text → Bool
has_repeated_text [] = false
has_repeated_text (text ∷ texts) = list_any (λ other. bytes_eq other text) texts || has_repeated_text texts

-- a parameter of the definition stands twice
abbrev pub repeats_a_parameter : Definition → Bool
repeats_a_parameter definition = option_map_or (λ parameters. has_repeated_text (spellings_of parameters)) definition.parameters false

-- a word that no replacement list may have here: `#`, which C99 allows in those of object-like macros, `##` (C99 6.10.3.2,
-- 6.10.3.3) and `...`
abbrev pub is_refused : PlainWord → Bool
is_refused word = is_punctuator (codes "#") word || is_punctuator (codes "##") word || is_ellipsis word

-- whether `...` is among the parameters; an object-like macro has none
abbrev pub has_ellipsis : Option (List PlainWord) → Bool
has_ellipsis None = false
has_ellipsis (Some parameters) = list_any is_ellipsis parameters

-- one word makes the definition a bad one: `...` among its parameters, the name `defined`, or a refused word in its
-- replacement list
abbrev pub has_bad_word : Definition → Bool
has_bad_word definition = has_ellipsis definition.parameters || bytes_eq definition.name.text (codes "defined") || list_any is_refused definition.body

-- a definition that is refused: one word makes it a bad one, or a parameter stands twice
abbrev pub is_bad : Definition → Bool
is_bad definition = has_bad_word definition || repeats_a_parameter definition

-- the macro that a definition defines, with its name and parameters as texts
abbrev pub macro_of : Definition → PlainMacro
macro_of definition = record { name = definition.name.text; parameters = option_map spellings_of definition.parameters; body = definition.body }

-- ## The words of a directive

-- one word
abbrev pub One : (PlainWord → Type 0) → List PlainWord → Type 0
One P (word ∷ []) = P word
One P _ = ⊥

-- the word is a name with this text
abbrev pub IsNamed : Text → PlainWord → Type 0
IsNamed name word = (is_name_kind word.kind ≡ true) × (word.text ≡ name)

-- whether a word is a string literal or an include name between angle brackets, by its kind
abbrev pub is_string_kind : Kind → Bool
is_string_kind Str = true
is_string_kind _ = false

-- the name of an include between its delimiters (C99 6.4.7)
abbrev pub enclosed : Bool → Text → Text
enclosed true name = 60 ∷ name ++ 62 ∷ []
enclosed false name = 34 ∷ name ++ 34 ∷ []

-- a pragma that is none of this program's: not of `p10`, and not `once` alone
abbrev pub IsOther : List PlainWord → Type 0
IsOther [] = Unit {0}
IsOther (word ∷ []) = (is_name (codes "p10") word ≡ false) × (is_name (codes "once") word ≡ false)
IsOther (word ∷ words) = is_name (codes "p10") word ≡ false

-- `p10`, and one word with this text
abbrev pub IsOwn : Text → List PlainWord → Type 0
IsOwn text (word ∷ words) = (is_name (codes "p10") word ≡ true) × One (λ last. is_name text last ≡ true) words
IsOwn text [] = ⊥

-- the words after a directive's name spell it
abbrev pub SpellsNamed : PlainDirective → Option Keyword → List PlainWord → Type 0
SpellsNamed (Include name angle) (Some keyword.Include) words = One (λ word. (is_string_kind word.kind ≡ true) × (word.text ≡ enclosed angle name)) words
SpellsNamed (Define plain) (Some keyword.Define) words = (definition : Definition) × Defines definition words × (is_bad definition ≡ false) × (macro_of definition ≡ plain)
SpellsNamed (Undef name) (Some keyword.Undef) words = One (IsNamed name) words
SpellsNamed (If condition) (Some keyword.If) words = words ≡ condition
SpellsNamed (Elif condition) (Some keyword.Elif) words = words ≡ condition
SpellsNamed (Ifdef name) (Some keyword.Ifdef) words = One (IsNamed name) words
SpellsNamed (Ifndef name) (Some keyword.Ifndef) words = One (IsNamed name) words
SpellsNamed Else (Some keyword.Else) words = words ≡ []
SpellsNamed Endif (Some keyword.Endif) words = words ≡ []
SpellsNamed Once (Some keyword.Pragma) words = One (λ word. is_name (codes "once") word ≡ true) words
SpellsNamed InitDone (Some keyword.Pragma) words = IsOwn (codes "init_done") words
SpellsNamed TaskLoop (Some keyword.Pragma) words = IsOwn (codes "task_loop") words
SpellsNamed OtherPragma (Some keyword.Pragma) words = IsOther words
SpellsNamed _ _ words = ⊥

-- the words after `#` spell a directive: no words the null directive (C99 6.10.7), others one that the first names
abbrev pub SpellsBehind : PlainDirective → List PlainWord → Type 0
SpellsBehind Null words = words ≡ []
SpellsBehind directive (word ∷ words) = SpellsNamed directive (keyword_of word) words
SpellsBehind directive [] = ⊥

-- the words of a line spell a directive
abbrev pub Spells : PlainDirective → List PlainWord → Type 0
Spells directive [] = ⊥
Spells directive (hash ∷ words) = (is_punctuator (codes "#") hash ≡ true) × SpellsBehind directive words

-- ## Refused directives

-- a directive's place: from its `#` to the end of its last word
abbrev pub place_of : List PlainWord → Span
place_of [] = span_of 0 0 0
place_of (hash ∷ words) = span_to hash.at (slice_index_or (hash ∷ words) (length (hash ∷ words) - 1) hash).at

-- the words after `define` have no name, or are a definition that is refused; the second is refused at its name
abbrev pub DefinesBadly : Span → Span → List PlainWord → Type 0
DefinesBadly whole at [] = at ≡ whole
DefinesBadly whole at (name ∷ words) = ((is_name_kind name.kind ≡ false) × (at ≡ whole)) ⊎ ((definition : Definition) × Defines definition (name ∷ words) × (is_bad definition ≡ true) × (at ≡ definition.name.at))

-- the words after the name of a directive are a bad definition; it is refused at `at`, where the
-- directive has the place `whole`
abbrev pub IsBadNamed : Span → Span → Option Keyword → List PlainWord → Type 0
IsBadNamed whole at (Some keyword.Define) words = DefinesBadly whole at words
IsBadNamed whole at _ words = ⊥

-- the words after `#` are a bad definition; it is refused at `at`, where the directive has the place `whole`
abbrev pub IsBadBehind : Span → Span → List PlainWord → Type 0
IsBadBehind whole at [] = ⊥
IsBadBehind whole at (word ∷ words) = IsBadNamed whole at (keyword_of word) words

-- the line is a bad definition, which is refused at this place
abbrev pub IsBadDefinition : Span → List PlainWord → Type 0
IsBadDefinition at [] = ⊥
IsBadDefinition at (hash ∷ words) = (is_punctuator (codes "#") hash ≡ true) × IsBadBehind (place_of (hash ∷ words)) at words

-- ## Function-like macros

-- the words after the name of a directive begin the definition of a function-like macro
abbrev pub IsFunctionLikeNamed : Option Keyword → List PlainWord → Type 0
IsFunctionLikeNamed (Some keyword.Define) words = IsFunctionLike words
IsFunctionLikeNamed _ words = ⊥

-- the words after `#` begin the definition of a function-like macro
abbrev pub IsFunctionLikeBehind : List PlainWord → Type 0
IsFunctionLikeBehind [] = ⊥
IsFunctionLikeBehind (word ∷ words) = IsFunctionLikeNamed (keyword_of word) words

-- the line begins the definition of a function-like macro: `#define NAME(`
abbrev pub DefinesFunctionLike : List PlainWord → Type 0
DefinesFunctionLike [] = ⊥
DefinesFunctionLike (hash ∷ words) = (is_punctuator (codes "#") hash ≡ true) × IsFunctionLikeBehind words

-- ## What comes of a line

-- what a directive line is: a directive, or refused in one of two ways
pub data Outcome : Type 0 where
  -- the directive that it spells
  Read : PlainDirective → Outcome
  -- an unknown directive, or one of another form
  BadForm : Outcome
  -- a bad definition, refused at this place
  BadDefinition : Span → Outcome

-- the line has this outcome: it spells the directive, is a bad definition, or is neither
abbrev pub IsOutcome : List PlainWord → Outcome → Type 0
IsOutcome line (Read directive) = Spells directive line
IsOutcome line (BadDefinition at) = IsBadDefinition at line
IsOutcome line BadForm = ((directive : PlainDirective) → Spells directive line → ⊥) × ((at : Span) → IsBadDefinition at line → ⊥)

-- the refusal in which it ends, where the line has this place
abbrev pub refusal_of : Span → Outcome → Option Refusal
refusal_of whole (Read directive) = None
refusal_of whole BadForm = Some (directive_refusal BadDirective whole)
refusal_of whole (BadDefinition at) = Some (directive_refusal code.BadDefinition at)

-- the line is refused in this way
pub record IsRefused (line : List PlainWord) (refusal : Refusal) : Type 0 where
  pub outcome : Outcome
  pub is_outcome : IsOutcome line outcome
  pub refused : refusal_of (place_of line) outcome ≡ Some refusal

-- the line has one outcome, and no other
pub record OneOutcome (line : List PlainWord) : Type 0 where
  pub outcome : Outcome
  pub is_outcome : IsOutcome line outcome
  pub only : (other : Outcome) → IsOutcome line other → other ≡ outcome

-- each line has one outcome
abbrev pub LinesHaveOneOutcome : Type 0
LinesHaveOneOutcome = (line : List PlainWord) → OneOutcome line
