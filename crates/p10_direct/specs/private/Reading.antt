-- Reading a directive from its words, from the first on.
use Rattle.std.specs.Prelude.{List, [], ◌∷◌, ◌++◌, drop, Bool, true, false, ◌&&◌, ◌||◌, Option, Some, None, if◌then◌else◌, codes}
use Rattle.p10_base.specs.declared.span.Span.{Span}
use Rattle.p10_direct.specs.declared.keyword.Keyword.{Keyword}
use Rattle.p10_direct.specs.declared.keyword.Keyword.TheVariants as keyword
use Rattle.p10_base.specs.Words.{PlainWord, Text, is_name, is_name_kind, is_punctuator}
use Rattle.p10_direct.specs.Keywords.{keyword_of}
use Rattle.p10_direct.specs.Directives.{PlainDirective, Null, Include, Define, Undef, If, Elif, Ifdef, Ifndef, Else, Endif, Once, InitDone, TaskLoop, OtherPragma, is_string_kind, Definition, opens_list, is_ellipsis, is_bad, macro_of, Outcome, Read, BadForm, BadDefinition}
use Rattle.p10_lex.specs.Literals.{inside}

-- ## Definitions

-- what a parameter list is
pub data Parameters : Type 0 where
  Wrong : Parameters
  -- the parameters, and the words after the list
  Listed : List PlainWord → List PlainWord → Parameters

-- a parameter and the word after it: none, a name or `...` and `)`, or a name and a comma
pub data Parameter : Type 0 where
  No : Parameter
  Last : PlainWord → Parameter
  Further : PlainWord → Parameter

-- the parameter with which the words begin, by the word after it; `...` may stand only before `)` (C99 6.10p1)
abbrev pub parameter_of : List PlainWord → Parameter
parameter_of (word ∷ separator ∷ words) =
    if is_punctuator (codes ")") separator then (if is_name_kind word.kind || is_ellipsis word then Last word else No)
    else if is_punctuator (codes ",") separator && is_name_kind word.kind then Further word
    else No
parameter_of _ = No

-- the list that goes on with these words, where these parameters were read
abbrev pub behind_parameters : List PlainWord → List PlainWord → Parameters
behind_parameters before (word ∷ separator ∷ words) =
    if is_punctuator (codes ")") separator then (if is_name_kind word.kind || is_ellipsis word then Listed (before ++ word ∷ []) words else Wrong)
    else if is_punctuator (codes ",") separator && is_name_kind word.kind then behind_parameters (before ++ word ∷ []) words
    else Wrong
behind_parameters before _ = Wrong

-- the parameter list that goes on with these words after its `(`
abbrev pub parameters_of : List PlainWord → Parameters
parameters_of [] = Wrong
parameters_of (word ∷ words) = if is_punctuator (codes ")") word then Listed [] words else behind_parameters [] (word ∷ words)

-- whether the words after the name of a macro begin with the `(` of a parameter list
abbrev pub has_list : PlainWord → List PlainWord → Bool
has_list name [] = false
has_list name (word ∷ words) = opens_list name word

-- the function-like definition with this name and parameter list; none where the list is wrong
abbrev pub listed : PlainWord → Parameters → Option Definition
listed name Wrong = None
listed name (Listed parameters body) = Some (record { name = name; parameters = Some parameters; body = body })

-- the definition of this name that goes on with these words
abbrev pub defined_of : PlainWord → List PlainWord → Option Definition
defined_of name words = if has_list name words then listed name (parameters_of (drop 1 words)) else Some (record { name = name; parameters = None; body = words })

-- the definition that the words after `define` are
abbrev pub definition_read : List PlainWord → Option Definition
definition_read [] = None
definition_read (name ∷ words) = if is_name_kind name.kind then defined_of name words else None

-- what comes of a definition: its macro, or the refusal D4 at its name where it is a bad one
abbrev pub judged : Definition → Outcome
judged definition = if is_bad definition then BadDefinition definition.name.at else Read (Define (macro_of definition))

-- what comes of a definition, or of words that are none, which are a bad form
abbrev pub judged_or_wrong : Option Definition → Outcome
judged_or_wrong None = BadForm
judged_or_wrong (Some definition) = judged definition

-- what comes of the words after `define` in a directive with the place `whole`, at which it is refused
-- if they begin with no name
abbrev pub definition_of : Span → List PlainWord → Outcome
definition_of whole [] = BadDefinition whole
definition_of whole (name ∷ words) = if is_name_kind name.kind then judged_or_wrong (defined_of name words) else BadDefinition whole

-- ## Other directives

-- the include of this name between quotes, if there is one; else a bad form
abbrev pub quoted_or_wrong : Option Text → Outcome
quoted_or_wrong (Some name) = Read (Include name false)
quoted_or_wrong None = BadForm

-- the include of this name between angle brackets, if there is one, else of the name between quotes in the text
abbrev pub include_between : Option Text → Text → Outcome
include_between (Some name) text = Read (Include name true)
include_between None text = quoted_or_wrong (inside 34 34 text)

-- what comes of the words after `include`: a name between angle brackets or quotes, and nothing more (C99 6.10.2p2, p3)
abbrev pub include_of : List PlainWord → Outcome
include_of (word ∷ []) = if is_string_kind word.kind then include_between (inside 60 62 word.text) word.text else BadForm
include_of _ = BadForm

-- the one name of the words
abbrev pub only_name_of : List PlainWord → Option Text
only_name_of (word ∷ []) = if is_name_kind word.kind then Some word.text else None
only_name_of _ = None

-- the directive of this name, if there is one; else a bad form
abbrev pub read_or_wrong : (Text → PlainDirective) → Option Text → Outcome
read_or_wrong directive (Some name) = Read (directive name)
read_or_wrong directive None = BadForm

-- one name, of which the directive speaks
abbrev pub of_name : (Text → PlainDirective) → List PlainWord → Outcome
of_name directive words = read_or_wrong directive (only_name_of words)

-- this directive, if no words stand after its name; else a bad form
abbrev pub alone : PlainDirective → List PlainWord → Outcome
alone directive [] = Read directive
alone directive _ = BadForm

-- what comes of the words after `pragma p10`: `init_done` or `task_loop`, and nothing more
abbrev pub own_of : List PlainWord → Outcome
own_of (word ∷ []) = if is_name (codes "init_done") word then Read InitDone else if is_name (codes "task_loop") word then Read TaskLoop else BadForm
own_of _ = BadForm

-- whether there are no words
abbrev pub is_nil : List PlainWord → Bool
is_nil [] = true
is_nil _ = false

-- what comes of the words after `pragma` (C99 6.10.6): a pragma of `p10`, `once` and nothing more, or any other pragma
abbrev pub pragma_of : List PlainWord → Outcome
pragma_of [] = Read OtherPragma
pragma_of (word ∷ words) =
    if is_name (codes "p10") word then own_of words
    else if is_name (codes "once") word && is_nil words then Read Once
    else Read OtherPragma

-- what comes of the words after the name of a directive with the place `whole`; a word that names
-- none is refused (C99 6.10)
abbrev pub named_outcome : Span → Option Keyword → List PlainWord → Outcome
named_outcome whole None words = BadForm
named_outcome whole (Some keyword.Include) words = include_of words
named_outcome whole (Some keyword.Define) words = definition_of whole words
named_outcome whole (Some keyword.Undef) words = of_name Undef words
named_outcome whole (Some keyword.If) words = Read (If words)
named_outcome whole (Some keyword.Elif) words = Read (Elif words)
named_outcome whole (Some keyword.Ifdef) words = of_name Ifdef words
named_outcome whole (Some keyword.Ifndef) words = of_name Ifndef words
named_outcome whole (Some keyword.Else) words = alone Else words
named_outcome whole (Some keyword.Endif) words = alone Endif words
named_outcome whole (Some keyword.Pragma) words = pragma_of words

-- what comes of the words after `#`
abbrev pub outcome_behind : Span → List PlainWord → Outcome
outcome_behind whole [] = Read Null
outcome_behind whole (word ∷ words) = named_outcome whole (keyword_of word) words
