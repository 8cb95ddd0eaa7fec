-- What the directives do (C99 6.10), and what the lines of a file stand for, one by one.
use Rattle.std.specs.Prelude.{ℕ, ◌≡◌, ◌-◌, ◌==◌, nat_lt, List, [], ◌∷◌, ◌++◌, length, slice_index_or, Bool, true, false, ◌&&◌, not, MatchBool, Option, Some, None, if◌then◌else◌, bytes_eq}
use Rattle.p10_base.specs.declared.span.Span.{Span}
use Rattle.p10_base.specs.declared.word.Kind.TheVariants.{Mark}
use Rattle.p10_base.specs.declared.report.Refusal.{Refusal}
use Rattle.p10_base.specs.declared.report.Limit.{Limit}
use Rattle.p10_base.specs.Gathered.{Gathered, name_of, text_of, is_built_in, candidate_of}
use Rattle.p10_base.specs.Words.{PlainWord, Text}
use Rattle.p10_direct.specs.Lines.{Piece, DirectiveLine, TextRun}
use Rattle.p10_direct.specs.Balance.{first_unbalanced}
use Rattle.p10_direct.specs.Directives.{PlainMacro, PlainDirective, Null, Include, Define, Undef, If, Elif, Ifdef, Ifndef, Else, Endif, Once, InitDone, TaskLoop, OtherPragma, Outcome, Read, BadForm, BadDefinition, IsOutcome, place_of}
use Rattle.p10_base.specs.Names.{with_name}
use Rattle.p10_macros.specs.declared.table.Effect.{Effect}
use Rattle.p10_macros.specs.declared.table.Effect.TheVariants.{New, Same, Other}
use Rattle.p10_macros.specs.Table.{Table, without_macro, own_of}
use Rattle.p10_macros.specs.Uses.{Sourced, sourced_words}
use Rattle.p10_macros.specs.Endings.{Ending, Gives, Refused, TooMany}
use Rattle.p10_macros.specs.Answers.{Defines}
use Rattle.p10_expand.specs.Headers.{header_of}
use Rattle.p10_expand.specs.Guards.{is_guarded}
use Rattle.p10_expand.specs.Conditionals.{refusal_of, is_defined, RunEnds, Judged, Holds, Fails, Exceeds, JudgesCondition}
use Rattle.p10_expand.specs.Items.{lines_of, is_among, given_after, new_words}
use Rattle.p10_base.specs.Codes.{directive_number}
use Rattle.p10_base.specs.declared.codes.DirectiveCode.TheVariants.{BadDirective, UnbalancedConditional, IncludeNotFound}
use Rattle.p10_base.specs.declared.codes.DirectiveCode.TheVariants as code
use Rattle.p10_base.specs.declared.report.TheConstants.Limit.{EXPANDED_WORDS, MACROS, MOST_MACROS}

-- ## What is known between two lines

-- an obeyed directive, or the refused one, which for D2 may stand in a skipped group: its words, its place, whether it begins an include guard
pub record PlainObeyed : Type 0 where
  pub words : List PlainWord
  pub span : Span
  pub guard : Bool

-- the state between two lines of a root
pub record State : Type 0 where
  -- the macros that are defined
  pub macros : Table
  -- the names of files that are included once only
  pub once : List Text
  -- the names of the items of built-in headers that were given
  pub given : List Text
  -- the words of the root so far
  pub words : List PlainWord
  -- the directives obeyed so far, in all roots
  pub obeyed : List PlainObeyed
  -- how many words of files and of replacements may still be counted
  pub left : ℕ

-- why nothing more is expanded
pub data Cause : Type 0 where
  -- a line or a use of a macro is refused
  RefusedBy : State → Refusal → Cause
  -- a limit is exceeded before anything is refused
  PassedLimit : Limit → Cause

-- what comes of lines
pub data Ended : Type 0 where
  -- their end is reached
  Finished : State → Ended
  -- it isn't
  Stopped : Cause → Ended

-- what comes of one line
pub data Next : Type 0 where
  -- the line after it; whether the condition of this one holds, which counts for nothing where it has none
  GoesOn : Bool → State → Next
  -- the lines of a file, and then the line after it; whether the file is a built-in header
  EntersFile : ℕ → Bool → State → Next
  -- nothing more
  StopsWith : Cause → Next

-- a file whose lines are expanded: its number, whether it is a built-in header, and its lines
pub record File : Type 0 where
  pub number : ℕ
  pub built_in : Bool
  pub pieces : List Piece

-- the program is refused here, by the refusal with this number at this place
abbrev pub refuse : State → ℕ → Span → Next
refuse s number at = StopsWith (RefusedBy s (refusal_of number at))

-- ## Text

-- whether a word begins where this place does
abbrev pub begins_at : Span → PlainWord → Bool
begins_at at word = word.at.file == at.file && word.at.start == at.start

-- the words before the use of a macro at this place
abbrev pub words_before : Span → List PlainWord → List PlainWord
words_before at [] = []
words_before at (word ∷ words) = if begins_at at word then [] else word ∷ words_before at words

-- the state with these words after those of the root
abbrev pub with_words : State → List PlainWord → State
with_words s words = record s { words = s.words ++ words }

-- what comes of a run of text with this expansion; a refused one stands for the replacement of the words before the refused use
abbrev pub TextEnds : State → List PlainWord → Ending (List Sourced) → Next → Type 0
TextEnds s words (Gives made left) next = next ≡ GoesOn true (record s { words = s.words ++ sourced_words made; left = left })
TextEnds s words (Refused number at) next =
    (made : List Sourced) × (left : ℕ) × RunEnds s.macros (words_before at words) s.left (Gives made left) × (next ≡ refuse (with_words s (sourced_words made)) number at)
TextEnds s words TooMany next = next ≡ StopsWith (PassedLimit EXPANDED_WORDS)

-- a run of text stands for its expansion (C99 6.10.3)
abbrev pub TextGives : State → List PlainWord → Next → Type 0
TextGives s words next = (ending : Ending (List Sourced)) × RunEnds s.macros words s.left ending × TextEnds s words ending next

-- a run of text of a built-in header gives the items that weren't given before
abbrev pub ItemsGive : State → List (List PlainWord) → Next → Type 0
ItemsGive s items next = TextGives (record s { given = given_after s.given items }) (new_words s.given items) next

-- what comes of a run of text of a file, or of a built-in header
abbrev pub RunGives : Bool → State → List PlainWord → Next → Type 0
RunGives true s words next = ItemsGive s (lines_of words) next
RunGives false s words next = TextGives s words next

-- ## Includes

-- the place of the word after the name of a directive, or of the directive where it has none
abbrev pub operand_place : List PlainWord → Span
operand_place (hash ∷ name ∷ operand ∷ words) = operand.at
operand_place line = place_of line

-- whether there is a text, and it is this one
abbrev pub is_some_text : Text → Option Text → Bool
is_some_text text None = false
is_some_text text (Some other) = bytes_eq other text

-- the file that is found for a name is the built-in header of that name: it was gathered as a built-in header, and has the text of that
-- one. Among gathered files a built-in header that is found for a name has it always; of others, a marked file with another text is
-- read like a file of one's own
abbrev pub is_header : Gathered → ℕ → Text → Bool
is_header g number name = is_built_in g number && is_some_text (text_of g number) (header_of name)

-- an include stands for the lines of its candidate, if that isn't included once only, and was before (C99 6.10.2)
abbrev pub included : Gathered → List PlainWord → Text → State → Option ℕ → Next
included g line name s None = refuse s (directive_number IncludeNotFound) (operand_place line)
included g line name s (Some number) =
    if is_among s.once (name_of g number) then GoesOn true s
    else EntersFile number (is_header g number name) s

-- ## Definitions

-- what comes of a definition with this effect on the macros (C99 6.10.3p2): none where the name has the same definition; it is
-- refused where the name has another one
abbrev pub defined_as : List PlainWord → State → Effect → Table → Next
defined_as line s New macros = if nat_lt MOST_MACROS (own_of macros) then StopsWith (PassedLimit MACROS) else GoesOn true (record s { macros = macros })
defined_as line s Same macros = GoesOn true (record s { macros = macros })
defined_as line s Other macros = refuse s (directive_number code.BadDefinition) (operand_place line)

-- what comes of a definition, in a built-in header or not
abbrev pub DefinitionGives : Bool → List PlainWord → PlainMacro → State → Next → Type 0
DefinitionGives built_in line made s next =
    (effect : Effect) × (macros : Table) × Defines s.macros made built_in effect macros × (next ≡ defined_as line s effect macros)

-- a definition of a built-in header is an item, which is given once
abbrev pub ItemGives : List PlainWord → PlainMacro → State → Next → Type 0
ItemGives line made s next =
    MatchBool (is_among s.given made.name) (next ≡ GoesOn true s) (DefinitionGives true line made (record s { given = s.given ++ made.name ∷ [] }) next)

-- what comes of a definition, which is an item in a built-in header
abbrev pub DefineGives : Bool → List PlainWord → PlainMacro → State → Next → Type 0
DefineGives true line made s next = ItemGives line made s next
DefineGives false line made s next = DefinitionGives false line made s next

-- ## Directives

-- what comes of a line whose condition was judged
abbrev pub judged_next : State → Judged → Next
judged_next s (Holds truth left) = GoesOn truth (record s { left = left })
judged_next s (Fails refusal) = StopsWith (RefusedBy s refusal)
judged_next s Exceeds = StopsWith (PassedLimit EXPANDED_WORDS)

-- what comes of a line with a condition
abbrev pub ConditionGives : List PlainWord → List PlainWord → State → Next → Type 0
ConditionGives line condition s next =
    (judged : Judged) × JudgesCondition s.macros (place_of line) condition s.left judged × (next ≡ judged_next s judged)

-- a pragma of this program leaves a mark: its last word
abbrev pub mark_word : List PlainWord → List PlainWord
mark_word [] = []
mark_word (hash ∷ words) = record (slice_index_or (hash ∷ words) (length (hash ∷ words) - 1) hash) { kind = Mark } ∷ []

-- what an obeyed directive does
abbrev pub Does : Gathered → File → List PlainWord → PlainDirective → State → Next → Type 0
Does g file line Null s next = next ≡ GoesOn true s
Does g file line (Include name angle) s next = next ≡ included g line name s (candidate_of g file.number name angle)
Does g file line (Define made) s next = DefineGives file.built_in line made s next
Does g file line (Undef name) s next = next ≡ GoesOn true (record s { macros = without_macro s.macros name })
Does g file line (If condition) s next = ConditionGives line condition s next
Does g file line (Elif condition) s next = ConditionGives line condition s next
Does g file line (Ifdef name) s next = next ≡ GoesOn (is_defined s.macros name) s
Does g file line (Ifndef name) s next = next ≡ GoesOn (not (is_defined s.macros name)) s
Does g file line Else s next = next ≡ GoesOn true s
Does g file line Endif s next = next ≡ GoesOn true s
Does g file line Once s next = next ≡ GoesOn true (record s { once = with_name s.once (name_of g file.number) })
Does g file line InitDone s next = next ≡ GoesOn true (with_words s (mark_word line))
Does g file line TaskLoop s next = next ≡ GoesOn true (with_words s (mark_word line))
Does g file line OtherPragma s next = next ≡ GoesOn true s

-- what comes of an obeyed line with this outcome: one of another form is refused, then one that breaks the structure of the file's conditionals
abbrev pub Acts : Gathered → File → Bool → List PlainWord → Outcome → State → Next → Type 0
Acts g file breaks line BadForm s next = next ≡ refuse s (directive_number BadDirective) (place_of line)
Acts g file breaks line (BadDefinition at) s next = next ≡ refuse s (directive_number code.BadDefinition) at
Acts g file breaks line (Read directive) s next =
    MatchBool breaks (next ≡ refuse s (directive_number UnbalancedConditional) (place_of line)) (Does g file line directive s next)

-- ## Lines

-- whether there is a place, and it is this one
abbrev pub is_place : ℕ → Option ℕ → Bool
is_place place None = false
is_place place (Some other) = place == other

-- the line at this place is the first that breaks the structure of the file's conditionals
abbrev pub breaks_at : File → ℕ → Bool
breaks_at file place = is_place place (first_unbalanced file.pieces)

-- the line at this place begins the include guard of its file
abbrev pub begins_guard : File → ℕ → Bool
begins_guard file place = (place == 0) && is_guarded file.pieces

-- the directive is listed among those that were obeyed; those of built-in headers aren't
abbrev pub listed : File → ℕ → List PlainWord → State → State
listed file place line s =
    if file.built_in then s
    else record s { obeyed = s.obeyed ++ (record { words = line; span = place_of line; guard = begins_guard file place }) ∷ [] }

-- a line that isn't obeyed does nothing, unless it breaks the structure of the file's conditionals
abbrev pub passed : File → ℕ → List PlainWord → State → Next
passed file place line s = if breaks_at file place then refuse (listed file place line s) (directive_number UnbalancedConditional) (place_of line) else GoesOn true s

-- what comes of an obeyed line that is listed
abbrev pub ObeyedGives : Gathered → File → ℕ → List PlainWord → State → Next → Type 0
ObeyedGives g file place line s next =
    (outcome : Outcome) × IsOutcome line outcome × Acts g file (breaks_at file place) line outcome s next

-- what comes of a line or a run of text at this place among the lines of its file, which is obeyed or not; a directive that is obeyed is listed
abbrev pub LineGives : Gathered → File → Bool → ℕ → Piece → State → Next → Type 0
LineGives g file true place (DirectiveLine line) s next = ObeyedGives g file place line (listed file place line s) next
LineGives g file false place (DirectiveLine line) s next = next ≡ passed file place line s
LineGives g file true place (TextRun words) s next = RunGives file.built_in s words next
LineGives g file false place (TextRun words) s next = next ≡ GoesOn true s
