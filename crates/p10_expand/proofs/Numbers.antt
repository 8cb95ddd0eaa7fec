-- What a program is refused by, which limits it may exceed, and how many roots it expands to.
use Rattle.std.proofs.Common.{◌≡◌, ◌⊎◌, inl, inr, ℕ, ◌+◌, ◌≤◌, List, [], ◌∷◌, ◌++◌, length, length-append, Bool, true, false, MatchBool, if◌then◌else◌, nat_lt, Option, Some, None, IfSome, Result, Ok, Err, refl, sym, subst, arith}
use Rattle.std.proofs.lemmas.List.{length-map}
use Rattle.p10_base.specs.declared.span.Span.{Span}
use Rattle.p10_base.specs.declared.report.Refusal.{Refusal}
use Rattle.p10_base.specs.declared.report.Limit.{Limit}
use Rattle.p10_base.specs.declared.report.Family.TheVariants.{D}
use Rattle.p10_base.specs.Gathered.{Gathered, name_of, candidate_of}
use Rattle.p10_base.specs.Words.{PlainWord, Text}
use Rattle.p10_direct.specs.Lines.{Piece, DirectiveLine, TextRun}
use Rattle.p10_direct.specs.Balance.{mark_of}
use Rattle.p10_direct.specs.Directives.{PlainMacro, PlainDirective, Include, Define, If, Elif, Outcome, Read, BadForm, BadDefinition, place_of}
use Rattle.p10_macros.specs.declared.table.Effect.{Effect}
use Rattle.p10_macros.specs.declared.table.Effect.TheVariants.{New, Same, Other}
use Rattle.p10_macros.specs.Table.{Table, own_of}
use Rattle.p10_macros.specs.Uses.{Sourced}
use Rattle.p10_macros.specs.Endings.{Ending, Gives, Refused, TooMany}
use Rattle.p10_macros.proofs.Numbers.{EndNumbered, ends_numbered}
use Rattle.p10_expand.specs.Conditionals.{Judged, Holds, Fails, Exceeds, Judges}
use Rattle.p10_expand.specs.Items.{is_among, given_after, lines_of, new_words}
use Rattle.p10_expand.specs.Obeying.{PlainObeyed, State, Cause, Ended, Stopped, Finished, RefusedBy, PassedLimit, Next, GoesOn, EntersFile, StopsWith, File, refuse, TextEnds, TextGives, RunGives, is_header, included, defined_as, DefinitionGives, DefineGives, judged_next, ConditionGives, Does, Acts, breaks_at, listed, LineGives}
use Rattle.p10_expand.specs.Groups.{PassedLine, is_obeyed_after}
use Rattle.p10_expand.specs.Expands.{FileEnds, LinesEnd, words_counted, too_many_words, no_lines, next_line, file_finished, file_stopped, nested_too_deep, line_stops, Expansion, no_words, RootsEnd, no_roots, root_finished, root_refused, limit_passed}
use Rattle.p10_base.specs.declared.report.TheConstants.Limit.{MACROS, MOST_MACROS}

-- ## The numbers

-- one of D1 to D8
abbrev pub IsOfDirectives : Refusal → Type 0
IsOfDirectives refusal = (refusal.family ≡ D) × (1 ≤ refusal.number) × (refusal.number ≤ 8)

-- M3, M4 or M6
abbrev pub IsOfExpansion : Limit → Type 0
IsOfExpansion limit = (limit.number ≡ 3) ⊎ ((limit.number ≡ 4) ⊎ (limit.number ≡ 6))

abbrev CauseNumbered : Cause → Type 0
CauseNumbered (RefusedBy s refusal) = IsOfDirectives refusal
CauseNumbered (PassedLimit limit) = IsOfExpansion limit

abbrev EndedNumbered : Ended → Type 0
EndedNumbered (Finished s) = Unit {0}
EndedNumbered (Stopped cause) = CauseNumbered cause

abbrev NextNumbered : Next → Type 0
NextNumbered (StopsWith cause) = CauseNumbered cause
NextNumbered _ = Unit {0}

next_if : (b : Bool) (x y : Next) → NextNumbered x → NextNumbered y → NextNumbered (if b then x else y)
next_if true x y p q = p
next_if false x y p q = q

match_both : (b : Bool) {P Q R : Type 0} → (P → R) → (Q → R) → MatchBool b P Q → R
match_both true p q both = p both
match_both false p q both = q both

-- ## Text and conditions

text_ends_numbered : (s : State) (words : List PlainWord) (ending : Ending (List Sourced)) (next : Next) → TextEnds s words ending next → EndNumbered ending → NextNumbered next
text_ends_numbered s words (Gives made left) next is numbered = subst NextNumbered (sym is) tt
text_ends_numbered s words (Refused number at) next (made, left, runs, is) numbered = subst NextNumbered (sym is) (refl, omega (arith, numbered), numbered.1)
text_ends_numbered s words TooMany next is numbered = subst NextNumbered (sym is) (inr (inl refl))

text_numbered : (s : State) (words : List PlainWord) (next : Next) → TextGives s words next → NextNumbered next
text_numbered s words next (ending, runs, ends) = text_ends_numbered s words ending next ends (ends_numbered runs)

run_numbered : (built_in : Bool) (s : State) (words : List PlainWord) (next : Next) → RunGives built_in s words next → NextNumbered next
run_numbered true s words next gives = text_numbered (record s { given = given_after s.given (lines_of words) }) (new_words s.given (lines_of words)) next gives
run_numbered false s words next gives = text_numbered s words next gives

abbrev JudgedNumbered : Judged → Type 0
JudgedNumbered (Fails refusal) = IsOfDirectives refusal
JudgedNumbered _ = Unit {0}

judges_numbered : (whole : Span) (ending : Ending (List Sourced)) (judged : Judged) → Judges whole ending judged → EndNumbered ending → JudgedNumbered judged
judges_numbered whole (Gives made left) judged (inl (truth, has, is)) numbered = subst JudgedNumbered (sym is) tt
judges_numbered whole (Gives made left) judged (inr (none, is)) numbered = subst JudgedNumbered (sym is) (refl, omega arith, omega arith)
judges_numbered whole (Refused number at) judged is numbered = subst JudgedNumbered (sym is) (refl, omega (arith, numbered), numbered.1)
judges_numbered whole TooMany judged is numbered = subst JudgedNumbered (sym is) tt

judged_numbered : (s : State) (judged : Judged) → JudgedNumbered judged → NextNumbered (judged_next s judged)
judged_numbered s (Holds truth left) numbered = tt
judged_numbered s (Fails refusal) numbered = numbered
judged_numbered s Exceeds numbered = inr (inl refl)

condition_numbered : (line condition : List PlainWord) (s : State) (next : Next) → ConditionGives line condition s next → NextNumbered next
condition_numbered line condition s next (judged, (ending, runs, judges), is) =
    subst NextNumbered (sym is) (judged_numbered s judged (judges_numbered (place_of line) ending judged judges (ends_numbered runs)))

-- ## Directives

included_numbered : (g : Gathered) (line : List PlainWord) (name : Text) (s : State) (found : Option ℕ) → NextNumbered (included g line name s found)
included_numbered g line name s None = (refl, omega arith, omega arith)
included_numbered g line name s (Some number) = next_if (is_among s.once (name_of g number)) (GoesOn true s) (EntersFile number (is_header g number name) s) tt tt

defined_numbered : (line : List PlainWord) (s : State) (answer : Effect) (macros : Table) → NextNumbered (defined_as line s answer macros)
defined_numbered line s New macros = next_if (nat_lt MOST_MACROS (own_of macros)) (StopsWith (PassedLimit MACROS)) (GoesOn true (record s { macros = macros })) (inr (inr refl)) tt
defined_numbered line s Same macros = tt
defined_numbered line s Other macros = (refl, omega arith, omega arith)

definition_numbered : (built_in : Bool) (line : List PlainWord) (made : PlainMacro) (s : State) (next : Next) → DefinitionGives built_in line made s next → NextNumbered next
definition_numbered built_in line made s next (answer, macros, defines, is) = subst NextNumbered (sym is) (defined_numbered line s answer macros)

define_numbered : (built_in : Bool) (line : List PlainWord) (made : PlainMacro) (s : State) (next : Next) → DefineGives built_in line made s next → NextNumbered next
define_numbered true line made s next gives = match_both (is_among s.given made.name) (λ is. subst NextNumbered (sym is) tt) (definition_numbered true line made (record s { given = s.given ++ made.name ∷ [] }) next) gives
define_numbered false line made s next gives = definition_numbered false line made s next gives

does_numbered : (g : Gathered) (file : File) (line : List PlainWord) (directive : PlainDirective) (s : State) (next : Next) → Does g file line directive s next → NextNumbered next
does_numbered g file line (Include name angle) s next is = subst NextNumbered (sym is) (included_numbered g line name s (candidate_of g file.number name angle))
does_numbered g file line (Define made) s next gives = define_numbered file.built_in line made s next gives
does_numbered g file line (If condition) s next gives = condition_numbered line condition s next gives
does_numbered g file line (Elif condition) s next gives = condition_numbered line condition s next gives
does_numbered g file line _ s next is = subst NextNumbered (sym is) tt

acts_numbered : (g : Gathered) (file : File) (breaks : Bool) (line : List PlainWord) (outcome : Outcome) (s : State) (next : Next) → Acts g file breaks line outcome s next → NextNumbered next
acts_numbered g file breaks line BadForm s next is = subst NextNumbered (sym is) (refl, omega arith, omega arith)
acts_numbered g file breaks line (BadDefinition at) s next is = subst NextNumbered (sym is) (refl, omega arith, omega arith)
acts_numbered g file breaks line (Read directive) s next acts = match_both breaks (λ is. subst NextNumbered (sym is) (refl, omega arith, omega arith)) (does_numbered g file line directive s next) acts

-- ## Lines

line_numbered : (g : Gathered) (file : File) (obeyed : Bool) (place : ℕ) (piece : Piece) (s : State) (next : Next) → LineGives g file obeyed place piece s next → NextNumbered next
line_numbered g file true place (DirectiveLine line) s next (outcome, is, acts) = acts_numbered g file (breaks_at file place) line outcome (listed file place line s) next acts
line_numbered g file false place (DirectiveLine line) s next is =
    subst NextNumbered (sym is) (next_if (breaks_at file place) (refuse (listed file place line s) 2 (place_of line)) (GoesOn true s) (refl, omega arith, omega arith) tt)
line_numbered g file true place (TextRun words) s next gives = run_numbered file.built_in s words next gives
line_numbered g file false place (TextRun words) s next is = subst NextNumbered (sym is) tt

-- ## Files

mutual
  file_numbered : {g : Gathered} {nested number : ℕ} {built_in : Bool} {s : State} {ended : Ended} → FileEnds g nested number built_in s ended → EndedNumbered ended
  file_numbered (words_counted lexed counted cut lines) = lines_numbered lines
  file_numbered (too_many_words lexed counted) = inr (inl refl)

  lines_numbered : {g : Gathered} {nested : ℕ} {file : File} {before : List PassedLine} {pieces : List Piece} {s : State} {ended : Ended} → LinesEnd g nested file before pieces s ended → EndedNumbered ended
  lines_numbered no_lines = tt
  lines_numbered (next_line gives rest) = lines_numbered rest
  lines_numbered (file_finished gives within rest) = lines_numbered rest
  lines_numbered (file_stopped gives within) = file_numbered within
  lines_numbered (nested_too_deep number built_in entered gives) = inl refl
  lines_numbered {g} (line_stops {file = file} {before = before} {piece = piece} {s = s} {cause = cause} gives) =
      line_numbered g file (is_obeyed_after before (mark_of piece)) (length before) piece s (StopsWith cause) gives

-- ## Roots

-- the refusal, or the limit, is one of those
abbrev pub AnswerNumbered : Result Expansion Limit → Type 0
AnswerNumbered (Ok expansion) = IfSome expansion.refusal IsOfDirectives
AnswerNumbered (Err limit) = IsOfExpansion limit

pub roots_numbered : {g : Gathered} {numbers : List ℕ} {roots : List (List PlainWord)} {obeyed : List PlainObeyed} {left : ℕ} {answer : Result Expansion Limit} → RootsEnd g numbers roots obeyed left answer → AnswerNumbered answer
roots_numbered no_roots = tt
roots_numbered (root_finished file others) = roots_numbered others
roots_numbered (root_refused file) = file_numbered file
roots_numbered (limit_passed file) = file_numbered file

-- there are words of `count` roots
abbrev pub HasRoots : ℕ → Result Expansion Limit → Type 0
HasRoots count (Ok expansion) = length expansion.roots ≡ count
HasRoots count (Err limit) = Unit {0}

none_many : (numbers : List ℕ) → length (no_words numbers) ≡ length numbers
none_many numbers = length-map numbers (λ (number : ℕ). let none : List PlainWord = [] in none)

pub roots_many : {g : Gathered} {numbers : List ℕ} {roots : List (List PlainWord)} {obeyed : List PlainObeyed} {left : ℕ} {answer : Result Expansion Limit} (count : ℕ) → RootsEnd g numbers roots obeyed left answer →
    count ≡ length roots + length numbers → HasRoots count answer
roots_many count no_roots many = omega (arith, many)
roots_many count (root_finished {roots = roots} {s = s} file others) many = roots_many count others (omega (arith, many, length-append roots (s.words ∷ [])))
roots_many count (root_refused {numbers = numbers} {roots = roots} {s = s} file) many =
    omega (arith, many, length-append roots (s.words ∷ []), length-append (roots ++ s.words ∷ []) (no_words numbers), none_many numbers)
roots_many count (limit_passed file) many = tt
