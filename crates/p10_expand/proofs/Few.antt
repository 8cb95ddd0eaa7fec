-- The roots of a program have few words together: fewer than 1,024 for each that is counted.
use Rattle.std.proofs.Common.{◌≡◌, inl, inr, ℕ, zero, suc, ◌+◌, ◌-◌, ◌*◌, ◌^◌, ◌<◌, ◌≤◌, ◌==◌, ◌||◌, nat_le, take, drop, List, [], ◌∷◌, ◌++◌, map, length, sum_by, Bool, true, false, MatchBool, cond, if◌then◌else◌, Option, Some, None, IfOk, Result, Ok, Err, codes, bytes_eq, refl, ap, sym, ◌∙◌, subst, arith, length-append}
use Rattle.std.proofs.lemmas.Bool.{leb-true, and_parts}
use Rattle.std.proofs.lemmas.Slice.Eq.{bytes_eq-Decides}
use Rattle.std.proofs.lemmas.List.Sums.{sum_by-cons}
use Rattle.std.proofs.lemmas.List.{length-map}
use Rattle.std.specs.Fmt.{digits}
use Rattle.std.specs.List.{AllByRecursion}
use Rattle.p10_base.specs.declared.span.Span.{Span}
use Rattle.p10_base.specs.declared.report.Limit.{Limit}
use Rattle.p10_base.specs.Gathered.{Gathered, text_of, name_of, candidate_of}
use Rattle.p10_base.specs.declared.word.Word.{Word}
use Rattle.p10_base.specs.Words.{PlainWord, plain_word, Text}
use Rattle.p10_lex.specs.Slices.{AreSlices}
use Rattle.p10_lex.specs.Lexes.{Answers}
use Rattle.p10_lex.proofs.SliceLaws.{answer_slices}
use Rattle.p10_direct.specs.Keywords.{keyword_of}
use Rattle.p10_direct.specs.declared.keyword.Keyword.{Keyword}
use Rattle.p10_direct.specs.declared.keyword.Keyword.TheVariants as keyword
use Rattle.p10_direct.specs.Balance.{mark_of}
use Rattle.p10_direct.specs.Lines.{Piece, DirectiveLine, TextRun, IsPiece, AreCut, words_of}
use Rattle.p10_direct.specs.Directives.{PlainMacro, PlainDirective, Null, Include, Define, Undef, If, Elif, Ifdef, Ifndef, Else, Endif, Once, InitDone, TaskLoop, OtherPragma, Outcome, Read, BadForm, BadDefinition, IsOutcome, place_of, enclosed, SpellsNamed, Spells}
use Rattle.p10_macros.specs.declared.table.Effect.{Effect}
use Rattle.p10_macros.specs.declared.table.Effect.TheVariants.{New, Same, Other}
use Rattle.p10_macros.specs.Table.{Table}
use Rattle.p10_macros.specs.Uses.{Sourced, sourced_words}
use Rattle.p10_macros.specs.Endings.{Ending, Gives, Refused, TooMany}
use Rattle.p10_expand.specs.declared.expanded.Expanded.{Expanded}
use Rattle.p10_expand.specs.declared.expansion.fault.ExpandFault.{ExpandFault}
use Rattle.p10_expand.specs.Headers.{header_of, stdint, stdbool, stddef, stdio, limits}
use Rattle.p10_expand.specs.Conditionals.{Judged, Judges, answered}
use Rattle.p10_expand.specs.Items.{lines_of, onto_line, ends_line, item_name, is_among, new_words}
use Rattle.p10_expand.specs.Obeying.{PlainObeyed, State, Cause, Ended, Stopped, Finished, RefusedBy, PassedLimit, Next, GoesOn, EntersFile, StopsWith, File, refuse, words_before, begins_at, TextEnds, TextGives, RunGives, included, is_header, is_some_text, defined_as, DefinitionGives, DefineGives, judged_next, ConditionGives, mark_word, Does, Acts, breaks_at, listed, passed, LineGives}
use Rattle.p10_expand.specs.Groups.{PassedLine, is_obeyed_after}
use Rattle.p10_expand.specs.Expands.{counted, FileEnds, LinesEnd, words_counted, too_many_words, no_lines, next_line, file_finished, file_stopped, nested_too_deep, line_stops, Expansion, no_words, RootsEnd, no_roots, root_finished, root_refused, limit_passed}
use Rattle.p10_expand.specs.Answers.{IsExpansion, lists_of}
use Rattle.p10_expand.proofs.Keeping.{each_front, each_back}
use Rattle.p10_expand.proofs.Counting.{together, Few, run_few, made_few}
use Rattle.p10_base.specs.declared.report.TheConstants.Limit.{MACROS}

-- ## The texts of built-in headers

-- whether a name of an include can begin within a text
abbrev delimits : List ℕ → Bool
delimits [] = false
delimits (byte ∷ bytes) = if (byte == 34) || (byte == 60) then true else delimits bytes

record IsSmall (text : List ℕ) : Type 0 where
  short : length text ≤ 1023
  without : delimits text ≡ false

data AllSmall : Option (List ℕ) → Type 0 where
  no_header : AllSmall None
  a_header : {text : List ℕ} → IsSmall text → AllSmall (Some text)

small_if : (b : Bool) (x y : Option (List ℕ)) → AllSmall x → AllSmall y → AllSmall (if b then x else y)
small_if true x y p q = p
small_if false x y p q = q

small : (text : List ℕ) → nat_le (length text) 1023 ≡ true → delimits text ≡ false → IsSmall text
small text short without = record { short = leb-true _ _ short; without = without }

small_stdint : IsSmall stdint
unfolding stdint digits
small_stdint = small stdint refl refl

small_limits : IsSmall limits
unfolding limits digits
small_limits = small limits refl refl

small_stdbool : IsSmall stdbool
unfolding stdbool
small_stdbool = small stdbool refl refl

small_stddef : IsSmall stddef
unfolding stddef
small_stddef = small stddef refl refl

small_stdio : IsSmall stdio
unfolding stdio stddef
small_stdio = small stdio refl refl

small_empty : IsSmall []
small_empty = small [] refl refl

headers_small : (name : Text) → AllSmall (header_of name)
headers_small name =
    small_if (bytes_eq name (codes "stdint.h")) _ _ (a_header small_stdint) (
    small_if (bytes_eq name (codes "stdbool.h")) _ _ (a_header small_stdbool) (
    small_if (bytes_eq name (codes "stddef.h")) _ _ (a_header small_stddef) (
    small_if (bytes_eq name (codes "stdlib.h")) _ _ (a_header small_stddef) (
    small_if (bytes_eq name (codes "stdio.h")) _ _ (a_header small_stdio) (
    small_if (bytes_eq name (codes "limits.h")) _ _ (a_header small_limits) (
    small_if (bytes_eq name (codes "assert.h")) _ _ (a_header small_empty) (
    small_if (bytes_eq name (codes "p10.h")) _ _ (a_header small_empty) no_header)))))))

none_some : {A : Type 0} {x : A} → None ≡ Some x → ⊥
none_some e = cc

some_same : {A : Type 0} {x y : A} → Some x ≡ Some y → x ≡ y
some_same e = cc

true-false : true ≡ false → ⊥
true-false p = subst (λ b. cond b (Unit {0}) ⊥) p tt

some_small : (found : Option (List ℕ)) (text : List ℕ) → AllSmall found → is_some_text text found ≡ true → IsSmall text
some_small None text p same = absurd (true-false (sym same))
some_small (Some other) text (a_header p) same = subst IsSmall ((bytes_eq-Decides other text).0 same) p

header_small : (g : Gathered) (number : ℕ) (name : Text) → is_header g number name ≡ true → IsSmall (text_of g number)
header_small g number name is = some_small (header_of name) (text_of g number) (headers_small name) (and_parts _ _ is).1

if_delimits : (b x : Bool) → (if b then true else x) ≡ false → x ≡ false
if_delimits true x p = absurd (true-false p)
if_delimits false x p = p

drop_delimits : (count : ℕ) (bytes : List ℕ) → delimits bytes ≡ false → delimits (drop count bytes) ≡ false
drop_delimits zero bytes p = p
drop_delimits (suc count) [] p = p
drop_delimits (suc count) (byte ∷ bytes) p = drop_delimits count bytes (if_delimits ((byte == 34) || (byte == 60)) (delimits bytes) p)

not_if : (b x y : Bool) → (if b then true else x) ≡ false → y ≡ false → (if b then true else y) ≡ false
not_if true x y p q = p
not_if false x y p q = q

take_delimits : (count : ℕ) (bytes : List ℕ) → delimits bytes ≡ false → delimits (take count bytes) ≡ false
take_delimits zero bytes p = refl
take_delimits (suc count) [] p = p
take_delimits (suc count) (byte ∷ bytes) p =
    not_if ((byte == 34) || (byte == 60)) (delimits bytes) (delimits (take count bytes)) p (take_delimits count bytes (if_delimits ((byte == 34) || (byte == 60)) (delimits bytes) p))

-- ## Words of a file

abbrev IsPlain : PlainWord → Type 0
IsPlain word = delimits word.text ≡ false

enclosed_delimits : (angle : Bool) (name : Text) → delimits (enclosed angle name) ≡ true
enclosed_delimits true name = refl
enclosed_delimits false name = refl

words_plain : (g : Gathered) (number place : ℕ) (words : List PlainWord) → delimits (text_of g number) ≡ false → AreSlices number (text_of g number) place words → AllByRecursion IsPlain words
words_plain g number place [] p slices = tt
words_plain g number place (word ∷ words) p slices =
    (subst (λ text. delimits text ≡ false) (sym slices.1.slice) (take_delimits (word.at.end - word.at.start) (drop word.at.start (text_of g number)) (drop_delimits word.at.start (text_of g number) p)), words_plain g number word.at.end words p slices.2)

words_short : (g : Gathered) (number place : ℕ) (words : List PlainWord) → AreSlices number (text_of g number) place words → place ≤ length (text_of g number) → place + length words ≤ length (text_of g number)
words_short g number place [] slices within = omega (arith, within)
words_short g number place (word ∷ words) slices within =
    let more : word.at.end + length words ≤ length (text_of g number) = words_short g number word.at.end words slices.2 slices.1.within in
    omega (arith, more, slices.0, slices.1.some)

-- the words of a built-in header
record IsHeaderOf (words : List PlainWord) : Type 0 where
  few : length words ≤ 1023
  plain : AllByRecursion IsPlain words

-- ## Lines

directive_plain : (name : Text) (angle : Bool) (found : Option Keyword) (words : List PlainWord) → SpellsNamed (Include name angle) found words → AllByRecursion IsPlain words → ⊥
directive_plain name angle (Some keyword.Include) (word ∷ []) (kind, text) (p, q) = true-false (sym (enclosed_delimits angle name) ∙ (ap delimits (sym text) ∙ p))
directive_plain name angle (Some keyword.Include) [] s p = absurd s
directive_plain name angle (Some keyword.Include) (word ∷ other ∷ words) s p = absurd s
directive_plain name angle _ words s p = absurd s

-- a line with an include isn't plain
include_plain : (name : Text) (angle : Bool) (line : List PlainWord) → Spells (Include name angle) line → AllByRecursion IsPlain line → ⊥
include_plain name angle [] s p = absurd s
include_plain name angle (hash ∷ []) s p = absurd s.1
include_plain name angle (hash ∷ word ∷ words) s p = directive_plain name angle (keyword_of word) words s.1 p.1.1

-- ## What comes of a line

-- the words of a root so far, and 1,023 for each that may still be counted
abbrev StateFew : ℕ → State → Type 0
StateFew count s = length s.words + 1023 * s.left ≤ count

abbrev CauseFew : ℕ → Cause → Type 0
CauseFew count (RefusedBy s refusal) = length s.words ≤ count
CauseFew count (PassedLimit limit) = Unit {0}

abbrev EndedFew : ℕ → Ended → Type 0
EndedFew count (Finished s) = StateFew count s
EndedFew count (Stopped cause) = CauseFew count cause

ended_more : (less more : ℕ) (ended : Ended) → less ≤ more → EndedFew less ended → EndedFew more ended
ended_more less more (Finished s) p q = omega (arith, p, q)
ended_more less more (Stopped (RefusedBy s refusal)) p q = omega (arith, p, q)
ended_more less more (Stopped (PassedLimit limit)) p q = tt

module _ (g : Gathered) where
  -- what holds where a file is entered: it is entered by a line with a name between delimiters
  record Enters (count : ℕ) (words : List PlainWord) (number : ℕ) (built_in : Bool) (s : State) : Type 0 where
    few : StateFew count s
    some : 0 < length words
    header : built_in ≡ true → IsSmall (text_of g number)
    include : AllByRecursion IsPlain words → ⊥

  abbrev NextFew : ℕ → List PlainWord → Next → Type 0
  NextFew count words (GoesOn holds s) = StateFew (count + length words) s
  NextFew count words (EntersFile number built_in s) = Enters count words number built_in s
  NextFew count words (StopsWith cause) = CauseFew (count + length words) cause

  next_if : (count : ℕ) (words : List PlainWord) (b : Bool) (x y : Next) → NextFew count words x → NextFew count words y → NextFew count words (if b then x else y)
  next_if count words true x y p q = p
  next_if count words false x y p q = q

  -- ## Text

  before_if : (b : Bool) (words : List PlainWord) → length (if b then [] else words) ≤ length words
  before_if true words = omega arith
  before_if false words = omega arith

  before_few : (at : Span) (words : List PlainWord) → length (words_before at words) ≤ length words
  before_few at [] = omega arith
  before_few at (word ∷ words) = omega (arith, before_if (begins_at at word) (word ∷ words_before at words), before_few at words)

  text_ends_few : (count : ℕ) (whole : List PlainWord) (s : State) (words : List PlainWord) (ending : Ending (List Sourced)) (next : Next) → length words ≤ length whole →
      StateFew count s → Few (length words + s.left) s.left ending → TextEnds s words ending next → NextFew count whole next
  text_ends_few count whole s words (Gives made left) next w h e is =
      subst (NextFew count whole) (sym is) (omega (arith, w, h, e.0, e.1, made_few made, length-append s.words (sourced_words made)))
  text_ends_few count whole s words (Refused number at) next w h e (made, left, ends, is) =
      let out = run_few s.macros (words_before at words) s.left (Gives made left) ends in
      subst (NextFew count whole) (sym is) (omega (arith, w, h, out.0, made_few made, before_few at words, length-append s.words (sourced_words made)))
  text_ends_few count whole s words TooMany next w h e is = subst (NextFew count whole) (sym is) tt

  text_few : (count : ℕ) (whole : List PlainWord) (s : State) (words : List PlainWord) (next : Next) → length words ≤ length whole → StateFew count s → TextGives s words next → NextFew count whole next
  text_few count whole s words next w h (ending, ends, gives) = text_ends_few count whole s words ending next w h (run_few s.macros words s.left ending ends) gives

  -- ## Items

  onto_few : (word : PlainWord) (lines : List (List PlainWord)) → together (onto_line word lines) ≤ suc (together lines)
  onto_few word [] = omega arith
  onto_few word (line ∷ lines) = omega arith

  lines_if : (count : ℕ) (b : Bool) (x y : List (List PlainWord)) → together x ≤ count → together y ≤ count → together (if b then x else y) ≤ count
  lines_if count true x y p q = p
  lines_if count false x y p q = q

  lines_few : (words : List PlainWord) → together (lines_of words) ≤ length words
  lines_few [] = omega arith
  lines_few (word ∷ words) =
      let others : together (lines_of words) ≤ length words = lines_few words in
      lines_if (suc (length words)) (ends_line words) ((word ∷ []) ∷ lines_of words) (onto_line word (lines_of words)) (omega (arith, others)) (omega (arith, others, onto_few word (lines_of words)))

  words_if : (count : ℕ) (b : Bool) (x y : List PlainWord) → length x ≤ count → length y ≤ count → length (if b then x else y) ≤ count
  words_if count true x y p q = p
  words_if count false x y p q = q

  new_few : (given : List Text) (lines : List (List PlainWord)) → length (new_words given lines) ≤ together lines
  new_few given [] = omega arith
  new_few given (line ∷ lines) =
      let others : length (new_words (given ++ item_name line ∷ []) lines) ≤ together lines = new_few (given ++ item_name line ∷ []) lines in
      words_if (length line + together lines) (is_among given (item_name line)) (new_words given lines) (line ++ new_words (given ++ item_name line ∷ []) lines)
      (omega (arith, new_few given lines)) (omega (arith, others, length-append line (new_words (given ++ item_name line ∷ []) lines)))

  run_of_text_few : (count : ℕ) (built_in : Bool) (s : State) (words : List PlainWord) (next : Next) → StateFew count s → RunGives built_in s words next → NextFew count words next
  run_of_text_few count true s words next h gives = text_few count words _ (new_words s.given (lines_of words)) next (omega (arith, lines_few words, new_few s.given (lines_of words))) h gives
  run_of_text_few count false s words next h gives = text_few count words s words next (omega arith) h gives

  -- ## Conditions

  judges_few : (count : ℕ) (line : List PlainWord) (s : State) (whole : Span) (total : ℕ) (ending : Ending (List Sourced)) (judged : Judged) → StateFew count s → Few total s.left ending → Judges whole ending judged → NextFew count line (judged_next s judged)
  judges_few count line s whole total (Gives made left) judged h e (inl (truth, has, is)) = subst (λ j. NextFew count line (judged_next s j)) (sym is) (omega (arith, h, e.1))
  judges_few count line s whole total (Gives made left) judged h e (inr (none, is)) = subst (λ j. NextFew count line (judged_next s j)) (sym is) (omega (arith, h))
  judges_few count line s whole total (Refused number at) judged h e is = subst (λ j. NextFew count line (judged_next s j)) (sym is) (omega (arith, h))
  judges_few count line s whole total TooMany judged h e is = subst (λ j. NextFew count line (judged_next s j)) (sym is) tt

  condition_few : (count : ℕ) (line condition : List PlainWord) (s : State) (next : Next) → StateFew count s → ConditionGives line condition s next → NextFew count line next
  condition_few count line condition s next h (judged, (ending, ends, judges), is) =
      subst (NextFew count line) (sym is) (judges_few count line s (place_of line) _ ending judged h (run_few s.macros (answered s.macros 0 condition) s.left ending ends) judges)

  -- ## Directives

  abbrev DirectiveFew : List PlainWord → PlainDirective → Type 0
  DirectiveFew line (Include name angle) = AllByRecursion IsPlain line → ⊥
  DirectiveFew line _ = Unit {0}

  directive_few : (line : List PlainWord) (directive : PlainDirective) → Spells directive line → DirectiveFew line directive
  directive_few line (Include name angle) spells = include_plain name angle line spells
  directive_few line Null spells = tt
  directive_few line (Define made) spells = tt
  directive_few line (Undef name) spells = tt
  directive_few line (If condition) spells = tt
  directive_few line (Elif condition) spells = tt
  directive_few line (Ifdef name) spells = tt
  directive_few line (Ifndef name) spells = tt
  directive_few line Else spells = tt
  directive_few line Endif spells = tt
  directive_few line Once spells = tt
  directive_few line InitDone spells = tt
  directive_few line TaskLoop spells = tt
  directive_few line OtherPragma spells = tt

  mark_few : (line : List PlainWord) → length (mark_word line) ≤ length line
  mark_few [] = omega arith
  mark_few (hash ∷ words) = omega arith

  defined_few : (count : ℕ) (line : List PlainWord) (s : State) (answer : Effect) (macros : Table) → StateFew count s → NextFew count line (defined_as line s answer macros)
  defined_few count line s New macros h = next_if count line _ (StopsWith (PassedLimit MACROS)) (GoesOn true (record s { macros = macros })) tt (omega (arith, h))
  defined_few count line s Same macros h = omega (arith, h)
  defined_few count line s Other macros h = omega (arith, h)

  definition_few : (count : ℕ) (built_in : Bool) (line : List PlainWord) (made : PlainMacro) (s : State) (next : Next) → StateFew count s → DefinitionGives built_in line made s next → NextFew count line next
  definition_few count built_in line made s next h (answer, macros, defines, is) = subst (NextFew count line) (sym is) (defined_few count line s answer macros h)

  item_few : (count : ℕ) (given : Bool) (line : List PlainWord) (made : PlainMacro) (s new : State) (next : Next) → StateFew count s → StateFew count new →
      MatchBool given (next ≡ GoesOn true s) (DefinitionGives true line made new next) → NextFew count line next
  item_few count true line made s new next h n is = subst (NextFew count line) (sym is) (omega (arith, h))
  item_few count false line made s new next h n gives = definition_few count true line made new next n gives

  define_few : (count : ℕ) (built_in : Bool) (line : List PlainWord) (made : PlainMacro) (s : State) (next : Next) → StateFew count s → DefineGives built_in line made s next → NextFew count line next
  define_few count true line made s next h gives = item_few count (is_among s.given made.name) line made s _ next h h gives
  define_few count false line made s next h gives = definition_few count false line made s next h gives

  included_few : (count : ℕ) (line : List PlainWord) (name : Text) (s : State) (found : Option ℕ) → StateFew count s → 0 < length line → (AllByRecursion IsPlain line → ⊥) → NextFew count line (included g line name s found)
  included_few count line name s None h some include = omega (arith, h)
  included_few count line name s (Some number) h some include =
      next_if count line (is_among s.once (name_of g number)) (GoesOn true s) (EntersFile number (is_header g number name) s) (omega (arith, h))
      (record { few = h; some = some; header = header_small g number name; include = include })

  does_few : (count : ℕ) (file : File) (line : List PlainWord) (directive : PlainDirective) (s : State) (next : Next) → StateFew count s → 0 < length line → DirectiveFew line directive →
      Does g file line directive s next → NextFew count line next
  does_few count file line Null s next h some d is = subst (NextFew count line) (sym is) (omega (arith, h))
  does_few count file line (Include name angle) s next h some d is = subst (NextFew count line) (sym is) (included_few count line name s (candidate_of g file.number name angle) h some d)
  does_few count file line (Define made) s next h some d gives = define_few count file.built_in line made s next h gives
  does_few count file line (Undef name) s next h some d is = subst (NextFew count line) (sym is) (omega (arith, h))
  does_few count file line (If condition) s next h some d gives = condition_few count line condition s next h gives
  does_few count file line (Elif condition) s next h some d gives = condition_few count line condition s next h gives
  does_few count file line (Ifdef name) s next h some d is = subst (NextFew count line) (sym is) (omega (arith, h))
  does_few count file line (Ifndef name) s next h some d is = subst (NextFew count line) (sym is) (omega (arith, h))
  does_few count file line Else s next h some d is = subst (NextFew count line) (sym is) (omega (arith, h))
  does_few count file line Endif s next h some d is = subst (NextFew count line) (sym is) (omega (arith, h))
  does_few count file line Once s next h some d is = subst (NextFew count line) (sym is) (omega (arith, h))
  does_few count file line InitDone s next h some d is = subst (NextFew count line) (sym is) (omega (arith, h, mark_few line, length-append s.words (mark_word line)))
  does_few count file line TaskLoop s next h some d is = subst (NextFew count line) (sym is) (omega (arith, h, mark_few line, length-append s.words (mark_word line)))
  does_few count file line OtherPragma s next h some d is = subst (NextFew count line) (sym is) (omega (arith, h))

  broken_few : (count : ℕ) (breaks : Bool) (file : File) (line : List PlainWord) (directive : PlainDirective) (s : State) (next : Next) → StateFew count s → 0 < length line → DirectiveFew line directive →
      MatchBool breaks (next ≡ refuse s 2 (place_of line)) (Does g file line directive s next) → NextFew count line next
  broken_few count true file line directive s next h some d is = subst (NextFew count line) (sym is) (omega (arith, h))
  broken_few count false file line directive s next h some d does = does_few count file line directive s next h some d does

  acts_few : (count : ℕ) (file : File) (breaks : Bool) (line : List PlainWord) (outcome : Outcome) (s : State) (next : Next) → StateFew count s → 0 < length line → IsOutcome line outcome →
      Acts g file breaks line outcome s next → NextFew count line next
  acts_few count file breaks line (Read directive) s next h some o acts = broken_few count breaks file line directive s next h some (directive_few line directive o) acts
  acts_few count file breaks line BadForm s next h some o is = subst (NextFew count line) (sym is) (omega (arith, h))
  acts_few count file breaks line (BadDefinition at) s next h some o is = subst (NextFew count line) (sym is) (omega (arith, h))

  -- ## Lines

  listed_if : (count : ℕ) (built_in : Bool) (x y : State) → StateFew count x → StateFew count y → StateFew count (if built_in then x else y)
  listed_if count true x y p q = p
  listed_if count false x y p q = q

  listed_few : (count : ℕ) (file : File) (place : ℕ) (line : List PlainWord) (s : State) → StateFew count s → StateFew count (listed file place line s)
  listed_few count file place line s h = listed_if count file.built_in s _ h h

  passed_few : (count : ℕ) (file : File) (place : ℕ) (line : List PlainWord) (s : State) → StateFew count s → NextFew count line (passed file place line s)
  passed_few count file place line s h =
      let same : StateFew count (listed file place line s) = listed_few count file place line s h in
      next_if count line (breaks_at file place) (refuse (listed file place line s) 2 (place_of line)) _ (omega (arith, same)) (omega (arith, h))

  line_few : (count : ℕ) (file : File) (obeyed : Bool) (place : ℕ) (piece : Piece) (s : State) (next : Next) → StateFew count s → 0 < length (words_of piece) → LineGives g file obeyed place piece s next → NextFew count (words_of piece) next
  line_few count file true place (DirectiveLine line) s next h some (outcome, is, acts) =
      acts_few count file (breaks_at file place) line outcome (listed file place line s) next (listed_few count file place line s h) some is acts
  line_few count file false place (DirectiveLine line) s next h some is = subst (NextFew count line) (sym is) (passed_few count file place line s h)
  line_few count file true place (TextRun words) s next h some gives = run_of_text_few count file.built_in s words next h gives
  line_few count file false place (TextRun words) s next h some is = subst (NextFew count words) (sym is) (omega (arith, h))

  -- ## Files

  -- lines with words, that are plain in a built-in header
  abbrev PieceFew : Bool → Piece → Type 0
  PieceFew true piece = (0 < length (words_of piece)) × AllByRecursion IsPlain (words_of piece)
  PieceFew false piece = (0 < length (words_of piece)) × Unit {0}

  piece_some : (built_in : Bool) (piece : Piece) → PieceFew built_in piece → 0 < length (words_of piece)
  piece_some true piece p = p.0
  piece_some false piece p = p.0

  -- what a line may give
  abbrev cost : Bool → Piece → ℕ
  cost true piece = length (words_of piece)
  cost false piece = 1023 * length (words_of piece)

  cost_least : (built_in : Bool) (piece : Piece) → length (words_of piece) ≤ cost built_in piece
  cost_least true piece = omega arith
  cost_least false piece = omega arith

  abbrev costs : Bool → List Piece → ℕ
  costs built_in [] = 0
  costs built_in (piece ∷ pieces) = cost built_in piece + costs built_in pieces

  -- what an included file may give besides
  abbrev room : Bool → ℕ
  room true = 1023
  room false = 0

  room_most : (built_in : Bool) → room built_in ≤ 1023
  room_most true = omega arith
  room_most false = omega arith

  entered_few : (count : ℕ) (inside : Bool) (piece : Piece) (number : ℕ) (built_in : Bool) (s : State) (ended : Ended) → PieceFew inside piece → Enters count (words_of piece) number built_in s →
      EndedFew (count + room built_in) ended → EndedFew (count + cost inside piece) ended
  entered_few count true piece number built_in s ended p e few = absurd (e.include p.1)
  entered_few count false piece number built_in s ended p e few =
      ended_more (count + room built_in) (count + 1023 * length (words_of piece)) ended (omega (arith, p.0, room_most built_in)) few

  pieces_costs : (words : List PlainWord) (pieces : List Piece) → AreCut words pieces → (costs true pieces ≡ length words) × (costs false pieces ≡ 1023 * length words)
  pieces_costs words [] cut = (ap length (sym cut), ap (λ (w : List PlainWord). 1023 * length w) (sym cut))
  pieces_costs words (piece ∷ pieces) (rest, same, is, cut) =
      let others : (costs true pieces ≡ length rest) × (costs false pieces ≡ 1023 * length rest) = pieces_costs rest pieces cut in
      (omega (arith, others.0, ap length same, length-append (words_of piece) rest), omega (arith, others.1, ap length same, length-append (words_of piece) rest))

  piece_length : (piece : Piece) (rest : List PlainWord) → IsPiece piece rest → 0 < length (words_of piece)
  piece_length (DirectiveLine []) rest is = absurd is
  piece_length (DirectiveLine (word ∷ words)) rest is = omega arith
  piece_length (TextRun []) rest is = absurd is
  piece_length (TextRun (word ∷ words)) rest is = omega arith

  pieces_few : (words : List PlainWord) (pieces : List Piece) → AreCut words pieces → AllByRecursion (PieceFew false) pieces
  pieces_few words [] cut = tt
  pieces_few words (piece ∷ pieces) (rest, same, is, cut) = ((piece_length piece rest is, tt), pieces_few rest pieces cut)

  pieces_plain : (words : List PlainWord) (pieces : List Piece) → AreCut words pieces → AllByRecursion IsPlain words → AllByRecursion (PieceFew true) pieces
  pieces_plain words [] cut p = tt
  pieces_plain words (piece ∷ pieces) (rest, same, is, cut) p =
      let all : AllByRecursion IsPlain (words_of piece ++ rest) = subst (AllByRecursion IsPlain) same p in
      ((piece_length piece rest is, each_front IsPlain (words_of piece) rest all), pieces_plain rest pieces cut (each_back IsPlain (words_of piece) rest all))

  -- ### The first line

  header_words : (number : ℕ) (words : List PlainWord) → IsSmall (text_of g number) → Answers number (text_of g number) (Ok words) → IsHeaderOf words
  header_words number words is lexed =
      let slices : AreSlices number (text_of g number) 0 words = answer_slices number (text_of g number) words lexed in
      record {
        few = omega (arith, is.short, words_short g number 0 words slices (omega arith));
        plain = words_plain g number 0 words is.without slices;
      }

  -- a file begins in this state, with room for its lines
  record Begins (count : ℕ) (built_in : Bool) (pieces : List Piece) (begun : State) : Type 0 where
    base : ℕ
    few : StateFew base begun
    all : base + costs built_in pieces ≤ count + room built_in
    each : AllByRecursion (PieceFew built_in) pieces

  module _ (count number : ℕ) (s begun : State) (words : List PlainWord) (pieces : List Piece) (few : StateFew count s) (cut : AreCut words pieces) where
    own_begins : (b : Bool) → nat_le (length words) s.left ≡ b → (if b then Some (record s { left = s.left - length words }) else None) ≡ Some begun → Begins count false pieces begun
    own_begins false is same = absurd (none_some same)
    own_begins true is same =
        let enough : length words ≤ s.left = leb-true _ _ is in
        let base : ℕ = length s.words + 1023 * (s.left - length words) in
        let all : base + costs false pieces ≤ count + 0 = omega (arith, few, enough, (pieces_costs words pieces cut).1) in
        record {
          base = base;
          few = subst (StateFew base) (some_same same) (omega arith);
          all = all;
          each = pieces_few words pieces cut;
        }

    begins : (built_in : Bool) → counted built_in (length words) s ≡ Some begun → (built_in ≡ true → IsSmall (text_of g number)) → Answers number (text_of g number) (Ok words) → Begins count built_in pieces begun
    begins true same is lexed =
        let header : IsHeaderOf words = header_words number words (is refl) lexed in
        let all : count + costs true pieces ≤ count + 1023 = omega (arith, header.few, (pieces_costs words pieces cut).0) in
        record { base = count; few = subst (StateFew count) (some_same same) few; all = all; each = pieces_plain words pieces cut header.plain }
    begins false same is lexed = own_begins _ refl same

  -- ### All lines

  mutual
    file_few : {nested number : ℕ} {built_in : Bool} {s : State} {ended : Ended} (count : ℕ) → FileEnds g nested number built_in s ended → StateFew count s → (built_in ≡ true → IsSmall (text_of g number)) →
        EndedFew (count + room built_in) ended
    file_few count (words_counted {number = number} {built_in = built_in} {s = s} {begun = begun} {words = words} {pieces = pieces} {ended = ended} lexed same cut lines) h is =
        let start : Begins count built_in pieces begun = begins count number s begun words pieces h cut built_in same is lexed in
        ended_more (start.base + costs built_in pieces) (count + room built_in) ended start.all (lines_end start.base lines start.few start.each)
    file_few count (too_many_words lexed same) h is = tt

    lines_end : {nested : ℕ} {file : File} {before : List PassedLine} {pieces : List Piece} {s : State} {ended : Ended} (count : ℕ) → LinesEnd g nested file before pieces s ended → StateFew count s →
        AllByRecursion (PieceFew file.built_in) pieces → EndedFew (count + costs file.built_in pieces) ended
    lines_end count no_lines h p = omega (arith, h)
    lines_end count (next_line {file = file} {before = before} {piece = piece} {pieces = pieces} {s = s} {after = after} {holds = holds} {ended = ended} gives rest) h p =
        let line : StateFew (count + length (words_of piece)) after = line_few count file (is_obeyed_after before (mark_of piece)) (length before) piece s (GoesOn holds after) h (piece_some file.built_in piece p.0) gives in
        ended_more (count + cost file.built_in piece + costs file.built_in pieces) (count + costs file.built_in (piece ∷ pieces)) ended (omega arith)
        (lines_end (count + cost file.built_in piece) rest (omega (arith, line, cost_least file.built_in piece)) p.1)
    lines_end count (file_finished {number = number} {built_in = built_in} {file = file} {before = before} {piece = piece} {pieces = pieces} {s = s} {entered = entered} {after = after} {ended = ended} gives within rest) h p =
        let enters : Enters count (words_of piece) number built_in entered = line_few count file (is_obeyed_after before (mark_of piece)) (length before) piece s (EntersFile number built_in entered) h (piece_some file.built_in piece p.0) gives in
        ended_more (count + cost file.built_in piece + costs file.built_in pieces) (count + costs file.built_in (piece ∷ pieces)) ended (omega arith)
        (lines_end (count + cost file.built_in piece) rest (entered_few count file.built_in piece number built_in entered (Finished after) p.0 enters (file_few count within enters.few enters.header)) p.1)
    lines_end count (file_stopped {number = number} {built_in = built_in} {file = file} {before = before} {piece = piece} {pieces = pieces} {s = s} {entered = entered} {cause = cause} gives within) h p =
        let enters : Enters count (words_of piece) number built_in entered = line_few count file (is_obeyed_after before (mark_of piece)) (length before) piece s (EntersFile number built_in entered) h (piece_some file.built_in piece p.0) gives in
        ended_more (count + cost file.built_in piece) (count + costs file.built_in (piece ∷ pieces)) (Stopped cause) (omega arith)
        (entered_few count file.built_in piece number built_in entered (Stopped cause) p.0 enters (file_few count within enters.few enters.header))
    lines_end count (nested_too_deep number built_in entered gives) h p = tt
    lines_end count (line_stops {file = file} {before = before} {piece = piece} {pieces = pieces} {s = s} {cause = cause} gives) h p =
        ended_more (count + length (words_of piece)) (count + costs file.built_in (piece ∷ pieces)) (Stopped cause) (omega (arith, cost_least file.built_in piece))
        (line_few count file (is_obeyed_after before (mark_of piece)) (length before) piece s (StopsWith cause) h (piece_some file.built_in piece p.0) gives)

  -- ## Roots

  abbrev pub AnswerFew : Result Expansion Limit → Type 0
  AnswerFew (Ok expansion) = together expansion.roots ≤ 1023 * 1048576
  AnswerFew (Err limit) = Unit {0}

  together_append : (front back : List (List PlainWord)) → together (front ++ back) ≡ together front + together back
  together_append [] back = omega arith
  together_append (words ∷ front) back = omega (arith, together_append front back)

  no_words_few : (numbers : List ℕ) → together (no_words numbers) ≡ 0
  no_words_few [] = refl
  no_words_few (number ∷ numbers) = omega (arith, no_words_few numbers)

  not_built_in : {P : Type 0} → false ≡ true → P
  not_built_in e = absurd (true-false (sym e))

  -- the roots of an expansion have few words together
  pub roots_few : {numbers : List ℕ} {roots : List (List PlainWord)} {obeyed : List PlainObeyed} {left : ℕ} {answer : Result Expansion Limit} → RootsEnd g numbers roots obeyed left answer →
      together roots + 1023 * left ≤ 1023 * 1048576 → AnswerFew answer
  roots_few no_roots r = omega (arith, r)
  roots_few (root_finished {roots = roots} {left = left} {s = s} file others) r =
      let few : length s.words + 1023 * s.left ≤ 1023 * left + 0 = file_few (1023 * left) file (omega arith) not_built_in in
      roots_few others (omega (arith, r, few, together_append roots (s.words ∷ [])))
  roots_few (root_refused {numbers = numbers} {roots = roots} {left = left} {s = s} file) r =
      let few : length s.words ≤ 1023 * left + 0 = file_few (1023 * left) file (omega arith) not_built_in in
      omega (arith, r, few, together_append (roots ++ s.words ∷ []) (no_words numbers), together_append roots (s.words ∷ []), no_words_few numbers)
  roots_few (limit_passed file) r = tt

-- ## The program

together_sum : {A : Type 0} (lists : List (List A)) → together lists ≡ sum_by length lists
together_sum [] = refl
together_sum (words ∷ lists) = ap (λ count. length words + count) (together_sum lists) ∙ sym (sum_by-cons length words lists)

together_plain : (lists : List (List Word)) → together (map (map plain_word) lists) ≡ together lists
together_plain [] = refl
together_plain (words ∷ lists) = omega (arith, length-map words plain_word, together_plain lists)

-- the roots of what a program expands to have fewer than 2 ^ 32 words together
pub all_few : (g : Gathered) (answer : Result Expanded ExpandFault) → IfOk answer (IsExpansion g) → IfOk answer (λ expanded. sum_by length (lists_of expanded.roots) < 2 ^ 32)
all_few g (Ok expanded) to =
    let few : together (map (map plain_word) (lists_of expanded.roots)) ≤ 1023 * 1048576 = roots_few g to (omega arith) in
    omega (arith, few, together_plain (lists_of expanded.roots), together_sum (lists_of expanded.roots))
all_few g (Err fault) is = tt
