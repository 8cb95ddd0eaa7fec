-- A program expands to one thing at most.
use Rattle.std.proofs.Common.{◌≡◌, inl, inr, ℕ, zero, suc, List, [], ◌∷◌, ◌++◌, length, Bool, true, false, not, MatchBool, Option, Some, None, IsSomeAnd, Result, Ok, Err, refl, sym, ◌∙◌, ap, subst}
use Rattle.p10_base.specs.declared.span.Span.{Span}
use Rattle.p10_base.specs.declared.report.Limit.{Limit}
use Rattle.p10_base.specs.declared.report.Refusal.{Refusal}
use Rattle.p10_base.specs.Gathered.{Gathered, text_of}
use Rattle.p10_base.specs.Words.{PlainWord}
use Rattle.p10_lex.proofs.Uniqueness.{same_words}
use Rattle.p10_direct.specs.Values.{is_zero}
use Rattle.p10_direct.specs.Conditions.{Condition, HasTruth, ConditionsAreUnique, value_of}
use Rattle.p10_direct.specs.Lines.{Piece, DirectiveLine, TextRun, AreCut, LinesAreUnique}
use Rattle.p10_direct.specs.Directives.{PlainMacro, PlainDirective, Null, Include, Define, Undef, If, Elif, Ifdef, Ifndef, Else, Endif, Once, InitDone, TaskLoop, OtherPragma, Outcome, Read, BadForm, BadDefinition, IsOutcome, LinesHaveOneOutcome}
use Rattle.p10_macros.specs.declared.table.Effect.{Effect}
use Rattle.p10_macros.specs.declared.table.Effect.TheVariants.{New, Same, Other}
use Rattle.p10_macros.specs.Table.{Table, macro_named, same_macro}
use Rattle.p10_macros.specs.Uses.{Sourced, sourced_words}
use Rattle.p10_macros.specs.Endings.{Ending, Gives, Refused, TooMany}
use Rattle.p10_macros.specs.Ends.{WordsEndInOneWay}
use Rattle.p10_macros.specs.Answers.{Defines}
use Rattle.p10_expand.specs.Conditionals.{Judged, Judges, RunEnds}
use Rattle.p10_direct.specs.Balance.{mark_of}
use Rattle.p10_expand.specs.Items.{is_among}
use Rattle.p10_expand.specs.Obeying.{PlainObeyed, State, Cause, Ended, Stopped, Finished, RefusedBy, PassedLimit, Next, GoesOn, EntersFile, StopsWith, File, refuse, listed, words_before, with_words, judged_next, TextEnds, TextGives, RunGives, DefinitionGives, DefineGives, ConditionGives, Does, Acts, LineGives, breaks_at}
use Rattle.p10_expand.specs.Groups.{PassedLine, is_obeyed_after}
use Rattle.p10_expand.specs.Expands.{counted, FileEnds, LinesEnd, words_counted, too_many_words, no_lines, next_line, file_finished, file_stopped, nested_too_deep, line_stops, Expansion, no_words, RootsEnd, no_roots, root_finished, root_refused, limit_passed, ExpandsToOnce}
use Rattle.p10_expand.proofs.FirstLine.{Resumes, Continues, GivesFirst, ByFirst, by_first}

-- ## Tools

both : {A : Type 0} {x y z : A} → x ≡ z → y ≡ z → x ≡ y
both p q = p ∙ sym q

match_once : {A : Type 0} (b : Bool) (P Q : A → Type 0) → ((x y : A) → P x → P y → x ≡ y) → ((x y : A) → Q x → Q y → x ≡ y) → (x y : A) → MatchBool b (P x) (Q x) → MatchBool b (P y) (Q y) → x ≡ y
match_once true P Q p q x y = p x y
match_once false P Q p q x y = q x y

given_once : {E A : Type 0} (P : E → Type 0) (Q : E → A → Type 0) → ((a b : E) → P a → P b → a ≡ b) → ((e : E) (x y : A) → Q e x → Q e y → x ≡ y) → (x y : A) →
    (e : E) × P e × Q e x → (e : E) × P e × Q e y → x ≡ y
given_once P Q one each x y (a, pa, qa) (b, pb, qb) = each a x y qa (subst (λ e. Q e y) (sym (one a b pa pb)) qb)

-- ## Definitions

defines_same : (made : PlainMacro) (known : Option PlainMacro) → IsSomeAnd known (λ other. same_macro other made ≡ true) → IsSomeAnd known (λ other. same_macro other made ≡ false) → ⊥
defines_same made None p q = p
defines_same made (Some other) p q = cc

none_is_some : {A : Type 0} (known : Option A) (P : A → Type 0) → known ≡ None → IsSomeAnd known P → ⊥
none_is_some None P e p = p
none_is_some (Some x) P e p = cc

pub defines_once : (old : Table) (made : PlainMacro) (built_in : Bool) (this that : Effect) (one other : Table) → Defines old made built_in this one → Defines old made built_in that other → (this ≡ that) × (one ≡ other)
defines_once old made built_in New New one other p q = (refl, both p.1 q.1)
defines_once old made built_in New Same one other p q = absurd (none_is_some (macro_named made.name old) _ p.0 q.0)
defines_once old made built_in New Other one other p q = absurd (none_is_some (macro_named made.name old) _ p.0 q.0)
defines_once old made built_in Same New one other p q = absurd (none_is_some (macro_named made.name old) _ q.0 p.0)
defines_once old made built_in Same Same one other p q = (refl, both p.1 q.1)
defines_once old made built_in Same Other one other p q = absurd (defines_same made (macro_named made.name old) p.0 q.0)
defines_once old made built_in Other New one other p q = absurd (none_is_some (macro_named made.name old) _ q.0 p.0)
defines_once old made built_in Other Same one other p q = absurd (defines_same made (macro_named made.name old) q.0 p.0)
defines_once old made built_in Other Other one other p q = (refl, both p.1 q.1)

definition_once : (built_in : Bool) (line : List PlainWord) (made : PlainMacro) (s : State) (this that : Next) → DefinitionGives built_in line made s this → DefinitionGives built_in line made s that → this ≡ that
definition_once built_in line made s this that (a, old, p, pe) (b, new, q, qe) =
    let same = defines_once s.macros made built_in a b old new p q in
    pe ∙ rw (same.0, same.1) (sym qe)

define_once : (built_in : Bool) (line : List PlainWord) (made : PlainMacro) (s : State) (this that : Next) → DefineGives built_in line made s this → DefineGives built_in line made s that → this ≡ that
define_once true line made s this that p q =
    match_once (is_among s.given made.name) (λ next. next ≡ GoesOn true s) _ (λ x y. both) (definition_once true line made _) this that p q
define_once false line made s this that p q = definition_once false line made s this that p q

-- ## Conditions and text

some_same : {A : Type 0} {x y : A} → Some x ≡ Some y → x ≡ y
some_same e = cc

some_none : {A : Type 0} {x : A} → Some x ≡ None → ⊥
some_none e = cc

same_state : {s t : State} → Finished s ≡ Finished t → s ≡ t
same_state e = cc

apart : {s : State} {cause : Cause} → Finished s ≡ Stopped cause → ⊥
apart e = cc

same_refused : {s t : State} {this that : Refusal} → Stopped (RefusedBy s this) ≡ Stopped (RefusedBy t that) → (s ≡ t) × (this ≡ that)
same_refused e = (cc, cc)

same_limit : {this that : Limit} → Stopped (PassedLimit this) ≡ Stopped (PassedLimit that) → this ≡ that
same_limit e = cc

unlike : {s : State} {refusal : Refusal} {limit : Limit} → Stopped (RefusedBy s refusal) ≡ Stopped (PassedLimit limit) → ⊥
unlike e = cc

module _ (conditions : ConditionsAreUnique) where
  truth_once : (words : List PlainWord) (this that : Bool) → HasTruth words this → HasTruth words that → this ≡ that
  truth_once words this that p q =
      let tree : p.tree ≡ q.tree = conditions words p.tree q.tree p.spells q.spells in
      let value : Some p.number ≡ Some q.number = sym p.value ∙ ap (λ (t : Condition). (value_of t).value) tree ∙ q.value in
      p.truth_is ∙ ap (λ n. not (is_zero n)) (some_same value) ∙ sym q.truth_is

  judges_once : (whole : Span) (ending : Ending (List Sourced)) (this that : Judged) → Judges whole ending this → Judges whole ending that → this ≡ that
  judges_once whole (Gives made left) this that (inl (a, p, pe)) (inl (b, q, qe)) = pe ∙ rw (truth_once _ a b p q) (sym qe)
  judges_once whole (Gives made left) this that (inl (a, p, pe)) (inr (q, qe)) = absurd (q a p)
  judges_once whole (Gives made left) this that (inr (p, pe)) (inl (b, q, qe)) = absurd (p b q)
  judges_once whole (Gives made left) this that (inr (p, pe)) (inr (q, qe)) = both pe qe
  judges_once whole (Refused number at) this that p q = both p q
  judges_once whole TooMany this that p q = both p q

same_given : {this that : List Sourced} {left remaining : ℕ} → Gives this left ≡ Gives that remaining → this ≡ that
same_given e = cc

module _ (ends : WordsEndInOneWay) where
  run_once : (macros : Table) (words : List PlainWord) (left : ℕ) (this that : Ending (List Sourced)) → RunEnds macros words left this → RunEnds macros words left that → this ≡ that
  run_once macros words left this that p q = ends macros None _ left this that p q

  text_ends_once : (s : State) (words : List PlainWord) (ending : Ending (List Sourced)) (this that : Next) → TextEnds s words ending this → TextEnds s words ending that → this ≡ that
  text_ends_once s words (Gives made left) this that p q = both p q
  text_ends_once s words (Refused number at) this that (made, left, ends, this_is) (other, remaining, others, that_is) =
      let same : made ≡ other = same_given (run_once s.macros (words_before at words) s.left (Gives made left) (Gives other remaining) ends others) in
      this_is ∙ ap (λ words. refuse (with_words s (sourced_words words)) number at) same ∙ sym that_is
  text_ends_once s words TooMany this that p q = both p q

  text_once : (s : State) (words : List PlainWord) (this that : Next) → TextGives s words this → TextGives s words that → this ≡ that
  text_once s words this that p q = given_once _ _ (run_once _ _ _) (text_ends_once s words) this that p q

  run_of_text_once : (built_in : Bool) (s : State) (words : List PlainWord) (this that : Next) → RunGives built_in s words this → RunGives built_in s words that → this ≡ that
  run_of_text_once true s words this that p q = text_once _ _ this that p q
  run_of_text_once false s words this that p q = text_once _ _ this that p q

  module _ (conditions : ConditionsAreUnique) where
    condition_once : (line condition : List PlainWord) (s : State) (this that : Next) → ConditionGives line condition s this → ConditionGives line condition s that → this ≡ that
    condition_once line condition s this that p q =
        given_once _ (λ judged next. next ≡ judged_next s judged) (λ a b pa pb. given_once _ _ (run_once _ _ _) (judges_once conditions _) a b pa pb) (λ judged x y. both) this that p q

    -- ## Directives

    does_once : (g : Gathered) (file : File) (line : List PlainWord) (directive : PlainDirective) (s : State) (this that : Next) →
        Does g file line directive s this → Does g file line directive s that → this ≡ that
    does_once g file line Null s this that p q = both p q
    does_once g file line (Include name angle) s this that p q = both p q
    does_once g file line (Define made) s this that p q = define_once _ line made s this that p q
    does_once g file line (Undef name) s this that p q = both p q
    does_once g file line (If condition) s this that p q = condition_once line condition s this that p q
    does_once g file line (Elif condition) s this that p q = condition_once line condition s this that p q
    does_once g file line (Ifdef name) s this that p q = both p q
    does_once g file line (Ifndef name) s this that p q = both p q
    does_once g file line Else s this that p q = both p q
    does_once g file line Endif s this that p q = both p q
    does_once g file line Once s this that p q = both p q
    does_once g file line InitDone s this that p q = both p q
    does_once g file line TaskLoop s this that p q = both p q
    does_once g file line OtherPragma s this that p q = both p q

    acts_once : (g : Gathered) (file : File) (breaks : Bool) (line : List PlainWord) (outcome : Outcome) (s : State) (this that : Next) →
        Acts g file breaks line outcome s this → Acts g file breaks line outcome s that → this ≡ that
    acts_once g file breaks line (Read directive) s this that p q = match_once breaks (λ next. next ≡ _) _ (λ x y. both) (does_once g file line directive s) this that p q
    acts_once g file breaks line BadForm s this that p q = both p q
    acts_once g file breaks line (BadDefinition at) s this that p q = both p q

    module _ (outcomes : LinesHaveOneOutcome) where
      outcome_once : (line : List PlainWord) (this that : Outcome) → IsOutcome line this → IsOutcome line that → this ≡ that
      outcome_once line this that p q = both ((outcomes line).only this p) ((outcomes line).only that q)

      line_once : (g : Gathered) (file : File) (obeyed : Bool) (place : ℕ) (piece : Piece) (s : State) (this that : Next) →
          LineGives g file obeyed place piece s this → LineGives g file obeyed place piece s that → this ≡ that
      line_once g file true place (DirectiveLine line) s this that p q =
          given_once _ _ (outcome_once line) (λ outcome. acts_once g file (breaks_at file place) line outcome (listed file place line s)) this that p q
      line_once g file false place (DirectiveLine line) s this that p q = both p q
      line_once g file true place (TextRun words) s this that p q = run_of_text_once _ s words this that p q
      line_once g file false place (TextRun words) s this that p q = both p q

      -- ## The first line

      -- of a line comes one thing, so the others continue after the same
      continued : (g : Gathered) (nested : ℕ) (file : File) (before : List PassedLine) (piece : Piece) (pieces : List Piece) (s : State) (next : Next) (ended : Ended) →
          GivesFirst g file before piece s next → ByFirst g nested file before piece pieces s ended → Continues g nested file before piece pieces next ended
      continued g nested file before piece pieces s next ended gives first =
          subst (λ (n : Next). Continues g nested file before piece pieces n ended) (line_once g file (is_obeyed_after before (mark_of piece)) (length before) piece s first.next next first.gives gives) first.continues

      -- ## Files

      module _ (cuts : LinesAreUnique) where
        mutual
          file_once : {g : Gathered} {nested number : ℕ} {built_in : Bool} {s : State} {this that : Ended} → FileEnds g nested number built_in s this → FileEnds g nested number built_in s that → this ≡ that
          file_once {g} {nested} {number} {built_in} {s} {that = that} (words_counted {begun = begun} {words = words} {pieces = pieces} lexed count cut lines) (words_counted {begun = begun'} {words = words'} {pieces = pieces'} lexed' count' cut' lines') =
              let same : words ≡ words' = same_words number (text_of g number) words words' lexed.2 lexed'.2 in
              let begins : begun ≡ begun' = some_same (sym count ∙ ap (λ (ws : List PlainWord). counted built_in (length ws) s) same ∙ count') in
              let parts : pieces ≡ pieces' = cuts words pieces pieces' cut (subst (λ (ws : List PlainWord). AreCut ws pieces') (sym same) cut') in
              let read : List Piece → File = λ ps. record { number = number; built_in = built_in; pieces = ps } in
              lines_once lines (subst (λ (ps : List Piece). LinesEnd g nested (read ps) [] ps begun that) (sym parts) (subst (λ (b : State). LinesEnd g nested (read pieces') [] pieces' b that) (sym begins) lines'))
          file_once {g} {number = number} {built_in = built_in} {s = s} (words_counted {words = words} lexed count cut lines) (too_many_words {words = words'} lexed' count') =
              let same : words ≡ words' = same_words number (text_of g number) words words' lexed.2 lexed'.2 in
              absurd (some_none (sym count ∙ ap (λ (ws : List PlainWord). counted built_in (length ws) s) same ∙ count'))
          file_once {g} {number = number} {built_in = built_in} {s = s} (too_many_words {words = words} lexed count) (words_counted {words = words'} lexed' count' cut' lines') =
              let same : words ≡ words' = same_words number (text_of g number) words words' lexed.2 lexed'.2 in
              absurd (some_none (sym count' ∙ ap (λ (ws : List PlainWord). counted built_in (length ws) s) (sym same) ∙ count))
          file_once (too_many_words lexed count) (too_many_words lexed' count') = refl

          lines_once : {g : Gathered} {nested : ℕ} {file : File} {before : List PassedLine} {pieces : List Piece} {s : State} {this that : Ended} →
              LinesEnd g nested file before pieces s this → LinesEnd g nested file before pieces s that → this ≡ that
          lines_once no_lines no_lines = refl
          lines_once {g} {nested} {file} {before} {s = s} {that = that} (next_line {piece = piece} {pieces = pieces} {after = after} {holds = holds} gives rest) other =
              lines_once rest (continued g nested file before piece pieces s (GoesOn holds after) that gives (by_first other))
          lines_once {g} {file = file} {before = before} {s = s} {that = that} (file_finished {nested = nested} {number = number} {built_in = built_in} {piece = piece} {pieces = pieces} {entered = entered} gives within rest) other =
              let (ended, ends, resumes) = continued g (suc nested) file before piece pieces s (EntersFile number built_in entered) that gives (by_first other) in
              lines_once rest (subst (λ (w : Ended). Resumes g (suc nested) file before piece pieces w that) (sym (file_once within ends)) resumes)
          lines_once {g} {file = file} {before = before} {s = s} {that = that} (file_stopped {nested = nested} {number = number} {built_in = built_in} {piece = piece} {pieces = pieces} {entered = entered} gives within) other =
              let (ended, ends, resumes) = continued g (suc nested) file before piece pieces s (EntersFile number built_in entered) that gives (by_first other) in
              sym (subst (λ (w : Ended). Resumes g (suc nested) file before piece pieces w that) (sym (file_once within ends)) resumes)
          lines_once {g} {file = file} {before = before} {s = s} {that = that} (nested_too_deep {piece = piece} {pieces = pieces} number built_in entered gives) other =
              let (ended, is, resumes) = continued g zero file before piece pieces s (EntersFile number built_in entered) that gives (by_first other) in
              sym (subst (λ (w : Ended). Resumes g zero file before piece pieces w that) is resumes)
          lines_once {g} {nested} {file} {before} {s = s} {that = that} (line_stops {piece = piece} {pieces = pieces} {cause = cause} gives) other =
              sym (continued g nested file before piece pieces s (StopsWith cause) that gives (by_first other))

        -- ## Roots

        roots_once : {g : Gathered} {numbers : List ℕ} {roots : List (List PlainWord)} {obeyed : List PlainObeyed} {left : ℕ} {this that : Result Expansion Limit} →
            RootsEnd g numbers roots obeyed left this → RootsEnd g numbers roots obeyed left that → this ≡ that
        roots_once no_roots no_roots = refl
        roots_once {g} {roots = roots} {that = that} (root_finished {numbers = numbers} file others) (root_finished file' others') =
            roots_once others (subst (λ (s : State). RootsEnd g numbers (roots ++ s.words ∷ []) s.obeyed s.left that) (sym (same_state (file_once file file'))) others')
        roots_once (root_finished file others) (root_refused file') = absurd (apart (file_once file file'))
        roots_once (root_finished file others) (limit_passed file') = absurd (apart (file_once file file'))
        roots_once (root_refused file) (root_finished file' others') = absurd (apart (sym (file_once file file')))
        roots_once {roots = roots} (root_refused {numbers = numbers} {refusal = refusal} file) (root_refused {s = t} file') =
            let answer : State → Refusal → Result Expansion Limit = λ s refusal. Ok (record { roots = roots ++ s.words ∷ [] ++ no_words numbers; obeyed = s.obeyed; refusal = Some refusal }) in
            let same = same_refused (file_once file file') in
            ap (λ (s : State). answer s refusal) same.0 ∙ ap (answer t) same.1
        roots_once (root_refused file) (limit_passed file') = absurd (unlike (file_once file file'))
        roots_once (limit_passed file) (root_finished file' others') = absurd (apart (sym (file_once file file')))
        roots_once (limit_passed file) (root_refused file') = absurd (unlike (sym (file_once file file')))
        roots_once (limit_passed file) (limit_passed file') = ap Err (same_limit (file_once file file'))

-- a program expands to one thing at most
pub expands_to_once : WordsEndInOneWay → LinesAreUnique → LinesHaveOneOutcome → ConditionsAreUnique → ExpandsToOnce
expands_to_once ends cuts outcomes conditions g this that first second = roots_once ends conditions outcomes cuts first second
