-- Each line of a file gives something.
use Rattle.std.proofs.Common.{◌≡◌, ℕ, List, [], ◌∷◌, ◌++◌, map, Bool, true, false, not, MatchBool, Option, Some, None, IsSomeAnd, refl, sym, subst, inl, inr}
use Rattle.p10_base.specs.declared.span.Span.{Span}
use Rattle.p10_base.specs.Gathered.{Gathered, name_of, candidate_of}
use Rattle.p10_base.specs.Names.{with_name}
use Rattle.p10_base.specs.Words.{PlainWord}
use Rattle.p10_base.specs.Codes.{directive_refusal, directive_number}
use Rattle.p10_base.specs.declared.codes.DirectiveCode.TheVariants as code
use Rattle.p10_base.specs.declared.report.TheConstants.Limit.{EXPANDED_WORDS}
use Rattle.p10_direct.specs.Lines.{Piece, DirectiveLine, TextRun, words_of}
use Rattle.p10_direct.specs.Directives.{PlainMacro, PlainDirective, Null, Include, Define, Undef, If, Elif, Ifdef, Ifndef, Else, Endif, Once, InitDone, TaskLoop, OtherPragma, Outcome, Read, BadForm, BadDefinition, place_of}
use Rattle.p10_direct.proofs.Outcomes.{one_outcome}
use Rattle.p10_macros.specs.declared.table.Effect.{Effect}
use Rattle.p10_macros.specs.declared.table.Effect.TheVariants.{New, Same, Other}
use Rattle.p10_macros.specs.Table.{Table, macro_named, same_macro, with_macro, without_macro}
use Rattle.p10_macros.specs.Uses.{Sourced, written, sourced_words}
use Rattle.p10_macros.specs.Endings.{Ending, Gives, Refused, TooMany}
use Rattle.p10_macros.specs.Answers.{Defines}
use Rattle.p10_macros.proofs.Fronts.{fronts_give}
use Rattle.p10_expand.specs.Before.{ComeInOrder}
use Rattle.p10_expand.specs.Items.{lines_of, is_among, given_after, new_words}
use Rattle.p10_expand.specs.Conditionals.{refusal_of, is_defined, answered, RunEnds, Judged, Holds, Fails, Exceeds, Judges}
use Rattle.p10_expand.specs.Obeying.{State, PassedLimit, Next, GoesOn, StopsWith, File, refuse, listed, passed, breaks_at, with_words, mark_word, included, defined_as, judged_next, TextEnds, TextGives, RunGives, DefinitionGives, DefineGives, ConditionGives, Does, Acts, ObeyedGives, LineGives}
use Rattle.p10_expand.proofs.Before.{words_before_give}
use Rattle.p10_expand.proofs.InOrder.{new_in_order}
use Rattle.p10_expansion_laws.proofs.WordsEnd.{words_end}
use Rattle.p10_expansion_laws.proofs.PartsThere.{IsJudged, judged_there}

match_there : (b : Bool) (P Q : Next → Type 0) → (next : Next) × P next → (next : Next) × Q next → (next : Next) × MatchBool b (P next) (Q next)
match_there true P Q p q = p
match_there false P Q p q = q

-- ## Text

run_there : (macros : Table) (words : List PlainWord) (left : ℕ) → (ending : Ending (List Sourced)) × RunEnds macros words left ending
run_there macros words left = words_end macros None (map written words) left

text_ends_there : (s : State) (words : List PlainWord) → ComeInOrder 0 words → (ending : Ending (List Sourced)) → RunEnds s.macros words s.left ending → (next : Next) × TextEnds s words ending next
text_ends_there s words order (Gives made left) runs = (GoesOn true (record s { words = s.words ++ sourced_words made; left = left }), refl)
text_ends_there s words order (Refused number at) runs =
    let (made, remaining, gives) = words_before_give fronts_give s.macros words s.left number at order runs in
    (refuse (with_words s (sourced_words made)) number at, (made, remaining, gives, refl))
text_ends_there s words order TooMany runs = (StopsWith (PassedLimit EXPANDED_WORDS), refl)

text_there : (s : State) (words : List PlainWord) → ComeInOrder 0 words → (next : Next) × TextGives s words next
text_there s words order =
    let (ending, runs) = run_there s.macros words s.left in
    let (next, ends) = text_ends_there s words order ending runs in
    (next, (ending, runs, ends))

run_of_text_there : (built_in : Bool) (s : State) (words : List PlainWord) → ComeInOrder 0 words → (next : Next) × RunGives built_in s words next
run_of_text_there true s words order = text_there (record s { given = given_after s.given (lines_of words) }) (new_words s.given (lines_of words)) (new_in_order s.given words order)
run_of_text_there false s words order = text_there s words order

-- ## Definitions

same_there : (old : Table) (made known : PlainMacro) (built_in same : Bool) → macro_named made.name old ≡ Some known → same_macro known made ≡ same → (effect : Effect) × (macros : Table) × Defines old made built_in effect macros
same_there old made known built_in true named is = (Same, old, (subst (λ o. IsSomeAnd o (λ known. same_macro known made ≡ true)) (sym named) is, refl))
same_there old made known built_in false named is = (Other, old, (subst (λ o. IsSomeAnd o (λ known. same_macro known made ≡ false)) (sym named) is, refl))

defines_there : (old : Table) (made : PlainMacro) (built_in : Bool) (known : Option PlainMacro) → macro_named made.name old ≡ known → (effect : Effect) × (macros : Table) × Defines old made built_in effect macros
defines_there old made built_in None named = (New, with_macro old made built_in, (named, refl))
defines_there old made built_in (Some known) named = same_there old made known built_in (same_macro known made) named refl

definition_there : (built_in : Bool) (line : List PlainWord) (made : PlainMacro) (s : State) → (next : Next) × DefinitionGives built_in line made s next
definition_there built_in line made s =
    let (effect, macros, defines) = defines_there s.macros made built_in (macro_named made.name s.macros) refl in
    (defined_as line s effect macros, (effect, macros, defines, refl))

define_there : (built_in : Bool) (line : List PlainWord) (made : PlainMacro) (s : State) → (next : Next) × DefineGives built_in line made s next
define_there true line made s =
    match_there (is_among s.given made.name) (λ next. next ≡ GoesOn true s) (DefinitionGives true line made (record s { given = s.given ++ made.name ∷ [] })) (GoesOn true s, refl) (definition_there true line made _)
define_there false line made s = definition_there false line made s

-- ## Conditions

truth_judges : (whole : Span) (made : List Sourced) (left : ℕ) → IsJudged (sourced_words made) → (judged : Judged) × Judges whole (Gives made left) judged
truth_judges whole made left (inl (truth, has)) = (Holds truth left, inl (truth, has, refl))
truth_judges whole made left (inr none) = (Fails (directive_refusal code.BadCondition whole), inr (none, refl))

judges_there : (whole : Span) (ending : Ending (List Sourced)) → (judged : Judged) × Judges whole ending judged
judges_there whole (Gives made left) = truth_judges whole made left (judged_there (sourced_words made))
judges_there whole (Refused number at) = (Fails (refusal_of number at), refl)
judges_there whole TooMany = (Exceeds, refl)

condition_there : (line condition : List PlainWord) (s : State) → (next : Next) × ConditionGives line condition s next
condition_there line condition s =
    let (ending, runs) = run_there s.macros (answered s.macros 0 condition) s.left in
    let (judged, judges) = judges_there (place_of line) ending in
    (judged_next s judged, (judged, (ending, runs, judges), refl))

-- ## Directives

module _ (g : Gathered) (file : File) where
  does_there : (line : List PlainWord) (directive : PlainDirective) (s : State) → (next : Next) × Does g file line directive s next
  does_there line Null s = (GoesOn true s, refl)
  does_there line (Include name angle) s = (included g line name s (candidate_of g file.number name angle), refl)
  does_there line (Define made) s = define_there file.built_in line made s
  does_there line (Undef name) s = (GoesOn true (record s { macros = without_macro s.macros name }), refl)
  does_there line (If condition) s = condition_there line condition s
  does_there line (Elif condition) s = condition_there line condition s
  does_there line (Ifdef name) s = (GoesOn (is_defined s.macros name) s, refl)
  does_there line (Ifndef name) s = (GoesOn (not (is_defined s.macros name)) s, refl)
  does_there line Else s = (GoesOn true s, refl)
  does_there line Endif s = (GoesOn true s, refl)
  does_there line Once s = (GoesOn true (record s { once = with_name s.once (name_of g file.number) }), refl)
  does_there line InitDone s = (GoesOn true (with_words s (mark_word line)), refl)
  does_there line TaskLoop s = (GoesOn true (with_words s (mark_word line)), refl)
  does_there line OtherPragma s = (GoesOn true s, refl)

  acts_there : (breaks : Bool) (line : List PlainWord) (outcome : Outcome) (s : State) → (next : Next) × Acts g file breaks line outcome s next
  acts_there breaks line BadForm s = (refuse s (directive_number code.BadDirective) (place_of line), refl)
  acts_there breaks line (BadDefinition at) s = (refuse s (directive_number code.BadDefinition) at, refl)
  acts_there breaks line (Read directive) s =
      match_there breaks (λ next. next ≡ refuse s (directive_number code.UnbalancedConditional) (place_of line)) (Does g file line directive s)
      (refuse s (directive_number code.UnbalancedConditional) (place_of line), refl) (does_there line directive s)

  obeyed_there : (place : ℕ) (line : List PlainWord) (s : State) → (next : Next) × ObeyedGives g file place line s next
  obeyed_there place line s =
      let outcome = one_outcome line in
      let (next, acts) = acts_there (breaks_at file place) line outcome.outcome s in
      (next, (outcome.outcome, outcome.is_outcome, acts))

  -- a line whose words come in order gives something
  pub line_there : (obeyed : Bool) (place : ℕ) (piece : Piece) (s : State) → ComeInOrder 0 (words_of piece) → (next : Next) × LineGives g file obeyed place piece s next
  line_there true place (DirectiveLine line) s order = obeyed_there place line (listed file place line s)
  line_there false place (DirectiveLine line) s order = (passed file place line s, refl)
  line_there true place (TextRun words) s order = run_of_text_there file.built_in s words order
  line_there false place (TextRun words) s order = (GoesOn true s, refl)
