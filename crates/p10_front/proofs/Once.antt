-- Files are read as one thing at most.
use Rattle.std.proofs.Common.{◌≡◌, ◌≢◌, List, sym, ◌∙◌, ap, subst, Option, Some, None, Result, Ok, Err}
use Rattle.std.proofs.lemmas.Option.{same_Some, none-some}
use Rattle.p10_base.specs.declared.at.At.{At}
use Rattle.p10_base.specs.declared.report.Limit.{Limit}
use Rattle.p10_base.specs.declared.report.Refusal.{Refusal}
use Rattle.p10_base.specs.Gathered.{Gathered}
use Rattle.p10_base.specs.Words.{PlainWord}
use Rattle.p10_syn.specs.Spells.{Spells}
use Rattle.p10_syn.specs.Trees.{External}
use Rattle.p10_core.specs.Typed.{PlainProgram}
use Rattle.p10_elabx.specs.declared.problem.Problem.{Problem}
use Rattle.p10_elab.specs.Answers.{refusal_of}
use Rattle.p10_elab.specs.Programs.{Elaborated, elaborated, program as the_program, refusal as the_problem, too_large}
use Rattle.p10_expand.specs.Expands.{Expansion, ExpandsTo, ExpandsToOnce}
use Rattle.p10_pexpr.specs.declared.fault.ParseFault.TheVariants.{Refused, Over, Memory}
use Rattle.p10_parse.specs.Units.{AllFit, FirstFault}
use Rattle.p10_parse.specs.Laws.{UnitsAreOne, SpelledHaveNoFault, FaultsAreOne}
use Rattle.p10_front.specs.Readings.{PlainReading, refused_reading, untyped_reading, typed_reading, Elaborates, untyped, oversized, typed, Parses, unexpanded, nested_over, unspelled, spelled, expanded_over, expanded}
use Rattle.p10_front.specs.Laws.{ReadsOnce}

-- ## What trees are read as

same_problem : (e : Elaborated) (p q : Problem) → e ≡ the_problem p → e ≡ the_problem q → p ≡ q
same_problem e p q this that = cc

same_program : (e : Elaborated) (p q : PlainProgram) → e ≡ the_program p → e ≡ the_program q → p ≡ q
same_program e p q this that = cc

problem_or_limit : (e : Elaborated) (p : Problem) → e ≡ the_problem p → e ≡ too_large → ⊥
problem_or_limit e p this that = cc

program_or_limit : (e : Elaborated) (p : PlainProgram) → e ≡ the_program p → e ≡ too_large → ⊥
program_or_limit e p this that = cc

program_or_problem : (e : Elaborated) (p : PlainProgram) (q : Problem) → e ≡ the_program p → e ≡ the_problem q → ⊥
program_or_problem e p q this that = cc

elaborates_once : (e : Expansion) (trees : List (External At)) (this that : Result PlainReading Limit) → Elaborates e trees this → Elaborates e trees that → this ≡ that
elaborates_once e trees this that (untyped p is a) (untyped q is' b) =
    a ∙ ap (λ (x : Problem). Ok (untyped_reading e trees (refusal_of x))) (same_problem (elaborated trees) p q is is') ∙ sym b
elaborates_once e trees this that (untyped p is a) (oversized is' b) = absurd (problem_or_limit (elaborated trees) p is is')
elaborates_once e trees this that (untyped p is a) (typed q is' b) = absurd (program_or_problem (elaborated trees) q p is' is)
elaborates_once e trees this that (oversized is a) (untyped q is' b) = absurd (problem_or_limit (elaborated trees) q is' is)
elaborates_once e trees this that (oversized is a) (oversized is' b) = a ∙ sym b
elaborates_once e trees this that (oversized is a) (typed q is' b) = absurd (program_or_limit (elaborated trees) q is' is)
elaborates_once e trees this that (typed p is a) (untyped q is' b) = absurd (program_or_problem (elaborated trees) p q is is')
elaborates_once e trees this that (typed p is a) (oversized is' b) = absurd (program_or_limit (elaborated trees) p is is')
elaborates_once e trees this that (typed p is a) (typed q is' b) =
    a ∙ ap (λ (x : PlainProgram). Ok (typed_reading e trees x)) (same_program (elaborated trees) p q is is') ∙ sym b

-- where expansion and the grammar give one answer each
module _ (once : ExpandsToOnce) (one_list : UnitsAreOne) (no_fault : SpelledHaveNoFault) (one_fault : FaultsAreOne) where
  -- ## Faults of words

  refused_is_not_memory : (r : Refusal) → Refused r ≢ Memory
  refused_is_not_memory r same = cc

  over_is_not_memory : (l : Limit) → Over l ≢ Memory
  over_is_not_memory l same = cc

  same_refusal : (roots : List (List PlainWord)) (r s : Refusal) → FirstFault roots (Refused r) → FirstFault roots (Refused s) → r ≡ s
  same_refusal roots r s this that =
      let same : Refused r ≡ Refused s = one_fault roots (Refused r) (Refused s) (refused_is_not_memory r) (refused_is_not_memory s) this that in
      cc

  same_limit : (roots : List (List PlainWord)) (l k : Limit) → FirstFault roots (Over l) → FirstFault roots (Over k) → l ≡ k
  same_limit roots l k this that =
      let same : Over l ≡ Over k = one_fault roots (Over l) (Over k) (over_is_not_memory l) (over_is_not_memory k) this that in
      cc

  refused_and_over : (roots : List (List PlainWord)) (r : Refusal) (l : Limit) → FirstFault roots (Refused r) → FirstFault roots (Over l) → ⊥
  refused_and_over roots r l this that =
      let same : Refused r ≡ Over l = one_fault roots (Refused r) (Over l) (refused_is_not_memory r) (over_is_not_memory l) this that in
      cc

  spelled_and_refused : (roots : List (List PlainWord)) (trees : List (External At)) (r : Refusal) → AllFit roots → Spells roots trees → FirstFault roots (Refused r) → ⊥
  spelled_and_refused roots trees r fit spell faulty = refused_is_not_memory r (no_fault roots trees (Refused r) fit spell faulty)

  spelled_and_over : (roots : List (List PlainWord)) (trees : List (External At)) (l : Limit) → AllFit roots → Spells roots trees → FirstFault roots (Over l) → ⊥
  spelled_and_over roots trees l fit spell faulty = over_is_not_memory l (no_fault roots trees (Over l) fit spell faulty)

  -- ## What expanded words are read as

  some_and_none : (o : Option Refusal) (r : Refusal) → o ≡ Some r → o ≡ None → ⊥
  some_and_none o r some none = none-some r (sym none ∙ some)

  parses_once : (e : Expansion) (this that : Result PlainReading Limit) → Parses e this → Parses e that → this ≡ that
  parses_once e this that (unexpanded r some is) (unexpanded q some' is') = is ∙ ap (λ (x : Refusal). Ok (refused_reading e x)) (same_Some r q (sym some ∙ some')) ∙ sym is'
  parses_once e this that (unexpanded r some is) (nested_over l none fault is') = absurd (some_and_none e.refusal r some none)
  parses_once e this that (unexpanded r some is) (unspelled q none fault is') = absurd (some_and_none e.refusal r some none)
  parses_once e this that (unexpanded r some is) (spelled trees none fit spell is') = absurd (some_and_none e.refusal r some none)
  parses_once e this that (nested_over l none fault is) (unexpanded q some is') = absurd (some_and_none e.refusal q some none)
  parses_once e this that (nested_over l none fault is) (nested_over k none' fault' is') = is ∙ ap Err (same_limit e.roots l k fault fault') ∙ sym is'
  parses_once e this that (nested_over l none fault is) (unspelled q none' fault' is') = absurd (refused_and_over e.roots q l fault' fault)
  parses_once e this that (nested_over l none fault is) (spelled trees none' fit spell is') = absurd (spelled_and_over e.roots trees l fit spell fault)
  parses_once e this that (unspelled r none fault is) (unexpanded q some is') = absurd (some_and_none e.refusal q some none)
  parses_once e this that (unspelled r none fault is) (nested_over k none' fault' is') = absurd (refused_and_over e.roots r k fault fault')
  parses_once e this that (unspelled r none fault is) (unspelled q none' fault' is') = is ∙ ap (λ (x : Refusal). Ok (refused_reading e x)) (same_refusal e.roots r q fault fault') ∙ sym is'
  parses_once e this that (unspelled r none fault is) (spelled trees none' fit spell is') = absurd (spelled_and_refused e.roots trees r fit spell fault)
  parses_once e this that (spelled trees none fit spell is) (unexpanded q some is') = absurd (some_and_none e.refusal q some none)
  parses_once e this that (spelled trees none fit spell is) (nested_over k none' fault is') = absurd (spelled_and_over e.roots trees k fit spell fault)
  parses_once e this that (spelled trees none fit spell is) (unspelled q none' fault is') = absurd (spelled_and_refused e.roots trees q fit spell fault)
  parses_once e this that (spelled trees none fit spell is) (spelled others none' fit' spell' is') =
      elaborates_once e trees this that is (subst (λ (ts : List (External At)). Elaborates e ts that) (sym (one_list e.roots trees others spell spell')) is')

  -- ## What files are read as

  same_over : (g : Gathered) (l k : Limit) → ExpandsTo g (Err l) → ExpandsTo g (Err k) → l ≡ k
  same_over g l k this that =
      let same : ◌≡◌ {A = Result Expansion Limit} (Err l) (Err k) = once g (Err l) (Err k) this that in
      cc

  same_expansion : (g : Gathered) (d e : Expansion) → ExpandsTo g (Ok d) → ExpandsTo g (Ok e) → d ≡ e
  same_expansion g d e this that =
      let same : ◌≡◌ {A = Result Expansion Limit} (Ok d) (Ok e) = once g (Ok d) (Ok e) this that in
      cc

  expanded_and_over : (g : Gathered) (e : Expansion) (l : Limit) → ExpandsTo g (Ok e) → ExpandsTo g (Err l) → ⊥
  expanded_and_over g e l this that =
      let same : ◌≡◌ {A = Result Expansion Limit} (Ok e) (Err l) = once g (Ok e) (Err l) this that in
      cc

  pub reads_once : ReadsOnce
  reads_once g this that (expanded_over l over is) (expanded_over k over' is') = is ∙ ap Err (same_over g l k over over') ∙ sym is'
  reads_once g this that (expanded_over l over is) (expanded e expands parses) = absurd (expanded_and_over g e l expands over)
  reads_once g this that (expanded d expands parses) (expanded_over k over is) = absurd (expanded_and_over g d k expands over)
  reads_once g this that (expanded d expands parses) (expanded e expands' parses') =
      parses_once e this that (subst (λ (x : Expansion). Parses x this) (same_expansion g d e expands expands') parses) parses'
