-- What files are read as that are a program.
use Rattle.std.proofs.Common.{◌≡◌, List, Some, None, Ok, refl, sym, ap, ◌∙◌, subst}
use Rattle.std.proofs.lemmas.Option.{same_Some, none-some}
use Rattle.p10_base.specs.declared.at.At.{At}
use Rattle.p10_base.specs.declared.report.Refusal.{Refusal}
use Rattle.p10_base.specs.declared.report.TheConstants.Limit.{OBJECT_BYTES}
use Rattle.p10_base.specs.Gathered.{Gathered}
use Rattle.p10_syn.specs.Spells.{Spells}
use Rattle.p10_syn.specs.Trees.{External}
use Rattle.p10_core.specs.Typed.{PlainProgram}
use Rattle.p10_expand.specs.Expands.{Expansion}
use Rattle.p10_elab.specs.Answers.{refusal_of}
use Rattle.p10_elab.specs.Programs.{elaborated, program}
use Rattle.p10_front.specs.Readings.{PlainReading, refused_reading, untyped_reading, typed_reading, Elaborates, untyped, oversized, typed, Parses, unexpanded, nested_over, unspelled, spelled, Reads, expanded_over, expanded, AreReadAs}
use Rattle.p10_front.specs.Digests.{trees_in}
use Rattle.p10_front.proofs.Parsing.{same_reading, no_limit, reads_expand}
use Rattle.p10_spelling_laws.proofs.Lexed.{expanded_are_sound}
use Rattle.p10_spelling_laws.proofs.Telling.{same_words_same_trees}
use Rattle.p10_word_counterparts.specs.Laws.{ReadingsAreTyped, ReadingsHaveCounterparts}

-- a reading that isn't refused is none that is
not_refused : (r other : PlainReading) (refusal : Refusal) → r ≡ other → other.refusal ≡ Some refusal → r.refusal ≡ None → ⊥
not_refused r other refusal same some none = none-some refusal (sym none ∙ ap (λ (x : PlainReading). x.refusal) same ∙ some)

-- the trees spell the words, and come to the program
record AreTypedFrom (r : PlainReading) (p : PlainProgram) : Type 0 where
  pub spells : Spells r.expansion.roots (trees_in r.units)
  pub is : elaborated (trees_in r.units) ≡ program p

module _ (g : Gathered) (r : PlainReading) (p : PlainProgram) (reads : AreReadAs g r p) where
  from_typed : (e : Expansion) (trees : List (External At)) (q : PlainProgram) → Spells e.roots trees → elaborated trees ≡ program q → r ≡ typed_reading e trees q → AreTypedFrom r p
  from_typed e trees q spells is same =
      let one : q ≡ p = same_Some q p (sym (ap (λ (x : PlainReading). x.program) same) ∙ reads.is) in
      record {
        spells = subst (λ (x : PlainReading). Spells x.expansion.roots (trees_in x.units)) (sym same) spells;
        is = ap (λ (x : PlainReading). elaborated (trees_in x.units)) same ∙ is ∙ ap program one;
      }

  from_elaborates : (e : Expansion) (trees : List (External At)) → Spells e.roots trees → Elaborates e trees (Ok r) → AreTypedFrom r p
  from_elaborates e trees spells (untyped problem is same) =
      absurd (not_refused r (untyped_reading e trees (refusal_of problem)) (refusal_of problem) (same_reading r (untyped_reading e trees (refusal_of problem)) same) refl reads.unrefused)
  from_elaborates e trees spells (oversized is same) = absurd (no_limit r OBJECT_BYTES same)
  from_elaborates e trees spells (typed q is same) = from_typed e trees q spells is (same_reading r (typed_reading e trees q) same)

  from_parses : (e : Expansion) → Parses e (Ok r) → AreTypedFrom r p
  from_parses e (unexpanded refusal some same) = absurd (not_refused r (refused_reading e refusal) refusal (same_reading r (refused_reading e refusal) same) refl reads.unrefused)
  from_parses e (nested_over limit none fault same) = absurd (no_limit r limit same)
  from_parses e (unspelled refusal none fault same) = absurd (not_refused r (refused_reading e refusal) refusal (same_reading r (refused_reading e refusal) same) refl reads.unrefused)
  from_parses e (spelled trees none fit spells elaborates) = from_elaborates e trees spells elaborates

  from_reads : Reads g (Ok r) → AreTypedFrom r p
  from_reads (expanded_over limit over same) = absurd (no_limit r limit same)
  from_reads (expanded e expands parses) = from_parses e parses

pub readings_are_typed : ReadingsAreTyped
readings_are_typed g r p reads =
    let t = from_reads g r p reads reads.reads in
    record { expands = reads_expand g r reads.reads; spells = t.spells; is = t.is }

pub readings_have_counterparts : ReadingsHaveCounterparts
readings_have_counterparts g h r s p q reads other same =
    let t = readings_are_typed g r p reads in
    let u = readings_are_typed h s q other in
    let a = expanded_are_sound g r.expansion t.expands in
    let b = expanded_are_sound h s.expansion u.expands in
    same_words_same_trees r.expansion.roots s.expansion.roots (trees_in r.units) (trees_in s.units) t.spells u.spells a.0 b.0 a.1 b.1 same
