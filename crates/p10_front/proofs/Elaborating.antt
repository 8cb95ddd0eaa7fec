-- What the trees of expanded words are read as.
use Rattle.std.proofs.Common.{◌≡◌, List, map, refl, sym, ap, subst, Some, None, IfSome, Result, Ok, Err, IfOk, IfErr}
use Rattle.p10_base.specs.declared.report.Refusal.{Refusal}
use Rattle.p10_syn.specs.declared.statement.Unit as whole
use Rattle.p10_syn.specs.BuiltStatements.{external_of}
use Rattle.p10_core.specs.declared.program.Program.{Program}
use Rattle.p10_core.specs.Views.{plain_program}
use Rattle.p10_core.specs.WholePrograms.{IsWholeProgram}
use Rattle.p10_elab.specs.declared.fault.ElabFault.{ElabFault}
use Rattle.p10_elab.specs.declared.fault.ElabFault.TheVariants as elaborating
use Rattle.p10_elab.specs.Answers.{IsElaborated}
use Rattle.p10_elab.specs.Programs.{elaborated}
use Rattle.p10_expand.specs.declared.expanded.Expanded.{Expanded}
use Rattle.p10_front.specs.declared.fault.FrontFault.{FrontFault}
use Rattle.p10_front.specs.declared.reading.Reading.{Reading}
use Rattle.p10_front.specs.Readings.{untyped_reading, untyped, oversized, typed}
use Rattle.p10_expand.specs.Answers.{expansion_of}
use Rattle.p10_front.specs.private.Typing.{reading_untyped, IsTyped, IsUntyped}

module _ (e : Expanded) (units all : List whole.Unit) (same : all ≡ units) where
  here : (r : Result Program ElabFault) → IsElaborated (elaborated (map external_of all)) r → IsElaborated (elaborated (map external_of units)) r
  here r has = subst (λ (us : List whole.Unit). IsElaborated (elaborated (map external_of us)) r) same has

  -- trees that are a program
  pub typed_program : (p : Program) → IsElaborated (elaborated (map external_of all)) (Ok p) → IsTyped e units (record { expanded = e; units = Some units; program = Some p; refusal = None })
  typed_program p has = typed (plain_program p) (here (Ok p) has) refl

  without_is_typed : (fault : ElabFault) → IsElaborated (elaborated (map external_of units)) (Err fault) → IfOk (reading_untyped e units fault) (IsTyped e units)
  without_is_typed (elaborating.Refused r) (problem, is, refusal) =
      untyped problem is (ap (λ (x : Refusal). Ok (untyped_reading (expansion_of e) (map external_of units) x)) refusal)
  without_is_typed (elaborating.Over l) has = tt
  without_is_typed elaborating.Memory has = tt

  without_is_untyped : (fault : ElabFault) → IsElaborated (elaborated (map external_of units)) (Err fault) → IfErr (reading_untyped e units fault) (IsUntyped e units)
  without_is_untyped (elaborating.Refused r) has = tt
  without_is_untyped (elaborating.Over l) (is, limit) = oversized is (ap Err limit)
  without_is_untyped elaborating.Memory has = tt

  -- trees that are no program
  pub typed_without : (fault : ElabFault) (r : Result Reading FrontFault) → IsElaborated (elaborated (map external_of all)) (Err fault) → r ≡ reading_untyped e units fault → IfOk r (IsTyped e units)
  typed_without fault r has is = subst (λ (r : Result Reading FrontFault). IfOk r (IsTyped e units)) (sym is) (without_is_typed fault (here (Err fault) has))

  pub untyped_without : (fault : ElabFault) (r : Result Reading FrontFault) → IsElaborated (elaborated (map external_of all)) (Err fault) → r ≡ reading_untyped e units fault → IfErr r (IsUntyped e units)
  untyped_without fault r has is = subst (λ (r : Result Reading FrontFault). IfErr r (IsUntyped e units)) (sym is) (without_is_untyped fault (here (Err fault) has))

  untyped_has_none : (fault : ElabFault) → IfOk (reading_untyped e units fault) (λ reading. IfSome reading.program (λ p. IsWholeProgram (plain_program p)))
  untyped_has_none (elaborating.Refused r) = tt
  untyped_has_none (elaborating.Over l) = tt
  untyped_has_none elaborating.Memory = tt

  pub untyped_is_whole : (fault : ElabFault) (r : Result Reading FrontFault) → r ≡ reading_untyped e units fault → IfOk r (λ reading. IfSome reading.program (λ p. IsWholeProgram (plain_program p)))
  untyped_is_whole fault r is =
      subst (λ (r : Result Reading FrontFault). IfOk r (λ reading. IfSome reading.program (λ p. IsWholeProgram (plain_program p)))) (sym is) (untyped_has_none fault)
