-- What comes of all that is known of the roots, stage by stage.
use Rattle.std.proofs.Common.{◌≡◌, ℕ, List, [], ◌∷◌, ◌++◌, length, Option, Some, None, Result, Err, refl, sym, ◌∙◌, ap, subst}
use Rattle.std.specs.Result.{IsErrAnd}
use Rattle.std.proofs.lemmas.Result.{err_from_is_err_and}
use Rattle.p10_base.specs.declared.at.At.{At}
use Rattle.p10_syn.specs.Trees.{External}
use Rattle.p10_core.specs.declared.program.Program.{Program}
use Rattle.p10_core.specs.Types.{PlainStructure}
use Rattle.p10_core.specs.Typed.{PlainFunction, PlainObject, PlainSeen, PlainProgram}
use Rattle.p10_elabx.specs.declared.problem.Problem.{Problem}
use Rattle.p10_elabx.specs.First.{problems}
use Rattle.p10_program.specs.Assembly.{program_with}
use Rattle.p10_program.specs.FirstProblems.{first_with}
use Rattle.p10_program.specs.Mains.{calls_of_main, missing_main}
use Rattle.p10_program.specs.ProgramNodes.{nodes_of_program}
use Rattle.p10_elab.specs.declared.fault.ElabFault.{ElabFault}
use Rattle.p10_elab.specs.declared.fault.ElabFault.TheVariants.{Refused, Memory}
use Rattle.p10_elab.specs.Answers.{refusal_of, IsElaborated}
use Rattle.p10_elab.specs.Knowledge.{Known}
use Rattle.p10_elab.specs.UseWords.{use_at_word}
use Rattle.p10_elab.specs.Programs.{Elaborated, refusal, unless_problem, unless_undefined, within_sizes, names_settled, main_among, program_of}

-- ## Stages

-- what comes where no row holds in declarations
abbrev pub program_stage : List (External At) → ℕ → Known → Elaborated
program_stage all count k = names_settled all (length k.functions) count (main_among k.functions) k.mains (program_of count k.standing k)

-- what comes where only what is defined is used
abbrev pub main_stage : Option ℕ → List Problem → PlainProgram → Elaborated
main_stage main mains p = unless_problem (missing_main main (mains ++ calls_of_main main (nodes_of_program p))) (within_sizes p)

first_refused : (found : Option Problem) (rs : List Problem) (r : Problem) (other : Elaborated) → found ≡ Some r → found ≡ first_with None rs → unless_problem rs other ≡ refusal r
first_refused found [] r other p q = absurd cc
first_refused found (s ∷ rest) r other p q = cc

first_lacking : (found : Option Problem) (rs : List Problem) (other : Elaborated) → found ≡ None → found ≡ first_with None rs → other ≡ unless_problem rs other
first_lacking found [] other p q = refl
first_lacking found (s ∷ rest) other p q = absurd cc

-- a stage finds a problem
pub stage_answered : (rs : List Problem) (other : Elaborated) (found : Option Problem) (r : Problem) (fault : ElabFault) → found ≡ Some r → found ≡ first_with None rs → fault ≡ Refused (refusal_of r) → IsElaborated (unless_problem rs other) (Err fault)
stage_answered rs other found r fault p q e = subst (λ f. IsElaborated (unless_problem rs other) (Err f)) (sym e) (r, first_refused found rs r other p q, refl)

-- a stage finds none
pub stage_passed : (rs : List Problem) (other : Elaborated) (found : Option Problem) (result : Result Program ElabFault) → found ≡ None → found ≡ first_with None rs → IsElaborated other result → IsElaborated (unless_problem rs other) result
stage_passed rs other found result p q h = subst (λ e. IsElaborated e result) (first_lacking found rs other p q) h

-- the same of the first use of what isn't defined, at its word
undefined_refused : (all : List (External At)) (found : Option Problem) (rs : List Problem) (r : Problem) (other : Elaborated) → found ≡ Some r → found ≡ first_with None rs → unless_undefined all rs other ≡ refusal (use_at_word all r)
undefined_refused all found [] r other p q = absurd cc
undefined_refused all found (s ∷ rest) r other p q = cc

undefined_lacking : (all : List (External At)) (found : Option Problem) (rs : List Problem) (other : Elaborated) → found ≡ None → found ≡ first_with None rs → other ≡ unless_undefined all rs other
undefined_lacking all found [] other p q = refl
undefined_lacking all found (s ∷ rest) other p q = absurd cc

pub undefined_answered : (all : List (External At)) (rs : List Problem) (other : Elaborated) (found : Option Problem) (r told : Problem) (fault : ElabFault) → found ≡ Some r → found ≡ first_with None rs →
    told ≡ use_at_word all r → fault ≡ Refused (refusal_of told) → IsElaborated (unless_undefined all rs other) (Err fault)
undefined_answered all rs other found r told fault p q at e =
    subst (λ f. IsElaborated (unless_undefined all rs other) (Err f)) (sym e) (told, undefined_refused all found rs r other p q ∙ ap refusal (sym at), refl)

pub undefined_passed : (all : List (External At)) (rs : List Problem) (other : Elaborated) (found : Option Problem) (result : Result Program ElabFault) → found ≡ None → found ≡ first_with None rs → IsElaborated other result →
    IsElaborated (unless_undefined all rs other) result
undefined_passed all rs other found result p q h = subst (λ e. IsElaborated e result) (undefined_lacking all found rs other p q) h

-- the only problem that is kept is the first
pub first_of_kept : (found : Option Problem) → found ≡ first_with None (problems found)
first_of_kept None = refl
first_of_kept (Some r) = refl

-- memory runs out
pub out_of_memory : (e : Elaborated) (r : Result Program ElabFault) → IsErrAnd r (λ f. f ≡ Memory) → IsElaborated e r
out_of_memory e r h =
    let p = err_from_is_err_and r h in
    subst (IsElaborated e) (sym (p.1 ∙ ap Err p.2)) tt

-- ## The program of what is known

pub program_settled : (all : List (External At)) (count n : ℕ) (structures : List PlainStructure) (objects found : List PlainObject) (functions : List PlainFunction) (outside : List PlainSeen) (main : Option ℕ) (mains noted : List Problem) (p : PlainProgram) (result : Result Program ElabFault) →
    n ≡ length functions → main ≡ main_among functions → found ≡ objects → noted ≡ mains → p ≡ program_with structures found functions main outside →
    IsElaborated (names_settled all n count main noted p) result →
    IsElaborated (names_settled all (length functions) count (main_among functions) mains (program_with structures objects functions (main_among functions) outside)) result
program_settled all count n structures objects found functions outside main mains noted p result a b o m q h =
    subst (λ e. IsElaborated e result) (λ i. names_settled all (a i) count (b i) (m i) ((q ∙ (λ j. program_with structures (o j) functions (b j) outside)) i)) h
