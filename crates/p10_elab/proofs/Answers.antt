-- Of problems the first is answered.
use Rattle.std.proofs.Common.{◌≡◌, Bool, true, false, if◌then◌else◌, Err, Some, List, [], ◌∷◌, ◌++◌, refl, sym, ◌∙◌, ap, subst, append_assoc}
use Rattle.p10_base.specs.declared.at.At.{At}
use Rattle.p10_syn.specs.Trees.{External}
use Rattle.p10_core.specs.Typed.{PlainProgram}
use Rattle.std.proofs.lemmas.List.{append-nil}
use Rattle.p10_elabx.specs.declared.problem.Problem.{Problem}
use Rattle.p10_elabx.specs.First.{Keep, IsFirst, least}
use Rattle.p10_elabx.proofs.Firsts.{kept_lift, kept_pair}
use Rattle.p10_heads.specs.Roots.{roots_of}
use Rattle.p10_program.specs.FirstProblems.{first_of}
use Rattle.p10_program.specs.Limits.{is_too_large}
use Rattle.p10_elab.specs.Programs.{Elaborated, program, too_large, unless_problem, unless_undefined, roots_elaborated, standing_of, whole_of}
use Rattle.p10_elab.specs.Laws.{TheFirstIsAnswered, undefined_in, main_problems, IsAccepted, IsTooLarge, AnswersHaveCauses}

alone : (r : Problem) → IsFirst r (r ∷ [])
alone r = kept_lift {A = Bool} (Err (Some r))

first_of_both : (r q : Problem) (rs qs : List Problem) → IsFirst r rs → IsFirst q qs → IsFirst (least r q) (rs ++ qs)
first_of_both r q rs qs f g = kept_pair {A = Bool} {B = Bool} (Err rs) (Err (r ∷ [])) (Err qs) (Err (q ∷ [])) f g

first_among : (r : Problem) (rest before : List Problem) → IsFirst r before → IsFirst (first_of r rest) (before ++ rest)
first_among r [] before f = subst (IsFirst r) (sym (append-nil before)) f
first_among r (q ∷ rest) before f =
    subst (IsFirst (first_of (least r q) rest)) (append_assoc before (q ∷ []) rest)
    (first_among (least r q) rest (before ++ q ∷ []) (first_of_both r q before (q ∷ []) f (alone q)))

pub the_first_is_answered : TheFirstIsAnswered
the_first_is_answered r rest other = (first_of r rest, refl, first_among r rest (r ∷ []) (alone r))

-- ## Causes

program_only : (rs : List Problem) (other : Elaborated) (p : PlainProgram) → unless_problem rs other ≡ program p → (rs ≡ []) × (other ≡ program p)
program_only [] other p e = (refl, e)
program_only (r ∷ rest) other p e = absurd cc

limit_only : (rs : List Problem) (other : Elaborated) → unless_problem rs other ≡ too_large → (rs ≡ []) × (other ≡ too_large)
limit_only [] other e = (refl, e)
limit_only (r ∷ rest) other e = absurd cc

same_program : (p q : PlainProgram) → program p ≡ program q → p ≡ q
same_program p q e = cc

sized : (b : Bool) (p q : PlainProgram) → (if b then too_large else program p) ≡ program q → (b ≡ false) × (p ≡ q)
sized false p q e = (refl, same_program p q e)
sized true p q e = absurd cc

unsized : (b : Bool) (p : PlainProgram) → (if b then too_large else program p) ≡ too_large → b ≡ true
unsized true p e = refl
unsized false p e = absurd cc

defined_only : (all : List (External At)) (rs : List Problem) (other : Elaborated) (p : PlainProgram) → unless_undefined all rs other ≡ program p → (rs ≡ []) × (other ≡ program p)
defined_only all [] other p e = (refl, e)
defined_only all (r ∷ rest) other p e = absurd cc

defined_limit : (all : List (External At)) (rs : List Problem) (other : Elaborated) → unless_undefined all rs other ≡ too_large → (rs ≡ []) × (other ≡ too_large)
defined_limit all [] other e = (refl, e)
defined_limit all (r ∷ rest) other e = absurd cc

accepted : (h : Keep) (all : List (External At)) (roots : List (List (External At))) (p : PlainProgram) → roots_elaborated h all roots ≡ program p → IsAccepted h roots p
accepted h all roots p e =
    let a = program_only (standing_of h roots).problems _ p e in
    let b = defined_only all (undefined_in h roots) _ p a.1 in
    let c = program_only (main_problems h roots) _ p b.1 in
    let d = sized (is_too_large (whole_of h roots)) (whole_of h roots) p c.1 in
    record {
      no_row = record { rows = a.0; names = b.0; main = c.0 };
      sizes = sym (ap is_too_large d.1) ∙ d.0;
      is = d.1;
    }

limited : (h : Keep) (all : List (External At)) (roots : List (List (External At))) → roots_elaborated h all roots ≡ too_large → IsTooLarge h roots
limited h all roots e =
    let a = limit_only (standing_of h roots).problems _ e in
    let b = defined_limit all (undefined_in h roots) _ a.1 in
    let c = limit_only (main_problems h roots) _ b.1 in
    record {
      no_row = record { rows = a.0; names = b.0; main = c.0 };
      sizes = unsized (is_too_large (whole_of h roots)) (whole_of h roots) c.1;
    }

pub answers_have_causes : AnswersHaveCauses
answers_have_causes = record { accepted = λ h all p e. accepted h all (roots_of all) p e; limited = λ h all e. limited h all (roots_of all) e }
