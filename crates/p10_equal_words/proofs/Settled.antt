-- What is known of the trees that come to a program.
use Rattle.std.proofs.Common.{◌≡◌, ℕ, Bool, true, false, if◌then◌else◌, List, [], ◌∷◌, ◌++◌, length, Option, refl, sym, ap}
use Rattle.p10_base.specs.declared.at.At.{At}
use Rattle.p10_syn.specs.Trees.{External}
use Rattle.p10_core.specs.Typed.{PlainProgram}
use Rattle.p10_elabx.specs.declared.problem.Problem.{Problem}
use Rattle.p10_elabx.specs.First.{Keep}
use Rattle.p10_elabd.specs.Standing.{PlainStanding}
use Rattle.p10_heads.specs.Heads.{heads_of_roots}
use Rattle.p10_program.specs.Limits.{is_too_large}
use Rattle.p10_program.specs.Mains.{calls_of_main, missing_main}
use Rattle.p10_program.specs.ProgramNodes.{nodes_of_program}
use Rattle.p10_program.specs.Undefined.{undefined_among}
use Rattle.p10_elab.specs.Knowledge.{Known}
use Rattle.p10_elab.specs.Programs.{Elaborated, program, refusal, too_large, unless_problem, unless_undefined, within_sizes, names_settled, main_among, program_of, settled, known_of, standing_of, whole_of, roots_elaborated}

program_is : (x p : PlainProgram) → program x ≡ program p → x ≡ p
program_is x p e = ap from e
  where
    from : Elaborated → PlainProgram
    from (program z) = z
    from (refusal r) = x
    from too_large = x

problems_none : (rs : List Problem) (e : Elaborated) (p : PlainProgram) → unless_problem rs e ≡ program p → (rs ≡ []) × (e ≡ program p)
problems_none [] e p h = (refl, h)
problems_none (r ∷ rest) e p h = absurd cc

undefined_none : (all : List (External At)) (rs : List Problem) (e : Elaborated) (p : PlainProgram) → unless_undefined all rs e ≡ program p → e ≡ program p
undefined_none all [] e p h = h
undefined_none all (r ∷ rest) e p h = absurd cc

sized : (b : Bool) (x p : PlainProgram) → (if b then too_large else program x) ≡ program p → x ≡ p
sized true x p h = absurd cc
sized false x p h = program_is x p h

-- no row holds, and the program is that of what is known
pub record IsSettled (s : PlainStanding) (x p : PlainProgram) : Type 0 where
  pub quiet : s.problems ≡ []
  pub is : p ≡ x

settled_is : (all : List (External At)) (count : ℕ) (s : PlainStanding) (k : Known) (p : PlainProgram) → settled all count s k ≡ program p → IsSettled s (program_of count s k) p
settled_is all count s k p e =
    let x : PlainProgram = program_of count s k in
    let main : Option ℕ = main_among k.functions in
    let mains : List Problem = missing_main main (k.mains ++ calls_of_main main (nodes_of_program x)) in
    let first : (s.problems ≡ []) × (names_settled all (length k.functions) count main k.mains x ≡ program p) = problems_none s.problems (names_settled all (length k.functions) count main k.mains x) p e in
    let second : unless_problem mains (within_sizes x) ≡ program p = undefined_none all (undefined_among (length k.functions) count (nodes_of_program x)) (unless_problem mains (within_sizes x)) p first.1 in
    record { quiet = first.0; is = sym (sized (is_too_large x) x p (problems_none mains (within_sizes x) p second).1) }

-- so it is where roots come to it
pub roots_settled : (h : Keep) (all : List (External At)) (roots : List (List (External At))) (p : PlainProgram) → roots_elaborated h all roots ≡ program p → IsSettled (standing_of h roots) (whole_of h roots) p
roots_settled h all roots p e = settled_is all (length (heads_of_roots 0 roots).objects) (standing_of h roots) (known_of h roots) p e
