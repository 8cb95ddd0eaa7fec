-- What holds of what trees come to.
use Rattle.std.specs.Prelude.{◌≡◌, true, false, List, [], ◌∷◌, None, length, ◌++◌}
use Rattle.std.specs.List.{Contains}
use Rattle.p10_base.specs.declared.codes.SubsetCode.TheVariants as subset
use Rattle.p10_base.specs.declared.at.At.{At}
use Rattle.p10_syn.specs.Trees.{External}
use Rattle.p10_core.specs.Typed.{PlainProgram}
use Rattle.p10_elabx.specs.declared.problem.Problem.{Problem}
use Rattle.p10_elabx.specs.First.{Keep, Among, IsFirst, every}
use Rattle.p10_elabd.specs.Standing.{PlainStanding}
use Rattle.p10_elabd.specs.Shapes.{PlainParameter, ListedParameter}
use Rattle.p10_heads.specs.Heads.{heads_of_roots}
use Rattle.p10_heads.specs.Roots.{begins_root, roots_of}
use Rattle.p10_program.specs.Limits.{is_too_large}
use Rattle.p10_program.specs.Mains.{calls_of_main, missing_main}
use Rattle.p10_program.specs.ProgramNodes.{nodes_of_program}
use Rattle.p10_program.specs.Undefined.{undefined_among}
use Rattle.p10_elab.specs.Outer.{names_noted, listed_names_noted}
use Rattle.p10_elab.specs.Programs.{Elaborated, program, refusal, too_large, unless_problem, roots_elaborated, known_of, standing_of, whole_of, main_among}

-- of problems the first is answered: it is one of them, and none is before it
abbrev pub TheFirstIsAnswered : Type 0
TheFirstIsAnswered =
    (r : Problem) (rest : List Problem) (other : Elaborated) →
    (q : Problem) × (unless_problem (r ∷ rest) other ≡ refusal q) × IsFirst q (r ∷ rest)

-- the uses in roots of names that aren't defined
abbrev pub undefined_in : Keep → List (List (External At)) → List Problem
undefined_in h roots =
    undefined_among (length (known_of h roots).functions) (length (heads_of_roots 0 roots).objects) (nodes_of_program (whole_of h roots))

-- what is wrong with `main` in roots
abbrev pub main_problems : Keep → List (List (External At)) → List Problem
main_problems h roots =
    missing_main (main_among (known_of h roots).functions)
    ((known_of h roots).mains ++ calls_of_main (main_among (known_of h roots).functions) (nodes_of_program (whole_of h roots)))

-- declarations and functions that don't begin a root
abbrev pub AreInside : List (External At) → Type 0
AreInside [] = Unit {0}
AreInside (e ∷ rest) = (begins_root e ≡ false) × AreInside rest

-- a root: its first declaration or function begins it, and no other does
abbrev pub IsRoot : List (External At) → Type 0
IsRoot [] = ⊥
IsRoot (e ∷ rest) = (begins_root e ≡ true) × AreInside rest

-- no row holds in roots
pub record NoRowHolds (h : Keep) (roots : List (List (External At))) : Type 0 where
  pub rows : (standing_of h roots).problems ≡ []
  pub names : undefined_in h roots ≡ []
  pub main : main_problems h roots ≡ []

-- a program is answered where no row holds and nothing is too large
pub record IsAccepted (h : Keep) (roots : List (List (External At))) (p : PlainProgram) : Type 0 where
  pub no_row : NoRowHolds h roots
  pub sizes : is_too_large p ≡ false
  pub is : whole_of h roots ≡ p

-- a limit is answered where no row holds and something is too large
pub record IsTooLarge (h : Keep) (roots : List (List (External At))) : Type 0 where
  pub no_row : NoRowHolds h roots
  pub sizes : is_too_large (whole_of h roots) ≡ true

-- programs are answered only where no row holds, and so is limit M8, under each way to keep problems
pub record AnswersHaveCauses : Type 0 where
  pub accepted : (h : Keep) (all : List (External At)) (p : PlainProgram) → roots_elaborated h all (roots_of all) ≡ program p → IsAccepted h (roots_of all) p
  pub limited : (h : Keep) (all : List (External At)) → roots_elaborated h all (roots_of all) ≡ too_large → IsTooLarge h (roots_of all)

-- roots, one after the other
abbrev pub all_of : List (List (External At)) → List (External At)
all_of [] = []
all_of (root ∷ rest) = root ++ all_of rest

-- lists that are roots
abbrev pub AreRoots : List (List (External At)) → Type 0
AreRoots [] = Unit {0}
AreRoots (root ∷ rest) = IsRoot root × AreRoots rest

-- roots that follow one another are cut where they were joined
abbrev pub RootsAreFound : Type 0
RootsAreFound = (roots : List (List (External At))) → AreRoots roots → roots_of (all_of roots) ≡ roots

-- each parameter without a name of a function with a body is told, also where another part of the function is refused (C99 6.9.1p5)
pub record NamelessParametersAreTold : Type 0 where
  pub typed : (all : List PlainParameter) (p : PlainParameter) (s : PlainStanding) → Contains all p → p.name ≡ None →
      Among (record { code = subset.NoPrototype; at = p.at }) (names_noted every all s).problems
  pub refused : (all : List ListedParameter) (p : ListedParameter) (s : PlainStanding) → Contains all p → p.name ≡ None →
      Among (record { code = subset.NoPrototype; at = p.at }) (listed_names_noted every all s).problems
