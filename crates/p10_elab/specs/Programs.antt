-- The typed program of trees, or the first row of the subset that holds in them, or limit M8.
use Rattle.std.specs.Prelude.{ℕ, if◌then◌else◌, List, [], ◌∷◌, ◌++◌, length, Option, None}
use Rattle.std.specs.List.{position_from}
use Rattle.p10_base.specs.declared.at.At.{At}
use Rattle.p10_core.specs.declared.program.Extent.{Extent}
use Rattle.p10_syn.specs.Trees.{External}
use Rattle.p10_core.specs.Sizes.{size_of}
use Rattle.p10_core.specs.Types.{PlainStructure}
use Rattle.p10_core.specs.Typed.{PlainFunction, PlainObject, PlainProgram}
use Rattle.p10_elabx.specs.declared.problem.Problem.{Problem}
use Rattle.p10_elabx.specs.First.{Keep, only_first}
use Rattle.p10_elabd.specs.Standing.{PlainStanding}
use Rattle.p10_heads.specs.Heads.{heads_of_roots}
use Rattle.p10_heads.specs.Roots.{roots_of}
use Rattle.p10_linkage.specs.Linkage.{is_main_name}
use Rattle.p10_linkage.specs.Between.{taken_together}
use Rattle.p10_program.specs.Assembly.{program_with}
use Rattle.p10_program.specs.FirstProblems.{first_of}
use Rattle.p10_program.specs.Limits.{is_too_large}
use Rattle.p10_program.specs.Mains.{calls_of_main, missing_main}
use Rattle.p10_program.specs.Numbered.{visible_at, objects_from}
use Rattle.p10_program.specs.ProgramNodes.{nodes_of_program}
use Rattle.p10_program.specs.Undefined.{undefined_among}
use Rattle.p10_elab.specs.Knowledge.{Defined, Known}
use Rattle.p10_elab.specs.RootEnds.{nothing_known, roots_passed}
use Rattle.p10_elab.specs.UseWords.{use_at_word}

-- ## The program

-- an object that is defined outside of functions, where the structures are known and the functions at which it is in scope
abbrev pub object_with : List PlainStructure → List Extent → Defined → PlainObject
object_with structures visible d = record {
  name = d.name.name;
  type = d.type;
  bytes = size_of structures d.type;
  span = d.name.place.span;
  initializer = d.initializer;
  owner = None;
  sensor = d.sensor;
  visible = visible;
}

-- objects with their numbers
abbrev pub numbered_objects : List PlainStructure → List (ℕ × Extent) → List Defined → List (ℕ × PlainObject)
numbered_objects structures visible [] = []
numbered_objects structures visible (d ∷ rest) =
    (d.number, object_with structures (visible_at d.number visible) d) ∷ numbered_objects structures visible rest

-- the number of `main` among functions
abbrev pub main_among : List PlainFunction → Option ℕ
main_among functions = position_from (λ f. is_main_name f.name) 0 functions

-- the program of what is known, where `count` objects are defined
abbrev pub program_of : ℕ → PlainStanding → Known → PlainProgram
program_of count s k =
    program_with s.scope.structures (objects_from 0 count (k.block_objects ++ numbered_objects s.scope.structures k.visible k.objects)) k.functions (main_among k.functions) k.outside

-- ## The answer

-- what trees come to: a typed program; the first row that holds, at its tree; or limit M8
pub data Elaborated : Type 0 where
  program : PlainProgram → Elaborated
  refusal : Problem → Elaborated
  too_large : Elaborated

-- the first problem, or what comes where there is none
abbrev pub unless_problem : List Problem → Elaborated → Elaborated
unless_problem [] other = other
unless_problem (r ∷ rest) other = refusal (first_of r rest)

-- the first use of what isn't defined, at its word in the trees, or what comes where there is none
abbrev pub unless_undefined : List (External At) → List Problem → Elaborated → Elaborated
unless_undefined all [] other = other
unless_undefined all (r ∷ rest) other = refusal (use_at_word all (first_of r rest))

-- what a program comes to whose names are checked
abbrev pub within_sizes : PlainProgram → Elaborated
within_sizes p = if is_too_large p then too_large else program p

-- what a program comes to in whose declarations no row holds, by how many functions and objects are defined, the number of `main` and
-- what is wrong with its declarations: the first use of what isn't defined; then the first problem of `main`; then limit M8; else the
-- program
abbrev pub names_settled : List (External At) → ℕ → ℕ → Option ℕ → List Problem → PlainProgram → Elaborated
names_settled all functions objects main mains p =
    unless_undefined all (undefined_among functions objects (nodes_of_program p))
    (unless_problem (missing_main main (mains ++ calls_of_main main (nodes_of_program p)))
    (within_sizes p))

-- what comes of all that is known of the roots, where `count` objects are defined: the first of the rows S1 to S26, S29 and S30 that
-- hold; else what its program comes to
abbrev pub settled : List (External At) → ℕ → PlainStanding → Known → Elaborated
settled all count s k = unless_problem s.problems (names_settled all (length k.functions) count (main_among k.functions) k.mains (program_of count s k))

-- what is known of the roots, under some way to keep problems
unfoldable pub known_of : Keep → List (List (External At)) → Known
known_of h roots = roots_passed h (heads_of_roots 0 roots) nothing_known roots

-- what stands where the roots are taken together
abbrev pub standing_of : Keep → List (List (External At)) → PlainStanding
standing_of h roots = let k : Known = known_of h roots in taken_together h (heads_of_roots 0 roots) k.linked k.standing

-- the program that the roots have where no row holds
abbrev pub whole_of : Keep → List (List (External At)) → PlainProgram
whole_of h roots = program_of (length (heads_of_roots 0 roots).objects) (standing_of h roots) (known_of h roots)

-- what trees come to, with the roots that they are of
abbrev pub roots_elaborated : Keep → List (External At) → List (List (External At)) → Elaborated
roots_elaborated h all roots = settled all (length (heads_of_roots 0 roots).objects) (standing_of h roots) (known_of h roots)

-- what the declarations and functions of all roots come to, where of the rows that hold in a part only the first is kept
abbrev pub elaborated : List (External At) → Elaborated
elaborated all = roots_elaborated only_first all (roots_of all)
