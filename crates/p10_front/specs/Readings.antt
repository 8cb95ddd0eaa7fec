-- What the files of a program are read as: their words, the trees that spell them, and the program that these are (C99 5.1.1.2p1,
-- phases 3 to 7).
use Rattle.std.specs.Prelude.{◌≡◌, List, Option, Some, None, Result, Ok, Err}
use Rattle.p10_base.specs.declared.at.At.{At}
use Rattle.p10_base.specs.declared.report.Limit.{Limit}
use Rattle.p10_base.specs.declared.report.Refusal.{Refusal}
use Rattle.p10_base.specs.declared.report.TheConstants.Limit.{OBJECT_BYTES}
use Rattle.p10_base.specs.Gathered.{Gathered}
use Rattle.p10_syn.specs.Spells.{Spells}
use Rattle.p10_syn.specs.Trees.{External}
use Rattle.p10_expand.specs.Expands.{Expansion, ExpandsTo}
use Rattle.p10_pexpr.specs.declared.fault.ParseFault.TheVariants.{Refused, Over}
use Rattle.p10_parse.specs.Units.{AllFit, FirstFault}
use Rattle.p10_core.specs.Typed.{PlainProgram}
use Rattle.p10_elabx.specs.declared.problem.Problem.{Problem}
use Rattle.p10_elab.specs.Answers.{refusal_of}
use Rattle.p10_elab.specs.Programs.{elaborated, program as the_program, refusal as the_problem, too_large}

-- what files expand to; the trees of their declarations and functions, unless directives, macros or the grammar refuse them; the typed
-- program, unless they are refused; and the first refusal
pub record PlainReading : Type 0 where
  pub expansion : Expansion
  pub units : Option (List (External At))
  pub program : Option PlainProgram
  pub refusal : Option Refusal

-- what an expansion is read as that is refused, or whose words no trees spell
abbrev pub refused_reading : Expansion → Refusal → PlainReading
refused_reading expansion refusal = record { expansion = expansion; units = None; program = None; refusal = Some refusal }

-- what trees are read as that are no program of the subset
abbrev pub untyped_reading : Expansion → List (External At) → Refusal → PlainReading
untyped_reading expansion trees refusal = record { expansion = expansion; units = Some trees; program = None; refusal = Some refusal }

-- what trees are read as that are a program
abbrev pub typed_reading : Expansion → List (External At) → PlainProgram → PlainReading
typed_reading expansion trees program = record { expansion = expansion; units = Some trees; program = Some program; refusal = None }

-- what the trees of expanded words are read as, or the limit that their program exceeds before a refusal
pub data Elaborates (expansion : Expansion) (trees : List (External At)) (answer : Result PlainReading Limit) : Type 0 where
  -- rows of the subset hold in the trees, and this is the first: S1 to S30
  untyped : (problem : Problem) → elaborated trees ≡ the_problem problem → answer ≡ Ok (untyped_reading expansion trees (refusal_of problem)) → Elaborates expansion trees answer
  -- something of their program is too large: M8
  oversized : elaborated trees ≡ too_large → answer ≡ Err OBJECT_BYTES → Elaborates expansion trees answer
  -- they are a typed program
  typed : (program : PlainProgram) → elaborated trees ≡ the_program program → answer ≡ Ok (typed_reading expansion trees program) → Elaborates expansion trees answer

-- what expanded words are read as, or the limit that they exceed before a refusal
pub data Parses (expansion : Expansion) (answer : Result PlainReading Limit) : Type 0 where
  -- a directive or a use of a macro is refused already: D1 to D8
  unexpanded : (refusal : Refusal) → expansion.refusal ≡ Some refusal → answer ≡ Ok (refused_reading expansion refusal) → Parses expansion answer
  -- the words of a root are nested over their limit: M5
  nested_over : (limit : Limit) → expansion.refusal ≡ None → FirstFault expansion.roots (Over limit) → answer ≡ Err limit → Parses expansion answer
  -- no trees spell the words of a root: G1
  unspelled : (refusal : Refusal) → expansion.refusal ≡ None → FirstFault expansion.roots (Refused refusal) → answer ≡ Ok (refused_reading expansion refusal) → Parses expansion answer
  -- trees spell the words of all roots, and what these are is read
  spelled : (trees : List (External At)) → expansion.refusal ≡ None → AllFit expansion.roots → Spells expansion.roots trees → Elaborates expansion trees answer → Parses expansion answer

-- what files are read as, or the limit that they exceed before a refusal
pub data Reads (g : Gathered) (answer : Result PlainReading Limit) : Type 0 where
  -- they exceed a limit of expansion: M3, M4 or M6
  expanded_over : (limit : Limit) → ExpandsTo g (Err limit) → answer ≡ Err limit → Reads g answer
  -- they expand, and what they expand to is read
  expanded : (expansion : Expansion) → ExpandsTo g (Ok expansion) → Parses expansion answer → Reads g answer

-- files are read as this, nothing refuses them, and this is their program
pub record AreReadAs (g : Gathered) (reading : PlainReading) (program : PlainProgram) : Type 0 where
  pub reads : Reads g (Ok reading)
  pub unrefused : reading.refusal ≡ None
  pub is : reading.program ≡ Some program

-- files are refused, and this is the first refusal
pub record AreRefused (g : Gathered) (refusal : Refusal) : Type 0 where
  pub reading : PlainReading
  pub reads : Reads g (Ok reading)
  pub refused : reading.refusal ≡ Some refusal
