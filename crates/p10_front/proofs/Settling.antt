-- What holds of all that files are read as: a refusal can be printed, and there is a program exactly where nothing is refused.
use Rattle.std.proofs.Common.{◌≡◌, ◌≤◌, Bool, true, false, List, [], ◌∷◌, refl, sym, subst, arith, inl, inr, Option, Some, None, IfSome, Result, Ok, Err, IfOk, ◌↔◌, is_some}
use Rattle.p10_base.specs.declared.at.At.{At}
use Rattle.p10_base.specs.declared.codes.SubsetCode.{SubsetCode}
use Rattle.p10_base.specs.declared.codes.SubsetCode.TheVariants as subset
use Rattle.p10_base.specs.declared.report.Family.{Family}
use Rattle.p10_base.specs.declared.report.Refusal.{Refusal}
use Rattle.p10_base.specs.declared.report.TheConstants.Limit.{OBJECT_BYTES}
use Rattle.p10_base.specs.Codes.{IsCode, subset_number}
use Rattle.p10_base.specs.Gathered.{Gathered}
use Rattle.p10_base.specs.Words.{PlainWord}
use Rattle.p10_syn.specs.Trees.{External}
use Rattle.p10_core.specs.declared.program.Program.{Program}
use Rattle.p10_elab.specs.Answers.{refusal_of}
use Rattle.p10_expand.specs.Expands.{Expansion, ExpandsTo}
use Rattle.p10_expand.proofs.PlainAnswers.{refusal_lies}
use Rattle.p10_pexpr.specs.declared.fault.ParseFault.TheVariants as parsing
use Rattle.p10_parse.specs.Units.{FirstFault}
use Rattle.p10_front.specs.declared.fault.FrontFault.{FrontFault}
use Rattle.p10_front.specs.declared.reading.Reading.{Reading}
use Rattle.p10_front.specs.Readings.{PlainReading, refused_reading, untyped_reading, typed_reading, Elaborates, untyped, oversized, typed, Parses, unexpanded, nested_over, unspelled, spelled, Reads, expanded_over, expanded}
use Rattle.p10_front.specs.Answers.{reading_of, typed_of, CanBePrinted}
use Rattle.p10_front.proofs.Parsing.{same_reading, no_limit}

-- ## Codes

-- a refusal by the grammar is G1
syntax_prints : (roots : List (List PlainWord)) (r : Refusal) → FirstFault roots (parsing.Refused r) → CanBePrinted r
syntax_prints [] r fault = absurd fault
syntax_prints (words ∷ roots) r (inl (fits, refused)) = subst CanBePrinted (sym refused.placed) refl
syntax_prints (words ∷ roots) r (inr (fits, spell, later)) = syntax_prints roots r later

-- a refusal by a directive or a use of a macro is one of D1 to D8
directive_prints : (g : Gathered) (e : Expansion) (r : Refusal) → ExpandsTo g (Ok e) → e.refusal ≡ Some r → CanBePrinted r
directive_prints g e r expands refused =
    let (lies, family, least, greatest) = refusal_lies g e r expands refused in
    subst (λ (f : Family). IsCode f r.number) (sym family) (least, greatest)

-- a row of the subset is one of S0 to S30
subset_prints : (code : SubsetCode) → subset_number code ≤ 30
subset_prints subset.NotBuilt = omega arith
subset_prints subset.UnknownName = omega arith
subset_prints subset.OperandTypes = omega arith
subset_prints subset.FixedTarget = omega arith
subset_prints subset.TypesDiffer = omega arith
subset_prints subset.WrongArguments = omega arith
subset_prints subset.BadCallee = omega arith
subset_prints subset.NestedAssignment = omega arith
subset_prints subset.CommaOperator = omega arith
subset_prints subset.UnspecifiedOrder = omega arith
subset_prints subset.BadCast = omega arith
subset_prints subset.BadAllocation = omega arith
subset_prints subset.UnknownMember = omega arith
subset_prints subset.NotConstant = omega arith
subset_prints subset.VoidValue = omega arith
subset_prints subset.StructurePassed = omega arith
subset_prints subset.NoSize = omega arith
subset_prints subset.NoAddress = omega arith
subset_prints subset.ConstantStops = omega arith
subset_prints subset.FloatingType = omega arith
subset_prints subset.UnionOrBitField = omega arith
subset_prints subset.BadLength = omega arith
subset_prints subset.BadSpecifier = omega arith
subset_prints subset.NoPrototype = omega arith
subset_prints subset.BadPointer = omega arith
subset_prints subset.IncompleteType = omega arith
subset_prints subset.DefinedTwice = omega arith
subset_prints subset.NotDefined = omega arith
subset_prints subset.BadMain = omega arith
subset_prints subset.BadJump = omega arith
subset_prints subset.MisplacedPragma = omega arith

-- ## Answers

-- what holds of a reading: what it has, and what it lacks
record IsSettled (reading : PlainReading) : Type 0 where
  prints : IfSome reading.refusal CanBePrinted
  program : is_some reading.program ≡ true ↔ is_some reading.refusal ≡ false

elaborated_settles : (e : Expansion) (trees : List (External At)) (reading : PlainReading) → Elaborates e trees (Ok reading) → IsSettled reading
elaborated_settles e trees reading (untyped problem is same) =
    subst IsSettled (sym (same_reading reading (untyped_reading e trees (refusal_of problem)) same)) (record { prints = subset_prints problem.code; program = (λ h. sym h, λ h. sym h) })
elaborated_settles e trees reading (oversized is same) = absurd (no_limit reading OBJECT_BYTES same)
elaborated_settles e trees reading (typed p is same) =
    subst IsSettled (sym (same_reading reading (typed_reading e trees p) same)) (record { prints = tt; program = (λ _. refl, λ _. refl) })

parsed_settles : (g : Gathered) (e : Expansion) (reading : PlainReading) → ExpandsTo g (Ok e) → Parses e (Ok reading) → IsSettled reading
parsed_settles g e reading expands (unexpanded r some is) =
    subst IsSettled (sym (same_reading reading (refused_reading e r) is)) (record { prints = directive_prints g e r expands some; program = (λ h. sym h, λ h. sym h) })
parsed_settles g e reading expands (nested_over l none fault is) = absurd (no_limit reading l is)
parsed_settles g e reading expands (unspelled r none fault is) =
    subst IsSettled (sym (same_reading reading (refused_reading e r) is)) (record { prints = syntax_prints e.roots r fault; program = (λ h. sym h, λ h. sym h) })
parsed_settles g e reading expands (spelled trees none fit spell elaborates) = elaborated_settles e trees reading elaborates

read_settles : (g : Gathered) (reading : PlainReading) → Reads g (Ok reading) → IsSettled reading
read_settles g reading (expanded_over l over is) = absurd (no_limit reading l is)
read_settles g reading (expanded e expands parses) = parsed_settles g e reading expands parses

-- ## What the code gives

pub refusal_prints : (g : Gathered) (r : Result Reading FrontFault) → IfOk r (λ reading. Reads g (Ok (reading_of reading))) → IfOk r (λ reading. IfSome reading.refusal CanBePrinted)
refusal_prints g (Ok reading) reads = (read_settles g (reading_of reading) reads).prints
refusal_prints g (Err fault) reads = tt

there_as_plain : (o : Option Program) → is_some (typed_of o) ≡ is_some o
there_as_plain None = refl
there_as_plain (Some p) = refl

pub program_there : (g : Gathered) (r : Result Reading FrontFault) → IfOk r (λ reading. Reads g (Ok (reading_of reading))) → IfOk r (λ reading. is_some reading.program ≡ true ↔ is_some reading.refusal ≡ false)
program_there g (Ok reading) reads =
    subst (λ (b : Bool). b ≡ true ↔ is_some reading.refusal ≡ false) (there_as_plain reading.program) (read_settles g (reading_of reading) reads).program
program_there g (Err fault) reads = tt
