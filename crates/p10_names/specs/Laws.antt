-- What holds of the names of programs that are read.
use Rattle.std.specs.Prelude.{◌≡◌, List, Ok}
use Rattle.std.specs.List.{AllByRecursion}
use Rattle.p10_base.specs.declared.at.At.{At}
use Rattle.p10_base.specs.Gathered.{Gathered}
use Rattle.p10_syn.specs.Spells.{Spells}
use Rattle.p10_syn.specs.Trees.{External}
use Rattle.p10_core.specs.Typed.{PlainProgram}
use Rattle.p10_core.specs.WholePrograms.{IsWholeProgram}
use Rattle.p10_cert.specs.Claims.{Claims}
use Rattle.p10_cert.specs.Certificate.{IsCertificate}
use Rattle.p10_expand.specs.Expands.{Expansion, ExpandsTo}
use Rattle.p10_elab.specs.Programs.{elaborated, program as the_program}
use Rattle.p10_front.specs.Readings.{PlainReading, AreReadAs}
use Rattle.p10_approach.specs.Offers.{Offers, AreOffers}
use Rattle.p10_finder.specs.Answers.{IsCertified}
use Rattle.p10_derived_texts.specs.Naming.{AreNamed}
use Rattle.p10_names.specs.Defining.{HasName}

-- where trees spell the words of the roots to which files expand, each function among them is defined by a name of C
abbrev pub DefinitionsHaveNames : Type 0
DefinitionsHaveNames = (g : Gathered) (expansion : Expansion) (trees : List (External At)) → ExpandsTo g (Ok expansion) → Spells expansion.roots trees → AllByRecursion HasName trees

-- files expand to words that trees spell, and these are a typed program
pub record IsProgramOf (g : Gathered) (p : PlainProgram) : Type 0 where
  pub expansion : Expansion
  pub trees : List (External At)
  pub expands : ExpandsTo g (Ok expansion)
  pub spells : Spells expansion.roots trees
  pub typed : elaborated trees ≡ the_program p

-- what files are read as is such a program
abbrev pub ReadingsArePrograms : Type 0
ReadingsArePrograms = (g : Gathered) (reading : PlainReading) (p : PlainProgram) → AreReadAs g reading p → IsProgramOf g p

-- the functions of such a program have names of C, and the one where it begins is called `main`
abbrev pub ProgramsAreNamed : Type 0
ProgramsAreNamed = (g : Gathered) (p : PlainProgram) → IsProgramOf g p → AreNamed p

-- so what is derived of one that is whole has a text, whatever is offered
abbrev pub DerivedCertificatesOfFilesHaveText : Type 0
DerivedCertificatesOfFilesHaveText = (o : Offers) → AreOffers o → (g : Gathered) (p : PlainProgram) → IsProgramOf g p → IsWholeProgram p → (c : Claims) → IsCertified o p c → IsCertificate c
