-- The structures of the program that roots come to, and what is known by them.
use Rattle.std.specs.Prelude.{◌≡◌, ◌≤◌, List, All, map, length, sum}
use Rattle.p10_base.specs.declared.at.At.{At}
use Rattle.p10_base.specs.declared.report.TheConstants.Limit.{MOST_OBJECT_BYTES, MOST_STATIC_BYTES}
use Rattle.p10_syn.specs.Trees.{External}
use Rattle.p10_core.specs.Types.{PlainType, PlainStructure}
use Rattle.p10_core.specs.Sizes.{size_of}
use Rattle.p10_core.specs.Typed.{PlainProgram}
use Rattle.p10_core.specs.Whole.{Surroundings}
use Rattle.p10_core.specs.WholePrograms.{AreWholeStructures, IsWholeType, frame_bytes}
use Rattle.p10_elabx.specs.First.{Keep}
use Rattle.p10_heads.specs.Heads.{Heads}
use Rattle.p10_elab.specs.Knowledge.{Known}
use Rattle.p10_elab.specs.RootEnds.{roots_passed}
use Rattle.p10_elab.specs.Laws.{IsAccepted}
use Rattle.p10_elab.specs.Programs.{known_of, whole_of}
use Rattle.p10_wholeness.specs.Names.{IsWholeScope, KeepScope}
use Rattle.p10_wholeness.specs.Knowing.{KnowMore}

-- they are whole, whether or not a row holds in the roots
abbrev pub StructuresAreWhole : Type 0
StructuresAreWhole = (h : Keep) (roots : List (List (External At))) → AreWholeStructures (whole_of h roots).structures

-- the structures at the end of the last root
abbrev pub structures_of : Keep → List (List (External At)) → List PlainStructure
structures_of h roots = (known_of h roots).standing.scope.structures

-- where the roots are taken together, all is known that was at the end of the last one, types of C are such, and their sizes are the same
pub record RootsAreKnown : Type 0 where
  pub known : (h : Keep) (roots : List (List (External At))) (c : Surroundings) →
      KnowMore (record c { structures = structures_of h roots }) (record c { structures = (whole_of h roots).structures })
  pub types : (h : Keep) (roots : List (List (External At))) (t : PlainType) → IsWholeType (structures_of h roots) t → IsWholeType (whole_of h roots).structures t
  pub sizes : (h : Keep) (roots : List (List (External At))) (t : PlainType) → size_of (whole_of h roots).structures t ≡ size_of (structures_of h roots) t

-- what a program has is no larger than limit M8 allows
pub record IsWithinLimits (p : PlainProgram) : Type 0 where
  pub static_bytes : sum (map (λ o. o.bytes) p.objects) ≤ MOST_STATIC_BYTES
  pub objects : All (λ o. o.bytes ≤ MOST_OBJECT_BYTES) p.objects
  pub frames : All (λ f. frame_bytes f ≤ MOST_OBJECT_BYTES) p.functions
  pub literals : All (λ l. length l.bytes ≤ MOST_OBJECT_BYTES) p.literals

-- a program that is answered has whole structures, and is within limits
pub record AnswersAreWholeInPart : Type 0 where
  pub structures : (h : Keep) (roots : List (List (External At))) (p : PlainProgram) → IsAccepted h roots p → AreWholeStructures p.structures
  pub limits : (h : Keep) (roots : List (List (External At))) (p : PlainProgram) → IsAccepted h roots p → IsWithinLimits p

-- what names and tags stand for stays whole over the roots, one after the other, and is so at the end of the last one
pub record ScopesOfRootsAreWhole : Type 0 where
  pub over : (h : Keep) (heads : Heads) (k : Known) (roots : List (List (External At))) → KeepScope k.standing.scope (roots_passed h heads k roots).standing.scope
  pub at_end : (h : Keep) (roots : List (List (External At))) → IsWholeScope (known_of h roots).standing.scope
