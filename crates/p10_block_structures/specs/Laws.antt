-- Blocks leave the structures round them as they were.
use Rattle.std.specs.Prelude.{◌≡◌, ℕ, ◌<◌, ◌≤◌, Bool, List, [], ◌∷◌, ◌++◌, length, slice_get}
use Rattle.p10_base.specs.declared.at.At.{At}
use Rattle.p10_syn.specs.Trees.{Statements}
use Rattle.p10_core.specs.Types.{structure, PlainStructure}
use Rattle.p10_elabx.specs.First.{Keep}
use Rattle.p10_elabx.specs.Scopes.{Meaning, tagged_type, Binding, PlainScope, last_floor}
use Rattle.p10_elabs.specs.declared.round.Round.{Round}
use Rattle.p10_elabs.specs.Locals.{Frame, Local}
use Rattle.p10_elabs.specs.Statements.{no_items_yet, items_done}

-- a tag that stands for a structure stands for one with a number from the start on
abbrev pub IsNewTag : ℕ → Meaning → Type 0
IsNewTag start (tagged_type (structure c n)) = start ≤ n
IsNewTag start what = Unit {0}

abbrev pub AreNewTags : ℕ → List Binding → Type 0
AreNewTags start [] = Unit {0}
AreNewTags start (b ∷ rest) = IsNewTag start b.what × AreNewTags start rest

-- in the innermost block, which begins after some tags, none stands for a structure before the start; and the structures before the start
-- are those of a table
pub record IsInside (old : List Binding) (start : ℕ) (table : List PlainStructure) (s : PlainScope) : Type 0 where
  pub new : List Binding
  pub tags : s.tags ≡ old ++ new
  pub fresh : AreNewTags start new
  pub innermost : length old ≤ (last_floor s.floors).1
  pub enough : start ≤ length s.structures
  pub kept : (n : ℕ) → n < start → slice_get s.structures n ≡ slice_get table n

-- whatever is declared in a body that begins so, the structures before the start are as they were
abbrev pub BodiesLeaveStructures : Type 0
BodiesLeaveStructures =
    (h : Keep) (f : Frame) (in_main : Bool) (r : Round) (l : Local) (all : Statements At) (old : List Binding) (start : ℕ) → IsInside old start l.standing.scope.structures l.standing.scope
    → (n : ℕ) → n < start → slice_get (items_done h f in_main r (no_items_yet l) all).after.standing.scope.structures n ≡ slice_get l.standing.scope.structures n
