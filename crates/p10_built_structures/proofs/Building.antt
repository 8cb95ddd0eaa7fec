-- Structures that are built stay so over each step.
use Rattle.std.proofs.Common.{◌≡◌, ℕ, true, List, Some, nat_le}
use Rattle.std.proofs.lemmas.Bool.{leb-true}
use Rattle.p10_core.specs.Types.{PlainMember, PlainStructure}
use Rattle.p10_core.specs.WholePrograms.{most_bytes}
use Rattle.p10_core.specs.Completing.{AreBuilt, member_layout, completed, takes_members}
use Rattle.p10_core.proofs.Completing.{one_more_is_built, completed_are_built}
use Rattle.p10_core.proofs.MemberLayouts.{may_by_test}
use Rattle.p10_elabx.specs.First.{Keep}
use Rattle.p10_elabd.specs.Standing.{PlainStanding}
use Rattle.p10_elabd.specs.Declaring.{begun_with}
use Rattle.p10_declaration_steps.proofs.Each.{AreSteps}
use Rattle.p10_root_steps.proofs.Each.{AreRootSteps}

-- where structures are built, others are
pub record BuildsIn (ss ts : List PlainStructure) : Type 0 where
  pub built : AreBuilt ss → AreBuilt ts

abbrev pub Builds : PlainStanding → PlainStanding → Type 0
Builds s t = BuildsIn s.scope.structures t.scope.structures

as_before : (s : PlainStanding) → Builds s s
as_before s = record { built = λ w. w }

builds_on : {ss ts us : List PlainStructure} → BuildsIn ss ts → BuildsIn ts us → BuildsIn ss us
builds_on a b = record { built = λ w. b.built (a.built w) }

-- members that may complete a structure, where they make it no larger than a type may be
members_built : (ss : List PlainStructure) (n : ℕ) (members : List PlainMember) → takes_members ss n members ≡ true → nat_le (member_layout ss members).bytes most_bytes ≡ true → BuildsIn ss (completed ss n members)
members_built ss n members takes small = record { built = λ w. completed_are_built ss n members w (may_by_test ss n members takes) (leb-true _ _ small) }

building : (h : Keep) → AreSteps h Builds
building h = record {
  same = as_before;
  followed = λ s t u a b. builds_on a b;
  told = λ rs s. as_before s;
  name_more = λ name what s m. as_before s;
  tag_more = λ name what s m. as_before s;
  structure_more = λ tag s. record { built = one_more_is_built s.scope.structures tag };
  structure_tagged = λ name s. record { built = one_more_is_built s.scope.structures (Some name) };
  bodies_open = λ numbers s. as_before s;
  members_taken = λ word tag s t members begun inside takes small. builds_on begun (builds_on inside (members_built t.scope.structures (begun_with h word tag s).number members takes small));
  block_closed = λ s t inside. inside;
}

pub building_outside : (h : Keep) → AreRootSteps h Builds
building_outside h = record { parts = building h; names_changed = λ names tags floors evaluated s. as_before s }
