-- How members lie, one after the other.
use Rattle.std.specs.Prelude.{◌≡◌, ℕ, ◌+◌, ◌<◌, ◌≤◌, max, Bool, false, ◌||◌, List, [], ◌∷◌, length, Option, Some, None}
use Rattle.p10_core.specs.declared.lay.Lay.{Lay}
use Rattle.p10_core.specs.Types.{PlainType, PlainMember}
use Rattle.p10_core.specs.Sizes.{Layout, aligned}
use Rattle.p10_core.specs.WholePrograms.{most_bytes}

-- how the members so far lie: the place past them, the greatest of their alignments, how many scalars they have, and whether a part of
-- them is `const`
pub record Partial : Type 0 where
  pub past : ℕ
  pub alignment : ℕ
  pub scalars : ℕ
  pub constant : Bool

-- before the first member
abbrev pub no_members : Partial
no_members = record { past = 0; alignment = 1; scalars = 0; constant = false }

-- with a member that lies so
abbrev pub with_layout : Partial → Layout → Partial
with_layout p l = record {
  past = aligned p.past l.alignment + l.bytes;
  alignment = max p.alignment l.alignment;
  scalars = p.scalars + length l.scalars;
  constant = p.constant || l.constant;
}

-- with more members
abbrev pub with_members : (PlainType → Layout) → Partial → List PlainMember → Partial
with_members layout p [] = p
with_members layout p (m ∷ rest) = with_members layout (with_layout p (layout m.type)) rest

-- what the code knows of members
abbrev pub partial_of : Lay → Partial
partial_of l = record { past = l.bytes; alignment = l.alignment; scalars = l.scalars; constant = l.has_const }

-- what is known of members is small: they are no larger than a type may be
pub record IsSmall (p : Partial) : Type 0 where
  pub bytes : p.past ≤ most_bytes
  pub filled : p.scalars ≤ p.past
  pub aligns : 1 ≤ p.alignment
  pub low : p.alignment ≤ 8

-- the members lie so, or they are larger than a type may be
abbrev pub GoesOn : Option Lay → Partial → Type 0
GoesOn None p = most_bytes < p.past
GoesOn (Some lay) p = (partial_of lay ≡ p) × IsSmall p

-- a structure lies so, and is no larger than a type may be
pub record IsLay (lay : Lay) (l : Layout) : Type 0 where
  pub bytes_are : lay.bytes ≡ l.bytes
  pub alignment_is : lay.alignment ≡ l.alignment
  pub scalars_are : lay.scalars ≡ length l.scalars
  pub constant_is : lay.has_const ≡ l.constant
  pub small : l.bytes ≤ most_bytes

-- a structure lies so, or it is larger than a type may be
abbrev pub LiesAs : Option Lay → Layout → Type 0
LiesAs None l = most_bytes < l.bytes
LiesAs (Some lay) l = IsLay lay l

-- a structure is padded to its alignment, or that makes it larger than a type may be
abbrev pub IsPadded : Option Lay → Lay → Type 0
IsPadded None l = most_bytes < aligned l.bytes l.alignment
IsPadded (Some p) l = (p ≡ record l { bytes = aligned l.bytes l.alignment }) × (aligned l.bytes l.alignment ≤ most_bytes)
