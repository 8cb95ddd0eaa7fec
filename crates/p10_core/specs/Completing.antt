-- Structures that are declared, and completed by their members (C99 6.7.2.1, 6.7.2.3).
use Rattle.std.specs.Prelude.{◌≡◌, ℕ, zero, suc, ◌+◌, cond, ◌<◌, ◌≤◌, nat_eq, nat_lt, nat_le, Bool, true, false, not, ◌&&◌, List, [], ◌∷◌, ◌++◌, length, All, Option, Some, None, is_some, slice_get}
use Rattle.p10_base.specs.Words.{Text}
use Rattle.p10_core.specs.Types.{PlainType, void, integer, pointer, array, structure, PlainMember, PlainBody, PlainStructure, body_of, representative_of}
use Rattle.p10_core.specs.Sizes.{Layout, layout_of_members, layout_of, size_of}
use Rattle.p10_core.specs.Rows.{is_void, is_complete}
use Rattle.p10_core.specs.WholePrograms.{most_bytes, IsObjectType, AreWholeStructures}

-- a structure that isn't complete, with its own number: it stands for itself
abbrev pub incomplete_structure : ℕ → Option Text → PlainStructure
incomplete_structure n tag = record { tag = tag; body = None; representative = n }

-- the structures with one more, which isn't complete (C99 6.7.2.3p7, p8)
abbrev pub with_structure : List PlainStructure → Option Text → List PlainStructure
with_structure structures tag = structures ++ incomplete_structure (length structures) tag ∷ []

-- how many of the structures are complete
abbrev pub complete_count : List PlainStructure → ℕ
complete_count [] = 0
complete_count (s ∷ rest) = cond (is_some s.body) 1 0 + complete_count rest

-- how members lie in a structure
abbrev pub member_layout : List PlainStructure → List PlainMember → Layout
member_layout structures members = layout_of_members (layout_of structures) members

-- the body with these members, after `order` others
abbrev pub body_with : List PlainStructure → ℕ → List PlainMember → PlainBody
body_with structures order members = record {
  members = members;
  order = order;
  bytes = (member_layout structures members).bytes;
  alignment = (member_layout structures members).alignment;
  scalars = length (member_layout structures members).scalars;
  constant = (member_layout structures members).constant;
}

-- the structures, of which the one with a number has this body
abbrev pub with_body : List PlainStructure → ℕ → PlainBody → List PlainStructure
with_body [] n b = []
with_body (s ∷ rest) zero b = record s { body = Some b } ∷ rest
with_body (s ∷ rest) (suc n) b = s ∷ with_body rest n b

-- the structures, of which the one with a number is completed by these members
abbrev pub completed : List PlainStructure → ℕ → List PlainMember → List PlainStructure
completed structures n members = with_body structures n (body_with structures (complete_count structures) members)

-- each body was completed after fewer others than there are
pub record AreCounted (structures : List PlainStructure) : Type 0 where
  pub below : (n : ℕ) (b : PlainBody) → body_of structures n ≡ Some b → b.order < complete_count structures

-- structures that are whole, and whose bodies are counted
pub record AreBuilt (structures : List PlainStructure) : Type 0 where
  pub whole : AreWholeStructures structures
  pub counted : AreCounted structures

-- the members may complete the structure with a number: it isn't complete and stands for itself, there is a member, and each
-- has a type with a size (C99 6.7.2.1p2, p7)
pub record MayComplete (structures : List PlainStructure) (n : ℕ) (members : List PlainMember) : Type 0 where
  pub there : n < length structures
  pub incomplete : body_of structures n ≡ None
  pub own : representative_of structures n ≡ n
  pub some : 1 ≤ length members
  pub objects : All (λ m. IsObjectType structures m.type) members

-- ## As tests

-- whether a type is one of C, over the structures that are there
abbrev pub is_whole_type : List PlainStructure → PlainType → Bool
is_whole_type structures (void c) = true
is_whole_type structures (integer c i) = true
is_whole_type structures (pointer c t) = not (is_void t) && is_whole_type structures t
is_whole_type structures (array c t n) =
    (is_complete structures t && is_whole_type structures t) && (nat_le 1 n && nat_le (size_of structures (array c t n)) most_bytes)
is_whole_type structures (structure c n) = nat_lt n (length structures)

-- whether a type is one of objects
abbrev pub is_object_type : List PlainStructure → PlainType → Bool
is_object_type structures t = is_complete structures t && is_whole_type structures t

-- whether each member has a type with a size
abbrev pub are_objects : List PlainStructure → List PlainMember → Bool
are_objects structures [] = true
are_objects structures (m ∷ rest) = is_object_type structures m.type && are_objects structures rest

-- whether a structure with a number isn't complete, and stands for itself
abbrev pub is_open_in : ℕ → Option PlainStructure → Bool
is_open_in n None = false
is_open_in n (Some s) = not (is_some s.body) && nat_eq s.representative n

-- whether the members may complete the structure with a number
abbrev pub takes_members : List PlainStructure → ℕ → List PlainMember → Bool
takes_members structures n members = (is_open_in n (slice_get structures n) && nat_lt 0 (length members)) && are_objects structures members

-- ## What holds of them

-- none are built
abbrev pub NoneAreBuilt : Type 0
NoneAreBuilt = AreBuilt []

-- one more structure leaves them built
abbrev pub OneMoreIsBuilt : Type 0
OneMoreIsBuilt = (structures : List PlainStructure) (tag : Option Text) → AreBuilt structures → AreBuilt (with_structure structures tag)

-- members that make no structure larger than a type may be complete it, and leave them built
abbrev pub CompletedAreBuilt : Type 0
CompletedAreBuilt =
    (structures : List PlainStructure) (n : ℕ) (members : List PlainMember) → AreBuilt structures → MayComplete structures n members →
    (member_layout structures members).bytes ≤ most_bytes → AreBuilt (completed structures n members)
