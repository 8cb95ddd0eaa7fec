-- Structures and enumerations with bodies and without, by the rows of their bodies.
use Rattle.std.specs.Prelude.{◌≡◌, ℕ, ◌<◌, Bool, List, [], ◌∷◌, Option, Some, None, map, length, refl}
use Rattle.std.proofs.Common.{ap, sym, ◌∙◌, arith}
use Rattle.p10_base.specs.declared.at.At.{At}
use Rattle.p10_syn.specs.declared.sign.Sign.{Sign}
use Rattle.p10_syn.specs.declared.tree.Member.{Member}
use Rattle.p10_syn.specs.declared.tree.Enumerator.{Enumerator}
use Rattle.p10_syn.specs.Trees.{Identifier, MoreMembers, member_row, MoreEnumerators, enumerator_row}
use Rattle.p10_syn.specs.Built.{member_of, enumerator_of}
use Rattle.p10_core.specs.Types.{PlainType, PlainMember}
use Rattle.p10_core.specs.Rows.{int_type}
use Rattle.p10_elabx.specs.First.{only_first}
use Rattle.p10_elabd.specs.Standing.{PlainStanding, Passed, passed}
use Rattle.p10_elabd.specs.Tagged.{Begun, ended, structure_made, enumeration_begun, with_enumeration}
use Rattle.p10_elabd.specs.Declaring.{unless_union, tag_passed, begun_with, members_passed, member_passed, structure_passed, enumeration_by_name, first_constant, enumerators_passed, enumeration_passed}

-- no body
pub without_members : (alone : Bool) (at : At) (word : Sign) (tag : Option (Identifier At)) (s : PlainStanding) (all : List Member) → length all ≡ 0 →
    tag_passed only_first alone at word tag s ≡ structure_passed only_first alone at word tag s (member_row (map member_of all))
without_members alone at word tag s [] e = refl
without_members alone at word tag s (m ∷ rest) e = absurd (omega (arith, e))

-- what is done with the members
abbrev after_members : At → Sign → Option (Identifier At) → ℕ → Passed (List PlainMember) → Passed PlainType
after_members at word tag n p = unless_union only_first at word (structure_made only_first at tag n p.made (ended p.after))

-- a body
pub with_members : (alone : Bool) (at : At) (word : Sign) (tag : Option (Identifier At)) (s begins : PlainStanding) (all : List Member) (n : ℕ) (p : Passed (List PlainMember)) (t : Passed PlainType) →
    (length all ≡ 0 → ⊥) → record { number = n; standing = begins } ≡ begun_with only_first word tag s →
    p ≡ members_passed only_first (passed [] begins) (member_row (map member_of all)) → t ≡ after_members at word tag n p →
    t ≡ structure_passed only_first alone at word tag s (member_row (map member_of all))
with_members alone at word tag s begins [] n p t some eb ep et = absurd (some refl)
with_members alone at word tag s begins (m ∷ rest) n p t some eb ep et =
    et ∙ ap (after_members at word tag n) ep
    ∙ ap (λ (b : Begun). after_members at word tag b.number (members_passed only_first (passed [] b.standing) (MoreMembers (member_of m) (member_row (map member_of rest))))) eb

-- no constants
pub without_constants : (at : At) (tag : Option (Identifier At)) (s : PlainStanding) (all : List Enumerator) → length all ≡ 0 →
    enumeration_by_name only_first at tag s ≡ enumeration_passed only_first at tag s (enumerator_row (map enumerator_of all))
without_constants at tag s [] e = refl
without_constants at tag s (x ∷ rest) e = absurd (omega (arith, e))

-- constants
pub with_constants : (at : At) (tag : Option (Identifier At)) (s begins after last : PlainStanding) (all : List Enumerator) → (length all ≡ 0 → ⊥) →
    begins ≡ enumeration_begun only_first tag s → after ≡ (enumerators_passed only_first (first_constant begins) (enumerator_row (map enumerator_of all))).after →
    last ≡ with_enumeration tag after → passed int_type last ≡ enumeration_passed only_first at tag s (enumerator_row (map enumerator_of all))
with_constants at tag s begins after last [] some eb ea el = absurd (some refl)
with_constants at tag s begins after last (x ∷ rest) some eb ea el =
    ap (passed int_type) (el ∙ ap (with_enumeration tag) (ea ∙ ap (λ b. (enumerators_passed only_first (first_constant b) (MoreEnumerators (enumerator_of x) (enumerator_row (map enumerator_of rest)))).after) eb))
