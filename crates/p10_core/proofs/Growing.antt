-- Structures that grow by one that isn't complete: all others lie as before, and stay whole.
use Rattle.std.proofs.Common.{◌≡◌, ℕ, zero, suc, ◌*◌, ◌<◌, ◌≤◌, true, false, ◌||◌, List, [], ◌∷◌, ◌++◌, map, length, Some, None, is_some, slice_get, slice_index_or, refl, sym, ◌∙◌, ap, subst, arith, length-append, inl, inr}
use Rattle.std.proofs.lemmas.Bool.{cases_lt}
use Rattle.std.proofs.lemmas.Option.{slice_get_past}
use Rattle.p10_core.specs.Types.{PlainType, void, integer, pointer, array, structure, bare, PlainMember, PlainBody, PlainStructure, body_in, body_of, members_in, members_of, representative_in, representative_of}
use Rattle.p10_core.specs.Sizes.{Layout, repeated, layout_of_members, with_mark, layout_by, structure_layout, layout_of}
use Rattle.p10_core.specs.Rows.{is_complete}
use Rattle.p10_core.specs.WholePrograms.{order_in, ContainsBefore, IsWholeType, IsObjectType, IsWholeBody, AreWholeStructures, bare_member, most_bytes}
use Rattle.p10_core.proofs.Layouts.{Agree, members_same, type_same, stable}
use Rattle.p10_core.proofs.Bareness.{below_all}

-- two lists of structures of which each number says the same
pub record SaysTheSame (ss ts : List PlainStructure) : Type 0 where
  pub bodies : (n : ℕ) → body_of ss n ≡ body_of ts n
  pub representatives : (n : ℕ) → representative_of ss n ≡ representative_of ts n

pub bare_same : (ss ts : List PlainStructure) → ((n : ℕ) → representative_of ss n ≡ representative_of ts n) → (t : PlainType) → bare ss t ≡ bare ts t
bare_same ss ts same (void c) = refl
bare_same ss ts same (integer c i) = refl
bare_same ss ts same (pointer c t) = ap (pointer false) (bare_same ss ts same t)
bare_same ss ts same (array c t n) = ap (λ u. array false u n) (bare_same ss ts same t)
bare_same ss ts same (structure c n) = ap (structure false) (same n)

pub bare_members_same : (ss ts : List PlainStructure) → ((n : ℕ) → representative_of ss n ≡ representative_of ts n) → (ms : List PlainMember) → map (bare_member ss) ms ≡ map (bare_member ts) ms
bare_members_same ss ts same [] = refl
bare_members_same ss ts same (m ∷ ms) = λ i. record m { type = bare_same ss ts same m.type i } ∷ bare_members_same ss ts same ms i

complete_same : (ss ts : List PlainStructure) → SaysTheSame ss ts → (t : PlainType) → is_complete ss t ≡ is_complete ts t
complete_same ss ts same (void c) = refl
complete_same ss ts same (integer c i) = refl
complete_same ss ts same (pointer c t) = refl
complete_same ss ts same (array c t n) = complete_same ss ts same t
complete_same ss ts same (structure c n) = ap is_some (same.bodies n)

layout_by_same : (ss ts : List PlainStructure) → SaysTheSame ss ts → (F G : ℕ → Layout) → ((n : ℕ) → F n ≡ G n) → (t : PlainType) → layout_by ss F t ≡ layout_by ts G t
layout_by_same ss ts same F G agree (void c) = refl
layout_by_same ss ts same F G agree (integer c i) = refl
layout_by_same ss ts same F G agree (pointer c t) =
    ap (λ u. record { bytes = 8; alignment = 8; scalars = pointer false u ∷ []; constant = c }) (bare_same ss ts same.representatives t)
layout_by_same ss ts same F G agree (array c t n) =
    ap (λ l. let l : Layout = l in record { bytes = n * l.bytes; alignment = l.alignment; scalars = repeated n l.scalars; constant = c || l.constant }) (layout_by_same ss ts same F G agree t)
layout_by_same ss ts same F G agree (structure c n) = ap (with_mark c) (agree n)

agree_everywhere : (f g : PlainType → Layout) → ((t : PlainType) → f t ≡ g t) → (ms : List PlainMember) → Agree f g ms
agree_everywhere f g same [] = tt
agree_everywhere f g same (m ∷ ms) = (same m.type, agree_everywhere f g same ms)

structure_layout_same : (ss ts : List PlainStructure) → SaysTheSame ss ts → (d n : ℕ) → structure_layout d ss n ≡ structure_layout d ts n
structure_layout_same ss ts same zero n = refl
structure_layout_same ss ts same (suc d) n =
    let inner : (t : PlainType) → layout_by ss (structure_layout d ss) t ≡ layout_by ts (structure_layout d ts) t =
    layout_by_same ss ts same (structure_layout d ss) (structure_layout d ts) (structure_layout_same ss ts same d) in
    ap (λ o. layout_of_members (layout_by ss (structure_layout d ss)) (members_in o)) (same.bodies n)
    ∙ members_same (layout_by ss (structure_layout d ss)) (layout_by ts (structure_layout d ts)) (members_of ts n)
    (agree_everywhere (layout_by ss (structure_layout d ss)) (layout_by ts (structure_layout d ts)) inner (members_of ts n))

-- a type that has a size lies the same at one depth more
pub deeper : (ss : List PlainStructure) → AreWholeStructures ss → (t : PlainType) → is_complete ss t ≡ true → layout_by ss (structure_layout (suc (length ss)) ss) t ≡ layout_of ss t
unfolding layout_of
deeper ss w t full =
    type_same ss (length ss) (structure_layout (suc (length ss)) ss) (structure_layout (length ss) ss)
    (λ n b is low. stable ss w (suc (length ss)) (length ss) n b is (omega (arith, low)) low) t (below_all ss w t full) full

-- ## One structure more

body_pushed : (ss : List PlainStructure) (s : PlainStructure) (n : ℕ) → s.body ≡ None → body_in (slice_get (ss ++ s ∷ []) n) ≡ body_in (slice_get ss n)
body_pushed [] s zero e = e
body_pushed [] s (suc n) e = refl
body_pushed (x ∷ ss) s zero e = refl
body_pushed (x ∷ ss) s (suc n) e = body_pushed ss s n e

representative_pushed : (ss : List PlainStructure) (s : PlainStructure) (k n : ℕ) → (n ≡ length ss → s.representative ≡ k) → representative_in k (slice_get (ss ++ s ∷ []) n) ≡ representative_in k (slice_get ss n)
representative_pushed [] s k zero e = e refl
representative_pushed [] s k (suc n) e = refl
representative_pushed (x ∷ ss) s k zero e = refl
representative_pushed (x ∷ ss) s k (suc n) e = representative_pushed ss s k n (λ h. e (ap suc h))

-- a structure that isn't complete and stands for itself
pub record IsNew (ss : List PlainStructure) (s : PlainStructure) : Type 0 where
  pub incomplete : s.body ≡ None
  pub own : s.representative ≡ length ss

pub says_the_same : (ss : List PlainStructure) (s : PlainStructure) → IsNew ss s → SaysTheSame (ss ++ s ∷ []) ss
says_the_same ss s new = record {
  bodies = λ n. body_pushed ss s n new.incomplete;
  representatives = λ n. representative_pushed ss s n n (λ h. new.own ∙ sym h);
}

one_longer : (ss : List PlainStructure) (s : PlainStructure) → length (ss ++ s ∷ []) ≡ suc (length ss)
one_longer ss s = omega (arith, length-append ss (s ∷ []))

layout_grown : (ss : List PlainStructure) (s : PlainStructure) → IsNew ss s → AreWholeStructures ss → (t : PlainType) → is_complete ss t ≡ true → layout_of (ss ++ s ∷ []) t ≡ layout_of ss t
unfolding layout_of
layout_grown ss s new w t full =
    let all : List PlainStructure = ss ++ s ∷ [] in
    let same : SaysTheSame all ss = says_the_same ss s new in
    ap (λ d. layout_by all (structure_layout d all) t) (one_longer ss s)
    ∙ layout_by_same all ss same (structure_layout (suc (length ss)) all) (structure_layout (suc (length ss)) ss) (structure_layout_same all ss same (suc (length ss))) t
    ∙ deeper ss w t full

type_grown : (ss : List PlainStructure) (s : PlainStructure) → IsNew ss s → AreWholeStructures ss → (t : PlainType) → IsWholeType ss t → IsWholeType (ss ++ s ∷ []) t
type_grown ss s new w (void c) h = tt
type_grown ss s new w (integer c i) h = tt
type_grown ss s new w (pointer c t) h = (type_grown ss s new w t h.0, h.1)
type_grown ss s new w (array c t n) h =
    let full : is_complete ss t ≡ true = h.1 in (
      type_grown ss s new w t h.0,
      complete_same (ss ++ s ∷ []) ss (says_the_same ss s new) t ∙ full,
      h.2,
      subst (λ k. k ≤ most_bytes) (sym (ap (λ l. l.bytes) (layout_grown ss s new w (array c t n) full))) h.3,
    )
type_grown ss s new w (structure c n) h = omega (arith, h, one_longer ss s)

object_grown : (ss : List PlainStructure) (s : PlainStructure) → IsNew ss s → AreWholeStructures ss → (t : PlainType) → IsObjectType ss t → IsObjectType (ss ++ s ∷ []) t
object_grown ss s new w t h = record {
  whole = type_grown ss s new w t h.whole;
  complete = complete_same (ss ++ s ∷ []) ss (says_the_same ss s new) t ∙ h.complete;
}

before_same : (ss ts : List PlainStructure) → SaysTheSame ss ts → (order : ℕ) (t : PlainType) → ContainsBefore ts order t → ContainsBefore ss order t
before_same ss ts same order (void c) h = tt
before_same ss ts same order (integer c i) h = tt
before_same ss ts same order (pointer c t) h = tt
before_same ss ts same order (array c t n) h = before_same ss ts same order t h
before_same ss ts same order (structure c n) h = subst (λ o. order_in o < order) (sym (same.bodies n)) h

body_grown : (ss : List PlainStructure) (s : PlainStructure) → IsNew ss s → AreWholeStructures ss → (n : ℕ) (b : PlainBody) → body_of ss n ≡ Some b → IsWholeBody (ss ++ s ∷ []) n b
body_grown ss s new w n b is =
    let all : List PlainStructure = ss ++ s ∷ [] in
    let same : SaysTheSame all ss = says_the_same ss s new in
    let h : IsWholeBody ss n b = w.bodies n b is in
    let lies : layout_of all (structure false n) ≡ layout_of ss (structure false n) = layout_grown ss s new w (structure false n) (ap is_some is) in
    record {
      members = λ k d i. record {
        object = object_grown ss s new w (slice_index_or b.members k d).type (h.members k d i).object;
        before = before_same all ss same b.order (slice_index_or b.members k d).type (h.members k d i).before;
      };
      some = h.some;
      few = omega (arith, h.few, one_longer ss s);
      bytes_are = h.bytes_are ∙ sym (ap (λ l. l.bytes) lies);
      alignment_is = h.alignment_is ∙ sym (ap (λ l. l.alignment) lies);
      scalars_are = h.scalars_are ∙ sym (ap (λ l. length l.scalars) lies);
      constant_is = h.constant_is ∙ sym (ap (λ l. l.constant) lies);
      small = h.small;
      same_members =
          ap (λ r. map (bare_member all) (members_of all r)) (same.representatives n)
          ∙ ap (λ o. map (bare_member all) (members_in o)) (same.bodies (representative_of ss n))
          ∙ bare_members_same all ss same.representatives (members_of ss (representative_of ss n))
          ∙ h.same_members
          ∙ sym (bare_members_same all ss same.representatives b.members);
      complete =
          ap (λ r. is_complete all (structure false r)) (same.representatives n)
          ∙ ap is_some (same.bodies (representative_of ss n))
          ∙ h.complete;
    }

stands_below : (ss : List PlainStructure) (s : PlainStructure) → IsNew ss s → AreWholeStructures ss → (n : ℕ) → n < length (ss ++ s ∷ []) → representative_of (ss ++ s ∷ []) n < length (ss ++ s ∷ [])
stands_below ss s new w n h =
    let all : List PlainStructure = ss ++ s ∷ [] in
    let P : ℕ → Type 0 = λ r. r < length all in
    subst P (sym ((says_the_same ss s new).representatives n)) (elim (cases_lt n (length ss)) as (λ _. representative_of ss n < length all) [
      | inl low ↦ omega (arith, w.representatives n low, one_longer ss s)
      | inr high ↦ subst P (sym (ap (representative_in n) (slice_get_past ss n high))) h
    ])

pub structures_grown : (ss : List PlainStructure) (s : PlainStructure) → IsNew ss s → AreWholeStructures ss → AreWholeStructures (ss ++ s ∷ [])
structures_grown ss s new w =
    let all : List PlainStructure = ss ++ s ∷ [] in
    let same : SaysTheSame all ss = says_the_same ss s new in
    record {
      bodies = λ n b is. body_grown ss s new w n b (sym (same.bodies n) ∙ is);
      representatives = stands_below ss s new w;
      stand_for_themselves = λ n. ap (representative_of all) (same.representatives n) ∙ same.representatives (representative_of ss n) ∙ w.stand_for_themselves n ∙ sym (same.representatives n);
    }
