-- Two types that are made one are compatible, marks included, and so are the structures in them with those that stand for them.
use Rattle.std.proofs.Common.{◌≡◌, ℕ, zero, suc, ◌<◌, nat_eq, Bool, true, false, ◌&&◌, if◌then◌else◌, List, [], ◌∷◌, map, length, Option, Some, None, is_some, slice_get, bytes_eq, refl, sym, ◌∙◌, ap, subst, ◌⊎◌, inl, inr}
use Rattle.std.proofs.lemmas.Bool.{eqb-true}
use Rattle.std.proofs.lemmas.Bool.Decides.{eqb_tells}
use Rattle.std.proofs.lemmas.Slice.Eq.{bytes_eq-Decides}
use Rattle.std.specs.Bool.{beq}
use Rattle.p10_base.specs.Words.{Text}
use Rattle.p10_core.specs.Types.{PlainType, void, integer, pointer, array, structure, PlainMember, PlainBody, PlainStructure, body_of, members_in, members_of, representative_of}
use Rattle.p10_core.specs.Rows.{same_integer}
use Rattle.p10_linkage.specs.Uniting.{same_tags, tagged_alike, standing_for, stands_for_both, and_then, members_united, bodies_united, structures_united, types_united, united_within}
use Rattle.p10_linkage.specs.Laws.{as_one, member_as_one, tag_of_structure, tag_numbered, RepresentativesAreCompatible, UnitedTypesAreCompatible}
use Rattle.p10_linkage.specs.private.Meetings.{swapped}
use Rattle.p10_linkage.proofs.Joining.{IsJoined, StandsWell, IsKept, joined_itself, joined_on, MaySwap, stands_at, body_stays, swap_stands}
use Rattle.p10_linkage.proofs.OneType.{some_is, none_is_not, some_if, some_then, both_true, same_integers, Unites, UnitesTypes, types_kept, members_kept, turned, there, alike_there, none_complete, within_kept, united_kept, built_stands}

-- ## Types where more structures are joined

pub one_through : (ss ts : List PlainStructure) → IsJoined ss ts → (t : PlainType) → as_one ts (as_one ss t) ≡ as_one ts t
one_through ss ts j (void c) = refl
one_through ss ts j (integer c i) = refl
one_through ss ts j (pointer c t) = ap (pointer c) (one_through ss ts j t)
one_through ss ts j (array c t n) = ap (λ u. array false u n) (one_through ss ts j t)
one_through ss ts j (structure c n) = ap (structure c) (j.through n)

members_through : (ss ts : List PlainStructure) → IsJoined ss ts → (ms : List PlainMember) → map (member_as_one ts) (map (member_as_one ss) ms) ≡ map (member_as_one ts) ms
members_through ss ts j [] = refl
members_through ss ts j (m ∷ ms) = λ i. record m { type = one_through ss ts j m.type i } ∷ members_through ss ts j ms i

one_joined : (ss ts : List PlainStructure) → IsJoined ss ts → (t u : PlainType) → as_one ss t ≡ as_one ss u → as_one ts t ≡ as_one ts u
one_joined ss ts j t u e = sym (one_through ss ts j t) ∙ ap (as_one ts) e ∙ one_through ss ts j u

members_joined : (ss ts : List PlainStructure) → IsJoined ss ts → (ms ks : List PlainMember) → map (member_as_one ss) ms ≡ map (member_as_one ss) ks → map (member_as_one ts) ms ≡ map (member_as_one ts) ks
members_joined ss ts j ms ks e = sym (members_through ss ts j ms) ∙ ap (map (member_as_one ts)) e ∙ members_through ss ts j ks

-- ## One structure comes to stand for others

tag_stays : (ss : List PlainStructure) (old new n : ℕ) → tag_numbered (standing_for old new ss) n ≡ tag_numbered ss n
tag_stays [] old new n = refl
tag_stays (s ∷ ss) old new zero = refl
tag_stays (s ∷ ss) old new (suc n) = tag_stays ss old new n

-- the one that stands now has the members of the one that stood
record StandsAlike (ss fs : List PlainStructure) (old new : ℕ) : Type 0 where
  pub members : map (member_as_one fs) (members_of ss new) ≡ map (member_as_one fs) (members_of ss old)
  pub complete : is_some (body_of ss new) ≡ true

swap_tags : (ss : List PlainStructure) (old new : ℕ) → MaySwap ss old new → tag_numbered ss old ≡ tag_numbered ss new → ((n : ℕ) → tag_numbered ss n ≡ tag_numbered ss (representative_of ss n)) →
    (n : ℕ) → tag_numbered (standing_for old new ss) n ≡ tag_numbered (standing_for old new ss) (representative_of (standing_for old new ss) n)
swap_tags ss old new may same tags n =
    tag_stays ss old new n ∙ by_test (eqb_tells (representative_of ss n) old) ∙ ap (tag_numbered ss) (sym (stands_at ss old new n may.old_there))
    ∙ sym (tag_stays ss old new (representative_of (standing_for old new ss) n))
  where
    by_test : ((nat_eq (representative_of ss n) old ≡ true) × (representative_of ss n ≡ old)) ⊎ ((nat_eq (representative_of ss n) old ≡ false) × (representative_of ss n ≡ old → ⊥)) →
        tag_numbered ss n ≡ tag_numbered ss (swapped old new (representative_of ss n))
    by_test (inl (e, is)) = tags n ∙ ap (tag_numbered ss) is ∙ same ∙ ap (λ t. tag_numbered ss (if t then new else representative_of ss n)) (sym e)
    by_test (inr (e, differ)) = tags n ∙ ap (λ t. tag_numbered ss (if t then new else representative_of ss n)) (sym e)

swap_alike : (ss fs : List PlainStructure) (old new : ℕ) → MaySwap ss old new → tag_numbered ss old ≡ tag_numbered ss new → (is_some (body_of ss old) ≡ true → StandsAlike ss fs old new) → RepresentativesAreCompatible ss fs →
    RepresentativesAreCompatible (standing_for old new ss) fs
swap_alike ss fs old new may same as_well alike = record {
  tags = swap_tags ss old new may same alike.tags;
  members = λ n b is. (at_one n b is).0;
  complete = λ n b is. (at_one n b is).1;
}
  where
    ts : List PlainStructure
    ts = standing_for old new ss

    by : (n r : ℕ) (b : PlainBody) → representative_of ts n ≡ r → map (member_as_one fs) (members_of ss r) ≡ map (member_as_one fs) b.members → is_some (body_of ss r) ≡ true →
        (map (member_as_one fs) (members_of ts (representative_of ts n)) ≡ map (member_as_one fs) b.members) × (is_some (body_of ts (representative_of ts n)) ≡ true)
    by n r b stands members complete = (
      ap (λ k. map (member_as_one fs) (members_of ts k)) stands
          ∙ ap (λ o. map (member_as_one fs) (members_in o)) (body_stays ss old new r)
          ∙ members,
      ap (λ k. is_some (body_of ts k)) stands ∙ ap is_some (body_stays ss old new r) ∙ complete,
    )

    by_test : (n : ℕ) (b : PlainBody) → body_of ss n ≡ Some b →
        ((nat_eq (representative_of ss n) old ≡ true) × (representative_of ss n ≡ old)) ⊎ ((nat_eq (representative_of ss n) old ≡ false) × (representative_of ss n ≡ old → ⊥)) →
        (map (member_as_one fs) (members_of ts (representative_of ts n)) ≡ map (member_as_one fs) b.members) × (is_some (body_of ts (representative_of ts n)) ≡ true)
    by_test n b is (inl (e, same)) =
        let well : StandsAlike ss fs old new = as_well (ap (λ k. is_some (body_of ss k)) (sym same) ∙ alike.complete n b is) in
        by n new b (stands_at ss old new n may.old_there ∙ ap (λ t. if t then new else representative_of ss n) e)
        (well.members ∙ ap (λ k. map (member_as_one fs) (members_of ss k)) (sym same) ∙ alike.members n b is) well.complete
    by_test n b is (inr (e, differ)) =
        by n (representative_of ss n) b (stands_at ss old new n may.old_there ∙ ap (λ t. if t then new else representative_of ss n) e) (alike.members n b is) (alike.complete n b is)

    at_one : (n : ℕ) (b : PlainBody) → body_of ts n ≡ Some b →
        (map (member_as_one fs) (members_of ts (representative_of ts n)) ≡ map (member_as_one fs) b.members) × (is_some (body_of ts (representative_of ts n)) ≡ true)
    at_one n b is = by_test n b (sym (body_stays ss old new n) ∙ is) (eqb_tells (representative_of ss n) old)

-- ## Making one

-- structures stay alike in which more are joined
abbrev StayAlike : List PlainStructure → List PlainStructure → Type 0
StayAlike ss ts = (fs : List PlainStructure) → IsJoined ts fs → RepresentativesAreCompatible ss fs → RepresentativesAreCompatible ts fs

-- making two structures one keeps them alike
abbrev KeepsAlike : (ℕ → ℕ → List PlainStructure → Option (List PlainStructure)) → Type 0
KeepsAlike unite =
    (m n : ℕ) (ss ts : List PlainStructure) → StandsWell ss → representative_of ss m ≡ m → representative_of ss n ≡ n → unite m n ss ≡ Some ts → StayAlike ss ts

-- making two types one keeps structures alike, and makes the types the same with their marks
abbrev KeepsTypesAlike : (PlainType → PlainType → List PlainStructure → Option (List PlainStructure)) → Type 0
KeepsTypesAlike unite =
    (t u : PlainType) (ss ts : List PlainStructure) → StandsWell ss → unite t u ss ≡ Some ts → StayAlike ss ts × (as_one ts t ≡ as_one ts u)

pub same_marks : (c d : Bool) → beq c d ≡ true → c ≡ d
same_marks true true e = refl
same_marks false false e = refl
same_marks true false e = absurd cc
same_marks false true e = absurd cc

pub first_true : (a b : Bool) → (a && b) ≡ true → a ≡ true
first_true true b e = refl
first_true false b e = absurd cc

unchanged : (t u : PlainType) (ss ts : List PlainStructure) → as_one ss t ≡ as_one ss u → Some ss ≡ Some ts → StayAlike ss ts × (as_one ts t ≡ as_one ts u)
unchanged t u ss ts same e = subst (λ ts. StayAlike ss ts × (as_one ts t ≡ as_one ts u)) (some_is ss ts e) (λ fs j a. a, same)

types_alike : (unite : ℕ → ℕ → List PlainStructure → Option (List PlainStructure)) → Unites unite → KeepsAlike unite → KeepsTypesAlike (types_united unite)
types_alike unite k h (void c) (void d) ss ts w e =
    let is : (beq c d ≡ true) × (Some ss ≡ Some ts) = some_if (beq c d) (Some ss) ts e in
    unchanged (void c) (void d) ss ts (ap void (same_marks c d is.0)) is.1
types_alike unite k h (void c) (integer d j) ss ts w e = none_is_not ts e
types_alike unite k h (void c) (pointer d u) ss ts w e = none_is_not ts e
types_alike unite k h (void c) (array d u n) ss ts w e = none_is_not ts e
types_alike unite k h (void c) (structure d n) ss ts w e = none_is_not ts e
types_alike unite k h (integer c i) (void d) ss ts w e = none_is_not ts e
types_alike unite k h (integer c i) (integer d j) ss ts w e =
    let is : (beq c d && same_integer i j ≡ true) × (Some ss ≡ Some ts) = some_if (beq c d && same_integer i j) (Some ss) ts e in
    let marks : c ≡ d = same_marks c d (first_true (beq c d) (same_integer i j) is.0) in
    let integers : i ≡ j = same_integers i j (both_true (beq c d) (same_integer i j) is.0) in
    unchanged (integer c i) (integer d j) ss ts (λ x. integer (marks x) (integers x)) is.1
types_alike unite k h (integer c i) (pointer d u) ss ts w e = none_is_not ts e
types_alike unite k h (integer c i) (array d u n) ss ts w e = none_is_not ts e
types_alike unite k h (integer c i) (structure d n) ss ts w e = none_is_not ts e
types_alike unite k h (pointer c t) (void d) ss ts w e = none_is_not ts e
types_alike unite k h (pointer c t) (integer d j) ss ts w e = none_is_not ts e
types_alike unite k h (pointer c t) (pointer d u) ss ts w e =
    let is : (beq c d ≡ true) × (types_united unite t u ss ≡ Some ts) = some_if (beq c d) (types_united unite t u ss) ts e in
    let inner : StayAlike ss ts × (as_one ts t ≡ as_one ts u) = types_alike unite k h t u ss ts w is.1 in
    let marks : c ≡ d = same_marks c d is.0 in
    (inner.0, λ x. pointer (marks x) (inner.1 x))
types_alike unite k h (pointer c t) (array d u n) ss ts w e = none_is_not ts e
types_alike unite k h (pointer c t) (structure d n) ss ts w e = none_is_not ts e
types_alike unite k h (array c t m) (void d) ss ts w e = none_is_not ts e
types_alike unite k h (array c t m) (integer d j) ss ts w e = none_is_not ts e
types_alike unite k h (array c t m) (pointer d u) ss ts w e = none_is_not ts e
types_alike unite k h (array c t m) (array d u n) ss ts w e =
    let is : (nat_eq m n ≡ true) × (types_united unite t u ss ≡ Some ts) = some_if (nat_eq m n) (types_united unite t u ss) ts e in
    let inner : StayAlike ss ts × (as_one ts t ≡ as_one ts u) = types_alike unite k h t u ss ts w is.1 in
    let many : m ≡ n = eqb-true m n is.0 in
    (inner.0, λ x. array false (inner.1 x) (many x))
types_alike unite k h (array c t m) (structure d n) ss ts w e = none_is_not ts e
types_alike unite k h (structure c m) (void d) ss ts w e = none_is_not ts e
types_alike unite k h (structure c m) (integer d j) ss ts w e = none_is_not ts e
types_alike unite k h (structure c m) (pointer d u) ss ts w e = none_is_not ts e
types_alike unite k h (structure c m) (array d u n) ss ts w e = none_is_not ts e
types_alike unite k h (structure c m) (structure d n) ss ts w e =
    let one : ℕ = representative_of ss m in
    let other : ℕ = representative_of ss n in
    let is : (beq c d ≡ true) × (unite one other ss ≡ Some ts) = some_if (beq c d) (unite one other ss) ts e in
    let kept : IsKept ss ts × (representative_of ts one ≡ representative_of ts other) = k one other ss ts w (w.own m) (w.own n) is.1 in
    let marks : c ≡ d = same_marks c d is.0 in
    let same : representative_of ts m ≡ representative_of ts n = sym (kept.0.joined.through m) ∙ kept.1 ∙ kept.0.joined.through n in
    (h one other ss ts w (w.own m) (w.own n) is.1, λ x. structure (marks x) (same x))

members_alike : (unite : PlainType → PlainType → List PlainStructure → Option (List PlainStructure)) → UnitesTypes unite → KeepsTypesAlike unite → (ms ks : List PlainMember) (ss ts : List PlainStructure) →
    StandsWell ss → members_united unite ms ks ss ≡ Some ts → StayAlike ss ts × (map (member_as_one ts) ms ≡ map (member_as_one ts) ks)
members_alike unite k h [] [] ss ts w e = subst (λ us. StayAlike ss us × (map (member_as_one us) [] ≡ map (member_as_one us) [])) (some_is ss ts e) (λ fs j a. a, refl)
members_alike unite k h (m ∷ ms) (n ∷ ns) ss ts w e =
    let is : (bytes_eq m.name n.name ≡ true) × (and_then (unite m.type n.type ss) (members_united unite ms ns) ≡ Some ts) =
    some_if (bytes_eq m.name n.name) (and_then (unite m.type n.type ss) (members_united unite ms ns)) ts e in
    let next : (us : List PlainStructure) × (unite m.type n.type ss ≡ Some us) × (members_united unite ms ns us ≡ Some ts) =
    some_then (unite m.type n.type ss) (members_united unite ms ns) ts is.1 in
    let us : List PlainStructure = next.0 in
    let stands : StandsWell us = (k m.type n.type ss us w next.1).0.stands in
    let joined : IsJoined us ts = (members_kept unite k ms ns us ts stands next.2).0.joined in
    let first : StayAlike ss us × (as_one us m.type ≡ as_one us n.type) = h m.type n.type ss us w next.1 in
    let rest : StayAlike us ts × (map (member_as_one ts) ms ≡ map (member_as_one ts) ns) = members_alike unite k h ms ns us ts stands next.2 in
    let names : m.name ≡ n.name = (bytes_eq-Decides m.name n.name).0 is.0 in
    let types : as_one ts m.type ≡ as_one ts n.type = one_joined us ts joined m.type n.type first.1 in
    (λ fs j a. rest.0 fs j (first.0 fs (joined_on us ts fs joined j) a), λ x. record { name = names x; type = types x } ∷ rest.1 x)
members_alike unite k h [] (n ∷ ns) ss ts w e = none_is_not ts e
members_alike unite k h (m ∷ ms) [] ss ts w e = none_is_not ts e

-- ## Structures

same_tag : (a b : Option Text) → same_tags a b ≡ true → a ≡ b
same_tag (Some a) (Some b) e = ap Some ((bytes_eq-Decides a b).0 e)
same_tag None None e = refl
same_tag (Some a) None e = absurd cc
same_tag None (Some b) e = absurd cc

same_tag_of : (o p : Option PlainStructure) → tagged_alike o p ≡ true → tag_of_structure o ≡ tag_of_structure p
same_tag_of None p e = absurd cc
same_tag_of (Some s) None e = absurd cc
same_tag_of (Some s) (Some t) e = same_tag s.tag t.tag e

structures_alike : (unite : PlainType → PlainType → List PlainStructure → Option (List PlainStructure)) → UnitesTypes unite → KeepsTypesAlike unite → KeepsAlike (structures_united unite)
structures_alike unite k h m n ss ts w m_own n_own e = by_test (nat_eq m n) refl
  where
    by_bodies : MaySwap ss n m → MaySwap ss m n → tag_numbered ss m ≡ tag_numbered ss n → (a b : Option PlainBody) → body_of ss m ≡ a → body_of ss n ≡ b →
        bodies_united unite a b (if is_some a then standing_for n m ss else standing_for m n ss) ≡ Some ts → StayAlike ss ts
    by_bodies may back tags (Some a) (Some b) is_a is_b e =
        let rest : StayAlike (standing_for n m ss) ts × (map (member_as_one ts) a.members ≡ map (member_as_one ts) b.members) =
        members_alike unite k h a.members b.members (standing_for n m ss) ts (swap_stands ss n m w may) e in
        λ fs j alike. rest.0 fs j (swap_alike ss fs n m may (sym tags) (λ _. record {
          members =
              ap (λ o. map (member_as_one fs) (members_in o)) is_a
              ∙ members_joined ts fs j a.members b.members rest.1
              ∙ sym (ap (λ o. map (member_as_one fs) (members_in o)) is_b);
          complete = ap is_some is_a;
        }) alike)
    by_bodies may back tags (Some a) None is_a is_b e =
        λ fs j alike. subst (λ us. RepresentativesAreCompatible us fs) (some_is (standing_for n m ss) ts e)
        (swap_alike ss fs n m may (sym tags) (λ complete. none_complete (sym (ap is_some is_b) ∙ complete)) alike)
    by_bodies may back tags None b is_a is_b e =
        λ fs j alike. subst (λ us. RepresentativesAreCompatible us fs) (some_is (standing_for m n ss) ts (incomplete b (standing_for m n ss) e))
        (swap_alike ss fs m n back tags (λ complete. none_complete (sym (ap is_some is_a) ∙ complete)) alike)
      where
        incomplete : (b : Option PlainBody) (us : List PlainStructure) → bodies_united unite None b us ≡ Some ts → Some us ≡ Some ts
        incomplete None us e = e
        incomplete (Some b) us e = e

    by_tags : nat_eq m n ≡ false → tagged_alike (slice_get ss m) (slice_get ss n) ≡ true → bodies_united unite (body_of ss m) (body_of ss n) (stands_for_both ss m n) ≡ Some ts → StayAlike ss ts
    by_tags apart alike e =
        let m_there : m < length ss = there ss m (alike_there (slice_get ss m) (slice_get ss n) alike).0 in
        let n_there : n < length ss = there ss n (alike_there (slice_get ss m) (slice_get ss n) alike).1 in
        by_bodies
        (record { old_there = n_there; new_there = m_there; old_own = n_own; new_own = m_own; apart = apart })
        (record { old_there = m_there; new_there = n_there; old_own = m_own; new_own = n_own; apart = turned m n apart })
        (same_tag_of (slice_get ss m) (slice_get ss n) alike) (body_of ss m) (body_of ss n) refl refl e

    by_test : (b : Bool) → nat_eq m n ≡ b → StayAlike ss ts
    by_test true is =
        let same : Some ss ≡ Some ts = sym (ap (λ b. if b then Some ss else (if tagged_alike (slice_get ss m) (slice_get ss n) then bodies_united unite (body_of ss m) (body_of ss n) (stands_for_both ss m n) else None)) is) ∙ e in
        subst (StayAlike ss) (some_is ss ts same) (λ fs j a. a)
    by_test false is =
        let go : Option (List PlainStructure) = bodies_united unite (body_of ss m) (body_of ss n) (stands_for_both ss m n) in
        let rest : (if tagged_alike (slice_get ss m) (slice_get ss n) then go else None) ≡ Some ts =
        sym (ap (λ b. if b then Some ss else (if tagged_alike (slice_get ss m) (slice_get ss n) then go else None)) is) ∙ e in
        let split : (tagged_alike (slice_get ss m) (slice_get ss n) ≡ true) × (go ≡ Some ts) = some_if (tagged_alike (slice_get ss m) (slice_get ss n)) go ts rest in
        by_tags is split.0 split.1

within_alike : (pairs : ℕ) → KeepsAlike (united_within pairs)
within_alike zero m n ss ts w m_own n_own e = subst (StayAlike ss) (some_is ss ts (some_if (nat_eq m n) (Some ss) ts e).1) (λ fs j a. a)
within_alike (suc pairs) m n ss ts w m_own n_own e =
    structures_alike (types_united (united_within pairs)) (types_kept (united_within pairs) (within_kept pairs)) (types_alike (united_within pairs) (within_kept pairs) (within_alike pairs))
    m n ss ts w m_own n_own e

-- ## All

alone : (ss : List PlainStructure) → ((n : ℕ) → representative_of ss n ≡ n) → RepresentativesAreCompatible ss ss
alone ss own = record {
  tags = λ n. ap (tag_numbered ss) (sym (own n));
  members = λ n b is. ap (λ k. map (member_as_one ss) (members_of ss k)) (own n) ∙ ap (λ o. map (member_as_one ss) (members_in o)) is;
  complete = λ n b is. ap (λ k. is_some (body_of ss k)) (own n) ∙ ap is_some is;
}

-- structures that are alike are so where more are joined
lifted : (ss ts : List PlainStructure) → IsJoined ss ts → RepresentativesAreCompatible ss ss → RepresentativesAreCompatible ss ts
lifted ss ts j alike = record {
  tags = alike.tags;
  members = λ n b is. members_joined ss ts j (members_of ss (representative_of ss n)) b.members (alike.members n b is);
  complete = alike.complete;
}

pub united_types_are_compatible : UnitedTypesAreCompatible
united_types_are_compatible = record {
  apart = alone;
  one = λ t u before after built alike e.
      let w : StandsWell before = built_stands before built in
      let kept : IsKept before after = (united_kept t u before after w e).0 in
      let made : StayAlike before after × (as_one after t ≡ as_one after u) =
      types_alike (united_within (length before)) (within_kept (length before)) (within_alike (length before)) t u before after w e in
      (made.0 after (joined_itself after kept.stands) (lifted before after kept.joined alike), made.1);
}
