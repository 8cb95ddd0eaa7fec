-- Two types of different roots that are made one: the structures stay built, and the types are compatible.
use Rattle.std.proofs.Common.{◌≡◌, ℕ, zero, suc, ◌<◌, ◌≤◌, nat_eq, Bool, true, false, ◌&&◌, if◌then◌else◌, List, [], ◌∷◌, map, length, Option, Some, None, is_some, slice_get, slice_index_or, bytes_eq, refl, sym, ◌∙◌, ap, subst, arith, inl, inr}
use Rattle.std.proofs.lemmas.Bool.{eqb-true, eq-eqb}
use Rattle.std.proofs.lemmas.Bool.Decides.{eqb_tells}
use Rattle.std.proofs.lemmas.Slice.Eq.{bytes_eq-Decides}
use Rattle.std.specs.Bool.{beq}
use Rattle.p10_int.specs.declared.types.IntType.{IntType}
use Rattle.p10_int.specs.declared.types.IntType.TheVariants.{Bool as Truth, Char, SChar, UChar, Short, UShort, Int, UInt, Long, ULong, LLong, ULLong}
use Rattle.p10_core.specs.Types.{PlainType, void, integer, pointer, array, structure, bare, PlainMember, PlainBody, PlainStructure, body_of, members_in, members_of, representative_of}
use Rattle.p10_core.specs.Sizes.{layout_of}
use Rattle.p10_core.specs.Rows.{number_of, same_integer, is_complete}
use Rattle.p10_core.specs.WholePrograms.{order_in, ContainsBefore, IsWholeType, IsWholeBody, bare_member, most_bytes}
use Rattle.p10_core.specs.Completing.{AreBuilt}
use Rattle.p10_linkage.specs.Uniting.{tagged_alike, standing_for, stands_for_both, and_then, members_united, bodies_united, structures_united, types_united, united_within, united}
use Rattle.p10_linkage.specs.private.Meetings.{swapped}
use Rattle.p10_linkage.proofs.LyingAlike.{LiesAlike, layout_alike}
use Rattle.p10_linkage.proofs.Joining.{IsJoined, StandsWell, FitsAt, Fits, IsKept, bare_joined, members_joined, joined_itself, kept_itself, kept_on, MaySwap, stands_at, swap_joins, swap_stands, StandsAsWell, swap_fits}

-- ## What an answer says

pub some_is : {A : Type 0} (x y : A) → Some x ≡ Some y → x ≡ y
some_is {A = A} x y e = ap from e
  where
    from : Option A → A
    from None = x
    from (Some z) = z

pub none_is_not : {A P : Type 0} (y : A) → None ≡ Some y → P
none_is_not y e = absurd cc

pub some_if : {A : Type 0} (b : Bool) (o : Option A) (y : A) → (if b then o else None) ≡ Some y → (b ≡ true) × (o ≡ Some y)
some_if true o y e = (refl, e)
some_if false o y e = none_is_not y e

pub some_then : {A : Type 0} (o : Option A) (go : A → Option A) (y : A) → and_then o go ≡ Some y → (x : A) × (o ≡ Some x) × (go x ≡ Some y)
some_then None go y e = none_is_not y e
some_then (Some x) go y e = (x, refl, e)

pub both_true : (a b : Bool) → (a && b) ≡ true → b ≡ true
both_true true b e = e
both_true false b e = absurd cc

-- the integer type with a number
abbrev integer_numbered : ℕ → IntType
integer_numbered n = slice_index_or (Truth ∷ Char ∷ SChar ∷ UChar ∷ Short ∷ UShort ∷ Int ∷ UInt ∷ Long ∷ ULong ∷ LLong ∷ ULLong ∷ []) n Truth

numbered : (i : IntType) → integer_numbered (number_of i) ≡ i
numbered Truth = refl
numbered Char = refl
numbered SChar = refl
numbered UChar = refl
numbered Short = refl
numbered UShort = refl
numbered Int = refl
numbered UInt = refl
numbered Long = refl
numbered ULong = refl
numbered LLong = refl
numbered ULLong = refl

pub same_integers : (i j : IntType) → same_integer i j ≡ true → i ≡ j
same_integers i j e = sym (numbered i) ∙ ap integer_numbered (eqb-true (number_of i) (number_of j) e) ∙ numbered j

-- ## Types

-- making two structures one that stand for themselves keeps the rest, and joins them
abbrev pub Unites : (ℕ → ℕ → List PlainStructure → Option (List PlainStructure)) → Type 0
Unites unite =
    (m n : ℕ) (ss ts : List PlainStructure) → StandsWell ss → representative_of ss m ≡ m → representative_of ss n ≡ n → unite m n ss ≡ Some ts →
    IsKept ss ts × (representative_of ts m ≡ representative_of ts n)

-- making two types one keeps the rest, and makes them compatible
abbrev pub UnitesTypes : (PlainType → PlainType → List PlainStructure → Option (List PlainStructure)) → Type 0
UnitesTypes unite =
    (t u : PlainType) (ss ts : List PlainStructure) → StandsWell ss → unite t u ss ≡ Some ts → IsKept ss ts × (bare ts t ≡ bare ts u)

as_before : (t u : PlainType) (ss ts : List PlainStructure) → StandsWell ss → bare ss t ≡ bare ss u → Some ss ≡ Some ts → IsKept ss ts × (bare ts t ≡ bare ts u)
as_before t u ss ts w same e = subst (λ ts. IsKept ss ts × (bare ts t ≡ bare ts u)) (some_is ss ts e) (kept_itself ss w, same)

pub types_kept : (unite : ℕ → ℕ → List PlainStructure → Option (List PlainStructure)) → Unites unite → UnitesTypes (types_united unite)
types_kept unite h (void c) (void d) ss ts w e = as_before (void c) (void d) ss ts w refl (some_if (beq c d) (Some ss) ts e).1
types_kept unite h (void c) (integer d j) ss ts w e = none_is_not ts e
types_kept unite h (void c) (pointer d u) ss ts w e = none_is_not ts e
types_kept unite h (void c) (array d u n) ss ts w e = none_is_not ts e
types_kept unite h (void c) (structure d n) ss ts w e = none_is_not ts e
types_kept unite h (integer c i) (void d) ss ts w e = none_is_not ts e
types_kept unite h (integer c i) (integer d j) ss ts w e =
    let is : (beq c d && same_integer i j ≡ true) × (Some ss ≡ Some ts) = some_if (beq c d && same_integer i j) (Some ss) ts e in
    as_before (integer c i) (integer d j) ss ts w (ap (integer false) (same_integers i j (both_true (beq c d) (same_integer i j) is.0))) is.1
types_kept unite h (integer c i) (pointer d u) ss ts w e = none_is_not ts e
types_kept unite h (integer c i) (array d u n) ss ts w e = none_is_not ts e
types_kept unite h (integer c i) (structure d n) ss ts w e = none_is_not ts e
types_kept unite h (pointer c t) (void d) ss ts w e = none_is_not ts e
types_kept unite h (pointer c t) (integer d j) ss ts w e = none_is_not ts e
types_kept unite h (pointer c t) (pointer d u) ss ts w e =
    let inner : IsKept ss ts × (bare ts t ≡ bare ts u) = types_kept unite h t u ss ts w (some_if (beq c d) (types_united unite t u ss) ts e).1 in
    (inner.0, ap (pointer false) inner.1)
types_kept unite h (pointer c t) (array d u n) ss ts w e = none_is_not ts e
types_kept unite h (pointer c t) (structure d n) ss ts w e = none_is_not ts e
types_kept unite h (array c t m) (void d) ss ts w e = none_is_not ts e
types_kept unite h (array c t m) (integer d j) ss ts w e = none_is_not ts e
types_kept unite h (array c t m) (pointer d u) ss ts w e = none_is_not ts e
types_kept unite h (array c t m) (array d u n) ss ts w e =
    let is : (nat_eq m n ≡ true) × (types_united unite t u ss ≡ Some ts) = some_if (nat_eq m n) (types_united unite t u ss) ts e in
    let inner : IsKept ss ts × (bare ts t ≡ bare ts u) = types_kept unite h t u ss ts w is.1 in
    let many : m ≡ n = eqb-true m n is.0 in
    (inner.0, λ i. array false (inner.1 i) (many i))
types_kept unite h (array c t m) (structure d n) ss ts w e = none_is_not ts e
types_kept unite h (structure c m) (void d) ss ts w e = none_is_not ts e
types_kept unite h (structure c m) (integer d j) ss ts w e = none_is_not ts e
types_kept unite h (structure c m) (pointer d u) ss ts w e = none_is_not ts e
types_kept unite h (structure c m) (array d u n) ss ts w e = none_is_not ts e
types_kept unite h (structure c m) (structure d n) ss ts w e =
    let one : ℕ = representative_of ss m in
    let other : ℕ = representative_of ss n in
    let inner : IsKept ss ts × (representative_of ts one ≡ representative_of ts other) = h one other ss ts w (w.own m) (w.own n) (some_if (beq c d) (unite one other ss) ts e).1 in
    (inner.0, ap (structure false) (sym (inner.0.joined.through m) ∙ inner.1 ∙ inner.0.joined.through n))

-- ## Members

pub members_kept : (unite : PlainType → PlainType → List PlainStructure → Option (List PlainStructure)) → UnitesTypes unite → (ms ks : List PlainMember) (ss ts : List PlainStructure) → StandsWell ss →
    members_united unite ms ks ss ≡ Some ts → IsKept ss ts × (map (bare_member ts) ms ≡ map (bare_member ts) ks)
members_kept unite h [] [] ss ts w e = subst (λ us. IsKept ss us × (map (bare_member us) [] ≡ map (bare_member us) [])) (some_is ss ts e) (kept_itself ss w, refl)
members_kept unite h (m ∷ ms) (k ∷ ks) ss ts w e =
    let is : (bytes_eq m.name k.name ≡ true) × (and_then (unite m.type k.type ss) (members_united unite ms ks) ≡ Some ts) =
    some_if (bytes_eq m.name k.name) (and_then (unite m.type k.type ss) (members_united unite ms ks)) ts e in
    let next : (us : List PlainStructure) × (unite m.type k.type ss ≡ Some us) × (members_united unite ms ks us ≡ Some ts) =
    some_then (unite m.type k.type ss) (members_united unite ms ks) ts is.1 in
    let us : List PlainStructure = next.0 in
    let first : IsKept ss us × (bare us m.type ≡ bare us k.type) = h m.type k.type ss us w next.1 in
    let rest : IsKept us ts × (map (bare_member ts) ms ≡ map (bare_member ts) ks) = members_kept unite h ms ks us ts first.0.stands next.2 in
    let names : m.name ≡ k.name = (bytes_eq-Decides m.name k.name).0 is.0 in
    let types : bare ts m.type ≡ bare ts k.type = bare_joined us ts rest.0.joined m.type k.type first.1 in
    (kept_on ss us ts first.0 rest.0, λ i. record { name = names i; type = types i } ∷ rest.1 i)
members_kept unite h [] (k ∷ ks) ss ts w e = none_is_not ts e
members_kept unite h (m ∷ ms) [] ss ts w e = none_is_not ts e

-- ## Structures

pub turned : (m n : ℕ) → nat_eq m n ≡ false → nat_eq n m ≡ false
turned m n e = elim (eqb_tells n m) as (λ _. nat_eq n m ≡ false) [
  | inl (is, same) ↦ absurd (apart (sym e ∙ eq-eqb m n (sym same)))
  | inr (is, differ) ↦ is
]
  where
    apart : false ≡ true → ⊥
    apart e = absurd cc

pub there : (ss : List PlainStructure) (n : ℕ) → is_some (slice_get ss n) ≡ true → n < length ss
there [] n e = absurd cc
there (s ∷ ss) zero e = omega arith
there (s ∷ ss) (suc n) e = omega (arith, there ss n e)

pub alike_there : (o p : Option PlainStructure) → tagged_alike o p ≡ true → (is_some o ≡ true) × (is_some p ≡ true)
alike_there None p e = absurd cc
alike_there (Some s) None e = absurd cc
alike_there (Some s) (Some t) e = (refl, refl)

pub none_complete : {P : Type 0} → false ≡ true → P
none_complete e = absurd cc

-- what one structure that comes to stand for another does, where their members are one then
swap_kept : (ss ts : List PlainStructure) (old new : ℕ) → StandsWell ss → MaySwap ss old new → IsKept (standing_for old new ss) ts →
    ((fs : List PlainStructure) → IsJoined ts fs → is_some (body_of ss old) ≡ true → StandsAsWell ss fs old new) →
    IsKept ss ts × (representative_of ts old ≡ representative_of ts new)
swap_kept ss ts old new w may rest as_well =
    let us : List PlainStructure = standing_for old new ss in
    let first : IsJoined ss us = swap_joins ss old new w may in
    let old_is : representative_of us old ≡ new = stands_at ss old new old may.old_there ∙ ap (swapped old new) may.old_own ∙ swapped_old old new in (
      record {
        joined = record {
          long = rest.joined.long ∙ first.long;
          count = rest.joined.count ∙ first.count;
          bodies = λ n. rest.joined.bodies n ∙ first.bodies n;
          through = λ n. sym (rest.joined.through (representative_of ss n)) ∙ ap (representative_of ts) (first.through n) ∙ rest.joined.through n;
        };
        stands = rest.stands;
        fits = λ fs j f. rest.fits fs j (swap_fits ss fs old new w may (as_well fs j) f);
      },
      sym (rest.joined.through old) ∙ ap (representative_of ts) old_is,
    )
  where
    swapped_old : (old new : ℕ) → swapped old new old ≡ new
    swapped_old old new = ap (λ b. if b then new else old) (eq-eqb old old refl)

pub structures_kept : (unite : PlainType → PlainType → List PlainStructure → Option (List PlainStructure)) → UnitesTypes unite → Unites (structures_united unite)
structures_kept unite h m n ss ts w m_own n_own e = by_test (nat_eq m n) refl
  where
    Kept : Type 0
    Kept = IsKept ss ts × (representative_of ts m ≡ representative_of ts n)

    by_bodies : MaySwap ss n m → MaySwap ss m n → (a b : Option PlainBody) → body_of ss m ≡ a → body_of ss n ≡ b →
        bodies_united unite a b (if is_some a then standing_for n m ss else standing_for m n ss) ≡ Some ts → Kept
    by_bodies may back (Some a) (Some b) is_a is_b e =
        let rest : IsKept (standing_for n m ss) ts × (map (bare_member ts) a.members ≡ map (bare_member ts) b.members) =
        members_kept unite h a.members b.members (standing_for n m ss) ts (swap_stands ss n m w may) e in
        let kept : IsKept ss ts × (representative_of ts n ≡ representative_of ts m) = swap_kept ss ts n m w may rest.0 (λ fs j _. record {
          members =
              ap (λ o. map (bare_member fs) (members_in o)) is_a
              ∙ members_joined ts fs j a.members b.members rest.1
              ∙ sym (ap (λ o. map (bare_member fs) (members_in o)) is_b);
          complete = ap is_some is_a;
        }) in
        (kept.0, sym kept.1)
    by_bodies may back (Some a) None is_a is_b e =
        let us : List PlainStructure = standing_for n m ss in
        let kept : IsKept ss ts × (representative_of ts n ≡ representative_of ts m) =
        swap_kept ss ts n m w may (subst (IsKept us) (some_is us ts e) (kept_itself us (swap_stands ss n m w may)))
        (λ fs j complete. none_complete (sym (ap is_some is_b) ∙ complete)) in
        (kept.0, sym kept.1)
    by_bodies may back None b is_a is_b e =
        let us : List PlainStructure = standing_for m n ss in
        swap_kept ss ts m n w back (subst (IsKept us) (some_is us ts (incomplete b us e)) (kept_itself us (swap_stands ss m n w back)))
        (λ fs j complete. none_complete (sym (ap is_some is_a) ∙ complete))
      where
        incomplete : (b : Option PlainBody) (us : List PlainStructure) → bodies_united unite None b us ≡ Some ts → Some us ≡ Some ts
        incomplete None us e = e
        incomplete (Some b) us e = e

    by_tags : nat_eq m n ≡ false → tagged_alike (slice_get ss m) (slice_get ss n) ≡ true → bodies_united unite (body_of ss m) (body_of ss n) (stands_for_both ss m n) ≡ Some ts → Kept
    by_tags apart alike e =
        let m_there : m < length ss = there ss m (alike_there (slice_get ss m) (slice_get ss n) alike).0 in
        let n_there : n < length ss = there ss n (alike_there (slice_get ss m) (slice_get ss n) alike).1 in
        by_bodies
        (record { old_there = n_there; new_there = m_there; old_own = n_own; new_own = m_own; apart = apart })
        (record { old_there = m_there; new_there = n_there; old_own = m_own; new_own = n_own; apart = turned m n apart })
        (body_of ss m) (body_of ss n) refl refl e

    by_test : (b : Bool) → nat_eq m n ≡ b → Kept
    by_test true is =
        let same : Some ss ≡ Some ts = sym (ap (λ b. if b then Some ss else (if tagged_alike (slice_get ss m) (slice_get ss n) then bodies_united unite (body_of ss m) (body_of ss n) (stands_for_both ss m n) else None)) is) ∙ e in
        (subst (IsKept ss) (some_is ss ts same) (kept_itself ss w), ap (representative_of ts) (eqb-true m n is))
    by_test false is =
        let go : Option (List PlainStructure) = bodies_united unite (body_of ss m) (body_of ss n) (stands_for_both ss m n) in
        let rest : (if tagged_alike (slice_get ss m) (slice_get ss n) then go else None) ≡ Some ts =
        sym (ap (λ b. if b then Some ss else (if tagged_alike (slice_get ss m) (slice_get ss n) then go else None)) is) ∙ e in
        let split : (tagged_alike (slice_get ss m) (slice_get ss n) ≡ true) × (go ≡ Some ts) = some_if (tagged_alike (slice_get ss m) (slice_get ss n)) go ts rest in
        by_tags is split.0 split.1

-- ## All

pub within_kept : (pairs : ℕ) → Unites (united_within pairs)
within_kept zero m n ss ts w m_own n_own e =
    let is : (nat_eq m n ≡ true) × (Some ss ≡ Some ts) = some_if (nat_eq m n) (Some ss) ts e in
    (subst (IsKept ss) (some_is ss ts is.1) (kept_itself ss w), ap (representative_of ts) (eqb-true m n is.0))
within_kept (suc pairs) m n ss ts w m_own n_own e =
    structures_kept (types_united (united_within pairs)) (types_kept (united_within pairs) (within_kept pairs)) m n ss ts w m_own n_own e

pub united_kept : (t u : PlainType) (ss ts : List PlainStructure) → StandsWell ss → united t u ss ≡ Some ts → IsKept ss ts × (bare ts t ≡ bare ts u)
united_kept t u ss ts w e = types_kept (united_within (length ss)) (within_kept (length ss)) t u ss ts w e

-- ## Structures that stay built

complete_joined : (ss ts : List PlainStructure) → IsJoined ss ts → (t : PlainType) → is_complete ts t ≡ is_complete ss t
complete_joined ss ts j (void c) = refl
complete_joined ss ts j (integer c i) = refl
complete_joined ss ts j (pointer c t) = refl
complete_joined ss ts j (array c t n) = complete_joined ss ts j t
complete_joined ss ts j (structure c n) = ap is_some (j.bodies n)

type_joined : (ss ts : List PlainStructure) → IsJoined ss ts → (t : PlainType) → IsWholeType ss t → IsWholeType ts t
type_joined ss ts j (void c) h = tt
type_joined ss ts j (integer c i) h = tt
type_joined ss ts j (pointer c t) h = (type_joined ss ts j t h.0, h.1)
type_joined ss ts j (array c t n) h = (
  type_joined ss ts j t h.0,
  complete_joined ss ts j t ∙ h.1,
  h.2,
  subst (λ k. k ≤ most_bytes) (sym (layout_alike ts ss j.long j.bodies (array c t n)).bytes) h.3,
)
type_joined ss ts j (structure c n) h = omega (arith, h, j.long)

before_joined : (ss ts : List PlainStructure) → IsJoined ss ts → (order : ℕ) (t : PlainType) → ContainsBefore ss order t → ContainsBefore ts order t
before_joined ss ts j order (void c) h = tt
before_joined ss ts j order (integer c i) h = tt
before_joined ss ts j order (pointer c t) h = tt
before_joined ss ts j order (array c t n) h = before_joined ss ts j order t h
before_joined ss ts j order (structure c n) h = subst (λ o. order_in o < order) (sym (j.bodies n)) h

body_kept : (ss ts : List PlainStructure) → IsJoined ss ts → (n : ℕ) (b : PlainBody) → IsWholeBody ss n b → FitsAt ts ts n b → IsWholeBody ts n b
body_kept ss ts j n b h f =
    let lies : LiesAlike (layout_of ts (structure false n)) (layout_of ss (structure false n)) = layout_alike ts ss j.long j.bodies (structure false n) in
    record {
      members = λ k d i. record {
        object = record {
          whole = type_joined ss ts j (slice_index_or b.members k d).type (h.members k d i).object.whole;
          complete = complete_joined ss ts j (slice_index_or b.members k d).type ∙ (h.members k d i).object.complete;
        };
        before = before_joined ss ts j b.order (slice_index_or b.members k d).type (h.members k d i).before;
      };
      some = h.some;
      few = omega (arith, h.few, j.long);
      bytes_are = h.bytes_are ∙ sym lies.bytes;
      alignment_is = h.alignment_is ∙ sym lies.alignment;
      scalars_are = h.scalars_are ∙ sym lies.scalars;
      constant_is = h.constant_is ∙ sym lies.constant;
      small = h.small;
      same_members = f.members;
      complete = f.complete;
    }

-- structures that are built stand well
pub built_stands : (ss : List PlainStructure) → AreBuilt ss → StandsWell ss
built_stands ss b = record { own = b.whole.stand_for_themselves; low = b.whole.representatives }

-- structures stay built in which more of them are joined
pub kept_built : (ss ts : List PlainStructure) → AreBuilt ss → IsKept ss ts → AreBuilt ts
kept_built ss ts b k =
    let joined : IsJoined ss ts = k.joined in
    let first : Fits ss ts = λ n c is. record {
      members = members_joined ss ts joined (members_of ss (representative_of ss n)) c.members (b.whole.bodies n c is).same_members;
      complete = (b.whole.bodies n c is).complete;
    } in
    let fits : Fits ts ts = k.fits ts (joined_itself ts k.stands) first in
    record {
      whole = record {
        bodies = λ n c is. body_kept ss ts joined n c (b.whole.bodies n c (sym (joined.bodies n) ∙ is)) (fits n c is);
        representatives = k.stands.low;
        stand_for_themselves = k.stands.own;
      };
      counted = record { below = λ n c is. subst (λ m. c.order < m) (sym joined.count) (b.counted.below n c (sym (joined.bodies n) ∙ is)) };
    }

-- structures stay built in which two types are made one
pub united_built : (t u : PlainType) (ss ts : List PlainStructure) → AreBuilt ss → united t u ss ≡ Some ts → AreBuilt ts
united_built t u ss ts b e = kept_built ss ts b (united_kept t u ss ts (built_stands ss b) e).0
