-- A structure that is completed: all that had a size lies as before, and the structures stay whole.
use Rattle.std.proofs.Common.{◌≡◌, ℕ, zero, suc, ◌+◌, ◌*◌, ◌<◌, ◌≤◌, true, false, cond, ◌||◌, ◌⊎◌, inl, inr, List, [], ◌∷◌, ◌++◌, map, length, All, Option, Some, None, is_some, slice_get, slice_index_or, refl, sym, ◌∙◌, ap, subst, arith}
use Rattle.std.proofs.lemmas.Bool.{cases_lt}
use Rattle.std.proofs.lemmas.List.Elements.{All-head, All-tail}
use Rattle.p10_core.specs.Types.{PlainType, void, integer, pointer, array, structure, PlainMember, PlainBody, PlainStructure, body_of, members_in, members_of, representative_in, representative_of}
use Rattle.p10_core.specs.Sizes.{Layout, repeated, layout_of_members, with_mark, layout_by, structure_layout, layout_of}
use Rattle.p10_core.specs.Rows.{is_complete}
use Rattle.p10_core.specs.WholePrograms.{order_in, ContainsBefore, IsWholeType, IsObjectType, IsWholeMember, IsWholeBody, AreWholeStructures, bare_member, most_bytes}
use Rattle.p10_core.specs.Completing.{incomplete_structure, complete_count, member_layout, body_with, with_body, completed, AreCounted, AreBuilt, MayComplete, NoneAreBuilt, OneMoreIsBuilt, CompletedAreBuilt}
use Rattle.p10_core.proofs.Layouts.{Agree, members_same, body_there, type_same, stable}
use Rattle.p10_core.proofs.Growing.{bare_same, bare_members_same, IsNew, SaysTheSame, says_the_same, structures_grown}

-- ## What with_body says

body_at : (ss : List PlainStructure) (n : ℕ) (b : PlainBody) → n < length ss → body_of (with_body ss n b) n ≡ Some b
body_at [] n b h = absurd (omega (arith, h))
body_at (s ∷ ss) zero b h = refl
body_at (s ∷ ss) (suc n) b h = body_at ss n b (omega (arith, h))

body_elsewhere : (ss : List PlainStructure) (n k : ℕ) (b : PlainBody) → (n ≡ k → ⊥) → body_of (with_body ss n b) k ≡ body_of ss k
body_elsewhere [] n k b h = refl
body_elsewhere (s ∷ ss) zero zero b h = absurd (h refl)
body_elsewhere (s ∷ ss) zero (suc k) b h = refl
body_elsewhere (s ∷ ss) (suc n) zero b h = refl
body_elsewhere (s ∷ ss) (suc n) (suc k) b h = body_elsewhere ss n k b (λ e. h (ap suc e))

stands_as_before : (ss : List PlainStructure) (n m k : ℕ) (b : PlainBody) → representative_in m (slice_get (with_body ss n b) k) ≡ representative_in m (slice_get ss k)
stands_as_before [] n m k b = refl
stands_as_before (s ∷ ss) zero m zero b = refl
stands_as_before (s ∷ ss) zero m (suc k) b = refl
stands_as_before (s ∷ ss) (suc n) m zero b = refl
stands_as_before (s ∷ ss) (suc n) m (suc k) b = stands_as_before ss n m k b

as_many : (ss : List PlainStructure) (n : ℕ) (b : PlainBody) → length (with_body ss n b) ≡ length ss
as_many [] n b = refl
as_many (s ∷ ss) zero b = refl
as_many (s ∷ ss) (suc n) b = ap suc (as_many ss n b)

none_or_some : (o : Option PlainBody) → (o ≡ None) ⊎ (is_some o ≡ true)
none_or_some None = inl refl
none_or_some (Some b) = inr refl

count_one : (s : PlainStructure) (ss : List PlainStructure) → is_some s.body ≡ true → complete_count (s ∷ ss) ≡ suc (complete_count ss)
count_one s ss h =
    let e : 1 + complete_count ss ≡ suc (complete_count ss) = omega arith in
    ap (λ b. cond b 1 0 + complete_count ss) h ∙ e

count_none : (s : PlainStructure) (ss : List PlainStructure) → s.body ≡ None → complete_count (s ∷ ss) ≡ complete_count ss
count_none s ss h =
    let e : 0 + complete_count ss ≡ complete_count ss = omega arith in
    ap (λ o. cond (is_some o) 1 0 + complete_count ss) h ∙ e

pub one_more : (ss : List PlainStructure) (n : ℕ) (b : PlainBody) → n < length ss → body_of ss n ≡ None → complete_count (with_body ss n b) ≡ suc (complete_count ss)
one_more [] n b h e = absurd (omega (arith, h))
one_more (s ∷ ss) zero b h e = count_one (record s { body = Some b }) ss refl ∙ ap suc (sym (count_none s ss e))
one_more (s ∷ ss) (suc n) b h e = elim (none_or_some s.body) as (λ _. complete_count (s ∷ with_body ss n b) ≡ suc (complete_count (s ∷ ss))) [
  | inl is ↦ count_none s (with_body ss n b) is ∙ one_more ss n b (omega (arith, h)) e ∙ ap suc (sym (count_none s ss is))
  | inr is ↦ count_one s (with_body ss n b) is ∙ ap suc (one_more ss n b (omega (arith, h)) e) ∙ ap suc (sym (count_one s ss is))
]

at_most_all : (ss : List PlainStructure) → complete_count ss ≤ length ss
at_most_all [] = omega arith
at_most_all (s ∷ ss) = elim (none_or_some s.body) as (λ _. complete_count (s ∷ ss) ≤ length (s ∷ ss)) [
  | inl is ↦ omega (arith, count_none s ss is, at_most_all ss)
  | inr is ↦ omega (arith, count_one s ss is, at_most_all ss)
]

pub fewer_than_all : (ss : List PlainStructure) (n : ℕ) → n < length ss → body_of ss n ≡ None → complete_count ss < length ss
fewer_than_all [] n h e = absurd (omega (arith, h))
fewer_than_all (s ∷ ss) zero h e = omega (arith, count_none s ss e, at_most_all ss)
fewer_than_all (s ∷ ss) (suc n) h e = elim (none_or_some s.body) as (λ _. complete_count (s ∷ ss) < length (s ∷ ss)) [
  | inl is ↦ omega (arith, count_none s ss is, fewer_than_all ss n (omega (arith, h)) e)
  | inr is ↦ omega (arith, count_one s ss is, fewer_than_all ss n (omega (arith, h)) e)
]

pub count_pushed : (ss : List PlainStructure) (s : PlainStructure) → s.body ≡ None → complete_count (ss ++ s ∷ []) ≡ complete_count ss
count_pushed [] s e = count_none s [] e
count_pushed (x ∷ ss) s e = elim (none_or_some x.body) as (λ _. complete_count (x ∷ (ss ++ s ∷ [])) ≡ complete_count (x ∷ ss)) [
  | inl is ↦ count_none x (ss ++ s ∷ []) is ∙ count_pushed ss s e ∙ sym (count_none x ss is)
  | inr is ↦ count_one x (ss ++ s ∷ []) is ∙ ap suc (count_pushed ss s e) ∙ sym (count_one x ss is)
]

-- ## All that had a size lies as before

-- a structure that wasn't complete has a body, and the others are as they were
record IsGrown (ss ts : List PlainStructure) : Type 0 where
  kept : (k : ℕ) (c : PlainBody) → body_of ss k ≡ Some c → body_of ts k ≡ Some c
  representatives : (k : ℕ) → representative_of ts k ≡ representative_of ss k
  lengths : length ts ≡ length ss

complete_kept : (ss ts : List PlainStructure) → IsGrown ss ts → (t : PlainType) → is_complete ss t ≡ true → is_complete ts t ≡ true
complete_kept ss ts g (void c) h = h
complete_kept ss ts g (integer c i) h = refl
complete_kept ss ts g (pointer c t) h = refl
complete_kept ss ts g (array c t n) h = complete_kept ss ts g t h
complete_kept ss ts g (structure c n) h = body_there (body_of ss n) h (λ b is. ap is_some (g.kept n b is))

type_kept : (ss ts : List PlainStructure) → IsGrown ss ts → (F G : ℕ → Layout) → ((k : ℕ) (c : PlainBody) → body_of ss k ≡ Some c → F k ≡ G k) → (t : PlainType) → is_complete ss t ≡ true → layout_by ts F t ≡ layout_by ss G t
type_kept ss ts g F G agree (void c) h = refl
type_kept ss ts g F G agree (integer c i) h = refl
type_kept ss ts g F G agree (pointer c t) h =
    ap (λ u. record { bytes = 8; alignment = 8; scalars = pointer false u ∷ []; constant = c }) (bare_same ts ss g.representatives t)
type_kept ss ts g F G agree (array c t n) h =
    ap (λ l. let l : Layout = l in record { bytes = n * l.bytes; alignment = l.alignment; scalars = repeated n l.scalars; constant = c || l.constant }) (type_kept ss ts g F G agree t h)
type_kept ss ts g F G agree (structure c n) h = body_there (body_of ss n) h (λ b is. ap (with_mark c) (agree n b is))

agree_on : (f g : PlainType → Layout) (ss : List PlainStructure) (order : ℕ) → ((t : PlainType) → is_complete ss t ≡ true → f t ≡ g t) → (ms : List PlainMember) → All (IsWholeMember ss order) ms → Agree f g ms
agree_on f g ss order same [] h = tt
agree_on f g ss order same (m ∷ ms) h =
    (same m.type (All-head (IsWholeMember ss order) m ms h).object.complete, agree_on f g ss order same ms (All-tail (IsWholeMember ss order) m ms h))

structure_kept : (ss ts : List PlainStructure) → IsGrown ss ts → AreWholeStructures ss → (d k : ℕ) (c : PlainBody) → body_of ss k ≡ Some c → structure_layout d ts k ≡ structure_layout d ss k
structure_kept ss ts g w zero k c is = refl
structure_kept ss ts g w (suc d) k c is =
    let inner : (t : PlainType) → is_complete ss t ≡ true → layout_by ts (structure_layout d ts) t ≡ layout_by ss (structure_layout d ss) t =
    type_kept ss ts g (structure_layout d ts) (structure_layout d ss) (structure_kept ss ts g w d) in
    ap (λ o. layout_of_members (layout_by ts (structure_layout d ts)) (members_in o)) (g.kept k c is)
    ∙ members_same (layout_by ts (structure_layout d ts)) (layout_by ss (structure_layout d ss)) c.members
    (agree_on (layout_by ts (structure_layout d ts)) (layout_by ss (structure_layout d ss)) ss c.order inner c.members (w.bodies k c is).members)
    ∙ sym (ap (λ o. layout_of_members (layout_by ss (structure_layout d ss)) (members_in o)) is)

layout_kept : (ss ts : List PlainStructure) → IsGrown ss ts → AreWholeStructures ss → (t : PlainType) → is_complete ss t ≡ true → layout_of ts t ≡ layout_of ss t
unfolding layout_of
layout_kept ss ts g w t h =
    ap (λ d. layout_by ts (structure_layout d ts) t) g.lengths
    ∙ type_kept ss ts g (structure_layout (length ss) ts) (structure_layout (length ss) ss) (structure_kept ss ts g w (length ss)) t h

whole_kept : (ss ts : List PlainStructure) → IsGrown ss ts → AreWholeStructures ss → (t : PlainType) → IsWholeType ss t → IsWholeType ts t
whole_kept ss ts g w (void c) h = tt
whole_kept ss ts g w (integer c i) h = tt
whole_kept ss ts g w (pointer c t) h = (whole_kept ss ts g w t h.0, h.1)
whole_kept ss ts g w (array c t n) h =
    let full : is_complete ss t ≡ true = h.1 in (
      whole_kept ss ts g w t h.0,
      complete_kept ss ts g t full,
      h.2,
      subst (λ k. k ≤ most_bytes) (sym (ap (λ l. l.bytes) (layout_kept ss ts g w (array c t n) full))) h.3,
    )
whole_kept ss ts g w (structure c n) h = omega (arith, h, g.lengths)

object_kept : (ss ts : List PlainStructure) → IsGrown ss ts → AreWholeStructures ss → (t : PlainType) → IsObjectType ss t → IsObjectType ts t
object_kept ss ts g w t h = record { whole = whole_kept ss ts g w t h.whole; complete = complete_kept ss ts g t h.complete }

before_kept : (ss ts : List PlainStructure) → IsGrown ss ts → (order : ℕ) (t : PlainType) → is_complete ss t ≡ true → ContainsBefore ss order t → ContainsBefore ts order t
before_kept ss ts g order (void c) full h = tt
before_kept ss ts g order (integer c i) full h = tt
before_kept ss ts g order (pointer c t) full h = tt
before_kept ss ts g order (array c t n) full h = before_kept ss ts g order t full h
before_kept ss ts g order (structure c n) full h =
    body_there (body_of ss n) full (λ b is. subst (λ o. order_in o < order) (is ∙ sym (g.kept n b is)) h)

kept_body : (ss ts : List PlainStructure) → IsGrown ss ts → AreWholeStructures ss → (n : ℕ) (b : PlainBody) → body_of ss n ≡ Some b → IsWholeBody ts n b
kept_body ss ts g w n b is =
    let h : IsWholeBody ss n b = w.bodies n b is in
    let lies : layout_of ts (structure false n) ≡ layout_of ss (structure false n) = layout_kept ss ts g w (structure false n) (ap is_some is) in
    record {
      members = λ k d i. record {
        object = object_kept ss ts g w (slice_index_or b.members k d).type (h.members k d i).object;
        before = before_kept ss ts g b.order (slice_index_or b.members k d).type (h.members k d i).object.complete (h.members k d i).before;
      };
      some = h.some;
      few = omega (arith, h.few, g.lengths);
      bytes_are = h.bytes_are ∙ sym (ap (λ l. l.bytes) lies);
      alignment_is = h.alignment_is ∙ sym (ap (λ l. l.alignment) lies);
      scalars_are = h.scalars_are ∙ sym (ap (λ l. length l.scalars) lies);
      constant_is = h.constant_is ∙ sym (ap (λ l. l.constant) lies);
      small = h.small;
      same_members = ap (λ r. map (bare_member ts) (members_of ts r)) (g.representatives n)
          ∙ body_there (body_of ss (representative_of ss n)) h.complete (λ c at.
          ap (λ o. map (bare_member ts) (members_in o)) (g.kept (representative_of ss n) c at)
          ∙ bare_members_same ts ss g.representatives c.members
          ∙ sym (ap (λ o. map (bare_member ss) (members_in o)) at))
          ∙ h.same_members ∙ sym (bare_members_same ts ss g.representatives b.members);
      complete = ap (λ r. is_complete ts (structure false r)) (g.representatives n)
          ∙ body_there (body_of ss (representative_of ss n)) h.complete (λ c at. ap is_some (g.kept (representative_of ss n) c at));
    }

-- ## The structure that is completed

-- all that lies in a type that has a size was counted
before_count : (ss : List PlainStructure) → AreCounted ss → (t : PlainType) → is_complete ss t ≡ true → ContainsBefore ss (complete_count ss) t
before_count ss k (void c) full = tt
before_count ss k (integer c i) full = tt
before_count ss k (pointer c t) full = tt
before_count ss k (array c t n) full = before_count ss k t full
before_count ss k (structure c n) full =
    body_there (body_of ss n) full (λ b is. subst (λ o. order_in o < complete_count ss) (sym is) (k.below n b is))

agree_on_objects : (f g : PlainType → Layout) (ss : List PlainStructure) → ((t : PlainType) → is_complete ss t ≡ true → f t ≡ g t) → (ms : List PlainMember) → All (λ m. IsObjectType ss m.type) ms → Agree f g ms
agree_on_objects f g ss same [] h = tt
agree_on_objects f g ss same (m ∷ ms) h =
    (same m.type (All-head (λ m. IsObjectType ss m.type) m ms h).complete, agree_on_objects f g ss same ms (All-tail (λ m. IsObjectType ss m.type) m ms h))

-- how the structure lies at a depth that holds all that was counted
lies_at : (ss ts : List PlainStructure) → IsGrown ss ts → AreBuilt ss → (k n : ℕ) (b : PlainBody) → length ss ≡ suc k → complete_count ss ≤ k → All (λ m. IsObjectType ss m.type) b.members → body_of ts n ≡ Some b →
    structure_layout (suc k) ts n ≡ member_layout ss b.members
unfolding layout_of
lies_at ss ts g built k n b long few objects is =
    let w : AreWholeStructures ss = built.whole in
    let one : (t : PlainType) → is_complete ss t ≡ true → layout_by ts (structure_layout k ts) t ≡ layout_of ss t = λ t full.
    type_kept ss ts g (structure_layout k ts) (structure_layout k ss) (structure_kept ss ts g w k) t full
    ∙ type_same ss (complete_count ss) (structure_layout k ss) (structure_layout (suc k) ss)
    (λ m c at low. stable ss w k (suc k) m c at (omega (arith, low, few)) (omega (arith, low, few))) t (before_count ss built.counted t full) full
    ∙ ap (λ d. layout_by ss (structure_layout d ss) t) (sym long) in
    ap (λ o. layout_of_members (layout_by ts (structure_layout k ts)) (members_in o)) is
    ∙ members_same (layout_by ts (structure_layout k ts)) (layout_of ss) b.members (agree_on_objects (layout_by ts (structure_layout k ts)) (layout_of ss) ss one b.members objects)

lies : (ss ts : List PlainStructure) → IsGrown ss ts → AreBuilt ss → (n : ℕ) (b : PlainBody) → complete_count ss < length ss → All (λ m. IsObjectType ss m.type) b.members → body_of ts n ≡ Some b →
    layout_of ts (structure false n) ≡ with_mark false (member_layout ss b.members)
unfolding layout_of
lies ss ts g built n b low objects is =
    let split : (d : ℕ) → length ss ≡ d → structure_layout d ts n ≡ member_layout ss b.members = λ d e. elim d as (λ d. length ss ≡ d → structure_layout d ts n ≡ member_layout ss b.members) [
      | zero ↦ λ e. absurd (omega (arith, e, low))
      | suc k ↦ λ e. lies_at ss ts g built k n b e (omega (arith, e, low)) objects is
    ] e in
    ap (λ d. with_mark false (structure_layout d ts n)) g.lengths ∙ ap (with_mark false) (split (length ss) refl)

-- what a structure is completed to
record IsBody (ss ts : List PlainStructure) (n : ℕ) (b : PlainBody) : Type 0 where
  grown : IsGrown ss ts
  here : body_of ts n ≡ Some b
  elsewhere : (k : ℕ) → (n ≡ k → ⊥) → body_of ts k ≡ body_of ss k

body_whole : (ss ts : List PlainStructure) (n : ℕ) (members : List PlainMember) → AreBuilt ss → MayComplete ss n members → (member_layout ss members).bytes ≤ most_bytes →
    IsBody ss ts n (body_with ss (complete_count ss) members) → IsWholeBody ts n (body_with ss (complete_count ss) members)
body_whole ss ts n members built may small g =
    let b : PlainBody = body_with ss (complete_count ss) members in
    let w : AreWholeStructures ss = built.whole in
    let low : complete_count ss < length ss = fewer_than_all ss n may.there may.incomplete in
    let at : layout_of ts (structure false n) ≡ with_mark false (member_layout ss members) = lies ss ts g.grown built n b low may.objects g.here in
    let own : representative_of ts n ≡ n = g.grown.representatives n ∙ may.own in
    record {
      members = λ k d i. record {
        object = object_kept ss ts g.grown w (slice_index_or members k d).type (may.objects k d i);
        before = before_kept ss ts g.grown (complete_count ss) (slice_index_or members k d).type (may.objects k d i).complete (before_count ss built.counted (slice_index_or members k d).type (may.objects k d i).complete);
      };
      some = may.some;
      few = omega (arith, low, g.grown.lengths);
      bytes_are = sym (ap (λ l. l.bytes) at);
      alignment_is = sym (ap (λ l. l.alignment) at);
      scalars_are = sym (ap (λ l. length l.scalars) at);
      constant_is = sym (ap (λ l. l.constant) at);
      small = small;
      same_members = ap (λ r. map (bare_member ts) (members_of ts r)) own ∙ ap (λ o. map (bare_member ts) (members_in o)) g.here;
      complete = ap (λ r. is_complete ts (structure false r)) own ∙ ap is_some g.here;
    }

some_is : (b c : PlainBody) → Some b ≡ Some c → b ≡ c
some_is b c e = cc

bodies_whole : (ss ts : List PlainStructure) (n : ℕ) (members : List PlainMember) → AreBuilt ss → MayComplete ss n members → (member_layout ss members).bytes ≤ most_bytes →
    IsBody ss ts n (body_with ss (complete_count ss) members) → (k : ℕ) (c : PlainBody) → body_of ts k ≡ Some c → IsWholeBody ts k c
bodies_whole ss ts n members built may small g k c is =
    let b : PlainBody = body_with ss (complete_count ss) members in
    let other : (n ≡ k → ⊥) → IsWholeBody ts k c = λ apart. kept_body ss ts g.grown built.whole k c (sym (g.elsewhere k apart) ∙ is) in
    let this : n ≡ k → IsWholeBody ts k c = λ e.
    let P : ℕ → Type 0 = λ m. IsWholeBody ts m c in
    let Q : PlainBody → Type 0 = λ d. IsWholeBody ts n d in
    subst P e (subst Q (some_is b c (sym g.here ∙ ap (body_of ts) e ∙ is)) (body_whole ss ts n members built may small g)) in
    elim (cases_lt n k) as (λ _. IsWholeBody ts k c) [
      | inl less ↦ other (λ e. omega (arith, less, e))
      | inr above ↦ elim (cases_lt k n) as (λ _. IsWholeBody ts k c) [
        | inl less ↦ other (λ e. omega (arith, less, e))
        | inr below ↦ this (omega (arith, above, below))
      ]
    ]

grown_by : (ss : List PlainStructure) (n : ℕ) (b : PlainBody) → n < length ss → body_of ss n ≡ None → IsBody ss (with_body ss n b) n b
grown_by ss n b there open' = record {
  grown = record {
    kept = λ k c is. body_elsewhere ss n k b (λ e. absurd (not_both (body_of ss k) c (sym (ap (body_of ss) e) ∙ open') is)) ∙ is;
    representatives = λ k. stands_as_before ss n k k b;
    lengths = as_many ss n b;
  };
  here = body_at ss n b there;
  elsewhere = λ k apart. body_elsewhere ss n k b apart;
}
  where
    none_is : (c : PlainBody) → None ≡ Some c → ⊥
    none_is c e = cc

    not_both : (o : Option PlainBody) (c : PlainBody) → o ≡ None → o ≡ Some c → ⊥
    not_both o c p q = none_is c (sym p ∙ q)

completed_counted : (ss ts : List PlainStructure) (n : ℕ) (members : List PlainMember) → AreBuilt ss → IsBody ss ts n (body_with ss (complete_count ss) members) → complete_count ts ≡ suc (complete_count ss) →
    (k : ℕ) (c : PlainBody) → body_of ts k ≡ Some c → c.order < complete_count ts
completed_counted ss ts n members built g more k c is =
    let b : PlainBody = body_with ss (complete_count ss) members in
    let other : (n ≡ k → ⊥) → c.order < complete_count ts = λ apart. omega (arith, more, built.counted.below k c (sym (g.elsewhere k apart) ∙ is)) in
    let this : n ≡ k → c.order < complete_count ts = λ e. omega (arith, more, ap (λ d. d.order) (some_is b c (sym g.here ∙ ap (body_of ts) e ∙ is))) in
    elim (cases_lt n k) as (λ _. c.order < complete_count ts) [
      | inl less ↦ other (λ e. omega (arith, less, e))
      | inr above ↦ elim (cases_lt k n) as (λ _. c.order < complete_count ts) [
        | inl less ↦ other (λ e. omega (arith, less, e))
        | inr below ↦ this (omega (arith, above, below))
      ]
    ]

pub none_are_built : NoneAreBuilt
none_are_built = record {
  whole = record {
    bodies = λ n b is. absurd (none_is b is);
    representatives = λ n h. absurd (omega (arith, h));
    stand_for_themselves = λ n. refl;
  };
  counted = record { below = λ n b is. absurd (none_is b is) };
}
  where
    none_is : (c : PlainBody) → None ≡ Some c → ⊥
    none_is c e = cc

pub one_more_is_built : OneMoreIsBuilt
one_more_is_built ss tag built =
    let s : PlainStructure = incomplete_structure (length ss) tag in
    let new : IsNew ss s = record { incomplete = refl; own = refl } in
    let same : SaysTheSame (ss ++ s ∷ []) ss = says_the_same ss s new in
    let counts : complete_count (ss ++ s ∷ []) ≡ complete_count ss = count_pushed ss s refl in
    record {
      whole = structures_grown ss s new built.whole;
      counted = record { below = λ n b is. omega (arith, counts, built.counted.below n b (sym (same.bodies n) ∙ is)) };
    }

pub completed_are_built : CompletedAreBuilt
completed_are_built ss n members built may small =
    let b : PlainBody = body_with ss (complete_count ss) members in
    let ts : List PlainStructure = completed ss n members in
    let g : IsBody ss ts n b = grown_by ss n b may.there may.incomplete in
    let w : AreWholeStructures ss = built.whole in
    record {
      whole = record {
        bodies = bodies_whole ss ts n members built may small g;
        representatives = λ k h.
            omega (arith, w.representatives k (omega (arith, h, g.grown.lengths)), g.grown.lengths, g.grown.representatives k);
        stand_for_themselves = λ k.
            ap (representative_of ts) (g.grown.representatives k) ∙ g.grown.representatives (representative_of ss k)
            ∙ w.stand_for_themselves k ∙ sym (g.grown.representatives k);
      };
      counted = record { below = completed_counted ss ts n members built g (one_more ss n b may.there may.incomplete) };
    }
