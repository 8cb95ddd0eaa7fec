-- Where structures become more, what has a size lies as before.
use Rattle.std.proofs.Common.{◌≡◌, ◌∙◌, sym, refl, ap, subst, arith, ℕ, zero, suc, ◌*◌, ◌≤◌, true, false, ◌||◌, List, [], ◌∷◌, ◌++◌, length, All, Option, Some, None, is_some, slice_get}
use Rattle.std.proofs.lemmas.List.{length-append}
use Rattle.std.proofs.lemmas.List.Elements.{All-head, All-tail}
use Rattle.p10_base.specs.Words.{Text}
use Rattle.p10_core.specs.Types.{PlainType, void, integer, pointer, array, structure, PlainMember, PlainBody, PlainStructure, body_of, members_in, representative_in}
use Rattle.p10_core.specs.Sizes.{Layout, repeated, layout_of_members, with_mark, layout_by, structure_layout, layout_of}
use Rattle.p10_core.specs.Rows.{is_complete}
use Rattle.p10_core.specs.WholePrograms.{IsWholeType, IsWholeMember, AreWholeStructures, most_bytes}
use Rattle.p10_core.specs.Completing.{incomplete_structure, with_structure, complete_count, member_layout, body_with, with_body, completed, MayComplete, takes_members}
use Rattle.p10_core.proofs.Layouts.{Agree, members_same, body_there, type_same, stable}
use Rattle.p10_core.proofs.Bareness.{below_all}
use Rattle.p10_core.proofs.Growing.{bare_same, SaysTheSame, says_the_same}
use Rattle.p10_core.proofs.Completing.{one_more_is_built, completed_are_built}
use Rattle.p10_core.proofs.MemberLayouts.{may_by_test}
use Rattle.p10_wholeness.specs.Growth.{AreMore, StayBuilt}
use Rattle.p10_wholeness.specs.Laws.{TypesStayWhole}

-- ## What has a size

pub complete_kept : (ss ts : List PlainStructure) → AreMore ss ts → (t : PlainType) → is_complete ss t ≡ true → is_complete ts t ≡ true
complete_kept ss ts g (void c) h = h
complete_kept ss ts g (integer c i) h = refl
complete_kept ss ts g (pointer c t) h = refl
complete_kept ss ts g (array c t n) h = complete_kept ss ts g t h
complete_kept ss ts g (structure c n) h = body_there (body_of ss n) h (λ b is. ap is_some (g.bodies n b is))

type_kept : (ss ts : List PlainStructure) → AreMore ss ts → (F G : ℕ → Layout) → ((k : ℕ) (c : PlainBody) → body_of ss k ≡ Some c → F k ≡ G k) → (t : PlainType) → is_complete ss t ≡ true → layout_by ts F t ≡ layout_by ss G t
type_kept ss ts g F G agree (void c) h = refl
type_kept ss ts g F G agree (integer c i) h = refl
type_kept ss ts g F G agree (pointer c t) h =
    ap (λ u. record { bytes = 8; alignment = 8; scalars = pointer false u ∷ []; constant = c }) (bare_same ts ss g.representatives t)
type_kept ss ts g F G agree (array c t n) h =
    ap (λ l. let l : Layout = l in record { bytes = n * l.bytes; alignment = l.alignment; scalars = repeated n l.scalars; constant = c || l.constant }) (type_kept ss ts g F G agree t h)
type_kept ss ts g F G agree (structure c n) h = body_there (body_of ss n) h (λ b is. ap (with_mark c) (agree n b is))

agree_on : (f g : PlainType → Layout) (ss : List PlainStructure) (order : ℕ) → ((t : PlainType) → is_complete ss t ≡ true → f t ≡ g t) → (ms : List PlainMember) → All (IsWholeMember ss order) ms → Agree f g ms
agree_on f g ss order same [] h = tt
agree_on f g ss order same (m ∷ ms) h =
    (same m.type (All-head (IsWholeMember ss order) m ms h).object.complete, agree_on f g ss order same ms (All-tail (IsWholeMember ss order) m ms h))

structure_kept : (ss ts : List PlainStructure) → AreMore ss ts → AreWholeStructures ss → (d k : ℕ) (c : PlainBody) → body_of ss k ≡ Some c → structure_layout d ts k ≡ structure_layout d ss k
structure_kept ss ts g w zero k c is = refl
structure_kept ss ts g w (suc d) k c is =
    let inner : (t : PlainType) → is_complete ss t ≡ true → layout_by ts (structure_layout d ts) t ≡ layout_by ss (structure_layout d ss) t =
    type_kept ss ts g (structure_layout d ts) (structure_layout d ss) (structure_kept ss ts g w d) in
    ap (λ o. layout_of_members (layout_by ts (structure_layout d ts)) (members_in o)) (g.bodies k c is)
    ∙ members_same (layout_by ts (structure_layout d ts)) (layout_by ss (structure_layout d ss)) c.members
    (agree_on (layout_by ts (structure_layout d ts)) (layout_by ss (structure_layout d ss)) ss c.order inner c.members (w.bodies k c is).members)
    ∙ sym (ap (λ o. layout_of_members (layout_by ss (structure_layout d ss)) (members_in o)) is)

-- no depth above the number of structures counts
at_depth : (ss : List PlainStructure) → AreWholeStructures ss → (d : ℕ) → length ss ≤ d → (t : PlainType) → is_complete ss t ≡ true → layout_by ss (structure_layout d ss) t ≡ layout_of ss t
unfolding layout_of
at_depth ss w d p t full =
    type_same ss (length ss) (structure_layout d ss) (structure_layout (length ss) ss)
    (λ n b is low. stable ss w d (length ss) n b is (omega (arith, low, p)) low) t (below_all ss w t full) full

layout_kept : (ss ts : List PlainStructure) → AreMore ss ts → AreWholeStructures ss → (t : PlainType) → is_complete ss t ≡ true → layout_of ts t ≡ layout_of ss t
unfolding layout_of
layout_kept ss ts g w t h =
    type_kept ss ts g (structure_layout (length ts) ts) (structure_layout (length ts) ss) (structure_kept ss ts g w (length ts)) t h
    ∙ at_depth ss w (length ts) g.count t h

whole_kept : (ss ts : List PlainStructure) → AreMore ss ts → AreWholeStructures ss → (t : PlainType) → IsWholeType ss t → IsWholeType ts t
whole_kept ss ts g w (void c) h = tt
whole_kept ss ts g w (integer c i) h = tt
whole_kept ss ts g w (pointer c t) h = (whole_kept ss ts g w t h.0, h.1)
whole_kept ss ts g w (array c t n) h =
    let full : is_complete ss t ≡ true = h.1 in (
      whole_kept ss ts g w t h.0,
      complete_kept ss ts g t full,
      h.2,
      subst (λ k. k ≤ most_bytes) (sym (ap (λ l. l.bytes) (layout_kept ss ts g w (array c t n) full))) h.3,
    )
whole_kept ss ts g w (structure c n) h = omega (arith, h, g.count)

pub types_stay_whole : TypesStayWhole
types_stay_whole ss ts t w g = record { whole = whole_kept ss ts g w t; complete = complete_kept ss ts g t; layout = layout_kept ss ts g w t }

-- ## Steps

pub more_itself : (ss : List PlainStructure) → AreMore ss ss
more_itself ss = record { count = omega arith; bodies = λ n b is. is; representatives = λ n. refl }

pub built_itself : (ss : List PlainStructure) → StayBuilt ss ss
built_itself ss = record { more = more_itself ss; built = λ h. h }

pub builds_on : {ss ts us : List PlainStructure} → StayBuilt ss ts → StayBuilt ts us → StayBuilt ss us
builds_on a b = record {
  more = record {
    count = omega (arith, a.more.count, b.more.count);
    bodies = λ n c is. b.more.bodies n c (a.more.bodies n c is);
    representatives = λ n. b.more.representatives n ∙ a.more.representatives n;
  };
  built = λ h. b.built (a.built h);
}

pub built_same : {ss ts : List PlainStructure} → ss ≡ ts → StayBuilt ss ts
built_same {ss = ss} e = subst (StayBuilt ss) e (built_itself ss)

-- one structure more
pub one_more_stays_built : (ss : List PlainStructure) (tag : Option Text) → StayBuilt ss (with_structure ss tag)
one_more_stays_built ss tag =
    let s : PlainStructure = incomplete_structure (length ss) tag in
    let same : SaysTheSame (ss ++ s ∷ []) ss = says_the_same ss s (record { incomplete = refl; own = refl }) in
    record {
      more = record {
        count = omega (arith, length-append ss (s ∷ []));
        bodies = λ n b is. same.bodies n ∙ is;
        representatives = same.representatives;
      };
      built = one_more_is_built ss tag;
    }

-- a structure that wasn't complete gets its members
as_many : (ss : List PlainStructure) (n : ℕ) (b : PlainBody) → length (with_body ss n b) ≡ length ss
as_many [] n b = refl
as_many (s ∷ ss) zero b = refl
as_many (s ∷ ss) (suc n) b = ap suc (as_many ss n b)

stands_as_before : (ss : List PlainStructure) (n m k : ℕ) (b : PlainBody) → representative_in m (slice_get (with_body ss n b) k) ≡ representative_in m (slice_get ss k)
stands_as_before [] n m k b = refl
stands_as_before (s ∷ ss) zero m zero b = refl
stands_as_before (s ∷ ss) zero m (suc k) b = refl
stands_as_before (s ∷ ss) (suc n) m zero b = refl
stands_as_before (s ∷ ss) (suc n) m (suc k) b = stands_as_before ss n m k b

body_kept : (ss : List PlainStructure) (n k : ℕ) (b c : PlainBody) → body_of ss n ≡ None → body_of ss k ≡ Some c → body_of (with_body ss n b) k ≡ Some c
body_kept [] n k b c none is = is
body_kept (s ∷ ss) zero zero b c none is = absurd (never c (sym none ∙ is))
  where
    never : (c : PlainBody) → None ≡ Some c → ⊥
    never c e = cc
body_kept (s ∷ ss) zero (suc k) b c none is = is
body_kept (s ∷ ss) (suc n) zero b c none is = is
body_kept (s ∷ ss) (suc n) (suc k) b c none is = body_kept ss n k b c none is

pub completed_stays_built : (ss : List PlainStructure) (n : ℕ) (members : List PlainMember) → takes_members ss n members ≡ true → (member_layout ss members).bytes ≤ most_bytes →
    StayBuilt ss (completed ss n members)
completed_stays_built ss n members takes small =
    let may : MayComplete ss n members = may_by_test ss n members takes in
    let b : PlainBody = body_with ss (complete_count ss) members in
    record {
      more = record {
        count = omega (arith, as_many ss n b);
        bodies = λ k c is. body_kept ss n k b c may.incomplete is;
        representatives = λ k. stands_as_before ss n k k b;
      };
      built = λ built. completed_are_built ss n members built may small;
    }
