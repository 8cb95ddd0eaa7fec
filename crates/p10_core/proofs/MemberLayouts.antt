-- How members lie, one after the other, is how they lie in a structure.
use Rattle.std.proofs.Common.{◌≡◌, ℕ, suc, ◌+◌, ◌-◌, ◌*◌, ◌/◌, ◌<◌, ◌≤◌, max, Bool, true, false, not, ◌&&◌, ◌||◌, nat_eq, nat_lt, inl, inr, slice_get, List, [], ◌∷◌, ◌++◌, length, All, Option, Some, None, is_some, refl, sym, ◌∙◌, ap, subst, arith, length-append, Fits, w64}
use Rattle.std.proofs.lemmas.Bool.{leb-true, ltb-true, eqb-true, not-true, cases_lt}
use Rattle.std.proofs.lemmas.Option.{slice_get_past}
use Rattle.std.proofs.lemmas.List.Elements.{All-cons}
use Rattle.std.proofs.lemmas.Bool.{le-leb}
use Rattle.std.proofs.Math.Nat.{div-mul-le_self, le-div_iff_mul-le}
use Rattle.std.proofs.Common.{nat_le, map, drop, drop-cons, get_or}
use Rattle.std.proofs.Math.ListN.{drop_of_length-le}
use Rattle.p10_core.specs.declared.structures.Member.{Member}
use Rattle.p10_core.specs.Types.{PlainType, void, integer, pointer, array, structure, PlainMember, plain_member, PlainBody, PlainStructure, body_in, body_of, representative_in, representative_of}
use Rattle.p10_core.specs.Sizes.{Layout, aligned, past_members, greatest_alignment, scalars_of_members, constant_among, layout_of_members, layout_of, size_of, scalars_of}
use Rattle.p10_core.specs.Rows.{is_void, is_complete}
use Rattle.p10_core.specs.WholePrograms.{most_bytes, IsWholeType, IsObjectType, AreWholeStructures}
use Rattle.p10_core.specs.Completing.{is_whole_type, is_object_type, are_objects, is_open_in, takes_members, MayComplete}
use Rattle.p10_core.specs.declared.lay.Lay.{Lay}
use Rattle.p10_core.specs.private.Partials.{Partial, no_members, with_layout, with_members, partial_of, IsSmall, LiesAs, IsPadded}
use Rattle.p10_core.proofs.Layouts.{body_there}
use Rattle.p10_core.proofs.ScalarCounts.{IsFilled, AreFilled, filled, past_enough, greatest_some, aligned_at_least, array_scalars, array_scalars_few}

-- ## Tests

pub both : (a b : Bool) → (a && b) ≡ true → (a ≡ true) × (b ≡ true)
both true b e = (refl, e)
both false b e = absurd cc

pub whole_by_test : (ss : List PlainStructure) (t : PlainType) → is_whole_type ss t ≡ true → IsWholeType ss t
whole_by_test ss (void c) e = tt
whole_by_test ss (integer c i) e = tt
whole_by_test ss (pointer c t) e =
    let h = both (not (is_void t)) (is_whole_type ss t) e in (whole_by_test ss t h.1, not-true (is_void t) h.0)
whole_by_test ss (array c t n) e =
    let h = both (is_complete ss t && is_whole_type ss t) _ e in
    let element = both (is_complete ss t) (is_whole_type ss t) h.0 in
    let size = both _ _ h.1 in
    (whole_by_test ss t element.1, element.0, leb-true _ _ size.0, leb-true _ _ size.1)
whole_by_test ss (structure c n) e = ltb-true _ _ e

pub object_by_test : (ss : List PlainStructure) (t : PlainType) → is_object_type ss t ≡ true → IsObjectType ss t
object_by_test ss t e =
    let h = both (is_complete ss t) (is_whole_type ss t) e in record { whole = whole_by_test ss t h.1; complete = h.0 }

objects_by_test : (ss : List PlainStructure) (ms : List PlainMember) → are_objects ss ms ≡ true → All (λ m. IsObjectType ss m.type) ms
objects_by_test ss [] e = λ k d h. absurd (omega (arith, h))
objects_by_test ss (m ∷ ms) e =
    let h = both (is_object_type ss m.type) (are_objects ss ms) e in
    All-cons (λ m. IsObjectType ss m.type) m ms (object_by_test ss m.type h.0) (objects_by_test ss ms h.1)

-- a structure that is there, isn't complete and stands for itself
record IsOpen (ss : List PlainStructure) (n : ℕ) : Type 0 where
  there : n < length ss
  incomplete : body_of ss n ≡ None
  own : representative_of ss n ≡ n

no_body : (o : Option PlainBody) → not (is_some o) ≡ true → o ≡ None
no_body None e = refl
no_body (Some b) e = absurd cc

open_in : (n : ℕ) (o : Option PlainStructure) → is_open_in n o ≡ true → (body_in o ≡ None) × (representative_in n o ≡ n)
open_in n None e = absurd cc
open_in n (Some s) e = let h = both (not (is_some s.body)) (nat_eq s.representative n) e in (no_body s.body h.0, eqb-true _ _ h.1)

open_by_test : (ss : List PlainStructure) (n : ℕ) → is_open_in n (slice_get ss n) ≡ true → IsOpen ss n
open_by_test ss n e =
    let h = open_in n (slice_get ss n) e in
    let none : n < length ss → IsOpen ss n = λ there. record { there = there; incomplete = h.0; own = h.1 } in
    elim (cases_lt n (length ss)) as (λ _. IsOpen ss n) [
      | inl low ↦ none low
      | inr high ↦ absurd (not_open (sym (ap (is_open_in n) (slice_get_past ss n high)) ∙ e))
    ]
  where
    not_open : false ≡ true → ⊥
    not_open e = cc

pub may_by_test : (ss : List PlainStructure) (n : ℕ) (ms : List PlainMember) → takes_members ss n ms ≡ true → MayComplete ss n ms
may_by_test ss n ms e =
    let h = both (is_open_in n (slice_get ss n) && nat_lt 0 (length ms)) (are_objects ss ms) e in
    let first = both (is_open_in n (slice_get ss n)) (nat_lt 0 (length ms)) h.0 in
    let o : IsOpen ss n = open_by_test ss n first.0 in
    record { there = o.there; incomplete = o.incomplete; own = o.own; some = ltb-true _ _ first.1; objects = objects_by_test ss ms h.1 }

-- ## Sizes

pub most_is : most_bytes ≡ 1099511627776
unfolding most_bytes
most_is = refl

pub object_small : (ss : List PlainStructure) → AreWholeStructures ss → (t : PlainType) → IsObjectType ss t → size_of ss t ≤ most_bytes
unfolding layout_of
object_small ss w (void c) h = absurd cc
object_small ss w (integer c i) h = omega (arith, most_is, (filled ss w (integer c i) h).low)
object_small ss w (pointer c t) h = omega (arith, most_is)
object_small ss w (array c t n) h = h.whole.3
object_small ss w (structure c n) h = body_there (body_of ss n) h.complete (λ b is. subst (λ k. k ≤ most_bytes) (w.bodies n b is).bytes_are (w.bodies n b is).small)

pub alignment_some : (ss : List PlainStructure) → AreWholeStructures ss → (t : PlainType) → IsObjectType ss t → 1 ≤ (layout_of ss t).alignment
alignment_some ss w t h = (filled ss w t h).aligns

pub alignment_low : (ss : List PlainStructure) → AreWholeStructures ss → (t : PlainType) → IsObjectType ss t → (layout_of ss t).alignment ≤ 8
alignment_low ss w t h = (filled ss w t h).low

-- the place past a structure is at most 7 bytes past its members
pub aligned_at_most : (n a : ℕ) → a ≤ 8 → aligned n a ≤ n + 7
aligned_at_most n a h = omega (arith, h, div-mul-le_self (n + (a - 1)) a)

-- a member more
pub with_small : (p : Partial) (l : Layout) → IsSmall p → IsFilled l → (with_layout p l).past ≤ most_bytes → IsSmall (with_layout p l)
with_small p l s f h =
    let up : p.past ≤ aligned p.past l.alignment = aligned_at_least p.past l.alignment f.aligns in
    record {
      bytes = h;
      filled = omega (arith, up, s.filled, f.enough);
      aligns = omega (arith, s.aligns);
      low = omega (arith, s.low, f.low);
    }

pub none_small : IsSmall no_members
unfolding most_bytes
none_small = record { bytes = omega arith; filled = omega arith; aligns = omega arith; low = omega arith }

-- ## One after the other

past_is : (f : PlainType → Layout) (p : Partial) (ms : List PlainMember) → past_members f p.past ms ≡ (with_members f p ms).past
past_is f p [] = refl
past_is f p (m ∷ ms) = past_is f (with_layout p (f m.type)) ms

alignment_is : (f : PlainType → Layout) (p : Partial) (ms : List PlainMember) → 1 ≤ p.alignment → max p.alignment (greatest_alignment f ms) ≡ (with_members f p ms).alignment
alignment_is f p [] h = omega (arith, h)
alignment_is f p (m ∷ ms) h =
    let regroup : max p.alignment (max (f m.type).alignment (greatest_alignment f ms)) ≡ max (max p.alignment (f m.type).alignment) (greatest_alignment f ms) = omega arith in
    let more : 1 ≤ max p.alignment (f m.type).alignment = omega (arith, h) in
    regroup ∙ alignment_is f (with_layout p (f m.type)) ms more

scalars_is : (f : PlainType → Layout) (p : Partial) (ms : List PlainMember) → p.scalars + length (scalars_of_members f ms) ≡ (with_members f p ms).scalars
scalars_is f p [] = omega arith
scalars_is f p (m ∷ ms) =
    let regroup : p.scalars + length ((f m.type).scalars ++ scalars_of_members f ms) ≡ (p.scalars + length (f m.type).scalars) + length (scalars_of_members f ms) =
    omega (arith, length-append (f m.type).scalars (scalars_of_members f ms)) in
    regroup ∙ scalars_is f (with_layout p (f m.type)) ms

or_regroup : (a b c : Bool) → (a || (b || c)) ≡ ((a || b) || c)
or_regroup true b c = refl
or_regroup false b c = refl

or_false : (a : Bool) → (a || false) ≡ a
or_false true = refl
or_false false = refl

constant_is : (f : PlainType → Layout) (p : Partial) (ms : List PlainMember) → (p.constant || constant_among f ms) ≡ (with_members f p ms).constant
constant_is f p [] = or_false p.constant
constant_is f p (m ∷ ms) = or_regroup p.constant (f m.type).constant (constant_among f ms) ∙ constant_is f (with_layout p (f m.type)) ms

-- all members together
layout_is : (f : PlainType → Layout) (ms : List PlainMember) (l : Lay) → with_members f no_members ms ≡ partial_of l →
    (past_members f 0 ms ≡ l.bytes) × (greatest_alignment f ms ≡ l.alignment) × (length (scalars_of_members f ms) ≡ l.scalars) × (constant_among f ms ≡ l.has_const)
layout_is f ms l e = (
  past_is f no_members ms ∙ ap (λ p. p.past) e,
  omega (arith, greatest_some f ms, alignment_is f no_members ms (omega arith), ap (λ p. p.alignment) e),
  omega (arith, scalars_is f no_members ms, ap (λ p. p.scalars) e),
  constant_is f no_members ms ∙ ap (λ p. p.constant) e,
)

-- a structure is padded to its alignment
pub padded_fits : (f : PlainType → Layout) (ms : List PlainMember) (l : Lay) (bytes : ℕ) → with_members f no_members ms ≡ partial_of l → bytes ≡ aligned l.bytes l.alignment → bytes ≤ most_bytes →
    LiesAs (Some (record l { bytes = bytes })) (layout_of_members f ms)
padded_fits f ms l bytes e is small =
    let h = layout_is f ms l e in
    let same : aligned (past_members f 0 ms) (greatest_alignment f ms) ≡ aligned l.bytes l.alignment = λ i. aligned (h.0 i) (h.1 i) in
    record {
      bytes_are = is ∙ sym same;
      alignment_is = sym h.1;
      scalars_are = sym h.2;
      constant_is = sym h.3;
      small = subst (λ k. k ≤ most_bytes) (is ∙ sym same) small;
    }

-- a structure that its padding makes too large
pub padded_large : (f : PlainType → Layout) (ms : List PlainMember) (l : Lay) (bytes : ℕ) → with_members f no_members ms ≡ partial_of l → bytes ≡ aligned l.bytes l.alignment → most_bytes < bytes →
    LiesAs None (layout_of_members f ms)
padded_large f ms l bytes e is large =
    let h = layout_is f ms l e in
    let same : aligned (past_members f 0 ms) (greatest_alignment f ms) ≡ aligned l.bytes l.alignment = λ i. aligned (h.0 i) (h.1 i) in
    subst (λ k. most_bytes < k) (is ∙ sym same) large

-- what comes after members doesn't lie before them
past_grows : (f : PlainType → Layout) (n : ℕ) (ms : List PlainMember) → AreFilled f ms → n ≤ past_members f n ms
past_grows f n ms h = omega (arith, past_enough f n ms h)

pub objects_filled : (ss : List PlainStructure) → AreWholeStructures ss → (ms : List PlainMember) → are_objects ss ms ≡ true → AreFilled (layout_of ss) ms
objects_filled ss w [] e = tt
objects_filled ss w (m ∷ ms) e =
    let h = both (is_object_type ss m.type) (are_objects ss ms) e in
    (filled ss w m.type (object_by_test ss m.type h.0), objects_filled ss w ms h.1)

-- members of which the first ones are too large
pub large_lies : (f : PlainType → Layout) (all : List PlainMember) (p : Partial) (m : PlainMember) (rest : List PlainMember) → with_members f p (m ∷ rest) ≡ with_members f no_members all →
    most_bytes < (with_layout p (f m.type)).past → AreFilled f rest → LiesAs None (layout_of_members f all)
large_lies f all p m rest e large h =
    let q : Partial = with_layout p (f m.type) in
    let end : past_members f q.past rest ≡ past_members f 0 all = past_is f q rest ∙ ap (λ p. p.past) e ∙ sym (past_is f no_members all) in
    let up : past_members f 0 all ≤ aligned (past_members f 0 all) (greatest_alignment f all) = aligned_at_least (past_members f 0 all) (greatest_alignment f all) (greatest_some f all) in
    omega (arith, large, past_grows f q.past rest h, end, up)

-- ## Arrays

pub array_scalars_fit : (ss : List PlainStructure) → AreWholeStructures ss → (whole : PlainType) (c : Bool) (t : PlainType) (n r : ℕ) → whole ≡ array c t n → IsObjectType ss whole →
    r ≡ length (scalars_of ss t) → Fits w64 (n * r)
array_scalars_fit ss w whole c t n r e h is =
    let few : n * length (scalars_of ss t) ≤ most_bytes = array_scalars_few ss w c t n (subst (IsObjectType ss) e h) in
    let same : n * r ≤ most_bytes = subst (λ k. n * k ≤ most_bytes) (sym is) few in
    omega (arith, same, most_is)

pub array_scalars_are : (ss : List PlainStructure) (whole : PlainType) (c : Bool) (t : PlainType) (n r : ℕ) → whole ≡ array c t n → r ≡ length (scalars_of ss t) →
    n * r ≡ length (scalars_of ss whole)
array_scalars_are ss whole c t n r e is = ap (λ k. n * k) is ∙ sym (array_scalars ss c t n) ∙ sym (ap (λ u. length (scalars_of ss u)) e)

-- truth values that are true together
same_truth : (a b : Bool) → (a ≡ true → b ≡ true) → (b ≡ true → a ≡ true) → a ≡ b
same_truth true b f g = sym (f refl)
same_truth false true f g = g refl
same_truth false false f g = refl

-- an array of at least one element, by a division
pub room_is : (n s bytes : ℕ) → 1 ≤ n → s ≡ bytes → nat_le s (1099511627776 / n) ≡ (nat_le 1 n && nat_le (n * bytes) most_bytes)
room_is n s bytes some is =
    same_truth (nat_le s (1099511627776 / n)) (nat_le (n * bytes) most_bytes)
    (λ e. le-leb (n * bytes) most_bytes (small ((le-div_iff_mul-le {k = n} {x = s} {y = 1099511627776} some).0 (leb-true s (1099511627776 / n) e))))
    (λ e. le-leb s (1099511627776 / n) ((le-div_iff_mul-le {k = n} {x = s} {y = 1099511627776} some).1 (fits (leb-true (n * bytes) most_bytes e))))
    ∙ sym (ap (λ b. b && nat_le (n * bytes) most_bytes) (le-leb 1 n some))
  where
    turned : s * n ≡ n * s
    turned = omega arith

    small : s * n ≤ 1099511627776 → n * bytes ≤ most_bytes
    small h = subst (λ k. n * k ≤ most_bytes) is (omega (arith, h, turned, most_is))

    fits : n * bytes ≤ most_bytes → s * n ≤ 1099511627776
    fits h =
        let same : n * s ≤ most_bytes = subst (λ k. n * k ≤ most_bytes) (sym is) h in
        omega (arith, same, turned, most_is)

-- an array whose elements are objects
pub array_by_room : (ss : List PlainStructure) (t : PlainType) (n : ℕ) (r : Bool) → (is_complete ss t && is_whole_type ss t) ≡ true → r ≡ (nat_le 1 n && nat_le (n * size_of ss t) most_bytes) →
    r ≡ is_whole_type ss (array false t n)
unfolding layout_of
array_by_room ss t n r h e = e ∙ sym (ap (λ b. b && (nat_le 1 n && nat_le (n * size_of ss t) most_bytes)) h)

-- an array whose elements aren't
pub array_without : (ss : List PlainStructure) (t : PlainType) (n : ℕ) → (is_complete ss t && is_whole_type ss t) ≡ false → false ≡ is_whole_type ss (array false t n)
unfolding layout_of
array_without ss t n h = sym (ap (λ b. b && (nat_le 1 n && nat_le (n * size_of ss t) most_bytes)) h)

-- an array's own mark doesn't count
pub array_unmarked : (ss : List PlainStructure) (c : Bool) (t : PlainType) (n : ℕ) → is_whole_type ss (array false t n) ≡ is_whole_type ss (array c t n)
unfolding layout_of
array_unmarked ss c t n = refl

-- ## Members of the code, one at a time

pub cut_members : (all : List Member) (i : ℕ) (m : Member) → i < length all → m ≡ get_or all i m → map plain_member (drop i all) ≡ plain_member m ∷ map plain_member (drop (suc i) all)
cut_members all i m below is = ap (map plain_member) (drop-cons all i m below) ∙ ap (λ x. plain_member x ∷ map plain_member (drop (suc i) all)) (sym is)

pub first_object : (ss : List PlainStructure) (xs rest : List PlainMember) (m : PlainMember) → are_objects ss xs ≡ true → xs ≡ m ∷ rest → IsObjectType ss m.type
first_object ss xs rest m h e = object_by_test ss m.type (both (is_object_type ss m.type) (are_objects ss rest) (sym (ap (are_objects ss) e) ∙ h)).0

pub large_first : (ss : List PlainStructure) → AreWholeStructures ss → (all xs rest : List PlainMember) (p : Partial) (m : PlainMember) →
    with_members (layout_of ss) p xs ≡ with_members (layout_of ss) no_members all → are_objects ss xs ≡ true → xs ≡ m ∷ rest → most_bytes < (with_layout p (layout_of ss m.type)).past →
    LiesAs None (layout_of_members (layout_of ss) all)
large_first ss w all xs rest p m e h cut large =
    large_lies (layout_of ss) all p m rest (sym (ap (with_members (layout_of ss) p) cut) ∙ e) large
    (objects_filled ss w rest (both (is_object_type ss m.type) (are_objects ss rest) (sym (ap (are_objects ss) cut) ∙ h)).1)

pub padded_lies : (f : PlainType → Layout) (all : List Member) (i : ℕ) (l : Lay) (found : Option Lay) → length all ≤ i →
    with_members f (partial_of l) (map plain_member (drop i all)) ≡ with_members f no_members (map plain_member all) → IsPadded found l → LiesAs found (layout_of_members f (map plain_member all))
padded_lies f all i l found past e h =
    let ended : with_members f no_members (map plain_member all) ≡ partial_of l = sym e ∙ ap (λ xs. with_members f (partial_of l) (map plain_member xs)) (drop_of_length-le all past) in
    by_found found h ended
  where
    by_found : (found : Option Lay) → IsPadded found l → with_members f no_members (map plain_member all) ≡ partial_of l → LiesAs found (layout_of_members f (map plain_member all))
    by_found None h ended = padded_large f (map plain_member all) l (aligned l.bytes l.alignment) ended refl h
    by_found (Some p) h ended = subst (λ p. LiesAs (Some p) (layout_of_members f (map plain_member all))) (sym h.0) (padded_fits f (map plain_member all) l (aligned l.bytes l.alignment) ended refl h.1)

-- members that lie so are small
pub lies_small : (found : Option Lay) (l : Layout) → LiesAs found l → is_some found ≡ nat_le l.bytes most_bytes
lies_small None l h = same_truth false (nat_le l.bytes most_bytes) (λ e. absurd cc) (λ e. absurd (omega (arith, h, leb-true l.bytes most_bytes e)))
lies_small (Some lay) l h = sym (le-leb l.bytes most_bytes h.small)
