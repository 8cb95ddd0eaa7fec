-- The structures of a whole program lie as their members do, marks and compatible structures aside; and no type has more scalars
-- than bytes.
use Rattle.std.proofs.Common.{◌≡◌, ℕ, zero, suc, ◌+◌, ◌-◌, ◌*◌, ◌/◌, ◌%◌, ◌<◌, ◌≤◌, Bool, true, false, List, [], ◌∷◌, ◌++◌, map, length, refl, sym, ◌∙◌, ap, subst, arith, Option, Some, None, is_some, slice_get, length-append, mod-lt}
use Rattle.std.specs.Prelude.{flat_map}
use Rattle.std.specs.List.{All}
use Rattle.std.proofs.lemmas.List.Elements.{All-head, All-tail}
use Rattle.std.proofs.lemmas.Option.{same_Some, none-some}
use Rattle.std.proofs.lemmas.Nat.{div-add-mod'}
use Rattle.p10_int.specs.declared.types.IntType.{IntType}
use Rattle.p10_int.specs.declared.types.IntType.TheVariants.{Bool as Truth, Char, SChar, UChar, Short, UShort, Int, UInt, Long, ULong, LLong, ULLong}
use Rattle.p10_core.specs.Types.{PlainType, void, integer, pointer, array, structure, bare, PlainMember, PlainBody, PlainStructure, body_of, members_in, members_of, representative_of}
use Rattle.p10_core.specs.Sizes.{Layout, integer_bytes, aligned, repeated, past_members, greatest_alignment, scalars_of_members, layout_of_members, layout_by, structure_layout, layout_of, size_of, scalars_of}
use Rattle.p10_core.specs.Rows.{is_complete, is_scalar}
use Rattle.p10_core.specs.Typed.{PlainProgram}
use Rattle.p10_core.specs.Laws.{LiesLike}
use Rattle.p10_core.specs.WholePrograms.{IsWholeType, IsObjectType, IsWholeMember, AreWholeStructures, bare_member, IsWholeProgram, most_bytes}
use Rattle.p10_core.proofs.Bareness.{structures_lie_as_their_members, compatible_types_lie_alike}
use Rattle.p10_meaning.specs.Values.{scalars}
use Rattle.p10_meaning.proofs.Geometry.{IsLaidOut}

-- ## Types without marks

pub bare_again : (ss : List PlainStructure) → AreWholeStructures ss → (t : PlainType) → bare ss (bare ss t) ≡ bare ss t
bare_again ss w (void c) = refl
bare_again ss w (integer c i) = refl
bare_again ss w (pointer c t) = ap (λ t. pointer false t) (bare_again ss w t)
bare_again ss w (array c t n) = ap (λ t. array false t n) (bare_again ss w t)
bare_again ss w (structure c n) = ap (λ n. structure false n) (w.stand_for_themselves n)

body_is : {P : Type 0} (o : Option PlainBody) → is_some o ≡ true → ((b : PlainBody) → o ≡ Some b → P) → P
body_is None h go = absurd cc
body_is (Some b) h go = go b refl

complete_bare : (ss : List PlainStructure) → AreWholeStructures ss → (t : PlainType) → is_complete ss t ≡ true → is_complete ss (bare ss t) ≡ true
complete_bare ss w (void c) e = e
complete_bare ss w (integer c i) e = e
complete_bare ss w (pointer c t) e = e
complete_bare ss w (array c t n) e = complete_bare ss w t e
complete_bare ss w (structure c n) e = body_is (body_of ss n) e (λ b is. (w.bodies n b is).complete)

void_bare : (ss : List PlainStructure) (t : PlainType) → Rattle.p10_core.specs.Rows.is_void t ≡ false → Rattle.p10_core.specs.Rows.is_void (bare ss t) ≡ false
void_bare ss (void c) e = e
void_bare ss (integer c i) e = e
void_bare ss (pointer c t) e = e
void_bare ss (array c t n) e = e
void_bare ss (structure c n) e = e

alike_of : (ss : List PlainStructure) → AreWholeStructures ss → (s t : PlainType) → IsObjectType ss s → IsObjectType ss t → bare ss s ≡ bare ss t → LiesLike (layout_of ss s) (layout_of ss t)
alike_of ss w s t a b e = compatible_types_lie_alike ss w s t a b e

pub array_bytes : (ss : List PlainStructure) (c : Bool) (t : PlainType) (n : ℕ) → size_of ss (array c t n) ≡ n * size_of ss t
unfolding layout_of
array_bytes ss c t n = refl

-- a whole type is whole without its marks
whole_bare : (ss : List PlainStructure) → AreWholeStructures ss → (t : PlainType) → IsWholeType ss t → IsWholeType ss (bare ss t)
whole_bare ss w (void c) h = tt
whole_bare ss w (integer c i) h = tt
whole_bare ss w (pointer c t) h = (whole_bare ss w t h.0, void_bare ss t h.1)
whole_bare ss w (array c t n) h =
    let element : IsWholeType ss (bare ss t) = whole_bare ss w t h.0 in
    let full : is_complete ss (bare ss t) ≡ true = complete_bare ss w t h.1 in
    let one : IsObjectType ss (bare ss t) = record { whole = element; complete = full } in
    let two : IsObjectType ss t = record { whole = h.0; complete = h.1 } in
    let same : LiesLike (layout_of ss (bare ss t)) (layout_of ss t) = alike_of ss w (bare ss t) t one two (bare_again ss w t) in
    (element, full, h.2, subst (λ m. m ≤ most_bytes) (sym (array_bytes ss false (bare ss t) n ∙ (ap (λ b. n * b) same.same_bytes ∙ sym (array_bytes ss c t n)))) h.3)
whole_bare ss w (structure c n) h = w.representatives n h

pub object_bare : (ss : List PlainStructure) → AreWholeStructures ss → (t : PlainType) → IsObjectType ss t → IsObjectType ss (bare ss t)
object_bare ss w t h = record { whole = whole_bare ss w t h.whole; complete = complete_bare ss w t h.complete }

-- a type of objects lies as it does without its marks
pub lies_bare : (ss : List PlainStructure) → AreWholeStructures ss → (t : PlainType) → IsObjectType ss t → LiesLike (layout_of ss (bare ss t)) (layout_of ss t)
lies_bare ss w t h = alike_of ss w (bare ss t) t (object_bare ss w t h) h (bare_again ss w t)

-- ## Structures

none_there : (d : ℕ) (ss : List PlainStructure) (k : ℕ) → members_of ss k ≡ [] → (structure_layout d ss k).scalars ≡ []
none_there zero ss k e = refl
none_there (suc d) ss k e = ap (λ ms. scalars_of_members (layout_by ss (structure_layout d ss)) ms) e

incomplete : (ss : List PlainStructure) (c : Bool) (k : ℕ) → members_of ss k ≡ [] → scalars_of ss (structure c k) ≡ []
unfolding layout_of
incomplete ss c k e = none_there (length ss) ss k e

members_bare : (p : PlainProgram) → AreWholeStructures p.structures → (order : ℕ) (ms : List PlainMember) → All (IsWholeMember p.structures order) ms →
    scalars_of_members (layout_of p.structures) ms ≡ flat_map (λ (x : PlainMember). scalars p x.type) ms
members_bare p w order [] h = refl
members_bare p w order (m ∷ ms) h =
    let same : LiesLike (layout_of p.structures (bare p.structures m.type)) (layout_of p.structures m.type) = lies_bare p.structures w m.type (All-head (IsWholeMember p.structures order) m ms h).object in
    ap (λ xs. xs ++ scalars_of_members (layout_of p.structures) ms) (sym same.same_scalars) ∙
    ap (λ xs. scalars p m.type ++ xs) (members_bare p w order ms (All-tail (IsWholeMember p.structures order) m ms h))

pub members_are : (p : PlainProgram) → AreWholeStructures p.structures → (c : Bool) (k : ℕ) (o : Option PlainBody) → body_of p.structures k ≡ o →
    scalars_of p.structures (structure c k) ≡ flat_map (λ (x : PlainMember). scalars p x.type) (members_of p.structures k)
members_are p w c k None e =
    let none : members_of p.structures k ≡ [] = ap members_in e in
    incomplete p.structures c k none ∙ sym (ap (λ ms. flat_map (λ (x : PlainMember). scalars p x.type) ms) none)
members_are p w c k (Some b) e =
    ap (λ l. l.scalars) (structures_lie_as_their_members p.structures w c k b e) ∙
    (members_bare p w b.order b.members (w.bodies k b e).members ∙ sym (ap (λ o. flat_map (λ (x : PlainMember). scalars p x.type) (members_in o)) e))

pub laid_out : (p : PlainProgram) → IsWholeProgram p → IsLaidOut p
laid_out p w = record { members = λ c k. members_are p w.structures c k (body_of p.structures k) refl; bare_again = bare_again p.structures w.structures }

-- ## No more scalars than bytes

pub record IsFew (l : Layout) : Type 0 where
  pub scalars : length l.scalars ≤ l.bytes
  pub alignment : 1 ≤ l.alignment

aligned_up : (n a : ℕ) → 1 ≤ a → n ≤ aligned n a
aligned_up n a l =
    let x : ℕ = n + (a - 1) in
    let e : x / a * a + x % a ≡ x = div-add-mod' x a in
    let r : x % a < a = mod-lt x (omega (arith, l)) in
    omega (arith, e, r, l)

integer_few : (i : IntType) → (1 ≤ integer_bytes i)
integer_few Truth = omega arith
integer_few Char = omega arith
integer_few SChar = omega arith
integer_few UChar = omega arith
integer_few Short = omega arith
integer_few UShort = omega arith
integer_few Int = omega arith
integer_few UInt = omega arith
integer_few Long = omega arith
integer_few ULong = omega arith
integer_few LLong = omega arith
integer_few ULLong = omega arith

pub repeated_few : (n b : ℕ) (xs : List PlainType) → length xs ≤ b → length (repeated n xs) ≤ n * b
repeated_few zero b xs l = omega arith
repeated_few (suc n) b xs l =
    let h : length (repeated n xs) ≤ n * b = repeated_few n b xs l in
    let e : length (xs ++ repeated n xs) ≡ length xs + length (repeated n xs) = length-append xs (repeated n xs) in
    omega (arith, h, e, l)

layout_few : (ss : List PlainStructure) (f : ℕ → Layout) → ((n : ℕ) → IsFew (f n)) → (t : PlainType) → IsFew (layout_by ss f t)
layout_few ss f h (void c) = record { scalars = omega arith; alignment = omega arith }
layout_few ss f h (integer c i) = record { scalars = integer_few i; alignment = integer_few i }
layout_few ss f h (pointer c t) = record { scalars = omega arith; alignment = omega arith }
layout_few ss f h (array c t n) = let k : IsFew (layout_by ss f t) = layout_few ss f h t in
    record { scalars = repeated_few n (layout_by ss f t).bytes (layout_by ss f t).scalars k.scalars; alignment = k.alignment }
layout_few ss f h (structure c n) = record { scalars = (h n).scalars; alignment = (h n).alignment }

past_few : (f : PlainType → Layout) → ((t : PlainType) → IsFew (f t)) → (n : ℕ) (ms : List PlainMember) → n + length (scalars_of_members f ms) ≤ past_members f n ms
past_few f h n [] = omega arith
past_few f h n (m ∷ ms) =
    let k : IsFew (f m.type) = h m.type in
    let up : n ≤ aligned n (f m.type).alignment = aligned_up n (f m.type).alignment k.alignment in
    let rest : (aligned n (f m.type).alignment + (f m.type).bytes) + length (scalars_of_members f ms) ≤ past_members f (aligned n (f m.type).alignment + (f m.type).bytes) ms =
    past_few f h (aligned n (f m.type).alignment + (f m.type).bytes) ms in
    let e : length ((f m.type).scalars ++ scalars_of_members f ms) ≡ length (f m.type).scalars + length (scalars_of_members f ms) = length-append (f m.type).scalars (scalars_of_members f ms) in
    let s : length (f m.type).scalars ≤ (f m.type).bytes = k.scalars in
    omega (arith, up, rest, e, s)

greatest_few : (f : PlainType → Layout) (ms : List PlainMember) → 1 ≤ greatest_alignment f ms
greatest_few f [] = omega arith
greatest_few f (m ∷ ms) = let h : 1 ≤ greatest_alignment f ms = greatest_few f ms in omega (arith, h)

members_few : (f : PlainType → Layout) → ((t : PlainType) → IsFew (f t)) → (ms : List PlainMember) → IsFew (layout_of_members f ms)
members_few f h ms = record {
  scalars = let a : 0 + length (scalars_of_members f ms) ≤ past_members f 0 ms = past_few f h 0 ms in
      let b : past_members f 0 ms ≤ aligned (past_members f 0 ms) (greatest_alignment f ms) = aligned_up (past_members f 0 ms) (greatest_alignment f ms) (greatest_few f ms) in omega (arith, a, b);
  alignment = greatest_few f ms;
}

structure_few : (d : ℕ) (ss : List PlainStructure) (n : ℕ) → IsFew (structure_layout d ss n)
structure_few zero ss n = record { scalars = omega arith; alignment = omega arith }
structure_few (suc d) ss n = members_few (layout_by ss (structure_layout d ss)) (layout_few ss (structure_layout d ss) (structure_few d ss)) (members_of ss n)

pub scalars_few : (ss : List PlainStructure) (t : PlainType) → length (scalars_of ss t) ≤ size_of ss t
unfolding layout_of
scalars_few ss t = (layout_few ss (structure_layout (length ss) ss) (structure_few (length ss) ss) t).scalars

-- ## Scalars are scalars

abbrev pub AreScalar : List PlainType → Type 0
AreScalar [] = Unit {0}
AreScalar (t ∷ ts) = (is_scalar t ≡ true) × AreScalar ts

scalar_append : (xs ys : List PlainType) → AreScalar xs → AreScalar ys → AreScalar (xs ++ ys)
scalar_append [] ys f g = g
scalar_append (x ∷ xs) ys f g = (f.0, scalar_append xs ys f.1 g)

pub scalar_repeated : (n : ℕ) (xs : List PlainType) → AreScalar xs → AreScalar (repeated n xs)
scalar_repeated zero xs f = tt
scalar_repeated (suc n) xs f = scalar_append xs (repeated n xs) f (scalar_repeated n xs f)

layout_scalar : (ss : List PlainStructure) (f : ℕ → Layout) → ((n : ℕ) → AreScalar (f n).scalars) → (t : PlainType) → AreScalar (layout_by ss f t).scalars
layout_scalar ss f h (void c) = tt
layout_scalar ss f h (integer c i) = (refl, tt)
layout_scalar ss f h (pointer c t) = (refl, tt)
layout_scalar ss f h (array c t n) = scalar_repeated n (layout_by ss f t).scalars (layout_scalar ss f h t)
layout_scalar ss f h (structure c n) = h n

members_scalar : (f : PlainType → Layout) → ((t : PlainType) → AreScalar (f t).scalars) → (ms : List PlainMember) → AreScalar (scalars_of_members f ms)
members_scalar f h [] = tt
members_scalar f h (m ∷ ms) = scalar_append (f m.type).scalars (scalars_of_members f ms) (h m.type) (members_scalar f h ms)

structure_scalar : (d : ℕ) (ss : List PlainStructure) (n : ℕ) → AreScalar (structure_layout d ss n).scalars
structure_scalar zero ss n = tt
structure_scalar (suc d) ss n = members_scalar (layout_by ss (structure_layout d ss)) (layout_scalar ss (structure_layout d ss) (structure_scalar d ss)) (members_of ss n)

pub scalars_scalar : (ss : List PlainStructure) (t : PlainType) → AreScalar (scalars_of ss t)
unfolding layout_of
scalars_scalar ss t = layout_scalar ss (structure_layout (length ss) ss) (structure_scalar (length ss) ss) t

-- ## Members

pub map_get : {A B : Type 0} (f : A → B) (xs : List A) (i : ℕ) (x : A) → slice_get xs i ≡ Some x → slice_get (map f xs) i ≡ Some (f x)
map_get f [] i x e = absurd (none-some _ e)
map_get f (y ∷ xs) zero x e = ap (λ x. Some (f x)) (same_Some _ _ e)
map_get f (y ∷ xs) (suc i) x e = map_get f xs i x e

pub all_at : {A : Type 0} (P : A → Type 0) (xs : List A) (i : ℕ) (x : A) → All P xs → slice_get xs i ≡ Some x → P x
all_at P [] i x f e = absurd (none-some _ e)
all_at P (y ∷ xs) zero x f e = subst P (same_Some _ _ e) (All-head P y xs f)
all_at P (y ∷ xs) (suc i) x f e = all_at P xs i x (All-tail P y xs f) e

pub record HasMapped {A B : Type 0} (f : A → B) (xs : List A) (i : ℕ) (y : B) : Type 0 where
  pub one : A
  pub there : slice_get xs i ≡ Some one
  pub is : f one ≡ y

pub map_back : {A B : Type 0} (f : A → B) (xs : List A) (i : ℕ) (y : B) → slice_get (map f xs) i ≡ Some y → HasMapped f xs i y
map_back f [] i y e = absurd (none-some _ e)
map_back f (x ∷ xs) zero y e = record { one = x; there = refl; is = same_Some _ _ e }
map_back f (x ∷ xs) (suc i) y e = let h : HasMapped f xs i y = map_back f xs i y e in record { one = h.one; there = h.there; is = h.is }

pub body_of_member : {P : Type 0} (o : Option PlainBody) (m : ℕ) (x : PlainMember) → slice_get (members_in o) m ≡ Some x → ((b : PlainBody) → o ≡ Some b → P) → P
body_of_member None m x e go = absurd (none-some _ e)
body_of_member (Some b) m x e go = go b refl

-- the member of the structure that stands for a structure
pub member_like : (p : PlainProgram) → AreWholeStructures p.structures → (k m : ℕ) (x : PlainMember) → slice_get (members_of p.structures k) m ≡ Some x →
    HasMapped (bare_member p.structures) (members_of p.structures (representative_of p.structures k)) m (bare_member p.structures x)
member_like p w k m x e = body_of_member (body_of p.structures k) m x e (λ b is.
    let there : slice_get b.members m ≡ Some x = subst (λ o. slice_get (members_in o) m ≡ Some x) is e in
    map_back (bare_member p.structures) (members_of p.structures (representative_of p.structures k)) m (bare_member p.structures x)
    (ap (λ xs. slice_get xs m) (w.bodies k b is).same_members ∙ map_get (bare_member p.structures) b.members m x there))
