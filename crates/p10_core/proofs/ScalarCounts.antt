-- Types that have a size have at least a byte, and a byte for each of their scalars.
use Rattle.std.proofs.Common.{◌≡◌, ℕ, zero, suc, ◌+◌, ◌*◌, ◌<◌, ◌≤◌, Bool, true, false, List, [], ◌∷◌, length, All, Some, sym, ◌∙◌, ap, subst, arith, length-append, lit≤}
use Rattle.std.proofs.lemmas.List.Elements.{All-head, All-tail}
use Rattle.p10_int.specs.declared.types.IntType.{IntType}
use Rattle.p10_int.specs.declared.types.IntType.TheVariants.{Bool as Truth, Char, SChar, UChar, Short, UShort, Int, UInt, Long, ULong, LLong, ULLong}
use Rattle.p10_core.specs.Types.{PlainType, void, integer, pointer, array, structure, PlainMember, PlainBody, PlainStructure, body_of}
use Rattle.p10_core.specs.Sizes.{Layout, integer_bytes, aligned, repeated, past_members, greatest_alignment, scalars_of_members, layout_of_members, layout_of, scalars_of}
use Rattle.p10_core.specs.Rows.{is_complete}
use Rattle.p10_core.specs.WholePrograms.{order_in, ContainsBefore, IsWholeType, IsObjectType, IsWholeMember, IsWholeBody, AreWholeStructures, most_bytes}
use Rattle.p10_core.specs.Laws.{ScalarsHaveBytes, ArraysAreShort}
use Rattle.p10_core.proofs.Layouts.{body_there, structure_lies}
use Rattle.p10_core.proofs.Bareness.{below_all}

-- a byte for each scalar, at least one byte, and an alignment of at least 1 and at most 8
pub record IsFilled (l : Layout) : Type 0 where
  pub enough : length l.scalars ≤ l.bytes
  pub some : 1 ≤ l.bytes
  pub aligns : 1 ≤ l.alignment
  pub low : l.alignment ≤ 8

bytes_some : (i : IntType) → 1 ≤ integer_bytes i
bytes_some Truth = lit≤ tt
bytes_some Char = lit≤ tt
bytes_some SChar = lit≤ tt
bytes_some UChar = lit≤ tt
bytes_some Short = lit≤ tt
bytes_some UShort = lit≤ tt
bytes_some Int = lit≤ tt
bytes_some UInt = lit≤ tt
bytes_some Long = lit≤ tt
bytes_some ULong = lit≤ tt
bytes_some LLong = lit≤ tt
bytes_some ULLong = lit≤ tt

bytes_few : (i : IntType) → integer_bytes i ≤ 8
bytes_few Truth = lit≤ tt
bytes_few Char = lit≤ tt
bytes_few SChar = lit≤ tt
bytes_few UChar = lit≤ tt
bytes_few Short = lit≤ tt
bytes_few UShort = lit≤ tt
bytes_few Int = lit≤ tt
bytes_few UInt = lit≤ tt
bytes_few Long = lit≤ tt
bytes_few ULong = lit≤ tt
bytes_few LLong = lit≤ tt
bytes_few ULLong = lit≤ tt

length_repeated : (n : ℕ) (xs : List PlainType) → length (repeated n xs) ≡ n * length xs
length_repeated zero xs = omega arith
length_repeated (suc n) xs =
    let step : length xs + n * length xs ≡ suc n * length xs = omega arith in
    length-append xs (repeated n xs) ∙ ap (λ k. length xs + k) (length_repeated n xs) ∙ step

-- a place moved up to an alignment isn't before it
pub aligned_at_least : (n a : ℕ) → 1 ≤ a → n ≤ aligned n a
aligned_at_least n a h = omega (arith, h)

times_at_most : (n a b : ℕ) → a ≤ b → n * a ≤ n * b
times_at_most zero a b h = omega arith
times_at_most (suc n) a b h = omega (arith, h, times_at_most n a b h)

times_some : (n b : ℕ) → 1 ≤ n → 1 ≤ b → 1 ≤ n * b
times_some zero b h k = absurd (omega (arith, h))
times_some (suc n) b h k = omega (arith, k)

-- members that are filled
abbrev pub AreFilled : (PlainType → Layout) → List PlainMember → Type 0
AreFilled f [] = Unit {0}
AreFilled f (m ∷ rest) = IsFilled (f m.type) × AreFilled f rest

pub past_enough : (f : PlainType → Layout) (n : ℕ) (ms : List PlainMember) → AreFilled f ms → n + length (scalars_of_members f ms) ≤ past_members f n ms
past_enough f n [] h = omega arith
past_enough f n (m ∷ ms) h =
    let at : ℕ = aligned n (f m.type).alignment in
    omega (arith, aligned_at_least n (f m.type).alignment h.0.aligns, h.0.enough, length-append (f m.type).scalars (scalars_of_members f ms), past_enough f (at + (f m.type).bytes) ms h.1)

past_some : (f : PlainType → Layout) (n : ℕ) (ms : List PlainMember) → AreFilled f ms → 1 ≤ length ms → 1 ≤ past_members f n ms
past_some f n [] h some = absurd (omega (arith, some))
past_some f n (m ∷ ms) h some =
    let at : ℕ = aligned n (f m.type).alignment in
    omega (arith, h.0.some, past_enough f (at + (f m.type).bytes) ms h.1)

pub greatest_some : (f : PlainType → Layout) (ms : List PlainMember) → 1 ≤ greatest_alignment f ms
greatest_some f [] = lit≤ tt
greatest_some f (m ∷ ms) = omega (arith, greatest_some f ms)

pub greatest_low : (f : PlainType → Layout) (ms : List PlainMember) → AreFilled f ms → greatest_alignment f ms ≤ 8
greatest_low f [] h = lit≤ tt
greatest_low f (m ∷ ms) h = omega (arith, h.0.low, greatest_low f ms h.1)

members_filled : (f : PlainType → Layout) (ms : List PlainMember) → AreFilled f ms → 1 ≤ length ms → IsFilled (layout_of_members f ms)
members_filled f ms h some =
    let a : ℕ = greatest_alignment f ms in
    let p : ℕ = past_members f 0 ms in
    let up : p ≤ aligned p a = aligned_at_least p a (greatest_some f ms) in
    record {
      enough = omega (arith, up, past_enough f 0 ms h);
      some = omega (arith, up, past_some f 0 ms h some);
      aligns = greatest_some f ms;
      low = greatest_low f ms h;
    }

-- structures below an order are filled
abbrev StructuresAreFilled : List PlainStructure → ℕ → Type 0
StructuresAreFilled ss order = (n : ℕ) (b : PlainBody) → body_of ss n ≡ Some b → b.order < order → IsFilled (layout_of ss (structure false n))

type_filled : (ss : List PlainStructure) (order : ℕ) → StructuresAreFilled ss order → (t : PlainType) → ContainsBefore ss order t → IsWholeType ss t → is_complete ss t ≡ true → IsFilled (layout_of ss t)
unfolding layout_of
type_filled ss order H (void c) before whole full = absurd cc
type_filled ss order H (integer c i) before whole full = record { enough = bytes_some i; some = bytes_some i; aligns = bytes_some i; low = bytes_few i }
type_filled ss order H (pointer c t) before whole full = record { enough = lit≤ tt; some = lit≤ tt; aligns = lit≤ tt; low = lit≤ tt }
type_filled ss order H (array c t n) before whole full =
    let h : IsFilled (layout_of ss t) = type_filled ss order H t before whole.0 full in
    record {
      enough = omega (arith, length_repeated n (layout_of ss t).scalars, times_at_most n (length (layout_of ss t).scalars) (layout_of ss t).bytes h.enough);
      some = times_some n (layout_of ss t).bytes whole.2 h.some;
      aligns = h.aligns;
      low = h.low;
    }
type_filled ss order H (structure c n) before whole full =
    body_there (body_of ss n) full (λ b is.
    let h : IsFilled (layout_of ss (structure false n)) = H n b is (subst (λ o. order_in o < order) is before) in
    record { enough = h.enough; some = h.some; aligns = h.aligns; low = h.low })

all_filled : (ss : List PlainStructure) (order : ℕ) → StructuresAreFilled ss order → (ms : List PlainMember) → All (IsWholeMember ss order) ms → AreFilled (layout_of ss) ms
all_filled ss order H [] h = tt
all_filled ss order H (m ∷ ms) h =
    let one : IsWholeMember ss order m = All-head (IsWholeMember ss order) m ms h in
    (type_filled ss order H m.type one.before one.object.whole one.object.complete, all_filled ss order H ms (All-tail (IsWholeMember ss order) m ms h))

structures_filled : (ss : List PlainStructure) → AreWholeStructures ss → (order : ℕ) → StructuresAreFilled ss order
structures_filled ss w zero n b is low = absurd (omega (arith, low))
structures_filled ss w (suc order) n b is low =
    let whole : IsWholeBody ss n b = w.bodies n b is in
    let below : StructuresAreFilled ss b.order = λ m c at less. structures_filled ss w order m c at (omega (arith, low, less)) in
    subst IsFilled (sym (structure_lies ss w false n b is)) (members_filled (layout_of ss) b.members (all_filled ss b.order below b.members whole.members) whole.some)

-- how a type of objects lies
pub filled : (ss : List PlainStructure) → AreWholeStructures ss → (t : PlainType) → IsObjectType ss t → IsFilled (layout_of ss t)
filled ss w t h = type_filled ss (length ss) (structures_filled ss w (length ss)) t (below_all ss w t h.complete) h.whole h.complete

pub scalars_have_bytes : ScalarsHaveBytes
scalars_have_bytes ss w t h = let f : IsFilled (layout_of ss t) = filled ss w t h in (f.some, f.enough)

pub arrays_are_short : ArraysAreShort
unfolding layout_of
arrays_are_short ss w c t n h =
    let f : IsFilled (layout_of ss t) = filled ss w t (record { whole = h.0; complete = h.1 }) in
    let up : n * 1 ≤ n * (layout_of ss t).bytes = times_at_most n 1 (layout_of ss t).bytes f.some in
    omega (arith, up, h.3)

-- the scalars of an array's elements together
pub array_scalars : (ss : List PlainStructure) (c : Bool) (t : PlainType) (n : ℕ) → length (scalars_of ss (array c t n)) ≡ n * length (scalars_of ss t)
unfolding layout_of
array_scalars ss c t n = length_repeated n (scalars_of ss t)

-- an array of objects has no more scalars than bytes, so their number fits
pub array_scalars_few : (ss : List PlainStructure) → AreWholeStructures ss → (c : Bool) (t : PlainType) (n : ℕ) → IsObjectType ss (array c t n) → n * length (scalars_of ss t) ≤ most_bytes
unfolding layout_of
array_scalars_few ss w c t n h =
    omega (arith, array_scalars ss c t n, (filled ss w (array c t n) h).enough, h.whole.3)

-- elements of an array of objects are objects
pub element_object : (ss : List PlainStructure) (c : Bool) (t : PlainType) (n : ℕ) → IsObjectType ss (array c t n) → IsObjectType ss t
element_object ss c t n h = record { whole = h.whole.0; complete = h.whole.1 }
