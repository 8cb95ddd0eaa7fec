-- No array in an object has over 2^40 elements: types say how many elements the arrays in their values have.
use Rattle.std.proofs.Common.{◌≡◌, ℕ, zero, suc, ◌*◌, ◌≤◌, List, [], ◌∷◌, Option, Some, None, length, slice_get, refl, subst, arith, leb}
use Rattle.std.proofs.lemmas.Option.{same_Some, none-some}
use Rattle.p10_core.specs.Types.{PlainType, void, integer, pointer, array, structure, bare, PlainMember, PlainStructure, members_in, members_of, body_of}
use Rattle.p10_core.specs.Sizes.{size_of}
use Rattle.p10_core.specs.Typed.{PlainProgram}
use Rattle.p10_core.specs.WholePrograms.{most_bytes, IsWholeType, IsWholeMember, AreWholeStructures}
use Rattle.p10_core.proofs.ScalarCounts.{arrays_are_short}
use Rattle.p10_meaning.specs.declared.pointers.Window.{Window}
use Rattle.p10_meaning.specs.Values.{scalars_before}
use Rattle.p10_meaning.specs.Sound.{most_elements, Kind, View, own, Step, into, to_member, view_of_row, view_of_entry, view_of_member, stepped, walk, kind_scalars, IsSmall}
use Rattle.p10_meaning.proofs.Geometry.{when_some, then_some}
use Rattle.p10_meaning.proofs.LaidOut.{object_bare, array_bytes, all_at, body_of_member}

-- the arrays that lie in a value of a type, one in another, have no more elements; those in members are left to the structures
abbrev pub IsShort : PlainType → Type 0
IsShort (void c) = Unit {0}
IsShort (integer c i) = Unit {0}
IsShort (pointer c t) = Unit {0}
IsShort (array c t n) = (n ≤ most_elements) × IsShort t
IsShort (structure c n) = Unit {0}

-- the same for an array and for its elements
pub record IsShortView (v : View) : Type 0 where
  pub count : v.window.count ≤ most_elements
  pub elem : IsShort v.elem

-- ## Types

bytes_bound : (n : ℕ) → n ≤ most_bytes → n ≤ most_elements
unfolding most_bytes
bytes_bound n l = l

short_whole : (ss : List PlainStructure) → AreWholeStructures ss → (t : PlainType) → IsWholeType ss t → IsShort t
short_whole ss w (void c) h = tt
short_whole ss w (integer c i) h = tt
short_whole ss w (pointer c t) h = tt
short_whole ss w (array c t n) h = (bytes_bound n (arrays_are_short ss w c t n h), short_whole ss w t h.0)
short_whole ss w (structure c n) h = tt

no_factor : (n s : ℕ) → 1 ≤ n * s → 1 ≤ s
no_factor n zero l = absurd (omega (arith, l))
no_factor n (suc s) l = omega arith

at_most_left : (n s : ℕ) → 1 ≤ s → n ≤ n * s
at_most_left zero s l = omega arith
at_most_left (suc n) s l = let h : n ≤ n * s = at_most_left n s l in omega (arith, h, l)

at_most_right : (n s : ℕ) → 1 ≤ n * s → s ≤ n * s
at_most_right zero s l = absurd (omega (arith, l))
at_most_right (suc n) s l = omega arith

bounded : (n m b : ℕ) → n ≤ m → m ≡ b → b ≤ 1048576 → n ≤ 1048576
bounded n m b l e k = omega (arith, l, e, k)

-- a type of few bytes has few elements in each array
pub short_size : (ss : List PlainStructure) (t : PlainType) → 1 ≤ size_of ss t → size_of ss t ≤ 1048576 → IsShort t
short_size ss (void c) some few = tt
short_size ss (integer c i) some few = tt
short_size ss (pointer c t) some few = tt
short_size ss (array c t n) some few =
    let e : size_of ss (array c t n) ≡ n * size_of ss t = array_bytes ss c t n in
    let product : 1 ≤ n * size_of ss t = subst (λ m. 1 ≤ m) e some in
    let one : 1 ≤ size_of ss t = no_factor n (size_of ss t) product in
    let less : n * size_of ss t ≤ 1048576 = subst (λ m. m ≤ 1048576) e few in
    let count : n ≤ 1048576 = bounded n (n * size_of ss t) (n * size_of ss t) (at_most_left n (size_of ss t) one) refl less in
    let inner : size_of ss t ≤ 1048576 = bounded (size_of ss t) (n * size_of ss t) (n * size_of ss t) (at_most_right n (size_of ss t) product) refl less in
    (omega (arith, count), short_size ss t one inner)
short_size ss (structure c n) some few = tt

-- how many elements, where they and all their bytes are few
pub few_elements : (n s : ℕ) → 1 ≤ n * s → n * s ≤ 1048576 → (n ≤ 1048576) × (1 ≤ s) × (s ≤ 1048576)
few_elements n s some few =
    let one : 1 ≤ s = no_factor n s some in
    (bounded n (n * s) (n * s) (at_most_left n s one) refl few, one, bounded s (n * s) (n * s) (at_most_right n s some) refl few)

-- ## Paths

row_short : (p : PlainProgram) (w : Window) (n : ℕ) (t : PlainType) (u : View) → IsShort t → view_of_row p w n t ≡ Some u → IsShortView u
row_short p w n (array c t count) u h e = subst IsShortView (same_Some _ _ e) (record { count = h.0; elem = h.1 })
row_short p w n (void c) u h e = absurd (none-some _ e)
row_short p w n (integer c i) u h e = absurd (none-some _ e)
row_short p w n (pointer c t) u h e = absurd (none-some _ e)
row_short p w n (structure c k) u h e = absurd (none-some _ e)

member_short : (ss : List PlainStructure) → AreWholeStructures ss → (k m : ℕ) (x : PlainMember) → slice_get (members_of ss k) m ≡ Some x → IsShort (bare ss x.type)
member_short ss w k m x e = body_of_member (body_of ss k) m x e (λ b is.
    let there : slice_get b.members m ≡ Some x = subst (λ o. slice_get (members_in o) m ≡ Some x) is e in
    let one : IsWholeMember ss b.order x = all_at (IsWholeMember ss b.order) b.members m x (w.bodies k b is).members there in
    short_whole ss w (bare ss x.type) (object_bare ss w x.type one.object).whole)

entry_short : (p : PlainProgram) → AreWholeStructures p.structures → (w : Window) (n at k m : ℕ) (o : Option PlainMember) (u : View) → slice_get (members_of p.structures k) m ≡ o → view_of_entry p w n at o ≡ Some u → IsShortView u
entry_short p whole w n at k m None u there e = absurd (none-some _ e)
entry_short p whole w n at k m (Some x) u there e = subst IsShortView (same_Some _ _ e) (record { count = omega arith; elem = member_short p.structures whole k m x there })

structure_short : (p : PlainProgram) → AreWholeStructures p.structures → (w : Window) (n m : ℕ) (t : PlainType) (u : View) → view_of_member p w n m t ≡ Some u → IsShortView u
structure_short p whole w n m (structure c k) u e = entry_short p whole w n (scalars_before p (structure c k) m) k m (slice_get (members_of p.structures k) m) u refl e
structure_short p whole w n m (void c) u e = absurd (none-some _ e)
structure_short p whole w n m (integer c i) u e = absurd (none-some _ e)
structure_short p whole w n m (pointer c t) u e = absurd (none-some _ e)
structure_short p whole w n m (array c t count) u e = absurd (none-some _ e)

step_short : (p : PlainProgram) → AreWholeStructures p.structures → (v u : View) (s : Step) → IsShortView v → stepped p v s ≡ Some u → IsShortView u
step_short p whole v u (into n) h e = row_short p v.window n v.elem u h.elem (when_some (leb n v.window.count) (view_of_row p v.window n v.elem) u e).1
step_short p whole v u (to_member n m) h e = structure_short p whole v.window n m v.elem u (when_some (leb n v.window.count) (view_of_member p v.window n m v.elem) u e).1

walk_short : (p : PlainProgram) → AreWholeStructures p.structures → (path : List Step) (v u : View) → IsShortView v → walk p v path ≡ Some u → IsShortView u
walk_short p whole [] v u h e = subst IsShortView (same_Some _ _ e) h
walk_short p whole (s ∷ path) v u h e =
    then_some (stepped p v s) (λ x. walk p x path) u e (λ x e1 e2. walk_short p whole path x u (step_short p whole v x s h e1) e2)

-- ## Objects

-- elements of a type whose arrays are short, few of them, make a small object
pub small_object : (p : PlainProgram) → AreWholeStructures p.structures → (k : Kind) → IsShort k.elem → k.count ≤ most_elements → length (kind_scalars p k) ≤ most_elements → IsSmall p k
small_object p whole k short count few = record {
  scalars = few;
  arrays = λ v leads. (walk_short p whole leads.path (own p k) v (record { count = count; elem = short }) leads.leads).count;
}
