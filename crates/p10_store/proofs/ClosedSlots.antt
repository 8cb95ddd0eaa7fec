-- What a store has once the object of a slot is dead.
use Rattle.std.proofs.Common.{◌≡◌, ◌≢◌, ℕ, zero, suc, ◌+◌, ◌-◌, ◌*◌, ◌<◌, ◌≤◌, eqb, cond, Bool, true, false, List, [], ◌∷◌, length, take, drop, set, map, refl, sym, ◌∙◌, ap, subst, arith, Option, Some, None, slice_get, option_map, eq-eqb}
use Rattle.std.proofs.lemmas.Bool.Decides.{nat_tests}
use Rattle.std.proofs.lemmas.Option.{same_Some, none-some, cond_some, slice_get-map, slice_get_within}
use Rattle.std.proofs.lemmas.List.{length-map, length-take-le}
use Rattle.p10_meaning.specs.declared.pointers.Cell.{Cell}
use Rattle.p10_meaning.specs.Objects.{Object, closed}
use Rattle.p10_store.specs.declared.slots.Slot.{Slot}
use Rattle.p10_store.specs.Stores.{Handle, Held, left_in, vacated, trimmed, Closes, IsYoungest, BringsBack}
use Rattle.p10_store.specs.Ranges.{kept, objects_of, handle_of, AreTiled, AreGrowing, AreBelow, AreLong, IsStore, kept_slots, width}
use Rattle.p10_store.proofs.FoundObjects.{object_with}
use Rattle.p10_store.proofs.NumberedSlots.{at_least}
use Rattle.p10_store.proofs.TrimmedSlots.{width_is, width_kept, length_kept, width_before, length_before, objects_kept, handles_kept, tiled_kept, growing_kept, below_kept, long_kept}

abbrev pub dead : Slot → Slot
dead s = record s { live = false }

-- ## The objects

closed_here : (s : Slot) (cells : List Cell) (os : List Object) → s.live ≡ true → closed s.number (kept s cells os) ≡ os
closed_here s cells os e = rw (e, eq-eqb s.number s.number refl) refl

closed_later : (s : Slot) (n : ℕ) (cells : List Cell) (os : List Object) → s.number < n → closed n (kept s cells os) ≡ kept s cells (closed n os)
closed_later s n cells os l = case s.live
  where
    other : eqb s.number n ≡ false
    other = grind (arith, nat_tests, l)

    case : (b : Bool) → closed n (cond b (object_with s cells ∷ os) os) ≡ cond b (object_with s cells ∷ closed n os) (closed n os)
    case true = rw other refl
    case false = refl

objects_closed : (n i : ℕ) (cells : List Cell) (ss : List Slot) (s : Slot) → AreGrowing n ss → slice_get ss i ≡ Some s → s.live ≡ true → objects_of cells (set ss i (dead s)) ≡ closed s.number (objects_of cells ss)
objects_closed n i cells [] s g e live = absurd (none-some _ e)
objects_closed n zero cells (r ∷ ss) s g e live =
    subst (λ s. s.live ≡ true → kept (dead s) (take s.len cells) (objects_of (drop s.len cells) ss) ≡ closed s.number (kept r (take r.len cells) (objects_of (drop r.len cells) ss))) (same_Some _ _ e)
    (λ live. sym (closed_here r (take r.len cells) (objects_of (drop r.len cells) ss) live)) live
objects_closed n (suc i) cells (r ∷ ss) s g e live =
    let l : suc r.number ≤ s.number = at_least (suc r.number) i ss s g.1 e in
    ap (λ os. kept r (take r.len cells) os) (objects_closed (suc r.number) i (drop r.len cells) ss s g.1 e live) ∙ sym (closed_later r s.number (take r.len cells) (objects_of (drop r.len cells) ss) (omega (arith, l)))

-- ## The handles

stays : (s : Slot) (n : ℕ) → s.number ≢ n → handle_of s ≡ left_in n (handle_of s)
stays s n d = case s.live
  where
    other : eqb s.number n ≡ false
    other = grind (arith, nat_tests, d)

    case : (b : Bool) → cond b (Some (record { number = s.number; stride = s.stride; count = s.count })) None ≡ left_in n (cond b (Some (record { number = s.number; stride = s.stride; count = s.count })) None)
    case true = rw other refl
    case false = refl

all_stay : (n m : ℕ) (ss : List Slot) → AreGrowing m ss → n < m → map handle_of ss ≡ vacated n (map handle_of ss)
all_stay n m [] g l = refl
all_stay n m (s ∷ ss) g l =
    let h : m ≤ s.number = g.0 in
    λ i. stays s n (λ e. omega (arith, h, e, l)) i ∷ all_stay n (suc s.number) ss g.1 (omega (arith, h, l)) i

vacated_here : (s : Slot) → s.live ≡ true → None ≡ left_in s.number (handle_of s)
vacated_here s e = rw (e, eq-eqb s.number s.number refl) refl

handles_closed : (n i : ℕ) (ss : List Slot) (s : Slot) → AreGrowing n ss → slice_get ss i ≡ Some s → s.live ≡ true → map handle_of (set ss i (dead s)) ≡ vacated s.number (map handle_of ss)
handles_closed n i [] s g e live = absurd (none-some _ e)
handles_closed n zero (r ∷ ss) s g e live =
    subst (λ s. s.live ≡ true → map handle_of (dead s ∷ ss) ≡ vacated s.number (map handle_of (r ∷ ss))) (same_Some _ _ e)
    (λ live. λ i. vacated_here r live i ∷ all_stay r.number (suc r.number) ss g.1 (omega arith) i) live
handles_closed n (suc i) (r ∷ ss) s g e live =
    let l : suc r.number ≤ s.number = at_least (suc r.number) i ss s g.1 e in
    λ j. stays r s.number (λ e. omega (arith, l, e)) j ∷ handles_closed (suc r.number) i ss s g.1 e live j

-- ## What is kept of the slots

pub tiled_closed : (n m i : ℕ) (ss : List Slot) (s : Slot) → AreTiled n ss m → slice_get ss i ≡ Some s → AreTiled n (set ss i (dead s)) m
tiled_closed n m i [] s t e = absurd (none-some _ e)
tiled_closed n m zero (r ∷ ss) s t e = subst (λ s. AreTiled n (dead s ∷ ss) m) (same_Some _ _ e) t
tiled_closed n m (suc i) (r ∷ ss) s t e = (t.0, tiled_closed (n + r.len) m i ss s t.1 e)

growing_closed : (n i : ℕ) (ss : List Slot) (s : Slot) → AreGrowing n ss → slice_get ss i ≡ Some s → AreGrowing n (set ss i (dead s))
growing_closed n i [] s t e = absurd (none-some _ e)
growing_closed n zero (r ∷ ss) s t e = subst (λ s. AreGrowing n (dead s ∷ ss)) (same_Some _ _ e) t
growing_closed n (suc i) (r ∷ ss) s t e = (t.0, growing_closed (suc r.number) i ss s t.1 e)

below_closed : (opened i : ℕ) (ss : List Slot) (s : Slot) → AreBelow opened ss → slice_get ss i ≡ Some s → AreBelow opened (set ss i (dead s))
below_closed opened i [] s t e = absurd (none-some _ e)
below_closed opened zero (r ∷ ss) s t e = subst (λ s. AreBelow opened (dead s ∷ ss)) (same_Some _ _ e) t
below_closed opened (suc i) (r ∷ ss) s t e = (t.0, below_closed opened i ss s t.1 e)

long_closed : (i : ℕ) (ss : List Slot) (s : Slot) → AreLong ss → slice_get ss i ≡ Some s → AreLong (set ss i (dead s))
long_closed i [] s t e = absurd (none-some _ e)
long_closed zero (r ∷ ss) s t e = subst (λ s. AreLong (dead s ∷ ss)) (same_Some _ _ e) t
long_closed (suc i) (r ∷ ss) s t e = (t.0, long_closed i ss s t.1 e)

long_at : (i : ℕ) (ss : List Slot) (s : Slot) → AreLong ss → slice_get ss i ≡ Some s → s.len ≡ s.count * s.stride
long_at i [] s t e = absurd (none-some _ e)
long_at zero (r ∷ ss) s t e = subst (λ s. s.len ≡ s.count * s.stride) (same_Some _ _ e) t.0
long_at (suc i) (r ∷ ss) s t e = long_at i ss s t.1 e

width_closed : (i : ℕ) (ss : List Slot) (s : Slot) → slice_get ss i ≡ Some s → width (set ss i (dead s)) ≡ width ss
width_closed i [] s e = absurd (none-some _ e)
width_closed zero (r ∷ ss) s e = subst (λ s. width (dead s ∷ ss) ≡ width (r ∷ ss)) (same_Some _ _ e) refl
width_closed (suc i) (r ∷ ss) s e = ap (λ n. r.len + n) (width_closed i ss s e)

length_closed : (i : ℕ) (ss : List Slot) (s : Slot) → length (set ss i (dead s)) ≡ length ss
length_closed i [] s = refl
length_closed zero (r ∷ ss) s = refl
length_closed (suc i) (r ∷ ss) s = ap suc (length_closed i ss s)

-- ## The youngest

pub some_here : (s : Slot) → s.live ≡ true → handle_of s ≡ Some (record { number = s.number; stride = s.stride; count = s.count })
some_here s e = rw e refl

none_kept : (ss : List Slot) → ((i : ℕ) (h : Handle) → slice_get (map handle_of ss) i ≡ Some (Some h) → ⊥) → kept_slots ss ≡ []
none_kept [] none = refl
none_kept (s ∷ ss) none = rw (none_kept ss (λ i h e. none (suc i) h e)) (case s.live refl)
  where
    case : (b : Bool) → s.live ≡ b → cond b (s ∷ []) [] ≡ []
    case true e = absurd (none 0 (record { number = s.number; stride = s.stride; count = s.count }) (ap (λ h. Some h) (some_here s e)))
    case false e = refl

pub record LetsGo (ss : List Slot) (i : ℕ) (s : Slot) : Type 0 where
  pub slots : length (kept_slots (set ss i (dead s))) ≤ i
  pub cells : width (kept_slots (set ss i (dead s))) + s.len ≤ width ss

youngest : (i : ℕ) (ss : List Slot) (s : Slot) → slice_get ss i ≡ Some s → IsYoungest (map handle_of ss) i → LetsGo ss i s
youngest i [] s e y = absurd (none-some _ e)
youngest zero (r ∷ ss) s e y =
    subst (λ s. LetsGo (r ∷ ss) zero s) (same_Some _ _ e)
    (let none : kept_slots ss ≡ [] = none_kept ss (λ j h d. let k : suc j ≤ 0 = y (suc j) h d in omega (arith, k)) in
    record { slots = rw none (omega arith); cells = rw none (omega arith) })
youngest (suc i) (r ∷ ss) s e y =
    let h : LetsGo ss i s = youngest i ss s e (λ j g d. let k : suc j ≤ suc i = y (suc j) g d in omega (arith, k)) in
    let a : length (kept_slots (set ss i (dead s))) ≤ i = h.slots in
    let b : width (kept_slots (set ss i (dead s))) + s.len ≤ width ss = h.cells in
    let l = length_before r (kept_slots (set ss i (dead s))) in
    let w = width_before r (kept_slots (set ss i (dead s))) in
    record { slots = omega (arith, a, l); cells = omega (arith, b, w) }

-- ## All of it

abbrev pub held_of : List Cell → List Slot → ℕ → ℕ → ℕ → Held
held_of cells ss opened spare_objects spare_cells =
    record { opened = opened; objects = objects_of cells ss; slots = map handle_of ss; spare_objects = spare_objects; spare_cells = spare_cells }

handle_is : (ss : List Slot) (i : ℕ) (s : Slot) (h : Handle) → slice_get ss i ≡ Some s → slice_get (map handle_of ss) i ≡ Some (Some h) → (s.live ≡ true) × (record { number = s.number; stride = s.stride; count = s.count } ≡ h)
handle_is ss i s h e d = cond_some s.live _ h (same_Some _ _ (sym (ap (option_map handle_of) e) ∙ (sym (slice_get-map handle_of ss i) ∙ d)))

pub within_handles : (ss : List Slot) (i : ℕ) (x : Option Handle) → slice_get (map handle_of ss) i ≡ Some x → i < length ss
within_handles ss i x e = subst (λ n. i < n) (length-map ss handle_of) (slice_get_within (map handle_of ss) i x e)

-- the lengths and capacities of the lists of slots and cells
pub record Sizes : Type 0 where
  pub slots : ℕ
  pub slot_capacity : ℕ
  pub cells : ℕ
  pub cell_capacity : ℕ

abbrev pub held_in : List Cell → List Slot → ℕ → Sizes → Held
held_in cells ss opened z = held_of cells ss opened (z.slot_capacity - z.slots) (z.cell_capacity - z.cells)

pub record AreSized (cells : List Cell) (ss : List Slot) (z : Sizes) : Type 0 where
  pub slots_are : z.slots ≡ length ss
  pub cells_are : z.cells ≡ length cells
  pub slot_room : z.slots ≤ z.slot_capacity
  pub cell_room : z.cells ≤ z.cell_capacity

-- after the slot's mark was taken, the dead slots at the end were let go
pub record IsClosed (cells news : List Cell) (ss slots : List Slot) (i : ℕ) (s : Slot) (old new : Sizes) : Type 0 where
  pub slots_are : slots ≡ kept_slots (set ss i (dead s))
  pub cells_are : news ≡ take (width (kept_slots (set ss i (dead s)))) cells
  pub slot_capacity : new.slot_capacity ≡ old.slot_capacity
  pub cell_capacity : new.cell_capacity ≡ old.cell_capacity

kept_width : (cells : List Cell) (ss : List Slot) (opened i : ℕ) (s : Slot) → IsStore cells ss opened → slice_get ss i ≡ Some s → width (kept_slots (set ss i (dead s))) ≤ length cells
kept_width cells ss opened i s w e =
    let a : width (kept_slots (set ss i (dead s))) ≤ width (set ss i (dead s)) = width_kept (set ss i (dead s)) in
    let b : width (set ss i (dead s)) ≡ width ss = width_closed i ss s e in
    let c : 0 + width ss ≡ length cells = width_is 0 (length cells) ss w.tiled in
    omega (arith, a, b, c)

pub close_keeps : (cells news : List Cell) (ss slots : List Slot) (opened i : ℕ) (s : Slot) (old new : Sizes) → IsStore cells ss opened → slice_get ss i ≡ Some s → IsClosed cells news ss slots i s old new → IsStore news slots opened
close_keeps cells news ss slots opened i s old new w e c =
    subst (λ news. IsStore news slots opened) (sym c.cells_are) (subst (λ slots. IsStore (take (width (kept_slots (set ss i (dead s)))) cells) slots opened) (sym c.slots_are)
    (record {
      tiled = subst (λ n. AreTiled 0 (kept_slots (set ss i (dead s))) n) (let k = kept_width cells ss opened i s w e in omega arith ∙ sym (length-take-le (width (kept_slots (set ss i (dead s)))) cells k))
          (tiled_kept 0 (length cells) (set ss i (dead s)) (tiled_closed 0 (length cells) i ss s w.tiled e));
      growing = growing_kept 0 (set ss i (dead s)) (growing_closed 0 i ss s w.growing e);
      below = below_kept opened (set ss i (dead s)) (below_closed opened i ss s w.below e);
      long = long_kept (set ss i (dead s)) (long_closed i ss s w.long e);
    }))

lengths : (cells news : List Cell) (ss slots : List Slot) (opened i : ℕ) (s : Slot) (old new : Sizes) → IsStore cells ss opened → slice_get ss i ≡ Some s → IsClosed cells news ss slots i s old new →
    (length slots ≡ length (kept_slots (set ss i (dead s)))) × (length news ≡ width (kept_slots (set ss i (dead s))))
lengths cells news ss slots opened i s old new w e c =
    (ap length c.slots_are, ap length c.cells_are ∙ length-take-le (width (kept_slots (set ss i (dead s)))) cells (kept_width cells ss opened i s w e))

pub close_is : (cells news : List Cell) (ss slots : List Slot) (opened i : ℕ) (s : Slot) (h : Handle) (old new : Sizes) → IsStore cells ss opened → slice_get ss i ≡ Some s → slice_get (map handle_of ss) i ≡ Some (Some h) →
    IsClosed cells news ss slots i s old new → AreSized cells ss old → AreSized news slots new → Closes h.number (held_in cells ss opened old) (held_in news slots opened new)
close_is cells news ss slots opened i s h old new w e d c z y =
    let k = handle_is ss i s h e d in
    let n : s.number ≡ h.number = ap (λ h. h.number) k.1 in
    let l = lengths cells news ss slots opened i s old new w e c in
    let a : length (kept_slots (set ss i (dead s))) ≤ length (set ss i (dead s)) = length_kept (set ss i (dead s)) in
    let b : length (set ss i (dead s)) ≡ length ss = length_closed i ss s in
    let m : width (kept_slots (set ss i (dead s))) ≤ length cells = kept_width cells ss opened i s w e in
    record {
      opened = refl;
      objects = (λ j. objects_of (c.cells_are j) (c.slots_are j)) ∙ (objects_kept_closed ∙ (objects_closed 0 i cells ss s w.growing e k.0 ∙ ap (λ n. closed n (objects_of cells ss)) n));
      slots = ap (map handle_of) c.slots_are ∙ (handles_kept (set ss i (dead s)) ∙ ap trimmed (handles_closed 0 i ss s w.growing e k.0 ∙ ap (λ n. vacated n (map handle_of ss)) n));
      spare_objects = omega (arith, l.0, a, b, z.slots_are, y.slots_are, c.slot_capacity);
      spare_cells = omega (arith, l.1, m, z.cells_are, y.cells_are, c.cell_capacity);
    }
  where
    objects_kept_closed : objects_of (take (width (kept_slots (set ss i (dead s)))) cells) (kept_slots (set ss i (dead s))) ≡ objects_of cells (set ss i (dead s))
    objects_kept_closed = objects_kept cells (set ss i (dead s))

pub close_brings : (cells news : List Cell) (ss slots : List Slot) (opened i : ℕ) (s : Slot) (h : Handle) (old new : Sizes) → IsStore cells ss opened → slice_get ss i ≡ Some s → slice_get (map handle_of ss) i ≡ Some (Some h) →
    IsClosed cells news ss slots i s old new → AreSized cells ss old → AreSized news slots new → IsYoungest (map handle_of ss) i → BringsBack h (held_in cells ss opened old) (held_in news slots opened new)
close_brings cells news ss slots opened i s h old new w e d c z y young =
    let k = handle_is ss i s h e d in
    let size : s.len ≡ h.count * h.stride = long_at i ss s w.long e ∙ ap (λ h. let h : Handle = h in h.count * h.stride) k.1 in
    let l = lengths cells news ss slots opened i s old new w e c in
    let g : LetsGo ss i s = youngest i ss s e young in
    let a : length (kept_slots (set ss i (dead s))) ≤ i = g.slots in
    let b : width (kept_slots (set ss i (dead s))) + s.len ≤ width ss = g.cells in
    let t : 0 + width ss ≡ length cells = width_is 0 (length cells) ss w.tiled in
    let j : i < length ss = slice_get_within ss i s e in
    record {
      spare_objects = omega (arith, l.0, a, j, z.slots_are, y.slots_are, z.slot_room, c.slot_capacity);
      spare_cells = omega (arith, l.1, b, t, size, z.cells_are, y.cells_are, z.cell_room, c.cell_capacity);
    }
