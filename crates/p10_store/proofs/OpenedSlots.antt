-- What a store has once one more object is open.
use Rattle.std.proofs.Common.{◌≡◌, ℕ, suc, ◌+◌, ◌*◌, ◌^◌, ◌<◌, ◌≤◌, cond, Bool, true, false, List, [], ◌∷◌, ◌++◌, length, take, drop, map, refl, sym, ◌∙◌, ap, subst, arith, Some, length-append}
use Rattle.std.proofs.lemmas.List.{take-append-le, drop-append-le, nil_from_length, length-drop, take_all, length-map, map-append, length-replicate}
use Rattle.p10_meaning.specs.declared.pointers.Cell.{Cell}
use Rattle.p10_meaning.specs.Pointers.{unset}
use Rattle.p10_meaning.specs.Objects.{Object}
use Rattle.p10_store.specs.declared.shape.Origin.{Origin}
use Rattle.p10_store.specs.declared.shape.Origin.TheVariants.{Declared, Allocated, Literal, DeclaredWith, AllocatedWith}
use Rattle.p10_store.specs.declared.slots.Slot.{Slot}
use Rattle.p10_store.specs.Origins.{origin_of, character, first_cells, Fills}
use Rattle.p10_store.specs.Stores.{Opens}
use Rattle.p10_store.specs.Ranges.{kind_of, kept, objects_of, handle_of, AreTiled, AreGrowing, AreBelow, AreLong, IsStore}
use Rattle.p10_store.proofs.FoundObjects.{object_with, tiled_le}
use Rattle.p10_store.proofs.ClosedSlots.{Sizes, AreSized, held_in, some_here}

kept_push : (s : Slot) (cells : List Cell) (os : List Object) (o : Object) → kept s cells (os ++ o ∷ []) ≡ kept s cells os ++ o ∷ []
kept_push s cells os o = case s.live
  where
    case : (b : Bool) → cond b (object_with s cells ∷ (os ++ o ∷ [])) (os ++ o ∷ []) ≡ cond b (object_with s cells ∷ os) os ++ o ∷ []
    case true = refl
    case false = refl

objects_push : (base : ℕ) (cells fresh : List Cell) (ss : List Slot) (s : Slot) → AreTiled base ss (base + length cells) → s.live ≡ true → length fresh ≡ s.len →
    objects_of (cells ++ fresh) (ss ++ s ∷ []) ≡ objects_of cells ss ++ object_with s fresh ∷ []
objects_push base cells fresh [] s t live e =
    let z : cells ≡ [] = nil_from_length cells (omega (arith, t)) in
    rw (z, live, take_all s.len fresh (omega (arith, e))) refl
objects_push base cells fresh (r ∷ ss) s t live e =
    let h : base + r.len ≤ base + length cells = tiled_le ss (base + r.len) (base + length cells) t.1 in
    let l : r.len ≤ length cells = omega (arith, h) in
    let m : base + length cells ≡ base + r.len + length (drop r.len cells) = rw (length-drop r.len cells) (omega (arith, l)) in
    rw (take-append-le r.len cells fresh l, drop-append-le r.len cells fresh l)
    (ap (λ os. kept r (take r.len cells) os) (objects_push (base + r.len) (drop r.len cells) fresh ss s (subst (λ m. AreTiled (base + r.len) ss m) m t.1) live e)
    ∙ kept_push r (take r.len cells) (objects_of (drop r.len cells) ss) _)

tiled_push : (n m : ℕ) (ss : List Slot) (s : Slot) → AreTiled n ss m → s.start ≡ m → AreTiled n (ss ++ s ∷ []) (m + s.len)
tiled_push n m [] s t e = (e ∙ sym t, ap (λ n. n + s.len) t)
tiled_push n m (r ∷ ss) s t e = (t.0, tiled_push (n + r.len) m ss s t.1 e)

growing_push : (n opened : ℕ) (ss : List Slot) (s : Slot) → AreGrowing n ss → AreBelow opened ss → n ≤ opened → s.number ≡ opened → AreGrowing n (ss ++ s ∷ [])
growing_push n opened [] s g b l e = (omega (arith, l, e), tt)
growing_push n opened (r ∷ ss) s g b l e = (g.0, growing_push (suc r.number) opened ss s g.1 b.1 b.0 e)

below_push : (opened : ℕ) (ss : List Slot) (s : Slot) → AreBelow opened ss → s.number ≡ opened → AreBelow (opened + 1) (ss ++ s ∷ [])
below_push opened [] s b e = (omega (arith, e), tt)
below_push opened (r ∷ ss) s b e = (let h : r.number < opened = b.0 in omega (arith, h), below_push opened ss s b.1 e)

long_push : (ss : List Slot) (s : Slot) → AreLong ss → s.len ≡ s.count * s.stride → AreLong (ss ++ s ∷ [])
long_push [] s l e = (e, tt)
long_push (r ∷ ss) s l e = (l.0, long_push ss s l.1 e)

length_first : (origin : Origin) (n : ℕ) → Fills origin n → length (first_cells origin n) ≡ n
length_first Declared n f = length-replicate n unset
length_first Allocated n f = length-replicate n unset
length_first (Literal bytes) n f = length-map bytes.now character ∙ f
length_first (DeclaredWith cells) n f = f
length_first (AllocatedWith cells) n f = f

-- a slot was put after all others, and its cells after all others
pub record IsOpened (cells news : List Cell) (ss slots : List Slot) (opened : ℕ) (s : Slot) (origin : Origin) (old new : Sizes) : Type 0 where
  pub slots_are : slots ≡ ss ++ s ∷ []
  pub cells_are : news ≡ cells ++ first_cells origin s.len
  pub number : s.number ≡ opened
  pub start : s.start ≡ length cells
  pub live : s.live ≡ true
  pub size : s.len ≡ s.count * s.stride
  pub provenance : kind_of s.provenance ≡ origin_of origin
  pub fills : Fills origin s.len
  pub slot_capacity : old.slot_capacity ≤ new.slot_capacity
  pub cell_capacity : old.cell_capacity ≤ new.cell_capacity

pub open_keeps : (cells news : List Cell) (ss slots : List Slot) (opened : ℕ) (s : Slot) (origin : Origin) (old new : Sizes) → IsStore cells ss opened → IsOpened cells news ss slots opened s origin old new → IsStore news slots (opened + 1)
open_keeps cells news ss slots opened s origin old new w o =
    subst (λ news. IsStore news slots (opened + 1)) (sym o.cells_are) (subst (λ slots. IsStore (cells ++ first_cells origin s.len) slots (opened + 1)) (sym o.slots_are)
    (record {
      tiled = subst (λ n. AreTiled 0 (ss ++ s ∷ []) n) (ap (λ n. length cells + n) (sym (length_first origin s.len o.fills)) ∙ sym (length-append cells (first_cells origin s.len))) (tiled_push 0 (length cells) ss s w.tiled o.start);
      growing = growing_push 0 opened ss s w.growing w.below (omega arith) o.number;
      below = below_push opened ss s w.below o.number;
      long = long_push ss s w.long o.size;
    }))

lengths : (cells news : List Cell) (ss slots : List Slot) (opened : ℕ) (s : Slot) (origin : Origin) (old new : Sizes) → IsOpened cells news ss slots opened s origin old new → (length slots ≡ length ss + 1) × (length news ≡ length cells + s.len)
lengths cells news ss slots opened s origin old new o = (
  ap length o.slots_are ∙ length-append ss (s ∷ []),
  ap length o.cells_are ∙ (length-append cells (first_cells origin s.len) ∙ ap (λ n. length cells + n) (length_first origin s.len o.fills)),
)

pub open_is : (cells news : List Cell) (ss slots : List Slot) (opened : ℕ) (s : Slot) (origin : Origin) (old new : Sizes) → IsStore cells ss opened → IsOpened cells news ss slots opened s origin old new →
    AreSized cells ss old → AreSized news slots new → Opens (held_in cells ss opened old) (held_in news slots (opened + 1) new) s.stride s.count origin
open_is cells news ss slots opened s origin old new w o z y =
    let t : AreTiled 0 ss (0 + length cells) = subst (λ n. AreTiled 0 ss n) (omega arith) w.tiled in
    let l = lengths cells news ss slots opened s origin old new o in
    record {
      opened = refl;
      objects = (λ i. objects_of (o.cells_are i) (o.slots_are i))
          ∙ (objects_push 0 cells (first_cells origin s.len) ss s t o.live (length_first origin s.len o.fills)
          ∙ (λ i. objects_of cells ss ++ record { number = o.number i; origin = o.provenance i; cells = first_cells origin (o.size i) } ∷ []));
      slots = ap (map handle_of) o.slots_are ∙ (map-append handle_of ss (s ∷ [])
          ∙ (ap (λ h. map handle_of ss ++ h ∷ []) (some_here s o.live) ∙ ap (λ n. map handle_of ss ++ Some (record { number = n; stride = s.stride; count = s.count }) ∷ []) o.number));
      spare_objects = omega (arith, l.0, z.slots_are, y.slots_are, z.slot_room, y.slot_room, o.slot_capacity);
      spare_cells = let size : s.len ≡ s.count * s.stride = o.size in omega (arith, l.1, size, z.cells_are, y.cells_are, z.cell_room, y.cell_room, o.cell_capacity);
    }

-- what there is room for fits a machine word
pub fits_word : (n room : ℕ) → n ≤ room → room < 2 ^ 63 → n < 2 ^ 64
fits_word n room a b = omega (arith, a, b)
