-- Where the ranges follow one another, a pointer's cell is one of those of its object, and of no other.
use Rattle.std.proofs.Common.{get_or, ◌≡◌, ℕ, ◌+◌, ◌<◌, ◌≤◌, ltb, ◌&&◌, cond, Bool, true, false, List, length, take, drop, refl, sym, ◌∙◌, ap, subst, arith, Option, Some, None, Result, Ok, Err, is_ok, slice_get}
use Rattle.std.proofs.lemmas.Option.{slice_get_past, slice_get-get_or}
use Rattle.std.proofs.lemmas.Bool.{ltb-true, ltb-false}
use Rattle.std.proofs.lemmas.List.{length-drop, length-take, get_or-take, get_or-drop}
use Rattle.p10_int.specs.declared.operators.Stop.{Stop}
use Rattle.p10_int.specs.declared.operators.Stop.TheVariants.{U6, U7, U12}
use Rattle.p10_meaning.specs.declared.pointers.Window.{Window}
use Rattle.p10_meaning.specs.declared.pointers.Ptr.{Ptr}
use Rattle.p10_meaning.specs.declared.pointers.Ptr.TheVariants.{Null, To}
use Rattle.p10_meaning.specs.declared.pointers.Cell.{Cell}
use Rattle.p10_meaning.specs.Pointers.{unset}
use Rattle.p10_meaning.specs.Objects.{Origin, declared, allocated, literal, on_ok, or_stop, scalar_at, may_write, target_at}
use Rattle.p10_store.specs.declared.slots.Slot.{Slot}
use Rattle.p10_store.specs.declared.slots.Provenance.{Provenance}
use Rattle.p10_store.specs.Ranges.{kind_of, objects_of, AreTiled}
use Rattle.p10_store.specs.Places.{slot_at, in_range, place_in, IsCellAt, IsTargetAt, IsNoCell, Places}
use Rattle.p10_store.proofs.FoundObjects.{Found, found, none_found}

get_in : (k l j : ℕ) (cells : List Cell) (d : Cell) → k + l ≤ length cells → j < l → slice_get (take l (drop k cells)) j ≡ Some (get_or cells (k + j) d)
get_in k l j cells d room b =
    let h : j < length (take l (drop k cells)) = rw (length-take l (drop k cells), length-drop k cells) (omega (arith, room, b)) in
    slice_get-get_or (take l (drop k cells)) j d h ∙ ap (λ c. Some c) (get_or-take l (drop k cells) j d b ∙ get_or-drop k cells j d)

get_out : (k l j : ℕ) (cells : List Cell) → l ≤ j → slice_get (take l (drop k cells)) j ≡ None
get_out k l j cells b = slice_get_past (take l (drop k cells)) j (rw (length-take l (drop k cells)) (omega (arith, b)))

ranged : (cells : List Cell) (ss : List Slot) (o : ℕ) (a : Window) (n : ℕ) (s : Slot) (b : Bool) → Found 0 o cells ss s → (a.inside && ltb n a.count) ≡ true → ltb (a.start + n) s.len ≡ b →
    Places cells ss (To o a n) (cond b (Ok (s.start + (a.start + n), s.provenance)) (Err U6))
ranged cells ss o a n s true f i e =
    let l : a.start + n < s.len = ltb-true (a.start + n) s.len e in
    let at : s.start ≡ f.k = f.at ∙ omega arith in
    subst (λ m. IsCellAt cells ss (To o a n) (m + (a.start + n)) (kind_of s.provenance)) (sym at)
    (record {
      below = let r : f.k + s.len ≤ length cells = f.room in omega (arith, r, l);
      cell = λ d. rw (f.object, i, get_in f.k s.len (a.start + n) cells d f.room l) refl;
      target = λ d. rw (f.object, i, get_in f.k s.len (a.start + n) cells d f.room l) refl;
      put = λ c. f.put (a.start + n) c l;
    })
ranged cells ss o a n s false f i e =
    let none : slice_get (take s.len (drop f.k cells)) (a.start + n) ≡ None = get_out f.k s.len (a.start + n) cells (ltb-false (a.start + n) s.len e) in
    record { cell = rw (f.object, i, none) refl; target = rw (f.object, i, none) refl }

scalar_case : (cells : List Cell) (ss : List Slot) (o : ℕ) (a : Window) (n : ℕ) (s : Slot) (b : Bool) → Found 0 o cells ss s → (a.inside && ltb n a.count) ≡ b →
    Places cells ss (To o a n) (on_ok (cond b (Ok (a.start + n)) (Err U6)) (λ i. in_range s i))
scalar_case cells ss o a n s true f e = ranged cells ss o a n s (ltb (a.start + n) s.len) f e refl
scalar_case cells ss o a n s false f e = record { cell = rw (f.object, e) refl; target = rw (f.object, e) refl }

slot_case : (cells : List Cell) (ss : List Slot) (o : ℕ) (a : Window) (n : ℕ) (x : Option Slot) → AreTiled 0 ss (length cells) → slot_at o ss ≡ x →
    Places cells ss (To o a n) (on_ok (or_stop x U7) (λ s. on_ok (scalar_at a n) (λ i. in_range s i)))
slot_case cells ss o a n None t e = record { cell = rw (none_found o cells ss e) refl; target = rw (none_found o cells ss e) refl }
slot_case cells ss o a n (Some s) t e = scalar_case cells ss o a n s (a.inside && ltb n a.count) (found 0 o cells s ss (subst (λ m. AreTiled 0 ss m) (omega arith) t) e) refl

-- the place that the slots alone give is that of the pointer's cell
pub placed : (cells : List Cell) (ss : List Slot) (pointer : Ptr) → AreTiled 0 ss (length cells) → Places cells ss pointer (place_in ss pointer)
placed cells ss Null t = record { cell = refl; target = refl }
placed cells ss (To o a n) t = slot_case cells ss o a n (slot_at o ss) t refl

-- what follows from the place that was found, and from none
pub is_cell : (cells : List Cell) (ss : List Slot) (pointer : Ptr) (i : ℕ) (p : Provenance) → AreTiled 0 ss (length cells) → place_in ss pointer ≡ Ok (i, p) → IsCellAt cells ss pointer i (kind_of p)
is_cell cells ss pointer i p t e = subst (λ r. Places cells ss pointer r) e (placed cells ss pointer t)

pub no_cell : (cells : List Cell) (ss : List Slot) (pointer : Ptr) (stop : Stop) → AreTiled 0 ss (length cells) → place_in ss pointer ≡ Err stop → IsNoCell cells ss pointer stop
no_cell cells ss pointer stop t e = subst (λ r. Places cells ss pointer r) e (placed cells ss pointer t)

-- ## Whether the cell may be written

written : {A : Type 0} (origin : Origin) (r : Result A Stop) → is_ok (may_write origin) ≡ true → on_ok (may_write origin) (λ _. r) ≡ r
written declared r e = refl
written allocated r e = refl
written literal r e = absurd cc

refused : {A : Type 0} (origin : Origin) (r : Result A Stop) → is_ok (may_write origin) ≡ false → on_ok (may_write origin) (λ _. r) ≡ Err U12
refused declared r e = absurd cc
refused allocated r e = absurd cc
refused literal r e = refl

pub may : (cells : List Cell) (ss : List Slot) (pointer : Ptr) (i : ℕ) (origin : Origin) → IsCellAt cells ss pointer i origin → is_ok (may_write origin) ≡ true → IsTargetAt cells ss pointer i
may cells ss pointer i origin h e = record { below = h.below; target = λ d. h.target d ∙ written origin (Ok (get_or cells i d)) e; put = h.put }

pub may_not : (cells : List Cell) (ss : List Slot) (pointer : Ptr) (i : ℕ) (origin : Origin) → IsCellAt cells ss pointer i origin → is_ok (may_write origin) ≡ false → target_at (objects_of cells ss) pointer ≡ Err U12
may_not cells ss pointer i origin h e = h.target unset ∙ refused origin (Ok (get_or cells i unset)) e
