-- What `free` does, by the slot of the object.
use Rattle.std.proofs.Common.{◌≡◌, ◌≢◌, ℕ, get_or, eqb, ◌&&◌, cond, Bool, true, false, List, [], ◌∷◌, take, drop, refl, sym, ◌∙◌, ap, subst, Option, Some, None, Result, Ok, Err, slice_get, option_map}
use Rattle.std.proofs.lemmas.Option.{get_or_from_slice_get}
use Rattle.p10_int.specs.declared.operators.Stop.{Stop}
use Rattle.p10_int.specs.declared.operators.Stop.TheVariants.{U11}
use Rattle.p10_meaning.specs.declared.pointers.Cell.{Cell}
use Rattle.p10_meaning.specs.declared.pointers.Window.{Window}
use Rattle.p10_meaning.specs.declared.pointers.Ptr.{Ptr}
use Rattle.p10_meaning.specs.declared.pointers.Ptr.TheVariants.{To}
use Rattle.p10_meaning.specs.Objects.{Object, Origin, find, closed, freed, is_allocated, release}
use Rattle.p10_store.specs.declared.slots.Slot.{Slot}
use Rattle.p10_store.specs.Ranges.{kind_of, kept, objects_of, AreGrowing}
use Rattle.p10_store.specs.Places.{has, slot_at, frees, HasSlot, FreesAt}
use Rattle.p10_store.proofs.FoundObjects.{find_here, find_kept}
use Rattle.p10_store.proofs.NumberedSlots.{slot_is, slot_none}

origin_case : (s : Slot) (n : ℕ) (b : Bool) (x : Option Slot) (cells : List Cell) (os : List Object) → has n s ≡ b →
    option_map (λ o. o.origin) (find n os) ≡ option_map (λ s. kind_of s.provenance) x → option_map (λ o. o.origin) (find n (kept s cells os)) ≡ option_map (λ s. kind_of s.provenance) (cond b (Some s) x)
origin_case s n true x cells os b e = ap (option_map (λ o. o.origin)) (find_here s n cells os b)
origin_case s n false x cells os b e = ap (option_map (λ o. o.origin)) (find_kept s n cells os b) ∙ e

pub origin_same : (n : ℕ) (cells : List Cell) (ss : List Slot) → option_map (λ o. o.origin) (find n (objects_of cells ss)) ≡ option_map (λ s. kind_of s.provenance) (slot_at n ss)
origin_same n cells [] = refl
origin_same n cells (s ∷ ss) = origin_case s n (has n s) (slot_at n ss) (take s.len cells) (objects_of (drop s.len cells) ss) refl (origin_same n (drop s.len cells) ss)

-- what `free` gives, by where the object comes from
abbrev freed_by : List Object → ℕ → Window → ℕ → Option Origin → Result (List Object) Stop
freed_by os o a n None = Err U11
freed_by os o a n (Some origin) = cond (is_allocated origin && a.whole && eqb n 0) (Ok (closed o os)) (Err U11)

freed_is : (os : List Object) (o : ℕ) (a : Window) (n : ℕ) (x : Option Object) → freed os o a n x ≡ freed_by os o a n (option_map (λ o. o.origin) x)
freed_is os o a n None = refl
freed_is os o a n (Some x) = refl

by_slot : (cells : List Cell) (ss : List Slot) (o : ℕ) (a : Window) (n : ℕ) (x : Option Slot) → slot_at o ss ≡ x →
    release (objects_of cells ss) (To o a n) ≡ freed_by (objects_of cells ss) o a n (option_map (λ s. kind_of s.provenance) x)
by_slot cells ss o a n x e =
    freed_is (objects_of cells ss) o a n (find o (objects_of cells ss)) ∙ ap (freed_by (objects_of cells ss) o a n) (origin_same o cells ss ∙ ap (option_map (λ s. kind_of s.provenance)) e)

first_of_both : (b c : Bool) → (b && c) ≡ true → b ≡ true
first_of_both true c e = refl
first_of_both false c e = absurd cc

both_ways : (b c d : Bool) → (b && (c && d)) ≡ ((b && c) && d)
both_ways true c d = refl
both_ways false c d = refl

freed_case : (cells : List Cell) (ss : List Slot) (o : ℕ) (a : Window) (n : ℕ) (s : Slot) (live : Bool) → s.live ≡ live → slot_at o ss ≡ cond live (Some s) None →
    release (objects_of cells ss) (To o a n) ≡ cond (live && (is_allocated (kind_of s.provenance) && (a.whole && eqb n 0))) (Ok (closed o (objects_of cells ss))) (Err U11)
freed_case cells ss o a n s true l e =
    by_slot cells ss o a n (Some s) e ∙ ap (λ b. cond b (Ok (closed o (objects_of cells ss))) (Err U11)) (sym (both_ways (is_allocated (kind_of s.provenance)) a.whole (eqb n 0)))
freed_case cells ss o a n s false l e = by_slot cells ss o a n None e

freed_at : (cells : List Cell) (ss : List Slot) (o : ℕ) (a : Window) (n i : ℕ) (d : Slot) → AreGrowing 0 ss → HasSlot ss o i →
    release (objects_of cells ss) (To o a n) ≡ cond (frees (get_or ss i d) a n) (Ok (closed o (objects_of cells ss))) (Err U11)
freed_at cells ss o a n i d g h =
    subst (λ s. release (objects_of cells ss) (To o a n) ≡ cond (frees s a n) (Ok (closed o (objects_of cells ss))) (Err U11)) (sym (get_or_from_slice_get ss i h.slot d h.there))
    (freed_case cells ss o a n h.slot h.slot.live refl (slot_is o 0 i ss h.slot g h.there h.number))

-- ## The answers

pub answers_freed : (cells : List Cell) (ss : List Slot) (pointer : Ptr) (o : ℕ) (a : Window) (n i : ℕ) (d : Slot) → pointer ≡ To o a n → AreGrowing 0 ss → HasSlot ss o i → frees (get_or ss i d) a n ≡ true → FreesAt cells ss pointer (Ok (Some i))
answers_freed cells ss pointer o a n i d is g h e =
    subst (λ pointer. FreesAt cells ss pointer (Ok (Some i))) (sym is)
    (record {
      slot = h.slot;
      there = h.there;
      number = h.number;
      live = ap (λ s. s.live) (sym (get_or_from_slice_get ss i h.slot d h.there)) ∙ first_of_both _ _ e;
      freed = freed_at cells ss o a n i d g h ∙ ap (λ b. cond b (Ok (closed o (objects_of cells ss))) (Err U11)) e;
    })

pub answers_kept : (cells : List Cell) (ss : List Slot) (pointer : Ptr) (o : ℕ) (a : Window) (n i : ℕ) (d : Slot) → pointer ≡ To o a n → AreGrowing 0 ss → HasSlot ss o i → frees (get_or ss i d) a n ≡ false → release (objects_of cells ss) pointer ≡ Err U11
answers_kept cells ss pointer o a n i d is g h e =
    ap (release (objects_of cells ss)) is ∙ (freed_at cells ss o a n i d g h ∙ ap (λ b. cond b (Ok (closed o (objects_of cells ss))) (Err U11)) e)

pub answers_none : (cells : List Cell) (ss : List Slot) (pointer : Ptr) (o : ℕ) (a : Window) (n : ℕ) → pointer ≡ To o a n → ((i : ℕ) (s : Slot) → slice_get ss i ≡ Some s → s.number ≢ o) → release (objects_of cells ss) pointer ≡ Err U11
answers_none cells ss pointer o a n is d = ap (release (objects_of cells ss)) is ∙ by_slot cells ss o a n None (slot_none o ss d)
