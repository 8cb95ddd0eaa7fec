-- Dead slots at the end are let go with their cells: no object is lost.
use Rattle.std.proofs.Common.{◌≡◌, ℕ, zero, suc, ◌+◌, ◌-◌, ◌<◌, ◌≤◌, cond, Bool, true, false, List, [], ◌∷◌, ◌++◌, length, take, drop, map, refl, sym, ◌∙◌, ap, subst, arith, Option, Some, None, slice_get}
use Rattle.std.proofs.lemmas.Option.{same_Some, none-some, slice_get_within}
use Rattle.std.proofs.lemmas.List.{take-take, drop-take, take_all, length-take-le}
use Rattle.p10_meaning.specs.declared.pointers.Cell.{Cell}
use Rattle.p10_store.specs.declared.slots.Slot.{Slot}
use Rattle.p10_store.specs.Stores.{Handle, before, trimmed}
use Rattle.p10_store.specs.Ranges.{kept, objects_of, handle_of, AreTiled, AreGrowing, AreBelow, AreLong, kept_before, kept_slots, width}
use Rattle.p10_store.specs.Places.{AreTrimmed}
use Rattle.p10_store.proofs.FoundObjects.{object_with}

-- ## The slot at the end

pub width_is : (n m : ℕ) (ss : List Slot) → AreTiled n ss m → n + width ss ≡ m
width_is n m [] t = omega (arith, t)
width_is n m (s ∷ ss) t = let h : n + s.len + width ss ≡ m = width_is (n + s.len) m ss t.1 in omega (arith, h)

tiled_pop : (n m : ℕ) (ss : List Slot) (s : Slot) → AreTiled n (ss ++ s ∷ []) m → AreTiled n ss s.start
tiled_pop n m [] s t = sym t.0
tiled_pop n m (r ∷ ss) s t = (t.0, tiled_pop (n + r.len) m ss s t.1)

tiled_end : (n m : ℕ) (ss : List Slot) (s : Slot) → AreTiled n (ss ++ s ∷ []) m → s.start ≤ m
tiled_end n m [] s t = let e : s.start ≡ n = t.0 in let d : n + s.len ≡ m = t.1 in omega (arith, e, d)
tiled_end n m (r ∷ ss) s t = tiled_end (n + r.len) m ss s t.1

kept_dead : (ss : List Slot) (s : Slot) → s.live ≡ false → kept_slots (ss ++ s ∷ []) ≡ kept_slots ss
kept_dead [] s e = rw e refl
kept_dead (r ∷ ss) s e = ap (kept_before r) (kept_dead ss s e)

kept_all : (n : ℕ) (ss : List Slot) (r : Slot) → length ss ≡ suc n → slice_get ss n ≡ Some r → r.live ≡ true → kept_slots ss ≡ ss
kept_all n [] r l e live = absurd (none-some _ e)
kept_all zero (s ∷ []) r l e live = let h : s.live ≡ true = ap (λ s. s.live) (same_Some _ _ e) ∙ live in rw h refl
kept_all zero (s ∷ q ∷ ss) r l e live = absurd (omega (arith, l))
kept_all (suc n) (s ∷ []) r l e live = absurd (none-some _ e)
kept_all (suc n) (s ∷ q ∷ ss) r l e live = ap (kept_before s) (kept_all n (q ∷ ss) r (omega (arith, l)) e live)

pub kept_last : (ss : List Slot) (r : Slot) → slice_get ss (length ss - 1) ≡ Some r → r.live ≡ true → kept_slots ss ≡ ss
kept_last ss r e live = let w : length ss - 1 < length ss = slice_get_within ss (length ss - 1) r e in kept_all (length ss - 1) ss r (omega (arith, w)) e live

pub width_before : (s : Slot) (xs : List Slot) → width (kept_before s xs) ≤ s.len + width xs
width_before s [] = case s.live
  where
    case : (b : Bool) → width (cond b (s ∷ []) []) ≤ s.len + 0
    case true = omega arith
    case false = omega arith
width_before s (x ∷ xs) = omega arith

pub width_kept : (ss : List Slot) → width (kept_slots ss) ≤ width ss
width_kept [] = omega arith
width_kept (s ∷ ss) = let h = width_before s (kept_slots ss) in let k = width_kept ss in omega (arith, h, k)

pub length_before : (s : Slot) (xs : List Slot) → length (kept_before s xs) ≤ suc (length xs)
length_before s [] = case s.live
  where
    case : (b : Bool) → length (cond b (s ∷ []) []) ≤ suc 0
    case true = omega arith
    case false = omega arith
length_before s (x ∷ xs) = omega arith

pub length_kept : (ss : List Slot) → length (kept_slots ss) ≤ length ss
length_kept [] = omega arith
length_kept (s ∷ ss) = let h = length_before s (kept_slots ss) in let k = length_kept ss in omega (arith, h, k)

-- ## The loop

pub trim_begins : (cells : List Cell) (ss : List Slot) → AreTiled 0 ss (length cells) → AreTrimmed cells ss cells ss
trim_begins cells ss t = record { tiled = t; slots_kept = refl; cells_kept = refl }

pub trim_pops : (oldcells cells : List Cell) (old slots left : List Slot) (s : Slot) → AreTrimmed oldcells old cells slots → slots ≡ left ++ s ∷ [] → s.live ≡ false → AreTrimmed oldcells old (take s.start cells) left
trim_pops oldcells cells old slots left s h e dead =
    let t : AreTiled 0 (left ++ s ∷ []) (length cells) = subst (λ slots. AreTiled 0 slots (length cells)) e h.tiled in
    let few : s.start ≤ length cells = tiled_end 0 (length cells) left s t in
    let popped : AreTiled 0 left s.start = tiled_pop 0 (length cells) left s t in
    let same : kept_slots slots ≡ kept_slots left = ap kept_slots e ∙ kept_dead left s dead in
    let w : 0 + width left ≡ s.start = width_is 0 s.start left popped in
    let k : width (kept_slots left) ≤ width left = width_kept left in
    record {
      tiled = subst (λ n. AreTiled 0 left n) (sym (length-take-le s.start cells few)) popped;
      slots_kept = sym same ∙ h.slots_kept;
      cells_kept = take-take (width (kept_slots left)) s.start cells (omega (arith, w, k)) ∙ (ap (λ slots. take (width slots) cells) (sym same) ∙ h.cells_kept);
    }

pub trim_ends : (oldcells cells : List Cell) (old slots : List Slot) → AreTrimmed oldcells old cells slots → kept_slots slots ≡ slots → (slots ≡ kept_slots old) × (cells ≡ take (width (kept_slots old)) oldcells)
trim_ends oldcells cells old slots h all =
    let w : 0 + width slots ≡ length cells = width_is 0 (length cells) slots h.tiled in
    (sym all ∙ h.slots_kept, sym (take_all (width slots) cells (omega (arith, w))) ∙ (ap (λ slots. take (width slots) cells) (sym all) ∙ h.cells_kept))

-- ## What is kept

objects_before : (s : Slot) (xs : List Slot) (cells : List Cell) → objects_of (take (width (kept_before s xs)) cells) (kept_before s xs) ≡ kept s (take s.len cells) (objects_of (take (width xs) (drop s.len cells)) xs)
objects_before s [] cells = case s.live refl
  where
    all : take s.len (take (s.len + 0) cells) ≡ take s.len cells
    all = take-take s.len (s.len + 0) cells (omega arith)

    case : (b : Bool) → s.live ≡ b → objects_of (take (width (cond b (s ∷ []) [])) cells) (cond b (s ∷ []) []) ≡ cond b (object_with s (take s.len cells) ∷ []) []
    case true e = rw (e, all) refl
    case false e = refl
objects_before s (x ∷ xs) cells =
    rw (take-take s.len (s.len + width (x ∷ xs)) cells (omega arith), drop-take s.len (width (x ∷ xs)) cells) refl

pub objects_kept : (cells : List Cell) (ss : List Slot) → objects_of (take (width (kept_slots ss)) cells) (kept_slots ss) ≡ objects_of cells ss
objects_kept cells [] = refl
objects_kept cells (s ∷ ss) = objects_before s (kept_slots ss) cells ∙ ap (kept s (take s.len cells)) (objects_kept (drop s.len cells) ss)

handles_before : (s : Slot) (xs : List Slot) → map handle_of (kept_before s xs) ≡ before (handle_of s) (map handle_of xs)
handles_before s [] = case s.live refl
  where
    case : (b : Bool) → s.live ≡ b → map handle_of (cond b (s ∷ []) []) ≡ before (cond b (Some (record { number = s.number; stride = s.stride; count = s.count })) None) []
    case true e = rw e refl
    case false e = refl
handles_before s (x ∷ xs) = case (handle_of s)
  where
    case : (o : Option Handle) → o ∷ map handle_of (x ∷ xs) ≡ before o (map handle_of (x ∷ xs))
    case None = refl
    case (Some h) = refl

pub handles_kept : (ss : List Slot) → map handle_of (kept_slots ss) ≡ trimmed (map handle_of ss)
handles_kept [] = refl
handles_kept (s ∷ ss) = handles_before s (kept_slots ss) ∙ ap (before (handle_of s)) (handles_kept ss)

-- the kept slots are the first ones
record IsFront (ss kept : List Slot) : Type 0 where
  count : ℕ
  front : kept ≡ take count ss

front_before : (s : Slot) (ss xs : List Slot) → IsFront ss xs → IsFront (s ∷ ss) (kept_before s xs)
front_before s ss [] h = case s.live
  where
    case : (b : Bool) → IsFront (s ∷ ss) (cond b (s ∷ []) [])
    case true = record { count = 1; front = refl }
    case false = record { count = 0; front = refl }
front_before s ss (x ∷ xs) h = record { count = suc h.count; front = ap (λ xs. s ∷ xs) h.front }

is_front : (ss : List Slot) → IsFront ss (kept_slots ss)
is_front [] = record { count = 0; front = refl }
is_front (s ∷ ss) = front_before s ss (kept_slots ss) (is_front ss)

take_tiled : (k n m : ℕ) (ss : List Slot) → AreTiled n ss m → AreTiled n (take k ss) (n + width (take k ss))
take_tiled zero n m ss t = omega arith
take_tiled (suc k) n m [] t = omega arith
take_tiled (suc k) n m (s ∷ ss) t = (t.0, subst (λ z. AreTiled (n + s.len) (take k ss) z) (omega arith) (take_tiled k (n + s.len) m ss t.1))

take_growing : (k n : ℕ) (ss : List Slot) → AreGrowing n ss → AreGrowing n (take k ss)
take_growing zero n ss g = tt
take_growing (suc k) n [] g = tt
take_growing (suc k) n (s ∷ ss) g = (g.0, take_growing k (suc s.number) ss g.1)

take_below : (k opened : ℕ) (ss : List Slot) → AreBelow opened ss → AreBelow opened (take k ss)
take_below zero opened ss b = tt
take_below (suc k) opened [] b = tt
take_below (suc k) opened (s ∷ ss) b = (b.0, take_below k opened ss b.1)

take_long : (k : ℕ) (ss : List Slot) → AreLong ss → AreLong (take k ss)
take_long zero ss b = tt
take_long (suc k) [] b = tt
take_long (suc k) (s ∷ ss) b = (b.0, take_long k ss b.1)

pub tiled_kept : (n m : ℕ) (ss : List Slot) → AreTiled n ss m → AreTiled n (kept_slots ss) (n + width (kept_slots ss))
tiled_kept n m ss t = let f = is_front ss in subst (λ xs. AreTiled n xs (n + width xs)) (sym f.front) (take_tiled f.count n m ss t)

pub growing_kept : (n : ℕ) (ss : List Slot) → AreGrowing n ss → AreGrowing n (kept_slots ss)
growing_kept n ss g = let f = is_front ss in subst (λ xs. AreGrowing n xs) (sym f.front) (take_growing f.count n ss g)

pub below_kept : (opened : ℕ) (ss : List Slot) → AreBelow opened ss → AreBelow opened (kept_slots ss)
below_kept opened ss b = let f = is_front ss in subst (λ xs. AreBelow opened xs) (sym f.front) (take_below f.count opened ss b)

pub long_kept : (ss : List Slot) → AreLong ss → AreLong (kept_slots ss)
long_kept ss l = let f = is_front ss in subst (λ xs. AreLong xs) (sym f.front) (take_long f.count ss l)
