-- Where the ranges follow one another, an object found among the slots is the one among the live objects.
use Rattle.std.proofs.Common.{is_some, option_map, ◌≡◌, ℕ, zero, suc, ◌+◌, ◌-◌, ◌<◌, ◌≤◌, eqb, ◌&&◌, cond, Bool, true, false, List, [], ◌∷◌, length, take, drop, set, refl, sym, ◌∙◌, ap, subst, arith, Option, Some, None}
use Rattle.std.proofs.lemmas.Option.{same_Some, none-some}
use Rattle.std.proofs.lemmas.List.{drop-drop, take-set-le, drop-set-add, drop-set-lt, length-drop}
use Rattle.p10_meaning.specs.declared.pointers.Cell.{Cell}
use Rattle.p10_meaning.specs.Objects.{Object, find, put}
use Rattle.p10_store.specs.declared.slots.Slot.{Slot}
use Rattle.p10_store.specs.Ranges.{kind_of, kept, objects_of, AreTiled}
use Rattle.p10_store.specs.Places.{has, slot_at}

-- the object of a slot with these cells
abbrev pub object_with : Slot → List Cell → Object
object_with s cells = record { number = s.number; origin = kind_of s.provenance; cells = cells }

-- the object of a slot whose cells begin at a place
abbrev pub object_at : List Cell → ℕ → Slot → Object
object_at cells k s = object_with s (take s.len (drop k cells))

take_set : {A : Type 0} (n i : ℕ) (xs : List A) (a : A) → take n (set xs i a) ≡ set (take n xs) i a
take_set zero i xs a = refl
take_set (suc n) i [] a = refl
take_set (suc n) zero (x ∷ xs) a = refl
take_set (suc n) (suc i) (x ∷ xs) a = ap (λ ys. x ∷ ys) (take_set n i xs a)

pub tiled_le : (ss : List Slot) (n m : ℕ) → AreTiled n ss m → n ≤ m
tiled_le [] n m t = omega (arith, t)
tiled_le (s ∷ ss) n m t = let h : n + s.len ≤ m = tiled_le ss (n + s.len) m t.1 in omega (arith, h)

-- ## One slot

pub find_kept : (s : Slot) (n : ℕ) (cells : List Cell) (os : List Object) → has n s ≡ false → find n (kept s cells os) ≡ find n os
find_kept s n cells os e = case s.live e
  where
    case : (b : Bool) → (b && eqb s.number n) ≡ false → find n (cond b (object_with s cells ∷ os) os) ≡ find n os
    case false e = refl
    case true e = rw e refl

put_kept : (s : Slot) (n i : ℕ) (cells : List Cell) (os : List Object) (c : Cell) → has n s ≡ false → put (kept s cells os) n i c ≡ kept s cells (put os n i c)
put_kept s n i cells os c e = case s.live e
  where
    case : (b : Bool) → (b && eqb s.number n) ≡ false → put (cond b (object_with s cells ∷ os) os) n i c ≡ cond b (object_with s cells ∷ put os n i c) (put os n i c)
    case false e = refl
    case true e = rw e refl

pub find_here : (s : Slot) (n : ℕ) (cells : List Cell) (os : List Object) → has n s ≡ true → find n (kept s cells os) ≡ Some (object_with s cells)
find_here s n cells os e = case s.live e
  where
    case : (b : Bool) → (b && eqb s.number n) ≡ true → find n (cond b (object_with s cells ∷ os) os) ≡ Some (object_with s cells)
    case false e = absurd cc
    case true e = rw e refl

put_here : (s : Slot) (n i : ℕ) (cells : List Cell) (os : List Object) (c : Cell) → has n s ≡ true → put (kept s cells os) n i c ≡ kept s (set cells i c) os
put_here s n i cells os c e = case s.live e
  where
    case : (b : Bool) → (b && eqb s.number n) ≡ true → put (cond b (object_with s cells ∷ os) os) n i c ≡ cond b (object_with s (set cells i c) ∷ os) os
    case false e = absurd cc
    case true e = rw e refl

-- ## All slots

-- where the cells of the live object with a number begin, counted from the first slot's: the object, and what a write of one cell does
pub record Found (base n : ℕ) (cells : List Cell) (ss : List Slot) (s : Slot) : Type 0 where
  pub k : ℕ
  pub at : s.start ≡ base + k
  pub room : k + s.len ≤ length cells
  pub object : find n (objects_of cells ss) ≡ Some (object_at cells k s)
  pub put : (i : ℕ) (c : Cell) → i < s.len → objects_of (set cells (k + i) c) ss ≡ put (objects_of cells ss) n i c

none_case : (s : Slot) (n : ℕ) (b : Bool) (x : Option Slot) (cells : List Cell) (os : List Object) → has n s ≡ b → cond b (Some s) x ≡ None → (x ≡ None → find n os ≡ None) → find n (kept s cells os) ≡ None
none_case s n true x cells os b e go = absurd (none-some _ (sym e))
none_case s n false x cells os b e go = find_kept s n cells os b ∙ go e

pub none_found : (n : ℕ) (cells : List Cell) (ss : List Slot) → slot_at n ss ≡ None → find n (objects_of cells ss) ≡ None
none_found n cells [] e = refl
none_found n cells (s ∷ ss) e = none_case s n (has n s) (slot_at n ss) (take s.len cells) (objects_of (drop s.len cells) ss) refl e (none_found n (drop s.len cells) ss)

found_here : (base n : ℕ) (cells : List Cell) (s : Slot) (ss : List Slot) → AreTiled base (s ∷ ss) (base + length cells) → has n s ≡ true → Found base n cells (s ∷ ss) s
found_here base n cells s ss t b = record {
  k = 0;
  at = omega (arith, t.0);
  room = let h : base + s.len ≤ base + length cells = tiled_le ss (base + s.len) (base + length cells) t.1 in omega (arith, h);
  object = find_here s n (take s.len cells) (objects_of (drop s.len cells) ss) b;
  put = λ i c l.
      let z : 0 + i ≡ i = omega arith in
      rw (z, take_set s.len i cells c, drop-set-lt s.len cells i c l) (sym (put_here s n i (take s.len cells) (objects_of (drop s.len cells) ss) c b));
}

found_later : (base n : ℕ) (cells : List Cell) (s r : Slot) (ss : List Slot) → s.len ≤ length cells → has n s ≡ false → Found (base + s.len) n (drop s.len cells) ss r → Found base n cells (s ∷ ss) r
found_later base n cells s r ss l b f = record {
  k = s.len + f.k;
  at = let h : r.start ≡ base + s.len + f.k = f.at in omega (arith, h);
  room = let h : f.k + r.len ≤ length cells - s.len = subst (λ m. f.k + r.len ≤ m) (length-drop s.len cells) f.room in omega (arith, h, l);
  object = find_kept s n (take s.len cells) (objects_of (drop s.len cells) ss) b ∙ (f.object ∙ ap (λ xs. Some (object_with r (take r.len xs))) (drop-drop f.k s.len cells));
  put = λ i c m.
      let z : s.len + f.k + i ≡ s.len + (f.k + i) = omega arith in
      rw (z, take-set-le s.len cells (s.len + (f.k + i)) c (omega arith), drop-set-add s.len cells (f.k + i) c)
      (ap (λ os. kept s (take s.len cells) os) (f.put i c m) ∙ sym (put_kept s n i (take s.len cells) (objects_of (drop s.len cells) ss) c b));
}

found_case : (base n : ℕ) (cells : List Cell) (s r : Slot) (ss : List Slot) (b : Bool) → AreTiled base (s ∷ ss) (base + length cells) → has n s ≡ b → cond b (Some s) (slot_at n ss) ≡ Some r →
    (slot_at n ss ≡ Some r → AreTiled (base + s.len) ss (base + s.len + length (drop s.len cells)) → Found (base + s.len) n (drop s.len cells) ss r) → Found base n cells (s ∷ ss) r
found_case base n cells s r ss true t b e go = subst (λ r. Found base n cells (s ∷ ss) r) (same_Some _ _ e) (found_here base n cells s ss t b)
found_case base n cells s r ss false t b e go =
    let h : base + s.len ≤ base + length cells = tiled_le ss (base + s.len) (base + length cells) t.1 in
    let l : s.len ≤ length cells = omega (arith, h) in
    let m : base + length cells ≡ base + s.len + length (drop s.len cells) = rw (length-drop s.len cells) (omega (arith, l)) in
    found_later base n cells s r ss l b (go e (subst (λ m. AreTiled (base + s.len) ss m) m t.1))

pub found : (base n : ℕ) (cells : List Cell) (r : Slot) (ss : List Slot) → AreTiled base ss (base + length cells) → slot_at n ss ≡ Some r → Found base n cells ss r
found base n cells r [] t e = absurd (none-some _ e)
found base n cells r (s ∷ ss) t e = found_case base n cells s r ss (has n s) t refl e (λ e t. found (base + s.len) n (drop s.len cells) r ss t e)

-- ## Whether an object is live

some_case : (s : Slot) (n : ℕ) (b : Bool) (x : Option Slot) (cells : List Cell) (os : List Object) → has n s ≡ b → is_some (find n os) ≡ is_some x → is_some (find n (kept s cells os)) ≡ is_some (cond b (Some s) x)
some_case s n true x cells os b e = ap is_some (find_here s n cells os b)
some_case s n false x cells os b e = ap is_some (find_kept s n cells os b) ∙ e

pub live_same : (n : ℕ) (cells : List Cell) (ss : List Slot) → is_some (find n (objects_of cells ss)) ≡ is_some (slot_at n ss)
live_same n cells [] = refl
live_same n cells (s ∷ ss) = some_case s n (has n s) (slot_at n ss) (take s.len cells) (objects_of (drop s.len cells) ss) refl (live_same n (drop s.len cells) ss)

pub some_map : {A B : Type 0} (f : A → B) (o : Option A) → is_some (option_map f o) ≡ is_some o
some_map f None = refl
some_map f (Some x) = refl
