-- What writes leave of the objects: each is still there with as many cells, what was set is set, and what is written is.
use Rattle.std.proofs.Common.{◌≡◌, ℕ, zero, suc, ◌+◌, ◌<◌, Bool, true, false, cond, eqb, ltb, List, [], ◌∷◌, length, set, refl, ◌∙◌, ap, sym, subst, arith, Some, Ok, slice_get}
use Rattle.std.specs.Prelude.{nat_eq}
use Rattle.std.specs.List.{All}
use Rattle.std.proofs.lemmas.Bool.{eqb-true, eqb-false}
use Rattle.std.proofs.lemmas.List.Elements.{All-set}
use Rattle.std.proofs.lemmas.Option.{same_Some, none-some}
use Rattle.p10_core.specs.Typed.{PlainProgram}
use Rattle.p10_core.specs.WholePrograms.{is_among}
use Rattle.p10_meaning.specs.declared.pointers.Window.{Window}
use Rattle.p10_meaning.specs.declared.pointers.Ptr.TheVariants.{To}
use Rattle.p10_meaning.specs.declared.pointers.Cell.{Cell}
use Rattle.p10_meaning.specs.Pointers.{window_in}
use Rattle.p10_meaning.specs.Objects.{Object, declared, find, put, cell_at, write_at, inner}
use Rattle.p10_meaning.specs.States.{State}
use Rattle.p10_clean_soundness.specs.private.Setting.{IsFilled}
use Rattle.p10_clean_soundness.specs.private.Objects.{Settled, Survive, LeavesClean}
use Rattle.p10_clean_soundness.proofs.Closing.{live_on, started_on}

-- ## Lists of cells

pub got_below : {A : Type 0} (xs : List A) (n : ℕ) → n < length xs → (x : A) × (slice_get xs n ≡ Some x)
got_below [] n h = absurd (omega (arith, h))
got_below (y ∷ xs) zero h = (y, refl)
got_below (y ∷ xs) (suc n) h = got_below xs n (omega (arith, h))

length_set : (cells : List Cell) (i : ℕ) (c : Cell) → length (set cells i c) ≡ length cells
length_set [] i c = refl
length_set (x ∷ cells) zero c = refl
length_set (x ∷ cells) (suc i) c = ap suc (length_set cells i c)

set_same : (cells : List Cell) (i : ℕ) (c old : Cell) → slice_get cells i ≡ Some old → slice_get (set cells i c) i ≡ Some c
set_same [] i c old e = absurd (none-some _ e)
set_same (x ∷ cells) zero c old e = refl
set_same (x ∷ cells) (suc i) c old e = set_same cells i c old e

set_apart : (cells : List Cell) (i j : ℕ) (c : Cell) → (j ≡ i → ⊥) → slice_get (set cells i c) j ≡ slice_get cells j
set_apart [] i j c d = refl
set_apart (x ∷ cells) zero zero c d = absurd (d refl)
set_apart (x ∷ cells) zero (suc j) c d = refl
set_apart (x ∷ cells) (suc i) zero c d = refl
set_apart (x ∷ cells) (suc i) (suc j) c d = set_apart cells i j c (λ e. d (ap suc e))

-- ## Objects after a write

-- an object with one cell set
abbrev pub with_cell : Object → ℕ → Cell → Object
with_cell x i c = record x { cells = set x.cells i c }

found_put : (o i : ℕ) (c : Cell) (x : Object) (xs : List Object) → find o xs ≡ Some x → find o (put xs o i c) ≡ Some (with_cell x i c)
found_put o i c x [] e = absurd (none-some _ e)
found_put o i c x (y ∷ xs) e = by_case (eqb y.number o) refl e (found_put o i c x xs)
  where
    by_case : (b : Bool) → eqb y.number o ≡ b → cond b (Some y) (find o xs) ≡ Some x → (find o xs ≡ Some x → find o (put xs o i c) ≡ Some (with_cell x i c)) → find o (cond b (with_cell y i c ∷ xs) (y ∷ put xs o i c)) ≡ Some (with_cell x i c)
    by_case true q e k = ap (λ b. cond b (Some (with_cell y i c)) (find o xs)) q ∙ ap (λ y. Some (with_cell y i c)) (same_Some _ _ e)
    by_case false q e k = ap (λ b. cond b (Some y) (find o (put xs o i c))) q ∙ k e

other_put : (o i : ℕ) (c : Cell) (m : ℕ) (xs : List Object) → (m ≡ o → ⊥) → find m (put xs o i c) ≡ find m xs
other_put o i c m [] d = refl
other_put o i c m (y ∷ xs) d = by_case (eqb y.number o) refl (other_put o i c m xs d)
  where
    not_here : (z : Object) (zs : List Object) → y.number ≡ o → z.number ≡ y.number → find m (z ∷ zs) ≡ find m zs
    not_here z zs q s = unless (eqb z.number m) refl
      where
        unless : (b : Bool) → eqb z.number m ≡ b → cond b (Some z) (find m zs) ≡ find m zs
        unless true e = absurd (d (sym (eqb-true z.number m e) ∙ (s ∙ q)))
        unless false e = refl

    by_case : (b : Bool) → eqb y.number o ≡ b → find m (put xs o i c) ≡ find m xs → find m (cond b (with_cell y i c ∷ xs) (y ∷ put xs o i c)) ≡ find m (y ∷ xs)
    by_case true q k = not_here (with_cell y i c) xs (eqb-true y.number o q) refl ∙ sym (not_here y xs (eqb-true y.number o q) refl)
    by_case false q k = ap (λ r. cond (eqb y.number m) (Some y) r) k

-- an object is there with as many cells, and comes from where it came from
pub record IsShapedAs (number : ℕ) (before : Object) (objects : List Object) : Type 0 where
  pub object : Object
  pub there : find number objects ≡ Some object
  pub origin_is : object.origin ≡ before.origin
  pub length_is : length object.cells ≡ length before.cells

-- each object is there so
pub record KeepShape (before after : List Object) : Type 0 where
  pub each : (number : ℕ) (object : Object) → find number before ≡ Some object → IsShapedAs number object after

-- a cell of an object holds something
pub record IsFilledAt (objects : List Object) (number place : ℕ) : Type 0 where
  pub object : Object
  pub there : find number objects ≡ Some object
  pub cell : Cell
  pub has : slice_get object.cells place ≡ Some cell
  pub filled : IsFilled cell

-- what a piece leaves that writes scalars
pub record Writes (p : PlainProgram) (opening : List ℕ) (before : List Object) (w : State) : Type 0 where
  pub settled : Settled p opening w.objects
  pub shape : KeepShape before w.objects
  pub filled : (number place : ℕ) → IsFilledAt before number place → IsFilledAt w.objects number place

pub shape_trans : (a b c : List Object) → KeepShape a b → KeepShape b c → KeepShape a c
shape_trans a b c h k = record {
  each = λ o x e.
      let first : IsShapedAs o x b = h.each o x e in
      let second : IsShapedAs o first.object c = k.each o first.object first.there in
      record { object = second.object; there = second.there; origin_is = second.origin_is ∙ first.origin_is; length_is = second.length_is ∙ first.length_is };
}

pub shape_survives : (before after : List Object) → KeepShape before after → Survive before after
shape_survives before after h = record { each = λ o x e. let s : IsShapedAs o x after = h.each o x e in record { object = s.object; there = s.there; origin_is = s.origin_is } }

pub writes_leave : (p : PlainProgram) (opening : List ℕ) (before : List Object) (w : State) → Writes p opening before w → LeavesClean p opening before w
writes_leave p opening before w h = record { settled = h.settled; survive = shape_survives before w.objects h.shape }

pub writes_same : (p : PlainProgram) (opening : List ℕ) (w : State) → Settled p opening w.objects → Writes p opening w.objects w
writes_same p opening w s = record { settled = s; shape = record { each = λ o x e. record { object = x; there = e; origin_is = refl; length_is = refl } }; filled = λ o j h. h }

pub writes_then : (p : PlainProgram) (opening : List ℕ) (a : List Object) (b c : State) → Writes p opening a b → Writes p opening b.objects c → Writes p opening a c
writes_then p opening a b c h k = record { settled = k.settled; shape = shape_trans a b.objects c.objects h.shape k.shape; filled = λ o j e. k.filled o j (h.filled o j e) }

-- ## One write

module _ (p : PlainProgram) (opening : List ℕ) (objects : List Object) (o i : ℕ) (c : Cell) (x : Object) (there : find o objects ≡ Some x) (fills : IsFilled c) where
  same_or_other : (P : Type 0) (m : ℕ) → (m ≡ o → P) → ((m ≡ o → ⊥) → P) → P
  same_or_other P m f g = by_case (eqb m o) refl
    where
      by_case : (b : Bool) → eqb m o ≡ b → P
      by_case true e = f (eqb-true m o e)
      by_case false e = g (eqb-false m o e)

  put_shape : KeepShape objects (put objects o i c)
  put_shape = record {
    each = λ m y e. same_or_other (IsShapedAs m y (put objects o i c)) m
        (λ q. let same : x ≡ y = same_Some _ _ (sym there ∙ (ap (λ k. find k objects) (sym q) ∙ e)) in
        record { object = with_cell x i c; there = ap (λ k. find k (put objects o i c)) q ∙ found_put o i c x objects there; origin_is = ap (λ (y : Object). y.origin) same; length_is = length_set x.cells i c ∙ ap (λ (y : Object). length y.cells) same })
        (λ d. record { object = y; there = other_put o i c m objects d ∙ e; origin_is = refl; length_is = refl });
  }

  put_filled : (m j : ℕ) → IsFilledAt objects m j → IsFilledAt (put objects o i c) m j
  put_filled m j h = same_or_other (IsFilledAt (put objects o i c) m j) m
      (λ q. let same : h.object ≡ x = same_Some _ _ (sym h.there ∙ (ap (λ k. find k objects) q ∙ there)) in
      let has : slice_get x.cells j ≡ Some h.cell = ap (λ (y : Object). slice_get y.cells j) (sym same) ∙ h.has in
      let now : find m (put objects o i c) ≡ Some (with_cell x i c) = ap (λ k. find k (put objects o i c)) q ∙ found_put o i c x objects there in
      at j h.cell now has h.filled (nat_eq j i) refl)
      (λ d. record { object = h.object; there = other_put o i c m objects d ∙ h.there; cell = h.cell; has = h.has; filled = h.filled })
    where
      at : (j : ℕ) (cell : Cell) → find m (put objects o i c) ≡ Some (with_cell x i c) → slice_get x.cells j ≡ Some cell → IsFilled cell → (b : Bool) → nat_eq j i ≡ b → IsFilledAt (put objects o i c) m j
      at j cell now has f true e =
          let q : j ≡ i = eqb-true j i e in
          record { object = with_cell x i c; there = now; cell = c; has = ap (slice_get (set x.cells i c)) q ∙ set_same x.cells i c cell (ap (slice_get x.cells) (sym q) ∙ has); filled = fills }
      at j cell now has f false e = record { object = with_cell x i c; there = now; cell = cell; has = set_apart x.cells i j c (eqb-false j i e) ∙ has; filled = f }

  pub put_here : (old : Cell) → slice_get x.cells i ≡ Some old → IsFilledAt (put objects o i c) o i
  put_here old has = record { object = with_cell x i c; there = found_put o i c x objects there; cell = c; has = set_same x.cells i c old has; filled = fills }

  put_settled : Settled p opening objects → Settled p opening (put objects o i c)
  put_settled s =
      let lives : Survive objects (put objects o i c) = shape_survives objects (put objects o i c) put_shape in
      record {
        filled = λ m y e out. same_or_other (All IsFilled y.cells) m
            (λ q. let same : with_cell x i c ≡ y = same_Some _ _ (sym (found_put o i c x objects there) ∙ (ap (λ k. find k (put objects o i c)) (sym q) ∙ e)) in
            subst (λ (y : Object). All IsFilled y.cells) same (All-set IsFilled x.cells i c fills (s.filled o x there (ap (λ k. is_among k opening) (sym q) ∙ out))))
            (λ d. s.filled m y (sym (other_put o i c m objects d) ∙ e) out);
        started = started_on opening objects (put objects o i c) lives s.started;
        statics = λ k object e isnt. live_on _ opening objects (put objects o i c) k lives (s.statics k object e isnt);
        literals = λ k l e. live_on _ opening objects (put objects o i c) _ lives (s.literals k l e);
      }

  -- what a write leaves
  pub put_writes : (w : State) → w.objects ≡ put objects o i c → Settled p opening objects → Writes p opening objects w
  put_writes w e s = subst (λ now. Writes p opening objects (record w { objects = now })) (sym e) (record { settled = put_settled s; shape = put_shape; filled = put_filled })

-- ## Scalars of an element

-- the number of scalar i of the element at a position
abbrev pub part_at : Window → ℕ → ℕ → ℕ
part_at window n i = (window_in window n i 1 1).start + 0

-- an element of `count` scalars that is in an object
pub record HasParts (objects : List Object) (o : ℕ) (window : Window) (n count : ℕ) : Type 0 where
  pub object : Object
  pub there : find o objects ≡ Some object
  pub inside : window.inside ≡ true
  pub within : ltb n window.count ≡ true
  pub room : (i : ℕ) → i < count → part_at window n i < length object.cells

-- one that may be written
pub record MayWrite (objects : List Object) (o : ℕ) (window : Window) (n count : ℕ) : Type 0 where
  pub parts : HasParts objects o window n count
  pub declared_is : (x : Object) → find o objects ≡ Some x → x.origin ≡ declared

pub parts_kept : (a b : List Object) (o : ℕ) (window : Window) (n count : ℕ) → KeepShape a b → HasParts a o window n count → HasParts b o window n count
parts_kept a b o window n count k h =
    let s : IsShapedAs o h.object b = k.each o h.object h.there in
    record { object = s.object; there = s.there; inside = h.inside; within = h.within; room = λ i l. subst (λ m. part_at window n i < m) (sym s.length_is) (h.room i l) }

pub may_write_kept : (a b : List Object) (o : ℕ) (window : Window) (n count : ℕ) → KeepShape a b → MayWrite a o window n count → MayWrite b o window n count
may_write_kept a b o window n count k h =
    let x : Object = h.parts.object in
    let s : IsShapedAs o x b = k.each o x h.parts.there in
    record { parts = parts_kept a b o window n count k h.parts; declared_is = λ y e. ap (λ (y : Object). y.origin) (same_Some _ _ (sym e ∙ s.there)) ∙ (s.origin_is ∙ h.declared_is x h.parts.there) }

pub write_ok : (objects : List Object) (o : ℕ) (window : Window) (n : ℕ) (c old : Cell) (x : Object) → find o objects ≡ Some x → window.inside ≡ true → ltb n window.count ≡ true → slice_get x.cells (window.start + n) ≡ Some old → x.origin ≡ declared → write_at objects (To o window n) c ≡ Ok (put objects o (window.start + n) c)
write_ok objects o window n c old x there inside within has origin = rw (there, inside, within, has, origin) refl

pub read_ok : (objects : List Object) (o : ℕ) (window : Window) (n : ℕ) (c : Cell) (x : Object) → find o objects ≡ Some x → window.inside ≡ true → ltb n window.count ≡ true → slice_get x.cells (window.start + n) ≡ Some c → cell_at objects (To o window n) ≡ Ok c
read_ok objects o window n c x there inside within has = rw (there, inside, within, has) refl

pub inner_ok : (objects : List Object) (o : ℕ) (window : Window) (n i : ℕ) (x : Object) → find o objects ≡ Some x → inner objects (To o window n) i 1 1 ≡ Ok (To o (window_in window n i 1 1) 0)
inner_ok objects o window n i x there = rw there refl
