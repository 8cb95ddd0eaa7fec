-- A write changes one scalar, a closed object is dead, and an opened one is new.
use Rattle.std.proofs.Common.{◌≡◌, ◌≢◌, ℕ, zero, suc, ◌+◌, ◌<◌, ◌≤◌, eqb, ltb, ◌&&◌, cond, Bool, true, false, List, [], ◌∷◌, ◌++◌, length, set, refl, sym, ◌∙◌, ap, subst, arith, Option, Some, None, Result, Ok, Err, slice_get, ℤ}
use Rattle.std.specs.Prelude.{◌+ℤ◌, pos}
use Rattle.std.proofs.lemmas.Bool.{eqb-true, eqb-false, eq-eqb, ne_eqb}
use Rattle.std.proofs.lemmas.Option.{same_Some, none-some}
use Rattle.p10_int.specs.declared.operators.Stop.{Stop}
use Rattle.p10_int.specs.declared.operators.Stop.TheVariants.{U6, U7}
use Rattle.p10_core.specs.Typed.{PlainProgram}
use Rattle.p10_meaning.specs.declared.pointers.Window.{Window}
use Rattle.p10_meaning.specs.declared.pointers.Ptr.{Ptr}
use Rattle.p10_meaning.specs.declared.pointers.Ptr.TheVariants.{Null, To}
use Rattle.p10_meaning.specs.declared.pointers.Cell.{Cell}
use Rattle.p10_meaning.specs.Objects.{Origin, Object, on_ok, or_stop, alive, find, scalar_at, cell_at, target_at, put, write_at, placed, shift, closed}
use Rattle.p10_meaning.specs.States.{State}
use Rattle.p10_meaning.specs.Sound.{Kind, Above, AllObjects, Sound}
use Rattle.p10_meaning.specs.Apart.{scalar_of_object, WritesOne, ClosesOne, OpensOne}
use Rattle.p10_meaning.proofs.Fitting.{get_below}

-- ## Looking up

found : (n : ℕ) (x : Object) (xs : List Object) → x.number ≡ n → find n (x ∷ xs) ≡ Some x
found n x xs e = ap (λ b. cond b (Some x) (find n xs)) (eq-eqb x.number n e)

passed : (n : ℕ) (x : Object) (xs : List Object) → x.number ≢ n → find n (x ∷ xs) ≡ find n xs
passed n x xs e = ap (λ b. cond b (Some x) (find n xs)) (ne_eqb x.number n e)

-- two numbers are one or not
abbrev pub Either : (n m : ℕ) → Type 0 → Type 0
Either n m P = (n ≡ m → P) → (n ≢ m → P) → P

one_or_not : {P : Type 0} (n m : ℕ) → Either n m P
one_or_not {P} n m f g = by (eqb n m) refl
  where
    by : (b : Bool) → eqb n m ≡ b → P
    by true e = f (eqb-true n m e)
    by false e = g (eqb-false n m e)

-- ## Closing

none_above : (n m : ℕ) (xs : List Object) → Above n xs → m ≤ n → find m xs ≡ None
none_above n m [] f l = refl
none_above n m (x ∷ xs) f l = let a : n < x.number = f.0 in passed m x xs (λ e. omega (arith, a, l, e)) ∙ none_above n m xs f.1 l

closed_dead : (p : PlainProgram) (ks : List Kind) (n : ℕ) (xs : List Object) → AllObjects p ks xs → find n (closed n xs) ≡ None
closed_dead p ks n [] f = refl
closed_dead p ks n (x ∷ xs) f = one_or_not x.number n
    (λ e. ap (λ b. find n (cond b xs (x ∷ closed n xs))) (eq-eqb x.number n e) ∙ none_above x.number n xs f.0.1 (omega (arith, e)))
    (λ e. ap (λ b. find n (cond b xs (x ∷ closed n xs))) (ne_eqb x.number n e) ∙ (passed n x (closed n xs) e ∙ closed_dead p ks n xs f.1))

closed_others : (n m : ℕ) (xs : List Object) → m ≢ n → find m (closed n xs) ≡ find m xs
closed_others n m [] d = refl
closed_others n m (x ∷ xs) d = one_or_not x.number n
    (λ e. ap (λ b. find m (cond b xs (x ∷ closed n xs))) (eq-eqb x.number n e) ∙ sym (passed m x xs (λ g. d (sym g ∙ e))))
    (λ e. ap (λ b. find m (cond b xs (x ∷ closed n xs))) (ne_eqb x.number n e) ∙ ap (λ r. cond (eqb x.number m) (Some x) r) (closed_others n m xs d))

pub closes_one : (p : PlainProgram) (ks : List Kind) (w : State) → Sound p ks w → (n : ℕ) → ClosesOne w.objects n
closes_one p ks w s n = record { dead = closed_dead p ks n w.objects s.all; others = λ m d. closed_others n m w.objects d }

-- ## Opening

opened_new : (p : PlainProgram) (ks : List Kind) (x : Object) (xs : List Object) → AllObjects p ks xs → length ks ≤ x.number → find x.number (xs ++ x ∷ []) ≡ Some x
opened_new p ks x [] f l = found x.number x [] refl
opened_new p ks x (y ∷ xs) f l =
    let below : y.number < length ks = get_below ks y.number f.0.0.kind f.0.0.opened in
    passed x.number y (xs ++ x ∷ []) (λ e. omega (arith, below, l, e)) ∙ opened_new p ks x xs f.1 l

opened_others : (m : ℕ) (x : Object) (xs : List Object) → m ≢ x.number → find m (xs ++ x ∷ []) ≡ find m xs
opened_others m x [] d = passed m x [] (λ e. d (sym e))
opened_others m x (y ∷ xs) d = ap (λ r. cond (eqb y.number m) (Some y) r) (opened_others m x xs d)

pub opens_one : (p : PlainProgram) (ks : List Kind) (w : State) → Sound p ks w → (origin : Origin) (cells : List Cell) → OpensOne w.objects w.opened origin cells
opens_one p ks w s origin cells = record {
  new = opened_new p ks (record { number = w.opened; origin = origin; cells = cells }) w.objects s.all (let c : length ks ≡ w.opened = s.count in omega (arith, c));
  others = λ m d. opened_others m (record { number = w.opened; origin = origin; cells = cells }) w.objects d;
}

-- ## Writing

abbrev pub ok_in : {A : Type 0} → Result A Stop → A → A
ok_in (Ok x) d = x
ok_in (Err stop) d = d

same_ok : {A : Type 0} (x y : A) → ◌≡◌ {A = Result A Stop} (Ok x) (Ok y) → x ≡ y
same_ok x y e = ap (λ r. ok_in r x) e

-- what came before an answer
pub record Was {A B : Type 0} (r : Result A Stop) (f : A → Result B Stop) (y : B) : Type 0 where
  pub value : A
  pub is : r ≡ Ok value
  pub rest : f value ≡ Ok y

was_ok : {A B : Type 0} (r : Result A Stop) (f : A → Result B Stop) (y : B) → on_ok r f ≡ Ok y → Was r f y
was_ok (Ok x) f y e = record { value = x; is = refl; rest = e }
was_ok (Err stop) f y e = absurd cc

was_some : {A : Type 0} (o : Option A) (stop : Stop) (x : A) → or_stop o stop ≡ Ok x → o ≡ Some x
was_some None stop x e = absurd cc
was_some (Some y) stop x e = ap (λ x. Some x) (same_ok y x e)

was_number : (b : Bool) (s j : ℕ) → cond b (Ok s) (Err U6) ≡ Ok j → s ≡ j
was_number true s j e = same_ok s j e
was_number false s j e = absurd cc

get_set_same : (xs : List Cell) (i : ℕ) (c y : Cell) → slice_get xs i ≡ Some y → slice_get (set xs i c) i ≡ Some c
get_set_same [] i c y e = absurd (none-some _ e)
get_set_same (x ∷ xs) zero c y e = refl
get_set_same (x ∷ xs) (suc i) c y e = get_set_same xs i c y e

get_set_other : (xs : List Cell) (i j : ℕ) (c : Cell) → i ≢ j → slice_get (set xs i c) j ≡ slice_get xs j
get_set_other [] i j c d = refl
get_set_other (x ∷ xs) zero zero c d = absurd (d refl)
get_set_other (x ∷ xs) zero (suc j) c d = refl
get_set_other (x ∷ xs) (suc i) zero c d = refl
get_set_other (x ∷ xs) (suc i) (suc j) c d = get_set_other xs i j c (λ e. d (ap suc e))

-- an object with one cell set
abbrev pub with_cell : Object → ℕ → Cell → Object
with_cell x i c = record x { cells = set x.cells i c }

put_same : (o i : ℕ) (c : Cell) (x : Object) (xs : List Object) → find o xs ≡ Some x → find o (put xs o i c) ≡ Some (with_cell x i c)
put_same o i c x [] e = absurd (none-some _ e)
put_same o i c x (y ∷ xs) e = one_or_not y.number o
    (λ g. ap (λ b. find o (cond b (with_cell y i c ∷ xs) (y ∷ put xs o i c))) (eq-eqb y.number o g) ∙ (found o (with_cell y i c) xs g ∙ ap (λ x. Some (with_cell x i c)) (same_Some y x (sym (found o y xs g) ∙ e))))
    (λ g. ap (λ b. find o (cond b (with_cell y i c ∷ xs) (y ∷ put xs o i c))) (ne_eqb y.number o g) ∙ (passed o y (put xs o i c) g ∙ put_same o i c x xs (sym (passed o y xs g) ∙ e)))

put_other : (o i : ℕ) (c : Cell) (m : ℕ) (xs : List Object) → m ≢ o → find m (put xs o i c) ≡ find m xs
put_other o i c m [] d = refl
put_other o i c m (y ∷ xs) d = one_or_not y.number o
    (λ g. ap (λ b. find m (cond b (with_cell y i c ∷ xs) (y ∷ put xs o i c))) (eq-eqb y.number o g) ∙ (passed m (with_cell y i c) xs (λ e. d (sym e ∙ g)) ∙ sym (passed m y xs (λ e. d (sym e ∙ g)))))
    (λ g. ap (λ b. find m (cond b (with_cell y i c ∷ xs) (y ∷ put xs o i c))) (ne_eqb y.number o g) ∙ ap (λ r. cond (eqb y.number m) (Some y) r) (put_other o i c m xs d))

-- what a write that doesn't stop has found
pub record Written (objects after : List Object) (o : ℕ) (a : Window) (n : ℕ) (cell : Cell) : Type 0 where
  pub object : Object
  pub there : find o objects ≡ Some object
  pub number : scalar_at a n ≡ Ok (a.start + n)
  pub old : Cell
  pub has : slice_get object.cells (a.start + n) ≡ Some old
  pub is : put objects o (a.start + n) cell ≡ after

written : (objects after : List Object) (o : ℕ) (a : Window) (n : ℕ) (cell : Cell) → write_at objects (To o a n) cell ≡ Ok after → Written objects after o a n cell
written objects after o a n cell e =
    let t = was_ok (target_at objects (To o a n)) _ after e in
    let x = was_ok (alive objects o) _ t.value t.is in
    let j = was_ok (scalar_at a n) _ t.value x.rest in
    let c = was_ok (or_stop (slice_get x.value.cells j.value) U6) _ t.value j.rest in
    let same : a.start + n ≡ j.value = was_number (a.inside && ltb n a.count) (a.start + n) j.value j.is in
    record {
      object = x.value;
      there = was_some (find o objects) U7 x.value x.is;
      number = subst (λ j. scalar_at a n ≡ Ok j) (sym same) j.is;
      old = c.value;
      has = subst (λ j. slice_get x.value.cells j ≡ Some c.value) (sym same) (was_some _ U6 c.value c.is);
      is = same_ok _ after t.rest;
    }

-- the cell at a place of an object that was looked up
abbrev pub cell_in : Window → ℕ → Option Object → Result Cell Stop
cell_in a n r = on_ok (or_stop r U7) (λ object. on_ok (scalar_at a n) (λ i. or_stop (slice_get object.cells i) U6))

unless_same : (flag : Bool) (i s : ℕ) (xs : List Cell) (c : Cell) → i ≢ s →
    on_ok (cond flag (Ok s) (Err U6)) (λ j. or_stop (slice_get (set xs i c) j) U6) ≡ on_ok (cond flag (Ok s) (Err U6)) (λ j. or_stop (slice_get xs j) U6)
unless_same true i s xs c d = ap (λ r. or_stop r U6) (get_set_other xs i s c d)
unless_same false i s xs c d = refl

write_others : (objects after : List Object) (o : ℕ) (a : Window) (n : ℕ) (cell : Cell) → Written objects after o a n cell → (r : Ptr) → scalar_of_object r ≢ Some (o, a.start + n) →
    cell_at (put objects o (a.start + n) cell) r ≡ cell_at objects r
write_others objects after o a n cell w Null d = refl
write_others objects after o a n cell w (To k b m) d = one_or_not k o
    (λ e. subst (λ k. cell_in b m (find k (put objects o (a.start + n) cell)) ≡ cell_in b m (find k objects)) (sym e)
    (ap (cell_in b m) (put_same o (a.start + n) cell w.object objects w.there) ∙
    (unless_same (b.inside && ltb m b.count) (a.start + n) (b.start + m) w.object.cells cell (λ g. d (ap (λ k. Some (k, b.start + m)) e ∙ ap (λ i. Some (o, i)) (sym g))) ∙
    sym (ap (cell_in b m) w.there))))
    (λ e. ap (cell_in b m) (put_other o (a.start + n) cell k objects e))

-- a move of a pointer into an object that was looked up
abbrev pub moved_in : ℕ → Window → ℤ → Option Object → Result Ptr Stop
moved_in o a z r = on_ok (or_stop r U7) (λ _. placed o a z)

write_moves : (objects after : List Object) (o : ℕ) (a : Window) (n : ℕ) (cell : Cell) → Written objects after o a n cell → (r : Ptr) (by : ℤ) → shift (put objects o (a.start + n) cell) r by ≡ shift objects r by
write_moves objects after o a n cell w Null by = refl
write_moves objects after o a n cell w (To k b m) by = one_or_not k o
    (λ e. subst (λ k. moved_in k b (pos m +ℤ by) (find k (put objects o (a.start + n) cell)) ≡ moved_in k b (pos m +ℤ by) (find k objects)) (sym e)
    (ap (moved_in o b (pos m +ℤ by)) (put_same o (a.start + n) cell w.object objects w.there) ∙ sym (ap (moved_in o b (pos m +ℤ by)) w.there)))
    (λ e. ap (moved_in k b (pos m +ℤ by)) (put_other o (a.start + n) cell k objects e))

pub writes_one : (objects after : List Object) (q : Ptr) (cell : Cell) → write_at objects q cell ≡ Ok after → WritesOne objects after q cell
writes_one objects after Null cell e = absurd cc
writes_one objects after (To o a n) cell e =
    let w : Written objects after o a n cell = written objects after o a n cell e in
    subst (λ after. WritesOne objects after (To o a n) cell) w.is (record {
      here = ap (cell_in a n) (put_same o (a.start + n) cell w.object objects w.there) ∙
          (ap (λ r. on_ok r (λ i. or_stop (slice_get (set w.object.cells (a.start + n) cell) i) U6)) w.number ∙ ap (λ r. or_stop r U6) (get_set_same w.object.cells (a.start + n) cell w.old w.has));
      others = write_others objects after o a n cell w;
      moves = write_moves objects after o a n cell w;
    })
