-- In which stops the moves, reads, writes and comparisons of pointers end.
use Rattle.std.proofs.Common.{◌≡◌, ℕ, ◌&&◌, leb, ltb, eqb, cond, Bool, true, false, List, refl, sym, ap, subst, Option, Some, None, Result, Ok, Err, ℤ, pos, negsuc, slice_get}
use Rattle.std.specs.Prelude.{◌+ℤ◌, ◌-ℤ◌}
use Rattle.p10_int.specs.declared.operators.Stop.{Stop}
use Rattle.p10_int.specs.declared.operators.Stop.TheVariants.{U5, U6, U7, U8, U9, U11, U12}
use Rattle.p10_meaning.specs.declared.pointers.Window.{Window}
use Rattle.p10_meaning.specs.declared.pointers.Ptr.{Ptr}
use Rattle.p10_meaning.specs.declared.pointers.Ptr.TheVariants.{Null, To}
use Rattle.p10_meaning.specs.declared.pointers.Scalar.{Scalar}
use Rattle.p10_meaning.specs.declared.pointers.Cell.{Cell}
use Rattle.p10_meaning.specs.Pointers.{window_in, same_window, scalar_of, read_of}
use Rattle.p10_meaning.specs.Objects.{Origin, declared, allocated, literal, Object, on_ok, or_stop, find, alive, reach, scalar_at, cell_at, may_write, target_at, put_at, write_at, placed, shift, inner, positions, less, distance, closed, is_allocated, freed, release}
use Rattle.p10_meaning.specs.Statements.{part_of, write_part}
use Rattle.p10_stop_laws.specs.Causes.{Reaching, null, dead, Accessing, accessed, outside, Reading, read_at, unset, Writing, written_at, in_literal, Relating, related, apart}

-- one result after another stops in the first or in the second
pub on_stops : {A B : Type 0} (r : Result A Stop) (go : A → Result B Stop) (stop : Stop) (P : Type 0) → on_ok r go ≡ Err stop → (r ≡ Err stop → P) → ((x : A) → r ≡ Ok x → go x ≡ Err stop → P) → P
on_stops (Ok x) go stop P e f g = g x refl e
on_stops (Err s) go stop P e f g = f (let same : s ≡ stop = cc in ap Err same)

or_stops : {A : Type 0} (x : Option A) (s stop : Stop) → or_stop x s ≡ Err stop → s ≡ stop
or_stops None s stop e = cc
or_stops (Some x) s stop e = absurd cc

cond_stops : {A : Type 0} (b : Bool) (x : A) (s stop : Stop) → cond b (Ok x) (Err s) ≡ Err stop → s ≡ stop
cond_stops true x s stop e = absurd cc
cond_stops false x s stop e = cc

-- ## Reaching

alive_stops : (objects : List Object) (o : ℕ) (stop : Stop) → alive objects o ≡ Err stop → Reaching stop
alive_stops objects o stop e = subst Reaching (or_stops (find o objects) U7 stop e) dead

pub reach_stops : (objects : List Object) (q : Ptr) (stop : Stop) → reach objects q ≡ Err stop → Reaching stop
reach_stops objects Null stop e = let same : U5 ≡ stop = cc in subst Reaching same null
reach_stops objects (To o window n) stop e = alive_stops objects o stop e

pub inner_stops : (objects : List Object) (q : Ptr) (at stride count : ℕ) (stop : Stop) → inner objects q at stride count ≡ Err stop → Reaching stop
inner_stops objects Null at stride count stop e = let same : U5 ≡ stop = cc in subst Reaching same null
inner_stops objects (To o window n) at stride count stop e =
    on_stops (alive objects o) (λ _. Ok (To o (window_in window n at stride count) 0)) stop (Reaching stop) e (alive_stops objects o stop) (λ x is f. absurd cc)

-- ## Moving

placed_stops : (o : ℕ) (window : Window) (z : ℤ) (stop : Stop) → placed o window z ≡ Err stop → Accessing stop
placed_stops o window (pos n) stop e = subst Accessing (cond_stops (leb n window.count) (To o window n) U6 stop e) outside
placed_stops o window (negsuc n) stop e = let same : U6 ≡ stop = cc in subst Accessing same outside

pub shift_stops : (objects : List Object) (q : Ptr) (z : ℤ) (stop : Stop) → shift objects q z ≡ Err stop → Accessing stop
shift_stops objects Null z stop e = let same : U5 ≡ stop = cc in subst Accessing same (accessed U5 null)
shift_stops objects (To o window n) z stop e =
    on_stops (alive objects o) (λ _. placed o window (pos n +ℤ z)) stop (Accessing stop) e
    (λ f. accessed stop (alive_stops objects o stop f)) (λ x is f. placed_stops o window (pos n +ℤ z) stop f)

-- ## Reading and writing

scalar_at_stops : (window : Window) (n : ℕ) (stop : Stop) → scalar_at window n ≡ Err stop → Accessing stop
scalar_at_stops window n stop e = subst Accessing (cond_stops (window.inside && ltb n window.count) _ U6 stop e) outside

pub cell_at_stops : (objects : List Object) (q : Ptr) (stop : Stop) → cell_at objects q ≡ Err stop → Accessing stop
cell_at_stops objects Null stop e = let same : U5 ≡ stop = cc in subst Accessing same (accessed U5 null)
cell_at_stops objects (To o window n) stop e =
    on_stops (alive objects o) (λ object. on_ok (scalar_at window n) (λ i. or_stop (slice_get object.cells i) U6)) stop (Accessing stop) e
    (λ f. accessed stop (alive_stops objects o stop f))
    (λ object is f. on_stops (scalar_at window n) (λ i. or_stop (slice_get object.cells i) U6) stop (Accessing stop) f
    (scalar_at_stops window n stop) (λ i is g. subst Accessing (or_stops (slice_get object.cells i) U6 stop g) outside))

pub read_of_stops : (cell : Cell) (stop : Stop) → read_of cell ≡ Err stop → Reading stop
read_of_stops cell stop e = by_value cell.value e
  where
    by_value : (x : Option Scalar) → scalar_of x ≡ Err stop → Reading stop
    by_value None e = let same : U8 ≡ stop = cc in subst Reading same unset
    by_value (Some x) e = absurd cc

pub read_stops : (objects : List Object) (q : Ptr) (stop : Stop) → on_ok (cell_at objects q) read_of ≡ Err stop → Reading stop
read_stops objects q stop e =
    on_stops (cell_at objects q) read_of stop (Reading stop) e (λ f. read_at stop (cell_at_stops objects q stop f)) (λ cell is f. read_of_stops cell stop f)

may_write_stops : (origin : Origin) (stop : Stop) → may_write origin ≡ Err stop → Writing stop
may_write_stops literal stop e = let same : U12 ≡ stop = cc in subst Writing same in_literal
may_write_stops declared stop e = absurd cc
may_write_stops allocated stop e = absurd cc

target_at_stops : (objects : List Object) (q : Ptr) (stop : Stop) → target_at objects q ≡ Err stop → Writing stop
target_at_stops objects Null stop e = let same : U5 ≡ stop = cc in subst Writing same (written_at U5 (accessed U5 null))
target_at_stops objects (To o window n) stop e =
    on_stops (alive objects o) (λ object. on_ok (scalar_at window n) (λ i. on_ok (or_stop (slice_get object.cells i) U6) (λ cell. on_ok (may_write object.origin) (λ _. Ok cell)))) stop (Writing stop) e
    (λ f. written_at stop (accessed stop (alive_stops objects o stop f)))
    (λ object is f. on_stops (scalar_at window n) (λ i. on_ok (or_stop (slice_get object.cells i) U6) (λ cell. on_ok (may_write object.origin) (λ _. Ok cell))) stop (Writing stop) f
    (λ g. written_at stop (scalar_at_stops window n stop g))
    (λ i is g. on_stops (or_stop (slice_get object.cells i) U6) (λ cell. on_ok (may_write object.origin) (λ _. Ok cell)) stop (Writing stop) g
    (λ h. written_at stop (subst Accessing (or_stops (slice_get object.cells i) U6 stop h) outside))
    (λ cell is h. on_stops (may_write object.origin) (λ _. Ok cell) stop (Writing stop) h (may_write_stops object.origin stop) (λ x is k. absurd cc))))

pub write_stops : (objects : List Object) (q : Ptr) (cell : Cell) (stop : Stop) → write_at objects q cell ≡ Err stop → Writing stop
write_stops objects q cell stop e = on_stops (target_at objects q) (λ _. Ok (put_at objects q cell)) stop (Writing stop) e (target_at_stops objects q stop) (λ x is f. absurd cc)

pub part_stops : (objects : List Object) (q : Ptr) (i : ℕ) (stop : Stop) → part_of objects q i ≡ Err stop → Accessing stop
part_stops objects q i stop e =
    on_stops (inner objects q i 1 1) (λ r. cell_at objects r) stop (Accessing stop) e (λ f. accessed stop (inner_stops objects q i 1 1 stop f)) (λ r is f. cell_at_stops objects r stop f)

pub write_part_stops : (objects : List Object) (q : Ptr) (i : ℕ) (cell : Cell) (stop : Stop) → write_part objects q i cell ≡ Err stop → Writing stop
write_part_stops objects q i cell stop e =
    on_stops (inner objects q i 1 1) (λ r. write_at objects r cell) stop (Writing stop) e
    (λ f. written_at stop (accessed stop (inner_stops objects q i 1 1 stop f))) (λ r is f. write_stops objects r cell stop f)

-- ## Comparing

positions_stop : (objects : List Object) (q r : Ptr) (stop : Stop) → positions objects q r ≡ Err stop → Relating stop
positions_stop objects Null r stop e = let same : U5 ≡ stop = cc in subst Relating same (related U5 null)
positions_stop objects (To o a n) Null stop e = let same : U5 ≡ stop = cc in subst Relating same (related U5 null)
positions_stop objects (To o a n) (To k b m) stop e =
    on_stops (alive objects o) (λ _. on_ok (alive objects k) (λ _. cond (eqb o k && same_window a b) (Ok (n, m)) (Err U9))) stop (Relating stop) e
    (λ f. related stop (alive_stops objects o stop f))
    (λ x is f. on_stops (alive objects k) (λ _. cond (eqb o k && same_window a b) (Ok (n, m)) (Err U9)) stop (Relating stop) f
    (λ g. related stop (alive_stops objects k stop g))
    (λ y is g. subst Relating (cond_stops (eqb o k && same_window a b) (n, m) U9 stop g) apart))

pub less_stops : (objects : List Object) (q r : Ptr) (stop : Stop) → less objects q r ≡ Err stop → Relating stop
less_stops objects q r stop e = on_stops (positions objects q r) (λ at. Ok (ltb at.0 at.1)) stop (Relating stop) e (positions_stop objects q r stop) (λ at is f. absurd cc)

pub distance_stops : (objects : List Object) (q r : Ptr) (stop : Stop) → distance objects q r ≡ Err stop → Relating stop
distance_stops objects q r stop e = on_stops (positions objects q r) (λ at. Ok (pos at.0 -ℤ pos at.1)) stop (Relating stop) e (positions_stop objects q r stop) (λ at is f. absurd cc)

-- the positions of pointers into an array
positions_give : (objects : List Object) (o k : ℕ) (a b : Window) (n m : ℕ) (at : ℕ × ℕ) → positions objects (To o a n) (To k b m) ≡ Ok at → (n, m) ≡ at
positions_give objects o k a b n m at e = by_parts (alive objects o) (alive objects k) (eqb o k && same_window a b) e
  where
    by_parts : (x y : Result Object Stop) (c : Bool) → on_ok x (λ _. on_ok y (λ _. cond c (Ok (n, m)) (Err U9))) ≡ Ok at → (n, m) ≡ at
    by_parts (Ok x) (Ok y) true e = cc
    by_parts (Ok x) (Ok y) false e = absurd cc
    by_parts (Ok x) (Err s) c e = absurd cc
    by_parts (Err s) y c e = absurd cc

-- a distance is that of two positions
pub data IsDistance (q r : Ptr) (z : ℤ) : Type 0 where
  between : (o k : ℕ) (a b : Window) (n m : ℕ) → q ≡ To o a n → r ≡ To k b m → z ≡ pos n -ℤ pos m → IsDistance q r z

pub distance_gives : (objects : List Object) (q r : Ptr) (z : ℤ) → distance objects q r ≡ Ok z → IsDistance q r z
distance_gives objects Null r z e = absurd cc
distance_gives objects (To o a n) Null z e = absurd cc
distance_gives objects (To o a n) (To k b m) z e = by_positions (positions objects (To o a n) (To k b m)) (λ at f. positions_give objects o k a b n m at f) e
  where
    by_positions : (x : Result (ℕ × ℕ) Stop) → ((at : ℕ × ℕ) → x ≡ Ok at → (n, m) ≡ at) → on_ok x (λ at. Ok (pos at.0 -ℤ pos at.1)) ≡ Ok z → IsDistance (To o a n) (To k b m) z
    by_positions (Ok at) h e =
        let same : (n, m) ≡ at = h at refl in
        let is : pos at.0 -ℤ pos at.1 ≡ z = cc in
        between o k a b n m refl refl (sym (subst (λ (at : ℕ × ℕ). pos at.0 -ℤ pos at.1 ≡ z) (sym same) is))
    by_positions (Err s) h e = absurd cc

-- ## Freeing

pub release_stops : (objects : List Object) (q : Ptr) (stop : Stop) → release objects q ≡ Err stop → U11 ≡ stop
release_stops objects Null stop e = absurd cc
release_stops objects (To o window n) stop e = by_object (find o objects) e
  where
    by_object : (x : Option Object) → freed objects o window n x ≡ Err stop → U11 ≡ stop
    by_object None e = cc
    by_object (Some object) e = cond_stops (is_allocated object.origin && window.whole && eqb n 0) (closed o objects) U11 stop e
