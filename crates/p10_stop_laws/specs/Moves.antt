-- When a pointer can't be moved, related to another or freed, in the words of C99, and in which stop that ends.
use Rattle.std.specs.Prelude.{◌≡◌, ◌≢◌, ◌↔◌, ℕ, true, List, ℤ, pos, ◌+ℤ◌, ◌<ℤ◌, Some, Err}
use Rattle.std.specs.List.{AllByRecursion}
use Rattle.p10_int.specs.declared.operators.Stop.{Stop}
use Rattle.p10_int.specs.declared.operators.Stop.TheVariants.{U5, U6, U7, U9, U11}
use Rattle.p10_meaning.specs.declared.pointers.Window.{Window}
use Rattle.p10_meaning.specs.declared.pointers.Ptr.{Ptr}
use Rattle.p10_meaning.specs.declared.pointers.Ptr.TheVariants.{Null, To}
use Rattle.p10_meaning.specs.Objects.{Object, allocated, find, shift, less, distance, release}

-- no live object has the number: it is dead (C99 6.2.4p2)
abbrev pub IsDead : List Object → ℕ → Type 0
IsDead objects o = AllByRecursion (λ (object : Object). object.number ≢ o) objects

-- ## Moving

-- a place lies outside of an array and of the place one past its last element (C99 6.5.6p8)
pub data IsOutside (window : Window) (at : ℤ) : Type 0 where
  before_first : at <ℤ pos 0 → IsOutside window at
  after_last : pos window.count <ℤ at → IsOutside window at

-- a pointer can't be moved by a number of elements: it is null, its object is dead, or it leaves its array
pub data CannotMove (objects : List Object) (by : ℤ) : Ptr → Stop → Type 0 where
  null_moved : CannotMove objects by Null U5
  dead_moved : (o : ℕ) (window : Window) (n : ℕ) → IsDead objects o → CannotMove objects by (To o window n) U7
  moved_out : (o : ℕ) (window : Window) (n : ℕ) → ¬ IsDead objects o → IsOutside window (pos n +ℤ by) → CannotMove objects by (To o window n) U6

-- a move ends in a stop exactly then
abbrev pub MovesStopThen : Type 0
MovesStopThen = (objects : List Object) (q : Ptr) (by : ℤ) (stop : Stop) → (shift objects q by ≡ Err stop) ↔ CannotMove objects by q stop

-- ## Relating

-- two pointers can't be ordered or subtracted: one is null, the object of one is dead, or they point into different arrays (C99 6.5.6p9, 6.5.8p5)
pub data CannotRelate (objects : List Object) : Ptr → Ptr → Stop → Type 0 where
  left_null : (r : Ptr) → CannotRelate objects Null r U5
  right_null : (o : ℕ) (a : Window) (n : ℕ) → CannotRelate objects (To o a n) Null U5
  left_dead : (o k : ℕ) (a b : Window) (n m : ℕ) → IsDead objects o → CannotRelate objects (To o a n) (To k b m) U7
  right_dead : (o k : ℕ) (a b : Window) (n m : ℕ) → ¬ IsDead objects o → IsDead objects k → CannotRelate objects (To o a n) (To k b m) U7
  other_arrays : (o k : ℕ) (a b : Window) (n m : ℕ) → ¬ IsDead objects o → ¬ IsDead objects k → ¬ ((o ≡ k) × (a ≡ b)) → CannotRelate objects (To o a n) (To k b m) U9

-- an order and a difference end in a stop exactly then
pub record RelationsStopThen : Type 0 where
  pub orders : (objects : List Object) (q r : Ptr) (stop : Stop) → (less objects q r ≡ Err stop) ↔ CannotRelate objects q r stop
  pub differences : (objects : List Object) (q r : Ptr) (stop : Stop) → (distance objects q r ≡ Err stop) ↔ CannotRelate objects q r stop

-- ## Freeing

-- a place is the first one of a live allocation (C99 7.20.3.2)
pub record IsAllocation (objects : List Object) (o : ℕ) (window : Window) (n : ℕ) : Type 0 where
  pub object : Object
  pub live : find o objects ≡ Some object
  pub origin_is : object.origin ≡ allocated
  pub all_of_it : window.whole ≡ true
  pub first : n ≡ 0

-- a pointer can't be freed: it isn't null, and not the first place of a live allocation
pub data CannotFree (objects : List Object) : Ptr → Stop → Type 0 where
  cannot_free : (o : ℕ) (window : Window) (n : ℕ) → ¬ IsAllocation objects o window n → CannotFree objects (To o window n) U11

-- `free` ends in a stop exactly then
abbrev pub FreesStopThen : Type 0
FreesStopThen = (objects : List Object) (q : Ptr) (stop : Stop) → (release objects q ≡ Err stop) ↔ CannotFree objects q stop
