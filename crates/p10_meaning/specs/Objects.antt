-- Objects, and what is done with pointers to them: each move with its stops, in the order in which they are tested.
use Rattle.std.specs.Prelude.{ℕ, ◌+◌, ltb, leb, eqb, ◌&&◌, if◌then◌else◌, Bool, true, false, List, [], ◌∷◌, ◌++◌, set, slice_get, ℤ, pos, negsuc, ◌+ℤ◌, ◌-ℤ◌, Option, Some, None, Result, Ok, Err}
use Rattle.p10_int.specs.declared.operators.Stop.{Stop}
use Rattle.p10_int.specs.declared.operators.Stop.TheVariants.{U5, U6, U7, U9, U11, U12}
use Rattle.p10_meaning.specs.declared.pointers.Window.{Window}
use Rattle.p10_meaning.specs.declared.pointers.Ptr.{Ptr}
use Rattle.p10_meaning.specs.declared.pointers.Ptr.TheVariants.{Null, To}
use Rattle.p10_meaning.specs.declared.pointers.Cell.{Cell}
use Rattle.p10_meaning.specs.Pointers.{window_in, same_window}

-- where an object comes from: a declaration, an allocation, or a string literal
pub data Origin : Type 0 where
  declared : Origin
  allocated : Origin
  literal : Origin

-- a live object: its number, where it comes from, and its scalars in order (C99 3.14, 6.2.4).
-- Objects are numbered as they are opened; one that was opened and is in no list of objects is dead
pub record Object : Type 0 where
  pub number : ℕ
  pub origin : Origin
  pub cells : List Cell

-- one result after another: the first stop counts
abbrev pub on_ok : {A B : Type 0} → Result A Stop → (A → Result B Stop) → Result B Stop
on_ok (Ok x) go = go x
on_ok (Err stop) go = Err stop

-- something, or a stop in its place
abbrev pub or_stop : {A : Type 0} → Option A → Stop → Result A Stop
or_stop None stop = Err stop
or_stop (Some x) stop = Ok x

-- the live object with a number
abbrev pub find : ℕ → List Object → Option Object
find n [] = None
find n (object ∷ objects) = if eqb object.number n then Some object else find n objects

-- an object has to be live where it is reached (U7; C99 6.2.4p2)
abbrev pub alive : List Object → ℕ → Result Object Stop
alive objects n = or_stop (find n objects) U7

-- the object that a pointer points to: null has none (U5; C99 6.3.2.3p3), and it has to be live (U7)
abbrev pub reach : List Object → Ptr → Result Object Stop
reach objects Null = Err U5
reach objects (To o window n) = alive objects o

-- ## Reading and writing

-- the number of the scalar at a position of an array of scalars: the array has to lie in the object and the position in
-- the array (U6; C99 6.5.6p8)
abbrev pub scalar_at : Window → ℕ → Result ℕ Stop
scalar_at window n = if window.inside && ltb n window.count then Ok (window.start + n) else Err U6

-- the cell at a pointer: U5, U7, U6 (C99 6.5.3.2p4)
abbrev pub cell_at : List Object → Ptr → Result Cell Stop
cell_at objects Null = Err U5
cell_at objects (To o window n) = on_ok (alive objects o) (λ object. on_ok (scalar_at window n) (λ i. or_stop (slice_get object.cells i) U6))

-- a string literal may not be written (U12; C99 6.4.5p6)
abbrev pub may_write : Origin → Result Origin Stop
may_write literal = Err U12
may_write declared = Ok declared
may_write allocated = Ok allocated

-- the cell at a pointer that is to be written: U5, U7, U6, U12
abbrev pub target_at : List Object → Ptr → Result Cell Stop
target_at objects Null = Err U5
target_at objects (To o window n) =
    on_ok (alive objects o) (λ object. on_ok (scalar_at window n) (λ i. on_ok (or_stop (slice_get object.cells i) U6) (λ cell. on_ok (may_write object.origin) (λ _. Ok cell))))

-- the objects with one cell of one object set; all others stay
abbrev pub put : List Object → ℕ → ℕ → Cell → List Object
put [] n i cell = []
put (object ∷ objects) n i cell =
    if eqb object.number n then record object { cells = set object.cells i cell } ∷ objects else object ∷ put objects n i cell

-- the objects with the cell at a pointer set
abbrev pub put_at : List Object → Ptr → Cell → List Object
put_at objects Null cell = objects
put_at objects (To o window n) cell = put objects o (window.start + n) cell

-- the objects after a write at a pointer: U5, U7, U6, U12
abbrev pub write_at : List Object → Ptr → Cell → Result (List Object) Stop
write_at objects pointer cell = on_ok (target_at objects pointer) (λ _. Ok (put_at objects pointer cell))

-- ## Moving

-- a pointer may stand at each element of its array, and one past the last (U6; C99 6.5.6p8)
abbrev pub placed : ℕ → Window → ℤ → Result Ptr Stop
placed o window (pos n) = if leb n window.count then Ok (To o window n) else Err U6
placed o window (negsuc n) = Err U6

-- a pointer moved by a number of elements: U5, U7, U6 (C99 6.5.6p8)
abbrev pub shift : List Object → Ptr → ℤ → Result Ptr Stop
shift objects Null by = Err U5
shift objects (To o window n) by = on_ok (alive objects o) (λ _. placed o window (pos n +ℤ by))

-- the pointer to the first element of the array of `count` elements of `stride` scalars that begins at scalar `at` of the
-- element at a pointer: U5, U7 (C99 6.5.2.1, 6.5.2.3, 6.3.2.1p3)
abbrev pub inner : List Object → Ptr → ℕ → ℕ → ℕ → Result Ptr Stop
inner objects Null at stride count = Err U5
inner objects (To o window n) at stride count = on_ok (alive objects o) (λ _. Ok (To o (window_in window n at stride count) 0))

-- ## Comparing

-- the positions of two pointers into one array: U5 of either, then U7 of either, then U9 (C99 6.5.6p9, 6.5.8p5)
abbrev pub positions : List Object → Ptr → Ptr → Result (ℕ × ℕ) Stop
positions objects Null right = Err U5
positions objects (To o a n) Null = Err U5
positions objects (To o a n) (To k b m) =
    on_ok (alive objects o) (λ _. on_ok (alive objects k) (λ _. if eqb o k && same_window a b then Ok (n, m) else Err U9))

-- whether the first pointer stands before the second
abbrev pub less : List Object → Ptr → Ptr → Result Bool Stop
less objects left right = on_ok (positions objects left right) (λ at. Ok (ltb at.0 at.1))

-- how many elements the first pointer stands after the second (C99 6.5.6p9)
abbrev pub distance : List Object → Ptr → Ptr → Result ℤ Stop
distance objects left right = on_ok (positions objects left right) (λ at. Ok (pos at.0 -ℤ pos at.1))

-- ## Opening and closing

-- the objects with one more
abbrev pub opened_with : List Object → ℕ → Origin → List Cell → List Object
opened_with objects n origin cells = objects ++ record { number = n; origin = origin; cells = cells } ∷ []

-- the objects without the one with a number: it is dead from then on
abbrev pub closed : ℕ → List Object → List Object
closed n [] = []
closed n (object ∷ objects) = if eqb object.number n then objects else object ∷ closed n objects

-- the objects without those of these numbers
abbrev pub all_closed : List ℕ → List Object → List Object
all_closed [] objects = objects
all_closed (n ∷ ns) objects = all_closed ns (closed n objects)

-- whether an object is an allocation
abbrev pub is_allocated : Origin → Bool
is_allocated allocated = true
is_allocated declared = false
is_allocated literal = false

-- a live object ends by `free` where it is an allocation, and the pointer stands at its first place (U11; C99 7.20.3.2)
abbrev pub freed : List Object → ℕ → Window → ℕ → Option Object → Result (List Object) Stop
freed objects o window n None = Err U11
freed objects o window n (Some object) =
    if is_allocated object.origin && window.whole && eqb n 0 then Ok (closed o objects) else Err U11

-- the objects after `free` of a pointer: null is freed without effect
abbrev pub release : List Object → Ptr → Result (List Object) Stop
release objects Null = Ok objects
release objects (To o window n) = freed objects o window n (find o objects)
