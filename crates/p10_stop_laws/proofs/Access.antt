-- The scalar at a pointer can't be accessed, read or written exactly where that stops.
use Rattle.std.proofs.Common.{◌≡◌, ℕ, zero, suc, ◌+◌, ◌≤◌, ◌&&◌, ltb, cond, Bool, true, false, List, [], ◌∷◌, length, refl, sym, ◌∙◌, ap, subst, arith, Option, Some, None, Result, Ok, Err, slice_get}
use Rattle.std.proofs.lemmas.Bool.{ltb-true, ltb-false, lt-ltb, le-ltb}
use Rattle.std.proofs.lemmas.Option.{none-some, slice_get_past}
use Rattle.p10_int.specs.declared.operators.Stop.{Stop}
use Rattle.p10_int.specs.declared.operators.Stop.TheVariants.{U5, U6, U7, U8, U12}
use Rattle.p10_meaning.specs.declared.pointers.Window.{Window}
use Rattle.p10_meaning.specs.declared.pointers.Ptr.{Ptr}
use Rattle.p10_meaning.specs.declared.pointers.Ptr.TheVariants.{Null, To}
use Rattle.p10_meaning.specs.declared.pointers.Scalar.{Scalar}
use Rattle.p10_meaning.specs.declared.pointers.Cell.{Cell}
use Rattle.p10_meaning.specs.Pointers.{unset, holding, window_in, scalar_of, read_of}
use Rattle.p10_meaning.specs.Objects.{Origin, declared, allocated, literal, Object, on_ok, or_stop, find, alive, reach, cell_at, may_write, target_at, put_at, write_at, inner}
use Rattle.p10_meaning.specs.Values.{Held, holds, stands, absent, held_cell}
use Rattle.p10_stop_laws.specs.Moves.{IsDead}
use Rattle.p10_stop_laws.specs.Access.{CannotReach, null_reached, dead_reached, ReachesStopThen, HasNoScalar, array_not_there, past_array, past_object, CannotAccess, unreached, no_scalar, StandsAt, element}
use Rattle.p10_stop_laws.specs.Access.{CannotRead, unaccessed_read, unset_there, CannotWrite, unaccessed_write, literal_there, HoldsNothing, AccessesStopThen}
use Rattle.p10_stop_laws.proofs.Pointing.{on_stops}
use Rattle.p10_stop_laws.proofs.Moves.{none_of, IsAlive, lives, lies_dead, is_alive}

-- ## Reaching

reaches_stop : (objects : List Object) (q : Ptr) (stop : Stop) → reach objects q ≡ Err stop → CannotReach objects q stop
reaches_stop objects Null stop e = let same : U5 ≡ stop = cc in subst (CannotReach objects Null) same null_reached
reaches_stop objects (To o window n) stop e = by_life (is_alive objects o)
  where
    by_life : IsAlive objects o → CannotReach objects (To o window n) stop
    by_life (lives x is d) = absurd cc
    by_life (lies_dead is d) = let same : U7 ≡ stop = cc in subst (CannotReach objects (To o window n)) same (dead_reached o window n d)

stop_reaches : (objects : List Object) (q : Ptr) (stop : Stop) → CannotReach objects q stop → reach objects q ≡ Err stop
stop_reaches objects q stop null_reached = refl
stop_reaches objects q stop (dead_reached o window n d) = ap (λ (x : Option Object). or_stop x U7) (none_of objects o d)

parts_stop : (objects : List Object) (q : Ptr) (at stride count : ℕ) (stop : Stop) → inner objects q at stride count ≡ Err stop → CannotReach objects q stop
parts_stop objects Null at stride count stop e = let same : U5 ≡ stop = cc in subst (CannotReach objects Null) same null_reached
parts_stop objects (To o window n) at stride count stop e =
    on_stops (alive objects o) (λ _. Ok (To o (window_in window n at stride count) 0)) stop (CannotReach objects (To o window n) stop) e (reaches_stop objects (To o window n) stop) (λ x is f. absurd cc)

stop_parts : (objects : List Object) (q : Ptr) (at stride count : ℕ) (stop : Stop) → CannotReach objects q stop → inner objects q at stride count ≡ Err stop
stop_parts objects q at stride count stop null_reached = refl
stop_parts objects q at stride count stop (dead_reached o window n d) = ap (λ (x : Option Object). on_ok (or_stop x U7) (λ _. Ok (To o (window_in window n at stride count) 0))) (none_of objects o d)

pub reaches_stop_then : ReachesStopThen
reaches_stop_then = record {
  dereferences = λ objects q stop. (reaches_stop objects q stop, stop_reaches objects q stop);
  parts = λ objects q at stride count stop. (parts_stop objects q at stride count stop, stop_parts objects q at stride count stop);
}

-- ## The cell at a pointer

-- the scalar at a place of an object's scalars, where its array is there and has the position
abbrev cell_in : Object → Window → ℕ → Bool → Result Cell Stop
cell_in object window n b = on_ok (cond b (Ok (window.start + n)) (Err U6)) (λ i. or_stop (slice_get object.cells i) U6)

-- the cell of a live object
cell_of : (objects : List Object) (o : ℕ) (window : Window) (n : ℕ) (object : Object) → find o objects ≡ Some object → cell_at objects (To o window n) ≡ cell_in object window n (window.inside && ltb n window.count)
cell_of objects o window n object e = ap (λ (x : Option Object). on_ok (or_stop x U7) (λ (object : Object). cell_in object window n (window.inside && ltb n window.count))) e

no_cell : (objects : List Object) (o : ℕ) (window : Window) (n : ℕ) (object : Object) → find o objects ≡ Some object → HasNoScalar object window n → cell_at objects (To o window n) ≡ Err U6
no_cell objects o window n object e h = cell_of objects o window n object e ∙ by_reason h
  where
    in_none : (b : Bool) → (b && false) ≡ false
    in_none true = refl
    in_none false = refl

    past : (b : Bool) → slice_get object.cells (window.start + n) ≡ None → cell_in object window n b ≡ Err U6
    past true f = ap (λ (x : Option Cell). or_stop x U6) f
    past false f = refl

    by_reason : HasNoScalar object window n → cell_in object window n (window.inside && ltb n window.count) ≡ Err U6
    by_reason (array_not_there f) = ap (λ (b : Bool). cell_in object window n (b && ltb n window.count)) f
    by_reason (past_array f) = ap (λ (b : Bool). cell_in object window n (window.inside && b)) (le-ltb n window.count f) ∙ ap (cell_in object window n) (in_none window.inside)
    by_reason (past_object f) = past (window.inside && ltb n window.count) (slice_get_past object.cells (window.start + n) f)

stands_there : (objects : List Object) (object : Object) (cell : Cell) (q : Ptr) → StandsAt objects object cell q → cell_at objects q ≡ Ok cell
stands_there objects object cell q (element o window n e i l is) =
    cell_of objects o window n object e ∙ (ap (λ (b : Bool). cell_in object window n (b && ltb n window.count)) i ∙ (ap (cell_in object window n) (lt-ltb n window.count l) ∙ ap (λ (x : Option Cell). or_stop x U6) is))

none_past : {A : Type 0} (xs : List A) (i : ℕ) → slice_get xs i ≡ None → length xs ≤ i
none_past [] i e = omega arith
none_past (x ∷ xs) zero e = absurd (none-some x (sym e))
none_past (x ∷ xs) (suc i) e = let l = none_past xs i e in omega (arith, l)

-- a cell stands at a pointer, or it can't be accessed
data IsAccessed (objects : List Object) (q : Ptr) : Type 0 where
  cell_there : (object : Object) (cell : Cell) → cell_at objects q ≡ Ok cell → StandsAt objects object cell q → IsAccessed objects q
  cannot : (stop : Stop) → cell_at objects q ≡ Err stop → CannotAccess objects q stop → IsAccessed objects q

is_accessed : (objects : List Object) (q : Ptr) → IsAccessed objects q
is_accessed objects Null = cannot U5 refl (unreached Null U5 null_reached)
is_accessed objects (To o window n) = by_life (is_alive objects o)
  where
    there : (object : Object) → find o objects ≡ Some object → HasNoScalar object window n → IsAccessed objects (To o window n)
    there object e h = cannot U6 (no_cell objects o window n object e h) (no_scalar o window n object e h)

    by_cell : (object : Object) → find o objects ≡ Some object → window.inside ≡ true → ltb n window.count ≡ true → (x : Option Cell) → slice_get object.cells (window.start + n) ≡ x → IsAccessed objects (To o window n)
    by_cell object e i l None is = there object e (past_object (none_past object.cells (window.start + n) is))
    by_cell object e i l (Some cell) is =
        let s : StandsAt objects object cell (To o window n) = element o window n e i (ltb-true n window.count l) is in cell_there object cell (stands_there objects object cell (To o window n) s) s

    by_flags : (object : Object) → find o objects ≡ Some object → (i l : Bool) → window.inside ≡ i → ltb n window.count ≡ l → IsAccessed objects (To o window n)
    by_flags object e false l f g = there object e (array_not_there f)
    by_flags object e true false f g = there object e (past_array (ltb-false n window.count g))
    by_flags object e true true f g = by_cell object e f g (slice_get object.cells (window.start + n)) refl

    by_object : (x : Option Object) → find o objects ≡ x → ¬ IsDead objects o → IsAccessed objects (To o window n)
    by_object None e d = by_none (is_alive objects o)
      where
        by_none : IsAlive objects o → IsAccessed objects (To o window n)
        by_none (lives x is f) = let u : Err U7 ≡ Ok x = sym (ap (λ (x : Option Object). or_stop x U7) e) ∙ is in absurd cc
        by_none (lies_dead is f) = absurd (d f)
    by_object (Some object) e d = by_flags object e window.inside (ltb n window.count) refl refl

    by_life : IsAlive objects o → IsAccessed objects (To o window n)
    by_life (lives x is d) = by_object (find o objects) refl d
    by_life (lies_dead is d) =
        cannot U7 (ap (λ (x : Option Object). on_ok (or_stop x U7) (λ (object : Object). cell_in object window n (window.inside && ltb n window.count))) (none_of objects o d)) (unreached (To o window n) U7 (dead_reached o window n d))

access_stops : (objects : List Object) (q : Ptr) (stop : Stop) → cell_at objects q ≡ Err stop → CannotAccess objects q stop
access_stops objects q stop e = by_access (is_accessed objects q)
  where
    by_access : IsAccessed objects q → CannotAccess objects q stop
    by_access (cell_there object cell is s) = let u : Ok cell ≡ Err stop = sym is ∙ e in absurd cc
    by_access (cannot other is c) = let u : Err other ≡ Err stop = sym is ∙ e in let same : other ≡ stop = cc in subst (CannotAccess objects q) same c

stop_access : (objects : List Object) (q : Ptr) (stop : Stop) → CannotAccess objects q stop → cell_at objects q ≡ Err stop
stop_access objects q stop (unreached r s null_reached) = refl
stop_access objects q stop (unreached r s (dead_reached o window n d)) = ap (λ (x : Option Object). on_ok (or_stop x U7) (λ (object : Object). cell_in object window n (window.inside && ltb n window.count))) (none_of objects o d)
stop_access objects q stop (no_scalar o window n object e h) = no_cell objects o window n object e h

cell_stands : (objects : List Object) (q : Ptr) (cell : Cell) → cell_at objects q ≡ Ok cell → (object : Object) × StandsAt objects object cell q
cell_stands objects q cell e = by_access (is_accessed objects q)
  where
    by_access : IsAccessed objects q → (object : Object) × StandsAt objects object cell q
    by_access (cell_there object other is s) = let u : Ok other ≡ Ok cell = sym is ∙ e in let same : other ≡ cell = cc in (object, subst (λ c. StandsAt objects object c q) same s)
    by_access (cannot stop is c) = let u : Err stop ≡ Ok cell = sym is ∙ e in absurd cc

-- ## Reading

-- what is read of a cell: nothing of an unset one
read_stops_of : (cell : Cell) (stop : Stop) → read_of cell ≡ Err stop → (U8 ≡ stop) × (cell ≡ unset)
read_stops_of cell stop e = by_value cell.value refl e
  where
    by_value : (x : Option Scalar) → cell.value ≡ x → scalar_of x ≡ Err stop → (U8 ≡ stop) × (cell ≡ unset)
    by_value None is e = (cc, ap (λ (x : Option Scalar). record { value = x }) is)
    by_value (Some x) is e = absurd cc

read_stops : (objects : List Object) (q : Ptr) (stop : Stop) → on_ok (cell_at objects q) read_of ≡ Err stop → CannotRead objects q stop
read_stops objects q stop e =
    on_stops (cell_at objects q) read_of stop (CannotRead objects q stop) e (λ f. unaccessed_read q stop (access_stops objects q stop f))
    (λ cell is f. let u : (U8 ≡ stop) × (cell ≡ unset) = read_stops_of cell stop f in
    let s : (object : Object) × StandsAt objects object cell q = cell_stands objects q cell is in
    subst (CannotRead objects q) u.0 (unset_there q s.0 (subst (λ c. StandsAt objects s.0 c q) u.1 s.1)))

stop_reads : (objects : List Object) (q : Ptr) (stop : Stop) → CannotRead objects q stop → on_ok (cell_at objects q) read_of ≡ Err stop
stop_reads objects q stop (unaccessed_read r s c) = ap (λ (x : Result Cell Stop). on_ok x read_of) (stop_access objects r s c)
stop_reads objects q stop (unset_there r object s) = ap (λ (x : Result Cell Stop). on_ok x read_of) (stands_there objects object unset r s)

-- ## Writing

-- the cell that is to be written, after it was accessed
abbrev written_in : Object → Result Cell Stop → Result Cell Stop
written_in object r = on_ok r (λ cell. on_ok (may_write object.origin) (λ _. Ok cell))

-- a write accesses the cell of the object first
target_of : (objects : List Object) (o : ℕ) (window : Window) (n : ℕ) (object : Object) → find o objects ≡ Some object → target_at objects (To o window n) ≡ written_in object (cell_at objects (To o window n))
target_of objects o window n object e =
    ap (λ (x : Option Object). on_ok (or_stop x U7) (λ (object : Object). on_ok (cond (window.inside && ltb n window.count) (Ok (window.start + n)) (Err U6)) (λ i. written_in object (or_stop (slice_get object.cells i) U6)))) e
    ∙ (by_flag (window.inside && ltb n window.count) ∙ ap (written_in object) (sym (cell_of objects o window n object e)))
  where
    by_flag : (b : Bool) → on_ok (cond b (Ok (window.start + n)) (Err U6)) (λ i. written_in object (or_stop (slice_get object.cells i) U6)) ≡ written_in object (cell_in object window n b)
    by_flag true = refl
    by_flag false = refl

-- where a cell stands, the write of it stops by its object's origin alone
target_there : (objects : List Object) (object : Object) (cell : Cell) (q : Ptr) → StandsAt objects object cell q → target_at objects q ≡ written_in object (Ok cell)
target_there objects object cell q (element o window n e i l is) =
    target_of objects o window n object e ∙ ap (written_in object) (stands_there objects object cell (To o window n) (element o window n e i l is))

-- where it can't be accessed, the write stops so
target_stops : (objects : List Object) (q : Ptr) (stop : Stop) → CannotAccess objects q stop → target_at objects q ≡ Err stop
target_stops objects q stop (unreached r s null_reached) = refl
target_stops objects q stop (unreached r s (dead_reached o window n d)) =
    ap (λ (x : Option Object). on_ok (or_stop x U7) (λ (object : Object). on_ok (cond (window.inside && ltb n window.count) (Ok (window.start + n)) (Err U6)) (λ i. written_in object (or_stop (slice_get object.cells i) U6)))) (none_of objects o d)
target_stops objects q stop (no_scalar o window n object e h) = target_of objects o window n object e ∙ ap (written_in object) (no_cell objects o window n object e h)

-- a write is its cell's
abbrev after_write : List Object → Ptr → Cell → Result Cell Stop → Result (List Object) Stop
after_write objects q new r = on_ok r (λ _. Ok (put_at objects q new))

write_stops : (objects : List Object) (q : Ptr) (new : Cell) (stop : Stop) → write_at objects q new ≡ Err stop → CannotWrite objects q stop
write_stops objects q new stop e = by_access (is_accessed objects q)
  where
    by_origin : (object : Object) (cell : Cell) → StandsAt objects object cell q → (origin : Origin) → object.origin ≡ origin → after_write objects q new (on_ok (may_write origin) (λ _. Ok cell)) ≡ Err stop → CannotWrite objects q stop
    by_origin object cell s literal is f = let same : U12 ≡ stop = cc in subst (CannotWrite objects q) same (literal_there q object cell s is)
    by_origin object cell s declared is f = absurd cc
    by_origin object cell s allocated is f = absurd cc

    by_access : IsAccessed objects q → CannotWrite objects q stop
    by_access (cell_there object cell is s) = by_origin object cell s object.origin refl (sym (ap (after_write objects q new) (target_there objects object cell q s)) ∙ e)
    by_access (cannot other is c) =
        let u : Err other ≡ Err stop = sym (ap (after_write objects q new) (target_stops objects q other c)) ∙ e in
        let same : other ≡ stop = cc in subst (CannotWrite objects q) same (unaccessed_write q other c)

stop_writes : (objects : List Object) (q : Ptr) (new : Cell) (stop : Stop) → CannotWrite objects q stop → write_at objects q new ≡ Err stop
stop_writes objects q new stop (unaccessed_write r s c) = ap (after_write objects r new) (target_stops objects r s c)
stop_writes objects q new stop (literal_there r object cell s is) =
    ap (after_write objects r new) (target_there objects object cell r s) ∙ ap (λ (origin : Origin). after_write objects r new (on_ok (may_write origin) (λ _. Ok cell))) is

-- ## Frame variables

variable_stops : (held : Option Held) (stop : Stop) → read_of (held_cell held) ≡ Err stop → (U8 ≡ stop) × HoldsNothing held
variable_stops None stop e = (cc, λ x f. none-some (holds (holding x)) f)
variable_stops (Some absent) stop e = (cc, λ x f. cc)
variable_stops (Some (stands o)) stop e = (cc, λ x f. cc)
variable_stops (Some (holds cell)) stop e =
    let u : (U8 ≡ stop) × (cell ≡ unset) = read_stops_of cell stop e in
    (u.0, λ x f. let v : Some (holds unset) ≡ Some (holds (holding x)) = ap (λ c. Some (holds c)) (sym u.1) ∙ f in none-some x (value_same v))
  where
    value_in : Option Held → Option Scalar
    value_in (Some (holds cell)) = cell.value
    value_in held = None

    value_same : {a b : Cell} → ◌≡◌ {A = Option Held} (Some (holds a)) (Some (holds b)) → a.value ≡ b.value
    value_same e = ap value_in e

stop_variables : (held : Option Held) (stop : Stop) → (U8 ≡ stop) × HoldsNothing held → read_of (held_cell held) ≡ Err stop
stop_variables held stop h = by_held held h.1 ∙ ap Err h.0
  where
    by_held : (held : Option Held) → HoldsNothing held → read_of (held_cell held) ≡ Err U8
    by_held None n = refl
    by_held (Some absent) n = refl
    by_held (Some (stands o)) n = refl
    by_held (Some (holds cell)) n = by_value cell.value refl
      where
        by_value : (x : Option Scalar) → cell.value ≡ x → scalar_of x ≡ Err U8
        by_value None e = refl
        by_value (Some x) e = absurd (n x (ap (λ (x : Option Scalar). Some (holds (record { value = x }))) e))

pub accesses_stop_then : AccessesStopThen
accesses_stop_then = record {
  cells = λ objects q cell. (cell_stands objects q cell, λ s. stands_there objects s.0 cell q s.1);
  accesses = λ objects q stop. (access_stops objects q stop, stop_access objects q stop);
  reads = λ objects q stop. (read_stops objects q stop, stop_reads objects q stop);
  writes = λ objects q cell stop. (write_stops objects q cell stop, stop_writes objects q cell stop);
  frame_variables = λ held stop. (variable_stops held stop, stop_variables held stop);
}
