-- Elements of arrays that are objects as a whole.
use Rattle.std.proofs.Common.{◌≡◌, ℕ, zero, suc, ◌<◌, true, false, List, sym, ◌∙◌, subst, ap, refl, arith, map, slice_get, ℤ, pos, ◌+ℤ◌, option_map, Option, Some, None, IfSome, Result, Ok, Err, if◌then◌else◌, ◌≤◌}
use Rattle.p10_base.specs.declared.at.At.{At}
use Rattle.p10_int.specs.declared.operators.Stop.{Stop}
use Rattle.p10_int.specs.declared.operators.Stop.TheVariants.{U6}
use Rattle.p10_core.specs.declared.typed.Place.{Place}
use Rattle.p10_core.specs.declared.typed.Value.{Value}
use Rattle.p10_core.specs.declared.program.Global.{Global}
use Rattle.p10_core.specs.Types.{PlainType, plain_type}
use Rattle.p10_core.specs.Typed.{PlainValue, value, decay, PlainPlace, place, place_type, PlainPlaceForm, variable, global, index, PlainObject}
use Rattle.p10_core.specs.Views.{plain_form, plain_value, plain_place, plain_place_form, plain_object, plain_program}
use Rattle.p10_meaning.specs.declared.pointers.Scalar.TheVariants.{Int, Pointer}
use Rattle.p10_meaning.specs.declared.pointers.Scalar.{Scalar}
use Rattle.p10_meaning.specs.declared.pointers.Cell.{Cell}
use Rattle.p10_meaning.specs.declared.pointers.Window.{Window}
use Rattle.p10_meaning.specs.declared.pointers.Ptr.{Ptr}
use Rattle.p10_meaning.specs.declared.pointers.Ptr.TheVariants.{Null, To}
use Rattle.p10_meaning.specs.Pointers.{first_of, window_in, whole_window, read_of, scalar_of}
use Rattle.p10_meaning.specs.Objects.{Object, on_ok, or_stop, alive, reach, scalar_at, cell_at, may_write, put_at, write_at, shift, inner, placed}
use Rattle.p10_meaning.specs.Scalars.{number_of, pointer_of}
use Rattle.p10_meaning.specs.States.{State, Progress, gives, step_at, step, and_then, or_undefined}
use Rattle.p10_meaning.specs.Values.{Setting, Held, stands, Sensor, Element, pointer_to, variable_target, global_target, width, element_type, element_count, read_target, used, give, evaluate, locate, find_place}
use Rattle.p10_interp.specs.declared.surroundings.Surroundings.{Surroundings}
use Rattle.p10_interp.specs.private.Standing.{held_of}
use Rattle.p10_interp.specs.private.AtOnce.{Finds, IsFound, IsTaken, IsElement, IsMoved, LocatesObject, StartsArray, IsNoSensor, array_window, read_at_place}

-- ## Objects

-- a place of another form
pub object_by : (around : Surroundings) (q : Place) (form : PlainPlaceForm) (r : Option ℕ) → plain_place_form q.form ≡ form → IfSome r (λ n. LocatesObject around (place q.at (plain_type q.ty) form) n) → IfSome r (λ n. LocatesObject around (plain_place q) n)
object_by around q form r e h = subst (λ form. IfSome r (λ n. LocatesObject around (place q.at (plain_type q.ty) form) n)) (sym e) h

-- a variable that is an object
pub variable_object : (around : Surroundings) (at : At) (t : PlainType) (n : ℕ) (r : Option ℕ) → IfSome r (λ object. slice_get (map held_of around.held.now) n ≡ Some (stands object)) → IfSome r (λ object. LocatesObject around (place at t (variable n)) object)
variable_object around at t n None h = tt
variable_object around at t n (Some object) h = λ s same w. ap (λ o. or_undefined (variable_target n (width s.program t) o) at.span w (λ target. gives target w)) h

no_sensor : (at : At) (n scalars : ℕ) (o : Option PlainObject) (w : State) → IsNoSensor o → or_undefined (global_target n scalars o) at.span w (λ target. gives target w) ≡ gives (Element (first_of n scalars 1)) w
no_sensor at n scalars None w h = absurd h
no_sensor at n scalars (Some object) w h = ap (λ b. gives (if b then Sensor else Element (first_of n scalars 1)) w) h

-- an object of static lifetime
pub static_object_found : (around : Surroundings) (at : At) (t : PlainType) (n : ℕ) (globals : List Global) (r : Option ℕ) → globals ≡ around.p.now.globals → IfSome r (λ object. (object ≡ n) × IsNoSensor (slice_get (map plain_object globals) n)) → IfSome r (λ object. LocatesObject around (place at t (global n)) object)
static_object_found around at t n globals None same h = tt
static_object_found around at t n globals (Some object) same h = λ s program w.
    subst (λ p. or_undefined (global_target n (width p t) (slice_get p.objects n)) at.span w (λ target. gives target w) ≡ gives (Element (first_of object (width p t) 1)) w) (sym program)
    (no_sensor at n (width (plain_program around.p.now) t) (slice_get (plain_program around.p.now).objects n) w (subst (λ globals. IsNoSensor (slice_get (map plain_object globals) n)) same h.1) ∙
    ap (λ n. gives (Element (first_of n (width (plain_program around.p.now) t) 1)) w) (sym h.0))

-- ## The first element

at_step : {A B : Type 0} (b : ℕ) (w : State) (go : State → Progress A) (f : A → State → Progress B) (result : State → Progress B) → ((u : State) → u.objects ≡ w.objects → and_then (go u) f ≡ result u) → and_then (step_at b w go) f ≡ step_at b w result
at_step zero w go f result h = refl
at_step (suc n) w go f result h = h (record w { left = n }) refl

-- the array that an object is as a whole
whole_array : (scalars stride count : ℕ) → window_in (whole_window scalars 1) 0 0 stride count ≡ array_window stride count
whole_array scalars stride count = ap (λ (n : ℕ). record { start = n; stride = stride; count = count; inside = true; whole = false }) (omega arith)

-- the pointer to the first element of an array that is an object as a whole
pub array_starts : (s : Setting) (held : List Held) (at : At) (t : PlainType) (q : PlainPlace) (n scalars count : ℕ) (start : Ptr) (w : State) (object : Object) → ((w : State) → locate s held q w ≡ gives (Element (first_of n (width s.program (place_type q)) 1)) w) →
    start ≡ To n (array_window scalars count) 0 → scalars ≡ width s.program (element_type (place_type q)) → count ≡ element_count (place_type q) → reach w.objects start ≡ Ok object → evaluate s held (value at t (decay q)) w ≡ step w (λ w. gives (Pointer start) w)
array_starts s held at t q n scalars count start w object there is wide long live =
    let stride : ℕ = width s.program (element_type (place_type q)) in
    let all : ℕ = element_count (place_type q) in
    let begins : start ≡ To n (array_window stride all) 0 = is ∙ (ap (λ k. To n (array_window k count) 0) wide ∙ ap (λ k. To n (array_window stride k) 0) long) in
    let reached : reach w.objects (To n (array_window stride all) 0) ≡ Ok object = subst (λ q. reach w.objects q ≡ Ok object) begins live in
    at_step w.left w (λ w. and_then (locate s held q w) (λ target w. or_undefined (inner w.objects (pointer_to target) 0 stride all) at.span w (λ q. give (Pointer q) w))) (λ x w. or_undefined (used x) at.span w (λ x. gives x w)) (λ w. gives (Pointer start) w)
    (λ u same.
    ap (λ o. and_then (and_then o (λ target w. or_undefined (inner w.objects (pointer_to target) 0 stride all) at.span w (λ q. give (Pointer q) w))) (λ x w. or_undefined (used x) at.span w (λ x. gives x w))) (there u) ∙
    (ap (λ r. and_then (or_undefined (on_ok r (λ _. Ok (To n (window_in (whole_window (width s.program (place_type q)) 1) 0 0 stride all) 0))) at.span u (λ q. give (Pointer q) u)) (λ x w. or_undefined (used x) at.span w (λ x. gives x w))) (ap (λ objects. reach objects (To n (array_window stride all) 0)) same ∙ reached) ∙
    (ap (λ window. gives (Pointer (To n window 0)) u) (whole_array (width s.program (place_type q)) stride all) ∙ ap (λ q. gives (Pointer q) u) (sym begins))))

-- a value that is the first element of the array that a place is
pub decayed : (around : Surroundings) (v : Value) (q : PlainPlace) (r : Option Ptr) → plain_form v.form ≡ decay q → IfSome r (λ start. (at : At) (t : PlainType) → StartsArray around (value at t (decay q)) start) → IfSome r (λ start. StartsArray around (plain_value v) start)
decayed around v q None e h = tt
decayed around v q (Some start) e h = subst (λ form. StartsArray around (value v.at (plain_type v.ty) form) start) (sym e) (h v.at (plain_type v.ty))

-- ## An element

reached : {A : Type 0} (r : Result Object Stop) (go : Object → Result A Stop) (q : A) → on_ok r go ≡ Ok q → (object : Object) × (r ≡ Ok object)
reached (Ok object) go q e = (object, refl)
reached (Err stop) go q e = absurd (let no : Err stop ≡ Ok q = e in cc)

was_live : {A B : Type 0} (r : Result Object Stop) (go : Object → Result A Stop) (next : A → Result B Stop) (q : B) → on_ok (on_ok r go) next ≡ Ok q → (object : Object) × (r ≡ Ok object)
was_live (Ok object) go next q e = (object, refl)
was_live (Err stop) go next q e = absurd (let no : Err stop ≡ Ok q = e in cc)

-- a pointer that was moved reaches its object
moved_reaches : (objects : List Object) (start q : Ptr) (by : ℤ) → shift objects start by ≡ Ok q → (object : Object) × (reach objects start ≡ Ok object)
moved_reaches objects Null q by e = absurd (let no : shift objects Null by ≡ Ok q = e in cc)
moved_reaches objects (To o window n) q by e = reached (alive objects o) (λ _. placed o window (pos n +ℤ by)) q e

pub index_found : (s : Setting) (held : List Held) (at : At) (t : PlainType) (v i : PlainValue) (objects : List Object) (before n m k after : ℕ) (start q : Ptr) (by : ℤ) → before ≡ suc n → n ≡ suc m →
    ((w : State) (object : Object) → reach w.objects start ≡ Ok object → evaluate s held v w ≡ step w (λ w. gives (Pointer start) w)) →
    Finds (evaluate s held i) objects m (Int by) k → IsFound (shift objects start by) k q after → Finds (find_place s held at t (index v i)) objects before (Element q) after
index_found s held at t v i objects before n m k after start q by e d starts run moved = λ some w same.
    let h : (after ≡ k) × (shift objects start by ≡ Ok q) = moved some in
    let more : 0 < k = subst (λ n. 0 < n) h.0 some in
    let there : (object : Object) × (reach objects start ≡ Ok object) = moved_reaches objects start q by h.1 in
    let first : evaluate s held v (record w { left = n }) ≡ gives (Pointer start) (record w { left = m }) =
    starts (record w { left = n }) there.0 (ap (λ xs. reach xs start) same ∙ there.1) ∙ ap (λ n. step_at n (record w { left = n }) (λ w. gives (Pointer start) w)) d in
    subst (λ b. find_place s held at t (index v i) (record w { left = b }) ≡ gives (Element q) (record w { left = after })) (sym e)
    (ap (λ o. and_then o (λ x w. and_then (evaluate s held i w) (λ y w. or_undefined (shift w.objects (pointer_of x) (number_of y)) at.span w (λ q. gives (Element q) w)))) first ∙
    (ap (λ o. and_then o (λ y w. or_undefined (shift w.objects start (number_of y)) at.span w (λ q. gives (Element q) w))) (run more w same) ∙
    (ap (λ r. or_undefined r at.span (record w { left = k }) (λ q. gives (Element q) (record w { left = k }))) (ap (λ xs. shift xs start by) same ∙ h.1) ∙
    ap (λ n. gives (Element q) (record w { left = n })) (sym h.0))))

-- what is read from an element of an array that is an object as a whole
pub element_read : (s : Setting) (held : List Held) (at : At) (own t : PlainType) (v i : PlainValue) (objects : List Object) (before n m k after : ℕ) (start : Ptr) (by : ℤ) (x z : Scalar) (cell : Option Cell) → z ≡ x → before ≡ suc n → n ≡ suc m →
    ((w : State) (object : Object) → reach w.objects start ≡ Ok object → evaluate s held v w ≡ step w (λ w. gives (Pointer start) w)) →
    Finds (evaluate s held i) objects m (Int by) k → IfSome cell (λ c. IsElement objects start by c) → IsTaken cell k x after → Finds (read_at_place (place at own (index v i)) t s held) objects before z after
element_read s held at own t v i objects before n m k after start by x z None is e d starts run element taken = λ some w same. absurd ((taken some).1)
element_read s held at own t v i objects before n m k after start by x z (Some cell) is e d starts run element taken = λ some w same.
    let j : (after ≡ k) × (cell.value ≡ Some x) = taken some in
    let more : 0 < k = subst (λ n. 0 < n) j.0 some in
    let found : Finds (find_place s held at own (index v i)) objects before (Element element.there) k = index_found s held at own v i objects before n m k k start element.there by e d starts run (λ _. (refl, element.moved)) in
    ap (λ o. and_then o (λ target w. read_target at.span t held target w)) (found more w same) ∙
    (ap (λ r. or_undefined (on_ok r read_of) at.span (record w { left = k }) (λ x. gives x (record w { left = k }))) (ap (λ xs. cell_at xs element.there) same ∙ element.held) ∙
    (ap (λ o. or_undefined (scalar_of o) at.span (record w { left = k }) (λ x. gives x (record w { left = k }))) j.1 ∙ (ap (λ n. gives x (record w { left = n })) (sym j.0) ∙ ap (λ x. gives x (record w { left = after })) (sym is))))

-- a cell that is there is one of an object that is live
pub cell_reaches : (objects : List Object) (q : Ptr) (cell : Cell) → cell_at objects q ≡ Ok cell → (object : Object) × (reach objects q ≡ Ok object)
cell_reaches objects Null cell e = absurd (let no : cell_at objects Null ≡ Ok cell = e in cc)
cell_reaches objects (To o window n) cell e = reached (alive objects o) (λ object. on_ok (scalar_at window n) (λ i. or_stop (slice_get object.cells i) U6)) cell e

-- a write reaches an object that is live
pub write_reaches : (objects : List Object) (q : Ptr) (cell : Cell) (new : List Object) → write_at objects q cell ≡ Ok new → (object : Object) × (reach objects q ≡ Ok object)
write_reaches objects Null cell new e = absurd (let no : write_at objects Null cell ≡ Ok new = e in cc)
write_reaches objects (To o window n) cell new e = was_live (alive objects o) (λ object. on_ok (scalar_at window n) (λ i. on_ok (or_stop (slice_get object.cells i) U6) (λ cell. on_ok (may_write object.origin) (λ _. Ok cell)))) (λ _. Ok (put_at objects (To o window n) cell)) new e

-- the cell of an element was found
pub element_found : {A : Type 0} (now : A → Cell) (objects : List Object) (start there : Ptr) (by : ℤ) (r : Option A) → IsMoved start by there → IfSome r (λ c. cell_at objects there ≡ Ok (now c)) → IfSome r (λ c. IsElement objects start by (now c))
element_found now objects start there by None moved e = tt
element_found now objects start there by (Some c) moved e =
    let live : (object : Object) × (reach objects there ≡ Ok object) = cell_reaches objects there (now c) e in record { there = there; moved = moved objects live.0 live.1; held = e }

-- what holds of what a reference refers to
pub element_behind : {A : Type 0} (now : A → Cell) (objects : List Object) (start : Ptr) (by : ℤ) (r : Option A) → IfSome r (λ c. IsElement objects start by (now c)) → IfSome (option_map now r) (λ c. IsElement objects start by c)
element_behind now objects start by None h = tt
element_behind now objects start by (Some c) h = h
