-- Values agree, where calls do: they take a step, and a place takes none or more.
use Rattle.std.proofs.Common.{◌≡◌, ℕ, suc, ◌*◌, ◌≤◌, ltb, leb, ◌&&◌, List, [], ◌∷◌, ◌++◌, refl, arith, Some, None, ℤ}
use Rattle.p10_base.specs.declared.span.Span.{Span}
use Rattle.p10_base.specs.declared.at.At.{At}
use Rattle.p10_core.specs.declared.typed.Library.{Library}
use Rattle.p10_core.specs.declared.typed.Library.TheVariants.{Assert, CAssert, Getchar, Putchar, Malloc, Calloc, Free}
use Rattle.p10_core.specs.Types.{PlainType}
use Rattle.p10_core.specs.Sizes.{repeated}
use Rattle.p10_core.specs.Typed.{PlainValue, value, PlainForm, constant, read, sense, address, decay, convert, cast, unary, binary, logic, conditional, call, built_in, PlainPlace, place, PlainPlaceForm, variable, global, literal, index, member, dereference, PlainValues, no_values, more_values, place_at, PlainVariable, PlainProgram}
use Rattle.p10_meaning.specs.declared.pointers.Scalar.{Scalar}
use Rattle.p10_meaning.specs.declared.pointers.Scalar.TheVariants.{Int, Pointer}
use Rattle.p10_meaning.specs.declared.pointers.Cell.{Cell}
use Rattle.p10_meaning.specs.Pointers.{first_of}
use Rattle.p10_meaning.specs.Objects.{allocated, release}
use Rattle.p10_meaning.specs.States.{State, counted}
use Rattle.p10_meaning.specs.Scalars.{is_true, pointer_of, unset_cells, zero_cells}
use Rattle.p10_meaning.specs.Values.{Calls, Setting, Held, scalars, width, size, open_object, Target, Variable, Sensor, Element, read_target, sensed_from, asserted, next_byte, first_argument, is_denied, granted, requested, elements, pointee, library, give, is_void, is_structure, is_decided, evaluate, discard, perform, evaluate_all, locate, find_place}
use Rattle.p10_meaning.specs.Laws.{with_more}
use Rattle.p10_meaning.proofs.Following.{follows_same, follows_objects, follows_open, follows_requests, follows_input, follows_sensors, follows_output, follows_counted}
use Rattle.p10_meaning.proofs.Agreeing.{Agrees, CallsAgree, agrees_from, agrees_gives, agrees_here, agrees_then, agrees_step, agrees_or, agrees_if}

-- ## Parts

sensed_agrees : (k m : ℕ) (sensors : List ℤ) (t : PlainType) (w : State) → w.sensors ≡ sensors → w.left ≤ m → Agrees k m w (sensed_from sensors t w) (sensed_from sensors t (with_more k w))
sensed_agrees k m [] t w e l = agrees_here k m _ w l
sensed_agrees k m (z ∷ sensors) t w e l = agrees_gives k m w _ (record w { sensors = sensors }) l (follows_sensors w z sensors e)

pub read_agrees : (k m : ℕ) (span : Span) (t : PlainType) (held : List Held) (target : Target) (w : State) → w.left ≤ m → Agrees k m w (read_target span t held target w) (read_target span t held target (with_more k w))
read_agrees k m span t held (Variable n) w l = agrees_or k m _ span w _ _ (λ x. agrees_here k m x w l)
read_agrees k m span t held Sensor w l = sensed_agrees k m w.sensors t w refl l
read_agrees k m span t held (Element q) w l = agrees_or k m _ span w _ _ (λ x. agrees_here k m x w l)

pub give_agrees : (k m : ℕ) (x : Scalar) (w : State) → w.left ≤ m → Agrees k m w (give x w) (give x (with_more k w))
give_agrees k m x w l = agrees_here k m (Some x) w l

pub asserted_agrees : (k m : ℕ) (span : Span) (x : Scalar) (w : State) → w.left ≤ m → Agrees k m w (asserted span x w) (asserted span x (with_more k w))
asserted_agrees k m span x w l = agrees_if k m w (is_true x) _ _ _ _ (agrees_here k m None w l) (record { same = refl; leaves = tt; follows = follows_same w })

byte_agrees : (k m : ℕ) (input : List ℕ) (w : State) → w.input ≡ input → w.left ≤ m → Agrees k m w (next_byte input w) (next_byte input (with_more k w))
byte_agrees k m [] w e l = agrees_here k m _ w l
byte_agrees k m (byte ∷ input) w e l = agrees_gives k m w _ (record w { input = input }) l (follows_input w byte input e)

granted_agrees : (k m stride n : ℕ) (cells : List Cell) (w : State) → w.left ≤ m → Agrees k m w (granted stride n cells w) (granted stride n cells (with_more k w))
granted_agrees k m stride n cells w l = agrees_if k m w (is_denied w.denied w.requests) _ _ _ _ (agrees_here k m _ w l)
    (agrees_gives k m w (Some (Pointer (first_of w.opened stride n))) (open_object allocated cells w) l (follows_open w allocated cells))

requested_agrees : (k m : ℕ) (p : PlainProgram) (t : PlainType) (n : ℕ) (fill : List PlainType → List Cell) (w : State) → w.left ≤ m → Agrees k m w (requested p t n fill w) (requested p t n fill (with_more k w))
requested_agrees k m p t n fill w l = agrees_if k m w (ltb 0 (n * size p t) && leb (n * size p t) 1048576) _ _ _ _
    (agrees_from k m w (record w { requests = suc w.requests }) _ _ (follows_requests w)
    (granted_agrees k m (width p t) n (fill (repeated n (scalars p t))) (record w { requests = suc w.requests }) l))
    (agrees_here k m _ w l)

library_agrees : (k m : ℕ) (p : PlainProgram) (f : Library) (span : Span) (t : PlainType) (xs : List Scalar) (w : State) → w.left ≤ m → Agrees k m w (library p f span t xs w) (library p f span t xs (with_more k w))
library_agrees k m p Assert span t xs w l = asserted_agrees k m span (first_argument xs) w l
library_agrees k m p CAssert span t xs w l = agrees_here k m _ w l
library_agrees k m p Getchar span t xs w l = byte_agrees k m w.input w refl l
library_agrees k m p Putchar span t xs w l = agrees_gives k m w _ (record w { output = w.output ++ _ ∷ [] }) l (follows_output w _)
library_agrees k m p Malloc span t xs w l = agrees_from k m w (counted w) _ _ (follows_counted w) (requested_agrees k m p (pointee t) (elements xs) unset_cells (counted w) l)
library_agrees k m p Calloc span t xs w l = agrees_from k m w (counted w) _ _ (follows_counted w) (requested_agrees k m p (pointee t) (elements xs) zero_cells (counted w) l)
library_agrees k m p Free span t xs w l = agrees_from k m w (counted w) _ _ (follows_counted w)
    (agrees_or k m (release w.objects (pointer_of (first_argument xs))) span (counted w) _ _ (λ objects. agrees_gives k m (counted w) None (record (counted w) { objects = objects }) l (follows_objects (counted w) objects)))

-- ## Values and places

pub more_than : (n m : ℕ) → n ≤ m → n ≤ suc m
more_than n m l = omega (arith, l)

module _ (k most : ℕ) (p : PlainProgram) (variables : List PlainVariable) (call1 call2 : Calls) (n1 n2 : ℕ) (calls : CallsAgree k most call1 call2) where
  abbrev one : Setting
  one = record { program = p; variables = variables; call = call1; turns = n1 }

  abbrev two : Setting
  two = record { program = p; variables = variables; call = call2; turns = n2 }

  mutual
    pub evaluate_agrees : (held : List Held) (v : PlainValue) (w : State) (m : ℕ) → m ≤ most → w.left ≤ suc m → Agrees k m w (evaluate one held v w) (evaluate two held v (with_more k w))
    evaluate_agrees held (value at t form) w m b l = agrees_then k m m w _ _ _ _ (perform_agrees held at t form w m b l) (λ x w l. agrees_or k m _ at.span w _ _ (λ x. agrees_here k m x w l))

    pub discard_agrees : (held : List Held) (v : PlainValue) (w : State) (m : ℕ) → m ≤ most → w.left ≤ suc m → Agrees k m w (discard one held v w) (discard two held v (with_more k w))
    discard_agrees held (value at t form) w m b l = perform_agrees held at t form w m b l

    perform_agrees : (held : List Held) (at : At) (t : PlainType) (form : PlainForm) (w : State) (m : ℕ) → m ≤ most → w.left ≤ suc m → Agrees k m w (perform one held at t form w) (perform two held at t form (with_more k w))
    perform_agrees held at t (constant z) w m b l = agrees_step k m w _ _ l (λ n l. give_agrees k m (Int z) (record w { left = n }) l)
    perform_agrees held at t (read q) w m b l = agrees_step k m w _ _ l (λ n l.
        agrees_then k m m (record w { left = n }) _ _ _ _ (locate_agrees held q (record w { left = n }) m b l) (λ target w l.
        agrees_if k m w (is_structure t) _ _ _ _ (agrees_here k m None w l)
        (agrees_then k m m w _ _ _ _ (read_agrees k m (place_at q).span t held target w l) (λ x w l. give_agrees k m x w l))))
    perform_agrees held at t (sense i) w m b l = agrees_step k m w _ _ l (λ n l.
        agrees_then k m m (record w { left = n }) _ _ _ _ (sensed_agrees k m w.sensors t (record w { left = n }) refl l) (λ x w l. give_agrees k m x w l))
    perform_agrees held at t (address q) w m b l = agrees_step k m w _ _ l (λ n l.
        agrees_then k m m (record w { left = n }) _ _ _ _ (locate_agrees held q (record w { left = n }) m b l) (λ target w l. give_agrees k m _ w l))
    perform_agrees held at t (decay q) w m b l = agrees_step k m w _ _ l (λ n l.
        agrees_then k m m (record w { left = n }) _ _ _ _ (locate_agrees held q (record w { left = n }) m b l) (λ target w l.
        agrees_or k m _ at.span w _ _ (λ r. give_agrees k m (Pointer r) w l)))
    perform_agrees held at t (convert v) w m b l =
        agrees_then k m m w _ _ _ _ (evaluate_agrees held v w m b l) (λ x w l. give_agrees k m _ w l)
    perform_agrees held at t (cast v) w m b l = agrees_step k m w _ _ l (λ n l.
        agrees_if k m (record w { left = n }) (is_void t) _ _ _ _
        (agrees_then k m m (record w { left = n }) _ _ _ _ (discard_agrees held v (record w { left = n }) m b (more_than n m l)) (λ x w l. agrees_here k m None w l))
        (agrees_then k m m (record w { left = n }) _ _ _ _ (evaluate_agrees held v (record w { left = n }) m b (more_than n m l)) (λ x w l. give_agrees k m _ w l)))
    perform_agrees held at t (unary op v) w m b l = agrees_step k m w _ _ l (λ n l.
        agrees_then k m m (record w { left = n }) _ _ _ _ (evaluate_agrees held v (record w { left = n }) m b (more_than n m l)) (λ x w l.
        agrees_or k m _ at.span w _ _ (λ z. give_agrees k m z w l)))
    perform_agrees held at t (binary op x y) w m b l = agrees_step k m w _ _ l (λ n l.
        agrees_then k m m (record w { left = n }) _ _ _ _ (evaluate_agrees held x (record w { left = n }) m b (more_than n m l)) (λ i w l.
        agrees_then k m m w _ _ _ _ (evaluate_agrees held y w m b (more_than w.left m l)) (λ j w l.
        agrees_or k m _ at.span w _ _ (λ z. give_agrees k m z w l))))
    perform_agrees held at t (logic op x y) w m b l = agrees_step k m w _ _ l (λ n l.
        agrees_then k m m (record w { left = n }) _ _ _ _ (evaluate_agrees held x (record w { left = n }) m b (more_than n m l)) (λ i w l.
        agrees_if k m w (is_decided op (is_true i)) _ _ _ _ (give_agrees k m _ w l)
        (agrees_then k m m w _ _ _ _ (evaluate_agrees held y w m b (more_than w.left m l)) (λ j w l. give_agrees k m _ w l))))
    perform_agrees held at t (conditional c x y) w m b l = agrees_step k m w _ _ l (λ n l.
        agrees_then k m m (record w { left = n }) _ _ _ _ (evaluate_agrees held c (record w { left = n }) m b (more_than n m l)) (λ i w l.
        agrees_then k m m w _ _ _ _
        (agrees_if k m w (is_true i) _ _ _ _ (evaluate_agrees held x w m b (more_than w.left m l)) (evaluate_agrees held y w m b (more_than w.left m l)))
        (λ j w l. give_agrees k m j w l)))
    perform_agrees held at t (call name f arguments) w m b l = agrees_step k m w _ _ l (λ n l.
        agrees_then k m m (record w { left = n }) _ _ _ _ (all_agree held arguments (record w { left = n }) m b l) (λ xs w l. calls.agree f xs w m b l))
    perform_agrees held at t (built_in name f arguments) w m b l = agrees_step k m w _ _ l (λ n l.
        agrees_then k m m (record w { left = n }) _ _ _ _ (all_agree held arguments (record w { left = n }) m b l) (λ xs w l. library_agrees k m p f at.span t xs w l))

    all_agree : (held : List Held) (vs : PlainValues) (w : State) (m : ℕ) → m ≤ most → w.left ≤ m → Agrees k m w (evaluate_all one held vs w) (evaluate_all two held vs (with_more k w))
    all_agree held no_values w m b l = agrees_here k m [] w l
    all_agree held (more_values v vs) w m b l =
        agrees_then k m m w _ _ _ _ (evaluate_agrees held v w m b (more_than w.left m l)) (λ x w l.
        agrees_then k m m w _ _ _ _ (all_agree held vs w m b l) (λ xs w l. agrees_here k m (x ∷ xs) w l))

    pub locate_agrees : (held : List Held) (q : PlainPlace) (w : State) (m : ℕ) → m ≤ most → w.left ≤ m → Agrees k m w (locate one held q w) (locate two held q (with_more k w))
    locate_agrees held (place at t form) w m b l = find_agrees held at t form w m b l

    find_agrees : (held : List Held) (at : At) (t : PlainType) (form : PlainPlaceForm) (w : State) (m : ℕ) → m ≤ most → w.left ≤ m → Agrees k m w (find_place one held at t form w) (find_place two held at t form (with_more k w))
    find_agrees held at t (variable i) w m b l = agrees_or k m _ at.span w _ _ (λ target. agrees_here k m target w l)
    find_agrees held at t (global i) w m b l = agrees_or k m _ at.span w _ _ (λ target. agrees_here k m target w l)
    find_agrees held at t (literal i bytes) w m b l = agrees_or k m _ at.span w _ _ (λ target. agrees_here k m target w l)
    find_agrees held at t (index x y) w m b l = agrees_step k m w _ _ (more_than w.left m l) (λ n l.
        agrees_then k m m (record w { left = n }) _ _ _ _ (evaluate_agrees held x (record w { left = n }) m b (more_than n m l)) (λ i w l.
        agrees_then k m m w _ _ _ _ (evaluate_agrees held y w m b (more_than w.left m l)) (λ j w l.
        agrees_or k m _ at.span w _ _ (λ q. agrees_here k m (Element q) w l))))
    find_agrees held at t (member q i) w m b l = agrees_step k m w _ _ (more_than w.left m l) (λ n l.
        agrees_then k m m (record w { left = n }) _ _ _ _ (locate_agrees held q (record w { left = n }) m b l) (λ target w l.
        agrees_or k m _ at.span w _ _ (λ q. agrees_here k m (Element q) w l)))
    find_agrees held at t (dereference v) w m b l = agrees_step k m w _ _ (more_than w.left m l) (λ n l.
        agrees_then k m m (record w { left = n }) _ _ _ _ (evaluate_agrees held v (record w { left = n }) m b (more_than n m l)) (λ x w l.
        agrees_or k m _ at.span w _ _ (λ object. agrees_here k m (Element (pointer_of x)) w l)))
