-- Pointers can't be moved or related exactly where their moves and relations stop.
use Rattle.std.proofs.Common.{◌≡◌, ℕ, ◌≤◌, ◌&&◌, leb, ltb, eqb, cond, Bool, true, false, List, [], ◌∷◌, refl, sym, ◌∙◌, ap, subst, arith, Option, Some, None, Result, Ok, Err, ℤ, pos, negsuc, ◌<ℤ◌}
use Rattle.std.specs.Prelude.{◌+ℤ◌, ◌-ℤ◌}
use Rattle.std.proofs.lemmas.Int.{ints, by_lt_z}
use Rattle.std.proofs.lemmas.Bool.{eqb-true, eq-eqb, leb-true, le-leb}
use Rattle.std.proofs.lemmas.Option.{none-some}
use Rattle.p10_int.specs.declared.operators.Stop.{Stop}
use Rattle.p10_int.specs.declared.operators.Stop.TheVariants.{U5, U6, U7, U9}
use Rattle.p10_meaning.specs.declared.pointers.Window.{Window}
use Rattle.p10_meaning.specs.declared.pointers.Ptr.{Ptr}
use Rattle.p10_meaning.specs.declared.pointers.Ptr.TheVariants.{Null, To}
use Rattle.p10_meaning.specs.Pointers.{same_flag, same_window}
use Rattle.p10_meaning.specs.Objects.{Object, on_ok, or_stop, find, alive, placed, shift, positions}
use Rattle.p10_stop_laws.specs.Moves.{IsDead, IsOutside, before_first, after_last, CannotMove, null_moved, dead_moved, moved_out, MovesStopThen, CannotRelate, left_null, right_null, left_dead, right_dead, other_arrays, RelationsStopThen}
use Rattle.p10_stop_laws.proofs.Pointing.{on_stops}

-- ## Dead objects

dead_of : (objects : List Object) (o : ℕ) → find o objects ≡ None → IsDead objects o
dead_of [] o e = tt
dead_of (x ∷ xs) o e = by_test (eqb x.number o) refl (dead_of xs o) e
  where
    by_test : (b : Bool) → eqb x.number o ≡ b → (find o xs ≡ None → IsDead xs o) → cond b (Some x) (find o xs) ≡ None → IsDead (x ∷ xs) o
    by_test true t h f = absurd (none-some _ (sym f))
    by_test false t h f = (λ s. let u = eq-eqb x.number o s in cc, h f)

pub none_of : (objects : List Object) (o : ℕ) → IsDead objects o → find o objects ≡ None
none_of [] o d = refl
none_of (x ∷ xs) o d = by_test (eqb x.number o) refl (none_of xs o d.1)
  where
    by_test : (b : Bool) → eqb x.number o ≡ b → find o xs ≡ None → cond b (Some x) (find o xs) ≡ None
    by_test true t h = absurd (d.0 (eqb-true x.number o t))
    by_test false t h = h

-- an object is dead, or it is found
pub data IsAlive (objects : List Object) (o : ℕ) : Type 0 where
  lives : (x : Object) → alive objects o ≡ Ok x → ¬ IsDead objects o → IsAlive objects o
  lies_dead : alive objects o ≡ Err U7 → IsDead objects o → IsAlive objects o

pub is_alive : (objects : List Object) (o : ℕ) → IsAlive objects o
is_alive objects o = by_object (find o objects) refl
  where
    by_object : (x : Option Object) → find o objects ≡ x → IsAlive objects o
    by_object None e = lies_dead (ap (λ (x : Option Object). or_stop x U7) e) (dead_of objects o e)
    by_object (Some x) e = lives x (ap (λ (x : Option Object). or_stop x U7) e) (λ d. let n = none_of objects o d in none-some _ (sym n ∙ e))

-- ## Moving

over : (n m : ℕ) → leb n m ≡ false → pos m <ℤ pos n
over n m t = by_lt_z (pos m) (pos n) (λ h. h) (λ k. let l = le-leb n m (omega (arith, ints, k)) in absurd cc)

placed_out : (o : ℕ) (window : Window) (z : ℤ) (stop : Stop) → placed o window z ≡ Err stop → (U6 ≡ stop) × IsOutside window z
placed_out o window (pos n) stop e = by_test (leb n window.count) refl e
  where
    by_test : (b : Bool) → leb n window.count ≡ b → cond b (Ok (To o window n)) (Err U6) ≡ Err stop → (U6 ≡ stop) × IsOutside window (pos n)
    by_test true t f = absurd cc
    by_test false t f = (cc, after_last (over n window.count t))
placed_out o window (negsuc n) stop e = (cc, before_first (omega (arith, ints)))

out_placed : (o : ℕ) (window : Window) (z : ℤ) → IsOutside window z → placed o window z ≡ Err U6
out_placed o window (pos n) h = by_test (leb n window.count) refl
  where
    inside : n ≤ window.count → ⊥
    inside l = elim h [ before_first k ↦ omega (arith, ints, k) | after_last k ↦ omega (arith, ints, k, l) ]

    by_test : (b : Bool) → leb n window.count ≡ b → cond b (Ok (To o window n)) (Err U6) ≡ Err U6
    by_test true t = absurd (inside (leb-true n window.count t))
    by_test false t = refl
out_placed o window (negsuc n) h = refl

moves_stop : (objects : List Object) (q : Ptr) (by : ℤ) (stop : Stop) → shift objects q by ≡ Err stop → CannotMove objects by q stop
moves_stop objects Null by stop e = let same : U5 ≡ stop = cc in subst (CannotMove objects by Null) same null_moved
moves_stop objects (To o window n) by stop e = by_life (is_alive objects o)
  where
    by_life : IsAlive objects o → CannotMove objects by (To o window n) stop
    by_life (lives x is d) =
        let f : placed o window (pos n +ℤ by) ≡ Err stop = subst (λ (r : Result Object Stop). on_ok r (λ _. placed o window (pos n +ℤ by)) ≡ Err stop) is e in
        let out = placed_out o window (pos n +ℤ by) stop f in
        subst (CannotMove objects by (To o window n)) out.0 (moved_out o window n d out.1)
    by_life (lies_dead is d) =
        let f : Err U7 ≡ Err stop = subst (λ (r : Result Object Stop). on_ok r (λ _. placed o window (pos n +ℤ by)) ≡ Err stop) is e in
        let same : U7 ≡ stop = cc in subst (CannotMove objects by (To o window n)) same (dead_moved o window n d)

stops_move : (objects : List Object) (q : Ptr) (by : ℤ) (stop : Stop) → CannotMove objects by q stop → shift objects q by ≡ Err stop
stops_move objects q by stop null_moved = refl
stops_move objects q by stop (dead_moved o window n d) = ap (λ (x : Option Object). on_ok (or_stop x U7) (λ _. placed o window (pos n +ℤ by))) (none_of objects o d)
stops_move objects q by stop (moved_out o window n d out) = by_life (is_alive objects o)
  where
    by_life : IsAlive objects o → shift objects (To o window n) by ≡ Err U6
    by_life (lives x is e) = ap (λ (r : Result Object Stop). on_ok r (λ _. placed o window (pos n +ℤ by))) is ∙ out_placed o window (pos n +ℤ by) out
    by_life (lies_dead is e) = absurd (d e)

pub moves_stop_then : MovesStopThen
moves_stop_then objects q by stop = (moves_stop objects q by stop, stops_move objects q by stop)

-- ## Arrays

flag_same : (a b : Bool) → same_flag a b ≡ true → a ≡ b
flag_same true b e = sym e
flag_same false true e = absurd cc
flag_same false false e = refl

same_flags : (a : Bool) → same_flag a a ≡ true
same_flags true = refl
same_flags false = refl

five : (a b c d e : Bool) → (a && b && c && d && e) ≡ true → (a ≡ true) × (b ≡ true) × (c ≡ true) × (d ≡ true) × (e ≡ true)
five true true true true true p = (refl, refl, refl, refl, refl)
five true true true true false p = absurd cc
five true true true false e p = absurd cc
five true true false d e p = absurd cc
five true false c d e p = absurd cc
five false b c d e p = absurd cc

-- a window by its fields
abbrev made : ℕ → ℕ → ℕ → Bool → Bool → Window
made start stride count inside whole = record { start = start; stride = stride; count = count; inside = inside; whole = whole }

window_same : (a b : Window) → same_window a b ≡ true → a ≡ b
window_same a b e =
    let p = five (eqb a.start b.start) (eqb a.stride b.stride) (eqb a.count b.count) (same_flag a.inside b.inside) (same_flag a.whole b.whole) e in
    ap (λ (x : ℕ). made x a.stride a.count a.inside a.whole) (eqb-true a.start b.start p.0)
    ∙ (ap (λ (x : ℕ). made b.start x a.count a.inside a.whole) (eqb-true a.stride b.stride p.1)
    ∙ (ap (λ (x : ℕ). made b.start b.stride x a.inside a.whole) (eqb-true a.count b.count p.2)
    ∙ (ap (λ (x : Bool). made b.start b.stride b.count x a.whole) (flag_same a.inside b.inside p.3) ∙ ap (λ (x : Bool). made b.start b.stride b.count b.inside x) (flag_same a.whole b.whole p.4))))

same_itself : (a : Window) → same_window a a ≡ true
same_itself a = joined (eqb a.start a.start) (eqb a.stride a.stride) (eqb a.count a.count) (same_flag a.inside a.inside) (same_flag a.whole a.whole)
    (eq-eqb a.start a.start refl) (eq-eqb a.stride a.stride refl) (eq-eqb a.count a.count refl) (same_flags a.inside) (same_flags a.whole)
  where
    joined : (a b c d e : Bool) → a ≡ true → b ≡ true → c ≡ true → d ≡ true → e ≡ true → (a && b && c && d && e) ≡ true
    joined true true true true true f g h k l = refl
    joined true true true true false f g h k l = absurd cc
    joined true true true false e f g h k l = absurd cc
    joined true true false d e f g h k l = absurd cc
    joined true false c d e f g h k l = absurd cc
    joined false b c d e f g h k l = absurd cc

both : (a b : Bool) → (a && b) ≡ true → (a ≡ true) × (b ≡ true)
both true b e = (refl, e)
both false b e = absurd cc

-- the positions of two pointers, where they point into one array
abbrev in_array : ℕ → ℕ → Bool → Result (ℕ × ℕ) Stop
in_array n m same = cond same (Ok (n, m)) (Err U9)

-- two windows of objects are one array where they are equal
arrays_differ : (o k : ℕ) (a b : Window) → eqb o k && same_window a b ≡ false → ¬ ((o ≡ k) × (a ≡ b))
arrays_differ o k a b e h =
    let f : eqb o k ≡ true = eq-eqb o k h.0 in
    let g : same_window a b ≡ true = subst (λ (x : Window). same_window a x ≡ true) h.1 (same_itself a) in
    none (eqb o k) (same_window a b) f g e
  where
    none : (c d : Bool) → c ≡ true → d ≡ true → (c && d) ≡ false → ⊥
    none true true f g e = cc
    none true false f g e = cc
    none false d f g e = cc

-- ## Relating

positions_stop : (objects : List Object) (q r : Ptr) (stop : Stop) → positions objects q r ≡ Err stop → CannotRelate objects q r stop
positions_stop objects Null r stop e = let same : U5 ≡ stop = cc in subst (CannotRelate objects Null r) same (left_null r)
positions_stop objects (To o a n) Null stop e = let same : U5 ≡ stop = cc in subst (CannotRelate objects (To o a n) Null) same (right_null o a n)
positions_stop objects (To o a n) (To k b m) stop e = by_lives (is_alive objects o) (is_alive objects k)
  where
    by_same : ¬ IsDead objects o → ¬ IsDead objects k → (c : Bool) → eqb o k && same_window a b ≡ c → in_array n m c ≡ Err stop → CannotRelate objects (To o a n) (To k b m) stop
    by_same d f true t g = absurd cc
    by_same d f false t g = let same : U9 ≡ stop = cc in subst (CannotRelate objects (To o a n) (To k b m)) same (other_arrays o k a b n m d f (arrays_differ o k a b t))

    by_lives : IsAlive objects o → IsAlive objects k → CannotRelate objects (To o a n) (To k b m) stop
    by_lives (lies_dead is d) y =
        let f : Err U7 ≡ Err stop = subst (λ (x : Result Object Stop). on_ok x (λ _. on_ok (alive objects k) (λ _. in_array n m (eqb o k && same_window a b))) ≡ Err stop) is e in
        let same : U7 ≡ stop = cc in subst (CannotRelate objects (To o a n) (To k b m)) same (left_dead o k a b n m d)
    by_lives (lives x is d) y =
        by_second d y (subst (λ (x : Result Object Stop). on_ok x (λ _. on_ok (alive objects k) (λ _. in_array n m (eqb o k && same_window a b))) ≡ Err stop) is e)
      where
        by_second : ¬ IsDead objects o → IsAlive objects k → on_ok (alive objects k) (λ _. in_array n m (eqb o k && same_window a b)) ≡ Err stop → CannotRelate objects (To o a n) (To k b m) stop
        by_second d (lies_dead is f) g =
            let h : Err U7 ≡ Err stop = subst (λ (y : Result Object Stop). on_ok y (λ _. in_array n m (eqb o k && same_window a b)) ≡ Err stop) is g in
            let same : U7 ≡ stop = cc in subst (CannotRelate objects (To o a n) (To k b m)) same (right_dead o k a b n m d f)
        by_second d (lives y is f) g =
            by_same d f (eqb o k && same_window a b) refl (subst (λ (y : Result Object Stop). on_ok y (λ _. in_array n m (eqb o k && same_window a b)) ≡ Err stop) is g)

stop_positions : (objects : List Object) (q r : Ptr) (stop : Stop) → CannotRelate objects q r stop → positions objects q r ≡ Err stop
stop_positions objects q r stop (left_null x) = refl
stop_positions objects q r stop (right_null o a n) = refl
stop_positions objects q r stop (left_dead o k a b n m d) =
    ap (λ (x : Option Object). on_ok (or_stop x U7) (λ _. on_ok (alive objects k) (λ _. in_array n m (eqb o k && same_window a b)))) (none_of objects o d)
stop_positions objects q r stop (right_dead o k a b n m d f) = by_life (is_alive objects o)
  where
    by_life : IsAlive objects o → positions objects (To o a n) (To k b m) ≡ Err U7
    by_life (lies_dead is g) = absurd (d g)
    by_life (lives x is g) =
        ap (λ (x : Result Object Stop). on_ok x (λ _. on_ok (alive objects k) (λ _. in_array n m (eqb o k && same_window a b)))) is
        ∙ ap (λ (y : Option Object). on_ok (or_stop y U7) (λ _. in_array n m (eqb o k && same_window a b))) (none_of objects k f)
stop_positions objects q r stop (other_arrays o k a b n m d f h) = by_lives (is_alive objects o) (is_alive objects k)
  where
    by_same : (c : Bool) → eqb o k && same_window a b ≡ c → in_array n m c ≡ Err U9
    by_same true t = let p = both (eqb o k) (same_window a b) t in absurd (h (eqb-true o k p.0, window_same a b p.1))
    by_same false t = refl

    by_lives : IsAlive objects o → IsAlive objects k → positions objects (To o a n) (To k b m) ≡ Err U9
    by_lives (lies_dead is g) y = absurd (d g)
    by_lives (lives x is g) (lies_dead is2 g2) = absurd (f g2)
    by_lives (lives x is g) (lives y is2 g2) =
        ap (λ (x : Result Object Stop). on_ok x (λ _. on_ok (alive objects k) (λ _. in_array n m (eqb o k && same_window a b)))) is
        ∙ (ap (λ (y : Result Object Stop). on_ok y (λ _. in_array n m (eqb o k && same_window a b))) is2 ∙ by_same (eqb o k && same_window a b) refl)

pub relations_stop_then : RelationsStopThen
relations_stop_then = record {
  orders = λ objects q r stop. (
    λ e. on_stops (positions objects q r) (λ at. Ok (ltb at.0 at.1)) stop (CannotRelate objects q r stop) e (positions_stop objects q r stop) (λ at is f. absurd cc),
    λ h. ap (λ (x : Result (ℕ × ℕ) Stop). on_ok x (λ at. Ok (ltb at.0 at.1))) (stop_positions objects q r stop h),
  );
  differences = λ objects q r stop. (
    λ e. on_stops (positions objects q r) (λ at. Ok (pos at.0 -ℤ pos at.1)) stop (CannotRelate objects q r stop) e (positions_stop objects q r stop) (λ at is f. absurd cc),
    λ h. ap (λ (x : Result (ℕ × ℕ) Stop). on_ok x (λ at. Ok (pos at.0 -ℤ pos at.1))) (stop_positions objects q r stop h),
  );
}
