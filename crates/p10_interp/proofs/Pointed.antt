-- What pointers come to, and reads and writes through them.
use Rattle.std.proofs.Common.{◌≡◌, ℕ, zero, suc, ◌+◌, ◌-◌, ◌<◌, List, [], ◌∷◌, ◌++◌, length, take, refl, sym, ◌∙◌, ap, subst, arith, Result, Ok, Err, Some, slice_get}
use Rattle.std.specs.Prelude.{flat_map}
use Rattle.std.proofs.lemmas.List.{length-append}
use Rattle.std.proofs.lemmas.Option.{none-some, same_Some}
use Rattle.p10_base.specs.declared.span.Span.{Span}
use Rattle.p10_int.specs.declared.operators.Stop.{Stop}
use Rattle.p10_meaning.specs.declared.pointers.Ptr.{Ptr}
use Rattle.p10_meaning.specs.declared.pointers.Ptr.TheVariants.{Null, To}
use Rattle.p10_meaning.specs.declared.pointers.Cell.{Cell}
use Rattle.p10_meaning.specs.Objects.{Object, on_ok, alive, reach, inner, write_at}
use Rattle.p10_meaning.specs.States.{State, Undefined as IsUndefined, Progress, gives, ends, or_undefined}
use Rattle.p10_meaning.specs.Values.{Element}
use Rattle.p10_meaning.specs.Statements.{Frame, Done, write_target, goes, part_of, write_part, copy_scalars}
use Rattle.p10_store.specs.Stores.{Held}
use Rattle.p10_interp.specs.declared.work.Halt.{Halt}
use Rattle.p10_interp.specs.declared.work.Halt.TheVariants.{Failed, Undefined, Spent, Memory}
use Rattle.p10_interp.specs.private.Tasks.{Operand, Open}
use Rattle.p10_interp.specs.private.Operations.{leaves_done}
use Rattle.p10_interp.specs.private.Views.{Answers, Finds, Gives, left_with}
use Rattle.p10_interp.specs.private.Writing.{Changes, Continues}

-- ## What pointers point to

alive_ok : {A : Type 0} (r : Result Object Stop) (x : A) (q p : Ptr) → Ok p ≡ on_ok r (λ _. Ok q) → on_ok r (λ _. Ok x) ≡ Ok x
alive_ok (Ok o) x q p e = refl
alive_ok (Err s) x q p e = absurd cc

abbrev stop_or : {A : Type 0} → Stop → Result A Stop → Stop
stop_or d (Ok x) = d
stop_or d (Err s) = s

alive_err : {A : Type 0} (r : Result Object Stop) (x : A) (q : Ptr) (stop : Stop) → Err stop ≡ on_ok r (λ _. Ok q) → on_ok r (λ _. Ok x) ≡ Err stop
alive_err (Ok o) x q stop e = absurd cc
alive_err (Err s) x q stop e = ap (λ s. Err s) (sym (ap (stop_or stop) e))

-- an array in an object is found exactly where the object is
pub reached_ok : (objects : List Object) (q there : Ptr) (at stride count : ℕ) → Ok there ≡ inner objects q at stride count → on_ok (reach objects q) (λ object. Ok q) ≡ Ok q
reached_ok objects Null there at stride count e = absurd cc
reached_ok objects (To o window n) there at stride count e = alive_ok (alive objects o) (To o window n) _ there e

pub reached_err : (objects : List Object) (q : Ptr) (stop : Stop) (at stride count : ℕ) → Err stop ≡ inner objects q at stride count → on_ok (reach objects q) (λ object. Ok q) ≡ Err stop
reached_err objects Null stop at stride count e = sym e
reached_err objects (To o window n) stop at stride count e = alive_err (alive objects o) (To o window n) _ stop e

-- ## Members

pub more_taken : {A B : Type 0} (f : A → List B) (xs : List A) (i : ℕ) (x : A) → slice_get xs i ≡ Some x → length (flat_map f (take (suc i) xs)) ≡ length (flat_map f (take i xs)) + length (f x)
more_taken f [] i x e = absurd (none-some _ e)
more_taken f (y ∷ ys) zero x e = length-append (f y) [] ∙ (ap (λ z. length (f z) + 0) (same_Some _ _ e) ∙ omega arith)
more_taken f (y ∷ ys) (suc i) x e =
    let h : length (f y ++ flat_map f (take i ys)) ≡ length (f y) + length (flat_map f (take i ys)) = length-append (f y) (flat_map f (take i ys)) in
    let k : length (flat_map f (take (suc i) ys)) ≡ length (flat_map f (take i ys)) + length (f x) = more_taken f ys i x e in
    length-append (f y) (flat_map f (take (suc i) ys)) ∙ omega (arith, h, k)

-- ## Reads

pub finds_gives : {A : Type 0} (x : Result A Stop) (span : Span) (r : Result A Halt) (w : State) → Finds x span r → Gives (or_undefined x span w (λ y. gives y w)) r w
finds_gives x span (Ok y) w h = ap (λ x. or_undefined x span w (λ y. gives y w)) h
finds_gives x span (Err (Failed at)) w h = absurd h
finds_gives x span (Err (Undefined stop at)) w h = ap (λ x. or_undefined x span w (λ y. gives y w)) h.0 ∙ ap (λ s. ends (IsUndefined stop s) w) (sym h.1)
finds_gives x span (Err Spent) w h = absurd h
finds_gives x span (Err Memory) w h = tt

-- ## Writes

-- a cell was written in an object
pub element_written : {B : Type 0} (operands : List Operand) (span : Span) (q : Ptr) (cell : Cell) (f : Open) (around cs : List Open) (w : State) (old new : Held) (r : Result B Halt) → w.objects ≡ old.objects → w.opened ≡ old.opened → cs ≡ f ∷ around →
    Changes old new (write_at old.objects q cell) span r → Answers (leaves_done operands f around (write_target span (Element q) cell f.frame w)) r (left_with operands cs) (record w { objects = new.objects; opened = new.opened })
element_written operands span q cell f around cs w old new (Ok done) same number e h =
    ap (λ x. leaves_done operands f around (or_undefined x span w (λ objects. goes f.frame (record w { objects = objects })))) (ap (λ objects. write_at objects q cell) same ∙ h.0) ∙
    (ap (λ cs. gives (left_with operands cs) (record w { objects = new.objects })) (sym e) ∙
    ap (λ n. gives (left_with operands cs) (record w { objects = new.objects; opened = n })) (number ∙ sym h.1))
element_written operands span q cell f around cs w old new (Err (Failed at)) same number e h = absurd h
element_written operands span q cell f around cs w old new (Err (Undefined stop at)) same number e h =
    ap (λ x. leaves_done operands f around (or_undefined x span w (λ objects. goes f.frame (record w { objects = objects })))) (ap (λ objects. write_at objects q cell) same ∙ h.0) ∙
    (ap (λ s. ends (IsUndefined stop s) w) (sym h.1) ∙
    (ap (λ objects. ends (IsUndefined stop at) (record w { objects = objects })) (same ∙ ap (λ (v : Held). v.objects) (sym h.2)) ∙
    ap (λ n. ends (IsUndefined stop at) (record w { objects = new.objects; opened = n })) (number ∙ ap (λ (v : Held). v.opened) (sym h.2))))
element_written operands span q cell f around cs w old new (Err Spent) same number e h = absurd h
element_written operands span q cell f around cs w old new (Err Memory) same number e h = tt

-- ## Copies

-- a scalar was copied, and more are
pub part_copied : {B : Type 0} (n i : ℕ) (to_span : Span) (to : Ptr) (from_span : Span) (from : Ptr) (frame : Frame) (w : State) (cell : Cell) (old new : Held) (r : Result B Halt) → w.objects ≡ old.objects → w.opened ≡ old.opened → part_of old.objects from i ≡ Ok cell →
    Changes old new (write_part old.objects to i cell) to_span r →
    Continues (or_undefined (part_of w.objects from i) from_span w (λ cell. or_undefined (write_part w.objects to i cell) to_span w (λ objects. copy_scalars n (suc i) to_span to from_span from frame (record w { objects = objects }))))
    (copy_scalars n (suc i) to_span to from_span from frame (record w { objects = new.objects; opened = new.opened })) r (record w { objects = new.objects; opened = new.opened })
part_copied n i to_span to from_span from frame w cell old new (Ok done) same number read h =
    ap (λ x. or_undefined x from_span w (λ cell. or_undefined (write_part w.objects to i cell) to_span w (λ objects. copy_scalars n (suc i) to_span to from_span from frame (record w { objects = objects })))) (ap (λ objects. part_of objects from i) same ∙ read) ∙
    (ap (λ x. or_undefined x to_span w (λ objects. copy_scalars n (suc i) to_span to from_span from frame (record w { objects = objects }))) (ap (λ objects. write_part objects to i cell) same ∙ h.0) ∙
    ap (λ k. copy_scalars n (suc i) to_span to from_span from frame (record w { objects = new.objects; opened = k })) (number ∙ sym h.1))
part_copied n i to_span to from_span from frame w cell old new (Err (Failed at)) same number read h = absurd h
part_copied n i to_span to from_span from frame w cell old new (Err (Undefined stop at)) same number read h =
    ap (λ x. or_undefined x from_span w (λ cell. or_undefined (write_part w.objects to i cell) to_span w (λ objects. copy_scalars n (suc i) to_span to from_span from frame (record w { objects = objects })))) (ap (λ objects. part_of objects from i) same ∙ read) ∙
    (ap (λ x. or_undefined x to_span w (λ objects. copy_scalars n (suc i) to_span to from_span from frame (record w { objects = objects }))) (ap (λ objects. write_part objects to i cell) same ∙ h.0) ∙
    (ap (λ s. ends (IsUndefined stop s) w) (sym h.1) ∙
    (ap (λ objects. ends (IsUndefined stop at) (record w { objects = objects })) (same ∙ ap (λ (v : Held). v.objects) (sym h.2)) ∙
    ap (λ k. ends (IsUndefined stop at) (record w { objects = new.objects; opened = k })) (number ∙ ap (λ (v : Held). v.opened) (sym h.2)))))
part_copied n i to_span to from_span from frame w cell old new (Err Spent) same number read h = absurd h
part_copied n i to_span to from_span from frame w cell old new (Err Memory) same number read h = tt

-- the first of the scalars that are left was copied
pub copied_one : (count i n : ℕ) (go next : ℕ → ℕ → Progress Done) (o : Progress Done) → i < count → n ≡ i + 1 → o ≡ go (count - i) i → go (suc (count - n)) i ≡ next (count - n) (suc i) → o ≡ next (count - n) n
copied_one count i n go next o l e start one =
    let m : count - i ≡ suc (count - n) = omega (arith, l, e) in
    let k : suc i ≡ n = omega (arith, e) in
    start ∙ (ap (λ m. go m i) m ∙ (one ∙ ap (λ j. next (count - n) j) k))

stops_at : (halt : Halt) (o other next : Progress Done) (x : Done) (w : State) → o ≡ other → Continues {A = Done} {B = Unit {0}} other next (Err halt) w → Answers {A = Done} {B = Unit {0}} o (Err halt) x w
stops_at (Failed span) o other next x w e h = e ∙ h
stops_at (Undefined stop span) o other next x w e h = e ∙ h
stops_at Spent o other next x w e h = e ∙ h
stops_at Memory o other next x w e h = tt

-- the copy stops at the first of the scalars that are left
pub copy_stops : (count i : ℕ) (go : ℕ → ℕ → Progress Done) (next o : Progress Done) (r : Result (Unit {0}) Halt) (halt : Halt) (x : Done) (w : State) → i < count → o ≡ go (count - i) i → r ≡ Err halt → Continues {A = Done} {B = Unit {0}} (go (suc (count - (i + 1))) i) next (Err halt) w → Answers o r x w
copy_stops count i go next o r halt x w l start e h =
    let m : count - i ≡ suc (count - (i + 1)) = omega (arith, l) in
    subst (λ r. Answers o r x w) (sym e) (stops_at halt o (go (suc (count - (i + 1))) i) next x w (start ∙ ap (λ m. go m i) m) h)
