-- What an act changes: its state comes after the one before.
use Rattle.std.proofs.Common.{◌≡◌, ℕ, zero, suc, Bool, true, false, List, [], ◌∷◌, ◌++◌, refl, arith, Some, None, Result, Ok, Err, ℤ}
use Rattle.std.specs.Prelude.{if◌then◌else◌, ltb, leb, ◌*◌, ◌&&◌}
use Rattle.p10_base.specs.declared.span.Span.{Span}
use Rattle.p10_int.specs.declared.operators.Stop.{Stop}
use Rattle.p10_core.specs.declared.typed.Library.{Library}
use Rattle.p10_core.specs.declared.typed.Library.TheVariants.{Assert, CAssert, Getchar, Putchar, Malloc, Calloc, Free}
use Rattle.p10_core.specs.Types.{PlainType}
use Rattle.p10_core.specs.Typed.{PlainProgram}
use Rattle.p10_core.specs.Sizes.{repeated}
use Rattle.p10_meaning.specs.declared.pointers.Ptr.{Ptr}
use Rattle.p10_meaning.specs.declared.pointers.Scalar.{Scalar}
use Rattle.p10_meaning.specs.declared.pointers.Scalar.TheVariants.{Pointer}
use Rattle.p10_meaning.specs.declared.pointers.Cell.{Cell}
use Rattle.p10_meaning.specs.Pointers.{holding, first_of}
use Rattle.p10_meaning.specs.Objects.{allocated, release, write_at}
use Rattle.p10_meaning.specs.States.{State, Progress, gives, ends, step_at, step, and_then, or_undefined, counted}
use Rattle.p10_meaning.specs.Scalars.{pointer_of, is_true, unset_cells, zero_cells}
use Rattle.p10_meaning.specs.Values.{Held, Target, Variable, Sensor, Element, scalars, width, size, sensed_from, sensed, read_target, first_argument, asserted, next_byte, elements, pointee, is_denied, granted, requested, library, open_object}
use Rattle.p10_meaning.specs.Statements.{Frame, write_target, part_of, write_part, copy_scalars, listed_scalar, fill}
use Rattle.p10_meaning.specs.Laws.{Follows, EndsAfter}
use Rattle.p10_meaning.proofs.Following.{follows_same, follows_left, follows_objects, follows_open, follows_requests, follows_input, follows_sensors, follows_output, follows_counted}
use Rattle.p10_meaning.proofs.Agreeing.{after_trans}

-- the state of an outcome comes after a state
pub record Goes {A : Type 0} (from : State) (o : Progress A) : Type 0 where
  pub after : EndsAfter from o

-- ## One piece after another

pub goes_to : {A : Type 0} (u : State) (a : A) (w : State) → Follows u w → Goes u (gives a w)
goes_to u a w f = record { after = f }

pub goes_here : {A : Type 0} (a : A) (w : State) → Goes w (gives a w)
goes_here a w = record { after = follows_same w }

pub goes_from : {A : Type 0} (u v : State) (o : Progress A) → Follows u v → Goes v o → Goes u o
goes_from u v o f g = record { after = after_trans u v o f g.after }

pub goes_then : {A B : Type 0} (u : State) (o : Progress A) (go : A → State → Progress B) → Goes u o → ((a : A) (w : State) → Goes w (go a w)) → Goes u (and_then o go)
goes_then u (gives a w) go g h = goes_from u w (go a w) g.after (h a w)
goes_then u (ends end w) go g h = record { after = g.after }

pub goes_or : {A B : Type 0} (r : Result A Stop) (span : Span) (w : State) (go : A → Progress B) → ((a : A) → Goes w (go a)) → Goes w (or_undefined r span w go)
goes_or (Ok a) span w go h = h a
goes_or (Err stop) span w go h = record { after = follows_same w }

pub goes_if : {A : Type 0} (w : State) (b : Bool) (x y : Progress A) → Goes w x → Goes w y → Goes w (if b then x else y)
goes_if w true x y g h = g
goes_if w false x y g h = h

goes_step_at : {A : Type 0} (n : ℕ) (w : State) (go : State → Progress A) → n ≡ w.left → ((w : State) → Goes w (go w)) → Goes w (step_at n w go)
goes_step_at zero w go e h = record { after = follows_same w }
goes_step_at (suc m) w go e h = goes_from w (record w { left = m }) _ (follows_left w m (let d : suc m ≡ w.left = e in omega (arith, d))) (h (record w { left = m }))

pub goes_step : {A : Type 0} (w : State) (go : State → Progress A) → ((w : State) → Goes w (go w)) → Goes w (step w go)
goes_step w go h = goes_step_at w.left w go refl h

-- ## What operations do

sensed_goes_from : (sensors : List ℤ) (t : PlainType) (w : State) → w.sensors ≡ sensors → Goes w (sensed_from sensors t w)
sensed_goes_from [] t w e = goes_here _ w
sensed_goes_from (z ∷ sensors) t w e = goes_to w _ (record w { sensors = sensors }) (follows_sensors w z sensors e)

pub sensed_goes : (t : PlainType) (w : State) → Goes w (sensed t w)
sensed_goes t w = sensed_goes_from w.sensors t w refl

pub read_goes : (span : Span) (t : PlainType) (held : List Held) (target : Target) (w : State) → Goes w (read_target span t held target w)
read_goes span t held (Variable n) w = goes_or _ span w _ (λ x. goes_here x w)
read_goes span t held Sensor w = sensed_goes t w
read_goes span t held (Element q) w = goes_or _ span w _ (λ x. goes_here x w)

pub asserted_goes : (span : Span) (x : Scalar) (w : State) → Goes w (asserted span x w)
asserted_goes span x w = goes_if w (is_true x) _ _ (goes_here None w) (record { after = follows_same w })

byte_goes : (input : List ℕ) (w : State) → w.input ≡ input → Goes w (next_byte input w)
byte_goes [] w e = goes_here _ w
byte_goes (byte ∷ input) w e = goes_to w _ (record w { input = input }) (follows_input w byte input e)

granted_goes : (stride n : ℕ) (cells : List Cell) (w : State) → Goes w (granted stride n cells w)
granted_goes stride n cells w = goes_if w (is_denied w.denied w.requests) _ _ (goes_here _ w)
    (goes_to w (Some (Pointer (first_of w.opened stride n))) (open_object allocated cells w) (follows_open w allocated cells))

requested_goes : (p : PlainProgram) (t : PlainType) (n : ℕ) (fill : List PlainType → List Cell) (w : State) → Goes w (requested p t n fill w)
requested_goes p t n fill w = goes_if w (ltb 0 (n * size p t) && leb (n * size p t) 1048576) _ _
    (goes_from w (record w { requests = suc w.requests }) _ (follows_requests w) (granted_goes (width p t) n (fill (repeated n (scalars p t))) (record w { requests = suc w.requests })))
    (goes_here _ w)

pub library_goes : (p : PlainProgram) (f : Library) (span : Span) (t : PlainType) (xs : List Scalar) (w : State) → Goes w (library p f span t xs w)
library_goes p Assert span t xs w = asserted_goes span (first_argument xs) w
library_goes p CAssert span t xs w = goes_here _ w
library_goes p Getchar span t xs w = byte_goes w.input w refl
library_goes p Putchar span t xs w = goes_to w _ (record w { output = w.output ++ _ ∷ [] }) (follows_output w _)
library_goes p Malloc span t xs w = goes_from w (counted w) _ (follows_counted w) (requested_goes p (pointee t) (elements xs) unset_cells (counted w))
library_goes p Calloc span t xs w = goes_from w (counted w) _ (follows_counted w) (requested_goes p (pointee t) (elements xs) zero_cells (counted w))
library_goes p Free span t xs w = goes_from w (counted w) _ (follows_counted w)
    (goes_or (release w.objects (pointer_of (first_argument xs))) span (counted w) _ (λ objects. goes_to (counted w) None (record (counted w) { objects = objects }) (follows_objects (counted w) objects)))

pub write_goes : (span : Span) (target : Target) (cell : Cell) (frame : Frame) (w : State) → Goes w (write_target span target cell frame w)
write_goes span (Variable n) cell frame w = goes_here _ w
write_goes span Sensor cell frame w = goes_here _ w
write_goes span (Element q) cell frame w = goes_or (write_at w.objects q cell) span w _ (λ objects. goes_to w _ (record w { objects = objects }) (follows_objects w objects))

pub copy_goes : (n i : ℕ) (to_span : Span) (to : Ptr) (from_span : Span) (from : Ptr) (frame : Frame) (w : State) → Goes w (copy_scalars n i to_span to from_span from frame w)
copy_goes zero i to_span to from_span from frame w = goes_here _ w
copy_goes (suc n) i to_span to from_span from frame w = goes_step w _ (λ w.
    goes_or (part_of w.objects from i) from_span w _ (λ cell. goes_or (write_part w.objects to i cell) to_span w _ (λ objects.
    goes_from w (record w { objects = objects }) _ (follows_objects w objects) (copy_goes n (suc i) to_span to from_span from frame (record w { objects = objects })))))

pub fill_goes : (span : Span) (xs : List (ℕ × Scalar)) (types : List PlainType) (i : ℕ) (q : Ptr) (frame : Frame) (w : State) → Goes w (fill span xs types i q frame w)
fill_goes span xs [] i q frame w = goes_here _ w
fill_goes span xs (t ∷ types) i q frame w = goes_step w _ (λ w.
    goes_or (write_part w.objects q i (holding (listed_scalar i t xs))) span w _ (λ objects.
    goes_from w (record w { objects = objects }) _ (follows_objects w objects) (fill_goes span xs types (suc i) q frame (record w { objects = objects }))))
