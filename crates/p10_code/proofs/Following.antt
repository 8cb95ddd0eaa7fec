-- What operations come to comes after the state in which they begin.
use Rattle.std.proofs.Common.{◌≡◌, ℕ, zero, suc, Bool, true, false, List, [], ◌∷◌, ◌++◌, refl, arith, Option, Some, None, Result, Ok, Err, ℤ, slice_get, subst}
use Rattle.std.specs.Prelude.{if◌then◌else◌, ltb, leb, nat_le, ◌*◌, ◌&&◌, ◌-◌}
use Rattle.p10_base.specs.declared.span.Span.{Span}
use Rattle.p10_int.specs.declared.operators.Stop.{Stop}
use Rattle.p10_core.specs.declared.typed.Library.{Library}
use Rattle.p10_core.specs.declared.typed.Library.TheVariants.{Assert, CAssert, Getchar, Putchar, Malloc, Calloc, Free}
use Rattle.p10_core.specs.Types.{PlainType}
use Rattle.p10_core.specs.Typed.{PlainFunction, PlainProgram}
use Rattle.p10_core.specs.Sizes.{repeated}
use Rattle.p10_meaning.specs.declared.pointers.Ptr.{Ptr}
use Rattle.p10_meaning.specs.declared.pointers.Scalar.{Scalar}
use Rattle.p10_meaning.specs.declared.pointers.Scalar.TheVariants.{Pointer}
use Rattle.p10_meaning.specs.declared.pointers.Cell.{Cell}
use Rattle.p10_meaning.specs.Pointers.{holding, first_of}
use Rattle.p10_meaning.specs.Objects.{declared, allocated, release, all_closed, write_at}
use Rattle.p10_meaning.specs.States.{State, StepsSpent, Progress, gives, ends, step_at, step, or_undefined, counted}
use Rattle.p10_meaning.specs.Scalars.{pointer_of, is_true, unset_cells, zero_cells}
use Rattle.p10_meaning.specs.Values.{scalars, width, size, first_argument, asserted, next_byte, elements, pointee, is_denied, granted, requested, library as library_call, open_object, holds, used as used_value}
use Rattle.p10_meaning.specs.Statements.{Frame, part_of, write_part, copy_scalars, listed_scalar, fill as fill_scalars}
use Rattle.p10_meaning.specs.Calling.{deeper, raised, entered}
use Rattle.p10_meaning.specs.Laws.{Follows, EndsAfter}
use Rattle.p10_meaning.proofs.Following.{follows_same, follows_trans, follows_left, follows_objects, follows_open, follows_raised, follows_requests, follows_input, follows_sensors, follows_output, follows_mark, follows_counted}
use Rattle.p10_meaning.proofs.Agreeing.{after_trans}
use Rattle.p10_meaning.proofs.AgreeingCalls.{IsEntry, entered_is}
use Rattle.p10_code.specs.Operations.{Class, Action, compute, check, present, used, halt, store, sense, jump, branch, choose, call, library, return, verify, unset, opens, copy, fill, begin, close, leave, mark, rest, Op, Entry}
use Rattle.p10_code.specs.Machine.{Caller, Config, Turned, on, off, look, value_of, scalar_in, set_or_stop, declared_or_stop, computed, put, next, close_first, close_blocks, enter, back, turned, unless_stopped, sensed_by, with_state, act, fetch, turn, run_for}
use Rattle.p10_code.specs.Law.{FollowsTurned, RunsFollow}

-- ## One piece after another

-- the state of an outcome comes after a state
pub record Goes {A : Type 0} (from : State) (o : Progress A) : Type 0 where
  pub after : EndsAfter from o

-- ## One piece after another

pub goes_to : {A : Type 0} (u : State) (a : A) (w : State) → Follows u w → Goes u (gives a w)
goes_to u a w f = record { after = f }

pub goes_here : {A : Type 0} (a : A) (w : State) → Goes w (gives a w)
goes_here a w = record { after = follows_same w }

pub goes_from : {A : Type 0} (u v : State) (o : Progress A) → Follows u v → Goes v o → Goes u o
goes_from u v o f g = record { after = after_trans u v o f g.after }

pub goes_or : {A B : Type 0} (r : Result A Stop) (span : Span) (w : State) (go : A → Progress B) → ((a : A) → Goes w (go a)) → Goes w (or_undefined r span w go)
goes_or (Ok a) span w go h = h a
goes_or (Err stop) span w go h = record { after = follows_same w }

pub goes_if : {A : Type 0} (w : State) (b : Bool) (x y : Progress A) → Goes w x → Goes w y → Goes w (if b then x else y)
goes_if w true x y g h = g
goes_if w false x y g h = h

goes_step_at : {A : Type 0} (n : ℕ) (w : State) (go : State → Progress A) → n ≡ w.left → ((w : State) → Goes w (go w)) → Goes w (step_at n w go)
goes_step_at zero w go e h = record { after = follows_same w }
goes_step_at (suc m) w go e h = goes_from w (record w { left = m }) _ (follows_left w m (let d : suc m ≡ w.left = e in omega (arith, d))) (h (record w { left = m }))

pub goes_step : {A : Type 0} (w : State) (go : State → Progress A) → ((w : State) → Goes w (go w)) → Goes w (step w go)
goes_step w go h = goes_step_at w.left w go refl h

-- ## What parts of operations do

pub asserted_goes : (span : Span) (x : Scalar) (w : State) → Goes w (asserted span x w)
asserted_goes span x w = goes_if w (is_true x) _ _ (goes_here None w) (record { after = follows_same w })

byte_goes : (input : List ℕ) (w : State) → w.input ≡ input → Goes w (next_byte input w)
byte_goes [] w e = goes_here _ w
byte_goes (byte ∷ input) w e = goes_to w _ (record w { input = input }) (follows_input w byte input e)

granted_goes : (stride n : ℕ) (cells : List Cell) (w : State) → Goes w (granted stride n cells w)
granted_goes stride n cells w = goes_if w (is_denied w.denied w.requests) _ _ (goes_here _ w)
    (goes_to w (Some (Pointer (first_of w.opened stride n))) (open_object allocated cells w) (follows_open w allocated cells))

requested_goes : (p : PlainProgram) (t : PlainType) (n : ℕ) (cells : List PlainType → List Cell) (w : State) → Goes w (requested p t n cells w)
requested_goes p t n cells w = goes_if w (ltb 0 (n * size p t) && leb (n * size p t) 1048576) _ _
    (goes_from w (record w { requests = suc w.requests }) _ (follows_requests w) (granted_goes (width p t) n (cells (repeated n (scalars p t))) (record w { requests = suc w.requests })))
    (goes_here _ w)

pub library_goes : (p : PlainProgram) (f : Library) (span : Span) (t : PlainType) (xs : List Scalar) (w : State) → Goes w (library_call p f span t xs w)
library_goes p Assert span t xs w = asserted_goes span (first_argument xs) w
library_goes p CAssert span t xs w = goes_here _ w
library_goes p Getchar span t xs w = byte_goes w.input w refl
library_goes p Putchar span t xs w = goes_to w _ (record w { output = w.output ++ _ ∷ [] }) (follows_output w _)
library_goes p Malloc span t xs w = goes_from w (counted w) _ (follows_counted w) (requested_goes p (pointee t) (elements xs) unset_cells (counted w))
library_goes p Calloc span t xs w = goes_from w (counted w) _ (follows_counted w) (requested_goes p (pointee t) (elements xs) zero_cells (counted w))
library_goes p Free span t xs w = goes_from w (counted w) _ (follows_counted w)
    (goes_or (release w.objects (pointer_of (first_argument xs))) span (counted w) _ (λ objects. goes_to (counted w) None (record (counted w) { objects = objects }) (follows_objects (counted w) objects)))

pub copy_goes : (n i : ℕ) (to_span : Span) (to : Ptr) (from_span : Span) (from : Ptr) (frame : Frame) (w : State) → Goes w (copy_scalars n i to_span to from_span from frame w)
copy_goes zero i to_span to from_span from frame w = goes_here _ w
copy_goes (suc n) i to_span to from_span from frame w = goes_step w _ (λ w.
    goes_or (part_of w.objects from i) from_span w _ (λ cell. goes_or (write_part w.objects to i cell) to_span w _ (λ objects.
    goes_from w (record w { objects = objects }) _ (follows_objects w objects) (copy_goes n (suc i) to_span to from_span from frame (record w { objects = objects })))))

pub fill_goes : (span : Span) (xs : List (ℕ × Scalar)) (types : List PlainType) (i : ℕ) (q : Ptr) (frame : Frame) (w : State) → Goes w (fill_scalars span xs types i q frame w)
fill_goes span xs [] i q frame w = goes_here _ w
fill_goes span xs (t ∷ types) i q frame w = goes_step w _ (λ w.
    goes_or (write_part w.objects q i (holding (listed_scalar i t xs))) span w _ (λ objects.
    goes_from w (record w { objects = objects }) _ (follows_objects w objects) (fill_goes span xs types (suc i) q frame (record w { objects = objects }))))

sensed_goes : (sensors : List ℤ) (t : Class) (w : State) → w.sensors ≡ sensors → Goes w (sensed_by sensors t w)
sensed_goes [] t w e = goes_here _ w
sensed_goes (z ∷ sensors) t w e = goes_to w _ (record w { sensors = sensors }) (follows_sensors w z sensors e)

-- ## Operations

after_turned : (u v : State) (t : Turned) → Follows u v → FollowsTurned v t → FollowsTurned u t
after_turned u v (on c) f h = follows_trans u v c.state f h
after_turned u v (off o) f h = after_trans u v o f h

turned_follows : {A : Type 0} (w : State) (o : Progress A) (go : A → State → Turned) → Goes w o → ((a : A) (v : State) → FollowsTurned v (go a v)) → FollowsTurned w (turned o go)
turned_follows w (gives a v) go g h = after_turned w v (go a v) g.after (h a v)
turned_follows w (ends end v) go g h = g.after

stopped_follows : {A : Type 0} (r : Result A Stop) (span : Span) (c : Config) (go : A → Turned) → ((a : A) → FollowsTurned c.state (go a)) → FollowsTurned c.state (unless_stopped r span c go)
stopped_follows (Ok a) span c go h = h a
stopped_follows (Err stop) span c go h = follows_same c.state

closed_follows : (blocks : List (List ℕ)) (c : Config) → Follows c.state (close_first blocks c).state
closed_follows [] c = follows_same c.state
closed_follows (opened ∷ blocks) c = follows_objects c.state (all_closed opened c.state.objects)

all_follow : (n : ℕ) (c : Config) → Follows c.state (close_blocks n c).state
all_follow zero c = follows_same c.state
all_follow (suc n) c = follows_trans c.state (close_first c.blocks c).state (close_blocks n (close_first c.blocks c)).state (closed_follows c.blocks c) (all_follow n (close_first c.blocks c))

entered_follows : (fo : Option PlainFunction) (eo : Option Entry) (k : ℕ) (xs : List Scalar) (c : Config) → FollowsTurned c.state (enter fo eo k xs c)
entered_follows None eo k xs c = follows_same c.state
entered_follows (Some f) None k xs c = follows_same c.state
entered_follows (Some f) (Some e) k xs c =
    let there : State = raised (deeper f c.depth) c.state in
    let start : IsEntry there (entered f.variables xs there) = entered_is f.variables xs there in
    follows_trans c.state there (entered f.variables xs there).state (follows_raised c.state (deeper f c.depth)) start.follows

back_follows : (callers : List Caller) (x : Option Scalar) (c : Config) → FollowsTurned c.state (back callers x c)
back_follows [] x c = follows_same c.state
back_follows (caller ∷ callers) x c = follows_same c.state

act_follows : (p : PlainProgram) (entries : List Entry) (span : Span) (a : Action) (c : Config) → FollowsTurned c.state (act p entries span a c)
act_follows p entries span (compute k x) c = stopped_follows (computed x (look c) c.state.objects) span c (λ z. on (put k (holds (holding z)) c)) (λ z. follows_same c.state)
act_follows p entries span (check n) c = stopped_follows (set_or_stop (scalar_in (look c n))) span c (λ x. on (next c)) (λ x. follows_same c.state)
act_follows p entries span (present n) c = stopped_follows (declared_or_stop (look c n)) span c (λ held. on (next c)) (λ held. follows_same c.state)
act_follows p entries span (used n) c = stopped_follows (used_value (scalar_in (look c n))) span c (λ x. on (next c)) (λ x. follows_same c.state)
act_follows p entries span (halt s) c = follows_same c.state
act_follows p entries span (store a b) c =
    stopped_follows (write_at c.state.objects (pointer_of (value_of a (look c))) (holding (value_of b (look c)))) span c (λ objects. on (next (with_state (record c.state { objects = objects }) c))) (λ objects. follows_objects c.state objects)
act_follows p entries span (sense k t) c = turned_follows c.state _ _ (sensed_goes c.state.sensors t c.state refl) (λ x w. follows_same w)
act_follows p entries span (jump at) c = follows_same c.state
act_follows p entries span (branch a hit miss) c = follows_same c.state
act_follows p entries span (choose a labels places past) c = follows_same c.state
act_follows p entries span (call k g e t n) c = entered_follows (slice_get p.functions g) (slice_get entries e) k _ c
act_follows p entries span (library k g u t n) c = turned_follows c.state _ _ (library_goes p g span u _ c.state) (λ x w. follows_same w)
act_follows p entries span (return n a) c = after_turned c.state (close_blocks n c).state _ (all_follow n c) (back_follows (close_blocks n c).callers _ (close_blocks n c))
act_follows p entries span (verify a) c = turned_follows c.state (asserted span (value_of a (look c)) c.state) (λ x w. on (next (with_state w c))) (asserted_goes span (value_of a (look c)) c.state) (λ x w. follows_same w)
act_follows p entries span (unset n) c = follows_same c.state
act_follows p entries span (opens n t) c = follows_open c.state declared (unset_cells (scalars p t))
act_follows p entries span (copy a b from n) c = turned_follows c.state _ _ (copy_goes n 0 span _ from _ _ c.state) (λ x w. follows_same w)
act_follows p entries span (fill a t items from) c = turned_follows c.state _ _ (fill_goes span _ (scalars p t) 0 _ _ c.state) (λ x w. follows_same w)
act_follows p entries span begin c = follows_same c.state
act_follows p entries span close c = closed_follows c.blocks c
act_follows p entries span (leave n at) c = all_follow n c
act_follows p entries span mark c = follows_mark c.state
act_follows p entries span (rest n) c = follows_same c.state

paid_follows : (p : PlainProgram) (entries : List Entry) (op : Op) (c : Config) (b : Bool) →
    FollowsTurned c.state (if b then act p entries op.span op.action (with_state (record c.state { left = c.state.left - op.cost }) c) else off (ends StepsSpent (record c.state { left = 0 })))
paid_follows p entries op c true =
    after_turned c.state (record c.state { left = c.state.left - op.cost }) _ (follows_left c.state (c.state.left - op.cost) (omega arith)) (act_follows p entries op.span op.action (with_state (record c.state { left = c.state.left - op.cost }) c))
paid_follows p entries op c false = follows_left c.state 0 (omega arith)

fetched_follows : (p : PlainProgram) (entries : List Entry) (o : Option Op) (c : Config) → FollowsTurned c.state (fetch p entries o c)
fetched_follows p entries None c = follows_same c.state
fetched_follows p entries (Some op) c = paid_follows p entries op c (nat_le op.cost c.state.left)

-- ## Runs

run_follows : (p : PlainProgram) (code : List Op) (entries : List Entry) (n : ℕ) (w : State) (t : Turned) → FollowsTurned w t → FollowsTurned w (run_for p code entries n t)
run_follows p code entries zero w t h = h
run_follows p code entries (suc n) w (off o) h = h
run_follows p code entries (suc n) w (on c) h = run_follows p code entries n w (turn p code entries c) (after_turned w c.state (turn p code entries c) h (fetched_follows p entries (slice_get code c.pc) c))

pub runs_follow : RunsFollow
runs_follow p code entries c o r = subst (λ t. FollowsTurned c.state t) r.comes (run_follows p code entries r.count c.state (on c) (follows_same c.state))
