-- The stops of statements have their causes in them, or in functions that they call.
use Rattle.std.proofs.Common.{◌≡◌, ℕ, zero, suc, ◌+◌, ◌<◌, arith, length, cond, Bool, true, false, List, [], ◌∷◌, ◌++◌, drop, refl, sym, ◌∙◌, ap, subst, Option, Some, None, Err, inl, inr, slice_get}
use Rattle.std.specs.Prelude.{slice_set, All}
use Rattle.std.specs.Option.{option_map}
use Rattle.std.proofs.lemmas.List.Elements.{All-head, All-tail}
use Rattle.std.proofs.lemmas.Option.{same_Some, none-some}
use Rattle.p10_base.specs.declared.span.Span.{Span}
use Rattle.p10_base.specs.declared.at.At.{At}
use Rattle.p10_int.specs.declared.operators.Stop.{Stop}
use Rattle.p10_int.specs.declared.operators.BinOp.{BinOp}
use Rattle.p10_core.specs.declared.statements.UpdateKind.{UpdateKind}
use Rattle.p10_core.specs.declared.statements.LoopKeyword.{LoopKeyword}
use Rattle.p10_core.specs.declared.statements.LoopKeyword.TheVariants.{While, Do, For}
use Rattle.p10_core.specs.declared.statements.MarkKind.TheVariants.{InitDone, TaskLoop}
use Rattle.p10_core.specs.Types.{PlainType, integer, structure, bare, unqualified}
use Rattle.p10_core.specs.Sizes.{scalars_of}
use Rattle.p10_core.specs.Rows.{is_scalar, is_void}
use Rattle.p10_core.specs.Typed.{PlainValue, type_of, PlainPlace, place_at, place_type, PlainWritten, one_scalar, scalars_of_text, PlainItem, PlainInitializer, not_initialized, single, copied, listed, PlainStatement, statement, PlainStatementForm, set, update, copy, evaluate as expression, asserts, declare, declare_static, block, if_then, if_else, loop, switch, break, continue, return, empty, mark, PlainStatements, no_statements, more_statements, PlainVariable, PlainFunction, PlainProgram}
use Rattle.p10_core.specs.Nodes.{PlainNode, a_statement, nodes_of_value, nodes_of_place, nodes_of_maybe, nodes_of_written, nodes_of_items, nodes_of_initializer, in_loop_order, nodes_of_statement, nodes_in_statement_form, nodes_of_statements}
use Rattle.p10_core.specs.Whole.{SeenVariable, Surroundings, IsWholeValue, IsWholePlace}
use Rattle.p10_core.specs.WholePrograms.{is_among, seen_variable, is_declaration, switch_items, Region, surroundings_of, around, after_all, IsWholeWritten, width_of_written, AreWholeItems, IsWholeInitializer, Updates, IsMaybeTest, IsWholeStatement, IsWholeStatementForm, AreWholeStatements, IsWholeVariable, IsWholeFunction, IsWholeProgram}
use Rattle.p10_meaning.specs.declared.pointers.Ptr.{Ptr}
use Rattle.p10_meaning.specs.declared.pointers.Scalar.{Scalar}
use Rattle.p10_meaning.specs.declared.pointers.Cell.{Cell}
use Rattle.p10_meaning.specs.Pointers.{unset, holding, first_of}
use Rattle.p10_meaning.specs.Objects.{Object, declared, write_at}
use Rattle.p10_meaning.specs.States.{State, Progress}
use Rattle.p10_meaning.specs.Scalars.{number_of, is_true, converted_to, operated, unset_cells}
use Rattle.p10_meaning.specs.Values.{Calls, Setting, Held, holds, stands, scalars, width, open_object, Target, Variable, Sensor, Element, pointer_to, read_target, asserted, evaluate, discard, locate}
use Rattle.p10_meaning.specs.Statements.{Frame, Flow, normal, broken, continued, returned, Done, go_on, holding_at, in_block, write_target, part_of, write_part, copy_scalars, text_scalars, written_scalars, listed_scalars, listed_scalar, fill, initialize, declare_variable, test, next_turn, turns, loop_by, before_third, labelled, from_label, after_switch, execute, execute_form, execute_from, enter, enter_form, round, looped}
use Rattle.p10_meaning.specs.Variables.{OnGiven}
use Rattle.p10_meaning.specs.Sound.{Kind, single_of, Fits, AllFit, kind_scalars, Sound, FrameFits, Grows, Keeps, KeepSound, FlowFits, DoneFits}
use Rattle.p10_meaning.proofs.Geometry.{IsLaidOut}
use Rattle.p10_meaning.proofs.LaidOut.{AreScalar, scalars_scalar}
use Rattle.p10_meaning.proofs.Moves.{scalars_are}
use Rattle.p10_meaning.proofs.Fitting.{grown, get_last, fits_grown, frame_grown, frame_set, sound_push, all_unset, fits_same, bare_unqualified}
use Rattle.p10_meaning.proofs.SoundUpdates.{binary_row_is, left_fits}
use Rattle.p10_meaning.proofs.Keeping.{kept, keeps_then}
use Rattle.p10_meaning.proofs.SoundParts.{TargetFits, read_keeps}
use Rattle.p10_meaning.proofs.SoundValues.{evaluate_keeps, locate_keeps}
use Rattle.p10_meaning.proofs.SoundStatements.{AreFew, scope_after, scope_after_all, seen_by, seen, test_keeps, after_is, after_all_is, execute_keeps, from_keeps}
use Rattle.p10_stop_laws.specs.Causes.{Accessing, Writing, OperatorStops, assigns, reads_first, updates, writes_back, copies_from, copies_to, initializes_from, StopsWhere}
use Rattle.p10_stop_laws.proofs.Among.{AllIn, all_front, all_back}
use Rattle.p10_stop_laws.proofs.Alive.{Alive, alive_part, Safe, new_safe, value_safe, place_safe, items_safe, part_written, first_written}
use Rattle.p10_stop_laws.proofs.Ending.{stops_step, stops_on, stops_then, stops_with, stops_kept, stops_or, stops_if}
use Rattle.p10_stop_laws.proofs.Present.{IsThere, AreThere, Stay, stay_same, there_after, scope_put, room, on_step, on_if, given_weaker, given_then, IfNormal, if_normal, same_scope, NoneSkipped, none_skipped, initialize_stays, statement_stays, round_stays}
use Rattle.p10_stop_laws.proofs.Pointing.{part_stops, write_stops, write_part_stops}
use Rattle.p10_stop_laws.proofs.Shapes.{binary_shape, right_scalar}
use Rattle.p10_stop_laws.proofs.Operated.{update_stops}
use Rattle.p10_stop_laws.proofs.Giving.{alike_scalar, unmarked_scalar, of_scalar}
use Rattle.p10_stop_laws.proofs.Values.{Found, found, CallsStop, target_stops, value_stops, discard_stops, place_stops}

-- ## Writing

written_stops : (P : Stop → Span → Type 0) (span : Span) (target : Target) (cell : Cell) (frame : Frame) (w : State) → ((stop : Stop) → Writing stop → P stop span) → StopsWhere P (write_target span target cell frame w)
written_stops P span (Variable k) cell frame w h = tt
written_stops P span Sensor cell frame w h = tt
written_stops P span (Element q) cell frame w h = stops_or P (write_at w.objects q cell) span w _ (λ stop e. h stop (write_stops w.objects q cell stop e)) (λ objects e. tt)

copied_stops : (P : Stop → Span → Type 0) (m i : ℕ) (to_span : Span) (to : Ptr) (from_span : Span) (from : Ptr) (frame : Frame) (w : State) → ((stop : Stop) → Writing stop → P stop to_span) → ((stop : Stop) → Accessing stop → P stop from_span) →
    StopsWhere P (copy_scalars m i to_span to from_span from frame w)
copied_stops P zero i to_span to from_span from frame w h k = tt
copied_stops P (suc m) i to_span to from_span from frame w h k = stops_step P w _ (λ left.
    stops_or P (part_of w.objects from i) from_span (record w { left = left }) _ (λ stop e. k stop (part_stops w.objects from i stop e)) (λ cell e.
    stops_or P (write_part w.objects to i cell) to_span (record w { left = left }) _ (λ stop e. h stop (write_part_stops w.objects to i cell stop e)) (λ objects e.
    copied_stops P m (suc i) to_span to from_span from frame (record w { left = left; objects = objects }) h k)))

-- what is declared is written without a stop
copied_never : (P : Stop → Span → Type 0) (o m n i : ℕ) (to_span from_span : Span) (from : Ptr) (frame : Frame) (w : State) → i + n ≡ m → Alive o m w.objects → ((stop : Stop) → Accessing stop → P stop from_span) →
    StopsWhere P (copy_scalars n i to_span (first_of o m 1) from_span from frame w)
copied_never P o m zero i to_span from_span from frame w l a k = tt
copied_never P o m (suc n) i to_span from_span from frame w l a k = stops_step P w _ (λ left.
    stops_or P (part_of w.objects from i) from_span (record w { left = left }) _ (λ stop e. k stop (part_stops w.objects from i stop e)) (λ cell e.
    stops_or P (write_part w.objects (first_of o m 1) i cell) to_span (record w { left = left }) _ (λ stop e. absurd (part_written o m i cell w.objects (omega (arith, l)) a stop e)) (λ objects e.
    copied_never P o m n (suc i) to_span from_span from frame (record w { left = left; objects = objects }) (omega (arith, l)) (alive_part o m (first_of o m 1) i cell w.objects objects e a) k)))

filled_never : (P : Stop → Span → Type 0) (o m : ℕ) (span : Span) (xs : List (ℕ × Scalar)) (ts : List PlainType) (i : ℕ) (frame : Frame) (w : State) → i + length ts ≡ m → Alive o m w.objects → StopsWhere P (fill span xs ts i (first_of o m 1) frame w)
filled_never P o m span xs [] i frame w l a = tt
filled_never P o m span xs (t ∷ ts) i frame w l a = stops_step P w _ (λ left.
    stops_or P (write_part w.objects (first_of o m 1) i (holding (listed_scalar i t xs))) span (record w { left = left }) _
    (λ stop e. absurd (part_written o m i (holding (listed_scalar i t xs)) w.objects (omega (arith, l)) a stop e)) (λ objects e.
    filled_never P o m span xs ts (suc i) frame (record w { left = left; objects = objects }) (omega (arith, l)) (alive_part o m (first_of o m 1) i (holding (listed_scalar i t xs)) w.objects objects e a)))

first_never : (P : Stop → Span → Type 0) (o m : ℕ) (span : Span) (cell : Cell) (frame : Frame) (w : State) → 0 < m → Alive o m w.objects → StopsWhere P (write_target span (Element (first_of o m 1)) cell frame w)
first_never P o m span cell frame w l a = stops_or P (write_at w.objects (first_of o m 1) cell) span w _ (λ stop e. absurd (first_written o m cell w.objects l a stop e)) (λ objects e. tt)

-- each of a list has what all have
all_get : {A : Type 0} (P : A → Type 0) (xs : List A) (k : ℕ) (x : A) → All P xs → slice_get xs k ≡ Some x → P x
all_get P [] k x h e = absurd (none-some _ e)
all_get P (y ∷ xs) zero x h e = subst P (same_Some _ _ e) (All-head P y xs h)
all_get P (y ∷ xs) (suc k) x h e = all_get P xs k x (All-tail P y xs h) e

-- ## Listed values are scalars

get_drop : {A : Type 0} (xs : List A) (i : ℕ) (x : A) → slice_get (drop i xs) 0 ≡ Some x → slice_get xs i ≡ Some x
get_drop [] zero x e = e
get_drop [] (suc i) x e = absurd (none-some _ e)
get_drop (y ∷ xs) zero x e = e
get_drop (y ∷ xs) (suc i) x e = get_drop xs i x e

scalar_there : (ts : List PlainType) (i : ℕ) (t : PlainType) → AreScalar ts → slice_get ts i ≡ Some t → is_scalar t ≡ true
scalar_there [] i t f e = absurd (none-some _ e)
scalar_there (u ∷ ts) zero t f e = subst (λ t. is_scalar t ≡ true) (same_Some _ _ e) f.0
scalar_there (u ∷ ts) (suc i) t f e = scalar_there ts i t f.1 e

-- ## The nodes of a loop's parts

pub record LoopIn (In : PlainNode → Type 0) (first : PlainStatements) (tested : Option PlainValue) (third : PlainStatements) (body : PlainStatement) : Type 0 where
  pub first_in : AllIn In (nodes_of_statements first)
  pub test_in : AllIn In (nodes_of_maybe tested)
  pub third_in : AllIn In (nodes_of_statements third)
  pub body_in : AllIn In (nodes_of_statement body)

before_body : (In : PlainNode → Type 0) (first : PlainStatements) (tested : Option PlainValue) (third : PlainStatements) (body : PlainStatement) →
    AllIn In (nodes_of_statements first ++ (nodes_of_maybe tested ++ (nodes_of_statements third ++ nodes_of_statement body))) → LoopIn In first tested third body
before_body In first tested third body m =
    let rest = all_back In (nodes_of_statements first) (nodes_of_maybe tested ++ (nodes_of_statements third ++ nodes_of_statement body)) m in
    let last = all_back In (nodes_of_maybe tested) (nodes_of_statements third ++ nodes_of_statement body) rest in
    record {
      first_in = all_front In (nodes_of_statements first) (nodes_of_maybe tested ++ (nodes_of_statements third ++ nodes_of_statement body)) m;
      test_in = all_front In (nodes_of_maybe tested) (nodes_of_statements third ++ nodes_of_statement body) rest;
      third_in = all_front In (nodes_of_statements third) (nodes_of_statement body) last;
      body_in = all_back In (nodes_of_statements third) (nodes_of_statement body) last;
    }

after_body : (In : PlainNode → Type 0) (first : PlainStatements) (tested : Option PlainValue) (third : PlainStatements) (body : PlainStatement) →
    AllIn In (nodes_of_statements first ++ (nodes_of_statement body ++ (nodes_of_maybe tested ++ nodes_of_statements third))) → LoopIn In first tested third body
after_body In first tested third body m =
    let rest = all_back In (nodes_of_statements first) (nodes_of_statement body ++ (nodes_of_maybe tested ++ nodes_of_statements third)) m in
    let last = all_back In (nodes_of_statement body) (nodes_of_maybe tested ++ nodes_of_statements third) rest in
    record {
      first_in = all_front In (nodes_of_statements first) (nodes_of_statement body ++ (nodes_of_maybe tested ++ nodes_of_statements third)) m;
      test_in = all_front In (nodes_of_maybe tested) (nodes_of_statements third) last;
      third_in = all_back In (nodes_of_maybe tested) (nodes_of_statements third) last;
      body_in = all_front In (nodes_of_statement body) (nodes_of_maybe tested ++ nodes_of_statements third) rest;
    }

pub loop_in : (In : PlainNode → Type 0) (keyword : LoopKeyword) (first : PlainStatements) (tested : Option PlainValue) (third : PlainStatements) (body : PlainStatement) →
    AllIn In (in_loop_order keyword (nodes_of_statements first) (nodes_of_maybe tested) (nodes_of_statements third) (nodes_of_statement body)) → LoopIn In first tested third body
loop_in In While first tested third body m = before_body In first tested third body m
loop_in In For first tested third body m = before_body In first tested third body m
loop_in In Do first tested third body m = after_body In first tested third body m

-- ## Statements

module _ (p : PlainProgram) (out : IsLaidOut p) (whole : IsWholeProgram p) (calls : Calls) (meaning : KeepSound p calls) (n : ℕ) (number : ℕ) (f : PlainFunction) (few : AreFew p f.variables) (function : IsWholeFunction p number f) (In : PlainNode → Type 0) (called : CallsStop p calls In) where
  abbrev s : Setting
  s = record { program = p; variables = f.variables; call = calls; turns = n }

  abbrev by : List ℕ → ℕ → Option SeenVariable
  by scope = seen_by p out whole calls meaning n number f few scope

  abbrev c : List ℕ → Surroundings
  c scope = record (surroundings_of p) { variable_at = by scope }

  abbrev P : Stop → Span → Type 0
  P = Found In

  abbrev Fine : List Kind → Done → Type 0
  Fine = DoneFits p f.variables f.result

  abbrev FrameAt : List Kind → Frame → Type 0
  FrameAt ks frame = FrameFits p ks f.variables frame.held

  -- where something stands for each variable in scope
  abbrev RunStops : List ℕ → (Frame → State → Progress Done) → Type 0
  RunStops scope run = (frame : Frame) (w : State) (ks : List Kind) → Sound p ks w → FrameAt ks frame → AreThere scope frame.held → StopsWhere P (run frame w)

  abbrev RunKeeps : (Frame → State → Progress Done) → Type 0
  RunKeeps run = (frame : Frame) (w : State) (ks : List Kind) → Sound p ks w → FrameAt ks frame → Keeps p ks Fine (run frame w)

  abbrev TestStops : List ℕ → (Frame → State → Progress Bool) → Type 0
  TestStops scope run = (frame : Frame) (w : State) (ks : List Kind) → Sound p ks w → FrameAt ks frame → AreThere scope frame.held → StopsWhere P (run frame w)

  -- a piece leaves what stands for variables there
  abbrev RunStays : (Frame → State → Progress Done) → Type 0
  RunStays run = (frame : Frame) (w : State) → OnGiven (λ (d : Done). Stay frame.held d.frame.held) (run frame w)

  abbrev TestKeeps : (Frame → State → Progress Bool) → Type 0
  TestKeeps run = (frame : Frame) (w : State) (ks : List Kind) → Sound p ks w → FrameAt ks frame → Keeps p ks (λ ks b. Unit {0}) (run frame w)

  later : (ks js : List Kind) (frame : Frame) → Grows ks js → FrameAt ks frame → FrameAt js frame
  later ks js frame g h = frame_grown p ks js f.variables frame.held g h

  value_keeps : (scope : List ℕ) (v : PlainValue) → IsWholeValue (c scope) v → (frame : Frame) (w : State) (ks : List Kind) → Sound p ks w → FrameAt ks frame → Keeps p ks (λ ks. Fits p ks (type_of v)) (evaluate s frame.held v w)
  value_keeps scope v i frame w ks so h = evaluate_keeps p out whole calls meaning n f.variables (by scope) (seen p out whole calls meaning n number f few scope) frame.held v i w ks so h

  place_keeps : (scope : List ℕ) (q : PlainPlace) → IsWholePlace (c scope) q → (frame : Frame) (w : State) (ks : List Kind) → Sound p ks w → FrameAt ks frame → Keeps p ks (TargetFits p f.variables (place_type q)) (locate s frame.held q w)
  place_keeps scope q i frame w ks so h = locate_keeps p out whole calls meaning n f.variables (by scope) (seen p out whole calls meaning n number f few scope) frame.held q i w ks so h

  by_there : (scope : List ℕ) (held : List Held) → AreThere scope held → (k : ℕ) (v : SeenVariable) → by scope k ≡ Some v → IsThere (slice_get held k)
  by_there scope held r k v e = by_among (is_among k scope) refl e
    where
      by_among : (b : Bool) → is_among k scope ≡ b → cond b (option_map seen_variable (slice_get f.variables k)) None ≡ Some v → IsThere (slice_get held k)
      by_among true m e = r.each k m
      by_among false m e = absurd (none-some _ e)

  value_stop : (scope : List ℕ) (v : PlainValue) → IsWholeValue (c scope) v → is_scalar (type_of v) ≡ true → AllIn In (nodes_of_value v) → (frame : Frame) (w : State) (ks : List Kind) → Sound p ks w → FrameAt ks frame → AreThere scope frame.held →
      StopsWhere P (evaluate s frame.held v w)
  value_stop scope v i sc m frame w ks so h r =
      value_stops p out whole calls meaning n f.variables (by scope) (seen p out whole calls meaning n number f few scope) frame.held (by_there scope frame.held r) In called v i sc m w ks so h

  place_stop : (scope : List ℕ) (q : PlainPlace) → IsWholePlace (c scope) q → AllIn In (nodes_of_place q) → (frame : Frame) (w : State) (ks : List Kind) → Sound p ks w → FrameAt ks frame → AreThere scope frame.held →
      StopsWhere P (locate s frame.held q w)
  place_stop scope q i m frame w ks so h r =
      place_stops p out whole calls meaning n f.variables (by scope) (seen p out whole calls meaning n number f few scope) frame.held (by_there scope frame.held r) In called q i m w ks so h

  go_stops : (scope : List ℕ) (rest : Frame → State → Progress Done) → RunStops scope rest → (d : Done) (w : State) (ks : List Kind) → Sound p ks w → Fine ks d → IfNormal d.flow (AreThere scope d.frame.held) → StopsWhere P (go_on d.flow d.frame w rest)
  go_stops scope rest k d w ks so h r = by_flow d.flow r
    where
      by_flow : (flow : Flow) → IfNormal flow (AreThere scope d.frame.held) → StopsWhere P (go_on flow d.frame w rest)
      by_flow normal r = k d.frame w ks so h.frame r
      by_flow broken r = tt
      by_flow continued r = tt
      by_flow (returned x) r = tt

  block_stops : (scope : List ℕ) (run : Frame → State → Progress Done) → RunStops scope run → RunStops scope (in_block run)
  block_stops scope run k frame w ks so h r = stops_on P (run (record frame { opened = [] }) w) _ (k (record frame { opened = [] }) w ks so h r) (λ d w. tt)

  -- ## Initialisers

  item_keeps : (scope : List ℕ) (ts : List PlainType) (i : ℕ) (written : PlainWritten) → IsWholeWritten (c scope) (drop i ts) written → (frame : Frame) (w : State) (ks : List Kind) → Sound p ks w → FrameAt ks frame →
      Keeps p ks (λ ks xs. Unit {0}) (written_scalars s frame.held i written w)
  item_keeps scope ts i (one_scalar v) iw frame w ks so h =
      keeps_then p ks (λ ks. Fits p ks (type_of v)) (λ ks xs. Unit {0}) (evaluate s frame.held v w) _ (value_keeps scope v iw.whole frame w ks so h) (λ x w js so g fx.
      let one : List (ℕ × Scalar) = (i, x) ∷ [] in kept p js (λ ks xs. Unit {0}) one w so tt)
  item_keeps scope ts i (scalars_of_text bytes) iw frame w ks so h = kept p ks (λ ks xs. Unit {0}) (text_scalars i bytes) w so tt

  item_stops : (scope : List ℕ) (ts : List PlainType) (i : ℕ) (written : PlainWritten) → AreScalar ts → IsWholeWritten (c scope) (drop i ts) written → AllIn In (nodes_of_written written) → (frame : Frame) (w : State) (ks : List Kind) → Sound p ks w → FrameAt ks frame →
      AreThere scope frame.held → StopsWhere P (written_scalars s frame.held i written w)
  item_stops scope ts i (one_scalar v) scalar iw m frame w ks so h r =
      let sc : is_scalar (bare p.structures (type_of v)) ≡ true = scalar_there ts i (bare p.structures (type_of v)) scalar (get_drop ts i _ iw.type_is) in
      stops_on P (evaluate s frame.held v w) _ (value_stop scope v iw.whole (alike_scalar p.structures (type_of v) (bare p.structures (type_of v)) (sym (out.bare_again (type_of v))) sc) m frame w ks so h r) (λ x w. tt)
  item_stops scope ts i (scalars_of_text bytes) scalar iw m frame w ks so h r = tt

  items_stop : (scope : List ℕ) (ts : List PlainType) (from : ℕ) (items : List PlainItem) → AreScalar ts → AreWholeItems (c scope) ts from items → AllIn In (nodes_of_items items) → (frame : Frame) (w : State) (ks : List Kind) → Sound p ks w → FrameAt ks frame →
      AreThere scope frame.held → StopsWhere P (listed_scalars s frame.held items w)
  items_stop scope ts from [] scalar i m frame w ks so h r = tt
  items_stop scope ts from (item ∷ items) scalar i m frame w ks so h r =
      stops_then p ks (λ ks xs. Unit {0}) P (written_scalars s frame.held item.scalar item.written w) _ (item_keeps scope ts item.scalar item.written i.1 frame w ks so h)
      (item_stops scope ts item.scalar item.written scalar i.1 (all_front In (nodes_of_written item.written) (nodes_of_items items) m) frame w ks so h r) (λ xs w js so g _.
      stops_on P (listed_scalars s frame.held items w) _
      (items_stop scope ts (item.scalar + width_of_written item.written) items scalar i.2 (all_back In (nodes_of_written item.written) (nodes_of_items items) m) frame w js so (later ks js frame g h) r) (λ ys w. tt))

  -- a frame variable, which is a scalar
  variable_initialized : (scope : List ℕ) (at : At) (k : ℕ) (t : PlainType) (initializer : PlainInitializer) → IsWholeInitializer (c scope) t initializer → is_scalar t ≡ true → AllIn In (nodes_of_initializer initializer) →
      (frame : Frame) (w : State) (ks : List Kind) → Sound p ks w → FrameAt ks frame → AreThere scope frame.held → StopsWhere P (initialize s at.span t (Variable k) initializer frame w)
  variable_initialized scope at k t not_initialized i sc m frame w ks so h r = tt
  variable_initialized scope at k t (single v) i sc m frame w ks so h r =
      stops_on P (evaluate s frame.held v w) _ (value_stop scope v i.whole (of_scalar (type_of v) (unqualified t) i.type_is (unmarked_scalar t i.scalar)) m frame w ks so h r) (λ x w. tt)
  variable_initialized scope at k t (copied q) i sc m frame w ks so h r =
      let no : is_scalar (structure false i.number) ≡ true = subst (λ t. is_scalar t ≡ true) i.target_is (unmarked_scalar t sc) in absurd cc
  variable_initialized scope at k t (listed tree items) i sc m frame w ks so h r = let no : true ≡ false = sym sc ∙ i.aggregate in absurd cc

  -- an object that was opened just before
  object_initialized : (scope : List ℕ) (at : At) (k : ℕ) (t : PlainType) (o : ℕ) (initializer : PlainInitializer) → IsWholeInitializer (c scope) t initializer → In (a_statement (statement at (declare k initializer))) → AllIn In (nodes_of_initializer initializer) →
      (frame : Frame) (w : State) (ks : List Kind) → Sound p ks w → FrameAt ks frame → AreThere scope frame.held → Safe o (width p t) w → StopsWhere P (initialize s at.span t (Element (first_of o (width p t) 1)) initializer frame w)
  object_initialized scope at k t o not_initialized i here m frame w ks so h r a = tt
  object_initialized scope at k t o (single v) i here m frame w ks so h r a =
      let one : width p t ≡ 1 = ap (λ (ts : List PlainType). length ts) (scalars_are p out t i.scalar) in
      stops_kept P (Safe o (width p t)) (evaluate s frame.held v w) _ (value_safe s o (width p t) (called.keep o (width p t)) frame.held v w a)
      (value_stop scope v i.whole (of_scalar (type_of v) (unqualified t) i.type_is (unmarked_scalar t i.scalar)) m frame w ks so h r) (λ x w a.
      first_never P o (width p t) at.span (holding x) frame w (omega (arith, one)) a.alive)
  object_initialized scope at k t o (copied q) i here m frame w ks so h r a = stops_step P w _ (λ left.
      stops_kept P (Safe o (width p t)) (locate s frame.held q (record w { left = left })) _ (place_safe s o (width p t) (called.keep o (width p t)) frame.held q (record w { left = left }) (record { before = a.before; alive = a.alive }))
      (place_stop scope q i.whole m frame (record w { left = left }) ks so h r) (λ source w a.
      copied_never P o (width p t) (width p t) 0 at.span (place_at q).span (pointer_to source) frame w (omega (arith)) a.alive (λ stop r. found In _ stop (place_at q).span here (initializes_from at k q stop r))))
  object_initialized scope at k t o (listed tree items) i here m frame w ks so h r a =
      stops_kept P (Safe o (width p t)) (listed_scalars s frame.held items w) _ (items_safe s o (width p t) (called.keep o (width p t)) frame.held items w a)
      (items_stop scope (scalars_of p.structures t) 0 items (scalars_scalar p.structures t) i.whole m frame w ks so h r) (λ xs w a.
      filled_never P o (width p t) at.span xs (scalars p t) 0 frame w (omega (arith)) a.alive)

  -- a variable that is declared is there
  declared_there : (scope : List ℕ) (at : At) (k : ℕ) (initializer : PlainInitializer) (v : PlainVariable) → slice_get f.variables k ≡ Some v → (frame : Frame) (w : State) (ks : List Kind) → FrameAt ks frame → AreThere scope frame.held →
      OnGiven (λ (d : Done). AreThere (k ∷ scope) d.frame.held) (declare_variable s at.span k (Some v) initializer frame w)
  declared_there scope at k initializer v there frame w ks h r =
      let old : (x : Held) × (slice_get frame.held k ≡ Some x) = room p ks f.variables frame.held k v h there in
      on_if (λ (d : Done). AreThere (k ∷ scope) d.frame.held) v.frame _ _
      (kept_there (slice_set frame.held k (holds unset)) _ (scope_put scope frame.held k old.0 (holds unset) old.1 tt r)
      (initialize_stays s (slice_set frame.held k (holds unset)) at.span v.type (Variable k) initializer (holding_at frame k (holds unset)) w (stay_same (slice_set frame.held k (holds unset)))))
      (kept_there (slice_set frame.held k (stands w.opened)) _ (scope_put scope frame.held k old.0 (stands w.opened) old.1 tt r)
      (initialize_stays s (slice_set frame.held k (stands w.opened)) at.span v.type (Element (first_of w.opened (width p v.type) 1)) initializer (record { held = slice_set frame.held k (stands w.opened); opened = w.opened ∷ frame.opened })
      (open_object declared (unset_cells (scalars p v.type)) w) (stay_same (slice_set frame.held k (stands w.opened)))))
    where
      kept_there : (held : List Held) (o : Progress Done) → AreThere (k ∷ scope) held → OnGiven (λ (d : Done). Stay held d.frame.held) o → OnGiven (λ (d : Done). AreThere (k ∷ scope) d.frame.held) o
      kept_there held o r t = given_weaker (λ (d : Done). Stay held d.frame.held) (λ (d : Done). AreThere (k ∷ scope) d.frame.held) o (λ d t. there_after (k ∷ scope) held d.frame.held t r) t

  declare_stops : (scope : List ℕ) (at : At) (k : ℕ) (initializer : PlainInitializer) (v : PlainVariable) → slice_get f.variables k ≡ Some v → IsWholeInitializer (c (k ∷ scope)) v.type initializer → In (a_statement (statement at (declare k initializer))) →
      AllIn In (nodes_of_initializer initializer) → (frame : Frame) (w : State) (ks : List Kind) → Sound p ks w → FrameAt ks frame → AreThere scope frame.held → StopsWhere P (declare_variable s at.span k (Some v) initializer frame w)
  declare_stops scope at k initializer v there i here m frame w ks so h r =
      let old : (x : Held) × (slice_get frame.held k ≡ Some x) = room p ks f.variables frame.held k v h there in
      let kind : Kind = single_of p v.type in
      let js : List Kind = ks ++ kind ∷ [] in
      let opened : State = open_object declared (unset_cells (scalars p v.type)) w in
      let is_there : slice_get js w.opened ≡ Some kind = subst (λ m. slice_get js m ≡ Some kind) so.count (get_last ks kind) in
      let next : Frame = record { held = slice_set frame.held k (stands w.opened); opened = w.opened ∷ frame.opened } in
      stops_if P v.frame _ _
      (λ e. variable_initialized (k ∷ scope) at k v.type initializer i ((all_get (IsWholeVariable p.structures) f.variables k v function.variables there).frame_scalar e) m (holding_at frame k (holds unset)) w ks so (frame_set p ks f.variables frame.held k v (holds unset) h there tt)
      (scope_put scope frame.held k old.0 (holds unset) old.1 tt r))
      (λ e. object_initialized (k ∷ scope) at k v.type w.opened initializer i here m next opened js
      (sound_push p ks w.objects w.opened w.input w.sensors kind declared (unset_cells (scalars p v.type)) so (few.few k v there) (unset_single js v.type))
      (frame_set p js f.variables frame.held k v (stands w.opened) (frame_grown p ks js f.variables frame.held (grown ks kind) h) there is_there)
      (scope_put scope frame.held k old.0 (stands w.opened) old.1 tt r)
      (subst (λ m. Safe w.opened m opened) (unset_count (scalars p v.type)) (new_safe p ks w (unset_cells (scalars p v.type)) so)))
    where
      unset_count : (ts : List PlainType) → length (unset_cells ts) ≡ length ts
      unset_count [] = refl
      unset_count (t ∷ ts) = ap suc (unset_count ts)

      one_list : (ts : List PlainType) → ts ≡ ts ++ []
      one_list [] = refl
      one_list (t ∷ ts) = ap (λ ts. t ∷ ts) (one_list ts)

      unset_single : (js : List Kind) (t : PlainType) → AllFit p js (kind_scalars p (single_of p t)) (unset_cells (scalars p t))
      unset_single js t = subst (λ ts. AllFit p js ts (unset_cells (scalars p t))) (one_list (scalars p t)) (all_unset p js (scalars p t))

  -- ## Loops

  pub test_stops : (scope : List ℕ) (tested : Option PlainValue) → IsMaybeTest (c scope) tested → AllIn In (nodes_of_maybe tested) → TestStops scope (test s tested)
  test_stops scope None i m frame w ks so h r = stops_step P w _ (λ left. tt)
  test_stops scope (Some v) i m frame w ks so h r = stops_on P (evaluate s frame.held v w) _ (value_stop scope v i.whole i.scalar m frame w ks so h r) (λ x w. tt)

  next_stops : (scope : List ℕ) (go : Frame → State → Progress Done) → RunStops scope go → (d : Done) (w : State) (ks : List Kind) → Sound p ks w → Fine ks d → AreThere scope d.frame.held → StopsWhere P (next_turn d.flow d.frame w go)
  next_stops scope go k d w ks so h r = by_flow d.flow
    where
      by_flow : (flow : Flow) → StopsWhere P (next_turn flow d.frame w go)
      by_flow normal = k d.frame w ks so h.frame r
      by_flow continued = k d.frame w ks so h.frame r
      by_flow broken = tt
      by_flow (returned x) = tt

  third_stops : (scope : List ℕ) (third : Frame → State → Progress Done) → RunStops scope third → (d : Done) (w : State) (ks : List Kind) → Sound p ks w → Fine ks d → AreThere scope d.frame.held → StopsWhere P (before_third d.flow d.frame w third)
  third_stops scope third k d w ks so h r = by_flow d.flow
    where
      by_flow : (flow : Flow) → StopsWhere P (before_third flow d.frame w third)
      by_flow normal = k d.frame w ks so h.frame r
      by_flow continued = k d.frame w ks so h.frame r
      by_flow broken = tt
      by_flow (returned x) = tt

  third_keeps : (third : Frame → State → Progress Done) → RunKeeps third → (d : Done) (w : State) (ks : List Kind) → Sound p ks w → Fine ks d → Keeps p ks Fine (before_third d.flow d.frame w third)
  third_keeps third k d w ks so h = by_flow d.flow h.flow
    where
      by_flow : (flow : Flow) → FlowFits p f.result ks flow → Keeps p ks Fine (before_third flow d.frame w third)
      by_flow normal g = k d.frame w ks so h.frame
      by_flow continued g = k d.frame w ks so h.frame
      by_flow broken g = kept p ks Fine _ w so (record { frame = h.frame; flow = g })
      by_flow (returned x) g = kept p ks Fine _ w so (record { frame = h.frame; flow = g })

  turns_stop : (scope : List ℕ) (m : ℕ) (tested : Frame → State → Progress Bool) (body : Frame → State → Progress Done) → TestKeeps tested → TestStops scope tested → RunKeeps body → RunStays body → RunStops scope body → RunStops scope (turns m tested body)
  turns_stop scope zero tested body kt st kb yb sb frame w ks so h r = tt
  turns_stop scope (suc m) tested body kt st kb yb sb frame w ks so h r =
      stops_then p ks (λ ks b. Unit {0}) P (tested frame w) _ (kt frame w ks so h) (st frame w ks so h r) (λ more w js so g _.
      stops_if P more _ _
      (λ e. stops_with p js Fine (λ (d : Done). Stay frame.held d.frame.held) P (body frame w) _ (kb frame w js so (later ks js frame g h)) (yb frame w) (sb frame w js so (later ks js frame g h) r) (λ d w ls so g fits y.
      next_stops scope (turns m tested body) (turns_stop scope m tested body kt st kb yb sb) d w ls so fits (there_after scope frame.held d.frame.held y r)))
      (λ e. tt))

  loop_stops : (scope : List ℕ) (keyword : LoopKeyword) (m : ℕ) (tested : Frame → State → Progress Bool) (body : Frame → State → Progress Done) → TestKeeps tested → TestStops scope tested → RunKeeps body → RunStays body → RunStops scope body →
      RunStops scope (loop_by keyword m tested body)
  loop_stops scope While m tested body kt st kb yb sb frame w ks so h r = turns_stop scope m tested body kt st kb yb sb frame w ks so h r
  loop_stops scope For m tested body kt st kb yb sb frame w ks so h r = turns_stop scope m tested body kt st kb yb sb frame w ks so h r
  loop_stops scope Do m tested body kt st kb yb sb frame w ks so h r =
      stops_with p ks Fine (λ (d : Done). Stay frame.held d.frame.held) P (body frame w) _ (kb frame w ks so h) (yb frame w) (sb frame w ks so h r) (λ d w js so g fits y.
      next_stops scope (turns m tested body) (turns_stop scope m tested body kt st kb yb sb) d w js so fits (there_after scope frame.held d.frame.held y r))

  label_stops : (scope : List ℕ) (i : Option ℕ) (run : ℕ → Frame → State → Progress Done) → ((i : ℕ) → RunStops scope (run i)) → RunStops scope (from_label i run)
  label_stops scope None run k frame w ks so h r = tt
  label_stops scope (Some i) run k frame w ks so h r = block_stops scope (run i) (k i) frame w ks so h r

  -- ## Forms

  abbrev here : List ℕ → Bool → Bool → Region
  here scope in_loop in_switch = record { program = p; number = number; function = f; scope = scope; in_loop = in_loop; in_switch = in_switch }

  after_all_here : (xs : PlainStatements) (scope : List ℕ) (l b : Bool) → after_all (here scope l b) xs ≡ here (scope_after_all xs scope) l b
  after_all_here xs scope l b = after_all_is p out whole calls meaning n number f few xs scope l b

  executed : (x : PlainStatement) (scope : List ℕ) (l b : Bool) → IsWholeStatement (here scope l b) x → RunKeeps (execute s x)
  executed x scope l b i frame w ks so h = execute_keeps p out whole calls meaning n number f few x scope l b i frame w ks so h

  executed_from : (k : ℕ) (xs : PlainStatements) (scope : List ℕ) (l b : Bool) → AreWholeStatements (here scope l b) xs → RunKeeps (execute_from s k xs)
  executed_from k xs scope l b i frame w ks so h = from_keeps p out whole calls meaning n number f few k xs scope l b i frame w ks so h

  -- after an item something stands for each variable in scope
  item_there : (x : PlainStatement) (scope : List ℕ) (l b : Bool) → IsWholeStatement (here scope l b) x → (frame : Frame) (w : State) (ks : List Kind) → FrameAt ks frame → AreThere scope frame.held →
      OnGiven (λ (d : Done). AreThere (scope_after x scope) d.frame.held) (execute s x frame w)
  item_there (statement at (declare k initializer)) scope l b i frame w ks h r = on_step (λ (d : Done). AreThere (k ∷ scope) d.frame.held) w _ (λ w.
      subst (λ v. OnGiven (λ (d : Done). AreThere (k ∷ scope) d.frame.held) (declare_variable s at.span k v initializer frame w)) (sym i.there) (declared_there scope at k initializer i.variable i.there frame w ks h r))
  item_there (statement at form) scope l b i frame w ks h r =
      given_weaker (λ (d : Done). Stay frame.held d.frame.held) (λ (d : Done). AreThere scope d.frame.held) (execute s (statement at form) frame w) (λ d y. there_after scope frame.held d.frame.held y r)
      (statement_stays s frame.held (statement at form) frame w (stay_same frame.held))

  -- after items that all go on, too
  abbrev Reaches : List ℕ → Done → Type 0
  Reaches scope d = IfNormal d.flow (AreThere scope d.frame.held)

  go_there : (last scope : List ℕ) (rest : Frame → State → Progress Done) → ((frame : Frame) (w : State) (ks : List Kind) → Sound p ks w → FrameAt ks frame → AreThere scope frame.held → OnGiven (Reaches last) (rest frame w)) →
      (d : Done) (w : State) (ks : List Kind) → Sound p ks w → Fine ks d → AreThere scope d.frame.held → OnGiven (Reaches last) (go_on d.flow d.frame w rest)
  go_there last scope rest k d w ks so h r = by_flow d.flow
    where
      by_flow : (flow : Flow) → OnGiven (Reaches last) (go_on flow d.frame w rest)
      by_flow normal = k d.frame w ks so h.frame r
      by_flow broken = tt
      by_flow continued = tt
      by_flow (returned x) = tt

  pub items_there : (xs : PlainStatements) (scope : List ℕ) (l b : Bool) → AreWholeStatements (here scope l b) xs → (frame : Frame) (w : State) (ks : List Kind) → Sound p ks w → FrameAt ks frame → AreThere scope frame.held →
      OnGiven (Reaches (scope_after_all xs scope)) (execute_from s 0 xs frame w)
  items_there no_statements scope l b i frame w ks so h r = r
  items_there (more_statements x rest) scope l b i frame w ks so h r =
      given_then p ks Fine (λ (d : Done). AreThere (scope_after x scope) d.frame.held) (Reaches (scope_after_all rest (scope_after x scope))) (execute s x frame w) _
      (executed x scope l b i.0 frame w ks so h) (item_there x scope l b i.0 frame w ks h r) (λ d w js so g fits r.
      go_there (scope_after_all rest (scope_after x scope)) (scope_after x scope) (λ frame w. execute_from s 0 rest frame w)
      (items_there rest (scope_after x scope) l b (subst (λ r. AreWholeStatements r rest) (after_is p out whole calls meaning n number f few x scope l b) i.1)) d w js so fits r)

  -- `P op= e;`, and the places that it reads and writes
  update_stop : (at : At) (kind : UpdateKind) (op : BinOp) (t : PlainType) (q : PlainPlace) (v : PlainValue) (scope : List ℕ) → Updates (c scope) kind op t q v → AllIn In (nodes_of_statement (statement at (update kind op t q v))) →
      RunStops scope (execute_form s at (update kind op t q v))
  update_stop at kind op t q v scope i m frame w ks so h r = stops_step P w _ (λ left.
      let right : is_scalar (type_of v) ≡ true = of_scalar (type_of v) i.entry.right i.value_is (right_scalar op i.entry (binary_shape p.structures op false false (unqualified (place_type q)) i.right_type i.entry i.is)) in
      stops_then p ks (TargetFits p f.variables (place_type q)) P (locate s frame.held q (record w { left = left })) _ (place_keeps scope q i.place frame (record w { left = left }) ks so h)
      (place_stop scope q i.place (all_front In (nodes_of_place q) (nodes_of_value v) m.1) frame (record w { left = left }) ks so h r) (λ target w js so g ft.
      stops_step P w _ (λ left.
      stops_then p js (λ ks. Fits p ks (place_type q)) P (read_target (place_at q).span (place_type q) frame.held target (record w { left = left })) _
      (read_keeps p out js f.variables frame.held (place_at q).span (place_type q) target (record w { left = left }) i.scalar (later ks js frame g h) ft so)
      (target_stops P (place_at q).span (place_type q) frame.held target (record w { left = left }) (λ stop r. found In _ stop (place_at q).span m.0 (reads_first at kind op t q v stop r))) (λ x w ls so k fx.
      stops_then p ls (λ ks. Fits p ks (type_of v)) P (evaluate s frame.held v w) _ (value_keeps scope v i.value frame w ls so (later js ls frame k (later ks js frame g h)))
      (value_stop scope v i.value right (all_back In (nodes_of_place q) (nodes_of_value v) m.1) frame w ls so (later js ls frame k (later ks js frame g h)) r) (λ y w ms so o fy.
      stops_step P w _ (λ left.
      stops_or P (operated op t w.objects (converted_to t x) y) at.span (record w { left = left }) _
      (λ stop e. found In _ stop at.span m.0 (updates at kind op t q v stop (operator_stops w.objects ms x y (fits_grown p ls ms (place_type q) x o fx) fy stop e)))
      (λ z e. written_stops P (place_at q).span target (holding (converted_to (place_type q) z)) frame (record w { left = left }) (λ stop r. found In _ stop (place_at q).span m.0 (writes_back at kind op t q v stop r)))))))))
    where
      operator_stops : (objects : List Object) (ks : List Kind) (x y : Scalar) → Fits p ks (place_type q) x → Fits p ks (type_of v) y → (stop : Stop) → operated op t objects (converted_to t x) y ≡ Err stop → OperatorStops op t t (type_of v) stop
      operator_stops objects ks x y fx fy stop e =
          let u = unqualified (place_type q) in
          let row = binary_row_is p.structures op u i.right_type i.entry i.is in
          let read : Fits p ks u x = fits_same p ks (place_type q) u x (sym (bare_unqualified p.structures (place_type q))) fx in
          let at_row : OperatorStops op i.entry.left i.entry.left i.entry.right stop =
          update_stops p ks objects op u i.entry (binary_shape p.structures op false false u i.right_type i.entry i.is) row.kind i.result_fits (converted_to i.entry.left x) y stop
          (left_fits p ks u i.entry.left x row.left read) (subst (λ (t : PlainType). Fits p ks t y) i.value_is fy)
          (subst (λ (t : PlainType). operated op t objects (converted_to t x) y ≡ Err stop) i.type_is e) in
          subst (λ (t : PlainType). OperatorStops op t t (type_of v) stop) (sym i.type_is) (subst (λ (r : PlainType). OperatorStops op i.entry.left i.entry.left r stop) (sym i.value_is) at_row)

  mutual
    pub execute_stops : (x : PlainStatement) (scope : List ℕ) (l b : Bool) → IsWholeStatement (here scope l b) x → AllIn In (nodes_of_statement x) → RunStops scope (execute s x)
    execute_stops (statement at form) scope l b i m frame w ks so h r = form_stops at form scope l b i m frame w ks so h r

    form_stops : (at : At) (form : PlainStatementForm) (scope : List ℕ) (l b : Bool) → IsWholeStatementForm (here scope l b) form → AllIn In (a_statement (statement at form) ∷ nodes_in_statement_form form) → RunStops scope (execute_form s at form)
    form_stops at (declare k initializer) scope l b i m frame w ks so h r = stops_step P w _ (λ left.
        subst (λ v. StopsWhere P (declare_variable s at.span k v initializer frame (record w { left = left }))) (sym i.there)
        (declare_stops scope at k initializer i.variable i.there i.initializer m.0 m.1 frame (record w { left = left }) ks so h r))
    form_stops at (set q v) scope l b i m frame w ks so h r = stops_step P w _ (λ left.
        stops_then p ks (TargetFits p f.variables (place_type q)) P (locate s frame.held q (record w { left = left })) _ (place_keeps scope q i.place frame (record w { left = left }) ks so h)
        (place_stop scope q i.place (all_front In (nodes_of_place q) (nodes_of_value v) m.1) frame (record w { left = left }) ks so h r) (λ target w js so g ft.
        stops_on P (evaluate s frame.held v w) _
        (value_stop scope v i.value (of_scalar (type_of v) (unqualified (place_type q)) i.type_is (unmarked_scalar (place_type q) i.scalar)) (all_back In (nodes_of_place q) (nodes_of_value v) m.1) frame w js so (later ks js frame g h) r) (λ x w.
        written_stops P (place_at q).span target (holding x) frame w (λ stop r. found In _ stop (place_at q).span m.0 (assigns at q v stop r)))))
    form_stops at (update kind op t q v) scope l b i m frame w ks so h r = update_stop at kind op t q v scope i m frame w ks so h r
    form_stops at (copy q o) scope l b i m frame w ks so h r = stops_step P w _ (λ left.
        stops_then p ks (TargetFits p f.variables (place_type q)) P (locate s frame.held q (record w { left = left })) _ (place_keeps scope q i.target frame (record w { left = left }) ks so h)
        (place_stop scope q i.target (all_front In (nodes_of_place q) (nodes_of_place o) m.1) frame (record w { left = left }) ks so h r) (λ target w js so g ft.
        stops_on P (locate s frame.held o w) _ (place_stop scope o i.source.whole (all_back In (nodes_of_place q) (nodes_of_place o) m.1) frame w js so (later ks js frame g h) r) (λ source w.
        copied_stops P (width p (place_type q)) 0 (place_at q).span (pointer_to target) (place_at o).span (pointer_to source) frame w
        (λ stop e. found In _ stop (place_at q).span m.0 (copies_to at q o stop e)) (λ stop e. found In _ stop (place_at o).span m.0 (copies_from at q o stop e)))))
    form_stops at (asserts call v) scope l b i m frame w ks so h r = stops_step P w _ (λ left.
        stops_on P (evaluate s frame.held v (record w { left = left })) _ (value_stop scope v i.whole i.scalar m.1 frame (record w { left = left }) ks so h r) (λ x w.
        stops_on P (asserted call.span x w) _ (stops_if P (is_true x) _ _ (λ e. tt) (λ e. tt)) (λ none w. tt)))
    form_stops at (expression v) scope l b i m frame w ks so h r = stops_step P w _ (λ left.
        stops_on P (discard s frame.held v (record w { left = left })) _
        (discard_stops p out whole calls meaning n f.variables (by scope) (seen p out whole calls meaning n number f few scope) frame.held (by_there scope frame.held r) In called v i m.1 (record w { left = left }) ks so h) (λ x w. tt))
    form_stops at (if_then v x) scope l b i m frame w ks so h r = stops_step P w _ (λ left.
        stops_then p ks (λ ks. Fits p ks (type_of v)) P (evaluate s frame.held v (record w { left = left })) _ (value_keeps scope v i.0.whole frame (record w { left = left }) ks so h)
        (value_stop scope v i.0.whole i.0.scalar (all_front In (nodes_of_value v) (nodes_of_statement x) m.1) frame (record w { left = left }) ks so h r) (λ y w js so g fy.
        stops_if P (is_true y) _ _ (λ e. execute_stops x scope l b i.1 (all_back In (nodes_of_value v) (nodes_of_statement x) m.1) frame w js so (later ks js frame g h) r) (λ e. tt)))
    form_stops at (if_else v x z) scope l b i m frame w ks so h r = stops_step P w _ (λ left.
        let rest = all_back In (nodes_of_value v) (nodes_of_statement x ++ nodes_of_statement z) m.1 in
        stops_then p ks (λ ks. Fits p ks (type_of v)) P (evaluate s frame.held v (record w { left = left })) _ (value_keeps scope v i.0.whole frame (record w { left = left }) ks so h)
        (value_stop scope v i.0.whole i.0.scalar (all_front In (nodes_of_value v) (nodes_of_statement x ++ nodes_of_statement z) m.1) frame (record w { left = left }) ks so h r) (λ y w js so g fy.
        stops_if P (is_true y) _ _
        (λ e. execute_stops x scope l b i.1 (all_front In (nodes_of_statement x) (nodes_of_statement z) rest) frame w js so (later ks js frame g h) r)
        (λ e. execute_stops z scope l b i.2 (all_back In (nodes_of_statement x) (nodes_of_statement z) rest) frame w js so (later ks js frame g h) r)))
    form_stops at (loop head first tested third body) scope l b i m frame w ks so h r = stops_step P w _ (λ left.
        let parts : LoopIn In first tested third body = loop_in In head.keyword first tested third body m.1 in
        let inside : IsWholeStatement (here (scope_after_all first scope) true b) body = subst (λ (r : Region). IsWholeStatement (record r { in_loop = true }) body) (after_all_here first scope l b) i.3 in
        let third_whole : AreWholeStatements (here (scope_after_all first scope) l b) third = subst (λ r. AreWholeStatements r third) (after_all_here first scope l b) i.2 in
        let test_whole : IsMaybeTest (c (scope_after_all first scope)) tested = subst (λ r. IsMaybeTest (around r) tested) (after_all_here first scope l b) i.1 in
        let inner : List ℕ = scope_after_all first scope in
        block_stops scope (looped s head.keyword first tested third body) (λ frame w ks so h r.
        stops_with p ks Fine (Reaches inner) P (execute_from s 0 first frame w) _ (executed_from 0 first scope l b i.0 frame w ks so h) (items_there first scope l b i.0 frame w ks so h r)
        (from_stops 0 first scope l b i.0 tt parts.first_in frame w ks so h r) (λ d w js so g fits r.
        go_stops inner (λ frame w. loop_by head.keyword n (λ frame w. test s tested frame w) (round s third body) frame w)
        (loop_stops inner head.keyword n (λ frame w. test s tested frame w) (round s third body)
        (test_keeps p out whole calls meaning n number f few inner tested test_whole)
        (test_stops inner tested test_whole parts.test_in)
        (λ frame w ks so h. keeps_then p ks Fine Fine (execute s body frame w) _ (executed body inner true b inside frame w ks so h) (λ d w js so g fits.
        third_keeps (λ frame w. execute_from s 0 third frame w) (executed_from 0 third inner l b third_whole) d w js so fits))
        (λ frame w. round_stays s frame.held third body frame w (stay_same frame.held))
        (λ frame w ks so h r. stops_with p ks Fine (λ (d : Done). Stay frame.held d.frame.held) P (execute s body frame w) _ (executed body inner true b inside frame w ks so h)
        (statement_stays s frame.held body frame w (stay_same frame.held)) (execute_stops body inner true b inside parts.body_in frame w ks so h r) (λ d w js so g fits y.
        third_stops inner (λ frame w. execute_from s 0 third frame w) (from_stops 0 third inner l b third_whole tt parts.third_in) d w js so fits (there_after inner frame.held d.frame.held y r))))
        d w js so fits r)) frame (record w { left = left }) ks so h r)
    form_stops at (switch keyword v labels body) scope l b i m frame w ks so h r = stops_step P w _ (λ left.
        stops_then p ks (λ ks. Fits p ks (type_of v)) P (evaluate s frame.held v (record w { left = left })) _ (value_keeps scope v i.0.whole frame (record w { left = left }) ks so h)
        (value_stop scope v i.0.whole (of_scalar (type_of v) (integer false i.0.kind) i.0.type_is refl) (all_front In (nodes_of_value v) (nodes_of_statement body) m.1) frame (record w { left = left }) ks so h r) (λ x w js so g fx.
        stops_on P (enter s (labelled (number_of x) labels.cases labels.otherwise) body frame w) after_switch
        (enter_stops (labelled (number_of x) labels.cases labels.otherwise) body scope l true i.1 i.0.declares_nothing (all_back In (nodes_of_value v) (nodes_of_statement body) m.1) frame w js so (later ks js frame g h) r) (λ d w. tt)))
    form_stops at (return keyword None) scope l b i m frame w ks so h r = stops_step P w _ (λ left. tt)
    form_stops at (return keyword (Some v)) scope l b i m frame w ks so h r = stops_step P w _ (λ left.
        stops_on P (evaluate s frame.held v (record w { left = left })) _ (value_stop scope v i.0 (returned_scalar i.1 i.2) m.1 frame (record w { left = left }) ks so h r) (λ x w. tt))
      where
        returned_scalar : is_void f.result ≡ false → type_of v ≡ unqualified f.result → is_scalar (type_of v) ≡ true
        returned_scalar g e = elim function.result.scalar_or_none [ inl sc ↦ of_scalar (type_of v) (unqualified f.result) e (unmarked_scalar f.result sc) | inr none ↦ absurd cc ]
    form_stops at break scope l b i m frame w ks so h r = stops_step P w _ (λ left. tt)
    form_stops at continue scope l b i m frame w ks so h r = stops_step P w _ (λ left. tt)
    form_stops at empty scope l b i m frame w ks so h r = stops_step P w _ (λ left. tt)
    form_stops at (block xs) scope l b i m frame w ks so h r = block_stops scope (λ frame w. execute_from s 0 xs frame w) (from_stops 0 xs scope l b i tt m.1) frame w ks so h r
    form_stops at (declare_static k) scope l b i m frame w ks so h r = tt
    form_stops at (mark InitDone) scope l b i m frame w ks so h r = tt
    form_stops at (mark TaskLoop) scope l b i m frame w ks so h r = tt

    pub from_stops : (k : ℕ) (xs : PlainStatements) (scope : List ℕ) (l b : Bool) → AreWholeStatements (here scope l b) xs → NoneSkipped k xs → AllIn In (nodes_of_statements xs) → RunStops scope (execute_from s k xs)
    from_stops k no_statements scope l b i e m frame w ks so h r = tt
    from_stops zero (more_statements x rest) scope l b i e m frame w ks so h r =
        stops_with p ks Fine (λ (d : Done). AreThere (scope_after x scope) d.frame.held) P (execute s x frame w) _ (executed x scope l b i.0 frame w ks so h) (item_there x scope l b i.0 frame w ks h r)
        (execute_stops x scope l b i.0 (all_front In (nodes_of_statement x) (nodes_of_statements rest) m) frame w ks so h r) (λ d w js so g fits r.
        go_stops (scope_after x scope) (λ frame w. execute_from s zero rest frame w)
        (from_stops zero rest (scope_after x scope) l b (subst (λ r. AreWholeStatements r rest) (after_is p out whole calls meaning n number f few x scope l b) i.1) tt (all_back In (nodes_of_statement x) (nodes_of_statements rest) m)) d w js so fits
        (if_normal (AreThere (scope_after x scope) d.frame.held) d.flow r))
    from_stops (suc k) (more_statements x rest) scope l b i e m frame w ks so h r =
        from_stops k rest (scope_after x scope) l b (subst (λ r. AreWholeStatements r rest) (after_is p out whole calls meaning n number f few x scope l b) i.1) e.1 (all_back In (nodes_of_statement x) (nodes_of_statements rest) m) frame w ks so h
        (subst (λ scope. AreThere scope frame.held) (sym (same_scope x scope e.0)) r)

    enter_stops : (k : Option ℕ) (x : PlainStatement) (scope : List ℕ) (l b : Bool) → IsWholeStatement (here scope l b) x → All (λ x. is_declaration x ≡ false) (switch_items x) → AllIn In (nodes_of_statement x) → RunStops scope (enter s k x)
    enter_stops k (statement at form) scope l b i e m frame w ks so h r = enter_form_stops k at form scope l b i e m.1 frame w ks so h r

    enter_form_stops : (k : Option ℕ) (at : At) (form : PlainStatementForm) (scope : List ℕ) (l b : Bool) → IsWholeStatementForm (here scope l b) form → All (λ x. is_declaration x ≡ false) (switch_items (statement at form)) →
        AllIn In (nodes_in_statement_form form) → RunStops scope (enter_form s k form)
    enter_form_stops k at (block xs) scope l b i e m frame w ks so h r = label_stops scope k (λ k frame w. execute_from s k xs frame w) (λ k. from_stops k xs scope l b i (none_skipped k xs e) m) frame w ks so h r
    enter_form_stops k at form scope l b i e m frame w ks so h r = tt
