-- Execution keeps sound states, and frames that fit.
use Rattle.std.proofs.Common.{◌≡◌, ℕ, zero, suc, ◌+◌, ◌<◌, Bool, true, false, eqb, List, [], ◌∷◌, ◌++◌, length, drop, refl, sym, ◌∙◌, ap, subst, arith, Option, Some, None, slice_get, pos}
use Rattle.std.specs.Prelude.{slice_set, if◌then◌else◌}
use Rattle.std.specs.Option.{option_map}
use Rattle.std.proofs.lemmas.Bool.{cond_both, eqb-true}
use Rattle.std.proofs.lemmas.Option.{same_Some, none-some}
use Rattle.p10_base.specs.declared.span.Span.{Span}
use Rattle.p10_base.specs.declared.at.At.{At}
use Rattle.p10_core.specs.declared.statements.LoopKeyword.{LoopKeyword}
use Rattle.p10_core.specs.declared.statements.LoopKeyword.TheVariants.{While, Do, For}
use Rattle.p10_core.specs.declared.statements.MarkKind.TheVariants.{InitDone, TaskLoop}
use Rattle.p10_core.specs.Types.{PlainType, void, integer, pointer, array, structure, bare, unqualified}
use Rattle.p10_core.specs.Rows.{is_scalar, int_type, fits}
use Rattle.p10_core.specs.Typed.{PlainValue, type_of, PlainPlace, place_at, place_type, PlainWritten, one_scalar, scalars_of_text, PlainItem, PlainInitializer, not_initialized, single, copied, listed, PlainStatement, statement, PlainStatementForm, set, update, copy, evaluate as expression, asserts, declare, declare_static, block, if_then, if_else, loop, switch, break, continue, return, empty, mark, PlainStatements, no_statements, more_statements, PlainVariable, PlainFunction, PlainProgram}
use Rattle.p10_core.specs.Whole.{SeenVariable, Surroundings, IsWholeValue, IsWholePlace}
use Rattle.p10_core.specs.WholePrograms.{IsObjectType, Region, is_among, seen_variable, surroundings_of, around, after, after_all, IsWholeWritten, width_of_written, AreWholeItems, IsWholeInitializer, IsMaybeTest, IsWholeStatement, IsWholeStatementForm, AreWholeStatements, IsWholeProgram}
use Rattle.p10_meaning.specs.declared.pointers.Ptr.{Ptr}
use Rattle.p10_meaning.specs.declared.pointers.Scalar.{Scalar}
use Rattle.p10_meaning.specs.declared.pointers.Cell.{Cell}
use Rattle.p10_meaning.specs.Pointers.{unset, holding, first_of}
use Rattle.p10_meaning.specs.Objects.{declared, all_closed}
use Rattle.p10_meaning.specs.States.{State, Progress}
use Rattle.p10_meaning.specs.Scalars.{number_of, is_true, converted_to, operated, unset_cells}
use Rattle.p10_meaning.specs.Values.{Calls, Setting, holds, stands, scalars, width, open_object, Target, Variable, Sensor, Element, pointer_to, read_target, asserted, evaluate, discard, locate}
use Rattle.p10_meaning.specs.Statements.{Frame, Flow, normal, broken, continued, returned, Done, goes, go_on, holding_at, in_block, write_target, part_of, write_part, copy_scalars, text_scalars, written_scalars, listed_scalars, listed_scalar, fill, initialize, declare_variable, test, next_turn, turns, loop_by, before_third, labelled, from_label, after_switch, execute, execute_form, execute_from, enter, enter_form, round, looped}
use Rattle.p10_meaning.specs.Sound.{Kind, IsSmall, single_of, FitsPointer, Fits, MaybeFits, AllFit, kind_scalars, AllObjects, Sound, FrameFits, Grows, Keeps, KeepSound, AreSeen, FlowFits, DoneFits}
use Rattle.p10_meaning.proofs.Geometry.{IsLaidOut}
use Rattle.p10_meaning.proofs.LaidOut.{lies_bare, AreScalar, scalars_scalar}
use Rattle.p10_meaning.proofs.Fitting.{grown, get_last, fits_grown, frame_grown, frame_set, sound_with, sound_push, all_unset, all_closed_fits, fits_same, maybe_same, bare_unqualified}
use Rattle.p10_meaning.proofs.Moves.{OnOk, write_fits, part_fits, write_part_fits}
use Rattle.p10_meaning.proofs.SoundScalars.{zero_fits, kept_fits, converted_any}
use Rattle.p10_meaning.proofs.SoundUpdates.{IsRow, binary_row_is, left_fits, update_fits, result_fits}
use Rattle.p10_meaning.proofs.Keeping.{keeps_from, kept, ended, keeps_step, keeps_then, keeps_or, keeps_if}
use Rattle.p10_meaning.proofs.SoundParts.{TargetFits, single_fits, read_keeps, asserted_keeps}
use Rattle.p10_meaning.proofs.SoundValues.{pointer_to_fits, target_grown, evaluate_keeps, discard_keeps, locate_keeps}

-- ## Variables

-- the declarations of a function's variables fit
pub record AreFew (p : PlainProgram) (variables : List PlainVariable) : Type 0 where
  pub few : (n : ℕ) (v : PlainVariable) → slice_get variables n ≡ Some v → IsSmall p (single_of p v.type)
  pub object : (n : ℕ) (v : PlainVariable) → slice_get variables n ≡ Some v → IsObjectType p.structures v.type

-- ## Regions

abbrev pub scope_after : PlainStatement → List ℕ → List ℕ
scope_after (statement at (declare n i)) scope = n ∷ scope
scope_after s scope = scope

abbrev pub scope_after_all : PlainStatements → List ℕ → List ℕ
scope_after_all no_statements scope = scope
scope_after_all (more_statements s rest) scope = scope_after_all rest (scope_after s scope)

is_among_nothing : (n : ℕ) (scope : List ℕ) (f : PlainFunction) (v : SeenVariable) → (if is_among n scope then option_map seen_variable (slice_get f.variables n) else None) ≡ Some v →
    (variable : PlainVariable) × (slice_get f.variables n ≡ Some variable) × (v ≡ seen_variable variable)
is_among_nothing n scope f v e = case (is_among n scope) (slice_get f.variables n) refl e
  where
    case : (b : Bool) (o : Option PlainVariable) → slice_get f.variables n ≡ o → (if b then option_map seen_variable o else None) ≡ Some v → (variable : PlainVariable) × (slice_get f.variables n ≡ Some variable) × (v ≡ seen_variable variable)
    case true (Some variable) h e = (variable, h, sym (same_Some _ _ e))
    case true None h e = absurd (none-some _ e)
    case false o h e = absurd (none-some _ e)

get_drop : {A : Type 0} (xs : List A) (i : ℕ) (x : A) → slice_get (drop i xs) 0 ≡ Some x → slice_get xs i ≡ Some x
get_drop [] zero x e = e
get_drop [] (suc i) x e = absurd (none-some _ e)
get_drop (y ∷ xs) zero x e = e
get_drop (y ∷ xs) (suc i) x e = get_drop xs i x e

scalar_at_place : (ts : List PlainType) (i : ℕ) (t : PlainType) → AreScalar ts → slice_get ts i ≡ Some t → is_scalar t ≡ true
scalar_at_place [] i t f e = absurd (none-some _ e)
scalar_at_place (u ∷ ts) zero t f e = subst (λ t. is_scalar t ≡ true) (same_Some _ _ e) f.0
scalar_at_place (u ∷ ts) (suc i) t f e = scalar_at_place ts i t f.1 e

-- what fits a type without its own mark fits it
fits_unmarked : (r u : PlainType) → fits false r (unqualified u) ≡ true → fits false r u ≡ true
fits_unmarked (integer c i) (integer d j) e = e
fits_unmarked (integer c i) (pointer d t) e = e
fits_unmarked (integer c i) (void d) e = e
fits_unmarked (integer c i) (array d t n) e = e
fits_unmarked (integer c i) (structure d n) e = e
fits_unmarked (pointer c s) (integer d j) e = e
fits_unmarked (pointer c s) (pointer d t) e = e
fits_unmarked (pointer c s) (void d) e = e
fits_unmarked (pointer c s) (array d t n) e = e
fits_unmarked (pointer c s) (structure d n) e = e
fits_unmarked (void c) (integer d j) e = e
fits_unmarked (void c) (pointer d t) e = e
fits_unmarked (void c) (void d) e = e
fits_unmarked (void c) (array d t n) e = e
fits_unmarked (void c) (structure d n) e = e
fits_unmarked (array c s m) (integer d j) e = e
fits_unmarked (array c s m) (pointer d t) e = e
fits_unmarked (array c s m) (void d) e = e
fits_unmarked (array c s m) (array d t n) e = e
fits_unmarked (array c s m) (structure d n) e = e
fits_unmarked (structure c m) (integer d j) e = e
fits_unmarked (structure c m) (pointer d t) e = e
fits_unmarked (structure c m) (void d) e = e
fits_unmarked (structure c m) (array d t n) e = e
fits_unmarked (structure c m) (structure d n) e = e

-- ## Listed scalars

-- what is listed for scalar i fits there, converted
abbrev pub ItemFits : PlainProgram → List PlainType → List Kind → ℕ × Scalar → Type 0
ItemFits p ts ks item = (t : PlainType) → slice_get ts item.0 ≡ Some t → Fits p ks t (converted_to t item.1)

abbrev pub ItemsFit : PlainProgram → List PlainType → List Kind → List (ℕ × Scalar) → Type 0
ItemsFit p ts ks [] = Unit {0}
ItemsFit p ts ks (x ∷ xs) = ItemFits p ts ks x × ItemsFit p ts ks xs

items_append : (p : PlainProgram) (ts : List PlainType) (ks : List Kind) (xs ys : List (ℕ × Scalar)) → ItemsFit p ts ks xs → ItemsFit p ts ks ys → ItemsFit p ts ks (xs ++ ys)
items_append p ts ks [] ys f g = g
items_append p ts ks (x ∷ xs) ys f g = (f.0, items_append p ts ks xs ys f.1 g)

items_grown : (p : PlainProgram) (ts : List PlainType) (ks js : List Kind) (xs : List (ℕ × Scalar)) → Grows ks js → ItemsFit p ts ks xs → ItemsFit p ts js xs
items_grown p ts ks js [] g f = tt
items_grown p ts ks js (x ∷ xs) g f = (λ t e. fits_grown p ks js t (converted_to t x.1) g (f.0 t e), items_grown p ts ks js xs g f.1)

text_fits : (p : PlainProgram) (ts : List PlainType) (ks : List Kind) (i : ℕ) (bytes : List ℕ) → AreScalar ts → ItemsFit p ts ks (text_scalars i bytes)
text_fits p ts ks i [] h = tt
text_fits p ts ks i (byte ∷ bytes) h = (λ t e. converted_any p ks t (pos byte) (scalar_at_place ts i t h e), text_fits p ts ks (suc i) bytes h)

pub listed_fits : (p : PlainProgram) (ts : List PlainType) (ks : List Kind) (i : ℕ) (t : PlainType) (xs : List (ℕ × Scalar)) → is_scalar t ≡ true → slice_get ts i ≡ Some t → ItemsFit p ts ks xs → Fits p ks t (listed_scalar i t xs)
listed_fits p ts ks i t [] h e f = zero_fits p ks t h
listed_fits p ts ks i t (x ∷ xs) h e f = cond_both (eqb x.0 i) (converted_to t x.1) (listed_scalar i t xs) (Fits p ks t)
    (λ b. f.0 t (ap (slice_get ts) (eqb-true x.0 i b) ∙ e)) (λ b. listed_fits p ts ks i t xs h e f.1)

-- ## Statements

module _ (p : PlainProgram) (out : IsLaidOut p) (whole : IsWholeProgram p) (calls : Calls) (meaning : KeepSound p calls) (n : ℕ) (number : ℕ) (f : PlainFunction) (few : AreFew p f.variables) where
  abbrev s : Setting
  s = record { program = p; variables = f.variables; call = calls; turns = n }

  abbrev pub seen_by : List ℕ → ℕ → Option SeenVariable
  seen_by scope = λ n. if is_among n scope then option_map seen_variable (slice_get f.variables n) else None

  pub seen : (scope : List ℕ) → AreSeen f.variables (seen_by scope)
  seen scope = record { seen = λ n v e. is_among_nothing n scope f v e }

  abbrev c : List ℕ → Surroundings
  c scope = record (surroundings_of p) { variable_at = seen_by scope }

  abbrev Fine : List Kind → Done → Type 0
  Fine = DoneFits p f.variables f.result

  abbrev FrameAt : List Kind → Frame → Type 0
  FrameAt ks frame = FrameFits p ks f.variables frame.held

  abbrev RunKeeps : (Frame → State → Progress Done) → Type 0
  RunKeeps run = (frame : Frame) (w : State) (ks : List Kind) → Sound p ks w → FrameAt ks frame → Keeps p ks Fine (run frame w)

  abbrev TestKeeps : (Frame → State → Progress Bool) → Type 0
  TestKeeps run = (frame : Frame) (w : State) (ks : List Kind) → Sound p ks w → FrameAt ks frame → Keeps p ks (λ ks b. Unit {0}) (run frame w)

  later : (ks js : List Kind) (frame : Frame) → Grows ks js → FrameAt ks frame → FrameAt js frame
  later ks js frame g h = frame_grown p ks js f.variables frame.held g h

  value_keeps : (scope : List ℕ) (v : PlainValue) → IsWholeValue (c scope) v → (frame : Frame) (w : State) (ks : List Kind) → Sound p ks w → FrameAt ks frame → Keeps p ks (λ ks. Fits p ks (type_of v)) (evaluate s frame.held v w)
  value_keeps scope v i frame w ks so h = evaluate_keeps p out whole calls meaning n f.variables (seen_by scope) (seen scope) frame.held v i w ks so h

  place_keeps : (scope : List ℕ) (q : PlainPlace) → IsWholePlace (c scope) q → (frame : Frame) (w : State) (ks : List Kind) → Sound p ks w → FrameAt ks frame → Keeps p ks (TargetFits p f.variables (place_type q)) (locate s frame.held q w)
  place_keeps scope q i frame w ks so h = locate_keeps p out whole calls meaning n f.variables (seen_by scope) (seen scope) frame.held q i w ks so h

  pub goes_keeps : (frame : Frame) (w : State) (ks : List Kind) → Sound p ks w → FrameAt ks frame → Keeps p ks Fine (goes frame w)
  goes_keeps frame w ks so h = kept p ks Fine _ w so (record { frame = h; flow = tt })

  pub go_keeps : (rest : Frame → State → Progress Done) → RunKeeps rest → (d : Done) (w : State) (ks : List Kind) → Sound p ks w → Fine ks d → Keeps p ks Fine (go_on d.flow d.frame w rest)
  go_keeps rest k d w ks so h = case d.flow h.flow
    where
      case : (flow : Flow) → FlowFits p f.result ks flow → Keeps p ks Fine (go_on flow d.frame w rest)
      case normal g = k d.frame w ks so h.frame
      case broken g = kept p ks Fine _ w so (record { frame = h.frame; flow = g })
      case continued g = kept p ks Fine _ w so (record { frame = h.frame; flow = g })
      case (returned x) g = kept p ks Fine _ w so (record { frame = h.frame; flow = g })

  block_keeps : (run : Frame → State → Progress Done) → RunKeeps run → RunKeeps (in_block run)
  block_keeps run k frame w ks so h =
      keeps_then p ks Fine Fine (run (record frame { opened = [] }) w) _ (k (record frame { opened = [] }) w ks so h) (λ d w js so g fits.
      kept p js Fine _ (record w { objects = all_closed d.frame.opened w.objects }) (sound_with p js w.objects _ w.opened w.input w.sensors so (all_closed_fits p js d.frame.opened w.objects so.all)) (record { frame = fits.frame; flow = fits.flow }))

  -- ## Writing

  write_keeps : (span : Span) (t : PlainType) (target : Target) (cell : Cell) (frame : Frame) (w : State) (ks : List Kind) → is_scalar t ≡ true → TargetFits p f.variables t ks target → MaybeFits p ks t cell.value → Sound p ks w → FrameAt ks frame →
      Keeps p ks Fine (write_target span target cell frame w)
  write_keeps span t (Variable k) cell frame w ks scalar fits x so h =
      goes_keeps (holding_at frame k (holds cell)) w ks so (frame_set p ks f.variables frame.held k fits.variable (holds cell) h fits.there (maybe_same p ks t fits.variable.type cell.value (sym fits.same) x))
  write_keeps span t Sensor cell frame w ks scalar fits x so h = goes_keeps frame w ks so h
  write_keeps span t (Element q) cell frame w ks scalar fits x so h =
      keeps_or p ks (AllObjects p ks) Fine _ span w _ so (write_fits p out ks w t q cell so fits scalar x) (λ objects all.
      goes_keeps frame (record w { objects = objects }) ks (sound_with p ks w.objects objects w.opened w.input w.sensors so all) h)

  -- scalars from i on are there, m of them
  abbrev AreThere : List PlainType → ℕ → ℕ → Type 0
  AreThere ts i m = (j : ℕ) → j < m → (t : PlainType) × (slice_get ts (i + j) ≡ Some t)

  copy_keeps : (t u : PlainType) (m i : ℕ) (to_span : Span) (to : Ptr) (from_span : Span) (from : Ptr) → scalars p t ≡ scalars p u → AreThere (scalars p t) i m → (frame : Frame) (w : State) (ks : List Kind) → FitsPointer p ks t to → FitsPointer p ks u from → Sound p ks w → FrameAt ks frame →
      Keeps p ks Fine (copy_scalars m i to_span to from_span from frame w)
  copy_keeps t u zero i to_span to from_span from same there frame w ks ft fu so h = goes_keeps frame w ks so h
  copy_keeps t u (suc m) i to_span to from_span from same there frame w ks ft fu so h =
      let here = there 0 (omega arith) in
      let at_i : slice_get (scalars p t) i ≡ Some here.0 = subst (λ j. slice_get (scalars p t) j ≡ Some here.0) (no_more i) here.1 in
      keeps_step p ks Fine w _ so (λ left.
      keeps_or p ks (λ (c : Cell). MaybeFits p ks here.0 c.value) Fine (part_of w.objects from i) from_span (record w { left = left }) _ so (part_fits p out ks (record w { left = left }) u from i here.0 so fu (subst (λ ts. slice_get ts i ≡ Some here.0) same at_i)) (λ cell fc.
      keeps_or p ks (AllObjects p ks) Fine (write_part w.objects to i cell) to_span (record w { left = left }) _ so (write_part_fits p out ks (record w { left = left }) t to i here.0 cell so ft at_i fc) (λ objects all.
      copy_keeps t u m (suc i) to_span to from_span from same (λ j l. let h = there (suc j) (omega (arith, l)) in (h.0, subst (λ j. slice_get (scalars p t) j ≡ Some h.0) (one_more i j) h.1)) frame (record w { left = left; objects = objects }) ks ft fu
      (sound_with p ks w.objects objects w.opened w.input w.sensors so all) h)))
    where
      no_more : (i : ℕ) → i + 0 ≡ i
      no_more i = omega arith

      one_more : (i j : ℕ) → i + suc j ≡ suc i + j
      one_more i j = omega arith

  fill_keeps : (span : Span) (t : PlainType) (xs : List (ℕ × Scalar)) (ts : List PlainType) (i : ℕ) (q : Ptr) → ((j : ℕ) (u : PlainType) → slice_get ts j ≡ Some u → slice_get (scalars p t) (i + j) ≡ Some u) → AreScalar ts → (frame : Frame) (w : State) (ks : List Kind) → FitsPointer p ks t q → ItemsFit p (scalars p t) ks xs → Sound p ks w → FrameAt ks frame →
      Keeps p ks Fine (fill span xs ts i q frame w)
  fill_keeps span t xs [] i q there scalar frame w ks fq fx so h = goes_keeps frame w ks so h
  fill_keeps span t xs (u ∷ ts) i q there scalar frame w ks fq fx so h =
      let at_i : slice_get (scalars p t) i ≡ Some u = subst (λ j. slice_get (scalars p t) j ≡ Some u) (no_more i) (there 0 u refl) in
      keeps_step p ks Fine w _ so (λ left.
      keeps_or p ks (AllObjects p ks) Fine (write_part w.objects q i (holding (listed_scalar i u xs))) span (record w { left = left }) _ so
      (write_part_fits p out ks (record w { left = left }) t q i u (holding (listed_scalar i u xs)) so fq at_i (listed_fits p (scalars p t) ks i u xs scalar.0 at_i fx)) (λ objects all.
      fill_keeps span t xs ts (suc i) q (λ j v e. subst (λ j. slice_get (scalars p t) j ≡ Some v) (one_more i j) (there (suc j) v e)) scalar.1 frame (record w { left = left; objects = objects }) ks fq fx
      (sound_with p ks w.objects objects w.opened w.input w.sensors so all) h))
    where
      no_more : (i : ℕ) → i + 0 ≡ i
      no_more i = omega arith

      one_more : (i j : ℕ) → i + suc j ≡ suc i + j
      one_more i j = omega arith

  -- ## Initialisers

  written_keeps : (scope : List ℕ) (ts : List PlainType) (i : ℕ) (written : PlainWritten) → AreScalar ts → IsWholeWritten (c scope) (drop i ts) written → (frame : Frame) (w : State) (ks : List Kind) → Sound p ks w → FrameAt ks frame →
      Keeps p ks (ItemsFit p ts) (written_scalars s frame.held i written w)
  written_keeps scope ts i (one_scalar v) scalar iw frame w ks so h =
      keeps_then p ks (λ ks. Fits p ks (type_of v)) (ItemsFit p ts) (evaluate s frame.held v w) _ (value_keeps scope v iw.whole frame w ks so h) (λ x w js so g fx.
      let one : ItemsFit p ts js ((i, x) ∷ []) = (λ t e. item t x js e fx, tt) in kept p js (ItemsFit p ts) ((i, x) ∷ []) w so one)
    where
      item : (t : PlainType) (x : Scalar) (js : List Kind) → slice_get ts i ≡ Some t → Fits p js (type_of v) x → Fits p js t (converted_to t x)
      item t x js e fx =
          let same : bare p.structures (type_of v) ≡ t = same_Some _ _ (sym (get_drop ts i _ iw.type_is) ∙ e) in
          subst (λ t. Fits p js t (converted_to t x)) same (kept_fits p js (bare p.structures (type_of v)) x (fits_same p js (type_of v) (bare p.structures (type_of v)) x (sym (out.bare_again (type_of v))) fx))
  written_keeps scope ts i (scalars_of_text bytes) scalar iw frame w ks so h = kept p ks (ItemsFit p ts) (text_scalars i bytes) w so (text_fits p ts ks i bytes scalar)

  pub listed_keeps : (scope : List ℕ) (ts : List PlainType) (from : ℕ) (items : List PlainItem) → AreScalar ts → AreWholeItems (c scope) ts from items → (frame : Frame) (w : State) (ks : List Kind) → Sound p ks w → FrameAt ks frame →
      Keeps p ks (ItemsFit p ts) (listed_scalars s frame.held items w)
  listed_keeps scope ts from [] scalar i frame w ks so h = kept p ks (ItemsFit p ts) [] w so tt
  listed_keeps scope ts from (item ∷ items) scalar i frame w ks so h =
      keeps_then p ks (ItemsFit p ts) (ItemsFit p ts) (written_scalars s frame.held item.scalar item.written w) _ (written_keeps scope ts item.scalar item.written scalar i.1 frame w ks so h) (λ xs w js so g fx.
      keeps_then p js (ItemsFit p ts) (ItemsFit p ts) (listed_scalars s frame.held items w) _ (listed_keeps scope ts (item.scalar + width_of_written item.written) items scalar i.2 frame w js so (later ks js frame g h)) (λ ys w ls so k fy.
      kept p ls (ItemsFit p ts) (xs ++ ys) w so (items_append p ts ls xs ys (items_grown p ts js ls xs k fx) fy)))

  all_there : (ts : List PlainType) → AreThere ts 0 (length ts)
  all_there ts = λ j l. let h = found ts j l in (h.0, subst (λ k. slice_get ts k ≡ Some h.0) (zero_plus j) h.1)
    where
      zero_plus : (j : ℕ) → j ≡ 0 + j
      zero_plus j = omega arith

      found : (ts : List PlainType) (j : ℕ) → j < length ts → (t : PlainType) × (slice_get ts j ≡ Some t)
      found [] j l = absurd (omega (arith, l))
      found (t ∷ ts) zero l = (t, refl)
      found (t ∷ ts) (suc j) l = found ts j (omega (arith, l))

  structures_same : (t u : PlainType) (k : ℕ) → unqualified t ≡ structure false k → unqualified u ≡ structure false k → scalars p t ≡ scalars p u
  structures_same t u k a b = ap (λ t. Rattle.p10_core.specs.Sizes.scalars_of p.structures t)
      (sym (bare_unqualified p.structures t) ∙ (ap (bare p.structures) (a ∙ sym b) ∙ bare_unqualified p.structures u))

  initialize_keeps : (scope : List ℕ) (span : Span) (t : PlainType) (target : Target) (initializer : PlainInitializer) → IsObjectType p.structures t → IsWholeInitializer (c scope) t initializer → (frame : Frame) (w : State) (ks : List Kind) → TargetFits p f.variables t ks target → Sound p ks w → FrameAt ks frame →
      Keeps p ks Fine (initialize s span t target initializer frame w)
  initialize_keeps scope span t target not_initialized object i frame w ks fits so h = goes_keeps frame w ks so h
  initialize_keeps scope span t target (single v) object i frame w ks fits so h =
      keeps_then p ks (λ ks. Fits p ks (type_of v)) Fine (evaluate s frame.held v w) _ (value_keeps scope v i.whole frame w ks so h) (λ x w js so g fx.
      write_keeps span t target (holding x) frame w js i.scalar (target_grown p f.variables t ks js target g fits) (fits_same p js (type_of v) t x (ap (bare p.structures) i.type_is ∙ bare_unqualified p.structures t) fx) so (later ks js frame g h))
  initialize_keeps scope span t target (copied q) object i frame w ks fits so h = keeps_step p ks Fine w _ so (λ left.
      keeps_then p ks (TargetFits p f.variables (place_type q)) Fine (locate s frame.held q (record w { left = left })) _ (place_keeps scope q i.whole frame (record w { left = left }) ks so h) (λ source w js so g fs.
      copy_keeps t (place_type q) (width p t) 0 span (pointer_to target) (place_at q).span (pointer_to source) (structures_same t (place_type q) i.number i.target_is i.source_is) (all_there (scalars p t)) frame w js
      (pointer_to_fits p f.variables t js target (target_grown p f.variables t ks js target g fits)) (pointer_to_fits p f.variables (place_type q) js source fs) so (later ks js frame g h)))
  initialize_keeps scope span t target (listed at items) object i frame w ks fits so h =
      keeps_then p ks (ItemsFit p (scalars p t)) Fine (listed_scalars s frame.held items w) _ (listed_keeps scope (scalars p t) 0 items (scalars_scalar p.structures (bare p.structures t)) (subst (λ ts. AreWholeItems (c scope) ts 0 items) (sym (lies_bare p.structures whole.structures t object).same_scalars) i.whole) frame w ks so h) (λ xs w js so g fx.
      fill_keeps span t xs (scalars p t) 0 (pointer_to target) (λ j u e. subst (λ k. slice_get (scalars p t) k ≡ Some u) (zero_plus j) e) (scalars_scalar p.structures (bare p.structures t)) frame w js
      (pointer_to_fits p f.variables t js target (target_grown p f.variables t ks js target g fits)) fx so (later ks js frame g h))
    where
      zero_plus : (j : ℕ) → j ≡ 0 + j
      zero_plus j = omega arith

  declare_keeps : (scope : List ℕ) (span : Span) (k : ℕ) (initializer : PlainInitializer) (v : PlainVariable) → slice_get f.variables k ≡ Some v → IsWholeInitializer (c scope) v.type initializer → (frame : Frame) (w : State) (ks : List Kind) → Sound p ks w → FrameAt ks frame →
      Keeps p ks Fine (declare_variable s span k (Some v) initializer frame w)
  declare_keeps scope span k initializer v there i frame w ks so h =
      let kind : Kind = single_of p v.type in
      let js : List Kind = ks ++ kind ∷ [] in
      let opened : State = open_object declared (unset_cells (scalars p v.type)) w in
      let is_there : slice_get js w.opened ≡ Some kind = subst (λ m. slice_get js m ≡ Some kind) so.count (get_last ks kind) in
      let next : Frame = record { held = slice_set frame.held k (stands w.opened); opened = w.opened ∷ frame.opened } in
      keeps_if p ks Fine v.frame _ _
      (λ e. initialize_keeps scope span v.type (Variable k) initializer (few.object k v there) i (holding_at frame k (holds unset)) w ks (record { variable = v; there = there; same = refl }) so
      (frame_set p ks f.variables frame.held k v (holds unset) h there tt))
      (λ e. keeps_from p ks js Fine _ (grown ks kind)
      (initialize_keeps scope span v.type (Element (first_of w.opened (width p v.type) 1)) initializer (few.object k v there) i next opened js (single_fits p js w.opened v.type is_there)
      (sound_push p ks w.objects w.opened w.input w.sensors kind declared (unset_cells (scalars p v.type)) so (few.few k v there) (unset_single js v.type))
      (frame_set p js f.variables frame.held k v (stands w.opened) (frame_grown p ks js f.variables frame.held (grown ks kind) h) there is_there)))
    where
      one_list : (ts : List PlainType) → ts ≡ ts ++ []
      one_list [] = refl
      one_list (t ∷ ts) = ap (λ ts. t ∷ ts) (one_list ts)

      unset_single : (js : List Kind) (t : PlainType) → AllFit p js (kind_scalars p (single_of p t)) (unset_cells (scalars p t))
      unset_single js t = subst (λ ts. AllFit p js ts (unset_cells (scalars p t))) (one_list (scalars p t)) (all_unset p js (scalars p t))

  -- ## Loops

  pub test_keeps : (scope : List ℕ) (tested : Option PlainValue) → IsMaybeTest (c scope) tested → TestKeeps (test s tested)
  test_keeps scope None i frame w ks so h = keeps_step p ks (λ ks b. Unit {0}) w _ so (λ left. kept p ks (λ ks b. Unit {0}) true (record w { left = left }) so tt)
  test_keeps scope (Some v) i frame w ks so h =
      keeps_then p ks (λ ks. Fits p ks (type_of v)) (λ ks b. Unit {0}) (evaluate s frame.held v w) _ (value_keeps scope v i.whole frame w ks so h) (λ x w js so g fx. kept p js (λ ks b. Unit {0}) (is_true x) w so tt)

  next_keeps : (go : Frame → State → Progress Done) → RunKeeps go → (d : Done) (w : State) (ks : List Kind) → Sound p ks w → Fine ks d → Keeps p ks Fine (next_turn d.flow d.frame w go)
  next_keeps go k d w ks so h = case d.flow h.flow
    where
      case : (flow : Flow) → FlowFits p f.result ks flow → Keeps p ks Fine (next_turn flow d.frame w go)
      case normal g = k d.frame w ks so h.frame
      case continued g = k d.frame w ks so h.frame
      case broken g = goes_keeps d.frame w ks so h.frame
      case (returned x) g = kept p ks Fine _ w so (record { frame = h.frame; flow = g })

  third_keeps : (third : Frame → State → Progress Done) → RunKeeps third → (d : Done) (w : State) (ks : List Kind) → Sound p ks w → Fine ks d → Keeps p ks Fine (before_third d.flow d.frame w third)
  third_keeps third k d w ks so h = case d.flow h.flow
    where
      case : (flow : Flow) → FlowFits p f.result ks flow → Keeps p ks Fine (before_third flow d.frame w third)
      case normal g = k d.frame w ks so h.frame
      case continued g = k d.frame w ks so h.frame
      case broken g = kept p ks Fine _ w so (record { frame = h.frame; flow = g })
      case (returned x) g = kept p ks Fine _ w so (record { frame = h.frame; flow = g })

  turns_keep : (m : ℕ) (tested : Frame → State → Progress Bool) (body : Frame → State → Progress Done) → TestKeeps tested → RunKeeps body → RunKeeps (turns m tested body)
  turns_keep zero tested body k l frame w ks so h = ended p ks w so
  turns_keep (suc m) tested body k l frame w ks so h =
      keeps_then p ks (λ ks b. Unit {0}) Fine (tested frame w) _ (k frame w ks so h) (λ more w js so g _.
      keeps_if p js Fine more _ _
      (λ e. keeps_then p js Fine Fine (body frame w) _ (l frame w js so (later ks js frame g h)) (λ d w ls so g fits. next_keeps (turns m tested body) (turns_keep m tested body k l) d w ls so fits))
      (λ e. goes_keeps frame w js so (later ks js frame g h)))

  loop_keeps : (keyword : LoopKeyword) (m : ℕ) (tested : Frame → State → Progress Bool) (body : Frame → State → Progress Done) → TestKeeps tested → RunKeeps body → RunKeeps (loop_by keyword m tested body)
  loop_keeps While m tested body k l frame w ks so h = turns_keep m tested body k l frame w ks so h
  loop_keeps For m tested body k l frame w ks so h = turns_keep m tested body k l frame w ks so h
  loop_keeps Do m tested body k l frame w ks so h = keeps_then p ks Fine Fine (body frame w) _ (l frame w ks so h) (λ d w js so g fits. next_keeps (turns m tested body) (turns_keep m tested body k l) d w js so fits)

  label_keeps : (i : Option ℕ) (run : ℕ → Frame → State → Progress Done) → ((i : ℕ) → RunKeeps (run i)) → RunKeeps (from_label i run)
  label_keeps None run k frame w ks so h = goes_keeps frame w ks so h
  label_keeps (Some i) run k frame w ks so h = block_keeps (run i) (k i) frame w ks so h

  switch_keeps : (d : Done) (w : State) (ks : List Kind) → Sound p ks w → Fine ks d → Keeps p ks Fine (after_switch d w)
  switch_keeps d w ks so h = case d.flow h.flow
    where
      case : (flow : Flow) → FlowFits p f.result ks flow → Keeps p ks Fine (after_switch (record { flow = flow; frame = d.frame }) w)
      case normal g = kept p ks Fine _ w so (record { frame = h.frame; flow = tt })
      case broken g = kept p ks Fine _ w so (record { frame = h.frame; flow = tt })
      case continued g = kept p ks Fine _ w so (record { frame = h.frame; flow = tt })
      case (returned x) g = kept p ks Fine _ w so (record { frame = h.frame; flow = g })

  -- ## Forms

  abbrev here : List ℕ → Bool → Bool → Region
  here scope in_loop in_switch = record { program = p; number = number; function = f; scope = scope; in_loop = in_loop; in_switch = in_switch }

  pub after_is : (x : PlainStatement) (scope : List ℕ) (l b : Bool) → after (here scope l b) x ≡ here (scope_after x scope) l b
  after_is (statement at (declare k i)) scope l b = refl
  after_is (statement at (set q v)) scope l b = refl
  after_is (statement at (update kind op t q v)) scope l b = refl
  after_is (statement at (copy q r)) scope l b = refl
  after_is (statement at (expression v)) scope l b = refl
  after_is (statement at (asserts call v)) scope l b = refl
  after_is (statement at (declare_static k)) scope l b = refl
  after_is (statement at (block xs)) scope l b = refl
  after_is (statement at (if_then v x)) scope l b = refl
  after_is (statement at (if_else v x y)) scope l b = refl
  after_is (statement at (loop head first tested third body)) scope l b = refl
  after_is (statement at (switch span v labels body)) scope l b = refl
  after_is (statement at break) scope l b = refl
  after_is (statement at continue) scope l b = refl
  after_is (statement at (return span v)) scope l b = refl
  after_is (statement at empty) scope l b = refl
  after_is (statement at (mark kind)) scope l b = refl

  pub after_all_is : (xs : PlainStatements) (scope : List ℕ) (l b : Bool) → after_all (here scope l b) xs ≡ here (scope_after_all xs scope) l b
  after_all_is no_statements scope l b = refl
  after_all_is (more_statements x rest) scope l b = ap (λ r. after_all r rest) (after_is x scope l b) ∙ after_all_is rest (scope_after x scope) l b

  mutual
    pub execute_keeps : (x : PlainStatement) (scope : List ℕ) (l b : Bool) → IsWholeStatement (here scope l b) x → RunKeeps (execute s x)
    execute_keeps (statement at form) scope l b i frame w ks so h = form_keeps at form scope l b i frame w ks so h

    form_keeps : (at : At) (form : PlainStatementForm) (scope : List ℕ) (l b : Bool) → IsWholeStatementForm (here scope l b) form → RunKeeps (execute_form s at form)
    form_keeps at (declare k initializer) scope l b i frame w ks so h = keeps_step p ks Fine w _ so (λ left.
        subst (λ v. Keeps p ks Fine (declare_variable s at.span k v initializer frame (record w { left = left }))) (sym i.there)
        (declare_keeps (k ∷ scope) at.span k initializer i.variable i.there i.initializer frame (record w { left = left }) ks so h))
    form_keeps at (set q v) scope l b i frame w ks so h = keeps_step p ks Fine w _ so (λ left.
        keeps_then p ks (TargetFits p f.variables (place_type q)) Fine (locate s frame.held q (record w { left = left })) _ (place_keeps scope q i.place frame (record w { left = left }) ks so h) (λ target w js so g ft.
        keeps_then p js (λ ks. Fits p ks (type_of v)) Fine (evaluate s frame.held v w) _ (value_keeps scope v i.value frame w js so (later ks js frame g h)) (λ x w ls so k fx.
        write_keeps (place_at q).span (place_type q) target (holding x) frame w ls i.scalar (target_grown p f.variables (place_type q) js ls target k ft)
        (fits_same p ls (type_of v) (place_type q) x (ap (bare p.structures) i.type_is ∙ bare_unqualified p.structures (place_type q)) fx) so (later js ls frame k (later ks js frame g h)))))
    form_keeps at (update kind op t q v) scope l b i frame w ks so h = keeps_step p ks Fine w _ so (λ left.
        keeps_then p ks (TargetFits p f.variables (place_type q)) Fine (locate s frame.held q (record w { left = left })) _ (place_keeps scope q i.place frame (record w { left = left }) ks so h) (λ target w js so g ft.
        keeps_step p js Fine w _ so (λ left.
        keeps_then p js (λ ks. Fits p ks (place_type q)) Fine (read_target (place_at q).span (place_type q) frame.held target (record w { left = left })) _
        (read_keeps p out js f.variables frame.held (place_at q).span (place_type q) target (record w { left = left }) i.scalar (later ks js frame g h) ft so) (λ x w ls so k fx.
        keeps_then p ls (λ ks. Fits p ks (type_of v)) Fine (evaluate s frame.held v w) _ (value_keeps scope v i.value frame w ls so (later js ls frame k (later ks js frame g h))) (λ y w ms so m fy.
        keeps_step p ms Fine w _ so (λ left.
        let row : IsRow op (unqualified (place_type q)) i.entry = binary_row_is p.structures op (unqualified (place_type q)) i.right_type i.entry i.is in
        let read : Fits p ms (unqualified (place_type q)) x = fits_same p ms (place_type q) (unqualified (place_type q)) x (sym (bare_unqualified p.structures (place_type q))) (fits_grown p ls ms (place_type q) x m fx) in
        keeps_or p ms (Fits p ms i.entry.result) Fine (operated op t w.objects (converted_to t x) y) at.span (record w { left = left }) _ so
        (subst (λ t. OnOk (Fits p ms i.entry.result) (operated op t w.objects (converted_to t x) y)) (sym i.type_is)
        (update_fits p ms op (unqualified (place_type q)) i.right_type i.entry i.is row.kind i.result_fits w.objects (converted_to i.entry.left x) y (left_fits p ms (unqualified (place_type q)) i.entry.left x row.left read) (subst (λ t. Fits p ms t y) i.value_is fy)))
        (λ z fz. write_keeps (place_at q).span (place_type q) target (holding (converted_to (place_type q) z)) frame (record w { left = left }) ms i.scalar
        (target_grown p f.variables (place_type q) ls ms target m (target_grown p f.variables (place_type q) js ls target k ft))
        (result_fits p ms i.entry.result (place_type q) z (fits_unmarked i.entry.result (place_type q) i.result_fits) fz) so (later ls ms frame m (later js ls frame k (later ks js frame g h))))))))))
    form_keeps at (copy q r) scope l b i frame w ks so h = keeps_step p ks Fine w _ so (λ left.
        keeps_then p ks (TargetFits p f.variables (place_type q)) Fine (locate s frame.held q (record w { left = left })) _ (place_keeps scope q i.target frame (record w { left = left }) ks so h) (λ target w js so g ft.
        keeps_then p js (TargetFits p f.variables (place_type r)) Fine (locate s frame.held r w) _ (place_keeps scope r i.source.whole frame w js so (later ks js frame g h)) (λ source w ls so k fs.
        copy_keeps (place_type q) (place_type r) (width p (place_type q)) 0 (place_at q).span (pointer_to target) (place_at r).span (pointer_to source)
        (structures_same (place_type q) (place_type r) i.source.number i.source.target_is i.source.source_is) (all_there (scalars p (place_type q))) frame w ls
        (pointer_to_fits p f.variables (place_type q) ls target (target_grown p f.variables (place_type q) js ls target k ft)) (pointer_to_fits p f.variables (place_type r) ls source fs) so (later js ls frame k (later ks js frame g h)))))
    form_keeps at (asserts call v) scope l b i frame w ks so h = keeps_step p ks Fine w _ so (λ left.
        keeps_then p ks (λ ks. Fits p ks (type_of v)) Fine (evaluate s frame.held v (record w { left = left })) _ (value_keeps scope v i.whole frame (record w { left = left }) ks so h) (λ x w js so g fx.
        keeps_then p js (λ ks. MaybeFits p ks int_type) Fine (asserted call.span x w) _ (asserted_keeps p js int_type call.span x w so) (λ none w ls so k _. goes_keeps frame w ls so (later js ls frame k (later ks js frame g h)))))
    form_keeps at (expression v) scope l b i frame w ks so h = keeps_step p ks Fine w _ so (λ left.
        keeps_then p ks (λ ks. MaybeFits p ks (type_of v)) Fine (discard s frame.held v (record w { left = left })) _
        (discard_keeps p out whole calls meaning n f.variables (seen_by scope) (seen scope) frame.held v i (record w { left = left }) ks so h) (λ x w js so g _. goes_keeps frame w js so (later ks js frame g h)))
    form_keeps at (if_then v x) scope l b i frame w ks so h = keeps_step p ks Fine w _ so (λ left.
        keeps_then p ks (λ ks. Fits p ks (type_of v)) Fine (evaluate s frame.held v (record w { left = left })) _ (value_keeps scope v i.0.whole frame (record w { left = left }) ks so h) (λ y w js so g fy.
        keeps_if p js Fine (is_true y) _ _ (λ e. execute_keeps x scope l b i.1 frame w js so (later ks js frame g h)) (λ e. goes_keeps frame w js so (later ks js frame g h))))
    form_keeps at (if_else v x z) scope l b i frame w ks so h = keeps_step p ks Fine w _ so (λ left.
        keeps_then p ks (λ ks. Fits p ks (type_of v)) Fine (evaluate s frame.held v (record w { left = left })) _ (value_keeps scope v i.0.whole frame (record w { left = left }) ks so h) (λ y w js so g fy.
        keeps_if p js Fine (is_true y) _ _ (λ e. execute_keeps x scope l b i.1 frame w js so (later ks js frame g h)) (λ e. execute_keeps z scope l b i.2 frame w js so (later ks js frame g h))))
    form_keeps at (loop head first tested third body) scope l b i frame w ks so h = keeps_step p ks Fine w _ so (λ left.
        block_keeps (looped s head.keyword first tested third body) (λ frame w ks so h.
        keeps_then p ks Fine Fine (execute_from s 0 first frame w) _ (from_keeps 0 first scope l b i.0 frame w ks so h) (λ d w js so g fits.
        go_keeps (λ frame w. loop_by head.keyword n (λ frame w. test s tested frame w) (round s third body) frame w)
        (loop_keeps head.keyword n (λ frame w. test s tested frame w) (round s third body)
        (test_keeps (scope_after_all first scope) tested (subst (λ r. IsMaybeTest (around r) tested) (after_all_is first scope l b) i.1))
        (λ frame w ks so h. keeps_then p ks Fine Fine (execute s body frame w) _
        (execute_keeps body (scope_after_all first scope) true b (subst (λ (r : Region). IsWholeStatement (record r { in_loop = true }) body) (after_all_is first scope l b) i.3) frame w ks so h) (λ d w js so g fits.
        third_keeps (λ frame w. execute_from s 0 third frame w) (from_keeps 0 third (scope_after_all first scope) l b (subst (λ r. AreWholeStatements r third) (after_all_is first scope l b) i.2)) d w js so fits)))
        d w js so fits)) frame (record w { left = left }) ks so h)
    form_keeps at (switch keyword v labels body) scope l b i frame w ks so h = keeps_step p ks Fine w _ so (λ left.
        keeps_then p ks (λ ks. Fits p ks (type_of v)) Fine (evaluate s frame.held v (record w { left = left })) _ (value_keeps scope v i.0.whole frame (record w { left = left }) ks so h) (λ x w js so g fx.
        keeps_then p js Fine Fine (enter s (labelled (number_of x) labels.cases labels.otherwise) body frame w) after_switch
        (enter_keeps (labelled (number_of x) labels.cases labels.otherwise) body scope l true i.1 frame w js so (later ks js frame g h)) (λ d w ls so k fits. switch_keeps d w ls so fits)))
    form_keeps at (return keyword None) scope l b i frame w ks so h = keeps_step p ks Fine w _ so (λ left. kept p ks Fine _ (record w { left = left }) so (record { frame = h; flow = tt }))
    form_keeps at (return keyword (Some v)) scope l b i frame w ks so h = keeps_step p ks Fine w _ so (λ left.
        keeps_then p ks (λ ks. Fits p ks (type_of v)) Fine (evaluate s frame.held v (record w { left = left })) _ (value_keeps scope v i.0 frame (record w { left = left }) ks so h) (λ x w js so g fx.
        kept p js Fine _ w so (record { frame = later ks js frame g h; flow = fits_same p js (type_of v) f.result x (ap (bare p.structures) i.2 ∙ bare_unqualified p.structures f.result) fx })))
    form_keeps at break scope l b i frame w ks so h = keeps_step p ks Fine w _ so (λ left. kept p ks Fine _ (record w { left = left }) so (record { frame = h; flow = tt }))
    form_keeps at continue scope l b i frame w ks so h = keeps_step p ks Fine w _ so (λ left. kept p ks Fine _ (record w { left = left }) so (record { frame = h; flow = tt }))
    form_keeps at empty scope l b i frame w ks so h = keeps_step p ks Fine w _ so (λ left. goes_keeps frame (record w { left = left }) ks so h)
    form_keeps at (block xs) scope l b i frame w ks so h = block_keeps (λ frame w. execute_from s 0 xs frame w) (from_keeps 0 xs scope l b i) frame w ks so h
    form_keeps at (declare_static k) scope l b i frame w ks so h = goes_keeps frame w ks so h
    form_keeps at (mark InitDone) scope l b i frame w ks so h = goes_keeps frame (record w { marked = true }) ks so h
    form_keeps at (mark TaskLoop) scope l b i frame w ks so h = goes_keeps frame w ks so h

    pub from_keeps : (k : ℕ) (xs : PlainStatements) (scope : List ℕ) (l b : Bool) → AreWholeStatements (here scope l b) xs → RunKeeps (execute_from s k xs)
    from_keeps k no_statements scope l b i frame w ks so h = goes_keeps frame w ks so h
    from_keeps zero (more_statements x rest) scope l b i frame w ks so h =
        keeps_then p ks Fine Fine (execute s x frame w) _ (execute_keeps x scope l b i.0 frame w ks so h) (λ d w js so g fits.
        go_keeps (λ frame w. execute_from s zero rest frame w) (from_keeps zero rest (scope_after x scope) l b (subst (λ r. AreWholeStatements r rest) (after_is x scope l b) i.1)) d w js so fits)
    from_keeps (suc k) (more_statements x rest) scope l b i frame w ks so h = from_keeps k rest (scope_after x scope) l b (subst (λ r. AreWholeStatements r rest) (after_is x scope l b) i.1) frame w ks so h

    enter_keeps : (k : Option ℕ) (x : PlainStatement) (scope : List ℕ) (l b : Bool) → IsWholeStatement (here scope l b) x → RunKeeps (enter s k x)
    enter_keeps k (statement at form) scope l b i frame w ks so h = enter_form_keeps k form scope l b i frame w ks so h

    enter_form_keeps : (k : Option ℕ) (form : PlainStatementForm) (scope : List ℕ) (l b : Bool) → IsWholeStatementForm (here scope l b) form → RunKeeps (enter_form s k form)
    enter_form_keeps k (block xs) scope l b i frame w ks so h = label_keeps k (λ k frame w. execute_from s k xs frame w) (λ k. from_keeps k xs scope l b i) frame w ks so h
    enter_form_keeps k (declare m i2) scope l b i frame w ks so h = goes_keeps frame w ks so h
    enter_form_keeps k (set q v) scope l b i frame w ks so h = goes_keeps frame w ks so h
    enter_form_keeps k (update kind op t q v) scope l b i frame w ks so h = goes_keeps frame w ks so h
    enter_form_keeps k (copy q r) scope l b i frame w ks so h = goes_keeps frame w ks so h
    enter_form_keeps k (expression v) scope l b i frame w ks so h = goes_keeps frame w ks so h
    enter_form_keeps k (asserts call v) scope l b i frame w ks so h = goes_keeps frame w ks so h
    enter_form_keeps k (declare_static m) scope l b i frame w ks so h = goes_keeps frame w ks so h
    enter_form_keeps k (if_then v x) scope l b i frame w ks so h = goes_keeps frame w ks so h
    enter_form_keeps k (if_else v x y) scope l b i frame w ks so h = goes_keeps frame w ks so h
    enter_form_keeps k (loop head first tested third body) scope l b i frame w ks so h = goes_keeps frame w ks so h
    enter_form_keeps k (switch span v labels body) scope l b i frame w ks so h = goes_keeps frame w ks so h
    enter_form_keeps k break scope l b i frame w ks so h = goes_keeps frame w ks so h
    enter_form_keeps k continue scope l b i frame w ks so h = goes_keeps frame w ks so h
    enter_form_keeps k (return span v) scope l b i frame w ks so h = goes_keeps frame w ks so h
    enter_form_keeps k empty scope l b i frame w ks so h = goes_keeps frame w ks so h
    enter_form_keeps k (mark kind) scope l b i frame w ks so h = goes_keeps frame w ks so h
