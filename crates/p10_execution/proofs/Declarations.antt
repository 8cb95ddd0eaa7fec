-- What is left by declarations.
use Rattle.std.proofs.Common.{◌≡◌, ℕ, suc, ◌+◌, drop, arith, Bool, true, false, List, [], ◌∷◌, ◌++◌, refl, ◌∙◌, ap, sym, subst, Option, Some, None, slice_get, ℤ}
use Rattle.std.specs.Prelude.{slice_set, nat_eq, ◌||◌, is_some, if◌then◌else◌, ◌&&◌}
use Rattle.std.specs.Option.{option_map}
use Rattle.std.proofs.lemmas.Bool.Decides.{nat_tests}
use Rattle.p10_base.specs.declared.span.Span.{Span}
use Rattle.p10_base.specs.declared.at.At.{At}
use Rattle.p10_int.specs.declared.types.IntType.{IntType}
use Rattle.p10_core.specs.Types.{PlainType}
use Rattle.p10_core.specs.Rows.{is_integer}
use Rattle.p10_core.specs.Constants.{integer_of}
use Rattle.p10_core.specs.Typed.{PlainValue, type_of, place_at, statement, declare, PlainWritten, one_scalar, scalars_of_text, PlainItem, PlainInitializer, not_initialized, single, copied, listed, PlainVariable, PlainFunction, PlainProgram}
use Rattle.p10_core.specs.WholePrograms.{around, is_among, IsWholeWritten, width_of_written, AreWholeItems, IsWholeInitializer, Declares, IsWholeProgram}
use Rattle.p10_cert.specs.Claims.{Value, Loop, Claims}
use Rattle.p10_meaning.specs.declared.pointers.Ptr.{Ptr}
use Rattle.p10_meaning.specs.declared.pointers.Scalar.{Scalar}
use Rattle.p10_meaning.specs.declared.pointers.Scalar.TheVariants.{Int}
use Rattle.p10_meaning.specs.Pointers.{unset, holding, first_of}
use Rattle.p10_meaning.specs.declared.pointers.Cell.{Cell}
use Rattle.p10_meaning.specs.Objects.{declared as opened_by_declaration}
use Rattle.p10_meaning.specs.States.{State, Progress}
use Rattle.p10_meaning.specs.Scalars.{unset_cells}
use Rattle.p10_meaning.specs.Values.{Setting, Held, holds, stands, scalars, width, open_object, Target, Variable, Element, pointer_to, evaluate, locate}
use Rattle.p10_meaning.specs.Statements.{Frame, Flow, normal, broken, continued, returned, Done, holding_at, write_part, write_target, written_scalars, listed_scalars, listed_scalar, fill, initialize, declare_variable, execute}
use Rattle.p10_meaning.specs.Calling.{Depth, setting_of, call_at}
use Rattle.p10_meaning.specs.Sound.{Kind, single_of, AllFit, kind_scalars, region_at}
use Rattle.p10_meaning.proofs.Fitting.{grown, get_last, frame_grown, frame_set, sound_push, all_unset}
use Rattle.p10_meaning.proofs.SoundStatements.{AreFew}
use Rattle.p10_meaning.proofs.SoundCalls.{few_variables}
use Rattle.p10_sums.specs.Keeping.{HoldsOf}
use Rattle.p10_absx.specs.Abstract.{Abstract, whole_type}
use Rattle.p10_absx.specs.Environments.{Environment, known, learned}
use Rattle.p10_absx.specs.Assessing.{abstract_value}
use Rattle.p10_absx.specs.Describing.{HoldsNumber, Describes, MaybeDescribes, MaybeHolds}
use Rattle.p10_pass.specs.Arguments.{has_value, failing_in, failing_at}
use Rattle.p10_pass.specs.Passing.{Left, Manner, manner_in, reached, where_going, value_passed, items_passed, integer_declared, other_declared, declared as declared_left, pass_statement}
use Rattle.p10_evaluation.specs.Claimed.{ResultsLie}
use Rattle.p10_evaluation.specs.Laws.{IsHeldBy}
use Rattle.p10_execution.specs.Scoping.{IsNumber, IsBefore}
use Rattle.p10_execution.specs.Standing.{StandsSoundly}
use Rattle.p10_execution.specs.Leaving.{NoneFails, LeavesAs}
use Rattle.p10_execution.proofs.Giving.{holds_step, holds_then, holds_after, holds_or, holds_weaker}
use Rattle.p10_execution.proofs.InFrame.{cell_set, object_set}
use Rattle.p10_execution.proofs.Frames.{number_fits, held_there, unknown_set, learned_set, whole_unset}
use Rattle.p10_execution.proofs.Ends.{calls_none, followed_none_left, followed_none_right, reached_as, GoesAs}
use Rattle.p10_execution.proofs.Storing.{Goes, goes_element}
use Rattle.p10_execution.proofs.SimpleStatements.{integer_unqualified, copy_same, goes_says}
use Rattle.p10_execution.proofs.Parts.{ready_step, Valued, valued}

fill_same : (variables : List PlainVariable) (head : List Held) (env : Environment) (span : Span) (xs : List (ℕ × Scalar)) (types : List PlainType) (i : ℕ) (q : Ptr) (frame : Frame) (w : State) → Describes variables env head frame.held →
    HoldsOf (Goes variables head (Some env)) (fill span xs types i q frame w)
fill_same variables head env span xs [] i q frame w d = d
fill_same variables head env span xs (t ∷ types) i q frame w d =
    holds_step (Goes variables head (Some env)) w _ (λ left _. holds_or (Goes variables head (Some env)) (write_part w.objects q i (holding (listed_scalar i t xs))) span (record w { left = left }) _ (λ objects _.
    fill_same variables head env span xs types (suc i) q frame (record w { left = left; objects = objects }) d))

pub nat_eq_itself : (k : ℕ) → nat_eq k k ≡ true
nat_eq_itself k = grind (arith, nat_tests)

one_list : (ts : List PlainType) → ts ≡ ts ++ []
one_list [] = refl
one_list (t ∷ ts) = ap (λ ts. t ∷ ts) (one_list ts)

module _ (p : PlainProgram) (whole : IsWholeProgram p) (n : ℕ) (depth : Depth) (number : ℕ) (f : PlainFunction) (there : slice_get p.functions number ≡ Some f)
    (calls : Option Claims) (loops : Option (List Loop)) (result : Option Value) (lie : ResultsLie p calls n (call_at n p depth)) where
  abbrev s : Setting
  s = setting_of p n (call_at n p) depth f

  abbrev m : Manner
  m = manner_in f calls loops result

  abbrev Stand : Frame → State → Type 0
  Stand frame w = StandsSoundly p f.variables n frame w

  abbrev Says : Left → List Held → Done → State → Type 0
  Says a head d w = LeavesAs f.variables m a head d.flow d.frame.held

  abbrev ValueOf : Environment → List Held → PlainValue → Frame → Scalar → State → Type 0
  ValueOf env head v frame x w = Valued p whole n depth number f there calls lie env head v frame x w

  reached_says : (o : Option Environment) (head : List Held) (run : Progress Done) → HoldsOf (Goes f.variables head o) run → HoldsOf (Says (reached o) head) run
  reached_says o head run h = holds_weaker (Goes f.variables head o) (Says (reached o) head) run h (λ d w k. reached_as f.variables m head d.frame.held o d.flow k)

  -- ## The new variable

  abbrev pub unset_frame : ℕ → Frame → Frame
  unset_frame k frame = holding_at frame k (holds unset)

  pub unset_ready : (k : ℕ) (v : PlainVariable) → slice_get f.variables k ≡ Some v → (frame : Frame) (w : State) → Stand frame w → Stand (unset_frame k frame) w
  unset_ready k v is frame w r = record {
    kinds = r.kinds;
    sound = r.sound;
    fits = frame_set p r.kinds f.variables frame.held k v (holds unset) r.fits is tt;
    in_frame = cell_set f.variables frame.held k unset r.in_frame;
    left = r.left;
  }

  abbrev pub object_frame : ℕ → ℕ → Frame → Frame
  object_frame k o frame = record { held = slice_set frame.held k (stands o); opened = o ∷ frame.opened }

  abbrev pub opened_for : PlainVariable → State → State
  opened_for v w = open_object opened_by_declaration (unset_cells (scalars p v.type)) w

  pub object_ready : (k : ℕ) (v : PlainVariable) → slice_get f.variables k ≡ Some v → v.frame ≡ false → (frame : Frame) (w : State) → Stand frame w → Stand (object_frame k w.opened frame) (opened_for v w)
  object_ready k v is apart frame w r =
      let kind : Kind = single_of p v.type in
      let js : List Kind = r.kinds ++ kind ∷ [] in
      let there_is : slice_get js w.opened ≡ Some kind = subst (λ m. slice_get js m ≡ Some kind) r.sound.count (get_last r.kinds kind) in
      let few : AreFew p f.variables = few_variables p whole number f (whole.functions number f there) in
      record {
        kinds = js;
        sound = sound_push p r.kinds w.objects w.opened w.input w.sensors kind opened_by_declaration (unset_cells (scalars p v.type)) r.sound (few.few k v is) (unset_single js v.type);
        fits = frame_set p js f.variables frame.held k v (stands w.opened) (frame_grown p r.kinds js f.variables frame.held (grown r.kinds kind) r.fits) is there_is;
        in_frame = object_set f.variables frame.held k w.opened v is apart r.in_frame;
        left = r.left;
      }
    where
      unset_single : (js : List Kind) (t : PlainType) → AllFit p js (kind_scalars p (single_of p t)) (unset_cells (scalars p t))
      unset_single js t = subst (λ ts. AllFit p js ts (unset_cells (scalars p t))) (one_list (scalars p t)) (all_unset p js (scalars p t))

  -- ## Initialisers of other variables

  abbrev pub written_left : Environment → PlainWritten → Left
  written_left env (one_scalar v) = value_passed m v env
  written_left env (scalars_of_text bytes) = reached (Some env)

  abbrev pub Written : Environment → Frame → PlainWritten → List (ℕ × Scalar) → State → Type 0
  Written env frame written xs w = Stand frame w × ((written_left env written).normal ≡ Some env)

  pub written_known : (scope : List ℕ) (ts : List PlainType) (i : ℕ) (written : PlainWritten) → IsWholeWritten (around (region_at p number f scope false false)) ts written → (env : Environment) → NoneFails (written_left env written) → (head : List Held) (frame : Frame) (w : State) → Stand frame w → Describes f.variables env head frame.held →
      HoldsOf (Written env frame written) (written_scalars s frame.held i written w)
  written_known scope ts i (one_scalar v) whole_v env none head frame w r d =
      holds_then (ValueOf env head v frame) (Written env frame (one_scalar v)) (evaluate s frame.held v w) _
      (valued p whole n depth number f there calls lie scope v whole_v.whole env head frame w (calls_none (failing_in calls v env) (reached (if has_value calls v env then Some env else None)) none) r d)
      (λ x w h. (h.ready, ap (λ b. if b then Some env else None) h.found.has))
  written_known scope ts i (scalars_of_text bytes) whole_v env none head frame w r d = (r, refl)

  pub items_known : (scope : List ℕ) (ts : List PlainType) (from : ℕ) (items : List PlainItem) → AreWholeItems (around (region_at p number f scope false false)) ts from items → (env : Environment) → NoneFails (items_passed m items env) → (head : List Held) (frame : Frame) (w : State) → Stand frame w → Describes f.variables env head frame.held →
      HoldsOf (λ xs w. (items_passed m items env).normal ≡ Some env) (listed_scalars s frame.held items w)
  items_known scope ts from [] i env none head frame w r d = refl
  items_known scope ts from (item ∷ items) i env none head frame w r d =
      let go : Environment → Left = λ env. items_passed m items env in
      let a : Left = written_left env item.written in
      let P : List (ℕ × Scalar) → State → Type 0 = λ xs w. (items_passed m (item ∷ items) env).normal ≡ Some env in
      holds_then (Written env frame item.written) P (written_scalars s frame.held item.scalar item.written w) _
      (written_known scope (drop item.scalar ts) item.scalar item.written i.1 env (followed_none_left a (where_going a.normal go) none) head frame w r d) (λ xs w h.
      holds_then (λ ys w. (items_passed m items env).normal ≡ Some env) P (listed_scalars s frame.held items w) _
      (items_known scope ts (item.scalar + width_of_written item.written) items i.2 env (subst (λ o. NoneFails (where_going o go)) h.1 (followed_none_right a (where_going a.normal go) none)) head frame w h.0 d)
      (λ ys w e. ap (λ o. (where_going o go).normal) h.1 ∙ e))

  -- the initialiser of a variable of which nothing is known
  other_says : (scope : List ℕ) (span : Span) (t : PlainType) (target : Target) (initializer : PlainInitializer) → IsWholeInitializer (around (region_at p number f scope false false)) t initializer → (env : Environment) → NoneFails (other_declared m initializer env) → (head : List Held) (frame : Frame) (w : State) → Stand frame w → Describes f.variables env head frame.held →
      ((cell : Cell) (w : State) → HoldsOf (Goes f.variables head (Some env)) (write_target span target cell frame w)) →
      HoldsOf (Says (other_declared m initializer env) head) (initialize s span t target initializer frame w)
  other_says scope span t target not_initialized i env none head frame w r d writes = d
  other_says scope span t target (single v) i env none head frame w r d writes =
      let o : Option Environment = if has_value calls v env then Some env else None in
      goes_says p whole n depth number f there calls loops result lie (failing_in calls v env) o head (initialize s span t target (single v) frame w)
      (holds_then (ValueOf env head v frame) (Goes f.variables head o) (evaluate s frame.held v w) _
      (valued p whole n depth number f there calls lie scope v i.whole env head frame w (calls_none (failing_in calls v env) (reached o) none) r d)
      (λ x w h. subst (λ b. HoldsOf (Goes f.variables head (if b then Some env else None)) (write_target span target (holding x) frame w)) (sym h.found.has) (writes (holding x) w)))
  other_says scope span t target (copied q) i env none head frame w r d writes =
      goes_says p whole n depth number f there calls loops result lie (failing_at calls q env) (Some env) head (initialize s span t target (copied q) frame w)
      (holds_step (Goes f.variables head (Some env)) w _ (λ left e. holds_after (Goes f.variables head (Some env)) (locate s frame.held q (record w { left = left })) _ (λ source w.
      copy_same f.variables head env (width p t) 0 span (pointer_to target) (place_at q).span (pointer_to source) frame w d)))
  other_says scope span t target (listed at items) i env none head frame w r d writes =
      holds_then (λ xs w. (items_passed m items env).normal ≡ Some env) (Says (items_passed m items env) head) (listed_scalars s frame.held items w) _ (items_known scope _ 0 items i.whole env none head frame w r d) (λ xs w e.
      holds_weaker (Goes f.variables head (Some env)) (Says (items_passed m items env) head) (fill span xs (scalars p t) 0 (pointer_to target) frame w) (fill_same f.variables head env span xs (scalars p t) 0 (pointer_to target) frame w d)
      (λ d w k. normal_says (items_passed m items env) env head d.flow d.frame.held e k))
    where
      normal_says : (a : Left) (env : Environment) (head : List Held) (flow : Flow) (held : List Held) → a.normal ≡ Some env → GoesAs f.variables head held (Some env) flow → LeavesAs f.variables m a head flow held
      normal_says a env head normal held e k = subst (λ o. MaybeDescribes f.variables o head held) (sym e) k
      normal_says a env head broken held e k = absurd k
      normal_says a env head continued held e k = absurd k
      normal_says a env head (returned x) held e k = absurd k

  -- ## Integer frame variables

  integer_says : (scope : List ℕ) (span : Span) (k : ℕ) (v : PlainVariable) → (is : slice_get f.variables k ≡ Some v) → v.frame ≡ true → (i : is_integer v.type ≡ true) → (initializer : PlainInitializer) → IsWholeInitializer (around (region_at p number f scope false false)) v.type initializer →
      (env : Environment) → NoneFails (integer_declared m k (integer_of v.type) initializer env) → (head : List Held) (frame : Frame) (w : State) → Stand frame w → Describes f.variables env head frame.held →
      HoldsOf (Says (integer_declared m k (integer_of v.type) initializer env) head) (initialize s span v.type (Variable k) initializer (unset_frame k frame) w)
  integer_says scope span k v is fr i initializer iw env none head frame w r d = of initializer iw none
    where
      kind : IntType
      kind = integer_of v.type

      variable_is : IsNumber f.variables k
      variable_is = record { variable = v; there = is; frame_is = fr; integer_is = i }

      seen : Environment
      seen = learned env k (whole_type kind)

      ready : Stand (unset_frame k frame) w
      ready = unset_ready k v is frame w r

      described : Describes f.variables seen head (unset_frame k frame).held
      described = learned_set f.variables env head frame.held k (holds unset) (whole_type kind) variable_is ready.in_frame (held_there p r.kinds f.variables frame.held k v r.fits is) (whole_unset kind k) d

      written : (a : Abstract) (z : ℤ) (w : State) → Stand (unset_frame k frame) w → HoldsNumber head a z → HoldsOf (Goes f.variables head (Some (learned seen k a))) (write_target span (Variable k) (holding (Int z)) (unset_frame k frame) w)
      written a z w r h = learned_set f.variables seen head (unset_frame k frame).held k (holds (holding (Int z))) a variable_is (cell_set f.variables (unset_frame k frame).held k (holding (Int z)) r.in_frame) (held_there p r.kinds f.variables (unset_frame k frame).held k v r.fits is) h described

      stored_in : (o : Option Abstract) (z : ℤ) (x : Scalar) (w : State) → Stand (unset_frame k frame) w → x ≡ Int z → MaybeHolds head o z → HoldsOf (Goes f.variables head (option_map (learned seen k) o)) (write_target span (Variable k) (holding x) (unset_frame k frame) w)
      stored_in None z x w r e h = absurd h
      stored_in (Some a) z x w r e h = subst (λ y. HoldsOf (Goes f.variables head (Some (learned seen k a))) (write_target span (Variable k) (holding y) (unset_frame k frame) w)) (sym e) (written a z w r h)

      of : (initializer : PlainInitializer) → IsWholeInitializer (around (region_at p number f scope false false)) v.type initializer → NoneFails (integer_declared m k kind initializer env) →
          HoldsOf (Says (integer_declared m k kind initializer env) head) (initialize s span v.type (Variable k) initializer (unset_frame k frame) w)
      of not_initialized iw none = described
      of (single e) iw none =
          let o : Option Environment = option_map (learned seen k) (abstract_value calls seen e) in
          goes_says p whole n depth number f there calls loops result lie (failing_in calls e seen) o head (initialize s span v.type (Variable k) (single e) (unset_frame k frame) w)
          (holds_then (ValueOf seen head e (unset_frame k frame)) (Goes f.variables head o) (evaluate s (unset_frame k frame).held e w) _
          (valued p whole n depth number f there calls lie scope e iw.whole seen head (unset_frame k frame) w (calls_none (failing_in calls e seen) (reached o) none) ready described) (λ x w h.
          let y = number_fits p h.ready.kinds (type_of e) x (ap is_integer iw.type_is ∙ (integer_unqualified v.type ∙ i)) h.typed in
          stored_in (abstract_value calls seen e) y.0 x w h.ready y.1 (subst (λ x. IsHeldBy head (abstract_value calls seen e) x) y.1 h.found.held_by)))
      of (copied q) iw none = reached_says (Some seen) head (initialize s span v.type (Variable k) (copied q) (unset_frame k frame) w)
          (holds_step (Goes f.variables head (Some seen)) w _ (λ left e. holds_after (Goes f.variables head (Some seen)) (locate s (unset_frame k frame).held q (record w { left = left })) _ (λ source w.
          copy_same f.variables head seen (width p v.type) 0 span (pointer_to (Variable k)) (place_at q).span (pointer_to source) (unset_frame k frame) w described)))
      of (listed at items) iw none = reached_says (Some seen) head (initialize s span v.type (Variable k) (listed at items) (unset_frame k frame) w)
          (holds_after (Goes f.variables head (Some seen)) (listed_scalars s (unset_frame k frame).held items w) _ (λ xs w.
          fill_same f.variables head seen span xs (scalars p v.type) 0 (pointer_to (Variable k)) (unset_frame k frame) w described))

  -- ## Declarations

  declared_says : (scope : List ℕ) (span : Span) (k : ℕ) (v : PlainVariable) → slice_get f.variables k ≡ Some v → (initializer : PlainInitializer) → IsWholeInitializer (around (region_at p number f scope false false)) v.type initializer → (env : Environment) → is_some (known env k) ≡ false →
      (fr it : Bool) → v.frame ≡ fr → is_integer v.type ≡ it → NoneFails (if fr && it then integer_declared m k (integer_of v.type) initializer env else other_declared m initializer env) → (head : List Held) (frame : Frame) (w : State) → Stand frame w → Describes f.variables env head frame.held →
      HoldsOf (Says (if fr && it then integer_declared m k (integer_of v.type) initializer env else other_declared m initializer env) head)
      (if fr then initialize s span v.type (Variable k) initializer (unset_frame k frame) w
      else initialize s span v.type (Element (first_of w.opened (width p v.type) 1)) initializer (object_frame k w.opened frame) (opened_for v w))
  declared_says scope span k v is initializer iw env fresh true true fr it none head frame w r d = integer_says scope span k v is fr it initializer iw env none head frame w r d
  declared_says scope span k v is initializer iw env fresh true false fr it none head frame w r d =
      let seen : Describes f.variables env head (unset_frame k frame).held = unknown_set f.variables env head frame.held k (holds unset) fresh d in
      other_says scope span v.type (Variable k) initializer iw env none head (unset_frame k frame) w (unset_ready k v is frame w r) seen
      (λ cell w. unknown_set f.variables env head (unset_frame k frame).held k (holds cell) fresh seen)
  declared_says scope span k v is initializer iw env fresh false it fr e none head frame w r d =
      let seen : Describes f.variables env head (object_frame k w.opened frame).held = unknown_set f.variables env head frame.held k (stands w.opened) fresh d in
      other_says scope span v.type (Element (first_of w.opened (width p v.type) 1)) initializer iw env none head (object_frame k w.opened frame) (opened_for v w) (object_ready k v is fr frame w r) seen
      (λ cell w2. goes_element f.variables head env span (first_of w.opened (width p v.type) 1) cell (object_frame k w.opened frame) w2 seen)

  pub declare_says : (scope : List ℕ) (l b : Bool) (at : At) (k : ℕ) (initializer : PlainInitializer) → Declares (region_at p number f scope l b) k initializer → (env : Environment) → IsBefore f.variables (k ∷ []) env → NoneFails (pass_statement m (statement at (declare k initializer)) env) →
      (head : List Held) (frame : Frame) (w : State) → Stand frame w → Describes f.variables env head frame.held →
      HoldsOf (Says (pass_statement m (statement at (declare k initializer)) env) head) (execute s (statement at (declare k initializer)) frame w)
  declare_says scope l b at k initializer i env before none head frame w r d =
      holds_step (Says (pass_statement m (statement at (declare k initializer)) env) head) w _ (λ left e.
      subst (λ o. HoldsOf (Says (declared_left m k o initializer env) head) (declare_variable s at.span k o initializer frame (record w { left = left }))) (sym i.there)
      (declared_says (k ∷ scope) at.span k i.variable i.there initializer i.initializer env (before.fresh k here) i.variable.frame (is_integer i.variable.type) refl refl
      (subst (λ o. NoneFails (declared_left m k o initializer env)) i.there none) head frame (record w { left = left }) (ready_step p whole n depth number f there frame w left e r) d))
    where
      here : is_among k (k ∷ []) ≡ true
      here = ap (λ t. t || false) (nat_eq_itself k)
