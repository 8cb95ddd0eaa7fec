-- Declarations leave clean states: a variable of the frame is unset and perhaps set, and an object is opened and initialised.
use Rattle.std.proofs.Common.{◌≡◌, ℕ, Bool, true, false, List, [], ◌∷◌, ◌++◌, refl, ◌∙◌, ap, sym, subst, Option, Some, slice_get}
use Rattle.std.specs.Prelude.{slice_set, nat_eq, ◌||◌, ◌&&◌, is_some, if◌then◌else◌}
use Rattle.std.proofs.lemmas.Bool.{eqb-true, eqb-false}
use Rattle.p10_base.specs.declared.span.Span.{Span}
use Rattle.p10_base.specs.declared.at.At.{At}
use Rattle.p10_core.specs.Rows.{is_scalar, is_integer}
use Rattle.p10_core.specs.Constants.{integer_of}
use Rattle.p10_core.specs.Typed.{PlainStatement, statement, declare, PlainInitializer, not_initialized, single, copied, listed, PlainVariable, PlainFunction, PlainProgram}
use Rattle.p10_core.specs.WholePrograms.{Region, is_among, around, Declares, IsWholeInitializer, IsWholeProgram}
use Rattle.p10_cert.specs.Claims.{Value, Loop, Claims}
use Rattle.p10_meaning.specs.Pointers.{unset, holding, first_of}
use Rattle.p10_meaning.specs.Objects.{declared, Object}
use Rattle.p10_meaning.specs.States.{State, Progress}
use Rattle.p10_meaning.specs.Scalars.{unset_cells}
use Rattle.p10_meaning.specs.Values.{Setting, Held, holds, stands, scalars, width, Variable, Element, evaluate}
use Rattle.p10_meaning.specs.Statements.{Frame, Done, initialize, declare_variable}
use Rattle.p10_meaning.specs.Calling.{Depth, setting_of, call_at}
use Rattle.p10_meaning.specs.Sound.{region_at}
use Rattle.p10_absx.specs.Abstract.{whole_type}
use Rattle.p10_absx.specs.Environments.{Environment, known, learned}
use Rattle.p10_absx.specs.Describing.{Describes}
use Rattle.p10_absx.proofs.Entries.{get_other}
use Rattle.p10_pass.specs.Arguments.{failing_in}
use Rattle.p10_pass.specs.Passing.{Manner, manner_in, integer_declared, other_declared, declared as declared_left}
use Rattle.p10_evaluation.specs.Claimed.{ResultsLie}
use Rattle.p10_execution.specs.Scoping.{IsNumber}
use Rattle.p10_execution.specs.Standing.{StandsSoundly}
use Rattle.p10_execution.specs.Leaving.{NoneFails}
use Rattle.p10_execution.proofs.InFrame.{cell_set}
use Rattle.p10_execution.proofs.Frames.{held_there, set_here, unknown_set, learned_set, whole_unset}
use Rattle.p10_execution.proofs.Declarations.{nat_eq_itself, unset_frame, unset_ready, object_frame, opened_for, object_ready}
use Rattle.p10_execution.proofs.Ends.{nothing_left, nothing_right, calls_none}
use Rattle.p10_clean.specs.Settings.{Settings, marked_as}
use Rattle.p10_clean.specs.Values.{flaw_if}
use Rattle.p10_clean.specs.Statements.{lacks_value, flaws_in_initializer, declaration_flaws}
use Rattle.p10_clean_soundness.specs.private.Stays.{Stays}
use Rattle.p10_clean_soundness.specs.private.Objects.{IsLive, LeavesClean}
use Rattle.p10_clean_soundness.proofs.Staying.{stays_step, stays_then, stays_weaker, stays_with}
use Rattle.p10_clean_soundness.proofs.Afterwards.{PlacesClean}
use Rattle.p10_clean_soundness.proofs.Apart.{not_in_scope}
use Rattle.p10_clean_soundness.proofs.Closing.{leaves_same, survive_trans}
use Rattle.p10_clean_soundness.proofs.Moving.{NewLive}
use Rattle.p10_clean_soundness.proofs.Reaching.{Stand, stand_step, ValuesClean, AfterValue, value_next, GoesClean}
use Rattle.p10_clean_soundness.proofs.SettingUp.{unscoped_set, declared_unset}
use Rattle.p10_clean_soundness.proofs.SettingLaws.{fits_room, of_function}
use Rattle.p10_clean_soundness.proofs.SettingWrites.{KeepsFrame, initialize_stays, not_structure}
use Rattle.p10_clean_soundness.proofs.NewObjects.{IsFull, IsOpen, opened_survive, opened_live, opened_settled, opened_apart, opened_new, full_settled}
use Rattle.p10_clean_soundness.proofs.Initializing.{unqualified_scalar, initialize_full}

-- a condition that holds gives no flaw
no_flaw : (fails : Bool) (c : ℕ) (at : Span) → flaw_if fails c at ≡ [] → fails ≡ false
no_flaw true c at e = absurd cc
no_flaw false c at e = refl

module _ (p : PlainProgram) (whole : IsWholeProgram p) (n : ℕ) (depth : Depth) (number : ℕ) (f : PlainFunction) (there : slice_get p.functions number ≡ Some f)
    (calls : Option Claims) (loops : Option (List Loop)) (result : Option Value) (lie : ResultsLie p calls n (call_at n p depth)) where
  abbrev s : Setting
  s = setting_of p n (call_at n p) depth f

  abbrev m : Manner
  m = manner_in f calls loops result

  abbrev here : List ℕ → Bool → Bool → Region
  here scope l b = region_at p number f scope l b

  abbrev Stands : List ℕ → List ℕ → Settings → Frame → State → Type 0
  Stands scope opening settings frame w = Stand p whole n depth number f there calls loops result lie scope opening settings frame w

  abbrev without_value : ℕ → Frame → Frame
  without_value k frame = unset_frame p whole n depth number f there calls loops result lie k frame

  abbrev with_object : ℕ → ℕ → Frame → Frame
  with_object k o frame = object_frame p whole n depth number f there calls loops result lie k o frame

  abbrev opened : PlainVariable → State → State
  opened v w = opened_for p whole n depth number f there calls loops result lie v w

  -- a frame variable that fits is there in each frame that fits
  held_is : (k : ℕ) (v : PlainVariable) → slice_get f.variables k ≡ Some v → (frame : Frame) (w : State) → StandsSoundly p f.variables n frame w → is_some (slice_get frame.held k) ≡ true
  held_is k v is frame w r = held_there p r.kinds f.variables frame.held k v r.fits is

  -- what a declaration leaves
  abbrev pub Declared : ℕ → List ℕ → List Object → Done → State → Type 0
  Declared k opening before d u = LeavesClean p opening before u × ((j object : ℕ) → nat_eq j k ≡ true → slice_get d.frame.held j ≡ Some (stands object) → IsLive declared opening u.objects object)

  -- ## Variables of the frame

  -- the frame with a variable that isn't set
  stand_unset : (scope opening : List ℕ) (settings : Settings) (k : ℕ) (v : PlainVariable) → slice_get f.variables k ≡ Some v → v.frame ≡ true → (frame : Frame) (w : State) → Stands scope opening settings frame w → Stands (k ∷ scope) opening (marked_as false k settings) (without_value k frame) w
  stand_unset scope opening settings k v is fr frame w h =
      let ready : StandsSoundly p f.variables n (without_value k frame) w = unset_ready p whole n depth number f there calls loops result lie k v is frame w h.soundly in
      record {
        soundly = ready;
        set_up = declared_unset f.variables scope settings frame.held k v is fr (fits_room p h.soundly.kinds f.variables frame.held h.soundly.fits) h.set_up;
        live = record { each = λ j o e q. by_case ready j o (nat_eq j k) refl e q };
        settled = h.settled;
      }
    where
      by_case : StandsSoundly p f.variables n (without_value k frame) w → (j o : ℕ) (b : Bool) → nat_eq j k ≡ b → (b || is_among j scope) ≡ true → slice_get (without_value k frame).held j ≡ Some (stands o) → IsLive declared opening w.objects o
      by_case ready j o true same e q = absurd (ready.in_frame.no_object k v o is fr (ap (slice_get (without_value k frame).held) (sym (eqb-true j k same)) ∙ q))
      by_case ready j o false other e q = h.live.each j o e (sym (get_other frame.held k j (holds unset) (eqb-false j k other)) ∙ q)

  -- no object stands for it
  no_object : (k : ℕ) (v : PlainVariable) → slice_get f.variables k ≡ Some v → v.frame ≡ true → (opening : List ℕ) (frame : Frame) (w u : State) → StandsSoundly p f.variables n frame w → (j object : ℕ) → nat_eq j k ≡ true → slice_get frame.held j ≡ Some (stands object) → IsLive declared opening u.objects object
  no_object k v is fr opening frame w u r j object same q = absurd (r.in_frame.no_object k v object is fr (ap (slice_get frame.held) (sym (eqb-true j k same)) ∙ q))

  -- the calls of a value don't fail
  abbrev LieIn : PlainInitializer → Environment → Type 0
  LieIn (single e) seen = failing_in calls e seen ≡ []
  LieIn initializer seen = Unit {0}

  module _ (values : ValuesClean p whole n depth number f there calls loops result lie) where
    frame_clean : (scope opening : List ℕ) (settings : Settings) (k : ℕ) (v : PlainVariable) → slice_get f.variables k ≡ Some v → v.frame ≡ true → is_scalar v.type ≡ true → (span : Span) (initializer : PlainInitializer) → IsWholeInitializer (around (here (k ∷ scope) false false)) v.type initializer →
        (seen : Environment) → LieIn initializer seen → flaws_in_initializer m (marked_as false k settings) initializer seen ≡ [] → (head : List Held) (frame : Frame) (w : State) → Stands scope opening settings frame w → Describes f.variables seen head (without_value k frame).held →
        Stays (Declared k opening w.objects) (initialize s span v.type (Variable k) initializer (without_value k frame) w)
    frame_clean scope opening settings k v is fr scalar span not_initialized iw seen none flaws head frame w h d =
        let after : Stands (k ∷ scope) opening (marked_as false k settings) (without_value k frame) w = stand_unset scope opening settings k v is fr frame w h in
        (leaves_same p opening w h.settled, no_object k v is fr opening (without_value k frame) w w after.soundly)
    frame_clean scope opening settings k v is fr scalar span (single e) iw seen none flaws head frame w h d =
        let unset_is : Stands (k ∷ scope) opening (marked_as false k settings) (without_value k frame) w = stand_unset scope opening settings k v is fr frame w h in
        stays_then (AfterValue p whole n depth number f there calls loops result lie (k ∷ scope) opening (marked_as false k settings) seen head e (without_value k frame) w.objects) (Declared k opening w.objects) (evaluate s (without_value k frame).held e w) _
        (value_next p whole n depth number f there calls loops result lie values (k ∷ scope) e iw.whole (ap is_scalar iw.type_is ∙ (unqualified_scalar v.type ∙ iw.scalar)) seen head (without_value k frame) w (marked_as false k settings) opening unset_is d none flaws)
        (λ x u a. (a.clean, λ j object same q. absurd ((cell_set f.variables (without_value k frame).held k (holding x) a.stands.soundly.in_frame).no_object k v object is fr (ap (slice_get (slice_set (without_value k frame).held k (holds (holding x)))) (sym (eqb-true j k same)) ∙ q))))
    frame_clean scope opening settings k v is fr scalar span (copied q) iw seen none flaws head frame w h d = absurd (not_structure s scope settings v.type iw.number scalar iw.target_is)
    frame_clean scope opening settings k v is fr scalar span (listed at items) iw seen none flaws head frame w h d = let no : is_scalar v.type ≡ false = iw.aggregate in absurd cc

    module _ (places : PlacesClean p whole n depth number f there calls loops result lie) where
      -- ## Objects

      -- the frame with the object that is opened
      stand_opened : (scope opening : List ℕ) (settings : Settings) (k : ℕ) (v : PlainVariable) → slice_get f.variables k ≡ Some v → v.frame ≡ false → is_among k scope ≡ false → (frame : Frame) (w : State) → Stands scope opening settings frame w →
          Stands scope (w.opened ∷ opening) settings (with_object k w.opened frame) (opened v w)
      stand_opened scope opening settings k v is isnt fresh frame w h = record {
        soundly = object_ready p whole n depth number f there calls loops result lie k v is isnt frame w h.soundly;
        set_up = unscoped_set f.variables scope settings frame.held k (stands w.opened) fresh h.set_up;
        live = record { each = λ j o e q. opened_live p h.soundly.kinds w h.soundly.sound opening (unset_cells (scalars p v.type)) declared o (h.live.each j o e (sym (get_other frame.held k j (stands w.opened) (apart j e)) ∙ q)) };
        settled = opened_settled p h.soundly.kinds w h.soundly.sound opening (unset_cells (scalars p v.type)) h.settled;
      }
        where
          apart : (j : ℕ) → is_among j scope ≡ true → j ≡ k → ⊥
          apart j e same = let no : is_among j scope ≡ false = ap (λ j. is_among j scope) same ∙ fresh in absurd cc

      object_clean : (scope opening : List ℕ) (settings : Settings) (k : ℕ) (v : PlainVariable) → slice_get f.variables k ≡ Some v → v.frame ≡ false → is_among k scope ≡ false → (span : Span) (initializer : PlainInitializer) → IsWholeInitializer (around (here (k ∷ scope) false false)) v.type initializer → lacks_value k initializer ≡ false →
          (env : Environment) → NoneFails (other_declared m initializer env) → flaws_in_initializer m settings initializer env ≡ [] → (head : List Held) (frame : Frame) (w : State) → Stands scope opening settings frame w → Describes f.variables env head (with_object k w.opened frame).held →
          Stays (Declared k opening w.objects) (initialize s span v.type (Element (first_of w.opened (width p v.type) 1)) initializer (with_object k w.opened frame) (opened v w))
      object_clean scope opening settings k v is isnt fresh span initializer iw lacks env none flaws head frame w h d =
          let o : ℕ = w.opened in
          let held : Frame = with_object k o frame in
          let at : slice_get held.held k ≡ Some (stands o) = set_here frame.held k (stands o) (held_is k v is frame w h.soundly) in
          let start : IsOpen o (opened v w).objects = opened_new p h.soundly.kinds w h.soundly.sound opening (unset_cells (scalars p v.type)) in
          let Full : Done → State → Type 0 = λ d u. LeavesClean p (o ∷ opening) (opened v w).objects u × IsFull o u.objects in
          let run : Progress Done = initialize s span v.type (Element (first_of o (width p v.type) 1)) initializer held (opened v w) in
          stays_weaker (λ d u. Full d u × KeepsFrame held d u) (Declared k opening w.objects) run
          (stays_with Full (KeepsFrame held) run
          (initialize_full p whole n depth number f there calls loops result lie values places scope (o ∷ opening) settings held k o v is at (of_function p whole n (call_at n p) depth number f there scope false false).scalars span initializer lacks iw env none flaws head (opened v w)
          (stand_opened scope opening settings k v is isnt fresh frame w h) d start)
          (initialize_stays s span v.type (first_of o (width p v.type) 1) initializer held (opened v w)))
          (λ d u a.
          let live = a.0.0.survive.each o start.object start.live in (
            record { settled = full_settled p o opening u.objects a.0.1 a.0.0.settled; survive = survive_trans w.objects (opened v w).objects u.objects (opened_survive p h.soundly.kinds w h.soundly.sound opening (unset_cells (scalars p v.type))) a.0.0.survive },
            λ j object same q.
                let stood : slice_get held.held k ≡ Some (stands object) = ap (λ (d : Done). slice_get d.frame.held k) (sym a.1) ∙ (ap (slice_get d.frame.held) (sym (eqb-true j k same)) ∙ q) in
                let one : Some (stands o) ≡ Some (stands object) = sym at ∙ stood in
                let number_is : o ≡ object = cc in
                subst (λ o. IsLive declared opening u.objects o) number_is (record { object = live.object; there = live.there; origin_is = live.origin_is ∙ start.origin_is; apart = opened_apart p h.soundly.kinds w h.soundly.sound opening (unset_cells (scalars p v.type)) h.settled }),
          ))

      -- ## Declarations

      -- an integer variable of the frame is known where its initialiser is evaluated, with any value of its type
      describes_seen : (k : ℕ) (v : PlainVariable) → slice_get f.variables k ≡ Some v → v.frame ≡ true → (it : Bool) → is_integer v.type ≡ it → (env : Environment) → is_some (known env k) ≡ false → (head : List Held) (frame : Frame) (w : State) → StandsSoundly p f.variables n frame w → Describes f.variables env head frame.held →
          Describes f.variables (if it then learned env k (whole_type (integer_of v.type)) else env) head (without_value k frame).held
      describes_seen k v is fr true i env fresh head frame w r d =
          let number_is : IsNumber f.variables k = record { variable = v; there = is; frame_is = fr; integer_is = i } in
          let ready : StandsSoundly p f.variables n (without_value k frame) w = unset_ready p whole n depth number f there calls loops result lie k v is frame w r in
          learned_set f.variables env head frame.held k (holds unset) (whole_type (integer_of v.type)) number_is ready.in_frame (held_is k v is frame w r) (whole_unset (integer_of v.type) k) d
      describes_seen k v is fr false i env fresh head frame w r d = unknown_set f.variables env head frame.held k (holds unset) fresh d

      lie_in : (k : ℕ) (v : PlainVariable) (it : Bool) (initializer : PlainInitializer) (env : Environment) → NoneFails (if it then integer_declared m k (integer_of v.type) initializer env else other_declared m initializer env) → LieIn initializer (if it then learned env k (whole_type (integer_of v.type)) else env)
      lie_in k v true not_initialized env none = tt
      lie_in k v true (single e) env none = calls_none (failing_in calls e (learned env k (whole_type (integer_of v.type)))) _ none
      lie_in k v true (copied q) env none = tt
      lie_in k v true (listed at items) env none = tt
      lie_in k v false not_initialized env none = tt
      lie_in k v false (single e) env none = calls_none (failing_in calls e env) _ none
      lie_in k v false (copied q) env none = tt
      lie_in k v false (listed at items) env none = tt

      variable_clean : (scope opening : List ℕ) (settings : Settings) (k : ℕ) (v : PlainVariable) → slice_get f.variables k ≡ Some v → is_among k scope ≡ false → (span : Span) (initializer : PlainInitializer) → IsWholeInitializer (around (here (k ∷ scope) false false)) v.type initializer → (env : Environment) → is_some (known env k) ≡ false →
          (fr it : Bool) → v.frame ≡ fr → is_integer v.type ≡ it → NoneFails (if fr && it then integer_declared m k (integer_of v.type) initializer env else other_declared m initializer env) →
          (if fr then flaws_in_initializer m (marked_as false k settings) initializer (if it then learned env k (whole_type (integer_of v.type)) else env) else (flaw_if (lacks_value k initializer) 6 v.span ++ flaws_in_initializer m settings initializer env)) ≡ [] →
          (head : List Held) (frame : Frame) (w : State) → Stands scope opening settings frame w → Describes f.variables env head frame.held →
          Stays (Declared k opening w.objects) (if fr then initialize s span v.type (Variable k) initializer (without_value k frame) w
          else initialize s span v.type (Element (first_of w.opened (width p v.type) 1)) initializer (with_object k w.opened frame) (opened v w))
      variable_clean scope opening settings k v is apart span initializer iw env fresh true it fr i none flaws head frame w h d =
          frame_clean scope opening settings k v is fr ((of_function p whole n (call_at n p) depth number f there scope false false).scalars k v is fr) span initializer iw (if it then learned env k (whole_type (integer_of v.type)) else env) (lie_in k v it initializer env none) flaws head frame w h
          (describes_seen k v is fr it i env fresh head frame w h.soundly d)
      variable_clean scope opening settings k v is apart span initializer iw env fresh false it isnt i none flaws head frame w h d =
          let lacks : List _ = flaw_if (lacks_value k initializer) 6 v.span in
          object_clean scope opening settings k v is isnt apart span initializer iw (no_flaw (lacks_value k initializer) 6 v.span (nothing_left lacks _ flaws)) env none (nothing_right lacks _ flaws) head frame w h
          (unknown_set f.variables env head frame.held k (stands w.opened) fresh d)

      pub declare_clean : (scope : List ℕ) (l b : Bool) (at : At) (k : ℕ) (initializer : PlainInitializer) → Declares (here scope l b) k initializer → GoesClean p whole n depth number f there calls loops result lie scope (statement at (declare k initializer))
      declare_clean scope l b at k initializer i env before none settings flaws apart opening head frame w h d =
          let x : PlainStatement = statement at (declare k initializer) in
          let P : Done → State → Type 0 = λ d u. LeavesClean p opening w.objects u × NewLive x opening d.frame.held u.objects in
          stays_step P w _ (λ left e.
          let now : State = record w { left = left } in
          subst (λ o. Stays P (declare_variable s at.span k o initializer frame now)) (sym i.there)
          (variable_clean scope opening settings k i.variable i.there (not_in_scope k scope itself apart) at.span initializer i.initializer env (before.fresh k itself) i.variable.frame (is_integer i.variable.type) refl refl
          (subst (λ o. NoneFails (declared_left m k o initializer env)) i.there none) (subst (λ o. declaration_flaws m settings k o initializer env ≡ []) i.there flaws) head frame now
          (stand_step p whole n depth number f there calls loops result lie scope opening settings frame w left e h) d))
        where
          itself : is_among k (k ∷ []) ≡ true
          itself = ap (λ t. t || false) (nat_eq_itself k)
