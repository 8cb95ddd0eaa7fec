-- Objects are initialised: the values are evaluated, and each scalar of the object is set.
use Rattle.std.proofs.Common.{◌≡◌, ℕ, zero, suc, ◌+◌, ◌*◌, ◌<◌, min, arith, Bool, true, false, List, [], ◌∷◌, length, drop, refl, ◌∙◌, ap, sym, subst, Option, Some, None, slice_get}
use Rattle.std.specs.Prelude.{if◌then◌else◌}
use Rattle.std.proofs.lemmas.Option.{same_Some, none-some}
use Rattle.p10_base.specs.declared.span.Span.{Span}
use Rattle.p10_core.specs.Types.{PlainType, void, integer, pointer, array, structure, unqualified}
use Rattle.p10_core.specs.Rows.{is_scalar}
use Rattle.p10_core.specs.Typed.{type_of, PlainPlace, place_at, place_type, PlainWritten, one_scalar, scalars_of_text, PlainItem, PlainInitializer, not_initialized, single, copied, listed, PlainVariable, PlainFunction, PlainProgram}
use Rattle.p10_core.specs.WholePrograms.{Region, around, width_of_written, IsWholeWritten, AreWholeItems, IsWholeInitializer, IsWholeProgram}
use Rattle.p10_cert.specs.Claims.{Value, Loop, Claims}
use Rattle.p10_meaning.specs.declared.pointers.Ptr.TheVariants.{Null, To}
use Rattle.p10_meaning.specs.declared.pointers.Scalar.{Scalar}
use Rattle.p10_meaning.specs.Pointers.{last_number, holding, first_of, whole_window}
use Rattle.p10_meaning.specs.Objects.{Object, put}
use Rattle.p10_meaning.specs.States.{State, gives}
use Rattle.p10_meaning.specs.Values.{Setting, Held, stands, scalars, width, Target, Variable, Sensor, Element, pointer_to, evaluate, locate}
use Rattle.p10_meaning.specs.Statements.{Frame, write_target, copy_scalars, written_scalars, listed_scalars, fill, initialize}
use Rattle.p10_meaning.specs.Calling.{Depth, setting_of, call_at}
use Rattle.p10_meaning.specs.Sound.{single_of, region_at}
use Rattle.p10_meaning.proofs.Geometry.{IsLaidOut}
use Rattle.p10_meaning.proofs.LaidOut.{laid_out, AreScalar, scalars_scalar}
use Rattle.p10_meaning.proofs.Fitting.{frame_get}
use Rattle.p10_meaning.proofs.Moves.{scalars_are}
use Rattle.p10_meaning.proofs.SoundParts.{TargetFits, single_fits}
use Rattle.p10_absx.specs.Environments.{Environment}
use Rattle.p10_absx.specs.Describing.{Describes}
use Rattle.p10_pass.specs.Arguments.{has_value, failing_in, failing_at}
use Rattle.p10_pass.specs.Passing.{Left, Manner, manner_in, reached, where_going, items_passed, other_declared}
use Rattle.p10_evaluation.specs.Claimed.{ResultsLie}
use Rattle.p10_execution.specs.Leaving.{NoneFails}
use Rattle.p10_execution.proofs.Declarations.{written_left}
use Rattle.p10_execution.proofs.Ends.{nothing_left, nothing_right, calls_none, followed_none_left, followed_none_right}
use Rattle.p10_execution.proofs.Parts.{Given, place_given}
use Rattle.p10_clean.specs.Settings.{Settings}
use Rattle.p10_clean.specs.Statements.{lacks_value, written_flaws, goes_past, flaws_in_items, flaws_in_initializer}
use Rattle.p10_clean_soundness.specs.private.Stays.{Stays}
use Rattle.p10_clean_soundness.specs.private.Objects.{Survives, LeavesClean, IsReached}
use Rattle.p10_clean_soundness.proofs.Staying.{stays_step, stays_then, stays_or, stays_weaker, stays_with}
use Rattle.p10_clean_soundness.proofs.Afterwards.{IsFrameTarget, PlacesClean}
use Rattle.p10_clean_soundness.proofs.Closing.{leaves_same, leaves_then}
use Rattle.p10_clean_soundness.proofs.OuterScope.{initializer_out}
use Rattle.p10_clean_soundness.proofs.Reaching.{Stand, stand_step, stand_after, ValuesClean, AfterValue, value_next}
use Rattle.p10_clean_soundness.proofs.SettingUp.{holding_filled}
use Rattle.p10_clean_soundness.proofs.Writing.{IsFilledAt, writes_leave, put_writes, put_here, HasParts, MayWrite, write_ok}
use Rattle.p10_clean_soundness.proofs.WritingParts.{WritesFrom, fill_writes, copy_writes}
use Rattle.p10_clean_soundness.proofs.WritingPlaces.{cell_there}
use Rattle.p10_clean_soundness.proofs.WritingTargets.{IsScalarTarget, bare_scalar, same_scalars, element_parts, no_variable, no_sensor}
use Rattle.p10_clean_soundness.proofs.NewObjects.{IsFull, IsOpen, object_writes, object_full}

-- ## Scalars

pub unqualified_scalar : (t : PlainType) → is_scalar (unqualified t) ≡ is_scalar t
unqualified_scalar (void c) = refl
unqualified_scalar (integer c i) = refl
unqualified_scalar (pointer c t) = refl
unqualified_scalar (array c t n) = refl
unqualified_scalar (structure c n) = refl

-- each type of a list of scalars is one
first_scalar : (ts : List PlainType) (i : ℕ) (t : PlainType) → AreScalar ts → slice_get (drop i ts) 0 ≡ Some t → is_scalar t ≡ true
first_scalar [] zero t h e = absurd (none-some _ e)
first_scalar [] (suc i) t h e = absurd (none-some _ e)
first_scalar (u ∷ ts) zero t h e = ap is_scalar (sym (same_Some _ _ e)) ∙ h.0
first_scalar (u ∷ ts) (suc i) t h e = first_scalar ts i t h.1 e

if_nothing : {A : Type 0} (b : Bool) (xs : List A) → b ≡ true → (if b then xs else []) ≡ [] → xs ≡ []
if_nothing true xs e h = h
if_nothing false xs e h = absurd cc

module _ (p : PlainProgram) (whole : IsWholeProgram p) (n : ℕ) (depth : Depth) (number : ℕ) (f : PlainFunction) (there : slice_get p.functions number ≡ Some f)
    (calls : Option Claims) (loops : Option (List Loop)) (result : Option Value) (lie : ResultsLie p calls n (call_at n p depth)) where
  abbrev s : Setting
  s = setting_of p n (call_at n p) depth f

  abbrev m : Manner
  m = manner_in f calls loops result

  abbrev here : List ℕ → Bool → Bool → Region
  here scope l b = region_at p number f scope l b

  abbrev Stands : List ℕ → List ℕ → Settings → Frame → State → Type 0
  Stands scope opening settings frame w = Stand p whole n depth number f there calls loops result lie scope opening settings frame w

  out : IsLaidOut p
  out = laid_out p whole

  -- what places leave, and where they are
  abbrev Places : Type 0
  Places = PlacesClean p whole n depth number f there calls loops result lie

  abbrev OfFrame : Target → Type 0
  OfFrame target = IsFrameTarget p whole n depth number f there calls loops result lie target

  -- ## Items

  abbrev left_of : Environment → PlainWritten → Left
  left_of env written = written_left p whole n depth number f there calls loops result lie env written

  -- a piece leaves a clean state with the same frame
  abbrev LeftClean : List ℕ → List ℕ → Settings → Frame → State → State → Type 0
  LeftClean scope opening settings frame w u = Stands scope opening settings frame u × LeavesClean p opening w.objects u

  module _ (values : ValuesClean p whole n depth number f there calls loops result lie) where
    written_clean : (scope : List ℕ) (ts : List PlainType) (i j : ℕ) (written : PlainWritten) → AreScalar ts → IsWholeWritten (around (here scope false false)) (drop j ts) written → (env : Environment) → NoneFails (left_of env written) → (settings : Settings) → written_flaws m settings written env ≡ [] → (opening : List ℕ) (head : List Held) (frame : Frame) (w : State) →
        Stands scope opening settings frame w → Describes f.variables env head frame.held →
        Stays (λ xs u. LeftClean scope opening settings frame w u × ((left_of env written).normal ≡ Some env) × (goes_past m written env ≡ true)) (written_scalars s frame.held i written w)
    written_clean scope ts i j (one_scalar v) scalar iw env none settings flaws opening head frame w st d =
        let names : _ = failing_in calls v env in
        stays_then (AfterValue p whole n depth number f there calls loops result lie scope opening settings env head v frame w.objects)
        (λ xs u. LeftClean scope opening settings frame w u × ((left_of env (one_scalar v)).normal ≡ Some env) × (goes_past m (one_scalar v) env ≡ true)) (evaluate s frame.held v w) (λ x w. gives ((i, x) ∷ []) w)
        (value_next p whole n depth number f there calls loops result lie values scope v iw.whole (sym (bare_scalar p.structures (type_of v)) ∙ first_scalar ts j _ scalar iw.type_is) env head frame w settings opening st d
        (calls_none names (reached (if has_value calls v env then Some env else None)) none) flaws)
        (λ x u h. ((h.stands, h.clean), ap (λ b. if b then Some env else None) h.valued.found.has, h.valued.found.has))
    written_clean scope ts i j (scalars_of_text bytes) scalar iw env none settings flaws opening head frame w st d = ((st, leaves_same p opening w st.settled), refl, refl)

    items_clean : (scope : List ℕ) (ts : List PlainType) (from : ℕ) (items : List PlainItem) → AreScalar ts → AreWholeItems (around (here scope false false)) ts from items → (env : Environment) → NoneFails (items_passed m items env) → (settings : Settings) → flaws_in_items m settings items env ≡ [] → (opening : List ℕ) (head : List Held) (frame : Frame) (w : State) →
        Stands scope opening settings frame w → Describes f.variables env head frame.held → Stays (λ xs u. LeftClean scope opening settings frame w u) (listed_scalars s frame.held items w)
    items_clean scope ts from [] scalar i env none settings flaws opening head frame w st d = (st, leaves_same p opening w st.settled)
    items_clean scope ts from (item ∷ items) scalar i env none settings flaws opening head frame w st d =
        let go : Environment → Left = λ env. items_passed m items env in
        let a : Left = left_of env item.written in
        let P : List (ℕ × Scalar) → State → Type 0 = λ xs u. LeftClean scope opening settings frame w u in
        stays_then (λ xs u. LeftClean scope opening settings frame w u × (a.normal ≡ Some env) × (goes_past m item.written env ≡ true)) P (written_scalars s frame.held item.scalar item.written w) _
        (written_clean scope ts item.scalar item.scalar item.written scalar i.1 env (followed_none_left a (where_going a.normal go) none) settings (nothing_left _ _ flaws) opening head frame w st d) (λ xs u h.
        stays_then (λ ys v. LeftClean scope opening settings frame u v) P (listed_scalars s frame.held items u) _
        (items_clean scope ts (item.scalar + width_of_written item.written) items scalar i.2 env (subst (λ o. NoneFails (where_going o go)) h.1 (followed_none_right a (where_going a.normal go) none)) settings
        (if_nothing (goes_past m item.written env) (flaws_in_items m settings items env) h.2 (nothing_right (written_flaws m settings item.written env) _ flaws)) opening head frame u h.0.0 d)
        (λ ys v k. (k.0, leaves_then p opening w.objects u v h.0.1 k.1)))

    -- ## An object

    module _ (places : Places) (scope opening : List ℕ) (settings : Settings) (frame : Frame) (k o : ℕ) (v : PlainVariable) (is : slice_get f.variables k ≡ Some v) (at : slice_get frame.held k ≡ Some (stands o)) where
      abbrev Here : State → Type 0
      Here u = Stands scope opening settings frame u

      open_on : (w u : State) → LeavesClean p opening w.objects u → IsOpen o w.objects → IsOpen o u.objects
      open_on w u l h = let s : Survives o h.object u.objects = l.survive.each o h.object h.live in record { object = s.object; live = s.there; origin_is = s.origin_is ∙ h.origin_is }

      kind_of : (u : State) (h : Here u) → slice_get h.soundly.kinds o ≡ Some (single_of p v.type)
      kind_of u h = frame_get p h.soundly.kinds f.variables frame.held k v (stands o) h.soundly.fits is at

      -- it is set, in a clean state
      abbrev Full : State → State → Type 0
      Full w u = LeavesClean p opening w.objects u × IsFull o u.objects

      abbrev AllWritten : State → State → Type 0
      AllWritten u z = WritesFrom p opening o (whole_window (width p v.type) 1) 0 (width p v.type) 0 u.objects z

      full_after : (w u z : State) → Here u → IsOpen o u.objects → LeavesClean p opening w.objects u → AllWritten u z → Full w z
      full_after w u z h i l a =
          (leaves_then p opening w.objects u z l (writes_leave p opening u.objects z a.0), object_full p out opening v.type o h.soundly.kinds u h.soundly.sound (kind_of u h) i.object i.live z a)

      target_of : (u : State) → Here u → IsOpen o u.objects → MayWrite u.objects o (whole_window (width p v.type) 1) 0 (width p v.type)
      target_of u h i = object_writes p out opening v.type o h.soundly.kinds u h.soundly.sound (kind_of u h) i.object i.live i.origin_is

      -- a scalar is written
      one_written : (span : Span) (x : Scalar) (w u : State) → Here u → IsOpen o u.objects → LeavesClean p opening w.objects u → is_scalar v.type ≡ true → Stays (λ d z. Full w z) (write_target span (Element (first_of o (width p v.type) 1)) (holding x) frame u)
      one_written span x w u h i l scalar =
          let c = cell_there p out h.soundly.kinds u h.soundly.sound v.type o (whole_window (width p v.type) 1) 0 (single_fits p h.soundly.kinds o v.type (kind_of u h)) refl refl i.object i.live scalar in
          let now : List Object = put u.objects o (0 + 0) (holding x) in
          let z : State = record u { objects = now } in
          let single_is : width p v.type ≡ 1 = ap length (scalars_are p out v.type scalar) in
          stays_or (λ d z. Full w z) _ now span u _ (write_ok u.objects o (whole_window (width p v.type) 1) 0 (holding x) c.0 i.object i.live refl refl c.1 i.origin_is)
          (full_after w u z h i l (
            put_writes p opening u.objects o (0 + 0) (holding x) i.object i.live (holding_filled x) z refl h.settled,
            λ j above below. subst (λ e. IsFilledAt now o e) (place j (width p v.type) single_is below) (put_here p opening u.objects o (0 + 0) (holding x) i.object i.live (holding_filled x) c.0 c.1),
          ))
        where
          place : (j n : ℕ) → n ≡ 1 → j < n → 0 + 0 ≡ min (0 + 0 * n + j) last_number + 0
          place j n e l = omega (arith, e, l)

      -- a structure is copied
      all_copied : (q : PlainPlace) (structure_number : ℕ) → unqualified v.type ≡ structure false structure_number → unqualified (place_type q) ≡ structure false structure_number → (span : Span) (source : Target) (w u : State) → (h : Here u) → IsOpen o u.objects → LeavesClean p opening w.objects u →
          TargetFits p f.variables (place_type q) h.soundly.kinds source → IsScalarTarget f.variables source → IsReached q opening u.objects source → Stays (λ d z. Full w z) (copy_scalars (width p v.type) 0 span (first_of o (width p v.type) 1) (place_at q).span (pointer_to source) frame u)
      all_copied q k is_structure it span (Variable j) w u h i l fits scalar reached = absurd (no_variable p out opening f.variables (place_type q) h.soundly.kinds k j it fits scalar)
      all_copied q k is_structure it span Sensor w u h i l fits scalar reached = absurd (no_sensor p out opening (place_type q) k it fits)
      all_copied q k is_structure it span (Element Null) w u h i l fits scalar reached = absurd reached
      all_copied q k is_structure it span (Element (To from window j)) w u h i l fits scalar reached =
          let count : ℕ = width p v.type in
          let all : width p (place_type q) ≡ count = ap length (same_scalars p out opening (place_type q) v.type k it is_structure) in
          let source_is : HasParts u.objects from window j count = subst (λ c. HasParts u.objects from window j c) all (element_parts p out opening _ h.soundly.kinds u h.soundly.sound (place_type q) from window j fits reached) in
          let none : 0 + count ≡ count = omega arith in
          stays_weaker (λ d z. AllWritten u z) (λ d z. Full w z) (copy_scalars count 0 span (first_of o count 1) (place_at q).span (To from window j) frame u)
          (copy_writes p opening o (whole_window count 1) 0 count from window j reached.apart span (place_at q).span count 0 frame u none h.settled (target_of u h i) source_is) (λ d z a. full_after w u z h i l a)

      -- the values of a list are filled in
      all_listed : (span : Span) (xs : List (ℕ × Scalar)) (w u : State) → Here u → IsOpen o u.objects → LeavesClean p opening w.objects u → Stays (λ d z. Full w z) (fill span xs (scalars p v.type) 0 (first_of o (width p v.type) 1) frame u)
      all_listed span xs w u h i l =
          let count : ℕ = width p v.type in
          let none : 0 + count ≡ count = omega arith in
          stays_weaker (λ d z. AllWritten u z) (λ d z. Full w z) (fill span xs (scalars p v.type) 0 (first_of o count 1) frame u)
          (fill_writes p opening o (whole_window count 1) 0 count span xs (scalars p v.type) 0 frame u none h.settled (target_of u h i)) (λ d z a. full_after w u z h i l a)

      frame_target : ((k : ℕ) (v : PlainVariable) → slice_get f.variables k ≡ Some v → v.frame ≡ true → is_scalar v.type ≡ true) → (target : Target) → OfFrame target → IsScalarTarget f.variables target
      frame_target scalars (Variable k) h = λ v e. scalars k v e (h v e)
      frame_target scalars Sensor h = tt
      frame_target scalars (Element q) h = tt

      -- an initialiser that doesn't name the object sets it
      pub initialize_full : ((k : ℕ) (v : PlainVariable) → slice_get f.variables k ≡ Some v → v.frame ≡ true → is_scalar v.type ≡ true) → (span : Span) (initializer : PlainInitializer) → lacks_value k initializer ≡ false → IsWholeInitializer (around (here (k ∷ scope) false false)) v.type initializer →
          (env : Environment) → NoneFails (other_declared m initializer env) → flaws_in_initializer m settings initializer env ≡ [] → (head : List Held) (w : State) → Here w → Describes f.variables env head frame.held → IsOpen o w.objects →
          Stays (λ d u. Full w u) (initialize s span v.type (Element (first_of o (width p v.type) 1)) initializer frame w)
      initialize_full frames span not_initialized lacks iw env none flaws head w h d i = absurd cc
      initialize_full frames span (single e) lacks iw env none flaws head w h d i =
          let inside = initializer_out p number f scope k v.type (single e) lacks iw in
          stays_then (AfterValue p whole n depth number f there calls loops result lie scope opening settings env head e frame w.objects) (λ d u. Full w u) (evaluate s frame.held e w) _
          (value_next p whole n depth number f there calls loops result lie values scope e inside.whole (ap is_scalar iw.type_is ∙ (unqualified_scalar v.type ∙ iw.scalar)) env head frame w settings opening h d
          (calls_none (failing_in calls e env) (reached (if has_value calls e env then Some env else None)) none) flaws)
          (λ x u a. one_written span x w u a.stands (open_on w u a.clean i) a.clean iw.scalar)
      initialize_full frames span (copied q) lacks iw env none flaws head w h d i =
          let inside = initializer_out p number f scope k v.type (copied q) lacks iw in
          stays_step (λ d u. Full w u) w _ (λ left e.
          let now : State = record w { left = left } in
          let ready : Here now = stand_step p whole n depth number f there calls loops result lie scope opening settings frame w left e h in
          let Reaches : Target → State → Type 0 = λ target u. LeavesClean p opening now.objects u × IsReached q opening u.objects target × OfFrame target in
          let Fits : Target → State → Type 0 = Given p whole n depth number f there (TargetFits p f.variables (place_type q)) frame in
          stays_then (λ target u. Reaches target u × Fits target u) (λ d u. Full w u) (locate s frame.held q now) _
          (stays_with Reaches Fits (locate s frame.held q now)
          (places scope q inside.whole env head frame now settings opening ready d (calls_none (failing_at calls q env) (reached (Some env)) none) flaws)
          (place_given p whole n depth number f there scope q inside.whole frame now ready.soundly)) (λ source u a.
          let after_it : Here u = stand_after p whole n depth number f there calls loops result lie scope opening settings frame now u ready a.1.ready a.0.0 in
          let there_is : Here u = record { soundly = a.1.ready; set_up = after_it.set_up; live = after_it.live; settled = a.0.0.settled } in
          all_copied q iw.number iw.target_is iw.source_is span source w u there_is (open_on now u a.0.0 i) a.0.0 a.1.typed (frame_target frames source a.0.2) a.0.1))
      initialize_full frames span (listed location items) lacks iw env none flaws head w h d i =
          let inside = initializer_out p number f scope k v.type (listed location items) lacks iw in
          stays_then (λ xs u. LeftClean scope opening settings frame w u) (λ d u. Full w u) (listed_scalars s frame.held items w) _
          (items_clean scope _ 0 items (scalars_scalar p.structures v.type) inside.whole env none settings flaws opening head frame w h d)
          (λ xs u a. all_listed span xs w u a.0 (open_on w u a.1 i) a.1)
