-- What stands after values and places in a clean state, with objects that were only added.
use Rattle.std.proofs.Common.{◌≡◌, ℕ, ◌≤◌, Bool, true, false, List, [], Option, Some, slice_get}
use Rattle.p10_core.specs.Rows.{is_scalar}
use Rattle.p10_core.specs.Whole.{IsWholeValue, IsWholePlace}
use Rattle.p10_core.specs.Typed.{PlainValue, type_of, PlainPlace, place_at, place_type, PlainVariable, PlainFunction, PlainProgram}
use Rattle.p10_core.specs.WholePrograms.{Region, around, IsWholeProgram}
use Rattle.p10_cert.specs.Claims.{Value, Loop, Claims}
use Rattle.p10_meaning.specs.declared.pointers.Scalar.{Scalar}
use Rattle.p10_meaning.specs.Objects.{Object}
use Rattle.p10_meaning.specs.States.{State, Progress, gives, ends}
use Rattle.p10_meaning.specs.Values.{Setting, Held, Target, Variable, evaluate, discard, locate, read_target}
use Rattle.p10_meaning.specs.Statements.{Frame}
use Rattle.p10_meaning.specs.Calling.{Depth, setting_of, call_at}
use Rattle.p10_meaning.specs.Sound.{Kind, Fits, Grows, Kept, Keeps, region_at}
use Rattle.p10_meaning.proofs.Fitting.{frame_grown}
use Rattle.p10_meaning.proofs.Geometry.{IsLaidOut}
use Rattle.p10_meaning.proofs.LaidOut.{laid_out}
use Rattle.p10_meaning.proofs.SoundCalls.{few_variables, calls_keep, values_keep}
use Rattle.p10_meaning.proofs.SoundParts.{TargetFits, read_keeps}
use Rattle.p10_meaning.proofs.SoundStatements.{AreFew, seen, seen_by}
use Rattle.p10_meaning.proofs.SoundValues.{locate_keeps}
use Rattle.p10_sums.specs.Keeping.{HoldsOf}
use Rattle.p10_absx.specs.Environments.{Environment}
use Rattle.p10_absx.specs.Describing.{Describes}
use Rattle.p10_pass.specs.Arguments.{failing_in, failing_at}
use Rattle.p10_pass.specs.Passing.{Manner, manner_in}
use Rattle.p10_evaluation.specs.Claimed.{ResultsLie}
use Rattle.p10_evaluation.specs.Laws.{IsFound}
use Rattle.p10_execution.proofs.Giving.{holds_both}
use Rattle.p10_execution.proofs.Parts.{Given, place_given, read_given, Valued, valued}
use Rattle.p10_clean.specs.Settings.{Settings}
use Rattle.p10_clean.specs.Values.{read_flaws, flaws_in_value, flaws_in_place}
use Rattle.p10_clean_soundness.specs.private.Stays.{Stays}
use Rattle.p10_clean_soundness.specs.private.Objects.{LeavesClean, IsReached}
use Rattle.p10_clean_soundness.proofs.Reaching.{Stand, ValuesClean, stand_after}
use Rattle.p10_clean_soundness.proofs.Staying.{stays_weaker, stays_with}

-- what keeps sound states holds of what is given
keeps_holds : {A : Type 0} (p : PlainProgram) (ks : List Kind) (P : List Kind → A → Type 0) (o : Progress A) → Keeps p ks P o → HoldsOf (λ a u. Kept p ks u (λ js. P js a)) o
keeps_holds p ks P (gives a u) k = k
keeps_holds p ks P (ends end u) k = tt

module _ (p : PlainProgram) (whole : IsWholeProgram p) (n : ℕ) (depth : Depth) (number : ℕ) (f : PlainFunction) (there : slice_get p.functions number ≡ Some f)
    (calls : Option Claims) (loops : Option (List Loop)) (result : Option Value) (lie : ResultsLie p calls n (call_at n p depth)) where
  abbrev s : Setting
  s = setting_of p n (call_at n p) depth f

  abbrev m : Manner
  m = manner_in f calls loops result

  abbrev here : List ℕ → Bool → Bool → Region
  here scope l b = region_at p number f scope l b

  abbrev Stands : List ℕ → List ℕ → Settings → Frame → State → Type 0
  Stands scope opening settings frame w = Stand p whole n depth number f there calls loops result lie scope opening settings frame w

  -- ## What is shown of places, discarded values and reads

  -- a frame variable is one by its declaration
  abbrev pub IsFrameTarget : Target → Type 0
  IsFrameTarget (Variable k) = (v : PlainVariable) → slice_get f.variables k ≡ Some v → v.frame ≡ true
  IsFrameTarget target = Unit {0}

  abbrev pub PlacesClean : Type 0
  PlacesClean = (scope : List ℕ) (q : PlainPlace) → IsWholePlace (around (here scope false false)) q → (env : Environment) (head : List Held) (frame : Frame) (w : State) (settings : Settings) (opening : List ℕ) → Stands scope opening settings frame w → Describes f.variables env head frame.held →
      failing_at calls q env ≡ [] → flaws_in_place m settings q env ≡ [] → Stays (λ target u. LeavesClean p opening w.objects u × IsReached q opening u.objects target × IsFrameTarget target) (locate s frame.held q w)

  abbrev pub DiscardsClean : Type 0
  DiscardsClean = (scope : List ℕ) (v : PlainValue) → IsWholeValue (around (here scope false false)) v → (env : Environment) (head : List Held) (frame : Frame) (w : State) (settings : Settings) (opening : List ℕ) → Stands scope opening settings frame w → Describes f.variables env head frame.held →
      failing_in calls v env ≡ [] → flaws_in_value m settings v env ≡ [] → Stays (λ x u. LeavesClean p opening w.objects u) (discard s frame.held v w)

  abbrev pub ReadsClean : Type 0
  ReadsClean = (scope : List ℕ) (q : PlainPlace) → IsWholePlace (around (here scope false false)) q → is_scalar (place_type q) ≡ true → (frame : Frame) (w : State) (settings : Settings) (opening : List ℕ) (stands : Stands scope opening settings frame w) (target : Target) →
      TargetFits p f.variables (place_type q) stands.soundly.kinds target → IsReached q opening w.objects target → IsFrameTarget target → read_flaws m settings q ≡ [] → Stays (λ x u. LeavesClean p opening w.objects u) (read_target (place_at q).span (place_type q) frame.held target w)

  -- ## Afterwards

  -- in a sound state with objects that were only added
  abbrev stands_grown : (scope opening : List ℕ) (settings : Settings) (frame : Frame) (w u : State) (stands : Stands scope opening settings frame w) → (T : List Kind → Type 0) → Kept p stands.soundly.kinds u T → u.left ≤ n → LeavesClean p opening w.objects u → Stands scope opening settings frame u
  stands_grown scope opening settings frame w u stands T k few l =
      stand_after p whole n depth number f there calls loops result lie scope opening settings frame w u stands
      (record { kinds = k.kinds; sound = k.sound; fits = frame_grown p stands.soundly.kinds k.kinds f.variables frame.held k.grows stands.soundly.fits; in_frame = stands.soundly.in_frame; left = few }) l

  -- after something of a type
  pub record At (scope opening : List ℕ) (settings : Settings) (frame : Frame) (before : List Object) (ks : List Kind) (T : List Kind → Type 0) (u : State) : Type 0 where
    pub stands : Stands scope opening settings frame u
    pub clean : LeavesClean p opening before u
    pub grows : Grows ks stands.soundly.kinds
    pub typed : T stands.soundly.kinds

  at_of : (scope opening : List ℕ) (settings : Settings) (frame : Frame) (w u : State) (stands : Stands scope opening settings frame w) (T : List Kind → Type 0) → Kept p stands.soundly.kinds u T → u.left ≤ n → LeavesClean p opening w.objects u → At scope opening settings frame w.objects stands.soundly.kinds T u
  at_of scope opening settings frame w u stands T k few l = record { stands = stands_grown scope opening settings frame w u stands T k few l; clean = l; grows = k.grows; typed = k.value }

  out : IsLaidOut p
  out = laid_out p whole

  few : AreFew p f.variables
  few = few_variables p whole number f (whole.functions number f there)

  -- after a place
  pub record PlaceAt (scope opening : List ℕ) (settings : Settings) (frame : Frame) (before : List Object) (ks : List Kind) (q : PlainPlace) (target : Target) (u : State) : Type 0 where
    pub at : At scope opening settings frame before ks (λ js. TargetFits p f.variables (place_type q) js target) u
    pub reached : IsReached q opening u.objects target
    pub frame_is : IsFrameTarget target

  pub place_next : PlacesClean → (scope : List ℕ) (q : PlainPlace) → IsWholePlace (around (here scope false false)) q → (env : Environment) (head : List Held) (frame : Frame) (w : State) (settings : Settings) (opening : List ℕ) (stands : Stands scope opening settings frame w) → Describes f.variables env head frame.held →
      failing_at calls q env ≡ [] → flaws_in_place m settings q env ≡ [] → Stays (PlaceAt scope opening settings frame w.objects stands.soundly.kinds q) (locate s frame.held q w)
  place_next places scope q i env head frame w settings opening stands d none flaws =
      let ks : List Kind = stands.soundly.kinds in
      let Clean : Target → State → Type 0 = λ target u. LeavesClean p opening w.objects u × IsReached q opening u.objects target × IsFrameTarget target in
      let Sounds : Target → State → Type 0 = λ target u. Kept p ks u (λ js. TargetFits p f.variables (place_type q) js target) in
      let Is : Target → State → Type 0 = Given p whole n depth number f there (TargetFits p f.variables (place_type q)) frame in
      stays_weaker (λ target u. Clean target u × (Sounds target u × Is target u)) (PlaceAt scope opening settings frame w.objects ks q) (locate s frame.held q w)
      (stays_with Clean (λ target u. Sounds target u × Is target u) (locate s frame.held q w) (places scope q i env head frame w settings opening stands d none flaws)
      (holds_both Sounds Is (locate s frame.held q w)
      (keeps_holds p ks (TargetFits p f.variables (place_type q)) (locate s frame.held q w)
      (locate_keeps p out whole (call_at n p depth) (calls_keep p whole n depth) n f.variables (seen_by p out whole (call_at n p depth) (calls_keep p whole n depth) n number f few scope) (seen p out whole (call_at n p depth) (calls_keep p whole n depth) n number f few scope) frame.held q i w ks
      stands.soundly.sound stands.soundly.fits))
      (place_given p whole n depth number f there scope q i frame w stands.soundly)))
      (λ target u k. record { at = at_of scope opening settings frame w u stands (λ js. TargetFits p f.variables (place_type q) js target) k.1.0 k.1.1.ready.left k.0.0; reached = k.0.1; frame_is = k.0.2 })

  -- after a value
  pub record ValueAt (scope opening : List ℕ) (settings : Settings) (env : Environment) (head : List Held) (frame : Frame) (before : List Object) (ks : List Kind) (v : PlainValue) (x : Scalar) (u : State) : Type 0 where
    pub at : At scope opening settings frame before ks (λ js. Fits p js (type_of v) x) u
    pub found : IsFound calls v f.variables env head frame.held x

  pub value_at : ValuesClean p whole n depth number f there calls loops result lie → (scope : List ℕ) (v : PlainValue) → IsWholeValue (around (here scope false false)) v → is_scalar (type_of v) ≡ true → (env : Environment) (head : List Held) (frame : Frame) (w : State) (settings : Settings) (opening : List ℕ) (stands : Stands scope opening settings frame w) →
      Describes f.variables env head frame.held → failing_in calls v env ≡ [] → flaws_in_value m settings v env ≡ [] → Stays (ValueAt scope opening settings env head frame w.objects stands.soundly.kinds v) (evaluate s frame.held v w)
  value_at values scope v i scalar env head frame w settings opening stands d none flaws =
      let ks : List Kind = stands.soundly.kinds in
      let Clean : Scalar → State → Type 0 = λ x u. LeavesClean p opening w.objects u in
      let Sounds : Scalar → State → Type 0 = λ x u. Kept p ks u (λ js. Fits p js (type_of v) x) in
      let Is : Scalar → State → Type 0 = Valued p whole n depth number f there calls lie env head v frame in
      stays_weaker (λ x u. Clean x u × (Sounds x u × Is x u)) (ValueAt scope opening settings env head frame w.objects ks v) (evaluate s frame.held v w)
      (stays_with Clean (λ x u. Sounds x u × Is x u) (evaluate s frame.held v w) (values scope v i scalar env head frame w settings opening stands d none flaws)
      (holds_both Sounds Is (evaluate s frame.held v w)
      (keeps_holds p ks (λ js. Fits p js (type_of v)) (evaluate s frame.held v w) (values_keep p whole n depth number f there scope v i frame.held w ks stands.soundly.sound stands.soundly.fits))
      (valued p whole n depth number f there calls lie scope v i env head frame w none stands.soundly d)))
      (λ x u k. record { at = at_of scope opening settings frame w u stands (λ js. Fits p js (type_of v) x) k.1.0 k.1.1.ready.left k.0; found = k.1.1.found })

  -- after a read
  pub read_next : ReadsClean → (scope : List ℕ) (q : PlainPlace) → IsWholePlace (around (here scope false false)) q → is_scalar (place_type q) ≡ true → (frame : Frame) (w : State) (settings : Settings) (opening : List ℕ) (stands : Stands scope opening settings frame w) (target : Target) →
      TargetFits p f.variables (place_type q) stands.soundly.kinds target → IsReached q opening w.objects target → IsFrameTarget target → read_flaws m settings q ≡ [] →
      Stays (λ x u. At scope opening settings frame w.objects stands.soundly.kinds (λ js. Fits p js (place_type q) x) u) (read_target (place_at q).span (place_type q) frame.held target w)
  read_next reads scope q i scalar frame w settings opening stands target fits reached frame_is flaws =
      let ks : List Kind = stands.soundly.kinds in
      let run = read_target (place_at q).span (place_type q) frame.held target w in
      let Clean : Scalar → State → Type 0 = λ x u. LeavesClean p opening w.objects u in
      let Sounds : Scalar → State → Type 0 = λ x u. Kept p ks u (λ js. Fits p js (place_type q) x) in
      let Is : Scalar → State → Type 0 = Given p whole n depth number f there (λ js. Fits p js (place_type q)) frame in
      stays_weaker (λ x u. Clean x u × (Sounds x u × Is x u)) (λ x u. At scope opening settings frame w.objects ks (λ js. Fits p js (place_type q) x) u) run
      (stays_with Clean (λ x u. Sounds x u × Is x u) run (reads scope q i scalar frame w settings opening stands target fits reached frame_is flaws)
      (holds_both Sounds Is run
      (keeps_holds p ks (λ js. Fits p js (place_type q)) run (read_keeps p out ks f.variables frame.held (place_at q).span (place_type q) target w scalar stands.soundly.fits fits stands.soundly.sound))
      (read_given p whole n depth number f there (place_at q).span (place_type q) target frame w scalar stands.soundly fits)))
      (λ x u k. at_of scope opening settings frame w u stands (λ js. Fits p js (place_type q) x) k.1.0 k.1.1.ready.left k.0)
