-- What is evaluated in a clean state leaves one, and what else is known of it by other laws.
use Rattle.std.proofs.Common.{◌≡◌, ℕ, suc, true, false, List, [], Option, Some, None, slice_get}
use Rattle.p10_core.specs.Types.{PlainType}
use Rattle.p10_core.specs.Rows.{is_scalar}
use Rattle.p10_core.specs.Typed.{PlainValue, value, type_of, PlainPlace, place_type, PlainValues, PlainVariable, PlainFunction, PlainProgram}
use Rattle.p10_core.specs.Whole.{Surroundings, IsWholeValue, IsWholePlace}
use Rattle.p10_core.specs.WholePrograms.{around, IsWholeProgram}
use Rattle.p10_cert.specs.Claims.{Value, Loop, Claims}
use Rattle.p10_meaning.specs.declared.pointers.Scalar.{Scalar}
use Rattle.p10_meaning.specs.Objects.{declared}
use Rattle.p10_meaning.specs.States.{State, gives, or_undefined}
use Rattle.p10_meaning.specs.Values.{Setting, Held, Target, Variable, used, evaluate, evaluate_all, discard, perform, locate}
use Rattle.p10_meaning.specs.Statements.{Frame}
use Rattle.p10_meaning.specs.Calling.{Depth, setting_of, call_at}
use Rattle.p10_meaning.specs.Sound.{Fits, region_at}
use Rattle.p10_meaning.proofs.SoundParts.{TargetFits}
use Rattle.p10_absx.specs.Environments.{Environment}
use Rattle.p10_absx.specs.Describing.{Describes}
use Rattle.p10_pass.specs.Arguments.{failing_in, failing_at}
use Rattle.p10_pass.specs.Passing.{Manner, manner_in}
use Rattle.p10_evaluation.specs.Claimed.{ResultsLie}
use Rattle.p10_evaluation.specs.Laws.{IsFound}
use Rattle.p10_evaluation.proofs.Failing.{failing_among}
use Rattle.p10_execution.specs.Standing.{StandsSoundly}
use Rattle.p10_execution.proofs.Parts.{Given, Valued, ready_step, valued, place_given}
use Rattle.p10_clean.specs.Settings.{Settings}
use Rattle.p10_clean.specs.Values.{flaws_in_value, flaws_in_values, flaws_in_place}
use Rattle.p10_clean_soundness.specs.private.Stays.{Stays, HasValue}
use Rattle.p10_clean_soundness.specs.private.Objects.{LeavesClean, IsReached}
use Rattle.p10_clean_soundness.specs.private.Standing.{StandsClean}
use Rattle.p10_clean_soundness.proofs.Staying.{stays_then, stays_weaker, stays_with}
use Rattle.p10_clean_soundness.proofs.Closing.{live_on}

module _ (p : PlainProgram) (whole : IsWholeProgram p) (n : ℕ) (depth : Depth) (number : ℕ) (f : PlainFunction) (there : slice_get p.functions number ≡ Some f)
    (calls : Option Claims) (loops : Option (List Loop)) (result : Option Value) (lie : ResultsLie p calls n (call_at n p depth)) (scope opening : List ℕ) (settings : Settings) (head : List Held) (frame : Frame) where
  abbrev pub s : Setting
  s = setting_of p n (call_at n p) depth f

  abbrev pub m : Manner
  m = manner_in f calls loops result

  abbrev pub c : Surroundings
  c = around (region_at p number f scope false false)

  abbrev pub Stand : State → Type 0
  Stand w = StandsClean p f.variables n scope opening settings frame w

  -- what is left where a piece began
  abbrev pub Leaves : {A : Type 0} → State → A → State → Type 0
  Leaves w a u = LeavesClean p opening w.objects u

  -- ## States

  pub step_on : (w : State) (left : ℕ) → suc left ≡ w.left → Stand w → Stand (record w { left = left })
  step_on w left e st = record { soundly = ready_step p whole n depth number f there frame w left e st.soundly; set_up = st.set_up; live = st.live; settled = st.settled }

  abbrev pub stand_on : (w u : State) → Stand w → StandsSoundly p f.variables n frame u → LeavesClean p opening w.objects u → Stand u
  stand_on w u st r l = record {
    soundly = r;
    set_up = st.set_up;
    live = record { each = λ k o e h. live_on declared opening w.objects u.objects o l.survive (st.live.each k o e h) };
    settled = l.settled;
  }

  -- ## Where values and places may be evaluated

  -- no call in a value fails, and it has no flaws
  pub record IsClear (v : PlainValue) (env : Environment) : Type 0 where
    pub lies : failing_in calls v env ≡ []
    pub clean : flaws_in_value m settings v env ≡ []
    pub describes : Describes f.variables env head frame.held

  -- the same for values
  pub record AreClear (vs : PlainValues) (env : Environment) : Type 0 where
    pub lies : failing_among calls vs env ≡ []
    pub clean : flaws_in_values m settings vs env ≡ []
    pub describes : Describes f.variables env head frame.held

  -- the same for a place
  pub record IsClearPlace (q : PlainPlace) (env : Environment) : Type 0 where
    pub lies : failing_at calls q env ≡ []
    pub clean : flaws_in_place m settings q env ≡ []
    pub describes : Describes f.variables env head frame.held

  -- ## What is shown of them

  -- what a form of a type leaves
  abbrev pub Performed : PlainType → State → Option Scalar → State → Type 0
  Performed t w x u = LeavesClean p opening w.objects u × (is_scalar t ≡ true → HasValue x)

  abbrev pub Performs : PlainValue → Type 0
  Performs v = (env : Environment) → IsClear v env → (w : State) → Stand w → Stays (Performed (type_of v) w) (discard s frame.held v w)

  abbrev pub Evaluates : PlainValue → Type 0
  Evaluates v = (env : Environment) → IsClear v env → (w : State) → Stand w → Stays (Leaves w) (evaluate s frame.held v w)

  abbrev pub EvaluatesAll : PlainValues → Type 0
  EvaluatesAll vs = (env : Environment) → AreClear vs env → (w : State) → Stand w → Stays (Leaves w) (evaluate_all s frame.held vs w)

  -- a frame variable
  abbrev pub IsOfFrame : Target → Type 0
  IsOfFrame (Variable k) = (v : PlainVariable) → slice_get f.variables k ≡ Some v → v.frame ≡ true
  IsOfFrame target = Unit {0}

  abbrev pub Located : PlainPlace → State → Target → State → Type 0
  Located q w target u = LeavesClean p opening w.objects u × IsReached q opening u.objects target × IsOfFrame target

  abbrev pub Locates : PlainPlace → Type 0
  Locates q = (env : Environment) → IsClearPlace q env → (w : State) → Stand w → Stays (Located q w) (locate s frame.held q w)

  -- ## What is known besides

  -- after a value
  pub record After (v : PlainValue) (env : Environment) (w : State) (x : Scalar) (u : State) : Type 0 where
    pub stand : Stand u
    pub leaves : LeavesClean p opening w.objects u
    pub typed : Fits p stand.soundly.kinds (type_of v) x
    pub found : IsFound calls v f.variables env head frame.held x

  pub after : (v : PlainValue) → IsWholeValue c v → Evaluates v → (env : Environment) → IsClear v env → (w : State) → Stand w → Stays (After v env w) (evaluate s frame.held v w)
  after v i h env k w st =
      let V : Scalar → State → Type 0 = Valued p whole n depth number f there calls lie env head v frame in
      stays_weaker (λ x u. LeavesClean p opening w.objects u × V x u) (After v env w) (evaluate s frame.held v w)
      (stays_with (Leaves w) V (evaluate s frame.held v w) (h env k w st) (valued p whole n depth number f there calls lie scope v i env head frame w k.lies st.soundly k.describes))
      (λ x u l. record { stand = stand_on w u st l.1.ready l.0; leaves = l.0; typed = l.1.typed; found = l.1.found })

  -- after a place
  pub record AfterPlace (q : PlainPlace) (w : State) (target : Target) (u : State) : Type 0 where
    pub stand : Stand u
    pub leaves : LeavesClean p opening w.objects u
    pub reached : IsReached q opening u.objects target
    pub of_frame : IsOfFrame target
    pub fits : TargetFits p f.variables (place_type q) stand.soundly.kinds target

  pub after_place : (q : PlainPlace) → IsWholePlace c q → Locates q → (env : Environment) → IsClearPlace q env → (w : State) → Stand w → Stays (AfterPlace q w) (locate s frame.held q w)
  after_place q i h env k w st =
      let G : Target → State → Type 0 = Given p whole n depth number f there (TargetFits p f.variables (place_type q)) frame in
      stays_weaker (λ target u. Located q w target u × G target u) (AfterPlace q w) (locate s frame.held q w)
      (stays_with (Located q w) G (locate s frame.held q w) (h env k w st) (place_given p whole n depth number f there scope q i frame w st.soundly))
      (λ target u l. record { stand = stand_on w u st l.1.ready l.0.0; leaves = l.0.0; reached = l.0.1; of_frame = l.0.2; fits = l.1.typed })

  -- a value of a scalar type is evaluated where its form is performed
  pub evaluates : (v : PlainValue) → is_scalar (type_of v) ≡ true → Performs v → Evaluates v
  evaluates (value at t form) sc h env k w st = stays_then (Performed t w) (Leaves w) (perform s frame.held at t form w) _ (h env k w st) (λ x u g. is_used x u (g.1 sc) g.0)
    where
      is_used : (x : Option Scalar) (u : State) → HasValue x → LeavesClean p opening w.objects u → Stays (Leaves w) (or_undefined (used x) at.span u (λ x. gives x u))
      is_used None u has l = absurd has
      is_used (Some x) u has l = l
