-- How a clean execution goes on after a statement: what stands there, by all laws together.
use Rattle.std.proofs.Common.{◌≡◌, ℕ, suc, Bool, true, false, List, [], refl, Option, Some, slice_get}
use Rattle.p10_core.specs.Rows.{is_scalar}
use Rattle.p10_core.specs.Whole.{IsWholeValue}
use Rattle.p10_core.specs.Typed.{PlainValue, type_of, PlainStatement, PlainStatements, PlainFunction, PlainProgram}
use Rattle.p10_core.specs.WholePrograms.{Region, is_among, around, declared_in, declared_of, IsWholeStatement, AreWholeStatements, IsWholeProgram}
use Rattle.p10_cert.specs.Claims.{Value, Loop, Claims}
use Rattle.p10_meaning.specs.declared.pointers.Scalar.{Scalar}
use Rattle.p10_meaning.specs.Objects.{declared, Object}
use Rattle.p10_meaning.specs.States.{State}
use Rattle.p10_meaning.specs.Values.{Setting, Held, evaluate}
use Rattle.p10_meaning.specs.Statements.{Frame, Flow, normal, broken, continued, returned, Done, execute, execute_from}
use Rattle.p10_meaning.specs.Calling.{Depth, setting_of, call_at}
use Rattle.p10_meaning.specs.Sound.{region_at}
use Rattle.p10_meaning.proofs.SoundStatements.{scope_after, scope_after_all}
use Rattle.p10_absx.specs.Environments.{Environment}
use Rattle.p10_absx.specs.Describing.{Describes, MaybeDescribes}
use Rattle.p10_pass.specs.Arguments.{failing_in}
use Rattle.p10_pass.specs.Passing.{Left, Manner, manner_in, pass_statement, pass_statements}
use Rattle.p10_evaluation.specs.Claimed.{ResultsLie}
use Rattle.p10_execution.specs.Scoping.{IsBefore}
use Rattle.p10_execution.specs.Standing.{StandsSoundly}
use Rattle.p10_execution.specs.Leaving.{NoneFails, LeavesAs}
use Rattle.p10_execution.proofs.Giving.{holds_both}
use Rattle.p10_execution.proofs.Leaving.{fresh_block, statement_goes, statements_go}
use Rattle.p10_execution.proofs.Parts.{ready_step, Valued, valued}
use Rattle.p10_execution.proofs.Looping.{Went}
use Rattle.p10_clean.specs.Settings.{Settings, Ways, ways_of, ways_of_all}
use Rattle.p10_clean.specs.Values.{flaws_in_value}
use Rattle.p10_clean.specs.Statements.{flaws_in_statement, flaws_in_statements}
use Rattle.p10_clean_soundness.specs.private.Stays.{Stays}
use Rattle.p10_clean_soundness.specs.private.Setting.{SetsAs, AreApart}
use Rattle.p10_clean_soundness.specs.private.Objects.{Settled, AreLive, LeavesClean}
use Rattle.p10_clean_soundness.specs.private.Standing.{StandsClean}
use Rattle.p10_clean_soundness.proofs.Apart.{scope_grows}
use Rattle.p10_clean_soundness.proofs.Closing.{live_on, OpensNew}
use Rattle.p10_clean_soundness.proofs.Moving.{opens_new, NewLive, ObjectsStay, objects_stay, live_after}
use Rattle.p10_clean_soundness.proofs.SettingLaws.{sets_in_function, all_set_in_function}
use Rattle.p10_clean_soundness.proofs.Staying.{stays_weaker, stays_with}

-- ## Frames and scopes

-- which variables are in scope, by how execution goes on
abbrev pub scope_of : Flow → List ℕ → List ℕ → List ℕ
scope_of normal after scope = after
scope_of flow after scope = scope

-- fewer are in scope
pub live_narrower : (opening scope wide : List ℕ) (held : List Held) (objects : List Object) → ((n : ℕ) → is_among n scope ≡ true → is_among n wide ≡ true) → AreLive opening wide held objects → AreLive opening scope held objects
live_narrower opening scope wide held objects h l = record { each = λ n o e there. l.each n o (h n e) there }

pub scope_within : (flow : Flow) (after scope wide : List ℕ) → ((n : ℕ) → is_among n after ≡ true → is_among n wide ≡ true) → ((n : ℕ) → is_among n scope ≡ true → is_among n wide ≡ true) → (n : ℕ) → is_among n (scope_of flow after scope) ≡ true → is_among n wide ≡ true
scope_within normal after scope wide h k n e = h n e
scope_within broken after scope wide h k n e = k n e
scope_within continued after scope wide h k n e = k n e
scope_within (returned x) after scope wide h k n e = k n e

-- the scope after one part of a sequence, or round it
pub scope_narrower : (flow : Flow) (after middle scope : List ℕ) → ((n : ℕ) → is_among n scope ≡ true → is_among n middle ≡ true) → (n : ℕ) → is_among n (scope_of flow after scope) ≡ true → is_among n (scope_of flow after middle) ≡ true
scope_narrower normal after middle scope h n e = e
scope_narrower broken after middle scope h n e = h n e
scope_narrower continued after middle scope h n e = h n e
scope_narrower (returned x) after middle scope h n e = h n e

module _ (p : PlainProgram) (whole : IsWholeProgram p) (n : ℕ) (depth : Depth) (number : ℕ) (f : PlainFunction) (there : slice_get p.functions number ≡ Some f)
    (calls : Option Claims) (loops : Option (List Loop)) (result : Option Value) (lie : ResultsLie p calls n (call_at n p depth)) where
  abbrev pub s : Setting
  s = setting_of p n (call_at n p) depth f

  abbrev pub m : Manner
  m = manner_in f calls loops result

  abbrev pub here : List ℕ → Bool → Bool → Region
  here scope l b = region_at p number f scope l b

  abbrev pub Stand : List ℕ → List ℕ → Settings → Frame → State → Type 0
  Stand scope opening settings frame w = StandsClean p f.variables n scope opening settings frame w

  -- ## What is left

  -- what parts of a block leave, besides what other laws say of it
  pub record Moved (after scope opening : List ℕ) (before : List Object) (opened : List ℕ) (d : Done) (u : State) : Type 0 where
    pub clean : LeavesClean p opening before u
    pub opens : OpensNew before opened d
    pub live : AreLive opening (scope_of d.flow after scope) d.frame.held u.objects

  -- with these laws
  pub record Next (after scope opening : List ℕ) (ways : Ways) (a : Left) (head : List Held) (before : List Object) (opened : List ℕ) (d : Done) (u : State) : Type 0 where
    pub moved : Moved after scope opening before opened d u
    pub ready : StandsSoundly p f.variables n d.frame u
    pub sets : SetsAs f.variables after scope ways d.flow d.frame.held
    pub said : LeavesAs f.variables m a head d.flow d.frame.held

  -- where execution goes on
  abbrev pub GoesAs : List ℕ → List ℕ → List ℕ → Ways → Left → List Held → Flow → Frame → State → Type 0
  GoesAs after scope opening ways a head normal frame u = Stand after opening ways.normal frame u × MaybeDescribes f.variables a.normal head frame.held
  GoesAs after scope opening ways a head broken frame u = Stand scope opening ways.breaks frame u × MaybeDescribes f.variables a.breaks head frame.held
  GoesAs after scope opening ways a head continued frame u = Stand scope opening ways.continues frame u × MaybeDescribes f.variables a.continues head frame.held
  GoesAs after scope opening ways a head (returned x) frame u = Unit {0}

  goes_by : (after scope opening : List ℕ) (ways : Ways) (a : Left) (head : List Held) (flow : Flow) (frame : Frame) (u : State) → StandsSoundly p f.variables n frame u → SetsAs f.variables after scope ways flow frame.held → LeavesAs f.variables m a head flow frame.held →
      AreLive opening (scope_of flow after scope) frame.held u.objects → Settled p opening u.objects → GoesAs after scope opening ways a head flow frame u
  goes_by after scope opening ways a head normal frame u r k d l t = (record { soundly = r; set_up = k; live = l; settled = t }, d)
  goes_by after scope opening ways a head broken frame u r k d l t = (record { soundly = r; set_up = k; live = l; settled = t }, d)
  goes_by after scope opening ways a head continued frame u r k d l t = (record { soundly = r; set_up = k; live = l; settled = t }, d)
  goes_by after scope opening ways a head (returned x) frame u r k d l t = tt

  pub goes_as : (after scope opening : List ℕ) (ways : Ways) (a : Left) (head : List Held) (before : List Object) (opened : List ℕ) (d : Done) (u : State) → Next after scope opening ways a head before opened d u → GoesAs after scope opening ways a head d.flow d.frame u
  goes_as after scope opening ways a head before opened d u h = goes_by after scope opening ways a head d.flow d.frame u h.ready h.sets h.said h.moved.live h.moved.clean.settled

  -- ## What is to be shown

  -- a statement leaves a clean state
  abbrev pub GoesClean : List ℕ → PlainStatement → Type 0
  GoesClean scope x = (env : Environment) → IsBefore f.variables (declared_in x) env → NoneFails (pass_statement m x env) → (settings : Settings) → flaws_in_statement m x settings env ≡ [] → AreApart scope (declared_in x) →
      (opening : List ℕ) (head : List Held) (frame : Frame) (w : State) → Stand scope opening settings frame w → Describes f.variables env head frame.held → Stays (λ d u. LeavesClean p opening w.objects u × NewLive x opening d.frame.held u.objects) (execute s x frame w)

  -- so do statements, one after the other
  abbrev pub AllClean : List ℕ → PlainStatements → Type 0
  AllClean scope xs = (env : Environment) → IsBefore f.variables (declared_of xs) env → NoneFails (pass_statements m xs env) → (settings : Settings) → flaws_in_statements m xs settings env ≡ [] → AreApart scope (declared_of xs) →
      (opening : List ℕ) (head : List Held) (frame : Frame) (w : State) → Stand scope opening settings frame w → Describes f.variables env head frame.held → Stays (Moved (scope_after_all xs scope) scope opening w.objects frame.opened) (execute_from s 0 xs frame w)

  -- ## All laws together

  pub statement_next : (x : PlainStatement) (scope : List ℕ) (l b : Bool) → IsWholeStatement (here scope l b) x → (env : Environment) → IsBefore f.variables (declared_in x) env → NoneFails (pass_statement m x env) → (settings : Settings) → AreApart scope (declared_in x) →
      (opening : List ℕ) (head : List Held) (frame : Frame) (w : State) → Stand scope opening settings frame w → Describes f.variables env head frame.held → Stays (λ d u. LeavesClean p opening w.objects u × NewLive x opening d.frame.held u.objects) (execute s x frame w) →
      Stays (Next (scope_after x scope) scope opening (ways_of x settings) (pass_statement m x env) head w.objects frame.opened) (execute s x frame w)
  statement_next x scope l b i env before none settings apart opening head frame w stands d h =
      let Clean : Done → State → Type 0 = λ d u. LeavesClean p opening w.objects u × NewLive x opening d.frame.held u.objects in
      let Says : Done → State → Type 0 = Went p whole n depth number f there calls loops result lie (pass_statement m x env) head in
      let IsSet : Done → State → Type 0 = λ d u. SetsAs f.variables (scope_after x scope) scope (ways_of x settings) d.flow d.frame.held in
      let Opens : Done → State → Type 0 = λ d u. OpensNew w.objects frame.opened d in
      let Keep : Done → State → Type 0 = λ d u. ObjectsStay x frame.held d.frame.held in
      stays_weaker (λ d u. Clean d u × (Says d u × (IsSet d u × (Opens d u × Keep d u)))) (Next (scope_after x scope) scope opening (ways_of x settings) (pass_statement m x env) head w.objects frame.opened) (execute s x frame w)
      (stays_with Clean (λ d u. Says d u × (IsSet d u × (Opens d u × Keep d u))) (execute s x frame w) h
      (holds_both Says (λ d u. IsSet d u × (Opens d u × Keep d u)) (execute s x frame w) (statement_goes p whole n depth number f there calls loops result lie x scope l b i env before none head frame w stands.soundly d)
      (holds_both IsSet (λ d u. Opens d u × Keep d u) (execute s x frame w)
      (sets_in_function p whole n (call_at n p) depth number f there x scope l b i before.once apart settings stands.soundly.kinds frame w stands.soundly.fits stands.set_up)
      (holds_both Opens Keep (execute s x frame w) (opens_new p s x (here scope l b) i stands.soundly.kinds frame w stands.soundly.sound) (objects_stay s x (here scope l b) i frame w)))))
      (λ d u k. record {
        moved = record {
          clean = k.0.0;
          opens = k.1.1.1.0;
          live = live_narrower opening (scope_of d.flow (scope_after x scope) scope) (scope_after x scope) d.frame.held u.objects (scope_within d.flow (scope_after x scope) scope (scope_after x scope) (λ n e. e) (scope_grows x scope))
              (live_after p f.variables n x scope opening settings frame.held d.frame.held w.objects u d.frame refl k.1.0.ready stands.set_up apart stands.live k.0.0.survive k.1.1.1.1 k.0.1);
        };
        ready = k.1.0.ready;
        sets = k.1.1.0;
        said = k.1.0.as_said;
      })

  pub statements_next : (xs : PlainStatements) (scope : List ℕ) (l b : Bool) → AreWholeStatements (here scope l b) xs → (env : Environment) → IsBefore f.variables (declared_of xs) env → NoneFails (pass_statements m xs env) → (settings : Settings) → AreApart scope (declared_of xs) →
      (opening : List ℕ) (head : List Held) (frame : Frame) (w : State) → Stand scope opening settings frame w → Describes f.variables env head frame.held → Stays (Moved (scope_after_all xs scope) scope opening w.objects frame.opened) (execute_from s 0 xs frame w) →
      Stays (Next (scope_after_all xs scope) scope opening (ways_of_all xs settings) (pass_statements m xs env) head w.objects frame.opened) (execute_from s 0 xs frame w)
  statements_next xs scope l b i env before none settings apart opening head frame w stands d h =
      let Clean : Done → State → Type 0 = Moved (scope_after_all xs scope) scope opening w.objects frame.opened in
      let Says : Done → State → Type 0 = Went p whole n depth number f there calls loops result lie (pass_statements m xs env) head in
      let IsSet : Done → State → Type 0 = λ d u. SetsAs f.variables (scope_after_all xs scope) scope (ways_of_all xs settings) d.flow d.frame.held in
      stays_weaker (λ d u. Clean d u × (Says d u × IsSet d u)) (Next (scope_after_all xs scope) scope opening (ways_of_all xs settings) (pass_statements m xs env) head w.objects frame.opened) (execute_from s 0 xs frame w)
      (stays_with Clean (λ d u. Says d u × IsSet d u) (execute_from s 0 xs frame w) h
      (holds_both Says IsSet (execute_from s 0 xs frame w) (statements_go p whole n depth number f there calls loops result lie xs scope l b i env before none head frame w stands.soundly d)
      (all_set_in_function p whole n (call_at n p) depth number f there xs scope l b i before.once apart settings stands.soundly.kinds frame w stands.soundly.fits stands.set_up)))
      (λ d u k. record { moved = k.0; ready = k.1.0.ready; sets = k.1.1; said = k.1.0.as_said })

  -- ## Steps

  abbrev pub stand_step : (scope opening : List ℕ) (settings : Settings) (frame : Frame) (w : State) (left : ℕ) → suc left ≡ w.left → Stand scope opening settings frame w → Stand scope opening settings frame (record w { left = left })
  stand_step scope opening settings frame w left e h = record { soundly = ready_step p whole n depth number f there frame w left e h.soundly; set_up = h.set_up; live = h.live; settled = h.settled }

  -- with no object opened in the block so far
  pub stand_block : (scope opening : List ℕ) (settings : Settings) (frame : Frame) (w : State) → Stand scope opening settings frame w → Stand scope opening settings (record frame { opened = [] }) w
  stand_block scope opening settings frame w h = record { soundly = fresh_block p whole n depth number f there calls loops result lie frame w h.soundly; set_up = h.set_up; live = h.live; settled = h.settled }

  -- in the same frame after a piece that leaves it
  abbrev pub stand_after : (scope opening : List ℕ) (settings : Settings) (frame : Frame) (w u : State) → Stand scope opening settings frame w → StandsSoundly p f.variables n frame u → LeavesClean p opening w.objects u → Stand scope opening settings frame u
  stand_after scope opening settings frame w u h r l = record {
    soundly = r;
    set_up = h.set_up;
    live = record { each = λ k o e there. live_on declared opening w.objects u.objects o l.survive (h.live.each k o e there) };
    settled = l.settled;
  }

  -- ## Values and places

  -- what values and places leave, and what stands there
  abbrev pub ValuesClean : Type 0
  ValuesClean = (scope : List ℕ) (v : PlainValue) → IsWholeValue (around (here scope false false)) v → is_scalar (type_of v) ≡ true → (env : Environment) (head : List Held) (frame : Frame) (w : State) (settings : Settings) (opening : List ℕ) →
      Stand scope opening settings frame w → Describes f.variables env head frame.held → failing_in calls v env ≡ [] → flaws_in_value m settings v env ≡ [] → Stays (λ x u. LeavesClean p opening w.objects u) (evaluate s frame.held v w)

  -- after a value
  pub record AfterValue (scope opening : List ℕ) (settings : Settings) (env : Environment) (head : List Held) (v : PlainValue) (frame : Frame) (before : List Object) (x : Scalar) (u : State) : Type 0 where
    pub stands : Stand scope opening settings frame u
    pub clean : LeavesClean p opening before u
    pub valued : Valued p whole n depth number f there calls lie env head v frame x u

  pub value_next : ValuesClean → (scope : List ℕ) (v : PlainValue) → IsWholeValue (around (here scope false false)) v → is_scalar (type_of v) ≡ true → (env : Environment) (head : List Held) (frame : Frame) (w : State) (settings : Settings) (opening : List ℕ) →
      Stand scope opening settings frame w → Describes f.variables env head frame.held → failing_in calls v env ≡ [] → flaws_in_value m settings v env ≡ [] → Stays (AfterValue scope opening settings env head v frame w.objects) (evaluate s frame.held v w)
  value_next values scope v i scalar env head frame w settings opening stands d none flaws =
      let Clean : Scalar → State → Type 0 = λ x u. LeavesClean p opening w.objects u in
      let Is : Scalar → State → Type 0 = Valued p whole n depth number f there calls lie env head v frame in
      stays_weaker (λ x u. Clean x u × Is x u) (AfterValue scope opening settings env head v frame w.objects) (evaluate s frame.held v w)
      (stays_with Clean Is (evaluate s frame.held v w) (values scope v i scalar env head frame w settings opening stands d none flaws)
      (valued p whole n depth number f there calls lie scope v i env head frame w none stands.soundly d))
      (λ x u k. record { stands = stand_after scope opening settings frame w u stands k.1.ready k.0; clean = k.0; valued = k.1 })
