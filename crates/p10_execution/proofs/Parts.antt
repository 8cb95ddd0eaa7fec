-- What is evaluated and executed in a frame that fits leaves a sound state and a frame that fits, with no more steps left.
use Rattle.std.proofs.Common.{◌≡◌, ℕ, suc, ◌+◌, ◌≤◌, Bool, true, false, List, [], arith, Option, Some, slice_get}
use Rattle.p10_base.specs.declared.span.Span.{Span}
use Rattle.p10_core.specs.Types.{PlainType}
use Rattle.p10_core.specs.Rows.{is_scalar}
use Rattle.p10_core.specs.Typed.{PlainValue, type_of, PlainPlace, place_type, PlainStatement, PlainStatements, PlainFunction, PlainProgram}
use Rattle.p10_core.specs.Whole.{IsWholeValue, IsWholePlace}
use Rattle.p10_core.specs.WholePrograms.{around, IsWholeStatement, AreWholeStatements, IsWholeProgram}
use Rattle.p10_cert.specs.Claims.{Claims}
use Rattle.p10_meaning.specs.declared.pointers.Scalar.{Scalar}
use Rattle.p10_meaning.specs.States.{State, Progress, gives, ends}
use Rattle.p10_meaning.specs.Values.{Setting, Held, Target, evaluate, discard, locate, read_target}
use Rattle.p10_meaning.specs.Statements.{Frame, Done, execute, execute_from}
use Rattle.p10_meaning.specs.Calling.{Depth, setting_of, call_at}
use Rattle.p10_meaning.specs.Sound.{Kind, Fits, MaybeFits, Keeps, FlowFits, DoneFits, region_at}
use Rattle.p10_meaning.specs.Laws.{EndsAfter}
use Rattle.p10_meaning.proofs.Geometry.{IsLaidOut}
use Rattle.p10_meaning.proofs.LaidOut.{laid_out}
use Rattle.p10_meaning.proofs.Fitting.{frame_grown}
use Rattle.p10_meaning.proofs.AgreeingValues.{read_agrees, discard_agrees, locate_agrees}
use Rattle.p10_meaning.proofs.AgreeingStatements.{from_agrees}
use Rattle.p10_meaning.proofs.AgreeingCalls.{calls_agree, values_run, statements_run}
use Rattle.p10_meaning.proofs.SoundParts.{TargetFits, read_keeps}
use Rattle.p10_meaning.proofs.SoundValues.{discard_keeps, locate_keeps}
use Rattle.p10_meaning.proofs.SoundStatements.{AreFew, seen, seen_by, from_keeps}
use Rattle.p10_meaning.proofs.SoundCalls.{few_variables, calls_keep, values_keep, statements_keep}
use Rattle.p10_sums.specs.Keeping.{HoldsOf}
use Rattle.p10_absx.specs.Environments.{Environment}
use Rattle.p10_absx.specs.Describing.{Describes}
use Rattle.p10_pass.specs.Arguments.{failing_in, has_value}
use Rattle.p10_evaluation.specs.Claimed.{ResultsLie}
use Rattle.p10_evaluation.specs.Laws.{IsFound}
use Rattle.p10_evaluation.proofs.WholeFunctions.{values_found, discarded_found}
use Rattle.p10_execution.specs.Standing.{AreInFrame, StandsSoundly}
use Rattle.p10_execution.proofs.Giving.{holds_both, holds_weaker}
use Rattle.p10_execution.proofs.InFrame.{execute_in_frame, from_in_frame}

at_most : (a : ℕ) → a ≤ a
at_most a = omega arith

pub less_left : (left now n : ℕ) → suc left ≡ now → now ≤ n → left ≤ n
less_left left now n e l = omega (arith, e, l)

no_more : (a b n : ℕ) → a ≤ b → b ≤ n → a ≤ n
no_more a b n k l = omega (arith, k, l)

plus_none : (a n : ℕ) → a ≤ n → a + 0 ≤ n
plus_none a n l = omega (arith, l)

module _ (p : PlainProgram) (whole : IsWholeProgram p) (n : ℕ) (depth : Depth) (number : ℕ) (f : PlainFunction) (there : slice_get p.functions number ≡ Some f) where
  abbrev pub s : Setting
  s = setting_of p n (call_at n p) depth f

  abbrev pub Ready : Frame → State → Type 0
  Ready frame w = StandsSoundly p f.variables n frame w

  out : IsLaidOut p
  out = laid_out p whole

  few : AreFew p f.variables
  few = few_variables p whole number f (whole.functions number f there)

  -- a step is taken
  abbrev pub ready_step : (frame : Frame) (w : State) (left : ℕ) → suc left ≡ w.left → Ready frame w → Ready frame (record w { left = left })
  ready_step frame w left e r = record { kinds = r.kinds; sound = r.sound; fits = r.fits; in_frame = r.in_frame; left = less_left left w.left n e r.left }

  -- something is given in the same frame, and fits
  pub record Given {A : Type 0} (T : List Kind → A → Type 0) (frame : Frame) (a : A) (w : State) : Type 0 where
    pub ready : Ready frame w
    pub typed : T ready.kinds a

  given : {A : Type 0} (T : List Kind → A → Type 0) (frame : Frame) (w : State) (r : Ready frame w) (o : Progress A) → Keeps p r.kinds T o → EndsAfter w o → HoldsOf (Given T frame) o
  given T frame w r (gives a v) k e = record {
    ready = record { kinds = k.kinds; sound = k.sound; fits = frame_grown p r.kinds k.kinds f.variables frame.held k.grows r.fits; in_frame = r.in_frame; left = no_more v.left w.left n e.left r.left };
    typed = k.value;
  }
  given T frame w r (ends end v) k e = tt

  -- ## Values and places

  pub value_given : (scope : List ℕ) (v : PlainValue) → IsWholeValue (around (region_at p number f scope false false)) v → (frame : Frame) (w : State) → Ready frame w → HoldsOf (Given (λ ks. Fits p ks (type_of v)) frame) (evaluate s frame.held v w)
  value_given scope v i frame w r = given (λ ks. Fits p ks (type_of v)) frame w r (evaluate s frame.held v w) (values_keep p whole n depth number f there scope v i frame.held w r.kinds r.sound r.fits) ((values_run p depth f v frame.held w).follows n r.left)

  pub discarded_given : (scope : List ℕ) (v : PlainValue) → IsWholeValue (around (region_at p number f scope false false)) v → (frame : Frame) (w : State) → Ready frame w → HoldsOf (Given (λ ks. MaybeFits p ks (type_of v)) frame) (discard s frame.held v w)
  discarded_given scope v i frame w r = given (λ ks. MaybeFits p ks (type_of v)) frame w r (discard s frame.held v w)
      (discard_keeps p out whole (call_at n p depth) (calls_keep p whole n depth) n f.variables (seen_by p out whole (call_at n p depth) (calls_keep p whole n depth) n number f few scope) (seen p out whole (call_at n p depth) (calls_keep p whole n depth) n number f few scope) frame.held v i w r.kinds r.sound r.fits)
      (discard_agrees 0 w.left p f.variables (call_at n p depth) (call_at n p depth) n n (calls_agree 0 n n p w.left r.left (plus_none w.left n r.left) depth) frame.held v w w.left (at_most w.left) (more w.left)).follows
    where
      more : (a : ℕ) → a ≤ suc a
      more a = omega arith

  pub place_given : (scope : List ℕ) (q : PlainPlace) → IsWholePlace (around (region_at p number f scope false false)) q → (frame : Frame) (w : State) → Ready frame w → HoldsOf (Given (TargetFits p f.variables (place_type q)) frame) (locate s frame.held q w)
  place_given scope q i frame w r = given (TargetFits p f.variables (place_type q)) frame w r (locate s frame.held q w)
      (locate_keeps p out whole (call_at n p depth) (calls_keep p whole n depth) n f.variables (seen_by p out whole (call_at n p depth) (calls_keep p whole n depth) n number f few scope) (seen p out whole (call_at n p depth) (calls_keep p whole n depth) n number f few scope) frame.held q i w r.kinds r.sound r.fits)
      (locate_agrees 0 w.left p f.variables (call_at n p depth) (call_at n p depth) n n (calls_agree 0 n n p w.left r.left (plus_none w.left n r.left) depth) frame.held q w w.left (at_most w.left) (at_most w.left)).follows

  pub read_given : (span : Span) (t : PlainType) (target : Target) (frame : Frame) (w : State) → is_scalar t ≡ true → (r : Ready frame w) → TargetFits p f.variables t r.kinds target → HoldsOf (Given (λ ks. Fits p ks t) frame) (read_target span t frame.held target w)
  read_given span t target frame w scalar r fits = given (λ ks. Fits p ks t) frame w r (read_target span t frame.held target w) (read_keeps p out r.kinds f.variables frame.held span t target w scalar r.fits fits r.sound)
      (read_agrees 0 w.left span t frame.held target w (at_most w.left)).follows

  -- ## Statements

  -- an executed statement leaves a frame that fits
  pub record Left (d : Done) (w : State) : Type 0 where
    pub ready : Ready d.frame w
    pub flow : FlowFits p f.result ready.kinds d.flow

  left : (frame : Frame) (w : State) (r : Ready frame w) (o : Progress Done) → Keeps p r.kinds (DoneFits p f.variables f.result) o → EndsAfter w o → HoldsOf (λ (d : Done) w. AreInFrame f.variables d.frame.held) o → HoldsOf Left o
  left frame w r (gives d v) k e i = record {
    ready = record { kinds = k.kinds; sound = k.sound; fits = k.value.frame; in_frame = i; left = no_more v.left w.left n e.left r.left };
    flow = k.value.flow;
  }
  left frame w r (ends end v) k e i = tt

  pub statement_left : (scope : List ℕ) (l b : Bool) (x : PlainStatement) → IsWholeStatement (region_at p number f scope l b) x → (frame : Frame) (w : State) → Ready frame w → HoldsOf Left (execute s x frame w)
  statement_left scope l b x i frame w r = left frame w r (execute s x frame w) (statements_keep p whole n depth number f there scope l b x i frame w r.kinds r.sound r.fits) ((statements_run p depth f x frame w).follows n r.left) (execute_in_frame s x frame w r.in_frame)

  pub statements_left : (scope : List ℕ) (l b : Bool) (xs : PlainStatements) → AreWholeStatements (region_at p number f scope l b) xs → (frame : Frame) (w : State) → Ready frame w → HoldsOf Left (execute_from s 0 xs frame w)
  statements_left scope l b xs i frame w r = left frame w r (execute_from s 0 xs frame w)
      (from_keeps p out whole (call_at n p depth) (calls_keep p whole n depth) n number f few 0 xs scope l b i frame w r.kinds r.sound r.fits)
      (from_agrees 0 w.left p f.variables (call_at n p depth) (call_at n p depth) n n (calls_agree 0 n n p w.left r.left (plus_none w.left n r.left) depth) r.left (plus_none w.left n r.left) 0 xs frame w w.left (at_most w.left) (at_most w.left)).follows
      (from_in_frame s 0 xs frame w r.in_frame)

  -- ## What is found

  module _ (c : Option Claims) (lie : ResultsLie p c n (call_at n p depth)) where
    -- a value is given that is as an environment says
    pub record Valued (env : Environment) (head : List Held) (v : PlainValue) (frame : Frame) (x : Scalar) (w : State) : Type 0 where
      pub ready : Ready frame w
      pub typed : Fits p ready.kinds (type_of v) x
      pub found : IsFound c v f.variables env head frame.held x

    pub valued : (scope : List ℕ) (v : PlainValue) → IsWholeValue (around (region_at p number f scope false false)) v → (env : Environment) (head : List Held) (frame : Frame) (w : State) → failing_in c v env ≡ [] → Ready frame w → Describes f.variables env head frame.held →
        HoldsOf (Valued env head v frame) (evaluate s frame.held v w)
    valued scope v i env head frame w none r d =
        holds_weaker (λ x w. Given (λ ks. Fits p ks (type_of v)) frame x w × IsFound c v f.variables env head frame.held x) (Valued env head v frame) (evaluate s frame.held v w)
        (holds_both (Given (λ ks. Fits p ks (type_of v)) frame) (λ x w. IsFound c v f.variables env head frame.held x) (evaluate s frame.held v w) (value_given scope v i frame w r)
        (values_found p whole c n depth lie number f there scope v i env head frame.held r.kinds w (record { sound = r.sound; fits = r.fits; describes = d; few = r.left }) none).given)
        (λ x w h. record { ready = h.0.ready; typed = h.0.typed; found = h.1 })

    pub discarded : (scope : List ℕ) (v : PlainValue) → IsWholeValue (around (region_at p number f scope false false)) v → (env : Environment) (head : List Held) (frame : Frame) (w : State) → failing_in c v env ≡ [] → Ready frame w → Describes f.variables env head frame.held →
        HoldsOf (λ x w. has_value c v env ≡ true) (discard s frame.held v w)
    discarded scope v i env head frame w none r d = (discarded_found p whole c n depth lie number f there scope v i env head frame.held r.kinds w (record { sound = r.sound; fits = r.fits; describes = d; few = r.left }) none).given
