-- Statements without parts leave a clean state.
use Rattle.std.proofs.Common.{◌≡◌, ℕ, suc, Bool, true, false, List, [], ◌++◌, refl, ◌∙◌, ap, Option, Some, None, slice_get, inl, inr}
use Rattle.std.specs.Prelude.{◌⊎◌, if◌then◌else◌}
use Rattle.p10_base.specs.declared.span.Span.{Span}
use Rattle.p10_base.specs.declared.at.At.{At as Tree}
use Rattle.p10_core.specs.Types.{PlainType, void, integer, pointer, array, structure, unqualified}
use Rattle.p10_core.specs.Rows.{is_scalar, is_void}
use Rattle.p10_core.specs.Whole.{IsWholeValue}
use Rattle.p10_core.specs.Typed.{PlainValue, type_of, PlainPlace, place_at, place_type, statement, set, copy, evaluate as expression, asserts, return, PlainFunction, PlainProgram}
use Rattle.p10_core.specs.WholePrograms.{Region, around, Sets, Copies, IsTest, Returns, IsWholeVariable, IsWholeProgram}
use Rattle.p10_cert.specs.Claims.{Value, Loop, Claims}
use Rattle.p10_meaning.specs.declared.pointers.Scalar.{Scalar}
use Rattle.p10_meaning.specs.Objects.{Object}
use Rattle.p10_meaning.specs.States.{State, AssertionFailed, Progress, gives, ends, and_then}
use Rattle.p10_meaning.specs.Scalars.{is_true}
use Rattle.p10_meaning.specs.Values.{Setting, Held, Target, Variable, Sensor, Element, asserted, evaluate, discard, locate}
use Rattle.p10_meaning.specs.Statements.{Frame, Done, goes, execute}
use Rattle.p10_meaning.specs.Calling.{Depth, setting_of, call_at}
use Rattle.p10_meaning.specs.Sound.{region_at}
use Rattle.p10_meaning.proofs.Geometry.{IsLaidOut}
use Rattle.p10_meaning.proofs.LaidOut.{laid_out}
use Rattle.p10_meaning.proofs.SoundValues.{target_grown}
use Rattle.p10_absx.specs.Environments.{Environment}
use Rattle.p10_absx.specs.Assessing.{assess, known_where, abstract_value}
use Rattle.p10_absx.specs.Describing.{Describes}
use Rattle.p10_pass.specs.Arguments.{failing_in, failing_at, has_value}
use Rattle.p10_pass.specs.Passing.{Manner, manner_in, reached, set_value, value_returned, pass_statement}
use Rattle.p10_evaluation.specs.Claimed.{ResultsLie}
use Rattle.p10_execution.specs.Leaving.{NoneFails}
use Rattle.p10_execution.proofs.Ends.{nothing_left, nothing_right, calls_none}
use Rattle.p10_clean.specs.Settings.{Settings}
use Rattle.p10_clean.specs.Literals.{lies_in_literal}
use Rattle.p10_clean.specs.Values.{flaws_in_value, flaws_in_place}
use Rattle.p10_clean.specs.Statements.{target_flaws, flaws_in_statement}
use Rattle.p10_clean_soundness.specs.private.Stays.{Stays}
use Rattle.p10_clean_soundness.specs.private.Objects.{LeavesClean}
use Rattle.p10_clean_soundness.proofs.Afterwards.{IsFrameTarget, PlacesClean, DiscardsClean, PlaceAt, place_next, ValueAt, value_at}
use Rattle.p10_clean_soundness.proofs.Closing.{leaves_same, leaves_then}
use Rattle.p10_clean_soundness.proofs.Flawless.{no_flaw}
use Rattle.p10_clean_soundness.proofs.Reaching.{Stand, stand_step, ValuesClean}
use Rattle.p10_meaning.proofs.LaidOut.{all_at}
use Rattle.p10_clean_soundness.proofs.Staying.{stays_step, stays_then, stays_if, stays_weaker}
use Rattle.p10_clean_soundness.proofs.WritingTargets.{IsScalarTarget, reached_on, write_clean, copy_clean}

plain_scalar : (t : PlainType) → is_scalar t ≡ true → is_scalar (unqualified t) ≡ true
plain_scalar (void c) e = absurd cc
plain_scalar (integer c i) e = refl
plain_scalar (pointer c t) e = refl
plain_scalar (array c t n) e = absurd cc
plain_scalar (structure c n) e = absurd cc

-- a result that isn't `void` is a scalar
result_scalar : (a b : Bool) → (a ≡ true) ⊎ (b ≡ true) → b ≡ false → a ≡ true
result_scalar a b h e = elim h [ inl k ↦ k | inr k ↦ absurd cc ]

module _ (p : PlainProgram) (whole : IsWholeProgram p) (n : ℕ) (depth : Depth) (number : ℕ) (f : PlainFunction) (there : slice_get p.functions number ≡ Some f)
    (calls : Option Claims) (loops : Option (List Loop)) (result : Option Value) (lie : ResultsLie p calls n (call_at n p depth)) where
  abbrev s : Setting
  s = setting_of p n (call_at n p) depth f

  abbrev m : Manner
  m = manner_in f calls loops result

  abbrev here : List ℕ → Bool → Bool → Region
  here scope l b = region_at p number f scope l b

  abbrev Stands : List ℕ → List ℕ → Settings → Frame → State → Type 0
  Stands scope opening settings frame w = Stand p whole n depth number f there calls loops result lie scope opening settings frame w

  abbrev Clean : List ℕ → List Object → Done → State → Type 0
  Clean opening before d u = LeavesClean p opening before u

  out : IsLaidOut p
  out = laid_out p whole

  step_on : (scope opening : List ℕ) (settings : Settings) (frame : Frame) (w : State) (left : ℕ) → suc left ≡ w.left → Stands scope opening settings frame w → Stands scope opening settings frame (record w { left = left })
  step_on scope opening settings frame w left e stands = stand_step p whole n depth number f there calls loops result lie scope opening settings frame w left e stands

  -- a frame variable is a scalar
  scalar_target : (target : Target) → IsFrameTarget p whole n depth number f there calls loops result lie target → IsScalarTarget f.variables target
  scalar_target (Variable k) h = λ v e. (all_at (λ v. IsWholeVariable p.structures v) f.variables k v (whole.functions number f there).variables e).frame_scalar (h v e)
  scalar_target Sensor h = tt
  scalar_target (Element q) h = tt

  after : (opening : List ℕ) (before : List Object) (u : State) (o : Progress Done) → LeavesClean p opening before u → Stays (Clean opening u.objects) o → Stays (Clean opening before) o
  after opening before u o h k = stays_weaker (Clean opening u.objects) (Clean opening before) o k (λ d t j. leaves_then p opening before u t h j)

  module _ (values : ValuesClean p whole n depth number f there calls loops result lie) (places : PlacesClean p whole n depth number f there calls loops result lie) (discards : DiscardsClean p whole n depth number f there calls loops result lie) where
    pub set_clean : (scope : List ℕ) (at : Tree) (q : PlainPlace) (v : PlainValue) → Sets (around (here scope false false)) q v → (env : Environment) → NoneFails (pass_statement m (statement at (set q v)) env) → (settings : Settings) → flaws_in_statement m (statement at (set q v)) settings env ≡ [] →
        (opening : List ℕ) (head : List Held) (frame : Frame) (w : State) → Stands scope opening settings frame w → Describes f.variables env head frame.held → Stays (Clean opening w.objects) (execute s (statement at (set q v)) frame w)
    set_clean scope at q v i env none settings flaws opening head frame w stands d =
        let names : failing_at calls q env ++ failing_in calls v env ≡ [] = calls_none (failing_at calls q env ++ failing_in calls v env) (reached (set_value q (type_of v) (abstract_value calls env v) env)) none in
        let parts : flaws_in_place m settings q env ++ flaws_in_value m settings v env ≡ [] = nothing_right (target_flaws q) _ flaws in
        let isnt : lies_in_literal q ≡ false = no_flaw (lies_in_literal q) 8 (place_at q).span (nothing_left (target_flaws q) _ flaws) in
        stays_step (Clean opening w.objects) w _ (λ left e.
        let now : State = record w { left = left } in
        let ready : Stands scope opening settings frame now = step_on scope opening settings frame w left e stands in
        stays_then (PlaceAt p whole n depth number f there calls loops result lie scope opening settings frame w.objects ready.soundly.kinds q) (Clean opening w.objects) (locate s frame.held q now) _
        (place_next p whole n depth number f there calls loops result lie places scope q i.place env head frame now settings opening ready d (nothing_left (failing_at calls q env) _ names) (nothing_left (flaws_in_place m settings q env) _ parts)) (λ target u h.
        after opening w.objects u _ h.at.clean
        (stays_then (ValueAt p whole n depth number f there calls loops result lie scope opening settings env head frame u.objects h.at.stands.soundly.kinds v) (Clean opening u.objects) (evaluate s frame.held v u) _
        (value_at p whole n depth number f there calls loops result lie values scope v i.value (ap is_scalar i.type_is ∙ plain_scalar (place_type q) i.scalar) env head frame u settings opening h.at.stands d (nothing_right (failing_at calls q env) _ names) (nothing_right (flaws_in_place m settings q env) _ parts)) (λ x t k.
        after opening u.objects t _ k.at.clean
        (write_clean p out opening f.variables q (place_type q) k.at.stands.soundly.kinds (place_at q).span target x frame t k.at.stands.soundly.sound
        (target_grown p f.variables (place_type q) h.at.stands.soundly.kinds k.at.stands.soundly.kinds target k.at.grows h.at.typed) i.scalar isnt k.at.clean.settled (reached_on q opening u.objects t.objects target k.at.clean.survive h.reached))))))

    pub copies_clean : (scope : List ℕ) (at : Tree) (q z : PlainPlace) → Copies (around (here scope false false)) q z → (env : Environment) → NoneFails (pass_statement m (statement at (copy q z)) env) → (settings : Settings) → flaws_in_statement m (statement at (copy q z)) settings env ≡ [] →
        (opening : List ℕ) (head : List Held) (frame : Frame) (w : State) → Stands scope opening settings frame w → Describes f.variables env head frame.held → Stays (Clean opening w.objects) (execute s (statement at (copy q z)) frame w)
    copies_clean scope at q z i env none settings flaws opening head frame w stands d =
        let names : failing_at calls q env ++ failing_at calls z env ≡ [] = calls_none (failing_at calls q env ++ failing_at calls z env) (reached (Some env)) none in
        let parts : flaws_in_place m settings q env ++ flaws_in_place m settings z env ≡ [] = nothing_right (target_flaws q) _ flaws in
        let isnt : lies_in_literal q ≡ false = no_flaw (lies_in_literal q) 8 (place_at q).span (nothing_left (target_flaws q) _ flaws) in
        stays_step (Clean opening w.objects) w _ (λ left e.
        let now : State = record w { left = left } in
        let ready : Stands scope opening settings frame now = step_on scope opening settings frame w left e stands in
        stays_then (PlaceAt p whole n depth number f there calls loops result lie scope opening settings frame w.objects ready.soundly.kinds q) (Clean opening w.objects) (locate s frame.held q now) _
        (place_next p whole n depth number f there calls loops result lie places scope q i.target env head frame now settings opening ready d (nothing_left (failing_at calls q env) _ names) (nothing_left (flaws_in_place m settings q env) _ parts)) (λ target u h.
        after opening w.objects u _ h.at.clean
        (stays_then (PlaceAt p whole n depth number f there calls loops result lie scope opening settings frame u.objects h.at.stands.soundly.kinds z) (Clean opening u.objects) (locate s frame.held z u) _
        (place_next p whole n depth number f there calls loops result lie places scope z i.source.whole env head frame u settings opening h.at.stands d (nothing_right (failing_at calls q env) _ names) (nothing_right (flaws_in_place m settings q env) _ parts)) (λ source t k.
        after opening u.objects t _ k.at.clean
        (copy_clean p out opening f.variables q z (place_type q) (place_type z) i.source.number i.source.target_is i.source.source_is k.at.stands.soundly.kinds (place_at q).span (place_at z).span target source frame t k.at.stands.soundly.sound
        (target_grown p f.variables (place_type q) h.at.stands.soundly.kinds k.at.stands.soundly.kinds target k.at.grows h.at.typed) k.at.typed (scalar_target target h.frame_is) (scalar_target source k.frame_is) isnt k.at.clean.settled
        (reached_on q opening u.objects t.objects target k.at.clean.survive h.reached) k.reached)))))

    pub expression_clean : (scope : List ℕ) (at : Tree) (v : PlainValue) → IsWholeValue (around (here scope false false)) v → (env : Environment) → NoneFails (pass_statement m (statement at (expression v)) env) → (settings : Settings) → flaws_in_statement m (statement at (expression v)) settings env ≡ [] →
        (opening : List ℕ) (head : List Held) (frame : Frame) (w : State) → Stands scope opening settings frame w → Describes f.variables env head frame.held → Stays (Clean opening w.objects) (execute s (statement at (expression v)) frame w)
    expression_clean scope at v i env none settings flaws opening head frame w stands d =
        stays_step (Clean opening w.objects) w _ (λ left e.
        stays_then (λ x u. LeavesClean p opening w.objects u) (Clean opening w.objects) (discard s frame.held v (record w { left = left })) _
        (discards scope v i env head frame (record w { left = left }) settings opening (step_on scope opening settings frame w left e stands) d (calls_none (failing_in calls v env) (reached (if has_value calls v env then Some env else None)) none) flaws) (λ x u h. h))

    asserted_clean : (opening : List ℕ) (before : List Object) (span : Span) (x : Scalar) (frame : Frame) (u : State) → LeavesClean p opening before u → Stays (Clean opening before) (and_then (asserted span x u) (λ none w. goes frame w))
    asserted_clean opening before span x frame u h =
        let Left : Option Scalar → State → Type 0 = λ y t. LeavesClean p opening before t in
        stays_then Left (Clean opening before) (asserted span x u) _ (stays_if Left (is_true x) (gives None u) (ends (AssertionFailed span) u) (λ e. h) (λ e. tt)) (λ y t k. k)

    pub asserts_clean : (scope : List ℕ) (at call : Tree) (v : PlainValue) → IsTest (around (here scope false false)) v → (env : Environment) → NoneFails (pass_statement m (statement at (asserts call v)) env) → (settings : Settings) → flaws_in_statement m (statement at (asserts call v)) settings env ≡ [] →
        (opening : List ℕ) (head : List Held) (frame : Frame) (w : State) → Stands scope opening settings frame w → Describes f.variables env head frame.held → Stays (Clean opening w.objects) (execute s (statement at (asserts call v)) frame w)
    asserts_clean scope at call v i env none settings flaws opening head frame w stands d =
        stays_step (Clean opening w.objects) w _ (λ left e.
        stays_then (λ x u. LeavesClean p opening w.objects u) (Clean opening w.objects) (evaluate s frame.held v (record w { left = left })) _
        (values scope v i.whole i.scalar env head frame (record w { left = left }) settings opening (step_on scope opening settings frame w left e stands) d (calls_none (failing_in calls v env) (reached (known_where true env (assess calls v env))) none) flaws)
        (λ x u h. asserted_clean opening w.objects call.span x frame u h))

    pub return_clean : (scope : List ℕ) (at : Tree) (keyword : Span) (v : Option PlainValue) → Returns (around (here scope false false)) f.result v → (env : Environment) → NoneFails (pass_statement m (statement at (return keyword v)) env) → (settings : Settings) → flaws_in_statement m (statement at (return keyword v)) settings env ≡ [] →
        (opening : List ℕ) (head : List Held) (frame : Frame) (w : State) → Stands scope opening settings frame w → Describes f.variables env head frame.held → Stays (Clean opening w.objects) (execute s (statement at (return keyword v)) frame w)
    return_clean scope at keyword None i env none settings flaws opening head frame w stands d = stays_step (Clean opening w.objects) w _ (λ left e. leaves_same p opening (record w { left = left }) stands.settled)
    return_clean scope at keyword (Some v) i env none settings flaws opening head frame w stands d =
        let scalar : is_scalar f.result ≡ true = result_scalar (is_scalar f.result) (is_void f.result) (whole.functions number f there).result.scalar_or_none i.1 in
        stays_step (Clean opening w.objects) w _ (λ left e.
        stays_then (λ x u. LeavesClean p opening w.objects u) (Clean opening w.objects) (evaluate s frame.held v (record w { left = left })) _
        (values scope v i.0 (ap is_scalar i.2 ∙ plain_scalar f.result scalar) env head frame (record w { left = left }) settings opening (step_on scope opening settings frame w left e stands) d (calls_none (failing_in calls v env) (value_returned m keyword v env) none) flaws) (λ x u h. h))
