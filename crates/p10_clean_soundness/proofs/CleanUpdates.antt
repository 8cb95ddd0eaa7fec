-- Updates leave a clean state.
use Rattle.std.proofs.Common.{◌≡◌, ℕ, suc, Bool, false, List, [], ◌++◌, ◌∙◌, ap, Option, Some, slice_get}
use Rattle.p10_base.specs.declared.at.At.{At as Tree}
use Rattle.p10_int.specs.declared.operators.BinOp.{BinOp}
use Rattle.p10_core.specs.declared.statements.UpdateKind.{UpdateKind}
use Rattle.p10_core.specs.Types.{PlainType, unqualified}
use Rattle.p10_core.specs.Rows.{is_scalar}
use Rattle.p10_core.specs.Typed.{PlainValue, type_of, PlainPlace, place_at, place_type, statement, update, PlainFunction, PlainProgram}
use Rattle.p10_core.specs.WholePrograms.{Region, around, Updates, IsWholeProgram}
use Rattle.p10_cert.specs.Claims.{Value, Loop, Claims}
use Rattle.p10_meaning.specs.declared.pointers.Scalar.{Scalar}
use Rattle.p10_meaning.specs.Objects.{Object}
use Rattle.p10_meaning.specs.States.{State, Progress}
use Rattle.p10_meaning.specs.Scalars.{converted_to, operated}
use Rattle.p10_meaning.specs.Values.{Setting, Held, Target, evaluate, locate, read_target}
use Rattle.p10_meaning.specs.Statements.{Frame, Done, execute}
use Rattle.p10_meaning.specs.Calling.{Depth, setting_of, call_at}
use Rattle.p10_meaning.specs.Sound.{Kind, Fits, region_at}
use Rattle.p10_meaning.proofs.Geometry.{IsLaidOut}
use Rattle.p10_meaning.proofs.LaidOut.{laid_out}
use Rattle.p10_meaning.proofs.SoundValues.{target_grown}
use Rattle.p10_absx.specs.Environments.{Environment}
use Rattle.p10_absx.specs.Assessing.{abstract_value}
use Rattle.p10_absx.specs.Describing.{Describes}
use Rattle.p10_pass.specs.Arguments.{failing_in, failing_at}
use Rattle.p10_pass.specs.Passing.{Manner, manner_in, reached, updated_value, pass_statement}
use Rattle.p10_evaluation.specs.Claimed.{ResultsLie}
use Rattle.p10_evaluation.specs.Laws.{IsHeldBy}
use Rattle.p10_execution.specs.Leaving.{NoneFails}
use Rattle.p10_execution.proofs.Storing.{Points, locate_points}
use Rattle.p10_execution.proofs.Updating.{IsRead, read_is}
use Rattle.p10_execution.proofs.Ends.{nothing_left, nothing_right, calls_none}
use Rattle.p10_clean.specs.Settings.{Settings}
use Rattle.p10_clean.specs.Literals.{lies_in_literal}
use Rattle.p10_clean.specs.Values.{read_flaws, flaws_in_value, flaws_in_place}
use Rattle.p10_clean.specs.Statements.{target_flaws, update_flaws, flaws_in_statement}
use Rattle.p10_clean_soundness.specs.private.Stays.{Stays}
use Rattle.p10_clean_soundness.specs.private.Objects.{LeavesClean}
use Rattle.p10_clean_soundness.proofs.Afterwards.{At, PlacesClean, ReadsClean, PlaceAt, place_next, ValueAt, value_at, read_next}
use Rattle.p10_clean_soundness.proofs.Closing.{leaves_then}
use Rattle.p10_clean_soundness.proofs.Flawless.{no_flaw}
use Rattle.p10_clean_soundness.proofs.Operated.{HasResult}
use Rattle.p10_clean_soundness.proofs.ScalarRows.{TakesScalars, plain_scalar, binary_takes}
use Rattle.p10_clean_soundness.proofs.Reaching.{Stand, stand_step, ValuesClean}
use Rattle.p10_clean_soundness.proofs.Staying.{stays_step, stays_then, stays_or, stays_weaker, stays_with}
use Rattle.p10_clean_soundness.proofs.WritingTargets.{reached_on, write_clean}

module _ (p : PlainProgram) (whole : IsWholeProgram p) (n : ℕ) (depth : Depth) (number : ℕ) (f : PlainFunction) (there : slice_get p.functions number ≡ Some f)
    (calls : Option Claims) (loops : Option (List Loop)) (result : Option Value) (lie : ResultsLie p calls n (call_at n p depth)) where
  abbrev s : Setting
  s = setting_of p n (call_at n p) depth f

  abbrev m : Manner
  m = manner_in f calls loops result

  abbrev here : List ℕ → Bool → Bool → Region
  here scope l b = region_at p number f scope l b

  abbrev Stands : List ℕ → List ℕ → Settings → Frame → State → Type 0
  Stands scope opening settings frame w = Stand p whole n depth number f there calls loops result lie scope opening settings frame w

  abbrev Clean : List ℕ → List Object → Done → State → Type 0
  Clean opening before d u = LeavesClean p opening before u

  out : IsLaidOut p
  out = laid_out p whole

  abbrev step_on : (scope opening : List ℕ) (settings : Settings) (frame : Frame) (w : State) (left : ℕ) → suc left ≡ w.left → Stands scope opening settings frame w → Stands scope opening settings frame (record w { left = left })
  step_on scope opening settings frame w left e stands = stand_step p whole n depth number f there calls loops result lie scope opening settings frame w left e stands

  after : (opening : List ℕ) (before : List Object) (u : State) (o : Progress Done) → LeavesClean p opening before u → Stays (Clean opening u.objects) o → Stays (Clean opening before) o
  after opening before u o h k = stays_weaker (Clean opening u.objects) (Clean opening before) o k (λ d t j. leaves_then p opening before u t h j)

  -- the operator of an update without flaws has a result
  abbrev pub UpdatesGive : Type 0
  UpdatesGive = (scope : List ℕ) (at : Tree) (kind : UpdateKind) (op : BinOp) (t : PlainType) (q : PlainPlace) (v : PlainValue) → Updates (around (here scope false false)) kind op t q v → (env : Environment) (head held : List Held) → update_flaws at.span op t q (abstract_value calls env v) env ≡ [] → (target : Target) → Points held q target →
      Describes f.variables env head held → (ks js : List Kind) (x y : Scalar) → IsRead held target x → Fits p ks (place_type q) x → Fits p js (type_of v) y → IsHeldBy head (abstract_value calls env v) y → (objects : List Object) → HasResult (operated op t objects (converted_to t x) y)

  module _ (values : ValuesClean p whole n depth number f there calls loops result lie) (places : PlacesClean p whole n depth number f there calls loops result lie) (reads : ReadsClean p whole n depth number f there calls loops result lie) (gives_result : UpdatesGive) where
    pub update_clean : (scope : List ℕ) (at : Tree) (kind : UpdateKind) (op : BinOp) (t : PlainType) (q : PlainPlace) (v : PlainValue) → Updates (around (here scope false false)) kind op t q v → (env : Environment) → NoneFails (pass_statement m (statement at (update kind op t q v)) env) → (settings : Settings) →
        flaws_in_statement m (statement at (update kind op t q v)) settings env ≡ [] → (opening : List ℕ) (head : List Held) (frame : Frame) (w : State) → Stands scope opening settings frame w → Describes f.variables env head frame.held → Stays (Clean opening w.objects) (execute s (statement at (update kind op t q v)) frame w)
    update_clean scope at kind op t q v i env none settings flaws opening head frame w stands d =
        let names : failing_at calls q env ++ failing_in calls v env ≡ [] = calls_none (failing_at calls q env ++ failing_in calls v env) (reached (updated_value op t q (abstract_value calls env v) env)) none in
        let read_none : read_flaws m settings q ++ (update_flaws at.span op t q (abstract_value calls env v) env ++ (flaws_in_place m settings q env ++ flaws_in_value m settings v env)) ≡ [] = nothing_right (target_flaws q) _ flaws in
        let operator_none : update_flaws at.span op t q (abstract_value calls env v) env ++ (flaws_in_place m settings q env ++ flaws_in_value m settings v env) ≡ [] = nothing_right (read_flaws m settings q) _ read_none in
        let parts : flaws_in_place m settings q env ++ flaws_in_value m settings v env ≡ [] = nothing_right (update_flaws at.span op t q (abstract_value calls env v) env) _ operator_none in
        let isnt : lies_in_literal q ≡ false = no_flaw (lies_in_literal q) 8 (place_at q).span (nothing_left (target_flaws q) _ flaws) in
        let takes : TakesScalars i.entry = binary_takes p.structures op false false (unqualified (place_type q)) i.right_type i.entry i.is in
        stays_step (Clean opening w.objects) w _ (λ left e.
        let now : State = record w { left = left } in
        let ready : Stands scope opening settings frame now = step_on scope opening settings frame w left e stands in
        let Found : Target → State → Type 0 = PlaceAt p whole n depth number f there calls loops result lie scope opening settings frame w.objects ready.soundly.kinds q in
        stays_then (λ target u. Found target u × Points frame.held q target) (Clean opening w.objects) (locate s frame.held q now) _
        (stays_with Found (λ target u. Points frame.held q target) (locate s frame.held q now)
        (place_next p whole n depth number f there calls loops result lie places scope q i.place env head frame now settings opening ready d (nothing_left (failing_at calls q env) _ names) (nothing_left (flaws_in_place m settings q env) _ parts)) (locate_points s frame.held q now)) (λ target u h.
        after opening w.objects u _ h.0.at.clean
        (stays_step (Clean opening u.objects) u _ (λ left e.
        let next : State = record u { left = left } in
        let there_stands : Stands scope opening settings frame next = step_on scope opening settings frame u left e h.0.at.stands in
        let Reads : Scalar → State → Type 0 = λ x b. At p whole n depth number f there calls loops result lie scope opening settings frame u.objects there_stands.soundly.kinds (λ js. Fits p js (place_type q) x) b in
        stays_then (λ x b. Reads x b × IsRead frame.held target x) (Clean opening u.objects) (read_target (place_at q).span (place_type q) frame.held target next) _
        (stays_with Reads (λ x b. IsRead frame.held target x) (read_target (place_at q).span (place_type q) frame.held target next)
        (read_next p whole n depth number f there calls loops result lie reads scope q i.place i.scalar frame next settings opening there_stands target h.0.at.typed h.0.reached h.0.frame_is (nothing_left (read_flaws m settings q) _ read_none)) (read_is frame.held (place_at q).span (place_type q) target next)) (λ x b k.
        after opening u.objects b _ k.0.clean
        (stays_then (ValueAt p whole n depth number f there calls loops result lie scope opening settings env head frame b.objects k.0.stands.soundly.kinds v) (Clean opening b.objects) (evaluate s frame.held v b) _
        (value_at p whole n depth number f there calls loops result lie values scope v i.value (ap is_scalar i.value_is ∙ plain_scalar i.entry.right takes.right) env head frame b settings opening k.0.stands d (nothing_right (failing_at calls q env) _ names) (nothing_right (flaws_in_place m settings q env) _ parts)) (λ y c j.
        after opening b.objects c _ j.at.clean
        (stays_step (Clean opening c.objects) c _ (λ left e.
        let result_is : HasResult (operated op t c.objects (converted_to t x) y) = gives_result scope at kind op t q v i env head frame.held (nothing_left (update_flaws at.span op t q (abstract_value calls env v) env) _ operator_none) target h.1 d
        k.0.stands.soundly.kinds j.at.stands.soundly.kinds x y k.1 k.0.typed j.at.typed j.found.held_by c.objects in
        stays_or (Clean opening c.objects) (operated op t c.objects (converted_to t x) y) result_is.scalar at.span (record c { left = left }) _ result_is.is
        (write_clean p out opening f.variables q (place_type q) j.at.stands.soundly.kinds (place_at q).span target (converted_to (place_type q) result_is.scalar) frame (record c { left = left }) j.at.stands.soundly.sound
        (target_grown p f.variables (place_type q) k.0.stands.soundly.kinds j.at.stands.soundly.kinds target j.at.grows
        (target_grown p f.variables (place_type q) there_stands.soundly.kinds k.0.stands.soundly.kinds target k.0.grows h.0.at.typed)) i.scalar isnt j.at.clean.settled
        (reached_on q opening b.objects c.objects target j.at.clean.survive (reached_on q opening u.objects b.objects target k.0.clean.survive h.0.reached))))))))))))
