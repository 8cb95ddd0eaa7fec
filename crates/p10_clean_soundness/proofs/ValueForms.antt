-- Forms of values that have no flaws: they don't end in an undefined operation, where their parts don't.
use Rattle.std.proofs.Common.{◌≡◌, ℕ, suc, Bool, true, false, List, [], ◌∷◌, refl, sym, ◌∙◌, ap, subst, Option, Some, None, slice_get, ℤ}
use Rattle.std.specs.Prelude.{if◌then◌else◌, nat_eq}
use Rattle.std.specs.Option.{option_map}
use Rattle.std.proofs.lemmas.Option.{same_Some}
use Rattle.p10_base.specs.declared.span.Span.{Span}
use Rattle.p10_base.specs.declared.at.At.{At}
use Rattle.p10_int.specs.declared.operators.BinOp.{BinOp}
use Rattle.p10_int.specs.declared.operators.UnOp.{UnOp}
use Rattle.p10_core.specs.declared.typed.Library.{Library}
use Rattle.p10_core.specs.declared.typed.Library.TheVariants.{Assert, CAssert, Getchar, Putchar, Malloc, Calloc, Free}
use Rattle.p10_core.specs.declared.typed.LogicOp.{LogicOp}
use Rattle.p10_core.specs.declared.typed.LogicOp.TheVariants.{And, Or}
use Rattle.p10_core.specs.Types.{PlainType, bare}
use Rattle.p10_core.specs.Rows.{is_void, is_scalar}
use Rattle.p10_core.specs.Constants.{integer_of}
use Rattle.p10_core.specs.Typed.{PlainValue, value, type_of, constant, read, sense, address, convert, cast, unary, binary, logic, conditional, call, built_in, PlainPlace, place_at, place_type, PlainValues, no_values, more_values, PlainVariable, PlainFunction, PlainProgram}
use Rattle.p10_core.specs.Whole.{SeenFunction, Surroundings, Reads, UnaryAgrees, BinaryAgrees, Calls, CallsLibrary, IsWholeValue, AreWholeValues, IsWholePlace}
use Rattle.p10_core.specs.WholePrograms.{seen_function, around, IsWholeProgram}
use Rattle.p10_core.specs.Uses.{manages_memory}
use Rattle.p10_cert.specs.Claims.{Value, Loop, Claims}
use Rattle.p10_meaning.specs.declared.pointers.Scalar.{Scalar}
use Rattle.p10_meaning.specs.States.{State, gives, and_then}
use Rattle.p10_meaning.specs.Scalars.{is_true, converted_to, operated, operated_unary}
use Rattle.p10_meaning.specs.Values.{Setting, Held, Target, sensed, read_target, next_byte, library, give, is_structure, is_decided, evaluate, evaluate_all, discard, locate}
use Rattle.p10_meaning.specs.Statements.{Frame}
use Rattle.p10_meaning.specs.Calling.{Depth, setting_of, call_at}
use Rattle.p10_meaning.specs.Sound.{region_at}
use Rattle.p10_sums.specs.Keeping.{OnGives, AfterStepAt, ValueKeeps, ValuesKeep}
use Rattle.p10_absx.specs.Environments.{Environment}
use Rattle.p10_absx.specs.Assessing.{assess, known_where, abstract_value}
use Rattle.p10_absx.specs.Describing.{Describes, MaybeDescribes}
use Rattle.p10_pass.specs.Arguments.{has_value, goes_on_where, failing_in}
use Rattle.p10_pass.specs.Passing.{Manner, manner_in}
use Rattle.p10_evaluation.specs.Claimed.{IsCoveredCall, ResultsLie}
use Rattle.p10_evaluation.proofs.Failing.{in_read, in_address, in_convert, in_cast, in_unary, in_binary, in_logic, InConditional, in_conditional, in_call, in_built_in, in_values, failing_among}
use Rattle.p10_evaluation.proofs.WholeFunctions.{values_make_covered}
use Rattle.p10_clean.specs.Settings.{Settings}
use Rattle.p10_clean.specs.Values.{read_flaws, unary_flaws, flaws_in_value, flaws_in_values, flaws_in_place}
use Rattle.p10_clean_soundness.specs.private.Stays.{Stays, HasValue}
use Rattle.p10_clean_soundness.specs.private.Objects.{LeavesClean}
use Rattle.p10_clean_soundness.specs.private.Standing.{StandsClean, CallsStayClean}
use Rattle.p10_clean_soundness.proofs.Staying.{stays_step, stays_then, stays_or, stays_if, stays_weaker, stays_with}
use Rattle.p10_clean_soundness.proofs.Closing.{leaves_same, leaves_then}
use Rattle.p10_clean_soundness.proofs.Flawless.{InBinary, in_read as clean_read, in_unary as clean_unary, in_binary as clean_binary, in_logic as clean_logic, InConditional as CleanConditional, in_conditional as clean_conditional, in_built_in as clean_built_in, in_values as clean_values}
use Rattle.p10_clean_soundness.proofs.Operated.{HasResult, operated_ok, operated_unary_ok}
use Rattle.p10_clean_soundness.proofs.Arrays.{sensed_clean, read_clean}
use Rattle.p10_clean_soundness.proofs.ScalarTypes.{scalar_alike, read_scalar, scalar_no_structure, scalar_no_void}
use Rattle.p10_clean_soundness.proofs.Evaluated.{step_on, IsClear, Performed, Performs, Evaluates, EvaluatesAll, Located, Locates, After, after, AfterPlace, after_place}

-- ## Steps and choices

-- what holds after a step that was taken
after_step : (left now : ℕ) (w : State) (P : State → Type 0) → suc left ≡ now → AfterStepAt now w P → P (record w { left = left })
after_step left now w P e h = subst (λ now. AfterStepAt now w P) (sym e) h

-- where a state is reached an environment describes it
reached : (variables : List PlainVariable) (head held : List Held) (P : Type 0) (o : Option Environment) → MaybeDescribes variables o head held → ((env : Environment) → o ≡ Some env → Describes variables env head held → P) → P
reached variables head held P None d go = absurd d
reached variables head held P (Some env) d go = go env refl d

-- what the left operand doesn't decide
undecided : (op : LogicOp) (b : Bool) → is_decided op b ≡ false → b ≡ goes_on_where op
undecided And true e = refl
undecided And false e = absurd cc
undecided Or true e = absurd cc
undecided Or false e = refl

-- the callee has the result that is seen of it
callee_seen : (p : PlainProgram) (k : ℕ) (callee : PlainFunction) (seen : SeenFunction) → slice_get p.functions k ≡ Some callee → nat_eq k p.main ≡ false → (if nat_eq k p.main then None else option_map seen_function (slice_get p.functions k)) ≡ Some seen → seen_function callee ≡ seen
callee_seen p k callee seen e other h =
    same_Some _ _ (sym (ap (λ b. if b then None else option_map seen_function (slice_get p.functions k)) other ∙ ap (option_map seen_function) e) ∙ h)

module _ (p : PlainProgram) (whole : IsWholeProgram p) (n : ℕ) (depth : Depth) (number : ℕ) (f : PlainFunction) (there : slice_get p.functions number ≡ Some f)
    (calls : Option Claims) (loops : Option (List Loop)) (result : Option Value) (lie : ResultsLie p calls n (call_at n p depth)) (stay_clean : CallsStayClean p calls n (call_at n p depth)) (scope opening : List ℕ) (settings : Settings) (head : List Held) (frame : Frame) where
  abbrev s : Setting
  s = setting_of p n (call_at n p) depth f

  abbrev c : Surroundings
  c = around (region_at p number f scope false false)

  abbrev Stand : State → Type 0
  Stand w = StandsClean p f.variables n scope opening settings frame w

  abbrev m : Manner
  m = manner_in f calls loops result

  abbrev Leaves : {A : Type 0} → State → A → State → Type 0
  Leaves w a u = LeavesClean p opening w.objects u

  abbrev Done : PlainType → State → Option Scalar → State → Type 0
  Done t w x u = Performed p whole n depth number f there calls loops result lie scope opening settings head frame t w x u

  abbrev Acts : PlainValue → Type 0
  Acts v = Performs p whole n depth number f there calls loops result lie scope opening settings head frame v

  abbrev Yields : PlainValue → Type 0
  Yields v = Evaluates p whole n depth number f there calls loops result lie scope opening settings head frame v

  abbrev YieldAll : PlainValues → Type 0
  YieldAll vs = EvaluatesAll p whole n depth number f there calls loops result lie scope opening settings head frame vs

  abbrev Given : PlainValue → Environment → State → Scalar → State → Type 0
  Given v env w x u = After p whole n depth number f there calls loops result lie scope opening settings head frame v env w x u

  abbrev Finds : PlainPlace → Type 0
  Finds q = Locates p whole n depth number f there calls loops result lie scope opening settings head frame q

  abbrev Found : PlainPlace → State → Target → State → Type 0
  Found q w target u = AfterPlace p whole n depth number f there calls loops result lie scope opening settings head frame q w target u

  -- ## Parts without operators

  pub constant_form : (at : At) (t : PlainType) (z : ℤ) → Acts (value at t (constant z))
  constant_form at t z env clear w st = stays_step (Done t w) w _ (λ left less. (leaves_same p opening (record w { left = left }) st.settled, λ sc. tt))

  pub sense_form : (at : At) (t : PlainType) (k : ℕ) → Acts (value at t (sense k))
  sense_form at t k env clear w st = stays_step (Done t w) w _ (λ left less.
      stays_then (Leaves (record w { left = left })) (Done t w) (sensed t (record w { left = left })) give (sensed_clean p whole n depth number f there calls loops result lie scope opening settings head frame t (record w { left = left }) (step_on p whole n depth number f there calls loops result lie scope opening settings head frame w left less st)) (λ x u l. (l, λ sc. tt)))

  pub read_form : (at : At) (t : PlainType) (q : PlainPlace) → IsWholePlace c q → Reads c t q → Finds q → Acts (value at t (read q))
  read_form at t q i r finds env clear w st = stays_step (Done t w) w _ (λ left less.
      stays_then (Found q (record w { left = left })) (Done t w) (locate s frame.held q (record w { left = left })) _
      (after_place p whole n depth number f there calls loops result lie scope opening settings head frame q i finds env (record { lies = in_read calls at t q env clear.lies; clean = flaws.1; describes = clear.describes }) (record w { left = left }) (step_on p whole n depth number f there calls loops result lie scope opening settings head frame w left less st)) (λ target u g.
      stays_if (Done t w) (is_structure t) (gives None u) (and_then (read_target (place_at q).span t frame.held target u) give)
      (λ e. (g.leaves, λ sc. let h : true ≡ false = sym e ∙ scalar_no_structure t sc in absurd cc))
      (λ e. stays_then (Leaves u) (Done t w) (read_target (place_at q).span t frame.held target u) give
      (read_clean p whole n depth number f there calls loops result lie scope opening settings head frame q i (read_scalar p.structures (place_type q) t r.type_is r.no_array r.complete e) flaws.0 (place_at q).span t target u g.stand g.reached g.of_frame g.fits)
      (λ x v l. (leaves_then p opening w.objects u v g.leaves l, λ sc. tt)))))
    where
      flaws : (read_flaws m settings q ≡ []) × (flaws_in_place m settings q env ≡ [])
      flaws = clean_read m settings at t q env clear.clean

  pub address_form : (at : At) (t : PlainType) (q : PlainPlace) → Finds q → Acts (value at t (address q))
  address_form at t q finds env clear w st = stays_step (Done t w) w _ (λ left less.
      stays_then (Located p whole n depth number f there calls loops result lie scope opening settings head frame q (record w { left = left })) (Done t w) (locate s frame.held q (record w { left = left })) _
      (finds env (record { lies = in_address calls at t q env clear.lies; clean = clear.clean; describes = clear.describes }) (record w { left = left }) (step_on p whole n depth number f there calls loops result lie scope opening settings head frame w left less st)) (λ target u g. (g.0, λ sc. tt)))

  pub convert_form : (at : At) (t : PlainType) (v : PlainValue) → Yields v → Acts (value at t (convert v))
  convert_form at t v yields env clear w st =
      stays_then (Leaves w) (Done t w) (evaluate s frame.held v w) _ (yields env (record { lies = in_convert calls at t v env clear.lies; clean = clear.clean; describes = clear.describes }) w st) (λ x u l. (l, λ sc. tt))

  pub cast_form : (at : At) (t : PlainType) (v : PlainValue) → Acts v → (is_void t ≡ false → Yields v) → Acts (value at t (cast v))
  cast_form at t v acts yields env clear w st = stays_step (Done t w) w _ (λ left less.
      stays_if (Done t w) (is_void t) (and_then (discard s frame.held v (record w { left = left })) (λ x w. gives None w)) (and_then (evaluate s frame.held v (record w { left = left })) (λ x w. give (converted_to t x) w))
      (λ e. stays_then (Done (type_of v) w) (Done t w) (discard s frame.held v (record w { left = left })) _ (acts env part (record w { left = left }) (step_on p whole n depth number f there calls loops result lie scope opening settings head frame w left less st)) (λ x u g. (g.0, λ sc. let h : true ≡ false = sym e ∙ scalar_no_void t sc in absurd cc)))
      (λ e. stays_then (Leaves w) (Done t w) (evaluate s frame.held v (record w { left = left })) _ (yields e env part (record w { left = left }) (step_on p whole n depth number f there calls loops result lie scope opening settings head frame w left less st)) (λ x u l. (l, λ sc. tt))))
    where
      part : IsClear p whole n depth number f there calls loops result lie scope opening settings head frame v env
      part = record { lies = in_cast calls at t v env clear.lies; clean = clear.clean; describes = clear.describes }

  -- ## Operators

  pub unary_form : (at : At) (t : PlainType) (op : UnOp) (v : PlainValue) → IsWholeValue c v → UnaryAgrees op t (type_of v) → Yields v → Acts (value at t (unary op v))
  unary_form at t op v i g yields env clear w st = stays_step (Done t w) w _ (λ left less.
      stays_then (Given v env (record w { left = left })) (Done t w) (evaluate s frame.held v (record w { left = left })) _
      (after p whole n depth number f there calls loops result lie scope opening settings head frame v i yields env (record { lies = in_unary calls at t op v env clear.lies; clean = flaws.1; describes = clear.describes }) (record w { left = left }) (step_on p whole n depth number f there calls loops result lie scope opening settings head frame w left less st)) (λ x u a.
      let ok : HasResult (operated_unary op t x) = operated_unary_ok head p a.stand.soundly.kinds a.stand.soundly.kinds at.span op t v (abstract_value calls env v) g flaws.0 x a.typed a.found.held_by in
      stays_or (Done t w) (operated_unary op t x) ok.scalar at.span u _ ok.is (a.leaves, λ sc. tt)))
    where
      flaws : (unary_flaws at.span op (integer_of t) (abstract_value calls env v) ≡ []) × (flaws_in_value m settings v env ≡ [])
      flaws = clean_unary m settings at t op v env clear.clean

  pub binary_form : (at : At) (t : PlainType) (op : BinOp) (a b : PlainValue) → IsWholeValue c a → IsWholeValue c b → BinaryAgrees c op t (type_of a) (type_of b) → Yields a → Yields b → Acts (value at t (binary op a b))
  binary_form at t op a b i j g yields_a yields_b env clear w st = stays_step (Done t w) w _ (λ left less.
      stays_then (Given a env (record w { left = left })) (Done t w) (evaluate s frame.held a (record w { left = left })) _
      (after p whole n depth number f there calls loops result lie scope opening settings head frame a i yields_a env (record { lies = fails.0; clean = flaws.left; describes = clear.describes }) (record w { left = left }) (step_on p whole n depth number f there calls loops result lie scope opening settings head frame w left less st)) (λ x u h.
      stays_then (Given b env u) (Done t w) (evaluate s frame.held b u) _
      (after p whole n depth number f there calls loops result lie scope opening settings head frame b j yields_b env (record { lies = fails.1 h.found.has; clean = flaws.right h.found.has; describes = clear.describes }) u h.stand) (λ y v k.
      let ok : HasResult (operated op t v.objects x y) =
      operated_ok head p h.stand.soundly.kinds k.stand.soundly.kinds c m at.span op t a b env g flaws.own v.objects x y h.typed k.typed h.found.held_by k.found.held_by in
      stays_or (Done t w) (operated op t v.objects x y) ok.scalar at.span v _ ok.is (leaves_then p opening w.objects u v h.leaves k.leaves, λ sc. tt))))
    where
      flaws : InBinary m settings at t op a b env
      flaws = clean_binary m settings at t op a b env clear.clean

      fails : (failing_in calls a env ≡ []) × (has_value calls a env ≡ true → failing_in calls b env ≡ [])
      fails = in_binary calls at t op a b env clear.lies

  pub logic_form : (at : At) (t : PlainType) (op : LogicOp) (a b : PlainValue) → IsWholeValue c a → Yields a → Yields b → Acts (value at t (logic op a b))
  logic_form at t op a b i yields_a yields_b env clear w st = stays_step (Done t w) w _ (λ left less.
      stays_then (Given a env (record w { left = left })) (Done t w) (evaluate s frame.held a (record w { left = left })) _
      (after p whole n depth number f there calls loops result lie scope opening settings head frame a i yields_a env (record { lies = fails.0; clean = flaws.0; describes = clear.describes }) (record w { left = left }) (step_on p whole n depth number f there calls loops result lie scope opening settings head frame w left less st)) (λ x u h.
      stays_if (Done t w) (is_decided op (is_true x)) _ _ (λ e. (h.leaves, λ sc. tt)) (λ e.
      reached f.variables head frame.held _ (known_where (goes_on_where op) env (assess calls a env))
      (subst (λ b. MaybeDescribes f.variables (known_where b env (assess calls a env)) head frame.held) (undecided op (is_true x) e) h.found.known) (λ env2 r d.
      stays_then (Leaves u) (Done t w) (evaluate s frame.held b u) _ (yields_b env2 (record { lies = fails.1 env2 r; clean = flaws.1 env2 r; describes = d }) u h.stand)
      (λ y v l. (leaves_then p opening w.objects u v h.leaves l, λ sc. tt))))))
    where
      flaws : (flaws_in_value m settings a env ≡ []) × ((e : Environment) → known_where (goes_on_where op) env (assess calls a env) ≡ Some e → flaws_in_value m settings b e ≡ [])
      flaws = clean_logic m settings at t op a b env clear.clean

      fails : (failing_in calls a env ≡ []) × ((e : Environment) → known_where (goes_on_where op) env (assess calls a env) ≡ Some e → failing_in calls b e ≡ [])
      fails = in_logic calls at t op a b env clear.lies

  pub conditional_form : (at : At) (t : PlainType) (v a b : PlainValue) → IsWholeValue c v → Yields v → Yields a → Yields b → Acts (value at t (conditional v a b))
  conditional_form at t v a b i yields_v yields_a yields_b env clear w st = stays_step (Done t w) w _ (λ left less.
      stays_then (Given v env (record w { left = left })) (Done t w) (evaluate s frame.held v (record w { left = left })) _
      (after p whole n depth number f there calls loops result lie scope opening settings head frame v i yields_v env (record { lies = fails.condition; clean = flaws.condition; describes = clear.describes }) (record w { left = left }) (step_on p whole n depth number f there calls loops result lie scope opening settings head frame w left less st)) (λ x u h.
      stays_then (Leaves u) (Done t w) (if is_true x then evaluate s frame.held a u else evaluate s frame.held b u) give
      (stays_if (Leaves u) (is_true x) (evaluate s frame.held a u) (evaluate s frame.held b u)
      (λ e. reached f.variables head frame.held _ (known_where true env (assess calls v env)) (subst (λ b. MaybeDescribes f.variables (known_where b env (assess calls v env)) head frame.held) e h.found.known) (λ env2 r d.
      yields_a env2 (record { lies = fails.first env2 r; clean = flaws.first env2 r; describes = d }) u h.stand))
      (λ e. reached f.variables head frame.held _ (known_where false env (assess calls v env)) (subst (λ b. MaybeDescribes f.variables (known_where b env (assess calls v env)) head frame.held) e h.found.known) (λ env2 r d.
      yields_b env2 (record { lies = fails.second env2 r; clean = flaws.second env2 r; describes = d }) u h.stand)))
      (λ y z l. (leaves_then p opening w.objects u z h.leaves l, λ sc. tt))))
    where
      flaws : CleanConditional m settings v a b env
      flaws = clean_conditional m settings at t v a b env clear.clean

      fails : InConditional calls v a b env
      fails = in_conditional calls at t v a b env clear.lies

  -- ## Calls

  pub all_none : YieldAll no_values
  all_none env clear w st = leaves_same p opening w st.settled

  pub all_more : (v : PlainValue) (vs : PlainValues) → IsWholeValue c v → Yields v → YieldAll vs → YieldAll (more_values v vs)
  all_more v vs i yields yield_all env clear w st =
      stays_then (Given v env w) (Leaves w) (evaluate s frame.held v w) _ (after p whole n depth number f there calls loops result lie scope opening settings head frame v i yields env (record { lies = fails.0; clean = flaws.0; describes = clear.describes }) w st) (λ x u h.
      stays_then (Leaves u) (Leaves w) (evaluate_all s frame.held vs u) _ (yield_all env (record { lies = fails.1 h.found.has; clean = flaws.1 h.found.has; describes = clear.describes }) u h.stand)
      (λ xs z l. leaves_then p opening w.objects u z h.leaves l))
    where
      flaws : (flaws_in_value m settings v env ≡ []) × (has_value calls v env ≡ true → flaws_in_values m settings vs env ≡ [])
      flaws = clean_values m settings v vs env clear.clean

      fails : (failing_in calls v env ≡ []) × (has_value calls v env ≡ true → failing_among calls vs env ≡ [])
      fails = in_values calls v vs env clear.lies

  pub call_form : (at : At) (t : PlainType) (name : Span) (k : ℕ) (arguments : PlainValues) → AreWholeValues c arguments → Calls c t k arguments → YieldAll arguments → Acts (value at t (call name k arguments))
  call_form at t name k arguments i g yield_all env clear w st = stays_step (Done t w) w _ (λ left less.
      let kept : ValuesKeep s (IsCoveredCall p calls n) frame.held arguments (record w { left = left }) × OnGives (λ xs u. IsCoveredCall p calls n k xs u) (evaluate_all s frame.held arguments (record w { left = left })) =
      after_step left w.left w (λ w. ValuesKeep s (IsCoveredCall p calls n) frame.held arguments w × OnGives (λ xs u. IsCoveredCall p calls n k xs u) (evaluate_all s frame.held arguments w)) less keeps.after in
      stays_then (λ xs u. LeavesClean p opening w.objects u × IsCoveredCall p calls n k xs u) (Done t w) (evaluate_all s frame.held arguments (record w { left = left })) _
      (stays_with (Leaves w) (λ xs u. IsCoveredCall p calls n k xs u) (evaluate_all s frame.held arguments (record w { left = left }))
      (yield_all env (record { lies = (in_call calls at t name k arguments env clear.lies).parts; clean = clear.clean; describes = clear.describes }) (record w { left = left }) (step_on p whole n depth number f there calls loops result lie scope opening settings head frame w left less st)) kept.1.given) (λ xs u h.
      stays_weaker (λ x z. LeavesClean p opening u.objects z × (is_void h.1.callee.result ≡ false → HasValue x)) (Done t w) (call_at n p depth k xs u) (stay_clean.stay k xs u h.1 opening h.0.settled) (λ x z l.
      (leaves_then p opening w.objects u z h.0 l.0, λ sc. l.1 (not_void h.1.callee h.1.there h.1.other sc)))))
    where
      keeps : ValueKeeps s (IsCoveredCall p calls n) frame.held (value at t (call name k arguments)) w
      keeps = values_make_covered p whole calls n depth lie number f there scope (value at t (call name k arguments)) (i, g) env head frame.held st.soundly.kinds w
          (record { sound = st.soundly.sound; fits = st.soundly.fits; describes = clear.describes; few = st.soundly.left }) clear.lies

      not_void : (callee : PlainFunction) → slice_get p.functions k ≡ Some callee → nat_eq k p.main ≡ false → is_scalar t ≡ true → is_void callee.result ≡ false
      not_void callee e other sc =
          scalar_no_void callee.result (scalar_alike p t callee.result (g.result_is ∙ ap (λ (seen : SeenFunction). bare p.structures seen.result) (sym (callee_seen p k callee g.seen e other g.there))) sc)

  byte_clean : (t : PlainType) (input : List ℕ) (w : State) → Stand w → Stays (Done t w) (next_byte input w)
  byte_clean t [] w st = (leaves_same p opening w st.settled, λ sc. tt)
  byte_clean t (byte ∷ input) w st = (leaves_same p opening (record w { input = input }) st.settled, λ sc. tt)

  getchar_form : (at : At) (t : PlainType) (name : Span) → Acts (value at t (built_in name Getchar no_values))
  getchar_form at t name env clear w st = stays_step (Done t w) w _ (λ left less. byte_clean t w.input (record w { left = left }) (step_on p whole n depth number f there calls loops result lie scope opening settings head frame w left less st))

  -- a library function that only gives a value
  given_form : (at : At) (t : PlainType) (name : Span) (g : Library) (arguments : PlainValues) → YieldAll arguments → ((xs : List Scalar) (u w : State) → LeavesClean p opening w.objects u → Stays (Done t w) (library p g at.span t xs u)) → Acts (value at t (built_in name g arguments))
  given_form at t name g arguments yield_all gives_it env clear w st = stays_step (Done t w) w _ (λ left less.
      stays_then (Leaves (record w { left = left })) (Done t w) (evaluate_all s frame.held arguments (record w { left = left })) _
      (yield_all env (record { lies = in_built_in calls at t name g arguments env clear.lies; clean = (clean_built_in m settings at t name g arguments env clear.clean).1; describes = clear.describes }) (record w { left = left }) (step_on p whole n depth number f there calls loops result lie scope opening settings head frame w left less st))
      (λ xs u l. gives_it xs u w l))

  memory_form : (at : At) (t : PlainType) (name : Span) (g : Library) (arguments : PlainValues) → manages_memory g ≡ true → Acts (value at t (built_in name g arguments))
  memory_form at t name g arguments h env clear w st = let e : true ≡ false = sym h ∙ (clean_built_in m settings at t name g arguments env clear.clean).0 in absurd cc

  pub built_in_form : (at : At) (t : PlainType) (name : Span) (g : Library) (arguments : PlainValues) → CallsLibrary c t g arguments → YieldAll arguments → Acts (value at t (built_in name g arguments))
  built_in_form at t name Getchar no_values l all = getchar_form at t name
  built_in_form at t name Putchar (more_values v no_values) l all = given_form at t name Putchar (more_values v no_values) all (λ xs u w l. (record { settled = l.settled; survive = l.survive }, λ sc. tt))
  built_in_form at t name CAssert (more_values v no_values) l all = given_form at t name CAssert (more_values v no_values) all (λ xs u w l. (l, λ sc. tt))
  built_in_form at t name Malloc vs l all = memory_form at t name Malloc vs refl
  built_in_form at t name Calloc vs l all = memory_form at t name Calloc vs refl
  built_in_form at t name Free vs l all = memory_form at t name Free vs refl
  built_in_form at t name Assert vs l all = absurd (no_assert vs l)
    where
      no_assert : (vs : PlainValues) → CallsLibrary c t Assert vs → ⊥
      no_assert no_values l = l
      no_assert (more_values v vs) l = l
  built_in_form at t name Getchar (more_values v vs) l all = absurd l
  built_in_form at t name Putchar no_values l all = absurd l
  built_in_form at t name Putchar (more_values v (more_values u vs)) l all = absurd l
  built_in_form at t name CAssert no_values l all = absurd l
  built_in_form at t name CAssert (more_values v (more_values u vs)) l all = absurd l
