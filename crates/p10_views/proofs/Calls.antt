-- The calls in values that fail are the same in erased ones.
use Rattle.std.proofs.Common.{◌≡◌, ◌∙◌, ℕ, ◌&&◌, not, Bool, true, false, List, [], ◌∷◌, ◌++◌, Option, Some, None, refl, sym}
use Rattle.std.specs.Prelude.{slice_get, if◌then◌else◌}
use Rattle.p10_base.specs.declared.span.Span.{Span}
use Rattle.p10_core.specs.Typed.{PlainValue, value, PlainForm, constant, read, sense, address, decay, convert, cast, unary, binary, logic, conditional, call, built_in, PlainPlace, place, PlainPlaceForm, variable, global, literal, index, member, dereference, PlainValues, no_values, more_values, PlainProgram}
use Rattle.p10_cert.specs.Claims.{Claims}
use Rattle.p10_absx.specs.Environments.{Environment}
use Rattle.p10_absx.specs.Assessing.{assess, known_where}
use Rattle.p10_absx.specs.Entering.{claims_on}
use Rattle.p10_pass.specs.Arguments.{has_value, all_have_values, arguments_lie, where_reached, goes_on_where, failing_calls, failing_in_form, failing_in_values, failing_in_place, failing_in_place_form, failing_in, failing_at}
use Rattle.p10_views.specs.Erased.{no_span, erased_value, erased_form, erased_place, erased_place_form, erased_values}
use Rattle.p10_views.proofs.Called.{ValueCalls, FormCalls, PlaceCalls, PlaceFormCalls, ValuesCall}
use Rattle.p10_views.proofs.Agreeing.{Stand, Agree}
use Rattle.p10_views.proofs.Spans.{erased_spans, joined, only_if, when_reached}
use Rattle.p10_views.proofs.Values.{value_erased, presence_erased, presences_erased, lying_erased}

-- one name, where something holds
name_if : (b : Bool) (name : Span) → (if b then no_span ∷ [] else []) ≡ erased_spans (if b then name ∷ [] else [])
name_if b name = only_if b (name ∷ []) (no_span ∷ []) refl

-- a part that is reached where another one has a value
after_value : (p : PlainProgram) (c d : Claims) (v : PlainValue) → ValueCalls (Agree (Some c) (Some d)) v → (env : Environment) (xs us : List Span) → us ≡ erased_spans xs
    → (if has_value (Some d) (erased_value p v) env then us else []) ≡ erased_spans (if has_value (Some c) v env then xs else [])
after_value p c d v h env xs us same = (λ i. if presence_erased p (Some c) (Some d) v h env i then us else []) ∙ only_if (has_value (Some c) v env) xs us same

-- a part that is reached where another one is true or false
after_truth : (p : PlainProgram) (c d : Claims) (truth : Bool) (v : PlainValue) → ValueCalls (Agree (Some c) (Some d)) v → (env : Environment) (go went : Environment → List Span) → ((e : Environment) → went e ≡ erased_spans (go e))
    → where_reached (known_where truth env (assess (Some d) (erased_value p v) env)) went ≡ erased_spans (where_reached (known_where truth env (assess (Some c) v env)) go)
after_truth p c d truth v h env go went each =
    (λ i. where_reached (known_where truth env (value_erased p (Some c) (Some d) v h env i)) went) ∙ when_reached (known_where truth env (assess (Some c) v env)) go went each

own_call : (p : PlainProgram) (c d : Claims) (name : Span) (n : ℕ) (vs : PlainValues) → Agree (Some c) (Some d) n → ValuesCall (Agree (Some c) (Some d)) vs → (env : Environment)
    → (if all_have_values (Some d) (erased_values p vs) env && not (arguments_lie (Some d) (claims_on (slice_get d.funcs n)) (erased_values p vs) env) then no_span ∷ [] else [])
    ≡ erased_spans (if all_have_values (Some c) vs env && not (arguments_lie (Some c) (claims_on (slice_get c.funcs n)) vs env) then name ∷ [] else [])
own_call p c d name n vs same h env =
    (λ i. if presences_erased p (Some c) (Some d) vs h env i && not (lying_erased p (Some c) (Some d) (claims_on (slice_get d.funcs n)) vs h env i) then no_span ∷ [] else [])
    ∙ (λ i. if all_have_values (Some c) vs env && not (arguments_lie (Some c) (claims_on (sym same i)) vs env) then no_span ∷ [] else [])
    ∙ name_if (all_have_values (Some c) vs env && not (arguments_lie (Some c) (claims_on (slice_get c.funcs n)) vs env)) name

mutual
  pub failing_erased : (p : PlainProgram) (c d : Claims) (v : PlainValue) → ValueCalls (Agree (Some c) (Some d)) v → (env : Environment) → failing_calls d (erased_value p v) env ≡ erased_spans (failing_calls c v env)
  failing_erased p c d (value at t form) h env = in_form_erased p c d form h env

  in_form_erased : (p : PlainProgram) (c d : Claims) (form : PlainForm) → FormCalls (Agree (Some c) (Some d)) form → (env : Environment) → failing_in_form d (erased_form p form) env ≡ erased_spans (failing_in_form c form env)
  in_form_erased p c d (constant z) h env = refl
  in_form_erased p c d (read q) h env = in_place_erased p c d q h env
  in_form_erased p c d (sense n) h env = refl
  in_form_erased p c d (address q) h env = in_place_erased p c d q h env
  in_form_erased p c d (decay q) h env = in_place_erased p c d q h env
  in_form_erased p c d (convert v) h env = failing_erased p c d v h env
  in_form_erased p c d (cast v) h env = failing_erased p c d v h env
  in_form_erased p c d (unary op v) h env = failing_erased p c d v h env
  in_form_erased p c d (binary op a b) h env =
      joined (failing_calls c a env) (if has_value (Some c) a env then failing_calls c b env else []) (failing_calls d (erased_value p a) env) (if has_value (Some d) (erased_value p a) env then failing_calls d (erased_value p b) env else [])
      (failing_erased p c d a h.0 env) (after_value p c d a h.0 env (failing_calls c b env) (failing_calls d (erased_value p b) env) (failing_erased p c d b h.1 env))
  in_form_erased p c d (logic op a b) h env =
      joined (failing_calls c a env) (where_reached (known_where (goes_on_where op) env (assess (Some c) a env)) (λ e. failing_calls c b e))
      (failing_calls d (erased_value p a) env) (where_reached (known_where (goes_on_where op) env (assess (Some d) (erased_value p a) env)) (λ e. failing_calls d (erased_value p b) e))
      (failing_erased p c d a h.0 env) (after_truth p c d (goes_on_where op) a h.0 env (λ e. failing_calls c b e) (λ e. failing_calls d (erased_value p b) e) (λ e. failing_erased p c d b h.1 e))
  in_form_erased p c d (conditional v a b) h env =
      joined (failing_calls c v env) (where_reached (known_where true env (assess (Some c) v env)) (λ e. failing_calls c a e) ++ where_reached (known_where false env (assess (Some c) v env)) (λ e. failing_calls c b e))
      (failing_calls d (erased_value p v) env)
      (where_reached (known_where true env (assess (Some d) (erased_value p v) env)) (λ e. failing_calls d (erased_value p a) e) ++ where_reached (known_where false env (assess (Some d) (erased_value p v) env)) (λ e. failing_calls d (erased_value p b) e))
      (failing_erased p c d v h.0 env)
      (joined (where_reached (known_where true env (assess (Some c) v env)) (λ e. failing_calls c a e)) (where_reached (known_where false env (assess (Some c) v env)) (λ e. failing_calls c b e))
      (where_reached (known_where true env (assess (Some d) (erased_value p v) env)) (λ e. failing_calls d (erased_value p a) e)) (where_reached (known_where false env (assess (Some d) (erased_value p v) env)) (λ e. failing_calls d (erased_value p b) e))
      (after_truth p c d true v h.0 env (λ e. failing_calls c a e) (λ e. failing_calls d (erased_value p a) e) (λ e. failing_erased p c d a h.1 e))
      (after_truth p c d false v h.0 env (λ e. failing_calls c b e) (λ e. failing_calls d (erased_value p b) e) (λ e. failing_erased p c d b h.2 e)))
  in_form_erased p c d (call name n arguments) h env =
      joined (if all_have_values (Some c) arguments env && not (arguments_lie (Some c) (claims_on (slice_get c.funcs n)) arguments env) then name ∷ [] else []) (failing_in_values c arguments env)
      (if all_have_values (Some d) (erased_values p arguments) env && not (arguments_lie (Some d) (claims_on (slice_get d.funcs n)) (erased_values p arguments) env) then no_span ∷ [] else []) (failing_in_values d (erased_values p arguments) env)
      (own_call p c d name n arguments h.0 h.1 env) (in_values_erased p c d arguments h.1 env)
  in_form_erased p c d (built_in name f arguments) h env = in_values_erased p c d arguments h env

  in_values_erased : (p : PlainProgram) (c d : Claims) (vs : PlainValues) → ValuesCall (Agree (Some c) (Some d)) vs → (env : Environment) → failing_in_values d (erased_values p vs) env ≡ erased_spans (failing_in_values c vs env)
  in_values_erased p c d no_values h env = refl
  in_values_erased p c d (more_values v vs) h env =
      joined (failing_calls c v env) (if has_value (Some c) v env then failing_in_values c vs env else []) (failing_calls d (erased_value p v) env) (if has_value (Some d) (erased_value p v) env then failing_in_values d (erased_values p vs) env else [])
      (failing_erased p c d v h.0 env) (after_value p c d v h.0 env (failing_in_values c vs env) (failing_in_values d (erased_values p vs) env) (in_values_erased p c d vs h.1 env))

  pub in_place_erased : (p : PlainProgram) (c d : Claims) (q : PlainPlace) → PlaceCalls (Agree (Some c) (Some d)) q → (env : Environment) → failing_in_place d (erased_place p q) env ≡ erased_spans (failing_in_place c q env)
  in_place_erased p c d (place at t form) h env = in_place_form_erased p c d form h env

  in_place_form_erased : (p : PlainProgram) (c d : Claims) (form : PlainPlaceForm) → PlaceFormCalls (Agree (Some c) (Some d)) form → (env : Environment)
      → failing_in_place_form d (erased_place_form p form) env ≡ erased_spans (failing_in_place_form c form env)
  in_place_form_erased p c d (variable n) h env = refl
  in_place_form_erased p c d (global n) h env = refl
  in_place_form_erased p c d (literal n bytes) h env = refl
  in_place_form_erased p c d (index a k) h env =
      joined (failing_calls c a env) (if has_value (Some c) a env then failing_calls c k env else []) (failing_calls d (erased_value p a) env) (if has_value (Some d) (erased_value p a) env then failing_calls d (erased_value p k) env else [])
      (failing_erased p c d a h.0 env) (after_value p c d a h.0 env (failing_calls c k env) (failing_calls d (erased_value p k) env) (failing_erased p c d k h.1 env))
  in_place_form_erased p c d (member q m) h env = in_place_erased p c d q h env
  in_place_form_erased p c d (dereference v) h env = failing_erased p c d v h env

-- ---- where claims may not stand

pub fails_erased : (p : PlainProgram) (c d : Option Claims) (v : PlainValue) → ValueCalls (Agree c d) v → (env : Environment) → Stand c d → failing_in d (erased_value p v) env ≡ erased_spans (failing_in c v env)
fails_erased p None None v h env stand = refl
fails_erased p (Some c) (Some d) v h env stand = failing_erased p c d v h env
fails_erased p None (Some d) v h env stand = absurd stand
fails_erased p (Some c) None v h env stand = absurd stand

pub fails_at_erased : (p : PlainProgram) (c d : Option Claims) (q : PlainPlace) → PlaceCalls (Agree c d) q → (env : Environment) → Stand c d → failing_at d (erased_place p q) env ≡ erased_spans (failing_at c q env)
fails_at_erased p None None q h env stand = refl
fails_at_erased p (Some c) (Some d) q h env stand = in_place_erased p c d q h env
fails_at_erased p None (Some d) q h env stand = absurd stand
fails_at_erased p (Some c) None q h env stand = absurd stand
