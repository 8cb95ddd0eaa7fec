-- Where nothing is called no call fails.
use Rattle.std.proofs.Common.{◌≡◌, ◌∙◌, ◌||◌, Bool, true, false, List, [], ◌++◌, Option, Some, None, refl, sym, ap, append-nil}
use Rattle.std.specs.Prelude.{if◌then◌else◌}
use Rattle.p10_base.specs.declared.span.Span.{Span}
use Rattle.p10_core.specs.Typed.{PlainValue, value, PlainForm, constant, read, sense, address, decay, convert, cast, unary, binary, logic, conditional, call, built_in, PlainPlace, place, PlainPlaceForm, variable, global, literal, index, member, dereference, PlainValues, no_values, more_values}
use Rattle.p10_cert.specs.Claims.{Claims}
use Rattle.p10_absx.specs.Environments.{Environment}
use Rattle.p10_absx.specs.Assessing.{assess, known_where}
use Rattle.p10_pass.specs.Arguments.{has_value, where_reached, goes_on_where, failing_calls, failing_in_form, failing_in_values, failing_in_place, failing_in_place_form}
use Rattle.p10_pass.specs.private.Calling.{has_call, has_call_in, has_call_among, has_call_at, has_call_at_form}

-- neither of two
left : (a b : Bool) → a || b ≡ false → a ≡ false
left true b none = none
left false b none = refl

right : (a b : Bool) → a || b ≡ false → b ≡ false
right true b none = cc
right false b none = none

-- what may follow is nothing
gated : (b : Bool) (xs : List Span) → xs ≡ [] → (if b then xs else []) ≡ []
gated true xs none = none
gated false xs none = refl

pub none_reached : (o : Option Environment) (go : Environment → List Span) → ((e : Environment) → go e ≡ []) → where_reached o go ≡ []
none_reached None go none = refl
none_reached (Some e) go none = none e

-- two lists of nothing
both_none : (xs ys : List Span) → xs ≡ [] → ys ≡ [] → xs ++ ys ≡ []
both_none xs ys p q = λ i. p i ++ q i

mutual
  pub none_fails : (c : Claims) (v : PlainValue) (env : Environment) → has_call v ≡ false → failing_calls c v env ≡ []
  none_fails c (value at t form) env none = none_fails_in c form env none

  none_fails_in : (c : Claims) (form : PlainForm) (env : Environment) → has_call_in form ≡ false → failing_in_form c form env ≡ []
  none_fails_in c (constant z) env none = refl
  none_fails_in c (read p) env none = none_fails_at c p env none
  none_fails_in c (sense n) env none = refl
  none_fails_in c (address p) env none = none_fails_at c p env none
  none_fails_in c (decay p) env none = none_fails_at c p env none
  none_fails_in c (convert v) env none = none_fails c v env none
  none_fails_in c (cast v) env none = none_fails c v env none
  none_fails_in c (unary op v) env none = none_fails c v env none
  none_fails_in c (binary op a b) env none =
      both_none (failing_calls c a env) (if has_value (Some c) a env then failing_calls c b env else []) (none_fails c a env (left (has_call a) (has_call b) none))
      (gated (has_value (Some c) a env) (failing_calls c b env) (none_fails c b env (right (has_call a) (has_call b) none)))
  none_fails_in c (logic op a b) env none =
      both_none (failing_calls c a env) (where_reached (known_where (goes_on_where op) env (assess (Some c) a env)) (λ e. failing_calls c b e)) (none_fails c a env (left (has_call a) (has_call b) none))
      (none_reached (known_where (goes_on_where op) env (assess (Some c) a env)) (λ e. failing_calls c b e) (λ e. none_fails c b e (right (has_call a) (has_call b) none)))
  none_fails_in c (conditional v a b) env none =
      let later : has_call a || has_call b ≡ false = right (has_call v) (has_call a || has_call b) none in
      both_none (failing_calls c v env)
      (where_reached (known_where true env (assess (Some c) v env)) (λ e. failing_calls c a e) ++ where_reached (known_where false env (assess (Some c) v env)) (λ e. failing_calls c b e))
      (none_fails c v env (left (has_call v) (has_call a || has_call b) none))
      (both_none (where_reached (known_where true env (assess (Some c) v env)) (λ e. failing_calls c a e)) (where_reached (known_where false env (assess (Some c) v env)) (λ e. failing_calls c b e))
      (none_reached (known_where true env (assess (Some c) v env)) (λ e. failing_calls c a e) (λ e. none_fails c a e (left (has_call a) (has_call b) later)))
      (none_reached (known_where false env (assess (Some c) v env)) (λ e. failing_calls c b e) (λ e. none_fails c b e (right (has_call a) (has_call b) later))))
  none_fails_in c (call name n arguments) env none = cc
  none_fails_in c (built_in name f arguments) env none = none_fails_among c arguments env none

  none_fails_among : (c : Claims) (vs : PlainValues) (env : Environment) → has_call_among vs ≡ false → failing_in_values c vs env ≡ []
  none_fails_among c no_values env none = refl
  none_fails_among c (more_values v vs) env none =
      both_none (failing_calls c v env) (if has_value (Some c) v env then failing_in_values c vs env else []) (none_fails c v env (left (has_call v) (has_call_among vs) none))
      (gated (has_value (Some c) v env) (failing_in_values c vs env) (none_fails_among c vs env (right (has_call v) (has_call_among vs) none)))

  none_fails_at : (c : Claims) (p : PlainPlace) (env : Environment) → has_call_at p ≡ false → failing_in_place c p env ≡ []
  none_fails_at c (place at t form) env none = none_fails_at_form c form env none

  none_fails_at_form : (c : Claims) (form : PlainPlaceForm) (env : Environment) → has_call_at_form form ≡ false → failing_in_place_form c form env ≡ []
  none_fails_at_form c (variable n) env none = refl
  none_fails_at_form c (global n) env none = refl
  none_fails_at_form c (literal n bytes) env none = refl
  none_fails_at_form c (index a i) env none =
      both_none (failing_calls c a env) (if has_value (Some c) a env then failing_calls c i env else []) (none_fails c a env (left (has_call a) (has_call i) none))
      (gated (has_value (Some c) a env) (failing_calls c i env) (none_fails c i env (right (has_call a) (has_call i) none)))
  none_fails_at_form c (member p m) env none = none_fails_at c p env none
  none_fails_at_form c (dereference v) env none = none_fails c v env none

-- names that stand where a test is true or false: none where nothing is called
pub no_more : (c : Claims) (truth : Bool) (v test : PlainValue) (env : Environment) (names : List Span) → has_call v ≡ false
    → names ≡ names ++ where_reached (known_where truth env (assess (Some c) test env)) (λ e. failing_calls c v e)
no_more c truth v test env names none =
    sym (append-nil names) ∙ ap (λ (xs : List Span). names ++ xs) (sym (none_reached (known_where truth env (assess (Some c) test env)) (λ e. failing_calls c v e) (λ e. none_fails c v e none)))

-- the same after a value
pub no_more_after : (c : Claims) (v first : PlainValue) (env : Environment) (names : List Span) → has_call v ≡ false → names ≡ names ++ (if has_value (Some c) first env then failing_calls c v env else [])
no_more_after c v first env names none =
    sym (append-nil names) ∙ ap (λ (xs : List Span). names ++ xs) (sym (gated (has_value (Some c) first env) (failing_calls c v env) (none_fails c v env none)))
