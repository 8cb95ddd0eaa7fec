-- An evaluation comes only to calls that claims cover, by induction on values and places.
use Rattle.std.proofs.Common.{◌≡◌, ℕ, ◌≤◌, true, false, List, [], sym, subst, Option, Some}
use Rattle.p10_base.specs.declared.at.At.{At}
use Rattle.p10_core.specs.Types.{PlainType}
use Rattle.p10_core.specs.Typed.{PlainValue, value, PlainForm, constant, read, sense, address, decay, convert, cast, unary, binary, logic, conditional, call, built_in, PlainPlace, place, PlainPlaceForm, variable, global, literal, index, member, dereference, PlainValues, no_values, more_values, PlainVariable, PlainProgram}
use Rattle.p10_core.specs.Whole.{SeenVariable, SeenFunction, Surroundings, ArgumentsFit, IsWholeValue, IsWholeForm, IsWholePlace, IsWholePlaceForm, AreWholeValues}
use Rattle.p10_core.specs.WholePrograms.{parameter_types, surroundings_of, IsWholeProgram}
use Rattle.p10_cert.specs.Claims.{Claims}
use Rattle.p10_meaning.specs.declared.pointers.Scalar.{Scalar}
use Rattle.p10_meaning.specs.States.{State}
use Rattle.p10_meaning.specs.Scalars.{is_true}
use Rattle.p10_meaning.specs.Values.{Calls, Setting, Held, is_decided, evaluate, evaluate_all}
use Rattle.p10_meaning.specs.Sound.{Kind, KeepSound, AreSeen}
use Rattle.p10_meaning.proofs.Geometry.{IsLaidOut}
use Rattle.p10_meaning.proofs.SoundValues.{IsCallee}
use Rattle.p10_sums.specs.Keeping.{OnGives, ValueKeeps, FormKeeps, PlaceKeeps, PlaceFormKeeps, ValuesKeep}
use Rattle.p10_absx.specs.Environments.{Environment}
use Rattle.p10_absx.specs.Assessing.{known_where, assess}
use Rattle.p10_absx.specs.Describing.{Describes}
use Rattle.p10_pass.specs.Arguments.{has_value, goes_on_where, failing_in, failing_at}
use Rattle.p10_evaluation.specs.Claimed.{IsCoveredCall, ResultsLie}
use Rattle.p10_evaluation.specs.Laws.{IsDescribed}
use Rattle.p10_evaluation.proofs.Rules.{holds_map, after_step}
use Rattle.p10_evaluation.proofs.Failing.{failing_among, in_read, in_address, in_decay, in_convert, in_cast, in_unary, in_binary, in_logic, InConditional, in_conditional, InCall, in_call, in_built_in, in_values, in_index, in_member, in_dereference}
use Rattle.p10_evaluation.proofs.Arguments.{callee_of, is_other, value_there}
use Rattle.p10_evaluation.proofs.Choosing.{IsThere, known_there, goes_on}
use Rattle.p10_evaluation.proofs.Evaluating.{Falls, IsGiven, stepped, later, given_all, ArgumentsGiven, covered_call, finds, all_give}

module _ (p : PlainProgram) (out : IsLaidOut p) (whole : IsWholeProgram p) (calls : Calls) (meaning : KeepSound p calls) (n : ℕ) (variables : List PlainVariable) (seen_at : ℕ → Option SeenVariable) (seen : AreSeen variables seen_at) (held head : List Held) (c : Option Claims) (results : ResultsLie p c n calls)
    (falls : Falls p out whole calls meaning n variables seen_at seen held head c results) (K : ℕ → List Scalar → State → Type 0) (keeps : (g : ℕ) (xs : List Scalar) (w : State) → IsCoveredCall p c n g xs w → K g xs w) where
  abbrev s : Setting
  s = record { program = p; variables = variables; call = calls; turns = n }

  abbrev around_it : Surroundings
  around_it = record (surroundings_of p) { variable_at = seen_at }

  abbrev Stands : Environment → List Kind → State → Type 0
  Stands env ks w = IsDescribed p n variables env head held ks w

  abbrev Gives : List Kind → PlainValue → Environment → Scalar → State → Type 0
  Gives ks v env = IsGiven p out whole calls meaning n variables seen_at seen held head c results ks v env

  step_on : (env : Environment) (ks : List Kind) (w : State) (l : ℕ) → Stands env ks w → l ≤ n → Stands env ks (record w { left = l })
  step_on env ks w l d b = stepped p out whole calls meaning n variables seen_at seen held head c results env ks w l d b

  -- what holds after a value was evaluated
  after_value : (v : PlainValue) → IsWholeValue around_it v → (env : Environment) (ks : List Kind) (w : State) → Stands env ks w → failing_in c v env ≡ [] → (P : Scalar → State → Type 0) →
      ((x : Scalar) (u : State) → Gives ks v env x u → P x u) → OnGives P (evaluate s held v w)
  after_value v i env ks w d e P h = record {
    given = holds_map (Gives ks v env) P (evaluate s held v w) h (given_all p out whole calls meaning n variables seen_at seen held head c results falls v i
        (finds p out whole calls meaning n variables seen_at seen held head c results falls v i) env ks w d e);
  }

  -- the state after a value
  next : (v : PlainValue) (env e : Environment) (ks : List Kind) (w : State) (x : Scalar) (u : State) → Stands env ks w → (g : Gives ks v env x u) → Describes variables e head held → Stands e g.kinds u
  next v env e ks w x u d g k = later p out whole calls meaning n variables seen_at seen held head c results env e ks g.kinds w u d g.grows g.sound g.few k

  -- each call to which a value comes keeps K
  abbrev Keeping : PlainValue → Type 0
  Keeping v = (env : Environment) (ks : List Kind) (w : State) → Stands env ks w → failing_in c v env ≡ [] → ValueKeeps s K held v w

  -- two values, one after the other
  two_keep : (a b : PlainValue) → IsWholeValue around_it a → Keeping a → Keeping b → (env : Environment) (ks : List Kind) (w : State) → Stands env ks w → (failing_in c a env ≡ []) × (has_value c a env ≡ true → failing_in c b env ≡ []) →
      ValueKeeps s K held a w × OnGives (λ x w. ValueKeeps s K held b w) (evaluate s held a w)
  two_keep a b i first second env ks w d parts = (
    first env ks w d parts.0,
    after_value a i env ks w d parts.0 (λ x w. ValueKeeps s K held b w) (λ x u g.
        second env g.kinds u (next a env env ks w x u d g d.describes) (parts.1 (value_there variables head held c env a x g.holds))),
  )

  mutual
    pub value_keeps : (v : PlainValue) → IsWholeValue around_it v → Keeping v
    value_keeps (value at t form) i env ks w d e = form_keeps at t form i env ks w d e

    form_keeps : (at : At) (t : PlainType) (form : PlainForm) → IsWholeForm around_it t form → (env : Environment) (ks : List Kind) (w : State) → Stands env ks w → failing_in c (value at t form) env ≡ [] → FormKeeps s K held form w
    form_keeps at t (constant z) i env ks w d e = tt
    form_keeps at t (read q) i env ks w d e = after_step n w (λ w. PlaceKeeps s K held q w) d.few (λ l b. place_keeps q i.0 env ks (record w { left = l }) (step_on env ks w l d b) (in_read c at t q env e))
    form_keeps at t (sense k) i env ks w d e = tt
    form_keeps at t (address q) i env ks w d e = after_step n w (λ w. PlaceKeeps s K held q w) d.few (λ l b. place_keeps q i.0 env ks (record w { left = l }) (step_on env ks w l d b) (in_address c at t q env e))
    form_keeps at t (decay q) i env ks w d e = after_step n w (λ w. PlaceKeeps s K held q w) d.few (λ l b. place_keeps q i.0 env ks (record w { left = l }) (step_on env ks w l d b) (in_decay c at t q env e))
    form_keeps at t (convert v) i env ks w d e = value_keeps v i.0 env ks w d (in_convert c at t v env e)
    form_keeps at t (cast v) i env ks w d e = after_step n w (λ w. ValueKeeps s K held v w) d.few (λ l b. value_keeps v i.0 env ks (record w { left = l }) (step_on env ks w l d b) (in_cast c at t v env e))
    form_keeps at t (unary op v) i env ks w d e = after_step n w (λ w. ValueKeeps s K held v w) d.few (λ l b. value_keeps v i.0 env ks (record w { left = l }) (step_on env ks w l d b) (in_unary c at t op v env e))
    form_keeps at t (binary op a b) i env ks w d e = after_step n w (λ w. ValueKeeps s K held a w × OnGives (λ x w. ValueKeeps s K held b w) (evaluate s held a w)) d.few (λ l less.
        two_keep a b i.0 (value_keeps a i.0) (value_keeps b i.1) env ks (record w { left = l }) (step_on env ks w l d less) (in_binary c at t op a b env e))
    form_keeps at t (logic op a b) i env ks w d e =
        after_step n w (λ w. ValueKeeps s K held a w × OnGives (λ x w. is_decided op (is_true x) ≡ false → ValueKeeps s K held b w) (evaluate s held a w)) d.few (λ l less.
        let now : Stands env ks (record w { left = l }) = step_on env ks w l d less in
        let parts : (failing_in c a env ≡ []) × ((e : Environment) → known_where (goes_on_where op) env (assess c a env) ≡ Some e → failing_in c b e ≡ []) = in_logic c at t op a b env e in (
          value_keeps a i.0 env ks (record w { left = l }) now parts.0,
          after_value a i.0 env ks (record w { left = l }) now parts.0 (λ x w. is_decided op (is_true x) ≡ false → ValueKeeps s K held b w) (λ x u g f.
              let left : IsThere variables head held (known_where (goes_on_where op) env (assess c a env)) =
              known_there variables head held (assess c a env) x env (goes_on_where op) (goes_on variables head held op (is_true x) f) g.holds d.describes in
              value_keeps b i.1 left.env g.kinds u (next a env left.env ks (record w { left = l }) x u now g left.describes) (parts.1 left.env left.is)),
        ))
    form_keeps at t (conditional v a b) i env ks w d e =
        after_step n w (λ w. ValueKeeps s K held v w × OnGives (λ x w. (is_true x ≡ true → ValueKeeps s K held a w) × (is_true x ≡ false → ValueKeeps s K held b w)) (evaluate s held v w)) d.few (λ l less.
        let now : Stands env ks (record w { left = l }) = step_on env ks w l d less in
        let parts : InConditional c v a b env = in_conditional c at t v a b env e in (
          value_keeps v i.0 env ks (record w { left = l }) now parts.condition,
          after_value v i.0 env ks (record w { left = l }) now parts.condition (λ x w. (is_true x ≡ true → ValueKeeps s K held a w) × (is_true x ≡ false → ValueKeeps s K held b w)) (λ x u g. (
            λ f.
                let left : IsThere variables head held (known_where true env (assess c v env)) = known_there variables head held (assess c v env) x env true f g.holds d.describes in
                value_keeps a i.1 left.env g.kinds u (next v env left.env ks (record w { left = l }) x u now g left.describes) (parts.first left.env left.is),
            λ f.
                let left : IsThere variables head held (known_where false env (assess c v env)) = known_there variables head held (assess c v env) x env false f g.holds d.describes in
                value_keeps b i.2 left.env g.kinds u (next v env left.env ks (record w { left = l }) x u now g left.describes) (parts.second left.env left.is),
          )),
        ))
    form_keeps at t (call name k arguments) i env ks w d e =
        after_step n w (λ w. ValuesKeep s K held arguments w × OnGives (λ xs w. K k xs w) (evaluate_all s held arguments w)) d.few (λ l less.
        let now : Stands env ks (record w { left = l }) = step_on env ks w l d less in
        let parts : InCall c k arguments env = in_call c at t name k arguments env e in
        let callee : IsCallee p k i.1.seen = callee_of p k i.1.seen i.1.there in
        let fit : ArgumentsFit around_it (parameter_types callee.callee) arguments = subst (λ (g : SeenFunction). ArgumentsFit around_it g.parameters arguments) (sym callee.is) i.1.fit in (
          values_keep arguments i.0 env ks (record w { left = l }) now parts.parts,
          record {
            given = holds_map (ArgumentsGiven p out whole calls meaning n variables seen_at seen held head c results falls ks arguments env) (λ xs w. K k xs w) (evaluate_all s held arguments (record w { left = l }))
                (λ xs u g. keeps k xs u (covered_call p out whole calls meaning n variables seen_at seen held head c results falls k arguments callee.callee callee.there (is_other p k i.1.seen i.1.there) fit env parts ks xs u g))
                (all_give p out whole calls meaning n variables seen_at seen held head c results falls arguments i.0 env ks (record w { left = l }) now parts.parts);
          },
        ))
    form_keeps at t (built_in name f arguments) i env ks w d e = after_step n w (λ w. ValuesKeep s K held arguments w) d.few (λ l b.
        values_keep arguments i.0 env ks (record w { left = l }) (step_on env ks w l d b) (in_built_in c at t name f arguments env e))

    values_keep : (vs : PlainValues) → AreWholeValues around_it vs → (env : Environment) (ks : List Kind) (w : State) → Stands env ks w → failing_among c vs env ≡ [] → ValuesKeep s K held vs w
    values_keep no_values i env ks w d e = tt
    values_keep (more_values v vs) i env ks w d e =
        let parts : (failing_in c v env ≡ []) × (has_value c v env ≡ true → failing_among c vs env ≡ []) = in_values c v vs env e in (
          value_keeps v i.0 env ks w d parts.0,
          after_value v i.0 env ks w d parts.0 (λ x w. ValuesKeep s K held vs w) (λ x u g.
              values_keep vs i.1 env g.kinds u (next v env env ks w x u d g d.describes) (parts.1 (value_there variables head held c env v x g.holds))),
        )

    pub place_keeps : (q : PlainPlace) → IsWholePlace around_it q → (env : Environment) (ks : List Kind) (w : State) → Stands env ks w → failing_at c q env ≡ [] → PlaceKeeps s K held q w
    place_keeps (place at t form) i env ks w d e = place_form_keeps at t form i env ks w d e

    place_form_keeps : (at : At) (t : PlainType) (form : PlainPlaceForm) → IsWholePlaceForm around_it t form → (env : Environment) (ks : List Kind) (w : State) → Stands env ks w → failing_at c (place at t form) env ≡ [] → PlaceFormKeeps s K held form w
    place_form_keeps at t (variable k) i env ks w d e = tt
    place_form_keeps at t (global k) i env ks w d e = tt
    place_form_keeps at t (literal k bytes) i env ks w d e = tt
    place_form_keeps at t (index a b) i env ks w d e = after_step n w (λ w. ValueKeeps s K held a w × OnGives (λ x w. ValueKeeps s K held b w) (evaluate s held a w)) d.few (λ l less.
        two_keep a b i.0 (value_keeps a i.0) (value_keeps b i.1) env ks (record w { left = l }) (step_on env ks w l d less) (in_index c at t a b env e))
    place_form_keeps at t (member q m) i env ks w d e = after_step n w (λ w. PlaceKeeps s K held q w) d.few (λ l b. place_keeps q i.0 env ks (record w { left = l }) (step_on env ks w l d b) (in_member c at t q m env e))
    place_form_keeps at t (dereference v) i env ks w d e = after_step n w (λ w. ValueKeeps s K held v w) d.few (λ l b. value_keeps v i.0 env ks (record w { left = l }) (step_on env ks w l d b) (in_dereference c at t v env e))
