-- A constant expression is evaluated alike wherever it stands, and changes nothing but the steps that are left.
use Rattle.std.proofs.Common.{◌≡◌, ℕ, zero, suc, ◌+◌, arith, cond, Bool, true, false, List, [], ◌∷◌, refl, sym, ◌∙◌, ap, subst, Result, Ok, Err, ℤ}
use Rattle.std.specs.Prelude.{if◌then◌else◌}
use Rattle.std.specs.List.{All}
use Rattle.std.proofs.lemmas.List.Elements.{All-head, All-tail}
use Rattle.p10_base.specs.declared.span.Span.{Span}
use Rattle.p10_base.specs.declared.at.At.{At}
use Rattle.p10_int.specs.declared.operators.Stop.{Stop}
use Rattle.p10_core.specs.Types.{PlainType}
use Rattle.p10_core.specs.Typed.{PlainValue, value, PlainForm, constant, read, sense, address, decay, convert, cast, unary, binary, logic, conditional, call, built_in, PlainPlace, place, PlainPlaceForm, variable, global, literal, index, member, dereference, PlainVariable, PlainProgram}
use Rattle.p10_meaning.specs.States.{State, AssertionFailed, Undefined, StepsSpent, Progress, gives, ends, step_at, step, and_then, or_undefined}
use Rattle.p10_meaning.specs.Scalars.{is_true}
use Rattle.p10_meaning.specs.Values.{Calls, Setting, Held, Target, Variable, Sensor, Element, sensed_from, sensed, read_target, give, is_void, is_structure, is_decided, evaluate, discard, perform, locate, find_place}
use Rattle.p10_core.specs.Typed.{PlainWritten, one_scalar, scalars_of_text, PlainItem}
use Rattle.p10_core.specs.WholePrograms.{IsStaticWritten}
use Rattle.p10_core.specs.Addresses.{is_static_value}
use Rattle.p10_meaning.specs.Statements.{written_scalars, listed_scalars}
use Rattle.p10_meaning.specs.Opening.{constant_setting}
use Rattle.p10_meaning.specs.Laws.{with_more}
use Rattle.p10_meaning.proofs.Agreeing.{IsSame, CallsAgree, agrees_spent}
use Rattle.p10_meaning.proofs.AgreeingValues.{evaluate_agrees as evaluate_more}
use Rattle.p10_meaning.proofs.AgreeingStatements.{listed_agree}
use Rattle.p10_meaning.proofs.Quiet.{IsQuiet, IsQuietForm, IsQuietPlace, IsQuietPlaceForm, static_quiet}

-- ## Pieces that agree

-- a state that differs in the steps that are left alone
abbrev pub OnlySteps : State → State → Type 0
OnlySteps w u = u ≡ record w { left = u.left }

abbrev pub OnlyBy : {A : Type 0} → State → Progress A → Type 0
OnlyBy w (gives a u) = OnlySteps w u
OnlyBy w (ends end u) = OnlySteps w u

-- two pieces are the same, and change the steps that are left alone
pub record Agrees {A : Type 0} (w : State) (o other : Progress A) : Type 0 where
  pub same : o ≡ other
  pub only : OnlyBy w o

agr_here : {A : Type 0} (a : A) (w : State) → Agrees w (gives a w) (gives a w)
agr_here a w = record { same = refl; only = refl }

only_from : (w u v : State) → OnlySteps w u → OnlySteps u v → OnlySteps w v
only_from w u v e f = f ∙ ap (λ (x : State). record x { left = v.left }) e

only_by_from : {A : Type 0} (w u : State) (o : Progress A) → OnlySteps w u → OnlyBy u o → OnlyBy w o
only_by_from w u (gives a v) e h = only_from w u v e h
only_by_from w u (ends end v) e h = only_from w u v e h

agr_step_at : {A : Type 0} (l : ℕ) (w : State) (go other : State → Progress A) → ((m : ℕ) → Agrees (record w { left = m }) (go (record w { left = m })) (other (record w { left = m }))) → Agrees w (step_at l w go) (step_at l w other)
agr_step_at zero w go other h = record { same = refl; only = refl }
agr_step_at (suc m) w go other h = record { same = (h m).same; only = only_by_from w (record w { left = m }) (go (record w { left = m })) refl (h m).only }

agr_step : {A : Type 0} (w : State) (go other : State → Progress A) → ((m : ℕ) → Agrees (record w { left = m }) (go (record w { left = m })) (other (record w { left = m }))) → Agrees w (step w go) (step w other)
agr_step w go other h = agr_step_at w.left w go other h

agr_then : {A B : Type 0} (w : State) (o other : Progress A) (go on : A → State → Progress B) → w.sensors ≡ [] → Agrees w o other → ((a : A) (u : State) → u.sensors ≡ [] → Agrees u (go a u) (on a u)) → Agrees w (and_then o go) (and_then other on)
agr_then w (gives a u) other go on e h next = record {
  same = (next a u (ap (λ (u : State). u.sensors) h.only ∙ e)).same ∙ ap (λ o. and_then o on) h.same;
  only = only_by_from w u (go a u) h.only (next a u (ap (λ (u : State). u.sensors) h.only ∙ e)).only;
}
agr_then w (ends end u) other go on e h next = record { same = ap (λ o. and_then o on) h.same; only = h.only }

agr_or : {A B : Type 0} (r : Result A Stop) (span : Span) (w : State) (go on : A → Progress B) → ((a : A) → Agrees w (go a) (on a)) → Agrees w (or_undefined r span w go) (or_undefined r span w on)
agr_or (Ok a) span w go on h = h a
agr_or (Err stop) span w go on h = record { same = refl; only = refl }

agr_if : {A : Type 0} (w : State) (b : Bool) (x y other on : Progress A) → Agrees w x other → Agrees w y on → Agrees w (cond b x y) (cond b other on)
agr_if w true x y other on f g = f
agr_if w false x y other on f g = g

agr_sensed_from : (sensors : List ℤ) (t : PlainType) (w : State) → sensors ≡ [] → Agrees w (sensed_from sensors t w) (sensed_from sensors t w)
agr_sensed_from [] t w e = record { same = refl; only = refl }
agr_sensed_from (z ∷ sensors) t w e = absurd cc

agr_sensed : (t : PlainType) (w : State) → w.sensors ≡ [] → Agrees w (sensed t w) (sensed t w)
agr_sensed t w e = agr_sensed_from w.sensors t w e

agr_read : (span : Span) (t : PlainType) (held : List Held) (target : Target) (w : State) → w.sensors ≡ [] → Agrees w (read_target span t held target w) (read_target span t held target w)
agr_read span t held (Variable k) w e = agr_or _ span w _ _ (λ x. agr_here x w)
agr_read span t held Sensor w e = agr_sensed t w e
agr_read span t held (Element q) w e = agr_or _ span w _ _ (λ x. agr_here x w)

-- ## Trees

module _ (p : PlainProgram) (vs us : List PlainVariable) (c d : Calls) (n m : ℕ) (held : List Held) where
  abbrev one : Setting
  one = record { program = p; variables = vs; call = c; turns = n }

  abbrev two : Setting
  two = record { program = p; variables = us; call = d; turns = m }

  mutual
    pub evaluate_agrees : (v : PlainValue) → IsQuiet v → (w : State) → w.sensors ≡ [] → Agrees w (evaluate one held v w) (evaluate two held v w)
    evaluate_agrees (value at t form) q w e = agr_then w (perform one held at t form w) (perform two held at t form w) _ _ e (perform_agrees at t form q w e) (λ x w e. agr_or _ at.span w _ _ (λ x. agr_here _ w))

    discard_agrees : (v : PlainValue) → IsQuiet v → (w : State) → w.sensors ≡ [] → Agrees w (discard one held v w) (discard two held v w)
    discard_agrees (value at t form) q w e = perform_agrees at t form q w e

    perform_agrees : (at : At) (t : PlainType) (form : PlainForm) → IsQuietForm form → (w : State) → w.sensors ≡ [] → Agrees w (perform one held at t form w) (perform two held at t form w)
    perform_agrees at t (constant z) q w e = agr_step w _ _ (λ m. agr_here _ (record w { left = m }))
    perform_agrees at t (read r) q w e = agr_step w _ _ (λ m. agr_then (record w { left = m }) (locate one held r (record w { left = m })) (locate two held r (record w { left = m })) _ _ e (locate_agrees r q (record w { left = m }) e) (λ target w e.
        agr_if w (is_structure t) _ _ _ _ (agr_here _ w) (agr_then w (read_target _ t held target w) (read_target _ t held target w) give give e (agr_read _ t held target w e) (λ x w e. agr_here _ w))))
    perform_agrees at t (sense k) q w e = agr_step w _ _ (λ m. agr_then (record w { left = m }) (sensed t (record w { left = m })) (sensed t (record w { left = m })) give give e (agr_sensed t (record w { left = m }) e) (λ x w e. agr_here _ w))
    perform_agrees at t (address r) q w e = agr_step w _ _ (λ m. agr_then (record w { left = m }) (locate one held r (record w { left = m })) (locate two held r (record w { left = m })) _ _ e (locate_agrees r q (record w { left = m }) e) (λ target w e. agr_here _ w))
    perform_agrees at t (decay r) q w e = agr_step w _ _ (λ m. agr_then (record w { left = m }) (locate one held r (record w { left = m })) (locate two held r (record w { left = m })) _ _ e (locate_agrees r q (record w { left = m }) e) (λ target w e. agr_or _ at.span w _ _ (λ r. agr_here _ w)))
    perform_agrees at t (convert v) q w e = agr_then w (evaluate one held v w) (evaluate two held v w) _ _ e (evaluate_agrees v q w e) (λ x w e. agr_here _ w)
    perform_agrees at t (cast v) q w e = agr_step w _ _ (λ m. agr_if (record w { left = m }) (is_void t) _ _ _ _
        (agr_then (record w { left = m }) (discard one held v (record w { left = m })) (discard two held v (record w { left = m })) _ _ e (discard_agrees v q (record w { left = m }) e) (λ x w e. agr_here _ w))
        (agr_then (record w { left = m }) (evaluate one held v (record w { left = m })) (evaluate two held v (record w { left = m })) _ _ e (evaluate_agrees v q (record w { left = m }) e) (λ x w e. agr_here _ w)))
    perform_agrees at t (unary op v) q w e = agr_step w _ _ (λ m. agr_then (record w { left = m }) (evaluate one held v (record w { left = m })) (evaluate two held v (record w { left = m })) _ _ e (evaluate_agrees v q (record w { left = m }) e) (λ x w e. agr_or _ at.span w _ _ (λ z. agr_here _ w)))
    perform_agrees at t (binary op a b) q w e = agr_step w _ _ (λ m. agr_then (record w { left = m }) (evaluate one held a (record w { left = m })) (evaluate two held a (record w { left = m })) _ _ e (evaluate_agrees a q.0 (record w { left = m }) e) (λ x w e.
        agr_then w (evaluate one held b w) (evaluate two held b w) _ _ e (evaluate_agrees b q.1 w e) (λ y w e. agr_or _ at.span w _ _ (λ z. agr_here _ w))))
    perform_agrees at t (logic op a b) q w e = agr_step w _ _ (λ m. agr_then (record w { left = m }) (evaluate one held a (record w { left = m })) (evaluate two held a (record w { left = m })) _ _ e (evaluate_agrees a q.0 (record w { left = m }) e) (λ x w e.
        agr_if w (is_decided op (is_true x)) _ _ _ _ (agr_here _ w) (agr_then w (evaluate one held b w) (evaluate two held b w) _ _ e (evaluate_agrees b q.1 w e) (λ y w e. agr_here _ w))))
    perform_agrees at t (conditional c a b) q w e = agr_step w _ _ (λ m. agr_then (record w { left = m }) (evaluate one held c (record w { left = m })) (evaluate two held c (record w { left = m })) _ _ e (evaluate_agrees c q.0 (record w { left = m }) e) (λ x w e.
        agr_then w (if is_true x then evaluate one held a w else evaluate one held b w) (if is_true x then evaluate two held a w else evaluate two held b w) give give e (agr_if w (is_true x) _ _ _ _ (evaluate_agrees a q.1 w e) (evaluate_agrees b q.2 w e)) (λ y w e. agr_here _ w)))
    perform_agrees at t (call name f arguments) q w e = absurd q
    perform_agrees at t (built_in name f arguments) q w e = absurd q

    locate_agrees : (r : PlainPlace) → IsQuietPlace r → (w : State) → w.sensors ≡ [] → Agrees w (locate one held r w) (locate two held r w)
    locate_agrees (place at t form) q w e = find_agrees at t form q w e

    find_agrees : (at : At) (t : PlainType) (form : PlainPlaceForm) → IsQuietPlaceForm form → (w : State) → w.sensors ≡ [] → Agrees w (find_place one held at t form w) (find_place two held at t form w)
    find_agrees at t (variable k) q w e = agr_or _ at.span w _ _ (λ target. agr_here _ w)
    find_agrees at t (global k) q w e = agr_or _ at.span w _ _ (λ target. agr_here _ w)
    find_agrees at t (literal k bytes) q w e = agr_or _ at.span w _ _ (λ target. agr_here _ w)
    find_agrees at t (index a i) q w e = agr_step w _ _ (λ m. agr_then (record w { left = m }) (evaluate one held a (record w { left = m })) (evaluate two held a (record w { left = m })) _ _ e (evaluate_agrees a q.0 (record w { left = m }) e) (λ x w e.
        agr_then w (evaluate one held i w) (evaluate two held i w) _ _ e (evaluate_agrees i q.1 w e) (λ y w e. agr_or _ at.span w _ _ (λ r. agr_here _ w))))
    find_agrees at t (member r k) q w e = agr_step w _ _ (λ m. agr_then (record w { left = m }) (locate one held r (record w { left = m })) (locate two held r (record w { left = m })) _ _ e (locate_agrees r q (record w { left = m }) e) (λ target w e. agr_or _ at.span w _ _ (λ r. agr_here _ w)))
    find_agrees at t (dereference v) q w e = agr_step w _ _ (λ m. agr_then (record w { left = m }) (evaluate one held v (record w { left = m })) (evaluate two held v (record w { left = m })) _ _ e (evaluate_agrees v q (record w { left = m }) e) (λ x w e. agr_or _ at.span w _ _ (λ object. agr_here _ w)))

  written_agrees : (i : ℕ) (written : PlainWritten) → IsStaticWritten written → (w : State) → w.sensors ≡ [] → Agrees w (written_scalars one held i written w) (written_scalars two held i written w)
  written_agrees i (one_scalar v) q w e = agr_then w (evaluate one held v w) (evaluate two held v w) _ _ e (evaluate_agrees v (static_quiet v q) w e) (λ x w e. agr_here _ w)
  written_agrees i (scalars_of_text bytes) q w e = agr_here _ w

  pub listed_agrees : (items : List PlainItem) → All (λ (i : PlainItem). IsStaticWritten i.written) items → (w : State) → w.sensors ≡ [] → Agrees w (listed_scalars one held items w) (listed_scalars two held items w)
  listed_agrees [] q w e = agr_here _ w
  listed_agrees (item ∷ items) q w e =
      agr_then w (written_scalars one held item.scalar item.written w) (written_scalars two held item.scalar item.written w) _ _ e (written_agrees item.scalar item.written (All-head (λ (i : PlainItem). IsStaticWritten i.written) item items q) w e) (λ xs w e.
      agr_then w (listed_scalars one held items w) (listed_scalars two held items w) _ _ e (listed_agrees items (All-tail (λ (i : PlainItem). IsStaticWritten i.written) item items q) w e) (λ ys w e. agr_here _ w))

-- ## With one step more

abbrev pub no_calls : Calls
no_calls k xs w = ends StepsSpent w

calls_spent : (most : ℕ) → CallsAgree 1 most no_calls no_calls
calls_spent most = record { agree = λ f xs w m b l. agrees_spent 1 m w (no_calls f xs (with_more 1 w)) (λ (e : 1 ≡ 0). absurd (omega (arith, e))) }

-- a piece that gives something, or ends by itself, comes to the same with one step more
abbrev pub SameValue : {A : Type 0} → Progress A → Progress A → Type 0
SameValue (gives a u) other = (v : State) × (other ≡ gives a v)
SameValue (ends (AssertionFailed span) u) other = (v : State) × (other ≡ ends (AssertionFailed span) v)
SameValue (ends (Undefined stop span) u) other = (v : State) × (other ≡ ends (Undefined stop span) v)
SameValue (ends StepsSpent u) other = Unit {0}

same_value : {A : Type 0} (o one other last : Progress A) → o ≡ one → IsSame 1 one other → other ≡ last → SameValue o last
same_value (gives a u) mid other last e h f = let g : IsSame 1 (gives a u) other = subst (λ x. IsSame 1 x other) (sym e) h in (with_more 1 u, sym f ∙ g)
same_value (ends (AssertionFailed span) u) mid other last e h f = let g : IsSame 1 (ends (AssertionFailed span) u) other = subst (λ x. IsSame 1 x other) (sym e) h in (with_more 1 u, sym f ∙ g)
same_value (ends (Undefined stop span) u) mid other last e h f = let g : IsSame 1 (ends (Undefined stop span) u) other = subst (λ x. IsSame 1 x other) (sym e) h in (with_more 1 u, sym f ∙ g)
same_value (ends StepsSpent u) mid other last e h f = tt

-- what comes of a constant expression anywhere, and where constant expressions are evaluated
pub record Constant {A : Type 0} (w : State) (o other : Progress A) : Type 0 where
  pub value : SameValue o other
  pub only : OnlyBy w o

module _ (p : PlainProgram) (vs : List PlainVariable) (c : Calls) (n : ℕ) where
  abbrev here : Setting
  here = record { program = p; variables = vs; call = c; turns = n }

  pub evaluated_constant : (v : PlainValue) → is_static_value v ≡ true → (w : State) → w.sensors ≡ [] → Constant w (evaluate here [] v w) (evaluate (constant_setting p) [] v (with_more 1 w))
  evaluated_constant v q w e =
      let a : Agrees w (evaluate here [] v w) (evaluate (constant_setting p) [] v w) = evaluate_agrees p vs [] c no_calls n 0 [] v (static_quiet v q) w e in
      let b : IsSame 1 (evaluate (constant_setting p) [] v w) (evaluate (constant_setting p) [] v (with_more 1 w)) = (evaluate_more 1 w.left p [] no_calls no_calls 0 0 (calls_spent w.left) [] v w w.left (omega arith) (omega arith)).same in
      record { value = same_value _ _ _ _ a.same b refl; only = a.only }

  pub listed_constant : (items : List PlainItem) → All (λ (i : PlainItem). IsStaticWritten i.written) items → (w : State) → w.sensors ≡ [] → Constant w (listed_scalars here [] items w) (listed_scalars (constant_setting p) [] items (with_more 1 w))
  listed_constant items q w e =
      let many : Setting = record { program = p; variables = []; call = no_calls; turns = w.left + 1 } in
      let a : Agrees w (listed_scalars here [] items w) (listed_scalars many [] items w) = listed_agrees p vs [] c no_calls n (w.left + 1) [] items q w e in
      let b : IsSame 1 (listed_scalars many [] items w) (listed_scalars many [] items (with_more 1 w)) = (listed_agree 1 w.left p [] no_calls no_calls (w.left + 1) (w.left + 1) (calls_spent w.left) (omega arith) (omega arith) [] items w w.left (omega arith) (omega arith)).same in
      let d : Agrees (with_more 1 w) (listed_scalars many [] items (with_more 1 w)) (listed_scalars (constant_setting p) [] items (with_more 1 w)) = listed_agrees p [] [] no_calls no_calls (w.left + 1) 0 [] items q (with_more 1 w) e in
      record { value = same_value _ _ _ _ a.same b d.same; only = a.only }
