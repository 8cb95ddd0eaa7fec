-- The arguments of calls have values of the parameters' types: where nothing more is claimed of parameters, no call fails.
use Rattle.std.proofs.Common.{◌≡◌, ℕ, Bool, true, false, List, [], ◌∷◌, ◌++◌, map, Option, Some, None, refl, ap, sym, ◌∙◌, subst}
use Rattle.std.specs.Prelude.{slice_get, if◌then◌else◌, not, ◌&&◌}
use Rattle.p10_base.specs.declared.span.Span.{Span}
use Rattle.p10_int.specs.declared.types.IntType.{IntType}
use Rattle.p10_range.specs.Ranges.{IsWithin}
use Rattle.p10_range.specs.Rows.{values_of}
use Rattle.p10_core.specs.Types.{PlainType, void, integer, pointer, array, structure, bare, PlainStructure}
use Rattle.p10_core.specs.Typed.{PlainValue, value, PlainForm, constant, read, sense, address, decay, convert, cast, unary, binary, logic, conditional, call, built_in, PlainPlace, place, PlainPlaceForm, variable, global, literal, index, member, dereference, PlainValues, no_values, more_values, type_of, PlainVariable}
use Rattle.p10_core.specs.Constants.{integer_of}
use Rattle.p10_core.specs.Whole.{SeenFunction, Surroundings, ArgumentsFit, Calls, IsWholeValue, IsWholeForm, IsWholePlace, IsWholePlaceForm, AreWholeValues}
use Rattle.p10_cert.specs.Claims.{Value, Claims}
use Rattle.p10_absx.specs.Abstract.{Abstract}
use Rattle.p10_absx.specs.Environments.{Environment}
use Rattle.p10_absx.specs.Assessing.{assess, known_where, abstract_value}
use Rattle.p10_absx.specs.Entering.{claims_on}
use Rattle.p10_pass.specs.Arguments.{has_value, all_have_values, lies_in, arguments_lie, where_reached, goes_on_where, failing_calls, failing_in_form, failing_in_values, failing_in_place, failing_in_place_form, failing_in, failing_at}
use Rattle.p10_finder.specs.Functions.{any_value}
use Rattle.p10_acceptance.proofs.Narrowing.{Fits, Fair, MaybeNarrower, narrower_itself}
use Rattle.p10_acceptance.proofs.Operating.{is_within_of}
use Rattle.p10_acceptance.proofs.Values.{AreTyped, AreSeen, abstract_fits, truth_narrower}

-- of parameters nothing is claimed but their types
abbrev pub AreTaken : Surroundings → Claims → Type 0
AreTaken s c = (n : ℕ) (x : SeenFunction) → s.function_at n ≡ Some x → claims_on (slice_get c.funcs n) ≡ map any_value x.parameters

abbrev pub MaybeTaken : Surroundings → Option Claims → Type 0
MaybeTaken s None = Unit {0}
MaybeTaken s (Some c) = AreTaken s c

-- ## Lists

pub no_names : {A : Type 0} (xs ys : List A) → xs ≡ [] → ys ≡ [] → xs ++ ys ≡ []
no_names xs ys e f = ap (λ l. l ++ ys) e ∙ f

if_none : (b : Bool) (xs : List Span) → xs ≡ [] → (if b then xs else []) ≡ []
if_none true xs e = e
if_none false xs e = refl

bare_kind : (structures : List PlainStructure) (t : PlainType) → integer_of (bare structures t) ≡ integer_of t
bare_kind structures (void c) = refl
bare_kind structures (integer c i) = refl
bare_kind structures (pointer c t) = refl
bare_kind structures (array c t n) = refl
bare_kind structures (structure c n) = refl

pub same_bare : (structures : List PlainStructure) (t u : PlainType) → bare structures t ≡ bare structures u → integer_of t ≡ integer_of u
same_bare structures t u e = sym (bare_kind structures t) ∙ (ap integer_of e ∙ bare_kind structures u)

-- ## Arguments

module _ (variables : List PlainVariable) (s : Surroundings) (seen : AreSeen variables s) (c : Claims) (typed : AreTyped s (Some c)) (taken : AreTaken s c) where
  argument_lies : (v : PlainValue) → IsWholeValue s v → (kind : IntType) → integer_of (type_of v) ≡ kind → (env : Environment) → Fair variables env → lies_in (abstract_value (Some c) env v) (values_of kind) ≡ true
  argument_lies v i kind e env f = at (abstract_value (Some c) env v) (abstract_fits variables s seen (Some c) typed v i env env (narrower_itself variables env f))
    where
      at : (o : Option Abstract) → Fits (integer_of (type_of v)) o (abstract_value None env v) → lies_in o (values_of kind) ≡ true
      at None h = refl
      at (Some a) h = is_within_of a.range (values_of kind) (subst (λ (k : IntType). IsWithin a.range (values_of k)) e h.0.1)

  both_lie : (a b : Bool) → a ≡ true → b ≡ true → a && b ≡ true
  both_lie a b e f = ap (λ x. x && b) e ∙ f

  all_lie : (ts : List PlainType) (vs : PlainValues) → ArgumentsFit s ts vs → AreWholeValues s vs → (env : Environment) → Fair variables env → arguments_lie (Some c) (map any_value ts) vs env ≡ true
  all_lie [] no_values h i env f = refl
  all_lie [] (more_values v vs) h i env f = absurd h
  all_lie (t ∷ ts) no_values h i env f = absurd h
  all_lie (integer q kind ∷ ts) (more_values v vs) h i env f = both_lie _ _ (argument_lies v i.0 kind (same_bare s.structures (type_of v) (integer q kind) h.0) env f) (all_lie ts vs h.1 i.1 env f)
  all_lie (pointer q t ∷ ts) (more_values v vs) h i env f = all_lie ts vs h.1 i.1 env f
  all_lie (void q ∷ ts) (more_values v vs) h i env f = all_lie ts vs h.1 i.1 env f
  all_lie (array q t n ∷ ts) (more_values v vs) h i env f = all_lie ts vs h.1 i.1 env f
  all_lie (structure q n ∷ ts) (more_values v vs) h i env f = all_lie ts vs h.1 i.1 env f

  none_fails : (name : Span) (have lie : Bool) → lie ≡ true → (if have && not lie then name ∷ [] else []) ≡ []
  none_fails name true lie e = ap (λ (b : Bool). if not b then name ∷ [] else []) e
  none_fails name false lie e = refl

  call_stands : (name : Span) (n : ℕ) (t : PlainType) (vs : PlainValues) → AreWholeValues s vs → Calls s t n vs → (env : Environment) → Fair variables env →
      (if all_have_values (Some c) vs env && not (arguments_lie (Some c) (claims_on (slice_get c.funcs n)) vs env) then name ∷ [] else []) ≡ []
  call_stands name n t vs i k env f = none_fails name (all_have_values (Some c) vs env) (arguments_lie (Some c) (claims_on (slice_get c.funcs n)) vs env)
      (ap (λ (l : List Value). arguments_lie (Some c) l vs env) (taken n k.seen k.there) ∙ all_lie k.seen.parameters vs k.fit i env f)

  where_none : (truth : Bool) (v : PlainValue) → IsWholeValue s v → (env : Environment) → Fair variables env → (go : Environment → List Span) → ((e : Environment) → Fair variables e → go e ≡ []) → where_reached (known_where truth env (assess (Some c) v env)) go ≡ []
  where_none truth v i env f go h = at (known_where truth env (assess (Some c) v env)) (known_where truth env (assess None v env)) (truth_narrower variables s seen (Some c) typed truth v i env env (narrower_itself variables env f))
    where
      at : (o p : Option Environment) → MaybeNarrower variables o p → where_reached o go ≡ []
      at None p k = refl
      at (Some e) None k = absurd k
      at (Some e) (Some w) k = h e k.fair

  mutual
    pub none_failing : (v : PlainValue) → IsWholeValue s v → (env : Environment) → Fair variables env → failing_calls c v env ≡ []
    none_failing (value at t form) i env f = form_none t form i env f

    form_none : (t : PlainType) (form : PlainForm) → IsWholeForm s t form → (env : Environment) → Fair variables env → failing_in_form c form env ≡ []
    form_none t (constant z) i env f = refl
    form_none t (read p) i env f = place_none p i.0 env f
    form_none t (sense n) i env f = refl
    form_none t (address p) i env f = place_none p i.0 env f
    form_none t (decay p) i env f = place_none p i.0 env f
    form_none t (convert v) i env f = none_failing v i.0 env f
    form_none t (cast v) i env f = none_failing v i.0 env f
    form_none t (unary op v) i env f = none_failing v i.0 env f
    form_none t (binary op a b) i env f = no_names (failing_calls c a env) _ (none_failing a i.0 env f) (if_none (has_value (Some c) a env) (failing_calls c b env) (none_failing b i.1 env f))
    form_none t (logic op a b) i env f = no_names (failing_calls c a env) _ (none_failing a i.0 env f) (where_none (goes_on_where op) a i.0 env f (λ env. failing_calls c b env) (λ e g. none_failing b i.1 e g))
    form_none t (conditional v a b) i env f = no_names (failing_calls c v env) _ (none_failing v i.0 env f)
        (no_names (where_reached (known_where true env (assess (Some c) v env)) (λ env. failing_calls c a env)) _
        (where_none true v i.0 env f (λ env. failing_calls c a env) (λ e g. none_failing a i.1 e g))
        (where_none false v i.0 env f (λ env. failing_calls c b env) (λ e g. none_failing b i.2 e g)))
    form_none t (call name n arguments) i env f = no_names _ (failing_in_values c arguments env) (call_stands name n t arguments i.0 i.1 env f) (values_none arguments i.0 env f)
    form_none t (built_in name g arguments) i env f = values_none arguments i.0 env f

    values_none : (vs : PlainValues) → AreWholeValues s vs → (env : Environment) → Fair variables env → failing_in_values c vs env ≡ []
    values_none no_values i env f = refl
    values_none (more_values v vs) i env f = no_names (failing_calls c v env) _ (none_failing v i.0 env f) (if_none (has_value (Some c) v env) (failing_in_values c vs env) (values_none vs i.1 env f))

    pub place_none : (p : PlainPlace) → IsWholePlace s p → (env : Environment) → Fair variables env → failing_in_place c p env ≡ []
    place_none (place at t form) i env f = place_form_none t form i env f

    place_form_none : (t : PlainType) (form : PlainPlaceForm) → IsWholePlaceForm s t form → (env : Environment) → Fair variables env → failing_in_place_form c form env ≡ []
    place_form_none t (variable n) i env f = refl
    place_form_none t (global n) i env f = refl
    place_form_none t (literal n bytes) i env f = refl
    place_form_none t (index a j) i env f = no_names (failing_calls c a env) _ (none_failing a i.0 env f) (if_none (has_value (Some c) a env) (failing_calls c j env) (none_failing j i.1 env f))
    place_form_none t (member p m) i env f = place_none p i.0 env f
    place_form_none t (dereference v) i env f = none_failing v i.0 env f

module _ (variables : List PlainVariable) (s : Surroundings) (seen : AreSeen variables s) where
  -- no call in a value fails
  pub value_stands : (c : Option Claims) → AreTyped s c → MaybeTaken s c → (v : PlainValue) → IsWholeValue s v → (env : Environment) → Fair variables env → failing_in c v env ≡ []
  value_stands None typed taken v i env f = refl
  value_stands (Some c) typed taken v i env f = none_failing variables s seen c typed taken v i env f

  -- ... nor in a place
  pub place_stands : (c : Option Claims) → AreTyped s c → MaybeTaken s c → (p : PlainPlace) → IsWholePlace s p → (env : Environment) → Fair variables env → failing_at c p env ≡ []
  place_stands None typed taken p i env f = refl
  place_stands (Some c) typed taken p i env f = place_none variables s seen c typed taken p i env f
