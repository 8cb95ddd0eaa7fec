-- What is found of whole values: in narrower environments it fits what a trial pass finds in wider ones.
use Rattle.std.proofs.Common.{◌≡◌, ℕ, Bool, true, false, List, Option, Some, None, refl, ap, sym, ◌∙◌, subst, arith, ℤ, pos, neg_ℤ}
use Rattle.std.specs.Prelude.{slice_get, if◌then◌else◌, IfSome}
use Rattle.std.proofs.lemmas.Option.{same_Some, none-some}
use Rattle.std.proofs.lemmas.Int.{ints}
use Rattle.p10_int.specs.declared.types.IntType.{IntType}
use Rattle.p10_int.specs.declared.types.IntType.TheVariants.{Int}
use Rattle.p10_range.specs.Ranges.{Interval, from_to}
use Rattle.p10_range.specs.Laws.{IsOfType}
use Rattle.p10_core.specs.declared.typed.Library.{Library}
use Rattle.p10_core.specs.declared.typed.Library.TheVariants.{Assert, CAssert, Getchar, Putchar, Malloc, Calloc, Free}
use Rattle.p10_core.specs.Types.{PlainType, integer, pointer, bare}
use Rattle.p10_core.specs.Typed.{PlainValue, value, PlainForm, constant, read, sense, address, decay, convert, cast, unary, binary, logic, conditional, call, built_in, PlainPlace, place, variable, global, literal, index, member, dereference, PlainValues, no_values, more_values, type_of, PlainVariable}
use Rattle.p10_core.specs.Constants.{integer_of}
use Rattle.p10_core.specs.Rows.{Row, conditional_row, int_type, same}
use Rattle.p10_core.specs.Whole.{SeenVariable, SeenFunction, Surroundings, IsConstant, IsVariable, Reads, ConditionalAgrees, CallsLibrary, IsWholeValue, IsWholeForm, IsWholePlace, AreWholeValues}
use Rattle.p10_cert.specs.Claims.{Claims}
use Rattle.p10_absx.specs.Abstract.{Abstract, only_range}
use Rattle.p10_absx.specs.Environments.{Environment, known}
use Rattle.p10_absx.specs.Assessing.{known_where, found_of, place_read, are_integers, library_assessed, call_claimed, assess, assess_form, assess_only, abstract_value}
use Rattle.p10_acceptance.proofs.Narrowing.{within_itself, Fits, Narrower, MaybeNarrower}
use Rattle.p10_acceptance.proofs.Assessing.{AssessedFits, same_kind, found_fits, sides_fit, where_fits, any_fits, value_fits, read_fits, conversion_fits, operation_fits, pair_fits, connected_fits, choice_fits, truths_fit}

-- ## Types

-- both operands of `?:` have its integer type, if it is one
pub record SameKinds (t left right : PlainType) : Type 0 where
  pub left_is : integer_of left ≡ integer_of t
  pub right_is : integer_of right ≡ integer_of t

row_kinds : (b : Bool) (r s t : PlainType) (entry : Row) → (if b then Some (record { result = r; left = s; right = t }) else None) ≡ Some entry → integer_of s ≡ integer_of r → integer_of t ≡ integer_of r → SameKinds entry.result entry.left entry.right
row_kinds true r s t entry e f g = subst (λ (x : Row). SameKinds x.result x.left x.right) (same_Some _ _ e) (record { left_is = f; right_is = g })
row_kinds false r s t entry e f g = absurd (none-some _ e)

choice_kinds : (left_null right_null : Bool) (s t : PlainType) (entry : Row) → conditional_row left_null right_null s t ≡ Some entry → SameKinds entry.result entry.left entry.right
choice_kinds l r (integer c a) (integer d b) entry e = subst (λ (x : Row). SameKinds x.result x.left x.right) (same_Some _ _ e) (record { left_is = refl; right_is = refl })
choice_kinds l r (pointer c s) (pointer d t) entry e = row_kinds (same s t) (pointer false s) (pointer false s) (pointer false t) entry e refl refl
choice_kinds l r (pointer c s) (integer d b) entry e = row_kinds r (pointer false s) (pointer false s) (pointer false s) entry e refl refl
choice_kinds l r (integer c a) (pointer d t) entry e = row_kinds l (pointer false t) (pointer false t) (pointer false t) entry e refl refl
choice_kinds l r s t entry e = absurd (none-some _ e)

chosen_kinds : (t left right : PlainType) → ConditionalAgrees t left right → SameKinds t left right
chosen_kinds t left right a =
    let k = choice_kinds a.left_null a.right_null a.left_type a.right_type a.entry a.is in record {
      left_is = ap integer_of a.left_is ∙ (k.left_is ∙ sym (ap integer_of a.result_is));
      right_is = ap integer_of a.right_is ∙ (k.right_is ∙ sym (ap integer_of a.result_is));
    }

-- ## The induction

-- a variable in scope is one of the function's
pub record IsSeen (variables : List PlainVariable) (n : ℕ) (x : SeenVariable) : Type 0 where
  pub variable : PlainVariable
  pub there : slice_get variables n ≡ Some variable
  pub type_is : x.type ≡ variable.type

-- what is claimed of the results of calls has values of their types
abbrev pub AreTyped : Surroundings → Option Claims → Type 0
AreTyped s c = (t : PlainType) (n : ℕ) (x : SeenFunction) → s.function_at n ≡ Some x → bare s.structures t ≡ bare s.structures x.result → IsOfType (integer_of t) (call_claimed c n (integer_of t))

abbrev pub AreSeen : List PlainVariable → Surroundings → Type 0
AreSeen variables s = (n : ℕ) (x : SeenVariable) → s.variable_at n ≡ Some x → IsSeen variables n x

module _ (variables : List PlainVariable) (s : Surroundings) (seen : AreSeen variables s) (c : Option Claims) (typed : AreTyped s c) where
  typed_known : (env wide : Environment) (n : ℕ) (t : PlainType) → Narrower variables env wide → IsVariable s n t → IfSome (known env n) (λ x. IsOfType (integer_of t) x.range)
  typed_known env wide n t h i = at (known env n) refl
    where
      is : IsSeen variables n i.seen
      is = seen n i.seen i.there

      at : (o : Option Abstract) → known env n ≡ o → IfSome o (λ x. IsOfType (integer_of t) x.range)
      at None e = tt
      at (Some a) e = subst (λ (u : PlainType). IsOfType (integer_of u) a.range) (sym (i.type_is ∙ is.type_is)) (h.fair.typed n a is.variable e is.there)

  place_fits : (t : PlainType) (p : PlainPlace) → IsWholePlace s p → Reads s t p → (env wide : Environment) → Narrower variables env wide → AssessedFits variables (integer_of t) (place_read t p env) (place_read t p wide)
  place_fits t (place at u (variable n)) i r env wide h =
      let k : integer_of t ≡ integer_of u = ap integer_of r.type_is ∙ same_kind u in
      read_fits variables t n (known env n) (known wide n)
      (subst (λ (kind : IntType). IfSome (known env n) (λ x. IsOfType kind x.range)) (sym k) (typed_known env wide n u h i)) (h.lies n)
  place_fits t (place at u (global n)) i r env wide h = any_fits variables t
  place_fits t (place at u (literal n bytes)) i r env wide h = any_fits variables t
  place_fits t (place at u (index a j)) i r env wide h = any_fits variables t
  place_fits t (place at u (member q m)) i r env wide h = any_fits variables t
  place_fits t (place at u (dereference v)) i r env wide h = any_fits variables t

  constant_typed : (t : PlainType) (z : ℤ) → IsConstant t z → IsOfType (integer_of t) (from_to z z)
  constant_typed t z i = subst (λ (u : PlainType). IsOfType (integer_of u) (from_to z z)) (sym i.type_is) (omega (arith, ints), record { from_low = i.in_range.low; to_high = i.in_range.high })

  -- ## Library functions

  int_fits : (t : PlainType) (r : Interval) → t ≡ int_type → IsOfType Int r → AssessedFits variables (integer_of t) (found_of t (Some (only_range r))) (found_of t (Some (only_range r)))
  int_fits t r e h = value_fits variables t _ _ (subst (λ (u : PlainType). IsOfType (integer_of u) r) (sym e) h, within_itself r)

  mutual
    pub assess_fits : (v : PlainValue) → IsWholeValue s v → (env wide : Environment) → Narrower variables env wide → AssessedFits variables (integer_of (type_of v)) (assess c v env) (assess None v wide)
    assess_fits (value at t form) i env wide h = form_fits t form i env wide h

    form_fits : (t : PlainType) (form : PlainForm) → IsWholeForm s t form → (env wide : Environment) → Narrower variables env wide → AssessedFits variables (integer_of t) (assess_form c t form env) (assess_form None t form wide)
    form_fits t (constant z) i env wide h = value_fits variables t _ _ (constant_typed t z i, within_itself (from_to z z))
    form_fits t (read p) i env wide h = place_fits t p i.0 i.1 env wide h
    form_fits t (sense n) i env wide h = any_fits variables t
    form_fits t (address p) i env wide h = any_fits variables t
    form_fits t (decay p) i env wide h = any_fits variables t
    form_fits t (convert v) i env wide h = conversion_fits variables t (integer_of (type_of v)) _ _ (sides_fit variables (integer_of (type_of v)) _ _ (assess_fits v i.0 env wide h))
    form_fits t (cast v) i env wide h = conversion_fits variables t (integer_of (type_of v)) _ _ (sides_fit variables (integer_of (type_of v)) _ _ (assess_fits v i.0 env wide h))
    form_fits t (unary op v) i env wide h = operation_fits variables op t (integer_of (type_of v)) env wide (assess c v env) (assess None v wide) h (assess_fits v i.0 env wide h)
    form_fits t (binary op a b) i env wide h = pair_fits variables op t (integer_of (type_of a)) (integer_of (type_of b)) (are_integers a b) env wide (assess c a env) (assess c b env) (assess None a wide) (assess None b wide) h
        (assess_fits a i.0 env wide h) (assess_fits b i.1 env wide h)
    form_fits t (logic op a b) i env wide h = connected_fits variables op (integer_of t) (integer_of (type_of a)) (integer_of (type_of b)) env wide (assess c a env) (assess None a wide) (λ env. assess c b env) (λ env. assess None b env) h
        (assess_fits a i.0 env wide h) (λ e w n. assess_fits b i.1 e w n)
    form_fits t (conditional v a b) i env wide h =
        let kinds : SameKinds t (type_of a) (type_of b) = chosen_kinds t (type_of a) (type_of b) i.4 in
        choice_fits variables t (integer_of (type_of v)) env wide (assess c v env) (assess None v wide) (λ env. assess c a env) (λ env. assess c b env) (λ env. assess None a env) (λ env. assess None b env) h (assess_fits v i.0 env wide h)
        (λ e w n. subst (λ (kind : IntType). AssessedFits variables kind (assess c a e) (assess None a w)) kinds.left_is (assess_fits a i.1 e w n))
        (λ e w n. subst (λ (kind : IntType). AssessedFits variables kind (assess c b e) (assess None b w)) kinds.right_is (assess_fits b i.2 e w n))
    form_fits t (call span n arguments) i env wide h = let k = typed t n i.1.seen i.1.there i.1.result_is in value_fits variables t _ _ (k, k.1)
    form_fits t (built_in span f arguments) i env wide h = built_fits t f arguments i.0 i.1 env wide h

    built_fits : (t : PlainType) (f : Library) (vs : PlainValues) → AreWholeValues s vs → CallsLibrary s t f vs → (env wide : Environment) → Narrower variables env wide →
        AssessedFits variables (integer_of t) (library_assessed f t env (assess_only c vs env)) (library_assessed f t wide (assess_only None vs wide))
    built_fits t CAssert (more_values v no_values) i k env wide h = truths_fit variables (integer_of t) (integer_of (type_of v)) env wide (assess c v env) (assess None v wide) h (assess_fits v i.0 env wide h)
    built_fits t CAssert no_values i k env wide h = absurd k
    built_fits t CAssert (more_values v (more_values w vs)) i k env wide h = absurd k
    built_fits t Getchar no_values i k env wide h = int_fits t (from_to (neg_ℤ (pos 1)) (pos 255)) k (omega (arith, ints), record { from_low = omega (arith, ints); to_high = omega (arith, ints) })
    built_fits t Getchar (more_values v vs) i k env wide h = absurd k
    built_fits t Putchar (more_values v no_values) i k env wide h = int_fits t (from_to (pos 0) (pos 255)) k.0 (omega (arith, ints), record { from_low = omega (arith, ints); to_high = omega (arith, ints) })
    built_fits t Putchar no_values i k env wide h = absurd k
    built_fits t Putchar (more_values v (more_values w vs)) i k env wide h = absurd k
    built_fits t Assert vs i k env wide h = any_fits variables t
    built_fits t Malloc vs i k env wide h = any_fits variables t
    built_fits t Calloc vs i k env wide h = any_fits variables t
    built_fits t Free vs i k env wide h = any_fits variables t

  -- the abstract value of a value
  pub abstract_fits : (v : PlainValue) → IsWholeValue s v → (env wide : Environment) → Narrower variables env wide → Fits (integer_of (type_of v)) (abstract_value c env v) (abstract_value None wide v)
  abstract_fits v i env wide h = found_fits variables (integer_of (type_of v)) (assess c v env) (assess None v wide) (assess_fits v i env wide h)

  -- what is known where it is true or false
  pub truth_narrower : (truth : Bool) (v : PlainValue) → IsWholeValue s v → (env wide : Environment) → Narrower variables env wide → MaybeNarrower variables (known_where truth env (assess c v env)) (known_where truth wide (assess None v wide))
  truth_narrower truth v i env wide h = where_fits variables (integer_of (type_of v)) truth env wide (assess c v env) (assess None v wide) h (assess_fits v i env wide h)
