-- The environment at the entry of a function of whose parameters nothing is claimed but their types.
use Rattle.std.proofs.Common.{◌≡◌, ℕ, zero, suc, ◌+◌, ◌-◌, ◌<◌, ◌≤◌, ltb, Bool, true, false, List, [], ◌∷◌, length, map, take, refl, sym, ◌∙◌, ap, subst, arith, Option, Some, None, slice_get}
use Rattle.std.specs.Prelude.{◌||◌, ◌&&◌, is_some, if◌then◌else◌, nat_eq}
use Rattle.std.proofs.lemmas.Option.{same_Some, none-some}
use Rattle.std.proofs.lemmas.Bool.Decides.{nat_tests}
use Rattle.p10_range.specs.Rows.{values_of}
use Rattle.p10_range.specs.Laws.{IsOfType}
use Rattle.p10_core.specs.Types.{PlainType, void, integer, pointer, array, structure}
use Rattle.p10_core.specs.Constants.{integer_of}
use Rattle.p10_core.specs.Rows.{is_integer}
use Rattle.p10_core.specs.Typed.{PlainVariable, PlainFunction, PlainProgram}
use Rattle.p10_core.specs.WholePrograms.{is_among, numbers_from, parameter_types, declared_of, IsWholeFunction}
use Rattle.p10_cert.specs.Claims.{Value, Func, Claims}
use Rattle.p10_absx.specs.Abstract.{Abstract, only_range}
use Rattle.p10_absx.specs.Environments.{known}
use Rattle.p10_absx.specs.Entering.{parameter_claimed, claims_on, entry_for, entries_from, entry_of, entry_at}
use Rattle.p10_execution.specs.Scoping.{AreOnce, IsBefore}
use Rattle.p10_finder.specs.Functions.{any_value, known_at_start}
use Rattle.p10_acceptance.proofs.Narrowing.{whole_typed, Fair}

-- ## Numbers in a row

among_from : (m n count : ℕ) → is_among m (numbers_from n count) ≡ true → n ≤ m
among_from m n zero e = absurd cc
among_from m n (suc count) e = case (nat_eq m n) refl e (λ h. among_from m (n + 1) count h)
  where
    case : (b : Bool) → nat_eq m n ≡ b → (b || is_among m (numbers_from (n + 1) count)) ≡ true → (is_among m (numbers_from (n + 1) count) ≡ true → n + 1 ≤ m) → n ≤ m
    case true h e go = grind (arith, nat_tests, h)
    case false h e go = let k : n + 1 ≤ m = go e in omega (arith, k)

not_among : (n count : ℕ) → is_among n (numbers_from (n + 1) count) ≡ false
not_among n count = case (is_among n (numbers_from (n + 1) count)) refl
  where
    case : (b : Bool) → is_among n (numbers_from (n + 1) count) ≡ b → b ≡ false
    case false h = refl
    case true h = let k : n + 1 ≤ n = among_from n (n + 1) count h in absurd (omega (arith, k))

once_from : (n count : ℕ) → AreOnce (numbers_from n count)
once_from n zero = tt
once_from n (suc count) = (not_among n count, once_from (n + 1) count)

-- ## Entries

-- an entry that is known is that of a parameter
pub record IsParameter (first parameters : ℕ) (vs : List PlainVariable) (k : ℕ) (a : Abstract) : Type 0 where
  pub variable : PlainVariable
  pub there : slice_get vs k ≡ Some variable
  pub among : first + k < parameters
  pub frame : variable.frame ≡ true
  pub integer_is : is_integer variable.type ≡ true
  pub is : only_range (values_of (integer_of variable.type)) ≡ a

one_entry : (n parameters : ℕ) (v : PlainVariable) (a : Abstract) → entry_for n parameters [] v ≡ Some a → (ltb n parameters ≡ true) × (v.frame ≡ true) × (is_integer v.type ≡ true) × (only_range (values_of (integer_of v.type)) ≡ a)
one_entry n parameters v a e = at (ltb n parameters) v.frame (is_integer v.type) refl refl refl e
  where
    at : (b c d : Bool) → ltb n parameters ≡ b → v.frame ≡ c → is_integer v.type ≡ d → (if b && c && d then Some (only_range (parameter_claimed (integer_of v.type) (slice_get [] n))) else None) ≡ Some a →
        (ltb n parameters ≡ true) × (v.frame ≡ true) × (is_integer v.type ≡ true) × (only_range (values_of (integer_of v.type)) ≡ a)
    at true true true below frame kind e = (below, frame, kind, same_Some _ _ e)
    at true true false below frame kind e = absurd (none-some _ e)
    at true false d below frame kind e = absurd (none-some _ e)
    at false c d below frame kind e = absurd (none-some _ e)

pub parameter_known : (n parameters : ℕ) (vs : List PlainVariable) (k : ℕ) (a : Abstract) → known (entries_from n parameters [] vs) k ≡ Some a → IsParameter n parameters vs k a
parameter_known n parameters [] k a e = absurd (none-some _ e)
parameter_known n parameters (v ∷ vs) zero a e =
    let h = one_entry n parameters v a e in
    let below : n < parameters = grind (arith, nat_tests, h.0) in
    record { variable = v; there = refl; among = omega (arith, below); frame = h.1; integer_is = h.2; is = h.3 }
parameter_known n parameters (v ∷ vs) (suc k) a e =
    let h = parameter_known (suc n) parameters vs k a e in
    let low = h.among in
    record { variable = h.variable; there = h.there; among = omega (arith, low); frame = h.frame; integer_is = h.integer_is; is = h.is }

entries_long : (n parameters : ℕ) (claims : List Value) (vs : List PlainVariable) → length (entries_from n parameters claims vs) ≡ length vs
entries_long n parameters claims [] = refl
entries_long n parameters claims (v ∷ vs) = ap suc (entries_long (suc n) parameters claims vs)

-- ## The environment

-- it knows what has numbers of the types
pub start_fair : (f : PlainFunction) → Fair f.variables (known_at_start f)
start_fair f = record {
  long = let e = entries_long 0 f.parameters [] f.variables in omega (arith, e);
  typed = λ n a v e there.
      let h = parameter_known 0 f.parameters f.variables n a e in
      let same : h.variable ≡ v = same_Some _ _ (sym h.there ∙ there) in
      subst (λ (x : Abstract). IsOfType (integer_of v.type) x.range) h.is
      (subst (λ (x : PlainVariable). IsOfType (integer_of v.type) (values_of (integer_of x.type))) (sym same) (whole_typed (integer_of v.type)));
}

pub some_is : (o : Option Abstract) → is_some o ≡ true → (a : Abstract) × (o ≡ Some a)
some_is None e = absurd cc
some_is (Some a) e = (a, refl)

-- none of the variables that the body declares is known yet
pub start_before : (p : PlainProgram) (n : ℕ) (f : PlainFunction) → IsWholeFunction p n f → IsBefore f.variables (declared_of f.body) (known_at_start f)
start_before p n f i = subst (λ ns. IsBefore f.variables ns (known_at_start f)) (sym i.declared_in_order) (record {
  knows = record {
    each = λ k s.
        let a = some_is (known (known_at_start f) k) s in
        let h = parameter_known 0 f.parameters f.variables k a.0 a.1 in record { variable = h.variable; there = h.there; frame_is = h.frame; integer_is = h.integer_is };
  };
  once = once_from f.parameters (length f.variables - f.parameters);
  fresh = λ k e. case k e (is_some (known (known_at_start f) k)) refl;
})
  where
    case : (k : ℕ) → is_among k (numbers_from f.parameters (length f.variables - f.parameters)) ≡ true → (b : Bool) → is_some (known (known_at_start f) k) ≡ b → b ≡ false
    case k e false h = refl
    case k e true h =
        let low : f.parameters ≤ k = among_from k f.parameters (length f.variables - f.parameters) e in
        let a = some_is (known (known_at_start f) k) h in
        let below = (parameter_known 0 f.parameters f.variables k a.0 a.1).among in absurd (omega (arith, low, below))

-- ## Claims on parameters

any_claimed : (t : PlainType) → parameter_claimed (integer_of t) (Some (any_value t)) ≡ values_of (integer_of t)
any_claimed (integer c kind) = refl
any_claimed (pointer c t) = refl
any_claimed (void c) = refl
any_claimed (array c t n) = refl
any_claimed (structure c n) = refl

entries_same : (n parameters : ℕ) (claims : List Value) (vs : List PlainVariable) → ((k : ℕ) (v : PlainVariable) → slice_get vs k ≡ Some v → n + k < parameters → slice_get claims (n + k) ≡ Some (any_value v.type)) → entries_from n parameters claims vs ≡ entries_from n parameters [] vs
entries_same n parameters claims [] h = refl
entries_same n parameters claims (v ∷ vs) h =
    let first : entry_for n parameters claims v ≡ entry_for n parameters [] v = at (ltb n parameters) refl in
    let rest = entries_same (suc n) parameters claims vs (λ k u there low. subst (λ (i : ℕ). slice_get claims i ≡ Some (any_value u.type)) (moved n k) (h (suc k) u there (omega (arith, low)))) in
    λ i. first i ∷ rest i
  where
    moved : (n k : ℕ) → n + suc k ≡ suc n + k
    moved n k = omega arith

    plain : (n : ℕ) → n + 0 ≡ n
    plain n = omega arith

    at : (b : Bool) → ltb n parameters ≡ b → (if b && v.frame && is_integer v.type then Some (only_range (parameter_claimed (integer_of v.type) (slice_get claims n))) else None)
        ≡ (if b && v.frame && is_integer v.type then Some (only_range (parameter_claimed (integer_of v.type) (slice_get [] n))) else None)
    at false e = refl
    at true e =
        let low : n < parameters = grind (arith, nat_tests, e) in
        let there : slice_get claims n ≡ Some (any_value v.type) = subst (λ (i : ℕ). slice_get claims i ≡ Some (any_value v.type)) (plain n) (h 0 v refl (omega (arith, low))) in
        ap (λ r. if v.frame && is_integer v.type then Some (only_range r) else None) (ap (parameter_claimed (integer_of v.type)) there ∙ any_claimed v.type)

taken_at : (count : ℕ) (vs : List PlainVariable) (k : ℕ) (v : PlainVariable) → slice_get vs k ≡ Some v → k < count → slice_get (map any_value (map (λ (v : PlainVariable). v.type) (take count vs))) k ≡ Some (any_value v.type)
taken_at zero vs k v there low = absurd (omega (arith, low))
taken_at (suc count) [] k v there low = absurd (none-some _ there)
taken_at (suc count) (u ∷ vs) zero v there low = ap (λ (x : PlainVariable). Some (any_value x.type)) (same_Some _ _ there)
taken_at (suc count) (u ∷ vs) (suc k) v there low = taken_at count vs k v there (omega (arith, low))

-- where nothing is claimed of parameters but their types, a function is entered with this environment
pub start_is : (p : PlainProgram) (c : Claims) (n : ℕ) (f : PlainFunction) (a : Func) → slice_get p.functions n ≡ Some f → slice_get c.funcs n ≡ Some a → a.params ≡ map any_value (parameter_types f) → entry_at p c n ≡ known_at_start f
start_is p c n f a there claimed params =
    ap (λ o. entry_of (slice_get c.funcs n) o) there
    ∙ (ap (λ o. entries_from 0 f.parameters (claims_on o) f.variables) claimed
    ∙ (ap (λ l. entries_from 0 f.parameters l f.variables) params ∙ entries_same 0 f.parameters (map any_value (parameter_types f)) f.variables (λ k v e low. taken_first k v e low)))
  where
    taken_first : (k : ℕ) (v : PlainVariable) → slice_get f.variables k ≡ Some v → 0 + k < f.parameters → slice_get (map any_value (parameter_types f)) (0 + k) ≡ Some (any_value v.type)
    taken_first k v e low = subst (λ (i : ℕ). slice_get (map any_value (parameter_types f)) i ≡ Some (any_value v.type)) (none_first k) (taken_at f.parameters f.variables k v e (omega (arith, low)))
      where
        none_first : (k : ℕ) → k ≡ 0 + k
        none_first k = omega arith
