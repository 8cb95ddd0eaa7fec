-- Arguments that were evaluated: they fit the parameters, and lie in the claimed ranges where what is known of them does.
use Rattle.std.proofs.Common.{◌≡◌, ℕ, Bool, true, false, List, [], ◌∷◌, Option, Some, None, refl, ap, subst, ℤ, slice_get}
use Rattle.std.specs.Prelude.{◌&&◌, ◌||◌, if◌then◌else◌, is_some}
use Rattle.std.specs.Bool.{nat_eq}
use Rattle.std.specs.Option.{option_map}
use Rattle.std.proofs.lemmas.Option.{same_Some, none-some}
use Rattle.p10_range.specs.Ranges.{Interval, IsMember}
use Rattle.p10_core.specs.Types.{PlainType, void, integer, pointer, array, structure, bare, PlainStructure}
use Rattle.p10_core.specs.Rows.{is_integer, is_pointer}
use Rattle.p10_core.specs.Constants.{integer_of}
use Rattle.p10_core.specs.Typed.{PlainValue, type_of, PlainValues, no_values, more_values, PlainVariable, PlainFunction, PlainProgram}
use Rattle.p10_core.specs.Whole.{SeenFunction, Surroundings, ArgumentsFit}
use Rattle.p10_core.specs.WholePrograms.{seen_function}
use Rattle.p10_cert.specs.Claims.{Value, Number, Address, Nothing, Claims}
use Rattle.p10_meaning.specs.declared.pointers.Scalar.{Scalar}
use Rattle.p10_meaning.specs.declared.pointers.Scalar.TheVariants.{Int, Pointer}
use Rattle.p10_meaning.specs.Values.{Held}
use Rattle.p10_meaning.specs.Sound.{Kind, ScalarsFit}
use Rattle.p10_meaning.proofs.Fitting.{fits_same}
use Rattle.p10_meaning.proofs.SoundValues.{ValuesFit, IsCallee}
use Rattle.p10_absx.specs.Abstract.{Abstract}
use Rattle.p10_absx.specs.Environments.{Environment}
use Rattle.p10_absx.specs.Assessing.{value_found, assess, abstract_value}
use Rattle.p10_absx.specs.Describing.{MaybeHolds}
use Rattle.p10_pass.specs.Arguments.{has_value, all_have_values, lies_in, arguments_lie}
use Rattle.p10_evaluation.specs.Claimed.{ScalarLies, ArgumentsLie}
use Rattle.p10_evaluation.proofs.Operating.{both_true, within_of, in_within}
use Rattle.p10_evaluation.proofs.Finding.{FoundHolds, found_value, found_some}

-- ## Types

-- values of arguments fit the parameters' types
pub arguments_fit : (p : PlainProgram) (c : Surroundings) (ks : List Kind) (ts : List PlainType) (vs : PlainValues) (xs : List Scalar) → c.structures ≡ p.structures → ArgumentsFit c ts vs → ValuesFit p ks vs xs → ScalarsFit p ks ts xs
arguments_fit p c ks [] no_values [] e a f = tt
arguments_fit p c ks (t ∷ ts) (more_values v vs) (x ∷ xs) e a f =
    (fits_same p ks (type_of v) t x (subst (λ ss. bare ss (type_of v) ≡ bare ss t) e a.0) f.0, arguments_fit p c ks ts vs xs e a.1 f.1)
arguments_fit p c ks [] no_values (x ∷ xs) e a f = absurd f
arguments_fit p c ks (t ∷ ts) (more_values v vs) [] e a f = absurd f
arguments_fit p c ks [] (more_values v vs) xs e a f = absurd a
arguments_fit p c ks (t ∷ ts) no_values xs e a f = absurd a

-- the function that is called
pub callee_of : (p : PlainProgram) (n : ℕ) (seen : SeenFunction) → (if nat_eq n p.main then None else option_map seen_function (slice_get p.functions n)) ≡ Some seen → IsCallee p n seen
callee_of p n seen e = case (nat_eq n p.main) (slice_get p.functions n) refl e
  where
    case : (b : Bool) (o : Option PlainFunction) → slice_get p.functions n ≡ o → (if b then None else option_map seen_function o) ≡ Some seen → IsCallee p n seen
    case true o h e = absurd (none-some _ e)
    case false None h e = absurd (none-some _ e)
    case false (Some g) h e = record { callee = g; there = h; is = same_Some _ _ e }

-- which isn't `main`
pub is_other : (p : PlainProgram) (n : ℕ) (seen : SeenFunction) → (if nat_eq n p.main then None else option_map seen_function (slice_get p.functions n)) ≡ Some seen → nat_eq n p.main ≡ false
is_other p n seen e = case (nat_eq n p.main) refl e
  where
    case : (b : Bool) → nat_eq n p.main ≡ b → (if b then None else option_map seen_function (slice_get p.functions n)) ≡ Some seen → nat_eq n p.main ≡ false
    case true h e = absurd (none-some _ e)
    case false h e = h

-- one integer type, marks aside
pub same_kind : (ss : List PlainStructure) (t u : PlainType) → bare ss t ≡ bare ss u → is_integer t ≡ true → integer_of t ≡ integer_of u
same_kind ss (integer c i) (integer d j) e f = ap integer_of e
same_kind ss (integer c i) (void d) e f = absurd cc
same_kind ss (integer c i) (pointer d u) e f = absurd cc
same_kind ss (integer c i) (array d u n) e f = absurd cc
same_kind ss (integer c i) (structure d n) e f = absurd cc
same_kind ss (void c) u e f = absurd cc
same_kind ss (pointer c t) u e f = absurd cc
same_kind ss (array c t n) u e f = absurd cc
same_kind ss (structure c n) u e f = absurd cc

-- ## What is known of arguments

-- a value that was found is one
pub has_some : (c : Option Claims) (env : Environment) (v : PlainValue) → is_some (value_found (assess c v env)) ≡ true → has_value c v env ≡ true
has_some c env v e = right (is_pointer (type_of v)) (is_some (value_found (assess c v env))) e
  where
    right : (a b : Bool) → b ≡ true → a || b ≡ true
    right true b e = refl
    right false b e = e

module _ (variables : List PlainVariable) (head held : List Held) (c : Option Claims) (env : Environment) where
  -- a value that gives something has one
  pub value_there : (v : PlainValue) (x : Scalar) → FoundHolds variables head held (assess c v env) x → has_value c v env ≡ true
  value_there v x h = has_some c env v (found_some variables head held (assess c v env) x h)

  -- what is found of arguments holds of what they give
  abbrev pub AllFound : PlainValues → List Scalar → Type 0
  AllFound no_values [] = Unit {0}
  AllFound (more_values v vs) (x ∷ xs) = FoundHolds variables head held (assess c v env) x × AllFound vs xs
  AllFound no_values (x ∷ xs) = ⊥
  AllFound (more_values v vs) [] = ⊥

  pub all_there : (vs : PlainValues) (xs : List Scalar) → AllFound vs xs → all_have_values c vs env ≡ true
  all_there no_values xs h = refl
  all_there (more_values v vs) (x ∷ xs) h = both (has_value c v env) (all_have_values c vs env) (value_there v x h.0) (all_there vs xs h.1)
    where
      both : (a b : Bool) → a ≡ true → b ≡ true → a && b ≡ true
      both true b e f = f
      both false b e f = absurd cc
  all_there (more_values v vs) [] h = absurd h

  in_range : (o : Option Abstract) (r : Interval) (z : ℤ) → MaybeHolds head o z → lies_in o r ≡ true → IsMember r z
  in_range None r z h e = absurd h
  in_range (Some a) r z h e = in_within a.range r z (within_of a.range r e) h.member

  scalar_lies : (v : PlainValue) (r : Interval) (x : Scalar) → FoundHolds variables head held (assess c v env) x → lies_in (abstract_value c env v) r ≡ true → ScalarLies r x
  scalar_lies v r (Int z) h e = in_range (abstract_value c env v) r z (found_value variables head held (assess c v env) z h) e
  scalar_lies v r (Pointer q) h e = tt

  -- arguments lie in the claimed ranges
  pub all_lie : (claims : List Value) (vs : PlainValues) (xs : List Scalar) → AllFound vs xs → arguments_lie c claims vs env ≡ true → ArgumentsLie claims xs
  all_lie (Number r ∷ claims) (more_values v vs) (x ∷ xs) h e =
      let b : (lies_in (abstract_value c env v) r ≡ true) × (arguments_lie c claims vs env ≡ true) = both_true (lies_in (abstract_value c env v) r) (arguments_lie c claims vs env) e in
      (scalar_lies v r x h.0 b.0, all_lie claims vs xs h.1 b.1)
  all_lie (Address ∷ claims) (more_values v vs) (x ∷ xs) h e = all_lie claims vs xs h.1 e
  all_lie (Nothing ∷ claims) (more_values v vs) (x ∷ xs) h e = all_lie claims vs xs h.1 e
  all_lie (claim ∷ claims) (more_values v vs) [] h e = absurd h
  all_lie (claim ∷ claims) no_values (x ∷ xs) h e = absurd h
  all_lie (Number r ∷ claims) no_values [] h e = tt
  all_lie (Address ∷ claims) no_values [] h e = tt
  all_lie (Nothing ∷ claims) no_values [] h e = tt
  all_lie [] vs xs h e = tt
