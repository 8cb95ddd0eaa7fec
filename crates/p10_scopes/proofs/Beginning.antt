-- Where a function begins exactly its integer frame parameters are known.
use Rattle.std.proofs.Common.{◌≡◌, ℕ, zero, suc, ◌+◌, Bool, true, false, List, [], ◌∷◌, Some, None, refl, sym, ap, ◌∙◌, arith, inl, inr}
use Rattle.std.specs.Prelude.{slice_get, is_some, ltb, ◌||◌, ◌&&◌, if◌then◌else◌}
use Rattle.std.proofs.lemmas.Bool.{lt-ltb, le-ltb, ne_eqb, eq-eqb, cases_lt}
use Rattle.p10_core.specs.Rows.{is_integer}
use Rattle.p10_core.specs.Constants.{integer_of}
use Rattle.p10_core.specs.Typed.{PlainVariable}
use Rattle.p10_core.specs.WholePrograms.{is_among, numbers_from}
use Rattle.p10_cert.specs.Claims.{Value}
use Rattle.p10_absx.specs.Abstract.{Abstract, only_range}
use Rattle.p10_absx.specs.Environments.{known}
use Rattle.p10_absx.specs.Entering.{parameter_claimed, claims_on, entries_from, entry_of_function}
use Rattle.p10_fit.specs.Fits.{frame_integer, counter_type}
use Rattle.p10_scopes.specs.Laws.{FunctionsBeginWithParameters}
use Rattle.p10_scopes.proofs.Scopes.{counts}

-- ## Numbers

less_next : (i count : ℕ) → ltb i count ≡ ltb (suc i) (suc count)
less_next i count = elim (cases_lt i count) [
  | inl low ↦ lt-ltb i count low ∙ sym (lt-ltb (suc i) (suc count) (omega (arith, low)))
  | inr high ↦ le-ltb i count high ∙ sym (le-ltb (suc i) (suc count) (omega (arith, high)))
]

-- which numbers are among those from one on
among_from : (k count i : ℕ) → is_among (k + i) (numbers_from k count) ≡ ltb i count
among_from k zero i = sym (le-ltb i 0 (omega arith))
among_from k (suc count) zero = ap (λ b. b || is_among (k + 0) (numbers_from (k + 1) count)) (eq-eqb (k + 0) k (omega arith)) ∙ sym (lt-ltb 0 (suc count) (omega arith))
among_from k (suc count) (suc i) =
    let same : k + suc i ≡ (k + 1) + i = omega arith in
    ap (λ b. b || is_among (k + suc i) (numbers_from (k + 1) count)) (ne_eqb (k + suc i) k (λ e. omega (arith, e)))
    ∙ (ap (λ n. is_among n (numbers_from (k + 1) count)) same ∙ (among_from (k + 1) count i ∙ less_next i count))

-- ## Entries

none_either : (b : Bool) → false ≡ is_some (if b then frame_integer None else None)
none_either true = refl
none_either false = refl

three : (a b c : Bool) (x : Abstract) → is_some (if a && b && c then Some x else None) ≡ (a && (b && c))
three true true true x = refl
three true true false x = refl
three true false c x = refl
three false b c x = refl

chosen : (a : Bool) (v : PlainVariable) → (a && (v.frame && is_integer v.type)) ≡ is_some (if a then frame_integer (Some v) else None)
chosen true v = sym (counts v)
chosen false v = refl

entry_known : (k parameters : ℕ) (claims : List Value) (vs : List PlainVariable) (i : ℕ) → is_some (known (entries_from k parameters claims vs) i) ≡ is_some (if ltb (k + i) parameters then frame_integer (slice_get vs i) else None)
entry_known k parameters claims [] i = none_either (ltb (k + i) parameters)
entry_known k parameters claims (v ∷ vs) zero =
    let same : k ≡ k + 0 = omega arith in
    three (ltb k parameters) v.frame (is_integer v.type) (only_range (parameter_claimed (integer_of v.type) (slice_get claims k)))
    ∙ (chosen (ltb k parameters) v ∙ ap (λ n. is_some (if ltb n parameters then frame_integer (Some v) else None)) same)
entry_known k parameters claims (v ∷ vs) (suc i) =
    let same : suc k + i ≡ k + suc i = omega arith in
    entry_known (suc k) parameters claims vs i ∙ ap (λ n. is_some (if ltb n parameters then frame_integer (slice_get vs i) else None)) same

pub begins : FunctionsBeginWithParameters
begins f claim = record { exactly = λ n. known_from n }
  where
    known_from : (n : ℕ) → is_some (known (entry_of_function claim f) n) ≡ is_some (counter_type f (numbers_from 0 f.parameters) n)
    known_from n =
        let same : 0 + n ≡ n = omega arith in
        let among : is_among n (numbers_from 0 f.parameters) ≡ ltb n f.parameters = ap (λ k. is_among k (numbers_from 0 f.parameters)) (sym same) ∙ among_from 0 f.parameters n in
        entry_known 0 f.parameters (claims_on claim) f.variables n
        ∙ (ap (λ k. is_some (if ltb k f.parameters then frame_integer (slice_get f.variables n) else None)) same
        ∙ ap (λ b. is_some (if b then frame_integer (slice_get f.variables n) else None)) (sym among))
