-- The laws of evaluation, for the functions of whole programs.
use Rattle.std.proofs.Common.{◌≡◌, ℕ, true, false, List, [], Option, Some, None, slice_get}
use Rattle.p10_core.specs.Typed.{PlainValue, PlainPlace, PlainFunction, PlainProgram}
use Rattle.p10_core.specs.Whole.{SeenVariable, IsWholeValue, IsWholePlace}
use Rattle.p10_core.specs.WholePrograms.{around, IsWholeProgram}
use Rattle.p10_core.specs.Types.{PlainType}
use Rattle.p10_core.specs.Constants.{integer_of}
use Rattle.p10_range.specs.Rows.{values_of}
use Rattle.p10_range.proofs.Holding.{value_member}
use Rattle.p10_cert.specs.Claims.{Claims}
use Rattle.p10_meaning.specs.declared.pointers.Scalar.{Scalar}
use Rattle.p10_meaning.specs.declared.pointers.Scalar.TheVariants.{Int, Pointer}
use Rattle.p10_meaning.specs.States.{State}
use Rattle.p10_meaning.specs.Values.{Calls, Held, evaluate, discard}
use Rattle.p10_meaning.specs.Calling.{Depth, setting_of, call_at}
use Rattle.p10_meaning.specs.Sound.{Kind, MaybeFits, KeepSound, AreSeen, region_at}
use Rattle.p10_meaning.proofs.Geometry.{IsLaidOut}
use Rattle.p10_meaning.proofs.LaidOut.{laid_out}
use Rattle.p10_meaning.proofs.AgreeingCalls.{values_run}
use Rattle.p10_meaning.proofs.SoundStatements.{AreFew, seen_by, seen}
use Rattle.p10_meaning.proofs.SoundCalls.{few_variables, calls_keep}
use Rattle.p10_sums.specs.Keeping.{HoldsOf, ValueKeeps, PlaceKeeps}
use Rattle.p10_absx.specs.Environments.{Environment}
use Rattle.p10_absx.specs.Assessing.{assess, abstract_value}
use Rattle.p10_absx.specs.Describing.{Describes}
use Rattle.p10_pass.specs.Arguments.{has_value, failing_in, failing_at}
use Rattle.p10_evaluation.specs.Claimed.{ResultLies, IsCoveredCall, ResultsLie}
use Rattle.p10_evaluation.specs.Laws.{IsDescribed, IsHeldBy, IsFound, ValuesAreFound, DiscardedValuesAreFound, ValuesMakeCoveredCalls, PlacesMakeCoveredCalls, ResultsOfTypesLie}
use Rattle.p10_evaluation.proofs.Rules.{holds_map, holds_any, typed}
use Rattle.p10_evaluation.proofs.Finding.{in_type, FoundHolds, MaybeFound, found_value, maybe_some, found_known}
use Rattle.p10_evaluation.proofs.Arguments.{value_there, has_some}
use Rattle.p10_evaluation.proofs.Evaluating.{Falls, finds, discards}
use Rattle.p10_evaluation.proofs.Covering.{value_keeps, place_keeps}

-- a function of a whole program, in which calls that claims cover give results in the claimed ranges
module _ (p : PlainProgram) (whole : IsWholeProgram p) (c : Option Claims) (n : ℕ) (depth : Depth) (results : ResultsLie p c n (call_at n p depth)) (number : ℕ) (f : PlainFunction) (there : slice_get p.functions number ≡ Some f) (scope : List ℕ) (head held : List Held) where
  out : IsLaidOut p
  out = laid_out p whole

  abbrev calls : Calls
  calls = call_at n p depth

  meaning : KeepSound p calls
  meaning = calls_keep p whole n depth

  few : AreFew p f.variables
  few = few_variables p whole number f (whole.functions number f there)

  abbrev seen_at : ℕ → Option SeenVariable
  seen_at = seen_by p out whole calls meaning n number f few scope

  are_seen : AreSeen f.variables seen_at
  are_seen = seen p out whole calls meaning n number f few scope

  falls : Falls p out whole calls meaning n f.variables seen_at are_seen held head c results
  falls v w l = (values_run p depth f v held w).follows n l

  held_so : (env : Environment) (v : PlainValue) (x : Scalar) → FoundHolds f.variables head held (assess c v env) x → IsHeldBy head (abstract_value c env v) x
  held_so env v (Int z) h = found_value f.variables head held (assess c v env) z h
  held_so env v (Pointer q) h = tt

  found_of_value : (env : Environment) (v : PlainValue) (x : Scalar) → Describes f.variables env head held → FoundHolds f.variables head held (assess c v env) x → IsFound c v f.variables env head held x
  found_of_value env v x d h = record { held_by = held_so env v x h; known = found_known f.variables head held (assess c v env) x env h d; has = value_there f.variables head held c env v x h }

  value_found_so : (v : PlainValue) → IsWholeValue (around (region_at p number f scope false false)) v → (env : Environment) (ks : List Kind) (w : State) → IsDescribed p n f.variables env head held ks w → failing_in c v env ≡ [] →
      HoldsOf (λ x w. IsFound c v f.variables env head held x) (evaluate (setting_of p n (call_at n p) depth f) held v w)
  value_found_so v i env ks w d e = holds_map (λ x w. FoundHolds f.variables head held (assess c v env) x) (λ x w. IsFound c v f.variables env head held x) (evaluate (setting_of p n (call_at n p) depth f) held v w)
      (λ x u h. found_of_value env v x d.describes h) (finds p out whole calls meaning n f.variables seen_at are_seen held head c results falls v i env ks w d e)

  discarded_so : (v : PlainValue) → IsWholeValue (around (region_at p number f scope false false)) v → (env : Environment) (ks : List Kind) (w : State) → IsDescribed p n f.variables env head held ks w → failing_in c v env ≡ [] →
      HoldsOf (λ x w. has_value c v env ≡ true) (discard (setting_of p n (call_at n p) depth f) held v w)
  discarded_so v i env ks w d e = holds_map (λ x w. MaybeFound f.variables head held (assess c v env) x) (λ x w. has_value c v env ≡ true) (discard (setting_of p n (call_at n p) depth f) held v w)
      (λ x u h. has_some c env v (maybe_some f.variables head held (assess c v env) x h)) (discards p out whole calls meaning n f.variables seen_at are_seen held head c results falls v i env ks w d e)

  module _ (K : ℕ → List Scalar → State → Type 0) (keeps : (g : ℕ) (xs : List Scalar) (w : State) → IsCoveredCall p c n g xs w → K g xs w) where
    value_calls : (v : PlainValue) → IsWholeValue (around (region_at p number f scope false false)) v → (env : Environment) (ks : List Kind) (w : State) → IsDescribed p n f.variables env head held ks w → failing_in c v env ≡ [] →
        ValueKeeps (setting_of p n (call_at n p) depth f) K held v w
    value_calls v i env ks w d e = value_keeps p out whole calls meaning n f.variables seen_at are_seen held head c results falls K keeps v i env ks w d e

    place_calls : (q : PlainPlace) → IsWholePlace (around (region_at p number f scope false false)) q → (env : Environment) (ks : List Kind) (w : State) → IsDescribed p n f.variables env head held ks w → failing_at c q env ≡ [] →
        PlaceKeeps (setting_of p n (call_at n p) depth f) K held q w
    place_calls q i env ks w d e = place_keeps p out whole calls meaning n f.variables seen_at are_seen held head c results falls K keeps q i env ks w d e

-- ## The laws

pub values_found : ValuesAreFound
values_found p whole c n depth results number f there scope v i env head held ks w d e = record { given = value_found_so p whole c n depth results number f there scope head held v i env ks w d e }

pub discarded_found : DiscardedValuesAreFound
discarded_found p whole c n depth results number f there scope v i env head held ks w d e = record { given = discarded_so p whole c n depth results number f there scope head held v i env ks w d e }

-- each call to which a value comes keeps K, where calls that claims cover do
pub values_keep : (p : PlainProgram) → IsWholeProgram p → (c : Option Claims) (n : ℕ) (depth : Depth) → ResultsLie p c n (call_at n p depth) → (K : ℕ → List Scalar → State → Type 0) →
    ((g : ℕ) (xs : List Scalar) (w : State) → IsCoveredCall p c n g xs w → K g xs w) → (number : ℕ) (f : PlainFunction) → slice_get p.functions number ≡ Some f → (scope : List ℕ) (v : PlainValue) →
    IsWholeValue (around (region_at p number f scope false false)) v → (env : Environment) (head held : List Held) (ks : List Kind) (w : State) → IsDescribed p n f.variables env head held ks w → failing_in c v env ≡ [] →
    ValueKeeps (setting_of p n (call_at n p) depth f) K held v w
values_keep p whole c n depth results K keeps number f there scope v i env head held ks w d e = value_calls p whole c n depth results number f there scope head held K keeps v i env ks w d e

-- so does each to which a place comes
pub places_keep : (p : PlainProgram) → IsWholeProgram p → (c : Option Claims) (n : ℕ) (depth : Depth) → ResultsLie p c n (call_at n p depth) → (K : ℕ → List Scalar → State → Type 0) →
    ((g : ℕ) (xs : List Scalar) (w : State) → IsCoveredCall p c n g xs w → K g xs w) → (number : ℕ) (f : PlainFunction) → slice_get p.functions number ≡ Some f → (scope : List ℕ) (q : PlainPlace) →
    IsWholePlace (around (region_at p number f scope false false)) q → (env : Environment) (head held : List Held) (ks : List Kind) (w : State) → IsDescribed p n f.variables env head held ks w → failing_at c q env ≡ [] →
    PlaceKeeps (setting_of p n (call_at n p) depth f) K held q w
places_keep p whole c n depth results K keeps number f there scope q i env head held ks w d e = place_calls p whole c n depth results number f there scope head held K keeps q i env ks w d e

pub values_make_covered : ValuesMakeCoveredCalls
values_make_covered p whole c n depth results number f there scope v i env head held ks w d e = values_keep p whole c n depth results (IsCoveredCall p c n) (λ g xs w a. a) number f there scope v i env head held ks w d e

pub places_make_covered : PlacesMakeCoveredCalls
places_make_covered p whole c n depth results number f there scope q i env head held ks w d e = places_keep p whole c n depth results (IsCoveredCall p c n) (λ g xs w a. a) number f there scope q i env head held ks w d e

-- ## Results

result_in_type : (p : PlainProgram) (ks : List Kind) (t : PlainType) (x : Option Scalar) → MaybeFits p ks t x → ResultLies (values_of (integer_of t)) x
result_in_type p ks t None f = tt
result_in_type p ks t (Some (Int z)) f = value_member (integer_of t) z (in_type p ks t z f)
result_in_type p ks t (Some (Pointer q)) f = tt

pub results_lie : ResultsOfTypesLie
results_lie p whole n depth = record {
  lies = λ g xs w a. record {
    given = typed p a.kinds (λ ks x. MaybeFits p ks a.callee.result x) (λ x w. Unit {0}) (λ x w. ResultLies (values_of (integer_of a.callee.result)) x) (call_at n p depth g xs w)
        ((calls_keep p whole n depth).keeps g a.callee xs w a.kinds a.there a.fit a.sound) (holds_any (call_at n p depth g xs w)) (λ js x u f h. result_in_type p js a.callee.result x f);
  };
}
