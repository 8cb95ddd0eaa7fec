-- Scopes, and the variables of which a certificate may speak there.
use Rattle.std.proofs.Common.{◌≡◌, ℕ, ◌<◌, Bool, true, false, List, [], ◌∷◌, ◌++◌, length, Option, Some, None, refl, sym, ap, ◌∙◌}
use Rattle.std.specs.Prelude.{slice_get, is_some, nat_eq, ◌||◌, ◌&&◌, if◌then◌else◌}
use Rattle.p10_core.specs.Types.{PlainType, void, integer, pointer, array, structure}
use Rattle.p10_core.specs.Rows.{is_integer}
use Rattle.p10_core.specs.Typed.{PlainVariable, PlainFunction}
use Rattle.p10_core.specs.WholePrograms.{is_among}
use Rattle.p10_absx.specs.Abstract.{Abstract}
use Rattle.p10_absx.specs.Environments.{Environment, known, known_in, learned}
use Rattle.p10_absx.proofs.Entries.{get_set}
use Rattle.p10_fit.specs.Fits.{kind_of_integer, frame_integer, counter_type}
use Rattle.p10_execution.specs.Scoping.{IsNumber, KnowsNumbers, IsBefore}
use Rattle.p10_execution.proofs.Numbers.{among_append}
use Rattle.p10_scopes.specs.Knowing.{KnowsScope, AreNew}

-- ## Integer frame variables

kind_some : (t : PlainType) → is_some (kind_of_integer t) ≡ is_integer t
kind_some (integer c i) = refl
kind_some (void c) = refl
kind_some (pointer c t) = refl
kind_some (array c t n) = refl
kind_some (structure c n) = refl

-- a variable counts where it is held in the frame and is an integer
pub counts : (v : PlainVariable) → is_some (frame_integer (Some v)) ≡ (v.frame && is_integer v.type)
counts v = by_frame v.frame
  where
    by_frame : (b : Bool) → is_some (if b then kind_of_integer v.type else None) ≡ (b && is_integer v.type)
    by_frame true = kind_some v.type
    by_frame false = refl

both_true : (a b : Bool) → (a && b) ≡ true → (a ≡ true) × (b ≡ true)
both_true true b e = (refl, e)
both_true false b e = absurd cc

number_of : (f : PlainFunction) (n : ℕ) (o : Option PlainVariable) → slice_get f.variables n ≡ o → is_some (frame_integer o) ≡ true → IsNumber f.variables n
number_of f n None there e = absurd cc
number_of f n (Some v) there e =
    let both = both_true v.frame (is_integer v.type) (sym (counts v) ∙ e) in
    record { variable = v; there = there; frame_is = both.0; integer_is = both.1 }

counter_number : (f : PlainFunction) (n : ℕ) (b : Bool) → is_some (if b then frame_integer (slice_get f.variables n) else None) ≡ true → IsNumber f.variables n
counter_number f n true e = number_of f n (slice_get f.variables n) refl e
counter_number f n false e = absurd cc

-- what is in scope exactly are integer frame variables
pub knows_numbers : (f : PlainFunction) (scope : List ℕ) (env : Environment) → KnowsScope f scope env → KnowsNumbers f.variables env
knows_numbers f scope env k = record { each = λ n e. counter_number f n (is_among n scope) (sym (k.exactly n) ∙ e) }

-- what isn't in a scope isn't known
pub not_known : (f : PlainFunction) (scope : List ℕ) (env : Environment) (n : ℕ) → KnowsScope f scope env → is_among n scope ≡ false → is_some (known env n) ≡ false
not_known f scope env n k e = k.exactly n ∙ ap (λ b. is_some (if b then frame_integer (slice_get f.variables n) else None)) e

pub new_before : (f : PlainFunction) (scope numbers : List ℕ) (env : Environment) → AreNew scope numbers → KnowsScope f scope env → IsBefore f.variables numbers env
new_before f scope numbers env new k = record {
  knows = knows_numbers f scope env k;
  once = new.once;
  fresh = λ n e. not_known f scope env n k (new.apart n e);
}

-- ## One more

or_none : (a : Bool) → (a || (false || false)) ≡ a
or_none true = refl
or_none false = refl

or_this : (a : Bool) → (a || (true || false)) ≡ true
or_this true = refl
or_this false = refl

-- a variable other than the one that comes into scope
pub other_counter : (f : PlainFunction) (scope : List ℕ) (n m : ℕ) → nat_eq m n ≡ false → is_some (counter_type f (scope ++ n ∷ []) m) ≡ is_some (counter_type f scope m)
other_counter f scope n m e = ap (λ b. is_some (if b then frame_integer (slice_get f.variables m) else None)) (among_append m scope (n ∷ []) ∙ (ap (λ b. is_among m scope || (b || false)) e ∙ or_none (is_among m scope)))

pub this_counter : (f : PlainFunction) (scope : List ℕ) (n : ℕ) → nat_eq n n ≡ true → is_some (counter_type f (scope ++ n ∷ []) n) ≡ is_some (frame_integer (slice_get f.variables n))
this_counter f scope n e = ap (λ b. is_some (if b then frame_integer (slice_get f.variables n) else None)) (among_append n scope (n ∷ []) ∙ (ap (λ b. is_among n scope || (b || false)) e ∙ or_this (is_among n scope)))

-- what is learned of a variable that has a place is known
pub learned_there : (env : Environment) (n : ℕ) (a : Abstract) → n < length env → is_some (known (learned env n a) n) ≡ true
learned_there env n a low = ap (λ o. is_some (known_in o)) (get_set env n (Some a) low)
