-- Before the mark nothing passes it and nothing is counted: calls of functions other than `main`.
use Rattle.std.proofs.Common.{◌≡◌, ℕ, zero, suc, Bool, true, false, List, refl, Option, Some, None, slice_get}
use Rattle.std.specs.Prelude.{if◌then◌else◌}
use Rattle.p10_core.specs.Typed.{PlainFunction, PlainProgram}
use Rattle.p10_core.specs.WholePrograms.{IsWholeProgram}
use Rattle.p10_meaning.specs.declared.pointers.Scalar.{Scalar}
use Rattle.p10_meaning.specs.States.{State}
use Rattle.p10_meaning.specs.Values.{Calls}
use Rattle.p10_meaning.specs.Calling.{Depth, deeper, enter_call, call_at}
use Rattle.p10_allocation.proofs.Outcomes.{Leaves, Keeps, leaves_here, leaves_step}
use Rattle.p10_allocation.proofs.Calls.{enter_leaves}
use Rattle.p10_allocation.proofs.Early.{IsEarly, function_early}

-- the mark wasn't passed, and nothing is counted
abbrev pub IsUnpassed : Bool → ℕ → Type 0
IsUnpassed marked count = (marked ≡ false) × (count ≡ 0)

abbrev EarlyCalls : PlainProgram → (Depth → Calls) → Type 0
EarlyCalls p meaning = (depth : Depth) (g : ℕ) → (g ≡ p.main → ⊥) → (xs : List Scalar) (w : State) → IsUnpassed w.marked w.after_mark → Leaves IsUnpassed (meaning depth g xs w)

uncounted : (marked : Bool) (count : ℕ) → marked ≡ false → count ≡ 0 → (if marked then suc count else count) ≡ 0
uncounted true count e z = absurd cc
uncounted false count e z = z

pub early_keeps : (p : PlainProgram) (meaning : Depth → Calls) → EarlyCalls p meaning → (depth : Depth) → Keeps IsUnpassed (IsEarly p) (meaning depth)
early_keeps p meaning early depth = record {
  memory = λ at t name f arguments free e marked count u. (u.0, uncounted marked count u.0 u.1);
  passes = λ at never marked count u. absurd never;
  calls = λ at t name f arguments other xs w u. early depth f other xs w u;
}

enter_early : (p : PlainProgram) → IsWholeProgram p → (n : ℕ) (meaning : Depth → Calls) → EarlyCalls p meaning → (depth : Depth) (g : ℕ) → (g ≡ p.main → ⊥) → (o : Option PlainFunction) → slice_get p.functions g ≡ o →
    (xs : List Scalar) (w : State) → IsUnpassed w.marked w.after_mark → Leaves IsUnpassed (enter_call p n meaning depth o xs w)
enter_early p whole n meaning early depth g other None found xs w e = leaves_here IsUnpassed None w e
enter_early p whole n meaning early depth g other (Some f) found xs w e =
    enter_leaves IsUnpassed (IsEarly p) p n meaning depth f (early_keeps p meaning early (deeper f depth)) (function_early p whole g f found other) xs w e

pub early_calls : (p : PlainProgram) → IsWholeProgram p → (bound : ℕ) → EarlyCalls p (call_at bound p)
early_calls p whole zero depth g other xs w e = record { state = e }
early_calls p whole (suc n) depth g other xs w e =
    leaves_step IsUnpassed w _ e (λ l. enter_early p whole n (call_at n p) (early_calls p whole n) depth g other (slice_get p.functions g) refl xs (record w { left = l }) e)
