-- Where no step is left, values and tests end at once.
use Rattle.std.proofs.Common.{◌≡◌, ℕ, zero, suc, Bool, List, refl, ap, Option, Some, None}
use Rattle.p10_core.specs.Types.{PlainType}
use Rattle.p10_base.specs.declared.at.At.{At}
use Rattle.p10_core.specs.Typed.{PlainValue, value, PlainForm, constant, read, sense, address, decay, convert, cast, unary, binary, logic, conditional, call, built_in}
use Rattle.p10_meaning.specs.States.{State, StepsSpent, Progress, ends, step_at, step, and_then}
use Rattle.p10_meaning.specs.Values.{Setting, Held, evaluate, perform}
use Rattle.p10_meaning.specs.Statements.{Frame, Done, test, turns}

pub step_none : {A : Type 0} (w : State) (go : State → Progress A) → w.left ≡ 0 → step w go ≡ ends StepsSpent w
step_none w go e = ap (λ l. step_at l w go) e

pub then_none : {A B : Type 0} (o : Progress A) (go : A → State → Progress B) (w : State) → o ≡ ends StepsSpent w → and_then o go ≡ ends StepsSpent w
then_none o go w e = ap (λ o. and_then o go) e

module _ (s : Setting) (held : List Held) (w : State) (none : w.left ≡ 0) where
  mutual
    pub evaluate_none : (v : PlainValue) → evaluate s held v w ≡ ends StepsSpent w
    evaluate_none (value at t form) = then_none (perform s held at t form w) _ w (perform_none at t form)

    perform_none : (at : At) (t : PlainType) (form : PlainForm) → perform s held at t form w ≡ ends StepsSpent w
    perform_none at t (constant z) = step_none w _ none
    perform_none at t (read q) = step_none w _ none
    perform_none at t (sense i) = step_none w _ none
    perform_none at t (address q) = step_none w _ none
    perform_none at t (decay q) = step_none w _ none
    perform_none at t (convert v) = then_none (evaluate s held v w) _ w (evaluate_none v)
    perform_none at t (cast v) = step_none w _ none
    perform_none at t (unary op v) = step_none w _ none
    perform_none at t (binary op x y) = step_none w _ none
    perform_none at t (logic op x y) = step_none w _ none
    perform_none at t (conditional c x y) = step_none w _ none
    perform_none at t (call name f arguments) = step_none w _ none
    perform_none at t (built_in name f arguments) = step_none w _ none

pub test_none : (s : Setting) (tested : Option PlainValue) (frame : Frame) (w : State) → w.left ≡ 0 → test s tested frame w ≡ ends StepsSpent w
test_none s None frame w e = step_none w _ e
test_none s (Some v) frame w e = then_none (evaluate s frame.held v w) _ w (evaluate_none s frame.held w e v)

pub turns_none : (n : ℕ) (tested : Frame → State → Progress Bool) (body : Frame → State → Progress Done) (frame : Frame) (w : State) → tested frame w ≡ ends StepsSpent w → turns n tested body frame w ≡ ends StepsSpent w
turns_none zero tested body frame w e = refl
turns_none (suc n) tested body frame w e = then_none (tested frame w) _ w e
