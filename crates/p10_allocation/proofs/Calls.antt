-- Calls: entry, the body, and its end keep what holds of the mark and of the count.
use Rattle.std.proofs.Common.{ℕ, cond, Bool, true, false, List, [], ◌∷◌, Some}
use Rattle.p10_core.specs.Typed.{PlainVariable, PlainFunction, PlainProgram}
use Rattle.p10_core.specs.Nodes.{PlainNode, nodes_of_statements}
use Rattle.p10_meaning.specs.declared.pointers.Scalar.{Scalar}
use Rattle.p10_meaning.specs.Pointers.{holding}
use Rattle.p10_meaning.specs.Objects.{declared}
use Rattle.p10_meaning.specs.States.{State}
use Rattle.p10_meaning.specs.Values.{Calls, open_object}
use Rattle.p10_meaning.specs.Statements.{execute_from}
use Rattle.p10_meaning.specs.Calling.{Depth, deeper, raised, Entered, entered, leave_call, setting_of, enter_call}
use Rattle.p10_allocation.proofs.Outcomes.{Each, Leaves, Keeps, leaves_then}
use Rattle.p10_allocation.proofs.Statements.{from_leaves}

module _ (P : Bool → ℕ → Type 0) where
  either_entered : (b : Bool) (x y : Entered) → P x.state.marked x.state.after_mark → P y.state.marked y.state.after_mark → P (cond b x y).state.marked (cond b x y).state.after_mark
  either_entered true x y g h = g
  either_entered false x y g h = h

  -- a new frame opens objects alone
  pub entered_leaves : (variables : List PlainVariable) (xs : List Scalar) (w : State) → P w.marked w.after_mark → P (entered variables xs w).state.marked (entered variables xs w).state.after_mark
  entered_leaves [] xs w e = e
  entered_leaves (v ∷ variables) [] w e = entered_leaves variables [] w e
  entered_leaves (v ∷ variables) (x ∷ xs) w e = either_entered v.frame _ _ (entered_leaves variables xs w e) (entered_leaves variables xs (open_object declared (holding x ∷ []) w) e)

  pub enter_leaves : (N : PlainNode → Type 0) (p : PlainProgram) (n : ℕ) (call : Depth → Calls) (depth : Depth) (f : PlainFunction) → Keeps P N (call (deeper f depth)) → Each N (nodes_of_statements f.body) →
      (xs : List Scalar) (w : State) → P w.marked w.after_mark → Leaves P (enter_call p n call depth (Some f) xs w)
  enter_leaves N p n call depth f keeps q xs w e =
      let there : Depth = deeper f depth in
      let start : Entered = entered f.variables xs (raised there w) in
      leaves_then P (execute_from (setting_of p n (call) there f) 0 f.body start.frame start.state) leave_call
      (from_leaves P N (setting_of p n call there f) keeps 0 f.body q start.frame start.state (entered_leaves f.variables xs (raised there w) e)) (λ d w e. record { state = e })
