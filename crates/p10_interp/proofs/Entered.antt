-- How `main` is entered before its task loop.
use Rattle.std.proofs.Common.{◌≡◌, ℕ, List, [], ◌∷◌, refl, sym, ◌∙◌, ap, subst, take, Result, Ok, Err, OnOk}
use Rattle.p10_core.specs.Typed.{PlainStatements, statements_list, statements_of_list, PlainFunction, PlainProgram}
use Rattle.p10_meaning.specs.declared.pointers.Scalar.{Scalar}
use Rattle.p10_meaning.specs.States.{State, and_then}
use Rattle.p10_meaning.specs.Statements.{normal}
use Rattle.p10_meaning.specs.Calling.{no_depth, deeper, raised, Entered, entered}
use Rattle.p10_meaning.proofs.AgreeingCalls.{IsEntry, entered_is}
use Rattle.p10_interp.specs.declared.broken.Broken.{Broken}
use Rattle.p10_interp.specs.declared.outside.Outside.{Outside}
use Rattle.p10_interp.specs.private.Tasks.{Task, execute_statements, Operand, Open, Rig}
use Rattle.p10_interp.specs.private.Machines.{Around, state_of}
use Rattle.p10_interp.specs.private.Resuming.{depth_of, proceed}
use Rattle.p10_interp.specs.private.Entering.{IsEntered}
use Rattle.p10_interp.specs.private.Serving.{state_at}
use Rattle.p10_interp.specs.private.Parts.{after_items, entered_stage}
use Rattle.p10_interp.proofs.Parted.{main_call, entered_is_work}

pub on_ok : {X P : Type 0} (r : Result X Broken) → P → OnOk r P
on_ok (Ok x) h = h
on_ok (Err e) h = tt

-- no step is taken by the entry itself
pub entry_left : (f : PlainFunction) (xs : List Scalar) (calls now : List Open) (s t : Outside) → ((io : Around) → IsEntered f xs calls (state_of s io) now (state_of t io)) → t.left ≡ s.left
entry_left f xs calls now s t h =
    let io : Around = record { out = []; rest = [] } in
    let e : IsEntered f xs calls (state_of s io) now (state_of t io) = h io in
    let d : IsEntry (raised (deeper f (depth_of calls)) (state_of s io)) (entered f.variables xs (raised (deeper f (depth_of calls)) (state_of s io))) = entered_is f.variables xs (raised (deeper f (depth_of calls)) (state_of s io)) in
    ap (λ (w : State). w.left) e.state ∙ d.left

module _ (f : PlainFunction) (i : ℕ) (items : PlainStatements) (now : List Open) (rig : Rig) where
  entry_work : (w v : State) → items ≡ statements_of_list (take i (statements_list f.body)) → IsEntered f [] [] w now v →
      rig ≡ record { flow = normal; tasks = execute_statements items ∷ []; operands = []; calls = now } →
      (p : PlainProgram) (n : ℕ) → entered_stage p n f i w ≡ and_then (proceed p n rig v) after_items
  entry_work w v e h d p n =
      entered_is_work p n f i w ∙
      ap (λ u. and_then (proceed p n (record { flow = normal; tasks = execute_statements (statements_of_list (take i (statements_list f.body))) ∷ []; operands = []; calls = main_call f (entered f.variables [] (raised (deeper f no_depth) w)).frame ∷ [] }) u) after_items) (sym h.state) ∙
      ap (λ calls. and_then (proceed p n (record { flow = normal; tasks = execute_statements (statements_of_list (take i (statements_list f.body))) ∷ []; operands = []; calls = calls }) v) after_items) (sym h.here) ∙
      ap (λ xs. and_then (proceed p n (record { flow = normal; tasks = execute_statements xs ∷ []; operands = []; calls = now }) v) after_items) (sym e) ∙
      ap (λ r. and_then (proceed p n r v) after_items) (sym d)

  same_entry : (xs : List Scalar) (calls : List Open) (w v : State) → xs ≡ [] → calls ≡ [] → IsEntered f xs calls w now v → IsEntered f [] [] w now v
  same_entry xs calls w v e d h = subst (λ calls. IsEntered f [] calls w now v) d (subst (λ xs. IsEntered f xs calls w now v) e h)

  same_rig : (tasks : List Task) (operands : List Operand) → tasks ≡ [] → operands ≡ [] → rig ≡ record { flow = normal; tasks = execute_statements items ∷ tasks; operands = operands; calls = now } →
      rig ≡ record { flow = normal; tasks = execute_statements items ∷ []; operands = []; calls = now }
  same_rig tasks operands e d h =
      h ∙ ap (λ k. record { flow = normal; tasks = execute_statements items ∷ k; operands = operands; calls = now }) e ∙ ap (λ xs. record { flow = normal; tasks = execute_statements items ∷ []; operands = xs; calls = now }) d

  pub main_entered : {X : Type 0} (r : Result X Broken) (s t : Outside) (xs : List Scalar) (calls : List Open) (tasks : List Task) (operands : List Operand) → xs ≡ [] → calls ≡ [] → tasks ≡ [] → operands ≡ [] →
      items ≡ statements_of_list (take i (statements_list f.body)) → ((io : Around) → IsEntered f xs calls (state_of s io) now (state_of t io)) →
      OnOk r (rig ≡ record { flow = normal; tasks = execute_statements items ∷ tasks; operands = operands; calls = now }) →
      OnOk r ((p : PlainProgram) (n : ℕ) (rest earlier : List ℕ) → entered_stage p n f i (state_at s rest earlier) ≡ and_then (proceed p n rig (state_at t rest earlier)) after_items)
  main_entered (Err e) s t xs calls tasks operands no_xs no_calls no_tasks no_operands e_items h d = tt
  main_entered (Ok x) s t xs calls tasks operands no_xs no_calls no_tasks no_operands e_items h d = λ p n rest earlier.
      entry_work (state_at s rest earlier) (state_at t rest earlier) e_items (same_entry xs calls (state_at s rest earlier) (state_at t rest earlier) no_xs no_calls (h (record { out = earlier; rest = rest })))
      (same_rig tasks operands no_tasks no_operands d) p n
