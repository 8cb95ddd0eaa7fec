-- Runs end in no undefined operation, where calls and the task loop stay clean.
use Rattle.std.proofs.Common.{◌≡◌, ℕ, zero, suc, ◌≤◌, List, [], ◌∷◌, take, map, refl, sym, subst, arith, Option, Some, None, slice_get}
use Rattle.p10_core.specs.Typed.{statements_list, PlainFunction, PlainProgram}
use Rattle.p10_core.specs.WholePrograms.{parameter_types, IsWholeProgram}
use Rattle.p10_cert.specs.Claims.{Value, Number, Address, Nothing, Func, Claims}
use Rattle.p10_meaning.specs.declared.world.World.{World}
use Rattle.p10_meaning.specs.States.{IsWorld, State}
use Rattle.p10_meaning.specs.Calling.{Depth, no_depth, deeper, call_at}
use Rattle.p10_meaning.specs.Opening.{opening}
use Rattle.p10_meaning.specs.Runs.{ran_call, Task, task_in, run_task, run_main, run_of}
use Rattle.p10_meaning.specs.Sound.{ScalarsFit, opening_kinds}
use Rattle.p10_meaning.specs.SoundRuns.{HasTask}
use Rattle.p10_meaning.proofs.SoundOpening.{opening_sound}
use Rattle.p10_evaluation.specs.Claimed.{ArgumentsLie, ResultsLie}
use Rattle.p10_absx.specs.Entering.{claims_on, entry_at}
use Rattle.p10_pass.specs.Passing.{pass_body}
use Rattle.p10_sums.specs.Counting.{loops_claimed}
use Rattle.p10_task.proofs.Passes.{result_claimed}
use Rattle.p10_execution.specs.Leaving.{NoneFails}
use Rattle.p10_clean_soundness.specs.Laws.{IsDefined}
use Rattle.p10_clean_soundness.proofs.CleanCalls.{CallLeft, call_clean, calls_clean, statement_goes, statements_go}
use Rattle.p10_clean_soundness.proofs.CleanFunctions.{IsCleanFunction}
use Rattle.p10_clean_soundness.proofs.CleanTaskRuns.{EndsDefined, call_defined, task_defined}
use Rattle.p10_clean_soundness.proofs.CleanValues.{values_clean}
use Rattle.p10_clean_soundness.proofs.OpeningStates.{opening_settled}

-- `main` has no arguments
no_arguments_lie : (claims : List Value) → ArgumentsLie claims []
no_arguments_lie [] = tt
no_arguments_lie (Number r ∷ claims) = tt
no_arguments_lie (Address ∷ claims) = tt
no_arguments_lie (Nothing ∷ claims) = tt

module _ (p : PlainProgram) (whole : IsWholeProgram p) (c : Claims) (results : (n : ℕ) (depth : Depth) → ResultsLie p (Some c) n (call_at n p depth))
    (fine : (k : ℕ) (f : PlainFunction) → slice_get p.functions k ≡ Some f → NoneFails (pass_body f (Some c) k (entry_at p c k)))
    (clean : (k : ℕ) (f : PlainFunction) → slice_get p.functions k ≡ Some f → IsCleanFunction p c k f) where
  at_most : (n : ℕ) → n ≤ n
  at_most n = omega arith

  -- a run of `main` without a task loop
  main_defined : (f : PlainFunction) → slice_get p.functions p.main ≡ Some f → f.parameters ≡ 0 → (world : World) → IsWorld world → (prefix : ℕ) → EndsDefined (ran_call (call_at prefix p no_depth p.main [] (opening p world prefix)))
  main_defined f there none world is zero = call_defined (λ x u. Unit {0}) (call_at zero p no_depth p.main [] (opening p world zero)) tt
  main_defined f there none world is (suc n) =
      let w : State = opening p world (suc n) in
      let fit : ScalarsFit p (opening_kinds p) (parameter_types f) [] = subst (λ k. ScalarsFit p (opening_kinds p) (map (λ v. v.type) (take k f.variables)) []) (sym none) tt in
      call_defined (CallLeft p whole c results fine clean p.main f [] w.objects) (call_at (suc n) p no_depth p.main [] w)
      (call_clean p whole c results fine clean n (calls_clean p whole c results fine clean n) no_depth p.main f there [] [] w (opening_kinds p) (opening_sound p whole world is (suc n)) fit (no_arguments_lie (claims_on (slice_get c.funcs p.main))) (at_most (suc n)) (opening_settled p world (suc n)))

  -- one with a task loop
  task_ends : (f : PlainFunction) (i : ℕ) (task : Task) → HasTask p f i task → (world : World) → IsWorld world → (prefix turn n : ℕ) → EndsDefined (run_task p prefix turn n f i (Some task) (opening p world prefix))
  task_ends f i task has world is prefix turn n =
      let depth : Depth = deeper f no_depth in
      let claim : Option Func = slice_get c.funcs p.main in
      task_defined p whole c f i task has (fine p.main f has.main) (clean p.main f has.main).body (λ n. results n depth)
      (λ n. values_clean p whole n depth p.main f has.main (Some c) (Some (loops_claimed claim)) (result_claimed claim) (results n depth) (calls_clean p whole c results fine clean n depth))
      (λ n scope l b x i. statement_goes p whole c results fine clean n depth (calls_clean p whole c results fine clean n depth) p.main f has.main x scope l b i)
      (λ n scope l b xs i. statements_go p whole c results fine clean n depth (calls_clean p whole c results fine clean n depth) p.main f has.main xs scope l b i)
      world is prefix turn n

  pub run_defined : (world : World) → IsWorld world → (prefix turn n : ℕ) → IsDefined (run_of p world prefix turn n)
  run_defined world is prefix turn n = record { defined = subst (λ o. EndsDefined (run_main p prefix turn n o p.task (opening p world prefix))) (sym whole.main.there) (by_task p.task refl) }
    where
      f : PlainFunction
      f = whole.main.function

      alone : EndsDefined (ran_call (call_at prefix p no_depth p.main [] (opening p world prefix)))
      alone = main_defined f whole.main.there whole.main.is.no_parameters world is prefix

      by_item : (i : ℕ) → p.task ≡ Some i → (o : Option Task) → task_in (slice_get (statements_list f.body) i) ≡ o → EndsDefined (run_task p prefix turn n f i o (opening p world prefix))
      by_item i e None q = alone
      by_item i e (Some task) q = task_ends f i task (record { main = whole.main.there; item = e; loop = q }) world is prefix turn n

      by_task : (o : Option ℕ) → p.task ≡ o → EndsDefined (run_main p prefix turn n (Some f) o (opening p world prefix))
      by_task None e = alone
      by_task (Some i) e = by_item i e (task_in (slice_get (statements_list f.body) i)) refl
