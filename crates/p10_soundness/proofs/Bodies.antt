-- The body of each function of an accepted certificate makes only covered calls, its loops keep their claims, and it returns what is claimed.
use Rattle.std.proofs.Common.{◌≡◌, ℕ, Bool, true, false, List, [], ◌∷◌, length, refl, ap, subst, Option, Some, None, slice_get}
use Rattle.std.specs.Prelude.{if◌then◌else◌}
use Rattle.std.specs.Bool.{nat_eq}
use Rattle.std.specs.List.{All}
use Rattle.std.proofs.lemmas.List.Elements.{All-nil, All-cons, All-contains}
use Rattle.p10_core.specs.Typed.{PlainStatement, PlainFunction, PlainProgram}
use Rattle.p10_core.specs.WholePrograms.{numbers_from, main_items, declared_in, loops_of, IsWholeStatement, IsWholeFunction, IsWholeProgram}
use Rattle.p10_cert.specs.Claims.{Func, Loop, Claims}
use Rattle.p10_meaning.specs.States.{State}
use Rattle.p10_meaning.specs.Values.{Held}
use Rattle.p10_meaning.specs.Statements.{Frame}
use Rattle.p10_meaning.specs.Calling.{Depth, setting_of, call_at}
use Rattle.p10_meaning.specs.Sound.{Kind, region_at}
use Rattle.p10_sums.specs.Counting.{loops_claimed, counting_of, task_of}
use Rattle.p10_sums.specs.Keeping.{StatementKeeps}
use Rattle.p10_absx.specs.Environments.{Environment}
use Rattle.p10_absx.specs.Entering.{entry_at}
use Rattle.p10_absx.specs.Describing.{Describes}
use Rattle.p10_fit.specs.Sites.{loop_sites, loop_number_at, task_loop_number}
use Rattle.p10_fit.specs.Fits.{fits_loops}
use Rattle.p10_pass.specs.Claiming.{loop_claimed}
use Rattle.p10_pass.specs.Passing.{Left, Weakness, Manner, manner_in, manner_of, pass_statement, pass_statements, pass_body, pass_of}
use Rattle.p10_check.specs.Passes.{Standing, left_by, unranked_loops}
use Rattle.p10_evaluation.specs.Claimed.{IsCoveredCall, ResultsLie}
use Rattle.p10_evaluation.specs.Laws.{IsDescribed}
use Rattle.p10_execution.specs.Scoping.{IsBefore}
use Rattle.p10_execution.specs.Standing.{AreInFrame, StandsSoundly}
use Rattle.p10_execution.specs.Leaving.{NoneFails}
use Rattle.p10_execution.proofs.KeepingStatements.{statements_keep, statements_keep_all}
use Rattle.p10_turns.specs.Laws.{IsLawful}
use Rattle.p10_task.proofs.Passes.{result_claimed, manner_is, Stands, IsFine}
use Rattle.p10_execution.specs.Bounding.{loop_trees, trees_among, AreCounted, AreMadeUp}
use Rattle.p10_soundness.proofs.Accepted.{FunctionMeets}
use Rattle.p10_soundness.proofs.Beginning.{body_before}
use Rattle.p10_soundness.proofs.Calls.{BodyIsSafe}
use Rattle.p10_soundness.proofs.LoopNumbers.{all_left, all_right, all_both, IsRanked, loops_ranked}
use Rattle.p10_soundness.proofs.MainLoops.{IsNoTask, no_task_among}
use Rattle.p10_soundness.proofs.Ranks.{evidence_bounds}
use Rattle.p10_soundness.proofs.Returning.{body_returns}
use Rattle.p10_soundness.proofs.Weak.{EachStands, statements_sound, each_stands}

-- ## Evidence

all_stand : (stands : Weakness → Bool) (weak : List Weakness) → EachStands stands weak → All (λ w. stands w ≡ true) weak
all_stand stands [] h = All-nil (λ w. stands w ≡ true)
all_stand stands (w ∷ rest) h = All-cons (λ w. stands w ≡ true) w rest h.0 (all_stand stands rest h.1)

module _ (p : PlainProgram) (whole : IsWholeProgram p) (stands : Standing) (lawful : IsLawful p stands) (c : Claims) (k : ℕ) (f : PlainFunction) (there : slice_get p.functions k ≡ Some f) (meets : FunctionMeets stands p c k f) where
  abbrev claim : Option Func
  claim = slice_get c.funcs k

  abbrev pub loops : List Loop
  loops = loops_claimed claim

  abbrev m : Manner
  m = manner_in f (Some c) (Some loops) (result_claimed claim)

  abbrev entry : Environment
  entry = entry_at p c k

  -- evidence stands for a loop
  abbrev pub IsStood : Weakness → Type 0
  IsStood w = stands k w.at w.entry (loop_claimed loops w.at) ≡ true

  abbrev pub Stood : List Weakness → Type 0
  Stood weak = All IsStood weak

  pub stood_parts : Stands Stood
  stood_parts = record { nothing = All-nil IsStood; left = λ xs ys h. all_left IsStood xs ys h; right = λ xs ys h. all_right IsStood xs ys h }

  -- ## The pass over the body

  pass_is : (env : Environment) → pass_of p c k env ≡ pass_body f (Some c) k env
  pass_is env = rw there refl

  left_is : left_by p c k ≡ pass_body f (Some c) k entry
  left_is = pass_is entry

  pub none_fails : NoneFails (pass_body f (Some c) k entry)
  none_fails = subst (λ (a : Left). NoneFails a) left_is (record { arguments = meets.arguments; results = meets.results; entries = meets.entries; backs = meets.backs })

  none_at : (condition : ℕ) → unranked_loops stands c k condition (left_by p c k).weak ≡ [] → unranked_loops stands c k condition (pass_body f (Some c) k entry).weak ≡ []
  none_at condition e = subst (λ (a : Left). unranked_loops stands c k condition a.weak ≡ []) left_is e

  pub all_stood : Stood (pass_body f (Some c) k entry).weak
  all_stood = all_stand (λ w. stands k w.at w.entry (loop_claimed loops w.at)) (pass_body f (Some c) k entry).weak
      (each_stands (λ w. stands k w.at w.entry (loop_claimed loops w.at)) (pass_body f (Some c) k entry).weak (statements_sound (manner_of f (Some c) k) f.body entry) (none_at 8 meets.positive) (none_at 9 meets.falling) (none_at 10 meets.enough))

  fine : IsFine Stood (pass_statements m f.body entry)
  fine = subst (λ m. IsFine Stood (pass_statements m f.body entry)) (manner_is c f claim)
      (record { none = record { arguments = none_fails.arguments; results = none_fails.results; entries = none_fails.entries; backs = none_fails.backs }; stood = all_stood })

  -- ## Statements

  made_up : (n : ℕ) (depth : Depth) (weak : List Weakness) → Stood weak → AreMadeUp p n depth k f loops weak
  made_up n depth weak h w i = evidence_bounds p whole stands lawful k f there loops w.at w.entry (All-contains IsStood weak w h i) n depth

  pub kept : (n : ℕ) (depth : Depth) → ResultsLie p (Some c) n (call_at n p depth) → (scope : List ℕ) (l b : Bool) (x : PlainStatement) → IsWholeStatement (region_at p k f scope l b) x → AreCounted f loops (loop_trees x) →
      (env : Environment) → IsBefore f.variables (declared_in x) env → IsFine Stood (pass_statement m x env) → (head : List Held) (frame : Frame) (w : State) → StandsSoundly p f.variables n frame w → Describes f.variables env head frame.held →
      StatementKeeps (counting_of p c.funcs k f) (setting_of p n (call_at n p) depth f) (IsCoveredCall p (Some c) n) x frame w
  kept n depth lie scope l b x i counted env before fine head frame w r d =
      statements_keep p whole n depth k f there (Some c) loops (result_claimed claim) c.funcs lie scope l b x i env before fine.none (made_up n depth (pass_statement m x env).weak fine.stood) counted head frame w r d

  -- ## Bodies without a task loop

  module _ (fits : fits_loops f (task_loop_number p k f) (loop_sites f) loops ≡ true) (no_task : task_of p k ≡ None) where
    function : IsWholeFunction p k f
    function = whole.functions k f there

    no_number : task_loop_number p k f ≡ None
    no_number = by_case (nat_eq k p.main) no_task
      where
        by_case : (b : Bool) → (if b then p.task else None) ≡ None → (if b then loop_number_at (main_items f) p.task else None) ≡ None
        by_case true e = ap (loop_number_at (main_items f)) e
        by_case false e = refl

    ranked : All (IsRanked None loops) (loops_of f.body)
    ranked = subst (λ n. All (IsRanked n loops) (loops_of f.body)) no_number (loops_ranked f (task_loop_number p k f) loops 0 (numbers_from 0 f.parameters) f.body (length (loops_of f.body)) fits function.loops_in_order)

    no_loop_is_task : All (IsNoTask loops) (loops_of f.body)
    no_loop_is_task = all_both (IsRanked None loops) (IsRanked None loops) (IsNoTask loops) (loops_of f.body) (λ x r s. r refl) ranked ranked

    counted : AreCounted f loops (trees_among f.body)
    counted = record { among = λ t h. h; no_task = no_task_among loops f.body no_loop_is_task }

    stands_soundly : (n : ℕ) (head : List Held) (frame : Frame) (ks : List Kind) (w : State) → IsDescribed p n f.variables entry head frame.held ks w → AreInFrame f.variables frame.held → StandsSoundly p f.variables n frame w
    stands_soundly n head frame ks w d i = record { kinds = ks; sound = d.sound; fits = d.fits; in_frame = i; left = d.few }

    pub body_safe : BodyIsSafe p c k f
    body_safe = record {
      keeps = λ n depth lie head frame ks w d i.
          statements_keep_all p whole n depth k f there (Some c) loops (result_claimed claim) c.funcs lie (IsCoveredCall p (Some c) n) (λ g xs w a. a) f.body (numbers_from 0 f.parameters) false false function.body
          counted entry (body_before p whole c k f there) fine.none (made_up n depth (pass_statements m f.body entry).weak fine.stood) head frame w (stands_soundly n head frame ks w d i) d.describes;
      returns = λ n depth lie head frame ks w d i.
          body_returns p whole n depth k f there c loops claim lie (numbers_from 0 f.parameters) function.body entry (body_before p whole c k f there) fine.none head frame w (stands_soundly n head frame ks w d i) d.describes;
    }
