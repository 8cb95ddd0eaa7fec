-- A claim holds by a trial round where no condition fails in it.
use Rattle.std.proofs.Common.{◌≡◌, ℕ, Bool, true, false, not, ◌&&◌, List, ◌++◌, ap, refl}
use Rattle.p10_base.specs.declared.span.Span.{Span}
use Rattle.p10_core.specs.Typed.{PlainVariable, PlainStatement, statement, set, update, copy, evaluate as expression, asserts, declare, declare_static, block, if_then, if_else, loop, switch, break, continue, return, empty, mark}
use Rattle.p10_cert.specs.declared.claims.Rank.{Rank}
use Rattle.p10_cert.specs.declared.claims.Rank.TheVariants.{Up, Down, One, Task}
use Rattle.p10_cert.specs.Claims.{Var, Loop}
use Rattle.p10_absx.specs.Environments.{Environment}
use Rattle.p10_pass.specs.Claiming.{head_of, ranges_hold, ranges_hold_reached, rank_in, enters_ranked, goes_back_ranked, is_enough}
use Rattle.p10_pass.specs.Passing.{Round, failing_if, rank_fails, trial_manner}
use Rattle.p10_pass.specs.Rounds.{round_at}
use Rattle.p10_turns.specs.LoopParts.{LoopParts, parts_of, round_under}
use Rattle.p10_turns.specs.Ranked.{is_ranked}
use Rattle.p10_turns.specs.Evidence.{has_none, loop_stands}
use Rattle.p10_evidence.specs.private.Trials.{rank_holds, stands_with}

none_of_three : (a b c : Bool) (at : Span) → (a && (b && c)) ≡ has_none (failing_if (not a) 8 at ++ (failing_if (not b) 9 at ++ failing_if (not c) 10 at))
none_of_three true true true at = refl
none_of_three true true false at = refl
none_of_three true false c at = refl
none_of_three false b c at = refl

-- a rank holds where none of K8 to K10 fails
ranks_told : (depth turns : ℕ) (vars : List Var) (rank : Rank) (at : Span) (entry : Environment) (r : Round) →
    let claim : Loop = record { depth = depth; rank = rank; turns = turns; vars = vars } in
    rank_holds claim entry r ≡ (is_ranked rank && has_none (rank_fails claim at entry r))
ranks_told depth turns vars Task at entry r = refl
ranks_told depth turns vars One at entry r = none_of_three (enters_ranked One r.enters) (goes_back_ranked One r.back) (is_enough turns (rank_in One entry)) at
ranks_told depth turns vars (Up v bound) at entry r = none_of_three (enters_ranked (Up v bound) r.enters) (goes_back_ranked (Up v bound) r.back) (is_enough turns (rank_in (Up v bound) entry)) at
ranks_told depth turns vars (Down v bound) at entry r = none_of_three (enters_ranked (Down v bound) r.enters) (goes_back_ranked (Down v bound) r.back) (is_enough turns (rank_in (Down v bound) entry)) at

-- the trial round of a statement decides whether a claim holds for it
pub trial_told : (variables : List PlainVariable) (s : PlainStatement) (entry : Environment) (claim : Loop) →
    stands_with variables (round_at (trial_manner variables) s (head_of claim variables entry)) entry claim ≡ loop_stands variables (parts_of s) entry claim
trial_told variables (statement at (loop head first tested third body)) entry claim =
    let l : LoopParts = record { head = head; first = first; tested = tested; third = third; body = body } in
    let r : Round = round_under (trial_manner variables) claim l entry in
    ap (λ b. b && (ranges_hold claim 0 variables entry && ranges_hold_reached claim variables r.back)) (ranks_told claim.depth claim.turns claim.vars claim.rank head.span entry r)
trial_told variables (statement at (set p v)) entry claim = refl
trial_told variables (statement at (update kind op t p v)) entry claim = refl
trial_told variables (statement at (copy p q)) entry claim = refl
trial_told variables (statement at (expression v)) entry claim = refl
trial_told variables (statement at (asserts call v)) entry claim = refl
trial_told variables (statement at (declare n initializer)) entry claim = refl
trial_told variables (statement at (declare_static n)) entry claim = refl
trial_told variables (statement at (block ss)) entry claim = refl
trial_told variables (statement at (if_then v t)) entry claim = refl
trial_told variables (statement at (if_else v t u)) entry claim = refl
trial_told variables (statement at (switch keyword v labels body)) entry claim = refl
trial_told variables (statement at break) entry claim = refl
trial_told variables (statement at continue) entry claim = refl
trial_told variables (statement at (return keyword v)) entry claim = refl
trial_told variables (statement at empty) entry claim = refl
trial_told variables (statement at (mark kind)) entry claim = refl
