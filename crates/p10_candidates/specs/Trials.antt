-- What is claimed of a loop: the claim of the first candidate that stands by itself.
use Rattle.std.specs.Prelude.{ℕ, suc, ◌+◌, ◌++◌, min, ◌&&◌, if◌then◌else◌, Bool, List, [], ◌∷◌, pos, unsigned_abs, Option, Some, None}
use Rattle.std.specs.Int.{int_max}
use Rattle.std.specs.Ordering.{int_eq}
use Rattle.p10_base.specs.declared.span.Span.{Span}
use Rattle.p10_base.specs.declared.report.TheConstants.Limit.{MOST_SUM}
use Rattle.p10_int.specs.declared.types.IntType.{IntType}
use Rattle.p10_range.specs.Ranges.{Interval, hull_of}
use Rattle.p10_range.specs.Rows.{values_of}
use Rattle.p10_core.specs.Constants.{integer_of}
use Rattle.p10_core.specs.declared.statements.LoopKeyword.{LoopKeyword}
use Rattle.p10_core.specs.Typed.{PlainValue, PlainStatement, statement, loop, PlainStatements, PlainVariable}
use Rattle.p10_cert.specs.declared.claims.Rank.{Rank}
use Rattle.p10_cert.specs.declared.claims.Rank.TheVariants.{One, Task}
use Rattle.p10_cert.specs.Claims.{Var, Loop}
use Rattle.p10_absx.specs.Abstract.{Abstract, only_range}
use Rattle.p10_absx.specs.Environments.{Environment, known}
use Rattle.p10_pass.specs.Scopes.{changed_each}
use Rattle.p10_pass.specs.Claiming.{head_of, ranges_hold, ranges_hold_reached, rank_in, enters_ranked, goes_back_ranked}
use Rattle.p10_pass.specs.Passing.{nowhere, Round, Manner, trial_manner, round_of, pass_statement, pass_statements}
use Rattle.p10_candidates.specs.Candidates.{LoopEntry, Candidate, any_trial, one_candidate, candidates}
use Rattle.p10_candidates.specs.Approaches.{Approach}

-- what one round of a loop gives from a head, where no loop in it has a claim
abbrev pub Rounds : Type 0
Rounds = Environment → Round

-- the rounds of a loop by its parts
abbrev pub trial_rounds : List PlainVariable → LoopKeyword → Option PlainValue → PlainStatements → PlainStatement → Rounds
trial_rounds variables keyword tested third body =
    let m : Manner = trial_manner variables in round_of m keyword tested (λ env. pass_statements m third env) (λ env. pass_statement m body env)

-- no state comes anywhere
abbrev pub no_round : Round
no_round = record { enters = None; back = None; exits = None; body = nowhere; names = [] }

-- the rounds of a loop by its whole statement; a statement that is no loop has none
abbrev pub rounds_in : List PlainVariable → PlainStatement → Rounds
rounds_in variables (statement at (loop head first tested third body)) = trial_rounds variables head.keyword tested third body
rounds_in variables s = λ env. no_round

-- ## Ranges

-- a range together with what may be known
abbrev pub with_known : Interval → Option Abstract → Interval
with_known r None = r
with_known r (Some a) = hull_of r a.range

-- a range together with what a variable has on the ways back, if a state goes back
abbrev pub with_back : Option Environment → ℕ → Interval → Interval
with_back None n r = r
with_back (Some back) n r = with_known r (known back n)

-- what is known at the head of a loop by what is known on its ways back: a variable that the loop assigns has what it has at entry
-- and there, and the others have what they have at entry
abbrev pub head_after : LoopEntry → Option Environment → Environment
head_after l back = changed_each (λ n v a. if l.assigned n then only_range (with_back back n a.range) else a) 0 l.variables l.entry

-- the same by one round from a trial environment
abbrev pub tried_head : Rounds → LoopEntry → Environment → Environment
tried_head round l trial = head_after l (round trial).back

-- whether a range has all values of a type
abbrev pub is_whole_range : IntType → Interval → Bool
is_whole_range kind r = int_eq r.low (values_of kind).low && int_eq r.high (values_of kind).high

-- a line for variable n, if it is known and its range isn't its type's
abbrev pub line_for : ℕ → IntType → Option Abstract → List Var
line_for n kind None = []
line_for n kind (Some a) = if is_whole_range kind a.range then [] else record { var = n; ends = a.range } ∷ []

-- the lines for variables from number n on
abbrev pub lines_from : ℕ → List PlainVariable → Environment → List Var
lines_from n [] env = []
lines_from n (v ∷ variables) env = line_for n (integer_of v.type) (known env n) ++ lines_from (suc n) variables env

-- ## Claims

-- a number of steps, calls, bytes or turns that exceeds the limit M9 counts as one more than it allows
abbrev pub counted : ℕ → ℕ
counted n = min n (MOST_SUM + 1)

-- the turns of a rank by its range at the loop's entry: the greatest; 0 where it is negative
abbrev pub turns_of_rank : Option Interval → ℕ
turns_of_rank None = 0
turns_of_rank (Some r) = counted (unsigned_abs (int_max r.high (pos 0)))

-- the turns of a rank
abbrev pub turns_from : Rank → Environment → ℕ
turns_from rank entry = turns_of_rank (rank_in rank entry)

-- a claim on a loop, by what is known at its head
abbrev pub claim_by : LoopEntry → ℕ → Rank → ℕ → Environment → Loop
claim_by l depth rank turns head = record { depth = depth; rank = rank; turns = turns; vars = lines_from 0 l.variables head }

-- the claim of a candidate
abbrev pub claim_of : Rounds → LoopEntry → ℕ → Candidate → Loop
claim_of round l depth c = claim_by l depth c.rank (turns_from c.rank l.entry) (tried_head round l c.trial)

-- whether a claim stands by itself: its ranges hold at entry and on each way back, and its rank is at least 1 where the body is
-- entered and has fallen on each way back (conditions K6 to K9), where no loop in the body has a claim
abbrev pub stands_alone : Rounds → LoopEntry → Loop → Bool
stands_alone round l claim =
    let r : Round = round (head_of claim l.variables l.entry) in
    (ranges_hold claim 0 l.variables l.entry && ranges_hold_reached claim l.variables r.back) && (enters_ranked claim.rank r.enters && goes_back_ranked claim.rank r.back)

-- the claim of the first candidate that stands by itself
abbrev pub first_standing : Rounds → LoopEntry → ℕ → List Candidate → Option Loop
first_standing round l depth [] = None
first_standing round l depth (c ∷ rest) =
    let claim : Loop = claim_of round l depth c in if stands_alone round l claim then Some claim else first_standing round l depth rest

-- ## Loops

-- what a loop counts with: a claim, the loop's keyword where the claim has no bound of its turns, and where it stands because two variables
-- approach each other, these
pub record LoopFound : Type 0 where
  pub claim : Loop
  pub unbounded : List Span
  pub approach : Option Approach

-- where no candidate's claim stands: each variable that the loop assigns has any value of its type, and the others have what they
-- have at entry
abbrev pub without_bound : Span → LoopEntry → ℕ → LoopFound
without_bound keyword l depth = record { claim = claim_by l depth One 0 (any_trial l); unbounded = keyword ∷ []; approach = None }

-- what a loop counts with by the first claim that stands, if one does
abbrev pub found_by : Span → LoopEntry → ℕ → Option Loop → LoopFound
found_by keyword l depth None = without_bound keyword l depth
found_by keyword l depth (Some claim) = record { claim = claim; unbounded = []; approach = None }

-- a loop that isn't the task
abbrev pub loop_found : Span → Rounds → LoopEntry → ℕ → LoopFound
loop_found keyword round l depth = found_by keyword l depth (first_standing round l depth (candidates l))

-- the task: it has the ranges of the rank 1, and needs no bound of its turns. Its steps are counted when all loops are found
abbrev pub task_found : Rounds → LoopEntry → ℕ → LoopFound
task_found round l depth = record { claim = claim_by l depth Task 0 (tried_head round l (one_candidate l).trial); unbounded = []; approach = None }

-- a loop that no state reaches: each variable may have any value of its type
abbrev pub unreached_found : ℕ → Rank → LoopFound
unreached_found depth rank = record { claim = record { depth = depth; rank = rank; turns = 0; vars = [] }; unbounded = []; approach = None }
