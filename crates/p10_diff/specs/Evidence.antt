-- The evidence of differences: when a line of a certificate bounds a loop's turns by the distance of two variables.
use Rattle.std.specs.Prelude.{ℕ, suc, nat_eq, nat_lt, ◌&&◌, ◌||◌, if◌then◌else◌, Bool, true, false, is_none, is_some, List, [], ◌∷◌, slice_get, ℤ, pos, neg_ℤ, ◌-ℤ◌, Option, Some, None}
use Rattle.p10_core.specs.Typed.{PlainInitializer, not_initialized, PlainStatement, statement, PlainStatementForm, declare, block, if_then, if_else, loop, switch, PlainStatements, no_statements, more_statements, PlainVariable, PlainFunction, PlainProgram}
use Rattle.p10_cert.specs.Claims.{Loop}
use Rattle.p10_absx.specs.Abstract.{Abstract}
use Rattle.p10_absx.specs.Environments.{Environment, known}
use Rattle.p10_pass.specs.Claiming.{head_of, ranges_hold}
use Rattle.p10_turns.specs.LoopParts.{LoopParts, loops_among}
use Rattle.p10_turns.specs.Evidence.{stands_by_ranges}
use Rattle.p10_walk.specs.Walking.{Round}
use Rattle.p10_walk.specs.Turns.{round_from}
use Rattle.p10_diff.specs.Bounds.{plus, is_at_most}
use Rattle.p10_diff.specs.Differences.{Name, now, was, Pair, has_name, Differences, unbounded, range_named, top, bottom, bound, fallen, learned_bound}
use Rattle.p10_diff.specs.Domain.{differences}

-- ## What a certificate says

-- a fact: of two variables, the first is greater than the second by at most a number
pub record Fact : Type 0 where
  pub greater : ℕ
  pub lesser : ℕ
  pub by : ℤ

-- a rank: in a function's loop, by their numbers, the distance from one variable up to another, and a number, with facts that hold at each head
pub record Rank : Type 0 where
  pub function : ℕ
  pub loop : ℕ
  pub below : ℕ
  pub above : ℕ
  pub more : ℤ
  pub facts : List Fact

-- the rank of a loop, if there is one
abbrev pub rank_for : List Rank → ℕ → ℕ → Option Rank
rank_for [] number k = None
rank_for (r ∷ ranks) number k = if nat_eq r.function number && nat_eq r.loop k then Some r else rank_for ranks number k

-- ## Variables that may be named

-- whether an initialiser is there
abbrev pub is_given : PlainInitializer → Bool
is_given not_initialized = false
is_given initializer = true

abbrev mutual
  -- whether a variable is declared with a value
  pub gives_value : ℕ → PlainStatement → Bool
  gives_value n (statement at form) = form_gives_value n form

  -- the same of a form of statement
  pub form_gives_value : ℕ → PlainStatementForm → Bool
  form_gives_value n (declare m initializer) = nat_eq n m && is_given initializer
  form_gives_value n (block ss) = any_gives_value n ss
  form_gives_value n (if_then v s) = gives_value n s
  form_gives_value n (if_else v s t) = gives_value n s || gives_value n t
  form_gives_value n (loop head first test third body) = any_gives_value n first || gives_value n body
  form_gives_value n (switch keyword v labels body) = gives_value n body
  form_gives_value n form = false

  -- the same of statements, one after the other
  pub any_gives_value : ℕ → PlainStatements → Bool
  any_gives_value n no_statements = false
  any_gives_value n (more_statements s rest) = gives_value n s || any_gives_value n rest

-- whether a variable may be named where an environment is known: it has a name, is in scope, and is a parameter or declared with a value
abbrev pub may_be_named : PlainFunction → Pair → Environment → ℕ → Bool
may_be_named f p entry n = has_name p n && (is_some (known entry n) && (nat_lt n f.parameters || any_gives_value n f.body))

abbrev pub facts_may_be : PlainFunction → Pair → Environment → List Fact → Bool
facts_may_be f p entry [] = true
facts_may_be f p entry (x ∷ facts) = (may_be_named f p entry x.greater && may_be_named f p entry x.lesser) && facts_may_be f p entry facts

-- ## At the head, and again

-- the two variables that a rank names, and what is known at the head under a claim
abbrev pub pair_of : PlainFunction → Loop → Environment → Rank → Pair
pair_of f claim entry r = record { variables = f.variables; below = r.below; above = r.above; head = head_of claim f.variables entry }

-- what facts say
abbrev pub facts_learned : List Fact → (Name → Name → Option ℤ) → Name → Name → Option ℤ
facts_learned [] bounds = bounds
facts_learned (x ∷ facts) bounds = learned_bound (now x.greater) (now x.lesser) x.by (facts_learned facts bounds)

-- a variable is what it was
abbrev pub still : ℕ → (Name → Name → Option ℤ) → Name → Name → Option ℤ
still n bounds = learned_bound (now n) (was n) (pos 0) (learned_bound (was n) (now n) (pos 0) bounds)

-- what is known at the head
abbrev pub at_head : Pair → List Fact → Differences
at_head p facts = record { ranges = p.head; bounds = still p.below (still p.above (facts_learned facts unbounded)); fall = None }

-- whether facts hold
abbrev pub facts_hold : Pair → List Fact → Differences → Bool
facts_hold p [] e = true
facts_hold p (x ∷ facts) e = is_at_most (bound p e (now x.greater) (now x.lesser)) x.by && facts_hold p facts e

-- ranges alone
abbrev pub only_ranges : Environment → Differences
only_ranges ranges = record { ranges = ranges; bounds = unbounded; fall = None }

-- whether a variable that is in scope in one environment is so in another one
abbrev pub stays : Option Abstract → Option Abstract → Bool
stays known_before known_after = is_none known_before || is_some known_after

-- the same of each variable, from a number on
abbrev pub stay_in_scope : ℕ → List PlainVariable → Environment → Environment → Bool
stay_in_scope n [] head env = true
stay_in_scope n (v ∷ variables) head env = stays (known head n) (known env n) && stay_in_scope (suc n) variables head env

-- ## The evidence

-- something holds where states come, if any do
abbrev pub where_coming : Option Differences → (Differences → Bool) → Bool
where_coming None test = true
where_coming (Some e) test = test e

-- on a way back the claimed ranges hold again of all variables in scope (K7), the facts do, and the distance has fallen (K9)
abbrev pub comes_back : Pair → Loop → List Fact → Differences → Bool
comes_back p claim facts e =
    (ranges_hold claim 0 p.variables e.ranges && stay_in_scope 0 p.variables p.head e.ranges) && (facts_hold p facts e && is_at_most (fallen p e) (neg_ℤ (pos 1)))

-- where the body is entered the rank is at least 1 (K8)
abbrev pub is_positive : Pair → ℤ → Differences → Bool
is_positive p more e = is_at_most (bound p e (now p.below) (now p.above)) (more -ℤ pos 1)

-- the turns are at least the rank at entry (K10)
abbrev pub is_enough : Pair → ℤ → ℕ → Environment → Bool
is_enough p more turns entry = is_at_most (plus (plus (top (range_named p entry (now p.above))) (bottom (range_named p entry (now p.below)))) (Some more)) (pos turns)

-- at entry the claimed ranges (K6) and the facts hold, and the turns are enough
abbrev pub enters_so : Pair → Loop → Rank → Environment → Bool
enters_so p claim r entry = (ranges_hold claim 0 p.variables entry && facts_hold p r.facts (only_ranges entry)) && is_enough p r.more claim.turns entry

-- in a round from the head the rank is positive, and falls
abbrev pub turns_so : Pair → Loop → Rank → Round Differences → Bool
turns_so p claim r round = where_coming round.enters (is_positive p r.more) && where_coming round.back (comes_back p claim r.facts)

-- whether a rank stands for a loop of a function, from an entry environment, under a claim
abbrev pub rank_stands : PlainFunction → LoopParts → Environment → Loop → Rank → Bool
rank_stands f l entry claim r =
    let p : Pair = pair_of f claim entry r in
    ((may_be_named f p entry r.below && may_be_named f p entry r.above) && facts_may_be f p entry r.facts)
    && (enters_so p claim r entry && turns_so p claim r (round_from (differences p) l (at_head p r.facts)))

-- the same of a loop, a function and a rank that may be lacking
abbrev pub loop_stands : PlainFunction → Option LoopParts → Environment → Loop → Option Rank → Bool
loop_stands f (Some l) entry claim (Some r) = rank_stands f l entry claim r
loop_stands f l entry claim r = false

abbrev pub stands_in : Option PlainFunction → ℕ → Environment → Loop → Option Rank → Bool
stands_in None k entry claim r = false
stands_in (Some f) k entry claim r = loop_stands f (slice_get (loops_among f.body) k) entry claim r

-- for which function and loop, by their numbers, for which entry environment and which claim the evidence of differences stands: where that of
-- ranges does, or the loop's rank
abbrev pub stands_by_differences : List Rank → PlainProgram → ℕ → ℕ → Environment → Loop → Bool
stands_by_differences ranks p number k entry claim =
    stands_by_ranges p number k entry claim || stands_in (slice_get p.functions number) k entry claim (rank_for ranks number k)
