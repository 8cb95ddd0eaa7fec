-- Claims whose sums are counted, each after those of the functions that are called.
use Rattle.std.specs.Prelude.{◌≡◌, ℕ, ◌+◌, ◌<◌, ◌≤◌, false, List, [], ◌∷◌, map, length, slice_get, slice_set, slice_index, Option, Some, None}
use Rattle.p10_base.specs.declared.report.TheConstants.Limit.{MOST_SUM}
use Rattle.p10_core.specs.Typed.{PlainFunction, PlainProgram}
use Rattle.p10_core.specs.Views.{plain_program}
use Rattle.p10_core.specs.WholePrograms.{parameter_types, IsWholeProgram}
use Rattle.p10_calls.specs.CallGraphs.{call_graph}
use Rattle.p10_calls.specs.Ranks.{AreRanks}
use Rattle.p10_cert.specs.declared.claims.Rank.{Rank}
use Rattle.p10_cert.specs.declared.claims.Rank.TheVariants.{Task}
use Rattle.p10_cert.specs.Claims.{Value, Loop, Func, Claims, claims_of}
use Rattle.p10_sums.specs.declared.sum.FuncSum.{FuncSum}
use Rattle.p10_sums.specs.Sums.{sum_at}
use Rattle.p10_finder.specs.declared.counting.Ranked.{Ranked}
use Rattle.p10_finder.specs.Functions.{any_value, loops_of, result_of, with_turn_steps, counted_sum}
use Rattle.p10_finder.specs.private.Visiting.{AreCalls}
use Rattle.p10_approach.specs.Offers.{Offers, offers_if}

-- ## Before the sums are counted

-- the result that is claimed of a function, or any value of its type where nothing is claimed
abbrev pub result_in : Option Func → PlainFunction → Value
result_in None f = any_value f.result
result_in (Some claim) f = claim.result

-- what is claimed of a function with a rank before its sums are counted, by its loops and its result
abbrev pub unsummed_by : List Loop → Value → ℕ → PlainFunction → Func
unsummed_by loops result rank f = record {
  name = f.name;
  rank = rank;
  steps = 0;
  calls = 0;
  bytes = 0;
  alloc = false;
  params = map any_value (parameter_types f);
  result = result;
  loops = loops;
}

-- the same for the function with a number
abbrev pub unsummed : Offers → PlainProgram → Claims → ℕ → ℕ → PlainFunction → Func
unsummed o p c n rank f = unsummed_by (loops_of o p c n f).claims (result_of o p c n f) rank f

-- the same for all functions
pub record AreUnsummed (o : Offers) (p : PlainProgram) (c : Claims) (ranks : List ℕ) (funcs : List Func) : Type 0 where
  pub each : length funcs ≡ length p.functions
  pub claims : (n : ℕ) (f : PlainFunction) → slice_get p.functions n ≡ Some f → slice_get funcs n ≡ Some (unsummed o p c n (slice_index ranks n) f)

-- the ranks are those of the program, and the claims are those that are found where they themselves stand
pub record IsRanked (r : Ranked) : Type 0 where
  pub whole : IsWholeProgram (plain_program r.calls.program.now)
  pub calls : AreCalls r.calls
  pub ranks : AreRanks (call_graph (plain_program r.calls.program.now)) r.ranks.now
  pub claims : AreUnsummed (offers_if r.calls.approaching) (plain_program r.calls.program.now) (claims_of r.claims.now) r.ranks.now (claims_of r.claims.now).funcs

-- ## With sums

-- the turns of a loop of a rank, or the steps of a turn of the task
abbrev pub turns_by : Rank → ℕ → ℕ → ℕ
turns_by Task turns steps = steps
turns_by rank turns steps = turns

-- a claim with a sum
abbrev pub with_sum : FuncSum → Func → Func
with_sum sum claim = record claim { steps = sum.steps; calls = sum.calls; bytes = sum.bytes; alloc = sum.alloc; loops = map (with_turn_steps sum.turn) claim.loops }

-- claims with a sum for each
abbrev pub with_sums : List Func → List FuncSum → List Func
with_sums [] sums = []
with_sums (claim ∷ rest) [] = []
with_sums (claim ∷ rest) (sum ∷ sums) = with_sum sum claim ∷ with_sums rest sums

-- the sum of a function before it is counted
abbrev pub first_sum : FuncSum
first_sum = record { steps = 0; calls = 0; bytes = 0; alloc = false; turn = MOST_SUM + 1 }

-- ## Counting

-- the sums after that of the function with a number is counted where the others stand
abbrev pub counted_once : PlainProgram → List Func → ℕ → List FuncSum → List FuncSum
counted_once p funcs n sums = slice_set sums n (counted_sum (sum_at p (with_sums funcs sums) n))

-- the sum of the function with a number is the one that is counted where the others stand
abbrev pub IsSum : PlainProgram → Claims → List FuncSum → ℕ → Type 0
IsSum p c sums n = slice_get sums n ≡ Some (counted_sum (sum_at p (with_sums c.funcs sums) n))

-- the sums of functions with smaller numbers are counted, and the others not yet
pub record AreSumsBelow (p : PlainProgram) (c : Claims) (numbers : List ℕ) (k : ℕ) (sums : List FuncSum) : Type 0 where
  pub each : length sums ≡ length p.functions
  pub counted : (n : ℕ) → n < length p.functions → slice_index numbers n < k → IsSum p c sums n
  pub first : (n : ℕ) → n < length p.functions → k ≤ slice_index numbers n → slice_get sums n ≡ Some first_sum

-- the sums of all functions
pub record AreSums (p : PlainProgram) (c : Claims) (sums : List FuncSum) : Type 0 where
  pub each : length sums ≡ length p.functions
  pub counted : (n : ℕ) → n < length p.functions → IsSum p c sums n

-- claims on functions have sums, of which those of smaller numbers are counted
pub record IsCounting (r : Ranked) (k : ℕ) (funcs : List Func) (sums : List FuncSum) : Type 0 where
  pub claims : funcs ≡ with_sums (claims_of r.claims.now).funcs sums
  pub below : AreSumsBelow (plain_program r.calls.program.now) (claims_of r.claims.now) r.calls.numbers.now k sums

-- claims on functions have sums, of which that of one function was counted twice
pub record IsCountedTwice (r : Ranked) (n : ℕ) (old : List FuncSum) (funcs : List Func) (new : List FuncSum) : Type 0 where
  pub claims : funcs ≡ with_sums (claims_of r.claims.now).funcs new
  pub sums : new ≡ counted_once (plain_program r.calls.program.now) (claims_of r.claims.now).funcs n (counted_once (plain_program r.calls.program.now) (claims_of r.claims.now).funcs n old)

-- claims on functions have the sums that are counted
pub record IsCounted (r : Ranked) (funcs : List Func) (sums : List FuncSum) : Type 0 where
  pub claims : funcs ≡ with_sums (claims_of r.claims.now).funcs sums
  pub right : AreSums (plain_program r.calls.program.now) (claims_of r.claims.now) sums
