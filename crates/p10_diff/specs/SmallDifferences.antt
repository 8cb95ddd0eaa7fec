-- Loops in which two variables approach each other, written out: which ranks stand.
use Rattle.std.specs.Prelude.{◌≡◌, ℕ, Bool, true, false, List, [], ◌∷◌, ℤ, pos, neg_ℤ, Some, None}
use Rattle.p10_int.specs.declared.operators.BinOp.TheVariants.{Add, Sub, Div, Lt, Gt}
use Rattle.p10_core.specs.declared.statements.LoopKeyword.TheVariants.{While}
use Rattle.p10_core.specs.declared.statements.UpdateKind.TheVariants.{Step}
use Rattle.p10_core.specs.Typed.{PlainValue, binary, single, PlainStatement, update, declare, if_else, loop, statements_of_list, PlainProgram}
use Rattle.p10_meaning.specs.Examples.{span, int, name, get, value_of, does, block_of, returns, assign, int_variable, main_of}
use Rattle.p10_cert.specs.declared.claims.Rank.TheVariants.{One}
use Rattle.p10_cert.specs.Claims.{Loop}
use Rattle.p10_absx.specs.Environments.{Environment}
use Rattle.p10_pass.specs.SmallPasses.{upto, n}
use Rattle.p10_turns.specs.SmallEvidence.{claim, within}
use Rattle.p10_diff.specs.Evidence.{Fact, Rank, stands_by_differences}

-- a value of type `int` by an operator
abbrev pub minus : PlainValue → PlainValue → PlainValue
minus a b = value_of int (binary Sub a b)

abbrev pub sum : PlainValue → PlainValue → PlainValue
sum a b = value_of int (binary Add a b)

-- `lo + (hi - lo) / k`, of variables 0 and 1
abbrev pub middle : ℕ → PlainValue
middle k = sum (get 0 int 0) (value_of int (binary Div (minus (get 0 int 1) (get 0 int 0)) (n k)))

-- `int lo = 0; int hi = 0; while (lo < hi) { int mid = lo + (hi - lo) / 2; if (mid > 40) { hi = mid; } else { lo = mid + z; } }`
abbrev pub searching : ℕ → PlainProgram
searching z = main_of (int_variable ∷ int_variable ∷ int_variable ∷ [])
    (does (declare 0 (single (n 0))) ∷ does (declare 1 (single (n 0))) ∷
    does (loop (record { number = 0; keyword = While; span = span 4 }) (statements_of_list []) (Some (value_of int (binary Lt (get 0 int 0) (get 0 int 1)))) (statements_of_list [])
    (block_of (does (declare 2 (single (middle 2))) ∷
    does (if_else (value_of int (binary Gt (get 0 int 2) (n 40))) (block_of (assign int 1 (get 0 int 2) ∷ [])) (block_of (assign int 0 (sum (get 0 int 2) (n z)) ∷ []))) ∷ []))) ∷
    returns (get 0 int 0) ∷ [])

-- `int i = 0; int j = 0; while (i < j) { i++; j--; }`
abbrev pub meeting : PlainProgram
meeting = main_of (int_variable ∷ int_variable ∷ [])
    (does (declare 0 (single (n 0))) ∷ does (declare 1 (single (n 0))) ∷
    does (loop (record { number = 0; keyword = While; span = span 4 }) (statements_of_list []) (Some (value_of int (binary Lt (get 0 int 0) (get 0 int 1)))) (statements_of_list [])
    (block_of (does (update Step Add int (name 0 int 0) (n 1)) ∷ does (update Step Sub int (name 0 int 1) (n 1)) ∷ []))) ∷
    returns (get 0 int 0) ∷ [])

-- at entry the first lies below a number, and the second too
abbrev pub both_upto : ℕ → Environment
both_upto most = within (upto 0 most) ∷ within (upto 0 most) ∷ []

-- the same where a third variable isn't in scope
abbrev pub searched : ℕ → Environment
searched most = within (upto 0 most) ∷ within (upto 0 most) ∷ None ∷ []

-- the distance from variable 0 up to variable 1, and a number
abbrev pub rank_of : ℤ → Rank
rank_of more = record { function = 0; loop = 0; below = 0; above = 1; more = more; facts = [] }

abbrev pub stands : PlainProgram → Environment → ℕ → Rank → Bool
stands p entry turns r = stands_by_differences (r ∷ []) p 0 0 entry (claim One turns [])

-- which ranks stand
pub record DifferencesAtEdges : Type 0 where
  pub search : stands (searching 1) (searched 100) 100 (rank_of (pos 0)) ≡ true
  pub few_turns : stands (searching 1) (searched 100) 99 (rank_of (pos 0)) ≡ false
  pub less : stands (searching 1) (searched 100) 100 (rank_of (neg_ℤ (pos 1))) ≡ false
  pub no_step : stands (searching 0) (searched 100) 100 (rank_of (pos 0)) ≡ false
  pub other_way : stands (searching 1) (searched 100) 100 (record { function = 0; loop = 0; below = 1; above = 0; more = pos 0; facts = [] }) ≡ false
  pub no_name : stands (searching 1) (searched 100) 100 (record { function = 0; loop = 0; below = 0; above = 2; more = pos 0; facts = [] }) ≡ false
  pub other_loop : stands (searching 1) (searched 100) 100 (record { function = 0; loop = 1; below = 0; above = 1; more = pos 0; facts = [] }) ≡ false
  pub meet : stands meeting (both_upto 9) 9 (rank_of (pos 0)) ≡ true
  pub meet_few : stands meeting (both_upto 9) 8 (rank_of (pos 0)) ≡ false
  -- a fact has to hold at entry by ranges, and again on the way back
  pub fact_holds : stands meeting (both_upto 9) 9 (record { function = 0; loop = 0; below = 0; above = 1; more = pos 0; facts = record { greater = 0; lesser = 1; by = pos 9 } ∷ [] }) ≡ true
  pub fact_at_entry : stands meeting (both_upto 9) 9 (record { function = 0; loop = 0; below = 0; above = 1; more = pos 0; facts = record { greater = 0; lesser = 1; by = pos 8 } ∷ [] }) ≡ false
