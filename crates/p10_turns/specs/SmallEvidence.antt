-- Claims of loops in small functions, written out: for which of them the evidence of ranges stands.
use Rattle.std.specs.Prelude.{◌≡◌, ℕ, Bool, true, false, List, [], ◌∷◌, pos, Option, Some}
use Rattle.p10_range.specs.Ranges.{Interval}
use Rattle.p10_int.specs.declared.types.IntType.TheVariants.{Int}
use Rattle.p10_int.specs.declared.operators.BinOp.TheVariants.{Add, Sub, Lt, Gt}
use Rattle.p10_core.specs.declared.statements.LoopKeyword.TheVariants.{While, Do}
use Rattle.p10_core.specs.declared.statements.UpdateKind.TheVariants.{Step}
use Rattle.p10_core.specs.Typed.{binary, PlainStatement, update, loop, statements_of_list, PlainProgram}
use Rattle.p10_meaning.specs.Examples.{span, int, name, get, value_of, does, block_of, returns, int_variable, main_of}
use Rattle.p10_cert.specs.declared.claims.Rank.{Rank}
use Rattle.p10_cert.specs.declared.claims.Rank.TheVariants.{Up, Down, One, Task}
use Rattle.p10_cert.specs.Claims.{Var, Loop}
use Rattle.p10_absx.specs.Abstract.{Abstract, only_range, whole_type}
use Rattle.p10_absx.specs.Environments.{Environment}
use Rattle.p10_pass.specs.SmallPasses.{upto, n, line, counting, stuck, wrapping, turning}
use Rattle.p10_turns.specs.Evidence.{stands_by_ranges}

-- ## Builders

-- a claim on a loop
abbrev pub claim : Rank → ℕ → List Var → Loop
claim rank turns vars = record { depth = 0; rank = rank; turns = turns; vars = vars }

-- a variable that lies in a range at entry, and one that may have any value of type `int`
abbrev pub within : Interval → Option Abstract
within r = Some (only_range r)

abbrev pub any_int : Option Abstract
any_int = Some (whole_type Int)

-- ## Loops of one variable: `counting` has `for (i = 0; i < 10; i++) { s += 2; }` with i of one byte, `stuck` may `continue` before `i++`,
-- in `wrapping` i goes from 255 to 0, and `turning` is a task loop

abbrev pub counts_by : Rank → ℕ → Interval → Environment → Bool
counts_by rank turns i entry = stands_by_ranges counting 0 0 entry (claim rank turns (line 1 i ∷ []))

abbrev pub from_zero : Environment
from_zero = within (upto 0 0) ∷ within (upto 0 0) ∷ []

-- `do { i--; } while (i > 0);`
abbrev pub counting_down : PlainProgram
counting_down = main_of (int_variable ∷ [])
    (does (loop (record { number = 0; keyword = Do; span = span 4 }) (statements_of_list []) (Some (value_of int (binary Gt (get 0 int 0) (n 0)))) (statements_of_list [])
    (block_of (does (update Step Sub int (name 0 int 0) (n 1)) ∷ []))) ∷
    returns (n 0) ∷ [])

-- ## Loops in loops: `while (i < 10) { while (j < 10) { v++; } i++; }`, where v is i or j

abbrev pub step_of : ℕ → PlainStatement
step_of v = does (update Step Add int (name 0 int v) (n 1))

abbrev pub while_below : ℕ → ℕ → List PlainStatement → PlainStatement
while_below number v body = does (loop (record { number = number; keyword = While; span = span number }) (statements_of_list []) (Some (value_of int (binary Lt (get 0 int v) (n 10)))) (statements_of_list []) (block_of body))

abbrev pub nested : ℕ → PlainProgram
nested v = main_of (int_variable ∷ int_variable ∷ []) (while_below 0 0 (while_below 1 1 (step_of v ∷ []) ∷ step_of 0 ∷ []) ∷ returns (n 0) ∷ [])

-- which claims stand
pub record EvidenceAtEdges : Type 0 where
  pub counted : counts_by (Up 1 (pos 10)) 10 (upto 0 10) from_zero ≡ true
  pub few_turns : counts_by (Up 1 (pos 10)) 9 (upto 0 10) from_zero ≡ false
  pub low_bound : counts_by (Up 1 (pos 9)) 10 (upto 0 10) from_zero ≡ false
  pub wrong_way : counts_by (Down 1 (pos 0)) 10 (upto 0 10) from_zero ≡ false
  pub entry_out : counts_by (Up 1 (pos 10)) 10 (upto 1 10) from_zero ≡ false
  pub back_out : counts_by (Up 1 (pos 10)) 10 (upto 0 9) from_zero ≡ false
  pub turns_again : counts_by One 1 (upto 0 10) from_zero ≡ false
  pub later_entry : counts_by (Up 1 (pos 10)) 3 (upto 0 10) (any_int ∷ within (upto 7 9) ∷ []) ≡ true
  pub continued : stands_by_ranges stuck 0 0 (within (upto 0 0) ∷ any_int ∷ []) (claim (Up 0 (pos 10)) 10 []) ≡ false
  pub never_continued : stands_by_ranges stuck 0 0 (within (upto 0 0) ∷ within (upto 0 0) ∷ []) (claim (Up 0 (pos 10)) 10 (line 0 (upto 0 10) ∷ line 1 (upto 0 0) ∷ [])) ≡ true
  pub wraps : stands_by_ranges wrapping 0 0 (within (upto 0 0) ∷ []) (claim (Up 0 (pos 256)) 256 (line 0 (upto 0 255) ∷ [])) ≡ false
  pub task : stands_by_ranges turning 0 0 (within (upto 0 0) ∷ []) (claim Task 13 []) ≡ false
  -- a `do` enters its body before its first test
  pub down : stands_by_ranges counting_down 0 0 (within (upto 1 5) ∷ []) (claim (Down 0 (pos 0)) 5 (line 0 (upto 1 5) ∷ [])) ≡ true
  pub down_from_zero : stands_by_ranges counting_down 0 0 (within (upto 0 5) ∷ []) (claim (Down 0 (pos 0)) 5 (line 0 (upto 0 5) ∷ [])) ≡ false
  -- an inner loop gives any value to what it assigns, whatever is claimed of it
  pub outer : stands_by_ranges (nested 1) 0 0 (within (upto 0 0) ∷ any_int ∷ []) (claim (Up 0 (pos 10)) 10 (line 0 (upto 0 10) ∷ [])) ≡ true
  pub moved_inside : stands_by_ranges (nested 0) 0 0 (within (upto 0 0) ∷ any_int ∷ []) (claim (Up 0 (pos 10)) 10 []) ≡ false
  pub inner : stands_by_ranges (nested 1) 0 1 (any_int ∷ within (upto 0 0) ∷ []) (claim (Up 1 (pos 10)) 10 (line 1 (upto 0 10) ∷ [])) ≡ true
  -- of what isn't there nothing stands
  pub no_loop : stands_by_ranges (nested 1) 0 2 [] (claim One 1 []) ≡ false
  pub no_function : stands_by_ranges (nested 1) 1 0 [] (claim One 1 []) ≡ false
