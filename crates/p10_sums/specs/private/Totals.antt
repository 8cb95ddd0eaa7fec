-- What the code has counted of a function when it is done.
use Rattle.std.specs.Prelude.{◌≡◌, false, Option, Some, None}
use Rattle.p10_core.specs.Typed.{PlainValue}
use Rattle.p10_meaning.specs.Runs.{Task}
use Rattle.p10_sums.specs.declared.sum.FuncSum.{FuncSum}
use Rattle.p10_sums.specs.declared.tally.Tally.{Tally}
use Rattle.p10_base.specs.declared.report.TheConstants.Limit.{SUM}
use Rattle.p10_sums.specs.declared.sum.SumFault.{SumFault}
use Rattle.p10_sums.specs.declared.sum.SumFault.TheVariants.{Over, Memory}
use Rattle.p10_sums.specs.Counting.{Counting}
use Rattle.p10_sums.specs.Sums.{keeps_limit}
use Rattle.p10_sums.specs.private.Tallies.{capped, no_tally, in_turn}
use Rattle.p10_sums.specs.private.Walks.{value_tally, statement_tally}

-- the sums, each up to one more than the greatest that is allowed
unfoldable pub capped_sum : FuncSum → FuncSum
capped_sum s = record { steps = capped s.steps; calls = capped s.calls; bytes = capped s.bytes; alloc = s.alloc; turn = capped s.turn }

-- the test of a task loop, if it has one
abbrev pub task_test_tally : Counting → Option PlainValue → Tally
task_test_tally c None = no_tally
task_test_tally c (Some v) = value_tally c v

-- a turn of a task loop
abbrev pub turn_tally : Counting → Option Task → Tally
turn_tally c None = no_tally
turn_tally c (Some task) = in_turn (task_test_tally c task.tested) (statement_tally c task.body)

-- why a sum isn't put down
abbrev pub IsFaultAt : FuncSum → SumFault → Type 0
IsFaultAt s (Over limit) = (limit ≡ SUM) × (keeps_limit s ≡ false)
IsFaultAt s Memory = Unit {0}
