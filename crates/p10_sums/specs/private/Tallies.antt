-- What a walk over trees keeps of them: steps up to one more than the greatest sum, and what the calls in them are claimed to do.
use Rattle.std.specs.Prelude.{ℕ, ◌+◌, ◌*◌, max, min, false, ◌||◌, map, Option}
use Rattle.p10_base.specs.declared.report.TheConstants.Limit.{MOST_SUM}
use Rattle.p10_core.specs.Types.{PlainType}
use Rattle.p10_core.specs.Views.{plain_program, plain_variable}
use Rattle.p10_core.specs.declared.typed.Library.{Library}
use Rattle.p10_cert.specs.Claims.{Func, func_of, loop_of}
use Rattle.p10_meaning.specs.Values.{width}
use Rattle.p10_core.specs.Uses.{manages_memory}
use Rattle.p10_sums.specs.declared.basis.Basis.{Basis}
use Rattle.p10_sums.specs.declared.tally.Tally.{Tally}
use Rattle.p10_sums.specs.Counting.{Counting, steps_claimed, calls_claimed, bytes_claimed, alloc_claimed}

-- what the code counts under
abbrev pub counting_by : Basis → Counting
counting_by b = record {
  program = plain_program b.program.now;
  variables = map plain_variable b.variables.now;
  functions = map func_of b.functions.now;
  loops = map loop_of b.loops.now;
}

-- a number, or the least that is too great
unfoldable pub capped : ℕ → ℕ
capped n = min n (MOST_SUM + 1)

-- nothing
unfoldable pub no_tally : Tally
no_tally = record { steps = 0; calls = 0; bytes = 0; alloc = false }

-- steps alone
unfoldable pub some_steps : ℕ → Tally
some_steps n = record { steps = capped n; calls = 0; bytes = 0; alloc = false }

-- one after the other
unfoldable pub in_turn : Tally → Tally → Tally
in_turn a b = record { steps = capped (a.steps + b.steps); calls = max a.calls b.calls; bytes = max a.bytes b.bytes; alloc = a.alloc || b.alloc }

-- one or the other
unfoldable pub one_of : Tally → Tally → Tally
one_of a b = record { steps = max a.steps b.steps; calls = max a.calls b.calls; bytes = max a.bytes b.bytes; alloc = a.alloc || b.alloc }

-- the same n times
unfoldable pub as_often : ℕ → Tally → Tally
as_often n a = record a { steps = capped (n * a.steps) }

-- a callee
unfoldable pub of_callee : Option Func → Tally
of_callee f = record { steps = capped (steps_claimed f); calls = calls_claimed f; bytes = bytes_claimed f; alloc = alloc_claimed f }

-- the step of a call of a library function
unfoldable pub of_library : Library → Tally
of_library l = record { steps = 1; calls = 0; bytes = 0; alloc = manages_memory l }

-- a step for each scalar of a type
abbrev pub of_width : Counting → PlainType → Tally
of_width c t = some_steps (width c.program t)
