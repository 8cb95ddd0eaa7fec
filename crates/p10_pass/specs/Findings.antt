-- What the public calls of the pass find.
use Rattle.std.specs.Prelude.{ℕ, List, [], map, slice_get, Option, Some, None}
use Rattle.std.specs.Option.{option_map}
use Rattle.p10_range.specs.Ranges.{Interval, interval_of}
use Rattle.p10_core.specs.Typed.{PlainStatement, PlainFunction, PlainProgram}
use Rattle.p10_cert.specs.Claims.{Loop, Func, Claims}
use Rattle.p10_absx.specs.Environments.{Environment}
use Rattle.p10_pass.specs.declared.passed.Passed.{Passed}
use Rattle.p10_pass.specs.Claiming.{head_of, loop_claimed}
use Rattle.p10_pass.specs.Passing.{Failing, Weakness, Left, nowhere, fails_of, manner_of, pass_statement}
use Rattle.p10_pass.specs.Leaving.{values_in, failing_of, weakness_by}

-- for each way in which statements end what is known then, the hull of the ranges that are returned, the failing K3 and K5 to K7 by
-- number and then in text order, and the loops whose ranks don't stand
pub record Findings : Type 0 where
  pub normal : Option Environment
  pub breaks : Option Environment
  pub continues : Option Environment
  pub returns : Option Environment
  pub returned : Option Interval
  pub fails : List Failing
  pub weak : List Weakness

-- what is found of what statements leave
abbrev pub findings_of : Left → Findings
findings_of a = record {
  normal = a.normal;
  breaks = a.breaks;
  continues = a.continues;
  returns = a.returns;
  returned = a.returned;
  fails = fails_of a;
  weak = a.weak;
}

-- what the code finds
abbrev pub findings_in : Passed → Findings
findings_in p = record {
  normal = values_in p.normal;
  breaks = values_in p.breaks;
  continues = values_in p.continues;
  returns = values_in p.returns;
  returned = option_map interval_of p.returned;
  fails = map failing_of p.fails.items;
  weak = map weakness_by p.weak.items;
}

-- what a statement of the function with a number leaves, where a certificate may not stand
abbrev pub passed_at : PlainProgram → Option Claims → ℕ → PlainStatement → Environment → Left
passed_at p c f s env = of (slice_get p.functions f)
  where
    of : Option PlainFunction → Left
    of None = nowhere
    of (Some g) = pass_statement (manner_of g c f) s env

-- the claims of a function's loops
abbrev pub loops_on : Option Func → List Loop
loops_on None = []
loops_on (Some f) = f.loops

-- the environment at the head of a loop by its number, in the function with a number
abbrev pub head_at : PlainProgram → Claims → ℕ → ℕ → Environment → Environment
head_at p c f at entry = of (slice_get p.functions f)
  where
    of : Option PlainFunction → Environment
    of None = entry
    of (Some g) = head_of (loop_claimed (loops_on (slice_get c.funcs f)) at) g.variables entry
