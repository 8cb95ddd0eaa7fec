-- What the code's settings are, and the rows of statements that hold others, as the code comes to them.
use Rattle.std.specs.Option.{option_map}
use Rattle.std.specs.Prelude.{List, None}
use Rattle.p10_core.specs.Typed.{PlainValue, value, PlainPlace, place, PlainStatement, statement, if_then, if_else, loop}
use Rattle.p10_absx.specs.Environments.{Environment}
use Rattle.p10_pass.specs.Passing.{Manner}
use Rattle.p10_clean.specs.declared.flaw.Flaw.{Flaw}
use Rattle.p10_clean.specs.declared.settings.Settings.{Settings as CodeSettings}
use Rattle.p10_clean.specs.declared.ways.Ways.{Ways as CodeWays}
use Rattle.p10_clean.specs.Settings.{Settings, Ways, goes_on, ways_of_form}
use Rattle.p10_clean.specs.Values.{value_flaws, place_flaws, flaws_in_form, flaws_in_place_form}

-- settings of the code
abbrev pub settings_of : CodeSettings → Settings
settings_of s = option_map (λ marks. marks.items) s.marks

-- ends of the code
abbrev pub ways_by : CodeWays → Ways
ways_by w = record { normal = settings_of w.normal; breaks = settings_of w.breaks; continues = settings_of w.continues }

-- the row of `if`; nothing is set by another statement
abbrev pub branch_ways : PlainStatement → Settings → Ways
branch_ways (statement at (if_then v s)) before = ways_of_form (if_then v s) before
branch_ways (statement at (if_else v s t)) before = ways_of_form (if_else v s t) before
branch_ways s before = goes_on before

-- the row of loops
abbrev pub loop_ways : PlainStatement → Settings → Ways
loop_ways (statement at (loop head first tested third body)) before = ways_of_form (loop head first tested third body) before
loop_ways s before = goes_on before

-- the one way is by a `break`
abbrev pub broken_ways : Settings → Ways
broken_ways before = record { normal = None; breaks = before; continues = None }

-- the one way is by a `continue`
abbrev pub continued_ways : Settings → Ways
continued_ways before = record { normal = None; breaks = None; continues = before }

-- without the way to the next statement
abbrev pub without_normal : Ways → Ways
without_normal w = record w { normal = None }

-- the flaws of a value itself
abbrev pub own_flaws : Manner → Settings → PlainValue → Environment → List Flaw
own_flaws m before (value at t form) env = value_flaws m before at t form env

-- the flaws in its parts
abbrev pub parts_flaws : Manner → Settings → PlainValue → Environment → List Flaw
parts_flaws m before (value at t form) env = flaws_in_form m before form env

-- the flaws of a place itself
abbrev pub place_own_flaws : Manner → PlainPlace → Environment → List Flaw
place_own_flaws m (place at t form) env = place_flaws m at form env

-- the flaws in its parts
abbrev pub place_parts_flaws : Manner → Settings → PlainPlace → Environment → List Flaw
place_parts_flaws m before (place at t form) env = flaws_in_place_form m before form env
