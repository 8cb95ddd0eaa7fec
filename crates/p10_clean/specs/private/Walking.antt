-- The rows of statements that hold others, as the code comes to them; nothing is put of other statements.
use Rattle.std.specs.Prelude.{false, List, [], Option, Some, None}
use Rattle.p10_core.specs.Typed.{PlainValue, PlainStatement, statement, if_then, if_else, loop, switch}
use Rattle.p10_absx.specs.Environments.{Environment}
use Rattle.p10_absx.specs.Assessing.{assess, known_where}
use Rattle.p10_pass.specs.Arguments.{where_reached}
use Rattle.p10_pass.specs.Passing.{Manner, pass_statement}
use Rattle.p10_clean.specs.declared.flaw.Flaw.{Flaw}
use Rattle.p10_clean.specs.Settings.{Settings, ways_of}
use Rattle.p10_clean.specs.Statements.{head_env, round_flaws, flaws_in_statement, flaws_in_statements, flaws_in_statement_form}

-- the row of `if`
abbrev pub branch_flaws : Manner → PlainStatement → Settings → Environment → List Flaw
branch_flaws m (statement at (if_then v s)) before env = flaws_in_statement_form m at (if_then v s) before env
branch_flaws m (statement at (if_else v s t)) before env = flaws_in_statement_form m at (if_else v s t) before env
branch_flaws m s before env = []

-- the branch of an `if` that is executed where its test is false, if there is one
abbrev pub otherwise_flaws : Manner → PlainValue → Option PlainStatement → Settings → Environment → List Flaw
otherwise_flaws m v None before env = []
otherwise_flaws m v (Some t) before env = where_reached (known_where false env (assess m.calls v env)) (λ env. flaws_in_statement m t before env)

-- the row of loops
abbrev pub loop_flaws : Manner → PlainStatement → Settings → Environment → List Flaw
loop_flaws m (statement at (loop head first tested third body)) before env = flaws_in_statement_form m at (loop head first tested third body) before env
loop_flaws m s before env = []

-- the row of `switch`
abbrev pub switch_flaws : Manner → PlainStatement → Settings → Environment → List Flaw
switch_flaws m (statement at (switch keyword v labels body)) before env = flaws_in_statement_form m at (switch keyword v labels body) before env
switch_flaws m s before env = []

-- a loop from its head on, after its first clause
abbrev pub headed_flaws : Manner → PlainStatement → Settings → Environment → List Flaw
headed_flaws m (statement at (loop head first tested third body)) entry top =
    round_flaws m head.keyword tested (λ env settings. flaws_in_statements m third settings env) (λ env settings. flaws_in_statement m body settings env)
    (λ env. pass_statement m body env) entry (ways_of body entry) top
headed_flaws m s entry top = []

-- the same from its entry on
abbrev pub entered_flaws : Manner → PlainStatement → Settings → Environment → List Flaw
entered_flaws m (statement at (loop head first tested third body)) entry known =
    headed_flaws m (statement at (loop head first tested third body)) entry (head_env m head known)
entered_flaws m s entry known = []
