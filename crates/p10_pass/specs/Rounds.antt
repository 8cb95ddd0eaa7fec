-- One round of a loop, for those who look for its claim.
use Rattle.std.specs.Prelude.{Option, Some, None}
use Rattle.p10_core.specs.Typed.{PlainStatement, statement, loop}
use Rattle.p10_absx.specs.Environments.{Environment}
use Rattle.p10_pass.specs.declared.rounds.Round.{Round as CodeRound}
use Rattle.p10_pass.specs.Leaving.{values_in, left_of}
use Rattle.p10_pass.specs.Passing.{Manner, Round, round_of, pass_statement, pass_statements}

-- the round of a loop from an environment at its head; a statement that is no loop has none
abbrev pub round_at : Manner → PlainStatement → Environment → Option Round
round_at m (statement at (loop head first tested third body)) env =
    Some (round_of m head.keyword tested (λ env. pass_statements m third env) (λ env. pass_statement m body env) env)
round_at m s env = None

-- a round of the code
abbrev pub round_by : CodeRound → Round
round_by r = record { enters = values_in r.enters; back = values_in r.back; exits = values_in r.exits; body = left_of r.body; names = r.names.items }
