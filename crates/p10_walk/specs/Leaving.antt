-- What the code's ends of statements and rounds of loops are, over any domain.
use Rattle.std.specs.Prelude.{Option, Some, None}
use Rattle.std.specs.Option.{option_map}
use Rattle.p10_core.specs.Typed.{PlainStatement, statement, loop}
use Rattle.p10_walk.specs.declared.ends.Ends.{Ends as CodeEnds}
use Rattle.p10_walk.specs.declared.rounds.Round.{Round as CodeRound}
use Rattle.p10_walk.specs.Operations.{Operations}
use Rattle.p10_walk.specs.Walking.{Ends, Round, round_of}

-- ends of the code
abbrev pub ends_of : {E K : Type 0} → (E → K) → CodeEnds E → Ends K
ends_of f a = record { normal = option_map f a.normal; breaks = option_map f a.breaks; continues = option_map f a.continues }

-- a round of the code
abbrev pub round_by : {E K : Type 0} → (E → K) → CodeRound E → Round K
round_by f r = record { enters = option_map f r.enters; back = option_map f r.back }

-- the round of a loop from what is known at its head; a statement that is no loop has none
abbrev pub round_at : {K : Type 0} → Operations K → PlainStatement → K → Option (Round K)
round_at o (statement at (loop head first tested third body)) h = Some (round_of o head.keyword tested third body h)
round_at o s h = None
