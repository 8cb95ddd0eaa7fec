-- Rows of the walk, as the code's functions speak of them.
use Rattle.std.specs.Prelude.{true, false, Option, Some, None}
use Rattle.p10_core.specs.Typed.{PlainStatement, statement, if_then, if_else, PlainStatements}
use Rattle.p10_meaning.specs.Variables.{may_change}
use Rattle.p10_walk.specs.Operations.{Operations}
use Rattle.p10_walk.specs.Walking.{Ends, nowhere, reached, where_going, beside, as_block, Round, walk, walk_all}

-- a block
abbrev pub block_walked : {K : Type 0} → Operations K → PlainStatements → K → Ends K
block_walked o ss e = as_block o ss (walk_all o ss (reached (Some e)))

-- an `if`; another statement leaves nothing
abbrev pub if_walked : {K : Type 0} → Operations K → PlainStatement → K → Ends K
if_walked o (statement at (if_then v s)) e = beside o (where_going (o.assume true v e) (λ e. walk o s e)) (reached (o.assume false v e))
if_walked o (statement at (if_else v s t)) e = beside o (where_going (o.assume true v e) (λ e. walk o s e)) (where_going (o.assume false v e) (λ e. walk o t e))
if_walked o s e = nowhere

-- the second branch of an `if`; without one, what comes to it
abbrev pub else_walked : {K : Type 0} → Operations K → Option PlainStatement → Option K → Ends K
else_walked o None e = reached e
else_walked o (Some s) e = where_going e (walk o s)

-- an inner loop
abbrev pub loop_walked : {K : Type 0} → Operations K → PlainStatement → K → Ends K
loop_walked o s e = reached (Some (o.forget (λ n. may_change n s) e))

-- a round whose third clause left something
abbrev pub closed_by : {K : Type 0} → Option K → Ends K → Round K
closed_by enters closed = record { enters = enters; back = closed.normal }
