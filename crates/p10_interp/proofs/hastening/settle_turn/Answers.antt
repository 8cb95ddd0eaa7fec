-- The act of the end of a turn.
use Rattle.std.proofs.Common.{◌∷◌}
use Rattle.p10_core.specs.Views.{plain_statement}
use Rattle.p10_interp.specs.private.Tasks.{end_turn}
use Rattle.p10_interp.specs.private.Views.{in_loop}
use Rattle.p10_interp.proofs.Hastened.{acted_in}
use Rattle.p10_interp.proofs.hastening.settle_turn.Goals as goal

pub returns-in-Ok-clause-ok : goal.returns-in-Ok-clause-ok
returns-in-Ok-clause-ok c = λ p w f calls e. acted_in p (in_loop (λ keyword l. end_turn l) (plain_statement c.args.statement.now)) c.args.stacks.now c.end_turn.new.stacks (f ∷ calls) w w e (c.in-Ok.ensures p w f calls e)
