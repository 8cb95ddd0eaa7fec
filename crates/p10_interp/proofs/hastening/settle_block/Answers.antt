-- The act of the beginning of a block.
use Rattle.std.proofs.Common.{◌∷◌}
use Rattle.p10_core.specs.Typed.{statement, block}
use Rattle.p10_core.specs.Views.{plain_statements}
use Rattle.p10_interp.specs.private.Tasks.{execute_statement}
use Rattle.p10_interp.proofs.Hastened.{acted_in}
use Rattle.p10_interp.proofs.hastening.settle_block.Goals as goal

pub returns-in-Ok-clause-ok : goal.returns-in-Ok-clause-ok
returns-in-Ok-clause-ok c = λ p w f calls e at. acted_in p (execute_statement (statement at (block (plain_statements c.args.items.now)))) c.args.stacks.now c.begin_block.new.stacks (f ∷ calls) w w e (c.in-Ok.ensures f calls w e)
