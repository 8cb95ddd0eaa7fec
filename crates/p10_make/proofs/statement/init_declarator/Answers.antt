use Rattle.std.proofs.Common.{ap, Option}
use Rattle.p10_syn.specs.Trees.{Bare, Initializer, InitDeclarator}
use Rattle.p10_syn.specs.Built.{bare_declarator_of}
use Rattle.p10_syn.specs.BuiltStatements.{bare_init_declarator_of}
use Rattle.p10_make.proofs.StatementRows.{initial_is}
use Rattle.p10_make.proofs.statement.init_declarator.Goals as goal

pub returns : goal.returns
unfolding bare_init_declarator_of bare_declarator_of
returns c = ap (λ (i : Option (Initializer Bare)). let d : InitDeclarator Bare = record { place = tt; declarator = bare_declarator_of c.args.declarator; initial = i } in d) (initial_is c.args.init)
