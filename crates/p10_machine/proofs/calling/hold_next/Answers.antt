-- The variable has its argument, or none.
use Rattle.p10_machine.specs.Views.{config_of}
use Rattle.p10_machine.proofs.Entered.{next_absent, next_argument}
use Rattle.p10_machine.proofs.calling.hold_next.Goals as goal

pub returns-in-Some : goal.returns-in-Some
returns-in-Some c = next_argument c.hold_argument.result c.args.frame c.args.x c.in-Some.x (λ s io. config_of s c.args.m.now io) (λ s io. config_of s c.hold_argument.new.m io) c.in-Some.is c.hold_argument.ensures

pub returns-in-None : goal.returns-in-None
returns-in-None c = next_absent c.add.result c.args.frame c.args.x (λ s io. config_of s c.args.m.now io) (λ s io. config_of s c.add.new.self io) c.in-None.is c.add.ensures
