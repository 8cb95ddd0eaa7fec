-- A block without objects stands first.
use Rattle.std.proofs.Common.{ap}
use Rattle.p10_machine.specs.Views.{config_of}
use Rattle.p10_machine.proofs.Closing.{block_begun}
use Rattle.p10_machine.proofs.machine.Machine.begin.Goals as goal

pub returns-in-Ok : goal.returns-in-Ok
returns-in-Ok c = λ s io. ap (λ bs. record (config_of s c.args.self.now io) { blocks = bs }) (block_begun c.args.self.now.blocks.items c.push.new.self.items c.args.self.now.opened.items c.in-Ok.ensures.items)
