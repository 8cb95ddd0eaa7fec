-- The objects of the innermost block die.
use Rattle.std.proofs.Common.{◌∙◌, refl, arith}
use Rattle.p10_machine.specs.Views.{config_of}
use Rattle.p10_machine.proofs.Closing.{empty_list, block_closed, none_closed}
use Rattle.p10_machine.proofs.machine.Machine.close.Goals as goal

pub returns-in-Some : goal.returns-in-Some
returns-in-Some c = λ s io. c.end_youngest.ensures s io ∙ block_closed c.pop.new.self.items c.args.self.now.blocks.items c.args.self.now.opened.items c.in-Some.count (config_of s c.args.self.now io) c.in-Some.ensures.items refl

pub returns-in-None : goal.returns-in-None
returns-in-None c = λ s io.
    none_closed c.args.self.now.blocks.items c.pop.new.self.items c.args.self.now.opened.items (config_of s c.args.self.now io) (empty_list c.args.self.now.blocks.items (omega (arith, c.in-None.ensures.cases.0, c.args.self.now.blocks.ok.0))) (empty_list c.pop.new.self.items (omega (arith, c.in-None.ensures.cases.1, c.pop.new.self.ok.0))) refl
