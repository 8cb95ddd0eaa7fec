-- The innermost block has one object more.
use Rattle.std.proofs.Common.{ap, arith}
use Rattle.p10_machine.specs.Views.{config_of}
use Rattle.p10_machine.proofs.Closing.{empty_list, object_noted, none_noted}
use Rattle.p10_machine.proofs.machine.Machine.note_opened.Goals as goal

pub returns-in_default : goal.returns-in_default
returns-in_default c = λ s io.
    ap (λ bs. record (config_of s c.args.self.now io) { blocks = bs }) (none_noted c.args.self.now.blocks.items c.pop.new.self.items c.args.self.now.opened.items c.args.object (empty_list c.args.self.now.blocks.items (omega (arith, c.in_default.ensures.cases.0, c.args.self.now.blocks.ok.0))) (empty_list c.pop.new.self.items (omega (arith, c.in_default.ensures.cases.1, c.pop.new.self.ok.0))))

pub returns-in-Ok-push : goal.returns-in-Ok-push
returns-in-Ok-push c = λ s io.
    ap (λ bs. record (config_of s c.args.self.now io) { blocks = bs }) (object_noted c.pop.new.self.items c.args.self.now.blocks.items c.push.new.self.items c.args.self.now.opened.items c.push-in-Ok.new.self.items c.in-Some.count c.in-Some-checked_add.more c.args.object c.in-Some.ensures.items c.in-Some-checked_add.ensures.1 c.in-Ok.ensures.items c.in-Ok-push.ensures.items)
