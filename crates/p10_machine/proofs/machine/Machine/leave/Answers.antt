-- The outermost call is over, or the machine stands in the frame of the caller.
use Rattle.std.proofs.Common.{◌+◌, ◌∙◌, ap, map, refl, arith}
use Rattle.std.specs.Prelude.{reverse, slice_set}
use Rattle.p10_code.specs.Machine.{on, cell_of, leave_call}
use Rattle.p10_machine.specs.Slots.{held_in}
use Rattle.p10_machine.specs.Views.{plain_depth, plain_caller, config_of}
use Rattle.p10_machine.proofs.Closing.{empty_list, outermost_left, call_left}
use Rattle.p10_machine.proofs.Doing.{done_as}
use Rattle.p10_machine.proofs.machine.Machine.leave.Goals as goal

pub returns-in-None : goal.returns-in-None
returns-in-None c = λ io. outermost_left c.args.self.now.callers.items c.args.x (config_of c.args.s c.args.self.now io) (empty_list c.args.self.now.callers.items (omega (arith, c.in-None.ensures.cases.0, c.args.self.now.callers.ok.0))) refl

pub returns-in-Some : goal.returns-in-Some
returns-in-Some c =
    done_as c.give.result c.give.new.self (λ io. on (record (config_of c.args.s c.args.self.now io) { pc = c.in-Some.caller.pc; slots = slice_set (held_in c.args.self.now.targets.items c.truncate.new.self.items) (c.in-Some.caller.base + c.in-Some.caller.to) (cell_of c.args.x); base = c.in-Some.caller.base; callers = map plain_caller (reverse c.pop.new.self.items); depth = plain_depth c.in-Some.caller.depth })) (λ io. leave_call c.args.x (config_of c.args.s c.args.self.now io))
    (λ io. ap (λ hs. on (record (config_of c.args.s c.args.self.now io) { pc = c.in-Some.caller.pc; slots = slice_set (held_in c.args.self.now.targets.items hs) (c.in-Some.caller.base + c.in-Some.caller.to) (cell_of c.args.x); base = c.in-Some.caller.base; callers = map plain_caller (reverse c.pop.new.self.items); depth = plain_depth c.in-Some.caller.depth })) c.truncate.ensures.items ∙
    call_left c.args.self.now.callers.items c.pop.new.self.items c.in-Some.caller c.args.self.now.targets.items c.args.self.now.slots.items c.args.x (config_of c.args.s c.args.self.now io) c.in-Some.ensures.items refl refl) c.give.ensures
