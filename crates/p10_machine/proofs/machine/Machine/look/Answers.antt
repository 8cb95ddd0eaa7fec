-- The slot is there, or it isn't.
use Rattle.std.proofs.Common.{◌+◌, ◌∙◌, ap, arith}
use Rattle.std.specs.Prelude.{get_or}
use Rattle.p10_machine.specs.declared.slots.Slot.TheVariants.{Absent}
use Rattle.p10_machine.proofs.Holding.{looked}
use Rattle.p10_machine.proofs.machine.Machine.look.Goals as goal

pub returns-in-Some : goal.returns-in-Some
returns-in-Some c = looked c.args.self.now.targets.items c.args.self.now.slots.items (c.args.self.now.base + c.args.k) c.in-Some.slot.now (c.in-Some.ensures.lookup.4 (omega arith) Absent ∙ (ap (λ slots. get_or slots c.place.result Absent) c.deref.ensures.value ∙ ap (λ place. get_or c.args.self.now.slots.items place Absent) c.place.ensures))

pub returns-in-None : goal.returns-in-None
returns-in-None c = looked c.args.self.now.targets.items c.args.self.now.slots.items (c.args.self.now.base + c.args.k) Absent (c.in-None.ensures.lookup.4 (omega arith) Absent ∙ (ap (λ slots. get_or slots c.place.result Absent) c.deref.ensures.value ∙ ap (λ place. get_or c.args.self.now.slots.items place Absent) c.place.ensures))
