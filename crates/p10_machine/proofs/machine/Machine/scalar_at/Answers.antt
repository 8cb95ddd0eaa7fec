-- The slot is there, or it isn't.
use Rattle.std.proofs.Common.{◌∙◌, ap, refl, arith}
use Rattle.std.specs.Prelude.{get_or}
use Rattle.p10_machine.specs.declared.slots.Slot.TheVariants.{Absent}
use Rattle.p10_machine.specs.Slots.{no_target}
use Rattle.p10_machine.proofs.Holding.{found_in}
use Rattle.p10_machine.proofs.machine.Machine.scalar_at.Goals as goal

pub returns-in-Some : goal.returns-in-Some
returns-in-Some c =
    c.scalar.ensures ∙ found_in c.args.self.now.targets.items c.args.self.now.slots.items c.args.place c.in-Some.slot.now c.target.result (c.in-Some.ensures.lookup.4 (omega arith) Absent ∙ ap (λ slots. get_or slots c.args.place Absent) c.deref.ensures.value) c.target.ensures

pub returns-in-None : goal.returns-in-None
returns-in-None c =
    found_in c.args.self.now.targets.items c.args.self.now.slots.items c.args.place Absent (get_or c.args.self.now.targets.items c.args.place no_target) (c.in-None.ensures.lookup.4 (omega arith) Absent ∙ ap (λ slots. get_or slots c.args.place Absent) c.deref.ensures.value) refl
