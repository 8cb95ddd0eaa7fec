-- A target is noted, or none.
use Rattle.std.proofs.Common.{◌∙◌, ap, arith}
use Rattle.std.specs.Prelude.{get_or}
use Rattle.p10_machine.specs.Slots.{no_target}
use Rattle.p10_machine.proofs.machine.Machine.target.Goals as goal

pub returns-in-Some : goal.returns-in-Some
returns-in-Some c = c.in-Some.ensures.lookup.4 (omega arith) no_target ∙ ap (λ ts. get_or ts c.args.place no_target) c.deref.ensures.value

pub returns-in-None : goal.returns-in-None
returns-in-None c = c.no_target.ensures ∙ (c.in-None.ensures.lookup.4 (omega arith) no_target ∙ ap (λ ts. get_or ts c.args.place no_target) c.deref.ensures.value)
