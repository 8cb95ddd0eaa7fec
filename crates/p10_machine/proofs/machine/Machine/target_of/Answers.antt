-- A slot of the open frame is one of all.
use Rattle.std.proofs.Common.{◌∙◌, ap}
use Rattle.std.specs.Prelude.{get_or}
use Rattle.p10_machine.specs.Slots.{no_target}
use Rattle.p10_machine.proofs.machine.Machine.target_of.Goals as goal

pub returns : goal.returns
returns c = c.target.ensures ∙ ap (λ place. get_or c.args.self.now.targets.items place no_target) c.place.ensures
