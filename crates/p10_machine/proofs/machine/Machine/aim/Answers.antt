-- The target is noted.
use Rattle.std.proofs.Common.{◌∙◌, ◌++◌, ◌∷◌, [], ap, eqb, arith}
use Rattle.std.specs.Prelude.{if◌then◌else◌, get_or}
use Rattle.p10_machine.specs.declared.machine.Machine.{Machine}
use Rattle.p10_machine.specs.Slots.{no_target}
use Rattle.p10_machine.proofs.Holding.{padded, set_by}
use Rattle.p10_machine.proofs.machine.Machine.aim.Goals as goal

pub room-preserved : goal.room-preserved
room-preserved c = (
  λ i. ap (λ xs. get_or xs i no_target) (c.in-Ok.ensures.items ∙ ap (λ t. c.room.self.targets.items ++ t ∷ []) c.no_target.ensures) ∙ (padded c.room.self.targets.items no_target i ∙ c.room.invariant.0 i),
  ap (λ (m : Machine). record m { targets = c.push.new.self }) c.room.invariant.1,
)

pub returns-clause-targets : goal.returns-clause-targets
returns-clause-targets c = λ i.
    set_by c.room.self.targets.items c.args.place i c.args.target no_target (omega (arith, c.room-test.false, c.room.self.targets.ok.0)) ∙ ap (λ x. if eqb i c.args.place then c.args.target else x) (c.room.invariant.0 i)
