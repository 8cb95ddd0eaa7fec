use Rattle.std.proofs.Common.{refl}
use Rattle.p10_command.specs.declared.gathering.Ungathered.TheVariants.{AbsentRoot, Over}
use Rattle.p10_check_command.proofs.Said.{line_stopped, line_told}
use Rattle.p10_check_command.proofs.tell.tell_gathering.Goals as goal

pub returns-in-AbsentRoot-clause-told : goal.returns-in-AbsentRoot-clause-told
returns-in-AbsentRoot-clause-told g c = λ six.
    line_told c.args.command.now c.args.sources.now c.as_slice-roots.result.now c.args.why.now (AbsentRoot c.in-AbsentRoot.field-0) _ _ _ _ c.as_slice-roots.ensures c.in-AbsentRoot.is refl (c.tell_ungathered.ensures.told six)

pub returns-in-AbsentRoot-clause-stopped : goal.returns-in-AbsentRoot-clause-stopped
returns-in-AbsentRoot-clause-stopped g c = λ six.
    line_stopped c.args.command.now c.args.sources.now c.as_slice-roots.result.now c.args.why.now (AbsentRoot c.in-AbsentRoot.field-0) _ _ _ c.as_slice-roots.ensures c.in-AbsentRoot.is refl (c.tell_ungathered.ensures.stopped six)

pub returns-in-Over-clause-told : goal.returns-in-Over-clause-told
returns-in-Over-clause-told g c = λ six.
    line_told c.args.command.now c.args.sources.now c.as_slice-roots.result.now c.args.why.now (Over c.in-Over.field-0) _ _ _ _ c.as_slice-roots.ensures c.in-Over.is refl (c.tell_ungathered-in-Over.ensures.told six)

pub returns-in-Over-clause-stopped : goal.returns-in-Over-clause-stopped
returns-in-Over-clause-stopped g c = λ six.
    line_stopped c.args.command.now c.args.sources.now c.as_slice-roots.result.now c.args.why.now (Over c.in-Over.field-0) _ _ _ c.as_slice-roots.ensures c.in-Over.is refl (c.tell_ungathered-in-Over.ensures.stopped six)
