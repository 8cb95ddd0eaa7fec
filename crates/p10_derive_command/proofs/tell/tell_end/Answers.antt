use Rattle.std.proofs.Common.{ap, sym, Result}
use Rattle.p10_finder.specs.declared.found.FinderFault.{FinderFault}
use Rattle.p10_command.specs.Saying.{IsSaid}
use Rattle.p10_derive_command.specs.declared.derivation.Derivation.{Derivation}
use Rattle.p10_derive_command.specs.private.Telling.{derivation_saying, end_saying, fault_saying}
use Rattle.p10_command.proofs.OneOutput.{told_line, stopped_line}
use Rattle.p10_derive_command.proofs.Telling.{no_output, said_right, stopped_right}
use Rattle.p10_derive_command.proofs.tell.tell_end.Goals as goal

pub returns-in-Ok-clause-told : goal.returns-in-Ok-clause-told
returns-in-Ok-clause-told g c = λ six.
    said_right (IsSaid (end_saying c.args.sources.now c.args.end)) (derivation_saying c.args.sources.now c.in-Ok.derivation) _ _ _ _ _
    (ap (λ (r : Result Derivation FinderFault). end_saying c.args.sources.now r) (sym c.in-Ok.is)) (c.tell_derivation.ensures.told six)

pub returns-in-Ok-clause-stopped : goal.returns-in-Ok-clause-stopped
returns-in-Ok-clause-stopped g c = λ six.
    stopped_right (IsSaid (end_saying c.args.sources.now c.args.end)) (derivation_saying c.args.sources.now c.in-Ok.derivation) _ _ _ _
    (ap (λ (r : Result Derivation FinderFault). end_saying c.args.sources.now r) (sym c.in-Ok.is)) (c.tell_derivation.ensures.stopped six)

pub returns-in-Err-clause-told : goal.returns-in-Err-clause-told
returns-in-Err-clause-told g c = λ six.
    told_line (IsSaid (end_saying c.args.sources.now c.args.end)) (fault_saying c.in-Err.fault) _ _ _ _
    (ap (λ (r : Result Derivation FinderFault). end_saying c.args.sources.now r) (sym c.in-Err.is)) (no_output c.in-Err.fault) (c.tell_fault.ensures.told six)

pub returns-in-Err-clause-stopped : goal.returns-in-Err-clause-stopped
returns-in-Err-clause-stopped g c = λ six.
    stopped_line (IsSaid (end_saying c.args.sources.now c.args.end)) (fault_saying c.in-Err.fault) _ _ _
    (ap (λ (r : Result Derivation FinderFault). end_saying c.args.sources.now r) (sym c.in-Err.is)) (no_output c.in-Err.fault) (c.tell_fault.ensures.stopped six)
