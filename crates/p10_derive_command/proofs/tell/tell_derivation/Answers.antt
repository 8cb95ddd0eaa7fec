use Rattle.std.proofs.Common.{ap, sym}
use Rattle.p10_command.specs.Saying.{IsSaid}
use Rattle.p10_seal.specs.Saying.{sealed_saying}
use Rattle.p10_derive_command.specs.declared.derivation.Derivation.{Derivation}
use Rattle.p10_derive_command.specs.private.Telling.{derivation_saying}
use Rattle.p10_derive_command.proofs.Telling.{certificate_stopped, certificate_told, said_right, stopped_right, violations_stopped, violations_told}
use Rattle.p10_derive_command.proofs.tell.tell_derivation.Goals as goal

pub returns-in-Certificate-clause-told : goal.returns-in-Certificate-clause-told
returns-in-Certificate-clause-told g c = λ six.
    certificate_told c.args.sources.now c.args.derivation.now c.in-Certificate.certificate _ _ _ _ c.in-Certificate.is (c.tell_certificate.ensures.status six) (c.tell_certificate.ensures.told six)

pub returns-in-Certificate-clause-stopped : goal.returns-in-Certificate-clause-stopped
returns-in-Certificate-clause-stopped g c = λ six.
    certificate_stopped c.args.sources.now c.args.derivation.now c.in-Certificate.certificate _ _ _ c.in-Certificate.is (c.tell_certificate.ensures.stopped six)

pub returns-in-Sealed-clause-told : goal.returns-in-Sealed-clause-told
returns-in-Sealed-clause-told g c = λ six.
    said_right (IsSaid (derivation_saying c.args.sources.now c.args.derivation.now)) (sealed_saying c.in-Sealed.text) _ _ _ _ _ (ap (λ (d : Derivation). derivation_saying c.args.sources.now d) (sym c.in-Sealed.is)) (c.tell_sealed.ensures.told six)

pub returns-in-Sealed-clause-stopped : goal.returns-in-Sealed-clause-stopped
returns-in-Sealed-clause-stopped g c = λ six.
    stopped_right (IsSaid (derivation_saying c.args.sources.now c.args.derivation.now)) (sealed_saying c.in-Sealed.text) _ _ _ _ (ap (λ (d : Derivation). derivation_saying c.args.sources.now d) (sym c.in-Sealed.is)) (c.tell_sealed.ensures.stopped six)

pub returns-in-Violations-clause-told : goal.returns-in-Violations-clause-told
returns-in-Violations-clause-told g c = λ six.
    violations_told c.args.sources.now c.args.derivation.now c.in-Violations.violations c.as_slice.result.now _ _ _ _ c.in-Violations.is c.as_slice.ensures.value (c.tell_violations.ensures.status six) (c.tell_violations.ensures.told six)

pub returns-in-Violations-clause-stopped : goal.returns-in-Violations-clause-stopped
returns-in-Violations-clause-stopped g c = λ six.
    violations_stopped c.args.sources.now c.args.derivation.now c.in-Violations.violations c.as_slice.result.now _ _ _ c.in-Violations.is c.as_slice.ensures.value (c.tell_violations.ensures.stopped six)
