-- What is written to one of the outputs alone.
use Rattle.std.proofs.Common.{◌≡◌, ℕ, List, [], refl, sym, subst, ap, ◌∙◌, Option, Vec, Global}
use Rattle.std.specs.Io.KnownBytes.{Appends}
use Rattle.std.proofs.KnownBytes.{Appends-nil}
use Rattle.p10_base.specs.declared.report.Violation.{Violation}
use Rattle.p10_base.specs.Gathered.{Gathered}
use Rattle.p10_report.specs.Stops.{StopsWithin}
use Rattle.p10_report.specs.Violations.{violation_lines}
use Rattle.p10_report.proofs.Stopping.{TakesFront-stop}
use Rattle.p10_world.specs.Sink.{TakesFront}
use Rattle.p10_cert.specs.Certificate.{certificate_text}
use Rattle.p10_cert.specs.declared.claims.Cert.{Cert}
use Rattle.p10_cert.specs.Claims.{claims_of}
use Rattle.p10_finder.specs.declared.found.FinderFault.{FinderFault}
use Rattle.p10_finder.specs.declared.found.FinderFault.TheVariants as finder
use Rattle.p10_finder.specs.Answers.{Violating, Certified}
use Rattle.p10_command.specs.Saying.{IsSaid, Saying}
use Rattle.p10_command.specs.Told.{Told, Stopped}
use Rattle.p10_command.proofs.OneOutput.{may_be_more, may_stop_more, no_front}
use Rattle.p10_derive_command.specs.Answers.{derived_saying}
use Rattle.p10_derive_command.specs.declared.derivation.Derivation.{Derivation}
use Rattle.p10_derive_command.specs.declared.derivation.Derivation.TheVariants as derivation
use Rattle.p10_derive_command.specs.private.Telling.{derivation_saying, fault_saying}

-- ## What may be said

-- what is written is right where the one thing that is said is
is_right : (right : Saying → Type 0) (wanted : Saying) → right wanted → (saying : Saying) → IsSaid wanted saying → right saying
is_right right wanted is saying said = subst (λ (s : Saying). right s) (sym said) is

pub said_right : (right : Saying → Type 0) (wanted : Saying) (out_old out_new err_old err_new : Option (List ℕ)) (given : ℕ) → right wanted → Told (IsSaid wanted) out_old out_new err_old err_new given → Told right out_old out_new err_old err_new given
said_right right wanted out_old out_new err_old err_new given is told = may_be_more (IsSaid wanted) right out_old out_new err_old err_new given (is_right right wanted is) told

pub stopped_right : (right : Saying → Type 0) (wanted : Saying) (out_old out_new err_old err_new : Option (List ℕ)) → right wanted → Stopped (IsSaid wanted) out_old out_new err_old err_new → Stopped right out_old out_new err_old err_new
stopped_right right wanted out_old out_new err_old err_new is stopped = may_stop_more (IsSaid wanted) right out_old out_new err_old err_new (is_right right wanted is) stopped

-- ## On the error output

-- nothing is said on the output where nothing is derived
pub no_output : (fault : FinderFault) → (fault_saying fault).out ≡ []
no_output (finder.Over limit) = refl
no_output finder.Memory = refl

-- ## What is derived

pub certificate_told : (g : Gathered) (d : Derivation) (claims : Cert) (out_old out_new err : Option (List ℕ)) (given : ℕ) → d ≡ derivation.Certificate claims → given ≡ 0 → Appends out_old out_new (certificate_text (claims_of claims))
    → Told (IsSaid (derivation_saying g d)) out_old out_new err err given
certificate_told g d claims out_old out_new err given is status taken = record {
  saying = derived_saying g (Certified (claims_of claims));
  may = ap (λ (x : Derivation). derivation_saying g x) (sym is);
  status_is = status;
  taken = record { on_out = taken; on_err = Appends-nil err };
}

pub certificate_stopped : (g : Gathered) (d : Derivation) (claims : Cert) (out_old out_new err : Option (List ℕ)) → d ≡ derivation.Certificate claims → TakesFront out_old out_new (certificate_text (claims_of claims))
    → Stopped (IsSaid (derivation_saying g d)) out_old out_new err err
certificate_stopped g d claims out_old out_new err is front = record {
  saying = derived_saying g (Certified (claims_of claims));
  may = ap (λ (x : Derivation). derivation_saying g x) (sym is);
  taken = record { on_out = front; on_err = no_front err [] refl };
}

pub violations_told : (g : Gathered) (d : Derivation) (found : Vec Violation Global) (violations : List Violation) (out err_old err_new : Option (List ℕ)) (given : ℕ) → d ≡ derivation.Violations found → violations ≡ found.items → given ≡ 1
    → Appends err_old err_new (violation_lines g violations) → Told (IsSaid (derivation_saying g d)) out out err_old err_new given
violations_told g d found violations out err_old err_new given is same status taken = record {
  saying = derived_saying g (Violating violations);
  may = ap (λ (all : List Violation). derived_saying g (Violating all)) same ∙ ap (λ (x : Derivation). derivation_saying g x) (sym is);
  status_is = status;
  taken = record { on_out = Appends-nil out; on_err = taken };
}

pub violations_stopped : (g : Gathered) (d : Derivation) (found : Vec Violation Global) (violations : List Violation) (out err_old err_new : Option (List ℕ)) → d ≡ derivation.Violations found → violations ≡ found.items
    → StopsWithin err_old err_new (violation_lines g violations) → Stopped (IsSaid (derivation_saying g d)) out out err_old err_new
violations_stopped g d found violations out err_old err_new is same stop = record {
  saying = derived_saying g (Violating violations);
  may = ap (λ (all : List Violation). derived_saying g (Violating all)) same ∙ ap (λ (x : Derivation). derivation_saying g x) (sym is);
  taken = record { on_out = no_front out [] refl; on_err = TakesFront-stop err_old err_new (violation_lines g violations) stop };
}
