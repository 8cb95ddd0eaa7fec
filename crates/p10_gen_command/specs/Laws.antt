-- What holds of the answers.
use Rattle.std.specs.Prelude.{ℕ, ◌≡◌, ◌≢◌, ◌⊎◌, [], ℤ}
use Rattle.p10_base.specs.declared.report.Bounds.{Bounds}
use Rattle.p10_base.specs.Gathered.{Gathered}
use Rattle.p10_core.specs.Typed.{PlainProgram}
use Rattle.p10_cert.specs.Certificate.{certificate_text}
use Rattle.p10_cert.specs.Claims.{Claims}
use Rattle.p10_approach.specs.Offers.{no_offers}
use Rattle.p10_finder.specs.Answers.{Certified, IsDerived}
use Rattle.p10_meaning.specs.Runs.{Returned}
use Rattle.p10_command.specs.Saying.{Saying}
use Rattle.p10_judge.specs.declared.judgement.Judgement.TheVariants.{Accepted}
use Rattle.p10_judge.specs.Judging.{IsWeighed}
use Rattle.p10_command.specs.Programs.{HasProgram}
use Rattle.p10_gen_command.specs.Answers.{outcome_within, setting_of}
use Rattle.p10_gen_command.specs.Lines.{shown_text}
use Rattle.p10_gen_command.specs.Told.{SaysRight}

-- only one thing may be said to a command, unless memory runs out: so each answer comes exactly where it is right
abbrev pub GenSaysOneThing : Type 0
GenSaysOneThing = (n : ℕ) (some other : Saying) → SaysRight n some → SaysRight n other → some.status ≢ 7 → other.status ≢ 7 → some ≡ other

-- the status is one of these; 1 alone is that of a program that fails
abbrev pub GenHasFewStatuses : Type 0
GenHasFewStatuses = (n : ℕ) (saying : Saying) → SaysRight n saying → (saying.status ≡ 0) ⊎ (saying.status ≡ 1) ⊎ (saying.status ≡ 7) ⊎ (saying.status ≡ 8)

-- the generated program has a certificate that is derived of it, whose text is accepted for it, and within which a run of it
-- returns; the certificate's total and the value are reported, and nothing else
pub record TellsReturn (n : ℕ) (saying : Saying) : Type 0 where
  pub files : Gathered
  pub program : PlainProgram
  pub claims : Claims
  pub bounds : Bounds
  pub value : ℤ
  pub has : HasProgram (setting_of n) files program
  pub derived : IsDerived no_offers program (Certified claims)
  pub accepted : IsWeighed program [] (certificate_text claims) (Accepted bounds)
  pub returned : outcome_within program bounds ≡ Returned value
  pub on_out : saying.out ≡ shown_text n claims.total value
  pub on_err : saying.err ≡ []

-- with status 0 all of this is so
abbrev pub SuccessIsTold : Type 0
SuccessIsTold = (n : ℕ) (saying : Saying) → SaysRight n saying → saying.status ≡ 0 → TellsReturn n saying
