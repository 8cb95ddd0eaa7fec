-- Nothing is said of steps that are spent to a `run` by a certificate.
use Rattle.std.proofs.Common.{◌≡◌, ◌≢◌, ℕ, List, sym, ◌∙◌, ap, subst, arith, Option}
use Rattle.p10_base.specs.Words.{Text}
use Rattle.p10_command.specs.Saying.{Saying}
use Rattle.p10_command.specs.Seen.{Seen, SeenInput}
use Rattle.p10_command.specs.Told.{Told}
use Rattle.p10_words.specs.declared.command.Command.{Command}
use Rattle.p10_words.specs.declared.command.Usage.{Usage}
use Rattle.p10_words.specs.declared.command.Usage.TheVariants as usage
use Rattle.p10_words.proofs.OneCommand.{one_command}
use Rattle.p10_run_command.specs.Laws.{TellsBytes, CertificatesLeaveSteps}
use Rattle.p10_top.specs.Commands.{IsCertifiedRunLine}
use Rattle.p10_top.specs.Told.{MaySay, SaysFor, for_none, for_command, for_any}
use Rattle.p10_top.specs.private.Unread.{saying_without_command}
use Rattle.p10_top.proofs.Telling.{of_run}

says_other : CertificatesLeaveSteps → (words : List Text) (seen : Seen) (input : SeenInput) (saying : Saying) → (line : IsCertifiedRunLine words) → TellsBytes input.left → MaySay words seen input saying → saying.status ≢ 12
says_other law words seen input saying line tells (for_none none said) twelve = none (of_run line.run) line.line
says_other law words seen input saying line tells (for_command c is says) twelve =
    law line.run line.name seen input saying line.by tells (subst (λ (d : Command). SaysFor d seen input saying) (one_command words c (of_run line.run) is line.line) says) twelve
says_other law words seen input saying line tells (for_any said) twelve = omega (arith, ap (λ (s : Saying). s.status) said, twelve)

-- a run by a certificate never runs out of steps
pub never_spent : CertificatesLeaveSteps → (words : List Text) (seen : Seen) (input : SeenInput) (out_old out_new err_old err_new : Option (List ℕ)) (status : ℕ) → (status ≢ 6 → Told (MaySay words seen input) out_old out_new err_old err_new status) → IsCertifiedRunLine words →
    TellsBytes input.left → status ≢ 12
never_spent law words seen input out_old out_new err_old err_new status told line tells twelve =
    let t = told (λ six. omega (arith, six, twelve)) in
    says_other law words seen input t.saying line tells t.may (sym t.status_is ∙ twelve)

-- nor is it where no command was read
pub not_spent : (fault : Usage) (status : ℕ) → (status ≢ 6 → status ≡ (saying_without_command fault).status) → status ≢ 12
not_spent usage.Refused status is twelve = omega (arith, is (λ six. omega (arith, six, twelve)), twelve)
not_spent usage.Memory status is twelve = omega (arith, is (λ six. omega (arith, six, twelve)), twelve)
