use Rattle.std.proofs.Common.{refl}
use Rattle.p10_check_command.proofs.Found.{is_report}
use Rattle.p10_check_command.proofs.sources.report_of.Goals as goal

pub returns-in-Ok-clause-report : goal.returns-in-Ok-clause-report
returns-in-Ok-clause-report c = is_report c.args.sources.now c.args.reading c.in-Ok.violations.items _ c.of.ensures refl c.requires.read c.in-Ok.ensures
