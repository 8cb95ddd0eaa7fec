use Rattle.std.proofs.Common.{refl}
use Rattle.p10_run_command.specs.Files.{no_certificate}
use Rattle.p10_run_command.proofs.Telling.{lacks_named}
use Rattle.p10_run_command.proofs.loading.load_files.Goals as goal

pub returns-in-Ok-None-clause-loaded : goal.returns-in-Ok-None-clause-loaded
returns-in-Ok-None-clause-loaded g c =
    no_certificate c.in-Certificate.is
    (lacks_named (g.F.Files.held c.args.files.now) (g.F.Files.held c.args.files.now) c.in-Certificate.name c.as_str.result.now c.in-Ok-None.field-0 c.in-Ok-None.field-0-is refl c.as_str.ensures c.in-Ok-None.ensures.absent)
