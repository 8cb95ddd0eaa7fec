use Rattle.std.proofs.Common.{refl}
use Rattle.p10_run_command.proofs.Loaded.{is_requested, none_named, no_sensors, one_loaded}
use Rattle.p10_run_command.proofs.Telling.{lacks_named}
use Rattle.p10_run_command.proofs.loading.load_sensors.Goals as goal

pub returns-in-None-clause-loaded : goal.returns-in-None-clause-loaded
returns-in-None-clause-loaded g c =
    is_requested (g.F.Files.held c.args.files.now) c.args.command.now c.args.allowance _ c.requested.result c.requested.ensures c.requires (none_named (g.F.Files.held c.args.files.now) c.args.command.now.sensors c.in-None.is)

pub returns-in-Ok-Some-clause-loaded : goal.returns-in-Ok-Some-clause-loaded
returns-in-Ok-Some-clause-loaded g c =
    is_requested (g.F.Files.held c.args.files.now) c.args.command.now c.args.allowance _ c.requested-in-Ok-Some.result c.requested-in-Ok-Some.ensures c.requires
    (one_loaded (g.F.Files.held c.args.files.now) c.args.command.now.sensors c.in-Some.name c.as_str.result.now c.in-Ok-Some.field-0 c.in-Ok-Some.bytes c.of.result c.in-Some.is c.as_str.ensures c.in-Ok-Some.field-0-is c.of.ensures c.in-Ok-Some.ensures.present)

pub returns-in-Ok-None-clause-loaded : goal.returns-in-Ok-None-clause-loaded
returns-in-Ok-None-clause-loaded g c =
    no_sensors (g.F.Files.held c.args.files.now) c.args.command.now c.args.allowance c.in-Some.name c.requires c.in-Some.is
    (lacks_named (g.F.Files.held c.args.files.now) (g.F.Files.held c.args.files.now) c.in-Some.name c.as_str.result.now c.in-Ok-None.field-0 c.in-Ok-None.field-0-is refl c.as_str.ensures c.in-Ok-None.ensures.absent)
