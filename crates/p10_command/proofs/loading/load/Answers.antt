use Rattle.p10_command.proofs.Files.{loaded_into}
use Rattle.p10_command.proofs.loading.load.Goals as goal

pub returns-in-Ok-clause-present : goal.returns-in-Ok-clause-present
returns-in-Ok-clause-present g c =
    loaded_into (g.F.Files.held c.args.files.now) c.args.name.now c.args.limit c.new-bytes.result.items c.read.new.into.items c.new-bytes.ensures.items c.in-Ok.ensures.read c.in-Ok.ensures.most
