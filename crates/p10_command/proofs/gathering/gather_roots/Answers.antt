use Rattle.std.proofs.Common.{◌∙◌, ap, map, string_bytes}
use Rattle.p10_command.proofs.Stopped.{roots_stopped}
use Rattle.p10_command.proofs.gathering.gather_roots.Goals as goal

pub returns-clause-gathered : goal.returns-clause-gathered
returns-clause-gathered g c =
    roots_stopped (g.F.Files.held c.args.files.now) c.args.roots.now c.args.directories.now (map string_bytes c.deref.result.now) (map string_bytes c.deref-2.result.now) c.in-Err.fault c.without_sources.result
    (ap (map string_bytes) c.deref.ensures.value ∙ c.in_ok-named_roots.ensures) (ap (map string_bytes) c.deref-2.ensures.value ∙ c.in_ok-named_directories.ensures) c.without_sources.ensures c.in-Err.ensures.fault
