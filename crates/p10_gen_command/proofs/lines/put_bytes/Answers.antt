use Rattle.p10_report.proofs.Stopping.{OnErr-stop}
use Rattle.p10_gen_command.proofs.lines.put_bytes.Goals as goal

pub returns-clause-stopped : goal.returns-clause-stopped
returns-clause-stopped g c = OnErr-stop _ _ _ (λ fault. fault.wrote) c.put.result c.put.ensures.part
