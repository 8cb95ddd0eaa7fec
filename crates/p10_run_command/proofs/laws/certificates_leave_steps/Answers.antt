use Rattle.p10_run_command.proofs.Certified.{leaves_steps}
use Rattle.p10_run_command.proofs.laws.certificates_leave_steps.Goals as goal

pub returns : goal.returns
returns c = leaves_steps c.accepted_certificates_bound_every_run.ensures.lawful c.standing_is_lawful.ensures
