use Rattle.p10_command.proofs.OneOutput.{may_be_more, may_stop_more, stopped_line, told_line}
use Rattle.p10_check_command.specs.private.Telling.{fault_saying}
use Rattle.p10_check_command.proofs.Said.{fault_is_right, no_out, report_is_right}
use Rattle.p10_check_command.proofs.sources.check_sources.Goals as goal

pub returns-in-Ok-clause-told : goal.returns-in-Ok-clause-told
returns-in-Ok-clause-told g c = λ six seen gathers.
    may_be_more _ _ _ _ _ _ _ (report_is_right c.args.command.now seen c.args.sources.now c.in-Ok.report gathers c.in-Ok.ensures.report) (c.tell_report.ensures.told six)

pub returns-in-Ok-clause-stopped : goal.returns-in-Ok-clause-stopped
returns-in-Ok-clause-stopped g c = λ six seen gathers.
    may_stop_more _ _ _ _ _ _ (report_is_right c.args.command.now seen c.args.sources.now c.in-Ok.report gathers c.in-Ok.ensures.report) (c.tell_report.ensures.stopped six)

pub returns-in-Err-clause-told : goal.returns-in-Err-clause-told
returns-in-Err-clause-told g c = λ six seen gathers.
    told_line _ (fault_saying c.in-Err.fault) _ _ _ _ (fault_is_right c.args.command.now seen c.args.sources.now c.in-Err.fault gathers c.in-Err.ensures.fault) (no_out c.in-Err.fault) (c.tell_fault.ensures.told six)

pub returns-in-Err-clause-stopped : goal.returns-in-Err-clause-stopped
returns-in-Err-clause-stopped g c = λ six seen gathers.
    stopped_line _ (fault_saying c.in-Err.fault) _ _ _ (fault_is_right c.args.command.now seen c.args.sources.now c.in-Err.fault gathers c.in-Err.ensures.fault) (no_out c.in-Err.fault) (c.tell_fault.ensures.stopped six)
