use Rattle.std.proofs.Common.{refl}
use Rattle.p10_command.specs.Saying.{trouble_saying}
use Rattle.p10_command.proofs.Causes.{has_cause}
use Rattle.p10_command.proofs.OneOutput.{may_be_more, may_stop_more, stopped_line, told_line}
use Rattle.p10_command.proofs.Sources.{all_gathered, not_gathered}
use Rattle.p10_check_command.specs.Answers.{troubled}
use Rattle.p10_check_command.proofs.Said.{gathering_is_right}
use Rattle.p10_check_command.proofs.check.Goals as goal

pub check_sources-requires : goal.check_sources-requires
check_sources-requires g c = (all_gathered (g.F.Files.held c.args.files.now) c.as_slice.result.now c.args.command.now.sources c.as_slice-2.result.now c.args.command.now.directories c.in-Ok-All.field-0 c.in-Ok-All.sources c.as_slice.ensures c.as_slice-2.ensures c.in-Ok-All.field-0-is c.in-Ok-All.ensures.gathered).1

pub returns-in-Ok-All-clause-told : goal.returns-in-Ok-All-clause-told
returns-in-Ok-All-clause-told g c = λ six. c.check_sources.ensures.told six _
    (all_gathered (g.F.Files.held c.args.files.now) c.as_slice.result.now c.args.command.now.sources c.as_slice-2.result.now c.args.command.now.directories c.in-Ok-All.field-0 c.in-Ok-All.sources c.as_slice.ensures c.as_slice-2.ensures c.in-Ok-All.field-0-is c.in-Ok-All.ensures.gathered).0

pub returns-in-Ok-All-clause-stopped : goal.returns-in-Ok-All-clause-stopped
returns-in-Ok-All-clause-stopped g c = λ six. c.check_sources.ensures.stopped six _
    (all_gathered (g.F.Files.held c.args.files.now) c.as_slice.result.now c.args.command.now.sources c.as_slice-2.result.now c.args.command.now.directories c.in-Ok-All.field-0 c.in-Ok-All.sources c.as_slice.ensures c.as_slice-2.ensures c.in-Ok-All.field-0-is c.in-Ok-All.ensures.gathered).0

pub tell_gathering-requires : goal.tell_gathering-requires
tell_gathering-requires g c = (not_gathered (g.F.Files.held c.args.files.now) c.as_slice.result.now c.args.command.now.sources c.as_slice-2.result.now c.args.command.now.directories c.in-Ok-Stopped.field-0 c.in-Ok-Stopped.why c.in-Ok-Stopped.sources c.as_slice.ensures c.as_slice-2.ensures c.in-Ok-Stopped.field-0-is c.in-Ok-Stopped.ensures.gathered).1

pub returns-in-Ok-Stopped-clause-told : goal.returns-in-Ok-Stopped-clause-told
returns-in-Ok-Stopped-clause-told g c = λ six.
    may_be_more _ _ _ _ _ _ _ (gathering_is_right c.args.command.now _ c.in-Ok-Stopped.sources c.in-Ok-Stopped.why
    (not_gathered (g.F.Files.held c.args.files.now) c.as_slice.result.now c.args.command.now.sources c.as_slice-2.result.now c.args.command.now.directories c.in-Ok-Stopped.field-0 c.in-Ok-Stopped.why c.in-Ok-Stopped.sources c.as_slice.ensures c.as_slice-2.ensures c.in-Ok-Stopped.field-0-is c.in-Ok-Stopped.ensures.gathered).0)
    (c.tell_gathering.ensures.told six)

pub returns-in-Ok-Stopped-clause-stopped : goal.returns-in-Ok-Stopped-clause-stopped
returns-in-Ok-Stopped-clause-stopped g c = λ six.
    may_stop_more _ _ _ _ _ _ (gathering_is_right c.args.command.now _ c.in-Ok-Stopped.sources c.in-Ok-Stopped.why
    (not_gathered (g.F.Files.held c.args.files.now) c.as_slice.result.now c.args.command.now.sources c.as_slice-2.result.now c.args.command.now.directories c.in-Ok-Stopped.field-0 c.in-Ok-Stopped.why c.in-Ok-Stopped.sources c.as_slice.ensures c.as_slice-2.ensures c.in-Ok-Stopped.field-0-is c.in-Ok-Stopped.ensures.gathered).0)
    (c.tell_gathering.ensures.stopped six)

pub returns-in-Err-clause-told : goal.returns-in-Err-clause-told
returns-in-Err-clause-told g c = λ six.
    told_line _ (trouble_saying c.in-Err.trouble) _ _ _ _ (troubled c.in-Err.trouble (has_cause _ _ _ _ c.in-Err.is c.gather_roots-gathered.ensures.failed) refl) refl (c.tell_trouble.ensures.told six)

pub returns-in-Err-clause-stopped : goal.returns-in-Err-clause-stopped
returns-in-Err-clause-stopped g c = λ six.
    stopped_line _ (trouble_saying c.in-Err.trouble) _ _ _ (troubled c.in-Err.trouble (has_cause _ _ _ _ c.in-Err.is c.gather_roots-gathered.ensures.failed) refl) refl (c.tell_trouble.ensures.stopped six)
