use Rattle.std.proofs.Common.{refl}
use Rattle.p10_command.proofs.Sources.{all_gathered, not_gathered}
use Rattle.p10_command.proofs.OneOutput.{named_told, named_stopped, told_line, stopped_line}
use Rattle.p10_command.specs.Saying.{trouble_saying, ungathered_saying}
use Rattle.p10_command.proofs.Causes.{has_cause}
use Rattle.p10_derive_command.specs.Answers.{ungathered, troubled}
use Rattle.p10_derive_command.proofs.derive.Goals as goal

pub derive_sources-requires : goal.derive_sources-requires
derive_sources-requires g c = (all_gathered (g.F.Files.held c.args.files.now) c.as_slice-roots.result.now c.args.command.now.sources c.as_slice.result.now c.args.command.now.directories c.in-Ok-All.field-0 c.in-Ok-All.sources c.as_slice-roots.ensures c.as_slice.ensures c.in-Ok-All.field-0-is c.in-Ok-All.ensures.gathered).1

pub returns-in-Ok-All-clause-told : goal.returns-in-Ok-All-clause-told
returns-in-Ok-All-clause-told g c = λ six. c.derive_sources.ensures.told six c.args.command.now _ refl refl
    (all_gathered (g.F.Files.held c.args.files.now) c.as_slice-roots.result.now c.args.command.now.sources c.as_slice.result.now c.args.command.now.directories c.in-Ok-All.field-0 c.in-Ok-All.sources c.as_slice-roots.ensures c.as_slice.ensures c.in-Ok-All.field-0-is c.in-Ok-All.ensures.gathered).0

pub returns-in-Ok-All-clause-stopped : goal.returns-in-Ok-All-clause-stopped
returns-in-Ok-All-clause-stopped g c = λ six. c.derive_sources.ensures.stopped six c.args.command.now _ refl refl
    (all_gathered (g.F.Files.held c.args.files.now) c.as_slice-roots.result.now c.args.command.now.sources c.as_slice.result.now c.args.command.now.directories c.in-Ok-All.field-0 c.in-Ok-All.sources c.as_slice-roots.ensures c.as_slice.ensures c.in-Ok-All.field-0-is c.in-Ok-All.ensures.gathered).0

pub tell_ungathered-requires : goal.tell_ungathered-requires
tell_ungathered-requires g c = (not_gathered (g.F.Files.held c.args.files.now) c.as_slice-roots.result.now c.as_slice-roots.result.now c.as_slice.result.now c.args.command.now.directories c.in-Ok-Stopped.field-0 c.in-Ok-Stopped.why c.in-Ok-Stopped.sources refl c.as_slice.ensures c.in-Ok-Stopped.field-0-is c.in-Ok-Stopped.ensures.gathered).1

pub returns-in-Ok-Stopped-clause-told : goal.returns-in-Ok-Stopped-clause-told
returns-in-Ok-Stopped-clause-told g c = λ six. told_line _ (ungathered_saying c.args.command.now.sources c.in-Ok-Stopped.sources c.in-Ok-Stopped.why) _ _ _ _
    (ungathered c.in-Ok-Stopped.sources c.in-Ok-Stopped.why
    (not_gathered (g.F.Files.held c.args.files.now) c.as_slice-roots.result.now c.args.command.now.sources c.as_slice.result.now c.args.command.now.directories c.in-Ok-Stopped.field-0 c.in-Ok-Stopped.why c.in-Ok-Stopped.sources c.as_slice-roots.ensures c.as_slice.ensures c.in-Ok-Stopped.field-0-is c.in-Ok-Stopped.ensures.gathered).0 refl)
    refl
    (named_told c.as_slice-roots.result.now c.args.command.now.sources c.in-Ok-Stopped.sources c.in-Ok-Stopped.why _ _ _ c.as_slice-roots.ensures (c.tell_ungathered.ensures.told six))

pub returns-in-Ok-Stopped-clause-stopped : goal.returns-in-Ok-Stopped-clause-stopped
returns-in-Ok-Stopped-clause-stopped g c = λ six. stopped_line _ (ungathered_saying c.args.command.now.sources c.in-Ok-Stopped.sources c.in-Ok-Stopped.why) _ _ _
    (ungathered c.in-Ok-Stopped.sources c.in-Ok-Stopped.why
    (not_gathered (g.F.Files.held c.args.files.now) c.as_slice-roots.result.now c.args.command.now.sources c.as_slice.result.now c.args.command.now.directories c.in-Ok-Stopped.field-0 c.in-Ok-Stopped.why c.in-Ok-Stopped.sources c.as_slice-roots.ensures c.as_slice.ensures c.in-Ok-Stopped.field-0-is c.in-Ok-Stopped.ensures.gathered).0 refl)
    refl
    (named_stopped c.as_slice-roots.result.now c.args.command.now.sources c.in-Ok-Stopped.sources c.in-Ok-Stopped.why _ _ c.as_slice-roots.ensures (c.tell_ungathered.ensures.stopped six))

pub returns-in-Err-clause-told : goal.returns-in-Err-clause-told
returns-in-Err-clause-told g c = λ six. told_line _ (trouble_saying c.in-Err.trouble) _ _ _ _ (troubled c.in-Err.trouble (has_cause _ _ _ _ c.in-Err.is c.gather_roots.ensures.failed) refl) refl (c.tell_trouble.ensures.told six)

pub returns-in-Err-clause-stopped : goal.returns-in-Err-clause-stopped
returns-in-Err-clause-stopped g c = λ six. stopped_line _ (trouble_saying c.in-Err.trouble) _ _ _ (troubled c.in-Err.trouble (has_cause _ _ _ _ c.in-Err.is c.gather_roots.ensures.failed) refl) refl (c.tell_trouble.ensures.stopped six)
