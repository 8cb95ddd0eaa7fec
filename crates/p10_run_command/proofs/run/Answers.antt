use Rattle.std.proofs.Common.{refl, arith}
use Rattle.p10_command.proofs.OneOutput.{named_told, named_stopped, told_line, stopped_line}
use Rattle.p10_command.proofs.Sources.{all_gathered, not_gathered}
use Rattle.p10_command.specs.Saying.{trouble_saying, ungathered_saying}
use Rattle.p10_command.proofs.Causes.{has_cause, has_cause_later}
use Rattle.p10_run_command.specs.Answers.{absent, ungathered, troubled, absent_saying}
use Rattle.p10_run_command.proofs.Loaded.{first_absent, first_request}
use Rattle.p10_run_command.proofs.run.Goals as goal

pub tell_ungathered-requires : goal.tell_ungathered-requires
tell_ungathered-requires g c = (not_gathered (g.F.Files.held c.args.files.now) c.as_slice-roots.result.now c.as_slice-roots.result.now c.as_slice.result.now c.args.command.now.directories c.in-Ok-Stopped.field-0 c.in-Ok-Stopped.why c.in-Ok-Stopped.sources refl c.as_slice.ensures c.in-Ok-Stopped.field-0-is c.in-Ok-Stopped.ensures.gathered).1

pub run_sources-requires-clause-turns : goal.run_sources-requires-clause-turns
run_sources-requires-clause-turns g c =
    omega (arith, (first_request (g.F.Files.held c.args.files.now) (g.F.Files.held c.gather_roots-gathered.new.files) c.args.command.now c.in-Ok-Request.field-0 c.in-Ok-Request.request c.in-Ok-Request.field-0-is c.in-Ok-All.ensures.held c.in-Ok-Request.ensures.loaded).turns, c.requires.turns)

pub returns-in-Ok-Request-clause-told : goal.returns-in-Ok-Request-clause-told
returns-in-Ok-Request-clause-told g c = λ six. c.run_sources.ensures.told six c.args.command.now _
    (first_request (g.F.Files.held c.args.files.now) (g.F.Files.held c.gather_roots-gathered.new.files) c.args.command.now c.in-Ok-Request.field-0 c.in-Ok-Request.request c.in-Ok-Request.field-0-is c.in-Ok-All.ensures.held c.in-Ok-Request.ensures.loaded)
    (all_gathered (g.F.Files.held c.args.files.now) c.as_slice-roots.result.now c.args.command.now.sources c.as_slice.result.now c.args.command.now.directories c.in-Ok-All.field-0 c.in-Ok-All.sources c.as_slice-roots.ensures c.as_slice.ensures c.in-Ok-All.field-0-is c.in-Ok-All.ensures.gathered).0

pub returns-in-Ok-Request-clause-stopped : goal.returns-in-Ok-Request-clause-stopped
returns-in-Ok-Request-clause-stopped g c = λ six. c.run_sources.ensures.stopped six c.args.command.now _
    (first_request (g.F.Files.held c.args.files.now) (g.F.Files.held c.gather_roots-gathered.new.files) c.args.command.now c.in-Ok-Request.field-0 c.in-Ok-Request.request c.in-Ok-Request.field-0-is c.in-Ok-All.ensures.held c.in-Ok-Request.ensures.loaded)
    (all_gathered (g.F.Files.held c.args.files.now) c.as_slice-roots.result.now c.args.command.now.sources c.as_slice.result.now c.args.command.now.directories c.in-Ok-All.field-0 c.in-Ok-All.sources c.as_slice-roots.ensures c.as_slice.ensures c.in-Ok-All.field-0-is c.in-Ok-All.ensures.gathered).0

pub returns-in-Ok-Absent-clause-told : goal.returns-in-Ok-Absent-clause-told
returns-in-Ok-Absent-clause-told g c = λ six. told_line _ (absent_saying c.in-Ok-Absent.name.now) _ _ _ _
    (absent c.in-Ok-All.sources c.in-Ok-Absent.name.now
    (all_gathered (g.F.Files.held c.args.files.now) c.as_slice-roots.result.now c.args.command.now.sources c.as_slice.result.now c.args.command.now.directories c.in-Ok-All.field-0 c.in-Ok-All.sources c.as_slice-roots.ensures c.as_slice.ensures c.in-Ok-All.field-0-is c.in-Ok-All.ensures.gathered).0
    (first_absent (g.F.Files.held c.args.files.now) (g.F.Files.held c.gather_roots-gathered.new.files) c.args.command.now c.in-Ok-Absent.field-0 c.in-Ok-Absent.name c.in-Ok-Absent.field-0-is c.in-Ok-All.ensures.held c.in-Ok-Absent.ensures.loaded) refl)
    refl (c.tell_absent.ensures.told six)

pub returns-in-Ok-Absent-clause-stopped : goal.returns-in-Ok-Absent-clause-stopped
returns-in-Ok-Absent-clause-stopped g c = λ six. stopped_line _ (absent_saying c.in-Ok-Absent.name.now) _ _ _
    (absent c.in-Ok-All.sources c.in-Ok-Absent.name.now
    (all_gathered (g.F.Files.held c.args.files.now) c.as_slice-roots.result.now c.args.command.now.sources c.as_slice.result.now c.args.command.now.directories c.in-Ok-All.field-0 c.in-Ok-All.sources c.as_slice-roots.ensures c.as_slice.ensures c.in-Ok-All.field-0-is c.in-Ok-All.ensures.gathered).0
    (first_absent (g.F.Files.held c.args.files.now) (g.F.Files.held c.gather_roots-gathered.new.files) c.args.command.now c.in-Ok-Absent.field-0 c.in-Ok-Absent.name c.in-Ok-Absent.field-0-is c.in-Ok-All.ensures.held c.in-Ok-Absent.ensures.loaded) refl)
    refl (c.tell_absent.ensures.stopped six)

pub returns-in-Ok-All-clause-told : goal.returns-in-Ok-All-clause-told
returns-in-Ok-All-clause-told g c = λ six. told_line _ (trouble_saying c.in-Err-load_files.trouble) _ _ _ _
    (troubled c.in-Err-load_files.trouble (has_cause_later _ _ _ (g.F.Files.faults c.gather_roots-gathered.new.files) _ c.in-Err-load_files.is c.gather_roots-gathered.ensures.count c.load_files.ensures.failed) refl) refl (c.tell_trouble.ensures.told six)

pub returns-in-Ok-All-clause-stopped : goal.returns-in-Ok-All-clause-stopped
returns-in-Ok-All-clause-stopped g c = λ six. stopped_line _ (trouble_saying c.in-Err-load_files.trouble) _ _ _
    (troubled c.in-Err-load_files.trouble (has_cause_later _ _ _ (g.F.Files.faults c.gather_roots-gathered.new.files) _ c.in-Err-load_files.is c.gather_roots-gathered.ensures.count c.load_files.ensures.failed) refl) refl (c.tell_trouble.ensures.stopped six)

pub returns-in-Ok-Stopped-clause-told : goal.returns-in-Ok-Stopped-clause-told
returns-in-Ok-Stopped-clause-told g c = λ six. told_line _ (ungathered_saying c.args.command.now.sources c.in-Ok-Stopped.sources c.in-Ok-Stopped.why) _ _ _ _
    (ungathered c.in-Ok-Stopped.sources c.in-Ok-Stopped.why
    (not_gathered (g.F.Files.held c.args.files.now) c.as_slice-roots.result.now c.args.command.now.sources c.as_slice.result.now c.args.command.now.directories c.in-Ok-Stopped.field-0 c.in-Ok-Stopped.why c.in-Ok-Stopped.sources c.as_slice-roots.ensures c.as_slice.ensures c.in-Ok-Stopped.field-0-is c.in-Ok-Stopped.ensures.gathered).0 refl)
    refl
    (named_told c.as_slice-roots.result.now c.args.command.now.sources c.in-Ok-Stopped.sources c.in-Ok-Stopped.why _ _ _ c.as_slice-roots.ensures (c.tell_ungathered.ensures.told six))

pub returns-in-Ok-Stopped-clause-stopped : goal.returns-in-Ok-Stopped-clause-stopped
returns-in-Ok-Stopped-clause-stopped g c = λ six. stopped_line _ (ungathered_saying c.args.command.now.sources c.in-Ok-Stopped.sources c.in-Ok-Stopped.why) _ _ _
    (ungathered c.in-Ok-Stopped.sources c.in-Ok-Stopped.why
    (not_gathered (g.F.Files.held c.args.files.now) c.as_slice-roots.result.now c.args.command.now.sources c.as_slice.result.now c.args.command.now.directories c.in-Ok-Stopped.field-0 c.in-Ok-Stopped.why c.in-Ok-Stopped.sources c.as_slice-roots.ensures c.as_slice.ensures c.in-Ok-Stopped.field-0-is c.in-Ok-Stopped.ensures.gathered).0 refl)
    refl
    (named_stopped c.as_slice-roots.result.now c.args.command.now.sources c.in-Ok-Stopped.sources c.in-Ok-Stopped.why _ _ c.as_slice-roots.ensures (c.tell_ungathered.ensures.stopped six))

pub returns-clause-told : goal.returns-clause-told
returns-clause-told g c = λ six. told_line _ (trouble_saying c.in-Err.trouble) _ _ _ _ (troubled c.in-Err.trouble (has_cause _ _ _ _ c.in-Err.is c.gather_roots-gathered.ensures.failed) refl) refl (c.tell_trouble-in-Err.ensures.told six)

pub returns-clause-stopped : goal.returns-clause-stopped
returns-clause-stopped g c = λ six. stopped_line _ (trouble_saying c.in-Err.trouble) _ _ _ (troubled c.in-Err.trouble (has_cause _ _ _ _ c.in-Err.is c.gather_roots-gathered.ensures.failed) refl) refl (c.tell_trouble-in-Err.ensures.stopped six)
