use Rattle.std.proofs.Common.{refl}
use Rattle.p10_command.specs.declared.trouble.Trouble.TheVariants.{Memory}
use Rattle.p10_command.proofs.OneOutput.{told_line, stopped_line}
use Rattle.p10_command.proofs.Sources.{are_program, are_unread, whole_program}
use Rattle.p10_command.specs.Saying.{trouble_saying, unread_saying}
use Rattle.p10_run_command.specs.Answers.{unread, troubled}
use Rattle.p10_run_command.proofs.Granted.{asked_are_held}
use Rattle.p10_run_command.proofs.Running.{program_told, program_stopped, either_rose}
use Rattle.p10_run_command.proofs.program.run_sources.Goals as goal

pub run_reading-end-requires-clause-program : goal.run_reading-end-requires-clause-program
run_reading-end-requires-clause-program g c = whole_program c.args.sources.now c.in-Ok-Program.reading (are_program c.args.sources.now c.in-Ok-Program.field-0 c.in-Ok-Program.reading c.in-Ok-Program.field-0-is c.in-Ok-Program.ensures)

pub returns-in-Ok-Program-clause-told : goal.returns-in-Ok-Program-clause-told
returns-in-Ok-Program-clause-told g c = λ six command seen is gathers.
    program_told command seen _ c.args.request.now c.args.sources.now c.in-Ok-Program.reading c.run_reading-end.result _ _ _ _ _ is gathers
    (are_program c.args.sources.now c.in-Ok-Program.field-0 c.in-Ok-Program.reading c.in-Ok-Program.field-0-is c.in-Ok-Program.ensures)
    c.run_reading-end.ensures.comes c.run_reading-end.ensures.read (c.tell_end.ensures.told six) six

pub returns-in-Ok-Program-clause-stopped : goal.returns-in-Ok-Program-clause-stopped
returns-in-Ok-Program-clause-stopped g c = λ six command seen is gathers.
    program_stopped command seen _ c.args.request.now c.args.sources.now c.in-Ok-Program.reading c.run_reading-end.result _ _ _ _ is gathers
    (are_program c.args.sources.now c.in-Ok-Program.field-0 c.in-Ok-Program.reading c.in-Ok-Program.field-0-is c.in-Ok-Program.ensures)
    c.run_reading-end.ensures.comes c.run_reading-end.ensures.read (c.tell_end.ensures.stopped six)

pub returns-in-Ok-Program-clause-write : goal.returns-in-Ok-Program-clause-write
returns-in-Ok-Program-clause-write g c = λ six. either_rose c.run_reading-end.ensures.write (c.tell_end.ensures.write six)

pub tell_unread-requires : goal.tell_unread-requires
tell_unread-requires g c = (are_unread c.args.sources.now c.in-Ok-Unread.field-0 c.in-Ok-Unread.why c.in-Ok-Unread.field-0-is c.in-Ok-Unread.ensures).1

pub returns-in-Ok-Unread-clause-told : goal.returns-in-Ok-Unread-clause-told
returns-in-Ok-Unread-clause-told g c = λ six command seen is gathers.
    told_line _ (unread_saying c.args.sources.now c.in-Ok-Unread.why) _ _ _ _
    (unread c.args.sources.now c.in-Ok-Unread.why gathers (asked_are_held seen.held command c.args.request.now is) (are_unread c.args.sources.now c.in-Ok-Unread.field-0 c.in-Ok-Unread.why c.in-Ok-Unread.field-0-is c.in-Ok-Unread.ensures).0 refl)
    refl (c.tell_unread.ensures.told six)

pub returns-in-Ok-Unread-clause-stopped : goal.returns-in-Ok-Unread-clause-stopped
returns-in-Ok-Unread-clause-stopped g c = λ six command seen is gathers.
    stopped_line _ (unread_saying c.args.sources.now c.in-Ok-Unread.why) _ _ _
    (unread c.args.sources.now c.in-Ok-Unread.why gathers (asked_are_held seen.held command c.args.request.now is) (are_unread c.args.sources.now c.in-Ok-Unread.field-0 c.in-Ok-Unread.why c.in-Ok-Unread.field-0-is c.in-Ok-Unread.ensures).0 refl)
    refl (c.tell_unread.ensures.stopped six)

pub returns-in-Err-clause-told : goal.returns-in-Err-clause-told
returns-in-Err-clause-told g c = λ six command seen is gathers. told_line _ (trouble_saying Memory) _ _ _ _ (troubled Memory tt refl) refl (c.tell_trouble.ensures.told six)

pub returns-in-Err-clause-stopped : goal.returns-in-Err-clause-stopped
returns-in-Err-clause-stopped g c = λ six command seen is gathers. stopped_line _ (trouble_saying Memory) _ _ _ (troubled Memory tt refl) refl (c.tell_trouble.ensures.stopped six)
