use Rattle.std.proofs.Common.{refl}
use Rattle.p10_command.specs.declared.trouble.Trouble.TheVariants.{Memory}
use Rattle.p10_command.specs.Saying.{trouble_saying, unread_saying}
use Rattle.p10_derive_command.specs.Answers.{SaysRight, unread, troubled}
use Rattle.p10_derive_command.specs.private.Telling.{end_saying}
use Rattle.p10_derive_command.proofs.Deriving.{reading_is_right}
use Rattle.p10_command.proofs.Sources.{are_program, are_unread, whole_program}
use Rattle.p10_command.proofs.OneOutput.{told_line, stopped_line}
use Rattle.p10_derive_command.proofs.Telling.{said_right, stopped_right}
use Rattle.p10_derive_command.proofs.program.derive_sources.Goals as goal

pub derive_reading-end-requires : goal.derive_reading-end-requires
derive_reading-end-requires g c = whole_program c.args.sources.now c.in-Ok-Program.reading (are_program c.args.sources.now c.in-Ok-Program.field-0 c.in-Ok-Program.reading c.in-Ok-Program.field-0-is c.in-Ok-Program.ensures)

pub returns-in-Ok-Program-clause-told : goal.returns-in-Ok-Program-clause-told
returns-in-Ok-Program-clause-told g c = λ six derive seen asked ranked gathers.
    said_right (SaysRight derive seen) (end_saying c.args.sources.now c.derive_reading-end.result) _ _ _ _ _
    (reading_is_right derive seen c.args.sources.now c.in-Ok-Program.reading c.args.version c.args.diff c.derive_reading-end.result asked ranked gathers
    (are_program c.args.sources.now c.in-Ok-Program.field-0 c.in-Ok-Program.reading c.in-Ok-Program.field-0-is c.in-Ok-Program.ensures) c.derive_reading-end.ensures)
    (c.tell_end.ensures.told six)

pub returns-in-Ok-Program-clause-stopped : goal.returns-in-Ok-Program-clause-stopped
returns-in-Ok-Program-clause-stopped g c = λ six derive seen asked ranked gathers.
    stopped_right (SaysRight derive seen) (end_saying c.args.sources.now c.derive_reading-end.result) _ _ _ _
    (reading_is_right derive seen c.args.sources.now c.in-Ok-Program.reading c.args.version c.args.diff c.derive_reading-end.result asked ranked gathers
    (are_program c.args.sources.now c.in-Ok-Program.field-0 c.in-Ok-Program.reading c.in-Ok-Program.field-0-is c.in-Ok-Program.ensures) c.derive_reading-end.ensures)
    (c.tell_end.ensures.stopped six)

pub tell_unread-requires : goal.tell_unread-requires
tell_unread-requires g c = (are_unread c.args.sources.now c.in-Ok-Unread.field-0 c.in-Ok-Unread.why c.in-Ok-Unread.field-0-is c.in-Ok-Unread.ensures).1

pub returns-in-Ok-Unread-clause-told : goal.returns-in-Ok-Unread-clause-told
returns-in-Ok-Unread-clause-told g c = λ six derive seen asked ranked gathers.
    told_line (SaysRight derive seen) (unread_saying c.args.sources.now c.in-Ok-Unread.why) _ _ _ _
    (unread c.args.sources.now c.in-Ok-Unread.why gathers (are_unread c.args.sources.now c.in-Ok-Unread.field-0 c.in-Ok-Unread.why c.in-Ok-Unread.field-0-is c.in-Ok-Unread.ensures).0 refl)
    refl (c.tell_unread.ensures.told six)

pub returns-in-Ok-Unread-clause-stopped : goal.returns-in-Ok-Unread-clause-stopped
returns-in-Ok-Unread-clause-stopped g c = λ six derive seen asked ranked gathers.
    stopped_line (SaysRight derive seen) (unread_saying c.args.sources.now c.in-Ok-Unread.why) _ _ _
    (unread c.args.sources.now c.in-Ok-Unread.why gathers (are_unread c.args.sources.now c.in-Ok-Unread.field-0 c.in-Ok-Unread.why c.in-Ok-Unread.field-0-is c.in-Ok-Unread.ensures).0 refl)
    refl (c.tell_unread.ensures.stopped six)

pub returns-in-Err-clause-told : goal.returns-in-Err-clause-told
returns-in-Err-clause-told g c = λ six derive seen asked ranked gathers. told_line (SaysRight derive seen) (trouble_saying Memory) _ _ _ _ (troubled Memory tt refl) refl (c.tell_trouble.ensures.told six)

pub returns-in-Err-clause-stopped : goal.returns-in-Err-clause-stopped
returns-in-Err-clause-stopped g c = λ six derive seen asked ranked gathers. stopped_line (SaysRight derive seen) (trouble_saying Memory) _ _ _ (troubled Memory tt refl) refl (c.tell_trouble.ensures.stopped six)
