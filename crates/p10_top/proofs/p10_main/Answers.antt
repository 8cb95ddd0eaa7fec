use Rattle.std.proofs.Common.{None}
use Rattle.p10_top.proofs.CommandWords.{few_sources, few_turns, no_run}
use Rattle.p10_top.proofs.Certified.{never_spent, not_spent}
use Rattle.p10_top.proofs.Deriving.{derived}
use Rattle.p10_top.proofs.Telling.{verified, told_command, stopped_command, told_unread, stopped_unread, unread_is_none}
use Rattle.p10_top.proofs.Completing.{accepts_accepted, derives_derived}
use Rattle.p10_top.proofs.p10_main.Goals as goal

pub obey-requires-clause-few : goal.obey-requires-clause-few
obey-requires-clause-few g c = few_sources _ c.in-Ok.command c.in-Ok.ensures.found

pub obey-requires-clause-turns : goal.obey-requires-clause-turns
obey-requires-clause-turns g c = few_turns _ c.in-Ok.command c.in-Ok.ensures.found

pub returns-in-Ok-clause-input : goal.returns-in-Ok-clause-input
returns-in-Ok-clause-input g c = λ none. c.obey.ensures.input (no_run _ c.in-Ok.command c.in-Ok.ensures.found none)

pub returns-in-Ok-clause-headline : goal.returns-in-Ok-clause-headline
returns-in-Ok-clause-headline g c = verified c.accepted_certificates_bound_every_run.ensures.lawful c.standing_is_lawful.ensures c.clean_certificates_exclude_undefined_operations.ensures.any_evidence _ _ _ _ _ _ _ _ _ _ (λ six. told_command _ c.in-Ok.command _ _ _ _ _ _ _ c.in-Ok.ensures.found (c.obey.ensures.told six))

pub returns-in-Ok-clause-derived : goal.returns-in-Ok-clause-derived
returns-in-Ok-clause-derived g c =
    derived c.derived_certificates_are_accepted.ensures.bounds c.derived_certificates_are_accepted.ensures.accepted c.derived_certificates_are_verified.ensures.certificates _ _ _ _ _ _ _ _ _ _ (λ six. told_command _ c.in-Ok.command _ _ _ _ _ _ _ c.in-Ok.ensures.found (c.obey.ensures.told six))

pub returns-in-Ok-clause-told : goal.returns-in-Ok-clause-told
returns-in-Ok-clause-told g c = λ six. told_command _ c.in-Ok.command _ _ _ _ _ _ _ c.in-Ok.ensures.found (c.obey.ensures.told six)

pub returns-in-Ok-clause-stopped : goal.returns-in-Ok-clause-stopped
returns-in-Ok-clause-stopped g c = λ six. stopped_command _ c.in-Ok.command _ _ _ _ _ _ c.in-Ok.ensures.found (c.obey.ensures.stopped six)

pub returns-in-Err-clause-headline : goal.returns-in-Err-clause-headline
returns-in-Err-clause-headline g c = λ zero. absurd (unread_is_none c.in-Err.fault _ c.tell_unread.ensures.status zero)

pub returns-in-Err-clause-derived : goal.returns-in-Err-clause-derived
returns-in-Err-clause-derived g c = λ zero. absurd (unread_is_none c.in-Err.fault _ c.tell_unread.ensures.status zero)

pub returns-in-Err-clause-told : goal.returns-in-Err-clause-told
returns-in-Err-clause-told g c = λ six. told_unread _ _ _ c.in-Err.fault c.read_words.result _ _ _ _ c.in-Err.is c.read_words.ensures.refused (c.tell_unread.ensures.status six) (c.tell_unread.ensures.told six)

pub returns-in-Err-clause-stopped : goal.returns-in-Err-clause-stopped
returns-in-Err-clause-stopped g c = λ six. stopped_unread _ _ _ c.in-Err.fault c.read_words.result _ _ _ c.in-Err.is c.read_words.ensures.refused (c.tell_unread.ensures.stopped six)

pub returns-in-Ok-clause-steps : goal.returns-in-Ok-clause-steps
returns-in-Ok-clause-steps g c = λ line. never_spent c.certificates_leave_steps.ensures _ _ _ _ _ _ _ _ (λ six. told_command _ c.in-Ok.command _ _ _ _ _ _ _ c.in-Ok.ensures.found (c.obey.ensures.told six)) line

pub returns-in-Err-clause-steps : goal.returns-in-Err-clause-steps
returns-in-Err-clause-steps g c = λ line tells. not_spent c.in-Err.fault _ c.tell_unread.ensures.status

pub returns-in-Ok-clause-accepts : goal.returns-in-Ok-clause-accepts
returns-in-Ok-clause-accepts g c = accepts_accepted c.one_answer_is_right.ensures _ _ _ _ _ _ _ _ _ _ (λ six. told_command _ c.in-Ok.command _ _ _ _ _ _ _ c.in-Ok.ensures.found (c.obey.ensures.told six))

pub returns-in-Err-clause-accepts : goal.returns-in-Err-clause-accepts
returns-in-Err-clause-accepts g c = accepts_accepted c.one_answer_is_right.ensures _ 0 0 _ (record { left = None; faults_before = 0; faults_after = 0 }) None None _ _ _ (λ six. told_unread _ _ _ c.in-Err.fault c.read_words.result _ _ _ _ c.in-Err.is c.read_words.ensures.refused (c.tell_unread.ensures.status six) (c.tell_unread.ensures.told six))

pub returns-in-Ok-clause-derives : goal.returns-in-Ok-clause-derives
returns-in-Ok-clause-derives g c = derives_derived c.one_answer_is_right-2.ensures _ _ _ _ _ _ _ _ _ _ (λ six. told_command _ c.in-Ok.command _ _ _ _ _ _ _ c.in-Ok.ensures.found (c.obey.ensures.told six))

pub returns-in-Err-clause-derives : goal.returns-in-Err-clause-derives
returns-in-Err-clause-derives g c = derives_derived c.one_answer_is_right-2.ensures _ 0 0 _ (record { left = None; faults_before = 0; faults_after = 0 }) None None _ _ _ (λ six. told_unread _ _ _ c.in-Err.fault c.read_words.result _ _ _ _ c.in-Err.is c.read_words.ensures.refused (c.tell_unread.ensures.status six) (c.tell_unread.ensures.told six))
