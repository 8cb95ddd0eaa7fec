use Rattle.std.proofs.Common.{◌∙◌, ap, inr, refl}
use Rattle.p10_report.specs.Json.{json_text}
use Rattle.p10_command.specs.declared.trouble.Trouble.TheVariants.{Memory}
use Rattle.p10_command.specs.Saying.{trouble_saying}
use Rattle.p10_command.proofs.OneOutput.{stopped_line, told_line}
use Rattle.p10_check_command.proofs.Said.{json_stopped, json_told, lines_stopped, lines_told}
use Rattle.p10_check_command.proofs.tell.tell_report.Goals as goal

pub returns-then-not-command-clause-told : goal.returns-then-not-command-clause-told
returns-then-not-command-clause-told g c = λ six. lines_told c.args.command.now c.args.sources.now c.args.report.now _ _ _ _ c.if-not-command.true (c.tell_lines.ensures.status six) (c.tell_lines.ensures.told six)

pub returns-then-not-command-clause-stopped : goal.returns-then-not-command-clause-stopped
returns-then-not-command-clause-stopped g c = λ six. lines_stopped c.args.command.now c.args.sources.now c.args.report.now _ _ _ c.if-not-command.true (c.tell_lines.ensures.stopped six)

pub returns-in-Ok-clause-told : goal.returns-in-Ok-clause-told
returns-in-Ok-clause-told g c = λ six.
    json_told c.args.command.now c.args.sources.now c.args.report.now c.as_str.result.now _ _ _ _ c.if-not-command.false
    (c.as_str.ensures.value ∙ c.in-Ok.ensures ∙ ap (λ vs. json_text c.args.sources.now vs c.args.report.now.refusal) c.as_slice-violations.ensures) (c.tell_json.ensures.status six) (c.tell_json.ensures.told six)

pub returns-in-Ok-clause-stopped : goal.returns-in-Ok-clause-stopped
returns-in-Ok-clause-stopped g c = λ six.
    json_stopped c.args.command.now c.args.sources.now c.args.report.now c.as_str.result.now _ _ _ c.if-not-command.false
    (c.as_str.ensures.value ∙ c.in-Ok.ensures ∙ ap (λ vs. json_text c.args.sources.now vs c.args.report.now.refusal) c.as_slice-violations.ensures) (c.tell_json.ensures.stopped six)

pub returns-in-Err-clause-told : goal.returns-in-Err-clause-told
returns-in-Err-clause-told g c = λ six. told_line _ (trouble_saying Memory) _ _ _ _ (inr refl) refl (c.tell_trouble.ensures.told six)

pub returns-in-Err-clause-stopped : goal.returns-in-Err-clause-stopped
returns-in-Err-clause-stopped g c = λ six. stopped_line _ (trouble_saying Memory) _ _ _ (inr refl) refl (c.tell_trouble.ensures.stopped six)
