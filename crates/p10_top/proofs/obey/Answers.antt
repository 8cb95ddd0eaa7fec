use Rattle.std.proofs.Common.{ap, sym, ◌∙◌}
use Rattle.p10_words.specs.declared.command.Command.TheVariants.{Generate}
use Rattle.p10_top.proofs.Telling.{of_check, of_derive, of_migrate, of_verify, of_recheck, of_run, told_of, stopped_of}
use Rattle.p10_top.proofs.obey.Goals as goal

pub returns-in-Check-clause-told : goal.returns-in-Check-clause-told
returns-in-Check-clause-told g c = λ six. told_of c.args.command (of_check c.check_command.result) _ _ _ _ _ _ _ (c.in-Check.is ∙ ap of_check (sym c.check_command.ensures)) (c.check.ensures.told six)

pub returns-in-Check-clause-stopped : goal.returns-in-Check-clause-stopped
returns-in-Check-clause-stopped g c = λ six. stopped_of c.args.command (of_check c.check_command.result) _ _ _ _ _ _ (c.in-Check.is ∙ ap of_check (sym c.check_command.ensures)) (c.check.ensures.stopped six)

pub returns-in-Derive-clause-told : goal.returns-in-Derive-clause-told
returns-in-Derive-clause-told g c = λ six. told_of c.args.command (of_derive c.derive_command-command.result) _ _ _ _ _ _ _ (c.in-Derive.is ∙ ap of_derive (sym c.derive_command-command.ensures)) (c.derive.ensures.told six)

pub returns-in-Derive-clause-stopped : goal.returns-in-Derive-clause-stopped
returns-in-Derive-clause-stopped g c = λ six. stopped_of c.args.command (of_derive c.derive_command-command.result) _ _ _ _ _ _ (c.in-Derive.is ∙ ap of_derive (sym c.derive_command-command.ensures)) (c.derive.ensures.stopped six)

pub returns-in-Migrate-clause-told : goal.returns-in-Migrate-clause-told
returns-in-Migrate-clause-told g c = λ six. told_of c.args.command (of_migrate c.migrate_command-command.result) _ _ _ _ _ _ _ (c.in-Migrate.is ∙ ap of_migrate (sym c.migrate_command-command.ensures)) (c.migrate.ensures.told six)

pub returns-in-Migrate-clause-stopped : goal.returns-in-Migrate-clause-stopped
returns-in-Migrate-clause-stopped g c = λ six. stopped_of c.args.command (of_migrate c.migrate_command-command.result) _ _ _ _ _ _ (c.in-Migrate.is ∙ ap of_migrate (sym c.migrate_command-command.ensures)) (c.migrate.ensures.stopped six)

pub returns-in-Verify-clause-told : goal.returns-in-Verify-clause-told
returns-in-Verify-clause-told g c = λ six. told_of c.args.command (of_verify c.verify_command-command.result) _ _ _ _ _ _ _ (c.in-Verify.is ∙ ap of_verify (sym c.verify_command-command.ensures)) (c.verify.ensures.told six)

pub returns-in-Verify-clause-stopped : goal.returns-in-Verify-clause-stopped
returns-in-Verify-clause-stopped g c = λ six. stopped_of c.args.command (of_verify c.verify_command-command.result) _ _ _ _ _ _ (c.in-Verify.is ∙ ap of_verify (sym c.verify_command-command.ensures)) (c.verify.ensures.stopped six)

pub returns-in-Recheck-clause-told : goal.returns-in-Recheck-clause-told
returns-in-Recheck-clause-told g c = λ six. told_of c.args.command (of_recheck c.recheck_command-command.result) _ _ _ _ _ _ _ (c.in-Recheck.is ∙ ap of_recheck (sym c.recheck_command-command.ensures)) (c.recheck.ensures.told six)

pub returns-in-Recheck-clause-stopped : goal.returns-in-Recheck-clause-stopped
returns-in-Recheck-clause-stopped g c = λ six. stopped_of c.args.command (of_recheck c.recheck_command-command.result) _ _ _ _ _ _ (c.in-Recheck.is ∙ ap of_recheck (sym c.recheck_command-command.ensures)) (c.recheck.ensures.stopped six)

pub returns-in-Run-clause-told : goal.returns-in-Run-clause-told
returns-in-Run-clause-told g c = λ six. told_of c.args.command (of_run c.run_command-command.result) _ _ _ _ _ _ _ (c.in-Run.is ∙ ap of_run (sym c.run_command-command.ensures)) (c.run.ensures.told six)

pub returns-in-Run-clause-stopped : goal.returns-in-Run-clause-stopped
returns-in-Run-clause-stopped g c = λ six. stopped_of c.args.command (of_run c.run_command-command.result) _ _ _ _ _ _ (c.in-Run.is ∙ ap of_run (sym c.run_command-command.ensures)) (c.run.ensures.stopped six)

pub returns-in-Generate-clause-told : goal.returns-in-Generate-clause-told
returns-in-Generate-clause-told g c = λ six. told_of c.args.command (Generate c.in-Generate.functions) _ _ _ _ _ _ _ c.in-Generate.is (c.generate.ensures.told six)

pub returns-in-Generate-clause-stopped : goal.returns-in-Generate-clause-stopped
returns-in-Generate-clause-stopped g c = λ six. stopped_of c.args.command (Generate c.in-Generate.functions) _ _ _ _ _ _ c.in-Generate.is (c.generate.ensures.stopped six)
