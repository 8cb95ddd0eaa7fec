use Rattle.std.proofs.Common.{sym, ap, ◌∙◌}
use Rattle.p10_migrate_command.specs.Migrating.{text_or_limit}
use Rattle.p10_migrate_command.proofs.decide.seal.Goals as goal

pub returns-in-Some : goal.returns-in-Some
returns-in-Some c = ap text_or_limit (sym c.in-Some.is ∙ c.in_ok-text.ensures)

pub returns-in-None : goal.returns-in-None
returns-in-None c = ap text_or_limit (sym c.in-None.is ∙ c.in_ok-text.ensures)
