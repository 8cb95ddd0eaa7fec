use Rattle.std.proofs.Common.{refl}
use Rattle.p10_core.specs.Views.{plain_program}
use Rattle.p10_front.specs.Digests.{plain_digests}
use Rattle.p10_migrate_command.specs.Migrating.{too_long}
use Rattle.p10_migrate_command.proofs.Coming.{bad_comes, whole_comes}
use Rattle.p10_migrate_command.proofs.decide.migrate_bytes.Goals as goal

pub returns-then-is_too_long : goal.returns-then-is_too_long
returns-then-is_too_long c = too_long (c.is_too_long.ensures.yes c.if-is_too_long.true) refl

pub returns-in-Bad : goal.returns-in-Bad
returns-in-Bad c =
    bad_comes (plain_program c.args.program.now) (plain_digests c.args.found) c.args.certificate.now c.in_ok-line.field-0 c.in-Bad.line (c.is_too_long.ensures.no c.if-is_too_long.false) c.in-Bad.is c.in_ok-line.ensures

pub returns-in-Whole : goal.returns-in-Whole
returns-in-Whole c =
    whole_comes (plain_program c.args.program.now) (plain_digests c.args.found) c.args.certificate.now c.in_ok-line.field-0 c.in-Whole.claims c.in-Whole.kept c.as_slice.result.now c.in-Whole.field-2 c.migrate_whole.result
    (c.is_too_long.ensures.no c.if-is_too_long.false) c.in-Whole.is c.in_ok-line.ensures c.as_slice.ensures c.migrate_whole.ensures
