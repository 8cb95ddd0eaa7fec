use Rattle.std.proofs.Common.{sym, subst}
use Rattle.p10_core.specs.Views.{plain_program}
use Rattle.p10_front.specs.Digests.{plain_digests}
use Rattle.p10_recheck_command.specs.Rechecking.{Rechecks}
use Rattle.p10_recheck_command.proofs.Rejudged.{absent_rechecked, bad_new, has_sections, listed_rechecked}
use Rattle.p10_recheck_command.proofs.judging.recheck_read.Goals as goal

pub ranks_among-requires : goal.ranks_among-requires
ranks_among-requires c = has_sections c.args.new.now c.args.certificate.now c.as_slice.result.now c.requires.read c.as_slice.ensures

pub returns-in-Bad : goal.returns-in-Bad
returns-in-Bad c = bad_new c.args.new.now c.args.certificate.now _ c.in-Bad.line c.requires.read c.in-Bad.is c.in_ok-line.ensures

pub returns-in_ok-said-in-Absent : goal.returns-in_ok-said-in-Absent
returns-in_ok-said-in-Absent c =
    subst (Rechecks (plain_program c.args.program.now) (plain_digests c.args.found.now) c.args.new.now c.args.old.now) (sym c.rechecking_by.ensures)
    (absent_rechecked (plain_program c.args.program.now) c.args.found.now c.args.new.now c.args.old.now c.args.certificate.now _ c.in_ok-said-in-Absent.said c.requires.read c.in-Absent.is c.in_ok-line.ensures c.in_ok-said-in-Absent.ensures)

pub returns-in_ok-said-in-Listed : goal.returns-in_ok-said-in-Listed
returns-in_ok-said-in-Listed c =
    subst (Rechecks (plain_program c.args.program.now) (plain_digests c.args.found.now) c.args.new.now c.args.old.now) (sym c.rechecking_by-in-Listed.ensures)
    (listed_rechecked (plain_program c.args.program.now) c.args.found.now c.args.new.now c.args.old.now c.args.certificate.now _ c.in-Listed.evidence c.in_ok-said-in-Listed.said c.requires.read c.in-Listed.is c.in_ok-line.ensures c.in_ok-said-in-Listed.ensures)
