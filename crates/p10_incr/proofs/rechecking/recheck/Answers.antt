use Rattle.std.proofs.Common.{◌≡◌, ◌∙◌, List, map, None, sym, ap}
use Rattle.std.specs.Prelude.{option_map}
use Rattle.p10_core.specs.Views.{plain_program}
use Rattle.p10_cert.specs.Claims.{claims_of}
use Rattle.p10_cert.specs.Sealed.{bytes_of, entries_of}
use Rattle.p10_check.specs.Texts.{first_stale}
use Rattle.p10_incr.specs.Edits.{edit_of}
use Rattle.p10_incr.specs.private.Entries.{stale_of}
use Rattle.p10_incr.proofs.Entries.{claims_same}
use Rattle.p10_incr.proofs.Judged.{judged_after, passed_after, passed_so, front_so}
use Rattle.p10_incr.proofs.rechecking.recheck.Goals as goal

pub returns-in-None-clause-verdict : goal.returns-in-None-clause-verdict
returns-in-None-clause-verdict g c =
    judged_after (g.E.Evidence.standing c.args.evidence.now (plain_program c.args.program.now)) (plain_program c.args.program.now) (edit_of c.args.found.now c.args.old.now c.args.new.now) (claims_of c.args.new.now.base)
    (claims_same c.args.new.now c.requires.digests)
    ((λ i. first_stale 0 (entries_of (sym c.as_slice.ensures i) (sym c.as_slice-2.ensures i)) (map bytes_of (sym c.as_slice-3.ensures i))) ∙ sym c.first_stale-stale.ensures ∙ ap (option_map stale_of) c.in-None.is)
    c.verdict_on_claims.result c.verdict_on_claims.ensures.verdict

pub returns-in-None-clause-passed : goal.returns-in-None-clause-passed
returns-in-None-clause-passed g c =
    passed_so c.verdict_on_claims.result _ _ _ _
    (passed_after (plain_program c.args.program.now) (edit_of c.args.found.now c.args.old.now c.args.new.now) (claims_of c.args.new.now.base) (claims_same c.args.new.now c.requires.digests)
    ((λ i. first_stale 0 (entries_of (sym c.as_slice.ensures i) (sym c.as_slice-2.ensures i)) (map bytes_of (sym c.as_slice-3.ensures i))) ∙ sym c.first_stale-stale.ensures ∙ ap (option_map stale_of) c.in-None.is))
    c.verdict_on_claims.ensures.passed

pub returns-in-None-clause-front : goal.returns-in-None-clause-front
returns-in-None-clause-front g c =
    front_so c.verdict_on_claims.result _ _ _ _
    (passed_after (plain_program c.args.program.now) (edit_of c.args.found.now c.args.old.now c.args.new.now) (claims_of c.args.new.now.base) (claims_same c.args.new.now c.requires.digests)
    ((λ i. first_stale 0 (entries_of (sym c.as_slice.ensures i) (sym c.as_slice-2.ensures i)) (map bytes_of (sym c.as_slice-3.ensures i))) ∙ sym c.first_stale-stale.ensures ∙ ap (option_map stale_of) c.in-None.is))
    c.verdict_on_claims.ensures.front
