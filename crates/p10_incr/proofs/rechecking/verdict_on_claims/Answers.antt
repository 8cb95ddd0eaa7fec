use Rattle.std.proofs.Common.{◌∙◌, ◌++◌, None, ap, subst, sym}
use Rattle.std.specs.Prelude.{option_map}
use Rattle.std.proofs.lemmas.List.{append-nil}
use Rattle.p10_core.specs.Views.{plain_program}
use Rattle.p10_cert.specs.Claims.{claims_of}
use Rattle.p10_pass.specs.Leaving.{failing_of}
use Rattle.p10_check.specs.Fails.{failures_of}
use Rattle.p10_incr.specs.Edits.{dirty}
use Rattle.p10_incr.specs.Passing.{PassedFront}
use Rattle.p10_incr.specs.Rechecking.{first_from}
use Rattle.p10_incr.specs.private.Entries.{known_edit}
use Rattle.p10_incr.proofs.Judged.{misfit_judged, fit_judged, none_passed, all_passed, on_err, not_yet}
use Rattle.p10_incr.proofs.rechecking.verdict_on_claims.Goals as goal

pub returns-in-Some-clause-verdict : goal.returns-in-Some-clause-verdict
returns-in-Some-clause-verdict g c =
    misfit_judged (g.E.Evidence.standing c.args.evidence.now (plain_program c.args.program.now)) (plain_program c.args.program.now) (claims_of c.args.edit.new.now.base) (dirty (plain_program c.args.program.now) (known_edit c.args.edit))
    (failures_of c.in_ok-shape.shape.items) (failures_of c.as_slice-2.result.now) (option_map failing_of c.misfit_in.result) (failing_of c.in-Some.misfit) c.verdict_by.result c.in_ok-shape.ensures
    (ap failures_of c.as_slice-2.ensures.value) c.misfit_in.ensures (ap (option_map failing_of) c.in-Some.is) c.verdict_by.ensures

pub returns-in-Some-clause-passed : goal.returns-in-Some-clause-passed
returns-in-Some-clause-passed g c =
    sym (ap (λ numbers. g.P.Passer.passed c.args.passer.now ++ numbers)
    (none_passed (plain_program c.args.program.now) (claims_of c.args.edit.new.now.base) (dirty (plain_program c.args.program.now) (known_edit c.args.edit))
    (failures_of c.in_ok-shape.shape.items) (failures_of c.as_slice-2.result.now) (option_map failing_of c.misfit_in.result) (failing_of c.in-Some.misfit) c.in_ok-shape.ensures
    (ap failures_of c.as_slice-2.ensures.value) c.misfit_in.ensures (ap (option_map failing_of) c.in-Some.is)) ∙ append-nil (g.P.Passer.passed c.args.passer.now))

pub returns-in_err-numbers-in-None-clause-front : goal.returns-in_err-numbers-in-None-clause-front
returns-in_err-numbers-in-None-clause-front g c = on_err c.from_residual-in_err-numbers-in-None.result _ (not_yet _ _)

pub returns-clause-verdict : goal.returns-clause-verdict
returns-clause-verdict g c =
    fit_judged (g.E.Evidence.standing c.args.evidence.now (plain_program c.args.program.now)) (plain_program c.args.program.now) (claims_of c.args.edit.new.now.base) (dirty (plain_program c.args.program.now) (known_edit c.args.edit))
    c.as_slice-in-None-3.result.now (failures_of c.in_ok-shape.shape.items) (failures_of c.as_slice-2.result.now) (option_map failing_of c.misfit_in.result) (option_map failing_of c.first_from-first.result) (option_map failing_of c.in_ok-first-in-None.first)
    c.verdict_by-in-None.result c.in_ok-shape.ensures c.misfit_in.ensures (ap (option_map failing_of) c.in-None.is) (ap failures_of c.as_slice-2.ensures.value)
    (c.first_from-first.ensures ∙ ap (λ fails. first_from None (failures_of fails)) (c.as_slice-in-None-2.ensures.value ∙ sym c.as_slice-2.ensures.value))
    (c.as_slice-in-None-3.ensures.value ∙ c.in_ok-numbers-in-None.ensures) c.in_ok-first-in-None.ensures.found c.verdict_by-in-None.ensures

pub returns-clause-passed : goal.returns-clause-passed
returns-clause-passed g c =
    c.in_ok-first-in-None.ensures.passed
    ∙ ap (λ numbers. g.P.Passer.passed c.args.passer.now ++ numbers) (c.as_slice-in-None-3.ensures.value ∙ c.in_ok-numbers-in-None.ensures
    ∙ sym (all_passed (plain_program c.args.program.now) (claims_of c.args.edit.new.now.base) (dirty (plain_program c.args.program.now) (known_edit c.args.edit))
    (failures_of c.in_ok-shape.shape.items) (failures_of c.as_slice-2.result.now) (option_map failing_of c.misfit_in.result) c.in_ok-shape.ensures (ap failures_of c.as_slice-2.ensures.value) c.misfit_in.ensures
    (ap (option_map failing_of) c.in-None.is)))

pub returns-in_err-first-in-None-clause-front : goal.returns-in_err-first-in-None-clause-front
returns-in_err-first-in-None-clause-front g c =
    on_err c.from_residual-in_err-first-in-None.result _
    (subst (PassedFront (g.P.Passer.passed c.args.passer.now) (g.P.Passer.passed c.first_among.new.passer)) (c.as_slice-in-None-3.ensures.value ∙ c.in_ok-numbers-in-None.ensures
    ∙ sym (all_passed (plain_program c.args.program.now) (claims_of c.args.edit.new.now.base) (dirty (plain_program c.args.program.now) (known_edit c.args.edit))
    (failures_of c.in_ok-shape.shape.items) (failures_of c.as_slice-2.result.now) (option_map failing_of c.misfit_in.result) c.in_ok-shape.ensures (ap failures_of c.as_slice-2.ensures.value) c.misfit_in.ensures
    (ap (option_map failing_of) c.in-None.is))) c.in_err-first-in-None.ensures.front)
