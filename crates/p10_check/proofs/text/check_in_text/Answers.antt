-- The conditions on the function are the same under the claims among which its own stands whole.
use Rattle.std.proofs.Common.{◌∙◌, ◌<◌, ap, sym, subst}
use Rattle.std.specs.Prelude.{option_map, slice_get}
use Rattle.std.proofs.lemmas.List.{length-map}
use Rattle.std.proofs.lemmas.Result.{IfOk-weaker, on_ok_weaker}
use Rattle.p10_cert.specs.Claims.{func_of, claims_of}
use Rattle.p10_cert.specs.Statements.{Entry}
use Rattle.p10_core.specs.Views.{plain_program}
use Rattle.p10_check.specs.Texts.{claims_in}
use Rattle.p10_check.specs.private.Keeping.{claims_kept, lines_of, lines_kept, claims_with}
use Rattle.p10_check.proofs.Alike.{same_failures_at}
use Rattle.p10_check.proofs.Keeping.{stands_whole, has_lines}
use Rattle.p10_check.proofs.text.check_in_text.Goals as goal

pub returns-in_ok-own-in-Some-clause-fails : goal.returns-in_ok-own-in-Some-clause-fails
returns-in_ok-own-in-Some-clause-fails g c =
    let p = plain_program c.args.program.now in
    let before = c.args.kept.now in
    let own = func_of c.in_ok-own-in-Some.own in
    IfOk-weaker c.check_whole.result _ _
    (λ fails found s good kept below.
    found
    ∙ same_failures_at (g.E.Evidence.standing c.args.evidence.now p) p (claims_with (claims_of before.certificate) c.args.number own) (claims_in s) c.args.number (slice_get p.functions c.args.number)
    (stands_whole s.entries (claims_kept before) (lines_kept before) _ c.args.number (lines_of c.in-Some.lines) own kept good.entries.all
    c.in-Some.ensures c.in_ok-own-in-Some.ensures))
    c.check_whole.ensures.fails

pub returns-in_ok-own-in-Some-clause-same : goal.returns-in_ok-own-in-Some-clause-same
returns-in_ok-own-in-Some-clause-same g c =
    let before = c.args.kept.now in
    on_ok_weaker c.check_whole.result (λ same i. record { certificate = same i; lines = before.lines }) c.check_whole.ensures.same

pub returns-in-None-clause-fails : goal.returns-in-None-clause-fails
returns-in-None-clause-fails g c =
    let before = c.args.kept.now in
    λ s good kept below.
    absurd (has_lines s.entries (claims_kept before) (lines_kept before) c.args.number kept
    (subst (λ n. c.args.number < n) (length-map s.entries (λ (e : Entry). e.func)) below) c.in-None.ensures)
