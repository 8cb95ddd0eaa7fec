-- One claim more is kept.
use Rattle.std.proofs.Common.{◌∙◌, map, ap}
use Rattle.std.proofs.lemmas.Result.{on_ok_weaker}
use Rattle.p10_cert.specs.Claims.{func_of}
use Rattle.p10_cert.proofs.Collecting.{map-append}
use Rattle.p10_check.specs.private.Keeping.{claims_kept, lines_of, lines_kept}
use Rattle.p10_check.proofs.Keeping.{kept_more}
use Rattle.p10_check.proofs.kept.keep.Goals as goal

pub returns : goal.returns
returns c =
    let before = c.args.kept.now in
    let loopless = c.without_loops-loopless.result in
    on_ok_weaker c.push-2.result
    (λ pushed given e kept is exact. kept_more given e (claims_kept before) _ (lines_kept before) _ (func_of c.args.own) (func_of loopless) c.args.lines.now.text.now is exact c.without_loops-loopless.ensures
    (ap (map func_of) c.in_ok-push.ensures.ok ∙ map-append func_of before.certificate.funcs loopless) (ap (map lines_of) pushed ∙ map-append lines_of before.lines c.args.lines.now) kept)
    c.push-2.ensures.ok
