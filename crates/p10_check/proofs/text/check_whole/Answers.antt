-- The claim stands among the others, and what stood there is put back.
use Rattle.std.proofs.Common.{◌∙◌, map, ap}
use Rattle.std.specs.Prelude.{slice_get, slice_set}
use Rattle.std.proofs.lemmas.List.{map-set}
use Rattle.p10_cert.specs.Claims.{func_of}
use Rattle.p10_core.specs.Views.{plain_program}
use Rattle.p10_check.specs.Conditions.{function_failures_at}
use Rattle.p10_check.proofs.Keeping.{put_back}
use Rattle.p10_check.proofs.text.check_whole.Goals as goal

pub returns-clause-fails : goal.returns-clause-fails
returns-clause-fails g c =
    let p = plain_program c.args.program.now in
    let before = c.args.certificate.now in
    c.in_ok-fails.ensures
    ∙ ap (λ fs. function_failures_at (g.E.Evidence.standing c.args.evidence.now p) p (record { funcs = fs; total = before.total }) c.args.number (slice_get p.functions c.args.number))
    (ap (map func_of) c.exchange.ensures.put ∙ map-set func_of before.funcs c.args.number c.args.own)

pub returns-clause-same : goal.returns-clause-same
returns-clause-same g c =
    let before = c.args.certificate.now in
    let funcs = c.exchange-2.ensures.put ∙ (λ i. slice_set (c.exchange.ensures.put i) c.args.number (c.exchange.ensures.taken i)) ∙ put_back before.funcs c.args.number c.args.own in
    λ i. record { funcs = funcs i; total = before.total }
