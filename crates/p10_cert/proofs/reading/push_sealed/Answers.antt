use Rattle.std.proofs.Common.{true}
use Rattle.p10_cert.proofs.Seals.{always, pushed_func, pushed_so}
use Rattle.p10_cert.proofs.reading.push_sealed.Goals as goal

pub returns-clause-claims : goal.returns-clause-claims
returns-clause-claims c = always c.push_digest.result _ (λ e good exact. pushed_func c.args.funcs.now c.push.new.self c.in_ok-func.func e.func c.in_ok-push.ensures.ok (c.in_ok-func.ensures e true good exact).0)

pub returns-clause-digests : goal.returns-clause-digests
returns-clause-digests c = pushed_so c.push_digest.result _ _ (λ told e good exact. told e good (c.in_ok-func.ensures e true good exact).1) c.push_digest.ensures
