use Rattle.p10_cert.proofs.reading.claim.Goals as goal

pub returns : goal.returns
returns c = λ e sealed good exact. (c.in_ok-func.ensures e sealed good exact).0
