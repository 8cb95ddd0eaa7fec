use Rattle.p10_cert.proofs.packing.+put_high.Given as goal

abbrev pub decreases-put_high : goal.decreases-put_high
decreases-put_high l = l.most
