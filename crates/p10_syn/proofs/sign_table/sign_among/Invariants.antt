use Rattle.std.proofs.Common.{◌≡◌, length}
use Rattle.p10_syn.specs.Signs.{sign_among}
use Rattle.p10_syn.proofs.sign_table.sign_among.Given as goal

abbrev pub invariant-loop-rest : goal.invariant-loop-rest
invariant-loop-rest l = sign_among l.rest l.text ≡ sign_among l.signs l.text

abbrev pub decreases-loop-rest : goal.decreases-loop-rest
decreases-loop-rest l = length l.rest
