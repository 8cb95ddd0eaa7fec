use Rattle.p10_int.proofs.Complements.{complement_signed, complement_unsigned}
use Rattle.p10_int.proofs.laws.complement_is_difference.Goals as goal

pub returns : goal.returns
returns c = λ t a i. (complement_signed t a i, complement_unsigned t a i)
