-- What is said for an answer that is right.
use Rattle.std.proofs.Common.{◌≡◌, ℕ, List, refl, Option}
use Rattle.p10_base.specs.Gathered.{Gathered}
use Rattle.p10_command.specs.Seen.{Seen}
use Rattle.p10_command.specs.Told.{BothTake, BothTakeFronts, Told, Stopped}
use Rattle.p10_verify_command.specs.declared.answer.Answer.{Answer}
use Rattle.p10_verify_command.specs.Names.{Names}
use Rattle.p10_verify_command.specs.Told.{SaysRight, err_text, out_text, saying_of, status_of}
use Rattle.p10_verify_command.specs.private.Deciding.{Answered}

pub told_for : (names : Names) (seen : Seen) (sources : Gathered) (answer : Answer) (out_old out_new err_old err_new : Option (List ℕ)) (status : ℕ) → Answered seen names sources answer → status ≡ status_of answer →
    BothTake out_old out_new err_old err_new (out_text sources answer) (err_text names sources answer) → Told (SaysRight names seen) out_old out_new err_old err_new status
told_for names seen sources answer out_old out_new err_old err_new status answered is taken = record {
  saying = saying_of names sources answer;
  may = record { sources = sources; answer = answer; is_right = answered.is_right; said = refl };
  status_is = is;
  taken = taken;
}

pub stopped_for : (names : Names) (seen : Seen) (sources : Gathered) (answer : Answer) (out_old out_new err_old err_new : Option (List ℕ)) → Answered seen names sources answer →
    BothTakeFronts out_old out_new err_old err_new (out_text sources answer) (err_text names sources answer) → Stopped (SaysRight names seen) out_old out_new err_old err_new
stopped_for names seen sources answer out_old out_new err_old err_new answered taken = record {
  saying = saying_of names sources answer;
  may = record { sources = sources; answer = answer; is_right = answered.is_right; said = refl };
  taken = taken;
}
