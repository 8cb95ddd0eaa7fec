-- What is said for an answer that is right.
use Rattle.std.proofs.Common.{◌≡◌, ℕ, List, refl, Option}
use Rattle.p10_base.specs.Gathered.{Gathered}
use Rattle.p10_command.specs.Seen.{Seen}
use Rattle.p10_command.specs.Told.{BothTake, BothTakeFronts, Told, Stopped}
use Rattle.p10_recheck_command.specs.declared.answer.Answer.{Answer}
use Rattle.p10_recheck_command.specs.declared.command.RecheckCommand.{RecheckCommand}
use Rattle.p10_recheck_command.specs.Told.{SaysRight, answer_err, answer_out, saying_of, status_of}
use Rattle.p10_recheck_command.specs.private.Deciding.{Answered}

pub told_for : (r : RecheckCommand) (seen : Seen) (sources : Gathered) (answer : Answer) (out_old out_new err_old err_new : Option (List ℕ)) (status : ℕ) → Answered seen r sources answer → status ≡ status_of answer →
    BothTake out_old out_new err_old err_new (answer_out sources answer) (answer_err r sources answer) → Told (SaysRight r seen) out_old out_new err_old err_new status
told_for r seen sources answer out_old out_new err_old err_new status answered is taken = record {
  saying = saying_of r sources answer;
  may = record { sources = sources; answer = answer; is_right = answered.is_right; said = refl };
  status_is = is;
  taken = taken;
}

pub stopped_for : (r : RecheckCommand) (seen : Seen) (sources : Gathered) (answer : Answer) (out_old out_new err_old err_new : Option (List ℕ)) → Answered seen r sources answer →
    BothTakeFronts out_old out_new err_old err_new (answer_out sources answer) (answer_err r sources answer) → Stopped (SaysRight r seen) out_old out_new err_old err_new
stopped_for r seen sources answer out_old out_new err_old err_new answered taken = record {
  saying = saying_of r sources answer;
  may = record { sources = sources; answer = answer; is_right = answered.is_right; said = refl };
  taken = taken;
}
