-- What is written for a right answer is right to say.
use Rattle.std.proofs.Common.{◌≡◌, ℕ, List, refl, Option}
use Rattle.p10_command.specs.Told.{BothTake, BothTakeFronts, Stopped, Told}
use Rattle.p10_gen_command.specs.declared.answer.Answer.{Answer}
use Rattle.p10_gen_command.specs.Answers.{IsRight, setting_of}
use Rattle.p10_gen_command.specs.Told.{SaysRight, err_text, out_text, saying_of, status_of}

pub told_for : (n : ℕ) (answer : Answer) (out_old out_new err_old err_new : Option (List ℕ)) (status : ℕ) → IsRight (setting_of n) answer → status ≡ status_of answer
    → BothTake out_old out_new err_old err_new (out_text n answer) (err_text answer) → Told (SaysRight n) out_old out_new err_old err_new status
told_for n answer out_old out_new err_old err_new status right is taken = record {
  saying = saying_of n answer;
  may = record { answer = answer; is_right = right; said = refl };
  status_is = is;
  taken = taken;
}

pub stopped_for : (n : ℕ) (answer : Answer) (out_old out_new err_old err_new : Option (List ℕ)) → IsRight (setting_of n) answer
    → BothTakeFronts out_old out_new err_old err_new (out_text n answer) (err_text answer) → Stopped (SaysRight n) out_old out_new err_old err_new
stopped_for n answer out_old out_new err_old err_new right taken = record {
  saying = saying_of n answer;
  may = record { answer = answer; is_right = right; said = refl };
  taken = taken;
}
