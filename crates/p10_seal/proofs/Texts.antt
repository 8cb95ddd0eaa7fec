-- What is said of a certificate's text.
use Rattle.std.proofs.Common.{◌≡◌, ℕ, List, [], refl, sym, ap, Option, Some, None}
use Rattle.std.specs.Io.KnownBytes.{Appends}
use Rattle.std.proofs.KnownBytes.{Appends-nil}
use Rattle.p10_base.specs.declared.report.TheConstants.Limit.{CERTIFICATE_BYTES}
use Rattle.p10_base.specs.Words.{Text}
use Rattle.p10_report.specs.Lines.{limit_line}
use Rattle.p10_report.specs.Stops.{StopsWithin}
use Rattle.p10_world.specs.Sink.{TakesFront}
use Rattle.p10_command.specs.Saying.{IsSaid, limit_saying, text_saying}
use Rattle.p10_command.specs.Told.{IsTold, Told, Stopped}
use Rattle.p10_command.proofs.OneOutput.{no_front, told_line, stopped_line}
use Rattle.p10_seal.specs.Saying.{sealed_saying}

pub text_told : (found : Option Text) (text : Text) (out_old out_new err : Option (List ℕ)) (given : ℕ) → found ≡ Some text → given ≡ 0 → Appends out_old out_new text → Told (IsSaid (sealed_saying found)) out_old out_new err err given
text_told found text out_old out_new err given is status taken = record {
  saying = text_saying text;
  may = ap sealed_saying (sym is);
  status_is = status;
  taken = record { on_out = taken; on_err = Appends-nil err };
}

pub text_stopped : (found : Option Text) (text : Text) (out_old out_new err : Option (List ℕ)) → found ≡ Some text → TakesFront out_old out_new text → Stopped (IsSaid (sealed_saying found)) out_old out_new err err
text_stopped found text out_old out_new err is front = record {
  saying = text_saying text;
  may = ap sealed_saying (sym is);
  taken = record { on_out = front; on_err = no_front err [] refl };
}

pub limit_told : (found : Option Text) (out err_old err_new : Option (List ℕ)) (given : ℕ) → found ≡ None → IsTold 8 (limit_line CERTIFICATE_BYTES) err_old err_new given → Told (IsSaid (sealed_saying found)) out out err_old err_new given
limit_told found out err_old err_new given is told = told_line (IsSaid (sealed_saying found)) (limit_saying CERTIFICATE_BYTES) out err_old err_new given (ap sealed_saying (sym is)) refl told

pub limit_stopped : (found : Option Text) (out err_old err_new : Option (List ℕ)) → found ≡ None → StopsWithin err_old err_new (limit_line CERTIFICATE_BYTES) → Stopped (IsSaid (sealed_saying found)) out out err_old err_new
limit_stopped found out err_old err_new is stopped = stopped_line (IsSaid (sealed_saying found)) (limit_saying CERTIFICATE_BYTES) out err_old err_new (ap sealed_saying (sym is)) refl stopped
