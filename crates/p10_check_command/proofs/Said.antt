-- What is said on one of the outputs alone.
use Rattle.std.proofs.Common.{◌≡◌, ℕ, List, [], ◌++◌, true, false, Bool, codes, inl, inr, refl, sym, ap, subst, ◌∙◌, Option}
use Rattle.std.specs.Io.KnownBytes.{Appends}
use Rattle.std.proofs.KnownBytes.{Appends-nil}
use Rattle.p10_base.specs.declared.report.Refusal.{Refusal}
use Rattle.p10_base.specs.Gathered.{Gathered}
use Rattle.p10_base.specs.Words.{Text}
use Rattle.p10_world.specs.Sink.{TakesFront}
use Rattle.p10_report.specs.Json.{IsPrintable, json_text}
use Rattle.p10_report.specs.Stops.{StopsWithin}
use Rattle.p10_expand.specs.Gathering.{Gathers}
use Rattle.p10_front.specs.declared.fault.FrontFault.{FrontFault}
use Rattle.p10_front.specs.declared.fault.FrontFault.TheVariants as front
use Rattle.p10_front.specs.Answers.{IsFault}
use Rattle.p10_command.specs.declared.gathering.Ungathered.{Ungathered}
use Rattle.p10_command.specs.declared.gathering.Ungathered.TheVariants.{Refused}
use Rattle.p10_command.specs.declared.trouble.Trouble.TheVariants.{Memory}
use Rattle.p10_command.specs.Gathering.{AreUngathered, CanBeTold}
use Rattle.p10_command.specs.Saying.{Saying, ungathered_line, ungathered_saying, ungathered_status}
use Rattle.p10_command.specs.Seen.{Seen}
use Rattle.p10_command.specs.Told.{IsTold, Told, Stopped}
use Rattle.p10_command.proofs.OneOutput.{named_stopped, named_told, no_front, stopped_line, told_line}
use Rattle.p10_check_command.specs.declared.command.CheckCommand.{CheckCommand}
use Rattle.p10_check_command.specs.declared.report.Report.{Report}
use Rattle.p10_check_command.specs.Answers.{SaysRight, ungathered, passed, reported, troubled, report_saying, setting_of, gathering_saying}
use Rattle.p10_check_command.specs.Reports.{IsReport, refused_report}
use Rattle.p10_check_command.specs.Texts.{json_line, report_lines, report_status, report_text}
use Rattle.p10_check_command.specs.private.Telling.{IsOrNoMemory, fault_saying}

-- ## On the output

pub lines_told : (check : CheckCommand) (g : Gathered) (report : Report) (out_old out_new err : Option (List ℕ)) (given : ℕ) → check.json ≡ false → given ≡ report_status report → Appends out_old out_new (report_lines g report)
    → Told (IsOrNoMemory (report_saying check g report)) out_old out_new err err given
lines_told check g report out_old out_new err given lines status taken = record {
  saying = report_saying check g report;
  may = inl refl;
  status_is = status;
  taken = record { on_out = subst (λ (json : Bool). Appends out_old out_new (report_text json g report)) (sym lines) taken; on_err = Appends-nil err };
}

pub lines_stopped : (check : CheckCommand) (g : Gathered) (report : Report) (out_old out_new err : Option (List ℕ)) → check.json ≡ false → TakesFront out_old out_new (report_lines g report) → Stopped (IsOrNoMemory (report_saying check g report)) out_old out_new err err
lines_stopped check g report out_old out_new err lines stopped = record {
  saying = report_saying check g report;
  may = inl refl;
  taken = record { on_out = subst (λ (json : Bool). TakesFront out_old out_new (report_text json g report)) (sym lines) stopped; on_err = no_front err [] refl };
}

json_is : (check : CheckCommand) (g : Gathered) (report : Report) (text : Text) → check.json ≡ true → text ≡ json_text g report.violations report.refusal → text ++ codes "\n" ≡ report_text check.json g report
unfolding json_line
json_is check g report text json is = ap (λ (t : List ℕ). t ++ codes "\n") is ∙ sym (ap (λ (json : Bool). report_text json g report) json)

pub json_told : (check : CheckCommand) (g : Gathered) (report : Report) (text : Text) (out_old out_new err : Option (List ℕ)) (given : ℕ) → check.json ≡ true → text ≡ json_text g report.violations report.refusal → given ≡ report_status report
    → Appends out_old out_new (text ++ codes "\n") → Told (IsOrNoMemory (report_saying check g report)) out_old out_new err err given
json_told check g report text out_old out_new err given json is status taken = record {
  saying = report_saying check g report;
  may = inl refl;
  status_is = status;
  taken = record { on_out = subst (λ (t : List ℕ). Appends out_old out_new t) (json_is check g report text json is) taken; on_err = Appends-nil err };
}

pub json_stopped : (check : CheckCommand) (g : Gathered) (report : Report) (text : Text) (out_old out_new err : Option (List ℕ)) → check.json ≡ true → text ≡ json_text g report.violations report.refusal → TakesFront out_old out_new (text ++ codes "\n")
    → Stopped (IsOrNoMemory (report_saying check g report)) out_old out_new err err
json_stopped check g report text out_old out_new err json is stopped = record {
  saying = report_saying check g report;
  may = inl refl;
  taken = record { on_out = subst (λ (t : List ℕ). TakesFront out_old out_new t) (json_is check g report text json is) stopped; on_err = no_front err [] refl };
}

-- ## Sources that aren't gathered

refused_is : (check : CheckCommand) (g : Gathered) (why : Ungathered) (refusal : Refusal) (report : Report) → why ≡ Refused refusal → report ≡ refused_report refusal → report_saying check g report ≡ gathering_saying check g why
refused_is check g why refusal report is made = ap (λ (r : Report). report_saying check g r) made ∙ sym (ap (λ (w : Ungathered). gathering_saying check g w) is)

pub refused_told : (check : CheckCommand) (g : Gathered) (why : Ungathered) (refusal : Refusal) (report : Report) (out_old out_new err_old err_new : Option (List ℕ)) (given : ℕ) → why ≡ Refused refusal → report ≡ refused_report refusal
    → Told (IsOrNoMemory (report_saying check g report)) out_old out_new err_old err_new given → Told (IsOrNoMemory (gathering_saying check g why)) out_old out_new err_old err_new given
refused_told check g why refusal report out_old out_new err_old err_new given is made told =
    subst (λ (s : Saying). Told (IsOrNoMemory s) out_old out_new err_old err_new given) (refused_is check g why refusal report is made) told

pub refused_stopped : (check : CheckCommand) (g : Gathered) (why : Ungathered) (refusal : Refusal) (report : Report) (out_old out_new err_old err_new : Option (List ℕ)) → why ≡ Refused refusal → report ≡ refused_report refusal
    → Stopped (IsOrNoMemory (report_saying check g report)) out_old out_new err_old err_new → Stopped (IsOrNoMemory (gathering_saying check g why)) out_old out_new err_old err_new
refused_stopped check g why refusal report out_old out_new err_old err_new is made stopped =
    subst (λ (s : Saying). Stopped (IsOrNoMemory s) out_old out_new err_old err_new) (refused_is check g why refusal report is made) stopped

pub refused_has_text : (roots : List Text) (why : Ungathered) (refusal : Refusal) (report : Report) → why ≡ Refused refusal → report ≡ refused_report refusal → CanBeTold roots why → IsPrintable report.refusal
refused_has_text roots why refusal report is made can = subst (λ (r : Report). IsPrintable r.refusal) (sym made) (subst (λ (w : Ungathered). CanBeTold roots w) is can)

-- a line on the error output says it
said_as : (check : CheckCommand) (g : Gathered) (why kind : Ungathered) → why ≡ kind → ungathered_saying check.sources g kind ≡ gathering_saying check g kind → ungathered_saying check.sources g why ≡ gathering_saying check g why
said_as check g why kind is same = ap (λ (w : Ungathered). ungathered_saying check.sources g w) is ∙ same ∙ sym (ap (λ (w : Ungathered). gathering_saying check g w) is)

pub line_told : (check : CheckCommand) (g : Gathered) (roots : List Text) (why kind : Ungathered) (out err_old err_new : Option (List ℕ)) (given : ℕ) → roots ≡ check.sources → why ≡ kind → ungathered_saying check.sources g kind ≡ gathering_saying check g kind
    → IsTold (ungathered_status why) (ungathered_line roots g why) err_old err_new given → Told (IsOrNoMemory (gathering_saying check g why)) out out err_old err_new given
line_told check g roots why kind out err_old err_new given named is same told =
    told_line (IsOrNoMemory (gathering_saying check g why)) (ungathered_saying check.sources g why) out err_old err_new given (inl (said_as check g why kind is same)) refl (named_told roots check.sources g why err_old err_new given named told)

pub line_stopped : (check : CheckCommand) (g : Gathered) (roots : List Text) (why kind : Ungathered) (out err_old err_new : Option (List ℕ)) → roots ≡ check.sources → why ≡ kind → ungathered_saying check.sources g kind ≡ gathering_saying check g kind
    → StopsWithin err_old err_new (ungathered_line roots g why) → Stopped (IsOrNoMemory (gathering_saying check g why)) out out err_old err_new
line_stopped check g roots why kind out err_old err_new named is same stopped =
    stopped_line (IsOrNoMemory (gathering_saying check g why)) (ungathered_saying check.sources g why) out err_old err_new (inl (said_as check g why kind is same)) refl (named_stopped roots check.sources g why err_old err_new named stopped)

-- ## What is right to say

pub report_is_right : (check : CheckCommand) (seen : Seen) (g : Gathered) (report : Report) → Gathers (setting_of seen check) g → IsReport g report → (saying : Saying) → IsOrNoMemory (report_saying check g report) saying → SaysRight check seen saying
report_is_right check seen g report gathers is saying (inl said) = reported g report gathers is said
report_is_right check seen g report gathers is saying (inr said) = troubled Memory tt said

pub gathering_is_right : (check : CheckCommand) (seen : Seen) (g : Gathered) (why : Ungathered) → AreUngathered (setting_of seen check) g why → (saying : Saying) → IsOrNoMemory (gathering_saying check g why) saying → SaysRight check seen saying
gathering_is_right check seen g why are saying (inl said) = ungathered g why are said
gathering_is_right check seen g why are saying (inr said) = troubled Memory tt said

pub no_out : (fault : FrontFault) → (fault_saying fault).out ≡ []
no_out (front.Over limit) = refl
no_out front.Memory = refl

pub fault_is_right : (check : CheckCommand) (seen : Seen) (g : Gathered) (fault : FrontFault) → Gathers (setting_of seen check) g → IsFault g fault → SaysRight check seen (fault_saying fault)
fault_is_right check seen g (front.Over limit) gathers over = passed g limit gathers over refl
fault_is_right check seen g front.Memory gathers over = troubled Memory tt refl
