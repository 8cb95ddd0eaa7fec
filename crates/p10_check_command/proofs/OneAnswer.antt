-- Where files are told, one thing is right to say, unless a read fails or memory runs out.
use Rattle.std.proofs.Common.{◌≡◌, ◌≢◌, List, refl, sym, ap, subst, ◌∙◌, Some, IsSome, Result, Ok, Err}
use Rattle.p10_base.specs.declared.report.Limit.{Limit}
use Rattle.p10_base.specs.Gathered.{Gathered, nothing_gathered}
use Rattle.p10_world.specs.Files.{Named}
use Rattle.p10_expand.specs.declared.fault.GatherFault.{GatherFault}
use Rattle.p10_expand.specs.declared.fault.GatherFault.TheVariants as fault
use Rattle.p10_expand.specs.Gathering.{Setting}
use Rattle.p10_front.specs.Laws.{ReadsOnce}
use Rattle.p10_front.specs.Readings.{PlainReading, Reads}
use Rattle.p10_command.specs.declared.gathering.Ungathered.{Ungathered}
use Rattle.p10_command.specs.declared.gathering.Ungathered.TheVariants.{AbsentRoot, Refused, Over}
use Rattle.p10_command.specs.declared.trouble.Trouble.TheVariants.{Read, Memory}
use Rattle.p10_command.specs.Gathering.{AreUngathered}
use Rattle.p10_command.specs.Saying.{Saying, limit_saying, trouble_saying}
use Rattle.p10_command.specs.Seen.{Seen}
use Rattle.p10_command.proofs.Once.{fault_of, gathered_or_not, is_told, same_fault, same_sources, untroubled}
use Rattle.p10_check_command.specs.declared.command.CheckCommand.{CheckCommand}
use Rattle.p10_check_command.specs.declared.report.Report.{Report}
use Rattle.p10_check_command.specs.Answers.{SaysRight, ungathered, passed, reported, troubled, report_saying, setting_of, gathering_saying}
use Rattle.p10_check_command.specs.Laws.{OneReport}
use Rattle.p10_check_command.specs.Reports.{IsReport, IsReported}
use Rattle.p10_check_command.proofs.Ordered.{one_list}

-- ## Reports

pub one_report : ReadsOnce → OneReport
one_report once g this that is are =
    let answers : ◌≡◌ {A = Result PlainReading Limit} (Ok is.reading) (Ok are.reading) = once g (Ok is.reading) (Ok are.reading) is.reads are.reads in
    let same : is.reading ≡ are.reading = cc in
    let refusals : this.refusal ≡ that.refusal = is.refused ∙ ap (λ (r : PlainReading). r.refusal) same ∙ sym are.refused in
    let lists : this.violations ≡ that.violations =
    one_list this.violations that.violations is.violated.sorted are.violated.sorted
    (λ v held. (are.violated.exact v).1 (subst (λ (r : PlainReading). IsReported g r v) same ((is.violated.exact v).0 held)))
    (λ v held. (is.violated.exact v).1 (subst (λ (r : PlainReading). IsReported g r v) (sym same) ((are.violated.exact v).0 held))) in
    λ i. record { violations = lists i; refusal = refusals i }

-- ## Gathering

-- what is said for a fault
abbrev saying_of : CheckCommand → GatherFault → Saying
saying_of check (fault.RootAbsent place) = gathering_saying check nothing_gathered (AbsentRoot place)
saying_of check (fault.Refused refusal g) = gathering_saying check g (Refused refusal)
saying_of check (fault.Over limit) = gathering_saying check nothing_gathered (Over limit)
saying_of check fault.Read = trouble_saying Read
saying_of check fault.Memory = trouble_saying Memory

said_of : (check : CheckCommand) (g : Gathered) (why : Ungathered) → gathering_saying check g why ≡ saying_of check (fault_of g why)
said_of check g (AbsentRoot place) = refl
said_of check g (Refused refusal) = refl
said_of check g (Over limit) = refl

one_ungathered : (check : CheckCommand) (s : Setting) → IsSome s.held → (g h : Gathered) (this that : Ungathered) → AreUngathered s g this → AreUngathered s h that → gathering_saying check g this ≡ gathering_saying check h that
one_ungathered check s told g h this that fails fails' =
    said_of check g this ∙ ap (λ (f : GatherFault). saying_of check f) (same_fault s told g h this that fails fails') ∙ sym (said_of check h that)

-- ## Reading

one_limit : ReadsOnce → (g h : Gathered) (l m : Limit) → g ≡ h → Reads g (Err l) → Reads h (Err m) → l ≡ m
one_limit once g h l m files this that =
    let same : ◌≡◌ {A = Result PlainReading Limit} (Err l) (Err m) = once g (Err l) (Err m) this (subst (λ (x : Gathered). Reads x (Err m)) (sym files) that) in
    cc

limit_or_report : ReadsOnce → (g h : Gathered) (l : Limit) (report : Report) → g ≡ h → Reads g (Err l) → IsReport h report → ⊥
limit_or_report once g h l report files over is =
    let same : ◌≡◌ {A = Result PlainReading Limit} (Err l) (Ok is.reading) = once g (Err l) (Ok is.reading) over (subst (λ (x : Gathered). Reads x (Ok is.reading)) (sym files) is.reads) in
    cc

-- ## All answers

pub says_one_thing : ReadsOnce → (check : CheckCommand) (seen : Seen) (files : List Named) (some other : Saying) → seen.held ≡ Some files → SaysRight check seen some → SaysRight check seen other →
    some.status ≢ 5 → some.status ≢ 7 → other.status ≢ 5 → other.status ≢ 7 → some ≡ other
says_one_thing once check seen files some other held (troubled t may said) says five seven five' seven' = absurd (untroubled t some said five seven)
says_one_thing once check seen files some other held says (troubled t may said) five seven five' seven' = absurd (untroubled t other said five' seven')
says_one_thing once check seen files some other held (ungathered g why fails said) (ungathered h why' fails' said') five seven five' seven' =
    said ∙ one_ungathered check (setting_of seen check) (is_told seen.held files held) g h why why' fails fails' ∙ sym said'
says_one_thing once check seen files some other held (ungathered g why fails said) (passed h limit gathers over said') five seven five' seven' =
    absurd (gathered_or_not (setting_of seen check) (is_told seen.held files held) h g why gathers fails)
says_one_thing once check seen files some other held (ungathered g why fails said) (reported h report gathers is said') five seven five' seven' =
    absurd (gathered_or_not (setting_of seen check) (is_told seen.held files held) h g why gathers fails)
says_one_thing once check seen files some other held (passed g limit gathers over said) (ungathered h why fails said') five seven five' seven' =
    absurd (gathered_or_not (setting_of seen check) (is_told seen.held files held) g h why gathers fails)
says_one_thing once check seen files some other held (reported g report gathers is said) (ungathered h why fails said') five seven five' seven' =
    absurd (gathered_or_not (setting_of seen check) (is_told seen.held files held) g h why gathers fails)
says_one_thing once check seen files some other held (passed g l gathers over said) (passed h m gathers' over' said') five seven five' seven' =
    let same = same_sources (setting_of seen check) (is_told seen.held files held) g h gathers gathers' in
    said ∙ ap limit_saying (one_limit once g h l m same over over') ∙ sym said'
says_one_thing once check seen files some other held (passed g l gathers over said) (reported h report gathers' is said') five seven five' seven' =
    absurd (limit_or_report once g h l report (same_sources (setting_of seen check) (is_told seen.held files held) g h gathers gathers') over is)
says_one_thing once check seen files some other held (reported g report gathers is said) (passed h l gathers' over said') five seven five' seven' =
    absurd (limit_or_report once h g l report (same_sources (setting_of seen check) (is_told seen.held files held) h g gathers' gathers) over is)
says_one_thing once check seen files some other held (reported g report gathers is said) (reported h report' gathers' is' said') five seven five' seven' =
    let same = same_sources (setting_of seen check) (is_told seen.held files held) g h gathers gathers' in
    let reports : report ≡ report' = one_report once g report report' is (subst (λ (x : Gathered). IsReport x report') (sym same) is') in
    said ∙ ap (λ (r : Report). report_saying check g r) reports ∙ ap (λ (x : Gathered). report_saying check x report') same ∙ sym said'
