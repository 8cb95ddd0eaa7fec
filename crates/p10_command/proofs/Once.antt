-- Where files are told, a command has one kind of sources: gathered or not, read or not, each for one reason.
use Rattle.std.proofs.Common.{◌≡◌, ◌≢◌, ℕ, List, refl, sym, ◌∙◌, ap, subst, Option, Some, None, IsSome, Result, Ok, Err}
use Rattle.std.proofs.lemmas.Option.{same_Some, none-some}
use Rattle.p10_base.specs.declared.report.Limit.{Limit}
use Rattle.p10_base.specs.declared.report.Refusal.{Refusal}
use Rattle.p10_base.specs.Gathered.{Gathered, nothing_gathered}
use Rattle.p10_base.specs.Words.{Text}
use Rattle.p10_core.specs.Typed.{PlainProgram}
use Rattle.p10_expand.specs.declared.fault.GatherFault.{GatherFault}
use Rattle.p10_expand.specs.declared.fault.GatherFault.TheVariants as fault
use Rattle.p10_expand.specs.Gathering.{Setting, Gathers, FailsBy}
use Rattle.p10_expand.proofs.Once.{ends_once}
use Rattle.p10_front.specs.Digests.{PlainDigests, reading_digests}
use Rattle.p10_front.specs.Laws.{ReadsOnce}
use Rattle.p10_front.specs.Readings.{PlainReading, Reads, AreReadAs, AreRefused}
use Rattle.p10_command.specs.declared.gathering.Ungathered.{Ungathered}
use Rattle.p10_command.specs.declared.gathering.Ungathered.TheVariants as gathering
use Rattle.p10_command.specs.declared.reading.Unread.{Unread}
use Rattle.p10_command.specs.declared.reading.Unread.TheVariants as reading
use Rattle.p10_command.specs.declared.trouble.Trouble.{Trouble}
use Rattle.p10_command.specs.declared.trouble.Trouble.TheVariants.{Read, Memory}
use Rattle.p10_command.specs.Gathering.{AreUngathered}
use Rattle.p10_command.specs.Programs.{HasProgram, HasProgramWithDigests}
use Rattle.p10_command.specs.Reading.{AreUnread}
use Rattle.p10_command.specs.Saying.{Saying, trouble_saying, trouble_status, ungathered_saying, unread_saying}

-- ## Gathering

pub same_sources : (s : Setting) → IsSome s.held → (g h : Gathered) → Gathers s g → Gathers s h → g ≡ h
same_sources s told g h this that =
    let same : ◌≡◌ {A = Result Gathered GatherFault} (Ok g) (Ok h) = ends_once s told (Ok g) (Ok h) this that in
    cc

pub gathers_or_fails : (s : Setting) → IsSome s.held → (g : Gathered) (f : GatherFault) → Gathers s g → FailsBy s f → ⊥
gathers_or_fails s told g f gathers fails =
    let same : ◌≡◌ {A = Result Gathered GatherFault} (Ok g) (Err f) = ends_once s told (Ok g) (Err f) gathers fails in
    cc

pub one_fault : (s : Setting) → IsSome s.held → (f e : GatherFault) → FailsBy s f → FailsBy s e → f ≡ e
one_fault s told f e fails fails' =
    let same : ◌≡◌ {A = Result Gathered GatherFault} (Err f) (Err e) = ends_once s told (Err f) (Err e) fails fails' in
    cc

-- the fault of gathering
abbrev pub fault_of : Gathered → Ungathered → GatherFault
fault_of g (gathering.AbsentRoot place) = fault.RootAbsent place
fault_of g (gathering.Refused refusal) = fault.Refused refusal g
fault_of g (gathering.Over limit) = fault.Over limit

fails_by : (s : Setting) (g : Gathered) (why : Ungathered) → AreUngathered s g why → FailsBy s (fault_of g why)
fails_by s g (gathering.AbsentRoot place) fails = fails
fails_by s g (gathering.Refused refusal) fails = fails
fails_by s g (gathering.Over limit) fails = fails

pub gathered_or_not : (s : Setting) → IsSome s.held → (g h : Gathered) (why : Ungathered) → Gathers s g → AreUngathered s h why → ⊥
gathered_or_not s told g h why gathers fails = gathers_or_fails s told g (fault_of h why) gathers (fails_by s h why fails)

pub same_fault : (s : Setting) → IsSome s.held → (g h : Gathered) (this that : Ungathered) → AreUngathered s g this → AreUngathered s h that → fault_of g this ≡ fault_of h that
same_fault s told g h this that fails fails' = one_fault s told (fault_of g this) (fault_of h that) (fails_by s g this fails) (fails_by s h that fails')

-- what is said for a fault
abbrev saying_by : List Text → GatherFault → Saying
saying_by roots (fault.RootAbsent place) = ungathered_saying roots nothing_gathered (gathering.AbsentRoot place)
saying_by roots (fault.Refused refusal g) = ungathered_saying roots g (gathering.Refused refusal)
saying_by roots (fault.Over limit) = ungathered_saying roots nothing_gathered (gathering.Over limit)
saying_by roots fault.Read = trouble_saying Read
saying_by roots fault.Memory = trouble_saying Memory

said_of : (roots : List Text) (g : Gathered) (why : Ungathered) → ungathered_saying roots g why ≡ saying_by roots (fault_of g why)
said_of roots g (gathering.AbsentRoot place) = refl
said_of roots g (gathering.Refused refusal) = refl
said_of roots g (gathering.Over limit) = refl

-- one thing is said where sources aren't gathered
pub one_ungathered : (s : Setting) → IsSome s.held → (roots : List Text) (g h : Gathered) (this that : Ungathered) → AreUngathered s g this → AreUngathered s h that → ungathered_saying roots g this ≡ ungathered_saying roots h that
one_ungathered s told roots g h this that fails fails' =
    said_of roots g this ∙ ap (λ (f : GatherFault). saying_by roots f) (same_fault s told g h this that fails fails') ∙ sym (said_of roots h that)

-- ## Reading

-- what is common to readings
abbrev pub refusal_in : Result PlainReading Limit → Option Refusal
refusal_in (Ok r) = r.refusal
refusal_in (Err limit) = None

abbrev pub program_in : Result PlainReading Limit → Option PlainProgram
program_in (Ok r) = r.program
program_in (Err limit) = None

pub same_reading : ReadsOnce → (g : Gathered) (this that : PlainReading) (p q : PlainProgram) → AreReadAs g this p → AreReadAs g that q → this ≡ that
same_reading once g this that p q is is' =
    let same : ◌≡◌ {A = Result PlainReading Limit} (Ok this) (Ok that) = once g _ _ is.reads is'.reads in
    cc

pub same_program : ReadsOnce → (g : Gathered) (this that : PlainReading) (p q : PlainProgram) → AreReadAs g this p → AreReadAs g that q → p ≡ q
same_program once g this that p q is is' = same_Some p q (sym is.is ∙ ap program_in (once g _ _ is.reads is'.reads) ∙ is'.is)

pub read_or_not : ReadsOnce → (g : Gathered) (r : PlainReading) (p : PlainProgram) (why : Unread) → AreReadAs g r p → AreUnread g why → ⊥
read_or_not once g r p (reading.Refused refusal) is refused = none-some refusal (sym is.unrefused ∙ ap refusal_in (once g _ _ is.reads refused.reads) ∙ refused.refused)
read_or_not once g r p (reading.Over limit) is over =
    let same : ◌≡◌ {A = Result PlainReading Limit} (Err limit) (Ok r) = once g _ _ over is.reads in
    cc

pub one_unread : ReadsOnce → (g : Gathered) (this that : Unread) → AreUnread g this → AreUnread g that → this ≡ that
one_unread once g (reading.Refused r) (reading.Refused q) is is' = ap reading.Refused (same_Some r q (sym is.refused ∙ ap refusal_in (once g _ _ is.reads is'.reads) ∙ is'.refused))
one_unread once g (reading.Over l) (reading.Over m) is is' =
    let same : ◌≡◌ {A = Result PlainReading Limit} (Err l) (Err m) = once g _ _ is is' in
    cc
one_unread once g (reading.Refused r) (reading.Over m) is over =
    let same : ◌≡◌ {A = Result PlainReading Limit} (Ok is.reading) (Err m) = once g _ _ is.reads over in
    cc
one_unread once g (reading.Over l) (reading.Refused q) over is =
    let same : ◌≡◌ {A = Result PlainReading Limit} (Ok is.reading) (Err l) = once g _ _ is.reads over in
    cc

-- sources that are gathered are no program for one reason
pub same_unread : ReadsOnce → (s : Setting) → IsSome s.held → (g h : Gathered) (this that : Unread) → Gathers s g → AreUnread g this → Gathers s h → AreUnread h that → this ≡ that
same_unread once s told g h this that gathers is gathers' is' =
    one_unread once g this that is (subst (λ (x : Gathered). AreUnread x that) (sym (same_sources s told g h gathers gathers')) is')

-- and one thing is said of it
pub one_unread_saying : ReadsOnce → (s : Setting) → IsSome s.held → (g h : Gathered) (this that : Unread) → Gathers s g → AreUnread g this → Gathers s h → AreUnread h that → unread_saying g this ≡ unread_saying h that
one_unread_saying once s told g h this that gathers is gathers' is' =
    ap (λ (why : Unread). unread_saying g why) (same_unread once s told g h this that gathers is gathers' is')
    ∙ ap (λ (x : Gathered). unread_saying x that) (same_sources s told g h gathers gathers')

-- ## Programs

-- the sources are gathered once, and have one program
pub record SameProgram (g h : Gathered) (p q : PlainProgram) : Type 0 where
  pub sources_are : g ≡ h
  pub program_is : p ≡ q

pub has_once : ReadsOnce → (s : Setting) → IsSome s.held → (g h : Gathered) (p q : PlainProgram) → HasProgram s g p → HasProgram s h q → SameProgram g h p q
has_once once s told g h p q this that =
    let sources : g ≡ h = same_sources s told g h this.gathers that.gathers in
    record { sources_are = sources; program_is = same_program once h this.reading that.reading p q (subst (λ (x : Gathered). AreReadAs x this.reading p) sources this.read) that.read }

-- and one reading
pub reading_once : ReadsOnce → (s : Setting) → IsSome s.held → (g h : Gathered) (p q : PlainProgram) → (this : HasProgram s g p) → (that : HasProgram s h q) → this.reading ≡ that.reading
reading_once once s told g h p q this that =
    same_reading once h this.reading that.reading p q (subst (λ (x : Gathered). AreReadAs x this.reading p) (same_sources s told g h this.gathers that.gathers) this.read) that.read

-- and one list of digests
pub record SameProgramWithDigests (g h : Gathered) (p q : PlainProgram) (these those : PlainDigests) : Type 0 where
  pub sources_are : g ≡ h
  pub program_is : p ≡ q
  pub digests_are : these ≡ those

pub has_digests_once : ReadsOnce → (s : Setting) → IsSome s.held → (g h : Gathered) (p q : PlainProgram) (these those : PlainDigests) → HasProgramWithDigests s g p these → HasProgramWithDigests s h q those → SameProgramWithDigests g h p q these those
has_digests_once once s told g h p q these those this that =
    let same = has_once once s told g h p q this.has that.has in
    let reading : this.has.reading ≡ that.has.reading = same_reading once h this.has.reading that.has.reading p q (subst (λ (x : Gathered). AreReadAs x this.has.reading p) same.sources_are this.has.read) that.has.read in
    record { sources_are = same.sources_are; program_is = same.program_is; digests_are = this.are ∙ ap reading_digests reading ∙ sym that.are }

-- gathered sources are a program or none
pub unread_or_program : ReadsOnce → (s : Setting) → IsSome s.held → (g h : Gathered) (why : Unread) (q : PlainProgram) → Gathers s g → AreUnread g why → HasProgram s h q → ⊥
unread_or_program once s told g h why q gathers is has =
    read_or_not once h has.reading q why has.read (subst (λ (x : Gathered). AreUnread x why) (same_sources s told g h gathers has.gathers) is)

-- ## What is said

pub is_told : {A : Type 0} (held : Option A) (x : A) → held ≡ Some x → IsSome held
is_told held x is = subst (λ h. IsSome h) (sym is) refl

-- a trouble has no other status
pub no_trouble : (trouble : Trouble) (status : ℕ) → status ≡ trouble_status trouble → status ≢ 5 → status ≢ 7 → ⊥
no_trouble Read status is five seven = five is
no_trouble Memory status is five seven = seven is

pub untroubled : (trouble : Trouble) (saying : Saying) → saying ≡ trouble_saying trouble → saying.status ≢ 5 → saying.status ≢ 7 → ⊥
untroubled trouble saying said five seven = no_trouble trouble saying.status (ap (λ (s : Saying). s.status) said) five seven
