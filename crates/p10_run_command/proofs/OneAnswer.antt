-- Where files and input are told, one thing is right to say, unless a read fails or memory runs out.
use Rattle.std.proofs.Common.{◌≡◌, ◌≢◌, ℕ, ℤ, List, refl, sym, ◌∙◌, ap, subst, Option, Some, None, IsSome}
use Rattle.std.proofs.lemmas.Option.{same_Some}
use Rattle.p10_base.specs.declared.report.Bounds.{Bounds}
use Rattle.p10_base.specs.Gathered.{Gathered}
use Rattle.p10_base.specs.Words.{Text}
use Rattle.p10_world.specs.Files.{Named}
use Rattle.p10_core.specs.Typed.{PlainProgram}
use Rattle.p10_expand.specs.Gathering.{Setting}
use Rattle.p10_front.specs.Digests.{reading_digests}
use Rattle.p10_front.specs.Laws.{ReadsOnce}
use Rattle.p10_front.specs.Readings.{PlainReading}
use Rattle.p10_run.specs.declared.budget.Budget.{Budget}
use Rattle.p10_run.specs.Budgets.{budget_within}
use Rattle.p10_run.specs.WholeRuns.{run_with}
use Rattle.p10_words.specs.declared.command.Budget as asked
use Rattle.p10_words.specs.declared.command.Budget.TheVariants as words
use Rattle.p10_command.specs.declared.trouble.Trouble.{Trouble}
use Rattle.p10_command.specs.Programs.{HasProgram}
use Rattle.p10_command.specs.Saying.{Saying}
use Rattle.p10_command.specs.Seen.{Seen, SeenInput}
use Rattle.p10_command.proofs.Once.{gathered_or_not, has_once, reading_once, is_told, no_trouble, one_ungathered, one_unread_saying, unread_or_program, untroubled}
use Rattle.p10_judge.specs.declared.judgement.Judgement.{Judgement}
use Rattle.p10_judge.specs.declared.judgement.Judgement.TheVariants.{Accepted}
use Rattle.p10_judge.specs.Judging.{IsJudged}
use Rattle.p10_judge.specs.Laws.{OneJudgement}
use Rattle.p10_command.proofs.Files.{held_or_lacking}
use Rattle.p10_judge.proofs.Once.{judged_is_held, judged_once}
use Rattle.p10_run_command.specs.declared.command.RunCommand.{RunCommand}
use Rattle.p10_run_command.specs.declared.sensors.NoValues.{NoValues}
use Rattle.p10_run_command.specs.Answers.{IsInput, IsRefusal, SaysRight, absent, ended, refused, troubled, troubled_run, ungathered, unread, without_values, absent_saying, refused_saying, setting_of, troubled_saying}
use Rattle.p10_run_command.specs.Command.{Permits, IsPermitted}
use Rattle.p10_run_command.specs.Endings.{ended_saying}
use Rattle.p10_run_command.specs.Files.{HasCertificate, HasFiles, IsFirstAbsent, no_certificate, no_sensor_file}
use Rattle.p10_run_command.specs.Sensors.{HasValues, LacksValues, no_values_saying}
use Rattle.p10_run_command.proofs.Recorded.{Laws, lack_held, one_lack, one_values, values_held, values_or_lack}

-- ## Parts

-- the input is told
same_input : (left : Option (List ℕ)) (told bytes bytes' : List ℕ) → left ≡ Some told → IsInput left bytes → IsInput left bytes' → bytes ≡ bytes'
same_input None told bytes bytes' is this that = absurd (cc)
same_input (Some left) told bytes bytes' is this that = this ∙ sym that

-- a trouble while the program runs is none of the other answers
untroubled_run : (trouble : Trouble) (written : List ℕ) (saying : Saying) → saying ≡ troubled_saying trouble written → saying.status ≢ 5 → saying.status ≢ 7 → ⊥
untroubled_run trouble written saying said five seven = no_trouble trouble saying.status (ap (λ (s : Saying). s.status) said) five seven

-- ## Certificates

-- a command names one certificate
one_name : (budget : asked.Budget) (name name' : Text) → budget ≡ words.Certificate name → budget ≡ words.Certificate name' → name ≡ name'
one_name budget name name' is is' =
    let same : ◌≡◌ {A = asked.Budget} (words.Certificate name) (words.Certificate name') = sym is ∙ is' in
    cc

-- a certificate that allows a budget is there, and accepted
record IsAccepted (held : Option (List Named)) (name : Text) (turns denied : ℕ) (digests : List (List ℕ)) (p : PlainProgram) (b : Budget) : Type 0 where
  bounds : Bounds
  judged : IsJudged held name p digests (Accepted bounds)
  is : b ≡ budget_within bounds turns denied

accepted_by : (held : Option (List Named)) (budget : asked.Budget) (name : Text) (turns denied : ℕ) (digests : List (List ℕ)) (p : PlainProgram) (b : Budget) → budget ≡ words.Certificate name → Permits held budget turns denied digests p b → IsAccepted held name turns denied digests p b
accepted_by held budget name turns denied digests p b is allows =
    let may : Permits held (words.Certificate name) turns denied digests p b = subst (λ (a : asked.Budget). Permits held a turns denied digests p b) is allows in
    record { bounds = may.0; judged = may.1; is = may.2 }

-- what a command allows a program is one budget
one_budget : OneJudgement → (held : Option (List Named)) → IsSome held → (budget : asked.Budget) (turns denied : ℕ) (digests : List (List ℕ)) (p : PlainProgram) (b c : Budget) → Permits held budget turns denied digests p b → Permits held budget turns denied digests p c → b ≡ c
one_budget one held told (words.Steps n) turns denied digests p b c is is' = is ∙ sym is'
one_budget one held told (words.Certificate name) turns denied digests p b c (bounds, judged, is) (bounds', judged', is') =
    let same : ◌≡◌ {A = Judgement} (Accepted bounds) (Accepted bounds') = judged_once one held told name p p digests digests (Accepted bounds) (Accepted bounds') refl refl judged judged' in
    let same_bounds : bounds ≡ bounds' = cc in
    is ∙ ap (λ (d : Bounds). budget_within d turns denied) same_bounds ∙ sym is'

refused_or_accepted : (j : Judgement) (bounds : Bounds) → j ≡ Accepted bounds → IsRefusal j → ⊥
refused_or_accepted j bounds same refusal = subst (λ (k : Judgement). IsRefusal k) same refusal

-- ## Files

-- the certificate that allows a budget is there
permitted_is_held : (held : Option (List Named)) (run : RunCommand) (digests : List (List ℕ)) (p : PlainProgram) (b : Budget) → IsPermitted held run digests p b → HasCertificate held run
permitted_is_held held run digests p b allowed name is =
    let accepted = accepted_by held run.budget name run.turns run.deny digests p b is allowed in
    judged_is_held held name p digests (Accepted accepted.bounds) accepted.judged

module _ (held : Option (List Named)) (told : IsSome held) (run : RunCommand) where
  found_or_absent : (name : Text) → HasFiles held run → IsFirstAbsent held run name → ⊥
  found_or_absent name has (no_certificate is lacks) = held_or_lacking held told name (has.certificate name is) lacks
  found_or_absent name has (no_sensor_file found is lacks) = held_or_lacking held told name (has.sensors name is) lacks

  one_absent : (name name' : Text) → IsFirstAbsent held run name → IsFirstAbsent held run name' → name ≡ name'
  one_absent name name' (no_certificate is lacks) (no_certificate is' lacks') = one_name run.budget name name' is is'
  one_absent name name' (no_certificate is lacks) (no_sensor_file found is' lacks') = absurd (held_or_lacking held told name (found name is) lacks)
  one_absent name name' (no_sensor_file found is lacks) (no_certificate is' lacks') = absurd (held_or_lacking held told name' (found name' is') lacks')
  one_absent name name' (no_sensor_file found is lacks) (no_sensor_file found' is' lacks') = same_Some name name' (sym is ∙ is')

-- ## Answers of two kinds

module _ (once : ReadsOnce) (one : OneJudgement) (texts : Laws) (run : RunCommand) (seen : Seen) (told : IsSome seen.held) where
  abbrev s : Setting
  s = setting_of seen run

  -- a file that is absent isn't used
  absent_or_lacking : (name : Text) (digests : List (List ℕ)) (p : PlainProgram) (b : Budget) (why : NoValues) → IsFirstAbsent seen.held run name → IsPermitted seen.held run digests p b → LacksValues seen.held run.sensors why → ⊥
  absent_or_lacking name digests p b why none allowed lacks =
      found_or_absent seen.held told run name (record { certificate = permitted_is_held seen.held run digests p b allowed; sensors = lack_held seen.held run.sensors why lacks }) none

  absent_or_run : (name : Text) (digests : List (List ℕ)) (p : PlainProgram) (b : Budget) (values : List ℤ) → IsFirstAbsent seen.held run name → IsPermitted seen.held run digests p b → HasValues seen.held run.sensors values → ⊥
  absent_or_run name digests p b values none allowed has =
      found_or_absent seen.held told run name (record { certificate = permitted_is_held seen.held run digests p b allowed; sensors = values_held seen.held run.sensors values has }) none

  -- the words have one list of digests
  same_digests : (g h : Gathered) (p q : PlainProgram) → (has : HasProgram s g p) → (has' : HasProgram s h q) → (reading_digests has.reading).funcs ≡ (reading_digests has'.reading).funcs
  same_digests g h p q has has' = ap (λ (r : PlainReading). (reading_digests r).funcs) (reading_once once s told g h p q has has')

  -- a certificate is refused or accepted
  refused_or_allowed : (name : Text) (g h : Gathered) (p q : PlainProgram) (j : Judgement) (b : Budget) → (has : HasProgram s g p) → run.budget ≡ words.Certificate name → IsJudged seen.held name p (reading_digests has.reading).funcs j → IsRefusal j
      → (has' : HasProgram s h q) → IsPermitted seen.held run (reading_digests has'.reading).funcs q b → ⊥
  refused_or_allowed name g h p q j b has is judged refusal has' allowed =
      let accepted = accepted_by seen.held run.budget name run.turns run.deny (reading_digests has'.reading).funcs q b is allowed in
      refused_or_accepted j accepted.bounds
      (judged_once one seen.held told name p q (reading_digests has.reading).funcs (reading_digests has'.reading).funcs j (Accepted accepted.bounds) (has_once once s told g h p q has has').program_is (same_digests g h p q has has') judged accepted.judged) refusal

  -- a file gives values or none
  lacking_or_run : (values : List ℤ) (why : NoValues) → LacksValues seen.held run.sensors why → HasValues seen.held run.sensors values → ⊥
  lacking_or_run values why lacks has = values_or_lack texts seen.held told run.sensors values why has lacks

  -- ## Answers of one kind

  one_refusal : (g h : Gathered) (p q : PlainProgram) (name name' : Text) (j k : Judgement) → (has : HasProgram s g p) → run.budget ≡ words.Certificate name → IsJudged seen.held name p (reading_digests has.reading).funcs j
      → (has' : HasProgram s h q) → run.budget ≡ words.Certificate name' → IsJudged seen.held name' q (reading_digests has'.reading).funcs k →
      refused_saying g j ≡ refused_saying h k
  one_refusal g h p q name name' j k has is judged has' is' judged' =
      let same = has_once once s told g h p q has has' in
      let judgement : j ≡ k =
      judged_once one seen.held told name p q (reading_digests has.reading).funcs (reading_digests has'.reading).funcs j k same.program_is (same_digests g h p q has has') judged
      (subst (λ (n : Text). IsJudged seen.held n q (reading_digests has'.reading).funcs k) (one_name run.budget name' name is' is) judged') in
      ap (λ (x : Gathered). refused_saying x j) same.sources_are ∙ ap (λ (i : Judgement). refused_saying h i) judgement

  one_run : (g h : Gathered) (p q : PlainProgram) (b c : Budget) (values values' : List ℤ) (bytes bytes' : List ℕ) → (has : HasProgram s g p) → IsPermitted seen.held run (reading_digests has.reading).funcs p b → HasValues seen.held run.sensors values →
      (has' : HasProgram s h q) → IsPermitted seen.held run (reading_digests has'.reading).funcs q c → HasValues seen.held run.sensors values' → bytes ≡ bytes' → ended_saying g (run_with p b values bytes) ≡ ended_saying h (run_with q c values' bytes')
  one_run g h p q b c values values' bytes bytes' has allowed given has' allowed' given' same =
      let is = has_once once s told g h p q has has' in
      let digests : List (List ℕ) = (reading_digests has'.reading).funcs in
      let too : IsPermitted seen.held run digests q b =
      subst (λ (d : List (List ℕ)). IsPermitted seen.held run d q b) (same_digests g h p q has has') (subst (λ (x : PlainProgram). IsPermitted seen.held run (reading_digests has.reading).funcs x b) is.program_is allowed) in
      let budget : b ≡ c = one_budget one seen.held told run.budget run.turns run.deny digests q b c too allowed' in
      ap (λ (x : PlainProgram). ended_saying g (run_with x b values bytes)) is.program_is
      ∙ ap (λ (d : Budget). ended_saying g (run_with q d values bytes)) budget
      ∙ ap (λ (v : List ℤ). ended_saying g (run_with q c v bytes)) (one_values texts seen.held told run.sensors values values' given given')
      ∙ ap (λ (l : List ℕ). ended_saying g (run_with q c values' l)) same
      ∙ ap (λ (x : Gathered). ended_saying x (run_with q c values' bytes')) is.sources_are

  -- ## All answers

  module _ (input : SeenInput) (bytes : List ℕ) (left : input.left ≡ Some bytes) where
    pub says_one_thing : (some other : Saying) → SaysRight run seen input some → SaysRight run seen input other → some.status ≢ 5 → some.status ≢ 7 → other.status ≢ 5 → other.status ≢ 7 → some ≡ other
    says_one_thing some other (troubled t may said) says five seven five' seven' = absurd (untroubled t some said five seven)
    says_one_thing some other (troubled_run g p b v l written t has allowed given is front may said) says five seven five' seven' = absurd (untroubled_run t written some said five seven)
    says_one_thing some other says (troubled t may said) five seven five' seven' = absurd (untroubled t other said five' seven')
    says_one_thing some other says (troubled_run g p b v l written t has allowed given is front may said) five seven five' seven' = absurd (untroubled_run t written other said five' seven')
    says_one_thing some other (ungathered g why fails said) (ungathered h why' fails' said') five seven five' seven' =
        said ∙ one_ungathered s told run.sources g h why why' fails fails' ∙ sym said'
    says_one_thing some other (ungathered g why fails said) (absent h name gathers none said') five seven five' seven' = absurd (gathered_or_not s told h g why gathers fails)
    says_one_thing some other (ungathered g why fails said) (unread h why' gathers found is said') five seven five' seven' = absurd (gathered_or_not s told h g why gathers fails)
    says_one_thing some other (ungathered g why fails said) (refused h q name j has found is judged refusal said') five seven five' seven' = absurd (gathered_or_not s told h g why has.gathers fails)
    says_one_thing some other (ungathered g why fails said) (without_values h q b none has allowed lacks said') five seven five' seven' = absurd (gathered_or_not s told h g why has.gathers fails)
    says_one_thing some other (ungathered g why fails said) (ended h q b v l has allowed given is said') five seven five' seven' = absurd (gathered_or_not s told h g why has.gathers fails)
    says_one_thing some other (absent h name gathers none said) (ungathered g why fails said') five seven five' seven' = absurd (gathered_or_not s told h g why gathers fails)
    says_one_thing some other (unread h why' gathers found is said) (ungathered g why fails said') five seven five' seven' = absurd (gathered_or_not s told h g why gathers fails)
    says_one_thing some other (refused h q name j has found is judged refusal said) (ungathered g why fails said') five seven five' seven' = absurd (gathered_or_not s told h g why has.gathers fails)
    says_one_thing some other (without_values h q b none has allowed lacks said) (ungathered g why fails said') five seven five' seven' = absurd (gathered_or_not s told h g why has.gathers fails)
    says_one_thing some other (ended h q b v l has allowed given is said) (ungathered g why fails said') five seven five' seven' = absurd (gathered_or_not s told h g why has.gathers fails)
    says_one_thing some other (absent g name gathers none said) (absent h name' gathers' none' said') five seven five' seven' = said ∙ ap absent_saying (one_absent seen.held told run name name' none none') ∙ sym said'
    says_one_thing some other (absent g name gathers none said) (unread h why gathers' found is said') five seven five' seven' = absurd (found_or_absent seen.held told run name found none)
    says_one_thing some other (absent g name gathers none said) (refused h q name' j has found is judged refusal said') five seven five' seven' = absurd (found_or_absent seen.held told run name found none)
    says_one_thing some other (absent g name gathers none said) (without_values h q b why has allowed lacks said') five seven five' seven' = absurd (absent_or_lacking name (reading_digests has.reading).funcs q b why none allowed lacks)
    says_one_thing some other (absent g name gathers none said) (ended h q b v l has allowed given is said') five seven five' seven' = absurd (absent_or_run name (reading_digests has.reading).funcs q b v none allowed given)
    says_one_thing some other (unread g why gathers found is said) (absent h name gathers' none said') five seven five' seven' = absurd (found_or_absent seen.held told run name found none)
    says_one_thing some other (refused g p name j has found is judged refusal said) (absent h name' gathers none said') five seven five' seven' = absurd (found_or_absent seen.held told run name' found none)
    says_one_thing some other (without_values g p b why has allowed lacks said) (absent h name gathers none said') five seven five' seven' = absurd (absent_or_lacking name (reading_digests has.reading).funcs p b why none allowed lacks)
    says_one_thing some other (ended g p b v l has allowed given is said) (absent h name gathers none said') five seven five' seven' = absurd (absent_or_run name (reading_digests has.reading).funcs p b v none allowed given)
    says_one_thing some other (unread g why gathers found is said) (unread h why' gathers' found' is' said') five seven five' seven' = said ∙ one_unread_saying once s told g h why why' gathers is gathers' is' ∙ sym said'
    says_one_thing some other (unread g why gathers found is said) (refused h q name j has found' is' judged refusal said') five seven five' seven' = absurd (unread_or_program once s told g h why q gathers is has)
    says_one_thing some other (unread g why gathers found is said) (without_values h q b why' has allowed lacks said') five seven five' seven' = absurd (unread_or_program once s told g h why q gathers is has)
    says_one_thing some other (unread g why gathers found is said) (ended h q b v l has allowed given is' said') five seven five' seven' = absurd (unread_or_program once s told g h why q gathers is has)
    says_one_thing some other (refused g p name j has found' is' judged refusal said) (unread h why gathers found is said') five seven five' seven' = absurd (unread_or_program once s told h g why p gathers is has)
    says_one_thing some other (without_values g p b why' has allowed lacks said) (unread h why gathers found is said') five seven five' seven' = absurd (unread_or_program once s told h g why p gathers is has)
    says_one_thing some other (ended g p b v l has allowed given is' said) (unread h why gathers found is said') five seven five' seven' = absurd (unread_or_program once s told h g why p gathers is has)
    says_one_thing some other (refused g p name j has found is judged refusal said) (refused h q name' k has' found' is' judged' refusal' said') five seven five' seven' =
        said ∙ one_refusal g h p q name name' j k has is judged has' is' judged' ∙ sym said'
    says_one_thing some other (refused g p name j has found is judged refusal said) (without_values h q b why has' allowed lacks said') five seven five' seven' = absurd (refused_or_allowed name g h p q j b has is judged refusal has' allowed)
    says_one_thing some other (refused g p name j has found is judged refusal said) (ended h q b v l has' allowed given is' said') five seven five' seven' = absurd (refused_or_allowed name g h p q j b has is judged refusal has' allowed)
    says_one_thing some other (without_values g p b why has allowed lacks said) (refused h q name j has' found is judged refusal said') five seven five' seven' = absurd (refused_or_allowed name h g q p j b has' is judged refusal has allowed)
    says_one_thing some other (ended g p b v l has allowed given is' said) (refused h q name j has' found is judged refusal said') five seven five' seven' = absurd (refused_or_allowed name h g q p j b has' is judged refusal has allowed)
    says_one_thing some other (without_values g p b why has allowed lacks said) (without_values h q c why' has' allowed' lacks' said') five seven five' seven' =
        said ∙ ap no_values_saying (one_lack texts seen.held told run.sensors why why' lacks lacks') ∙ sym said'
    says_one_thing some other (without_values g p b why has allowed lacks said) (ended h q c v l has' allowed' given is said') five seven five' seven' = absurd (lacking_or_run v why lacks given)
    says_one_thing some other (ended g p b v l has allowed given is said) (without_values h q c why has' allowed' lacks said') five seven five' seven' = absurd (lacking_or_run v why lacks given)
    says_one_thing some other (ended g p b v l has allowed given is said) (ended h q c v' l' has' allowed' given' is' said') five seven five' seven' =
        said ∙ one_run g h p q b c v v' l l' has allowed given has' allowed' given' (same_input input.left bytes l l' left is is') ∙ sym said'

pub one_saying : ReadsOnce → OneJudgement → Laws → (run : RunCommand) (seen : Seen) (input : SeenInput) (files : List Named) (bytes : List ℕ) (some other : Saying) → seen.held ≡ Some files → input.left ≡ Some bytes →
    SaysRight run seen input some → SaysRight run seen input other → some.status ≢ 5 → some.status ≢ 7 → other.status ≢ 5 → other.status ≢ 7 → some ≡ other
one_saying once one texts run seen input files bytes some other held left this that five seven five' seven' =
    says_one_thing once one texts run seen (is_told seen.held files held) input bytes left some other this that five seven five' seven'
