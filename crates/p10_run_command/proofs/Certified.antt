-- A run by a certificate that is accepted never runs out of steps.
use Rattle.std.proofs.Common.{◌≡◌, ◌≢◌, ℕ, ◌<◌, ℤ, List, [], ◌∷◌, refl, sym, subst, arith, Option, Some, None}
use Rattle.std.specs.List.{All}
use Rattle.std.proofs.lemmas.Int.{ints}
use Rattle.std.proofs.lemmas.List.Elements.{All-nil, All-cons}
use Rattle.p10_base.specs.declared.report.Bounds.{Bounds}
use Rattle.p10_base.specs.Words.{Text}
use Rattle.p10_world.specs.Files.{Named}
use Rattle.p10_core.specs.Typed.{PlainProgram}
use Rattle.p10_core.specs.WholePrograms.{IsWholeProgram}
use Rattle.p10_check.specs.declared.verdict.Verdict.TheVariants as verdicts
use Rattle.p10_check.specs.Texts.{claims_in}
use Rattle.p10_front.specs.Digests.{reading_digests}
use Rattle.p10_judge.specs.declared.judgement.Judgement.{Judgement}
use Rattle.p10_judge.specs.declared.judgement.Judgement.TheVariants.{BadCertificate, Stale, Failing, Accepted}
use Rattle.p10_judge.specs.declared.judgement.Judgement.TheVariants as judgements
use Rattle.p10_diff_evidence.specs.Laws.{StandingIsLawful}
use Rattle.p10_diff_evidence.specs.Standing.{standing_by}
use Rattle.p10_judge.specs.Judging.{HasVerdict, IsJudged}
use Rattle.p10_judge.specs.Saying.{judgement_status}
use Rattle.p10_meaning.specs.Runs.{Outcome, Returned, Turns, Ended, Within}
use Rattle.p10_meaning.specs.States.{AssertionFailed, IsSensorValue, IsWorld, StepsSpent, Undefined}
use Rattle.p10_run.specs.declared.budget.Budget.{Budget}
use Rattle.p10_run.specs.Budgets.{budget_within}
use Rattle.p10_run.specs.WholeRuns.{run_with, world_of}
use Rattle.p10_sensors.specs.Texts.{AreValues, IsValue}
use Rattle.p10_soundness.specs.Laws.{AcceptedCertificatesBoundRuns}
use Rattle.p10_words.specs.declared.command.Budget as asked
use Rattle.p10_words.specs.declared.command.Budget.TheVariants.{Certificate}
use Rattle.p10_command.specs.Saying.{Saying}
use Rattle.p10_command.specs.Seen.{Seen, SeenInput}
use Rattle.p10_command.proofs.Statuses.{said_with, trouble_between, ungathered_between, unread_between}
use Rattle.p10_run_command.specs.declared.command.RunCommand.{RunCommand}
use Rattle.p10_run_command.specs.declared.sensors.NoValues.{NoValues}
use Rattle.p10_run_command.specs.declared.sensors.NoValues.TheVariants.{TooLong, OtherLine}
use Rattle.p10_run_command.specs.Laws.{TellsBytes}
use Rattle.p10_run_command.specs.Answers.{IsInput, SaysRight, absent, ended, refused, troubled, troubled_run, ungathered, unread, without_values}
use Rattle.p10_run_command.specs.Command.{Permits}
use Rattle.p10_run_command.specs.Endings.{ended_status}
use Rattle.p10_run_command.specs.Sensors.{HasValues, no_values_status}

-- ## Runs

-- values of a text are those of sensors
sensor_value : (z : ℤ) → IsValue z → IsSensorValue z
sensor_value z is = record { low = is.least; high = omega (arith, ints, is.greatest) }

sensor_values : (values : List ℤ) → AreValues values → All IsSensorValue values
sensor_values [] are = All-nil IsSensorValue
sensor_values (z ∷ values) are = All-cons IsSensorValue z values (sensor_value z are.0) (sensor_values values are.1)

values_are : (held : Option (List Named)) (sensors : Option Text) (values : List ℤ) → HasValues held sensors values → All IsSensorValue values
values_are held None values has = subst (All IsSensorValue) (sym has) (All-nil IsSensorValue)
values_are held (Some name) values (bytes, given, holds) = sensor_values values holds.text.good

-- the run of an accepted certificate's program with the certificate's steps doesn't spend them
steps_left : AcceptedCertificatesBoundRuns → StandingIsLawful → (held : Option (List Named)) (name bytes : List ℕ) (values : List ℤ) (digests : List (List ℕ)) (p : PlainProgram) (bounds : Bounds) (b : Budget) (turns denied : ℕ) → IsWholeProgram p → IsJudged held name p digests (Accepted bounds) → b ≡ budget_within bounds turns denied →
    IsWorld (world_of values bytes denied) → (run_with p b values bytes).outcome ≢ Ended StepsSpent
steps_left law lawful held name bytes values digests p bounds b turns denied whole judged is world =
    let has : HasVerdict p judged.weighed.certificate (verdicts.Accepted bounds) = judged.weighed.has in
    let within : Within p bounds = law p whole (standing_by p has.ranked.ranks) (lawful p whole has.ranked.ranks) (claims_in judged.weighed.certificate) bounds has.is in
    subst (λ (c : Budget). (run_with p c values bytes).outcome ≢ Ended StepsSpent) (sym is) (within.every (world_of values bytes denied) world turns).steps

allowed_leaves : AcceptedCertificatesBoundRuns → StandingIsLawful → (held : Option (List Named)) (budget : asked.Budget) (name bytes : List ℕ) (values : List ℤ) (digests : List (List ℕ)) (p : PlainProgram) (b : Budget) (turns denied : ℕ) → budget ≡ Certificate name → IsWholeProgram p → Permits held budget turns denied digests p b →
    IsWorld (world_of values bytes denied) → (run_with p b values bytes).outcome ≢ Ended StepsSpent
allowed_leaves law lawful held budget name bytes values digests p b turns denied is whole allows world =
    let may : Permits held (Certificate name) turns denied digests p b = subst (λ (a : asked.Budget). Permits held a turns denied digests p b) is allows in
    steps_left law lawful held name bytes values digests p may.0 b turns denied whole may.1 may.2 world

-- the status is 12 only where steps ran out
spent : (o : Outcome) → ended_status o ≡ 12 → o ≡ Ended StepsSpent
spent (Returned z) is = absurd (omega (arith, is))
spent (Turns n) is = absurd (omega (arith, is))
spent (Ended (AssertionFailed span)) is = absurd (omega (arith, is))
spent (Ended (Undefined stop span)) is = absurd (omega (arith, is))
spent (Ended StepsSpent) is = refl

-- the input of a run has bytes
input_bytes : (left : Option (List ℕ)) (given : List ℕ) → TellsBytes left → IsInput left given → All (λ byte. byte < 256) given
input_bytes None given tells is = is
input_bytes (Some told) given tells is = subst (λ (l : List ℕ). All (λ byte. byte < 256) l) (sym is) tells

-- ## What is said

not_judged : (j : Judgement) → judgement_status j ≢ 12
not_judged judgements.TooLong is = omega (arith, is)
not_judged (BadCertificate line) is = omega (arith, is)
not_judged (Stale at kept found) is = omega (arith, is)
not_judged (Failing k at) is = omega (arith, is)
not_judged (Accepted bounds) is = omega (arith, is)

not_without_values : (why : NoValues) → no_values_status why ≢ 12
not_without_values TooLong is = omega (arith, is)
not_without_values (OtherLine line) is = omega (arith, is)

pub leaves_steps : AcceptedCertificatesBoundRuns → StandingIsLawful → (run : RunCommand) (name : Text) (seen : Seen) (input : SeenInput) (saying : Saying) → run.budget ≡ Certificate name → TellsBytes input.left →
    SaysRight run seen input saying → saying.status ≢ 12
leaves_steps law lawful run name seen input saying is tells (ungathered g why fails said) twelve = let e = said_with saying _ 12 said twelve in omega (arith, e, (ungathered_between why).most)
leaves_steps law lawful run name seen input saying is tells (absent g n gathers lacks said) twelve = omega (arith, said_with saying _ 12 said twelve)
leaves_steps law lawful run name seen input saying is tells (unread g why gathers held is_unread said) twelve = let e = said_with saying _ 12 said twelve in omega (arith, e, (unread_between why).most)
leaves_steps law lawful run name seen input saying is tells (refused g p n judgement has held asked judged refusal said) twelve = not_judged judgement (said_with saying _ 12 said twelve)
leaves_steps law lawful run name seen input saying is tells (without_values g p b why has allowed lacks said) twelve = not_without_values why (said_with saying _ 12 said twelve)
leaves_steps law lawful run name seen input saying is tells (ended g p b values given has allowed recorded is_input said) twelve =
    let are : All (λ byte. byte < 256) given = input_bytes input.left given tells is_input in
    let world : IsWorld (world_of values given run.deny) = record { input = are; sensors = values_are seen.held run.sensors values recorded } in
    allowed_leaves law lawful seen.held run.budget name given values (reading_digests has.reading).funcs p b run.turns run.deny is has.whole allowed world (spent (run_with p b values given).outcome (said_with saying _ 12 said twelve))
leaves_steps law lawful run name seen input saying is tells (troubled trouble may said) twelve = let e = said_with saying _ 12 said twelve in omega (arith, e, (trouble_between trouble).most)
leaves_steps law lawful run name seen input saying is tells (troubled_run g p b values given written trouble has allowed recorded is_input front may said) twelve =
    let e = said_with saying _ 12 said twelve in omega (arith, e, (trouble_between trouble).most)
