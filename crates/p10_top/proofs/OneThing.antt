-- Where files and input are told, only one thing may be said to a command line.
use Rattle.std.proofs.Common.{◌≡◌, ◌≢◌, ℕ, List, refl, sym, ◌∙◌, ap, subst, Some}
use Rattle.p10_base.specs.Words.{Text}
use Rattle.p10_world.specs.Files.{Named}
use Rattle.p10_command.specs.Saying.{Saying}
use Rattle.p10_command.specs.Seen.{Seen, SeenInput}
use Rattle.p10_words.specs.declared.command.Command.{Command}
use Rattle.p10_words.specs.declared.command.Command.TheVariants as command
use Rattle.p10_words.proofs.OneCommand.{one_command}
use Rattle.p10_check_command.specs.Laws.{CheckSaysOneThing}
use Rattle.p10_derive_command.specs.Laws.{DeriveSaysOneThing}
use Rattle.p10_gen_command.specs.Laws.{GenSaysOneThing}
use Rattle.p10_migrate_command.specs.Laws.{MigrateSaysOneThing}
use Rattle.p10_recheck_command.specs.Laws.{RecheckSaysOneThing}
use Rattle.p10_run_command.specs.Laws as run
use Rattle.p10_verify_command.specs.Laws.{VerifySaysOneThing}
use Rattle.p10_top.specs.Told.{MaySay, SaysFor, for_none, for_command, for_any}

abbrev told : List Named → ℕ → ℕ → Seen
told files before after = record { held = Some files; faults_before = before; faults_after = after }

one_for : CheckSaysOneThing → DeriveSaysOneThing → VerifySaysOneThing → GenSaysOneThing → run.SaysOneThing → MigrateSaysOneThing → RecheckSaysOneThing → (c : Command) (files : List Named) (before after : ℕ) (input : SeenInput) (bytes : List ℕ) (some other : Saying) → input.left ≡ Some bytes → SaysFor c (told files before after) input some → SaysFor c (told files before after) input other →
    some.status ≢ 5 → some.status ≢ 7 → other.status ≢ 5 → other.status ≢ 7 → some ≡ other
one_for only found one shown once moved edited (command.Check directories json sources) files before after input bytes some other left says says' five seven five' seven' =
    only (record { directories = directories; json = json; sources = sources }) (told files before after) files some other refl says says' five seven five' seven'
one_for only found one shown once moved edited (command.Derive directories version diff sources) files before after input bytes some other left says says' five seven five' seven' =
    found (record { directories = directories; version = version; diff = diff; sources = sources }) (told files before after) files some other refl says says' five seven five' seven'
one_for only found one shown once moved edited (command.Migrate directories certificate sources) files before after input bytes some other left says says' five seven five' seven' =
    moved (record { directories = directories; certificate = certificate; sources = sources }) (told files before after) files some other refl says says' five seven five' seven'
one_for only found one shown once moved edited (command.Verify directories clean certificate sources) files before after input bytes some other left says says' five seven five' seven' =
    one (record { directories = directories; clean = clean; certificate = certificate; sources = sources }) files before after some other says says' five seven five' seven'
one_for only found one shown once moved edited (command.Recheck directories old certificate sources) files before after input bytes some other left says says' five seven five' seven' =
    edited (record { directories = directories; since = old; certificate = certificate; sources = sources }) (told files before after) files some other refl says says' five seven five' seven'
one_for only found one shown once moved edited (command.Run directories budget turns deny sensors sources) files before after input bytes some other left says says' five seven five' seven' =
    once (record { directories = directories; budget = budget; turns = turns; deny = deny; sensors = sensors; sources = sources }) (told files before after) input files bytes some other refl left says says' five seven five' seven'
one_for only found one shown once moved edited (command.Generate functions) files before after input bytes some other left says says' five seven five' seven' = shown functions some other says says' seven seven'

pub says_one_thing : CheckSaysOneThing → DeriveSaysOneThing → VerifySaysOneThing → GenSaysOneThing → run.SaysOneThing → MigrateSaysOneThing → RecheckSaysOneThing → (words : List Text) (files : List Named) (before after : ℕ) (input : SeenInput) (bytes : List ℕ) (some other : Saying) → input.left ≡ Some bytes → MaySay words (told files before after) input some → MaySay words (told files before after) input other →
    some.status ≢ 5 → some.status ≢ 7 → other.status ≢ 5 → other.status ≢ 7 → some ≡ other
says_one_thing only found one shown once moved edited words files before after input bytes some other left (for_none none said) (for_none none' said') five seven five' seven' = said ∙ sym said'
says_one_thing only found one shown once moved edited words files before after input bytes some other left (for_none none said) (for_command c is says) five seven five' seven' = absurd (none c is)
says_one_thing only found one shown once moved edited words files before after input bytes some other left (for_command c is says) (for_none none said) five seven five' seven' = absurd (none c is)
says_one_thing only found one shown once moved edited words files before after input bytes some other left (for_command c is says) (for_command d is' says') five seven five' seven' =
    one_for only found one shown once moved edited d files before after input bytes some other left (subst (λ (e : Command). SaysFor e (told files before after) input some) (one_command words c d is is') says) says' five seven five' seven'
says_one_thing only found one shown once moved edited words files before after input bytes some other left (for_any said) may five seven five' seven' = absurd (seven (ap (λ (y : Saying). y.status) said))
says_one_thing only found one shown once moved edited words files before after input bytes some other left may (for_any said) five seven five' seven' = absurd (seven' (ap (λ (y : Saying). y.status) said))
