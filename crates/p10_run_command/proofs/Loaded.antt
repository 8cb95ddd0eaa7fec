-- What the files of a command come to, by what was loaded of each.
use Rattle.std.proofs.Common.{◌≡◌, ℕ, List, refl, sym, subst, Option, Some, None, IfSome, Bor, Vec, Global}
use Rattle.p10_base.specs.Words.{Text}
use Rattle.p10_world.specs.Files.{Lacks, Named}
use Rattle.p10_words.specs.declared.command.Budget.TheVariants.{Certificate}
use Rattle.p10_command.specs.Loading.{IsLoaded}
use Rattle.p10_run_command.specs.declared.command.RunCommand.{RunCommand}
use Rattle.p10_run_command.specs.declared.granting.Allowance.{Allowance}
use Rattle.p10_run_command.specs.declared.granting.RunRequest.{RunRequest}
use Rattle.p10_run_command.specs.Files.{IsFirstAbsent, no_sensor_file}
use Rattle.p10_run_command.specs.Sensors.{sensor_limit}
use Rattle.p10_run_command.specs.private.Granting.{IsAllowance, IsRequest, IsSensorFile, requested}
use Rattle.p10_run_command.specs.declared.loading.Loaded.{Loaded}
use Rattle.p10_run_command.specs.declared.loading.Loaded.TheVariants.{Request, Absent}
use Rattle.p10_run_command.specs.private.Recording.{AreLoaded}
use Rattle.p10_run_command.proofs.Granted.{held_by}

-- what is asked of the run
pub is_requested : (held : Option (List Named)) (command : RunCommand) (allowance : Allowance) (file : Option (List ℕ)) (request : RunRequest) → request ≡ requested command allowance file → IsAllowance held command.budget allowance → IsSensorFile held command.sensors file → IsRequest held command request
is_requested held command allowance file request is allowed loaded = subst (λ (r : RunRequest). IsRequest held command r) (sym is) (record { allowance = allowed; turns = refl; deny = refl; sensors = loaded })

-- no file of sensor values is named
pub none_named : (held : Option (List Named)) (sensors : Option Text) → sensors ≡ None → IsSensorFile held sensors None
none_named held sensors is = subst (λ (s : Option Text). IsSensorFile held s None) (sym is) tt

-- one is, and these bytes were loaded of it and are kept
pub one_loaded : (held : Option (List Named)) (sensors : Option Text) (name called : Text) (found : Option (Vec ℕ Global)) (bytes : Vec ℕ Global) (kept : List ℕ) → sensors ≡ Some name → called ≡ name → found ≡ Some bytes → kept ≡ bytes.items
    → IfSome found (λ b. IsLoaded held called sensor_limit b.items) → IsSensorFile held sensors (Some kept)
one_loaded held sensors name called found bytes kept is by_name there same loaded =
    let its : IsLoaded held called sensor_limit bytes.items = subst (λ (o : Option (Vec ℕ Global)). IfSome o (λ b. IsLoaded held called sensor_limit b.items)) there loaded in
    let named : IsSensorFile held (Some name) (Some bytes.items) = subst (λ (n : Text). IsLoaded held n sensor_limit bytes.items) by_name its in
    subst (λ (s : Option Text). IsSensorFile held s (Some kept)) (sym is) (subst (λ (l : List ℕ). IsSensorFile held (Some name) (Some l)) (sym same) named)

-- one is, and isn't there; the certificate was found
pub no_sensors : (held : Option (List Named)) (command : RunCommand) (allowance : Allowance) (name : Text) → IsAllowance held command.budget allowance → command.sensors ≡ Some name → Lacks held name → IsFirstAbsent held command name
no_sensors held command allowance name allowed is lacks = no_sensor_file (held_by held command.budget allowance allowed) is lacks

-- ## What was loaded after the sources were gathered

pub first_request : (held later : Option (List Named)) (command : RunCommand) (found : Loaded) (request : RunRequest) → found ≡ Request request → later ≡ held → AreLoaded later command found → IsRequest held command request
first_request held later command found request is unchanged loaded = subst (λ (h : Option (List Named)). IsRequest h command request) unchanged (subst (λ (f : Loaded). AreLoaded later command f) is loaded)

pub first_absent : (held later : Option (List Named)) (command : RunCommand) (found : Loaded) (name : Bor Text) → found ≡ Absent name → later ≡ held → AreLoaded later command found → IsFirstAbsent held command name.now
first_absent held later command found name is unchanged loaded = subst (λ (h : Option (List Named)). IsFirstAbsent h command name.now) unchanged (subst (λ (f : Loaded). AreLoaded later command f) is loaded)
