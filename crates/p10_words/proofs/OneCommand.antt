-- A line is one command.
use Rattle.std.proofs.Common.{◌≡◌, ℕ, Bool, true, false, refl, ap, sym, ◌∙◌, subst, List, [], ◌∷◌, Option, Some, None, inl, inr}
use Rattle.std.specs.Prelude.{codes, ◌⊎◌, is_some}
use Rattle.p10_words.specs.declared.command.Command.{Command}
use Rattle.p10_words.specs.declared.command.Command.TheVariants.{Check, Derive, Migrate, Verify, Recheck, Run, Generate}
use Rattle.p10_words.specs.declared.command.Budget.{Budget}
use Rattle.p10_words.specs.declared.command.Budget.TheVariants.{Steps, Certificate}
use Rattle.p10_base.specs.Words.{Text}
use Rattle.p10_words.specs.CommandLines.{Given, value_of, directories_in, IsNumber, HasNumber, HasFormat, HasForm, HasVersion}
use Rattle.p10_words.specs.Commands.{check_options, derive_options, migrate_options, verify_options, recheck_options, run_options, IsSplit, IsCheck, IsDerive, IsMigrate, IsVerify, IsRecheck, HasBudget, IsRun, IsGenerate, IsRestOf}
use Rattle.p10_words.specs.Laws.{LinesAreOneCommand}
use Rattle.p10_words.specs.private.Scanning.{Split}
use Rattle.p10_words.specs.private.Parsing.{are_askable}
use Rattle.p10_words.proofs.Asked.{check_askable, derive_askable, migrate_askable, verify_askable, recheck_askable, run_askable, none_askable}
use Rattle.p10_words.proofs.Numbers.{same_number}
use Rattle.p10_words.proofs.Naming.{apart, Checks, checks, Derives, derives, Migrates, migrates, Verifies, verifies, Rechecks, rechecks, Runs, runs, Generates, generates}
use Rattle.p10_words.proofs.Deciding.{read, same_split}

split_of : List Given → List Text → Split
split_of options files = record { options = options; files = files }

one_split : (names words : List Text) (os ps : List Given) (fs gs : List Text) → are_askable names ≡ true → IsSplit names words os fs → IsSplit names words ps gs → split_of os fs ≡ split_of ps gs
unfolding split_of
one_split names words os ps fs gs k s t = same_split _ _ _ (read names words os fs k s).scanned (read names words ps gs k t).scanned

same_value : (o : Option Text) (p : Option Text) (c d : Text) → o ≡ p → o ≡ Some c → p ≡ Some d → c ≡ d
same_value o p c d e f g = let w = sym f ∙ e ∙ g in cc

-- of two texts that are apart, a value is one at most
same_choice : {A : Type 0} (value first second : Text) (a b this that : A) → (first ≡ second → ⊥) → ((value ≡ first) × (this ≡ a)) ⊎ ((value ≡ second) × (this ≡ b)) → ((value ≡ first) × (that ≡ a)) ⊎ ((value ≡ second) × (that ≡ b)) → this ≡ that
same_choice value first second a b this that two (inl i) (inl j) = i.1 ∙ sym j.1
same_choice value first second a b this that two (inr i) (inr j) = i.1 ∙ sym j.1
same_choice value first second a b this that two (inl i) (inr j) = absurd (two (sym i.0 ∙ j.0))
same_choice value first second a b this that two (inr i) (inl j) = absurd (two (sym j.0 ∙ i.0))

-- a value is one format at most
same_format : (o : Option Text) (this that : Bool) → HasFormat o this → HasFormat o that → this ≡ that
same_format None this that i j = i ∙ sym j
same_format (Some value) this that i j = same_choice value (codes "text") (codes "json") _ _ this that (apart (codes "text") (codes "json") refl) i j

-- and one version
same_version : (o : Option Text) (this that : ℕ) → HasVersion o this → HasVersion o that → this ≡ that
same_version None this that i j = i ∙ sym j
same_version (Some value) this that i j = same_choice value (codes "1") (codes "2") 1 2 this that (apart (codes "1") (codes "2") refl) i j

value_in : Text → Split → Option Text
value_in name s = value_of s.options name

first_of : List Text → Text
first_of [] = []
first_of (x ∷ xs) = x

-- what bounds the steps is one thing at most
same_budget : (steps cert : Option Text) (a b : Budget) → HasBudget steps cert a → HasBudget steps cert b → a ≡ b
same_budget steps cert (Steps m) (Steps n) i j = ap Steps (same_number steps 10000000 m n i.1 j.1)
same_budget steps cert (Certificate m) (Certificate n) i j = ap Certificate (same_value cert cert m n refl i.1 j.1)
same_budget steps cert (Steps m) (Certificate n) i j = absurd (let w = sym i.0 ∙ j.1 in cc)
same_budget steps cert (Certificate m) (Steps n) i j = absurd (let w = sym j.0 ∙ i.1 in cc)

-- with `--diff` or without it there is one form
same_form : (o : Option Text) (given : Bool) (m n : ℕ) (a b : Bool) → HasForm o given m a → HasForm o given n b → (m ≡ n) × (a ≡ b)
same_form o false m n a b v w = (same_version o m n v.0 w.0, v.1 ∙ sym w.1)
same_form o true m n a b v w = (v.1 ∙ sym w.1, v.2 ∙ sym w.2)

-- each command beside another of the same word and words
one_check : (words d : List Text) (b : Bool) (f : List Text) (v : IsCheck words d b f) (c : Command) → Checks words c → Check d b f ≡ c
unfolding value_in split_of
one_check words d b f v c w =
    let same = one_split check_options words v.options w.rest.options f w.files check_askable v.split w.rest.split in
    let files : f ≡ w.files = ap (λ (x : Split). x.files) same in
    let dirs : d ≡ w.directories = v.include.are ∙ ap (λ (x : Split). directories_in (value_in (codes "include") x)) same ∙ sym w.rest.include.are in
    let json : b ≡ w.json = same_format (value_of w.rest.options (codes "format")) b w.json (subst (λ (o : Option Text). HasFormat o b) (ap (value_in (codes "format")) same) v.has_format) w.rest.has_format in
    (λ i. Check (dirs i) (json i) (files i)) ∙ sym w.is

one_derive : (words d : List Text) (n : ℕ) (b : Bool) (f : List Text) (v : IsDerive words d n b f) (c : Command) → Derives words c → Derive d n b f ≡ c
unfolding value_in split_of
one_derive words d n b f v c w =
    let same = one_split derive_options words v.options w.rest.options f w.files derive_askable v.split w.rest.split in
    let files : f ≡ w.files = ap (λ (x : Split). x.files) same in
    let dirs : d ≡ w.directories = v.include.are ∙ ap (λ (x : Split). directories_in (value_in (codes "include") x)) same ∙ sym w.rest.include.are in
    let given : is_some (value_of v.options (codes "diff")) ≡ is_some (value_of w.rest.options (codes "diff")) = ap (λ (x : Split). is_some (value_in (codes "diff") x)) same in
    let form : HasForm (value_of w.rest.options (codes "cert-version")) (is_some (value_of w.rest.options (codes "diff"))) n b =
    subst (λ (o : Option Text). HasForm o (is_some (value_of w.rest.options (codes "diff"))) n b) (ap (value_in (codes "cert-version")) same)
    (subst (λ (g : Bool). HasForm (value_of v.options (codes "cert-version")) g n b) given v.has_form) in
    let alike = same_form (value_of w.rest.options (codes "cert-version")) (is_some (value_of w.rest.options (codes "diff"))) n w.version b w.diff form w.rest.has_form in
    (λ i. Derive (dirs i) (alike.0 i) (alike.1 i) (files i)) ∙ sym w.is

one_migrate : (words d : List Text) (k : Text) (f : List Text) (v : IsMigrate words d k f) (c : Command) → Migrates words c → Migrate d k f ≡ c
unfolding value_in split_of
one_migrate words d k f v c w =
    let same = one_split migrate_options words v.options w.rest.options f w.files migrate_askable v.split w.rest.split in
    let files : f ≡ w.files = ap (λ (x : Split). x.files) same in
    let dirs : d ≡ w.directories = v.include.are ∙ ap (λ (x : Split). directories_in (value_in (codes "include") x)) same ∙ sym w.rest.include.are in
    let cert : k ≡ w.certificate = same_value _ _ k w.certificate (ap (value_in (codes "cert")) same) v.cert w.rest.cert in
    (λ i. Migrate (dirs i) (cert i) (files i)) ∙ sym w.is

one_verify : (words d : List Text) (b : Bool) (k : Text) (f : List Text) (v : IsVerify words d b k f) (c : Command) → Verifies words c → Verify d b k f ≡ c
unfolding value_in split_of
one_verify words d b k f v c w =
    let same = one_split verify_options words v.options w.rest.options f w.files verify_askable v.split w.rest.split in
    let files : f ≡ w.files = ap (λ (x : Split). x.files) same in
    let dirs : d ≡ w.directories = v.include.are ∙ ap (λ (x : Split). directories_in (value_in (codes "include") x)) same ∙ sym w.rest.include.are in
    let clean : b ≡ w.clean = sym v.flag ∙ ap (λ (x : Split). is_some (value_in (codes "clean") x)) same ∙ w.rest.flag in
    let cert : k ≡ w.certificate = same_value _ _ k w.certificate (ap (value_in (codes "cert")) same) v.cert w.rest.cert in
    (λ i. Verify (dirs i) (clean i) (cert i) (files i)) ∙ sym w.is

one_recheck : (words d : List Text) (o k : Text) (f : List Text) (v : IsRecheck words d o k f) (c : Command) → Rechecks words c → Recheck d o k f ≡ c
unfolding value_in split_of
one_recheck words d o k f v c w =
    let same = one_split recheck_options words v.options w.rest.options f w.files recheck_askable v.split w.rest.split in
    let files : f ≡ w.files = ap (λ (x : Split). x.files) same in
    let dirs : d ≡ w.directories = v.include.are ∙ ap (λ (x : Split). directories_in (value_in (codes "include") x)) same ∙ sym w.rest.include.are in
    let old : o ≡ w.old = same_value _ _ o w.old (ap (value_in (codes "since")) same) v.since w.rest.since in
    let cert : k ≡ w.certificate = same_value _ _ k w.certificate (ap (value_in (codes "cert")) same) v.cert w.rest.cert in
    (λ i. Recheck (dirs i) (old i) (cert i) (files i)) ∙ sym w.is

one_run : (words d : List Text) (b : Budget) (t n : ℕ) (o : Option Text) (f : List Text) (v : IsRun words d b t n o f) (c : Command) → Runs words c → Run d b t n o f ≡ c
unfolding value_in split_of
one_run words d b t n o f v c w =
    let same = one_split run_options words v.options w.rest.options f w.files run_askable v.split w.rest.split in
    let files : f ≡ w.files = ap (λ (x : Split). x.files) same in
    let dirs : d ≡ w.directories = v.include.are ∙ ap (λ (x : Split). directories_in (value_in (codes "include") x)) same ∙ sym w.rest.include.are in
    let budget : b ≡ w.budget = same_budget (value_of w.rest.options (codes "steps")) (value_of w.rest.options (codes "cert")) b w.budget
    (subst (λ (x : Split). HasBudget (value_in (codes "steps") x) (value_in (codes "cert") x) b) same v.has_budget) w.rest.has_budget in
    let turns : t ≡ w.turns = same_number (value_of w.rest.options (codes "turns")) 1 t w.turns (subst (λ (o : Option Text). HasNumber o 1 t) (ap (value_in (codes "turns")) same) v.has_turns) w.rest.has_turns in
    let deny : n ≡ w.deny = same_number (value_of w.rest.options (codes "deny")) 0 n w.deny (subst (λ (o : Option Text). HasNumber o 0 n) (ap (value_in (codes "deny")) same) v.has_deny) w.rest.has_deny in
    let sensors : o ≡ w.sensors = sym v.has_sensors ∙ ap (value_in (codes "sensors")) same ∙ w.rest.has_sensors in
    (λ i. Run (dirs i) (budget i) (turns i) (deny i) (sensors i) (files i)) ∙ sym w.is

one_generate : (words : List Text) (n : ℕ) (v : IsGenerate words n) (c : Command) → Generates words c → Generate n ≡ c
unfolding split_of first_of
one_generate words n v c w =
    let same = one_split [] words [] [] (v.number ∷ []) (w.rest.number ∷ []) none_askable v.split w.rest.split in
    let numbers : v.number ≡ w.rest.number = ap (λ (x : Split). first_of x.files) same in
    let functions : n ≡ w.functions = same_number (Some w.rest.number) 0 n w.functions (subst (λ (t : Text). IsNumber t n) numbers v.is) w.rest.is in
    ap Generate functions ∙ sym w.is

one_rest : (a b : Command) (word : Text) (words : List Text) → IsRestOf a word words → IsRestOf b word words → a ≡ b
one_rest (Check d json f) b word words i j = one_check words d json f i.1 b (checks words b (subst (λ (w : Text). IsRestOf b w words) i.0 j))
one_rest (Derive d n l f) b word words i j = one_derive words d n l f i.1 b (derives words b (subst (λ (w : Text). IsRestOf b w words) i.0 j))
one_rest (Migrate d k f) b word words i j = one_migrate words d k f i.1 b (migrates words b (subst (λ (w : Text). IsRestOf b w words) i.0 j))
one_rest (Verify d l k f) b word words i j = one_verify words d l k f i.1 b (verifies words b (subst (λ (w : Text). IsRestOf b w words) i.0 j))
one_rest (Recheck d o k f) b word words i j = one_recheck words d o k f i.1 b (rechecks words b (subst (λ (w : Text). IsRestOf b w words) i.0 j))
one_rest (Run d g t n o f) b word words i j = one_run words d g t n o f i.1 b (runs words b (subst (λ (w : Text). IsRestOf b w words) i.0 j))
one_rest (Generate n) b word words i j = one_generate words n i.1 b (generates words b (subst (λ (w : Text). IsRestOf b w words) i.0 j))

rest_of : List Text → List Text
rest_of [] = []
rest_of (x ∷ xs) = xs

pub one_command : LinesAreOneCommand
unfolding first_of rest_of
one_command line a b i j =
    let same = sym i.begins ∙ j.begins in
    one_rest a b j.word j.words
    (subst (λ (w : List Text). IsRestOf a j.word w) (ap rest_of same) (subst (λ (w : Text). IsRestOf a w i.words) (ap first_of same) i.rest)) j.rest
