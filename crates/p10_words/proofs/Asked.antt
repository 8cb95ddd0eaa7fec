-- The commands that are asked for.
use Rattle.std.proofs.Common.{◌≡◌, refl, codes, true, []}
use Rattle.clap.specs.Simple.{App, with_rule}
use Rattle.clap.proofs.OnLiterals.{clap_on_literals}
use Rattle.p10_words.specs.Commands.{check_options, derive_options, migrate_options, verify_options, recheck_options, run_options}
use Rattle.p10_words.specs.private.Parsing.{bare, option_asked, flag_asked, files_asked, IsAsked, are_askable}

abbrev pub check_app : App
check_app = with_rule (with_rule (with_rule (bare (codes "check")) (option_asked (codes "include"))) (option_asked (codes "format"))) files_asked

abbrev pub derive_app : App
derive_app = with_rule (with_rule (with_rule (with_rule (bare (codes "derive")) (option_asked (codes "include"))) (option_asked (codes "cert-version"))) (flag_asked (codes "diff"))) files_asked

abbrev pub migrate_app : App
migrate_app = with_rule (with_rule (with_rule (bare (codes "migrate")) (option_asked (codes "include"))) (option_asked (codes "cert"))) files_asked

abbrev pub verify_app : App
verify_app = with_rule (with_rule (with_rule (with_rule (bare (codes "verify")) (option_asked (codes "include"))) (flag_asked (codes "clean"))) (option_asked (codes "cert"))) files_asked

abbrev pub recheck_app : App
recheck_app = with_rule (with_rule (with_rule (with_rule (bare (codes "recheck")) (option_asked (codes "include"))) (option_asked (codes "since"))) (option_asked (codes "cert"))) files_asked

abbrev pub run_app : App
run_app =
    with_rule (with_rule (with_rule (with_rule (with_rule (with_rule (with_rule (bare (codes "run")) (option_asked (codes "include"))) (option_asked (codes "steps"))) (option_asked (codes "turns")))
    (option_asked (codes "deny"))) (option_asked (codes "cert"))) (option_asked (codes "sensors"))) files_asked

abbrev pub generate_app : App
generate_app = with_rule (bare (codes "gen")) files_asked

pub check_asked : IsAsked check_app check_options
unfolding clap_on_literals
check_asked = record { simple = refl; free = refl; no_binary_name = refl; subs = refl; rules = refl; overrides = refl; wants_help = refl; wants_subcommand = refl }

pub derive_asked : IsAsked derive_app derive_options
unfolding clap_on_literals
derive_asked = record { simple = refl; free = refl; no_binary_name = refl; subs = refl; rules = refl; overrides = refl; wants_help = refl; wants_subcommand = refl }

pub migrate_asked : IsAsked migrate_app migrate_options
unfolding clap_on_literals
migrate_asked = record { simple = refl; free = refl; no_binary_name = refl; subs = refl; rules = refl; overrides = refl; wants_help = refl; wants_subcommand = refl }

pub verify_asked : IsAsked verify_app verify_options
unfolding clap_on_literals
verify_asked = record { simple = refl; free = refl; no_binary_name = refl; subs = refl; rules = refl; overrides = refl; wants_help = refl; wants_subcommand = refl }

pub recheck_asked : IsAsked recheck_app recheck_options
unfolding clap_on_literals
recheck_asked = record { simple = refl; free = refl; no_binary_name = refl; subs = refl; rules = refl; overrides = refl; wants_help = refl; wants_subcommand = refl }

pub run_asked : IsAsked run_app run_options
unfolding clap_on_literals
run_asked = record { simple = refl; free = refl; no_binary_name = refl; subs = refl; rules = refl; overrides = refl; wants_help = refl; wants_subcommand = refl }

pub generate_asked : IsAsked generate_app []
unfolding clap_on_literals
generate_asked = record { simple = refl; free = refl; no_binary_name = refl; subs = refl; rules = refl; overrides = refl; wants_help = refl; wants_subcommand = refl }

pub check_askable : are_askable check_options ≡ true
check_askable = refl

pub derive_askable : are_askable derive_options ≡ true
derive_askable = refl

pub migrate_askable : are_askable migrate_options ≡ true
migrate_askable = refl

pub verify_askable : are_askable verify_options ≡ true
verify_askable = refl

pub recheck_askable : are_askable recheck_options ≡ true
recheck_askable = refl

pub run_askable : are_askable run_options ≡ true
run_askable = refl

pub none_askable : are_askable [] ≡ true
none_askable = refl
