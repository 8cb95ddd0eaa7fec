-- What `clap` is asked for, and what its matches say.
use Rattle.std.specs.Prelude.{◌≡◌, List, [], ◌∷◌, ◌++◌, Bool, true, false, not, ◌&&◌, codes, map, Option, Some, None, option_map, unwrap_or, if◌then◌else◌, Result, Ok, Err}
use Rattle.std.specs.List.{list_all}
use Rattle.clap.specs.Lexer.{has_byte}
use Rattle.clap.specs.Walk.{Rule, is_empty}
use Rattle.clap.specs.Simple.{App, new_app, new_rule, on_top, built, is_simple}
use Rattle.clap.specs.Faults.{is_simple_and_free}
use Rattle.clap.specs.Matches.{found_of, first_value, matched_of, raw_values}
use Rattle.clap.specs.declared.parser.matches.ArgMatches.{ArgMatches}
use Rattle.clap.specs.declared.builder.action.ArgAction.TheVariants.{Set, SetTrue, Append}
use Rattle.clap.specs.declared.builder.value_parser.ValueParser.TheVariants as parser
use Rattle.clap.specs.declared.error.kind.ErrorKind.{ErrorKind}
use Rattle.clap.specs.declared.error.kind.ErrorKind.TheVariants.{OutOfMemory}
use Rattle.p10_words.specs.declared.command.Usage.{Usage}
use Rattle.p10_words.specs.declared.command.Usage.TheVariants.{Refused, Memory}
use Rattle.p10_base.specs.Words.{Text}
use Rattle.p10_words.specs.CommandLines.{IsAmong, is_flag, AreGivenOnce, value_of}
use Rattle.p10_words.specs.private.Scanning.{Split, scan, has_names, is_among}

abbrev pub file_id : Text
file_id = codes "FILE"

-- an option that takes one value, a flag, and the files, as `clap` is asked for them
abbrev pub option_asked : Text → Rule
option_asked name = record (new_rule name) { long = Some name; action = Some Set }

abbrev pub flag_asked : Text → Rule
flag_asked name = record (new_rule name) { long = Some name; action = Some SetTrue }

abbrev pub files_asked : Rule
files_asked = record (new_rule file_id) { action = Some Append }

-- a command of this name with no help, and no argument yet
abbrev pub bare : Text → App
bare name = on_top (λ s. record s { no_binary_name = true; disable_help_flag = true }) (new_app name)

-- the same as `clap` builds them: a flag that is given has the value `true`, and another one `false`
abbrev pub rule_as : Bool → Text → Rule
rule_as flag name = record (new_rule name) {
  long = Some name;
  action = Some (if flag then SetTrue else Set);
  range = Some (if flag then record { start_inclusive = 0; end_inclusive = 0 } else record { start_inclusive = 1; end_inclusive = 1 });
  defaults = if flag then codes "false" ∷ [] else [];
  missing = if flag then codes "true" ∷ [] else [];
  parser = Some (if flag then parser.Bool else parser.String);
}

abbrev pub option_rule : Text → Rule
option_rule name = rule_as (is_flag name) name

abbrev pub files_rule : Rule
files_rule = record (new_rule file_id) {
  action = Some Append;
  index = Some 1;
  range = Some (record { start_inclusive = 1; end_inclusive = 1 });
  parser = Some parser.String;
}

abbrev pub rules_of : List Text → List Rule
rules_of names = map option_rule names ++ files_rule ∷ []

-- the command asks for these options and for files, and for nothing else
pub record IsAsked (a : App) (names : List Text) : Type 0 where
  pub simple : is_simple a ≡ true
  pub free : is_simple_and_free a ≡ true
  pub no_binary_name : a.top.no_binary_name ≡ true
  pub subs : (built a).subs ≡ []
  pub rules : (built a).top.rules ≡ rules_of names
  pub overrides : (built a).top.args_override_self ≡ false
  pub wants_help : (built a).top.arg_required_else_help ≡ false
  pub wants_subcommand : (built a).top.subcommand_required ≡ false

-- names of options have a first byte and no `=`, and none is that of the files
abbrev pub are_askable : List Text → Bool
are_askable names = list_all (λ name. not (is_empty name) && not (has_byte 61 name)) names && not (is_among names file_id)

abbrev pub some_list : List Text → Option (List Text)
some_list [] = None
some_list (x ∷ xs) = Some (x ∷ xs)

-- the matches have the values of the options, and the files
pub record Reads (names : List Text) (m : ArgMatches) (s : Split) : Type 0 where
  pub options : (name : Text) → IsAmong names name → is_flag name ≡ false → first_value (found_of m) name ≡ value_of s.options name
  pub flags : (name : Text) → IsAmong names name → is_flag name ≡ true → first_value (found_of m) name ≡ Some (unwrap_or (value_of s.options name) (codes "false"))
  pub files : option_map raw_values (matched_of (found_of m) file_id) ≡ some_list s.files

-- matches that read the words, each option given once
pub record Matched (names words : List Text) (m : ArgMatches) : Type 0 where
  pub split : Split
  pub scanned : scan names None words ≡ Some split
  pub once : AreGivenOnce [] split.options
  pub reads : Reads names m split

-- no reading of the words has each option once and names alone
abbrev pub IsNoSplit : List Text → List Text → Type 0
IsNoSplit names words = (s : Split) → scan names None words ≡ Some s → AreGivenOnce [] s.options → has_names s ≡ true → ⊥

abbrev pub IsParse : List Text → List Text → Result ArgMatches Usage → Type 0
IsParse names words (Ok m) = Matched names words m
IsParse names words (Err Refused) = IsNoSplit names words
IsParse names words (Err Memory) = Unit {0}

-- running out of memory is never answered as words that are refused
abbrev pub IsUsage : ErrorKind → Usage → Type 0
IsUsage kind Memory = Unit {0}
IsUsage kind Refused = kind ≡ OutOfMemory → ⊥
