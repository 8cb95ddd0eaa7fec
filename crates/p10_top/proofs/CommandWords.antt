-- The words of a command, and what is named in them.
use Rattle.std.proofs.Common.{ℕ, ◌≤◌, ◌^◌, List, length, ap, arith, Option, Some, None}
use Rattle.p10_base.specs.Words.{Text}
use Rattle.p10_words.specs.declared.command.Command.{Command}
use Rattle.p10_words.specs.declared.command.Command.TheVariants as command
use Rattle.p10_words.specs.CommandLines.{Given, Splits, HasNumber, no_words, file, option, option_joined, flag, ended}
use Rattle.p10_words.specs.Commands.{IsCommandLine}
use Rattle.p10_top.specs.Commands.{IsNoRun, IsNoRunLine, sources_of, turns_asked}

-- ## How many files

few_files : (names words : List Text) (options : List Given) (files : List Text) → Splits names words options files → length files ≤ length words
few_files names words options files no_words = omega arith
few_files names words options files (file {word = word} {words = rest} {options = given} {files = others} n s) = omega (arith, few_files names rest given others s)
few_files names words options files (option {name = name} {value = value} {words = rest} {options = others} {files = kept} a g n s) = omega (arith, few_files names rest others kept s)
few_files names words options files (option_joined {name = name} {value = value} {words = rest} {options = others} {files = kept} a g n s) = omega (arith, few_files names rest others kept s)
few_files names words options files (flag {name = name} {words = rest} {options = others} {files = kept} a g s) = omega (arith, few_files names rest others kept s)
few_files names words options files (ended {words = rest} n) = omega arith

-- a command has no more sources than a command line words
pub few_sources : (words : List Text) (c : Command) → IsCommandLine words c → length (sources_of c) ≤ 65536
few_sources words (command.Check directories json sources) is =
    let check = is.rest.1 in
    omega (arith, few_files _ is.words check.options sources check.split.splits, ap length is.begins, is.few)
few_sources words (command.Derive directories version diff sources) is =
    let derive = is.rest.1 in
    omega (arith, few_files _ is.words derive.options sources derive.split.splits, ap length is.begins, is.few)
few_sources words (command.Migrate directories certificate sources) is =
    let migrate = is.rest.1 in
    omega (arith, few_files _ is.words migrate.options sources migrate.split.splits, ap length is.begins, is.few)
few_sources words (command.Verify directories clean certificate sources) is =
    let verify = is.rest.1 in
    omega (arith, few_files _ is.words verify.options sources verify.split.splits, ap length is.begins, is.few)
few_sources words (command.Recheck directories old certificate sources) is =
    let recheck = is.rest.1 in
    omega (arith, few_files _ is.words recheck.options sources recheck.split.splits, ap length is.begins, is.few)
few_sources words (command.Run directories budget turns deny sensors sources) is =
    let run = is.rest.1 in
    omega (arith, few_files _ is.words run.options sources run.split.splits, ap length is.begins, is.few)
few_sources words (command.Generate functions) is = omega arith

number_is_small : (value : Option Text) (standard n : ℕ) → standard ≤ 10 ^ 18 → HasNumber value standard n → n ≤ 10 ^ 18
number_is_small None standard n small is = omega (arith, small, is)
number_is_small (Some text) standard n small is = is.small

-- a command asks for no more than 10^18 turns
pub few_turns : (words : List Text) (c : Command) → IsCommandLine words c → turns_asked c ≤ 10 ^ 18
few_turns words (command.Check directories json sources) is = omega arith
few_turns words (command.Derive directories version diff sources) is = omega arith
few_turns words (command.Migrate directories certificate sources) is = omega arith
few_turns words (command.Verify directories clean certificate sources) is = omega arith
few_turns words (command.Recheck directories old certificate sources) is = omega arith
few_turns words (command.Run directories budget turns deny sensors sources) is = number_is_small _ 1 turns (omega arith) is.rest.1.has_turns
few_turns words (command.Generate functions) is = omega arith

-- the words of a `run` are one
pub no_run : (words : List Text) (c : Command) → IsCommandLine words c → IsNoRunLine words → IsNoRun c
no_run words (command.Check directories json sources) is none = tt
no_run words (command.Derive directories version diff sources) is none = tt
no_run words (command.Migrate directories certificate sources) is none = tt
no_run words (command.Verify directories clean certificate sources) is none = tt
no_run words (command.Recheck directories old certificate sources) is none = tt
no_run words (command.Run directories budget turns deny sensors sources) is none = none (record { directories = directories; budget = budget; turns = turns; deny = deny; sensors = sensors; sources = sources }) is
no_run words (command.Generate functions) is none = tt
