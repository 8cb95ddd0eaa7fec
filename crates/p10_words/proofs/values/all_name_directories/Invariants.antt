use Rattle.std.proofs.Common.{◌≡◌, length}
use denote.Shadow.{shadow}
use denote.Text.{Utf8}
use Rattle.std.specs.List.{list_all}
use Rattle.p10_words.specs.CommandLines.{cut}
use Rattle.p10_words.specs.private.Scanning.{is_name}
use Rattle.p10_words.proofs.values.all_name_directories.Given as goal

abbrev pub decreases-loop-name : goal.decreases-loop-name
decreases-loop-name l = length (cut l.rest)

abbrev pub invariant-loop-name : goal.invariant-loop-name
invariant-loop-name l = record {
  text : shadow (Utf8 l.rest);
  all : list_all is_name (cut l.value) ≡ list_all is_name (cut l.rest);
}
