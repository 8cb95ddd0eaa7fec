use Rattle.std.proofs.Common.{◌≡◌, ◌++◌, length}
use denote.Shadow.{shadow}
use denote.Text.{Utf8}
use Rattle.p10_words.specs.CommandLines.{cut}
use Rattle.p10_words.proofs.values.push_directories.Given as goal

abbrev pub decreases-loop-name : goal.decreases-loop-name
decreases-loop-name l = length (cut l.rest)

abbrev pub invariant-loop-name : goal.invariant-loop-name
invariant-loop-name l = record {
  text : shadow (Utf8 l.rest);
  parts : l.initial.found ++ cut l.value ≡ l.found ++ cut l.rest;
}
