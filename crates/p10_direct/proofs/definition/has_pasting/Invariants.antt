use Rattle.std.proofs.Common.{◌≡◌, map, drop}
use Rattle.std.specs.List.{list_any}
use Rattle.p10_base.specs.Words.{plain_word}
use Rattle.p10_direct.specs.Directives.{is_refused}
use Rattle.p10_direct.proofs.definition.has_pasting.Given as goal

-- one of the words passes where one of those that are left does
abbrev pub invariant-loop-word : goal.invariant-loop-word
invariant-loop-word l = list_any is_refused (map plain_word l.body) ≡ list_any is_refused (map plain_word (drop l.word-index l.body))
