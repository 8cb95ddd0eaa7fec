use Rattle.std.proofs.Common.{◌≡◌, map, take, string_bytes}
use Rattle.p10_command.proofs.texts.strings.Given as goal

abbrev pub invariant-loop-text : goal.invariant-loop-text
invariant-loop-text l = map string_bytes l.found.items ≡ take l.text-index l.texts
