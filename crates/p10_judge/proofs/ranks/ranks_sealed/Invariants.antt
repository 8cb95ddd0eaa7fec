use Rattle.std.proofs.Common.{◌≡◌, ◌+◌, ◌-◌, length}
use Rattle.std.specs.List.{flat_map}
use Rattle.p10_cert.specs.Lines.{text_of}
use Rattle.p10_cert.specs.Statements.{entry_lines}
use Rattle.p10_judge.proofs.ranks.ranks_sealed.Given as goal

-- the reader reads the text
abbrev pub invariant-loop-next : goal.invariant-loop-next
invariant-loop-next l = record { text : l.reader.text ≡ l.bytes }

-- the bytes that are left
abbrev pub decreases-loop-next : goal.decreases-loop-next
decreases-loop-next l = (length l.bytes + 1) - length (text_of (flat_map entry_lines l.reader.given))
