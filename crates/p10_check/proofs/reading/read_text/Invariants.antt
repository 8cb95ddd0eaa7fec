use Rattle.std.proofs.Common.{◌≡◌, ◌+◌, ◌-◌, length}
use Rattle.std.specs.List.{flat_map}
use Rattle.p10_core.specs.Views.{plain_program}
use Rattle.p10_cert.specs.Lines.{text_of}
use Rattle.p10_cert.specs.Statements.{entry_lines}
use Rattle.p10_check.specs.Texts.{digests_of}
use Rattle.p10_check.specs.private.Readings.{AreTold}
use Rattle.p10_check.proofs.reading.read_text.Given as goal

-- what is told is so of what was given of the text
abbrev pub invariant-loop-next : goal.invariant-loop-next
invariant-loop-next l = record {
  text : l.reader.text ≡ l.bytes;
  told : AreTold (plain_program l.program) (digests_of l.found) l.reader.given l.told;
}

-- the bytes that are left
abbrev pub decreases-loop-next : goal.decreases-loop-next
decreases-loop-next l = (length l.bytes + 1) - length (text_of (flat_map entry_lines l.reader.given))
