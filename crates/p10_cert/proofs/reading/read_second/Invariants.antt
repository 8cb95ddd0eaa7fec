use Rattle.std.proofs.Common.{◌≡◌, ◌+◌, ◌-◌, true, length, codes}
use Rattle.std.specs.List.{flat_map}
use Rattle.p10_cert.specs.Lines.{text_of}
use Rattle.p10_cert.specs.Reading.{Fits, begins_with}
use Rattle.p10_cert.specs.Statements.{entry_lines}
use Rattle.p10_cert.proofs.Collecting.{AreRead}
use Rattle.p10_cert.proofs.reading.read_second.Given as goal

-- what was read is what was given of the text
abbrev pub invariant-loop-next : goal.invariant-loop-next
invariant-loop-next l = record {
  text : l.records.text ≡ l.bytes;
  read : AreRead l.funcs l.digests l.records.given;
  version : begins_with (codes "p10cert 2\n") l.bytes ≡ true;
  small : Fits l.bytes;
}

-- the bytes that are left
abbrev pub decreases-loop-next : goal.decreases-loop-next
decreases-loop-next l = (length l.bytes + 1) - length (text_of (flat_map entry_lines l.records.given))
