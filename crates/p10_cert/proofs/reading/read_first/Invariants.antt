use Rattle.std.proofs.Common.{◌≡◌, ◌+◌, ◌-◌, true, map, length, codes}
use Rattle.std.specs.List.{flat_map}
use Rattle.p10_cert.specs.Claims.{func_of}
use Rattle.p10_cert.specs.Lines.{text_of}
use Rattle.p10_cert.specs.Reading.{Fits, begins_with}
use Rattle.p10_cert.specs.Statements.{entry_lines}
use Rattle.p10_cert.proofs.reading.read_first.Given as goal

-- what was read is what was given of the text
abbrev pub invariant-loop-next : goal.invariant-loop-next
invariant-loop-next l = record {
  text : l.records.text ≡ l.bytes;
  given : map func_of l.funcs ≡ map (λ e. e.func) l.records.given;
  version : begins_with (codes "p10cert 1\n") l.bytes ≡ true;
  small : Fits l.bytes;
}

-- the bytes that are left
abbrev pub decreases-loop-next : goal.decreases-loop-next
decreases-loop-next l = (length l.bytes + 1) - length (text_of (flat_map entry_lines l.records.given))
