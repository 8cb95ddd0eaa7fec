use Rattle.std.proofs.Common.{◌≡◌, ◌+◌, ◌-◌, map, length}
use Rattle.std.specs.List.{flat_map}
use Rattle.p10_cert.specs.Claims.{func_of}
use Rattle.p10_cert.specs.Lines.{text_of}
use Rattle.p10_cert.specs.Statements.{entry_lines}
use Rattle.p10_judge.specs.Kept.{kept_of}
use Rattle.p10_judge.proofs.reading.read.Given as goal

-- what was read is what was given of the text
abbrev pub invariant-loop-next : goal.invariant-loop-next
invariant-loop-next l = record {
  text : l.reader.text ≡ l.bytes;
  claims : map func_of l.funcs ≡ map (λ e. e.func) l.reader.given;
  kept_are : map kept_of l.kept ≡ map (λ e. e.digest) l.reader.given;
}

-- the bytes that are left
abbrev pub decreases-loop-next : goal.decreases-loop-next
decreases-loop-next l = (length l.bytes + 1) - length (text_of (flat_map entry_lines l.reader.given))
