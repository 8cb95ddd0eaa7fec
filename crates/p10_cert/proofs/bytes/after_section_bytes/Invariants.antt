use Rattle.std.proofs.Common.{◌≡◌, ◌≤◌, length}
use Rattle.p10_cert.specs.private.Reading.{after_run}
use Rattle.p10_cert.specs.Lines.{is_section_byte}
use Rattle.p10_cert.proofs.bytes.after_section_bytes.Given as goal

abbrev pub invariant-loop-rest : goal.invariant-loop-rest
invariant-loop-rest l = record {
  run : after_run is_section_byte l.rest ≡ after_run is_section_byte l.text;
  shorter : length l.rest ≤ length l.text;
}

abbrev pub decreases-loop-rest : goal.decreases-loop-rest
decreases-loop-rest l = length l.rest
