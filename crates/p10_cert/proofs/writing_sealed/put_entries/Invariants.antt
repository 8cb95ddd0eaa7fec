use Rattle.std.proofs.Common.{◌≤◌, take}
use Rattle.std.specs.List.{flat_map}
use Rattle.std.specs.Io.KnownBytes.{Appends}
use Rattle.p10_cert.specs.Sealed.{entries_of}
use Rattle.p10_cert.specs.Statements.{entry_text}
use Rattle.p10_cert.proofs.writing_sealed.put_entries.Given as goal

abbrev pub invariant-loop-i : goal.invariant-loop-i
invariant-loop-i g l = record {
  wrote : Appends (g.O.Sink.taken l.fn.out) (g.O.Sink.taken l.out) (flat_map entry_text (take l.i (entries_of l.funcs l.digests)));
  count : g.O.Sink.faults l.fn.out ≤ g.O.Sink.faults l.out;
}
