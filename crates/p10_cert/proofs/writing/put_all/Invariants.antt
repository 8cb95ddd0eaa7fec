use Rattle.std.proofs.Common.{◌≤◌, take}
use Rattle.std.specs.List.{flat_map}
use Rattle.std.specs.Io.KnownBytes.{Appends}
use Rattle.p10_cert.proofs.writing.put_all.Given as goal

abbrev pub invariant-loop-item : goal.invariant-loop-item
invariant-loop-item g l = record {
  wrote : Appends (g.O.Sink.taken l.fn.out) (g.O.Sink.taken l.out) (flat_map g.T.Text.text (take l.item-index l.items));
  count : g.O.Sink.faults l.fn.out ≤ g.O.Sink.faults l.out;
}
