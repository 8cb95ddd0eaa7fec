-- The stream took the bytes up to `wrote`, and the count of faults stands.
use Rattle.std.proofs.Common.{◌≡◌, ◌-◌, ◌≤◌, length, take}
use Rattle.std.specs.Io.KnownBytes.{Appends}
use Rattle.p10_world.proofs.host_streams.HostSinkSink.put.Given as goal

abbrev pub invariant-loop-wrote : goal.invariant-loop-wrote
invariant-loop-wrote g l =
    (l.wrote ≤ length l.bytes) × (l.self.faults ≡ l.fn.self.faults)
    × Appends (g.W.Write.contents l.fn.self.stream) (g.W.Write.contents l.self.stream) (take l.wrote l.bytes)

abbrev pub decreases-loop-wrote : goal.decreases-loop-wrote
decreases-loop-wrote g l = length l.bytes - l.wrote
