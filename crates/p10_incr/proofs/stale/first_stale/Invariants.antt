use Rattle.std.proofs.Common.{◌≡◌, ◌+◌, map, length}
use Rattle.p10_cert.specs.Sealed.{bytes_of, entries_of}
use Rattle.p10_check.specs.Texts.{first_stale}
use Rattle.p10_incr.proofs.stale.first_stale.Given as goal

abbrev pub invariant-loop-funcs : goal.invariant-loop-funcs
invariant-loop-funcs l = record {
  same : first_stale 0 (entries_of l.initial.funcs l.initial.kept) (map bytes_of l.initial.found) ≡ first_stale l.number (entries_of l.funcs l.kept) (map bytes_of l.found);
  count : l.number + length l.funcs ≡ length l.initial.funcs;
}

abbrev pub decreases-loop-funcs : goal.decreases-loop-funcs
decreases-loop-funcs l = length l.funcs
