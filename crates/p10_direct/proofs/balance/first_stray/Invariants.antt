use Rattle.std.proofs.Common.{◌≡◌, [], map, drop, reverse}
use Rattle.p10_direct.specs.Lines.{piece_of}
use Rattle.p10_direct.specs.Balance.{mark_of}
use Rattle.p10_direct.specs.private.Breaks.{stray_from}
use Rattle.p10_direct.proofs.balance.first_stray.Given as goal

-- the first stray line of all is the first one from here on
abbrev pub invariant-loop-place : goal.invariant-loop-place
invariant-loop-place l =
    stray_from [] (map mark_of (map piece_of l.lines)) 0 ≡ stray_from (reverse l.pending.items) (map mark_of (map piece_of (drop l.place l.lines))) l.place
