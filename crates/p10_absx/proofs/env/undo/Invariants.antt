use Rattle.std.proofs.Common.{◌≡◌, reverse, vec_len}
use Rattle.std.specs.Vec.{vec_capacity}
use Rattle.p10_absx.specs.private.Kept.{taken_back}
use Rattle.p10_absx.proofs.env.undo.Given as goal

abbrev pub invariant-loop-note : goal.invariant-loop-note
invariant-loop-note l = record {
  same : taken_back l.fn.entries.items (reverse l.fn.notes.items) ≡ taken_back l.entries.items (reverse l.notes.items);
  room : vec_capacity l.notes ≡ vec_capacity l.fn.notes;
}

abbrev pub decreases-loop-note : goal.decreases-loop-note
decreases-loop-note l = vec_len l.notes
