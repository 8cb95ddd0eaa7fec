-- The cells of the bytes so far stand after all others, and there is room for all.
use Rattle.std.proofs.Common.{◌≡◌, ◌++◌, ◌+◌, ◌≤◌, map, take, length, vec_len, vec_capacity}
use Rattle.p10_store.specs.Origins.{character}
use Rattle.p10_store.proofs.filling.put_characters.Given as goal

abbrev pub invariant-loop-byte : goal.invariant-loop-byte
invariant-loop-byte l =
    (l.cells.items ≡ l.fn.cells.items ++ map character (take l.byte-index l.bytes))
    × (vec_len l.cells ≡ vec_len l.fn.cells + l.byte-index)
    × (vec_capacity l.fn.cells ≤ vec_capacity l.cells)
    × (vec_len l.fn.cells + length l.bytes ≤ vec_capacity l.cells)
