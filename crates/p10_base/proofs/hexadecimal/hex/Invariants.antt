use Rattle.std.proofs.Common.{◌≡◌, ◌*◌, length, take}
use Rattle.p10_base.specs.Hex.{hex_text}
use Rattle.p10_base.proofs.hexadecimal.hex.Given as goal

abbrev pub invariant-loop-i : goal.invariant-loop-i
invariant-loop-i l = record {
  size : length l.text ≡ 64;
  done : take (2 * l.i) l.text ≡ hex_text (take l.i l.bytes);
}
