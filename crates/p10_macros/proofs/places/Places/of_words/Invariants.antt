use Rattle.std.proofs.Common.{◌≡◌, length, take}
use Rattle.std.specs.Prelude.{is_none}
use Rattle.p10_macros.specs.private.Places.{places_that, AreByParameter}
use Rattle.p10_macros.proofs.places.Places.of_words.Given as goal

-- the places of the words so far
abbrev pub invariant-loop-place : goal.invariant-loop-place
invariant-loop-place l = record {
  own : l.own.items ≡ places_that is_none 0 (take l.place l.fn.all.items);
  count : length l.named.items ≡ l.count;
  named : AreByParameter l.named.items (take l.place l.fn.all.items);
}
