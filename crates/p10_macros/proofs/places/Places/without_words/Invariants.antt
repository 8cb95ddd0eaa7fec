use Rattle.std.proofs.Common.{◌≡◌, length, []}
use Rattle.std.specs.List.{All}
use Rattle.p10_macros.proofs.places.Places.without_words.Given as goal

-- a row without places for each parameter so far
abbrev pub invariant-loop : goal.invariant-loop
invariant-loop l = record {
  count : length l.rows.items ≡ l.counter;
  none : All (λ row. row.items ≡ []) l.rows.items;
}
