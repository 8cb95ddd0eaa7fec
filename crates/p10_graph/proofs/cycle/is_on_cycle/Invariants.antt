use Rattle.std.proofs.Common.{◌≡◌, ℕ, ◌<◌, get_or}
use Rattle.p10_graph.proofs.cycle.is_on_cycle.Given as goal

-- the edges so far lead to other numbers
abbrev pub invariant-loop-next : goal.invariant-loop-next
invariant-loop-next l = (k : ℕ) → k < l.next-index → get_or l.numbers (get_or l.next-items k 0) 0 ≡ l.own → ⊥
