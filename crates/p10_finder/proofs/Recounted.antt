-- Claims whose sums are counted, each after those of the functions that are called.
use Rattle.std.proofs.Common.{◌≡◌, ℕ, ◌+◌, ◌<◌, ◌≤◌, List, length, sym, ◌∙◌, subst, arith}
use Rattle.std.specs.List.{slice_index}
use Rattle.std.proofs.lemmas.List.{length-map}
use Rattle.p10_core.specs.Views.{plain_function, plain_program}
use Rattle.p10_graph.specs.Graphs.{Edge, IsGraph, IsOnCycle}
use Rattle.p10_calls.specs.CallGraphs.{call_graph}
use Rattle.p10_calls.proofs.Uniqueness.{no_ranks_on_cycles}
use Rattle.p10_cert.specs.Claims.{Func, claims_of}
use Rattle.p10_sums.specs.declared.sum.FuncSum.{FuncSum}
use Rattle.p10_finder.specs.declared.counting.Ranked.{Ranked}
use Rattle.p10_finder.specs.private.Counting.{IsRanked, AreSumsBelow, IsCounting, IsCountedTwice, IsCounted}
use Rattle.p10_finder.specs.private.Visiting.{IsLoneAt}
use Rattle.p10_finder.proofs.Counted.{all_sums, none_more, one_more}
use Rattle.p10_finder.proofs.Judging.{on_cycle_too}
use Rattle.p10_finder.proofs.VisitOrder.{alone, falls}
use Rattle.p10_approach.specs.Offers.{offers_if}

module _ (r : Ranked) (ranked : IsRanked r) (whole : IsGraph r.calls.graph.now) where
  nodes : length r.calls.graph.now ≡ length (plain_program r.calls.program.now).functions
  nodes = ranked.calls.nodes ∙ sym (length-map r.calls.program.now.functions plain_function)

  -- no function lies on a cycle
  off : (n : ℕ) → IsOnCycle r.calls.graph.now n → ⊥
  off n on = no_ranks_on_cycles (call_graph (plain_program r.calls.program.now)) r.ranks.now ranked.ranks n (on_cycle_too r.calls.graph.now (call_graph (plain_program r.calls.program.now)) n (λ u v. (ranked.calls.edges u v).0) on)

  -- functions that are called have smaller numbers
  smaller : (n m : ℕ) → n < length (plain_program r.calls.program.now).functions → Edge (call_graph (plain_program r.calls.program.now)) n m → slice_index r.calls.numbers.now m < slice_index r.calls.numbers.now n
  smaller n m low edge =
      let each : length r.calls.graph.now ≡ length (plain_program r.calls.program.now).functions = nodes in
      falls r.calls.graph.now r.calls.numbers.now whole ranked.calls.numbers n m (omega (arith, low, each)) (off n) ((ranked.calls.edges n m).1 edge)

  module _ (node number : ℕ) (lone : IsLoneAt r.calls.graph.now r.calls.numbers.now number node) where
    -- it is the only one with its number
    only : (n : ℕ) → n < length (plain_program r.calls.program.now).functions → slice_index r.calls.numbers.now n ≡ number → n ≡ node
    only n low is =
        let each : length r.calls.graph.now ≡ length (plain_program r.calls.program.now).functions = nodes in
        let inside : n < length r.calls.graph.now = omega (arith, low, each) in
        lone n inside (alone r.calls.graph.now r.calls.numbers.now whole ranked.calls.numbers n inside (off n)) is

    pub counting_more : (funcs now : List Func) (sums new : List FuncSum) → node < length r.calls.graph.now → slice_index r.calls.numbers.now node ≡ number → IsCounting r number funcs sums → IsCountedTwice r node sums now new → IsCounting r (number + 1) now new
    counting_more funcs now sums new there is before twice =
        let each : length r.calls.graph.now ≡ length (plain_program r.calls.program.now).functions = nodes in
        record {
          claims = twice.claims;
          below = subst (AreSumsBelow (plain_program r.calls.program.now) (claims_of r.claims.now) r.calls.numbers.now (number + 1)) (sym twice.sums)
              (one_more (offers_if r.calls.approaching) (plain_program r.calls.program.now) (claims_of r.claims.now) r.ranks.now r.calls.numbers.now ranked.claims smaller node number sums (omega (arith, there, each)) is only before.below);
        }

    pub counting_past : (funcs : List Func) (sums : List FuncSum) → (slice_index r.calls.numbers.now node ≡ number → ⊥) → IsCounting r number funcs sums → IsCounting r (number + 1) funcs sums
    counting_past funcs sums apart before = record {
      claims = before.claims;
      below = none_more (offers_if r.calls.approaching) (plain_program r.calls.program.now) (claims_of r.claims.now) r.ranks.now r.calls.numbers.now ranked.claims sums number
          (λ n low is. apart (subst (λ m. slice_index r.calls.numbers.now m ≡ number) (only n low is) is)) before.below;
    }

  pub counted_all : (end : ℕ) (funcs : List Func) (sums : List FuncSum) → length r.calls.graph.now ≤ end → IsCounting r end funcs sums → IsCounted r funcs sums
  counted_all end funcs sums past counting =
      let each : length r.calls.graph.now ≡ length (plain_program r.calls.program.now).functions = nodes in
      record {
        claims = counting.claims;
        right = all_sums (offers_if r.calls.approaching) (plain_program r.calls.program.now) (claims_of r.claims.now) r.ranks.now r.calls.numbers.now ranked.claims sums end
            (λ n low. let most : slice_index r.calls.numbers.now n < length r.calls.graph.now = ranked.calls.numbers.below n (omega (arith, low, each)) in omega (arith, most, past)) counting.below;
      }
