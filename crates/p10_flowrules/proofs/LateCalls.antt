-- The calls after the mark, one after the other, and those that allocate.
use Rattle.std.proofs.Common.{◌≡◌, ℕ, ◌+◌, ◌-◌, ◌<◌, List, [], ◌∷◌, ◌++◌, length, nat_lt, nat_eq, eq-eqb, Bool, true, false, ◌&&◌, sym, ◌∙◌, ap, arith, append_assoc}
use Rattle.std.specs.List.{filter, list_any, slice_index}
use Rattle.std.proofs.lemmas.Bool.Decides.{nat_tests}
use Rattle.std.proofs.lemmas.Bool.{and_parts, ltb-true, lt-ltb, eqb-true}
use Rattle.std.proofs.lemmas.Map.Keys.{any_passes_from_place}
use Rattle.std.proofs.lemmas.List.Elements.{filter-append, filter_map-append}
use Rattle.p10_core.specs.Typed.{PlainProgram, PlainStatements}
use Rattle.p10_core.specs.Nodes.{PlainNode, nodes_of_statements}
use Rattle.p10_flowrules.specs.declared.calls.AnyCall.{AnyCall}
use Rattle.p10_flowrules.specs.declared.calls.Called.{Called}
use Rattle.p10_flowrules.specs.declared.calls.Called.TheVariants.{Function, Library}
use Rattle.p10_flowrules.specs.AnyCalls.{call_made, calls_made}
use Rattle.p10_flowrules.specs.Allocating.{IsAllocating, AreLateAllocations, late_statements}
use Rattle.p10_flowrules.specs.private.MemoryGraphs.{TellsAllocating, TellsMemory, has_memory, has_memory_number}
use Rattle.p10_flowrules.proofs.MemoryWalks.{allocating_within}

-- the next node, and the calls among the nodes after it
pub node_more : (test : AnyCall → Bool) (old new : List AnyCall) (n : PlainNode) (before after : List PlainNode) → before ≡ n ∷ after → new ≡ old ++ filter test (calls_made (n ∷ [])) →
    new ++ filter test (calls_made after) ≡ old ++ filter test (calls_made before)
node_more test old new n before after e put =
    ap (λ l. l ++ filter test (calls_made after)) put
    ∙ append_assoc old (filter test (calls_made (n ∷ []))) (filter test (calls_made after))
    ∙ ap (λ l. old ++ l) (sym (filter-append test (calls_made (n ∷ [])) (calls_made after)) ∙ ap (filter test) (sym (filter_map-append call_made (n ∷ []) after) ∙ ap calls_made (sym e)))

-- what has the number of the memory
module _ (p : PlainProgram) (numbers : List ℕ) (tells : TellsAllocating p numbers) where
  last_is : length numbers - 1 ≡ length p.functions
  last_is = let each : length numbers ≡ length p.functions + 1 = tells.each in omega (arith, each)

  is_allocating : (called : Called) → has_memory_number numbers called ≡ true → IsAllocating p called
  is_allocating (Function u) e =
      let parts = and_parts (nat_lt (u + 1) (length numbers)) (nat_eq (slice_index numbers u) (slice_index numbers (length numbers - 1))) e in
      let low : u + 1 < length numbers = ltb-true (u + 1) (length numbers) parts.0 in
      let each : length numbers ≡ length p.functions + 1 = tells.each in
      let same : slice_index numbers u ≡ slice_index numbers (length numbers - 1) = eqb-true (slice_index numbers u) (slice_index numbers (length numbers - 1)) parts.1 in
      (tells.exact u (omega (arith, low, each))).0 (same ∙ ap (slice_index numbers) last_is)
  is_allocating (Library f) e = e

  allocating_is : (called : Called) → IsAllocating p called → has_memory_number numbers called ≡ true
  allocating_is (Function u) a =
      let low : u < length p.functions = allocating_within p u a in
      let each : length numbers ≡ length p.functions + 1 = tells.each in
      ap (λ (b : Bool). b && nat_eq (slice_index numbers u) (slice_index numbers (length numbers - 1))) (lt-ltb (u + 1) (length numbers) (omega (arith, low, each)))
      ∙ eq-eqb (slice_index numbers u) (slice_index numbers (length numbers - 1)) ((tells.exact u low).1 a ∙ ap (slice_index numbers) (sym last_is))
  allocating_is (Library f) a = a

  pub tells_memory : TellsMemory p numbers
  tells_memory called = (is_allocating called, allocating_is called)

-- without a function that allocates or frees itself, no numbers are needed
pub tells_none : (p : PlainProgram) → list_any has_memory p.functions ≡ false → TellsMemory p []
tells_none p none (Library f) = (λ e. e, λ a. a)
tells_none p none (Function n) = (
  (λ e. let above : nat_lt (n + 1) 0 ≡ false = grind (arith, nat_tests) in
      let no : false ≡ true = sym (ap (λ (b : Bool). b && nat_eq (slice_index [] n) (slice_index [] (0 - 1))) above) ∙ e in absurd cc),
  (λ a. let some : list_any has_memory p.functions ≡ true = any_passes_from_place has_memory p.functions a.last a.function a.there a.itself in
      let no : true ≡ false = sym some ∙ none in absurd cc),
)

-- the calls after the mark, of which such numbers tell
pub late_are : (p : PlainProgram) (numbers : List ℕ) → TellsMemory p numbers → (slice : List ℕ) (body : PlainStatements) (found : List AnyCall) → slice ≡ numbers → body ≡ late_statements p
    → found ≡ filter (λ c. has_memory_number slice c.called) (calls_made (nodes_of_statements body)) → AreLateAllocations p found
late_are p numbers tells slice body found same is e = record {
  test = λ c. has_memory_number numbers c.called;
  exact = λ c held. tells c.called;
  are = e ∙ ap (λ (l : List ℕ). filter (λ (c : AnyCall). has_memory_number l c.called) (calls_made (nodes_of_statements body))) same
      ∙ ap (λ (s : PlainStatements). filter (λ (c : AnyCall). has_memory_number numbers c.called) (calls_made (nodes_of_statements s))) is;
}
