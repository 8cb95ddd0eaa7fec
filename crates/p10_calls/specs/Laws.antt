-- What holds of ranks and of recursive calls.
use Rattle.std.specs.Prelude.{◌≡◌, ℕ, List, []}
use Rattle.p10_core.specs.Typed.{PlainProgram}
use Rattle.p10_graph.specs.Graphs.{IsGraph, IsOnCycle}
use Rattle.p10_graph.specs.Components.{AreComponents}
use Rattle.p10_calls.specs.declared.sites.CallSite.{CallSite}
use Rattle.p10_calls.specs.CallGraphs.{call_graph}
use Rattle.p10_calls.specs.Recursion.{AreRecursiveCalls}
use Rattle.p10_calls.specs.Ranks.{AreRanks}
use Rattle.p10_calls.specs.Samples.{program_calling}

-- a graph has at most one list of ranks
abbrev pub RanksAreUnique : Type 0
RanksAreUnique = (g : List (List ℕ)) (these others : List ℕ) → AreRanks g these → AreRanks g others → these ≡ others

-- a graph with ranks has no cycle
abbrev pub NoRanksOnCycles : Type 0
NoRanksOnCycles = (g : List (List ℕ)) (ranks : List ℕ) → AreRanks g ranks → (u : ℕ) → IsOnCycle g u → ⊥

-- the recursive calls of a program are one list
abbrev pub RecursiveCallsAreOneList : Type 0
RecursiveCallsAreOneList = (p : PlainProgram) (these others : List CallSite) → AreRecursiveCalls p these → AreRecursiveCalls p others → these ≡ others

-- every graph is that of the calls of some program: the one whose functions call the successors of their nodes in turn
abbrev pub EachGraphIsOfCalls : Type 0
EachGraphIsOfCalls = (g : List (List ℕ)) → IsGraph g → call_graph (program_calling g) ≡ g

-- where the functions of a program have ranks, no call is recursive
abbrev pub RanksMeanNoRecursion : Type 0
RanksMeanNoRecursion = (p : PlainProgram) (ranks : List ℕ) (found : List CallSite) → AreRanks (call_graph p) ranks → AreRecursiveCalls p found → found ≡ []

-- a graph without cycles has ranks; `components` gives each graph its numbers
abbrev pub RanksExist : Type 0
RanksExist = (g : List (List ℕ)) (numbers : List ℕ) → IsGraph g → AreComponents g numbers → ((u : ℕ) → IsOnCycle g u → ⊥) → (ranks : List ℕ) × AreRanks g ranks
