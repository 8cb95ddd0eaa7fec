-- The graph of macros and the names in their lists.
use Rattle.std.specs.Prelude.{ℕ, ◌≡◌, ◌↔◌, ◌⊎◌, List, Some, length, bytes_eq}
use Rattle.std.specs.List.{Contains, list_any}
use Rattle.p10_base.specs.Words.{Text}
use Rattle.p10_direct.specs.Directives.{Definition}
use Rattle.p10_base.specs.Names.{place_in}
use Rattle.p10_graph.specs.Graphs.{Edge}
use Rattle.p10_graph.specs.Components.{AreComponents}
use Rattle.p10_pprules.specs.private.Listing.{used_places}

-- these are the names that are defined
abbrev pub HasNames : List Definition → List Text → Type 0
HasNames definitions names = (name : Text) → list_any (bytes_eq name) names ≡ list_any (λ (definition : Definition). bytes_eq name definition.name.text) definitions

-- the definition leads from the place of its macro to that of a macro that it uses
abbrev pub LeadsOn : List Text → Definition → ℕ → ℕ → Type 0
LeadsOn names definition from to = (place_in names definition.name.text ≡ Some from) × Contains (used_places names definition) to

-- edges from a node to these were added
pub record AddsEdges (from : ℕ) (ends : List ℕ) (old new : List (List ℕ)) : Type 0 where
  pub nodes : length new ≡ length old
  pub edges : (u v : ℕ) → Edge new u v ↔ (Edge old u v ⊎ ((u ≡ from) × Contains ends v))

-- the edges of a definition were added
pub record AddsUses (names : List Text) (definition : Definition) (old new : List (List ℕ)) : Type 0 where
  pub nodes : length new ≡ length old
  pub edges : (u v : ℕ) → Edge new u v ↔ (Edge old u v ⊎ LeadsOn names definition u v)

-- the macros are the nodes of this graph, and its edges lead from each to those that its definitions use
pub record IsGraphOf (names : List Text) (definitions : List Definition) (graph : List (List ℕ)) : Type 0 where
  pub nodes : length graph ≡ length names
  pub edges : (u v : ℕ) → Edge graph u v ↔ ((definition : Definition) × Contains definitions definition × LeadsOn names definition u v)

-- the numbers are those of the components of this graph
pub record AreNumbersOf (names : List Text) (definitions : List Definition) (numbers : List ℕ) : Type 0 where
  pub graph : List (List ℕ)
  pub is_graph : IsGraphOf names definitions graph
  pub are : AreComponents graph numbers
