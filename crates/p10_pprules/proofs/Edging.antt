-- Edges, one after the other.
use Rattle.std.proofs.Common.{◌≡◌, ℕ, ◌+◌, ◌<◌, List, [], ◌∷◌, ◌++◌, length, map, take, get_or, Some, sym, ◌∙◌, ap, subst, ◌⊎◌, inl, inr}
use Rattle.std.specs.Prelude.{◌↔◌}
use Rattle.std.specs.List.{Contains}
use Rattle.std.proofs.lemmas.List.{take_more}
use Rattle.std.proofs.lemmas.List.Elements.{Contains-append_left, Contains-push, Contains-push_cases}
use Rattle.p10_base.specs.Words.{Text}
use Rattle.p10_direct.specs.Directives.{Definition}
use Rattle.p10_direct.specs.declared.form.Definition.{Definition as Borrowed}
use Rattle.p10_direct.specs.Form.{plain_definition}
use Rattle.p10_base.specs.Names.{place_in}
use Rattle.p10_graph.specs.Graphs.{Edge}
use Rattle.p10_pprules.specs.private.Listing.{used_places}
use Rattle.p10_pprules.specs.private.Graphs.{LeadsOn, AddsEdges, AddsUses, IsGraphOf}
use Rattle.p10_pprules.proofs.Members.{mapped_more}

pub same_some : {A : Type 0} (x y : A) → Some x ≡ Some y → x ≡ y
same_some x y e = cc

one_edge : (from end : ℕ) (ends : List ℕ) (old mid new : List (List ℕ)) → AddsEdges from ends old mid → length new ≡ length mid
    → ((u v : ℕ) → Edge new u v ↔ (Edge mid u v ⊎ ((u ≡ from) × (v ≡ end)))) → AddsEdges from (ends ++ end ∷ []) old new
one_edge from end ends old mid new before nodes edges = record {
  nodes = nodes ∙ before.nodes;
  edges = λ u v. (
    (λ edge. elim ((edges u v).0 edge) [
      | inl earlier ↦ elim ((before.edges u v).0 earlier) [ inl first ↦ inl first | inr (at, held) ↦ inr (at, Contains-append_left ends (end ∷ []) v held) ]
      | inr (at, is) ↦ inr (at, subst (Contains (ends ++ end ∷ [])) (sym is) (Contains-push ends end))
    ]),
    (λ either. elim either [
      | inl first ↦ (edges u v).1 (inl ((before.edges u v).1 (inl first)))
      | inr (at, held) ↦ elim (Contains-push_cases ends end v held)
          [ inl earlier ↦ (edges u v).1 (inl ((before.edges u v).1 (inr (at, earlier)))) | inr is ↦ (edges u v).1 (inr (at, sym is)) ]
    ]),
  );
}

pub edges_more : (from : ℕ) (ends : List ℕ) (i d : ℕ) (old mid new : List (List ℕ)) → i < length ends → AddsEdges from (take i ends) old mid → length new ≡ length mid
    → ((u v : ℕ) → Edge new u v ↔ (Edge mid u v ⊎ ((u ≡ from) × (v ≡ get_or ends i d)))) → AddsEdges from (take (i + 1) ends) old new
edges_more from ends i d old mid new inside before nodes edges =
    subst (λ l. AddsEdges from l old new) (sym (take_more ends i d inside)) (one_edge from (get_or ends i d) (take i ends) old mid new before nodes edges)

pub uses_added : (names : List Text) (definition : Definition) (own : ℕ) (places : List ℕ) (old new : List (List ℕ)) → Some own ≡ place_in names definition.name.text → places ≡ used_places names definition
    → AddsEdges own places old new → AddsUses names definition old new
uses_added names definition own places old new at are added = record {
  nodes = added.nodes;
  edges = λ u v. (
    (λ edge. elim ((added.edges u v).0 edge) [ inl earlier ↦ inl earlier | inr (is, held) ↦ inr (sym at ∙ ap Some (sym is), subst (λ l. Contains l v) are held) ]),
    (λ either. elim either [
      | inl earlier ↦ (added.edges u v).1 (inl earlier)
      | inr (is, held) ↦ (added.edges u v).1 (inr (same_some u own (sym is ∙ sym at), subst (λ l. Contains l v) (sym are) held))
    ]),
  );
}

graph_push : (names : List Text) (definitions : List Definition) (definition : Definition) (old new : List (List ℕ)) → IsGraphOf names definitions old → AddsUses names definition old new → IsGraphOf names (definitions ++ definition ∷ []) new
graph_push names definitions definition old new before added = record {
  nodes = added.nodes ∙ before.nodes;
  edges = λ u v. (
    (λ edge. elim ((added.edges u v).0 edge) [
      | inl earlier ↦ let found = (before.edges u v).0 earlier in (found.0, Contains-append_left definitions (definition ∷ []) found.0 found.1, found.2)
      | inr leads ↦ (definition, Contains-push definitions definition, leads)
    ]),
    (λ found. elim (Contains-push_cases definitions definition found.0 found.1) [
      | inl earlier ↦ (added.edges u v).1 (inl ((before.edges u v).1 (found.0, earlier, found.2)))
      | inr is ↦ (added.edges u v).1 (inr (subst (λ d. LeadsOn names d u v) (sym is) found.2))
    ]),
  );
}

pub graph_more : (names : List Text) (definitions : List Borrowed) (i : ℕ) (item : Borrowed) (old new : List (List ℕ)) → i < length definitions → item ≡ get_or definitions i item → IsGraphOf names (map plain_definition (take i definitions)) old
    → AddsUses names (plain_definition item) old new → IsGraphOf names (map plain_definition (take (i + 1) definitions)) new
graph_more names definitions i item old new inside is before added =
    subst (λ l. IsGraphOf names l new) (sym (mapped_more plain_definition definitions i item inside ∙ ap (λ (d : Borrowed). map plain_definition (take i definitions) ++ plain_definition d ∷ []) (sym is)))
    (graph_push names (map plain_definition (take i definitions)) (plain_definition item) old new before added)
