-- Graphs that are built: without edges, and with one edge more.
use Rattle.std.proofs.Common.{◌≡◌, ℕ, zero, suc, ◌+◌, ◌^◌, ◌<◌, ◌≤◌, ◌⊎◌, ◌↔◌, inl, inr, List, [], ◌∷◌, ◌++◌, length, map, set, replicate, get_or, get_or-set_same, get_or-set_other, length-set, take, take_all, All, Global, Vec, refl, sym, ap, ◌∙◌, subst, arith}
use Rattle.std.specs.List.{Contains}
use Rattle.std.proofs.lemmas.Bool.{cases_eq}
use Rattle.std.proofs.lemmas.List.{get_or-map, length-map, length-replicate, map-set, set-get_or, take_more}
use Rattle.std.proofs.lemmas.List.Elements.{Contains-append_left, Contains-get_or, Contains-push, Contains-push_cases}
use Rattle.p10_graph.specs.Graphs.{Edge, IsGraph}

-- ## No edges

abbrev no_list : List ℕ
no_list = []

no_successors : (n u : ℕ) → get_or (replicate n no_list) u [] ≡ []
no_successors zero u = refl
no_successors (suc n) zero = refl
no_successors (suc n) (suc u) = no_successors n u

pub no_edges : (n u v : ℕ) → Edge (replicate n []) u v → ⊥
no_edges n u v edge = let none : length (get_or (replicate n no_list) u []) ≡ 0 = ap length (no_successors n u) in let within = edge.1 in absurd (omega arith)

pub is_graph_without_edges : (g : List (List ℕ)) (n : ℕ) → n < 2 ^ 32 → g ≡ replicate n [] → IsGraph g
is_graph_without_edges g n l e =
    subst IsGraph (sym e) (record {
      few = let same = length-replicate n no_list in omega arith;
      held = λ u v edge. absurd (no_edges n u v edge);
    })

-- ## One edge more

-- the graph with one edge more
abbrev pub with_edge : List (List ℕ) → ℕ → ℕ → List (List ℕ)
with_edge g from to = set g from (get_or g from [] ++ to ∷ [])

row_same : (g : List (List ℕ)) (from to u : ℕ) → from < length g → u ≡ from → get_or (with_edge g from to) u [] ≡ get_or g from [] ++ to ∷ []
row_same g from to u l e = ap (λ (w : ℕ). get_or (with_edge g from to) w []) e ∙ get_or-set_same g from (get_or g from [] ++ to ∷ []) [] l

row_other : (g : List (List ℕ)) (from to u : ℕ) → (u ≡ from → ⊥) → get_or (with_edge g from to) u [] ≡ get_or g u []
row_other g from to u differs = get_or-set_other g from u (get_or g from [] ++ to ∷ []) [] differs

edge_before : (g : List (List ℕ)) (from to u v : ℕ) → from < length g → Edge (with_edge g from to) u v → Edge g u v ⊎ ((u ≡ from) × (v ≡ to))
edge_before g from to u v l edge =
    elim (cases_eq u from) [
      | inl same ↦ elim (Contains-push_cases (get_or g from []) to v (subst (λ (row : List ℕ). Contains row v) (row_same g from to u l same) edge)) [
        | inl old ↦ inl (subst (λ (w : ℕ). Edge g w v) (sym same) old)
        | inr new ↦ inr (same, sym new)
      ]
      | inr differs ↦ inl (subst (λ (row : List ℕ). Contains row v) (row_other g from to u differs) edge)
    ]

edge_after : (g : List (List ℕ)) (from to u v : ℕ) → from < length g → Edge g u v ⊎ ((u ≡ from) × (v ≡ to)) → Edge (with_edge g from to) u v
edge_after g from to u v l (inl edge) =
    elim (cases_eq u from) [
      | inl same ↦ subst (λ (row : List ℕ). Contains row v) (sym (row_same g from to u l same))
          (Contains-append_left (get_or g from []) (to ∷ []) v (subst (λ (w : ℕ). Edge g w v) same edge))
      | inr differs ↦ subst (λ (row : List ℕ). Contains row v) (sym (row_other g from to u differs)) edge
    ]
edge_after g from to u v l (inr new) =
    subst (λ (row : List ℕ). Contains row v) (sym (row_same g from to u l new.0))
    (subst (Contains (get_or g from [] ++ to ∷ [])) (sym new.1) (Contains-push (get_or g from []) to))

pub edges_added : (h g : List (List ℕ)) (from to u v : ℕ) → h ≡ with_edge g from to → from < length g → Edge h u v ↔ (Edge g u v ⊎ ((u ≡ from) × (v ≡ to)))
edges_added h g from to u v e l =
    ((λ edge. edge_before g from to u v l (subst (λ (i : List (List ℕ)). Edge i u v) e edge)), (λ either. subst (λ (i : List (List ℕ)). Edge i u v) (sym e) (edge_after g from to u v l either)))

pub is_graph_with_edge : (g : List (List ℕ)) (from to : ℕ) → IsGraph g → from < length g → to < length g → IsGraph (with_edge g from to)
is_graph_with_edge g from to whole l m =
    let same = length-set g from (get_or g from [] ++ to ∷ []) in
    record {
      few = let few = whole.few in omega arith;
      held = λ u v edge. elim (edge_before g from to u v l edge) [
        | inl old ↦ let below = whole.held u v old in omega arith
        | inr new ↦ let at = new.1 in omega arith
      ];
    }

-- ## The lists that are kept

-- after a list was changed in place
pub rows-set : (rows : List (Vec ℕ Global)) (from : ℕ) (old new : Vec ℕ Global) (more : List ℕ) → from < length rows → old ≡ get_or rows from old → new.items ≡ old.items ++ more
    → map (λ row. row.items) (set rows from new) ≡ set (map (λ row. row.items) rows) from (get_or (map (λ row. row.items) rows) from [] ++ more)
rows-set rows from old new more l e f =
    let items : Vec ℕ Global → List ℕ = λ row. row.items in
    let kept : old.items ≡ get_or (map items rows) from [] = ap items e ∙ sym (get_or-map items rows from old [] l) in
    map-set items rows from new ∙ ap (set (map items rows) from) (f ∙ ap (λ (xs : List ℕ). xs ++ more) kept)

-- and where it was written back as it was
pub rows-same : (rows : List (Vec ℕ Global)) (from : ℕ) (old new : Vec ℕ Global) → from < length rows → old ≡ get_or rows from old → new.items ≡ old.items
    → map (λ row. row.items) (set rows from new) ≡ map (λ row. row.items) rows
rows-same rows from old new l e f =
    let items : Vec ℕ Global → List ℕ = λ row. row.items in
    let kept : old.items ≡ get_or (map items rows) from [] = ap items e ∙ sym (get_or-map items rows from old [] l) in
    map-set items rows from new ∙ ap (set (map items rows) from) (f ∙ kept) ∙ set-get_or (map items rows) from []

-- what is kept once an edge was added, seen as the graph
pub record Adds (rows : List (Vec ℕ Global)) (g : List (List ℕ)) : Type 0 where
  pub whole : IsGraph (map (λ row. row.items) rows)
  pub now : map (λ row. row.items) rows ≡ g

pub adds : (rows : List (Vec ℕ Global)) (g : List (List ℕ)) (from to : ℕ) (old new : Vec ℕ Global) → map (λ row. row.items) rows ≡ g → IsGraph (map (λ row. row.items) rows)
    → from < length g → to < length g → old ≡ get_or rows from old → new.items ≡ old.items ++ to ∷ [] → Adds (set rows from new) (with_edge g from to)
adds rows g from to old new view whole l m e f =
    let seen : length rows ≡ length g = sym (length-map rows (λ row. row.items)) ∙ ap length view in
    let now = rows-set rows from old new (to ∷ []) (omega arith) e f ∙ ap (λ (h : List (List ℕ)). with_edge h from to) view in
    record {
      whole = subst IsGraph (sym now) (is_graph_with_edge g from to (subst IsGraph view whole) l m);
      now = now;
    }

pub adds_nothing : (rows : List (Vec ℕ Global)) (g : List (List ℕ)) (from : ℕ) (old new : Vec ℕ Global) → map (λ row. row.items) rows ≡ g → IsGraph (map (λ row. row.items) rows)
    → from < length g → old ≡ get_or rows from old → new.items ≡ old.items → Adds (set rows from new) g
adds_nothing rows g from old new view whole l e f =
    let seen : length rows ≡ length g = sym (length-map rows (λ row. row.items)) ∙ ap length view in
    let now = rows-same rows from old new (omega arith) e f in
    record { whole = subst IsGraph (sym now) whole; now = now ∙ view }

-- ## Successors

pub held_all : (rows g : List (List ℕ)) (u : ℕ) (row : List ℕ) → rows ≡ g → IsGraph rows → row ≡ get_or g u [] → All (λ next. next < length g) row
held_all rows g u row view whole e = λ k d l.
    let graph = subst IsGraph view whole in
    graph.held u (get_or row k d) (subst (λ (xs : List ℕ). Contains xs (get_or row k d)) e (Contains-get_or row k d l))

-- a list that is read
pub row_read : (rows : List (Vec ℕ Global)) (g : List (List ℕ)) (u : ℕ) (row : Vec ℕ Global) (items : List ℕ) → map (λ row. row.items) rows ≡ g → u < length g → row ≡ get_or rows u row → items ≡ row.items → items ≡ get_or g u []
row_read rows g u row items view l e f =
    let seen : length rows ≡ length g = sym (length-map rows (λ row. row.items)) ∙ ap length view in
    let each : Vec ℕ Global → List ℕ = λ row. row.items in
    f ∙ ap each e ∙ sym (get_or-map each rows u row [] (omega arith)) ∙ ap (λ (h : List (List ℕ)). get_or h u []) view

-- ## A graph of given edges

abbrev pub Edges : List (ℕ × ℕ) → List (List ℕ) → Type 0
Edges edges g = (u v : ℕ) → Edge g u v ↔ Contains edges (u, v)

pub edges_none : (g : List (List ℕ)) (n : ℕ) → g ≡ replicate n [] → Edges [] g
edges_none g n e u v =
    ((λ edge. absurd (no_edges n u v (subst (λ (i : List (List ℕ)). Edge i u v) e edge))), (λ one. let within = one.1 in absurd (omega arith)))

pair_parts : (a b u v : ℕ) → ◌≡◌ {A = ℕ × ℕ} (a, b) (u, v) → (u ≡ a) × (v ≡ b)
pair_parts a b u v e = (sym (ap (λ (p : ℕ × ℕ). p.0) e), sym (ap (λ (p : ℕ × ℕ). p.1) e))

pair_same : (a b u v : ℕ) → (u ≡ a) × (v ≡ b) → ◌≡◌ {A = ℕ × ℕ} (a, b) (u, v)
pair_same a b u v e = cc

pub edges_more : (edges : List (ℕ × ℕ)) (g h : List (List ℕ)) (from to : ℕ) → Edges edges g → ((u v : ℕ) → Edge h u v ↔ (Edge g u v ⊎ ((u ≡ from) × (v ≡ to)))) → Edges (edges ++ (from, to) ∷ []) h
edges_more edges g h from to old added u v = (
  (λ edge. elim ((added u v).0 edge) [
    | inl was ↦ Contains-append_left edges ((from, to) ∷ []) (u, v) ((old u v).0 was)
    | inr new ↦ subst (Contains (edges ++ (from, to) ∷ [])) (pair_same from to u v new) (Contains-push edges (from, to))
  ]),
  (λ one. elim (Contains-push_cases edges (from, to) (u, v) one) [
    | inl was ↦ (added u v).1 (inl ((old u v).1 was))
    | inr new ↦ (added u v).1 (inr (pair_parts from to u v new))
  ]),
)

pub edges_next : (edges : List (ℕ × ℕ)) (i : ℕ) (d : ℕ × ℕ) (g h : List (List ℕ)) → i < length edges → Edges (take i edges) g
    → ((u v : ℕ) → Edge h u v ↔ (Edge g u v ⊎ ((u ≡ (get_or edges i d).0) × (v ≡ (get_or edges i d).1)))) → Edges (take (i + 1) edges) h
edges_next edges i d g h l old added =
    subst (λ (front : List (ℕ × ℕ)). Edges front h) (sym (take_more edges i d l)) (edges_more (take i edges) g h (get_or edges i d).0 (get_or edges i d).1 old added)

pub edges_all : (edges : List (ℕ × ℕ)) (i : ℕ) (g : List (List ℕ)) → length edges ≤ i → Edges (take i edges) g → Edges edges g
edges_all edges i g l all = subst (λ (front : List (ℕ × ℕ)). Edges front g) (take_all i edges l) all
