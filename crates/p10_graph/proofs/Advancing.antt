-- One look at the next edge of the last unfinished node, which is in the last group.
use Rattle.std.proofs.Common.{◌≡◌, ℕ, ◌<◌, ◌≤◌, List, length, get_or, Some, Result, OnOk, slice_get, refl, sym, ap, ◌∙◌, subst, arith}
use Rattle.std.proofs.lemmas.List.{get_or_default}
use Rattle.std.proofs.lemmas.Option.{slice_get_read}
use Rattle.std.proofs.lemmas.Result.{on_ok_weaker}
use Rattle.p10_graph.specs.declared.search.Mark.{Mark}
use Rattle.p10_graph.specs.declared.search.Mark.TheVariants.{Unseen, Open}
use Rattle.p10_graph.specs.Graphs.{Edge}
use Rattle.p10_graph.specs.private.Searching.{IsFinished, IsSearch, IsStep, State, done_of, finished, mark_of, merged, row_of, settled, visited}
use Rattle.p10_graph.proofs.Groups.{unfinished_within}
use Rattle.p10_graph.proofs.Edges.{IsLast, finish_step, merge_step, node_within, reaches_end, settle_step, settles_last}
use Rattle.p10_graph.proofs.Visiting.{visit_step}

-- what is read of the state: the node at the last unfinished place, its successors, and how many of its edges are done
pub record IsAt (g : List (List ℕ)) (s : State) (start place node next : ℕ) (row : List ℕ) : Type 0 where
  pub keeps : IsSearch g s
  pub group : slice_get s.groups 0 ≡ Some start
  pub top : slice_get s.unfinished 0 ≡ Some place
  pub within : start ≤ place
  pub node_is : node ≡ get_or s.open_nodes place node
  pub row_is : row ≡ row_of g node
  pub next_is : next ≡ get_or s.done node next

pub place_within : (g : List (List ℕ)) (s : State) (place : ℕ) → IsSearch g s → slice_get s.unfinished 0 ≡ Some place → place < length s.open_nodes
place_within g s place k top = unfinished_within (IsFinished g s.done s.open_nodes) s.unfinished (length s.open_nodes) place k.waits top

pub is_last : (g : List (List ℕ)) (s : State) (start place node : ℕ) → IsSearch g s → slice_get s.groups 0 ≡ Some start → slice_get s.unfinished 0 ≡ Some place → start ≤ place → node ≡ get_or s.open_nodes place node → IsLast s start place node
is_last g s start place node k group top l e =
    record { group = group; within = l; stands = slice_get_read s.open_nodes (length s.open_nodes) place node refl (place_within g s place k top) e }

-- the node is one
pub last_within : (g : List (List ℕ)) (s : State) (start place node : ℕ) → IsSearch g s → IsLast s start place node → node < length s.done
last_within g s start place node k last = node_within g s node place k (k.placed place node last.stands)

last_of : (g : List (List ℕ)) (s : State) (start place node next : ℕ) (row : List ℕ) → IsAt g s start place node next row → IsLast s start place node
last_of g s start place node next row a = is_last g s start place node a.keeps a.group a.top a.within a.node_is

next_of : (g : List (List ℕ)) (s : State) (start place node next : ℕ) (row : List ℕ) → IsAt g s start place node next row → next ≡ done_of s.done node
next_of g s start place node next row a =
    a.next_is ∙ get_or_default s.done node next 0 (last_within g s start place node a.keeps (last_of g s start place node next row a))

-- an edge that is there
abbrev edge_of : (g : List (List ℕ)) (s : State) (start place node next : ℕ) (row : List ℕ) (end : ℕ) → IsAt g s start place node next row → next < length row → end ≡ get_or row next end → Edge g node end
edge_of g s start place node next row end a l e =
    (next, subst (λ (xs : List ℕ). next < length xs) a.row_is l, sym (ap (λ (xs : List ℕ). get_or xs next end) a.row_is) ∙ sym e)

-- the mark that is read
mark_read : (g : List (List ℕ)) (s : State) (end : ℕ) (m : Mark) → IsSearch g s → end < length g → m ≡ get_or s.marks end m → mark_of s.marks end ≡ m
mark_read g s end m k l e = get_or_default s.marks end Unseen m (let long = k.marked in omega arith) ∙ sym e

pub finishes : (g : List (List ℕ)) (s t : State) (start place node next : ℕ) (row : List ℕ) → IsAt g s start place node next row → length row ≤ next → t ≡ finished s → IsStep g s t
finishes g s t start place node next row a l e =
    let long : length row ≡ length (row_of g node) = ap length a.row_is in
    let same = next_of g s start place node next row a in
    subst (IsStep g s) (sym e) (finish_step g s start place node a.keeps (last_of g s start place node next row a) a.top (omega arith))

pub visits : {E : Type 0} (g : List (List ℕ)) (s t : State) (start place node next : ℕ) (row : List ℕ) (end : ℕ) (m : Mark) (r : Result (Unit {0}) E) → IsAt g s start place node next row
    → next < length row → end ≡ get_or row next end → end < length g → m ≡ get_or s.marks end m → m ≡ Unseen → OnOk r (t ≡ visited s end) → OnOk r (IsStep g s t)
visits g s t start place node next row end m r a l e within f unseen o =
    on_ok_weaker r (λ same. subst (IsStep g s) (sym same) (visit_step g s end a.keeps (mark_read g s end m a.keeps within f ∙ unseen) within
    (reaches_end g s start place node end a.keeps (last_of g s start place node next row a) (edge_of g s start place node next row end a l e)))) o

pub merges : (g : List (List ℕ)) (s t : State) (start place node next : ℕ) (row : List ℕ) (end at : ℕ) (m : Mark) → IsAt g s start place node next row
    → next < length row → end ≡ get_or row next end → end < length g → m ≡ get_or s.marks end m → m ≡ Open at → at < start → t ≡ merged s → IsStep g s t
merges g s t start place node next row end at m a l e within f open_at before same =
    subst (IsStep g s) (sym same) (merge_step g s start place node end at a.keeps (last_of g s start place node next row a) (edge_of g s start place node next row end a l e)
    (mark_read g s end m a.keeps within f ∙ open_at) before)

pub settles : (g : List (List ℕ)) (s t : State) (start place node next : ℕ) (row : List ℕ) (end : ℕ) (m : Mark) → IsAt g s start place node next row
    → next < length row → end ≡ get_or row next end → end < length g → m ≡ get_or s.marks end m → (m ≡ Unseen → ⊥) → ((at : ℕ) → m ≡ Open at → start ≤ at) → t ≡ settled s node → IsStep g s t
settles g s t start place node next row end m a l e within f seen late same =
    let read = mark_read g s end m a.keeps within f in
    let last = last_of g s start place node next row a in
    let here = next_of g s start place node next row a in
    let edge = edge_of g s start place node next row end a l e in
    subst (IsStep g s) (sym same) (settle_step g s start place node end a.keeps last
    (subst (λ (n : ℕ). n < length (row_of g node)) here edge.1)
    (subst (λ (n : ℕ). get_or (row_of g node) n end ≡ end) here edge.2)
    (settles_last g s start place node (mark_of s.marks end) a.keeps last (λ unseen. seen (sym read ∙ unseen)) (λ at open_at. late at (sym read ∙ open_at))))

-- a place that an earlier group doesn't have
pub late_enough : (start place at : ℕ) → Open place ≡ Open at → start ≤ place → start ≤ at
late_enough start place at e l = let same : place ≡ at = cc in omega arith
