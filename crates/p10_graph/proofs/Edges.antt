-- The next edge of a node of the last group is looked at: what the search keeps.
use Rattle.std.proofs.Common.{◌≡◌, ℕ, zero, suc, ◌+◌, ◌<◌, ◌≤◌, ◌⊎◌, inl, inr, List, [], ◌∷◌, length, set, get_or, get_or-set_same, get_or-set_other, drop, Some, slice_get, length-set, refl, sym, ap, ◌∙◌, subst, arith}
use Rattle.std.proofs.lemmas.Bool.{cases_eq}
use Rattle.std.proofs.lemmas.List.{get_or_default}
use Rattle.std.proofs.lemmas.Option.{none-some, same_Some}
use Rattle.p10_graph.specs.declared.search.Mark.{Mark}
use Rattle.p10_graph.specs.declared.search.Mark.TheVariants.{Unseen, Open, Closed}
use Rattle.p10_graph.specs.Graphs.{Edge, Reaches}
use Rattle.p10_graph.specs.private.Searching.{IsDone, IsFinished, IsSearch, IsStep, IsUpTo, Settles, State, done_of, finished, mark_of, merged, row_of, settled, undone}
use Rattle.p10_graph.proofs.Groups.{begin_merged, finished_as, finished_more, up_to_fewer, up_to_last, up_to_merged}
use Rattle.p10_graph.proofs.Marks.{open_unseen, open_within}
use Rattle.p10_graph.proofs.Walks.{reaches_next, reaches_on}

-- ## A node of the last group

-- A node stands at a place of the last group, which begins at `start`.
pub record IsLast (s : State) (start place node : ℕ) : Type 0 where
  pub group : slice_get s.groups 0 ≡ Some start
  pub within : start ≤ place
  pub stands : slice_get s.open_nodes place ≡ Some node

-- every open node reaches a node of the last group, and so the end of its edge
pub reaches_end : (g : List (List ℕ)) (s : State) (start place node end : ℕ) → IsSearch g s → IsLast s start place node → Edge g node end
    → (other u : ℕ) → slice_get s.open_nodes other ≡ Some u → Reaches g u end
reaches_end g s start place node end k last edge other u at =
    reaches_on g u node end (k.reaches other place u node at last.stands (up_to_last s.groups (length s.open_nodes) start other place k.begins last.group last.within))
    (reaches_next g node end edge)

pub shorter : (stack : List ℕ) (top : ℕ) → slice_get stack 0 ≡ Some top → length (drop 1 stack) < length stack
shorter [] top e = absurd (none-some top e)
shorter (first ∷ stack) top e = omega arith

-- ## All edges are done

pub finish_step : (g : List (List ℕ)) (s : State) (start place node : ℕ) → IsSearch g s → IsLast s start place node → slice_get s.unfinished 0 ≡ Some place
    → length (row_of g node) ≤ done_of s.done node → IsStep g s (finished s)
finish_step g s start place node k last top l = record {
  keeps = record {
    few = k.few;
    marked = k.marked;
    counted = k.counted;
    placed = k.placed;
    stands = k.stands;
    fresh = k.fresh;
    reaches = k.reaches;
    settles = k.settles;
    descends = k.descends;
    joined = k.joined;
    numbered = k.numbered;
    begins = k.begins;
    waits = finished_more (IsFinished g s.done s.open_nodes) s.unfinished (length s.open_nodes) place top
        (λ u at. subst (λ (w : ℕ). length (row_of g w) ≤ done_of s.done w) (same_Some node u (sym last.stands ∙ at)) l) k.waits;
    seen = k.seen;
    room = k.room;
  };
  less = let fewer = shorter s.unfinished place top in omega arith;
  covered = refl;
}

-- ## An edge leads back

settles_fewer : (groups : List ℕ) (place : ℕ) (m : Mark) → Settles groups place m → Settles (drop 1 groups) place m
settles_fewer groups place Unseen h = h
settles_fewer groups place (Open end) h = (up_to_fewer groups place end h.0, up_to_fewer groups end place h.1)
settles_fewer groups place (Closed number) h = h

merge_reaches : (g : List (List ℕ)) (s : State) (start place node end at p q u v : ℕ) → IsSearch g s → IsLast s start place node → Edge g node end → mark_of s.marks end ≡ Open at → at < start
    → slice_get s.open_nodes p ≡ Some u → slice_get s.open_nodes q ≡ Some v → IsUpTo (drop 1 s.groups) p q → Reaches g u v
merge_reaches g s start place node end at p q u v k last edge e l a b h =
    elim (up_to_merged s.groups start p q at last.group l h) [
      | inl was ↦ k.reaches p q u v a b was
      | inr back ↦ reaches_on g u end v (reaches_end g s start place node end k last edge p u a) (k.reaches at q end v (k.stands end at e) b back)
    ]

pub merge_keeps : (g : List (List ℕ)) (s : State) (start place node end at : ℕ) → IsSearch g s → IsLast s start place node → Edge g node end → mark_of s.marks end ≡ Open at → at < start → IsSearch g (merged s)
merge_keeps g s start place node end at k last edge e l = record {
  few = k.few;
  marked = k.marked;
  counted = k.counted;
  placed = k.placed;
  stands = k.stands;
  fresh = k.fresh;
  reaches = λ p q u v a b h. merge_reaches g s start place node end at p q u v k last edge e l a b h;
  settles = λ u place v a b. settles_fewer s.groups place (mark_of s.marks v) (k.settles u place v a b);
  descends = k.descends;
  joined = k.joined;
  numbered = k.numbered;
  begins = begin_merged s.groups start (length s.open_nodes) at k.begins last.group l;
  waits = k.waits;
  seen = k.seen;
  room = k.room;
}

pub merge_step : (g : List (List ℕ)) (s : State) (start place node end at : ℕ) → IsSearch g s → IsLast s start place node → Edge g node end → mark_of s.marks end ≡ Open at → at < start → IsStep g s (merged s)
merge_step g s start place node end at k last edge e l = record {
  keeps = merge_keeps g s start place node end at k last edge e l;
  less = let fewer = shorter s.groups start last.group in omega arith;
  covered = refl;
}

-- ## An edge is done

-- one more edge of a node is done
done_more : (done : List ℕ) (u v : ℕ) → u < length done → done_of done v ≤ done_of (set done u (done_of done u + 1)) v
done_more done u v l =
    elim (cases_eq v u) [
      | inl same ↦
          let new : done_of (set done u (done_of done u + 1)) v ≡ done_of done u + 1 = ap (done_of (set done u (done_of done u + 1))) same ∙ get_or-set_same done u (done_of done u + 1) 0 l in
          let old : done_of done v ≡ done_of done u = ap (done_of done) same in
          omega arith
      | inr differs ↦
          let new : done_of (set done u (done_of done u + 1)) v ≡ done_of done v = get_or-set_other done u v (done_of done u + 1) 0 differs in
          omega arith
    ]

-- an edge that is done was done before, or is this one
is_done_cases : (g : List (List ℕ)) (done : List ℕ) (node end u v : ℕ) → node < length done → done_of done node < length (row_of g node) → get_or (row_of g node) (done_of done node) end ≡ end
    → IsDone g (set done node (done_of done node + 1)) u v → IsDone g done u v ⊎ ((u ≡ node) × (v ≡ end))
is_done_cases g done node end u v l within e h =
    elim (cases_eq u node) [
      | inl same ↦
          let new : done_of (set done node (done_of done node + 1)) u ≡ done_of done node + 1 = ap (done_of (set done node (done_of done node + 1))) same ∙ get_or-set_same done node (done_of done node + 1) 0 l in
          let old : done_of done u ≡ done_of done node = ap (done_of done) same in
          let low = h.1 in
          elim (cases_eq h.0 (done_of done node)) [
            | inl last ↦
                let there : get_or (row_of g node) (done_of done node) v ≡ v = sym (ap (λ (k : ℕ). get_or (row_of g node) k v) last) ∙ sym (ap (λ (w : ℕ). get_or (row_of g w) h.0 v) same) ∙ h.3 in
                inr (same, sym there ∙ get_or_default (row_of g node) (done_of done node) v end within ∙ e)
            | inr earlier ↦ inl (h.0, omega arith, h.2, h.3)
          ]
      | inr differs ↦
          let new : done_of (set done node (done_of done node + 1)) u ≡ done_of done u = get_or-set_other done node u (done_of done node + 1) 0 differs in
          let low = h.1 in inl (h.0, omega arith, h.2, h.3)
    ]

undone-set : (g : List (List ℕ)) (done : List ℕ) (node : ℕ) → node < length done → done_of done node < length (row_of g node) → undone g (set done node (done_of done node + 1)) + 1 ≡ undone g done
undone-set [] done node l within = absurd (omega arith)
undone-set (row ∷ g) [] node l within = absurd (omega arith)
undone-set (row ∷ g) (n ∷ done) zero l within = omega arith
undone-set (row ∷ g) (n ∷ done) (suc node) l within = let rest = undone-set g done node (omega arith) within in omega arith

-- where the edge may lead: to a closed node, or to an open one of the last group
pub settles_last : (g : List (List ℕ)) (s : State) (start place node : ℕ) (m : Mark) → IsSearch g s → IsLast s start place node → (m ≡ Unseen → ⊥) → ((at : ℕ) → m ≡ Open at → start ≤ at) → Settles s.groups place m
settles_last g s start place node Unseen k last f h = f refl
settles_last g s start place node (Open at) k last f h =
    (up_to_last s.groups (length s.open_nodes) start place at k.begins last.group (h at refl), up_to_last s.groups (length s.open_nodes) start at place k.begins last.group last.within)
settles_last g s start place node (Closed number) k last f h = tt

settle_settles : (g : List (List ℕ)) (s : State) (place node end : ℕ) → IsSearch g s → mark_of s.marks node ≡ Open place → node < length s.done → done_of s.done node < length (row_of g node)
    → get_or (row_of g node) (done_of s.done node) end ≡ end → Settles s.groups place (mark_of s.marks end)
    → (u other v : ℕ) → mark_of s.marks u ≡ Open other → IsDone g (settled s node).done u v → Settles s.groups other (mark_of s.marks v)
settle_settles g s place node end k at l within e h u other v a b =
    elim (is_done_cases g s.done node end u v l within e b) [
      | inl was ↦ k.settles u other v a was
      | inr new ↦
          let both : Open place ≡ Open other = sym at ∙ ap (mark_of s.marks) (sym new.0) ∙ a in
          let same : place ≡ other = cc in
          subst (λ (p : ℕ). Settles s.groups p (mark_of s.marks v)) same (subst (λ (w : ℕ). Settles s.groups place (mark_of s.marks w)) (sym new.1) h)
    ]

-- an open node is a node
pub node_within : (g : List (List ℕ)) (s : State) (node place : ℕ) → IsSearch g s → mark_of s.marks node ≡ Open place → node < length s.done
node_within g s node place k e =
    let within = open_within s.marks node place e in
    let marked = k.marked in
    let counted = k.counted in omega arith

pub settle_step : (g : List (List ℕ)) (s : State) (start place node end : ℕ) → IsSearch g s → IsLast s start place node → done_of s.done node < length (row_of g node)
    → get_or (row_of g node) (done_of s.done node) end ≡ end → Settles s.groups place (mark_of s.marks end) → IsStep g s (settled s node)
settle_step g s start place node end k last within e h =
    let at : mark_of s.marks node ≡ Open place = k.placed place node last.stands in
    let here : node < length s.done = node_within g s node place k at in
    record {
      keeps = record {
        few = k.few;
        marked = k.marked;
        counted = length-set s.done node (done_of s.done node + 1) ∙ k.counted;
        placed = k.placed;
        stands = k.stands;
        fresh = λ u unseen. get_or-set_other s.done node u (done_of s.done node + 1) 0 (λ same. open_unseen place (sym at ∙ ap (mark_of s.marks) (sym same) ∙ unseen)) ∙ k.fresh u unseen;
        reaches = k.reaches;
        settles = λ u other v a b. settle_settles g s place node end k at here within e h u other v a b;
        descends = k.descends;
        joined = k.joined;
        numbered = k.numbered;
        begins = k.begins;
        waits = finished_as (IsFinished g s.done s.open_nodes) (IsFinished g (settled s node).done s.open_nodes) s.unfinished (length s.open_nodes)
            (λ p l f u there. let more = done_more s.done node u here in let all = f u there in omega arith) k.waits;
        seen = k.seen;
        room = k.room;
      };
      less = let fewer = undone-set g s.done node here within in omega arith;
      covered = refl;
    }
