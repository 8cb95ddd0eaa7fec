-- A node is opened: what the search keeps.
use Rattle.std.proofs.Common.{◌≡◌, ℕ, ◌<◌, inl, inr, List, [], ◌∷◌, ◌++◌, length, set, Some, slice_get, length-set, length-append, refl, sym, ap, ◌∙◌, subst, arith}
use Rattle.std.proofs.lemmas.Bool.{cases_eq}
use Rattle.std.proofs.lemmas.Option.{slice_get_within}
use Rattle.p10_graph.specs.declared.search.Mark.{Mark}
use Rattle.p10_graph.specs.declared.search.Mark.TheVariants.{Unseen, Open, Closed}
use Rattle.p10_graph.specs.Graphs.{Reaches}
use Rattle.p10_graph.specs.private.Searching.{AllFinishedBut, IsClosedUpTo, IsDone, IsFinished, IsSearch, IsStep, IsUpTo, Settles, State, done_of, mark_of, visited}
use Rattle.p10_graph.proofs.Places.{push_cases, slice_get-last, slice_get-left}
use Rattle.p10_graph.proofs.Groups.{finished_as}
use Rattle.p10_graph.proofs.Marks.{mark-set_other, mark-set_same, mark_after, mark_before, unseen-set}
use Rattle.p10_graph.proofs.Walks.{reaches_itself}

-- an edge that was done leads where it led: the new group stands after all others
settles_more : (groups : List ℕ) (n place : ℕ) (m : Mark) → place < n → ((end : ℕ) → m ≡ Open end → end < n) → Settles groups place m → Settles (n ∷ groups) place m
settles_more groups n place Unseen l f h = h
settles_more groups n place (Open end) l f h =
    let low = f end refl in (((λ late. absurd (omega arith)), h.0), ((λ late. absurd (omega arith)), h.1))
settles_more groups n place (Closed number) l f h = h

-- what one edge that is done says once another node was opened
settles_after : (marks : List Mark) (groups : List ℕ) (node n place v : ℕ) → mark_of marks node ≡ Unseen → place < n → ((end : ℕ) → mark_of marks v ≡ Open end → end < n)
    → Settles groups place (mark_of marks v) → Settles (n ∷ groups) place (mark_of (set marks node (Open n)) v)
settles_after marks groups node n place v e l f h =
    elim (cases_eq v node) [
      | inl same ↦ absurd (subst (Settles groups place) (ap (mark_of marks) same ∙ e) h)
      | inr differs ↦ subst (Settles (n ∷ groups) place) (sym (mark-set_other marks node v (Open n) differs)) (settles_more groups n place (mark_of marks v) l f h)
    ]

closed_after : (marks : List Mark) (node n number v : ℕ) → mark_of marks node ≡ Unseen → IsClosedUpTo number (mark_of marks v) → IsClosedUpTo number (mark_of (set marks node (Open n)) v)
closed_after marks node n number v e h =
    elim (cases_eq v node) [
      | inl same ↦ absurd (subst (IsClosedUpTo number) (ap (mark_of marks) same ∙ e) h)
      | inr differs ↦ subst (IsClosedUpTo number) (sym (mark-set_other marks node v (Open n) differs)) h
    ]

-- the places of a longer list agree with marks
placed_after : (marks : List Mark) (nodes : List ℕ) (node place u : ℕ) → mark_of marks node ≡ Unseen → node < length marks
    → ((place u : ℕ) → slice_get nodes place ≡ Some u → mark_of marks u ≡ Open place)
    → slice_get (nodes ++ node ∷ []) place ≡ Some u → mark_of (set marks node (Open (length nodes))) u ≡ Open place
placed_after marks nodes node place u e l f h =
    elim (push_cases nodes node place u h) [
      | inl old ↦ mark_after marks node u (Open (length nodes)) Unseen (Open place) e (λ clash. cc) (f place u old)
      | inr new ↦ ap (mark_of (set marks node (Open (length nodes)))) (sym new.1) ∙ mark-set_same marks node (Open (length nodes)) l ∙ ap Open (sym new.0)
    ]

stands_after : (marks : List Mark) (nodes : List ℕ) (node u place : ℕ) → node < length marks
    → ((u place : ℕ) → mark_of marks u ≡ Open place → slice_get nodes place ≡ Some u)
    → mark_of (set marks node (Open (length nodes))) u ≡ Open place → slice_get (nodes ++ node ∷ []) place ≡ Some u
stands_after marks nodes node u place l f h =
    elim (cases_eq u node) [
      | inl same ↦
          let at : Open (length nodes) ≡ Open place = sym (mark-set_same marks node (Open (length nodes)) l) ∙ ap (mark_of (set marks node (Open (length nodes)))) (sym same) ∙ h in
          let here : length nodes ≡ place = cc in
          ap (slice_get (nodes ++ node ∷ [])) (sym here) ∙ slice_get-last nodes node ∙ ap Some (sym same)
      | inr differs ↦ slice_get-left nodes (node ∷ []) place u (f u place (sym (mark-set_other marks node u (Open (length nodes)) differs) ∙ h))
    ]

-- each open node reaches those of its group and of the groups after it, the new one included
reaches_after : (g : List (List ℕ)) (nodes groups : List ℕ) (node p q u v : ℕ) → ((place w : ℕ) → slice_get nodes place ≡ Some w → Reaches g w node)
    → ((p q u v : ℕ) → slice_get nodes p ≡ Some u → slice_get nodes q ≡ Some v → IsUpTo groups p q → Reaches g u v)
    → slice_get (nodes ++ node ∷ []) p ≡ Some u → slice_get (nodes ++ node ∷ []) q ≡ Some v → IsUpTo (length nodes ∷ groups) p q → Reaches g u v
reaches_after g nodes groups node p q u v reached f a b h =
    elim (push_cases nodes node p u a) [
      | inl old ↦ elim (push_cases nodes node q v b) [
        | inl older ↦ f p q u v old older h.1
        | inr last ↦ subst (Reaches g u) last.1 (reached p u old)
      ]
      | inr new ↦ elim (push_cases nodes node q v b) [
        | inl older ↦ let low = slice_get_within nodes q v older in let same = new.0 in let clash = h.0 (omega arith) in absurd (omega arith)
        | inr last ↦ subst (λ (x : ℕ). Reaches g x v) new.1 (subst (Reaches g node) last.1 (reaches_itself g node))
      ]
    ]

-- no edge of a node that was unseen is done
settles_fresh : (g : List (List ℕ)) (marks : List Mark) (done nodes groups : List ℕ) (node u place v : ℕ) → mark_of marks node ≡ Unseen → node < length marks → done_of done node ≡ 0
    → ((u place : ℕ) → mark_of marks u ≡ Open place → slice_get nodes place ≡ Some u)
    → ((u place v : ℕ) → mark_of marks u ≡ Open place → IsDone g done u v → Settles groups place (mark_of marks v))
    → mark_of (set marks node (Open (length nodes))) u ≡ Open place → IsDone g done u v → Settles (length nodes ∷ groups) place (mark_of (set marks node (Open (length nodes))) v)
settles_fresh g marks done nodes groups node u place v e l none f h a b =
    elim (cases_eq u node) [
      | inl same ↦ let low : b.0 < 0 = subst (λ (n : ℕ). b.0 < n) (ap (done_of done) same ∙ none) b.1 in absurd (omega arith)
      | inr differs ↦
          let before = sym (mark-set_other marks node u (Open (length nodes)) differs) ∙ a in
          settles_after marks groups node (length nodes) place v e (slice_get_within nodes place u (f u place before))
          (λ end at. slice_get_within nodes end v (f v end at)) (h u place v before b)
    ]

-- every place but the new one is as finished as it was
waits_after : (g : List (List ℕ)) (done nodes stack : List ℕ) (node : ℕ) → AllFinishedBut (IsFinished g done nodes) stack (length nodes)
    → AllFinishedBut (IsFinished g done (nodes ++ node ∷ [])) (length nodes ∷ stack) (length (nodes ++ node ∷ []))
waits_after g done nodes stack node h =
    let longer = length-append nodes (node ∷ []) in (
      omega arith,
      (λ place m l. absurd (omega arith)),
      finished_as (IsFinished g done nodes) (IsFinished g done (nodes ++ node ∷ [])) stack (length nodes)
          (λ place l f u at. elim (push_cases nodes node place u at) [ inl old ↦ f u old | inr new ↦ let same = new.0 in absurd (omega arith) ]) h,
    )

pub visit_keeps : (g : List (List ℕ)) (s : State) (node : ℕ) → IsSearch g s → mark_of s.marks node ≡ Unseen → node < length g
    → ((place u : ℕ) → slice_get s.open_nodes place ≡ Some u → Reaches g u node) → IsSearch g (visited s node)
visit_keeps g s node k e l reached =
    let here : node < length s.marks = let same = k.marked in omega arith in
    let longer = length-append s.open_nodes (node ∷ []) in
    record {
      few = k.few;
      marked = length-set s.marks node (Open (length s.open_nodes)) ∙ k.marked;
      counted = k.counted;
      placed = λ place u h. placed_after s.marks s.open_nodes node place u e here k.placed h;
      stands = λ u place h. stands_after s.marks s.open_nodes node u place here k.stands h;
      fresh = λ u h. k.fresh u (mark_before s.marks node u (Open (length s.open_nodes)) Unseen here (λ clash. cc) h);
      reaches = λ p q u v a b h. reaches_after g s.open_nodes s.groups node p q u v reached k.reaches a b h;
      settles = λ u place v a b. settles_fresh g s.marks s.done s.open_nodes s.groups node u place v e here (k.fresh node e) k.stands k.settles a b;
      descends = λ u number v a b. closed_after s.marks node (length s.open_nodes) number v e
          (k.descends u number v (mark_before s.marks node u (Open (length s.open_nodes)) (Closed number) here (λ clash. cc) a) b);
      joined = λ u v number a b. k.joined u v number (mark_before s.marks node u (Open (length s.open_nodes)) (Closed number) here (λ clash. cc) a)
          (mark_before s.marks node v (Open (length s.open_nodes)) (Closed number) here (λ clash. cc) b);
      numbered = λ u number a. k.numbered u number (mark_before s.marks node u (Open (length s.open_nodes)) (Closed number) here (λ clash. cc) a);
      begins = (omega arith, k.begins);
      waits = waits_after g s.done s.open_nodes s.unfinished node k.waits;
      seen = λ u low a. k.seen u low (mark_before s.marks node u (Open (length s.open_nodes)) Unseen here (λ clash. cc) a);
      room = let fewer = unseen-set s.marks node (length s.open_nodes) here e in let old = k.room in omega arith;
    }

pub visit_step : (g : List (List ℕ)) (s : State) (node : ℕ) → IsSearch g s → mark_of s.marks node ≡ Unseen → node < length g
    → ((place u : ℕ) → slice_get s.open_nodes place ≡ Some u → Reaches g u node) → IsStep g s (visited s node)
visit_step g s node k e l reached = record {
  keeps = visit_keeps g s node k e l reached;
  less = let fewer = unseen-set s.marks node (length s.open_nodes) (let same = k.marked in omega arith) e in omega arith;
  covered = refl;
}
