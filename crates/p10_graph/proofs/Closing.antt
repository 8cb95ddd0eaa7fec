-- The last group is made a component: what the search keeps.
use Rattle.std.proofs.Common.{◌≡◌, ℕ, ◌+◌, ◌<◌, ◌≤◌, ◌⊎◌, inl, inr, List, [], ◌∷◌, length, map, drop, take, cond, le-leb, Bool, Some, slice_get, length-take-le, refl, sym, ap, ◌∙◌, subst, arith}
use Rattle.std.specs.List.{count_by}
use Rattle.std.proofs.lemmas.Bool.{cases_lt, lt-leb}
use Rattle.std.proofs.lemmas.List.{length-map}
use Rattle.std.proofs.lemmas.List.Sums.{sum_by-cons}
use Rattle.std.proofs.lemmas.Option.{slice_get_within}
use Rattle.std.proofs.Math.ListN.{get_or-map}
use Rattle.p10_graph.specs.declared.search.Mark.{Mark}
use Rattle.p10_graph.specs.declared.search.Mark.TheVariants.{Unseen, Open, Closed}
use Rattle.p10_graph.specs.Graphs.{Edge, Reaches}
use Rattle.p10_graph.specs.private.Searching.{AllFinishedBut, Begin, IsClosedUpTo, IsDone, IsFinished, IsSearch, IsStep, Settles, State, closing, is_unseen, mark_of, with_component}
use Rattle.p10_graph.proofs.Places.{slice_get-front, take_cases}
use Rattle.p10_graph.proofs.Groups.{begin_before, begin_within, finished_as, finished_before, finished_from, up_to_before, up_to_fewer, up_to_last, up_to_more}
use Rattle.p10_graph.proofs.Edges.{shorter}

-- ## Marks

mark-closing : (start number : ℕ) (marks : List Mark) (u : ℕ) → mark_of (map (closing start number) marks) u ≡ closing start number (mark_of marks u)
mark-closing start number marks u = get_or-map (closing start number) marks u Unseen

pub closing-before : (start number place : ℕ) → place < start → closing start number (Open place) ≡ Open place
closing-before start number place l = ap (λ (b : Bool). cond b (Closed number) (Open place)) (lt-leb start place l)

pub closing-from : (start number place : ℕ) → start ≤ place → closing start number (Open place) ≡ Closed number
closing-from start number place l = ap (λ (b : Bool). cond b (Closed number) (Open place)) (le-leb start place l)

-- what stays open
still_open : (start number : ℕ) (m : Mark) (place : ℕ) → closing start number m ≡ Open place → (m ≡ Open place) × (place < start)
still_open start number Unseen place e = absurd cc
still_open start number (Open other) place e =
    elim (cases_lt other start) [
      | inl low ↦ let same : Open other ≡ Open place = sym (closing-before start number other low) ∙ e in let here : other ≡ place = cc in (same, subst (λ (p : ℕ). p < start) here low)
      | inr high ↦ let clash : Closed number ≡ Open place = sym (closing-from start number other high) ∙ e in absurd cc
    ]
still_open start number (Closed other) place e = absurd cc

-- what was unseen
still_unseen : (start number : ℕ) (m : Mark) → closing start number m ≡ Unseen → m ≡ Unseen
still_unseen start number Unseen e = refl
still_unseen start number (Open other) e =
    elim (cases_lt other start) [
      | inl low ↦ let clash : Open other ≡ Unseen = sym (closing-before start number other low) ∙ e in absurd cc
      | inr high ↦ let clash : Closed number ≡ Unseen = sym (closing-from start number other high) ∙ e in absurd cc
    ]
still_unseen start number (Closed other) e = e

-- what is closed was so before, or was open in the last group
record WasOpen (start number other : ℕ) (m : Mark) : Type 0 where
  place : ℕ
  was : m ≡ Open place
  within : start ≤ place
  new : other ≡ number

now_closed : (start number : ℕ) (m : Mark) (other : ℕ) → closing start number m ≡ Closed other → (m ≡ Closed other) ⊎ WasOpen start number other m
now_closed start number Unseen other e = absurd cc
now_closed start number (Open place) other e =
    elim (cases_lt place start) [
      | inl low ↦ let clash : Open place ≡ Closed other = sym (closing-before start number place low) ∙ e in absurd cc
      | inr high ↦ let same : Closed number ≡ Closed other = sym (closing-from start number place high) ∙ e in let new : other ≡ number = cc in
          inr (record { place = place; was = refl; within = high; new = new })
    ]
now_closed start number (Closed old) other e = inl e

unseen-closing : (start number : ℕ) (m : Mark) → is_unseen (closing start number m) ≡ is_unseen m
unseen-closing start number Unseen = refl
unseen-closing start number (Open place) =
    elim (cases_lt place start) [ inl low ↦ ap is_unseen (closing-before start number place low) | inr high ↦ ap is_unseen (closing-from start number place high) ]
unseen-closing start number (Closed other) = refl

pub count-closing : (start number : ℕ) (marks : List Mark) → count_by is_unseen (map (closing start number) marks) ≡ count_by is_unseen marks
count-closing start number [] = refl
count-closing start number (m ∷ marks) =
    let one_if : Mark → ℕ = λ x. cond (is_unseen x) 1 0 in
    let first : one_if (closing start number m) ≡ one_if m = ap (λ (b : Bool). cond b 1 0) (unseen-closing start number m) in
    let rest = count-closing start number marks in
    let new = sum_by-cons one_if (closing start number m) (map (closing start number) marks) in
    let old = sum_by-cons one_if m marks in
    omega arith

-- ## Edges

-- an edge of an open node before the group leads before the group, or to a closed node
settles_closing : (groups : List ℕ) (start number place : ℕ) (m : Mark) → slice_get groups 0 ≡ Some start → place < start → Settles groups place m → Settles (drop 1 groups) place (closing start number m)
settles_closing groups start number place Unseen e l h = h
settles_closing groups start number place (Open end) e l h =
    elim (cases_lt end start) [
      | inl low ↦ subst (Settles (drop 1 groups) place) (sym (closing-before start number end low)) (up_to_fewer groups place end h.0, up_to_fewer groups end place h.1)
      | inr high ↦ let late = up_to_before groups start end place e h.1 high in absurd (omega arith)
    ]
settles_closing groups start number place (Closed other) e l h = h

-- an edge of a node of the group leads into it, or to a closed node
settles_within : (groups : List ℕ) (start number place : ℕ) (m : Mark) → slice_get groups 0 ≡ Some start → start ≤ place → ((other : ℕ) → m ≡ Closed other → other < number) → Settles groups place m → IsClosedUpTo number (closing start number m)
settles_within groups start number place Unseen e l f h = h
settles_within groups start number place (Open end) e l f h =
    let late = up_to_before groups start place end e h.0 l in
    subst (IsClosedUpTo number) (sym (closing-from start number end late)) (let bound : number ≤ number = omega arith in bound)
settles_within groups start number place (Closed other) e l f h = let low = f other refl in omega arith

closed_still : (start number other : ℕ) (m : Mark) → IsClosedUpTo other m → IsClosedUpTo other (closing start number m)
closed_still start number other Unseen h = h
closed_still start number other (Open place) h = absurd h
closed_still start number other (Closed old) h = h

-- ## The step

-- all edges of the nodes of the last group are done
pub record IsWhole (g : List (List ℕ)) (s : State) (start : ℕ) : Type 0 where
  pub group : slice_get s.groups 0 ≡ Some start
  pub below : (top : ℕ) → slice_get s.unfinished 0 ≡ Some top → top < start

all_done : (g : List (List ℕ)) (s : State) (start place u v : ℕ) → IsSearch g s → IsWhole g s start → start ≤ place → slice_get s.open_nodes place ≡ Some u → Edge g u v → IsDone g s.done u v
all_done g s start place u v k whole l at edge =
    let all = finished_from (IsFinished g s.done s.open_nodes) s.unfinished (length s.open_nodes) start whole.below k.waits place l (slice_get_within s.open_nodes place u at) u at in
    let within = edge.1 in
    (edge.0, omega arith, edge.1, edge.2)

descends_closing : (g : List (List ℕ)) (s : State) (start u number v : ℕ) → IsSearch g s → IsWhole g s start → closing start s.closed (mark_of s.marks u) ≡ Closed number → Edge g u v
    → IsClosedUpTo number (closing start s.closed (mark_of s.marks v))
descends_closing g s start u number v k whole e edge =
    elim (now_closed start s.closed (mark_of s.marks u) number e) [
      | inl old ↦ closed_still start s.closed number (mark_of s.marks v) (k.descends u number v old edge)
      | inr new ↦
          let at = k.stands u new.place new.was in
          subst (λ (n : ℕ). IsClosedUpTo n (closing start s.closed (mark_of s.marks v))) (sym new.new)
          (settles_within s.groups start s.closed new.place (mark_of s.marks v) whole.group new.within (λ other. k.numbered v other)
          (k.settles u new.place v new.was (all_done g s start new.place u v k whole new.within at edge)))
    ]

joined_closing : (g : List (List ℕ)) (s : State) (start u v number : ℕ) → IsSearch g s → IsWhole g s start
    → closing start s.closed (mark_of s.marks u) ≡ Closed number → closing start s.closed (mark_of s.marks v) ≡ Closed number → Reaches g u v
joined_closing g s start u v number k whole a b =
    elim (now_closed start s.closed (mark_of s.marks u) number a) [
      | inl old ↦ elim (now_closed start s.closed (mark_of s.marks v) number b) [
        | inl older ↦ k.joined u v number old older
        | inr new ↦ let low = k.numbered u number old in let same = new.new in absurd (omega arith)
      ]
      | inr new ↦ elim (now_closed start s.closed (mark_of s.marks v) number b) [
        | inl older ↦ let low = k.numbered v number older in let same = new.new in absurd (omega arith)
        | inr newer ↦ k.reaches new.place newer.place u v (k.stands u new.place new.was) (k.stands v newer.place newer.was)
            (up_to_last s.groups (length s.open_nodes) start new.place newer.place k.begins whole.group newer.within)
      ]
    ]

numbered_closing : (g : List (List ℕ)) (s : State) (start u number : ℕ) → IsSearch g s → closing start s.closed (mark_of s.marks u) ≡ Closed number → number < s.closed + 1
numbered_closing g s start u number k e =
    elim (now_closed start s.closed (mark_of s.marks u) number e) [
      | inl old ↦ let low = k.numbered u number old in omega arith
      | inr new ↦ let same = new.new in omega arith
    ]

pub close_keeps : (g : List (List ℕ)) (s : State) (start : ℕ) → IsSearch g s → IsWhole g s start → IsSearch g (with_component s start)
close_keeps g s start k whole =
    let marked_now : (u : ℕ) → mark_of (with_component s start).marks u ≡ closing start s.closed (mark_of s.marks u) = λ u. mark-closing start s.closed s.marks u in
    let within = begin_within s.groups start (length s.open_nodes) k.begins whole.group in
    let front : length (take start s.open_nodes) ≡ start = length-take-le start s.open_nodes (omega arith) in
    record {
      few = k.few;
      marked = length-map s.marks (closing start s.closed) ∙ k.marked;
      counted = k.counted;
      placed = λ place u h. let at = take_cases start s.open_nodes place u h in
          marked_now u ∙ ap (closing start s.closed) (k.placed place u at.1) ∙ closing-before start s.closed place at.0;
      stands = λ u place h. let at = still_open start s.closed (mark_of s.marks u) place (sym (marked_now u) ∙ h) in
          slice_get-front start s.open_nodes place u at.1 (k.stands u place at.0);
      fresh = λ u h. k.fresh u (still_unseen start s.closed (mark_of s.marks u) (sym (marked_now u) ∙ h));
      reaches = λ p q u v a b h.
          let first = take_cases start s.open_nodes p u a in
          let second = take_cases start s.open_nodes q v b in
          k.reaches p q u v first.1 second.1 (up_to_more s.groups start p q whole.group first.0 h);
      settles = λ u place v a b.
          let at = still_open start s.closed (mark_of s.marks u) place (sym (marked_now u) ∙ a) in
          subst (Settles (drop 1 s.groups) place) (sym (marked_now v)) (settles_closing s.groups start s.closed place (mark_of s.marks v) whole.group at.1 (k.settles u place v at.0 b));
      descends = λ u number v a b. subst (IsClosedUpTo number) (sym (marked_now v)) (descends_closing g s start u number v k whole (sym (marked_now u) ∙ a) b);
      joined = λ u v number a b. joined_closing g s start u v number k whole (sym (marked_now u) ∙ a) (sym (marked_now v) ∙ b);
      numbered = λ u number a. numbered_closing g s start u number k (sym (marked_now u) ∙ a);
      begins = subst (Begin (drop 1 s.groups)) (sym front) (begin_before s.groups start (length s.open_nodes) k.begins whole.group);
      waits = subst (AllFinishedBut (IsFinished g s.done (take start s.open_nodes)) s.unfinished) (sym front)
          (finished_as (IsFinished g s.done s.open_nodes) (IsFinished g s.done (take start s.open_nodes)) s.unfinished start
          (λ p l f u at. let there = take_cases start s.open_nodes p u at in f u there.1)
          (finished_before (IsFinished g s.done s.open_nodes) s.unfinished (length s.open_nodes) start whole.below (omega arith) k.waits));
      seen = λ u low a. k.seen u low (still_unseen start s.closed (mark_of s.marks u) (sym (marked_now u) ∙ a));
      room = let same = count-closing start s.closed s.marks in let old = k.room in omega arith;
    }

pub close_step : (g : List (List ℕ)) (s : State) (start : ℕ) → IsSearch g s → IsWhole g s start → IsStep g s (with_component s start)
close_step g s start k whole = record {
  keeps = close_keeps g s start k whole;
  less = let fewer = shorter s.groups start whole.group in let same = count-closing start s.closed s.marks in omega arith;
  covered = refl;
}
