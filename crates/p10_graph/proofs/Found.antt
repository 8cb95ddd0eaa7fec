-- Once every node is closed, their numbers are those of the components; and where the search begins.
use Rattle.std.proofs.Common.{◌≡◌, ℕ, zero, suc, ◌+◌, ◌^◌, ◌<◌, ◌≤◌, inl, inr, List, [], length, cond, map, replicate, slice_get, refl, sym, ap, ◌∙◌, subst, arith}
use Rattle.std.specs.List.{count_by, slice_index}
use Rattle.std.proofs.lemmas.Bool.{cases_eq, cases_lt, cases_order}
use Rattle.std.proofs.lemmas.List.{get_or_past, length-map, length-replicate}
use Rattle.std.proofs.lemmas.List.Sums.{count_by-le-length}
use Rattle.std.proofs.lemmas.Option.{none-some}
use Rattle.std.proofs.Math.ListN.{get_or-map}
use Rattle.p10_graph.specs.declared.search.Mark.{Mark}
use Rattle.p10_graph.specs.declared.search.Mark.TheVariants.{Unseen, Open, Closed}
use Rattle.p10_graph.specs.Graphs.{Edge, Walk}
use Rattle.p10_graph.specs.Components.{AreComponents}
use Rattle.p10_graph.specs.private.Searching.{IsClosedUpTo, IsSearch, State, done_of, is_unseen, mark_of, number_at, opened, row_of, stack_of, visited}
use Rattle.p10_graph.proofs.Marks.{closed_unseen, mark-set_same, open_unseen}
use Rattle.p10_graph.proofs.Visiting.{visit_keeps}
use Rattle.p10_graph.proofs.Places.{stack_none}

-- ## The beginning

lower_covered : (u n : ℕ) → u < n + 1 → (u ≡ n → ⊥) → u < n
lower_covered u n l differs = elim (cases_order u n) [ inl same ↦ absurd (differs same) | inr apart ↦ elim apart [ inl low ↦ low | inr high ↦ absurd (omega arith) ] ]

unseen_all : (n u : ℕ) → mark_of (replicate n Unseen) u ≡ Unseen
unseen_all zero u = refl
unseen_all (suc n) zero = refl
unseen_all (suc n) (suc u) = unseen_all n u

none_done : (n u : ℕ) → done_of (replicate n 0) u ≡ 0
none_done zero u = refl
none_done (suc n) zero = refl
none_done (suc n) (suc u) = none_done n u

unseen-replicate : (n : ℕ) → count_by is_unseen (replicate n Unseen) ≤ n
unseen-replicate n = let most = count_by-le-length is_unseen (replicate n Unseen) in let same = length-replicate n Unseen in omega arith

-- nothing is open or closed
abbrev pub fresh_state : ℕ → State
fresh_state n = record { marks = replicate n Unseen; done = replicate n 0; open_nodes = []; groups = []; unfinished = []; closed = 0; covered = 0 }

pub begin_keeps : (g : List (List ℕ)) → length g < 2 ^ 32 → IsSearch g (fresh_state (length g))
begin_keeps g few = record {
  few = few;
  marked = length-replicate (length g) Unseen;
  counted = length-replicate (length g) 0;
  placed = λ place u h. absurd (none-some u h);
  stands = λ u place h. absurd (open_unseen place (sym h ∙ unseen_all (length g) u));
  fresh = λ u h. none_done (length g) u;
  reaches = λ p q u v a b h. absurd (none-some u a);
  settles = λ u place v a b. absurd (open_unseen place (sym a ∙ unseen_all (length g) u));
  descends = λ u number v a b. absurd (closed_unseen number (sym a ∙ unseen_all (length g) u));
  joined = λ u v number a b. absurd (closed_unseen number (sym a ∙ unseen_all (length g) u));
  numbered = λ u number a. absurd (closed_unseen number (sym a ∙ unseen_all (length g) u));
  begins = refl;
  waits = λ place l. absurd (omega arith);
  seen = λ u l a. absurd (omega arith);
  room = let most = unseen-replicate (length g) in omega arith;
}

pub begin_as : (g : List (List ℕ)) (marks : List Mark) (done nodes groups unfinished : List ℕ) → length g < 2 ^ 32 → marks ≡ replicate (length g) Unseen → done ≡ replicate (length g) 0 → nodes ≡ [] → groups ≡ [] → unfinished ≡ []
    → IsSearch g (record { marks = marks; done = done; open_nodes = nodes; groups = stack_of groups; unfinished = stack_of unfinished; closed = 0; covered = 0 })
begin_as g marks done nodes groups unfinished few a b c d e =
    let first : stack_of groups ≡ [] = ap stack_of d ∙ stack_none in
    let second : stack_of unfinished ≡ [] = ap stack_of e ∙ stack_none in
    let s : State = record { marks = marks; done = done; open_nodes = nodes; groups = stack_of groups; unfinished = stack_of unfinished; closed = 0; covered = 0 } in
    let same : s ≡ fresh_state (length g) = cc in
    subst (IsSearch g) (sym same) (begin_keeps g few)

-- ## The next node

-- one node more was seen
covers : (g : List (List ℕ)) (s : State) → IsSearch g s → (mark_of s.marks s.covered ≡ Unseen → ⊥) → IsSearch g (record s { covered = s.covered + 1 })
covers g s k h = record {
  few = k.few;
  marked = k.marked;
  counted = k.counted;
  placed = k.placed;
  stands = k.stands;
  fresh = k.fresh;
  reaches = k.reaches;
  settles = k.settles;
  descends = k.descends;
  joined = k.joined;
  numbered = k.numbered;
  begins = k.begins;
  waits = k.waits;
  seen = λ u l a. elim (cases_eq u s.covered) [
    | inl same ↦ h (ap (mark_of s.marks) (sym same) ∙ a)
    | inr differs ↦ k.seen u (lower_covered u s.covered l differs) a
  ];
  room = k.room;
}

open_by : (g : List (List ℕ)) (s : State) → IsSearch g s → s.open_nodes ≡ [] → s.covered < length g → (m : Mark) → mark_of s.marks s.covered ≡ m
    → IsSearch g (record (let t : State = cond (is_unseen m) (visited s s.covered) s in t) { covered = s.covered + 1 })
open_by g s k none l Unseen e =
    covers g (visited s s.covered) (visit_keeps g s s.covered k e l (λ place u at. absurd (none-some u (sym (ap (λ (nodes : List ℕ). slice_get nodes place) none) ∙ at))))
    (λ unseen. open_unseen (length s.open_nodes) (sym (mark-set_same s.marks s.covered (Open (length s.open_nodes)) (let long = k.marked in omega arith)) ∙ unseen))
open_by g s k none l (Open place) e = covers g s k (λ unseen. open_unseen place (sym e ∙ unseen))
open_by g s k none l (Closed number) e = covers g s k (λ unseen. closed_unseen number (sym e ∙ unseen))

-- the next node is opened, if it wasn't seen
pub open_keeps : (g : List (List ℕ)) (s : State) → IsSearch g s → s.open_nodes ≡ [] → s.covered < length g → IsSearch g (opened s)
open_keeps g s k none l = open_by g s k none l (mark_of s.marks s.covered) refl

-- ## The end

lower : (low high : ℕ) (m : Mark) → low ≤ high → IsClosedUpTo low m → IsClosedUpTo high m
lower low high Unseen l h = h
lower low high (Open place) l h = absurd h
lower low high (Closed other) l h = omega arith

-- what follows from a closed node in the middle
closed_between : (number : ℕ) (m last : Mark) → IsClosedUpTo number m → ((other : ℕ) → m ≡ Closed other → IsClosedUpTo other last) → IsClosedUpTo number last
closed_between number Unseen last h f = absurd h
closed_between number (Open place) last h f = absurd h
closed_between number (Closed other) last h f = lower other number last h (f other refl)

-- a node reaches only nodes that are closed with its number or a lower one
descends_all : (g : List (List ℕ)) (s : State) (n u number v : ℕ) → IsSearch g s → mark_of s.marks u ≡ Closed number → Walk g n u v → IsClosedUpTo number (mark_of s.marks v)
descends_all g s zero u number v k e w =
    subst (λ (x : ℕ). IsClosedUpTo number (mark_of s.marks x)) w (subst (IsClosedUpTo number) (sym e) (let bound : number ≤ number = omega arith in bound))
descends_all g s (suc n) u number v k e w =
    closed_between number (mark_of s.marks w.0) (mark_of s.marks v) (k.descends u number w.0 e w.1) (λ other at. descends_all g s n w.0 other v k at w.2)

-- every node is closed
pub record IsAll (g : List (List ℕ)) (s : State) : Type 0 where
  pub search : IsSearch g s
  pub none : s.open_nodes ≡ []
  pub covered : length g ≤ s.covered

is_closed : (g : List (List ℕ)) (s : State) (u : ℕ) (m : Mark) → IsAll g s → u < length g → mark_of s.marks u ≡ m → m ≡ Closed (number_at m)
is_closed g s u Unseen a l e = absurd (a.search.seen u (let c = a.covered in omega arith) e)
is_closed g s u (Open place) a l e = absurd (none-some u (sym (ap (λ (nodes : List ℕ). slice_get nodes place) a.none) ∙ a.search.stands u place e))
is_closed g s u (Closed number) a l e = refl

number_most : (number : ℕ) (m : Mark) → IsClosedUpTo number m → number_at m ≤ number
number_most number Unseen h = absurd h
number_most number (Open place) h = absurd h
number_most number (Closed other) h = h

-- only nodes have edges
pub edge_within : (g : List (List ℕ)) (u v : ℕ) → Edge g u v → u < length g
edge_within g u v edge =
    elim (cases_lt u (length g)) [
      | inl low ↦ low
      | inr high ↦ let none : length (row_of g u) ≡ 0 = ap length (get_or_past g u [] high) in let within = edge.1 in absurd (omega arith)
    ]

pub found_components : (g : List (List ℕ)) (s : State) → IsAll g s → AreComponents g (map number_at s.marks)
found_components g s a =
    let k = a.search in
    let number_is : (u : ℕ) → slice_index (map number_at s.marks) u ≡ number_at (mark_of s.marks u) = λ u. get_or-map number_at s.marks u Unseen in
    let closed : (u : ℕ) → u < length g → mark_of s.marks u ≡ Closed (number_at (mark_of s.marks u)) = λ u l. is_closed g s u (mark_of s.marks u) a l refl in
    record {
      each = length-map s.marks number_at ∙ k.marked;
      below = λ u l. let is = number_is u in let low = k.numbered u (number_at (mark_of s.marks u)) (closed u l) in let room = k.room in omega arith;
      same = λ u v l m. (
        (λ e.
            let both : number_at (mark_of s.marks u) ≡ number_at (mark_of s.marks v) = sym (number_is u) ∙ e ∙ number_is v in
            record {
              there = k.joined u v (number_at (mark_of s.marks v)) (closed u l ∙ ap Closed both) (closed v m);
              back = k.joined v u (number_at (mark_of s.marks v)) (closed v m) (closed u l ∙ ap Closed both);
            }),
        (λ c.
            let down = number_most (number_at (mark_of s.marks u)) (mark_of s.marks v) (descends_all g s c.there.edges u (number_at (mark_of s.marks u)) v k (closed u l) c.there.walk) in
            let up = number_most (number_at (mark_of s.marks v)) (mark_of s.marks u) (descends_all g s c.back.edges v (number_at (mark_of s.marks v)) u k (closed v m) c.back.walk) in
            number_is u ∙ omega arith ∙ sym (number_is v)),
      );
      order = λ u v edge.
          let from = number_is u in
          let to = number_is v in
          let down = number_most (number_at (mark_of s.marks u)) (mark_of s.marks v) (k.descends u (number_at (mark_of s.marks u)) v (closed u (edge_within g u v edge)) edge) in
          omega arith;
    }
