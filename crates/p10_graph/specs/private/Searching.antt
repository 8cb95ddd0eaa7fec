-- What the search for components keeps true at each of its steps. No public contract cites this file.
use Rattle.std.specs.Prelude.{◌≡◌, ℕ, ◌+◌, ◌-◌, ◌*◌, ◌^◌, ◌<◌, ◌≤◌, Bool, true, false, List, [], ◌∷◌, Some, length, count_by, cond, drop, map, nat_le, slice_get, slice_index_or, slice_set, reverse, take, ◌++◌}
use Rattle.p10_graph.specs.declared.search.Mark.{Mark}
use Rattle.p10_graph.specs.declared.search.Mark.TheVariants.{Unseen, Open, Closed}
use Rattle.p10_graph.specs.declared.search.Search.{Search}
use Rattle.p10_graph.specs.Graphs.{Edge, Reaches}

-- the nodes to which the edges of u lead
abbrev pub row_of : List (List ℕ) → ℕ → List ℕ
row_of g u = slice_index_or g u []

-- the mark of u; what is no node wasn't seen
abbrev pub mark_of : List Mark → ℕ → Mark
mark_of marks u = slice_index_or marks u Unseen

-- how many edges of u are done
abbrev pub done_of : List ℕ → ℕ → ℕ
done_of done u = slice_index_or done u 0

-- one of the edges of u that are done leads to v
abbrev pub IsDone : List (List ℕ) → List ℕ → ℕ → ℕ → Type 0
IsDone g done u v = (k : ℕ) × (k < done_of done u) × (k < length (row_of g u)) × (slice_index_or (row_of g u) k v ≡ v)

-- every edge of the node at a place is done
abbrev pub IsFinished : List (List ℕ) → List ℕ → List ℕ → ℕ → Type 0
IsFinished g done nodes place = (u : ℕ) → slice_get nodes place ≡ Some u → length (row_of g u) ≤ done_of done u

-- ## Stacks of places: the last one first

-- a list whose last element is the top
unfoldable pub stack_of : List ℕ → List ℕ
stack_of items = reverse items

-- The places below n are cut into groups, which begin at these places, the last one first; the first group begins at 0.
abbrev pub Begin : List ℕ → ℕ → Type 0
Begin [] n = n ≡ 0
Begin (start ∷ groups) n = (start < n) × Begin groups start

-- the group of p doesn't stand after that of q: each group that begins at or before p begins at or before q
abbrev pub IsUpTo : List ℕ → ℕ → ℕ → Type 0
IsUpTo [] p q = Unit {0}
IsUpTo (start ∷ groups) p q = (start ≤ p → start ≤ q) × IsUpTo groups p q

-- of the places below n, all are finished but some of these, which descend
abbrev pub AllFinishedBut : (ℕ → Type 0) → List ℕ → ℕ → Type 0
AllFinishedBut finished [] n = (place : ℕ) → place < n → finished place
AllFinishedBut finished (top ∷ rest) n = (top < n) × ((place : ℕ) → top < place → place < n → finished place) × AllFinishedBut finished rest top

-- ## Marks

-- whether a node wasn't seen
abbrev pub is_unseen : Mark → Bool
is_unseen Unseen = true
is_unseen (Open place) = false
is_unseen (Closed number) = false

-- the number of a closed node's component
abbrev pub number_at : Mark → ℕ
number_at Unseen = 0
number_at (Open place) = 0
number_at (Closed number) = number

-- where an edge that is done may lead, from the open node at a place: to a closed node, or to one of its own group
abbrev pub Settles : List ℕ → ℕ → Mark → Type 0
Settles groups place Unseen = ⊥
Settles groups place (Open end) = IsUpTo groups place end × IsUpTo groups end place
Settles groups place (Closed number) = Unit {0}

-- closed with a number that isn't greater
abbrev pub IsClosedUpTo : ℕ → Mark → Type 0
IsClosedUpTo number Unseen = ⊥
IsClosedUpTo number (Open place) = ⊥
IsClosedUpTo number (Closed other) = other ≤ number

-- each node with the mark of a place stands there, and the other way round
pub record Agree (marks : List Mark) (nodes : List ℕ) : Type 0 where
  pub placed : (place u : ℕ) → slice_get nodes place ≡ Some u → mark_of marks u ≡ Open place
  pub stands : (u place : ℕ) → mark_of marks u ≡ Open place → slice_get nodes place ≡ Some u

-- ## The search

-- The state of the search. The open nodes stand in `open_nodes`, each at the place in its mark; `groups` and
-- `unfinished` are stacks.
pub record State : Type 0 where
  pub marks : List Mark
  pub done : List ℕ
  pub open_nodes : List ℕ
  pub groups : List ℕ
  pub unfinished : List ℕ
  pub closed : ℕ
  pub covered : ℕ

-- the state as the code keeps it
abbrev pub state_of : Search → State
state_of s = record {
  marks = s.marks.items;
  done = s.done.items;
  open_nodes = s.open_nodes.items;
  groups = stack_of s.groups.items;
  unfinished = stack_of s.unfinished.items;
  closed = s.closed;
  covered = s.covered;
}

-- what holds of the state between steps
pub record IsSearch (g : List (List ℕ)) (s : State) : Type 0 where
  pub few : length g < 2 ^ 32
  pub marked : length s.marks ≡ length g
  pub counted : length s.done ≡ length g
  -- places and marks agree
  pub placed : (place u : ℕ) → slice_get s.open_nodes place ≡ Some u → mark_of s.marks u ≡ Open place
  pub stands : (u place : ℕ) → mark_of s.marks u ≡ Open place → slice_get s.open_nodes place ≡ Some u
  -- no edge of an unseen node is done
  pub fresh : (u : ℕ) → mark_of s.marks u ≡ Unseen → done_of s.done u ≡ 0
  -- an open node reaches those of its own group and of the groups after it
  pub reaches : (p q u v : ℕ) → slice_get s.open_nodes p ≡ Some u → slice_get s.open_nodes q ≡ Some v → IsUpTo s.groups p q → Reaches g u v
  -- where the edges of open nodes lead that are done
  pub settles : (u place v : ℕ) → mark_of s.marks u ≡ Open place → IsDone g s.done u v → Settles s.groups place (mark_of s.marks v)
  -- closed nodes: where their edges lead, and that those of one number reach each other
  pub descends : (u number v : ℕ) → mark_of s.marks u ≡ Closed number → Edge g u v → IsClosedUpTo number (mark_of s.marks v)
  pub joined : (u v number : ℕ) → mark_of s.marks u ≡ Closed number → mark_of s.marks v ≡ Closed number → Reaches g u v
  pub numbered : (u number : ℕ) → mark_of s.marks u ≡ Closed number → number < s.closed
  -- the stacks
  pub begins : Begin s.groups (length s.open_nodes)
  pub waits : AllFinishedBut (IsFinished g s.done s.open_nodes) s.unfinished (length s.open_nodes)
  -- every node below `covered` was seen
  pub seen : (u : ℕ) → u < s.covered → mark_of s.marks u ≡ Unseen → ⊥
  -- each component has a node
  pub room : count_by is_unseen s.marks + (length s.open_nodes + s.closed) ≤ length g

-- ## The steps

-- an unseen node is opened, as a group of its own
abbrev pub visited : State → ℕ → State
visited s node = record s {
  marks = slice_set s.marks node (Open (length s.open_nodes));
  open_nodes = s.open_nodes ++ node ∷ [];
  groups = length s.open_nodes ∷ s.groups;
  unfinished = length s.open_nodes ∷ s.unfinished;
}

-- the last unfinished node is finished
abbrev pub finished : State → State
finished s = record s { unfinished = drop 1 s.unfinished }

-- the last two groups are made one
abbrev pub merged : State → State
merged s = record s { groups = drop 1 s.groups }

-- the next edge of a node is done
abbrev pub settled : State → ℕ → State
settled s node = record s { done = slice_set s.done node (done_of s.done node + 1) }

-- the mark of a node once the group that begins at a place is a component of this number
abbrev pub closing : ℕ → ℕ → Mark → Mark
closing start number Unseen = Unseen
closing start number (Open place) = cond (nat_le start place) (Closed number) (Open place)
closing start number (Closed other) = Closed other

-- the last group, which begins at a place, is made a component
abbrev pub with_component : State → ℕ → State
with_component s start = record s {
  marks = map (closing start s.closed) s.marks;
  open_nodes = take start s.open_nodes;
  groups = drop 1 s.groups;
  closed = s.closed + 1;
}

-- the next node is opened, if it wasn't seen
abbrev pub opened : State → State
opened s = let t : State = cond (is_unseen (mark_of s.marks s.covered)) (visited s s.covered) s in record t { covered = s.covered + 1 }

-- ## The work that is left

-- how many edges aren't done
abbrev pub undone : List (List ℕ) → List ℕ → ℕ
undone [] done = 0
undone (row ∷ rows) [] = 0
undone (row ∷ rows) (n ∷ done) = (length row - n) + undone rows done

-- an unseen node has yet to be seen, to begin a group, and to be finished
abbrev pub work : List (List ℕ) → State → ℕ
work g s = (3 * count_by is_unseen s.marks + undone g s.done) + (length s.groups + length s.unfinished)

-- a step keeps what holds, and leaves less work
pub record IsStep (g : List (List ℕ)) (old new : State) : Type 0 where
  pub keeps : IsSearch g new
  pub less : work g new < work g old
  pub covered : new.covered ≡ old.covered
