-- The nodes of the last group are closed one after the other.
use Rattle.std.proofs.Common.{◌≡◌, ℕ, ◌+◌, ◌-◌, ◌<◌, ◌≤◌, inl, inr, List, [], ◌∷◌, length, map, set, get_or, ext_get_or, cond, ltb, le-ltb, lt-ltb, Bool, Some, slice_get, refl, sym, ap, ap₂, ◌∙◌, arith, take, drop, length-set, length-drop, length-take-le, get_or-take, get_or-drop}
use Rattle.std.proofs.lemmas.Bool.{cases_eq, cases_lt, cases_order}
use Rattle.std.proofs.lemmas.List.{length-map}
use Rattle.std.proofs.lemmas.Option.{same_Some, slice_get-get_or, slice_get_within}
use Rattle.std.proofs.Math.ListN.{get_or-map}
use Rattle.p10_graph.specs.declared.search.Mark.{Mark}
use Rattle.p10_graph.specs.declared.search.Mark.TheVariants.{Unseen, Open, Closed}
use Rattle.p10_graph.specs.private.Searching.{Agree, closing, mark_of}
use Rattle.p10_graph.proofs.Marks.{mark-set_other, mark-set_same, open_within}
use Rattle.p10_graph.proofs.Closing.{closing-before, closing-from}

-- the mark of a node once those of the group that stand below `stop` are closed
abbrev pub closing_to : ℕ → ℕ → ℕ → Mark → Mark
closing_to start stop number Unseen = Unseen
closing_to start stop number (Open place) = cond (ltb place stop) (closing start number (Open place)) (Open place)
closing_to start stop number (Closed other) = Closed other

below_stop : (start stop number place : ℕ) → place < stop → closing_to start stop number (Open place) ≡ closing start number (Open place)
below_stop start stop number place l = ap (λ (b : Bool). cond b (closing start number (Open place)) (Open place)) (lt-ltb place stop l)

from_stop : (start stop number place : ℕ) → stop ≤ place → closing_to start stop number (Open place) ≡ Open place
from_stop start stop number place l = ap (λ (b : Bool). cond b (closing start number (Open place)) (Open place)) (le-ltb place stop l)

-- ## None is closed yet

keeps_mark : (start number : ℕ) (m : Mark) → closing_to start start number m ≡ m
keeps_mark start number Unseen = refl
keeps_mark start number (Open place) =
    elim (cases_lt place start) [ inl low ↦ below_stop start start number place low ∙ closing-before start number place low | inr high ↦ from_stop start start number place high ]
keeps_mark start number (Closed other) = refl

pub closing_none : (start number : ℕ) (marks : List Mark) → map (closing_to start start number) marks ≡ marks
closing_none start number [] = refl
closing_none start number (m ∷ marks) = ap₂ (λ (x : Mark) (xs : List Mark). x ∷ xs) (keeps_mark start number m) (closing_none start number marks)

-- ## One more is closed

same_mark : (start stop number : ℕ) (m : Mark) → (m ≡ Open stop → ⊥) → closing_to start stop number m ≡ closing_to start (stop + 1) number m
same_mark start stop number Unseen h = refl
same_mark start stop number (Open place) h =
    elim (cases_order place stop) [
      | inl same ↦ absurd (h (ap Open same))
      | inr apart ↦ elim apart [
        | inl low ↦ below_stop start stop number place low ∙ sym (below_stop start (stop + 1) number place (omega arith))
        | inr high ↦ from_stop start stop number place (omega arith) ∙ sym (from_stop start (stop + 1) number place (omega arith))
      ]
    ]
same_mark start stop number (Closed other) h = refl

mapped : (start stop number : ℕ) (marks : List Mark) (u : ℕ) → mark_of (map (closing_to start stop number) marks) u ≡ closing_to start stop number (mark_of marks u)
mapped start stop number marks u = get_or-map (closing_to start stop number) marks u Unseen

next_mark : (start stop number : ℕ) (marks : List Mark) (nodes : List ℕ) (u v : ℕ) → Agree marks nodes → start ≤ stop → slice_get nodes stop ≡ Some u → u < length marks
    → mark_of (set (map (closing_to start stop number) marks) u (Closed number)) v ≡ mark_of (map (closing_to start (stop + 1) number) marks) v
next_mark start stop number marks nodes u v agree l at within =
    elim (cases_eq v u) [
      | inl same ↦
          ap (mark_of (set (map (closing_to start stop number) marks) u (Closed number))) same
          ∙ mark-set_same (map (closing_to start stop number) marks) u (Closed number) (let long = length-map marks (closing_to start stop number) in omega arith)
          ∙ sym (closing-from start number stop l)
          ∙ sym (below_stop start (stop + 1) number stop (omega arith))
          ∙ ap (closing_to start (stop + 1) number) (sym (agree.placed stop u at))
          ∙ ap (λ (w : ℕ). closing_to start (stop + 1) number (mark_of marks w)) (sym same)
          ∙ sym (mapped start (stop + 1) number marks v)
      | inr differs ↦
          mark-set_other (map (closing_to start stop number) marks) u v (Closed number) differs
          ∙ mapped start stop number marks v
          ∙ same_mark start stop number (mark_of marks v) (λ e. differs (same_Some v u (sym (agree.stands v stop e) ∙ at)))
          ∙ sym (mapped start (stop + 1) number marks v)
    ]

pub closing_next : (start stop number : ℕ) (marks now : List Mark) (nodes : List ℕ) (u : ℕ) → Agree marks nodes → start ≤ stop → slice_get nodes stop ≡ Some u → u < length marks
    → now ≡ map (closing_to start stop number) marks → set now u (Closed number) ≡ map (closing_to start (stop + 1) number) marks
closing_next start stop number marks now nodes u agree l at within e =
    let old = length-map marks (closing_to start stop number) in
    let new = length-map marks (closing_to start (stop + 1) number) in
    let long = length-set (map (closing_to start stop number) marks) u (Closed number) in
    ap (λ (xs : List Mark). set xs u (Closed number)) e
    ∙ ext_get_or Unseen (set (map (closing_to start stop number) marks) u (Closed number)) (map (closing_to start (stop + 1) number) marks) (omega arith)
    (λ v _. next_mark start stop number marks nodes u v agree l at within)

-- ## The nodes from a place on

abbrev pub from_place : ℕ → List ℕ → List ℕ
from_place start nodes = take (length nodes - start) (drop start nodes)

pub length-from_place : (start : ℕ) (nodes : List ℕ) → length (from_place start nodes) ≡ length nodes - start
length-from_place start nodes = length-take-le (length nodes - start) (drop start nodes) (omega (arith, length-drop start nodes))

pub node_from : (start i : ℕ) (nodes : List ℕ) → i < length (from_place start nodes) → slice_get nodes (start + i) ≡ Some (get_or (from_place start nodes) i 0)
node_from start i nodes l =
    let long = length-from_place start nodes in
    slice_get-get_or nodes (start + i) 0 (omega arith)
    ∙ ap Some (sym (get_or-take (length nodes - start) (drop start nodes) i 0 (omega arith) ∙ get_or-drop start nodes i 0))

-- the nodes that are open are nodes
pub placed_within : (marks : List Mark) (nodes : List ℕ) (place u : ℕ) → Agree marks nodes → slice_get nodes place ≡ Some u → u < length marks
placed_within marks nodes place u agree at = open_within marks u place (agree.placed place u at)

-- ## All are closed

last_mark : (start stop number : ℕ) (m : Mark) → ((place : ℕ) → m ≡ Open place → place < stop) → closing_to start stop number m ≡ closing start number m
last_mark start stop number Unseen h = refl
last_mark start stop number (Open place) h = below_stop start stop number place (h place refl)
last_mark start stop number (Closed other) h = refl

closing_whole : (start number : ℕ) (marks : List Mark) (nodes : List ℕ) → Agree marks nodes → map (closing_to start (length nodes) number) marks ≡ map (closing start number) marks
closing_whole start number marks nodes agree =
    let old = length-map marks (closing_to start (length nodes) number) in
    let new = length-map marks (closing start number) in
    ext_get_or Unseen (map (closing_to start (length nodes) number) marks) (map (closing start number) marks) (omega arith)
    (λ v _. mapped start (length nodes) number marks v
    ∙ last_mark start (length nodes) number (mark_of marks v) (λ place e. slice_get_within nodes place v (agree.stands v place e))
    ∙ sym (get_or-map (closing start number) marks v Unseen))

pub closing_all : (start stop number : ℕ) (marks : List Mark) (nodes : List ℕ) → Agree marks nodes → stop ≡ length nodes → map (closing_to start stop number) marks ≡ map (closing start number) marks
closing_all start stop number marks nodes agree e = ap (λ (n : ℕ). map (closing_to start n number) marks) e ∙ closing_whole start number marks nodes agree
