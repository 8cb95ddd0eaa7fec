-- Marks of nodes: after one was set, and what edges that are done say of them.
use Rattle.std.proofs.Common.{◌≡◌, ℕ, ◌+◌, ◌<◌, inl, inr, List, length, set, get_or-set_same, get_or-set_other, sym, ap, ◌∙◌, add-zero, cond}
use Rattle.std.specs.List.{count_by}
use Rattle.std.proofs.lemmas.Bool.{cases_eq, cases_lt}
use Rattle.std.proofs.lemmas.List.{get_or_past}
use Rattle.std.proofs.lemmas.List.Sums.{sum_by-set}
use Rattle.p10_graph.specs.declared.search.Mark.{Mark}
use Rattle.p10_graph.specs.declared.search.Mark.TheVariants.{Unseen, Open, Closed}
use Rattle.p10_graph.specs.private.Searching.{is_unseen, mark_of}

pub mark-set_same : (marks : List Mark) (u : ℕ) (m : Mark) → u < length marks → mark_of (set marks u m) u ≡ m
mark-set_same marks u m l = get_or-set_same marks u m Unseen l

pub mark-set_other : (marks : List Mark) (u v : ℕ) (m : Mark) → (v ≡ u → ⊥) → mark_of (set marks u m) v ≡ mark_of marks v
mark-set_other marks u v m apart = get_or-set_other marks u v m Unseen apart

-- a node whose mark isn't the one that was set had its mark before
pub mark_before : (marks : List Mark) (u v : ℕ) (m other : Mark) → u < length marks → (m ≡ other → ⊥) → mark_of (set marks u m) v ≡ other → mark_of marks v ≡ other
mark_before marks u v m other l apart e =
    elim (cases_eq v u) [
      | inl same ↦ absurd (apart (sym (mark-set_same marks u m l) ∙ ap (mark_of (set marks u m)) (sym same) ∙ e))
      | inr differs ↦ sym (mark-set_other marks u v m differs) ∙ e
    ]

-- a node that had another mark before than the one that was set keeps it
pub mark_after : (marks : List Mark) (u v : ℕ) (m was other : Mark) → mark_of marks u ≡ was → (was ≡ other → ⊥) → mark_of marks v ≡ other → mark_of (set marks u m) v ≡ other
mark_after marks u v m was other e apart f =
    mark-set_other marks u v m (λ same. apart (sym e ∙ ap (mark_of marks) (sym same) ∙ f)) ∙ f

pub unseen-set : (marks : List Mark) (u place : ℕ) → u < length marks → mark_of marks u ≡ Unseen → count_by is_unseen (set marks u (Open place)) + 1 ≡ count_by is_unseen marks
unseen-set marks u place l e =
    let one_if : Mark → ℕ = λ m. cond (is_unseen m) 1 0 in
    ap (λ (n : ℕ). count_by is_unseen (set marks u (Open place)) + n) (sym (ap one_if e)) ∙ sum_by-set one_if marks u (Open place) Unseen l ∙ add-zero (count_by is_unseen marks)

-- ## Marks that differ

pub open_unseen : (place : ℕ) → Open place ≡ Unseen → ⊥
open_unseen place e = cc

pub closed_unseen : (number : ℕ) → Closed number ≡ Unseen → ⊥
closed_unseen number e = cc

-- an open node is a node
pub open_within : (marks : List Mark) (u place : ℕ) → mark_of marks u ≡ Open place → u < length marks
open_within marks u place e =
    elim (cases_lt u (length marks)) [ inl low ↦ low | inr high ↦ absurd (open_unseen place (sym e ∙ get_or_past marks u Unseen high)) ]
