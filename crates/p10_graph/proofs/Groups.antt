-- Groups of places, and places that are finished, all but some.
use Rattle.std.proofs.Common.{◌≡◌, ℕ, ◌<◌, ◌≤◌, ◌⊎◌, inl, inr, List, [], ◌∷◌, length, drop, Some, None, slice_get, refl, sym, ◌∙◌, subst, arith}
use Rattle.std.proofs.lemmas.Bool.{cases_lt, cases_order}
use Rattle.std.proofs.lemmas.Option.{none-some, same_Some}
use Rattle.p10_graph.specs.private.Searching.{AllFinishedBut, Begin, IsUpTo}

-- ## Groups

-- no group begins after the last place
up_to_past : (groups : List ℕ) (n p q : ℕ) → Begin groups n → n ≤ q → IsUpTo groups p q
up_to_past [] n p q b l = tt
up_to_past (start ∷ groups) n p q b l = ((λ _. omega arith), up_to_past groups start p q b.1 (omega arith))

-- every group is up to the last one
pub up_to_last : (groups : List ℕ) (n start p q : ℕ) → Begin groups n → slice_get groups 0 ≡ Some start → start ≤ q → IsUpTo groups p q
up_to_last [] n start p q b e l = absurd (none-some start e)
up_to_last (first ∷ groups) n start p q b e l =
    let same = same_Some first start e in ((λ _. omega arith), up_to_past groups first p q b.1 (omega arith))

-- two groups that are made one: what is up to another stays so
pub up_to_fewer : (groups : List ℕ) (p q : ℕ) → IsUpTo groups p q → IsUpTo (drop 1 groups) p q
up_to_fewer [] p q h = tt
up_to_fewer (start ∷ groups) p q h = h.1

-- what is up to another at places before the last group is so with it, too
pub up_to_more : (groups : List ℕ) (start p q : ℕ) → slice_get groups 0 ≡ Some start → p < start → IsUpTo (drop 1 groups) p q → IsUpTo groups p q
up_to_more [] start p q e l h = tt
up_to_more (first ∷ groups) start p q e l h = let same = same_Some first start e in ((λ early. absurd (omega arith)), h)

-- a place that is up to one before the last group lies before the last group, too
pub up_to_before : (groups : List ℕ) (start p q : ℕ) → slice_get groups 0 ≡ Some start → IsUpTo groups p q → start ≤ p → start ≤ q
up_to_before [] start p q e h l = absurd (none-some start e)
up_to_before (first ∷ groups) start p q e h l =
    let same = same_Some first start e in let below = h.0 (omega arith) in omega arith

-- the last group begins at one of the places
pub begin_within : (groups : List ℕ) (start n : ℕ) → Begin groups n → slice_get groups 0 ≡ Some start → start < n
begin_within [] start n b e = absurd (none-some start e)
begin_within (first ∷ groups) start n b e = let same = same_Some first start e in let low = b.0 in omega arith

-- without the last group the places are those before it
pub begin_before : (groups : List ℕ) (start n : ℕ) → Begin groups n → slice_get groups 0 ≡ Some start → Begin (drop 1 groups) start
begin_before [] start n b e = absurd (none-some start e)
begin_before (first ∷ groups) start n b e = subst (Begin groups) (same_Some first start e) b.1

-- without groups there are no places
pub none_open : (groups nodes : List ℕ) → Begin groups (length nodes) → slice_get groups 0 ≡ None → nodes ≡ []
none_open [] [] b e = refl
none_open [] (node ∷ nodes) b e = absurd (omega arith)
none_open (start ∷ groups) nodes b e = absurd (none-some start (sym e))

-- the last group is made one with the group before, which is there since a place lies before the last group
pub begin_merged : (groups : List ℕ) (start n place : ℕ) → Begin groups n → slice_get groups 0 ≡ Some start → place < start → Begin (drop 1 groups) n
begin_merged [] start n place b e l = absurd (none-some start e)
begin_merged (first ∷ []) start n place b e l = let same = same_Some first start e in let zero_first = b.1 in absurd (omega arith)
begin_merged (first ∷ second ∷ groups) start n place b e l = let low = b.0 in let lower = b.1.0 in (omega arith, b.1.1)

-- what is up to a place is so from an earlier place
up_to_lower : (groups : List ℕ) (at p q : ℕ) → at ≤ p → IsUpTo groups p q → IsUpTo groups at q
up_to_lower [] at p q l h = tt
up_to_lower (start ∷ groups) at p q l h = ((λ early. h.0 (omega arith)), up_to_lower groups at p q l h.1)

-- Where q's group isn't before p's once the last group is made one with the group before, either it wasn't so before, or
-- it isn't before the group of a place from which the last group is made one.
pub up_to_merged : (groups : List ℕ) (start p q at : ℕ) → slice_get groups 0 ≡ Some start → at < start → IsUpTo (drop 1 groups) p q → IsUpTo groups p q ⊎ IsUpTo groups at q
up_to_merged [] start p q at e l h = inl tt
up_to_merged (first ∷ groups) start p q at e l h =
    let same = same_Some first start e in
    elim (cases_lt p first) [
      | inl low ↦ inl ((λ early. absurd (omega arith)), h)
      | inr high ↦ inr ((λ early. absurd (omega arith)), up_to_lower groups at p q (omega arith) h)
    ]

-- ## Finished places

pub finished_as : (F G : ℕ → Type 0) (stack : List ℕ) (n : ℕ) → ((p : ℕ) → p < n → F p → G p) → AllFinishedBut F stack n → AllFinishedBut G stack n
finished_as F G [] n f h = λ p l. f p l (h p l)
finished_as F G (top ∷ rest) n f h =
    let low = h.0 in (low, (λ p m l. f p l (h.1 p m l)), finished_as F G rest top (λ p l. f p (omega arith)) h.2)

-- one more is finished: the last one
pub finished_more : (F : ℕ → Type 0) (stack : List ℕ) (n top : ℕ) → slice_get stack 0 ≡ Some top → F top → AllFinishedBut F stack n → AllFinishedBut F (drop 1 stack) n
finished_more F [] n top e f h = absurd (none-some top e)
finished_more F (first ∷ []) n top e f h = λ p l.
    elim (cases_order p first) [
      | inl same ↦ subst F (sym (same ∙ same_Some first top e)) f
      | inr apart ↦ elim apart [ inl low ↦ h.2 p low | inr high ↦ h.1 p high l ]
    ]
finished_more F (first ∷ second ∷ rest) n top e f h = (
  let low = h.0 in let lower = h.2.0 in omega arith,
  (λ p m l.
      elim (cases_order p first) [
        | inl same ↦ subst F (sym (same ∙ same_Some first top e)) f
        | inr apart ↦ elim apart [ inl low ↦ h.2.1 p m low | inr high ↦ h.1 p high l ]
      ]),
  h.2.2,
)

-- every place from one on that lies after the last unfinished one is finished
pub finished_from : (F : ℕ → Type 0) (stack : List ℕ) (n start : ℕ) → ((top : ℕ) → slice_get stack 0 ≡ Some top → top < start) → AllFinishedBut F stack n → (p : ℕ) → start ≤ p → p < n → F p
finished_from F [] n start below h p m l = h p l
finished_from F (top ∷ rest) n start below h p m l = let low = below top refl in h.1 p (omega arith) l

-- and of the places before it all but the unfinished ones are finished
pub finished_before : (F : ℕ → Type 0) (stack : List ℕ) (n start : ℕ) → ((top : ℕ) → slice_get stack 0 ≡ Some top → top < start) → start ≤ n → AllFinishedBut F stack n → AllFinishedBut F stack start
finished_before F [] n start below m h = λ p l. h p (omega arith)
finished_before F (top ∷ rest) n start below m h = (below top refl, (λ p k l. h.1 p k (omega arith)), h.2)

-- the last unfinished place is one of the places
pub unfinished_within : (F : ℕ → Type 0) (stack : List ℕ) (n top : ℕ) → AllFinishedBut F stack n → slice_get stack 0 ≡ Some top → top < n
unfinished_within F [] n top h e = absurd (none-some top e)
unfinished_within F (first ∷ rest) n top h e = let same = same_Some first top e in let low = h.0 in omega arith
