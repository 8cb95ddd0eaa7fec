-- Lists to which elements are put, one by one.
use Rattle.std.proofs.Common.{◌≡◌, ℕ, ◌+◌, ◌<◌, List, [], ◌∷◌, ◌++◌, get_or, length, slice_get, Some, IfSome, sym, arith, length-append}
use Rattle.std.proofs.lemmas.Option.{slice_get-get_or}
use Rattle.std.proofs.lemmas.List.{get_or_append_left}
use Rattle.std.proofs.Math.Seq.{get_or-append_seam}
use borrow.Author.Count.{below_more}

-- what holds of each element holds with one more
pub put_more : {A : Type 0} (P : ℕ → A → Type 0) (xs : List A) (x other : A) (count : ℕ) → length xs ≡ count → ((k : ℕ) → k < count → P k (get_or xs k other)) → P count x →
    (k : ℕ) → k < count + 1 → P k (get_or (xs ++ x ∷ []) k other)
put_more P xs x other count all below here =
    let last : get_or (xs ++ x ∷ []) count other ≡ x = rw (sym all) (get_or-append_seam xs x [] other) in
    below_more (λ k. P k (get_or (xs ++ x ∷ []) k other)) count
    (λ k before. rw (get_or_append_left xs (x ∷ []) other k (omega arith)) (below k before))
    (rw last here)

pub put_more_there : {A : Type 0} (P : ℕ → A → Type 0) (xs : List A) (x : A) (count : ℕ) → length xs ≡ count → ((k : ℕ) → k < count → IfSome (slice_get xs k) (P k)) → P count x →
    (k : ℕ) → k < count + 1 → IfSome (slice_get (xs ++ x ∷ []) k) (P k)
put_more_there P xs x count all below here k before =
    let found : slice_get (xs ++ x ∷ []) k ≡ Some (get_or (xs ++ x ∷ []) k x) = slice_get-get_or (xs ++ x ∷ []) k x (simp length-append (omega arith)) in
    rw found (put_more P xs x x count all (λ k within. rw (slice_get-get_or xs k x (omega arith)) at (below k within)) here k before)
