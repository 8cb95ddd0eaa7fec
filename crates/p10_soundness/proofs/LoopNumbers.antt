-- The loops of a function in text order: their heads, their numbers, and what is claimed of them where claims fit.
use Rattle.std.proofs.Common.{◌≡◌, ℕ, zero, suc, ◌+◌, ◌<◌, ◌≤◌, Bool, true, false, List, [], ◌∷◌, ◌++◌, map, refl, sym, ◌∙◌, ap, subst, arith, Option, Some, slice_get}
use Rattle.std.specs.Prelude.{nat_eq, ◌&&◌}
use Rattle.std.specs.List.{All, list_all}
use Rattle.std.proofs.lemmas.Option.{same_Some}
use Rattle.std.proofs.lemmas.List.{map-append}
use Rattle.std.proofs.lemmas.List.Elements.{All-nil, All-cons, All-head, All-tail}
use Rattle.p10_core.specs.declared.statements.LoopHead.{LoopHead}
use Rattle.p10_core.specs.Typed.{PlainStatement, statement, block, if_then, if_else, loop, switch, PlainStatements, no_statements, more_statements, PlainFunction}
use Rattle.p10_core.specs.WholePrograms.{numbers_from, loops_in, loops_of}
use Rattle.p10_cert.specs.declared.claims.Rank.{Rank}
use Rattle.p10_cert.specs.declared.claims.Rank.TheVariants.{Up, Down, One, Task}
use Rattle.p10_cert.specs.Claims.{Loop}
use Rattle.p10_pass.specs.Claiming.{loop_claimed}
use Rattle.p10_evaluation.proofs.Operating.{both_true}
use Rattle.p10_execution.specs.Bounding.{LoopTree, loop_trees, trees_among, is_task}
use Rattle.p10_fit.specs.Sites.{LoopSite, in_scope_after, loop_sites_in, loop_sites_of}
use Rattle.p10_fit.specs.Fits.{fits_rank, fits_variable, is_task as is_number_of_task, fits_loop, fits_loops}

-- ## Lists

pub all_left : {A : Type 0} (P : A → Type 0) (xs ys : List A) → All P (xs ++ ys) → All P xs
all_left P [] ys h = All-nil P
all_left P (x ∷ xs) ys h = All-cons P x xs (All-head P x (xs ++ ys) h) (all_left P xs ys (All-tail P x (xs ++ ys) h))

pub all_right : {A : Type 0} (P : A → Type 0) (xs ys : List A) → All P (xs ++ ys) → All P ys
all_right P [] ys h = h
all_right P (x ∷ xs) ys h = all_right P xs ys (All-tail P x (xs ++ ys) h)

pub all_both : {A : Type 0} (P Q R : A → Type 0) (xs : List A) → ((x : A) → P x → Q x → R x) → All P xs → All Q xs → All R xs
all_both P Q R [] f h k = All-nil R
all_both P Q R (x ∷ xs) f h k = All-cons R x xs (f x (All-head P x xs h) (All-head Q x xs k)) (all_both P Q R xs f (All-tail P x xs h) (All-tail Q x xs k))

pub all_before_map : {A B : Type 0} (f : A → B) (P : B → Type 0) (xs : List A) → All P (map f xs) → All (λ x. P (f x)) xs
all_before_map f P [] h = All-nil (λ x. P (f x))
all_before_map f P (x ∷ xs) h = All-cons (λ x. P (f x)) x xs (All-head P (f x) (map f xs) h) (all_before_map f P xs (All-tail P (f x) (map f xs) h))

-- ## Heads

abbrev pub head_of_tree : LoopTree → LoopHead
head_of_tree t = t.head

abbrev pub head_of_site : LoopSite → LoopHead
head_of_site s = s.head

mutual
  pub tree_heads : (x : PlainStatement) → map head_of_tree (loop_trees x) ≡ loops_in x
  tree_heads (statement at (block xs)) = trees_heads xs
  tree_heads (statement at (if_then v x)) = tree_heads x
  tree_heads (statement at (if_else v x z)) = map-append head_of_tree (loop_trees x) (loop_trees z) ∙ (ap (λ hs. hs ++ map head_of_tree (loop_trees z)) (tree_heads x) ∙ ap (λ hs. loops_in x ++ hs) (tree_heads z))
  tree_heads (statement at (loop head first tested third body)) = ap (λ hs. head ∷ hs) (tree_heads body)
  tree_heads (statement at (switch keyword v labels body)) = tree_heads body
  tree_heads (statement at form) = refl

  pub trees_heads : (xs : PlainStatements) → map head_of_tree (trees_among xs) ≡ loops_of xs
  trees_heads no_statements = refl
  trees_heads (more_statements x rest) =
      map-append head_of_tree (loop_trees x) (trees_among rest) ∙ (ap (λ hs. hs ++ map head_of_tree (trees_among rest)) (tree_heads x) ∙ ap (λ hs. loops_in x ++ hs) (trees_heads rest))

mutual
  site_heads : (d : ℕ) (scope : List ℕ) (x : PlainStatement) → map head_of_site (loop_sites_in d scope x) ≡ loops_in x
  site_heads d scope (statement at (block xs)) = sites_heads d scope xs
  site_heads d scope (statement at (if_then v x)) = site_heads d scope x
  site_heads d scope (statement at (if_else v x z)) =
      map-append head_of_site (loop_sites_in d scope x) (loop_sites_in d scope z) ∙ (ap (λ hs. hs ++ map head_of_site (loop_sites_in d scope z)) (site_heads d scope x) ∙ ap (λ hs. loops_in x ++ hs) (site_heads d scope z))
  site_heads d scope (statement at (loop head first tested third body)) = ap (λ hs. head ∷ hs) (site_heads (d + 1) _ body)
  site_heads d scope (statement at (switch keyword v labels body)) = site_heads d scope body
  site_heads d scope (statement at form) = refl

  pub sites_heads : (d : ℕ) (scope : List ℕ) (xs : PlainStatements) → map head_of_site (loop_sites_of d scope xs) ≡ loops_of xs
  sites_heads d scope no_statements = refl
  sites_heads d scope (more_statements x rest) =
      map-append head_of_site (loop_sites_in d scope x) (loop_sites_of d (in_scope_after scope x) rest) ∙ (ap (λ hs. hs ++ map head_of_site (loop_sites_of d (in_scope_after scope x) rest)) (site_heads d scope x) ∙ ap (λ hs. loops_in x ++ hs) (sites_heads d (in_scope_after scope x) rest))

-- ## Numbers

-- heads have the numbers from one on
abbrev pub Numbered : ℕ → List LoopHead → Type 0
Numbered k [] = Unit {0}
Numbered k (h ∷ hs) = (h.number ≡ k) × Numbered (k + 1) hs

abbrev number_of_head : LoopHead → ℕ
number_of_head h = h.number

pub numbered_is : (hs : List LoopHead) (k count : ℕ) → map (λ (h : LoopHead). h.number) hs ≡ numbers_from k count → Numbered k hs
numbered_is [] k count e = tt
numbered_is (h ∷ hs) k zero e = absurd cc
numbered_is (h ∷ hs) k (suc count) e = (same_Some _ _ (ap (λ ns. slice_get ns 0) e), numbered_is hs (k + 1) count (ap tail e))
  where
    tail : List ℕ → List ℕ
    tail [] = []
    tail (n ∷ ns) = ns

at_least : (hs : List LoopHead) (j k : ℕ) → j ≤ k → Numbered k hs → All (λ (h : LoopHead). j ≤ h.number) hs
at_least [] j k l h = All-nil (λ (h : LoopHead). j ≤ h.number)
at_least (x ∷ hs) j k l h = All-cons (λ (h : LoopHead). j ≤ h.number) x hs (subst (λ n. j ≤ n) (sym h.0) l) (at_least hs j (k + 1) (omega (arith, l)) h.1)

-- the heads before one have lower numbers, and those after it have greater ones
pub record StandsBetween (before after : List LoopHead) (h : LoopHead) (k : ℕ) : Type 0 where
  pub from : k ≤ h.number
  pub lower : All (λ (x : LoopHead). x.number < h.number) before
  pub greater : All (λ (x : LoopHead). h.number < x.number) after

pub stands_between : (before after : List LoopHead) (h : LoopHead) (k : ℕ) → Numbered k (before ++ (h ∷ after)) → StandsBetween before after h k
stands_between [] after h k n = record {
  from = subst (λ j. k ≤ j) (sym n.0) (omega arith);
  lower = All-nil (λ (x : LoopHead). x.number < h.number);
  greater = at_least after (suc h.number) (k + 1) (subst (λ j. suc j ≤ k + 1) (sym n.0) (omega arith)) n.1;
}
stands_between (x ∷ before) after h k n =
    let r : StandsBetween before after h (k + 1) = stands_between before after h (k + 1) n.1 in
    let e : x.number ≡ k = n.0 in
    let f : k + 1 ≤ h.number = r.from in
    record {
      from = omega (arith, f);
      lower = All-cons (λ (x : LoopHead). x.number < h.number) x before (omega (arith, e, f)) r.lower;
      greater = r.greater;
    }

-- ## Claims that fit

-- a loop whose number isn't that of the task isn't claimed to be the task
abbrev pub IsRanked : Option ℕ → List Loop → LoopHead → Type 0
IsRanked task loops h = is_number_of_task task h.number ≡ false → is_task (loop_claimed loops h.number).rank ≡ false

rank_fits : (f : PlainFunction) (scope : List ℕ) (task : Bool) (rank : Rank) → fits_rank f scope task rank ≡ true → task ≡ false → is_task rank ≡ false
rank_fits f scope task (Up n bound) e q = refl
rank_fits f scope task (Down n bound) e q = refl
rank_fits f scope task One e q = refl
rank_fits f scope task Task e q = absurd cc

claimed_here : (loops : List Loop) (n : ℕ) (claim : Loop) → slice_get loops n ≡ Some claim → is_task claim.rank ≡ false → is_task (loop_claimed loops n).rank ≡ false
claimed_here loops n claim e q = search (e, q)

loop_fits : (f : PlainFunction) (task : Option ℕ) (site : LoopSite) (claim : Loop) → fits_loop f task site claim ≡ true → is_number_of_task task site.head.number ≡ false → is_task claim.rank ≡ false
loop_fits f task site claim e q =
    let both = both_true (nat_eq claim.depth site.depth) (fits_rank f site.scope (is_number_of_task task site.head.number) claim.rank && list_all (fits_variable f site.scope) claim.vars) e in
    rank_fits f site.scope (is_number_of_task task site.head.number) claim.rank (both_true (fits_rank f site.scope (is_number_of_task task site.head.number) claim.rank) (list_all (fits_variable f site.scope) claim.vars) both.1).0 q

ranked_from : (f : PlainFunction) (task : Option ℕ) (all : List Loop) (sites : List LoopSite) (claims : List Loop) (k : ℕ) → fits_loops f task sites claims ≡ true → Numbered k (map head_of_site sites) → ((j : ℕ) → slice_get all (k + j) ≡ slice_get claims j) →
    All (IsRanked task all) (map head_of_site sites)
ranked_from f task all [] claims k e n at = All-nil (IsRanked task all)
ranked_from f task all (site ∷ sites) [] k e n at = absurd cc
ranked_from f task all (site ∷ sites) (claim ∷ claims) k e n at =
    let both = both_true (fits_loop f task site claim) (fits_loops f task sites claims) e in
    All-cons (IsRanked task all) site.head (map head_of_site sites)
    (λ q. claimed_here all site.head.number claim (ap (slice_get all) (n.0 ∙ first k) ∙ at 0) (loop_fits f task site claim both.0 q))
    (ranked_from f task all sites claims (k + 1) both.1 n.1 (λ j. ap (slice_get all) (next k j) ∙ at (suc j)))
  where
    first : (k : ℕ) → k ≡ k + 0
    first k = omega arith

    next : (k j : ℕ) → (k + 1) + j ≡ k + suc j
    next k j = omega arith

-- the loops of a function whose claims fit
pub loops_ranked : (f : PlainFunction) (task : Option ℕ) (loops : List Loop) (d : ℕ) (scope : List ℕ) (xs : PlainStatements) (count : ℕ) → fits_loops f task (loop_sites_of d scope xs) loops ≡ true →
    map (λ (h : LoopHead). h.number) (loops_of xs) ≡ numbers_from 0 count → All (IsRanked task loops) (loops_of xs)
loops_ranked f task loops d scope xs count e n =
    subst (λ hs. All (IsRanked task loops) hs) (sites_heads d scope xs)
    (ranked_from f task loops (loop_sites_of d scope xs) loops 0 e (subst (λ hs. Numbered 0 hs) (sym (sites_heads d scope xs)) (numbered_is (loops_of xs) 0 count n)) (λ j. ap (slice_get loops) (first j)))
  where
    first : (j : ℕ) → 0 + j ≡ j
    first j = omega arith
