-- The claimed steps and depths cover what functions cost, and the total covers `main` (K11, K12, K14).
use Rattle.std.proofs.Common.{◌≡◌, ℕ, zero, suc, ◌+◌, ◌<◌, ◌≤◌, min, length, Bool, true, false, not, List, [], ◌∷◌, ◌++◌, map, Option, Some, None, refl, ap, sym, ◌∙◌, subst, arith, eq-eqb}
use Rattle.std.specs.Prelude.{slice_get, if◌then◌else◌, leb, nat_le, nat_eq, ◌&&◌}
use Rattle.std.specs.Option.{option_map}
use Rattle.std.specs.List.{Contains, list_all}
use Rattle.std.proofs.lemmas.Option.{same_Some, none-some, slice_get-map}
use Rattle.std.proofs.lemmas.Bool.{and_parts}
use Rattle.std.proofs.lemmas.Bool.Decides.{nat_tests}
use Rattle.p10_base.specs.declared.report.TheConstants.Limit.{MOST_SUM}
use Rattle.p10_core.specs.declared.statements.LoopHead.{LoopHead}
use Rattle.p10_core.specs.Typed.{PlainStatement, statement, loop, PlainStatements, no_statements, more_statements, statements_list, PlainFunction, PlainProgram}
use Rattle.p10_core.specs.WholePrograms.{main_items, loops_in as heads_in, loops_of as heads_of, IsWholeProgram}
use Rattle.p10_calls.proofs.Lists.{here, there as later}
use Rattle.p10_cert.specs.declared.claims.Rank.{Rank}
use Rattle.p10_cert.specs.declared.claims.Rank.TheVariants.{Up, Down, One, Task}
use Rattle.p10_cert.specs.Claims.{Loop, Func, Claims}
use Rattle.p10_fit.specs.Sites.{LoopSite, loop_sites, loop_number, loop_number_at, task_loop_number}
use Rattle.p10_fit.specs.Fits.{is_task, fits_rank, fits_variable, fits_loop}
use Rattle.p10_sums.specs.declared.sum.FuncSum.{FuncSum}
use Rattle.p10_sums.specs.Counting.{steps_claimed, calls_claimed, bytes_claimed, turns_claimed, loops_claimed}
use Rattle.p10_sums.specs.Sums.{function_sum, sum_at, keeps_limit, sums_from, all_sums, HasPassing}
use Rattle.p10_turns.specs.Ranked.{is_ranked}
use Rattle.p10_check.specs.Places.{place_if, name_at}
use Rattle.p10_check.specs.Shapes.{head_in, head_at, task_head, turn_claimed, main_turn, bounds_main, low_total}
use Rattle.p10_check.specs.Sums.{covers_sum, sum_claimed, short_turn, short_steps, short_depths}
use Rattle.p10_candidates.specs.Trials.{counted}
use Rattle.p10_finder.specs.Functions.{loops_of, with_turn_steps}
use Rattle.p10_finder.specs.Answers.{AreClaims}
use Rattle.p10_acceptance.proofs.Walk.{Numbered}
use Rattle.p10_acceptance.proofs.Bodies.{numbered_from}
use Rattle.p10_acceptance.proofs.Results.{is_there, there_below, mapped_at, claim_there}
use Rattle.p10_acceptance.proofs.Sites.{SitesFit, all_sited}
use Rattle.p10_acceptance.proofs.Speaking.{sites_fit, loops_count, sites_count}
use Rattle.p10_approach.specs.Offers.{Offers, AreOffers}

-- ## Numbers up to the limit

covers_counted : (most s : ℕ) → leb s most ≡ true → (nat_le s (min s (most + 1)) && nat_le s most) ≡ true
covers_counted most s h = grind (arith, nat_tests, h)

covers : (s : ℕ) → leb s MOST_SUM ≡ true → covers_sum (counted s) s ≡ true
covers s h = covers_counted MOST_SUM s h

-- the sums of a function are among all
sums_have : (p : PlainProgram) (funcs : List Func) (k count n : ℕ) → n < count → Contains (sums_from p funcs k count) (sum_at p funcs (k + n))
sums_have p funcs k zero n h = absurd (omega (arith, h))
sums_have p funcs k (suc count) zero h = subst (λ (i : ℕ). Contains (sums_from p funcs k (suc count)) (sum_at p funcs i)) (plain k) (here (sum_at p funcs k) (sums_from p funcs (suc k) count))
  where
    plain : (k : ℕ) → k ≡ k + 0
    plain k = omega arith
sums_have p funcs k (suc count) (suc n) h = subst (λ (i : ℕ). Contains (sums_from p funcs k (suc count)) (sum_at p funcs i)) (moved k n) (later (sum_at p funcs k) (sums_from p funcs (suc k) count) (sum_at p funcs (suc k + n)) (sums_have p funcs (suc k) count n (omega (arith, h))))
  where
    moved : (k n : ℕ) → suc k + n ≡ k + suc n
    moved k n = omega arith

-- ## The loop at a place

kept_first : {A : Type 0} (xs ys : List A) (j : ℕ) (x : A) → slice_get xs j ≡ Some x → slice_get (xs ++ ys) j ≡ Some x
kept_first [] ys j x e = absurd (none-some _ e)
kept_first (y ∷ xs) ys zero x e = e
kept_first (y ∷ xs) ys (suc j) x e = kept_first xs ys j x e

kept_last : {A : Type 0} (xs ys : List A) (j : ℕ) (x : A) → slice_get ys j ≡ Some x → (k : ℕ) × (slice_get (xs ++ ys) k ≡ Some x)
kept_last [] ys j x e = (j, e)
kept_last (y ∷ xs) ys j x e = let k = kept_last xs ys j x e in (suc k.0, k.1)

item_head : (x : PlainStatement) (head : LoopHead) → head_in (Some x) ≡ Some head → slice_get (heads_in x) 0 ≡ Some head
item_head (statement at (loop h first test third body)) head e = e
item_head (statement at form) head e = absurd (none-some _ e)

-- a loop that is an item is one of the loops
head_there : (xs : PlainStatements) (t : ℕ) (head : LoopHead) → head_in (slice_get (statements_list xs) t) ≡ Some head → (k : ℕ) × (slice_get (heads_of xs) k ≡ Some head)
head_there no_statements t head e = absurd (none-some _ e)
head_there (more_statements x rest) zero head e = (0, kept_first (heads_in x) (heads_of rest) 0 head (item_head x head e))
head_there (more_statements x rest) (suc t) head e = let k = head_there rest t head e in kept_last (heads_in x) (heads_of rest) k.0 head k.1

number_there : (k j : ℕ) (hs : List LoopHead) (h : LoopHead) → Numbered k hs → slice_get hs j ≡ Some h → h.number ≡ k + j
number_there k j [] h n e = absurd (none-some _ e)
number_there k zero (x ∷ hs) h n e = let s : x ≡ h = same_Some _ _ e in let q = n.0 in let r : x.number ≡ h.number = ap (λ (y : LoopHead). y.number) s in omega (arith, q, r)
number_there k (suc j) (x ∷ hs) h n e = let q = number_there (suc k) j hs h n.1 e in omega (arith, q)

-- the claim at the place of a site speaks of it
site_at : (f : PlainFunction) (task : Option ℕ) (all : List Loop) (k j : ℕ) (sites : List LoopSite) (site : LoopSite) (l : Loop) → SitesFit f task all k sites → slice_get sites j ≡ Some site → slice_get all (k + j) ≡ Some l → fits_loop f task site l ≡ true
site_at f task all k j [] site l s e g = absurd (none-some _ e)
site_at f task all k zero (x ∷ sites) site l s e g =
    subst (λ (y : LoopSite). fits_loop f task y l ≡ true) (same_Some _ _ e) (s.0 l (subst (λ (i : ℕ). slice_get all i ≡ Some l) (plain k) g))
  where
    plain : (k : ℕ) → k + 0 ≡ k
    plain k = omega arith
site_at f task all k (suc j) (x ∷ sites) site l s e g = site_at f task all (suc k) j sites site l s.1 e (subst (λ (i : ℕ). slice_get all i ≡ Some l) (moved k j) g)
  where
    moved : (k j : ℕ) → k + suc j ≡ suc k + j
    moved k j = omega arith

task_rank : (f : PlainFunction) (scope : List ℕ) (rank : Rank) → fits_rank f scope true rank ≡ true → rank ≡ Task
task_rank f scope (Up n bound) e = absurd cc
task_rank f scope (Down n bound) e = absurd cc
task_rank f scope One e = absurd cc
task_rank f scope Task e = refl

turn_steps : (k : ℕ) (l : Loop) → l.rank ≡ Task → (with_turn_steps k l).turns ≡ k
turn_steps k l e = subst (λ (r : Rank). (with_turn_steps k (record l { rank = r })).turns ≡ k) (sym e) refl

-- ## The conditions

module _ (o : Offers) (are : AreOffers o) (p : PlainProgram) (whole : IsWholeProgram p) (c : Claims) (is : AreClaims o p c)
    (bounded : (n : ℕ) (f : PlainFunction) → slice_get p.functions n ≡ Some f → (loops_of o p c n f).unbounded ≡ [])
    (short : (n : ℕ) (f : PlainFunction) → slice_get p.functions n ≡ Some f → (k : ℕ) (l : Loop) → slice_get (loops_of o p c n f).claims k ≡ Some l → is_ranked l.rank ≡ true → l.turns ≤ MOST_SUM)
    (passing : HasPassing (all_sums p c.funcs) → ⊥) where
  within : (n : ℕ) → n < length p.functions → keeps_limit (sum_at p c.funcs n) ≡ true
  within n low = at (keeps_limit (sum_at p c.funcs n)) refl
    where
      at : (b : Bool) → keeps_limit (sum_at p c.funcs n) ≡ b → keeps_limit (sum_at p c.funcs n) ≡ true
      at true e = e
      at false e = absurd (passing (record { sum = sum_at p c.funcs n; among = subst (λ (i : ℕ). Contains (all_sums p c.funcs) (sum_at p c.funcs i)) (plain n) (sums_have p c.funcs 0 (length p.functions) n low); passes = e }))
        where
          plain : (n : ℕ) → 0 + n ≡ n
          plain n = omega arith

  module _ (n : ℕ) (f : PlainFunction) (there : slice_get p.functions n ≡ Some f) (a : Func) (claimed : slice_get c.funcs n ≡ Some a) where
    abbrev sum : FuncSum
    sum = sum_at p c.funcs n

    sum_is : sum_claimed p c.funcs n f ≡ sum
    sum_is = sym (ap (function_sum p c.funcs n) there)

    limits : keeps_limit sum ≡ true
    limits = within n (there_below p.functions n f there)

    steps_within : leb sum.steps MOST_SUM ≡ true
    steps_within = (and_parts (leb sum.steps MOST_SUM) (leb sum.calls MOST_SUM) (and_parts (leb sum.steps MOST_SUM && leb sum.calls MOST_SUM) (leb sum.bytes MOST_SUM && leb sum.turn MOST_SUM) limits).0).0

    calls_within : leb sum.calls MOST_SUM ≡ true
    calls_within = (and_parts (leb sum.steps MOST_SUM) (leb sum.calls MOST_SUM) (and_parts (leb sum.steps MOST_SUM && leb sum.calls MOST_SUM) (leb sum.bytes MOST_SUM && leb sum.turn MOST_SUM) limits).0).1

    bytes_within : leb sum.bytes MOST_SUM ≡ true
    bytes_within = (and_parts (leb sum.bytes MOST_SUM) (leb sum.turn MOST_SUM) (and_parts (leb sum.steps MOST_SUM && leb sum.calls MOST_SUM) (leb sum.bytes MOST_SUM && leb sum.turn MOST_SUM) limits).1).0

    turn_within : leb sum.turn MOST_SUM ≡ true
    turn_within = (and_parts (leb sum.bytes MOST_SUM) (leb sum.turn MOST_SUM) (and_parts (leb sum.steps MOST_SUM && leb sum.calls MOST_SUM) (leb sum.bytes MOST_SUM && leb sum.turn MOST_SUM) limits).1).1

    steps_are : steps_claimed (slice_get c.funcs n) ≡ counted sum.steps
    steps_are = ap steps_claimed claimed ∙ ap (λ (x : Func). x.steps) (is.each n f a there claimed)

    calls_are : calls_claimed (slice_get c.funcs n) ≡ counted sum.calls
    calls_are = ap calls_claimed claimed ∙ ap (λ (x : Func). x.calls) (is.each n f a there claimed)

    bytes_are : bytes_claimed (slice_get c.funcs n) ≡ counted sum.bytes
    bytes_are = ap bytes_claimed claimed ∙ ap (λ (x : Func). x.bytes) (is.each n f a there claimed)

    abbrev task : Option ℕ
    task = task_loop_number p n f

    -- where a function has the task loop
    task_is : (head : LoopHead) → task_head p n f ≡ Some head → (k : ℕ) × (slice_get (heads_of f.body) k ≡ Some head) × (is_task task head.number ≡ true)
    task_is head = at (nat_eq n p.main) p.task
      where
        numbers : (o : Option PlainStatement) → head_in o ≡ Some head → loop_number o ≡ Some head.number
        numbers None e = absurd (none-some _ e)
        numbers (Some (statement at (loop h first test third body))) e = ap (option_map (λ (y : LoopHead). y.number)) e
        numbers (Some (statement at form)) e = absurd (none-some _ e)

        at : (b : Bool) (o : Option ℕ) → (if b then head_at (main_items f) o else None) ≡ Some head → (k : ℕ) × (slice_get (heads_of f.body) k ≡ Some head) × (is_task (if b then loop_number_at (main_items f) o else None) head.number ≡ true)
        at false o e = absurd (none-some _ e)
        at true None e = absurd (none-some _ e)
        at true (Some t) e =
            let k = head_there f.body t head e in
            (k.0, k.1, ap (λ o. is_task o head.number) (numbers (slice_get (main_items f) t) e) ∙ eq-eqb head.number head.number refl)

    -- what is claimed of a turn of the task loop
    turn_is : (head : LoopHead) → task_head p n f ≡ Some head → turn_claimed c.funcs n (Some head) ≡ counted sum.turn
    turn_is head e =
        let k = task_is head e in
        let number : head.number ≡ 0 + k.0 = number_there 0 k.0 (heads_of f.body) head (numbered_from 0 (heads_of f.body) (whole.functions n f there).loops_in_order) k.1 in
        let same : head.number ≡ k.0 = omega (arith, number) in
        let inside : k.0 < length (heads_of f.body) = there_below (heads_of f.body) k.0 head k.1 in
        let count = loops_count o are p whole c is bounded short n f there in
        let sites = sites_count o are p whole c is bounded short n f there in
        let l = is_there (loops_of o p c n f).claims k.0 (omega (arith, inside, count)) in
        let site = is_there (loop_sites f) k.0 (omega (arith, inside, count, sites)) in
        let head_is : site.0.head ≡ head = same_Some _ _ (sym (slice_get-map (λ (y : LoopSite). y.head) (loop_sites f) k.0 ∙ ap (option_map (λ (y : LoopSite). y.head)) site.1) ∙ (ap (λ (hs : List LoopHead). slice_get hs k.0) (all_sited 0 _ f.body) ∙ k.1)) in
        let fits : fits_loop f task site.0 l.0 ≡ true = site_at f task (loops_of o p c n f).claims 0 k.0 (loop_sites f) site.0 l.0 (sites_fit o are p whole c is bounded short n f there) site.1 (subst (λ (i : ℕ). slice_get (loops_of o p c n f).claims i ≡ Some l.0) (plain k.0) l.1) in
        let parts = and_parts (nat_eq l.0.depth site.0.depth) (fits_rank f site.0.scope (is_task task site.0.head.number) l.0.rank && list_all (fits_variable f site.0.scope) l.0.vars) fits in
        let ranked = (and_parts (fits_rank f site.0.scope (is_task task site.0.head.number) l.0.rank) (list_all (fits_variable f site.0.scope) l.0.vars) parts.1).0 in
        let rank : l.0.rank ≡ Task = task_rank f site.0.scope l.0.rank (subst (λ (b : Bool). fits_rank f site.0.scope b l.0.rank ≡ true) (ap (λ (y : LoopHead). is_task task y.number) head_is ∙ k.2) ranked) in
        ap (λ o. turns_claimed (slice_get (loops_claimed o) head.number)) claimed
        ∙ (ap (λ (ls : List Loop). turns_claimed (slice_get ls head.number)) (ap (λ (x : Func). x.loops) (is.each n f a there claimed))
        ∙ (ap (λ (i : ℕ). turns_claimed (slice_get (map (with_turn_steps (counted sum.turn)) (loops_of o p c n f).claims) i)) same
        ∙ (ap turns_claimed (mapped_at (with_turn_steps (counted sum.turn)) (loops_of o p c n f).claims k.0 l.0 l.1) ∙ turn_steps (counted sum.turn) l.0 rank)))
      where
        plain : (k : ℕ) → k ≡ 0 + k
        plain k = omega arith

    turn_covered : (o : Option LoopHead) → task_head p n f ≡ o → short_turn c.funcs n sum.turn o ≡ []
    turn_covered None e = refl
    turn_covered (Some head) e = ap (λ b. place_if (not b) head.span) (ap (λ (k : ℕ). covers_sum k sum.turn) (turn_is head e) ∙ covers sum.turn turn_within)

    -- K11
    pub steps_hold : short_steps p c.funcs n f ≡ []
    steps_hold =
        ap (λ (s : FuncSum). place_if (not (covers_sum (steps_claimed (slice_get c.funcs n)) s.steps)) f.span ++ short_turn c.funcs n s.turn (task_head p n f)) sum_is
        ∙ (ap (λ b. place_if (not b) f.span ++ short_turn c.funcs n sum.turn (task_head p n f)) (ap (λ (k : ℕ). covers_sum k sum.steps) steps_are ∙ covers sum.steps steps_within)
        ∙ turn_covered (task_head p n f) refl)

    -- K12
    pub depths_hold : short_depths p c.funcs n f ≡ []
    depths_hold =
        ap (λ (s : FuncSum). place_if (not (covers_sum (calls_claimed (slice_get c.funcs n)) s.calls && covers_sum (bytes_claimed (slice_get c.funcs n)) s.bytes)) f.span) sum_is
        ∙ (ap (λ b. place_if (not (b && covers_sum (bytes_claimed (slice_get c.funcs n)) sum.bytes)) f.span) (ap (λ (k : ℕ). covers_sum k sum.calls) calls_are ∙ covers sum.calls calls_within)
        ∙ ap (λ b. place_if (not b) f.span) (ap (λ (k : ℕ). covers_sum k sum.bytes) bytes_are ∙ covers sum.bytes bytes_within))

    turn_bounded : (o : Option LoopHead) → task_head p n f ≡ o → nat_le (turn_claimed c.funcs n o) (counted sum.turn) ≡ true
    turn_bounded None e = least (counted sum.turn)
      where
        least : (k : ℕ) → nat_le 0 k ≡ true
        least k = grind (arith, nat_tests)
    turn_bounded (Some head) e = ap (λ (k : ℕ). nat_le k (counted sum.turn)) (turn_is head e) ∙ equal (counted sum.turn)
      where
        equal : (k : ℕ) → nat_le k k ≡ true
        equal k = grind (arith, nat_tests)

  equal : (k : ℕ) → nat_le k k ≡ true
  equal k = grind (arith, nat_tests)

  four : (a b d e : Bool) → a ≡ true → b ≡ true → d ≡ true → e ≡ true → ((a && b) && (d && e)) ≡ true
  four a b d e p q r s = ap (λ x. (x && b) && (d && e)) p ∙ (ap (λ x. x && (d && e)) q ∙ (ap (λ x. x && e) r ∙ s))

  -- K14
  pub total_holds : low_total p c ≡ []
  total_holds =
      let main = whole.main in
      let a = claim_there o are p whole c is bounded short p.main main.function main.there in
      let sum : FuncSum = sum_at p c.funcs p.main in
      ap (λ b. place_if (not b) (name_at p p.main))
      (ap (λ t. bounds_main t (slice_get c.funcs p.main) (main_turn p c.funcs (slice_get p.functions p.main))) is.total
      ∙ four _ _ _ _
      (ap (λ (k : ℕ). nat_le k (counted sum.steps)) (steps_are p.main main.function main.there a.0 a.1) ∙ equal (counted sum.steps))
      (ap (λ o. nat_le (main_turn p c.funcs o) (counted sum.turn)) main.there ∙ turn_bounded p.main main.function main.there a.0 a.1 (task_head p p.main main.function) refl)
      (ap (λ (k : ℕ). nat_le k (counted sum.calls)) (calls_are p.main main.function main.there a.0 a.1) ∙ equal (counted sum.calls))
      (ap (λ (k : ℕ). nat_le k (counted sum.bytes)) (bytes_are p.main main.function main.there a.0 a.1) ∙ equal (counted sum.bytes)))
