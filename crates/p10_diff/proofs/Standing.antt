-- When a rank stands, by what the code finds.
use Rattle.std.proofs.Common.{◌≡◌, ℕ, zero, suc, ◌+◌, ◌<◌, Bool, true, false, List, [], ◌∷◌, map, length, drop, refl, ap, sym, ◌∙◌, Option, Some, None, arith, add-one}
use Rattle.std.specs.Prelude.{◌&&◌}
use Rattle.p10_core.specs.declared.program.Variable.{Variable}
use Rattle.p10_core.specs.Typed.{PlainStatement, statement, set, update, copy, evaluate, asserts, declare, declare_static, block, if_then, if_else, loop, switch, break, continue, return, empty, mark, PlainFunction}
use Rattle.p10_core.specs.Views.{plain_variable}
use Rattle.p10_cert.specs.Claims.{Loop}
use Rattle.p10_absx.specs.Environments.{Environment, known}
use Rattle.p10_absx.specs.Trails.{Branching}
use Rattle.p10_absx.specs.Branches.{unbranched}
use Rattle.p10_pass.specs.Claiming.{head_of}
use Rattle.p10_turns.specs.LoopParts.{parts_of}
use Rattle.p10_walk.specs.Walking.{Round}
use Rattle.p10_walk.specs.Leaving.{round_at}
use Rattle.p10_diff.specs.declared.listed.Bounded.{Bounded}
use Rattle.p10_diff.specs.Differences.{Pair, Differences, unbounded}
use Rattle.p10_diff.specs.Domain.{differences}
use Rattle.p10_diff.specs.Evidence.{Fact, Rank, may_be_named, facts_may_be, pair_of, facts_learned, still, at_head, stays, stay_in_scope, enters_so, turns_so, loop_stands}
use Rattle.p10_diff.specs.Listed.{bounds_listed}
use Rattle.p10_diff.specs.private.Rounds.{round_turns_so}

-- ## The head

none_listed : bounds_listed [] ≡ unbounded
none_listed = λ i u w. None

pub head_told : (p : Pair) (facts : List Fact) (start one two all : List (List Bounded)) → start ≡ [] → bounds_listed one ≡ facts_learned facts (bounds_listed start) → bounds_listed two ≡ still p.above (bounds_listed one) → bounds_listed all ≡ still p.below (bounds_listed two) →
    bounds_listed all ≡ (at_head p facts).bounds
head_told p facts start one two all none first second third =
    third ∙ ap (still p.below) (second ∙ ap (still p.above) (first ∙ ap (facts_learned facts) (ap bounds_listed none ∙ none_listed)))

pub pair_is : (f : PlainFunction) (claim : Loop) (entry : Environment) (r : Rank) (variables shown : List Variable) (head : Branching) → f.variables ≡ map plain_variable variables → shown ≡ variables → head ≡ unbranched (head_of claim (map plain_variable shown) entry) →
    record { variables = map plain_variable shown; below = r.below; above = r.above; head = head.values } ≡ pair_of f claim entry r
pair_is f claim entry r variables shown head own same is =
    let all : map plain_variable shown ≡ f.variables = ap (map plain_variable) same ∙ sym own in
    λ i. record { variables = all i; below = r.below; above = r.above; head = (ap (λ (b : Branching). b.values) is ∙ ap (λ vs. head_of claim vs entry) all) i }

-- ## What stays in scope

cut_scope : (i n : ℕ) (xs : List Variable) (before after : Environment) → i < length xs →
    stay_in_scope n (map plain_variable (drop i xs)) before after ≡ (stays (known before n) (known after n) && stay_in_scope (suc n) (map plain_variable (drop (suc i) xs)) before after)
cut_scope i n [] before after h = absurd (omega (arith, h))
cut_scope zero n (x ∷ xs) before after h = refl
cut_scope (suc i) n (x ∷ xs) before after h = cut_scope i n xs before after (omega (arith, h))

-- a variable that stays, and one that doesn't
pub scope_next : (n : ℕ) (xs : List Variable) (before after : Environment) (whole : Bool) → n < length xs → stay_in_scope n (map plain_variable (drop n xs)) before after ≡ whole → true ≡ stays (known before n) (known after n) →
    stay_in_scope (n + 1) (map plain_variable (drop (n + 1) xs)) before after ≡ whole
scope_next n xs before after whole h so-far step =
    ap (λ m. stay_in_scope m (map plain_variable (drop m xs)) before after) (add-one n) ∙
    (ap (λ b. b && stay_in_scope (suc n) (map plain_variable (drop (suc n) xs)) before after) step ∙ (sym (cut_scope n n xs before after h) ∙ so-far))

pub scope_left : (n : ℕ) (xs : List Variable) (before after : Environment) (whole : Bool) → n < length xs → stay_in_scope n (map plain_variable (drop n xs)) before after ≡ whole → false ≡ stays (known before n) (known after n) → false ≡ whole
scope_left n xs before after whole h so-far step =
    ap (λ b. b && stay_in_scope (suc n) (map plain_variable (drop (suc n) xs)) before after) step ∙ (sym (cut_scope n n xs before after h) ∙ so-far)

-- ## The round

pub round_told : (p : Pair) (claim : Loop) (r : Rank) (s : PlainStatement) (start : Differences) (told : Option (Round Differences)) (round : Round Differences) (b : Bool) → start ≡ at_head p r.facts → told ≡ round_at (differences p) s start → told ≡ Some round → b ≡ turns_so p claim r round →
    b ≡ round_turns_so p claim r (round_at (differences p) s (at_head p r.facts))
round_told p claim r s start told round b start_is is some turns = turns ∙ ap (round_turns_so p claim r) (sym some ∙ (is ∙ ap (round_at (differences p) s) start_is))

pub no_round : (p : Pair) (claim : Loop) (r : Rank) (s : PlainStatement) (start : Differences) (told : Option (Round Differences)) → start ≡ at_head p r.facts → told ≡ round_at (differences p) s start → told ≡ None →
    false ≡ round_turns_so p claim r (round_at (differences p) s (at_head p r.facts))
no_round p claim r s start told start_is is none = ap (round_turns_so p claim r) (sym none ∙ (is ∙ ap (round_at (differences p) s) start_is))

-- ## All together

neither : (a b : Bool) → (a && (b && false)) ≡ false
neither true true = refl
neither true false = refl
neither false b = refl

-- whether all variables that a rank names may be named
abbrev names : PlainFunction → Pair → Environment → Rank → Bool
names f p entry r = (may_be_named f p entry r.below && may_be_named f p entry r.above) && facts_may_be f p entry r.facts

by_parts : (f : PlainFunction) (s : PlainStatement) (entry : Environment) (claim : Loop) (r : Rank) → let p : Pair = pair_of f claim entry r in
    (names f p entry r && (enters_so p claim r entry && round_turns_so p claim r (round_at (differences p) s (at_head p r.facts)))) ≡ loop_stands f (parts_of s) entry claim (Some r)
by_parts f (statement at (loop head first tested third body)) entry claim r = refl
by_parts f (statement at (set q v)) entry claim r = let p : Pair = pair_of f claim entry r in neither (names f p entry r) (enters_so p claim r entry)
by_parts f (statement at (update kind op t q v)) entry claim r = let p : Pair = pair_of f claim entry r in neither (names f p entry r) (enters_so p claim r entry)
by_parts f (statement at (copy q q2)) entry claim r = let p : Pair = pair_of f claim entry r in neither (names f p entry r) (enters_so p claim r entry)
by_parts f (statement at (evaluate v)) entry claim r = let p : Pair = pair_of f claim entry r in neither (names f p entry r) (enters_so p claim r entry)
by_parts f (statement at (asserts call v)) entry claim r = let p : Pair = pair_of f claim entry r in neither (names f p entry r) (enters_so p claim r entry)
by_parts f (statement at (declare n initializer)) entry claim r = let p : Pair = pair_of f claim entry r in neither (names f p entry r) (enters_so p claim r entry)
by_parts f (statement at (declare_static n)) entry claim r = let p : Pair = pair_of f claim entry r in neither (names f p entry r) (enters_so p claim r entry)
by_parts f (statement at (block ss)) entry claim r = let p : Pair = pair_of f claim entry r in neither (names f p entry r) (enters_so p claim r entry)
by_parts f (statement at (if_then v s)) entry claim r = let p : Pair = pair_of f claim entry r in neither (names f p entry r) (enters_so p claim r entry)
by_parts f (statement at (if_else v s t)) entry claim r = let p : Pair = pair_of f claim entry r in neither (names f p entry r) (enters_so p claim r entry)
by_parts f (statement at (switch keyword v labels body)) entry claim r = let p : Pair = pair_of f claim entry r in neither (names f p entry r) (enters_so p claim r entry)
by_parts f (statement at break) entry claim r = let p : Pair = pair_of f claim entry r in neither (names f p entry r) (enters_so p claim r entry)
by_parts f (statement at continue) entry claim r = let p : Pair = pair_of f claim entry r in neither (names f p entry r) (enters_so p claim r entry)
by_parts f (statement at (return keyword v)) entry claim r = let p : Pair = pair_of f claim entry r in neither (names f p entry r) (enters_so p claim r entry)
by_parts f (statement at empty) entry claim r = let p : Pair = pair_of f claim entry r in neither (names f p entry r) (enters_so p claim r entry)
by_parts f (statement at (mark kind)) entry claim r = let p : Pair = pair_of f claim entry r in neither (names f p entry r) (enters_so p claim r entry)

pub stands_told : (f : PlainFunction) (s : PlainStatement) (entry : Environment) (claim : Loop) (r : Rank) (q : Pair) (named enters turns b : Bool) → q ≡ pair_of f claim entry r →
    named ≡ ((may_be_named f q entry r.below && may_be_named f q entry r.above) && facts_may_be f q entry r.facts) → enters ≡ enters_so q claim r entry → turns ≡ round_turns_so q claim r (round_at (differences q) s (at_head q r.facts)) →
    b ≡ (named && (enters && turns)) → b ≡ loop_stands f (parts_of s) entry claim (Some r)
stands_told f s entry claim r q named enters turns b is named_so enters_at turns_at told =
    told ∙ ((λ i. named_so i && (enters_at i && turns_at i)) ∙
    (ap (λ p. names f p entry r && (enters_so p claim r entry && round_turns_so p claim r (round_at (differences p) s (at_head p r.facts)))) is ∙ by_parts f s entry claim r))
