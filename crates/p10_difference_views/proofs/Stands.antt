-- The evidence of differences stands for the loops of a function as for those of its view.
use Rattle.std.proofs.Common.{◌≡◌, ◌∙◌, ℕ, suc, nat_eq, ◌&&◌, ◌||◌, Bool, is_some, List, [], ◌∷◌, map, Option, Some, None, option_map, refl, sym, ap}
use Rattle.std.specs.Prelude.{pos, neg_ℤ, ◌-ℤ◌, nat_lt, slice_get}
use Rattle.std.proofs.lemmas.Option.{slice_get-map}
use Rattle.p10_core.specs.Typed.{PlainInitializer, not_initialized, single, copied, listed, PlainStatement, statement, PlainStatementForm, set, update, copy, evaluate, asserts, declare, declare_static, block, if_then, if_else, loop, switch, break, continue, return, empty, mark, PlainStatements, no_statements, more_statements, PlainVariable, PlainFunction, PlainProgram}
use Rattle.p10_cert.specs.Claims.{Loop}
use Rattle.p10_absx.specs.Environments.{Environment, known}
use Rattle.p10_turns.specs.LoopParts.{LoopParts, loops_among}
use Rattle.p10_walk.specs.Walking.{Round}
use Rattle.p10_walk.specs.Turns.{round_from}
use Rattle.p10_diff.specs.Bounds.{plus, is_at_most}
use Rattle.p10_diff.specs.Differences.{now, Pair, Differences, top, bottom}
use Rattle.p10_diff.specs.Domain.{differences}
use Rattle.p10_diff.specs.Evidence.{Fact, Rank, rank_for, is_given, gives_value, form_gives_value, any_gives_value, may_be_named, facts_may_be, pair_of, at_head, facts_hold, only_ranges, stays, stay_in_scope, where_coming, comes_back, is_positive, enters_so, turns_so, rank_stands, loop_stands, stands_in}
use Rattle.p10_views.specs.Erased.{erased_initializer, erased_statement, erased_statement_form, erased_statements, erased_variable, erased_function}
use Rattle.p10_views.specs.Views.{View, view_of}
use Rattle.p10_views.proofs.Assigning.{head_erased, hold_erased}
use Rattle.p10_evidence_views.proofs.LoopsErased.{erased_parts, in_statements}
use Rattle.p10_evidence_views.proofs.Ranges.{ranges_stand_by_view}
use Rattle.p10_difference_views.specs.Laws.{DifferencesStandByView}
use Rattle.p10_difference_views.proofs.Pairs.{erased_pair, has_same, range_same, bound_same, fallen_same}
use Rattle.p10_difference_views.proofs.Walks.{round_same}
use Rattle.p10_difference_views.proofs.Domain.{differences_same}

-- ---- variables that may be named

given_same : (p : PlainProgram) (init : PlainInitializer) → is_given (erased_initializer p init) ≡ is_given init
given_same p not_initialized = refl
given_same p (single v) = refl
given_same p (copied r) = refl
given_same p (listed at items) = refl

mutual
  gives_same : (p : PlainProgram) (n : ℕ) (s : PlainStatement) → gives_value n (erased_statement p s) ≡ gives_value n s
  gives_same p n (statement at form) = form_gives_same p n form

  form_gives_same : (p : PlainProgram) (n : ℕ) (form : PlainStatementForm) → form_gives_value n (erased_statement_form p form) ≡ form_gives_value n form
  form_gives_same p n (set r v) = refl
  form_gives_same p n (update kind o t r v) = refl
  form_gives_same p n (copy r s) = refl
  form_gives_same p n (evaluate v) = refl
  form_gives_same p n (asserts site v) = refl
  form_gives_same p n (declare m initializer) = λ i. nat_eq n m && given_same p initializer i
  form_gives_same p n (declare_static m) = refl
  form_gives_same p n (block ss) = any_gives_same p n ss
  form_gives_same p n (if_then v s) = gives_same p n s
  form_gives_same p n (if_else v s u) = λ i. gives_same p n s i || gives_same p n u i
  form_gives_same p n (loop head first tested third body) = λ i. any_gives_same p n first i || gives_same p n body i
  form_gives_same p n (switch keyword v labels body) = gives_same p n body
  form_gives_same p n break = refl
  form_gives_same p n continue = refl
  form_gives_same p n (return keyword v) = refl
  form_gives_same p n empty = refl
  form_gives_same p n (mark kind) = refl

  any_gives_same : (p : PlainProgram) (n : ℕ) (ss : PlainStatements) → any_gives_value n (erased_statements p ss) ≡ any_gives_value n ss
  any_gives_same p n no_statements = refl
  any_gives_same p n (more_statements s rest) = λ i. gives_same p n s i || any_gives_same p n rest i

may_same : (p : PlainProgram) (f : PlainFunction) (q : Pair) (entry : Environment) (n : ℕ) → may_be_named (erased_function p f) (erased_pair p q) entry n ≡ may_be_named f q entry n
may_same p f q entry n = λ i. has_same p q n i && (is_some (known entry n) && (nat_lt n f.parameters || any_gives_same p n f.body i))

facts_may_same : (p : PlainProgram) (f : PlainFunction) (q : Pair) (entry : Environment) (facts : List Fact) → facts_may_be (erased_function p f) (erased_pair p q) entry facts ≡ facts_may_be f q entry facts
facts_may_same p f q entry [] = refl
facts_may_same p f q entry (x ∷ facts) = λ i. (may_same p f q entry x.greater i && may_same p f q entry x.lesser i) && facts_may_same p f q entry facts i

-- ---- at the head, and again

facts_same : (p : PlainProgram) (q : Pair) (facts : List Fact) (e : Differences) → facts_hold (erased_pair p q) facts e ≡ facts_hold q facts e
facts_same p q [] e = refl
facts_same p q (x ∷ facts) e = λ i. is_at_most (bound_same p q e (now x.greater) (now x.lesser) i) x.by && facts_same p q facts e i

scope_same : (p : PlainProgram) (n : ℕ) (vs : List PlainVariable) (head env : Environment) → stay_in_scope n (map (erased_variable p) vs) head env ≡ stay_in_scope n vs head env
scope_same p n [] head env = refl
scope_same p n (v ∷ vs) head env = λ i. stays (known head n) (known env n) && scope_same p (suc n) vs head env i

back_same : (p : PlainProgram) (q : Pair) (claim : Loop) (facts : List Fact) (e : Differences) → comes_back (erased_pair p q) claim facts e ≡ comes_back q claim facts e
back_same p q claim facts e =
    λ i. (hold_erased p claim 0 q.variables e.ranges i && scope_same p 0 q.variables q.head e.ranges i) && (facts_same p q facts e i && is_at_most (fallen_same p q e i) (neg_ℤ (pos 1)))

coming_same : (o : Option Differences) (test other : Differences → Bool) → ((e : Differences) → test e ≡ other e) → where_coming o test ≡ where_coming o other
coming_same None test other each = refl
coming_same (Some e) test other each = each e

enters_same : (p : PlainProgram) (q : Pair) (claim : Loop) (r : Rank) (entry : Environment) → enters_so (erased_pair p q) claim r entry ≡ enters_so q claim r entry
enters_same p q claim r entry =
    λ i. (hold_erased p claim 0 q.variables entry i && facts_same p q r.facts (only_ranges entry) i)
    && is_at_most (plus (plus (top (range_same p q entry (now q.above) i)) (bottom (range_same p q entry (now q.below) i))) (Some r.more)) (pos claim.turns)

turns_same : (p : PlainProgram) (q : Pair) (claim : Loop) (r : Rank) (round : Round Differences) → turns_so (erased_pair p q) claim r round ≡ turns_so q claim r round
turns_same p q claim r round =
    λ i. coming_same round.enters (is_positive (erased_pair p q) r.more) (is_positive q r.more) (λ e. λ k. is_at_most (bound_same p q e (now q.below) (now q.above) k) (r.more -ℤ pos 1)) i
    && coming_same round.back (comes_back (erased_pair p q) claim r.facts) (comes_back q claim r.facts) (λ e. back_same p q claim r.facts e) i

-- ---- the evidence

-- whether a rank stands, by the pair
abbrev stands_by : PlainFunction → LoopParts → Environment → Loop → Rank → Pair → Bool
stands_by f l entry claim r q =
    ((may_be_named f q entry r.below && may_be_named f q entry r.above) && facts_may_be f q entry r.facts) && (enters_so q claim r entry && turns_so q claim r (round_from (differences q) l (at_head q r.facts)))

rank_same : (p : PlainProgram) (f : PlainFunction) (l : LoopParts) (entry : Environment) (claim : Loop) (r : Rank) → rank_stands (erased_function p f) (erased_parts p l) entry claim r ≡ rank_stands f l entry claim r
rank_same p f l entry claim r =
    let q : Pair = pair_of f claim entry r in
    (λ i. stands_by (erased_function p f) (erased_parts p l) entry claim r (record { variables = map (erased_variable p) f.variables; below = r.below; above = r.above; head = head_erased p claim f.variables entry i }))
    ∙ (λ i. ((may_same p f q entry r.below i && may_same p f q entry r.above i) && facts_may_same p f q entry r.facts i)
    && (enters_same p q claim r entry i
    && ((λ k. turns_so (erased_pair p q) claim r (round_same p (differences (erased_pair p q)) (differences q) (differences_same p q) l (at_head q r.facts) k)) ∙ turns_same p q claim r (round_from (differences q) l (at_head q r.facts))) i))

loop_same : (p : PlainProgram) (f : PlainFunction) (l : Option LoopParts) (entry : Environment) (claim : Loop) (r : Option Rank) → loop_stands (erased_function p f) (option_map (erased_parts p) l) entry claim r ≡ loop_stands f l entry claim r
loop_same p f (Some l) entry claim (Some r) = rank_same p f l entry claim r
loop_same p f (Some l) entry claim None = refl
loop_same p f None entry claim r = refl

view_stands : (p : PlainProgram) (f : PlainFunction) (k : ℕ) (entry : Environment) (claim : Loop) (r : Option Rank) → stands_in (Some (erased_function p f)) k entry claim r ≡ stands_in (Some f) k entry claim r
view_stands p f k entry claim r =
    ap (λ ls. loop_stands (erased_function p f) (slice_get ls k) entry claim r) (in_statements p f.body)
    ∙ ap (λ l. loop_stands (erased_function p f) l entry claim r) (slice_get-map (erased_parts p) (loops_among f.body) k)
    ∙ loop_same p f (slice_get (loops_among f.body) k) entry claim r

stands_same : (p q : PlainProgram) (n : ℕ) (f g : PlainFunction) → slice_get p.functions n ≡ Some f → slice_get q.functions n ≡ Some g → view_of p n f ≡ view_of q n g → (k : ℕ) (entry : Environment) (claim : Loop) (r : Option Rank)
    → stands_in (slice_get p.functions n) k entry claim r ≡ stands_in (slice_get q.functions n) k entry claim r
stands_same p q n f g here there view k entry claim r =
    ap (λ o. stands_in o k entry claim r) here
    ∙ sym (view_stands p f k entry claim r)
    ∙ ap (λ (w : View). stands_in (Some w.function) k entry claim r) view
    ∙ view_stands q g k entry claim r
    ∙ ap (λ o. stands_in o k entry claim r) (sym there)

pub differences_stand_by_view : DifferencesStandByView
differences_stand_by_view ranks p q n f g here there view =
    λ i. λ k entry claim. ranges_stand_by_view p q n f g here there view i k entry claim || stands_same p q n f g here there view k entry claim (rank_for ranks n k) i
