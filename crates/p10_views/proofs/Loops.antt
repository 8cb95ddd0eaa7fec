-- What a round of a loop leaves after the loop is the same of an erased one, but for places.
use Rattle.std.proofs.Common.{◌≡◌, ◌∙◌, ℕ, not, Bool, true, false, List, [], ◌∷◌, ◌++◌, map, option_map, refl, ap}
use Rattle.p10_base.specs.declared.span.Span.{Span}
use Rattle.p10_core.specs.declared.statements.LoopHead.{LoopHead}
use Rattle.p10_cert.specs.declared.claims.Rank.{Rank}
use Rattle.p10_cert.specs.declared.claims.Rank.TheVariants.{Up, Down, One, Task}
use Rattle.p10_cert.specs.Claims.{Loop}
use Rattle.p10_absx.specs.Environments.{Environment}
use Rattle.p10_pass.specs.Claiming.{ranges_hold, ranges_hold_reached, rank_in, enters_ranked, goes_back_ranked, is_enough}
use Rattle.p10_pass.specs.Passing.{Failing, Round, failing_if, rank_fails, weakness_of, place_unless, loop_left}
use Rattle.p10_views.specs.Erased.{no_span, erased_head, erased_variable}
use Rattle.p10_views.proofs.Spans.{erased_spans, erased_failing, erased_weakness, erased_left, map_both, joined, unless_erased}
use Rattle.p10_views.proofs.Assigning.{hold_erased, hold_reached_erased, restored_erased}
use Rattle.p10_views.proofs.Manners.{Twin, first_of, second_of}
use Rattle.p10_views.proofs.Parts.{erased_round}

-- ---- ranks

failing_if_erased : (fails : Bool) (k : ℕ) (at : Span) → failing_if fails k no_span ≡ map erased_failing (failing_if fails k at)
failing_if_erased true k at = refl
failing_if_erased false k at = refl

three_erased : (a b c : Bool) (at : Span) → failing_if a 8 no_span ++ (failing_if b 9 no_span ++ failing_if c 10 no_span) ≡ map erased_failing (failing_if a 8 at ++ (failing_if b 9 at ++ failing_if c 10 at))
three_erased a b c at =
    (λ i. failing_if_erased a 8 at i ++ (failing_if_erased b 9 at i ++ failing_if_erased c 10 at i))
    ∙ (λ i. map erased_failing (failing_if a 8 at) ++ map_both erased_failing (failing_if b 9 at) (failing_if c 10 at) i)
    ∙ map_both erased_failing (failing_if a 8 at) (failing_if b 9 at ++ failing_if c 10 at)

pub rank_erased : (claim : Loop) (rank : Rank) (at : Span) (entry : Environment) (r : Round)
    → rank_fails (record claim { rank = rank }) no_span entry (erased_round r) ≡ map erased_failing (rank_fails (record claim { rank = rank }) at entry r)
rank_erased claim Task at entry r = refl
rank_erased claim One at entry r = three_erased (not (enters_ranked One r.enters)) (not (goes_back_ranked One r.back)) (not (is_enough claim.turns (rank_in One entry))) at
rank_erased claim (Up v bound) at entry r = three_erased (not (enters_ranked (Up v bound) r.enters)) (not (goes_back_ranked (Up v bound) r.back)) (not (is_enough claim.turns (rank_in (Up v bound) entry))) at
rank_erased claim (Down v bound) at entry r = three_erased (not (enters_ranked (Down v bound) r.enters)) (not (goes_back_ranked (Down v bound) r.back)) (not (is_enough claim.turns (rank_in (Down v bound) entry))) at

weakness_erased : (n : ℕ) (entry : Environment) (fails : List Failing) → weakness_of n entry (map erased_failing fails) ≡ map erased_weakness (weakness_of n entry fails)
weakness_erased n entry [] = refl
weakness_erased n entry (e ∷ fails) = refl

weak_erased : (claim : Loop) (n : ℕ) (at : Span) (entry : Environment) (r : Round)
    → weakness_of n entry (rank_fails claim no_span entry (erased_round r)) ++ map erased_weakness r.body.weak ≡ map erased_weakness (weakness_of n entry (rank_fails claim at entry r) ++ r.body.weak)
weak_erased claim n at entry r =
    (λ i. weakness_of n entry (rank_erased claim claim.rank at entry r i) ++ map erased_weakness r.body.weak)
    ∙ ap (λ ws. ws ++ map erased_weakness r.body.weak) (weakness_erased n entry (rank_fails claim at entry r))
    ∙ map_both erased_weakness (weakness_of n entry (rank_fails claim at entry r)) r.body.weak

-- ---- after a loop

-- a place where ranges don't hold, before those in the body
held_erased : (these others : Bool) → these ≡ others → (at : Span) (places : List Span) → place_unless these no_span ++ erased_spans places ≡ erased_spans (place_unless others at ++ places)
held_erased these others same at places =
    joined (place_unless others at) places (place_unless these no_span) (erased_spans places) ((λ i. place_unless (same i) no_span) ∙ unless_erased others at) refl

pub loop_erased : (t : Twin) (claim : Loop) (head : LoopHead) (these others : ℕ → Bool) → ((n : ℕ) → these n ≡ others n) → (entry : Environment) (r : Round)
    → loop_left (second_of t) claim (erased_head head) these entry (erased_round r) ≡ erased_left (loop_left (first_of t) claim head others entry r)
loop_erased t claim head these others same entry r = λ i. record (erased_left (loop_left (first_of t) claim head others entry r)) {
  normal = option_map (λ e. restored_erased t.program these others same entry t.variables e i) r.exits;
  returns = option_map (λ e. restored_erased t.program these others same entry t.variables e i) r.body.returns;
  entries = held_erased (ranges_hold claim 0 (map (erased_variable t.program) t.variables) entry) (ranges_hold claim 0 t.variables entry) (hold_erased t.program claim 0 t.variables entry) head.span r.body.entries i;
  backs = held_erased (ranges_hold_reached claim (map (erased_variable t.program) t.variables) r.back) (ranges_hold_reached claim t.variables r.back) (hold_reached_erased t.program claim t.variables r.back) head.span r.body.backs i;
  weak = weak_erased claim head.number head.span entry r i;
}
