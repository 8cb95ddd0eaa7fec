-- The evidence of ranges stands for the loops of a function as for those of its view.
use Rattle.std.proofs.Common.{◌≡◌, ◌∙◌, ℕ, ◌&&◌, List, [], ◌∷◌, map, Option, Some, None, option_map, refl, sym, ap}
use Rattle.std.specs.Prelude.{slice_get}
use Rattle.std.proofs.lemmas.Option.{slice_get-map}
use Rattle.p10_core.specs.Typed.{PlainValue, statement, return, PlainStatement, PlainStatements, no_statements, more_statements, PlainVariable, PlainFunction, PlainProgram}
use Rattle.p10_core.specs.Nodes.{nodes_of_statements}
use Rattle.p10_cert.specs.Claims.{Loop}
use Rattle.p10_absx.specs.Environments.{Environment}
use Rattle.p10_sums.specs.Depths.{callees}
use Rattle.p10_pass.specs.Claiming.{ranges_hold, ranges_hold_reached, head_of}
use Rattle.p10_pass.specs.Passing.{Failing, Round, round_of, rank_fails, trial_manner, pass_statement, pass_statements}
use Rattle.p10_turns.specs.LoopParts.{LoopParts, loops_among, round_under}
use Rattle.p10_turns.specs.Ranked.{is_ranked}
use Rattle.p10_turns.specs.Evidence.{has_none, holds_by_ranges, loop_stands, stands_in, stands_by_ranges}
use Rattle.p10_views.specs.Erased.{no_span, no_place, erased_value, erased_statement, erased_statements, erased_variable, erased_function}
use Rattle.p10_views.specs.Views.{View, view_of}
use Rattle.p10_views.proofs.Called.{MaybeCalls, StatementCalls, StatementsCall, calls_of_statements, each_holds}
use Rattle.p10_views.proofs.Spans.{erased_failing}
use Rattle.p10_views.proofs.Assigning.{head_erased, hold_erased, hold_reached_erased}
use Rattle.p10_views.proofs.Manners.{Twin, first_of, second_of, Shared}
use Rattle.p10_views.proofs.Parts.{erased_round, round_erased}
use Rattle.p10_views.proofs.Loops.{rank_erased}
use Rattle.p10_views.proofs.Statements.{statement_erased, statements_erased}
use Rattle.p10_evidence_views.specs.Laws.{RangesStandByView}
use Rattle.p10_evidence_views.proofs.LoopsErased.{erased_parts, in_statements}

-- a trial pass over the variables of a function
abbrev trial : PlainProgram → List PlainVariable → Twin
trial p vs = record { program = p; c = None; d = None; stand = tt; loops = None; result = None; variables = vs }

-- nothing is asked of what trees call
all_call : (p : PlainProgram) (vs : List PlainVariable) (ss : PlainStatements) → StatementsCall (Shared (trial p vs)) ss
all_call p vs ss = calls_of_statements (Shared (trial p vs)) ss (each_holds (Shared (trial p vs)) (λ n. tt) (callees (nodes_of_statements ss)))

one_calls : (p : PlainProgram) (vs : List PlainVariable) (s : PlainStatement) → StatementCalls (Shared (trial p vs)) s
one_calls p vs s = (all_call p vs (more_statements s no_statements)).0

maybe_calls : (p : PlainProgram) (vs : List PlainVariable) (v : Option PlainValue) → MaybeCalls (Shared (trial p vs)) v
maybe_calls p vs v = one_calls p vs (statement no_place (return no_span v))

round_same : (p : PlainProgram) (vs : List PlainVariable) (l : LoopParts) (entry : Environment) (claim : Loop)
    → round_under (trial_manner (map (erased_variable p) vs)) claim (erased_parts p l) entry ≡ erased_round (round_under (trial_manner vs) claim l entry)
round_same p vs l entry claim =
    let t : Twin = trial p vs in
    (λ i. round_of (second_of t) l.head.keyword (option_map (erased_value p) l.tested) (λ e. pass_statements (second_of t) (erased_statements p l.third) e) (λ e. pass_statement (second_of t) (erased_statement p l.body) e) (head_erased p claim vs entry i))
    ∙ round_erased t l.head.keyword l.tested (maybe_calls p vs l.tested) (λ e. pass_statements (first_of t) l.third e) (λ e. pass_statements (second_of t) (erased_statements p l.third) e)
    (λ e. pass_statement (first_of t) l.body e) (λ e. pass_statement (second_of t) (erased_statement p l.body) e)
    (λ e. statements_erased t l.third (all_call p vs l.third) e) (λ e. statement_erased t l.body (one_calls p vs l.body) e) (head_of claim vs entry)

none_erased : (fails : List Failing) → has_none (map erased_failing fails) ≡ has_none fails
none_erased [] = refl
none_erased (e ∷ fails) = refl

loop_same : (p : PlainProgram) (vs : List PlainVariable) (l : LoopParts) (entry : Environment) (claim : Loop) → holds_by_ranges (map (erased_variable p) vs) (erased_parts p l) entry claim ≡ holds_by_ranges vs l entry claim
loop_same p vs l entry claim =
    let r : Round = round_under (trial_manner vs) claim l entry in
    (λ i. (is_ranked claim.rank && has_none (rank_fails claim no_span entry (round_same p vs l entry claim i)))
    && (ranges_hold claim 0 (map (erased_variable p) vs) entry && ranges_hold_reached claim (map (erased_variable p) vs) (round_same p vs l entry claim i).back))
    ∙ (λ i. (is_ranked claim.rank && (ap has_none (rank_erased claim claim.rank l.head.span entry r) ∙ none_erased (rank_fails claim l.head.span entry r)) i) && (hold_erased p claim 0 vs entry i && hold_reached_erased p claim vs r.back i))

maybe_same : (p : PlainProgram) (vs : List PlainVariable) (l : Option LoopParts) (entry : Environment) (claim : Loop) → loop_stands (map (erased_variable p) vs) (option_map (erased_parts p) l) entry claim ≡ loop_stands vs l entry claim
maybe_same p vs None entry claim = refl
maybe_same p vs (Some l) entry claim = loop_same p vs l entry claim

view_stands : (p : PlainProgram) (f : PlainFunction) (k : ℕ) (entry : Environment) (claim : Loop) → stands_in (Some (erased_function p f)) k entry claim ≡ stands_in (Some f) k entry claim
view_stands p f k entry claim =
    ap (λ ls. loop_stands (map (erased_variable p) f.variables) (slice_get ls k) entry claim) (in_statements p f.body)
    ∙ ap (λ l. loop_stands (map (erased_variable p) f.variables) l entry claim) (slice_get-map (erased_parts p) (loops_among f.body) k)
    ∙ maybe_same p f.variables (slice_get (loops_among f.body) k) entry claim

stands_same : (p q : PlainProgram) (n : ℕ) (f g : PlainFunction) → slice_get p.functions n ≡ Some f → slice_get q.functions n ≡ Some g → view_of p n f ≡ view_of q n g → (k : ℕ) (entry : Environment) (claim : Loop)
    → stands_by_ranges p n k entry claim ≡ stands_by_ranges q n k entry claim
stands_same p q n f g here there view k entry claim =
    ap (λ o. stands_in o k entry claim) here
    ∙ sym (view_stands p f k entry claim)
    ∙ ap (λ (w : View). stands_in (Some w.function) k entry claim) view
    ∙ view_stands q g k entry claim
    ∙ ap (λ o. stands_in o k entry claim) (sym there)

pub ranges_stand_by_view : RangesStandByView
ranges_stand_by_view p q n f g here there view = λ i. λ k entry claim. stands_same p q n f g here there view k entry claim i
