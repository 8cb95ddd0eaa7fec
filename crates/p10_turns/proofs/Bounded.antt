-- The laws: ranks bound turns, and the evidence of ranges is lawful.
use Rattle.std.proofs.Common.{◌≡◌, true, List, [], ◌∷◌, refl, ◌∙◌, ap, sym, subst, None}
use Rattle.std.specs.Prelude.{◌&&◌}
use Rattle.p10_core.specs.Typed.{PlainVariable}
use Rattle.p10_core.specs.WholePrograms.{Region, around, IsMaybeTest, IsWholeStatement, AreWholeStatements}
use Rattle.p10_cert.specs.Claims.{Loop}
use Rattle.p10_meaning.proofs.SoundStatements.{scope_after_all}
use Rattle.p10_absx.specs.Environments.{Environment}
use Rattle.p10_pass.specs.Claiming.{ranges_hold, ranges_hold_reached}
use Rattle.p10_pass.specs.Passing.{manner_in, Failing, Round, rank_fails, trial_manner}
use Rattle.p10_evaluation.proofs.WholeFunctions.{results_lie}
use Rattle.p10_evaluation.proofs.Operating.{both_true}
use Rattle.p10_execution.proofs.ScopedEnds.{third_expressions, third_declares}
use Rattle.p10_turns.specs.LoopParts.{LoopParts, round_under}
use Rattle.p10_turns.specs.Ranked.{is_ranked, StandsByRank}
use Rattle.p10_turns.specs.Evidence.{has_none, holds_by_ranges, loop_stands, stands_in}
use Rattle.p10_turns.specs.Laws.{RanksBoundTurns, RangesAreLawful}
use Rattle.p10_turns.proofs.Ranks.{RankHolds, rank_enough, rank_holds}
use Rattle.p10_turns.proofs.Entries.{entry_describes}
use Rattle.p10_turns.proofs.Rounds.{loop_enters}
use Rattle.p10_turns.proofs.WholeLoops.{no_third, region_after_all, IsWholeSomewhere, loop_whole}
use Rattle.p10_turns.proofs.Trials.{round_clear}

pub ranks_bound : RanksBoundTurns
ranks_bound p whole n depth number f there calls loops result lie scope l b t i claim entry before h frame w stand d =
    let same = region_after_all p whole number f there t.first scope l b in
    let rank : RankHolds claim entry (round_under (manner_in f calls loops result) claim t entry) = rank_holds claim t.head.span entry (round_under (manner_in f calls loops result) claim t entry) h.ranked h.rank_holds in
    loop_enters p whole n depth number f there calls loops result lie (scope_after_all t.first scope) l b t.tested t.third t.body
    (subst (λ r. IsMaybeTest (around r) t.tested) same i.1) (subst (λ r. AreWholeStatements r t.third) same i.2) (third_expressions t.head.keyword t.first t.tested t.third i.4) (third_declares t.head.keyword t.first t.tested t.third i.4)
    (subst (λ (r : Region). IsWholeStatement (record r { in_loop = true }) t.body) same i.3) i.5 claim entry before t.head.keyword
    (no_third t.head.keyword t.first t.tested t.third i.4) h.ranked h.parts h.on_back rank claim.turns frame w
    (record { ready = stand; describes = entry_describes claim f.variables entry frame.held h.at_entry d }) (rank_enough f.variables frame.held entry d claim.turns claim.rank rank.enough)

-- ## Evidence

none_is : (fails : List Failing) → has_none fails ≡ true → fails ≡ []
none_is [] e = refl
none_is (e ∷ rest) q = absurd cc

stands_by_rank : (variables : List PlainVariable) (t : LoopParts) (entry : Environment) (claim : Loop) → holds_by_ranges variables t entry claim ≡ true → StandsByRank (trial_manner variables) claim t entry
stands_by_rank variables t entry claim e =
    let r : Round = round_under (trial_manner variables) claim t entry in
    let b = both_true (is_ranked claim.rank && has_none (rank_fails claim t.head.span entry r)) (ranges_hold claim 0 variables entry && ranges_hold_reached claim variables r.back) e in
    let c = both_true (is_ranked claim.rank) (has_none (rank_fails claim t.head.span entry r)) b.0 in
    let d = both_true (ranges_hold claim 0 variables entry) (ranges_hold_reached claim variables r.back) b.1 in
    record { ranked = c.0; parts = round_clear variables t.tested t.third t.body _ t.head.keyword; at_entry = d.0; on_back = d.1; rank_holds = none_is (rank_fails claim t.head.span entry r) c.1 }

pub ranges_lawful : RangesAreLawful
ranges_lawful p whole number f there k t found entry before claim e n depth =
    let here : IsWholeSomewhere p whole number f there t = loop_whole p whole number f there k t found in
    let stands : holds_by_ranges f.variables t entry claim ≡ true = ap (λ o. loop_stands f.variables o entry claim) (sym found) ∙ (ap (λ o. stands_in o k entry claim) (sym there) ∙ e) in
    ranks_bound p whole n depth number f there None None None (results_lie p whole n depth) here.scope here.in_loop here.in_switch t here.is_whole claim entry before (stands_by_rank f.variables t entry claim stands)
