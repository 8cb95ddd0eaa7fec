-- Functions that aren't dirty have no failing condition after an edit, so the others decide.
use Rattle.std.proofs.Common.{◌≡◌, ◌∙◌, ℕ, false, List, [], Some, option_map, sym, ap}
use Rattle.std.specs.Prelude.{slice_get}
use Rattle.std.proofs.lemmas.Option.{same_Some}
use Rattle.p10_core.specs.Typed.{PlainFunction, PlainProgram}
use Rattle.p10_core.specs.Nodes.{nodes_of_statements}
use Rattle.p10_core.specs.WholePrograms.{IsWholeProgram}
use Rattle.p10_calls.specs.CallSites.{call_sites}
use Rattle.p10_cert.specs.Statements.{Entry}
use Rattle.p10_sums.specs.Depths.{callees}
use Rattle.p10_check.specs.Passes.{Standing}
use Rattle.p10_check.specs.Conditions.{function_failures}
use Rattle.p10_check.specs.Texts.{claims_in}
use Rattle.p10_turns.specs.Evidence.{stands_by_ranges}
use Rattle.p10_views.specs.Views.{view_of, SayTheSame, AgreeAbout}
use Rattle.p10_views.proofs.Failures.{views_decide}
use Rattle.p10_evidence_views.proofs.Ranges.{ranges_stand_by_view}
use Rattle.p10_incr.specs.Edits.{Edit, is_touched, calls_touched, is_dirty}
use Rattle.p10_incr.proofs.Suffice.{clean_functions_suffice}
use Rattle.p10_rechecks.specs.Laws.{WasAccepted, ViewsStay, EvidenceStays, RechecksAsWhole, RangesRecheckAsWhole}
use Rattle.p10_rechecks.proofs.Kept.{neither_holds, outside_kept, IsKept, untouched, claim_there, claims_kept}
use Rattle.p10_rechecks.proofs.Callers.{callees_untouched, all_weaker}
use Rattle.p10_rechecks.proofs.Accepted.{Stood, stood}

-- the claims from before and after an edit agree about a function that isn't dirty
agree : (p : PlainProgram) (e : Edit) (n : ℕ) (g : PlainFunction) → slice_get p.functions n ≡ Some g → is_touched e n ≡ false → calls_touched e n (call_sites p) ≡ false → AgreeAbout (claims_in e.old).funcs (claims_in e.new).funcs n g
agree p e n g there own called = record {
  own = claims_kept e n (untouched e n own);
  called = all_weaker (λ m. is_touched e m ≡ false) (SayTheSame (claims_in e.old).funcs (claims_in e.new).funcs) (λ m isn't. claims_kept e m (untouched e m isn't)) (callees (nodes_of_statements g.body)) (callees_untouched p (is_touched e) n g there called);
}

clean : (old new : Standing) (q p : PlainProgram) (digests : List (List ℕ)) (outside : List ℕ) (e : Edit) → WasAccepted old q digests outside e.old → IsWholeProgram p → ViewsStay q digests outside p e → EvidenceStays old q new p e
    → (n : ℕ) (g : PlainFunction) → slice_get p.functions n ≡ Some g → is_dirty p e n ≡ false → function_failures new p (claims_in e.new) n g ≡ []
clean old new q p digests outside e was whole views evidence n g there isn't =
    let parts = neither_holds (is_touched e n) (calls_touched e n (call_sites p)) isn't in
    let kept : IsKept e n = untouched e n parts.0 in
    let f : Stood old q digests e.old n kept.found =
    stood old q digests outside e.old was n kept.old kept.found kept.was kept.words (claim_there e.old n ∙ ap (option_map (λ (x : Entry). x.func)) kept.was) in
    let out : outside ≡ e.outside = same_Some outside e.outside (sym was.outside_is ∙ outside_kept e kept.none) in
    let view : view_of q n f.function ≡ view_of p n g = views n f.function g f.there there out (f.digest ∙ sym kept.digest) in
    views_decide old new q p was.whole whole (claims_in e.old) (claims_in e.new) n f.function g f.there there view (agree p e n g there parts.0 parts.1) (evidence kept.none n f.function g f.there there view) f.none

pub rechecks_as_whole : RechecksAsWhole
rechecks_as_whole old new q p digests outside e verdict was whole views evidence is = clean_functions_suffice new p e verdict (clean old new q p digests outside e was whole views evidence) is

pub ranges_recheck_as_whole : RangesRecheckAsWhole
ranges_recheck_as_whole q p digests outside e verdict was whole views is =
    rechecks_as_whole (stands_by_ranges q) (stands_by_ranges p) q p digests outside e verdict was whole views (λ none n f g here there view. ranges_stand_by_view q p n f g here there view) is
