-- Evidence by a section says the same of a function that keeps its view, where both certificates have the same section.
use Rattle.std.proofs.Common.{◌≡◌, ◌∙◌, ℕ, List, Option, Some, None, ap, subst}
use Rattle.std.specs.Prelude.{slice_get}
use Rattle.p10_core.specs.Typed.{PlainFunction, PlainProgram}
use Rattle.p10_diff.specs.Evidence.{Rank}
use Rattle.p10_diff_evidence.specs.Laws.{OneListOfRanks}
use Rattle.p10_diff_evidence.specs.Standing.{diff_lines, AreRanks, standing_by}
use Rattle.p10_views.specs.Views.{view_of}
use Rattle.p10_evidence_views.proofs.Ranges.{ranges_stand_by_view}
use Rattle.p10_difference_views.proofs.Stands.{differences_stand_by_view}
use Rattle.p10_rechecks.proofs.Kept.{evidence_kept}
use Rattle.p10_rechecks.proofs.Wholly.{rechecks_as_whole}
use Rattle.p10_section_rechecks.specs.Laws.{SectionsRecheckAsWhole}

-- the same ranks
ranks_stay : (ranks : Option (List Rank)) (p q : PlainProgram) (n : ℕ) (f g : PlainFunction) → slice_get p.functions n ≡ Some f → slice_get q.functions n ≡ Some g → view_of p n f ≡ view_of q n g → standing_by p ranks n ≡ standing_by q ranks n
ranks_stay None p q n f g here there view = ranges_stand_by_view p q n f g here there view
ranks_stay (Some ranks) p q n f g here there view = differences_stand_by_view ranks p q n f g here there view

pub sections_recheck_as_whole : OneListOfRanks → SectionsRecheckAsWhole
sections_recheck_as_whole one q p digests outside e before after verdict were are was whole views is =
    rechecks_as_whole (standing_by q before) (standing_by p after) q p digests outside e verdict was whole views
    (λ none n f g here there view.
    ranks_stay before q p n f g here there view
    ∙ ap (λ ranks. standing_by p ranks n) (one (diff_lines e.new) before after (subst (λ lines. AreRanks lines before) (evidence_kept e none) were) are))
    is
