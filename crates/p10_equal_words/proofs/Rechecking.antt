-- The verdict after an edit of files is that on the whole certificate.
use Rattle.p10_front.specs.Digests.{reading_digests}
use Rattle.p10_section_rechecks.specs.Laws.{SectionsRecheckAsWhole}
use Rattle.p10_word_views.proofs.Keeping.{readings_keep_views}
use Rattle.p10_word_views.proofs.Joining.{files_recheck_as_whole}
use Rattle.p10_equal_words.specs.Laws.{ComparableFilesRecheckAsWhole, ComparableFilesRecheckBySections}
use Rattle.p10_equal_words.proofs.Joining.{equal_words_have_equal_views}

pub comparable_files_recheck_as_whole : ComparableFilesRecheckAsWhole
comparable_files_recheck_as_whole g h r s q p reads other p_whole each tell e to verdict accepted is =
    files_recheck_as_whole r s q p (equal_words_have_equal_views g h r s q p reads other accepted.each each) tell e to verdict accepted p_whole is

pub comparable_files_recheck_by_sections : SectionsRecheckAsWhole → ComparableFilesRecheckBySections
comparable_files_recheck_by_sections whole g h r s q p reads other p_whole each tell e to before after verdict were are accepted is =
    whole q p (reading_digests r).funcs (reading_digests r).outside e before after verdict were are accepted p_whole
    (readings_keep_views r s q p (equal_words_have_equal_views g h r s q p reads other accepted.each each) tell e to) is
