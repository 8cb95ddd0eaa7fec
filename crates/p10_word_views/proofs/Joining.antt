-- The verdict after an edit of files.
use Rattle.p10_front.specs.Digests.{reading_digests}
use Rattle.p10_rechecks.proofs.Wholly.{ranges_recheck_as_whole}
use Rattle.p10_word_views.specs.Laws.{FilesRecheckAsWhole}
use Rattle.p10_word_views.proofs.Keeping.{readings_keep_views}

pub files_recheck_as_whole : FilesRecheckAsWhole
files_recheck_as_whole r s q p equal tell e to verdict accepted whole is =
    ranges_recheck_as_whole q p (reading_digests r).funcs (reading_digests r).outside e verdict accepted whole (readings_keep_views r s q p equal tell e to) is
