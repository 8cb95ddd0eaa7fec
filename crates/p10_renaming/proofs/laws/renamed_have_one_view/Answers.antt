use Rattle.p10_renaming.proofs.Erasing.{renamed_have_one_view}
use Rattle.p10_renaming.proofs.laws.renamed_have_one_view.Goals as goal

pub returns : goal.returns
returns c = renamed_have_one_view
