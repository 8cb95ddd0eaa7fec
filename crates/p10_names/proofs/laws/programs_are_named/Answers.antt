use Rattle.p10_names.proofs.Named.{programs_are_named, derived_of_files_have_text}
use Rattle.p10_names.proofs.laws.programs_are_named.Goals as goal

pub returns-clause-named : goal.returns-clause-named
returns-clause-named c = programs_are_named

pub returns-clause-texts : goal.returns-clause-texts
returns-clause-texts c = derived_of_files_have_text
