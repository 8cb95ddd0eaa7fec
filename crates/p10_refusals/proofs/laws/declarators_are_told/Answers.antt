use Rattle.p10_refusals.proofs.Lengths.{declarators_told, forms_told, lengths_told}
use Rattle.p10_refusals.proofs.laws.declarators_are_told.Goals as goal

pub returns-clause-all : goal.returns-clause-all
returns-clause-all c = declarators_told c.form_rows_are_told.ensures

pub returns-clause-forms : goal.returns-clause-forms
returns-clause-forms c = forms_told c.form_rows_are_told.ensures

pub returns-clause-lengths : goal.returns-clause-lengths
returns-clause-lengths c = lengths_told c.lengths_are_told.ensures c.form_rows_are_told.ensures
