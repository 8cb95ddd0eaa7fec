-- The functions of programs of files have names of C.
use Rattle.p10_derived_texts.proofs.Texts.{derived_have_text}
use Rattle.p10_names.specs.Laws.{ProgramsAreNamed, DerivedCertificatesOfFilesHaveText}
use Rattle.p10_names.proofs.Trees.{definitions_have_names}
use Rattle.p10_names.proofs.Elaborated.{elaborated_named}

pub programs_are_named : ProgramsAreNamed
programs_are_named g p is = elaborated_named is.trees p (definitions_have_names g is.expansion is.trees is.expands is.spells) is.typed

pub derived_of_files_have_text : DerivedCertificatesOfFilesHaveText
derived_of_files_have_text o are g p is whole c certified = derived_have_text o are p whole (programs_are_named g p is) c certified
