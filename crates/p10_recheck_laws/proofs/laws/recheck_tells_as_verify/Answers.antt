use Rattle.p10_recheck_laws.proofs.Telling.{recheck_tells_as_verify}
use Rattle.p10_recheck_laws.proofs.laws.recheck_tells_as_verify.Goals as goal

pub returns : goal.returns
returns c = recheck_tells_as_verify c.a_text_tells_its_statement.ensures c.comparable_files_recheck_by_sections.ensures
