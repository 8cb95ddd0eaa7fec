use Rattle.p10_migrate_command.proofs.OneAnswer.{says_one_thing}
use Rattle.p10_migrate_command.proofs.laws.one_answer_is_right.Goals as goal

pub returns : goal.returns
returns c =
    says_one_thing (record { statement = c.a_text_tells_its_statement.ensures; one_bad = c.one_bad_line.ensures; no_bad = c.a_ranked_certificate_has_no_bad_line.ensures }) c.one_reading.ensures
