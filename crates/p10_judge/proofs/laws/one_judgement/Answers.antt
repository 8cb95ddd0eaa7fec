use Rattle.p10_judge.proofs.Once.{one_judgement}
use Rattle.p10_judge.proofs.laws.one_judgement.Goals as goal

pub returns : goal.returns
returns c = λ p digests bytes this that. one_judgement
    (record { statement = c.a_text_tells_its_statement.ensures; one_bad = c.one_bad_line.ensures; no_bad = c.a_ranked_certificate_has_no_bad_line.ensures; ranks = c.one_list_of_ranks.ensures; verdict = c.one_verdict.ensures })
    p digests bytes this that
