use Rattle.p10_verify_command.proofs.OneAnswer.{says_right}
use Rattle.p10_verify_command.proofs.laws.one_answer_is_right.Goals as goal

pub returns : goal.returns
returns c = λ names files before after some other. says_right c.a_text_tells_its_statement.ensures c.one_reading.ensures c.one_judgement.ensures files before after names some other
