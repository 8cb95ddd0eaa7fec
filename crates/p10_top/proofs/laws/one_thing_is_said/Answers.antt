use Rattle.p10_top.proofs.OneThing as lemma
use Rattle.p10_top.proofs.laws.one_thing_is_said.Goals as goal

pub returns : goal.returns
returns c = lemma.says_one_thing c.one_answer_is_right.ensures c.one_answer_is_right-2.ensures c.one_answer_is_right-3.ensures c.one_answer_is_right-4.ensures c.one_thing_is_said.ensures c.one_answer_is_right-5.ensures c.one_answer_is_right-6.ensures
