use Rattle.p10_lex.proofs.Uniqueness.{words_or_refusal}
use Rattle.p10_lex.proofs.laws.each_file_has_words_or_one_refusal.Goals as goal

pub returns : goal.returns
returns c = words_or_refusal
