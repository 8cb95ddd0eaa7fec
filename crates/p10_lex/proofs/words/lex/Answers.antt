use Rattle.std.proofs.lemmas.Result.{MatchResult-weaker}
use Rattle.std.proofs.Common.{map}
use Rattle.p10_lex.proofs.SliceLaws.{answer_slices, answer_place}
use Rattle.p10_lex.proofs.words.lex.Goals as goal
use Rattle.p10_base.specs.Words.{plain_word}

pub returns-clause-slices : goal.returns-clause-slices
returns-clause-slices c =
    MatchResult-weaker c.words_in.result c.words_in.ensures (λ v is. answer_slices c.args.file c.args.text.now (map plain_word v.items) is) (λ e is. tt)

pub returns-clause-place : goal.returns-clause-place
returns-clause-place c =
    MatchResult-weaker c.words_in.result c.words_in.ensures (λ v is. tt) (λ e is. answer_place c.args.file c.args.text.now e is)
