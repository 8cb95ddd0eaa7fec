use Rattle.std.proofs.Common.{map, sym, subst}
use Rattle.p10_base.specs.Words.{plain_word}
use Rattle.p10_direct.specs.Lines.{piece_of, AreCut}
use Rattle.p10_expand.proofs.Including.{lines_begin}
use Rattle.p10_expand.proofs.includes.includes_of.Goals as goal

pub push_include-requires : goal.push_include-requires
push_include-requires c =
    lines_begin c.as_slice-line-items.result.now (map plain_word c.args.words.now)
    (subst (λ ls. AreCut (map plain_word c.args.words.now) (map piece_of ls)) (sym c.as_slice-line-items.ensures) c.in_ok-cut.ensures.cut) c.loop-line.line-index _ c.loop-line-test.true
