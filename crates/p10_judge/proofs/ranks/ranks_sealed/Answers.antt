use Rattle.std.proofs.Common.{length, ap, sym, ◌∙◌, subst, arith}
use Rattle.p10_cert.specs.Records.{statement_from}
use Rattle.p10_cert.specs.Statements.{IsStatement, statement_text}
use Rattle.p10_cert.specs.WrongLines.{IsFirstWrong}
use Rattle.p10_cert.proofs.Collecting.{is_more}
use Rattle.p10_cert.proofs.Wholes.{is_end}
use Rattle.p10_diff_evidence.specs.Placing.{no_line}
use Rattle.p10_judge.proofs.ranks.ranks_sealed.Goals as goal

pub loop-next-smaller : goal.loop-next-smaller
loop-next-smaller c =
    let more = is_more c.loop-next.reader c.next.new.self c.in-Ok.next _ c.in-Ok.ensures c.in-Some.is in
    omega (arith, more.within, more.longer, ap length c.loop-next.invariant.text)

pub loop-next-preserved : goal.loop-next-preserved
loop-next-preserved c =
    let more = is_more c.loop-next.reader c.next.new.self c.in-Ok.next _ c.in-Ok.ensures c.in-Some.is in
    record { text = more.text ∙ c.loop-next.invariant.text }

pub ranks_at_end-requires : goal.ranks_at_end-requires
ranks_at_end-requires c =
    let end = is_end c.loop-next.reader c.next.new.self c.in-Ok.next c.in-Ok.ensures c.in-None.is in
    record {
      ending = end.ending;
      over = end.over;
      good = subst (λ given. IsStatement (statement_from given end.ending)) (sym end.given) end.good;
      exact = sym c.loop-next.invariant.text ∙ end.exact ∙ ap (λ given. statement_text (statement_from given end.ending)) (sym end.given);
    }

pub returns-in-Err : goal.returns-in-Err
returns-in-Err c = no_line (subst (λ t. IsFirstWrong t c.in-Err.bad.line) c.loop-next.invariant.text c.in-Err.ensures.0)
