use Rattle.std.proofs.Common.{◌++◌, [], ◌∷◌, map, length, ap, sym, ◌∙◌, subst, arith}
use Rattle.p10_cert.specs.Records.{statement_from}
use Rattle.p10_cert.specs.Statements.{Entry, IsStatement, statement_text}
use Rattle.p10_cert.specs.WrongLines.{IsFirstWrong}
use Rattle.p10_cert.proofs.Collecting.{is_more, map-append}
use Rattle.p10_cert.proofs.Wholes.{is_end}
use Rattle.p10_diff_evidence.specs.Placing.{no_line}
use Rattle.p10_judge.proofs.reading.read.Goals as goal

pub loop-next-smaller : goal.loop-next-smaller
loop-next-smaller c =
    let more = is_more c.loop-next.reader c.next.new.self c.in-Ok.next c.in-Some.lines c.in-Ok.ensures c.in-Some.is in
    omega (arith, more.within, more.longer, ap length c.loop-next.invariant.text)

pub loop-next-preserved : goal.loop-next-preserved
loop-next-preserved c =
    let more = is_more c.loop-next.reader c.next.new.self c.in-Ok.next c.in-Some.lines c.in-Ok.ensures c.in-Some.is in
    record {
      text = more.text ∙ c.loop-next.invariant.text;
      claims = c.in_ok-push-in-Some.ensures.claims more.entry more.sealed more.good more.exact ∙ ap (λ l. l ++ more.entry.func ∷ []) c.loop-next.invariant.claims
          ∙ sym (map-append (λ (e : Entry). e.func) c.loop-next.reader.given more.entry) ∙ ap (λ es. map (λ (e : Entry). e.func) es) (sym more.given);
      kept_are = c.in_ok-push-in-Some.ensures.digests more.entry more.sealed more.good more.exact ∙ ap (λ l. l ++ more.entry.digest ∷ []) c.loop-next.invariant.kept_are
          ∙ sym (map-append (λ (e : Entry). e.digest) c.loop-next.reader.given more.entry) ∙ ap (λ es. map (λ (e : Entry). e.digest) es) (sym more.given);
    }

pub whole-requires-clause-whole : goal.whole-requires-clause-whole
whole-requires-clause-whole c =
    let end = is_end c.loop-next.reader c.next.new.self c.in-Ok.next c.in-Ok.ensures c.in-None.is in
    record {
      ending = end.ending;
      over = end.over;
      good = subst (λ given. IsStatement (statement_from given end.ending)) (sym end.given) end.good;
      exact = end.text ∙ end.exact ∙ ap (λ given. statement_text (statement_from given end.ending)) (sym end.given);
      claims = c.loop-next.invariant.claims ∙ ap (λ es. map (λ (e : Entry). e.func) es) (sym end.given);
      kept_are = c.loop-next.invariant.kept_are ∙ ap (λ es. map (λ (e : Entry). e.digest) es) (sym end.given);
    }

pub whole-requires-clause-text : goal.whole-requires-clause-text
whole-requires-clause-text c =
    let end = is_end c.loop-next.reader c.next.new.self c.in-Ok.next c.in-Ok.ensures c.in-None.is in
    end.text ∙ c.loop-next.invariant.text

pub returns-in-Err : goal.returns-in-Err
returns-in-Err c = no_line (subst (λ t. IsFirstWrong t c.in-Err.bad.line) c.loop-next.invariant.text c.in-Err.ensures.0)
