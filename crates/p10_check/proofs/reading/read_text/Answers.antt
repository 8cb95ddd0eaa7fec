-- One record more tells what it tells, and in the end all do.
use Rattle.std.proofs.Common.{◌∙◌, length, ap, subst, sym, arith}
use Rattle.p10_core.specs.Views.{plain_program}
use Rattle.p10_cert.specs.Records.{Progress}
use Rattle.p10_cert.specs.WrongLines.{IsFirstWrong}
use Rattle.p10_cert.proofs.Collecting.{is_more}
use Rattle.p10_cert.proofs.Wholes.{is_end}
use Rattle.p10_check.specs.Texts.{digests_of}
use Rattle.p10_check.specs.private.Readings.{AreTold, TextTells}
use Rattle.p10_check.proofs.Telling.{has_ended}
use Rattle.p10_check.proofs.reading.read_text.Goals as goal

pub loop-next-init : goal.loop-next-init
loop-next-init c = record {
  text = ap (λ (r : Progress). r.text) c.records-reader.ensures;
  told = subst (λ given. AreTold (plain_program c.args.program.now) (digests_of c.args.found.now) given c.args.told.now) (sym (ap (λ (r : Progress). r.given) c.records-reader.ensures)) c.requires;
}

pub loop-next-smaller : goal.loop-next-smaller
loop-next-smaller c =
    let more = is_more c.loop-next.reader c.next.new.self c.in-Ok.next c.in-Some.record c.in-Ok.ensures c.in-Some.is in
    omega (arith, more.within, more.longer, ap length c.loop-next.invariant.text)

pub loop-next-preserved : goal.loop-next-preserved
loop-next-preserved c =
    let more = is_more c.loop-next.reader c.next.new.self c.in-Ok.next c.in-Some.record c.in-Ok.ensures c.in-Some.is in
    record {
      text = more.text ∙ c.loop-next.invariant.text;
      told = subst (λ given. AreTold (plain_program c.args.program.now) (digests_of c.args.found.now) given c.tell.new.told) (sym more.given)
          (c.in_ok-tell-in-Some.ensures c.loop-next.reader.given more.entry more.sealed c.loop-next.invariant.told more.good more.exact);
    }

pub finish-requires : goal.finish-requires
finish-requires c = has_ended c.loop-next.reader c.next.new.self c.in-Ok.next c.in-Ok.ensures c.in-None.is

pub returns-in-None : goal.returns-in-None
returns-in-None c =
    let p = plain_program c.args.program.now in
    let end = is_end c.loop-next.reader c.next.new.self c.in-Ok.next c.in-Ok.ensures c.in-None.is in
    let told = subst (λ given. AreTold p (digests_of c.args.found.now) given c.loop-next.told) (sym end.given) c.loop-next.invariant.told in
    subst (λ text. TextTells p (digests_of c.args.found.now) text c.finish.new.told) (end.text ∙ c.loop-next.invariant.text) (c.finish.ensures (digests_of c.args.found.now) told)

pub returns-in-Err : goal.returns-in-Err
returns-in-Err c = subst (λ text. IsFirstWrong text c.in-Err.bad.line) c.loop-next.invariant.text c.in-Err.ensures.0
