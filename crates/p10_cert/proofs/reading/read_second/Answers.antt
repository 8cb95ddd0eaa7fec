use Rattle.std.proofs.Common.{ap, ◌∙◌, sym, subst, arith, length, true}
use Rattle.p10_cert.specs.Reading.{begins_with}
use Rattle.p10_cert.specs.Statements.{IsEntry}
use Rattle.p10_cert.specs.WrongLines.{IsFirstWrong}
use Rattle.p10_cert.proofs.Collecting.{is_more, more_read}
use Rattle.p10_cert.proofs.VersionLaws.{first_bytes, wrong_in_second, not_second_version}
use Rattle.p10_cert.proofs.Wholes.{whole_sealed}
use Rattle.p10_cert.proofs.reading.read_second.Goals as goal

pub returns-then-not-is_second_version : goal.returns-then-not-is_second_version
returns-then-not-is_second_version c = (c.requires, not_second_version c.args.bytes.now (sym c.if-not-is_second_version.ensures))

pub loop-next-smaller : goal.loop-next-smaller
loop-next-smaller c =
    let more = is_more c.loop-next.records c.next.new.self c.in-Ok.next c.in-Some.record c.in-Ok.ensures c.in-Some.is in
    omega (arith, more.within, more.longer, ap length c.loop-next.invariant.text)

pub loop-next-preserved : goal.loop-next-preserved
loop-next-preserved c =
    let more = is_more c.loop-next.records c.next.new.self c.in-Ok.next c.in-Some.record c.in-Ok.ensures c.in-Some.is in
    let begun = ap (begins_with (first_bytes true)) c.loop-next.invariant.text ∙ c.loop-next.invariant.version in
    let good = subst (λ b. IsEntry b more.entry) (more.version true begun) more.good in
    record {
      text = more.text ∙ c.loop-next.invariant.text;
      read = more_read c.loop-next.funcs c.push_sealed.new.funcs c.loop-next.digests c.push_sealed.new.digests c.loop-next.records.given c.next.new.self.given more.entry c.loop-next.invariant.read more.given
          (c.in_default.ensures.claims more.entry good more.exact) (c.in_default.ensures.digests more.entry good more.exact);
      version = c.loop-next.invariant.version;
      small = c.loop-next.invariant.small;
    }

pub sealed-requires : goal.sealed-requires
sealed-requires c =
    whole_sealed c.loop-next.records c.next.new.self c.in-Ok.next c.args.bytes.now c.loop-next.funcs c.loop-next.digests c.in-Ok.ensures c.in-None.is c.loop-next.invariant.text c.loop-next.invariant.read c.loop-next.invariant.version c.loop-next.invariant.small

pub returns-in-Err : goal.returns-in-Err
returns-in-Err c = (
  c.loop-next.invariant.small,
  wrong_in_second c.args.bytes.now c.in-Err.bad.line c.loop-next.invariant.version (subst (λ t. IsFirstWrong t c.in-Err.bad.line) c.loop-next.invariant.text c.in-Err.ensures.0),
)
