use Rattle.std.proofs.Common.{ap, ◌∙◌, sym, arith, length, ◌++◌, [], ◌∷◌, map, subst}
use Rattle.p10_cert.specs.Statements.{Entry}
use Rattle.p10_cert.specs.WrongLines.{IsFirstWrong}
use Rattle.p10_cert.proofs.Collecting.{is_more, map-append}
use Rattle.p10_cert.proofs.VersionLaws.{wrong_in_first, not_first_version}
use Rattle.p10_cert.proofs.Wholes.{whole_first}
use Rattle.p10_cert.proofs.reading.read_first.Goals as goal

pub loop-next-smaller : goal.loop-next-smaller
loop-next-smaller c =
    let more = is_more c.loop-next.records c.next.new.self c.in-Ok.next c.in-Some.record c.in-Ok.ensures c.in-Some.is in
    omega (arith, more.within, more.longer, ap length c.loop-next.invariant.text)

pub loop-next-preserved : goal.loop-next-preserved
loop-next-preserved c =
    let more = is_more c.loop-next.records c.next.new.self c.in-Ok.next c.in-Some.record c.in-Ok.ensures c.in-Some.is in
    record {
      text = more.text ∙ c.loop-next.invariant.text;
      given = c.in_default.ensures more.entry more.sealed more.good more.exact ∙ ap (λ l. l ++ more.entry.func ∷ []) c.loop-next.invariant.given
          ∙ sym (map-append (λ (e : Entry). e.func) c.loop-next.records.given more.entry) ∙ ap (λ es. map (λ (e : Entry). e.func) es) (sym more.given);
      version = c.loop-next.invariant.version;
      small = c.loop-next.invariant.small;
    }

pub returns-then-not-is_first_version : goal.returns-then-not-is_first_version
returns-then-not-is_first_version c = (c.requires, not_first_version c.args.bytes.now (sym c.if-not-is_first_version.ensures))

pub plain-requires : goal.plain-requires
plain-requires c =
    whole_first c.loop-next.records c.next.new.self c.in-Ok.next c.args.bytes.now c.loop-next.funcs c.in-Ok.ensures c.in-None.is c.loop-next.invariant.text c.loop-next.invariant.given c.loop-next.invariant.version c.loop-next.invariant.small

pub returns-in-Err : goal.returns-in-Err
returns-in-Err c = (
  c.loop-next.invariant.small,
  wrong_in_first c.args.bytes.now c.in-Err.bad.line c.loop-next.invariant.version (subst (λ t. IsFirstWrong t c.in-Err.bad.line) c.loop-next.invariant.text c.in-Err.ensures.0),
)
