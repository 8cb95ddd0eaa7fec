use Rattle.std.proofs.Common.{take, drop, suc, arith, subst}
use Rattle.std.specs.List.{flat_map}
use Rattle.std.specs.Io.KnownBytes.{Appends}
use Rattle.std.proofs.KnownBytes.{Appends-trans}
use Rattle.p10_cert.specs.Sealed.{entries_of}
use Rattle.p10_cert.specs.Statements.{entry_text}
use Rattle.p10_cert.proofs.SealedTexts.{entry_at, entry_next, entries_all}
use Rattle.p10_cert.proofs.Written.{on_err, front_after}
use Rattle.p10_cert.proofs.writing_sealed.put_entries.Goals as goal

pub returns-in_err-put_entry-clause-front : goal.returns-in_err-put_entry-clause-front
returns-in_err-put_entry-clause-front g c =
    let i = c.loop-i.i in
    let entries = entries_of c.args.funcs.now c.args.digests.now in
    on_err c.from_residual.result _
    (front_after (g.O.Sink.taken c.args.out.now) (g.O.Sink.taken c.loop-i.out) (g.O.Sink.taken c.put_entry.new.out) (flat_map entry_text (take i entries)) _ (flat_map entry_text (drop (suc i) entries)) _
    c.loop-i.invariant.wrote c.in_err-put_entry.ensures.front (entry_at c.args.funcs.now c.args.digests.now i c.index-funcs-i.result _ c.requires c.loop-i-test.true c.index-funcs-i.is))

pub loop-i-preserved : goal.loop-i-preserved
loop-i-preserved g c =
    let i = c.loop-i.i in
    let entries = entries_of c.args.funcs.now c.args.digests.now in
    record {
      wrote = subst (Appends (g.O.Sink.taken c.args.out.now) (g.O.Sink.taken c.put_entry.new.out)) (entry_next c.args.funcs.now c.args.digests.now i c.index-funcs-i.result _ c.requires c.loop-i-test.true c.index-funcs-i.is)
          (Appends-trans (g.O.Sink.taken c.args.out.now) (g.O.Sink.taken c.loop-i.out) (g.O.Sink.taken c.put_entry.new.out) (flat_map entry_text (take i entries)) _ c.loop-i.invariant.wrote c.in_ok-put_entry.ensures.ok);
      count = omega (arith, c.loop-i.invariant.count, c.in_ok-put_entry.ensures.count);
    }

pub returns-clause-ok : goal.returns-clause-ok
returns-clause-ok g c =
    subst (Appends (g.O.Sink.taken c.args.out.now) (g.O.Sink.taken c.loop-i.out)) (entries_all c.args.funcs.now c.args.digests.now c.loop-i.i c.requires c.loop-i-test.false) c.loop-i.invariant.wrote
