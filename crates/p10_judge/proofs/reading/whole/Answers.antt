use Rattle.std.proofs.Common.{None, Some, sym, subst, ◌∙◌}
use Rattle.p10_judge.specs.Ranks.{AreFound}
use Rattle.p10_judge.proofs.Keeping.{whole_said}
use Rattle.p10_judge.proofs.reading.whole.Goals as goal

pub ranks_at_end-requires : goal.ranks_at_end-requires
ranks_at_end-requires c = record {
  ending = c.requires.whole.ending;
  over = c.requires.whole.over;
  good = c.requires.whole.good;
  exact = sym c.requires.text ∙ c.requires.whole.exact;
}

pub returns-in-Bad : goal.returns-in-Bad
returns-in-Bad c = subst (AreFound c.args.bytes.now) c.in-Bad.is c.in_ok-line.ensures

pub returns-in-Absent : goal.returns-in-Absent
returns-in-Absent c =
    whole_said c.args.records.now c.args.funcs c.args.kept c.total.result _ None c.args.bytes.now c.requires.text c.requires.whole c.total.ensures c.unwrap-total.ensures (subst (AreFound c.args.bytes.now) c.in-Absent.is c.in_ok-line.ensures)

pub returns-in-Listed : goal.returns-in-Listed
returns-in-Listed c =
    whole_said c.args.records.now c.args.funcs c.args.kept c.total.result _ (Some c.in-Listed.evidence) c.args.bytes.now c.requires.text c.requires.whole c.total.ensures c.unwrap-total.ensures
    (subst (AreFound c.args.bytes.now) c.in-Listed.is c.in_ok-line.ensures)
