use Rattle.std.proofs.Common.{◌≡◌, true, rules}
use Rattle.p10_whole.proofs.Labelling.{next_case, case_apart, cases_end, noted_more}
use Rattle.p10_whole.proofs.switches.are_cases.Goals as goal

pub loop-i-preserved : goal.loop-i-preserved
loop-i-preserved c =
    let whole : c.is_case-whole.result ≡ true = search rules in
    let new : c.in_ok-new.new ≡ true = search rules in
    record {
      before =
          next_case c.args.kind c.args.count c.args.cases.now c.loop-i.i c.loop-i.from _ c.loop-i-test.true (c.is_case-whole.ensures.shows whole)
          (case_apart c.args.cases.now c.loop-i.i _ c.loop-i.seen _ c.in_ok-new.ensures.new new c.loop-i.invariant.noted) c.loop-i.invariant.before;
      noted = noted_more c.args.cases.now c.loop-i.i _ _ _ c.loop-i-test.true c.in_ok-new.ensures.ok c.loop-i.invariant.noted;
    }

pub returns : goal.returns
returns c = record { shows = λ _. c.loop-i.invariant.before (cases_end c.args.kind c.args.count c.args.cases.now c.loop-i.i c.loop-i.from c.loop-i-test.false) }
