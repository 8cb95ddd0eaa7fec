use Rattle.std.proofs.Common.{arith, rules}
use Rattle.std.proofs.lemmas.List.{take_rest}
use Rattle.p10_digests.proofs.Patterns.{rest_length}
use Rattle.p10_digests.proofs.Running.{ahead_on}
use Rattle.p10_digests.proofs.Steps.{word_put, no_word_put}
use Rattle.p10_digests.proofs.outside.put_root.Goals as goal

pub loop-rest-preserved : goal.loop-rest-preserved
loop-rest-preserved c =
    let long = rest_length c.loop-rest.rest.now in
    record {
      put = word_put _ c.loop-rest.rest.now c.loop-rest.text.items c.put_line.new.text.items c.args.bodies.now _ c.loop-rest.place c.advance-place.result c.loop-rest.number _ c.in-len1-up.len_at_least
          c.advance-place.ensures.from c.loop-rest.invariant.ahead (search (rules, take_rest)) c.in_ok-put_line.ensures c.loop-rest.invariant.put;
      count = omega (arith, long, c.loop-rest.invariant.count, c.in-len1-up.len_at_least);
      inside = c.advance-place.ensures.inside;
      ahead = ahead_on c.args.bodies.now c.loop-rest.place c.advance-place.result c.loop-rest.number c.advance-place.ensures.from c.loop-rest.invariant.ahead;
    }

pub returns : goal.returns
returns c = no_word_put c.loop-rest.rest.now c.loop-rest.text.items c.args.bodies.now c.loop-rest.number _ c.in_default.len_below c.loop-rest.invariant.put
