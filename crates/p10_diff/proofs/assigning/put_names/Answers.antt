use Rattle.std.proofs.lemmas.Result.{on_ok_weaker}
use Rattle.p10_diff.specs.Knowing.{pair_by}
use Rattle.p10_diff.specs.Listed.{bounds_listed}
use Rattle.p10_diff.proofs.Puts.{names_put}
use Rattle.p10_diff.proofs.assigning.put_names.Goals as goal

pub returns-clause-put : goal.returns-clause-put
returns-clause-put c =
    on_ok_weaker c.put_before.result (names_put (pair_by c.args.p.now) c.args.a.now c.args.e.now c.put_pair.new.e c.args.n (bounds_listed c.args.bounds.now.items) (bounds_listed c.put_pair.new.bounds.items) (bounds_listed c.put_before.new.bounds.items)
    c.if-not-has_name.ensures c.in_ok-put_pair.ensures.same c.in_ok-put_pair.ensures.put) c.put_before.ensures.put
