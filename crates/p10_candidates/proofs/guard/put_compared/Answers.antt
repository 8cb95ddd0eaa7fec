use Rattle.std.proofs.Common.{map}
use Rattle.p10_core.specs.Views.{plain_value}
use Rattle.p10_candidates.specs.Offering.{candidate_by, entry_by}
use Rattle.p10_candidates.specs.Candidates.{side_candidates}
use Rattle.p10_candidates.proofs.Filling.{filled_turned}
use Rattle.p10_candidates.proofs.guard.put_compared.Goals as goal

pub returns : goal.returns
returns c =
    filled_turned c.put_side-2.result (λ op. side_candidates (entry_by c.args.l.now) op (plain_value c.args.b.now) (plain_value c.args.a.now)) c.args.op c.turned.result (map candidate_by c.args.found.now.items)
    (map candidate_by c.put_side.new.found.items) (map candidate_by c.put_side-2.new.found.items) (side_candidates (entry_by c.args.l.now) c.args.op (plain_value c.args.a.now) (plain_value c.args.b.now)) c.turned.ensures c.in_ok-put_side.ensures
    c.put_side-2.ensures
