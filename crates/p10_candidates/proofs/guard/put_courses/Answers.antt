use Rattle.std.proofs.Common.{map}
use Rattle.p10_candidates.specs.Offering.{candidate_by, entry_by}
use Rattle.p10_candidates.specs.Candidates.{candidate_along}
use Rattle.p10_candidates.specs.private.Trying.{side_by, other_in}
use Rattle.p10_candidates.proofs.Filling.{filled_courses}
use Rattle.p10_candidates.proofs.guard.put_courses.Goals as goal

pub returns-in_ok-put_course-in-Ne : goal.returns-in_ok-put_course-in-Ne
returns-in_ok-put_course-in-Ne c =
    filled_courses c.put_course-in-Ne-2.result (candidate_along (entry_by c.args.l.now) (side_by c.args.sides) (other_in c.args.sides) c.args.v) c.args.op (map candidate_by c.args.found.now.items)
    (map candidate_by c.put_course-in-Ne.new.found.items) (map candidate_by c.put_course-in-Ne-2.new.found.items) c.in-Ne.is c.in_ok-put_course-in-Ne.ensures c.put_course-in-Ne-2.ensures
