use Rattle.p10_pass.specs.Leaving.{values_in}
use Rattle.p10_finder.specs.Finding.{loops_by}
use Rattle.p10_finder.specs.private.Looking.{search_by}
use Rattle.p10_finder.proofs.LoopForms.{found_passed, inside_passed}
use Rattle.p10_finder.proofs.entering.enter_loop.Goals as goal

pub returns-in_ok-entry-in-Loop-clause-found : goal.returns-in_ok-entry-in-Loop-clause-found
returns-in_ok-entry-in-Loop-clause-found c =
    found_passed c.put_loop.result (loops_by c.put_loop.new.found) (search_by c.args.s.now) c.args.s.now.depth c.args.x.now c.in-Loop.head c.in-Loop.first c.in-Loop.tested c.in-Loop.field-3 c.in-Loop.field-4 c.as_slice.result.now
    (values_in c.args.env.now) (values_in c.in_ok-entry-in-Loop.entry) (loops_by c.args.found.now) c.in-Loop.is c.as_slice.ensures c.in_ok-entry-in-Loop.ensures c.put_loop.ensures.found

pub returns-in_ok-entry-in-Loop-clause-inside : goal.returns-in_ok-entry-in-Loop-clause-inside
returns-in_ok-entry-in-Loop-clause-inside c =
    inside_passed c.put_loop.result (search_by c.args.s.now) c.args.s.now.depth c.args.x.now c.in-Loop.head c.in-Loop.first c.in-Loop.tested c.in-Loop.field-3 c.in-Loop.field-4 c.as_slice.result.now
    (values_in c.args.env.now) (values_in c.in_ok-entry-in-Loop.entry) (loops_by c.args.found.now) c.in-Loop.is c.as_slice.ensures c.in_ok-entry-in-Loop.ensures c.put_loop.ensures.inside
