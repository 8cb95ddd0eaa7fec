use Rattle.std.proofs.Common.{sym, ◌∙◌}
use Rattle.p10_core.specs.Views.{plain_labels, plain_statement}
use Rattle.p10_pass.specs.Leaving.{values_in}
use Rattle.p10_finder.specs.Finding.{loops_by}
use Rattle.p10_finder.specs.private.Looking.{search_by}
use Rattle.p10_finder.proofs.BlockForms.{block_found, body_found}
use Rattle.p10_finder.proofs.WithoutLoops.{none_in}
use Rattle.p10_finder.proofs.walk.+looking.Goals as goal

pub loops_in-returns-in-Block : goal.loops_in-returns-in-Block
loops_in-returns-in-Block t c =
    block_found c.loops_in_all.result (loops_by c.loops_in_all.new.found) (search_by c.args.s.now) c.args.s.now.depth c.args.x.now c.in-Block.items c.as_slice.result.now (values_in c.args.env.now) (loops_by c.args.found.now) c.in-Block.is c.as_slice.ensures
    c.loops_in_all.ensures

pub loops_in_body-returns-in-Block : goal.loops_in_body-returns-in-Block
loops_in_body-returns-in-Block t c =
    body_found c.loops_from.result (loops_by c.loops_from.new.found) (search_by c.args.s.now) c.args.s.now.depth (plain_labels c.args.labels.now) c.args.body.now c.in-Block.items c.as_slice.result.now (values_in c.args.env.now) (loops_by c.args.found.now) c.in-Block.is
    c.as_slice.ensures c.loops_from.ensures

pub loops_in-returns-then-not-has_loop : goal.loops_in-returns-then-not-has_loop
loops_in-returns-then-not-has_loop t c =
    sym (none_in (search_by c.args.s.now) c.args.s.now.depth (plain_statement c.args.x.now) (values_in c.args.env.now) (loops_by c.args.found.now) (sym c.has_loop.ensures ∙ c.if-not-has_loop.true))
