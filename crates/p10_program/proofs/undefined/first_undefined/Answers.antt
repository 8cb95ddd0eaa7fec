-- What the next node uses is looked at after those that were passed.
use Rattle.std.proofs.Common.{ℕ, ◌∙◌, List, refl, ap}
use Rattle.p10_core.specs.Nodes.{PlainNode}
use Rattle.p10_core.specs.Uses.{function_used, object_used}
use Rattle.p10_core.specs.Walks.{plain_node, left_in}
use Rattle.p10_elabx.specs.declared.problem.Problem.{Problem}
use Rattle.p10_program.specs.Undefined.{undefined_among}
use Rattle.p10_program.specs.FirstProblems.{first_with}
use Rattle.p10_program.specs.private.Using.{use_undefined}
use Rattle.p10_program.proofs.FirstUses.{walked, ended, turned, turned_all, undefined_next}
use Rattle.p10_program.proofs.undefined.first_undefined.Goals as goal

pub loop-node-preserved : goal.loop-node-preserved
loop-node-preserved c =
    let n : PlainNode = plain_node c.in-Some.node in
    let functions : ℕ = c.args.functions in
    let objects : ℕ = c.args.objects in
    let of : List PlainNode → List Problem = undefined_among functions objects in
    turned of (use_undefined functions objects (function_used n) (object_used n)) c.loop-node.found c.first_with-found.result n (left_in c.loop-node.nodes) (left_in c.next.new.self)
    (walked c.in_ok-node.field-0 c.in-Some.node (left_in c.loop-node.nodes) (left_in c.next.new.self) c.in-Some.is c.in_ok-node.ensures.walks) (undefined_next functions objects n (left_in c.next.new.self)) (c.first_with-found.ensures ∙ ap (first_with c.loop-node.found) c.in_ok-problem.ensures)
    ∙ c.loop-node.invariant

pub returns : goal.returns
returns c =
    turned_all (undefined_among c.args.functions c.args.objects) c.loop-node.found (left_in c.loop-node.nodes) refl (ended c.in_ok-node.field-0 (left_in c.loop-node.nodes) (left_in c.next.new.self) c.in_default.is c.in_ok-node.ensures.walks) ∙ c.loop-node.invariant
