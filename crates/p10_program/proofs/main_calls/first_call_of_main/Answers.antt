-- A call by the next node is looked at after those that were passed.
use Rattle.std.proofs.Common.{ℕ, ◌∙◌, Some, refl, ap}
use Rattle.p10_core.specs.Nodes.{PlainNode}
use Rattle.p10_core.specs.Uses.{function_used}
use Rattle.p10_core.specs.Walks.{plain_node, left_in}
use Rattle.p10_program.specs.Mains.{calls_of_main}
use Rattle.p10_program.specs.FirstProblems.{first_with}
use Rattle.p10_program.specs.private.Using.{main_used}
use Rattle.p10_program.proofs.FirstUses.{walked, ended, turned, turned_all, main_next}
use Rattle.p10_program.proofs.main_calls.first_call_of_main.Goals as goal

pub loop-node-preserved : goal.loop-node-preserved
loop-node-preserved c =
    let n : PlainNode = plain_node c.in-Some.node in
    let main : ℕ = c.args.main in
    turned (calls_of_main (Some main)) (main_used main (function_used n)) c.loop-node.found c.first_with-found.result n (left_in c.loop-node.nodes) (left_in c.next.new.self)
    (walked c.in_ok-node.field-0 c.in-Some.node (left_in c.loop-node.nodes) (left_in c.next.new.self) c.in-Some.is c.in_ok-node.ensures.walks) (main_next main n (left_in c.next.new.self)) (c.first_with-found.ensures ∙ ap (first_with c.loop-node.found) c.in_ok-problem.ensures)
    ∙ c.loop-node.invariant

pub returns : goal.returns
returns c = turned_all (calls_of_main (Some c.args.main)) c.loop-node.found (left_in c.loop-node.nodes) refl (ended c.in_ok-node.field-0 (left_in c.loop-node.nodes) (left_in c.next.new.self) c.in_default.is c.in_ok-node.ensures.walks) ∙ c.loop-node.invariant
