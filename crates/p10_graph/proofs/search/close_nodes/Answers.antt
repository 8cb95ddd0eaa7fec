use Rattle.std.proofs.Common.{◌+◌, ℕ, ◌∙◌, ap, sym, arith, length, map, add-zero, add_assoc}
use Rattle.std.proofs.lemmas.List.{length-map}
use Rattle.p10_graph.proofs.ClosingLoop.{closing_all, closing_next, closing_none, closing_to, length-from_place, node_from, placed_within}
use Rattle.p10_graph.proofs.search.close_nodes.Goals as goal

pub loop-node-init : goal.loop-node-init
loop-node-init c =
    sym (ap (λ (n : ℕ). map (closing_to c.args.start n c.args.number) c.args.marks.now) (add-zero c.args.start) ∙ closing_none c.args.start c.args.number c.args.marks.now)

pub bounds-marks-node : goal.bounds-marks-node
bounds-marks-node c =
    let at = node_from c.args.start c.loop-node.node-index c.args.open_nodes.now (omega arith) in
    let within = placed_within c.args.marks.now c.args.open_nodes.now _ _ c.requires.agree at in
    let long = ap length c.loop-node.invariant ∙ length-map c.args.marks.now (closing_to c.args.start (c.args.start + c.loop-node.node-index) c.args.number) in
    omega arith

pub loop-node-preserved : goal.loop-node-preserved
loop-node-preserved c =
    let at = node_from c.args.start c.loop-node.node-index c.args.open_nodes.now (omega arith) in
    closing_next c.args.start (c.args.start + c.loop-node.node-index) c.args.number c.args.marks.now c.loop-node.marks c.args.open_nodes.now _ c.requires.agree (omega arith) at
    (placed_within c.args.marks.now c.args.open_nodes.now _ _ c.requires.agree at) c.loop-node.invariant
    ∙ ap (λ (n : ℕ). map (closing_to c.args.start n c.args.number) c.args.marks.now) (add_assoc c.args.start c.loop-node.node-index 1)

pub returns : goal.returns
returns c =
    let long = length-from_place c.args.start c.args.open_nodes.now in
    c.loop-node.invariant ∙ closing_all c.args.start (c.args.start + c.loop-node.node-index) c.args.number c.args.marks.now c.args.open_nodes.now c.requires.agree (omega arith)
