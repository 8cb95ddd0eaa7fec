use Rattle.std.proofs.Common.{◌∙◌, ap, arith, sym}
use Rattle.p10_graph.specs.declared.search.Search.{Search}
use Rattle.p10_graph.specs.private.Searching.{settled, state_of}
use Rattle.p10_graph.proofs.Advancing.{finishes, is_last, last_within, late_enough, merges, place_within, settles, visits}
use Rattle.p10_graph.proofs.Marks.{open_unseen}
use Rattle.p10_graph.proofs.search.Search.advance.Goals as goal
use Rattle.p10_graph.proofs.search.Search.advance.Goals.{in_default-via-in-Open+else-at-start, in_default-via-in_default}

pub index-node-requires : goal.index-node-requires
index-node-requires c =
    let within = place_within c.args.graph.now _ c.args.place c.requires.keeps c.requires.unfinished in
    let long = c.args.self.now.open_nodes.ok.0 in omega arith

pub successors-requires : goal.successors-requires
successors-requires c =
    let last = is_last c.args.graph.now _ c.args.start c.args.place c.index-node.result.now c.requires.keeps c.requires.last c.requires.unfinished c.requires.within c.index-node.ensures in
    let within = last_within c.args.graph.now _ c.args.start c.args.place c.index-node.result.now c.requires.keeps last in
    let long = c.requires.keeps.counted in omega arith

pub index-requires : goal.index-requires
index-requires c =
    let last = is_last c.args.graph.now _ c.args.start c.args.place c.index-node.result.now c.requires.keeps c.requires.last c.requires.unfinished c.requires.within c.index-node.ensures in
    let within = last_within c.args.graph.now _ c.args.start c.args.place c.index-node.result.now c.requires.keeps last in
    let long = c.args.self.now.done.ok.0 in omega arith

pub returns-in-None : goal.returns-in-None
returns-in-None c =
    finishes c.args.graph.now _ _ c.args.start c.args.place c.index-node.result.now c.index.result.now c.successors.result.now
    (record { keeps = c.requires.keeps; group = c.requires.last; top = c.requires.unfinished; within = c.requires.within; node_is = c.index-node.ensures; row_is = c.successors.ensures.list; next_is = c.index.ensures })
    c.in-None.ensures.lookup.3 c.finish.ensures

pub returns-in-Unseen : goal.returns-in-Unseen
returns-in-Unseen c =
    visits c.args.graph.now _ _ c.args.start c.args.place c.index-node.result.now c.index.result.now c.successors.result.now c.in-Some.end.now c.index-in-Some.result.now c.visit.result
    (record { keeps = c.requires.keeps; group = c.requires.last; top = c.requires.unfinished; within = c.requires.within; node_is = c.index-node.ensures; row_is = c.successors.ensures.list; next_is = c.index.ensures })
    c.in-Some.ensures.lookup.3.0 c.in-Some.ensures.lookup.1
    (let held = c.successors.ensures.held c.index.result.now c.in-Some.end.now c.in-Some.ensures.lookup.3.0 in let same = c.in-Some.ensures.lookup.1 in omega arith)
    c.index-in-Some.ensures c.in-Unseen.is c.visit.ensures

pub returns-in-Open : goal.returns-in-Open
returns-in-Open c =
    merges c.args.graph.now _ _ c.args.start c.args.place c.index-node.result.now c.index.result.now c.successors.result.now c.in-Some.end.now c.in-Open.at c.index-in-Some.result.now
    (record { keeps = c.requires.keeps; group = c.requires.last; top = c.requires.unfinished; within = c.requires.within; node_is = c.index-node.ensures; row_is = c.successors.ensures.list; next_is = c.index.ensures })
    c.in-Some.ensures.lookup.3.0 c.in-Some.ensures.lookup.1
    (let held = c.successors.ensures.held c.index.result.now c.in-Some.end.now c.in-Some.ensures.lookup.3.0 in let same = c.in-Some.ensures.lookup.1 in omega arith)
    c.index-in-Some.ensures c.in-Open.is c.if-at-start.true c.merge.ensures

pub returns-in_default : goal.returns-in_default
returns-in_default c =
    settles c.args.graph.now _ _ c.args.start c.args.place c.index-node.result.now c.index.result.now c.successors.result.now c.in-Some.end.now c.index-in-Some.result.now
    (record { keeps = c.requires.keeps; group = c.requires.last; top = c.requires.unfinished; within = c.requires.within; node_is = c.index-node.ensures; row_is = c.successors.ensures.list; next_is = c.index.ensures })
    c.in-Some.ensures.lookup.3.0 c.in-Some.ensures.lookup.1
    (let held = c.successors.ensures.held c.index.result.now c.in-Some.end.now c.in-Some.ensures.lookup.3.0 in let same = c.in-Some.ensures.lookup.1 in omega arith)
    c.index-in-Some.ensures
    (elim c.in_default.branch [
      | in_default-via-in-Open+else-at-start w ↦ (λ unseen. open_unseen w.in-Open.at (sym w.in-Open.is ∙ unseen))
      | in_default-via-in_default w ↦ w.in_default.not-Unseen
    ])
    (elim c.in_default.branch [
      | in_default-via-in-Open+else-at-start w ↦ (λ at open_at. late_enough c.args.start w.in-Open.at at (sym w.in-Open.is ∙ open_at) w.if-at-start.false)
      | in_default-via-in_default w ↦ (λ at open_at. absurd (w.in_default.not-Open at open_at))
    ])
    (elim c.in_default.branch [
      | in_default-via-in-Open+else-at-start w ↦ c.settle.ensures ∙ ap (λ (s : Search). settled (state_of s) c.index-node.result.now) w.self-is
      | in_default-via-in_default w ↦ c.settle.ensures ∙ ap (λ (s : Search). settled (state_of s) c.index-node.result.now) w.self-is
    ])
