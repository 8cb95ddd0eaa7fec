use Rattle.std.proofs.Common.{◌≡◌, ℕ, ◌∙◌, ap, arith, length, replicate}
use Rattle.p10_graph.specs.declared.search.Mark.TheVariants.{Unseen}
use Rattle.p10_graph.proofs.Found.{begin_as}
use Rattle.p10_graph.proofs.search.Search.new.Goals as goal

pub returns-clause-keeps : goal.returns-clause-keeps
returns-clause-keeps c =
    let all : c.loop.counter ≡ length c.args.graph.now = let end = c.count-end.ensures.count in omega arith in
    begin_as c.args.graph.now _ _ _ _ _ c.count-end.ensures.whole.few (c.loop.invariant.marks ∙ ap (λ (n : ℕ). replicate n Unseen) all) (c.loop.invariant.done ∙ ap (λ (n : ℕ). replicate n 0) all)
    c.new.ensures.items c.new-2.ensures.items c.new-3.ensures.items
