use Rattle.std.proofs.Common.{◌≡◌, sym, subst, arith, map}
use Rattle.std.proofs.lemmas.Result.{IfOk-weaker}
use Rattle.p10_graph.specs.Components.{AreComponents}
use Rattle.p10_graph.specs.private.Searching.{number_at, state_of}
use Rattle.p10_graph.proofs.Found.{found_components}
use Rattle.p10_graph.proofs.search.components.Goals as goal

pub returns : goal.returns
returns c =
    let end = c.count-end.ensures.count in
    let found = found_components c.args.graph.now (state_of c.loop.search) (record { search = c.loop.invariant.keeps; none = c.loop.invariant.none; covered = let all = c.loop.invariant.covered in omega arith }) in
    IfOk-weaker c.numbers.result (λ numbers. numbers.items ≡ map number_at c.loop.search.marks.items) (λ numbers. AreComponents c.args.graph.now numbers.items)
    (λ numbers same. subst (AreComponents c.args.graph.now) (sym same) found) c.numbers.ensures
