use Rattle.std.proofs.Common.{◌∙◌, ap, sym, subst}
use Rattle.p10_graph.specs.private.Searching.{IsSearch, State, state_of}
use Rattle.p10_graph.proofs.Found.{open_keeps}
use Rattle.p10_graph.proofs.Groups.{none_open}
use Rattle.p10_graph.proofs.search.Search.cover.Goals as goal

pub loop-start-init : goal.loop-start-init
loop-start-init c = record {
  keeps = subst (IsSearch c.args.graph.now) (sym c.in_ok-open_next.ensures) (open_keeps c.args.graph.now (state_of c.args.self.now) c.requires.keeps c.requires.none c.requires.left);
  covered = ap (λ (s : State). s.covered) c.in_ok-open_next.ensures;
}

pub returns-clause-none : goal.returns-clause-none
returns-clause-none c = none_open _ _ c.loop-start.invariant.keeps.begins (sym c.top.ensures ∙ c.in_default.is)
