use Rattle.std.proofs.Common.{◌∙◌, arith, sym, subst}
use Rattle.std.proofs.lemmas.Option.{same_Some}
use Rattle.p10_graph.specs.private.Searching.{IsStep, state_of}
use Rattle.p10_graph.proofs.Groups.{begin_within}
use Rattle.p10_graph.proofs.Closing.{close_step}
use Rattle.p10_graph.proofs.search.Search.step.Goals as goal
use Rattle.p10_graph.proofs.search.Search.step.Goals.{in_default-via-in-Some+else-start-place, in_default-via-in_default}

pub close-requires-clause-start : goal.close-requires-clause-start
close-requires-clause-start c = let within = begin_within _ c.args.start _ c.requires.keeps.begins c.requires.last in omega arith

pub close-requires-clause-room : goal.close-requires-clause-room
close-requires-clause-room c =
    let within = begin_within _ c.args.start _ c.requires.keeps.begins c.requires.last in
    let few = c.requires.keeps.few in
    let room = c.requires.keeps.room in
    omega arith

pub returns-in_default : goal.returns-in_default
returns-in_default c =
    subst (IsStep c.args.graph.now (state_of c.args.self.now)) (sym c.close.ensures) (close_step c.args.graph.now (state_of c.args.self.now) c.args.start c.requires.keeps (record {
      group = c.requires.last;
      below = elim c.in_default.branch [
        | in_default-via-in-Some+else-start-place w ↦ (λ top at. let same = same_Some w.in-Some.place top (sym w.in-Some.is ∙ c.top.ensures ∙ at) in let low = w.if-start-place.false in omega arith)
        | in_default-via-in_default w ↦ (λ top at. absurd (w.in_default.not-Some top (c.top.ensures ∙ at)))
      ];
    }))
