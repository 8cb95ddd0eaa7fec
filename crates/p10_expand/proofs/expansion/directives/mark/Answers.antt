use Rattle.std.proofs.Common.{List, ap}
use Rattle.p10_base.specs.Words.{PlainWord}
use Rattle.p10_expand.specs.Obeying.{State}
use Rattle.p10_expand.specs.private.Steps.{state_of}
use Rattle.p10_expand.proofs.LineWords.{marked}
use Rattle.p10_expand.proofs.expansion.directives.mark.Goals as goal

pub returns : goal.returns
returns c =
    ap (λ (all : List PlainWord). let new : State = record (state_of c.args.state.now) { words = all } in new)
    (marked c.args.line.now _ c.args.state.now.words.items c.push.new.self.items c.requires c.in_ok-push.ensures.items)
