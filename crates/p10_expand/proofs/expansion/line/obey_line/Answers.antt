use Rattle.std.proofs.Common.{map, sym, ◌∙◌}
use Rattle.p10_base.specs.Words.{plain_word}
use Rattle.p10_direct.specs.Form.{plain}
use Rattle.p10_expand.specs.private.Steps.{file_of, state_of}
use Rattle.p10_expand.proofs.Answers.{broken, done, steps_map}
use Rattle.p10_expand.proofs.expansion.line.obey_line.Goals as goal

pub returns-then-breaks-clause-gives : goal.returns-then-breaks-clause-gives
returns-then-breaks-clause-gives c =
    rw c.unbalanced.ensures
    (broken c.args.sources.now (file_of c.args.file.now) c.args.place (map plain_word c.args.line.now) (state_of c.args.state.now) _ c.in-Ok.ensures.read (sym c.breaks.ensures ∙ c.if-breaks.true))

pub returns-else-breaks-clause-gives : goal.returns-else-breaks-clause-gives
returns-else-breaks-clause-gives c =
    steps_map _ _
    (done c.args.sources.now (file_of c.args.file.now) c.args.place (map plain_word c.args.line.now) (state_of c.args.state.now) (plain c.in-Ok.read) c.in-Ok.ensures.read (sym c.breaks.ensures ∙ c.if-breaks.false))
    c.obey.result c.obey.new.state c.obey.ensures.gives
