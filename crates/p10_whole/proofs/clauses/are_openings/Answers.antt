use Rattle.std.proofs.Common.{◌≡◌, true, ◌||◌, rules}
use Rattle.p10_core.specs.Views.{plain_statement}
use Rattle.p10_core.specs.WholePrograms.{is_variable_declaration, is_expression}
use Rattle.p10_whole.proofs.Openings.{all_next, all_end}
use Rattle.p10_whole.proofs.clauses.are_openings.Goals as goal

pub loop-s-preserved : goal.loop-s-preserved
loop-s-preserved c =
    let passed : (is_variable_declaration (plain_statement c.s-item.result) || is_expression (plain_statement c.s-item.result)) ≡ true = search rules in
    all_next (λ s. is_variable_declaration s || is_expression s) _ c.args.all.now c.loop-s.s-index c.s-item.result c.loop-s-test.true c.s-item.is passed c.loop-s.invariant

pub returns : goal.returns
returns c = record { shows = λ _. c.loop-s.invariant (all_end (λ s. is_variable_declaration s || is_expression s) c.args.all.now c.loop-s.s-index c.loop-s-test.false) }
