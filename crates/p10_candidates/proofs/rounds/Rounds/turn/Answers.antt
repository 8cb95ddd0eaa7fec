use Rattle.std.proofs.Common.{map, sym, ◌∙◌, ap}
use Rattle.std.specs.Option.{option_map}
use Rattle.p10_core.specs.Views.{plain_variable, plain_statement}
use Rattle.p10_pass.specs.Passing.{Round}
use Rattle.p10_pass.specs.Rounds.{round_by}
use Rattle.p10_candidates.proofs.Turning.{round_is}
use Rattle.p10_candidates.proofs.rounds.Rounds.turn.Goals as goal

pub returns-in-Some-clause-enters : goal.returns-in-Some-clause-enters
returns-in-Some-clause-enters c =
    ap (λ (r : Round). r.enters) (round_is (map plain_variable c.args.self.now.variables.now) (plain_statement c.args.self.now.looped.now) c.args.head.values (round_by c.in-Some.round) (sym c.in_ok-round.ensures ∙ ap (option_map round_by) c.in-Some.is))

pub returns-in-Some-clause-back : goal.returns-in-Some-clause-back
returns-in-Some-clause-back c =
    ap (λ (r : Round). r.back) (round_is (map plain_variable c.args.self.now.variables.now) (plain_statement c.args.self.now.looped.now) c.args.head.values (round_by c.in-Some.round) (sym c.in_ok-round.ensures ∙ ap (option_map round_by) c.in-Some.is))
