use Rattle.std.proofs.Common.{◌≡◌, ap, true, rules}
use Rattle.p10_core.specs.Views.{plain_place, plain_value, plain_statement_form}
use Rattle.p10_diff.specs.Knowing.{pair_by, differences_of}
use Rattle.p10_diff.proofs.Statements.{is_ranged, set_after, ranged_after}
use Rattle.p10_diff.proofs.executing.execute.Goals as goal

pub returns-in-Set : goal.returns-in-Set
returns-in-Set c =
    set_after (pair_by c.args.p.now) c.args.s.now.at (plain_statement_form c.args.s.now.form) (plain_place c.in-Set.target) (plain_value c.in-Set.v) (differences_of c.args.e) c.set.result (ap plain_statement_form c.in-Set.is) c.set.ensures

pub returns-in-Copy : goal.returns-in-Copy
returns-in-Copy c =
    let other : is_ranged (plain_statement_form c.args.s.now.form) ≡ true = search rules in
    ranged_after (pair_by c.args.p.now) c.args.s.now.at (plain_statement_form c.args.s.now.form) (differences_of c.args.e) c.ranged.result other c.ranged.ensures
