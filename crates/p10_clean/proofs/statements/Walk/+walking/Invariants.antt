use Rattle.std.proofs.Common.{◌≡◌, ◌+◌, ◌*◌, ◌++◌, drop}
use Rattle.p10_core.specs.Views.{plain_labels, plain_statements}
use Rattle.p10_pass.specs.Arguments.{where_reached}
use Rattle.p10_pass.specs.Passing.{where_going, pass_statements}
use Rattle.p10_pass.specs.Leaving.{values_in}
use Rattle.p10_pass.specs.Manners.{manner_by}
use Rattle.std.proofs.Common.{None}
use Rattle.p10_clean.specs.Settings.{ways_of_all}
use Rattle.p10_clean.specs.Statements.{flaws_in_statements, flaws_from}
use Rattle.p10_clean.specs.private.Code.{settings_of}
use Rattle.p10_clean.proofs.statements.Walk.+walking.Given as goal

-- what is left, after what was passed, gives what the whole gives

abbrev pub invariant-put_all-loop-s : goal.invariant-put_all-loop-s
invariant-put_all-loop-s l = record {
  known : (where_going (values_in l.at.known) (pass_statements (manner_by l.self.m.now) (plain_statements (drop l.s-index l.items)))).normal
      ≡ (where_going (values_in l.initial.at.known) (pass_statements (manner_by l.self.m.now) (plain_statements l.items))).normal;
  set_there : (ways_of_all (plain_statements (drop l.s-index l.items)) (settings_of l.at.set)).normal ≡ (ways_of_all (plain_statements l.items) (settings_of l.initial.at.set)).normal;
  put : l.flaws.items ++ where_reached (values_in l.at.known) (λ env. flaws_in_statements (manner_by l.self.m.now) (plain_statements (drop l.s-index l.items)) (settings_of l.at.set) env)
      ≡ l.initial.flaws.items ++ where_reached (values_in l.initial.at.known) (λ env. flaws_in_statements (manner_by l.self.m.now) (plain_statements l.items) (settings_of l.initial.at.set) env);
}

abbrev pub invariant-put_cases-loop-k : goal.invariant-put_cases-loop-k
invariant-put_cases-loop-k l =
    l.flaws.items ++ flaws_from (manner_by l.self.m.now) (plain_labels l.labels) l.k (plain_statements (drop l.k l.items)) (settings_of l.set) l.env.values (settings_of l.at.set) (values_in l.at.known)
    ≡ l.initial.flaws.items ++ flaws_from (manner_by l.self.m.now) (plain_labels l.labels) 0 (plain_statements l.items) (settings_of l.set) l.env.values None None

-- a tree that is handed on unchanged goes to a function that is lower

abbrev pub decreases-put_round : goal.decreases-put_round
decreases-put_round l = 16 * goal.size-put_round l

abbrev pub decreases-put_from_entry : goal.decreases-put_from_entry
decreases-put_from_entry l = 16 * goal.size-put_from_entry l + 1

abbrev pub decreases-put_entered : goal.decreases-put_entered
decreases-put_entered l = 16 * goal.size-put_entered l + 2

abbrev pub decreases-put_loop : goal.decreases-put_loop
decreases-put_loop l = 16 * goal.size-put_loop l + 3

abbrev pub decreases-put_branches : goal.decreases-put_branches
decreases-put_branches l = 16 * goal.size-put_branches l + 3

abbrev pub decreases-put_otherwise : goal.decreases-put_otherwise
decreases-put_otherwise l = 16 * goal.size-put_otherwise l + 6

abbrev pub decreases-put_switch : goal.decreases-put_switch
decreases-put_switch l = 16 * goal.size-put_switch l + 3

abbrev pub decreases-put_statement : goal.decreases-put_statement
decreases-put_statement l = 16 * goal.size-put_statement l + 4

abbrev pub decreases-put_there : goal.decreases-put_there
decreases-put_there l = 16 * goal.size-put_there l + 5

abbrev pub decreases-put_reached : goal.decreases-put_reached
decreases-put_reached l = 16 * goal.size-put_reached l + 5

abbrev pub decreases-put_next : goal.decreases-put_next
decreases-put_next l = 16 * goal.size-put_next l + 6

abbrev pub decreases-put_all : goal.decreases-put_all
decreases-put_all l = 16 * goal.size-put_all l + 9

abbrev pub decreases-put_block : goal.decreases-put_block
decreases-put_block l = 16 * goal.size-put_block l + 10

abbrev pub decreases-put_cases : goal.decreases-put_cases
decreases-put_cases l = 16 * goal.size-put_cases l + 9

abbrev pub decreases-put_switched : goal.decreases-put_switched
decreases-put_switched l = 16 * goal.size-put_switched l
