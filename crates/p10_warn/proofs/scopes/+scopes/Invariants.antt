use Rattle.std.proofs.Common.{◌≡◌, ◌++◌, drop}
use Rattle.p10_core.specs.Views.{plain_statements}
use Rattle.p10_warn.specs.Scopes.{names_after, declarations_among}
use Rattle.p10_warn.specs.private.Contexts.{objects_known, variables_known, listed_by}
use Rattle.p10_warn.specs.private.ScopeNames.{names_in}
use Rattle.p10_warn.proofs.scopes.+scopes.Given as goal

-- the names and violations of the statements so far, and of those that are left, are those of all
abbrev pub invariant-push_among-loop-statement : goal.invariant-push_among-loop-statement
invariant-push_among-loop-statement l = record {
  names : names_after (objects_known l.context) (variables_known l.context) (names_in l.names) (plain_statements (drop l.statement-index l.all))
      ≡ names_after (objects_known l.context) (variables_known l.context) (names_in l.initial.names) (plain_statements l.all);
  violations : l.violations.items ++ listed_by l.context (declarations_among (objects_known l.context) (variables_known l.context) (names_in l.names) (plain_statements (drop l.statement-index l.all)))
      ≡ l.initial.violations.items ++ listed_by l.context (declarations_among (objects_known l.context) (variables_known l.context) (names_in l.initial.names) (plain_statements l.all));
}
