use Rattle.std.proofs.Common.{◌≡◌, ◌≤◌, map}
use Rattle.p10_syn.specs.Scopes.{Scope}
use Rattle.p10_syn.specs.Declaring.{after_init_declarators}
use Rattle.p10_syn.specs.Trees.{specifier_row}
use Rattle.p10_syn.specs.Built.{bare_specifier_of}
use Rattle.p10_syn.specs.BuiltStatements.{bare_init_declarator_of}
use Rattle.p10_parse.specs.ExternalReading.{builders}
use Rattle.p10_parse.proofs.declaration.all_further.Given as goal

abbrev pub invariant-loop-fuel : goal.invariant-loop-fuel
invariant-loop-fuel l = record {
  left : l.fuel ≤ l.budget;
  scope : (names : Scope) → l.fn.scope ≡ after_init_declarators names (specifier_row (map bare_specifier_of l.specs)) (map bare_init_declarator_of l.fn.all.items) → l.scope ≡ after_init_declarators names (specifier_row (map bare_specifier_of l.specs)) (map bare_init_declarator_of l.all.items);
  same : (builders l.fuel).declarators l.scope (specifier_row (map bare_specifier_of l.specs)) (map bare_init_declarator_of l.all.items) l.cursor ≡ (builders l.budget).declarators l.fn.scope (specifier_row (map bare_specifier_of l.specs)) (map bare_init_declarator_of l.fn.all.items) l.fn.cursor;
}

abbrev pub decreases-loop-fuel : goal.decreases-loop-fuel
decreases-loop-fuel l = l.fuel
