use Rattle.std.proofs.Common.{◌≡◌, ◌++◌, drop, map}
use Rattle.p10_core.specs.Views.{plain_item}
use Rattle.p10_pass.specs.Manners.{manner_by}
use Rattle.p10_clean.specs.Statements.{flaws_in_items}
use Rattle.p10_clean.specs.private.Code.{settings_of}
use Rattle.p10_clean.proofs.values.Look.put_items.Given as goal

-- what is put and what is left are what the whole gives
abbrev pub invariant-loop-item : goal.invariant-loop-item
invariant-loop-item l = record {
  same : l.env ≡ l.initial.env;
  rest : l.flaws.items ++ flaws_in_items (manner_by l.self.m.now) (settings_of l.self.set.now) (map plain_item (drop l.item-index l.items)) l.env.values ≡ l.initial.flaws.items ++ flaws_in_items (manner_by l.self.m.now) (settings_of l.self.set.now) (map plain_item l.items) l.env.values;
}
