use Rattle.std.proofs.Common.{◌≡◌, ◌++◌, drop}
use Rattle.p10_core.specs.Views.{plain_values}
use Rattle.p10_pass.specs.Manners.{manner_by}
use Rattle.p10_clean.specs.Values.{flaws_in_values}
use Rattle.p10_clean.specs.private.Code.{settings_of}
use Rattle.p10_clean.proofs.values.Look.+looking.Given as goal

-- what is put and what is left are what the whole gives
abbrev pub invariant-put_values-loop-v : goal.invariant-put_values-loop-v
invariant-put_values-loop-v l = record {
  same : l.env ≡ l.initial.env;
  rest : l.flaws.items ++ flaws_in_values (manner_by l.self.m.now) (settings_of l.self.set.now) (plain_values (drop l.v-index l.all)) l.env.values ≡ l.initial.flaws.items ++ flaws_in_values (manner_by l.self.m.now) (settings_of l.self.set.now) (plain_values l.all) l.env.values;
}
