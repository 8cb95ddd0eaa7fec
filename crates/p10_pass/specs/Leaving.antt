-- What the code's ends of statements are.
use Rattle.std.specs.Prelude.{map, Option}
use Rattle.std.specs.Option.{option_map}
use Rattle.p10_range.specs.Ranges.{interval_of}
use Rattle.p10_absx.specs.Environments.{Environment}
use Rattle.p10_absx.specs.Trails.{Branching}
use Rattle.p10_pass.specs.declared.left.Fail.{Fail}
use Rattle.p10_pass.specs.declared.left.Weak.{Weak}
use Rattle.p10_pass.specs.declared.left.Left.{Left as CodeLeft}
use Rattle.p10_pass.specs.Passing.{Failing, Weakness, Left}

-- what is known in an environment of the code, where a state may not come
abbrev pub values_in : Option Branching → Option Environment
values_in env = option_map (λ (b : Branching). b.values) env

-- a failing condition of the code
abbrev pub failing_of : Fail → Failing
failing_of f = record { k = f.k; at = f.at }

-- a loop of the code whose rank doesn't stand
abbrev pub weakness_by : Weak → Weakness
weakness_by w = record { at = w.at; entry = w.entry.values; fails = map failing_of w.fails.items }

-- what the code finds that statements leave
abbrev pub left_of : CodeLeft → Left
left_of l = record {
  normal = values_in l.normal;
  breaks = values_in l.breaks;
  continues = values_in l.continues;
  returns = values_in l.returns;
  returned = option_map interval_of l.returned;
  arguments = l.arguments.items;
  results = l.results.items;
  entries = l.entries.items;
  backs = l.backs.items;
  weak = map weakness_by l.weak.items;
}
