-- The numbers that nodes name.
use Rattle.std.specs.Prelude.{ℕ, Option}
use Rattle.p10_core.specs.Nodes.{PlainNode}
use Rattle.p10_warn.specs.declared.numbers.Named.{Named}
use Rattle.p10_warn.specs.declared.numbers.Named.TheVariants.{Variable, Object, Function}
use Rattle.p10_warn.specs.Naming.{named_variable, named_object, called_function}

-- the number of this kind that a node names
abbrev pub number_named : Named → PlainNode → Option ℕ
number_named Variable node = named_variable node
number_named Object node = named_object node
number_named Function node = called_function node
