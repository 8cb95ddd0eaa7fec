-- What is known in a function, as the code keeps it.
use Rattle.std.specs.Prelude.{ℕ, Option, option_map, List, map, Vec}
use Rattle.std.specs.declared.alloc.Global.{Global as Memory}
use Rattle.p10_core.specs.declared.program.Global.{Global}
use Rattle.p10_core.specs.declared.statements.Label.{Label}
use Rattle.p10_core.specs.declared.statements.Stmt.{Stmt}
use Rattle.p10_core.specs.Typed.{PlainObject, PlainStatement}
use Rattle.p10_core.specs.Views.{plain_variable, plain_object, plain_statement}
use Rattle.p10_elabd.specs.Views.{plain_standing}
use Rattle.p10_elabs.specs.declared.local.Local.{Local as CodeLocal}
use Rattle.p10_elabs.specs.declared.labels.Labelled.{Labelled as CodeLabelled}
use Rattle.p10_elabs.specs.Locals.{Local, Done}
use Rattle.p10_elabs.specs.Statements.{Labelled}
use Rattle.p10_elabs.specs.private.CaseLabels.{known_cases}

-- an object with its number
abbrev pub numbered_object : ℕ × Global → ℕ × PlainObject
numbered_object o = (o.0, plain_object o.1)

-- what a body has so far
abbrev pub plain_local : CodeLocal → Local
plain_local l = record {
  standing = plain_standing l.standing;
  count = l.count;
  variables = map plain_variable l.variables.items;
  objects = map numbered_object l.objects.items;
  loops = l.loops;
}

-- what a part of a body makes, and what the body has then
abbrev pub done_as : {A : Type 0} → Option A → CodeLocal → Done A
done_as made l = record { made = made; after = plain_local l }

-- items, if none was refused
abbrev pub plain_items : Option (Vec Stmt Memory) → Option (List PlainStatement)
plain_items made = option_map (λ items. map plain_statement items.items) made

-- labels, if none was refused
abbrev pub plain_cases : Option (Vec Label Memory) → Option (List Label)
plain_cases cases = option_map (λ all. all.items) cases

-- the labels of a `switch` so far, and what the body has then
abbrev pub plain_labelled : CodeLabelled → Local → Labelled
plain_labelled k l = record { cases = known_cases k.cases; otherwise = k.otherwise; after = l }
