-- Names by which functions are defined.
use Rattle.std.specs.Prelude.{◌≡◌, true, Some}
use Rattle.p10_base.specs.declared.at.At.{At}
use Rattle.p10_syn.specs.Trees.{Identifier, External, Outer, Defines}
use Rattle.p10_cert.specs.Lines.{is_name}
use Rattle.p10_elabd.specs.Shapes.{name_in}

-- if this is a function, the name that its declarator declares is one of C (C99 6.4.2.1, 6.9.1)
abbrev pub HasName : External At → Type 0
HasName (Outer at d) = Unit {0}
HasName (Defines d) = (x : Identifier At) → name_in d.declarator ≡ Some x → is_name x.name ≡ true
