-- Defined macros of the code, as plain values.
use Rattle.std.specs.Prelude.{ℕ, Bool, true, false, Option, Some, None}
use Rattle.p10_direct.specs.Directives.{PlainMacro}
use Rattle.p10_direct.specs.Form.{plain_macro}
use Rattle.p10_macros.specs.declared.known.Known.{Known}

-- the macro of an entry
abbrev pub plain_known : Known → PlainMacro
plain_known known = plain_macro known.made

-- how many one macro is of those that no built-in header defined
abbrev pub own_if : Bool → ℕ
own_if true = 0
own_if false = 1

-- how many it is, where there is one macro or none
abbrev pub own_of_one : Option Known → ℕ
own_of_one None = 0
own_of_one (Some known) = own_if known.builtin
