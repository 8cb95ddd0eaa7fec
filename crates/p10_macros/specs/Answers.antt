-- What the functions of this crate answer.
use Rattle.std.specs.Prelude.{ℕ, ◌≡◌, List, map, Bool, true, false, None, IsSomeAnd}
use Rattle.p10_base.specs.declared.report.Family.TheVariants.{D}
use Rattle.p10_base.specs.Words.{PlainWord, plain_word}
use Rattle.p10_macros.specs.declared.table.Macros.{Macros}
use Rattle.p10_macros.specs.declared.table.Effect.{Effect}
use Rattle.p10_macros.specs.declared.table.Effect.TheVariants.{New, Same, Other}
use Rattle.p10_macros.specs.declared.replaced.Replaced.{Replaced}
use Rattle.p10_macros.specs.declared.replaced.ReplaceFault.{ReplaceFault}
use Rattle.p10_macros.specs.declared.replaced.ReplaceFault.TheVariants as fault
use Rattle.p10_direct.specs.Directives.{PlainMacro}
use Rattle.p10_macros.specs.Table.{Table, macro_named, same_macro, with_macro}
use Rattle.p10_macros.specs.Known.{table_among}
use Rattle.p10_macros.specs.Uses.{Sourced, written, sourced_words}
use Rattle.p10_macros.specs.Endings.{Gives, Refused, TooMany}
use Rattle.p10_macros.specs.Ends.{Ends}

-- the macros that are defined
abbrev pub table_of : Macros → Table
table_of macros = table_among macros.kept.items

-- the answer to a definition, and the table after it
abbrev pub Defines : Table → PlainMacro → Bool → Effect → Table → Type 0
Defines old made builtin New new = (macro_named made.name old ≡ None) × (new ≡ with_macro old made builtin)
Defines old made builtin Same new = IsSomeAnd (macro_named made.name old) (λ known. same_macro known made ≡ true) × (new ≡ old)
Defines old made builtin Other new = IsSomeAnd (macro_named made.name old) (λ known. same_macro known made ≡ false) × (new ≡ old)

-- the words that come of the words of a source
abbrev pub IsReplaced : Table → List PlainWord → ℕ → Replaced → Type 0
IsReplaced table words left replaced =
    (made : List Sourced) × Ends table None (map written words) left (Gives made replaced.left) × (sourced_words made ≡ map plain_word replaced.words.items)

-- why there are none
abbrev pub IsFault : Table → List PlainWord → ℕ → ReplaceFault → Type 0
IsFault table words left (fault.Refused refusal) = (refusal.family ≡ D) × Ends table None (map written words) left (Refused refusal.number refusal.span)
IsFault table words left fault.TooMany = Ends table None (map written words) left TooMany
IsFault table words left fault.Memory = Unit {0}
