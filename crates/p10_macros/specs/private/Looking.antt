-- What the next word and those after it are.
use Rattle.std.specs.Prelude.{ℕ, List, [], ◌∷◌, Bool, false, ◌||◌, is_none, if◌then◌else◌, Option, Some, None}
use Rattle.p10_base.specs.declared.span.Span.{Span}
use Rattle.p10_base.specs.declared.report.Family.TheVariants.{D}
use Rattle.p10_base.specs.Words.{PlainWord, is_name_kind}
use Rattle.p10_direct.specs.Directives.{PlainMacro}
use Rattle.p10_macros.specs.declared.pending.Pending.{Pending}
use Rattle.p10_macros.specs.declared.replaced.ReplaceFault.{ReplaceFault}
use Rattle.p10_macros.specs.declared.replaced.ReplaceFault.TheVariants as fault
use Rattle.p10_macros.specs.Table.{Table, macro_named}
use Rattle.p10_macros.specs.Uses.{opens, Sourced}
use Rattle.p10_macros.specs.private.Links.{word_of}

-- whether the next pending word is a `(`
abbrev pub opens_on_top : List Pending → Bool
opens_on_top [] = false
opens_on_top (pending ∷ items) = opens (word_of pending)

-- the macro, where its name is a use
abbrev pub used_where : Bool → Option PlainMacro → Option PlainMacro
used_where open' None = None
used_where open' (Some plain) = if is_none plain.parameters || open' then Some plain else None

-- the macro that a word uses, where these words are pending after it
abbrev pub macro_used : Table → List Pending → PlainWord → Option PlainMacro
macro_used table items word = if is_name_kind word.kind then used_where (opens_on_top items) (macro_named word.text table) else None

-- the refusal with this number among those of uses, at this place
abbrev pub refusal_at : ℕ → Span → ReplaceFault
refusal_at number at = fault.Refused (record { family = D; number = number; span = at })

-- whether the first of the words is a `(`
abbrev pub next_opens : List Sourced → Bool
next_opens [] = false
next_opens (word ∷ words) = opens word.word
