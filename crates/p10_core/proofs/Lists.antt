-- Rows of trees as lists.
use Rattle.std.proofs.Common.{◌≡◌, ℕ, List, refl, ap, rules}
use Rattle.p10_base.specs.declared.span.Span.{Span}
use Rattle.p10_core.specs.declared.typed.Library.{Library}
use Rattle.p10_core.specs.declared.typed.Value.{Value}
use Rattle.p10_core.specs.declared.typed.ValueForm.TheVariants.{Call, Builtin}
use Rattle.p10_core.specs.declared.typed.PlaceForm.TheViews.{the_lemmas}
use Rattle.p10_core.specs.declared.typed.PlaceForm.TheBlock.{Row_of-Value, end_of-Value, more_of-Value, items-the_row-Value}
use Rattle.p10_core.specs.Typed.{call, built_in, more_values}
use Rattle.p10_core.specs.Views.{value_from, plain_form, plain_row, plain_values}

pub plain_row-items : (m : _) (row : Row_of-Value m) → plain_row row ≡ plain_values (items-the_row-Value m row)
plain_row-items _ end_of-Value = refl
plain_row-items _ (more_of-Value at t f rest) = ap (more_values (value_from at t (plain_form f))) (plain_row-items _ rest)

pub plain_call : (s : Span) (n : ℕ) (all : List Value) → plain_form (Call s n all) ≡ call s n (plain_values all)
plain_call s n all = search (rules, the_lemmas, plain_row-items)

pub plain_built_in : (s : Span) (f : Library) (all : List Value) → plain_form (Builtin s f all) ≡ built_in s f (plain_values all)
plain_built_in s f all = search (rules, the_lemmas, plain_row-items)
