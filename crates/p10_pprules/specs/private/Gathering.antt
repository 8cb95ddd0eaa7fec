-- Which definitions were gathered.
use Rattle.std.specs.Prelude.{◌≡◌, ◌↔◌, List, ◌++◌, Bool, true, false, Option, Some, MatchBool}
use Rattle.std.specs.Option.{option_to_list}
use Rattle.std.specs.List.{Contains}
use Rattle.p10_base.specs.Words.{PlainWord}
use Rattle.p10_direct.specs.declared.keyword.Keyword.{Keyword}
use Rattle.p10_direct.specs.declared.keyword.Keyword.TheVariants.{Define}
use Rattle.p10_direct.specs.Directives.{Definition, IsDefinition}
use Rattle.p10_expand.specs.Obeying.{PlainObeyed}
use Rattle.p10_pprules.specs.Lines.{name_of, operands_of, IsDefined}

-- these are the definitions among the obeyed directives
abbrev pub AreDefined : List PlainObeyed → List Definition → Type 0
AreDefined obeyed definitions = (definition : Definition) → Contains definitions definition ↔ IsDefined obeyed definition

-- the definition that the words after `define` are was put after the others
pub record GathersWords (words : List PlainWord) (old new : List Definition) : Type 0 where
  pub found : Option Definition
  pub is : IsDefinition words found
  pub grown : new ≡ old ++ option_to_list found

-- whether a directive defines a macro, by its name, if it has one
abbrev pub is_define : Option Keyword → Bool
is_define (Some Define) = true
is_define _ = false

-- the definition that a line is was put after the others
abbrev pub Gathers : List PlainWord → List Definition → List Definition → Type 0
Gathers line old new = MatchBool (is_define (name_of line)) (GathersWords (operands_of line) old new) (new ≡ old)
