-- Which names the lists of macros lead to (Holzmann, "The Power of Ten", rule 8: no recursive macro calls).
use Rattle.std.specs.Prelude.{◌≡◌, List, [], unwrap_or}
use Rattle.std.specs.List.{Contains}
use Rattle.p10_base.specs.Words.{PlainWord, Text, spellings_of}
use Rattle.p10_direct.specs.Directives.{Definition, IsNamed}
use Rattle.p10_expand.specs.Obeying.{PlainObeyed}
use Rattle.p10_pprules.specs.Lines.{IsDefined}

-- the parameters of a function-like macro, and none of another one
abbrev pub parameters_of : Definition → List PlainWord
parameters_of definition = unwrap_or definition.parameters []

-- a name stands in the list of a definition, and is none of its parameters
pub record Uses (definition : Definition) (name : Text) : Type 0 where
  pub word : PlainWord
  pub held : Contains definition.body word
  pub named : IsNamed name word
  pub free : Contains (spellings_of (parameters_of definition)) name → ⊥

-- A name leads to itself, and by each obeyed definition of it to wherever a name that this definition uses leads.
pub data Leads (obeyed : List PlainObeyed) : Text → Text → Type 0 where
  here : (name : Text) → Leads obeyed name name
  further : (from next to : Text) (definition : Definition) → IsDefined obeyed definition → definition.name.text ≡ from
      → Uses definition next → Leads obeyed next to → Leads obeyed from to

-- a name that the definition uses leads to the name that it defines
pub record IsRecursive (obeyed : List PlainObeyed) (definition : Definition) : Type 0 where
  pub name : Text
  pub uses : Uses definition name
  pub back : Leads obeyed name definition.name.text
