-- The name by which a function is defined is among the symbols that its tree spells.
use Rattle.std.proofs.Common.{◌≡◌, List, [], ◌∷◌, Some, subst}
use Rattle.std.specs.List.{AllByRecursion}
use Rattle.std.proofs.lemmas.Option.{same_Some, none-some}
use Rattle.p10_base.specs.declared.at.At.{At}
use Rattle.p10_syn.specs.declared.sign.Sign.TheVariants as sign
use Rattle.p10_syn.specs.Symbols.{Symbol, Fixed}
use Rattle.p10_syn.specs.Symbols as symbol
use Rattle.p10_syn.specs.Trees.{Identifier, Declarator, Named, Unnamed, Pointer, Parenthesised, Array, Function, External, Outer, Defines}
use Rattle.p10_syn.specs.Bare.{bare_qualifiers, bare_optional, bare_specifiers, bare_declarator, bare_parameters, bare_statements, bare_external, bare_externals}
use Rattle.p10_syn.specs.Spelling.{spell_optional, spell_declarator, spell_parameters, spell_ellipsis, spell_statements, spell_external, spell_externals}
use Rattle.p10_elabd.specs.Shapes.{name_in}
use Rattle.p10_names.proofs.Spelled.{kept_spell_qualifiers, kept_spell_specifiers, kept_spell_external}

module _ (P : Symbol → Type 0) where
  name_declared : (d : Declarator At) (rest : List Symbol) → AllByRecursion P (spell_declarator (bare_declarator d) rest) → (x : Identifier At) → name_in d ≡ Some x → P (symbol.Name x.name)
  name_declared (Named y) rest h x e = subst (λ (z : Identifier At). P (symbol.Name z.name)) (same_Some _ _ e) h.0
  name_declared (Unnamed p) rest h x e = absurd (none-some _ e)
  name_declared (Pointer p qs d) rest h x e = name_declared d rest (kept_spell_qualifiers P (bare_qualifiers qs) (spell_declarator (bare_declarator d) rest) h.1) x e
  name_declared (Parenthesised p d) rest h x e = name_declared d (Fixed sign.Close ∷ rest) h.1 x e
  name_declared (Array p d b size) rest h x e = name_declared d (Fixed sign.OpenSquare ∷ spell_optional (bare_optional size) (Fixed sign.CloseSquare ∷ rest)) h x e
  name_declared (Function p d b ps ellipsis) rest h x e = name_declared d (Fixed sign.Open ∷ spell_parameters (bare_parameters ps) (spell_ellipsis ellipsis (Fixed sign.Close ∷ rest))) h x e

  -- if it is a function, P holds of the symbol of its name
  abbrev pub NameIs : External At → Type 0
  NameIs (Outer at d) = Unit {0}
  NameIs (Defines d) = (x : Identifier At) → name_in d.declarator ≡ Some x → P (symbol.Name x.name)

  name_is : (e : External At) (rest : List Symbol) → AllByRecursion P (spell_external (bare_external e) rest) → NameIs e
  name_is (Outer at d) rest h = tt
  name_is (Defines d) rest h = λ x e. name_declared d.declarator (Fixed sign.OpenBrace ∷ spell_statements (bare_statements d.body) (Fixed sign.CloseBrace ∷ rest))
      (kept_spell_specifiers P (bare_specifiers d.specifiers) (spell_declarator (bare_declarator d.declarator) (Fixed sign.OpenBrace ∷ spell_statements (bare_statements d.body) (Fixed sign.CloseBrace ∷ rest))) h) x e

  -- what holds of each symbol holds of those of functions' names
  pub names_are : (trees : List (External At)) (rest : List Symbol) → AllByRecursion P (spell_externals (bare_externals trees) rest) → AllByRecursion NameIs trees
  names_are [] rest h = tt
  names_are (e ∷ es) rest h =
      (name_is e (spell_externals (bare_externals es) rest) h, names_are es rest (kept_spell_external P (bare_external e) (spell_externals (bare_externals es) rest) h))
