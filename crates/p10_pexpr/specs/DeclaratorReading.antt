-- Reading declarators, and the names of types (C99 6.7.5, 6.7.6).
use Rattle.std.specs.Prelude.{List, [], ◌∷◌, ◌++◌, drop, Bool, true, false, ◌&&◌, Some, None, option_map, option_and_then, cond}
use Rattle.p10_base.specs.Words.{Text}
use Rattle.p10_syn.specs.declared.sign.Sign.{Sign}
use Rattle.p10_syn.specs.declared.sign.Sign.TheVariants as sign
use Rattle.p10_syn.specs.declared.setting.Naming.{Naming}
use Rattle.p10_syn.specs.declared.setting.Naming.TheVariants.{Allowed, Forbidden}
use Rattle.p10_syn.specs.declared.setting.Setting.{Setting}
use Rattle.p10_syn.specs.declared.setting.Setting.TheVariants as setting
use Rattle.p10_syn.specs.Symbols.{Symbol, Fixed}
use Rattle.p10_syn.specs.Symbols as symbol
use Rattle.p10_syn.specs.Scopes.{Scope}
use Rattle.p10_syn.specs.Declaring.{after_specifiers, after_parameter}
use Rattle.p10_syn.specs.declared.setting.Said.TheVariants.{Nothing}
use Rattle.p10_syn.specs.Forms.{is_qualifier, may_be_named, may_be_nameless}
use Rattle.p10_syn.specs.Trees.{Bare, Identifier, Qualifier, Absent, Present, TypeName, type_name, Specifiers, Specifier, Declarator, Named, Unnamed, Pointer, Parenthesised, Array, Function, NoParameters, Parameter, parameter, specifier_row, parameter_row}
use Rattle.p10_pexpr.specs.Heads.{Read, heads, closed_by}
use Rattle.p10_pexpr.specs.Tables.{opens_parameters}
use Rattle.p10_pexpr.specs.Readers.{Readers}

-- a name that stands nowhere: how it is written
abbrev pub plain_name : Text → Identifier Bare
plain_name x = record { place = tt; name = x }

-- a qualifier that stands nowhere
abbrev pub plain_qualifier : Sign → Qualifier Bare
plain_qualifier s = record { place = tt; word = s }

-- qualifiers after those that were read before
abbrev pub qualifiers_from : List (Qualifier Bare) → List Symbol → List (Qualifier Bare) × List Symbol
qualifiers_from done [] = (done, [])
qualifiers_from done (Fixed s ∷ rest) = cond (is_qualifier s) (qualifiers_from (done ++ plain_qualifier s ∷ []) rest) (done, Fixed s ∷ rest)
qualifiers_from done (x ∷ rest) = (done, x ∷ rest)

-- at least one specifier
abbrev pub some_specifiers : List (Specifier Bare) → List Symbol → Read (Specifiers Bare)
some_specifiers [] rest = None
some_specifiers (s ∷ ss) rest = Some (specifier_row (s ∷ ss), rest)

-- what may lack its name lacks it here
abbrev pub nameless_at : Naming → List Symbol → Read (Declarator Bare)
nameless_at naming symbols = cond (may_be_nameless naming) (Some (Unnamed tt, symbols)) None

-- what may have a name has it here
abbrev pub named_at : Naming → Text → List Symbol → Read (Declarator Bare)
named_at naming x rest = cond (may_be_named naming) (Some (Named (plain_name x), rest)) (nameless_at naming (symbol.Name x ∷ rest))

module _ (r : Readers) where
  -- the specifiers of a declaration, a member, a parameter or the name of a type
  abbrev pub specifiers_at : Scope → Setting → List Symbol → Read (Specifiers Bare)
  specifiers_at names setting symbols = option_and_then (λ ss. some_specifiers ss.0 ss.1) (r.specifiers names setting Nothing [] symbols)

  -- the name of a type: specifiers, and then a declarator without a name (C99 6.7.6)
  abbrev pub type_name_at : Scope → List Symbol → Read (TypeName Bare)
  type_name_at names symbols =
      option_and_then (λ ss. option_map (λ d. (type_name tt ss.0 d.0, d.1)) (r.declarator (after_specifiers names ss.0) setting.Inside Forbidden ss.1)) (specifiers_at names setting.Type symbols)

  -- ## Declarators

  -- after a `*`
  abbrev pub pointer_to : Scope → Setting → Naming → List (Qualifier Bare) × List Symbol → Read (Declarator Bare)
  pointer_to names setting naming qs = option_map (λ d. (Pointer tt qs.0 d.0, d.1)) (r.declarator names setting naming qs.1)

  -- after a `*`: its qualifiers, and then the declarator of what points (C99 6.7.5.1)
  abbrev pub pointer_at : Scope → Setting → Naming → List Symbol → Read (Declarator Bare)
  pointer_at names setting naming rest = pointer_to names setting naming (qualifiers_from [] rest)

  -- after a `(`
  abbrev pub wrapped_at : Scope → Setting → Naming → List Symbol → Read (Declarator Bare)
  wrapped_at names setting naming rest = option_and_then (λ d. closed_by sign.Close (Parenthesised tt d.0) d.1) (r.declarator names setting naming rest)

  -- after a `(`: no name, where it may be left out and the `(` opens parameters; else a declarator in parentheses
  abbrev pub open_at : Scope → Setting → Naming → List Symbol → Read (Declarator Bare)
  open_at names setting naming rest =
      cond (may_be_nameless naming && opens_parameters names rest) (Some (Unnamed tt, Fixed sign.Open ∷ rest)) (wrapped_at names setting naming rest)

  -- what stands where a name may stand
  abbrev pub atom_at : Scope → Setting → Naming → List Symbol → Read (Declarator Bare)
  atom_at names setting naming (symbol.Name x ∷ rest) = named_at naming x rest
  atom_at names setting naming (Fixed sign.Open ∷ rest) = open_at names setting naming rest
  atom_at names setting naming symbols = nameless_at naming symbols

  -- a pointer where a `*` stands; else a name or parentheses, with the brackets and parameters after it (C99 6.7.5)
  abbrev pub declarator_once : Scope → Setting → Naming → List Symbol → Read (Declarator Bare)
  declarator_once names setting naming symbols =
      cond (heads sign.Star symbols) (pointer_at names setting naming (drop 1 symbols))
      (option_and_then (λ d. r.suffixes names setting d.0 d.1) (atom_at names setting naming symbols))

  -- after a `[`
  abbrev pub sized_at : Scope → Declarator Bare → List Symbol → Read (Declarator Bare)
  sized_at names d rest = option_and_then (λ t. closed_by sign.CloseSquare (Array tt d tt (Present t.0)) t.1) (r.expression names 3 rest)

  -- after a `[`: a length, unless it is left out, and the `]` (C99 6.7.5.2)
  abbrev pub array_at : Scope → Declarator Bare → List Symbol → Read (Declarator Bare)
  array_at names d rest = cond (heads sign.CloseSquare rest) (Some (Array tt d tt Absent, drop 1 rest)) (sized_at names d rest)

  -- after a `(`
  abbrev pub with_parameters_at : Scope → Setting → Declarator Bare → List Symbol → Read (Declarator Bare)
  with_parameters_at names setting d rest = option_map (λ ps. (Function tt d tt (parameter_row ps.0.0) ps.0.1, ps.1)) (r.parameters names setting [] rest)

  -- after a `(`: parameters, if there are any, and the `)` (C99 6.7.5.3)
  abbrev pub function_at : Scope → Setting → Declarator Bare → List Symbol → Read (Declarator Bare)
  function_at names setting d rest = cond (heads sign.Close rest) (Some (Function tt d tt NoParameters false, drop 1 rest)) (with_parameters_at names setting d rest)

  -- brackets and parameters, one after the other, directly after a declarator
  abbrev pub suffixes_once : Scope → Setting → Declarator Bare → List Symbol → Read (Declarator Bare)
  suffixes_once names setting d symbols =
      cond (heads sign.OpenSquare symbols) (option_and_then (λ x. r.suffixes names setting x.0 x.1) (array_at names d (drop 1 symbols)))
      (cond (heads sign.Open symbols) (option_and_then (λ x. r.suffixes names setting x.0 x.1) (function_at names setting d (drop 1 symbols)))
      (Some (d, symbols)))

  -- ## Parameters

  -- specifiers, and then a declarator that may lack its name (C99 6.7.5.3)
  abbrev pub parameter_at : Scope → Setting → List Symbol → Read (Parameter Bare)
  parameter_at names setting symbols =
      option_and_then (λ ss. option_map (λ d. (parameter tt ss.0 d.0, d.1)) (r.declarator (after_specifiers names ss.0) setting Allowed ss.1)) (specifiers_at names setting symbols)

  -- after a `,`
  abbrev pub parameters_on : Scope → Setting → List (Parameter Bare) → List Symbol → Read (List (Parameter Bare) × Bool)
  parameters_on names setting done rest = cond (heads sign.Ellipsis rest) (closed_by sign.Close (done, true) (drop 1 rest)) (r.parameters names setting done rest)

  -- after a parameter: a `,` and what is after it, or the `)`
  abbrev pub parameters_more : Scope → Setting → List (Parameter Bare) → List Symbol → Read (List (Parameter Bare) × Bool)
  parameters_more names setting done rest = cond (heads sign.Comma rest) (parameters_on names setting done (drop 1 rest)) (closed_by sign.Close (done, false) rest)

  -- one parameter and, in the scope after it, those after it
  abbrev pub parameters_once : Scope → Setting → List (Parameter Bare) → List Symbol → Read (List (Parameter Bare) × Bool)
  parameters_once names setting done symbols =
      option_and_then (λ x. parameters_more (after_parameter names x.0) setting (done ++ x.0 ∷ []) x.1) (parameter_at names setting symbols)
