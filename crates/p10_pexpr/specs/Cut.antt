-- Reading functions cut where the code is cut.
use Rattle.std.specs.Prelude.{List, drop, Bool, true, false, not, ◌||◌, cond}
use Rattle.p10_syn.specs.declared.sign.Sign.TheVariants as sign
use Rattle.p10_syn.specs.declared.setting.Setting.{Setting}
use Rattle.p10_syn.specs.Symbols.{Symbol}
use Rattle.p10_syn.specs.Scopes.{Scope}
use Rattle.p10_syn.specs.Trees.{Bare, Declarator}
use Rattle.p10_pexpr.specs.Heads.{Read, heads, closed_by}
use Rattle.p10_pexpr.specs.Readers.{Readers}
use Rattle.p10_pexpr.specs.DeclaratorReading.{array_at, function_at}

-- one pair of brackets, or one list of parameters
abbrev pub suffix_at : Readers → Scope → Setting → Declarator Bare → List Symbol → Read (Declarator Bare)
suffix_at r names setting d symbols = cond (heads sign.OpenSquare symbols) (array_at r names d (drop 1 symbols)) (function_at r names setting d (drop 1 symbols))

-- whether no further parameter stands next
abbrev pub no_parameter : List Symbol → Bool
no_parameter symbols = not (heads sign.Comma symbols) || heads sign.Ellipsis (drop 1 symbols)

-- the end of parameters, and whether it has `...`
abbrev pub parameters_end : List Symbol → Read Bool
parameters_end symbols = cond (heads sign.Comma symbols) (closed_by sign.Close true (drop 1 (drop 1 symbols))) (closed_by sign.Close false symbols)

-- whether no further constant of an enumeration stands next
abbrev pub no_enumerator : List Symbol → Bool
no_enumerator symbols = not (heads sign.Comma symbols) || heads sign.CloseBrace (drop 1 symbols)

-- the end of an enumeration, and whether it has a last comma
abbrev pub enumerators_end : List Symbol → Read Bool
enumerators_end symbols = cond (heads sign.Comma symbols) (closed_by sign.CloseBrace true (drop 1 symbols)) (closed_by sign.CloseBrace false symbols)
