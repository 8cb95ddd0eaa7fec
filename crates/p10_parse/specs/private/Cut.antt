-- Reading functions cut where the code is cut.
use Rattle.std.specs.Prelude.{List, drop, Bool, true, false, not, ◌||◌, option_map, cond}
use Rattle.p10_syn.specs.declared.sign.Sign.TheVariants as sign
use Rattle.p10_syn.specs.Symbols.{Symbol}
use Rattle.p10_pexpr.specs.Heads.{Read, heads, closed_by}

-- whether no further initialiser stands next
abbrev pub no_initializer : List Symbol → Bool
no_initializer symbols = not (heads sign.Comma symbols) || heads sign.CloseBrace (drop 1 symbols)

-- the end of initialisers, and whether it has a last comma
abbrev pub initializers_end : List Symbol → Read Bool
initializers_end symbols = cond (heads sign.Comma symbols) (closed_by sign.CloseBrace true (drop 1 symbols)) (closed_by sign.CloseBrace false symbols)
