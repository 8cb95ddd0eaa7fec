-- What the next words decide where statements are read.
use Rattle.std.specs.Prelude.{List, ◌∷◌, Bool, false, not, ◌&&◌, cond}
use Rattle.p10_syn.specs.declared.sign.Sign.{Sign}
use Rattle.p10_syn.specs.declared.sign.Sign.TheVariants as sign
use Rattle.p10_syn.specs.Symbols.{Symbol, Name, Fixed}
use Rattle.p10_syn.specs.Scopes.{Scope}
use Rattle.p10_pexpr.specs.Heads.{heads}
use Rattle.p10_pexpr.specs.Tables.{begins_specifiers}
use Rattle.p10_parse.specs.declared.way.Way.{Way}
use Rattle.p10_parse.specs.declared.way.Way.TheVariants.{Ends, Braces, Ifs, Switches, Whiles, Dos, Fors, Cases, Defaults, Labels, Gotos, Breaks, Continues, Returns, Values}

-- which statement a keyword or punctuator begins; an expression where it begins no other (C99 6.8)
abbrev pub way_of_sign : Sign → Way
way_of_sign sign.Semicolon = Ends
way_of_sign sign.OpenBrace = Braces
way_of_sign sign.If = Ifs
way_of_sign sign.Switch = Switches
way_of_sign sign.While = Whiles
way_of_sign sign.Do = Dos
way_of_sign sign.For = Fors
way_of_sign sign.Case = Cases
way_of_sign sign.Default = Defaults
way_of_sign sign.Goto = Gotos
way_of_sign sign.Break = Breaks
way_of_sign sign.Continue = Continues
way_of_sign sign.Return = Returns
way_of_sign _ = Values

-- whether the words begin with a label: a name and `:` (C99 6.8.1)
abbrev pub is_label : List Symbol → Bool
is_label (Name x ∷ rest) = heads sign.Colon rest
is_label _ = false

-- which statement the words begin: a name with `:` after it is a label, whatever it stands for (C99 6.8.1)
abbrev pub way_at : List Symbol → Way
way_at (Name x ∷ rest) = cond (heads sign.Colon rest) Labels Values
way_at (Fixed s ∷ rest) = way_of_sign s
way_at _ = Values

-- whether an item of a block is a declaration: it begins with a specifier, and with no label
abbrev pub begins_declaration : Scope → List Symbol → Bool
begins_declaration names symbols = begins_specifiers names symbols && not (is_label symbols)
