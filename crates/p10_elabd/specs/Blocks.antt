-- Names of the innermost block (C99 6.2.1, 6.7p3).
use Rattle.std.specs.Prelude.{Bool, true, false, if◌then◌else◌, is_some}
use Rattle.p10_base.specs.Words.{Text}
use Rattle.p10_base.specs.declared.at.At.{At}
use Rattle.p10_base.specs.declared.codes.SubsetCode.TheVariants as subset
use Rattle.p10_syn.specs.Trees.{Identifier}
use Rattle.p10_elabx.specs.First.{Keep}
use Rattle.p10_elabx.specs.Scopes.{Meaning, PlainScope, declared, library_named}
use Rattle.p10_elabx.specs.Innermost.{named_here, is_outermost}
use Rattle.p10_elabd.specs.Standing.{PlainStanding, refusing}

-- whether a name may not be declared here: it is declared in this block already, or it is that of a library function, outside of
-- functions
abbrev pub is_taken : PlainScope → Text → Bool
is_taken s name = if is_some (named_here s name) then true else (if is_outermost s then is_some (library_named name) else false)

-- what stands where a name stands for something more
abbrev pub with_name : PlainStanding → Text → Meaning → PlainStanding
with_name s name what = record s { scope = declared s.scope name what }

-- a name is declared that may be declared once
abbrev pub declaring : Keep → Identifier At → Meaning → PlainStanding → PlainStanding
declaring h name what s = with_name (refusing h (is_taken s.scope name.name) subset.DefinedTwice name.place s) name.name what
