-- Specifiers and declarators of a declaration, one at a time.
use Rattle.std.specs.Prelude.{Bool, true, false, not, ◌&&◌, List, [], ◌∷◌}
use Rattle.p10_base.specs.declared.at.At.{At}
use Rattle.p10_base.specs.declared.codes.SubsetCode.TheVariants as subset
use Rattle.p10_syn.specs.Trees.{Specifier, Keyword, Structure, InitDeclarator}
use Rattle.p10_elabx.specs.First.{Keep}
use Rattle.p10_elabd.specs.Standing.{PlainStanding, refusing}
use Rattle.p10_elabd.specs.Words.{is_volatile, is_other_word}
use Rattle.p10_elabd.specs.Shapes.{declares_function, is_plain_name}
use Rattle.p10_elabs.specs.declared.specifiers.Declares.{Declares}
use Rattle.p10_elabs.specs.declared.specifiers.Declares.TheVariants.{Plainly, Functions}

-- whether a declarator is as asked: a plain name, or one that declares a function
abbrev pub passes_declarator : Declares → InitDeclarator At → Bool
passes_declarator Plainly i = is_plain_name i.declarator
passes_declarator Functions i = declares_function i.declarator

-- whether each declarator is as asked
abbrev pub all_pass : Declares → List (InitDeclarator At) → Bool
all_pass asked [] = true
all_pass asked (d ∷ rest) = passes_declarator asked d && all_pass asked rest

-- whether each declarator is as asked, and there is one
abbrev pub are_so : Declares → List (InitDeclarator At) → Bool
are_so asked [] = false
are_so asked (d ∷ rest) = all_pass asked (d ∷ rest)

-- whether a specifier names a type that is no integer type
abbrev pub names_other_one : Specifier At → Bool
names_other_one (Keyword at word) = is_other_word word
names_other_one (Structure at word tag _) = true
names_other_one one = false

-- whether a specifier is `volatile`
abbrev pub has_volatile : Specifier At → Bool
has_volatile (Keyword at word) = is_volatile word
has_volatile one = false

-- `volatile` on anything but sensors
abbrev pub volatile_one : Keep → Bool → Specifier At → PlainStanding → PlainStanding
volatile_one h may (Keyword at word) s = refusing h (is_volatile word && not may) subset.BadSpecifier at s
volatile_one h may one s = s
