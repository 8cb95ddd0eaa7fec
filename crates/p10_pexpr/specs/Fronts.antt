-- What the words begin with.
use Rattle.std.specs.Prelude.{List, [], ◌∷◌, Bool, true, false, Option, Some, None, cond}
use Rattle.p10_base.specs.Words.{Text}
use Rattle.p10_syn.specs.declared.sign.Sign.{Sign}
use Rattle.p10_syn.specs.Symbols.{Symbol, Name, String, Fixed, Pragma}
use Rattle.p10_syn.specs.Forms.{is_qualifier}

-- the first word
abbrev pub first : List Symbol → Option Symbol
first [] = None
first (x ∷ rest) = Some x

abbrev pub is_none : Option Symbol → Bool
is_none None = true
is_none (Some x) = false

-- the name that the words begin with, if they do
abbrev pub name_in_front : Symbol → Option Text
name_in_front (Name x) = Some x
name_in_front _ = None

abbrev pub name_first : List Symbol → Option Text
name_first [] = None
name_first (x ∷ rest) = name_in_front x

-- the string that the words begin with, if they do
abbrev pub string_in_front : Symbol → Option Text
string_in_front (String x) = Some x
string_in_front _ = None

abbrev pub string_first : List Symbol → Option Text
string_first [] = None
string_first (x ∷ rest) = string_in_front x

-- the qualifier that the words begin with, if they do
abbrev pub qualifier_in_front : Symbol → Option Sign
qualifier_in_front (Fixed s) = cond (is_qualifier s) (Some s) None
qualifier_in_front _ = None

abbrev pub qualifier_first : List Symbol → Option Sign
qualifier_first [] = None
qualifier_first (x ∷ rest) = qualifier_in_front x

-- the text of the p10 pragma that the words begin with, if they do
abbrev pub mark_in_front : Symbol → Option Text
mark_in_front (Pragma x) = Some x
mark_in_front _ = None

abbrev pub mark_first : List Symbol → Option Text
mark_first [] = None
mark_first (x ∷ rest) = mark_in_front x
