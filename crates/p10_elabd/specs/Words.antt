-- Words of specifiers: storage, qualifiers and words that aren't in the subset (C99 6.7.1 to 6.7.4).
use Rattle.std.specs.Prelude.{Bool, true, false, not, ◌&&◌, ◌||◌, if◌then◌else◌, Option, Some, None}
use Rattle.p10_base.specs.declared.at.At.{At}
use Rattle.p10_base.specs.declared.codes.SubsetCode.{SubsetCode}
use Rattle.p10_base.specs.declared.codes.SubsetCode.TheVariants as subset
use Rattle.p10_syn.specs.declared.sign.Sign.{Sign}
use Rattle.p10_syn.specs.declared.sign.Sign.TheVariants as sign
use Rattle.p10_syn.specs.Trees.{Specifiers, NoSpecifiers, MoreSpecifiers, Specifier, Keyword}
use Rattle.p10_elabx.specs.First.{Keep}
use Rattle.p10_elabd.specs.declared.site.Site.{Site}
use Rattle.p10_elabd.specs.declared.site.Site.TheVariants as site_is
use Rattle.p10_elabd.specs.declared.site.Storage.{Storage}
use Rattle.p10_elabd.specs.declared.site.Storage.TheVariants as storage_is
use Rattle.p10_elabd.specs.declared.site.Allowed.{Allowed}
use Rattle.p10_elabd.specs.Standing.{PlainStanding, refusing}

-- nothing is allowed
abbrev pub none_allowed : Allowed
none_allowed = record { inline = false; volatile = false }

-- whether a word is one of storage
abbrev pub is_storage : Sign → Bool
is_storage sign.Typedef = true
is_storage sign.Extern = true
is_storage sign.Static = true
is_storage sign.Auto = true
is_storage sign.Register = true
is_storage word = false

-- the storage words that may stand at a site: `extern` stands in no block, and members, parameters and the first clause of a
-- `for` have none
abbrev pub may_store : Site → Sign → Bool
may_store site_is.Outside sign.Typedef = true
may_store site_is.Outside sign.Extern = true
may_store site_is.Outside sign.Static = true
may_store site_is.OfDefinition sign.Extern = true
may_store site_is.OfDefinition sign.Static = true
may_store site_is.InBlock sign.Typedef = true
may_store site_is.InBlock sign.Static = true
may_store at word = false

-- the row that a word breaks, where a storage word stands before it or none does; at most one may stand (C99 6.7.1p2)
abbrev pub word_row : Site → Allowed → Bool → Sign → Option SubsetCode
word_row site allowed stored sign.Float = Some subset.FloatingType
word_row site allowed stored sign.Double = Some subset.FloatingType
word_row site allowed stored sign.Complex = Some subset.FloatingType
word_row site allowed stored sign.Imaginary = Some subset.FloatingType
word_row site allowed stored sign.Restrict = Some subset.BadSpecifier
word_row site allowed stored sign.Volatile = if allowed.volatile then None else Some subset.BadSpecifier
word_row site allowed stored sign.Inline = if allowed.inline then None else Some subset.BadSpecifier
word_row site allowed stored word = if is_storage word && (stored || not (may_store site word)) then Some subset.BadSpecifier else None

-- a row at a tree, where there is one
abbrev pub by_row : Keep → Option SubsetCode → At → PlainStanding → PlainStanding
by_row h None at s = s
by_row h (Some code) at s = refusing h true code at s

-- the storage that a word names
abbrev pub storage_by : Storage → Sign → Storage
storage_by storage_is.Unnamed sign.Typedef = storage_is.Typedef
storage_by storage_is.Unnamed sign.Extern = storage_is.Extern
storage_by storage_is.Unnamed sign.Static = storage_is.Static
storage_by found word = found

-- the storage that specifiers name with one more
abbrev pub storage_with : Storage → Specifier At → Storage
storage_with found (Keyword at word) = storage_by found word
storage_with found one = found

-- the storage that specifiers name: the first word counts
abbrev pub storage_from : Storage → Specifiers At → Storage
storage_from found NoSpecifiers = found
storage_from found (MoreSpecifiers one rest) = storage_from (storage_with found one) rest

-- the storage that specifiers name
abbrev pub storage_of : Specifiers At → Storage
storage_of specifiers = storage_from storage_is.Unnamed specifiers

-- whether a word stands among specifiers
abbrev pub has_word : (Sign → Bool) → Specifiers At → Bool
has_word test NoSpecifiers = false
has_word test (MoreSpecifiers (Keyword at word) rest) = test word || has_word test rest
has_word test (MoreSpecifiers one rest) = has_word test rest

-- whether a word is `volatile`
abbrev pub is_volatile : Sign → Bool
is_volatile sign.Volatile = true
is_volatile word = false

-- whether a word names a type that is no integer type
abbrev pub is_other_word : Sign → Bool
is_other_word sign.Void = true
is_other_word sign.Float = true
is_other_word sign.Double = true
is_other_word sign.Complex = true
is_other_word sign.Imaginary = true
is_other_word word = false
