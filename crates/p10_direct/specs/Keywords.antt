-- The names of the directives (C99 6.10).
use Rattle.std.specs.Prelude.{Option, Some, None, codes, if◌then◌else◌}
use Rattle.p10_direct.specs.declared.keyword.Keyword.{Keyword}
use Rattle.p10_direct.specs.declared.keyword.Keyword.TheVariants.{Include, Define, Undef, If, Ifdef, Ifndef, Elif, Else, Endif, Pragma}
use Rattle.p10_base.specs.Words.{PlainWord, is_name}

-- the directive that a word names
abbrev pub keyword_of : PlainWord → Option Keyword
keyword_of word =
    if is_name (codes "include") word then Some Include
    else if is_name (codes "define") word then Some Define
    else if is_name (codes "undef") word then Some Undef
    else if is_name (codes "if") word then Some If
    else if is_name (codes "ifdef") word then Some Ifdef
    else if is_name (codes "ifndef") word then Some Ifndef
    else if is_name (codes "elif") word then Some Elif
    else if is_name (codes "else") word then Some Else
    else if is_name (codes "endif") word then Some Endif
    else if is_name (codes "pragma") word then Some Pragma
    else None
