-- Obeyed directives by the word after their `#`, and the definitions among them (C99 6.10).
use Rattle.std.specs.Prelude.{◌≡◌, List, [], ◌∷◌, Bool, true, false, not, ◌&&◌, ◌||◌, Option, Some, None, codes}
use Rattle.std.specs.List.{Contains, list_any}
use Rattle.p10_direct.specs.declared.keyword.Keyword.{Keyword}
use Rattle.p10_direct.specs.declared.keyword.Keyword.TheVariants.{If, Ifdef, Ifndef, Define, Undef, Pragma}
use Rattle.p10_base.specs.Words.{PlainWord, Text, is_name}
use Rattle.p10_direct.specs.Keywords.{keyword_of}
use Rattle.p10_direct.specs.Directives.{Definition, Defines, is_refused, has_ellipsis}
use Rattle.p10_expand.specs.Obeying.{PlainObeyed}

-- the directive that a line names
abbrev pub name_of : List PlainWord → Option Keyword
name_of (hash ∷ name ∷ words) = keyword_of name
name_of _ = None

-- the words after the directive's name
abbrev pub operands_of : List PlainWord → List PlainWord
operands_of (hash ∷ name ∷ words) = words
operands_of _ = []

-- one of the obeyed lines is this definition, which may be refused
pub record IsDefined (obeyed : List PlainObeyed) (definition : Definition) : Type 0 where
  pub line : PlainObeyed
  pub held : Contains obeyed line
  pub named : name_of line.words ≡ Some Define
  pub defines : Defines definition (operands_of line.words)

-- whether the directive begins a conditional
abbrev pub begins_conditional : Option Keyword → Bool
begins_conditional (Some If) = true
begins_conditional (Some Ifdef) = true
begins_conditional (Some Ifndef) = true
begins_conditional _ = false

-- whether the words are names with these spellings
abbrev pub are_names : List Text → List PlainWord → Bool
are_names [] [] = true
are_names (text ∷ texts) (word ∷ words) = is_name text word && are_names texts words
are_names _ _ = false

-- the pragmas that are allowed: `once`, `p10 init_done` and `p10 task_loop`
abbrev pub is_allowed_pragma : List PlainWord → Bool
is_allowed_pragma words =
    are_names (codes "once" ∷ []) words || are_names (codes "p10" ∷ codes "init_done" ∷ []) words || are_names (codes "p10" ∷ codes "task_loop" ∷ []) words

-- whether a directive with these operands isn't allowed: an `#undef`, or another pragma
abbrev pub is_barred : Option Keyword → List PlainWord → Bool
is_barred (Some Undef) operands = true
is_barred (Some Pragma) operands = not (is_allowed_pragma operands)
is_barred _ operands = false

-- whether a definition pastes, or takes variable arguments: it has `#`, `##` or `...` (C99 6.10.3)
abbrev pub pastes : Definition → Bool
pastes definition = has_ellipsis definition.parameters || list_any is_refused definition.body
