-- The macros that are defined (C99 6.10.3p1, p2, 6.10.3.5).
use Rattle.std.specs.Prelude.{ℕ, ◌==◌, length, List, [], ◌∷◌, ◌++◌, filter, Bool, true, false, ◌&&◌, not, Option, Some, None, bytes_eq, count_by, if◌then◌else◌}
use Rattle.std.specs.List.{list_all, zip}
use Rattle.p10_base.specs.declared.word.Kind.{Kind}
use Rattle.p10_base.specs.declared.word.Kind.TheVariants.{Name, Number, Char, Str, Punct, Mark}
use Rattle.p10_base.specs.Words.{Text, PlainWord}
use Rattle.p10_direct.specs.Directives.{PlainMacro}

-- a macro that is defined, and whether a built-in header defined it
pub record Entry : Type 0 where
  pub made : PlainMacro
  pub builtin : Bool

-- the macros that are defined, in the order of their definitions; no name stands twice, since only a macro whose name isn't there is put
-- after the others
abbrev pub Table : Type 0
Table = List Entry

-- the macro with this name
abbrev pub macro_named : Text → Table → Option PlainMacro
macro_named name [] = None
macro_named name (entry ∷ table) = if bytes_eq name entry.made.name then Some entry.made else macro_named name table

-- ## Definitions of one name

-- whether two words are of one kind
abbrev pub same_kind : Kind → Kind → Bool
same_kind Name Name = true
same_kind Number Number = true
same_kind Char Char = true
same_kind Str Str = true
same_kind Punct Punct = true
same_kind Mark Mark = true
same_kind _ _ = false

-- whether two words have one kind and one spelling
abbrev pub same_word : PlainWord → PlainWord → Bool
same_word this that = same_kind this.kind that.kind && bytes_eq this.text that.text

-- two lists have the same length, and each pair at one place passes the test
abbrev pub same_lists : {A : Type 0} → (A → A → Bool) → List A → List A → Bool
same_lists same these those = (length these == length those) && list_all (λ pair. same pair.0 pair.1) (zip these those)

-- replacement lists are the same where their words are, by kind and spelling; C99 also asks for white space at the same places
abbrev pub same_words : List PlainWord → List PlainWord → Bool
same_words these those = same_lists same_word these those

-- whether two lists have the same texts in one order
abbrev pub same_texts : List Text → List Text → Bool
same_texts these those = same_lists bytes_eq these those

-- both are object-like, or both are function-like with the same parameters in the same order
abbrev pub same_parameters : Option (List Text) → Option (List Text) → Bool
same_parameters None None = true
same_parameters (Some these) (Some those) = same_texts these those
same_parameters _ _ = false

-- a macro may be defined again only in the same way (C99 6.10.3p1, p2)
abbrev pub same_macro : PlainMacro → PlainMacro → Bool
same_macro this that = same_parameters this.parameters that.parameters && same_words this.body that.body

-- ## Changes

-- with one more macro after the others
abbrev pub with_macro : Table → PlainMacro → Bool → Table
with_macro table made builtin = table ++ (record { made = made; builtin = builtin }) ∷ []

-- without the macro of this name (C99 6.10.3.5p2)
abbrev pub without_macro : Table → Text → Table
without_macro table name = filter (λ (entry : Entry). not (bytes_eq name entry.made.name)) table

-- how many of the macros no built-in header defined
abbrev pub own_of : Table → ℕ
own_of table = count_by (λ (entry : Entry). not entry.builtin) table
