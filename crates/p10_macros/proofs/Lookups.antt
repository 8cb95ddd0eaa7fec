-- What the word on top begins.
use Rattle.std.proofs.Common.{◌≡◌, ℕ, zero, suc, ◌==◌, List, [], ◌∷◌, length, Bool, true, false, ◌&&◌, ◌||◌, cond, Option, Some, None, ◌⊎◌, inl, inr, refl, sym, subst, ap, ◌∙◌, arith}
use Rattle.std.specs.Prelude.{is_none}
use Rattle.std.proofs.lemmas.Bool.Decides.{nat_tests}
use Rattle.p10_base.specs.Words.{Text, PlainWord, is_name_kind}
use Rattle.p10_direct.specs.Directives.{PlainMacro}
use Rattle.p10_macros.specs.declared.pending.Pending.{Pending}
use Rattle.p10_macros.specs.Table.{Table, macro_named}
use Rattle.p10_macros.specs.Uses.{Sourced, Stays, Wrong, Calls, use_of, use_by, use_as, called, fitted, fitting, opens, closes, Arguments, arguments_in, argument_before, word_before, separates, depth_after}
use Rattle.p10_macros.specs.private.Looking.{next_opens, opens_on_top, used_where, macro_used}
use Rattle.p10_macros.proofs.Standings.{next_closes}

or_left : (a b : Bool) → (a || b) ≡ false → a ≡ false
or_left true b e = e
or_left false b e = refl

or_right : (a b : Bool) → (a || b) ≡ false → b ≡ false
or_right true b e = cc
or_right false b e = e

-- a function-like name without `(` stays
as_stays : (plain : PlainMacro) (parameters : Option (List Text)) (word : Sourced) (words : List Sourced) → is_none parameters ≡ false → next_opens words ≡ false → use_as plain parameters word words ≡ Stays
as_stays plain None word words some closed = cc
as_stays plain (Some parameters) word [] some closed = refl
as_stays plain (Some parameters) word (next ∷ words) some closed = rw closed refl

used_none : (found : Option PlainMacro) (word : Sourced) (words : List Sourced) (open' : Bool) → open' ≡ next_opens words → used_where open' found ≡ None → use_by found word words ≡ Stays
used_none None word words open' is none = refl
used_none (Some plain) word words open' is none = go (is_none plain.parameters || open') refl none
  where
    go : (b : Bool) → (is_none plain.parameters || open') ≡ b → cond b (Some plain) None ≡ None → use_by (Some plain) word words ≡ Stays
    go true e none' = cc
    go false e none' = as_stays plain plain.parameters word words (or_left (is_none plain.parameters) open' e) (sym is ∙ or_right (is_none plain.parameters) open' e)

-- a word for which no macro is found begins no use
pub stays_where : (table : Table) (items : List Pending) (name : PlainWord) (sourced : Sourced) (words : List Sourced) → opens_on_top items ≡ next_opens words → name ≡ sourced.word →
    macro_used table items name ≡ None → use_of table sourced words ≡ Stays
stays_where table items name sourced words is same none = go (is_name_kind sourced.word.kind) (ap (λ (w : PlainWord). macro_used table items w) (sym same) ∙ none)
  where
    go : (b : Bool) → cond b (used_where (opens_on_top items) (macro_named sourced.word.text table)) None ≡ None → cond b (use_by (macro_named sourced.word.text table) sourced words) Stays ≡ Stays
    go false e = refl
    go true e = used_none (macro_named sourced.word.text table) sourced words (opens_on_top items) is e

none_is : (parameters : Option (List Text)) → is_none parameters ≡ true → parameters ≡ None
none_is None e = refl
none_is (Some parameters) e = cc

or_cases : (a b : Bool) → (a || b) ≡ true → (a ≡ true) ⊎ (b ≡ true)
or_cases true b e = inl refl
or_cases false b e = inr e

-- what it is that a macro is used by a word
pub record IsUsed (table : Table) (plain : PlainMacro) (sourced : Sourced) (words : List Sourced) : Type 0 where
  pub is : use_of table sourced words ≡ use_as plain plain.parameters sourced words
  pub calls : (plain.parameters ≡ None) ⊎ (next_opens words ≡ true)

used_some : (found : Option PlainMacro) (plain : PlainMacro) (word : Sourced) (words : List Sourced) (open' : Bool) → open' ≡ next_opens words → used_where open' found ≡ Some plain →
    (use_by found word words ≡ use_as plain plain.parameters word words) × ((plain.parameters ≡ None) ⊎ (next_opens words ≡ true))
used_some None plain word words open' is some = cc
used_some (Some other) plain word words open' is some = go (is_none other.parameters || open') refl some
  where
    go : (b : Bool) → (is_none other.parameters || open') ≡ b → cond b (Some other) None ≡ Some plain → (use_by (Some other) word words ≡ use_as plain plain.parameters word words) × ((plain.parameters ≡ None) ⊎ (next_opens words ≡ true))
    go false e some' = cc
    go true e some' =
        let same : other ≡ plain = cc in
        subst (λ (p : PlainMacro). (use_by (Some other) word words ≡ use_as p p.parameters word words) × ((p.parameters ≡ None) ⊎ (next_opens words ≡ true))) same
        (refl, elim (or_cases (is_none other.parameters) open' e) [ inl none ↦ inl (none_is other.parameters none) | inr open'' ↦ inr (sym is ∙ open'') ])

pub used_where_found : (table : Table) (items : List Pending) (name : PlainWord) (plain : PlainMacro) (sourced : Sourced) (words : List Sourced) → opens_on_top items ≡ next_opens words → name ≡ sourced.word →
    macro_used table items name ≡ Some plain → IsUsed table plain sourced words
used_where_found table items name plain sourced words is same some =
    let both = go (is_name_kind sourced.word.kind) (ap (λ (w : PlainWord). macro_used table items w) (sym same) ∙ some) in record { is = both.0; calls = both.1 }
  where
    go : (b : Bool) → cond b (used_where (opens_on_top items) (macro_named sourced.word.text table)) None ≡ Some plain →
        (cond b (use_by (macro_named sourced.word.text table) sourced words) Stays ≡ use_as plain plain.parameters sourced words) × ((plain.parameters ≡ None) ⊎ (next_opens words ≡ true))
    go false e = cc
    go true e = used_some (macro_named sourced.word.text table) plain sourced words (opens_on_top items) is e

-- ## A use of a macro

pub as_recursive : (plain : PlainMacro) (parameters : Option (List Text)) (word : Sourced) (words : List Sourced) → (parameters ≡ None) ⊎ (next_opens words ≡ true) → word.from plain.name ≡ true →
    use_as plain parameters word words ≡ Wrong 6
as_recursive plain None word words calls from = rw from refl
as_recursive plain (Some parameters) word [] (inl e) from = cc
as_recursive plain (Some parameters) word [] (inr e) from = cc
as_recursive plain (Some parameters) word (next ∷ words) (inl e) from = cc
as_recursive plain (Some parameters) word (next ∷ words) (inr e) from = rw (e, from) refl

pub as_object : (plain : PlainMacro) (parameters : Option (List Text)) (word : Sourced) (words : List Sourced) → parameters ≡ None → word.from plain.name ≡ false → use_as plain parameters word words ≡ Calls plain [] words
as_object plain None word words e from = rw from refl
as_object plain (Some parameters) word words e from = cc

pub as_function : (plain : PlainMacro) (parameters : List Text) (word paren : Sourced) (words : List Sourced) → opens paren.word ≡ true → word.from plain.name ≡ false →
    use_as plain (Some parameters) word (paren ∷ words) ≡ called plain (length parameters) (arguments_in 0 words)
as_function plain parameters word paren words e from = rw (e, from) refl

-- ## Arguments

-- a use of a macro without parameters, with a `)` directly after the `(`
pub called_none : (plain : PlainMacro) (parameters : ℕ) (close : Sourced) (words : List Sourced) → parameters ≡ 0 → closes close.word ≡ true → called plain parameters (arguments_in 0 (close ∷ words)) ≡ Calls plain [] words
called_none plain zero close words e closed = rw closed refl
called_none plain (suc parameters) close words e closed = cc

-- arguments that aren't one alone, without words
abbrev IsMore : Option Arguments → Type 0
IsMore None = Unit {0}
IsMore (Some found) = found.first ∷ found.others ≡ [] ∷ [] → ⊥

more_by : (a b : Bool) (words : List Sourced) (word : Sourced) (rest rest' : Option Arguments) → a ≡ false → IsMore (cond a (Some (record { first = []; others = []; rest = words })) (cond b (argument_before rest) (word_before word rest')))
more_by true b words word rest rest' e = absurd (cc)
more_by false true words word None rest' e = tt
more_by false true words word (Some found) rest' e = λ same. cc
more_by false false words word rest None e = tt
more_by false false words word rest (Some found) e = λ same. cc

not_first : (words : List Sourced) → next_closes words ≡ false → IsMore (arguments_in 0 words)
not_first [] e = tt
not_first (word ∷ words) e =
    more_by (closes word.word && (0 == 0)) (separates word.word && (0 == 0)) words word (arguments_in 0 words) (arguments_in (depth_after 0 word.word) words) (ap (λ (b : Bool). b && true) e)

not_same : (a b : ℕ) → (a ≡ b → ⊥) → (a == b) ≡ false
not_same a b other = grind (arith, nat_tests, other)

is_same : (a b : ℕ) → a ≡ b → (a == b) ≡ true
is_same a b same = grind (arith, nat_tests)

fits_not : (parameters : ℕ) (arguments : List (List Sourced)) → (parameters ≡ length arguments → ⊥) → (parameters ≡ 0 → arguments ≡ [] ∷ [] → ⊥) → fitting parameters arguments ≡ None
fits_not zero ([] ∷ []) other more = absurd (more refl refl)
fits_not zero [] other more = absurd (other refl)
fits_not zero ([] ∷ (next ∷ rest)) other more = rw (not_same 0 (length ([] ∷ (next ∷ rest))) other) refl
fits_not zero ((word ∷ words) ∷ rest) other more = rw (not_same 0 (length ((word ∷ words) ∷ rest)) other) refl
fits_not (suc parameters) arguments other more = rw (not_same (suc parameters) (length arguments) other) refl

fits : (parameters : ℕ) (first : List Sourced) (others : List (List Sourced)) → parameters ≡ length (first ∷ others) → fitting parameters (first ∷ others) ≡ Some (first ∷ others)
fits zero first others same = absurd (omega arith)
fits (suc parameters) first others same = rw (is_same (suc parameters) (length (first ∷ others)) same) refl

-- the use has no end
pub called_open : (plain : PlainMacro) (parameters : ℕ) (found : Option Arguments) → found ≡ None → called plain parameters found ≡ Wrong 8
called_open plain parameters found none = rw none refl

-- the number of arguments is another one
pub called_wrong : (plain : PlainMacro) (parameters : ℕ) (words : List Sourced) (found : Arguments) → arguments_in 0 words ≡ Some found → (parameters ≡ length (found.first ∷ found.others) → ⊥) →
    (parameters ≡ 0 → next_closes words ≡ false) → called plain parameters (arguments_in 0 words) ≡ Wrong 7
called_wrong plain parameters words found is other more =
    let none : fitting parameters (found.first ∷ found.others) ≡ None =
    fits_not parameters (found.first ∷ found.others) other (λ zero' single. (subst (λ (o : Option Arguments). IsMore o) is (not_first words (more zero'))) single) in
    ap (λ (o : Option Arguments). called plain parameters o) is ∙ ap (λ (o : Option (List (List Sourced))). fitted plain found.rest o) none

-- the use is one with these arguments
pub called_with : (plain : PlainMacro) (parameters : ℕ) (words : List Sourced) (found : Arguments) → arguments_in 0 words ≡ Some found → parameters ≡ length (found.first ∷ found.others) →
    called plain parameters (arguments_in 0 words) ≡ Calls plain (found.first ∷ found.others) found.rest
called_with plain parameters words found is same =
    ap (λ (o : Option Arguments). called plain parameters o) is ∙ ap (λ (o : Option (List (List Sourced))). fitted plain found.rest o) (fits parameters found.first found.others same)
