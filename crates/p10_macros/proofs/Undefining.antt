-- A macro that is undefined takes its name with it, and nothing else.
use Rattle.std.proofs.Common.{◌≡◌, ℕ, ◌+◌, [], ◌∷◌, Bool, true, false, ◌&&◌, cond, not, bytes_eq, Option, Some, None, refl, sym, ap, ◌∙◌, arith}
use Rattle.std.proofs.lemmas.List.Sums.{sum_by-cons}
use Rattle.std.proofs.lemmas.Slice.Eq.{bytes_eq-Decides}
use Rattle.p10_base.specs.Words.{Text}
use Rattle.p10_direct.specs.Directives.{PlainMacro}
use Rattle.p10_macros.specs.Table.{Entry, Table, macro_named, with_macro, without_macro, own_of}
use Rattle.p10_macros.specs.Undefining.{NamedOnce, entry_named, own_named, TakesOneName, TakesOneOwn, StaysNamedOnce}

same : (this that : Text) → bytes_eq this that ≡ true → this ≡ that
same this that e = (bytes_eq-Decides this that).0 e

-- texts that aren't equal aren't equal the other way round either
apart : (this that : Text) → bytes_eq this that ≡ false → bytes_eq that this ≡ false
apart this that e = go (bytes_eq that this) refl
  where
    go : (b : Bool) → bytes_eq that this ≡ b → b ≡ false
    go false is = refl
    go true is = let equal : bytes_eq this that ≡ true = (bytes_eq-Decides this that).1 (sym (same that this is)) in cc

abbrev found_if : {A : Type 0} → Bool → A → Option A → Option A
found_if b one others = cond b (Some one) others

none_if : (b : Bool) (made : PlainMacro) (others : Option PlainMacro) → found_if b made others ≡ None → (b ≡ false) × (others ≡ None)
none_if true made others e = cc
none_if false made others e = (refl, e)

-- a name has a macro where it has an entry
none_by : (table : Table) (name : Text) → entry_named name table ≡ None → macro_named name table ≡ None
none_by [] name none = refl
none_by (entry ∷ table) name none = go (bytes_eq name entry.made.name) none (none_by table name)
  where
    go : (b : Bool) → found_if b entry (entry_named name table) ≡ None → (entry_named name table ≡ None → macro_named name table ≡ None) → found_if b entry.made (macro_named name table) ≡ None
    go true e again = cc
    go false e again = again e

none_of : (table : Table) (name : Text) → macro_named name table ≡ None → entry_named name table ≡ None
none_of [] name none = refl
none_of (entry ∷ table) name none = go (bytes_eq name entry.made.name) none (none_of table name)
  where
    go : (b : Bool) → found_if b entry.made (macro_named name table) ≡ None → (macro_named name table ≡ None → entry_named name table ≡ None) → found_if b entry (entry_named name table) ≡ None
    go true e again = cc
    go false e again = again e

-- ## One macro less

pub takes_one_name : TakesOneName
takes_one_name [] name other = go (bytes_eq other name)
  where
    go : (b : Bool) → ◌≡◌ {A = Option Entry} None (cond b None None)
    go true = refl
    go false = refl
takes_one_name (entry ∷ table) name other = go (bytes_eq name entry.made.name) (bytes_eq other entry.made.name) (bytes_eq other name) refl refl refl (takes_one_name table name other)
  where
    -- the other macros
    among : Option Entry
    among = entry_named other table

    go : (a b c : Bool) → bytes_eq name entry.made.name ≡ a → bytes_eq other entry.made.name ≡ b → bytes_eq other name ≡ c → entry_named other (without_macro table name) ≡ cond c None among →
        entry_named other (cond (not a) (entry ∷ without_macro table name) (without_macro table name)) ≡ cond c None (found_if b entry among)
    go true b true is_entry is_other is_name again = again
    go true true false is_entry is_other is_name again =
        let equal : bytes_eq other name ≡ true = (bytes_eq-Decides other name).1 (same other entry.made.name is_other ∙ sym (same name entry.made.name is_entry)) in
        absurd cc
    go true false false is_entry is_other is_name again = again
    go false true true is_entry is_other is_name again =
        let equal : bytes_eq name entry.made.name ≡ true = (bytes_eq-Decides name entry.made.name).1 (sym (same other name is_name) ∙ same other entry.made.name is_other) in
        absurd cc
    go false true false is_entry is_other is_name again = ap (λ (b : Bool). found_if b entry (entry_named other (without_macro table name))) is_other
    go false false c is_entry is_other is_name again =
        ap (λ (b : Bool). found_if b entry (entry_named other (without_macro table name))) is_other ∙ again

once_without : (table : Table) (name : Text) → NamedOnce table → NamedOnce (without_macro table name)
once_without [] name once = tt
once_without (entry ∷ table) name once = go (bytes_eq name entry.made.name) (once_without table name once.1)
  where
    none_left : (b : Bool) → cond b None (entry_named entry.made.name table) ≡ None
    none_left true = refl
    none_left false = none_of table entry.made.name once.0

    go : (b : Bool) → NamedOnce (without_macro table name) → NamedOnce (cond (not b) (entry ∷ without_macro table name) (without_macro table name))
    go true again = again
    go false again = (none_by (without_macro table name) entry.made.name (takes_one_name table name entry.made.name ∙ none_left (bytes_eq entry.made.name name)), again)

-- ## One macro more

none_with : (table : Table) (made : PlainMacro) (builtin : Bool) (other : Text) → bytes_eq other made.name ≡ false → macro_named other table ≡ None → macro_named other (with_macro table made builtin) ≡ None
none_with [] made builtin other differs none = ap (λ (b : Bool). found_if b made None) differs
none_with (entry ∷ table) made builtin other differs none =
    let (differs', none') = none_if (bytes_eq other entry.made.name) entry.made (macro_named other table) none in
    ap (λ (b : Bool). found_if b entry.made (macro_named other (with_macro table made builtin))) differs' ∙ none_with table made builtin other differs none'

once_with : (table : Table) (made : PlainMacro) (builtin : Bool) → NamedOnce table → macro_named made.name table ≡ None → NamedOnce (with_macro table made builtin)
once_with [] made builtin once none = (refl, tt)
once_with (entry ∷ table) made builtin once none =
    let (differs, none') = none_if (bytes_eq made.name entry.made.name) entry.made (macro_named made.name table) none in
    (none_with table made builtin entry.made.name (apart made.name entry.made.name differs) once.0, once_with table made builtin once.1 none')

pub stays_named_once : StaysNamedOnce
stays_named_once = (once_without, once_with)

-- ## Those that no built-in header defined

own_first : (entry : Entry) (table : Table) → own_of (entry ∷ table) ≡ cond (not entry.builtin) 1 0 + own_of table
own_first entry table = sum_by-cons (λ (e : Entry). cond (not e.builtin) 1 0) entry table

named_first : (name : Text) (entry : Entry) (table : Table) → own_named name (entry ∷ table) ≡ cond (bytes_eq name entry.made.name && not entry.builtin) 1 0 + own_named name table
named_first name entry table = sum_by-cons (λ (e : Entry). cond (bytes_eq name e.made.name && not e.builtin) 1 0) entry table

pub takes_one_own : TakesOneOwn
takes_one_own [] name = refl
takes_one_own (entry ∷ table) name =
    go (bytes_eq name entry.made.name) (takes_one_own table name) ∙ ap (λ (n : ℕ). n + own_of (without_macro (entry ∷ table) name)) (sym (named_first name entry table))
  where
    go : (b : Bool) → own_of table ≡ own_named name table + own_of (without_macro table name) →
        own_of (entry ∷ table) ≡ (cond (b && not entry.builtin) 1 0 + own_named name table) + own_of (cond (not b) (entry ∷ without_macro table name) (without_macro table name))
    go true again = omega (arith, again, own_first entry table)
    go false again = omega (arith, again, own_first entry table, own_first entry (without_macro table name))
