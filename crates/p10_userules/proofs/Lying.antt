-- Where all occurrences lie, and which part has all of them.
use Rattle.std.proofs.Common.{◌≡◌, ℕ, ◌+◌, ◌≤◌, List, [], ◌∷◌, ◌++◌, map, Bool, true, false, ◌||◌, Option, Some, None, refl, sym, ◌∙◌, ap, subst, arith, ◌⊎◌, inl, inr}
use Rattle.std.specs.List.{Contains}
use Rattle.std.proofs.lemmas.List.Elements.{Contains-append_left, Contains-append_right, Contains-append_cases}
use Rattle.p10_core.specs.Typed.{PlainStatement, statement, PlainStatementForm, set, update, copy, evaluate, asserts, declare, declare_static, block, if_then, if_else, loop, switch, break, continue, return, empty, mark, PlainStatements, no_statements, more_statements, PlainFunction, PlainObject}
use Rattle.p10_userules.specs.declared.occurrences.Referent.{Referent}
use Rattle.p10_userules.specs.declared.occurrences.Occurrence.{Occurrence}
use Rattle.p10_userules.specs.declared.parts.Stretch.{Stretch}
use Rattle.p10_userules.specs.declared.parts.BlockParts.{BlockParts}
use Rattle.p10_userules.specs.declared.spreads.Spread.{Spread}
use Rattle.p10_userules.specs.Occurrences.{times, occurrences_in_value, occurrences_in_statement, occurrences_in_statement_form, occurrences_in_statements}
use Rattle.p10_userules.specs.Blocks.{reached_in, reached_in_form, reached_among}
use Rattle.p10_userules.specs.Violations.{IsUsedOnlyIn}
use Rattle.p10_userules.specs.private.Spreads.{spread_of, lies_in, lies_in_one}
use Rattle.p10_userules.specs.private.Outermost.{outermost_in, outermost_in_form, outermost_among}
use Rattle.p10_userules.specs.private.Laid.{Stands, AllStand, IsBlock, AreBlocks, AreFunctions}
use Rattle.p10_userules.proofs.Spreading.{used_only, lies, times_append}
use Rattle.p10_userules.proofs.Members.{none_in, here, there, lone, first_or_later, mapped}

-- ## One of some parts

in_none : (s : Option Spread) → lies_in_one s [] ≡ false
in_none None = refl
in_none (Some s) = refl

in_one_of : (s : Option Spread) (t : Stretch) (ts : List Stretch) → lies_in_one s (t ∷ ts) ≡ (lies_in s t || lies_in_one s ts)
in_one_of None t ts = refl
in_one_of (Some s) t ts = refl

either : (a b : Bool) → (a || b) ≡ true → (a ≡ true) ⊎ (b ≡ true)
either true b e = inl refl
either false b e = inr e

or_right : (a b : Bool) → b ≡ true → (a || b) ≡ true
or_right true b e = refl
or_right false b e = e

pub lies_part : (start : ℕ) (os : List Occurrence) (x : Referent) (ts : List Stretch) (parts : List (List Occurrence)) → AllStand start os ts parts → lies_in_one (spread_of start x os) ts ≡ true
    → (part : List Occurrence) × Contains parts part × IsUsedOnlyIn x part os
lies_part start os x [] [] all e = absurd (absurd_by (sym (in_none (spread_of start x os)) ∙ e)) where
  absurd_by : false ≡ true → ⊥
  absurd_by e = cc
lies_part start os x [] (p ∷ ps) all e = absurd all
lies_part start os x (t ∷ ts) [] all e = absurd all
lies_part start os x (t ∷ ts) (p ∷ ps) (this, all) e =
    elim (either (lies_in (spread_of start x os) t) (lies_in_one (spread_of start x os) ts) (sym (in_one_of (spread_of start x os) t ts) ∙ e)) [
      | inl first ↦ (p, here p ps, used_only start x os t p this first)
      | inr later ↦ let found = lies_part start os x ts ps all later in (found.0, there p ps found.0 found.1, found.2)
    ]

pub part_lies : (start : ℕ) (os : List Occurrence) (x : Referent) (ts : List Stretch) (parts : List (List Occurrence)) (part : List Occurrence) → AllStand start os ts parts → Contains parts part → IsUsedOnlyIn x part os
    → lies_in_one (spread_of start x os) ts ≡ true
part_lies start os x [] [] part all held u = absurd (none_in part held)
part_lies start os x [] (p ∷ ps) part all held u = absurd all
part_lies start os x (t ∷ ts) [] part all held u = absurd all
part_lies start os x (t ∷ ts) (p ∷ ps) part (this, all) held u =
    in_one_of (spread_of start x os) t ts
    ∙ elim (first_or_later p ps part held) [
      | inl same ↦ ap (λ b. b || lies_in_one (spread_of start x os) ts) (lies start x os t p this (subst (λ l. IsUsedOnlyIn x l os) (sym same) u))
      | inr later ↦ or_right (lies_in (spread_of start x os) t) (lies_in_one (spread_of start x os) ts) (part_lies start os x ts ps part all later u)
    ]

-- ## Functions

pub functions_stand : (objects : List PlainObject) (all : List Occurrence) (fs : List PlainFunction) (ts : List Stretch) (bs : List (List BlockParts)) → AreFunctions objects all fs ts bs
    → AllStand 0 all ts (map (λ f. occurrences_in_statements objects f.body) fs)
functions_stand objects all [] [] [] are = tt
functions_stand objects all [] [] (b ∷ bs) are = absurd are
functions_stand objects all [] (t ∷ ts) bs are = absurd are
functions_stand objects all (f ∷ fs) [] bs are = absurd are
functions_stand objects all (f ∷ fs) (t ∷ ts) [] are = absurd are
functions_stand objects all (f ∷ fs) (t ∷ ts) (b ∷ bs) (this, rest) = (this.stands, functions_stand objects all fs ts bs rest)

-- ## Blocks

pub block_for : (objects : List PlainObject) (start : ℕ) (os : List Occurrence) (bs : List BlockParts) (ps : List PlainStatements) (p : PlainStatements) → AreBlocks objects start os bs ps → Contains ps p
    → (b : BlockParts) × Contains bs b × IsBlock objects start os b p
block_for objects start os [] [] p are held = absurd (none_in p held)
block_for objects start os [] (q ∷ ps) p are held = absurd are
block_for objects start os (b ∷ bs) [] p are held = absurd are
block_for objects start os (b ∷ bs) (q ∷ ps) p (this, rest) held =
    elim (first_or_later q ps p held) [
      | inl same ↦ (b, here b bs, subst (IsBlock objects start os b) same this)
      | inr later ↦ let found = block_for objects start os bs ps p rest later in (found.0, there b bs found.0 found.1, found.2)
    ]

pub items_for : (objects : List PlainObject) (start : ℕ) (os : List Occurrence) (bs : List BlockParts) (ps : List PlainStatements) (b : BlockParts) → AreBlocks objects start os bs ps → Contains bs b
    → (p : PlainStatements) × Contains ps p × IsBlock objects start os b p
items_for objects start os [] [] b are held = absurd (none_in b held)
items_for objects start os [] (q ∷ ps) b are held = absurd are
items_for objects start os (c ∷ bs) [] b are held = absurd are
items_for objects start os (c ∷ bs) (q ∷ ps) b (this, rest) held =
    elim (first_or_later c bs b held) [
      | inl same ↦ (q, here q ps, subst (λ d. IsBlock objects start os d q) same this)
      | inr later ↦ let found = items_for objects start os bs ps b rest later in (found.0, there q ps found.0 found.1, found.2)
    ]

-- ## The outermost blocks

-- a block has, of each thing, no more occurrences than another
abbrev AtMost : List PlainObject → PlainStatements → PlainStatements → Type 0
AtMost objects inner outer = (x : Referent) → times x (occurrences_in_statements objects inner) ≤ times x (occurrences_in_statements objects outer)

-- a block lies in one of some
pub record LiesIn (objects : List PlainObject) (outer : List PlainStatements) (inner : PlainStatements) : Type 0 where
  pub block : PlainStatements
  pub held : Contains outer block
  pub most : AtMost objects inner block

left_of : (objects : List PlainObject) (a b : List PlainStatements) (inner : PlainStatements) → LiesIn objects a inner → LiesIn objects (a ++ b) inner
left_of objects a b inner l = record { block = l.block; held = Contains-append_left a b l.block l.held; most = l.most }

right_of : (objects : List PlainObject) (a b : List PlainStatements) (inner : PlainStatements) → LiesIn objects b inner → LiesIn objects (a ++ b) inner
right_of objects a b inner l = record { block = l.block; held = Contains-append_right a b l.block l.held; most = l.most }

mutual
  -- the outermost blocks are reached
  pub outermost_reached : (s : PlainStatement) (p : PlainStatements) → Contains (outermost_in s) p → Contains (reached_in s) p
  outermost_reached (statement at f) p held = outermost_form f p held

  outermost_form : (f : PlainStatementForm) (p : PlainStatements) → Contains (outermost_in_form f) p → Contains (reached_in_form f) p
  outermost_form (block ss) p held = subst (Contains (ss ∷ reached_among ss)) (lone ss p held) (here ss (reached_among ss))
  outermost_form (if_then v s) p held = outermost_reached s p held
  outermost_form (if_else v s t) p held =
      elim (Contains-append_cases (outermost_in s) (outermost_in t) p held) [
        | inl first ↦ Contains-append_left (reached_in s) (reached_in t) p (outermost_reached s p first)
        | inr later ↦ Contains-append_right (reached_in s) (reached_in t) p (outermost_reached t p later)
      ]
  outermost_form (switch span v labels body) p held = outermost_reached body p held
  outermost_form (loop head first test third body) p held = absurd (none_in p held)
  outermost_form (set q v) p held = absurd (none_in p held)
  outermost_form (update kind op t q v) p held = absurd (none_in p held)
  outermost_form (copy q r) p held = absurd (none_in p held)
  outermost_form (evaluate v) p held = absurd (none_in p held)
  outermost_form (asserts at v) p held = absurd (none_in p held)
  outermost_form (declare n i) p held = absurd (none_in p held)
  outermost_form (declare_static n) p held = absurd (none_in p held)
  outermost_form break p held = absurd (none_in p held)
  outermost_form continue p held = absurd (none_in p held)
  outermost_form (return span v) p held = absurd (none_in p held)
  outermost_form empty p held = absurd (none_in p held)
  outermost_form (mark kind) p held = absurd (none_in p held)

  pub outermost_all_reached : (ss : PlainStatements) (p : PlainStatements) → Contains (outermost_among ss) p → Contains (reached_among ss) p
  outermost_all_reached no_statements p held = absurd (none_in p held)
  outermost_all_reached (more_statements s rest) p held =
      elim (Contains-append_cases (outermost_in s) (outermost_among rest) p held) [
        | inl first ↦ Contains-append_left (reached_in s) (reached_among rest) p (outermost_reached s p first)
        | inr later ↦ Contains-append_right (reached_in s) (reached_among rest) p (outermost_all_reached rest p later)
      ]

-- a block that is reached has, of each thing, no more occurrences than the statements in which it lies
abbrev WithinStatement : List PlainObject → PlainStatement → PlainStatements → Type 0
WithinStatement objects s inner = (x : Referent) → times x (occurrences_in_statements objects inner) ≤ times x (occurrences_in_statement objects s)

added : (x : Referent) (a b : List Occurrence) (n : ℕ) → n ≤ times x b → n ≤ times x (a ++ b)
added x a b n h = let sum = times_append x a b in omega (arith, sum, h)

added_left : (x : Referent) (a b : List Occurrence) (n : ℕ) → n ≤ times x a → n ≤ times x (a ++ b)
added_left x a b n h = let sum = times_append x a b in omega (arith, sum, h)

mutual
  within_statement : (objects : List PlainObject) (s : PlainStatement) (p : PlainStatements) → Contains (reached_in s) p → WithinStatement objects s p
  within_statement objects (statement at f) p held = within_form objects f p held

  within_form : (objects : List PlainObject) (f : PlainStatementForm) (p : PlainStatements) → Contains (reached_in_form f) p → (x : Referent) → times x (occurrences_in_statements objects p) ≤ times x (occurrences_in_statement_form objects f)
  within_form objects (block ss) p held x =
      elim (first_or_later ss (reached_among ss) p held) [
        | inl same ↦ subst (λ q. times x (occurrences_in_statements objects q) ≤ times x (occurrences_in_statements objects ss)) same (omega arith)
        | inr later ↦ within_all objects ss p later x
      ]
  within_form objects (if_then v s) p held x = added x (occurrences_in_value true v) (occurrences_in_statement objects s) _ (within_statement objects s p held x)
  within_form objects (if_else v s t) p held x =
      added x (occurrences_in_value true v) (occurrences_in_statement objects s ++ occurrences_in_statement objects t) _
      (elim (Contains-append_cases (reached_in s) (reached_in t) p held) [
        | inl first ↦ added_left x (occurrences_in_statement objects s) (occurrences_in_statement objects t) _ (within_statement objects s p first x)
        | inr later ↦ added x (occurrences_in_statement objects s) (occurrences_in_statement objects t) _ (within_statement objects t p later x)
      ])
  within_form objects (switch span v labels body) p held x = added x (occurrences_in_value false v) (occurrences_in_statement objects body) _ (within_statement objects body p held x)
  within_form objects (loop head first test third body) p held x = absurd (none_in p held)
  within_form objects (set q v) p held x = absurd (none_in p held)
  within_form objects (update kind op t q v) p held x = absurd (none_in p held)
  within_form objects (copy q r) p held x = absurd (none_in p held)
  within_form objects (evaluate v) p held x = absurd (none_in p held)
  within_form objects (asserts at v) p held x = absurd (none_in p held)
  within_form objects (declare n i) p held x = absurd (none_in p held)
  within_form objects (declare_static n) p held x = absurd (none_in p held)
  within_form objects break p held x = absurd (none_in p held)
  within_form objects continue p held x = absurd (none_in p held)
  within_form objects (return span v) p held x = absurd (none_in p held)
  within_form objects empty p held x = absurd (none_in p held)
  within_form objects (mark kind) p held x = absurd (none_in p held)

  within_all : (objects : List PlainObject) (ss : PlainStatements) (p : PlainStatements) → Contains (reached_among ss) p → (x : Referent) → times x (occurrences_in_statements objects p) ≤ times x (occurrences_in_statements objects ss)
  within_all objects no_statements p held x = absurd (none_in p held)
  within_all objects (more_statements s rest) p held x =
      elim (Contains-append_cases (reached_in s) (reached_among rest) p held) [
        | inl first ↦ added_left x (occurrences_in_statement objects s) (occurrences_in_statements objects rest) _ (within_statement objects s p first x)
        | inr later ↦ added x (occurrences_in_statement objects s) (occurrences_in_statements objects rest) _ (within_all objects rest p later x)
      ]

mutual
  lies_in_outermost : (objects : List PlainObject) (s : PlainStatement) (p : PlainStatements) → Contains (reached_in s) p → LiesIn objects (outermost_in s) p
  lies_in_outermost objects (statement at f) p held = lies_in_form objects f p held

  lies_in_form : (objects : List PlainObject) (f : PlainStatementForm) (p : PlainStatements) → Contains (reached_in_form f) p → LiesIn objects (outermost_in_form f) p
  lies_in_form objects (block ss) p held = record { block = ss; held = here ss []; most = within_form objects (block ss) p held }
  lies_in_form objects (if_then v s) p held = lies_in_outermost objects s p held
  lies_in_form objects (if_else v s t) p held =
      elim (Contains-append_cases (reached_in s) (reached_in t) p held) [
        | inl first ↦ left_of objects (outermost_in s) (outermost_in t) p (lies_in_outermost objects s p first)
        | inr later ↦ right_of objects (outermost_in s) (outermost_in t) p (lies_in_outermost objects t p later)
      ]
  lies_in_form objects (switch span v labels body) p held = lies_in_outermost objects body p held
  lies_in_form objects (loop head first test third body) p held = absurd (none_in p held)
  lies_in_form objects (set q v) p held = absurd (none_in p held)
  lies_in_form objects (update kind op t q v) p held = absurd (none_in p held)
  lies_in_form objects (copy q r) p held = absurd (none_in p held)
  lies_in_form objects (evaluate v) p held = absurd (none_in p held)
  lies_in_form objects (asserts at v) p held = absurd (none_in p held)
  lies_in_form objects (declare n i) p held = absurd (none_in p held)
  lies_in_form objects (declare_static n) p held = absurd (none_in p held)
  lies_in_form objects break p held = absurd (none_in p held)
  lies_in_form objects continue p held = absurd (none_in p held)
  lies_in_form objects (return span v) p held = absurd (none_in p held)
  lies_in_form objects empty p held = absurd (none_in p held)
  lies_in_form objects (mark kind) p held = absurd (none_in p held)

  pub all_lie_in_outermost : (objects : List PlainObject) (ss : PlainStatements) (p : PlainStatements) → Contains (reached_among ss) p → LiesIn objects (outermost_among ss) p
  all_lie_in_outermost objects no_statements p held = absurd (none_in p held)
  all_lie_in_outermost objects (more_statements s rest) p held =
      elim (Contains-append_cases (reached_in s) (reached_among rest) p held) [
        | inl first ↦ left_of objects (outermost_in s) (outermost_among rest) p (lies_in_outermost objects s p first)
        | inr later ↦ right_of objects (outermost_in s) (outermost_among rest) p (all_lie_in_outermost objects rest p later)
      ]

-- ## Used only in an outermost block

no_more : (start : ℕ) (os : List Occurrence) (x : Referent) (t : Stretch) (part : List Occurrence) → Stands start os t part → times x part ≤ times x os
no_more start os x t part s =
    let all : times x os ≡ times x s.front + (times x part + times x s.back) = ap (times x) s.is ∙ times_append x s.front (part ++ s.back) ∙ ap (λ n. times x s.front + n) (times_append x part s.back) in
    omega (arith, all)

none_more : (start : ℕ) (os : List Occurrence) (x : Referent) (ts : List Stretch) (parts : List (List Occurrence)) (part : List Occurrence) → AllStand start os ts parts → Contains parts part → times x part ≤ times x os
none_more start os x [] [] part all held = absurd (none_in part held)
none_more start os x [] (p ∷ ps) part all held = absurd all
none_more start os x (t ∷ ts) [] part all held = absurd all
none_more start os x (t ∷ ts) (p ∷ ps) part (this, all) held =
    elim (first_or_later p ps part held) [
      | inl same ↦ subst (λ l. times x l ≤ times x os) same (no_more start os x t p this)
      | inr later ↦ none_more start os x ts ps part all later
    ]

-- what is used only in a block that is reached is used only in an outermost one
pub in_outermost : (objects : List PlainObject) (start : ℕ) (os : List Occurrence) (x : Referent) (ts : List Stretch) (items inner : PlainStatements) → AllStand start os ts (map (occurrences_in_statements objects) (outermost_among items))
    → Contains (reached_among items) inner → IsUsedOnlyIn x (occurrences_in_statements objects inner) os → lies_in_one (spread_of start x os) ts ≡ true
in_outermost objects start os x ts items inner all reached u =
    let l = all_lie_in_outermost objects items inner reached in
    let held : Contains (map (occurrences_in_statements objects) (outermost_among items)) (occurrences_in_statements objects l.block) = mapped (occurrences_in_statements objects) (outermost_among items) l.block l.held in
    let low : times x (occurrences_in_statements objects inner) ≤ times x (occurrences_in_statements objects l.block) = l.most x in
    let high : times x (occurrences_in_statements objects l.block) ≤ times x os = none_more start os x ts (map (occurrences_in_statements objects) (outermost_among items)) (occurrences_in_statements objects l.block) all held in
    part_lies start os x ts (map (occurrences_in_statements objects) (outermost_among items)) (occurrences_in_statements objects l.block) all held
    (record { used = omega (arith, low, u.used); only = omega (arith, low, high, u.only) })
