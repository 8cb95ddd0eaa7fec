-- The labels of a `switch` are those that its tree has.
use Rattle.std.specs.Prelude.{◌≡◌, ℕ, ◌+◌, ℤ, Bool, true, false, if◌then◌else◌, List, [], ◌∷◌, ◌++◌, length, Option, Some, None, Ok, Err, refl}
use Rattle.std.proofs.Common.{sym, ◌∙◌, ap, subst, append_assoc, length-append}
use Rattle.std.proofs.lemmas.List.{append-nil}
use Rattle.p10_base.specs.declared.at.At.{At}
use Rattle.p10_syn.specs.Trees.{Expression, Statement, Block, Switch, Case, Default, Statements, NoStatements, MoreStatements}
use Rattle.p10_core.specs.declared.statements.Label.{Label as CaseLabel}
use Rattle.p10_core.specs.Typed.{PlainValue, PlainStatement}
use Rattle.p10_elabx.specs.First.{Keep, Found, on}
use Rattle.p10_elabx.specs.Scopes.{PlainScope}
use Rattle.p10_elabd.specs.Standing.{PlainStanding, noted}
use Rattle.p10_elabd.specs.Expressions.{for_expression, value_found}
use Rattle.p10_elabd.specs.Tags.{scope_of_expression}
use Rattle.p10_elabs.specs.declared.kind.Kind.TheVariants as item
use Rattle.p10_elabs.specs.declared.round.Round.{Round}
use Rattle.p10_elabs.specs.Locals.{Frame, Local, Done, done_in, opened}
use Rattle.p10_elabs.specs.Expressions.{switch_done}
use Rattle.p10_elabs.specs.Statements.{among_labels, inside_switch, part_ended, block_of, with_statement, Labelled, is_labelled, label_added, case_noted, case_value, case_done, default_done, labels_noted, switch_of, Switched, nothing_switched, with_labels, switched_done, done}
use Rattle.p10_refusals.specs.Switches.{PlacedLabel, a_case, a_default, labels_of_item, labels_of_items, labels_of_switch, default_in, standing_in, AreLabels, AreThoseOf, IsSwitchWith, LabelsOfSwitchesAreThoseWritten}

-- ## Lists of labels

are_both : (h : Keep) (on' : Option PlainValue) (xs ys : List PlacedLabel) (ls ms : List CaseLabel) → AreLabels h on' xs ls → AreLabels h on' ys ms → AreLabels h on' (xs ++ ys) (ls ++ ms)
are_both h on' [] ys [] ms a b = b
are_both h on' [] ys (l ∷ ls) ms a b = absurd a
are_both h on' (a_default n ∷ xs) ys ls ms a b = are_both h on' xs ys ls ms a b
are_both h on' (a_case n c e ∷ xs) ys [] ms a b = absurd a
are_both h on' (a_case n c e ∷ xs) ys (l ∷ ls) ms (i, a) b = (i, are_both h on' xs ys ls ms a b)

-- a `case` more leaves `default` where it is
default_kept : (n : ℕ) (c : PlainScope) (e : Expression At) (xs : List PlacedLabel) → default_in xs ≡ default_in (xs ++ a_case n c e ∷ [])
default_kept n c e [] = refl
default_kept n c e (a_case m d x ∷ xs) = default_kept n c e xs
default_kept n c e (a_default m ∷ xs) = refl

-- the first `default` of more labels
default_added : (n : ℕ) (xs : List PlacedLabel) → None ≡ default_in xs → Some n ≡ default_in (xs ++ a_default n ∷ [])
default_added n [] h = refl
default_added n (a_case m d x ∷ xs) h = default_added n xs h
default_added n (a_default m ∷ xs) h = absurd cc

default_stays : (n m : ℕ) (xs : List PlacedLabel) → Some m ≡ default_in xs → Some m ≡ default_in (xs ++ a_default n ∷ [])
default_stays n m [] h = absurd cc
default_stays n m (a_case k d x ∷ xs) h = default_stays n m xs h
default_stays n m (a_default k ∷ xs) h = h

-- `default` adds no label with a value
default_adds_none : (h : Keep) (on' : Option PlainValue) (n : ℕ) (xs : List PlacedLabel) (ls : List CaseLabel) → AreLabels h on' xs ls → AreLabels h on' (xs ++ a_default n ∷ []) ls
default_adds_none h on' n [] [] a = tt
default_adds_none h on' n [] (l ∷ ls) a = absurd a
default_adds_none h on' n (a_default m ∷ xs) ls a = default_adds_none h on' n xs ls a
default_adds_none h on' n (a_case m c e ∷ xs) [] a = absurd a
default_adds_none h on' n (a_case m c e ∷ xs) (l ∷ ls) (i, a) = (i, default_adds_none h on' n xs ls a)

-- ## One label

-- what is noted was found
abbrev found_of : Option ℤ → Found ℤ
found_of None = Err []
found_of (Some z) = Ok z

noted_found : (h : Keep) (f : Found ℤ) (s : PlainStanding) (z : ℤ) → (noted h f s).made ≡ Some z → f ≡ Ok z
noted_found h (Ok a) s z e = ap found_of e
noted_found h (Err rs) s z e = absurd cc

-- the value of a `case` in a scope
abbrev IsValueOf : Keep → Option PlainValue → PlainScope → Expression At → ℤ → Type 0
IsValueOf h on' c e z = on (value_found h (standing_in c) e) (case_value on') ≡ Ok z

abbrev cases_or : List CaseLabel → Option (List CaseLabel) → List CaseLabel
cases_or ls None = ls
cases_or ls (Some cs) = cs

one_more : (h : Keep) (on' : Option PlainValue) (n : ℕ) (c : PlainScope) (e : Expression At) (z : ℤ) (placed : List PlacedLabel) (o : Option (List CaseLabel)) → IsValueOf h on' c e z →
    ((cs : List CaseLabel) → o ≡ Some cs → AreLabels h on' placed cs) → (cs : List CaseLabel) → label_added o z n ≡ Some cs → AreLabels h on' (placed ++ a_case n c e ∷ []) cs
one_more h on' n c e z placed None is known cs eq = absurd cc
one_more h on' n c e z placed (Some ls) is known cs eq =
    subst (AreLabels h on' (placed ++ a_case n c e ∷ [])) (ap (cases_or ls) eq)
    (are_both h on' placed (a_case n c e ∷ []) ls (record { value = z; place = n } ∷ []) (known ls refl) (record { place = refl; value = is }, tt))

either_labelled : (h : Keep) (on' : Option PlainValue) (placed : List PlacedLabel) (b : Bool) (k j : Labelled) → AreThoseOf h on' placed k → AreThoseOf h on' placed j →
    AreThoseOf h on' placed (if b then k else j)
either_labelled h on' placed true k j a b = a
either_labelled h on' placed false k j a b = b

case_is : (h : Keep) (on' : Option PlainValue) (at : At) (n : ℕ) (c : PlainScope) (e : Expression At) (placed : List PlacedLabel) (k : Labelled) (o : Option ℤ) (l : Local) →
    ((z : ℤ) → o ≡ Some z → IsValueOf h on' c e z) → AreThoseOf h on' placed k → AreThoseOf h on' (placed ++ a_case n c e ∷ []) (case_noted h at n k o l)
case_is h on' at n c e placed k None l is a = record { otherwise = a.otherwise ∙ default_kept n c e placed; cases = λ cs eq. absurd cc }
case_is h on' at n c e placed k (Some z) l is a =
    either_labelled h on' (placed ++ a_case n c e ∷ []) (is_labelled z k.cases) _ _
    (record { otherwise = a.otherwise ∙ default_kept n c e placed; cases = λ cs eq. absurd cc })
    (record { otherwise = a.otherwise ∙ default_kept n c e placed; cases = one_more h on' n c e z placed k.cases (is z refl) a.cases })

case_done_is : (h : Keep) (on' : Option PlainValue) (at : At) (n : ℕ) (e : Expression At) (placed : List PlacedLabel) (k : Labelled) → AreThoseOf h on' placed k →
    AreThoseOf h on' (placed ++ a_case n k.after.standing.scope e ∷ []) (case_done h at n on' k e)
case_done_is h on' at n e placed k a =
    let d : Done ℤ = done_in k.after (noted h (on (value_found h k.after.standing e) (case_value on')) (for_expression k.after.standing e)) in
    case_is h on' at n k.after.standing.scope e placed k d.made d.after
    (λ z eq. noted_found h (on (value_found h k.after.standing e) (case_value on')) (for_expression k.after.standing e) z eq) a

default_is : (h : Keep) (on' : Option PlainValue) (at : At) (n : ℕ) (placed : List PlacedLabel) (cases : Option (List CaseLabel)) (o : Option ℕ) (l : Local) →
    AreThoseOf h on' placed (record { cases = cases; otherwise = o; after = l }) →
    AreThoseOf h on' (placed ++ a_default n ∷ []) (default_done h at n (record { cases = cases; otherwise = o; after = l }))
default_is h on' at n placed cases None l a =
    record { otherwise = default_added n placed a.otherwise; cases = λ cs eq. default_adds_none h on' n placed cs (a.cases cs eq) }
default_is h on' at n placed cases (Some m) l a = record { otherwise = default_stays n m placed a.otherwise; cases = λ cs eq. absurd cc }

-- ## Where labels stand

either_scope : (b : Bool) (k j : Labelled) (c : PlainScope) → k.after.standing.scope ≡ c → j.after.standing.scope ≡ c → (if b then k else j).after.standing.scope ≡ c
either_scope true k j c e f = e
either_scope false k j c e f = f

noted_scope : (h : Keep) (f : Found ℤ) (s : PlainStanding) → (noted h f s).after.scope ≡ s.scope
noted_scope h (Ok z) s = refl
noted_scope h (Err rs) s = refl

case_noted_scope : (h : Keep) (at : At) (n : ℕ) (k : Labelled) (o : Option ℤ) (l : Local) → (case_noted h at n k o l).after.standing.scope ≡ l.standing.scope
case_noted_scope h at n k None l = refl
case_noted_scope h at n k (Some z) l = either_scope (is_labelled z k.cases) _ _ l.standing.scope refl refl

-- after the constant of a `case` stands what that declares
case_scope : (h : Keep) (on' : Option PlainValue) (at : At) (n : ℕ) (k : Labelled) (e : Expression At) →
    scope_of_expression k.after.standing.scope e ≡ (case_done h at n on' k e).after.standing.scope
case_scope h on' at n k e =
    let d : Done ℤ = done_in k.after (noted h (on (value_found h k.after.standing e) (case_value on')) (for_expression k.after.standing e)) in
    sym (case_noted_scope h at n k d.made d.after ∙ noted_scope h (on (value_found h k.after.standing e) (case_value on')) (for_expression k.after.standing e))

default_scope : (h : Keep) (at : At) (n : ℕ) (cases : Option (List CaseLabel)) (o : Option ℕ) (l : Local) →
    l.standing.scope ≡ (default_done h at n (record { cases = cases; otherwise = o; after = l })).after.standing.scope
default_scope h at n cases None l = refl
default_scope h at n cases (Some m) l = refl

-- ## Items

item_is : (h : Keep) (on' : Option PlainValue) (n : ℕ) (placed : List PlacedLabel) (k : Labelled) (s : Statement At) → AreThoseOf h on' placed k →
    AreThoseOf h on' (placed ++ labels_of_item n k.after.standing.scope s) (labels_noted h n on' k s)
item_is h on' n placed k (Case at e s) a =
    let c : PlainScope = k.after.standing.scope in
    subst (λ xs. AreThoseOf h on' xs (labels_noted h n on' (case_done h at n on' k e) s))
    (ap (λ d. (placed ++ a_case n c e ∷ []) ++ labels_of_item n d s) (sym (case_scope h on' at n k e)) ∙ append_assoc placed (a_case n c e ∷ []) (labels_of_item n (scope_of_expression c e) s))
    (item_is h on' n (placed ++ a_case n c e ∷ []) (case_done h at n on' k e) s (case_done_is h on' at n e placed k a))
item_is h on' n placed k (Default at s) a =
    let c : PlainScope = k.after.standing.scope in
    subst (λ xs. AreThoseOf h on' xs (labels_noted h n on' (default_done h at n k) s))
    (ap (λ d. (placed ++ a_default n ∷ []) ++ labels_of_item n d s) (sym (default_scope h at n k.cases k.otherwise k.after)) ∙ append_assoc placed (a_default n ∷ []) (labels_of_item n c s))
    (item_is h on' n (placed ++ a_default n ∷ []) (default_done h at n k) s (default_is h on' at n placed k.cases k.otherwise k.after a))
item_is h on' n placed k s a = subst (λ xs. AreThoseOf h on' xs k) (sym (append-nil placed)) a

items_are : (h : Keep) (f : Frame) (r : Round) (on' : Option PlainValue) (placed : List PlacedLabel) (w : Switched) (ss : Statements At) → AreThoseOf h on' placed w.labels →
    AreThoseOf h on' (placed ++ labels_of_items h f r on' (length w.items.kinds) w ss) (switched_done h f r on' w ss).labels
items_are h f r on' placed w NoStatements a = subst (λ xs. AreThoseOf h on' xs w.labels) (sym (append-nil placed)) a
items_are h f r on' placed w (MoreStatements s rest) a =
    let k : Labelled = with_labels h on' w s in
    let n : ℕ = length w.items.kinds in
    let here : List PlacedLabel = labels_of_item n w.items.after.standing.scope s in
    let w' : Switched = record { items = with_statement w.items item.Other (done h f r k.after s); labels = k } in
    subst (λ xs. AreThoseOf h on' xs (switched_done h f r on' w' rest).labels)
    (ap (λ m. (placed ++ here) ++ labels_of_items h f r on' m w' rest) (length-append w.items.kinds (item.Other ∷ [])) ∙ append_assoc placed here (labels_of_items h f r on' (n + 1) w' rest))
    (items_are h f r on' (placed ++ here) w' rest
    (item_is h on' n placed (record w.labels { after = w.items.after }) s (record { otherwise = a.otherwise; cases = a.cases })))

nothing_is : (h : Keep) (on' : Option PlainValue) (l : Local) → AreThoseOf h on' [] (record { cases = Some []; otherwise = None; after = l })
nothing_is h on' l = record { otherwise = refl; cases = λ cs eq. subst (AreLabels h on' []) (ap (cases_or []) eq) tt }

of_items : (h : Keep) (f : Frame) (r : Round) (on' : Option PlainValue) (l : Local) (ss : Statements At) →
    AreThoseOf h on' (labels_of_items h f r on' 0 (nothing_switched l) ss) (switched_done h f r on' (nothing_switched l) ss).labels
of_items h f r on' l ss = items_are h f r on' [] (nothing_switched l) ss (nothing_is h on' l)

-- ## Whole statements

abbrev statement_or : PlainStatement → Option PlainStatement → PlainStatement
statement_or s None = s
statement_or s (Some t) = t

switch_is : (h : Keep) (at keyword : At) (placed : List PlacedLabel) (v : Option PlainValue) (cases : Option (List CaseLabel)) (o : Option ℕ) (l : Local) (b : Option PlainStatement) (made : PlainStatement) →
    AreThoseOf h v placed (record { cases = cases; otherwise = o; after = l }) →
    switch_of at keyword v (record { cases = cases; otherwise = o; after = l }) b ≡ Some made → IsSwitchWith h at keyword placed made
switch_is h at keyword placed None cases o l b made a eq = absurd cc
switch_is h at keyword placed (Some v) cases o l None made a eq = absurd cc
switch_is h at keyword placed (Some v) None o l (Some b) made a eq = absurd cc
switch_is h at keyword placed (Some v) (Some cs) o l (Some b) made a eq = record {
  value = v;
  labels = record { cases = cs; otherwise = o };
  block = b;
  same = ap (statement_or made) (sym eq);
  otherwise = a.otherwise;
  cases = a.cases cs refl;
}

of_statement : (h : Keep) (f : Frame) (r : Round) (l : Local) (at keyword : At) (e : Expression At) (body : Statement At) (made : PlainStatement) →
    (done h f r l (Switch at keyword e body)).made ≡ Some made → IsSwitchWith h at keyword (labels_of_switch h f r l e body) made
of_statement h f r l at keyword e (Block place ss) made eq =
    let v : Done PlainValue = switch_done h (opened l) e in
    let w : Switched = switched_done h f (among_labels r) v.made (nothing_switched (opened v.after)) ss in
    switch_is h at keyword (labels_of_switch h f r l e (Block place ss)) v.made w.labels.cases w.labels.otherwise w.labels.after (block_of place w.items.made) made
    (of_items h f (among_labels r) v.made (opened v.after) ss) eq
of_statement h f r l at keyword e s made eq =
    let v : Done PlainValue = switch_done h (opened l) e in
    let d : Done PlainStatement = part_ended (done h f (inside_switch r) (opened v.after) s) in
    switch_is h at keyword [] v.made (Some []) None d.after d.made made (nothing_is h v.made d.after) eq

pub labels_of_switches_are_those_written : LabelsOfSwitchesAreThoseWritten
labels_of_switches_are_those_written = record { of_items = of_items; of_statement = of_statement }
