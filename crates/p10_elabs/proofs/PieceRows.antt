-- Typed statements of their parts, of which some may be lacking.
use Rattle.std.specs.Prelude.{◌≡◌, ℕ, Option, Some, None, option_map, List, [], ◌∷◌, ◌++◌, map, Vec, refl}
use Rattle.std.specs.declared.alloc.Global.{Global}
use Rattle.std.proofs.Common.{◌∙◌, ap}
use Rattle.p10_base.specs.declared.at.At.{At}
use Rattle.p10_core.specs.declared.statements.LoopHead.{LoopHead}
use Rattle.p10_core.specs.declared.statements.Stmt.{Stmt}
use Rattle.p10_core.specs.declared.typed.Value.{Value}
use Rattle.p10_core.specs.declared.statements.Label.{Label}
use Rattle.p10_core.specs.Typed.{PlainValue, PlainStatement, statement, if_then, if_else, loop, switch, more_statements, no_statements, statements_of_list}
use Rattle.p10_core.specs.Views.{plain_value, plain_statement, plain_statements}
use Rattle.p10_elabs.specs.Expressions.{statement_added}
use Rattle.p10_elabs.specs.Locals.{Local}
use Rattle.p10_elabs.specs.LocalViews.{plain_items, plain_cases}
use Rattle.p10_elabs.specs.Statements.{if_of, if_else_of, loop_of, tested_loop, switch_of}
use Rattle.p10_elabs.specs.private.Parts.{both}
use Rattle.p10_heads.proofs.ListRows.{mapped_more}

pub listed : (all : List Stmt) → plain_statements all ≡ statements_of_list (map plain_statement all)
listed [] = refl
listed (s ∷ rest) = ap (more_statements (plain_statement s)) (listed rest)

-- ## `if`

pub if_made : (at : At) (a : Option Value) (b : Option Stmt) (v : Value) (s : Stmt) (made : PlainStatement) → ◌≡◌ {A = Option (Value × Stmt)} (Some (v, s)) (both a b) → made ≡ statement at (if_then (plain_value v) (plain_statement s)) →
    Some made ≡ if_of at (option_map plain_value a) (option_map plain_statement b)
if_made at (Some x) (Some y) v s made is e =
    let one : ◌≡◌ {A = Value × Stmt} (v, s) (x, y) = cc in ap Some e ∙ ap (λ (p : Value × Stmt). Some (statement at (if_then (plain_value p.0) (plain_statement p.1)))) one
if_made at (Some x) None v s made is e = absurd cc
if_made at None b v s made is e = absurd cc

pub if_lacks : (at : At) (a : Option Value) (b : Option Stmt) → None ≡ both a b → None ≡ if_of at (option_map plain_value a) (option_map plain_statement b)
if_lacks at (Some x) (Some y) is = absurd cc
if_lacks at (Some x) None is = refl
if_lacks at None b is = refl

pub if_else_made : (at : At) (a : Option Value) (b c : Option Stmt) (v : Value) (s t : Stmt) (made : PlainStatement) → ◌≡◌ {A = Option ((Value × Stmt) × Stmt)} (Some ((v, s), t)) (both (both a b) c) →
    made ≡ statement at (if_else (plain_value v) (plain_statement s) (plain_statement t)) →
    Some made ≡ if_else_of at (option_map plain_value a) (option_map plain_statement b) (option_map plain_statement c)
if_else_made at (Some x) (Some y) (Some z) v s t made is e =
    let one : ◌≡◌ {A = (Value × Stmt) × Stmt} ((v, s), t) ((x, y), z) = cc in
    ap Some e ∙ ap (λ (p : (Value × Stmt) × Stmt). Some (statement at (if_else (plain_value p.0.0) (plain_statement p.0.1) (plain_statement p.1)))) one
if_else_made at (Some x) (Some y) None v s t made is e = absurd cc
if_else_made at (Some x) None c v s t made is e = absurd cc
if_else_made at None b c v s t made is e = absurd cc

pub if_else_lacks : (at : At) (a : Option Value) (b c : Option Stmt) → None ≡ both (both a b) c → None ≡ if_else_of at (option_map plain_value a) (option_map plain_statement b) (option_map plain_statement c)
if_else_lacks at (Some x) (Some y) (Some z) is = absurd cc
if_else_lacks at (Some x) (Some y) None is = refl
if_else_lacks at (Some x) None c is = refl
if_else_lacks at None b c is = refl

-- ## Loops

pub loop_made : (at : At) (head : LoopHead) (a : Option Value) (b : Option Stmt) (v : Value) (s : Stmt) (made : PlainStatement) → ◌≡◌ {A = Option (Value × Stmt)} (Some (v, s)) (both a b) →
    made ≡ statement at (loop head no_statements (Some (plain_value v)) no_statements (plain_statement s)) →
    Some made ≡ tested_loop at head (option_map plain_value a) (option_map plain_statement b)
loop_made at head (Some x) (Some y) v s made is e =
    let one : ◌≡◌ {A = Value × Stmt} (v, s) (x, y) = cc in
    ap Some e ∙ ap (λ (p : Value × Stmt). Some (statement at (loop head no_statements (Some (plain_value p.0)) no_statements (plain_statement p.1)))) one
loop_made at head (Some x) None v s made is e = absurd cc
loop_made at head None b v s made is e = absurd cc

pub loop_lacks : (at : At) (head : LoopHead) (a : Option Value) (b : Option Stmt) → None ≡ both a b → None ≡ tested_loop at head (option_map plain_value a) (option_map plain_statement b)
loop_lacks at head (Some x) (Some y) is = absurd cc
loop_lacks at head (Some x) None is = refl
loop_lacks at head None b is = refl

-- a loop of its parts
abbrev loop_with : At → LoopHead → ((List PlainStatement × Option PlainValue) × List PlainStatement) × PlainStatement → Option PlainStatement
loop_with at head p = Some (statement at (loop head (statements_of_list p.0.0.0) p.0.0.1 (statements_of_list p.0.1) p.1))

-- parts of a loop, as the definitions see them
abbrev loop_parts : ((Vec Stmt Global × Option Value) × Vec Stmt Global) × Stmt → ((List PlainStatement × Option PlainValue) × List PlainStatement) × PlainStatement
loop_parts p = (((map plain_statement p.0.0.0.items, option_map plain_value p.0.0.1), map plain_statement p.0.1.items), plain_statement p.1)

-- a loop of parts that are found
pub clauses_made : (at : At) (head : LoopHead) (a : Option (Vec Stmt Global)) (t : Option (Option Value)) (c : Option (Vec Stmt Global)) (b : Option Stmt)
    (first : Vec Stmt Global) (test : Option Value) (third : Vec Stmt Global) (s : Stmt) (made : PlainStatement) →
    ◌≡◌ {A = Option (((Vec Stmt Global × Option Value) × Vec Stmt Global) × Stmt)} (Some (((first, test), third), s)) (both (both (both a t) c) b) →
    made ≡ statement at (loop head (plain_statements first.items) (option_map plain_value test) (plain_statements third.items) (plain_statement s)) →
    Some made ≡ loop_of at head (plain_items a) (option_map (λ o. option_map plain_value o) t) (plain_items c) (option_map plain_statement b)
clauses_made at head (Some x) (Some y) (Some z) (Some w) first test third s made is e =
    let one : ◌≡◌ {A = ((Vec Stmt Global × Option Value) × Vec Stmt Global) × Stmt} (((first, test), third), s) (((x, y), z), w) = cc in
    ap Some e
    ∙ ap (λ xs. Some (statement at (loop head xs (option_map plain_value test) (plain_statements third.items) (plain_statement s)))) (listed first.items)
    ∙ ap (λ xs. Some (statement at (loop head (statements_of_list (map plain_statement first.items)) (option_map plain_value test) xs (plain_statement s)))) (listed third.items)
    ∙ ap (λ (p : ((Vec Stmt Global × Option Value) × Vec Stmt Global) × Stmt). loop_with at head (loop_parts p)) one
clauses_made at head (Some x) (Some y) (Some z) None first test third s made is e = absurd cc
clauses_made at head (Some x) (Some y) None b first test third s made is e = absurd cc
clauses_made at head (Some x) None c b first test third s made is e = absurd cc
clauses_made at head None t c b first test third s made is e = absurd cc

pub clauses_lack : (at : At) (head : LoopHead) (a : Option (Vec Stmt Global)) (t : Option (Option Value)) (c : Option (Vec Stmt Global)) (b : Option Stmt) →
    None ≡ both (both (both a t) c) b →
    None ≡ loop_of at head (plain_items a) (option_map (λ o. option_map plain_value o) t) (plain_items c) (option_map plain_statement b)
clauses_lack at head (Some x) (Some y) (Some z) (Some w) is = absurd cc
clauses_lack at head (Some x) (Some y) (Some z) None is = refl
clauses_lack at head (Some x) (Some y) None b is = refl
clauses_lack at head (Some x) None c b is = refl
clauses_lack at head None t c b is = refl

-- ## Items

pub item_added : (a : Option (Vec Stmt Global)) (b : Option Stmt) (items : Vec Stmt Global) (s : Stmt) (after : List Stmt) → ◌≡◌ {A = Option (Vec Stmt Global × Stmt)} (Some (items, s)) (both a b) → after ≡ items.items ++ s ∷ [] →
    Some (map plain_statement after) ≡ statement_added (plain_items a) (option_map plain_statement b)
item_added (Some x) (Some y) items s after is put =
    let one : ◌≡◌ {A = Vec Stmt Global × Stmt} (items, s) (x, y) = cc in
    ap (λ xs. Some (map plain_statement xs)) put ∙ ap Some (mapped_more plain_statement items.items s)
    ∙ ap (λ (p : Vec Stmt Global × Stmt). Some (map plain_statement p.0.items ++ plain_statement p.1 ∷ [])) one
item_added (Some x) None items s after is put = absurd cc
item_added None b items s after is put = absurd cc

pub item_lacks : (a : Option (Vec Stmt Global)) (b : Option Stmt) → None ≡ both a b → None ≡ statement_added (plain_items a) (option_map plain_statement b)
item_lacks (Some x) (Some y) is = absurd cc
item_lacks (Some x) None is = refl
item_lacks None b is = refl

-- ## `switch`

pub switch_made : (at keyword : At) (a : Option Value) (c : Option (Vec Label Global)) (o : Option ℕ) (l : Local) (b : Option Stmt) (v : Value) (cases : Vec Label Global) (listed : List Label) (s : Stmt) (made : PlainStatement) →
    ◌≡◌ {A = Option ((Value × Vec Label Global) × Stmt)} (Some ((v, cases), s)) (both (both a c) b) → listed ≡ cases.items →
    made ≡ statement at (switch keyword.span (plain_value v) (record { cases = listed; otherwise = o }) (plain_statement s)) →
    Some made ≡ switch_of at keyword (option_map plain_value a) (record { cases = plain_cases c; otherwise = o; after = l }) (option_map plain_statement b)
switch_made at keyword (Some x) (Some y) o l (Some z) v cases listed s made is same e =
    let one : ◌≡◌ {A = (Value × Vec Label Global) × Stmt} ((v, cases), s) ((x, y), z) = cc in
    ap Some e ∙ ap (λ xs. Some (statement at (switch keyword.span (plain_value v) (record { cases = xs; otherwise = o }) (plain_statement s)))) same
    ∙ ap (λ (p : (Value × Vec Label Global) × Stmt). Some (statement at (switch keyword.span (plain_value p.0.0) (record { cases = p.0.1.items; otherwise = o }) (plain_statement p.1)))) one
switch_made at keyword (Some x) (Some y) o l None v cases listed s made is same e = absurd cc
switch_made at keyword (Some x) None o l b v cases listed s made is same e = absurd cc
switch_made at keyword None c o l b v cases listed s made is same e = absurd cc

pub switch_lacks : (at keyword : At) (a : Option Value) (c : Option (Vec Label Global)) (o : Option ℕ) (l : Local) (b : Option Stmt) → None ≡ both (both a c) b →
    None ≡ switch_of at keyword (option_map plain_value a) (record { cases = plain_cases c; otherwise = o; after = l }) (option_map plain_statement b)
switch_lacks at keyword (Some x) (Some y) o l (Some z) is = absurd cc
switch_lacks at keyword (Some x) (Some y) o l None is = refl
switch_lacks at keyword (Some x) None o l (Some z) is = refl
switch_lacks at keyword (Some x) None o l None is = refl
switch_lacks at keyword None c o l b is = refl
