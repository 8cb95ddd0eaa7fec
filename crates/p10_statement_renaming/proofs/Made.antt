-- What statements become on both sides, from parts that are the same.
use Rattle.std.proofs.Common.{◌≡◌, ℕ, List, [], Option, Some, None, subst}
use Rattle.p10_base.specs.declared.at.At.{At}
use Rattle.p10_base.specs.declared.span.Span.{Span}
use Rattle.p10_core.specs.declared.statements.LoopKeyword.{LoopKeyword}
use Rattle.p10_core.specs.declared.statements.Label.{Label as CaseLabel}
use Rattle.p10_core.specs.Typed.{PlainValue, PlainStatement, statements_of_list}
use Rattle.p10_elabs.specs.Locals.{Local}
use Rattle.p10_elabs.specs.Statements.{block_of, if_of, if_else_of, loop_of, tested_loop, items_added, switch_of}
use Rattle.p10_renaming.specs.Renaming.{Pairing, SameValue, SameMaybe, same_some, SameStatement, same_statement, same_block, same_if_then, same_if_else, same_loop, same_switch, SameStatements, same_no_statements, same_more_statements}
use Rattle.p10_declaration_renaming.specs.Standings.{Both}
use Rattle.p10_statement_renaming.specs.Bodies.{SameRow, same_no_row, same_more_row, SameParts, same_no_parts, same_more_parts}
use Rattle.p10_statement_renaming.proofs.Forms.{added}

pub row_same : (R : Pairing) {ss ts : List PlainStatement} → SameRow R ss ts → SameStatements R (statements_of_list ss) (statements_of_list ts)
row_same R same_no_row = same_no_statements
row_same R (same_more_row h rest) = same_more_statements h (row_same R rest)

pub body_same : (R : Pairing) (m n : Option (List PlainStatement)) → Both (SameRow R) m n → Both (λ ss ts. SameStatements R (statements_of_list ss) (statements_of_list ts)) m n
body_same R None None a = tt
body_same R (Some ss) (Some ts) a = row_same R a
body_same R None (Some ts) a = absurd a
body_same R (Some ss) None a = absurd a

pub block_same : (R : Pairing) (at to : At) (m n : Option (List PlainStatement)) → Both (SameRow R) m n → Both (SameStatement R) (block_of at m) (block_of to n)
block_same R at to None None a = tt
block_same R at to (Some ss) (Some ts) a = same_statement (same_block (row_same R a))
block_same R at to None (Some ts) a = absurd a
block_same R at to (Some ss) None a = absurd a

pub if_same : (R : Pairing) (at to : At) (v w : Option PlainValue) → Both (SameValue R) v w → (s t : Option PlainStatement) → Both (SameStatement R) s t → Both (SameStatement R) (if_of at v s) (if_of to w t)
if_same R at to (Some v) (Some w) a (Some s) (Some t) b = same_statement (same_if_then a b)
if_same R at to (Some v) (Some w) a None None b = tt
if_same R at to (Some v) (Some w) a None (Some t) b = absurd b
if_same R at to (Some v) (Some w) a (Some s) None b = absurd b
if_same R at to None None a s t b = tt
if_same R at to None (Some w) a s t b = absurd a
if_same R at to (Some v) None a s t b = absurd a

pub if_else_same : (R : Pairing) (at to : At) (v w : Option PlainValue) → Both (SameValue R) v w → (s t : Option PlainStatement) → Both (SameStatement R) s t → (x y : Option PlainStatement) → Both (SameStatement R) x y
    → Both (SameStatement R) (if_else_of at v s x) (if_else_of to w t y)
if_else_same R at to (Some v) (Some w) a (Some s) (Some t) b (Some x) (Some y) c = same_statement (same_if_else a b c)
if_else_same R at to (Some v) (Some w) a (Some s) (Some t) b None None c = tt
if_else_same R at to (Some v) (Some w) a (Some s) (Some t) b None (Some y) c = absurd c
if_else_same R at to (Some v) (Some w) a (Some s) (Some t) b (Some x) None c = absurd c
if_else_same R at to (Some v) (Some w) a None None b x y c = tt
if_else_same R at to (Some v) (Some w) a None (Some t) b x y c = absurd b
if_else_same R at to (Some v) (Some w) a (Some s) None b x y c = absurd b
if_else_same R at to None None a s t b x y c = tt
if_else_same R at to None (Some w) a s t b x y c = absurd a
if_else_same R at to (Some v) None a s t b x y c = absurd a

-- ## Loops

-- loops with one number
one_loop : (R : Pairing) (at to : At) (n : ℕ) (word : LoopKeyword) (head_at head_to : Span) (x y : Option (List PlainStatement)) → Both (SameRow R) x y → (v w : Option (Option PlainValue)) → Both (SameMaybe R) v w
    → (c d : Option (List PlainStatement)) → Both (SameRow R) c d → (s t : Option PlainStatement) → Both (SameStatement R) s t
    → Both (SameStatement R) (loop_of at (record { number = n; keyword = word; span = head_at }) x v c s) (loop_of to (record { number = n; keyword = word; span = head_to }) y w d t)
one_loop R at to n word head_at head_to (Some x) (Some y) a (Some v) (Some w) b (Some c) (Some d) e (Some s) (Some t) g = same_statement (same_loop (row_same R a) b (row_same R e) g)
one_loop R at to n word head_at head_to (Some x) (Some y) a (Some v) (Some w) b (Some c) (Some d) e None None g = tt
one_loop R at to n word head_at head_to (Some x) (Some y) a (Some v) (Some w) b (Some c) (Some d) e None (Some t) g = absurd g
one_loop R at to n word head_at head_to (Some x) (Some y) a (Some v) (Some w) b (Some c) (Some d) e (Some s) None g = absurd g
one_loop R at to n word head_at head_to (Some x) (Some y) a (Some v) (Some w) b None None e s t g = tt
one_loop R at to n word head_at head_to (Some x) (Some y) a (Some v) (Some w) b None (Some d) e s t g = absurd e
one_loop R at to n word head_at head_to (Some x) (Some y) a (Some v) (Some w) b (Some c) None e s t g = absurd e
one_loop R at to n word head_at head_to (Some x) (Some y) a None None b c d e s t g = tt
one_loop R at to n word head_at head_to (Some x) (Some y) a None (Some w) b c d e s t g = absurd b
one_loop R at to n word head_at head_to (Some x) (Some y) a (Some v) None b c d e s t g = absurd b
one_loop R at to n word head_at head_to None None a v w b c d e s t g = tt
one_loop R at to n word head_at head_to None (Some y) a v w b c d e s t g = absurd a
one_loop R at to n word head_at head_to (Some x) None a v w b c d e s t g = absurd a

pub loop_same : (R : Pairing) (at to : At) (n m : ℕ) → n ≡ m → (word : LoopKeyword) (head_at head_to : Span) (x y : Option (List PlainStatement)) → Both (SameRow R) x y → (v w : Option (Option PlainValue)) → Both (SameMaybe R) v w
    → (c d : Option (List PlainStatement)) → Both (SameRow R) c d → (s t : Option PlainStatement) → Both (SameStatement R) s t
    → Both (SameStatement R) (loop_of at (record { number = n; keyword = word; span = head_at }) x v c s) (loop_of to (record { number = m; keyword = word; span = head_to }) y w d t)
loop_same R at to n m same word head_at head_to x y a v w b c d e s t g =
    subst (λ i. Both (SameStatement R) (loop_of at (record { number = n; keyword = word; span = head_at }) x v c s) (loop_of to (record { number = i; keyword = word; span = head_to }) y w d t)) same
    (one_loop R at to n word head_at head_to x y a v w b c d e s t g)

pub tested_same : (R : Pairing) (at to : At) (n m : ℕ) → n ≡ m → (word : LoopKeyword) (head_at head_to : Span) (v w : Option PlainValue) → Both (SameValue R) v w → (s t : Option PlainStatement) → Both (SameStatement R) s t
    → Both (SameStatement R) (tested_loop at (record { number = n; keyword = word; span = head_at }) v s) (tested_loop to (record { number = m; keyword = word; span = head_to }) w t)
tested_same R at to n m same word head_at head_to (Some v) (Some w) a s t b =
    loop_same R at to n m same word head_at head_to (Some []) (Some []) same_no_row (Some (Some v)) (Some (Some w)) (same_some a) (Some []) (Some []) same_no_row s t b
tested_same R at to n m same word head_at head_to None None a s t b = tt
tested_same R at to n m same word head_at head_to None (Some w) a s t b = absurd a
tested_same R at to n m same word head_at head_to (Some v) None a s t b = absurd a

-- ## Declarations and `switch`

pub items_same : (R : Pairing) {xs ys : List (Option PlainStatement)} → SameParts R xs ys → (m n : Option (List PlainStatement)) → Both (SameRow R) m n → Both (SameRow R) (items_added m xs) (items_added n ys)
items_same R same_no_parts m n a = a
items_same R (same_more_parts {s = s} {t = t} h rest) m n a = items_same R rest _ _ (added R m n a s t h)

-- a `switch` with the same labels; what stood at them makes no difference
one_switch : (R : Pairing) (at to keyword word : At) (cases : Option (List CaseLabel)) (otherwise : Option ℕ) (l k : Local) (v w : Option PlainValue) → Both (SameValue R) v w → (s t : Option PlainStatement) → Both (SameStatement R) s t
    → Both (SameStatement R) (switch_of at keyword v (record { cases = cases; otherwise = otherwise; after = l }) s) (switch_of to word w (record { cases = cases; otherwise = otherwise; after = k }) t)
one_switch R at to keyword word (Some cases) otherwise l k (Some v) (Some w) a (Some s) (Some t) b = same_statement (same_switch a b)
one_switch R at to keyword word None otherwise l k (Some v) (Some w) a (Some s) (Some t) b = tt
one_switch R at to keyword word cases otherwise l k (Some v) (Some w) a None None b = tt
one_switch R at to keyword word cases otherwise l k (Some v) (Some w) a None (Some t) b = absurd b
one_switch R at to keyword word cases otherwise l k (Some v) (Some w) a (Some s) None b = absurd b
one_switch R at to keyword word cases otherwise l k None None a s t b = tt
one_switch R at to keyword word cases otherwise l k None (Some w) a s t b = absurd a
one_switch R at to keyword word cases otherwise l k (Some v) None a s t b = absurd a

pub switch_same : (R : Pairing) (at to keyword word : At) (cases others : Option (List CaseLabel)) → cases ≡ others → (otherwise other : Option ℕ) → otherwise ≡ other → (l k : Local)
    → (v w : Option PlainValue) → Both (SameValue R) v w → (s t : Option PlainStatement) → Both (SameStatement R) s t
    → Both (SameStatement R) (switch_of at keyword v (record { cases = cases; otherwise = otherwise; after = l }) s) (switch_of to word w (record { cases = others; otherwise = other; after = k }) t)
switch_same R at to keyword word cases others e otherwise other d l k v w a s t b =
    subst (λ x. Both (SameStatement R) (switch_of at keyword v (record { cases = cases; otherwise = otherwise; after = l }) s) (switch_of to word w (record { cases = x; otherwise = other; after = k }) t)) e
    (subst (λ x. Both (SameStatement R) (switch_of at keyword v (record { cases = cases; otherwise = otherwise; after = l }) s) (switch_of to word w (record { cases = cases; otherwise = x; after = k }) t)) d
    (one_switch R at to keyword word cases otherwise l k v w a s t b))
