-- Statements keep what is set, except for the variables that they declare themselves: so the head of a loop keeps what is set at its entry.
use Rattle.std.proofs.Common.{◌≡◌, ℕ, suc, Bool, true, false, List, [], ◌∷◌, ◌++◌, refl, ◌∙◌, sym, None}
use Rattle.std.specs.Prelude.{is_none, if◌then◌else◌}
use Rattle.std.proofs.lemmas.Bool.{eqb-false}
use Rattle.p10_core.specs.declared.statements.LoopKeyword.{LoopKeyword}
use Rattle.p10_core.specs.declared.statements.LoopKeyword.TheVariants.{While, Do, For}
use Rattle.p10_core.specs.Typed.{PlainPlace, place, variable, PlainLabels, PlainStatement, statement, set, update, copy, evaluate, asserts, declare, declare_static, block, if_then, if_else, loop, switch, break, continue, return, empty, mark, PlainStatements, no_statements, more_statements}
use Rattle.p10_core.specs.WholePrograms.{is_among, declared_in, declared_of}
use Rattle.p10_pass.specs.Passing.{is_labelled}
use Rattle.p10_execution.proofs.Numbers.{or_false, among_append}
use Rattle.p10_clean.specs.Settings.{Settings, is_set, marked_as, on_both, Ways, goes_on, then_ways, either_ways, target_set, sets, after_loop, after_switch, case_settings, ways_of, ways_of_all, ways_of_switch, ways_from}
use Rattle.p10_clean_soundness.proofs.SettingsOrder.{both_set, other_set, set_more}

-- a variable is set at each end of statements
pub record IsSetAfter (n : ℕ) (a : Ways) : Type 0 where
  pub normal : is_set a.normal n ≡ true
  pub breaks : is_set a.breaks n ≡ true
  pub continues : is_set a.continues n ≡ true

-- ## Parts

set_next : (n : ℕ) (before : Settings) → is_set before n ≡ true → IsSetAfter n (goes_on before)
set_next n before h = record { normal = h; breaks = refl; continues = refl }

set_then : (n : ℕ) (a b : Ways) → IsSetAfter n a → IsSetAfter n b → IsSetAfter n (then_ways a b)
set_then n a b h k = record { normal = k.normal; breaks = both_set a.breaks b.breaks n h.breaks k.breaks; continues = both_set a.continues b.continues n h.continues k.continues }

set_either : (n : ℕ) (a b : Ways) → IsSetAfter n a → IsSetAfter n b → IsSetAfter n (either_ways a b)
set_either n a b h k = record { normal = both_set a.normal b.normal n h.normal k.normal; breaks = both_set a.breaks b.breaks n h.breaks k.breaks; continues = both_set a.continues b.continues n h.continues k.continues }

set_after_loop : (n : ℕ) (keyword : LoopKeyword) (entry : Settings) (body : Ways) → is_set entry n ≡ true → IsSetAfter n body → IsSetAfter n (after_loop keyword entry body)
set_after_loop n Do entry body e h = set_next n _ (both_set (on_both body.normal body.continues) body.breaks n (both_set body.normal body.continues n h.normal h.continues) h.breaks)
set_after_loop n While entry body e h = set_next n _ (both_set entry body.breaks n e h.breaks)
set_after_loop n For entry body e h = set_next n _ (both_set entry body.breaks n e h.breaks)

set_past : (n : ℕ) (b : Bool) (entry : Settings) → is_set entry n ≡ true → is_set (if b then entry else None) n ≡ true
set_past n true entry e = e
set_past n false entry e = refl

set_after_switch : (n : ℕ) (labels : PlainLabels) (entry : Settings) (body : Ways) → is_set entry n ≡ true → IsSetAfter n body → IsSetAfter n (after_switch labels entry body)
set_after_switch n labels entry body e h = record {
  normal = both_set (on_both body.normal body.breaks) (if is_none labels.otherwise then entry else None) n (both_set body.normal body.breaks n h.normal h.breaks) (set_past n (is_none labels.otherwise) entry e);
  breaks = refl;
  continues = h.continues;
}

set_at_case : (n : ℕ) (labelled : Bool) (entry before : Settings) → is_set entry n ≡ true → is_set before n ≡ true → is_set (case_settings labelled entry before) n ≡ true
set_at_case n true entry before e h = both_set before entry n h e
set_at_case n false entry before e h = h

target_keeps : (p : PlainPlace) (before : Settings) (n : ℕ) → is_set before n ≡ true → is_set (target_set p before) n ≡ true
target_keeps (place at t (variable m)) before n h = set_more m n before h
target_keeps (place at t form) before n h = h

declared_keeps : (c : Bool) (m : ℕ) (before : Settings) (n : ℕ) → is_among n (m ∷ []) ≡ false → is_set before n ≡ true → is_set (marked_as c m before) n ≡ true
declared_keeps c m before n new h = other_set c m n before (eqb-false n m (or_false _ false new).0) ∙ h

apart : (n : ℕ) (xs ys : List ℕ) → is_among n (xs ++ ys) ≡ false → (is_among n xs ≡ false) × (is_among n ys ≡ false)
apart n xs ys e = or_false (is_among n xs) (is_among n ys) (sym (among_append n xs ys) ∙ e)

-- ## Statements

mutual
  pub statement_keeps : (x : PlainStatement) (before : Settings) (n : ℕ) → is_among n (declared_in x) ≡ false → is_set before n ≡ true → IsSetAfter n (ways_of x before)
  statement_keeps (statement at (set p v)) before n new h = set_next n _ (target_keeps p before n h)
  statement_keeps (statement at (update kind op t p v)) before n new h = set_next n _ h
  statement_keeps (statement at (copy p q)) before n new h = set_next n _ h
  statement_keeps (statement at (evaluate v)) before n new h = set_next n _ h
  statement_keeps (statement at (asserts call v)) before n new h = set_next n _ h
  statement_keeps (statement at (declare m initializer)) before n new h = set_next n _ (declared_keeps (sets initializer) m before n new h)
  statement_keeps (statement at (declare_static m)) before n new h = set_next n _ h
  statement_keeps (statement at (block ss)) before n new h = statements_keep ss before n new h
  statement_keeps (statement at (if_then v x)) before n new h = set_either n (ways_of x before) (goes_on before) (statement_keeps x before n new h) (set_next n _ h)
  statement_keeps (statement at (if_else v x y)) before n new h =
      let each = apart n (declared_in x) (declared_in y) new in
      set_either n (ways_of x before) (ways_of y before) (statement_keeps x before n each.0 h) (statement_keeps y before n each.1 h)
  statement_keeps (statement at (loop head first tested third body)) before n new h =
      let each = apart n (declared_of first) (declared_in body) new in
      let entry : Settings = (ways_of_all first before).normal in
      let e : is_set entry n ≡ true = (statements_keep first before n each.0 h).normal in
      set_after_loop n head.keyword entry (ways_of body entry) e (statement_keeps body entry n each.1 e)
  statement_keeps (statement at (switch keyword v labels body)) before n new h = switch_keeps labels body before n new h
  statement_keeps (statement at break) before n new h = record { normal = refl; breaks = h; continues = refl }
  statement_keeps (statement at continue) before n new h = record { normal = refl; breaks = refl; continues = h }
  statement_keeps (statement at (return keyword v)) before n new h = set_next n None refl
  statement_keeps (statement at empty) before n new h = set_next n _ h
  statement_keeps (statement at (mark kind)) before n new h = set_next n _ h

  pub statements_keep : (xs : PlainStatements) (before : Settings) (n : ℕ) → is_among n (declared_of xs) ≡ false → is_set before n ≡ true → IsSetAfter n (ways_of_all xs before)
  statements_keep no_statements before n new h = set_next n _ h
  statements_keep (more_statements x rest) before n new h =
      let each = apart n (declared_in x) (declared_of rest) new in
      let a = statement_keeps x before n each.0 h in
      set_then n (ways_of x before) (ways_of_all rest (ways_of x before).normal) a (statements_keep rest (ways_of x before).normal n each.1 a.normal)

  pub switch_keeps : (labels : PlainLabels) (body : PlainStatement) (entry : Settings) (n : ℕ) → is_among n (declared_in body) ≡ false → is_set entry n ≡ true → IsSetAfter n (ways_of_switch labels body entry)
  switch_keeps labels (statement at (block ss)) entry n new h = set_after_switch n labels entry (ways_from labels 0 ss entry None) h (cases_keep labels 0 ss entry None n new h refl)
  switch_keeps labels (statement at form) entry n new h = set_next n _ h

  pub cases_keep : (labels : PlainLabels) (k : ℕ) (xs : PlainStatements) (entry before : Settings) (n : ℕ) → is_among n (declared_of xs) ≡ false → is_set entry n ≡ true → is_set before n ≡ true → IsSetAfter n (ways_from labels k xs entry before)
  cases_keep labels k no_statements entry before n new e h = set_next n _ h
  cases_keep labels k (more_statements x rest) entry before n new e h =
      let each = apart n (declared_in x) (declared_of rest) new in
      let here : Settings = case_settings (is_labelled k labels) entry before in
      let a = statement_keeps x here n each.0 (set_at_case n (is_labelled k labels) entry before e h) in
      set_then n (ways_of x here) (ways_from labels (suc k) rest entry (ways_of x here).normal) a (cases_keep labels (suc k) rest entry (ways_of x here).normal n each.1 e a.normal)

-- ## The head of a loop

-- what is set at the entry of a loop is set where its body leads back to the head
pub head_keeps : (body : PlainStatement) (entry : Settings) (n : ℕ) → is_among n (declared_in body) ≡ false → is_set entry n ≡ true → is_set (on_both (ways_of body entry).normal (ways_of body entry).continues) n ≡ true
head_keeps body entry n new h = let a = statement_keeps body entry n new h in both_set (ways_of body entry).normal (ways_of body entry).continues n a.normal a.continues
