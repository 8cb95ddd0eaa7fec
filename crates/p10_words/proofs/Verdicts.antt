-- What `clap` makes of all the words, against the reading of them.
use Rattle.std.proofs.Common.{◌≡◌, true, false, Bool, ap, sym, ◌∙◌, refl, subst, List, [], ◌∷◌, ◌++◌, Option, Some, None, is_some, append_assoc}
use Rattle.std.specs.Prelude.{◌&&◌, option_map, codes}
use Rattle.std.specs.List.{fold, list_all}
use Rattle.clap.specs.Walk.{Row, Text, Held, Walk, has_row, settled_rows, used, walked, with_values, without}
use Rattle.clap.specs.Simple.{Shape}
use Rattle.clap.specs.Kinds.{Kinds, or_else}
use Rattle.clap.specs.Faults.{turn_fault, walk_fault, settle_fault, use_fault}
use Rattle.clap.specs.declared.builder.value_parser.Reading.{Reading}
use Rattle.clap.specs.declared.builder.value_parser.Reading.TheVariants.{AsWritten}
use Rattle.clap.specs.declared.parser.matches.ValueSource.TheVariants.{CommandLine}
use Rattle.p10_words.specs.CommandLines.{Given, is_flag, value_of, AreGivenOnce}
use Rattle.p10_words.specs.private.Scanning.{Split, is_among, is_name, has_names, with_option, with_file}
use Rattle.p10_words.specs.private.Parsing.{file_id, option_rule, rules_of}
use Rattle.p10_words.proofs.Rows.{Clean, clean_option, clean_file, found_id, found_files, row_there}
use Rattle.p10_words.proofs.Walking.{held, asking, none, Fails, later_fails}

-- what is pending at the end, and the faults on the way
unfoldable pub end : List Text → Walk → List Text → Held
end names w words = (fold (walked (rules_of names) none) w words).held

unfoldable pub total : Shape → List Text → Walk → List Text → Kinds
total s names w words = or_else (walk_fault (asking s names) none w words) (settle_fault (rules_of names) false (end names w words))

or_else_more : (a b c : Kinds) → or_else (or_else a b) c ≡ or_else a (or_else b c)
or_else_more [] b c = refl
or_else_more (x ∷ xs) b c = refl

-- one word
pub total_step : (s : Shape) (names : List Text) (w after : Walk) (word : Text) (words : List Text) → walked (rules_of names) none w word ≡ after
    → total s names w (word ∷ words) ≡ or_else (turn_fault (asking s names) none w word) (total s names after words)
unfolding total end walk_fault
total_step s names w after word words e =
    or_else_more (turn_fault (asking s names) none w word) (walk_fault (asking s names) none (walked (rules_of names) none w word) words) (settle_fault (rules_of names) false (fold (walked (rules_of names) none) (walked (rules_of names) none w word) words).held)
    ∙ ap (λ (v : Walk). or_else (turn_fault (asking s names) none w word) (or_else (walk_fault (asking s names) none v words) (settle_fault (rules_of names) false (fold (walked (rules_of names) none) v words).held))) e

pub total_passes : (s : Shape) (names : List Text) (w after : Walk) (word : Text) (words : List Text) → walked (rules_of names) none w word ≡ after
    → turn_fault (asking s names) none w word ≡ [] → total s names w (word ∷ words) ≡ total s names after words
total_passes s names w after word words e f = total_step s names w after word words e ∙ ap (λ (k : Kinds). or_else k (total s names after words)) f

pub total_fails : (s : Shape) (names : List Text) (w : Walk) (word : Text) (words : List Text) → Fails (turn_fault (asking s names) none w word) → Fails (total s names w (word ∷ words))
total_fails s names w word words f = subst Fails (sym (total_step s names w (walked (rules_of names) none w word) word words refl)) (later_fails (turn_fault (asking s names) none w word) (total s names (walked (rules_of names) none w word) words) f)

pub end_step : (names : List Text) (w after : Walk) (word : Text) (words : List Text) → walked (rules_of names) none w word ≡ after → end names w (word ∷ words) ≡ end names after words
unfolding end
end_step names w after word words e = ap (λ (v : Walk). (fold (walked (rules_of names) none) v words).held) e

pub total_none : (s : Shape) (names : List Text) (w : Walk) → total s names w [] ≡ settle_fault (rules_of names) false w.held
unfolding total end walk_fault
total_none s names w = refl

pub end_none : (names : List Text) (w : Walk) → end names w [] ≡ w.held
unfolding end
end_none names w = refl

-- ---- what is pending, settled
pub record Settled (names : List Text) (r : List Row) (p : Option (Text × List Text)) (os : List Given) (fs : List Text) : Type 0 where
  pub fine : settle_fault (rules_of names) false (held r p) ≡ []
  pub clean : Clean names (settled_rows (rules_of names) p r) os fs

pub settled_file : (names : List Text) (r : List Row) (os : List Given) (fs : List Text) (word : Text) → is_among names file_id ≡ false → Clean names r os fs
    → Settled names r (Some (file_id, word ∷ [])) os (fs ++ word ∷ [])
settled_file names r os fs word f c = record {
  fine = rw (found_files names f) refl;
  clean = rw (found_files names f) (clean_file names r os fs word _ _ f c);
}

pub unused : (names : List Text) (r : List Row) (os : List Given) (fs : List Text) (name : Text) → is_among names name ≡ true → Clean names r os fs → value_of os name ≡ None → has_row name r ≡ false
unused names r os fs name a c e = row_there name r ∙ ap is_some (c.options name a ∙ ap (λ (o : Option Text). option_map (λ v. v ∷ []) o) e)

pub was_used : (names : List Text) (r : List Row) (os : List Given) (fs : List Text) (name u : Text) → is_among names name ≡ true → Clean names r os fs → value_of os name ≡ Some u → has_row name r ≡ true
was_used names r os fs name u a c e = row_there name r ∙ ap is_some (c.options name a ∙ ap (λ (o : Option Text). option_map (λ v. v ∷ []) o) e)

-- a use of an option with these values sets its value, where it has none
pub record Uses (name value : Text) (values : List Text) : Type 0 where
  pub passes : (r : List Row) → has_row name r ≡ false → use_fault false (option_rule name) values r ≡ []
  pub again : (r : List Row) → has_row name r ≡ true → Fails (use_fault false (option_rule name) values r)
  pub sets : (r : List Row) → used (option_rule name) values r ≡ with_values name AsWritten CommandLine (value ∷ []) (without name r)

pub with_value : (name v : Text) → is_flag name ≡ false → Uses name v (v ∷ [])
with_value name v g = record { passes = λ r e. rw (g, e) refl; again = λ r e. rw (g, e) (λ f. absurd cc); sets = λ r. rw g refl }

pub without_value : (name : Text) → is_flag name ≡ true → Uses name (codes "true") []
without_value name g = record { passes = λ r e. rw (g, e) refl; again = λ r e. rw (g, e) (λ f. absurd cc); sets = λ r. rw g refl }

pub used_clean : (names : List Text) (r : List Row) (os : List Given) (fs : List Text) (name v : Text) (vs : List Text) → Uses name v vs → is_among names file_id ≡ false → is_among names name ≡ true
    → Clean names r os fs → value_of os name ≡ None → Clean names (used (option_rule name) vs r) (os ++ (name, v) ∷ []) fs
used_clean names r os fs name v vs u f a c e = subst (λ (rows : List Row). Clean names rows (os ++ (name, v) ∷ []) fs) (sym (u.sets r)) (clean_option names r os fs name v AsWritten CommandLine f a c e)

pub settled_option : (names : List Text) (r : List Row) (os : List Given) (fs : List Text) (name v : Text) → is_flag name ≡ false → is_among names file_id ≡ false → is_among names name ≡ true → Clean names r os fs → value_of os name ≡ None
    → Settled names r (Some (name, v ∷ [])) (os ++ (name, v) ∷ []) fs
settled_option names r os fs name v g f a c e = record {
  fine = rw (found_id names name a) ((with_value name v g).passes r (unused names r os fs name a c e));
  clean = rw (found_id names name a) (used_clean names r os fs name v (v ∷ []) (with_value name v g) f a c e);
}

-- ---- verdicts
pub record Fine (names : List Text) (h : Held) (scanned : Option Split) (os : List Given) (fs : List Text) : Type 0 where
  pub split : Split
  pub is : scanned ≡ Some split
  pub once : AreGivenOnce os split.options
  pub clean : Clean names (settled_rows (rules_of names) h.pending h.rows) (os ++ split.options) (fs ++ split.files)

-- no fault: the words are read so, with each option once; and so read, with names alone, they have no fault
pub record Verdict (names : List Text) (k : Kinds) (h : Held) (scanned : Option Split) (os : List Given) (fs : List Text) : Type 0 where
  pub ok : k ≡ [] → Fine names h scanned os fs
  pub no : (sp : Split) → scanned ≡ Some sp → AreGivenOnce os sp.options → has_names sp ≡ true → k ≡ []

pub unread : (names : List Text) (k : Kinds) (h : Held) (scanned : Option Split) (os : List Given) (fs : List Text) → Fails k → scanned ≡ None → Verdict names k h scanned os fs
unread names k h scanned os fs f e = record { ok = λ g. absurd (f g); no = λ sp g o n. absurd (let t = sym e ∙ g in cc) }

-- another fault and end that are the same
pub moved : (names : List Text) (k j : Kinds) (h i : Held) (scanned : Option Split) (os : List Given) (fs : List Text) → k ≡ j → h ≡ i → Verdict names j i scanned os fs → Verdict names k h scanned os fs
moved names k j h i scanned os fs e f v = record {
  ok = λ g. subst (λ (x : Held). Fine names x scanned os fs) (sym f) (v.ok (sym e ∙ g));
  no = λ sp g o n. e ∙ v.no sp g o n;
}

pub after_option : (names : List Text) (k : Kinds) (h : Held) (scanned : Option Split) (os : List Given) (fs : List Text) (name v : Text) → value_of os name ≡ None
    → Verdict names k h scanned (os ++ (name, v) ∷ []) fs → Verdict names k h (with_option name v scanned) os fs
after_option names k h scanned os fs name v e t = record {
  ok = λ g. let f = t.ok g in record {
    split = record f.split { options = (name, v) ∷ f.split.options };
    is = ap (with_option name v) f.is;
    once = (e, f.once);
    clean = subst (λ (l : List Given). Clean names (settled_rows (rules_of names) h.pending h.rows) l (fs ++ f.split.files)) (append_assoc os ((name, v) ∷ []) f.split.options) f.clean;
  };
  no = λ sp g o n. given scanned refl sp g o n;
}
  where
    given : (q : Option Split) → scanned ≡ q → (sp : Split) → with_option name v scanned ≡ Some sp → AreGivenOnce os sp.options → has_names sp ≡ true → k ≡ []
    given None q sp g o n = absurd (let w = sym (ap (with_option name v) q) ∙ g in cc)
    given (Some i) q sp g o n =
        let whole : record i { options = (name, v) ∷ i.options } ≡ sp = (let w = sym (ap (with_option name v) q) ∙ g in cc) in
        let once : AreGivenOnce os ((name, v) ∷ i.options) = subst (λ (x : Split). AreGivenOnce os x.options) (sym whole) o in
        let all : has_names (record i { options = (name, v) ∷ i.options }) ≡ true = subst (λ (x : Split). has_names x ≡ true) (sym whole) n in
        t.no i q once.1 (rest (is_name v) (list_all (λ (x : Given). is_name x.1) i.options) (list_all is_name i.files) all)
      where
        rest : (a b c : Bool) → (a && b) && c ≡ true → b && c ≡ true
        rest true b c e = e
        rest false b c e = absurd cc

pub after_file : (names : List Text) (k : Kinds) (h : Held) (scanned : Option Split) (os : List Given) (fs : List Text) (word : Text)
    → Verdict names k h scanned os (fs ++ word ∷ []) → Verdict names k h (with_file word scanned) os fs
after_file names k h scanned os fs word t = record {
  ok = λ g. let f = t.ok g in record {
    split = record f.split { files = word ∷ f.split.files };
    is = ap (with_file word) f.is;
    once = f.once;
    clean = subst (Clean names (settled_rows (rules_of names) h.pending h.rows) (os ++ f.split.options)) (append_assoc fs (word ∷ []) f.split.files) f.clean;
  };
  no = λ sp g o n. given scanned refl sp g o n;
}
  where
    given : (q : Option Split) → scanned ≡ q → (sp : Split) → with_file word scanned ≡ Some sp → AreGivenOnce os sp.options → has_names sp ≡ true → k ≡ []
    given None q sp g o n = absurd (let w = sym (ap (with_file word) q) ∙ g in cc)
    given (Some i) q sp g o n =
        let whole : record i { files = word ∷ i.files } ≡ sp = (let w = sym (ap (with_file word) q) ∙ g in cc) in
        let once : AreGivenOnce os i.options = subst (λ (x : Split). AreGivenOnce os x.options) (sym whole) o in
        let all : has_names (record i { files = word ∷ i.files }) ≡ true = subst (λ (x : Split). has_names x ≡ true) (sym whole) n in
        t.no i q once (rest (list_all (λ (x : Given). is_name x.1) i.options) (is_name word) (list_all is_name i.files) all)
      where
        rest : (a b c : Bool) → a && (b && c) ≡ true → a && c ≡ true
        rest true true c e = e
        rest true false c e = absurd cc
        rest false b c e = absurd cc

-- a word that fails and is no name
pub file_fails : (names : List Text) (k : Kinds) (h : Held) (scanned : Option Split) (os : List Given) (fs : List Text) (word : Text) → Fails k → is_name word ≡ false → Verdict names k h (with_file word scanned) os fs
file_fails names k h scanned os fs word f n = record { ok = λ g. absurd (f g); no = λ sp g o a. absurd (given scanned sp g a) }
  where
    given : (q : Option Split) (sp : Split) → with_file word q ≡ Some sp → has_names sp ≡ true → ⊥
    given None sp g a = cc
    given (Some i) sp g a =
        let whole : record i { files = word ∷ i.files } ≡ sp = cc in
        clash (list_all (λ (x : Given). is_name x.1) i.options) (is_name word) (list_all is_name i.files) n (subst (λ (x : Split). has_names x ≡ true) (sym whole) a)
      where
        clash : (a b c : Bool) → b ≡ false → a && (b && c) ≡ true → ⊥
        clash true true c f e = cc
        clash true false c f e = cc
        clash false b c f e = cc

pub value_fails : (names : List Text) (k : Kinds) (h : Held) (scanned : Option Split) (os : List Given) (fs : List Text) (name word : Text) → Fails k → is_name word ≡ false → Verdict names k h (with_option name word scanned) os fs
value_fails names k h scanned os fs name word f n = record { ok = λ g. absurd (f g); no = λ sp g o a. absurd (given scanned sp g a) }
  where
    given : (q : Option Split) (sp : Split) → with_option name word q ≡ Some sp → has_names sp ≡ true → ⊥
    given None sp g a = cc
    given (Some i) sp g a =
        let whole : record i { options = (name, word) ∷ i.options } ≡ sp = cc in
        clash (is_name word) (list_all (λ (x : Given). is_name x.1) i.options) (list_all is_name i.files) n (subst (λ (x : Split). has_names x ≡ true) (sym whole) a)
      where
        clash : (a b c : Bool) → a ≡ false → (a && b) && c ≡ true → ⊥
        clash true b c f e = cc
        clash false b c f e = cc

-- an option that was given before
pub again : (names : List Text) (k : Kinds) (h : Held) (scanned : Option Split) (os : List Given) (fs : List Text) (name v u : Text) → Fails k → value_of os name ≡ Some u → Verdict names k h (with_option name v scanned) os fs
again names k h scanned os fs name v u f e = record { ok = λ g. absurd (f g); no = λ sp g o a. absurd (given scanned sp g o) }
  where
    given : (q : Option Split) (sp : Split) → with_option name v q ≡ Some sp → AreGivenOnce os sp.options → ⊥
    given None sp g o = cc
    given (Some i) sp g o =
        let whole : record i { options = (name, v) ∷ i.options } ≡ sp = cc in
        let once : AreGivenOnce os ((name, v) ∷ i.options) = subst (λ (x : Split). AreGivenOnce os x.options) (sym whole) o in
        let t = sym e ∙ once.0 in cc
