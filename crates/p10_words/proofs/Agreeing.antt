-- The walk over all the words agrees with the reading of them.
use Rattle.std.proofs.Common.{◌≡◌, true, false, Bool, ap, sym, ◌∙◌, refl, subst, List, [], ◌∷◌, ◌++◌, Option, Some, None, ◌⊎◌, inl, inr, append-nil, append_assoc}
use Rattle.std.specs.Prelude.{if◌then◌else◌, codes, bytes_eq}
use Rattle.clap.specs.Lexer.{long_of}
use Rattle.clap.specs.Walk.{Row, Text, Held, Walk, Waiting, idle, option, positional, settled_rows, walked, subcommand_met}
use Rattle.clap.specs.Simple.{Shape}
use Rattle.clap.specs.Kinds.{Kinds, or_else}
use Rattle.clap.specs.Faults.{turn_fault, settle_fault, use_fault}
use Rattle.p10_words.specs.CommandLines.{Given, is_flag, value_of}
use Rattle.p10_words.specs.private.Scanning.{Split, is_among, is_name, scan, scan_value, scan_word, scan_long, with_option, with_file}
use Rattle.p10_words.specs.private.Parsing.{file_id, option_rule, rules_of}
use Rattle.p10_words.proofs.Rows.{Clean, found_id}
use Rattle.p10_words.proofs.Walking.{held, at, asking, none, Quiet, quiet_idle, quiet_positional, Fails, later_fails, dashes_turn, unknown_turn, IsUse, joined_turn, flag_turn, valued_turn, option_turn, option_fails, IsFile, trailing_turn, plain_turn, IsValue, value_turn, waiting_fails}
use Rattle.p10_words.proofs.Verdicts.{end, total, total_passes, total_fails, end_step, total_none, end_none, Settled, settled_file, settled_option, Uses, with_value, without_value, used_clean, unused, was_used, Verdict, unread, moved, after_option, after_file, file_fails, value_fails, again}

-- ---- after `--`
record Trails (s : Shape) (names : List Text) (w : Walk) (words : List Text) (os : List Given) (fs : List Text) : Type 0 where
  passes : total s names w words ≡ []
  clean : Clean names (settled_rows (rules_of names) (end names w words).pending (end names w words).rows) os (fs ++ words)

trailing : (s : Shape) (names words : List Text) (r : List Row) (p : Option (Text × List Text)) (q : Waiting) (os : List Given) (fs : List Text) → is_among names file_id ≡ false
    → Settled names r p os fs → Trails s names (at r p q true) words os fs
trailing s names [] r p q os fs f t = record {
  passes = total_none s names (at r p q true) ∙ t.fine;
  clean = subst (λ (h : Held). Clean names (settled_rows (rules_of names) h.pending h.rows) os (fs ++ [])) (sym (end_none names (at r p q true)))
      (subst (Clean names (settled_rows (rules_of names) p r) os) (sym (append-nil fs)) t.clean);
}
trailing s names (word ∷ words) r p q os fs f t = from (trailing_turn s names r p q word)
    (trailing s names words (settled_rows (rules_of names) p r) (Some (file_id, word ∷ [])) positional os (fs ++ word ∷ []) f (settled_file names (settled_rows (rules_of names) p r) os fs word f t.clean))
  where
    from : IsFile s names r p q true word → Trails s names (at (settled_rows (rules_of names) p r) (Some (file_id, word ∷ [])) positional true) words os (fs ++ word ∷ []) → Trails s names (at r p q true) (word ∷ words) os fs
    from i u = record {
      passes = total_passes s names _ _ word words i.1 (i.0 ∙ ap (λ (k : Kinds). or_else k []) t.fine) ∙ u.passes;
      clean = subst (λ (h : Held). Clean names (settled_rows (rules_of names) h.pending h.rows) os (fs ++ word ∷ words)) (sym (end_step names _ _ word words i.1))
          (subst (Clean names (settled_rows (rules_of names) (end names (at (settled_rows (rules_of names) p r) (Some (file_id, word ∷ [])) positional true) words).pending (end names (at (settled_rows (rules_of names) p r) (Some (file_id, word ∷ [])) positional true) words).rows) os)
          (append_assoc fs (word ∷ []) words) u.clean);
    }

-- what fails when it is settled fails in the end
doomed_trailing : (s : Shape) (names words : List Text) (r : List Row) (p : Option (Text × List Text)) (q : Waiting)
    → Fails (settle_fault (rules_of names) false (held r p)) → Fails (total s names (at r p q true) words)
doomed_trailing s names [] r p q f = subst Fails (sym (total_none s names (at r p q true))) f
doomed_trailing s names (word ∷ words) r p q f =
    total_fails s names (at r p q true) word words (subst Fails (sym (trailing_turn s names r p q word).0) (later_fails (settle_fault (rules_of names) false (held r p)) [] f))

doomed : (s : Shape) (names words : List Text) (r : List Row) (p : Option (Text × List Text)) (q : Waiting) → Quiet q
    → Fails (settle_fault (rules_of names) false (held r p)) → Fails (total s names (at r p q false) words)
doomed s names [] r p q y f = subst Fails (sym (total_none s names (at r p q false))) f
doomed s names (word ∷ words) r p q y f = by_dashes (bytes_eq word (codes "--")) refl
  where
    by_name : (o : Text × Option Text) (b : Bool) → bytes_eq word (codes "--") ≡ false → long_of word ≡ Some o → is_among names o.0 ≡ b → Fails (turn_fault (asking s names) none (at r p q false) word)
    by_name o false e l a = unknown_turn s names r p q word o y.sub e l a
    by_name o true e l a = option_fails s names r p q word o.0 o.1 y.sub e l a f

    by_long : (o : Option (Text × Option Text)) → bytes_eq word (codes "--") ≡ false → long_of word ≡ o → Fails (turn_fault (asking s names) none (at r p q false) word)
    by_long None e l = elim (plain_turn s names r p q word y e l) [ inl b ↦ b.0 | inr i ↦ subst Fails (sym i.0) (later_fails (settle_fault (rules_of names) false (held r p)) [] f) ]
    by_long (Some o) e l = by_name o (is_among names o.0) e l refl

    by_dashes : (b : Bool) → bytes_eq word (codes "--") ≡ b → Fails (total s names (at r p q false) (word ∷ words))
    by_dashes true e =
        let t = dashes_turn s names r p q word y.sub e in
        subst Fails (sym (total_passes s names (at r p q false) (at r p q true) word words t.1 t.0)) (doomed_trailing s names words r p q f)
    by_dashes false e = total_fails s names (at r p q false) word words (by_long (long_of word) e refl)

-- ---- before it
-- the value in a word of its own is no option and not `--`
value_unread : (name word : Text) (next : Option Split) (o : Option (Text × Option Text)) → (o ≡ None → bytes_eq word (codes "--") ≡ true) → scan_value name word o next ≡ None
value_unread name word next None e = ap (λ (b : Bool). if b then None else with_option name word next) (e refl)
value_unread name word next (Some o) e = refl

Reading : Shape → List Text → List Text → Type 0
Reading s names words =
    (r : List Row) (p : Option (Text × List Text)) (q : Waiting) (os : List Given) (fs : List Text) → Quiet q → Settled names r p os fs
    → Verdict names (total s names (at r p q false) words) (end names (at r p q false) words) (scan names None words) os fs

Awaiting : Shape → List Text → List Text → Type 0
Awaiting s names words =
    (r : List Row) (os : List Given) (fs : List Text) (name : Text) → is_among names name ≡ true → is_flag name ≡ false → Clean names r os fs
    → Verdict names (total s names (at r (Some (name, [])) (option name) false) words) (end names (at r (Some (name, [])) (option name) false) words) (scan names (Some name) words) os fs

-- the value that an option waits for
awaited : (s : Shape) (names words : List Text) (word : Text) → is_among names file_id ≡ false → Reading s names words → Awaiting s names (word ∷ words)
unfolding Reading Awaiting scan
awaited s names words word f reading r os fs name a g c = by_dashes (bytes_eq word (codes "--")) refl
  where
    w : Walk
    w = at r (Some (name, [])) (option name) false

    sub : (x : Text) → subcommand_met none (option name) x ≡ None
    sub x = refl

    lost : Fails (settle_fault (rules_of names) false (held r (Some (name, []))))
    lost = waiting_fails names r name a g

    Ours : Option Split → Type 0
    Ours scanned = Verdict names (total s names (at r (Some (name, [])) (option name) false) (word ∷ words)) (end names (at r (Some (name, [])) (option name) false) (word ∷ words)) scanned os fs

    by_name : (o : Text × Option Text) (b : Bool) → bytes_eq word (codes "--") ≡ false → long_of word ≡ Some o → is_among names o.0 ≡ b → Fails (turn_fault (asking s names) none (at r (Some (name, [])) (option name) false) word)
    by_name o false e l b = unknown_turn s names r (Some (name, [])) (option name) word o sub e l b
    by_name o true e l b = option_fails s names r (Some (name, [])) (option name) word o.0 o.1 sub e l b lost

    by_given : (u : Option Text) → value_of os name ≡ u → walked (rules_of names) none (at r (Some (name, [])) (option name) false) word ≡ at r (Some (name, word ∷ [])) idle false
        → turn_fault (asking s names) none (at r (Some (name, [])) (option name) false) word ≡ [] → Verdict names (total s names (at r (Some (name, [])) (option name) false) (word ∷ words)) (end names (at r (Some (name, [])) (option name) false) (word ∷ words)) (with_option name word (scan names None words)) os fs
    by_given None u i t =
        moved names _ _ _ _ _ os fs (total_passes s names _ _ word words i t) (end_step names _ _ word words i)
        (after_option names _ _ _ os fs name word u (reading r (Some (name, word ∷ [])) idle (os ++ (name, word) ∷ []) fs quiet_idle (settled_option names r os fs name word g f a c u)))
    by_given (Some x) u i t =
        again names _ _ _ os fs name word x
        (subst Fails (sym (total_passes s names _ _ word words i t))
        (doomed s names words r (Some (name, word ∷ [])) idle quiet_idle (rw (found_id names name a) ((with_value name word g).again r (was_used names r os fs name x a c u))))) u

    by_turn : IsValue s names r name word → Verdict names (total s names (at r (Some (name, [])) (option name) false) (word ∷ words)) (end names (at r (Some (name, [])) (option name) false) (word ∷ words)) (with_option name word (scan names None words)) os fs
    by_turn (inl b) = value_fails names _ _ _ os fs name word (total_fails s names _ word words b.0) b.1
    by_turn (inr i) = by_given (value_of os name) refl i.1 i.0

    by_long : (o : Option (Text × Option Text)) → bytes_eq word (codes "--") ≡ false → long_of word ≡ o
        → Verdict names (total s names (at r (Some (name, [])) (option name) false) (word ∷ words)) (end names (at r (Some (name, [])) (option name) false) (word ∷ words)) (scan_value name word o (scan names None words)) os fs
    by_long None e l = rw e (by_turn (value_turn s names r name word a g e l))
    by_long (Some o) e l = unread names _ _ _ os fs (total_fails s names _ word words (by_name o (is_among names o.0) e l refl)) refl

    by_dashes : (b : Bool) → bytes_eq word (codes "--") ≡ b
        → Verdict names (total s names (at r (Some (name, [])) (option name) false) (word ∷ words)) (end names (at r (Some (name, [])) (option name) false) (word ∷ words)) (scan_value name word (long_of word) (scan names None words)) os fs
    by_dashes true e =
        let t = dashes_turn s names r (Some (name, [])) (option name) word sub e in
        unread names _ _ _ os fs
        (subst Fails (sym (total_passes s names _ _ word words t.1 t.0)) (doomed_trailing s names words r (Some (name, [])) (option name) lost))
        (value_unread name word (scan names None words) (long_of word) (λ n. e))
    by_dashes false e = by_long (long_of word) e refl

-- a word where no option waits
first_read : (s : Shape) (names words : List Text) (word : Text) → is_among names file_id ≡ false → Reading s names words → Awaiting s names words → Reading s names (word ∷ words)
unfolding Reading Awaiting scan
first_read s names words word f reading awaiting r p q os fs y t = by_dashes (bytes_eq word (codes "--")) refl
  where
    by_given : (name v : Text) (vs : List Text) (u : Option Text) → value_of os name ≡ u → Uses name v vs → IsUse s names r p q word name vs → is_among names name ≡ true
        → Verdict names (total s names (at r p q false) (word ∷ words)) (end names (at r p q false) (word ∷ words)) (with_option name v (scan names None words)) os fs
    by_given name v vs None u uses turn a =
        let free = unused names (settled_rows (rules_of names) p r) os fs name a t.clean u in
        let passes : turn_fault (asking s names) none (at r p q false) word ≡ [] = turn.0 ∙ ap (λ (k : Kinds). or_else (or_else k (use_fault false (option_rule name) vs (settled_rows (rules_of names) p r))) []) t.fine
        ∙ ap (λ (k : Kinds). or_else k []) (uses.passes (settled_rows (rules_of names) p r) free) in
        moved names _ _ _ _ _ os fs (total_passes s names _ _ word words turn.1 passes) (end_step names _ _ word words turn.1)
        (after_option names _ _ _ os fs name v u
        (reading _ None idle (os ++ (name, v) ∷ []) fs quiet_idle
        (record { fine = refl; clean = used_clean names (settled_rows (rules_of names) p r) os fs name v vs uses f a t.clean u })))
    by_given name v vs (Some x) u uses turn a =
        again names _ _ _ os fs name v x
        (total_fails s names _ word words
        (subst Fails (sym (turn.0 ∙ ap (λ (k : Kinds). or_else (or_else k (use_fault false (option_rule name) vs (settled_rows (rules_of names) p r))) []) t.fine))
        (later_fails (use_fault false (option_rule name) vs (settled_rows (rules_of names) p r)) [] (uses.again (settled_rows (rules_of names) p r) (was_used names (settled_rows (rules_of names) p r) os fs name x a t.clean u))))) u

    by_value : (name : Text) (v : Option Text) (b : Bool) → bytes_eq word (codes "--") ≡ false → long_of word ≡ Some (name, v) → is_among names name ≡ true → is_flag name ≡ b
        → Verdict names (total s names (at r p q false) (word ∷ words)) (end names (at r p q false) (word ∷ words)) (scan_long name v (scan names None words) (λ n. scan names (Some n) words)) os fs
    by_value name (Some v) true e l a g = rw g (unread names _ _ _ os fs (total_fails s names _ word words (valued_turn s names r p q word name v y.sub e l a g)) refl)
    by_value name (Some v) false e l a g = rw g (by_given name v (v ∷ []) (value_of os name) refl (with_value name v g) (joined_turn s names r p q word name v y.sub e l a g) a)
    by_value name None true e l a g = rw g (by_given name (codes "true") [] (value_of os name) refl (without_value name g) (flag_turn s names r p q word name y.sub e l a g) a)
    by_value name None false e l a g =
        let turn = option_turn s names r p q word name y.sub e l a g in
        rw g
        (moved names _ _ _ _ _ os fs (total_passes s names _ _ word words turn.1 (turn.0 ∙ ap (λ (k : Kinds). or_else k []) t.fine)) (end_step names _ _ word words turn.1)
        (awaiting (settled_rows (rules_of names) p r) os fs name a g t.clean))

    by_name : (o : Text × Option Text) (b : Bool) → bytes_eq word (codes "--") ≡ false → long_of word ≡ Some o → is_among names o.0 ≡ b
        → Verdict names (total s names (at r p q false) (word ∷ words)) (end names (at r p q false) (word ∷ words)) (if b then scan_long o.0 o.1 (scan names None words) (λ n. scan names (Some n) words) else None) os fs
    by_name o false e l a = unread names _ _ _ os fs (total_fails s names _ word words (unknown_turn s names r p q word o y.sub e l a)) refl
    by_name o true e l a = by_value o.0 o.1 (is_flag o.0) e l a refl

    by_turn : (Fails (turn_fault (asking s names) none (at r p q false) word) × (is_name word ≡ false)) ⊎ IsFile s names r p q false word
        → Verdict names (total s names (at r p q false) (word ∷ words)) (end names (at r p q false) (word ∷ words)) (with_file word (scan names None words)) os fs
    by_turn (inl b) = file_fails names _ _ _ os fs word (total_fails s names _ word words b.0) b.1
    by_turn (inr i) =
        moved names _ _ _ _ _ os fs (total_passes s names _ _ word words i.1 (i.0 ∙ ap (λ (k : Kinds). or_else k []) t.fine)) (end_step names _ _ word words i.1)
        (after_file names _ _ _ os fs word
        (reading (settled_rows (rules_of names) p r) (Some (file_id, word ∷ [])) positional os (fs ++ word ∷ []) quiet_positional (settled_file names (settled_rows (rules_of names) p r) os fs word f t.clean)))

    by_long : (o : Option (Text × Option Text)) → bytes_eq word (codes "--") ≡ false → long_of word ≡ o
        → Verdict names (total s names (at r p q false) (word ∷ words)) (end names (at r p q false) (word ∷ words)) (scan_word names word o (scan names None words) (λ n. scan names (Some n) words)) os fs
    by_long None e l = by_turn (plain_turn s names r p q word y e l)
    by_long (Some o) e l = by_name o (is_among names o.0) e l refl

    by_dashes : (b : Bool) → bytes_eq word (codes "--") ≡ b
        → Verdict names (total s names (at r p q false) (word ∷ words)) (end names (at r p q false) (word ∷ words))
        (if b then Some (record { options = []; files = words }) else scan_word names word (long_of word) (scan names None words) (λ n. scan names (Some n) words)) os fs
    by_dashes true e =
        let turn = dashes_turn s names r p q word y.sub e in
        let u = trailing s names words r p q os fs f t in
        moved names _ _ _ _ _ os fs (total_passes s names _ _ word words turn.1 turn.0) (end_step names _ _ word words turn.1)
        (record {
          ok = λ g. record { split = record { options = []; files = words }; is = refl; once = tt; clean = subst (λ (l : List Given). Clean names (settled_rows (rules_of names) (end names (at r p q true) words).pending (end names (at r p q true) words).rows) l (fs ++ words)) (sym (append-nil os)) u.clean };
          no = λ sp g o n. u.passes;
        })
    by_dashes false e = by_long (long_of word) e refl

no_words : (s : Shape) (names : List Text) → Reading s names []
unfolding Reading scan
no_words s names r p q os fs y t =
    moved names _ _ _ _ _ os fs (total_none s names (at r p q false) ∙ t.fine) (end_none names (at r p q false))
    (record {
      ok = λ g. record {
        split = record { options = []; files = [] };
        is = refl;
        once = tt;
        clean = subst (λ (l : List Given). Clean names (settled_rows (rules_of names) p r) l (fs ++ [])) (sym (append-nil os)) (subst (Clean names (settled_rows (rules_of names) p r) os) (sym (append-nil fs)) t.clean);
      };
      no = λ sp g o n. refl;
    })

no_value : (s : Shape) (names : List Text) → Awaiting s names []
unfolding Awaiting scan
no_value s names r os fs name a g c = unread names _ _ _ os fs (subst Fails (sym (total_none s names (at r (Some (name, [])) (option name) false))) (waiting_fails names r name a g)) refl

all_read : (s : Shape) (names words : List Text) → is_among names file_id ≡ false → Reading s names words × Awaiting s names words
all_read s names [] f = (no_words s names, no_value s names)
all_read s names (word ∷ words) f =
    let rest = all_read s names words f in
    (first_read s names words word f rest.0 rest.1, awaited s names words word f rest.0)

nothing_clean : (names : List Text) → Clean names [] [] []
nothing_clean names = record { options = λ x a. refl; files = refl }

-- the walk over all the words of a command line
pub agrees : (s : Shape) (names words : List Text) → is_among names file_id ≡ false
    → Verdict names (total s names (at [] None idle false) words) (end names (at [] None idle false) words) (scan names None words) [] []
unfolding Reading
agrees s names words f = (all_read s names words f).0 [] None idle [] [] quiet_idle (record { fine = refl; clean = nothing_clean names })
