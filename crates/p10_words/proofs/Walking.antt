-- What a word does to a walk of `clap`'s, for options of one value and files.
use Rattle.std.proofs.Common.{◌≡◌, ℕ, zero, suc, true, false, Bool, ap, sym, ◌∙◌, refl, subst, List, [], ◌∷◌, length, Option, Some, None, ◌⊎◌, inl, inr}
use Rattle.std.specs.Prelude.{◌&&◌, ◌||◌, not, ◌==◌, option_and_then, if◌then◌else◌, codes, bytes_eq, slice_get}
use Rattle.std.specs.Str.{chars}
use Rattle.std.specs.Option.{option_map_or}
use Rattle.clap.specs.Lexer.{long_of, short_of, short_of_rest}
use Rattle.clap.specs.Walk.{Rule, Row, Text, Held, Walk, Waiting, idle, option, positional, plain, value, subcommand_met, plain_word, settled, settled_rows, used, walked, bundle, bundle_met, is_pending, Names, positional_held, pushed, to_positional, arg_by_index}
use Rattle.clap.specs.Simple.{Shape}
use Rattle.clap.specs.Kinds.{Kinds, or_else}
use Rattle.clap.specs.Faults.{turn_fault, settle_fault, use_fault, bundle_fault, flags_fault, positional_fault, step_fault, stray_fault}
use Rattle.p10_words.specs.CommandLines.{is_flag}
use Rattle.p10_words.specs.private.Scanning.{is_among, is_name}
use Rattle.p10_words.specs.private.Parsing.{file_id, option_rule, files_rule, rules_of}
use Rattle.p10_words.proofs.Rows.{found_long, found_id, found_index, no_short, text_same}

-- a walk between two words: the rows so far, what is pending, what waits, and whether `--` was met
abbrev pub held : List Row → Option (Text × List Text) → Held
held rows pending = record { rows = rows; pending = pending; skip = 0 }

abbrev pub at : List Row → Option (Text × List Text) → Waiting → Bool → Walk
at rows pending waiting trailing = record { held = held rows pending; waiting = waiting; position = 1; is_trailing = trailing; stopped = None }

-- a command that has these options and files
abbrev pub asking : Shape → List Text → Shape
asking s names = record s { rules = rules_of names; args_override_self = false }

abbrev pub none : Names
none = []

-- no option waits for a value
pub record Quiet (q : Waiting) : Type 0 where
  pub sub : (word : Text) → subcommand_met none q word ≡ None
  pub word : (c : List Rule) (word : Text) (h : Held) → plain_word c q word h ≡ (h, value)

pub quiet_idle : Quiet idle
quiet_idle = record { sub = λ word. refl; word = λ c word h. refl }

pub quiet_positional : Quiet positional
quiet_positional = record { sub = λ word. refl; word = λ c word h. refl }

-- a word that fails the walk
abbrev pub Fails : Kinds → Type 0
Fails k = k ≡ [] → ⊥

pub later_fails : (j k : Kinds) → Fails j → Fails (or_else j k)
later_fails [] k f e = f refl
later_fails (x ∷ xs) k f e = absurd cc

-- `--`
pub dashes_turn : (s : Shape) (names : List Text) (r : List Row) (p : Option (Text × List Text)) (q : Waiting) (word : Text)
    → ((w : Text) → subcommand_met none q w ≡ None) → bytes_eq word (codes "--") ≡ true
    → (turn_fault (asking s names) none (at r p q false) word ≡ []) × (walked (rules_of names) none (at r p q false) word ≡ at r p q true)
unfolding walked
dashes_turn s names r p q word sub e = (rw (sub word, e) refl, rw (sub word, e) refl)

-- a word that no option or positional takes
pub unknown_turn : (s : Shape) (names : List Text) (r : List Row) (p : Option (Text × List Text)) (q : Waiting) (word : Text) (o : Text × Option Text)
    → ((w : Text) → subcommand_met none q w ≡ None) → bytes_eq word (codes "--") ≡ false → long_of word ≡ Some o → is_among names o.0 ≡ false
    → Fails (turn_fault (asking s names) none (at r p q false) word)
unknown_turn s names r p q word o sub e l a = rw (sub word, e, l, found_long names o.0, a) (λ f. absurd cc)

-- the word uses an option with these values
abbrev pub IsUse : Shape → List Text → List Row → Option (Text × List Text) → Waiting → Text → Text → List Text → Type 0
IsUse s names r p q word name values =
    (turn_fault (asking s names) none (at r p q false) word ≡ or_else (or_else (settle_fault (rules_of names) false (held r p)) (use_fault false (option_rule name) values (settled_rows (rules_of names) p r))) [])
    × (walked (rules_of names) none (at r p q false) word ≡ at (used (option_rule name) values (settled_rows (rules_of names) p r)) None idle false)

-- an option with its value
pub joined_turn : (s : Shape) (names : List Text) (r : List Row) (p : Option (Text × List Text)) (q : Waiting) (word name v : Text)
    → ((w : Text) → subcommand_met none q w ≡ None) → bytes_eq word (codes "--") ≡ false → long_of word ≡ Some (name, Some v) → is_among names name ≡ true → is_flag name ≡ false
    → IsUse s names r p q word name (v ∷ [])
unfolding walked
joined_turn s names r p q word name v sub e l a g = (rw (sub word, e, l, found_long names name, a, g) refl, rw (sub word, e, l, found_long names name, a, g) refl)

-- a flag
pub flag_turn : (s : Shape) (names : List Text) (r : List Row) (p : Option (Text × List Text)) (q : Waiting) (word name : Text)
    → ((w : Text) → subcommand_met none q w ≡ None) → bytes_eq word (codes "--") ≡ false → long_of word ≡ Some (name, None) → is_among names name ≡ true → is_flag name ≡ true
    → IsUse s names r p q word name []
unfolding walked
flag_turn s names r p q word name sub e l a g = (rw (sub word, e, l, found_long names name, a, g) refl, rw (sub word, e, l, found_long names name, a, g) refl)

-- a flag with a value
pub valued_turn : (s : Shape) (names : List Text) (r : List Row) (p : Option (Text × List Text)) (q : Waiting) (word name v : Text)
    → ((w : Text) → subcommand_met none q w ≡ None) → bytes_eq word (codes "--") ≡ false → long_of word ≡ Some (name, Some v) → is_among names name ≡ true → is_flag name ≡ true
    → Fails (turn_fault (asking s names) none (at r p q false) word)
valued_turn s names r p q word name v sub e l a g = rw (sub word, e, l, found_long names name, a, g) (λ f. absurd cc)

-- an option that waits for its value
pub option_turn : (s : Shape) (names : List Text) (r : List Row) (p : Option (Text × List Text)) (q : Waiting) (word name : Text)
    → ((w : Text) → subcommand_met none q w ≡ None) → bytes_eq word (codes "--") ≡ false → long_of word ≡ Some (name, None) → is_among names name ≡ true → is_flag name ≡ false
    → (turn_fault (asking s names) none (at r p q false) word ≡ or_else (settle_fault (rules_of names) false (held r p)) [])
    × (walked (rules_of names) none (at r p q false) word ≡ at (settled_rows (rules_of names) p r) (Some (name, [])) (option name) false)
unfolding walked
option_turn s names r p q word name sub e l a g = (rw (sub word, e, l, found_long names name, a, g) refl, rw (sub word, e, l, found_long names name, a, g) refl)

-- a word of an option fails where what is pending does
pub option_fails : (s : Shape) (names : List Text) (r : List Row) (p : Option (Text × List Text)) (q : Waiting) (word name : Text) (v : Option Text)
    → ((w : Text) → subcommand_met none q w ≡ None) → bytes_eq word (codes "--") ≡ false → long_of word ≡ Some (name, v) → is_among names name ≡ true
    → Fails (settle_fault (rules_of names) false (held r p)) → Fails (turn_fault (asking s names) none (at r p q false) word)
option_fails s names r p q word name v sub e l a f = by_value v (is_flag name) l refl
  where
    in_use : (values : List Text) → IsUse s names r p q word name values → Fails (turn_fault (asking s names) none (at r p q false) word)
    in_use values u =
        subst Fails (sym u.0)
        (later_fails (or_else (settle_fault (rules_of names) false (held r p)) (use_fault false (option_rule name) values (settled_rows (rules_of names) p r))) []
        (later_fails (settle_fault (rules_of names) false (held r p)) (use_fault false (option_rule name) values (settled_rows (rules_of names) p r)) f))

    by_value : (o : Option Text) (b : Bool) → long_of word ≡ Some (name, o) → is_flag name ≡ b → Fails (turn_fault (asking s names) none (at r p q false) word)
    by_value (Some x) true l g = valued_turn s names r p q word name x sub e l a g
    by_value (Some x) false l g = in_use (x ∷ []) (joined_turn s names r p q word name x sub e l a g)
    by_value None true l g = in_use [] (flag_turn s names r p q word name sub e l a g)
    by_value None false l g = subst Fails (sym (option_turn s names r p q word name sub e l a g).0) (later_fails (settle_fault (rules_of names) false (held r p)) [] f)

-- short options: there are none, so the word fails, or spells no character and is taken as it is
bundle_is : (names : List Text) (flags : Text) (r : List Row) (p : Option (Text × List Text))
    → Fails (bundle_fault (rules_of names) false flags (held r p)) ⊎ ((bundle_fault (rules_of names) false flags (held r p) ≡ []) × (bundle (rules_of names) flags (held r p) ≡ (held r p, plain)))
unfolding flags_fault bundle_met
bundle_is names flags r p = by_length (length flags)
  where
    by_length : (k : ℕ) → Fails (flags_fault (rules_of names) false k flags 0 (held r p)) ⊎ ((flags_fault (rules_of names) false k flags 0 (held r p) ≡ []) × (bundle_met (rules_of names) k flags 0 plain (held r p) ≡ (held r p, plain)))
    by_length zero = inr (refl, refl)
    by_length (suc k) = by_char (slice_get (chars flags) 0) refl
      where
        by_char : (o : Option ℕ) → slice_get (chars flags) 0 ≡ o
            → Fails (flags_fault (rules_of names) false (suc k) flags 0 (held r p)) ⊎ ((flags_fault (rules_of names) false (suc k) flags 0 (held r p) ≡ []) × (bundle_met (rules_of names) (suc k) flags 0 plain (held r p) ≡ (held r p, plain)))
        by_char None e = inr (rw e refl, rw e refl)
        by_char (Some x) e = inl (rw (e, no_short names x) (λ f. absurd cc))

-- ---- words that go to the files
and_false : (b : Bool) → b && false ≡ false
and_false true = refl
and_false false = refl

files_fault : (names : List Text) (r : List Row) (p : Option (Text × List Text)) → positional_fault (rules_of names) false files_rule (held r p) ≡ settle_fault (rules_of names) false (held r p)
files_fault names r p = ap (λ (b : Bool). if b then [] else settle_fault (rules_of names) false (held r p)) (and_false (is_pending files_rule p))

files_held : (names : List Text) (r : List Row) (p : Option (Text × List Text)) (word : Text)
    → positional_held (rules_of names) files_rule word (held r p) ≡ held (settled_rows (rules_of names) p r) (Some (file_id, word ∷ []))
files_held names r p word =
    ap (λ (b : Bool). pushed file_id word (if b then held r p else settled (rules_of names) (held r p))) (and_false (is_pending files_rule p))

-- the word goes to the files
abbrev pub IsFile : Shape → List Text → List Row → Option (Text × List Text) → Waiting → Bool → Text → Type 0
IsFile s names r p q t word =
    (turn_fault (asking s names) none (at r p q t) word ≡ or_else (settle_fault (rules_of names) false (held r p)) [])
    × (walked (rules_of names) none (at r p q t) word ≡ at (settled_rows (rules_of names) p r) (Some (file_id, word ∷ [])) positional t)

or_nothing : (k : Kinds) → or_else k [] ≡ k
or_nothing [] = refl
or_nothing (x ∷ xs) = refl

at_index : (s : Shape) (names : List Text) (r : List Row) (p : Option (Text × List Text)) → step_fault (asking s names) 1 (held r p) value ≡ settle_fault (rules_of names) false (held r p)
at_index s names r p = ap (λ (o : Option Rule). option_map_or (λ a. positional_fault (rules_of names) false a (held r p)) o (stray_fault (asking s names))) (found_index names) ∙ files_fault names r p

to_files : (names : List Text) (r : List Row) (p : Option (Text × List Text)) (q : Waiting) (t : Bool) (word : Text)
    → to_positional (rules_of names) (arg_by_index (rules_of names) 1) word (at r p q t) (held r p) ≡ at (settled_rows (rules_of names) p r) (Some (file_id, word ∷ [])) positional t
to_files names r p q t word =
    ap (λ (o : Option Rule). to_positional (rules_of names) o word (at r p q t) (held r p)) (found_index names)
    ∙ ap (λ (h : Held). record { held = h; waiting = positional; position = 1; is_trailing = t || false; stopped = None }) (files_held names r p word)
    ∙ ap (λ (b : Bool). at (settled_rows (rules_of names) p r) (Some (file_id, word ∷ [])) positional b) (or_false t)
  where
    or_false : (b : Bool) → b || false ≡ b
    or_false true = refl
    or_false false = refl

-- a word of short options is no name
no_name : (word flags : Text) → short_of word ≡ Some flags → is_name word ≡ false
no_name [] flags e = absurd cc
no_name (x ∷ xs) flags e = by_test (x == 45) e
  where
    by_test : (b : Bool) → option_and_then short_of_rest (if b then Some xs else None) ≡ Some flags → not b ≡ false
    by_test true e = refl
    by_test false e = absurd cc

-- after `--` each word does
pub trailing_turn : (s : Shape) (names : List Text) (r : List Row) (p : Option (Text × List Text)) (q : Waiting) (word : Text) → IsFile s names r p q true word
unfolding walked
trailing_turn s names r p q word = (at_index s names r p ∙ sym (or_nothing _), to_files names r p q true word)

-- before it, one that begins with no `--`
pub plain_turn : (s : Shape) (names : List Text) (r : List Row) (p : Option (Text × List Text)) (q : Waiting) (word : Text)
    → Quiet q → bytes_eq word (codes "--") ≡ false → long_of word ≡ None
    → (Fails (turn_fault (asking s names) none (at r p q false) word) × (is_name word ≡ false)) ⊎ IsFile s names r p q false word
unfolding walked
plain_turn s names r p q word y e l = by_short (short_of word) refl
  where
    by_short : (o : Option Text) → short_of word ≡ o → (Fails (turn_fault (asking s names) none (at r p q false) word) × (is_name word ≡ false)) ⊎ IsFile s names r p q false word
    by_short None f =
        inr (
          rw (y.sub word, e, l, f, y.word (rules_of names) word (held r p)) (at_index s names r p ∙ sym (or_nothing _)),
          rw (y.sub word, e, l, f, y.word (rules_of names) word (held r p)) (to_files names r p q false word),
        )
    by_short (Some flags) f = by_bundle (bundle_is names flags r p)
      where
        by_bundle : Fails (bundle_fault (rules_of names) false flags (held r p)) ⊎ ((bundle_fault (rules_of names) false flags (held r p) ≡ []) × (bundle (rules_of names) flags (held r p) ≡ (held r p, plain)))
            → (Fails (turn_fault (asking s names) none (at r p q false) word) × (is_name word ≡ false)) ⊎ IsFile s names r p q false word
        by_bundle (inl b) = inl (rw (y.sub word, e, l, f) (later_fails _ _ b), no_name word flags f)
        by_bundle (inr b) =
            inr (
              rw (y.sub word, e, l, f, b.0, b.1, y.word (rules_of names) word (held r p)) (at_index s names r p ∙ sym (or_nothing _)),
              rw (y.sub word, e, l, f, b.1, y.word (rules_of names) word (held r p)) (to_files names r p q false word),
            )

-- ---- an option that waits
abbrev pub IsValue : Shape → List Text → List Row → Text → Text → Type 0
IsValue s names r name word =
    (Fails (turn_fault (asking s names) none (at r (Some (name, [])) (option name) false) word) × (is_name word ≡ false))
    ⊎ ((turn_fault (asking s names) none (at r (Some (name, [])) (option name) false) word ≡ []) × (walked (rules_of names) none (at r (Some (name, [])) (option name) false) word ≡ at r (Some (name, word ∷ [])) idle false))

-- a word that begins with no `--` is its value
pub value_turn : (s : Shape) (names : List Text) (r : List Row) (name word : Text) → is_among names name ≡ true → is_flag name ≡ false → bytes_eq word (codes "--") ≡ false → long_of word ≡ None → IsValue s names r name word
unfolding walked
value_turn s names r name word a g e l = by_short (short_of word) refl
  where
    by_short : (o : Option Text) → short_of word ≡ o → IsValue s names r name word
    by_short None f = inr (rw (e, l, f) refl, rw (e, l, f, found_id names name a, text_same name, g) refl)
    by_short (Some flags) f = by_bundle (bundle_is names flags r (Some (name, [])))
      where
        by_bundle : Fails (bundle_fault (rules_of names) false flags (held r (Some (name, [])))) ⊎ ((bundle_fault (rules_of names) false flags (held r (Some (name, []))) ≡ []) × (bundle (rules_of names) flags (held r (Some (name, []))) ≡ (held r (Some (name, [])), plain))) → IsValue s names r name word
        by_bundle (inl b) = inl (rw (e, l, f) (later_fails _ _ b), no_name word flags f)
        by_bundle (inr b) = inr (rw (e, l, f, b.0, b.1) refl, rw (e, l, f, b.1, found_id names name a, text_same name, g) refl)

-- what is pending with no value fails where it is settled
pub waiting_fails : (names : List Text) (r : List Row) (name : Text) → is_among names name ≡ true → is_flag name ≡ false → Fails (settle_fault (rules_of names) false (held r (Some (name, []))))
waiting_fails names r name a g = rw (found_id names name a, g) (λ f. absurd cc)
