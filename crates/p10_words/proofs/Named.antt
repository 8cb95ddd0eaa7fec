-- Which options and values are read: each option is one of those that are asked for, a flag counts as `true`, and values are names where those that can be found are.
use Rattle.std.proofs.Common.{◌≡◌, ◌≢◌, true, false, Bool, cond, ap, sym, refl, subst, List, [], ◌∷◌, ◌++◌, Option, Some, None, append_assoc, ◌∙◌}
use Rattle.std.specs.Prelude.{◌&&◌, ◌||◌, not, if◌then◌else◌, option_map, find, codes, bytes_eq}
use Rattle.std.specs.List.{list_all}
use Rattle.clap.specs.Lexer.{long_of}
use Rattle.p10_base.specs.Words.{Text}
use Rattle.p10_words.specs.CommandLines.{Given, is_flag, AreGivenOnce, value_of}
use Rattle.p10_words.specs.private.Scanning.{Split, is_among, is_name, scan, scan_value, scan_word, scan_long, with_option, with_file}
use Rattle.p10_words.specs.private.Deciding.{is_given_name, has_files}
use Rattle.p10_words.proofs.Rows.{same_text, text_same}
use Rattle.p10_words.proofs.Splitting.{and_left, and_right}

pub and_both : (a b : Bool) → a ≡ true → b ≡ true → a && b ≡ true
and_both true b a c = c
and_both false b a c = absurd cc

-- ---- each option that is read is one of those that are asked for, and a flag counts as `true`
abbrev is_right : List Text → Given → Bool
is_right names o = is_among names o.0 && (not (is_flag o.0) || bytes_eq o.1 (codes "true"))

unfoldable pub are_among : List Text → List Given → Bool
are_among names options = list_all (is_right names) options

unfoldable pub Known : List Text → Option Text → List Text → Type 0
Known names waiting words = (sp : Split) → scan names waiting words ≡ Some sp → are_among names sp.options ≡ true

known_option : (names : List Text) (name value : Text) (next : Option Split) (sp : Split) → is_right names (name, value) ≡ true → ((i : Split) → next ≡ Some i → are_among names i.options ≡ true)
    → with_option name value next ≡ Some sp → are_among names sp.options ≡ true
unfolding are_among
known_option names name value None sp a k e = absurd cc
known_option names name value (Some i) sp a k e =
    let whole : record i { options = (name, value) ∷ i.options } ≡ sp = cc in
    subst (λ (x : Split). list_all (is_right names) x.options ≡ true) whole (and_both (is_right names (name, value)) (list_all (is_right names) i.options) a (k i refl))

right_value : (names : List Text) (name value : Text) → is_among names name ≡ true → is_flag name ≡ false → is_right names (name, value) ≡ true
right_value names name value a g = and_both (is_among names name) (not (is_flag name) || bytes_eq value (codes "true")) a (rw g refl)

right_flag : (names : List Text) (name : Text) → is_among names name ≡ true → is_right names (name, codes "true") ≡ true
right_flag names name a = and_both (is_among names name) (not (is_flag name) || true) a (by_flag (is_flag name))
  where
    by_flag : (b : Bool) → not b || true ≡ true
    by_flag true = refl
    by_flag false = refl

known_file : (names : List Text) (word : Text) (next : Option Split) (sp : Split) → ((i : Split) → next ≡ Some i → are_among names i.options ≡ true) → with_file word next ≡ Some sp → are_among names sp.options ≡ true
known_file names word None sp k e = absurd cc
known_file names word (Some i) sp k e = let whole : record i { files = word ∷ i.files } ≡ sp = cc in subst (λ (x : Split). are_among names x.options ≡ true) whole (k i refl)

known_value : (names words : List Text) (word name : Text) → is_among names name ≡ true → is_flag name ≡ false → Known names None words → Known names (Some name) (word ∷ words)
unfolding Known scan
known_value names words word name a g k sp e = by_long (long_of word) e
  where
    by_dashes : (b : Bool) → (if b then None else with_option name word (scan names None words)) ≡ Some sp → are_among names sp.options ≡ true
    by_dashes true e = absurd cc
    by_dashes false e = known_option names name word (scan names None words) sp (right_value names name word a g) k e

    by_long : (o : Option (Text × Option Text)) → scan_value name word o (scan names None words) ≡ Some sp → are_among names sp.options ≡ true
    by_long None e = by_dashes (bytes_eq word (codes "--")) e
    by_long (Some p) e = absurd cc

known_word : (names words : List Text) (word : Text) → Known names None words → ((name : Text) → is_among names name ≡ true → is_flag name ≡ false → Known names (Some name) words) → Known names None (word ∷ words)
unfolding Known scan are_among
known_word names words word k v sp e = by_dashes (bytes_eq word (codes "--")) e
  where
    by_value : (name : Text) (o : Option Text) (b : Bool) → is_flag name ≡ b → is_among names name ≡ true → scan_long name o (scan names None words) (λ m. scan names (Some m) words) ≡ Some sp → are_among names sp.options ≡ true
    by_value name None true g a e = known_option names name (codes "true") (scan names None words) sp (right_flag names name a) k (sym (ap (λ (b : Bool). if b then with_option name (codes "true") (scan names None words) else scan names (Some name) words) g) ∙ e)
    by_value name None false g a e = v name a g sp (sym (ap (λ (b : Bool). if b then with_option name (codes "true") (scan names None words) else scan names (Some name) words) g) ∙ e)
    by_value name (Some value) true g a e = absurd (let t : ◌≡◌ {A = Option Split} None (Some sp) = sym (ap (λ (b : Bool). if b then None else with_option name value (scan names None words)) g) ∙ e in cc)
    by_value name (Some value) false g a e = known_option names name value (scan names None words) sp (right_value names name value a g) k (sym (ap (λ (b : Bool). if b then None else with_option name value (scan names None words)) g) ∙ e)

    by_name : (p : Text × Option Text) (b : Bool) → is_among names p.0 ≡ b → (if b then scan_long p.0 p.1 (scan names None words) (λ m. scan names (Some m) words) else None) ≡ Some sp → are_among names sp.options ≡ true
    by_name p false a e = absurd cc
    by_name p true a e = by_value p.0 p.1 (is_flag p.0) refl a e

    by_long : (o : Option (Text × Option Text)) → scan_word names word o (scan names None words) (λ m. scan names (Some m) words) ≡ Some sp → are_among names sp.options ≡ true
    by_long None e = known_file names word (scan names None words) sp k e
    by_long (Some p) e = by_name p (is_among names p.0) refl e

    by_dashes : (b : Bool) → (if b then Some (record { options = []; files = words }) else scan_word names word (long_of word) (scan names None words) (λ m. scan names (Some m) words)) ≡ Some sp
        → are_among names sp.options ≡ true
    by_dashes true e = let whole : record { options = []; files = words } ≡ sp = cc in subst (λ (x : Split). are_among names x.options ≡ true) whole refl
    by_dashes false e = by_long (long_of word) e

pub known : (names words : List Text) → Known names None words × ((name : Text) → is_among names name ≡ true → is_flag name ≡ false → Known names (Some name) words)
unfolding Known scan are_among
known names [] = (λ sp e. let whole : record { options = []; files = [] } ≡ sp = cc in subst (λ (x : Split). are_among names x.options ≡ true) whole refl, λ name a g sp e. absurd cc)
known names (word ∷ words) = let r = known names words in (known_word names words word r.0 r.1, λ name a g. known_value names words word name a g r.0)

-- ---- values, found by their names
value_here : (before : List Given) (o : Given) (os : List Given) → value_of before o.0 ≡ None → value_of (before ++ o ∷ os) o.0 ≡ Some o.1
value_here [] o os e = ap (λ (b : Bool). option_map (λ (q : Given). q.1) (cond b (Some o) (find (λ (q : Given). bytes_eq q.0 o.0) os))) (text_same o.0)
value_here (b ∷ before) o os e = by_test (bytes_eq b.0 o.0) e (value_here before o os)
  where
    by_test : (t : Bool) → option_map (λ (q : Given). q.1) (cond t (Some b) (find (λ (q : Given). bytes_eq q.0 o.0) before)) ≡ None
        → (value_of before o.0 ≡ None → value_of (before ++ o ∷ os) o.0 ≡ Some o.1)
        → option_map (λ (q : Given). q.1) (cond t (Some b) (find (λ (q : Given). bytes_eq q.0 o.0) (before ++ o ∷ os))) ≡ Some o.1
    by_test true e f = absurd cc
    by_test false e f = f e

-- where each value that can be found is a name, all are
pub all_pass : (names : List Text) (before os : List Given) → AreGivenOnce before os → are_among names os ≡ true
    → ((n : Text) → is_among names n ≡ true → is_given_name (value_of (before ++ os) n) ≡ true) → list_all (λ (o : Given). is_name o.1) os ≡ true
unfolding are_among
all_pass names before [] g a f = refl
all_pass names before (o ∷ os) g a f =
    let mine = and_left (is_among names o.0) (not (is_flag o.0) || bytes_eq o.1 (codes "true")) (and_left (is_right names o) (list_all (is_right names) os) a) in
    let first : is_name o.1 ≡ true = subst (λ (v : Option Text). is_given_name v ≡ true) (value_here before o os g.0) (f o.0 mine) in
    and_both (is_name o.1) (list_all (λ (q : Given). is_name q.1) os) first
    (all_pass names (before ++ o ∷ []) os g.1 (and_right (is_right names o) (list_all (is_right names) os) a)
    (λ n b. subst (λ (l : List Given). is_given_name (value_of l n) ≡ true) (sym (append_assoc before (o ∷ []) os)) (f n b)))

-- and the other way
pub value_passes : (os : List Given) (n : Text) → list_all (λ (o : Given). is_name o.1) os ≡ true → is_given_name (value_of os n) ≡ true
value_passes [] n e = refl
value_passes (o ∷ os) n e = by_test (bytes_eq o.0 n) (value_passes os n (and_right (is_name o.1) (list_all (λ (q : Given). is_name q.1) os) e))
  where
    by_test : (b : Bool) → is_given_name (value_of os n) ≡ true → is_given_name (option_map (λ (q : Given). q.1) (cond b (Some o) (find (λ (q : Given). bytes_eq q.0 n) os))) ≡ true
    by_test true f = and_left (is_name o.1) (list_all (λ (q : Given). is_name q.1) os) e
    by_test false f = f

-- a flag counts as `true`, if it is given
pub flag_value : (names : List Text) (os : List Given) (n : Text) (v : Text) → are_among names os ≡ true → is_flag n ≡ true → value_of os n ≡ Some v → bytes_eq v (codes "true") ≡ true
unfolding are_among
flag_value names [] n v a g e = absurd cc
flag_value names (o ∷ os) n v a g e = by_test (bytes_eq o.0 n) refl e (flag_value names os n v (and_right (is_right names o) (list_all (is_right names) os) a) g)
  where
    mine : not (is_flag o.0) || bytes_eq o.1 (codes "true") ≡ true
    mine = and_right (is_among names o.0) (not (is_flag o.0) || bytes_eq o.1 (codes "true")) (and_left (is_right names o) (list_all (is_right names) os) a)

    by_test : (b : Bool) → bytes_eq o.0 n ≡ b → option_map (λ (q : Given). q.1) (cond b (Some o) (find (λ (q : Given). bytes_eq q.0 n) os)) ≡ Some v → (value_of os n ≡ Some v → bytes_eq v (codes "true") ≡ true)
        → bytes_eq v (codes "true") ≡ true
    by_test true t e later =
        let there : is_flag o.0 ≡ true = ap is_flag (same_text o.0 n t) ∙ g in
        let value : o.1 ≡ v = cc in
        subst (λ (x : Text). bytes_eq x (codes "true") ≡ true) value (sym (ap (λ (b : Bool). not b || bytes_eq o.1 (codes "true")) there) ∙ mine)
    by_test false t e later = later e

-- ---- files
pub files_some : (files : List Text) → has_files files ≡ true → files ≢ []
files_some [] e = absurd cc
files_some (f ∷ files) e = λ g. cc

pub files_named : (files : List Text) → has_files files ≡ true → list_all is_name files ≡ true
files_named [] e = refl
files_named (f ∷ files) e = e

pub files_have : (files : List Text) → files ≢ [] → list_all is_name files ≡ true → has_files files ≡ true
files_have [] n e = absurd (n refl)
files_have (f ∷ files) n e = e
