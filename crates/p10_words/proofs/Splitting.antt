-- The reading of words is the relation on them.
use Rattle.std.proofs.Common.{◌≡◌, ℕ, ◌==◌, true, false, Bool, cond, ap, sym, ◌∙◌, refl, subst, arith, suc, ◌+◌, take, drop, List, [], ◌∷◌, ◌++◌, Option, Some, None}
use Rattle.std.specs.Prelude.{◌&&◌, ◌||◌, not, if◌then◌else◌, option_and_then, codes, bytes_eq}
use Rattle.std.specs.List.{list_all, before_first, after_first, position_or_len}
use Rattle.clap.specs.Lexer.{long_of, long_of_rest, strip_byte, has_byte}
use Rattle.clap.specs.Walk.{is_empty}
use Rattle.p10_base.specs.Words.{Text}
use Rattle.p10_words.specs.CommandLines.{Given, IsName, AreNames, Splits, no_words, file, option, option_joined, flag, is_flag, ended, dashed, joined}
use Rattle.p10_words.specs.private.Scanning.{Split, is_among, is_name, has_names, scan, scan_value, scan_word, scan_long, with_option, with_file}
use Rattle.p10_words.specs.private.Parsing.{are_askable}
use Rattle.p10_words.proofs.Rows.{same_text}

-- ---- names
pub is_named : (word : Text) → IsName word → is_name word ≡ true
is_named [] n = absurd n
is_named (x ∷ xs) n = by_test (x == 45) refl
  where
    by_test : (b : Bool) → (x == 45) ≡ b → not b ≡ true
    by_test true e = absurd (n (grind arith))
    by_test false e = refl

pub named : (word : Text) → is_name word ≡ true → IsName word
named [] e = absurd cc
named (x ∷ xs) e = λ s. clash x s e
  where
    clash : (y : ℕ) → y ≡ 45 → not (y == 45) ≡ true → ⊥
    clash y s e = let t = subst (λ (z : ℕ). not (z == 45) ≡ true) s e in cc

and_true : (a b : Bool) → a ≡ true → b ≡ true → a && b ≡ true
and_true true true a b = refl
and_true true false a b = absurd cc
and_true false b a c = absurd cc

pub and_left : (a b : Bool) → a && b ≡ true → a ≡ true
and_left true b e = refl
and_left false b e = absurd cc

pub and_right : (a b : Bool) → a && b ≡ true → b ≡ true
and_right true b e = e
and_right false b e = absurd cc

pub all_named : (words : List Text) → AreNames words → list_all is_name words ≡ true
all_named [] a = refl
all_named (w ∷ words) a = and_true (is_name w) (list_all is_name words) (is_named w a.0) (all_named words a.1)

pub all_names : (words : List Text) → list_all is_name words ≡ true → AreNames words
all_names [] e = tt
all_names (w ∷ words) e = (named w (and_left (is_name w) (list_all is_name words) e), all_names words (and_right (is_name w) (list_all is_name words) e))

-- a name is no option, and not `--`
name_first : (word : Text) → IsName word → (long_of word ≡ None) × (bytes_eq word (codes "--") ≡ false)
name_first [] n = absurd n
name_first (x ∷ xs) n = by_test (x == 45) refl
  where
    by_test : (b : Bool) → (x == 45) ≡ b
        → (option_and_then long_of_rest (option_and_then (strip_byte 45) (if b then Some xs else None)) ≡ None) × (b && bytes_eq xs (45 ∷ []) ≡ false)
    by_test true e = absurd (n (grind arith))
    by_test false e = (refl, refl)

-- ---- words of options
-- before and after the first `=`
abbrev is_equals : ℕ → Bool
is_equals x = x == 61

take_more : (n x : ℕ) (xs : Text) → take (1 + n) (x ∷ xs) ≡ x ∷ take n xs
take_more n x xs = let same : 1 + n ≡ suc n = omega arith in ap (λ (k : ℕ). take k (x ∷ xs)) same

drop_more : (n x : ℕ) (xs : Text) → drop (1 + n + 1) (x ∷ xs) ≡ drop (n + 1) xs
drop_more n x xs = let same : 1 + n + 1 ≡ suc (n + 1) = omega arith in ap (λ (k : ℕ). drop k (x ∷ xs)) same

drop_one : (x : ℕ) (xs : Text) → drop (0 + 1) (x ∷ xs) ≡ xs
drop_one x xs = refl

before_all : (xs : Text) → has_byte 61 xs ≡ false → before_first is_equals xs ≡ xs
before_all [] e = refl
before_all (x ∷ xs) e = by_test (x == 61) e (before_all xs)
  where
    by_test : (b : Bool) → b || has_byte 61 xs ≡ false → (has_byte 61 xs ≡ false → before_first is_equals xs ≡ xs)
        → take (cond (not b) (1 + position_or_len is_equals xs) 0) (x ∷ xs) ≡ x ∷ xs
    by_test true e f = absurd cc
    by_test false e f = take_more (position_or_len is_equals xs) x xs ∙ ap (λ (ys : Text). x ∷ ys) (f e)

record Cut (xs v : Text) : Type 0 where
  before : before_first is_equals (xs ++ 61 ∷ v) ≡ xs
  after : after_first is_equals (xs ++ 61 ∷ v) ≡ v
  has : has_byte 61 (xs ++ 61 ∷ v) ≡ true

cut_at : (xs v : Text) → has_byte 61 xs ≡ false → Cut xs v
cut_at [] v e = record { before = refl; after = refl; has = refl }
cut_at (x ∷ xs) v e = by_test (x == 61) refl e (cut_at xs v)
  where
    by_test : (b : Bool) → (x == 61) ≡ b → b || has_byte 61 xs ≡ false → (has_byte 61 xs ≡ false → Cut xs v) → Cut (x ∷ xs) v
    by_test true q e f = absurd cc
    by_test false q e f =
        let c = f e in
        record {
          before = ap (λ (b : Bool). take (cond (not b) (1 + position_or_len is_equals (xs ++ 61 ∷ v)) 0) (x ∷ (xs ++ 61 ∷ v))) q
              ∙ take_more (position_or_len is_equals (xs ++ 61 ∷ v)) x (xs ++ 61 ∷ v) ∙ ap (λ (ys : Text). x ∷ ys) c.before;
          after = ap (λ (b : Bool). drop (cond (not b) (1 + position_or_len is_equals (xs ++ 61 ∷ v)) 0 + 1) (x ∷ (xs ++ 61 ∷ v))) q
              ∙ drop_more (position_or_len is_equals (xs ++ 61 ∷ v)) x (xs ++ 61 ∷ v) ∙ c.after;
          has = ap (λ (b : Bool). b || has_byte 61 (xs ++ 61 ∷ v)) q ∙ c.has;
        }

rejoined : (xs : Text) → has_byte 61 xs ≡ true → xs ≡ before_first is_equals xs ++ 61 ∷ after_first is_equals xs
rejoined [] e = absurd cc
rejoined (x ∷ xs) e = by_test (x == 61) refl e (rejoined xs)
  where
    by_test : (b : Bool) → (x == 61) ≡ b → b || has_byte 61 xs ≡ true → (has_byte 61 xs ≡ true → xs ≡ before_first is_equals xs ++ 61 ∷ after_first is_equals xs)
        → x ∷ xs ≡ take (cond (not b) (1 + position_or_len is_equals xs) 0) (x ∷ xs) ++ 61 ∷ drop (cond (not b) (1 + position_or_len is_equals xs) 0 + 1) (x ∷ xs)
    by_test true q e f = let same : x ≡ 61 = grind arith in ap (λ (y : ℕ). y ∷ xs) same
    by_test false q e f =
        ap (λ (ys : Text). x ∷ ys) (f e)
        ∙ sym (ap (λ (ys : Text). ys ++ 61 ∷ drop (1 + position_or_len is_equals xs + 1) (x ∷ xs)) (take_more (position_or_len is_equals xs) x xs)
        ∙ ap (λ (ys : Text). x ∷ (take (position_or_len is_equals xs) xs ++ 61 ∷ ys)) (drop_more (position_or_len is_equals xs) x xs))

-- the name of an option has a first byte and no `=`
abbrev IsOption : Text → Type 0
IsOption name = not (is_empty name) && not (has_byte 61 name) ≡ true

askable_name : (names : List Text) (name : Text) → list_all (λ n. not (is_empty n) && not (has_byte 61 n)) names ≡ true → is_among names name ≡ true → IsOption name
askable_name [] name k a = absurd cc
askable_name (n ∷ names) name k a =
    by_test (bytes_eq n name) refl a (askable_name names name (and_right (not (is_empty n) && not (has_byte 61 n)) (list_all (λ m. not (is_empty m) && not (has_byte 61 m)) names) k))
  where
    by_test : (b : Bool) → bytes_eq n name ≡ b → b || is_among names name ≡ true → (is_among names name ≡ true → IsOption name) → IsOption name
    by_test true e a r = subst IsOption (same_text n name e) (and_left (not (is_empty n) && not (has_byte 61 n)) (list_all (λ m. not (is_empty m) && not (has_byte 61 m)) names) k)
    by_test false e a r = r a

not_true : (b : Bool) → not b ≡ true → b ≡ false
not_true true e = absurd cc
not_true false e = refl

-- how its words are read
pub dashed_is : (name : Text) → IsOption name → (long_of (dashed name) ≡ Some (name, None)) × (bytes_eq (dashed name) (codes "--") ≡ false)
dashed_is [] i = absurd cc
dashed_is (x ∷ xs) i =
    let lacks = not_true (has_byte 61 (x ∷ xs)) (and_right (not (is_empty (x ∷ xs))) (not (has_byte 61 (x ∷ xs))) i) in (
      ap (λ (b : Bool). Some (before_first is_equals (x ∷ xs), if b then Some (after_first is_equals (x ∷ xs)) else None)) lacks
          ∙ ap (λ (n : Text). Some (n, None)) (before_all (x ∷ xs) lacks),
      refl,
    )

pub joined_is : (name v : Text) → IsOption name → (long_of (joined name v) ≡ Some (name, Some v)) × (bytes_eq (joined name v) (codes "--") ≡ false)
joined_is [] v i = absurd cc
joined_is (x ∷ xs) v i =
    let c = cut_at (x ∷ xs) v (not_true (has_byte 61 (x ∷ xs)) (and_right (not (is_empty (x ∷ xs))) (not (has_byte 61 (x ∷ xs))) i)) in (
      ap (λ (b : Bool). Some (before_first is_equals (x ∷ (xs ++ 61 ∷ v)), if b then Some (after_first is_equals (x ∷ (xs ++ 61 ∷ v))) else None)) c.has
          ∙ ap (λ (n : Text). Some (n, Some (after_first is_equals (x ∷ (xs ++ 61 ∷ v))))) c.before ∙ ap (λ (w : Text). Some (x ∷ xs, Some w)) c.after,
      refl,
    )

-- the word that is read so
pub WordOf : Text → Text → Option Text → Type 0
WordOf word name None = word ≡ dashed name
WordOf word name (Some v) = word ≡ joined name v

pub word_of : (word name : Text) (o : Option Text) → long_of word ≡ Some (name, o) → WordOf word name o
unfolding WordOf
word_of [] name o e = absurd cc
word_of (x ∷ []) name o e = by_test (x == 45) e
  where
    by_test : (b : Bool) → option_and_then long_of_rest (option_and_then (strip_byte 45) (if b then Some [] else None)) ≡ Some (name, o) → WordOf (x ∷ []) name o
    by_test true e = absurd cc
    by_test false e = absurd cc
word_of (x ∷ y ∷ rest) name o e = by_test (x == 45) (y == 45) refl refl e
  where
    by_value : (b : Bool) → has_byte 61 rest ≡ b → before_first is_equals rest ≡ name → (if b then Some (after_first is_equals rest) else None) ≡ o → WordOf (45 ∷ 45 ∷ rest) name o
    by_value false h f g = subst (λ (p : Option Text). WordOf (45 ∷ 45 ∷ rest) name p) g (ap (λ (t : Text). 45 ∷ 45 ∷ t) (sym (before_all rest h) ∙ f))
    by_value true h f g = subst (λ (p : Option Text). WordOf (45 ∷ 45 ∷ rest) name p) g (ap (λ (t : Text). 45 ∷ 45 ∷ t) (rejoined rest h ∙ ap (λ (t : Text). t ++ 61 ∷ after_first is_equals rest) f))

    by_rest : (r : Text) → r ≡ rest → long_of_rest r ≡ Some (name, o) → WordOf (45 ∷ 45 ∷ rest) name o
    by_rest [] s e = absurd cc
    by_rest (z ∷ zs) s e =
        let whole : ◌≡◌ {A = Option (Text × Option Text)} (Some (before_first is_equals rest, (if has_byte 61 rest then Some (after_first is_equals rest) else None))) (Some (name, o)) =
        subst (λ (t : Text). ◌≡◌ {A = Option (Text × Option Text)} (Some (before_first is_equals t, (if has_byte 61 t then Some (after_first is_equals t) else None))) (Some (name, o))) s e in
        let pair : ◌≡◌ {A = Text × Option Text} (before_first is_equals rest, (if has_byte 61 rest then Some (after_first is_equals rest) else None)) (name, o) = cc in
        by_value (has_byte 61 rest) refl (ap (λ (q : Text × Option Text). q.0) pair) (ap (λ (q : Text × Option Text). q.1) pair)

    by_test : (b c : Bool) → (x == 45) ≡ b → (y == 45) ≡ c
        → option_and_then long_of_rest (option_and_then (strip_byte 45) (if b then Some (y ∷ rest) else None)) ≡ Some (name, o) → WordOf (x ∷ y ∷ rest) name o
    by_test true true p q e =
        let first : x ≡ 45 = grind arith in
        let second : y ≡ 45 = grind arith in
        subst (λ (k : ℕ). WordOf (k ∷ y ∷ rest) name o) (sym first) (subst (λ (k : ℕ). WordOf (45 ∷ k ∷ rest) name o) (sym second)
        (by_rest rest refl (ap (λ (t : Bool). option_and_then long_of_rest (if t then Some rest else None)) (sym q) ∙ e)))
    by_test true false p q e = absurd (let t = ap (λ (t : Bool). option_and_then long_of_rest (if t then Some rest else None)) (sym q) ∙ e in cc)
    by_test false c p q e = absurd cc

-- ---- both ways
some_split : List Given → List Text → Option Split
some_split options files = Some (record { options = options; files = files })

-- words that are split so are read so, and have names alone
pub record ReadSo (names words : List Text) (options : List Given) (files : List Text) : Type 0 where
  pub scanned : scan names None words ≡ Some (record { options = options; files = files })
  pub names_alone : has_names (record { options = options; files = files }) ≡ true

two : (a b c : Bool) → a ≡ true → b && c ≡ true → (a && b) && c ≡ true
two true b c e f = f
two false b c e f = absurd cc

three : (a b c : Bool) → b ≡ true → a && c ≡ true → a && (b && c) ≡ true
three true true c e f = f
three true false c e f = absurd cc
three false b c e f = absurd cc

read_value : (names : List Text) (name value : Text) (words : List Text) (options : List Given) (files : List Text) → IsName value → scan names None words ≡ some_split options files
    → scan names (Some name) (value ∷ words) ≡ some_split ((name, value) ∷ options) files
unfolding scan some_split
read_value names name value words options files n e =
    let f = name_first value n in
    ap (λ (o : Option (Text × Option Text)). scan_value name value o (scan names None words)) f.0
    ∙ ap (λ (b : Bool). if b then None else with_option name value (scan names None words)) f.1 ∙ ap (with_option name value) e

-- a word that is an option of these
read_option : (names : List Text) (word name : Text) (o : Option Text) (words : List Text) → bytes_eq word (codes "--") ≡ false → long_of word ≡ Some (name, o) → is_among names name ≡ true
    → scan names None (word ∷ words) ≡ scan_long name o (scan names None words) (λ n. scan names (Some n) words)
unfolding scan
read_option names word name o words d l a =
    ap (λ (b : Bool). if b then Some (record { options = []; files = words }) else scan_word names word (long_of word) (scan names None words) (λ n. scan names (Some n) words)) d
    ∙ ap (λ (p : Option (Text × Option Text)). scan_word names word p (scan names None words) (λ n. scan names (Some n) words)) l
    ∙ ap (λ (b : Bool). if b then scan_long name o (scan names None words) (λ n. scan names (Some n) words) else None) a

read_file : (names : List Text) (word : Text) (words : List Text) → bytes_eq word (codes "--") ≡ false → long_of word ≡ None → scan names None (word ∷ words) ≡ with_file word (scan names None words)
unfolding scan
read_file names word words d l =
    ap (λ (b : Bool). if b then Some (record { options = []; files = words }) else scan_word names word (long_of word) (scan names None words) (λ n. scan names (Some n) words)) d
    ∙ ap (λ (p : Option (Text × Option Text)). scan_word names word p (scan names None words) (λ n. scan names (Some n) words)) l

askable_names : (names : List Text) → are_askable names ≡ true → list_all (λ n. not (is_empty n) && not (has_byte 61 n)) names ≡ true
askable_names names k = and_left (list_all (λ n. not (is_empty n) && not (has_byte 61 n)) names) _ k

pub read_so : (names words : List Text) (options : List Given) (files : List Text) → are_askable names ≡ true → Splits names words options files → ReadSo names words options files
unfolding scan some_split
read_so names words options files k no_words = record { scanned = refl; names_alone = refl }
read_so names words options files k (file {word = word} {words = rest} {options = given} {files = others} n s) =
    let r = read_so names rest given others k s in
    let f = name_first word n in
    record {
      scanned = read_file names word rest f.1 f.0 ∙ ap (with_file word) r.scanned;
      names_alone = three (list_all (λ (o : Given). is_name o.1) given) (is_name word) (list_all is_name others) (is_named word n) r.names_alone;
    }
read_so names words options files k (option {name = name} {value = value} {words = rest} {options = others} {files = kept} a g n s) =
    let r = read_so names rest others kept k s in
    let d = dashed_is name (askable_name names name (askable_names names k) a) in
    record {
      scanned = read_option names (dashed name) name None (value ∷ rest) d.1 d.0 a ∙ ap (λ (b : Bool). if b then with_option name (codes "true") (scan names None (value ∷ rest)) else scan names (Some name) (value ∷ rest)) g
          ∙ read_value names name value rest others kept n r.scanned;
      names_alone = two (is_name value) (list_all (λ (o : Given). is_name o.1) others) (list_all is_name kept) (is_named value n) r.names_alone;
    }
read_so names words options files k (option_joined {name = name} {value = value} {words = rest} {options = others} {files = kept} a g n s) =
    let r = read_so names rest others kept k s in
    let d = joined_is name value (askable_name names name (askable_names names k) a) in
    record {
      scanned = read_option names (joined name value) name (Some value) rest d.1 d.0 a ∙ ap (λ (b : Bool). if b then None else with_option name value (scan names None rest)) g ∙ ap (with_option name value) r.scanned;
      names_alone = two (is_name value) (list_all (λ (o : Given). is_name o.1) others) (list_all is_name kept) (is_named value n) r.names_alone;
    }
read_so names words options files k (flag {name = name} {words = rest} {options = others} {files = kept} a g s) =
    let r = read_so names rest others kept k s in
    let d = dashed_is name (askable_name names name (askable_names names k) a) in
    record {
      scanned = read_option names (dashed name) name None rest d.1 d.0 a ∙ ap (λ (b : Bool). if b then with_option name (codes "true") (scan names None rest) else scan names (Some name) rest) g
          ∙ ap (with_option name (codes "true")) r.scanned;
      names_alone = two true (list_all (λ (o : Given). is_name o.1) others) (list_all is_name kept) refl r.names_alone;
    }
read_so names words options files k (ended {words = rest} n) = record { scanned = refl; names_alone = all_named rest n }

-- words that are read so, with names alone, are split so
Unread : List Text → List Text → Type 0
Unread names words = (sp : Split) → scan names None words ≡ Some sp → has_names sp ≡ true → Splits names words sp.options sp.files

Valued : List Text → List Text → Type 0
Valued names words = (name : Text) (sp : Split) → is_among names name ≡ true → is_flag name ≡ false → scan names (Some name) words ≡ Some sp → has_names sp ≡ true → Splits names (dashed name ∷ words) sp.options sp.files

from_file : (names words : List Text) (word : Text) → Unread names words → (sp : Split) → with_file word (scan names None words) ≡ Some sp → has_names sp ≡ true → Splits names (word ∷ words) sp.options sp.files
unfolding Unread
from_file names words word u sp e n = given (scan names None words) refl
  where
    given : (o : Option Split) → scan names None words ≡ o → Splits names (word ∷ words) sp.options sp.files
    given None f = absurd (let w = sym (ap (with_file word) f) ∙ e in cc)
    given (Some i) f =
        let whole : record i { files = word ∷ i.files } ≡ sp = (let w = sym (ap (with_file word) f) ∙ e in cc) in
        let all : has_names (record i { files = word ∷ i.files }) ≡ true = subst (λ (x : Split). has_names x ≡ true) (sym whole) n in
        let rest = and_right (list_all (λ (o : Given). is_name o.1) i.options) (is_name word && list_all is_name i.files) all in
        subst (λ (x : Split). Splits names (word ∷ words) x.options x.files) whole
        (file (named word (and_left (is_name word) (list_all is_name i.files) rest))
        (u i f (and_true (list_all (λ (o : Given). is_name o.1) i.options) (list_all is_name i.files)
        (and_left (list_all (λ (o : Given). is_name o.1) i.options) (is_name word && list_all is_name i.files) all) (and_right (is_name word) (list_all is_name i.files) rest))))

from_option : (names words : List Text) (name value : Text) (P : List Given → List Text → Type 0) → Unread names words
    → ((options : List Given) (files : List Text) → IsName value → Splits names words options files → P ((name, value) ∷ options) files)
    → (sp : Split) → with_option name value (scan names None words) ≡ Some sp → has_names sp ≡ true → P sp.options sp.files
unfolding Unread
from_option names words name value P u make sp e n = given (scan names None words) refl
  where
    given : (o : Option Split) → scan names None words ≡ o → P sp.options sp.files
    given None f = absurd (let w = sym (ap (with_option name value) f) ∙ e in cc)
    given (Some i) f =
        let whole : record i { options = (name, value) ∷ i.options } ≡ sp = (let w = sym (ap (with_option name value) f) ∙ e in cc) in
        let all : has_names (record i { options = (name, value) ∷ i.options }) ≡ true = subst (λ (x : Split). has_names x ≡ true) (sym whole) n in
        let first = and_left (is_name value && list_all (λ (o : Given). is_name o.1) i.options) (list_all is_name i.files) all in
        subst (λ (x : Split). P x.options x.files) whole
        (make i.options i.files (named value (and_left (is_name value) (list_all (λ (o : Given). is_name o.1) i.options) first))
        (u i f (and_true (list_all (λ (o : Given). is_name o.1) i.options) (list_all is_name i.files)
        (and_right (is_name value) (list_all (λ (o : Given). is_name o.1) i.options) first)
        (and_right (is_name value && list_all (λ (o : Given). is_name o.1) i.options) (list_all is_name i.files) all))))

valued_more : (names words : List Text) (word : Text) → Unread names words → Valued names (word ∷ words)
unfolding Valued scan
valued_more names words word u name sp a g e n = by_long (long_of word) e
  where
    by_dashes : (b : Bool) → (if b then None else with_option name word (scan names None words)) ≡ Some sp → Splits names (dashed name ∷ word ∷ words) sp.options sp.files
    by_dashes true e = absurd cc
    by_dashes false e = from_option names words name word (λ options files. Splits names (dashed name ∷ word ∷ words) options files) u (λ options files m s. option a g m s) sp e n

    by_long : (o : Option (Text × Option Text)) → scan_value name word o (scan names None words) ≡ Some sp → Splits names (dashed name ∷ word ∷ words) sp.options sp.files
    by_long None e = by_dashes (bytes_eq word (codes "--")) e
    by_long (Some p) e = absurd cc

unread_more : (names words : List Text) (word : Text) → Unread names words → Valued names words → Unread names (word ∷ words)
unfolding Unread Valued scan WordOf
unread_more names words word u v sp e n = by_dashes (bytes_eq word (codes "--")) refl e
  where
    by_value : (name : Text) (o : Option Text) (b : Bool) → is_flag name ≡ b → WordOf word name o → is_among names name ≡ true → scan_long name o (scan names None words) (λ m. scan names (Some m) words) ≡ Some sp
        → Splits names (word ∷ words) sp.options sp.files
    by_value name None true g w a e =
        subst (λ (t : Text). Splits names (t ∷ words) sp.options sp.files) (sym w)
        (from_option names words name (codes "true") (λ options files. Splits names (dashed name ∷ words) options files) u (λ options files m s. flag a g s) sp
        (sym (ap (λ (b : Bool). if b then with_option name (codes "true") (scan names None words) else scan names (Some name) words) g) ∙ e) n)
    by_value name None false g w a e =
        subst (λ (t : Text). Splits names (t ∷ words) sp.options sp.files) (sym w)
        (v name sp a g (sym (ap (λ (b : Bool). if b then with_option name (codes "true") (scan names None words) else scan names (Some name) words) g) ∙ e) n)
    by_value name (Some value) true g w a e = absurd (let t : ◌≡◌ {A = Option Split} None (Some sp) = sym (ap (λ (b : Bool). if b then None else with_option name value (scan names None words)) g) ∙ e in cc)
    by_value name (Some value) false g w a e =
        subst (λ (t : Text). Splits names (t ∷ words) sp.options sp.files) (sym w)
        (from_option names words name value (λ options files. Splits names (joined name value ∷ words) options files) u (λ options files m s. option_joined a g m s) sp
        (sym (ap (λ (b : Bool). if b then None else with_option name value (scan names None words)) g) ∙ e) n)

    by_name : (p : Text × Option Text) (b : Bool) → is_among names p.0 ≡ b → long_of word ≡ Some p → (if b then scan_long p.0 p.1 (scan names None words) (λ m. scan names (Some m) words) else None) ≡ Some sp
        → Splits names (word ∷ words) sp.options sp.files
    by_name p false a l e = absurd cc
    by_name p true a l e = by_value p.0 p.1 (is_flag p.0) refl (word_of word p.0 p.1 l) a e

    by_long : (o : Option (Text × Option Text)) → long_of word ≡ o → scan_word names word o (scan names None words) (λ m. scan names (Some m) words) ≡ Some sp → Splits names (word ∷ words) sp.options sp.files
    by_long None l e = from_file names words word u sp e n
    by_long (Some p) l e = by_name p (is_among names p.0) refl l e

    by_dashes : (b : Bool) → bytes_eq word (codes "--") ≡ b
        → (if b then Some (record { options = []; files = words }) else scan_word names word (long_of word) (scan names None words) (λ m. scan names (Some m) words)) ≡ Some sp
        → Splits names (word ∷ words) sp.options sp.files
    by_dashes true d e =
        let whole : record { options = []; files = words } ≡ sp = cc in
        subst (λ (x : Split). Splits names (word ∷ words) x.options x.files) whole
        (subst (λ (t : Text). Splits names (t ∷ words) [] words) (sym (same_text word (codes "--") d))
        (ended (all_names words (subst (λ (x : Split). has_names x ≡ true) (sym whole) n))))
    by_dashes false d e = by_long (long_of word) refl e

no_words_unread : (names : List Text) → Unread names []
unfolding Unread scan
no_words_unread names sp e n = let whole : record { options = []; files = [] } ≡ sp = cc in subst (λ (x : Split). Splits names [] x.options x.files) whole no_words

no_words_valued : (names : List Text) → Valued names []
unfolding Valued scan
no_words_valued names name sp a g e n = absurd cc

both_read : (names words : List Text) → Unread names words × Valued names words
both_read names [] = (no_words_unread names, no_words_valued names)
both_read names (word ∷ words) = let r = both_read names words in (unread_more names words word r.0 r.1, valued_more names words word r.0)

pub split_so : (names words : List Text) (sp : Split) → scan names None words ≡ Some sp → has_names sp ≡ true → Splits names words sp.options sp.files
unfolding Unread
split_so names words sp e n = (both_read names words).0 sp e n
