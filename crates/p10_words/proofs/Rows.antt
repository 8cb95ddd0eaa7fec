-- What the rules find, and what the rows of the matches say.
use Rattle.std.proofs.Common.{◌≡◌, ℕ, true, false, Bool, cond, ap, sym, ◌∙◌, refl, subst, List, [], ◌∷◌, ◌++◌, Option, Some, None, is_some}
use Rattle.std.proofs.lemmas.Slice.Eq.{bytes_eq-Decides}
use Rattle.std.specs.Prelude.{◌||◌, if◌then◌else◌, option_map, unwrap_or, find, bytes_eq}
use Rattle.clap.specs.Walk.{Row, Text, arg_by_long, arg_by_id, arg_by_index, arg_by_short, has_row, all_of, with_values, without, stronger}
use Rattle.clap.specs.declared.builder.value_parser.Reading.{Reading}
use Rattle.clap.specs.declared.parser.matches.ValueSource.{ValueSource}
use Rattle.p10_words.specs.CommandLines.{Given, value_of}
use Rattle.p10_words.specs.private.Scanning.{is_among}
use Rattle.p10_words.specs.private.Parsing.{file_id, option_rule, files_rule, rules_of, some_list}

pub same_text : (x y : Text) → bytes_eq x y ≡ true → x ≡ y
same_text x y e = (bytes_eq-Decides x y).0 e

pub text_same : (x : Text) → bytes_eq x x ≡ true
text_same x = (bytes_eq-Decides x x).1 refl

pub other_text : (x y z : Text) → bytes_eq x y ≡ true → bytes_eq x z ≡ false → bytes_eq y z ≡ false
other_text x y z e f = subst (λ (t : Text). bytes_eq t z ≡ false) (same_text x y e) f

turned : (x y : Text) → bytes_eq x y ≡ false → bytes_eq y x ≡ false
turned x y e = by_test (bytes_eq y x) refl
  where
    by_test : (b : Bool) → bytes_eq y x ≡ b → b ≡ false
    by_test true f = absurd (let same = same_text y x f in let t : bytes_eq x y ≡ true = subst (λ (t : Text). bytes_eq t y ≡ true) same (text_same y) in cc)
    by_test false f = refl

-- ---- rules
pub found_long : (names : List Text) (name : Text) → arg_by_long (rules_of names) name ≡ (if is_among names name then Some (option_rule name) else None)
found_long [] name = refl
found_long (n ∷ names) name = by_test (bytes_eq n name) refl (found_long names name)
  where
    by_test : (b : Bool) → bytes_eq n name ≡ b → arg_by_long (rules_of names) name ≡ (if is_among names name then Some (option_rule name) else None)
        → cond (b || false) (Some (option_rule n)) (arg_by_long (rules_of names) name) ≡ (if b || is_among names name then Some (option_rule name) else None)
    by_test true e r = ap (λ (t : Text). Some (option_rule t)) (same_text n name e)
    by_test false e r = r

pub found_id : (names : List Text) (name : Text) → is_among names name ≡ true → arg_by_id (rules_of names) name ≡ Some (option_rule name)
found_id [] name a = absurd cc
found_id (n ∷ names) name a = by_test (bytes_eq n name) refl a (found_id names name)
  where
    by_test : (b : Bool) → bytes_eq n name ≡ b → b || is_among names name ≡ true → (is_among names name ≡ true → arg_by_id (rules_of names) name ≡ Some (option_rule name))
        → cond b (Some (option_rule n)) (arg_by_id (rules_of names) name) ≡ Some (option_rule name)
    by_test true e a r = ap (λ (t : Text). Some (option_rule t)) (same_text n name e)
    by_test false e a r = r a

pub found_files : (names : List Text) → is_among names file_id ≡ false → arg_by_id (rules_of names) file_id ≡ Some files_rule
found_files [] a = refl
found_files (n ∷ names) a = by_test (bytes_eq n file_id) a (found_files names)
  where
    by_test : (b : Bool) → b || is_among names file_id ≡ false → (is_among names file_id ≡ false → arg_by_id (rules_of names) file_id ≡ Some files_rule)
        → cond b (Some (option_rule n)) (arg_by_id (rules_of names) file_id) ≡ Some files_rule
    by_test true a r = absurd cc
    by_test false a r = r a

pub found_index : (names : List Text) → arg_by_index (rules_of names) 1 ≡ Some files_rule
found_index [] = refl
found_index (n ∷ names) = found_index names

pub no_short : (names : List Text) (c : ℕ) → arg_by_short (rules_of names) c ≡ None
no_short [] c = refl
no_short (n ∷ names) c = no_short names c

-- ---- rows
pub row_there : (id : Text) (rows : List Row) → has_row id rows ≡ is_some (all_of id rows)
row_there id [] = refl
row_there id (r ∷ rows) = by_test (bytes_eq r.id id) (row_there id rows)
  where
    by_test : (b : Bool) → has_row id rows ≡ is_some (all_of id rows) → b || has_row id rows ≡ is_some (option_map (λ (x : Row). x.values) (cond b (Some r) (find (λ (x : Row). bytes_eq x.id id) rows)))
    by_test true e = refl
    by_test false e = e

pub without_none : (id : Text) (rows : List Row) → has_row id rows ≡ false → without id rows ≡ rows
without_none id [] e = refl
without_none id (r ∷ rows) e = by_test (bytes_eq r.id id) e (without_none id rows)
  where
    by_test : (b : Bool) → b || has_row id rows ≡ false → (has_row id rows ≡ false → without id rows ≡ rows) → (if b then [] ++ rows else r ∷ without id rows) ≡ r ∷ rows
    by_test true e f = absurd cc
    by_test false e f = ap (λ (rs : List Row). r ∷ rs) (f e)

abbrev values_in : Option Row → Option (List Text)
values_in = option_map (λ (r : Row). r.values)

-- what stands under an id after more values were put under another
pub put_values : (x id : Text) (how : Reading) (s : ValueSource) (vs : List Text) (rows : List Row)
    → all_of x (with_values id how s vs rows) ≡ (if bytes_eq id x then Some (unwrap_or (all_of id rows) [] ++ vs) else all_of x rows)
put_values x id how s vs [] = by_test (bytes_eq id x)
  where
    by_test : (b : Bool) → option_map (λ (r : Row). r.values) (cond b (Some (record { id = id; values = vs; count = None; source = Some s; reading = how })) None) ≡ (if b then Some ([] ++ vs) else None)
    by_test true = refl
    by_test false = refl
put_values x id how s vs (r ∷ rows) = by_id (bytes_eq r.id id) (bytes_eq r.id x) (bytes_eq id x) refl refl refl (put_values x id how s vs rows)
  where
    new : Row
    new = record { id = id; values = vs; count = None; source = Some s; reading = how }

    changed : Row
    changed = record r { values = r.values ++ vs; source = Some (stronger r.source s) }

    later : List Row
    later = with_values id how s vs rows

    by_id : (b c d : Bool) → bytes_eq r.id id ≡ b → bytes_eq r.id x ≡ c → bytes_eq id x ≡ d
        → all_of x (with_values id how s vs rows) ≡ (if d then Some (unwrap_or (all_of id rows) [] ++ vs) else all_of x rows)
        → values_in (find (λ (q : Row). bytes_eq q.id x) (if b then (record r { values = r.values ++ vs; source = Some (stronger r.source s) } ∷ []) ++ rows else r ∷ with_values id how s vs rows))
        ≡ (if d then Some (unwrap_or (values_in (cond b (Some r) (find (λ (q : Row). bytes_eq q.id id) rows))) [] ++ vs) else values_in (cond c (Some r) (find (λ (q : Row). bytes_eq q.id x) rows)))
    by_id true c d p q k e = both c d q (sym (subst (λ (t : Text). bytes_eq t x ≡ d) (sym (same_text r.id id p)) k) ∙ q)
      where
        both : (c d : Bool) → bytes_eq r.id x ≡ c → d ≡ c
            → values_in (cond (bytes_eq r.id x) (Some (record r { values = r.values ++ vs; source = Some (stronger r.source s) })) (find (λ (q : Row). bytes_eq q.id x) rows))
            ≡ (if d then Some (r.values ++ vs) else values_in (cond c (Some r) (find (λ (q : Row). bytes_eq q.id x) rows)))
        both true d q e = rw (q, e) refl
        both false d q e = rw (q, e) refl
    by_id false true true p q k e = let no = other_text r.id x id q p in let t = turned x id no in absurd cc
    by_id false true false p q k e = rw q refl
    by_id false false d p q k e = rw q e

-- ---- options that were given
first_some : Option Text → Option Text → Option Text
first_some None o = o
first_some (Some v) o = Some v

value_more : (os : List Given) (n v x : Text) → value_of (os ++ (n, v) ∷ []) x ≡ first_some (value_of os x) (if bytes_eq n x then Some v else None)
unfolding first_some
value_more [] n v x = by_test (bytes_eq n x)
  where
    by_test : (b : Bool) → option_map (λ (o : Given). o.1) (cond b (Some (n, v)) None) ≡ (if b then Some v else None)
    by_test true = refl
    by_test false = refl
value_more (o ∷ os) n v x = by_test (bytes_eq o.0 x) (value_more os n v x)
  where
    by_test : (b : Bool) → value_of (os ++ (n, v) ∷ []) x ≡ first_some (value_of os x) (if bytes_eq n x then Some v else None)
        → option_map (λ (o : Given). o.1) (cond b (Some o) (find (λ (o : Given). bytes_eq o.0 x) (os ++ (n, v) ∷ [])))
        ≡ first_some (option_map (λ (o : Given). o.1) (cond b (Some o) (find (λ (o : Given). bytes_eq o.0 x) os))) (if bytes_eq n x then Some v else None)
    by_test true e = refl
    by_test false e = e

-- the rows have the values of the options, and the files
pub record Clean (names : List Text) (rows : List Row) (os : List Given) (fs : List Text) : Type 0 where
  pub options : (x : Text) → is_among names x ≡ true → all_of x rows ≡ option_map (λ v. v ∷ []) (value_of os x)
  pub files : all_of file_id rows ≡ some_list fs

apart : (names : List Text) (x : Text) → is_among names file_id ≡ false → is_among names x ≡ true → bytes_eq x file_id ≡ false
apart names x f a = by_test (bytes_eq x file_id) refl
  where
    by_test : (b : Bool) → bytes_eq x file_id ≡ b → b ≡ false
    by_test true e = absurd (let t = subst (λ (t : Text). is_among names t ≡ true) (same_text x file_id e) a in cc)
    by_test false e = refl

pub clean_option : (names : List Text) (rows : List Row) (os : List Given) (fs : List Text) (name v : Text) (how : Reading) (s : ValueSource)
    → is_among names file_id ≡ false → is_among names name ≡ true → Clean names rows os fs → value_of os name ≡ None
    → Clean names (with_values name how s (v ∷ []) (without name rows)) (os ++ (name, v) ∷ []) fs
unfolding first_some
clean_option names rows os fs name v how s f a c none =
    let empty : all_of name rows ≡ None = c.options name a ∙ ap (option_map (λ v. v ∷ [])) none in
    let stays : without name rows ≡ rows = without_none name rows (row_there name rows ∙ ap is_some empty) in
    record {
      options = λ x b. ap (λ (rs : List Row). all_of x (with_values name how s (v ∷ []) rs)) stays ∙ put_values x name how s (v ∷ []) rows
          ∙ by_test x b (bytes_eq name x) refl empty;
      files = ap (λ (rs : List Row). all_of file_id (with_values name how s (v ∷ []) rs)) stays ∙ put_values file_id name how s (v ∷ []) rows
          ∙ ap (λ (b : Bool). if b then Some (unwrap_or (all_of name rows) [] ++ v ∷ []) else all_of file_id rows) (apart names name f a) ∙ c.files;
    }
  where
    by_test : (x : Text) → is_among names x ≡ true → (b : Bool) → bytes_eq name x ≡ b → all_of name rows ≡ None
        → (if b then Some (unwrap_or (all_of name rows) [] ++ v ∷ []) else all_of x rows) ≡ option_map (λ v. v ∷ []) (value_of (os ++ (name, v) ∷ []) x)
    by_test x b true e empty =
        let same = same_text name x e in
        let was : value_of os x ≡ None = subst (λ (t : Text). value_of os t ≡ None) same none in
        ap (λ (o : Option (List Text)). Some (unwrap_or o [] ++ v ∷ [])) empty
        ∙ sym (ap (option_map (λ v. v ∷ [])) (value_more os name v x ∙ ap (λ (o : Option Text). first_some o (if bytes_eq name x then Some v else None)) was ∙ ap (λ (t : Bool). if t then Some v else None) e))
    by_test x b false e empty =
        c.options x b
        ∙ sym (ap (option_map (λ v. v ∷ [])) (value_more os name v x ∙ ap (λ (t : Bool). first_some (value_of os x) (if t then Some v else None)) e ∙ same (value_of os x)))
      where
        same : (o : Option Text) → first_some o None ≡ o
        same None = refl
        same (Some t) = refl

pub clean_file : (names : List Text) (rows : List Row) (os : List Given) (fs : List Text) (word : Text) (how : Reading) (s : ValueSource)
    → is_among names file_id ≡ false → Clean names rows os fs → Clean names (with_values file_id how s (word ∷ []) rows) os (fs ++ word ∷ [])
clean_file names rows os fs word how s f c = record {
  options = λ x b. put_values x file_id how s (word ∷ []) rows
      ∙ ap (λ (t : Bool). if t then Some (unwrap_or (all_of file_id rows) [] ++ word ∷ []) else all_of x rows) (turned x file_id (apart names x f b)) ∙ c.options x b;
  files = put_values file_id file_id how s (word ∷ []) rows
      ∙ ap (λ (o : Option (List Text)). Some (unwrap_or o [] ++ word ∷ [])) c.files ∙ more fs;
}
  where
    more : (xs : List Text) → Some (unwrap_or (some_list xs) [] ++ word ∷ []) ≡ some_list (xs ++ word ∷ [])
    more [] = refl
    more (x ∷ xs) = refl
