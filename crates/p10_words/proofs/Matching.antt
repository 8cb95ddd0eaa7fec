-- What `clap` promises of a command with options and files.
use Rattle.std.proofs.Common.{◌≡◌, true, false, Bool, ap, sym, ◌∙◌, refl, subst, List, [], ◌∷◌, ◌++◌, map, Option, Some, None, is_some, inl, inr, Err}
use Rattle.std.specs.Prelude.{◌&&◌, ◌||◌, not, if◌then◌else◌, option_map, option_and_then, unwrap_or, slice_get, find, bytes_eq, codes, drop}
use Rattle.std.specs.List.{fold, list_any, list_all}
use Rattle.clap.specs.Lexer.{has_byte}
use Rattle.clap.specs.Walk.{Row, Rule, Text, idle, has_row, all_of, first_of, rows_of, settled, with_default, with_values, finished, walk, nothing_held, rows_after, is_empty}
use Rattle.clap.specs.Simple.{App, Shape, built, names_of, label_of, entered, matches_of, HasMatchesOf}
use Rattle.clap.specs.Takes.{is_given}
use Rattle.clap.specs.Kinds.{Kinds, or_else, HasKind, IsAmong as IsAmongKinds}
use Rattle.clap.specs.Values.{kind_of}
use Rattle.clap.specs.declared.error.Error.{Error}
use Rattle.clap.specs.declared.error.kind.ErrorKind.{ErrorKind}
use Rattle.p10_words.specs.declared.command.Usage.{Usage}
use Rattle.p10_words.specs.declared.command.Usage.TheVariants.{Refused, Memory}
use Rattle.clap.specs.Faults.{fault_of, built_fault, level_fault, entered_fault, defaults_fault, default_fault, given_default_fault, check_fault, settle_fault, walk_fault}
use Rattle.clap.specs.Matches.{found_of, first_value}
use Rattle.clap.proofs.WalkLemmas.{first_value-rows, raw_values-rows}
use Rattle.clap.specs.declared.parser.matches.ArgMatches.{ArgMatches}
use Rattle.clap.specs.declared.builder.value_parser.Reading.TheVariants.{AsWritten}
use Rattle.clap.specs.declared.parser.matches.ValueSource.TheVariants.{DefaultValue}
use Rattle.p10_words.specs.CommandLines.{is_flag, value_of}
use Rattle.p10_words.specs.private.Scanning.{Split, is_among}
use Rattle.p10_words.specs.private.Parsing.{file_id, rule_as, option_rule, files_rule, rules_of, IsAsked, are_askable, Reads, Matched, IsNoSplit, IsParse, IsUsage}
use Rattle.p10_words.proofs.Rows.{Clean, same_text, row_there, put_values}
use Rattle.p10_words.proofs.Walking.{at, asking, none}
use Rattle.p10_words.proofs.Verdicts.{end, total}
use Rattle.p10_words.proofs.Agreeing.{agrees}

-- ---- after the walk there are no faults, and a flag that isn't given is `false`
default_none : (rows : List Row) (name : Text) (flag : Bool) → default_fault rows (rule_as flag name) ≡ []
default_none rows name flag = by_row (has_row name rows) flag
  where
    by_row : (b flag : Bool) → (if b || is_empty (rule_as flag name).defaults then [] else given_default_fault (rule_as flag name) (rule_as flag name).defaults) ≡ []
    by_row true flag = refl
    by_row false true = refl
    by_row false false = refl

files_none : (rows : List Row) → default_fault rows files_rule ≡ []
files_none rows = by_row (has_row file_id rows)
  where
    by_row : (b : Bool) → (if b || true then [] else given_default_fault files_rule []) ≡ []
    by_row true = refl
    by_row false = refl

defaults_none : (names : List Text) (rows : List Row) → defaults_fault rows (rules_of names) ≡ []
unfolding defaults_fault
defaults_none [] rows = ap (λ (k : Kinds). or_else k []) (files_none rows)
defaults_none (n ∷ names) rows =
    ap (λ (k : Kinds). or_else k (defaults_fault (with_default rows (option_rule n)) (rules_of names))) (default_none rows n (is_flag n)) ∙ defaults_none names (with_default rows (option_rule n))

file_default : (rows : List Row) → with_default rows files_rule ≡ rows
file_default rows = by_row (has_row file_id rows)
  where
    by_row : (b : Bool) → (if b then rows else rows) ≡ rows
    by_row true = refl
    by_row false = refl

and_false : (b : Bool) → b && false ≡ false
and_false true = refl
and_false false = refl

-- what stands under an id, or what it has by default
or_default : Option (List Text) → Bool → Option (List Text)
or_default None b = if b then Some (codes "false" ∷ []) else None
or_default (Some vs) b = Some vs

no_default : (o : Option (List Text)) (b : Bool) → b ≡ false → or_default o b ≡ o
unfolding or_default
no_default None b e = rw e refl
no_default (Some vs) b e = refl

or_either : (o : Option (List Text)) (b c : Bool) → or_default (or_default o b) c ≡ or_default o (b || c)
unfolding or_default
or_either None true c = refl
or_either None false c = refl
or_either (Some vs) b c = refl

option_default : (x name : Text) (rows : List Row) (flag : Bool) → all_of x (with_default rows (rule_as flag name)) ≡ or_default (all_of x rows) (flag && bytes_eq name x)
unfolding or_default
option_default x name rows false = by_row (has_row name rows) ∙ sym (no_default (all_of x rows) false refl)
  where
    by_row : (b : Bool) → all_of x (if b then rows else rows) ≡ all_of x rows
    by_row true = refl
    by_row false = refl
option_default x name rows true = by_row (has_row name rows) (bytes_eq name x) refl refl
  where
    stays : (o : Option (List Text)) → is_some o ≡ true → o ≡ or_default o true
    stays None e = absurd cc
    stays (Some vs) e = refl

    new : (o : Option (List Text)) → is_some o ≡ false → Some (unwrap_or o [] ++ codes "false" ∷ []) ≡ or_default o true
    new None e = refl
    new (Some vs) e = absurd cc

    there : bytes_eq name x ≡ true → is_some (all_of x rows) ≡ has_row name rows
    there e = subst (λ (t : Text). is_some (all_of t rows) ≡ has_row name rows) (same_text name x e) (sym (row_there name rows))

    by_row : (b c : Bool) → has_row name rows ≡ b → bytes_eq name x ≡ c → all_of x (if b then rows else with_values name AsWritten DefaultValue (codes "false" ∷ []) rows) ≡ or_default (all_of x rows) c
    by_row true true e f = stays (all_of x rows) (there f ∙ e)
    by_row true false e f = sym (no_default (all_of x rows) false refl)
    by_row false false e f = put_values x name AsWritten DefaultValue (codes "false" ∷ []) rows
        ∙ ap (λ (t : Bool). if t then Some (unwrap_or (all_of name rows) [] ++ codes "false" ∷ []) else all_of x rows) f ∙ sym (no_default (all_of x rows) false refl)
    by_row false true e f = put_values x name AsWritten DefaultValue (codes "false" ∷ []) rows
        ∙ ap (λ (t : Bool). if t then Some (unwrap_or (all_of name rows) [] ++ codes "false" ∷ []) else all_of x rows) f
        ∙ ap (λ (t : Text). Some (unwrap_or (all_of t rows) [] ++ codes "false" ∷ [])) (same_text name x f) ∙ new (all_of x rows) (there f ∙ e)

-- the rows with the defaults of all options
by_default : (x : Text) (names : List Text) (rows : List Row) → all_of x (fold with_default rows (rules_of names)) ≡ or_default (all_of x rows) (is_flag x && is_among names x)
by_default x [] rows = ap (all_of x) (file_default rows) ∙ sym (no_default (all_of x rows) (is_flag x && false) (and_false (is_flag x)))
by_default x (n ∷ names) rows =
    by_default x names (with_default rows (option_rule n))
    ∙ ap (λ (o : Option (List Text)). or_default o (is_flag x && is_among names x)) (option_default x n rows (is_flag n))
    ∙ or_either (all_of x rows) (is_flag n && bytes_eq n x) (is_flag x && is_among names x)
    ∙ ap (or_default (all_of x rows)) (joined (bytes_eq n x) refl)
  where
    joined : (b : Bool) → bytes_eq n x ≡ b → (is_flag n && bytes_eq n x) || (is_flag x && is_among names x) ≡ is_flag x && (bytes_eq n x || is_among names x)
    joined true e = rw (e, ap is_flag (same_text n x e)) (both (is_flag x) (is_among names x))
      where
        both : (b c : Bool) → (b && true) || (b && c) ≡ b && (true || c)
        both true c = refl
        both false c = refl
    joined false e = rw e (first (is_flag n) (is_flag x && is_among names x))
      where
        first : (b c : Bool) → (b && false) || c ≡ c
        first true c = refl
        first false c = refl

none_required : (names : List Text) (rows : List Row) → list_any (λ (a : Rule). a.required && not (is_given a.id rows)) (rules_of names) ≡ false
none_required [] rows = refl
none_required (n ∷ names) rows = none_required names rows

-- ---- the faults are those of the walk
level_is : (s : Shape) (names words : List Text) → s.arg_required_else_help ≡ false → s.subcommand_required ≡ false
    → level_fault (asking s names) none nothing_held words false [] ≡ total s names (at [] None idle false) words
unfolding total end
level_is s names words h r =
    ap (or_else (walk_fault (asking s names) none (at [] None idle false) words))
    (ap (or_else (settle_fault (rules_of names) false (walk (rules_of names) none nothing_held words).held))
    (ap (λ (k : Kinds). or_else k (check_fault (asking s names) (finished (rules_of names) (walk (rules_of names) none nothing_held words).held) false)) (defaults_none names _) ∙ checks)
    ∙ or_nothing _)
  where
    or_nothing : (k : Kinds) → or_else k [] ≡ k
    or_nothing [] = refl
    or_nothing (x ∷ xs) = refl

    rows : List Row
    rows = finished (rules_of names) (walk (rules_of names) none nothing_held words).held

    checks : check_fault (asking s names) (finished (rules_of names) (walk (rules_of names) none nothing_held words).held) false ≡ []
    checks = rw (h, r, none_required names (finished (rules_of names) (walk (rules_of names) none nothing_held words).held), and_false (not (s.subcommand_negates_reqs && false))) refl

no_sub : (a : App) (words : List Text) (stop : Option (Text × List Text)) → a.subs ≡ [] → (is_some (entered a stop) ≡ false) × (entered_fault a stop ≡ [])
no_sub a words None e = (refl, refl)
no_sub a words (Some p) e = rw e (refl, refl)

as_asked : (s : Shape) (names : List Text) → s.rules ≡ rules_of names → s.args_override_self ≡ false → s ≡ asking s names
as_asked s names e f = ap (λ (r : List Rule). record s { rules = r }) e ∙ ap (λ (o : Bool). record s { rules = rules_of names; args_override_self = o }) f

built_is : (b : App) (names words : List Text) → b.subs ≡ [] → b.top.rules ≡ rules_of names → b.top.args_override_self ≡ false → b.top.arg_required_else_help ≡ false → b.top.subcommand_required ≡ false
    → built_fault b nothing_held words ≡ total b.top names (at [] None idle false) words
built_is b names words e r o h q =
    let stop = (walk b.top.rules (names_of b) nothing_held words).stopped in
    let n = no_sub b words stop e in
    ap (λ (k : Kinds). level_fault b.top (names_of b) nothing_held words (is_some (entered b stop)) k) n.1
    ∙ ap (λ (t : Bool). level_fault b.top (names_of b) nothing_held words t []) n.0
    ∙ ap (λ (xs : List Shape). level_fault b.top (map label_of xs) nothing_held words false []) e
    ∙ ap (λ (s : Shape). level_fault s none nothing_held words false []) (as_asked b.top names r o)
    ∙ level_is b.top names words h q

faults_are : (a : App) (names words : List Text) → IsAsked a names → fault_of a words ≡ total (built a).top names (at [] None idle false) words
faults_are a names words i =
    ap (λ (b : Bool). built_fault (built a) nothing_held (if b then words else drop 1 words)) i.no_binary_name
    ∙ built_is (built a) names words i.subs i.rules i.overrides i.wants_help i.wants_subcommand

-- ---- the matches are the rows of the walk
rows_built : (b : App) (names words : List Text) → b.subs ≡ [] → b.top.rules ≡ rules_of names
    → rows_after b.top.rules (names_of b) words ≡ finished (rules_of names) (walk (rules_of names) none nothing_held words).held
rows_built b names words e r =
    ap (λ (xs : List Shape). rows_after b.top.rules (map label_of xs) words) e ∙ ap (λ (c : List Rule). rows_after c none words) r

matches_are : (a : App) (names words : List Text) → IsAsked a names → matches_of a words ≡ finished (rules_of names) (end names (at [] None idle false) words)
unfolding end
matches_are a names words i =
    ap (λ (b : Bool). rows_after (built a).top.rules (names_of (built a)) (if b then words else drop 1 words)) i.no_binary_name
    ∙ rows_built (built a) names words i.subs i.rules

-- ---- what the getters give
first_is : (id : Text) (rows : List Row) → first_of id rows ≡ option_and_then (λ vs. slice_get vs 0) (all_of id rows)
first_is id rows = given (find (λ (r : Row). bytes_eq r.id id) rows)
  where
    given : (o : Option Row) → option_and_then (λ (r : Row). slice_get r.values 0) o ≡ option_and_then (λ vs. slice_get vs 0) (option_map (λ (r : Row). r.values) o)
    given None = refl
    given (Some r) = refl

one_value : (o : Option Text) → option_and_then (λ vs. slice_get vs 0) (option_map (λ v. v ∷ []) o) ≡ o
one_value None = refl
one_value (Some v) = refl

a_default : (o : Option Text) → option_and_then (λ vs. slice_get vs 0) (or_default (option_map (λ v. v ∷ []) o) true) ≡ Some (unwrap_or o (codes "false"))
unfolding or_default
a_default None = refl
a_default (Some v) = refl

reads : (names : List Text) (m : ArgMatches) (rows : List Row) (s : Split) → is_among names file_id ≡ false → rows_of (found_of m) ≡ fold with_default rows (rules_of names) → Clean names rows s.options s.files
    → Reads names m s
reads names m rows s f e c = record {
  options = λ name a g. value name ∙ ap (option_and_then (λ vs. slice_get vs 0)) (no_default (all_of name rows) (is_flag name && is_among names name) (ap (λ (b : Bool). b && is_among names name) g) ∙ c.options name a)
      ∙ one_value (value_of s.options name);
  flags = λ name a g. value name
      ∙ ap (option_and_then (λ vs. slice_get vs 0)) (ap (λ (b : Bool). or_default (all_of name rows) (b && is_among names name)) g ∙ ap (or_default (all_of name rows)) a ∙ ap (λ (o : Option (List Text)). or_default o true) (c.options name a))
      ∙ a_default (value_of s.options name);
  files = raw_values-rows (found_of m) file_id ∙ ap (all_of file_id) e ∙ by_default file_id names rows
      ∙ no_default (all_of file_id rows) (is_flag file_id && is_among names file_id) (ap (λ (b : Bool). is_flag file_id && b) f ∙ and_false (is_flag file_id)) ∙ c.files;
}
  where
    value : (name : Text) → first_value (found_of m) name ≡ option_and_then (λ vs. slice_get vs 0) (or_default (all_of name rows) (is_flag name && is_among names name))
    value name = first_value-rows (found_of m) name ∙ ap (first_of name) e ∙ first_is name (fold with_default rows (rules_of names)) ∙ ap (option_and_then (λ vs. slice_get vs 0)) (by_default name names rows)

-- no name of an option is that of the files
apart : (names : List Text) → are_askable names ≡ true → is_among names file_id ≡ false
apart names e = both (list_all (λ name. not (is_empty name) && not (has_byte 61 name)) names) (is_among names file_id) e
  where
    both : (b c : Bool) → b && not c ≡ true → c ≡ false
    both true false e = refl
    both true true e = absurd cc
    both false c e = absurd cc

pub ok_matches : (a : App) (names words : List Text) (m : ArgMatches) → IsAsked a names → are_askable names ≡ true → fault_of a words ≡ [] → HasMatchesOf a words m → Matched names words m
ok_matches a names words m i k f h =
    let v = agrees (built a).top names words (apart names k) in
    let fine = v.ok (sym (faults_are a names words i) ∙ f) in
    record {
      split = fine.split;
      scanned = fine.is;
      once = fine.once;
      reads = reads names m _ fine.split (apart names k) ((h i.simple).0 ∙ matches_are a names words i) fine.clean;
    }

pub err_matches : (a : App) (names words : List Text) → IsAsked a names → are_askable names ≡ true → (fault_of a words ≡ [] → ⊥) → IsNoSplit names words
err_matches a names words i k f s e o n =
    let v = agrees (built a).top names words (apart names k) in
    f (faults_are a names words i ∙ v.no s e o n)

pub err_parse : (a : App) (names words : List Text) (k : ErrorKind) (e : Error) (u : Usage) → IsAsked a names → are_askable names ≡ true → IsUsage k u → k ≡ kind_of e
    → HasKind (fault_of a words) e → IsParse names words (Err u)
err_parse a names words k e Memory i q u s h = tt
err_parse a names words k e Refused i q u s h = err_matches a names words i q (λ f. elim h [ inl m ↦ u (s ∙ m) | inr m ↦ subst (λ (ks : Kinds). IsAmongKinds (kind_of e) ks) f m ])
