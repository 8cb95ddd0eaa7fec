-- The values that are read of a literal's characters are theirs, and are read.
use Rattle.std.proofs.Common.{◌≡◌, ◌≢◌, ℕ, zero, suc, ◌+◌, ◌-◌, ◌*◌, ◌<◌, ◌≤◌, [], ◌∷◌, ◌++◌, length, refl, sym, ◌∙◌, ap, subst, arith, Bool, true, false, ◌⊎◌, inl, inr}
use Rattle.std.specs.Prelude.{◌==◌, nat_lt, ◌&&◌, Option, Some, None, is_some, option_map, option_and_then}
use Rattle.std.specs.List.{list_all}
use Rattle.std.proofs.lemmas.Bool.Decides.{nat_tests}
use Rattle.p10_base.specs.Words.{Text}
use Rattle.p10_lex.specs.declared.characters.Mode.{Mode}
use Rattle.p10_lex.specs.declared.characters.Mode.TheVariants.{Plain, Escape, Octal, HexadecimalStart, Hexadecimal}
use Rattle.p10_lex.specs.declared.characters.Step.{Step}
use Rattle.p10_lex.specs.declared.characters.Step.TheVariants.{On, Ends, Wrong}
use Rattle.p10_lex.specs.Bytes.{is_digit, is_octal, is_hexadecimal, digit_value}
use Rattle.p10_lex.specs.Splices.{joined}
use Rattle.p10_lex.specs.Integers.{value_from, value_of}
use Rattle.p10_lex.specs.Characters.{simple_escape, begins_with, IsEscape, simple, octal, hexadecimal, Characters, none, plain, escape, is_allowed}
use Rattle.p10_lex.specs.Literals.{begin_character, begun, add_octal, add_hexadecimal, begin_escape, read_byte, last_values, stepped, values_from, values_of, one_of}
use Rattle.p10_lex.specs.private.Scanning.{is_quoted_constant}
use Rattle.p10_lex.proofs.Classes.{decide, and_both, both_and, same_number, number_same, other_number}
use Rattle.p10_lex.proofs.SpliceLaws.{is_either}
use Rattle.p10_lex.proofs.Digits.{below, is_below, value_grows}

-- ## What a mode expects

-- an escape's body, and characters
record FollowsEscape (quote : ℕ) (text values : Text) : Type 0 where
  body : Text
  rest : Text
  value : ℕ
  others : Text
  parts : text ≡ body ++ rest
  is_escape : IsEscape rest value body
  characters : Characters (is_allowed quote) rest others
  are : values ≡ value ∷ others

-- the end of a character of this value, and characters
record FollowsValue (quote value : ℕ) (text values : Text) : Type 0 where
  others : Text
  characters : Characters (is_allowed quote) text others
  are : values ≡ value ∷ others

-- the other digits of an octal escape
record FollowsOctal (quote left value : ℕ) (text values : Text) : Type 0 where
  more : Text
  rest : Text
  others : Text
  parts : text ≡ more ++ rest
  digits : list_all is_octal more ≡ true
  short : length more ≤ left
  stop : (length more ≡ left) ⊎ (begins_with is_octal rest ≡ false)
  small : value_from 8 value more ≤ 255
  characters : Characters (is_allowed quote) rest others
  are : values ≡ value_from 8 value more ∷ others

-- the other digits of a hexadecimal escape
record FollowsHexadecimal (quote value : ℕ) (text values : Text) : Type 0 where
  more : Text
  rest : Text
  others : Text
  parts : text ≡ more ++ rest
  digits : list_all is_hexadecimal more ≡ true
  stop : begins_with is_hexadecimal rest ≡ false
  small : value_from 16 value more ≤ 255
  characters : Characters (is_allowed quote) rest others
  are : values ≡ value_from 16 value more ∷ others

-- the digits of a hexadecimal escape
record FollowsStart (quote : ℕ) (text values : Text) : Type 0 where
  first : ℕ
  more : Text
  rest : Text
  others : Text
  parts : text ≡ first ∷ (more ++ rest)
  digits : list_all is_hexadecimal (first ∷ more) ≡ true
  stop : begins_with is_hexadecimal rest ≡ false
  small : value_of 16 (first ∷ more) ≤ 255
  characters : Characters (is_allowed quote) rest others
  are : values ≡ value_of 16 (first ∷ more) ∷ others

-- what a mode expects of the text after it, whose characters have these values, with the one that is open
abbrev Follows : ℕ → Mode → Text → Text → Type 0
Follows quote (Plain None) text values = Characters (is_allowed quote) text values
Follows quote (Plain (Some value)) text values = FollowsValue quote value text values
Follows quote Escape text values = FollowsEscape quote text values
Follows quote (Octal left value) text values = value ≤ 255 → FollowsOctal quote left value text values
Follows quote HexadecimalStart text values = FollowsStart quote text values
Follows quote (Hexadecimal value) text values = value ≤ 255 → FollowsHexadecimal quote value text values

-- ## Small facts

-- a text does not begin with a byte that does not pass
begins_false : (test : ℕ → Bool) (c : ℕ) (t : Text) → test c ≡ false → begins_with test (c ∷ t) ≡ false
unfolding begins_with
begins_false test c t e = e

-- nor does the empty text
begins_nil : (test : ℕ → Bool) → begins_with test [] ≡ false
unfolding begins_with
begins_nil test = refl

-- the value of one octal digit
octal_small : (c : ℕ) → is_octal c ≡ true → digit_value c ≤ 255
unfolding is_octal digit_value
octal_small c e = grind (arith, nat_tests)

-- the value of one hexadecimal digit
hexadecimal_small : (c : ℕ) → is_hexadecimal c ≡ true → digit_value c ≤ 255
unfolding is_hexadecimal digit_value is_digit
hexadecimal_small c e = grind (arith, nat_tests)

-- the value of digits, by that of the first
first_value : (radix c : ℕ) (more : Text) → value_of radix (c ∷ more) ≡ value_from radix (digit_value c) more
unfolding value_from
first_value radix c more = let e : 0 * radix + digit_value c ≡ digit_value c = omega arith in ap (λ (x : ℕ). value_from radix x more) e

-- no digit may be added
no_room : (left c : ℕ) → (nat_lt 0 left && is_octal c) ≡ false → is_octal c ≡ true → 0 ≡ left
no_room zero c e h = refl
no_room (suc left) c e h = absurd (let f = is_below 0 (suc left) (omega arith) in let g = both_and _ _ f h in cc)

-- an octal digit is no escape of one byte
octal_not_simple : (c : ℕ) → is_octal c ≡ true → simple_escape c ≡ None
unfolding simple_escape is_octal
octal_not_simple c h =
    let low : 48 ≤ c = grind (arith, nat_tests) in
    let high : c ≤ 55 = grind (arith, nat_tests) in
    rw (
      other_number c 39 (λ e. omega (arith, e, low)),
      other_number c 34 (λ e. omega (arith, e, low)),
      other_number c 63 (λ e. omega (arith, e, high)),
      other_number c 92 (λ e. omega (arith, e, high)),
      other_number c 97 (λ e. omega (arith, e, high)),
      other_number c 98 (λ e. omega (arith, e, high)),
      other_number c 116 (λ e. omega (arith, e, high)),
      other_number c 110 (λ e. omega (arith, e, high)),
      other_number c 118 (λ e. omega (arith, e, high)),
      other_number c 102 (λ e. omega (arith, e, high)),
      other_number c 114 (λ e. omega (arith, e, high)),
    ) refl

-- the values after one that ended, and that one
ended_values : (value : ℕ) (o : Option Text) (values : Text) → option_map (λ others. value ∷ others) o ≡ Some values → (others : Text) × (o ≡ Some others) × (values ≡ value ∷ others)
ended_values value None values e = absurd (cc)
ended_values value (Some others) values e = let h : value ∷ others ≡ values = cc in (others, refl, sym h)

-- ## What is read is there

-- a character begins at the first byte
begins_one : (quote c : ℕ) (t values : Text) (mode : Mode) → begin_character quote c ≡ Some mode → Follows quote mode t values → Characters (is_allowed quote) (c ∷ t) values
unfolding begin_character
begins_one quote c t values mode e follows =
    decide (λ (o : Option Mode). o ≡ Some mode → Characters (is_allowed quote) (c ∷ t) values) (c == 92) _ _
    (λ h f. let is : Escape ≡ mode = cc in by_escape (same_number c 92 h) (subst (λ (m : Mode). Follows quote m t values) (sym is) follows))
    (λ h f. decide (λ (o : Option Mode). o ≡ Some mode → Characters (is_allowed quote) (c ∷ t) values) (is_allowed quote c) _ _
    (λ k g. let is : Plain (Some c) ≡ mode = cc in by_plain (λ x. let y = number_same c 92 x in cc) k (subst (λ (m : Mode). Follows quote m t values) (sym is) follows))
    (λ k g. absurd (cc)) f)
    e
  where
    by_escape : c ≡ 92 → FollowsEscape quote t values → Characters (is_allowed quote) (c ∷ t) values
    by_escape is f =
        subst (λ (vs : Text). Characters (is_allowed quote) (c ∷ t) vs) (sym f.are)
        (subst (λ (k : ℕ). Characters (is_allowed quote) (k ∷ t) (f.value ∷ f.others)) (sym is) (escape f.value f.body f.rest t f.others f.is_escape f.parts f.characters))

    by_plain : c ≢ 92 → is_allowed quote c ≡ true → FollowsValue quote c t values → Characters (is_allowed quote) (c ∷ t) values
    by_plain other allowed f = subst (λ (vs : Text). Characters (is_allowed quote) (c ∷ t) vs) (sym f.are) (plain c t f.others other allowed f.characters)

-- values of a text whose first byte begins a character after one of this value, if there is one
abbrev BeginsAfter : ℕ → Option ℕ → Text → Text → Type 0
BeginsAfter quote None text values = Characters (is_allowed quote) text values
BeginsAfter quote (Some value) text values = FollowsValue quote value text values

-- what follows a step, and its values
abbrev FollowsStep : ℕ → Step → Text → Text → Type 0
FollowsStep quote (On mode) text values = Follows quote mode text values
FollowsStep quote (Ends value mode) text values = (others : Text) × (values ≡ value ∷ others) × Follows quote mode text others
FollowsStep quote Wrong text values = ⊥

begins_after : (quote : ℕ) (value : Option ℕ) (c : ℕ) (t values : Text) → FollowsStep quote (begun value (begin_character quote c)) t values → BeginsAfter quote value (c ∷ t) values
begins_after quote value c t values follows = by value (begin_character quote c) refl follows
  where
    by : (value : Option ℕ) (mode : Option Mode) → begin_character quote c ≡ mode → FollowsStep quote (begun value mode) t values → BeginsAfter quote value (c ∷ t) values
    by None None e f = absurd f
    by (Some v) None e f = absurd f
    by None (Some mode) e f = begins_one quote c t values mode e f
    by (Some v) (Some mode) e (others, are, f) = record { others = others; characters = begins_one quote c t others mode e f; are = are }

-- the byte after a backslash
takes_escape : (quote c : ℕ) (t values : Text) → FollowsStep quote (read_byte quote Escape c) t values → FollowsEscape quote (c ∷ t) values
unfolding read_byte begin_escape
takes_escape quote c t values follows = by (simple_escape c) refl follows
  where
    by : (found : Option ℕ) → simple_escape c ≡ found → FollowsStep quote (begin_escape found c) t values → FollowsEscape quote (c ∷ t) values
    by (Some value) e f = record { body = c ∷ []; rest = t; value = value; others = f.others; parts = refl; is_escape = simple c e; characters = f.characters; are = f.are }
    by None e follows =
        decide (λ (s : Step). FollowsStep quote s t values → FollowsEscape quote (c ∷ t) values) (is_octal c) _ _
        (λ k f.
        let g : FollowsOctal quote 2 (digit_value c) t values = f (octal_small c k) in
        let same = first_value 8 c g.more in
        record {
          body = c ∷ g.more;
          rest = g.rest;
          value = value_from 8 (digit_value c) g.more;
          others = g.others;
          parts = ap (λ (x : Text). c ∷ x) g.parts;
          is_escape = octal c g.more (both_and _ _ k g.digits) g.short g.stop same g.small;
          characters = g.characters;
          are = g.are;
        })
        (λ k. decide (λ (s : Step). FollowsStep quote s t values → FollowsEscape quote (c ∷ t) values) (c == 120) _ _
        (λ l f. record {
          body = 120 ∷ (f.first ∷ f.more);
          rest = f.rest;
          value = value_of 16 (f.first ∷ f.more);
          others = f.others;
          parts = ap (λ (x : ℕ). x ∷ t) (same_number c 120 l) ∙ ap (λ (x : Text). 120 ∷ x) f.parts;
          is_escape = hexadecimal f.first f.more f.digits f.stop refl f.small;
          characters = f.characters;
          are = f.are;
        })
        (λ l f. absurd f))
        follows

-- a byte after octal digits
takes_octal : (quote left value c : ℕ) (t values : Text) → FollowsStep quote (read_byte quote (Octal left value) c) t values → value ≤ 255 → FollowsOctal quote left value (c ∷ t) values
unfolding read_byte add_octal value_from
takes_octal quote left value c t values follows most =
    decide (λ (s : Step). FollowsStep quote s t values → FollowsOctal quote left value (c ∷ t) values) (nat_lt 0 left && is_octal c) _ _
    (λ h f.
    let (some, digit) = and_both (nat_lt 0 left) (is_octal c) h in
    let room : 0 < left = below 0 left some in
    decide (λ (s : Step). FollowsStep quote s t values → FollowsOctal quote left value (c ∷ t) values) (nat_lt (value * 8 + digit_value c) 256) _ _
    (λ k l.
    let fit : value * 8 + digit_value c < 256 = below _ _ k in
    let g : FollowsOctal quote (left - 1) (value * 8 + digit_value c) t values = l (omega arith) in
    let g_short = g.short in
    record {
      more = c ∷ g.more;
      rest = g.rest;
      others = g.others;
      parts = ap (λ (x : Text). c ∷ x) g.parts;
      digits = both_and _ _ digit g.digits;
      short = omega arith;
      stop = elim g.stop [ inl x ↦ inl (omega arith) | inr x ↦ inr x ];
      small = g.small;
      characters = g.characters;
      are = g.are;
    })
    (λ k l. absurd l) f)
    (λ h f.
    let g : FollowsValue quote value (c ∷ t) values = begins_after quote (Some value) c t values f in
    record {
      more = [];
      rest = c ∷ t;
      others = g.others;
      parts = refl;
      digits = refl;
      short = omega arith;
      small = most;
      stop = elim (is_either (is_octal c)) [ inl x ↦ inl (no_room left c h x) | inr x ↦ inr (begins_false is_octal c t x) ];
      characters = g.characters;
      are = g.are;
    })
    follows

-- the byte after `\x`
takes_start : (quote c : ℕ) (t values : Text) → FollowsStep quote (read_byte quote HexadecimalStart c) t values → FollowsStart quote (c ∷ t) values
unfolding read_byte
takes_start quote c t values follows =
    decide (λ (s : Step). FollowsStep quote s t values → FollowsStart quote (c ∷ t) values) (is_hexadecimal c) _ _
    (λ h f.
    let g : FollowsHexadecimal quote (digit_value c) t values = f (hexadecimal_small c h) in
    let same = first_value 16 c g.more in
    record {
      first = c;
      more = g.more;
      rest = g.rest;
      others = g.others;
      parts = ap (λ (x : Text). c ∷ x) g.parts;
      digits = both_and _ _ h g.digits;
      stop = g.stop;
      small = subst (λ (x : ℕ). x ≤ 255) (sym same) g.small;
      characters = g.characters;
      are = g.are ∙ ap (λ (x : ℕ). x ∷ g.others) (sym same);
    })
    (λ h f. absurd f) follows

-- a byte after hexadecimal digits
takes_hexadecimal : (quote value c : ℕ) (t values : Text) → FollowsStep quote (read_byte quote (Hexadecimal value) c) t values → value ≤ 255 → FollowsHexadecimal quote value (c ∷ t) values
unfolding read_byte add_hexadecimal value_from
takes_hexadecimal quote value c t values follows most =
    decide (λ (s : Step). FollowsStep quote s t values → FollowsHexadecimal quote value (c ∷ t) values) (is_hexadecimal c) _ _
    (λ h f.
    decide (λ (s : Step). FollowsStep quote s t values → FollowsHexadecimal quote value (c ∷ t) values) (nat_lt (value * 16 + digit_value c) 256) _ _
    (λ k l.
    let fit : value * 16 + digit_value c < 256 = below _ _ k in
    let g : FollowsHexadecimal quote (value * 16 + digit_value c) t values = l (omega arith) in
    record {
      more = c ∷ g.more;
      rest = g.rest;
      others = g.others;
      parts = ap (λ (x : Text). c ∷ x) g.parts;
      digits = both_and _ _ h g.digits;
      stop = g.stop;
      small = g.small;
      characters = g.characters;
      are = g.are;
    })
    (λ k l. absurd l) f)
    (λ h f.
    let g : FollowsValue quote value (c ∷ t) values = begins_after quote (Some value) c t values f in
    record {
      more = [];
      rest = c ∷ t;
      others = g.others;
      parts = refl;
      digits = refl;
      small = most;
      stop = begins_false is_hexadecimal c t h;
      characters = g.characters;
      are = g.are;
    })
    follows

-- one byte in any mode
takes_step : (quote c : ℕ) (t : Text) (mode : Mode) (values : Text) → FollowsStep quote (read_byte quote mode c) t values → Follows quote mode (c ∷ t) values
unfolding read_byte
takes_step quote c t (Plain None) values follows = begins_after quote None c t values follows
takes_step quote c t (Plain (Some value)) values follows = begins_after quote (Some value) c t values follows
takes_step quote c t Escape values follows = takes_escape quote c t values follows
takes_step quote c t (Octal left value) values follows = takes_octal quote left value c t values follows
takes_step quote c t HexadecimalStart values follows = takes_start quote c t values follows
takes_step quote c t (Hexadecimal value) values follows = takes_hexadecimal quote value c t values follows

-- a text may end here
takes_end : (quote : ℕ) (mode : Mode) (values : Text) → last_values mode ≡ Some values → Follows quote mode [] values
unfolding last_values value_from
takes_end quote (Plain None) values e = let h : [] ≡ values = cc in subst (λ (vs : Text). Characters (is_allowed quote) [] vs) h none
takes_end quote (Plain (Some value)) values e = let h : value ∷ [] ≡ values = cc in record { others = []; characters = none; are = sym h }
takes_end quote Escape values e = absurd (cc)
takes_end quote HexadecimalStart values e = absurd (cc)
takes_end quote (Octal left value) values e = λ small. let h : value ∷ [] ≡ values = cc in record {
  more = [];
  rest = [];
  others = [];
  parts = refl;
  digits = refl;
  short = omega arith;
  stop = inr (begins_nil is_octal);
  small = small;
  characters = none;
  are = sym h;
}
takes_end quote (Hexadecimal value) values e = λ small. let h : value ∷ [] ≡ values = cc in record {
  more = [];
  rest = [];
  others = [];
  parts = refl;
  digits = refl;
  stop = begins_nil is_hexadecimal;
  small = small;
  characters = none;
  are = sym h;
}

takes_stepped : (quote : ℕ) (t : Text) (step : Step) (values : Text) → ((mode : Mode) (others : Text) → values_from quote mode t ≡ Some others → Follows quote mode t others)
    → stepped step (λ next. values_from quote next t) ≡ Some values → FollowsStep quote step t values
takes_stepped quote t (On mode) values rest e = rest mode values e
takes_stepped quote t (Ends value mode) values rest e =
    let ended = ended_values value (values_from quote mode t) values e in (ended.0, ended.2, rest mode ended.0 ended.1)
takes_stepped quote t Wrong values rest e = absurd (cc)

-- what a reading of the bytes found is there
takes : (quote : ℕ) (text : Text) (mode : Mode) (values : Text) → values_from quote mode text ≡ Some values → Follows quote mode text values
unfolding values_from
takes quote [] mode values e = takes_end quote mode values e
takes quote (c ∷ t) mode values e = takes_step quote c t mode values (takes_stepped quote t (read_byte quote mode c) values (λ m others is. takes quote t m others is) e)

-- ## What is there is read

-- a step that goes on
goes_on : (quote : ℕ) (mode next : Mode) (c : ℕ) (t values : Text) → read_byte quote mode c ≡ On next → values_from quote next t ≡ Some values → values_from quote mode (c ∷ t) ≡ Some values
unfolding values_from
goes_on quote mode next c t values read rest = ap (λ (s : Step). stepped s (λ m. values_from quote m t)) read ∙ rest

-- a character that is over, before what begins others
over : (value : ℕ) (mode : Option Mode) (f : Mode → Option Text) (others : Text) → stepped (begun None mode) f ≡ Some others → stepped (begun (Some value) mode) f ≡ Some (value ∷ others)
over value None f others e = absurd (cc)
over value (Some mode) f others e = ap (option_map (λ vs. value ∷ vs)) e

-- a mode with a whole character, before others
done_then : (quote value : ℕ) (mode : Mode) (c : ℕ) (t others : Text) → read_byte quote mode c ≡ begun (Some value) (begin_character quote c)
    → values_from quote (Plain None) (c ∷ t) ≡ Some others → values_from quote mode (c ∷ t) ≡ Some (value ∷ others)
unfolding values_from read_byte
done_then quote value mode c t others read e =
    ap (λ (s : Step). stepped s (λ m. values_from quote m t)) read ∙ over value (begin_character quote c) (λ m. values_from quote m t) others e

-- no characters have no values
no_values : (quote : ℕ) (others : Text) → values_from quote (Plain None) [] ≡ Some others → others ≡ []
unfolding values_from last_values
no_values quote others e = let h : [] ≡ others = cc in sym h

-- a whole character may end a literal
value_ends : (quote value : ℕ) → values_from quote (Plain (Some value)) [] ≡ Some (value ∷ [])
unfolding values_from last_values
value_ends quote value = refl

-- what a byte does after a whole character
after_value : (quote value c : ℕ) → read_byte quote (Plain (Some value)) c ≡ begun (Some value) (begin_character quote c)
unfolding read_byte
after_value quote value c = refl

-- where others follow, a mode with a whole character that may end there gives that one before them
ends_before : (quote value : ℕ) (mode : Mode) (others : Text) → values_from quote mode [] ≡ Some (value ∷ []) → values_from quote (Plain None) [] ≡ Some others → values_from quote mode [] ≡ Some (value ∷ others)
ends_before quote value mode others ends e = ends ∙ ap (λ (vs : Text). let o : Option Text = Some (value ∷ vs) in o) (sym (no_values quote others e))

-- a character of one byte or of a simple escape is over
value_stops : (quote value : ℕ) (rest others : Text) → values_from quote (Plain None) rest ≡ Some others → values_from quote (Plain (Some value)) rest ≡ Some (value ∷ others)
value_stops quote value [] others e = ends_before quote value (Plain (Some value)) others (value_ends quote value) e
value_stops quote value (c ∷ t) others e = done_then quote value (Plain (Some value)) c t others (after_value quote value c) e

-- an octal escape may end a literal
octal_ends : (quote left value : ℕ) → values_from quote (Octal left value) [] ≡ Some (value ∷ [])
unfolding values_from last_values
octal_ends quote left value = refl

-- a byte that goes on with no octal escape
octal_new : (quote left value c : ℕ) → (0 ≡ left) ⊎ (is_octal c ≡ false) → read_byte quote (Octal left value) c ≡ begun (Some value) (begin_character quote c)
unfolding read_byte
octal_new quote zero value c stop = refl
octal_new quote (suc left) value c (inl h) = absurd (omega arith)
octal_new quote (suc left) value c (inr h) = rw (is_below 0 (suc left) (omega arith), h) refl

-- a byte that goes on with one
octal_more : (quote left value c : ℕ) → 0 < left → is_octal c ≡ true → value * 8 + digit_value c < 256
    → read_byte quote (Octal left value) c ≡ On (Octal (left - 1) (value * 8 + digit_value c))
unfolding read_byte add_octal
octal_more quote left value c some digit fit = rw (is_below 0 left some, digit, is_below _ _ fit) refl

-- an octal escape is over
octal_stops : (quote left value : ℕ) (rest others : Text) → (0 ≡ left) ⊎ (begins_with is_octal rest ≡ false) → values_from quote (Plain None) rest ≡ Some others
    → values_from quote (Octal left value) rest ≡ Some (value ∷ others)
unfolding begins_with
octal_stops quote left value [] others stop e = ends_before quote value (Octal left value) others (octal_ends quote left value) e
octal_stops quote left value (c ∷ t) others stop e =
    done_then quote value (Octal left value) c t others (octal_new quote left value c (elim stop [ inl h ↦ inl h | inr h ↦ inr h ])) e

-- octal digits are read
again_octal : (quote left value : ℕ) (more rest others : Text) → list_all is_octal more ≡ true → length more ≤ left
    → (length more ≡ left) ⊎ (begins_with is_octal rest ≡ false) → value_from 8 value more ≤ 255 → values_from quote (Plain None) rest ≡ Some others
    → values_from quote (Octal left value) (more ++ rest) ≡ Some (value_from 8 value more ∷ others)
unfolding value_from
again_octal quote left value [] rest others all short stop small e = octal_stops quote left value rest others stop e
again_octal quote left value (c ∷ more) rest others all short stop small e =
    let (x, y) = and_both (is_octal c) (list_all is_octal more) all in
    let grows = value_grows 7 (value * 8 + digit_value c) more in
    let fit : value * 8 + digit_value c < 256 = omega arith in
    goes_on quote (Octal left value) (Octal (left - 1) (value * 8 + digit_value c)) c (more ++ rest) _ (octal_more quote left value c (omega arith) x fit)
    (again_octal quote (left - 1) (value * 8 + digit_value c) more rest others y (omega arith) (elim stop [ inl h ↦ inl (omega arith) | inr h ↦ inr h ]) small e)

-- a hexadecimal escape may end a literal
hexadecimal_ends : (quote value : ℕ) → values_from quote (Hexadecimal value) [] ≡ Some (value ∷ [])
unfolding values_from last_values
hexadecimal_ends quote value = refl

-- a byte that goes on with no hexadecimal escape
hexadecimal_new : (quote value c : ℕ) → is_hexadecimal c ≡ false → read_byte quote (Hexadecimal value) c ≡ begun (Some value) (begin_character quote c)
unfolding read_byte
hexadecimal_new quote value c h = rw h refl

-- a byte that goes on with one
hexadecimal_more : (quote value c : ℕ) → is_hexadecimal c ≡ true → value * 16 + digit_value c < 256
    → read_byte quote (Hexadecimal value) c ≡ On (Hexadecimal (value * 16 + digit_value c))
unfolding read_byte add_hexadecimal
hexadecimal_more quote value c digit fit = rw (digit, is_below _ _ fit) refl

-- a hexadecimal escape is over
hexadecimal_stops : (quote value : ℕ) (rest others : Text) → begins_with is_hexadecimal rest ≡ false → values_from quote (Plain None) rest ≡ Some others
    → values_from quote (Hexadecimal value) rest ≡ Some (value ∷ others)
unfolding begins_with
hexadecimal_stops quote value [] others stop e = ends_before quote value (Hexadecimal value) others (hexadecimal_ends quote value) e
hexadecimal_stops quote value (c ∷ t) others stop e = done_then quote value (Hexadecimal value) c t others (hexadecimal_new quote value c stop) e

-- hexadecimal digits are read
again_hexadecimal : (quote value : ℕ) (more rest others : Text) → list_all is_hexadecimal more ≡ true
    → begins_with is_hexadecimal rest ≡ false → value_from 16 value more ≤ 255 → values_from quote (Plain None) rest ≡ Some others
    → values_from quote (Hexadecimal value) (more ++ rest) ≡ Some (value_from 16 value more ∷ others)
unfolding value_from
again_hexadecimal quote value [] rest others all stop small e = hexadecimal_stops quote value rest others stop e
again_hexadecimal quote value (c ∷ more) rest others all stop small e =
    let (x, y) = and_both (is_hexadecimal c) (list_all is_hexadecimal more) all in
    let grows = value_grows 15 (value * 16 + digit_value c) more in
    let fit : value * 16 + digit_value c < 256 = omega arith in
    goes_on quote (Hexadecimal value) (Hexadecimal (value * 16 + digit_value c)) c (more ++ rest) _ (hexadecimal_more quote value c x fit)
    (again_hexadecimal quote (value * 16 + digit_value c) more rest others y stop small e)

-- an escape of one byte
escape_simple : (quote c value : ℕ) → simple_escape c ≡ Some value → read_byte quote Escape c ≡ On (Plain (Some value))
unfolding read_byte begin_escape
escape_simple quote c value e = ap (λ (o : Option ℕ). begin_escape o c) e

-- an octal digit after a backslash
escape_octal : (quote c : ℕ) → is_octal c ≡ true → read_byte quote Escape c ≡ On (Octal 2 (digit_value c))
unfolding read_byte begin_escape
escape_octal quote c h = ap (λ (o : Option ℕ). begin_escape o c) (octal_not_simple c h) ∙ octal_begins h
  where
    octal_begins : is_octal c ≡ true → begin_escape None c ≡ On (Octal 2 (digit_value c))
    octal_begins h = rw h refl

-- `x` after a backslash
escape_x : (quote : ℕ) → read_byte quote Escape 120 ≡ On HexadecimalStart
unfolding read_byte begin_escape simple_escape is_octal
escape_x quote = refl

-- a hexadecimal digit after `\x`
start_hexadecimal : (quote c : ℕ) → is_hexadecimal c ≡ true → read_byte quote HexadecimalStart c ≡ On (Hexadecimal (digit_value c))
unfolding read_byte
start_hexadecimal quote c h = rw h refl

-- a plain character
plain_read : (quote c : ℕ) → c ≢ 92 → is_allowed quote c ≡ true → read_byte quote (Plain None) c ≡ On (Plain (Some c))
unfolding read_byte begin_character
plain_read quote c ne allowed = rw (other_number c 92 ne, allowed) refl

-- a backslash
backslash_read : (quote : ℕ) → read_byte quote (Plain None) 92 ≡ On Escape
unfolding read_byte begin_character
backslash_read quote = refl

-- an escape is read
again_escape : (quote value : ℕ) (body rest others : Text) → IsEscape rest value body → values_from quote (Plain None) rest ≡ Some others
    → values_from quote Escape (body ++ rest) ≡ Some (value ∷ others)
again_escape quote value _ rest others (simple c h) e = goes_on quote Escape (Plain (Some value)) c rest _ (escape_simple quote c value h) (value_stops quote value rest others e)
again_escape quote value _ rest others (octal c more all short stop is small) e =
    let (x, y) = and_both (is_octal c) (list_all is_octal more) all in
    let same : value_from 8 (digit_value c) more ≡ value = sym (first_value 8 c more) ∙ is in
    let low : value_from 8 (digit_value c) more ≤ 255 = subst (λ (v : ℕ). v ≤ 255) (sym same) small in
    goes_on quote Escape (Octal 2 (digit_value c)) c (more ++ rest) _ (escape_octal quote c x)
    (again_octal quote 2 (digit_value c) more rest others y short stop low e ∙ ap (λ (v : ℕ). let o : Option Text = Some (v ∷ others) in o) same)
again_escape quote value _ rest others (hexadecimal c more all stop is small) e =
    let (x, y) = and_both (is_hexadecimal c) (list_all is_hexadecimal more) all in
    let same : value_from 16 (digit_value c) more ≡ value = sym (first_value 16 c more) ∙ is in
    let low : value_from 16 (digit_value c) more ≤ 255 = subst (λ (v : ℕ). v ≤ 255) (sym same) small in
    goes_on quote Escape HexadecimalStart 120 (c ∷ (more ++ rest)) _ (escape_x quote)
    (goes_on quote HexadecimalStart (Hexadecimal (digit_value c)) c (more ++ rest) _ (start_hexadecimal quote c x)
    (again_hexadecimal quote (digit_value c) more rest others y stop low e ∙ ap (λ (v : ℕ). let o : Option Text = Some (v ∷ others) in o) same))

-- no characters are read
none_read : (quote : ℕ) → values_from quote (Plain None) [] ≡ Some []
unfolding values_from last_values
none_read quote = refl

-- well-formed characters are read
pub agains : (quote : ℕ) (text values : Text) → Characters (is_allowed quote) text values → values_from quote (Plain None) text ≡ Some values
agains quote _ _ none = none_read quote
agains quote _ _ (plain c rest values ne allowed others) =
    goes_on quote (Plain None) (Plain (Some c)) c rest _ (plain_read quote c ne allowed) (value_stops quote c rest values (agains quote rest values others))
agains quote _ _ (escape value body rest text values is parts others) =
    goes_on quote (Plain None) Escape 92 text _ (backslash_read quote)
    (ap (values_from quote Escape) parts ∙ again_escape quote value body rest values is (agains quote rest values others))

-- values that are read are those of characters
pub reads : (quote : ℕ) (text values : Text) → values_from quote (Plain None) text ≡ Some values → Characters (is_allowed quote) text values
reads quote text values e = takes quote text (Plain None) values e

-- ## Constants

-- the only value is the only one
pub one_is : (o : Option Text) (value : ℕ) → option_and_then one_of o ≡ Some value → o ≡ Some (value ∷ [])
one_is None value e = absurd (cc)
one_is (Some []) value e = absurd (cc)
one_is (Some (v ∷ [])) value e = let h : v ≡ value = cc in ap (λ (x : ℕ). let o : Option Text = Some (x ∷ []) in o) h
one_is (Some (v ∷ w ∷ vs)) value e = absurd (cc)

-- what is there
some_is : {A : Type 0} (o : Option A) → is_some o ≡ true → (x : A) × (o ≡ Some x)
some_is None e = absurd (cc)
some_is (Some x) e = (x, refl)

-- a character that is read is one
pub char_yes : (inside : Text) → is_quoted_constant 39 inside ≡ true → (value : ℕ) × Characters (is_allowed 39) (joined inside) (value ∷ [])
unfolding is_quoted_constant
char_yes inside e =
    let (value, is) = some_is (option_and_then one_of (values_of 39 inside)) e in
    (value, reads 39 (joined inside) (value ∷ []) (one_is (values_of 39 inside) value is))

-- one character is read
pub yes_char : (inside : Text) (value : ℕ) → Characters (is_allowed 39) (joined inside) (value ∷ []) → is_quoted_constant 39 inside ≡ true
unfolding is_quoted_constant
yes_char inside value characters = ap (λ (o : Option Text). is_some (option_and_then one_of o)) (agains 39 (joined inside) (value ∷ []) characters)

-- characters that are read are some
pub string_yes : (inside : Text) → is_quoted_constant 34 inside ≡ true → (values : Text) × Characters (is_allowed 34) (joined inside) values
unfolding is_quoted_constant
string_yes inside e = let (values, is) = some_is (values_of 34 inside) e in (values, reads 34 (joined inside) values is)

-- characters are read
pub yes_string : (inside values : Text) → Characters (is_allowed 34) (joined inside) values → is_quoted_constant 34 inside ≡ true
unfolding is_quoted_constant
yes_string inside values characters = ap is_some (agains 34 (joined inside) values characters)
