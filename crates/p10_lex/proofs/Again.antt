-- A piece at the beginning of a text is what is cut off there.
use Rattle.std.proofs.Common.{◌≡◌, ◌≢◌, ℕ, suc, ◌+◌, ◌-◌, ◌<◌, ◌≤◌, List, [], ◌∷◌, ◌++◌, length, take, drop, refl, sym, ◌∙◌, ap, subst, arith, Bool, true, false, ◌⊎◌, inl, inr, append_assoc, length-append, length-take-le}
use Rattle.std.specs.Prelude.{◌==◌, nat_lt, ◌&&◌, ◌||◌, not, Option, Some, None}
use Rattle.std.specs.List.{list_all}
use Rattle.std.proofs.lemmas.List.{append-nil, take-append-drop, drop_at}
use Rattle.p10_base.specs.declared.word.Kind.{Kind}
use Rattle.p10_base.specs.declared.word.Kind.TheVariants.{Name, Number, Char, Str, Punct, Mark}
use Rattle.p10_lex.specs.declared.pieces.Piece.{Piece}
use Rattle.p10_lex.specs.declared.pieces.Piece.TheVariants.{Blank, Splices, Comment, OpenComment, OpenLiteral, Stray, Lexeme}
use Rattle.p10_lex.specs.Bytes.{is_blank, is_nondigit, is_digit, is_quote, is_name_byte}
use Rattle.p10_lex.specs.Splices.{joined_after, splice_length, AreSplices, on_one_line}
use Rattle.p10_lex.specs.Lexemes.{begins_digit, begins_number, all_go_on_number, IsQuoted, IsHeaderName, is_punctuator, single_punctuators, IsLexeme, IsLongest}
use Rattle.p10_lex.specs.Characters.{begins_with}
use Rattle.p10_lex.specs.Pieces.{begins_comment, begins_byte, IsPiece, IsStray, IsLineComment, IsBlockComment, IsOpenComment, IsOpenLiteral}
use Rattle.p10_lex.specs.private.Runs.{after_run, after_number, after_line, after_comment, after_literal, after_header, after_splices, punctuator_length}
use Rattle.p10_lex.specs.private.Reading.{kind_of_quote, literal_at, comment_at, punctuator_at, header_at, cut_at}
use Rattle.p10_lex.proofs.Classes.{and_both, or_neither, same_number, number_same, other_number, not_true, not_false, nondigit_not_blank, number_head, number_not_blank, quote_is}
use Rattle.p10_lex.proofs.RunLaws.{run_again, number_again, header_takes, header_again, comment_again, comment_again_open, line_again}
use Rattle.p10_lex.proofs.SpliceLaws.{literal_takes, literal_again, splices_again, splice_more, no_splice, positive, positive_test, is_either}
use Rattle.p10_lex.proofs.Punctuation.{punctuator_head, punctuator_class, punctuator_second, no_angle, length_sound, length_most}
use Rattle.p10_lex.proofs.Longest.{IsQuoteByte, single_quote, double_quote, quote_byte, head_is, tail_is}
use Rattle.p10_lex.proofs.Found.{IsUntaken, number_grows, digit_goes_on, no_empty}

-- pairs with equal parts are equal
pair_is : {A B : Type 0} (a : A) (b c : B) → b ≡ c → ◌≡◌ {A = A × B} (a, b) (a, c)
pair_is {A} {B} a b c e = ap (λ (x : B). let p : A × B = (a, x) in p) e

-- what the first bytes of a text say of its piece
cut_blank : (b : Bool) (c : ℕ) (t : List ℕ) → is_blank c ≡ true → cut_at b (c ∷ t) ≡ (Blank, t)
unfolding cut_at
cut_blank b c t e = rw e refl

cut_name : (b : Bool) (c : ℕ) (t : List ℕ) → is_nondigit c ≡ true → cut_at b (c ∷ t) ≡ (Lexeme Name, after_run is_name_byte t)
unfolding cut_at
cut_name b c t e = rw (nondigit_not_blank c e, e) refl

cut_number : (b : Bool) (c : ℕ) (t : List ℕ) → begins_number (c ∷ t) ≡ true → cut_at b (c ∷ t) ≡ (Lexeme Number, after_number c t)
unfolding cut_at
cut_number b c t e = let (x, y, z, w, v, u) = number_not_blank c t e in rw (x, y, e) refl

cut_single : (b : Bool) (t : List ℕ) → cut_at b (39 ∷ t) ≡ literal_at 39 t
unfolding cut_at is_blank is_nondigit begins_number is_digit is_quote
cut_single b t = refl

cut_double : (b : Bool) (t : List ℕ) → cut_at b (34 ∷ t) ≡ literal_at 34 t
unfolding cut_at is_blank is_nondigit begins_number is_digit is_quote
cut_double b t = refl

cut_quote : (b : Bool) (q : ℕ) (t : List ℕ) → is_quote q ≡ true → cut_at b (q ∷ t) ≡ literal_at q t
cut_quote b q t e = elim (quote_is q e) [
  | inl h ↦ subst (λ (x : ℕ). cut_at b (x ∷ t) ≡ literal_at x t) (sym h) (cut_single b t)
  | inr h ↦ subst (λ (x : ℕ). cut_at b (x ∷ t) ≡ literal_at x t) (sym h) (cut_double b t)
]

cut_line : (b : Bool) (t : List ℕ) → cut_at b (47 ∷ (47 ∷ t)) ≡ (Comment, after_line 0 0 (47 ∷ (47 ∷ t)))
unfolding cut_at is_blank is_nondigit begins_number is_digit is_quote begins_byte
cut_line b t = refl

cut_block : (b : Bool) (t : List ℕ) → cut_at b (47 ∷ (42 ∷ t)) ≡ comment_at t
unfolding cut_at is_blank is_nondigit begins_number is_digit is_quote begins_byte
cut_block b t = refl

cut_backslash : (b : Bool) (t : List ℕ) → nat_lt 0 (splice_length (92 ∷ t)) ≡ true → cut_at b (92 ∷ t) ≡ (Splices, after_splices 0 (92 ∷ t))
unfolding cut_at is_blank is_nondigit begins_number is_digit is_quote
cut_backslash b t e = rw e refl

cut_angle : (t : List ℕ) → cut_at true (60 ∷ t) ≡ header_at (60 ∷ t)
unfolding cut_at is_blank is_nondigit begins_number is_digit is_quote
cut_angle t = rw (no_splice 60 t (omega arith)) refl

-- where no comment begins, neither of its beginnings stands
comment_parts : (c : ℕ) (t : List ℕ) → begins_comment (c ∷ t) ≡ false → (((c == 47) && begins_byte 47 t) ≡ false) × (((c == 47) && begins_byte 42 t) ≡ false)
unfolding begins_comment begins_byte
comment_parts c [] e = elim (is_either (c == 47)) [ inl h ↦ (rw h refl, rw h refl) | inr h ↦ (rw h refl, rw h refl) ]
comment_parts c (d ∷ t) e = elim (is_either (c == 47)) [
  | inl h ↦ (let f = rw h at e in let (x, y) = or_neither (d == 42) (d == 47) f in (rw (h, y) refl, rw (h, x) refl))
  | inr h ↦ (rw h refl, rw h refl)
]

-- without an include name a punctuator is sought
header_none : (c : ℕ) (t : List ℕ) → after_header t ≡ None → header_at (c ∷ t) ≡ punctuator_at (c ∷ t)
unfolding header_at
header_none c t e = rw (e, header_at) refl

-- where nothing else stands, a punctuator is sought
cut_untaken : (b : Bool) (c : ℕ) (t : List ℕ) → IsUntaken b c t → cut_at b (c ∷ t) ≡ punctuator_at (c ∷ t)
unfolding cut_at
cut_untaken b c t is =
    let (x, y) = comment_parts c t is.comment in
    elim (is_either (b && (c == 60))) [
      | inl e ↦ (let (f, g) = and_both b (c == 60) e in
          rw (is.blank, is.nondigit, is.number, is.quote, x, y, is.splice, e) (header_none c t (is.header f (same_number c 60 g))))
      | inr e ↦ rw (is.blank, is.nondigit, is.number, is.quote, x, y, is.splice, e) refl
    ]

-- all of two lists that are joined
pub both_all : (test : ℕ → Bool) (xs ys : List ℕ) → list_all test xs ≡ true → list_all test ys ≡ true → list_all test (xs ++ ys) ≡ true
both_all test [] ys a b = b
both_all test (x ∷ xs) ys a b = let (c, d) = and_both (test x) (list_all test xs) a in rw c (both_all test xs ys d b)

-- a text that begins with a byte of a class
begins_some : (test : ℕ → Bool) (t : List ℕ) → begins_with test t ≡ true → (c : ℕ) × (rest : List ℕ) × (t ≡ c ∷ rest) × (test c ≡ true)
unfolding begins_with
begins_some test [] e = absurd (cc)
begins_some test (c ∷ rest) e = (c, rest, refl, e)

-- a name is cut off
again_name : (b : Bool) (text rest : List ℕ) → IsLongest b Name text rest → cut_at b (text ++ rest) ≡ (Lexeme Name, rest)
again_name b [] rest is = absurd is.lexeme
again_name b (c ∷ cs) rest is =
    let stop : begins_with is_name_byte rest ≡ false = not_false _ (λ h.
    let (d, after, e, passes) = begins_some is_name_byte rest h in
    let all : list_all is_name_byte (cs ++ d ∷ []) ≡ true = both_all is_name_byte cs (d ∷ []) is.lexeme.1 (rw passes refl) in
    let more = is.longest Name (d ∷ []) after e (is.lexeme.0, all) in
    cc) in
    cut_name b c (cs ++ rest) is.lexeme.0 ∙ pair_is (Lexeme Name) _ _ (run_again is_name_byte cs rest is.lexeme.1 stop)

-- a number is cut off
again_number : (b : Bool) (text rest : List ℕ) → IsLongest b Number text rest → cut_at b (text ++ rest) ≡ (Lexeme Number, rest)
again_number b [] rest is = absurd is.lexeme
again_number b (c ∷ cs) rest is =
    cut_number b c (cs ++ rest) (number_grows c cs rest is.lexeme.0)
    ∙ pair_is (Lexeme Number) _ _ (number_again c cs rest is.lexeme.1 (λ d after e all.
    let more = is.longest Number (d ∷ []) after e (number_grows c cs (d ∷ []) is.lexeme.0, all) in cc))

-- a literal with its end
literal_some : (q : ℕ) (t rest : List ℕ) → after_literal q 0 false t ≡ Some rest → literal_at q t ≡ (Lexeme (kind_of_quote q), rest)
unfolding literal_at
literal_some q t rest e = rw (e, literal_at) refl

-- a literal without
literal_none : (q : ℕ) (t : List ℕ) → after_literal q 0 false t ≡ None → literal_at q t ≡ (OpenLiteral, after_line 0 q t)
unfolding literal_at
literal_none q t e = rw (e, literal_at) refl

-- a literal is cut off
again_quoted : (b : Bool) (q : ℕ) (text rest : List ℕ) → IsQuoteByte q → IsQuoted q text → cut_at b (text ++ rest) ≡ (Lexeme (kind_of_quote q), rest)
again_quoted b q text rest is quoted =
    let whole : text ++ rest ≡ q ∷ (quoted.inside ++ q ∷ rest) =
    ap (λ (x : List ℕ). x ++ rest) quoted.parts ∙ ap (λ (x : List ℕ). q ∷ x) (append_assoc quoted.inside (q ∷ []) rest) in
    ap (cut_at b) whole ∙ (cut_quote b q (quoted.inside ++ q ∷ rest) is.quote
    ∙ literal_some q (quoted.inside ++ q ∷ rest) rest (literal_again q is.lf is.cr is.backslash 0 false quoted.inside rest quoted.quotable (omega arith)))

-- an include name with its end
header_some : (t rest : List ℕ) → after_header t ≡ Some rest → header_at (60 ∷ t) ≡ (Lexeme Str, rest)
unfolding header_at
header_some t rest e = rw (e, header_at) refl

-- an include name is cut off
again_header : (b : Bool) (text rest : List ℕ) → b ≡ true → IsHeaderName text → cut_at b (text ++ rest) ≡ (Lexeme Str, rest)
again_header b text rest asked header =
    let whole : text ++ rest ≡ 60 ∷ (header.inside ++ 62 ∷ rest) =
    ap (λ (x : List ℕ). x ++ rest) header.parts ∙ ap (λ (x : List ℕ). 60 ∷ x) (append_assoc header.inside (62 ∷ []) rest) in
    ap (λ (x : Bool). cut_at x (text ++ rest)) asked ∙ (ap (cut_at true) whole
    ∙ (cut_angle (header.inside ++ 62 ∷ rest) ∙ header_some (header.inside ++ 62 ∷ rest) rest (header_again header.inside rest header.one_line)))

-- of two prefixes without `>`, the one before a `>` goes on with the other
split_angle : (cs inside rest after : List ℕ) → cs ++ rest ≡ inside ++ 62 ∷ after → list_all (λ d. not (d == 62)) cs ≡ true
    → (more : List ℕ) × (inside ≡ cs ++ more) × (rest ≡ more ++ 62 ∷ after)
split_angle [] inside rest after e all = (inside, refl, e)
split_angle (c ∷ cs) [] rest after e all =
    absurd (let (x, y) = and_both (not (c == 62)) (list_all (λ d. not (d == 62)) cs) all in
    let h = head_is _ _ _ _ e in let f = not_true (c == 62) x in let g = number_same c 62 h in cc)
split_angle (c ∷ cs) (i ∷ inside) rest after e all =
    let (x, y) = and_both (not (c == 62)) (list_all (λ d. not (d == 62)) cs) all in
    let (more, p, q) = split_angle cs inside rest after (tail_is _ _ _ _ e) y in
    (more, ap (λ (z : ℕ). z ∷ inside) (sym (head_is _ _ _ _ e)) ∙ ap (λ (z : List ℕ). c ∷ z) p, q)

-- an option is empty or full
cases_of : (o : Option (List ℕ)) → (o ≡ None) ⊎ ((x : List ℕ) × (o ≡ Some x))
cases_of None = inl refl
cases_of (Some x) = inr (x, refl)

-- a punctuator that is the longest lexeme is no beginning of an include name
no_header : (b : Bool) (c : ℕ) (cs rest : List ℕ) → IsLongest b Punct (c ∷ cs) rest → b ≡ true → c ≡ 60 → after_header (cs ++ rest) ≡ None
no_header b c cs rest is asked here = elim (cases_of (after_header (cs ++ rest))) [
  | inl none ↦ none
  | inr (after, some) ↦
      (let (inside, parts, all) = header_takes (cs ++ rest) after some in
      let mark : is_punctuator (60 ∷ cs) ≡ true = ap (λ (x : ℕ). is_punctuator (x ∷ cs)) (sym here) ∙ is.lexeme in
      let (more, p, q) = split_angle cs inside rest after parts (no_angle cs mark) in
      let longer = is.longest Str (more ++ 62 ∷ []) after (q ∙ sym (append_assoc more (62 ∷ []) after))
      (inr (
        asked,
        record {
          inside = inside;
          one_line = all;
          parts = ap (λ (x : ℕ). x ∷ (cs ++ (more ++ 62 ∷ []))) here ∙ ap (λ (x : List ℕ). 60 ∷ x) (sym (append_assoc cs more (62 ∷ [])) ∙ ap (λ (x : List ℕ). x ++ 62 ∷ []) (sym p));
        },
      )) in
      absurd (let n = ap length longer in omega (arith, n, length-append more (62 ∷ []))))
]

-- nor of a number
number_not : (b : Bool) (c : ℕ) (cs rest : List ℕ) → IsLongest b Punct (c ∷ cs) rest → begins_number (c ∷ (cs ++ rest)) ≡ true → ⊥
unfolding begins_digit begins_number
number_not b c [] [] is h = elim (number_head c [] h) [
  | inl x ↦ (let class = (punctuator_class c is.lexeme).digit in cc)
  | inr (x, y) ↦ cc
]
number_not b c [] (d ∷ rest) is h = elim (number_head c (d ∷ rest) h) [
  | inl x ↦ (let class = (punctuator_class c is.lexeme).digit in cc)
  | inr (x, y) ↦ (let more = is.longest Number (d ∷ []) rest refl (h, digit_goes_on c d y) in cc)
]
number_not b c (d ∷ cs) rest is h = elim (number_head c (d ∷ (cs ++ rest)) h) [
  | inl x ↦ (let class = (punctuator_class c (punctuator_head c (d ∷ cs) is.lexeme)).digit in cc)
  | inr (x, y) ↦ (let second = punctuator_second c d cs is.lexeme in cc)
]

-- a punctuator has a byte
some_text : (text : List ℕ) → is_punctuator text ≡ true → 0 < length text
some_text [] e = absurd (no_empty e)
some_text (c ∷ t) e = omega arith

-- a prefix that goes past the first of two texts
take_past : (text rest : List ℕ) (m : ℕ) → take (length text + m) (text ++ rest) ≡ text ++ take m rest
take_past [] rest m = let e : 0 + m ≡ m = omega arith in rw e refl
take_past (c ∷ text) rest m = let e : suc (length text) + m ≡ suc (length text + m) = omega arith in rw e (ap (λ (x : List ℕ). c ∷ x) (take_past text rest m))

-- its length is the longest one's
punct_at : (b : Bool) (text rest : List ℕ) → IsLongest b Punct text rest → punctuator_at (text ++ rest) ≡ (Lexeme Punct, rest)
unfolding punctuator_at
punct_at b text rest is =
    let n = punctuator_length (text ++ rest) in
    let most : length text ≤ n = length_most text rest is.lexeme in
    let some : 0 < length text = some_text text is.lexeme in
    let same : n ≡ length text = elim (length_sound (text ++ rest)) [
      | inl h ↦ omega arith
      | inr (sound, short, h) ↦
          (let m = n - length text in
          let e : n ≡ length text + m = omega arith in
          let front : take n (text ++ rest) ≡ text ++ take m rest = ap (λ (x : ℕ). take x (text ++ rest)) e ∙ take_past text rest m in
          let longer = is.longest Punct (take m rest) (drop m rest) (sym (take-append-drop m rest)) (ap is_punctuator (sym front) ∙ sound) in
          let lengths : length (take m rest) ≡ m = length-take-le m rest (omega (arith, length-append text rest)) in
          let none : length (take m rest) ≡ 0 = ap length longer in
          omega arith)
    ] in
    rw (positive_test n (omega arith)) (pair_is (Lexeme Punct) (drop n (text ++ rest)) rest (ap (λ (x : ℕ). drop x (text ++ rest)) same ∙ drop_at text rest (length text) refl))

-- a punctuator that is the longest lexeme is nothing else
punct_untaken : (b : Bool) (c : ℕ) (cs rest : List ℕ) → IsLongest b Punct (c ∷ cs) rest → begins_comment (c ∷ (cs ++ rest)) ≡ false → IsUntaken b c (cs ++ rest)
punct_untaken b c cs rest is comment =
    let class = punctuator_class c (punctuator_head c cs is.lexeme) in record {
      blank = class.blank;
      nondigit = class.nondigit;
      quote = class.quote;
      comment = comment;
      number = not_false _ (λ h. number_not b c cs rest is h);
      splice = no_splice c (cs ++ rest) class.splice;
      header = no_header b c cs rest is;
    }

-- the longest punctuator is cut off
again_punct : (b : Bool) (text rest : List ℕ) → IsLongest b Punct text rest → begins_comment (text ++ rest) ≡ false → cut_at b (text ++ rest) ≡ (Lexeme Punct, rest)
again_punct b [] rest is comment = absurd (no_empty is.lexeme)
again_punct b (c ∷ cs) rest is comment =
    cut_untaken b c (cs ++ rest) (punct_untaken b c cs rest is comment) ∙ punct_at b (c ∷ cs) rest is

-- a line comment is cut off
again_line : (b : Bool) (text rest : List ℕ) → IsLineComment text rest → cut_at b (text ++ rest) ≡ (Comment, rest)
again_line b text rest is =
    let whole : text ++ rest ≡ 47 ∷ (47 ∷ (is.inside ++ rest)) = ap (λ (x : List ℕ). x ++ rest) is.parts in
    ap (cut_at b) whole ∙ (cut_line b (is.inside ++ rest) ∙ pair_is Comment (after_line 0 0 (47 ∷ (47 ∷ (is.inside ++ rest)))) rest
    (ap (after_line 0 0) (sym whole) ∙ line_again 0 0 text rest is.line.one_line is.line.ends))

-- a block comment with its end
comment_some : (t rest : List ℕ) → after_comment t ≡ Some rest → comment_at t ≡ (Comment, rest)
unfolding comment_at
comment_some t rest e = rw (e, comment_at) refl

-- a block comment without
comment_none : (t : List ℕ) → after_comment t ≡ None → comment_at t ≡ (OpenComment, [])
unfolding comment_at
comment_none t e = rw (e, comment_at) refl

-- a block comment is cut off
again_block : (b : Bool) (text rest : List ℕ) → IsBlockComment text → cut_at b (text ++ rest) ≡ (Comment, rest)
again_block b text rest is =
    let whole : text ++ rest ≡ 47 ∷ (42 ∷ (is.inside ++ 42 ∷ (47 ∷ rest))) =
    ap (λ (x : List ℕ). x ++ rest) is.parts ∙ ap (λ (x : List ℕ). 47 ∷ (42 ∷ x)) (append_assoc is.inside (42 ∷ (47 ∷ [])) rest) in
    ap (cut_at b) whole ∙ (cut_block b (is.inside ++ 42 ∷ (47 ∷ rest))
    ∙ comment_some (is.inside ++ 42 ∷ (47 ∷ rest)) rest (comment_again is.inside rest is.first))

-- a comment without end is cut off
again_open_comment : (b : Bool) (text rest : List ℕ) → IsOpenComment text rest → cut_at b (text ++ rest) ≡ (OpenComment, rest)
again_open_comment b text rest is =
    let whole : text ++ rest ≡ 47 ∷ (42 ∷ is.inside) = ap (λ (x : List ℕ). text ++ x) is.last ∙ (append-nil text ∙ is.parts) in
    ap (cut_at b) whole ∙ (cut_block b is.inside ∙ (comment_none is.inside (comment_again_open is.inside is.open_end) ∙ pair_is OpenComment [] rest (sym is.last)))

-- a literal without end is cut off
again_open_literal : (b : Bool) (text rest : List ℕ) → IsOpenLiteral text rest → cut_at b (text ++ rest) ≡ (OpenLiteral, rest)
unfolding on_one_line
again_open_literal b text rest is =
    let q = is.quote in
    let byte = quote_byte q is.quoted in
    let whole : text ++ rest ≡ q ∷ (is.body ++ rest) = ap (λ (x : List ℕ). x ++ rest) is.parts in
    let lf : (q == 10) ≡ false = other_number q 10 byte.lf in
    let line : on_one_line 0 q is.body ≡ true = (let h : on_one_line 0 0 (q ∷ is.body) ≡ true = ap (on_one_line 0 0) (sym is.parts) ∙ is.line.one_line in rw lf at h) in
    let ends : (rest ≡ []) ⊎ ((after : List ℕ) × (rest ≡ 10 ∷ after) × (on_one_line 0 q (is.body ++ 10 ∷ []) ≡ false)) = elim is.line.ends [
      | inl h ↦ inl h
      | inr (after, h, k) ↦ inr (after, h, (let m : on_one_line 0 0 (q ∷ (is.body ++ 10 ∷ [])) ≡ false = ap (λ (x : List ℕ). on_one_line 0 0 (x ++ 10 ∷ [])) (sym is.parts) ∙ k in rw lf at m))
    ] in
    let none : after_literal q 0 false (is.body ++ rest) ≡ None = elim (cases_of (after_literal q 0 false (is.body ++ rest))) [
      | inl h ↦ h
      | inr (after, h) ↦ (let x = literal_takes q byte.lf byte.cr 0 false (is.body ++ rest) after h in absurd (is.unclosed x.inside after x.parts x.quotable))
    ] in
    ap (cut_at b) whole ∙ (cut_quote b q (is.body ++ rest) is.quoted
    ∙ (literal_none q (is.body ++ rest) none ∙ pair_is OpenLiteral (after_line 0 q (is.body ++ rest)) rest (line_again 0 q is.body rest line ends)))

-- a splice begins with a backslash
splice_head : (c : ℕ) (t : List ℕ) → 0 < splice_length (c ∷ t) → c ≡ 92
splice_head c t some = elim (is_either (c == 92)) [
  | inl e ↦ same_number c 92 e
  | inr e ↦ absurd (let h = no_splice c t (λ x. let f = number_same c 92 x in cc) in omega arith)
]

-- splices begin with a splice
first_splice : (c : ℕ) (t : List ℕ) → joined_after 0 (c ∷ t) ≡ [] → 0 < splice_length (c ∷ t)
unfolding joined_after
first_splice c t e = elim (is_either (nat_lt 0 (splice_length (c ∷ t)))) [
  | inl h ↦ positive _ h
  | inr h ↦ absurd (let f = rw h at e in cc)
]

-- splices are cut off
again_splices : (b : Bool) (text rest : List ℕ) → AreSplices text → splice_length rest ≡ 0 → cut_at b (text ++ rest) ≡ (Splices, rest)
again_splices b [] rest are stop = absurd (are.some refl)
again_splices b (c ∷ t) rest are stop =
    let some : 0 < splice_length (c ∷ t) = first_splice c t are.only in
    let more : splice_length (c ∷ (t ++ rest)) ≡ splice_length (c ∷ t) = splice_more (c ∷ t) rest some in
    let here : c ≡ 92 = splice_head c t some in
    let there : nat_lt 0 (splice_length (92 ∷ (t ++ rest))) ≡ true =
    subst (λ (x : ℕ). nat_lt 0 (splice_length (x ∷ (t ++ rest))) ≡ true) here (positive_test _ (omega arith)) in
    let cut : cut_at b (c ∷ (t ++ rest)) ≡ (Splices, after_splices 0 (c ∷ (t ++ rest))) =
    subst (λ (x : ℕ). cut_at b (x ∷ (t ++ rest)) ≡ (Splices, after_splices 0 (x ∷ (t ++ rest)))) (sym here) (cut_backslash b (t ++ rest) there) in
    cut ∙ pair_is Splices (after_splices 0 (c ∷ (t ++ rest))) rest (splices_again 0 (c ∷ t) rest are.only stop (omega arith))

-- a slash is a punctuator
single_slash : is_punctuator (47 ∷ []) ≡ true
unfolding is_punctuator single_punctuators
single_slash = refl

-- so is `<`
single_angle : is_punctuator (60 ∷ []) ≡ true
unfolding is_punctuator single_punctuators
single_angle = refl

-- a comment begins with a slash
comment_head : (c : ℕ) (t : List ℕ) → begins_comment (c ∷ t) ≡ true → c ≡ 47
unfolding begins_comment
comment_head c [] e = absurd (cc)
comment_head c (d ∷ t) e = same_number c 47 (and_both (c == 47) ((d == 42) || (d == 47)) e).0

-- nor the beginning of a number
stray_number : (b : Bool) (c : ℕ) (rest : List ℕ) → begins_number (c ∷ rest) ≡ true
    → ((kind : Kind) (word after : List ℕ) → c ∷ rest ≡ word ++ after → IsLexeme b kind word → ⊥) → ⊥
unfolding begins_number begins_digit all_go_on_number
stray_number b c [] h no_word = no_word Number (c ∷ []) [] refl (h, refl)
stray_number b c (d ∷ rest) h no_word = elim (number_head c (d ∷ rest) h) [
  | inl x ↦ no_word Number (c ∷ []) (d ∷ rest) refl (rw x refl, refl)
  | inr (x, y) ↦ no_word Number (c ∷ d ∷ []) rest refl (h, digit_goes_on c d y)
]

-- a byte that begins nothing else
stray_untaken : (b : Bool) (c : ℕ) (rest : List ℕ) → is_blank c ≡ false → is_quote c ≡ false → splice_length (c ∷ rest) ≡ 0
    → ((kind : Kind) (word after : List ℕ) → c ∷ rest ≡ word ++ after → IsLexeme b kind word → ⊥) → IsUntaken b c rest
stray_untaken b c rest blank quote splice no_word = record {
  blank = blank;
  quote = quote;
  splice = splice;
  nondigit = not_false _ (λ h. no_word Name (c ∷ []) rest refl (h, refl));
  number = not_false _ (λ h. stray_number b c rest h no_word);
  comment = not_false _ (λ h. no_word Punct (c ∷ []) rest refl (subst (λ (x : ℕ). is_punctuator (x ∷ []) ≡ true) (sym (comment_head c rest h)) single_slash));
  header = λ p q. absurd (no_word Punct (c ∷ []) rest refl (subst (λ (x : ℕ). is_punctuator (x ∷ []) ≡ true) (sym q) single_angle));
}

-- where no word begins, no punctuator is found
stray_at : (b : Bool) (c : ℕ) (rest : List ℕ)
    → ((kind : Kind) (word after : List ℕ) → c ∷ rest ≡ word ++ after → IsLexeme b kind word → ⊥) → punctuator_at (c ∷ rest) ≡ (Stray, rest)
unfolding punctuator_at
stray_at b c rest no_word = elim (length_sound (c ∷ rest)) [
  | inl h ↦ rw h refl
  | inr (sound, short, h) ↦
      absurd (no_word Punct (take (punctuator_length (c ∷ rest)) (c ∷ rest)) (drop (punctuator_length (c ∷ rest)) (c ∷ rest))
      (sym (take-append-drop (punctuator_length (c ∷ rest)) (c ∷ rest))) sound)
]

-- a byte that begins nothing is cut off
again_stray : (b : Bool) (text rest : List ℕ) → IsStray b text rest → cut_at b (text ++ rest) ≡ (Stray, rest)
again_stray b text rest is =
    let whole : text ++ rest ≡ is.byte ∷ rest = ap (λ (x : List ℕ). x ++ rest) is.parts in
    ap (cut_at b) whole ∙ (cut_untaken b is.byte rest (stray_untaken b is.byte rest is.not_blank is.not_quote is.not_splice is.no_word)
    ∙ stray_at b is.byte rest is.no_word)

-- the kind of a single quote
kind_single : kind_of_quote 39 ≡ Char
unfolding kind_of_quote
kind_single = refl

-- the kind of a double quote
kind_double : kind_of_quote 34 ≡ Str
unfolding kind_of_quote
kind_double = refl

-- a literal of a kind is cut off
again_kind : (b : Bool) (q : ℕ) (kind : Kind) (text rest : List ℕ) → IsQuoteByte q → kind_of_quote q ≡ kind → IsQuoted q text → cut_at b (text ++ rest) ≡ (Lexeme kind, rest)
again_kind b q kind text rest byte e quoted =
    again_quoted b q text rest byte quoted ∙ ap (λ (k : Kind). let p : Piece × List ℕ = (Lexeme k, rest) in p) e

-- a string or an include name is cut off
again_string : (b : Bool) (text rest : List ℕ) → IsLexeme b Str text → cut_at b (text ++ rest) ≡ (Lexeme Str, rest)
again_string b text rest (inl is) = again_kind b 34 Str text rest double_quote kind_double is
again_string b text rest (inr (asked, is)) = again_header b text rest asked is

-- a piece is cut off
pub again : (b : Bool) (piece : Piece) (text rest : List ℕ) → IsPiece b piece text rest → cut_at b (text ++ rest) ≡ (piece, rest)
again b Blank text rest (c, e, blank) = ap (λ (x : List ℕ). cut_at b (x ++ rest)) e ∙ cut_blank b c rest blank
again b Splices text rest (are, stop) = again_splices b text rest are stop
again b Comment text rest (inl is) = again_line b text rest is
again b Comment text rest (inr is) = again_block b text rest is
again b OpenComment text rest is = again_open_comment b text rest is
again b OpenLiteral text rest is = again_open_literal b text rest is
again b Stray text rest is = again_stray b text rest is
again b (Lexeme Name) text rest (is, comment) = again_name b text rest is
again b (Lexeme Number) text rest (is, comment) = again_number b text rest is
again b (Lexeme Char) text rest (is, comment) = again_kind b 39 Char text rest single_quote kind_single is.lexeme
again b (Lexeme Str) text rest (is, comment) = again_string b text rest is.lexeme
again b (Lexeme Punct) text rest (is, comment) = again_punct b text rest is comment
again b (Lexeme Mark) text rest (is, comment) = absurd is.lexeme

-- a text that is not empty has a byte
some_cells : (text : List ℕ) → text ≢ [] → 0 < length text
some_cells [] h = absurd (h refl)
some_cells (c ∷ t) h = omega arith

-- a lexeme has a byte
lexeme_some : (b : Bool) (kind : Kind) (text : List ℕ) → IsLexeme b kind text → 0 < length text
lexeme_some b Name [] is = absurd is
lexeme_some b Name (c ∷ t) is = omega arith
lexeme_some b Number [] is = absurd is
lexeme_some b Number (c ∷ t) is = omega arith
lexeme_some b Char text is = let e = ap length is.parts in omega arith
lexeme_some b Str text (inl is) = let e = ap length is.parts in omega arith
lexeme_some b Str text (inr (asked, is)) = let e = ap length is.parts in omega arith
lexeme_some b Punct text is = some_text text is
lexeme_some b Mark text is = absurd is

-- a piece has a byte
pub some_byte : (b : Bool) (piece : Piece) (text rest : List ℕ) → IsPiece b piece text rest → 0 < length text
some_byte b Blank text rest (c, e, blank) = let l = ap length e in omega arith
some_byte b Splices text rest (are, stop) = some_cells text are.some
some_byte b Comment text rest (inl is) = let l = ap length is.parts in omega arith
some_byte b Comment text rest (inr is) = let l = ap length is.parts in omega arith
some_byte b OpenComment text rest is = let l = ap length is.parts in omega arith
some_byte b OpenLiteral text rest is = let l = ap length is.parts in omega arith
some_byte b Stray text rest is = let l = ap length is.parts in omega arith
some_byte b (Lexeme kind) text rest (is, comment) = lexeme_some b kind text is.lexeme
