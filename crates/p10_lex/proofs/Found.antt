-- What is cut off at the beginning of a text is a piece.
use Rattle.std.proofs.Common.{◌≡◌, ◌≢◌, ℕ, ◌<◌, ◌≤◌, List, [], ◌∷◌, ◌++◌, length, take, drop, refl, sym, ◌∙◌, ap, subst, arith, Bool, true, false, ◌⊎◌, inl, inr, append_assoc, length-append, length-take-le}
use Rattle.std.specs.Prelude.{◌==◌, nat_lt, ◌&&◌, ◌||◌, Option, Some, None}
use Rattle.std.proofs.lemmas.List.{append-nil, take-append-drop}
use Rattle.p10_base.specs.declared.word.Kind.{Kind}
use Rattle.p10_base.specs.declared.word.Kind.TheVariants.{Name, Number, Char, Str, Punct, Mark}
use Rattle.p10_lex.specs.declared.pieces.Piece.{Piece}
use Rattle.p10_lex.specs.declared.pieces.Piece.TheVariants.{Splices, Comment, OpenComment, OpenLiteral, Stray, Lexeme}
use Rattle.p10_lex.specs.Bytes.{is_blank, is_nondigit, is_digit, is_quote, is_name_byte}
use Rattle.p10_lex.specs.Splices.{joined, splice_length, AreSplices, on_one_line}
use Rattle.p10_lex.specs.Lexemes.{begins_digit, begins_number, goes_on_number, all_go_on_number, is_quotable, is_punctuator, IsLexeme, IsLongest}
use Rattle.p10_lex.specs.Pieces.{begins_comment, begins_byte, IsPiece}
use Rattle.p10_lex.specs.private.Runs.{after_run, after_number, after_line, after_comment, after_literal, after_header, after_splices, punctuator_length}
use Rattle.p10_lex.specs.private.Reading.{kind_of_quote, literal_at, comment_at, punctuator_at, header_at, cut_at}
use Rattle.p10_lex.proofs.Classes.{decide, and_both, both_and, same_number, number_same, other_number, nondigit_is, number_head, number_not_blank, quote_is}
use Rattle.p10_lex.proofs.RunLaws.{run_takes, number_takes, header_takes, header_again, comment_takes, comment_open, line_takes, begins_is}
use Rattle.p10_lex.proofs.SpliceLaws.{literal_takes, literal_again, splices_takes, none_test, positive, is_either}
use Rattle.p10_lex.proofs.Punctuation.{length_sound, length_most}
use Rattle.p10_lex.proofs.Longest.{name_longest, number_longest, IsQuoteByte, single_quote, double_quote, quoted_longest, header_longest, head_is, tail_is}

-- a piece, with what is left after it, stands at the beginning of a text
abbrev pub Found : Bool → List ℕ → Piece × List ℕ → Type 0
Found b whole x = (text : List ℕ) × (whole ≡ text ++ x.1) × IsPiece b x.0 text x.1

-- a comment begins with a slash
pub no_comment : (c : ℕ) (t : List ℕ) → c ≢ 47 → begins_comment (c ∷ t) ≡ false
unfolding begins_comment
no_comment c [] h = refl
no_comment c (d ∷ t) h = rw (other_number c 47 h) refl

-- an option has what both its cases have
pub by_option : {A X : Type 0} (P : X → Type 0) (o : Option A) (f : A → X) (x : X) → ((r : A) → o ≡ Some r → P (f r)) → (o ≡ None → P x)
    → P (elim o [ Some r ↦ f r | None ↦ x ])
by_option P (Some r) f x one none = one r refl
by_option P None f x one none = none refl

-- a name is found
found_name : (b : Bool) (c : ℕ) (t : List ℕ) → is_nondigit c ≡ true → Found b (c ∷ t) (Lexeme Name, after_run is_name_byte t)
found_name b c t e =
    let (front, parts, all, stop) = run_takes is_name_byte t in
    let longest : IsLongest b Name (c ∷ front) (after_run is_name_byte t) =
    record { lexeme = (e, all); longest = name_longest b c front (after_run is_name_byte t) e all stop } in
    (c ∷ front, ap (λ (x : List ℕ). c ∷ x) parts, (longest, no_comment c (front ++ after_run is_name_byte t) (nondigit_is c e).3))

-- a digit goes on with a number
pub digit_goes_on : (old d : ℕ) → is_digit d ≡ true → all_go_on_number old (d ∷ []) ≡ true
unfolding all_go_on_number goes_on_number is_name_byte
digit_goes_on old d e = elim (or_case (is_nondigit d)) [ inl h ↦ rw h refl | inr h ↦ rw (h, e) refl ]
  where
    or_case : (b : Bool) → (b ≡ true) ⊎ (b ≡ false)
    or_case true = inl refl
    or_case false = inr refl

-- a prefix of a number begins as the number does
number_front : (c : ℕ) (t front rest : List ℕ) → begins_number (c ∷ t) ≡ true → t ≡ front ++ rest
    → ((d : ℕ) (more after : List ℕ) → rest ≡ d ∷ after → all_go_on_number c (front ++ d ∷ more) ≡ true → ⊥) → begins_number (c ∷ front) ≡ true
unfolding begins_number begins_digit
number_front c [] [] rest e parts stop = e
number_front c (d ∷ t) [] rest e parts stop = elim (number_head c (d ∷ t) e) [
  | inl h ↦ rw h refl
  | inr (h, k) ↦ absurd (stop d [] t (sym parts) (digit_goes_on c d k))
]
number_front c [] (f ∷ front) rest e parts stop = absurd (cc)
number_front c (d ∷ t) (f ∷ front) rest e parts stop =
    let h : d ≡ f = head_is _ _ _ _ parts in
    ap (λ (x : ℕ). is_digit c || ((c == 46) && is_digit x)) (sym h) ∙ e

-- a number is found
found_number : (b : Bool) (c : ℕ) (t : List ℕ) → begins_number (c ∷ t) ≡ true → Found b (c ∷ t) (Lexeme Number, after_number c t)
found_number b c t e =
    let (front, parts, all, stop) = number_takes c t in
    let begins = number_front c t front (after_number c t) e parts stop in
    let longest : IsLongest b Number (c ∷ front) (after_number c t) =
    record { lexeme = (begins, all); longest = number_longest b c front (after_number c t) begins stop } in
    (c ∷ front, ap (λ (x : List ℕ). c ∷ x) parts, (longest, no_comment c (front ++ after_number c t) (number_not_blank c t e).4))

-- a literal with its closing quote is the longest lexeme
found_quoted : (b : Bool) (q : ℕ) (t rest : List ℕ) (kind : Kind) → IsQuoteByte q → after_literal q 0 false t ≡ Some rest
    → ((inside : List ℕ) → is_quotable q false (joined inside) ≡ true → IsLexeme b kind (q ∷ (inside ++ q ∷ []))) → Found b (q ∷ t) (Lexeme kind, rest)
found_quoted b q t rest kind is e lexeme =
    let h = literal_takes q is.lf is.cr 0 false t rest e in
    let longest : IsLongest b kind (q ∷ (h.inside ++ q ∷ [])) rest =
    record { lexeme = lexeme h.inside h.quotable; longest = quoted_longest b q h.inside rest is h.quotable } in (
      q ∷ (h.inside ++ q ∷ []),
      ap (λ (x : List ℕ). q ∷ x) (h.parts ∙ sym (append_assoc h.inside (q ∷ []) rest)),
      (longest, no_comment q ((h.inside ++ q ∷ []) ++ rest) is.slash),
    )

-- a line that doesn't close its literal
found_open : (b : Bool) (q : ℕ) (t : List ℕ) → IsQuoteByte q → after_literal q 0 false t ≡ None → Found b (q ∷ t) (OpenLiteral, after_line 0 q t)
unfolding on_one_line
found_open b q t is e =
    let (front, parts, all, ends) = line_takes 0 q t in
    let lf : (q == 10) ≡ false = other_number q 10 is.lf in (
      q ∷ front,
      ap (λ (x : List ℕ). q ∷ x) parts,
      record {
        quote = q;
        body = front;
        quoted = is.quote;
        parts = refl;
        line = record { one_line = rw lf all; ends = elim ends [ inl h ↦ inl h | inr (after, h, k) ↦ inr (after, h, rw lf k) ] };
        unclosed = λ inside after p quotable.
            let there = literal_again q is.lf is.cr is.backslash 0 false inside after quotable (omega arith) in
            let same : after_literal q 0 false t ≡ Some after = ap (after_literal q 0 false) (parts ∙ p) ∙ there in
            let both : ◌≡◌ {A = Option (List ℕ)} None (Some after) = sym e ∙ same in
            cc;
      },
    )

-- a character constant is found
found_char : (b : Bool) (t : List ℕ) → Found b (39 ∷ t) (literal_at 39 t)
unfolding literal_at kind_of_quote
found_char b t =
    by_option (λ (x : Piece × List ℕ). Found b (39 ∷ t) x) (after_literal 39 0 false t) (λ (r : List ℕ). (Lexeme Char, r)) (OpenLiteral, after_line 0 39 t)
    (λ r e. found_quoted b 39 t r Char single_quote e (λ inside is. record { inside = inside; parts = refl; quotable = is }))
    (λ e. found_open b 39 t single_quote e)

-- a string is found
found_string : (b : Bool) (t : List ℕ) → Found b (34 ∷ t) (literal_at 34 t)
unfolding literal_at kind_of_quote
found_string b t =
    by_option (λ (x : Piece × List ℕ). Found b (34 ∷ t) x) (after_literal 34 0 false t) (λ (r : List ℕ). (Lexeme Str, r)) (OpenLiteral, after_line 0 34 t)
    (λ r e. found_quoted b 34 t r Str double_quote e (λ inside is. inl (record { inside = inside; parts = refl; quotable = is })))
    (λ e. found_open b 34 t double_quote e)

-- a literal is found
found_literal : (b : Bool) (c : ℕ) (t : List ℕ) → is_quote c ≡ true → Found b (c ∷ t) (literal_at c t)
found_literal b c t e = elim (quote_is c e) [
  | inl h ↦ subst (λ (x : ℕ). Found b (x ∷ t) (literal_at x t)) (sym h) (found_char b t)
  | inr h ↦ subst (λ (x : ℕ). Found b (x ∷ t) (literal_at x t)) (sym h) (found_string b t)
]

-- a line comment is found
found_line : (b : Bool) (t : List ℕ) → Found b (47 ∷ (47 ∷ t)) (Comment, after_line 0 0 (47 ∷ (47 ∷ t)))
unfolding after_line on_one_line
found_line b t =
    let (front, parts, all, ends) = line_takes 47 47 t in
    (47 ∷ (47 ∷ front), ap (λ (x : List ℕ). 47 ∷ (47 ∷ x)) parts, inl (record { inside = front; parts = refl; line = record { one_line = all; ends = ends } }))

-- a block comment is found
found_block : (b : Bool) (t : List ℕ) → Found b (47 ∷ (42 ∷ t)) (comment_at t)
unfolding comment_at
found_block b t =
    by_option (λ (x : Piece × List ℕ). Found b (47 ∷ (42 ∷ t)) x) (after_comment t) (λ (r : List ℕ). (Comment, r)) (OpenComment, [])
    (λ r e.
    let (inside, parts, none) = comment_takes t r e in (
      47 ∷ (42 ∷ (inside ++ 42 ∷ (47 ∷ []))),
      ap (λ (x : List ℕ). 47 ∷ (42 ∷ x)) (parts ∙ sym (append_assoc inside (42 ∷ (47 ∷ [])) r)),
      inr (record { inside = inside; parts = refl; first = none }),
    ))
    (λ e. (47 ∷ (42 ∷ t), sym (append-nil (47 ∷ (42 ∷ t))), record { inside = t; parts = refl; open_end = comment_open t e; last = refl }))

-- splices are found
found_splices : (b : Bool) (c : ℕ) (t : List ℕ) → nat_lt 0 (splice_length (c ∷ t)) ≡ true → Found b (c ∷ t) (Splices, after_splices 0 (c ∷ t))
found_splices b c t e =
    let h = splices_takes 0 (c ∷ t) (omega arith) in
    let some : h.front ≢ [] = λ n.
    let same : c ∷ t ≡ after_splices 0 (c ∷ t) = h.parts ∙ ap (λ (x : List ℕ). x ++ after_splices 0 (c ∷ t)) n in
    let stop = h.stop in
    let zero_there : splice_length (c ∷ t) ≡ 0 = ap splice_length same ∙ stop in
    let more_than = positive _ e in
    omega arith in
    let splices : AreSplices h.front = record { some = some; only = h.only } in
    (h.front, h.parts, (splices, h.stop))

-- what stands here is no white space, name, number, literal, comment or splice
pub record IsUntaken (b : Bool) (c : ℕ) (t : List ℕ) : Type 0 where
  pub blank : is_blank c ≡ false
  pub nondigit : is_nondigit c ≡ false
  pub number : begins_number (c ∷ t) ≡ false
  pub quote : is_quote c ≡ false
  pub comment : begins_comment (c ∷ t) ≡ false
  pub splice : splice_length (c ∷ t) ≡ 0
  pub header : b ≡ true → c ≡ 60 → after_header t ≡ None

-- what begins a number does so in each longer text
pub number_grows : (c : ℕ) (w after : List ℕ) → begins_number (c ∷ w) ≡ true → begins_number (c ∷ (w ++ after)) ≡ true
unfolding begins_number begins_digit
number_grows c [] after e = elim (number_head c [] e) [ inl h ↦ rw h refl | inr (h, k) ↦ absurd (cc) ]
number_grows c (d ∷ w) after e = e

-- so a word there is a punctuator
only_punctuator : (b : Bool) (c : ℕ) (t : List ℕ) → IsUntaken b c t → (kind : Kind) (word after : List ℕ) → c ∷ t ≡ word ++ after → IsLexeme b kind word → is_punctuator word ≡ true
unfolding is_quote
only_punctuator b c t is Name [] after e lexeme = absurd lexeme
only_punctuator b c t is Name (d ∷ w) after e lexeme =
    absurd (let h : c ≡ d = head_is _ _ _ _ e in let x = lexeme.0 in let y = is.nondigit in let z = ap is_nondigit h in cc)
only_punctuator b c t is Number [] after e lexeme = absurd lexeme
only_punctuator b c t is Number (d ∷ w) after e lexeme =
    absurd (let x = ap begins_number e ∙ number_grows d w after lexeme.0 in let y = is.number in cc)
only_punctuator b c t is Char word after e lexeme =
    let same : c ∷ t ≡ 39 ∷ ((lexeme.inside ++ 39 ∷ []) ++ after) = e ∙ ap (λ (x : List ℕ). x ++ after) lexeme.parts in
    absurd (let h : c ≡ 39 = head_is _ _ _ _ same in let x = ap is_quote h in let y = is.quote in cc)
only_punctuator b c t is Str word after e (inl lexeme) =
    let same : c ∷ t ≡ 34 ∷ ((lexeme.inside ++ 34 ∷ []) ++ after) = e ∙ ap (λ (x : List ℕ). x ++ after) lexeme.parts in
    absurd (let h : c ≡ 34 = head_is _ _ _ _ same in let x = ap is_quote h in let y = is.quote in cc)
only_punctuator b c t is Str word after e (inr (asked, lexeme)) =
    let same : c ∷ t ≡ 60 ∷ ((lexeme.inside ++ 62 ∷ []) ++ after) = e ∙ ap (λ (x : List ℕ). x ++ after) lexeme.parts in
    let none = is.header asked (head_is _ _ _ _ same) in
    let there : t ≡ lexeme.inside ++ 62 ∷ after = tail_is _ _ _ _ same ∙ append_assoc lexeme.inside (62 ∷ []) after in
    let some = ap after_header there ∙ header_again lexeme.inside after lexeme.one_line in
    let both : ◌≡◌ {A = Option (List ℕ)} None (Some after) = sym none ∙ some in
    absurd (cc)
only_punctuator b c t is Punct word after e lexeme = lexeme
only_punctuator b c t is Mark word after e lexeme = absurd lexeme

-- a text of length 0
pub nil_of : (xs : List ℕ) → length xs ≤ 0 → xs ≡ []
nil_of [] h = refl
nil_of (x ∷ xs) h = absurd (omega arith)

-- the longest punctuator is found
found_punct : (b : Bool) (c : ℕ) (t : List ℕ) → IsUntaken b c t → 0 < punctuator_length (c ∷ t)
    → Found b (c ∷ t) (Lexeme Punct, drop (punctuator_length (c ∷ t)) (c ∷ t))
found_punct b c t is some =
    let n = punctuator_length (c ∷ t) in
    let text = take n (c ∷ t) in
    let rest = drop n (c ∷ t) in
    let whole : text ++ rest ≡ c ∷ t = take-append-drop n (c ∷ t) in
    elim (length_sound (c ∷ t)) [
      | inl zero_there ↦ absurd (omega arith)
      | inr (sound, short, more_than) ↦
          (let count : length text ≡ n = length-take-le n (c ∷ t) short in (
            text,
            sym whole,
            (
              record {
                lexeme = sound;
                longest = λ other more after e lexeme.
                    (let parts : c ∷ t ≡ (text ++ more) ++ after = sym whole ∙ (ap (λ (x : List ℕ). text ++ x) e ∙ sym (append_assoc text more after)) in
                    let mark = only_punctuator b c t is other (text ++ more) after parts lexeme in
                    let most : length (text ++ more) ≤ n = subst (λ (x : List ℕ). length (text ++ more) ≤ punctuator_length x) (sym parts) (length_most (text ++ more) after mark) in
                    nil_of more (omega (arith, length-append text more)));
              },
              ap begins_comment whole ∙ is.comment,
            ),
          ))
    ]

-- the empty text is no punctuator
pub no_empty : is_punctuator [] ≡ true → ⊥
unfolding is_punctuator
no_empty h = cc

-- a byte that begins nothing is found
found_stray : (b : Bool) (c : ℕ) (t : List ℕ) → IsUntaken b c t → punctuator_length (c ∷ t) ≡ 0 → Found b (c ∷ t) (Stray, t)
found_stray b c t is none = (
  c ∷ [],
  refl,
  record {
    byte = c;
    parts = refl;
    not_blank = is.blank;
    not_quote = is.quote;
    not_splice = is.splice;
    no_word = λ kind word after e lexeme.
        let mark = only_punctuator b c t is kind word after e lexeme in
        let most : length word ≤ punctuator_length (c ∷ t) = subst (λ (x : List ℕ). length word ≤ punctuator_length x) (sym e) (length_most word after mark) in
        let empty : word ≡ [] = nil_of word (omega arith) in
        no_empty (ap is_punctuator (sym empty) ∙ mark);
  },
)

-- a punctuator, or a byte that begins nothing
found_punctuator : (b : Bool) (c : ℕ) (t : List ℕ) → IsUntaken b c t → Found b (c ∷ t) (punctuator_at (c ∷ t))
unfolding punctuator_at
found_punctuator b c t is =
    decide (λ (x : Piece × List ℕ). Found b (c ∷ t) x) (nat_lt 0 (punctuator_length (c ∷ t))) _ _
    (λ e. found_punct b c t is (positive _ e)) (λ e. found_stray b c t is (none_test _ e))

-- an include name, or else a punctuator
found_angle : (b : Bool) (t : List ℕ) → b ≡ true → (after_header t ≡ None → IsUntaken b 60 t) → Found b (60 ∷ t) (header_at (60 ∷ t))
unfolding header_at
found_angle b t asked others =
    by_option (λ (x : Piece × List ℕ). Found b (60 ∷ t) x) (after_header t) (λ (r : List ℕ). (Lexeme Str, r)) (punctuator_at (60 ∷ t))
    (λ r e.
    let (inside, parts, all) = header_takes t r e in
    let longest : IsLongest b Str (60 ∷ (inside ++ 62 ∷ [])) r =
    record { lexeme = inr (asked, record { inside = inside; parts = refl; one_line = all }); longest = header_longest b inside r all } in (
      60 ∷ (inside ++ 62 ∷ []),
      ap (λ (x : List ℕ). 60 ∷ x) (parts ∙ sym (append_assoc inside (62 ∷ []) r)),
      (longest, no_comment 60 ((inside ++ 62 ∷ []) ++ r) (omega arith)),
    ))
    (λ e. found_punctuator b 60 t (others e))

-- no comment begins where neither of its beginnings stands
pub comment_false : (c : ℕ) (t : List ℕ) → ((c == 47) && begins_byte 47 t) ≡ false → ((c == 47) && begins_byte 42 t) ≡ false → begins_comment (c ∷ t) ≡ false
unfolding begins_comment begins_byte
comment_false c [] e f = refl
comment_false c (d ∷ t) e f = elim (is_either (c == 47)) [
  | inl h ↦ rw (h, (let x = rw h at e in x), (let x = rw h at f in x)) refl
  | inr h ↦ rw h refl
]

-- what is cut off is a piece
pub found : (b : Bool) (c : ℕ) (t : List ℕ) → Found b (c ∷ t) (cut_at b (c ∷ t))
unfolding cut_at
found b c t =
    decide (Found b (c ∷ t)) (is_blank c) _ _ (λ e. (c ∷ [], refl, (c, refl, e)))
    (λ n1. decide (Found b (c ∷ t)) (is_nondigit c) _ _ (λ e. found_name b c t e)
    (λ n2. decide (Found b (c ∷ t)) (begins_number (c ∷ t)) _ _ (λ e. found_number b c t e)
    (λ n3. decide (Found b (c ∷ t)) (is_quote c) _ _ (λ e. found_literal b c t e)
    (λ n4. decide (Found b (c ∷ t)) ((c == 47) && begins_byte 47 t) _ _
    (λ e.
    let (x, y) = and_both (c == 47) (begins_byte 47 t) e in
    let whole : c ∷ t ≡ 47 ∷ (47 ∷ drop 1 t) = ap (λ (z : ℕ). z ∷ t) (same_number c 47 x) ∙ ap (λ (z : List ℕ). 47 ∷ z) (begins_is 47 t y) in
    subst (λ (w : List ℕ). Found b w (Comment, after_line 0 0 w)) (sym whole) (found_line b (drop 1 t)))
    (λ n5. decide (Found b (c ∷ t)) ((c == 47) && begins_byte 42 t) _ _
    (λ e.
    let (x, y) = and_both (c == 47) (begins_byte 42 t) e in
    let whole : c ∷ t ≡ 47 ∷ (42 ∷ drop 1 t) = ap (λ (z : ℕ). z ∷ t) (same_number c 47 x) ∙ ap (λ (z : List ℕ). 47 ∷ z) (begins_is 42 t y) in
    subst (λ (w : List ℕ). Found b w (comment_at (drop 1 t))) (sym whole) (found_block b (drop 1 t)))
    (λ n6. decide (Found b (c ∷ t)) (nat_lt 0 (splice_length (c ∷ t))) _ _ (λ e. found_splices b c t e)
    (λ n7. decide (Found b (c ∷ t)) (b && (c == 60)) _ _
    (λ e.
    let (x, y) = and_both b (c == 60) e in
    let here : c ≡ 60 = same_number c 60 y in
    subst (λ (z : ℕ). Found b (z ∷ t) (header_at (z ∷ t))) (sym here)
    (found_angle b t x (λ none. subst (λ (z : ℕ). IsUntaken b z t) here
    (record { blank = n1; nondigit = n2; number = n3; quote = n4; comment = comment_false c t n5 n6; splice = none_test _ n7; header = λ p q. none }))))
    (λ n8. found_punctuator b c t
    (record {
      blank = n1;
      nondigit = n2;
      number = n3;
      quote = n4;
      comment = comment_false c t n5 n6;
      splice = none_test _ n7;
      header = λ p q. absurd (let h = both_and b (c == 60) p (number_same c 60 q) in cc);
    })))))))))
