-- The first row that holds at a word, and so at any piece.
use Rattle.std.proofs.Common.{◌≡◌, ◌≢◌, ℕ, zero, suc, ◌+◌, ◌-◌, ◌<◌, ◌≤◌, List, [], ◌∷◌, ◌++◌, length, take, drop, refl, sym, ◌∙◌, ap, subst, arith, Bool, true, false, ◌⊎◌, inl, inr, length-append}
use Rattle.std.specs.Prelude.{is_some, ◌==◌, ◌&&◌, ◌||◌, not, Option, Some, None, codes, bytes_eq}
use Rattle.std.specs.List.{list_all}
use Rattle.std.proofs.lemmas.List.{take_at}
use Rattle.p10_base.specs.declared.word.Kind.{Kind}
use Rattle.p10_base.specs.declared.word.Kind.TheVariants.{Name, Number, Char, Str, Punct, Mark}
use Rattle.p10_lex.specs.declared.pieces.Piece.{Piece}
use Rattle.p10_lex.specs.declared.pieces.Piece.TheVariants.{Blank, Splices, Comment, OpenComment, OpenLiteral, Stray, Lexeme}
use Rattle.p10_lex.specs.declared.faults.Fault.{Fault}
use Rattle.p10_lex.specs.Bytes.{is_quote, is_name_byte, is_nondigit, is_digit}
use Rattle.p10_lex.specs.Splices.{splice_length}
use Rattle.p10_lex.specs.Lexemes.{is_punctuator, begins_number, IsLexeme, IsName, IsNumber, IsQuoted, IsHeaderName}
use Rattle.p10_lex.specs.Constants.{IsConstant}
use Rattle.p10_lex.specs.Characters.{IsLiteral, begins_with}
use Rattle.p10_lex.specs.Integers.{integer_constant}
use Rattle.p10_lex.specs.declared.integers.Integer.{Integer}
use Rattle.p10_lex.specs.Pieces.{IsPiece}
use Rattle.p10_lex.specs.Refusals.{begins_trigraph, is_tight, is_literal, is_comment, Row, bad_byte, comment_without_end, literal_without_end, bad_constant, wide_literal, trigraph, splice_between, splice_in_literal, rank_of}
use Rattle.p10_lex.specs.private.Scanning.{is_literal_constant, is_quoted_constant}
use Rattle.p10_lex.specs.private.Reading.{fault_at, fault_of, word_fault, literal_fault}
use Rattle.p10_lex.proofs.Classes.{decide, and_both, both_and, same_number, number_head}
use Rattle.p10_lex.proofs.SpliceLaws.{is_either}
use Rattle.p10_lex.proofs.Punctuation.{same_is, is_same}
use Rattle.p10_lex.proofs.CharacterLaws.{char_yes, yes_char, string_yes, yes_string}
use Rattle.p10_lex.proofs.Longest.{head_is}
use Rattle.p10_lex.proofs.Marked.{HasNoMark, trigraph_head, splice_head, no_trigraph, class_mark, number_mark, all_splices_mark, punctuator_mark, IsFirstMark, mark_none, mark_some}
use Rattle.p10_lex.proofs.Rows.{IsFirstRow, IsFirst, NoneHolds, rank_is, trigraph_behind, splice_behind, blank_row, comment_row, open_comment_row, open_literal_row, stray_row, splices_row, splices_first}
use Rattle.p10_base.specs.Codes.{word_number}
use Rattle.p10_base.specs.declared.codes.WordCode.TheVariants.{BadByte, CommentWithoutEnd, LiteralWithoutEnd, BadConstant, Trigraph, SpliceInWord}

-- what may hold at a name
name_first : (tight : Bool) (text rest : List ℕ) → HasNoMark text → (m j d : ℕ) → Row tight (Lexeme Name) text rest m j d
    → (text ≡ codes "L") × (begins_with is_quote rest ≡ true) × ((0 < j) ⊎ ((0 ≡ j) × (rank_of 4 ≤ rank_of m)))
unfolding is_literal
name_first tight text rest a n i e (bad_byte h) = absurd (cc)
name_first tight text rest a n i e (comment_without_end h) = absurd (cc)
name_first tight text rest a n i e (literal_without_end h) = absurd (cc)
name_first tight text rest a n i e (bad_constant Name h k) = absurd (k tt)
name_first tight text rest a n i e (bad_constant Number h k) = absurd (cc)
name_first tight text rest a n i e (bad_constant Char h k) = absurd (cc)
name_first tight text rest a n i e (bad_constant Str h k) = absurd (cc)
name_first tight text rest a n i e (bad_constant Punct h k) = absurd (cc)
name_first tight text rest a n i e (bad_constant Mark h k) = absurd (cc)
name_first tight text rest a n i e (wide_literal h k l) = (k, l, inr (refl, rank_is 4))
name_first tight text rest a n i e (trigraph j h k l) = absurd (no_trigraph text rest j a k l)
name_first tight text rest a n i e (splice_between j h k l m o) = absurd (cc)
name_first tight text rest a n i e (splice_in_literal j h k l) = absurd (cc)

-- what may hold at a number
number_first : (tight : Bool) (text rest : List ℕ) → HasNoMark text → (m j d : ℕ) → Row tight (Lexeme Number) text rest m j d
    → (((constant : Integer) × (integer_constant text ≡ Some constant)) → ⊥) × ((0 < j) ⊎ ((0 ≡ j) × (rank_of 4 ≤ rank_of m)))
unfolding is_literal
number_first tight text rest a n i e (bad_byte h) = absurd (cc)
number_first tight text rest a n i e (comment_without_end h) = absurd (cc)
number_first tight text rest a n i e (literal_without_end h) = absurd (cc)
number_first tight text rest a n i e (bad_constant Number h k) = (k, inr (refl, rank_is 4))
number_first tight text rest a n i e (bad_constant Name h k) = absurd (cc)
number_first tight text rest a n i e (bad_constant Char h k) = absurd (cc)
number_first tight text rest a n i e (bad_constant Str h k) = absurd (cc)
number_first tight text rest a n i e (bad_constant Punct h k) = absurd (cc)
number_first tight text rest a n i e (bad_constant Mark h k) = absurd (cc)
number_first tight text rest a n i e (wide_literal h k l) = absurd (cc)
number_first tight text rest a n i e (trigraph j h k l) = absurd (no_trigraph text rest j a k l)
number_first tight text rest a n i e (splice_between j h k l m o) = absurd (cc)
number_first tight text rest a n i e (splice_in_literal j h k l) = absurd (cc)

-- what may hold at a punctuator
punct_first : (tight : Bool) (c : ℕ) (t rest : List ℕ) → HasNoMark t → (m j d : ℕ) → Row tight (Lexeme Punct) (c ∷ t) rest m j d
    → (begins_trigraph (c ∷ (t ++ rest)) ≡ true) × ((0 < j) ⊎ ((0 ≡ j) × (rank_of 5 ≤ rank_of m)))
unfolding is_literal
punct_first tight c t rest a n i e (bad_byte h) = absurd (cc)
punct_first tight c t rest a n i e (comment_without_end h) = absurd (cc)
punct_first tight c t rest a n i e (literal_without_end h) = absurd (cc)
punct_first tight c t rest a n i e (bad_constant Punct h k) = absurd (k tt)
punct_first tight c t rest a n i e (bad_constant Number h k) = absurd (cc)
punct_first tight c t rest a n i e (bad_constant Char h k) = absurd (cc)
punct_first tight c t rest a n i e (bad_constant Str h k) = absurd (cc)
punct_first tight c t rest a n i e (bad_constant Name h k) = absurd (cc)
punct_first tight c t rest a n i e (bad_constant Mark h k) = absurd (cc)
punct_first tight c t rest a n i e (wide_literal h k l) = absurd (cc)
punct_first tight c t rest a n i e (trigraph zero h k l) = (l, inr (refl, rank_is 5))
punct_first tight c t rest a n i e (trigraph (suc j) h k l) = absurd (no_trigraph t rest j a (omega arith) l)
punct_first tight c t rest a n i e (splice_between j h k l m o) = absurd (cc)
punct_first tight c t rest a n i e (splice_in_literal j h k l) = absurd (cc)

-- What may hold at a literal or an include name: it is no constant, or a trigraph or a splice stands in it.
abbrev Marked : Kind → List ℕ → List ℕ → ℕ → ℕ → Type 0
Marked kind text rest m j =
    ((m ≡ 4) × (j ≡ 0) × (IsConstant kind text → ⊥))
    ⊎ (((m ≡ 5) × (j < length text) × (begins_trigraph (drop j (text ++ rest)) ≡ true))
    ⊎ ((m ≡ 6) × (j < length text) × (0 < splice_length (drop j (text ++ rest)))))

-- what may hold at a literal
literal_cases : (tight : Bool) (kind : Kind) (text rest : List ℕ) → kind ≢ Name → (m j d : ℕ) → Row tight (Lexeme kind) text rest m j d → Marked kind text rest m j
literal_cases tight kind text rest a n i e (bad_byte h) = absurd (cc)
literal_cases tight kind text rest a n i e (comment_without_end h) = absurd (cc)
literal_cases tight kind text rest a n i e (literal_without_end h) = absurd (cc)
literal_cases tight kind text rest a n i e (bad_constant other h k) =
    let same : kind ≡ other = cc in inl (refl, refl, subst (λ (x : Kind). IsConstant x text → ⊥) (sym same) k)
literal_cases tight kind text rest a n i e (wide_literal h k l) = absurd (a (let same : kind ≡ Name = cc in same))
literal_cases tight kind text rest a n i e (trigraph j h k l) = inr (inl (refl, k, l))
literal_cases tight kind text rest a n i e (splice_between j h k l m o) = absurd (cc)
literal_cases tight kind text rest a n i e (splice_in_literal j h k l) = inr (inr (refl, k, l))

-- two numbers are in order
order : (a b : ℕ) → (a < b) ⊎ ((a ≡ b) ⊎ (b < a))
order zero zero = inr (inl refl)
order zero (suc b) = inl (omega arith)
order (suc a) zero = inr (inr (omega arith))
order (suc a) (suc b) = elim (order a b) [ inl h ↦ inl (omega arith) | inr h ↦ elim h [ inl k ↦ inr (inl (omega arith)) | inr k ↦ inr (inr (omega arith)) ] ]

-- a splice and a trigraph stand at no one place
apart : (t : List ℕ) → 0 < splice_length t → begins_trigraph t ≡ true → ⊥
unfolding splice_length
apart [] a b = omega arith
apart (c ∷ t) a b = let h = splice_head c t a in let k = trigraph_head c t b in omega arith

-- A literal or an include name with its first byte, and whether it is a constant.
record IsReadable (kind : Kind) (text rest : List ℕ) : Type 0 where
  first : ℕ
  others : List ℕ
  parts : text ≡ first ∷ others
  no_mark : first ≢ 63
  no_splice : first ≢ 92
  no_name : kind ≢ Name
  literal : is_literal (Lexeme kind) ≡ true
  constant : is_literal_constant text ≡ true → IsConstant kind text
  bad : is_literal_constant text ≡ false → IsConstant kind text → ⊥

-- X4 is the first row at a literal that is no constant
bad_literal : (tight : Bool) (kind : Kind) (text rest : List ℕ) → IsReadable kind text rest → is_literal_constant text ≡ false → IsFirstRow tight (Lexeme kind) text rest 4 0 (length text)
bad_literal tight kind text rest is e = record {
  row = bad_constant kind refl (is.bad e);
  first = λ m j d row. elim (literal_cases tight kind text rest is.no_name m j d row) [
    | inl (h, k, l) ↦ inr (sym k, subst (λ (x : ℕ). rank_of 4 ≤ rank_of x) (sym h) (rank_is 4))
    | inr other ↦ inl (elim other [
      | inl (h, k, l) ↦ trigraph_behind is.first j is.others rest is.no_mark (ap (λ (x : List ℕ). begins_trigraph (drop j (x ++ rest))) (sym is.parts) ∙ l)
      | inr (h, k, l) ↦ splice_behind is.first j is.others rest is.no_splice (subst (λ (x : List ℕ). 0 < splice_length (drop j (x ++ rest))) is.parts l)
    ])
  ];
}

-- a word is no comment
no_comment_word : (kind : Kind) → is_comment (Lexeme kind) ≡ false
unfolding is_comment
no_comment_word kind = refl

-- the first splice or trigraph is the first row at another one
marked_literal : (tight : Bool) (kind : Kind) (text rest : List ℕ) (fault : Fault) → IsReadable kind text rest → is_literal_constant text ≡ true
    → IsFirstMark 0 (length text) (text ++ rest) fault → IsFirst tight (Lexeme kind) text rest fault
marked_literal tight kind text rest fault is e mark = elim mark.is [
  | inl (f, some) ↦
      (let at_zero : 0 + mark.at ≡ mark.at = omega arith in
      let here : IsFirstRow tight (Lexeme kind) text rest 6 mark.at 1 = record {
        row = splice_in_literal mark.at is.literal mark.within some;
        first = λ m j d row. elim (literal_cases tight kind text rest is.no_name m j d row) [
          | inl (h, k, l) ↦ absurd (l (is.constant e))
          | inr other ↦ elim (order mark.at j) [
            | inl h ↦ inl h
            | inr later ↦ elim later [
              | inl same ↦ elim other [
                | inl (h, k, l) ↦ absurd (apart (drop mark.at (text ++ rest)) some (ap (λ (x : ℕ). begins_trigraph (drop x (text ++ rest))) same ∙ l))
                | inr (h, k, l) ↦ inr (same, subst (λ (x : ℕ). rank_of 6 ≤ rank_of x) (sym h) (rank_is 6))
              ]
              | inr sooner ↦ absurd (let (x, y) = mark.before j sooner in elim other [ inl (h, k, l) ↦ cc | inr (h, k, l) ↦ omega arith ])
            ]
          ]
        ];
      } in
      subst (λ (x : Fault). IsFirst tight (Lexeme kind) text rest x) (ap (λ (x : ℕ). fault_of SpliceInWord x 1) (sym at_zero) ∙ f) here)
  | inr (f, none, some) ↦
      (let at_zero : 0 + mark.at ≡ mark.at = omega arith in
      let here : IsFirstRow tight (Lexeme kind) text rest 5 mark.at 3 = record {
        row = trigraph mark.at (no_comment_word kind) mark.within some;
        first = λ m j d row. elim (literal_cases tight kind text rest is.no_name m j d row) [
          | inl (h, k, l) ↦ absurd (l (is.constant e))
          | inr other ↦ elim (order mark.at j) [
            | inl h ↦ inl h
            | inr later ↦ elim later [
              | inl same ↦ elim other [
                | inl (h, k, l) ↦ inr (same, subst (λ (x : ℕ). rank_of 5 ≤ rank_of x) (sym h) (rank_is 5))
                | inr (h, k, l) ↦ absurd (let z : splice_length (drop j (text ++ rest)) ≡ 0 = ap (λ (x : ℕ). splice_length (drop x (text ++ rest))) (sym same) ∙ none in omega arith)
              ]
              | inr sooner ↦ absurd (let (x, y) = mark.before j sooner in elim other [ inl (h, k, l) ↦ cc | inr (h, k, l) ↦ omega arith ])
            ]
          ]
        ];
      } in
      subst (λ (x : Fault). IsFirst tight (Lexeme kind) text rest x) (ap (λ (x : ℕ). fault_of Trigraph x 3) (sym at_zero) ∙ f) here)
]

-- the first row at a literal is found
literal_first : (tight : Bool) (kind : Kind) (text rest : List ℕ) (fault : Fault) → IsReadable kind text rest → literal_fault text (text ++ rest) ≡ Some fault
    → IsFirst tight (Lexeme kind) text rest fault
unfolding literal_fault
literal_first tight kind text rest fault is e =
    decide (λ (o : Option Fault). o ≡ Some fault → IsFirst tight (Lexeme kind) text rest fault) (is_literal_constant text) _ _
    (λ h f. marked_literal tight kind text rest fault is h (mark_some 0 (length text) (text ++ rest) fault f))
    (λ h f. let g : fault_of BadConstant 0 (length text) ≡ fault = cc in subst (λ (x : Fault). IsFirst tight (Lexeme kind) text rest x) g (bad_literal tight kind text rest is h))
    e

-- where none is found, none holds
literal_none : (tight : Bool) (kind : Kind) (text rest : List ℕ) → IsReadable kind text rest → literal_fault text (text ++ rest) ≡ None → NoneHolds tight (Lexeme kind) text rest
unfolding literal_fault
literal_none tight kind text rest is e =
    decide (λ (o : Option Fault). o ≡ None → NoneHolds tight (Lexeme kind) text rest) (is_literal_constant text) _ _
    (λ h f n i d row. elim (literal_cases tight kind text rest is.no_name n i d row) [
      | inl (x, y, z) ↦ z (is.constant h)
      | inr other ↦ elim other [
        | inl (x, y, z) ↦ (let (p, q) = mark_none 0 (length text) (text ++ rest) f i y (omega (arith, length-append text rest)) in cc)
        | inr (x, y, z) ↦ (let (p, q) = mark_none 0 (length text) (text ++ rest) f i y (omega (arith, length-append text rest)) in omega arith)
      ]
    ])
    (λ h f. absurd (cc))
    e

-- a literal is read by what stands between its quotes
literal_of : (q : ℕ) (inside : List ℕ) → is_literal_constant (q ∷ (inside ++ q ∷ [])) ≡ (q == 60) || is_quoted_constant q inside
unfolding is_literal_constant
literal_of q inside =
    let n : length (inside ++ q ∷ []) - 1 ≡ length inside = omega (arith, length-append inside (q ∷ [])) in
    ap (λ (x : List ℕ). (q == 60) || is_quoted_constant q x) (ap (λ (k : ℕ). take k (inside ++ q ∷ [])) n ∙ take_at inside (q ∷ []) (length inside) refl)

-- a character constant that is read is one
char_constant : (text : List ℕ) → IsQuoted 39 text → is_literal_constant text ≡ true → (value : ℕ) × IsLiteral 39 text (value ∷ [])
char_constant text quoted e =
    let read = ap is_literal_constant (sym quoted.parts) ∙ e in
    let both = sym (literal_of 39 quoted.inside) ∙ read in
    let (value, characters) = char_yes quoted.inside both in
    (value, record { inside = quoted.inside; parts = quoted.parts; characters = characters })

-- one that is read as none is none
char_bad : (text : List ℕ) → is_literal_constant text ≡ false → (value : ℕ) × IsLiteral 39 text (value ∷ []) → ⊥
char_bad text e (value, is) =
    let read = ap is_literal_constant (sym is.parts) ∙ e in
    let both = sym (literal_of 39 is.inside) ∙ read in
    let k = yes_char is.inside value is.characters in cc

-- a string that is read is one
string_constant : (text : List ℕ) → IsQuoted 34 text → is_literal_constant text ≡ true → (values : List ℕ) × IsLiteral 34 text values
string_constant text quoted e =
    let read = ap is_literal_constant (sym quoted.parts) ∙ e in
    let both = sym (literal_of 34 quoted.inside) ∙ read in
    let (values, characters) = string_yes quoted.inside both in
    (values, record { inside = quoted.inside; parts = quoted.parts; characters = characters })

-- one that is read as none is none
string_bad : (text : List ℕ) → is_literal_constant text ≡ false → (values : List ℕ) × IsLiteral 34 text values → ⊥
string_bad text e (values, is) =
    let read = ap is_literal_constant (sym is.parts) ∙ e in
    let both = sym (literal_of 34 is.inside) ∙ read in
    let k = yes_string is.inside values is.characters in cc

-- a character constant can be read
readable_char : (text rest : List ℕ) → IsQuoted 39 text → IsReadable Char text rest
unfolding is_literal
readable_char text rest quoted = record {
  first = 39;
  others = quoted.inside ++ 39 ∷ [];
  parts = quoted.parts;
  no_mark = omega arith;
  no_splice = omega arith;
  no_name = λ h. cc;
  literal = refl;
  constant = char_constant text quoted;
  bad = char_bad text;
}

-- a quote is no `<`
no_quote_angle : (xs ys : List ℕ) → 34 ∷ xs ≡ 60 ∷ ys → ⊥
no_quote_angle xs ys e = let h = head_is 34 60 xs ys e in omega arith

-- a string can be read
readable_string : (text rest : List ℕ) → IsQuoted 34 text → IsReadable Str text rest
unfolding is_literal
readable_string text rest quoted = record {
  first = 34;
  others = quoted.inside ++ 34 ∷ [];
  parts = quoted.parts;
  no_mark = omega arith;
  no_splice = omega arith;
  no_name = λ h. cc;
  literal = refl;
  constant = λ e. inl (string_constant text quoted e);
  bad = λ e is. elim is [ inl x ↦ string_bad text e x | inr x ↦ no_quote_angle (quoted.inside ++ 34 ∷ []) (x.inside ++ 62 ∷ []) (sym quoted.parts ∙ x.parts) ];
}

-- an include name is read as well formed
angle_constant : (t : List ℕ) → is_literal_constant (60 ∷ t) ≡ true
unfolding is_literal_constant
angle_constant t = refl

-- an include name can be read
readable_header : (text rest : List ℕ) → IsHeaderName text → IsReadable Str text rest
unfolding is_literal
readable_header text rest header = record {
  first = 60;
  others = header.inside ++ 62 ∷ [];
  parts = header.parts;
  no_mark = omega arith;
  no_splice = omega arith;
  no_name = λ h. cc;
  literal = refl;
  constant = λ e. inr header;
  bad = λ e is. (let f = ap is_literal_constant (sym header.parts) ∙ e in let g = angle_constant (header.inside ++ 62 ∷ []) in cc);
}

-- a letter is a byte of a name
name_byte : (c : ℕ) → is_nondigit c ≡ true → is_name_byte c ≡ true
unfolding is_name_byte
name_byte c e = rw e refl

-- what cannot be is not
not_mark : (b : Bool) → (b ≡ true → ⊥) → not b ≡ true
not_mark true h = absurd (h refl)
not_mark false h = refl

-- no number begins with a question mark
head_mark : (c : ℕ) (t : List ℕ) → begins_number (c ∷ t) ≡ true → not (c == 63) ≡ true
unfolding is_digit
head_mark c t e = not_mark (c == 63) (λ h.
    let f = same_number c 63 h in
    elim (number_head c t e) [ inl k ↦ (let g = ap is_digit (sym f) ∙ k in cc) | inr (k, l) ↦ omega arith ])

-- a name has no question mark
name_mark : (text : List ℕ) → IsName text → HasNoMark text
unfolding is_name_byte is_nondigit is_digit
name_mark [] is = absurd is
name_mark (c ∷ cs) is = class_mark is_name_byte (c ∷ cs) refl (both_and (is_name_byte c) (list_all is_name_byte cs) (name_byte c is.0) is.1)

-- nor has a number
number_no_mark : (text : List ℕ) → IsNumber text → HasNoMark text
number_no_mark [] is = absurd is
number_no_mark (c ∷ cs) is = both_and _ _ (head_mark c cs is.0) (number_mark c cs is.1)

-- X4 holds at `L` before a quote
name_row : (tight : Bool) (text rest : List ℕ) → IsName text → text ≡ codes "L" → begins_with is_quote rest ≡ true → IsFirstRow tight (Lexeme Name) text rest 4 0 1
name_row tight text rest is wide quote = record {
  row = wide_literal refl wide quote;
  first = λ m j d row. (name_first tight text rest (name_mark text is) m j d row).2;
}

-- X4 holds at a number that is no constant
number_row : (tight : Bool) (text rest : List ℕ) → IsNumber text → (((constant : Integer) × (integer_constant text ≡ Some constant)) → ⊥) → IsFirstRow tight (Lexeme Number) text rest 4 0 (length text)
number_row tight text rest is bad = record {
  row = bad_constant Number refl bad;
  first = λ m j d row. (number_first tight text rest (number_no_mark text is) m j d row).1;
}

-- a number that is read as none is none
number_bad : (text : List ℕ) → is_some (integer_constant text) ≡ false → (constant : Integer) × (integer_constant text ≡ Some constant) → ⊥
number_bad text e (constant, is) = let f = ap is_some is in cc

-- a number that is read as a constant is one
number_good : (text : List ℕ) → is_some (integer_constant text) ≡ true → (constant : Integer) × (integer_constant text ≡ Some constant)
number_good text e = by (integer_constant text) refl e
  where
    by : (found : Option Integer) → integer_constant text ≡ found → is_some found ≡ true → (constant : Integer) × (integer_constant text ≡ Some constant)
    by None is e = absurd (cc)
    by (Some constant) is e = (constant, is)

-- only a trigraph holds at a punctuator
punct_marked : (tight : Bool) (text rest : List ℕ) → is_punctuator text ≡ true → (m j d : ℕ) → Row tight (Lexeme Punct) text rest m j d → begins_trigraph (text ++ rest) ≡ true
unfolding is_punctuator
punct_marked tight [] rest is m j d row = absurd (cc)
punct_marked tight (c ∷ t) rest is m j d row = (punct_first tight c t rest (punctuator_mark c t is) m j d row).0

-- X5 holds at a punctuator that begins a trigraph
punct_row : (tight : Bool) (text rest : List ℕ) → is_punctuator text ≡ true → begins_trigraph (text ++ rest) ≡ true → IsFirstRow tight (Lexeme Punct) text rest 5 0 3
unfolding is_punctuator
punct_row tight [] rest is mark = absurd (cc)
punct_row tight (c ∷ t) rest is mark = record {
  row = trigraph 0 (no_comment_word Punct) (omega arith) mark;
  first = λ m j d row. (punct_first tight c t rest (punctuator_mark c t is) m j d row).1;
}

-- the first row that holds at a word is found
word_row : (b tight : Bool) (kind : Kind) (text rest : List ℕ) (fault : Fault) → IsLexeme b kind text → word_fault kind text (text ++ rest) rest ≡ Some fault
    → IsFirst tight (Lexeme kind) text rest fault
unfolding word_fault
word_row b tight Name text rest fault is e =
    decide (λ (o : Option Fault). o ≡ Some fault → IsFirst tight (Lexeme Name) text rest fault) (bytes_eq text (codes "L") && begins_with is_quote rest) _ _
    (λ h f. let (x, y) = and_both (bytes_eq text (codes "L")) (begins_with is_quote rest) h in
    let g : fault_of BadConstant 0 1 ≡ fault = cc in
    subst (λ (z : Fault). IsFirst tight (Lexeme Name) text rest z) g (name_row tight text rest is (same_is text (codes "L") x) y))
    (λ h f. absurd (cc)) e
word_row b tight Number text rest fault is e =
    decide (λ (o : Option Fault). o ≡ Some fault → IsFirst tight (Lexeme Number) text rest fault) (is_some (integer_constant text)) _ _
    (λ h f. absurd (cc))
    (λ h f. let g : fault_of BadConstant 0 (length text) ≡ fault = cc in
    subst (λ (z : Fault). IsFirst tight (Lexeme Number) text rest z) g (number_row tight text rest is (number_bad text h))) e
word_row b tight Char text rest fault is e = literal_first tight Char text rest fault (readable_char text rest is) e
word_row b tight Str text rest fault (inl is) e = literal_first tight Str text rest fault (readable_string text rest is) e
word_row b tight Str text rest fault (inr (asked, is)) e = literal_first tight Str text rest fault (readable_header text rest is) e
word_row b tight Punct text rest fault is e =
    decide (λ (o : Option Fault). o ≡ Some fault → IsFirst tight (Lexeme Punct) text rest fault) (begins_trigraph (text ++ rest)) _ _
    (λ h f. let g : fault_of Trigraph 0 3 ≡ fault = cc in
    subst (λ (z : Fault). IsFirst tight (Lexeme Punct) text rest z) g (punct_row tight text rest is h))
    (λ h f. absurd (cc)) e
word_row b tight Mark text rest fault is e = absurd is

-- where none is found at a word, none holds
word_none : (b tight : Bool) (kind : Kind) (text rest : List ℕ) → IsLexeme b kind text → word_fault kind text (text ++ rest) rest ≡ None → NoneHolds tight (Lexeme kind) text rest
unfolding word_fault
word_none b tight Name text rest is e n i d row =
    let (x, y, z) = name_first tight text rest (name_mark text is) n i d row in
    let h : bytes_eq text (codes "L") ≡ true = ap (λ (t : List ℕ). bytes_eq t (codes "L")) x ∙ is_same (codes "L") in
    let f = both_and _ _ h y in
    let g = rw f at e in cc
word_none b tight Number text rest is e n i d row =
    let (x, y) = number_first tight text rest (number_no_mark text is) n i d row in
    elim (is_either (is_some (integer_constant text))) [ inl h ↦ x (number_good text h) | inr h ↦ (let g = rw h at e in cc) ]
word_none b tight Char text rest is e n i d row = literal_none tight Char text rest (readable_char text rest is) e n i d row
word_none b tight Str text rest (inl is) e n i d row = literal_none tight Str text rest (readable_string text rest is) e n i d row
word_none b tight Str text rest (inr (asked, is)) e n i d row = literal_none tight Str text rest (readable_header text rest is) e n i d row
word_none b tight Punct text rest is e n i d row = let f = punct_marked tight text rest is n i d row in let g = rw f at e in cc
word_none b tight Mark text rest is e n i d row = absurd is

-- the first row that holds is found
pub first_row : (after_include tight : Bool) (piece : Piece) (text rest : List ℕ) (fault : Fault) → IsPiece after_include piece text rest
    → fault_at tight piece text (text ++ rest) rest ≡ Some fault → IsFirstRow tight piece text rest (word_number fault.code) fault.offset fault.extent
unfolding fault_at
first_row b tight Blank text rest fault is e = absurd (cc)
first_row b tight Comment text rest fault is e = absurd (cc)
first_row b tight Splices text rest fault is e =
    decide (λ (o : Option Fault). o ≡ Some fault → IsFirst tight Splices text rest fault) (tight && is_tight rest) _ _
    (λ h f. let (x, y) = and_both tight (is_tight rest) h in
    let g : fault_of SpliceInWord 0 1 ≡ fault = cc in subst (λ (z : Fault). IsFirst tight Splices text rest z) g (splices_row tight text rest is.0 x y))
    (λ h f. absurd (cc)) e
first_row b tight OpenComment text rest fault is e =
    let g : fault_of CommentWithoutEnd 0 2 ≡ fault = cc in subst (λ (z : Fault). IsFirst tight OpenComment text rest z) g (open_comment_row tight text rest)
first_row b tight OpenLiteral text rest fault is e =
    let g : fault_of LiteralWithoutEnd 0 1 ≡ fault = cc in subst (λ (z : Fault). IsFirst tight OpenLiteral text rest z) g (open_literal_row tight text rest is)
first_row b tight Stray text rest fault is e =
    let g : fault_of BadByte 0 1 ≡ fault = cc in subst (λ (z : Fault). IsFirst tight Stray text rest z) g (stray_row b tight text rest is)
first_row b tight (Lexeme kind) text rest fault (is, comment) e = word_row b tight kind text rest fault is.lexeme e

-- where none is found, none holds
pub no_row : (after_include tight : Bool) (piece : Piece) (text rest : List ℕ) → IsPiece after_include piece text rest
    → fault_at tight piece text (text ++ rest) rest ≡ None → (n i e : ℕ) → Row tight piece text rest n i e → ⊥
unfolding fault_at
no_row b tight Blank text rest (c, parts, blank) none n i e row = blank_row tight c text rest parts blank n i e row
no_row b tight Comment text rest is none n i e row = comment_row tight text rest n i e row
no_row b tight Splices text rest is none n i e row =
    let (x, y, z) = splices_first tight text rest (all_splices_mark text is.0.only) n i e row in
    let f = both_and tight (is_tight rest) x y in
    let g = rw f at none in cc
no_row b tight OpenComment text rest is none n i e row = cc
no_row b tight OpenLiteral text rest is none n i e row = cc
no_row b tight Stray text rest is none n i e row = cc
no_row b tight (Lexeme kind) text rest (is, comment) none n i e row = word_none b tight kind text rest is.lexeme none n i e row
