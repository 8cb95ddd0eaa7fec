-- The first row that holds at a piece is found.
use Rattle.std.proofs.Common.{◌≡◌, ◌≢◌, ℕ, zero, suc, ◌<◌, ◌≤◌, List, [], ◌∷◌, ◌++◌, length, drop, refl, sym, ◌∙◌, ap, subst, arith, Bool, true, ◌⊎◌, inl, inr}
use Rattle.std.specs.Prelude.{nat_lt}
use Rattle.std.specs.List.{list_all}
use Rattle.std.proofs.lemmas.Bool.Decides.{nat_tests}
use Rattle.p10_base.specs.declared.word.Kind.{Kind}
use Rattle.p10_base.specs.declared.word.Kind.TheVariants.{Name, Number, Char, Str, Punct, Mark}
use Rattle.p10_lex.specs.declared.pieces.Piece.{Piece}
use Rattle.p10_lex.specs.declared.pieces.Piece.TheVariants.{Blank, Splices, Comment, OpenComment, OpenLiteral, Stray, Lexeme}
use Rattle.p10_lex.specs.declared.faults.Fault.{Fault}
use Rattle.p10_lex.specs.Splices.{splice_length, AreSplices, joined_after}
use Rattle.p10_lex.specs.Constants.{IsConstant}
use Rattle.p10_lex.specs.Bytes.{is_quote, is_blank}
use Rattle.p10_lex.specs.Lexemes.{is_punctuator, single_punctuators}
use Rattle.p10_lex.specs.Pieces.{IsStray, IsOpenLiteral}
use Rattle.p10_lex.specs.Refusals.{begins_trigraph, is_tight, is_literal, is_comment, Row, bad_byte, comment_without_end, literal_without_end, bad_constant, wide_literal, trigraph, splice_between, splice_in_literal, rank_of}
use Rattle.p10_lex.proofs.Classes.{both_and}
use Rattle.p10_lex.proofs.SpliceLaws.{is_either, splice_more, positive}
use Rattle.p10_lex.proofs.Marked.{HasNoMark, trigraph_head, splice_head, no_trigraph, class_mark, all_splices_mark}
use Rattle.p10_base.specs.Codes.{word_number}

-- no row that holds at the piece is answered before this one
pub record IsFirstRow (tight : Bool) (piece : Piece) (text rest : List ℕ) (n i e : ℕ) : Type 0 where
  pub row : Row tight piece text rest n i e
  pub first : (m j d : ℕ) → Row tight piece text rest m j d → (i < j) ⊎ ((i ≡ j) × (rank_of n ≤ rank_of m))

-- a row holds within its piece
pub row_within : {tight : Bool} {piece : Piece} {text rest : List ℕ} {n i e : ℕ} → Row tight piece text rest n i e → 0 < length text → i < length text
row_within (bad_byte e) some = some
row_within (comment_without_end e) some = some
row_within (literal_without_end e) some = some
row_within (bad_constant kind e h) some = some
row_within (wide_literal e h k) some = some
row_within (trigraph i h k l) some = k
row_within (splice_between i h k l m o) some = m
row_within (splice_in_literal i h k l) some = k

-- each name is what its kind says
name_constant : {piece : Piece} (text : List ℕ) (kind : Kind) → piece ≡ Lexeme kind → piece ≡ Lexeme Name → (IsConstant kind text → ⊥) → ⊥
name_constant text Name e f h = h tt
name_constant text Number e f h = cc
name_constant text Char e f h = cc
name_constant text Str e f h = cc
name_constant text Punct e f h = cc
name_constant text Mark e f h = cc

-- rows of one number at one place have one extent
pub row_extent : {tight : Bool} {piece : Piece} {text rest : List ℕ} {n i d e : ℕ} → Row tight piece text rest n i d → Row tight piece text rest n i e → d ≡ e
row_extent (bad_byte a) (bad_byte b) = refl
row_extent (comment_without_end a) (comment_without_end b) = refl
row_extent (literal_without_end a) (literal_without_end b) = refl
row_extent (bad_constant kind a h) (bad_constant kind' b k) = refl
row_extent (bad_constant kind a h) (wide_literal b k l) = absurd (name_constant _ kind a b h)
row_extent (wide_literal b k l) (bad_constant kind a h) = absurd (name_constant _ kind a b h)
row_extent (wide_literal a h k) (wide_literal b l m) = refl
row_extent (trigraph i a b c) (trigraph i' d e f) = refl
row_extent (splice_between i a b c d e) (splice_between i' f g h k l) = refl
row_extent (splice_between i a b c d e) (splice_in_literal i' f g h) = refl
row_extent (splice_in_literal i a b c) (splice_between i' f g h k l) = refl
row_extent (splice_in_literal i a b c) (splice_in_literal i' d e f) = refl

-- the numbers of rows
pub row_number : {tight : Bool} {piece : Piece} {text rest : List ℕ} {n i e : ℕ} → Row tight piece text rest n i e → (0 < n) × (n < 7)
row_number (bad_byte e) = (omega arith, omega arith)
row_number (comment_without_end e) = (omega arith, omega arith)
row_number (literal_without_end e) = (omega arith, omega arith)
row_number (bad_constant kind e h) = (omega arith, omega arith)
row_number (wide_literal e h k) = (omega arith, omega arith)
row_number (trigraph i h k l) = (omega arith, omega arith)
row_number (splice_between i h k l m o) = (omega arith, omega arith)
row_number (splice_in_literal i h k l) = (omega arith, omega arith)

-- ranks tell the rows apart
pub same_rank : (m n : ℕ) → 0 < m → m < 7 → 0 < n → n < 7 → rank_of m ≡ rank_of n → m ≡ n
unfolding rank_of
same_rank m n a b c d e = grind (arith, nat_tests)

-- the first row that holds at a piece is this fault's
abbrev pub IsFirst : Bool → Piece → List ℕ → List ℕ → Fault → Type 0
IsFirst tight piece text rest fault = IsFirstRow tight piece text rest (word_number fault.code) fault.offset fault.extent

-- no row holds at a piece
abbrev pub NoneHolds : Bool → Piece → List ℕ → List ℕ → Type 0
NoneHolds tight piece text rest = (n i e : ℕ) → Row tight piece text rest n i e → ⊥

-- a rank is as low as itself
pub rank_is : (n : ℕ) → rank_of n ≤ rank_of n
rank_is n = omega arith

-- no row holds at white space
pub blank_row : (tight : Bool) (c : ℕ) (text rest : List ℕ) → text ≡ c ∷ [] → is_blank c ≡ true → NoneHolds tight Blank text rest
unfolding is_literal is_blank
blank_row tight c text rest parts blank n i e (bad_byte h) = cc
blank_row tight c text rest parts blank n i e (comment_without_end h) = cc
blank_row tight c text rest parts blank n i e (literal_without_end h) = cc
blank_row tight c text rest parts blank n i e (bad_constant kind h k) = cc
blank_row tight c text rest parts blank n i e (wide_literal h k l) = cc
blank_row tight c text rest parts blank n i e (trigraph j h k l) =
    no_trigraph text rest j (class_mark is_blank text refl (ap (list_all is_blank) parts ∙ both_and (is_blank c) true blank refl)) k l
blank_row tight c text rest parts blank n i e (splice_between j h k l m o) = cc
blank_row tight c text rest parts blank n i e (splice_in_literal j h k l) = cc

-- no row holds at a comment
pub comment_row : (tight : Bool) (text rest : List ℕ) → NoneHolds tight Comment text rest
unfolding is_literal is_comment
comment_row tight text rest n i e (bad_byte h) = cc
comment_row tight text rest n i e (comment_without_end h) = cc
comment_row tight text rest n i e (literal_without_end h) = cc
comment_row tight text rest n i e (bad_constant kind h k) = cc
comment_row tight text rest n i e (wide_literal h k l) = cc
comment_row tight text rest n i e (trigraph j h k l) = cc
comment_row tight text rest n i e (splice_between j h k l m o) = cc
comment_row tight text rest n i e (splice_in_literal j h k l) = cc

-- X2 is the first row at a comment without end
open_comment_first : (tight : Bool) (text rest : List ℕ) (m j d : ℕ) → Row tight OpenComment text rest m j d → (0 < j) ⊎ ((0 ≡ j) × (rank_of 2 ≤ rank_of m))
unfolding is_literal is_comment
open_comment_first tight text rest n i e (bad_byte h) = absurd (cc)
open_comment_first tight text rest n i e (comment_without_end h) = inr (refl, rank_is 2)
open_comment_first tight text rest n i e (literal_without_end h) = absurd (cc)
open_comment_first tight text rest n i e (bad_constant kind h k) = absurd (cc)
open_comment_first tight text rest n i e (wide_literal h k l) = absurd (cc)
open_comment_first tight text rest n i e (trigraph j h k l) = absurd (cc)
open_comment_first tight text rest n i e (splice_between j h k l m o) = absurd (cc)
open_comment_first tight text rest n i e (splice_in_literal j h k l) = absurd (cc)

-- and it holds
pub open_comment_row : (tight : Bool) (text rest : List ℕ) → IsFirstRow tight OpenComment text rest 2 0 2
open_comment_row tight text rest = record { row = comment_without_end refl; first = open_comment_first tight text rest }

-- here or further on
pub at_or_behind : (i : ℕ) → (0 ≡ i) ⊎ (0 < i)
at_or_behind zero = inl refl
at_or_behind (suc i) = inr (omega arith)

-- where a text begins with another byte, a trigraph stands further on
pub trigraph_behind : (c j : ℕ) (t rest : List ℕ) → c ≢ 63 → begins_trigraph (drop j ((c ∷ t) ++ rest)) ≡ true → 0 < j
trigraph_behind c zero t rest ne e = absurd (ne (trigraph_head c (t ++ rest) e))
trigraph_behind c (suc j) t rest ne e = omega arith

-- where a text begins with another byte, a splice stands further on
pub splice_behind : (c j : ℕ) (t rest : List ℕ) → c ≢ 92 → 0 < splice_length (drop j ((c ∷ t) ++ rest)) → 0 < j
splice_behind c zero t rest ne e = absurd (ne (splice_head c (t ++ rest) e))
splice_behind c (suc j) t rest ne e = omega arith

-- X3 is the first row at a literal without end
open_literal_first : (tight : Bool) (q : ℕ) (body rest : List ℕ) → q ≢ 63 → q ≢ 92 → (m j d : ℕ) → Row tight OpenLiteral (q ∷ body) rest m j d → (0 < j) ⊎ ((0 ≡ j) × (rank_of 3 ≤ rank_of m))
open_literal_first tight q body rest a b n i e (bad_byte h) = absurd (cc)
open_literal_first tight q body rest a b n i e (comment_without_end h) = absurd (cc)
open_literal_first tight q body rest a b n i e (literal_without_end h) = inr (refl, rank_is 3)
open_literal_first tight q body rest a b n i e (bad_constant kind h k) = absurd (cc)
open_literal_first tight q body rest a b n i e (wide_literal h k l) = absurd (cc)
open_literal_first tight q body rest a b n i e (trigraph j h k l) = inl (trigraph_behind q j body rest a l)
open_literal_first tight q body rest a b n i e (splice_between j h k l m o) = absurd (cc)
open_literal_first tight q body rest a b n i e (splice_in_literal j h k l) = inl (splice_behind q j body rest b l)

-- a quote is no question mark and no backslash
quote_no_mark : (q : ℕ) → is_quote q ≡ true → (q ≢ 63) × (q ≢ 92)
unfolding is_quote
quote_no_mark q e = (λ h. (let f = ap is_quote (sym h) ∙ e in cc), λ h. (let f = ap is_quote (sym h) ∙ e in cc))

-- and it holds
pub open_literal_row : (tight : Bool) (text rest : List ℕ) → IsOpenLiteral text rest → IsFirstRow tight OpenLiteral text rest 3 0 1
open_literal_row tight text rest is =
    let (a, b) = quote_no_mark is.quote is.quoted in
    subst (λ (x : List ℕ). IsFirstRow tight OpenLiteral x rest 3 0 1) (sym is.parts)
    (record { row = literal_without_end refl; first = open_literal_first tight is.quote is.body rest a b })

-- X1 is the first row at a byte that begins nothing
stray_first : (tight : Bool) (c : ℕ) (rest : List ℕ) → c ≢ 63 → (m j d : ℕ) → Row tight Stray (c ∷ []) rest m j d → (0 < j) ⊎ ((0 ≡ j) × (rank_of 1 ≤ rank_of m))
unfolding is_literal
stray_first tight c rest a n i e (bad_byte h) = inr (refl, rank_is 1)
stray_first tight c rest a n i e (comment_without_end h) = absurd (cc)
stray_first tight c rest a n i e (literal_without_end h) = absurd (cc)
stray_first tight c rest a n i e (bad_constant kind h k) = absurd (cc)
stray_first tight c rest a n i e (wide_literal h k l) = absurd (cc)
stray_first tight c rest a n i e (trigraph j h k l) = inl (trigraph_behind c j [] rest a l)
stray_first tight c rest a n i e (splice_between j h k l m o) = absurd (cc)
stray_first tight c rest a n i e (splice_in_literal j h k l) = absurd (cc)

-- a question mark is a punctuator
question_mark : is_punctuator (63 ∷ []) ≡ true
unfolding is_punctuator single_punctuators
question_mark = refl

-- and it holds
pub stray_row : (b tight : Bool) (text rest : List ℕ) → IsStray b text rest → IsFirstRow tight Stray text rest 1 0 1
stray_row b tight text rest is =
    let a : is.byte ≢ 63 = λ h. is.no_word Punct (is.byte ∷ []) rest refl (subst (λ (x : ℕ). is_punctuator (x ∷ []) ≡ true) (sym h) question_mark) in
    subst (λ (x : List ℕ). IsFirstRow tight Stray x rest 1 0 1) (sym is.parts)
    (record { row = bad_byte refl; first = stray_first tight is.byte rest a })

-- rows at splices
pub splices_first : (tight : Bool) (text rest : List ℕ) → HasNoMark text → (m j d : ℕ) → Row tight Splices text rest m j d
    → (tight ≡ true) × (is_tight rest ≡ true) × ((0 < j) ⊎ ((0 ≡ j) × (rank_of 6 ≤ rank_of m)))
unfolding is_literal
splices_first tight text rest a n i e (bad_byte h) = absurd (cc)
splices_first tight text rest a n i e (comment_without_end h) = absurd (cc)
splices_first tight text rest a n i e (literal_without_end h) = absurd (cc)
splices_first tight text rest a n i e (bad_constant kind h k) = absurd (cc)
splices_first tight text rest a n i e (wide_literal h k l) = absurd (cc)
splices_first tight text rest a n i e (trigraph j h k l) = absurd (no_trigraph text rest j a k l)
splices_first tight text rest a n i e (splice_between j h k l m o) = (k, l, elim (at_or_behind j) [ inl x ↦ inr (x, rank_is 6) | inr x ↦ inl x ])
splices_first tight text rest a n i e (splice_in_literal j h k l) = absurd (cc)

-- splices begin with a splice
first_splice : (c : ℕ) (t : List ℕ) → joined_after 0 (c ∷ t) ≡ [] → 0 < splice_length (c ∷ t)
unfolding joined_after
first_splice c t e = elim (is_either (nat_lt 0 (splice_length (c ∷ t)))) [
  | inl h ↦ positive _ h
  | inr h ↦ absurd (let f = rw h at e in cc)
]

-- X6 holds at splices between two tight places
pub splices_row : (tight : Bool) (text rest : List ℕ) → AreSplices text → tight ≡ true → is_tight rest ≡ true → IsFirstRow tight Splices text rest 6 0 1
splices_row tight [] rest are a b = absurd (are.some refl)
splices_row tight (c ∷ t) rest are a b =
    let some = first_splice c t are.only in
    let more : splice_length (c ∷ (t ++ rest)) ≡ splice_length (c ∷ t) = splice_more (c ∷ t) rest some in record {
      row = splice_between 0 refl a b (omega arith) (omega arith);
      first = λ m j d row. (splices_first tight (c ∷ t) rest (all_splices_mark (c ∷ t) are.only) m j d row).2;
    }
