-- The words of a file are lexemes that end no line.
use Rattle.std.proofs.Common.{◌≡◌, ℕ, suc, ◌+◌, ◌<◌, ◌==◌, List, [], ◌∷◌, ◌++◌, length, drop, Bool, true, false, ◌&&◌, not, true≢false, refl, sym, ap, ◌∙◌, subst, inl, inr, arith, append_assoc, length-append, nat_lt, bytes_eq, Option, None, Ok}
use Rattle.std.proofs.lemmas.Bool.{false≢true}
use Rattle.std.specs.List.{AllByRecursion, list_all, list_any}
use Rattle.p10_base.specs.declared.report.Refusal.{Refusal}
use Rattle.p10_base.specs.declared.word.Kind.{Kind}
use Rattle.p10_base.specs.declared.word.Kind.TheVariants.{Name, Number, Char, Str, Punct, Mark}
use Rattle.p10_base.specs.Words.{Text, PlainWord}
use Rattle.p10_lex.specs.declared.pieces.Piece.{Piece}
use Rattle.p10_lex.specs.declared.pieces.Piece.TheVariants.{Blank, Splices, Comment, OpenComment, OpenLiteral, Stray, Lexeme}
use Rattle.p10_lex.specs.Bytes.{is_blank, is_nondigit, is_digit, is_name_byte, is_sign}
use Rattle.p10_lex.specs.Splices.{splice_length, joined, joined_after}
use Rattle.p10_lex.specs.Lexemes.{IsName, goes_on_number, all_go_on_number, IsNumber, is_quotable, IsQuoted, is_header_byte, single_punctuators, double_punctuators, triple_punctuators, is_punctuator, IsLexeme}
use Rattle.p10_lex.specs.Pieces.{IsPiece, State, beginning, is_include, word_before}
use Rattle.p10_lex.specs.Refusals.{is_literal, Row, splice_in_literal}
use Rattle.p10_lex.specs.Lexes.{Answers}
use Rattle.p10_lex.proofs.Classes.{and_both, or_either, not_true, number_same, any_byte, number_not_blank}
use Rattle.p10_lex.proofs.SpliceLaws.{splice_more, positive}
use Rattle.p10_lex.proofs.Punctuation.{same_is}
use Rattle.p10_lex.proofs.FirstRefusal.{Gives, ends, stops, goes_on}
use Rattle.p10_lex.proofs.Answering.{total}
use Rattle.p10_lex.proofs.Uniqueness.{lexes_is}

-- no byte ends a line
abbrev pub EndsNoLine : Text → Type 0
EndsNoLine text = AllByRecursion (λ b. b ≡ 10 → ⊥) text

-- a word is a lexeme that ends no line
pub record IsWordLexed (word : PlainWord) : Type 0 where
  pub after_include : Bool
  pub lexeme : IsLexeme after_include word.kind word.text
  pub line : EndsNoLine word.text

-- ## Classes of bytes

-- a byte that passes a test isn't one that doesn't
other_byte : (test : ℕ → Bool) (c d : ℕ) → test c ≡ true → test d ≡ false → c ≡ d → ⊥
other_byte test c d on off same = true≢false (sym on ∙ ap test same ∙ off)

-- where each byte passes a test that a line feed doesn't pass, no line ends
passed_lines : (test : ℕ → Bool) (text : Text) → test 10 ≡ false → list_all test text ≡ true → EndsNoLine text
passed_lines test [] off all = tt
passed_lines test (c ∷ text) off all = let (here, rest) = and_both (test c) (list_all test text) all in (other_byte test c 10 here off, passed_lines test text off rest)

both_lines : (text more : Text) → EndsNoLine text → EndsNoLine more → EndsNoLine (text ++ more)
both_lines [] more a b = b
both_lines (c ∷ text) more a b = (a.0, both_lines text more a.1 b)

any_text : (test : Text → Bool) (texts : List Text) (text : Text) → list_all test texts ≡ true → list_any (bytes_eq text) texts ≡ true → test text ≡ true
any_text test [] text all any = absurd (false≢true any)
any_text test (t ∷ texts) text all any =
    let (here, rest) = and_both (test t) (list_all test texts) all in
    elim (or_either (bytes_eq text t) (list_any (bytes_eq text) texts) any) [ inl e ↦ ap test (same_is text t e) ∙ here | inr e ↦ any_text test texts text rest e ]

-- what is true of each punctuator
each_punctuator : (test : Text → Bool) → list_all (λ c. test (c ∷ [])) single_punctuators ≡ true → list_all test double_punctuators ≡ true → list_all test triple_punctuators ≡ true
    → (text : Text) → is_punctuator text ≡ true → test text ≡ true
unfolding is_punctuator
each_punctuator test one two three [] is = absurd (false≢true is)
each_punctuator test one two three (a ∷ []) is = any_byte (λ c. test (c ∷ [])) single_punctuators a one is
each_punctuator test one two three (a ∷ b ∷ []) is = any_text test double_punctuators (a ∷ b ∷ []) two is
each_punctuator test one two three (a ∷ b ∷ c ∷ []) is = any_text test triple_punctuators (a ∷ b ∷ c ∷ []) three is
each_punctuator test one two three (a ∷ b ∷ c ∷ d ∷ text) is = absurd (false≢true is)

-- ## Lines

nondigit_feed : is_nondigit 10 ≡ false
unfolding is_nondigit
nondigit_feed = refl

name_feed : is_name_byte 10 ≡ false
unfolding is_name_byte is_nondigit is_digit
name_feed = refl

blank_feed : is_blank 10 ≡ true
unfolding is_blank
blank_feed = refl

number_feed : (old : ℕ) → goes_on_number old 10 ≡ false
unfolding goes_on_number is_name_byte is_nondigit is_digit is_sign
number_feed old = refl

header_feed : is_header_byte 10 ≡ false
unfolding is_header_byte
header_feed = refl

name_lines : (text : Text) → IsName text → EndsNoLine text
name_lines [] is = absurd is
name_lines (c ∷ text) is = (other_byte is_nondigit c 10 is.0 nondigit_feed, passed_lines is_name_byte text name_feed is.1)

going_lines : (old : ℕ) (text : Text) → all_go_on_number old text ≡ true → EndsNoLine text
unfolding all_go_on_number
going_lines old [] all = tt
going_lines old (c ∷ text) all =
    let (here, rest) = and_both (goes_on_number old c) (all_go_on_number c text) all in (other_byte (goes_on_number old) c 10 here (number_feed old), going_lines c text rest)

number_lines : (text : Text) → IsNumber text → EndsNoLine text
number_lines [] is = absurd is
number_lines (c ∷ text) is = ((λ e. false≢true (sym (number_not_blank c text is.0).0 ∙ ap is_blank e ∙ blank_feed)), going_lines c text is.1)

no_feed : (c : ℕ) → not (c == 10) ≡ true → c ≡ 10 → ⊥
no_feed c is same = true≢false (sym (number_same c 10 same) ∙ not_true (c == 10) is)

quotable_lines : (quote : ℕ) (escaped : Bool) (text : Text) → is_quotable quote escaped text ≡ true → EndsNoLine text
unfolding is_quotable
quotable_lines quote true [] is = tt
quotable_lines quote false [] is = tt
quotable_lines quote true (c ∷ text) is = let (here, rest) = and_both (not (c == 10)) (is_quotable quote false text) is in (no_feed c here, quotable_lines quote false text rest)
quotable_lines quote false (c ∷ text) is =
    let (here, more) = and_both (not (c == 10)) (not (c == quote) && is_quotable quote (c == 92) text) is in
    let (other, rest) = and_both (not (c == quote)) (is_quotable quote (c == 92) text) more in
    (no_feed c here, quotable_lines quote (c == 92) text rest)

-- ### Literals, which have no splices

-- no splice begins in the text, where others follow it
abbrev HasNoSplice : Text → Text → Type 0
HasNoSplice text more = (i : ℕ) → i < length text → 0 < splice_length (drop i (text ++ more)) → ⊥

joined_by : (c : ℕ) (text more : Text) (b : Bool) → nat_lt 0 (splice_length (c ∷ text)) ≡ b → (0 < splice_length ((c ∷ text) ++ more) → ⊥) → joined text ≡ text → joined (c ∷ text) ≡ c ∷ text
unfolding joined_after
joined_by c text more true is none rest = let some = positive (splice_length (c ∷ text)) is in absurd (none (omega (arith, some, splice_more (c ∷ text) more some)))
joined_by c text more false is none rest = rw is (ap (λ t. c ∷ t) rest)

nothing_joined : joined [] ≡ []
unfolding joined_after
nothing_joined = refl

unspliced : (text more : Text) → HasNoSplice text more → joined text ≡ text
unspliced [] more none = nothing_joined
unspliced (c ∷ text) more none =
    joined_by c text more (nat_lt 0 (splice_length (c ∷ text))) refl (λ some. none 0 (omega arith) some) (unspliced text more (λ i lower some. none (suc i) (omega (arith, lower)) some))

quoted_lines : (quote : ℕ) (text rest : Text) → (quote ≡ 10 → ⊥) → IsQuoted quote text → HasNoSplice text rest → EndsNoLine text
quoted_lines quote text rest other is none =
    let inside : Text = is.inside in
    let long : length text ≡ suc (length inside + 1) = ap length is.parts ∙ ap suc (length-append inside (quote ∷ [])) in
    let none_inside : HasNoSplice inside (quote ∷ rest) =
    λ i lower some. none (suc i) (omega (arith, lower, long)) (subst (λ t. 0 < splice_length t) (sym (ap (λ t. drop (suc i) (t ++ rest)) is.parts ∙ ap (drop i) (append_assoc inside (quote ∷ []) rest))) some) in
    let quotable : is_quotable quote false inside ≡ true = subst (λ t. is_quotable quote false t ≡ true) (unspliced inside (quote ∷ rest) none_inside) is.quotable in
    subst EndsNoLine (sym is.parts) (other, both_lines inside (quote ∷ []) (quotable_lines quote false inside quotable) (other, tt))

char_literal : is_literal (Lexeme Char) ≡ true
unfolding is_literal
char_literal = refl

string_literal : is_literal (Lexeme Str) ≡ true
unfolding is_literal
string_literal = refl

punctuator_lines : (text : Text) → is_punctuator text ≡ true → EndsNoLine text
unfolding single_punctuators double_punctuators triple_punctuators
punctuator_lines text is = passed_lines (λ c. not (c == 10)) text refl (each_punctuator (list_all (λ c. not (c == 10))) refl refl refl text is)

-- a lexeme ends no line, where it is no literal with a splice
lexeme_lines : (after_include : Bool) (kind : Kind) (text rest : Text) → IsLexeme after_include kind text → (is_literal (Lexeme kind) ≡ true → HasNoSplice text rest) → EndsNoLine text
lexeme_lines b Name text rest is none = name_lines text is
lexeme_lines b Number text rest is none = number_lines text is
lexeme_lines b Char text rest is none = quoted_lines 39 text rest (λ e. omega (arith, e)) is (none char_literal)
lexeme_lines b Str text rest (inl is) none = quoted_lines 34 text rest (λ e. omega (arith, e)) is (none string_literal)
lexeme_lines b Str text rest (inr (after, is)) none =
    subst EndsNoLine (sym is.parts) ((λ e. omega (arith, e)), both_lines is.inside (62 ∷ []) (passed_lines is_header_byte is.inside header_feed is.one_line) ((λ e. omega (arith, e)), tt))
lexeme_lines b Punct text rest is none = punctuator_lines text is
lexeme_lines b Mark text rest is none = absurd is

-- ## Words

before_lexed : (file : ℕ) (s : State) (piece : Piece) (text rest : Text) (words : List PlainWord) → IsPiece (is_include s.line) piece text rest → ((n i e : ℕ) → Row s.tight piece text rest n i e → ⊥)
    → AllByRecursion IsWordLexed words → AllByRecursion IsWordLexed (word_before file s.place s.line piece text words)
unfolding word_before
before_lexed file s (Lexeme kind) text rest words is none lexed = (
  record {
    after_include = is_include s.line;
    lexeme = is.0.lexeme;
    line = lexeme_lines (is_include s.line) kind text rest is.0.lexeme (λ literal i lower some. none _ _ _ (splice_in_literal i literal lower some));
  },
  lexed,
)
before_lexed file s Blank text rest words is none lexed = lexed
before_lexed file s Splices text rest words is none lexed = lexed
before_lexed file s Comment text rest words is none lexed = lexed
before_lexed file s OpenComment text rest words is none lexed = lexed
before_lexed file s OpenLiteral text rest words is none lexed = lexed
before_lexed file s Stray text rest words is none lexed = lexed

given_lexed : {file : ℕ} {s : State} {bytes : Text} {words : List PlainWord} (end : Option Refusal) → Gives file s bytes words end → end ≡ None → AllByRecursion IsWordLexed words
given_lexed _ (ends s) e = tt
given_lexed _ (stops s piece text rest whole n i x parts is first) e = absurd (cc)
given_lexed {file} _ (goes_on s piece text rest whole words end parts is none gives) e = before_lexed file s piece text rest words is none (given_lexed end gives e)

-- the words of a file
pub answer_lexed : (file : ℕ) (bytes : Text) (words : List PlainWord) → Answers file bytes (Ok words) → AllByRecursion IsWordLexed words
answer_lexed file bytes words (small, few, is) =
    let (found, end, gives) = total (length bytes) file beginning bytes (omega arith) in
    let (none, same) = lexes_is file bytes words found end gives is in
    subst (AllByRecursion IsWordLexed) (sym same) (given_lexed end gives none)
