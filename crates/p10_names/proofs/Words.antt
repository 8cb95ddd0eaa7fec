-- Words of an expansion that are names are names of C.
use Rattle.std.proofs.Common.{◌≡◌, ℕ, Bool, true, false, List, [], ◌∷◌, ◌++◌, refl, sym, ap, ◌∙◌, subst}
use Rattle.std.specs.Prelude.{◌||◌, ◌&&◌, ◌==◌, All, nat_le, nat_lt, drop, if◌then◌else◌}
use Rattle.std.specs.List.{list_all}
use Rattle.std.proofs.lemmas.Bool.{and_parts}
use Rattle.std.proofs.lemmas.List.Elements.{All-contains, All-nil, All-cons}
use Rattle.p10_base.specs.declared.word.Kind.TheVariants as kind
use Rattle.p10_base.specs.Gathered.{Gathered, text_of}
use Rattle.p10_base.specs.Words.{PlainWord}
use Rattle.p10_lex.specs.Bytes.{is_nondigit as starts_name, is_name_byte as goes_on, is_digit, is_blank, is_quote}
use Rattle.p10_lex.specs.Splices.{splice_length}
use Rattle.p10_lex.specs.Lexemes.{IsName, begins_number}
use Rattle.p10_lex.specs.Pieces.{begins_byte, IsPiece, Cut, State, beginning, is_include, Cuts, advance, word_before, words_of}
use Rattle.p10_lex.specs.Lexes.{Lexes}
use Rattle.p10_lex.specs.private.Runs.{after_comment, after_literal, after_header, punctuator_length}
use Rattle.p10_lex.specs.private.Reading.{kind_of_quote, literal_at, comment_at, punctuator_at, header_at, cut_at}
use Rattle.p10_lex.proofs.Again.{again}
use Rattle.p10_lex.proofs.Found.{by_option}
use Rattle.p10_cert.specs.Lines.{is_nondigit, is_name_byte, is_name}
use Rattle.p10_expand.specs.Coming.{IsWritten, Comes, in_text, as_mark, by_macro}

-- ## Bytes

three_again : (a b c : Bool) → a || (b || c) ≡ true → (b || a) || c ≡ true
three_again true true c e = refl
three_again true false c e = refl
three_again false true c e = refl
three_again false false c e = e

four_again : (a b c d : Bool) → (a || (b || c)) || d ≡ true → ((d || b) || a) || c ≡ true
four_again a b c true e = refl
four_again a true c false e = refl
four_again true false c false e = refl
four_again false false true false e = refl
four_again false false false false e = e

-- what begins a name in a file begins a name of C
nondigit_is : (c : ℕ) → starts_name c ≡ true → is_nondigit c ≡ true
unfolding is_nondigit starts_name
nondigit_is c e = three_again (nat_le 97 c && nat_le c 122) (nat_le 65 c && nat_le c 90) (c == 95) e

name_byte_is : (c : ℕ) → goes_on c ≡ true → is_name_byte c ≡ true
unfolding is_name_byte goes_on starts_name is_digit
name_byte_is c e = four_again (nat_le 97 c && nat_le c 122) (nat_le 65 c && nat_le c 90) (c == 95) (nat_le 48 c && nat_le c 57) e

bytes_are : (cs : List ℕ) → list_all goes_on cs ≡ true → list_all is_name_byte cs ≡ true
bytes_are [] e = refl
bytes_are (c ∷ cs) e = let both = and_parts (goes_on c) (list_all goes_on cs) e in ap (λ b. b && list_all is_name_byte cs) (name_byte_is c both.0) ∙ bytes_are cs both.1

name_is : (text : List ℕ) → IsName text → is_name text ≡ true
name_is [] h = absurd h
name_is (c ∷ cs) h = ap (λ b. b && list_all is_name_byte cs) (nondigit_is c h.0) ∙ bytes_are cs h.1

-- ## Words of files

-- a word that is a name is one of C
abbrev pub NameIsGood : PlainWord → Type 0
NameIsGood word = word.kind ≡ kind.Name → is_name word.text ≡ true

abbrev first_of : {A B : Type 0} → A × B → A
first_of q = q.0

-- something holds of a choice where it holds of both
either : {A : Type 0} (P : A → Type 0) (b : Bool) (x y : A) → P x → P y → P (if b then x else y)
either P true x y h k = h
either P false x y h k = k

string_apart : kind.Str ≡ kind.Name → ⊥
string_apart e = cc

number_apart : kind.Number ≡ kind.Name → ⊥
number_apart e = cc

punctuator_apart : kind.Punct ≡ kind.Name → ⊥
punctuator_apart e = cc

either_kind : (b : Bool) → (if b then kind.Char else kind.Str) ≡ kind.Name → ⊥
either_kind true e = cc
either_kind false e = cc

module _ (file : ℕ) (s : State) (inside : Bool) (after : List ℕ) (words : List PlainWord) (good : All NameIsGood words) where
  -- with this piece before others, names among the words are still good
  abbrev Holds : Cut → Type 0
  Holds p = IsPiece inside p.piece p.text after → All NameIsGood (word_before file s.place s.line p.piece p.text words)

  literal_holds : (p : Cut) (quote : ℕ) (body : List ℕ) → Holds (record p { piece = first_of (literal_at quote body) })
  unfolding literal_at kind_of_quote word_before
  literal_holds p quote body = by_option (λ q. Holds (record p { piece = first_of {B = List ℕ} q })) (after_literal quote 0 false body) _ _ (λ r e is. All-cons NameIsGood _ words (λ e. absurd (either_kind (quote == 39) e)) good) (λ e is. good)

  comment_holds : (p : Cut) (body : List ℕ) → Holds (record p { piece = first_of (comment_at body) })
  unfolding comment_at word_before
  comment_holds p body = by_option (λ q. Holds (record p { piece = first_of {B = List ℕ} q })) (after_comment body) _ _ (λ r e is. good) (λ e is. good)

  punctuator_holds : (p : Cut) (text : List ℕ) → Holds (record p { piece = first_of (punctuator_at text) })
  unfolding punctuator_at word_before
  punctuator_holds p text = either (λ q. Holds (record p { piece = first_of {B = List ℕ} q })) (nat_lt 0 (punctuator_length text)) _ _ (λ is. All-cons NameIsGood _ words (λ e. absurd (punctuator_apart e)) good) (λ is. good)

  header_holds : (p : Cut) (text : List ℕ) → Holds (record p { piece = first_of (header_at text) })
  unfolding header_at word_before
  header_holds p [] = punctuator_holds p []
  header_holds p (c ∷ name) = by_option (λ q. Holds (record p { piece = first_of {B = List ℕ} q })) (after_header name) _ _ (λ r e is. All-cons NameIsGood _ words (λ e. absurd (string_apart e)) good) (λ e. punctuator_holds p (c ∷ name))

  -- what is cut off is a name only by its bytes
  cut_holds : (p : Cut) (whole : List ℕ) → Holds (record p { piece = first_of (cut_at inside whole) })
  unfolding cut_at word_before
  cut_holds p [] = λ is. good
  cut_holds p (c ∷ rest) =
      either (λ q. Holds (record p { piece = first_of {B = List ℕ} q })) (is_blank c) _ _ (λ is. good)
      (either (λ q. Holds (record p { piece = first_of {B = List ℕ} q })) (starts_name c) _ _ (λ is. All-cons NameIsGood _ words (λ e. name_is p.text is.0.lexeme) good)
      (either (λ q. Holds (record p { piece = first_of {B = List ℕ} q })) (begins_number (c ∷ rest)) _ _ (λ is. All-cons NameIsGood _ words (λ e. absurd (number_apart e)) good)
      (either (λ q. Holds (record p { piece = first_of {B = List ℕ} q })) (is_quote c) _ _ (literal_holds p c rest)
      (either (λ q. Holds (record p { piece = first_of {B = List ℕ} q })) ((c == 47) && begins_byte 47 rest) _ _ (λ is. good)
      (either (λ q. Holds (record p { piece = first_of {B = List ℕ} q })) ((c == 47) && begins_byte 42 rest) _ _ (comment_holds p (drop 1 rest))
      (either (λ q. Holds (record p { piece = first_of {B = List ℕ} q })) (nat_lt 0 (splice_length (c ∷ rest))) _ _ (λ is. good)
      (either (λ q. Holds (record p { piece = first_of {B = List ℕ} q })) (inside && (c == 60)) _ _ (header_holds p (c ∷ rest)) (punctuator_holds p (c ∷ rest)))))))))

  piece_named : (p : Cut) → IsPiece inside p.piece p.text after → All NameIsGood (word_before file s.place s.line p.piece p.text words)
  piece_named p is = subst (λ q. Holds (record p { piece = first_of {B = List ℕ} q })) (again inside p.piece p.text after is) (cut_holds p (p.text ++ after)) is

pieces_named : (file : ℕ) (s : State) (bytes : List ℕ) (pieces : List Cut) (rest : List ℕ) → Cuts s bytes pieces rest → All NameIsGood (words_of file s pieces)
pieces_named file s bytes [] rest h = All-nil NameIsGood
pieces_named file s bytes (p ∷ ps) rest h =
    piece_named file s (is_include s.line) h.0 (words_of file (advance s p.piece p.text) ps) (pieces_named file (advance s p.piece p.text) h.0 ps rest h.3) p h.2

-- names among the words of a file
written_named : (g : Gathered) (word : PlainWord) → IsWritten g word → NameIsGood word
written_named g word w =
    let lexes : Lexes w.file (text_of g w.file) w.words = w.has.lexed.2 in
    let all : All NameIsGood w.words = subst (λ ws. All NameIsGood ws) (sym lexes.are_words) (pieces_named w.file beginning (text_of g w.file) lexes.pieces [] lexes.cuts) in
    All-contains NameIsGood w.words word all w.among

-- ## Words of an expansion

pub word_named : (g : Gathered) (word : PlainWord) → Comes g word → NameIsGood word
word_named g word (in_text h) = written_named g word h.written
word_named g word (as_mark h) = λ e. let mark : word.kind ≡ kind.Mark = ap (λ (w : PlainWord). w.kind) h.mark in let clash : kind.Mark ≡ kind.Name = sym mark ∙ e in absurd cc
word_named g word (by_macro h) = λ e.
    let same_kind : word.kind ≡ h.part.kind = ap (λ (w : PlainWord). w.kind) h.given in
    let same_text : word.text ≡ h.part.text = ap (λ (w : PlainWord). w.text) h.given in
    ap is_name same_text ∙ written_named g h.part h.written (sym same_kind ∙ e)
