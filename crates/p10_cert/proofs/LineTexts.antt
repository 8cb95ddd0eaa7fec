-- The texts of lines: what stands after them, and that each is one line.
use Rattle.std.proofs.Common.{◌≡◌, ◌≢◌, ℕ, zero, suc, ◌+◌, ◌/◌, ◌%◌, ◌<◌, ◌≤◌, Bool, true, false, not, cond, nat_lt, ◌==◌, List, [], ◌∷◌, ◌++◌, length, ℤ, pos, negsuc, codes, decimal, None, refl, sym, ap, ◌∙◌, arith, append_assoc, length-append}
use Rattle.std.proofs.lemmas.Bool.Decides.{nat_tests}
use Rattle.std.proofs.lemmas.Int.{ints}
use Rattle.std.proofs.lemmas.Option.{none-some, some_pair_parts}
use Rattle.std.specs.Char.{is_ascii_digit}
use Rattle.std.specs.Fmt.{signed_decimal, digit_glyph}
use Rattle.std.specs.List.{list_all}
use Rattle.p10_range.specs.Ranges.{Interval}
use Rattle.p10_cert.specs.declared.claims.Rank.{Rank}
use Rattle.p10_cert.specs.declared.claims.Rank.TheVariants.{Up, Down, One, Task}
use Rattle.p10_cert.specs.Claims.{Value, Number, Address, Nothing}
use Rattle.p10_base.specs.Hex.{hex_text}
use Rattle.p10_cert.specs.Lines.{Line, FirstLine, FuncLine, ParamLine, ResultLine, LoopLine, VarLine, TotalLine, LastLine, SealedLine, DigestLine, OutsideLine, SectionLine, BodyLine, ends_then, value_then, loop_then, line_then, text_of, flag_number, greatest_size, IsEnd, AreEnds, is_name_byte, is_name, is_section_byte, is_body_byte, IsRank, IsResult, IsLine}
use Rattle.p10_cert.specs.WrongLines.{first_lines}
use Rattle.p10_cert.specs.private.Reading.{after_front, after_first, after_total, body_at, sealed_at, inner_at, outer_at, line_at}
use Rattle.p10_cert.proofs.Steps.{both_true}
use Rattle.p10_cert.proofs.Numerals.{numeral_of_again}
use Rattle.p10_cert.proofs.NumberLaws.{name_in_bytes}
use Rattle.p10_cert.proofs.LineLaws.{flag_small, param_is_value}
use Rattle.p10_cert.proofs.LineAgain.{is_body, line_again, body_line_again}
use Rattle.p10_cert.proofs.SectionLaws.{name_in_bytes as section_name_in_bytes}

-- ---- what stands after a line

ends_then-append : (ends : Interval) (a b : List ℕ) → ends_then ends a ++ b ≡ ends_then ends (a ++ b)
ends_then-append ends a b = simp append_assoc

value_then-append : (v : Value) (a b : List ℕ) → value_then v a ++ b ≡ value_then v (a ++ b)
value_then-append (Number ends) a b = ends_then-append ends a b
value_then-append Address a b = refl
value_then-append Nothing a b = refl

loop_then-append : (depth : ℕ) (rank : Rank) (turns : ℕ) (a b : List ℕ) → loop_then depth rank turns a ++ b ≡ loop_then depth rank turns (a ++ b)
loop_then-append depth (Up var bound) turns a b = simp append_assoc
loop_then-append depth (Down var bound) turns a b = simp append_assoc
loop_then-append depth One turns a b = simp append_assoc
loop_then-append depth Task turns a b = simp append_assoc

pub line_then-append : (l : Line) (a b : List ℕ) → line_then l a ++ b ≡ line_then l (a ++ b)
unfolding line_then
line_then-append FirstLine a b = refl
line_then-append (FuncLine f) a b = simp append_assoc
line_then-append (ParamLine v) a b = ap (λ t. codes "param " ++ t) (value_then-append v (codes "\n" ++ a) b)
line_then-append (ResultLine v) a b = ap (λ t. codes "result " ++ t) (value_then-append v (codes "\n" ++ a) b)
line_then-append (LoopLine l) a b = loop_then-append l.depth l.rank l.turns (codes "\n" ++ a) b
line_then-append (VarLine v) a b = simp append_assoc
line_then-append (TotalLine t) a b = simp append_assoc
line_then-append LastLine a b = refl
line_then-append SealedLine a b = refl
line_then-append (DigestLine d) a b = simp append_assoc
line_then-append (OutsideLine d) a b = simp append_assoc
line_then-append (SectionLine s) a b = simp append_assoc
line_then-append (BodyLine bytes) a b = simp append_assoc

pub text_then : (l : Line) (lines : List Line) (rest : List ℕ) → text_of (l ∷ lines) ++ rest ≡ line_then l (text_of lines ++ rest)
unfolding text_of
text_then l lines rest = line_then-append l (text_of lines) rest

pub text_none : (rest : List ℕ) → text_of [] ++ rest ≡ rest
unfolding text_of
text_none rest = refl

pub text_of-append : (xs ys : List Line) → text_of (xs ++ ys) ≡ text_of xs ++ text_of ys
unfolding text_of
text_of-append [] ys = refl
text_of-append (l ∷ xs) ys = ap (line_then l) (text_of-append xs ys) ∙ sym (line_then-append l (text_of xs) (text_of ys))

-- ---- a line has bytes

pub no_line : line_at [] ≡ None
unfolding line_at inner_at outer_at after_first after_total sealed_at after_front
no_line = refl

pub line_then-some : (l : Line) (rest : List ℕ) → IsLine l → line_then l rest ≢ []
unfolding line_then
line_then-some l rest good e = by_kind (is_body l) refl
  where
    ends_some : (bytes rest : List ℕ) → bytes ++ (10 ∷ rest) ≡ [] → ⊥
    ends_some [] rest e = absurd cc
    ends_some (x ∷ xs) rest e = absurd cc

    body_some : (l : Line) (rest : List ℕ) → line_then l rest ≡ [] → is_body l ≡ true → ⊥
    body_some (BodyLine bytes) rest e body = ends_some bytes rest e
    body_some l rest e body = absurd cc

    by_kind : (b : Bool) → is_body l ≡ b → ⊥
    by_kind true body = body_some l rest e body
    by_kind false plain = none-some _ (sym no_line ∙ ap line_at (sym e) ∙ line_again l rest good plain)

-- a text of one line more is longer
pub line_then-longer : (l : Line) (rest : List ℕ) → IsLine l → length rest < length (line_then l rest)
line_then-longer l rest good = longer (line_then l []) (line_then l rest) rest (line_then-append l [] rest) (line_then-some l [] good)
  where
    longer : (xs ys rest : List ℕ) → xs ++ rest ≡ ys → xs ≢ [] → length rest < length ys
    longer [] ys rest e some = absurd (some refl)
    longer (x ∷ xs) ys rest e some = omega (arith, ap length e, length-append (x ∷ xs) rest)

-- two lines before texts are the same where they give one text, and both are of a section or none is
pub line_then-injective : (l m : Line) (a b : List ℕ) → is_body l ≡ is_body m → IsLine l → IsLine m → line_then l a ≡ line_then m b → (l ≡ m) × (a ≡ b)
line_then-injective l m a b alike left right e = by_kind (is_body l) refl (sym alike)
  where
    by_kind : (k : Bool) → is_body l ≡ k → is_body m ≡ is_body l → (l ≡ m) × (a ≡ b)
    by_kind true body same = some_pair_parts l m a b (sym (body_line_again l a left body) ∙ ap body_at e ∙ body_line_again m b right (same ∙ body))
    by_kind false plain same = some_pair_parts l m a b (sym (line_again l a left plain) ∙ ap line_at e ∙ line_again m b right (same ∙ plain))

-- ---- bytes without LF

-- whether no byte is an LF
abbrev is_in_line : List ℕ → Bool
is_in_line bytes = list_all (λ byte. not (byte == 10)) bytes

-- a test that refuses LF keeps a text within its line
in_line : (test : ℕ → Bool) (bytes : List ℕ) → test 10 ≡ false → list_all test bytes ≡ true → is_in_line bytes ≡ true
in_line test [] apart all = refl
in_line test (x ∷ xs) apart all =
    let passed = both_true (test x) (list_all test xs) all in
    let other : (x == 10) ≡ false = differs test x (x == 10) refl apart passed.0 in
    rw other (in_line test xs apart passed.1)
  where
    differs : (test : ℕ → Bool) (x : ℕ) (b : Bool) → (x == 10) ≡ b → test 10 ≡ false → test x ≡ true → b ≡ false
    differs test x true e apart passed = let is : x ≡ 10 = grind (arith, nat_tests) in absurd (cc (ap test is))
    differs test x false e apart passed = refl

decimal_in_line : (n : ℕ) → n ≤ greatest_size → is_in_line (decimal n) ≡ true
decimal_in_line n small = in_line is_ascii_digit (decimal n) refl (numeral_of_again n small).1

signed_in_line : (z : ℤ) → IsEnd z → is_in_line (signed_decimal z) ≡ true
signed_in_line (pos n) fits = decimal_in_line n (omega (arith, ints))
signed_in_line (negsuc n) fits = decimal_in_line (suc n) (omega (arith, ints))

name_in_line : (name : List ℕ) → is_name name ≡ true → is_in_line name ≡ true
unfolding is_name_byte
name_in_line name named = in_line is_name_byte name refl (name_in_bytes name named)

section_name_in_line : (name : List ℕ) → list_all is_section_byte name ≡ true → is_in_line name ≡ true
unfolding is_section_byte
section_name_in_line name all = in_line is_section_byte name refl all

body_in_line : (bytes : List ℕ) → list_all is_body_byte bytes ≡ true → is_in_line bytes ≡ true
unfolding is_body_byte
body_in_line bytes all = in_line is_body_byte bytes refl all

-- a hexadecimal digit is no LF
glyph_in_line : (n : ℕ) → (digit_glyph false n == 10) ≡ false
glyph_in_line n = by_size n (nat_lt n 10) refl
  where
    by_size : (n : ℕ) (b : Bool) → nat_lt n 10 ≡ b → (cond b (48 + n) (87 + n) == 10) ≡ false
    by_size n true e = grind (arith, nat_tests)
    by_size n false e = grind (arith, nat_tests)

hex_in_line : (bytes : List ℕ) → is_in_line (hex_text bytes) ≡ true
hex_in_line [] = refl
hex_in_line (x ∷ bytes) = rw (glyph_in_line (x / 16), glyph_in_line (x % 16)) (hex_in_line bytes)

-- ---- the first lines of a text that begins with a line

lines_end : (text : List ℕ) (n : ℕ) → first_lines (10 ∷ text) (suc n) ≡ 10 ∷ first_lines text n
unfolding first_lines
lines_end text n = refl

lines_part : (part text more : List ℕ) (n : ℕ) → is_in_line part ≡ true → first_lines text (suc n) ≡ more → first_lines (part ++ text) (suc n) ≡ part ++ more
unfolding first_lines
lines_part [] text more n all e = e
lines_part (x ∷ xs) text more n all e =
    let passed = both_true (not (x == 10)) (is_in_line xs) all in
    let other : (x == 10) ≡ false = not_true (x == 10) passed.0 in
    rw other (ap (λ t. x ∷ t) (lines_part xs text more n passed.1 e))
  where
    not_true : (b : Bool) → not b ≡ true → b ≡ false
    not_true true e = absurd cc
    not_true false e = refl

ends_first : (ends : Interval) (text more : List ℕ) (n : ℕ) → AreEnds ends → first_lines text (suc n) ≡ more → first_lines (ends_then ends text) (suc n) ≡ ends_then ends more
ends_first ends text more n good e =
    lines_part (signed_decimal ends.low) _ _ n (signed_in_line ends.low good.low)
    (lines_part (codes " ") _ _ n refl
    (lines_part (signed_decimal ends.high) _ _ n (signed_in_line ends.high good.high) e))

value_first : (v : Value) (text more : List ℕ) (n : ℕ) → IsResult v → first_lines text (suc n) ≡ more → first_lines (value_then v text) (suc n) ≡ value_then v more
value_first (Number ends) text more n good e = ends_first ends text more n good e
value_first Address text more n good e = lines_part (codes "*") text more n refl e
value_first Nothing text more n good e = lines_part (codes "void") text more n refl e

loop_first : (depth : ℕ) (rank : Rank) (turns : ℕ) (text more : List ℕ) (n : ℕ) → depth ≤ greatest_size → IsRank depth rank → turns ≤ greatest_size → first_lines text (suc n) ≡ more
    → first_lines (loop_then depth rank turns text) (suc n) ≡ loop_then depth rank turns more
loop_first depth (Up var bound) turns text more n deep good few e =
    lines_part (codes "loop ") _ _ n refl
    (lines_part (decimal depth) _ _ n (decimal_in_line depth deep)
    (lines_part (codes " up ") _ _ n refl
    (lines_part (decimal var) _ _ n (decimal_in_line var (omega (arith, good.known.small)))
    (lines_part (codes " ") _ _ n refl
    (lines_part (signed_decimal bound) _ _ n (signed_in_line bound good.small)
    (lines_part (codes " turns ") _ _ n refl
    (lines_part (decimal turns) _ _ n (decimal_in_line turns few) e)))))))
loop_first depth (Down var bound) turns text more n deep good few e =
    lines_part (codes "loop ") _ _ n refl
    (lines_part (decimal depth) _ _ n (decimal_in_line depth deep)
    (lines_part (codes " down ") _ _ n refl
    (lines_part (decimal var) _ _ n (decimal_in_line var (omega (arith, good.known.small)))
    (lines_part (codes " ") _ _ n refl
    (lines_part (signed_decimal bound) _ _ n (signed_in_line bound good.small)
    (lines_part (codes " turns ") _ _ n refl
    (lines_part (decimal turns) _ _ n (decimal_in_line turns few) e)))))))
loop_first depth One turns text more n deep good few e =
    lines_part (codes "loop ") _ _ n refl
    (lines_part (decimal depth) _ _ n (decimal_in_line depth deep)
    (lines_part (codes " one turns ") _ _ n refl
    (lines_part (decimal turns) _ _ n (decimal_in_line turns few) e)))
loop_first depth Task turns text more n deep good few e =
    lines_part (codes "task steps ") _ _ n refl
    (lines_part (decimal turns) _ _ n (decimal_in_line turns few) e)

-- a line's text is one line
pub line_first : (l : Line) (text : List ℕ) (n : ℕ) → IsLine l → first_lines (line_then l text) (suc n) ≡ line_then l (first_lines text n)
unfolding line_then
line_first FirstLine text n good = lines_part (codes "p10cert 1") _ _ n refl (lines_end text n)
line_first (FuncLine f) text n good =
    lines_part (codes "func ") _ _ n refl
    (lines_part f.name _ _ n (name_in_line f.name good.name)
    (lines_part (codes " rank ") _ _ n refl
    (lines_part (decimal f.rank) _ _ n (decimal_in_line f.rank (omega (arith, good.rank.small)))
    (lines_part (codes " steps ") _ _ n refl
    (lines_part (decimal f.steps) _ _ n (decimal_in_line f.steps (omega (arith, good.steps.small)))
    (lines_part (codes " calls ") _ _ n refl
    (lines_part (decimal f.calls) _ _ n (decimal_in_line f.calls (omega (arith, good.calls.small)))
    (lines_part (codes " bytes ") _ _ n refl
    (lines_part (decimal f.bytes) _ _ n (decimal_in_line f.bytes (omega (arith, good.bytes.small)))
    (lines_part (codes " alloc ") _ _ n refl
    (lines_part (decimal (flag_number f.alloc)) _ _ n (decimal_in_line (flag_number f.alloc) (omega (arith, flag_small f.alloc)))
    (lines_end text n))))))))))))
line_first (ParamLine v) text n good =
    lines_part (codes "param ") _ _ n refl (value_first v _ _ n (param_is_value v good).0 (lines_end text n))
line_first (ResultLine v) text n good =
    lines_part (codes "result ") _ _ n refl (value_first v _ _ n good (lines_end text n))
line_first (LoopLine l) text n good =
    loop_first l.depth l.rank l.turns _ _ n (omega (arith, good.depth.small)) good.rank (omega (arith, good.turns.small)) (lines_end text n)
line_first (VarLine v) text n good =
    lines_part (codes "var ") _ _ n refl
    (lines_part (decimal v.var) _ _ n (decimal_in_line v.var (omega (arith, good.var.small)))
    (lines_part (codes " ") _ _ n refl (ends_first v.ends _ _ n good.ends (lines_end text n))))
line_first (TotalLine b) text n good =
    lines_part (codes "total prefix ") _ _ n refl
    (lines_part (decimal b.prefix) _ _ n (decimal_in_line b.prefix (omega (arith, good.prefix.small)))
    (lines_part (codes " turn ") _ _ n refl
    (lines_part (decimal b.turn) _ _ n (decimal_in_line b.turn (omega (arith, good.turn.small)))
    (lines_part (codes " calls ") _ _ n refl
    (lines_part (decimal b.calls) _ _ n (decimal_in_line b.calls (omega (arith, good.calls.small)))
    (lines_part (codes " bytes ") _ _ n refl
    (lines_part (decimal b.bytes) _ _ n (decimal_in_line b.bytes (omega (arith, good.bytes.small)))
    (lines_end text n))))))))
line_first LastLine text n good = lines_part (codes "end") _ _ n refl (lines_end text n)
line_first SealedLine text n good = lines_part (codes "p10cert 2") _ _ n refl (lines_end text n)
line_first (DigestLine d) text n good = lines_part (codes "digest ") _ _ n refl (lines_part (hex_text d) _ _ n (hex_in_line d) (lines_end text n))
line_first (OutsideLine d) text n good = lines_part (codes "outside ") _ _ n refl (lines_part (hex_text d) _ _ n (hex_in_line d) (lines_end text n))
line_first (SectionLine s) text n good =
    lines_part (codes "section ") _ _ n refl
    (lines_part s.name _ _ n (section_name_in_line s.name (section_name_in_bytes s.name good.name))
    (lines_part (codes " ") _ _ n refl
    (lines_part (decimal s.count) _ _ n (decimal_in_line s.count (omega (arith, good.count.small))) (lines_end text n))))
line_first (BodyLine bytes) text n good = lines_part bytes _ _ n (body_in_line bytes good.visible) (lines_end text n)

-- ---- the first lines of any text

pub first_none : (text : List ℕ) → first_lines text 0 ≡ []
unfolding first_lines
first_none [] = refl
first_none (x ∷ xs) = refl

-- a text begins with its first lines
pub first_front : (text : List ℕ) (n : ℕ) → (rest : List ℕ) × (first_lines text n ++ rest ≡ text)
unfolding first_lines
first_front [] n = ([], refl)
first_front (x ∷ xs) zero = (x ∷ xs, refl)
first_front (x ∷ xs) (suc n) = with_first x xs n (x == 10) refl (first_front xs n) (first_front xs (suc n))
  where
    with_first : (x : ℕ) (xs : List ℕ) (n : ℕ) (b : Bool) → (x == 10) ≡ b → ((rest : List ℕ) × (first_lines xs n ++ rest ≡ xs)) → ((rest : List ℕ) × (first_lines xs (suc n) ++ rest ≡ xs)) → (rest : List ℕ) × (first_lines (x ∷ xs) (suc n) ++ rest ≡ x ∷ xs)
    with_first x xs n true e (rest, here) other = (rest, rw e (ap (λ t. x ∷ t) here))
    with_first x xs n false e other (rest, here) = (rest, rw e (ap (λ t. x ∷ t) here))

-- only the empty text has no first line
pub no_first : (text : List ℕ) → first_lines text 1 ≡ [] → text ≡ []
unfolding first_lines
no_first [] e = refl
no_first (x ∷ xs) e = a_line x xs (x == 10) refl e
  where
    a_line : (x : ℕ) (xs : List ℕ) (b : Bool) → (x == 10) ≡ b → first_lines (x ∷ xs) 1 ≡ [] → x ∷ xs ≡ []
    a_line x xs true e none = absurd (let h = rw e at none in cc)
    a_line x xs false e none = absurd (let h = rw e at none in cc)

-- the first `few` lines of a text's first lines are the first `few` of the text, where these are no more
fewer : (x : ℕ) (xs : List ℕ) (few many : ℕ) → few ≤ suc many → (b : Bool) → (x == 10) ≡ b
    → ((few : ℕ) → few ≤ many → first_lines (first_lines xs many) few ≡ first_lines xs few)
    → ((few : ℕ) → few ≤ suc many → first_lines (first_lines xs (suc many)) few ≡ first_lines xs few)
    → first_lines (first_lines (x ∷ xs) (suc many)) few ≡ first_lines (x ∷ xs) few
unfolding first_lines
fewer x xs zero many within true e next same = rw e refl
fewer x xs (suc few) many within true e next same = rw (e, e) (ap (λ t. x ∷ t) (next few (omega (arith, within))))
fewer x xs zero many within false e next same = rw e refl
fewer x xs (suc few) many within false e next same = rw (e, e) (ap (λ t. x ∷ t) (same (suc few) within))

pub first_fewer : (text : List ℕ) (few many : ℕ) → few ≤ many → first_lines (first_lines text many) few ≡ first_lines text few
unfolding first_lines
first_fewer [] few many within = refl
first_fewer (x ∷ xs) zero zero within = refl
first_fewer (x ∷ xs) (suc few) zero within = absurd (omega (arith, within))
first_fewer (x ∷ xs) few (suc many) within =
    fewer x xs few many within (x == 10) refl (λ few within. first_fewer xs few many within) (λ few within. first_fewer xs few (suc many) within)
