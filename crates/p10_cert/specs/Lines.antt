-- The lines of a certificate's text: what each says, what it may say, and its bytes.
use Rattle.std.specs.Prelude.{◌≡◌, ℕ, ◌^◌, ◌/◌, ◌%◌, ◌<◌, ◌≤◌, nat_le, Bool, true, false, ◌&&◌, ◌||◌, ◌==◌, List, [], ◌∷◌, ◌++◌, length, ℤ, pos, neg_ℤ, ◌≤ℤ◌, codes, decimal}
use Rattle.std.specs.Char.{is_ascii_alphabetic, is_ascii_alphanumeric, is_ascii_digit, is_ascii_lowercase}
use Rattle.std.specs.Fmt.{signed_decimal}
use Rattle.p10_base.specs.Hex.{hex_text}
use Rattle.std.specs.List.{list_all, AllByRecursion}
use Rattle.p10_base.specs.declared.report.Bounds.{Bounds}
use Rattle.p10_cert.specs.declared.claims.Rank.{Rank}
use Rattle.p10_cert.specs.declared.claims.Rank.TheVariants.{Up, Down, One, Task}
use Rattle.p10_range.specs.Ranges.{Interval}
use Rattle.p10_cert.specs.Claims.{Value, Number, Address, Nothing, Var}

-- what the first line of a function says
pub record FuncHead : Type 0 where
  pub name : List ℕ
  pub rank : ℕ
  pub steps : ℕ
  pub calls : ℕ
  pub bytes : ℕ
  pub alloc : Bool

-- what the first line of a loop says
pub record LoopHead : Type 0 where
  pub depth : ℕ
  pub rank : Rank
  pub turns : ℕ

-- what the first line of a section says: its name, and how many lines follow
pub record SectionHead : Type 0 where
  pub name : List ℕ
  pub count : ℕ

-- a line of a certificate's text; digests, the first line that is called sealed, sections and their lines are of version 2
pub data Line : Type 0 where
  FirstLine : Line
  FuncLine : FuncHead → Line
  ParamLine : Value → Line
  ResultLine : Value → Line
  LoopLine : LoopHead → Line
  VarLine : Var → Line
  TotalLine : Bounds → Line
  LastLine : Line
  SealedLine : Line
  DigestLine : List ℕ → Line
  OutsideLine : List ℕ → Line
  SectionLine : SectionHead → Line
  BodyLine : List ℕ → Line

-- ## the bytes of a line

-- one text, and then another
infixr 30 ◌then◌
abbrev pub ◌then◌ : List ℕ → List ℕ → List ℕ
first then second = first ++ second

-- 1 for a function that allocates, else 0
abbrev pub flag_number : Bool → ℕ
flag_number true = 1
flag_number false = 0

-- two ends with a blank between them, and what stands after them
abbrev pub ends_then : Interval → List ℕ → List ℕ
ends_then ends rest = signed_decimal ends.low then codes " " then signed_decimal ends.high then rest

-- a claim on a value, and what stands after it
abbrev pub value_then : Value → List ℕ → List ℕ
value_then (Number ends) rest = ends_then ends rest
value_then Address rest = codes "*" then rest
value_then Nothing rest = codes "void" then rest

-- what the first line of a loop says of its rank and its turns, and what stands after it; the task's has no depth
abbrev pub loop_then : ℕ → Rank → ℕ → List ℕ → List ℕ
loop_then depth (Up var bound) turns rest =
    codes "loop " then decimal depth then codes " up " then decimal var then codes " " then signed_decimal bound then codes " turns " then decimal turns then rest
loop_then depth (Down var bound) turns rest =
    codes "loop " then decimal depth then codes " down " then decimal var then codes " " then signed_decimal bound then codes " turns " then decimal turns then rest
loop_then depth One turns rest = codes "loop " then decimal depth then codes " one turns " then decimal turns then rest
loop_then depth Task turns rest = codes "task steps " then decimal turns then rest

-- a line of a text with its LF, and what stands after it
unfoldable pub line_then : Line → List ℕ → List ℕ
line_then FirstLine rest = codes "p10cert 1\n" then rest
line_then (FuncLine f) rest =
    codes "func " then f.name then codes " rank " then decimal f.rank then codes " steps " then decimal f.steps then codes " calls " then decimal f.calls
    then codes " bytes " then decimal f.bytes then codes " alloc " then decimal (flag_number f.alloc) then codes "\n" then rest
line_then (ParamLine v) rest = codes "param " then value_then v (codes "\n" then rest)
line_then (ResultLine v) rest = codes "result " then value_then v (codes "\n" then rest)
line_then (LoopLine l) rest = loop_then l.depth l.rank l.turns (codes "\n" then rest)
line_then (VarLine v) rest = codes "var " then decimal v.var then codes " " then ends_then v.ends (codes "\n" then rest)
line_then (TotalLine b) rest =
    codes "total prefix " then decimal b.prefix then codes " turn " then decimal b.turn then codes " calls " then decimal b.calls
    then codes " bytes " then decimal b.bytes then codes "\n" then rest
line_then LastLine rest = codes "end\n" then rest
line_then SealedLine rest = codes "p10cert 2\n" then rest
line_then (DigestLine digest) rest = codes "digest " then hex_text digest then codes "\n" then rest
line_then (OutsideLine digest) rest = codes "outside " then hex_text digest then codes "\n" then rest
line_then (SectionLine s) rest = codes "section " then s.name then codes " " then decimal s.count then codes "\n" then rest
line_then (BodyLine bytes) rest = bytes then codes "\n" then rest

-- the text of lines
unfoldable pub text_of : List Line → List ℕ
text_of [] = []
text_of (line ∷ lines) = line_then line (text_of lines)

-- ## what a line may say

-- the greatest number of steps, calls, bytes or turns
abbrev pub greatest_count : ℕ
greatest_count = 10 ^ 18

-- the greatest size of an end of a range and of a bound
abbrev pub greatest_size : ℕ
greatest_size = 10 ^ 20

-- a number that may be an end of a range or a bound
pub record IsEnd (z : ℤ) : Type 0 where
  pub least : neg_ℤ (pos greatest_size) ≤ℤ z
  pub greatest : z ≤ℤ pos greatest_size

-- a number that may be the rank of a function, the depth of a loop or the number of a variable
pub record IsIndex (n : ℕ) : Type 0 where
  pub small : n < 2 ^ 32

-- a number that may be one of steps, calls, bytes or turns
pub record IsCount (n : ℕ) : Type 0 where
  pub small : n ≤ greatest_count

-- ends of a range that has a number
pub record AreEnds (ends : Interval) : Type 0 where
  pub low : IsEnd ends.low
  pub high : IsEnd ends.high
  pub ordered : ends.low ≤ℤ ends.high

-- a letter or `_` (C99 6.4.2.1: a nondigit)
unfoldable pub is_nondigit : ℕ → Bool
is_nondigit byte = is_ascii_alphabetic byte || byte == 95

-- a letter, a digit or `_`: what names are made of (C99 6.4.2.1)
unfoldable pub is_name_byte : ℕ → Bool
is_name_byte byte = is_ascii_alphanumeric byte || byte == 95

-- a name of C: a nondigit, and then nondigits and digits (C99 6.4.2.1); keywords are names too
abbrev pub is_name : List ℕ → Bool
is_name [] = false
is_name (first ∷ others) = is_nondigit first && list_all is_name_byte others

-- a lower-case letter, a digit or `_`: what names of sections are made of
unfoldable pub is_section_byte : ℕ → Bool
is_section_byte byte = (is_ascii_lowercase byte || is_ascii_digit byte) || byte == 95

-- the name of a section
abbrev pub is_section_name : List ℕ → Bool
is_section_name name = nat_le 1 (length name) && (nat_le (length name) 32 && list_all is_section_byte name)

-- a byte of a section's lines: a blank, or a visible character of ASCII
unfoldable pub is_body_byte : ℕ → Bool
is_body_byte byte = nat_le 32 byte && nat_le byte 126

-- a byte
pub record IsByte (n : ℕ) : Type 0 where
  pub small : n < 256

-- a SHA-256 digest
pub record IsDigest (digest : List ℕ) : Type 0 where
  pub size : length digest ≡ 32
  pub bytes : AllByRecursion IsByte digest

-- what the first line of a section may say
pub record IsSectionHead (s : SectionHead) : Type 0 where
  pub name : is_section_name s.name ≡ true
  pub count : IsIndex s.count

-- what a line of a section may say
pub record IsBody (bytes : List ℕ) : Type 0 where
  pub visible : list_all is_body_byte bytes ≡ true

-- what the first line of a function may say
pub record IsFuncHead (f : FuncHead) : Type 0 where
  pub name : is_name f.name ≡ true
  pub rank : IsIndex f.rank
  pub steps : IsCount f.steps
  pub calls : IsCount f.calls
  pub bytes : IsCount f.bytes

-- what may be claimed of a result
abbrev pub IsResult : Value → Type 0
IsResult (Number ends) = AreEnds ends
IsResult Address = Unit {0}
IsResult Nothing = Unit {0}

-- what may be claimed of a parameter
abbrev pub IsParam : Value → Type 0
IsParam (Number ends) = AreEnds ends
IsParam Address = Unit {0}
IsParam Nothing = ⊥

-- what a variable and a bound may be
pub record IsBound (var : ℕ) (bound : ℤ) : Type 0 where
  pub known : IsIndex var
  pub small : IsEnd bound

-- what a rank may be, at a depth: the task stands in no loop
abbrev pub IsRank : ℕ → Rank → Type 0
IsRank depth (Up var bound) = IsBound var bound
IsRank depth (Down var bound) = IsBound var bound
IsRank depth One = Unit {0}
IsRank depth Task = depth ≡ 0

-- what the first line of a loop may say
pub record IsLoopHead (l : LoopHead) : Type 0 where
  pub depth : IsIndex l.depth
  pub rank : IsRank l.depth l.rank
  pub turns : IsCount l.turns

-- what the line of a variable may say
pub record IsVar (v : Var) : Type 0 where
  pub var : IsIndex v.var
  pub ends : AreEnds v.ends

-- what the line of the whole program may say
pub record IsTotal (b : Bounds) : Type 0 where
  pub prefix : IsCount b.prefix
  pub turn : IsCount b.turn
  pub calls : IsCount b.calls
  pub bytes : IsCount b.bytes

-- what a line may say by itself
abbrev pub IsLine : Line → Type 0
IsLine FirstLine = Unit {0}
IsLine (FuncLine f) = IsFuncHead f
IsLine (ParamLine v) = IsParam v
IsLine (ResultLine v) = IsResult v
IsLine (LoopLine l) = IsLoopHead l
IsLine (VarLine v) = IsVar v
IsLine (TotalLine b) = IsTotal b
IsLine LastLine = Unit {0}
IsLine SealedLine = Unit {0}
IsLine (DigestLine digest) = IsDigest digest
IsLine (OutsideLine digest) = IsDigest digest
IsLine (SectionLine s) = IsSectionHead s
IsLine (BodyLine bytes) = IsBody bytes
