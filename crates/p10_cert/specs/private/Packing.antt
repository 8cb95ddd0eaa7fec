-- How ranges of variables are packed into bytes: numbers of 7 bits a byte, the highest bits first, each byte but a number's last with 128 more.
use Rattle.std.specs.Prelude.{◌≡◌, ℕ, zero, suc, ◌+◌, ◌-◌, ◌*◌, ◌/◌, ◌%◌, ◌^◌, nat_lt, ◌==◌, if◌then◌else◌, List, [], ◌∷◌, ◌++◌, ℤ, pos, neg_ℤ, ◌+ℤ◌, ◌-ℤ◌, int_le, unsigned_abs}
use Rattle.std.specs.Int.{w128, saturate_signed}
use Rattle.p10_range.specs.Ranges.{from_to}
use Rattle.p10_cert.specs.Vars.{Var}

-- ## numbers of at most 128 bits

-- a number with 7 bits more, of which the highest are lost where there is no room for them
abbrev pub with_bits : ℕ → ℕ → ℕ
with_bits number byte = 128 * (number % 2 ^ 121) + (byte % 128)

-- the number whose first bits these are and whose others the bytes begin with, and what stands after it
abbrev pub number_from : ℕ → List ℕ → ℕ × List ℕ
number_from number [] = (number, [])
number_from number (byte ∷ bytes) = if nat_lt byte 128 then (with_bits number byte, bytes) else number_from (with_bits number byte) bytes

-- the bytes of a number that come before its last one, at most so many
unfoldable pub high_bytes : ℕ → ℕ → List ℕ
high_bytes zero number = []
high_bytes (suc most) number = if number == 0 then [] else high_bytes most (number / 128) ++ (128 + number % 128) ∷ []

-- the bytes of a number
unfoldable pub number_bytes : ℕ → List ℕ
number_bytes number = high_bytes 18 (number / 128) ++ (number % 128) ∷ []

-- ## ends and numbers of variables

-- a whole number as a natural one: twice its size, and odd where it is negative
abbrev pub folded : ℤ → ℕ
folded z = if int_le (pos 0) z then 2 * unsigned_abs z else 2 * (unsigned_abs z - 1) + 1

abbrev pub unfolded : ℕ → ℤ
unfolded n = if (n % 2) == 0 then pos (n / 2) else (neg_ℤ (pos (n / 2)) -ℤ pos 1)

-- the end that lies so far above another, or the greatest of 128 bits
abbrev pub end_above : ℤ → ℕ → ℤ
end_above low width = saturate_signed w128 (low +ℤ pos width)

-- how far a variable's number comes after that of another, where numbers of 32 bits go round
abbrev pub step_to : ℕ → ℕ → ℕ
step_to last var = (var + (2 ^ 32 - last)) % 2 ^ 32

abbrev pub step_by : ℕ → ℕ → ℕ
step_by last step = (last + (step % 2 ^ 32)) % 2 ^ 32

-- ## variables

-- the variable that the bytes begin with, after one with this number, and what stands after it
unfoldable pub unpacked_at : ℕ → List ℕ → Var × List ℕ
unpacked_at last bytes =
    let step = number_from 0 bytes in
    let low = number_from 0 step.1 in
    let width = number_from 0 low.1 in
    (record { var = step_by last step.0; ends = from_to (unfolded low.0) (end_above (unfolded low.0) width.0) }, width.1)

-- bytes that are read as a variable after one with this number, whatever stands after them
pub record IsPacked (last : ℕ) (v : Var) (bytes : List ℕ) : Type 0 where
  pub read : (rest : List ℕ) → unpacked_at last (bytes ++ rest) ≡ (v, rest)

-- so many variables, from the front of the bytes, after one with this number
abbrev pub vars_from : ℕ → ℕ → List ℕ → List Var
vars_from zero last bytes = []
vars_from (suc count) last bytes = (unpacked_at last bytes).0 ∷ vars_from count (unpacked_at last bytes).0.var (unpacked_at last bytes).1

-- bytes that so many variables fill, the last of them with this number: others may follow
pub record ArePacked (count last : ℕ) (bytes : List ℕ) : Type 0 where
  pub seam : (more : ℕ) (rest : List ℕ) → vars_from (count + more) 0 (bytes ++ rest) ≡ vars_from count 0 bytes ++ vars_from more last rest
