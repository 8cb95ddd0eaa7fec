-- How the value of digits is read, digit by digit.
use Rattle.std.specs.Prelude.{ℕ, ◌+◌, ◌*◌, ◌^◌, nat_lt, Option, Some, None, if◌then◌else◌}
use Rattle.p10_lex.specs.declared.integers.Base.{Base}
use Rattle.p10_lex.specs.Bytes.{digit_value}
use Rattle.p10_lex.specs.Integers.{radix_of}

-- the value with one more digit, if it lies below 2 ^ 64
abbrev pub step_of : Base → ℕ → ℕ → Option ℕ
step_of base value byte =
    if nat_lt (value * radix_of base + digit_value byte) (2 ^ 64) then Some (value * radix_of base + digit_value byte) else None
