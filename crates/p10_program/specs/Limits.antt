-- Limit M8: how large what a program has may be.
use Rattle.std.specs.Prelude.{ℕ, nat_le, Bool, false, not, ◌||◌, List, [], ◌∷◌, map, length, sum}
use Rattle.p10_base.specs.declared.report.TheConstants.Limit.{MOST_OBJECT_BYTES, MOST_STATIC_BYTES}
use Rattle.p10_core.specs.Typed.{PlainProgram}
use Rattle.p10_core.specs.WholePrograms.{frame_bytes}

-- whether one of several sizes is over that of an object
abbrev pub is_over : List ℕ → Bool
is_over [] = false
is_over (n ∷ rest) = not (nat_le n MOST_OBJECT_BYTES) || is_over rest

-- whether something of a program is larger than limit M8 allows: an object of static lifetime, a function's frame, a string literal,
-- or all objects together
abbrev pub is_too_large : PlainProgram → Bool
is_too_large p =
    not (nat_le (sum (map (λ o. o.bytes) p.objects)) MOST_STATIC_BYTES)
    || (is_over (map (λ o. o.bytes) p.objects) || (is_over (map frame_bytes p.functions) || is_over (map (λ l. length l.bytes) p.literals)))
