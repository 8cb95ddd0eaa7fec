-- The two ways in which a line breaks the structure of conditionals, each in one pass.
use Rattle.std.specs.Prelude.{ℕ, ◌≡◌, zero, suc, List, [], ◌∷◌, Bool, true, false, Option, Some, None, min, MatchBool, if◌then◌else◌}
use Rattle.p10_direct.specs.declared.mark.Mark.{Mark}
use Rattle.p10_direct.specs.declared.mark.Mark.TheVariants.{Opens, Elif, Else, Closes, Plain}
use Rattle.p10_direct.specs.Balance.{is_closed}

-- the open conditionals after a line, the innermost first, each with whether it had its `#else`; None where the line doesn't fit
abbrev pub stack_step : Mark → List Bool → Option (List Bool)
stack_step Opens pending = Some (false ∷ pending)
stack_step Plain pending = Some pending
stack_step Elif (false ∷ pending) = Some (false ∷ pending)
stack_step Elif _ = None
stack_step Else (false ∷ pending) = Some (true ∷ pending)
stack_step Else _ = None
stack_step Closes (had ∷ pending) = Some pending
stack_step Closes [] = None

-- a line fits and was taken, or it doesn't fit
abbrev pub Stacks : Mark → Bool → List Bool → List Bool → Type 0
Stacks mark fits old new = MatchBool fits (stack_step mark old ≡ Some new) (stack_step mark old ≡ None)

-- a line doesn't fit, or the others are looked at after it
abbrev pub stray_behind : ℕ → (List Bool → Option ℕ) → Option (List Bool) → Option ℕ
stray_behind place others None = Some place
stray_behind place others (Some pending) = others pending

-- the place of the first line that doesn't fit, where the first of these has that place
abbrev pub stray_from : List Bool → List Mark → ℕ → Option ℕ
stray_from pending [] place = None
stray_from pending (mark ∷ marks) place = stray_behind place (λ pending. stray_from pending marks (suc place)) (stack_step mark pending)

-- the place of the first conditional that isn't closed
abbrev pub unclosed_from : List Mark → ℕ → Option ℕ
unclosed_from [] place = None
unclosed_from (Opens ∷ marks) place = if is_closed zero marks then unclosed_from marks (suc place) else Some place
unclosed_from (_ ∷ marks) place = unclosed_from marks (suc place)

-- the first conditional from a line on that isn't closed, and how many `#endif` from it on close one that begins before it, where
-- these are those after the line
abbrev pub passed_back : Mark → ℕ → Option ℕ × ℕ → Option ℕ × ℕ
passed_back Opens place (first, zero) = (Some place, 0)
passed_back Opens place (first, suc closing) = (first, closing)
passed_back Closes place (first, closing) = (first, suc closing)
passed_back _ place behind = behind

-- the same for lines the first of which has this place
abbrev pub read_back : List Mark → ℕ → Option ℕ × ℕ
read_back [] place = (None, 0)
read_back (mark ∷ marks) place = passed_back mark place (read_back marks (suc place))

-- the lesser of two places
abbrev pub earlier_of : Option ℕ → Option ℕ → Option ℕ
earlier_of (Some a) (Some b) = Some (min a b)
earlier_of (Some a) None = Some a
earlier_of None b = b
