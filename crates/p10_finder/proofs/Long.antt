-- Loops with more turns than are allowed.
use Rattle.std.proofs.Common.{◌≡◌, inl, inr, ◌<◌, nat_lt, Bool, true, false, List, [], ◌∷◌, refl, sym, ap, subst}
use Rattle.std.specs.Prelude.{◌||◌}
use Rattle.std.specs.List.{Contains}
use Rattle.std.proofs.lemmas.Bool.{ltb-true, lt-ltb}
use Rattle.p10_base.specs.declared.report.TheConstants.Limit.{MOST_SUM}
use Rattle.p10_calls.proofs.Lists.{here, there, first_or_later, none_in}
use Rattle.p10_cert.specs.Claims.{Loop, Func}
use Rattle.p10_finder.specs.Answers.{HasLongLoop}
use Rattle.p10_finder.specs.private.Limits.{long_in, long_among}

or_last : (a b : Bool) → b ≡ true → (a || b) ≡ true
or_last true b e = refl
or_last false b e = e

-- a loop with more turns than are allowed, among some
record HasLong (loops : List Loop) : Type 0 where
  loop : Loop
  inside : Contains loops loop
  long : MOST_SUM < loop.turns

long_there : (loops : List Loop) → long_in loops ≡ true → HasLong loops
long_there [] e = absurd cc
long_there (l ∷ rest) e = at (nat_lt MOST_SUM l.turns) refl e (long_there rest)
  where
    at : (t : Bool) → nat_lt MOST_SUM l.turns ≡ t → (t || long_in rest) ≡ true → (long_in rest ≡ true → HasLong rest) → HasLong (l ∷ rest)
    at true is h later = record { loop = l; inside = here l rest; long = ltb-true MOST_SUM l.turns is }
    at false is h later = let found = later h in record { loop = found.loop; inside = there l rest found.loop found.inside; long = found.long }

pub among_there : (funcs : List Func) → long_among funcs ≡ true → HasLongLoop funcs
among_there [] e = absurd cc
among_there (f ∷ rest) e = at (long_in f.loops) refl e (among_there rest)
  where
    at : (t : Bool) → long_in f.loops ≡ t → (t || long_among rest) ≡ true → (long_among rest ≡ true → HasLongLoop rest) → HasLongLoop (f ∷ rest)
    at true is h later = let found = long_there f.loops is in record { func = f; loop = found.loop; among = here f rest; inside = found.inside; long = found.long }
    at false is h later = let found = later h in record { func = found.func; loop = found.loop; among = there f rest found.func found.among; inside = found.inside; long = found.long }

long_here : (loops : List Loop) (l : Loop) → Contains loops l → MOST_SUM < l.turns → long_in loops ≡ true
long_here [] l held long = absurd (none_in l held)
long_here (k ∷ rest) l held long = elim (first_or_later k rest l held) [
  | inl same ↦
      let over : MOST_SUM < k.turns = subst (λ (x : Loop). MOST_SUM < x.turns) (sym same) long in
      ap (λ b. b || long_in rest) (lt-ltb MOST_SUM k.turns over)
  | inr later ↦ or_last (nat_lt MOST_SUM k.turns) (long_in rest) (long_here rest l later long)
]

pub among_here : (funcs : List Func) → HasLongLoop funcs → long_among funcs ≡ true
among_here [] h = absurd (none_in h.func h.among)
among_here (f ∷ rest) h = elim (first_or_later f rest h.func h.among) [
  | inl same ↦
      let held : Contains f.loops h.loop = subst (λ (x : Func). Contains x.loops h.loop) (sym same) h.inside in
      ap (λ b. b || long_among rest) (long_here f.loops h.loop held h.long)
  | inr later ↦ or_last (long_in f.loops) (long_among rest) (among_here rest (record { func = h.func; loop = h.loop; among = later; inside = h.inside; long = h.long }))
]
