-- The inputs that a source may have held.
use Rattle.std.proofs.Common.{◌≡◌, ℕ, ◌<◌, Bool, true, false, List, [], ◌++◌, refl, sym, ap, ◌∙◌, subst, Option, Some, None, IfSome}
use Rattle.std.proofs.lemmas.List.Elements.{All-append}
use Rattle.std.specs.Io.KnownBytes.{Consumes, IsAtEnd}
use Rattle.p10_interp.specs.Resting.{rest_of, StaysAsked, Asks}
use Rattle.std.proofs.KnownBytes.{Consumes-trans}
use Rattle.p10_run.specs.WholeRuns.{ForEachInput}

-- ## One part after another

none_given : (xs ys : List ℕ) → xs ≡ [] → ys ≡ [] → xs ++ ys ≡ []
none_given xs ys e d = subst (λ zs. zs ++ ys ≡ []) (sym e) d

stays_twice : (b c : Bool) (l m n : Option (List ℕ)) (xs ys : List ℕ) → StaysAsked b l m xs → Asks b c m n ys → StaysAsked c l n (xs ++ ys)
stays_twice b c l m n xs ys s a =
    let t : StaysAsked c m n ys = a.once s.ended in
    record { none = none_given xs ys s.none t.none; ended = t.ended; same = t.same ∙ s.same }

end_twice : (a b c : Bool) (l m n : Option (List ℕ)) (xs ys : List ℕ) → Asks a b l m xs → Asks b c m n ys → a ≡ false → c ≡ true → IsAtEnd n
end_twice a true c l m n xs ys x y e d = let s : StaysAsked c m n ys = y.once refl in subst IsAtEnd (sym s.same) (x.end e refl)
end_twice a false c l m n xs ys x y e d = y.end refl d

pub asks_twice : (a b c : Bool) (l m n : Option (List ℕ)) (xs ys : List ℕ) → Asks a b l m xs → Asks b c m n ys → Asks a c l n (xs ++ ys)
asks_twice a b c l m n xs ys x y = record {
  taken = Consumes-trans l m n xs ys x.taken y.taken;
  bytes = All-append (λ byte. byte < 256) xs ys x.bytes y.bytes;
  once = λ e. stays_twice b c l m n xs ys (x.once e) y;
  end = end_twice a b c l m n xs ys x y;
}

-- nothing comes after the end of a source
pub rest_after : (b c : Bool) (m n : Option (List ℕ)) (ys rest : List ℕ) → Asks b c m n ys → rest_of b (ys ++ rest_of c rest) ≡ ys ++ rest_of c rest
rest_after false c m n ys rest a = refl
rest_after true c m n ys rest a =
    let s : StaysAsked c m n ys = a.once refl in
    subst (λ zs. [] ≡ zs ++ rest_of c rest) (sym s.none) (subst (λ b. [] ≡ rest_of b rest) (sym s.ended) refl)

-- ## Inputs

told_by : (ended : Bool) (Claim : List ℕ → Type 0) (xs given : List ℕ) (after : Option (List ℕ)) → Consumes (Some xs) after given → (ended ≡ true → IsAtEnd after) → ((rest : List ℕ) → Claim (given ++ rest_of ended rest)) → Claim xs
told_by ended Claim xs given None c end h = absurd c
told_by false Claim xs given (Some ys) c end h = subst Claim (sym c) (h ys)
told_by true Claim xs given (Some ys) c end h = subst Claim (sym (c ∙ ap (λ l. given ++ l) (end refl))) (h [])

-- where the source tells its bytes, they are the input
pub for_told : (left after : Option (List ℕ)) (Claim : List ℕ → Type 0) → ForEachInput left after Claim → IfSome left Claim
for_told None after Claim f = tt
for_told (Some xs) after Claim f = told_by f.ended Claim xs f.given after f.source.taken (λ e. f.source.end refl e) f.holds
