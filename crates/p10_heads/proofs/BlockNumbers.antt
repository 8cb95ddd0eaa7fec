-- The numbers of objects in blocks, one definition at a time.
use Rattle.std.specs.Prelude.{◌≡◌, ℕ, ◌+◌, Bool, true, false, ◌&&◌, if◌then◌else◌, nat_eq, Option, Some, None, is_some, List, [], ◌∷◌, map, drop, length, ◌≤◌, refl}
use Rattle.std.specs.List.{position_from}
use Rattle.std.proofs.Common.{◌∙◌, ap, sym, cond, zero, suc, arith}
use Rattle.std.proofs.lemmas.Bool.{eqb-true}
use Rattle.p10_heads.specs.declared.head.Head.{Head as CodeHead}
use Rattle.p10_heads.specs.HeadViews.{plain_head}
use Rattle.p10_heads.specs.private.Numbering.{stands_at, or_at, or_found}

-- ## One definition is noted

or_not : (o : Option ℕ) (n : ℕ) → o ≡ or_at o false n
or_not (Some m) n = refl
or_not None n = refl

-- it isn't in a block
pub outside : (o : Option ℕ) (b c : Bool) (n : ℕ) → b ≡ false → o ≡ or_at o (b && c) n
outside o b c n e = or_not o n ∙ ap (λ x. or_at o (x && c) n) (sym e)

known_stays : (o : Option ℕ) (b : Bool) (n : ℕ) → is_some o ≡ true → o ≡ or_at o b n
known_stays (Some m) b n e = refl
known_stays None b n e = absurd cc

-- its name stands where one is that is noted
pub noted_before : (get : ℕ → Option ℕ) (key first n : ℕ) (b : Bool) → is_some (get key) ≡ true → get first ≡ or_at (get first) (b && nat_eq key first) n
noted_before get key first n b e = by (nat_eq key first) refl
  where
    apart : (c : Bool) → (c && false) ≡ false
    apart true = refl
    apart false = refl

    by : (same : Bool) → nat_eq key first ≡ same → get first ≡ or_at (get first) (b && nat_eq key first) n
    by true is = known_stays (get first) (b && nat_eq key first) n (ap (λ k. is_some (get k)) (sym (eqb-true key first is)) ∙ e)
    by false is = or_not (get first) n ∙ ap (λ x. or_at (get first) x n) (sym (ap (λ x. b && x) is ∙ apart b))

none_there : (o : Option ℕ) (n : ℕ) → is_some o ≡ false → Some n ≡ or_at o true n
none_there (Some m) n e = absurd cc
none_there None n e = refl

-- it is the first one there
pub noted_new : (old new : ℕ → Option ℕ) (key first n : ℕ) (b : Bool) → b ≡ true → is_some (old key) ≡ false → new first ≡ cond (nat_eq key first) (Some n) (old first) →
    new first ≡ or_at (old first) (b && nat_eq key first) n
noted_new old new key first n b inside e is = is ∙ by (nat_eq key first) refl ∙ ap (λ x. or_at (old first) (x && nat_eq key first) n) (sym inside)
  where
    by : (same : Bool) → nat_eq key first ≡ same → cond (nat_eq key first) (Some n) (old first) ≡ or_at (old first) (true && nat_eq key first) n
    by true is =
        ap (λ x. cond x (Some n) (old first)) is
        ∙ none_there (old first) n (ap (λ k. is_some (old k)) (sym (eqb-true key first is)) ∙ e)
        ∙ ap (λ x. or_at (old first) x n) (sym is)
    by false is = ap (λ x. cond x (Some n) (old first)) is ∙ or_not (old first) n ∙ ap (λ x. or_at (old first) x n) (sym is)

-- ## One after the other

step : (o p : Option ℕ) (b : Bool) (n : ℕ) → or_found o (if b then Some n else p) ≡ or_found (or_at o b n) p
step (Some m) p b n = refl
step None p true n = refl
step None p false n = refl

-- one more is noted
pub block_turn : (first i n m : ℕ) (all : List CodeHead) (h : CodeHead) (old new whole : Option ℕ) → drop i all ≡ h ∷ drop (i + 1) all → m ≡ n + 1 → new ≡ or_at old (stands_at first (plain_head h)) n →
    or_found old (position_from (stands_at first) n (map plain_head (drop i all))) ≡ whole → or_found new (position_from (stands_at first) m (map plain_head (drop (i + 1) all))) ≡ whole
block_turn first i n m all h old new whole cut more is holds =
    (λ x. or_found (is x) (position_from (stands_at first) (more x) (map plain_head (drop (i + 1) all))))
    ∙ sym (step old (position_from (stands_at first) (n + 1) (map plain_head (drop (i + 1) all))) (stands_at first (plain_head h)) n)
    ∙ sym (ap (λ hs. or_found old (position_from (stands_at first) n (map plain_head hs))) cut)
    ∙ holds

-- all are noted
pub block_end : (first i n : ℕ) (all : List CodeHead) (o whole : Option ℕ) → length all ≤ i → or_found o (position_from (stands_at first) n (map plain_head (drop i all))) ≡ whole → o ≡ whole
block_end first i n all o whole past holds = found o ∙ sym (ap (λ hs. or_found o (position_from (stands_at first) n (map plain_head hs))) (none_left all i past)) ∙ holds
  where
    found : (o : Option ℕ) → o ≡ or_found o None
    found (Some m) = refl
    found None = refl

    none_left : (all : List CodeHead) (i : ℕ) → length all ≤ i → drop i all ≡ []
    none_left [] zero h = refl
    none_left [] (suc i) h = refl
    none_left (x ∷ all) zero h = absurd (omega (arith, h))
    none_left (x ∷ all) (suc i) h = none_left all i (omega (arith, h))
