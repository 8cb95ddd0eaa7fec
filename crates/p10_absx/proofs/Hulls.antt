-- The hull of what two lists of changes give.
use Rattle.std.proofs.Common.{◌≡◌, ℕ, zero, suc, ◌≢◌, eqb, Bool, true, false, List, [], ◌∷◌, ◌++◌, Option, Some, None, refl, ap, sym, ◌∙◌, subst, inl, inr, arith}
use Rattle.std.specs.Prelude.{slice_get, slice_set, if◌then◌else◌, ◌⊎◌}
use Rattle.std.specs.Option.{option_map}
use Rattle.std.proofs.lemmas.Int.{ints, clamps}
use Rattle.std.proofs.lemmas.Bool.Decides.{nat_tests, eqb_tells}
use Rattle.std.proofs.lemmas.Bool.{eqb-true}
use Rattle.p10_range.specs.Ranges.{Interval, hull_of}
use Rattle.p10_range.proofs.Carried.{both}
use Rattle.p10_absx.specs.Abstract.{Offset, Abstract, hull_offset, hull_abstract}
use Rattle.p10_absx.specs.Environments.{Environment, known_in, known, hull_entry, hull_environment}
use Rattle.p10_absx.specs.private.Changes.{Replaced, applied, widened}
use Rattle.p10_absx.proofs.Entries.{get_other}

-- ## Hulls of entries

hull_turned : (r s : Interval) → hull_of r s ≡ hull_of s r
hull_turned r s = both _ _ _ _ (omega (arith, ints, clamps)) (omega (arith, ints, clamps))

hull_itself : (r : Interval) → hull_of r r ≡ r
hull_itself r = both _ _ _ _ (omega (arith, ints, clamps)) (omega (arith, ints, clamps))

offset_turned_at : (o p : Offset) → ((eqb o.about p.about ≡ true) × (o.about ≡ p.about)) ⊎ ((eqb o.about p.about ≡ false) × (o.about ≢ p.about)) → hull_offset (Some o) (Some p) ≡ hull_offset (Some p) (Some o)
offset_turned_at o p (inl h) =
    let t : eqb p.about o.about ≡ true = grind (arith, nat_tests, h.1) in
    let first : hull_offset (Some o) (Some p) ≡ Some (record { about = o.about; by = hull_of o.by p.by }) =
    ap (λ b. if b then Some (record { about = o.about; by = hull_of o.by p.by }) else None) h.0 in
    let second : hull_offset (Some p) (Some o) ≡ Some (record { about = p.about; by = hull_of p.by o.by }) =
    ap (λ b. if b then Some (record { about = p.about; by = hull_of p.by o.by }) else None) t in
    let e : o.about ≡ p.about = h.1 in
    let f : hull_of o.by p.by ≡ hull_of p.by o.by = hull_turned o.by p.by in
    let same : record { about = o.about; by = hull_of o.by p.by } ≡ record { about = p.about; by = hull_of p.by o.by } = same_offset o.about p.about (hull_of o.by p.by) (hull_of p.by o.by) e f in
    first ∙ (ap Some same ∙ sym second)
  where
    same_offset : (m n : ℕ) (r s : Interval) → m ≡ n → r ≡ s → (let a : Offset = record { about = m; by = r } in let b : Offset = record { about = n; by = s } in a ≡ b)
    same_offset m n r s e f = λ i. record { about = e i; by = f i }
offset_turned_at o p (inr h) =
    let t : eqb p.about o.about ≡ false = grind (arith, nat_tests, h.1) in
    ap (λ b. if b then Some (record { about = o.about; by = hull_of o.by p.by }) else None) h.0 ∙
    sym (ap (λ b. if b then Some (record { about = p.about; by = hull_of p.by o.by }) else None) t)

offset_turned : (o p : Option Offset) → hull_offset o p ≡ hull_offset p o
offset_turned None None = refl
offset_turned None (Some p) = refl
offset_turned (Some o) None = refl
offset_turned (Some o) (Some p) = offset_turned_at o p (eqb_tells o.about p.about)

offset_itself : (o : Option Offset) → hull_offset o o ≡ o
offset_itself None = refl
offset_itself (Some o) =
    let t : eqb o.about o.about ≡ true = grind (arith, nat_tests) in
    ap (λ b. if b then Some (record { about = o.about; by = hull_of o.by o.by }) else None) t ∙ ap (λ r. Some (record { about = o.about; by = r })) (hull_itself o.by)

abstract_turned : (a b : Abstract) → hull_abstract a b ≡ hull_abstract b a
abstract_turned a b =
    let e : hull_of a.range b.range ≡ hull_of b.range a.range = hull_turned a.range b.range in
    let f : hull_offset a.offset b.offset ≡ hull_offset b.offset a.offset = offset_turned a.offset b.offset in
    λ i. record { range = e i; offset = f i }

abstract_itself : (a : Abstract) → hull_abstract a a ≡ a
abstract_itself a =
    let e : hull_of a.range a.range ≡ a.range = hull_itself a.range in
    let f : hull_offset a.offset a.offset ≡ a.offset = offset_itself a.offset in
    λ i. record { range = e i; offset = f i }

pub entry_turned : (a b : Option Abstract) → hull_entry a b ≡ hull_entry b a
entry_turned None None = refl
entry_turned None (Some b) = refl
entry_turned (Some a) None = refl
entry_turned (Some a) (Some b) = ap Some (abstract_turned a b)

pub entry_itself : (a : Option Abstract) → hull_entry a a ≡ a
entry_itself None = refl
entry_itself (Some a) = ap Some (abstract_itself a)

-- ## What changes leave at one variable

-- the last of what changes and something before them give for a variable
abbrev last_of : List Replaced → ℕ → Option Abstract → Option Abstract
last_of [] n e = e
last_of (c ∷ changes) n e = last_of changes n (if eqb c.variable n then c.known else e)

map_itself : {A : Type 0} (o : Option A) → option_map (λ x. x) o ≡ o
map_itself None = refl
map_itself (Some x) = refl

map_twice : {A B C : Type 0} (f : A → B) (g : B → C) (o : Option A) → option_map g (option_map f o) ≡ option_map (λ x. g (f x)) o
map_twice f g None = refl
map_twice f g (Some x) = refl

set_here : {A : Type 0} (xs : List A) (n : ℕ) (k : A) → slice_get (slice_set xs n k) n ≡ option_map (λ x. k) (slice_get xs n)
set_here [] n k = refl
set_here (x ∷ xs) zero k = refl
set_here (x ∷ xs) (suc n) k = set_here xs n k

set_at : {A : Type 0} (xs : List A) (m n : ℕ) (k : A) → slice_get (slice_set xs m k) n ≡ option_map (λ x. if eqb m n then k else x) (slice_get xs n)
set_at xs m n k = at (eqb m n) refl
  where
    at : (b : Bool) → eqb m n ≡ b → slice_get (slice_set xs m k) n ≡ option_map (λ x. if b then k else x) (slice_get xs n)
    at true h = let p : m ≡ n = eqb-true m n h in subst (λ j. slice_get (slice_set xs j k) n ≡ option_map (λ x. k) (slice_get xs n)) (sym p) (set_here xs n k)
    at false h = get_other xs m n k (λ p. absurd (grind (arith, nat_tests, p, h))) ∙ sym (map_itself (slice_get xs n))

get_applied : (changes : List Replaced) (env : Environment) (n : ℕ) → slice_get (applied changes env) n ≡ option_map (last_of changes n) (slice_get env n)
get_applied [] env n = sym (map_itself (slice_get env n))
get_applied (c ∷ changes) env n =
    get_applied changes (slice_set env c.variable c.known) n ∙ (ap (option_map (last_of changes n)) (set_at env c.variable n c.known) ∙
    map_twice (λ x. if eqb c.variable n then c.known else x) (last_of changes n) (slice_get env n))

last_append : (xs ys : List Replaced) (n : ℕ) (e : Option Abstract) → last_of (xs ++ ys) n e ≡ last_of ys n (last_of xs n e)
last_append [] ys n e = refl
last_append (x ∷ xs) ys n e = last_append xs ys n (if eqb x.variable n then x.known else e)

-- whether changes change a variable
abbrev touched : List Replaced → ℕ → Bool
touched [] n = false
touched (c ∷ changes) n = if touched changes n then true else eqb c.variable n

untouched : (changes : List Replaced) (n : ℕ) (e : Option Abstract) → touched changes n ≡ false → last_of changes n e ≡ e
untouched [] n e h = refl
untouched (c ∷ changes) n e h = at (touched changes n) (untouched changes n) h
  where
    at : (b : Bool) → ((e : Option Abstract) → b ≡ false → last_of changes n e ≡ e) → (if b then true else eqb c.variable n) ≡ false → last_of changes n (if eqb c.variable n then c.known else e) ≡ e
    at true k h = absurd cc
    at false k h = ap (λ b. last_of changes n (if b then c.known else e)) h ∙ k e refl

touched_widened : (env : Environment) (changes : List Replaced) (n : ℕ) → touched (widened env changes) n ≡ touched changes n
touched_widened env [] n = refl
touched_widened env (c ∷ changes) n = ap (λ b. if b then true else eqb c.variable n) (touched_widened env changes n)

last_widened : (env : Environment) (changes : List Replaced) (n : ℕ) (e f : Option Abstract) → touched changes n ≡ true →
    last_of (widened env changes) n e ≡ hull_entry (known env n) (last_of changes n f)
last_widened env [] n e f h = absurd cc
last_widened env (c ∷ changes) n e f h =
    at (touched changes n) refl (λ e f. last_widened env changes n e f) h
  where
    at : (b : Bool) → touched changes n ≡ b →
        ((e f : Option Abstract) → touched changes n ≡ true → last_of (widened env changes) n e ≡ hull_entry (known env n) (last_of changes n f)) →
        (if b then true else eqb c.variable n) ≡ true →
        last_of (widened env changes) n (if eqb c.variable n then hull_entry (known env c.variable) c.known else e) ≡ hull_entry (known env n) (last_of changes n (if eqb c.variable n then c.known else f))
    at true t k h = k _ _ t
    at false t k h =
        let p : c.variable ≡ n = eqb-true c.variable n h in
        let w : touched (widened env changes) n ≡ false = touched_widened env changes n ∙ t in
        untouched (widened env changes) n _ w ∙ (ap (λ b. if b then hull_entry (known env c.variable) c.known else e) h ∙
        (ap (λ m. hull_entry (known env m) c.known) p ∙
        ap (hull_entry (known env n)) (sym (untouched changes n _ t ∙ ap (λ b. if b then c.known else f) h))))

-- ## The hull

-- an entry of a hull
abbrev hull_got : Option (Option Abstract) → Option (Option Abstract) → Option (Option Abstract)
hull_got None b = None
hull_got (Some a) None = None
hull_got (Some a) (Some b) = Some (hull_entry a b)

get_hull : (env others : Environment) (n : ℕ) → slice_get (hull_environment env others) n ≡ hull_got (slice_get env n) (slice_get others n)
get_hull [] others n = refl
get_hull (a ∷ env) [] zero = refl
get_hull (a ∷ env) [] (suc n) = none (slice_get env n)
  where
    none : (o : Option (Option Abstract)) → None ≡ hull_got o None
    none None = refl
    none (Some x) = refl
get_hull (a ∷ env) (b ∷ others) zero = refl
get_hull (a ∷ env) (b ∷ others) (suc n) = get_hull env others n

same_entries : {A : Type 0} (xs ys : List A) → ((n : ℕ) → slice_get xs n ≡ slice_get ys n) → xs ≡ ys
same_entries [] [] h = refl
same_entries [] (y ∷ ys) h = let e = h 0 in absurd cc
same_entries (x ∷ xs) [] h = let e = h 0 in absurd cc
same_entries (x ∷ xs) (y ∷ ys) h =
    let e = h 0 in let p : x ≡ y = cc in let q : xs ≡ ys = same_entries xs ys (λ n. h (suc n)) in
    ap (λ z. z ∷ xs) p ∙ ap (λ zs. y ∷ zs) q

pub hull_is : (env : Environment) (xs ys : List Replaced) → applied (widened env ys ++ widened (applied ys env) xs) env ≡ hull_environment (applied xs env) (applied ys env)
hull_is env xs ys = same_entries _ _ (λ n. get_applied (widened env ys ++ widened (applied ys env) xs) env n ∙
    (at n (slice_get env n) refl ∙ sym (get_hull (applied xs env) (applied ys env) n ∙
    (ap (λ o. hull_got o (slice_get (applied ys env) n)) (get_applied xs env n) ∙ ap (hull_got (option_map (last_of xs n) (slice_get env n))) (get_applied ys env n)))))
  where
    there : (n : ℕ) (e : Option Abstract) → slice_get env n ≡ Some e → (b c : Bool) → touched xs n ≡ b → touched ys n ≡ c →
        last_of (widened (applied ys env) xs) n (last_of (widened env ys) n e) ≡ hull_entry (last_of xs n e) (last_of ys n e)
    there n e h true c s t =
        let k : known (applied ys env) n ≡ last_of ys n e = ap known_in (get_applied ys env n ∙ ap (option_map (last_of ys n)) h) in
        last_widened (applied ys env) xs n (last_of (widened env ys) n e) e s ∙ (ap (λ a. hull_entry a (last_of xs n e)) k ∙ entry_turned (last_of ys n e) (last_of xs n e))
    there n e h false true s t =
        let k : known env n ≡ e = ap known_in h in
        untouched (widened (applied ys env) xs) n _ (touched_widened (applied ys env) xs n ∙ s) ∙ (last_widened env ys n e e t ∙
        (ap (λ a. hull_entry a (last_of ys n e)) k ∙ ap (λ a. hull_entry a (last_of ys n e)) (sym (untouched xs n e s))))
    there n e h false false s t =
        untouched (widened (applied ys env) xs) n _ (touched_widened (applied ys env) xs n ∙ s) ∙ (untouched (widened env ys) n e (touched_widened env ys n ∙ t) ∙
        (sym (entry_itself e) ∙ (ap (λ a. hull_entry a e) (sym (untouched xs n e s)) ∙ ap (hull_entry (last_of xs n e)) (sym (untouched ys n e t)))))

    at : (n : ℕ) (o : Option (Option Abstract)) → slice_get env n ≡ o →
        option_map (last_of (widened env ys ++ widened (applied ys env) xs) n) o ≡ hull_got (option_map (last_of xs n) o) (option_map (last_of ys n) o)
    at n None h = refl
    at n (Some e) h = ap Some (last_append (widened env ys) (widened (applied ys env) xs) n e ∙ there n e h (touched xs n) (touched ys n) refl refl)
