-- Arrays of as many elements as initialisers give.
use Rattle.std.specs.Prelude.{◌≡◌, ℕ, ◌*◌, nat_le, Bool, true, false, ◌&&◌, if◌then◌else◌, is_some, Option, Some, None, List, refl}
use Rattle.std.proofs.Common.{◌∙◌, ap, sym}
use Rattle.p10_base.specs.declared.at.At.{At}
use Rattle.p10_base.specs.declared.codes.SubsetCode.TheVariants as subset
use Rattle.p10_core.specs.Types.{PlainType, array, PlainStructure}
use Rattle.p10_core.specs.Sizes.{layout_of, size_of}
use Rattle.p10_core.specs.WholePrograms.{most_bytes}
use Rattle.p10_elabx.specs.First.{Keep}
use Rattle.p10_elabx.specs.Operators.{has_size}
use Rattle.p10_elabd.specs.Standing.{PlainStanding, Passed, passed, nothing_made, refusing}
use Rattle.p10_syn.specs.Trees.{Identifier, Initializer}
use Rattle.p10_elabs.specs.Locals.{counted_array, measured, filled_array}

-- a number, if a condition holds
abbrev where_so : ℕ → Bool → Option ℕ
where_so n b = if b then Some n else None

holds : (b : Bool) (n size : ℕ) → Some size ≡ where_so n b → b ≡ true
holds true n size e = refl
holds false n size e = absurd cc

fails : (b : Bool) (n : ℕ) → None ≡ where_so n b → b ≡ false
fails true n e = absurd cc
fails false n e = refl

never : false ≡ true → (b : Bool) → b ≡ true
never e b = absurd cc

holds_there : (b : Bool) (n : ℕ) (r : Option ℕ) → r ≡ where_so n b → is_some r ≡ true → b ≡ true
holds_there true n r e some = refl
holds_there false n r e some = never (sym (ap is_some e) ∙ some) false

second : (a b c : Bool) → a ≡ true → (a && b) ≡ c → b ≡ c
second true b c is e = e
second false b c is e = absurd cc

-- whether an array of elements with a size isn't too large
fits : (ss : List PlainStructure) (t whole : PlainType) (n : ℕ) (r : Option ℕ) (b : Bool) → r ≡ (if has_size ss t then Some (size_of ss t) else None) → is_some r ≡ true → whole ≡ array false t n →
    has_size ss whole ≡ b → nat_le (n * size_of ss t) most_bytes ≡ b
unfolding layout_of
fits ss t whole n r b known some is e =
    second (has_size ss t) (nat_le (n * size_of ss t) most_bytes) b (holds_there (has_size ss t) (size_of ss t) r known some) (ap (has_size ss) (sym is) ∙ e)

-- an array that isn't too large
pub counted_fits : (h : Keep) (brackets : At) (s : PlainStanding) (t whole : PlainType) (n size : ℕ) (r : Option ℕ) (known : Bool) →
    r ≡ (if has_size s.scope.structures t then Some (size_of s.scope.structures t) else None) → known ≡ is_some r → known ≡ true → whole ≡ array false t n →
    Some size ≡ (if has_size s.scope.structures whole then Some (size_of s.scope.structures whole) else None) →
    passed whole s ≡ counted_array h brackets t n s
counted_fits h brackets s t whole n size r known r_is known_is so is e =
    let ss : List PlainStructure = s.scope.structures in
    ap (λ x. passed x s) is
    ∙ sym (ap (λ b. if b then passed (array false t n) s else nothing_made (refusing h true subset.BadLength brackets s))
    (fits ss t whole n r true r_is (sym known_is ∙ so) is (holds (has_size ss whole) (size_of ss whole) size e)))

-- one that is
pub counted_beyond : (h : Keep) (brackets : At) (s after : PlainStanding) (t whole : PlainType) (n : ℕ) (r : Option ℕ) (known : Bool) →
    r ≡ (if has_size s.scope.structures t then Some (size_of s.scope.structures t) else None) → known ≡ is_some r → known ≡ true → whole ≡ array false t n →
    None ≡ (if has_size s.scope.structures whole then Some (size_of s.scope.structures whole) else None) → after ≡ refusing h true subset.BadLength brackets s →
    nothing_made after ≡ counted_array h brackets t n s
counted_beyond h brackets s after t whole n r known r_is known_is so is e refused =
    let ss : List PlainStructure = s.scope.structures in
    ap (λ (x : PlainStanding). nothing_made x) refused
    ∙ sym (ap (λ b. if b then passed (array false t n) s else nothing_made (refusing h true subset.BadLength brackets s))
    (fits ss t whole n r false r_is (sym known_is ∙ so) is (fails (has_size ss whole) (size_of ss whole) e)))

-- an array of as many elements as an initialiser gives, of which the parts are told
pub filled_by : (h : Keep) (name : Identifier At) (brackets : At) (t kept : PlainType) (i : Initializer At) (given : Option ℕ) (n : ℕ) (s : PlainStanding) (p q : Passed PlainType) →
    given ≡ Some n → kept ≡ t → p ≡ counted_array h brackets kept n s → q ≡ measured h name t i p.made p.after → q ≡ filled_array h name brackets t i given s
filled_by h name brackets t kept i given n s p q given_is kept_is p_is is =
    is
    ∙ ap (λ (x : Passed PlainType). measured h name t i x.made x.after) (p_is ∙ ap (λ u. counted_array h brackets u n s) kept_is)
    ∙ sym (ap (λ g. filled_array h name brackets t i g s) given_is)
