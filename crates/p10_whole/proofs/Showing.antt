-- What tests show, alone and together.
use Rattle.std.proofs.Common.{◌≡◌, Bool, true, false, ◌&&◌, ◌||◌, refl, sym, ◌∙◌}
use Rattle.p10_whole.specs.private.Shows.{Shows}

-- a claim, where its test is true
pub shown : {P : Type 0} {b : Bool} → Shows b P → b ≡ true → P
shown h e = h.shows e

-- a test that fails shows each claim
pub shows_none : {P : Type 0} → Shows false P
shows_none = record { shows = λ e. cc }

-- a claim that always holds
pub shows_always : {P : Type 0} → P → Shows true P
shows_always p = record { shows = λ e. p }

-- both tests are true where they are true together
pub both_true : (a b : Bool) → (a && b) ≡ true → (a ≡ true) × (b ≡ true)
both_true true b e = (refl, e)
both_true false b e = cc

-- one of two tests is true where they are true together
pub either_true : {P : Type 0} (a b : Bool) → (a || b) ≡ true → (a ≡ true → P) → (b ≡ true → P) → P
either_true true b e f g = f refl
either_true false b e f g = g e

-- two tests show both claims
pub shows_both : {P Q : Type 0} {a b : Bool} → Shows a P → Shows b Q → Shows (a && b) (P × Q)
shows_both {a = a} {b = b} h k = record { shows = λ e. let t = both_true a b e in (h.shows t.0, k.shows t.1) }

-- a test that answers as a test of the definitions shows that it is true
pub shows_test : {b : Bool} (x : Bool) → b ≡ x → Shows b (x ≡ true)
shows_test x e = record { shows = λ h. sym e ∙ h }
