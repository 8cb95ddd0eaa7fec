-- How the program is made, piece by piece.
use Rattle.std.proofs.Common.{◌≡◌, ℕ, zero, suc, ◌+◌, ◌≤◌, ◌<◌, ◌++◌, length, sym, ap, ◌∙◌, append_assoc, arith, length-append, add-one, add-zero, add-suc, append-nil, ◌-◌, Result, Ok, Err, IfErr, OnOk}
use Rattle.p10_base.specs.Words.{Text}
use Rattle.p10_gen.specs.declared.fault.GenFault.{GenFault}
use Rattle.p10_gen.specs.declared.fault.GenFault.TheVariants.{Over, Memory}
use Rattle.p10_gen.specs.private.Making.{IsFaultAt, IsFaultAfter, ◌then◌, texts_below}

-- a longer text isn't made either
pub fault_rises : (few many : ℕ) (fault : GenFault) → few ≤ many → IsFaultAt few fault → IsFaultAt many fault
fault_rises few many (Over limit) le is = (is.0, omega arith)
fault_rises few many Memory le is = tt

-- the first piece isn't put
pub fault_of_first : (text first second : Text) (fault : GenFault) → IsFaultAfter text first fault → IsFaultAfter text (first then second) fault
unfolding ◌then◌
fault_of_first text first second fault is = record { long = fault_rises _ _ fault (omega (arith, length-append first second)) is.long }

-- the first piece is put, and the second one isn't
pub fault_of_second : (text more first second : Text) (fault : GenFault) → more ≡ text ++ first → IsFaultAfter more second fault → IsFaultAfter text (first then second) fault
unfolding ◌then◌
fault_of_second text more first second fault is after =
    record { long = fault_rises _ _ fault (omega (arith, length-append first second, length-append text first, ap length is)) after.long }

-- both pieces are put
pub both_put : (text more all first second : Text) → more ≡ text ++ first → all ≡ more ++ second → all ≡ text ++ (first then second)
unfolding ◌then◌
both_put text more all first second is after = after ∙ ap (λ so. so ++ second) is ∙ append_assoc text first second

pub ruleset pieces = (fault_of_first, fault_of_second, both_put)

-- as one write after the other answers
pub fault_first_of : {T : Type 0} (r : Result T GenFault) (text first second : Text) → IfErr r (IsFaultAfter text first) → IfErr r (IsFaultAfter text (first then second))
fault_first_of (Ok x) text first second is = tt
fault_first_of (Err fault) text first second is = fault_of_first text first second fault is

pub fault_second_of : {T : Type 0} (r : Result T GenFault) (text more first second : Text) → more ≡ text ++ first → IfErr r (IsFaultAfter more second) → IfErr r (IsFaultAfter text (first then second))
fault_second_of (Ok x) text more first second is after = tt
fault_second_of (Err fault) text more first second is after = fault_of_second text more first second fault is after

pub both_put_of : {T E : Type 0} (r : Result T E) (text more all first second : Text) → more ≡ text ++ first → OnOk r (all ≡ more ++ second) → OnOk r (all ≡ text ++ (first then second))
both_put_of (Ok x) text more all first second is after = both_put text more all first second is after
both_put_of (Err e) text more all first second is after = tt

pub ruleset put_pieces = (fault_of_first, fault_of_second, both_put, fault_first_of, fault_second_of, both_put_of)

-- ## Loops over numbers

-- more numbers have no shorter text
below_rise : (text : ℕ → Text) (k more : ℕ) → length (texts_below text k) ≤ length (texts_below text (k + more))
below_rise text k zero = omega (arith, ap (λ n. length (texts_below text n)) (add-zero k))
below_rise text k (suc more) =
    omega (arith, below_rise text k more, ap (λ n. length (texts_below text n)) (add-suc k more), length-append (texts_below text (k + more)) (text (k + more)))

-- nothing is put yet
pub below_first : (text : ℕ → Text) (all : Text) → all ≡ all ++ texts_below text zero
below_first text all = sym (append-nil all)

-- the text of one more number is put
pub below_more : (text : ℕ → Text) (before all more : Text) (k : ℕ) → all ≡ before ++ texts_below text k → more ≡ all ++ text k → more ≡ before ++ texts_below text (k + 1)
below_more text before all more k is after =
    after ∙ ap (λ so. so ++ text k) is ∙ append_assoc before (texts_below text k) (text k) ∙ ap (λ n. before ++ texts_below text n) (sym (add-one k))

-- the text of one more number isn't put
pub below_fault : (text : ℕ → Text) (before all : Text) (k n : ℕ) (fault : GenFault) → k < n → all ≡ before ++ texts_below text k
    → IsFaultAfter all (text k) fault → IsFaultAfter before (texts_below text n) fault
below_fault text before all k n fault less is after = record {
  long = fault_rises _ _ fault
      (omega (arith, ap length is, length-append before (texts_below text k), length-append (texts_below text k) (text k), below_rise text (suc k) (n - suc k), ap (λ m. length (texts_below text m)) (whole k n less)))
      after.long;
}
  where
    whole : (k n : ℕ) → k < n → suc k + (n - suc k) ≡ n
    whole k n less = omega arith
