-- One answer for an expression.
use Rattle.std.specs.Prelude.{◌≡◌, ℕ, Bool, true, false, Ok, Err, List, if◌then◌else◌, nat_lt, nat_le}
use Rattle.std.proofs.Common.{subst, arith}
use Rattle.std.proofs.lemmas.Bool.Decides.{nat_tests}
use Rattle.p10_base.specs.Codes.{subset_number}
use Rattle.p10_core.specs.declared.typed.Value.{Value}
use Rattle.p10_core.specs.Typed.{PlainValue}
use Rattle.p10_core.specs.Views.{plain_value}
use Rattle.p10_elabx.specs.declared.problem.Problem.{Problem}
use Rattle.p10_elabx.specs.declared.elaborate.ElabFault.TheVariants.{Refused}
use Rattle.p10_elabx.specs.First.{Found, IsFirst}
use Rattle.p10_elabx.specs.Answers.{Answers}

pub one_tree : (found : Found PlainValue) (v w : Value) → Answers found (Ok v) → Answers found (Ok w) → plain_value v ≡ plain_value w
one_tree found v w a b = cc

ok_not_err : (found : Found PlainValue) (x : PlainValue) (all : List Problem) → found ≡ Ok x → found ≡ Err all → ⊥
ok_not_err (Ok y) x all a b = absurd cc
ok_not_err (Err rs) x all a b = absurd cc

pub not_both : (found : Found PlainValue) (v : Value) (r : Problem) → Answers found (Ok v) → Answers found (Err (Refused r)) → ⊥
not_both found v r a (all, e, f) = ok_not_err found (plain_value v) all a e

-- ## The first row

abbrev lex : ℕ → ℕ → ℕ → ℕ → ℕ → ℕ → Bool
lex a b c x y z =
    if nat_lt a x then true else (if nat_lt x a then false
    else (if nat_lt b y then true else (if nat_lt y b then false else nat_le c z)))

lex_first : (a b c x y z : ℕ) → lex a b c x y z ≡ true → lex x y z a b c ≡ true → a ≡ x
lex_first a b c x y z h k = grind (arith, nat_tests)

lex_second : (a b c x y z : ℕ) → lex a b c x y z ≡ true → lex x y z a b c ≡ true → b ≡ y
lex_second a b c x y z h k = grind (arith, nat_tests)

lex_third : (a b c x y z : ℕ) → lex a b c x y z ≡ true → lex x y z a b c ≡ true → c ≡ z
lex_third a b c x y z h k = grind (arith, nat_tests)

firsts_agree : (r q : Problem) (all : List Problem) → IsFirst r all → IsFirst q all →
    (subset_number r.code ≡ subset_number q.code) × (r.at.first ≡ q.at.first) × (r.at.past ≡ q.at.past)
firsts_agree r q all f g =
    let a = f.first q g.holds in
    let b = g.first r f.holds in (
      lex_second r.at.first (subset_number r.code) r.at.past q.at.first (subset_number q.code) q.at.past a b,
      lex_first r.at.first (subset_number r.code) r.at.past q.at.first (subset_number q.code) q.at.past a b,
      lex_third r.at.first (subset_number r.code) r.at.past q.at.first (subset_number q.code) q.at.past a b,
    )

one_list : (found : Found PlainValue) (xs ys : List Problem) → found ≡ Err xs → found ≡ Err ys → ys ≡ xs
one_list found xs ys a b = cc

pub one_first : (found : Found PlainValue) (r q : Problem) → Answers found (Err (Refused r)) → Answers found (Err (Refused q)) →
    (subset_number r.code ≡ subset_number q.code) × (r.at.first ≡ q.at.first) × (r.at.past ≡ q.at.past)
one_first found r q (xs, e, f) (ys, g, h) = firsts_agree r q xs f (subst (IsFirst q) (one_list found xs ys e g) h)
