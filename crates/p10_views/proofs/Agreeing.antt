-- Claims that say the same of a function, where claims may stand.
use Rattle.std.proofs.Common.{◌≡◌, ℕ, Option, Some, None, refl, ap}
use Rattle.p10_int.specs.declared.types.IntType.{IntType}
use Rattle.p10_cert.specs.Claims.{Claims}
use Rattle.p10_absx.specs.Assessing.{result_claimed, call_claimed}
use Rattle.p10_views.specs.Views.{SayTheSame}

abbrev pub Agree : Option Claims → Option Claims → ℕ → Type 0
Agree None None n = Unit {0}
Agree (Some c) (Some d) n = SayTheSame c.funcs d.funcs n
Agree c d n = ⊥

pub same_result : (c d : Option Claims) (n : ℕ) (kind : IntType) → Agree c d n → call_claimed c n kind ≡ call_claimed d n kind
same_result None None n kind same = refl
same_result (Some c) (Some d) n kind same = ap (result_claimed kind) same
same_result None (Some d) n kind same = absurd same
same_result (Some c) None n kind same = absurd same

-- both have claims, or neither does
abbrev pub Stand : Option Claims → Option Claims → Type 0
Stand None None = Unit {0}
Stand (Some c) (Some d) = Unit {0}
Stand c d = ⊥
