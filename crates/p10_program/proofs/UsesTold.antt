-- Of the uses of what isn't defined none is left out.
use Rattle.std.proofs.Common.{◌≡◌, ℕ, zero, suc, ◌≤◌, nat_lt, false, if◌then◌else◌, List, [], ◌∷◌, ◌++◌, refl, sym, ◌∙◌, ap, subst, append_assoc, arith}
use Rattle.std.specs.List.{Contains}
use Rattle.std.proofs.lemmas.Bool.Decides.{nat_tests}
use Rattle.std.proofs.lemmas.List.Elements.{Contains-append_left, Contains-append_right}
use Rattle.p10_base.specs.declared.codes.SubsetCode.TheVariants as subset
use Rattle.p10_core.specs.Typed.{value, call, place, global}
use Rattle.p10_core.specs.Nodes.{PlainNode, a_value, a_place}
use Rattle.p10_core.specs.Uses.{function_used, object_used}
use Rattle.p10_elabx.specs.declared.problem.Problem.{Problem}
use Rattle.p10_program.specs.Laws.{EachUseIsTold}
use Rattle.p10_program.specs.Undefined.{name_of_call, undefined_among}
use Rattle.p10_program.specs.private.Using.{use_undefined}
use Rattle.p10_program.proofs.FirstUses.{undefined_next}

told_together : (functions objects : ℕ) (ns ms : List PlainNode) → undefined_among functions objects (ns ++ ms) ≡ undefined_among functions objects ns ++ undefined_among functions objects ms
told_together functions objects [] ms = refl
told_together functions objects (n ∷ ns) ms =
    let here : List Problem = use_undefined functions objects (function_used n) (object_used n) in
    undefined_next functions objects n (ns ++ ms)
    ∙ ap (λ rest. here ++ rest) (told_together functions objects ns ms)
    ∙ sym (append_assoc here (undefined_among functions objects ns) (undefined_among functions objects ms))
    ∙ ap (λ rs. rs ++ undefined_among functions objects ms) (sym (undefined_next functions objects n ns))

-- what one node tells is told of all nodes among which it is
told_among : (functions objects : ℕ) (x : PlainNode) (r : Problem) (ns : List PlainNode) → Contains (undefined_among functions objects (x ∷ [])) r → Contains ns x → Contains (undefined_among functions objects ns) r
told_among functions objects x r [] one h = let lt = h.1 in absurd (omega (arith, lt))
told_among functions objects x r (n ∷ ns) one (zero, lt, e) =
    subst (λ y. Contains (undefined_among functions objects (y ∷ ns)) r) (sym e)
    (subst (λ rs. Contains rs r) (sym (told_together functions objects (x ∷ []) ns)) (Contains-append_left (undefined_among functions objects (x ∷ [])) (undefined_among functions objects ns) r one))
told_among functions objects x r (n ∷ ns) one (suc k, lt, e) =
    subst (λ rs. Contains rs r) (sym (told_together functions objects (n ∷ []) ns))
    (Contains-append_right (undefined_among functions objects (n ∷ [])) (undefined_among functions objects ns) r (told_among functions objects x r ns one (k, omega (arith, lt), e)))

past : (n count : ℕ) → count ≤ n → nat_lt n count ≡ false
past n count h = grind (arith, nat_tests)

-- one row, where its number is past those that are defined
one_row : (n count : ℕ) (r : Problem) → count ≤ n → Contains ((if nat_lt n count then [] else r ∷ []) ++ []) r
one_row n count r h = subst (λ b. Contains ((if b then [] else r ∷ []) ++ []) r) (sym (past n count h)) (0, omega arith, refl)

pub each_use_is_told : EachUseIsTold
each_use_is_told = record {
  together = told_together;
  object = λ functions objects n at t ns h there.
      told_among functions objects (a_place (place at t (global n))) (record { code = subset.NotDefined; at = at }) ns (one_row n objects (record { code = subset.NotDefined; at = at }) h) there;
  function = λ functions objects n at t span vs ns h there.
      told_among functions objects (a_value (value at t (call span n vs))) (record { code = subset.NotDefined; at = name_of_call at span }) ns (one_row n functions (record { code = subset.NotDefined; at = name_of_call at span }) h) there;
}
