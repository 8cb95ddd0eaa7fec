-- What the pass over a function leaves is the same under claims that agree on it.
use Rattle.std.proofs.Common.{◌≡◌, ℕ, List, [], Option, Some, None, refl, ap, ◌∙◌}
use Rattle.std.specs.Prelude.{slice_get}
use Rattle.p10_core.specs.Typed.{PlainFunction, PlainProgram}
use Rattle.p10_cert.specs.Claims.{Func, Claims}
use Rattle.p10_absx.specs.Environments.{Environment}
use Rattle.p10_absx.specs.Entering.{entry_of, entry_at}
use Rattle.p10_pass.specs.Passing.{as_block, claimed_manner, pass_statements, pass_body, pass_of}
use Rattle.p10_loopless.specs.Loopless.{AgreeOn}
use Rattle.p10_loopless.proofs.Faces.{AreAlike}
use Rattle.p10_loopless.proofs.Manners.{Twin}
use Rattle.p10_loopless.proofs.Statements.{same_statements}

pub same_entry : (p : PlainProgram) (number : ℕ) (c d : Claims) → AgreeOn number c.funcs d.funcs → entry_at p c number ≡ entry_at p d number
same_entry p number c d agree = ap (λ f. entry_of f (slice_get p.functions number)) agree.own

-- under one claim on the function itself
by_claim : (g : PlainFunction) (own : Option Func) (c d : Claims) → AreAlike c.funcs d.funcs → (e : Environment)
    → as_block g.body (pass_statements (claimed_manner c own g.variables) g.body e) ≡ as_block g.body (pass_statements (claimed_manner d own g.variables) g.body e)
by_claim g None c d alike e = ap (as_block g.body) (same_statements (record { c = c; d = d; alike = alike; loops = []; result = None; variables = g.variables }) g.body e)
by_claim g (Some f) c d alike e = ap (as_block g.body) (same_statements (record { c = c; d = d; alike = alike; loops = f.loops; result = Some f.result; variables = g.variables }) g.body e)

same_body : (g : PlainFunction) (number : ℕ) (c d : Claims) → AgreeOn number c.funcs d.funcs → (e : Environment) → pass_body g (Some c) number e ≡ pass_body g (Some d) number e
same_body g number c d agree e =
    by_claim g (slice_get c.funcs number) c d agree.alike e
    ∙ ap (λ own. as_block g.body (pass_statements (claimed_manner d own g.variables) g.body e)) agree.own

pub same_pass : (p : PlainProgram) (number : ℕ) (c d : Claims) → AgreeOn number c.funcs d.funcs → (e : Environment) → pass_of p c number e ≡ pass_of p d number e
same_pass p number c d agree e = by_function (slice_get p.functions number) refl
  where
    by_function : (g : Option PlainFunction) → slice_get p.functions number ≡ g → pass_of p c number e ≡ pass_of p d number e
    by_function None there = rw there refl
    by_function (Some g) there = rw there (same_body g number c d agree e)
