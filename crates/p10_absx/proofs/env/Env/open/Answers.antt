use Rattle.std.proofs.Common.{◌≡◌, ◌≤◌, ◌+◌, ◌++◌, ◌∷◌, [], suc, ℕ, List, reverse, length, subst, sym, ap, ◌∙◌, arith, rules, length-append}
use Rattle.std.specs.Vec.{vec_capacity}
use Rattle.p10_absx.specs.declared.notes.Note.{Note}
use Rattle.p10_absx.specs.declared.notes.Note.TheVariants.{Opened}
use Rattle.p10_absx.specs.private.Kept.{IsTrail}
use Rattle.p10_absx.proofs.Trails.{opened_trail}
use Rattle.p10_absx.proofs.env.Env.open.Goals as goal

pub invariant_of-self-2 : goal.invariant_of-self-2
invariant_of-self-2 c =
    let pushed : c.push-opened.new.self.items ≡ c.self.inside.notes.items ++ Opened c.self.inside.branch ∷ [] = search rules in
    let many : c.len-self-inside.result ≡ suc (length c.self.inside.notes.items) =
    let lengths : length c.push-opened.new.self.items ≡ length c.self.inside.notes.items + 1 = ap length pushed ∙ length-append c.self.inside.notes.items (Opened c.self.inside.branch ∷ []) in
    omega (arith, c.push-opened.new.self.ok.0) in
    let room : vec_capacity c.self.inside.notes ≤ vec_capacity c.push-opened.new.self = omega arith in
    let fits : length c.self.inside.notes.items + suc (length c.self.inside.entries.items) ≤ vec_capacity c.push-opened.new.self =
    let more = c.saturating_add.ensures in
    let made = c.in_ok-reserve.ensures.ok in
    omega (arith, c.self.inside.notes.ok.0, c.self.inside.entries.ok.0, made, more) in
    let opened = opened_trail (vec_capacity c.self.inside.notes) (vec_capacity c.push-opened.new.self) c.self.inside.branch c.self.inside.entries.items c.self.inside.notes.items room fits c.self.invariant in
    subst (λ (notes : List Note). IsTrail (vec_capacity c.push-opened.new.self) c.len-self-inside.result c.self.inside.entries.items (reverse notes)) (sym pushed)
    (subst (λ (n : ℕ). IsTrail (vec_capacity c.push-opened.new.self) n c.self.inside.entries.items (reverse (c.self.inside.notes.items ++ Opened c.self.inside.branch ∷ []))) (sym many) opened)
