use Rattle.std.proofs.Common.{◌≡◌, ◌<◌, ◌≤◌, ◌∙◌, length, Some, ap, ◌++◌, ◌∷◌, [], List, subst, sym, arith, rules}
use Rattle.std.specs.Prelude.{slice_get, slice_set}
use Rattle.std.specs.Vec.{vec_capacity, vec_len}
use Rattle.std.proofs.lemmas.Option.{slice_get-get_or}
use Rattle.p10_absx.specs.declared.notes.Note.{Note}
use Rattle.p10_absx.specs.declared.notes.Note.TheVariants.{Was}
use Rattle.p10_absx.specs.private.Kept.{Changed}
use Rattle.p10_absx.proofs.Trails.{changed_again, changed_first, has_room, entry_with}
use Rattle.p10_absx.proofs.env.change.Goals as goal

pub returns-then-before-branch : goal.returns-then-before-branch
returns-then-before-branch c =
    let below : c.args.n < length c.args.entries.now.items = omega arith in
    let there : slice_get c.args.entries.now.items c.args.n ≡ Some c.index-before.result.now =
    slice_get-get_or c.args.entries.now.items c.args.n c.index-before.result.now below ∙ ap Some (sym c.index-before.ensures) in
    changed_again (vec_capacity c.args.notes.now) c.args.branch c.args.entries.now.items c.args.notes.now.items c.args.n c.index-before.result.now c.args.known there c.if-before-branch.true c.requires

pub prove-unreachable-requires : goal.prove-unreachable-requires
prove-unreachable-requires c =
    let below : c.args.n < length c.args.entries.now.items = omega arith in
    let there : slice_get c.args.entries.now.items c.args.n ≡ Some c.index-before.result.now =
    slice_get-get_or c.args.entries.now.items c.args.n c.index-before.result.now below ∙ ap Some (sym c.index-before.ensures) in
    let room : length c.args.notes.now.items < vec_capacity c.args.notes.now =
    has_room (vec_capacity c.args.notes.now) c.args.branch c.args.entries.now.items c.args.notes.now.items c.args.n c.index-before.result.now there c.if-before-branch.false c.requires in
    let short : vec_len c.args.notes.now < vec_capacity c.args.notes.now = omega (arith, c.args.notes.now.ok.0) in
    let ok = c.push-noted.ensures.succeeds short in
    search (rules, ok)

pub returns : goal.returns
returns c =
    let below : c.args.n < length c.args.entries.now.items = omega arith in
    let there : slice_get c.args.entries.now.items c.args.n ≡ Some c.index-before.result.now =
    slice_get-get_or c.args.entries.now.items c.args.n c.index-before.result.now below ∙ ap Some (sym c.index-before.ensures) in
    let pushed : c.push-noted.new.self.items ≡ c.args.notes.now.items ++ Was c.args.n c.index-before.result.now ∷ [] = search rules in
    let room : vec_capacity c.args.notes.now ≤ vec_capacity c.push-noted.new.self = omega arith in
    subst (λ (notes : List Note). Changed (vec_capacity c.push-noted.new.self) c.args.branch c.args.entries.now.items c.args.notes.now.items c.args.n c.args.known (slice_set c.args.entries.now.items c.args.n (entry_with c.args.known c.args.branch)) notes) (sym pushed)
    (changed_first (vec_capacity c.args.notes.now) (vec_capacity c.push-noted.new.self) c.args.branch c.args.entries.now.items c.args.notes.now.items c.args.n c.index-before.result.now c.args.known room there c.if-before-branch.false c.requires)
