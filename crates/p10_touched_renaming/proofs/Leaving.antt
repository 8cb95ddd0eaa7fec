-- Whatever a body declares, what was known before it stands again after it.
use Rattle.std.proofs.Common.{◌≡◌, ◌∙◌, ℕ, ◌<◌, ◌≤◌, Bool, true, false, List, [], ◌∷◌, ◌++◌, map, length, le_refl, None, refl, sym, ap, subst}
use Rattle.std.specs.Prelude.{if◌then◌else◌, slice_get}
use Rattle.p10_base.specs.declared.at.At.{At}
use Rattle.p10_base.specs.declared.codes.SubsetCode.TheVariants as subset
use Rattle.p10_syn.specs.Trees.{Statements}
use Rattle.p10_elabx.specs.First.{Keep}
use Rattle.p10_elabx.specs.Scopes.{is_tag, Binding, PlainScope, entered, left}
use Rattle.p10_elabd.specs.Standing.{PlainStanding, refusing}
use Rattle.p10_elabd.specs.Shapes.{PlainParameter, FunctionType}
use Rattle.p10_heads.specs.Heads.{Heads, number_in}
use Rattle.p10_linkage.specs.Linkage.{Linked, last_linked, is_refused, is_main_name}
use Rattle.p10_elabs.specs.Addresses.{addresses_taken}
use Rattle.p10_elabs.specs.Locals.{Frame, Local}
use Rattle.p10_elabs.specs.Statements.{in_nothing, Block', no_items_yet, items_done}
use Rattle.p10_elab.specs.Knowledge.{Known, linked_meaning, with_linked}
use Rattle.p10_elab.specs.Outer.{is_nameless, names_noted, meaning_in_body, body_scope, body_begun, body_done}
use Rattle.p10_block_scopes.specs.Laws.{ExtendsScope, IsAgain}
use Rattle.p10_block_scopes.proofs.Extending.{last_floor_is}
use Rattle.p10_block_scopes.proofs.ExtendingStatements.{bodies_leave_scopes}
use Rattle.p10_block_structures.specs.Laws.{AreNewTags, IsInside}
use Rattle.p10_block_structures.proofs.KeepingStatements.{bodies_leave_structures}
use Rattle.p10_root_renaming.proofs.Functions.{marked_scope}
use Rattle.p10_touched_renaming.proofs.Heads.{refusing_keeps, Kept}

-- ## Rows and names

names_keep : (h : Keep) (ps : List PlainParameter) (s : PlainStanding) → (names_noted h ps s).scope ≡ s.scope
names_keep h [] s = refl
names_keep h (p ∷ rest) s =
    names_keep h rest (refusing h (is_nameless p.name) subset.NoPrototype p.at s) ∙ refusing_keeps h (is_nameless p.name) subset.NoPrototype p.at s

named_keeps : (b : Bool) (s : PlainScope) (x : Binding) → (if b then record s { tags = s.tags ++ x ∷ [] } else record s { names = s.names ++ x ∷ [] }).structures ≡ s.structures
named_keeps true s x = refl
named_keeps false s x = refl

-- a declaration with linkage declares no structure
pub linked_structures : (h : Keep) (heads : Heads) (l : Linked) (k : Known) → (with_linked h heads l k).standing.scope.structures ≡ k.standing.scope.structures
linked_structures h heads l k =
    let b : Bool = is_refused k.standing k.linked (last_linked None l.root l.name k.linked) l in
    let s : PlainStanding = refusing h b subset.DefinedTwice l.at k.standing in
    named_keeps (is_tag (linked_meaning heads l)) s.scope (record { name = l.name; what = linked_meaning heads l }) ∙ ap (λ (x : PlainScope). x.structures) (refusing_keeps h b subset.DefinedTwice l.at k.standing)

-- ## Bodies

-- where a body begins, the block of a function whose parameters declare new structures alone is open
begins_inside : (f : Frame) (t : FunctionType) (s : PlainScope) (start : ℕ) → AreNewTags start t.tags → start ≤ length s.structures → IsInside s.tags start s.structures (body_scope f t s)
begins_inside f t s start fresh low = record {
  new = t.tags;
  tags = refl;
  fresh = fresh;
  innermost = subst (λ (x : ℕ × ℕ). length s.tags ≤ x.1) (sym (last_floor_is s.floors (length s.names, length s.tags))) (le_refl (length s.tags));
  enough = low;
  kept = λ n low. refl;
}

begins_extended : (f : Frame) (t : FunctionType) (s : PlainScope) → ExtendsScope (entered s) (body_scope f t s)
begins_extended f t s = record {
  floors = refl;
  names = record { rest = map (λ (b : Binding). record b { what = meaning_in_body f b.what }) t.names; same = refl };
  tags = record { rest = t.tags; same = refl };
}

again_by : (s v t u : PlainScope) → v ≡ s → t ≡ u → IsAgain v (left u) → IsAgain s (left t)
again_by s v t u e d a = subst (λ x. IsAgain x (left t)) e (subst (λ x. IsAgain v (left x)) (sym d) a)

-- names and tags stand again
body_leaves : (h : Keep) (heads : Heads) (l : Linked) (t : FunctionType) (body : Statements At) (k : Known) → IsAgain k.standing.scope (body_done h heads l t body k).standing.scope
body_leaves h heads l t body k =
    let f : Frame = record { heads = heads; taken = addresses_taken t.parameters body; number = number_in heads.functions l.root l.internal l.name; result = t.result } in
    let v : PlainStanding = names_noted h t.parameters k.standing in
    let x : Local = body_begun f t v in
    let b : Block' = items_done h f (is_main_name l.name) in_nothing (no_items_yet x) body in
    again_by k.standing.scope v.scope _ b.after.standing.scope (names_keep h t.parameters k.standing) (marked_scope h (is_main_name l.name) b.kinds b.after.standing)
    (bodies_leave_scopes h f (is_main_name l.name) in_nothing v.scope x body (begins_extended f t v.scope))

-- so do the structures before those of its parameters
abbrev StructuresKept : ℕ → PlainScope → PlainScope → Type 0
StructuresKept start s t = (n : ℕ) → n < start → slice_get t.structures n ≡ slice_get s.structures n

kept_by : (start : ℕ) (s v t u : PlainScope) → v ≡ s → t ≡ u → StructuresKept start v (left u) → StructuresKept start s (left t)
kept_by start s v t u e d a = subst (λ x. StructuresKept start x (left t)) e (subst (λ x. StructuresKept start v (left x)) (sym d) a)

body_leaves_structures : (h : Keep) (heads : Heads) (l : Linked) (t : FunctionType) (body : Statements At) (k : Known) (start : ℕ) → AreNewTags start t.tags → start ≤ length k.standing.scope.structures
    → StructuresKept start k.standing.scope (body_done h heads l t body k).standing.scope
body_leaves_structures h heads l t body k start fresh low =
    let f : Frame = record { heads = heads; taken = addresses_taken t.parameters body; number = number_in heads.functions l.root l.internal l.name; result = t.result } in
    let v : PlainStanding = names_noted h t.parameters k.standing in
    let x : Local = body_begun f t v in
    let b : Block' = items_done h f (is_main_name l.name) in_nothing (no_items_yet x) body in
    let enough : start ≤ length v.scope.structures = subst (λ (y : PlainScope). start ≤ length y.structures) (sym (names_keep h t.parameters k.standing)) low in
    kept_by start k.standing.scope v.scope _ b.after.standing.scope (names_keep h t.parameters k.standing) (marked_scope h (is_main_name l.name) b.kinds b.after.standing)
    (bodies_leave_structures h f (is_main_name l.name) in_nothing x body v.scope.tags start (begins_inside f t v.scope start fresh enough))

pub body_kept : (h : Keep) (heads : Heads) (l : Linked) (t : FunctionType) (body : Statements At) (k : Known) (start : ℕ) → AreNewTags start t.tags → start ≤ length k.standing.scope.structures
    → Kept start k.standing.scope (body_done h heads l t body k).standing.scope
body_kept h heads l t body k start fresh low = record { again = body_leaves h heads l t body k; structures = body_leaves_structures h heads l t body k start fresh low }
