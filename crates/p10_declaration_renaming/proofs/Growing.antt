-- Where no row was noted after a part of a declaration, none was before it; and structures grow no fewer.
use Rattle.std.proofs.Common.{◌≡◌, ◌∙◌, refl, ap, arith, ℕ, zero, suc, ◌+◌, ◌≤◌, Bool, true, false, List, [], ◌∷◌, length, Option, Some, None, nat_le}
use Rattle.std.specs.Prelude.{if◌then◌else◌}
use Rattle.std.proofs.lemmas.List.{length-append}
use Rattle.p10_base.specs.Words.{Text}
use Rattle.p10_base.specs.declared.at.At.{At}
use Rattle.p10_base.specs.declared.codes.SubsetCode.TheVariants as subset
use Rattle.p10_syn.specs.Trees.{Identifier, Expression, Specifiers, Declarator}
use Rattle.p10_core.specs.Types.{PlainMember, PlainBody, PlainStructure}
use Rattle.p10_core.specs.WholePrograms.{most_bytes}
use Rattle.p10_core.specs.Completing.{incomplete_structure, with_structure, complete_count, member_layout, body_with, with_body, takes_members}
use Rattle.p10_elabx.specs.declared.problem.Problem.{Problem}
use Rattle.p10_elabx.specs.First.{Keep, every, only_first, joined}
use Rattle.p10_elabx.specs.Scopes.{Meaning, is_tag, PlainScope, tagged, declared}
use Rattle.p10_elabd.specs.declared.site.Site.{Site}
use Rattle.p10_elabd.specs.declared.site.Allowed.{Allowed}
use Rattle.p10_elabd.specs.Standing.{PlainStanding, Passed, refusing}
use Rattle.p10_elabd.specs.Expressions.{for_expression}
use Rattle.p10_elabd.specs.Tags.{with_unknown, with_tags}
use Rattle.p10_elabd.specs.Blocks.{is_taken, with_name, declaring}
use Rattle.p10_elabd.specs.Tagged.{completed_small, completed_by, with_unknown_tag, structure_made}
use Rattle.p10_elabd.specs.Shapes.{DeclaredType}
use Rattle.p10_elabd.specs.Declaring.{begun_with, declarator_passed, specified}
use Rattle.p10_declaration_steps.specs.Steps.{Steps}
use Rattle.p10_declaration_steps.proofs.Each.{AreSteps, each}
use Rattle.p10_declaration_steps.proofs.Steps.{over_refusing, over_expression}
use Rattle.p10_declaration_steps.proofs.Declaring.{over_declarator, over_specified}

-- ## Steps

-- of what stands after a part: no row was found before it where none was after it, and there are no fewer structures
pub record GrowsIn (rs qs : List Problem) (few many : ℕ) : Type 0 where
  pub quiet : qs ≡ [] → rs ≡ []
  pub count : few ≤ many

abbrev pub Grows : PlainStanding → PlainStanding → Type 0
Grows s t = GrowsIn s.problems t.problems (length s.scope.structures) (length t.scope.structures)

pub as_before : (s : PlainStanding) → Grows s s
as_before s = record { quiet = λ e. e; count = omega arith }

pub grows_on : {rs qs ps : List Problem} {few some many : ℕ} → GrowsIn rs qs few some → GrowsIn qs ps some many → GrowsIn rs ps few many
grows_on a b = record { quiet = λ e. a.quiet (b.quiet e); count = omega (arith, a.count, b.count) }

joined_left : (h : Keep) (rs qs : List Problem) → joined h rs qs ≡ [] → rs ≡ []
joined_left h [] qs e = refl
joined_left only_first (r ∷ rs) [] e = absurd cc
joined_left only_first (r ∷ rs) (q ∷ qs) e = absurd cc
joined_left every (r ∷ rs) qs e = absurd cc

-- a row that is noted isn't quiet
pub never_joined : (h : Keep) (rs : List Problem) (q : Problem) (qs : List Problem) → joined h rs (q ∷ qs) ≡ [] → ⊥
never_joined only_first [] q qs e = absurd cc
never_joined only_first (r ∷ rs) q qs e = absurd cc
never_joined every [] q qs e = absurd cc
never_joined every (r ∷ rs) q qs e = absurd cc

-- one structure more
pub count_more : (ss : List PlainStructure) (tag : Option Text) → length (with_structure ss tag) ≡ suc (length ss)
count_more ss tag = length-append ss (incomplete_structure (length ss) tag ∷ []) ∙ plus_one (length ss)
  where
    plus_one : (n : ℕ) → n + 1 ≡ suc n
    plus_one n = omega arith

pub count_kept : (ss : List PlainStructure) (n : ℕ) (b : PlainBody) → length (with_body ss n b) ≡ length ss
count_kept [] n b = refl
count_kept (s ∷ ss) zero b = refl
count_kept (s ∷ ss) (suc n) b = ap suc (count_kept ss n b)

grows_structure_more : (rs : List Problem) (ss : List PlainStructure) (tag : Option Text) → GrowsIn rs rs (length ss) (length (with_structure ss tag))
grows_structure_more rs ss tag = record { quiet = λ e. e; count = omega (arith, count_more ss tag) }

grows_complete : (rs : List Problem) (ss : List PlainStructure) (n : ℕ) (b : PlainBody) → GrowsIn rs rs (length ss) (length (with_body ss n b))
grows_complete rs ss n b = record { quiet = λ e. e; count = omega (arith, count_kept ss n b) }

-- a name more leaves the structures
either_structures : (b : Bool) (x y z : PlainScope) → x.structures ≡ z.structures → y.structures ≡ z.structures → (if b then x else y).structures ≡ z.structures
either_structures true x y z e d = e
either_structures false x y z e d = d

declared_structures : (s : PlainScope) (name : Text) (what : Meaning) → (declared s name what).structures ≡ s.structures
declared_structures s name what = either_structures (is_tag what) _ _ s refl refl

grows_named : (name : Text) (what : Meaning) (s : PlainStanding) → Grows s (with_name s name what)
grows_named name what s = record { quiet = λ e. e; count = omega (arith, ap length (declared_structures s.scope name what)) }

-- the structures that an expression is the first to name
unknown_more : (found : Option Meaning) (s : PlainScope) (name : Text) → length s.structures ≤ length (with_unknown found s name).structures
unknown_more None s name = omega (arith, count_more s.structures (Some name))
unknown_more (Some what) s name = omega arith

pub tags_more : (s : PlainScope) (names : List Text) → length s.structures ≤ length (with_tags s names).structures
tags_more s [] = omega arith
tags_more s (name ∷ rest) =
    omega (arith, unknown_more (tagged s name) s name, tags_more (with_unknown (tagged s name) s name) rest)

-- ## What holds of each step

pub growing : (h : Keep) → AreSteps h Grows
growing h = record {
  same = as_before;
  followed = λ s t u a b. grows_on a b;
  told = λ rs s. record { quiet = joined_left h s.problems rs; count = omega arith };
  name_more = λ name what s m. as_before s;
  tag_more = λ name what s m. as_before s;
  structure_more = λ tag s. grows_structure_more s.problems s.scope.structures tag;
  structure_tagged = λ name s. grows_structure_more s.problems s.scope.structures (Some name);
  bodies_open = λ numbers s. as_before s;
  members_taken = λ word tag s t members begun inside takes small.
      grows_on begun (grows_on inside (grows_complete t.problems t.scope.structures (begun_with h word tag s).number (body_with t.scope.structures (complete_count t.scope.structures) members)));
  block_closed = λ s t inside. inside;
}

-- so it holds of all that take steps
pub grown : {h : Keep} {s t : PlainStanding} → Steps h s t → Grows s t
grown {h = h} x = each (growing h) x

pub grows_expression : (s : PlainStanding) (e : Expression At) → Grows s (for_expression s e)
grows_expression s e = grown (over_expression every s e)

pub grows_declaring : (h : Keep) (name : Identifier At) (what : Meaning) (s : PlainStanding) → Grows s (declaring h name what s)
grows_declaring h name what s =
    grows_on (grown (over_refusing h (is_taken s.scope name.name) subset.DefinedTwice name.place s))
    (grows_named name.name what (refusing h (is_taken s.scope name.name) subset.DefinedTwice name.place s))

-- a structure gets members, whichever it is
either_way : {A : Type 0} (b : Bool) (s : PlainStanding) (p q : Passed A) → Grows s p.after → Grows s q.after → Grows s (if b then p else q).after
either_way true s p q g h = g
either_way false s p q g h = h

grows_small : (h : Keep) (at : At) (n : ℕ) (members : List PlainMember) (s : PlainStanding) → Grows s (completed_small h at n members s).after
grows_small h at n members s =
    either_way (nat_le (member_layout s.scope.structures members).bytes most_bytes) s _ _
    (grows_complete s.problems s.scope.structures n (body_with s.scope.structures (complete_count s.scope.structures) members)) (grown (over_refusing h true subset.BadLength at s))

grows_completed : (h : Keep) (at : At) (n : ℕ) (members : List PlainMember) (s : PlainStanding) → Grows s (completed_by h at n members s).after
grows_completed h at n members s = either_way (takes_members s.scope.structures n members) s _ _ (grows_small h at n members s) (as_before s)

grows_unknown_tag : (h : Keep) (tag : Option (Identifier At)) (s : PlainStanding) → Grows s (with_unknown_tag tag s)
grows_unknown_tag h None s = as_before s
grows_unknown_tag h (Some tag) s = as_before s

pub grows_made : (h : Keep) (at : At) (tag : Option (Identifier At)) (n : ℕ) (members : Option (List PlainMember)) (s : PlainStanding) → Grows s (structure_made h at tag n members s).after
grows_made h at tag n None s = grows_unknown_tag h tag s
grows_made h at tag n (Some members) s = grows_completed h at n members s

-- ## Specifiers and declarators

pub grows_declarator : (h : Keep) (name_at : At) (p : Passed DeclaredType) (d : Declarator At) → Grows p.after (declarator_passed h name_at p d).after
grows_declarator h name_at p d = grown (over_declarator h name_at p d)

pub grows_specified : (h : Keep) (site : Site) (allowed : Allowed) (alone : Bool) (s : PlainStanding) (all : Specifiers At) → Grows s (specified h site allowed alone s all).after
grows_specified h site allowed alone s all = grown (over_specified h site allowed alone s all)
