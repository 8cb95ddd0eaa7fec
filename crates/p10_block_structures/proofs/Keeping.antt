-- A part of a body leaves the structures before those of its block.
use Rattle.std.proofs.Common.{ℕ, ◌≤◌, Bool, true, false, List, Option, Some, None}
use Rattle.p10_base.specs.Words.{Text}
use Rattle.p10_base.specs.declared.at.At.{At}
use Rattle.p10_syn.specs.declared.sign.Sign.{Sign}
use Rattle.p10_syn.specs.declared.sign.Sign.TheVariants as sign
use Rattle.p10_syn.specs.Trees.{Identifier}
use Rattle.p10_core.specs.Types.{structure, PlainMember, PlainStructure}
use Rattle.p10_core.specs.Completing.{complete_count, body_with, completed}
use Rattle.p10_elabx.specs.First.{Keep}
use Rattle.p10_elabx.specs.Scopes.{Meaning, Binding, tagged_type, named_type}
use Rattle.p10_elabx.specs.Innermost.{tagged_here}
use Rattle.p10_elabd.specs.declared.known_tag.KnownTag.{KnownTag}
use Rattle.p10_elabd.specs.declared.known_tag.KnownTag.TheVariants as tag_is
use Rattle.p10_elabd.specs.Standing.{PlainStanding}
use Rattle.p10_elabd.specs.Tagged.{known_tag, begun_anew, begun_twice, begun_known, begun_by_tag, begun_for, may_complete}
use Rattle.p10_elabd.specs.Declaring.{begun_with}
use Rattle.p10_block_structures.specs.Laws.{IsInside, IsNewTag}
use Rattle.p10_block_structures.proofs.Inside.{Keeps, KeepsBegun, as_before, keeps_on, IsNewFound, here_new, one_tag_more, one_structure_more, with_tag_more, completed_inside, keeps_left, KeepsScope, one_name_more}
use Rattle.p10_declaration_steps.specs.Steps.{NamesNoStructure}
use Rattle.p10_declaration_steps.proofs.Each.{AreSteps}
use Rattle.p10_statement_steps.proofs.Each.{AreLocalSteps}
use Rattle.p10_block_scopes.proofs.Extending.{Extends, extending}

-- what a tag of the innermost block stands for, as far as it counts
abbrev IsNewKnown : ℕ → KnownTag → Type 0
IsNewKnown start (tag_is.Structure c n) = start ≤ n
IsNewKnown start known = Unit {0}

known_new : (start : ℕ) (o : Option Meaning) → IsNewFound start o → IsNewKnown start (known_tag o)
known_new start None h = tt
known_new start (Some (tagged_type (structure c n))) h = h
known_new start (Some (tagged_type t)) h = tt
known_new start (Some what) h = tt

anew_begun : (tag : Option Text) (s : PlainStanding) → KeepsBegun s (begun_anew tag s)
anew_begun tag s old start table p = (one_structure_more s.scope tag old start table p, p.enough)

twice_begun : (h : Keep) (tag : Identifier At) (s : PlainStanding) → KeepsBegun s (begun_twice h tag s)
twice_begun h tag s old start table p = (one_structure_more s.scope (Some tag.name) old start table p, p.enough)

known_begun : (h : Keep) (may : Bool) (n : ℕ) (tag : Identifier At) (s : PlainStanding) (old : List Binding) (start : ℕ) (table : List PlainStructure) → start ≤ n → IsInside old start table s.scope
    → IsInside old start table (begun_known h may n tag s).standing.scope × (start ≤ (begun_known h may n tag s).number)
known_begun h true n tag s old start table low p = (p, low)
known_begun h false n tag s old start table low p = twice_begun h tag s old start table p

begun_by : (h : Keep) (k : KnownTag) (tag : Identifier At) (s : PlainStanding) (old : List Binding) (start : ℕ) (table : List PlainStructure) → IsNewKnown start k → IsInside old start table s.scope
    → IsInside old start table (begun_by_tag h k tag s).standing.scope × (start ≤ (begun_by_tag h k tag s).number)
begun_by h (tag_is.Structure c n) tag s old start table low p = known_begun h (may_complete s n) n tag s old start table low p
begun_by h tag_is.Nothing tag s old start table low p = (with_tag_more s.scope tag.name old start table p, p.enough)
begun_by h tag_is.Refused tag s old start table low p = twice_begun h tag s old start table p
begun_by h tag_is.Enumeration tag s old start table low p = twice_begun h tag s old start table p
begun_by h tag_is.OtherType tag s old start table low p = twice_begun h tag s old start table p
begun_by h tag_is.NoTag tag s old start table low p = twice_begun h tag s old start table p

for_begun : (h : Keep) (tag : Option (Identifier At)) (s : PlainStanding) → KeepsBegun s (begun_for h tag s)
for_begun h None s = anew_begun None s
for_begun h (Some tag) s = λ old start table p. begun_by h (known_tag (tagged_here s.scope tag.name)) tag s old start table (known_new start (tagged_here s.scope tag.name) (here_new old start table s.scope p tag.name)) p

keeps_begun : (h : Keep) (word : Sign) (tag : Option (Identifier At)) (s : PlainStanding) → KeepsBegun s (begun_with h word tag s)
keeps_begun h sign.Union tag s = anew_begun None s
keeps_begun h word tag s = for_begun h tag s

-- a tag that stands for no structure
no_structure : (start : ℕ) (what : Meaning) → NamesNoStructure what → IsNewTag start what
no_structure start (tagged_type (structure c n)) m = absurd m
no_structure start what m = tt

-- members complete the structure that their body began with
members_inside : (h : Keep) (word : Sign) (tag : Option (Identifier At)) (s t : PlainStanding) (members : List PlainMember) → Keeps (begun_with h word tag s).standing t
    → KeepsScope s.scope (record t.scope { structures = completed t.scope.structures (begun_with h word tag s).number members })
members_inside h word tag s t members inside old start table p =
    let begun = keeps_begun h word tag s old start table p in
    completed_inside old start table t.scope (begun_with h word tag s).number (body_with t.scope.structures (complete_count t.scope.structures) members) begun.1 (inside old start table begun.0)

-- ## What holds of each step

-- the names round a block stay, and so do the structures
pub record Leaves (s t : PlainStanding) : Type 0 where
  pub scopes : Extends s t
  pub structures : Keeps s t

leaving_parts : (h : Keep) → AreSteps h Extends → AreSteps h Leaves
leaving_parts h e = record {
  same = λ s. record { scopes = e.same s; structures = as_before s };
  followed = λ s t u a b. record { scopes = e.followed s t u a.scopes b.scopes; structures = keeps_on a.structures b.structures };
  told = λ rs s. record { scopes = e.told rs s; structures = as_before s };
  name_more = λ name what s m. record { scopes = e.name_more name what s m; structures = one_name_more s.scope (record { name = name; what = what }) };
  tag_more = λ name what s m. record { scopes = e.tag_more name what s m; structures = one_tag_more s.scope (record { name = name; what = what }) (λ start. no_structure start what m) };
  structure_more = λ tag s. record { scopes = e.structure_more tag s; structures = one_structure_more s.scope tag };
  structure_tagged = λ name s. record { scopes = e.structure_tagged name s; structures = with_tag_more s.scope name };
  bodies_open = λ numbers s. record { scopes = e.bodies_open numbers s; structures = as_before s };
  members_taken = λ word tag s t members begun inside takes small.
      record { scopes = e.members_taken word tag s t members begun.scopes inside.scopes takes small; structures = members_inside h word tag s t members inside.structures };
  block_closed = λ s t inside. record { scopes = e.block_closed s t inside.scopes; structures = keeps_left s.scope t.scope inside.scopes inside.structures };
}

pub leaving : (h : Keep) → AreLocalSteps h Leaves
leaving h = record {
  parts = leaving_parts h (extending h).parts;
  type_name_more = λ name t s. record { scopes = (extending h).type_name_more name t s; structures = one_name_more s.scope (record { name = name; what = named_type t }) };
}
