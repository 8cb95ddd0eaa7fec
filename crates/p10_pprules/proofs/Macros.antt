-- A definition uses a macro of its own macro's component exactly where its list leads back to it.
use Rattle.std.proofs.Common.{◌≡◌, ℕ, suc, zero, ◌==◌, ◌<◌, List, length, Bool, true, false, cond, not, ◌&&◌, bytes_eq, Some, None, refl, sym, ◌∙◌, ap, subst}
use Rattle.std.specs.Prelude.{slice_index}
use Rattle.std.specs.List.{Contains, list_any}
use Rattle.std.proofs.lemmas.Bool.{and_parts, eqb-true, eq-eqb}
use Rattle.std.proofs.lemmas.Slice.Eq.{bytes_eq-Decides}
use Rattle.p10_base.specs.Words.{PlainWord, Text, is_name_kind, spellings_of}
use Rattle.p10_direct.specs.Directives.{Definition}
use Rattle.p10_base.specs.Names.{place_in}
use Rattle.p10_base.proofs.Naming.{has_place, same_text, place_before, same_place}
use Rattle.p10_expand.specs.Obeying.{PlainObeyed}
use Rattle.p10_graph.specs.Graphs.{Edge, Walk, Reaches}
use Rattle.p10_graph.specs.Components.{AreComponents}
use Rattle.p10_pprules.specs.Recursion.{parameters_of, Uses, Leads, here as at_once, further, IsRecursive}
use Rattle.p10_pprules.specs.private.Listing.{used_by, used_places, has_number, returns_from, returns_to}
use Rattle.p10_pprules.specs.private.Gathering.{AreDefined}
use Rattle.p10_pprules.specs.private.Graphs.{HasNames, IsGraphOf}
use Rattle.p10_pprules.proofs.Booleans.{both, not_is, is_not, not_both_ways}
use Rattle.p10_pprules.proofs.Members.{any_is, is_any, text_any, any_text, kept, came_from}
use Rattle.p10_pprules.proofs.Edging.{same_some}

-- ## Uses and places

-- names with one place are one name
one_name : (names : List Text) (this that : Text) (place : ℕ) → place_in names this ≡ Some place → place_in names that ≡ Some place → this ≡ that
one_name names this that place first second = same_text this that (same_place names this that place first second)

is_false : (b : Bool) → (b ≡ true → ⊥) → b ≡ false
is_false true other = absurd (other refl)
is_false false other = refl

pub use_kept : (names : List Text) (definition : Definition) (name : Text) (place : ℕ) → Uses definition name → place_in names name ≡ Some place → Contains (used_places names definition) place
use_kept names definition name place uses at =
    let parameters = spellings_of (parameters_of definition) in
    let text : uses.word.text ≡ name = uses.named.1 in
    let free : list_any (bytes_eq uses.word.text) parameters ≡ false =
    is_false _ (λ e. uses.free (subst (Contains parameters) text (any_text uses.word.text parameters e))) in
    let passes : is_name_kind uses.word.kind && not (list_any (bytes_eq uses.word.text) parameters) ≡ true = both (is_name_kind uses.word.kind) _ uses.named.0 (is_not _ free) in
    kept (used_by names parameters) definition.body uses.word place uses.held
    (ap (λ b. cond b (place_in names uses.word.text) None) passes ∙ ap (place_in names) text ∙ at)

word_used : (names : List Text) (definition : Definition) (word : PlainWord) (place : ℕ) → Contains definition.body word → used_by names (spellings_of (parameters_of definition)) word ≡ Some place → Uses definition word.text × (place_in names word.text ≡ Some place)
word_used names definition word place held e =
    let parameters = spellings_of (parameters_of definition) in
    elim (is_name_kind word.kind && not (list_any (bytes_eq word.text) parameters)) as (λ b. is_name_kind word.kind && not (list_any (bytes_eq word.text) parameters) ≡ b → cond b (place_in names word.text) None ≡ Some place
    → Uses definition word.text × (place_in names word.text ≡ Some place)) [
      | true ↦ λ passes e. let h = and_parts (is_name_kind word.kind) (not (list_any (bytes_eq word.text) parameters)) passes in
          (record { word = word; held = held; named = (h.0, refl); free = λ among. not_both_ways _ (text_any word.text parameters among) (not_is _ h.1) }, e)
      | false ↦ λ fails e. absurd cc
    ] refl e

pub use_came : (names : List Text) (definition : Definition) (place : ℕ) → Contains (used_places names definition) place → (name : Text) × Uses definition name × (place_in names name ≡ Some place)
use_came names definition place held =
    let found = came_from (used_by names (spellings_of (parameters_of definition))) definition.body place held in
    let h = word_used names definition found.0 place found.1 found.2 in
    (found.0.text, h.0, h.1)

-- ## Names that lead and nodes that reach

module _ (obeyed : List PlainObeyed) (definitions : List Definition) (names : List Text) (graph : List (List ℕ))
    (defined : AreDefined obeyed definitions) (named : HasNames definitions names) (is_graph : IsGraphOf names definitions graph) where
  -- a name that is defined has a place
  defined_place : (definition : Definition) → Contains definitions definition → (place : ℕ) × (place_in names definition.name.text ≡ Some place)
  defined_place definition held =
      has_place names definition.name.text
      (named definition.name.text ∙ is_any (λ (d : Definition). bytes_eq definition.name.text d.name.text) definitions definition held ((bytes_eq-Decides definition.name.text definition.name.text).1 refl))

  -- a name that leads to one with a place has one
  leads_place : (from to : Text) → Leads obeyed from to → (place : ℕ) → place_in names to ≡ Some place → (at : ℕ) × (place_in names from ≡ Some at)
  leads_place _ _ (at_once name) place e = (place, e)
  leads_place _ _ (further from next to definition is same uses rest) place e =
      let found = defined_place definition ((defined definition).1 is) in
      (found.0, ap (place_in names) (sym same) ∙ found.1)

  leads_walk : (from to : Text) → Leads obeyed from to → (u v : ℕ) → place_in names from ≡ Some u → place_in names to ≡ Some v → Reaches graph u v
  leads_walk _ _ (at_once name) u v first second = record { edges = 0; walk = same_some u v (sym first ∙ second) }
  leads_walk _ _ (further from next to definition is same uses rest) u v first second =
      let middle = leads_place next to rest v second in
      let edge : Edge graph u middle.0 = (is_graph.edges u middle.0).1 (definition, (defined definition).1 is, (ap (place_in names) same ∙ first, use_kept names definition next middle.0 uses middle.1)) in
      let more = leads_walk next to rest middle.0 v middle.1 second in
      record { edges = suc more.edges; walk = (middle.0, edge, more.walk) }

  walk_leads : (n : ℕ) (from to : Text) (u v : ℕ) → Walk graph n u v → place_in names from ≡ Some u → place_in names to ≡ Some v → Leads obeyed from to
  walk_leads zero from to u v walk first second = subst (Leads obeyed from) (one_name names from to u first (second ∙ ap Some (sym walk))) (at_once from)
  walk_leads (suc n) from to u v (w, edge, walk) first second =
      let leads = (is_graph.edges u w).0 edge in
      let next = use_came names leads.0 w leads.2.1 in
      further from next.0 to leads.0 ((defined leads.0).0 leads.1) (one_name names leads.0.name.text from u leads.2.0 first) next.1 (walk_leads n next.0 to w v walk next.2 second)

  pub returns_is : (numbers : List ℕ) → AreComponents graph numbers → (definition : Definition) → Contains definitions definition → returns_to names numbers definition ≡ true → IsRecursive obeyed definition
  returns_is numbers are definition held e =
      let own = defined_place definition held in
      let has : has_number numbers (slice_index numbers own.0) (used_places names definition) ≡ true = ap (returns_from numbers (used_places names definition)) (sym own.1) ∙ e in
      let found = any_is (λ place. slice_index numbers place == slice_index numbers own.0) (used_places names definition) has in
      let next = use_came names definition found.0 found.1 in
      let near : own.0 < length graph = subst (λ n. own.0 < n) (sym is_graph.nodes) (place_before names definition.name.text own.0 own.1) in
      let far : found.0 < length graph = subst (λ n. found.0 < n) (sym is_graph.nodes) (place_before names next.0 found.0 next.2) in
      let joined = (are.same found.0 own.0 far near).0 (eqb-true _ _ found.2) in
      record { name = next.0; uses = next.1; back = walk_leads joined.there.edges next.0 definition.name.text found.0 own.0 joined.there.walk next.2 own.1 }

  pub is_returning : (numbers : List ℕ) → AreComponents graph numbers → (definition : Definition) → Contains definitions definition → IsRecursive obeyed definition → returns_to names numbers definition ≡ true
  is_returning numbers are definition held is =
      let own = defined_place definition held in
      let next = leads_place is.name definition.name.text is.back own.0 own.1 in
      let used = use_kept names definition is.name next.0 is.uses next.1 in
      let near : own.0 < length graph = subst (λ n. own.0 < n) (sym is_graph.nodes) (place_before names definition.name.text own.0 own.1) in
      let far : next.0 < length graph = subst (λ n. next.0 < n) (sym is_graph.nodes) (place_before names is.name next.0 next.1) in
      let there = leads_walk is.name definition.name.text is.back next.0 own.0 next.1 own.1 in
      let edge : Edge graph own.0 next.0 = (is_graph.edges own.0 next.0).1 (definition, held, (own.1, used)) in
      let back : Reaches graph own.0 next.0 = record { edges = 1; walk = (next.0, edge, refl) } in
      let same = (are.same next.0 own.0 far near).1 (record { there = there; back = back }) in
      ap (returns_from numbers (used_places names definition)) own.1
      ∙ is_any (λ place. slice_index numbers place == slice_index numbers own.0) (used_places names definition) next.0 used (eq-eqb _ _ same)
