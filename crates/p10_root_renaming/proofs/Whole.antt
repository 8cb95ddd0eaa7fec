-- In the same words roots are the same.
use Rattle.std.proofs.Common.{◌≡◌, ◌∙◌, ℕ, ◌+◌, Bool, false, List, [], ◌∷◌, ◌++◌, map, append_assoc, append-nil, refl, sym, ap}
use Rattle.p10_base.specs.declared.at.At.{At}
use Rattle.p10_base.specs.declared.codes.SubsetCode.TheVariants as subset
use Rattle.p10_syn.specs.Trees.{External, Outer, Defines}
use Rattle.p10_core.specs.Typed.{PlainFunction}
use Rattle.p10_elabx.specs.First.{Keep}
use Rattle.p10_elabx.specs.Scopes.{PlainScope, without_names}
use Rattle.p10_elabd.specs.Standing.{PlainStanding, refusing}
use Rattle.p10_heads.specs.Heads.{Heads}
use Rattle.p10_elab.specs.Knowledge.{Tentative, Known}
use Rattle.p10_elab.specs.RootEnds.{known_after, known_after_all, root_begun, lacks_size_at_end, sizes_noted, root_ended, root_passed, roots_passed}
use Rattle.p10_renaming.specs.Renaming.{Pairing}
use Rattle.p10_expression_renaming.specs.MappedStatements.{mapped_external, mapped_declaration}
use Rattle.p10_expression_renaming.specs.Knowing.{same_no_bindings, IsOneToOne}
use Rattle.p10_expression_renaming.proofs.TypeNames.{left, right}
use Rattle.p10_declaration_renaming.specs.Standings.{SameStanding, SameWholeScope, AreQuiet}
use Rattle.p10_declaration_renaming.proofs.Alike.{quiet_before}
use Rattle.p10_statement_renaming.proofs.Declarations.{refusing_same}
use Rattle.p10_root_renaming.specs.Roots.{SameHeads, SameKnown, SameFunctions, same_no_functions, same_more_functions, KnownLeads}
use Rattle.p10_root_renaming.specs.Laws.{AddsSameFunctions, RootsRenamed}
use Rattle.p10_root_renaming.proofs.Keeping.{declaration_keeps}
use Rattle.p10_root_renaming.proofs.Outside.{declarations_renamed}
use Rattle.p10_root_renaming.proofs.Functions.{adds_nothing, definitions_renamed}
use Rattle.p10_root_steps.proofs.Parts.{over_sizes}
use Rattle.p10_declaration_renaming.proofs.Growing.{grown}

-- ## Functions more

functions_joined : (R : Pairing) {fs gs xs ys : List PlainFunction} → SameFunctions R fs gs → SameFunctions R xs ys → SameFunctions R (fs ++ xs) (gs ++ ys)
functions_joined R same_no_functions more = more
functions_joined R (same_more_functions h rest) more = same_more_functions h (functions_joined R rest more)

added_on : (xs ys zs fs gs : List PlainFunction) → ys ≡ xs ++ fs → zs ≡ ys ++ gs → zs ≡ xs ++ (fs ++ gs)
added_on xs ys zs fs gs e d = d ∙ (ap (λ l. l ++ gs) e ∙ append_assoc xs fs gs)

adds_on : (R : Pairing) (a b c d e f : List PlainFunction) → AddsSameFunctions R a b d e → AddsSameFunctions R b c e f → AddsSameFunctions R a c d f
adds_on R a b c d e f x y = record {
  these = x.these ++ y.these;
  new = x.new ++ y.new;
  left = added_on a b c x.these y.these x.left y.left;
  right = added_on d e f x.new y.new x.right y.right;
  same = functions_joined R x.same y.same;
}

-- one part after another
leads_on : (R : Pairing) (last : ℕ) (k j m n a b : Known) → KnownLeads R last (AddsSameFunctions R k.functions m.functions j.functions n.functions) k j m n → KnownLeads R last (AddsSameFunctions R m.functions a.functions n.functions b.functions) m n a b
    → KnownLeads R last (AddsSameFunctions R k.functions a.functions j.functions b.functions) k j a b
leads_on R last k j m n a b one other start quiet =
    let r = other (λ q. (one start q).1.1) quiet in
    let s = one start r.0 in
    (s.0, (adds_on R k.functions m.functions a.functions j.functions n.functions b.functions s.1.0 r.1.0, r.1.1))

-- ## One declaration or function

one_same : (R : Pairing) → IsOneToOne R → (last : ℕ) (h : Keep) (heads others : Heads) → SameHeads heads others → (k j : Known) (e : External (At × At))
    → KnownLeads R last (AddsSameFunctions R k.functions (known_after h heads k (mapped_external left e)).functions j.functions (known_after h others j (mapped_external right e)).functions) k j (known_after h heads k (mapped_external left e)) (known_after h others j (mapped_external right e))
one_same R one last h heads others same k j (Outer at d) = λ start quiet.
    let r = declarations_renamed R one last h heads others same k j d start quiet in (
      r.0,
      (
        record {
          these = [];
          new = [];
          left = declaration_keeps h heads k (mapped_declaration left d) ∙ sym (append-nil k.functions);
          right = declaration_keeps h others j (mapped_declaration right d) ∙ sym (append-nil j.functions);
          same = same_no_functions;
        },
        r.1.1,
      ),
    )
one_same R one last h heads others same k j (Defines d) = definitions_renamed R one last h heads others same k j d

all_same : (R : Pairing) → IsOneToOne R → (last : ℕ) (h : Keep) (heads others : Heads) → SameHeads heads others → (k j : Known) (all : List (External (At × At)))
    → KnownLeads R last (AddsSameFunctions R k.functions (known_after_all h heads k (map (mapped_external left) all)).functions j.functions (known_after_all h others j (map (mapped_external right) all)).functions)
    k j (known_after_all h heads k (map (mapped_external left) all)) (known_after_all h others j (map (mapped_external right) all))
all_same R one last h heads others same k j [] = λ start quiet. (quiet, (adds_nothing R k.functions j.functions, start quiet))
all_same R one last h heads others same k j (e ∷ rest) =
    let m : Known = known_after h heads k (mapped_external left e) in
    let n : Known = known_after h others j (mapped_external right e) in
    leads_on R last k j m n (known_after_all h heads m (map (mapped_external left) rest)) (known_after_all h others n (map (mapped_external right) rest)) (one_same R one last h heads others same k j e) (all_same R one last h heads others same m n rest)

-- ## Roots

sizes_left : (R : Pairing) (last : ℕ) (h : Keep) (ds : List Tentative) (s t : PlainStanding) → SameStanding R last s t → SameStanding R last (sizes_noted h ds s) t
sizes_left R last h [] s t know = know
sizes_left R last h (d ∷ rest) s t know =
    let b : Bool = lacks_size_at_end s.scope d.type in
    sizes_left R last h rest (refusing h b subset.IncompleteType d.name.place s) t (refusing_same R last h b false subset.IncompleteType subset.IncompleteType d.name.place d.name.place s t know)

pub sizes_both : (R : Pairing) (last : ℕ) (h : Keep) (ds es : List Tentative) (s t : PlainStanding) → SameStanding R last s t → SameStanding R last (sizes_noted h ds s) (sizes_noted h es t)
sizes_both R last h ds [] s t know = sizes_left R last h ds s t know
sizes_both R last h ds (e ∷ rest) s t know =
    let b : Bool = lacks_size_at_end t.scope e.type in
    sizes_both R last h ds rest s (refusing h b subset.IncompleteType e.name.place t) (refusing_same R last h false b subset.IncompleteType subset.IncompleteType e.name.place e.name.place s t know)

pub nameless_same : (R : Pairing) (last : ℕ) (s t : PlainScope) → SameWholeScope R last s t → SameWholeScope R last (without_names s) (without_names t)
nameless_same R last s t know = record { tables = know.tables; names = same_no_bindings; tags = same_no_bindings; floors = refl; next = know.next }

begun_leads : (R : Pairing) (last : ℕ) (k j : Known) → KnownLeads R last (AddsSameFunctions R k.functions (root_begun k).functions j.functions (root_begun j).functions) k j (root_begun k) (root_begun j)
begun_leads R last k j start quiet =
    let before : AreQuiet last k.standing j.standing = record { left = quiet.left; right = quiet.right; few = quiet.few } in
    let know : SameKnown R last k j = start before in
    (before, (adds_nothing R k.functions j.functions, record { standing = nameless_same R last k.standing.scope j.standing.scope know.standing; root = know.root; linked = know.linked; functions = know.functions }))

ended_leads : (R : Pairing) (last : ℕ) (h : Keep) (k j : Known) → KnownLeads R last (AddsSameFunctions R k.functions (root_ended h k).functions j.functions (root_ended h j).functions) k j (root_ended h k) (root_ended h j)
ended_leads R last h k j start quiet =
    let before : AreQuiet last k.standing j.standing = quiet_before last k.standing j.standing (sizes_noted h k.tentative k.standing) (sizes_noted h j.tentative j.standing) (grown (over_sizes h k.tentative k.standing)) (grown (over_sizes h j.tentative j.standing)) quiet in
    let know : SameKnown R last k j = start before in (
      before,
      (
        adds_nothing R k.functions j.functions,
        record {
          standing = sizes_both R last h k.tentative j.tentative k.standing j.standing know.standing;
          root = ap (λ n. n + 1) know.root;
          linked = know.linked;
          functions = know.functions;
        },
      ),
    )

root_same : (R : Pairing) → IsOneToOne R → (last : ℕ) (h : Keep) (heads others : Heads) → SameHeads heads others → (k j : Known) (root : List (External (At × At)))
    → KnownLeads R last (AddsSameFunctions R k.functions (root_passed h heads k (map (mapped_external left) root)).functions j.functions (root_passed h others j (map (mapped_external right) root)).functions)
    k j (root_passed h heads k (map (mapped_external left) root)) (root_passed h others j (map (mapped_external right) root))
root_same R one last h heads others same k j root =
    let a : Known = root_begun k in
    let b : Known = root_begun j in
    let m : Known = known_after_all h heads a (map (mapped_external left) root) in
    let n : Known = known_after_all h others b (map (mapped_external right) root) in
    leads_on R last k j m n (root_ended h m) (root_ended h n) (leads_on R last k j a b m n (begun_leads R last k j) (all_same R one last h heads others same a b root)) (ended_leads R last h m n)

pub roots_renamed : RootsRenamed
roots_renamed R one last h heads others same k j [] = λ start quiet. (quiet, (adds_nothing R k.functions j.functions, start quiet))
roots_renamed R one last h heads others same k j (root ∷ rest) =
    let m : Known = root_passed h heads k (map (mapped_external left) root) in
    let n : Known = root_passed h others j (map (mapped_external right) root) in
    leads_on R last k j m n (roots_passed h heads m (map (map (mapped_external left)) rest)) (roots_passed h others n (map (map (mapped_external right)) rest)) (root_same R one last h heads others same k j root) (roots_renamed R one last h heads others same m n rest)
