-- Names with linkage are the same in both programs.
use Rattle.std.proofs.Common.{◌≡◌, ◌∙◌, ℕ, nat_eq, Bool, true, false, ◌&&◌, ◌||◌, List, [], ◌∷◌, ◌++◌, Option, Some, None, refl, subst}
use Rattle.std.specs.Prelude.{if◌then◌else◌, bytes_eq}
use Rattle.p10_base.specs.Words.{Text}
use Rattle.p10_base.specs.declared.at.At.{At}
use Rattle.p10_base.specs.declared.codes.SubsetCode.TheVariants as subset
use Rattle.p10_core.specs.Types.{PlainType}
use Rattle.p10_elabx.specs.First.{Keep}
use Rattle.p10_elabx.specs.Scopes.{object, callable}
use Rattle.p10_elabd.specs.Standing.{PlainStanding, refusing}
use Rattle.p10_elabd.specs.declared.site.Storage.{Storage}
use Rattle.p10_elabd.specs.declared.site.Storage.TheVariants as storage_is
use Rattle.p10_elabd.specs.Blocks.{with_name}
use Rattle.p10_heads.specs.Heads.{Heads, number_in}
use Rattle.p10_linkage.specs.Linkage.{LinkedType, is_function, Linked, last_linked, is_static, is_like_extern, internal_by, is_refused}
use Rattle.p10_elab.specs.Knowledge.{Known, linked_number, meaning_by, linked_meaning, with_linked, linked_of}
use Rattle.p10_renaming.specs.Renaming.{Pairing, passing, SameType}
use Rattle.p10_expression_renaming.specs.Knowing.{SameMeaning, same_object, same_callable, same_unknown_name, SameParameterTypes}
use Rattle.p10_declaration_renaming.specs.Standings.{Both, SameStanding}
use Rattle.p10_declaration_renaming.proofs.Scopes.{declared_same}
use Rattle.p10_statement_renaming.proofs.Declarations.{named_at, refusing_same}
use Rattle.p10_root_renaming.specs.Roots.{SameLinkedType, same_a_function, same_an_object, same_a_part_function, same_unknown_object, SameLinked, SameLinkeds, same_no_linked, same_more_linked, SameHeads, SameKnown}

-- ## Declarations before

linked_either : (R : Pairing) (b c : Bool) → b ≡ c → (l m : Linked) → SameLinked R l m → (a d : Option Linked) → Both (SameLinked R) a d → Both (SameLinked R) (if b then Some l else a) (if c then Some m else d)
linked_either R true true e l m h a d k = h
linked_either R true false e l m h a d k = absurd cc
linked_either R false true e l m h a d k = absurd cc
linked_either R false false e l m h a d k = k

last_from : (R : Pairing) (root : ℕ) (name : Text) {ls ms : List Linked} → SameLinkeds R ls ms → (a d : Option Linked) → Both (SameLinked R) a d → Both (SameLinked R) (last_linked a root name ls) (last_linked d root name ms)
last_from R root name same_no_linked a d k = k
last_from R root name (same_more_linked {l = l} {m = m} h rest) a d k =
    last_from R root name rest (if nat_eq l.root root && bytes_eq l.name name then Some l else a) (if nat_eq m.root root && bytes_eq m.name name then Some m else d)
    (linked_either R (nat_eq l.root root && bytes_eq l.name name) (nat_eq m.root root && bytes_eq m.name name) (λ i. nat_eq (h.root i) root && bytes_eq (h.name i) name) l m h a d k)

-- the last declaration of a name in the root
pub before_same : (R : Pairing) (last : ℕ) (k j : Known) → SameKnown R last k j → (name : Text) → Both (SameLinked R) (last_linked None k.root name k.linked) (last_linked None j.root name j.linked)
before_same R last k j know name =
    subst (λ n. Both (SameLinked R) (last_linked None k.root name k.linked) (last_linked None n name j.linked)) know.root (last_from R k.root name know.linked None None tt)

-- ## A declaration more

pub is_function_same : (R : Pairing) {t u : LinkedType} → SameLinkedType R t u → is_function t ≡ is_function u
is_function_same R (same_a_function hs h) = refl
is_function_same R (same_an_object h) = refl
is_function_same R (same_a_part_function h) = refl
is_function_same R same_unknown_object = refl

like_extern_same : (R : Pairing) (s : Storage) {t u : LinkedType} → SameLinkedType R t u → is_like_extern s t ≡ is_like_extern s u
like_extern_same R storage_is.Extern h = refl
like_extern_same R storage_is.Unnamed h = is_function_same R h
like_extern_same R storage_is.Static h = refl
like_extern_same R storage_is.Typedef h = refl

internal_same : (R : Pairing) (s : Storage) {t u : LinkedType} → SameLinkedType R t u → (a d : Option Linked) → Both (SameLinked R) a d → internal_by s t a ≡ internal_by s u d
internal_same R s h None None k = refl
internal_same R s h (Some l) (Some m) k = λ i. is_static s || (like_extern_same R s h i && k.internal i)
internal_same R s h None (Some m) k = absurd k
internal_same R s h (Some l) None k = absurd k

pub linked_same : (R : Pairing) (last : ℕ) (at to : At) (text : Text) (s : Storage) (defines other sensor : Bool) → defines ≡ other → {t u : LinkedType} → SameLinkedType R t u → (k j : Known) → SameKnown R last k j
    → SameLinked R (linked_of k (named_at at text) t s defines sensor) (linked_of j (named_at to text) u s other sensor)
linked_same R last at to text s defines other sensor written h k j know = record {
  root = know.root;
  name = refl;
  type = h;
  internal = internal_same R s h (last_linked None k.root text k.linked) (last_linked None j.root text j.linked) (before_same R last k j know text);
  defines = written;
  sensor = refl;
}

pub more_linked : (R : Pairing) {ls ms : List Linked} → SameLinkeds R ls ms → {l m : Linked} → SameLinked R l m → SameLinkeds R (ls ++ l ∷ []) (ms ++ m ∷ [])
more_linked R same_no_linked h = same_more_linked h same_no_linked
more_linked R (same_more_linked k rest) h = same_more_linked k (more_linked R rest h)

callable_same : (R : Pairing) (n m : ℕ) → n ≡ m → {ts us : List PlainType} → SameParameterTypes (passing R) ts us → {t u : PlainType} → SameType R t u → SameMeaning R (callable n ts t) (callable m us u)
callable_same R n m e {ts = ts} {us = us} hs {t = t} {u = u} h = subst (λ i. SameMeaning R (callable n ts t) (callable i us u)) e (same_callable hs h)

meaning_same : (R : Pairing) {t u : LinkedType} → SameLinkedType R t u → (n m : ℕ) → (is_function t ≡ true → n ≡ m) → (b c : Bool) → b ≡ c → SameMeaning R (meaning_by t n b) (meaning_by u m c)
meaning_same R (same_a_function {ts = ts} {us = us} {t = t} {u = u} hs h) n m e b c d = callable_same R n m (e refl) hs h
meaning_same R (same_an_object {t = t} {u = u} h) n m e b c d = subst (λ x. SameMeaning R (object n t b) (object m u x)) d (same_object h)
meaning_same R (same_a_part_function h) n m e b c d = same_unknown_name
meaning_same R same_unknown_object n m e b c d = same_unknown_name

number_where : (R : Pairing) (heads others : Heads) → SameHeads heads others → (l m : Linked) → SameLinked R l m → (b c : Bool) → b ≡ c → b ≡ true
    → number_in (if b then heads.functions else heads.objects) l.root l.internal l.name ≡ number_in (if c then others.functions else others.objects) m.root m.internal m.name
number_where R heads others same l m h true true e d = same.functions l.root l.internal l.name ∙ (λ i. number_in others.functions (h.root i) (h.internal i) (h.name i))
number_where R heads others same l m h true false e d = absurd cc
number_where R heads others same l m h false c e d = absurd cc

number_same : (R : Pairing) (heads others : Heads) → SameHeads heads others → (l m : Linked) → SameLinked R l m → is_function l.type ≡ true → linked_number heads l ≡ linked_number others m
number_same R heads others same l m h e = number_where R heads others same l m h (is_function l.type) (is_function m.type) (is_function_same R h.type) e

pub with_linked_same : (R : Pairing) (last : ℕ) (h : Keep) (heads others : Heads) → SameHeads heads others → (l m : Linked) → SameLinked R l m → (k j : Known) → SameKnown R last k j → SameKnown R last (with_linked h heads l k) (with_linked h others m j)
with_linked_same R last h heads others same l m one k j know =
    let b : Bool = is_refused k.standing k.linked (last_linked None l.root l.name k.linked) l in
    let c : Bool = is_refused j.standing j.linked (last_linked None m.root m.name j.linked) m in
    let s : PlainStanding = refusing h b subset.DefinedTwice l.at k.standing in
    let t : PlainStanding = refusing h c subset.DefinedTwice m.at j.standing in
    let rows : SameStanding R last s t = refusing_same R last h b c subset.DefinedTwice subset.DefinedTwice l.at m.at k.standing j.standing know.standing in
    record {
      standing = subst (λ name. SameStanding R last (with_name s l.name (linked_meaning heads l)) (with_name t name (linked_meaning others m))) one.name
          (declared_same R last s.scope t.scope rows l.name (meaning_same R one.type (linked_number heads l) (linked_number others m) (number_same R heads others same l m one) l.sensor m.sensor one.sensor));
      root = know.root;
      linked = more_linked R know.linked one;
      functions = know.functions;
    }
