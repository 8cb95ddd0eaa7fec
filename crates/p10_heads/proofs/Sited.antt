-- Where names are defined, as the code finds it.
use Rattle.std.specs.Prelude.{◌≡◌, ℕ, Bool, true, false, not, ◌&&◌, ◌||◌, if◌then◌else◌, Option, Some, is_some, List, [], ◌∷◌, ◌++◌, bytes_eq, refl}
use Rattle.std.proofs.Common.{◌∙◌, ap}
use Rattle.p10_base.specs.Words.{Text}
use Rattle.p10_base.specs.declared.at.At.{At}
use Rattle.p10_bindings.specs.Lookup.{last_bound}
use Rattle.p10_syn.specs.Trees.{External, Outer, Defines}
use Rattle.p10_heads.specs.Heads.{Outline, is_fully, is_tentative, is_internal, first_outline, at_or, site_of, begins_at, Head, heads_from, outlines_in, object_heads_in, object_heads_of}
use Rattle.p10_heads.specs.declared.sites.Asked.TheVariants.{Tentative}
use Rattle.p10_heads.specs.private.Firsts.{first_bound}
use Rattle.p10_heads.specs.private.Sites.{sites_among, first_sites, PlainSites, sites_of, site_in, internal_in, heads_among, objects_in, objects_among}
use Rattle.p10_heads.proofs.FirstNames.{found_first}

and_true : {A : Type 0} (b : Bool) (x y : A) → (if b then x else y) ≡ (if b && true then x else y)
and_true true x y = refl
and_true false x y = refl

and_false : {A : Type 0} (b : Bool) (x y : A) → y ≡ (if b && false then x else y)
and_false true x y = refl
and_false false x y = refl

one_site : (t : Bool) (name : Text) (o : Outline) (xs : List (Text × At)) (r : Option At) → first_bound name xs ≡ r →
    first_bound name ((if t then (o.name, o.at) ∷ [] else []) ++ xs) ≡ (if bytes_eq o.name name && t then Some o.at else r)
one_site true name o xs r is = ap (λ x. if bytes_eq o.name name then Some o.at else x) is ∙ and_true (bytes_eq o.name name) (Some o.at) r
one_site false name o xs r is = is ∙ and_false (bytes_eq o.name name) (Some o.at) r

first_site : (test : Outline → Bool) (name : Text) (all : List Outline) → first_bound name (sites_among test all) ≡ first_outline test name all
first_site test name [] = refl
first_site test name (o ∷ rest) = one_site (test o) name o (sites_among test rest) (first_outline test name rest) (first_site test name rest)

site_is : (all : List Outline) (name : Text) → site_in (sites_of all) name ≡ site_of name all
site_is all name =
    ap (λ o. at_or o (last_bound name (first_sites Tentative all))) (found_first name (sites_among is_fully all) ∙ first_site is_fully name all)
    ∙ ap (at_or (first_outline is_fully name all)) (found_first name (sites_among is_tentative all) ∙ first_site is_tentative name all)

one_internal : (t : Bool) (name : Text) (o : Outline) (xs : List (Text × At)) (r : Bool) → is_some (first_bound name xs) ≡ r →
    is_some (first_bound name ((if t then (o.name, o.at) ∷ [] else []) ++ xs)) ≡ ((bytes_eq o.name name && t) || r)
one_internal false name o xs r is = is ∙ by_name (bytes_eq o.name name)
  where
    by_name : (b : Bool) → r ≡ ((b && false) || r)
    by_name true = refl
    by_name false = refl
one_internal true name o xs r is = by_name (bytes_eq o.name name)
  where
    by_name : (b : Bool) → is_some (if b then Some o.at else first_bound name xs) ≡ ((b && true) || r)
    by_name true = refl
    by_name false = is

internal_first : (name : Text) (all : List Outline) → is_some (first_bound name (sites_among (λ o. o.static) all)) ≡ is_internal name all
internal_first name [] = refl
internal_first name (o ∷ rest) = one_internal o.static name o (sites_among (λ o. o.static) rest) (is_internal name rest) (internal_first name rest)

internal_is : (all : List Outline) (name : Text) → internal_in (sites_of all) name ≡ is_internal name all
internal_is all name = ap is_some (found_first name (sites_among (λ o. o.static) all)) ∙ internal_first name all

-- heads are found as they are defined
pub heads_are : (functions : Bool) (root : ℕ) (all some : List Outline) → heads_among functions root (sites_of all) some ≡ heads_from functions root all some
heads_are functions root all [] = refl
heads_are functions root all (o ∷ rest) =
    ap (λ at. (if begins_at o.at at && (if functions then o.function else not o.function)
    then record { root = root; name = o.name; at = o.at; internal = internal_in (sites_of all) o.name; in_block = false } ∷ [] else []) ++ heads_among functions root (sites_of all) rest) (site_is all o.name)
    ∙ ap (λ internal. (if begins_at o.at (site_of o.name all) && (if functions then o.function else not o.function)
    then record { root = root; name = o.name; at = o.at; internal = internal; in_block = false } ∷ [] else []) ++ heads_among functions root (sites_of all) rest) (internal_is all o.name)
    ∙ ap (λ hs. (if begins_at o.at (site_of o.name all) && (if functions then o.function else not o.function)
    then record { root = root; name = o.name; at = o.at; internal = is_internal o.name all; in_block = false } ∷ [] else []) ++ hs) (heads_are functions root all rest)

object_is : (root : ℕ) (all : List Outline) (e : External At) → objects_in root (sites_of all) e ≡ object_heads_in root all e
object_is root all (Outer p d) = heads_are false root all (outlines_in (Outer p d))
object_is root all (Defines d) = refl

objects_are : (root : ℕ) (all : List Outline) (es : List (External At)) → objects_among root (sites_of all) es ≡ object_heads_of root all es
objects_are root all [] = refl
objects_are root all (e ∷ rest) =
    ap (λ hs. hs ++ objects_among root (sites_of all) rest) (object_is root all e) ∙ ap (λ hs. object_heads_in root all e ++ hs) (objects_are root all rest)

-- the heads of the functions of a root are put down
pub functions_put : (root : ℕ) (s : PlainSites) (found listed all : List Outline) (before after : List Head) → s ≡ sites_of found → found ≡ all → listed ≡ all →
    after ≡ before ++ heads_among true root s listed → after ≡ before ++ heads_from true root all all
functions_put root s found listed all before after sited outlined given put =
    put ∙ ap (λ x. before ++ heads_among true root x listed) sited ∙ ap (λ os. before ++ heads_among true root (sites_of os) listed) outlined
    ∙ ap (λ os. before ++ heads_among true root (sites_of all) os) given ∙ ap (λ hs. before ++ hs) (heads_are true root all all)

-- those of its objects
pub objects_put : (root : ℕ) (s : PlainSites) (found all : List Outline) (es : List (External At)) (before after : List Head) → s ≡ sites_of found → found ≡ all →
    after ≡ before ++ objects_among root s es → after ≡ before ++ object_heads_of root all es
objects_put root s found all es before after sited outlined put =
    put ∙ ap (λ x. before ++ objects_among root x es) sited ∙ ap (λ os. before ++ objects_among root (sites_of os) es) outlined
    ∙ ap (λ hs. before ++ hs) (objects_are root all es)
