-- In roots whose outlines are the same but for places, the functions have the same heads but for places, and so the same numbers.
use Rattle.std.proofs.Common.{◌≡◌, ℕ, ◌+◌, nat_eq, List, [], ◌∷◌, ◌++◌, map, Bool, true, false, not, ◌&&◌, ◌||◌, cond, if◌then◌else◌, Option, Some, None, inl, inr, refl, sym, ap, ◌∙◌, subst, append_assoc, bytes_eq, arith}
use Rattle.std.specs.List.{flat_map, position_from}
use Rattle.std.proofs.lemmas.List.{length-map}
use Rattle.p10_base.specs.declared.at.At.{At}
use Rattle.p10_base.specs.Words.{Text}
use Rattle.p10_syn.specs.Places.{nowhere}
use Rattle.p10_syn.specs.Trees.{External}
use Rattle.p10_heads.specs.declared.outline.Defining.{Defining}
use Rattle.p10_heads.specs.declared.outline.Defining.TheVariants as defined
use Rattle.p10_heads.specs.Heads.{Outline, outlines_in, outlines, Head, is_internal, is_fully, is_tentative, first_outline, at_or, site_of, begins_at, heads_from, heads_of_roots, number_by, number_in}
use Rattle.p10_spelling_laws.specs.Counterparts.{Counterparts, in_first, in_second}
use Rattle.p10_head_renaming.specs.Ascending.{Ascend, numbers_of, name_numbers}
use Rattle.p10_head_renaming.specs.Laws.{FunctionsKeepNumbers}
use Rattle.p10_head_renaming.proofs.Ascending.{AreAt, one_to_one, front, back}
use Rattle.p10_head_renaming.proofs.Outlines.{IsSameOutline, AreSameOutlines, counterparts_same}
use Rattle.p10_head_renaming.proofs.Together.{roots_together}

-- ## Tests of outlines

abbrev own_fully : Defining → Bool
own_fully defined.Fully = true
own_fully d = false

abbrev own_tentative : Defining → Bool
own_tentative defined.Tentatively = true
own_tentative d = false

fully_is : (o : Outline) → is_fully o ≡ own_fully o.defining
fully_is o = grind arith

tentative_is : (o : Outline) → is_tentative o ≡ own_tentative o.defining
tentative_is o = grind arith

fully_same : (o p : Outline) → IsSameOutline o p → is_fully o ≡ is_fully p
fully_same o p same = fully_is o ∙ ap own_fully same.defining ∙ sym (fully_is p)

tentative_same : (o p : Outline) → IsSameOutline o p → is_tentative o ≡ is_tentative p
tentative_same o p same = tentative_is o ∙ ap own_tentative same.defining ∙ sym (tentative_is p)

-- ## Heads

-- a head without its place
abbrev pub unplaced : Head → Head
unplaced f = record { root = f.root; name = f.name; at = nowhere; internal = f.internal; in_block = f.in_block }

map_append : (these more : List Head) → map unplaced (these ++ more) ≡ map unplaced these ++ map unplaced more
map_append [] more = refl
map_append (f ∷ these) more = ap (λ rest. unplaced f ∷ rest) (map_append these more)

internal_same : (name : Text) (os ps : List Outline) → AreSameOutlines os ps → is_internal name os ≡ is_internal name ps
internal_same name [] [] same = refl
internal_same name [] (p ∷ ps) same = absurd same
internal_same name (o ∷ os) [] same = absurd same
internal_same name (o ∷ os) (p ∷ ps) same = λ j. (bytes_eq (same.0.name j) name && same.0.static j) || internal_same name os ps same.1 j

-- the head of an outline, where it defines its name
abbrev head_if : Bool → ℕ → Text → At → Bool → List Head
head_if b root name at internal = if b then record { root = root; name = name; at = at; internal = internal; in_block = false } ∷ [] else []

one_head : (b : Bool) (root : ℕ) (name : Text) (at : At) (internal : Bool) → map unplaced (head_if b root name at internal) ≡ head_if b root name nowhere internal
one_head true root name at internal = refl
one_head false root name at internal = refl

-- where numbers are compared alike in both programs
module _ (P : ℕ → ℕ → Type 0) (one : (a b c d : ℕ) → P a b → P c d → nat_eq a c ≡ nat_eq b d) where
  abbrev ArePlaced : List Outline → List Outline → Type 0
  ArePlaced [] [] = Unit {0}
  ArePlaced (o ∷ os) (p ∷ ps) = IsSameOutline o p × P o.at.first p.at.first × ArePlaced os ps
  ArePlaced os ps = ⊥

  abbrev AreSites : Option At → Option At → Type 0
  AreSites None None = Unit {0}
  AreSites (Some a) (Some b) = P a.first b.first
  AreSites a b = ⊥

  site_if : (b c : Bool) (x y : At) (more others : Option At) → b ≡ c → P x.first y.first → AreSites more others → AreSites (if b then Some x else more) (if c then Some y else others)
  site_if true true x y more others same here rest = here
  site_if false false x y more others same here rest = rest
  site_if true false x y more others same here rest = absurd (cc)
  site_if false true x y more others same here rest = absurd (cc)

  first_same : (test : Outline → Bool) → ((o p : Outline) → IsSameOutline o p → test o ≡ test p) → (name : Text) (os ps : List Outline) → ArePlaced os ps → AreSites (first_outline test name os) (first_outline test name ps)
  first_same test tests name [] [] same = tt
  first_same test tests name [] (p ∷ ps) same = absurd same
  first_same test tests name (o ∷ os) [] same = absurd same
  first_same test tests name (o ∷ os) (p ∷ ps) same =
      site_if (bytes_eq o.name name && test o) (bytes_eq p.name name && test p) o.at p.at (first_outline test name os) (first_outline test name ps) (λ j. bytes_eq (same.0.name j) name && tests o p same.0 j) same.1 (first_same test tests name os ps same.2)

  either_site : (a b c d : Option At) → AreSites a b → AreSites c d → AreSites (at_or a c) (at_or b d)
  either_site None None c d same rest = rest
  either_site (Some x) (Some y) c d same rest = same
  either_site None (Some y) c d same rest = absurd same
  either_site (Some x) None c d same rest = absurd same

  sites_same : (name : Text) (os ps : List Outline) → ArePlaced os ps → AreSites (site_of name os) (site_of name ps)
  sites_same name os ps same = either_site (first_outline is_fully name os) (first_outline is_fully name ps) (first_outline is_tentative name os) (first_outline is_tentative name ps) (first_same is_fully fully_same name os ps same) (first_same is_tentative tentative_same name os ps same)

  begin_same : (x y : At) (a b : Option At) → P x.first y.first → AreSites a b → begins_at x a ≡ begins_at y b
  begin_same x y None None here same = refl
  begin_same x y (Some a) (Some b) here same = one x.first y.first a.first b.first here same
  begin_same x y None (Some b) here same = absurd same
  begin_same x y (Some a) None here same = absurd same

  placed_same : (os ps : List Outline) → ArePlaced os ps → AreSameOutlines os ps
  placed_same [] [] same = tt
  placed_same [] (p ∷ ps) same = absurd same
  placed_same (o ∷ os) [] same = absurd same
  placed_same (o ∷ os) (p ∷ ps) same = (same.0, placed_same os ps same.2)

  -- the heads of functions among outlines of a root
  heads_same : (root : ℕ) (all others os ps : List Outline) → ArePlaced all others → ArePlaced os ps → map unplaced (heads_from true root all os) ≡ map unplaced (heads_from true root others ps)
  heads_same root all others [] [] whole same = refl
  heads_same root all others [] (p ∷ ps) whole same = absurd same
  heads_same root all others (o ∷ os) [] whole same = absurd same
  heads_same root all others (o ∷ os) (p ∷ ps) whole same =
      let site : begins_at o.at (site_of o.name all) ≡ begins_at p.at (site_of p.name others) =
      begin_same o.at p.at (site_of o.name all) (site_of o.name others) same.1 (sites_same o.name all others whole) ∙ ap (λ name. begins_at p.at (site_of name others)) same.0.name in
      let internal : is_internal o.name all ≡ is_internal p.name others = internal_same o.name all others (placed_same all others whole) ∙ ap (λ name. is_internal name others) same.0.name in
      let rest = heads_same root all others os ps whole same.2 in
      map_append (head_if (begins_at o.at (site_of o.name all) && o.function) root o.name o.at (is_internal o.name all)) (heads_from true root all os)
      ∙ ap (λ heads. heads ++ map unplaced (heads_from true root all os)) (one_head (begins_at o.at (site_of o.name all) && o.function) root o.name o.at (is_internal o.name all))
      ∙ (λ j. head_if (site j && same.0.function j) root (same.0.name j) nowhere (internal j) ++ rest j)
      ∙ ap (λ heads. heads ++ map unplaced (heads_from true root others ps)) (sym (one_head (begins_at p.at (site_of p.name others) && p.function) root p.name p.at (is_internal p.name others)))
      ∙ sym (map_append (head_if (begins_at p.at (site_of p.name others) && p.function) root p.name p.at (is_internal p.name others)) (heads_from true root others ps))

  -- each stands at one place of both lists
  placed_by : (os ps : List Outline) → AreSameOutlines os ps → ((a b : ℕ) → AreAt (numbers_of os) (numbers_of ps) a b → P a b) → ArePlaced os ps
  placed_by [] [] same are = tt
  placed_by [] (p ∷ ps) same are = absurd same
  placed_by (o ∷ os) [] same are = absurd same
  placed_by (o ∷ os) (p ∷ ps) same are = (same.0, are o.at.first p.at.first (inl (refl, refl)), placed_by os ps same.1 (λ a b at. are a b (inr at)))

-- the heads of functions of a root
root_same : (root : ℕ) (os ps : List Outline) (low high from to : ℕ) → AreSameOutlines os ps → Ascend low (numbers_of os) high → Ascend from (numbers_of ps) to → map unplaced (heads_from true root os os) ≡ map unplaced (heads_from true root ps ps)
root_same root os ps low high from to same up more =
    let one = one_to_one (numbers_of os) (numbers_of ps) low high from to up more in
    let placed = placed_by (AreAt (numbers_of os) (numbers_of ps)) one os ps same (λ a b at. at) in
    heads_same (AreAt (numbers_of os) (numbers_of ps)) one root os ps os ps placed placed

-- ## Roots

pub numbers_append : (os ps : List Outline) → numbers_of (os ++ ps) ≡ numbers_of os ++ numbers_of ps
numbers_append [] ps = refl
numbers_append (o ∷ os) ps = ap (λ rest. o.at.first ∷ rest) (numbers_append os ps)

pub outlines_append : (these more : List (External At)) → outlines (these ++ more) ≡ outlines these ++ outlines more
outlines_append [] more = refl
outlines_append (e ∷ these) more = ap (λ rest. outlines_in e ++ rest) (outlines_append these more) ∙ sym (append_assoc (outlines_in e) (outlines these) (outlines more))

mapped_append : (f : Counterparts → (External At)) (these more : List Counterparts) → map f (these ++ more) ≡ map f these ++ map f more
mapped_append f [] more = refl
mapped_append f (c ∷ these) more = ap (λ rest. f c ∷ rest) (mapped_append f these more)

-- the names of a root and of those after it
names_append : (f : Counterparts → (External At)) (these more : List Counterparts) → name_numbers (map f (these ++ more)) ≡ name_numbers (map f these) ++ name_numbers (map f more)
names_append f these more = ap name_numbers (mapped_append f these more) ∙ ap numbers_of (outlines_append (map f these) (map f more)) ∙ numbers_append (outlines (map f these)) (outlines (map f more))

functions_same : (n : ℕ) (roots : List (List Counterparts)) (low high from to : ℕ) → Ascend low (name_numbers (map in_first (flat_map (λ root. root) roots))) high → Ascend from (name_numbers (map in_second (flat_map (λ root. root) roots))) to
    → map unplaced (heads_of_roots n (map (map in_first) roots)).functions ≡ map unplaced (heads_of_roots n (map (map in_second) roots)).functions
functions_same n [] low high from to up more = refl
functions_same n (root ∷ roots) low high from to up more =
    let rest : List Counterparts = flat_map (λ root. root) roots in
    let first = subst (λ numbers. Ascend low numbers high) (names_append in_first root rest) up in
    let second = subst (λ numbers. Ascend from numbers to) (names_append in_second root rest) more in
    let here = root_same n (outlines (map in_first root)) (outlines (map in_second root)) low high from to (counterparts_same root)
    (front low (name_numbers (map in_first root)) (name_numbers (map in_first rest)) high first) (front from (name_numbers (map in_second root)) (name_numbers (map in_second rest)) to second) in
    let others = functions_same (n + 1) roots low high from to
    (back low (name_numbers (map in_first root)) (name_numbers (map in_first rest)) high first) (back from (name_numbers (map in_second root)) (name_numbers (map in_second rest)) to second) in
    map_append (heads_from true n (outlines (map in_first root)) (outlines (map in_first root))) (heads_of_roots (n + 1) (map (map in_first) roots)).functions
    ∙ (λ j. here j ++ others j)
    ∙ sym (map_append (heads_from true n (outlines (map in_second root)) (outlines (map in_second root))) (heads_of_roots (n + 1) (map (map in_second) roots)).functions)

-- ## Numbers

positions : (test : Head → Bool) → ((f : Head) → test (unplaced f) ≡ test f) → (n : ℕ) (heads : List Head) → position_from test n (map unplaced heads) ≡ position_from test n heads
positions test each n [] = refl
positions test each n (f ∷ heads) = λ j. cond (each f j) (Some n) (positions test each (n + 1) heads j)

number_unplaced : (heads : List Head) (root : ℕ) (internal : Bool) (name : Text) → number_in (map unplaced heads) root internal name ≡ number_in heads root internal name
number_unplaced heads root internal name = λ j. number_by
    (positions (λ f. nat_eq f.root root && (bytes_eq f.name name && not f.in_block)) (λ f. refl) 0 heads j)
    (if internal then None else positions (λ f. bytes_eq f.name name && (not f.in_block && not f.internal)) (λ f. refl) 0 heads j)
    (length-map heads unplaced j)

pub functions_keep_numbers : FunctionsKeepNumbers
functions_keep_numbers all low high from to together up more root internal name =
    let r = roots_together all together in
    let first = subst (λ (cs : List Counterparts). Ascend low (name_numbers (map in_first cs)) high) (sym r.joined) up in
    let second = subst (λ (cs : List Counterparts). Ascend from (name_numbers (map in_second cs)) to) (sym r.joined) more in
    ap (λ roots. number_in (heads_of_roots 0 roots).functions root internal name) r.first
    ∙ sym (number_unplaced (heads_of_roots 0 (map (map in_first) r.roots)).functions root internal name)
    ∙ ap (λ heads. number_in heads root internal name) (functions_same 0 r.roots low high from to first second)
    ∙ number_unplaced (heads_of_roots 0 (map (map in_second) r.roots)).functions root internal name
    ∙ ap (λ roots. number_in (heads_of_roots 0 roots).functions root internal name) (sym r.second)
