-- What an include stands for, and what the files are, after a file or a link was added.
use Rattle.std.proofs.Common.{◌≡◌, ◌≢◌, ℕ, suc, ◌<◌, Bool, true, false, ◌&&◌, cond, List, [], ◌∷◌, ◌++◌, Option, None, Some, refl, ap, sym, ◌∙◌, subst, inl, inr, arith, length-append}
use Rattle.std.specs.Prelude.{All, IfSome, OnOk, Result, Ok, Err, option_map}
use Rattle.std.specs.Str.{bytes_eq}
use Rattle.std.specs.Bool.{beq}
use Rattle.std.specs.Cmp.{booleans_Decides}
use Rattle.std.proofs.lemmas.Bool.{and_parts, cases_lt, cases_order}
use Rattle.std.proofs.lemmas.Slice.Eq.{bytes_eq-Decides}
use Rattle.std.proofs.lemmas.List.{get_or-set_same, get_or-set_other, get_or_past, get_or_append_left}
use Rattle.std.proofs.Math.Seq.{get_or-append_seam}
use Rattle.p10_base.specs.declared.sources.Link.{Link}
use Rattle.p10_base.specs.declared.sources.SourceFile.{SourceFile}
use Rattle.p10_base.specs.declared.word.WordPlace.{WordPlace}
use Rattle.p10_base.specs.Gathered.{Gathered, IsWhole, candidate_of, count_of, file_of, is_link_of, no_file, target_of, with_file, with_link}

-- the file of a link, if there is one
abbrev link_target : Option Link → Option ℕ
link_target found = option_map (λ link. link.to) found

-- a link is that of its own include
pub is_link_of-own : (name : List ℕ) (angle : Bool) (to : ℕ) → is_link_of name angle (record { name = name; angle = angle; to = to }) ≡ true
is_link_of-own name angle to =
    ap (λ t. t && beq angle angle) ((bytes_eq-Decides name name).1 refl) ∙ (booleans_Decides angle angle).1 refl

-- one link before two lists of links
front_own : (test : Bool) (link : Link) (found more : Option Link) (to : ℕ) → link_target (cond test (Some link) found) ≡ None →
    (link_target found ≡ None → link_target more ≡ Some to) → link_target (cond test (Some link) more) ≡ Some to
front_own true link found more to none rest = cc
front_own false link found more to none rest = rest none

front_same : (test : Bool) (link : Link) (found more : Option Link) → link_target more ≡ link_target found →
    link_target (cond test (Some link) more) ≡ link_target (cond test (Some link) found)
front_same true link found more same = refl
front_same false link found more same = same

front_below : (test : Bool) (link : Link) (found : Option Link) (count : ℕ) → link.to < count →
    IfSome (link_target found) (λ file. file < count) → IfSome (link_target (cond test (Some link) found)) (λ file. file < count)
front_below true link found count below rest = below
front_below false link found count below rest = rest

-- a link put after links of other includes is found
pub target_of-append_own : (name : List ℕ) (angle : Bool) (to : ℕ) (links : List Link) → target_of name angle links ≡ None →
    target_of name angle (links ++ (record { name = name; angle = angle; to = to }) ∷ []) ≡ Some to
target_of-append_own name angle to [] none =
    ap (λ t. link_target (cond t (Some (record { name = name; angle = angle; to = to })) None)) (is_link_of-own name angle to)
target_of-append_own name angle to (link ∷ links) none =
    front_own (is_link_of name angle link) link _ _ to none (target_of-append_own name angle to links)

-- a link of another include, put after links, changes nothing
pub target_of-append_other : (name : List ℕ) (angle : Bool) (other : Link) (links : List Link) → is_link_of name angle other ≡ false →
    target_of name angle (links ++ other ∷ []) ≡ target_of name angle links
target_of-append_other name angle other [] apart = ap (λ t. link_target (cond t (Some other) None)) apart
target_of-append_other name angle other (link ∷ links) apart =
    front_same (is_link_of name angle link) link _ _ (target_of-append_other name angle other links apart)

-- where every link leads to one of `count` files, so does the one that is found
pub target_of-below : (name : List ℕ) (angle : Bool) (count : ℕ) (links : List Link) → All (λ link. link.to < count) links →
    IfSome (target_of name angle links) (λ file. file < count)
target_of-below name angle count [] all = tt
target_of-below name angle count (link ∷ links) all =
    front_below (is_link_of name angle link) link _ count (all 0 link (omega arith))
    (target_of-below name angle count links (λ k d within. all (suc k) d (omega (arith, within))))

-- an include stands for one of the files
pub candidate_of-held : (g : Gathered) → IsWhole g → (from : ℕ) (name : List ℕ) (angle : Bool) →
    IfSome (candidate_of g from name angle) (λ file. file < count_of g)
candidate_of-held g whole from name angle =
    elim (cases_lt from (count_of g)) [
      | inl held ↦ target_of-below name angle (count_of g) _ (whole.links_held from no_file held)
      | inr past ↦ rw (get_or_past g.files from no_file past) tt
    ]

-- the include that was linked
pub candidate_of-with_link_own : (g : Gathered) (from : ℕ) (name : List ℕ) (angle : Bool) (to : ℕ) →
    from < count_of g → candidate_of g from name angle ≡ None → candidate_of (with_link g from name angle to) from name angle ≡ Some to
candidate_of-with_link_own g from name angle to held none =
    ap (λ (file : SourceFile). target_of name angle file.links) (get_or-set_same g.files from _ no_file held) ∙ target_of-append_own name angle to _ none

-- the includes of other files stay as they were
pub candidate_of-with_link_elsewhere : (g : Gathered) (from : ℕ) (name : List ℕ) (angle : Bool) (to other : ℕ) → other ≢ from →
    (n : List ℕ) (a : Bool) → candidate_of (with_link g from name angle to) other n a ≡ candidate_of g other n a
candidate_of-with_link_elsewhere g from name angle to other apart n a =
    ap (λ (file : SourceFile). target_of n a file.links) (get_or-set_other g.files from other _ no_file apart)

-- a link is of no other include
is_link_of-other : (name n : List ℕ) (angle a : Bool) (to : ℕ) → (name ≡ n → angle ≡ a → ⊥) → (test : Bool) →
    (bytes_eq name n && beq angle a) ≡ test → test ≡ false
is_link_of-other name n angle a to apart true same =
    let both = and_parts (bytes_eq name n) (beq angle a) same in
    absurd (apart ((bytes_eq-Decides name n).0 both.0) ((booleans_Decides angle a).0 both.1))
is_link_of-other name n angle a to apart false same = refl

-- the other includes of that file stay as they were
pub candidate_of-with_link_other : (g : Gathered) (from : ℕ) (name : List ℕ) (angle : Bool) (to : ℕ) → from < count_of g →
    (n : List ℕ) (a : Bool) → (name ≡ n → angle ≡ a → ⊥) → candidate_of (with_link g from name angle to) from n a ≡ candidate_of g from n a
candidate_of-with_link_other g from name angle to held n a apart =
    ap (λ (file : SourceFile). target_of n a file.links) (get_or-set_same g.files from _ no_file held) ∙
    target_of-append_other n a (record { name = name; angle = angle; to = to }) (file_of g from).links
    (is_link_of-other name n angle a to apart _ refl)

-- a file that was put after the others has no links, and theirs stay
pub candidate_of-with_file : (g : Gathered) (name text : List ℕ) (built_in : Bool) (words : List WordPlace) (from : ℕ) (n : List ℕ) (a : Bool) →
    candidate_of (with_file g name text built_in words) from n a ≡ candidate_of g from n a
candidate_of-with_file g name text built_in words from n a =
    let new : SourceFile = record { name = name; text = text; built_in = built_in; words = words; links = [] } in
    elim (cases_order from (count_of g)) [
      | inl at ↦ rw at (ap (λ (file : SourceFile). target_of n a file.links) (get_or-append_seam g.files new [] no_file ∙
          ap (λ (links : List Link). record { name = name; text = text; built_in = built_in; words = words; links = links }) refl) ∙
          sym (ap (λ (file : SourceFile). target_of n a file.links) (get_or_past g.files (count_of g) no_file (omega arith))))
      | inr apart ↦ elim apart [
        | inl before ↦ ap (λ (file : SourceFile). target_of n a file.links) (get_or_append_left g.files (new ∷ []) no_file from before)
        | inr past ↦ ap (λ (file : SourceFile). target_of n a file.links)
            (get_or_past (g.files ++ new ∷ []) from no_file (omega (arith, length-append g.files (new ∷ []))) ∙
            sym (get_or_past g.files from no_file (omega arith)))
      ]
    ]

-- as the answers of `candidate` and `link` need them: for what a call gave, under an equation
pub IfSome-candidate : (g shown : Gathered) → shown ≡ g → IsWhole shown → (from : ℕ) (name : List ℕ) (angle : Bool) (found : Option ℕ) →
    found ≡ candidate_of g from name angle → IfSome found (λ file. file < count_of g)
IfSome-candidate g shown same whole from name angle found is =
    rw is (candidate_of-held g (subst (λ (g : Gathered). IsWhole g) same whole) from name angle)

pub OnOk-candidate : {T E : Type 0} (g new : Gathered) (from : ℕ) (name : List ℕ) (angle : Bool) (to : ℕ) (result : Result T E) →
    from < count_of g → candidate_of g from name angle ≡ None → OnOk result (new ≡ with_link g from name angle to) →
    OnOk result (candidate_of new from name angle ≡ Some to)
OnOk-candidate g new from name angle to (Ok x) held none is = rw is (candidate_of-with_link_own g from name angle to held none)
OnOk-candidate g new from name angle to (Err e) held none is = tt
