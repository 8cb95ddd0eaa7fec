-- At each moment of gathering the first roots have their files, and the others are still ahead.
use Rattle.std.proofs.Common.{◌≡◌, ℕ, ◌+◌, ◌<◌, ◌≤◌, List, [], ◌∷◌, ◌++◌, length, map, drop, get_or, refl, ap, sym, ◌∙◌, subst, arith, length-append, below_more}
use Rattle.std.specs.Prelude.{All, Option}
use Rattle.std.proofs.lemmas.List.{append-nil, append_assoc, drop_more, length-drop, get_or_append_left}
use Rattle.std.proofs.lemmas.List.Elements.{All-nil, All-head, All-tail, All-append}
use Rattle.std.proofs.Math.Seq.{get_or-append_seam}
use Rattle.p10_world.specs.Files.{Named}
use Rattle.p10_expand.specs.declared.place.Include.{Include}
use Rattle.p10_expand.specs.declared.place.Place.{Place}
use Rattle.p10_expand.specs.declared.place.Place.TheVariants.{File}
use Rattle.p10_expand.specs.declared.gathering.Known.{Known}
use Rattle.p10_expand.specs.Finding.{IsFirst}
use Rattle.p10_expand.specs.Gathering.{Request, Root, Line, no_known, known_at, IsAt}
use Rattle.p10_expand.proofs.OncePlaces.{same_head, same_tail}

abbrev pub IsLine : Request → Type 0
IsLine (Root name) = ⊥
IsLine (Line from depth include) = Unit {0}

-- the file with this number is that of a root by its name, and no chain leads to it
pub record IsRoot (known : List Known) (name : List ℕ) (number : ℕ) : Type 0 where
  pub at : IsAt known (File name) number
  pub depth : (known_at known number).depth ≡ 0

pub record RootsStand (roots : List (List ℕ)) (known : List Known) (numbers : List ℕ) (ahead : List Request) : Type 0 where
  pub behind : List Request
  pub parts : ahead ≡ map Root (drop (length numbers) roots) ++ behind
  pub lines : All IsLine behind
  pub few : length numbers ≤ length roots
  pub named : (i : ℕ) → i < length numbers → IsRoot known (get_or roots i []) (get_or numbers i 0)

pub roots_begin : (roots : List (List ℕ)) → RootsStand roots [] [] (map Root roots)
roots_begin roots = record {
  behind = [];
  parts = sym (append-nil (map Root roots));
  lines = All-nil IsLine;
  few = omega arith;
  named = λ i below. absurd (omega (arith, below));
}

-- ## A file is put after the others

pub known_grown : (known : List Known) (k : Known) (number : ℕ) → number < length known → known_at (known ++ k ∷ []) number ≡ known_at known number
known_grown known k number held = get_or_append_left known (k ∷ []) no_known number held

root_grown : (known : List Known) (k : Known) (name : List ℕ) (number : ℕ) → IsRoot known name number → IsRoot (known ++ k ∷ []) name number
root_grown known k name number is =
    let same = known_grown known k number is.at.held in
    record {
      at = record { held = omega (arith, is.at.held, length-append known (k ∷ [])); place_of = ap (λ (x : Known). x.place) same ∙ is.at.place_of };
      depth = ap (λ (x : Known). x.depth) same ∙ is.depth;
    }

pub roots_more : (roots : List (List ℕ)) (known : List Known) (numbers : List ℕ) (ahead lines : List Request) (k : Known) → All IsLine lines → RootsStand roots known numbers ahead →
    RootsStand roots (known ++ k ∷ []) numbers (ahead ++ lines)
roots_more roots known numbers ahead lines k are stand = record {
  behind = stand.behind ++ lines;
  parts = ap (λ rs. rs ++ lines) stand.parts ∙ append_assoc (map Root (drop (length numbers) roots)) stand.behind lines;
  lines = All-append IsLine stand.behind lines stand.lines are;
  few = stand.few;
  named = λ i below. root_grown known k (get_or roots i []) (get_or numbers i 0) (stand.named i below);
}

-- ## The next request is a line

no_roots : (names : List (List ℕ)) (behind rest : List Request) (from depth : ℕ) (include : Include) → Line from depth include ∷ rest ≡ map Root names ++ behind → [] ≡ names
no_roots [] behind rest from depth include same = refl
no_roots (name ∷ names) behind rest from depth include same =
    let apart : Line from depth include ≡ Root name = same_head (Line from depth include) (Root name) rest (map Root names ++ behind) same in
    absurd cc

behind_line : (names : List (List ℕ)) (behind rest : List Request) (from depth : ℕ) (include : Include) → Line from depth include ∷ rest ≡ map Root names ++ behind → All IsLine behind → All IsLine rest
behind_line names behind rest from depth include same are =
    All-tail IsLine (Line from depth include) rest (subst (λ rs. All IsLine rs) (sym (same ∙ ap (λ ns. map Root ns ++ behind) (sym (no_roots names behind rest from depth include same)))) are)

pub roots_line : (roots : List (List ℕ)) (known : List Known) (numbers : List ℕ) (rest : List Request) (from depth : ℕ) (include : Include) → RootsStand roots known numbers (Line from depth include ∷ rest) →
    RootsStand roots known numbers rest
roots_line roots known numbers rest from depth include stand = record {
  behind = rest;
  parts = ap (λ ns. map Root ns ++ rest) (no_roots (drop (length numbers) roots) stand.behind rest from depth include stand.parts);
  lines = behind_line (drop (length numbers) roots) stand.behind rest from depth include stand.parts stand.lines;
  few = stand.few;
  named = stand.named;
}

-- ## The next request is a root

record NextRoot (names : List (List ℕ)) (behind rest : List Request) (name : List ℕ) : Type 0 where
  more : List (List ℕ)
  names_are : names ≡ name ∷ more
  rest_is : rest ≡ map Root more ++ behind

same_name : (name other : List ℕ) → Root name ≡ Root other → name ≡ other
same_name name other same = cc

next_root : (names : List (List ℕ)) (behind rest : List Request) (name : List ℕ) → Root name ∷ rest ≡ map Root names ++ behind → All IsLine behind → NextRoot names behind rest name
next_root [] behind rest name same are = absurd (All-head IsLine (Root name) rest (subst (λ rs. All IsLine rs) (sym same) are))
next_root (other ∷ names) behind rest name same are = record {
  more = names;
  names_are = ap (λ n. n ∷ names) (sym (same_name name other (same_head (Root name) (Root other) rest (map Root names ++ behind) same)));
  rest_is = same_tail (Root name) (Root other) rest (map Root names ++ behind) same;
}

-- a root is found at its own place
pub root_place : (held : Option (List Named)) (name : List ℕ) (place : Place) → IsFirst held (File name ∷ []) place → place ≡ File name
root_place held name place first = at_front first.front first.back first.parts
  where
    at_front : (front back : List Place) → File name ∷ [] ≡ front ++ place ∷ back → place ≡ File name
    at_front [] back parts = sym (same_head (File name) place [] back parts)
    at_front (p ∷ front) back parts = absurd (omega (arith, ap length parts, length-append front (place ∷ back)))

pub roots_root : (roots : List (List ℕ)) (known : List Known) (numbers : List ℕ) (rest : List Request) (name : List ℕ) (number : ℕ) → RootsStand roots known numbers (Root name ∷ rest) → IsRoot known name number →
    RootsStand roots known (numbers ++ number ∷ []) rest
roots_root roots known numbers rest name number stand is =
    let j : ℕ = length numbers in
    let next = next_root (drop j roots) stand.behind rest name stand.parts stand.lines in
    let within : j < length roots = omega (arith, length-drop j roots, ap length next.names_are) in
    let split : get_or roots j [] ∷ drop (j + 1) roots ≡ name ∷ next.more = sym (drop_more roots j [] within) ∙ next.names_are in
    let count : length (numbers ++ number ∷ []) ≡ j + 1 = length-append numbers (number ∷ []) in
    let P : ℕ → Type 0 = λ i. IsRoot known (get_or roots i []) (get_or (numbers ++ number ∷ []) i 0) in
    let before : (i : ℕ) → i < j → P i = λ i below. subst (λ n. IsRoot known (get_or roots i []) n) (sym (get_or_append_left numbers (number ∷ []) 0 i below)) (stand.named i below) in
    let here : P j = subst (λ n. IsRoot known (get_or roots j []) n) (sym (get_or-append_seam numbers number [] 0))
    (subst (λ n. IsRoot known n number) (sym (same_head (get_or roots j []) name (drop (j + 1) roots) next.more split)) is) in
    record {
      behind = stand.behind;
      parts = next.rest_is ∙ ap (λ ns. map Root ns ++ stand.behind) (sym (same_tail (get_or roots j []) name (drop (j + 1) roots) next.more split) ∙ ap (λ n. drop n roots) (sym count));
      lines = stand.lines;
      few = omega (arith, count, within);
      named = λ i below. below_more P j before here i (omega (arith, below, count));
    }
