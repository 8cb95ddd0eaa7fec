-- At each moment of gathering the include lines ahead are lines of gathered files, and those that aren't ahead were answered.
use Rattle.std.proofs.Common.{◌≡◌, ℕ, zero, suc, ◌+◌, ◌<◌, ◌≤◌, Bool, true, false, cond, List, [], ◌∷◌, ◌++◌, length, map, Option, Some, None, refl, ap, sym, ◌∙◌, subst, inl, inr, arith, length-append, ◌⊎◌}
use Rattle.std.specs.Prelude.{All, Contains, nat_le}
use Rattle.std.proofs.lemmas.Bool.{le-leb, leb-true}
use Rattle.std.proofs.lemmas.List.{get_or_append_left, get_or-map, length-map}
use Rattle.std.proofs.lemmas.List.Elements.{All-nil, All-append, All-map, All-weaker, All-contains_itself, Contains-append_left, Contains-append_right}
use Rattle.std.proofs.Math.Seq.{get_or-append_seam}
use Rattle.p10_base.specs.declared.word.WordPlace.{WordPlace}
use Rattle.p10_base.specs.Gathered.{Gathered, count_of, name_of, no_file, with_file}
use Rattle.p10_base.proofs.Gathering.{candidate_of-with_file}
use Rattle.p10_expand.specs.declared.place.Include.{Include}
use Rattle.p10_expand.specs.declared.place.Place.{Place}
use Rattle.p10_expand.specs.declared.gathering.Known.{Known}
use Rattle.p10_expand.specs.Candidates.{candidates_of}
use Rattle.p10_expand.specs.Finding.{IsAbsent, IsFirst}
use Rattle.p10_expand.specs.Gathering.{Setting, Request, Root, Line, depth_of, sought_places, lines_of, no_known, known_at, IsAt, noted}
use Rattle.p10_expand.proofs.OnceAnswered.{old_or_last}
use Rattle.p10_expand.proofs.Linking.{target, IsHeld, noted_file, noted_keeps, noted_targets, noted_own}
use Rattle.p10_expand.proofs.Levels.{IsNoDeeper}
use Rattle.p10_expand.proofs.Roots.{known_grown}

-- ## The lines ahead

pub record IsLineOf (known : List Known) (from depth : ℕ) (include : Include) : Type 0 where
  pub held : from < length known
  pub deep : depth ≡ (known_at known from).depth + 1
  pub followed : (known_at known from).depth ≤ 64
  pub line : Contains (known_at known from).includes include

abbrev pub IsAsked : List Known → Request → Type 0
IsAsked known (Root name) = Unit {0}
IsAsked known (Line from depth include) = IsLineOf known from depth include

pub asked_begin : (roots : List (List ℕ)) → All (IsAsked []) (map Root roots)
asked_begin roots = All-map (IsAsked []) Root roots (λ k d below. tt)

pub known_last : (known : List Known) (k : Known) → known_at (known ++ k ∷ []) (length known) ≡ k
known_last known k = get_or-append_seam known k [] no_known

asked_grown : (known : List Known) (k : Known) (request : Request) → IsAsked known request → IsAsked (known ++ k ∷ []) request
asked_grown known k (Root name) asked = tt
asked_grown known k (Line from depth include) asked =
    let same = known_grown known k from asked.held in
    record {
      held = omega (arith, asked.held, length-append known (k ∷ []));
      deep = asked.deep ∙ ap (λ (x : Known). x.depth + 1) (sym same);
      followed = subst (λ (x : Known). x.depth ≤ 64) (sym same) asked.followed;
      line = subst (λ (x : Known). Contains x.includes include) (sym same) asked.line;
    }

new_line : (known : List Known) (k : Known) (include : Include) → k.depth ≤ 64 → Contains k.includes include → IsLineOf (known ++ k ∷ []) (length known) (k.depth + 1) include
new_line known k include few line =
    let same = known_last known k in
    record {
      held = omega (arith, length-append known (k ∷ []));
      deep = ap (λ (x : Known). x.depth + 1) (sym same);
      followed = subst (λ (x : Known). x.depth ≤ 64) (sym same) few;
      line = subst (λ (x : Known). Contains x.includes include) (sym same) line;
    }

new_lines : (known : List Known) (k : Known) (b : Bool) → nat_le k.depth 64 ≡ b → All (IsAsked (known ++ k ∷ [])) (cond b (map (Line (length known) (k.depth + 1)) k.includes) [])
new_lines known k true few =
    All-map (IsAsked (known ++ k ∷ [])) (Line (length known) (k.depth + 1)) k.includes
    (All-weaker (Contains k.includes) (λ include. IsLineOf (known ++ k ∷ []) (length known) (k.depth + 1) include) (λ include line. new_line known k include (leb-true k.depth 64 few) line)
    k.includes (All-contains_itself k.includes))
new_lines known k false few = All-nil (IsAsked (known ++ k ∷ []))

pub asked_more : (known : List Known) (ahead : List Request) (number : ℕ) (k : Known) → length known ≡ number → All (IsAsked known) ahead → All (IsAsked (known ++ k ∷ [])) (ahead ++ lines_of number k)
asked_more known ahead number k many asked =
    subst (λ n. All (IsAsked (known ++ k ∷ [])) (ahead ++ lines_of n k)) many
    (All-append (IsAsked (known ++ k ∷ [])) ahead (lines_of (length known) k) (All-weaker (IsAsked known) (IsAsked (known ++ k ∷ [])) (asked_grown known k) ahead asked) (new_lines known k (nat_le k.depth 64) refl))

pub asked_held : (known : List Known) (g : Gathered) (request : Request) → length known ≡ count_of g → IsAsked known request → IsHeld g request
asked_held known g (Root name) many asked = tt
asked_held known g (Line from depth include) many asked = omega (arith, many, asked.held)

-- ## Links

pub record Linked (s : Setting) (known : List Known) (g : Gathered) (from : ℕ) (include : Include) (number : ℕ) : Type 0 where
  pub line : IsLineOf known from ((known_at known from).depth + 1) include
  pub held : number < length known
  pub near : (known_at known number).depth ≤ (known_at known from).depth + 1
  pub first : IsFirst s.held (candidates_of s.dirs (name_of g from) include) (known_at known number).place

abbrev pub LinksStand : Setting → List Known → Gathered → Type 0
LinksStand s known g = (from : ℕ) (include : Include) (number : ℕ) → target g from include ≡ Some number → Linked s known g from include number

pub name_grown : (g : Gathered) (name text : List ℕ) (built_in : Bool) (words : List WordPlace) (number : ℕ) → number < count_of g → name_of (with_file g name text built_in words) number ≡ name_of g number
name_grown g name text built_in words number held = ap (λ (f : _). f.name) (get_or_append_left g.files ((record { name = name; text = text; built_in = built_in; words = words; links = [] }) ∷ []) no_file number held)

link_grown : (s : Setting) (known : List Known) (g : Gathered) (k : Known) (name text : List ℕ) (built_in : Bool) (words : List WordPlace) (from : ℕ) (include : Include) (number : ℕ) → length known ≡ count_of g → Linked s known g from include number →
    Linked s (known ++ k ∷ []) (with_file g name text built_in words) from include number
link_grown s known g k name text built_in words from include number many linked =
    let from_same = known_grown known k from linked.line.held in
    let same = known_grown known k number linked.held in
    let line = asked_grown known k (Line from ((known_at known from).depth + 1) include) linked.line in
    record {
      line = record { held = line.held; deep = refl; followed = line.followed; line = line.line };
      held = omega (arith, linked.held, length-append known (k ∷ []));
      near = subst (λ (x : Known). (known_at (known ++ k ∷ []) number).depth ≤ x.depth + 1) (sym from_same) (subst (λ (x : Known). x.depth ≤ (known_at known from).depth + 1) (sym same) linked.near);
      first = subst (λ n. IsFirst s.held (candidates_of s.dirs n include) (known_at (known ++ k ∷ []) number).place) (sym (name_grown g name text built_in words from (omega (arith, many, linked.line.held))))
          (subst (λ (x : Known). IsFirst s.held (candidates_of s.dirs (name_of g from) include) x.place) (sym same) linked.first);
    }

pub links_more : (s : Setting) (known : List Known) (g : Gathered) (k : Known) (name text : List ℕ) (built_in : Bool) (words : List WordPlace) → length known ≡ count_of g → LinksStand s known g → LinksStand s (known ++ k ∷ []) (with_file g name text built_in words)
links_more s known g k name text built_in words many links from include number some =
    link_grown s known g k name text built_in words from include number many (links from include number (sym (candidate_of-with_file g name text built_in words from include.name include.angle) ∙ some))

-- an include line that the request asked for is linked to the file that was found
line_linked : (s : Setting) (known : List Known) (g : Gathered) (place : Place) (from depth : ℕ) (include : Include) (number : ℕ) → IsLineOf known from depth include → All (IsNoDeeper depth) known →
    IsFirst s.held (candidates_of s.dirs (name_of g from) include) place → IsAt known place number → Linked s known g from include number
line_linked s known g place from depth include number line below first at = record {
  line = record { held = line.held; deep = refl; followed = line.followed; line = line.line };
  held = at.held;
  near = subst (λ d. (known_at known number).depth ≤ d) line.deep (below number no_known at.held);
  first = subst (λ p. IsFirst s.held (candidates_of s.dirs (name_of g from) include) p) (sym at.place_of) first;
}

pub links_noted : (s : Setting) (known : List Known) (g : Gathered) (request : Request) (place : Place) (number : ℕ) → length known ≡ count_of g → IsAsked known request → All (IsNoDeeper (depth_of request)) known →
    IsFirst s.held (sought_places s.dirs g request) place → IsAt known place number → LinksStand s known g → LinksStand s known (noted request number g)
links_noted s known g request place number many asked below first at links from include to some =
    let held = asked_held known g request many asked in
    let named : name_of (noted request number g) from ≡ name_of g from = (noted_file g request number held from).name in
    let there : Linked s known g from include to = elim (noted_targets g request number held from include to some) [
      | inl old ↦ links from include to old
      | inr (depth, is, found) ↦ subst (λ n. Linked s known g from include n) (sym found)
          (line_linked s known g place from depth include number (subst (λ r. IsAsked known r) is asked) (subst (λ r. All (IsNoDeeper (depth_of r)) known) is below)
          (subst (λ r. IsFirst s.held (sought_places s.dirs g r) place) is first) at)
    ] in
    record { line = there.line; held = there.held; near = there.near; first = subst (λ n. IsFirst s.held (candidates_of s.dirs n include) (known_at known to).place) (sym named) there.first }

-- ## The lines that aren't ahead

abbrev pub LinesStand : Setting → List Known → Gathered → List Request → Type 0
LinesStand s known g ahead =
    (from : ℕ) (include : Include) → from < length known → (known_at known from).depth ≤ 64 → Contains (known_at known from).includes include →
    Contains ahead (Line from ((known_at known from).depth + 1) include) ⊎ (target g from include ≡ None → All (IsAbsent s.held) (candidates_of s.dirs (name_of g from) include))

line_among : (number : ℕ) (k : Known) (include : Include) (b : Bool) → b ≡ true → Contains k.includes include → Contains (cond b (map (Line number (k.depth + 1)) k.includes) []) (Line number (k.depth + 1) include)
line_among number k include true on (i, within, is) =
    (i, omega (arith, within, length-map k.includes (Line number (k.depth + 1))), get_or-map (Line number (k.depth + 1)) k.includes i include (Line number (k.depth + 1) include) within ∙ ap (Line number (k.depth + 1)) is)
line_among number k include false off line = absurd cc

pub lines_more : (s : Setting) (known : List Known) (g : Gathered) (ahead : List Request) (number : ℕ) (k : Known) (name text : List ℕ) (built_in : Bool) (words : List WordPlace) → length known ≡ count_of g → length known ≡ number → LinesStand s known g ahead →
    LinesStand s (known ++ k ∷ []) (with_file g name text built_in words) (ahead ++ lines_of number k)
lines_more s known g ahead number k name text built_in words many last lines from include held few line =
    elim (old_or_last known k from held) [
      | inl old ↦
          let same = known_grown known k from old in
          elim (lines from include old (subst (λ (x : Known). x.depth ≤ 64) same few) (subst (λ (x : Known). Contains x.includes include) same line)) [
            | inl asked ↦ inl (Contains-append_left ahead (lines_of number k) _ (subst (λ (x : Known). Contains ahead (Line from (x.depth + 1) include)) (sym same) asked))
            | inr none ↦ inr (λ unlinked. subst (λ n. All (IsAbsent s.held) (candidates_of s.dirs n include)) (sym (name_grown g name text built_in words from (omega (arith, many, old))))
                (none (sym (candidate_of-with_file g name text built_in words from include.name include.angle) ∙ unlinked)))
          ]
      | inr new ↦
          let same : known_at (known ++ k ∷ []) from ≡ k = ap (λ n. known_at (known ++ k ∷ []) n) new ∙ known_last known k in
          let among : Contains (lines_of number k) (Line number (k.depth + 1) include) =
          line_among number k include (nat_le k.depth 64) (le-leb k.depth 64 (subst (λ (x : Known). x.depth ≤ 64) same few)) (subst (λ (x : Known). Contains x.includes include) same line) in
          inl (Contains-append_right ahead (lines_of number k) _ (subst (λ (x : Known). Contains (lines_of number k) (Line from (x.depth + 1) include)) (sym same)
          (subst (λ n. Contains (lines_of number k) (Line n (k.depth + 1) include)) (sym (new ∙ last)) among)))
    ]

first_or_rest : {A : Type 0} (x y : A) (xs : List A) → Contains (x ∷ xs) y → (x ≡ y) ⊎ Contains xs y
first_or_rest x y xs (zero, within, is) = inl is
first_or_rest x y xs (suc k, within, is) = inr (k, omega (arith, within), is)

same_line : (from other depth deep : ℕ) (include more : Include) → Line from depth include ≡ Line other deep more → (from ≡ other) × (include ≡ more)
same_line from other depth deep include more same = (cc, cc)

-- a line for which there is no file was answered
pub lines_passed : (s : Setting) (known : List Known) (g : Gathered) (rest : List Request) (from depth : ℕ) (include : Include) → All (IsAbsent s.held) (candidates_of s.dirs (name_of g from) include) →
    LinesStand s known g (Line from depth include ∷ rest) → LinesStand s known g rest
lines_passed s known g rest from depth include none lines f i held few line =
    elim (lines f i held few line) [
      | inr absent ↦ inr absent
      | inl asked ↦ elim (first_or_rest (Line from depth include) (Line f ((known_at known f).depth + 1) i) rest asked) [
        | inr later ↦ inl later
        | inl now ↦
            let same = same_line from f depth ((known_at known f).depth + 1) include i now in
            inr (λ unlinked. subst (λ n. All (IsAbsent s.held) (candidates_of s.dirs (name_of g n) i)) same.0 (subst (λ j. All (IsAbsent s.held) (candidates_of s.dirs (name_of g from) j)) same.1 none))
      ]
    ]

unlinked_before : (o p : Option ℕ) → ((to : ℕ) → o ≡ Some to → p ≡ Some to) → p ≡ None → o ≡ None
unlinked_before None p keeps none = refl
unlinked_before (Some to) p keeps none = let kept : p ≡ Some to = keeps to refl in absurd cc

linked_after : (g : Gathered) (request : Request) (from depth : ℕ) (include : Include) (number : ℕ) → from < count_of g → request ≡ Line from depth include → target (noted request number g) from include ≡ None → ⊥
linked_after g request from depth include number held is none =
    let (to, some, how) = noted_own g from depth include number held in
    let there : target (noted (Line from depth include) number g) from include ≡ None = subst (λ r. target (noted r number g) from include ≡ None) is none in
    absurd cc

-- a line for which there is a file was answered
pub lines_noted : (s : Setting) (known : List Known) (g : Gathered) (rest : List Request) (request : Request) (number : ℕ) → length known ≡ count_of g → IsAsked known request →
    LinesStand s known g (request ∷ rest) → LinesStand s known (noted request number g) rest
lines_noted s known g rest request number many asked lines f i held few line =
    let there = asked_held known g request many asked in
    elim (lines f i held few line) [
      | inr absent ↦ inr (λ unlinked. subst (λ n. All (IsAbsent s.held) (candidates_of s.dirs n i)) (sym (noted_file g request number there f).name)
          (absent (unlinked_before (target g f i) (target (noted request number g) f i) (λ to some. noted_keeps g request number there f i to some) unlinked)))
      | inl ahead ↦ elim (first_or_rest request (Line f ((known_at known f).depth + 1) i) rest ahead) [
        | inr later ↦ inl later
        | inl now ↦ inr (λ unlinked. absurd (linked_after g request f ((known_at known f).depth + 1) i number (omega (arith, many, held)) now unlinked))
      ]
    ]
