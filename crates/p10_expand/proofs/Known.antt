-- What is known of the gathered files, at each moment of gathering and at its end.
use Rattle.std.proofs.Common.{◌≡◌, ℕ, zero, suc, ◌+◌, ◌<◌, ◌≤◌, Bool, true, false, cond, List, [], ◌∷◌, ◌++◌, length, map, drop, get_or, Option, Some, None, refl, ap, sym, ◌∙◌, subst, inl, inr, arith, length-append}
use Rattle.std.specs.Prelude.{All, Contains, IsSome, nat_le}
use Rattle.std.proofs.lemmas.List.{length-drop, length-map, get_or_default}
use Rattle.std.proofs.lemmas.List.Elements.{All-nil, All-head, All-rest, All-map, Contains-push, Contains-get_or}
use Rattle.p10_base.specs.declared.word.WordPlace.{WordPlace}
use Rattle.p10_base.specs.Gathered.{Gathered, count_of, file_of, name_of, root_of, with_file}
use Rattle.p10_base.proofs.Gathering.{candidate_of-with_file}
use Rattle.p10_expand.specs.declared.place.Include.{Include}
use Rattle.p10_expand.specs.declared.place.Place.{Place}
use Rattle.p10_expand.specs.declared.gathering.Known.{Known}
use Rattle.p10_expand.specs.Candidates.{candidates_of}
use Rattle.p10_expand.specs.Finding.{name_at, is_header_place, HasText, IsAbsent, IsFirst}
use Rattle.p10_expand.specs.Includes.{HasIncludes}
use Rattle.p10_expand.specs.Gathering.{Setting, Request, Root, Line, Moment, depth_of, sought_places, lines_of, no_known, known_at, IsAt, IsNew, noted, found, Answered, Reached, Gathers}
use Rattle.p10_expand.specs.Gathered.{RootsAreNamed, AreGathered, IsLink, IsLed, EndsChain, FilesAreKnown}
use Rattle.p10_expand.proofs.OncePlaces.{first_once}
use Rattle.p10_expand.proofs.OnceAnswered.{AreDistinct, distinct, old_or_last}
use Rattle.p10_expand.proofs.Standing.{gathered_more, gathered_same}
use Rattle.p10_expand.proofs.Linking.{target, IsHeld, either_linked, noted_keeps, noted_own, noted_count, noted_file, noted_roots, chain_keeps}
use Rattle.p10_expand.proofs.Levels.{IsNoDeeper, AreLevels, levels_begin, levels_rest, levels_more}
use Rattle.p10_expand.proofs.Roots.{IsLine, IsRoot, RootsStand, roots_begin, known_grown, roots_more, roots_line, root_place, roots_root}
use Rattle.p10_expand.proofs.Asking.{IsAsked, IsLineOf, asked_begin, known_last, asked_more, asked_held, Linked, LinksStand, name_grown, links_more, links_noted, LinesStand, lines_more, lines_passed, lines_noted}

-- ## Each moment

-- what holds where these files are known and gathered, and these requests are ahead
record Holds (s : Setting) (known : List Known) (g : Gathered) (ahead : List Request) : Type 0 where
  many : length known ≡ count_of g
  gathered : AreGathered s.held known g
  asked : All (IsAsked known) ahead
  depth : ℕ
  levels : AreLevels known ahead depth
  roots : RootsStand s.roots known g.roots ahead
  links : LinksStand s known g
  lines : LinesStand s known g ahead

abbrev HoldsAt : Setting → Moment → Type 0
HoldsAt s m = Holds s m.known m.sources m.ahead

no_target : (from : ℕ) (include : Include) (number : ℕ) → target (record { files = []; roots = [] }) from include ≡ Some number → ⊥
no_target from include number some = cc

begins : (s : Setting) → Holds s [] (record { files = []; roots = [] }) (map Root s.roots)
begins s = record {
  many = refl;
  gathered = λ number below. absurd (omega (arith, below));
  asked = asked_begin s.roots;
  depth = 0;
  levels = levels_begin s.roots;
  roots = roots_begin s.roots;
  links = λ from include number some. absurd (no_target from include number some);
  lines = λ from include held few line. absurd (omega (arith, held));
}

-- there is a file at none of a line's places
passes : (s : Setting) (known : List Known) (g : Gathered) (rest : List Request) (from depth : ℕ) (include : Include) → All (IsAbsent s.held) (candidates_of s.dirs (name_of g from) include) →
    Holds s known g (Line from depth include ∷ rest) → Holds s known g rest
passes s known g rest from depth include none holds = record {
  many = holds.many;
  gathered = holds.gathered;
  asked = All-rest (IsAsked known) (Line from depth include) rest (Line from depth include ∷ rest) refl holds.asked;
  depth = depth;
  levels = levels_rest known (Line from depth include ∷ rest) rest (Line from depth include) holds.depth refl holds.levels;
  roots = roots_line s.roots known g.roots rest from depth include holds.roots;
  links = holds.links;
  lines = lines_passed s known g rest from depth include none holds.lines;
}

line_roots : (from depth : ℕ) (include : Include) (number : ℕ) (g : Gathered) → (noted (Line from depth include) number g).roots ≡ g.roots
line_roots from depth include number g = either_linked (λ h. h.roots ≡ g.roots) from include number g (λ other is. refl) (λ none. refl)

roots_noted : (s : Setting) (known : List Known) (g : Gathered) (rest : List Request) (request : Request) (place : Place) (number : ℕ) → All (IsNoDeeper (depth_of request)) known →
    IsFirst s.held (sought_places s.dirs g request) place → IsAt known place number → RootsStand s.roots known g.roots (request ∷ rest) → RootsStand s.roots known (noted request number g).roots rest
roots_noted s known g rest (Root name) place number below first at roots =
    let deep = below number no_known at.held in
    roots_root s.roots known g.roots rest name number roots (record { at = subst (λ p. IsAt known p number) (root_place s.held name place first) at; depth = omega (arith, deep) })
roots_noted s known g rest (Line from depth include) place number below first at roots =
    subst (λ rs. RootsStand s.roots known rs rest) (sym (line_roots from depth include number g)) (roots_line s.roots known g.roots rest from depth include roots)

gathered_noted : (s : Setting) (known : List Known) (g : Gathered) (request : Request) (number : ℕ) → IsHeld g request → AreGathered s.held known g → AreGathered s.held known (noted request number g)
gathered_noted s known g request number held gathered n below =
    let same = noted_file g request number held n in
    gathered_same s.held n (known_at known n) (file_of g n) (file_of (noted request number g) n) same (gathered n (omega (arith, below, noted_count g request number)))

-- the next request stands for a file that is there
meets : (s : Setting) (known : List Known) (g : Gathered) (rest : List Request) (request : Request) (place : Place) (number : ℕ) → IsFirst s.held (sought_places s.dirs g request) place → IsAt known place number →
    Holds s known g (request ∷ rest) → Holds s known (noted request number g) rest
meets s known g rest request place number first at holds =
    let asked : IsAsked known request = All-head (IsAsked known) request rest holds.asked in
    let levels = levels_rest known (request ∷ rest) rest request holds.depth refl holds.levels in
    record {
      many = holds.many ∙ sym (noted_count g request number);
      gathered = gathered_noted s known g request number (asked_held known g request holds.many asked) holds.gathered;
      asked = All-rest (IsAsked known) request rest (request ∷ rest) refl holds.asked;
      depth = depth_of request;
      levels = levels;
      roots = roots_noted s known g rest request place number levels.below first at holds.roots;
      links = links_noted s known g request place number holds.many asked levels.below first at holds.links;
      lines = lines_noted s known g rest request number holds.many asked holds.lines;
    }

are_lines : (number : ℕ) (k : Known) (b : Bool) → All IsLine (cond b (map (Line number (k.depth + 1)) k.includes) [])
are_lines number k true = All-map IsLine (Line number (k.depth + 1)) k.includes (λ i d below. tt)
are_lines number k false = All-nil IsLine

gathered_put : (s : Setting) (known : List Known) (g : Gathered) (k : Known) (text : List ℕ) (words : List WordPlace) → length known ≡ count_of g → HasText s.held k.place text → HasIncludes (count_of g) text words k.includes →
    AreGathered s.held known g → AreGathered s.held (known ++ k ∷ []) (with_file g (name_at k.place) text (is_header_place k.place) words)
gathered_put s known g k text words many text_is lexed gathered =
    gathered_more s.held known g.files k (record { name = name_at k.place; text = text; built_in = is_header_place k.place; words = words; links = [] }) many gathered (record { named = refl; text = text_is; marked = refl; lexed = lexed })

-- a file that the next request finds is put after the others
puts : (s : Setting) (known : List Known) (g : Gathered) (rest : List Request) (request : Request) (k : Known) (text : List ℕ) (words : List WordPlace) → k.depth ≡ depth_of request → HasText s.held k.place text → HasIncludes (count_of g) text words k.includes →
    Holds s known g (request ∷ rest) → Holds s (known ++ k ∷ []) (with_file g (name_at k.place) text (is_header_place k.place) words) (request ∷ (rest ++ lines_of (count_of g) k))
puts s known g rest request k text words deep text_is lexed holds = record {
  many = length-append known (k ∷ []) ∙ (ap (λ n. n + 1) holds.many ∙ sym (length-append g.files ((record { name = name_at k.place; text = text; built_in = is_header_place k.place; words = words; links = [] }) ∷ [])));
  gathered = gathered_put s known g k text words holds.many text_is lexed holds.gathered;
  asked = asked_more known (request ∷ rest) (count_of g) k holds.many holds.asked;
  depth = depth_of request;
  levels = levels_more known rest request (count_of g) k deep (levels_rest known (request ∷ rest) rest request holds.depth refl holds.levels);
  roots = roots_more s.roots known g.roots (request ∷ rest) (lines_of (count_of g) k) k (are_lines (count_of g) k (nat_le k.depth 64)) holds.roots;
  links = links_more s known g k (name_at k.place) text (is_header_place k.place) words holds.many holds.links;
  lines = lines_more s known g (request ∷ rest) (count_of g) k (name_at k.place) text (is_header_place k.place) words holds.many holds.many holds.lines;
}

-- the places of a request are the same when a file was put after the others
places_grown : (dirs : List (List ℕ)) (known : List Known) (g : Gathered) (request : Request) (name text : List ℕ) (built_in : Bool) (words : List WordPlace) → length known ≡ count_of g → IsAsked known request → sought_places dirs (with_file g name text built_in words) request ≡ sought_places dirs g request
places_grown dirs known g (Root name) other text built_in words many asked = refl
places_grown dirs known g (Line from depth include) other text built_in words many asked = ap (λ n. candidates_of dirs n include) (name_grown g other text built_in words from (omega (arith, many, asked.held)))

last_at : (known : List Known) (k : Known) (number : ℕ) → length known ≡ number → IsAt (known ++ k ∷ []) k.place number
last_at known k number many = record {
  held = omega (arith, many, length-append known (k ∷ []));
  place_of = ap (λ n. (known_at (known ++ k ∷ []) n).place) (sym many) ∙ ap (λ (x : Known). x.place) (known_last known k);
}

-- the next request stands for a file that is gathered now
adds : (s : Setting) (known : List Known) (g : Gathered) (rest : List Request) (request : Request) (k : Known) (text : List ℕ) (words : List WordPlace) → k.depth ≡ depth_of request → IsFirst s.held (sought_places s.dirs g request) k.place →
    HasText s.held k.place text → HasIncludes (count_of g) text words k.includes → Holds s known g (request ∷ rest) →
    Holds s (known ++ k ∷ []) (noted request (count_of g) (with_file g (name_at k.place) text (is_header_place k.place) words)) (rest ++ lines_of (count_of g) k)
adds s known g rest request k text words deep first text_is lexed holds =
    let asked : IsAsked known request = All-head (IsAsked known) request rest holds.asked in
    meets s (known ++ k ∷ []) (with_file g (name_at k.place) text (is_header_place k.place) words) (rest ++ lines_of (count_of g) k) request k.place (count_of g)
    (subst (λ ps. IsFirst s.held ps k.place) (sym (places_grown s.dirs known g request (name_at k.place) text (is_header_place k.place) words holds.many asked)) first) (last_at known k (count_of g) holds.many)
    (puts s known g rest request k text words deep text_is lexed holds)

at_ahead : (s : Setting) (m : Moment) (ahead : List Request) → m.ahead ≡ ahead → HoldsAt s m → Holds s m.known m.sources ahead
at_ahead s m ahead is holds = subst (λ rs. Holds s m.known m.sources rs) is holds

holds_after : (s : Setting) (before after : Moment) → HoldsAt s before → Answered s before after → HoldsAt s after
holds_after s before after holds (inl is) =
    subst (λ m. HoldsAt s m) (sym is.becomes) (passes s before.known before.sources is.rest is.from is.depth is.include is.none (at_ahead s before (Line is.from is.depth is.include ∷ is.rest) is.asked holds))
holds_after s before after holds (inr (inl is)) =
    subst (λ m. HoldsAt s m) (sym is.becomes) (meets s before.known before.sources is.rest is.request is.place is.number is.finds.first is.at (at_ahead s before (is.request ∷ is.rest) is.finds.asked holds))
holds_after s before after holds (inr (inr is)) =
    subst (λ m. HoldsAt s m) (sym is.becomes)
    (adds s before.known before.sources is.rest is.request (found is.request is.place is.includes) is.text is.words refl is.finds.first is.text_is is.lexed (at_ahead s before (is.request ∷ is.rest) is.finds.asked holds))

holds : (s : Setting) (answered : ℕ) (m : Moment) → Reached s answered m → HoldsAt s m
holds s zero m is = subst (λ x. HoldsAt s x) (sym is) (begins s)
holds s (suc answered) m (before, reached, answers) = holds_after s before m (holds s answered before reached) answers

-- ## Chains

abbrev HaveChains : List Known → Gathered → Type 0
HaveChains known g = (number : ℕ) → number < length known → ((known_at known number).depth ≤ 65) × EndsChain g (known_at known number).depth number

chains_noted : (known : List Known) (g : Gathered) (request : Request) (number : ℕ) → IsHeld g request → HaveChains known g → HaveChains known (noted request number g)
chains_noted known g request number held chains n below =
    ((chains n below).0, chain_keeps g (noted request number g) (noted_roots g request number) (noted_keeps g request number held) (known_at known n).depth n (chains n below).1)

-- the target of a line for which a new file is found is that file, where files are told
new_target : (s : Setting) (known : List Known) (g : Gathered) (from depth : ℕ) (include : Include) (place : Place) (text : List ℕ) (words : List WordPlace) → IsSome s.held → length known ≡ count_of g → LinksStand s known g →
    IsLineOf known from depth include → IsFirst s.held (candidates_of s.dirs (name_of g from) include) place → IsNew known place →
    target (noted (Line from depth include) (count_of g) (with_file g (name_at place) text (is_header_place place) words)) from include ≡ Some (count_of g)
new_target s known g from depth include place text words told many links asked first new =
    let h = with_file g (name_at place) text (is_header_place place) words in
    let within : from < count_of h = omega (arith, many, asked.held, length-append g.files ((record { name = name_at place; text = text; built_in = is_header_place place; words = words; links = [] }) ∷ [])) in
    let (to, some, how) = noted_own h from depth include (count_of g) within in
    elim how [
      | inr last ↦ subst (λ n. target (noted (Line from depth include) (count_of g) h) from include ≡ Some n) last some
      | inl old ↦
          let link = links from include to (sym (candidate_of-with_file g (name_at place) text (is_header_place place) words from include.name include.angle) ∙ old) in
          let same = first_once s.held _ _ place (known_at known to).place told refl first link.first in
          absurd (new to (record { held = link.held; place_of = sym same }))
    ]

new_chain : (s : Setting) (known : List Known) (g : Gathered) (request : Request) (place : Place) (text : List ℕ) (words : List WordPlace) → IsSome s.held → length known ≡ count_of g → LinksStand s known g → IsAsked known request →
    IsFirst s.held (sought_places s.dirs g request) place → IsNew known place → HaveChains known g →
    (depth_of request ≤ 65) × EndsChain (noted request (count_of g) (with_file g (name_at place) text (is_header_place place) words)) (depth_of request) (count_of g)
new_chain s known g (Root name) place text words told many links asked first new chains = (omega arith, Contains-push g.roots (count_of g))
new_chain s known g (Line from depth include) place text words told many links asked first new chains =
    let h = with_file g (name_at place) text (is_header_place place) words in
    let after = noted (Line from depth include) (count_of g) h in
    let within : from < count_of h = omega (arith, many, asked.held, length-append g.files ((record { name = name_at place; text = text; built_in = is_header_place place; words = words; links = [] }) ∷ [])) in
    let keeps : (f : ℕ) (i : Include) (to : ℕ) → target g f i ≡ Some to → target after f i ≡ Some to =
    λ f i to some. noted_keeps h (Line from depth include) (count_of g) within f i to (candidate_of-with_file g (name_at place) text (is_header_place place) words f i.name i.angle ∙ some) in
    let to_from : EndsChain after (known_at known from).depth from =
    chain_keeps g after (noted_roots h (Line from depth include) (count_of g)) keeps (known_at known from).depth from (chains from asked.held).1 in
    let deep : suc (known_at known from).depth ≡ depth = omega (arith, asked.deep) in (
      omega (arith, asked.deep, asked.followed),
      subst (λ n. EndsChain after n (count_of g)) deep (from, include, to_from, new_target s known g from depth include place text words told many links asked first new),
    )

chains_added : (s : Setting) (known : List Known) (g : Gathered) (request : Request) (place : Place) (text : List ℕ) (words : List WordPlace) (includes : List Include) → IsSome s.held → length known ≡ count_of g → LinksStand s known g → IsAsked known request →
    IsFirst s.held (sought_places s.dirs g request) place → IsNew known place → HaveChains known g →
    HaveChains (known ++ found request place includes ∷ []) (noted request (count_of g) (with_file g (name_at place) text (is_header_place place) words))
chains_added s known g request place text words includes told many links asked first new chains n below =
    let k = found request place includes in
    let h = with_file g (name_at place) text (is_header_place place) words in
    let after = noted request (count_of g) h in
    elim (old_or_last known k n below) [
      | inl old ↦
          let held : IsHeld h request = held_grown g request (name_at place) text (is_header_place place) words (asked_held known g request many asked) in
          let chain = chains n old in
          subst (λ (x : Known). (x.depth ≤ 65) × EndsChain after x.depth n) (sym (known_grown known k n old)) (
            chain.0,
            chain_keeps g after (noted_roots h request (count_of g))
                (λ f i to some. noted_keeps h request (count_of g) held f i to (candidate_of-with_file g (name_at place) text (is_header_place place) words f i.name i.angle ∙ some)) (known_at known n).depth n chain.1,
          )
      | inr last ↦
          let same : known_at (known ++ k ∷ []) n ≡ k = ap (λ i. known_at (known ++ k ∷ []) i) last ∙ known_last known k in
          subst (λ (x : Known). (x.depth ≤ 65) × EndsChain after x.depth n) (sym same)
          (subst (λ i. (k.depth ≤ 65) × EndsChain after k.depth i) (sym (last ∙ many)) (new_chain s known g request place text words told many links asked first new chains))
    ]
  where
    held_grown : (g : Gathered) (request : Request) (name text : List ℕ) (built_in : Bool) (words : List WordPlace) → IsHeld g request → IsHeld (with_file g name text built_in words) request
    held_grown g (Root name) other text built_in words held = tt
    held_grown g (Line from depth include) other text built_in words held = omega (arith, held, length-append g.files ((record { name = other; text = text; built_in = built_in; words = words; links = [] }) ∷ []))

abbrev HaveChainsAt : Moment → Type 0
HaveChainsAt m = HaveChains m.known m.sources

next_asked : (s : Setting) (m : Moment) (request : Request) (rest : List Request) → m.ahead ≡ request ∷ rest → HoldsAt s m → IsAsked m.known request
next_asked s m request rest asked holds = All-head (IsAsked m.known) request rest (at_ahead s m (request ∷ rest) asked holds).asked

chains_after : (s : Setting) (before after : Moment) → IsSome s.held → HoldsAt s before → HaveChainsAt before → Answered s before after → HaveChainsAt after
chains_after s before after told holds chains (inl is) = subst (λ m. HaveChainsAt m) (sym is.becomes) chains
chains_after s before after told holds chains (inr (inl is)) =
    subst (λ m. HaveChainsAt m) (sym is.becomes)
    (chains_noted before.known before.sources is.request is.number (asked_held before.known before.sources is.request holds.many (next_asked s before is.request is.rest is.finds.asked holds)) chains)
chains_after s before after told holds chains (inr (inr is)) =
    subst (λ m. HaveChainsAt m) (sym is.becomes)
    (chains_added s before.known before.sources is.request is.place is.text is.words is.includes told holds.many holds.links (next_asked s before is.request is.rest is.finds.asked holds) is.finds.first is.new chains)

chains : (s : Setting) (answered : ℕ) (m : Moment) → IsSome s.held → Reached s answered m → HaveChainsAt m
chains s zero m told is = subst (λ x. HaveChainsAt x) (sym is) (λ number below. absurd (omega (arith, below)))
chains s (suc answered) m told (before, reached, answers) = chains_after s before m told (holds s answered before reached) (chains s answered before told reached) answers

-- ## The end

record Ended (s : Setting) (g : Gathered) : Type 0 where
  known : List Known
  held : Holds s known g []
  apart : AreDistinct known
  chained : IsSome s.held → HaveChains known g

ended : (s : Setting) (g : Gathered) → Gathers s g → Ended s g
ended s g is =
    let m = is.last in
    record {
      known = m.known;
      held = subst (λ x. Holds s m.known x []) (sym is.sources) (at_ahead s m [] is.done (holds s is.answered m is.reached));
      apart = distinct s is.answered m is.reached;
      chained = λ told. subst (λ x. HaveChains m.known x) (sym is.sources) (chains s is.answered m told is.reached);
    }

all_roots : (roots : List (List ℕ)) (known : List Known) (numbers : List ℕ) → RootsStand roots known numbers [] → length numbers ≡ length roots
all_roots roots known numbers stand =
    omega (arith, ap length stand.parts, length-append (map Root (drop (length numbers) roots)) stand.behind, length-map (drop (length numbers) roots) Root, length-drop (length numbers) roots, stand.few)

root_at : (s : Setting) (g : Gathered) (known : List Known) (held : Holds s known g []) (place : ℕ) → place < length s.roots → IsRoot known (get_or s.roots place []) (root_of g place)
root_at s g known held place below = held.roots.named place (omega (arith, below, all_roots s.roots known g.roots held.roots))

-- there is a root for each name
pub roots_are_named : RootsAreNamed
roots_are_named s g is =
    let e = ended s g is in
    record {
      many = all_roots s.roots e.known g.roots e.held.roots;
      named = λ place below. (let root = root_at s g e.known e.held place below in
          (e.held.gathered (root_of g place) (omega (arith, e.held.many, root.at.held))).named ∙ ap name_at root.at.place_of);
    }

link_of : (s : Setting) (g : Gathered) (known : List Known) (from : ℕ) (include : Include) (number : ℕ) → length known ≡ count_of g → Linked s known g from include number → IsLink s g known from include number
link_of s g known from include number many is = record {
  from_held = omega (arith, many, is.line.held);
  held = omega (arith, many, is.held);
  line = is.line.line;
  followed = is.line.followed;
  first = is.first;
}

no_request : (request : Request) → Contains [] request → ⊥
no_request request (k, within, is) = omega (arith, within)

led : (s : Setting) (g : Gathered) (known : List Known) (held : Holds s known g []) (from : ℕ) (include : Include) (o : Option ℕ) → target g from include ≡ o →
    (target g from include ≡ None → All (IsAbsent s.held) (candidates_of s.dirs (name_of g from) include)) → IsLed s g known from include o
led s g known held from include None is none = none is
led s g known held from include (Some number) is none = link_of s g known from include number held.many (held.links from include number is)

lines_led : (s : Setting) (g : Gathered) (known : List Known) → Holds s known g [] → (from : ℕ) → from < count_of g → (known_at known from).depth ≤ 64 →
    All (λ include. IsLed s g known from include (target g from include)) (known_at known from).includes
lines_led s g known held from within few k d below =
    let include = get_or (known_at known from).includes k d in
    elim (held.lines from include (omega (arith, within, held.many)) few (Contains-get_or (known_at known from).includes k d below)) [
      | inl asked ↦ absurd (no_request _ asked)
      | inr none ↦ led s g known held from include (target g from include) refl none
    ]

apart : (known : List Known) (number other : ℕ) → AreDistinct known → number < length known → other < length known → (known_at known number).place ≡ (known_at known other).place → number ≡ other
apart known number other distinct held there same = distinct (known_at known number).place number other (record { held = held; place_of = refl }) (record { held = there; place_of = sym same })

root_number : (s : Setting) (g : Gathered) (known : List Known) → Holds s known g [] → (number : ℕ) → Contains g.roots number → (known_at known number).depth ≡ 0
root_number s g known held number (k, within, is) =
    subst (λ n. (known_at known n).depth ≡ 0) (get_or_default g.roots k 0 number within ∙ is) (held.roots.named k within).depth

shortest : (s : Setting) (g : Gathered) (known : List Known) → Holds s known g [] → (number n : ℕ) → EndsChain g n number → (known_at known number).depth ≤ n
shortest s g known held number zero root = omega (arith, root_number s g known held number root)
shortest s g known held number (suc n) (from, include, chain, link) =
    omega (arith, (held.links from include number link).near, shortest s g known held from n chain)

-- what is known of the files
pub files_are_known : FilesAreKnown
files_are_known s told g is =
    let e = ended s g is in
    let count = e.held.many in (
      e.known,
      record {
        many = count;
        gathered = e.held.gathered;
        apart = λ number other below there same. apart e.known number other e.apart (omega (arith, below, count)) (omega (arith, there, count)) same;
        roots = λ place below. (root_at s g e.known e.held place below).at;
        links = λ from include number some. link_of s g e.known from include number count (e.held.links from include number some);
        lines = lines_led s g e.known e.held;
        chain = λ number below. e.chained told number (omega (arith, below, count));
        shortest = shortest s g e.known e.held;
      },
    )
