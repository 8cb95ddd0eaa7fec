-- The code's steps are those of the definition.
use Rattle.std.proofs.Common.{◌≡◌, ℕ, suc, ◌+◌, ◌<◌, ◌≤◌, Bool, true, false, cond, List, [], ◌∷◌, ◌++◌, length, map, drop, get_or, Option, Some, None, refl, ap, sym, ◌∙◌, subst, inl, inr, arith}
use Rattle.std.specs.Prelude.{All, nat_le}
use Rattle.std.proofs.lemmas.List.{append-nil, append_assoc, drop_more, drop-map, drop-append-le, length-drop, get_or_append_left, length-append, length-map, get_or-map}
use Rattle.std.proofs.Math.Seq.{drop-length, drop-append_seam}
use Rattle.std.proofs.Math.ListN.{drop_of_length-le}
use Rattle.std.proofs.lemmas.Bool.{le-leb, leb-true}
use Rattle.p10_base.specs.Gathered.{Gathered, count_of, root_count, name_of, with_file}
use Rattle.p10_world.specs.Files.{Named, Lacks}
use Rattle.p10_expand.specs.declared.place.Include.{Include}
use Rattle.p10_expand.specs.declared.place.Place.{Place}
use Rattle.p10_expand.specs.declared.place.Place.TheVariants.{File}
use Rattle.p10_expand.specs.declared.gathering.Known.{Known}
use Rattle.p10_expand.specs.declared.gathering.Gathering.{Gathering}
use Rattle.p10_expand.specs.declared.fault.GatherFault.{GatherFault}
use Rattle.p10_expand.specs.declared.fault.GatherFault.TheVariants as gathering
use Rattle.p10_expand.specs.declared.fault.Trouble.{Trouble}
use Rattle.p10_expand.specs.declared.fault.Trouble.TheVariants.{Read, Refused, Over, Memory}
use Rattle.p10_expand.specs.Candidates.{candidates_of}
use Rattle.p10_expand.specs.Finding.{name_at, is_header_place, IsAbsent, IsFirst}
use Rattle.p10_expand.specs.Includes.{HasIncludes, no_include}
use Rattle.p10_expand.specs.Gathering.{Setting, Request, Root, Line, Moment, depth_of, sought_places, lines_of, no_known, known_at, IsNew, linked, noted, Finds, Answered, Reached, Gathers, FailsBy, IsFault, HaveWords}
use Rattle.p10_expand.specs.private.Standing.{Stands, Keeps, Grows, Links, IsLocated, FindsFirst, Fails, FailsFirst, moment, lines_from, new_lines, Steps, StopsAt, Stops, Comes, ComesTo, Follows, StopsFollowing, fault_with}
use Rattle.p10_expand.specs.Setting.{setting}
use Rattle.p10_expand.proofs.Standing.{links_stands}

-- ## Moments

moments : (a b : List Known) (g h : Gathered) (q r : List Request) → a ≡ b → g ≡ h → q ≡ r →
    ◌≡◌ {A = Moment} (record { known = a; sources = g; ahead = q }) (record { known = b; sources = h; ahead = r })
moments a b g h q r known sources ahead = λ i. record { known = known i; sources = sources i; ahead = ahead i }

none_new : (old new : Gathering) → new.known.items ≡ old.known.items → new_lines old new ≡ []
none_new old new same =
    ap (λ ks. lines_from (length old.known.items) (drop (length old.known.items) ks)) same
    ∙ ap (λ ks. lines_from (length old.known.items) ks) (drop-length old.known.items)

one_new : (old new : Gathering) (k : Known) → new.known.items ≡ old.known.items ++ k ∷ [] → new_lines old new ≡ lines_of (length old.known.items) k
one_new old new k same =
    ap (λ ks. lines_from (length old.known.items) (drop (length old.known.items) ks)) same
    ∙ ap (λ ks. lines_from (length old.known.items) ks) (drop-append_seam old.known.items (k ∷ []))
    ∙ append-nil (lines_of (length old.known.items) k)

nothing_more : (old new : Gathering) (rest : List Request) → new.known.items ≡ old.known.items → rest ++ new_lines old new ≡ rest
nothing_more old new rest same = ap (λ ls. rest ++ ls) (none_new old new same) ∙ append-nil rest

-- ## One request

pub located_steps : (held : Option (List Named)) (dirs : List (List ℕ)) (old mid new : Gathering) (request : Request) (depth : ℕ) (place : Place) (number : ℕ) →
    length old.known.items ≡ count_of old.sources → depth ≡ depth_of request → IsFirst held (sought_places dirs old.sources request) place →
    IsLocated held old mid place depth number → new.sources ≡ noted request number mid.sources → new.known.items ≡ mid.known.items → Steps held dirs old new request
located_steps held dirs old mid new request depth place number many deep first located sources known roots rest =
    let finds : Finds (setting held roots dirs) (moment old (request ∷ rest)) request rest place = record { asked = refl; first = first } in
    elim located.how [
      | inl met ↦ inr (inl (record {
        request = request;
        rest = rest;
        place = place;
        number = number;
        finds = finds;
        at = met.0;
        becomes = moments _ _ _ _ _ _ (known ∙ met.1.known) (sources ∙ ap (λ g. noted request number g) met.1.sources) (nothing_more old new rest (known ∙ met.1.known));
      }))
      | inr fresh ↦
          let text = fresh.0 in
          let adds = fresh.2 in
          let k : ℕ → Known = λ d. record { place = place; depth = d; includes = adds.includes } in
          inr (inr (record {
            request = request;
            rest = rest;
            place = place;
            text = text;
            words = adds.words;
            includes = adds.includes;
            finds = finds;
            new = fresh.1.new;
            room = fresh.1.room;
            text_is = fresh.1.text_is;
            lexed = subst (λ n. HasIncludes n text adds.words adds.includes) adds.next adds.lexed;
            becomes = moments _ _ _ _ _ _
                (known ∙ (adds.known ∙ ap (λ d. old.known.items ++ k d ∷ []) deep))
                (sources ∙ (ap (λ g. noted request number g) adds.sources ∙ ap (λ n. noted request n (with_file old.sources (name_at place) text (is_header_place place) adds.words)) adds.next))
                (ap (λ ls. rest ++ ls) (one_new old new (k depth) (known ∙ adds.known) ∙ (ap (λ n. lines_of n (k depth)) many ∙ ap (λ d. lines_of (count_of old.sources) (k d)) deep)));
          }))
    ]

pub passed_steps : (held : Option (List Named)) (dirs : List (List ℕ)) (old new : Gathering) (from depth : ℕ) (include : Include) →
    All (IsAbsent held) (candidates_of dirs (name_of old.sources from) include) → Keeps old new → Steps held dirs old new (Line from depth include)
passed_steps held dirs old new from depth include none keeps roots rest = inl (record {
  from = from;
  depth = depth;
  include = include;
  rest = rest;
  asked = refl;
  none = none;
  becomes = moments _ _ _ _ _ _ keeps.known keeps.sources (nothing_more old new rest keeps.known);
})

fails_stop : (held : Option (List Named)) (dirs : List (List ℕ)) (old new : Gathering) (request : Request) (place : Place) (trouble : Trouble) →
    IsFirst held (sought_places dirs old.sources request) place → Fails held old new place trouble → Stops held dirs old new request trouble
fails_stop held dirs old new request place (Refused refusal) first (text, fresh, fails) roots rest = record {
  place = place;
  text = text;
  next = record { request = request; rest = rest; finds = record { asked = refl; first = first }; new = fresh.new; room = fresh.room; text_is = fresh.text_is };
  refused = fails.0;
  sources = fails.1;
}
fails_stop held dirs old new request place (Over limit) first (inl (text, fresh, fails)) roots rest = inl (record {
  place = place;
  text = text;
  next = record { request = request; rest = rest; finds = record { asked = refl; first = first }; new = fresh.new; room = fresh.room; text_is = fresh.text_is };
  over = fails;
})
fails_stop held dirs old new request place (Over limit) first (inr (limit_is, full)) roots rest = inr (record {
  request = request;
  rest = rest;
  name = full.name;
  finds = record { asked = refl; first = subst (λ p. IsFirst held (sought_places dirs old.sources request) p) full.place_is first };
  new = subst (λ p. IsNew old.known.items p) full.place_is full.new;
  full = full.full;
  limit_is = limit_is;
})
fails_stop held dirs old new request place Read first fails roots rest = tt
fails_stop held dirs old new request place Memory first fails roots rest = tt

pub first_stops : (held : Option (List Named)) (dirs : List (List ℕ)) (old new : Gathering) (request : Request) (places : List Place) (trouble : Trouble) →
    places ≡ sought_places dirs old.sources request → FailsFirst held old new places trouble → Stops held dirs old new request trouble
first_stops held dirs old new request places (Refused refusal) are (place, first, fails) =
    fails_stop held dirs old new request place (Refused refusal) (subst (λ ps. IsFirst held ps place) are first) fails
first_stops held dirs old new request places (Over limit) are (place, first, fails) =
    fails_stop held dirs old new request place (Over limit) (subst (λ ps. IsFirst held ps place) are first) fails
first_stops held dirs old new request places Read are fails = λ roots rest. tt
first_stops held dirs old new request places Memory are fails = λ roots rest. tt

-- ## The requests ahead

lines_append : (number : ℕ) (first second : List Known) → lines_from number (first ++ second) ≡ lines_from number first ++ lines_from (number + length first) second
lines_append number [] second = ap (λ n. lines_from n second) (omega arith)
lines_append number (k ∷ first) second =
    ap (λ ls. lines_of number k ++ ls) (lines_append (number + 1) first second)
    ∙ (sym (append_assoc (lines_of number k) (lines_from (number + 1) first) (lines_from (number + 1 + length first) second))
    ∙ ap (λ n. lines_of number k ++ lines_from (number + 1) first ++ lines_from n second) (omega arith))

-- the include lines of all files from one on, where files were added after the others
grow_lines : (known behind : List Known) (file : ℕ) → file ≤ length known →
    lines_from file (drop file known) ++ lines_from (length known) (drop (length known) (known ++ behind)) ≡ lines_from file (drop file (known ++ behind))
grow_lines known behind file within =
    ap (λ ks. lines_from file (drop file known) ++ lines_from (length known) ks) (drop-append_seam known behind)
    ∙ (ap (λ n. lines_from file (drop file known) ++ lines_from n behind) (omega (arith, within, length-drop file known))
    ∙ (sym (lines_append file (drop file known) behind) ∙ ap (λ ks. lines_from file ks) (sym (drop-append-le file known behind within))))

grown_lines : (old new : Gathering) (file : ℕ) → Grows old new → file ≤ length old.known.items →
    lines_from file (drop file old.known.items) ++ new_lines old new ≡ lines_from file (drop file new.known.items)
grown_lines old new file grows within =
    ap (λ ks. lines_from file (drop file old.known.items) ++ lines_from (length old.known.items) (drop (length old.known.items) ks)) grows.known
    ∙ (grow_lines old.known.items grows.behind file within ∙ ap (λ ks. lines_from file (drop file ks)) (sym grows.known))

pub lines_split : (known : List Known) (file : ℕ) → file < length known → lines_from file (drop file known) ≡ lines_of file (known_at known file) ++ lines_from (file + 1) (drop (file + 1) known)
lines_split known file within = ap (λ ks. lines_from file ks) (drop_more known file no_known within)

comes_along : (s : Setting) (old new : Gathering) (request : Request) (rest more : List Request) → Comes s old (request ∷ rest) →
    ((rest : List Request) → Answered s (moment old (request ∷ rest)) (moment new (rest ++ new_lines old new))) → rest ++ new_lines old new ≡ more → Comes s new more
comes_along s old new request rest more comes steps are = record {
  answered = suc comes.answered;
  reached = (moment old (request ∷ rest), comes.reached, subst (λ ls. Answered s (moment old (request ∷ rest)) (moment new ls)) are (steps rest));
}

-- ## The roots

root_ahead : (roots : List (List ℕ)) (i : ℕ) (d : List ℕ) (known : List Known) → i < length roots →
    map Root (drop i roots) ++ lines_from 0 known ≡ Root (get_or roots i d) ∷ (map Root (drop (i + 1) roots) ++ lines_from 0 known)
root_ahead roots i d known within = ap (λ rs. map Root rs ++ lines_from 0 known) (drop_more roots i d within)

pub root_comes : (s : Setting) (old new : Gathering) (i : ℕ) → i < length s.roots → Grows old new → Steps s.held s.dirs old new (Root (get_or s.roots i [])) →
    Comes s old (map Root (drop i s.roots) ++ lines_from 0 old.known.items) → Comes s new (map Root (drop (i + 1) s.roots) ++ lines_from 0 new.known.items)
root_comes s old new i within grows steps comes =
    comes_along s old new (Root (get_or s.roots i [])) (map Root (drop (i + 1) s.roots) ++ lines_from 0 old.known.items) _
    (subst (λ ls. Comes s old ls) (root_ahead s.roots i [] old.known.items within) comes) (steps s.roots)
    (append_assoc (map Root (drop (i + 1) s.roots)) (lines_from 0 old.known.items) (new_lines old new)
    ∙ ap (λ ls. map Root (drop (i + 1) s.roots) ++ ls) (grown_lines old new 0 grows (omega arith)))

-- ## The include lines of a file

followed : (file : ℕ) (k : Known) → k.depth ≤ 64 → lines_of file k ≡ map (Line file (k.depth + 1)) k.includes
followed file k few = ap (λ b. cond b (map (Line file (k.depth + 1)) k.includes) []) (le-leb k.depth 64 few)

line_ahead : (file : ℕ) (k : Known) (i : ℕ) (d : Include) (more : List Request) → k.depth ≤ 64 → i < length k.includes →
    drop i (lines_of file k) ++ more ≡ Line file (k.depth + 1) (get_or k.includes i d) ∷ (drop (i + 1) (lines_of file k) ++ more)
line_ahead file k i d more few within =
    let lines = followed file k few in
    ap (λ ls. drop i ls ++ more) lines
    ∙ (ap (λ ls. ls ++ more) (drop-map (Line file (k.depth + 1)) i k.includes)
    ∙ (ap (λ xs. map (Line file (k.depth + 1)) xs ++ more) (drop_more k.includes i d within)
    ∙ (ap (λ ls. Line file (k.depth + 1) (get_or k.includes i d) ∷ (ls ++ more)) (sym (drop-map (Line file (k.depth + 1)) (i + 1) k.includes))
    ∙ ap (λ ls. Line file (k.depth + 1) (get_or k.includes i d) ∷ (drop (i + 1) ls ++ more)) (sym lines))))

pub line_comes : (s : Setting) (old new : Gathering) (file i depth : ℕ) (k : Known) → file < length old.known.items → k.depth ≤ 64 → depth ≡ k.depth + 1 → i < length k.includes → Grows old new →
    Steps s.held s.dirs old new (Line file depth (get_or k.includes i no_include)) →
    Comes s old (drop i (lines_of file k) ++ lines_from (file + 1) (drop (file + 1) old.known.items)) → Comes s new (drop (i + 1) (lines_of file k) ++ lines_from (file + 1) (drop (file + 1) new.known.items))
line_comes s old new file i depth k held few deep within grows steps comes =
    comes_along s old new (Line file (k.depth + 1) (get_or k.includes i no_include)) (drop (i + 1) (lines_of file k) ++ lines_from (file + 1) (drop (file + 1) old.known.items)) _
    (subst (λ ls. Comes s old ls) (line_ahead file k i no_include _ few within) comes)
    (subst (λ d. Steps s.held s.dirs old new (Line file d (get_or k.includes i no_include))) deep steps s.roots)
    (append_assoc (drop (i + 1) (lines_of file k)) (lines_from (file + 1) (drop (file + 1) old.known.items)) (new_lines old new)
    ∙ ap (λ ls. drop (i + 1) (lines_of file k) ++ ls) (grown_lines old new (file + 1) grows (omega (arith, held))))

pub lines_begin : (s : Setting) (state : Gathering) (file : ℕ) → file < length state.known.items → ComesTo s state file →
    Comes s state (drop 0 (lines_of file (known_at state.known.items file)) ++ lines_from (file + 1) (drop (file + 1) state.known.items))
lines_begin s state file within comes = subst (λ ls. Comes s state ls) (lines_split state.known.items file within) comes

pub lines_end : (s : Setting) (state : Gathering) (file i : ℕ) (k : Known) → length (lines_of file k) ≤ i →
    Comes s state (drop i (lines_of file k) ++ lines_from (file + 1) (drop (file + 1) state.known.items)) → ComesTo s state (file + 1)
lines_end s state file i k all comes = subst (λ ls. Comes s state (ls ++ lines_from (file + 1) (drop (file + 1) state.known.items))) (drop_of_length-le (lines_of file k) all) comes

-- ## The ends

pub gathers : (s : Setting) (state : Gathering) (file : ℕ) → length state.known.items ≤ file → ComesTo s state file → Gathers s state.sources
gathers s state file all comes = record {
  answered = comes.answered;
  last = moment state [];
  reached = subst (λ ls. Reached s comes.answered (moment state ls)) (ap (λ ks. lines_from file ks) (drop_of_length-le state.known.items all)) comes.reached;
  done = refl;
  sources = refl;
}

ends : (s : Setting) (old new : Gathering) (request : Request) (rest : List Request) (trouble : Trouble) → Comes s old (request ∷ rest) →
    StopsAt s (moment old (request ∷ rest)) new.sources trouble → IsFault s (fault_with trouble new)
ends s old new request rest (Refused refusal) comes stops = record { answered = comes.answered; last = moment old (request ∷ rest); reached = comes.reached; ends = stops }
ends s old new request rest (Over limit) comes stops = record { answered = comes.answered; last = moment old (request ∷ rest); reached = comes.reached; ends = stops }
ends s old new request rest Read comes stops = tt
ends s old new request rest Memory comes stops = tt

pub root_ends : (s : Setting) (old new : Gathering) (i : ℕ) (trouble : Trouble) → i < length s.roots → Stops s.held s.dirs old new (Root (get_or s.roots i [])) trouble →
    Comes s old (map Root (drop i s.roots) ++ lines_from 0 old.known.items) → IsFault s (fault_with trouble new)
root_ends s old new i trouble within stops comes =
    ends s old new (Root (get_or s.roots i [])) (map Root (drop (i + 1) s.roots) ++ lines_from 0 old.known.items) trouble
    (subst (λ ls. Comes s old ls) (root_ahead s.roots i [] old.known.items within) comes) (stops s.roots _)

pub root_absent : (s : Setting) (state : Gathering) (i : ℕ) → i < length s.roots → root_count state.sources ≡ i → Lacks s.held (get_or s.roots i []) →
    Comes s state (map Root (drop i s.roots) ++ lines_from 0 state.known.items) → FailsBy s (gathering.RootAbsent i)
root_absent s state i within count lacks comes =
    let at = subst (λ ls. Comes s state ls) (root_ahead s.roots i [] state.known.items within) comes in
    record {
      answered = at.answered;
      last = moment state (Root (get_or s.roots i []) ∷ (map Root (drop (i + 1) s.roots) ++ lines_from 0 state.known.items));
      reached = at.reached;
      ends = record { rest = map Root (drop (i + 1) s.roots) ++ lines_from 0 state.known.items; asked = refl; next = count; absent = lacks };
    }

pub line_ends : (s : Setting) (old new : Gathering) (file i depth : ℕ) (k : Known) (trouble : Trouble) → k.depth ≤ 64 → depth ≡ k.depth + 1 → i < length k.includes →
    Stops s.held s.dirs old new (Line file depth (get_or k.includes i no_include)) trouble →
    Comes s old (drop i (lines_of file k) ++ lines_from (file + 1) (drop (file + 1) old.known.items)) → IsFault s (fault_with trouble new)
line_ends s old new file i depth k trouble few deep within stops comes =
    ends s old new (Line file (k.depth + 1) (get_or k.includes i no_include)) _ trouble
    (subst (λ ls. Comes s old ls) (line_ahead file k i no_include _ few within) comes)
    (subst (λ d. Stops s.held s.dirs old new (Line file d (get_or k.includes i no_include)) trouble) deep stops s.roots _)

pub have_words : (told : Option (List Named)) (state : Gathering) → Stands told state → HaveWords state.sources
have_words told state stands number within = (stands.gathered number within).lexed.lexes

-- ## What the code found

some_located : (held : Option (List Named)) (old new : Gathering) (places : List Place) (depth : ℕ) (found : Option ℕ) (number : ℕ) → FindsFirst held old new places depth found → found ≡ Some number →
    (place : Place) × IsFirst held places place × IsLocated held old new place depth number
some_located held old new places depth found number finds some = subst (λ o. FindsFirst held old new places depth o) some finds

pub found_steps : (held : Option (List Named)) (dirs : List (List ℕ)) (old mid new : Gathering) (request : Request) (places : List Place) (depth : ℕ) (found : Option ℕ) (number : ℕ) →
    length old.known.items ≡ count_of old.sources → depth ≡ depth_of request → places ≡ sought_places dirs old.sources request → FindsFirst held old mid places depth found → found ≡ Some number →
    new.sources ≡ noted request number mid.sources → new.known.items ≡ mid.known.items → Steps held dirs old new request
found_steps held dirs old mid new request places depth found number many deep are finds some sources known =
    let (place, first, located) = some_located held old mid places depth found number finds some in
    located_steps held dirs old mid new request depth place number many deep (subst (λ ps. IsFirst held ps place) are first) located sources known

pub none_steps : (held : Option (List Named)) (dirs : List (List ℕ)) (old new : Gathering) (from line_depth : ℕ) (include : Include) (places : List Place) (depth : ℕ) (found : Option ℕ) →
    places ≡ candidates_of dirs (name_of old.sources from) include → FindsFirst held old new places depth found → found ≡ None → Steps held dirs old new (Line from line_depth include)
none_steps held dirs old new from line_depth include places depth found are finds none =
    let is : All (IsAbsent held) places × Keeps old new = subst (λ o. FindsFirst held old new places depth o) none finds in
    passed_steps held dirs old new from line_depth include (subst (λ ps. All (IsAbsent held) ps) are is.0) is.1

pub none_there : (held : Option (List Named)) (old new : Gathering) (name : List ℕ) (depth : ℕ) (found : Option ℕ) → FindsFirst held old new (File name ∷ []) depth found → found ≡ None → Lacks held name × Keeps old new
none_there held old new name depth found finds none =
    let is : All (IsAbsent held) (File name ∷ []) × Keeps old new = subst (λ o. FindsFirst held old new (File name ∷ []) depth o) none finds in
    (is.0 0 (File name) (omega arith), is.1)

pub located_grows : (held : Option (List Named)) (old mid new : Gathering) (places : List Place) (depth : ℕ) (found : Option ℕ) (number : ℕ) → FindsFirst held old mid places depth found → found ≡ Some number →
    new.known.items ≡ mid.known.items → Grows old new
located_grows held old mid new places depth found number finds some known =
    let (place, first, located) = some_located held old mid places depth found number finds some in
    elim located.how [
      | inl met ↦ record { behind = []; known = known ∙ (met.1.known ∙ sym (append-nil old.known.items)) }
      | inr fresh ↦ record { behind = _; known = known ∙ fresh.2.known }
    ]

pub none_grows : (held : Option (List Named)) (old new : Gathering) (places : List Place) (depth : ℕ) (found : Option ℕ) → FindsFirst held old new places depth found → found ≡ None → Grows old new
none_grows held old new places depth found finds none =
    let is : All (IsAbsent held) places × Keeps old new = subst (λ o. FindsFirst held old new places depth o) none finds in
    record { behind = []; known = is.1.known ∙ sym (append-nil old.known.items) }

pub line_places : (dirs : List (List ℕ)) (g : Gathered) (file : ℕ) (places items : List Place) (from : List ℕ) (include other : Include) → places ≡ items → items ≡ candidates_of dirs from include → from ≡ name_of g file → include ≡ other →
    places ≡ candidates_of dirs (name_of g file) other
line_places dirs g file places items from include other are is name same = are ∙ (is ∙ (ap (λ n. candidates_of dirs n include) name ∙ ap (λ i. candidates_of dirs (name_of g file) i) same))

-- the include line of a file, when further files were added
grown_known : (old new : Gathering) (file : ℕ) → Grows old new → file < length old.known.items → known_at new.known.items file ≡ known_at old.known.items file
grown_known old new file grows within = ap (λ ks. known_at ks file) grows.known ∙ get_or_append_left old.known.items grows.behind no_known file within

pub linked_steps : (held : Option (List Named)) (dirs : List (List ℕ)) (old mid new last : Gathering) (file at depth : ℕ) (places : List Place) (found : Option ℕ) (number : ℕ) →
    length old.known.items ≡ count_of old.sources → file < count_of old.sources → places ≡ candidates_of dirs (name_of old.sources file) (get_or (known_at old.known.items file).includes at no_include) →
    FindsFirst held old mid places depth found → found ≡ Some number → Links mid new file (get_or (known_at mid.known.items file).includes at no_include) number → last ≡ new →
    Steps held dirs old last (Line file depth (get_or (known_at old.known.items file).includes at no_include))
linked_steps held dirs old mid new last file at depth places found number many there are finds some links is =
    let include = get_or (known_at old.known.items file).includes at no_include in
    let grows : Grows old mid = located_grows held old mid mid places depth found number finds some refl in
    let same : get_or (known_at mid.known.items file).includes at no_include ≡ include = ap (λ (k : Known). get_or k.includes at no_include) (grown_known old mid file grows (omega (arith, many, there))) in
    subst (λ s. Steps held dirs old s (Line file depth include)) (sym is)
    (found_steps held dirs old mid new (Line file depth include) places depth found number many refl are finds some (links.sources ∙ ap (λ i. linked file i number mid.sources) same) links.known)

pub unlinked_steps : (held : Option (List Named)) (dirs : List (List ℕ)) (old mid last : Gathering) (file line_depth : ℕ) (include : Include) (places : List Place) (depth : ℕ) (found : Option ℕ) →
    places ≡ candidates_of dirs (name_of old.sources file) include → FindsFirst held old mid places depth found → found ≡ None → last ≡ mid → Steps held dirs old last (Line file line_depth include)
unlinked_steps held dirs old mid last file line_depth include places depth found are finds none is =
    subst (λ s. Steps held dirs old s (Line file line_depth include)) (sym is) (none_steps held dirs old mid file line_depth include places depth found are finds none)

-- ## Following a file

grown_length : (old new : Gathering) → Grows old new → length old.known.items ≤ length new.known.items
grown_length old new grows = omega (arith, ap length grows.known, length-append old.known.items grows.behind)

-- where an include line is linked to the file that was found, what holds between two steps holds again
pub linked_stands : (held : Option (List Named)) (old mid new : Gathering) (file : ℕ) (places : List Place) (depth : ℕ) (found : Option ℕ) (number : ℕ) (include : Include) → Stands held old → file < count_of old.sources →
    FindsFirst held old mid places depth found → found ≡ Some number → Stands held mid → Links mid new file include number → Stands held new
linked_stands held old mid new file places depth found number include stands below finds some found_stands links =
    let grows : Grows old mid = located_grows held old mid mid places depth found number finds some refl in
    links_stands held mid new file include number (omega (arith, below, stands.known, found_stands.known, grown_length old mid grows)) found_stands links

pub grows_on : (first old new : Gathering) → Grows first old → Grows old new → Grows first new
grows_on first old new one two = record {
  behind = one.behind ++ two.behind;
  known = two.known ∙ (ap (λ ks. ks ++ two.behind) one.known ∙ append_assoc first.known.items one.behind two.behind);
}

pub follow_goes_on : (was told : Option (List Named)) (dirs : List (List ℕ)) (first old new : Gathering) (file at depth : ℕ) (k : Known) → was ≡ told →
    k ≡ known_at first.known.items file → file < length first.known.items → k.depth ≤ 64 → depth ≡ k.depth + 1 → at < length k.includes → Grows first old → Grows old new →
    Steps was dirs old new (Line file depth (get_or (known_at old.known.items file).includes at no_include)) →
    ((roots : List (List ℕ)) → ComesTo (setting told roots dirs) first file →
    Comes (setting told roots dirs) old (drop at (lines_of file (known_at first.known.items file)) ++ lines_from (file + 1) (drop (file + 1) old.known.items))) →
    (roots : List (List ℕ)) → ComesTo (setting told roots dirs) first file →
    Comes (setting told roots dirs) new (drop (at + 1) (lines_of file (known_at first.known.items file)) ++ lines_from (file + 1) (drop (file + 1) new.known.items))
follow_goes_on was told dirs first old new file at depth k same is there few deep within grows more steps comes roots begun =
    let known : Known = known_at first.known.items file in
    let line : Line file depth (get_or (known_at old.known.items file).includes at no_include) ≡ Line file depth (get_or known.includes at no_include) = ap (λ (x : Known). Line file depth (get_or x.includes at no_include)) (grown_known first old file grows there) in
    line_comes (setting told roots dirs) old new file at depth known (omega (arith, there, grown_length first old grows)) (subst (λ (x : Known). x.depth ≤ 64) is few) (deep ∙ ap (λ (x : Known). x.depth + 1) is) (subst (λ (x : Known). at < length x.includes) is within) more
    (subst (λ h. Steps h dirs old new (Line file depth (get_or known.includes at no_include))) same (subst (λ r. Steps was dirs old new r) line steps)) (comes roots begun)

pub follow_stops : (was told : Option (List Named)) (dirs : List (List ℕ)) (first old new : Gathering) (file at depth : ℕ) (k : Known) (trouble : Trouble) → was ≡ told →
    k ≡ known_at first.known.items file → file < length first.known.items → k.depth ≤ 64 → depth ≡ k.depth + 1 → at < length k.includes → Grows first old →
    Stops was dirs old new (Line file depth (get_or (known_at old.known.items file).includes at no_include)) trouble →
    ((roots : List (List ℕ)) → ComesTo (setting told roots dirs) first file →
    Comes (setting told roots dirs) old (drop at (lines_of file (known_at first.known.items file)) ++ lines_from (file + 1) (drop (file + 1) old.known.items))) →
    StopsFollowing told dirs first new file trouble
follow_stops was told dirs first old new file at depth k trouble same is there few deep within grows stops comes roots begun =
    let known : Known = known_at first.known.items file in
    let line : Line file depth (get_or (known_at old.known.items file).includes at no_include) ≡ Line file depth (get_or known.includes at no_include) = ap (λ (x : Known). Line file depth (get_or x.includes at no_include)) (grown_known first old file grows there) in
    line_ends (setting told roots dirs) old new file at depth known trouble (subst (λ (x : Known). x.depth ≤ 64) is few) (deep ∙ ap (λ (x : Known). x.depth + 1) is) (subst (λ (x : Known). at < length x.includes) is within)
    (subst (λ h. Stops h dirs old new (Line file depth (get_or known.includes at no_include)) trouble) same (subst (λ r. Stops was dirs old new r trouble) line stops)) (comes roots begun)

length_lines : (file : ℕ) (k : Known) → k.depth ≤ 64 → length (lines_of file k) ≡ length k.includes
length_lines file k few = ap length (followed file k few) ∙ length-map k.includes (Line file (k.depth + 1))

pub follow_ends : (told : Option (List Named)) (dirs : List (List ℕ)) (first last : Gathering) (file at : ℕ) (k : Known) → k ≡ known_at first.known.items file → k.depth ≤ 64 → length k.includes ≤ at → Grows first last →
    ((roots : List (List ℕ)) → ComesTo (setting told roots dirs) first file →
    Comes (setting told roots dirs) last (drop at (lines_of file (known_at first.known.items file)) ++ lines_from (file + 1) (drop (file + 1) last.known.items))) →
    Follows told dirs first last file
follow_ends told dirs first last file at k is few all grows comes = record {
  grows = grows;
  comes = λ roots begun. lines_end (setting told roots dirs) last file at (known_at first.known.items file)
      (omega (arith, length_lines file (known_at first.known.items file) (subst (λ (x : Known). x.depth ≤ 64) is few), subst (λ (x : Known). length x.includes ≤ at) is all)) (comes roots begun);
}

pub follow_begins : (told : Option (List Named)) (dirs : List (List ℕ)) (first : Gathering) (file : ℕ) → file < length first.known.items → (roots : List (List ℕ)) → ComesTo (setting told roots dirs) first file →
    Comes (setting told roots dirs) first (drop 0 (lines_of file (known_at first.known.items file)) ++ lines_from (file + 1) (drop (file + 1) first.known.items))
follow_begins told dirs first file there roots begun = lines_begin (setting told roots dirs) first file there begun

off : (b : Bool) → (b ≡ true → ⊥) → b ≡ false
off true isnt = absurd (isnt refl)
off false isnt = refl

no_lines : (file : ℕ) (k : Known) → 64 < k.depth → lines_of file k ≡ []
no_lines file k deep = ap (λ b. cond b (map (Line file (k.depth + 1)) k.includes) []) (off (nat_le k.depth 64) (λ e. absurd (omega (arith, leb-true k.depth 64 e, deep))))

pub follow_none : (told : Option (List Named)) (dirs : List (List ℕ)) (first : Gathering) (file : ℕ) (k : Known) → k ≡ known_at first.known.items file → file < length first.known.items → 64 < k.depth → Follows told dirs first first file
follow_none told dirs first file k is there deep = record {
  grows = record { behind = []; known = sym (append-nil first.known.items) };
  comes = λ roots begun. subst (λ ls. Comes (setting told roots dirs) first (ls ++ lines_from (file + 1) (drop (file + 1) first.known.items)))
      (no_lines file (known_at first.known.items file) (subst (λ (x : Known). 64 < x.depth) is deep)) (subst (λ ls. Comes (setting told roots dirs) first ls) (lines_split first.known.items file there) begun);
}

-- ## A turn over the roots

root_name : {X : Type 0} (f : X → List ℕ) (roots : List X) (i : ℕ) (root : X) → i < length roots → root ≡ get_or roots i root → f root ≡ get_or (map f roots) i []
root_name f roots i root within is = ap f is ∙ sym (get_or-map f roots i root [] within)

pub turn_absent : {X : Type 0} (f : X → List ℕ) (was told : Option (List Named)) (roots : List X) (dirs : List (List ℕ)) (state : Gathering) (i place : ℕ) (root : X) → was ≡ told → i < length roots → root ≡ get_or roots i root →
    root_count state.sources ≡ i → place ≡ i → Lacks was (f root) → Comes (setting told (map f roots) dirs) state (map Root (drop i (map f roots)) ++ lines_from 0 state.known.items) →
    FailsBy (setting told (map f roots) dirs) (gathering.RootAbsent place)
turn_absent f was told roots dirs state i place root same within is many place_is lacks comes =
    let lacking : Lacks told (get_or (map f roots) i []) = subst (λ n. Lacks told n) (root_name f roots i root within is) (subst (λ h. Lacks h (f root)) same lacks) in
    subst (λ p. FailsBy (setting told (map f roots) dirs) (gathering.RootAbsent p)) (sym place_is)
    (root_absent (setting told (map f roots) dirs) state i (omega (arith, within, length-map roots f)) many lacking comes)

pub turn_ends : {X : Type 0} (f : X → List ℕ) (was told : Option (List Named)) (roots : List X) (dirs : List (List ℕ)) (old new : Gathering) (i : ℕ) (root : X) (trouble : Trouble) (fault : GatherFault) → was ≡ told → i < length roots → root ≡ get_or roots i root →
    Stops was dirs old new (Root (f root)) trouble → fault ≡ fault_with trouble new → Comes (setting told (map f roots) dirs) old (map Root (drop i (map f roots)) ++ lines_from 0 old.known.items) → IsFault (setting told (map f roots) dirs) fault
turn_ends f was told roots dirs old new i root trouble fault same within is stops fault_is comes =
    let here : Stops told dirs old new (Root (get_or (map f roots) i [])) trouble = subst (λ n. Stops told dirs old new (Root n) trouble) (root_name f roots i root within is) (subst (λ h. Stops h dirs old new (Root (f root)) trouble) same stops) in
    subst (λ x. IsFault (setting told (map f roots) dirs) x) (sym fault_is)
    (root_ends (setting told (map f roots) dirs) old new i trouble (omega (arith, within, length-map roots f)) here comes)

pub turn_comes : {X : Type 0} (f : X → List ℕ) (was told : Option (List Named)) (roots : List X) (dirs : List (List ℕ)) (old new : Gathering) (i : ℕ) (root : X) → was ≡ told → i < length roots → root ≡ get_or roots i root → Grows old new →
    Steps was dirs old new (Root (f root)) → Comes (setting told (map f roots) dirs) old (map Root (drop i (map f roots)) ++ lines_from 0 old.known.items) →
    Comes (setting told (map f roots) dirs) new (map Root (drop (i + 1) (map f roots)) ++ lines_from 0 new.known.items)
turn_comes f was told roots dirs old new i root same within is grows steps comes =
    let here : Steps told dirs old new (Root (get_or (map f roots) i [])) = subst (λ n. Steps told dirs old new (Root n)) (root_name f roots i root within is) (subst (λ h. Steps h dirs old new (Root (f root))) same steps) in
    root_comes (setting told (map f roots) dirs) old new i (omega (arith, within, length-map roots f)) grows here comes
