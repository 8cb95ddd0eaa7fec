-- What stands after a file was put after the others, or linked.
use Rattle.std.proofs.Common.{◌≡◌, ℕ, zero, suc, ◌+◌, ◌<◌, ◌≤◌, Bool, true, false, cond, List, [], ◌∷◌, ◌++◌, length, take, Option, Some, None, refl, ap, sym, ◌∙◌, subst, inl, inr, arith, length-append, get_or, set, below_more, ◌≢◌}
use Rattle.std.specs.Prelude.{All, IsSome, IsSomeAnd, Err, is_some}
use Rattle.std.proofs.lemmas.Bool.{cases_order}
use Rattle.std.proofs.lemmas.List.{get_or_append_left, get_or-set_same, get_or-set_other, length-set, length-take}
use Rattle.std.proofs.Math.Seq.{get_or-append_seam}
use Rattle.p10_base.specs.declared.report.Limit.{Limit}
use Rattle.p10_base.specs.declared.sources.SourceFile.{SourceFile}
use Rattle.p10_base.specs.declared.sources.Link.{Link}
use Rattle.p10_base.specs.declared.word.WordPlace.{WordPlace}
use Rattle.p10_base.specs.Gathered.{count_of, file_of, no_file, candidate_of, with_file, with_link, add_link}
use Rattle.p10_world.specs.Files.{Named, Lacks, GrowsByFile}
use Rattle.p10_world.specs.Files as world
use Rattle.p10_lex.specs.declared.fault.LexFault.TheVariants as lexing
use Rattle.p10_lex.specs.Lexes.{Answers}
use Rattle.p10_expand.specs.declared.place.Include.{Include}
use Rattle.p10_expand.specs.declared.place.Place.{Place}
use Rattle.p10_expand.specs.declared.place.Place.TheVariants.{File, Header}
use Rattle.p10_expand.specs.declared.gathering.Known.{Known}
use Rattle.p10_expand.specs.declared.gathering.Gathering.{Gathering}
use Rattle.p10_expand.specs.declared.fault.Trouble.{Trouble}
use Rattle.p10_expand.specs.declared.fault.Trouble.TheVariants.{Read, Refused, Over, Memory}
use Rattle.p10_expand.specs.Headers.{header_of}
use Rattle.p10_expand.specs.Finding.{name_at, is_header_place, HasText, IsThere}
use Rattle.p10_expand.specs.Gathered.{IsGathered, AreGathered}
use Rattle.p10_expand.specs.Includes.{HasIncludes}
use Rattle.p10_expand.specs.Gathering.{no_known, known_at, IsAt, IsNew, HasRoom, present}
use Rattle.p10_expand.specs.private.Standing.{HasFront, Stands, AddsFile, FailsToAdd, Links, IsLocated, Fails}

-- ## Texts

-- the first bytes of a file are all of it where they are fewer than were asked for
pub take_whole : (n : ℕ) (whole : List ℕ) → length (take n whole) < n → whole ≡ take n whole
take_whole zero whole few = absurd (omega (arith, few))
take_whole (suc n) [] few = refl
take_whole (suc n) (byte ∷ bytes) few = ap (λ bs. byte ∷ bs) (take_whole n bytes (omega (arith, few)))

whole_some : (found : Option (List ℕ)) (text : List ℕ) → IsSomeAnd found (λ whole. text ≡ take 1048577 whole) → length text ≤ 1048576 → found ≡ Some text
whole_some None text front few = absurd front
whole_some (Some whole) text front few =
    let short : length (take 1048577 whole) < 1048577 = subst (λ t. length t < 1048577) front (omega (arith, few)) in
    ap Some (take_whole 1048577 whole short ∙ sym front)

pub whole_told : (told : Option (List Named)) (place : Place) (text : List ℕ) → HasFront told place text → length text ≤ 1048576 → HasText told place text
whole_told told (Header name) text front few = front
whole_told None (File name) text front few = tt
whole_told (Some files) (File name) text front few = whole_some (world.file_of name files) text front few

some_there : (found : Option (List ℕ)) (text : List ℕ) → found ≡ Some text → IsSome found
some_there found text is = subst (λ o. IsSome o) (sym is) refl

pub text_there : (told : Option (List Named)) (place : Place) (text : List ℕ) → HasText told place text → IsThere told place
text_there told (Header name) text is = some_there (header_of name) text is
text_there None (File name) text is = tt
text_there (Some files) (File name) text is = some_there (world.file_of name files) text is

front_some : (found : Option (List ℕ)) (text : List ℕ) → IsSomeAnd found (λ whole. text ≡ take 1048577 whole) → IsSome found
front_some None text front = absurd front
front_some (Some whole) text front = refl

pub front_there : (told : Option (List Named)) (place : Place) (text : List ℕ) → HasFront told place text → IsThere told place
front_there told (Header name) text is = some_there (header_of name) text is
front_there None (File name) text is = tt
front_there (Some files) (File name) text is = front_some (world.file_of name files) text is

-- a text that exceeds a limit, and a file of which it is a prefix
over_some : (found : Option (List ℕ)) (text : List ℕ) (number : ℕ) (limit : Limit) → IsSomeAnd found (λ whole. text ≡ take 1048577 whole) → Answers number text (Err (lexing.Over limit)) →
    (whole : List ℕ) × (found ≡ Some whole) × Answers number whole (Err (lexing.Over limit))
over_some None text number limit front over = absurd front
over_some (Some whole) text number limit front (inl (limit_is, long)) =
    (whole, refl, inl (limit_is, omega (arith, long, ap length front, length-take 1048577 whole)))
over_some (Some whole) text number limit front (inr many) =
    (text, whole_some (Some whole) text front many.1, inr many)

pub over_whole : (told : Option (List Named)) (place : Place) (text : List ℕ) (number : ℕ) (limit : Limit) → HasFront told place text → Answers number text (Err (lexing.Over limit)) →
    (whole : List ℕ) × HasText told place whole × Answers number whole (Err (lexing.Over limit))
over_whole told (Header name) text number limit front over = (text, front, over)
over_whole None (File name) text number limit front over = (text, tt, over)
over_whole (Some files) (File name) text number limit front over = over_some (world.file_of name files) text number limit front over

pub front_read : (told : Option (List Named)) (name text : List ℕ) → GrowsByFile told name 1048577 [] text → HasFront told (File name) text
front_read None name text grows = tt
front_read (Some files) name text grows = grows

pub front_of : (told : Option (List Named)) (name other old text : List ℕ) → other ≡ name → old ≡ [] → GrowsByFile told name 1048577 old text → HasFront told (File other) text
front_of told name other old text same none grows =
    subst (λ n. HasFront told (File n) text) (sym same) (front_read told name text (subst (λ o. GrowsByFile told name 1048577 o text) none grows))

-- ## Adding a file

pub gathered_more : (told : Option (List Named)) (known : List Known) (files : List SourceFile) (k : Known) (f : SourceFile) → length known ≡ length files →
    ((n : ℕ) → n < length files → IsGathered told n (get_or known n no_known) (get_or files n no_file)) → IsGathered told (length files) k f →
    (n : ℕ) → n < length (files ++ f ∷ []) → IsGathered told n (get_or (known ++ k ∷ []) n no_known) (get_or (files ++ f ∷ []) n no_file)
gathered_more told known files k f same old last n below =
    let P : ℕ → Type 0 = λ m. IsGathered told m (get_or (known ++ k ∷ []) m no_known) (get_or (files ++ f ∷ []) m no_file) in
    let known_last : get_or (known ++ k ∷ []) (length files) no_known ≡ k = subst (λ m. get_or (known ++ k ∷ []) m no_known ≡ k) same (get_or-append_seam known k [] no_known) in
    let before : (m : ℕ) → m < length files → P m = λ m h.
    (let known_m : get_or (known ++ k ∷ []) m no_known ≡ get_or known m no_known = get_or_append_left known (k ∷ []) no_known m (omega (arith, same, h)) in
    let file_m : get_or (files ++ f ∷ []) m no_file ≡ get_or files m no_file = get_or_append_left files (f ∷ []) no_file m h in
    subst (λ x. IsGathered told m x (get_or (files ++ f ∷ []) m no_file)) (sym known_m) (subst (λ y. IsGathered told m (get_or known m no_known) y) (sym file_m) (old m h))) in
    let here : P (length files) =
    subst (λ x. IsGathered told (length files) x (get_or (files ++ f ∷ []) (length files) no_file)) (sym known_last)
    (subst (λ y. IsGathered told (length files) k y) (sym (get_or-append_seam files f [] no_file)) last) in
    below_more P (length files) before here n (omega (arith, length-append files (f ∷ []), below))

-- the length of a text that is lexed is bounded
few_bytes : (number : ℕ) (text : List ℕ) (words : List WordPlace) (includes : List Include) → HasIncludes number text words includes → length text ≤ 1048576
few_bytes number text words includes lexed = lexed.lexes.0

pub adds_stands : (told : Option (List Named)) (old new : Gathering) (place : Place) (depth : ℕ) (text : List ℕ) (number : ℕ) →
    Stands told old → HasFront told place text → AddsFile old new place depth text number → new.absent ≡ old.absent → Stands told new
adds_stands told old new place depth text number stands front adds absent =
    let k : Known = record { place = place; depth = depth; includes = adds.includes } in
    let last : IsGathered told (length old.sources.files) k (record { name = name_at place; text = text; built_in = is_header_place place; words = adds.words; links = [] }) =
    record { named = refl; text = whole_told told place text front (few_bytes number text adds.words adds.includes adds.lexed); marked = refl; lexed = subst (λ n. HasIncludes n text adds.words adds.includes) adds.next adds.lexed } in
    record {
      known = ap length adds.known ∙ (length-append old.known.items _ ∙ (ap (λ n. n + 1) stands.known ∙ (sym (length-append old.sources.files _) ∙ sym (ap count_of adds.sources))));
      gathered = subst (λ known. AreGathered told known new.sources) (sym adds.known)
          (subst (λ g. AreGathered told (old.known.items ++ k ∷ []) g) (sym adds.sources)
          (gathered_more told old.known.items old.sources.files _ _ stands.known stands.gathered last));
      absent = subst (λ names. All (Lacks told) names) (sym absent) stands.absent;
    }

pub adds_located : (told : Option (List Named)) (old new : Gathering) (place : Place) (depth : ℕ) (text : List ℕ) (number : ℕ) →
    IsNew old.known.items place → HasRoom old.known.items place → HasFront told place text → AddsFile old new place depth text number → IsLocated told old new place depth number
adds_located told old new place depth text number new_place room front adds =
    let whole = whole_told told place text front (few_bytes number text adds.words adds.includes adds.lexed) in
    record { there = text_there told place text whole; how = inr (text, record { new = new_place; room = room; text_is = whole }, adds) }

pub fails_to_add : (told : Option (List Named)) (old new : Gathering) (place : Place) (text : List ℕ) (trouble : Trouble) →
    IsNew old.known.items place → HasRoom old.known.items place → HasFront told place text → FailsToAdd old new place text trouble → Fails told old new place trouble
fails_to_add told old new place text (Refused refusal) new_place room front fails =
    (text, record { new = new_place; room = room; text_is = whole_told told place text front fails.0.0 }, fails)
fails_to_add told old new place text (Over limit) new_place room front fails =
    let (whole, whole_is, over) = over_whole told place text (count_of old.sources) limit front fails in
    inl (whole, record { new = new_place; room = room; text_is = whole_is }, over)
fails_to_add told old new place text Read new_place room front fails = absurd fails
fails_to_add told old new place text Memory new_place room front fails = tt

pub full_fails : (told : Option (List Named)) (old new : Gathering) (name text : List ℕ) (limit : Limit) →
    IsNew old.known.items (File name) → 256 ≤ present old.known.items → GrowsByFile told name 1048577 [] text → limit ≡ record { number = 7 } → Fails told old new (File name) (Over limit)
full_fails told old new name text limit new_place full grows limit_is =
    inr (limit_is, record { name = name; place_is = refl; new = new_place; full = full; there = front_there told (File name) text (front_read told name text grows) })

-- ## Finding a file again

pub at_located : (told : Option (List Named)) (s : Gathering) (place : Place) (depth number : ℕ) → Stands told s → IsAt s.known.items place number → IsLocated told s s place depth number
at_located told s place depth number stands at =
    let gathered = stands.gathered number (omega (arith, stands.known, at.held)) in
    record {
      there = subst (λ p. IsThere told p) at.place_of (text_there told (known_at s.known.items number).place (file_of s.sources number).text gathered.text);
      how = inl (at, record { sources = refl; known = refl });
    }

-- a file with the same name, text, mark and words
pub record AreAlike (f g : SourceFile) : Type 0 where
  pub name : g.name ≡ f.name
  pub text : g.text ≡ f.text
  pub mark : g.built_in ≡ f.built_in
  pub words : g.words ≡ f.words

pub alike : (f : SourceFile) → AreAlike f f
alike f = record { name = refl; text = refl; mark = refl; words = refl }

pub gathered_same : (told : Option (List Named)) (number : ℕ) (k : Known) (f g : SourceFile) → AreAlike f g → IsGathered told number k f → IsGathered told number k g
gathered_same told number k f g same old = record {
  named = same.name ∙ old.named;
  text = subst (λ t. HasText told k.place t) (sym same.text) old.text;
  marked = same.mark ∙ old.marked;
  lexed = subst (λ t. HasIncludes number t g.words k.includes) (sym same.text) (subst (λ ws. HasIncludes number f.text ws k.includes) (sym same.words) old.lexed);
}

-- a file that was linked is alike
linked_alike : (f : SourceFile) (l : Link) → AreAlike f (add_link f l)
linked_alike f l = record { name = refl; text = refl; mark = refl; words = refl }

pub link_file : (files : List SourceFile) (from n : ℕ) (l : Link) → from < length files →
    AreAlike (get_or files n no_file) (get_or (set files from (add_link (get_or files from no_file) l)) n no_file)
link_file files from n l below =
    let after : List SourceFile = set files from (add_link (get_or files from no_file) l) in
    elim (cases_order n from) [
      | inl same ↦ subst (λ m. AreAlike (get_or files m no_file) (get_or after m no_file)) (sym same)
          (subst (λ g. AreAlike (get_or files from no_file) g) (sym (get_or-set_same files from (add_link (get_or files from no_file) l) no_file below)) (linked_alike (get_or files from no_file) l))
      | inr apart ↦ let ne : n ≢ from = elim apart [ inl lt ↦ omega (arith, lt) | inr lt ↦ omega (arith, lt) ] in
          subst (λ g. AreAlike (get_or files n no_file) g) (sym (get_or-set_other files from n (add_link (get_or files from no_file) l) no_file ne)) (alike (get_or files n no_file))
    ]

stands_link : (told : Option (List Named)) (old new : Gathering) (from : ℕ) (name : List ℕ) (angle : Bool) (to : ℕ) → from < count_of old.sources →
    Stands told old → new.sources ≡ with_link old.sources from name angle to → new.known.items ≡ old.known.items → new.absent ≡ old.absent → Stands told new
stands_link told old new from name angle to below stands sources known absent =
    let l : Link = record { name = name; angle = angle; to = to } in
    let linked : AreGathered told old.known.items (with_link old.sources from name angle to) =
    λ n h. (gathered_same told n (get_or old.known.items n no_known) (get_or old.sources.files n no_file) _ (link_file old.sources.files from n l below) (stands.gathered n (omega (arith, length-set old.sources.files from (add_link (get_or old.sources.files from no_file) l), h)))) in
    record {
      known = ap length known ∙ (stands.known ∙ (sym (length-set old.sources.files from (add_link (get_or old.sources.files from no_file) l)) ∙ sym (ap count_of sources)));
      gathered = subst (λ k. AreGathered told k new.sources) (sym known) (subst (λ g. AreGathered told old.known.items g) (sym sources) linked);
      absent = subst (λ names. All (Lacks told) names) (sym absent) stands.absent;
    }

keeps_stands : (told : Option (List Named)) (old new : Gathering) → Stands told old → new.sources ≡ old.sources → new.known.items ≡ old.known.items → new.absent ≡ old.absent → Stands told new
keeps_stands told old new stands sources known absent = record {
  known = ap length known ∙ (stands.known ∙ sym (ap count_of sources));
  gathered = subst (λ k. AreGathered told k new.sources) (sym known) (subst (λ g. AreGathered told old.known.items g) (sym sources) stands.gathered);
  absent = subst (λ names. All (Lacks told) names) (sym absent) stands.absent;
}

stands_cond : (told : Option (List Named)) (old new : Gathering) (from : ℕ) (include : Include) (to : ℕ) (b : Bool) → from < count_of old.sources → Stands told old →
    new.sources ≡ cond b old.sources (with_link old.sources from include.name include.angle to) → new.known.items ≡ old.known.items → new.absent ≡ old.absent → Stands told new
stands_cond told old new from include to true below stands sources known absent = keeps_stands told old new stands sources known absent
stands_cond told old new from include to false below stands sources known absent = stands_link told old new from include.name include.angle to below stands sources known absent

pub links_stands : (told : Option (List Named)) (old new : Gathering) (from : ℕ) (include : Include) (to : ℕ) → from < count_of old.sources → Stands told old → Links old new from include to → Stands told new
links_stands told old new from include to below stands links =
    stands_cond told old new from include to (is_some (candidate_of old.sources from include.name include.angle)) below stands links.sources links.known links.absent

pub not_here : (known : List Known) (place : Place) (number : ℕ) → ((known_at known number).place ≡ place → ⊥) → IsAt known place number → ⊥
not_here known place number apart at = apart at.place_of

pub all_new : (known : List Known) (place : Place) (count : ℕ) → length known ≤ count → ((k : ℕ) → k < count → IsAt known place k → ⊥) → IsNew known place
all_new known place count few none number at = none number (omega (arith, few, at.held)) at

pub file_added : (old new : Gathering) (place : Place) (depth number : ℕ) (name text : List ℕ) (words : List WordPlace) (includes : List Include) →
    number ≡ count_of old.sources → new.sources ≡ with_file old.sources name text (is_header_place place) words → name ≡ name_at place → HasIncludes number text words includes →
    new.known.items ≡ old.known.items ++ (record { place = place; depth = depth; includes = includes }) ∷ [] → AddsFile old new place depth text number
file_added old new place depth number name text words includes next sources named lexed known = record {
  words = words;
  includes = includes;
  next = next;
  sources = sources ∙ ap (λ n. with_file old.sources n text (is_header_place place) words) named;
  lexed = lexed;
  known = known;
}

pub header_at : (told : Option (List Named)) (asked text other bytes : List ℕ) → Some text ≡ header_of asked → other ≡ asked → bytes ≡ text → HasFront told (Header other) bytes
header_at told asked text other bytes found same copied = ap header_of same ∙ (sym found ∙ ap Some (sym copied))

pub added_file : (told : Option (List Named)) (old new : Gathering) (name other before text : List ℕ) (depth number : ℕ) →
    IsNew old.known.items (File name) → present old.known.items < 256 → other ≡ name → before ≡ [] → GrowsByFile told name 1048577 before text → AddsFile old new (File other) depth text number →
    IsLocated told old new (File name) depth number
added_file told old new name other before text depth number new_place room same none grows adds =
    adds_located told old new (File name) depth text number new_place room (front_of told name name before text refl none grows)
    (subst (λ n. AddsFile old new (File n) depth text number) same adds)

pub file_fails_to_add : (told : Option (List Named)) (old new : Gathering) (name other before text : List ℕ) (trouble : Trouble) →
    IsNew old.known.items (File name) → present old.known.items < 256 → other ≡ name → before ≡ [] → GrowsByFile told name 1048577 before text → FailsToAdd old new (File other) text trouble →
    Fails told old new (File name) trouble
file_fails_to_add told old new name other before text trouble new_place room same none grows fails =
    fails_to_add told old new (File name) text trouble new_place room (front_of told name name before text refl none grows)
    (subst (λ n. FailsToAdd old new (File n) text trouble) same fails)
