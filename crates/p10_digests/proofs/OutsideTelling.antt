-- The lines outside bodies tell the words there, run by run.
use Rattle.std.proofs.Common.{◌≡◌, ◌==◌, false, cond, List, [], ◌∷◌, ◌++◌, Some, map, codes, refl, sym, ap, ◌∙◌, append_assoc, append-nil}
use Rattle.std.specs.Prelude.{◌↔◌}
use Rattle.std.specs.List.{flat_map, slice_get}
use Rattle.p10_base.specs.declared.word.Kind.{Kind}
use Rattle.p10_base.specs.declared.word.Kind.TheVariants as kind
use Rattle.p10_base.specs.Words.{Text, PlainWord}
use Rattle.p10_digests.specs.Lines.{prefix_of, hashed_lines}
use Rattle.p10_digests.specs.Bare.{BareWord, is_mark_kind, bare_word, bare_words, IsProgramWord, AreProgramWords}
use Rattle.p10_digests.specs.Parted.{Stretch, PartedRoot, stretch_lines, root_lines, runs_from, runs_of, HaveProgramWords, OutsideAreProgramWords}
use Rattle.p10_digests.proofs.Patterns.{not_equal}
use Rattle.p10_digests.proofs.Splitting.{split, split_words, shown}
use Rattle.p10_digests.proofs.Telling.{read, read_word, bare_lines, lines_are_bare}

-- ---- runs from lines

-- the runs of a root from some line on, and those of the roots after it
pub record Gathered : Type 0 where
  pub first : List BareWord
  pub others : List (List BareWord)
  pub roots : List (List (List BareWord))

-- one word more
abbrev with_word : BareWord → Gathered → Gathered
with_word word g = record { first = word ∷ g.first; others = g.others; roots = g.roots }

-- a line `@`, or `@@`
abbrev with_sign : Text → Gathered → Gathered
with_sign [] g = record { first = []; others = g.first ∷ g.others; roots = g.roots }
with_sign (b ∷ text) g = record { first = []; others = []; roots = (g.first ∷ g.others) ∷ g.roots }

-- a line more
abbrev with_line : Text → Gathered → Gathered
with_line [] g = with_word (read []) g
with_line (b ∷ text) g = cond (b == 64) (with_sign text g) (with_word (read (b ∷ text)) g)

-- what lines tell
abbrev gathered : List Text → Gathered
gathered [] = record { first = []; others = []; roots = [] }
gathered (line ∷ lines) = with_line line (gathered lines)

with_unmarked : (text : Text) (g : Gathered) → (slice_get text 0 ≡ Some 64 → ⊥) → with_line text g ≡ with_word (read text) g
with_unmarked [] g other = refl
with_unmarked (b ∷ text) g other =
    let differs : (b == 64) ≡ false = not_equal b 64 (λ e. other (ap Some e)) in
    rw differs refl

with_kind : (kind : Kind) (text : Text) (g : Gathered) → (is_mark_kind kind ≡ false → slice_get text 0 ≡ Some 64 → ⊥) → with_line (prefix_of kind ++ text) g ≡ with_word (read (prefix_of kind ++ text)) g
with_kind kind.Mark text g other = refl
with_kind kind.Name text g other = with_unmarked text g (other refl)
with_kind kind.Number text g other = with_unmarked text g (other refl)
with_kind kind.Char text g other = with_unmarked text g (other refl)
with_kind kind.Str text g other = with_unmarked text g (other refl)
with_kind kind.Punct text g other = with_unmarked text g (other refl)

with_shown : (word : PlainWord) (g : Gathered) → IsProgramWord word → with_line (shown word) g ≡ with_word (bare_word word) g
with_shown word g good = with_kind word.kind word.text g good.body ∙ ap (λ w. with_word w g) (read_word word good)

-- words more
abbrev with_words : List BareWord → Gathered → Gathered
with_words words g = record { first = words ++ g.first; others = g.others; roots = g.roots }

with_all_shown : (words : List PlainWord) (lines : List Text) → AreProgramWords words → gathered (map shown words ++ lines) ≡ with_words (bare_words words) (gathered lines)
with_all_shown [] lines good = refl
with_all_shown (w ∷ words) lines good =
    ap (with_line (shown w)) (with_all_shown words lines good.1)
    ∙ with_shown w (with_words (bare_words words) (gathered lines)) good.0

-- ---- roots

-- the lines of stretches and of the words after them
abbrev stretch_texts : List Stretch → List PlainWord → List Text
stretch_texts [] after = map shown after
stretch_texts (s ∷ stretches) after = map shown s.before ++ (codes "@" ∷ stretch_texts stretches after)

-- the lines of roots
abbrev root_texts : List PartedRoot → List Text
root_texts [] = []
root_texts (root ∷ roots) = codes "@@" ∷ (stretch_texts root.stretches root.after ++ root_texts roots)

split_stretches : (stretches : List Stretch) (after : List PlainWord) (rest : Text) → HaveProgramWords stretches → AreProgramWords after
    → split ((stretch_lines stretches ++ hashed_lines after) ++ rest) ≡ stretch_texts stretches after ++ split rest
split_stretches [] after rest good last = split_words after rest last
split_stretches (s ∷ stretches) after rest good last =
    let more : Text = stretch_lines stretches ++ hashed_lines after in
    let whole : ((hashed_lines s.before ++ (codes "@\n" ++ stretch_lines stretches)) ++ hashed_lines after) ++ rest ≡ hashed_lines s.before ++ (codes "@\n" ++ (more ++ rest)) =
    ap (λ t. t ++ rest) (append_assoc (hashed_lines s.before) (codes "@\n" ++ stretch_lines stretches) (hashed_lines after)) ∙ append_assoc (hashed_lines s.before) (codes "@\n" ++ more) rest in
    ap split whole
    ∙ split_words s.before (codes "@\n" ++ (more ++ rest)) good.0
    ∙ ap (λ lines. map shown s.before ++ (codes "@" ∷ lines)) (split_stretches stretches after rest good.1 last)
    ∙ sym (append_assoc (map shown s.before) (codes "@" ∷ stretch_texts stretches after) (split rest))

split_roots : (roots : List PartedRoot) → OutsideAreProgramWords roots → split (flat_map root_lines roots) ≡ root_texts roots
split_roots [] good = refl
split_roots (root ∷ roots) good =
    ap (λ lines. codes "@@" ∷ lines) (split_stretches root.stretches root.after (flat_map root_lines roots) good.0 good.1 ∙ ap (λ lines. stretch_texts root.stretches root.after ++ lines) (split_roots roots good.2))

-- before roots there is no run
no_run : (roots : List PartedRoot) → (gathered (root_texts roots)).first ≡ []
no_run [] = refl
no_run (root ∷ roots) = refl

no_others : (roots : List PartedRoot) → (gathered (root_texts roots)).others ≡ []
no_others [] = refl
no_others (root ∷ roots) = refl

runs_again : (stretches : List Stretch) (after : List PlainWord) (roots : List PartedRoot) → HaveProgramWords stretches → AreProgramWords after
    → (gathered (stretch_texts stretches after ++ root_texts roots)).first ∷ (gathered (stretch_texts stretches after ++ root_texts roots)).others ≡ runs_from stretches after
runs_again [] after roots good last =
    ap (λ g. g.first ∷ g.others) (with_all_shown after (root_texts roots) last)
    ∙ ap (λ run. (bare_words after ++ run) ∷ (gathered (root_texts roots)).others) (no_run roots)
    ∙ ap (λ run. run ∷ (gathered (root_texts roots)).others) (append-nil (bare_words after))
    ∙ ap (λ runs. bare_words after ∷ runs) (no_others roots)
runs_again (s ∷ stretches) after roots good last =
    let lines : List Text = stretch_texts stretches after ++ root_texts roots in
    ap (λ ls. (gathered ls).first ∷ (gathered ls).others) (append_assoc (map shown s.before) (codes "@" ∷ stretch_texts stretches after) (root_texts roots))
    ∙ ap (λ g. g.first ∷ g.others) (with_all_shown s.before (codes "@" ∷ lines) good.0)
    ∙ ap (λ run. run ∷ ((gathered lines).first ∷ (gathered lines).others)) (append-nil (bare_words s.before))
    ∙ ap (λ runs. bare_words s.before ∷ runs) (runs_again stretches after roots good.1 last)

roots_after : (stretches : List Stretch) (after : List PlainWord) (roots : List PartedRoot) → HaveProgramWords stretches → AreProgramWords after
    → (gathered (stretch_texts stretches after ++ root_texts roots)).roots ≡ (gathered (root_texts roots)).roots
roots_after [] after roots good last = ap (λ g. g.roots) (with_all_shown after (root_texts roots) last)
roots_after (s ∷ stretches) after roots good last =
    let lines : List Text = stretch_texts stretches after ++ root_texts roots in
    ap (λ ls. (gathered ls).roots) (append_assoc (map shown s.before) (codes "@" ∷ stretch_texts stretches after) (root_texts roots))
    ∙ ap (λ g. g.roots) (with_all_shown s.before (codes "@" ∷ lines) good.0)
    ∙ roots_after stretches after roots good.1 last

roots_again : (roots : List PartedRoot) → OutsideAreProgramWords roots → (gathered (root_texts roots)).roots ≡ map runs_of roots
roots_again [] good = refl
roots_again (root ∷ roots) good =
    ap (λ runs. runs ∷ (gathered (stretch_texts root.stretches root.after ++ root_texts roots)).roots) (runs_again root.stretches root.after roots good.0 good.1)
    ∙ ap (λ rest. runs_of root ∷ rest) (roots_after root.stretches root.after roots good.0 good.1 ∙ roots_again roots good.2)

told_again : (roots : List PartedRoot) → OutsideAreProgramWords roots → (gathered (split (flat_map root_lines roots))).roots ≡ map runs_of roots
told_again roots good = ap (λ lines. (gathered lines).roots) (split_roots roots good) ∙ roots_again roots good

-- ---- runs have lines

-- the lines of the runs after the first
abbrev lines_between : List (List BareWord) → Text
lines_between [] = []
lines_between (run ∷ runs) = codes "@\n" ++ (bare_lines run ++ lines_between runs)

-- the lines of a root with these runs
abbrev run_lines : List (List BareWord) → Text
run_lines [] = codes "@@\n"
run_lines (run ∷ runs) = codes "@@\n" ++ (bare_lines run ++ lines_between runs)

between_are_runs : (stretches : List Stretch) (after : List PlainWord) → codes "@\n" ++ (stretch_lines stretches ++ hashed_lines after) ≡ lines_between (runs_from stretches after)
between_are_runs [] after = ap (λ t. codes "@\n" ++ t) (lines_are_bare after ∙ sym (append-nil (bare_lines (bare_words after))))
between_are_runs (s ∷ stretches) after =
    ap (λ t. codes "@\n" ++ t) (append_assoc (hashed_lines s.before) (codes "@\n" ++ stretch_lines stretches) (hashed_lines after)
    ∙ ap (λ t. t ++ (codes "@\n" ++ (stretch_lines stretches ++ hashed_lines after))) (lines_are_bare s.before)
    ∙ ap (λ t. bare_lines (bare_words s.before) ++ t) (between_are_runs stretches after))

root_is_runs : (root : PartedRoot) → root_lines root ≡ run_lines (runs_of root)
root_is_runs root = by_stretches root.stretches
  where
    by_stretches : (stretches : List Stretch) → codes "@@\n" ++ (stretch_lines stretches ++ hashed_lines root.after) ≡ run_lines (runs_from stretches root.after)
    by_stretches [] = ap (λ t. codes "@@\n" ++ t) (lines_are_bare root.after ∙ sym (append-nil (bare_lines (bare_words root.after))))
    by_stretches (s ∷ stretches) =
        ap (λ t. codes "@@\n" ++ t) (append_assoc (hashed_lines s.before) (codes "@\n" ++ stretch_lines stretches) (hashed_lines root.after)
        ∙ ap (λ t. t ++ (codes "@\n" ++ (stretch_lines stretches ++ hashed_lines root.after))) (lines_are_bare s.before)
        ∙ ap (λ t. bare_lines (bare_words s.before) ++ t) (between_are_runs stretches root.after))

roots_are_runs : (roots : List PartedRoot) → flat_map root_lines roots ≡ flat_map run_lines (map runs_of roots)
roots_are_runs [] = refl
roots_are_runs (root ∷ roots) = ap (λ t. t ++ flat_map root_lines roots) (root_is_runs root) ∙ ap (λ t. run_lines (runs_of root) ++ t) (roots_are_runs roots)

pub outside_tells_words : (xs ys : List PartedRoot) → OutsideAreProgramWords xs → OutsideAreProgramWords ys → (flat_map root_lines xs ≡ flat_map root_lines ys) ↔ (map runs_of xs ≡ map runs_of ys)
outside_tells_words xs ys left right = (
  (λ e. sym (told_again xs left) ∙ ap (λ t. (gathered (split t)).roots) e ∙ told_again ys right),
  (λ e. roots_are_runs xs ∙ ap (flat_map run_lines) e ∙ sym (roots_are_runs ys)),
)
