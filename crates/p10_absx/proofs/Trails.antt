-- What an environment's trail keeps where entries are changed and branches are opened and taken back.
use Rattle.std.proofs.Common.{◌≡◌, ℕ, zero, suc, ◌+◌, ◌<◌, ◌≤◌, eqb, Bool, true, false, List, [], ◌∷◌, ◌++◌, reverse, take, get_or, length, Option, Some, None, refl, ap, sym, ◌∙◌, subst, inl, inr, arith}
use Rattle.std.specs.Prelude.{slice_get, slice_set, ◌⊎◌, if◌then◌else◌}
use Rattle.std.specs.Option.{option_map}
use Rattle.std.proofs.lemmas.List.{length-map, length-reverse, reverse-append, set_past, map-append, take_more}
use Rattle.std.proofs.lemmas.Bool.Decides.{nat_tests}
use Rattle.std.proofs.lemmas.Bool.{eqb-true}
use Rattle.p10_absx.specs.declared.notes.Entry.{Entry}
use Rattle.p10_absx.specs.declared.notes.Note.{Note}
use Rattle.p10_absx.specs.declared.notes.Note.TheVariants.{Opened, Was}
use Rattle.p10_absx.specs.declared.abs.Abs.{Abs}
use Rattle.p10_absx.specs.Abstract.{Abstract, abstract_of}
use Rattle.p10_absx.specs.Environments.{Environment}
use Rattle.p10_absx.specs.Trails.{Branching, known_in_entries, outer_of, branching_of, back, branched}
use Rattle.p10_absx.specs.private.Kept.{unnoted, branch_from, IsNotedIn, IsBranch, AreBranches, IsTrail, Changed, Taken, taken_back}
use Rattle.p10_absx.proofs.Entries.{got_after, set_map, set_again, set_apart, set_same}

-- ## Counts

branch_below : (notes : List Note) → branch_from notes ≤ length notes
branch_below [] = omega arith
branch_below (Opened b ∷ notes) = omega arith
branch_below (Was n e ∷ notes) = let h : branch_from notes ≤ length notes = branch_below notes in omega arith

one_if : (b : Bool) → (if b then 0 else 1) ≤ 1
one_if true = omega arith
one_if false = omega arith

unnoted_few : (b : ℕ) (entries : List Entry) → unnoted b entries ≤ length entries
unnoted_few b [] = omega arith
unnoted_few b (e ∷ entries) = let h : unnoted b entries ≤ length entries = unnoted_few b entries in omega (arith, one_if (eqb e.noted b))

none_if : (b : Bool) → b ≡ true → ◌≡◌ {A = ℕ} (if b then 0 else 1) 0
none_if true e = refl
none_if false e = absurd cc

one_when : (b : Bool) → b ≡ false → ◌≡◌ {A = ℕ} (if b then 0 else 1) 1
one_when true e = absurd cc
one_when false e = refl

eqb_same : (n : ℕ) → eqb n n ≡ true
eqb_same n = grind (arith, nat_tests)

eqb_other : (m n : ℕ) → (m ≡ n → ⊥) → eqb m n ≡ false
eqb_other m n h = grind (arith, nat_tests)

-- an entry that had no note gets one
unnoted_less : (b : ℕ) (entries : List Entry) (n : ℕ) (e new : Entry) → slice_get entries n ≡ Some e → (e.noted ≡ b → ⊥) → new.noted ≡ b →
    suc (unnoted b (slice_set entries n new)) ≡ unnoted b entries
unnoted_less b [] n e new g h k = absurd cc
unnoted_less b (x ∷ entries) zero e new g h k =
    let same : x ≡ e = cc in
    let f : eqb x.noted b ≡ false = eqb_other x.noted b (λ p. h (ap (λ (y : Entry). y.noted) (sym same) ∙ p)) in
    let t : eqb new.noted b ≡ true = subst (λ m. eqb m b ≡ true) (sym k) (eqb_same b) in
    omega (arith, one_when (eqb x.noted b) f, none_if (eqb new.noted b) t)
unnoted_less b (x ∷ entries) (suc n) e new g h k =
    let p : suc (unnoted b (slice_set entries n new)) ≡ unnoted b entries = unnoted_less b entries n e new g h k in omega arith

-- one that had one keeps it
unnoted_same : (b : ℕ) (entries : List Entry) (n : ℕ) (e new : Entry) → slice_get entries n ≡ Some e → e.noted ≡ b → new.noted ≡ b →
    unnoted b (slice_set entries n new) ≡ unnoted b entries
unnoted_same b [] n e new g h k = refl
unnoted_same b (x ∷ entries) zero e new g h k =
    let same : x ≡ e = cc in
    let p : new.noted ≡ x.noted = k ∙ sym (ap (λ (y : Entry). y.noted) same ∙ h) in
    ap (λ m. (if eqb m b then 0 else 1) + unnoted b entries) p
unnoted_same b (x ∷ entries) (suc n) e new g h k = ap (λ m. (if eqb x.noted b then 0 else 1) + m) (unnoted_same b entries n e new g h k)

-- ## Room that grows

grown : (room more branch : ℕ) (entries : List Entry) (notes : List Note) → room ≤ more → IsBranch room branch entries notes → IsBranch more branch entries notes
grown room more branch entries notes l b = record {
  branch_is = b.branch_is;
  none = b.none;
  before = b.before;
  noted = b.noted;
  fits = λ h. let f : length notes + unnoted branch entries ≤ room = b.fits h in omega arith;
}

others_grown : (room more : ℕ) (entries : List Entry) (notes : List Note) → room ≤ more → AreBranches room entries notes → AreBranches more entries notes
others_grown room more entries [] l a = tt
others_grown room more entries (Opened b ∷ notes) l a = (grown room more b entries notes l a.0, others_grown room more entries notes l a.1)
others_grown room more entries (Was n e ∷ notes) l a = others_grown room more (slice_set entries n e) notes l a

-- ## An entry is changed

-- one that has a note: what was before it is as it was
pub outer_stays : (entries : List Entry) (notes : List Note) (n : ℕ) (new : Entry) → IsNotedIn n notes → outer_of (slice_set entries n new) notes ≡ outer_of entries notes
outer_stays entries [] n new h = absurd h
outer_stays entries (Opened b ∷ notes) n new h = absurd h
outer_stays entries (Was m e ∷ notes) n new (inl p) =
    ap (λ es. outer_of es notes) (subst (λ k. slice_set (slice_set entries n new) k e ≡ slice_set entries k e) (sym p) (set_again entries n new e))
outer_stays entries (Was m e ∷ notes) n new (inr h) = at_case (eqb n m) refl (outer_stays (slice_set entries m e) notes n new h)
  where
    at_case : (b : Bool) → eqb n m ≡ b → outer_of (slice_set (slice_set entries m e) n new) notes ≡ outer_of (slice_set entries m e) notes →
        outer_of (slice_set (slice_set entries n new) m e) notes ≡ outer_of (slice_set entries m e) notes
    at_case true q k = let p : n ≡ m = eqb-true n m q in
        ap (λ es. outer_of es notes) (subst (λ k. slice_set (slice_set entries n new) k e ≡ slice_set entries k e) p (set_again entries n new e))
    at_case false q k = let d : (n ≡ m → ⊥) = λ p. absurd (grind (arith, nat_tests, p, q)) in
        ap (λ es. outer_of es notes) (set_apart entries n m new e d) ∙ k

others_stay : (room : ℕ) (entries : List Entry) (notes : List Note) (n : ℕ) (new : Entry) → IsNotedIn n notes → AreBranches room entries notes → AreBranches room (slice_set entries n new) notes
others_stay room entries [] n new h a = absurd h
others_stay room entries (Opened b ∷ notes) n new h a = absurd h
others_stay room entries (Was m e ∷ notes) n new (inl p) a =
    subst (λ es. AreBranches room es notes) (sym (subst (λ k. slice_set (slice_set entries n new) k e ≡ slice_set entries k e) (sym p) (set_again entries n new e))) a
others_stay room entries (Was m e ∷ notes) n new (inr h) a = at_case (eqb n m) refl (others_stay room (slice_set entries m e) notes n new h a)
  where
    at_case : (b : Bool) → eqb n m ≡ b → AreBranches room (slice_set (slice_set entries m e) n new) notes → AreBranches room (slice_set (slice_set entries n new) m e) notes
    at_case true q k = let p : n ≡ m = eqb-true n m q in
        subst (λ es. AreBranches room es notes) (sym (subst (λ k. slice_set (slice_set entries n new) k e ≡ slice_set entries k e) p (set_again entries n new e))) a
    at_case false q k = let d : (n ≡ m → ⊥) = λ p. absurd (grind (arith, nat_tests, p, q)) in
        subst (λ es. AreBranches room es notes) (sym (set_apart entries n m new e d)) k

-- an entry with something else in it, noted in a branch
abbrev pub entry_with : Option Abs → ℕ → Entry
entry_with known branch = record { known = known; noted = branch }

seen_of : (entries : List Entry) (n : ℕ) (known : Option Abs) (branch : ℕ) (outer others : List Environment) → outer ≡ others →
    let b : Branching = record { values = known_in_entries (slice_set entries n (entry_with known branch)); outer = outer } in
    let o : Branching = record { values = slice_set (known_in_entries entries) n (option_map abstract_of known); outer = others } in b ≡ o
seen_of entries n known branch outer others e =
    let f : Entry → Option Abstract = λ (e : Entry). option_map abstract_of e.known in
    let p : known_in_entries (slice_set entries n (entry_with known branch)) ≡ slice_set (known_in_entries entries) n (option_map abstract_of known) =
    set_map f entries n (entry_with known branch) in
    λ i. record { values = p i; outer = e i }

noted_after : (branch : ℕ) (entries : List Entry) (notes after : List Note) (n : ℕ) (new : Entry) →
    ((m : ℕ) (e : Entry) → slice_get entries m ≡ Some e → e.noted ≡ branch → 0 < branch → IsNotedIn m notes) → (IsNotedIn n after ⊎ (branch ≡ 0)) →
    ((m : ℕ) → IsNotedIn m notes → IsNotedIn m after) →
    (m : ℕ) (e : Entry) → slice_get (slice_set entries n new) m ≡ Some e → e.noted ≡ branch → 0 < branch → IsNotedIn m after
noted_after branch entries notes after n new noted here more m e g h l =
    elim (got_after entries n m new e g) [
      | inl p ↦ elim here [ inl k ↦ subst (λ j. IsNotedIn j after) (sym p.0) k | inr z ↦ absurd (omega (arith, z, l)) ]
      | inr p ↦ more m (noted m e p.1 h l)
    ]

before_after : (branch : ℕ) (entries : List Entry) (n : ℕ) (new : Entry) → ((m : ℕ) (e : Entry) → slice_get entries m ≡ Some e → e.noted ≤ branch) → new.noted ≡ branch →
    (m : ℕ) (e : Entry) → slice_get (slice_set entries n new) m ≡ Some e → e.noted ≤ branch
before_after branch entries n new before is m e g =
    elim (got_after entries n m new e g) [
      | inl p ↦ let q : e.noted ≡ branch = ap (λ (x : Entry). x.noted) p.1 ∙ is in omega arith
      | inr p ↦ before m e p.1
    ]

-- one whose number is past the end
pub changed_none : (room branch : ℕ) (entries : List Entry) (notes : List Note) (n : ℕ) (known : Option Abs) → length entries ≤ n →
    IsTrail room branch entries (reverse notes) → Changed room branch entries notes n known entries notes
changed_none room branch entries notes n known past t =
    let k : length (known_in_entries entries) ≤ n = omega (arith, length-map entries (λ (e : Entry). option_map abstract_of e.known)) in
    let p : slice_set (known_in_entries entries) n (option_map abstract_of known) ≡ known_in_entries entries = set_past (known_in_entries entries) n _ k in
    record { kept = t; seen = λ i. record { values = sym p i; outer = outer_of entries (reverse notes) } }

-- one that has a note in the branch
again_at : (branch : ℕ) (room : ℕ) (entries : List Entry) (notes : List Note) (n : ℕ) (e : Entry) (known : Option Abs) → slice_get entries n ≡ Some e → e.noted ≡ branch →
    IsTrail room branch entries (reverse notes) → Changed room branch entries notes n known (slice_set entries n (entry_with known branch)) notes
again_at zero room entries notes n e known g h t =
    let none : reverse notes ≡ [] = t.innermost.none refl in
    record {
      kept = record {
        innermost = record {
          branch_is = t.innermost.branch_is;
          none = t.innermost.none;
          before = before_after 0 entries n (entry_with known 0) t.innermost.before refl;
          noted = λ m e g h l. absurd (omega (arith, l));
          fits = λ l. absurd (omega (arith, l));
        };
        others = subst (λ ns. AreBranches room (slice_set entries n (entry_with known 0)) ns) (sym none) tt;
      };
      seen = seen_of entries n known 0 _ _ (ap (λ ns. outer_of (slice_set entries n (entry_with known 0)) ns) none ∙ sym (ap (λ ns. outer_of entries ns) none));
    }
again_at (suc branch) room entries notes n e known g h t =
    let here : IsNotedIn n (reverse notes) = t.innermost.noted n e g h (omega arith) in
    record {
      kept = record {
        innermost = record {
          branch_is = t.innermost.branch_is;
          none = t.innermost.none;
          before = before_after (suc branch) entries n (entry_with known (suc branch)) t.innermost.before refl;
          noted = noted_after (suc branch) entries (reverse notes) (reverse notes) n (entry_with known (suc branch)) t.innermost.noted (inl here) (λ m k. k);
          fits = λ l. let f : length (reverse notes) + unnoted (suc branch) entries ≤ room = t.innermost.fits l in
              let u : unnoted (suc branch) (slice_set entries n (entry_with known (suc branch))) ≡ unnoted (suc branch) entries =
              unnoted_same (suc branch) entries n e (entry_with known (suc branch)) g h refl in omega arith;
        };
        others = others_stay room entries (reverse notes) n (entry_with known (suc branch)) here t.others;
      };
      seen = seen_of entries n known (suc branch) _ _ (outer_stays entries (reverse notes) n (entry_with known (suc branch)) here);
    }

pub changed_again : (room branch : ℕ) (entries : List Entry) (notes : List Note) (n : ℕ) (e : Entry) (known : Option Abs) → slice_get entries n ≡ Some e → e.noted ≡ branch →
    IsTrail room branch entries (reverse notes) → Changed room branch entries notes n known (slice_set entries n (entry_with known branch)) notes
changed_again room branch = again_at branch room

-- a branch is open where an entry isn't noted in it
pub is_open : (room branch : ℕ) (entries : List Entry) (notes : List Note) (n : ℕ) (e : Entry) → slice_get entries n ≡ Some e → (e.noted ≡ branch → ⊥) → IsTrail room branch entries notes → 0 < branch
is_open room branch entries notes n e g h t = let b : e.noted ≤ branch = t.innermost.before n e g in omega (arith, h)

-- there is room for the note of an entry that has none
pub has_room : (room branch : ℕ) (entries : List Entry) (notes : List Note) (n : ℕ) (e : Entry) → slice_get entries n ≡ Some e → (e.noted ≡ branch → ⊥) →
    IsTrail room branch entries (reverse notes) → length notes < room
has_room room branch entries notes n e g h t =
    let o : 0 < branch = is_open room branch entries (reverse notes) n e g h t in
    let f : length (reverse notes) + unnoted branch entries ≤ room = t.innermost.fits o in
    let u : suc (unnoted branch (slice_set entries n (entry_with None branch))) ≡ unnoted branch entries = unnoted_less branch entries n e (entry_with None branch) g h refl in
    omega (arith, length-reverse notes)

-- one that gets its note
first_of : (room branch : ℕ) (entries : List Entry) (notes : List Note) (n : ℕ) (e : Entry) (known : Option Abs) → slice_get entries n ≡ Some e → (e.noted ≡ branch → ⊥) →
    IsTrail room branch entries notes → IsTrail room branch (slice_set entries n (entry_with known branch)) (Was n e ∷ notes)
first_of room branch entries notes n e known g h t =
    let o : 0 < branch = is_open room branch entries notes n e g h t in
    record {
      innermost = record {
        branch_is = t.innermost.branch_is;
        none = λ z. absurd (omega (arith, z, o));
        before = before_after branch entries n (entry_with known branch) t.innermost.before refl;
        noted = noted_after branch entries notes (Was n e ∷ notes) n (entry_with known branch) t.innermost.noted (inl (inl refl)) (λ m k. inr k);
        fits = λ l. let f : length notes + unnoted branch entries ≤ room = t.innermost.fits l in
            let u : suc (unnoted branch (slice_set entries n (entry_with known branch))) ≡ unnoted branch entries = unnoted_less branch entries n e (entry_with known branch) g h refl in omega arith;
      };
      others = subst (λ es. AreBranches room es notes) (sym (set_again entries n (entry_with known branch) e ∙ set_same entries n e g)) t.others;
    }

pub changed_first : (room more branch : ℕ) (entries : List Entry) (notes : List Note) (n : ℕ) (e : Entry) (known : Option Abs) → room ≤ more → slice_get entries n ≡ Some e → (e.noted ≡ branch → ⊥) →
    IsTrail room branch entries (reverse notes) → Changed more branch entries notes n known (slice_set entries n (entry_with known branch)) (notes ++ Was n e ∷ [])
changed_first room more branch entries notes n e known l g h t =
    let r : reverse (notes ++ Was n e ∷ []) ≡ Was n e ∷ reverse notes = reverse-append notes (Was n e ∷ []) in
    let k : IsTrail room branch (slice_set entries n (entry_with known branch)) (Was n e ∷ reverse notes) = first_of room branch entries (reverse notes) n e known g h t in
    let o : outer_of (slice_set entries n (entry_with known branch)) (Was n e ∷ reverse notes) ≡ outer_of entries (reverse notes) =
    ap (λ es. outer_of es (reverse notes)) (set_again entries n (entry_with known branch) e ∙ set_same entries n e g) in
    record {
      kept = subst (λ ns. IsTrail more branch (slice_set entries n (entry_with known branch)) ns) (sym r) (record {
        innermost = grown room more branch (slice_set entries n (entry_with known branch)) (Was n e ∷ reverse notes) l k.innermost;
        others = others_grown room more (slice_set entries n (entry_with known branch)) (Was n e ∷ reverse notes) l k.others;
      });
      seen = seen_of entries n known branch _ _ (ap (λ ns. outer_of (slice_set entries n (entry_with known branch)) ns) r ∙ o);
    }

-- ## Branches

-- a branch is opened
pub opened_trail : (room more branch : ℕ) (entries : List Entry) (notes : List Note) → room ≤ more → length notes + suc (length entries) ≤ more →
    IsTrail room branch entries (reverse notes) → IsTrail more (suc (length notes)) entries (reverse (notes ++ Opened branch ∷ []))
opened_trail room more branch entries notes l f t =
    let r : reverse (notes ++ Opened branch ∷ []) ≡ Opened branch ∷ reverse notes = reverse-append notes (Opened branch ∷ []) in
    let low : branch ≤ length notes = let b : branch_from (reverse notes) ≤ length (reverse notes) = branch_below (reverse notes) in omega (arith, t.innermost.branch_is, length-reverse notes) in
    subst (λ ns. IsTrail more (suc (length notes)) entries ns) (sym r) (record {
      innermost = record {
        branch_is = ap suc (sym (length-reverse notes));
        none = λ z. absurd (omega (arith, z));
        before = λ m e g. let b : e.noted ≤ branch = t.innermost.before m e g in omega arith;
        noted = λ m e g h z. let b : e.noted ≤ branch = t.innermost.before m e g in absurd (omega (arith, h));
        fits = λ z. let u : unnoted (suc (length notes)) entries ≤ length entries = unnoted_few (suc (length notes)) entries in omega (arith, length-reverse notes);
      };
      others = (grown room more branch entries (reverse notes) l t.innermost, others_grown room more entries (reverse notes) l t.others);
    })

pub opened_seen : (entries : List Entry) (notes : List Note) (branch : ℕ) → branching_of entries (notes ++ Opened branch ∷ []) ≡ branched (branching_of entries notes)
opened_seen entries notes branch =
    let p : outer_of entries (reverse (notes ++ Opened branch ∷ [])) ≡ known_in_entries entries ∷ outer_of entries (reverse notes) =
    ap (λ ns. outer_of entries ns) (reverse-append notes (Opened branch ∷ [])) in
    λ i. record { values = known_in_entries entries; outer = p i }

-- the innermost branch is taken back
taken_trail : (room : ℕ) (entries : List Entry) (notes : List Note) → 0 < branch_from notes → AreBranches room entries notes →
    IsTrail room (taken_back entries notes).branch (taken_back entries notes).entries (taken_back entries notes).notes
taken_trail room entries [] h a = absurd (omega (arith, h))
taken_trail room entries (Opened b ∷ notes) h a = record { innermost = a.0; others = a.1 }
taken_trail room entries (Was n e ∷ notes) h a = taken_trail room (slice_set entries n e) notes h a

taken_outer : (entries : List Entry) (notes : List Note) → 0 < branch_from notes →
    outer_of entries notes ≡ known_in_entries (taken_back entries notes).entries ∷ outer_of (taken_back entries notes).entries (taken_back entries notes).notes
taken_outer entries [] h = absurd (omega (arith, h))
taken_outer entries (Opened b ∷ notes) h = refl
taken_outer entries (Was n e ∷ notes) h = taken_outer (slice_set entries n e) notes h

pub taken_kept : (room branch : ℕ) (entries : List Entry) (notes : List Note) (t : Taken) → 0 < branch → IsTrail room branch entries notes → taken_back entries notes ≡ t → IsTrail room t.branch t.entries t.notes
taken_kept room branch entries notes t h k e =
    let o : 0 < branch_from notes = omega (arith, k.innermost.branch_is) in
    subst (λ (t : Taken). IsTrail room t.branch t.entries t.notes) e (taken_trail room entries notes o k.others)

pub taken_seen : (room branch : ℕ) (entries : List Entry) (notes : List Note) (now : List Entry) (after : List Note) (outside : ℕ) → 0 < branch → IsTrail room branch entries (reverse notes) →
    taken_back entries (reverse notes) ≡ record { entries = now; notes = reverse after; branch = outside } → branching_of now after ≡ back (branching_of entries notes)
taken_seen room branch entries notes now after outside h k e =
    let o : 0 < branch_from (reverse notes) = omega (arith, k.innermost.branch_is) in
    let p : outer_of entries (reverse notes) ≡ known_in_entries now ∷ outer_of now (reverse after) =
    taken_outer entries (reverse notes) o ∙ ap (λ (t : Taken). known_in_entries t.entries ∷ outer_of t.entries t.notes) e in
    sym (ap (λ outer. back (record { values = known_in_entries entries; outer = outer })) p)

pub none_seen : (room branch : ℕ) (entries : List Entry) (notes : List Note) → branch ≡ 0 → IsTrail room branch entries (reverse notes) → branching_of entries notes ≡ back (branching_of entries notes)
none_seen room branch entries notes z t =
    let p : outer_of entries (reverse notes) ≡ [] = ap (λ ns. outer_of entries ns) (t.innermost.none z) in
    subst (λ outer. (let b : Branching = record { values = known_in_entries entries; outer = outer } in b ≡ back b)) (sym p) refl

-- ## Copies

pub copied_more : (copy entries : List Entry) (i : ℕ) (e : Entry) → known_in_entries copy ≡ known_in_entries (take i entries) → i < length entries → e ≡ get_or entries i e →
    known_in_entries (copy ++ entry_with e.known 0 ∷ []) ≡ known_in_entries (take (i + 1) entries)
copied_more copy entries i e same h is =
    let f : Entry → Option Abstract = λ (e : Entry). option_map abstract_of e.known in
    map-append f copy (entry_with e.known 0 ∷ []) ∙ (ap (λ known. known ++ option_map abstract_of e.known ∷ []) same ∙ (sym (map-append f (take i entries) (e ∷ [])) ∙
    ap (λ es. known_in_entries es) (ap (λ x. take i entries ++ x ∷ []) is ∙ sym (take_more entries i e h))))

pub fresh_more : (copy : List Entry) (known : Option Abs) → ((n : ℕ) (e : Entry) → slice_get copy n ≡ Some e → e.noted ≡ 0) →
    (n : ℕ) (e : Entry) → slice_get (copy ++ entry_with known 0 ∷ []) n ≡ Some e → e.noted ≡ 0
fresh_more [] known h zero e g = let p : entry_with known 0 ≡ e = cc in sym (ap (λ (x : Entry). x.noted) p)
fresh_more [] known h (suc n) e g = absurd cc
fresh_more (x ∷ copy) known h zero e g = h 0 e g
fresh_more (x ∷ copy) known h (suc n) e g = fresh_more copy known (λ n. h (suc n)) n e g
