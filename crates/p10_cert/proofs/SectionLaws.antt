-- Laws of the readers of sections: what is read has the one text of what it says, and that text is read.
use Rattle.std.proofs.Common.{◌≡◌, ℕ, true, nat_le, List, ◌++◌, length, codes, decimal, Some, refl, ap, subst, ◌∙◌, arith}
use Rattle.std.proofs.lemmas.Option.{cond_some, same_Some}
use Rattle.std.specs.List.{list_all}
use Rattle.p10_cert.specs.Lines.{SectionHead, is_section_byte, is_section_name, is_body_byte, IsSectionHead, IsBody}
use Rattle.p10_cert.specs.private.Reading.{after_front, after_run, front_of, greatest_index, section_name_at, section_start_at, body_text_at}
use Rattle.p10_cert.proofs.NumberLaws.{labelled_takes, labelled_again}
use Rattle.p10_cert.proofs.Steps.{then_some, bind_is, both_true, after_front_takes, after_front_again, run_front, front_of-append, after_run-append}

name_takes : (text : List ℕ) (r : List ℕ × List ℕ) → section_name_at text ≡ Some r → (text ≡ r.0 ++ r.1) × (is_section_name r.0 ≡ true)
unfolding section_name_at
name_takes text r e =
    let front = front_of text (after_run is_section_byte text) in
    let found = cond_some (is_section_name front) (front, after_run is_section_byte text) r e in
    let run = run_front is_section_byte text in
    let P : List ℕ × List ℕ → Type 0 = λ r. (text ≡ r.0 ++ r.1) × (is_section_name r.0 ≡ true) in
    subst P found.1 (run.0, found.0)

-- the bytes of a name
pub name_in_bytes : (name : List ℕ) → is_section_name name ≡ true → list_all is_section_byte name ≡ true
name_in_bytes name named =
    (both_true (nat_le (length name) 32) (list_all is_section_byte name) (both_true (nat_le 1 (length name)) _ named).1).1

name_again : (name rest : List ℕ) → is_section_name name ≡ true → after_run is_section_byte rest ≡ rest → section_name_at (name ++ rest) ≡ Some (name, rest)
unfolding section_name_at
name_again name rest named stop =
    let run : after_run is_section_byte (name ++ rest) ≡ rest = after_run-append is_section_byte name rest (name_in_bytes name named) stop in
    rw (run, front_of-append name rest, named) refl

pub start_takes : (text : List ℕ) (r : SectionHead × List ℕ) → section_start_at text ≡ Some r
    → (text ≡ r.0.name ++ (codes " " ++ (decimal r.0.count ++ (codes "\n" ++ r.1)))) × IsSectionHead r.0
unfolding section_start_at
start_takes text r e =
    then_some _ _ _ e (λ name e0 f0. then_some _ _ _ f0 (λ count e1 f1. then_some _ _ _ f1 (λ rest e2 f2.
    let p0 = name_takes text name e0 in
    let p1 = labelled_takes (codes " ") greatest_index name.1 count e1 in
    let p2 = after_front_takes (codes "\n") count.1 rest e2 in
    let P : SectionHead × List ℕ → Type 0 = λ r. (text ≡ r.0.name ++ (codes " " ++ (decimal r.0.count ++ (codes "\n" ++ r.1)))) × IsSectionHead r.0 in
    subst P (same_Some _ _ f2) (
      p0.0 ∙ ap (λ t. name.0 ++ t) (p1.0 ∙ ap (λ t. codes " " ++ (decimal count.0 ++ t)) p2),
      record { name = p0.1; count = record { small = omega (arith, p1.1) } },
    ))))

pub start_again : (s : SectionHead) (rest : List ℕ) → IsSectionHead s → section_start_at (s.name ++ (codes " " ++ (decimal s.count ++ (codes "\n" ++ rest)))) ≡ Some (s, rest)
unfolding section_start_at is_section_byte
start_again s rest fits =
    let t1 : List ℕ = codes "\n" ++ rest in
    let t0 : List ℕ = codes " " ++ (decimal s.count ++ t1) in
    bind_is _ (s.name, t0) _ _ (name_again s.name t0 fits.name refl)
    (bind_is _ (s.count, t1) _ _ (labelled_again (codes " ") greatest_index s.count t1 (omega (arith, fits.count.small)) (omega arith) refl)
    (bind_is _ rest _ _ (after_front_again (codes "\n") rest) refl))

pub body_takes : (text : List ℕ) (r : List ℕ × List ℕ) → body_text_at text ≡ Some r → (text ≡ r.0 ++ (codes "\n" ++ r.1)) × IsBody r.0
unfolding body_text_at
body_takes text r e =
    then_some _ _ _ e (λ rest e0 f0.
    let run = run_front is_body_byte text in
    let p0 = after_front_takes (codes "\n") (after_run is_body_byte text) rest e0 in
    let front : List ℕ = front_of text (after_run is_body_byte text) in
    let P : List ℕ × List ℕ → Type 0 = λ r. (text ≡ r.0 ++ (codes "\n" ++ r.1)) × IsBody r.0 in
    subst P (same_Some _ _ f0) (run.0 ∙ ap (λ t. front ++ t) p0, record { visible = run.1 }))

pub body_again : (bytes rest : List ℕ) → IsBody bytes → body_text_at (bytes ++ (codes "\n" ++ rest)) ≡ Some (bytes, rest)
unfolding body_text_at is_body_byte
body_again bytes rest fits =
    let t : List ℕ = codes "\n" ++ rest in
    let run : after_run is_body_byte (bytes ++ t) ≡ t = after_run-append is_body_byte bytes t fits.visible refl in
    bind_is _ rest _ _ (ap (λ u. after_front (codes "\n") u) run ∙ after_front_again (codes "\n") rest)
    (ap (λ u. Some (u, rest)) (ap (λ u. front_of (bytes ++ t) u) run ∙ front_of-append bytes t))
