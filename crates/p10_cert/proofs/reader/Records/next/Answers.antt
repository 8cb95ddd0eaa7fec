use Rattle.std.proofs.Common.{◌≡◌, ℕ, List, Some, refl, ap, option_map, subst}
use Rattle.p10_cert.specs.Records.{Progress, one_more, IsNextRecord, statement_from}
use Rattle.p10_cert.specs.Statements.{Entry, Ending, IsStatement, statement_text}
use Rattle.p10_cert.specs.WrongLines.{IsFirstWrong}
use Rattle.p10_cert.specs.private.Places.{entries_in}
use Rattle.p10_cert.specs.private.Found.{place_of, ending_of}
use Rattle.p10_cert.proofs.Finding.{wrong_found}
use Rattle.p10_cert.proofs.Giving.{next_function, next_end}
use Rattle.p10_cert.proofs.reader.Records.next.Goals as goal

pub invariant_of-self : goal.invariant_of-self
invariant_of-self c =
    (next_function c.self.inside.text.now (place_of c.self.inside.place) c.in-Ok.found c.in-Function.record c.in-Function.after c.self.invariant c.in-Ok.ensures c.in-Function.is).place

pub returns-in-Function : goal.returns-in-Function
returns-in-Function c =
    let inside = c.self.inside in
    let found = next_function inside.text.now (place_of inside.place) c.in-Ok.found c.in-Function.record c.in-Function.after c.self.invariant c.in-Ok.ensures c.in-Function.is in
    let progress : List Entry → Progress = λ given. record { text = inside.text.now; given = given; ending = option_map ending_of inside.end } in
    let now : Progress = progress (entries_in c.in-Function.after.lines inside.text.now) in
    let P : Progress → Type 0 = λ p. (x : Entry) × IsNextRecord p.text p.given x c.in-Function.record.text.now c.in-Function.record.line × (now ≡ one_more p x) in
    subst P c.self.view_is (found.entry, found.next_record, ap progress found.now_given)

pub returns-in-End : goal.returns-in-End
returns-in-End c =
    let inside = c.self.inside in
    let ending : Ending = ending_of c.in-End.end in
    let found = next_end inside.text.now (place_of inside.place) c.in-Ok.found c.in-End.end c.self.invariant c.in-Ok.ensures c.in-End.is in
    let now : Progress = record { text = inside.text.now; given = entries_in inside.place.lines inside.text.now; ending = Some ending } in
    let P : Progress → Type 0 = λ p. (x : Ending) × IsStatement (statement_from p.given x) × (p.text ≡ statement_text (statement_from p.given x)) × (now ≡ record p { ending = Some x }) in
    subst P c.self.view_is (ending, found.0, found.1, refl)

pub returns-in-Err : goal.returns-in-Err
returns-in-Err c =
    let inside = c.self.inside in
    let wrong = wrong_found inside.text.now (place_of inside.place) c.in-Err.bad.line c.self.invariant c.in-Err.ensures in
    let P : Progress → Type 0 = λ p. IsFirstWrong p.text c.in-Err.bad.line × ((e : Entry) (part : List ℕ) (line : ℕ) → IsNextRecord p.text p.given e part line → ⊥) × (p ≡ p) in
    subst P c.self.view_is (wrong.0, wrong.1, refl)
