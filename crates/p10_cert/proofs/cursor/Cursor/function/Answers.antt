use Rattle.p10_cert.specs.private.Found.{place_of}
use Rattle.p10_cert.proofs.AtPlaces.{begins, no_digest, no_function, result_leads, function_leads, has_function, function_shorter}
use Rattle.p10_cert.proofs.cursor.Cursor.function.Goals as goal

pub after_digest-requires-clause-begun : goal.after_digest-requires-clause-begun
after_digest-requires-clause-begun c = begins (place_of c.args.self) (place_of c.args.inside) c.requires.begun.0 c.requires.begun.1

pub returns-in-Err : goal.returns-in-Err
returns-in-Err c = no_digest (place_of c.args.self) (place_of c.args.inside) c.requires.begun.0 c.in-Err.bad.line c.requires.begun.1 c.requires.number c.in-Err.ensures.wrong

pub returns-in-None : goal.returns-in-None
returns-in-None c =
    let params = c.after_parameters-result in
    no_function (place_of c.args.self) (place_of c.args.inside) (place_of c.in-Ok.params) (place_of params.result) c.requires.begun.0 c.bad.result.line c.requires.begun.1 c.requires.number
    (begins (place_of c.args.self) (place_of c.args.inside) c.requires.begun.0 c.requires.begun.1) c.in-Ok.ensures.leads params.ensures.leads params.ensures.stays params.ensures.stops c.in-None.ensures.goes c.bad.ensures

pub after_loops-after-requires-clause-begun : goal.after_loops-after-requires-clause-begun
after_loops-after-requires-clause-begun c =
    let params = c.after_parameters-result in
    (result_leads (place_of params.result) (place_of c.in-Some.first) params.ensures.stays c.in-Some.ensures.goes).0

pub slice_bounds-record-count : goal.slice_bounds-record-count
slice_bounds-record-count c =
    let params = c.after_parameters-result in
    let one = result_leads (place_of params.result) (place_of c.in-Some.first) params.ensures.stays c.in-Some.ensures.goes in
    function_shorter (place_of c.args.self) (place_of c.args.inside) (place_of c.after_loops-after.result) c.requires.begun.0 c.requires.begun.1
    (function_leads (place_of c.args.inside) (place_of c.in-Ok.params) (place_of params.result) (place_of c.in-Some.first) (place_of c.after_loops-after.result) c.in-Ok.ensures.leads params.ensures.leads one.1 c.after_loops-after.ensures.leads)

pub returns : goal.returns
returns c =
    let params = c.after_parameters-result in
    let one = result_leads (place_of params.result) (place_of c.in-Some.first) params.ensures.stays c.in-Some.ensures.goes in
    has_function (place_of c.args.self) (place_of c.args.inside) (place_of c.after_loops-after.result) c.requires.begun.0 c.requires.begun.1 c.requires.number
    (function_leads (place_of c.args.inside) (place_of c.in-Ok.params) (place_of params.result) (place_of c.in-Some.first) (place_of c.after_loops-after.result) c.in-Ok.ensures.leads params.ensures.leads one.1 c.after_loops-after.ensures.leads)
    c.after_loops-after.ensures.stays c.after_loops-after.ensures.stops
