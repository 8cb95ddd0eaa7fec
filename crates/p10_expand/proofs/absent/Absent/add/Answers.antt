use Rattle.std.proofs.Common.{◌∙◌, ap, bytes_eq, map, string_bytes}
use Rattle.indexmap.specs.IndexSet.{insert_key}
use Rattle.p10_expand.proofs.Lacking.{key_added}
use Rattle.p10_expand.proofs.absent.Absent.add.Goals as goal

pub returns-clause-ok : goal.returns-clause-ok
returns-clause-ok c =
    ap (map string_bytes) c.in_ok-insert.ensures.keys ∙ key_added c.self.inside.names.keys c.args.name ∙ ap (λ names. insert_key bytes_eq names (string_bytes c.args.name)) c.self.view_is
