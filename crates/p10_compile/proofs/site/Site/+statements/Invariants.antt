-- The statements so far are compiled, and what is handed on unchanged goes to a function that is lower.
use Rattle.std.proofs.Common.{◌≡◌, ◌+◌, ◌*◌, ◌++◌, length, map, drop}
use Rattle.p10_core.specs.Views.{plain_statements}
use Rattle.p10_code.specs.StatementCode.{statements_code, item_places}
use Rattle.p10_compile.specs.Views.{plain_op, plain_site, plain_exits}
use Rattle.p10_compile.proofs.site.Site.+statements.Given as goal

abbrev pub invariant-placed_code-loop-s : goal.invariant-placed_code-loop-s
invariant-placed_code-loop-s l = record {
  code : map plain_op l.code.items ++ statements_code (plain_site l.self) (plain_exits l.exits) (l.at + length (map plain_op l.code.items)) (plain_statements (drop l.s-index l.statements))
      ≡ statements_code (plain_site l.self) (plain_exits l.exits) l.at (plain_statements l.statements);
  places : l.places.items ++ item_places (plain_site l.self) (plain_exits l.exits) (l.at + length (map plain_op l.code.items)) (plain_statements (drop l.s-index l.statements))
      ≡ item_places (plain_site l.self) (plain_exits l.exits) l.at (plain_statements l.statements);
}

abbrev pub decreases-statement_code : goal.decreases-statement_code
decreases-statement_code l = 16 * goal.size-statement_code l

abbrev pub decreases-otherwise_code : goal.decreases-otherwise_code
decreases-otherwise_code l = 16 * goal.size-otherwise_code l + 1

abbrev pub decreases-turn_code : goal.decreases-turn_code
decreases-turn_code l = 16 * goal.size-turn_code l + 1

abbrev pub decreases-placed_code : goal.decreases-placed_code
decreases-placed_code l = 16 * goal.size-placed_code l + 3

abbrev pub decreases-statements_code : goal.decreases-statements_code
decreases-statements_code l = 16 * goal.size-statements_code l + 4

abbrev pub decreases-third_code : goal.decreases-third_code
decreases-third_code l = 16 * goal.size-third_code l + 5

abbrev pub decreases-block_code : goal.decreases-block_code
decreases-block_code l = 16 * goal.size-block_code l + 5

abbrev pub decreases-switch_part : goal.decreases-switch_part
decreases-switch_part l = 16 * goal.size-switch_part l + 4

abbrev pub decreases-switch_block : goal.decreases-switch_block
decreases-switch_block l = 16 * goal.size-switch_block l + 5

abbrev pub decreases-switched_code : goal.decreases-switched_code
decreases-switched_code l = 16 * goal.size-switched_code l + 1

abbrev pub decreases-switch_rest : goal.decreases-switch_rest
decreases-switch_rest l = 16 * goal.size-switch_rest l
