use Rattle.std.proofs.Common.{◌≡◌, ◌+◌, ◌*◌, ◌≤◌, map, [], take, length}
use Rattle.p10_syn.specs.declared.setting.Said.TheVariants.{Nothing}
use Rattle.p10_syn.specs.Declaring.{after_specifiers, after_members, after_enumerators}
use Rattle.p10_syn.specs.Trees.{specifier_row, member_row, enumerator_row}
use Rattle.p10_syn.specs.Built.{bare_of, bare_specifier_of, bare_member_of, bare_field_of, bare_enumerator_of, bare_declarator_of, bare_parameter_of}
use Rattle.p10_pexpr.specs.Reading.{readers}
use Rattle.p10_pexpr.proofs.+reading.Given as goal

-- each reader goes down the budget, or to a reader of a part at the same budget

abbrev pub decreases-expression::expression : goal.decreases-expression::expression
decreases-expression::expression l = 8 * l.budget

abbrev pub decreases-expression::chain : goal.decreases-expression::chain
decreases-expression::chain l = 8 * l.budget

abbrev pub decreases-expression::part : goal.decreases-expression::part
decreases-expression::part l = 8 * l.budget + 3

abbrev pub decreases-expression::join : goal.decreases-expression::join
decreases-expression::join l = 8 * l.budget + 1

abbrev pub decreases-expression::assign : goal.decreases-expression::assign
decreases-expression::assign l = 8 * l.budget + 1

abbrev pub decreases-expression::conditional : goal.decreases-expression::conditional
decreases-expression::conditional l = 8 * l.budget + 1

abbrev pub decreases-expression::comma : goal.decreases-expression::comma
decreases-expression::comma l = 8 * l.budget + 1

abbrev pub decreases-expression::index : goal.decreases-expression::index
decreases-expression::index l = 8 * l.budget + 1

abbrev pub decreases-expression::call : goal.decreases-expression::call
decreases-expression::call l = 8 * l.budget + 2

abbrev pub decreases-expression::arguments : goal.decreases-expression::arguments
decreases-expression::arguments l = 8 * l.budget + 1

abbrev pub decreases-expression::list : goal.decreases-expression::list
decreases-expression::list l = 8 * l.budget

abbrev pub decreases-operand::operand : goal.decreases-operand::operand
decreases-operand::operand l = 8 * l.budget + 6

abbrev pub decreases-operand::operand_by : goal.decreases-operand::operand_by
decreases-operand::operand_by l = 8 * l.budget + 5

abbrev pub decreases-operand::group : goal.decreases-operand::group
decreases-operand::group l = 8 * l.budget + 4

abbrev pub decreases-operand::cast : goal.decreases-operand::cast
decreases-operand::cast l = 8 * l.budget + 3

abbrev pub decreases-operand::parenthesised : goal.decreases-operand::parenthesised
decreases-operand::parenthesised l = 8 * l.budget + 1

abbrev pub decreases-operand::unary : goal.decreases-operand::unary
decreases-operand::unary l = 8 * l.budget + 1

abbrev pub decreases-operand::step : goal.decreases-operand::step
decreases-operand::step l = 8 * l.budget + 1

abbrev pub decreases-operand::sizeof : goal.decreases-operand::sizeof
decreases-operand::sizeof l = 8 * l.budget + 4

abbrev pub decreases-operand::sizeof_type : goal.decreases-operand::sizeof_type
decreases-operand::sizeof_type l = 8 * l.budget + 3

abbrev pub decreases-operand::sizeof_expression : goal.decreases-operand::sizeof_expression
decreases-operand::sizeof_expression l = 8 * l.budget + 1

abbrev pub decreases-declarator::type_name : goal.decreases-declarator::type_name
decreases-declarator::type_name l = 8 * l.budget + 2

abbrev pub decreases-declarator::declarator : goal.decreases-declarator::declarator
decreases-declarator::declarator l = 8 * l.budget

abbrev pub decreases-declarator::pointer : goal.decreases-declarator::pointer
decreases-declarator::pointer l = 8 * l.budget + 1

abbrev pub decreases-declarator::atom : goal.decreases-declarator::atom
decreases-declarator::atom l = 8 * l.budget + 2

abbrev pub decreases-declarator::wrapped : goal.decreases-declarator::wrapped
decreases-declarator::wrapped l = 8 * l.budget + 1

abbrev pub decreases-declarator::suffixes : goal.decreases-declarator::suffixes
decreases-declarator::suffixes l = 8 * l.budget

abbrev pub decreases-declarator::suffix : goal.decreases-declarator::suffix
decreases-declarator::suffix l = 8 * l.budget + 3

abbrev pub decreases-declarator::array : goal.decreases-declarator::array
decreases-declarator::array l = 8 * l.budget + 2

abbrev pub decreases-declarator::sized : goal.decreases-declarator::sized
decreases-declarator::sized l = 8 * l.budget + 1

abbrev pub decreases-declarator::function : goal.decreases-declarator::function
decreases-declarator::function l = 8 * l.budget + 2

abbrev pub decreases-declarator::with_parameters : goal.decreases-declarator::with_parameters
decreases-declarator::with_parameters l = 8 * l.budget + 1

abbrev pub decreases-declarator::parameters : goal.decreases-declarator::parameters
decreases-declarator::parameters l = 8 * l.budget

abbrev pub decreases-declarator::parameter : goal.decreases-declarator::parameter
decreases-declarator::parameter l = 8 * l.budget + 2

abbrev pub decreases-specifier::specifiers : goal.decreases-specifier::specifiers
decreases-specifier::specifiers l = 8 * l.budget + 1

abbrev pub decreases-specifier::all_specifiers : goal.decreases-specifier::all_specifiers
decreases-specifier::all_specifiers l = 8 * l.budget

abbrev pub decreases-specifier::specifier : goal.decreases-specifier::specifier
decreases-specifier::specifier l = 8 * l.budget + 2

abbrev pub decreases-specifier::structure : goal.decreases-specifier::structure
decreases-specifier::structure l = 8 * l.budget + 1

abbrev pub decreases-specifier::members : goal.decreases-specifier::members
decreases-specifier::members l = 8 * l.budget

abbrev pub decreases-specifier::member : goal.decreases-specifier::member
decreases-specifier::member l = 8 * l.budget + 2

abbrev pub decreases-specifier::fields : goal.decreases-specifier::fields
decreases-specifier::fields l = 8 * l.budget

abbrev pub decreases-specifier::field : goal.decreases-specifier::field
decreases-specifier::field l = 8 * l.budget + 2

abbrev pub decreases-specifier::valued : goal.decreases-specifier::valued
decreases-specifier::valued l = 8 * l.budget + 1

abbrev pub decreases-specifier::enumeration : goal.decreases-specifier::enumeration
decreases-specifier::enumeration l = 8 * l.budget + 1

abbrev pub decreases-specifier::enumerators : goal.decreases-specifier::enumerators
decreases-specifier::enumerators l = 8 * l.budget

abbrev pub decreases-specifier::enumerator : goal.decreases-specifier::enumerator
decreases-specifier::enumerator l = 8 * l.budget + 2

-- what is still to be read is what was to be read

abbrev pub invariant-expression::chain-loop-fuel : goal.invariant-expression::chain-loop-fuel
invariant-expression::chain-loop-fuel l = record {
  left : l.fuel ≤ l.budget;
  scope : l.scope ≡ l.fn.scope;
  few : l.whole.parens ≤ l.fn.left.parens;
  same : (readers l.fuel).chain l.scope l.level (bare_of l.whole) l.cursor ≡ (readers l.fn.budget).chain l.fn.scope l.level (bare_of l.fn.left) l.fn.cursor;
}

abbrev pub decreases-expression::chain-loop-fuel : goal.decreases-expression::chain-loop-fuel
decreases-expression::chain-loop-fuel l = l.fuel

abbrev pub invariant-expression::list-loop-fuel : goal.invariant-expression::list-loop-fuel
invariant-expression::list-loop-fuel l = record {
  left : l.fuel ≤ l.budget;
  scope : l.scope ≡ l.fn.scope;
  same : (readers l.fuel).list l.scope (map bare_of l.all.items) l.cursor ≡ (readers l.fn.budget).list l.fn.scope [] l.fn.cursor;
}

abbrev pub decreases-expression::list-loop-fuel : goal.decreases-expression::list-loop-fuel
decreases-expression::list-loop-fuel l = l.fuel

abbrev pub invariant-declarator::suffixes-loop-fuel : goal.invariant-declarator::suffixes-loop-fuel
invariant-declarator::suffixes-loop-fuel l = record {
  left : l.fuel ≤ l.budget;
  scope : l.scope ≡ l.fn.scope;
  same : (readers l.fuel).suffixes l.scope l.setting (bare_declarator_of l.whole) l.cursor ≡ (readers l.fn.budget).suffixes l.fn.scope l.setting (bare_declarator_of l.fn.inner) l.fn.cursor;
}

abbrev pub decreases-declarator::suffixes-loop-fuel : goal.decreases-declarator::suffixes-loop-fuel
decreases-declarator::suffixes-loop-fuel l = l.fuel

abbrev pub invariant-declarator::parameters-loop-fuel : goal.invariant-declarator::parameters-loop-fuel
invariant-declarator::parameters-loop-fuel l = record {
  left : l.fuel ≤ l.budget;
  room : l.count ≤ length l.scope;
  start : take l.count l.scope ≡ l.fn.scope;
  same : (readers l.fuel).parameters l.scope l.setting (map bare_parameter_of l.all.items) l.cursor ≡ (readers l.fn.budget).parameters l.fn.scope l.setting [] l.fn.cursor;
}

abbrev pub decreases-declarator::parameters-loop-fuel : goal.decreases-declarator::parameters-loop-fuel
decreases-declarator::parameters-loop-fuel l = l.fuel

abbrev pub invariant-specifier::all_specifiers-loop-fuel : goal.invariant-specifier::all_specifiers-loop-fuel
invariant-specifier::all_specifiers-loop-fuel l = record {
  left : l.fuel ≤ l.budget;
  scope : l.scope ≡ after_specifiers l.fn.scope (specifier_row (map bare_specifier_of l.all.items));
  same : (readers l.fuel).specifiers l.scope l.setting l.said (map bare_specifier_of l.all.items) l.cursor ≡ (readers l.fn.budget).specifiers l.fn.scope l.setting Nothing [] l.fn.cursor;
}

abbrev pub decreases-specifier::all_specifiers-loop-fuel : goal.decreases-specifier::all_specifiers-loop-fuel
decreases-specifier::all_specifiers-loop-fuel l = l.fuel

abbrev pub invariant-specifier::members-loop-fuel : goal.invariant-specifier::members-loop-fuel
invariant-specifier::members-loop-fuel l = record {
  left : l.fuel ≤ l.budget;
  scope : l.scope ≡ after_members l.fn.scope (member_row (map bare_member_of l.all.items));
  same : (readers l.fuel).members l.scope (map bare_member_of l.all.items) l.cursor ≡ (readers l.fn.budget).members l.fn.scope [] l.fn.cursor;
}

abbrev pub decreases-specifier::members-loop-fuel : goal.decreases-specifier::members-loop-fuel
decreases-specifier::members-loop-fuel l = l.fuel

abbrev pub invariant-specifier::fields-loop-fuel : goal.invariant-specifier::fields-loop-fuel
invariant-specifier::fields-loop-fuel l = record {
  left : l.fuel ≤ l.budget;
  scope : l.scope ≡ l.fn.scope;
  same : (readers l.fuel).fields l.scope (map bare_field_of l.all.items) l.cursor ≡ (readers l.fn.budget).fields l.fn.scope [] l.fn.cursor;
}

abbrev pub decreases-specifier::fields-loop-fuel : goal.decreases-specifier::fields-loop-fuel
decreases-specifier::fields-loop-fuel l = l.fuel

abbrev pub invariant-specifier::enumerators-loop-fuel : goal.invariant-specifier::enumerators-loop-fuel
invariant-specifier::enumerators-loop-fuel l = record {
  left : l.fuel ≤ l.budget;
  scope : l.scope ≡ after_enumerators l.fn.scope (enumerator_row (map bare_enumerator_of l.all.items));
  same : (readers l.fuel).enumerators l.scope (map bare_enumerator_of l.all.items) l.cursor ≡ (readers l.fn.budget).enumerators l.fn.scope [] l.fn.cursor;
}

abbrev pub decreases-specifier::enumerators-loop-fuel : goal.decreases-specifier::enumerators-loop-fuel
decreases-specifier::enumerators-loop-fuel l = l.fuel
