use Rattle.simple_form_laws.proofs.FaultExamples.{unbound-refused, twice-refused, reserved-refused, constrained-refused, xmlns_attribute-refused, without_start-refused, undefined-refused, parent_outside-refused, mixed_methods-refused, twice_defined-refused, looping-refused, looping_by_two-refused}
use Rattle.simple_form_laws.proofs.ValueExample.{zero_value-refused}
use Rattle.simple_form_laws.proofs.table_of_faults.Goals as goal

pub returns-clause-unbound : goal.returns-clause-unbound
returns-clause-unbound c = unbound-refused

pub returns-clause-twice : goal.returns-clause-twice
returns-clause-twice c = twice-refused

pub returns-clause-reserved : goal.returns-clause-reserved
returns-clause-reserved c = reserved-refused

pub returns-clause-constrained : goal.returns-clause-constrained
returns-clause-constrained c = constrained-refused

pub returns-clause-xmlns_attribute : goal.returns-clause-xmlns_attribute
returns-clause-xmlns_attribute c = xmlns_attribute-refused

pub returns-clause-without_start : goal.returns-clause-without_start
returns-clause-without_start c = without_start-refused

pub returns-clause-undefined : goal.returns-clause-undefined
returns-clause-undefined c = undefined-refused

pub returns-clause-parent_outside : goal.returns-clause-parent_outside
returns-clause-parent_outside c = parent_outside-refused

pub returns-clause-mixed_methods : goal.returns-clause-mixed_methods
returns-clause-mixed_methods c = mixed_methods-refused

pub returns-clause-twice_defined : goal.returns-clause-twice_defined
returns-clause-twice_defined c = twice_defined-refused

pub returns-clause-looping : goal.returns-clause-looping
returns-clause-looping c = looping-refused

pub returns-clause-looping_by_two : goal.returns-clause-looping_by_two
returns-clause-looping_by_two c = looping_by_two-refused

pub returns-clause-zero_value : goal.returns-clause-zero_value
returns-clause-zero_value c = zero_value-refused
