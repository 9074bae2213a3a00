use Rattle.line_laws.proofs.OrderLaw.{opening_cmp, attr_cmp, chars_cmp}
use Rattle.line_laws.proofs.order_of_codes.Goals as goal

pub returns-clause-opening : goal.returns-clause-opening
returns-clause-opening c = opening_cmp

pub returns-clause-attribute : goal.returns-clause-attribute
returns-clause-attribute c = attr_cmp

pub returns-clause-chars : goal.returns-clause-chars
returns-clause-chars c = chars_cmp
