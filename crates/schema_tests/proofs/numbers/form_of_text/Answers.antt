use Rattle.schema_tests.proofs.Trees.{are_distinct}
use Rattle.schema_tests.proofs.numbers.form_of_text.Goals as goal

pub form_of-requires : goal.form_of-requires
form_of-requires c = are_distinct c.trees_are_whole.ensures.body _ _ _ _ c.in-Ok.ensures.ok c.in-Ok-parse.ensures.ok
