use Rattle.grammar_laws.proofs.Examples.{derives_element, derives_chains, derives_annotated}
use Rattle.grammar_laws.proofs.small_trees.Goals as goal

pub returns-clause-element : goal.returns-clause-element
returns-clause-element c = derives_element

pub returns-clause-chains : goal.returns-clause-chains
returns-clause-chains c = derives_chains

pub returns-clause-annotated : goal.returns-clause-annotated
returns-clause-annotated c = derives_annotated
