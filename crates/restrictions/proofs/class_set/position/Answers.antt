-- What a binary search says.
use Rattle.std.proofs.Common.{◌≡◌, rules}
use Rattle.std.proofs.lemmas.Fn.{always_returns_same}
use Rattle.rng_model.specs.Names.{name_cmp}
use Rattle.text_atoms.proofs.Finding.{option_found}
use Rattle.name_universe.proofs.Finding.{searched_name}
use Rattle.restrictions.proofs.class_set.position.Goals as goal

pub returns-clause-found : goal.returns-clause-found
returns-clause-found c =
    (option_found c.binary_search_by.result _ _ _ c.ok.ensures.value
    (searched_name c.args.names.now c.args.name.now c.binary_search_by.result c.requires.ascending c.binary_search_by.ensures.bound
    (c.binary_search_by.ensures.position (λ a. name_cmp a c.args.name.now) (always_returns_same _ (λ a r. r ≡ name_cmp a.0.now c.args.name.now) _ (λ a r q k. search rules))))).0

pub returns-clause-absent : goal.returns-clause-absent
returns-clause-absent c =
    (option_found c.binary_search_by.result _ _ _ c.ok.ensures.value
    (searched_name c.args.names.now c.args.name.now c.binary_search_by.result c.requires.ascending c.binary_search_by.ensures.bound
    (c.binary_search_by.ensures.position (λ a. name_cmp a c.args.name.now) (always_returns_same _ (λ a r. r ≡ name_cmp a.0.now c.args.name.now) _ (λ a r q k. search rules))))).1
