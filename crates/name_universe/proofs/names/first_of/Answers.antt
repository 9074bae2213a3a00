-- What a binary search says.
use Rattle.std.proofs.Common.{◌≡◌, rules}
use Rattle.std.specs.Ordering.{nat_cmp}
use Rattle.std.specs.Cmp.Lexicographic.{slice_cmp}
use Rattle.std.proofs.lemmas.Fn.{always_returns_same}
use Rattle.text_atoms.proofs.Finding.{option_found}
use Rattle.name_universe.proofs.Finding.{searched_space}
use Rattle.name_universe.proofs.names.first_of.Goals as goal

pub returns-clause-found : goal.returns-clause-found
returns-clause-found c =
    (option_found c.binary_search_by.result _ _ _ c.ok.ensures.value
    (searched_space c.args.firsts.now c.args.ns.now c.binary_search_by.result c.requires c.binary_search_by.ensures.bound
    (c.binary_search_by.ensures.position (λ a. slice_cmp nat_cmp a.0 c.args.ns.now) (always_returns_same _ (λ a r. r ≡ slice_cmp nat_cmp a.0.now.0 c.args.ns.now) _ (λ a r q k. search rules))))).0

pub returns-clause-absent : goal.returns-clause-absent
returns-clause-absent c =
    (option_found c.binary_search_by.result _ _ _ c.ok.ensures.value
    (searched_space c.args.firsts.now c.args.ns.now c.binary_search_by.result c.requires c.binary_search_by.ensures.bound
    (c.binary_search_by.ensures.position (λ a. slice_cmp nat_cmp a.0 c.args.ns.now) (always_returns_same _ (λ a r. r ≡ slice_cmp nat_cmp a.0.now.0 c.args.ns.now) _ (λ a r q k. search rules))))).1
