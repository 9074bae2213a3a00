-- Events that are counted.
use Rattle.std.proofs.Common.{◌≡◌, suc, List, [], ◌∷◌, length, filter, map, refl, ap}
use Rattle.line_laws.specs.Nodes.{node_count}
use Rattle.skeleton.specs.declared.event.Event.{Event}
use Rattle.skeleton.specs.declared.event.Event.TheVariants.{Opening, Attr, Body, Chars, Closing}
use Rattle.skeleton.specs.Views.{event_of, is_node}

pub nodes_counted : (xs : List Event) → length (filter (λ x. is_node (event_of x)) xs) ≡ node_count (map event_of xs)
nodes_counted [] = refl
nodes_counted (Opening n ∷ xs) = ap suc (nodes_counted xs)
nodes_counted (Attr n t ∷ xs) = ap suc (nodes_counted xs)
nodes_counted (Body ∷ xs) = nodes_counted xs
nodes_counted (Chars t ∷ xs) = ap suc (nodes_counted xs)
nodes_counted (Closing ∷ xs) = nodes_counted xs
