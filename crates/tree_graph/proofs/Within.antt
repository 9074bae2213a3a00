-- What nodes name is still there when more is added.
use Rattle.std.proofs.Common.{◌≡◌, ℕ, ◌+◌, ◌≤◌, true, false, nat_lt, List, [], ◌∷◌, ◌++◌, length, Some, refl, sym, arith, length-append, ◌∙◌}
use Rattle.std.proofs.lemmas.Bool.{ltb-true, ltb-false}
use Rattle.std.proofs.lemmas.Option.{slice_get_within}
use Rattle.schema_graph.specs.declared.node.Node.{Node}
use Rattle.tree_graph.specs.States.{AreNodesIn, IsNodeIn}
use Rattle.tree_graph.proofs.Lists.{get_in_front, get_last}

node_grows : (n m d e t : ℕ) (x : Node) → n ≤ m → d ≤ e → IsNodeIn n d t x → IsNodeIn m e t x
node_grows n m d e t x l k w = record {
  parts = λ j h. let a = w.parts j h in omega (arith, a, l);
  content = λ a j c f. let b = w.content a j c f in (let b0 = b.0 in omega (arith, b0, l), b.1);
  leads = λ f h. let a = w.leads f h in omega (arith, a, k);
  many = w.many;
}

pub definitions_more : (nodes : List Node) (d e t : ℕ) → d ≤ e → AreNodesIn nodes d t → AreNodesIn nodes e t
definitions_more nodes d e t l w i x h = node_grows (length nodes) (length nodes) d e t x (omega arith) l (w i x h)

pub nodes_more : (nodes : List Node) (node : Node) (d t : ℕ) → AreNodesIn nodes d t → IsNodeIn (length nodes) d t node → AreNodesIn (nodes ++ node ∷ []) d t
nodes_more nodes node d t w v i x h =
    elim (nat_lt i (length nodes)) as (λ r. nat_lt i (length nodes) ≡ r → IsNodeIn (length (nodes ++ node ∷ [])) d t x) [
      | true ↦ λ r. node_grows (length nodes) (length (nodes ++ node ∷ [])) d d t x (omega (arith, longer)) (omega arith) (w i x (get_in_front nodes (node ∷ []) i x h (ltb-true i (length nodes) r)))
      | false ↦ λ r. last (ltb-false i (length nodes) r)
    ] refl
  where
    longer : length (nodes ++ node ∷ []) ≡ length nodes + 1
    longer = length-append nodes (node ∷ [])

    last : length nodes ≤ i → IsNodeIn (length (nodes ++ node ∷ [])) d t x
    last l =
        let m = slice_get_within (nodes ++ node ∷ []) i x h in
        let e : i ≡ length nodes = omega (arith, l, m, longer) in
        let k = rw e at h in
        let f : Some node ≡ Some x = sym (get_last nodes node) ∙ k in
        let g : node ≡ x = cc in
        rw (← g) (node_grows (length nodes) (length (nodes ++ node ∷ [])) d d t node (omega (arith, longer)) (omega arith) v)
