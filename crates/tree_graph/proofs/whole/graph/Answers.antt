use Rattle.std.proofs.Common.{◌≡◌, ◌∙◌, length, ap, sym, subst}
use Rattle.grammar_laws.specs.Files.{Full, body_pattern}
use Rattle.schema_tree.specs.Files.{full_of, last_place}
use Rattle.schema_tree.specs.Sound.{IsSoundBody}
use Rattle.schema_tree.specs.Trees.{body_of}
use Rattle.simple_form_laws.specs.Forms.{element_places}
use Rattle.schema_graph.specs.declared.graph.Graph.{Graph}
use Rattle.tree_graph.specs.Ranks.{IsByNumber}
use Rattle.tree_graph.specs.Graphs.{IsRoot, start}
use Rattle.tree_graph.proofs.Wholes.{places, all_elements, closed, is_graph}
use Rattle.tree_graph.proofs.Roots.{can_walk, root_walked}
use Rattle.tree_graph.proofs.whole.graph.Goals as goal

pub walked-requires : goal.walked-requires
walked-requires c =
    let whole : Full = full_of c.args.full.now in
    let sound : IsSoundBody (last_place c.args.full.now.files) (body_of c.args.full.now.body) = subst (λ b. IsSoundBody (last_place c.args.full.now.files) (body_of b)) c.body.ensures.body c.body.ensures.sound in
    let at : c.in_ok-tokens.tokens ≡ element_places (body_pattern (body_of c.args.full.now.body)) = c.in_ok-tokens.ensures ∙ c.in_ok-places.ensures ∙ ap (λ b. element_places (body_pattern (body_of b))) c.body.ensures.body in
    can_walk whole (last_place c.args.full.now.files) c.requires.simplifiable c.requires.faultless sound c.args.names.now c.in_ok-tokens.tokens (body_of c.body-2.result.now) c.requires.names at (ap body_of c.body-2.ensures.body)

pub by_number-requires : goal.by_number-requires
by_number-requires c =
    let whole : Full = full_of c.args.full.now in
    let sound : IsSoundBody (last_place c.args.full.now.files) (body_of c.args.full.now.body) = subst (λ b. IsSoundBody (last_place c.args.full.now.files) (body_of b)) c.body.ensures.body c.body.ensures.sound in
    let at : c.in_ok-tokens.tokens ≡ places whole = c.in_ok-tokens.ensures ∙ c.in_ok-places.ensures ∙ ap (λ b. element_places (body_pattern (body_of b))) c.body.ensures.body in
    let root : IsRoot whole.files (places whole) (start (length (places whole))) c.in_ok-parts.parts (body_pattern whole.body) c.in_ok-parts.root =
    root_walked whole (last_place c.args.full.now.files) c.requires.simplifiable c.requires.faultless sound c.args.names.now c.in_ok-tokens.tokens (body_of c.body-2.result.now) c.in_ok-parts.parts c.in_ok-parts.root
    c.requires.names at (ap body_of c.body-2.ensures.body) c.in_ok-parts.ensures in
    ap length c.into_lists-nodes.ensures.elements ∙ all_elements whole c.in_ok-parts.parts c.in_ok-parts.root root ∙ ap length (sym at)

pub returns-clause-graph : goal.returns-clause-graph
returns-clause-graph c =
    let whole : Full = full_of c.args.full.now in
    let sound : IsSoundBody (last_place c.args.full.now.files) (body_of c.args.full.now.body) = subst (λ b. IsSoundBody (last_place c.args.full.now.files) (body_of b)) c.body.ensures.body c.body.ensures.sound in
    let at : c.in_ok-tokens.tokens ≡ places whole = c.in_ok-tokens.ensures ∙ c.in_ok-places.ensures ∙ ap (λ b. element_places (body_pattern (body_of b))) c.body.ensures.body in
    let root : IsRoot whole.files (places whole) (start (length (places whole))) c.in_ok-parts.parts (body_pattern whole.body) c.in_ok-parts.root =
    root_walked whole (last_place c.args.full.now.files) c.requires.simplifiable c.requires.faultless sound c.args.names.now c.in_ok-tokens.tokens (body_of c.body-2.result.now) c.in_ok-parts.parts c.in_ok-parts.root
    c.requires.names at (ap body_of c.body-2.ensures.body) c.in_ok-parts.ensures in
    let graph : Graph = record { nodes = c.into_lists-nodes.result.0; definitions = c.into_lists-nodes.result.1; elements = c.in_ok-elements.elements; root = c.in_ok-parts.root } in
    let ordered : IsByNumber (places whole) c.in_ok-parts.parts.elements c.in_ok-elements.elements.items =
    subst (λ l. IsByNumber (places whole) l c.in_ok-elements.elements.items) c.into_lists-nodes.ensures.elements (subst (λ l. IsByNumber l c.into_lists-nodes.result.2.items c.in_ok-elements.elements.items) at c.in_ok-elements.ensures) in
    is_graph whole graph c.in_ok-parts.parts c.into_lists-nodes.ensures.nodes c.into_lists-nodes.ensures.definitions ordered root c.requires.references

pub returns-clause-closed : goal.returns-clause-closed
returns-clause-closed c =
    let whole : Full = full_of c.args.full.now in
    let sound : IsSoundBody (last_place c.args.full.now.files) (body_of c.args.full.now.body) = subst (λ b. IsSoundBody (last_place c.args.full.now.files) (body_of b)) c.body.ensures.body c.body.ensures.sound in
    let at : c.in_ok-tokens.tokens ≡ places whole = c.in_ok-tokens.ensures ∙ c.in_ok-places.ensures ∙ ap (λ b. element_places (body_pattern (body_of b))) c.body.ensures.body in
    let root : IsRoot whole.files (places whole) (start (length (places whole))) c.in_ok-parts.parts (body_pattern whole.body) c.in_ok-parts.root =
    root_walked whole (last_place c.args.full.now.files) c.requires.simplifiable c.requires.faultless sound c.args.names.now c.in_ok-tokens.tokens (body_of c.body-2.result.now) c.in_ok-parts.parts c.in_ok-parts.root
    c.requires.names at (ap body_of c.body-2.ensures.body) c.in_ok-parts.ensures in
    let graph : Graph = record { nodes = c.into_lists-nodes.result.0; definitions = c.into_lists-nodes.result.1; elements = c.in_ok-elements.elements; root = c.in_ok-parts.root } in
    let ordered : IsByNumber (places whole) c.in_ok-parts.parts.elements c.in_ok-elements.elements.items =
    subst (λ l. IsByNumber (places whole) l c.in_ok-elements.elements.items) c.into_lists-nodes.ensures.elements (subst (λ l. IsByNumber l c.into_lists-nodes.result.2.items c.in_ok-elements.elements.items) at c.in_ok-elements.ensures) in
    closed whole graph c.in_ok-parts.parts c.into_lists-nodes.ensures.nodes c.into_lists-nodes.ensures.definitions ordered root c.into_lists-nodes.ensures.within
