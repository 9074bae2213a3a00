-- The walk of a whole tree.
use Rattle.std.proofs.Common.{◌≡◌, ℕ, ◌<◌, List, [], length, sym, subst}
use Rattle.grammar_laws.specs.Trees.{Body}
use Rattle.grammar_laws.specs.Files.{SchemaFile, Full, body_pattern}
use Rattle.schema_tree.specs.Sound.{IsSoundBody}
use Rattle.simple_form_laws.specs.Faults.{Fault, HasFault, IsSimplifiable, fault_number}
use Rattle.tree_graph.specs.States.{State}
use Rattle.tree_graph.specs.Graphs.{IsRoot, IsRootReady, no_table, start}
use Rattle.tree_graph.specs.Walker.{CanWalk, Walks}
use Rattle.tree_graph.proofs.Sound.{sound_parts}
use Rattle.tree_graph.proofs.Wholes.{places, root_ready}

module _ (f : Full) (end : ℕ) (taken : IsSimplifiable f) (none : (x : Fault) → fault_number x < 41 → HasFault f x → ⊥) (sound : IsSoundBody end f.body) where
  ready : IsRootReady f.files (places f) (start (length (places f))) (body_pattern f.body)
  ready = root_ready f (sound_parts f end taken none sound)

  pub can_walk : (fs : List SchemaFile) (ps : List ℕ) (b : Body) → fs ≡ f.files → ps ≡ places f → b ≡ f.body → CanWalk fs ps no_table no_table (start (length ps)) (body_pattern b)
  can_walk fs ps b files at body =
      subst (λ x. CanWalk x ps no_table no_table (start (length ps)) (body_pattern b)) (sym files)
      (subst (λ x. CanWalk f.files x no_table no_table (start (length x)) (body_pattern b)) (sym at)
      (subst (λ x. CanWalk f.files (places f) no_table no_table (start (length (places f))) (body_pattern x)) (sym body) (record { ready = ([], ([], ready)) })))

  pub root_walked : (fs : List SchemaFile) (ps : List ℕ) (b : Body) (new : State) (i : ℕ) → fs ≡ f.files → ps ≡ places f → b ≡ f.body →
      Walks fs ps no_table no_table (start (length ps)) new (body_pattern b) i → IsRoot f.files (places f) (start (length (places f))) new (body_pattern f.body) i
  root_walked fs ps b new i files at body w =
      let v = subst (λ x. Walks f.files (places f) no_table no_table (start (length (places f))) new (body_pattern x) i) body
      (subst (λ x. Walks f.files x no_table no_table (start (length x)) new (body_pattern b) i) at
      (subst (λ x. Walks x ps no_table no_table (start (length ps)) new (body_pattern b) i) files w)) in
      v.walked [] [] ready
