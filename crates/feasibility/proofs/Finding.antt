-- States keep their numbers while more are found.
use Rattle.std.proofs.Common.{◌≡◌, ◌<◌, List, [], ◌∷◌, length, refl, sym, ◌∙◌, ap, subst, arith}
use Rattle.std.proofs.lemmas.List.{append-nil}
use Rattle.rng_model.specs.Texts.{Text}
use Rattle.rng_model.specs.Universe.{Lists}
use Rattle.text_atoms.specs.declared.origin.Origin.{Origin}
use Rattle.text_atoms.specs.Origins.{texts_of}
use Rattle.name_universe.specs.Tables.{NameTables}
use Rattle.rng_model.specs.Universe.{AreLiterals}
use Rattle.rng_model.specs.States.{State}
use Rattle.pattern_intern.specs.Stored.{Stored, Extends}
use Rattle.derivatives.specs.declared.states.State.{State as Key}
use Rattle.derivatives.specs.Views.{Machine, place_of}
use Rattle.transitions.specs.Arcs.{state_in}
use Rattle.feasibility.specs.declared.explorer.Explorer.{Explorer}
use Rattle.feasibility.specs.Exploring.{IsExploring, Finds, AreWithin, states_of, found, pool, schema, names, groups_of}

pub states_kept : (s t : Stored) → Extends s t → (keys : List Key) → AreWithin s keys → states_of t keys ≡ states_of s keys
states_kept s t x [] w = refl
states_kept s t x (k ∷ ks) w =
    let h = x.kept k.pattern.0 w.0 in
    let r = states_kept s t x ks w.1 in
    (λ i. (record { place = place_of k.place; pattern = h i }) ∷ r i)

pub within_kept : (s t : Stored) → Extends s t → (keys : List Key) → AreWithin s keys → AreWithin t keys
within_kept s t x [] w = tt
within_kept s t x (k ∷ ks) w = let l = w.0 in let m = x.longer in (omega (arith, l, m), within_kept s t x ks w.1)

abbrev the_names : NameTables → List (Text × Origin) → Lists
the_names d a = record { elements = d.elements.names; attributes = d.attributes.names; atoms = texts_of a }

names_same : (d e : NameTables) (a b : List (Text × Origin)) → d ≡ e → a ≡ b → the_names d a ≡ the_names e b
names_same d e a b p q = (λ i. the_names (p i) (q i))

-- the pool alone has grown
pub record IsOnlyPool (e f : Explorer) : Type 0 where
  pub schema : schema f ≡ schema e
  pub universe : f.derivatives.universe ≡ e.derivatives.universe
  pub atoms : f.derivatives.atoms ≡ e.derivatives.atoms
  pub groups : groups_of f ≡ groups_of e
  pub limit : f.limit ≡ e.limit
  pub level : f.level ≡ e.level
  pub pool : Extends (pool e) (pool f)
  pub keys : f.states.keys ≡ e.states.keys

module _ (e f : Explorer) (x : IsExploring e) (p : IsOnlyPool e f) where
  found_same : found f ≡ found e
  found_same = ap (states_of (pool f)) p.keys ∙ states_kept (pool e) (pool f) p.pool e.states.keys x.within

  names_are : names f ≡ names e
  names_are = names_same f.derivatives.universe e.derivatives.universe f.derivatives.atoms e.derivatives.atoms p.universe p.atoms

  pub pool_finds : Finds e f
  pool_finds = record {
    schema = p.schema;
    universe = p.universe;
    atoms = p.atoms;
    groups = p.groups;
    limit = p.limit;
    level = p.level;
    pool = p.pool;
    keys = ([], p.keys ∙ sym (append-nil e.states.keys));
    longer = let l : length (found f) ≡ length (found e) = ap (λ (xs : List State). length xs) found_same in omega (arith, l);
    states = λ id l. ap (λ xs. state_in xs id) found_same;
  }

  pub pool_explores : IsExploring f
  pool_explores = record {
    literals = x.literals;
    are_literals = subst (λ g. AreLiterals g x.literals) (sym p.schema) x.are_literals;
    alike = λ l h. rw (p.schema, names_are, p.groups) (x.alike l (subst (λ g. AreLiterals g l) p.schema h));
    within = subst (AreWithin (pool f)) (sym p.keys) (within_kept (pool e) (pool f) p.pool e.states.keys x.within);
    reached = λ id l. rw (p.schema, names_are, p.level, found_same) (x.reached id (subst (λ (xs : List State). id < length xs) found_same l));
    few = rw (found_same, p.limit) x.few;
  }

-- the same states, with other derivatives
abbrev pub with_machine : Explorer → Machine → Explorer
with_machine e d = record { derivatives = d; elements = e.elements; attributes = e.attributes; atoms = e.atoms; states = e.states; limit = e.limit; level = e.level }

-- after a step
pub stepped : (e : Explorer) (d : Machine) → d.numbered.schema ≡ schema e → d.universe ≡ e.derivatives.universe → d.atoms ≡ e.derivatives.atoms → Extends (pool e) d.numbered.pool →
    IsOnlyPool e (with_machine e d)
stepped e d g u a x = record { schema = g; universe = u; atoms = a; groups = refl; limit = refl; level = refl; pool = x; keys = refl }

pub finds_names : (e f : Explorer) → Finds e f → names f ≡ names e
finds_names e f x = names_same f.derivatives.universe e.derivatives.universe f.derivatives.atoms e.derivatives.atoms x.universe x.atoms
