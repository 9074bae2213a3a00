-- A new table.
use Rattle.std.proofs.Common.{◌≡◌, ◌≢◌, ℕ, zero, suc, ◌+◌, ◌<◌, ◌≤◌, ◌⊎◌, inl, inr, max, Option, Some, None, List, [], ◌∷◌, length, slice_get, Contains, refl, sym, ◌∙◌, ap, subst, arith, IsUtf8}
use Rattle.std.specs.List.{AllByRecursion}
use Rattle.std.proofs.lemmas.Option.{slice_get_within}
use Rattle.rng_model.specs.Names.{Name}
use Rattle.rng_model.specs.Texts.{Text}
use Rattle.rng_model.specs.Atoms.{Literals}
use Rattle.rng_model.specs.Codes.{Code}
use Rattle.rng_model.specs.Patterns.{Pattern, Schema, HasNoAfter, not_allowed, empty, text, ref, value, data_type, data_except, attribute, one_or_more, choice, group, interleave, after}
use Rattle.rng_model.specs.Universe.{Lists, AreLiterals, IsElementClass, IsAttributeClass}
use Rattle.rng_model.specs.Alike.{AreAlikeGroups, AreAlikeNames, AreAlikeTexts, AreGroups, Groups}
use Rattle.rng_model.specs.States.{State, AreDistinct, Reach, step}
use Rattle.table_laws.specs.Premises.{AreListable}
use Rattle.table_laws.specs.Reaching.{GoesInto, afters, free_code, start_state}
use Rattle.table_laws.proofs.Free.{free_falls, one_free}
use Rattle.table_laws.proofs.Levels.{reach_zero}
use Rattle.transitions.specs.declared.state_id.StateId.{StateId}
use Rattle.transitions.proofs.Lists.{slice_get-push}
use Rattle.feasibility.specs.declared.explorer.Explorer.{Explorer}
use Rattle.pattern_intern.specs.Schemas.{Numbered}
use Rattle.text_atoms.specs.declared.origin.Origin.{Origin}
use Rattle.text_atoms.specs.Origins.{texts_of}
use Rattle.name_universe.specs.Tables.{NameTables}
use Rattle.derivatives.specs.Views.{Machine, machine}
use Rattle.derivatives.specs.declared.states.State.{State as Key}
use Rattle.feasibility.specs.Exploring.{AreWithin, IsExploring, IsFreeAt, at, found, groups_of, names, pool, schema}
use Rattle.feasibility.specs.Grown.{IsGrown, IsLevel, IsStarted}
use Rattle.feasibility.proofs.Apart.{length_states}
use Rattle.feasibility.proofs.Sizes.{holds_at, number_of}

-- schemas' literals tell the same texts apart
same_texts : (g : Schema) (l m : Literals) → AreLiterals g l → AreLiterals g m → (s t : Text) → AreAlikeTexts l s t → AreAlikeTexts m s t
same_texts g l m a b s t h = record {
  white = h.white;
  values = λ k v c. h.values k v ((a.each (k, v)).1 ((b.each (k, v)).0 c));
  kinds = λ k c. h.kinds k ((a.kinds k).1 ((b.kinds k).0 c));
}

pub alike_for : (g : Schema) (u : Lists) (x : Groups) (l m : Literals) → AreLiterals g l → AreGroups Name (AreAlikeNames (IsElementClass g)) u.elements x.elements →
    AreGroups Name (AreAlikeNames (IsAttributeClass g)) u.attributes x.attributes → AreGroups Text (AreAlikeTexts l) u.atoms x.atoms → AreLiterals g m → AreAlikeGroups g m u x
alike_for g u x l m a e n t b = record {
  elements = e;
  attributes = n;
  atoms = record {
    same_length = t.same_length;
    each = λ i j s r p q. (λ k. same_texts g l m a b s r ((t.each i j s r p q).0 k), λ k. (t.each i j s r p q).1 (same_texts g m l b a s r k));
    numbered = t.numbered;
  };
}

-- each member of a list, by its place
pub all_at : (P : Text → Type 0) (xs : List Text) → ((i : ℕ) (x : Text) → slice_get xs i ≡ Some x → P x) → AllByRecursion P xs
all_at P [] f = tt
all_at P (x ∷ xs) f = (f 0 x refl, all_at P xs (λ i y e. f (suc i) y e))

none_of : (a b : ℕ) → a ≡ 0 → b ≡ 0 → max a b ≡ 0
none_of a b p q = omega arith

no_afters : (p : Pattern) → HasNoAfter p → afters p ≡ 0
unfolding afters
no_afters (choice p q) h = none_of (afters p) (afters q) (no_afters p h.0) (no_afters q h.1)
no_afters (group p q) h = none_of (afters p) (afters q) (no_afters p h.0) (no_afters q h.1)
no_afters (interleave p q) h = none_of (afters p) (afters q) (no_afters p h.0) (no_afters q h.1)
no_afters (one_or_more p) h = no_afters p h
no_afters (after p q) h = absurd h
no_afters not_allowed h = refl
no_afters empty h = refl
no_afters text h = refl
no_afters (ref d) h = refl
no_afters (value k v) h = refl
no_afters (data_type k) h = refl
no_afters (data_except k e) h = refl
no_afters (attribute c p) h = refl

is_dead : (p : Pattern) → (p ≢ not_allowed → ⊥) → p ≡ not_allowed
is_dead not_allowed h = refl
is_dead empty h = absurd (h (λ e. absurd (cc)))
is_dead text h = absurd (h (λ e. absurd (cc)))
is_dead (ref d) h = absurd (h (λ e. absurd (cc)))
is_dead (value k v) h = absurd (h (λ e. absurd (cc)))
is_dead (data_type k) h = absurd (h (λ e. absurd (cc)))
is_dead (data_except k x) h = absurd (h (λ e. absurd (cc)))
is_dead (attribute c p) h = absurd (h (λ e. absurd (cc)))
is_dead (one_or_more p) h = absurd (h (λ e. absurd (cc)))
is_dead (choice p q) h = absurd (h (λ e. absurd (cc)))
is_dead (group p q) h = absurd (h (λ e. absurd (cc)))
is_dead (interleave p q) h = absurd (h (λ e. absurd (cc)))
is_dead (after p q) h = absurd (h (λ e. absurd (cc)))

-- no document ends before it begins
pub start_dead : (g : Schema) (u : Lists) → HasNoAfter g.start → (step g u (start_state g) Code.Closing).pattern ≡ not_allowed
start_dead g u h = is_dead (step g u (start_state g) Code.Closing).pattern go
  where
    go : (step g u (start_state g) Code.Closing).pattern ≢ not_allowed → ⊥
    go n = let l = free_falls g u (start_state g) n in let e = no_afters g.start h in absurd (omega (arith, l, e))

-- what no node reaches
module _ (e : Explorer) (frees : List (Option StateId)) (listable : AreListable (schema e) (names e)) (small : e.limit ≤ 1000000) (x : IsExploring e) (start : IsStarted e) (one : length (found e) ≤ 1)
    (once : AreDistinct (found e)) (zero_level : e.level ≡ 0) (all : length frees ≡ length (found e)) (nones : (id : ℕ) (next : Option StateId) → slice_get frees id ≡ Some next → next ≡ None) where
  start_number : (id : ℕ) → id < length (found e) → IsStarted e → at e id ≡ start_state (schema e)
  start_number id l (inl s) = let n = s.0 in absurd (omega (arith, n, l))
  start_number zero l (inr s) = s.1
  start_number (suc id) l (inr s) = absurd (omega (arith, one, l))

  dead_at : (id : ℕ) → id < length (found e) → (step (schema e) (names e) (at e id) (free_code (at e id).place)).pattern ≡ not_allowed
  dead_at id l =
      subst (λ s. (step (schema e) (names e) s (free_code s.place)).pattern ≡ not_allowed) (sym (start_number id l start))
      (start_dead (schema e) (names e) listable.simple.start)

  closed : (s : State) → Contains (found e) s → GoesInto (schema e) (names e) 0 s (Contains (found e))
  closed s c code w leads =
      let t = number_of (found e) s c in
      let d = subst (λ z. (step (schema e) (names e) z (free_code z.place)).pattern ≡ not_allowed) t.2 (dead_at t.0 t.1) in
      absurd (leads.allowed (subst (λ k. (step (schema e) (names e) s k).pattern ≡ not_allowed) (sym (one_free (schema e) (names e) s code w leads.allowed)) d))

  has_start : (schema e).start ≢ not_allowed → IsStarted e → Contains (found e) (start_state (schema e))
  has_start n (inl s) = absurd (n s.1)
  has_start n (inr s) = holds_at (found e) 0 (start_state (schema e)) s.0 s.1

  reached_zero : (s : State) → Reach (schema e) (names e) 0 s → Contains (found e) s
  reached_zero = reach_zero (schema e) (names e) (Contains (found e)) (λ n. has_start n start) closed

  free_of : (id : ℕ) (next : Option StateId) → id < length (found e) → next ≡ None → IsFreeAt e id next
  free_of id next l n = subst (IsFreeAt e id) (sym n) (dead_at id l)

  only_level : (k n : ℕ) → (slice_get [] k ≡ Some n) ⊎ ((k ≡ 0) × (length (found e) ≡ n)) → IsLevel e k n
  only_level k n (inl i) = absurd (cc)
  only_level k n (inr i) =
      let a = i.1 in
      record {
        most = omega (arith, a);
        each = λ id l. (λ b. subst (λ j. Reach (schema e) (names e) j (at e id)) (zero_level ∙ sym i.0) (x.reached id l), λ r. omega (arith, a, l));
      }

  pub grown_first : IsGrown e frees [] (length (found e) ∷ [])
  grown_first = record {
    listable = listable;
    small = small;
    exploring = x;
    start = start;
    once = once;
    each = λ s. (λ c. let t = number_of (found e) s c in subst (Reach (schema e) (names e) e.level) t.2 (x.reached t.0 t.1), λ r. reached_zero s (subst (λ k. Reach (schema e) (names e) k s) zero_level r));
    all_frees = all;
    some_rows = omega arith;
    rows = record {
      free = λ id next k. free_of id next (let w = slice_get_within frees id next k in omega (arith, w, all)) (nones id next k);
      row = λ id arcs k. absurd (cc);
    };
    all_levels = omega (arith, zero_level);
    level = λ k n i. only_level k n (slice_get-push [] (length (found e)) n k i);
    stepped = λ k n i l. absurd (omega (arith, zero_level, l));
  }

here_or_before : (i p : ℕ) → i < p + 1 → (i < p) ⊎ (i ≡ p)
here_or_before zero zero l = inr refl
here_or_before zero (suc p) l = inl (omega arith)
here_or_before (suc i) zero l = absurd (omega arith)
here_or_before (suc i) (suc p) l = go (here_or_before i p (omega arith))
  where
    go : (i < p) ⊎ (i ≡ p) → (suc i < suc p) ⊎ (suc i ≡ suc p)
    go (inl k) = inl (omega arith)
    go (inr e) = inr (ap suc e)

-- the texts before a place and the one there
pub texts_more : (xs : List Text) (p : ℕ) (t : Text) → slice_get xs p ≡ Some t → IsUtf8 t → ((i : ℕ) (x : Text) → i < p → slice_get xs i ≡ Some x → IsUtf8 x) →
    (i : ℕ) (x : Text) → i < p + 1 → slice_get xs i ≡ Some x → IsUtf8 x
texts_more xs p t e u before i x l h = go (here_or_before i p l)
  where
    go : (i < p) ⊎ (i ≡ p) → IsUtf8 x
    go (inl k) = before i x k h
    go (inr k) = (let q : t ≡ x = cc in subst IsUtf8 q u)

-- without a state
pub explores_first : (e : Explorer) (l : Literals) → AreLiterals (schema e) l → AreGroups Name (AreAlikeNames (IsElementClass (schema e))) (names e).elements e.elements →
    AreGroups Name (AreAlikeNames (IsAttributeClass (schema e))) (names e).attributes e.attributes → AreGroups Text (AreAlikeTexts l) (names e).atoms e.atoms → e.states.keys ≡ [] → IsExploring e
explores_first e l a x y z k =
    let n : length (found e) ≡ 0 = length_states (pool e) e.states.keys ∙ ap (λ (ks : List Key). length ks) k in
    record {
      literals = l;
      are_literals = a;
      alike = λ m h. alike_for (schema e) (names e) (groups_of e) l m a x y z h;
      within = subst (AreWithin (pool e)) (sym k) tt;
      reached = λ id w. absurd (omega (arith, n, w));
      few = omega (arith, n);
    }

abbrev over : Explorer → Machine → Explorer
over e m = record { derivatives = m; elements = e.elements; attributes = e.attributes; atoms = e.atoms; states = e.states; limit = e.limit; level = e.level }

-- over derivatives that are made of these
pub explores_of : (e : Explorer) (n : Numbered) (u : NameTables) (a : List (Text × Origin)) (l : Literals) → e.derivatives ≡ machine n u a → AreLiterals n.schema l →
    AreGroups Name (AreAlikeNames (IsElementClass n.schema)) u.elements.names e.elements → AreGroups Name (AreAlikeNames (IsAttributeClass n.schema)) u.attributes.names e.attributes →
    AreGroups Text (AreAlikeTexts l) (texts_of a) e.atoms → e.states.keys ≡ [] → IsExploring e
explores_of e n u a l d x y z w k = subst (λ (m : Machine). IsExploring (over e m)) (sym d) (explores_first (over e (machine n u a)) l x y z w k)
