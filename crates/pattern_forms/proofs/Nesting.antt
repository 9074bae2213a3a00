-- Members joined one after the other.
use Rattle.std.proofs.Common.{◌≡◌, ℕ, zero, suc, ◌+◌, ◌<◌, List, [], ◌∷◌, ◌++◌, map, take, length, get_or, Option, Some, None, refl, sym, ◌∙◌, ap, arith}
use Rattle.std.proofs.lemmas.Option.{slice_get-get_or, slice_get_read}
use Rattle.std.proofs.lemmas.List.{take_more}
use Rattle.std.proofs.lemmas.List.Sums.{fold_push}
use Rattle.rng_model.specs.Patterns.{Pattern}
use Rattle.simple_form_laws.specs.Meaning.{Connective, connect}
use Rattle.pattern_intern.specs.Stored.{Stored, tree_at, count, Extends}
use Rattle.pattern_intern.specs.Schemas.{AreRefsBelow}
use Rattle.pattern_intern.specs.declared.id.PatternId.{PatternId}
use Rattle.schema_graph.specs.declared.graph.Graph.{Graph}
use Rattle.pattern_forms.specs.Reaching.{definition_at}
use Rattle.pattern_forms.specs.Making.{form_of, form_at, all_joined, AreMade, AreWithin, IsNested}
use Rattle.pattern_forms.specs.Outcomes.{IsMade}

module _ (forms : List (Option PatternId)) where
  pub made_at : (members : List ℕ) (k d : ℕ) → AreMade forms members → k < length members → IsMade forms (get_or members k d)
  made_at members k d h l = h.each k (get_or members k d) (slice_get-get_or members k d l)

  -- what is known of a form stays
  pub form_kept : (old new : Stored) (j : ℕ) → AreWithin old forms → Extends old new → IsMade forms j → form_at new forms j ≡ form_at old forms j
  form_kept old new j w x (id, e) = ap (form_of new) e ∙ x.kept id.0 (w.each j id e) ∙ sym (ap (form_of old) e)

  pub within_kept : (old new : Stored) → AreWithin old forms → Extends old new → AreWithin new forms
  within_kept old new w x = record { each = λ i id e. (let l = w.each i id e in let m = x.longer in omega arith) }

pub extends_same : (s : Stored) → Extends s s
extends_same s = record { longer = omega arith; kept = λ id l. refl; more_classes = omega arith; classes = λ id l. refl; more_literals = omega arith; literals = λ id l. refl }

pub extends_then : (a b c : Stored) → Extends a b → Extends b c → Extends a c
extends_then a b c h k = record {
  longer = (let x = h.longer in let y = k.longer in omega arith);
  kept = λ id l. k.kept id (let x = h.longer in omega arith) ∙ h.kept id l;
  more_classes = (let x = h.more_classes in let y = k.more_classes in omega arith);
  classes = λ id l. k.classes id (let x = h.more_classes in omega arith) ∙ h.classes id l;
  more_literals = (let x = h.more_literals in let y = k.more_literals in omega arith);
  literals = λ id l. k.literals id (let x = h.more_literals in omega arith) ∙ h.literals id l;
}

joined_push : (c : Connective) (ps : List Pattern) (q : Pattern) → 0 < length ps → all_joined c (ps ++ q ∷ []) ≡ connect c (all_joined c ps) q
joined_push c [] q l = absurd (omega arith)
joined_push c (p ∷ ps) q l = fold_push (connect c) p ps q

map-push : (f : ℕ → Pattern) (xs : List ℕ) (y : ℕ) → map f (xs ++ y ∷ []) ≡ map f xs ++ f y ∷ []
map-push f [] y = refl
map-push f (x ∷ xs) y = ap (λ ys. f x ∷ ys) (map-push f xs y)

some_taken : (f : ℕ → Pattern) (xs : List ℕ) (k : ℕ) → 0 < k → 0 < length xs → 0 < length (map f (take k xs))
some_taken f [] k l m = absurd (omega arith)
some_taken f (x ∷ xs) zero l m = absurd (omega arith)
some_taken f (x ∷ xs) (suc k) l m = omega arith

pub first_taken : (c : Connective) (f : ℕ → Pattern) (xs : List ℕ) → 0 < length xs → f (get_or xs 0 0) ≡ all_joined c (map f (take 1 xs))
first_taken c f [] l = absurd (omega arith)
first_taken c f (x ∷ xs) l = refl

pub one_more : (c : Connective) (f : ℕ → Pattern) (xs : List ℕ) (k : ℕ) → 0 < k → k < length xs → connect c (all_joined c (map f (take k xs))) (f (get_or xs k 0)) ≡ all_joined c (map f (take (k + 1) xs))
one_more c f xs k l m =
    sym (joined_push c (map f (take k xs)) (f (get_or xs k 0)) (some_taken f xs k l (omega arith)))
    ∙ ap (all_joined c) (sym (map-push f (take k xs) (get_or xs k 0))) ∙ ap (λ ys. all_joined c (map f ys)) (sym (take_more xs k 0 m))

module _ (c : Connective) (forms : List (Option PatternId)) (members : List ℕ) (many : 0 < length members) (made : AreMade forms members) where
  pub nested_first : (s : Stored) (id : ℕ) → AreWithin s forms → id < count s → tree_at s id ≡ form_at s forms (get_or members 0 0) → IsNested c forms members 1 s s id
  nested_first s id w l e = record {
    within = l;
    made = e ∙ first_taken c (form_at s forms) members many;
    kept = extends_same s;
    refs = λ n r. r;
    others = w;
  }

  pub nested_more : (k : ℕ) (a b d : Stored) (i j m : ℕ) → 0 < k → k < length members → AreWithin a forms → IsNested c forms members k a b i → tree_at b j ≡ form_at b forms (get_or members k 0) →
      m < count d → tree_at d m ≡ connect c (tree_at b i) (tree_at b j) → Extends b d → ((n : ℕ) → AreRefsBelow n b → AreRefsBelow n d) → IsNested c forms members (k + 1) a d m
  nested_more k a b d i j m p l w h e u f x r = record {
    within = u;
    made = f ∙ ap (λ z. connect c z (tree_at b j)) h.made
        ∙ ap (connect c (all_joined c (map (form_at a forms) (take k members)))) (e ∙ form_kept forms a b (get_or members k 0) w h.kept (made_at forms members k 0 made l))
        ∙ one_more c (form_at a forms) members k p l;
    kept = extends_then a b d h.kept x;
    refs = λ n s. r n (h.refs n s);
    others = within_kept forms b d h.others x;
  }

pub definition_read : (g : Graph) (d i : ℕ) → d < length g.definitions.items → i ≡ get_or g.definitions.items d i → definition_at g d ≡ i ∷ []
definition_read g d i l e = ap (λ o. elim o as (λ o. List ℕ) [ None ↦ [] | Some i ↦ i ∷ [] ]) (slice_get_read g.definitions.items (length g.definitions.items) d i refl l e)

pub some_length : (xs : List ℕ) → (xs ≡ [] → ⊥) → 0 < length xs
some_length [] n = absurd (n refl)
some_length (x ∷ xs) n = omega arith
