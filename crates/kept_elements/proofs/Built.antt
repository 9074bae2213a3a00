-- The schema that is built is the simple form of the tree, and is there in any case.
use Rattle.std.proofs.Common.{◌≡◌, ℕ, zero, suc, inl, inr, List, [], ◌∷◌, Option, Some, length, slice_get, refl, sym, ◌∙◌, ap, subst, arith}
use Rattle.std.specs.Prelude.{Contains}
use Rattle.rng_model.specs.Patterns.{Schema, Definition}
use Rattle.derivative_laws.proofs.Members.{IsIn, contained}
use Rattle.grammar_laws.specs.Files.{Full}
use Rattle.simple_form_laws.specs.Forms.{IsReached, new_number, renumbered, IsDefinition, AreDefinitions, IsFormOf}
use Rattle.name_classes.specs.Views.{class_of}
use Rattle.name_classes.specs.declared.class.NameClass.{NameClass}
use Rattle.schema_graph.specs.Shown.{IsGraph}
use Rattle.schema_graph.specs.declared.graph.Graph.{Graph}
use Rattle.pattern_intern.specs.Stored.{Stored, tree_at}
use Rattle.pattern_intern.specs.declared.id.PatternId.{PatternId}
use Rattle.pattern_forms.specs.Outcomes.{AreForms, AreReached}
use Rattle.kept_elements.specs.Wanted.{HasContent, IsReady}
use Rattle.kept_elements.specs.Outcomes.{AreKept}
use Rattle.kept_elements.specs.Built.{IsBuiltDefinition, AreBuilt, IsBuilt}
use Rattle.kept_elements.proofs.Contents.{same_content}
use Rattle.kept_elements.proofs.Reached.{known, root_means, content_means, wanted_reached, reached_wanted}

-- what is read stands in the list
pub member : {X : Type 0} (xs : List X) (k : ℕ) (x : X) → slice_get xs k ≡ Some x → Contains xs x
member {X = X} xs k x e = contained x xs (go xs k e)
  where
    go : (ys : List X) (i : ℕ) → slice_get ys i ≡ Some x → IsIn x ys
    go [] i q = absurd (cc)
    go (y ∷ ys) zero q = inl (cc)
    go (y ∷ ys) (suc i) q = inr (go ys i q)

-- definitions by number are definitions in order
definitions_are : (f : Full) (kept ns : List ℕ) (es : List Definition) → length es ≡ length ns →
    ((k n : ℕ) → slice_get ns k ≡ Some n → (e : Definition) × (slice_get es k ≡ Some e) × IsDefinition f kept n e) → AreDefinitions f kept ns es
definitions_are f kept [] [] l h = tt
definitions_are f kept [] (e ∷ es) l h = absurd (omega arith)
definitions_are f kept (n ∷ ns) [] l h = absurd (omega arith)
definitions_are f kept (n ∷ ns) (e ∷ es) l h =
    let t = h 0 n refl in
    (subst (IsDefinition f kept n) (first t.0 t.1) t.2, definitions_are f kept ns es (omega arith) (λ k m q. h (suc k) m q))
  where
    first : (x : Definition) → Some e ≡ Some x → x ≡ e
    first x q = cc

module _ (f : Full) (g : Graph) (h : IsGraph f g) (pool : Stored) (forms : List (Option PatternId)) (given : AreForms g pool forms) (reached : AreReached g forms) where
  pub built_form : (kept : List ℕ) (s : Schema) → AreKept g pool forms kept → IsBuilt g pool forms kept s → IsFormOf f s
  built_form kept s k b = record {
    kept = kept;
    ascending = k.ascending;
    each = λ n. ((λ c. wanted_reached f g h pool forms given reached n ((k.each n).0 c)), (λ r. (k.each n).1 (reached_wanted f g h pool forms given reached n r)));
    start = (tree_at pool b.root.0, root_means f g h pool forms given reached b.root b.form, b.start);
    elements = definitions_are f kept kept s.elements b.elements.each definition;
  }
    where
      one : (n : ℕ) (e : Definition) → IsReached f n → IsBuiltDefinition g pool forms kept n e → IsDefinition f kept n e
      one n e r x =
          let w = known f g h pool forms given reached n r in
          record {
            token = w.token;
            is = w.is;
            class = w.same ∙ ap Some (ap class_of (sames n e r x) ∙ sym x.same);
            content = (tree_at pool x.form.0, content_means f g h pool forms given reached n x.class x.form r x.is, x.content);
          }
        where
          sames : (n : ℕ) (e : Definition) (r : IsReached f n) (x : IsBuiltDefinition g pool forms kept n e) → (known f g h pool forms given reached n r).class ≡ x.class
          sames n e r x = let w = known f g h pool forms given reached n r in (same_content g forms n w.class x.class w.form x.form w.content x.is).0

      definition : (i n : ℕ) → slice_get kept i ≡ Some n → (e : Definition) × (slice_get s.elements i ≡ Some e) × IsDefinition f kept n e
      definition i n q =
          let t = b.elements.are i n q in
          (t.0, t.1, one n t.0 (wanted_reached f g h pool forms given reached n ((k.each n).0 (member kept i n q))) t.2)

-- the definitions of numbers whose contents have forms
module _ (g : Graph) (pool : Stored) (forms : List (Option PatternId)) (kept : List ℕ) where
  abbrev IsHad : ℕ → Type 0
  IsHad n = (d : NameClass) × (id : PatternId) × HasContent g forms n d id

  some_definitions : (ns : List ℕ) → ((n : ℕ) → IsIn n ns → IsHad n) → (es : List Definition) × AreBuilt g pool forms kept ns es
  some_definitions [] f = ([], record { each = refl; are = λ k n e. absurd (cc) })
  some_definitions (n ∷ ns) f =
      let c = f n (inl refl) in
      let t = some_definitions ns (λ m i. f m (inr i)) in
      let e : Definition = record { class = class_of c.0; content = renumbered (new_number kept) (tree_at pool c.1.0) } in
      (e ∷ t.0, record { each = ap suc t.1.each; are = λ k m q. at e t.0 (record { class = c.0; form = c.1; is = c.2; same = refl; content = refl }) t.1 k m q })
    where
      at : (e : Definition) (es : List Definition) → IsBuiltDefinition g pool forms kept n e → AreBuilt g pool forms kept ns es → (k m : ℕ) → slice_get (n ∷ ns) k ≡ Some m → (x : Definition) × (slice_get (e ∷ es) k ≡ Some x) × IsBuiltDefinition g pool forms kept m x
      at e es b t zero m q = (e, refl, subst (λ z. IsBuiltDefinition g pool forms kept z e) (cc) b)
      at e es b t (suc k) m q = t.are k m q

  pub some_schema : IsReady g pool forms → AreKept g pool forms kept → (s : Schema) × IsBuilt g pool forms kept s
  some_schema r k =
      let t = some_definitions kept (λ n i. r.contents n ((k.each n).0 (contained n kept i))) in
      (record { start = renumbered (new_number kept) (tree_at pool r.root.0.0); elements = t.0 }, record { root = r.root.0; form = r.root.1; start = refl; elements = t.1 })
