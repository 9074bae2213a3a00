-- What is wanted is what can be reached in the simple form of the tree.
use Rattle.std.proofs.Common.{◌≡◌, ℕ, List, [], Option, Some, refl, sym, subst}
use Rattle.rng_model.specs.Patterns.{Pattern, ref}
use Rattle.grammar_laws.specs.Files.{Full}
use Rattle.simple_form_laws.specs.ClassForms.{OfElement}
use Rattle.simple_form_laws.specs.ClassForms as classes
use Rattle.simple_form_laws.specs.Meaning.{Means}
use Rattle.simple_form_laws.specs.Forms.{tree, ElementToken, token_of, HasRef, IsReached, from_start}
use Rattle.simple_form_laws.specs.Forms as by
use Rattle.simple_form_laws.proofs.OneMeaning.{means-same, found}
use Rattle.simple_form_laws.proofs.Tokens.{reached_token}
use Rattle.name_classes.specs.Views.{class_of}
use Rattle.name_classes.specs.declared.class.NameClass.{NameClass}
use Rattle.schema_graph.specs.Shown.{IsGraph}
use Rattle.schema_graph.specs.declared.graph.Graph.{Graph}
use Rattle.pattern_intern.specs.Stored.{Stored, tree_at}
use Rattle.pattern_intern.specs.declared.id.PatternId.{PatternId}
use Rattle.pattern_forms.specs.Outcomes.{HasForm, AreForms, AreReached}
use Rattle.kept_elements.specs.Wanted.{IsWhole, HasContent, IsWanted, from_root, from_part, from_content, IsReady}
use Rattle.kept_elements.proofs.Contents.{same_content}
use Rattle.kept_elements.proofs.Whole.{whole_form, whole_part}
use Rattle.kept_elements.proofs.References.{ref_part, ref_wanted}
use Rattle.kept_elements.proofs.Shown.{element_shown, visited_shown}

module _ (f : Full) (g : Graph) (h : IsGraph f g) (pool : Stored) (forms : List (Option PatternId)) (given : AreForms g pool forms) (reached : AreReached g forms) where
  -- the token of an element, and the form of its content
  pub record Known (n : ℕ) : Type 0 where
    pub token : ElementToken
    pub is : token_of f n ≡ Some token
    pub class : NameClass
    pub form : PatternId
    pub content : HasContent g forms n class form
    pub same : classes.class_of f.files OfElement token.class ≡ Some (class_of class)
    pub means : Means f.files token.scope token.content (tree_at pool form.0)

  pub known : (n : ℕ) → IsReached f n → Known n
  known n r =
      let v = reached_token f n r in
      let t = v.0 in
      let s = visited_shown f g h forms reached v.2 in
      let e = element_shown f g h forms reached s.2 in
      let m = reached.contents s.0 e.content n e.class s.1 e.is in
      record {
        token = t;
        is = v.1;
        class = e.class;
        form = m.0;
        content = record { node = s.0; number = n; content = e.content; at = h.one s.0 e.content n e.class e.is; is = e.is; form = m.1 };
        same = e.same;
        means = given.means f h e.content m.0 m.1 t.scope t.content e.shows;
      }

  pub root_means : (id : PatternId) → HasForm forms g.root id → Means f.files [] (tree f) (tree_at pool id.0)
  root_means id k = given.means f h g.root id k [] (tree f) h.root

  pub content_means : (n : ℕ) (d : NameClass) (id : PatternId) (r : IsReached f n) → HasContent g forms n d id → Means f.files (known n r).token.scope (known n r).token.content (tree_at pool id.0)
  content_means n d id r k =
      let w = known n r in
      subst (λ x. Means f.files w.token.scope w.token.content (tree_at pool x.0)) (same_content g forms n w.class d w.form id w.content k).1 w.means

  -- each reference in what is wanted can be reached
  pub refs_reached : {p : Pattern} → IsWanted g pool forms p → (n : ℕ) → HasRef n p → IsReached f n
  refs_reached (from_root {id = id} k e) n r = from_start (root_means id k) (subst (HasRef n) e r)
  refs_reached {p} (from_part {q = q} w k) n r = refs_reached w n (ref_part n p q r k)
  refs_reached (from_content {n = m} {d = d} {id = id} w k e) n r =
      let v = refs_reached w m refl in
      by.from_content v (known m v).is (content_means m d id v k) (subst (HasRef n) e r)

  pub wanted_reached : (n : ℕ) → IsWanted g pool forms (ref n) → IsReached f n
  wanted_reached n w = refs_reached w n refl

  pub reached_wanted : (n : ℕ) → IsReached f n → IsWanted g pool forms (ref n)
  reached_wanted n (from_start {q = q} m r) =
      let k = reached.root in
      ref_wanted g pool forms n q (from_root k.1 (means-same f.files m (root_means k.0 k.1))) r
  reached_wanted n (by.from_content {m = i} {t = t} {q = q} v e m r) =
      let w = known i v in
      let k = subst (λ x. Means f.files x.scope x.content q) (found e w.is) m in
      ref_wanted g pool forms n q (from_content (reached_wanted i v) w.content (means-same f.files k w.means)) r

  pub wanted_whole : {p : Pattern} → IsWanted g pool forms p → IsWhole p
  wanted_whole (from_root {id = id} k e) = subst IsWhole (sym e) (whole_form f.files [] (tree f) (tree_at pool id.0) (root_means id k))
  wanted_whole {p} (from_part {q = q} w k) = whole_part p q (wanted_whole w) k
  wanted_whole (from_content {n = n} {d = d} {id = id} w k e) =
      let v = wanted_reached n w in
      let t = known n v in
      subst IsWhole (sym e) (whole_form f.files t.token.scope t.token.content (tree_at pool id.0) (content_means n d id v k))

  pub ready : IsReady g pool forms
  ready = record {
    root = reached.root;
    contents = λ n w. let k = known n (wanted_reached n w) in (k.class, k.form, k.content);
    whole = λ p w. wanted_whole w;
    within = given.within;
  }
