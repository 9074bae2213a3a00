-- The schema that is put together at the end.
use Rattle.std.proofs.Common.{◌≡◌, ℕ, ◌+◌, ◌<◌, ◌⊎◌, inl, inr, Bool, get_or, List, [], ◌∷◌, ◌++◌, map, Option, Some, length, slice_get, refl, sym, ◌∙◌, ap, subst, arith, length-append}
use Rattle.std.specs.Prelude.{Contains, option_map}
use Rattle.std.proofs.lemmas.Option.{same_Some, slice_get_within, slice_get-map}
use Rattle.std.proofs.lemmas.List.{length-map}
use Rattle.rng_model.specs.Classes.{Class}
use Rattle.rng_model.specs.Patterns.{Schema, Definition, ref, IsSimpleForm}
use Rattle.grammar_laws.specs.Files.{Full}
use Rattle.simple_form_laws.specs.Forms.{IsFormOf}
use Rattle.simple_form_laws.specs.Faults.{IsTooDeep}
use Rattle.simple_form_laws.proofs.Wellformed.{start_no_after, content_no_after}
use Rattle.name_classes.specs.Views.{class_of}
use Rattle.name_classes.specs.declared.class.NameClass.{NameClass}
use Rattle.schema_graph.specs.Shown.{IsGraph}
use Rattle.schema_graph.specs.declared.graph.Graph.{Graph}
use Rattle.pattern_intern.specs.Schemas.{Entry, AreWithin, definition_of, schema_of}
use Rattle.pattern_intern.specs.Stored.{Stored, count, tree_at}
use Rattle.pattern_intern.specs.declared.id.PatternId.{PatternId}
use Rattle.pattern_forms.specs.Outcomes.{HasForm}
use Rattle.kept_elements.specs.Wanted.{HasContent, IsWanted, from_root, from_part, from_content, IsReady}
use Rattle.kept_elements.specs.Marking.{IsMarked, AreWanted}
use Rattle.kept_elements.specs.Renumbering.{IsRemade, IsClosedUnder, AreRemade}
use Rattle.kept_elements.specs.Outcomes.{AreFormsOfGraph, AreKept, IsEntry, AreEntries, AreSomeEntries, IsDeep, IsSchemaOf}
use Rattle.kept_elements.specs.Built.{IsBuiltDefinition, IsBuilt}
use Rattle.kept_elements.proofs.Lists.{get_old, get_last, same_or_not, read_or}
use Rattle.kept_elements.proofs.References.{ref_wanted, refs_in}
use Rattle.kept_elements.proofs.Built.{member, built_form, some_schema}
use Rattle.kept_elements.proofs.Deep.{there, deep_schema, schema_deep}
use Rattle.kept_elements.proofs.Reached.{ready}

pub forms_ready : (g : Graph) (pool : Stored) (forms : List (Option PatternId)) → AreFormsOfGraph g pool forms → IsReady g pool forms
forms_ready g pool forms h = ready h.tree g h.graph pool forms h.forms h.reached

module _ (g : Graph) (pool : Stored) (forms : List (Option PatternId)) where
  pub closed_under : (marks : List Bool) (kept : List ℕ) → IsReady g pool forms → AreKept g pool forms kept → AreWanted g pool forms marks → IsClosedUnder pool marks kept
  closed_under marks kept r k w = record {
    each = w.each;
    whole = λ i m. r.whole (tree_at pool i) (w.sound i m);
    refs = λ i m. refs_in (Contains kept) (tree_at pool i) (λ n h. (k.each n).1 (ref_wanted g pool forms n (tree_at pool i) (w.sound i m) h));
    parts = λ i j m l h. w.numbers j l (from_part (w.sound i m) h);
  }

  pub root_marked : (marks : List Bool) (id : PatternId) → IsReady g pool forms → AreWanted g pool forms marks → HasForm forms g.root id → IsMarked marks id.0
  root_marked marks id r w h = w.numbers id.0 (r.within g.root id h) (from_root h refl)

  pub content_marked : (marks : List Bool) (n : ℕ) (d : NameClass) (id : PatternId) → IsReady g pool forms → AreWanted g pool forms marks → IsWanted g pool forms (ref n) → HasContent g forms n d id → IsMarked marks id.0
  content_marked marks n d id r w v h = w.numbers id.0 (r.within h.content id h.form) (from_content v h refl)

  pub kept_wanted : (kept : List ℕ) (i d : ℕ) → AreKept g pool forms kept → i < length kept → IsWanted g pool forms (ref (get_or kept i d))
  kept_wanted kept i d k l = (k.each (get_or kept i d)).0 (member kept i (get_or kept i d) (read_or kept i d (get_or kept i d) l refl))

  pub kept_content : (kept : List ℕ) (i d : ℕ) → IsReady g pool forms → AreKept g pool forms kept → i < length kept → (c : NameClass) × (id : PatternId) × HasContent g forms (get_or kept i d) c id
  kept_content kept i d r k l = r.contents (get_or kept i d) (kept_wanted kept i d k l)

  module _ (new : Stored) (kept : List ℕ) where
    pub no_entries : AreSomeEntries g pool new forms kept 0 []
    no_entries = record { each = refl; are = λ k n l e. absurd (omega arith) }

    pub entry_more : (i n : ℕ) (entries : List Entry) (x : Entry) → AreSomeEntries g pool new forms kept i entries → slice_get kept i ≡ Some n → IsEntry g pool new forms kept n x →
        AreSomeEntries g pool new forms kept (i + 1) (entries ++ x ∷ [])
    entry_more i n entries x h e y = record {
      each = (let l = length-append entries (x ∷ []) in let m = h.each in omega arith);
      are = λ k m l f. go k m l f (same_or_not k i);
    }
      where
        here : slice_get (entries ++ x ∷ []) i ≡ Some x
        here = subst (λ k. slice_get (entries ++ x ∷ []) k ≡ Some x) h.each (get_last entries x)

        go : (k m : ℕ) → k < i + 1 → slice_get kept k ≡ Some m → (k ≡ i) ⊎ (k ≡ i → ⊥) → (z : Entry) × (slice_get (entries ++ x ∷ []) k ≡ Some z) × IsEntry g pool new forms kept m z
        go k m l f (inl q) = (
          x,
          subst (λ j. slice_get (entries ++ x ∷ []) j ≡ Some x) (sym q) here,
          subst (λ j. IsEntry g pool new forms kept j x) (same_Some n m (sym e ∙ subst (λ j. slice_get kept j ≡ Some m) q f)) y,
        )
        go k m l f (inr q) = let t = h.are k m (less q) f in (t.0, get_old entries x k t.0 t.1, t.2)
          where
            less : (k ≡ i → ⊥) → k < i
            less q = omega arith

    pub all_entries : (i : ℕ) (entries : List Entry) → i ≡ length kept → AreSomeEntries g pool new forms kept i entries → AreEntries g pool new forms kept entries
    all_entries i entries e h = record { each = h.each ∙ e; are = λ k n f. h.are k n (let l = slice_get_within kept k n f in omega arith) f }

    -- an entry of a content that is made again
    pub entry_is : (marks : List Bool) (made : List PatternId) (n : ℕ) (d : NameClass) (id x : PatternId) (c : Class) → IsReady g pool forms → AreWanted g pool forms marks → AreRemade pool new kept marks made →
        IsWanted g pool forms (ref n) → HasContent g forms n d id → slice_get made id.0 ≡ Some x → c ≡ class_of d → IsEntry g pool new forms kept n (c, x.0)
    entry_is marks made n d id x c r w m v h e f =
        let t = m.each id.0 (content_marked marks n d id r w v h) in
        let u = subst (IsRemade pool new kept id.0) (same_Some t.0 x (sym t.1 ∙ e)) t.2 in
        record { class = d; form = id; is = h; same = f; within = u.within; content = u.is }

    pub entry_at_place : (marks : List Bool) (made : List PatternId) (i k : ℕ) (entries : List Entry) (d : NameClass) (id x : PatternId) (c : Class) → IsReady g pool forms → AreWanted g pool forms marks →
        AreRemade pool new kept marks made → AreKept g pool forms kept → AreSomeEntries g pool new forms kept i entries → i < length kept → HasContent g forms (get_or kept i k) d id → slice_get made id.0 ≡ Some x →
        c ≡ class_of d → AreSomeEntries g pool new forms kept (i + 1) (entries ++ (c, x.0) ∷ [])
    entry_at_place marks made i k entries d id x c r w m a s l h e f =
        entry_more i (get_or kept i k) entries (c, x.0) s (read_or kept i k (get_or kept i k) l refl)
        (entry_is marks made (get_or kept i k) d id x c r w m (kept_wanted kept i k a l) h e f)

    pub entries_within : (entries : List Entry) → AreEntries g pool new forms kept entries → AreWithin new entries
    entries_within entries h = record { each = go }
      where
        go : (k : ℕ) (x : Entry) → slice_get entries k ≡ Some x → x.1 < count new
        go k x e =
            let t = there kept k (subst (λ n. k < n) h.each (slice_get_within entries k x e)) in
            let u = h.are k t.0 t.1 in
            subst (λ y. y.1 < count new) (same_Some u.0 x (sym u.1 ∙ e)) u.2.within

    pub start_remade : (marks : List Bool) (made : List PatternId) (root start : PatternId) → IsReady g pool forms → AreWanted g pool forms marks → AreRemade pool new kept marks made → HasForm forms g.root root →
        slice_get made root.0 ≡ Some start → IsRemade pool new kept root.0 start
    start_remade marks made root start r w m h e =
        let t = m.each root.0 (root_marked marks root r w h) in subst (IsRemade pool new kept root.0) (same_Some t.0 start (sym t.1 ∙ e)) t.2

    pub schema_built : (root start : PatternId) (entries : List Entry) → HasForm forms g.root root → IsRemade pool new kept root.0 start → AreEntries g pool new forms kept entries →
        IsBuilt g pool forms kept (schema_of new start.0 entries)
    schema_built root start entries h m a = record {
      root = root;
      form = h;
      start = m.is;
      elements = record { each = length-map entries (definition_of new) ∙ a.each; are = are };
    }
      where
        are : (k n : ℕ) → slice_get kept k ≡ Some n → (e : Definition) × (slice_get (map (definition_of new) entries) k ≡ Some e) × IsBuiltDefinition g pool forms kept n e
        are k n q =
            let t = a.are k n q in
            let x = t.2 in (
              definition_of new t.0,
              slice_get-map (definition_of new) entries k ∙ ap (option_map (definition_of new)) t.1,
              record { class = x.class; form = x.form; is = x.is; same = x.same; content = x.content },
            )

  module _ (given : AreFormsOfGraph g pool forms) (kept : List ℕ) (k : AreKept g pool forms kept) where
    pub form_of : (s : Schema) → IsBuilt g pool forms kept s → (f : Full) → IsGraph f g → IsFormOf f s
    form_of s b f h = built_form f g h pool forms given.forms given.reached kept s k b

    pub simple_form : (s : Schema) → IsBuilt g pool forms kept s → IsSimpleForm s
    simple_form s b =
        let w = form_of s b given.tree given.graph in
        record { start = start_no_after given.tree s w; contents = content_no_after given.tree s w }

    pub schema_of_graph : (s : Schema) → IsBuilt g pool forms kept s → (IsDeep g pool forms → ⊥) → IsSchemaOf g s
    schema_of_graph s b n = record { form = form_of s b; shallow = λ t. n (schema_deep g pool forms kept s k b t) }

    pub too_deep : IsDeep g pool forms → (f : Full) → IsGraph f g → (s : Schema) × IsFormOf f s × IsTooDeep s
    too_deep d f h =
        let t = some_schema g pool forms kept (forms_ready g pool forms given) k in
        (t.0, form_of t.0 t.1 f h, deep_schema g pool forms kept t.0 k t.1 d)
