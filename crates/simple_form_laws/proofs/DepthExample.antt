-- `element a { .. }` with elements joined by `,`: accepted up to 1,024 of them, and refused from 1,025 on.
use Rattle.std.proofs.Common.{◌≡◌, ℕ, zero, suc, ◌+◌, ◌<◌, ◌≤◌, ◌⊎◌, inl, inr, Bool, true, false, cond, List, [], ◌∷◌, ◌++◌, length, max, Some, refl, sym, ◌∙◌, ap, subst, codes, arith, Contains}
use Rattle.std.specs.Prelude.{find, ◌==◌, slice_get, flat_map, filter_map, ⊤}
use Rattle.std.specs.List.{list_any}
use Rattle.rng_model.specs.Texts.{Text}
use Rattle.rng_model.specs.Classes as class
use Rattle.rng_model.specs.Inside.{Within, IsAttributeOf}
use Rattle.rng_model.specs.Patterns as simple
use Rattle.rng_model.specs.Patterns.{Schema, Definition, Defines}
use Rattle.rng_model.specs.Constructors.{group_of}
use Rattle.derivative_laws.proofs.Members.{IsIn, is_in, contained}
use Rattle.grammar_laws.specs.Trees.{Class, Pattern, Patterns, no_pattern, more_patterns}
use Rattle.grammar_laws.specs.Files.{Full, SchemaFile}
use Rattle.grammar_laws.specs.Trees as full
use Rattle.simple_form_laws.specs.ClassForms.{OfElement, class_of, class_parts}
use Rattle.simple_form_laws.specs.Parts.{Scope, Part, part, parts_of_list}
use Rattle.simple_form_laws.specs.Meaning.{Means, Connected, Behind, Group}
use Rattle.simple_form_laws.specs.Meaning as by
use Rattle.simple_form_laws.specs.Forms.{element_places, token_number, numbered_list, ElementToken, token_of, tokens, tokens_of, new_number, renumbered, IsReached, from_start, IsDefinition, AreDefinitions, IsForm, IsFormOf}
use Rattle.rng_model.specs.Depths.{depth, class_depth}
use Rattle.simple_form_laws.specs.Faults.{parts, element_class, attribute_class, unbound_in_class, unbound_in_type, unbound_prefixes, prefixes_twice, reserved_prefixes, type_of, constraint_places, class_constraints, xmlns_in_class, xmlns_attributes, lacks_start, has_no_start, undefined_in, undefined_names, parent_in, parents_outside, clashes, are_mixed, are_plain, combine_mixed, defined_twice, bad_value_in, bad_values, leads, each_part, inside, IsVisited, whole, lead, content, IsReferenceAt, IsSimplifiablePart, IsSimplifiable, IsTooDeep, Simple, Fault, fault_number, HasFault, IsNoLater, SimplifyRefusal, UnboundPrefix, PrefixTwice, ReservedPrefix, ClassConstraint, XmlnsAttribute, NoStart, UndefinedName, ParentOutside, CombineMixed, DefinedTwice, Loop, ExpandedTooDeep, BadValue}
use Rattle.simple_form_laws.specs.Examples.{elements_at, joined_elements}
use Rattle.simple_form_laws.proofs.Loops.{no_reference}
use Rattle.simple_form_laws.proofs.OneMeaning.{means-same, found}
use Rattle.simple_form_laws.proofs.Numbers.{own_number}
use Rattle.simple_form_laws.proofs.Kept.{in_its_place}
use Rattle.simple_form_laws.proofs.Wellformed.{depth-renumbered, definition_at}
use Rattle.simple_form_laws.proofs.Faultless.{has_schema}

-- the list has elements without content, each with a plain name
data AreElements : Patterns → Type 0 where
  ends : AreElements no_pattern
  next : {l : Text} {at n : ℕ} {ps : Patterns} → AreElements ps → AreElements (more_patterns (full.element (full.plain l at) full.empty n) ps)

are_elements : (places : List ℕ) (n : ℕ) (ats : List ℕ) → AreElements (numbered_list places n (elements_at ats))
are_elements places n [] = ends
are_elements places n (at ∷ ats) = next (are_elements places (n + 1) ats)

abbrev how_many_of : Patterns → ℕ
how_many_of no_pattern = 0
how_many_of (more_patterns p ps) = suc (how_many_of ps)

as_many : (places : List ℕ) (n : ℕ) (ats : List ℕ) → how_many_of (numbered_list places n (elements_at ats)) ≡ length ats
as_many places n [] = refl
as_many places n (at ∷ ats) = ap suc (as_many places (n + 1) ats)

module _ (fs : List SchemaFile) where
  abbrev E : Patterns → List Class
  E ps = flat_map class_parts (filter_map (λ x. element_class x.pattern) (parts_of_list [] ps))

  abbrev A : Patterns → List Class
  A ps = flat_map class_parts (filter_map (λ x. attribute_class x.pattern) (parts_of_list [] ps))

  none_unbound : {ps : Patterns} → AreElements ps → flat_map (unbound_in_class fs) (E ps ++ A ps) ++ flat_map (unbound_in_type fs) (filter_map (λ x. type_of x.pattern) (parts_of_list [] ps)) ≡ []
  none_unbound ends = refl
  none_unbound (next h) = none_unbound h

  none_constrained : {ps : Patterns} → AreElements ps → flat_map constraint_places (E ps ++ A ps) ≡ []
  none_constrained ends = refl
  none_constrained (next h) = none_constrained h

  none_xmlns : {ps : Patterns} → AreElements ps → flat_map (xmlns_in_class fs) (A ps) ≡ []
  none_xmlns ends = refl
  none_xmlns (next h) = none_xmlns h

  all_start : {ps : Patterns} → AreElements ps → list_any (λ x. lacks_start x.pattern) (parts_of_list [] ps) ≡ false
  all_start ends = refl
  all_start (next h) = all_start h

  none_undefined : {ps : Patterns} → AreElements ps → flat_map (λ x. undefined_in x.scope x.pattern) (parts_of_list [] ps) ≡ []
  none_undefined ends = refl
  none_undefined (next h) = none_undefined h

  none_outside : {ps : Patterns} → AreElements ps → flat_map (λ x. parent_in x.scope x.pattern) (parts_of_list [] ps) ≡ []
  none_outside ends = refl
  none_outside (next h) = none_outside h

  none_mixed : {ps : Patterns} → AreElements ps → flat_map (λ x. clashes are_mixed x.pattern) (parts_of_list [] ps) ≡ []
  none_mixed ends = refl
  none_mixed (next h) = none_mixed h

  none_twice : {ps : Patterns} → AreElements ps → flat_map (λ x. clashes are_plain x.pattern) (parts_of_list [] ps) ≡ []
  none_twice ends = refl
  none_twice (next h) = none_twice h

  none_bad : {ps : Patterns} → AreElements ps → flat_map (λ x. bad_value_in fs x.pattern) (parts_of_list [] ps) ≡ []
  none_bad ends = refl
  none_bad (next h) = none_bad h

  each_taken : {ps : Patterns} → AreElements ps → (x : Part) → IsIn x (parts_of_list [] ps) → IsSimplifiablePart fs x.pattern
  each_taken ends x i = absurd i
  each_taken (next h) x (inl e) = subst (λ y. IsSimplifiablePart fs y.pattern) (sym e) tt
  each_taken (next h) x (inr (inl e)) = subst (λ y. IsSimplifiablePart fs y.pattern) (sym e) tt
  each_taken (next h) x (inr (inr i)) = each_taken h x i

-- nothing but references and their groups
abbrev OnlyRefs : simple.Pattern → Type 0
OnlyRefs simple.empty = ⊤
OnlyRefs (simple.ref n) = ⊤
OnlyRefs (simple.group p q) = OnlyRefs p × OnlyRefs q
OnlyRefs p = ⊥

only-renumbered : (h : ℕ → ℕ) (p : simple.Pattern) → OnlyRefs p → OnlyRefs (renumbered h p)
only-renumbered h simple.empty o = tt
only-renumbered h (simple.ref n) o = tt
only-renumbered h (simple.group p q) o = (only-renumbered h p o.0, only-renumbered h q o.1)
only-renumbered h p o = absurd o

no_attribute : (c : class.Class) (p : simple.Pattern) → OnlyRefs p → Within (IsAttributeOf c) p → ⊥
no_attribute c simple.empty o (q, e) = cc
no_attribute c (simple.ref n) o (q, e) = cc
no_attribute c (simple.group p q) o (inl (r, e)) = cc
no_attribute c (simple.group p q) o (inr (inl w)) = no_attribute c p o.0 w
no_attribute c (simple.group p q) o (inr (inr w)) = no_attribute c q o.1 w
no_attribute c p o w = absurd o

-- the token of an element without content
abbrev IsPlainToken : ElementToken → Type 0
IsPlainToken t = (t.scope ≡ []) × (t.content ≡ full.empty) × ((l : Text) × (m : ℕ) × (t.class ≡ full.plain l m))

each_token : {rs : Patterns} → AreElements rs → (t : ElementToken) → IsIn t (tokens_of (parts_of_list [] rs)) → IsPlainToken t
each_token ends t i = absurd i
each_token (next {l = l} {at = m} h) t (inl e) = (ap (λ x. x.scope) e, ap (λ x. x.content) e, (l, m, ap (λ x. x.class) e))
each_token (next h) t (inr i) = each_token h t i

find_in : (test : ElementToken → Bool) (t : ElementToken) (ts : List ElementToken) → find test ts ≡ Some t → IsIn t ts
find_in test t [] e = absurd (cc)
find_in test t (u ∷ ts) e = go (test u) e (find_in test t ts)
  where
    go : (b : Bool) → cond b (Some u) (find test ts) ≡ Some t → (find test ts ≡ Some t → IsIn t ts) → (t ≡ u) ⊎ IsIn t ts
    go true f again = inl (found f refl)
    go false f again = inr (again f)

-- a pattern to which a group adds a node
abbrev IsSolid : simple.Pattern → Type 0
IsSolid b = ((n : ℕ) → group_of b (simple.ref n) ≡ simple.group b (simple.ref n)) × (1 ≤ depth b)

greater : (d : ℕ) → 1 ≤ d → max d 1 ≡ d
greater d l = omega arith

module _ (fs : List SchemaFile) where
  grouped : {rs : Patterns} → AreElements rs → (b : simple.Pattern) → IsSolid b → OnlyRefs b → (q : simple.Pattern) × Behind fs Group [] b rs q × (depth q ≡ depth b + how_many_of rs) × OnlyRefs q
  grouped ends b s o = (b, by.ends, omega arith, o)
  grouped (next {n = n} {ps = rs} h) b s o =
      let r = grouped h (simple.group b (simple.ref n)) ((λ m. refl), omega arith) (o, tt) in
      let k : Behind fs Group [] (group_of b (simple.ref n)) rs r.0 = subst (λ c. Behind fs Group [] c rs r.0) (sym (s.0 n)) r.1 in
      let e = r.2 in
      let m = greater (depth b) s.1 in
      (r.0, by.next by.element k, omega arith, r.3)

  connected : {rs : Patterns} → AreElements rs → 1 ≤ how_many_of rs → (q : simple.Pattern) × Connected fs Group [] rs q × (depth q ≡ how_many_of rs) × OnlyRefs q
  connected ends l = absurd (omega arith)
  connected (next {n = n} h) l =
      let r = grouped h (simple.ref n) ((λ m. refl), omega arith) tt in
      let e = r.2 in
      (r.0, by.first by.element r.1, omega arith, r.3)

definition_for : (f : Full) (kept ns : List ℕ) (es : List Definition) (i n : ℕ) → AreDefinitions f kept ns es → slice_get ns i ≡ Some n → (e : Definition) × (slice_get es i ≡ Some e) × IsDefinition f kept n e
definition_for f kept [] es i n h g = absurd (cc)
definition_for f kept (m ∷ ns) [] i n h g = absurd h
definition_for f kept (m ∷ ns) (e ∷ es) zero n h g = let t : m ≡ n = cc in (e, refl, subst (λ x. IsDefinition f kept x e) t h.0)
definition_for f kept (m ∷ ns) (e ∷ es) (suc i) n h g = definition_for f kept ns es i n h.1 g

no_member : (xs : List ℕ) (at : ℕ) → xs ≡ [] → Contains xs at → ⊥
no_member xs at e h = subst (IsIn at) e (is_in at xs h)

module _ (at : ℕ) (ats : List ℕ) where
  abbrev f : Full
  f = joined_elements (at ∷ ats)

  abbrev places : List ℕ
  places = element_places (full.element (full.plain (codes "a") 8) (full.group (elements_at (at ∷ ats))) 0)

  abbrev ps : Patterns
  ps = numbered_list places 1 (elements_at (at ∷ ats))

  abbrev k : ℕ
  k = token_number places 0 0

  abbrev root : Pattern
  root = full.element (full.plain (codes "a") 8) (full.group ps) k

  are : AreElements ps
  are = are_elements places 1 (at ∷ ats)

  -- what can be reached
  data IsAmong : Part → Type 0 where
    at_root : IsAmong (part [] root)
    at_group : IsAmong (part [] (full.group ps))
    at_element : {l : Text} {m n : ℕ} → IsAmong (part [] (full.element (full.plain l m) full.empty n))
    at_empty : IsAmong (part [] full.empty)

  member : {rs : Patterns} (y : Part) → AreElements rs → IsIn y (each_part [] rs) → IsAmong y
  member y ends i = absurd i
  member y (next h) (inl e) = subst IsAmong (sym e) at_element
  member y (next h) (inr i) = member y h i

  after_lead : {x : Part} (y : Part) → IsAmong x → IsIn y (leads x.scope x.pattern) → IsAmong y
  after_lead y at_root i = absurd i
  after_lead y at_group i = member y are i
  after_lead y at_element i = absurd i
  after_lead y at_empty i = absurd i

  after_content : {x : Part} (y : Part) → IsAmong x → IsIn y (inside x.scope x.pattern) → IsAmong y
  after_content y at_root (inl e) = subst IsAmong (sym e) at_group
  after_content y at_root (inr i) = absurd i
  after_content y at_group i = absurd i
  after_content y at_element (inl e) = subst IsAmong (sym e) at_empty
  after_content y at_element (inr i) = absurd i
  after_content y at_empty i = absurd i

  among : {x : Part} → IsVisited root x → IsAmong x
  among whole = at_root
  among (lead {x = x} {y = y} v h) = after_lead y (among v) (is_in y (leads x.scope x.pattern) h)
  among (content {x = x} {y = y} v h) = after_content y (among v) (is_in y (inside x.scope x.pattern) h)

  not_there : {x : Part} (n : ℕ) → IsAmong x → IsReferenceAt n x.pattern → ⊥
  not_there n at_root r = no_reference n _ refl r
  not_there n at_group r = no_reference n _ refl r
  not_there n at_element r = no_reference n _ refl r
  not_there n at_empty r = no_reference n _ refl r

  none_before : (x : Fault) → fault_number x < 42 → HasFault f x → ⊥
  none_before (UnboundPrefix n) l h = no_member (unbound_prefixes f) n (none_unbound f.files are) h
  none_before (PrefixTwice n) l h = is_in n (prefixes_twice f) h
  none_before (ReservedPrefix n) l h = is_in n (reserved_prefixes f) h
  none_before (ClassConstraint n) l h = no_member (class_constraints f) n (none_constrained f.files are) h
  none_before (XmlnsAttribute n) l h = no_member (xmlns_attributes f) n (none_xmlns f.files are) h
  none_before NoStart l h = let e : has_no_start f ≡ false = all_start f.files are in let g : false ≡ true = sym e ∙ h in absurd (cc)
  none_before (UndefinedName n) l h = no_member (undefined_names f) n (none_undefined f.files are) h
  none_before (ParentOutside n) l h = no_member (parents_outside f) n (none_outside f.files are) h
  none_before (CombineMixed n) l h = no_member (combine_mixed f) n (none_mixed f.files are) h
  none_before (DefinedTwice n) l h = no_member (defined_twice f) n (none_twice f.files are) h
  none_before (Loop n) l h = not_there n (among h.visited) h.reference
  none_before ExpandedTooDeep l h = absurd (omega arith)
  none_before (BadValue n) l h = absurd (omega arith)

  taken : IsSimplifiable f
  taken x h = go (is_in x (parts f) h)
    where
      go : IsIn x (parts f) → IsSimplifiablePart f.files x.pattern
      go (inl e) = subst (λ y. IsSimplifiablePart f.files y.pattern) (sym e) tt
      go (inr (inl e)) = subst (λ y. IsSimplifiablePart f.files y.pattern) (sym e) tt
      go (inr (inr i)) = each_taken f.files are x i

  abbrev root_token : ElementToken
  root_token = record { number = k; scope = []; class = full.plain (codes "a") 8; content = full.group ps }

  found_root : token_of f k ≡ Some root_token
  found_root = own_number f root_token (contained root_token (tokens f) (inl refl))

  some_element : 1 ≤ how_many_of ps
  some_element = omega arith

  content_of : (q : simple.Pattern) × Means f.files [] (full.group ps) q × (depth q ≡ length (at ∷ ats)) × OnlyRefs q
  content_of =
      let c = connected f.files are some_element in
      (c.0, by.group c.1, c.2 ∙ as_many places 1 (at ∷ ats), c.3)

  -- the root's definition is as deep as there are elements
  root_depth : (g : Schema) → IsFormOf f g → (d : ℕ) × (e : Definition) × Defines g d e × (depth e.content ≡ length (at ∷ ats))
  root_depth g form =
      let r : IsReached f k = from_start {q = simple.ref k} by.element refl in
      let c = (form.each k).1 r in
      let i = in_its_place form.kept k form.ascending c in
      let d = definition_for f form.kept form.kept g.elements (new_number form.kept k) k form.elements i in
      let t = found d.2.is found_root in
      let w : IsForm f form.kept [] (full.group ps) d.0.content = subst (λ x. IsForm f form.kept x.scope x.content d.0.content) t d.2.content in
      let same = means-same f.files w.1 content_of.1 in
      (new_number form.kept k, d.0, d.1, ap depth w.2 ∙ depth-renumbered (new_number form.kept) w.0 ∙ ap depth same ∙ content_of.2)

  schema : (g : Schema) × IsFormOf f g
  schema = has_schema f taken none_before

  too_deep : 1024 < length (at ∷ ats) → HasFault f ExpandedTooDeep
  too_deep l =
      let g = schema in
      let d = root_depth g.0 g.1 in
      let e = d.3 in
      (g.0, g.1, inr (inl (d.0, d.1, d.2, omega arith)))

  first_fault : (y : Fault) → HasFault f y → IsNoLater ExpandedTooDeep y
  first_fault ExpandedTooDeep h = inr (refl, omega arith)
  first_fault (BadValue n) h = inl (omega arith)
  first_fault y h = absurd (none_before y (omega arith) h)

  pub deep-refused : 1024 < length (at ∷ ats) → SimplifyRefusal f ExpandedTooDeep
  deep-refused l = record { fault = too_deep l; first = first_fault }

  -- what holds of each definition
  abbrev IsSmall : Definition → Type 0
  IsSmall e = (depth e.content ≤ 1024) × OnlyRefs e.content × (class_depth e.class ≤ 1024)

  small : length (at ∷ ats) ≤ 1024 → (kept : List ℕ) (n : ℕ) (e : Definition) → IsDefinition f kept n e → IsSmall e
  small l kept n e d = go (find_in (λ t. t.number == n) d.token (tokens f) d.is)
    where
      small_class : (c : Class) (x : Text) (m : ℕ) → c ≡ full.plain x m → class_of f.files OfElement c ≡ Some e.class → class_depth e.class ≤ 1024
      small_class c x m same is =
          let g = found (ap (class_of f.files OfElement) (sym same) ∙ is) refl in
          subst (λ z. class_depth z ≤ 1024) (sym g) (omega arith)

      small_content : (s : Scope) (p : Pattern) (q : simple.Pattern) → Means f.files s p q → depth q ≤ 1024 → OnlyRefs q → IsForm f kept s p e.content → (depth e.content ≤ 1024) × OnlyRefs e.content
      small_content s p q h k o w =
          let same : w.0 ≡ q = means-same f.files w.1 h in
          let a = ap depth w.2 ∙ depth-renumbered (new_number kept) w.0 ∙ ap depth same in
          (omega arith, subst OnlyRefs (sym w.2) (only-renumbered (new_number kept) w.0 (subst OnlyRefs (sym same) o)))

      go : IsIn d.token (tokens f) → IsSmall e
      go (inl same) =
          let w = subst (λ x. IsForm f kept x.scope x.content e.content) same d.content in
          let a = content_of.2 in
          let c = small_content [] (full.group ps) content_of.0 content_of.1 (omega arith) content_of.3 w in
          (c.0, c.1, small_class d.token.class (codes "a") 8 (ap (λ x. x.class) same) d.class)
      go (inr i) =
          let t = each_token are d.token i in
          let w = subst (λ p. IsForm f kept [] p e.content) t.1 (subst (λ s. IsForm f kept s d.token.content e.content) t.0 d.content) in
          let c = small_content [] full.empty simple.empty by.empty (omega arith) tt w in
          (c.0, c.1, small_class d.token.class t.2.0 t.2.1 t.2.2 d.class)

  not_deep : length (at ∷ ats) ≤ 1024 → (g : Schema) → IsFormOf f g → IsTooDeep g → ⊥
  not_deep l g form deep = go deep
    where
      definition : (d : ℕ) (e : Definition) → Defines g d e → IsSmall e
      definition d e h =
          let t = definition_at f form.kept form.kept g.elements d e form.elements h in
          small l form.kept t.0 e t.2

      begin : g.start ≡ renumbered (new_number form.kept) (simple.ref k)
      begin = let w = form.start in w.2 ∙ ap (renumbered (new_number form.kept)) (means-same f.files w.1 by.element)

      go : IsTooDeep g → ⊥
      go (inl m) = let a = ap depth begin in omega arith
      go (inr (inl (d, e, h, m))) = let a = (definition d e h).0 in omega arith
      go (inr (inr (c, inl (d, e, h, same), m))) = let a = (definition d e h).2 in let b = ap class_depth same in omega arith
      go (inr (inr (c, inr (inl w), m))) = no_attribute c (simple.ref (new_number form.kept k)) tt (subst (Within (IsAttributeOf c)) begin w)
      go (inr (inr (c, inr (inr (d, e, h, w)), m))) = no_attribute c e.content (definition d e h).1 w

  pub shallow-accepted : length (at ∷ ats) ≤ 1024 → (g : Schema) × Simple f g
  shallow-accepted l = (schema.0, record { form = schema.1; sound = none })
    where
      none : (x : Fault) → HasFault f x → ⊥
      none ExpandedTooDeep h = not_deep l h.0 h.1 h.2
      none (BadValue n) h = no_member (bad_values f) n (none_bad f.files are) h
      none y h = none_before y (omega arith) h
