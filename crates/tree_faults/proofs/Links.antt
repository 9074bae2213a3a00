-- What the walks find, as the lists of the faults.
use Rattle.std.proofs.Common.{◌≡◌, ℕ, ◌||◌, List, [], ◌∷◌, ◌++◌, Option, Some, None, refl, ap, sym, ◌∙◌}
use Rattle.std.specs.Prelude.{filter_map, flat_map}
use Rattle.std.specs.List.{list_any}
use Rattle.grammar_laws.specs.Files.{SchemaFile, Full, body_pattern}
use Rattle.grammar_laws.specs.Trees.{Class, TypeName, Pattern, Method}
use Rattle.grammar_laws.specs.Trees as full
use Rattle.simple_form_laws.specs.ClassForms.{class_parts}
use Rattle.simple_form_laws.specs.Parts.{Scope, Part, part, parts_of}
use Rattle.simple_form_laws.specs.Forms.{element_places}
use Rattle.simple_form_laws.specs.Faults.{are_mixed, are_plain, attribute_class, bad_value_in, bad_values, class_constraints, clashes, combine_mixed, constraint_places, defined_twice, element_class, has_no_start, lacks_start, parent_in, parents_outside, parts, type_of, unbound_in_class, unbound_in_type, unbound_prefixes, undefined_in, undefined_names, xmlns_attributes, xmlns_in_class}
use Rattle.name_resolution.specs.Least.{least, lesser}
use Rattle.name_resolution.proofs.LeastPlaces.{least_append, lesser_assoc, lesser_comm}
use Rattle.name_resolution.proofs.ClassParts.{least_flat}
use Rattle.tree_faults.specs.declared.grammars.GrammarFaults.{GrammarFaults}
use Rattle.tree_faults.specs.declared.names.NameFaults.{NameFaults}
use Rattle.tree_faults.specs.Names.{name_faults}
use Rattle.tree_faults.specs.Names as name
use Rattle.tree_faults.specs.Grammars.{grammar_faults}
use Rattle.tree_faults.specs.Grammars as grammar
use Rattle.tree_faults.proofs.Bare.{over_numbered}
use Rattle.tree_faults.proofs.BareFaults.{names_bare, grammars_bare}

abbrev elements : List Part → List Class
elements xs = flat_map class_parts (filter_map (λ x. element_class x.pattern) xs)

abbrev attributes : List Part → List Class
attributes xs = flat_map class_parts (filter_map (λ x. attribute_class x.pattern) xs)

abbrev types : List Part → List TypeName
types xs = filter_map (λ x. type_of x.pattern) xs

in_middle : (o a b : Option ℕ) → lesser o (lesser a b) ≡ lesser a (lesser o b)
in_middle o a b = sym (lesser_assoc o a b) ∙ ap (λ (x : Option ℕ). lesser x b) (lesser_comm o a) ∙ lesser_assoc a o b

-- classes
module _ (u : Class → List ℕ) where
  of_class : (c : Class) (cs : List Class) → least (flat_map u (class_parts c ++ cs)) ≡ lesser (least (flat_map u (class_parts c))) (least (flat_map u cs))
  of_class c cs = least_flat u (class_parts c) cs

  both_classes : (xs : List Part) → least (flat_map u (elements xs ++ attributes xs)) ≡ lesser (least (flat_map u (elements xs))) (least (flat_map u (attributes xs)))
  both_classes xs = least_flat u (elements xs) (attributes xs)

  -- an element's class first
  element_first : (c : Class) (es bs : List Class) (rest : Option ℕ)
      → lesser (least (flat_map u (class_parts c))) (lesser (lesser (least (flat_map u es)) (least (flat_map u bs))) rest) ≡ lesser (lesser (least (flat_map u (class_parts c ++ es))) (least (flat_map u bs))) rest
  element_first c es bs rest =
      sym (lesser_assoc (least (flat_map u (class_parts c))) (lesser (least (flat_map u es)) (least (flat_map u bs))) rest)
      ∙ ap (λ (o : Option ℕ). lesser o rest) (sym (lesser_assoc (least (flat_map u (class_parts c))) (least (flat_map u es)) (least (flat_map u bs))) ∙ ap (λ (o : Option ℕ). lesser o (least (flat_map u bs))) (sym (of_class c es)))

  attribute_first : (c : Class) (es bs : List Class) (rest : Option ℕ)
      → lesser (least (flat_map u (class_parts c))) (lesser (lesser (least (flat_map u es)) (least (flat_map u bs))) rest) ≡ lesser (lesser (least (flat_map u es)) (least (flat_map u (class_parts c ++ bs)))) rest
  attribute_first c es bs rest =
      sym (lesser_assoc (least (flat_map u (class_parts c))) (lesser (least (flat_map u es)) (least (flat_map u bs))) rest)
      ∙ ap (λ (o : Option ℕ). lesser o rest) (in_middle (least (flat_map u (class_parts c))) (least (flat_map u es)) (least (flat_map u bs)) ∙ ap (lesser (least (flat_map u es))) (sym (of_class c bs)))

module _ (fs : List SchemaFile) where
  abbrev parted : List Part → Option ℕ
  parted xs = lesser (lesser (least (flat_map (unbound_in_class fs) (elements xs))) (least (flat_map (unbound_in_class fs) (attributes xs)))) (least (flat_map (unbound_in_type fs) (types xs)))

  type_first : (k : TypeName) (a : Option ℕ) (ks : List TypeName) → lesser (least (unbound_in_type fs k)) (lesser a (least (flat_map (unbound_in_type fs) ks))) ≡ lesser a (least (flat_map (unbound_in_type fs) (k ∷ ks)))
  type_first k a ks = in_middle (least (unbound_in_type fs k)) a (least (flat_map (unbound_in_type fs) ks)) ∙ ap (lesser a) (sym (least_append (unbound_in_type fs k) (flat_map (unbound_in_type fs) ks)))

  unbound_step : (s : Scope) (p : Pattern) (xs : List Part) → lesser ((name.own_faults fs p).unbound_prefix) (parted xs) ≡ parted (part s p ∷ xs)
  unbound_step s (full.element c p at) xs = element_first (unbound_in_class fs) c (elements xs) (attributes xs) (least (flat_map (unbound_in_type fs) (types xs)))
  unbound_step s (full.attribute c p at) xs = attribute_first (unbound_in_class fs) c (elements xs) (attributes xs) (least (flat_map (unbound_in_type fs) (types xs)))
  unbound_step s (full.value None t) xs = refl
  unbound_step s (full.value (Some k) t) xs = type_first k (lesser (least (flat_map (unbound_in_class fs) (elements xs))) (least (flat_map (unbound_in_class fs) (attributes xs)))) (types xs)
  unbound_step s (full.data_type k ys) xs = type_first k (lesser (least (flat_map (unbound_in_class fs) (elements xs))) (least (flat_map (unbound_in_class fs) (attributes xs)))) (types xs)
  unbound_step s (full.data_except k ys p) xs = type_first k (lesser (least (flat_map (unbound_in_class fs) (elements xs))) (least (flat_map (unbound_in_class fs) (attributes xs)))) (types xs)
  unbound_step s p xs = refl

  unbound_parted : (xs : List Part) → (name_faults fs xs).unbound_prefix ≡ parted xs
  unbound_parted [] = refl
  unbound_parted (x ∷ xs) = ap (lesser ((name.own_faults fs x.pattern).unbound_prefix)) (unbound_parted xs) ∙ unbound_step x.scope x.pattern xs

  unbound_is : (xs : List Part) → (name_faults fs xs).unbound_prefix ≡ least (flat_map (unbound_in_class fs) (elements xs ++ attributes xs) ++ flat_map (unbound_in_type fs) (types xs))
  unbound_is xs =
      unbound_parted xs ∙ ap (λ (o : Option ℕ). lesser o (least (flat_map (unbound_in_type fs) (types xs)))) (sym (both_classes (unbound_in_class fs) xs))
      ∙ sym (least_append (flat_map (unbound_in_class fs) (elements xs ++ attributes xs)) (flat_map (unbound_in_type fs) (types xs)))

  abbrev constrained : List Part → Option ℕ
  constrained xs = lesser (least (flat_map constraint_places (elements xs))) (least (flat_map constraint_places (attributes xs)))

  constraint_step : (s : Scope) (p : Pattern) (xs : List Part) → lesser ((name.own_faults fs p).constraint) (constrained xs) ≡ constrained (part s p ∷ xs)
  constraint_step s (full.element c p at) xs =
      sym (lesser_assoc (least (flat_map constraint_places (class_parts c))) (least (flat_map constraint_places (elements xs))) (least (flat_map constraint_places (attributes xs))))
      ∙ ap (λ (o : Option ℕ). lesser o (least (flat_map constraint_places (attributes xs)))) (sym (of_class constraint_places c (elements xs)))
  constraint_step s (full.attribute c p at) xs =
      in_middle (least (flat_map constraint_places (class_parts c))) (least (flat_map constraint_places (elements xs))) (least (flat_map constraint_places (attributes xs)))
      ∙ ap (lesser (least (flat_map constraint_places (elements xs)))) (sym (of_class constraint_places c (attributes xs)))
  constraint_step s (full.value None t) xs = refl
  constraint_step s (full.value (Some k) t) xs = refl
  constraint_step s p xs = refl

  constraint_is : (xs : List Part) → (name_faults fs xs).constraint ≡ least (flat_map constraint_places (elements xs ++ attributes xs))
  constraint_is xs = go xs ∙ sym (both_classes constraint_places xs)
    where
      go : (ys : List Part) → (name_faults fs ys).constraint ≡ constrained ys
      go [] = refl
      go (y ∷ ys) = ap (lesser ((name.own_faults fs y.pattern).constraint)) (go ys) ∙ constraint_step y.scope y.pattern ys

  xmlns_step : (s : Scope) (p : Pattern) (xs : List Part) → lesser ((name.own_faults fs p).xmlns_attribute) (least (flat_map (xmlns_in_class fs) (attributes xs))) ≡ least (flat_map (xmlns_in_class fs) (attributes (part s p ∷ xs)))
  xmlns_step s (full.attribute c p at) xs = sym (of_class (xmlns_in_class fs) c (attributes xs))
  xmlns_step s (full.value None t) xs = refl
  xmlns_step s (full.value (Some k) t) xs = refl
  xmlns_step s p xs = refl

  xmlns_is : (xs : List Part) → (name_faults fs xs).xmlns_attribute ≡ least (flat_map (xmlns_in_class fs) (attributes xs))
  xmlns_is [] = refl
  xmlns_is (x ∷ xs) = ap (lesser ((name.own_faults fs x.pattern).xmlns_attribute)) (xmlns_is xs) ∙ xmlns_step x.scope x.pattern xs

  bad_here : (p : Pattern) → (name.own_faults fs p).bad_value ≡ least (bad_value_in fs p)
  bad_here (full.value None t) = refl
  bad_here (full.value (Some k) t) = refl
  bad_here p = refl

  bad_is : (xs : List Part) → (name_faults fs xs).bad_value ≡ least (flat_map (λ x. bad_value_in fs x.pattern) xs)
  bad_is [] = refl
  bad_is (x ∷ xs) = (λ i. lesser (bad_here x.pattern i) (bad_is xs i)) ∙ sym (least_append (bad_value_in fs x.pattern) (flat_map (λ x. bad_value_in fs x.pattern) xs))

-- grammars and references
lacks_here : (s : Scope) (p : Pattern) → (grammar.own_faults s p).lacks_start ≡ lacks_start p
lacks_here s p = by p
  where
    by : (q : Pattern) → (grammar.own_faults s q).lacks_start ≡ lacks_start q
    by (full.grammar is) = refl
    by q = refl

undefined_here : (s : Scope) (p : Pattern) → (grammar.own_faults s p).undefined ≡ least (undefined_in s p)
undefined_here [] (full.ref name at) = refl
undefined_here [] p = refl
undefined_here (is ∷ []) (full.ref name at) = refl
undefined_here (is ∷ []) p = refl
undefined_here (is ∷ js ∷ s) (full.ref name at) = refl
undefined_here (is ∷ js ∷ s) (full.parent name at) = refl
undefined_here (is ∷ js ∷ s) p = refl

outside_here : (s : Scope) (p : Pattern) → (grammar.own_faults s p).outside ≡ least (parent_in s p)
outside_here [] (full.parent name at) = refl
outside_here [] p = refl
outside_here (is ∷ []) (full.parent name at) = refl
outside_here (is ∷ []) p = refl
outside_here (is ∷ js ∷ s) (full.parent name at) = refl
outside_here (is ∷ js ∷ s) p = refl

mixed_here : (s : Scope) (p : Pattern) → (grammar.own_faults s p).mixed ≡ least (clashes are_mixed p)
mixed_here s (full.grammar is) = refl
mixed_here s p = refl

twice_here : (s : Scope) (p : Pattern) → (grammar.own_faults s p).twice ≡ least (clashes are_plain p)
twice_here s (full.grammar is) = refl
twice_here s p = refl

lacks_is : (xs : List Part) → (grammar_faults xs).lacks_start ≡ list_any (λ x. lacks_start x.pattern) xs
lacks_is [] = refl
lacks_is (x ∷ xs) = λ i. lacks_here x.scope x.pattern i || lacks_is xs i

undefined_is : (xs : List Part) → (grammar_faults xs).undefined ≡ least (flat_map (λ x. undefined_in x.scope x.pattern) xs)
undefined_is [] = refl
undefined_is (x ∷ xs) = (λ i. lesser (undefined_here x.scope x.pattern i) (undefined_is xs i)) ∙ sym (least_append (undefined_in x.scope x.pattern) (flat_map (λ x. undefined_in x.scope x.pattern) xs))

outside_is : (xs : List Part) → (grammar_faults xs).outside ≡ least (flat_map (λ x. parent_in x.scope x.pattern) xs)
outside_is [] = refl
outside_is (x ∷ xs) = (λ i. lesser (outside_here x.scope x.pattern i) (outside_is xs i)) ∙ sym (least_append (parent_in x.scope x.pattern) (flat_map (λ x. parent_in x.scope x.pattern) xs))

mixed_is : (xs : List Part) → (grammar_faults xs).mixed ≡ least (flat_map (λ x. clashes are_mixed x.pattern) xs)
mixed_is [] = refl
mixed_is (x ∷ xs) = (λ i. lesser (mixed_here x.scope x.pattern i) (mixed_is xs i)) ∙ sym (least_append (clashes are_mixed x.pattern) (flat_map (λ x. clashes are_mixed x.pattern) xs))

twice_is : (xs : List Part) → (grammar_faults xs).twice ≡ least (flat_map (λ x. clashes are_plain x.pattern) xs)
twice_is [] = refl
twice_is (x ∷ xs) = (λ i. lesser (twice_here x.scope x.pattern i) (twice_is xs i)) ∙ sym (least_append (clashes are_plain x.pattern) (flat_map (λ x. clashes are_plain x.pattern) xs))

-- over the whole tree
module _ (f : Full) where
  names_tree : name_faults f.files (parts f) ≡ name_faults f.files (parts_of [] (body_pattern f.body))
  names_tree = over_numbered (name_faults f.files) (names_bare f.files) (element_places (body_pattern f.body)) 0 (body_pattern f.body)

  grammars_tree : grammar_faults (parts f) ≡ grammar_faults (parts_of [] (body_pattern f.body))
  grammars_tree = over_numbered grammar_faults grammars_bare (element_places (body_pattern f.body)) 0 (body_pattern f.body)

  -- the files that the walk is handed
  names_seen : (fs : List SchemaFile) (d : NameFaults) → fs ≡ f.files → d ≡ name_faults fs (parts_of [] (body_pattern f.body)) → d ≡ name_faults f.files (parts f)
  names_seen fs d e h = h ∙ ap (λ gs. name_faults gs (parts_of [] (body_pattern f.body))) e ∙ sym names_tree

  pub unbound_tree : (fs : List SchemaFile) (d : NameFaults) → fs ≡ f.files → d ≡ name_faults fs (parts_of [] (body_pattern f.body)) → d.unbound_prefix ≡ least (unbound_prefixes f)
  unbound_tree fs d e h = ap (λ (x : NameFaults). x.unbound_prefix) (names_seen fs d e h) ∙ unbound_is f.files (parts f)

  pub constraint_tree : (fs : List SchemaFile) (d : NameFaults) → fs ≡ f.files → d ≡ name_faults fs (parts_of [] (body_pattern f.body)) → d.constraint ≡ least (class_constraints f)
  constraint_tree fs d e h = ap (λ (x : NameFaults). x.constraint) (names_seen fs d e h) ∙ constraint_is f.files (parts f)

  pub xmlns_tree : (fs : List SchemaFile) (d : NameFaults) → fs ≡ f.files → d ≡ name_faults fs (parts_of [] (body_pattern f.body)) → d.xmlns_attribute ≡ least (xmlns_attributes f)
  xmlns_tree fs d e h = ap (λ (x : NameFaults). x.xmlns_attribute) (names_seen fs d e h) ∙ xmlns_is f.files (parts f)

  pub bad_tree : (fs : List SchemaFile) (d : NameFaults) → fs ≡ f.files → d ≡ name_faults fs (parts_of [] (body_pattern f.body)) → d.bad_value ≡ least (bad_values f)
  bad_tree fs d e h = ap (λ (x : NameFaults). x.bad_value) (names_seen fs d e h) ∙ bad_is f.files (parts f)

  pub lacks_tree : (d : GrammarFaults) → d ≡ grammar_faults (parts_of [] (body_pattern f.body)) → d.lacks_start ≡ has_no_start f
  lacks_tree d h = ap (λ (x : GrammarFaults). x.lacks_start) (h ∙ sym grammars_tree) ∙ lacks_is (parts f)

  pub undefined_tree : (d : GrammarFaults) → d ≡ grammar_faults (parts_of [] (body_pattern f.body)) → d.undefined ≡ least (undefined_names f)
  undefined_tree d h = ap (λ (x : GrammarFaults). x.undefined) (h ∙ sym grammars_tree) ∙ undefined_is (parts f)

  pub outside_tree : (d : GrammarFaults) → d ≡ grammar_faults (parts_of [] (body_pattern f.body)) → d.outside ≡ least (parents_outside f)
  outside_tree d h = ap (λ (x : GrammarFaults). x.outside) (h ∙ sym grammars_tree) ∙ outside_is (parts f)

  pub mixed_tree : (d : GrammarFaults) → d ≡ grammar_faults (parts_of [] (body_pattern f.body)) → d.mixed ≡ least (combine_mixed f)
  mixed_tree d h = ap (λ (x : GrammarFaults). x.mixed) (h ∙ sym grammars_tree) ∙ mixed_is (parts f)

  pub twice_tree : (d : GrammarFaults) → d ≡ grammar_faults (parts_of [] (body_pattern f.body)) → d.twice ≡ least (defined_twice f)
  twice_tree d h = ap (λ (x : GrammarFaults). x.twice) (h ∙ sym grammars_tree) ∙ twice_is (parts f)
