-- Least places of several faults, joined.
use Rattle.std.proofs.Common.{◌≡◌, List, [], ◌∷◌, ◌++◌, refl, ap, sym, ◌∙◌}
use Rattle.grammar_laws.specs.Files.{SchemaFile}
use Rattle.simple_form_laws.specs.Parts.{Part}
use Rattle.name_resolution.proofs.LeastPlaces.{lesser_assoc, lesser_none}
use Rattle.tree_faults.specs.declared.names.NameFaults.{NameFaults}
use Rattle.tree_faults.specs.Names.{joined, name_faults, no_faults, own_faults}

pub joined_assoc : (a b c : NameFaults) → joined (joined a b) c ≡ joined a (joined b c)
joined_assoc a b c = λ i. record {
  unbound_prefix = lesser_assoc a.unbound_prefix b.unbound_prefix c.unbound_prefix i;
  constraint = lesser_assoc a.constraint b.constraint c.constraint i;
  xmlns_attribute = lesser_assoc a.xmlns_attribute b.xmlns_attribute c.xmlns_attribute i;
  bad_value = lesser_assoc a.bad_value b.bad_value c.bad_value i;
}

pub joined_none : (a : NameFaults) → joined a no_faults ≡ a
joined_none a = λ i. record {
  unbound_prefix = lesser_none a.unbound_prefix i;
  constraint = lesser_none a.constraint i;
  xmlns_attribute = lesser_none a.xmlns_attribute i;
  bad_value = lesser_none a.bad_value i;
}

pub names_append : (fs : List SchemaFile) (xs ys : List Part) → name_faults fs (xs ++ ys) ≡ joined (name_faults fs xs) (name_faults fs ys)
names_append fs [] ys = refl
names_append fs (x ∷ xs) ys =
    ap (joined (own_faults fs x.pattern)) (names_append fs xs ys) ∙ sym (joined_assoc (own_faults fs x.pattern) (name_faults fs xs) (name_faults fs ys))
