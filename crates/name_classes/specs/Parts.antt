-- Name classes as lists of their parts, each part in front of the classes that it holds.
use Rattle.std.specs.Prelude.{◌≡◌, Bool, true, false, not, ◌&&◌, ◌||◌, List, [], ◌∷◌, ◌++◌, refl, IsTrue}
use Rattle.std.specs.Str.{bytes_eq}
use Rattle.std.proofs.Common.{append_assoc, append-nil, ap, sym, ◌∙◌}
use Rattle.rng_model.specs.Names.{same_name}
use Rattle.rng_model.specs.Classes.{Class, any, any_except, namespace, namespace_except, one, either}
use Rattle.name_classes.specs.declared.part.Part.{Part}
use Rattle.name_classes.specs.declared.part.Part.TheVariants.{Any, Namespace, One, Choice}
use Rattle.name_classes.specs.declared.part.Sample.{Sample}
use Rattle.name_classes.specs.declared.part.Sample.TheVariants.{Name, Fresh, Stranger}

abbrev pub parts_of : Class → List Part
parts_of any = Any false ∷ []
parts_of (any_except c) = Any true ∷ parts_of c
parts_of (namespace u) = Namespace u false ∷ []
parts_of (namespace_except u c) = Namespace u true ∷ parts_of c
parts_of (one m) = One m ∷ []
parts_of (either a b) = Choice ∷ (parts_of a ++ parts_of b)

-- the parts of some class
pub record AreParts (ps : List Part) : Type 0 where
  pub class : Class
  pub is : ps ≡ parts_of class

-- from the last part on: each takes the classes behind it
abbrev on_first : (Class → Class) → List Class → List Class
on_first f [] = []
on_first f (c ∷ cs) = f c ∷ cs

abbrev on_two : List Class → List Class
on_two [] = []
on_two (a ∷ []) = []
on_two (a ∷ b ∷ cs) = either a b ∷ cs

abbrev take_part : Part → List Class → List Class
take_part (Any false) cs = any ∷ cs
take_part (Any true) cs = on_first any_except cs
take_part (Namespace u false) cs = namespace u ∷ cs
take_part (Namespace u true) cs = on_first (namespace_except u) cs
take_part (One m) cs = one m ∷ cs
take_part Choice cs = on_two cs

abbrev pub classes_in : List Part → List Class
classes_in [] = []
classes_in (p ∷ ps) = take_part p (classes_in ps)

abbrev first_class : List Class → Class
first_class [] = any
first_class (c ∷ cs) = c

-- the class that a list of parts begins with
abbrev pub class_in : List Part → Class
class_in ps = first_class (classes_in ps)

pub classes_in-parts : (c : Class) (more : List Part) → classes_in (parts_of c ++ more) ≡ c ∷ classes_in more
classes_in-parts any more = refl
classes_in-parts (any_except c) more = ap (on_first any_except) (classes_in-parts c more)
classes_in-parts (namespace u) more = refl
classes_in-parts (namespace_except u c) more = ap (on_first (namespace_except u)) (classes_in-parts c more)
classes_in-parts (one m) more = refl
classes_in-parts (either a b) more =
    ap (λ x. on_two (classes_in x)) (append_assoc (parts_of a) (parts_of b) more)
    ∙ ap on_two (classes_in-parts a (parts_of b ++ more) ∙ ap (λ cs. a ∷ cs) (classes_in-parts b more))

pub class_in-parts : (c : Class) → class_in (parts_of c) ≡ c
class_in-parts c = ap class_in (sym (append-nil (parts_of c))) ∙ ap first_class (classes_in-parts c [])

-- whether an except follows
abbrev pub excepts : Part → Bool
excepts (Any e) = e
excepts (Namespace u e) = e
excepts (One m) = false
excepts Choice = false

-- the choice of the two classes behind it
abbrev pub is_choice : Part → Bool
is_choice (Any e) = false
is_choice (Namespace u e) = false
is_choice (One m) = false
is_choice Choice = true

-- an any-name or a namespace class
abbrev pub is_open : Part → Bool
is_open (Any e) = true
is_open (Namespace u e) = true
is_open (One m) = false
is_open Choice = false

-- whether the sample is in the part, whatever follows
abbrev pub in_part : Sample → Part → Bool
in_part s (Any e) = true
in_part (Name n) (Namespace u e) = bytes_eq n.now.ns u
in_part (Fresh v) (Namespace u e) = bytes_eq v.now u
in_part Stranger (Namespace u e) = false
in_part (Name n) (One m) = same_name n.now m
in_part (Fresh v) (One m) = false
in_part Stranger (One m) = false
in_part s Choice = false

-- The parts of a class joined as the class says: a choice by or, an except by and not.
abbrev pub in_parts : (Part → Bool) → Class → Bool
in_parts t any = t (Any false)
in_parts t (any_except c) = t (Any true) && not (in_parts t c)
in_parts t (namespace u) = t (Namespace u false)
in_parts t (namespace_except u c) = t (Namespace u true) && not (in_parts t c)
in_parts t (one m) = t (One m)
in_parts t (either a b) = in_parts t a || in_parts t b
