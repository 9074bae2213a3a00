-- Lists of parts that are a class's.
use Rattle.std.proofs.Common.{◌≡◌, ℕ, zero, suc, ◌+◌, ◌-◌, ◌≤◌, arith, Bool, true, false, ◌||◌, List, [], ◌∷◌, ◌++◌, length, map, refl, sym, ◌∙◌, ap, append-nil, append_assoc, Option, Some, option_map}
use Rattle.std.specs.Prelude.{flat_map, fold, replicate}
use Rattle.std.specs.List.{list_any}
use Rattle.std.proofs.lemmas.List.Folds.{list_any-append}
use Rattle.rng_model.specs.Texts.{Text}
use Rattle.rng_model.specs.Names.{Name}
use Rattle.rng_model.specs.Classes.{Class, any, any_except, namespace, namespace_except, one, either, is_infinite}
use Rattle.name_classes.specs.declared.part.Part.{Part}
use Rattle.name_classes.specs.declared.part.Part.TheVariants.{Any, Namespace, One, Choice}
use Rattle.name_classes.specs.Parts.{AreParts, parts_of, class_in, class_in-parts, is_open}
use Rattle.name_classes.specs.Choices.{choice_of}

-- the class that the list reads as
pub read_as : (ps : List Part) (c : Class) → ps ≡ parts_of c → class_in ps ≡ c
read_as ps c e = ap class_in e ∙ class_in-parts c

pub read_back : (ps : List Part) → AreParts ps → ps ≡ parts_of (class_in ps)
read_back ps a = a.is ∙ ap parts_of (sym (read_as ps a.class a.is))

pub made_any : (ps : List Part) → ps ≡ Any false ∷ [] → AreParts ps
made_any ps e = record { class = any; is = e }

pub made_space : (u : Text) (ps : List Part) → ps ≡ Namespace u false ∷ [] → AreParts ps
made_space u ps e = record { class = namespace u; is = e }

pub made_one : (m : Name) (ps : List Part) → ps ≡ One m ∷ [] → AreParts ps
made_one m ps e = record { class = one m; is = e }

-- a choice in front of the parts of two classes
pub both : (a b : Class) (ps qs : List Part) → ps ≡ parts_of a → qs ≡ parts_of b → (rs ss : List Part) → rs ≡ Choice ∷ ps → ss ≡ rs ++ qs → ss ≡ parts_of (either a b)
both a b ps qs e f rs ss g h = h ∙ (λ i. g i ++ f i) ∙ ap (λ x. Choice ∷ (x ++ parts_of b)) e

more_choices : (n : ℕ) (ps : List Part) → replicate n Choice ++ Choice ∷ ps ≡ Choice ∷ (replicate n Choice ++ ps)
more_choices zero ps = refl
more_choices (suc n) ps = ap (λ x. Choice ∷ x) (more_choices n ps)

pub one_more_choice : (n : ℕ) → replicate n Choice ++ Choice ∷ [] ≡ replicate (n + 1) Choice
one_more_choice n =
    let next : suc n ≡ n + 1 = omega arith in
    more_choices n [] ∙ ap (λ x. Choice ∷ x) (append-nil (replicate n Choice)) ∙ ap (λ k. replicate k Choice) next

nested : (c : Class) (cs : List Class) → replicate (length cs) Choice ++ (parts_of c ++ flat_map parts_of cs) ≡ parts_of (fold either c cs)
nested c [] = append-nil (parts_of c)
nested c (d ∷ ds) =
    sym (more_choices (length ds) (parts_of c ++ (parts_of d ++ flat_map parts_of ds)))
    ∙ ap (λ x. replicate (length ds) Choice ++ Choice ∷ x) (sym (append_assoc (parts_of c) (parts_of d) (flat_map parts_of ds)))
    ∙ nested (either c d) ds

-- the choices in front of all members
pub all_nested : (cs : List Class) (n : ℕ) (ps : List Part) → 1 ≤ length cs → n ≡ length cs - 1 → ps ≡ replicate n Choice ++ flat_map parts_of cs → (a : AreParts ps) × (Some a.class ≡ choice_of cs)
all_nested [] n ps some e is = absurd (omega (arith, some))
all_nested (c ∷ cs) n ps some e is = (record { class = fold either c cs; is = is ∙ (λ i. replicate (length_is i) Choice ++ (parts_of c ++ flat_map parts_of cs)) ∙ nested c cs }, refl)
  where
    length_is : n ≡ length cs
    length_is = omega (arith, e)

-- an open part stands in it
pub open_parts : (c : Class) → list_any is_open (parts_of c) ≡ is_infinite c
open_parts any = refl
open_parts (any_except c) = refl
open_parts (namespace u) = refl
open_parts (namespace_except u c) = refl
open_parts (one m) = refl
open_parts (either a b) = list_any-append is_open (parts_of a) (parts_of b) ∙ (λ i. open_parts a i || open_parts b i)
