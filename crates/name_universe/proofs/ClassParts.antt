-- What stands in a class, from the list of its parts.
use Rattle.std.proofs.Common.{◌≡◌, ℕ, zero, suc, ◌+◌, ◌<◌, ◌≤◌, Bool, true, false, not, ◌&&◌, ◌||◌, List, [], ◌∷◌, ◌++◌, length, take, get_or, refl, sym, ◌∙◌, ap, subst, arith, append-nil, append_assoc}
use Rattle.std.specs.Prelude.{flat_map}
use Rattle.std.specs.List.{list_any, AllByRecursion}
use Rattle.std.specs.Borrow.{Bor}
use Rattle.std.specs.Str.{bytes_eq}
use Rattle.std.proofs.lemmas.Grind.{flat_map-append}
use Rattle.std.proofs.lemmas.List.{take_more, take_all}
use Rattle.std.proofs.lemmas.List.Folds.{list_any-append}
use Rattle.rng_model.specs.Texts.{Text}
use Rattle.rng_model.specs.Names.{Name}
use Rattle.rng_model.specs.Classes.{Class, any, any_except, namespace, namespace_except, one, either}
use Rattle.name_classes.specs.declared.part.Part.{Part}
use Rattle.name_classes.specs.declared.part.Sample.TheVariants.{Fresh, Stranger}
use Rattle.name_classes.specs.Parts.{parts_of, in_part, in_parts}
use Rattle.universe_laws.specs.Overlaps.{names_in, spaces_in, fresh_in, stranger_in}
use Rattle.name_universe.specs.Named.{IsNamed}
use Rattle.name_universe.specs.PartNames.{part_names, part_spaces, IsNamedPart}
use Rattle.name_universe.specs.Sets.{Adds}
use Rattle.name_universe.proofs.NameSets.{adds_append}

pub of_fresh : (u : Bor Text) (c : Class) → in_parts (in_part (Fresh u)) c ≡ fresh_in u.now c
of_fresh u any = refl
of_fresh u (any_except c) = ap not (of_fresh u c)
of_fresh u (namespace v) = refl
of_fresh u (namespace_except v c) = ap (λ b. bytes_eq u.now v && not b) (of_fresh u c)
of_fresh u (one m) = refl
of_fresh u (either a b) = λ i. of_fresh u a i || of_fresh u b i

pub of_strangers : (c : Class) → in_parts (in_part Stranger) c ≡ stranger_in c
of_strangers any = refl
of_strangers (any_except c) = ap not (of_strangers c)
of_strangers (namespace v) = refl
of_strangers (namespace_except v c) = refl
of_strangers (one m) = refl
of_strangers (either a b) = λ i. of_strangers a i || of_strangers b i

pub names_of_parts : (c : Class) → flat_map part_names (parts_of c) ≡ names_in c
names_of_parts any = refl
names_of_parts (any_except c) = names_of_parts c
names_of_parts (namespace u) = refl
names_of_parts (namespace_except u c) = names_of_parts c
names_of_parts (one m) = refl
names_of_parts (either a b) = flat_map-append part_names (parts_of a) (parts_of b) ∙ (λ i. names_of_parts a i ++ names_of_parts b i)

pub spaces_of_parts : (c : Class) → flat_map part_spaces (parts_of c) ≡ spaces_in c
spaces_of_parts any = refl
spaces_of_parts (any_except c) = spaces_of_parts c
spaces_of_parts (namespace u) = refl
spaces_of_parts (namespace_except u c) = ap (λ us. u ∷ us) (spaces_of_parts c)
spaces_of_parts (one m) = refl
spaces_of_parts (either a b) = flat_map-append part_spaces (parts_of a) (parts_of b) ∙ (λ i. spaces_of_parts a i ++ spaces_of_parts b i)

-- a test over what stands in each part
any_flat : {X : Type 0} (q : X → Bool) (f : Part → List X) (ps : List Part) → list_any (λ p. list_any q (f p)) ps ≡ list_any q (flat_map f ps)
any_flat q f [] = refl
any_flat q f (p ∷ ps) = ap (λ b. list_any q (f p) || b) (any_flat q f ps) ∙ sym (list_any-append q (f p) (flat_map f ps))

pub any_name : (q : Name → Bool) (c : Class) → list_any (λ p. list_any q (part_names p)) (parts_of c) ≡ list_any q (names_in c)
any_name q c = any_flat q part_names (parts_of c) ∙ ap (list_any q) (names_of_parts c)

pub any_space : (q : Text → Bool) (c : Class) → list_any (λ p. list_any q (part_spaces p)) (parts_of c) ≡ list_any q (spaces_in c)
any_space q c = any_flat q part_spaces (parts_of c) ∙ ap (list_any q) (spaces_of_parts c)

-- each part so far, and one more
pub named_more : (ps : List Part) (i : ℕ) (p : Part) → i < length ps → p ≡ get_or ps i p → AllByRecursion IsNamedPart (take i ps) → IsNamedPart p → AllByRecursion IsNamedPart (take (i + 1) ps)
named_more ps i p h is all n = subst (AllByRecursion IsNamedPart) (sym (take_more ps i p h ∙ ap (λ q. take i ps ++ q ∷ []) (sym is))) (pushed (take i ps) all)
  where
    pushed : (qs : List Part) → AllByRecursion IsNamedPart qs → AllByRecursion IsNamedPart (qs ++ p ∷ [])
    pushed [] a = (n, tt)
    pushed (q ∷ qs) a = (a.0, pushed qs a.1)

left_of : (ps qs : List Part) → AllByRecursion IsNamedPart (ps ++ qs) → AllByRecursion IsNamedPart ps
left_of [] qs a = tt
left_of (p ∷ ps) qs a = (a.0, left_of ps qs a.1)

right_of : (ps qs : List Part) → AllByRecursion IsNamedPart (ps ++ qs) → AllByRecursion IsNamedPart qs
right_of [] qs a = a
right_of (p ∷ ps) qs a = right_of ps qs a.1

named_of_parts : (c : Class) → AllByRecursion IsNamedPart (parts_of c) → IsNamed c
named_of_parts any a = tt
named_of_parts (any_except c) a = named_of_parts c a.1
named_of_parts (namespace u) a = a.0
named_of_parts (namespace_except u c) a = (a.0, named_of_parts c a.1)
named_of_parts (one m) a = a.0
named_of_parts (either b c) a = (named_of_parts b (left_of (parts_of b) (parts_of c) a.1), named_of_parts c (right_of (parts_of b) (parts_of c) a.1))

pub named_all : (c : Class) (ps : List Part) (i : ℕ) → ps ≡ parts_of c → length ps ≤ i → AllByRecursion IsNamedPart (take i ps) → IsNamed c
named_all c ps i e h a = named_of_parts c (subst (AllByRecursion IsNamedPart) (take_all i ps h ∙ e) a)

-- what one part more adds
pub adds_more : (X : Type 0) (f : Part → List X) (old mid new : List X) (ps : List Part) (i : ℕ) (p : Part) → i < length ps → p ≡ get_or ps i p →
    Adds X old mid (flat_map f (take i ps)) → Adds X mid new (f p) → Adds X old new (flat_map f (take (i + 1) ps))
adds_more X f old mid new ps i p h is a b =
    let at : take (i + 1) ps ≡ take i ps ++ p ∷ [] = take_more ps i p h ∙ ap (λ q. take i ps ++ q ∷ []) (sym is) in
    let e : flat_map f (take (i + 1) ps) ≡ flat_map f (take i ps) ++ f p = ap (flat_map f) at ∙ flat_map-append f (take i ps) (p ∷ []) ∙ ap (λ xs. flat_map f (take i ps) ++ xs) (append-nil (f p)) in
    subst (Adds X old new) (sym e) (adds_append X old mid new (flat_map f (take i ps)) (f p) a b)

-- what all parts add
pub adds_all : (X : Type 0) (f : Part → List X) (old new all : List X) (c : Class) (ps : List Part) (i : ℕ) → length ps ≤ i → ps ≡ parts_of c → flat_map f (parts_of c) ≡ all →
    Adds X old new (flat_map f (take i ps)) → Adds X old new all
adds_all X f old new all c ps i h is e a = subst (Adds X old new) (ap (flat_map f) (take_all i ps h ∙ is) ∙ e) a
