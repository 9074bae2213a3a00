-- Where the names of a tree resolve and no reference leads back to itself, each pattern that can be reached has a simple form.
use Rattle.std.proofs.Common.{◌≡◌, ℕ, zero, suc, ◌≤◌, ◌⊎◌, inl, inr, Bool, true, false, cond, List, [], ◌∷◌, ◌++◌, length, Option, Some, None, refl, sym, ◌∙◌, ap, subst, arith}
use Rattle.std.specs.Prelude.{filter, ⊤, if◌then◌else◌}
use Rattle.std.specs.List.{list_any}
use Rattle.rng_model.specs.Texts.{Text}
use Rattle.rng_model.specs.Kinds.{Kind, Token}
use Rattle.rng_model.specs.Constructors.{or_empty, interleave_of, one_or_more_of, attribute_of, data_of}
use Rattle.rng_model.specs.Classes as class
use Rattle.rng_model.specs.Patterns as simple
use Rattle.derivative_laws.proofs.Members.{IsIn, is_in, contained, in_left, in_right, in_append}
use Rattle.grammar_laws.specs.Trees.{Pattern, Patterns, no_pattern, more_patterns, Items, no_item, more_items, Item, start, define, div, include}
use Rattle.grammar_laws.specs.Files.{SchemaFile}
use Rattle.grammar_laws.specs.Trees as full
use Rattle.simple_form_laws.specs.Prefixes.{kind_of}
use Rattle.simple_form_laws.specs.ClassForms.{OfElement, OfAttribute, class_of}
use Rattle.simple_form_laws.specs.Parts.{Scope, Part, part, parts_of, parts_of_list, parts_of_items, parts_of_item, Entry, entries, entries_in, entries_of, same_key, patterns_of_entries, is_interleave, defined}
use Rattle.simple_form_laws.specs.Meaning.{Means, Connected, Behind, Connective, Group, Choice, Interleave, connect}
use Rattle.simple_form_laws.specs.Meaning as by
use Rattle.simple_form_laws.specs.Faults.{IsMany, leads, each_part, lacks_start, is_empty_list, undefined_in, parent_in, IsVisited, lead, content, inside, LeadsTo, once, more, IsReferenceAt}
use Rattle.simple_form_laws.proofs.NoLoop.{then_to}

-- a pattern is the first of its parts
itself : (s : Scope) (p : Pattern) → IsIn (part s p) (parts_of s p)
itself s (full.element c p at) = inl refl
itself s (full.attribute c p at) = inl refl
itself s (full.group ps) = inl refl
itself s (full.choice ps) = inl refl
itself s (full.interleave ps) = inl refl
itself s (full.optional p) = inl refl
itself s (full.zero_or_more p) = inl refl
itself s (full.one_or_more p) = inl refl
itself s (full.list p at) = inl refl
itself s (full.mixed p) = inl refl
itself s (full.ref name at) = inl refl
itself s (full.parent name at) = inl refl
itself s full.empty = inl refl
itself s full.any_text = inl refl
itself s full.not_allowed = inl refl
itself s (full.value v w) = inl refl
itself s (full.data_type v xs) = inl refl
itself s (full.data_except v xs p) = inl refl
itself s (full.external t passed at) = inl refl
itself s (full.grammar is) = inl refl

-- the parts of a part are parts
mutual
  parts_within : (s : Scope) (p : Pattern) (x y : Part) → IsIn x (parts_of s p) → IsIn y (parts_of x.scope x.pattern) → IsIn y (parts_of s p)
  parts_within s (full.element c p at) x y (inl e) k = subst (λ z. IsIn y (parts_of z.scope z.pattern)) e k
  parts_within s (full.element c p at) x y (inr h) k = inr (parts_within s p x y h k)
  parts_within s (full.attribute c p at) x y (inl e) k = subst (λ z. IsIn y (parts_of z.scope z.pattern)) e k
  parts_within s (full.attribute c p at) x y (inr h) k = inr (parts_within s p x y h k)
  parts_within s (full.group ps) x y (inl e) k = subst (λ z. IsIn y (parts_of z.scope z.pattern)) e k
  parts_within s (full.group ps) x y (inr h) k = inr (parts_in_list s ps x y h k)
  parts_within s (full.choice ps) x y (inl e) k = subst (λ z. IsIn y (parts_of z.scope z.pattern)) e k
  parts_within s (full.choice ps) x y (inr h) k = inr (parts_in_list s ps x y h k)
  parts_within s (full.interleave ps) x y (inl e) k = subst (λ z. IsIn y (parts_of z.scope z.pattern)) e k
  parts_within s (full.interleave ps) x y (inr h) k = inr (parts_in_list s ps x y h k)
  parts_within s (full.optional p) x y (inl e) k = subst (λ z. IsIn y (parts_of z.scope z.pattern)) e k
  parts_within s (full.optional p) x y (inr h) k = inr (parts_within s p x y h k)
  parts_within s (full.zero_or_more p) x y (inl e) k = subst (λ z. IsIn y (parts_of z.scope z.pattern)) e k
  parts_within s (full.zero_or_more p) x y (inr h) k = inr (parts_within s p x y h k)
  parts_within s (full.one_or_more p) x y (inl e) k = subst (λ z. IsIn y (parts_of z.scope z.pattern)) e k
  parts_within s (full.one_or_more p) x y (inr h) k = inr (parts_within s p x y h k)
  parts_within s (full.list p at) x y (inl e) k = subst (λ z. IsIn y (parts_of z.scope z.pattern)) e k
  parts_within s (full.list p at) x y (inr h) k = inr (parts_within s p x y h k)
  parts_within s (full.mixed p) x y (inl e) k = subst (λ z. IsIn y (parts_of z.scope z.pattern)) e k
  parts_within s (full.mixed p) x y (inr h) k = inr (parts_within s p x y h k)
  parts_within s (full.ref name at) x y (inl e) k = subst (λ z. IsIn y (parts_of z.scope z.pattern)) e k
  parts_within s (full.ref name at) x y (inr h) k = absurd h
  parts_within s (full.parent name at) x y (inl e) k = subst (λ z. IsIn y (parts_of z.scope z.pattern)) e k
  parts_within s (full.parent name at) x y (inr h) k = absurd h
  parts_within s full.empty x y (inl e) k = subst (λ z. IsIn y (parts_of z.scope z.pattern)) e k
  parts_within s full.empty x y (inr h) k = absurd h
  parts_within s full.any_text x y (inl e) k = subst (λ z. IsIn y (parts_of z.scope z.pattern)) e k
  parts_within s full.any_text x y (inr h) k = absurd h
  parts_within s full.not_allowed x y (inl e) k = subst (λ z. IsIn y (parts_of z.scope z.pattern)) e k
  parts_within s full.not_allowed x y (inr h) k = absurd h
  parts_within s (full.value v w) x y (inl e) k = subst (λ z. IsIn y (parts_of z.scope z.pattern)) e k
  parts_within s (full.value v w) x y (inr h) k = absurd h
  parts_within s (full.data_type v xs) x y (inl e) k = subst (λ z. IsIn y (parts_of z.scope z.pattern)) e k
  parts_within s (full.data_type v xs) x y (inr h) k = absurd h
  parts_within s (full.data_except v xs p) x y (inl e) k = subst (λ z. IsIn y (parts_of z.scope z.pattern)) e k
  parts_within s (full.data_except v xs p) x y (inr h) k = inr (parts_within s p x y h k)
  parts_within s (full.external t passed at) x y (inl e) k = subst (λ z. IsIn y (parts_of z.scope z.pattern)) e k
  parts_within s (full.external t passed at) x y (inr h) k = absurd h
  parts_within s (full.grammar is) x y (inl e) k = subst (λ z. IsIn y (parts_of z.scope z.pattern)) e k
  parts_within s (full.grammar is) x y (inr h) k = inr (parts_in_items (is ∷ s) is x y h k)

  parts_in_list : (s : Scope) (ps : Patterns) (x y : Part) → IsIn x (parts_of_list s ps) → IsIn y (parts_of x.scope x.pattern) → IsIn y (parts_of_list s ps)
  parts_in_list s no_pattern x y h k = absurd h
  parts_in_list s (more_patterns p ps) x y h k = go (in_append x (parts_of s p) (parts_of_list s ps) h) (λ i. parts_within s p x y i k) (λ i. parts_in_list s ps x y i k)
    where
      go : IsIn x (parts_of s p) ⊎ IsIn x (parts_of_list s ps) → (IsIn x (parts_of s p) → IsIn y (parts_of s p)) → (IsIn x (parts_of_list s ps) → IsIn y (parts_of_list s ps)) → IsIn y (parts_of s p ++ parts_of_list s ps)
      go (inl i) f g = in_left y (parts_of s p) (parts_of_list s ps) (f i)
      go (inr i) f g = in_right y (parts_of s p) (parts_of_list s ps) (g i)

  parts_in_items : (s : Scope) (is : Items) (x y : Part) → IsIn x (parts_of_items s is) → IsIn y (parts_of x.scope x.pattern) → IsIn y (parts_of_items s is)
  parts_in_items s no_item x y h k = absurd h
  parts_in_items s (more_items i is) x y h k = go (in_append x (parts_of_item s i) (parts_of_items s is) h) (λ j. parts_in_item s i x y j k) (λ j. parts_in_items s is x y j k)
    where
      go : IsIn x (parts_of_item s i) ⊎ IsIn x (parts_of_items s is) → (IsIn x (parts_of_item s i) → IsIn y (parts_of_item s i)) → (IsIn x (parts_of_items s is) → IsIn y (parts_of_items s is)) → IsIn y (parts_of_item s i ++ parts_of_items s is)
      go (inl j) f g = in_left y (parts_of_item s i) (parts_of_items s is) (f j)
      go (inr j) f g = in_right y (parts_of_item s i) (parts_of_items s is) (g j)

  parts_in_item : (s : Scope) (i : Item) (x y : Part) → IsIn x (parts_of_item s i) → IsIn y (parts_of x.scope x.pattern) → IsIn y (parts_of_item s i)
  parts_in_item s (start m p at) x y h k = parts_within s p x y h k
  parts_in_item s (define name m p at) x y h k = parts_within s p x y h k
  parts_in_item s (div inner) x y h k = parts_in_items s inner x y h k
  parts_in_item s (include t passed inner at) x y h k = absurd h

-- the pattern of a start or definition is a part of its grammar
mutual
  entry_part : (s : Scope) (is : Items) (e : Entry) → IsIn e (entries is) → IsIn (part s e.pattern) (parts_of_items s is)
  entry_part s no_item e h = absurd h
  entry_part s (more_items i rest) e h = go (in_append e (entries_in i) (entries rest) h) (entry_part_in s i e) (entry_part s rest e)
    where
      go : IsIn e (entries_in i) ⊎ IsIn e (entries rest) → (IsIn e (entries_in i) → IsIn (part s e.pattern) (parts_of_item s i)) → (IsIn e (entries rest) → IsIn (part s e.pattern) (parts_of_items s rest)) → IsIn (part s e.pattern) (parts_of_item s i ++ parts_of_items s rest)
      go (inl j) f g = in_left (part s e.pattern) (parts_of_item s i) (parts_of_items s rest) (f j)
      go (inr j) f g = in_right (part s e.pattern) (parts_of_item s i) (parts_of_items s rest) (g j)

  entry_part_in : (s : Scope) (i : Item) (e : Entry) → IsIn e (entries_in i) → IsIn (part s e.pattern) (parts_of_item s i)
  entry_part_in s (start m p at) e (inl h) = subst (λ q. IsIn (part s q) (parts_of s p)) (ap (λ x. x.pattern) (sym h)) (itself s p)
  entry_part_in s (start m p at) e (inr h) = absurd h
  entry_part_in s (define name m p at) e (inl h) = subst (λ q. IsIn (part s q) (parts_of s p)) (ap (λ x. x.pattern) (sym h)) (itself s p)
  entry_part_in s (define name m p at) e (inr h) = absurd h
  entry_part_in s (div inner) e h = entry_part s inner e h
  entry_part_in s (include t passed inner at) e h = absurd h

-- the pattern's own class or type resolves, and it is none of those that stand in no simple form
abbrev pub IsFormed : List SchemaFile → Pattern → Type 0
IsFormed fs (full.element c p n) = (d : class.Class) × (class_of fs OfElement c ≡ Some d)
IsFormed fs (full.attribute c p at) = (d : class.Class) × (class_of fs OfAttribute c ≡ Some d)
IsFormed fs (full.group ps) = IsMany ps
IsFormed fs (full.choice ps) = IsMany ps
IsFormed fs (full.interleave ps) = IsMany ps
IsFormed fs (full.list p at) = ⊥
IsFormed fs (full.value (Some of) t) = (k : Kind) × (kind_of fs of ≡ Some k)
IsFormed fs (full.data_type of []) = (k : Kind) × (kind_of fs of ≡ Some k)
IsFormed fs (full.data_type of (x ∷ xs)) = ⊥
IsFormed fs (full.data_except of [] p) = (k : Kind) × (kind_of fs of ≡ Some k)
IsFormed fs (full.data_except of (x ∷ xs) p) = ⊥
IsFormed fs (full.external t passed at) = ⊥
IsFormed fs p = ⊤

-- what is asked of the whole tree
pub record IsSound (fs : List SchemaFile) (whole : Pattern) : Type 0 where
  pub formed : (x : Part) → IsIn x (parts_of [] whole) → IsFormed fs x.pattern
  pub started : (x : Part) → IsIn x (parts_of [] whole) → lacks_start x.pattern ≡ false
  pub defined : (x : Part) (at : ℕ) → IsIn x (parts_of [] whole) → IsIn at (undefined_in x.scope x.pattern) → ⊥
  pub inside : (x : Part) (at : ℕ) → IsIn x (parts_of [] whole) → IsIn at (parent_in x.scope x.pattern) → ⊥
  pub loopless : (x : Part) (at : ℕ) → IsReferenceAt at x.pattern → IsVisited whole x → LeadsTo x x → ⊥

-- the list without the one that stands there
pub without : {X : Type 0} (x : X) (U : List X) → IsIn x U → List X
without x [] i = absurd i
without x (y ∷ U) (inl e) = U
without x (y ∷ U) (inr i) = y ∷ without x U i

pub shorter : {X : Type 0} (x : X) (U : List X) (i : IsIn x U) → suc (length (without x U i)) ≡ length U
unfolding without
shorter x [] i = absurd i
shorter x (y ∷ U) (inl e) = refl
shorter x (y ∷ U) (inr i) = ap suc (shorter x U i)

pub or_there : {X : Type 0} (x z : X) (U : List X) (i : IsIn x U) → IsIn z U → (z ≡ x) ⊎ IsIn z (without x U i)
unfolding without
or_there x z [] i j = absurd i
or_there x z (y ∷ U) (inl e) (inl f) = inl (f ∙ sym e)
or_there x z (y ∷ U) (inl e) (inr j) = inr j
or_there x z (y ∷ U) (inr i) (inl f) = inr (inl f)
or_there x z (y ∷ U) (inr i) (inr j) = go (or_there x z U i j)
  where
    go : (z ≡ x) ⊎ IsIn z (without x U i) → (z ≡ x) ⊎ ((z ≡ y) ⊎ IsIn z (without x U i))
    go (inl e) = inl e
    go (inr k) = inr (inr k)

pick_in : (b : Bool) (e x : Entry) (us es : List Entry) → (IsIn e us → IsIn e es) → IsIn e (cond b (x ∷ us) us) → (e ≡ x) ⊎ IsIn e es
pick_in true e x us es f (inl g) = inl g
pick_in true e x us es f (inr j) = inr (f j)
pick_in false e x us es f j = inr (f j)

in_filter : (test : Entry → Bool) (e : Entry) (es : List Entry) → IsIn e (filter test es) → IsIn e es
in_filter test e [] h = absurd h
in_filter test e (x ∷ es) h = pick_in (test x) e x (filter test es) es (in_filter test e es) h

passes : (test : Entry → Bool) (e : Entry) (es : List Entry) → IsIn e (filter test es) → test e ≡ true
passes test e [] h = absurd h
passes test e (x ∷ es) h = go (test x) refl (passes test e es) h
  where
    go : (b : Bool) → test x ≡ b → (IsIn e (filter test es) → test e ≡ true) → IsIn e (cond b (x ∷ filter test es) (filter test es)) → test e ≡ true
    go true f g (inl k) = ap test k ∙ f
    go true f g (inr j) = g j
    go false f g j = g j

kept_in : (test : Entry → Bool) (e : Entry) (es : List Entry) → IsIn e es → test e ≡ true → IsIn e (filter test es)
kept_in test e [] h t = absurd h
kept_in test e (x ∷ es) (inl f) t = subst (λ b. IsIn e (cond b (x ∷ filter test es) (filter test es))) (sym (ap test (sym f) ∙ t)) (inl f)
kept_in test e (x ∷ es) (inr j) t = go (test x) (kept_in test e es j t)
  where
    go : (b : Bool) → IsIn e (filter test es) → IsIn e (cond b (x ∷ filter test es) (filter test es))
    go true k = inr k
    go false k = k

-- the members of a list of patterns are parts
list_part : (s : Scope) (ps : Patterns) (c : Pattern) → IsIn (part s c) (each_part s ps) → IsIn (part s c) (parts_of_list s ps)
list_part s no_pattern c h = absurd h
list_part s (more_patterns p ps) c (inl e) = in_left (part s c) (parts_of s p) (parts_of_list s ps) (subst (λ x. IsIn x (parts_of s p)) (sym e) (itself s p))
list_part s (more_patterns p ps) c (inr h) = in_right (part s c) (parts_of s p) (parts_of_list s ps) (list_part s ps c h)

entry_member : (s : Scope) (es : List Entry) (e : Entry) → IsIn e es → IsIn (part s e.pattern) (each_part s (patterns_of_entries es))
entry_member s [] e h = absurd h
entry_member s (x ∷ es) e (inl f) = inl (ap (λ z. part s z.pattern) f)
entry_member s (x ∷ es) e (inr h) = inr (entry_member s es e h)

-- what a name is defined as leads to the pattern of each of its entries
entry_lead : (name : Option Text) (is : Items) (s : Scope) (e : Entry) → IsIn e (entries_of name is) → IsIn (part (is ∷ s) e.pattern) (leads (is ∷ s) (defined name is))
entry_lead name is s e h = go (list_any (λ x. is_interleave x.method) (entries_of name is))
  where
    go : (b : Bool) → IsIn (part (is ∷ s) e.pattern) (leads (is ∷ s) (if b then full.interleave (patterns_of_entries (entries_of name is)) else full.choice (patterns_of_entries (entries_of name is))))
    go true = entry_member (is ∷ s) (entries_of name is) e h
    go false = entry_member (is ∷ s) (entries_of name is) e h

-- what stands in a tree
module _ (whole : Pattern) where
  -- each grammar of the scope stands in the tree
  abbrev pub IsScope : Scope → Type 0
  IsScope [] = ⊤
  IsScope (is ∷ s) = IsIn (part s (full.grammar is)) (parts_of [] whole) × IsScope s

  entry_here : (name : Option Text) (is : Items) (s : Scope) (e : Entry) → IsIn (part s (full.grammar is)) (parts_of [] whole) → IsIn e (entries_of name is) → IsIn (part (is ∷ s) e.pattern) (parts_of [] whole)
  entry_here name is s e h i =
      parts_within [] whole (part s (full.grammar is)) (part (is ∷ s) e.pattern) h
      (inr (entry_part (is ∷ s) is e (in_filter (λ x. same_key name x.name) e (entries is) i)))

  -- what stands in the tree, or is what a name is defined as, in a scope of the tree
  abbrev Place : Part → Type 0
  Place x = IsScope x.scope × (IsIn x (parts_of [] whole) ⊎ ((name : Option Text) × (is : Items) × (s : Scope) × (x ≡ part (is ∷ s) (defined name is))))

  place_here : (s : Scope) (p c : Pattern) → IsIn (part s p) (parts_of [] whole) → IsScope s → IsIn (part s c) (parts_of s p) → Place (part s c)
  place_here s p c h sc i = (sc, inl (parts_within [] whole (part s p) (part s c) h i))

  place_defined : (name : Option Text) (is : Items) (s : Scope) → IsScope (is ∷ s) → Place (part (is ∷ s) (defined name is))
  place_defined name is s sc = (sc, inr (name, is, s, refl))

  place_members : (s : Scope) (ps : Patterns) (y : Part) → ((c : Pattern) → IsIn (part s c) (each_part s ps) → Place (part s c)) → IsIn y (each_part s ps) → Place y
  place_members s no_pattern y f h = absurd h
  place_members s (more_patterns p ps) y f (inl e) = subst Place (sym e) (f p (inl refl))
  place_members s (more_patterns p ps) y f (inr h) = place_members s ps y (λ c i. f c (inr i)) h

  place_one : (x y : Part) → Place x → IsIn y (x ∷ []) → Place y
  place_one x y f (inl e) = subst Place (sym e) f
  place_one x y f (inr h) = absurd h

  place_ref : (s : Scope) (name : Text) (at : ℕ) (y : Part) → IsScope s → IsIn y (leads s (full.ref name at)) → Place y
  place_ref [] name at y sc i = absurd i
  place_ref (is ∷ s) name at y sc i = place_one (part (is ∷ s) (defined (Some name) is)) y (place_defined (Some name) is s sc) i

  place_parent : (s : Scope) (name : Text) (at : ℕ) (y : Part) → IsScope s → IsIn y (leads s (full.parent name at)) → Place y
  place_parent [] name at y sc i = absurd i
  place_parent (is ∷ []) name at y sc i = absurd i
  place_parent (inner ∷ is ∷ s) name at y sc i = place_one (part (is ∷ s) (defined (Some name) is)) y (place_defined (Some name) is s sc.1) i

  place_lead : (s : Scope) (p : Pattern) (y : Part) → IsIn (part s p) (parts_of [] whole) → IsScope s → IsIn y (leads s p) → Place y
  place_lead s (full.element c p at) y h sc i = absurd i
  place_lead s (full.attribute c p at) y h sc i = place_one (part s p) y (place_here s (full.attribute c p at) p h sc (inr (itself s p))) i
  place_lead s (full.group ps) y h sc i = place_members s ps y (λ c j. place_here s (full.group ps) c h sc (inr (list_part s ps c j))) i
  place_lead s (full.choice ps) y h sc i = place_members s ps y (λ c j. place_here s (full.choice ps) c h sc (inr (list_part s ps c j))) i
  place_lead s (full.interleave ps) y h sc i = place_members s ps y (λ c j. place_here s (full.interleave ps) c h sc (inr (list_part s ps c j))) i
  place_lead s (full.optional p) y h sc i = place_one (part s p) y (place_here s (full.optional p) p h sc (inr (itself s p))) i
  place_lead s (full.zero_or_more p) y h sc i = place_one (part s p) y (place_here s (full.zero_or_more p) p h sc (inr (itself s p))) i
  place_lead s (full.one_or_more p) y h sc i = place_one (part s p) y (place_here s (full.one_or_more p) p h sc (inr (itself s p))) i
  place_lead s (full.list p at) y h sc i = place_one (part s p) y (place_here s (full.list p at) p h sc (inr (itself s p))) i
  place_lead s (full.mixed p) y h sc i = place_one (part s p) y (place_here s (full.mixed p) p h sc (inr (itself s p))) i
  place_lead s full.empty y h sc i = absurd i
  place_lead s full.any_text y h sc i = absurd i
  place_lead s full.not_allowed y h sc i = absurd i
  place_lead s (full.value v w) y h sc i = absurd i
  place_lead s (full.data_type v xs) y h sc i = absurd i
  place_lead s (full.data_except v xs p) y h sc i = place_one (part s p) y (place_here s (full.data_except v xs p) p h sc (inr (itself s p))) i
  place_lead s (full.external t passed at) y h sc i = absurd i
  place_lead s (full.grammar is) y h sc i = place_one (part (is ∷ s) (defined None is)) y (place_defined None is s (h, sc)) i
  place_lead s (full.ref name at) y h sc i = place_ref s name at y sc i
  place_lead s (full.parent name at) y h sc i = place_parent s name at y sc i

  place_entries : (is : Items) (s : Scope) (es : List Entry) (y : Part) → ((e : Entry) → IsIn e es → Place (part (is ∷ s) e.pattern)) → IsIn y (each_part (is ∷ s) (patterns_of_entries es)) → Place y
  place_entries is s [] y f h = absurd h
  place_entries is s (e ∷ es) y f (inl k) = subst Place (sym k) (f e (inl refl))
  place_entries is s (e ∷ es) y f (inr h) = place_entries is s es y (λ x i. f x (inr i)) h

  place_from_defined : (name : Option Text) (is : Items) (s : Scope) (y : Part) → IsScope (is ∷ s) → IsIn y (leads (is ∷ s) (defined name is)) → Place y
  place_from_defined name is s y sc h =
      go (list_any (λ x. is_interleave x.method) (entries_of name is)) h
    where
      each : (e : Entry) → IsIn e (entries_of name is) → Place (part (is ∷ s) e.pattern)
      each e i = (sc, inl (entry_here name is s e sc.0 i))

      go : (b : Bool) → IsIn y (leads (is ∷ s) (if b then full.interleave (patterns_of_entries (entries_of name is)) else full.choice (patterns_of_entries (entries_of name is)))) → Place y
      go true i = place_entries is s (entries_of name is) y each i
      go false i = place_entries is s (entries_of name is) y each i

  no_content : (name : Option Text) (is : Items) (s : Scope) (y : Part) → IsIn y (inside s (defined name is)) → ⊥
  no_content name is s y h = go (list_any (λ x. is_interleave x.method) (entries_of name is)) h
    where
      go : (b : Bool) → IsIn y (inside s (if b then full.interleave (patterns_of_entries (entries_of name is)) else full.choice (patterns_of_entries (entries_of name is)))) → ⊥
      go true i = i
      go false i = i

  place_content : (s : Scope) (p : Pattern) (y : Part) → IsIn (part s p) (parts_of [] whole) → IsScope s → IsIn y (inside s p) → Place y
  place_content s (full.element c p n) y h sc i = place_one (part s p) y (place_here s (full.element c p n) p h sc (inr (itself s p))) i
  place_content s p y h sc i = absurd i

  visited_place : (x : Part) → IsVisited whole x → Place x
  visited_place x IsVisited.whole = (tt, inl (itself [] whole))
  visited_place y (lead {x = x} v i) = go (visited_place x v)
    where
      h : IsIn y (leads x.scope x.pattern)
      h = is_in y (leads x.scope x.pattern) i

      go : Place x → Place y
      go (sc, inl k) = place_lead x.scope x.pattern y k sc h
      go (sc, inr (name, is, s, e)) =
          place_from_defined name is s y (subst (λ z. IsScope z.scope) e sc) (subst (λ z. IsIn y (leads z.scope z.pattern)) e h)
  visited_place y (content {x = x} v i) = go (visited_place x v)
    where
      h : IsIn y (inside x.scope x.pattern)
      h = is_in y (inside x.scope x.pattern) i

      go : Place x → Place y
      go (sc, inl k) = place_content x.scope x.pattern y k sc h
      go (sc, inr (name, is, s, e)) = absurd (no_content name is (is ∷ s) y (subst (λ z. IsIn y (inside z.scope z.pattern)) e h))

  -- an element that can be reached stands in the tree
  pub element_here : (s : Scope) (c : full.Class) (p : Pattern) (n : ℕ) → IsVisited whole (part s (full.element c p n)) → IsIn (part s (full.element c p n)) (parts_of [] whole) × IsScope s
  element_here s c p n v = go (visited_place (part s (full.element c p n)) v)
    where
      never : (name : Option Text) (is : Items) → full.element c p n ≡ defined name is → ⊥
      never name is e = pick (list_any (λ x. is_interleave x.method) (entries_of name is)) e
        where
          pick : (b : Bool) → full.element c p n ≡ (if b then full.interleave (patterns_of_entries (entries_of name is)) else full.choice (patterns_of_entries (entries_of name is))) → ⊥
          pick true f = cc
          pick false f = cc

      go : Place (part s (full.element c p n)) → IsIn (part s (full.element c p n)) (parts_of [] whole) × IsScope s
      go (sc, inl h) = (h, sc)
      go (sc, inr (name, is, t, e)) = absurd (never name is (ap (λ x. x.pattern) e))

module _ (fs : List SchemaFile) (whole : Pattern) (sound : IsSound fs whole) where
  abbrev pub Form : Scope → Pattern → Type 0
  Form s p = (q : simple.Pattern) × Means fs s p q

  -- the pattern stands in the tree and can be reached, and each part that leads to it is none of those that are left
  record IsReady (U : List Part) (s : Scope) (p : Pattern) : Type 0 where
    here : IsIn (part s p) (parts_of [] whole)
    scope : IsScope whole s
    visited : IsVisited whole (part s p)
    left : (x : Part) → IsIn x (parts_of [] whole) → IsIn x U ⊎ LeadsTo x (part s p)

  -- a part in the same scope to which the pattern leads
  ready_part : (U : List Part) (s : Scope) (p c : Pattern) → IsReady U s p → IsIn (part s c) (parts_of s p) → IsIn (part s c) (leads s p) → IsReady U s c
  ready_part U s p c r i l = record {
    here = parts_within [] whole (part s p) (part s c) r.here i;
    scope = r.scope;
    visited = lead r.visited (contained (part s c) (leads s p) l);
    left = λ x j. go x (r.left x j);
  }
    where
      go : (x : Part) → IsIn x U ⊎ LeadsTo x (part s p) → IsIn x U ⊎ LeadsTo x (part s c)
      go x (inl k) = inl k
      go x (inr k) = inr (then_to k (once (contained (part s c) (leads s p) l)))

  -- MAIN
  behind_form : (j : Connective) (s : Scope) (es : List Entry) → ((e : Entry) → IsIn e es → Form s e.pattern) → (b : simple.Pattern) → (q : simple.Pattern) × Behind fs j s b (patterns_of_entries es) q
  behind_form j s [] f b = (b, by.ends)
  behind_form j s (e ∷ es) f b =
      let h = f e (inl refl) in
      let k = behind_form j s es (λ x i. f x (inr i)) (connect j b h.0) in
      (k.0, by.next h.1 k.1)

  connected_form : (j : Connective) (s : Scope) (es : List Entry) → is_empty_list es ≡ false → ((e : Entry) → IsIn e es → Form s e.pattern) → (q : simple.Pattern) × Connected fs j s (patterns_of_entries es) q
  connected_form j s [] n f = absurd (cc)
  connected_form j s (e ∷ es) n f =
      let h = f e (inl refl) in
      let k = behind_form j s es (λ x i. f x (inr i)) h.0 in
      (k.0, by.first h.1 k.1)

  -- what a name is defined as has a form where each of its entries has
  defined_form : (name : Option Text) (is : Items) (s : Scope) → is_empty_list (entries_of name is) ≡ false → ((e : Entry) → IsIn e (entries_of name is) → Form (is ∷ s) e.pattern) → Form (is ∷ s) (defined name is)
  defined_form name is s n f = go (list_any (λ x. is_interleave x.method) (entries_of name is))
    where
      go : (b : Bool) → Form (is ∷ s) (if b then full.interleave (patterns_of_entries (entries_of name is)) else full.choice (patterns_of_entries (entries_of name is)))
      go true = let k = connected_form Interleave (is ∷ s) (entries_of name is) n f in (k.0, by.interleave k.1)
      go false = let k = connected_form Choice (is ∷ s) (entries_of name is) n f in (k.0, by.choice k.1)

  abbrev Below : List Part → Type 0
  Below U = (x : Part) (i : IsIn x U) (s : Scope) (p : Pattern) → IsReady (without x U i) s p → Form s p

  -- a part that leads to an entry, in two steps
  two_steps : (x : Part) (name : Option Text) (is : Items) (s : Scope) (e : Entry) → IsIn (part (is ∷ s) (defined name is)) (leads x.scope x.pattern) → IsIn e (entries_of name is) → LeadsTo x (part (is ∷ s) e.pattern)
  two_steps x name is s e l i =
      more (contained (part (is ∷ s) (defined name is)) (leads x.scope x.pattern) l)
      (once (contained (part (is ∷ s) e.pattern) (leads (is ∷ s) (defined name is)) (entry_lead name is s e i)))

  visited_entry : (x : Part) (name : Option Text) (is : Items) (s : Scope) (e : Entry) → IsVisited whole x → IsIn (part (is ∷ s) (defined name is)) (leads x.scope x.pattern) → IsIn e (entries_of name is) → IsVisited whole (part (is ∷ s) e.pattern)
  visited_entry x name is s e v l i =
      lead (lead v (contained (part (is ∷ s) (defined name is)) (leads x.scope x.pattern) l))
      (contained (part (is ∷ s) e.pattern) (leads (is ∷ s) (defined name is)) (entry_lead name is s e i))

  -- the entries of a reference x to a name of the grammar `is`
  reference_form : (U : List Part) → Below U → (x : Part) (at : ℕ) (name : Text) (is : Items) (s : Scope) → IsReferenceAt at x.pattern → IsReady U x.scope x.pattern →
      IsScope whole (is ∷ s) → IsIn (part (is ∷ s) (defined (Some name) is)) (leads x.scope x.pattern) → is_empty_list (entries_of (Some name) is) ≡ false → Form (is ∷ s) (defined (Some name) is)
  reference_form U b x at name is s ref r sc l n = go (r.left x r.here)
    where
      ready : (i : IsIn x U) (e : Entry) → IsIn e (entries_of (Some name) is) → IsReady (without x U i) (is ∷ s) e.pattern
      ready i e j = record {
        here = entry_here whole (Some name) is s e sc.0 j;
        scope = sc;
        visited = visited_entry x (Some name) is s e r.visited l j;
        left = λ z h. rest z (r.left z h);
      }
        where
          moved : (z : Part) → (z ≡ x) ⊎ IsIn z (without x U i) → IsIn z (without x U i) ⊎ LeadsTo z (part (is ∷ s) e.pattern)
          moved z (inl f) = inr (subst (λ y. LeadsTo y (part (is ∷ s) e.pattern)) (sym f) (two_steps x (Some name) is s e l j))
          moved z (inr k) = inl k

          rest : (z : Part) → IsIn z U ⊎ LeadsTo z x → IsIn z (without x U i) ⊎ LeadsTo z (part (is ∷ s) e.pattern)
          rest z (inl k) = moved z (or_there x z U i k)
          rest z (inr k) = inr (then_to k (two_steps x (Some name) is s e l j))

      go : IsIn x U ⊎ LeadsTo x x → Form (is ∷ s) (defined (Some name) is)
      go (inl i) = defined_form (Some name) is s n (λ e j. b x i (is ∷ s) e.pattern (ready i e j))
      go (inr k) = absurd (sound.loopless x at ref r.visited k)

  has_entries : (x : Part) (at : ℕ) (es : List Entry) → ((n : ℕ) → IsIn n (if is_empty_list es then at ∷ [] else []) → ⊥) → is_empty_list es ≡ false
  has_entries x at [] f = absurd (f at (inl refl))
  has_entries x at (e ∷ es) f = refl

  ref_form : (U : List Part) → Below U → (s : Scope) (name : Text) (at : ℕ) → IsReady U s (full.ref name at) → Form s (full.ref name at)
  ref_form U b [] name at r = absurd (sound.defined (part [] (full.ref name at)) at r.here (inl refl))
  ref_form U b (is ∷ s) name at r =
      let x = part (is ∷ s) (full.ref name at) in
      let n = has_entries x at (entries_of (Some name) is) (λ m h. sound.defined x m r.here h) in
      let k = reference_form U b x at name is s (name, inl refl) r r.scope (inl refl) n in
      (k.0, by.ref k.1)

  parent_form : (U : List Part) → Below U → (s : Scope) (name : Text) (at : ℕ) → IsReady U s (full.parent name at) → Form s (full.parent name at)
  parent_form U b [] name at r = absurd (sound.inside (part [] (full.parent name at)) at r.here (inl refl))
  parent_form U b (is ∷ []) name at r = absurd (sound.inside (part (is ∷ []) (full.parent name at)) at r.here (inl refl))
  parent_form U b (inner ∷ is ∷ s) name at r =
      let x = part (inner ∷ is ∷ s) (full.parent name at) in
      let n = has_entries x at (entries_of (Some name) is) (λ m h. sound.defined x m r.here h) in
      let k = reference_form U b x at name is s (name, inr refl) r r.scope.1 (inl refl) n in
      (k.0, by.parent k.1)

  -- a start of a grammar is ready where the grammar is
  ready_start : (U : List Part) (s : Scope) (is : Items) (e : Entry) → IsReady U s (full.grammar is) → IsIn e (entries is) → same_key None e.name ≡ true → IsReady U (is ∷ s) e.pattern
  ready_start U s is e r i t = record {
    here = entry_here whole None is s e r.here j;
    scope = (r.here, r.scope);
    visited = visited_entry (part s (full.grammar is)) None is s e r.visited (inl refl) j;
    left = λ z h. rest z (r.left z h);
  }
    where
      j : IsIn e (entries_of None is)
      j = kept_in (λ x. same_key None x.name) e (entries is) i t

      rest : (z : Part) → IsIn z U ⊎ LeadsTo z (part s (full.grammar is)) → IsIn z U ⊎ LeadsTo z (part (is ∷ s) e.pattern)
      rest z (inl k) = inl k
      rest z (inr k) = inr (then_to k (two_steps (part s (full.grammar is)) None is s e (inl refl) j))

  either_of : {A B C : Type 0} → A ⊎ B → (A → C) → (B → C) → C
  either_of (inl a) f g = f a
  either_of (inr b) f g = g b

  not_start : (name : Text) → same_key None (Some name) ≡ true → ⊥
  not_start name e = cc

  no_start : (is : Items) → lacks_start (full.grammar is) ≡ false → is_empty_list (entries_of None is) ≡ false
  no_start is e = e

  mutual
    build : (U : List Part) → Below U → (s : Scope) (p : Pattern) → IsReady U s p → Form s p
    build U b s (full.element c p n) r = (simple.ref n, by.element)
    build U b s (full.attribute c p at) r =
        let d = sound.formed (part s (full.attribute c p at)) r.here in
        let h = build U b s p (ready_part U s (full.attribute c p at) p r (inr (itself s p)) (inl refl)) in
        (attribute_of d.0 h.0, by.attribute d.1 h.1 refl)
    build U b s (full.group ps) r =
        let h = build_first U b Group s ps (sound.formed (part s (full.group ps)) r.here) (λ c i. ready_part U s (full.group ps) c r (inr (list_part s ps c i)) i) in
        (h.0, by.group h.1)
    build U b s (full.choice ps) r =
        let h = build_first U b Choice s ps (sound.formed (part s (full.choice ps)) r.here) (λ c i. ready_part U s (full.choice ps) c r (inr (list_part s ps c i)) i) in
        (h.0, by.choice h.1)
    build U b s (full.interleave ps) r =
        let h = build_first U b Interleave s ps (sound.formed (part s (full.interleave ps)) r.here) (λ c i. ready_part U s (full.interleave ps) c r (inr (list_part s ps c i)) i) in
        (h.0, by.interleave h.1)
    build U b s (full.optional p) r =
        let h = build U b s p (ready_part U s (full.optional p) p r (inr (itself s p)) (inl refl)) in
        (or_empty h.0, by.optional h.1 refl)
    build U b s (full.zero_or_more p) r =
        let h = build U b s p (ready_part U s (full.zero_or_more p) p r (inr (itself s p)) (inl refl)) in
        (or_empty (one_or_more_of h.0), by.zero_or_more h.1 refl)
    build U b s (full.one_or_more p) r =
        let h = build U b s p (ready_part U s (full.one_or_more p) p r (inr (itself s p)) (inl refl)) in
        (one_or_more_of h.0, by.one_or_more h.1 refl)
    build U b s (full.list p at) r = absurd (sound.formed (part s (full.list p at)) r.here)
    build U b s (full.mixed p) r =
        let h = build U b s p (ready_part U s (full.mixed p) p r (inr (itself s p)) (inl refl)) in
        (interleave_of h.0 simple.text, by.mixed h.1 refl)
    build U b s (full.ref name at) r = ref_form U b s name at r
    build U b s (full.parent name at) r = parent_form U b s name at r
    build U b s full.empty r = (simple.empty, by.empty)
    build U b s full.any_text r = (simple.text, by.any_text)
    build U b s full.not_allowed r = (simple.not_allowed, by.not_allowed)
    build U b s (full.value None t) r = (simple.value Token t, by.value)
    build U b s (full.value (Some of) t) r =
        let k = sound.formed (part s (full.value (Some of) t)) r.here in
        (simple.value k.0 t, by.typed_value k.1)
    build U b s (full.data_type of []) r =
        let k = sound.formed (part s (full.data_type of [])) r.here in
        (simple.data_type k.0, by.data_type k.1)
    build U b s (full.data_type of (x ∷ xs)) r = absurd (sound.formed (part s (full.data_type of (x ∷ xs))) r.here)
    build U b s (full.data_except of [] p) r =
        let k = sound.formed (part s (full.data_except of [] p)) r.here in
        let h = build U b s p (ready_part U s (full.data_except of [] p) p r (inr (itself s p)) (inl refl)) in
        (data_of k.0 h.0, by.data_except k.1 h.1 refl)
    build U b s (full.data_except of (x ∷ xs) p) r = absurd (sound.formed (part s (full.data_except of (x ∷ xs) p)) r.here)
    build U b s (full.external t passed at) r = absurd (sound.formed (part s (full.external t passed at)) r.here)
    build U b s (full.grammar is) r =
        let k =
        defined_form None is s (no_start is (sound.started (part s (full.grammar is)) r.here))
        (λ e i. build_items U b (is ∷ s) is (λ x j t. ready_start U s is x r j t) e (in_filter (λ x. same_key None x.name) e (entries is) i) (passes (λ x. same_key None x.name) e (entries is) i))
        in
        (k.0, by.grammar k.1)

    build_first : (U : List Part) → Below U → (j : Connective) (s : Scope) (ps : Patterns) → IsMany ps → ((c : Pattern) → IsIn (part s c) (each_part s ps) → IsReady U s c) → (q : simple.Pattern) × Connected fs j s ps q
    build_first U b j s no_pattern m f = absurd m
    build_first U b j s (more_patterns p ps) m f =
        let h = build U b s p (f p (inl refl)) in
        let k = build_list U b j s ps (λ c i. f c (inr i)) h.0 in
        (k.0, by.first h.1 k.1)

    build_list : (U : List Part) → Below U → (j : Connective) (s : Scope) (ps : Patterns) → ((c : Pattern) → IsIn (part s c) (each_part s ps) → IsReady U s c) → (a : simple.Pattern) → (q : simple.Pattern) × Behind fs j s a ps q
    build_list U b j s no_pattern f a = (a, by.ends)
    build_list U b j s (more_patterns p ps) f a =
        let h = build U b s p (f p (inl refl)) in
        let k = build_list U b j s ps (λ c i. f c (inr i)) (connect j a h.0) in
        (k.0, by.next h.1 k.1)

    build_items : (U : List Part) → Below U → (s : Scope) (is : Items) → ((e : Entry) → IsIn e (entries is) → same_key None e.name ≡ true → IsReady U s e.pattern) → (e : Entry) → IsIn e (entries is) → same_key None e.name ≡ true → Form s e.pattern
    build_items U b s no_item f e h t = absurd h
    build_items U b s (more_items i rest) f e h t =
        either_of (in_append e (entries_in i) (entries rest) h)
        (λ j. build_item U b s i (λ x k u. f x (in_left x (entries_in i) (entries rest) k) u) e j t)
        (λ j. build_items U b s rest (λ x k u. f x (in_right x (entries_in i) (entries rest) k) u) e j t)

    build_item : (U : List Part) → Below U → (s : Scope) (i : Item) → ((e : Entry) → IsIn e (entries_in i) → same_key None e.name ≡ true → IsReady U s e.pattern) → (e : Entry) → IsIn e (entries_in i) → same_key None e.name ≡ true → Form s e.pattern
    build_item U b s (start m p at) f e (inl h) t =
        let k = build U b s p (f (record { name = None; method = m; pattern = p; at = at }) (inl refl) refl) in
        subst (λ x. Form s x.pattern) (sym h) k
    build_item U b s (start m p at) f e (inr h) t = absurd h
    build_item U b s (define name m p at) f e (inl h) t = absurd (not_start name (ap (λ x. same_key None x.name) (sym h) ∙ t))
    build_item U b s (define name m p at) f e (inr h) t = absurd h
    build_item U b s (div inner) f e h t = build_items U b s inner f e h t
    build_item U b s (include l passed inner at) f e h t = absurd h

  make : (n : ℕ) (U : List Part) → length U ≤ n → (s : Scope) (p : Pattern) → IsReady U s p → Form s p
  make zero U l = build U (λ x i. absurd (let e = shorter x U i in omega arith))
  make (suc n) U l = build U (λ x i. make n (without x U i) (let e = shorter x U i in omega arith))

  -- a part of the tree in a scope of the tree, that can be reached
  pub part_form : (s : Scope) (p : Pattern) → IsIn (part s p) (parts_of [] whole) → IsScope whole s → IsVisited whole (part s p) → Form s p
  part_form s p h sc v =
      make (length (parts_of [] whole)) (parts_of [] whole) (omega arith) s p (record { here = h; scope = sc; visited = v; left = λ x i. inl i })

  -- the whole tree has a simple form
  pub whole_form : Form [] whole
  whole_form = part_form [] whole (itself [] whole) tt IsVisited.whole

  -- its content has a form
  pub content_form : (s : Scope) (c : full.Class) (p : Pattern) (n : ℕ) → IsVisited whole (part s (full.element c p n)) → IsIn (part s (full.element c p n)) (parts_of [] whole) × Form s p
  content_form s c p n v =
      let h = element_here whole s c p n v in
      (h.0, part_form s p (parts_within [] whole (part s (full.element c p n)) (part s p) h.0 (inr (itself s p))) h.1 (content v (contained (part s p) (inside s (full.element c p n)) (inl refl))))
