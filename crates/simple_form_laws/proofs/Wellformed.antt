-- What holds of each simple form: no After stands in it, its references are defined, and new numbers leave its depth.
use Rattle.std.proofs.Common.{◌≡◌, ℕ, zero, suc, ◌<◌, ◌⊎◌, inl, inr, List, [], ◌∷◌, length, Some, max, refl, sym, ◌∙◌, ap, subst, arith}
use Rattle.std.specs.Prelude.{slice_get}
use Rattle.rng_model.specs.Kinds.{Kind}
use Rattle.rng_model.specs.Classes.{Class}
use Rattle.rng_model.specs.Patterns as simple
use Rattle.rng_model.specs.Patterns.{Schema, Definition, Defines, HasNoAfter}
use Rattle.rng_model.specs.Constructors.{group_of, interleave_of, one_or_more_of, attribute_of, data_of}
use Rattle.derivative_laws.proofs.ChoiceLaw.{IsAll_of, choice_of-all}
use Rattle.derivative_laws.proofs.Members.{IsIn, contained}
use Rattle.grammar_laws.specs.Trees.{Pattern, Patterns}
use Rattle.grammar_laws.specs.Files.{SchemaFile, Full}
use Rattle.simple_form_laws.specs.Parts.{Scope}
use Rattle.simple_form_laws.specs.Meaning.{Means, Connected, Behind, Connective, Group, Choice, Interleave, connect}
use Rattle.simple_form_laws.specs.Meaning as by
use Rattle.simple_form_laws.specs.Forms.{tree, HasRef, IsReached, from_start, from_content, new_number, renumbered, IsForm, IsDefinition, AreDefinitions, IsFormOf}
use Rattle.rng_model.specs.Depths.{depth, in_choice}
use Rattle.simple_form_laws.proofs.Kept.{in_its_place}

pub after_all : IsAll_of HasNoAfter
after_all = record { always = tt; first = λ p q h. h.0; second = λ p q h. h.1; from = λ p q h k. (h, k) }

pub no_after_group : (p q : simple.Pattern) → HasNoAfter p → HasNoAfter q → HasNoAfter (group_of p q)
no_after_group simple.not_allowed q h k = tt
no_after_group p simple.not_allowed h k = tt
no_after_group simple.empty q h k = k
no_after_group p simple.empty h k = h
no_after_group p q h k = (h, k)

pub no_after_interleave : (p q : simple.Pattern) → HasNoAfter p → HasNoAfter q → HasNoAfter (interleave_of p q)
no_after_interleave simple.not_allowed q h k = tt
no_after_interleave p simple.not_allowed h k = tt
no_after_interleave simple.empty q h k = k
no_after_interleave p simple.empty h k = h
no_after_interleave p q h k = (h, k)

pub no_after_more : (p : simple.Pattern) → HasNoAfter p → HasNoAfter (one_or_more_of p)
no_after_more simple.not_allowed h = tt
no_after_more simple.empty h = tt
no_after_more p h = h

pub no_after_attribute : (c : Class) (p : simple.Pattern) → HasNoAfter p → HasNoAfter (attribute_of c p)
no_after_attribute c simple.not_allowed h = tt
no_after_attribute c p h = h

pub no_after_data : (k : Kind) (p : simple.Pattern) → HasNoAfter p → HasNoAfter (data_of k p)
no_after_data k simple.not_allowed h = tt
no_after_data k p h = h

pub no_after_joined : (j : Connective) (p q : simple.Pattern) → HasNoAfter p → HasNoAfter q → HasNoAfter (connect j p q)
no_after_joined Group p q h k = no_after_group p q h k
no_after_joined Choice p q h k = choice_of-all HasNoAfter after_all p q h k
no_after_joined Interleave p q h k = no_after_interleave p q h k

module _ (fs : List SchemaFile) where
  mutual
    pub no_after : {s : Scope} {p : Pattern} {q : simple.Pattern} → Means fs s p q → HasNoAfter q
    no_after by.element = tt
    no_after (by.attribute {d = d} {q = q} k m e) = subst HasNoAfter (sym e) (no_after_attribute d q (no_after m))
    no_after (by.group m) = no_after_in m
    no_after (by.choice m) = no_after_in m
    no_after (by.interleave m) = no_after_in m
    no_after (by.optional {q = q} m e) = subst HasNoAfter (sym e) (choice_of-all HasNoAfter after_all q simple.empty (no_after m) tt)
    no_after (by.zero_or_more {q = q} m e) =
        subst HasNoAfter (sym e) (choice_of-all HasNoAfter after_all (one_or_more_of q) simple.empty (no_after_more q (no_after m)) tt)
    no_after (by.one_or_more {q = q} m e) = subst HasNoAfter (sym e) (no_after_more q (no_after m))
    no_after (by.mixed {q = q} m e) = subst HasNoAfter (sym e) (no_after_interleave q simple.text (no_after m) tt)
    no_after by.empty = tt
    no_after by.any_text = tt
    no_after by.not_allowed = tt
    no_after by.value = tt
    no_after (by.typed_value k) = tt
    no_after (by.data_type k) = tt
    no_after (by.data_except {k = k} {q = q} l m e) = subst HasNoAfter (sym e) (no_after_data k q (no_after m))
    no_after (by.grammar m) = no_after m
    no_after (by.ref m) = no_after m
    no_after (by.parent m) = no_after m

    no_after_in : {j : Connective} {s : Scope} {ps : Patterns} {q : simple.Pattern} → Connected fs j s ps q → HasNoAfter q
    no_after_in (by.first m k) = no_after_behind k (no_after m)

    no_after_behind : {j : Connective} {s : Scope} {b : simple.Pattern} {ps : Patterns} {q : simple.Pattern} → Behind fs j s b ps q → HasNoAfter b → HasNoAfter q
    no_after_behind by.ends h = h
    no_after_behind (by.next {j = j} {b = b} {q = q} m k) h = no_after_behind k (no_after_joined j b q h (no_after m))

module _ (h : ℕ → ℕ) where
  after-renumbered : (p : simple.Pattern) → HasNoAfter p → HasNoAfter (renumbered h p)
  after-renumbered (simple.after p q) f = absurd f
  after-renumbered (simple.data_except k p) f = after-renumbered p f
  after-renumbered (simple.attribute c p) f = after-renumbered p f
  after-renumbered (simple.one_or_more p) f = after-renumbered p f
  after-renumbered (simple.choice p q) f = (after-renumbered p f.0, after-renumbered q f.1)
  after-renumbered (simple.group p q) f = (after-renumbered p f.0, after-renumbered q f.1)
  after-renumbered (simple.interleave p q) f = (after-renumbered p f.0, after-renumbered q f.1)
  after-renumbered p f = tt

  in_choice-renumbered : (p : simple.Pattern) (d : ℕ) → in_choice (renumbered h p) d ≡ in_choice p d
  in_choice-renumbered (simple.choice p q) d = refl
  in_choice-renumbered p d = refl

  -- the depth stays
  pub depth-renumbered : (p : simple.Pattern) → depth (renumbered h p) ≡ depth p
  depth-renumbered (simple.data_except k p) = ap suc (depth-renumbered p)
  depth-renumbered (simple.attribute c p) = ap suc (depth-renumbered p)
  depth-renumbered (simple.one_or_more p) = ap suc (depth-renumbered p)
  depth-renumbered (simple.choice p q) = (λ i. max (suc (depth-renumbered p i)) (in_choice (renumbered h q) (depth-renumbered q i))) ∙ ap (max (suc (depth p))) (in_choice-renumbered q (depth q))
  depth-renumbered (simple.group p q) = (λ i. suc (max (depth-renumbered p i) (depth-renumbered q i)))
  depth-renumbered (simple.interleave p q) = (λ i. suc (max (depth-renumbered p i) (depth-renumbered q i)))
  depth-renumbered (simple.after p q) = (λ i. suc (max (depth-renumbered p i) (depth-renumbered q i)))
  depth-renumbered p = refl

  -- where a reference with a new number comes from
  abbrev From : ℕ → simple.Pattern → Type 0
  From d p = (n : ℕ) × HasRef n p × (d ≡ h n)

  from_inner : (d : ℕ) (p : simple.Pattern) (A : Type 0) → ((p ≡ simple.ref d) → ⊥) → (p ≡ simple.ref d) ⊎ A → A
  from_inner d p A f (inl e) = absurd (f e)
  from_inner d p A f (inr a) = a

  two_sides : (d : ℕ) (p q r : simple.Pattern) → ((n : ℕ) → HasRef n p ⊎ HasRef n q → HasRef n r) → From d p ⊎ From d q → From d r
  two_sides d p q r f (inl k) = (k.0, f k.0 (inl k.1), k.2)
  two_sides d p q r f (inr k) = (k.0, f k.0 (inr k.1), k.2)

  each_side : {A B C D : Type 0} → (A → C) → (B → D) → A ⊎ B → C ⊎ D
  each_side f g (inl a) = inl (f a)
  each_side f g (inr b) = inr (g b)

  pub ref-renumbered : (d : ℕ) (p : simple.Pattern) → HasRef d (renumbered h p) → From d p
  ref-renumbered d simple.not_allowed r = absurd (cc)
  ref-renumbered d simple.empty r = absurd (cc)
  ref-renumbered d simple.text r = absurd (cc)
  ref-renumbered d (simple.ref n) r = (n, refl, (let e : h n ≡ d = cc in sym e))
  ref-renumbered d (simple.value k t) r = absurd (cc)
  ref-renumbered d (simple.data_type k) r = absurd (cc)
  ref-renumbered d (simple.data_except k p) r =
      let f = ref-renumbered d p (from_inner d (renumbered h (simple.data_except k p)) (HasRef d (renumbered h p)) (λ e. cc) r) in
      (f.0, inr f.1, f.2)
  ref-renumbered d (simple.attribute c p) r =
      let f = ref-renumbered d p (from_inner d (renumbered h (simple.attribute c p)) (HasRef d (renumbered h p)) (λ e. cc) r) in
      (f.0, inr f.1, f.2)
  ref-renumbered d (simple.one_or_more p) r =
      let f = ref-renumbered d p (from_inner d (renumbered h (simple.one_or_more p)) (HasRef d (renumbered h p)) (λ e. cc) r) in
      (f.0, inr f.1, f.2)
  ref-renumbered d (simple.choice p q) r = two_sides d p q (simple.choice p q) (λ n k. k) (each_side (λ k. ref-renumbered d p k) (λ k. ref-renumbered d q k) r)
  ref-renumbered d (simple.group p q) r =
      two_sides d p q (simple.group p q) (λ n k. inr k)
      (each_side (λ k. ref-renumbered d p k) (λ k. ref-renumbered d q k) (from_inner d (renumbered h (simple.group p q)) (HasRef d (renumbered h p) ⊎ HasRef d (renumbered h q)) (λ e. cc) r))
  ref-renumbered d (simple.interleave p q) r =
      two_sides d p q (simple.interleave p q) (λ n k. inr k)
      (each_side (λ k. ref-renumbered d p k) (λ k. ref-renumbered d q k) (from_inner d (renumbered h (simple.interleave p q)) (HasRef d (renumbered h p) ⊎ HasRef d (renumbered h q)) (λ e. cc) r))
  ref-renumbered d (simple.after p q) r =
      two_sides d p q (simple.after p q) (λ n k. inr k)
      (each_side (λ k. ref-renumbered d p k) (λ k. ref-renumbered d q k) (from_inner d (renumbered h (simple.after p q)) (HasRef d (renumbered h p) ⊎ HasRef d (renumbered h q)) (λ e. cc) r))

-- what is known of each definition by its number
same_length : (f : Full) (kept ns : List ℕ) (es : List Definition) → AreDefinitions f kept ns es → length ns ≡ length es
same_length f kept [] [] h = refl
same_length f kept [] (e ∷ es) h = absurd h
same_length f kept (n ∷ ns) [] h = absurd h
same_length f kept (n ∷ ns) (e ∷ es) h = ap suc (same_length f kept ns es h.1)

pub definition_at : (f : Full) (kept ns : List ℕ) (es : List Definition) (d : ℕ) (e : Definition) → AreDefinitions f kept ns es → slice_get es d ≡ Some e → (n : ℕ) × IsIn n ns × IsDefinition f kept n e
definition_at f kept [] [] d e h g = absurd (cc)
definition_at f kept [] (x ∷ es) d e h g = absurd h
definition_at f kept (n ∷ ns) [] d e h g = absurd h
definition_at f kept (n ∷ ns) (x ∷ es) zero e h g = (n, inl refl, subst (IsDefinition f kept n) (cc) h.0)
definition_at f kept (n ∷ ns) (x ∷ es) (suc d) e h g = let t = definition_at f kept ns es d e h.1 g in (t.0, inr t.1, t.2)

within : {X : Type 0} (xs : List X) (d : ℕ) (x : X) → slice_get xs d ≡ Some x → d < length xs
within [] d x e = absurd (cc)
within (y ∷ xs) zero x e = omega arith
within (y ∷ xs) (suc d) x e = let l = within xs d x e in omega arith

module _ (f : Full) (g : Schema) (form : IsFormOf f g) where
  below : (d n : ℕ) → IsReached f n → d ≡ new_number form.kept n → d < length g.elements
  below d n r e =
      let c = (form.each n).1 r in
      let l = within form.kept (new_number form.kept n) n (in_its_place form.kept n form.ascending c) in
      let m = same_length f form.kept form.kept g.elements form.elements in
      omega arith

  form_no_after : (s : Scope) (p : Pattern) (q : simple.Pattern) → IsForm f form.kept s p q → HasNoAfter q
  form_no_after s p q h = subst HasNoAfter (sym h.2) (after-renumbered (new_number form.kept) h.0 (no_after f.files h.1))

  pub start_no_after : HasNoAfter g.start
  start_no_after = form_no_after [] (tree f) g.start form.start

  pub content_no_after : (d : ℕ) (e : Definition) → Defines g d e → HasNoAfter e.content
  content_no_after d e k =
      let t = definition_at f form.kept form.kept g.elements d e form.elements k in
      form_no_after t.2.token.scope t.2.token.content e.content t.2.content

  pub start_defined : (d : ℕ) → HasRef d g.start → d < length g.elements
  start_defined d r =
      let s = form.start in
      let t = ref-renumbered (new_number form.kept) d s.0 (subst (HasRef d) s.2 r) in
      below d t.0 (from_start s.1 t.1) t.2

  pub content_defined : (c : ℕ) (e : Definition) → Defines g c e → (d : ℕ) → HasRef d e.content → d < length g.elements
  content_defined c e k d r =
      let t = definition_at f form.kept form.kept g.elements c e form.elements k in
      let s = t.2.content in
      let u = ref-renumbered (new_number form.kept) d s.0 (subst (HasRef d) s.2 r) in
      below d u.0 (from_content ((form.each t.0).0 (contained t.0 form.kept t.1)) t.2.is s.1 u.1) u.2
