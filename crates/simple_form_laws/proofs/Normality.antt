-- The constructors make normal patterns of normal ones, so simple forms are normal.
use Rattle.std.proofs.Common.{◌≡◌, ℕ, ◌<◌, inl, inr, List, [], ◌∷◌, ◌++◌, map, refl, sym, ◌∙◌, ap, subst, Contains}
use Rattle.std.specs.List.{AllByRecursion}
use Rattle.std.specs.List.Sorted.{IsStrictlySortedBy}
use Rattle.std.specs.declared.cmp.Ordering.TheVariants.{Less}
use Rattle.rng_model.specs.Kinds.{Kind}
use Rattle.rng_model.specs.Classes.{Class}
use Rattle.rng_model.specs.Patterns as simple
use Rattle.rng_model.specs.Patterns.{Schema, Definition, Defines, pattern_cmp, pattern_keys}
use Rattle.rng_model.specs.Constructors.{members, of_members, ascending as in_order, choice_of, group_of, interleave_of, one_or_more_of, attribute_of, data_of}
use Rattle.derivative_laws.proofs.Members.{contained, all-append}
use Rattle.derivative_laws.specs.Choices.{IsMember}
use Rattle.derivative_laws.proofs.ChoiceLaw.{member_alone, all_ordered, sorted_ordered}
use Rattle.grammar_laws.specs.Trees.{Pattern, Patterns}
use Rattle.grammar_laws.specs.Files.{SchemaFile, Full}
use Rattle.simple_form_laws.specs.Parts.{Scope}
use Rattle.simple_form_laws.specs.Meaning.{Means, Connected, Behind, Connective, Group, Choice, Interleave, connect}
use Rattle.simple_form_laws.specs.Meaning as by
use Rattle.simple_form_laws.specs.Forms.{tree, HasRef, IsReached, from_start, from_content, new_number, renumbered, RefsIn, IsForm, IsFormOf}
use Rattle.simple_form_laws.specs.Normal.{IsNotNothing, HasNormalChoices}
use Rattle.simple_form_laws.proofs.Renumbering.{order_kept, members-renumbered}
use Rattle.simple_form_laws.proofs.Kept.{ascends}
use Rattle.simple_form_laws.proofs.Wellformed.{definition_at}

abbrev P : Type 0
P = simple.Pattern

abbrev Sorted : List P → Type 0
Sorted = IsStrictlySortedBy pattern_cmp

abbrev Above : P → List P → Type 0
Above a = AllByRecursion (λ y. pattern_cmp a y ≡ Less)

abbrev Member : P → Type 0
Member p = IsMember p × HasNormalChoices p

abbrev AreMembers : List P → Type 0
AreMembers = AllByRecursion Member

members_normal : (p : P) → HasNormalChoices p → AreMembers (members p)
members_normal simple.not_allowed h = tt
members_normal (simple.choice p q) h = ((h.1, h.3), members_normal q h.4)
members_normal p h = ((tt, h), tt)

allowed : (p x : P) (xs : List P) → members p ≡ x ∷ xs → IsNotNothing p
allowed simple.not_allowed x xs e = absurd (cc)
allowed p x xs e = tt

tail_sorted : (p : P) (ps : List P) → Sorted (p ∷ ps) → Sorted ps
unfolding IsStrictlySortedBy
tail_sorted p ps s = s.1

of_normal : (ps : List P) → Sorted ps → AreMembers ps → HasNormalChoices (of_members ps) × (members (of_members ps) ≡ ps)
of_normal [] s m = (tt, refl)
of_normal (p ∷ []) s m = (m.0.1, member_alone p m.0.0)
of_normal (p ∷ q ∷ ps) s m =
    let r = of_normal (q ∷ ps) (tail_sorted p (q ∷ ps) s) m.1 in (
      (subst (λ z. Sorted (p ∷ z)) (sym r.1) s, m.0.0, allowed (of_members (q ∷ ps)) q ps r.1, m.0.1, r.0),
      ap (λ z. p ∷ z) r.1,
    )

pub choice_normal : (p q : P) → HasNormalChoices p → HasNormalChoices q → HasNormalChoices (choice_of p q)
unfolding choice_of
choice_normal p q h k =
    let both : List P = members p ++ members q in
    (of_normal (in_order both) (sorted_ordered both) (all_ordered Member both (all-append Member (members p) (members q) (members_normal p h) (members_normal q k)))).0

group_normal : (p q : P) → HasNormalChoices p → HasNormalChoices q → HasNormalChoices (group_of p q)
group_normal simple.not_allowed q h k = tt
group_normal p simple.not_allowed h k = tt
group_normal simple.empty q h k = k
group_normal p simple.empty h k = h
group_normal p q h k = (h, k)

interleave_normal : (p q : P) → HasNormalChoices p → HasNormalChoices q → HasNormalChoices (interleave_of p q)
interleave_normal simple.not_allowed q h k = tt
interleave_normal p simple.not_allowed h k = tt
interleave_normal simple.empty q h k = k
interleave_normal p simple.empty h k = h
interleave_normal p q h k = (h, k)

more_normal : (p : P) → HasNormalChoices p → HasNormalChoices (one_or_more_of p)
more_normal simple.not_allowed h = tt
more_normal simple.empty h = tt
more_normal p h = h

attribute_normal : (c : Class) (p : P) → HasNormalChoices p → HasNormalChoices (attribute_of c p)
attribute_normal c simple.not_allowed h = tt
attribute_normal c p h = h

data_normal : (k : Kind) (p : P) → HasNormalChoices p → HasNormalChoices (data_of k p)
data_normal k simple.not_allowed h = tt
data_normal k p h = h

joined_normal : (j : Connective) (p q : P) → HasNormalChoices p → HasNormalChoices q → HasNormalChoices (connect j p q)
joined_normal Group p q h k = group_normal p q h k
joined_normal Choice p q h k = choice_normal p q h k
joined_normal Interleave p q h k = interleave_normal p q h k

module _ (fs : List SchemaFile) where
  mutual
    pub normal : {s : Scope} {p : Pattern} {q : P} → Means fs s p q → HasNormalChoices q
    normal by.element = tt
    normal (by.attribute {d = d} {q = q} k m e) = subst HasNormalChoices (sym e) (attribute_normal d q (normal m))
    normal (by.group m) = normal_in m
    normal (by.choice m) = normal_in m
    normal (by.interleave m) = normal_in m
    normal (by.optional {q = q} m e) = subst HasNormalChoices (sym e) (choice_normal q simple.empty (normal m) tt)
    normal (by.zero_or_more {q = q} m e) = subst HasNormalChoices (sym e) (choice_normal (one_or_more_of q) simple.empty (more_normal q (normal m)) tt)
    normal (by.one_or_more {q = q} m e) = subst HasNormalChoices (sym e) (more_normal q (normal m))
    normal (by.mixed {q = q} m e) = subst HasNormalChoices (sym e) (interleave_normal q simple.text (normal m) tt)
    normal by.empty = tt
    normal by.any_text = tt
    normal by.not_allowed = tt
    normal by.value = tt
    normal (by.typed_value k) = tt
    normal (by.data_type k) = tt
    normal (by.data_except {k = k} {q = q} l m e) = subst HasNormalChoices (sym e) (data_normal k q (normal m))
    normal (by.grammar m) = normal m
    normal (by.ref m) = normal m
    normal (by.parent m) = normal m

    normal_in : {j : Connective} {s : Scope} {ps : Patterns} {q : P} → Connected fs j s ps q → HasNormalChoices q
    normal_in (by.first m k) = normal_behind k (normal m)

    normal_behind : {j : Connective} {s : Scope} {b : P} {ps : Patterns} {q : P} → Behind fs j s b ps q → HasNormalChoices b → HasNormalChoices q
    normal_behind by.ends h = h
    normal_behind (by.next {j = j} {b = b} {q = q} m k) h = normal_behind k (joined_normal j b q h (normal m))

module _ (K : ℕ → Type 0) (h : ℕ → ℕ) (ascending : (m n : ℕ) → K m → K n → m < n → h m < h n) where
  member_kept : (p : P) → IsMember p → IsMember (renumbered h p)
  member_kept simple.not_allowed m = m
  member_kept (simple.choice p q) m = m
  member_kept p m = tt

  allowed_kept : (p : P) → IsNotNothing p → IsNotNothing (renumbered h p)
  allowed_kept simple.not_allowed m = m
  allowed_kept p m = tt

  members_in : (p : P) → RefsIn K p → AllByRecursion (RefsIn K) (members p)
  members_in simple.not_allowed s = tt
  members_in (simple.choice p q) s = (s.0, members_in q s.1)
  members_in p s = (s, tt)

  above_kept : (a : P) (ps : List P) → RefsIn K a → AllByRecursion (RefsIn K) ps → Above a ps → Above (renumbered h a) (map (renumbered h) ps)
  above_kept a [] s t l = tt
  above_kept a (p ∷ ps) s t l = (sym (order_kept K h ascending a p s t.0) ∙ l.0, above_kept a ps s t.1 l.1)

  sorted_kept : (ps : List P) → AllByRecursion (RefsIn K) ps → Sorted ps → Sorted (map (renumbered h) ps)
  unfolding IsStrictlySortedBy
  sorted_kept [] t s = tt
  sorted_kept (p ∷ ps) t s = (above_kept p ps t.0 t.1 s.0, sorted_kept ps t.1 s.1)

  pub normal_kept : (p : P) → RefsIn K p → HasNormalChoices p → HasNormalChoices (renumbered h p)
  normal_kept (simple.choice p q) s n = (
    subst (λ z. Sorted (renumbered h p ∷ z)) (members-renumbered K h ascending q) (sorted_kept (p ∷ members q) (s.0, members_in q s.1) n.0),
    member_kept p n.1,
    allowed_kept q n.2,
    normal_kept p s.0 n.3,
    normal_kept q s.1 n.4,
  )
  normal_kept (simple.data_except k p) s n = normal_kept p s n
  normal_kept (simple.attribute c p) s n = normal_kept p s n
  normal_kept (simple.one_or_more p) s n = normal_kept p s n
  normal_kept (simple.group p q) s n = (normal_kept p s.0 n.0, normal_kept q s.1 n.1)
  normal_kept (simple.interleave p q) s n = (normal_kept p s.0 n.0, normal_kept q s.1 n.1)
  normal_kept (simple.after p q) s n = (normal_kept p s.0 n.0, normal_kept q s.1 n.1)
  normal_kept p s n = tt

refs_in : (K : ℕ → Type 0) (p : P) → ((n : ℕ) → HasRef n p → K n) → RefsIn K p
refs_in K (simple.ref n) f = f n refl
refs_in K (simple.data_except k p) f = refs_in K p (λ n h. f n (inr h))
refs_in K (simple.attribute c p) f = refs_in K p (λ n h. f n (inr h))
refs_in K (simple.one_or_more p) f = refs_in K p (λ n h. f n (inr h))
refs_in K (simple.choice p q) f = (refs_in K p (λ n h. f n (inl h)), refs_in K q (λ n h. f n (inr h)))
refs_in K (simple.group p q) f = (refs_in K p (λ n h. f n (inr (inl h))), refs_in K q (λ n h. f n (inr (inr h))))
refs_in K (simple.interleave p q) f = (refs_in K p (λ n h. f n (inr (inl h))), refs_in K q (λ n h. f n (inr (inr h))))
refs_in K (simple.after p q) f = (refs_in K p (λ n h. f n (inr (inl h))), refs_in K q (λ n h. f n (inr (inr h))))
refs_in K p f = tt

module _ (f : Full) (g : Schema) (form : IsFormOf f g) where
  form_normal : (s : Scope) (p : Pattern) (q : P) (w : IsForm f form.kept s p q) → ((n : ℕ) → HasRef n w.0 → IsReached f n) → HasNormalChoices q
  form_normal s p q w r =
      subst HasNormalChoices (sym w.2)
      (normal_kept (Contains form.kept) (new_number form.kept) (ascends form.kept) w.0 (refs_in (Contains form.kept) w.0 (λ n h. (form.each n).1 (r n h))) (normal f.files w.1))

  pub start_normal : HasNormalChoices g.start
  start_normal = form_normal [] (tree f) g.start form.start (λ n h. from_start form.start.1 h)

  pub content_normal : (d : ℕ) (e : Definition) → Defines g d e → HasNormalChoices e.content
  content_normal d e k =
      let t = definition_at f form.kept form.kept g.elements d e form.elements k in
      let w = t.2.content in
      form_normal t.2.token.scope t.2.token.content e.content w (λ n h. from_content ((form.each t.0).0 (contained t.0 form.kept t.1)) t.2.is w.1 h)
