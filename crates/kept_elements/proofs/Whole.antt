-- Each simple form is what the constructors make of its parts.
use Rattle.std.proofs.Common.{◌≡◌, inl, inr, List, [], ◌∷◌, ◌++◌, refl, sym, ◌∙◌, ap, subst}
use Rattle.std.specs.List.{AllByRecursion}
use Rattle.std.specs.Prelude.{⊤}
use Rattle.std.specs.List.Sorted.{IsStrictlySortedBy}
use Rattle.std.specs.Ordering.{match_ordering}
use Rattle.std.specs.declared.cmp.Ordering.TheVariants.{Less}
use Rattle.rng_model.specs.Kinds.{Kind}
use Rattle.rng_model.specs.Classes.{Class}
use Rattle.rng_model.specs.Patterns as simple
use Rattle.rng_model.specs.Patterns.{pattern_cmp}
use Rattle.rng_model.specs.Constructors.{members, of_members, with_member, ascending, choice_of, group_of, interleave_of, one_or_more_of, attribute_of, data_of}
use Rattle.derivative_laws.proofs.ChoiceLaw.{IsAll_of, choice_of-all, member_alone}
use Rattle.grammar_laws.specs.Trees.{Pattern, Patterns}
use Rattle.grammar_laws.specs.Files.{SchemaFile}
use Rattle.simple_form_laws.specs.Parts.{Scope}
use Rattle.simple_form_laws.specs.Meaning.{Means, Connected, Behind, Connective, Group, Choice, Interleave, connect}
use Rattle.simple_form_laws.specs.Meaning as by
use Rattle.simple_form_laws.specs.Normal.{IsNotNothing, HasNormalChoices}
use Rattle.simple_form_laws.proofs.Normality.{normal}
use Rattle.kept_elements.specs.Wanted.{IsPartOf, IsWhole}

-- the same, choices apart
abbrev IsFirm : simple.Pattern → Type 0
IsFirm (simple.data_except k e) = IsFirm e × (data_of k e ≡ simple.data_except k e)
IsFirm (simple.attribute c p) = IsFirm p × (attribute_of c p ≡ simple.attribute c p)
IsFirm (simple.one_or_more p) = IsFirm p × (one_or_more_of p ≡ simple.one_or_more p)
IsFirm (simple.choice p q) = IsFirm p × IsFirm q
IsFirm (simple.group p q) = IsFirm p × IsFirm q × (group_of p q ≡ simple.group p q)
IsFirm (simple.interleave p q) = IsFirm p × IsFirm q × (interleave_of p q ≡ simple.interleave p q)
IsFirm (simple.after p q) = ⊥
IsFirm p = ⊤

firm_all : IsAll_of IsFirm
firm_all = record { always = tt; first = λ p q h. h.0; second = λ p q h. h.1; from = λ p q h k. (h, k) }

firm_group : (p q : simple.Pattern) → IsFirm p → IsFirm q → IsFirm (group_of p q)
firm_group simple.not_allowed q h k = tt
firm_group p simple.not_allowed h k = tt
firm_group simple.empty q h k = k
firm_group p simple.empty h k = h
firm_group p q h k = (h, k, refl)

firm_interleave : (p q : simple.Pattern) → IsFirm p → IsFirm q → IsFirm (interleave_of p q)
firm_interleave simple.not_allowed q h k = tt
firm_interleave p simple.not_allowed h k = tt
firm_interleave simple.empty q h k = k
firm_interleave p simple.empty h k = h
firm_interleave p q h k = (h, k, refl)

firm_more : (p : simple.Pattern) → IsFirm p → IsFirm (one_or_more_of p)
firm_more simple.not_allowed h = tt
firm_more simple.empty h = tt
firm_more p h = (h, refl)

firm_attribute : (c : Class) (p : simple.Pattern) → IsFirm p → IsFirm (attribute_of c p)
firm_attribute c simple.not_allowed h = tt
firm_attribute c p h = (h, refl)

firm_data : (k : Kind) (p : simple.Pattern) → IsFirm p → IsFirm (data_of k p)
firm_data k simple.not_allowed h = tt
firm_data k p h = (h, refl)

firm_joined : (j : Connective) (p q : simple.Pattern) → IsFirm p → IsFirm q → IsFirm (connect j p q)
firm_joined Group p q h k = firm_group p q h k
firm_joined Choice p q h k = choice_of-all IsFirm firm_all p q h k
firm_joined Interleave p q h k = firm_interleave p q h k

module _ (fs : List SchemaFile) where
  mutual
    firm : {s : Scope} {p : Pattern} {q : simple.Pattern} → Means fs s p q → IsFirm q
    firm by.element = tt
    firm (by.attribute {d = d} {q = q} k m e) = subst IsFirm (sym e) (firm_attribute d q (firm m))
    firm (by.group m) = firm_in m
    firm (by.choice m) = firm_in m
    firm (by.interleave m) = firm_in m
    firm (by.optional {q = q} m e) = subst IsFirm (sym e) (choice_of-all IsFirm firm_all q simple.empty (firm m) tt)
    firm (by.zero_or_more {q = q} m e) =
        subst IsFirm (sym e) (choice_of-all IsFirm firm_all (one_or_more_of q) simple.empty (firm_more q (firm m)) tt)
    firm (by.one_or_more {q = q} m e) = subst IsFirm (sym e) (firm_more q (firm m))
    firm (by.mixed {q = q} m e) = subst IsFirm (sym e) (firm_interleave q simple.text (firm m) tt)
    firm by.empty = tt
    firm by.any_text = tt
    firm by.not_allowed = tt
    firm by.value = tt
    firm (by.typed_value k) = tt
    firm (by.data_type k) = tt
    firm (by.data_except {k = k} {q = q} l m e) = subst IsFirm (sym e) (firm_data k q (firm m))
    firm (by.grammar m) = firm m
    firm (by.ref m) = firm m
    firm (by.parent m) = firm m

    firm_in : {j : Connective} {s : Scope} {ps : Patterns} {q : simple.Pattern} → Connected fs j s ps q → IsFirm q
    firm_in (by.first m k) = firm_behind k (firm m)

    firm_behind : {j : Connective} {s : Scope} {b : simple.Pattern} {ps : Patterns} {q : simple.Pattern} → Behind fs j s b ps q → IsFirm b → IsFirm q
    firm_behind by.ends h = h
    firm_behind (by.next {j = j} {b = b} {q = q} m k) h = firm_behind k (firm_joined j b q h (firm m))

-- a choice whose list ascends is made of its first member and the others
front : (p : simple.Pattern) (qs : List simple.Pattern) → AllByRecursion (λ y. pattern_cmp p y ≡ Less) qs → with_member p qs ≡ p ∷ qs
front p [] a = refl
front p (q ∷ qs) a = ap (λ o. match_ordering o (p ∷ q ∷ qs) (q ∷ qs) (q ∷ with_member p qs)) a.0

in_order : (ps : List simple.Pattern) → IsStrictlySortedBy pattern_cmp ps → ascending ps ≡ ps
unfolding IsStrictlySortedBy
in_order [] s = refl
in_order (p ∷ ps) s = ap (with_member p) (in_order ps s.1) ∙ front p ps s.0

one_more : (p q : simple.Pattern) → IsNotNothing q → of_members (p ∷ members q) ≡ simple.choice p (of_members (members q))
one_more p simple.not_allowed n = absurd n
one_more p (simple.choice q r) n = refl
one_more p q n = refl

listed : (q : simple.Pattern) → HasNormalChoices q → of_members (members q) ≡ q
listed simple.not_allowed h = refl
listed (simple.choice p q) h = one_more p q h.2 ∙ ap (simple.choice p) (listed q h.4)
listed q h = refl

made_of : (p q : simple.Pattern) → HasNormalChoices (simple.choice p q) → choice_of p q ≡ simple.choice p q
unfolding choice_of
made_of p q h =
    ap (λ ms. of_members (ascending (ms ++ members q))) (member_alone p h.1)
    ∙ ap of_members (in_order (p ∷ members q) h.0) ∙ one_more p q h.2 ∙ ap (simple.choice p) (listed q h.4)

whole_of : (q : simple.Pattern) → IsFirm q → HasNormalChoices q → IsWhole q
whole_of (simple.data_except k e) f h = (whole_of e f.0 h, f.1)
whole_of (simple.attribute c p) f h = (whole_of p f.0 h, f.1)
whole_of (simple.one_or_more p) f h = (whole_of p f.0 h, f.1)
whole_of (simple.choice p q) f h = (whole_of p f.0 h.3, whole_of q f.1 h.4, made_of p q h)
whole_of (simple.group p q) f h = (whole_of p f.0 h.0, whole_of q f.1 h.1, f.2)
whole_of (simple.interleave p q) f h = (whole_of p f.0 h.0, whole_of q f.1 h.1, f.2)
whole_of (simple.after p q) f h = absurd f
whole_of q f h = tt

pub whole_form : (fs : List SchemaFile) (s : Scope) (p : Pattern) (q : simple.Pattern) → Means fs s p q → IsWhole q
whole_form fs s p q m = whole_of q (firm fs m) (normal fs m)

pub whole_part : (p q : simple.Pattern) → IsWhole q → IsPartOf p q → IsWhole p
whole_part p (simple.data_except k e) w h = subst IsWhole (sym h) w.0
whole_part p (simple.attribute c e) w h = subst IsWhole (sym h) w.0
whole_part p (simple.one_or_more e) w h = subst IsWhole (sym h) w.0
whole_part p (simple.choice a b) w (inl h) = subst IsWhole (sym h) w.0
whole_part p (simple.choice a b) w (inr h) = subst IsWhole (sym h) w.1
whole_part p (simple.group a b) w (inl h) = subst IsWhole (sym h) w.0
whole_part p (simple.group a b) w (inr h) = subst IsWhole (sym h) w.1
whole_part p (simple.interleave a b) w (inl h) = subst IsWhole (sym h) w.0
whole_part p (simple.interleave a b) w (inr h) = subst IsWhole (sym h) w.1
whole_part p (simple.after a b) w h = absurd w
whole_part p q w h = absurd h
