-- Where fewer names and literals stand in a schema than there are numbers of 64 digits, each name and text has a representative.
use Rattle.std.proofs.Common.{◌≡◌, ℕ, zero, suc, ◌*◌, ◌<◌, ◌^◌, ◌⊎◌, inl, inr, List, [], ◌∷◌, ◌++◌, refl, sym, ◌∙◌, ap, map, length, arith, codes, subst, IsTrue, Contains, Some, slice_get}
use Rattle.std.specs.Str.{bytes_eq}
use Rattle.std.proofs.lemmas.List.{length-map}
use Rattle.rng_model.specs.Texts.{Text, normal}
use Rattle.rng_model.specs.Kinds.{Kind, Str, Token}
use Rattle.rng_model.specs.Names.{Name, same_name}
use Rattle.rng_model.specs.Classes.{Class}
use Rattle.rng_model.specs.Atoms.{TextStandsFor, Literals, IsSpacedForm, IsStringLiteral, IsTokenForm, IsTaken, spaced}
use Rattle.rng_model.specs.Fresh.{IsFirstFree, numbered}
use Rattle.rng_model.specs.Patterns.{Pattern, Schema, Definition, not_allowed, empty, text, ref, value, data_type, data_except, attribute, one_or_more, choice, group, interleave, after}
use Rattle.rng_model.specs.Inside.{Within, IsAttributeOf}
use Rattle.rng_model.specs.Universe.{NameStandsFor, IsElementClass, IsAttributeClass, IsMentioned, IsMentionedSpace}
use Rattle.universe_laws.specs.Mentioned.{classes_in, element_classes, content_classes, attribute_classes, names_of, spaces_of, IsSmall}
use Rattle.universe_laws.specs.Overlaps.{names_in, spaces_in}
use Rattle.universe_laws.specs.Representatives.{HasRepresentatives}
use Rattle.universe_laws.proofs.Tests.{Which, which, yes, no, same_text, one_name, IsOneOf, one_left, one_right, one_side}
use Rattle.universe_laws.proofs.Fresh.{local_of}
use Rattle.universe_laws.proofs.OverlapLaw.{Stands, decide, stands, apart, refuse_name, refuse_text, names_in-to, names_in-from, spaces_in-to, spaces_in-from}
use Rattle.universe_laws.proofs.FirstFree.{first_free, numbered-differ, spaced-differ}

-- the lists of classes are those of the schema
element_to : (c : Class) (es : List Definition) (d : ℕ) (e : Definition) → slice_get es d ≡ Some e → c ≡ e.class → IsOneOf Class c (element_classes es)
element_to c [] d e is h = absurd (cc)
element_to c (x ∷ es) zero e is h = let f : x ≡ e = cc in inl (h ∙ sym (λ i. (f i).class))
element_to c (x ∷ es) (suc d) e is h = inr (element_to c es d e is h)

record Defined (P : Definition → Type 0) (es : List Definition) : Type 0 where
  place : ℕ
  definition : Definition
  stands : slice_get es place ≡ Some definition
  holds : P definition

element_from : (c : Class) (es : List Definition) → IsOneOf Class c (element_classes es) → Defined (λ e. c ≡ e.class) es
element_from c [] h = absurd h
element_from c (x ∷ es) (inl e) = record { place = 0; definition = x; stands = refl; holds = e }
element_from c (x ∷ es) (inr h) = let t = element_from c es h in record { place = suc t.place; definition = t.definition; stands = t.stands; holds = t.holds }

either_side : (c : Class) (xs ys : List Class) → IsOneOf Class c xs ⊎ IsOneOf Class c ys → IsOneOf Class c (xs ++ ys)
either_side c xs ys (inl h) = one_left Class c xs ys h
either_side c xs ys (inr h) = one_right Class c xs ys h

classes_to : (c : Class) (p : Pattern) → Within (IsAttributeOf c) p → IsOneOf Class c (classes_in p)
classes_to c not_allowed (q, e) = absurd (cc)
classes_to c empty (q, e) = absurd (cc)
classes_to c text (q, e) = absurd (cc)
classes_to c (ref d) (q, e) = absurd (cc)
classes_to c (value k t) (q, e) = absurd (cc)
classes_to c (data_type k) (q, e) = absurd (cc)
classes_to c (data_except k p) (inl (q, e)) = absurd (cc)
classes_to c (data_except k p) (inr h) = classes_to c p h
classes_to c (attribute d p) (inl (q, e)) = inl (cc)
classes_to c (attribute d p) (inr h) = inr (classes_to c p h)
classes_to c (one_or_more p) (inl (q, e)) = absurd (cc)
classes_to c (one_or_more p) (inr h) = classes_to c p h
classes_to c (choice p q) (inl h) = one_left Class c (classes_in p) (classes_in q) (classes_to c p h)
classes_to c (choice p q) (inr h) = one_right Class c (classes_in p) (classes_in q) (classes_to c q h)
classes_to c (group p q) (inl (r, e)) = absurd (cc)
classes_to c (group p q) (inr (inl h)) = one_left Class c (classes_in p) (classes_in q) (classes_to c p h)
classes_to c (group p q) (inr (inr h)) = one_right Class c (classes_in p) (classes_in q) (classes_to c q h)
classes_to c (interleave p q) (inl (r, e)) = absurd (cc)
classes_to c (interleave p q) (inr (inl h)) = one_left Class c (classes_in p) (classes_in q) (classes_to c p h)
classes_to c (interleave p q) (inr (inr h)) = one_right Class c (classes_in p) (classes_in q) (classes_to c q h)
classes_to c (after p q) (inl (r, e)) = absurd (cc)
classes_to c (after p q) (inr (inl h)) = one_left Class c (classes_in p) (classes_in q) (classes_to c p h)
classes_to c (after p q) (inr (inr h)) = one_right Class c (classes_in p) (classes_in q) (classes_to c q h)

classes_from : (c : Class) (p : Pattern) → IsOneOf Class c (classes_in p) → Within (IsAttributeOf c) p
classes_from c not_allowed h = absurd h
classes_from c empty h = absurd h
classes_from c text h = absurd h
classes_from c (ref d) h = absurd h
classes_from c (value k t) h = absurd h
classes_from c (data_type k) h = absurd h
classes_from c (data_except k p) h = inr (classes_from c p h)
classes_from c (attribute d p) (inl e) = inl (p, ap (λ x. attribute x p) (sym e))
classes_from c (attribute d p) (inr h) = inr (classes_from c p h)
classes_from c (one_or_more p) h = inr (classes_from c p h)
classes_from c (choice p q) h =
    elim (one_side Class c (classes_in p) (classes_in q) h) [ inl k ↦ inl (classes_from c p k) | inr k ↦ inr (classes_from c q k) ]
classes_from c (group p q) h =
    elim (one_side Class c (classes_in p) (classes_in q) h) [ inl k ↦ inr (inl (classes_from c p k)) | inr k ↦ inr (inr (classes_from c q k)) ]
classes_from c (interleave p q) h =
    elim (one_side Class c (classes_in p) (classes_in q) h) [ inl k ↦ inr (inl (classes_from c p k)) | inr k ↦ inr (inr (classes_from c q k)) ]
classes_from c (after p q) h =
    elim (one_side Class c (classes_in p) (classes_in q) h) [ inl k ↦ inr (inl (classes_from c p k)) | inr k ↦ inr (inr (classes_from c q k)) ]

content_to : (c : Class) (es : List Definition) (d : ℕ) (e : Definition) → slice_get es d ≡ Some e → Within (IsAttributeOf c) e.content → IsOneOf Class c (content_classes es)
content_to c [] d e is h = absurd (cc)
content_to c (x ∷ es) zero e is h =
    let f : x ≡ e = cc in
    one_left Class c (classes_in x.content) (content_classes es) (classes_to c x.content (subst (λ y. Within (IsAttributeOf c) y.content) (sym f) h))
content_to c (x ∷ es) (suc d) e is h = one_right Class c (classes_in x.content) (content_classes es) (content_to c es d e is h)

content_from : (c : Class) (es : List Definition) → IsOneOf Class c (content_classes es) → Defined (λ e. Within (IsAttributeOf c) e.content) es
content_from c [] h = absurd h
content_from c (x ∷ es) h = go (content_from c es) (one_side Class c (classes_in x.content) (content_classes es) h)
  where
    go : (IsOneOf Class c (content_classes es) → Defined (λ e. Within (IsAttributeOf c) e.content) es) →
        IsOneOf Class c (classes_in x.content) ⊎ IsOneOf Class c (content_classes es) → Defined (λ e. Within (IsAttributeOf c) e.content) (x ∷ es)
    go f (inl k) = record { place = 0; definition = x; stands = refl; holds = classes_from c x.content k }
    go f (inr k) = let t = f k in record { place = suc t.place; definition = t.definition; stands = t.stands; holds = t.holds }

-- the classes that C holds of are those of a list
record IsListOf (C : Class → Type 0) (cs : List Class) : Type 0 where
  to : (c : Class) → C c → IsOneOf Class c cs
  from : (c : Class) → IsOneOf Class c cs → C c

elements_listed : (g : Schema) → IsListOf (IsElementClass g) (element_classes g.elements)
elements_listed g = record {
  to = λ c h. element_to c g.elements h.0 h.1 h.2 h.3;
  from = λ c h. let t = element_from c g.elements h in (t.place, t.definition, t.stands, t.holds);
}

attributes_listed : (g : Schema) → IsListOf (IsAttributeClass g) (attribute_classes g)
attributes_listed g = record { to = to; from = λ c h. from c (one_side Class c (classes_in g.start) (content_classes g.elements) h) }
  where
    to : (c : Class) → IsAttributeClass g c → IsOneOf Class c (attribute_classes g)
    to c (inl h) = one_left Class c (classes_in g.start) (content_classes g.elements) (classes_to c g.start h)
    to c (inr (d, e, is, h)) = one_right Class c (classes_in g.start) (content_classes g.elements) (content_to c g.elements d e is h)

    from : (c : Class) → IsOneOf Class c (classes_in g.start) ⊎ IsOneOf Class c (content_classes g.elements) → IsAttributeClass g c
    from c (inl h) = inl (classes_from c g.start h)
    from c (inr h) = let t = content_from c g.elements h in inr (t.place, t.definition, t.stands, t.holds)

-- the names and namespaces of a list of classes
names_to : (n : Name) (c : Class) (cs : List Class) → IsOneOf Class c cs → IsOneOf Name n (names_in c) → IsOneOf Name n (names_of cs)
names_to n c [] h k = absurd h
names_to n c (d ∷ cs) (inl e) k = one_left Name n (names_in d) (names_of cs) (subst (λ x. IsOneOf Name n (names_in x)) e k)
names_to n c (d ∷ cs) (inr h) k = one_right Name n (names_in d) (names_of cs) (names_to n c cs h k)

record InSome (K : Type 0) (z : K) (f : Class → List K) (cs : List Class) : Type 0 where
  class : Class
  stands : IsOneOf Class class cs
  holds : IsOneOf K z (f class)

in_first : {K : Type 0} {z : K} {f : Class → List K} (d : Class) (cs : List Class) → IsOneOf K z (f d) → InSome K z f (d ∷ cs)
in_first d cs h = record { class = d; stands = inl refl; holds = h }

in_later : {K : Type 0} {z : K} {f : Class → List K} (d : Class) (cs : List Class) → InSome K z f cs → InSome K z f (d ∷ cs)
in_later d cs t = record { class = t.class; stands = inr t.stands; holds = t.holds }

names_from : (n : Name) (cs : List Class) → IsOneOf Name n (names_of cs) → InSome Name n names_in cs
names_from n [] h = absurd h
names_from n (d ∷ cs) h =
    elim (one_side Name n (names_in d) (names_of cs) h) [ inl k ↦ in_first d cs k | inr k ↦ in_later d cs (names_from n cs k) ]

spaces_to : (u : Text) (c : Class) (cs : List Class) → IsOneOf Class c cs → IsOneOf Text u (spaces_in c) → IsOneOf Text u (spaces_of cs)
spaces_to u c [] h k = absurd h
spaces_to u c (d ∷ cs) (inl e) k = one_left Text u (spaces_in d) (spaces_of cs) (subst (λ x. IsOneOf Text u (spaces_in x)) e k)
spaces_to u c (d ∷ cs) (inr h) k = one_right Text u (spaces_in d) (spaces_of cs) (spaces_to u c cs h k)

spaces_from : (u : Text) (cs : List Class) → IsOneOf Text u (spaces_of cs) → InSome Text u spaces_in cs
spaces_from u [] h = absurd h
spaces_from u (d ∷ cs) h =
    elim (one_side Text u (spaces_in d) (spaces_of cs) h) [ inl k ↦ in_first d cs k | inr k ↦ in_later d cs (spaces_from u cs k) ]

one_or_none : (P : Type 0) (z : Text) (xs : List Text) → (IsOneOf Text z xs → P) → (P → IsOneOf Text z xs) → P ⊎ (P → ⊥)
one_or_none P z xs f h = go (decide Text bytes_eq same_text refuse_text z xs)
  where
    go : Stands Text z xs → P ⊎ (P → ⊥)
    go (stands i) = inl (f i)
    go (apart i) = inr (λ p. i (h p))

-- the first that is free of finitely many
first_numbered : (taken : Text → Type 0) (all : List Text) → length all < 10 ^ 64 → ((x : Text) → taken x ⊎ (taken x → ⊥)) → ((x : Text) → taken x → IsOneOf Text x all) → (stem : Text) → (x : Text) × IsFirstFree taken stem x
first_numbered taken all small decides covers stem =
    let t = first_free taken decides (numbered stem) (10 ^ 64) (numbered-differ stem) all small covers in
    (numbered stem t.number, record { number = t.number; is = refl; free = t.free; first = t.first })

module _ (C : Class → Type 0) (cs : List Class) (listed : IsListOf C cs) where
  mentioned_to : (n : Name) → IsMentioned C n → IsOneOf Name n (names_of cs)
  mentioned_to n (c, h, k) = names_to n c cs (listed.to c h) (names_in-to c n k)

  mentioned_from : (n : Name) → IsOneOf Name n (names_of cs) → IsMentioned C n
  mentioned_from n h = let t = names_from n cs h in (t.class, listed.from t.class t.stands, names_in-from t.class n t.holds)

  space_to : (u : Text) → IsMentionedSpace C u → IsOneOf Text u (spaces_of cs)
  space_to u (c, h, k) = spaces_to u c cs (listed.to c h) (spaces_in-to c u k)

  space_from : (u : Text) → IsOneOf Text u (spaces_of cs) → IsMentionedSpace C u
  space_from u h = let t = spaces_from u cs h in (t.class, listed.from t.class t.stands, spaces_in-from t.class u t.holds)

  is_mentioned : (n : Name) → IsMentioned C n ⊎ (IsMentioned C n → ⊥)
  is_mentioned n = go (decide Name same_name one_name refuse_name n (names_of cs))
    where
      go : Stands Name n (names_of cs) → IsMentioned C n ⊎ (IsMentioned C n → ⊥)
      go (stands h) = inl (mentioned_from n h)
      go (apart f) = inr (λ h. f (mentioned_to n h))

  is_space : (u : Text) → IsMentionedSpace C u ⊎ (IsMentionedSpace C u → ⊥)
  is_space u = one_or_none (IsMentionedSpace C u) u (spaces_of cs) (space_from u) (space_to u)

  module _ (few_names : length (names_of cs) < 10 ^ 64) (few_spaces : length (spaces_of cs) < 10 ^ 64) where
    abbrev locals : List Text
    locals = map (λ n. n.local) (names_of cs)

    few_locals : length locals < 10 ^ 64
    few_locals = rw (length-map (names_of cs) (λ n. n.local)) few_names

    fresh : (u : Text) → (x : Text) × IsFirstFree (λ l. IsMentioned C (record { ns = u; local = l })) (codes "x") x
    fresh u =
        first_numbered (λ l. IsMentioned C (record { ns = u; local = l })) locals few_locals
        (λ x. is_mentioned (record { ns = u; local = x }))
        (λ x h. local_of (record { ns = u; local = x }) (names_of cs) (mentioned_to (record { ns = u; local = x }) h))
        (codes "x")

    fresh_space : (x : Text) × IsFirstFree (IsMentionedSpace C) (codes "urn:x") x
    fresh_space = first_numbered (IsMentionedSpace C) (spaces_of cs) few_spaces is_space space_to (codes "urn:x")

    name_representative : (n : Name) → (m : Name) × NameStandsFor C n m
    name_representative n = go (is_mentioned n) (is_space n.ns)
      where
        go : IsMentioned C n ⊎ (IsMentioned C n → ⊥) → IsMentionedSpace C n.ns ⊎ (IsMentionedSpace C n.ns → ⊥) → (m : Name) × NameStandsFor C n m
        go (inl h) s = (n, inl (h, refl))
        go (inr f) (inl s) = let t = fresh n.ns in (record { ns = n.ns; local = t.0 }, inr (inl (f, s, refl, t.1)))
        go (inr f) (inr s) = let t = fresh_space in (record { ns = t.0; local = codes "x" }, inr (inr (s, t.1, refl)))

-- the texts of literals
abbrev string_texts : List (Kind × Text) → List Text
string_texts [] = []
string_texts ((Str, t) ∷ ls) = t ∷ string_texts ls
string_texts (_ ∷ ls) = string_texts ls

abbrev token_forms : List (Kind × Text) → List Text
token_forms [] = []
token_forms ((Token, t) ∷ ls) = normal t ∷ token_forms ls
token_forms (_ ∷ ls) = token_forms ls

abbrev taken_texts : List (Kind × Text) → List Text
taken_texts [] = []
taken_texts (x ∷ ls) = x.1 ∷ normal x.1 ∷ taken_texts ls

abbrev IsIn : Kind × Text → List (Kind × Text) → Type 0
IsIn = IsOneOf (Kind × Text)

in_from : (z : Kind × Text) (xs : List (Kind × Text)) → Contains xs z → IsIn z xs
in_from z [] (k, l, e) = absurd (omega arith)
in_from z (x ∷ xs) (zero, l, e) = inl (sym e)
in_from z (x ∷ xs) (suc k, l, e) = inr (in_from z xs (k, omega arith, e))

in_to : (z : Kind × Text) (xs : List (Kind × Text)) → IsIn z xs → Contains xs z
in_to z [] h = absurd h
in_to z (x ∷ xs) (inl e) = (zero, omega arith, sym e)
in_to z (x ∷ xs) (inr h) = let t = in_to z xs h in (suc t.0, (let l = t.1 in omega arith), t.2)

string_to : (t : Text) (ls : List (Kind × Text)) → IsIn (Str, t) ls → IsOneOf Text t (string_texts ls)
string_to t [] h = absurd h
string_to t ((Str, u) ∷ ls) (inl e) = inl (λ i. (e i).1)
string_to t ((Str, u) ∷ ls) (inr h) = inr (string_to t ls h)
string_to t ((k, u) ∷ ls) (inl e) = absurd (let f : Str ≡ k = λ i. (e i).0 in cc)
string_to t ((k, u) ∷ ls) (inr h) = string_to t ls h

string_from : (t : Text) (ls : List (Kind × Text)) → IsOneOf Text t (string_texts ls) → IsIn (Str, t) ls
string_from t [] h = absurd h
string_from t ((Str, u) ∷ ls) (inl e) = inl (λ i. (Str, e i))
string_from t ((Str, u) ∷ ls) (inr h) = inr (string_from t ls h)
string_from t ((k, u) ∷ ls) h = inr (string_from t ls h)

form_to : (n t : Text) (ls : List (Kind × Text)) → n ≡ normal t → IsIn (Token, t) ls → IsOneOf Text n (token_forms ls)
form_to n t [] f h = absurd h
form_to n t ((Token, u) ∷ ls) f (inl e) = inl (f ∙ ap normal (λ i. (e i).1))
form_to n t ((Token, u) ∷ ls) f (inr h) = inr (form_to n t ls f h)
form_to n t ((k, u) ∷ ls) f (inl e) = absurd (let f : Token ≡ k = λ i. (e i).0 in cc)
form_to n t ((k, u) ∷ ls) f (inr h) = form_to n t ls f h

record HasForm (n : Text) (ls : List (Kind × Text)) : Type 0 where
  literal : Text
  stands : IsIn (Token, literal) ls
  form : n ≡ normal literal

form_from : (n : Text) (ls : List (Kind × Text)) → IsOneOf Text n (token_forms ls) → HasForm n ls
form_from n [] h = absurd h
form_from n ((Token, u) ∷ ls) (inl e) = record { literal = u; stands = inl refl; form = e }
form_from n ((Token, u) ∷ ls) (inr h) = let t = form_from n ls h in record { literal = t.literal; stands = inr t.stands; form = t.form }
form_from n ((k, u) ∷ ls) h = let t = form_from n ls h in record { literal = t.literal; stands = inr t.stands; form = t.form }

taken_to : (x : Text) (k : Kind) (t : Text) (ls : List (Kind × Text)) → IsIn (k, t) ls → (x ≡ t) ⊎ (x ≡ normal t) → IsOneOf Text x (taken_texts ls)
taken_to x k t [] h f = absurd h
taken_to x k t (y ∷ ls) (inl e) (inl f) = inl (f ∙ (λ i. (e i).1))
taken_to x k t (y ∷ ls) (inl e) (inr f) = inr (inl (f ∙ ap normal (λ i. (e i).1)))
taken_to x k t (y ∷ ls) (inr h) f = inr (inr (taken_to x k t ls h f))

record HasTaken (x : Text) (ls : List (Kind × Text)) : Type 0 where
  literal : Kind × Text
  stands : IsIn literal ls
  is : (x ≡ literal.1) ⊎ (x ≡ normal literal.1)

taken_from : (x : Text) (ls : List (Kind × Text)) → IsOneOf Text x (taken_texts ls) → HasTaken x ls
taken_from x [] h = absurd h
taken_from x (y ∷ ls) (inl e) = record { literal = y; stands = inl refl; is = inl e }
taken_from x (y ∷ ls) (inr (inl e)) = record { literal = y; stands = inl refl; is = inr e }
taken_from x (y ∷ ls) (inr (inr h)) = let t = taken_from x ls h in record { literal = t.literal; stands = inr t.stands; is = t.is }

taken-length : (ls : List (Kind × Text)) → length (taken_texts ls) ≡ 2 * length ls
taken-length [] = refl
taken-length (x ∷ ls) = let h = taken-length ls in omega arith

module _ (l : Literals) (few : 2 * length l.members < 10 ^ 64) where
  literal_to : (x : Text) → IsStringLiteral l x → IsOneOf Text x (string_texts l.members)
  literal_to x h = string_to x l.members (in_from (Str, x) l.members h)

  is_literal : (x : Text) → IsStringLiteral l x ⊎ (IsStringLiteral l x → ⊥)
  is_literal x = one_or_none (IsStringLiteral l x) x (string_texts l.members) (λ h. in_to (Str, x) l.members (string_from x l.members h)) (literal_to x)

  listed_form : (n : Text) → IsOneOf Text n (token_forms l.members) → IsTokenForm l n
  listed_form n h = let t = form_from n l.members h in inl (t.literal, in_to (Token, t.literal) l.members t.stands, t.form)

  is_form : (n : Text) → IsTokenForm l n ⊎ (IsTokenForm l n → ⊥)
  is_form n = go (decide Text bytes_eq same_text refuse_text n (token_forms l.members)) (which l.has_empty) (decide Text bytes_eq same_text refuse_text n ([] ∷ []))
    where
      refuse : (IsOneOf Text n (token_forms l.members) → ⊥) → (IsTrue l.has_empty → n ≡ [] → ⊥) → IsTokenForm l n → ⊥
      refuse f h (inl (t, c, e)) = f (form_to n t l.members e (in_from (Token, t) l.members c))
      refuse f h (inr (e, z)) = h e z

      go : Stands Text n (token_forms l.members) → Which l.has_empty → Stands Text n ([] ∷ []) → IsTokenForm l n ⊎ (IsTokenForm l n → ⊥)
      go (stands h) w s = inl (listed_form n h)
      go (apart f) (no e) s = inr (refuse f (λ h z. absurd (cc)))
      go (apart f) (yes e) (stands (inl z)) = inl (inr (e, z))
      go (apart f) (yes e) (stands (inr z)) = absurd z
      go (apart f) (yes e) (apart h) = inr (refuse f (λ i z. h (inl z)))

  covered : (x : Text) → IsTaken l x → IsOneOf Text x (taken_texts l.members)
  covered x (k, t, c, f) = taken_to x k t l.members (in_from (k, t) l.members c) f

  uncovered : (x : Text) → IsOneOf Text x (taken_texts l.members) → IsTaken l x
  uncovered x h = let t = taken_from x l.members h in (t.literal.0, t.literal.1, in_to t.literal l.members t.stands, t.is)

  fresh_text : (x : Text) × IsFirstFree (IsTaken l) (codes "t") x
  fresh_text =
      first_numbered (IsTaken l) (taken_texts l.members) (rw (taken-length l.members) few)
      (λ x. one_or_none (IsTaken l x) x (taken_texts l.members) (uncovered x) (covered x)) covered (codes "t")

  spaced_form : (n : Text) → (x : Text) × IsSpacedForm l n x
  spaced_form n =
      let t = first_free (IsStringLiteral l) is_literal (spaced n) (suc (length (string_texts l.members))) (λ j k a b e. spaced-differ n j k e)
      (string_texts l.members) (omega arith) literal_to in
      (spaced n t.number, record { spaces = t.number; is = refl; free = t.free; first = t.first })

  text_representative : (s : Text) → (t : Text) × TextStandsFor l s t
  text_representative s = go (is_literal s) (is_form (normal s))
    where
      go : IsStringLiteral l s ⊎ (IsStringLiteral l s → ⊥) → IsTokenForm l (normal s) ⊎ (IsTokenForm l (normal s) → ⊥) → (t : Text) × TextStandsFor l s t
      go (inl h) f = (s, inl (h, refl))
      go (inr h) (inl f) = let t = spaced_form (normal s) in (t.0, inr (inl (h, f, t.1)))
      go (inr h) (inr f) = let t = fresh_text in (t.0, inr (inr (h, f, t.1)))

pub has_representatives : (g : Schema) (l : Literals) → IsSmall g l → HasRepresentatives g l
has_representatives g l small = record {
  elements = name_representative (IsElementClass g) (element_classes g.elements) (elements_listed g) small.element_names small.element_spaces;
  attributes = name_representative (IsAttributeClass g) (attribute_classes g) (attributes_listed g) small.attribute_names small.attribute_spaces;
  texts = text_representative l small.literals;
}
