-- Name classes are read in one way.
use Rattle.std.proofs.Common.{◌≡◌, ℕ, zero-le, le_refl, ◌≤◌, ◌⊎◌, inl, inr, List, [], ◌∷◌, refl, sym, ap, ◌∙◌, subst, arith}
use Rattle.rng_model.specs.Texts.{Text}
use Rattle.token_laws.specs.Tokens.{Token, keyword, ident, cname, ns_name, segment, symbol, Placed, ◌at◌, open_paren, close_paren, bar, star, minus}
use Rattle.token_laws.specs.Spellings.{keyword_text}
use Rattle.grammar_laws.specs.Trees.{Class, Classes}
use Rattle.grammar_laws.specs.Grammar.{ReadsLiteral, IsAnyId, IsAnnotationName, IsNoBracket, ReadsFilling, ReadsBlock, ReadsBlocks, ReadsFollow, ReadsUri, ReadsDeclaration, ReadsDeclarations, ReadsParameters, ReadsBraces, ReadsInherit, ReadsClass, ReadsAlternatives, ReadsSimple, ReadsBareClass, ReadsClassExcept}
use Rattle.grammar_laws.specs.Grammar as by
use Rattle.grammar_laws.proofs.Ends.{Stops, bracket_rank, Only, up, class_rank, no_class_follows, rest_same}
use Rattle.grammar_laws.proofs.Leaves.{unique_blocks, unique_follow, before_follow}
use Rattle.grammar_laws.proofs.Parameters.{id_no_bracket}

-- a bare name class by its first token
abbrev BareMeaning : List Placed → List Placed → Class → Type 0
BareMeaning [] us c = ⊥
BareMeaning (keyword k at a ∷ ts) us c = (us ≡ ts) × (c ≡ Class.plain (keyword_text k) a)
BareMeaning (ident n at a ∷ ts) us c = (us ≡ ts) × (c ≡ Class.plain n a)
BareMeaning (cname p n at a ∷ ts) us c = (us ≡ ts) × (c ≡ Class.prefixed p n a)
BareMeaning (ns_name p at a ∷ ts) us c = (us ≡ ts) × (c ≡ Class.namespace p a)
BareMeaning (symbol star at a ∷ ts) us c = (us ≡ ts) × (c ≡ Class.any a)
BareMeaning (symbol open_paren at a ∷ ts) us c = (b : ℕ) × ReadsClass ts (symbol close_paren at b ∷ us) c
BareMeaning _ us c = ⊥

plain_meaning : (t : Token) (n : Text) (a : ℕ) (ts : List Placed) → IsAnyId t n → BareMeaning (t at a ∷ ts) ts (Class.plain n a)
plain_meaning (keyword k) n a ts i = (refl, ap (λ z. Class.plain z a) i)
plain_meaning (ident m) n a ts i = (refl, ap (λ z. Class.plain z a) i)
plain_meaning (cname p m) n a ts i = elim i [ ]
plain_meaning (ns_name p) n a ts i = elim i [ ]
plain_meaning (segment s) n a ts i = elim i [ ]
plain_meaning (symbol s) n a ts i = elim i [ ]

plain_only : (t : Token) (n : Text) (a : ℕ) (ts : List Placed) → IsAnyId t n → (us : List Placed) (c : Class) → BareMeaning (t at a ∷ ts) us c → (ts ≡ us) × (Class.plain n a ≡ c)
plain_only (keyword k) n a ts i us c (x, y) = (sym x, ap (λ z. Class.plain z a) i ∙ sym y)
plain_only (ident m) n a ts i us c (x, y) = (sym x, ap (λ z. Class.plain z a) i ∙ sym y)
plain_only (cname p q) n a ts i us c m = elim i [ ]
plain_only (ns_name p) n a ts i us c m = elim i [ ]
plain_only (segment s) n a ts i us c m = elim i [ ]
plain_only (symbol s) n a ts i us c m = elim i [ ]

bare_meaning : {ts us : List Placed} {c : Class} → ReadsBareClass ts us c → BareMeaning ts us c
bare_meaning (by.plain {t = t} i) = plain_meaning t _ _ _ i
bare_meaning by.prefixed = (refl, refl)
bare_meaning (by.ReadsBareClass.parentheses c) = (_, c)
bare_meaning by.any = (refl, refl)
bare_meaning by.namespace = (refl, refl)

abbrev End : ℕ → List Placed → Type 0
End k ts = Stops class_rank k ts

-- no bracket begins a bare name class
pub bare_no_bracket : {ts us : List Placed} {c : Class} → ReadsBareClass ts us c → Stops bracket_rank 0 ts
bare_no_bracket (by.plain {t = t} {n = n} {a = a} {ts = ts} i) = id_no_bracket t a ts n i
bare_no_bracket by.prefixed = zero-le
bare_no_bracket (by.ReadsBareClass.parentheses c) = zero-le
bare_no_bracket by.any = zero-le
bare_no_bracket by.namespace = zero-le

pub except_no_bracket : {ts us : List Placed} {c : Class} → ReadsClassExcept ts us c → Stops bracket_rank 0 ts
except_no_bracket (by.any_except b c) = zero-le
except_no_bracket (by.namespace_except b c) = zero-le

one_plain : {t : Token} {n : Text} {a : ℕ} {ts : List Placed} → IsAnyId t n → Only ReadsBareClass (End 3) (t at a ∷ ts) ts (Class.plain n a)
one_plain {t = t} {n = n} {a = a} {ts = ts} i us' c' d e' = plain_only t n a ts i us' c' (bare_meaning d)

one_prefixed : {p n : Text} {a : ℕ} {ts : List Placed} → Only ReadsBareClass (End 3) (cname p n at a ∷ ts) ts (Class.prefixed p n a)
one_prefixed us' c' d e' = let m = bare_meaning d in (sym m.0, sym m.1)

one_any : {a : ℕ} {ts : List Placed} → Only ReadsBareClass (End 3) (symbol star at a ∷ ts) ts (Class.any a)
one_any us' c' d e' = let m = bare_meaning d in (sym m.0, sym m.1)

one_namespace : {p : Text} {a : ℕ} {ts : List Placed} → Only ReadsBareClass (End 3) (ns_name p at a ∷ ts) ts (Class.namespace p a)
one_namespace us' c' d e' = let m = bare_meaning d in (sym m.0, sym m.1)

in_parentheses : {a b : ℕ} {ts us : List Placed} {c : Class} → Only ReadsClass (End 0) ts (symbol close_paren at b ∷ us) c →
    Only ReadsBareClass (End 3) (symbol open_paren at a ∷ ts) us c
in_parentheses only us' c' d e' =
    let m = bare_meaning d in
    let f = only (symbol close_paren at m.0 ∷ us') c' m.1 zero-le in
    (rest_same f.0, f.1)

-- a name class with an except by its first token
abbrev ExceptMeaning : List Placed → List Placed → Class → Type 0
ExceptMeaning (symbol star at a ∷ ts) us c =
    (b : ℕ) × (vs : List Placed) × (ws : List Placed) × (d : Class) × (ts ≡ symbol minus at b ∷ vs) × ReadsBlocks vs ws × ReadsBareClass ws us d × (c ≡ Class.any_except d a)
ExceptMeaning (ns_name p at a ∷ ts) us c =
    (b : ℕ) × (vs : List Placed) × (ws : List Placed) × (d : Class) × (ts ≡ symbol minus at b ∷ vs) × ReadsBlocks vs ws × ReadsBareClass ws us d × (c ≡ Class.namespace_except p d a)
ExceptMeaning _ us c = ⊥

except_meaning : {ts us : List Placed} {c : Class} → ReadsClassExcept ts us c → ExceptMeaning ts us c
except_meaning (by.any_except b c) = (_, _, _, _, refl, b, c, refl)
except_meaning (by.namespace_except b c) = (_, _, _, _, refl, b, c, refl)

any_but : {a b : ℕ} {ts us vs : List Placed} {c : Class} → ReadsBlocks ts us → Stops bracket_rank 0 us → Only ReadsBareClass (End 3) us vs c →
    Only ReadsClassExcept (End 3) (symbol star at a ∷ symbol minus at b ∷ ts) vs (Class.any_except c a)
any_but {a = a} {b = b} {ts = ts} {us = us} {vs = vs} {c = c} bl first only us' c' d e' = go (except_meaning d)
  where
    go : ExceptMeaning (symbol star at a ∷ symbol minus at b ∷ ts) us' c' → (vs ≡ us') × (Class.any_except c a ≡ c')
    go (b', xs, ys, k, next, bl', r, made) =
        let same = unique_blocks bl first ys (subst (λ z. ReadsBlocks z ys) (sym (rest_same next)) bl') (bare_no_bracket r) in
        let f = only us' k (subst (λ z. ReadsBareClass z us' k) (sym same) r) e' in
        (f.0, ap (λ z. Class.any_except z a) f.1 ∙ sym made)

namespace_but : {p : Text} {a b : ℕ} {ts us vs : List Placed} {c : Class} → ReadsBlocks ts us → Stops bracket_rank 0 us → Only ReadsBareClass (End 3) us vs c →
    Only ReadsClassExcept (End 3) (ns_name p at a ∷ symbol minus at b ∷ ts) vs (Class.namespace_except p c a)
namespace_but {p = p} {a = a} {b = b} {ts = ts} {us = us} {vs = vs} {c = c} bl first only us' c' d e' = go (except_meaning d)
  where
    go : ExceptMeaning (ns_name p at a ∷ symbol minus at b ∷ ts) us' c' → (vs ≡ us') × (Class.namespace_except p c a ≡ c')
    go (b', xs, ys, k, next, bl', r, made) =
        let same = unique_blocks bl first ys (subst (λ z. ReadsBlocks z ys) (sym (rest_same next)) bl') (bare_no_bracket r) in
        let f = only us' k (subst (λ z. ReadsBareClass z us' k) (sym same) r) e' in
        (f.0, ap (λ z. Class.namespace_except p z a) f.1 ∙ sym made)

-- a bare name class and one with an except don't begin alike
apart : {ts us vs : List Placed} {c d : Class} → ReadsClassExcept ts vs d → ReadsBareClass ts us c → End 3 us → ⊥
apart (by.any_except {b = b} {ts = ts} bl r) x e =
    let m = bare_meaning x in
    let h : 4 ≤ 3 = subst (End 3) m.0 e in
    omega arith
apart (by.namespace_except bl r) x e =
    let m = bare_meaning x in
    let h : 4 ≤ 3 = subst (End 3) m.0 e in
    omega arith

-- blocks, a name class and what follows
abbrev SimpleMeaning : List Placed → List Placed → Class → Type 0
SimpleMeaning ts us c =
    (vs : List Placed) × (ws : List Placed) × ReadsBlocks ts vs × (ReadsBareClass vs ws c ⊎ ReadsClassExcept vs ws c) × ReadsFollow ws us

simple_meaning : {ts us : List Placed} {c : Class} → ReadsSimple ts us c → SimpleMeaning ts us c
simple_meaning (by.simple b c f) = (_, _, b, inl c, f)
simple_meaning (by.ReadsSimple.except b c f) = (_, _, b, inr c, f)

pub inner_end : {ts us : List Placed} → ReadsFollow ts us → End 2 us → End 3 ts
inner_end {us = us} f e = before_follow class_rank (le_refl 3) f (up class_rank 2 us e)

one_simple : {ts us vs ws : List Placed} {c : Class} → ReadsBlocks ts us → ReadsBareClass us vs c → Only ReadsBareClass (End 3) us vs c → ReadsFollow vs ws → End 2 ws →
    Only ReadsSimple (End 2) ts ws c
one_simple {ts = ts} {us = us} {vs = vs} {ws = ws} {c = c} bl bare only f e us' c' d e' = go (simple_meaning d)
  where
    go : SimpleMeaning ts us' c' → (ws ≡ us') × (c ≡ c')
    go (xs, ys, bl', inl r, f') =
        let same = unique_blocks bl (bare_no_bracket bare) xs bl' (bare_no_bracket r) in
        let g = only ys c' (subst (λ z. ReadsBareClass z ys c') (sym same) r) (inner_end f' e') in
        (unique_follow f (no_class_follows ws e) us' (subst (λ z. ReadsFollow z us') (sym g.0) f') (no_class_follows us' e'), g.1)
    go (xs, ys, bl', inr r, f') =
        let same = unique_blocks bl (bare_no_bracket bare) xs bl' (except_no_bracket r) in
        absurd (apart r (subst (λ z. ReadsBareClass z vs c) same bare) (inner_end f e))

one_except : {ts us vs ws : List Placed} {c : Class} → ReadsBlocks ts us → ReadsClassExcept us vs c → Only ReadsClassExcept (End 3) us vs c → ReadsFollow vs ws → End 2 ws →
    Only ReadsSimple (End 2) ts ws c
one_except {ts = ts} {us = us} {vs = vs} {ws = ws} {c = c} bl bare only f e us' c' d e' = go (simple_meaning d)
  where
    go : SimpleMeaning ts us' c' → (ws ≡ us') × (c ≡ c')
    go (xs, ys, bl', inr r, f') =
        let same = unique_blocks bl (except_no_bracket bare) xs bl' (except_no_bracket r) in
        let g = only ys c' (subst (λ z. ReadsClassExcept z ys c') (sym same) r) (inner_end f' e') in
        (unique_follow f (no_class_follows ws e) us' (subst (λ z. ReadsFollow z us') (sym g.0) f') (no_class_follows us' e'), g.1)
    go (xs, ys, bl', inl r, f') =
        let same = unique_blocks bl (except_no_bracket bare) xs bl' (bare_no_bracket r) in
        absurd (apart bare (subst (λ z. ReadsBareClass z ys c') (sym same) r) (inner_end f' e'))

-- alternatives
abbrev ClassMeaning : List Placed → List Placed → Class → Type 0
ClassMeaning ts us c =
    ReadsSimple ts us c ⊎ ((a : ℕ) × (vs : List Placed) × (d : Class) × (ds : Classes) × ReadsSimple ts (symbol bar at a ∷ vs) d × ReadsAlternatives vs us ds × (c ≡ Class.choice_class (Classes.more_classes d ds)))

class_meaning : {ts us : List Placed} {c : Class} → ReadsClass ts us c → ClassMeaning ts us c
class_meaning (by.ReadsClass.single s) = inl s
class_meaning (by.ReadsClass.choice s r) = inr (_, _, _, _, s, r, refl)

abbrev AlternativesMeaning : List Placed → List Placed → Classes → Type 0
AlternativesMeaning ts us cs =
    ((d : Class) × ReadsSimple ts us d × (cs ≡ Classes.more_classes d Classes.no_classes)) ⊎ ((a : ℕ) × (vs : List Placed) × (d : Class) × (ds : Classes) × ReadsSimple ts (symbol bar at a ∷ vs) d × ReadsAlternatives vs us ds × (cs ≡ Classes.more_classes d ds))

alternatives_meaning : {ts us : List Placed} {cs : Classes} → ReadsAlternatives ts us cs → AlternativesMeaning ts us cs
alternatives_meaning (by.ReadsAlternatives.last s) = inl (_, s, refl)
alternatives_meaning (by.ReadsAlternatives.more s r) = inr (_, _, _, _, s, r, refl)

pub bar_end : 1 ≤ 2
bar_end = omega arith

pub last_end : (ts : List Placed) → End 0 ts → End 2 ts
last_end ts e = up class_rank 1 ts (up class_rank 0 ts e)

not_bar : {a : ℕ} {ts us : List Placed} → us ≡ symbol bar at a ∷ ts → End 0 us → ⊥
not_bar same e =
    let h : 1 ≤ 0 = subst (End 0) same e in
    omega arith

single_class : {ts us : List Placed} {c : Class} → Only ReadsSimple (End 2) ts us c → End 0 us → Only ReadsClass (End 0) ts us c
single_class {ts = ts} {us = us} {c = c} only e us' c' d e' = go (class_meaning d)
  where
    go : ClassMeaning ts us' c' → (us ≡ us') × (c ≡ c')
    go (inl s) = only us' c' s (last_end us' e')
    go (inr (a, vs, k, ks, s, r, made)) = absurd (not_bar (only (symbol bar at a ∷ vs) k s bar_end).0 e)

choice_class : {a : ℕ} {ts us vs : List Placed} {c : Class} {cs : Classes} → Only ReadsSimple (End 2) ts (symbol bar at a ∷ us) c → Only ReadsAlternatives (End 0) us vs cs →
    Only ReadsClass (End 0) ts vs (Class.choice_class (Classes.more_classes c cs))
choice_class {a = a} {ts = ts} {us = us} {vs = vs} {c = c} {cs = cs} one only us' c' d e' = go (class_meaning d)
  where
    go : ClassMeaning ts us' c' → (vs ≡ us') × (Class.choice_class (Classes.more_classes c cs) ≡ c')
    go (inl s) = absurd (not_bar (sym (one us' c' s (last_end us' e')).0) e')
    go (inr (b, ws, k, ks, s, r, made)) =
        let f = one (symbol bar at b ∷ ws) k s bar_end in
        let g = only us' ks (subst (λ z. ReadsAlternatives z us' ks) (sym (rest_same f.0)) r) e' in
        (g.0, rw (f.1, g.1) (sym made))

last_class : {ts us : List Placed} {c : Class} → Only ReadsSimple (End 2) ts us c → End 0 us → Only ReadsAlternatives (End 0) ts us (Classes.more_classes c Classes.no_classes)
last_class {ts = ts} {us = us} {c = c} only e us' cs' d e' = go (alternatives_meaning d)
  where
    go : AlternativesMeaning ts us' cs' → (us ≡ us') × (Classes.more_classes c Classes.no_classes ≡ cs')
    go (inl (k, s, made)) = let f = only us' k s (last_end us' e') in (f.0, rw (f.1) (sym made))
    go (inr (a, vs, k, ks, s, r, made)) = absurd (not_bar (only (symbol bar at a ∷ vs) k s bar_end).0 e)

more_classes : {a : ℕ} {ts us vs : List Placed} {c : Class} {cs : Classes} → Only ReadsSimple (End 2) ts (symbol bar at a ∷ us) c → Only ReadsAlternatives (End 0) us vs cs →
    Only ReadsAlternatives (End 0) ts vs (Classes.more_classes c cs)
more_classes {a = a} {ts = ts} {us = us} {vs = vs} {c = c} {cs = cs} one only us' cs' d e' = go (alternatives_meaning d)
  where
    go : AlternativesMeaning ts us' cs' → (vs ≡ us') × (Classes.more_classes c cs ≡ cs')
    go (inl (k, s, made)) = absurd (not_bar (sym (one us' k s (last_end us' e')).0) e')
    go (inr (b, ws, k, ks, s, r, made)) =
        let f = one (symbol bar at b ∷ ws) k s bar_end in
        let g = only us' ks (subst (λ z. ReadsAlternatives z us' ks) (sym (rest_same f.0)) r) e' in
        (g.0, rw (f.1, g.1) (sym made))

mutual
  pub unique_class : {ts us : List Placed} {c : Class} → ReadsClass ts us c → End 0 us → Only ReadsClass (End 0) ts us c
  unique_class (by.ReadsClass.single {us = us} s) e = single_class (unique_simple s (last_end us e)) e
  unique_class (by.ReadsClass.choice s r) e = choice_class (unique_simple s bar_end) (unique_alternatives r e)

  pub unique_alternatives : {ts us : List Placed} {cs : Classes} → ReadsAlternatives ts us cs → End 0 us → Only ReadsAlternatives (End 0) ts us cs
  unique_alternatives (by.ReadsAlternatives.last {us = us} s) e = last_class (unique_simple s (last_end us e)) e
  unique_alternatives (by.ReadsAlternatives.more s r) e = more_classes (unique_simple s bar_end) (unique_alternatives r e)

  unique_simple : {ts us : List Placed} {c : Class} → ReadsSimple ts us c → End 2 us → Only ReadsSimple (End 2) ts us c
  unique_simple (by.simple b c f) e = one_simple b c (unique_bare c) f e
  unique_simple (by.ReadsSimple.except b c f) e = one_except b c (unique_except c) f e

  unique_bare : {ts us : List Placed} {c : Class} → ReadsBareClass ts us c → Only ReadsBareClass (End 3) ts us c
  unique_bare (by.plain i) = one_plain i
  unique_bare by.prefixed = one_prefixed
  unique_bare (by.ReadsBareClass.parentheses c) = in_parentheses (unique_class c zero-le)
  unique_bare by.any = one_any
  unique_bare by.namespace = one_namespace

  unique_except : {ts us : List Placed} {c : Class} → ReadsClassExcept ts us c → Only ReadsClassExcept (End 3) ts us c
  unique_except (by.any_except b c) = any_but b (bare_no_bracket c) (unique_bare c)
  unique_except (by.namespace_except b c) = namespace_but b (bare_no_bracket c) (unique_bare c)
