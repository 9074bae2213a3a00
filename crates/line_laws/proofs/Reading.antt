-- Reading an event back from its line.
use Rattle.std.proofs.Common.{◌≡◌, ℕ, ◌<◌, ◌≤◌, ◌+◌, cond, ltb, ◌&&◌, ◌⊎◌, inl, inr, Bool, true, false, List, [], ◌∷◌, ◌++◌, refl, sym, ◌∙◌, ap, subst, append_assoc, arith, IsTrue}
use Rattle.std.specs.Prelude.{◌==◌, if◌then◌else◌, flat_map, IsUtf8}
use Rattle.std.specs.List.{AllByRecursion, list_all}
use Rattle.std.proofs.lemmas.Bool.{ne_eqb, cases_order}
use Rattle.std.proofs.lemmas.Bool.Decides.{eqb_tells, Decides-ltb}
use Rattle.std.proofs.Math.Utf8.{encode, encodes}
use Rattle.std.proofs.lemmas.Str.{encode_ascii, encodes-chars}
use Rattle.std.specs.Str.{chars}
use Rattle.rng_model.specs.Texts.{Text}
use Rattle.rng_model.specs.Names.{Name, IsName, is_ncname, are_name_chars, is_name_start, is_name_char}
use Rattle.rng_model.specs.Events.{Event, Opening, Attr, Body, Chars, Closing}
use Rattle.rng_model.specs.Lines.{text_escape, namespace_escape, name_spelling, event_line}
use Rattle.line_laws.specs.EventLists.{IsEvent}

-- what a letter behind a backslash stands for
abbrev pub escaped : ℕ → ℕ
escaped c = if c == 110 then 10 else if c == 114 then 13 else if c == 115 then 32 else c

-- the characters up to the end; the test says whether a backslash stands before
abbrev pub unescaped : ℕ → Bool → List ℕ → List ℕ
unescaped end true [] = []
unescaped end false [] = []
unescaped end true (c ∷ t) = escaped c ∷ unescaped end false t
unescaped end false (c ∷ t) = if c == end then [] else if c == 92 then unescaped end true t else c ∷ unescaped end false t

-- what stands behind the end
abbrev pub behind : ℕ → Bool → List ℕ → List ℕ
behind end true [] = []
behind end false [] = []
behind end true (c ∷ t) = behind end false t
behind end false (c ∷ t) = if c == end then t else if c == 92 then behind end true t else behind end false t

-- one character is read back
abbrev pub IsRead : ℕ → (ℕ → Text) → ℕ → Type 0
IsRead end f c =
    (x : List ℕ) → (unescaped end false (f c ++ x) ≡ c ∷ unescaped end false x) × (behind end false (f c ++ x) ≡ behind end false x)

pub plain_read : (end c : ℕ) → (c == end) ≡ false → (c == 92) ≡ false → IsRead end (λ c. c ∷ []) c
plain_read end c e b x = (simp (e, b), simp (e, b))

pub text_read : (c : ℕ) → IsRead 10 text_escape c
text_read c = go (eqb_tells c 92) (eqb_tells c 10) (eqb_tells c 13)
  where
    go : ((c == 92) ≡ true) × (c ≡ 92) ⊎ ((c == 92) ≡ false) × (c ≡ 92 → ⊥) → ((c == 10) ≡ true) × (c ≡ 10) ⊎ ((c == 10) ≡ false) × (c ≡ 10 → ⊥) → ((c == 13) ≡ true) × (c ≡ 13) ⊎ ((c == 13) ≡ false) × (c ≡ 13 → ⊥) → IsRead 10 text_escape c
    go (inl a) h k = subst (IsRead 10 text_escape) (sym a.1) (λ x. (refl, refl))
    go (inr a) (inl b) k = subst (IsRead 10 text_escape) (sym b.1) (λ x. (refl, refl))
    go (inr a) (inr b) (inl d) = subst (IsRead 10 text_escape) (sym d.1) (λ x. (refl, refl))
    go (inr a) (inr b) (inr d) = λ x. (simp (a.0, b.0, d.0), simp (a.0, b.0, d.0))

abbrev Told : ℕ → ℕ → Type 0
Told c k = ((c == k) ≡ true) × (c ≡ k) ⊎ ((c == k) ≡ false) × (c ≡ k → ⊥)

pub namespace_read : (c : ℕ) → IsRead 125 namespace_escape c
namespace_read c = go (eqb_tells c 32) (eqb_tells c 123) (eqb_tells c 125) (eqb_tells c 92) (eqb_tells c 10) (eqb_tells c 13)
  where
    go : Told c 32 → Told c 123 → Told c 125 → Told c 92 → Told c 10 → Told c 13 → IsRead 125 namespace_escape c
    go (inl a) o p q r s = subst (IsRead 125 namespace_escape) (sym a.1) (λ x. (refl, refl))
    go (inr a) (inl o) p q r s = subst (IsRead 125 namespace_escape) (sym o.1) (λ x. (refl, refl))
    go (inr a) (inr o) (inl p) q r s = subst (IsRead 125 namespace_escape) (sym p.1) (λ x. (refl, refl))
    go (inr a) (inr o) (inr p) (inl q) r s = subst (IsRead 125 namespace_escape) (sym q.1) (λ x. (refl, refl))
    go (inr a) (inr o) (inr p) (inr q) (inl r) s = subst (IsRead 125 namespace_escape) (sym r.1) (λ x. (refl, refl))
    go (inr a) (inr o) (inr p) (inr q) (inr r) (inl s) = subst (IsRead 125 namespace_escape) (sym s.1) (λ x. (refl, refl))
    go (inr a) (inr o) (inr p) (inr q) (inr r) (inr s) =
        λ x. (simp (a.0, o.0, p.0, q.0, r.0, s.0), simp (a.0, o.0, p.0, q.0, r.0, s.0))

-- all characters up to the end are read back
abbrev pub ReadBack : ℕ → Text → List ℕ → List ℕ → Type 0
ReadBack end t ts x = (unescaped end false ts ≡ t) × (behind end false ts ≡ x)

pub all_read : (end : ℕ) (f : ℕ → Text) (t : Text) → (end == end) ≡ true → AllByRecursion (IsRead end f) t → (x : List ℕ) → ReadBack end t (flat_map f t ++ (end ∷ x)) x
all_read end f [] same h x = (simp same, simp same)
all_read end f (c ∷ t) same h x =
    let i = all_read end f t same h.1 x in
    let o = h.0 (flat_map f t ++ (end ∷ x)) in
    let e : flat_map f (c ∷ t) ++ (end ∷ x) ≡ f c ++ (flat_map f t ++ (end ∷ x)) = append_assoc (f c) (flat_map f t) (end ∷ x) in
    (ap (unescaped end false) e ∙ o.0 ∙ ap (λ z. c ∷ z) i.0, ap (behind end false) e ∙ o.1 ∙ i.1)

for_each : (P : ℕ → Type 0) → ((c : ℕ) → P c) → (t : List ℕ) → AllByRecursion P t
for_each P h [] = tt
for_each P h (c ∷ t) = (h c, for_each P h t)

pub text_back : (t : Text) (x : List ℕ) → ReadBack 10 t (flat_map text_escape t ++ (10 ∷ x)) x
text_back t x = all_read 10 text_escape t refl (for_each (IsRead 10 text_escape) text_read t) x

pub namespace_back : (t : Text) (x : List ℕ) → ReadBack 125 t (flat_map namespace_escape t ++ (125 ∷ x)) x
namespace_back t x = all_read 125 namespace_escape t refl (for_each (IsRead 125 namespace_escape) namespace_read t) x

-- no line feed, space, backslash or brace
abbrev pub IsPlainByte : ℕ → Type 0
IsPlainByte c = ((c == 10) ≡ false) × ((c == 32) ≡ false) × ((c == 92) ≡ false) × ((c == 123) ≡ false)

high_plain : (b : ℕ) → 128 ≤ b → IsPlainByte b
high_plain b h =
    (ne_eqb b 10 (λ e. omega arith), ne_eqb b 32 (λ e. omega arith), ne_eqb b 92 (λ e. omega arith), ne_eqb b 123 (λ e. omega arith))

all_plain : (a b d : Bool) (p q r s t u v w c : ℕ) → (a ≡ true → ⊥) →
    AllByRecursion IsPlainByte (cond a (c ∷ []) (cond b ((192 + p) ∷ (128 + q) ∷ []) (cond d ((224 + r) ∷ (128 + s) ∷ (128 + t) ∷ []) ((240 + u) ∷ (128 + v) ∷ (128 + w) ∷ (128 + t) ∷ []))))
all_plain true b d p q r s t u v w c n = absurd (n refl)
all_plain false true d p q r s t u v w c n = (high_plain (192 + p) (omega arith), (high_plain (128 + q) (omega arith), tt))
all_plain false false true p q r s t u v w c n =
    (high_plain (224 + r) (omega arith), (high_plain (128 + s) (omega arith), (high_plain (128 + t) (omega arith), tt)))
all_plain false false false p q r s t u v w c n =
    (high_plain (240 + u) (omega arith), (high_plain (128 + v) (omega arith), (high_plain (128 + w) (omega arith), (high_plain (128 + t) (omega arith), tt))))

high_encode : (c : ℕ) → 128 ≤ c → AllByRecursion IsPlainByte (encode c)
unfolding encode
high_encode c h = all_plain (ltb c 128) (ltb c 2048) (ltb c 65536) _ _ _ _ _ _ _ _ c (λ e. let l : c < 128 = (Decides-ltb c 128).0 e in omega arith)

no_char : (c k : ℕ) → is_name_char k ≡ false → is_name_char c ≡ true → c ≡ k → ⊥
no_char c k f t e = differ (sym t ∙ ap is_name_char e ∙ f)
  where
    differ : true ≡ false → ⊥
    differ e = cc

name_char_plain : (c : ℕ) → is_name_char c ≡ true → IsPlainByte c
unfolding is_name_char is_name_start
name_char_plain c h =
    (ne_eqb c 10 (no_char c 10 refl h), ne_eqb c 32 (no_char c 32 refl h), ne_eqb c 92 (no_char c 92 refl h), ne_eqb c 123 (no_char c 123 refl h))

char_bytes : (c : ℕ) → is_name_char c ≡ true → AllByRecursion IsPlainByte (encode c)
char_bytes c h = go (cases_order c 128)
  where
    go : (c ≡ 128) ⊎ ((c < 128) ⊎ (128 < c)) → AllByRecursion IsPlainByte (encode c)
    go (inl e) = high_encode c (omega arith)
    go (inr (inl l)) = subst (AllByRecursion IsPlainByte) (sym (encode_ascii c l)) (name_char_plain c h, tt)
    go (inr (inr l)) = high_encode c (omega arith)

pub both_all : {X : Type 0} (P : X → Type 0) (xs ys : List X) → AllByRecursion P xs → AllByRecursion P ys → AllByRecursion P (xs ++ ys)
both_all P [] ys h k = k
both_all P (x ∷ xs) ys h k = (h.0, both_all P xs ys h.1 k)

both : (a b : Bool) → (a && b) ≡ true → (a ≡ true) × (b ≡ true)
both true b e = (refl, e)
both false b e = absurd (cc)

chars_bytes : (cs : List ℕ) → list_all is_name_char cs ≡ true → AllByRecursion IsPlainByte (encodes cs)
chars_bytes [] h = tt
chars_bytes (c ∷ cs) h =
    let b = both (is_name_char c) (list_all is_name_char cs) h in
    both_all IsPlainByte (encode c) (encodes cs) (char_bytes c b.0) (chars_bytes cs b.1)

all_chars : (cs : List ℕ) → are_name_chars cs ≡ true → list_all is_name_char cs ≡ true
unfolding is_name_char
all_chars [] h = absurd (cc)
all_chars (c ∷ cs) h = let b = both (is_name_start c) (list_all is_name_char cs) h in simp (b.0, b.1)

-- the local part of a name has plain bytes alone
pub local_plain : (t : Text) → IsUtf8 t → IsTrue (is_ncname t) → AllByRecursion IsPlainByte t
unfolding is_ncname
local_plain t u h = subst (AllByRecursion IsPlainByte) (encodes-chars t u) (chars_bytes (chars t) (all_chars (chars t) h))

-- plain bytes stand for themselves up to a line feed or a space
plain_all : (end : ℕ) (t : Text) → ((c : ℕ) → IsPlainByte c → (c == end) ≡ false) → AllByRecursion IsPlainByte t → AllByRecursion (IsRead end (λ c. c ∷ [])) t
plain_all end [] f h = tt
plain_all end (c ∷ t) f h = (plain_read end c (f c h.0) h.0.2, plain_all end t f h.1)

singles : (t : Text) → flat_map (λ c. c ∷ []) t ≡ t
singles [] = refl
singles (c ∷ t) = ap (λ z. c ∷ z) (singles t)

-- a byte that ends names
pub record EndsNames (end : ℕ) : Type 0 where
  pub same : (end == end) ≡ true
  pub plain : (c : ℕ) → IsPlainByte c → (c == end) ≡ false
  pub no_brace : (end == 123) ≡ false

pub feed_ends : EndsNames 10
feed_ends = record { same = refl; plain = λ c p. p.0; no_brace = refl }

pub space_ends : EndsNames 32
space_ends = record { same = refl; plain = λ c p. p.1; no_brace = refl }

pub local_back : (end : ℕ) → EndsNames end → (t : Text) → AllByRecursion IsPlainByte t → (x : List ℕ) → ReadBack end t (t ++ (end ∷ x)) x
local_back end k t h x = subst (λ z. ReadBack end t (z ++ (end ∷ x)) x) (singles t) (all_read end (λ c. c ∷ []) t k.same (plain_all end t k.plain h) x)

-- a name up to the end
abbrev pub read_name : ℕ → List ℕ → Name
read_name end [] = record { ns = []; local = [] }
read_name end (c ∷ t) =
    if c == 123 then record { ns = unescaped 125 false t; local = unescaped end false (behind 125 false t) } else record { ns = []; local = unescaped end false (c ∷ t) }

-- what stands behind a name and its end
abbrev pub behind_name : ℕ → List ℕ → List ℕ
behind_name end [] = []
behind_name end (c ∷ t) = if c == 123 then behind end false (behind 125 false t) else behind end false (c ∷ t)

abbrev pub NameBack : ℕ → Name → List ℕ → List ℕ → Type 0
NameBack end n ts x = (read_name end ts ≡ n) × (behind_name end ts ≡ x)

bare_name : (end : ℕ) → EndsNames end → (t : Text) → AllByRecursion IsPlainByte t → (x : List ℕ) → NameBack end (record { ns = []; local = t }) (t ++ (end ∷ x)) x
bare_name end k [] h x = (simp (k.no_brace, k.same), simp (k.no_brace, k.same))
bare_name end k (c ∷ t) h x =
    let b = local_back end k (c ∷ t) h x in
    let brace : (c == 123) ≡ false = h.0.3 in
    (rw brace (ap (λ z. record { ns = []; local = z }) b.0), rw brace b.1)

spaced_name : (end : ℕ) → EndsNames end → (u t : Text) → AllByRecursion IsPlainByte t → (x : List ℕ) →
    NameBack end (record { ns = u; local = t }) (123 ∷ (flat_map namespace_escape u ++ (125 ∷ (t ++ (end ∷ x))))) x
spaced_name end k u t h x =
    let a = namespace_back u (t ++ (end ∷ x)) in
    let b = local_back end k t h x in
    (λ i. record { ns = a.0 i; local = (ap (unescaped end false) a.1 ∙ b.0) i }, ap (behind end false) a.1 ∙ b.1)

pub name_back : (end : ℕ) → EndsNames end → (n : Name) → IsName n → (x : List ℕ) → NameBack end n (name_spelling n ++ (end ∷ x)) x
name_back end k n is x = go n.ns n.local (local_plain n.local is.local is.ncname)
  where
    go : (u t : Text) → AllByRecursion IsPlainByte t → NameBack end (record { ns = u; local = t }) (name_spelling (record { ns = u; local = t }) ++ (end ∷ x)) x
    go [] t h = bare_name end k t h x
    go (c ∷ u) t h = subst (λ z. NameBack end (record { ns = c ∷ u; local = t }) z x) (sym (spell (flat_map namespace_escape (c ∷ u)) t)) (spaced_name end k (c ∷ u) t h x)
      where
        spell : (f t : Text) → ((123 ∷ f ++ (125 ∷ [])) ++ t) ++ (end ∷ x) ≡ 123 ∷ (f ++ (125 ∷ (t ++ (end ∷ x))))
        spell f t = simp append_assoc

-- the event of a line
abbrev pub read_event : Text → Event
read_event [] = Closing
read_event (c ∷ t) =
    if c == 40 then Opening (read_name 10 t) else if c == 65 then Attr (read_name 32 t) (unescaped 10 false (behind_name 32 t)) else if c == 62 then Body else if c == 45 then Chars (unescaped 10 false t) else Closing

pub event_back : (e : Event) → IsEvent e → (x : List ℕ) → read_event (event_line e ++ x) ≡ e
event_back (Opening n) is x = ap Opening (ap (read_name 10) (append_assoc (name_spelling n) (10 ∷ []) x) ∙ (name_back 10 feed_ends n is x).0)
event_back (Attr n t) is x =
    let f = flat_map text_escape t in
    let b = name_back 32 space_ends n is.0 (f ++ (10 ∷ x)) in
    let e : event_line (Attr n t) ++ x ≡ 65 ∷ (name_spelling n ++ (32 ∷ (f ++ (10 ∷ x)))) = simp append_assoc in
    ap read_event e ∙ (λ i. Attr (b.0 i) ((ap (unescaped 10 false) b.1 ∙ (text_back t x).0) i))
event_back Body is x = refl
event_back (Chars t) is x = ap Chars (ap (unescaped 10 false) (append_assoc (flat_map text_escape t) (10 ∷ []) x) ∙ (text_back t x).0)
event_back Closing is x = refl
