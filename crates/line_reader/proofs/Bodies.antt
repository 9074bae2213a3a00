-- Lines without their line feeds.
use Rattle.std.proofs.Common.{◌≡◌, ℕ, ◌+◌, ◌⊎◌, inl, inr, true, false, List, [], ◌∷◌, ◌++◌, length, drop, length-append, refl, sym, ◌∙◌, ap, subst, append_assoc}
use Rattle.std.specs.Prelude.{◌==◌, flat_map, IsUtf8}
use Rattle.std.specs.List.{AllByRecursion}
use Rattle.std.proofs.lemmas.Bool.Decides.{eqb_tells}
use Rattle.std.proofs.lemmas.List.{append_cancel_right}
use Rattle.std.proofs.Math.Seq.{drop-append_seam}
use Rattle.rng_model.proofs.Keys.{apart}
use Rattle.rng_model.specs.Names.{Name, IsName}
use Rattle.rng_model.specs.Events.{Event, Opening, Attr, Body, Chars, Closing}
use Rattle.rng_model.specs.Lines.{name_spelling, namespace_escape, text_escape, event_line}
use Rattle.line_laws.specs.EventLists.{IsEvent}
use Rattle.line_laws.proofs.Reading.{local_plain, both_all, IsPlainByte}
use Rattle.line_laws.proofs.Cutting.{event_is_line, head_same}
use Rattle.line_reader.specs.Spellings.{HasNo, IsOther, event_body, BeginsNoLine}

other : (end c : ℕ) → IsOther end c → end ≡ c → ⊥
other end c h e = let t : (c == c) ≡ false = ap (λ z. c == z) (sym e) ∙ h in go (eqb_tells c c) t
  where
    go : ((c == c) ≡ true) × (c ≡ c) ⊎ ((c == c) ≡ false) × (c ≡ c → ⊥) → (c == c) ≡ false → ⊥
    go (inl a) t = let bad : true ≡ false = sym a.0 ∙ t in cc
    go (inr a) t = a.1 refl

-- one byte cuts bytes in one way
pub cut_same : (end : ℕ) (a b x y : List ℕ) → HasNo end a → HasNo end b → a ++ end ∷ x ≡ b ++ end ∷ y → (a ≡ b) × (x ≡ y)
cut_same end [] [] x y h k e = (refl, cc)
cut_same end [] (c ∷ b) x y h k e = absurd (other end c k.0 (cc))
cut_same end (c ∷ a) [] x y h k e = let s : c ≡ end = cc in absurd (other end c h.0 (sym s))
cut_same end (c ∷ a) (d ∷ b) x y h k e =
    let s : c ≡ d = cc in
    let r = cut_same end a b x y h.1 k.1 (cc) in
    ((λ i. s i ∷ r.0 i), r.1)

pub no_cut : (end : ℕ) (a x bytes : List ℕ) → HasNo end bytes → a ++ end ∷ x ≡ bytes → ⊥
no_cut end [] x [] h e = cc
no_cut end [] x (c ∷ bytes) h e = other end c h.0 (cc)
no_cut end (d ∷ a) x [] h e = cc
no_cut end (d ∷ a) x (c ∷ bytes) h e = no_cut end a x bytes h.1 (cc)

abbrev Told : ℕ → ℕ → Type 0
Told c k = ((c == k) ≡ true) × (c ≡ k) ⊎ ((c == k) ≡ false) × (c ≡ k → ⊥)

-- no space stands in a name
namespace_no_space : (c : ℕ) → HasNo 32 (namespace_escape c)
namespace_no_space c = go (eqb_tells c 32) (eqb_tells c 123) (eqb_tells c 125) (eqb_tells c 92) (eqb_tells c 10) (eqb_tells c 13)
  where
    go : Told c 32 → Told c 123 → Told c 125 → Told c 92 → Told c 10 → Told c 13 → HasNo 32 (namespace_escape c)
    go (inl a) o p q r s = subst (λ c. HasNo 32 (namespace_escape c)) (sym a.1) (refl, (refl, tt))
    go (inr a) (inl o) p q r s = subst (λ c. HasNo 32 (namespace_escape c)) (sym o.1) (refl, (refl, tt))
    go (inr a) (inr o) (inl p) q r s = subst (λ c. HasNo 32 (namespace_escape c)) (sym p.1) (refl, (refl, tt))
    go (inr a) (inr o) (inr p) (inl q) r s = subst (λ c. HasNo 32 (namespace_escape c)) (sym q.1) (refl, (refl, tt))
    go (inr a) (inr o) (inr p) (inr q) (inl r) s = subst (λ c. HasNo 32 (namespace_escape c)) (sym r.1) (refl, (refl, tt))
    go (inr a) (inr o) (inr p) (inr q) (inr r) (inl s) = subst (λ c. HasNo 32 (namespace_escape c)) (sym s.1) (refl, (refl, tt))
    go (inr a) (inr o) (inr p) (inr q) (inr r) (inr s) = rw (a.0, o.0, p.0, q.0, r.0, s.0) (a.0, tt)

namespaces_no_space : (u : List ℕ) → HasNo 32 (flat_map namespace_escape u)
namespaces_no_space [] = tt
namespaces_no_space (c ∷ u) = both_all (IsOther 32) (namespace_escape c) (flat_map namespace_escape u) (namespace_no_space c) (namespaces_no_space u)

plain_no_space : (l : List ℕ) → AllByRecursion IsPlainByte l → HasNo 32 l
plain_no_space [] h = tt
plain_no_space (c ∷ l) h = (h.0.1, plain_no_space l h.1)

pub name_no_space : (n : Name) → IsName n → HasNo 32 (name_spelling n)
name_no_space n is = go n.ns n.local (plain_no_space n.local (local_plain n.local is.local is.ncname))
  where
    go : (u l : List ℕ) → HasNo 32 l → HasNo 32 (name_spelling (record { ns = u; local = l }))
    go [] l h = h
    go (c ∷ u) l h =
        both_all (IsOther 32) (123 ∷ (flat_map namespace_escape (c ∷ u) ++ (125 ∷ []))) l
        (refl, both_all (IsOther 32) (flat_map namespace_escape (c ∷ u)) (125 ∷ []) (namespaces_no_space (c ∷ u)) (refl, tt)) h

pub line_is : (e : Event) → event_line e ≡ event_body e ++ 10 ∷ []
line_is (Opening n) = refl
line_is (Attr n t) = simp append_assoc
line_is Body = refl
line_is (Chars t) = refl
line_is Closing = refl

pub body_no_feed : (e : Event) → IsEvent e → HasNo 10 (event_body e)
body_no_feed e is =
    let l = event_is_line e is in
    subst (HasNo 10) (append_cancel_right l.body (event_body e) (10 ∷ []) (sym l.is ∙ line_is e)) l.free

-- bytes without a line feed begin with no line
pub no_line : (bytes : List ℕ) → HasNo 10 bytes → BeginsNoLine bytes
no_line bytes h e x is same =
    no_cut 10 (event_body e) x bytes h (sym (append_assoc (event_body e) (10 ∷ []) x) ∙ ap (λ z. z ++ x) (sym (line_is e)) ∙ same)

-- nor do bytes whose first line is no event's
pub no_such_line : (bytes body more : List ℕ) → HasNo 10 body → bytes ≡ body ++ 10 ∷ more →
    ((e : Event) → IsEvent e → event_body e ≡ body → ⊥) → BeginsNoLine bytes
no_such_line bytes body more h cut none e x is same =
    none e is ((cut_same 10 (event_body e) body x more (body_no_feed e is) h
    (sym (append_assoc (event_body e) (10 ∷ []) x) ∙ ap (λ z. z ++ x) (sym (line_is e)) ∙ same ∙ cut)).0)

abbrev NoAttribute : List ℕ → Type 0
NoAttribute bytes = (e : Event) → IsEvent e → event_body e ≡ 65 ∷ bytes → ⊥

-- an attribute's line has a space
pub no_attribute : (bytes : List ℕ) → HasNo 32 bytes → NoAttribute bytes
no_attribute bytes h (Opening n) is e = apart e refl
no_attribute bytes h (Attr n t) is e = no_cut 32 (name_spelling n) (flat_map text_escape t) bytes h ((head_same e).1)
no_attribute bytes h Body is e = apart e refl
no_attribute bytes h (Chars t) is e = apart e refl
no_attribute bytes h Closing is e = apart e refl

-- what stands before the first space is its name, and what stands behind it its text
pub attribute_parts : (bytes name text : List ℕ) → HasNo 32 name → bytes ≡ name ++ 32 ∷ text →
    ((n : Name) (t : List ℕ) → IsName n → IsUtf8 t → name_spelling n ≡ name → flat_map text_escape t ≡ text → ⊥) → NoAttribute bytes
attribute_parts bytes name text h cut none (Opening n) is e = apart e refl
attribute_parts bytes name text h cut none (Attr n t) is e =
    let f : name_spelling n ++ 32 ∷ flat_map text_escape t ≡ bytes = (head_same e).1 in
    let s = cut_same 32 (name_spelling n) name (flat_map text_escape t) text (name_no_space n is.0) h (f ∙ cut) in
    none n t is.0 is.1 s.0 s.1
attribute_parts bytes name text h cut none Body is e = apart e refl
attribute_parts bytes name text h cut none (Chars t) is e = apart e refl
attribute_parts bytes name text h cut none Closing is e = apart e refl

-- bytes whose first line is an event's
pub line_first : (e : Event) (bytes body more : List ℕ) → event_body e ≡ body → bytes ≡ body ++ 10 ∷ more →
    bytes ≡ event_line e ++ drop (length body + 1) bytes
line_first e bytes body more is cut =
    let long : bytes ≡ (body ++ 10 ∷ []) ++ more = cut ∙ sym (append_assoc body (10 ∷ []) more) in
    let all : length (body ++ 10 ∷ []) ≡ length body + 1 = length-append body (10 ∷ []) in
    let behind : drop (length body + 1) bytes ≡ more =
    ap (drop (length body + 1)) long ∙ ap (λ n. drop n ((body ++ 10 ∷ []) ++ more)) (sym all) ∙ drop-append_seam (body ++ 10 ∷ []) more in
    long ∙ (λ i. (sym is i ++ 10 ∷ []) ++ sym behind i) ∙ ap (λ z. z ++ drop (length body + 1) bytes) (sym (line_is e))
