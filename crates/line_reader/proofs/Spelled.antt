-- Bytes and the spellings that they begin with.
use Rattle.std.proofs.Common.{◌≡◌, ℕ, ◌+◌, false, List, [], ◌∷◌, ◌++◌, drop, refl, sym, ◌∙◌, ap, append_assoc, append-nil}
use Rattle.std.specs.Prelude.{flat_map}
use Rattle.std.proofs.lemmas.List.{append_cancel_left, drop-drop}
use Rattle.std.proofs.lemmas.Grind.{flat_map-append}
use Rattle.rng_model.specs.Lines.{text_escape}
use Rattle.line_laws.proofs.Reading.{IsRead, unescaped, text_read, namespace_read}
use Rattle.line_reader.specs.declared.escapes.Escapes.{Escapes}
use Rattle.line_reader.specs.declared.escapes.Escapes.TheVariants.{Text, Namespace}
use Rattle.line_reader.specs.Spellings.{spelling, StopsAt}

-- one item more behind those that were read
pub one_more : {A : Type 0} (f : A → List ℕ) (bytes : List ℕ) (read : List A) (x : A) (done len : ℕ) →
    bytes ≡ flat_map f read ++ drop done bytes → drop done bytes ≡ f x ++ drop len (drop done bytes) →
    bytes ≡ flat_map f (read ++ x ∷ []) ++ drop (done + len) bytes
one_more f bytes read x done len before here =
    before
    ∙ ap (λ z. flat_map f read ++ z) here
    ∙ sym (append_assoc (flat_map f read) (f x) (drop len (drop done bytes)))
    ∙ (λ i. (flat_map f read ++ sym (append-nil (f x)) i) ++ drop-drop len done bytes i)
    ∙ ap (λ z. z ++ drop (done + len) bytes) (sym (flat_map-append f read (x ∷ [])))

abbrev end_of : Escapes → ℕ
end_of Text = 10
end_of Namespace = 125

is_read : (e : Escapes) (c : ℕ) → IsRead (end_of e) (spelling e) c
is_read Text c = text_read c
is_read Namespace c = namespace_read c

-- two spellings that begin the same bytes
first_same : (e : Escapes) (b c : ℕ) (x y : List ℕ) → spelling e b ++ x ≡ spelling e c ++ y → (b ≡ c) × (x ≡ y)
first_same e b c x y h =
    let heads : b ∷ unescaped (end_of e) false x ≡ c ∷ unescaped (end_of e) false y = sym (is_read e b x).0 ∙ ap (unescaped (end_of e) false) h ∙ (is_read e c y).0 in
    let same : b ≡ c = cc in
    (same, append_cancel_left (spelling e c) x y (ap (λ z. spelling e z ++ x) (sym same) ∙ h))

nothing : (e : Escapes) → unescaped (end_of e) false [] ≡ []
nothing Text = refl
nothing Namespace = refl

pub stops_at_end : (e : Escapes) → StopsAt e []
stops_at_end e c x h =
    let bad : c ∷ unescaped (end_of e) false x ≡ [] = sym (is_read e c x).0 ∙ ap (unescaped (end_of e) false) h ∙ nothing e in
    absurd (cc)

pub stops_at_brace : (x : List ℕ) → StopsAt Namespace (125 ∷ x)
stops_at_brace x c y h =
    let bad : c ∷ unescaped 125 false y ≡ [] = sym (namespace_read c y).0 ∙ ap (unescaped 125 false) h in
    absurd (cc)

-- what is spelled up to where the spelling stops is one list
pub fronts_same : (e : Escapes) (t v x y : List ℕ) → StopsAt e x → StopsAt e y →
    flat_map (spelling e) t ++ x ≡ flat_map (spelling e) v ++ y → (t ≡ v) × (x ≡ y)
fronts_same e [] [] x y p q h = (refl, h)
fronts_same e [] (c ∷ v) x y p q h =
    absurd (p c (flat_map (spelling e) v ++ y) (sym (h ∙ append_assoc (spelling e c) (flat_map (spelling e) v) y)))
fronts_same e (b ∷ t) [] x y p q h =
    absurd (q b (flat_map (spelling e) t ++ x) (sym (append_assoc (spelling e b) (flat_map (spelling e) t) x) ∙ h))
fronts_same e (b ∷ t) (c ∷ v) x y p q h =
    let s = first_same e b c (flat_map (spelling e) t ++ x) (flat_map (spelling e) v ++ y) (sym (append_assoc (spelling e b) (flat_map (spelling e) t) x) ∙ h ∙ append_assoc (spelling e c) (flat_map (spelling e) v) y) in
    let r = fronts_same e t v x y p q s.1 in
    ((λ i. s.0 i ∷ r.0 i), r.1)

-- a text that is spelled by bytes is the one that was read
pub text_whole : (v rest bytes : List ℕ) → bytes ≡ flat_map text_escape v ++ rest → StopsAt Text rest →
    (t : List ℕ) → flat_map text_escape t ≡ bytes → (t ≡ v) × ([] ≡ rest)
text_whole v rest bytes front stops t h = fronts_same Text t v [] rest (stops_at_end Text) stops (append-nil (flat_map text_escape t) ∙ h ∙ front)
