-- Lines that are spelled once, and the events whose lines they are.
use Rattle.std.specs.Prelude.{codes}
use Rattle.std.specs.List.{All, AllByRecursion}
use Rattle.std.proofs.Common.{◌≡◌, ℕ, ◌+◌, ◌<◌, List, [], ◌∷◌, ◌++◌, Some, length, slice_get, get_or, map, take, drop, flat_map, append_assoc, refl, ap, sym, subst, ◌∙◌}
use Rattle.std.proofs.lemmas.List.{get_or-map, length-map, map-append, take_more}
use Rattle.std.proofs.lemmas.Option.{get_or_from_slice_get, slice_get_within}
use Rattle.std.proofs.lemmas.List.Elements.{All-head, All-tail, All-from_recursion, recursion_from_All}
use Rattle.rng_model.specs.Texts.{Text}
use Rattle.rng_model.specs.Names.{Name}
use Rattle.rng_model.specs.Events as event
use Rattle.rng_model.specs.Lines.{event_line, text_escape}
use Rattle.rng_model.specs.Universe.{Lists}
use Rattle.rng_model.specs.Codes.{Code, Opening, Attr, Body, Chars, Closing, IsInRange}
use Rattle.skeleton.specs.declared.code.Code as coded
use Rattle.skeleton.specs.Views.{code_of}
use Rattle.event_lines.specs.declared.spellings.Spellings.{Spellings}
use Rattle.event_lines.specs.Parts.{name_line, text_line, attribute_front}
use Rattle.event_lines.specs.Coded.{AreCodesOf, no_name, event_at, code_line, events_text}
use Rattle.event_lines.specs.Spelled.{AreSpellings, AreSpelled, HasSpelling, line_at, spelled_line, spelled_lines}
use Rattle.event_lines.proofs.Coding.{codes_are}

-- as many pieces as members
same_length : {A : Type 0} (f : A → List ℕ) (ps : List (List ℕ)) (xs : List A) → ps ≡ map f xs → length ps ≡ length xs
same_length f ps xs are = ap length are ∙ length-map xs f

-- the piece of a member
piece : {A : Type 0} (f : A → List ℕ) (ps : List (List ℕ)) (xs : List A) (i : ℕ) (d : A) → ps ≡ map f xs → i < length ps → get_or ps i [] ≡ f (get_or xs i d)
piece f ps xs i d are below =
    ap (λ q. get_or q i []) are ∙ get_or-map f xs i d [] (subst (λ n. i < n) (same_length f ps xs are) below)

-- one piece more
pub piece_more : {A : Type 0} (f : A → List ℕ) (xs : List A) (i : ℕ) (x : A) (ps now : List (List ℕ)) (p : List ℕ) → slice_get xs i ≡ Some x →
    ps ≡ map f (take i xs) → now ≡ ps ++ p ∷ [] → p ≡ f x → now ≡ map f (take (i + 1) xs)
piece_more f xs i x ps now p at are more is =
    more
    ∙ ap (λ q. q ++ p ∷ []) are
    ∙ ap (λ q. map f (take i xs) ++ q ∷ []) (is ∙ ap f (sym (get_or_from_slice_get xs i x x at)))
    ∙ sym (map-append f (take i xs) (get_or xs i x ∷ []))
    ∙ ap (map f) (sym (take_more xs i x (slice_get_within xs i x at)))

attribute_is : (n : Name) (t : Text) → attribute_front n ++ drop 1 (text_line 45 t) ≡ event_line (event.Attr n t)
attribute_is n t = sym (append_assoc (attribute_front n) (flat_map text_escape t) (codes "\n"))

-- a line by its spelling is that of the event at the positions
line_is : (u : Lists) (s : Spellings) (c : Code) → AreSpellings u s → HasSpelling s c → line_at s c ≡ event_line (event_at u c)
line_is u s (Opening i) are has = piece (name_line 40) s.openings u.elements i no_name are.openings has
line_is u s (Attr j t) are has =
    ap (λ x. x ++ drop 1 (get_or s.texts t [])) (piece attribute_front s.fronts u.attributes j no_name are.fronts has.0)
    ∙ ap (λ x. attribute_front (get_or u.attributes j no_name) ++ drop 1 x) (piece (text_line 45) s.texts u.atoms t [] are.texts has.1)
    ∙ attribute_is (get_or u.attributes j no_name) (get_or u.atoms t [])
line_is u s Body are has = refl
line_is u s (Chars t) are has = piece (text_line 45) s.texts u.atoms t [] are.texts has
line_is u s Closing are has = refl

lines_are : (u : Lists) (s : Spellings) (cs : List coded.Code) → AreSpellings u s → All (λ c. HasSpelling s (code_of c)) cs →
    flat_map (spelled_line s) cs ≡ flat_map (code_line u) cs
lines_are u s [] are has = refl
lines_are u s (c ∷ cs) are has =
    ap (λ x. x ++ flat_map (spelled_line s) cs) (line_is u s (code_of c) are (All-head (λ d. HasSpelling s (code_of d)) c cs has))
    ∙ ap (λ q. code_line u c ++ q) (lines_are u s cs are (All-tail (λ d. HasSpelling s (code_of d)) c cs has))

-- the spelled lines of codes are those of their events
pub spelled_are : (u : Lists) (s : Spellings) (es : List event.Event) (cs : List coded.Code) → All (λ c. HasSpelling s (code_of c)) cs →
    AreSpellings u s → AreCodesOf u es cs → spelled_lines s cs ≡ events_text es
spelled_are u s es cs has spelled are = ap (λ q. q ++ codes "\n") (lines_are u s cs spelled has) ∙ codes_are u es cs are

has_spelling : (u : Lists) (s : Spellings) (c : Code) → AreSpellings u s → IsInRange u c → HasSpelling s c
has_spelling u s (Opening i) are below = subst (λ n. i < n) (sym (same_length (name_line 40) s.openings u.elements are.openings)) below
has_spelling u s (Attr j t) are below =
    (subst (λ n. j < n) (sym (same_length attribute_front s.fronts u.attributes are.fronts)) below.0, subst (λ n. t < n) (sym (same_length (text_line 45) s.texts u.atoms are.texts)) below.1)
has_spelling u s Body are below = tt
has_spelling u s (Chars t) are below = subst (λ n. t < n) (sym (same_length (text_line 45) s.texts u.atoms are.texts)) below
has_spelling u s Closing are below = tt

-- codes in range of lists have their spellings
pub have_spellings : (s : Spellings) (cs : List coded.Code) → AreSpelled s cs → All (λ c. HasSpelling s (code_of c)) cs
have_spellings s cs are =
    All-from_recursion (λ c. HasSpelling s (code_of c)) cs (each cs (recursion_from_All (λ c. IsInRange are.lists (code_of c)) cs are.in_range))
  where
    each : (cs : List coded.Code) → AllByRecursion (λ c. IsInRange are.lists (code_of c)) cs → AllByRecursion (λ c. HasSpelling s (code_of c)) cs
    each [] h = tt
    each (c ∷ cs) h = (has_spelling are.lists s (code_of c) are.spelled h.0, each cs h.1)
