-- Codes whose lines are those of the events at their positions.
use Rattle.std.specs.Prelude.{codes}
use Rattle.std.proofs.Common.{◌≡◌, ℕ, List, [], ◌∷◌, ◌++◌, Some, slice_get, get_or, flat_map, append_assoc, refl, ap, sym, subst, ◌∙◌}
use Rattle.std.proofs.lemmas.Option.{get_or_from_slice_get}
use Rattle.rng_model.specs.Texts.{Text}
use Rattle.rng_model.specs.Names.{Name}
use Rattle.rng_model.specs.Events as event
use Rattle.rng_model.specs.Lines.{event_line, name_spelling, text_escape}
use Rattle.rng_model.specs.Universe.{Lists}
use Rattle.rng_model.specs.Codes.{Code, Opening, Attr, Body, Chars, Closing, IsCode}
use Rattle.skeleton.specs.declared.code.Code as coded
use Rattle.skeleton.specs.declared.code.Code.TheVariants as variant
use Rattle.skeleton.specs.Views.{code_of}
use Rattle.event_lines.specs.Parts.{text_line, attribute_line}
use Rattle.event_lines.specs.Coded.{AreCodesOf, no_name, event_at, code_line, events_text, lines_of_codes}

line_is : (u : Lists) (e : event.Event) (c : Code) → IsCode u e c → event_at u c ≡ e
line_is u (event.Opening n) (Opening i) is = ap event.Opening (get_or_from_slice_get u.elements i n no_name is)
line_is u (event.Opening n) (Attr j s) is = absurd is
line_is u (event.Opening n) Body is = absurd is
line_is u (event.Opening n) (Chars s) is = absurd is
line_is u (event.Opening n) Closing is = absurd is
line_is u (event.Attr n t) (Opening i) is = absurd is
line_is u (event.Attr n t) (Attr j s) is = ap (λ m. event.Attr m (get_or u.atoms s [])) (get_or_from_slice_get u.attributes j n no_name is.0) ∙ ap (event.Attr n) (get_or_from_slice_get u.atoms s t [] is.1)
line_is u (event.Attr n t) Body is = absurd is
line_is u (event.Attr n t) (Chars s) is = absurd is
line_is u (event.Attr n t) Closing is = absurd is
line_is u event.Body (Opening i) is = absurd is
line_is u event.Body (Attr j s) is = absurd is
line_is u event.Body Body is = refl
line_is u event.Body (Chars s) is = absurd is
line_is u event.Body Closing is = absurd is
line_is u (event.Chars t) (Opening i) is = absurd is
line_is u (event.Chars t) (Attr j s) is = absurd is
line_is u (event.Chars t) Body is = absurd is
line_is u (event.Chars t) (Chars s) is = ap event.Chars (get_or_from_slice_get u.atoms s t [] is)
line_is u (event.Chars t) Closing is = absurd is
line_is u event.Closing (Opening i) is = absurd is
line_is u event.Closing (Attr j s) is = absurd is
line_is u event.Closing Body is = absurd is
line_is u event.Closing (Chars s) is = absurd is
line_is u event.Closing Closing is = refl

lines_are : (u : Lists) (es : List event.Event) (cs : List coded.Code) → AreCodesOf u es cs → flat_map (code_line u) cs ≡ flat_map event_line es
lines_are u [] [] are = refl
lines_are u [] (c ∷ cs) are = absurd are
lines_are u (e ∷ es) [] are = absurd are
lines_are u (e ∷ es) (c ∷ cs) are =
    ap (λ x. event_line x ++ flat_map (code_line u) cs) (line_is u e (code_of c) are.0)
    ∙ ap (λ q. event_line e ++ q) (lines_are u es cs are.1)

-- the lines of codes are those of their events
pub codes_are : (u : Lists) (es : List event.Event) (cs : List coded.Code) → AreCodesOf u es cs → lines_of_codes u cs ≡ events_text es
codes_are u es cs are = ap (λ q. q ++ codes "\n") (lines_are u es cs are)

pub chars_line : (u : Lists) (c : coded.Code) (s : ℕ) (t : Text) → c ≡ variant.Chars s → slice_get u.atoms s ≡ Some t → text_line 45 t ≡ code_line u c
chars_line u c s t is at =
    subst (λ z. text_line 45 t ≡ code_line u z) (sym is)
    (ap (λ x. event_line (event.Chars x)) (sym (get_or_from_slice_get u.atoms s t [] at)))

attribute_lines : (n : Name) (t : Text) → attribute_line n t ≡ event_line (event.Attr n t)
attribute_lines n t =
    let front = codes "A" ++ name_spelling n in
    let text = flat_map text_escape t in
    sym (append_assoc front (codes " " ++ text) (codes "\n"))
    ∙ ap (λ q. q ++ codes "\n") (sym (append_assoc front (codes " ") text))

pub attr_line : (u : Lists) (names : List Name) (c : coded.Code) (j s : ℕ) (n : Name) (t : Text) → c ≡ variant.Attr j s →
    names ≡ u.attributes → slice_get names j ≡ Some n → slice_get u.atoms s ≡ Some t → attribute_line n t ≡ code_line u c
attr_line u names c j s n t is list name text =
    let found : slice_get u.attributes j ≡ Some n = subst (λ z. slice_get z j ≡ Some n) list name in
    subst (λ z. attribute_line n t ≡ code_line u z) (sym is)
    (attribute_lines n t ∙ ap event_line (sym (line_is u (event.Attr n t) (Attr j s) (found, text))))
