use Rattle.std.proofs.Common.{◌≡◌, [], ap, sym, ◌∙◌, arith, length, length-drop, drop, Option, Some, None, flat_map, append-nil, subst, ◌++◌}
use Rattle.std.specs.Prelude.{IsUtf8, MatchOption}
use Rattle.rng_model.specs.Lines.{text_escape}
use Rattle.rng_model.specs.Texts.{Text}
use Rattle.std.proofs.lemmas.List.{drop_all}
use Rattle.line_reader.specs.Spellings.{StopsAt}
use Rattle.line_reader.specs.declared.escapes.Escapes.TheVariants as escapes
use Rattle.line_reader.proofs.Spelled.{text_whole}
use Rattle.line_reader.proofs.texts.read_text.Goals as goal

pub returns-then-len-bytes : goal.returns-then-len-bytes
returns-then-len-bytes c = λ text utf8 spelled.
    let s = text_whole c.in_ok-spelled.spelled.items (drop c.in_ok-spelled.len c.args.bytes.now) c.args.bytes.now c.in_ok-spelled.ensures.front c.in_ok-spelled.ensures.longest text spelled in
    absurd (omega (arith, ap length s.1, length-drop c.in_ok-spelled.len c.args.bytes.now))

read : (r : Option Text) (v rest bytes : Text) → bytes ≡ flat_map text_escape v ++ rest → StopsAt escapes.Text rest → rest ≡ [] →
    MatchOption r (IsUtf8 v → ⊥) (λ t. t ≡ v) →
    MatchOption r ((t : Text) → IsUtf8 t → flat_map text_escape t ≡ bytes → ⊥) (λ t. flat_map text_escape t ≡ bytes)
read None v rest bytes front stops none h = λ t utf8 e. h (subst IsUtf8 (text_whole v rest bytes front stops t e).0 utf8)
read (Some t) v rest bytes front stops none h =
    ap (flat_map text_escape) h ∙ sym (front ∙ ap (λ z. flat_map text_escape v ++ z) none ∙ append-nil (flat_map text_escape v))

pub returns : goal.returns
returns c =
    read c.text_of.result c.in_ok-spelled.spelled.items (drop c.in_ok-spelled.len c.args.bytes.now) c.args.bytes.now c.in_ok-spelled.ensures.front c.in_ok-spelled.ensures.longest
    (drop_all c.in_ok-spelled.len c.args.bytes.now c.if-len-bytes.false) c.text_of.ensures
