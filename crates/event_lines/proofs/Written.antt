-- What was sent from an empty buffer to an empty one.
use Rattle.std.specs.Prelude.{codes}
use Rattle.std.specs.Io.KnownBytes.{Appends}
use Rattle.std.proofs.Common.{◌≡◌, ℕ, List, [], ◌∷◌, ◌++◌, Option, Some, None, map, flat_map, append-nil, refl, ap, sym, subst, ◌∙◌}
use Rattle.rng_model.specs.Hedges.{Skeleton}
use Rattle.rng_model.specs.Events.{events}
use Rattle.rng_model.specs.Lines.{event_line, skeleton_text}
use Rattle.skeleton.specs.declared.event.Event.{Event}
use Rattle.skeleton.specs.Views.{event_of}
use Rattle.outside.specs.Devices.{AppendsFront}
use Rattle.event_lines.specs.Pieces.{Grows}
use Rattle.event_lines.specs.Parts.{lines_of}

pub appended : (t : Option (List ℕ)) (b : List ℕ) (u : Option (List ℕ)) (c x y : List ℕ) → b ≡ [] → c ≡ [] → x ≡ y →
    Grows t b u c x → Appends t u y
appended None b u c x y start end same grown = tt
appended (Some xs) b None c x y start end same grown = absurd grown
appended (Some xs) b (Some ys) c x y start end same grown =
    grown.1
    ∙ ap (λ q. xs ++ q)
    (sym (append-nil grown.0) ∙ ap (λ q. grown.0 ++ q) (sym end) ∙ sym grown.2 ∙ ap (λ q. q ++ x) start ∙ same)

pub front_appended : (t u : Option (List ℕ)) (b x y : List ℕ) → b ≡ [] → x ≡ y → AppendsFront t u (b ++ x) → AppendsFront t u y
front_appended t u b x y start same front = subst (λ z. AppendsFront t u z) (ap (λ q. q ++ x) start ∙ same) front

lines_of_events : (es : List Event) → flat_map (λ e. event_line (event_of e)) es ≡ flat_map event_line (map event_of es)
lines_of_events [] = refl
lines_of_events (e ∷ es) = ap (λ q. event_line (event_of e) ++ q) (lines_of_events es)

-- the lines of a skeleton's events, and an empty line, are its text
pub lines_of_skeleton : (es : List Event) (s : Skeleton) → map event_of es ≡ events s → lines_of es ≡ skeleton_text s
unfolding skeleton_text
lines_of_skeleton es s are = ap (λ q. q ++ codes "\n") (lines_of_events es ∙ ap (flat_map event_line) are)
