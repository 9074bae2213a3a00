-- Bytes that are taken one part after the other.
use Rattle.std.specs.Prelude.{Result, OnErr}
use Rattle.std.specs.Io.KnownBytes.{Appends}
use Rattle.std.proofs.Common.{ℕ, ◌≤◌, List, [], ◌++◌, Option, Some, None, Ok, Err, append_assoc, append-nil, refl, ap, sym, subst, ◌∙◌}
use Rattle.outside.specs.Counts.{Rose}
use Rattle.outside.specs.Devices.{AppendsFront}
use Rattle.summary.specs.Sending.{Sends, Fails}

appends_then : (s t u : Option (List ℕ)) (x y : List ℕ) → Appends s t x → Appends t u y → Appends s u (x ++ y)
appends_then None t u x y first second = tt
appends_then (Some a) None u x y first second = absurd first
appends_then (Some a) (Some b) None x y first second = absurd second
appends_then (Some a) (Some b) (Some c) x y first second = second ∙ ap (λ z. z ++ y) first ∙ append_assoc a x y

front_then : (s t u : Option (List ℕ)) (x y : List ℕ) → Appends s t x → AppendsFront t u y → AppendsFront s u (x ++ y)
front_then None t u x y first second = tt
front_then (Some a) None u x y first second = absurd first
front_then (Some a) (Some b) None x y first second = absurd second
front_then (Some a) (Some b) (Some c) x y first second =
    (x ++ second.0, (second.1.0, ap (λ z. x ++ z) second.1.1 ∙ sym (append_assoc x second.0 second.1.0)), second.2 ∙ ap (λ z. z ++ second.0) first ∙ append_assoc a x second.0)

front_early : (s t : Option (List ℕ)) (x y : List ℕ) → AppendsFront s t x → AppendsFront s t (x ++ y)
front_early None t x y front = tt
front_early (Some a) None x y front = absurd front
front_early (Some a) (Some b) x y front =
    (front.0, (front.1.0 ++ y, ap (λ z. z ++ y) front.1.1 ∙ append_assoc front.0 front.1.0 y), front.2)

nothing_appended : (s : Option (List ℕ)) → Appends s s []
nothing_appended None = tt
nothing_appended (Some a) = sym (append-nil a)

pub sends_nothing : (s : Option (List ℕ)) (f : ℕ) → Sends s s f f []
sends_nothing s f = record { grown = nothing_appended s; told = refl; kept = refl }

pub sends_then : (s t u : Option (List ℕ)) (f g h : ℕ) (x y : List ℕ) → Sends s t f g x → Sends t u g h y → Sends s u f h (x ++ y)
sends_then s t u f g h x y first second = record {
  grown = appends_then s t u x y first.grown second.grown;
  told = second.told ∙ first.told;
  kept = second.kept ∙ first.kept;
}

pub fails_then : (s t u : Option (List ℕ)) (f g h : ℕ) (x y : List ℕ) → Sends s t f g x → Fails t u g h y → Fails s u f h (x ++ y)
fails_then s t u f g h x y first second = record {
  front = front_then s t u x y first.grown second.front;
  told = second.told ∙ first.told;
  later = subst (λ n. n ≤ h) first.kept second.later;
  rose = subst (λ n. Rose n h) first.kept second.rose;
}

pub fails_early : (s t : Option (List ℕ)) (f g : ℕ) (x y : List ℕ) → Fails s t f g x → Fails s t f g (x ++ y)
fails_early s t f g x y failed = record {
  front = front_early s t x y failed.front;
  told = failed.told;
  later = failed.later;
  rose = failed.rose;
}

-- what holds at each error
pub on_err : {T E P : Type 0} (r : Result T E) → P → OnErr r P
on_err (Ok x) p = tt
on_err (Err e) p = p
