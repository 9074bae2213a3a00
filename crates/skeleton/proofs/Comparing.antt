-- The order of events, kind by kind.
use Rattle.std.proofs.Common.{◌≡◌, List, [], ◌∷◌, ◌++◌, map, refl, sym, ◌∙◌, append-nil}
use Rattle.std.specs.Ordering.{nat_cmp, ordering_then}
use Rattle.std.specs.Cmp.Lexicographic.{slice_cmp}
use Rattle.rng_model.specs.Texts as model
use Rattle.rng_model.specs.Names as names
use Rattle.rng_model.specs.Names.{text_key, name_key, name_cmp}
use Rattle.rng_model.specs.Events.{event_cmp}
use Rattle.name_classes.specs.NameOrder.{text_keys, name_keys, by_parts, then_equal}
use Rattle.skeleton.specs.declared.event.Event.{Event}
use Rattle.skeleton.specs.declared.event.Event.TheVariants.{Opening, Attr, Body, Chars, Closing}
use Rattle.skeleton.specs.contracts.event.EventOrd.TheImpl.{cmp-value}
use Rattle.skeleton.specs.Views.{event_of}

texts : (s t : model.Text) → slice_cmp nat_cmp (text_key s) (text_key t) ≡ slice_cmp nat_cmp s t
texts s t =
    (λ i. slice_cmp nat_cmp (sym (append-nil (text_key s)) i) (sym (append-nil (text_key t)) i)) ∙ text_keys s t [] [] ∙ then_equal (slice_cmp nat_cmp s t)

attributes : (m n : names.Name) (s t : model.Text) → ordering_then (name_cmp m n) (slice_cmp nat_cmp s t) ≡ slice_cmp nat_cmp (name_key m ++ text_key s) (name_key n ++ text_key t)
attributes m n s t = (λ i. ordering_then (by_parts m n i) (sym (texts s t) i)) ∙ sym (name_keys m n (text_key s) (text_key t))

pub as_defined : (e f : Event) → cmp-value.it e f ≡ event_cmp (event_of e) (event_of f)
as_defined Body Body = refl
as_defined Body Closing = refl
as_defined Body (Chars t) = refl
as_defined Body (Attr n t) = refl
as_defined Body (Opening n) = refl
as_defined Closing Body = refl
as_defined Closing Closing = refl
as_defined Closing (Chars t) = refl
as_defined Closing (Attr n t) = refl
as_defined Closing (Opening n) = refl
as_defined (Chars s) Body = refl
as_defined (Chars s) Closing = refl
as_defined (Chars s) (Chars t) = sym (texts s t)
as_defined (Chars s) (Attr n t) = refl
as_defined (Chars s) (Opening n) = refl
as_defined (Attr m s) Body = refl
as_defined (Attr m s) Closing = refl
as_defined (Attr m s) (Chars t) = refl
as_defined (Attr m s) (Attr n t) = attributes m n s t
as_defined (Attr m s) (Opening n) = refl
as_defined (Opening m) Body = refl
as_defined (Opening m) Closing = refl
as_defined (Opening m) (Chars t) = refl
as_defined (Opening m) (Attr n t) = refl
as_defined (Opening m) (Opening n) = refl

-- lists of events, by the order of single ones
pub by_events : (xs ys : List Event) → slice_cmp cmp-value.it xs ys ≡ slice_cmp event_cmp (map event_of xs) (map event_of ys)
by_events [] [] = refl
by_events [] (y ∷ ys) = refl
by_events (x ∷ xs) [] = refl
by_events (x ∷ xs) (y ∷ ys) = λ i. ordering_then (as_defined x y i) (by_events xs ys i)
