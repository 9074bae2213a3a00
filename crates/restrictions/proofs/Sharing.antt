-- Names that both sides have, and overlaps of their classes.
use Rattle.std.proofs.Common.{◌≡◌, ◌↔◌, ℕ, inl, inr, true, Bool, ◌&&◌, Option, None, Some, Contains, slice_get, refl, sym, ◌∙◌, ap}
use Rattle.rng_model.specs.Names.{Name, IsName}
use Rattle.rng_model.specs.Classes.{Class, in_class, InClass}
use Rattle.rng_model.specs.Patterns.{Pattern, Schema, Definition, Defines, not_allowed, empty, text, ref, value, data_type, data_except, attribute, one_or_more, choice, group, interleave, after}
use Rattle.rng_model.specs.Inside.{Within, IsAttributeOf}
use Rattle.rng_model.specs.Restrictions.{SidesOverlap, AttributesOverlap, HasRefTo, RefsOverlap}
use Rattle.rng_model.specs.Universe.{IsAttributeClass, IsElementClass}
use Rattle.name_universe.specs.Tables.{NameTable, IsTableOf}
use Rattle.restrictions.specs.Rules.{Breaks}
use Rattle.restrictions.specs.Shared.{in_definition, named, shared, IsShared}
use Rattle.restrictions.specs.Truths.{within}
use Rattle.restrictions.specs.declared.shared.Sought.{Sought}
use Rattle.restrictions.specs.declared.shared.Sought.TheVariants.{Attributes, Elements}
use Rattle.restrictions.specs.declared.rule.Rule.TheVariants.{DuplicateAttributes, InterleaveElements}
use Rattle.restrictions.proofs.Reflecting.{and_true, within_is}
use Rattle.restrictions.proofs.Within.{within_map, some_within, within_kept, AllInside}
use Rattle.restrictions.proofs.Meeting.{overlap_met}

both : (a b : Bool) → (a && b) ≡ true → (a ≡ true) × (b ≡ true)
both a b = (and_true a b (λ e. e, λ e. e) (λ e. e, λ e. e)).0

two : (a b : Bool) → a ≡ true → b ≡ true → (a && b) ≡ true
two a b e f = (and_true a b (λ x. x, λ x. x) (λ x. x, λ x. x)).1 (e, f)

-- the truth value of what stands inside, by any truth value
within_true : (k : Pattern → Bool) (p : Pattern) → (within k p ≡ true) ↔ Within (λ q. k q ≡ true) p
within_true k = within_is (λ q. k q ≡ true) k (λ q. (λ e. e, λ e. e))

module _ (g : Schema) (n : Name) where
  -- an attribute that can have the name
  abbrev IsNamed : Pattern → Type 0
  IsNamed p = (c : Class) × IsAttributeOf c p × InClass n c

  named_is : (p : Pattern) → (named g Attributes n p ≡ true) ↔ IsNamed p
  named_is (attribute c p) = (λ e. (c, (p, refl), e), λ x. let e : c ≡ x.0 = ap class_in x.1.1 in ap (in_class n) e ∙ x.2)
    where
      class_in : Pattern → Class
      class_in (attribute d q) = d
      class_in _ = c
  named_is not_allowed = (λ e. absurd (cc), λ x. let e = x.1.1 in absurd (cc))
  named_is empty = (λ e. absurd (cc), λ x. let e = x.1.1 in absurd (cc))
  named_is text = (λ e. absurd (cc), λ x. let e = x.1.1 in absurd (cc))
  named_is (ref d) = (λ e. absurd (cc), λ x. let e = x.1.1 in absurd (cc))
  named_is (value kind t) = (λ e. absurd (cc), λ x. let e = x.1.1 in absurd (cc))
  named_is (data_type kind) = (λ e. absurd (cc), λ x. let e = x.1.1 in absurd (cc))
  named_is (data_except kind e) = (λ e. absurd (cc), λ x. let e = x.1.1 in absurd (cc))
  named_is (one_or_more p) = (λ e. absurd (cc), λ x. let e = x.1.1 in absurd (cc))
  named_is (choice p q) = (λ e. absurd (cc), λ x. let e = x.1.1 in absurd (cc))
  named_is (group p q) = (λ e. absurd (cc), λ x. let e = x.1.1 in absurd (cc))
  named_is (interleave p q) = (λ e. absurd (cc), λ x. let e = x.1.1 in absurd (cc))
  named_is (after p q) = (λ e. absurd (cc), λ x. let e = x.1.1 in absurd (cc))

  -- a pattern with such an attribute inside
  abbrev HasNamed : Pattern → Type 0
  HasNamed p = (c : Class) × Within (IsAttributeOf c) p × InClass n c

  has_named : (p : Pattern) → within (named g Attributes n) p ≡ true → HasNamed p
  has_named p e = some_within Class IsAttributeOf (InClass n) p ((within_is IsNamed (named g Attributes n) named_is p).0 e)

  is_within : (p : Pattern) → HasNamed p → within (named g Attributes n) p ≡ true
  is_within p x = (within_is IsNamed (named g Attributes n) named_is p).1 (within_map (IsAttributeOf x.0) IsNamed (λ q a. (x.0, a, x.2)) p x.1)

  module _ (is : IsName n) where
    sides : (p q : Pattern) → within (named g Attributes n) p ≡ true → within (named g Attributes n) q ≡ true → AttributesOverlap p q
    sides p q e f = let a = has_named p e in let b = has_named q f in (a.0, b.0, a.1, b.1, record { name = n; is_name = is; left = a.2; right = b.2 })

    sides_overlap : (p : Pattern) → shared g Attributes n p ≡ true → SidesOverlap p
    sides_overlap (group p q) e = let t = both _ _ e in sides p q t.0 t.1
    sides_overlap (interleave p q) e = let t = both _ _ e in sides p q t.0 t.1
    sides_overlap _ e = absurd (cc)

    pub attributes_break : IsShared g Attributes n → Breaks g DuplicateAttributes
    attributes_break (inl e) = inl (within_map (λ q. shared g Attributes n q ≡ true) SidesOverlap sides_overlap g.start ((within_true (shared g Attributes n) g.start).0 e))
    attributes_break (inr (d, c, is, e)) = inr (d, c, is, within_map (λ q. shared g Attributes n q ≡ true) SidesOverlap sides_overlap c.content ((within_true (shared g Attributes n) c.content).0 e))

  -- a reference to an element that can have the name
  abbrev IsNamedRef : Pattern → Type 0
  IsNamedRef p = (d : ℕ) × (p ≡ ref d) × (in_definition n (slice_get g.elements d) ≡ true)

  named_ref_is : (p : Pattern) → (named g Elements n p ≡ true) ↔ IsNamedRef p
  named_ref_is (ref d) = (λ e. (d, refl, e), λ x. let e : d ≡ x.0 = ap number_in x.1 in ap (λ k. in_definition n (slice_get g.elements k)) e ∙ x.2)
    where
      number_in : Pattern → ℕ
      number_in (ref k) = k
      number_in _ = d
  named_ref_is not_allowed = (λ e. absurd (cc), λ x. let e = x.1 in absurd (cc))
  named_ref_is empty = (λ e. absurd (cc), λ x. let e = x.1 in absurd (cc))
  named_ref_is text = (λ e. absurd (cc), λ x. let e = x.1 in absurd (cc))
  named_ref_is (attribute c p) = (λ e. absurd (cc), λ x. let e = x.1 in absurd (cc))
  named_ref_is (value kind t) = (λ e. absurd (cc), λ x. let e = x.1 in absurd (cc))
  named_ref_is (data_type kind) = (λ e. absurd (cc), λ x. let e = x.1 in absurd (cc))
  named_ref_is (data_except kind e) = (λ e. absurd (cc), λ x. let e = x.1 in absurd (cc))
  named_ref_is (one_or_more p) = (λ e. absurd (cc), λ x. let e = x.1 in absurd (cc))
  named_ref_is (choice p q) = (λ e. absurd (cc), λ x. let e = x.1 in absurd (cc))
  named_ref_is (group p q) = (λ e. absurd (cc), λ x. let e = x.1 in absurd (cc))
  named_ref_is (interleave p q) = (λ e. absurd (cc), λ x. let e = x.1 in absurd (cc))
  named_ref_is (after p q) = (λ e. absurd (cc), λ x. let e = x.1 in absurd (cc))

  defined : (d : ℕ) → in_definition n (slice_get g.elements d) ≡ true → (e : Definition) × Defines g d e × InClass n e.class
  defined d = go (slice_get g.elements d) refl
    where
      go : (o : Option Definition) → slice_get g.elements d ≡ o → in_definition n o ≡ true → (e : Definition) × Defines g d e × InClass n e.class
      go None q h = absurd (cc)
      go (Some x) q h = (x, q, h)

  -- a pattern with such a reference inside
  abbrev HasNamedRef : Pattern → Type 0
  HasNamedRef p = (c : Class) × HasRefTo g c p × InClass n c

  has_named_ref : (p : Pattern) → within (named g Elements n) p ≡ true → HasNamedRef p
  has_named_ref p e =
      let t = some_within ℕ (λ d r. r ≡ ref d) (λ d. in_definition n (slice_get g.elements d) ≡ true) p ((within_is IsNamedRef (named g Elements n) named_ref_is p).0 e) in
      let u = defined t.0 t.2 in
      (u.0.class, (t.0, u.0, u.1, refl, t.1), u.2)

  is_ref_within : (p : Pattern) → HasNamedRef p → within (named g Elements n) p ≡ true
  is_ref_within p (c, (d, e, is, same, w), h) =
      let k : in_class n e.class ≡ true = sym (ap (in_class n) same) ∙ h in
      let l : in_definition n (slice_get g.elements d) ≡ true = ap (in_definition n) is ∙ k in
      (within_is IsNamedRef (named g Elements n) named_ref_is p).1 (within_map (λ r. r ≡ ref d) IsNamedRef (λ q a. (d, a, l)) p w)

  module _ (is : IsName n) where
    refs_overlap : (p : Pattern) → shared g Elements n p ≡ true → RefsOverlap g p
    refs_overlap (interleave p q) e =
        let t = both _ _ e in
        let a = has_named_ref p t.0 in
        let b = has_named_ref q t.1 in
        (a.0, b.0, a.1, b.1, record { name = n; is_name = is; left = a.2; right = b.2 })
    refs_overlap _ e = absurd (cc)

    pub refs_break : IsShared g Elements n → Breaks g InterleaveElements
    refs_break (inl e) = inl (within_map (λ q. shared g Elements n q ≡ true) (RefsOverlap g) refs_overlap g.start ((within_true (shared g Elements n) g.start).0 e))
    refs_break (inr (d, c, is, e)) = inr (d, c, is, within_map (λ q. shared g Elements n q ≡ true) (RefsOverlap g) refs_overlap c.content ((within_true (shared g Elements n) c.content).0 e))

module _ (g : Schema) (t : NameTable) where
  abbrev Shares : Sought → Pattern → Type 0
  Shares k p = (n : Name) × (shared g k n p ≡ true) × Contains t.names n

  -- a name of the table that is shared inside the pattern
  inside : (k : Sought) (p : Pattern) → Within (Shares k) p → (n : Name) × (within (shared g k n) p ≡ true) × Contains t.names n
  inside k p w = let s = some_within Name (λ n q. shared g k n q ≡ true) (Contains t.names) p w in (s.0, (within_true (shared g k s.0) p).1 s.1, s.2)

  module _ (is : IsTableOf (IsAttributeClass g) 1 t) where
    abbrev OverlapInside : Pattern → Type 0
    OverlapInside p = SidesOverlap p × AllInside Class IsAttributeOf (IsAttributeClass g) SidesOverlap p

    named_by : (c : Class) (p : Pattern) (m : Name) → Within (IsAttributeOf c) p → InClass m c → within (named g Attributes m) p ≡ true
    named_by c p m w h = is_within g m p (c, w, h)

    met_sides : (p q : Pattern) → AttributesOverlap p q → ((c : Class) → Within (IsAttributeOf c) p → IsAttributeClass g c) → ((c : Class) → Within (IsAttributeOf c) q → IsAttributeClass g c) →
        (n : Name) × ((within (named g Attributes n) p && within (named g Attributes n) q) ≡ true) × Contains t.names n
    met_sides p q (c, d, w, x, o) h k =
        let m = overlap_met (IsAttributeClass g) t is c d (h c w) (k d x) o in
        (m.0, two _ _ (named_by c p m.0 w m.2) (named_by d q m.0 x m.3), m.1)

    attributes_share : (p : Pattern) → OverlapInside p → Shares Attributes p
    attributes_share (group p q) (o, h) = met_sides p q o (λ c w. h c (inr (inl w))) (λ c w. h c (inr (inr w)))
    attributes_share (interleave p q) (o, h) = met_sides p q o (λ c w. h c (inr (inl w))) (λ c w. h c (inr (inr w)))
    attributes_share not_allowed (o, h) = absurd o
    attributes_share empty (o, h) = absurd o
    attributes_share text (o, h) = absurd o
    attributes_share (ref d) (o, h) = absurd o
    attributes_share (value kind s) (o, h) = absurd o
    attributes_share (data_type kind) (o, h) = absurd o
    attributes_share (data_except kind e) (o, h) = absurd o
    attributes_share (attribute c p) (o, h) = absurd o
    attributes_share (one_or_more p) (o, h) = absurd o
    attributes_share (choice p q) (o, h) = absurd o
    attributes_share (after p q) (o, h) = absurd o

    shared_in : (p : Pattern) → AllInside Class IsAttributeOf (IsAttributeClass g) SidesOverlap p → Within SidesOverlap p → (n : Name) × (within (shared g Attributes n) p ≡ true) × Contains t.names n
    shared_in p h w = inside Attributes p (within_map OverlapInside (Shares Attributes) attributes_share p (within_kept Class IsAttributeOf (IsAttributeClass g) SidesOverlap p h w))

    pub attributes_found : Breaks g DuplicateAttributes → (n : Name) × IsShared g Attributes n × Contains t.names n
    attributes_found (inl w) = let s = shared_in g.start (λ c x. inl x) w in (s.0, inl s.1, s.2)
    attributes_found (inr (d, e, def, w)) = let s = shared_in e.content (λ c x. inr (d, e, def, x)) w in (s.0, inr (d, e, def, s.1), s.2)

  module _ (is : IsTableOf (IsElementClass g) 1 t) where
    of_element : (c : Class) (p : Pattern) → HasRefTo g c p → IsElementClass g c
    of_element c p (d, e, def, same, w) = (d, e, def, same)

    refs_share : (p : Pattern) → RefsOverlap g p → Shares Elements p
    refs_share (interleave p q) (c, d, w, x, o) =
        let m = overlap_met (IsElementClass g) t is c d (of_element c p w) (of_element d q x) o in
        (m.0, two _ _ (is_ref_within g m.0 p (c, w, m.2)) (is_ref_within g m.0 q (d, x, m.3)), m.1)
    refs_share not_allowed o = absurd o
    refs_share empty o = absurd o
    refs_share text o = absurd o
    refs_share (ref d) o = absurd o
    refs_share (value kind s) o = absurd o
    refs_share (data_type kind) o = absurd o
    refs_share (data_except kind e) o = absurd o
    refs_share (attribute c p) o = absurd o
    refs_share (one_or_more p) o = absurd o
    refs_share (choice p q) o = absurd o
    refs_share (group p q) o = absurd o
    refs_share (after p q) o = absurd o

    pub refs_found : Breaks g InterleaveElements → (n : Name) × IsShared g Elements n × Contains t.names n
    refs_found (inl w) = let s = inside Elements g.start (within_map (RefsOverlap g) (Shares Elements) refs_share g.start w) in (s.0, inl s.1, s.2)
    refs_found (inr (d, e, def, w)) =
        let s = inside Elements e.content (within_map (RefsOverlap g) (Shares Elements) refs_share e.content w) in
        (s.0, inr (d, e, def, s.1), s.2)
