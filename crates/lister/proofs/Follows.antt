-- The path of a document that is listed, event by event.
use Rattle.std.proofs.Common.{map, get_or, ◌≡◌, ℕ, zero, suc, ◌+◌, ◌<◌, List, [], ◌∷◌, ◌++◌, length, take, append_assoc, refl, sym, ◌∙◌, ap, subst, arith, Some, slice_get}
use Rattle.std.specs.List.{AllByRecursion}
use Rattle.std.proofs.lemmas.List.{length-map}
use Rattle.std.proofs.lemmas.Option.{slice_get-get_or}
use Rattle.rng_model.specs.Texts.{Text}
use Rattle.text_atoms.specs.declared.origin.Origin.{Origin}
use Rattle.name_universe.specs.Tables.{NameTables}
use Rattle.rng_model.specs.Hedges.{Skeleton, document, size}
use Rattle.rng_model.specs.Events.{Event, events}
use Rattle.rng_model.specs.Universe.{Lists}
use Rattle.rng_model.specs.Listing.{IsListed}
use Rattle.rng_model.specs.Codes.{Code, nodes, IsCode, AreCodes}
use Rattle.derivative_laws.proofs.Building.{codes-append}
use Rattle.derivative_laws.proofs.Members.{all-back}
use Rattle.table_laws.specs.Premises.{AreListable}
use Rattle.table_laws.specs.Finishing.{CanTake}
use Rattle.table_laws.specs.Walking.{AreListedCodes}
use Rattle.table_laws.proofs.ListedCodes.{over_events, have_codes, skeleton_codes, goes_take}
use Rattle.table_laws.proofs.Exact.{IsEventOver}
use Rattle.event_codes.specs.Positions.{HasNoCode, lists_of}
use Rattle.feasibility.specs.Tables.{Table, lists}
use Rattle.feasibility.specs.Following.{Takes}
use Rattle.lister.specs.Paths.{Path}
use Rattle.lister.specs.Descents.{LeadsUpTo}

-- the events up to one, that one, and those behind
pub record Parts {X : Type 0} (xs : List X) (i : ℕ) (x : X) : Type 0 where
  pub back : List X
  pub is : xs ≡ take i xs ++ (x ∷ back)
  pub more : take (suc i) xs ≡ take i xs ++ (x ∷ [])

cons_parts : {X : Type 0} (y : X) (xs : List X) (i : ℕ) (x : X) → Parts xs i x → Parts (y ∷ xs) (suc i) x
cons_parts y xs i x p = record { back = p.back; is = ap (λ z. y ∷ z) p.is; more = ap (λ z. y ∷ z) p.more }

pub parts : {X : Type 0} (xs : List X) (i : ℕ) (x : X) → slice_get xs i ≡ Some x → Parts xs i x
parts [] i x e = absurd (cc)
parts (y ∷ xs) zero x e = let f : y ≡ x = cc in record { back = xs; is = ap (λ z. z ∷ xs) f; more = ap (λ z. z ∷ []) f }
parts (y ∷ xs) (suc i) x e = cons_parts y xs i x (parts xs i x e)

module _ (u : Lists) where
  -- among events with codes each has one
  pub has_its_code : (front : List Event) (e : Event) (back : List Event) (cs : List Code) → AreCodes u (front ++ (e ∷ back)) cs → (c : Code) × IsCode u e c
  has_its_code [] e back [] h = absurd h
  has_its_code [] e back (c ∷ cs) h = (c, h.0)
  has_its_code (f ∷ front) e back [] h = absurd h
  has_its_code (f ∷ front) e back (c ∷ cs) h = has_its_code front e back cs h.1

module _ (t : Table) (are : AreListable t.schema (lists t)) (s : Skeleton) (n : ℕ) (listed : IsListed t.schema (lists t) n s) where
  back_codes : (front back : List Event) → events s ≡ front ++ back → (cs : List Code) × AreCodes (lists t) back cs
  back_codes front back e =
      let over : AllByRecursion (IsEventOver (lists t)) (front ++ back) = subst (AllByRecursion (IsEventOver (lists t))) e (over_events t.schema (lists t) (document s) listed.over) in
      have_codes t.schema (lists t) back (all-back (IsEventOver (lists t)) front back over)

  pub no_stray : (i : ℕ) (e : Event) → slice_get (events s) i ≡ Some e → HasNoCode (lists t) e → ⊥
  no_stray i e h none =
      let p = parts (events s) i e h in
      let k = back_codes (take i (events s)) (e ∷ p.back) p.is in
      let c = has_its_code (lists t) [] e p.back k.0 k.1 in
      none c.0 c.1

  -- the state before an event of the document can take its code
  pub takes_code : (i : ℕ) (e : Event) (c : Code) (p : Path) (id left : ℕ) → slice_get (events s) i ≡ Some e → AreCodes (lists t) (take i (events s)) p.codes → IsCode (lists t) e c →
      LeadsUpTo t p id left → nodes p.codes + left ≡ size s → Takes t id left c
  takes_code i e c p id left h codes code l m =
      let q = parts (events s) i e h in
      let k = back_codes (take i (events s) ++ (e ∷ [])) q.back (q.is ∙ sym (append_assoc (take i (events s)) (e ∷ []) q.back)) in
      let whole : AreCodes (lists t) (events s) (p.codes ++ (c ∷ k.0)) = subst (λ x. AreCodes (lists t) x (p.codes ++ (c ∷ k.0))) (sym q.is)
      (codes-append (lists t) (take i (events s)) (e ∷ q.back) p.codes (c ∷ k.0) codes (code, k.1)) in
      let a = skeleton_codes t.schema (lists t) are.unbroken are.ascend n s listed (p.codes ++ (c ∷ k.0)) whole in
      let b : AreListedCodes t.schema (lists t) (nodes p.codes + left) (p.codes ++ (c ∷ k.0)) = subst (λ x. AreListedCodes t.schema (lists t) x (p.codes ++ (c ∷ k.0))) (sym m) a in
      subst (λ x. CanTake t.schema (lists t) left x c) (sym l.state) (goes_take t.schema (lists t) p.codes left c (record { rest = k.0; listed = b }))

  pub codes_more : (i : ℕ) (e : Event) (c : Code) (cs : List Code) → slice_get (events s) i ≡ Some e → AreCodes (lists t) (take i (events s)) cs → IsCode (lists t) e c →
      AreCodes (lists t) (take (i + 1) (events s)) (cs ++ (c ∷ []))
  codes_more i e c cs h codes code =
      let q = parts (events s) i e h in
      let n : suc i ≡ i + 1 = omega arith in
      subst (λ x. AreCodes (lists t) (take x (events s)) (cs ++ (c ∷ []))) n (subst (λ x. AreCodes (lists t) x (cs ++ (c ∷ []))) (sym q.more) (codes-append (lists t) (take i (events s)) (e ∷ []) cs (c ∷ []) codes (code, tt)))

-- an event by its place among those of the code
pub event_at : {X Y : Type 0} (f : X → Y) (xs : List X) (ys : List Y) (i : ℕ) (x : X) → map f xs ≡ ys → i < length xs → x ≡ get_or xs i x → slice_get ys i ≡ Some (f x)
event_at {X = X} f xs ys i x e l h = ap (λ z. slice_get z i) (sym e) ∙ slice_get-get_or (map f xs) i (f x) (let m = length-map xs f in omega arith) ∙ ap Some (go xs i l h)
  where
    go : (zs : List X) (k : ℕ) → k < length zs → x ≡ get_or zs k x → get_or (map f zs) k (f x) ≡ f x
    go [] k l h = refl
    go (z ∷ zs) zero l h = ap f (sym h)
    go (z ∷ zs) (suc k) l h = go zs k (omega arith) h

pub code_for : (t : Table) (v : NameTables) (a : List (Text × Origin)) (e : Event) (c : Code) → v ≡ t.universe → a ≡ t.atoms → IsCode (lists_of v a) e c → IsCode (lists t) e c
code_for t v a e c p q h = subst (λ x. IsCode (lists_of t.universe x) e c) q (subst (λ x. IsCode (lists_of x a) e c) p h)

pub no_code_for : (t : Table) (v : NameTables) (a : List (Text × Origin)) (e : Event) → v ≡ t.universe → a ≡ t.atoms → HasNoCode (lists_of v a) e → HasNoCode (lists t) e
no_code_for t v a e p q h = subst (λ x. HasNoCode (lists_of t.universe x) e) q (subst (λ x. HasNoCode (lists_of x a) e) p h)
