-- Codes that can be read are the codes of a skeleton.
use Rattle.std.proofs.Common.{◌≡◌, ℕ, zero, suc, ◌+◌, ◌<◌, ◌≤◌, inl, inr, List, [], ◌∷◌, ◌++◌, map, refl, sym, ◌∙◌, ap, false, IsTrue, length, get_or, arith, Some, slice_get, append_assoc, length-append, subst}
use Rattle.std.specs.Prelude.{⊤, IsUtf8}
use Rattle.std.specs.List.{AllByRecursion}
use Rattle.std.specs.List.Sorted.{IsStrictlySortedBy}
use Rattle.std.specs.declared.cmp.Ordering.TheVariants.{Less}
use Rattle.std.proofs.lemmas.Option.{slice_get-get_or}
use Rattle.rng_model.specs.Texts.{is_white}
use Rattle.rng_model.specs.Names.{Name, IsName, name_cmp}
use Rattle.rng_model.specs.Patterns.{Schema, IsSimpleForm}
use Rattle.rng_model.specs.Hedges.{none, element, text, Hedge, Attributes, AreChildren, AreAttributes, Skeleton, IsSkeleton}
use Rattle.rng_model.specs.Events.{Event, hedge_events, events}
use Rattle.rng_model.specs.Events as event
use Rattle.rng_model.specs.Universe.{Lists, IsAlphabet}
use Rattle.rng_model.specs.Matching.{nullable}
use Rattle.rng_model.specs.Restrictions.{BreaksNoRule}
use Rattle.rng_model.specs.Codes.{Code, IsInRange, AreCodes}
use Rattle.rng_model.specs.States.{Place, Tag, Fresh, AfterText, AfterElement, after_codes, no_name}
use Rattle.derivative_laws.proofs.CodesLaw.{MayBegin}
use Rattle.derivative_laws.proofs.Accepting.{Reads, ReadsRoot, reads_root, start_refs}

pub codes-append : (u : Lists) (xs ys : List Event) (cs ds : List Code) → AreCodes u xs cs → AreCodes u ys ds → AreCodes u (xs ++ ys) (cs ++ ds)
codes-append u [] ys [] ds h k = k
codes-append u [] ys (c ∷ cs) ds h k = absurd h
codes-append u (x ∷ xs) ys [] ds h k = absurd h
codes-append u (x ∷ xs) ys (c ∷ cs) ds h k = (h.0, codes-append u xs ys cs ds h.1 k)

all_in : {X : Type 0} (P : X → Type 0) (xs : List X) (i : ℕ) (d : X) → AllByRecursion P xs → i < length xs → P (get_or xs i d)
all_in P [] i d h l = absurd (omega arith)
all_in P (x ∷ xs) zero d h l = h.0
all_in P (x ∷ xs) (suc i) d h l = all_in P xs i d h.1 (omega arith)

all_got : {X : Type 0} (P : X → Type 0) (xs : List X) (i : ℕ) (x : X) → AllByRecursion P xs → slice_get xs i ≡ Some x → P x
all_got P [] i n h e = absurd (cc)
all_got P (x ∷ xs) zero n h e = let f : x ≡ n = cc in rw f at (h.0)
all_got P (x ∷ xs) (suc i) n h e = all_got P xs i n h.1 e

less_at : (xs : List Name) (i j : ℕ) (m n : Name) → IsStrictlySortedBy name_cmp xs → slice_get xs i ≡ Some m → slice_get xs j ≡ Some n → i < j → name_cmp m n ≡ Less
unfolding IsStrictlySortedBy
less_at [] i j m n s e f l = absurd (cc)
less_at (x ∷ xs) zero zero m n s e f l = absurd (omega arith)
less_at (x ∷ xs) zero (suc j) m n s e f l = let h : x ≡ m = cc in let k = all_got (λ y. name_cmp x y ≡ Less) xs j n s.0 f in rw h at k
less_at (x ∷ xs) (suc i) zero m n s e f l = absurd (omega arith)
less_at (x ∷ xs) (suc i) (suc j) m n s e f l = less_at xs i j m n s.1 e f (omega arith)

shorter : (xs ys : List Code) (c : Code) (zs : List Code) → zs ≡ xs ++ (c ∷ ys) → length ys + 1 ≤ length zs
shorter xs ys c zs e = omega (arith, length-append xs (c ∷ ys), ap length e)

module _ (g : Schema) (u : Lists) (alphabet : IsAlphabet u) where
  -- children, up to the end of their element
  record Content (d : ℕ) (pl : Place) (cs : List Code) : Type 0 where
    children : Hedge
    are : AreChildren children
    begins : MayBegin g u pl children
    front : List Code
    back : List Code
    is : cs ≡ front ++ (Code.Closing ∷ back)
    codes : AreCodes u (hedge_events children) front
    rest : Reads g u d AfterElement back

  -- attributes and children, up to the end of their element
  record Opened (d k : ℕ) (cs : List Code) : Type 0 where
    attributes : Attributes
    behind : AllByRecursion (λ x. (j : ℕ) × (k ≤ j) × (slice_get u.attributes j ≡ Some x.0)) attributes
    are_attributes : AreAttributes attributes
    children : Hedge
    are : AreChildren children
    first : List Code
    front : List Code
    back : List Code
    is : cs ≡ (first ++ (Code.Body ∷ front)) ++ (Code.Closing ∷ back)
    attribute_codes : AreCodes u (map (λ x. event.Attr x.0 x.1) attributes) first
    codes : AreCodes u (hedge_events children) front
    rest : Reads g u d AfterElement back

  end_content : (d : ℕ) (pl : Place) (cs : List Code) → MayBegin g u pl none → Reads g u d AfterElement cs → Content d pl (Code.Closing ∷ cs)
  end_content d pl cs b r = record { children = none; are = tt; begins = b; front = []; back = cs; is = refl; codes = tt; rest = r }

  text_content : (d : ℕ) (pl : Place) (s : ℕ) (cs : List Code) → s < length u.atoms → is_white (get_or u.atoms s []) ≡ false → MayBegin g u pl (text (get_or u.atoms s []) none) →
      ((m : Hedge) → MayBegin g u pl (text (get_or u.atoms s []) none) → MayBegin g u pl (text (get_or u.atoms s []) m)) → Content d AfterText cs → Content d pl (Code.Chars s ∷ cs)
  text_content d pl s cs l ink b f t = record {
    children = text (get_or u.atoms s []) t.children;
    are = (all_in IsUtf8 u.atoms s [] alphabet.atoms l, ink, t.begins, t.are);
    begins = f t.children b;
    front = Code.Chars s ∷ t.front;
    back = t.back;
    is = ap (λ z. Code.Chars s ∷ z) t.is;
    codes = (slice_get-get_or u.atoms s [] l, t.codes);
    rest = t.rest;
  }

  regroup : (first front back : List Code) → (first ++ (Code.Body ∷ front)) ++ (Code.Closing ∷ back) ≡ first ++ (Code.Body ∷ (front ++ (Code.Closing ∷ back)))
  regroup first front back = simp append_assoc

  element_content : (d : ℕ) (pl : Place) (i : ℕ) (cs : List Code) → i < length u.elements → ((m : Hedge) (a : Attributes) (k : Hedge) → MayBegin g u pl (element (get_or u.elements i no_name) a k m)) →
      (t : Opened (suc d) 0 cs) → Content d AfterElement t.back → Content d pl (Code.Opening i ∷ cs)
  element_content d pl i cs l b t r =
      let n : Name = get_or u.elements i no_name in
      record {
        children = element n t.attributes t.children r.children;
        are = (all_in IsName u.elements i no_name alphabet.elements l, t.are_attributes, t.are, r.are);
        begins = b r.children t.attributes t.children;
        front = (Code.Opening i ∷ (t.first ++ (Code.Body ∷ t.front))) ++ (Code.Closing ∷ r.front);
        back = r.back;
        is =
            ap (λ z. Code.Opening i ∷ z) (t.is ∙ ap (λ z. (t.first ++ (Code.Body ∷ t.front)) ++ (Code.Closing ∷ z)) r.is
            ∙ sym (append_assoc (t.first ++ (Code.Body ∷ t.front)) (Code.Closing ∷ r.front) (Code.Closing ∷ r.back)));
        codes =
            codes-append u ((event.Opening n ∷ map (λ x. event.Attr x.0 x.1) t.attributes) ++ (event.Body ∷ hedge_events t.children)) (event.Closing ∷ hedge_events r.children)
            ((Code.Opening i ∷ t.first) ++ (Code.Body ∷ t.front)) (Code.Closing ∷ r.front)
            (codes-append u (event.Opening n ∷ map (λ x. event.Attr x.0 x.1) t.attributes) (event.Body ∷ hedge_events t.children) (Code.Opening i ∷ t.first) (Code.Body ∷ t.front)
            (slice_get-get_or u.elements i no_name l, t.attribute_codes) (tt, t.codes))
            (tt, r.codes);
        rest = r.rest;
      }

  body_opened : (d k : ℕ) (cs : List Code) → Content d Fresh cs → Opened d k (Code.Body ∷ cs)
  unfolding IsStrictlySortedBy
  body_opened d k cs t = record {
    attributes = [];
    behind = tt;
    are_attributes = record { ascending = tt; each = tt };
    children = t.children;
    are = t.are;
    first = [];
    front = t.front;
    back = t.back;
    is = ap (λ z. Code.Body ∷ z) t.is;
    attribute_codes = tt;
    codes = t.codes;
    rest = t.rest;
  }

  weaken : (k j : ℕ) → k ≤ j + 1 → (a : Attributes) → AllByRecursion (λ x. (i : ℕ) × (j + 1 ≤ i) × (slice_get u.attributes i ≡ Some x.0)) a → AllByRecursion (λ x. (i : ℕ) × (k ≤ i) × (slice_get u.attributes i ≡ Some x.0)) a
  weaken k j l [] h = tt
  weaken k j l (x ∷ a) h = let e = h.0.1 in ((h.0.0, omega arith, h.0.2), weaken k j l a h.1)

  all_less : (n : Name) (j : ℕ) → slice_get u.attributes j ≡ Some n → (a : Attributes) → AllByRecursion (λ x. (i : ℕ) × (j + 1 ≤ i) × (slice_get u.attributes i ≡ Some x.0)) a → AllByRecursion (λ y. name_cmp n y ≡ Less) (map (λ x. x.0) a)
  all_less n j e [] h = tt
  all_less n j e (x ∷ a) h = let l = h.0.1 in (less_at u.attributes j h.0.0 n x.0 alphabet.ascending e h.0.2 (omega arith), all_less n j e a h.1)

  attribute_opened : (d k j s : ℕ) (cs : List Code) → k ≤ j → j < length u.attributes → s < length u.atoms → Opened d (j + 1) cs → Opened d k (Code.Attr j s ∷ cs)
  unfolding IsStrictlySortedBy
  attribute_opened d k j s cs l in_names in_atoms t =
      let n : Name = get_or u.attributes j no_name in
      let at : slice_get u.attributes j ≡ Some n = slice_get-get_or u.attributes j no_name in_names in
      record {
        attributes = (n, get_or u.atoms s []) ∷ t.attributes;
        behind = ((j, l, at), weaken k j (omega arith) t.attributes t.behind);
        are_attributes = record {
          ascending = (all_less n j at t.attributes t.behind, t.are_attributes.ascending);
          each = ((all_in IsName u.attributes j no_name alphabet.attributes in_names, all_in IsUtf8 u.atoms s [] alphabet.atoms in_atoms), t.are_attributes.each);
        };
        children = t.children;
        are = t.are;
        first = Code.Attr j s ∷ t.first;
        front = t.front;
        back = t.back;
        is = ap (λ z. Code.Attr j s ∷ z) t.is;
        attribute_codes = ((at, slice_get-get_or u.atoms s [] in_atoms), t.attribute_codes);
        codes = t.codes;
        rest = t.rest;
      }

  abbrev IsContentPlace : Place → Type 0
  IsContentPlace (Tag k) = ⊥
  IsContentPlace Fresh = ⊤
  IsContentPlace AfterText = ⊤
  IsContentPlace AfterElement = ⊤

  back_shorter : (cs : List Code) (n d k : ℕ) (t : Opened d k cs) → length cs ≤ n → length t.back ≤ n
  back_shorter cs n d k t l = omega (arith, shorter (t.first ++ (Code.Body ∷ t.front)) t.back Code.Closing cs t.is)

  -- the number bounds the codes that are left
  mutual
    content : (n d : ℕ) (pl : Place) (cs : List Code) → length cs ≤ n → IsContentPlace pl → Reads g u (suc d) pl cs → Content d pl cs
    content zero d pl [] l p r = absurd r
    content zero d pl (c ∷ cs) l p r = absurd (omega arith)
    content (suc n) d pl [] l p r = absurd r
    content (suc n) d (Tag k) (c ∷ cs) l p r = absurd p
    content (suc n) d Fresh (Code.Closing ∷ cs) l p r = end_content d Fresh cs (tt) r
    content (suc n) d Fresh (Code.Opening i ∷ cs) l p r =
        let t = opened n (suc d) 0 cs (omega arith) r.1 in
        element_content d Fresh i cs r.0 (λ m a k. tt) t (content n d AfterElement t.back (back_shorter cs n (suc d) 0 t (omega arith)) tt t.rest)
    content (suc n) d Fresh (Code.Chars s ∷ cs) l p r = text_content d Fresh s cs r.0 r.1 tt (λ m b. tt) (content n d AfterText cs (omega arith) tt r.2)
    content (suc n) d Fresh (Code.Attr j s ∷ cs) l p r = absurd r
    content (suc n) d Fresh (Code.Body ∷ cs) l p r = absurd r
    content (suc n) d AfterText (Code.Closing ∷ cs) l p r = end_content d AfterText cs (λ h. h) r
    content (suc n) d AfterText (Code.Opening i ∷ cs) l p r =
        let t = opened n (suc d) 0 cs (omega arith) r.1 in
        element_content d AfterText i cs r.0 (λ m a k h. h) t (content n d AfterElement t.back (back_shorter cs n (suc d) 0 t (omega arith)) tt t.rest)
    content (suc n) d AfterText (Code.Chars s ∷ cs) l p r = absurd r
    content (suc n) d AfterText (Code.Attr j s ∷ cs) l p r = absurd r
    content (suc n) d AfterText (Code.Body ∷ cs) l p r = absurd r
    content (suc n) d AfterElement (Code.Closing ∷ cs) l p r = end_content d AfterElement cs (tt) r
    content (suc n) d AfterElement (Code.Opening i ∷ cs) l p r =
        let t = opened n (suc d) 0 cs (omega arith) r.1 in
        element_content d AfterElement i cs r.0 (λ m a k. tt) t (content n d AfterElement t.back (back_shorter cs n (suc d) 0 t (omega arith)) tt t.rest)
    content (suc n) d AfterElement (Code.Chars s ∷ cs) l p r = text_content d AfterElement s cs r.0 r.1 tt (λ m b. tt) (content n d AfterText cs (omega arith) tt r.2)
    content (suc n) d AfterElement (Code.Attr j s ∷ cs) l p r = absurd r
    content (suc n) d AfterElement (Code.Body ∷ cs) l p r = absurd r

    opened : (n d k : ℕ) (cs : List Code) → length cs ≤ n → Reads g u (suc d) (Tag k) cs → Opened d k cs
    opened zero d k [] l r = absurd r
    opened zero d k (c ∷ cs) l r = absurd (omega arith)
    opened (suc n) d k [] l r = absurd r
    opened (suc n) d k (Code.Body ∷ cs) l r = body_opened d k cs (content n d Fresh cs (omega arith) tt r)
    opened (suc n) d k (Code.Attr j s ∷ cs) l r = attribute_opened d k j s cs r.0 r.1.0 r.1.1 (opened n d (j + 1) cs (omega arith) r.2)
    opened (suc n) d k (Code.Opening i ∷ cs) l r = absurd r
    opened (suc n) d k (Code.Chars s ∷ cs) l r = absurd r
    opened (suc n) d k (Code.Closing ∷ cs) l r = absurd r

  -- a skeleton with these codes
  pub record HasSkeleton (cs : List Code) : Type 0 where
    pub skeleton : Skeleton
    pub is : IsSkeleton skeleton
    pub codes : AreCodes u (events skeleton) cs

  moved : (es : List Event) (cs ds : List Code) → cs ≡ ds → AreCodes u es cs → AreCodes u es ds
  moved es cs ds e h = subst (λ z. AreCodes u es z) e h

  root : (i : ℕ) (cs : List Code) → i < length u.elements → Opened 0 0 cs → HasSkeleton (Code.Opening i ∷ cs)
  root i cs l t = record {
    skeleton = record { name = n; attributes = t.attributes; children = t.children };
    is = record { name = all_in IsName u.elements i no_name alphabet.elements l; attributes = t.are_attributes; children = t.are };
    codes =
        let all : AreCodes u (events (record { name = n; attributes = t.attributes; children = t.children })) ((Code.Opening i ∷ (t.first ++ (Code.Body ∷ t.front))) ++ (Code.Closing ∷ [])) =
        codes-append u ((event.Opening n ∷ map (λ x. event.Attr x.0 x.1) t.attributes) ++ (event.Body ∷ hedge_events t.children)) (event.Closing ∷ [])
        ((Code.Opening i ∷ t.first) ++ (Code.Body ∷ t.front)) (Code.Closing ∷ [])
        (codes-append u (event.Opening n ∷ map (λ x. event.Attr x.0 x.1) t.attributes) (event.Body ∷ hedge_events t.children) (Code.Opening i ∷ t.first) (Code.Body ∷ t.front)
        (slice_get-get_or u.elements i no_name l, t.attribute_codes) (tt, t.codes))
        (tt, tt) in
        let e : (Code.Opening i ∷ (t.first ++ (Code.Body ∷ t.front))) ++ (Code.Closing ∷ []) ≡ Code.Opening i ∷ cs =
        ap (λ z. Code.Opening i ∷ z) (ap (λ z. (t.first ++ (Code.Body ∷ t.front)) ++ (Code.Closing ∷ z)) (sym t.rest) ∙ sym t.is) in
        moved (events (record { name = n; attributes = t.attributes; children = t.children })) ((Code.Opening i ∷ (t.first ++ (Code.Body ∷ t.front))) ++ (Code.Closing ∷ [])) (Code.Opening i ∷ cs) e all;
  }
    where
      n : Name
      n = get_or u.elements i no_name

  pub from_root : (cs : List Code) → ReadsRoot g u cs → HasSkeleton cs
  from_root [] r = absurd r
  from_root (Code.Opening i ∷ cs) r = root i cs r.0 (opened (length cs) 0 0 cs (omega arith) r.1)
  from_root (Code.Attr j s ∷ cs) r = absurd r
  from_root (Code.Body ∷ cs) r = absurd r
  from_root (Code.Chars s ∷ cs) r = absurd r
  from_root (Code.Closing ∷ cs) r = absurd r

-- Where no rule is broken, codes that lead to a nullable pattern are the codes of a skeleton.
pub accepted_codes : (g : Schema) (u : Lists) → BreaksNoRule g → IsSimpleForm g → IsAlphabet u → (cs : List Code) → AllByRecursion (IsInRange u) cs →
    IsTrue (nullable (after_codes g u cs).pattern) → (s : Skeleton) × IsSkeleton s × AreCodes u (events s) cs
accepted_codes g u unbroken simple alphabet cs in_range h =
    let r = reads_root g u g.start (start_refs g.start simple.start (λ w. unbroken 6 (inr (inl (refl, w))))) cs h in_range in
    let t = from_root g u alphabet cs r in
    (t.skeleton, t.is, t.codes)
