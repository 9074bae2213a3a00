-- How skeletons compare, and codes as their events.
use Rattle.std.proofs.Common.{◌≡◌, ℕ, zero, suc, ◌<◌, ◌⊎◌, inl, inr, List, [], ◌∷◌, ◌++◌, refl, sym, ◌∙◌, ap, append_assoc, append-nil, arith, Some, slice_get}
use Rattle.std.specs.List.{AllByRecursion}
use Rattle.std.specs.List.Sorted.{IsStrictlySortedBy}
use Rattle.std.specs.declared.cmp.Ordering.{Ordering}
use Rattle.std.specs.declared.cmp.Ordering.TheVariants.{Less, Equal, Greater}
use Rattle.std.specs.Ordering.{nat_cmp, ordering_then, ordering_reverse}
use Rattle.std.specs.Cmp.{IsTotalOrder, nat_cmp_is}
use Rattle.std.specs.Cmp.Lexicographic.{slice_cmp}
use Rattle.std.proofs.lemmas.Cmp.{nat_list_cmp_total, tied_itself}
use Rattle.std.proofs.lemmas.Bool.{cases_order}
use Rattle.rng_model.specs.Texts.{Text}
use Rattle.rng_model.specs.Names.{Name, text_key, name_key, name_cmp}
use Rattle.rng_model.specs.Hedges.{Skeleton, size}
use Rattle.rng_model.specs.Events.{Event, events, event_cmp, skeleton_cmp}
use Rattle.rng_model.specs.Events as event
use Rattle.rng_model.specs.Universe.{Lists, Ascend}
use Rattle.rng_model.specs.Codes.{Code, IsCode, AreCodes, code_cmp}
use Rattle.rng_model.proofs.Orders.{event_order, name_order}

module _ (K : Type 0) (R : K → K → Ordering) (o : IsTotalOrder R) where
  all_got : (P : K → Type 0) (xs : List K) (i : ℕ) (x : K) → AllByRecursion P xs → slice_get xs i ≡ Some x → P x
  all_got P [] i n h e = absurd (cc)
  all_got P (x ∷ xs) zero n h e = let f : x ≡ n = cc in rw f at (h.0)
  all_got P (x ∷ xs) (suc i) n h e = all_got P xs i n h.1 e

  less_at : (xs : List K) (i j : ℕ) (m n : K) → IsStrictlySortedBy R xs → slice_get xs i ≡ Some m → slice_get xs j ≡ Some n → i < j → R m n ≡ Less
  unfolding IsStrictlySortedBy
  less_at [] i j m n s e f l = absurd (cc)
  less_at (x ∷ xs) zero zero m n s e f l = absurd (omega arith)
  less_at (x ∷ xs) zero (suc j) m n s e f l = let h : x ≡ m = cc in let k = all_got (λ y. R x y ≡ Less) xs j n s.0 f in rw h at k
  less_at (x ∷ xs) (suc i) zero m n s e f l = absurd (omega arith)
  less_at (x ∷ xs) (suc i) (suc j) m n s e f l = less_at xs i j m n s.1 e f (omega arith)

  -- positions in an ascending list compare as what stands there
  pub position_cmp : (xs : List K) (i j : ℕ) (m n : K) → IsStrictlySortedBy R xs → slice_get xs i ≡ Some m → slice_get xs j ≡ Some n → R m n ≡ nat_cmp i j
  position_cmp xs i j m n s e f = go (cases_order i j)
    where
      go : (i ≡ j) ⊎ ((i < j) ⊎ (j < i)) → R m n ≡ nat_cmp i j
      go (inl q) =
          let g : Some m ≡ Some n = sym e ∙ ap (slice_get xs) q ∙ f in
          let h : m ≡ n = cc in
          ap (R m) (sym h) ∙ tied_itself o m ∙ nat_cmp_is i j Equal q
      go (inr (inl l)) = less_at xs i j m n s e f l ∙ nat_cmp_is i j Less l
      go (inr (inr l)) = o.antisymm m n ∙ ap ordering_reverse (less_at xs j i n m s f e l) ∙ nat_cmp_is i j Greater l

-- the lesser size comes first, and within a size the lesser of the first events that differ
pub lesser_size : (s t : Skeleton) → size s < size t → skeleton_cmp s t ≡ Less
lesser_size s t l = ap (λ r. ordering_then r (slice_cmp event_cmp (events s) (events t))) (sym (nat_cmp_is (size s) (size t) Less l))

first_less : (front : List Event) (e f : Event) (xs ys : List Event) → event_cmp e f ≡ Less → slice_cmp event_cmp (front ++ (e ∷ xs)) (front ++ (f ∷ ys)) ≡ Less
first_less [] e f xs ys l = ap (λ r. ordering_then r (slice_cmp event_cmp xs ys)) l
first_less (x ∷ front) e f xs ys l =
    ap (λ r. ordering_then r (slice_cmp event_cmp (front ++ (e ∷ xs)) (front ++ (f ∷ ys)))) (tied_itself event_order x) ∙ first_less front e f xs ys l

pub lesser_event : (s t : Skeleton) (front : List Event) (e f : Event) (xs ys : List Event) → size s ≡ size t → events s ≡ front ++ (e ∷ xs) → events t ≡ front ++ (f ∷ ys) → event_cmp e f ≡ Less → skeleton_cmp s t ≡ Less
lesser_event s t front e f xs ys same a b l =
    ap (λ r. ordering_then r (slice_cmp event_cmp (events s) (events t))) (sym (nat_cmp_is (size s) (size t) Equal same))
    ∙ (λ i. slice_cmp event_cmp (a i) (b i))
    ∙ first_less front e f xs ys l

-- lists that no other begins, one after the other

suc_cmp : (a b : ℕ) → nat_cmp (suc a) (suc b) ≡ nat_cmp a b
suc_cmp a b = go (cases_order a b)
  where
    go : (a ≡ b) ⊎ ((a < b) ⊎ (b < a)) → nat_cmp (suc a) (suc b) ≡ nat_cmp a b
    go (inl e) = sym (nat_cmp_is (suc a) (suc b) Equal (ap (λ z. suc z) e)) ∙ nat_cmp_is a b Equal e
    go (inr (inl l)) = sym (nat_cmp_is (suc a) (suc b) Less (omega arith)) ∙ nat_cmp_is a b Less l
    go (inr (inr l)) = sym (nat_cmp_is (suc a) (suc b) Greater (omega arith)) ∙ nat_cmp_is a b Greater l

then-assoc : (a b c : Ordering) → ordering_then a (ordering_then b c) ≡ ordering_then (ordering_then a b) c
then-assoc Less b c = refl
then-assoc Equal b c = refl
then-assoc Greater b c = refl

text_then : (s t : Text) (x y : List ℕ) → slice_cmp nat_cmp (text_key s ++ x) (text_key t ++ y) ≡ ordering_then (slice_cmp nat_cmp s t) (slice_cmp nat_cmp x y)
text_then [] [] x y = refl
text_then [] (d ∷ t) x y = ap (λ r. ordering_then r (slice_cmp nat_cmp x (text_key t ++ y))) (sym (nat_cmp_is zero (suc d) Less (omega arith)))
text_then (c ∷ s) [] x y = ap (λ r. ordering_then r (slice_cmp nat_cmp (text_key s ++ x) y)) (sym (nat_cmp_is (suc c) zero Greater (omega arith)))
text_then (c ∷ s) (d ∷ t) x y =
    (λ i. ordering_then (suc_cmp c d i) (text_then s t x y i)) ∙ then-assoc (nat_cmp c d) (slice_cmp nat_cmp s t) (slice_cmp nat_cmp x y)

then_equal : (r : Ordering) → ordering_then r Equal ≡ r
then_equal Less = refl
then_equal Equal = refl
then_equal Greater = refl

text_keys : (s t : Text) → slice_cmp nat_cmp (text_key s) (text_key t) ≡ slice_cmp nat_cmp s t
text_keys s t =
    (λ i. slice_cmp nat_cmp (sym (append-nil (text_key s)) i) (sym (append-nil (text_key t)) i)) ∙ text_then s t [] [] ∙ then_equal (slice_cmp nat_cmp s t)

-- names compare by namespace, then by local part
name_parts : (m n : Name) → name_cmp m n ≡ ordering_then (slice_cmp nat_cmp m.ns n.ns) (slice_cmp nat_cmp m.local n.local)
name_parts m n =
    text_then m.ns n.ns (text_key m.local) (text_key n.local) ∙ ap (ordering_then (slice_cmp nat_cmp m.ns n.ns)) (text_keys m.local n.local)

name_then : (m n : Name) (x y : List ℕ) → slice_cmp nat_cmp (name_key m ++ x) (name_key n ++ y) ≡ ordering_then (name_cmp m n) (slice_cmp nat_cmp x y)
name_then m n x y =
    (λ i. slice_cmp nat_cmp (append_assoc (text_key m.ns) (text_key m.local) x i) (append_assoc (text_key n.ns) (text_key n.local) y i))
    ∙ text_then m.ns n.ns (text_key m.local ++ x) (text_key n.local ++ y)
    ∙ ap (ordering_then (slice_cmp nat_cmp m.ns n.ns)) (text_then m.local n.local x y)
    ∙ then-assoc (slice_cmp nat_cmp m.ns n.ns) (slice_cmp nat_cmp m.local n.local) (slice_cmp nat_cmp x y)
    ∙ ap (λ r. ordering_then r (slice_cmp nat_cmp x y)) (sym (name_parts m n))

-- an event and its code, taken apart
data IsCoded (u : Lists) : Event → Code → Type 0 where
  opening : {n : Name} {i : ℕ} → slice_get u.elements i ≡ Some n → IsCoded u (event.Opening n) (Code.Opening i)
  attr : {n : Name} {t : Text} {j k : ℕ} → slice_get u.attributes j ≡ Some n → slice_get u.atoms k ≡ Some t → IsCoded u (event.Attr n t) (Code.Attr j k)
  body : IsCoded u event.Body Code.Body
  chars : {t : Text} {k : ℕ} → slice_get u.atoms k ≡ Some t → IsCoded u (event.Chars t) (Code.Chars k)
  closing : IsCoded u event.Closing Code.Closing

module _ (u : Lists) (up : Ascend u) where
  coded : (e : Event) (c : Code) → IsCode u e c → IsCoded u e c
  coded (event.Opening n) (Code.Opening i) h = opening h
  coded (event.Attr n t) (Code.Attr j s) h = attr h.0 h.1
  coded event.Body Code.Body h = body
  coded (event.Chars t) (Code.Chars s) h = chars h
  coded event.Closing Code.Closing h = closing
  coded e c h = absurd h

  compare_coded : {e f : Event} {c d : Code} → IsCoded u e c → IsCoded u f d → event_cmp e f ≡ code_cmp c d
  compare_coded (opening {n = m} {i = i} h) (opening {n = n} {i = j} k) =
      position_cmp Name name_cmp name_order u.elements i j m n up.elements h k ∙ sym (then_equal (nat_cmp i j))
  compare_coded (attr {n = m} {t = t} {j = i} {k = k} h g) (attr {n = n} {t = s} {j = j} {k = l} h' g') =
      name_then m n (text_key t) (text_key s)
      ∙ (λ r. ordering_then (position_cmp Name name_cmp name_order u.attributes i j m n up.attributes h h' r)
      ((text_keys t s ∙ position_cmp Text (slice_cmp nat_cmp) nat_list_cmp_total u.atoms k l t s up.atoms g g' ∙ sym (then_equal (nat_cmp k l))) r))
  compare_coded (chars {t = t} {k = k} g) (chars {t = s} {k = l} g') =
      text_keys t s ∙ position_cmp Text (slice_cmp nat_cmp) nat_list_cmp_total u.atoms k l t s up.atoms g g' ∙ sym (then_equal (nat_cmp k l))
  compare_coded body body = refl
  compare_coded closing closing = refl
  compare_coded h k = refl

  pub codes_compare : (e f : Event) (c d : Code) → IsCode u e c → IsCode u f d → event_cmp e f ≡ code_cmp c d
  codes_compare e f c d h k = compare_coded (coded e c h) (coded f d k)

  pub code_lists_compare : (es fs : List Event) (cs ds : List Code) → AreCodes u es cs → AreCodes u fs ds → slice_cmp event_cmp es fs ≡ slice_cmp code_cmp cs ds
  code_lists_compare [] [] [] [] h k = refl
  code_lists_compare [] (f ∷ fs) [] (d ∷ ds) h k = refl
  code_lists_compare (e ∷ es) [] (c ∷ cs) [] h k = refl
  code_lists_compare (e ∷ es) (f ∷ fs) (c ∷ cs) (d ∷ ds) h k =
      λ i. ordering_then (codes_compare e f c d h.0 k.0 i) (code_lists_compare es fs cs ds h.1 k.1 i)
  code_lists_compare [] fs (c ∷ cs) ds h k = absurd h
  code_lists_compare (e ∷ es) fs [] ds h k = absurd h
  code_lists_compare es [] cs (d ∷ ds) h k = absurd k
  code_lists_compare es (f ∷ fs) cs [] h k = absurd k

-- codes of one kind have the order of their positions
after_number : (k : ℕ) (xs ys : List ℕ) → slice_cmp nat_cmp (k ∷ xs) (k ∷ ys) ≡ slice_cmp nat_cmp xs ys
after_number k xs ys = ap (λ r. ordering_then r (slice_cmp nat_cmp xs ys)) (sym (nat_cmp_is k k Equal refl))

pub opening_cmp : (i j : ℕ) → code_cmp (Code.Opening i) (Code.Opening j) ≡ nat_cmp i j
opening_cmp i j = after_number 5 (i ∷ []) (j ∷ []) ∙ then_equal (nat_cmp i j)

pub attr_cmp : (i j s t : ℕ) → code_cmp (Code.Attr i s) (Code.Attr j t) ≡ ordering_then (nat_cmp i j) (nat_cmp s t)
attr_cmp i j s t = after_number 4 (i ∷ s ∷ []) (j ∷ t ∷ []) ∙ ap (ordering_then (nat_cmp i j)) (then_equal (nat_cmp s t))

pub chars_cmp : (s t : ℕ) → code_cmp (Code.Chars s) (Code.Chars t) ≡ nat_cmp s t
chars_cmp s t = after_number 3 (s ∷ []) (t ∷ []) ∙ then_equal (nat_cmp s t)
