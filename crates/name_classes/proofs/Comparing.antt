-- The order of name classes is that of the lists of their parts.
use Rattle.std.proofs.Common.{◌≡◌, ℕ, Bool, true, false, List, [], ◌∷◌, ◌++◌, refl, sym, ◌∙◌, ap, append-nil, append_assoc}
use Rattle.std.specs.Prelude.{flat_map}
use Rattle.std.proofs.lemmas.Grind.{flat_map-append}
use Rattle.std.specs.Ordering.{nat_cmp, ordering_then}
use Rattle.std.specs.Cmp.Lexicographic.{slice_cmp}
use Rattle.std.specs.declared.cmp.Ordering.{Ordering}
use Rattle.std.specs.declared.cmp.Ordering.TheVariants.{Less, Equal, Greater}
use Rattle.std.proofs.lemmas.Map.Lookups.{exact_bytes}
use Rattle.rng_model.proofs.Keys.{class_key-free}
use Rattle.rng_model.specs.Names as names
use Rattle.rng_model.specs.Names.{text_key, name_key}
use Rattle.rng_model.specs.Texts as model
use Rattle.rng_model.specs.Classes.{Class, any, any_except, namespace, namespace_except, one, either, class_key, class_cmp}
use Rattle.name_classes.specs.declared.part.Part.{Part}
use Rattle.name_classes.specs.declared.part.Part.TheVariants.{Any, Namespace, One, Choice}
use Rattle.name_classes.specs.contracts.part.PartOrd.TheImpl.{cmp-value}
use Rattle.name_classes.specs.NameOrder.{text_keys, name_keys, by_parts, then_then}
use Rattle.name_classes.specs.Parts.{parts_of}

abbrev flag : Bool → ℕ
flag false = 1
flag true = 2

abbrev part_key : Part → List ℕ
part_key (Any e) = 1 ∷ flag e ∷ []
part_key (Namespace u e) = 2 ∷ (text_key u ++ flag e ∷ [])
part_key (One m) = 3 ∷ name_key m
part_key Choice = 4 ∷ []

key_of : (c : Class) → class_key c ≡ flat_map part_key (parts_of c)
key_of any = refl
key_of (any_except c) = ap (λ x. 1 ∷ 2 ∷ x) (key_of c)
key_of (namespace u) = ap (λ x. 2 ∷ x) (sym (append-nil (text_key u ++ 1 ∷ [])))
key_of (namespace_except u c) = ap (λ x. 2 ∷ x) (ap (λ x. text_key u ++ 2 ∷ x) (key_of c) ∙ sym (append_assoc (text_key u) (2 ∷ []) (flat_map part_key (parts_of c))))
key_of (one m) = ap (λ x. 3 ∷ x) (sym (append-nil (name_key m)))
key_of (either a b) = ap (λ x. 4 ∷ x) ((λ i. key_of a i ++ key_of b i) ∙ sym (flat_map-append part_key (parts_of a) (parts_of b)))

spaces : (u v : model.Text) (d e : Bool) (x y : List ℕ) → slice_cmp nat_cmp ((text_key u ++ flag d ∷ []) ++ x) ((text_key v ++ flag e ∷ []) ++ y) ≡ ordering_then (ordering_then (slice_cmp nat_cmp u v) (nat_cmp (flag d) (flag e))) (slice_cmp nat_cmp x y)
spaces u v d e x y =
    (λ i. slice_cmp nat_cmp (append_assoc (text_key u) (flag d ∷ []) x i) (append_assoc (text_key v) (flag e ∷ []) y i))
    ∙ text_keys u v (flag d ∷ x) (flag e ∷ y)
    ∙ sym (then_then (slice_cmp nat_cmp u v) (nat_cmp (flag d) (flag e)) (slice_cmp nat_cmp x y))

named : (m n : names.Name) (x y : List ℕ) → slice_cmp nat_cmp (name_key m ++ x) (name_key n ++ y) ≡ ordering_then (cmp-value.it (One m) (One n)) (slice_cmp nat_cmp x y)
named m n x y = name_keys m n x y ∙ ap (λ o. ordering_then o (slice_cmp nat_cmp x y)) (sym (by_parts m n))

-- parts by their keys, whatever follows
keyed : (p q : Part) (x y : List ℕ) → slice_cmp nat_cmp (part_key p ++ x) (part_key q ++ y) ≡ ordering_then (cmp-value.it p q) (slice_cmp nat_cmp x y)
keyed (Any false) (Any false) x y = refl
keyed (Any false) (Any true) x y = refl
keyed (Any true) (Any false) x y = refl
keyed (Any true) (Any true) x y = refl
keyed (Any d) (Namespace v e) x y = refl
keyed (Any d) (One n) x y = refl
keyed (Any d) Choice x y = refl
keyed (Namespace u d) (Any e) x y = refl
keyed (Namespace u false) (Namespace v false) x y = spaces u v false false x y
keyed (Namespace u false) (Namespace v true) x y = spaces u v false true x y
keyed (Namespace u true) (Namespace v false) x y = spaces u v true false x y
keyed (Namespace u true) (Namespace v true) x y = spaces u v true true x y
keyed (Namespace u d) (One n) x y = refl
keyed (Namespace u d) Choice x y = refl
keyed (One m) (Any e) x y = refl
keyed (One m) (Namespace v e) x y = refl
keyed (One m) (One n) x y = named m n x y
keyed (One m) Choice x y = refl
keyed Choice (Any e) x y = refl
keyed Choice (Namespace v e) x y = refl
keyed Choice (One n) x y = refl
keyed Choice Choice x y = refl

listed : (ps qs : List Part) → slice_cmp nat_cmp (flat_map part_key ps) (flat_map part_key qs) ≡ slice_cmp cmp-value.it ps qs
listed [] [] = refl
listed [] (Any e ∷ qs) = refl
listed [] (Namespace v e ∷ qs) = refl
listed [] (One n ∷ qs) = refl
listed [] (Choice ∷ qs) = refl
listed (Any e ∷ ps) [] = refl
listed (Namespace v e ∷ ps) [] = refl
listed (One n ∷ ps) [] = refl
listed (Choice ∷ ps) [] = refl
listed (p ∷ ps) (q ∷ qs) = keyed p q (flat_map part_key ps) (flat_map part_key qs) ∙ ap (ordering_then (cmp-value.it p q)) (listed ps qs)

pub by_list : (a b : Class) → slice_cmp cmp-value.it (parts_of a) (parts_of b) ≡ class_cmp a b
by_list a b = sym ((λ i. slice_cmp nat_cmp (key_of a i) (key_of b i)) ∙ listed (parts_of a) (parts_of b))

pub compared : (a b : Class) (ps qs : List Part) → ps ≡ parts_of a → qs ≡ parts_of b → slice_cmp cmp-value.it ps qs ≡ class_cmp a b
compared a b ps qs e f = (λ i. slice_cmp cmp-value.it (e i) (f i)) ∙ by_list a b

-- no list goes on from another
abbrev AreFree : List ℕ → List ℕ → Type 0
AreFree u v = (x y : List ℕ) → u ++ x ≡ v ++ y → u ≡ v

nat_same : (a b : ℕ) → nat_cmp a b ≡ Equal → a ≡ b
nat_same a b e = first (exact_bytes (a ∷ []) (b ∷ []) (ap (λ o. ordering_then o Equal) e))
  where
    first : a ∷ [] ≡ b ∷ [] → a ≡ b
    first h = cc

then_by : (a b : ℕ) (u v x y : List ℕ) (o : Ordering) → nat_cmp a b ≡ o → (o ≡ Equal → slice_cmp nat_cmp (u ++ x) (v ++ y) ≡ ordering_then (slice_cmp nat_cmp u v) (slice_cmp nat_cmp x y)) →
    ordering_then o (slice_cmp nat_cmp (u ++ x) (v ++ y)) ≡ ordering_then (ordering_then o (slice_cmp nat_cmp u v)) (slice_cmp nat_cmp x y)
then_by a b u v x y Less e h = refl
then_by a b u v x y Equal e h = h refl
then_by a b u v x y Greater e h = refl

-- two lists of which neither goes on from the other, whatever follows
pub cmp-append : (u v x y : List ℕ) → AreFree u v → slice_cmp nat_cmp (u ++ x) (v ++ y) ≡ ordering_then (slice_cmp nat_cmp u v) (slice_cmp nat_cmp x y)
cmp-append [] [] x y f = refl
cmp-append [] (b ∷ v) x y f = let e = f (b ∷ v) [] (sym (append-nil (b ∷ v))) in absurd (cc)
cmp-append (a ∷ u) [] x y f = let e = f [] (a ∷ u) (append-nil (a ∷ u)) in absurd (cc)
cmp-append (a ∷ u) (b ∷ v) x y f =
    then_by a b u v x y (nat_cmp a b) refl
    (λ e. cmp-append u v x y (λ k l g. rest (f k l (let s = nat_same a b e in (λ i. s i ∷ g i)))))
  where
    rest : a ∷ u ≡ b ∷ v → u ≡ v
    rest h = cc

-- classes by their lists, whatever follows
pub class_keys : (a b : Class) (x y : List ℕ) → slice_cmp nat_cmp (class_key a ++ x) (class_key b ++ y) ≡ ordering_then (class_cmp a b) (slice_cmp nat_cmp x y)
class_keys a b x y = cmp-append (class_key a) (class_key b) x y (λ k l e. ap class_key ((class_key-free a b k l e).0))
