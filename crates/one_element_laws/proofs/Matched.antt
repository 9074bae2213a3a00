-- What the schema matches.
use Rattle.std.proofs.Common.{◌≡◌, inl, inr, ℕ, ◌≤◌, ◌↔◌, List, [], refl, false, true, Bool, IsTrue, arith, ◌&&◌, sym, ◌∙◌}
use Rattle.std.specs.List.Sorted.{IsStrictlySortedBy}
use Rattle.std.specs.Str.{bytes_eq}
use Rattle.std.proofs.lemmas.Slice.Eq.{bytes_eq-Decides}
use Rattle.rng_model.specs.Texts.{Text, is_white}
use Rattle.rng_model.specs.Names.{Name, IsName, same_name}
use Rattle.rng_model.specs.Classes.{one}
use Rattle.rng_model.specs.Patterns.{Definition, ref, empty}
use Rattle.rng_model.specs.Hedges.{Attributes, Hedge, none, element, text, Skeleton, IsSkeleton, AreChildren, document}
use Rattle.rng_model.specs.Parts as part
use Rattle.rng_model.specs.Matching.{MatchesDocument}
use Rattle.rng_model.specs.Matching as by
use Rattle.rng_model.specs.Universe.{Lists, AreLists}
use Rattle.rng_model.specs.Listing.{IsListed, IsOver}
use Rattle.rng_model.proofs.Invert.{Meaning, meaning, WeakMeaning, weak_meaning, alone_meaning}
use Rattle.one_element_laws.specs.OneElement.{one_element, root}

both_true : (x y : Bool) → IsTrue (x && y) → (x ≡ true) × (y ≡ true)
both_true true true h = (refl, refl)
both_true true false h = (refl, h)
both_true false y h = absurd (never h)
  where
    never : false ≡ true → ⊥
    never e = cc

same_texts : (x y : Text) → IsTrue (bytes_eq x y) → x ≡ y
same_texts x y h = (bytes_eq-Decides x y).0 h

texts_same : (x : Text) → bytes_eq x x ≡ true
texts_same x = (bytes_eq-Decides x x).1 refl

-- names are the same where the test says so
pub one_name : (m n : Name) → IsTrue (same_name m n) → m ≡ n
one_name m n h =
    let b = both_true (bytes_eq m.ns n.ns) (bytes_eq m.local n.local) h in
    let p = same_texts m.ns n.ns b.0 in
    let q = same_texts m.local n.local b.1 in
    λ i. record { ns = p i; local = q i }

name_same : (n : Name) → IsTrue (same_name n n)
name_same n = go (bytes_eq n.ns n.ns) (bytes_eq n.local n.local) (texts_same n.ns) (texts_same n.local)
  where
    go : (x y : Bool) → x ≡ true → y ≡ true → IsTrue (x && y)
    go true true p q = refl
    go true false p q = q
    go false y p q = absurd (never p)
      where
        never : false ≡ true → ⊥
        never e = cc

make : (m n : Name) (a : Attributes) (k : Hedge) → n ≡ m → a ≡ [] → k ≡ none → ◌≡◌ {A = Skeleton} (record { name = n; attributes = a; children = k }) (root m)
make m n a k p q r = λ i. record { name = p i; attributes = q i; children = r i }

module _ (name : Name) where
  abbrev definition : Definition
  definition = record { class = one name; content = empty }

  -- what `empty` matches weakly among children of a skeleton
  only_nothing : (a : Attributes) (k : Hedge) → AreChildren k → WeakMeaning (one_element name) a k empty → (a ≡ []) × (k ≡ none)
  only_nothing a none c (inl h) = meaning h
  only_nothing a none c (inr h) = let m = meaning h in let e : text [] none ≡ none = m.1 in cc
  only_nothing a (element n b k r) c h = let m = meaning h in let e : element n b k r ≡ none = m.1 in cc
  only_nothing a (text t none) c (inl h) = let m = meaning h in let e : text t none ≡ none = m.1 in cc
  only_nothing a (text t none) c (inr h) = absurd (contrary (is_white t) c.1 h.0)
    where
      contrary : (b : Bool) → b ≡ false → b ≡ true → ⊥
      contrary b e f = cc
  only_nothing a (text t (text u r)) c h = let m = meaning h in let e : text t (text u r) ≡ none = m.1 in cc
  only_nothing a (text t (element n b k r)) c h = let m = meaning h in let e : text t (element n b k r) ≡ none = m.1 in cc

  matched_is_root : (s : Skeleton) → IsSkeleton s → MatchesDocument (one_element name) s → s ≡ root name
  matched_is_root s is h = go (meaning h)
    where
      go : Meaning (one_element name) [] (document s) (ref 0) → s ≡ root name
      go (e, n, a, k, _, defines, inside, weak, apart, alone) =
          let f = alone_meaning alone in
          let same : e ≡ definition = cc in
          let named : n ≡ name = one_name n name (rw same at inside) in
          let inner = only_nothing a k (rw (← f.children) at is.children) (weak_meaning (rw same at weak)) in
          make name s.name s.attributes s.children (sym f.name ∙ named) (sym f.attributes ∙ inner.0) (sym f.children ∙ inner.1)

  pub root_is_skeleton : IsName name → IsSkeleton (root name)
  unfolding IsStrictlySortedBy
  root_is_skeleton is = record { name = is; attributes = record { ascending = tt; each = tt }; children = tt }

  root_is_over : (count : ℕ) (extra : List Text) (u : Lists) → AreLists (one_element name) count extra u → IsOver u (document (root name))
  root_is_over count extra u lists = ((lists.elements.each name).1 (inl (one name, (0, definition, refl, refl), refl)), tt, tt, tt)

  root_matches : MatchesDocument (one_element name) (root name)
  root_matches = by.ref refl (name_same name) (by.exactly by.empty) tt (part.first tt)

  pub root_alone : IsName name → (count : ℕ) (extra : List Text) (u : Lists) → AreLists (one_element name) count extra u → (n : ℕ) → 1 ≤ n → (s : Skeleton) →
      IsListed (one_element name) u n s ↔ (s ≡ root name)
  root_alone is count extra u lists n le s = (
    λ l. matched_is_root s l.skeleton l.matches,
    λ e. rw e (record {
      skeleton = root_is_skeleton is;
      over = root_is_over count extra u lists;
      small = omega arith;
      matches = root_matches;
    }),
  )
