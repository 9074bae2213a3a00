-- Sets of texts, and the parts that literals give.
use Rattle.std.proofs.Common.{◌≡◌, ℕ, zero, ◌+◌, ◌<◌, ◌≤◌, ◌⊎◌, inl, inr, ◌↔◌, List, [], ◌∷◌, ◌++◌, length, refl, sym, ◌∙◌, ap, subst, Bool, true, false, cond, arith, Contains, IsTrue, Some, None, Option, get_or, take}
use Rattle.std.proofs.lemmas.List.{take_more, take_all}
use Rattle.std.specs.List.{filter_map, cons_option}
use Rattle.std.specs.Ordering.{nat_cmp}
use Rattle.std.specs.Cmp.Lexicographic.{slice_cmp, nat_list_cmp_total}
use Rattle.std.specs.Cmp.{Equal-is, tied_itself}
use Rattle.std.specs.BTreeSet as tree
use Rattle.std.specs.BTreeSet.{BTreeSet}
use Rattle.std.specs.BTreeMap.{is_at}
use Rattle.std.proofs.lemmas.List.Elements.{Contains-push_cases, Contains-append_left, Contains-push}
use Rattle.std.proofs.lemmas.Map.Lookups.{exact_bytes}
use Rattle.std.proofs.lemmas.Map.Views.{btree_set_contains_iff}
use Rattle.rng_model.specs.Texts.{Text}
use Rattle.text_atoms.specs.declared.kind.Kind as rust
use Rattle.text_atoms.specs.declared.parts.Part.{Part}
use Rattle.text_atoms.specs.Kinds.{kind_of}
use Rattle.text_atoms.specs.Literals.{members_of}
use Rattle.text_atoms.specs.Parts.{part_of, parts_of}
use Rattle.text_atoms.proofs.Members.{member_first, member_later, member_cases, member_none, map_member, member_of_map}

pub is_at-same : (x : Text) → is_at (slice_cmp nat_cmp x) x ≡ true
is_at-same x = (Equal-is (slice_cmp nat_cmp x x)).1 (tied_itself nat_list_cmp_total x)

pub is_at-exact : (x y : Text) → is_at (slice_cmp nat_cmp x) y ≡ true → x ≡ y
is_at-exact x y e = exact_bytes x y ((Equal-is (slice_cmp nat_cmp x y)).0 e)

-- after a text is added
pub inserted : (s n : BTreeSet Text) (k : Text) → tree.Updates (slice_cmp nat_cmp) s n k true → (x : Text) →
    Contains n.keys x ↔ (Contains s.keys x ⊎ (x ≡ k))
inserted s n k updates x = (forth, back)
  where
    old : IsTrue (tree.contains (slice_cmp nat_cmp) s x) ↔ Contains s.keys x
    old = btree_set_contains_iff nat_list_cmp_total exact_bytes s x

    new : IsTrue (tree.contains (slice_cmp nat_cmp) n x) ↔ Contains n.keys x
    new = btree_set_contains_iff nat_list_cmp_total exact_bytes n x

    read : (b : Bool) → is_at (slice_cmp nat_cmp k) x ≡ b → cond b true (tree.contains (slice_cmp nat_cmp) s x) ≡ true → Contains s.keys x ⊎ (x ≡ k)
    read true e h = inr (sym (is_at-exact k x e))
    read false e h = inl (old.0 h)

    forth : Contains n.keys x → Contains s.keys x ⊎ (x ≡ k)
    forth h = read (is_at (slice_cmp nat_cmp k) x) refl (sym (updates.0 x) ∙ new.1 h)

    write : (b : Bool) → is_at (slice_cmp nat_cmp k) x ≡ b → Contains s.keys x ⊎ (x ≡ k) → cond b true (tree.contains (slice_cmp nat_cmp) s x) ≡ true
    write true e h = refl
    write false e (inl h) = old.1 h
    write false e (inr same) = let other : true ≡ false = sym (is_at-same k) ∙ ap (is_at (slice_cmp nat_cmp k)) (sym same) ∙ e in cc

    back : Contains s.keys x ⊎ (x ≡ k) → Contains n.keys x
    back h = new.0 (updates.0 x ∙ write (is_at (slice_cmp nat_cmp k) x) refl h)

pub filter_map_member : {X Y : Type 0} (f : X → Option Y) (xs : List X) (y : Y) → Contains (filter_map f xs) y → (x : X) × Contains xs x × (f x ≡ Some y)
filter_map_member f [] y h = absurd (member_none y h)
filter_map_member {X} {Y} f (x ∷ xs) y h = go (f x) refl (λ m. filter_map_member f xs y m) h
  where
    later : (z : X) × Contains xs z × (f z ≡ Some y) → (z : X) × Contains (x ∷ xs) z × (f z ≡ Some y)
    later (z, m, e) = (z, member_later x z xs m, e)

    go : (o : Option Y) → f x ≡ o → (Contains (filter_map f xs) y → (z : X) × Contains xs z × (f z ≡ Some y)) →
        Contains (cons_option o (filter_map f xs)) y → (z : X) × Contains (x ∷ xs) z × (f z ≡ Some y)
    go None e again m = later (again m)
    go (Some v) e again m = elim (member_cases v y (filter_map f xs) m) [
      | inl same ↦ (x, member_first x xs, e ∙ ap Some same)
      | inr i ↦ later (again i)
    ]

pub member_of_filter_map : {X Y : Type 0} (f : X → Option Y) (xs : List X) (x : X) (y : Y) → Contains xs x → f x ≡ Some y → Contains (filter_map f xs) y
member_of_filter_map f [] x y h e = absurd (member_none x h)
member_of_filter_map {X} {Y} f (z ∷ xs) x y h e = go (f z) refl (λ m. member_of_filter_map f xs x y m e) (member_cases z x xs h)
  where
    go : (o : Option Y) → f z ≡ o → (Contains xs x → Contains (filter_map f xs) y) → (z ≡ x) ⊎ Contains xs x → Contains (cons_option o (filter_map f xs)) y
    go None g again (inl same) = let other : None ≡ Some y = sym g ∙ ap f same ∙ e in cc
    go None g again (inr m) = again m
    go (Some v) g again (inl same) = let is : Some v ≡ Some y = sym g ∙ ap f same ∙ e in let eq : v ≡ y = cc in (zero, omega arith, eq)
    go (Some v) g again (inr m) = member_later v y (filter_map f xs) (again m)

-- a text of the part comes from a literal, and the other way round
pub part_from : (p : Part) (ms : List (rust.Kind × Text)) (x : Text) → Contains (parts_of p (members_of ms)) x →
    (m : rust.Kind × Text) × Contains ms m × (part_of p (kind_of m.0, m.1) ≡ Some x)
part_from p ms x h =
    let (k, inside, e) = filter_map_member (part_of p) (members_of ms) x h in
    let (m, within, same) = map_member (λ (m : rust.Kind × Text). (kind_of m.0, m.1)) ms k inside in
    (m, within, ap (part_of p) same ∙ e)

pub part_to : (p : Part) (ms : List (rust.Kind × Text)) (m : rust.Kind × Text) (x : Text) → Contains ms m → part_of p (kind_of m.0, m.1) ≡ Some x →
    Contains (parts_of p (members_of ms)) x
part_to p ms m x h e =
    member_of_filter_map (part_of p) (members_of ms) (kind_of m.0, m.1) x (member_of_map (λ (m : rust.Kind × Text). (kind_of m.0, m.1)) ms m h) e

-- one literal more
pub part_more : (p : Part) (ms : List (rust.Kind × Text)) (i : ℕ) (m : rust.Kind × Text) → i < length ms → m ≡ get_or ms i m → (old new : List Text) (first : Text → Type 0) →
    ((x : Text) → Contains old x ↔ (first x ⊎ Contains (parts_of p (members_of (take i ms))) x)) →
    ((x : Text) → Contains new x ↔ (Contains old x ⊎ (part_of p (kind_of m.0, m.1) ≡ Some x))) →
    (x : Text) → Contains new x ↔ (first x ⊎ Contains (parts_of p (members_of (take (i + 1) ms))) x)
part_more p ms i m below is old new first before step x = (forth, back)
  where
    grown : take (i + 1) ms ≡ take i ms ++ m ∷ []
    grown = take_more ms i m below ∙ ap (λ (y : rust.Kind × Text). take i ms ++ y ∷ []) (sym is)

    earlier : Contains (parts_of p (members_of (take i ms))) x → Contains (parts_of p (members_of (take (i + 1) ms))) x
    earlier h =
        let (k, inside, e) = part_from p (take i ms) x h in
        part_to p (take (i + 1) ms) k x (subst (λ (ys : List (rust.Kind × Text)). Contains ys k) (sym grown) (Contains-append_left (take i ms) (m ∷ []) k inside)) e

    this : part_of p (kind_of m.0, m.1) ≡ Some x → Contains (parts_of p (members_of (take (i + 1) ms))) x
    this e = part_to p (take (i + 1) ms) m x (subst (λ (ys : List (rust.Kind × Text)). Contains ys m) (sym grown) (Contains-push (take i ms) m)) e

    forth : Contains new x → first x ⊎ Contains (parts_of p (members_of (take (i + 1) ms))) x
    forth h = elim ((step x).0 h) [
      | inl o ↦ elim ((before x).0 o) [ inl f ↦ inl f | inr e ↦ inr (earlier e) ]
      | inr e ↦ inr (this e)
    ]

    back : first x ⊎ Contains (parts_of p (members_of (take (i + 1) ms))) x → Contains new x
    back (inl f) = (step x).1 (inl ((before x).1 (inl f)))
    back (inr h) =
        let (k, inside, e) = part_from p (take (i + 1) ms) x h in
        elim (Contains-push_cases (take i ms) m k (subst (λ (ys : List (rust.Kind × Text)). Contains ys k) grown inside)) [
          | inl w ↦ (step x).1 (inl ((before x).1 (inr (part_to p (take i ms) k x w e))))
          | inr same ↦ (step x).1 (inr (ap (λ (y : rust.Kind × Text). part_of p (kind_of y.0, y.1)) same ∙ e))
        ]

-- all literals
pub part_all : (p : Part) (ms : List (rust.Kind × Text)) (i : ℕ) → length ms ≤ i → (new : List Text) (first : Text → Type 0) →
    ((x : Text) → Contains new x ↔ (first x ⊎ Contains (parts_of p (members_of (take i ms))) x)) →
    (x : Text) → Contains new x ↔ (first x ⊎ Contains (parts_of p (members_of ms)) x)
part_all p ms i long new first h = subst (λ (ys : List (rust.Kind × Text)). (x : Text) → Contains new x ↔ (first x ⊎ Contains (parts_of p (members_of ys)) x)) (take_all i ms long) h

-- the part of one literal
pub part_added : (o : Option Text) (t : Text) → o ≡ Some t → (old new : List Text) → ((x : Text) → Contains new x ↔ (Contains old x ⊎ (x ≡ t))) →
    (x : Text) → Contains new x ↔ (Contains old x ⊎ (o ≡ Some x))
part_added o t is old new h x = (forth, back)
  where
    forth : Contains new x → Contains old x ⊎ (o ≡ Some x)
    forth m = elim ((h x).0 m) [ inl k ↦ inl k | inr e ↦ inr (is ∙ ap Some (sym e)) ]

    back : Contains old x ⊎ (o ≡ Some x) → Contains new x
    back (inl k) = (h x).1 (inl k)
    back (inr e) = let f : Some t ≡ Some x = sym is ∙ e in let same : x ≡ t = cc in (h x).1 (inr same)

-- what the test of a set says
pub held : (s : BTreeSet Text) (x : Text) → true ≡ tree.contains (slice_cmp nat_cmp) s x → Contains s.keys x
held s x e = (btree_set_contains_iff nat_list_cmp_total exact_bytes s x).0 (sym e)

pub not_held : (s : BTreeSet Text) (x : Text) → false ≡ tree.contains (slice_cmp nat_cmp) s x → Contains s.keys x → ⊥
not_held s x e h = let f : true ≡ false = sym ((btree_set_contains_iff nat_list_cmp_total exact_bytes s x).1 h) ∙ sym e in cc

pub nothing_left : (xs : List Text) → (0 < length xs → false ≡ true) → xs ≡ []
nothing_left [] h = refl
nothing_left (x ∷ xs) h = let e : false ≡ true = h (omega arith) in cc
