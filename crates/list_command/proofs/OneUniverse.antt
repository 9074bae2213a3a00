-- A schema has one universe.
use Rattle.std.proofs.Common.{◌≡◌, ℕ, ◌↔◌, ◌⊎◌, inl, inr, List, Contains}
use Rattle.std.specs.Ordering.{nat_cmp}
use Rattle.std.specs.Cmp.Lexicographic.{slice_cmp, nat_list_cmp_total}
use Rattle.rng_model.specs.Texts.{Text}
use Rattle.rng_model.specs.Names.{Name, name_cmp}
use Rattle.rng_model.specs.Classes.{Class}
use Rattle.rng_model.specs.Patterns.{Schema}
use Rattle.rng_model.specs.Atoms.{Literals, IsAtom, AreAtoms}
use Rattle.rng_model.specs.Universe.{Lists, AreLists, AreNames, AreLiterals, InUniverse, IsElementClass, IsAttributeClass}
use Rattle.rng_model.proofs.Orders.{name_order}
use Rattle.rng_model.proofs.Larger.{same_literals, atom_in}
use Rattle.derivative_laws.proofs.Members.{one_list}

one_names : (C : Class → Type 0) (fresh : ℕ) (xs ys : List Name) → AreNames C fresh xs → AreNames C fresh ys → xs ≡ ys
one_names C fresh xs ys a b = one_list name_cmp name_order (InUniverse C fresh) xs ys a.ascending b.ascending a.each b.each

module _ (g : Schema) (l k : Literals) (extra : List Text) (are : AreLiterals g l) (also : AreLiterals g k) where
  same_atoms : (x : Text) → (IsAtom l x ⊎ Contains extra x) ↔ (IsAtom k x ⊎ Contains extra x)
  same_atoms x = (to l k are also, to k l also are)
    where
      to : (m n : Literals) → AreLiterals g m → AreLiterals g n → IsAtom m x ⊎ Contains extra x → IsAtom n x ⊎ Contains extra x
      to m n a b (inl h) = inl (atom_in m n (same_literals g m n a b) x h)
      to m n a b (inr h) = inr h

  one_atoms : (xs ys : List Text) → AreAtoms l extra xs → AreAtoms k extra ys → xs ≡ ys
  one_atoms xs ys a b =
      one_list (slice_cmp nat_cmp) nat_list_cmp_total (λ x. IsAtom k x ⊎ Contains extra x) xs ys a.ascending b.ascending
      (λ x. ((λ h. (same_atoms x).0 ((a.each x).0 h)), (λ h. (a.each x).1 ((same_atoms x).1 h)))) b.each

pub one_universe : (g : Schema) (fresh : ℕ) (extra : List Text) (u v : Lists) → AreLists g fresh extra u → AreLists g fresh extra v → u ≡ v
one_universe g fresh extra u v a b =
    let elements = one_names (IsElementClass g) fresh u.elements v.elements a.elements b.elements in
    let attributes = one_names (IsAttributeClass g) fresh u.attributes v.attributes a.attributes b.attributes in
    let atoms = one_atoms g a.literals b.literals extra a.are_literals b.are_literals u.atoms v.atoms a.atoms b.atoms in
    (λ i. record { elements = elements i; attributes = attributes i; atoms = atoms i })
