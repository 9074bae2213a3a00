-- Of two classes that overlap, a name of the table is in both.
use Rattle.std.proofs.Common.{◌≡◌, zero, suc, inl, inr, List, [], ◌∷◌, Contains, refl, sym, ◌∙◌, ap, subst, arith, codes}
use Rattle.std.specs.Str.{bytes_eq}
use Rattle.rng_model.specs.Texts.{Text}
use Rattle.rng_model.specs.Names.{Name, same_name}
use Rattle.rng_model.specs.Classes.{Class, InClass, Overlap}
use Rattle.rng_model.specs.Fresh.{IsFirstFree}
use Rattle.rng_model.specs.Universe.{NamesName, NamesSpace, IsMentioned, IsMentionedSpace, NameStandsFor}
use Rattle.universe_laws.specs.Overlaps.{names_in, spaces_in, fresh_in}
use Rattle.universe_laws.proofs.Tests.{same_text, one_name}
use Rattle.universe_laws.proofs.OverlapLaw.{names_in-to, names_in-from, spaces_in-to, spaces_in-from, fresh-same, stranger-same, Stands, stands, apart, decide, refuse_name, refuse_text}
use Rattle.universe_laws.proofs.ListedLaw.{name_in}
use Rattle.name_universe.specs.Tables.{NameTable, IsTableOf, spaces_of}

-- the first fresh name of a namespace of the table
first_of_space : (firsts : List (Text × Name)) (u : Text) → Contains (spaces_of firsts) u → (m : Name) × Contains firsts (u, m)
first_of_space [] u (i, l, e) = absurd (omega (arith, l))
first_of_space (f ∷ firsts) u (zero, l, e) = (f.1, (zero, omega arith, (λ j. (e j, f.1))))
first_of_space (f ∷ firsts) u (suc i, l, e) =
    let t = first_of_space firsts u (i, omega (arith, l), e) in
    (t.0, (suc t.1.0, (let k = t.1.1 in omega (arith, k)), t.1.2))

module _ (C : Class → Type 0) (t : NameTable) (is : IsTableOf C 1 t) where
  abbrev pub Met : Class → Class → Type 0
  Met c d = (m : Name) × Contains t.names m × InClass m c × InClass m d

  listed : (n m : Name) → NameStandsFor C n m → Contains t.names m
  listed n m h = (is.are.each m).1 (name_in C 1 n m (omega arith) h)

  module _ (c d : Class) (of_c : C c) (of_d : C d) (n : Name) (left : InClass n c) (right : InClass n d) where
    mentioned : IsMentioned C n → Met c d
    mentioned h = (n, listed n n (inl (h, refl)), left, right)

    -- a name of the same namespace, and neither stands in the classes
    fresh : (NamesName c n → ⊥) → (NamesName d n → ⊥) → (m : Name) → m.ns ≡ n.ns → (IsMentioned C m → ⊥) → Contains t.names m → Met c d
    fresh not_c not_d m same free at = (
      m,
      at,
      fresh-same c m (λ k. free (c, of_c, k)) ∙ ap (λ u. fresh_in u c) same ∙ sym (fresh-same c n not_c) ∙ left,
      fresh-same d m (λ k. free (d, of_d, k)) ∙ ap (λ u. fresh_in u d) same ∙ sym (fresh-same d n not_d) ∙ right,
    )

    in_space : (NamesName c n → ⊥) → (NamesName d n → ⊥) → IsMentionedSpace C n.ns → Met c d
    in_space not_c not_d h =
        let f = first_of_space t.firsts n.ns ((is.spaces n.ns).0 h) in
        let k = is.firsts n.ns f.0 f.1 in
        let free : IsMentioned C f.0 → ⊥ = λ m. k.1.free (subst (IsMentioned C) (λ i. record { ns = k.0 i; local = f.0.local }) m) in
        fresh not_c not_d f.0 k.0 free
        (listed f.0 f.0 (inr (inl (free, subst (IsMentionedSpace C) (sym k.0) h, refl, subst (λ u. IsFirstFree (λ l. IsMentioned C (record { ns = u; local = l })) (codes "x") f.0.local) (sym k.0) k.1))))

    strange : (NamesSpace c n.ns → ⊥) → (NamesSpace d n.ns → ⊥) → Met c d
    strange not_c not_d =
        let free : IsMentionedSpace C t.foreign.ns → ⊥ = is.foreign.0.free in (
          t.foreign,
          listed t.foreign t.foreign (inr (inr (free, is.foreign.0, is.foreign.1))),
          stranger-same c t.foreign (λ k. free (c, of_c, k)) ∙ sym (stranger-same c n not_c) ∙ left,
          stranger-same d t.foreign (λ k. free (d, of_d, k)) ∙ sym (stranger-same d n not_d) ∙ right,
        )

    met : Met c d
    met =
        go (decide Name same_name one_name refuse_name n (names_in c)) (decide Name same_name one_name refuse_name n (names_in d))
        (decide Text bytes_eq same_text refuse_text n.ns (spaces_in c)) (decide Text bytes_eq same_text refuse_text n.ns (spaces_in d))
      where
        go : Stands Name n (names_in c) → Stands Name n (names_in d) → Stands Text n.ns (spaces_in c) → Stands Text n.ns (spaces_in d) → Met c d
        go (stands h) x y z = mentioned (c, of_c, names_in-from c n h)
        go (apart f) (stands h) y z = mentioned (d, of_d, names_in-from d n h)
        go (apart f) (apart e) (stands h) z = in_space (λ k. f (names_in-to c n k)) (λ k. e (names_in-to d n k)) (c, of_c, spaces_in-from c n.ns h)
        go (apart f) (apart e) (apart x) (stands h) = in_space (λ k. f (names_in-to c n k)) (λ k. e (names_in-to d n k)) (d, of_d, spaces_in-from d n.ns h)
        go (apart f) (apart e) (apart x) (apart y) = strange (λ k. x (spaces_in-to c n.ns k)) (λ k. y (spaces_in-to d n.ns k))

  pub overlap_met : (c d : Class) → C c → C d → Overlap c d → Met c d
  overlap_met c d of_c of_d o = met c d of_c of_d o.name o.left o.right
