-- Sets whose members are put one by one.
use Rattle.std.proofs.Common.{◌≡◌, ℕ, ◌<◌, ◌⊎◌, inl, inr, ◌↔◌, List, [], ◌∷◌, ◌++◌, length, map, refl, sym, ◌∙◌, ap, subst, true, false, arith, codes, Contains, append_assoc, append-nil}
use Rattle.std.proofs.lemmas.List.Elements.{Contains-push_cases, Contains-append_left, Contains-push}
use Rattle.rng_model.specs.Texts.{Text}
use Rattle.rng_model.specs.Names.{Name}
use Rattle.rng_model.specs.Fresh.{IsFirstFree, IsAmongFree}
use Rattle.text_atoms.proofs.Members.{member_none}
use Rattle.name_universe.specs.declared.origin.Origin.{Origin}
use Rattle.name_universe.specs.Sets.{Puts, IsTakenIn}
use Rattle.name_universe.specs.Tables.{spaces_of}
use Rattle.name_universe.proofs.NameSets.{Map, puts_none, puts_as, puts_more}

pub nothing_left : {X : Type 0} (xs : List X) → (0 < length xs → false ≡ true) → xs ≡ []
nothing_left [] h = refl
nothing_left (x ∷ xs) h = let e : false ≡ true = h (omega arith) in cc

-- the first of the names that are left is put
abbrev pub IsPutInto : Map → Map → Origin → List Name → List Name → Type 0
IsPutInto f g o all left = (done : List Name) × (all ≡ done ++ left) × Puts f g o (Contains done)

pub put_first : (f g h : Map) (o : Origin) (all left rest : List Name) (x : Name) → left ≡ x ∷ rest → IsPutInto f g o all left → Puts g h o (λ y. y ≡ x) → IsPutInto f h o all rest
put_first f g h o all left rest x is (done, parts, before) step = (
  done ++ x ∷ [],
  parts ∙ ap (λ (ys : List Name). done ++ ys) is ∙ sym (append_assoc done (x ∷ []) rest),
  puts_as f h o (λ y. Contains done y ⊎ (y ≡ x)) (Contains (done ++ x ∷ [])) to from (puts_more f g h o (Contains done) (λ y. y ≡ x) before step),
)
  where
    to : (y : Name) → Contains done y ⊎ (y ≡ x) → Contains (done ++ x ∷ []) y
    to y (inl m) = Contains-append_left done (x ∷ []) y m
    to y (inr e) = subst (Contains (done ++ x ∷ [])) (sym e) (Contains-push done x)

    from : (y : Name) → Contains (done ++ x ∷ []) y → Contains done y ⊎ (y ≡ x)
    from y m = elim (Contains-push_cases done x y m) [ inl k ↦ inl k | inr e ↦ inr (sym e) ]

pub put_nothing : (f : Map) (o : Origin) (all : List Name) → IsPutInto f f o all all
put_nothing f o all = ([], refl, puts_as f f o (λ x. ⊥) (Contains []) (λ x h. absurd h) (λ x h. member_none x h) (puts_none f o))

pub put_each : (f g : Map) (o : Origin) (all left : List Name) → left ≡ [] → IsPutInto f g o all left → Puts f g o (Contains all)
put_each f g o all left none (done, parts, e) =
    let same : all ≡ done = parts ∙ ap (λ (ys : List Name). done ++ ys) none ∙ append-nil done in
    puts_as f g o (Contains done) (Contains all) (λ x h. subst (λ (ys : List Name). Contains ys x) (sym same) h) (λ x h. subst (λ (ys : List Name). Contains ys x) same h) e

-- each namespace of the list stands beside its first fresh name
abbrev pub AreFirsts : List Name → List (Text × Name) → Type 0
AreFirsts taken firsts = (u : Text) (m : Name) → Contains firsts (u, m) → (m.ns ≡ u) × IsFirstFree (IsTakenIn taken u) (codes "x") m.local

-- a fresh name of a namespace of the list
abbrev pub IsFreshIn : List Name → ℕ → List Text → Name → Type 0
IsFreshIn taken fresh spaces n = Contains spaces n.ns × IsAmongFree (IsTakenIn taken n.ns) fresh (codes "x") n.local

-- the fresh names of the namespaces that aren't left are put
pub record AreFreshPut (f g : Map) (o : Origin) (taken : List Name) (fresh : ℕ) (all left : List Text) (firsts : List (Text × Name)) : Type 0 where
  pub parts : all ≡ spaces_of firsts ++ left
  pub puts : Puts f g o (IsFreshIn taken fresh (spaces_of firsts))
  pub are : AreFirsts taken firsts

spaces_more : (firsts : List (Text × Name)) (f : Text × Name) → spaces_of (firsts ++ f ∷ []) ≡ spaces_of firsts ++ f.0 ∷ []
spaces_more [] f = refl
spaces_more (g ∷ firsts) f = ap (λ (us : List Text). g.0 ∷ us) (spaces_more firsts f)

pub fresh_nothing : (f : Map) (o : Origin) (taken : List Name) (fresh : ℕ) (all : List Text) → AreFreshPut f f o taken fresh all all []
fresh_nothing f o taken fresh all = record {
  parts = refl;
  puts = puts_as f f o (λ x. ⊥) (IsFreshIn taken fresh []) (λ x h. absurd h) (λ x h. member_none x.ns h.0) (puts_none f o);
  are = λ u m h. absurd (member_none (u, m) h);
}

pub fresh_next : (f g h : Map) (o : Origin) (taken : List Name) (fresh : ℕ) (all left rest : List Text) (firsts : List (Text × Name)) (u : Text) (m : Name) → left ≡ u ∷ rest →
    AreFreshPut f g o taken fresh all left firsts → Puts g h o (λ n. (n.ns ≡ u) × IsAmongFree (IsTakenIn taken u) fresh (codes "x") n.local) →
    m.ns ≡ u → IsFirstFree (IsTakenIn taken u) (codes "x") m.local → AreFreshPut f h o taken fresh all rest (firsts ++ (u, m) ∷ [])
fresh_next f g h o taken fresh all left rest firsts u m is before step space first = record {
  parts = before.parts ∙ ap (λ (ys : List Text). spaces_of firsts ++ ys) is ∙ sym (append_assoc (spaces_of firsts) (u ∷ []) rest) ∙ ap (λ (ys : List Text). ys ++ rest) (sym grown);
  puts = puts_as f h o (λ n. IsFreshIn taken fresh (spaces_of firsts) n ⊎ ((n.ns ≡ u) × IsAmongFree (IsTakenIn taken u) fresh (codes "x") n.local)) (IsFreshIn taken fresh (spaces_of (firsts ++ (u, m) ∷ []))) to from
      (puts_more f g h o _ _ before.puts step);
  are = are;
}
  where
    grown : spaces_of (firsts ++ (u, m) ∷ []) ≡ spaces_of firsts ++ u ∷ []
    grown = spaces_more firsts (u, m)

    to : (n : Name) → IsFreshIn taken fresh (spaces_of firsts) n ⊎ ((n.ns ≡ u) × IsAmongFree (IsTakenIn taken u) fresh (codes "x") n.local) → IsFreshIn taken fresh (spaces_of (firsts ++ (u, m) ∷ [])) n
    to n (inl (inside, a)) = (subst (λ (ys : List Text). Contains ys n.ns) (sym grown) (Contains-append_left (spaces_of firsts) (u ∷ []) n.ns inside), a)
    to n (inr (e, a)) = (
      subst (λ (ys : List Text). Contains ys n.ns) (sym grown) (subst (Contains (spaces_of firsts ++ u ∷ [])) (sym e) (Contains-push (spaces_of firsts) u)),
      subst (λ (v : Text). IsAmongFree (IsTakenIn taken v) fresh (codes "x") n.local) (sym e) a,
    )

    from : (n : Name) → IsFreshIn taken fresh (spaces_of (firsts ++ (u, m) ∷ [])) n → IsFreshIn taken fresh (spaces_of firsts) n ⊎ ((n.ns ≡ u) × IsAmongFree (IsTakenIn taken u) fresh (codes "x") n.local)
    from n (inside, a) = elim (Contains-push_cases (spaces_of firsts) u n.ns (subst (λ (ys : List Text). Contains ys n.ns) grown inside)) [
      | inl k ↦ inl (k, a)
      | inr e ↦ inr (sym e, subst (λ (v : Text). IsAmongFree (IsTakenIn taken v) fresh (codes "x") n.local) (sym e) a)
    ]

    are : AreFirsts taken (firsts ++ (u, m) ∷ [])
    are v k i = elim (Contains-push_cases firsts (u, m) (v, k) i) [
      | inl j ↦ before.are v k j
      | inr e ↦
          let name : m ≡ k = ap (λ (p : Text × Name). p.1) e in
          let ns : u ≡ v = ap (λ (p : Text × Name). p.0) e in
          (subst (λ (p : Text × Name). (p.1.ns ≡ p.0) × IsFirstFree (IsTakenIn taken p.0) (codes "x") p.1.local) e (space, first))
    ]

pub fresh_each : (f g : Map) (o : Origin) (taken : List Name) (fresh : ℕ) (all left : List Text) (firsts : List (Text × Name)) → left ≡ [] → AreFreshPut f g o taken fresh all left firsts →
    spaces_of firsts ≡ all
fresh_each f g o taken fresh all left firsts none p = sym (p.parts ∙ ap (λ (ys : List Text). spaces_of firsts ++ ys) none ∙ append-nil (spaces_of firsts))

pub fresh_puts : (f g : Map) (o : Origin) (taken : List Name) (fresh : ℕ) (all left : List Text) (firsts : List (Text × Name)) → left ≡ [] → AreFreshPut f g o taken fresh all left firsts →
    Puts f g o (IsFreshIn taken fresh all)
fresh_puts f g o taken fresh all left firsts none p = subst (λ (us : List Text). Puts f g o (IsFreshIn taken fresh us)) (fresh_each f g o taken fresh all left firsts none p) p.puts

-- entries whose two parts are moved one by one
pub moved_next : {X Y : Type 0} (p : X → Y) (all done : List Y) (left rest : List X) (x : X) → left ≡ x ∷ rest → all ≡ done ++ map p left → all ≡ (done ++ p x ∷ []) ++ map p rest
moved_next p all done left rest x is e = e ∙ ap (λ (ys : List _). done ++ map p ys) is ∙ sym (append_assoc done (p x ∷ []) (map p rest))

pub moved_all : {X Y : Type 0} (p : X → Y) (all done : List Y) (left : List X) → left ≡ [] → all ≡ done ++ map p left → done ≡ all
moved_all p all done left none e = sym (e ∙ ap (λ (ys : List _). done ++ map p ys) none ∙ append-nil done)
