-- A token list is refused by at most one fault at one place, and only where it has no tree.
use Rattle.std.proofs.Common.{◌≡◌, ℕ, ◌⊎◌, inl, inr, List, [], ◌∷◌, ◌++◌, refl, sym, ◌∙◌, subst, append_assoc, append-nil}
use Rattle.token_laws.specs.Tokens.{Token, Placed, ◌at◌}
use Rattle.grammar_laws.specs.Trees.{File}
use Rattle.grammar_laws.specs.Grammar.{Derives, Begins}
use Rattle.grammar_laws.specs.Nesting.{TooDeep}
use Rattle.grammar_laws.specs.Faults.{ParseFault, syntax_error, too_deep, IsStray, IsUnfinished, SyntaxAt, Parses, ParseRefusal}
use Rattle.grammar_laws.specs.Faults as by
use Rattle.grammar_laws.proofs.Nesting.{Splits, splits, place_same, one_depth}

-- what begins a schema begins one at each of its fronts
pub front_begins : (ts us : List Placed) → Begins (ts ++ us) → Begins ts
front_begins ts us (vs, f, d) = (us ++ vs, f, subst (λ z. Derives z f) (append_assoc ts us vs) d)

derived_begins : (ts : List Placed) (f : File) → Derives ts f → Begins ts
derived_begins ts f d = ([], f, subst (λ z. Derives z f) (sym (append-nil ts)) d)

-- no token before the fault is stray
behind : {ts xs after : List Placed} {t : Token} {a : ℕ} (ys zs : List Placed) → IsStray ts xs t a after → ys ≡ xs ++ t at a ∷ zs → Begins ys → ⊥
behind {xs = xs} {t = t} {a = a} ys zs s same b =
    s.stray (front_begins (xs ++ t at a ∷ []) zs (subst Begins (same ∙ sym (append_assoc xs (t at a ∷ []) zs)) b))

abbrev SyntaxMeaning : List Placed → ℕ → ℕ → Type 0
SyntaxMeaning ts end a =
    ((t : Token) × (before : List Placed) × (after : List Placed) × IsStray ts before t a after) ⊎ (IsUnfinished ts × (a ≡ end))

syntax_meaning : {ts : List Placed} {end a : ℕ} → SyntaxAt ts end a → SyntaxMeaning ts end a
syntax_meaning (by.token s) = inl (_, _, _, s)
syntax_meaning (by.unfinished u) = inr (u, refl)

pub one_syntax_place : (ts : List Placed) (end a b : ℕ) → SyntaxAt ts end a → SyntaxAt ts end b → a ≡ b
one_syntax_place ts end a b x y = go (syntax_meaning x) (syntax_meaning y)
  where
    two : (t : Token) (xs us : List Placed) → IsStray ts xs t a us → (u : Token) (ys vs : List Placed) → IsStray ts ys u b vs → Splits xs (t at a) ys (u at b) → a ≡ b
    two t xs us s u ys vs r (inl same) = place_same same
    two t xs us s u ys vs r (inr (inl (zs, same))) = absurd (behind ys zs s same r.begins)
    two t xs us s u ys vs r (inr (inr (zs, same))) = absurd (behind xs zs r same s.begins)

    go : SyntaxMeaning ts end a → SyntaxMeaning ts end b → a ≡ b
    go (inl (t, xs, us, s)) (inl (u, ys, vs, r)) = two t xs us s u ys vs r (splits xs (t at a) us ys (u at b) vs (sym s.spelled ∙ r.spelled))
    go (inl (t, xs, us, s)) (inr (u, e)) = absurd (behind ts us s s.spelled u.begins)
    go (inr (u, e)) (inl (t, ys, vs, r)) = absurd (behind ts vs r r.spelled u.begins)
    go (inr (u, e)) (inr (v, f)) = e ∙ sym f

derived_or_stray : (ts : List Placed) (end a : ℕ) (f : File) → Derives ts f → SyntaxAt ts end a → ⊥
derived_or_stray ts end a f d x = go (syntax_meaning x)
  where
    go : SyntaxMeaning ts end a → ⊥
    go (inl (t, xs, us, s)) = behind ts us s s.spelled (derived_begins ts f d)
    go (inr (u, e)) = u.underived f d

abbrev RefusalMeaning : List Placed → ℕ → ParseFault → ℕ → Type 0
RefusalMeaning ts end f a = ((f ≡ too_deep) × TooDeep ts a) ⊎ ((f ≡ syntax_error) × ((b : ℕ) → TooDeep ts b → ⊥) × SyntaxAt ts end a)

refusal_meaning : {ts : List Placed} {end a : ℕ} {f : ParseFault} → ParseRefusal ts end f a → RefusalMeaning ts end f a
refusal_meaning (by.deep d) = inl (refl, d)
refusal_meaning (by.syntax n s) = inr (refl, n, s)

pub one_refusal : (ts : List Placed) (end : ℕ) (f g : ParseFault) (a b : ℕ) → ParseRefusal ts end f a → ParseRefusal ts end g b → (f ≡ g) × (a ≡ b)
one_refusal ts end f g a b x y = go (refusal_meaning x) (refusal_meaning y)
  where
    go : RefusalMeaning ts end f a → RefusalMeaning ts end g b → (f ≡ g) × (a ≡ b)
    go (inl (e, d)) (inl (e', d')) = (e ∙ sym e', one_depth ts a b d d')
    go (inl (e, d)) (inr (e', n, s)) = absurd (n a d)
    go (inr (e, n, s)) (inl (e', d)) = absurd (n b d)
    go (inr (e, n, s)) (inr (e', n', s')) = (e ∙ sym e', one_syntax_place ts end a b s s')

pub not_both : (ts : List Placed) (end : ℕ) (t : File) (f : ParseFault) (a : ℕ) → Parses ts t → ParseRefusal ts end f a → ⊥
not_both ts end t f a p x = go (refusal_meaning x)
  where
    go : RefusalMeaning ts end f a → ⊥
    go (inl (e, d)) = p.shallow a d
    go (inr (e, n, s)) = derived_or_stray ts end a t p.derives s
