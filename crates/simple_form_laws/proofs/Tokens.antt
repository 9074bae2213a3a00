-- What can be reached in the simple form is a token of the tree, which can be reached in the tree too.
use Rattle.std.proofs.Common.{◌≡◌, ℕ, inl, inr, List, [], ◌∷◌, Option, Some, None, refl, sym, subst}
use Rattle.std.specs.List.{cons_option}
use Rattle.derivative_laws.proofs.Members.{IsIn, contained}
use Rattle.grammar_laws.specs.Trees.{Pattern}
use Rattle.grammar_laws.specs.Files.{Full}
use Rattle.grammar_laws.specs.Trees as full
use Rattle.simple_form_laws.specs.Parts.{Scope, Part, part, parts_of}
use Rattle.simple_form_laws.specs.Meaning.{Means}
use Rattle.simple_form_laws.specs.Forms.{tree, ElementToken, token_at, tokens_of, tokens, token_of, IsReached, from_start, from_content}
use Rattle.simple_form_laws.specs.Faults.{IsVisited, whole, content, inside}
use Rattle.simple_form_laws.proofs.OneMeaning.{found}
use Rattle.simple_form_laws.proofs.Numbers.{own_number}
use Rattle.simple_form_laws.proofs.Existence.{element_here}
use Rattle.simple_form_laws.proofs.Origins.{Origin, origin}

pub token_in : (xs : List Part) (s : Scope) (c : full.Class) (p : Pattern) (n : ℕ) → IsIn (part s (full.element c p n)) xs →
    IsIn (record { number = n; scope = s; class = c; content = p }) (tokens_of xs)
token_in [] s c p n h = absurd h
token_in (x ∷ xs) s c p n (inl e) =
    subst (λ z. IsIn (record { number = n; scope = s; class = c; content = p }) (cons_option (token_at z.scope z.pattern) (tokens_of xs))) e (inl refl)
token_in (x ∷ xs) s c p n (inr h) = go (token_at x.scope x.pattern) (token_in xs s c p n h)
  where
    go : (o : Option ElementToken) → IsIn (record { number = n; scope = s; class = c; content = p }) (tokens_of xs) →
        IsIn (record { number = n; scope = s; class = c; content = p }) (cons_option o (tokens_of xs))
    go None i = i
    go (Some u) i = inr i

module _ (f : Full) where
  abbrev pub IsVisitedToken : ℕ → Type 0
  IsVisitedToken n = (t : ElementToken) × (token_of f n ≡ Some t) × IsVisited (tree f) (part t.scope (full.element t.class t.content n))

  token_from : (n : ℕ) → Origin f.files (tree f) n → IsVisitedToken n
  token_from n (s, c, p, v) =
      let t : ElementToken = record { number = n; scope = s; class = c; content = p } in
      let h = element_here (tree f) s c p n v in
      let i = token_in (parts_of [] (tree f)) s c p n h.0 in
      (t, own_number f t (contained t (tokens f) i), v)

  pub reached_token : (n : ℕ) → IsReached f n → IsVisitedToken n
  reached_token n (from_start h r) = token_from n (origin f.files (tree f) h n r whole)
  reached_token n (from_content {m = m} {t = t} {q = q} v e h r) =
      let g = reached_token m v in
      let u = g.0 in
      let k : Means f.files u.scope u.content q = subst (λ x. Means f.files x.scope x.content q) (sym (found g.1 e)) h in
      token_from n (origin f.files (tree f) k n r (content g.2 (contained (part u.scope u.content) (inside u.scope (full.element u.class u.content m)) (inl refl))))
