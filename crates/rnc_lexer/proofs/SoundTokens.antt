-- What holds of the tokens of any text.
use Rattle.std.proofs.Common.{◌≡◌, ℕ, zero, suc, ◌≤◌, ◌<◌, arith, true, List, [], ◌∷◌, ◌++◌, map, length, refl, sym, ◌∙◌, subst}
use Rattle.std.specs.Prelude.{Contains, IsUtf8}
use Rattle.rng_model.specs.Texts.{Text}
use Rattle.rng_model.specs.Names.{is_ncname}
use Rattle.token_laws.specs.Tokens.{Token, Placed, ◌at◌}
use Rattle.token_laws.specs.Names.{names_of}
use Rattle.rnc_lexer.specs.declared.tokens.Lexed.{Lexed}
use Rattle.rnc_lexer.specs.Views.{placed_of}
use Rattle.rnc_lexer.specs.Sound.{AreWithin, AreSound}

pub sound_all : (n : ℕ) (ts : List Placed) → AreWithin n ts →
    ((t : Token) (a : ℕ) (name : Text) → Contains ts (t at a) → Contains (names_of t) name → IsUtf8 name × (is_ncname name ≡ true)) → AreSound n ts
sound_all n [] w named = tt
sound_all n (u at b ∷ ts) (g, w) named =
    ((g, λ name has. (named u b name (0, omega arith, refl) has).1), sound_all n ts w (λ t a name (k, less, is) has. named t a name (suc k, omega (arith, less), is) has))

pub within_pushed : (n : ℕ) (xs : List Lexed) (x : Lexed) {ys : List Lexed} → ys ≡ xs ++ x ∷ [] → AreWithin n (map placed_of xs) → x.place ≤ n → AreWithin n (map placed_of ys)
within_pushed n xs x same w h = subst (λ zs. AreWithin n (map placed_of zs)) (sym same) (go xs w)
  where
    go : (zs : List Lexed) → AreWithin n (map placed_of zs) → AreWithin n (map placed_of (zs ++ x ∷ []))
    go [] v = (h, tt)
    go (z ∷ zs) (g, v) = (g, go zs v)

pub within_end : {m n k : ℕ} (ts : List Placed) → m ≡ k → k ≡ n → AreWithin m ts → AreWithin n ts
within_end ts e f w = subst (λ z. AreWithin z ts) (e ∙ f) w
