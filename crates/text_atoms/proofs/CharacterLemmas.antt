-- The characters of name tokens.
use Rattle.std.proofs.Common.{◌≡◌, ℕ, ◌<◌, false, ◌||◌, ◌==◌, List, [], ◌∷◌, length, refl, sym, ap, arith, IsUtf8, chars, encode_utf8_all}
use Rattle.std.specs.List.{list_all}
use Rattle.std.proofs.lemmas.Str.{chars-nil, encodes-chars}
use Rattle.rng_model.specs.Names.{is_name_char}
use Rattle.rng_model.specs.Kinds.{are_token_chars}

spelled : (t cs : List ℕ) → encode_utf8_all cs ≡ t → 0 < length t → list_all (λ c. is_name_char c || c == 58) cs ≡ are_token_chars cs
spelled t [] e l = absurd (let h : length t ≡ 0 = ap length (sym e) in omega arith)
spelled t (c ∷ cs) e l = refl

pub token_chars : (t : List ℕ) → IsUtf8 t → 0 < length t → list_all (λ c. is_name_char c || c == 58) (chars t) ≡ are_token_chars (chars t)
token_chars t u l = spelled t (chars t) (encodes-chars t u) l

pub no_token_chars : (t : List ℕ) → length t ≡ 0 → false ≡ are_token_chars (chars t)
no_token_chars [] e = rw chars-nil refl
no_token_chars (b ∷ t) e = absurd (omega arith)
