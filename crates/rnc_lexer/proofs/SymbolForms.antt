-- Symbols, where neither a name nor a backslash stands.
use Rattle.std.proofs.Common.{◌≡◌, ℕ, false, List, [], ◌∷◌, ◌++◌, length, refl, sym, ap, ◌∙◌, subst, append_assoc, append-nil, arith, encode_utf8, chars, IsUtf8}
use Rattle.token_laws.specs.Tokens.{Symbol, symbol}
use Rattle.token_laws.specs.Spellings.{symbol_text}
use Rattle.token_laws.specs.Lexing.{begins_backslash, HasNoWord}
use Rattle.token_laws.proofs.Words.{longest_pair, longest_single, no_word}
use Rattle.token_laws.specs.Beginnings.{begins_name, is_pair, is_single, begins_pair, begins_single, begins_escaped}
use Rattle.std.proofs.lemmas.Str.{chars-nil, chars_past_char}
use Rattle.rnc_lexer.specs.Steps.{TakesWord}

pub pair_word : (before mid after : List ℕ) (c d : ℕ) (t : Symbol) → begins_name (chars before) ≡ false → begins_backslash (chars before) ≡ false →
    before ≡ encode_utf8 c ++ mid → mid ≡ encode_utf8 d ++ after → chars before ≡ c ∷ d ∷ chars after → symbol_text t ≡ c ∷ d ∷ [] → TakesWord before (symbol t) after
pair_word before mid after c d t n b e f same text = record {
  characters = c ∷ d ∷ [];
  bytes = e ∙ (ap (λ z. encode_utf8 c ++ z) (f ∙ ap (λ z. z ++ after) (sym (append-nil (encode_utf8 d)))) ∙ sym (append_assoc (encode_utf8 c) (encode_utf8 d ++ []) after));
  word = record {
    spelled = same;
    spelling = sym text;
    longest = λ u ys zs h w. longest_pair c d (chars after) (subst (λ z. begins_name z ≡ false) same n)
        (subst (λ z. begins_backslash z ≡ false) same b) u ys zs (sym same ∙ h) w;
  };
}

pub single_word : (before after : List ℕ) (c : ℕ) (t : Symbol) → begins_name (chars before) ≡ false → begins_backslash (chars before) ≡ false → begins_pair (chars before) ≡ false →
    before ≡ encode_utf8 c ++ after → chars before ≡ c ∷ chars after → symbol_text t ≡ c ∷ [] → TakesWord before (symbol t) after
single_word before after c t n b p e same text = record {
  characters = c ∷ [];
  bytes = e ∙ ap (λ z. z ++ after) (sym (append-nil (encode_utf8 c)));
  word = record {
    spelled = same;
    spelling = sym text;
    longest = λ u ys zs h w. longest_single c (chars after) (subst (λ z. begins_name z ≡ false) same n)
        (subst (λ z. begins_backslash z ≡ false) same b) (subst (λ z. begins_pair z ≡ false) same p) u ys zs (sym same ∙ h) w;
  };
}

not_escaped : (cs : List ℕ) → begins_backslash cs ≡ false → begins_escaped cs ≡ false
not_escaped [] e = refl
not_escaped (c ∷ []) e = refl
not_escaped (c ∷ d ∷ cs) e = rw e refl

pub no_symbol : (cs : List ℕ) → begins_name cs ≡ false → begins_backslash cs ≡ false → begins_single cs ≡ false → begins_pair cs ≡ false → HasNoWord cs
no_symbol cs n b s p = no_word cs n (not_escaped cs b) s p

pub pair_at_end : (bs behind : List ℕ) (c : ℕ) → chars bs ≡ c ∷ chars behind → length behind ≡ 0 → begins_pair (chars bs) ≡ false
pair_at_end bs [] c same e = subst (λ z. begins_pair z ≡ false) (sym (same ∙ ap (λ z. c ∷ z) chars-nil)) refl
pair_at_end bs (b ∷ behind) c same e = absurd (omega (arith, e))

pub no_pair : (bs behind more : List ℕ) (c d : ℕ) → chars bs ≡ c ∷ chars behind → chars behind ≡ d ∷ chars more → is_pair c d ≡ false → begins_pair (chars bs) ≡ false
no_pair bs behind more c d same next e = subst (λ z. begins_pair z ≡ false) (sym (same ∙ ap (λ z. c ∷ z) next)) e

pub none_at_end : (old bs : List ℕ) → bs ≡ old → length bs ≡ 0 → begins_name (chars old) ≡ false → begins_backslash (chars old) ≡ false → begins_pair (chars old) ≡ false → HasNoWord (chars old)
none_at_end old [] same e n b p =
    let nil : chars old ≡ [] = ap chars (sym same) ∙ chars-nil in
    no_symbol (chars old) n b (subst (λ z. begins_single z ≡ false) (sym nil) refl) p
none_at_end old (x ∷ bs) same e n b p = absurd (omega (arith, e))

pub none_single : (old bs after : List ℕ) (c : ℕ) → bs ≡ old → IsUtf8 bs → bs ≡ encode_utf8 c ++ after → is_single c ≡ false → begins_name (chars old) ≡ false → begins_backslash (chars old) ≡ false →
    begins_pair (chars old) ≡ false → HasNoWord (chars old)
none_single old bs after c same u e f n b p =
    no_symbol (chars old) n b (subst (λ z. begins_single z ≡ false) (sym (ap chars (sym same) ∙ chars_past_char bs after c u e)) f) p

pub single_here : (old bs after new : List ℕ) (c : ℕ) (t : Symbol) → bs ≡ old → IsUtf8 bs → bs ≡ encode_utf8 c ++ after → new ≡ after → symbol_text t ≡ c ∷ [] → begins_name (chars old) ≡ false →
    begins_backslash (chars old) ≡ false → begins_pair (chars old) ≡ false → TakesWord old (symbol t) new
single_here old bs after new c t same u e is text n b p =
    subst (λ z. TakesWord old (symbol t) z) (sym is)
    (single_word old after c t n b p (sym same ∙ e) (ap chars (sym same) ∙ chars_past_char bs after c u e) text)
