-- The names in the tokens of a text are NCNames.
use Rattle.std.proofs.Common.{◌≡◌, ℕ, Bool, true, false, ◌&&◌, ◌||◌, ◌⊎◌, inl, inr, List, [], ◌∷◌, refl, sym, ap, ◌∙◌, subst, arith, chars, IsUtf8, zero, suc}
use Rattle.std.specs.Prelude.{nat_le, ⊤, Contains}
use Rattle.std.specs.List.{list_all}
use Rattle.std.specs.Char.{IsScalar}
use Rattle.std.proofs.lemmas.Bool.Decides.{nat_tests}
use Rattle.std.proofs.lemmas.Str.{chars-encodes}
use Rattle.std.proofs.Math.Utf8.{scalars}
use Rattle.rng_model.specs.Texts.{Text}
use Rattle.rng_model.specs.Names.{in_ranges, is_name_start, is_name_char, are_name_chars, is_ncname, name_start_ranges}
use Rattle.token_laws.specs.Tokens.{Token, keyword, ident, cname, ns_name, segment, symbol, Placed, ◌at◌}
use Rattle.token_laws.specs.Names.{names_of}
use Rattle.token_laws.specs.Lexing.{IsNcName, Spells, Joined, Ending, Reads, ReadsText, Tokens}
use Rattle.token_laws.specs.Lexing as by
use Rattle.token_laws.proofs.Runs.{clash, both, names_pass}

-- the range has no surrogate, and ends before 0x110000
abbrev has_scalars : ℕ × ℕ → Bool
has_scalars r = nat_le (r.1) 0xD7FF || (nat_le 0xE000 (r.0) && nat_le (r.1) 0x10FFFF)

in_range : (low high c : ℕ) → has_scalars (low, high) ≡ true → (nat_le low c && nat_le c high) ≡ true → IsScalar c
in_range low high c r e = grind (arith, nat_tests)

either : (a b : Bool) → (a || b) ≡ true → (a ≡ true) ⊎ (b ≡ true)
either true b e = inl refl
either false b e = inr e

scalar_in : (ranges : List (ℕ × ℕ)) (c : ℕ) → list_all has_scalars ranges ≡ true → in_ranges ranges c ≡ true → IsScalar c
scalar_in [] c all e = clash e refl
scalar_in ((low, high) ∷ ranges) c all e = go (either (nat_le low c && nat_le c high) (in_ranges ranges c) e) (scalar_in ranges c (both (has_scalars (low, high)) (list_all has_scalars ranges) all).1)
  where
    go : ((nat_le low c && nat_le c high) ≡ true) ⊎ (in_ranges ranges c ≡ true) → (in_ranges ranges c ≡ true → IsScalar c) → IsScalar c
    go (inl h) more = in_range low high c (both (has_scalars (low, high)) (list_all has_scalars ranges) all).0 h
    go (inr h) more = more h

name_char_scalar : (c : ℕ) → is_name_char c ≡ true → IsScalar c
unfolding is_name_char is_name_start
name_char_scalar c e = go (either (in_ranges name_start_ranges c) _ e)
  where
    go : (in_ranges name_start_ranges c ≡ true) ⊎ (in_ranges ((45, 46) ∷ (48, 57) ∷ (0xB7, 0xB7) ∷ (0x300, 0x36F) ∷ (0x203F, 0x2040) ∷ []) c ≡ true) → IsScalar c
    go (inl h) = scalar_in name_start_ranges c refl h
    go (inr h) = scalar_in ((45, 46) ∷ (48, 57) ∷ (0xB7, 0xB7) ∷ (0x300, 0x36F) ∷ (0x203F, 0x2040) ∷ []) c refl h

all_scalars : (cs : List ℕ) → list_all is_name_char cs ≡ true → scalars cs ≡ true
all_scalars [] e = refl
all_scalars (c ∷ cs) e =
    let h = both (is_name_char c) (list_all is_name_char cs) e in
    rw (name_char_scalar c h.0, all_scalars cs h.1) refl

-- a text that is an NCName
abbrev pub IsNcText : Text → Type 0
IsNcText n = IsUtf8 n × (is_ncname n ≡ true)

ncname_text : (n : Text) (xs : List ℕ) → IsNcName n xs → IsNcText n
unfolding is_ncname
ncname_text n xs i =
    let s = all_scalars xs (names_pass xs i.1) in
    ((xs, (s, sym i.0)), ap are_name_chars (ap chars i.0 ∙ chars-encodes xs s) ∙ i.1)

abbrev AreNcTexts : List Text → Type 0
AreNcTexts [] = ⊤
AreNcTexts (n ∷ ns) = IsNcText n × AreNcTexts ns

spelled_names : (t : Token) (xs : List ℕ) → Spells t xs → AreNcTexts (names_of t)
spelled_names (keyword k) xs s = tt
spelled_names (ident n) xs (inl (i, _)) = (ncname_text n xs i, tt)
spelled_names (ident n) xs (inr (ys, _, i)) = (ncname_text n ys i, tt)
spelled_names (cname p n) xs (ys, zs, _, i, j) = (ncname_text p ys i, (ncname_text n zs j, tt))
spelled_names (ns_name p) xs (ys, _, i) = (ncname_text p ys i, tt)
spelled_names (segment t) xs s = tt
spelled_names (symbol t) xs s = tt

abbrev HaveNcNames : List Placed → Type 0
HaveNcNames [] = ⊤
HaveNcNames (t at a ∷ ts) = AreNcTexts (names_of t) × HaveNcNames ts

read_names : {j : Joined} {a : ℕ} {cs : List ℕ} {ts : List Placed} {e : Ending} → Reads j a cs ts e → HaveNcNames ts
read_names (by.ends k) = tt
read_names (by.blank k r) = read_names r
read_names (by.comment k x r) = read_names r
read_names (by.literal k x n r) = (tt, read_names r)
read_names (by.long_literal k x n) = tt
read_names (by.faulty_literal k x n) = tt
read_names (by.Reads.escape k) = tt
read_names (by.word {t = t} {xs = xs} k x n r) = (spelled_names t xs x.spelling, read_names r)
read_names (by.long_name k x n) = tt
read_names (by.no_word k n) = tt

text_names : {cs : List ℕ} {ts : List Placed} {e : Ending} → ReadsText cs ts e → HaveNcNames ts
text_names (by.marked b r) = read_names r
text_names (by.plain b r) = read_names r

one_of : (ns : List Text) (n : Text) → AreNcTexts ns → Contains ns n → IsNcText n
one_of [] n all (i, less, is) = absurd (omega arith)
one_of (m ∷ ns) n all (zero, less, is) = subst IsNcText is all.0
one_of (m ∷ ns) n all (suc i, less, is) = one_of ns n all.1 (i, omega arith, is)

token_names : (ts : List Placed) (t : Token) (a : ℕ) → HaveNcNames ts → Contains ts (t at a) → AreNcTexts (names_of t)
token_names [] t a all (i, less, is) = absurd (omega arith)
token_names (u at b ∷ ts) t a all (zero, less, is) = let same : u ≡ t = cc in subst (λ v. AreNcTexts (names_of v)) same all.0
token_names (u at b ∷ ts) t a all (suc i, less, is) = token_names ts t a all.1 (i, omega arith, is)

-- each name in a token of the text
pub names_are : (bytes : List ℕ) (ts : List Placed) (t : Token) (a : ℕ) (n : Text) → Tokens bytes ts → Contains ts (t at a) → Contains (names_of t) n → IsNcText n
names_are bytes ts t a n lexed has names = one_of (names_of t) n (token_names ts t a (text_names lexed.reads) has) names
