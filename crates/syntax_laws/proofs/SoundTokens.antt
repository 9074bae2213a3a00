-- Symbols and keywords are told apart by their numbers.
use Rattle.std.proofs.Common.{◌≡◌, ◌≢◌, ◌⊎◌, inl, inr, ℕ, zero, suc, Bool, true, false, List, [], ◌∷◌, Option, Some, None, refl, sym, ap, ◌∙◌, subst}
use Rattle.std.specs.Prelude.{◌==◌}
use Rattle.std.proofs.lemmas.Bool.Decides.{eqb_tells}
use Rattle.std.proofs.Math.Dec.{eqb}
use Rattle.token_laws.specs.Tokens.{Keyword, Symbol, Token, keyword, ident, cname, ns_name, segment, symbol}
use Rattle.syntax_laws.specs.Expecting.{Part, Move, symbol_number, keyword_number, is_symbol, is_word}
use Rattle.syntax_laws.proofs.SoundMeanings.{IsSound}

abbrev nth : {A : Type 0} → A → List A → ℕ → A
nth x ys zero = x
nth x [] (suc n) = x
nth x (y ∷ ys) (suc n) = nth y ys n

abbrev symbol_at : ℕ → Symbol
symbol_at n = nth Symbol.open_brace (Symbol.close_brace ∷ Symbol.open_paren ∷ Symbol.close_paren ∷ Symbol.open_bracket ∷ Symbol.close_bracket ∷ Symbol.equals ∷ Symbol.bar_equals ∷ Symbol.ampersand_equals ∷ Symbol.comma ∷ Symbol.ampersand ∷ Symbol.bar ∷ Symbol.question ∷ Symbol.star ∷ Symbol.plus ∷ Symbol.minus ∷ Symbol.tilde ∷ Symbol.follows ∷ []) n

symbol_back : (s : Symbol) → symbol_at (symbol_number s) ≡ s
symbol_back Symbol.open_brace = refl
symbol_back Symbol.close_brace = refl
symbol_back Symbol.open_paren = refl
symbol_back Symbol.close_paren = refl
symbol_back Symbol.open_bracket = refl
symbol_back Symbol.close_bracket = refl
symbol_back Symbol.equals = refl
symbol_back Symbol.bar_equals = refl
symbol_back Symbol.ampersand_equals = refl
symbol_back Symbol.comma = refl
symbol_back Symbol.ampersand = refl
symbol_back Symbol.bar = refl
symbol_back Symbol.question = refl
symbol_back Symbol.star = refl
symbol_back Symbol.plus = refl
symbol_back Symbol.minus = refl
symbol_back Symbol.tilde = refl
symbol_back Symbol.follows = refl

pub one_symbol : (s t : Symbol) → symbol_number t ≡ symbol_number s → t ≡ s
one_symbol s t e = sym (symbol_back t) ∙ (ap symbol_at e ∙ symbol_back s)

-- a row that looks whether the symbol is next: it is, or the row is the other one
pub by_symbol : (s : Symbol) (x : Part) (f : (Bool → Move)) (o : Option Token) → IsSound x (f true) (Some (symbol s)) → IsSound x (f false) o → IsSound x (f (is_symbol s o)) o
by_symbol s x f None y n = n
by_symbol s x f (Some (keyword k)) y n = n
by_symbol s x f (Some (ident m)) y n = n
by_symbol s x f (Some (cname q m)) y n = n
by_symbol s x f (Some (ns_name q)) y n = n
by_symbol s x f (Some (segment m)) y n = n
by_symbol s x f (Some (symbol t)) y n = go (eqb_tells (symbol_number t) (symbol_number s))
  where
    go : ((eqb (symbol_number t) (symbol_number s) ≡ true) × (symbol_number t ≡ symbol_number s)) ⊎ ((eqb (symbol_number t) (symbol_number s) ≡ false) × (symbol_number t ≢ symbol_number s)) →
        IsSound x (f (symbol_number t == symbol_number s)) (Some (symbol t))
    go (inl (e, same)) = subst (λ b. IsSound x (f b) (Some (symbol t))) (sym e) (subst (λ z. IsSound x (f true) (Some (symbol z))) (sym (one_symbol s t same)) y)
    go (inr (e, other)) = subst (λ b. IsSound x (f b) (Some (symbol t))) (sym e) n

abbrev keyword_at : ℕ → Keyword
keyword_at n = nth Keyword.attribute (Keyword.default ∷ Keyword.datatypes ∷ Keyword.div ∷ Keyword.element ∷ Keyword.empty ∷ Keyword.external ∷ Keyword.grammar ∷ Keyword.include ∷ Keyword.inherit ∷ Keyword.list ∷ Keyword.mixed ∷ Keyword.namespace ∷ Keyword.not_allowed ∷ Keyword.parent ∷ Keyword.start ∷ Keyword.string ∷ Keyword.text ∷ Keyword.token ∷ []) n

keyword_back : (k : Keyword) → keyword_at (keyword_number k) ≡ k
keyword_back Keyword.attribute = refl
keyword_back Keyword.default = refl
keyword_back Keyword.datatypes = refl
keyword_back Keyword.div = refl
keyword_back Keyword.element = refl
keyword_back Keyword.empty = refl
keyword_back Keyword.external = refl
keyword_back Keyword.grammar = refl
keyword_back Keyword.include = refl
keyword_back Keyword.inherit = refl
keyword_back Keyword.list = refl
keyword_back Keyword.mixed = refl
keyword_back Keyword.namespace = refl
keyword_back Keyword.not_allowed = refl
keyword_back Keyword.parent = refl
keyword_back Keyword.start = refl
keyword_back Keyword.string = refl
keyword_back Keyword.text = refl
keyword_back Keyword.token = refl

pub one_keyword : (s t : Keyword) → keyword_number t ≡ keyword_number s → t ≡ s
one_keyword s t e = sym (keyword_back t) ∙ (ap keyword_at e ∙ keyword_back s)

-- a row that looks whether the keyword is next: it is, or the row is the other one
pub by_keyword : (s : Keyword) (x : Part) (f : (Bool → Move)) (o : Option Token) → IsSound x (f true) (Some (keyword s)) → IsSound x (f false) o → IsSound x (f (is_word s o)) o
by_keyword s x f None y n = n
by_keyword s x f (Some (ident m)) y n = n
by_keyword s x f (Some (cname q m)) y n = n
by_keyword s x f (Some (ns_name q)) y n = n
by_keyword s x f (Some (segment m)) y n = n
by_keyword s x f (Some (symbol t)) y n = n
by_keyword s x f (Some (keyword t)) y n = go (eqb_tells (keyword_number t) (keyword_number s))
  where
    go : ((eqb (keyword_number t) (keyword_number s) ≡ true) × (keyword_number t ≡ keyword_number s)) ⊎ ((eqb (keyword_number t) (keyword_number s) ≡ false) × (keyword_number t ≢ keyword_number s)) →
        IsSound x (f (keyword_number t == keyword_number s)) (Some (keyword t))
    go (inl (e, same)) = subst (λ b. IsSound x (f b) (Some (keyword t))) (sym e) (subst (λ z. IsSound x (f true) (Some (keyword z))) (sym (one_keyword s t same)) y)
    go (inr (e, other)) = subst (λ b. IsSound x (f b) (Some (keyword t))) (sym e) n
