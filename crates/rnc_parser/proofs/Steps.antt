-- How a reader goes on: what its functions return, one lemma each.
use Rattle.std.proofs.Common.{◌⊎◌, inl, inr, ◌≢◌}
use Rattle.std.specs.Prelude.{◌==◌}
use Rattle.std.proofs.lemmas.Bool.{eq-eqb}
use Rattle.std.proofs.lemmas.Bool.Decides.{eqb_tells}
use Rattle.std.proofs.Math.Dec.{eqb}
use Rattle.std.proofs.Common.{◌≡◌, ℕ, true, false, List, [], ◌∷◌, ◌++◌, Some, Result, Ok, Err, refl, sym, ap, ◌∙◌, subst}
use Rattle.std.specs.Result.{IsErrAnd}
use Rattle.std.proofs.lemmas.Result.{err_from_is_err_and}
use Rattle.token_laws.specs.Tokens.{Keyword, Symbol, Token, keyword, ident, cname, ns_name, symbol, Placed, ◌at◌}
use Rattle.syntax_laws.specs.Expecting.{Part, pass, become, refuse, first, next, Runs, stay, passes, becomes, Stands, IsRefused, is_symbol, symbol_number}
use Rattle.rnc_parser.specs.Reading.{Is, Eats, Misses, Takes, Fails, at_token, no_memory, Parsed, parsed, failed, IsKeyword, IsSign, IsPlainName, IsPrefixedName, IsNamespaceName, IsName}
use Rattle.rng_model.specs.Texts.{Text}
use Rattle.grammar_laws.specs.Grammar.{IsAnyId}
use Rattle.std.specs.Prelude.{if◌then◌else◌}
use Rattle.rnc_parser.specs.declared.stop.Stop.{Stop}

pub run_on : {xs ys zs : List Part} {ts us vs : List Placed} → Runs xs ts ys us → Runs ys us zs vs → Runs xs ts zs vs
run_on stay s = s
run_on (passes e r) s = passes e (run_on r s)
run_on (becomes e r) s = becomes e (run_on r s)

append_assoc : (xs ys zs : List Part) → (xs ++ ys) ++ zs ≡ xs ++ (ys ++ zs)
append_assoc [] ys zs = refl
append_assoc (x ∷ xs) ys zs = ap (λ z. x ∷ z) (append_assoc xs ys zs)

-- the parts as they begin
pub begin : {xs : List Part} {ts : List Placed} → Stands xs ts xs ts
begin = record { runs = λ rest. stay }

-- the first part is another list of parts
pub turn : {start : List Part} {y : Part} {xs ys : List Part} {ts us : List Placed} → Stands start ts (y ∷ ys) us → next y (first us) ≡ become xs → Stands start ts (xs ++ ys) us
turn {start = start} {xs = xs} {ys = ys} {ts = ts} {us = us} s e =
    record { runs = λ rest. subst (λ z. Runs (start ++ rest) ts z us) (sym (append_assoc xs ys rest)) (run_on (s.runs rest) (becomes e stay)) }

-- the first part passes a token
pub past : {start : List Part} {y : Part} {xs ys : List Part} {ts us vs : List Placed} {t : Token} {a : ℕ} → Stands start ts (y ∷ ys) us → us ≡ t at a ∷ vs → next y (Some t) ≡ pass xs → Stands start ts (xs ++ ys) vs
past {start = start} {y = y} {xs = xs} {ys = ys} {ts = ts} {us = us} {vs = vs} {t = t} {a = a} s e n =
    record { runs = λ rest. subst (λ z. Runs (start ++ rest) ts z vs) (sym (append_assoc xs ys rest)) (run_on (subst (λ z. Runs (start ++ rest) ts (y ∷ ys ++ rest) z) e (s.runs rest)) (passes n stay)) }

-- the first part is one token
pub took : {start : List Part} {y : Part} {ys : List Part} {ts us vs : List Placed} {Q : Token → ℕ → Type 0} → Stands start ts (y ∷ ys) us →
    (t : Token) × (a : ℕ) × (us ≡ t at a ∷ vs) × (next y (Some t) ≡ pass []) × Q t a → Stands start ts ys vs
took s m = past s m.2 m.3

pub made : {A : Type 0} {R : List Placed → List Placed → A → Type 0} {xs : List Part} {ts us : List Placed} {v : A} → Parsed xs R ts (Ok v) us → R ts us v
made (parsed r s) = r

pub stands : {A : Type 0} {R : List Placed → List Placed → A → Type 0} {xs : List Part} {ts us : List Placed} {v : A} → Parsed xs R ts (Ok v) us → Stands xs ts [] us
stands (parsed r s) = s

failure : {A : Type 0} {R : List Placed → List Placed → A → Type 0} {xs : List Part} {ts us : List Placed} {e : Stop} → Parsed xs R ts (Err e) us → Fails xs ts us e
failure (failed f) = f

behind : {start : List Part} {y : Part} {ys : List Part} {ts us vs : List Placed} → Stands start ts (y ∷ ys) us → Stands (y ∷ []) us [] vs → Stands start ts ys vs
behind {ys = ys} s r = record { runs = λ rest. run_on (s.runs rest) (r.runs (ys ++ rest)) }

-- the first part is read
pub read : {A : Type 0} {R : List Placed → List Placed → A → Type 0} {v : A} {start : List Part} {y : Part} {ys : List Part} {ts us vs : List Placed} → Stands start ts (y ∷ ys) us → Parsed (y ∷ []) R us (Ok v) vs → Stands start ts ys vs
read s r = behind s (stands r)

refused_rest : (ys rest : List Part) (us : List Placed) → IsRefused ys us → IsRefused (ys ++ rest) us
refused_rest [] rest us h = elim h [ ]
refused_rest (y ∷ ys) rest us h = h

-- the first part can't begin with the next token
pub stuck : {start : List Part} {y : Part} {ys : List Part} {ts us : List Placed} → Stands start ts (y ∷ ys) us → next y (first us) ≡ refuse → Fails start ts us Stop.Syntax
stuck {y = y} {ys = ys} s e = at_token (y ∷ ys, s, e)

further : (ys : List Part) {d : Stop} {start zs : List Part} {ts us vs : List Placed} → Stands start ts (zs ++ ys) us → Fails zs us vs d → Fails start ts vs d
further ys {start = start} {zs = zs} {ts = ts} {us = us} {vs = vs} s (at_token (xs, r, h)) =
    at_token (
      xs ++ ys,
      record {
        runs = λ rest.
            subst (λ z. Runs (start ++ rest) ts z vs) (sym (append_assoc xs ys rest)) (run_on (subst (λ z. Runs (start ++ rest) ts z us) (append_assoc zs ys rest) (s.runs rest)) (r.runs (ys ++ rest)));
      },
      refused_rest xs ys vs h,
    )
further ys s no_memory = no_memory

-- the first part fails
pub inside : {A : Type 0} {R : List Placed → List Placed → A → Type 0} {d : Stop} {start : List Part} {y : Part} {ys : List Part} {ts us vs : List Placed} → Stands start ts (y ∷ ys) us → Parsed (y ∷ []) R us (Err d) vs → Fails start ts vs d
inside {y = y} {ys = ys} s m = further ys {zs = y ∷ []} s (failure m)

-- the first part isn't the next token
pub missing : (d : Stop) {start : List Part} {y : Part} {ys : List Part} {ts us vs : List Placed} → Stands start ts (y ∷ ys) us → Misses y us d vs → Fails start ts vs d
missing Stop.Syntax {start = start} {ts = ts} s (e, h) = subst (λ z. Fails start ts z Stop.Syntax) (sym e) (stuck s h)
missing Stop.OutOfMemory s h = no_memory

-- an error that is passed on
pub passed_on : {T : Type 0} {R : List Placed → List Placed → T → Type 0} {d : Stop} {xs : List Part} {ts us : List Placed} (r : Result T Stop) → IsErrAnd r (λ y. y ≡ d) → Fails xs ts us d → Parsed xs R ts r us
passed_on {R = R} {d = d} {xs = xs} {ts = ts} {us = us} r h f =
    let p = err_from_is_err_and r h in
    subst (λ z. Parsed xs R ts z us) (sym p.1) (failed (subst (Fails xs ts us) (sym p.2) f))

-- the part's answer is that of the parts that it is here
pub instead : {T : Type 0} {R S : List Placed → List Placed → T → Type 0} {x : Part} {xs : List Part} {ts us : List Placed} {r : Result T Stop} → next x (first ts) ≡ become xs →
    ((v : T) → R ts us v → S ts us v) → Parsed xs R ts r us → Parsed (x ∷ []) S ts r us
instead {xs = xs} {ts = ts} e h (parsed {v = v} d s) = parsed (h v d) (record { runs = λ rest. becomes e (s.runs rest) })
instead e h (failed (at_token (ys, s, n))) = failed (at_token (ys, record { runs = λ rest. becomes e (s.runs rest) }, n))
instead e h (failed no_memory) = failed no_memory

-- the same behind other parts
pub at_last : {T : Type 0} {R S : List Placed → List Placed → T → Type 0} {start : List Part} {y : Part} {ts us vs : List Placed} {r : Result T Stop} → Stands start ts (y ∷ []) us →
    ((v : T) → R us vs v → S ts vs v) → Parsed (y ∷ []) R us r vs → Parsed start S ts r vs
at_last s h (parsed {v = v} d m) = parsed (h v d) (behind s m)
at_last {y = y} s h (failed f) = failed (further [] {zs = y ∷ []} s f)

-- the same behind several
pub at_rest : {T : Type 0} {R S : List Placed → List Placed → T → Type 0} {start ys : List Part} {ts us vs : List Placed} {r : Result T Stop} → Stands start ts ys us →
    ((v : T) → R us vs v → S ts vs v) → Parsed ys R us r vs → Parsed start S ts r vs
at_rest {start = start} {ts = ts} {vs = vs} s h (parsed {v = v} d m) = parsed (h v d) (record { runs = λ rest. run_on (s.runs rest) (m.runs rest) })
at_rest s h (failed (at_token (zs, m, n))) = failed (at_token (zs, record { runs = λ rest. run_on (s.runs rest) (m.runs rest) }, n))
at_rest s h (failed no_memory) = failed no_memory

-- tests of the next token
abbrev symbol_at : ℕ → Symbol
symbol_at n = if n == 0 then Symbol.open_brace else (if n == 1 then Symbol.close_brace else (if n == 2 then Symbol.open_paren else (if n == 3 then Symbol.close_paren else (if n == 4 then Symbol.open_bracket else (if n == 5 then Symbol.close_bracket else (if n == 6 then Symbol.equals else (if n == 7 then Symbol.bar_equals else (if n == 8 then Symbol.ampersand_equals else (if n == 9 then Symbol.comma else (if n == 10 then Symbol.ampersand else (if n == 11 then Symbol.bar else (if n == 12 then Symbol.question else (if n == 13 then Symbol.star else (if n == 14 then Symbol.plus else (if n == 15 then Symbol.minus else (if n == 16 then Symbol.tilde else (Symbol.follows)))))))))))))))))

symbol_back : (s : Symbol) → symbol_at (symbol_number s) ≡ s
symbol_back Symbol.open_brace = refl
symbol_back Symbol.close_brace = refl
symbol_back Symbol.open_paren = refl
symbol_back Symbol.close_paren = refl
symbol_back Symbol.open_bracket = refl
symbol_back Symbol.close_bracket = refl
symbol_back Symbol.equals = refl
symbol_back Symbol.bar_equals = refl
symbol_back Symbol.ampersand_equals = refl
symbol_back Symbol.comma = refl
symbol_back Symbol.ampersand = refl
symbol_back Symbol.bar = refl
symbol_back Symbol.question = refl
symbol_back Symbol.star = refl
symbol_back Symbol.plus = refl
symbol_back Symbol.minus = refl
symbol_back Symbol.tilde = refl
symbol_back Symbol.follows = refl

-- the symbol isn't next
pub no_symbol : (s : Symbol) (ts : List Placed) → Is s ts false → is_symbol s (first ts) ≡ false
no_symbol s [] h = refl
no_symbol s (keyword k at a ∷ ts) h = refl
no_symbol s (Token.ident n at a ∷ ts) h = refl
no_symbol s (Token.cname p n at a ∷ ts) h = refl
no_symbol s (Token.ns_name p at a ∷ ts) h = refl
no_symbol s (Token.segment n at a ∷ ts) h = refl
no_symbol s (symbol t at a ∷ ts) h = go (eqb_tells (symbol_number t) (symbol_number s))
  where
    go : ((eqb (symbol_number t) (symbol_number s) ≡ true) × (symbol_number t ≡ symbol_number s)) ⊎ ((eqb (symbol_number t) (symbol_number s) ≡ false) × (symbol_number t ≢ symbol_number s)) →
        (symbol_number t == symbol_number s) ≡ false
    go (inl (e, f)) = absurd (h a ts (ap (λ z. symbol z at a ∷ ts) (sym (symbol_back t) ∙ (ap symbol_at f ∙ symbol_back s))))
    go (inr (e, f)) = e

-- the symbol is next
pub symbol_passes : (s : Symbol) (a : ℕ) → is_symbol s (Some (symbol s)) ≡ true
symbol_passes s a = eq-eqb (symbol_number s) (symbol_number s) refl

-- the symbol that isn't next would have been passed
pub uneaten : {s : Symbol} {start : List Part} {y : Part} {xs ys : List Part} {ts us vs : List Placed} → Stands start ts (y ∷ ys) us → Eats s us false vs →
    (false ≡ is_symbol s (first us) → next y (first us) ≡ become xs) → Stands start ts (xs ++ ys) vs
uneaten {s = s} {start = start} {xs = xs} {ys = ys} {ts = ts} {us = us} p (e, h) made =
    subst (λ z. Stands start ts (xs ++ ys) z) (sym e) (turn p (made (sym (no_symbol s us h))))

-- the first token of what was passed
pub keyword_first : {k : Keyword} {ts us : List Placed} {v : ℕ} → Takes (Part.word k) (IsKeyword k) ts (Ok v) us → ts ≡ keyword k at v ∷ us
keyword_first {k = k} {us = us} m = m.2 ∙ (ap (λ z. z at m.1 ∷ us) m.4.0 ∙ ap (λ z. keyword k at z ∷ us) (sym m.4.1))

pub symbol_first : {s : Symbol} {ts us : List Placed} {v : ℕ} → Takes (Part.sign s) (IsSign s) ts (Ok v) us → ts ≡ symbol s at v ∷ us
symbol_first {s = s} {us = us} m = m.2 ∙ (ap (λ z. z at m.1 ∷ us) m.4.0 ∙ ap (λ z. symbol s at z ∷ us) (sym m.4.1))

pub plain_first : {ts us : List Placed} {v : Text × ℕ} → Takes Part.plain_name IsPlainName ts (Ok v) us → ts ≡ ident (v.0) at v.1 ∷ us
plain_first {us = us} {v = v} m = m.2 ∙ (ap (λ z. z at m.1 ∷ us) m.4.0 ∙ ap (λ z. ident (v.0) at z ∷ us) (sym m.4.1))

pub prefixed_first : {ts us : List Placed} {v : Text × Text × ℕ} → Takes Part.prefixed_name IsPrefixedName ts (Ok v) us → ts ≡ cname (v.0) (v.1) at v.2 ∷ us
prefixed_first {us = us} {v = v} m = m.2 ∙ (ap (λ z. z at m.1 ∷ us) m.4.0 ∙ ap (λ z. cname (v.0) (v.1) at z ∷ us) (sym m.4.1))

pub namespace_first : {ts us : List Placed} {v : Text × ℕ} → Takes Part.namespace_name IsNamespaceName ts (Ok v) us → ts ≡ ns_name (v.0) at v.1 ∷ us
namespace_first {us = us} {v = v} m = m.2 ∙ (ap (λ z. z at m.1 ∷ us) m.4.0 ∙ ap (λ z. ns_name (v.0) at z ∷ us) (sym m.4.1))

pub name_first : {ts us : List Placed} {v : Text × ℕ} → Takes Part.name IsName ts (Ok v) us → (t : Token) × (ts ≡ t at v.1 ∷ us) × IsAnyId t (v.0)
name_first {us = us} {v = v} m = (m.0, m.2 ∙ ap (λ z. m.0 at z ∷ us) (sym m.4.1), m.4.0)

pub bracket_next : {ts : List Placed} → Is Symbol.open_bracket ts true → true ≡ is_symbol Symbol.open_bracket (first ts)
bracket_next (a, vs, e) = sym (ap (λ z. is_symbol Symbol.open_bracket (first z)) e)
