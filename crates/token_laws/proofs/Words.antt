-- When a spelling is the longest at its place, by the characters behind it: what a lexer sees.
use Rattle.std.proofs.Common.{◌≡◌, ℕ, zero-le, le_refl, ◌≤◌, ◌+◌, Bool, true, false, ◌||◌, ◌==◌, ◌⊎◌, inl, inr, List, [], ◌∷◌, ◌++◌, length, refl, sym, ap, ◌∙◌, subst, arith, true≢false, append_assoc, length-append}
use Rattle.std.specs.List.{list_all}
use Rattle.std.proofs.lemmas.Bool.{eqb-true}
use Rattle.rng_model.specs.Names.{is_name_start, is_name_char, are_name_chars}
use Rattle.token_laws.specs.Tokens.{Keyword, Symbol, Token, keyword, ident, cname, ns_name, segment, symbol}
use Rattle.token_laws.specs.Tokens as word
use Rattle.token_laws.specs.Spellings.{symbol_text}
use Rattle.token_laws.specs.Lexing.{EndsRun, Spells, HasNoWord, begins_backslash}
use Rattle.token_laws.specs.Beginnings.{begins_name, goes_on, is_pair, begins_pair, is_single, begins_single, begins_escaped}
use Rattle.token_laws.proofs.Runs.{both, clash, one_run, head_same, tail_same, names_pass, name_begins, colon_ends, no_star, keyword_names}

or_left : (b c : Bool) → b ≡ true → (b || c) ≡ true
or_left b c e = rw e refl

or_right : (b c : Bool) → c ≡ true → (b || c) ≡ true
or_right true c e = refl
or_right false c e = e

-- a run is at least as long as any front that passes
run_longest : (p : ℕ → Bool) (xs rest ys zs : List ℕ) → EndsRun p rest → list_all p ys ≡ true → xs ++ rest ≡ ys ++ zs → length ys ≤ length xs
run_longest p xs rest [] zs e a same = zero-le
run_longest p [] rest (y ∷ ys) zs e a same = clash (both (p y) (list_all p ys) a).0 (subst (EndsRun p) same e)
run_longest p (x ∷ xs) rest (y ∷ ys) zs e a same =
    let h = run_longest p xs rest ys zs e (both (p y) (list_all p ys) a).1 (tail_same same) in
    omega arith

-- what the first character of a spelling is
symbol_no_name : (s : Symbol) (zs : List ℕ) → begins_name (symbol_text s ++ zs) ≡ false
unfolding is_name_start
symbol_no_name word.open_brace zs = refl
symbol_no_name word.close_brace zs = refl
symbol_no_name word.open_paren zs = refl
symbol_no_name word.close_paren zs = refl
symbol_no_name word.open_bracket zs = refl
symbol_no_name word.close_bracket zs = refl
symbol_no_name word.equals zs = refl
symbol_no_name word.bar_equals zs = refl
symbol_no_name word.ampersand_equals zs = refl
symbol_no_name word.comma zs = refl
symbol_no_name word.ampersand zs = refl
symbol_no_name word.bar zs = refl
symbol_no_name word.question zs = refl
symbol_no_name word.star zs = refl
symbol_no_name word.plus zs = refl
symbol_no_name word.minus zs = refl
symbol_no_name word.tilde zs = refl
symbol_no_name word.follows zs = refl

symbol_no_backslash : (s : Symbol) (zs : List ℕ) → begins_backslash (symbol_text s ++ zs) ≡ false
symbol_no_backslash word.open_brace zs = refl
symbol_no_backslash word.close_brace zs = refl
symbol_no_backslash word.open_paren zs = refl
symbol_no_backslash word.close_paren zs = refl
symbol_no_backslash word.open_bracket zs = refl
symbol_no_backslash word.close_bracket zs = refl
symbol_no_backslash word.equals zs = refl
symbol_no_backslash word.bar_equals zs = refl
symbol_no_backslash word.ampersand_equals zs = refl
symbol_no_backslash word.comma zs = refl
symbol_no_backslash word.ampersand zs = refl
symbol_no_backslash word.bar zs = refl
symbol_no_backslash word.question zs = refl
symbol_no_backslash word.star zs = refl
symbol_no_backslash word.plus zs = refl
symbol_no_backslash word.minus zs = refl
symbol_no_backslash word.tilde zs = refl
symbol_no_backslash word.follows zs = refl

escape_no_name : (ys : List ℕ) → begins_name (92 ∷ ys) ≡ false
unfolding is_name_start
escape_no_name ys = refl

no_start : is_name_start 92 ≡ false
unfolding is_name_start
no_start = refl

name_no_backslash : (xs : List ℕ) → begins_name xs ≡ true → begins_backslash xs ≡ false
name_no_backslash [] e = refl
name_no_backslash (c ∷ cs) e = go (c == 92) refl
  where
    go : (b : Bool) → (c == 92) ≡ b → (c == 92) ≡ false
    go true f = clash (subst (λ z. is_name_start z ≡ true) (eqb-true c 92 f) e) no_start
    go false f = f

-- the spellings that begin with a name
abbrev NameForm : List ℕ → List ℕ → Type 0
NameForm ys zs =
    (list_all is_name_char ys ≡ true) ⊎ ((us : List ℕ) × (vs : List ℕ) × (ys ≡ us ++ 58 ∷ vs) × (are_name_chars us ≡ true) × ((are_name_chars vs ≡ true) ⊎ (vs ≡ 42 ∷ [])))

name_form : (u : Token) (ys zs : List ℕ) → Spells u ys → begins_name (ys ++ zs) ≡ true → NameForm ys zs
name_form (keyword k) ys zs s e = inl (names_pass ys (subst (λ z. are_name_chars z ≡ true) (sym s) (keyword_names k)))
name_form (ident n) ys zs (inl (s, _)) e = inl (names_pass ys s.1)
name_form (ident n) ys zs (inr (us, s, _)) e = clash (subst (λ z. begins_name (z ++ zs) ≡ true) s e) (escape_no_name (us ++ zs))
name_form (cname p n) ys zs (us, vs, s, f, g) e = inr (us, vs, s, f.1, inl g.1)
name_form (ns_name p) ys zs (us, s, f) e = inr (us, 42 ∷ [], s, f.1, inr refl)
name_form (segment t) ys zs s e = elim s [ ]
name_form (symbol t) ys zs s e = clash (subst (λ z. begins_name (z ++ zs) ≡ true) s e) (symbol_no_name t zs)

-- a name that doesn't go on is the longest spelling
pub longest_name : (xs rest : List ℕ) → are_name_chars xs ≡ true → EndsRun is_name_char rest → goes_on rest ≡ false →
    (u : Token) (ys zs : List ℕ) → xs ++ rest ≡ ys ++ zs → Spells u ys → length ys ≤ length xs
longest_name xs rest a e n u ys zs same s = go (name_form u ys zs s (subst (λ z. begins_name z ≡ true) same (name_begins xs rest a)))
  where
    on : (vs : List ℕ) → rest ≡ 58 ∷ (vs ++ zs) → (are_name_chars vs ≡ true) ⊎ (vs ≡ 42 ∷ []) → length ys ≤ length xs
    on [] r (inl f) = absurd (true≢false (sym f))
    on (c ∷ cs) r (inl f) =
        let h = or_left (is_name_start c) (c == 42) (both (is_name_start c) (list_all is_name_char cs) f).0 in
        clash h (subst (λ z. goes_on z ≡ false) r n)
    on vs r (inr f) =
        let h : goes_on (58 ∷ 42 ∷ zs) ≡ false = subst (λ z. goes_on (58 ∷ (z ++ zs)) ≡ false) f (subst (λ z. goes_on z ≡ false) r n) in
        clash (or_right (is_name_start 42) true refl) h

    go : NameForm ys zs → length ys ≤ length xs
    go (inl f) = run_longest is_name_char xs rest ys zs e f same
    go (inr (us, vs, form, f, g)) =
        let split : xs ++ rest ≡ us ++ (58 ∷ (vs ++ zs)) = same ∙ (ap (λ z. z ++ zs) form ∙ append_assoc us (58 ∷ vs) zs) in
        on vs (one_run is_name_char xs rest us (58 ∷ (vs ++ zs)) (names_pass xs a) e (names_pass us f) colon_ends split).1 g

-- `name:name`: what goes on behind the second name is no part
longer_front : (us vs ws : List ℕ) → length vs ≤ length ws → length (us ++ 58 ∷ vs) ≤ length (us ++ 58 ∷ ws)
longer_front us vs ws h =
    let a : length (us ++ 58 ∷ vs) ≡ length us + length (58 ∷ vs) = length-append us (58 ∷ vs) in
    let b : length (us ++ 58 ∷ ws) ≡ length us + length (58 ∷ ws) = length-append us (58 ∷ ws) in
    let m : length (58 ∷ vs) ≤ length (58 ∷ ws) = omega arith in
    omega arith

front_shorter : (us ws : List ℕ) → length us ≤ length (us ++ 58 ∷ ws)
front_shorter us ws =
    let b : length (us ++ 58 ∷ ws) ≡ length us + length (58 ∷ ws) = length-append us (58 ∷ ws) in
    omega arith

pub longest_cname : (xs ws rest : List ℕ) → are_name_chars xs ≡ true → are_name_chars ws ≡ true → EndsRun is_name_char rest →
    (u : Token) (ys zs : List ℕ) → (xs ++ 58 ∷ ws) ++ rest ≡ ys ++ zs → Spells u ys → length ys ≤ length (xs ++ 58 ∷ ws)
longest_cname xs ws rest a b e u ys zs same s =
    go (name_form u ys zs s (subst (λ z. begins_name z ≡ true) (sym whole ∙ same) (name_begins xs (58 ∷ (ws ++ rest)) a)))
  where
    whole : (xs ++ 58 ∷ ws) ++ rest ≡ xs ++ 58 ∷ (ws ++ rest)
    whole = append_assoc xs (58 ∷ ws) rest

    on : (us vs : List ℕ) → ys ≡ us ++ 58 ∷ vs → are_name_chars us ≡ true → (are_name_chars vs ≡ true) ⊎ (vs ≡ 42 ∷ []) → length ys ≤ length (xs ++ 58 ∷ ws)
    on us vs form f g =
        let split : xs ++ 58 ∷ (ws ++ rest) ≡ us ++ (58 ∷ (vs ++ zs)) = sym whole ∙ (same ∙ (ap (λ z. z ++ zs) form ∙ append_assoc us (58 ∷ vs) zs)) in
        let r = one_run is_name_char xs (58 ∷ (ws ++ rest)) us (58 ∷ (vs ++ zs)) (names_pass xs a) colon_ends (names_pass us f) colon_ends split in
        let tail : ws ++ rest ≡ vs ++ zs = tail_same r.1 in
        let short : length vs ≤ length ws = second vs tail g in
        subst (λ z. length z ≤ length (xs ++ 58 ∷ ws)) (sym (form ∙ ap (λ z. z ++ 58 ∷ vs) (sym r.0))) (longer_front xs vs ws short)
      where
        second : (vs : List ℕ) → ws ++ rest ≡ vs ++ zs → (are_name_chars vs ≡ true) ⊎ (vs ≡ 42 ∷ []) → length vs ≤ length ws
        second vs tail (inl h) = run_longest is_name_char ws rest vs zs e (names_pass vs h) tail
        second vs tail (inr h) = subst (λ z. length z ≤ length ws) (sym h) (some ws b)
          where
            some : (ws : List ℕ) → are_name_chars ws ≡ true → 1 ≤ length ws
            some [] k = absurd (true≢false (sym k))
            some (c ∷ cs) k = omega arith

    go : NameForm ys zs → length ys ≤ length (xs ++ 58 ∷ ws)
    go (inl f) =
        let h : length ys ≤ length xs = run_longest is_name_char xs (58 ∷ (ws ++ rest)) ys zs colon_ends f (sym whole ∙ same) in
        let k = front_shorter xs ws in
        omega arith
    go (inr (us, vs, form, f, g)) = on us vs form f g

-- `name:*`
pub longest_ns_name : (xs rest : List ℕ) → are_name_chars xs ≡ true →
    (u : Token) (ys zs : List ℕ) → (xs ++ 58 ∷ 42 ∷ []) ++ rest ≡ ys ++ zs → Spells u ys → length ys ≤ length (xs ++ 58 ∷ 42 ∷ [])
longest_ns_name xs rest a u ys zs same s =
    go (name_form u ys zs s (subst (λ z. begins_name z ≡ true) (sym whole ∙ same) (name_begins xs (58 ∷ 42 ∷ rest) a)))
  where
    whole : (xs ++ 58 ∷ 42 ∷ []) ++ rest ≡ xs ++ 58 ∷ 42 ∷ rest
    whole = append_assoc xs (58 ∷ 42 ∷ []) rest

    second : (vs : List ℕ) → 42 ∷ rest ≡ vs ++ zs → (are_name_chars vs ≡ true) ⊎ (vs ≡ 42 ∷ []) → length vs ≤ 1
    second [] tail g = zero-le
    second (c ∷ cs) tail (inl h) =
        let starts : is_name_start 42 ≡ true = subst (λ z. is_name_start z ≡ true) (sym (head_same tail)) (both (is_name_start c) (list_all is_name_char cs) h).0 in
        clash starts no_star
    second (c ∷ cs) tail (inr h) = subst (λ z. length z ≤ 1) (sym h) (le_refl 1)

    on : (us vs : List ℕ) → ys ≡ us ++ 58 ∷ vs → are_name_chars us ≡ true → (are_name_chars vs ≡ true) ⊎ (vs ≡ 42 ∷ []) → length ys ≤ length (xs ++ 58 ∷ 42 ∷ [])
    on us vs form f g =
        let split : xs ++ 58 ∷ 42 ∷ rest ≡ us ++ (58 ∷ (vs ++ zs)) = sym whole ∙ (same ∙ (ap (λ z. z ++ zs) form ∙ append_assoc us (58 ∷ vs) zs)) in
        let r = one_run is_name_char xs (58 ∷ 42 ∷ rest) us (58 ∷ (vs ++ zs)) (names_pass xs a) colon_ends (names_pass us f) colon_ends split in
        subst (λ z. length z ≤ length (xs ++ 58 ∷ 42 ∷ [])) (sym (form ∙ ap (λ z. z ++ 58 ∷ vs) (sym r.0))) (longer_front xs vs (42 ∷ []) (second vs (tail_same r.1) g))

    go : NameForm ys zs → length ys ≤ length (xs ++ 58 ∷ 42 ∷ [])
    go (inl f) =
        let h : length ys ≤ length xs = run_longest is_name_char xs (58 ∷ 42 ∷ rest) ys zs colon_ends f (sym whole ∙ same) in
        let k = front_shorter xs (42 ∷ []) in
        omega arith
    go (inr (us, vs, form, f, g)) = on us vs form f g

-- the spellings that begin with no name: a backslash and a name, or a symbol
abbrev OtherForm : List ℕ → Type 0
OtherForm ys = ((us : List ℕ) × (ys ≡ 92 ∷ us) × (are_name_chars us ≡ true)) ⊎ ((t : Symbol) × (ys ≡ symbol_text t))

other_form : (u : Token) (ys zs : List ℕ) → Spells u ys → begins_name (ys ++ zs) ≡ false → OtherForm ys
other_form (keyword k) ys zs s e = clash (name_begins ys zs (subst (λ z. are_name_chars z ≡ true) (sym s) (keyword_names k))) e
other_form (ident n) ys zs (inl (s, _)) e = clash (name_begins ys zs s.1) e
other_form (ident n) ys zs (inr (us, s, f)) e = inl (us, s, f.1)
other_form (cname p n) ys zs (us, vs, s, f, g) e =
    clash (subst (λ z. begins_name z ≡ true) (sym (ap (λ z. z ++ zs) s ∙ append_assoc us (58 ∷ vs) zs)) (name_begins us (58 ∷ (vs ++ zs)) f.1)) e
other_form (ns_name p) ys zs (us, s, f) e =
    clash (subst (λ z. begins_name z ≡ true) (sym (ap (λ z. z ++ zs) s ∙ append_assoc us (58 ∷ 42 ∷ []) zs)) (name_begins us (58 ∷ 42 ∷ zs) f.1)) e
other_form (segment t) ys zs s e = elim s [ ]
other_form (symbol t) ys zs s e = inr (t, s)

-- a backslash and a name
pub longest_escaped : (xs rest : List ℕ) → EndsRun is_name_char rest →
    (u : Token) (ys zs : List ℕ) → 92 ∷ (xs ++ rest) ≡ ys ++ zs → Spells u ys → length ys ≤ length (92 ∷ xs)
longest_escaped xs rest e u ys zs same s = go (other_form u ys zs s (subst (λ z. begins_name z ≡ false) same (escape_no_name (xs ++ rest))))
  where
    go : OtherForm ys → length ys ≤ length (92 ∷ xs)
    go (inl (us, form, f)) =
        let tail : xs ++ rest ≡ us ++ zs = tail_same (same ∙ ap (λ z. z ++ zs) form) in
        let h : length us ≤ length xs = run_longest is_name_char xs rest us zs e (names_pass us f) tail in
        subst (λ z. length z ≤ length (92 ∷ xs)) (sym form) (omega arith)
    go (inr (t, form)) =
        let h : begins_backslash (symbol_text t ++ zs) ≡ true = subst (λ z. begins_backslash z ≡ true) (same ∙ ap (λ z. z ++ zs) form) refl in
        clash h (symbol_no_backslash t zs)

-- symbols: of two characters, or of one that no second makes longer
abbrev SymbolForm : List ℕ → Type 0
SymbolForm ys = ((c : ℕ) × (ys ≡ c ∷ []) × (is_single c ≡ true)) ⊎ ((c : ℕ) × (d : ℕ) × (ys ≡ c ∷ d ∷ []) × (is_pair c d ≡ true))

symbol_form : (s : Symbol) → SymbolForm (symbol_text s)
symbol_form word.open_brace = inl (123, refl, refl)
symbol_form word.close_brace = inl (125, refl, refl)
symbol_form word.open_paren = inl (40, refl, refl)
symbol_form word.close_paren = inl (41, refl, refl)
symbol_form word.open_bracket = inl (91, refl, refl)
symbol_form word.close_bracket = inl (93, refl, refl)
symbol_form word.equals = inl (61, refl, refl)
symbol_form word.bar_equals = inr (124, 61, refl, refl)
symbol_form word.ampersand_equals = inr (38, 61, refl, refl)
symbol_form word.comma = inl (44, refl, refl)
symbol_form word.ampersand = inl (38, refl, refl)
symbol_form word.bar = inl (124, refl, refl)
symbol_form word.question = inl (63, refl, refl)
symbol_form word.star = inl (42, refl, refl)
symbol_form word.plus = inl (43, refl, refl)
symbol_form word.minus = inl (45, refl, refl)
symbol_form word.tilde = inl (126, refl, refl)
symbol_form word.follows = inr (62, 62, refl, refl)

symbol_short : (ys : List ℕ) → SymbolForm ys → length ys ≤ 2
symbol_short ys (inl (c, form, _)) = subst (λ z. length z ≤ 2) (sym form) (omega arith)
symbol_short ys (inr (c, d, form, _)) = subst (λ z. length z ≤ 2) (sym form) (le_refl 2)

pair_same : (c d : ℕ) (cs zs : List ℕ) (e f : ℕ) → c ∷ d ∷ cs ≡ e ∷ f ∷ zs → is_pair e f ≡ true → is_pair c d ≡ true
pair_same c d cs zs e f same p = subst (λ z. begins_pair z ≡ true) (sym same) p

-- a pair is as long as any spelling that begins with a symbol
pub longest_pair : (c d : ℕ) (rest : List ℕ) → begins_name (c ∷ d ∷ rest) ≡ false → begins_backslash (c ∷ d ∷ rest) ≡ false →
    (u : Token) (ys zs : List ℕ) → c ∷ d ∷ rest ≡ ys ++ zs → Spells u ys → length ys ≤ 2
longest_pair c d rest e f u ys zs same s = go (other_form u ys zs s (subst (λ z. begins_name z ≡ false) same e))
  where
    go : OtherForm ys → length ys ≤ 2
    go (inl (us, form, _)) =
        let h : begins_backslash (92 ∷ us ++ zs) ≡ false = subst (λ z. begins_backslash z ≡ false) (same ∙ ap (λ z. z ++ zs) form) f in
        clash refl h
    go (inr (t, form)) = subst (λ z. length z ≤ 2) (sym form) (symbol_short (symbol_text t) (symbol_form t))

pub longest_single : (c : ℕ) (rest : List ℕ) → begins_name (c ∷ rest) ≡ false → begins_backslash (c ∷ rest) ≡ false → begins_pair (c ∷ rest) ≡ false →
    (u : Token) (ys zs : List ℕ) → c ∷ rest ≡ ys ++ zs → Spells u ys → length ys ≤ 1
longest_single c rest e f p u ys zs same s = go (other_form u ys zs s (subst (λ z. begins_name z ≡ false) same e))
  where
    short : (t : Symbol) → ys ≡ symbol_text t → SymbolForm (symbol_text t) → length ys ≤ 1
    short t form (inl (x, one, _)) = subst (λ z. length z ≤ 1) (sym (form ∙ one)) (le_refl 1)
    short t form (inr (x, y, two, q)) = clash q (subst (λ z. begins_pair z ≡ false) (same ∙ ap (λ z. z ++ zs) (form ∙ two)) p)

    go : OtherForm ys → length ys ≤ 1
    go (inl (us, form, _)) =
        let h : begins_backslash (92 ∷ us ++ zs) ≡ false = subst (λ z. begins_backslash z ≡ false) (same ∙ ap (λ z. z ++ zs) form) f in
        clash refl h
    go (inr (t, form)) = short t form (symbol_form t)

-- no spelling begins with any other character
pub no_word : (cs : List ℕ) → begins_name cs ≡ false → begins_escaped cs ≡ false → begins_single cs ≡ false → begins_pair cs ≡ false → HasNoWord cs
no_word cs e f g h u ys zs same s = go (other_form u ys zs s (subst (λ z. begins_name z ≡ false) same e))
  where
    short : (t : Symbol) → ys ≡ symbol_text t → SymbolForm (symbol_text t) → ⊥
    short t form (inl (x, one, q)) = clash q (subst (λ z. begins_single z ≡ false) (same ∙ ap (λ z. z ++ zs) (form ∙ one)) g)
    short t form (inr (x, y, two, q)) = clash q (subst (λ z. begins_pair z ≡ false) (same ∙ ap (λ z. z ++ zs) (form ∙ two)) h)

    escaped : (us : List ℕ) → ys ≡ 92 ∷ us → are_name_chars us ≡ true → ⊥
    escaped [] form k = absurd (true≢false (sym k))
    escaped (c ∷ cs) form k = clash (both (is_name_start c) (list_all is_name_char cs) k).0 (subst (λ z. begins_escaped z ≡ false) (same ∙ ap (λ z. z ++ zs) form) f)

    go : OtherForm ys → ⊥
    go (inl (us, form, k)) = escaped us form k
    go (inr (t, form)) = short t form (symbol_form t)
