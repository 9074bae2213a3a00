-- From the failure of a part to that of a larger part, and to the place of the syntax error.
use Rattle.std.proofs.Common.{◌≡◌, ℕ, zero, suc, zero-le, ◌≤◌, ◌<◌, ◌+◌, ◌⊎◌, inl, inr, List, [], ◌∷◌, ◌++◌, length, take, refl, sym, ap, ◌∙◌, subst, arith, length-append, append_assoc}
use Rattle.std.proofs.lemmas.List.{take_all}
use Rattle.std.proofs.lemmas.Bool.{cases_lt}
use Rattle.token_laws.specs.Tokens.{Token, Symbol, keyword, symbol, Placed, ◌at◌, open_brace, close_brace}
use Rattle.token_laws.specs.Tokens as word
use Rattle.grammar_laws.specs.Trees.{Class, Pattern, File}
use Rattle.grammar_laws.specs.Grammar.{ReadsClass, ReadsPattern, ReadsBare, Derives, Begins}
use Rattle.grammar_laws.specs.Grammar as by
use Rattle.grammar_laws.specs.Faults.{SyntaxAt, IsStray, IsUnfinished}
use Rattle.grammar_laws.specs.Faults as faults
use Rattle.grammar_laws.specs.Prefixes.{AgreeThrough, FailsAt, CanFinish, place_at}
use Rattle.grammar_laws.proofs.Ends.{Stops, class_rank, rank, Only, rest_same}
use Rattle.grammar_laws.proofs.Classes.{unique_class}
use Rattle.grammar_laws.proofs.Patterns.{End, bare_meaning, ElementMeaning}
use Rattle.grammar_laws.proofs.Trees.{unique_pattern}
use Rattle.grammar_laws.proofs.Shortest.{short_pattern}
use Rattle.grammar_laws.proofs.Fronts.{Part, part_class, part_pattern}

-- lists that agree begin alike
first_same : (x y : Placed) (ts us : List Placed) → x ∷ ts ≡ y ∷ us → x ≡ y
first_same x y ts us e = cc

pub agree_cons : (k : ℕ) (x : Placed) (ts us : List Placed) → AgreeThrough (suc k) (x ∷ ts) us → (vs : List Placed) × (us ≡ x ∷ vs) × AgreeThrough k ts vs
agree_cons k x ts [] e = let f : [] ≡ x ∷ take (suc k) ts = e in cc f
agree_cons k x ts (y ∷ us) e = (us, ap (λ z. z ∷ us) (first_same y x (take (suc k) us) (take (suc k) ts) e), rest_same e)

-- behind tokens xs that both begin with
agree_behind : (j : ℕ) (xs us ts : List Placed) → AgreeThrough (length xs + j) (xs ++ us) ts → (vs : List Placed) × (ts ≡ xs ++ vs) × AgreeThrough j us vs
agree_behind j [] us ts e = (ts, refl, subst (λ k. AgreeThrough k us ts) zero_j e)
  where
    zero_j : 0 + j ≡ j
    zero_j = omega arith
agree_behind j (x ∷ xs) us ts e =
    let m : length (x ∷ xs) + j ≡ suc (length xs + j) = omega arith in
    let c = agree_cons (length xs + j) x (xs ++ us) ts (subst (λ k. AgreeThrough k (x ∷ (xs ++ us)) ts) m e) in
    let r = agree_behind j xs us c.0 c.2 in
    (r.0, c.1 ∙ ap (λ z. x ∷ z) r.1, r.2)

-- what stops before one list stops before a list that agrees through its first token
pub stops_alike : (g : Token → ℕ) (n j : ℕ) (us vs : List Placed) → AgreeThrough j us vs → Stops g n us → Stops g n vs
stops_alike g n j [] [] e s = tt
stops_alike g n j [] (y ∷ vs) e s = let f : y ∷ take j vs ≡ [] = e in cc f
stops_alike g n j (x ∷ us) [] e s = cc
stops_alike g n j (t at a ∷ us) (u at b ∷ vs) e s =
    let same : t at a ≡ u at b = first_same (t at a) (u at b) (take j us) (take j vs) (sym e) in
    let token : t ≡ u = token_of same in
    subst (λ z. g z ≤ n) token s
  where
    token_of : {t u : Token} {a b : ℕ} → t at a ≡ u at b → t ≡ u
    token_of e = cc

-- A part that is read before the failing token is read in every list that agrees.
abbrev pub Carried : {A : Type 0} → (List Placed → List Placed → A → Type 0) → List Placed → List Placed → A → ℕ → List Placed → Type 0
Carried Reads ts us x j ts' = (vs : List Placed) × Reads ts' vs x × AgreeThrough j us vs

pub carry : {A : Type 0} (R : (List Placed → List Placed → A → Type 0)) {ts us : List Placed} {x : A} (p : Part R ts us x) (j : ℕ) (ts' : List Placed) →
    AgreeThrough (length (p.1.0) + j) ts ts' → Carried R ts us x j ts'
carry R {ts = ts} {us = us} {x = x} (f, (xs, front), same, reads) j ts' e =
    let spelled : ts ≡ xs ++ us = same ∙ sym (front us) in
    let r = agree_behind j xs us ts' (subst (λ z. AgreeThrough (length xs + j) z ts') spelled e) in
    (r.0, subst (λ z. R z r.0 x) (sym (r.1 ∙ front r.0)) (reads r.0), r.2)

-- An element, as the pattern for the other parts: its name class fails, its brace is missing, its content fails, or its
-- closing brace is missing.

pub element_class_fails : {a : ℕ} (k : ℕ) (ts : List Placed) → FailsAt ReadsClass (Stops class_rank 0) k ts → FailsAt ReadsBare (End 3) (suc k) (keyword word.element at a ∷ ts)
element_class_fails {a = a} k ts fails ts' us p e r end =
    let c = agree_cons k (keyword word.element at a) ts ts' e in
    go c.0 c.2 (bare_meaning (subst (λ z. ReadsBare z us p) c.1 r))
  where
    go : (vs : List Placed) → AgreeThrough k ts vs → ElementMeaning Pattern.element a vs us p → ⊥
    go vs f (b, d, ws, n, q, cl, content, made) = fails vs (symbol open_brace at b ∷ ws) n f cl zero-le

-- Where parts are read in one way, each reading of a list that agrees ends where this one does: what a production says of
-- its next part is then said of the list behind.
pub same_end : {A : Type 0} (R : (List Placed → List Placed → A → Type 0)) (End : (List Placed → Type 0)) {ts us : List Placed} {x : A} (p : Part R ts us x) (j : ℕ) →
    ((vs : List Placed) → AgreeThrough j us vs → End vs) → ((ts' vs : List Placed) → R ts' vs x → End vs → Only R End ts' vs x) →
    (ts' vs : List Placed) (y : A) → AgreeThrough (length (p.1.0) + j) ts ts' → R ts' vs y → End vs → AgreeThrough j us vs
same_end R End {us = us} p j alike unique ts' vs y e r s =
    let c = carry R p j ts' e in
    subst (AgreeThrough j us) (unique ts' c.0 c.1 (alike c.0 c.2) vs y r s).0 c.2

-- how many tokens a part has
pub part_length : {A : Type 0} (R : (List Placed → List Placed → A → Type 0)) {ts us : List Placed} {x : A} (p : Part R ts us x) → length ts ≡ length (p.1.0) + length us
part_length R {ts = ts} {us = us} (f, (xs, front), same, reads) = ap length (same ∙ sym (front us)) ∙ length-append xs us

abbrev pub class_length : {ts us : List Placed} {n : Class} → ReadsClass ts us n → ℕ
class_length class = length ((part_class class).1.0)

-- in each list that agrees, the class ends at the same place
class_behind : {ts us : List Placed} {n : Class} (class : ReadsClass ts us n) → Stops class_rank 0 us → (j : ℕ) (ts' vs : List Placed) (m : Class) →
    AgreeThrough (class_length class + j) ts ts' → ReadsClass ts' vs m → Stops class_rank 0 vs → AgreeThrough j us vs
class_behind {us = us} class end_class j =
    same_end ReadsClass (Stops class_rank 0) (part_class class) j (λ vs e. stops_alike class_rank 0 j us vs e end_class) (λ ts vs r s. unique_class r s)

pub element_fails : (a : ℕ) {ts us : List Placed} {n : Class} (class : ReadsClass ts us n) → Stops class_rank 0 us → (j : ℕ) →
    ((vs ws : List Placed) (b d : ℕ) (q : Pattern) → AgreeThrough j us (symbol open_brace at b ∷ ws) → ReadsPattern ws (symbol close_brace at d ∷ vs) q → ⊥) →
    FailsAt ReadsBare (End 3) (suc (class_length class + j)) (keyword word.element at a ∷ ts)
element_fails a {ts = ts} class end_class j fails ts' vs p e r s =
    let c = agree_cons (class_length class + j) (keyword word.element at a) ts ts' e in
    go c.0 c.2 (bare_meaning (subst (λ z. ReadsBare z vs p) c.1 r))
  where
    go : (xs : List Placed) → AgreeThrough (class_length class + j) ts xs → ElementMeaning Pattern.element a xs vs p → ⊥
    go xs f (b, d, ws, m, q, cl, content, made) = fails vs ws b d q (class_behind class end_class j xs (symbol open_brace at b ∷ ws) m f cl zero-le) content

-- no brace stands behind the class
pub brace_missing : (a : ℕ) {ts us : List Placed} {n : Class} (class : ReadsClass ts us n) → Stops class_rank 0 us → ((b : ℕ) (ws : List Placed) → AgreeThrough 0 us (symbol open_brace at b ∷ ws) → ⊥) →
    FailsAt ReadsBare (End 3) (suc (class_length class + 0)) (keyword word.element at a ∷ ts)
brace_missing a class s none = element_fails a class s 0 (λ vs ws b d q e r. none b ws e)

-- the content fails behind the brace
pub content_fails : (a b : ℕ) {ts us : List Placed} {n : Class} (class : ReadsClass ts (symbol open_brace at b ∷ us) n) (j : ℕ) → FailsAt ReadsPattern (End 0) j us →
    FailsAt ReadsBare (End 3) (suc (class_length class + suc j)) (keyword word.element at a ∷ ts)
content_fails a b {us = us} class j fails = element_fails a class zero-le (suc j) go
  where
    go : (vs ws : List Placed) (b' d : ℕ) (q : Pattern) → AgreeThrough (suc j) (symbol open_brace at b ∷ us) (symbol open_brace at b' ∷ ws) → ReadsPattern ws (symbol close_brace at d ∷ vs) q → ⊥
    go vs ws b' d q e r = fails ws (symbol close_brace at d ∷ vs) q (rest_same e) r zero-le

-- no closing brace stands behind the content
pub closing_missing : (a b : ℕ) {ts us vs : List Placed} {n : Class} {p : Pattern} (class : ReadsClass ts (symbol open_brace at b ∷ us) n) (content : ReadsPattern us vs p) → End 0 vs →
    ((d : ℕ) (ws : List Placed) → AgreeThrough 0 vs (symbol close_brace at d ∷ ws) → ⊥) →
    FailsAt ReadsBare (End 3) (suc (class_length class + suc (length ((part_pattern content).1.0) + 0))) (keyword word.element at a ∷ ts)
closing_missing a b {us = us} {vs = vs} {p = p} class content end_content none = element_fails a class zero-le (suc (length ((part_pattern content).1.0) + 0)) go
  where
    go : (xs ws : List Placed) (b' d : ℕ) (q : Pattern) → AgreeThrough (suc (length ((part_pattern content).1.0) + 0)) (symbol open_brace at b ∷ us) (symbol open_brace at b' ∷ ws) →
        ReadsPattern ws (symbol close_brace at d ∷ xs) q → ⊥
    go xs ws b' d q e r =
        let c = carry ReadsPattern (part_pattern content) 0 ws (rest_same e) in
        let same = (unique_pattern c.1 (stops_alike rank 0 0 vs c.0 c.2 end_content) (symbol close_brace at d ∷ xs) q r zero-le).0 in
        none d xs (subst (AgreeThrough 0 vs) same c.2)

-- what begins a name class or a content can become an element
pub class_to_element : (a k : ℕ) (ts : List Placed) → CanFinish ReadsClass k ts → CanFinish ReadsBare (suc k) (keyword word.element at a ∷ ts)
class_to_element a k ts (zs, n, reads) = (
  zs ++ tail,
  Pattern.element n Pattern.empty a,
  λ us.
      subst (λ z. ReadsBare (keyword word.element at a ∷ (take k ts ++ z)) us (Pattern.element n Pattern.empty a)) (sym (append_assoc zs tail us))
      (by.element (reads (tail ++ us)) (short_pattern (symbol close_brace at 0 ∷ us))),
)
  where
    tail : List Placed
    tail = symbol open_brace at 0 ∷ keyword word.empty at 0 ∷ symbol close_brace at 0 ∷ []

pub take-append-add : (xs : List Placed) (k : ℕ) (us : List Placed) → take (length xs + k) (xs ++ us) ≡ xs ++ take k us
take-append-add [] k us = ap (λ n. take n us) zero_k
  where
    zero_k : 0 + k ≡ k
    zero_k = omega arith
take-append-add (x ∷ xs) k us =
    let more : length (x ∷ xs) + k ≡ suc (length xs + k) = omega arith in
    ap (λ n. take n (x ∷ (xs ++ us))) more ∙ ap (λ z. x ∷ z) (take-append-add xs k us)

pub content_to_element : (a b k : ℕ) (xs us : List Placed) (n : Class) → ((vs : List Placed) → ReadsClass (xs ++ symbol open_brace at b ∷ vs) (symbol open_brace at b ∷ vs) n) →
    CanFinish ReadsPattern k us → CanFinish ReadsBare (suc (length xs + suc k)) (keyword word.element at a ∷ (xs ++ symbol open_brace at b ∷ us))
content_to_element a b k xs us n class (zs, p, reads) = (
  zs ++ tail,
  Pattern.element n p a,
  λ vs.
      subst (λ z. ReadsBare (keyword word.element at a ∷ z) vs (Pattern.element n p a)) (sym (front vs))
      (by.element (class (take k us ++ (zs ++ (tail ++ vs)))) (reads (tail ++ vs))),
)
  where
    tail : List Placed
    tail = symbol close_brace at 0 ∷ []

    taken : take (length xs + suc k) (xs ++ symbol open_brace at b ∷ us) ≡ xs ++ take (suc k) (symbol open_brace at b ∷ us)
    taken = take-append-add xs (suc k) (symbol open_brace at b ∷ us)

    front : (vs : List Placed) → take (length xs + suc k) (xs ++ symbol open_brace at b ∷ us) ++ ((zs ++ tail) ++ vs) ≡ xs ++ symbol open_brace at b ∷ (take k us ++ (zs ++ (tail ++ vs)))
    front vs =
        ap (λ z. z ++ ((zs ++ tail) ++ vs)) taken
        ∙ (append_assoc xs (symbol open_brace at b ∷ take k us) ((zs ++ tail) ++ vs)
        ∙ ap (λ z. xs ++ symbol open_brace at b ∷ (take k us ++ z)) (append_assoc zs tail vs))

-- The whole text: where no list that agrees has a tree, and the tokens before can become a schema, there is the error.

abbrev SplitAt : ℕ → List Placed → ℕ → Type 0
SplitAt k ts end =
    (t : Token) × (a : ℕ) × (after : List Placed) × (ts ≡ take k ts ++ t at a ∷ after) × (place_at ts end k ≡ a) ×
    ((vs : List Placed) → AgreeThrough k ts ((take k ts ++ t at a ∷ []) ++ vs))

split_at : (k : ℕ) (ts : List Placed) (end : ℕ) → k < length ts → SplitAt k ts end
split_at k [] end less = absurd (omega arith)
split_at zero (t at a ∷ ts) end less = (t, a, ts, refl, refl, λ vs. refl)
split_at (suc k) (u at b ∷ ts) end less =
    let fewer : k < length ts = omega arith in
    let r = split_at k ts end fewer in
    (r.0, r.1, r.2, ap (λ z. u at b ∷ z) r.3, r.4, λ vs. ap (λ z. u at b ∷ z) (r.5 vs))

place_end : (k : ℕ) (ts : List Placed) (end : ℕ) → length ts ≤ k → place_at ts end k ≡ end
place_end k [] end h = refl
place_end zero (t at a ∷ ts) end h = absurd (omega arith)
place_end (suc k) (t at a ∷ ts) end h = place_end k ts end (omega arith)

pub syntax_at : (k : ℕ) (ts : List Placed) (end : ℕ) → Begins (take k ts) → ((us : List Placed) (f : File) → AgreeThrough k ts us → Derives us f → ⊥) → SyntaxAt ts end (place_at ts end k)
syntax_at k ts end begins fails = go (cases_lt k (length ts))
  where
    go : (k < length ts) ⊎ (length ts ≤ k) → SyntaxAt ts end (place_at ts end k)
    go (inl less) =
        let r = split_at k ts end less in
        let stray : Begins (take k ts ++ r.0 at r.1 ∷ []) → ⊥ = λ (vs, f, d). fails ((take k ts ++ r.0 at r.1 ∷ []) ++ vs) f (r.5 vs) d in
        subst (SyntaxAt ts end) (sym r.4) (faults.token (record { spelled = r.3; begins = begins; stray = stray }))
    go (inr past) =
        let whole : Begins ts = subst Begins (take_all k ts past) begins in
        let u : IsUnfinished ts = record { begins = whole; underived = λ f. fails ts f refl } in
        subst (SyntaxAt ts end) (sym (place_end k ts end past)) (faults.unfinished u)
