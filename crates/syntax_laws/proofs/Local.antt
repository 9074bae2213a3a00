-- The one-token reader runs in one way, and looks at no token behind the next.
use Rattle.std.proofs.Common.{◌≡◌, ℕ, suc, ◌+◌, List, [], ◌∷◌, ◌++◌, length, take, Some, refl, sym, ap, ◌∙◌, subst, arith, length-append, append-nil, append_assoc}
use Rattle.token_laws.specs.Tokens.{Token, Placed, ◌at◌}
use Rattle.grammar_laws.specs.Prefixes.{AgreeThrough}
use Rattle.grammar_laws.proofs.Ends.{rest_same}
use Rattle.grammar_laws.proofs.Prefixes.{agree_cons}
use Rattle.syntax_laws.specs.Expecting.{Part, Move, pass, become, refuse, first, next, Runs, stay, passes, becomes, Stands, IsRefused}

pub run_on : {xs ys zs : List Part} {ts us vs : List Placed} → Runs xs ts ys us → Runs ys us zs vs → Runs xs ts zs vs
run_on stay s = s
run_on (passes e r) s = passes e (run_on r s)
run_on (becomes e r) s = becomes e (run_on r s)

-- what a run to the end of the parts is behind its first move
abbrev pub GoesBy : Move → List Part → List Placed → List Placed → Type 0
GoesBy (pass zs) rest [] us = ⊥
GoesBy (pass zs) rest (t at a ∷ ts) us = Runs (zs ++ rest) ts [] us
GoesBy (become zs) rest ts us = Runs (zs ++ rest) ts [] us
GoesBy refuse rest ts us = ⊥

abbrev pub Ended : List Part → List Placed → List Placed → Type 0
Ended [] ts us = us ≡ ts
Ended (x ∷ xs) ts us = GoesBy (next x (first ts)) xs ts us

pub ended : {xs : List Part} {ts us : List Placed} → Runs xs ts [] us → Ended xs ts us
ended stay = refl
ended {us = us} (passes {rest = rest} {t = t} {a = a} {ts = ts} e r) = subst (λ m. GoesBy m rest (t at a ∷ ts) us) (sym e) r
ended {us = us} (becomes {rest = rest} {ts = ts} e r) = subst (λ m. GoesBy m rest ts us) (sym e) r

-- a run to the end comes through all that the reader reaches
pub run_through : {xs ys : List Part} {ts us vs : List Placed} → Runs xs ts ys us → Runs xs ts [] vs → Runs ys us [] vs
run_through stay s = s
run_through {vs = vs} (passes {rest = rest} {t = t} {a = a} {ts = ts} e r) s = run_through r (subst (λ m. GoesBy m rest (t at a ∷ ts) vs) e (ended s))
run_through {vs = vs} (becomes {rest = rest} {ts = ts} e r) s = run_through r (subst (λ m. GoesBy m rest ts vs) e (ended s))

-- the tokens that were passed stand before those that are left
pub runs_suffix : {xs ys : List Part} {ts us : List Placed} → Runs xs ts ys us → (before : List Placed) × (ts ≡ before ++ us)
runs_suffix stay = ([], refl)
runs_suffix (passes {t = t} {a = a} e r) = let f = runs_suffix r in (t at a ∷ f.0, ap (λ z. t at a ∷ z) f.1)
runs_suffix (becomes e r) = runs_suffix r

pub stands_suffix : {xs ys : List Part} {ts us : List Placed} → Stands xs ts ys us → (before : List Placed) × (ts ≡ before ++ us)
stands_suffix s = runs_suffix (s.runs [])

-- tokens that were passed are fewer
shorter : (t : Token) (a : ℕ) {xs ys : List Part} {ts us : List Placed} → Runs xs ts ys us → t at a ∷ ts ≡ us → ⊥
shorter t a {ts = ts} {us = us} r e =
    let f = runs_suffix r in
    let long : length ts ≡ length f.0 + length us = ap length f.1 ∙ length-append f.0 us in
    let same : suc (length ts) ≡ length us = ap length e in
    absurd (omega arith)

first_take : (k : ℕ) (ts : List Placed) → first (take (suc k) ts) ≡ first ts
first_take k [] = refl
first_take k (t at a ∷ ts) = refl

first_alike : (k : ℕ) (ts vs : List Placed) → AgreeThrough k ts vs → first vs ≡ first ts
first_alike k ts vs e = sym (first_take k vs) ∙ (ap first e ∙ first_take k ts)

refused_now : (xs : List Part) (ts vs ws : List Placed) → IsRefused xs ts → first vs ≡ first ts → Runs xs vs [] ws → ⊥
refused_now [] ts vs ws h e s = h
refused_now (x ∷ xs) ts vs ws h e s = subst (λ m. GoesBy m xs vs ws) (ap (next x) e ∙ h) (ended s)

-- where the reader is refused, it comes to no end before tokens that are the same through that token
pub no_end : {xs ys : List Part} {ts us : List Placed} → Runs xs ts ys us → IsRefused ys us → (before vs ws : List Placed) → ts ≡ before ++ us → AgreeThrough (length before) ts vs → Runs xs vs [] ws → ⊥
no_end {xs = xs} {ts = ts} stay h before vs ws e agree s = refused_now xs ts vs ws h (first_alike (length before) ts vs agree) s
no_end (passes {t = t} {a = a} e r) h [] vs ws same agree s = shorter t a r same
no_end (passes {x = x} {rest = rest} {t = t} {a = a} {ts = ts} e r) h (p ∷ before) vs ws same agree s =
    let c = agree_cons (length before) (t at a) ts vs agree in
    let there = subst (λ z. Runs (x ∷ rest) z [] ws) c.1 s in
    no_end r h before c.0 ws (rest_same same) c.2 (subst (λ m. GoesBy m rest (t at a ∷ c.0) ws) e (ended there))
no_end (becomes {x = x} {xs = xs} {rest = rest} {ts = ts} e r) h before vs ws same agree s =
    no_end r h before vs ws same agree (subst (λ m. GoesBy m rest vs ws) (ap (next x) (first_alike (length before) ts vs agree) ∙ e) (ended s))

-- the same where more parts stand behind
pub refused_rest : (ys : List Part) (us : List Placed) → IsRefused ys us → IsRefused (ys ++ []) us
refused_rest [] us h = h
refused_rest (y ∷ ys) us h = h

-- A run to the end reads the first parts, whatever stands behind them, and then the others.
pub data Parted (ys xs : List Part) (ts us : List Placed) : Type 0 where
  parted : {vs : List Placed} → Stands ys ts [] vs → Runs xs vs [] us → Parted ys xs ts us

-- the reader reads the parts where their first is others, or passes a token, or is read
pub turns : {x : Part} {ys xs : List Part} {ts us : List Placed} → next x (first ts) ≡ become ys → Stands (ys ++ xs) ts [] us → Stands (x ∷ xs) ts [] us
turns {ys = ys} {xs = xs} {ts = ts} {us = us} e s = record { runs = λ rest. becomes e (subst (λ z. Runs z ts rest us) (append_assoc ys xs rest) (s.runs rest)) }

pub takes : {x : Part} {ys xs : List Part} {t : Token} {a : ℕ} {ts us : List Placed} → next x (Some t) ≡ pass ys → Stands (ys ++ xs) ts [] us → Stands (x ∷ xs) (t at a ∷ ts) [] us
takes {ys = ys} {xs = xs} {ts = ts} {us = us} e s = record { runs = λ rest. passes e (subst (λ z. Runs z ts rest us) (append_assoc ys xs rest) (s.runs rest)) }

pub no_parts : {ts : List Placed} → Stands [] ts [] ts
no_parts = record { runs = λ rest. stay }

head_same : {x y : Part} {xs ys : List Part} → x ∷ xs ≡ y ∷ ys → x ≡ y
head_same e = cc

tail_same : {x y : Part} {xs ys : List Part} → x ∷ xs ≡ y ∷ ys → xs ≡ ys
tail_same e = cc

taken : {x y : Part} {ys zs xs : List Part} {t : Token} {a : ℕ} {ts us : List Placed} → x ≡ y → next x (Some t) ≡ pass zs → Parted (zs ++ ys) xs ts us → Parted (y ∷ ys) xs (t at a ∷ ts) us
taken {zs = zs} {t = t} e n (parted s r) = parted (takes (subst (λ x. next x (Some t) ≡ pass zs) e n) s) r

turned : {x y : Part} {ys zs xs : List Part} {ts us : List Placed} → x ≡ y → next x (first ts) ≡ become zs → Parted (zs ++ ys) xs ts us → Parted (y ∷ ys) xs ts us
turned {zs = zs} {ts = ts} e n (parted s r) = parted (turns (subst (λ x. next x (first ts) ≡ become zs) e n) s) r

again : (zs ys xs : List Part) {x y : Part} {rest : List Part} → x ∷ rest ≡ y ∷ (ys ++ xs) → zs ++ rest ≡ (zs ++ ys) ++ xs
again zs ys xs e = ap (λ z. zs ++ z) (tail_same e) ∙ sym (append_assoc zs ys xs)

pub in_two : (ys xs : List Part) {zs : List Part} {ts us : List Placed} → Runs zs ts [] us → zs ≡ ys ++ xs → Parted ys xs ts us
in_two [] xs {ts = ts} {us = us} r e = parted no_parts (subst (λ z. Runs z ts [] us) e r)
in_two (y ∷ ys) xs stay e = cc
in_two (y ∷ ys) xs (passes {xs = zs} n r) e = taken (head_same e) n (in_two (zs ++ ys) xs r (again zs ys xs e))
in_two (y ∷ ys) xs (becomes {xs = zs} n r) e = turned (head_same e) n (in_two (zs ++ ys) xs r (again zs ys xs e))

pub joins : {x : Part} {xs : List Part} {ts us vs : List Placed} → Stands (x ∷ []) ts [] us → Stands xs us [] vs → Stands (x ∷ xs) ts [] vs
joins {xs = xs} s r = record { runs = λ rest. run_on (s.runs (xs ++ rest)) (r.runs rest) }

pub joins_all : {xs ys : List Part} {ts us vs : List Placed} → Stands xs ts [] us → Stands ys us [] vs → Stands (xs ++ ys) ts [] vs
joins_all {xs = xs} {ys = ys} {ts = ts} {vs = vs} s r = record { runs = λ rest. subst (λ z. Runs z ts rest vs) (sym (append_assoc xs ys rest)) (run_on (s.runs (ys ++ rest)) (r.runs rest)) }

-- what runs to the end does so whatever stands behind
pub stands_to_end : {xs : List Part} {ts us : List Placed} → Runs xs ts [] us → Stands xs ts [] us
stands_to_end {xs = xs} {ts = ts} {us = us} r = go (in_two xs [] r (sym (append-nil xs)))
  where
    go : Parted xs [] ts us → Stands xs ts [] us
    go (parted {vs = vs} s q) = subst (λ z. Stands xs ts [] z) (sym (ended q)) s
