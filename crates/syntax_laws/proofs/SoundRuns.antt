-- What the reader has passed, with whatever the parts left stand for behind it, is what it set out to read.
use Rattle.std.proofs.Common.{◌≡◌, List, [], ◌∷◌, ◌++◌, length, take, Some, refl, sym, ap, ◌∙◌, subst}
use Rattle.std.proofs.Math.Seq.{take-append_seam}
use Rattle.std.proofs.lemmas.List.{append_cancel_right}
use Rattle.token_laws.specs.Tokens.{Placed, ◌at◌}
use Rattle.grammar_laws.specs.Trees.{Body, File}
use Rattle.grammar_laws.specs.Grammar.{ReadsPattern, ReadsItems, Derives, DerivesBody, Begins}
use Rattle.grammar_laws.specs.Grammar as by
use Rattle.syntax_laws.specs.Expecting.{Part, first, declarations, body, end, Runs, stay, passes, becomes, Stands}
use Rattle.syntax_laws.proofs.SoundMeanings.{ReadsBody, AllMean, done, also, IsSound}
use Rattle.syntax_laws.proofs.SoundMeanings as read
use Rattle.syntax_laws.proofs.SoundRows.{sound}
use Rattle.syntax_laws.proofs.Short.{all_short}

split : (xs rest : List Part) {ts vs : List Placed} → AllMean (xs ++ rest) ts vs → (us : List Placed) × AllMean xs ts us × AllMean rest us vs
split [] rest m = (_, done, m)
split (x ∷ xs) rest (also n m) = let f = split xs rest m in (f.0, also n f.1, f.2)

-- the tokens that the run has passed
pub run_completes : {xs ys : List Part} {ts us : List Placed} → Runs xs ts ys us →
    (before : List Placed) × (ts ≡ before ++ us) × ((ws vs : List Placed) → AllMean ys ws vs → AllMean xs (before ++ ws) vs)
run_completes stay = ([], refl, λ ws vs m. m)
run_completes (passes {x = x} {xs = xs} {rest = rest} {t = t} {a = a} e r) =
    let f = run_completes r in (
      t at a ∷ f.0,
      ap (λ z. t at a ∷ z) f.1,
      λ ws vs m. let s = split xs rest (f.2 ws vs m) in also (subst (λ z. IsSound x z (Some t)) e (sound x (Some t)) a (f.0 ++ ws) s.0 s.1) s.2,
    )
run_completes (becomes {x = x} {xs = xs} {rest = rest} {ts = ts} e r) =
    let f = run_completes r in
    (f.0, f.1, λ ws vs m. let s = split xs rest (f.2 ws vs m) in also (subst (λ z. IsSound x z (first ts)) e (sound x (first ts)) (f.0 ++ ws) s.0 s.1) s.2)

-- a body and a file, where no token is left
whole_body : {ts us : List Placed} → ReadsBody ts us → us ≡ [] → (b : Body) × DerivesBody ts b
whole_body {ts = ts} (read.a_pattern {p = p} r) e = (_, by.DerivesBody.pattern (subst (λ z. ReadsPattern ts z p) e r))
whole_body {ts = ts} (read.some_items {is = is} r) e = (_, by.DerivesBody.items (subst (λ z. ReadsItems ts z is) e r))

whole_file : {ts us : List Placed} → AllMean (declarations ∷ body ∷ end ∷ []) ts us → us ≡ [] → (f : File) × Derives ts f
whole_file (also (ds, d) (also b (also read.nothing done))) e = let w = whole_body b e in (_, by.top d w.1)

pub begins : (before us : List Placed) (ys : List Part) → Stands (declarations ∷ body ∷ end ∷ []) (before ++ us) ys us → Begins before
begins before us ys s =
    let c = run_completes (s.runs []) in
    let w = all_short (ys ++ []) in
    let f = whole_file (c.2 w.0 [] w.1) refl in
    subst Begins (sym (append_cancel_right before c.0 us c.1)) (w.0, f.0, f.1)

-- the same by the number of the tokens, as the law of a syntax error's place wants it
pub front_begins : (ts us : List Placed) (ys : List Part) → Stands (declarations ∷ body ∷ end ∷ []) ts ys us → (before : List Placed) × (ts ≡ before ++ us) × Begins (take (length before) ts)
front_begins ts us ys s =
    let c = run_completes (s.runs []) in
    let b = begins c.0 us ys (subst (λ z. Stands (declarations ∷ body ∷ end ∷ []) z ys us) c.1 s) in
    (c.0, c.1, subst Begins (sym (ap (take (length c.0)) c.1 ∙ take-append_seam c.0 us)) b)
