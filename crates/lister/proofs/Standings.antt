-- What is open along a path that becomes longer, or shorter.
use Rattle.std.proofs.Common.{◌≡◌, ℕ, ◌+◌, ◌≤◌, List, [], ◌∷◌, ◌++◌, length, map, take, length-append, refl, sym, ◌∙◌, ap, arith, Some, slice_get}
use Rattle.std.proofs.lemmas.List.{map-append, take-append-le, take_all, take-take, length-take-le, length-map}
use Rattle.rng_model.specs.Codes.{Code, Opening, Attr, Body, Chars, Closing}
use Rattle.skeleton.specs.declared.code.Code as coded
use Rattle.skeleton.specs.Views.{code_of}
use Rattle.lister.specs.declared.path.Step.{Step}
use Rattle.lister.specs.declared.standing.Standing.{Standing}
use Rattle.lister.specs.OpenElements.{Open, nothing_open, open_after, open_of, opened, open_at}
use Rattle.lister.specs.Standings.{AreStandings}
use Rattle.lister.proofs.Items.{IsOneMore, old, new, one_more, get_within, get_left, get_seam}

opened-append : (o : Open) (xs ys : List Code) → opened o (xs ++ ys) ≡ opened (opened o xs) ys
opened-append o [] ys = refl
opened-append o (x ∷ xs) ys = opened-append (open_after o x) xs ys

one_deeper : (o : Open) (c : Code) → (open_after o c).depth ≤ o.depth + 1
one_deeper o (Opening i) = omega arith
one_deeper o (Attr j s) = omega arith
one_deeper o Body = omega arith
one_deeper o (Chars s) = omega arith
one_deeper o Closing = omega arith

few_open : (o : Open) (cs : List Code) → (opened o cs).depth ≤ o.depth + length cs
few_open o [] = omega arith
few_open o (c ∷ cs) = let a = one_deeper o c in let b = few_open (open_after o c) cs in omega arith

-- no more elements are open than there are codes
pub depth_within : (codes : List coded.Code) (steps : List Step) (s : Standing) → AreStandings codes steps s → (open_of s).depth ≤ length codes
depth_within codes steps s a = let e = ap (λ o. o.depth) a.after in let f = few_open nothing_open (map code_of codes) in omega (arith, length-map codes code_of)

at_more : (codes : List coded.Code) (c : coded.Code) → open_after (open_at (map code_of codes)) (code_of c) ≡ open_at (map code_of (codes ++ (c ∷ [])))
at_more codes c = sym (ap open_at (map-append code_of codes (c ∷ [])) ∙ opened-append nothing_open (map code_of codes) (code_of c ∷ []))

module _ (codes : List coded.Code) (steps : List Step) (s next : Standing) (c : coded.Code) (a : AreStandings codes steps s) (e : open_of next ≡ open_after (open_of s) (code_of c)) where
  after_more : open_of next ≡ open_at (map code_of (codes ++ (c ∷ [])))
  after_more = e ∙ ap (λ o. open_after o (code_of c)) a.after ∙ at_more codes c

  same_front : (k : ℕ) → k ≤ length codes → open_at (map code_of (take k codes)) ≡ open_at (map code_of (take k (codes ++ (c ∷ []))))
  same_front k l = ap (λ x. open_at (map code_of x)) (sym (take-append-le k codes (c ∷ []) l))

  before_all : (k : ℕ) (x : Step) → slice_get steps k ≡ Some x → open_of x.standing ≡ open_at (map code_of (take k (codes ++ (c ∷ []))))
  before_all k x q = a.each k x q ∙ same_front k (let w = get_within steps k x q in let v = a.within in omega arith)

  -- one code more
  pub code_more : AreStandings (codes ++ (c ∷ [])) steps next
  code_more = record { within = (let v = a.within in omega (arith, length-append codes (c ∷ []))); after = after_more; each = before_all }

  -- one code more, and the step before it
  pub step_more : (step : Step) → step.standing ≡ s → length steps ≡ length codes → AreStandings (codes ++ (c ∷ [])) (steps ++ (step ∷ [])) next
  step_more step is level = record {
    within = omega (arith, length-append codes (c ∷ []), length-append steps (step ∷ []));
    after = after_more;
    each = λ k x q. go k x (one_more steps step k x q);
  }
    where
      go : (k : ℕ) (x : Step) → IsOneMore steps step k x → open_of x.standing ≡ open_at (map code_of (take k (codes ++ (c ∷ []))))
      go k x (old q) = before_all k x q
      go k x (new q r) =
          let n : k ≡ length codes = q ∙ level in
          ap (λ y. open_of y.standing) r ∙ ap open_of is ∙ a.after ∙ ap (λ y. open_at (map code_of y)) (sym (take_all k codes (omega arith))) ∙ same_front k (omega arith)

-- without the last step, and the codes from the one behind it on
pub step_less : (codes : List coded.Code) (steps less : List Step) (step : Step) (s : Standing) → steps ≡ less ++ (step ∷ []) → AreStandings codes steps s →
    AreStandings (take (length less) codes) less step.standing
step_less codes steps less step s e a = record {
  within = omega (arith, length-take-le (length less) codes few);
  after = a.each (length less) step (ap (λ x. slice_get x (length less)) e ∙ get_seam less step []);
  each = λ k x q. a.each k x (ap (λ y. slice_get y k) e ∙ get_left less (step ∷ []) k x q) ∙ ap (λ y. open_at (map code_of y)) (sym (front k (let w = get_within less k x q in omega arith)));
}
  where
    few : length less ≤ length codes
    few = let v = a.within in let l = length-append less (step ∷ []) in omega (arith, ap length e)

    front : (k : ℕ) → k ≤ length less → take k (take (length less) codes) ≡ take k codes
    front k l = take-take k (length less) codes l

pub none_open : (s : Standing) → open_of s ≡ nothing_open → AreStandings [] [] s
none_open s e = record { within = omega arith; after = e; each = λ k x q. absurd (cc) }
