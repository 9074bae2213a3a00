-- The lines of a document's last Closing codes.
use Rattle.std.specs.Prelude.{codes}
use Rattle.std.proofs.Common.{◌≡◌, ℕ, ◌+◌, ◌-◌, ◌*◌, ◌<◌, ◌≤◌, List, [], ◌∷◌, ◌++◌, zero, suc, length, take, drop, get_or, map, flat_map, append_assoc, arith, refl, ap, sym, subst, ◌∙◌}
use Rattle.std.proofs.Math.Seq.{drop-append_seam}
use Rattle.std.proofs.lemmas.List.{take_all, take-take, take-map, drop_more, length-drop, length-map, length-take, replicate-append-replicate}
use Rattle.std.proofs.lemmas.Grind.{flat_map-append}
use Rattle.rng_model.specs.Codes as model
use Rattle.skeleton.specs.declared.code.Code.{Code}
use Rattle.skeleton.specs.declared.code.Code.TheVariants.{Opening, Attr, Body, Chars, Closing}
use Rattle.skeleton.specs.Views.{code_of}
use Rattle.event_lines.specs.declared.spellings.Spellings.{Spellings}
use Rattle.event_lines.specs.Held.{Held, HoldsLines, BeginsWith, BeginAlike, closings}
use Rattle.event_lines.specs.Spelled.{spelled_line, spelled_lines}
use Rattle.event_lines.proofs.Keeping.{take_front, whole_lines}

-- one Closing code more at the end
pub one_more : (cs : List Code) (n : ℕ) (d : Code) → n < length cs → drop (length cs - n) cs ≡ closings n → get_or cs (length cs - 1 - n) d ≡ Closing →
    drop (length cs - (n + 1)) cs ≡ closings (n + 1)
one_more cs n d within so_far is =
    let at : length cs - (n + 1) ≡ length cs - 1 - n = omega arith in
    let next : length cs - 1 - n + 1 ≡ length cs - n = omega (arith, within) in
    let below : length cs - 1 - n < length cs = omega (arith, within) in
    ap (λ i. drop i cs) at
    ∙ drop_more cs (length cs - 1 - n) d below
    ∙ ap (λ c. c ∷ drop (length cs - 1 - n + 1) cs) is
    ∙ ap (λ i. Closing ∷ drop i cs) next
    ∙ ap (λ q. Closing ∷ q) so_far
    ∙ replicate-append-replicate 1 n Closing
    ∙ ap closings (omega arith)

many_bytes : (s : Spellings) (n : ℕ) → length (flat_map (spelled_line s) (closings n)) ≡ 2 * n
many_bytes s zero = refl
many_bytes s (suc n) = let rest = many_bytes s n in omega (arith, rest)

-- the lines behind the first ones
behind : (s : Spellings) (k n : ℕ) → drop (2 * k) (spelled_lines s (closings (k + n))) ≡ spelled_lines s (closings n)
behind s k n =
    let line = spelled_line s in
    let first = flat_map line (closings k) in
    let all : spelled_lines s (closings (k + n)) ≡ first ++ spelled_lines s (closings n) =
    ap (λ q. flat_map line q ++ codes "\n") (sym (replicate-append-replicate k n Closing))
    ∙ ap (λ q. q ++ codes "\n") (flat_map-append line (closings k) (closings n))
    ∙ append_assoc first (flat_map line (closings n)) (codes "\n") in
    ap (λ i. drop i (spelled_lines s (closings (k + n)))) (sym (many_bytes s k)) ∙ ap (drop (length first)) all ∙ drop-append_seam first (spelled_lines s (closings n))

-- what is behind the other lines of the most that there are
pub last_lines : (s : Spellings) (xs : List ℕ) (m n : ℕ) → n ≤ m → xs ≡ spelled_lines s (closings m) →
    take (length xs - 2 * (m - n)) (drop (2 * (m - n)) xs) ≡ spelled_lines s (closings n)
last_lines s xs m n most are =
    let sum : m ≡ m - n + n = omega (arith, most) in
    take_all (length xs - 2 * (m - n)) (drop (2 * (m - n)) xs) (omega (arith, length-drop (2 * (m - n)) xs))
    ∙ ap (drop (2 * (m - n))) (are ∙ ap (λ k. spelled_lines s (closings k)) sum)
    ∙ behind s (m - n) n

-- the held lines and those of the Closing codes behind them are those of all
pub closed_lines : (s : Spellings) (h : Held) (ds cs : List Code) (n : ℕ) (end : List ℕ) → HoldsLines s h → h.codes ≡ take (length h.codes) cs →
    ds ≡ h.codes → length ds + n ≡ length cs → drop (length cs - n) cs ≡ closings n → end ≡ spelled_lines s (closings n) → h.text ++ end ≡ spelled_lines s cs
closed_lines s h ds cs n end holds first same whole last is =
    let at : length cs - n ≡ length h.codes = omega (arith, whole, ap length same) in
    ap (λ q. h.text ++ q) (is ∙ ap (spelled_lines s) (sym last ∙ ap (λ i. drop i cs) at)) ∙ whole_lines s h cs holds first

-- the code that stands for the model's
abbrev back : model.Code → Code
back (model.Opening i) = Opening i
back (model.Attr j s) = Attr j s
back model.Body = Body
back (model.Chars s) = Chars s
back model.Closing = Closing

goes_back : (c : Code) → back (code_of c) ≡ c
goes_back (Opening i) = refl
goes_back (Attr j s) = refl
goes_back Body = refl
goes_back (Chars s) = refl
goes_back Closing = refl

all_back : (cs : List Code) → map back (map code_of cs) ≡ cs
all_back [] = refl
all_back (c ∷ cs) = ap (λ d. d ∷ map back (map code_of cs)) (goes_back c) ∙ ap (λ q. c ∷ q) (all_back cs)

codes_alike : (cs ds : List Code) → map code_of cs ≡ map code_of ds → cs ≡ ds
codes_alike cs ds same = sym (all_back cs) ∙ ap (map back) same ∙ all_back ds

-- codes that begin with unchanged ones, of which a front is looked at
pub begin_alike : (n k : ℕ) (held codes front : List Code) → BeginsWith (map code_of codes) (take n (map code_of held)) → front ≡ take k codes → BeginAlike n held front
begin_alike n k held codes front begins is = λ i few within short.
    let old = map code_of held in
    let many : length old ≡ length held = length-map held code_of in
    let among : i ≤ length (take n old) = within_take i n old few (omega (arith, many, within)) in
    let alike : take i old ≡ take i (map code_of codes) =
    sym (take-take i n old few) ∙ ap (take i) (sym begins) ∙ take-take i (length (take n old)) (map code_of codes) among in
    codes_alike (take i held) (take i codes) (sym (take-map code_of i held) ∙ alike ∙ take-map code_of i codes)
    ∙ sym (take_front i k codes (subst (λ q. i ≤ length q) is short))
    ∙ ap (take i) (sym is)
  where
    within_take : (i n : ℕ) (xs : List model.Code) → i ≤ n → i ≤ length xs → i ≤ length (take n xs)
    within_take i n xs few within = omega (arith, few, within, length-take n xs)

-- the held codes are those that a front of the codes begins with
pub begins_with : (k : ℕ) (held front codes : List Code) → held ≡ take (length held) front → front ≡ take k codes → length held ≤ length front →
    BeginsWith (map code_of codes) (map code_of held)
begins_with k held front codes first is short =
    let all : take (length held) codes ≡ held =
    sym (take_front (length held) k codes (subst (λ q. length held ≤ length q) is short)) ∙ ap (take (length held)) (sym is) ∙ sym first in
    ap (λ i. take i (map code_of codes)) (length-map held code_of) ∙ take-map code_of (length held) codes ∙ ap (map code_of) all
