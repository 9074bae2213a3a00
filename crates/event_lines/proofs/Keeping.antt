-- Lines that are held from one document to the next.
use Rattle.std.specs.Prelude.{codes, Result, OnOk, OnErr, Ok, Err}
use Rattle.std.proofs.Common.{◌≡◌, ℕ, ◌-◌, ◌≤◌, List, [], ◌++◌, Option, length, take, drop, get_or, flat_map, append_assoc, arith, ap, sym, subst, ◌∙◌}
use Rattle.std.proofs.Math.Seq.{take-append_seam}
use Rattle.std.proofs.lemmas.List.{take-append-le, take-append-drop, take_all, length-append, length-drop, length-take-le}
use Rattle.std.proofs.lemmas.Grind.{flat_map-append}
use Rattle.skeleton.specs.declared.code.Code.{Code}
use Rattle.event_lines.specs.declared.spellings.Spellings.{Spellings}
use Rattle.event_lines.specs.Held.{Held, HoldsLines}
use Rattle.event_lines.specs.Pieces.{Progress, progress, Sends, Fails}
use Rattle.event_lines.specs.Spelled.{spelled_line, spelled_lines}
use Rattle.event_lines.proofs.Sending.{sends_then, fails_then}

-- the first elements of a front
pub take_front : {A : Type 0} (i n : ℕ) (xs : List A) → i ≤ length (take n xs) → take i (take n xs) ≡ take i xs
take_front i n xs within = sym (take-append-le i (take n xs) (drop n xs) within) ∙ ap (take i) (take-append-drop n xs)

split : {A : Type 0} (f : A → List ℕ) (n : ℕ) (xs : List A) → flat_map f xs ≡ flat_map f (take n xs) ++ flat_map f (drop n xs)
split f n xs = ap (flat_map f) (sym (take-append-drop n xs)) ∙ flat_map-append f (take n xs) (drop n xs)

-- the bytes of the first elements are a front
front_bytes : {A : Type 0} (f : A → List ℕ) (n : ℕ) (xs : List A) → take (length (flat_map f (take n xs))) (flat_map f xs) ≡ flat_map f (take n xs)
front_bytes f n xs =
    ap (take (length (flat_map f (take n xs)))) (split f n xs) ∙ take-append_seam (flat_map f (take n xs)) (flat_map f (drop n xs))

front_short : {A : Type 0} (f : A → List ℕ) (n : ℕ) (xs : List A) → length (flat_map f (take n xs)) ≤ length (flat_map f xs)
front_short f n xs =
    let all = ap length (split f n xs) ∙ length-append (flat_map f (take n xs)) (flat_map f (drop n xs)) in
    omega (arith, all)

-- the first lines end within the text
pub start_within : (s : Spellings) (h : Held) (n : ℕ) → HoldsLines s h → n ≤ length h.codes → get_or h.starts n 0 ≤ length h.text
start_within s h n holds within =
    let short = front_short (spelled_line s) n h.codes in
    let at = holds.starts n within in
    let all = ap length holds.text in
    omega (arith, short, at, all)

-- the first codes, with their lines
pub kept : (s : Spellings) (h now : Held) (n : ℕ) → HoldsLines s h → n ≤ length h.codes → now.text ≡ take (get_or h.starts n 0) h.text →
    now.codes ≡ take n h.codes → now.starts ≡ h.starts → HoldsLines s now
kept s h now n holds within text codes_are starts_are =
    let line = spelled_line s in
    let many = ap length codes_are ∙ length-take-le n h.codes within in
    record {
      text = text ∙ ap (λ z. take z h.text) (holds.starts n within) ∙ ap (take (length (flat_map line (take n h.codes)))) holds.text
          ∙ front_bytes line n h.codes ∙ ap (flat_map line) (sym codes_are);
      starts = λ i below.
          let less : i ≤ length h.codes = omega (arith, many, within, below) in
          let first : take i h.codes ≡ take i now.codes = sym (ap (take i) codes_are ∙ take_front i n h.codes (subst (λ z. i ≤ length z) codes_are below)) in
          ap (λ z. get_or z i 0) starts_are ∙ holds.starts i less ∙ ap (λ z. length (flat_map line z)) first;
    }

-- the held lines and those of the other codes are those of all
pub whole_lines : (s : Spellings) (h : Held) (cs : List Code) → HoldsLines s h → h.codes ≡ take (length h.codes) cs →
    h.text ++ spelled_lines s (drop (length h.codes) cs) ≡ spelled_lines s cs
whole_lines s h cs holds first =
    let line = spelled_line s in
    let n = length h.codes in
    sym (append_assoc h.text (flat_map line (drop n cs)) (codes "\n"))
    ∙ ap (λ z. (z ++ flat_map line (drop n cs)) ++ codes "\n") (holds.text ∙ ap (flat_map line) first)
    ∙ ap (λ z. z ++ codes "\n") (sym (split line n cs))

pub rest_lines : (s : Spellings) (h : Held) (ds cs : List Code) → HoldsLines s h → h.codes ≡ take (length h.codes) cs → ds ≡ h.codes →
    h.text ++ spelled_lines s (take (length cs - length ds) (drop (length ds) cs)) ≡ spelled_lines s cs
rest_lines s h ds cs holds first same =
    let rest = take_all (length cs - length ds) (drop (length ds) cs) (omega (arith, length-drop (length ds) cs)) in
    ap (λ z. h.text ++ spelled_lines s z) (rest ∙ ap (λ z. drop (length z) cs) same) ∙ whole_lines s h cs holds first

module _ {s : Progress} {T E : Type 0} (r : Result T E) (t u : Option (List ℕ)) (f g : ℕ) (b c x y z : List ℕ) where
  -- two parts, of which the second goes through a buffer that is empty before and after
  pub sends_rest : Sends s (progress t [] f) x → b ≡ [] → OnOk r (c ≡ []) → OnOk r (Sends (progress t b f) (progress u c g) y) → x ++ y ≡ z →
      OnOk r (Sends s (progress u [] g) z)
  sends_rest first start end second whole = go r end second
    where
      go : (r : Result T E) → OnOk r (c ≡ []) → OnOk r (Sends (progress t b f) (progress u c g) y) → OnOk r (Sends s (progress u [] g) z)
      go (Ok v) end second =
          subst (λ q. Sends s (progress u [] g) q) whole (sends_then x y first
          (subst (λ q. Sends (progress t q f) (progress u [] g) y) start (subst (λ q. Sends (progress t b f) (progress u q g) y) end second)))
      go (Err e) end second = tt

  pub fails_rest : Sends s (progress t [] f) x → b ≡ [] → OnErr r (Fails (progress t b f) (progress u c g) y) → x ++ y ≡ z →
      OnErr r (Fails s (progress u [] g) z)
  fails_rest first start second whole = go r second
    where
      anew : Fails (progress t b f) (progress u c g) y → Fails (progress t b f) (progress u [] g) y
      anew failed = record { front = failed.front; told = failed.told; later = failed.later; rose = failed.rose }

      go : (r : Result T E) → OnErr r (Fails (progress t b f) (progress u c g) y) → OnErr r (Fails s (progress u [] g) z)
      go (Ok v) second = tt
      go (Err e) second =
          subst (λ q. Fails s (progress u [] g) q) whole (fails_then x y first (subst (λ q. Fails (progress t q f) (progress u [] g) y) start (anew second)))
