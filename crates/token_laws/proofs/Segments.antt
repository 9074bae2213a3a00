-- A segment is read in one way.
use Rattle.std.proofs.Common.{◌≡◌, ℕ, ◌+◌, ◌-◌, Bool, true, false, ◌⊎◌, inl, inr, List, [], ◌∷◌, ◌++◌, length, refl, sym, ap, ap₂, ◌∙◌, subst, subst₂, if◌then◌else◌, encode_utf8, drop}
use Rattle.std.specs.Char.{is_digit}
use Rattle.rng_model.specs.Texts.{Text}
use Rattle.token_laws.specs.Lexing.{width, is_quote, begins_three, SegmentEnd, closed, unclosed, bad, refused, Inside, nothing, quotes, escape, line_end, character, inside_of, after_line_end, hex_value, IsEscape, ReadsInside, ReadsSegment, EndsRun}
use Rattle.token_laws.specs.Lexing as by
use Rattle.token_laws.proofs.Runs.{clash, one_run, head_same, tail_same}

-- an escape is a function of its place
pub record SameEscape (n : ℕ) (ds rest : List ℕ) (n' : ℕ) (ds' rest' : List ℕ) : Type 0 where
  pub number : n ≡ n'
  pub digits : ds ≡ ds'
  pub behind : rest ≡ rest'

abbrev hexadecimal : ℕ → Bool
hexadecimal d = is_digit d 16

pub escape_same : {cs : List ℕ} {n : ℕ} {ds rest : List ℕ} {n' : ℕ} {ds' rest' : List ℕ} → IsEscape cs n ds rest → IsEscape cs n' ds' rest' → SameEscape n ds rest n' ds' rest'
escape_same {n = n} {ds = ds} {rest = rest} {n' = n'} {ds' = ds'} {rest' = rest'} e f =
    let same : ds ++ 125 ∷ rest ≡ ds' ++ 125 ∷ rest' = tail_same (tail_same (tail_same (sym e.spelled ∙ f.spelled))) in
    let r = one_run hexadecimal ds (125 ∷ rest) ds' (125 ∷ rest') e.hexadecimal refl f.hexadecimal refl same in
    record { number = e.number ∙ (ap (hex_value 0) r.0 ∙ sym f.number); digits = r.0; behind = tail_same r.1 }

-- what stands at a place inside a segment, and what it gives
module _ (q : ℕ) (long : Bool) where
  abbrev ReadsOn : ℕ → List ℕ → Text → SegmentEnd → Type 0
  ReadsOn = ReadsInside q long

  abbrev QuotesMeaning : ℕ → List ℕ → Text → SegmentEnd → Type 0
  QuotesMeaning a cs s e = (s ≡ []) × (e ≡ closed (a + (if long then 3 else 1)) (drop (if long then 3 else 1) cs))

  abbrev LineMeaning : ℕ → List ℕ → Text → SegmentEnd → Type 0
  LineMeaning a cs s e =
      ((long ≡ false) × (s ≡ []) × (e ≡ unclosed)) ⊎
      ((t : Text) × (long ≡ true) × ReadsOn (a + (length cs - length (after_line_end cs))) (after_line_end cs) t e × (s ≡ 10 ∷ t))

  abbrev CharacterMeaning : ℕ → List ℕ → Text → SegmentEnd → Type 0
  CharacterMeaning a cs s e = (c : ℕ) × (ds : List ℕ) × (t : Text) × (cs ≡ c ∷ ds) × ReadsOn (a + width (c ∷ [])) ds t e × (s ≡ encode_utf8 c ++ t)

  abbrev OverMeaning : ℕ → List ℕ → Text → SegmentEnd → Type 0
  OverMeaning a cs s e =
      (n : ℕ) × (ds : List ℕ) × (rest : List ℕ) × (t : Text) × IsEscape cs n ds rest × (is_quote n ≡ false) × ReadsOn (a + (length ds + 4)) rest t e × (s ≡ encode_utf8 n ++ t)

  abbrev RefusedMeaning : ℕ → List ℕ → Text → SegmentEnd → Type 0
  RefusedMeaning a cs s e = (n : ℕ) × (ds : List ℕ) × (rest : List ℕ) × IsEscape cs n ds rest × (is_quote n ≡ true) × (s ≡ []) × (e ≡ refused a)

  abbrev BadMeaning : ℕ → List ℕ → Text → SegmentEnd → Type 0
  BadMeaning a cs s e = ((n : ℕ) (ds rest : List ℕ) → IsEscape cs n ds rest → ⊥) × (s ≡ []) × (e ≡ bad a)

  abbrev InsideMeaning : Inside → ℕ → List ℕ → Text → SegmentEnd → Type 0
  InsideMeaning nothing a cs s e = (s ≡ []) × (e ≡ unclosed)
  InsideMeaning quotes a cs s e = QuotesMeaning a cs s e
  InsideMeaning line_end a cs s e = LineMeaning a cs s e
  InsideMeaning character a cs s e = CharacterMeaning a cs s e
  InsideMeaning escape a cs s e = OverMeaning a cs s e ⊎ (RefusedMeaning a cs s e ⊎ BadMeaning a cs s e)

  at_kind : (k : Inside) (a : ℕ) (cs : List ℕ) (s : Text) (e : SegmentEnd) → inside_of q long cs ≡ k → InsideMeaning k a cs s e → InsideMeaning (inside_of q long cs) a cs s e
  at_kind k a cs s e same m = subst (λ z. InsideMeaning z a cs s e) (sym same) m

  inside_meaning : {a : ℕ} {cs : List ℕ} {s : Text} {e : SegmentEnd} → ReadsOn a cs s e → InsideMeaning (inside_of q long cs) a cs s e
  inside_meaning (by.ReadsInside.at_end {a = a} {cs = cs} k) = at_kind nothing a cs [] unclosed k (refl, refl)
  inside_meaning (by.at_quotes {a = a} {b = b} {cs = cs} {rest = rest} k n r) = at_kind quotes a cs [] (closed (a + b) rest) k (refl, rw (r, n) refl)
  inside_meaning (by.at_line_end {a = a} {cs = cs} l k) = at_kind line_end a cs [] unclosed k (inl (l, refl, refl))
  inside_meaning (by.over_line_end {a = a} {cs = cs} {rest = rest} {s = s} {e = e} l k r h) =
      at_kind line_end a cs (10 ∷ s) e k (inr (s, l, subst (λ z. ReadsOn (a + (length cs - length z)) z s e) r h, refl))
  inside_meaning (by.over_character {a = a} {c = c} {cs = cs} {t = t} {e = e} k h made) = at_kind character a (c ∷ cs) t e k (c, cs, _, refl, h, made)
  inside_meaning (by.over_escape {a = a} {cs = cs} {t = t} {e = e} k x f h made) = at_kind escape a cs t e k (inl (_, _, _, _, x, f, h, made))
  inside_meaning (by.at_quote_escape {a = a} {cs = cs} k x f) = at_kind escape a cs [] (refused a) k (inr (inl (_, _, _, x, f, refl, refl)))
  inside_meaning (by.at_bad_escape {a = a} {cs = cs} k n) = at_kind escape a cs [] (bad a) k (inr (inr (n, refl, refl)))

  from_kind : (k : Inside) {a : ℕ} {cs : List ℕ} {s : Text} {e : SegmentEnd} → inside_of q long cs ≡ k → ReadsOn a cs s e → InsideMeaning k a cs s e
  from_kind k {a = a} {cs = cs} {s = s} {e = e} same r = subst (λ z. InsideMeaning z a cs s e) same (inside_meaning r)

  abbrev pub OneInside : ℕ → List ℕ → Text → SegmentEnd → Type 0
  OneInside a cs s e = (s' : Text) (e' : SegmentEnd) → ReadsInside q long a cs s' e' → (s ≡ s') × (e ≡ e')

  quotes_one : {a b : ℕ} {cs rest : List ℕ} → inside_of q long cs ≡ quotes → b ≡ (if long then 3 else 1) → rest ≡ drop b cs → OneInside a cs [] (closed (a + b) rest)
  quotes_one k n r s' e' d = let m = from_kind quotes k d in (sym m.0, rw (r, n) (sym m.1))

  line_stop : {a : ℕ} {cs : List ℕ} → long ≡ false → inside_of q long cs ≡ line_end → OneInside a cs [] unclosed
  line_stop {a = a} {cs = cs} l k s' e' d = go (from_kind line_end k d)
    where
      go : LineMeaning a cs s' e' → ([] ≡ s') × (unclosed ≡ e')
      go (inl (_, x, y)) = (sym x, sym y)
      go (inr (t, l', r, made)) = clash l' l

  line_over : {a : ℕ} {cs rest : List ℕ} {s : Text} {e : SegmentEnd} → long ≡ true → inside_of q long cs ≡ line_end → rest ≡ after_line_end cs → OneInside (a + (length cs - length rest)) rest s e →
      OneInside a cs (10 ∷ s) e
  line_over {a = a} {cs = cs} {rest = rest} {s = s} {e = e} l k r one s' e' d = go (from_kind line_end k d)
    where
      go : LineMeaning a cs s' e' → (10 ∷ s ≡ s') × (e ≡ e')
      go (inl (l', x, y)) = clash l l'
      go (inr (t, l', h, made)) =
          let f = one t e' (subst (λ z. ReadsOn (a + (length cs - length z)) z t e') (sym r) h) in
          (ap (λ z. 10 ∷ z) f.0 ∙ sym made, f.1)

  character_over : {a c : ℕ} {cs : List ℕ} {s t : Text} {e : SegmentEnd} → inside_of q long (c ∷ cs) ≡ character → OneInside (a + width (c ∷ [])) cs s e → t ≡ encode_utf8 c ++ s →
      OneInside a (c ∷ cs) t e
  character_over {a = a} {c = c} {cs = cs} {s = s} {t = t} {e = e} k one made s' e' d = go (from_kind character k d)
    where
      go : CharacterMeaning a (c ∷ cs) s' e' → (t ≡ s') × (e ≡ e')
      go (c', ds, u, same, h, made') =
          let f = one u e' (subst₂ (λ y z. ReadsOn (a + width (y ∷ [])) z u e') (sym (head_same same)) (sym (tail_same same)) h) in
          (made ∙ (ap₂ (λ y z. encode_utf8 y ++ z) (head_same same) f.0 ∙ sym made'), f.1)

  escape_over : {a n : ℕ} {cs digits rest : List ℕ} {s t : Text} {e : SegmentEnd} → inside_of q long cs ≡ escape → IsEscape cs n digits rest → is_quote n ≡ false →
      OneInside (a + (length digits + 4)) rest s e → t ≡ encode_utf8 n ++ s → OneInside a cs t e
  escape_over {a = a} {n = n} {cs = cs} {digits = digits} {rest = rest} {s = s} {t = t} {e = e} k x f one made s' e' d = go (from_kind escape k d)
    where
      go : OverMeaning a cs s' e' ⊎ (RefusedMeaning a cs s' e' ⊎ BadMeaning a cs s' e') → (t ≡ s') × (e ≡ e')
      go (inl (n', ds, rest', u, x', f', h, made')) =
          let same = escape_same x x' in
          let g = one u e' (subst₂ (λ y z. ReadsOn (a + (length y + 4)) z u e') (sym same.digits) (sym same.behind) h) in
          (made ∙ (ap₂ (λ y z. encode_utf8 y ++ z) same.number g.0 ∙ sym made'), g.1)
      go (inr (inl (n', ds, rest', x', f', _, _))) =
          let same = escape_same x x' in
          clash (ap is_quote same.number ∙ f') f
      go (inr (inr (none, _, _))) = absurd (none n digits rest x)

  escape_refused : {a n : ℕ} {cs digits rest : List ℕ} → inside_of q long cs ≡ escape → IsEscape cs n digits rest → is_quote n ≡ true → OneInside a cs [] (refused a)
  escape_refused {a = a} {n = n} {cs = cs} {digits = digits} {rest = rest} k x f s' e' d = go (from_kind escape k d)
    where
      go : OverMeaning a cs s' e' ⊎ (RefusedMeaning a cs s' e' ⊎ BadMeaning a cs s' e') → ([] ≡ s') × (refused a ≡ e')
      go (inl (n', ds, rest', u, x', f', h, made')) =
          let same = escape_same x x' in
          clash f (ap is_quote same.number ∙ f')
      go (inr (inl (n', ds, rest', x', f', y, z))) = (sym y, sym z)
      go (inr (inr (none, _, _))) = absurd (none n digits rest x)

  escape_bad : {a : ℕ} {cs : List ℕ} → inside_of q long cs ≡ escape → ((n : ℕ) (digits rest : List ℕ) → IsEscape cs n digits rest → ⊥) → OneInside a cs [] (bad a)
  escape_bad {a = a} {cs = cs} k none s' e' d = go (from_kind escape k d)
    where
      go : OverMeaning a cs s' e' ⊎ (RefusedMeaning a cs s' e' ⊎ BadMeaning a cs s' e') → ([] ≡ s') × (bad a ≡ e')
      go (inl (n', ds, rest', u, x', f', h, made')) = absurd (none n' ds rest' x')
      go (inr (inl (n', ds, rest', x', f', y, z))) = absurd (none n' ds rest' x')
      go (inr (inr (_, y, z))) = (sym y, sym z)

  end_one : {a : ℕ} {cs : List ℕ} → inside_of q long cs ≡ nothing → OneInside a cs [] unclosed
  end_one k s' e' d = let m = from_kind nothing k d in (sym m.0, sym m.1)

  pub one_inside : {a : ℕ} {cs : List ℕ} {s : Text} {e : SegmentEnd} → ReadsInside q long a cs s e → OneInside a cs s e
  one_inside (by.ReadsInside.at_end k) = end_one k
  one_inside (by.at_quotes k n r) = quotes_one k n r
  one_inside (by.at_line_end l k) = line_stop l k
  one_inside (by.over_line_end l k r h) = line_over l k r (one_inside h)
  one_inside (by.over_character k h made) = character_over k (one_inside h) made
  one_inside (by.over_escape k x f h made) = escape_over k x f (one_inside h) made
  one_inside (by.at_quote_escape k x f) = escape_refused k x f
  one_inside (by.at_bad_escape k n) = escape_bad k n

-- a segment by its quotes
abbrev SegmentMeaning : ℕ → List ℕ → Text → SegmentEnd → Type 0
SegmentMeaning a [] s e = ⊥
SegmentMeaning a (q ∷ cs) s e =
    ((begins_three q (q ∷ cs) ≡ true) × ReadsInside q true (a + 3) (drop 2 cs) s e) ⊎ ((begins_three q (q ∷ cs) ≡ false) × ReadsInside q false (a + 1) cs s e)

segment_meaning : {a : ℕ} {cs : List ℕ} {s : Text} {e : SegmentEnd} → ReadsSegment a cs s e → SegmentMeaning a cs s e
segment_meaning (by.long b r) = inl (b, r)
segment_meaning (by.short b r) = inr (b, r)

pub one_segment : {a : ℕ} {cs : List ℕ} {s : Text} {e : SegmentEnd} → ReadsSegment a cs s e → (s' : Text) (e' : SegmentEnd) → ReadsSegment a cs s' e' → (s ≡ s') × (e ≡ e')
one_segment (by.long {a = a} {q = q} {cs = cs} {s = s} {e = e} b r) s' e' d = go (segment_meaning d)
  where
    go : SegmentMeaning a (q ∷ cs) s' e' → (s ≡ s') × (e ≡ e')
    go (inl (_, r')) = one_inside q true r s' e' r'
    go (inr (b', _)) = clash b b'
one_segment (by.short {a = a} {q = q} {cs = cs} {s = s} {e = e} b r) s' e' d = go (segment_meaning d)
  where
    go : SegmentMeaning a (q ∷ cs) s' e' → (s ≡ s') × (e ≡ e')
    go (inl (b', _)) = clash b' b
    go (inr (_, r')) = one_inside q false r s' e' r'
