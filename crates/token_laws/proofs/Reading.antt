-- A text is read in one way: its tokens, or its first fault.
use Rattle.std.proofs.Common.{◌≡◌, ℕ, ◌≤◌, ◌<◌, ◌+◌, Bool, true, false, not, ◌⊎◌, inl, inr, List, [], ◌∷◌, ◌++◌, length, refl, sym, ap, ap₂, ◌∙◌, subst, subst₂, arith, le_refl, chars, IsUtf8}
use Rattle.std.specs.List.{list_all}
use Rattle.std.specs.Str.{IsValidUpTo}
use Rattle.std.proofs.lemmas.List.{take_all}
use Rattle.std.proofs.lemmas.Bool.{cases_order}
use Rattle.rng_model.specs.Texts.{Text}
use Rattle.token_laws.specs.Tokens.{Token, keyword, ident, cname, ns_name, segment, symbol, Placed, ◌at◌}
use Rattle.token_laws.specs.Lexing.{width, is_line_end, Start, at_end, at_blank, at_comment, at_quote, at_escape, at_word, start_of, IsRun, IsWord, HasNoWord, SegmentEnd, closed, unclosed, bad, refused, ReadsSegment, Joined, apart, after_segment, literal_size, after_word, AreShort, IsTooLong, Fault, bad_character, open_literal, bad_escape, escape_refused, literal_too_long, name_too_long, bad_utf8, Ending, done, fault, IsSegmentFault, Reads, begins_mark, begins_backslash, ReadsText, is_allowed, Tokens, IsFirstRefused, LexRefusal}
use Rattle.token_laws.specs.Lexing as by
use Rattle.token_laws.proofs.Runs.{clash, one_run, run_same, word_same, tail_same, both}
use Rattle.token_laws.proofs.Segments.{one_segment}

abbrev no_line_end : ℕ → Bool
no_line_end c = not (is_line_end c)

-- what stands at a place, and what it gives
abbrev BlankMeaning : Joined → ℕ → List ℕ → List Placed → Ending → Type 0
BlankMeaning j a cs ts e = (c : ℕ) × (ds : List ℕ) × (cs ≡ c ∷ ds) × Reads j (a + 1) ds ts e

abbrev CommentMeaning : Joined → ℕ → List ℕ → List Placed → Ending → Type 0
CommentMeaning j a cs ts e = (xs : List ℕ) × (rest : List ℕ) × IsRun no_line_end cs xs rest × Reads j (a + width xs) rest ts e

abbrev LiteralMeaning : Joined → ℕ → List ℕ → List Placed → Ending → Type 0
LiteralMeaning j a cs ts e =
    (b : ℕ) × (rest : List ℕ) × (s : Text) × (us : List Placed) × ReadsSegment a cs s (closed b rest) × (literal_size j s ≤ 4096) ×
    Reads (after_segment (literal_size j s)) b rest us e × (ts ≡ segment s at a ∷ us)

abbrev LongMeaning : Joined → ℕ → List ℕ → List Placed → Ending → Type 0
LongMeaning j a cs ts e =
    (b : ℕ) × (rest : List ℕ) × (s : Text) × ReadsSegment a cs s (closed b rest) × (4096 < literal_size j s) × (ts ≡ []) × (e ≡ fault literal_too_long a)

abbrev FaultyMeaning : Joined → ℕ → List ℕ → List Placed → Ending → Type 0
FaultyMeaning j a cs ts e =
    (s : Text) × (k : SegmentEnd) × (f : Fault) × (p : ℕ) × ReadsSegment a cs s k × IsSegmentFault a k f p × (ts ≡ []) × (e ≡ fault f p)

abbrev WordMeaning : Joined → ℕ → List ℕ → List Placed → Ending → Type 0
WordMeaning j a cs ts e =
    (t : Token) × (xs : List ℕ) × (rest : List ℕ) × (us : List Placed) × IsWord cs t xs rest × AreShort t × Reads (after_word j t) (a + width xs) rest us e × (ts ≡ t at a ∷ us)

abbrev NameMeaning : Joined → ℕ → List ℕ → List Placed → Ending → Type 0
NameMeaning j a cs ts e =
    (t : Token) × (xs : List ℕ) × (rest : List ℕ) × (p : ℕ) × IsWord cs t xs rest × IsTooLong a xs t p × (ts ≡ []) × (e ≡ fault name_too_long p)

abbrev NoWordMeaning : Joined → ℕ → List ℕ → List Placed → Ending → Type 0
NoWordMeaning j a cs ts e = HasNoWord cs × (ts ≡ []) × (e ≡ fault bad_character a)

abbrev Meaning : Start → Joined → ℕ → List ℕ → List Placed → Ending → Type 0
Meaning at_end j a cs ts e = (ts ≡ []) × (e ≡ done)
Meaning at_blank j a cs ts e = BlankMeaning j a cs ts e
Meaning at_comment j a cs ts e = CommentMeaning j a cs ts e
Meaning at_quote j a cs ts e = LiteralMeaning j a cs ts e ⊎ (LongMeaning j a cs ts e ⊎ FaultyMeaning j a cs ts e)
Meaning at_escape j a cs ts e = (ts ≡ []) × (e ≡ fault escape_refused a)
Meaning at_word j a cs ts e = WordMeaning j a cs ts e ⊎ (NameMeaning j a cs ts e ⊎ NoWordMeaning j a cs ts e)

at_start : (k : Start) (j : Joined) (a : ℕ) (cs : List ℕ) (ts : List Placed) (e : Ending) → start_of cs ≡ k → Meaning k j a cs ts e → Meaning (start_of cs) j a cs ts e
at_start k j a cs ts e same m = subst (λ z. Meaning z j a cs ts e) (sym same) m

meaning : {j : Joined} {a : ℕ} {cs : List ℕ} {ts : List Placed} {e : Ending} → Reads j a cs ts e → Meaning (start_of cs) j a cs ts e
meaning (by.ends {j = j} {a = a} {cs = cs} k) = at_start at_end j a cs [] done k (refl, refl)
meaning (by.blank {j = j} {a = a} {c = c} {cs = cs} {ts = ts} {e = e} k r) = at_start at_blank j a (c ∷ cs) ts e k (c, cs, refl, r)
meaning (by.comment {j = j} {a = a} {cs = cs} {ts = ts} {e = e} k x r) = at_start at_comment j a cs ts e k (_, _, x, r)
meaning (by.literal {j = j} {a = a} {b = b} {cs = cs} {rest = rest} {s = s} {ts = ts} {e = e} k x n r) = at_start at_quote j a cs (segment s at a ∷ ts) e k (inl (b, rest, s, ts, x, n, r, refl))
meaning (by.long_literal {j = j} {a = a} {b = b} {cs = cs} {rest = rest} {s = s} k x n) = at_start at_quote j a cs [] (fault literal_too_long a) k (inr (inl (b, rest, s, x, n, refl, refl)))
meaning (by.faulty_literal {j = j} {a = a} {p = p} {cs = cs} {s = s} {e = e} {f = f} k x n) = at_start at_quote j a cs [] (fault f p) k (inr (inr (s, e, f, p, x, n, refl, refl)))
meaning (by.Reads.escape {j = j} {a = a} {cs = cs} k) = at_start at_escape j a cs [] (fault escape_refused a) k (refl, refl)
meaning (by.word {j = j} {a = a} {t = t} {cs = cs} {xs = xs} {rest = rest} {ts = ts} {e = e} k x n r) = at_start at_word j a cs (t at a ∷ ts) e k (inl (t, xs, rest, ts, x, n, r, refl))
meaning (by.long_name {j = j} {a = a} {p = p} {t = t} {cs = cs} {xs = xs} {rest = rest} k x n) = at_start at_word j a cs [] (fault name_too_long p) k (inr (inl (t, xs, rest, p, x, n, refl, refl)))
meaning (by.no_word {j = j} {a = a} {cs = cs} k n) = at_start at_word j a cs [] (fault bad_character a) k (inr (inr (n, refl, refl)))

from_start : (k : Start) {j : Joined} {a : ℕ} {cs : List ℕ} {ts : List Placed} {e : Ending} → start_of cs ≡ k → Reads j a cs ts e → Meaning k j a cs ts e
from_start k {j = j} {a = a} {cs = cs} {ts = ts} {e = e} same r = subst (λ z. Meaning z j a cs ts e) same (meaning r)

abbrev pub One : Joined → ℕ → List ℕ → List Placed → Ending → Type 0
One j a cs ts e = (ts' : List Placed) (e' : Ending) → Reads j a cs ts' e' → (ts ≡ ts') × (e ≡ e')

one_end : {j : Joined} {a : ℕ} {cs : List ℕ} → start_of cs ≡ at_end → One j a cs [] done
one_end k ts' e' d = let m = from_start at_end k d in (sym m.0, sym m.1)

one_escape : {j : Joined} {a : ℕ} {cs : List ℕ} → start_of cs ≡ at_escape → One j a cs [] (fault escape_refused a)
one_escape k ts' e' d = let m = from_start at_escape k d in (sym m.0, sym m.1)

one_blank : {j : Joined} {a c : ℕ} {cs : List ℕ} {ts : List Placed} {e : Ending} → start_of (c ∷ cs) ≡ at_blank → One j (a + 1) cs ts e → One j a (c ∷ cs) ts e
one_blank {j = j} {a = a} {c = c} {cs = cs} {ts = ts} {e = e} k one ts' e' d = go (from_start at_blank k d)
  where
    go : BlankMeaning j a (c ∷ cs) ts' e' → (ts ≡ ts') × (e ≡ e')
    go (c', ds, same, r) = one ts' e' (subst (λ z. Reads j (a + 1) z ts' e') (sym (tail_same same)) r)

one_comment : {j : Joined} {a : ℕ} {cs xs rest : List ℕ} {ts : List Placed} {e : Ending} → start_of cs ≡ at_comment → IsRun no_line_end cs xs rest → One j (a + width xs) rest ts e → One j a cs ts e
one_comment {j = j} {a = a} {cs = cs} {xs = xs} {rest = rest} {ts = ts} {e = e} k x one ts' e' d = go (from_start at_comment k d)
  where
    go : CommentMeaning j a cs ts' e' → (ts ≡ ts') × (e ≡ e')
    go (ys, other, y, r) =
        let same = run_same x y in
        one ts' e' (subst₂ (λ u v. Reads j (a + width u) v ts' e') (sym same.0) (sym same.1) r)

closed_place : {a b : ℕ} {cs ds : List ℕ} → closed a cs ≡ closed b ds → a ≡ b
closed_place e = cc

closed_rest : {a b : ℕ} {cs ds : List ℕ} → closed a cs ≡ closed b ds → cs ≡ ds
closed_rest e = cc

-- a closed segment has no fault
closed_fault : (a p : ℕ) (f : Fault) {b : ℕ} {cs : List ℕ} {k : SegmentEnd} → closed b cs ≡ k → IsSegmentFault a k f p → ⊥
closed_fault a p f {b = b} {cs = cs} same i = subst (λ z. IsSegmentFault a z f p) (sym same) i

one_literal : {j : Joined} {a b : ℕ} {cs rest : List ℕ} {s : Text} {ts : List Placed} {e : Ending} → start_of cs ≡ at_quote → ReadsSegment a cs s (closed b rest) → literal_size j s ≤ 4096 →
    One (after_segment (literal_size j s)) b rest ts e → One j a cs (segment s at a ∷ ts) e
one_literal {j = j} {a = a} {b = b} {cs = cs} {rest = rest} {s = s} {ts = ts} {e = e} k x n one ts' e' d = go (from_start at_quote k d)
  where
    on : (b' : ℕ) (other : List ℕ) (u : Text) (us : List Placed) → s ≡ u → closed b rest ≡ closed b' other → Reads (after_segment (literal_size j u)) b' other us e' → (ts ≡ us) × (e ≡ e')
    on b' other u us same ends r =
        let r₁ = subst (λ z. Reads (after_segment (literal_size j z)) b' other us e') (sym same) r in
        one us e' (subst₂ (λ y z. Reads (after_segment (literal_size j s)) y z us e') (sym (closed_place ends)) (sym (closed_rest ends)) r₁)

    go : LiteralMeaning j a cs ts' e' ⊎ (LongMeaning j a cs ts' e' ⊎ FaultyMeaning j a cs ts' e') → (segment s at a ∷ ts ≡ ts') × (e ≡ e')
    go (inl (b', other, u, us, y, m, r, made)) =
        let same = one_segment x u (closed b' other) y in
        let f = on b' other u us same.0 same.1 r in
        (ap₂ (λ y z. segment y at a ∷ z) same.0 f.0 ∙ sym made, f.1)
    go (inr (inl (b', other, u, y, m, _, _))) =
        let same = one_segment x u (closed b' other) y in
        let h : 4096 < literal_size j s = subst (λ z. 4096 < literal_size j z) (sym same.0) m in
        absurd (omega arith)
    go (inr (inr (u, i, f, p, y, m, _, _))) = absurd (closed_fault a p f (one_segment x u i y).1 m)

one_long : {j : Joined} {a b : ℕ} {cs rest : List ℕ} {s : Text} → start_of cs ≡ at_quote → ReadsSegment a cs s (closed b rest) → 4096 < literal_size j s → One j a cs [] (fault literal_too_long a)
one_long {j = j} {a = a} {b = b} {cs = cs} {rest = rest} {s = s} k x n ts' e' d = go (from_start at_quote k d)
  where
    go : LiteralMeaning j a cs ts' e' ⊎ (LongMeaning j a cs ts' e' ⊎ FaultyMeaning j a cs ts' e') → ([] ≡ ts') × (fault literal_too_long a ≡ e')
    go (inl (b', other, u, us, y, m, r, made)) =
        let same = one_segment x u (closed b' other) y in
        let h : literal_size j s ≤ 4096 = subst (λ z. literal_size j z ≤ 4096) (sym same.0) m in
        absurd (omega arith)
    go (inr (inl (b', other, u, y, m, v, w))) = (sym v, sym w)
    go (inr (inr (u, i, f, p, y, m, _, _))) = absurd (closed_fault a p f (one_segment x u i y).1 m)

-- an end of a segment has one fault
fault_same : (a : ℕ) (k : SegmentEnd) (f g : Fault) (p q : ℕ) → IsSegmentFault a k f p → IsSegmentFault a k g q → fault f p ≡ fault g q
fault_same a (closed b rest) f g p q i j = elim i [ ]
fault_same a unclosed f g p q i j = ap₂ fault (i.0 ∙ sym j.0) (i.1 ∙ sym j.1)
fault_same a (bad b) f g p q i j = ap₂ fault (i.0 ∙ sym j.0) (i.1 ∙ sym j.1)
fault_same a (refused b) f g p q i j = ap₂ fault (i.0 ∙ sym j.0) (i.1 ∙ sym j.1)

one_faulty : {j : Joined} {a p : ℕ} {cs : List ℕ} {s : Text} {i : SegmentEnd} {f : Fault} → start_of cs ≡ at_quote → ReadsSegment a cs s i → IsSegmentFault a i f p → One j a cs [] (fault f p)
one_faulty {j = j} {a = a} {p = p} {cs = cs} {s = s} {i = i} {f = f} k x n ts' e' d = go (from_start at_quote k d)
  where
    go : LiteralMeaning j a cs ts' e' ⊎ (LongMeaning j a cs ts' e' ⊎ FaultyMeaning j a cs ts' e') → ([] ≡ ts') × (fault f p ≡ e')
    go (inl (b', other, u, us, y, m, r, made)) = absurd (closed_fault a p f (one_segment y s i x).1 n)
    go (inr (inl (b', other, u, y, m, v, w))) = absurd (closed_fault a p f (one_segment y s i x).1 n)
    go (inr (inr (u, i', f', p', y, m, v, w))) =
        let same = one_segment x u i' y in
        (sym v, fault_same a i f f' p p' n (subst (λ z. IsSegmentFault a z f' p') (sym same.1) m) ∙ sym w)

-- no token is both short and too long, and it has one first name that is too long
short_or_long : (a : ℕ) (xs : List ℕ) (t : Token) (p : ℕ) → AreShort t → IsTooLong a xs t p → ⊥
short_or_long a xs (keyword k) p s l = l
short_or_long a xs (ident n) p s (l, _) = omega arith
short_or_long a xs (cname m n) p (s, _) (inl (l, _)) = omega arith
short_or_long a xs (cname m n) p (_, s) (inr (_, l, _)) = omega arith
short_or_long a xs (ns_name m) p s (l, _) = omega arith
short_or_long a xs (segment u) p s l = l
short_or_long a xs (symbol u) p s l = l

long_same : (a : ℕ) (xs : List ℕ) (t : Token) (p q : ℕ) → IsTooLong a xs t p → IsTooLong a xs t q → p ≡ q
long_same a xs (keyword k) p q l m = elim l [ ]
long_same a xs (ident n) p q (_, x) (_, y) = x ∙ sym y
long_same a xs (cname m n) p q (inl (_, x)) (inl (_, y)) = x ∙ sym y
long_same a xs (cname m n) p q (inl (l, x)) (inr (s, _, y)) = absurd (omega arith)
long_same a xs (cname m n) p q (inr (s, _, x)) (inl (l, y)) = absurd (omega arith)
long_same a xs (cname m n) p q (inr (_, _, x)) (inr (_, _, y)) = x ∙ sym y
long_same a xs (ns_name m) p q (_, x) (_, y) = x ∙ sym y
long_same a xs (segment u) p q l m = elim l [ ]
long_same a xs (symbol u) p q l m = elim l [ ]

one_word : {j : Joined} {a : ℕ} {t : Token} {cs xs rest : List ℕ} {ts : List Placed} {e : Ending} → start_of cs ≡ at_word → IsWord cs t xs rest → AreShort t →
    One (after_word j t) (a + width xs) rest ts e → One j a cs (t at a ∷ ts) e
one_word {j = j} {a = a} {t = t} {cs = cs} {xs = xs} {rest = rest} {ts = ts} {e = e} k x n one ts' e' d = go (from_start at_word k d)
  where
    go : WordMeaning j a cs ts' e' ⊎ (NameMeaning j a cs ts' e' ⊎ NoWordMeaning j a cs ts' e') → (t at a ∷ ts ≡ ts') × (e ≡ e')
    go (inl (u, ys, other, us, y, m, r, made)) =
        let same = word_same x y in
        let r₁ = subst (λ z. Reads (after_word j z) (a + width ys) other us e') (sym same.0) r in
        let f = one us e' (subst₂ (λ v w. Reads (after_word j t) (a + width v) w us e') (sym same.1) (sym same.2) r₁) in
        (ap₂ (λ v w. v at a ∷ w) same.0 f.0 ∙ sym made, f.1)
    go (inr (inl (u, ys, other, p, y, m, _, _))) =
        let same = word_same x y in
        absurd (short_or_long a ys t p n (subst (λ z. IsTooLong a ys z p) (sym same.0) m))
    go (inr (inr (none, _, _))) = absurd (none t xs rest x.spelled x.spelling)

one_name : {j : Joined} {a p : ℕ} {t : Token} {cs xs rest : List ℕ} → start_of cs ≡ at_word → IsWord cs t xs rest → IsTooLong a xs t p → One j a cs [] (fault name_too_long p)
one_name {j = j} {a = a} {p = p} {t = t} {cs = cs} {xs = xs} {rest = rest} k x n ts' e' d = go (from_start at_word k d)
  where
    go : WordMeaning j a cs ts' e' ⊎ (NameMeaning j a cs ts' e' ⊎ NoWordMeaning j a cs ts' e') → ([] ≡ ts') × (fault name_too_long p ≡ e')
    go (inl (u, ys, other, us, y, m, r, made)) =
        let same = word_same x y in
        absurd (short_or_long a xs t p (subst AreShort (sym same.0) m) n)
    go (inr (inl (u, ys, other, q, y, m, v, w))) =
        let same = word_same x y in
        let long = long_same a xs t p q n (subst₂ (λ f g. IsTooLong a f g q) (sym same.1) (sym same.0) m) in
        (sym v, ap (fault name_too_long) long ∙ sym w)
    go (inr (inr (none, _, _))) = absurd (none t xs rest x.spelled x.spelling)

one_stray : {j : Joined} {a : ℕ} {cs : List ℕ} → start_of cs ≡ at_word → HasNoWord cs → One j a cs [] (fault bad_character a)
one_stray {j = j} {a = a} {cs = cs} k none ts' e' d = go (from_start at_word k d)
  where
    go : WordMeaning j a cs ts' e' ⊎ (NameMeaning j a cs ts' e' ⊎ NoWordMeaning j a cs ts' e') → ([] ≡ ts') × (fault bad_character a ≡ e')
    go (inl (u, ys, other, us, y, _, _, _)) = absurd (none u ys other y.spelled y.spelling)
    go (inr (inl (u, ys, other, q, y, _, _, _))) = absurd (none u ys other y.spelled y.spelling)
    go (inr (inr (_, v, w))) = (sym v, sym w)

pub one_reading : {j : Joined} {a : ℕ} {cs : List ℕ} {ts : List Placed} {e : Ending} → Reads j a cs ts e → One j a cs ts e
one_reading (by.ends k) = one_end k
one_reading (by.blank k r) = one_blank k (one_reading r)
one_reading (by.comment k x r) = one_comment k x (one_reading r)
one_reading (by.literal k x n r) = one_literal k x n (one_reading r)
one_reading (by.long_literal k x n) = one_long k x n
one_reading (by.faulty_literal k x n) = one_faulty k x n
one_reading (by.Reads.escape k) = one_escape k
one_reading (by.word k x n r) = one_word k x n (one_reading r)
one_reading (by.long_name k x n) = one_name k x n
one_reading (by.no_word k n) = one_stray k n

-- the text behind its mark
abbrev TextMeaning : List ℕ → List Placed → Ending → Type 0
TextMeaning cs ts e =
    ((c : ℕ) × (ds : List ℕ) × (cs ≡ c ∷ ds) × (begins_mark cs ≡ true) × Reads apart 3 ds ts e) ⊎ ((begins_mark cs ≡ false) × Reads apart 0 cs ts e)

text_meaning : {cs : List ℕ} {ts : List Placed} {e : Ending} → ReadsText cs ts e → TextMeaning cs ts e
text_meaning (by.marked b r) = inl (_, _, refl, b, r)
text_meaning (by.plain b r) = inr (b, r)

pub one_text : {cs : List ℕ} {ts : List Placed} {e : Ending} → ReadsText cs ts e → (ts' : List Placed) (e' : Ending) → ReadsText cs ts' e' → (ts ≡ ts') × (e ≡ e')
one_text (by.marked {c = c} {cs = cs} {ts = ts} {e = e} b r) ts' e' d = go (text_meaning d)
  where
    go : TextMeaning (c ∷ cs) ts' e' → (ts ≡ ts') × (e ≡ e')
    go (inl (c', ds, same, _, r')) = one_reading r ts' e' (subst (λ z. Reads apart 3 z ts' e') (sym (tail_same same)) r')
    go (inr (b', _)) = clash b b'
one_text (by.plain {cs = cs} {ts = ts} {e = e} b r) ts' e' d = go (text_meaning d)
  where
    go : TextMeaning cs ts' e' → (ts ≡ ts') × (e ≡ e')
    go (inl (c', ds, same, b', _)) = clash b' b
    go (inr (_, r')) = one_reading r ts' e' r'

-- a text has at most one list of tokens
pub one_list : (bytes : List ℕ) (ts us : List Placed) → Tokens bytes ts → Tokens bytes us → ts ≡ us
one_list bytes ts us t u = (one_text t.reads us done u.reads).0

-- a text with ill-formed bytes is no UTF-8
ill_formed : (bytes : List ℕ) (n : ℕ) → IsValidUpTo bytes n → IsUtf8 bytes → ⊥
ill_formed bytes n v u = v.longest (length bytes) v.short (subst IsUtf8 (sym (take_all (length bytes) bytes (le_refl (length bytes)))) u)

-- a refused character isn't allowed
refused_character : (p : ℕ → Bool) (xs : List ℕ) (c : ℕ) (ys : List ℕ) → p c ≡ false → list_all p (xs ++ c ∷ ys) ≡ true → ⊥
refused_character p [] c ys f e = clash (both (p c) (list_all p ys) e).0 f
refused_character p (x ∷ xs) c ys f e = refused_character p xs c ys f (both (p x) (list_all p (xs ++ c ∷ ys)) e).1

not_first : {bytes xs ys : List ℕ} {c : ℕ} → IsFirstRefused bytes xs c ys → list_all is_allowed (chars bytes) ≡ true → ⊥
not_first {bytes = bytes} {xs = xs} {ys = ys} {c = c} r e = refused_character is_allowed xs c ys r.refused (subst (λ z. list_all is_allowed z ≡ true) r.spelled e)

done_or_fault : {f : Fault} {p : ℕ} → done ≡ fault f p → ⊥
done_or_fault e = cc

-- a text with tokens has no fault
pub not_both : (bytes : List ℕ) (ts : List Placed) (f : Fault) (p : ℕ) → Tokens bytes ts → LexRefusal bytes f p → ⊥
not_both bytes ts f p t (by.LexRefusal.utf8 v) = ill_formed bytes p v t.utf8
not_both bytes ts f p t (by.LexRefusal.character u r n) = not_first r t.allowed
not_both bytes ts f p t (by.LexRefusal.token {ts = us} u a r) = done_or_fault (one_text t.reads us (fault f p) r).1

-- a text has at most one fault
one_front : (bytes : List ℕ) (n m : ℕ) → IsValidUpTo bytes n → IsValidUpTo bytes m → n ≡ m
one_front bytes n m v w = go (cases_order n m)
  where
    go : (n ≡ m) ⊎ ((n < m) ⊎ (m < n)) → n ≡ m
    go (inl e) = e
    go (inr (inl less)) = absurd (v.longest m less w.front)
    go (inr (inr less)) = absurd (w.longest n less v.front)

one_refused : {bytes xs ys us vs : List ℕ} {c d : ℕ} → IsFirstRefused bytes xs c ys → IsFirstRefused bytes us d vs → xs ≡ us
one_refused {xs = xs} {ys = ys} {us = us} {vs = vs} {c = c} {d = d} r s =
    (one_run is_allowed xs (c ∷ ys) us (d ∷ vs) r.allowed r.refused s.allowed s.refused (sym r.spelled ∙ s.spelled)).0

abbrev RefusalMeaning : List ℕ → Fault → ℕ → Type 0
RefusalMeaning bytes f p =
    ((f ≡ bad_utf8) × IsValidUpTo bytes p) ⊎
    (((c : ℕ) × (xs : List ℕ) × (ys : List ℕ) × IsUtf8 bytes × (f ≡ bad_character) × IsFirstRefused bytes xs c ys × (p ≡ width xs)) ⊎
    ((ts : List Placed) × IsUtf8 bytes × (list_all is_allowed (chars bytes) ≡ true) × ReadsText (chars bytes) ts (fault f p)))

refusal_meaning : {bytes : List ℕ} {f : Fault} {p : ℕ} → LexRefusal bytes f p → RefusalMeaning bytes f p
refusal_meaning (by.LexRefusal.utf8 v) = inl (refl, v)
refusal_meaning (by.LexRefusal.character u r n) = inr (inl (_, _, _, u, refl, r, n))
refusal_meaning (by.LexRefusal.token u a r) = inr (inr (_, u, a, r))

fault_kind : {f g : Fault} {p q : ℕ} → fault f p ≡ fault g q → f ≡ g
fault_kind e = cc

fault_place : {f g : Fault} {p q : ℕ} → fault f p ≡ fault g q → p ≡ q
fault_place e = cc

pub one_refusal : (bytes : List ℕ) (f g : Fault) (p q : ℕ) → LexRefusal bytes f p → LexRefusal bytes g q → (f ≡ g) × (p ≡ q)
one_refusal bytes f g p q l m = go (refusal_meaning l) (refusal_meaning m)
  where
    go : RefusalMeaning bytes f p → RefusalMeaning bytes g q → (f ≡ g) × (p ≡ q)
    go (inl (x, v)) (inl (y, w)) = (x ∙ sym y, one_front bytes p q v w)
    go (inl (x, v)) (inr (inl (c, xs, ys, u, y, r, n))) = absurd (ill_formed bytes p v u)
    go (inl (x, v)) (inr (inr (ts, u, a, r))) = absurd (ill_formed bytes p v u)
    go (inr (inl (c, xs, ys, u, x, r, n))) (inl (y, w)) = absurd (ill_formed bytes q w u)
    go (inr (inl (c, xs, ys, u, x, r, n))) (inr (inl (d, us, vs, u', y, r', n'))) = (x ∙ sym y, n ∙ (ap width (one_refused r r') ∙ sym n'))
    go (inr (inl (c, xs, ys, u, x, r, n))) (inr (inr (ts, u', a, r'))) = absurd (not_first r a)
    go (inr (inr (ts, u, a, r))) (inl (y, w)) = absurd (ill_formed bytes q w u)
    go (inr (inr (ts, u, a, r))) (inr (inl (d, us, vs, u', y, r', n'))) = absurd (not_first r' a)
    go (inr (inr (ts, u, a, r))) (inr (inr (us, u', a', r'))) =
        let e = (one_text r us (fault g q) r').1 in
        (fault_kind e, fault_place e)
