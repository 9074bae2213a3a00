-- Names in a table: where each is found.
use Rattle.std.proofs.Common.{◌≡◌, ℕ, zero, suc, ◌+◌, ◌<◌, ◌≤◌, Bool, true, false, cond, nat_lt, if◌then◌else◌, List, [], ◌∷◌, ◌++◌, length, Option, Some, None, refl, sym, ap, ◌∙◌, subst, arith, length-append}
use Rattle.std.specs.Prelude.{not, ◌||◌, option_map, position, slice_get}
use Rattle.std.specs.List.{list_any, prefix_len}
use Rattle.std.specs.Str.{bytes_eq}
use Rattle.std.proofs.lemmas.Bool.{ltb-true, ltb-false, lt-ltb, le-ltb}
use Rattle.std.proofs.lemmas.Slice.Eq.{bytes_eq-Decides}
use Rattle.std.proofs.lemmas.Option.{slice_get_within, same_Some}
use Rattle.std.proofs.lemmas.List.Folds.{list_any-append}
use Rattle.rng_model.specs.Texts.{Text}
use Rattle.simple_form_laws.specs.Parts.{Entry}
use Rattle.tree_graph.specs.Tables.{Table, number_of, with_name, with_entry, with_entries, AreDistinctNames, IsNamed, AreNamed}
use Rattle.tree_graph.proofs.Lists.{get_in_front, get_last}

pub same_text : (a b : Text) → bytes_eq a b ≡ true → a ≡ b
same_text a b h = grind (arith, bytes_eq-Decides)

pub equal_text : (a : Text) → bytes_eq a a ≡ true
equal_text a = grind (arith, bytes_eq-Decides)

-- whether the names have it
abbrev pub has : Text → List Text → Bool
has name names = list_any (bytes_eq name) names

-- the first that passes
first : (test : Text → Bool) (names : List Text) → list_any test names ≡ true →
    (prefix_len (λ x. not (test x)) names < length names) × ((x : Text) × ((slice_get names (prefix_len (λ x. not (test x)) names) ≡ Some x) × (test x ≡ true)))
first test [] h = absurd (cc)
first test (n ∷ names) h = by (test n) refl (first test names) h
  where
    by : (b : Bool) → test n ≡ b → (list_any test names ≡ true → (prefix_len (λ x. not (test x)) names < length names) × ((x : Text) × ((slice_get names (prefix_len (λ x. not (test x)) names) ≡ Some x) × (test x ≡ true)))) →
        (b || list_any test names) ≡ true →
        (cond (not b) (1 + prefix_len (λ x. not (test x)) names) 0 < suc (length names)) × ((x : Text) × ((slice_get (n ∷ names) (cond (not b) (1 + prefix_len (λ x. not (test x)) names) 0) ≡ Some x) × (test x ≡ true)))
    by true e next k = (omega arith, (n, (refl, e)))
    by false e next k =
        let r = next k in let z : 1 + prefix_len (λ x. not (test x)) names ≡ suc (prefix_len (λ x. not (test x)) names) = omega arith in
        (let l = r.0 in omega (arith, l), (r.1.0, (rw z r.1.1.0, r.1.1.1)))

-- each name that is there has a position, and stands at it
pub position_of : (name : Text) (names : List Text) → has name names ≡ true → (i : ℕ) × ((position (bytes_eq name) names ≡ Some i) × (slice_get names i ≡ Some name))
position_of name names h =
    let f = first (bytes_eq name) names h in
    let i = prefix_len (λ x. not (bytes_eq name x)) names in
    let same : f.1.0 ≡ name = sym (same_text name f.1.0 f.1.1.1) in
    (i, (ap (λ b. cond b (Some i) None) (lt-ltb i (length names) f.0), f.1.1.0 ∙ ap Some same))

pub has_at : (name : Text) (names : List Text) (i : ℕ) → slice_get names i ≡ Some name → has name names ≡ true
has_at name [] i h = absurd (cc)
has_at name (n ∷ names) zero h = let e : n ≡ name = same_Some n name h in rw e (rw (equal_text name) refl)
has_at name (n ∷ names) (suc i) h = go (bytes_eq name n) (has_at name names i h)
  where
    go : (b : Bool) → has name names ≡ true → (b || has name names) ≡ true
    go true e = refl
    go false e = e

has_from : (name : Text) (names : List Text) (i : ℕ) → position (bytes_eq name) names ≡ Some i → has name names ≡ true
has_from name [] i h = absurd (cc)
has_from name (n ∷ names) i h = by (bytes_eq name n) refl h (λ j k. has_from name names j k)
  where
    tail : (m : ℕ) → cond (nat_lt (1 + m) (suc (length names))) (Some (1 + m)) None ≡ Some i → cond (nat_lt m (length names)) (Some m) None ≡ Some m
    tail m k = elim (nat_lt m (length names)) as (λ b. nat_lt m (length names) ≡ b → cond b (Some m) None ≡ Some m) [
      | true ↦ λ b. refl
      | false ↦ λ b. absurd (let l = ltb-false m (length names) b in let e : nat_lt (1 + m) (suc (length names)) ≡ false = le-ltb (1 + m) (suc (length names)) (omega (arith, l)) in let f = rw e at k in cc)
    ] refl

    by : (b : Bool) → bytes_eq name n ≡ b → cond (nat_lt (cond (not b) (1 + prefix_len (λ x. not (bytes_eq name x)) names) 0) (suc (length names))) (Some (cond (not b) (1 + prefix_len (λ x. not (bytes_eq name x)) names) 0)) None ≡ Some i →
        ((j : ℕ) → position (bytes_eq name) names ≡ Some j → has name names ≡ true) → (b || has name names) ≡ true
    by true e k next = refl
    by false e k next = next (prefix_len (λ x. not (bytes_eq name x)) names) (tail (prefix_len (λ x. not (bytes_eq name x)) names) k)

-- at its position there stands the name
pub name_at : (name : Text) (names : List Text) (i : ℕ) → position (bytes_eq name) names ≡ Some i → slice_get names i ≡ Some name
name_at name names i h =
    let p = position_of name names (has_from name names i h) in
    let e : p.0 ≡ i = same_Some p.0 i (sym p.1.0 ∙ h) in
    subst (λ k. slice_get names k ≡ Some name) e p.1.1

-- what is said of a number
pub number_parts : (t : Table) (name : Text) (d : ℕ) → number_of t name ≡ Some d → (i : ℕ) × ((position (bytes_eq name) t.names ≡ Some i) × (d ≡ suc t.base + i))
number_parts t name d h = by (position (bytes_eq name) t.names) refl h
  where
    by : (o : Option ℕ) → position (bytes_eq name) t.names ≡ o → option_map (λ i. suc t.base + i) o ≡ Some d → (i : ℕ) × ((position (bytes_eq name) t.names ≡ Some i) × (d ≡ suc t.base + i))
    by None e k = absurd (cc)
    by (Some i) e k = (i, (e, sym (same_Some (suc t.base + i) d k)))

-- two names of one number are one
pub one_number : (t : Table) (a b : Text) (d : ℕ) → number_of t a ≡ Some d → number_of t b ≡ Some d → a ≡ b
one_number t a b d h k =
    let p = number_parts t a d h in let q = number_parts t b d k in
    let x = p.1.1 in let y = q.1.1 in
    let e : p.0 ≡ q.0 = omega (arith, x, y) in
    same_Some a b (sym (name_at a t.names p.0 p.1.0) ∙ ap (slice_get t.names) e ∙ name_at b t.names q.0 q.1.0)

-- what with_name adds
has_added : (name : Text) (names : List Text) → has name (with_name names name) ≡ true
has_added name names = by (has name names) refl
  where
    by : (b : Bool) → has name names ≡ b → has name (if b then names else names ++ name ∷ []) ≡ true
    by true e = e
    by false e = has_at name (names ++ name ∷ []) (length names) (get_last names name)

has_front : (name : Text) (names more : List Text) → has name names ≡ true → has name (names ++ more) ≡ true
has_front name names more h = list_any-append (bytes_eq name) names more ∙ ap (λ b. b || list_any (bytes_eq name) more) h

has_kept : (name added : Text) (names : List Text) → has name names ≡ true → has name (with_name names added) ≡ true
has_kept name added names h = by (has added names)
  where
    by : (b : Bool) → has name (if b then names else names ++ added ∷ []) ≡ true
    by true = h
    by false = has_front name names (added ∷ []) h

entry_kept : (name : Text) (o : Option Text) (names : List Text) → has name names ≡ true → has name (with_entry names o) ≡ true
entry_kept name None names h = h
entry_kept name (Some m) names h = has_kept name m names h

pub entries_kept : (name : Text) (es : List Entry) (names : List Text) → has name names ≡ true → has name (with_entries names es) ≡ true
entries_kept name [] names h = h
entries_kept name (e ∷ es) names h = entries_kept name es (with_entry names e.name) (entry_kept name e.name names h)

-- the name of each entry is there
pub entry_there : (name : Text) (e : Entry) (es : List Entry) (names : List Text) → e.name ≡ Some name → has name (with_entries (with_entry names e.name) es) ≡ true
entry_there name e es names h = entries_kept name es (with_entry names e.name) (rw h (has_added name names))

-- names that differ still do with one more
distinct_name : (names : List Text) (name : Text) → AreDistinctNames names → AreDistinctNames (with_name names name)
distinct_name names name d = by (has name names) refl
  where
    by : (b : Bool) → has name names ≡ b → AreDistinctNames (if b then names else names ++ name ∷ [])
    by true e i n h = d i n h
    by false e i n h = last (nat_lt i (length names)) refl
      where
        all : List Text
        all = names ++ name ∷ []

        p : (i : ℕ) × ((position (bytes_eq n) all ≡ Some i) × (slice_get all i ≡ Some n))
        p = position_of n all (has_at n all i h)

        -- an earlier one would be its first position
        same : (j : ℕ) → slice_get all j ≡ Some n → j < length names → slice_get names j ≡ Some n
        same j g l = get_in_front names (name ∷ []) j n g l

        end : (j : ℕ) → slice_get all j ≡ Some n → length names ≤ j → (j ≡ length names) × (name ≡ n)
        end j g l =
            let b = slice_get_within all j n g in let c : length all ≡ length names + 1 = length-append names (name ∷ []) in
            let f : j ≡ length names = omega (arith, l, b, c) in
            let k = rw f at g in (f, same_Some name n (sym (get_last names name) ∙ k))

        last : (b : Bool) → nat_lt i (length names) ≡ b → position (bytes_eq n) all ≡ Some i
        last true r = inside (nat_lt p.0 (length names)) refl
          where
            here : slice_get names i ≡ Some n
            here = same i h (ltb-true i (length names) r)

            inside : (b : Bool) → nat_lt p.0 (length names) ≡ b → position (bytes_eq n) all ≡ Some i
            inside true q =
                let there = same p.0 p.1.1 (ltb-true p.0 (length names) q) in
                let x : Some i ≡ Some p.0 = sym (d i n here) ∙ d p.0 n there in p.1.0 ∙ sym x
            inside false q =
                let f = (end p.0 p.1.1 (ltb-false p.0 (length names) q)).1 in
                absurd (let g = has_at n names i here in let k = rw (← f) at g in cc)
        last false r = outside (nat_lt p.0 (length names)) refl
          where
            f : (i ≡ length names) × (name ≡ n)
            f = end i h (ltb-false i (length names) r)

            outside : (b : Bool) → nat_lt p.0 (length names) ≡ b → position (bytes_eq n) all ≡ Some i
            outside true q =
                absurd (let there = same p.0 p.1.1 (ltb-true p.0 (length names) q) in let g = has_at n names p.0 there in let k = rw (← f.1) at g in cc)
            outside false q = let x = (end p.0 p.1.1 (ltb-false p.0 (length names) q)).0 in p.1.0 ∙ ap Some (x ∙ sym f.0)

distinct_entry : (names : List Text) (o : Option Text) → AreDistinctNames names → AreDistinctNames (with_entry names o)
distinct_entry names None d = d
distinct_entry names (Some name) d = distinct_name names name d

pub distinct_entries : (names : List Text) (es : List Entry) → AreDistinctNames names → AreDistinctNames (with_entries names es)
distinct_entries names [] d = d
distinct_entries names (e ∷ es) d = distinct_entries (with_entry names e.name) es (distinct_entry names e.name d)

pub none_distinct : AreDistinctNames []
none_distinct i name h = absurd (cc)

-- each entry's name has a number
pub all_named : (t : Table) (names : List Text) (es : List Entry) → t.names ≡ with_entries names es → AreNamed t es
all_named t names [] h = tt
all_named t names (e ∷ es) h = (named e.name refl, all_named t (with_entry names e.name) es h)
  where
    named : (o : Option Text) → e.name ≡ o → IsNamed t o
    named None f = tt
    named (Some name) f =
        let p = position_of name t.names (rw h (entry_there name e es names f)) in
        (suc t.base + p.0, ap (option_map (λ i. suc t.base + i)) p.1.0)
