-- The names that items define, one after the other.
use Rattle.std.proofs.Common.{◌≡◌, ℕ, suc, ◌+◌, ◌<◌, ◌≤◌, Bool, true, false, cond, List, [], ◌∷◌, ◌++◌, length, map, take, get_or, if◌then◌else◌, refl, sym, ap, ◌∙◌, append_assoc, append-nil, nat_eq, Bor}
use Rattle.std.specs.List.{list_any, prefix_len}
use Rattle.std.specs.Prelude.{not, ◌||◌, position}
use Rattle.std.specs.Str.{bytes_eq}
use Rattle.std.specs.Cmp.Lexicographic.{pointwise}
use Rattle.std.proofs.lemmas.List.{take_more, take_all, map-append}
use Rattle.indexmap.specs.IndexSet.{insert_key}
use Rattle.rng_model.specs.Texts.{Text}
use Rattle.grammar_laws.specs.Trees.{Item, items_of}
use Rattle.simple_form_laws.specs.Parts.{Entry, entries, entries_in}
use Rattle.tree_graph.specs.Tables.{with_name, with_entry, with_entries}

abbrev pub Borrowed : Type 0
Borrowed = Bor (List ℕ)

abbrev pub names_in : List Borrowed → List Text
names_in = map (λ (n : Borrowed). n.now)

any_in : (q : Text) (ks : List Borrowed) → list_any (λ (k : Borrowed). bytes_eq q k.now) ks ≡ list_any (bytes_eq q) (names_in ks)
any_in q [] = refl
any_in q (k ∷ ks) = ap (λ b. bytes_eq q k.now || b) (any_in q ks)

-- a name that isn't there goes last
pub names_with : (k : Borrowed) (ks : List Borrowed) → names_in (insert_key (λ (x y : Borrowed). pointwise nat_eq x.now y.now) ks k) ≡ with_name (names_in ks) k.now
names_with k ks = rw (← any_in k.now ks) (step (list_any (λ (x : Borrowed). bytes_eq k.now x.now) ks))
  where
    step : (b : Bool) → names_in (if b then ks else ks ++ k ∷ []) ≡ (if b then names_in ks else names_in ks ++ k.now ∷ [])
    step true = refl
    step false = map-append (λ (n : Borrowed). n.now) ks (k ∷ [])

prefix_in : (q : Text) (ks : List Borrowed) → prefix_len (λ (k : Borrowed). not (bytes_eq q k.now)) ks ≡ prefix_len (λ n. not (bytes_eq q n)) (names_in ks)
prefix_in q [] = refl
prefix_in q (k ∷ ks) = step (prefix_in q ks) (bytes_eq q k.now)
  where
    step : prefix_len (λ (x : Borrowed). not (bytes_eq q x.now)) ks ≡ prefix_len (λ n. not (bytes_eq q n)) (names_in ks) → (b : Bool)
        → cond (not b) (1 + prefix_len (λ (x : Borrowed). not (bytes_eq q x.now)) ks) 0 ≡ cond (not b) (1 + prefix_len (λ n. not (bytes_eq q n)) (names_in ks)) 0
    step e true = refl
    step e false = ap (λ n. 1 + n) e

length_in : (ks : List Borrowed) → length (names_in ks) ≡ length ks
length_in [] = refl
length_in (k ∷ ks) = ap (λ n. suc n) (length_in ks)

pub position_in : (q : Text) (ks : List Borrowed) → position (λ (k : Borrowed). bytes_eq q k.now) ks ≡ position (bytes_eq q) (names_in ks)
position_in q ks = rw (prefix_in q ks, length_in ks) refl

-- entries one behind the other
with_more : (names : List Text) (es fs : List Entry) → with_entries names (es ++ fs) ≡ with_entries (with_entries names es) fs
with_more names [] fs = refl
with_more names (e ∷ es) fs = with_more (with_entry names e.name) es fs

entries_append : (is js : List Item) → entries (items_of (is ++ js)) ≡ entries (items_of is) ++ entries (items_of js)
entries_append [] js = refl
entries_append (i ∷ is) js = ap (λ l. entries_in i ++ l) (entries_append is js) ∙ sym (append_assoc (entries_in i) (entries (items_of is)) (entries (items_of js)))

-- one item more
pub entries_more : {X : Type 0} (f : X → Item) (xs : List X) (i : ℕ) (x : X) → i < length xs → x ≡ get_or xs i x
    → entries (items_of (map f (take (i + 1) xs))) ≡ entries (items_of (map f (take i xs))) ++ entries_in (f x)
entries_more f xs i x h is =
    let t : take (i + 1) xs ≡ take i xs ++ x ∷ [] = take_more xs i x h ∙ ap (λ y. take i xs ++ y ∷ []) (sym is) in
    ap (λ l. entries (items_of (map f l))) t ∙ ap (λ l. entries (items_of l)) (map-append f (take i xs) (x ∷ [])) ∙ entries_append (map f (take i xs)) (f x ∷ [])
    ∙ ap (λ l. entries (items_of (map f (take i xs))) ++ l) (append-nil (entries_in (f x)))

pub names_more : {X : Type 0} (f : X → Item) (start now next : List Text) (xs : List X) (i : ℕ) (x : X) → i < length xs → x ≡ get_or xs i x
    → now ≡ with_entries start (entries (items_of (map f (take i xs)))) → next ≡ with_entries now (entries_in (f x)) → next ≡ with_entries start (entries (items_of (map f (take (i + 1) xs))))
names_more f start now next xs i x h is e n =
    n ∙ ap (λ l. with_entries l (entries_in (f x))) e ∙ sym (with_more start (entries (items_of (map f (take i xs)))) (entries_in (f x)))
    ∙ ap (with_entries start) (sym (entries_more f xs i x h is))

pub all_names : {X : Type 0} (f : X → Item) (start now : List Text) (xs : List X) (i : ℕ) → length xs ≤ i
    → now ≡ with_entries start (entries (items_of (map f (take i xs)))) → now ≡ with_entries start (entries (items_of (map f xs)))
all_names f start now xs i h e = rw (take_all i xs h) at e
