-- Starts and definitions, one after the other.
use Rattle.std.proofs.Common.{◌≡◌, ℕ, ◌+◌, ◌<◌, ◌≤◌, Bool, true, false, ◌||◌, ◌&&◌, List, [], ◌∷◌, ◌++◌, Option, Some, None, length, map, take, get_or, refl, ap, sym, subst, ◌∙◌, append-nil, append_assoc}
use Rattle.std.proofs.lemmas.List.{take_more, take_all, map-append}
use Rattle.std.specs.Prelude.{not, filter, if◌then◌else◌}
use Rattle.std.specs.List.{list_any}
use Rattle.std.proofs.lemmas.List.Folds.{list_any-append}
use Rattle.rng_model.specs.Texts.{Text}
use Rattle.grammar_laws.specs.Trees.{Method, Plain, Choice, Interleave, Pattern, Item, items_of}
use Rattle.simple_form_laws.specs.Parts.{Entry, entries, entries_in, same_key}
use Rattle.simple_form_laws.specs.Faults.{are_mixed, are_plain, is_empty_list, place_if}
use Rattle.name_resolution.specs.Least.{least, lesser}
use Rattle.name_resolution.proofs.LeastPlaces.{least_append}
use Rattle.name_resolution.proofs.Again.{later_more}
use Rattle.name_resolution.proofs.Tables.{bytes_eq-sym}
use Rattle.tree_faults.specs.Keys.{has_key}
use Rattle.tree_faults.specs.Entries.{Holds, has_method, same_method, made, clashing}
use Rattle.tree_faults.specs.declared.entries.Entries.{Entries}

pub same_key-sym : (a b : Option Text) → same_key a b ≡ same_key b a
same_key-sym None None = refl
same_key-sym None (Some b) = refl
same_key-sym (Some a) None = refl
same_key-sym (Some a) (Some b) = bytes_eq-sym a b

-- tests that agree
pub same_any : {X : Type 0} (p q : X → Bool) → ((x : X) → p x ≡ q x) → (xs : List X) → list_any p xs ≡ list_any q xs
same_any p q e xs = λ i. list_any (λ x. e x i) xs

and_false : (b : Bool) → (b && false) ≡ false
and_false true = refl
and_false false = refl

never : {X : Type 0} (p : X → Bool) → ((x : X) → p x ≡ false) → (xs : List X) → list_any p xs ≡ false
never p e [] = refl
never p e (x ∷ xs) = rw (e x) (never p e xs)

pub holds_none : (d : Entries) → d.mixed ≡ None → d.twice ≡ None → ((k : Option Text) → has_key d.plain k ≡ false) → ((k : Option Text) → has_key d.choice k ≡ false) → ((k : Option Text) → has_key d.interleave k ≡ false)
    → Holds d []
holds_none d mixed twice plain choice interleave = record { keys = keys; mixed = mixed; twice = twice }
  where
    keys : (m : Method) (k : Option Text) → has_method d m k ≡ false
    keys Plain k = plain k
    keys Choice k = choice k
    keys Interleave k = interleave k

-- a name has a definition, where one of its methods has
any_method : (k : Option Text) (es : List Entry) →
    (list_any (λ e. same_key k e.name && same_method Plain e.method) es || (list_any (λ e. same_key k e.name && same_method Choice e.method) es || list_any (λ e. same_key k e.name && same_method Interleave e.method) es))
    ≡ not (is_empty_list (filter (λ e. same_key k e.name) es))
any_method k [] = refl
any_method k (e ∷ es) = go (same_key k e.name) e.method (list_any (λ e. same_key k e.name && same_method Plain e.method) es) (list_any (λ e. same_key k e.name && same_method Choice e.method) es) (list_any (λ e. same_key k e.name && same_method Interleave e.method) es) (any_method k es)
  where
    go : (b : Bool) (m : Method) (x y z : Bool) → (x || (y || z)) ≡ not (is_empty_list (filter (λ e. same_key k e.name) es))
        → (((b && same_method Plain m) || x) || (((b && same_method Choice m) || y) || ((b && same_method Interleave m) || z))) ≡ not (is_empty_list (if b then e ∷ filter (λ e. same_key k e.name) es else filter (λ e. same_key k e.name) es))
    go false m x y z h = h
    go true Plain x y z h = refl
    go true Choice true y z h = refl
    go true Choice false y z h = refl
    go true Interleave true y z h = refl
    go true Interleave false true z h = refl
    go true Interleave false false z h = refl

pub has_holds : (d : Entries) (k : Option Text) (a b c : Bool) → a ≡ has_method d Plain k → b ≡ has_method d Choice k → c ≡ has_method d Interleave k
    → (es : List Entry) → Holds d es → (a || (b || c)) ≡ not (is_empty_list (filter (λ e. same_key k e.name) es))
has_holds d k a b c ha hb hc es h = (λ i. (ha ∙ h.keys Plain k) i || ((hb ∙ h.keys Choice k) i || (hc ∙ h.keys Interleave k) i)) ∙ any_method k es

pub has_holds_left : (d : Entries) (k : Option Text) (a b c : Bool) → a ≡ has_method d Plain k → b ≡ has_method d Choice k → c ≡ has_method d Interleave k
    → (es : List Entry) → Holds d es → ((a || b) || c) ≡ not (is_empty_list (filter (λ e. same_key k e.name) es))
has_holds_left d k true b c ha hb hc es h = has_holds d k true b c ha hb hc es h
has_holds_left d k false b c ha hb hc es h = has_holds d k false b c ha hb hc es h

mixed_test : (k : Option Text) (m n : Method) → ((o : Method) → same_method m o ≡ are_mixed o n) → (es : List Entry)
    → list_any (λ e. same_key k e.name && same_method m e.method) es ≡ list_any (λ e. same_key e.name k && are_mixed e.method n) es
mixed_test k m n h = same_any _ _ (λ e i. same_key-sym k e.name i && h e.method i)

pub mixed_choice : (d : Entries) (k : Option Text) (es : List Entry) → Holds d es → has_key d.interleave k ≡ list_any (λ e. same_key e.name k && are_mixed e.method Choice) es
mixed_choice d k es h = h.keys Interleave k ∙ mixed_test k Interleave Choice (λ o. by o) es
  where
    by : (o : Method) → same_method Interleave o ≡ are_mixed o Choice
    by Plain = refl
    by Choice = refl
    by Interleave = refl

pub mixed_interleave : (d : Entries) (k : Option Text) (es : List Entry) → Holds d es → has_key d.choice k ≡ list_any (λ e. same_key e.name k && are_mixed e.method Interleave) es
mixed_interleave d k es h = h.keys Choice k ∙ mixed_test k Choice Interleave (λ o. by o) es
  where
    by : (o : Method) → same_method Choice o ≡ are_mixed o Interleave
    by Plain = refl
    by Choice = refl
    by Interleave = refl

pub mixed_plain : (k : Option Text) (es : List Entry) → false ≡ list_any (λ e. same_key e.name k && are_mixed e.method Plain) es
mixed_plain k es = sym (never _ (λ e. by (same_key e.name k) e.method) es)
  where
    by : (b : Bool) (o : Method) → (b && are_mixed o Plain) ≡ false
    by b Plain = and_false b
    by b Choice = and_false b
    by b Interleave = and_false b

pub twice_plain : (d : Entries) (k : Option Text) (es : List Entry) → Holds d es → has_key d.plain k ≡ list_any (λ e. same_key e.name k && are_plain e.method Plain) es
twice_plain d k es h = h.keys Plain k ∙ same_any _ _ (λ e i. same_key-sym k e.name i && by e.method i) es
  where
    by : (o : Method) → same_method Plain o ≡ are_plain o Plain
    by Plain = refl
    by Choice = refl
    by Interleave = refl

pub twice_choice : (k : Option Text) (es : List Entry) → false ≡ list_any (λ e. same_key e.name k && are_plain e.method Choice) es
twice_choice k es = sym (never _ (λ e. by (same_key e.name k) e.method) es)
  where
    by : (b : Bool) (o : Method) → (b && are_plain o Choice) ≡ false
    by b Plain = and_false b
    by b Choice = and_false b
    by b Interleave = and_false b

pub twice_interleave : (k : Option Text) (es : List Entry) → false ≡ list_any (λ e. same_key e.name k && are_plain e.method Interleave) es
twice_interleave k es = sym (never _ (λ e. by (same_key e.name k) e.method) es)
  where
    by : (b : Bool) (o : Method) → (b && are_plain o Interleave) ≡ false
    by b Plain = and_false b
    by b Choice = and_false b
    by b Interleave = and_false b

-- one that is kept
and_true : (b : Bool) → (b && true) ≡ b
and_true true = refl
and_true false = refl

or_false : (b : Bool) → (b || false) ≡ b
or_false true = refl
or_false false = refl

kept : (a b : Bool) → a ≡ (a || (b && false))
kept true b = refl
kept false true = refl
kept false false = refl

pub noted_plain : (old new : Entries) (n : Option Text) → ((k : Option Text) → has_key new.plain k ≡ (has_key old.plain k || same_key k n)) → new.choice ≡ old.choice → new.interleave ≡ old.interleave
    → (m : Method) (k : Option Text) → has_method new m k ≡ (has_method old m k || (same_key k n && same_method m Plain))
noted_plain old new n h c i Plain k = h k ∙ ap (λ (b : Bool). has_key old.plain k || b) (sym (and_true (same_key k n)))
noted_plain old new n h c i Choice k = ap (λ ks. has_key ks k) c ∙ kept (has_key old.choice k) (same_key k n)
noted_plain old new n h c i Interleave k = ap (λ ks. has_key ks k) i ∙ kept (has_key old.interleave k) (same_key k n)

pub noted_choice : (old new : Entries) (n : Option Text) → ((k : Option Text) → has_key new.choice k ≡ (has_key old.choice k || same_key k n)) → new.plain ≡ old.plain → new.interleave ≡ old.interleave
    → (m : Method) (k : Option Text) → has_method new m k ≡ (has_method old m k || (same_key k n && same_method m Choice))
noted_choice old new n h p i Plain k = ap (λ ks. has_key ks k) p ∙ kept (has_key old.plain k) (same_key k n)
noted_choice old new n h p i Choice k = h k ∙ ap (λ (b : Bool). has_key old.choice k || b) (sym (and_true (same_key k n)))
noted_choice old new n h p i Interleave k = ap (λ ks. has_key ks k) i ∙ kept (has_key old.interleave k) (same_key k n)

pub noted_interleave : (old new : Entries) (n : Option Text) → ((k : Option Text) → has_key new.interleave k ≡ (has_key old.interleave k || same_key k n)) → new.plain ≡ old.plain → new.choice ≡ old.choice
    → (m : Method) (k : Option Text) → has_method new m k ≡ (has_method old m k || (same_key k n && same_method m Interleave))
noted_interleave old new n h p c Plain k = ap (λ ks. has_key ks k) p ∙ kept (has_key old.plain k) (same_key k n)
noted_interleave old new n h p c Choice k = ap (λ ks. has_key ks k) c ∙ kept (has_key old.choice k) (same_key k n)
noted_interleave old new n h p c Interleave k = h k ∙ ap (λ (b : Bool). has_key old.interleave k || b) (sym (and_true (same_key k n)))

-- one more
clashing_more : (test : Method → Method → Bool) (old new : Option ℕ) (es : List Entry) (e : Entry) (b : Bool) → old ≡ least (clashing test es) → b ≡ list_any (λ d. same_key d.name e.name && test d.method e.method) es
    → new ≡ lesser old (least (place_if b e.at)) → new ≡ least (clashing test (es ++ e ∷ []))
clashing_more test old new es e b h i n =
    n ∙ (λ j. lesser (h j) (least (place_if (i j) e.at))) ∙ sym (least_append (clashing test es) (place_if (list_any (λ d. same_key d.name e.name && test d.method e.method) es) e.at))
    ∙ ap least (sym (later_more (λ d e. same_key d.name e.name && test d.method e.method) (λ e. e.at) [] es e))

pub holds_more : (old mid : Entries) (n : Option Text) (m : Method) (at : ℕ) (is_mixed is_twice : Bool) (mixed twice now_mixed now_twice : Option ℕ)
    → ((es : List Entry) → Holds old es → is_mixed ≡ list_any (λ e. same_key e.name n && are_mixed e.method m) es)
    → ((es : List Entry) → Holds old es → is_twice ≡ list_any (λ e. same_key e.name n && are_plain e.method m) es)
    → ((o : Method) (k : Option Text) → has_method mid o k ≡ (has_method old o k || (same_key k n && same_method o m)))
    → mid.mixed ≡ old.mixed → mid.twice ≡ old.twice
    → mixed ≡ least (place_if is_mixed at) → twice ≡ least (place_if is_twice at)
    → now_mixed ≡ lesser mid.mixed mixed → now_twice ≡ lesser mid.twice twice
    → (es : List Entry) (p : Pattern) → Holds old es → Holds (record mid { mixed = now_mixed; twice = now_twice }) (es ++ made n m p at ∷ [])
holds_more old mid n m at is_mixed is_twice mixed twice now_mixed now_twice hm ht hk km kt pm pt nm nt es p h = record {
  keys = λ o k. same_sets o k ∙ hk o k ∙ ap (λ (b : Bool). b || (same_key k n && same_method o m)) (h.keys o k)
      ∙ ap (λ (b : Bool). list_any (λ e. same_key k e.name && same_method o e.method) es || b) (sym (or_false (same_key k n && same_method o m)))
      ∙ sym (list_any-append (λ e. same_key k e.name && same_method o e.method) es (made n m p at ∷ []));
  mixed = clashing_more are_mixed old.mixed now_mixed es (made n m p at) is_mixed h.mixed (hm es h) (nm ∙ (λ i. lesser (km i) (pm i)));
  twice = clashing_more are_plain old.twice now_twice es (made n m p at) is_twice h.twice (ht es h) (nt ∙ (λ i. lesser (kt i) (pt i)));
}
  where
    same_sets : (o : Method) (k : Option Text) → has_method (record mid { mixed = now_mixed; twice = now_twice }) o k ≡ has_method mid o k
    same_sets Plain k = refl
    same_sets Choice k = refl
    same_sets Interleave k = refl

-- those of items
pub entries_append : (is js : List Item) → entries (items_of (is ++ js)) ≡ entries (items_of is) ++ entries (items_of js)
entries_append [] js = refl
entries_append (i ∷ is) js = ap (λ l. entries_in i ++ l) (entries_append is js) ∙ sym (append_assoc (entries_in i) (entries (items_of is)) (entries (items_of js)))

pub entries_next : {X : Type 0} (f : X → Item) (xs : List X) (i : ℕ) (x : X) → i < length xs → x ≡ get_or xs i x
    → entries (items_of (map f (take (i + 1) xs))) ≡ entries (items_of (map f (take i xs))) ++ entries_in (f x)
entries_next f xs i x h is =
    let t : take (i + 1) xs ≡ take i xs ++ x ∷ [] = take_more xs i x h ∙ ap (λ y. take i xs ++ y ∷ []) (sym is) in
    ap (λ l. entries (items_of (map f l))) t ∙ ap (λ l. entries (items_of l)) (map-append f (take i xs) (x ∷ []))
    ∙ entries_append (map f (take i xs)) (f x ∷ []) ∙ ap (λ l. entries (items_of (map f (take i xs))) ++ l) (append-nil (entries_in (f x)))

-- one item more
pub item_read : {X : Type 0} (f : X → Item) (xs : List X) (i : ℕ) (x : X) → i < length xs → x ≡ get_or xs i x → (first now next : Entries)
    → ((es : List Entry) → Holds first es → Holds now (es ++ entries (items_of (map f (take i xs)))))
    → ((es : List Entry) → Holds now es → Holds next (es ++ entries_in (f x)))
    → (es : List Entry) → Holds first es → Holds next (es ++ entries (items_of (map f (take (i + 1) xs))))
item_read f xs i x h is first now next before step es holds =
    let before_it = entries (items_of (map f (take i xs))) in
    subst (λ l. Holds next l) (append_assoc es before_it (entries_in (f x)) ∙ ap (λ l. es ++ l) (sym (entries_next f xs i x h is))) (step (es ++ before_it) (before es holds))

pub none_read : (d : Entries) (es : List Entry) → Holds d es → Holds d (es ++ [])
none_read d es h = subst (λ l. Holds d l) (sym (append-nil es)) h

pub all_read : {X : Type 0} (f : X → Item) (xs : List X) (i : ℕ) → length xs ≤ i → (first now : Entries)
    → ((es : List Entry) → Holds first es → Holds now (es ++ entries (items_of (map f (take i xs)))))
    → (es : List Entry) → Holds first es → Holds now (es ++ entries (items_of (map f xs)))
all_read f xs i h first now before = rw (take_all i xs h) at before
