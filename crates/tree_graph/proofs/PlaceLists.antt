-- Places of tokens, list by list.
use Rattle.std.proofs.Common.{◌≡◌, ℕ, ◌+◌, ◌<◌, ◌≤◌, List, [], ◌∷◌, ◌++◌, length, map, take, get_or, refl, sym, ap, ◌∙◌, append_assoc, append-nil}
use Rattle.std.proofs.lemmas.List.{take_more, take_all, map-append}
use Rattle.grammar_laws.specs.Trees.{Pattern, Item, patterns_of, items_of}
use Rattle.simple_form_laws.specs.Forms.{element_places, places_in_list, places_in_item, places_in_items}

pub list_append : (ps qs : List Pattern) → places_in_list (patterns_of (ps ++ qs)) ≡ places_in_list (patterns_of ps) ++ places_in_list (patterns_of qs)
list_append [] qs = refl
list_append (p ∷ ps) qs = ap (λ l. element_places p ++ l) (list_append ps qs) ∙ sym (append_assoc (element_places p) (places_in_list (patterns_of ps)) (places_in_list (patterns_of qs)))

pub items_append : (is js : List Item) → places_in_items (items_of (is ++ js)) ≡ places_in_items (items_of is) ++ places_in_items (items_of js)
items_append [] js = refl
items_append (i ∷ is) js = ap (λ l. places_in_item i ++ l) (items_append is js) ∙ sym (append_assoc (places_in_item i) (places_in_items (items_of is)) (places_in_items (items_of js)))

-- one member more
pub member_more : {X : Type 0} (f : X → Pattern) (start now next : List ℕ) (xs : List X) (i : ℕ) (x : X) → i < length xs → x ≡ get_or xs i x
    → now ≡ start ++ places_in_list (patterns_of (map f (take i xs))) → next ≡ now ++ element_places (f x) → next ≡ start ++ places_in_list (patterns_of (map f (take (i + 1) xs)))
member_more f start now next xs i x h is e n =
    let t : take (i + 1) xs ≡ take i xs ++ x ∷ [] = take_more xs i x h ∙ ap (λ y. take i xs ++ y ∷ []) (sym is) in
    n ∙ ap (λ l. l ++ element_places (f x)) e ∙ append_assoc start (places_in_list (patterns_of (map f (take i xs)))) (element_places (f x))
    ∙ ap (λ l. start ++ l) (sym (ap (λ l. places_in_list (patterns_of (map f l))) t ∙ ap (λ l. places_in_list (patterns_of l)) (map-append f (take i xs) (x ∷ []))
    ∙ list_append (map f (take i xs)) (f x ∷ []) ∙ ap (λ l. places_in_list (patterns_of (map f (take i xs))) ++ l) (append-nil (element_places (f x)))))

pub item_more : {X : Type 0} (f : X → Item) (start now next : List ℕ) (xs : List X) (i : ℕ) (x : X) → i < length xs → x ≡ get_or xs i x
    → now ≡ start ++ places_in_items (items_of (map f (take i xs))) → next ≡ now ++ places_in_item (f x) → next ≡ start ++ places_in_items (items_of (map f (take (i + 1) xs)))
item_more f start now next xs i x h is e n =
    let t : take (i + 1) xs ≡ take i xs ++ x ∷ [] = take_more xs i x h ∙ ap (λ y. take i xs ++ y ∷ []) (sym is) in
    n ∙ ap (λ l. l ++ places_in_item (f x)) e ∙ append_assoc start (places_in_items (items_of (map f (take i xs)))) (places_in_item (f x))
    ∙ ap (λ l. start ++ l) (sym (ap (λ l. places_in_items (items_of (map f l))) t ∙ ap (λ l. places_in_items (items_of l)) (map-append f (take i xs) (x ∷ []))
    ∙ items_append (map f (take i xs)) (f x ∷ []) ∙ ap (λ l. places_in_items (items_of (map f (take i xs))) ++ l) (append-nil (places_in_item (f x)))))

pub all_members : {X : Type 0} (f : X → Pattern) (start now : List ℕ) (xs : List X) (i : ℕ) → length xs ≤ i
    → now ≡ start ++ places_in_list (patterns_of (map f (take i xs))) → now ≡ start ++ places_in_list (patterns_of (map f xs))
all_members f start now xs i h e = rw (take_all i xs h) at e

pub all_items : {X : Type 0} (f : X → Item) (start now : List ℕ) (xs : List X) (i : ℕ) → length xs ≤ i
    → now ≡ start ++ places_in_items (items_of (map f (take i xs))) → now ≡ start ++ places_in_items (items_of (map f xs))
all_items f start now xs i h e = rw (take_all i xs h) at e
