-- Loops over the members of lists, for what is joined of two lists of parts.
use Rattle.std.proofs.Common.{◌≡◌, ℕ, ◌+◌, ◌<◌, ◌≤◌, List, [], ◌∷◌, ◌++◌, length, map, take, get_or, refl, sym, ap, ◌∙◌, append_assoc, append-nil}
use Rattle.std.proofs.lemmas.List.{take_more, take_all, map-append}
use Rattle.grammar_laws.specs.Trees.{Pattern, Item, patterns_of, items_of}
use Rattle.simple_form_laws.specs.Parts.{Scope, Part, parts_of, parts_of_list, parts_of_item, parts_of_items}

pub list_append : (s : Scope) (ps qs : List Pattern) → parts_of_list s (patterns_of (ps ++ qs)) ≡ parts_of_list s (patterns_of ps) ++ parts_of_list s (patterns_of qs)
list_append s [] qs = refl
list_append s (p ∷ ps) qs = ap (λ l. parts_of s p ++ l) (list_append s ps qs) ∙ sym (append_assoc (parts_of s p) (parts_of_list s (patterns_of ps)) (parts_of_list s (patterns_of qs)))

pub items_append : (s : Scope) (is js : List Item) → parts_of_items s (items_of (is ++ js)) ≡ parts_of_items s (items_of is) ++ parts_of_items s (items_of js)
items_append s [] js = refl
items_append s (i ∷ is) js = ap (λ l. parts_of_item s i ++ l) (items_append s is js) ∙ sym (append_assoc (parts_of_item s i) (parts_of_items s (items_of is)) (parts_of_items s (items_of js)))

member_next : {X : Type 0} (f : X → Pattern) (s : Scope) (xs : List X) (i : ℕ) (x : X) → i < length xs → x ≡ get_or xs i x
    → parts_of_list s (patterns_of (map f (take (i + 1) xs))) ≡ parts_of_list s (patterns_of (map f (take i xs))) ++ parts_of s (f x)
member_next f s xs i x h is =
    let t : take (i + 1) xs ≡ take i xs ++ x ∷ [] = take_more xs i x h ∙ ap (λ y. take i xs ++ y ∷ []) (sym is) in
    ap (λ l. parts_of_list s (patterns_of (map f l))) t ∙ ap (λ l. parts_of_list s (patterns_of l)) (map-append f (take i xs) (x ∷ []))
    ∙ list_append s (map f (take i xs)) (f x ∷ []) ∙ ap (λ l. parts_of_list s (patterns_of (map f (take i xs))) ++ l) (append-nil (parts_of s (f x)))

item_next : {X : Type 0} (f : X → Item) (s : Scope) (xs : List X) (i : ℕ) (x : X) → i < length xs → x ≡ get_or xs i x
    → parts_of_items s (items_of (map f (take (i + 1) xs))) ≡ parts_of_items s (items_of (map f (take i xs))) ++ parts_of_item s (f x)
item_next f s xs i x h is =
    let t : take (i + 1) xs ≡ take i xs ++ x ∷ [] = take_more xs i x h ∙ ap (λ y. take i xs ++ y ∷ []) (sym is) in
    ap (λ l. parts_of_items s (items_of (map f l))) t ∙ ap (λ l. parts_of_items s (items_of l)) (map-append f (take i xs) (x ∷ []))
    ∙ items_append s (map f (take i xs)) (f x ∷ []) ∙ ap (λ l. parts_of_items s (items_of (map f (take i xs))) ++ l) (append-nil (parts_of_item s (f x)))

module _ {F : Type 0} (join : F → F → F) (G : List Part → F) (both : (xs ys : List Part) → G (xs ++ ys) ≡ join (G xs) (G ys)) (assoc : (a b c : F) → join (join a b) c ≡ join a (join b c)) where
  next : (first found new : F) (xs ys zs : List Part) → zs ≡ xs ++ ys → found ≡ join first (G xs) → new ≡ join found (G ys) → new ≡ join first (G zs)
  next first found new xs ys zs e h n = n ∙ ap (λ a. join a (G ys)) h ∙ assoc first (G xs) (G ys) ∙ ap (join first) (sym (both xs ys) ∙ ap G (sym e))

  -- what a part has itself, and what those in it have
  pub behind : (first own mid new rest o : F) → mid ≡ join first o → o ≡ own → new ≡ join mid rest → new ≡ join first (join own rest)
  behind first own mid new rest o m e n = n ∙ ap (λ a. join a rest) (m ∙ ap (join first) e) ∙ assoc first own rest

  -- one more
  pub member_more : {X : Type 0} (f : X → Pattern) (s : Scope) (first found new : F) (xs : List X) (i : ℕ) (x : X) → i < length xs → x ≡ get_or xs i x
      → found ≡ join first (G (parts_of_list s (patterns_of (map f (take i xs))))) → new ≡ join found (G (parts_of s (f x)))
      → new ≡ join first (G (parts_of_list s (patterns_of (map f (take (i + 1) xs)))))
  member_more f s first found new xs i x h is e n =
      next first found new (parts_of_list s (patterns_of (map f (take i xs)))) (parts_of s (f x)) _ (member_next f s xs i x h is) e n

  pub item_more : {X : Type 0} (f : X → Item) (s : Scope) (first found new : F) (xs : List X) (i : ℕ) (x : X) → i < length xs → x ≡ get_or xs i x
      → found ≡ join first (G (parts_of_items s (items_of (map f (take i xs))))) → new ≡ join found (G (parts_of_item s (f x)))
      → new ≡ join first (G (parts_of_items s (items_of (map f (take (i + 1) xs)))))
  item_more f s first found new xs i x h is e n =
      next first found new (parts_of_items s (items_of (map f (take i xs)))) (parts_of_item s (f x)) _ (item_next f s xs i x h is) e n

  -- all
  pub all_members : {X : Type 0} (f : X → Pattern) (s : Scope) (first found : F) (xs : List X) (i : ℕ) → length xs ≤ i
      → found ≡ join first (G (parts_of_list s (patterns_of (map f (take i xs))))) → found ≡ join first (G (parts_of_list s (patterns_of (map f xs))))
  all_members f s first found xs i h e = rw (take_all i xs h) at e

  pub all_items : {X : Type 0} (f : X → Item) (s : Scope) (first found : F) (xs : List X) (i : ℕ) → length xs ≤ i
      → found ≡ join first (G (parts_of_items s (items_of (map f (take i xs))))) → found ≡ join first (G (parts_of_items s (items_of (map f xs))))
  all_items f s first found xs i h e = rw (take_all i xs h) at e
