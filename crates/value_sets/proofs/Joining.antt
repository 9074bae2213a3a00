-- What a set takes after a member is added, and what the choice of the members takes.
use Rattle.std.proofs.Common.{◌≡◌, ℕ, ◌<◌, Bool, true, false, ◌&&◌, ◌||◌, [], ◌∷◌, ◌++◌, None, Some, refl, sym, ◌∙◌, ap, subst, arith}
use Rattle.std.specs.List.{list_any}
use Rattle.std.specs.Str.{bytes_eq}
use Rattle.std.proofs.lemmas.List.Folds.{list_any-append}
use Rattle.rng_model.specs.Texts.{Text, normal}
use Rattle.rng_model.specs.Kinds.{Str, Token, equal, allows}
use Rattle.rng_model.specs.Constructors.{choice_of}
use Rattle.rng_model.specs.Derivatives.{text_step, where_true}
use Rattle.rng_model.specs.Patterns.{Pattern, not_allowed, empty, text, ref, value, data_type, data_except, attribute, one_or_more, choice, group, interleave, after}
use Rattle.pattern_intern.specs.Stored.{Stored, count, tree_at}
use Rattle.pattern_intern.specs.Trees.{IsNode, node_tree}
use Rattle.pattern_intern.specs.declared.id.PatternId.{PatternId}
use Rattle.pattern_intern.specs.declared.node.Node.{Node}
use Rattle.pattern_intern.specs.declared.node.Node.TheVariants.{Choice, DataType}
use Rattle.value_sets.specs.Taken.{Adds, Takes, has, is_leaf, is_whole, leaf_takes, takes_of, test_takes}
use Rattle.value_sets.specs.declared.leaf.Test.{Test}
use Rattle.value_sets.specs.declared.value_set.ValueSet.{ValueSet}

or_false : (b : Bool) → (b || false) ≡ b
or_false true = refl
or_false false = refl

first_grows : (a b c x : Bool) → ((a || x) || b || c) ≡ ((a || b || c) || x)
first_grows true b c x = refl
first_grows false true c true = refl
first_grows false true c false = refl
first_grows false false true true = refl
first_grows false false true false = refl
first_grows false false false true = refl
first_grows false false false false = refl

or_swap : (b x c : Bool) → ((b || x) || c) ≡ ((b || c) || x)
or_swap true x c = refl
or_swap false true true = refl
or_swap false true false = refl
or_swap false false true = refl
or_swap false false false = refl

second_grows : (a b c x : Bool) → (a || (b || x) || c) ≡ ((a || b || c) || x)
second_grows true b c x = refl
second_grows false b c x = or_swap b x c

third_grows : (a b c x : Bool) → (a || b || (c || x)) ≡ ((a || b || c) || x)
third_grows true b c x = refl
third_grows false true c x = refl
third_grows false false c x = refl

same_string : (s v : Text) → equal Str s v ≡ bytes_eq s v
unfolding equal allows
same_string s v = refl

same_token : (s v : Text) → equal Token s v ≡ bytes_eq (normal s) (normal v)
unfolding equal allows
same_token s v = refl

-- a literal of a string
pub string_added : (old new : ValueSet) (v : Text) → ((t : Text) → has new.strings t ≡ (has old.strings t || bytes_eq t v)) → new.tokens ≡ old.tokens →
    new.others ≡ old.others → Adds old (λ s. equal Str s v) new
string_added old new v strings tokens others = record { takes = λ s. one s }
  where
    one : (s : Text) → takes_of new s ≡ (takes_of old s || equal Str s v)
    one s = rw (tokens, others, strings s, same_string s v) (first_grows (has old.strings s) (has old.tokens (normal s)) (list_any (test_takes s) old.others.items) (bytes_eq s v))

-- a literal of a token
pub token_added : (old new : ValueSet) (v : Text) → ((t : Text) → has new.tokens t ≡ (has old.tokens t || bytes_eq t (normal v))) → new.strings ≡ old.strings →
    new.others ≡ old.others → Adds old (λ s. equal Token s v) new
token_added old new v tokens strings others = record { takes = λ s. one s }
  where
    one : (s : Text) → takes_of new s ≡ (takes_of old s || equal Token s v)
    one s = rw (strings, others, tokens (normal s), same_token s v) (second_grows (has old.strings s) (has old.tokens (normal s)) (list_any (test_takes s) old.others.items) (bytes_eq (normal s) (normal v)))

-- a test
pub test_added : (old new : ValueSet) (test : Test) → new.others.items ≡ old.others.items ++ test ∷ [] → new.strings ≡ old.strings → new.tokens ≡ old.tokens →
    Adds old (λ s. test_takes s test) new
test_added old new test others strings tokens = record { takes = λ s. one s }
  where
    any : (s : Text) → list_any (test_takes s) new.others.items ≡ (list_any (test_takes s) old.others.items || test_takes s test)
    any s = ap (list_any (test_takes s)) others ∙ list_any-append (test_takes s) old.others.items (test ∷ []) ∙ ap (λ (b : Bool). list_any (test_takes s) old.others.items || b) (or_false (test_takes s test))

    one : (s : Text) → takes_of new s ≡ (takes_of old s || test_takes s test)
    one s = rw (strings, tokens, any s) (third_grows (has old.strings s) (has old.tokens (normal s)) (list_any (test_takes s) old.others.items) (test_takes s test))

-- a member that takes nothing
pub adds_nothing : (set : ValueSet) (test : Text → Bool) → ((s : Text) → test s ≡ false) → Adds set test set
adds_nothing set test none = record { takes = λ s. sym (or_false (takes_of set s)) ∙ ap (λ (b : Bool). takes_of set s || b) (sym (none s)) }

pub leaf_step : (s : Text) (p : Pattern) → is_leaf p ≡ true → text_step s p ≡ where_true (leaf_takes s p) empty
unfolding text_step
leaf_step s not_allowed h = refl
leaf_step s empty h = refl
leaf_step s text h = absurd (cc)
leaf_step s (ref d) h = refl
leaf_step s (value k v) h = refl
leaf_step s (data_type k) h = refl
leaf_step s (data_except k e) h = absurd (cc)
leaf_step s (attribute c p) h = refl
leaf_step s (one_or_more p) h = absurd (cc)
leaf_step s (choice p q) h = absurd (cc)
leaf_step s (group p q) h = absurd (cc)
leaf_step s (interleave p q) h = absurd (cc)
leaf_step s (after p q) h = absurd (cc)

either : (a b : Bool) → choice_of (where_true a empty) (where_true b empty) ≡ where_true (a || b) empty
unfolding choice_of
either true true = refl
either true false = refl
either false true = refl
either false false = refl

or_assoc : (a b c : Bool) → (a || (b || c)) ≡ ((a || b) || c)
or_assoc true b c = refl
or_assoc false b c = refl

choice_text : (s : Text) (p q : Pattern) → text_step s (choice p q) ≡ choice_of (text_step s p) (text_step s q)
unfolding text_step
choice_text s p q = refl

-- the node of a choice: its members have smaller numbers
choice_node : (s : Stored) (id : ℕ) (node : Node) (a b : PatternId) → IsNode s id node → node ≡ Choice a b →
    (b.0 < id) × (tree_at s id ≡ choice (tree_at s a.0) (tree_at s b.0))
choice_node s id node a b h e = let n = subst (IsNode s id) e h in (n.below.1, n.tree)

-- what is known of the members before the rest: what they take is in the set, and nothing is left behind a text
pub record AreAdded (s : Stored) (id rest : ℕ) (set : ValueSet) : Type 0 where
  pub within : rest < count s
  pub takes : (t : Text) (b : Bool) → text_step t (tree_at s rest) ≡ where_true b empty → text_step t (tree_at s id) ≡ where_true (takes_of set t || b) empty
  pub whole : is_whole (tree_at s id) ≡ is_whole (tree_at s rest)

pub none_added : (s : Stored) (id : ℕ) (set : ValueSet) → id < count s → ((t : Text) → takes_of set t ≡ false) → AreAdded s id id set
none_added s id set w none = record {
  within = w;
  takes = λ t b e. e ∙ ap (λ a. where_true (a || b) empty) (sym (none t));
  whole = refl;
}

-- what a text leaves of the rest, from what its first member takes
rest_step : (t : Text) (p q : Pattern) (b : Bool) → is_leaf p ≡ true → text_step t q ≡ where_true b empty → text_step t (choice p q) ≡ where_true (leaf_takes t p || b) empty
rest_step t p q b l e = choice_text t p q ∙ ap (λ x. choice_of x (text_step t q)) (leaf_step t p l) ∙ ap (choice_of (where_true (leaf_takes t p) empty)) e ∙ either (leaf_takes t p) b

pub next_added : (s : Stored) (id rest : ℕ) (node : Node) (member others : PatternId) (old new : ValueSet) → AreAdded s id rest old → IsNode s rest node →
    node ≡ Choice member others → is_leaf (tree_at s member.0) ≡ true → Adds old (λ t. leaf_takes t (tree_at s member.0)) new → AreAdded s id others.0 new
next_added s id rest node member others old new h is e leaf adds =
    let n = choice_node s rest node member others is e in
    let below = n.0 in let w = h.within in
    let p = tree_at s member.0 in let q = tree_at s others.0 in
    record {
      within = omega (arith, below, w);
      takes = λ t b f.
          h.takes t (leaf_takes t p || b) (ap (text_step t) n.1 ∙ rest_step t p q b leaf f)
          ∙ ap (λ x. where_true x empty) (or_assoc (takes_of old t) (leaf_takes t p) b ∙ ap (λ x. x || b) (sym (adds.takes t)));
      whole = h.whole ∙ ap is_whole n.1 ∙ ap (λ x. x && is_whole q) leaf;
    }

-- all members are added
pub last_added : (s : Stored) (id rest : ℕ) (old new : ValueSet) → AreAdded s id rest old → is_leaf (tree_at s rest) ≡ true →
    Adds old (λ t. leaf_takes t (tree_at s rest)) new → Takes new (tree_at s id)
last_added s id rest old new h leaf adds = record {
  step = λ t. h.takes t (leaf_takes t (tree_at s rest)) (leaf_step t (tree_at s rest) leaf) ∙ ap (λ x. where_true x empty) (sym (adds.takes t));
}

-- a member that may leave something behind a text
pub other_member : (s : Stored) (id rest : ℕ) (node : Node) (member others : PatternId) (set : ValueSet) → AreAdded s id rest set → IsNode s rest node →
    node ≡ Choice member others → is_leaf (tree_at s member.0) ≡ false → is_whole (tree_at s id) ≡ false
other_member s id rest node member others set h is e leaf =
    let n = choice_node s rest node member others is e in
    h.whole ∙ ap is_whole n.1 ∙ ap (λ x. x && is_whole (tree_at s others.0)) leaf

-- the last member, which is no choice
not_whole : (s : Stored) (node : Node) → ((a b : PatternId) → node ≡ Choice a b → ⊥) → is_leaf (node_tree s node) ≡ false → is_whole (node_tree s node) ≡ false
not_whole s (Choice a b) other h = absurd (other a b refl)
not_whole s (DataType k None) other h = h
not_whole s (DataType k (Some e)) other h = h
not_whole s _ other h = h

pub other_last : (s : Stored) (id rest : ℕ) (node : Node) (set : ValueSet) → AreAdded s id rest set → IsNode s rest node →
    ((a b : PatternId) → node ≡ Choice a b → ⊥) → is_leaf (tree_at s rest) ≡ false → is_whole (tree_at s id) ≡ false
other_last s id rest node set h is other leaf =
    h.whole ∙ ap is_whole is.tree ∙ not_whole s node other (ap is_leaf (sym is.tree) ∙ leaf)
