-- Name classes of the full tree, level by level.
use Rattle.std.proofs.Common.{◌≡◌, ℕ, List, map, Option, Some, None, ap, sym, ◌∙◌}
use Rattle.rng_model.specs.Texts.{Text}
use Rattle.grammar_laws.specs.Trees.{classes_of}
use Rattle.grammar_laws.specs.Trees as tree
use Rattle.schema_tree.specs.declared.tree.Class.{Class, Plain, Prefixed}
use Rattle.schema_tree.specs.declared.tree.Class.TheOpen.{Class-F}
use Rattle.schema_tree.specs.declared.tree.Class.TheFolds.{fold-roll-Class}
use Rattle.schema_tree.specs.declared.tree.Class.TheViews.{roll-Class}
use Rattle.schema_tree.specs.declared.tree.Class.TheViews as open_class
use Rattle.schema_tree.specs.Trees.{class_of, class_step}
use denote.Hole.Carrier.{roll}

pub class_choice : (cs : List Class) → class_of (open_class.Choice cs) ≡ tree.Class.choice_class (classes_of (map class_of cs))
unfolding roll-Class roll
class_choice cs = fold-roll-Class tree.Class class_step (Class-F.Choice cs)

pub class_plain : (n : Text) (a : ℕ) → class_of (Plain n a) ≡ tree.Class.plain n a
unfolding roll-Class roll
class_plain n a = fold-roll-Class tree.Class class_step (Class-F.Plain n a)

pub class_prefixed : (p : Text) (n : Text) (a : ℕ) → class_of (Prefixed p n a) ≡ tree.Class.prefixed p n a
unfolding roll-Class roll
class_prefixed p n a = fold-roll-Class tree.Class class_step (Class-F.Prefixed p n a)

pub class_any : (a : ℕ) → class_of (open_class.Any None a) ≡ tree.Class.any a
unfolding roll-Class roll
class_any a = fold-roll-Class tree.Class class_step (Class-F.Any None a)

pub class_any_except : (c : Class) (a : ℕ) → class_of (open_class.Any (Some c) a) ≡ tree.Class.any_except (class_of c) a
unfolding roll-Class roll
class_any_except c a = fold-roll-Class tree.Class class_step (Class-F.Any (Some c) a)

pub class_namespace : (p : Text) (a : ℕ) → class_of (open_class.Namespace p None a) ≡ tree.Class.namespace p a
unfolding roll-Class roll
class_namespace p a = fold-roll-Class tree.Class class_step (Class-F.Namespace p None a)

pub class_namespace_except : (p : Text) (c : Class) (a : ℕ) → class_of (open_class.Namespace p (Some c) a) ≡ tree.Class.namespace_except p (class_of c) a
unfolding roll-Class roll
class_namespace_except p c a = fold-roll-Class tree.Class class_step (Class-F.Namespace p (Some c) a)

-- the class of an arm
pub choice_is : (k : Class) (ms xs : List Class) → k ≡ open_class.Choice ms → xs ≡ ms → class_of k ≡ tree.Class.choice_class (classes_of (map class_of xs))
choice_is k ms xs h i = ap class_of h ∙ class_choice ms ∙ ap (λ cs. tree.Class.choice_class (classes_of (map class_of cs))) (sym i)

pub any_is : (k : Class) (o : Option Class) (e g : Class) (a : ℕ) → k ≡ open_class.Any o a → o ≡ Some e → g ≡ e → class_of k ≡ tree.Class.any_except (class_of g) a
any_is k o e g a h i j = ap class_of h ∙ ap (λ p. class_of (open_class.Any p a)) i ∙ class_any_except e a ∙ ap (λ x. tree.Class.any_except (class_of x) a) (sym j)

pub namespace_is : (k : Class) (p : Text) (o : Option Class) (e g : Class) (a : ℕ) → k ≡ open_class.Namespace p o a → o ≡ Some e → g ≡ e
    → class_of k ≡ tree.Class.namespace_except p (class_of g) a
namespace_is k p o e g a h i j =
    ap class_of h ∙ ap (λ q. class_of (open_class.Namespace p q a)) i ∙ class_namespace_except p e a ∙ ap (λ x. tree.Class.namespace_except p (class_of x) a) (sym j)

pub namespace_alone_is : (k : Class) (p : Text) (o : Option Class) (a : ℕ) → k ≡ open_class.Namespace p o a → o ≡ None → class_of k ≡ tree.Class.namespace p a
namespace_alone_is k p o a h i = ap class_of h ∙ ap (λ q. class_of (open_class.Namespace p q a)) i ∙ class_namespace p a
