-- Name classes are equal where their order is, and equal ones are hashed alike.
use Rattle.std.proofs.Common.{◌≡◌, Bool, true, IsTrue, ap}
use Rattle.std.specs.Hash as fed
use Rattle.std.specs.Prelude.{flat_map}
use Rattle.std.specs.Cmp.{IsEquivalence, on_equiv, eq_by_cmp_equiv}
use Rattle.std.specs.Ordering.{is_eq, on}
use Rattle.rng_model.specs.Classes.{Class, class_cmp}
use Rattle.rng_model.proofs.Orders.{class_order, class_cmp-same}
use Rattle.name_classes.specs.declared.class.NameClass.{NameClass}
use Rattle.name_classes.specs.contracts.part.PartHash.TheImpl.{hash_input-value}
use Rattle.name_classes.specs.NameOrder.{equal_is}
use Rattle.name_classes.specs.Parts.{parts_of}
use Rattle.name_classes.specs.Views.{class_of}

-- no order between them
abbrev pub class_eq : Class → Class → Bool
class_eq a b = is_eq (class_cmp a b)

pub class_equiv : IsEquivalence (on class_of class_eq)
class_equiv = on_equiv class_of (eq_by_cmp_equiv class_order)

-- what hashing a class feeds: what its parts feed, one after another
abbrev pub class_input : Class → fed.HashWrites
class_input c = flat_map hash_input-value.it (parts_of c)

pub class_eq-same : (a b : Class) → IsTrue (class_eq a b) → a ≡ b
class_eq-same a b h = class_cmp-same a b (equal_is (class_cmp a b) h)

pub class_eq-refl : (a : Class) → class_eq a a ≡ true
class_eq-refl a = (eq_by_cmp_equiv class_order).refl a

pub alike_inputs : (a b : NameClass) → IsTrue (class_eq (class_of a) (class_of b)) → class_input (class_of a) ≡ class_input (class_of b)
alike_inputs a b h = ap class_input (class_eq-same (class_of a) (class_of b) h)
