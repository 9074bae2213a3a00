-- Where each part of a class is named, the class is.
use Rattle.std.proofs.Common.{inl, inr, sym, subst, IsUtf8}
use Rattle.rng_model.specs.Texts.{Text}
use Rattle.rng_model.specs.Names.{Name, IsName}
use Rattle.rng_model.specs.Classes.{Class, any, any_except, namespace, namespace_except, one, either}
use Rattle.rng_model.specs.Universe.{NamesName, NamesSpace}
use Rattle.universe_laws.specs.Overlaps.{IsNameClass}
use Rattle.name_universe.specs.Named.{IsNamed}

names : (c : Class) → IsNamed c → (n : Name) → NamesName c n → IsName n
names any h n k = absurd k
names (any_except c) h n k = names c h n k
names (namespace u) h n k = absurd k
names (namespace_except u c) h n k = names c h.1 n k
names (one m) h n k = subst IsName (sym k) h
names (either a b) h n (inl k) = names a h.0 n k
names (either a b) h n (inr k) = names b h.1 n k

spaces : (c : Class) → IsNamed c → (u : Text) → NamesSpace c u → IsUtf8 u
spaces any h u k = absurd k
spaces (any_except c) h u k = spaces c h u k
spaces (namespace v) h u k = subst IsUtf8 (sym k) h
spaces (namespace_except v c) h u (inl k) = subst IsUtf8 (sym k) h.0
spaces (namespace_except v c) h u (inr k) = spaces c h.1 u k
spaces (one m) h u k = subst IsUtf8 (sym k) h.ns
spaces (either a b) h u (inl k) = spaces a h.0 u k
spaces (either a b) h u (inr k) = spaces b h.1 u k

pub named : (c : Class) → IsNamed c → IsNameClass c
named c h = record { names = names c h; spaces = spaces c h }
